-- What a put leaves of an import, by its answer.
use Rattle.std.proofs.Common.{◌≡◌, ℕ, zero, suc, min, ◌+◌, ◌-◌, ◌^◌, ◌≤◌, List, [], ◌∷◌, ◌++◌, map, length, take, Some, Err, refl, sym, ap, ◌∙◌, subst, append_assoc, arith}
use Rattle.std.specs.Prelude.{IsTrue, slice_get}
use Rattle.std.proofs.lemmas.List.{append-nil, length-take-le}
use Rattle.std.proofs.lemmas.Option.{slice_get_within}
use Rattle.ss_device.specs.declared.disk.Disk.{Ghosts}
use Rattle.ss_car.specs.Car.{Section}
use Rattle.ss_model.specs.State.{State}
use Rattle.ss_model.specs.declared.call.Call.TheVariants as call
use Rattle.ss_model.specs.declared.call.Answer.TheVariants as answer
use Rattle.ss_model.specs.declared.call.ViewReply.{ViewReply}
use Rattle.ss_model.specs.declared.call.PutReply.{PutReply}
use Rattle.ss_model.specs.declared.call.PutReply.TheVariants as put
use Rattle.ss_model.specs.declared.call.Entry.{Entry}
use Rattle.ss_core.specs.declared.split_core.SplitCore.{SplitCore}
use Rattle.ss_core.specs.Calls.{Steps, Makes}
use Rattle.ss_core.specs.StandsFor.{Doubt, StandsFor}
use Rattle.ss_history.specs.Story.{Story}
use Rattle.ss_history.proofs.Stories.{story_more}
use Rattle.ss_import.specs.declared.fault.BlockFault.{BlockFault}
use Rattle.ss_import.specs.declared.fault.ImportFault.{ImportFault}
use Rattle.ss_import.specs.declared.fault.ImportFault.TheVariants as import
use Rattle.ss_import.specs.declared.importer.Importer.{Importer}
use Rattle.ss_import.specs.Import as spec
use Rattle.ss_import.specs.Import.{entry, pair_of, GoTogether, IsGroup, put_of, new_of, new_in, IsBlockFault, IsRefused, ArePuts, EndsPut, EndsAt, EndsPuts, no_memory, disk_fault, log_full, table_full, not_put, answered, refused_first, refused_ended}
use Rattle.ss_import.specs.Steps.{Putting, PutRefused, PutsEnded, Takes}
use Rattle.ss_import.proofs.Fronts.{front_of}
use Rattle.ss_import.proofs.Puts.{puts_more, puts_read, new_more}

abbrev pub opened : ℕ → Entry
opened v = entry call.OpenView (answer.View (ViewReply.Opened v))

count_more : (all was now new more top : ℕ) → was ≡ min all top → now ≡ min (was + new) top → more ≡ all + new → now ≡ min more top
count_more all was now new more top before is sum = omega (arith, before, is, sum)

-- no put ends an import for the length of a section
at_too_long : (v : ℕ) (group : List Section) (last : List Entry) (fault : ImportFault) → EndsAt v group last fault → fault ≡ import.TooLong → ⊥
at_too_long v group _ _ not_put is = cc
at_too_long v group _ _ (answered _ _ together no_memory) is = cc
at_too_long v group _ _ (answered _ _ together disk_fault) is = cc
at_too_long v group _ _ (answered _ _ together (log_full file need room)) is = cc
at_too_long v group _ _ (answered _ _ together (table_full rows)) is = cc

never_too_long : (v : ℕ) (left : List Section) (last : List Entry) (fault : ImportFault) → EndsPuts v left last fault → fault ≡ import.TooLong → ⊥
never_too_long v left _ _ (spec.EndsPuts.ended at) is = at_too_long v left _ _ at is
never_too_long v left _ _ (refused_first s bad reply r) is = cc
never_too_long v left _ _ (spec.EndsPuts.refused front s bad reply new r group) is = cc
never_too_long v left _ _ (refused_ended front s bad reply r some at) is = at_too_long v front _ _ at is

module _ {D : Type 0} {disk : Ghosts D} (was : D) where
  -- one put more, of a parcel that holds these sections
  pub story_put : (old new : SplitCore D disk) (v : ℕ) (puts : List Entry) (group : List Section) (parcel : List (List ℕ × List ℕ)) (reply : PutReply) → parcel ≡ map pair_of group
      → (IsTrue disk.told → (s : State) (doubt : Doubt) → StandsFor old s doubt → Steps old new s doubt (call.Put v parcel) (answer.Put reply)) → Makes old new (call.Put v parcel) (answer.Put reply)
      → Story was old (opened v ∷ puts) → Story was new (opened v ∷ (puts ++ put_of v group reply ∷ []))
  story_put old new v puts group parcel reply same told made story =
      subst (λ pairs. Story was new (opened v ∷ (puts ++ entry (call.Put v pairs) (answer.Put reply) ∷ []))) same
      (story_more was old new (opened v ∷ puts) (entry (call.Put v parcel) (answer.Put reply)) story told made)

  module _ (imp : Importer D disk) (sections left : List Section) (puts : List Entry) (are : ArePuts imp.view sections puts left) where
    -- the group was stored
    pub stored : (reply : PutReply) (n before : ℕ) → before ≡ min (new_in puts) (2 ^ 64 - 1) → reply ≡ put.Stored n → IsGroup left
        → Story was imp.core (opened imp.view ∷ (puts ++ put_of imp.view left reply ∷ [])) → imp.new_blocks ≡ min (before + n) (2 ^ 64 - 1) → Putting was imp sections []
    stored reply n before count is together story new = record {
      puts = puts ++ put_of imp.view left reply ∷ [];
      story = story;
      are_puts = subst (λ r. ArePuts imp.view sections (puts ++ put_of imp.view left r ∷ []) []) (sym is) (puts_more imp.view sections puts left left [] n are (sym (append-nil left)) together);
      new_is = count_more (new_in puts) before imp.new_blocks n (new_in (puts ++ put_of imp.view left reply ∷ [])) (2 ^ 64 - 1) count new
          (new_more puts (put_of imp.view left reply) ∙ ap (λ r. new_in puts + new_of (answer.Put r)) is);
    }

    -- one of its blocks is refused
    pub refused : (reply : PutReply) (i : ℕ) (s : Section) (fault : BlockFault) → IsGroup left → Story was imp.core (opened imp.view ∷ (puts ++ put_of imp.view left reply ∷ []))
        → slice_get left i ≡ Some s → IsBlockFault left i s fault reply → PutRefused was imp sections left i fault
    refused reply i s fault together story here blames =
        let f = front_of left i s here in
        let at : i ≡ length (take i left) = let within = slice_get_within left i s here in sym (length-take-le i left (omega (arith, within))) in record {
          puts = puts;
          front = take i left;
          s = s;
          reply = reply;
          story = story;
          are_puts = are;
          is_refused = record { rest = f.0; parts = f.1; is_group = together; blames = subst (λ k. IsBlockFault left k s fault reply) at blames };
          at = at;
        }

    -- the answer ends the import
    pub ended : (reply : PutReply) (fault : ImportFault) → EndsPut reply fault → IsGroup left → Story was imp.core (opened imp.view ∷ (puts ++ put_of imp.view left reply ∷ [])) → PutsEnded was imp sections fault
    ended reply fault is together story =
        record { left = left; puts = puts; last = put_of imp.view left reply ∷ []; story = story; are_puts = are; reason = spec.EndsPuts.ended (answered reply fault together is) }

  module _ (imp : Importer D disk) (sections left : List Section) (i : ℕ) (fault : BlockFault) (p : PutRefused was imp sections left i fault) where
    -- the block of the first section ends the import
    pub first_blocked : (offset : ℕ) → i ≡ 0 → offset ≡ p.s.offset → PutsEnded was imp sections (import.BadBlock fault offset)
    first_blocked offset first at = subst (λ n. PutsEnded was imp sections (import.BadBlock fault n)) (sym at) (record {
      left = left;
      puts = p.puts;
      last = put_of imp.view left p.reply ∷ [];
      story = p.story;
      are_puts = p.are_puts;
      reason = refused_first p.s fault p.reply (subst (λ l. IsRefused left l p.s fault p.reply) (none p.front (sym p.at ∙ first)) p.is_refused);
    })
      where
        none : (l : List Section) → length l ≡ 0 → l ≡ []
        none [] is = refl
        none (x ∷ l) is = absurd (let no : ⊥ = omega (arith, is) in no)

    some_before : (i ≡ 0 → ⊥) → 1 ≤ length p.front
    some_before later = by (length p.front) (λ is. later (p.at ∙ is))
      where
        by : (n : ℕ) → (n ≡ 0 → ⊥) → 1 ≤ n
        by zero some = absurd (some refl)
        by (suc n) some = omega arith

    -- memory ran out before the sections before it were put
    pub front_wanting : (i ≡ 0 → ⊥) → PutsEnded was imp sections import.NoMemory
    front_wanting later = record {
      left = left;
      puts = p.puts;
      last = put_of imp.view left p.reply ∷ [];
      story = p.story;
      are_puts = p.are_puts;
      reason = refused_ended p.front p.s fault p.reply p.is_refused (some_before later) not_put;
    }

    module _ (later : i ≡ 0 → ⊥) (together : GoTogether (map pair_of p.front)) (core : SplitCore D disk) (n : ℕ) (reply : PutReply)
        (story : Story was core (opened imp.view ∷ ((p.puts ++ put_of imp.view left p.reply ∷ []) ++ put_of imp.view p.front reply ∷ []))) where
      abbrev new : Importer D disk
      new = record imp { core = core; new_blocks = n }

      same_story : Story was core (opened imp.view ∷ (p.puts ++ put_of imp.view left p.reply ∷ put_of imp.view p.front reply ∷ []))
      same_story = subst (λ l. Story was core (opened imp.view ∷ l)) (append_assoc p.puts (put_of imp.view left p.reply ∷ []) (put_of imp.view p.front reply ∷ [])) story

      -- they were stored
      pub front_stored : (count offset : ℕ) → reply ≡ put.Stored count → offset ≡ p.s.offset → PutsEnded was new sections (import.BadBlock fault offset)
      front_stored count offset is at = subst (λ k. PutsEnded was new sections (import.BadBlock fault k)) (sym at) (record {
        left = left;
        puts = p.puts;
        last = put_of imp.view left p.reply ∷ put_of imp.view p.front reply ∷ [];
        story = same_story;
        are_puts = p.are_puts;
        reason = subst (λ r. EndsPuts imp.view left (put_of imp.view left p.reply ∷ put_of imp.view p.front r ∷ []) (import.BadBlock fault p.s.offset)) (sym is)
            (spec.EndsPuts.refused p.front p.s fault p.reply count p.is_refused (some_before later, together));
      })

      -- or their put ended the import
      pub front_ended : (why : ImportFault) → EndsPut reply why → PutsEnded was new sections why
      front_ended why is = record {
        left = left;
        puts = p.puts;
        last = put_of imp.view left p.reply ∷ put_of imp.view p.front reply ∷ [];
        story = same_story;
        are_puts = p.are_puts;
        reason = refused_ended p.front p.s fault p.reply p.is_refused (some_before later) (answered reply why (some_before later, together) is);
      }

  -- out of memory, where no put was made
  pub wanting : (imp : Importer D disk) (sections left : List Section) → Putting was imp sections left → PutsEnded was imp sections import.NoMemory
  wanting imp sections left p = record {
    left = left;
    puts = p.puts;
    last = [];
    story = subst (λ l. Story was imp.core (opened imp.view ∷ l)) (sym (append-nil p.puts)) p.story;
    are_puts = p.are_puts;
    reason = spec.EndsPuts.ended not_put;
  }

  -- a put ended the import as a section was taken
  pub takes_ended : (imp : Importer D disk) (sections : List Section) (s : Section) (end : ℕ) (fault : ImportFault) → PutsEnded was imp sections fault → Takes was imp sections s end (Err fault)
  takes_ended imp sections s end import.TooLong e = absurd (never_too_long imp.view e.left e.last import.TooLong e.reason refl)
  takes_ended imp sections s end import.NoMemory e = e
  takes_ended imp sections s end import.ReadFault e = e
  takes_ended imp sections s end import.DiskFault e = e
  takes_ended imp sections s end (import.BadCar fault offset) e = e
  takes_ended imp sections s end (import.BadBlock fault offset) e = e
  takes_ended imp sections s end (import.LogFull file need room) e = e
  takes_ended imp sections s end (import.TableFull rows) e = e
  takes_ended imp sections s end (import.BadHead reply) e = e

  -- one section more is in the group
  pub one_more : (old imp : Importer D disk) (sections left : List Section) (s : Section) → imp.core ≡ old.core → imp.view ≡ old.view → imp.new_blocks ≡ old.new_blocks → Putting was old sections left → Putting was imp (sections ++ s ∷ []) (left ++ s ∷ [])
  one_more old imp sections left s core viewed new p = record {
    puts = p.puts;
    story = subst (λ k. Story was k (opened imp.view ∷ p.puts)) (sym core) (subst (λ v. Story was old.core (opened v ∷ p.puts)) (sym viewed) p.story);
    are_puts = puts_read imp.view sections p.puts left (s ∷ []) (subst (λ v. ArePuts v sections p.puts left) (sym viewed) p.are_puts);
    new_is = new ∙ p.new_is;
  }

  -- the group alone changed
  pub regrouped : (old imp : Importer D disk) (sections left : List Section) → imp.core ≡ old.core → imp.view ≡ old.view → imp.new_blocks ≡ old.new_blocks → Putting was old sections left → Putting was imp sections left
  regrouped old imp sections left core viewed new p = record {
    puts = p.puts;
    story = subst (λ k. Story was k (opened imp.view ∷ p.puts)) (sym core) (subst (λ v. Story was old.core (opened v ∷ p.puts)) (sym viewed) p.story);
    are_puts = subst (λ v. ArePuts v sections p.puts left) (sym viewed) p.are_puts;
    new_is = new ∙ p.new_is;
  }
