-- The first two records of a file.
use Rattle.std.proofs.Common.{◌≡◌, ◌⊎◌, ⊎_elim, ℕ, ◌<◌, ◌≤◌, Bool, true, false, IsTrue, List, [], ◌∷◌, ◌++◌, length, refl, sym, ◌∙◌, ap, subst, arith, length-append}
use Rattle.std.specs.Prelude.{Ok, Option, Some, None, MatchBool}
use Rattle.ss_device.specs.declared.disk.Disk.{Ghosts}
use Rattle.ss_device.specs.Disk.{Same}
use Rattle.ss_device.specs.Calls.{Goes}
use Rattle.ss_gatelog.specs.Log.{longest_body, spelled}
use Rattle.ss_gatelog.specs.Gate.{Reader, HasLent}
use Rattle.ss_records.specs.declared.record.Config.{Config as Settings}
use Rattle.ss_records.specs.declared.record.Record.{Record}
use Rattle.ss_records.specs.declared.record.Record.TheVariants.{Config, Generation, Put, Dropped, Head, Base, Start, Cold, Sealed, Copied, Purged}
use Rattle.ss_records.specs.Record.{SettingsFit, spelling, Fits}
use Rattle.ss_records.specs.Fields.{read_record}
use Rattle.ss_records.proofs.Records.{read_again}
use Rattle.ss_hot.specs.declared.store.walk.Walk.{Walk}
use Rattle.ss_hot.specs.Half.{MayStand, settings_from}
use Rattle.ss_hot.specs.Half.{HasSettings, IsFaulty}
use Rattle.ss_hot.specs.Opening.{IsRead, IsMisfit}
use Rattle.ss_hot.proofs.Opened.{same_file, faulty_first, has_settings, two_lent}
use Rattle.ss_hot.proofs.Settings.{second_tells}
use Rattle.ss_hot.proofs.Sizes.{length-Generation, length-Config}

-- a record that stands as the first is a generation
first_tells : (r : Record) → MayStand 0 r → (n : ℕ) × (r ≡ Generation n)
first_tells (Config c) stands = absurd stands
first_tells (Generation n) stands = (n, refl)
first_tells (Put blocks) stands = absurd stands
first_tells (Dropped cids) stands = absurd stands
first_tells (Head height cids) stands = absurd stands
first_tells (Base base ended) stands = absurd stands
first_tells (Start edge cids) stands = absurd stands
first_tells (Cold cids) stands = absurd stands
first_tells (Sealed total) stands = absurd stands
first_tells (Copied up_to) stands = absurd stands
first_tells (Purged up_to) stands = absurd stands

module _ (file at : ℕ) (old new : Walk) (body : List ℕ) where
  pub first_size : old.count ≡ 0 → IsRead file at old body new → length body ≡ 9
  first_size none read =
      let generation = first_tells read.is (subst (λ (n : ℕ). MayStand n read.is) none read.in_place.may_stand) in
      ap (length {A = ℕ}) (read.spells ∙ ap spelling generation.1) ∙ length-Generation generation.0

  -- the settings that the second tells
  record Tells (read : IsRead file at old body new) : Type 0 where
    config : Settings
    is : read.is ≡ Config config
    told : new.config ≡ Some config

  second : old.count ≡ 1 → (read : IsRead file at old body new) → Tells read
  second one read =
      let tells = second_tells read.is (subst (λ (n : ℕ). MayStand n read.is) one read.in_place.may_stand) in
      record { config = tells.0; is = tells.1; told = read.enters.config ∙ ap (λ (r : Record). settings_from old.config (r ∷ [])) tells.1 }

  pub second_size : old.count ≡ 1 → IsRead file at old body new → length body ≡ 35
  second_size one read = let tells = second one read in ap (length {A = ℕ}) (read.spells ∙ ap spelling tells.is) ∙ length-Config tells.config

  pub second_reads : (config : Settings) → old.count ≡ 1 → IsRead file at old body new → new.config ≡ Some config → (read_record body ≡ Ok (Config config)) × SettingsFit config
  second_reads config one read found =
      let tells = second one read in
      let same : tells.config ≡ config = once tells.config config (sym tells.told ∙ found) in
      let is : read.is ≡ Config config = tells.is ∙ ap Config same in (
        ap read_record read.spells ∙ read_again read.is read.in_place.value read.in_place.fits ∙ ap Ok is,
        subst Fits is read.in_place.fits,
      )
    where
      once : (c d : Settings) → ◌≡◌ {A = Option Settings} (Some c) (Some d) → c ≡ d
      once c d same = cc

  -- where the second does not stand there, or tells none, its body spells none
  pub second_none : (b : Bool) (settings : Settings) → old.count ≡ 1 → MatchBool b (IsRead file at old body new) (IsMisfit old.count body) → (b ≡ false) ⊎ (new.config ≡ None) → read_record body ≡ Ok (Config settings) → ⊥
  second_none true settings one read why reads = ⊎_elim
      (λ not. let differ : ⊥ = cc (not) in differ)
      (λ none. let told : Some (second one read).config ≡ None = sym (second one read).told ∙ none in let differ : ⊥ = cc (told) in differ)
      why
  second_none false settings one misfit why reads = misfit (Config settings) reads (subst (λ (n : ℕ). MayStand n (Config settings)) (sym one) tt)

module _ {D : Type 0} (disk : Ghosts D) (was now : D) (reader : Reader) (file : ℕ) (told : IsTrue disk.told) (goes : Goes disk Same was now) (is : reader.file ≡ file) where
  -- what a reader lent, and a gate after it
  module _ (lent : List (List ℕ)) (has : HasLent disk now reader lent) where
    begins : disk.files was file ≡ spelled lent ++ has.leads.rest
    begins = sym (same_file disk was now reader file told goes is) ∙ has.leads.is

    gate : reader.at < reader.size → 0 < length has.leads.rest
    gate inside = omega (arith, inside, has.size, has.leads.place, ap (length {A = ℕ}) has.leads.is, length-append (spelled lent) has.leads.rest)

  pub two_commit : (first second : List ℕ) (settings : Settings) → HasLent disk now reader (first ∷ second ∷ []) → reader.at < reader.size → read_record second ≡ Ok (Config settings) → HasSettings (disk.files was file) settings
  two_commit first second settings has inside reads =
      has_settings (disk.files was file) first second has.leads.rest settings (begins (first ∷ second ∷ []) has) (gate (first ∷ second ∷ []) has inside) has.leads.bodies reads

  pub two_read : (first second : List ℕ) (settings : Settings) → HasLent disk now reader (first ∷ second ∷ []) → HasSettings (disk.files was file) settings → read_record second ≡ Ok (Config settings)
  two_read first second settings has committed =
      ap read_record (two_lent (disk.files was file) settings committed first second has.leads.rest (begins (first ∷ second ∷ []) has) has.leads.bodies) ∙ committed.reads

  pub first_misfit : (limit : ℕ) (first : List ℕ) → HasLent disk now reader (first ∷ []) → reader.at < reader.size → length first ≤ longest_body → 0 < limit → IsMisfit 0 first → IsFaulty limit (disk.files was file) 0
  first_misfit limit first has inside short some misfit =
      faulty_first limit (disk.files was file) first has.leads.rest (begins (first ∷ []) has) (gate (first ∷ []) has inside) short some misfit
