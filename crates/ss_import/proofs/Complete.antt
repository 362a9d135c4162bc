-- An import that nothing stands in the way of comes to its end, or runs out of memory.
use Rattle.std.proofs.Common.{◌≡◌, ◌⊎◌, inl, inr, ⊎_elim, ℕ, zero, suc, ◌+◌, ◌<◌, ◌≤◌, Bool, true, false, ◌||◌, List, [], ◌∷◌, ◌++◌, map, length, Option, Some, None, Result, Ok, Err, refl, sym, ap, ◌∙◌, subst, arith, append_assoc, length-append, true≢false}
use Rattle.std.specs.Option.{option_or}
use Rattle.std.specs.Prelude.{IsOk, option_map, if◌then◌else◌}
use Rattle.std.specs.List.{list_any}
use Rattle.std.specs.FinMap as finite_map
use Rattle.std.proofs.lemmas.List.{append-nil, map-append}
use Rattle.ss_car.specs.Car.{Section, IsCar, StartFault}
use Rattle.ss_car.specs.declared.fault.CarRefusal.{CarRefusal}
use Rattle.ss_car.proofs.Readings.{start-none}
use Rattle.ss_car.proofs.Sections.{car-one, car-split}
use Rattle.ss_chain.specs.Tipset.{fault_in, tipset_of}
use Rattle.ss_model.specs.State.{State, Kept}
use Rattle.ss_model.specs.Head.{IsHead, head_refusal, answer_of, blocks_of}
use Rattle.ss_model.specs.Lawful.{LawfulHead, After, is_disk_fault, AreSound, IsSound, IsSmall, with_blocks, put_bytes, length_of}
use Rattle.ss_model.specs.Lawful.{Legal, AfterAll}
use Rattle.ss_model.specs.declared.TheConstants.{PUT_BYTES}
use Rattle.ss_model.specs.declared.call.Call.TheVariants as call
use Rattle.ss_model.specs.declared.call.Answer.TheVariants as answer
use Rattle.ss_model.specs.declared.call.ViewReply.{ViewReply}
use Rattle.ss_model.specs.declared.call.PutReply.{PutReply}
use Rattle.ss_model.specs.declared.call.PutReply.TheVariants as put
use Rattle.ss_model.specs.declared.call.HeadReply.{HeadReply}
use Rattle.ss_model.specs.declared.call.HeadReply.TheVariants as head
use Rattle.ss_model.specs.declared.call.Entry.{Entry}
use Rattle.ss_history.specs.Story.{HavePlace, faults_in, is_refused}
use Rattle.ss_history.proofs.Stories.{faults_more}
use Rattle.ss_history.proofs.Fulfilled.{fulfilled}
use Rattle.ss_import.specs.declared.fault.BlockFault.{BlockFault}
use Rattle.ss_import.specs.declared.fault.BlockFault.TheVariants as block
use Rattle.ss_import.specs.declared.fault.ImportFault.{ImportFault}
use Rattle.ss_import.specs.declared.fault.ImportFault.TheVariants as import
use Rattle.ss_import.specs.declared.importer.Imported.{Imported}
use Rattle.ss_import.specs.Import as spec
use Rattle.ss_import.specs.Import.{pair_of, ArePuts, put_of, IsRefused, IsLastHead, AreRead, IsWhole, EndsPut, EndsPuts, EndsReading, EndsHead, IsBlockFault, IsImport, IsImportable, IsFull, entries_of, no_memory, disk_fault, log_full, table_full, not_put, answered, refused_first, refused_ended}
use Rattle.ss_import.proofs.Kept.{AreSmall, HasStored, puts_keep, blocks_small}
use Rattle.ss_import.proofs.Putting.{opened}
use Rattle.ss_import.proofs.Unsound.{not_unknown, not_mismatch, not_malformed}

-- ---- lists

any_last : (f : Entry → Bool) (h : List Entry) (e : Entry) → f e ≡ true → list_any f (h ++ e ∷ []) ≡ true
any_last f [] e is = ap (λ b. b || false) is
any_last f (x ∷ h) e is = ap (λ b. f x || b) (any_last f h e is) ∙ either (f x)
  where
    either : (b : Bool) → (b || true) ≡ true
    either true = refl
    either false = refl

legal_behind : (s : State) (a b : List Entry) → Legal s (a ++ b) → Legal (AfterAll s a) b
legal_behind s [] b legal = legal
legal_behind s (e ∷ a) b legal = legal_behind (After s e.call e.answer) a b legal.1

sound_at : (xs ys : List (List ℕ × List ℕ)) (p : List ℕ × List ℕ) → AreSound (xs ++ p ∷ ys) → IsSound p
sound_at [] ys p sound = sound 0 p (omega arith) refl
sound_at (x ∷ xs) ys p sound = sound_at xs ys p (λ k q within at. sound (suc k) q (omega (arith, within)) at)

sound_front : (xs ys : List (List ℕ × List ℕ)) → AreSound (xs ++ ys) → AreSound xs
sound_front [] ys sound k q within at = absurd (let no : ⊥ = omega (arith, within) in no)
sound_front (x ∷ xs) ys sound zero q within at = sound zero q (omega arith) at
sound_front (x ∷ xs) ys sound (suc k) q within at = sound_front xs ys (λ j r inside is. sound (suc j) r (omega (arith, inside)) is) k q (omega (arith, within)) at

-- what cannot be both
differ : {A : Type 0} {x : A} → Some x ≡ None → ⊥
differ e = cc

-- ---- blocks

-- a block that is kept is no longer than a block may be
kept_short : (found : Option (List ℕ)) (c : List ℕ) → length c ≤ 8388608 → ((b : List ℕ) → found ≡ Some b → IsSmall (c, b)) → length c + length_of found ≤ 8388608
kept_short None c short small = omega (arith, short)
kept_short (Some b) c short small = small b refl

-- one pair that is no longer than a block may be is not too big
not_big : (kept : Kept) (p : List ℕ × List ℕ) → AreSmall kept → IsSmall p → PUT_BYTES < put_bytes kept (p ∷ []) → ⊥
not_big kept p small is big = let short = kept_short (finite_map.get kept p.0) p.0 (omega (arith, is)) (λ b found. small p.0 b found) in omega (arith, short, is, big)

-- ---- heads

no_refusal : (kept : Kept) (cids : List (List ℕ)) (height : ℕ) → IsHead kept cids height → head_refusal kept cids ≡ None
no_refusal kept cids height is = ap (λ r. option_or r (option_map answer_of (fault_in (tipset_of (blocks_of kept cids))))) is.known ∙ ap (λ r. option_map answer_of (fault_in r)) is.tipset

-- a refusal of a head that is lawful is one that the blocks decide
refused_lawfully : (s : State) (cids : List (List ℕ)) (height : ℕ) (reply : HeadReply) → IsHead s.kept cids height → LawfulHead s cids reply → EndsHead reply (import.BadHead reply) → ⊥
refused_lawfully s cids height head.Empty is lawful ends = differ (sym lawful ∙ no_refusal s.kept cids height is)
refused_lawfully s cids height (head.TooMany n) is lawful ends = differ (sym lawful ∙ no_refusal s.kept cids height is)
refused_lawfully s cids height (head.Repeated i) is lawful ends = differ (sym lawful ∙ no_refusal s.kept cids height is)
refused_lawfully s cids height (head.Absent i) is lawful ends = differ (sym lawful ∙ no_refusal s.kept cids height is)
refused_lawfully s cids height (head.NotHeader i) is lawful ends = differ (sym lawful ∙ no_refusal s.kept cids height is)
refused_lawfully s cids height (head.HeightDiffers i) is lawful ends = differ (sym lawful ∙ no_refusal s.kept cids height is)
refused_lawfully s cids height (head.ParentsDiffer i) is lawful ends = differ (sym lawful ∙ no_refusal s.kept cids height is)
refused_lawfully s cids height head.NoMemory is lawful ends = absurd (cc (ends))
refused_lawfully s cids height head.DiskFault is lawful ends = absurd (cc (ends))
refused_lawfully s cids height (head.LogFull file need room) is lawful ends = absurd (cc (ends))
refused_lawfully s cids height (head.Set n) is lawful ends = ends

-- ---- an import

module _ (wants : Bool) (bytes : List ℕ) (roots : List (List ℕ)) (sections : List Section) (s : State) (fine : IsImportable wants bytes roots sections s) (small : AreSmall s.kept)
    (v : ℕ) (these : List (List ℕ)) (read left : List Section) (puts last : List Entry) (are_puts : ArePuts v read puts left) (is_read : AreRead (Some bytes) these read)
    (legal : Legal s (opened v ∷ (puts ++ last))) (none : faults_in (opened v ∷ (puts ++ last)) ≡ 0) where
  abbrev begun : State
  begun = After s call.OpenView (answer.View (ViewReply.Opened v))

  -- the sections that were read are the first of all
  first : (more : List Section) × (sections ≡ read ++ more)
  first = ⊎_elim (λ nothing. (sections, ap (λ l. l ++ sections) (sym nothing))) (λ told. let b = (told bytes refl).2 in (car-split b.front b.rest these roots read sections None b.is_car (subst (λ l. IsCar l roots sections None) b.spelled fine.car)).1) is_read

  stored : HasStored s.kept (AfterAll begun puts).kept read left
  stored = puts_keep begun v read puts left are_puts

  pairs_are : map pair_of sections ≡ map pair_of read ++ map pair_of first.0
  pairs_are = ap (map pair_of) first.1 ∙ map-append pair_of read first.0

  sound_read : AreSound (map pair_of read)
  sound_read = sound_front (map pair_of read) (map pair_of first.0) (subst AreSound pairs_are fine.sound)

  -- no entry is a fault of the disk
  never : (h : List Entry) (e : Entry) → last ≡ h ++ e ∷ [] → is_disk_fault e.answer ≡ true → ⊥
  never h e is wrong =
      let all = faults_more (opened v ∷ (puts ++ h)) e ∙ ap (λ b. faults_in (opened v ∷ (puts ++ h)) + (if b then 1 else 0)) wrong in
      omega (arith, all, none, ap (λ l. faults_in (opened v ∷ l)) (ap (λ l. puts ++ l) is ∙ sym (append_assoc puts h (e ∷ []))))

  -- no put of what is left is refused for a block
  bad_block : (front : List Section) (x : Section) (fault : BlockFault) (reply : PutReply) (later : List Entry) → IsRefused left front x fault reply → last ≡ put_of v left reply ∷ later → ⊥
  bad_block front x fault reply later r is = by fault r.blames
    where
      parts : read ≡ (stored.stored ++ front) ++ x ∷ r.rest
      parts = stored.parts ∙ ap (λ l. stored.stored ++ l) r.parts ∙ sym (append_assoc stored.stored front (x ∷ r.rest))

      sound : IsSound (pair_of x)
      sound = sound_at (map pair_of (stored.stored ++ front)) (map pair_of r.rest) (pair_of x) (subst AreSound (ap (map pair_of) parts ∙ map-append pair_of (stored.stored ++ front) (x ∷ r.rest)) sound_read)

      short : AreSmall (AfterAll begun puts).kept
      short = subst AreSmall (sym stored.kept_is) (blocks_small s.kept (map pair_of stored.stored) small (sound_front (map pair_of stored.stored) (map pair_of left) (subst AreSound (ap (map pair_of) stored.parts ∙ map-append pair_of stored.stored left) sound_read)))

      by : (f : BlockFault) → IsBlockFault left (length front) x f reply → ⊥
      by block.UnknownHash b = not_unknown (pair_of x) sound (length front) (length front) b.1
      by block.Mismatch b = not_mismatch (pair_of x) sound (length front) (length front) b.1
      by block.Malformed b = not_malformed (pair_of x) sound (length front) (length front) b.0 b.1 b.3
      by block.TooLarge b =
          let alone : last ≡ put_of v (x ∷ []) (put.TooBig b.1) ∷ later = is ∙ ap (λ l. put_of v l reply ∷ later) b.0 ∙ ap (λ r. put_of v (x ∷ []) r ∷ later) b.2 in
          let there = subst (Legal (AfterAll begun puts)) alone (legal_behind begun puts last legal.1) in
          not_big (AfterAll begun puts).kept (pair_of x) short sound.small there.0.2

  answer_ends : (h : List Entry) (group : List Section) (reply : PutReply) (fault : ImportFault) → EndsPut reply fault → last ≡ h ++ put_of v group reply ∷ [] → (fault ≡ import.NoMemory) ⊎ IsFull fault
  answer_ends h group _ _ no_memory is = inl refl
  answer_ends h group _ _ disk_fault is = absurd (never h _ is refl)
  answer_ends h group _ _ (log_full file need room) is = inr tt
  answer_ends h group _ _ (table_full rows) is = inr tt

  put_ends : (l : List Entry) (fault : ImportFault) → last ≡ l → EndsPuts v left l fault → (fault ≡ import.NoMemory) ⊎ IsFull fault
  put_ends _ _ is (spec.EndsPuts.ended not_put) = inl refl
  put_ends _ _ is (spec.EndsPuts.ended (answered reply fault together ends)) = answer_ends [] left reply fault ends is
  put_ends _ _ is (refused_first x bad reply r) = absurd (bad_block [] x bad reply [] r is)
  put_ends _ _ is (spec.EndsPuts.refused front x bad reply new r group) = absurd (bad_block front x bad reply _ r is)
  put_ends _ _ is (refused_ended front x bad reply r some at) = absurd (bad_block front x bad reply _ r is)

  car_ends : (fault : ImportFault) → (fault ≡ import.ReadFault → ⊥) → EndsReading (Some bytes) these read left fault → fault ≡ import.NoMemory
  car_ends import.NoMemory read_on ends = refl
  car_ends import.ReadFault read_on ends = absurd (read_on refl)
  car_ends (import.BadCar fault offset) read_on ends = absurd (⊎_elim
      (λ told. let differ : None ≡ Some _ = (car-one bytes roots these sections read None _ fine.car (told bytes refl)).2 in let no : ⊥ = cc (differ) in no)
      (λ start. start-none fine.car.start fine.car.rest roots fault fine.car.is_start (subst (λ l. StartFault l fault) fine.car.spelled (start.2 bytes refl)))
      ends.2)
  car_ends import.TooLong read_on ends =
      let b = ends.4 bytes refl in
      absurd (let no : ⊥ = omega (arith, ends.3, b.end_is, ap length b.spelled, length-append b.front b.rest, fine.short) in no)
  car_ends import.DiskFault read_on ends = absurd ends
  car_ends (import.LogFull file need room) read_on ends = absurd ends
  car_ends (import.TableFull rows) read_on ends = absurd ends
  car_ends (import.BadBlock fault offset) read_on ends = absurd ends
  car_ends (import.BadHead reply) read_on ends = absurd ends

  head_ends : (fault : ImportFault) (reply : HeadReply) → wants ≡ true → left ≡ [] → IsWhole (Some bytes) these read → IsLastHead these last reply → EndsHead reply fault → (fault ≡ import.NoMemory) ⊎ IsFull fault
  head_ends fault reply wanted all whole heads ends = by reply refl ends
    where
      same : (these ≡ roots) × (read ≡ sections) × (◌≡◌ {A = Option CarRefusal} None None)
      same = car-one bytes these roots read sections None None (whole bytes refl).1 fine.car

      mine : IsLastHead roots last reply
      mine = subst (λ r. IsLastHead r last reply) same.0 heads

      kept : (AfterAll begun puts).kept ≡ with_blocks s.kept (map pair_of sections)
      kept = stored.kept_is ∙ ap (λ l. with_blocks s.kept (map pair_of l)) (sym (stored.parts ∙ ap (λ l. stored.stored ++ l) all ∙ append-nil stored.stored) ∙ same.1)

      height : (height : ℕ) × IsHead (AfterAll begun puts).kept roots height
      height = let h = fine.head wanted in (h.0, subst (λ k. IsHead k roots h.0) (sym kept) h.1)

      there : LawfulHead (AfterAll begun puts) roots reply
      there = (subst (Legal (AfterAll begun puts)) mine (legal_behind begun puts last legal.1)).0

      refused : EndsHead reply (import.BadHead reply) → ⊥
      refused is = refused_lawfully (AfterAll begun puts) roots height.0 reply height.1 there is

      by : (r : HeadReply) → r ≡ reply → EndsHead r fault → (fault ≡ import.NoMemory) ⊎ IsFull fault
      by head.NoMemory is e = inl e
      by head.DiskFault is e = absurd (never [] _ mine (ap (λ r. is_disk_fault (answer.Head r)) (sym is)))
      by (head.LogFull file need room) is e = inr (subst IsFull (sym e) tt)
      by (head.Set n) is e = absurd e
      by head.Empty is e = absurd (refused (subst (λ r. EndsHead r (import.BadHead r)) is refl))
      by (head.TooMany n) is e = absurd (refused (subst (λ r. EndsHead r (import.BadHead r)) is refl))
      by (head.Repeated i) is e = absurd (refused (subst (λ r. EndsHead r (import.BadHead r)) is refl))
      by (head.Absent i) is e = absurd (refused (subst (λ r. EndsHead r (import.BadHead r)) is refl))
      by (head.NotHeader i) is e = absurd (refused (subst (λ r. EndsHead r (import.BadHead r)) is refl))
      by (head.HeightDiffers i) is e = absurd (refused (subst (λ r. EndsHead r (import.BadHead r)) is refl))
      by (head.ParentsDiffer i) is e = absurd (refused (subst (λ r. EndsHead r (import.BadHead r)) is refl))

pub complete : (Did : List Entry → Type 0) (wants : Bool) (bytes : List ℕ) (roots : List (List ℕ)) (sections : List Section) (s : State) (result : Result Imported ImportFault) (i : IsImport Did wants (Some bytes) result)
    → IsImportable wants bytes roots sections s → AreSmall s.kept → Legal s (entries_of i) → faults_in (entries_of i) ≡ 0 → (result ≡ Err import.ReadFault → ⊥)
    → IsOk result ⊎ ((fault : ImportFault) × (result ≡ Err fault) × ((fault ≡ import.NoMemory) ⊎ IsFull fault))
complete Did wants bytes roots sections s (Ok done) i fine small legal none read_on = inl refl
complete Did wants bytes roots sections s (Err fault) i fine small legal none read_on = inr (
  fault,
  refl,
  ⊎_elim
      (λ ends. put_ends wants bytes roots sections s fine small i.view i.roots i.sections i.left i.puts i.last i.are_puts i.read legal none i.last fault refl ends)
      (⊎_elim
      (λ reading. inl (car_ends wants bytes roots sections s fine small i.view i.roots i.sections i.left i.puts i.last i.are_puts i.read legal none fault (λ is. read_on (ap Err is)) reading.1))
      (λ h. head_ends wants bytes roots sections s fine small i.view i.roots i.sections i.left i.puts i.last i.are_puts i.read legal none fault h.3 h.0 h.1 h.2 h.4 h.5))
      i.reason,
)

-- ---- no record needs more than its room, and there are rows

module _ (Did : List Entry → Type 0) (wants : Bool) (input : Option (List ℕ)) (s : State) (fault : ImportFault) (i : IsImport Did wants input (Err fault)) (legal : Legal s (entries_of i)) (place : HavePlace s (entries_of i)) (none : faults_in (entries_of i) ≡ 0) where
  refused_none : (h : List Entry) (e : Entry) → i.last ≡ h ++ e ∷ [] → is_refused e ≡ true → ⊥
  refused_none h e is wrong =
      let all : entries_of i ≡ (opened i.view ∷ (i.puts ++ h)) ++ e ∷ [] = ap (λ l. opened i.view ∷ l) (ap (λ l. i.puts ++ l) is ∙ sym (append_assoc i.puts h (e ∷ []))) in
      true≢false (sym (any_last is_refused (opened i.view ∷ (i.puts ++ h)) e wrong) ∙ ap (list_any is_refused) (sym all) ∙ fulfilled s (entries_of i) legal place none)

  by_answer : (h : List Entry) (group : List Section) (reply : PutReply) (f : ImportFault) → IsFull f → EndsPut reply f → i.last ≡ h ++ put_of i.view group reply ∷ [] → ⊥
  by_answer h group _ _ full no_memory is = full
  by_answer h group _ _ full disk_fault is = full
  by_answer h group _ _ full (log_full file need room) is = refused_none h _ is refl
  by_answer h group _ _ full (table_full rows) is = refused_none h _ is refl

  by_put : (l : List Entry) (f : ImportFault) → i.last ≡ l → IsFull f → EndsPuts i.view i.left l f → ⊥
  by_put _ _ is full (spec.EndsPuts.ended not_put) = full
  by_put _ _ is full (spec.EndsPuts.ended (answered reply f together ends)) = by_answer [] i.left reply f full ends is
  by_put _ _ is full (refused_first x bad reply r) = full
  by_put _ _ is full (spec.EndsPuts.refused front x bad reply new r group) = full
  by_put _ _ is full (refused_ended front x bad reply r some not_put) = full
  by_put _ _ is full (refused_ended front x bad reply r some (answered other f together ends)) = by_answer (put_of i.view i.left reply ∷ []) front other f full ends is

  by_reading : (f : ImportFault) → IsFull f → EndsReading input i.roots i.sections i.left f → ⊥
  by_reading (import.LogFull file need room) is ends = ends
  by_reading (import.TableFull rows) is ends = ends
  by_reading import.NoMemory is ends = is
  by_reading import.ReadFault is ends = is
  by_reading import.DiskFault is ends = is
  by_reading (import.BadCar f offset) is ends = is
  by_reading (import.BadBlock f offset) is ends = is
  by_reading import.TooLong is ends = is
  by_reading (import.BadHead reply) is ends = is

  by_head : (reply : HeadReply) → IsLastHead i.roots i.last reply → EndsHead reply fault → IsFull fault → ⊥
  by_head head.NoMemory last is full = subst IsFull is full
  by_head head.DiskFault last is full = subst IsFull is full
  by_head (head.LogFull file need room) last is full = refused_none [] _ last refl
  by_head (head.Set height) last is full = is
  by_head head.Empty last is full = subst IsFull is full
  by_head (head.TooMany n) last is full = subst IsFull is full
  by_head (head.Repeated k) last is full = subst IsFull is full
  by_head (head.Absent k) last is full = subst IsFull is full
  by_head (head.NotHeader k) last is full = subst IsFull is full
  by_head (head.HeightDiffers k) last is full = subst IsFull is full
  by_head (head.ParentsDiffer k) last is full = subst IsFull is full

  -- neither a log nor the table ends the import
  pub not_full : IsFull fault → ⊥
  not_full full = ⊎_elim (by_put i.last fault refl full) (⊎_elim (λ reading. by_reading fault full reading.1) (λ h. by_head h.3 h.4 h.5 full)) i.reason
