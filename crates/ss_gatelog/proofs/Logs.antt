-- What synced writes do to the images of a log.
use Rattle.std.proofs.Common.{◌≡◌, ◌≢◌, inl, inr, ⊎_elim, ℕ, ◌+◌, ◌<◌, ◌≤◌, ◌^◌, Bool, true, false, true≢false, IsTrue, List, [], ◌∷◌, ◌++◌, length, refl, sym, ◌∙◌, ap, subst, arith}
use Rattle.std.specs.Prelude.{slice_range, MatchBool, Result, Ok, Err, OnOk, OnErr}
use Rattle.std.proofs.lemmas.Bool.Decides.{when_true, when_false}
use Rattle.ss_device.specs.declared.disk.Disk.{Ghosts}
use Rattle.ss_device.specs.Disk.{Files, Holds, Torn, Same, Changes, Evolves, Rose}
use Rattle.ss_device.specs.Calls.{Goes, Touches, Leaves}
use Rattle.ss_device.proofs.Moments.{now_from}
use Rattle.ss_device.proofs.Moments as moments
use Rattle.ss_device.proofs.Goes.{widens, leaves, leaves_on, leaves_none, touches_none}
use Rattle.ss_gatelog.specs.Log.{open_gate, longest_body, length_bytes, spelled, AreBodies, Spells, IsShort, InDoubt, HasList, HasRecords}
use Rattle.ss_gatelog.specs.GateLog.{Log, IsSure, IsDoubted, Stands, HasEither, Settled, KeepsSettled, Opens}
use Rattle.ss_gatelog.proofs.Bytes.{length_bytes-injective}
use Rattle.ss_gatelog.proofs.Steps.{Staged, bodies_push, length-spelled-push, spells_behind, staged, staged_doubt, staged_opened, doubt_again, doubt_closed, doubt_either, restart_doubt, emptied, short_stays, has_list, length-spelled-at, length_at}

module _ {D : Type 0} (disk : Ghosts D) where
  -- a synced write went by any bytes of its range, and after it each image holds these
  abbrev pub Wrote : ℕ → ℕ → ℕ → D → D → Type 0
  Wrote file at n old new = Evolves (disk.moment old) (disk.image old) (disk.moment new) (disk.image new) (Changes file (Torn at n))

  abbrev pub Durable : ℕ → ℕ → List ℕ → D → D → Type 0
  Durable file at bytes old new = (left : Files) → disk.image new (disk.moment new) left → Holds at bytes (disk.files old file) (left file)

  now : (file at n : ℕ) (old new : D) → Wrote file at n old new → (left : Files) → disk.image new (disk.moment new) left → (was : Files) × disk.image old (disk.moment old) was × Torn at n (was file) (left file)
  now file at n old new wrote left image = let from = now_from _ _ _ _ _ wrote left image in (from.0, from.1, from.2.here)

  module _ (log : Log) (records : List (List ℕ)) (body : List ℕ) where
    -- a write behind the closed gate, of any outcome
    pub behind_sure : (n : ℕ) (old new : D) → IsSure disk old log records → Wrote log.file (log.end + 1) n old new → IsSure disk new log records
    behind_sure n old new sure wrote = record {
      each = λ left image. let from = now log.file (log.end + 1) n old new wrote left image in spells_behind records log.end sure.end n (from.0 log.file) (left log.file) (sure.each from.0 from.1) from.2;
      end = sure.end;
      bodies = sure.bodies;
    }

    pub behind_leaves : (n : ℕ) (old new : D) → log.end < log.limit → IsSure disk old log records → Wrote log.file (log.end + 1) n old new → Leaves disk log.file (HasEither log.limit records (records ++ body ∷ [])) old new
    behind_leaves n old new within sure wrote = leaves disk log.file (Torn (log.end + 1) n) (HasEither log.limit records (records ++ body ∷ [])) old new wrote
        (λ was bytes image torn. inl (has_list log.limit records bytes sure.bodies (omega (arith, sure.end)) (spells_behind records log.end sure.end n (was log.file) bytes (sure.each was image) torn)))

    abbrev frame : List ℕ
    frame = length_bytes (length body) ++ (body ++ 0 ∷ [])

    pub behind_staged : (old new : D) → disk.image old (disk.moment old) (disk.files old) → IsSure disk old log records → Durable log.file (log.end + 1) frame old new → (left : Files) → disk.image new (disk.moment new) left → Staged records body (left log.file)
    behind_staged old new reads sure durable left image = staged records log.end sure.end body (disk.files old log.file) (left log.file) (sure.each (disk.files old) reads) (durable left image)

    -- then the write of the gate
    module _ (old new : D) (place : log.end ≡ length (spelled records)) (bodies : AreBodies records) (short : length body ≤ longest_body) (within : log.end + 5 + length body < log.limit)
        (stages : (left : Files) → disk.image old (disk.moment old) left → Staged records body (left log.file)) (wrote : Wrote log.file log.end 1 old new) where
      size : length (spelled (records ++ body ∷ [])) ≡ log.end + 5 + length body
      size = omega (arith, length-spelled-push records body, place)

      pub gate_doubt : IsDoubted disk new (record { file = log.file; limit = log.limit; end = log.end; unsure = true }) records (records ++ body ∷ [])
      gate_doubt = record {
        each = λ left image. let from = now log.file log.end 1 old new wrote left image in staged_doubt records log.end place body (from.0 log.file) (left log.file) (stages from.0 from.1) from.2;
        end = place;
        bodies = bodies;
        more_bodies = bodies_push records body bodies short;
        more_within = omega (arith, size, within);
      }

      pub gate_leaves : Leaves disk log.file (HasEither log.limit records (records ++ body ∷ [])) old new
      gate_leaves = leaves disk log.file (Torn log.end 1) (HasEither log.limit records (records ++ body ∷ [])) old new wrote
          (λ was bytes image torn. ⊎_elim
          (λ first. inl (has_list log.limit records bytes bodies (omega (arith, within, place)) first))
          (λ more. inr (has_list log.limit (records ++ body ∷ []) bytes (bodies_push records body bodies short) (omega (arith, size, within)) more))
          (doubt_either records (records ++ body ∷ []) bytes (staged_doubt records log.end place body (was log.file) bytes (stages was image) torn)))

      pub gate_opened : disk.image old (disk.moment old) (disk.files old) → Durable log.file log.end (open_gate ∷ []) old new → IsSure disk new (record { file = log.file; limit = log.limit; end = log.end + 5 + length body; unsure = false }) (records ++ body ∷ [])
      gate_opened reads durable = record {
        each = λ left image. staged_opened records log.end place body (disk.files old log.file) (left log.file) (stages (disk.files old) reads) (durable left image);
        end = sym size;
        bodies = bodies_push records body bodies short;
      }

    -- both writes of an append
    module _ (old mid new : D) (bytes : List ℕ) (sealed : bytes ≡ frame) (sure : IsSure disk old log records) (reads : disk.image old (disk.moment old) (disk.files old)) (short : length body ≤ longest_body)
        (within : log.end + 5 + length body < log.limit) (first : Wrote log.file (log.end + 1) (length bytes) old mid) (durable : Durable log.file (log.end + 1) bytes old mid) (second : Wrote log.file log.end 1 mid new) where
      stages : (left : Files) → disk.image mid (disk.moment mid) left → Staged records body (left log.file)
      stages = behind_staged old mid reads sure (subst (λ (b : List ℕ). Durable log.file (log.end + 1) b old mid) sealed durable)

      pub append_doubt : IsDoubted disk new (record { file = log.file; limit = log.limit; end = log.end; unsure = true }) records (records ++ body ∷ [])
      append_doubt = gate_doubt mid new sure.end sure.bodies short within stages second

      pub append_leaves : Leaves disk log.file (HasEither log.limit records (records ++ body ∷ [])) old new
      append_leaves = leaves_on disk log.file (HasEither log.limit records (records ++ body ∷ [])) old mid new (behind_leaves (length bytes) old mid (omega (arith, within)) sure first) (gate_leaves mid new sure.end sure.bodies short within stages second)

      pub append_opened : disk.image mid (disk.moment mid) (disk.files mid) → Durable log.file log.end (open_gate ∷ []) mid new → IsSure disk new (record { file = log.file; limit = log.limit; end = log.end + 5 + length body; unsure = false }) (records ++ body ∷ [])
      append_opened reads' opened = gate_opened mid new sure.end sure.bodies short within stages second reads' opened

  -- a write of the gate in doubt
  module _ (log : Log) (front more : List (List ℕ)) (old new : D) (doubt : IsDoubted disk old log front more) (wrote : Wrote log.file log.end 1 old new) where
    pub still_doubt : IsDoubted disk new log front more
    still_doubt = record {
      each = λ left image. let from = now log.file log.end 1 old new wrote left image in doubt_again front log.end doubt.end more (from.0 log.file) (left log.file) (doubt.each from.0 from.1) from.2;
      end = doubt.end;
      bodies = doubt.bodies;
      more_bodies = doubt.more_bodies;
      more_within = doubt.more_within;
    }

    pub doubt_leaves : log.end < log.limit → Leaves disk log.file (HasEither log.limit front more) old new
    doubt_leaves within = leaves disk log.file (Torn log.end 1) (HasEither log.limit front more) old new wrote
        (λ was bytes image torn. ⊎_elim
        (λ first. inl (has_list log.limit front bytes doubt.bodies (omega (arith, within, doubt.end)) first))
        (λ second. inr (has_list log.limit more bytes doubt.more_bodies doubt.more_within second))
        (doubt_either front more bytes (doubt_again front log.end doubt.end more (was log.file) bytes (doubt.each was image) torn)))

    pub doubt_settled : disk.image old (disk.moment old) (disk.files old) → Durable log.file log.end (0 ∷ []) old new → (left : Files) → disk.image new (disk.moment new) left → Spells front (left log.file)
    doubt_settled reads durable left image = doubt_closed front log.end doubt.end more (disk.files old log.file) (left log.file) (doubt.each (disk.files old) reads) (durable left image)

  -- a write of the first gate of a log that is not empty
  module _ (log : Log) (records : List (List ℕ)) (old new : D) (sure : IsSure disk old log records) (some : log.end ≢ 0) (within : log.end < log.limit) (wrote : Wrote log.file 0 1 old new) where
    restarts : (was : List ℕ) (bytes : List ℕ) → Spells records was → Torn 0 1 was bytes → InDoubt [] records bytes
    restarts was bytes spells torn = restart_doubt records was bytes (λ none. some (sure.end ∙ none)) spells torn

    pub restart_left : IsDoubted disk new (record { file = log.file; limit = log.limit; end = 0; unsure = true }) [] records
    restart_left = record {
      each = λ left image. let from = now log.file 0 1 old new wrote left image in restarts (from.0 log.file) (left log.file) (sure.each from.0 from.1) from.2;
      end = refl;
      bodies = tt;
      more_bodies = sure.bodies;
      more_within = omega (arith, sure.end);
    }

    pub restart_leaves : Leaves disk log.file (HasEither log.limit [] records) old new
    restart_leaves = leaves disk log.file (Torn 0 1) (HasEither log.limit [] records) old new wrote
        (λ was bytes image torn. ⊎_elim
        (λ first. inl (has_list log.limit [] bytes tt (omega arith) first))
        (λ second. inr (has_list log.limit records bytes sure.bodies (omega (arith, sure.end)) second))
        (doubt_either [] records bytes (restarts (was log.file) bytes (sure.each was image) torn)))

  -- a closed gate at the first place of a file that may hold anything
  pub first_closed : (file limit : ℕ) (old new : D) → Durable file 0 (0 ∷ []) old new → IsSure disk new (record { file = file; limit = limit; end = 0; unsure = false }) []
  first_closed file limit old new durable = record { each = λ left image. emptied (disk.files old file) (left file) (durable left image); end = refl; bodies = tt }

  -- a log ends after its records, whether it is sure or not
  pub stands_end : (now : D) (log : Log) (front more : List (List ℕ)) → Stands disk now log front more → log.end ≡ length (spelled front)
  stands_end now log front more stands = at log.unsure stands
    where
      at : (b : Bool) → MatchBool b (IsDoubted disk now log front more) (IsSure disk now log front) → log.end ≡ length (spelled front)
      at true doubt = doubt.end
      at false sure = sure.end

  -- what a log stands for that is not written to
  pub stands_leaves : (now : D) (log : Log) (front more : List (List ℕ)) → log.end < log.limit → Stands disk now log front more → Leaves disk log.file (HasEither log.limit front more) now now
  stands_leaves now log front more within stands = leaves_none disk log.file (HasEither log.limit front more) now (λ left image. at left image log.unsure refl)
    where
      at : (left : Files) → disk.image now (disk.moment now) left → (b : Bool) → log.unsure ≡ b → HasEither log.limit front more (left log.file)
      at left image true is =
          let doubt = when_true (IsDoubted disk now log front more) (IsSure disk now log front) is stands in
          ⊎_elim
          (λ first. inl (has_list log.limit front (left log.file) doubt.bodies (omega (arith, within, doubt.end)) first))
          (λ second. inr (has_list log.limit more (left log.file) doubt.more_bodies doubt.more_within second))
          (doubt_either front more (left log.file) (doubt.each left image))
      at left image false is =
          let sure = when_false (IsDoubted disk now log front more) (IsSure disk now log front) is stands in
          inl (has_list log.limit front (left log.file) sure.bodies (omega (arith, within, sure.end)) (sure.each left image))

  -- a settling of a log that is sure
  pub sure_keeps : {E : Type 0} (now : D) (log : Log) (front more : List (List ℕ)) → log.unsure ≡ false → log.end < log.limit → Stands disk now log front more → KeepsSettled {E = E} disk now now log log front more (Ok tt)
  sure_keeps now log front more sure within stands = record {
    settled = when_false (IsDoubted disk now log front more) (IsSure disk now log front) sure stands;
    unsettled = tt;
    stops = stands_leaves now log front more within stands;
  }

  pub sure_settled : {E : Type 0} (fault : E) (now : D) (log : Log) → log.unsure ≡ false → Settled disk now now log log fault (Ok tt)
  sure_settled fault now log sure = record {
    sure = λ _. (refl, refl, refl);
    ok = ap (λ (b : Bool). record log { unsure = b }) sure;
    err = tt;
    errors = λ e is. let differ : ⊥ = cc in absurd differ;
    counts = record { later = omega arith; rose = λ is. let differ : ⊥ = cc in absurd differ; kept = inr refl };
    touches = touches_none disk log.file now;
  }

  -- a settling of one in doubt, by a write of its gate
  module _ (log : Log) (unsure : log.unsure ≡ true) (old new : D) where
    module _ (front more : List (List ℕ)) (stands : Stands disk old log front more) (wrote : Wrote log.file log.end 1 old new) where
      abbrev doubted : IsDoubted disk old log front more
      doubted = when_true (IsDoubted disk old log front more) (IsSure disk old log front) unsure stands

      pub failed_keeps : {E : Type 0} (e : E) → log.end < log.limit → KeepsSettled disk old new log log front more (Err e)
      failed_keeps e within = record {
        settled = tt;
        unsettled = subst (λ (b : Bool). MatchBool b (IsDoubted disk new log front more) (IsSure disk new log front)) (sym unsure) (still_doubt log front more old new doubted wrote);
        stops = doubt_leaves log front more old new doubted wrote within;
      }

      pub done_keeps : {E : Type 0} → log.end < log.limit → disk.image old (disk.moment old) (disk.files old) → Durable log.file log.end (0 ∷ []) old new → KeepsSettled {E = E} disk old new log (record log { unsure = false }) front more (Ok tt)
      done_keeps within reads durable = record {
        settled = record { each = doubt_settled log front more old new doubted wrote reads durable; end = doubted.end; bodies = doubted.bodies };
        unsettled = tt;
        stops = doubt_leaves log front more old new doubted wrote within;
      }

    pub failed_settled : {E : Type 0} (fault : E) → Rose (disk.faults old) (disk.faults new) → Touches disk log.file old new → Settled disk old new log log fault (Err fault)
    failed_settled fault rose touches = record {
      sure = λ sure. absurd (true≢false (sym unsure ∙ sure));
      ok = tt;
      err = refl;
      errors = λ e is. cc;
      counts = record { later = touches.faults; rose = λ _. rose; kept = inl refl };
      touches = touches;
    }

    pub done_settled : {E : Type 0} (fault : E) → disk.faults new ≡ disk.faults old → Touches disk log.file old new → Settled disk old new log (record log { unsure = false }) fault (Ok tt)
    done_settled fault kept touches = record {
      sure = λ sure. absurd (true≢false (sym unsure ∙ sure));
      ok = refl;
      err = tt;
      errors = λ e is. let differ : ⊥ = cc in absurd differ;
      counts = record { later = touches.faults; rose = λ is. let differ : ⊥ = cc in absurd differ; kept = inr kept };
      touches = touches;
    }

-- a sure log stands for its list
pub stands_sure : {D : Type 0} (disk : Ghosts D) (now : D) (log : Log) (front more : List (List ℕ)) → log.unsure ≡ false → IsSure disk now log front → Stands disk now log front more
stands_sure disk now log front more sure is = subst (λ (b : Bool). MatchBool b (IsDoubted disk now log front more) (IsSure disk now log front)) (sym sure) is

-- facts that hold whatever the result
pub on_ok : {T E P : Type 0} (result : Result T E) → P → OnOk result P
on_ok (Ok x) holds = holds
on_ok (Err e) holds = tt

pub on_err : {T E P : Type 0} (result : Result T E) → P → OnErr result P
on_err (Ok x) holds = tt
on_err (Err e) holds = holds

-- what a read gives of a log's file begins with its list, whether it is sure or not
pub record Begins (records : List (List ℕ)) (log : Log) (file : List ℕ) : Type 0 where
  pub behind : List ℕ
  pub is : file ≡ spelled records ++ behind
  pub end : log.end ≡ length (spelled records)
  pub bodies : AreBodies records

pub begins : {D : Type 0} (disk : Ghosts D) (now : D) (log : Log) (front more : List (List ℕ)) → disk.image now (disk.moment now) (disk.files now) → Stands disk now log front more → Begins front log (disk.files now log.file)
begins disk now log front more reads stands = at log.unsure refl
  where
    at : (b : Bool) → log.unsure ≡ b → Begins front log (disk.files now log.file)
    at true is =
        let doubt = when_true (IsDoubted disk now log front more) (IsSure disk now log front) is stands in
        let file = doubt.each (disk.files now) reads in
        record { behind = file.gate ∷ file.rest; is = file.is; end = doubt.end; bodies = doubt.bodies }
    at false is =
        let sure = when_false (IsDoubted disk now log front more) (IsSure disk now log front) is stands in
        let file = sure.each (disk.files now) reads in
        record { behind = file.gate ∷ file.rest; is = file.is; end = sure.end; bodies = sure.bodies }

body_within : (front rest : List (List ℕ)) (body : List ℕ) → AreBodies (front ++ body ∷ rest) → length body ≤ longest_body
body_within [] rest body are = are.0
body_within (b ∷ front) rest body are = body_within front rest body are.1

-- a record of the list ends before the log does
pub entry_room : (front rest : List (List ℕ)) (body : List ℕ) (log : Log) (file : List ℕ) (at : ℕ) → Begins (front ++ body ∷ rest) log file → at ≡ length (spelled front) → at + 5 + length body ≤ log.end
entry_room front rest body log file at begin place = omega (arith, begin.end, length-spelled-at front rest body, place)

-- the four bytes behind its gate spell its length alone
pub entry_length : (front rest : List (List ℕ)) (body : List ℕ) (log : Log) (file bytes : List ℕ) (at n : ℕ) → Begins (front ++ body ∷ rest) log file → at ≡ length (spelled front) → n < 2 ^ 32
    → bytes ≡ slice_range file (at + 1) (at + 1 + 4) → length_bytes n ≡ bytes → n ≡ length body
entry_length front rest body log file bytes at n begin place fits read spells =
    let short = body_within front rest body begin.bodies in
    length_bytes-injective n (length body) fits (omega (arith, short)) (spells ∙ read ∙ length_at front rest body begin.behind file at begin.is place)

-- opening
module _ {D : Type 0} (disk : Ghosts D) (file : ℕ) where
  opens_same : (read : List ℕ) (a b : Files) → Same a b → Changes file (Opens read) a b
  opens_same read a b same = record { here = inl (ap (λ (f : Files). f file) same); elsewhere = λ g other. ap (λ (f : Files). f g) same }

  -- nothing was written
  pub opens_reading : (read : List ℕ) (old new : D) → Goes disk Same old new → Goes disk (Changes file (Opens read)) old new
  opens_reading read old new goes = widens disk old new Same (Changes file (Opens read)) goes (opens_same read)

  -- each image of the file is this
  abbrev pub IsSynced : List ℕ → D → Type 0
  IsSynced read now = (left : Files) → disk.image now (disk.moment now) left → left file ≡ read

  pub settled_on : (read : List ℕ) (old new : D) → IsTrue disk.told → Goes disk Same old new → IsSynced read old → IsSynced read new
  settled_on read old new told goes settled left image =
      let from = now_from _ _ _ _ _ (goes.images told) left image in
      ap (λ (f : Files). f file) from.2 ∙ settled from.0 from.1

  -- a closed gate was written to a file of no more than a byte
  pub opens_short : (old mid new : D) → Goes disk Same old mid → Goes disk (Changes file (Torn 0 1)) mid new → (IsTrue disk.told → IsShort (disk.files old file)) → (IsTrue disk.told → IsSynced (disk.files old file) mid) → Goes disk (Changes file (Opens (disk.files old file))) old new
  opens_short old mid new first second short settled = record {
    files = λ told. record {
      here = inr (short told, short_stays (disk.files mid file) (disk.files new file) (subst IsShort (sym (ap (λ (f : Files). f file) (first.files told))) (short told)) (second.files told).here);
      elsewhere = λ g other. (second.files told).elsewhere g other ∙ ap (λ (f : Files). f g) (first.files told);
    };
    images = λ told. moments.goes_on _ _ _ _ _ _ Same (Changes file (Torn 0 1)) (Changes file (Opens (disk.files old file))) (first.images told) (second.images told)
        (λ a b left same. opens_same (disk.files old file) a b same)
        (λ a b c left same left' torn. record {
          here = inr (short told, short_stays (b file) (c file) (subst IsShort (sym (settled told b left')) (short told)) torn.here);
          elsewhere = λ g other. torn.elsewhere g other ∙ ap (λ (f : Files). f g) same;
        });
    known = λ g. omega (arith, first.known g, second.known g);
    faults = omega (arith, first.faults, second.faults);
    place = second.place ∙ first.place;
  }

  -- the walk found the list of a file that is settled
  pub opens_list : (limit end : ℕ) (read : List ℕ) (now : D) → IsSynced read now → (records : List (List ℕ)) × HasRecords limit read records × (end ≡ length (spelled records))
      → (records : List (List ℕ)) × HasList limit read records × IsSure disk now (record { file = file; limit = limit; end = end; unsure = false }) records
  opens_list limit end read now settled found = (
    found.0,
    inr found.1,
    record {
      each = λ left image. subst (Spells found.0) (sym (settled left image)) found.1.spells;
      end = found.2;
      bodies = found.1.bodies;
    },
  )
