-- A file has one list of records of a plan, or is damaged at one offset.
use Rattle.std.proofs.Common.{◌≡◌, inr, ⊎_elim, ℕ, false, List, [], ◌∷◌, ◌++◌, length, refl, sym, ◌∙◌, ap, subst, arith, append_assoc, length-append}
use Rattle.std.specs.Prelude.{Option, None, Result, Ok}
use Rattle.ss_device.specs.declared.disk.Disk.{Ghosts}
use Rattle.ss_device.specs.Disk.{Files}
use Rattle.ss_records.specs.declared.record.Record.{Record}
use Rattle.ss_records.specs.Record.{spelling}
use Rattle.ss_records.specs.Fields.{read_record}
use Rattle.ss_records.proofs.Records.{read_again}
use Rattle.ss_gatelog.specs.Log.{open_gate, spelled, AreBodies, HasRecords}
use Rattle.ss_gatelog.proofs.Steps.{spelled-push, bodies_push}
use Rattle.ss_gatelog.proofs.Lists.{GoesOn, compared, closed_ends, unfit_ends, one_list, list_or_damaged}
use Rattle.ss_store.specs.Append.{bodies}
use Rattle.ss_meta.specs.declared.plan.Plan.{Plan}
use Rattle.ss_meta.specs.Plan.{plan_after, plan_from, plan_of, Follows, AllFollow, IsPlan, IsMeta, IsBad, IsFaulty}
use Rattle.ss_meta.specs.Meta.{Meta, Keeps}
use Rattle.ss_meta.proofs.Starts.{sure_of}

-- a reading is of one record
pub one_result : (r s : Record) (read : Result Record ℕ) → read ≡ Ok r → read ≡ Ok s → r ≡ s
one_result r s read is is' = cc

-- a valid record is what its body reads as
one_record : (p q : Option Plan) (r s : Record) → Follows p r → Follows q s → spelling r ≡ spelling s → r ≡ s
one_record p q r s is is' same =
    one_result r s (read_record (spelling r)) (read_again r is.value is.fits) (ap read_record same ∙ read_again s is'.value is'.fits)

-- so the bodies of a row tell its records
bodies_once : (p q : Option Plan) (rs ss : List Record) → AllFollow p rs → AllFollow q ss → bodies rs ≡ bodies ss → rs ≡ ss
bodies_once p q [] [] are are' same = refl
bodies_once p q [] (s ∷ ss) are are' same = absurd (let differ : ⊥ = cc in differ)
bodies_once p q (r ∷ rs) [] are are' same = absurd (let differ : ⊥ = cc in differ)
bodies_once p q (r ∷ rs) (s ∷ ss) are are' same =
    let body : spelling r ≡ spelling s = cc in
    let others : bodies rs ≡ bodies ss = cc in
    let first : r ≡ s = one_record p q r s are.0 are'.0 body in
    let rest : rs ≡ ss = bodies_once (plan_after p r) (plan_after q s) rs ss are.1 are'.1 others in
    ap (λ (x : Record). x ∷ rs) first ∙ ap (λ (xs : List Record). s ∷ xs) rest

pub records_once : (limit : ℕ) (file : List ℕ) (r s : List Record) → IsMeta limit file r → IsMeta limit file s → r ≡ s
records_once limit file r s has has' = bodies_once None None r s has.plan has'.plan (one_list limit file (bodies r) (bodies s) has.list has'.list)

-- a record that may be read as the next of a plan, by its body
record StandsAt (plan : Option Plan) (body : List ℕ) : Type 0 where
  of : Record
  is : body ≡ spelling of
  follows : Follows plan of

-- each body of a row is that of a record which may follow those before it
body_stands : (p : Option Plan) (records front : List Record) (more : List (List ℕ)) (body : List ℕ) (q : Option Plan) → AllFollow p records → AllFollow q front → p ≡ q → bodies records ≡ bodies front ++ body ∷ more → StandsAt (plan_from q front) body
body_stands p [] [] more body q are front_are from same = absurd (let differ : ⊥ = cc in differ)
body_stands p [] (f ∷ front) more body q are front_are from same = absurd (let differ : ⊥ = cc in differ)
body_stands p (r ∷ records) [] more body q are front_are from same =
    let is : body ≡ spelling r = cc in
    record { of = r; is = is; follows = subst (λ (o : Option Plan). Follows o r) from are.0 }
body_stands p (r ∷ records) (f ∷ front) more body q are front_are from same =
    let first : spelling r ≡ spelling f = cc in
    let others : bodies records ≡ bodies front ++ body ∷ more = cc in
    let one : r ≡ f = one_record p q r f are.0 front_are.0 first in
    body_stands (plan_after p r) records front more body (plan_after q f) are.1 front_are.1 (ap (λ (o : Option Plan). plan_after o r) from ∙ ap (plan_after q) one) others

-- which a bad body is not
bad_stands : (limit at : ℕ) (plan : Option Plan) (rest : List ℕ) (bad : IsBad limit at plan rest) → StandsAt plan bad.body → ⊥
bad_stands limit at plan rest bad stands =
    bad.bad stands.of (ap read_record stands.is ∙ read_again stands.of stands.follows.value stands.follows.fits) stands.follows.may_follow

-- no row of valid records stands at the start of a file with a bad record, unless it ends before that record
bad_ends : (limit at : ℕ) (file rest y : List ℕ) (front records : List Record) → file ≡ spelled (bodies front) ++ open_gate ∷ rest → AreBodies (bodies front) → IsPlan front → (bad : IsBad limit at (plan_of front) rest)
    → IsPlan records → AreBodies (bodies records) → file ≡ spelled (bodies records) ++ y → (GoesOn (bodies records) (bodies front ++ bad.body ∷ []) y bad.more → ⊥) → ⊥
bad_ends limit at file rest y front records is front_are front_plan bad plan are whole ends = ⊎_elim
    (λ both. stands [] (sym both.0))
    (λ other. ⊎_elim
    (λ longer. stands (longer.body ∷ longer.bodies) (longer.is ∙ append_assoc (bodies front) (bad.body ∷ []) (longer.body ∷ longer.bodies)))
    ends
    other)
    (compared (bodies front ++ bad.body ∷ []) (bodies records) bad.more y (bodies_push (bodies front) bad.body front_are bad.fits.in_bounds) are (sym upto ∙ whole))
  where
    upto : file ≡ spelled (bodies front ++ bad.body ∷ []) ++ bad.more
    upto = is ∙ ap (λ (l : List ℕ). spelled (bodies front) ++ open_gate ∷ l) bad.is ∙ sym (spelled-push (bodies front) bad.body bad.more)

    stands : (more : List (List ℕ)) → bodies records ≡ bodies front ++ bad.body ∷ more → ⊥
    stands more same = bad_stands limit at (plan_of front) rest bad (body_stands None records front more bad.body None plan front_plan refl same)

-- a file with an invalid record has no list of them
pub apart : (limit at : ℕ) (file : List ℕ) (records : List Record) → IsFaulty limit file at → IsMeta limit file records → ⊥
apart limit at file records faulty has = ⊎_elim
    (λ unfit. list_or_damaged limit file (bodies records) at has.list (record {
      front = bodies faulty.front;
      rest = faulty.rest;
      is = faulty.is;
      place = faulty.place;
      bodies = faulty.bodies;
      within = faulty.within;
      not_short = faulty.not_short;
      unfit = unfit;
    }))
    (λ bad. ⊎_elim (λ short. omega (arith, short.0, faulty.not_short)) (listed bad) has.list)
    faulty.fault
  where
    listed : IsBad limit at (plan_of faulty.front) faulty.rest → HasRecords limit file (bodies records) → ⊥
    listed bad list =
        let s = list.spells in
        bad_ends limit at file faulty.rest (s.gate ∷ s.rest) faulty.front records faulty.is faulty.bodies faulty.plan bad has.plan list.bodies s.is
        (closed_ends (bodies records) (bodies faulty.front ++ bad.body ∷ []) s.gate s.rest bad.more s.closed)

-- of two first invalid records none stands after the other
fault_ends : (limit at at' : ℕ) (file : List ℕ) (d : IsFaulty limit file at) (e : IsFaulty limit file at') → GoesOn (bodies d.front) (bodies e.front) (open_gate ∷ d.rest) (open_gate ∷ e.rest) → ⊥
fault_ends limit at at' file d e on = ⊎_elim
    (λ unfit. unfit_ends limit at (bodies d.front) (bodies e.front) d.rest (open_gate ∷ e.rest) d.place unfit e.bodies (omega (arith, e.place, e.within)) (omega arith) on)
    (λ bad. bad_ends limit at file d.rest (open_gate ∷ e.rest) d.front e.front d.is d.bodies d.plan bad e.plan e.bodies e.is (longer bad.body bad.more))
    d.fault
  where
    longer : (body more : List ℕ) → GoesOn (bodies e.front) (bodies d.front ++ body ∷ []) (open_gate ∷ e.rest) more → ⊥
    longer body more back = omega (
      arith,
      ap (length {A = List ℕ}) on.is,
      length-append (bodies d.front) (on.body ∷ on.bodies),
      ap (length {A = List ℕ}) back.is,
      length-append (bodies d.front) (body ∷ []),
      length-append (bodies e.front) (back.body ∷ back.bodies),
    )

pub place_once : (limit at at' : ℕ) (file : List ℕ) → IsFaulty limit file at → IsFaulty limit file at' → at ≡ at'
place_once limit at at' file d e = ⊎_elim
    (λ both. d.place ∙ ap (λ (l : List (List ℕ)). length (spelled l)) both.0 ∙ sym e.place)
    (λ other. absurd (⊎_elim (fault_ends limit at at' file d e) (fault_ends limit at' at file e d) other))
    (compared (bodies d.front) (bodies e.front) (open_gate ∷ d.rest) (open_gate ∷ e.rest) d.bodies e.bodies (sym d.is ∙ e.is))

-- each image of a disk with a sure store has its records
pub kept_again : {D : Type 0} (disk : Ghosts D) (now : D) (store : Meta) (records others : List Record) → Keeps disk now store records others → store.log.unsure ≡ false → (left : Files) → disk.image now (disk.moment now) left → IsMeta store.log.limit (left store.log.file) records
kept_again disk now store records others keeps sure left image =
    let is = sure_of disk now store.log (bodies records) (bodies others) sure keeps.stands in
    record {
      list = inr (record { spells = is.each left image; bodies = is.bodies; within = omega (arith, is.end, keeps.within) });
      plan = keeps.are;
    }
