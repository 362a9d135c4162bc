-- A file of bytes has a list of a plan's records, or a first invalid record.
use Rattle.std.proofs.Common.{◌≡◌, ◌⊎◌, inl, inr, ⊎_elim, ℕ, ◌+◌, ◌<◌, ◌≤◌, Bool, true, false, List, [], ◌∷◌, ◌++◌, length, refl, sym, ◌∙◌, ap, subst, arith, append_assoc, length-append}
use Rattle.std.specs.Prelude.{Option, Some, None, Result, Ok, Err}
use Rattle.std.specs.List.{Contains}
use Rattle.std.specs.Ordering.{nat_cmp, is_eq}
use Rattle.std.specs.Cmp.Lexicographic.{slice_cmp}
use Rattle.std.proofs.lemmas.Bool.{cases_lt, cases_eq}
use Rattle.std.proofs.lemmas.Cmp.{nat_list_cmp_total, eq_by_cmp_equiv}
use Rattle.std.proofs.lemmas.List.{take_at, drop_at}
use Rattle.std.proofs.lemmas.Map.Lookups.{exact_bytes}
use Rattle.std.proofs.lemmas.Map.Views.{tells_apart}
use Rattle.std.proofs.lemmas.Map.Made.{Contains-tail}
use Rattle.std.proofs.lemmas.List.Elements.{Contains-append_right}
use Rattle.ss_records.specs.declared.record.Record.{Record}
use Rattle.ss_records.specs.declared.record.Record.TheVariants.{Start, Cold, Sealed, Copied, Purged}
use Rattle.ss_records.specs.Record.{spelling}
use Rattle.ss_records.specs.Fields.{read_record}
use Rattle.ss_records.proofs.Parts.{IsBytes, IsBytes-drop, IsBytes-take}
use Rattle.ss_records.proofs.Records.{read_takes}
use Rattle.ss_gatelog.specs.Log.{open_gate, length_bytes, spelled, AreBodies, HasRecords, HasList, IsDamaged}
use Rattle.ss_gatelog.proofs.Bytes.{length-length_bytes}
use Rattle.ss_gatelog.proofs.Lists.{bodies_part, record_parts}
use Rattle.ss_gatelog.proofs.Steps.{length-spelled-at, length-spelled-push, spelled-append, bodies_push}
use Rattle.ss_store.specs.Append.{bodies}
use Rattle.ss_meta.specs.declared.plan.Plan.{Plan}
use Rattle.ss_meta.specs.Plan.{plan_after, plan_from, AllDiffer, MayFollow, Follows, AllFollow, IsMeta, IsFaulty}
use Rattle.ss_meta.specs.Opening.{IsMisfit}
use Rattle.ss_meta.proofs.Opened.{faulty_misfit, faulty_unfit}
use Rattle.ss_meta.proofs.Readings.{one_result}
use Rattle.ss_meta.proofs.Sets.{contains_first}

-- ---- whether a record may follow

-- it holds or not
abbrev Either : Type 0 → Type 0
Either P = P ⊎ (P → ⊥)

both : (P Q : Type 0) → Either P → Either Q → Either (P × Q)
both P Q (inl p) (inl q) = inl (p, q)
both P Q (inl p) (inr never) = inr (λ pq. never pq.1)
both P Q (inr never) q = inr (λ pq. never pq.0)

all_three : (P Q R : Type 0) → Either P → Either Q → Either R → Either (P × Q × R)
all_three P Q R (inl p) (inl q) (inl r) = inl (p, q, r)
all_three P Q R (inl p) (inl q) (inr never) = inr (λ all. never all.2)
all_three P Q R (inl p) (inr never) r = inr (λ all. never all.1)
all_three P Q R (inr never) q r = inr (λ all. never all.0)

same_bool : (a b : Bool) → Either (a ≡ b)
same_bool true true = inl refl
same_bool true false = inr (λ is. let differ : ⊥ = cc (is) in differ)
same_bool false true = inr (λ is. let differ : ⊥ = cc (is) in differ)
same_bool false false = inl refl

same_cid : (a b : List ℕ) → Either (a ≡ b)
same_cid a b = by (is_eq (slice_cmp nat_cmp a b)) refl
  where
    by : (e : Bool) → is_eq (slice_cmp nat_cmp a b) ≡ e → Either (a ≡ b)
    by true is = inl (tells_apart exact_bytes a b is)
    by false is = inr (λ same. let equal : is_eq (slice_cmp nat_cmp a b) ≡ true = subst (λ (x : List ℕ). is_eq (slice_cmp nat_cmp a x) ≡ true) same ((eq_by_cmp_equiv nat_list_cmp_total).refl a) in let differ : ⊥ = cc (is, equal) in differ)

contains_or_not : (cs : List (List ℕ)) (c : List ℕ) → Either (Contains cs c)
contains_or_not [] c = inr (λ held. omega (arith, held.1))
contains_or_not (d ∷ cs) c = ⊎_elim
    (λ same. inl (subst (Contains (d ∷ cs)) same (contains_first d cs)))
    (λ other. ⊎_elim (λ later. inl (Contains-append_right (d ∷ []) cs c later)) (λ never. inr (λ held. never (Contains-tail d cs c other held))) (contains_or_not cs c))
    (same_cid d c)

differ_or_not : (cs : List (List ℕ)) → Either (AllDiffer cs)
differ_or_not [] = inl tt
differ_or_not (c ∷ cs) = both (Contains cs c → ⊥) (AllDiffer cs) (⊎_elim (λ held. inr (λ never. never held)) (λ never. inl never) (contains_or_not cs c)) (differ_or_not cs)

le_or_not : (a b : ℕ) → Either (a ≤ b)
le_or_not a b = elim (cases_lt b a) [
  | inl less ↦ inr (λ le. omega (arith, less, le))
  | inr le ↦ inl le
]

eq_or_not : (a b : ℕ) → Either (a ≡ b)
eq_or_not a b = elim (cases_eq a b) [
  | inl same ↦ inl same
  | inr other ↦ inr other
]

none : Either ⊥
none = inr (λ never. never)

follows_or_not : (plan : Option Plan) (r : Record) → Either (MayFollow plan r)
follows_or_not None (Start edge cids) = inl tt
follows_or_not (Some p) (Cold cids) = both _ _ (same_bool p.sealed false) (differ_or_not (p.cold ++ cids))
follows_or_not (Some p) (Sealed total) = both _ _ (same_bool p.sealed false) (eq_or_not total (length p.cold))
follows_or_not (Some p) (Copied up_to) = all_three _ _ _ (same_bool p.sealed true) (le_or_not p.copied up_to) (le_or_not up_to (length p.cold))
follows_or_not (Some p) (Purged up_to) = all_three _ _ _ (same_bool p.sealed true) (le_or_not p.purged up_to) (le_or_not up_to (length p.cold))
follows_or_not plan r = none

-- bytes are the spelling of a record that may follow, or misfit there
read_or_misfit : (plan : Option Plan) (body : List ℕ) → IsBytes body → ((r : Record) × (body ≡ spelling r) × Follows plan r) ⊎ IsMisfit plan body
read_or_misfit plan body small = by_reading (read_record body) refl
  where
    no_result : (r : Record) (left : ℕ) (read : Result Record ℕ) → read ≡ Ok r → read ≡ Err left → ⊥
    no_result r left read is is' = cc

    by_reading : (read : Result Record ℕ) → read_record body ≡ read → ((r : Record) × (body ≡ spelling r) × Follows plan r) ⊎ IsMisfit plan body
    by_reading (Err left) is = inr (λ r reads may. no_result r left (read_record body) reads is)
    by_reading (Ok r) is = ⊎_elim
        (λ may. let taken = read_takes body r small is in inl (r, taken.0, record { fits = taken.2; value = taken.1; may_follow = may }))
        (λ not. inr (λ s reads may. not (subst (MayFollow plan) (one_result s r (read_record body) reads is) may)))
        (follows_or_not plan r)

-- ---- a row of bodies

-- each is that of a record which may follow, or there is a first that is not
record Bad (plan : Option Plan) (row : List (List ℕ)) : Type 0 where
  front : List Record
  body : List ℕ
  rest : List (List ℕ)
  follow : AllFollow plan front
  is : row ≡ bodies front ++ body ∷ rest
  misfit : IsMisfit (plan_from plan front) body

abbrev Split : Option Plan → List (List ℕ) → Type 0
Split plan row = ((records : List Record) × AllFollow plan records × (bodies records ≡ row)) ⊎ Bad plan row

-- what stands after a gate and the length of a body
IsBytes-parts : (body : List ℕ) (more : List (List ℕ)) (y : List ℕ) → IsBytes (spelled (body ∷ more) ++ y) → IsBytes body × IsBytes (spelled more ++ y)
IsBytes-parts body more y small =
    let four = length-length_bytes (length body) in
    let whole : IsBytes (open_gate ∷ (length_bytes (length body) ++ (body ++ (spelled more ++ y)))) = subst IsBytes (record_parts body more y) small in
    let behind : IsBytes (body ++ (spelled more ++ y)) = subst IsBytes (drop_at (length_bytes (length body)) (body ++ (spelled more ++ y)) 4 four) (IsBytes-drop 4 (length_bytes (length body) ++ (body ++ (spelled more ++ y))) (IsBytes-drop 1 (open_gate ∷ (length_bytes (length body) ++ (body ++ (spelled more ++ y)))) whole)) in (
      subst IsBytes (take_at body (spelled more ++ y) (length body) refl) (IsBytes-take (length body) (body ++ (spelled more ++ y)) behind),
      subst IsBytes (drop_at body (spelled more ++ y) (length body) refl) (IsBytes-drop (length body) (body ++ (spelled more ++ y)) behind),
    )

split : (plan : Option Plan) (row : List (List ℕ)) (y : List ℕ) → IsBytes (spelled row ++ y) → Split plan row
split plan [] y small = inl ([], tt, refl)
split plan (body ∷ row) y small =
    let parts = IsBytes-parts body row y small in
    ⊎_elim
    (λ read. ⊎_elim
    (λ all. inl (read.0 ∷ all.0, (read.2, all.1), ap (λ (l : List ℕ). l ∷ bodies all.0) (sym read.1) ∙ ap (λ (l : List (List ℕ)). body ∷ l) all.2))
    (λ bad. inr (record {
      front = read.0 ∷ bad.front;
      body = bad.body;
      rest = bad.rest;
      follow = (read.2, bad.follow);
      is = ap (λ (l : List (List ℕ)). body ∷ l) bad.is ∙ ap (λ (l : List ℕ). l ∷ (bodies bad.front ++ bad.body ∷ bad.rest)) read.1;
      misfit = bad.misfit;
    }))
    (split (plan_after plan read.0) row y parts.1))
    (λ misfit. inr (record { front = []; body = body; rest = row; follow = tt; is = refl; misfit = misfit }))
    (read_or_misfit plan body parts.0)

AreBodies-front : (a b : List (List ℕ)) → AreBodies (a ++ b) → AreBodies a
AreBodies-front [] b are = tt
AreBodies-front (x ∷ a) b are = (are.0, AreBodies-front a b are.1)

-- a first bad body in a row at the start of a file
bad_faulty : (limit : ℕ) (file : List ℕ) (row : List (List ℕ)) (y : List ℕ) → file ≡ spelled row ++ y → 0 < length y → AreBodies row → length (spelled row) < limit → (bad : Bad None row) → IsFaulty limit file (length (spelled (bodies bad.front)))
bad_faulty limit file row y is some are within bad =
    let front = bodies bad.front in
    let more = spelled bad.rest ++ y in
    let whole : AreBodies (front ++ bad.body ∷ bad.rest) = subst AreBodies bad.is are in
    let short = bodies_part front bad.body bad.rest whole in
    let size : length (spelled row) ≡ length (spelled front) + 5 + length bad.body + length (spelled bad.rest) = ap (λ (l : List (List ℕ)). length (spelled l)) bad.is ∙ length-spelled-at front bad.rest bad.body in
    let push = length-spelled-push front bad.body in
    let parts : file ≡ spelled (front ++ bad.body ∷ []) ++ more =
    is ∙ ap (λ (l : List (List ℕ)). spelled l ++ y) (bad.is ∙ sym (append_assoc front (bad.body ∷ []) bad.rest))
    ∙ ap (λ (l : List ℕ). l ++ y) (spelled-append (front ++ bad.body ∷ []) bad.rest)
    ∙ append_assoc (spelled (front ++ bad.body ∷ [])) (spelled bad.rest) y in
    let next = length (spelled (front ++ bad.body ∷ [])) in
    faulty_misfit limit (length (spelled front)) next file bad.front bad.body
    (record { rest = more; is = parts; place = refl; bodies = bodies_push front bad.body (AreBodies-front front (bad.body ∷ bad.rest) whole) short; within = omega (arith, within, size, push) })
    (omega (arith, ap (length {A = ℕ}) parts, length-append (spelled (front ++ bad.body ∷ [])) more, length-append (spelled bad.rest) y, some))
    short (AreBodies-front front (bad.body ∷ bad.rest) whole) bad.follow refl bad.misfit

-- ---- a file

abbrev Reading : ℕ → List ℕ → Type 0
Reading limit file = ((records : List Record) × IsMeta limit file records) ⊎ ((at : ℕ) × IsFaulty limit file at)

pub each_reading : (limit : ℕ) (file : List ℕ) → IsBytes file → ((row : List (List ℕ)) × HasList limit file row) ⊎ ((at : ℕ) × IsDamaged limit file at) → Reading limit file
each_reading limit file small (inl (row, inl short)) = inl ([], record { list = inl (short.0, refl); plan = tt })
each_reading limit file small (inl (row, inr has)) =
    let s = has.spells in
    ⊎_elim
    (λ all. inl (all.0, record { list = inr (subst (HasRecords limit file) (sym all.2) has); plan = all.1 }))
    (λ bad. inr (_, bad_faulty limit file row (s.gate ∷ s.rest) s.is (omega arith) has.bodies has.within bad))
    (split None row (s.gate ∷ s.rest) (subst IsBytes s.is small))
each_reading limit file small (inr (at, damaged)) = ⊎_elim
    (λ all. inr (
      at,
      faulty_unfit limit at file all.0
          (record {
            rest = open_gate ∷ damaged.rest;
            is = damaged.is ∙ ap (λ (l : List (List ℕ)). spelled l ++ open_gate ∷ damaged.rest) (sym all.2);
            place = damaged.place ∙ ap (λ (l : List (List ℕ)). length (spelled l)) (sym all.2);
            bodies = subst AreBodies (sym all.2) damaged.bodies;
            within = damaged.within;
          })
          all.1 damaged,
    ))
    (λ bad. inr (_, bad_faulty limit file damaged.front (open_gate ∷ damaged.rest) damaged.is (omega arith) damaged.bodies (omega (arith, damaged.place, damaged.within)) bad))
    (split None damaged.front (open_gate ∷ damaged.rest) (subst IsBytes damaged.is small))
