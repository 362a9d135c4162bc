-- Rows that are read to their end while one entry is kept.
use native.Mathlib.Numerals.{unary_clauses}
use Rattle.std.proofs.Common.{ne_eqb, eqb, false, true, ◌≡◌, ◌≢◌, ℕ, zero, suc, ◌+◌, ◌-◌, ◌<◌, ◌≤◌, List, [], ◌∷◌, ◌++◌, length, Option, Some, None, option_map, refl, sym, ap, ◌∙◌, arith, append_assoc, length-append, slice_get}
use Rattle.std.proofs.lemmas.List.{append-nil}
use Rattle.std.proofs.lemmas.Option.{some_pair_parts}
use Rattle.ss_cbor.specs.{Options.{◌>>=◌}, Position.{Position, Reads, Takes}}
use Rattle.ss_node.specs.Rows.{many_from, Picks}

abbrev pub Reader : Type 0 → Type 0
Reader Y = ℕ → List ℕ → Option (Y × List ℕ)

-- a row that has these before it
abbrev pub after : {Y : Type 0} → List Y → Option (List Y × List ℕ) → Option (List Y × List ℕ)
after taken row = row >>= λ r. Some (taken ++ r.0, r.1)

one_more : {Y : Type 0} (taken : List Y) (y : Y) (row : Option (List Y × List ℕ)) → after taken (row >>= λ others. Some (y ∷ others.0, others.1)) ≡ after (taken ++ y ∷ []) row
one_more taken y None = refl
one_more {Y} taken y (Some r) = ap (λ (l : List Y). Some (l, r.1)) (sym (append_assoc taken (y ∷ []) r.0))

none_before : {Y : Type 0} (row : Option (List Y × List ℕ)) → row ≡ after [] row
none_before None = refl
none_before (Some r) = refl

get_pushed : {Y : Type 0} (ys : List Y) (y : Y) (i : ℕ) → i ≡ length ys → slice_get (ys ++ y ∷ []) i ≡ Some y
get_pushed [] y zero h = refl
get_pushed [] y (suc i) h = absurd (omega (arith, h))
get_pushed (x ∷ ys) y zero h = absurd (omega (arith, h))
get_pushed (x ∷ ys) y (suc i) h = get_pushed ys y i (omega (arith, h))

get_earlier : {Y : Type 0} (ys : List Y) (y : Y) (i : ℕ) → i ≢ length ys → slice_get (ys ++ y ∷ []) i ≡ slice_get ys i
get_earlier [] y zero h = absurd (h refl)
get_earlier [] y (suc i) h = refl
get_earlier (x ∷ ys) y zero h = refl
get_earlier (x ∷ ys) y (suc i) h = get_earlier ys y i (λ e. h (ap suc e))

-- ---- i of n were read, these, and the others come next

pub record Taking {Y : Type 0} (one : Reader Y) (n i : ℕ) (first now : Position) (taken : List Y) : Type 0 where
  pub bound : i ≤ n
  pub end : now.end ≡ first.end
  pub count : length taken ≡ i
  pub same : many_from one n first.end first.rest ≡ after taken (many_from one (n - i) now.end now.rest)

pub taking-start : {Y : Type 0} (one : Reader Y) (n : ℕ) (first : Position) → Taking one n 0 first first []
taking-start one n first = record { bound = omega arith; end = refl; count = refl; same = simp unary_clauses (none_before (many_from one n first.end first.rest)) }

module _ {X Y : Type 0} (view : X → Y) (one : Reader Y) (n i : ℕ) (first now : Position) (taken : List Y) (t : Taking one n i first now taken) where
  pub taking-next : (next : Position) (x : X) → i < n → Reads view one now next (Some x) → Taking one n (i + 1) first next (taken ++ view x ∷ [])
  unfolding many_from
  taking-next next x lt reads =
      let e : n - i ≡ suc (n - (i + 1)) = omega arith in
      let step : many_from one (n - i) now.end now.rest ≡ (many_from one (n - (i + 1)) next.end next.rest >>= λ others. Some (view x ∷ others.0, others.1)) = rw (e, reads.value, reads.end) refl in
      record {
        bound = omega arith;
        end = reads.end ∙ t.end;
        count = omega (arith, length-append taken (view x ∷ []), t.count);
        same = t.same ∙ ap (after taken) step ∙ one_more taken (view x) (many_from one (n - (i + 1)) next.end next.rest);
      }

  pub taking-none : i < n → one now.end now.rest ≡ None → many_from one n first.end first.rest ≡ None
  unfolding many_from
  taking-none lt none =
      let e : n - i ≡ suc (n - (i + 1)) = omega arith in
      let step : many_from one (n - i) now.end now.rest ≡ None = rw (e, none) refl in
      t.same ∙ ap (after taken) step

  pub taking-stop : (next : Position) → i < n → Reads view one now next None → many_from one n first.end first.rest ≡ None
  taking-stop next lt reads = taking-none lt reads.value

pub taking-end : {Y : Type 0} (one : Reader Y) (n i : ℕ) (first now : Position) (taken : List Y) → Taking one n i first now taken → n ≤ i →
    many_from one n first.end first.rest ≡ Some (taken, now.rest)
unfolding many_from
taking-end {Y} one n i first now taken t le =
    let e : n - i ≡ zero = omega arith in
    let step : many_from one (n - i) now.end now.rest ≡ Some ([], now.rest) = rw e refl in
    t.same ∙ ap (after taken) step ∙ ap (λ (l : List Y). Some (l, now.rest)) (append-nil taken)

-- ---- and the one at the index is kept, if it was among them

pub record Picking {X Y : Type 0} (view : X → Y) (one : Reader Y) (n index i : ℕ) (first now : Position) (picked : Option X) : Type 0 where
  pub taken : List Y
  pub row : Taking one n i first now taken
  pub here : option_map view picked ≡ slice_get taken index

pub picking-start : {X Y : Type 0} (view : X → Y) (one : Reader Y) (n index : ℕ) (first : Position) → Picking view one n index 0 first first None
picking-start view one n index first = record { taken = []; row = taking-start one n first; here = refl }

module _ {X Y : Type 0} (view : X → Y) (one : Reader Y) (n index i : ℕ) (first now : Position) (picked : Option X) (p : Picking view one n index i first now picked) where
  pub picking-this : (next : Position) (x : X) → i < n → i ≡ index → Reads view one now next (Some x) → Picking view one n index (i + 1) first next (Some x)
  picking-this next x lt is reads = record {
    taken = p.taken ++ view x ∷ [];
    row = taking-next view one n i first now p.taken p.row next x lt reads;
    here = sym (get_pushed p.taken (view x) index (sym is ∙ sym p.row.count));
  }

  pub picking-other : (next : Position) (x : X) → i < n → i ≢ index → Reads view one now next (Some x) → Picking view one n index (i + 1) first next picked
  picking-other next x lt is reads = record {
    taken = p.taken ++ view x ∷ [];
    row = taking-next view one n i first now p.taken p.row next x lt reads;
    here = p.here ∙ sym (get_earlier p.taken (view x) index (λ e. is (sym (e ∙ p.row.count))));
  }

  pub picking-stop : (next : Position) → i < n → Reads view one now next None → Picks view one n index first next None
  picking-stop next lt reads = record { value = taking-stop view one n i first now p.taken p.row next lt reads; end = reads.end ∙ p.row.end }

  pub picking-end : n ≤ i → Picks view one n index first now (Some picked)
  picking-end le = record { value = (p.taken, taking-end one n i first now p.taken p.row le, p.here); end = p.row.end }

-- a part that a cursor took, or did not, was read
pub taken-read : {X Y : Type 0} (view : X → Y) (one : Reader Y) (old new : Position) (answer : Option X) → Takes view one old new answer → Reads view one old new answer
taken-read view one old new answer takes = record { value = takes.value; end = takes.end }

-- ---- how long a row is

pub bind-Some : {A B : Type 0} (o : Option A) (f : A → Option B) (y : B) → (o >>= f) ≡ Some y → (x : A) × (o ≡ Some x) × (f x ≡ Some y)
bind-Some (Some x) f y h = (x, refl, h)
bind-Some None f y h = absurd (cc)

pub many-length : {Y : Type 0} (one : Reader Y) (n end : ℕ) (bytes : List ℕ) (row : List Y) (rest : List ℕ) → many_from one n end bytes ≡ Some (row, rest) → length row ≡ n
unfolding many_from
many-length {Y} one zero end bytes row rest h = ap length (sym (some_pair_parts [] row bytes rest h).0)
many-length {Y} one (suc n) end bytes row rest h =
    let first = bind-Some (one end bytes) _ _ h in
    let others = bind-Some (many_from one n end first.0.1) _ _ first.2 in
    let e : first.0.0 ∷ others.0.0 ≡ row = (some_pair_parts _ row _ rest others.2).0 in
    ap length (sym e) ∙ ap suc (many-length one n end first.0.1 others.0.0 others.0.1 others.1)

-- ---- whether an input has ended

pub ended : (rest : List ℕ) → rest ≡ [] → eqb (length rest) 0 ≡ true
ended rest e = rw e refl

pub unended : (rest : List ℕ) → (rest ≡ [] → ⊥) → eqb (length rest) 0 ≡ false
unended [] some = absurd (some refl)
unended (x ∷ rest) some = ne_eqb (length (x ∷ rest)) 0 (λ e. absurd (omega arith))
