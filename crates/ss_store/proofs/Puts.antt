-- The blocks of a Put as they are read by their places.
use Rattle.std.proofs.Common.{◌≡◌, ℕ, ◌+◌, ◌-◌, ◌<◌, ◌≤◌, ◌^◌, true, false, List, [], ◌∷◌, ◌++◌, length, map, take, refl, sym, ◌∙◌, ap, arith, length-append}
use Rattle.std.specs.Prelude.{Result, Ok, Err, All, min}
use Rattle.std.specs.List.{flat_map}
use Rattle.std.specs.FinMap as finite_map
use Rattle.std.proofs.lemmas.List.Elements.{All-head, All-tail, All-cons, All-nil}
use Rattle.ss_records.specs.declared.fault.RecordFault.{RecordFault}
use Rattle.ss_records.specs.declared.fault.RecordFault.TheVariants.{BadRecord}
use Rattle.ss_records.specs.declared.places.BlockPlace.{BlockPlace}
use Rattle.ss_records.specs.declared.record.Record.{Record}
use Rattle.ss_records.specs.declared.record.Record.TheVariants.{Config, Generation, Put, Dropped, Head, Base, Start, Cold, Sealed, Copied, Purged}
use Rattle.ss_records.specs.Record.{spelling, block, number}
use Rattle.ss_records.specs.Places.{IsPut, ArePlaces, places, places_of}
use Rattle.ss_records.proofs.Numbers.{length-number, wide16, wide32}
use Rattle.std.specs.Int.{w16, w32}
use Rattle.ss_store.specs.declared.place.Place.{Place}
use Rattle.ss_store.specs.Places.{CidMap, with_pairs, placed, has_fault, with_places}

-- a Put's body is of its kind
pub put_body : (body : List ℕ) (r : Record) (blocks : List (List ℕ × List ℕ)) → body ≡ spelling r → r ≡ Put blocks → IsPut body
unfolding spelling
put_body body r blocks is put = ap (λ (b : List ℕ). take 1 b) (is ∙ ap spelling put)

first : (m n : ℕ) (s t : List ℕ) → m ∷ s ≡ n ∷ t → m ≡ n
first m n s t same = cc

-- and no other record's is
pub is_put : (r : Record) → IsPut (spelling r) → (blocks : List (List ℕ × List ℕ)) × (r ≡ Put blocks)
unfolding spelling
is_put (Config c) put = absurd (omega (arith, first _ _ _ _ put))
is_put (Generation n) put = absurd (omega (arith, first _ _ _ _ put))
is_put (Put blocks) put = (blocks, refl)
is_put (Dropped cids) put = absurd (omega (arith, first _ _ _ _ put))
is_put (Head height cids) put = absurd (omega (arith, first _ _ _ _ put))
is_put (Base base ended) put = absurd (omega (arith, first _ _ _ _ put))
is_put (Start edge cids) put = absurd (omega (arith, first _ _ _ _ put))
is_put (Cold cids) put = absurd (omega (arith, first _ _ _ _ put))
is_put (Sealed total) put = absurd (omega (arith, first _ _ _ _ put))
is_put (Copied up_to) put = absurd (omega (arith, first _ _ _ _ put))
is_put (Purged up_to) put = absurd (omega (arith, first _ _ _ _ put))

-- ---- what was read of places

no_fault_of : (bs : List BlockPlace) → has_fault (map Ok bs) ≡ false
no_fault_of [] = refl
no_fault_of (b ∷ bs) = no_fault_of bs

fault_of : (bs : List BlockPlace) (e : RecordFault) → has_fault (map Ok bs ++ Err e ∷ []) ≡ true
fault_of [] e = refl
fault_of (b ∷ bs) e = fault_of bs e

-- where no fault is among the items, the body reads as a record of these places
pub read_of : (read : Result Record ℕ) (items : List (Result BlockPlace RecordFault)) → ArePlaces read items → has_fault items ≡ false → (r : Record) × (read ≡ Ok r) × (items ≡ map Ok (places_of r))
read_of (Ok r) items are none = (r, refl, are)
read_of (Err at) items are none = absurd (let differ : true ≡ false = sym (fault_of are.0 (BadRecord at)) ∙ sym (ap has_fault are.1) ∙ none in cc)

-- where one is, it reads as none
pub none_of : (read : Result Record ℕ) (items : List (Result BlockPlace RecordFault)) (r : Record) → ArePlaces read items → has_fault items ≡ true → read ≡ Ok r → ⊥
none_of (Ok q) items r are some is = let differ : false ≡ true = sym (no_fault_of (places_of q)) ∙ sym (ap has_fault are) ∙ some in cc
none_of (Err at) items r are some is = cc

-- ---- where the places lie

-- a block lies between the place that its record's fields begin at and their end
abbrev pub LiesInBody : ℕ → BlockPlace → Type 0
LiesInBody end b = b.at + b.len ≤ end

lie_before : (at end : ℕ) (blocks : List (List ℕ × List ℕ)) → at + length (flat_map block blocks) ≤ end → All (LiesInBody end) (places at blocks)
lie_before at end [] within = All-nil (LiesInBody end)
lie_before at end (b ∷ bs) within =
    let size : length (block b) ≡ length b.0 + 4 + length b.1 = omega (arith, length-append b.0 (number w32 (length b.1) ++ b.1), length-append (number w32 (length b.1)) b.1, length-number w32 (2 ^ 32) (length b.1) wide32) in
    let whole : length (flat_map block (b ∷ bs)) ≡ length (block b) + length (flat_map block bs) = length-append (block b) (flat_map block bs) in
    All-cons (LiesInBody end) _ (places (at + length (block b)) bs) (omega (arith, size, whole, within)) (lie_before (at + length (block b)) end bs (omega (arith, whole, within)))

-- the blocks of a Put lie in its body
pub put_lies : (blocks : List (List ℕ × List ℕ)) → All (LiesInBody (length (spelling (Put blocks)))) (places_of (Put blocks))
unfolding spelling
put_lies blocks = lie_before 3 _ blocks (omega (arith, length-append (number w16 (length blocks)) (flat_map block blocks), length-number w16 (2 ^ 16) (length blocks) wide16))

-- places that are not too great join a map as they are
pub with_placed : (file body end : ℕ) (held : CidMap Place) (bs : List BlockPlace) → body + end < 2 ^ 64 → All (LiesInBody end) bs → with_places file body held (map Ok bs) ≡ with_pairs held (map (placed file body) bs)
with_placed file body end held [] small all = refl
with_placed file body end held (b ∷ bs) small all =
    let lies = All-head (LiesInBody end) b bs all in
    let same : min (body + b.at) (2 ^ 64 - 1) ≡ body + b.at = omega (arith, lies, small) in
    ap (λ (n : ℕ). with_places file body (finite_map.insert held b.cid (record { file = file; at = n; len = b.len })) (map Ok bs)) same
    ∙ with_placed file body end (finite_map.insert held b.cid (record { file = file; at = body + b.at; len = b.len })) bs small (All-tail (LiesInBody end) b bs all)
