-- A parcel's pairs and its buffer.
use Rattle.std.proofs.Common.{◌≡◌, ℕ, zero, suc, ◌+◌, ◌-◌, ◌<◌, ◌≤◌, List, [], ◌∷◌, ◌++◌, map, length, take, drop, get_or, slice_get, Bool, true, false, not, ◌&&◌, Some, All, Decides, refl, ap, ap₂, sym, ◌∙◌, arith, below_more}
use Rattle.std.specs.List.{slice_range}
use Rattle.std.proofs.lemmas.List.{take-append-le, drop-append-le, drop_at, take_all, length-drop, map-append, same_lists}
use Rattle.std.specs.Cmp.Lexicographic.{pointwise}
use Rattle.std.proofs.lemmas.Bool.{true≢false}
use Rattle.std.proofs.lemmas.Option.{get_or_from_slice_get}
use Rattle.std.proofs.lemmas.Slice.Eq.{bytes_eq-Decides, slice_eq-Decides}
use Rattle.ss_cid.specs.Cid.{IsCid}
use Rattle.ss_cid.specs.Parcel.{pair_of, pair_eq, IsEntry}
use Rattle.ss_cid.specs.declared.parcel.Entry.{Entry}

All-tail : {X : Type 0} (P : X → Type 0) (x : X) (xs : List X) → All P (x ∷ xs) → All P xs
All-tail P x xs h k d less = h (suc k) d (omega arith)

-- an entry's bytes stay where the buffer grows
range_stays : (buffer bytes : List ℕ) (start end : ℕ) → start ≤ end → end ≤ length buffer
    → slice_range (buffer ++ bytes) start end ≡ slice_range buffer start end
range_stays buffer bytes start end ordered within =
    let fits : end - start ≤ length (drop start buffer) = omega (arith, length-drop start buffer) in
    ap (take (end - start)) (drop-append-le start buffer bytes (omega arith)) ∙ take-append-le (end - start) (drop start buffer) bytes fits

pairs_stay : (buffer bytes : List ℕ) (entries : List Entry) → All (IsEntry buffer) entries
    → map (pair_of (buffer ++ bytes)) entries ≡ map (pair_of buffer) entries
pairs_stay buffer bytes [] h = refl
pairs_stay buffer bytes (e ∷ es) h =
    let is = h 0 e (omega arith) in
    ap₂ (λ r rs. (e.cid, r) ∷ rs) (range_stays buffer bytes e.start e.end is.ordered is.within)
    (pairs_stay buffer bytes es (All-tail (IsEntry buffer) e es h))

-- one more pair, whose bytes are put behind the buffer
pub pairs_push : (buffer bytes : List ℕ) (entries : List Entry) (cid : List ℕ) → All (IsEntry buffer) entries
    → map (pair_of (buffer ++ bytes)) (entries ++ record { cid = cid; start = length buffer; end = length buffer + length bytes } ∷ [])
    ≡ map (pair_of buffer) entries ++ (cid, bytes) ∷ []
pairs_push buffer bytes entries cid h =
    let all : take (length buffer + length bytes - length buffer) bytes ≡ bytes = take_all _ bytes (omega arith) in
    let behind = drop_at buffer bytes (length buffer) refl in
    map-append (pair_of (buffer ++ bytes)) entries _
    ∙ ap₂ (λ rs r. rs ++ (cid, r) ∷ []) (pairs_stay buffer bytes entries h) (ap (take (length buffer + length bytes - length buffer)) behind ∙ all)

-- each pair has a CID
pub pairs_are : (buffer : List ℕ) (entries : List Entry) → All (IsEntry buffer) entries → All (λ p. IsCid p.0) (map (pair_of buffer) entries)
pairs_are buffer [] h k d less = absurd (omega arith)
pairs_are buffer (e ∷ es) h zero d less = (h 0 e (omega arith)).cid
pairs_are buffer (e ∷ es) h (suc k) d less = pairs_are buffer es (All-tail (IsEntry buffer) e es h) k d (omega arith)

-- ---- equality

pairs_decide : (p q : List ℕ × List ℕ) → Decides (pair_eq p q) (p ≡ q)
pairs_decide p q = (
  λ e. ap₂ (λ a b. (a, b)) ((bytes_eq-Decides p.0 q.0).0 (and-left _ _ e)) ((bytes_eq-Decides p.1 q.1).0 (and-right _ _ e)),
  λ e. ap₂ (λ a b. a && b) ((bytes_eq-Decides p.0 q.0).1 (ap (λ x. x.0) e)) ((bytes_eq-Decides p.1 q.1).1 (ap (λ x. x.1) e)),
)
  where
    and-left : (a b : Bool) → (a && b) ≡ true → a ≡ true
    and-left true b h = refl
    and-left false b h = h

    and-right : (a b : Bool) → (a && b) ≡ true → b ≡ true
    and-right true b h = h
    and-right false b h = absurd (cc)

pub parcels_decide : (xs ys : List (List ℕ × List ℕ)) → Decides (pointwise pair_eq xs ys) (xs ≡ ys)
parcels_decide xs ys = slice_eq-Decides pairs_decide xs ys (pointwise pair_eq xs ys) refl

-- lists with a pair that differs are not equal
pub parcels_differ : (xs ys : List (List ℕ × List ℕ)) (i : ℕ) (p q : List ℕ × List ℕ) → slice_get xs i ≡ Some p → slice_get ys i ≡ Some q
    → true ≡ not (pair_eq p q) → false ≡ pointwise pair_eq xs ys
parcels_differ xs ys i p q here there other = sym (decided (pointwise pair_eq xs ys) (parcels_decide xs ys)) where
  decided : (b : Bool) → Decides b (xs ≡ ys) → b ≡ false
  decided false d = refl
  decided true d =
      let same : p ≡ q = sym (get_or_from_slice_get xs i p p here) ∙ ap (λ zs. get_or zs i p) (d.0 refl) ∙ get_or_from_slice_get ys i q p there in
      absurd (true≢false (other ∙ ap not ((pairs_decide p q).1 same)))

-- and lists whose pairs are equal one by one are
pub parcels_same : (xs ys : List (List ℕ × List ℕ)) → length xs ≡ length ys → ((k : ℕ) (d : List ℕ × List ℕ) → k < length xs → get_or xs k d ≡ get_or ys k d)
    → pointwise pair_eq xs ys ≡ true
parcels_same xs ys len same = (parcels_decide xs ys).1 (same_lists xs ys len same)

not-false : (b : Bool) → false ≡ not b → b ≡ true
not-false true h = refl
not-false false h = absurd (cc)

pub pairs_at : (xs ys : List (List ℕ × List ℕ)) (i : ℕ) (p q d : List ℕ × List ℕ) → slice_get xs i ≡ Some p → slice_get ys i ≡ Some q
    → false ≡ not (pair_eq p q) → get_or xs i d ≡ get_or ys i d
pairs_at xs ys i p q d here there is =
    get_or_from_slice_get xs i p d here ∙ (pairs_decide p q).0 (not-false (pair_eq p q) is) ∙ sym (get_or_from_slice_get ys i q d there)

-- one more place
pub pairs_more : (xs ys : List (List ℕ × List ℕ)) (i : ℕ) → ((k : ℕ) (d : List ℕ × List ℕ) → k < i → get_or xs k d ≡ get_or ys k d)
    → ((d : List ℕ × List ℕ) → get_or xs i d ≡ get_or ys i d) → (k : ℕ) (d : List ℕ × List ℕ) → k < i + 1 → get_or xs k d ≡ get_or ys k d
pairs_more xs ys i front last k d = below_more (λ m. get_or xs m d ≡ get_or ys m d) i (λ m. front m d) (last d) k
