-- The places of the blocks of a Put, one more at a time.
use Rattle.std.proofs.Common.{◌≡◌, ℕ, ◌+◌, ◌≤◌, List, [], ◌∷◌, ◌++◌, length, map, take, refl, sym, ◌∙◌, ap, subst, arith, length-append}
use Rattle.std.specs.Prelude.{Some, None, All, slice_get}
use Rattle.std.specs.FinMap as finite_map
use Rattle.std.specs.List.{flat_map}
use Rattle.std.specs.Int.{w32}
use Rattle.std.proofs.lemmas.List.{map-append, take_more, take_all}
use Rattle.std.proofs.lemmas.List.Folds.{length-flat_map-take}
use Rattle.std.proofs.lemmas.List.Elements.{All-head, All-tail, All-cons, All-nil, All-take, All-get_or}
use Rattle.std.proofs.lemmas.Option.{slice_get_within, get_or_from_slice_get}
use Rattle.ss_records.specs.declared.record.Record.TheVariants.{Put}
use Rattle.ss_records.specs.declared.places.BlockPlace.{BlockPlace}
use Rattle.ss_records.specs.Record.{block, number, spelling, BlockFits}
use Rattle.ss_records.specs.Places.{places}
use Rattle.ss_records.proofs.Frames.{flat_map_next}
use Rattle.ss_store.specs.declared.place.Place.{Place}
use Rattle.ss_store.specs.Places.{CidMap, with_pairs, without_cids, placed, LiesBefore}
use Rattle.ss_store.proofs.Pairs.{with_pairs-push, without_cids-push, without_with}

length-block : (b : List ℕ × List ℕ) → length (block b) ≡ length b.0 + 4 + length b.1
unfolding number
length-block b = omega (arith, length-append b.0 (number w32 (length b.1) ++ b.1), length-append (number w32 (length b.1)) b.1)

pub length-Put : (blocks : List (List ℕ × List ℕ)) → length (spelling (Put blocks)) ≡ 3 + length (flat_map block blocks)
unfolding spelling number
length-Put blocks = omega arith

-- the first i + 1 are the first i and one more
pub take-next : {X : Type 0} (xs : List X) (i : ℕ) (x : X) → slice_get xs i ≡ Some x → take (i + 1) xs ≡ take i xs ++ x ∷ []
take-next xs i x h = take_more xs i x (slice_get_within xs i x h) ∙ ap (λ y. take i xs ++ y ∷ []) (get_or_from_slice_get xs i x x h)

-- what holds of each holds of one
pub All-there : {X : Type 0} (P : X → Type 0) (xs : List X) (i : ℕ) (x : X) → slice_get xs i ≡ Some x → All P xs → P x
All-there P xs i x h all = subst P (get_or_from_slice_get xs i x x h) (All-get_or P xs i x (slice_get_within xs i x h) all)

-- a block and those in front of it
pub front-fits : (blocks : List (List ℕ × List ℕ)) (i : ℕ) (b : List ℕ × List ℕ) → slice_get blocks i ≡ Some b → length (flat_map block (take i blocks)) + (length b.0 + 4 + length b.1) ≤ length (flat_map block blocks)
front-fits blocks i b h =
    omega (arith, length-flat_map-take block blocks i b (slice_get_within blocks i b h), ap (λ (x : List ℕ × List ℕ). length (block x)) (get_or_from_slice_get blocks i b b h), length-block b)

-- one block more
pub front-next : (blocks : List (List ℕ × List ℕ)) (i : ℕ) (b : List ℕ × List ℕ) → slice_get blocks i ≡ Some b → length (flat_map block (take (i + 1) blocks)) ≡ length (flat_map block (take i blocks)) + (length b.0 + 4 + length b.1)
front-next blocks i b h = omega (arith, ap (length {A = ℕ}) (flat_map_next block blocks i b h), length-append (flat_map block (take i blocks)) (block b), length-block b)

places-push : (at : ℕ) (bs : List (List ℕ × List ℕ)) (b : List ℕ × List ℕ) → places at (bs ++ b ∷ []) ≡ places at bs ++ record { cid = b.0; at = at + length (flat_map block bs) + length b.0 + 4; len = length b.1 } ∷ []
places-push at [] b = let none : at ≡ at + 0 = omega arith in ap (λ (n : ℕ). record { cid = b.0; at = n + length b.0 + 4; len = length b.1 } ∷ []) none
places-push at (c ∷ bs) b =
    let size : at + length (block c) + length (flat_map block bs) ≡ at + length (flat_map block (c ∷ bs)) = omega (arith, length-append (block c) (flat_map block bs)) in
    ap (λ (l : List BlockPlace). record { cid = c.0; at = at + length c.0 + 4; len = length c.1 } ∷ l)
    (places-push (at + length (block c)) bs b ∙ ap (λ (n : ℕ). places (at + length (block c)) bs ++ record { cid = b.0; at = n + length b.0 + 4; len = length b.1 } ∷ []) size)

-- where blocks lie in a file in which their record's body begins at `body`
abbrev pub placed_all : ℕ → ℕ → List (List ℕ × List ℕ) → List (List ℕ × Place)
placed_all file body bs = map (placed file body) (places 3 bs)

-- one more block joins
pub insert-next : (held : CidMap Place) (file body i at : ℕ) (blocks : List (List ℕ × List ℕ)) (b : List ℕ × List ℕ) → slice_get blocks i ≡ Some b → at ≡ body + 3 + length (flat_map block (take i blocks)) + (length b.0 + 4)
    → finite_map.insert (with_pairs held (placed_all file body (take i blocks))) b.0 (record { file = file; at = at; len = length b.1 }) ≡ with_pairs held (placed_all file body (take (i + 1) blocks))
insert-next held file body i at blocks b h is =
    let front = take i blocks in
    let there : at ≡ body + (3 + length (flat_map block front) + length b.0 + 4) = omega (arith, is) in
    let p = placed file body (record { cid = b.0; at = 3 + length (flat_map block front) + length b.0 + 4; len = length b.1 }) in
    ap (λ (n : ℕ). finite_map.insert (with_pairs held (placed_all file body front)) b.0 (record { file = file; at = n; len = length b.1 })) there
    ∙ sym (with_pairs-push held (placed_all file body front) p)
    ∙ ap (with_pairs held) (sym (map-append (placed file body) (places 3 front) (record { cid = b.0; at = 3 + length (flat_map block front) + length b.0 + 4; len = length b.1 } ∷ [])))
    ∙ ap (λ (l : List BlockPlace). with_pairs held (map (placed file body) l)) (sym (places-push 3 front b))
    ∙ ap (λ (l : List (List ℕ × List ℕ)). with_pairs held (placed_all file body l)) (sym (take-next blocks i b h))

-- one more block leaves
pub remove-block-next : (held : CidMap Place) (i : ℕ) (blocks : List (List ℕ × List ℕ)) (b : List ℕ × List ℕ) → slice_get blocks i ≡ Some b
    → finite_map.remove (without_cids held (map (λ p. p.0) (take i blocks))) b.0 ≡ without_cids held (map (λ p. p.0) (take (i + 1) blocks))
remove-block-next held i blocks b h =
    sym (without_cids-push held (map (λ p. p.0) (take i blocks)) b.0)
    ∙ ap (without_cids held) (sym (map-append (λ (p : List ℕ × List ℕ). p.0) (take i blocks) (b ∷ [])) ∙ ap (map (λ (p : List ℕ × List ℕ). p.0)) (sym (take-next blocks i b h)))

cids-placed : (file body at : ℕ) (bs : List (List ℕ × List ℕ)) → map (λ p. p.0) (map (placed file body) (places at bs)) ≡ map (λ p. p.0) bs
cids-placed file body at [] = refl
cids-placed file body at (b ∷ bs) = ap (λ (l : List (List ℕ)). b.0 ∷ l) (cids-placed file body (at + length (block b)) bs)

none-hot : (held : CidMap Place) (bs : List (List ℕ × List ℕ)) → All (λ p. finite_map.get held p.0 ≡ None) bs → All (λ c. finite_map.get held c ≡ None) (map (λ p. p.0) bs)
none-hot held [] all = All-nil (λ c. finite_map.get held c ≡ None)
none-hot held (b ∷ bs) all = All-cons (λ c. finite_map.get held c ≡ None) b.0 (map (λ p. p.0) bs) (All-head (λ p. finite_map.get held p.0 ≡ None) b bs all) (none-hot held bs (All-tail (λ p. finite_map.get held p.0 ≡ None) b bs all))

-- blocks that were not hot are taken out again
pub undone : (held : CidMap Place) (file body n : ℕ) (blocks : List (List ℕ × List ℕ)) → All (λ p. finite_map.get held p.0 ≡ None) blocks
    → without_cids (with_pairs held (placed_all file body (take n blocks))) (map (λ p. p.0) (take n blocks)) ≡ held
undone held file body n blocks all =
    let front = take n blocks in
    let keys = cids-placed file body 3 front in
    ap (without_cids (with_pairs held (placed_all file body front))) (sym keys)
    ∙ without_with held (placed_all file body front) (subst (All (λ c. finite_map.get held c ≡ None)) (sym keys) (none-hot held front (All-take (λ p. finite_map.get held p.0 ≡ None) n blocks all)))

pub undone-all : (held : CidMap Place) (file body n : ℕ) (blocks : List (List ℕ × List ℕ)) → All (λ p. finite_map.get held p.0 ≡ None) blocks → n ≡ length blocks
    → without_cids (with_pairs held (placed_all file body blocks)) (map (λ p. p.0) (take n blocks)) ≡ held
undone-all held file body n blocks all is =
    let whole : take n blocks ≡ blocks = take_all n blocks (omega (arith, is)) in
    ap (λ (l : List (List ℕ × List ℕ)). without_cids (with_pairs held (placed_all file body l)) (map (λ p. p.0) (take n blocks))) (sym whole) ∙ undone held file body n blocks all

-- blocks that a record may hold lie where their record does
pub placed-before : (file body at end : ℕ) (bs : List (List ℕ × List ℕ)) → body + at + length (flat_map block bs) ≤ end → All BlockFits bs → All (λ p. LiesBefore file end p.0 p.1) (map (placed file body) (places at bs))
placed-before file body at end [] within fit = All-nil (λ p. LiesBefore file end p.0 p.1)
placed-before file body at end (b ∷ bs) within fit =
    let size = length-append (block b) (flat_map block bs) in
    All-cons (λ p. LiesBefore file end p.0 p.1) _ _ (refl, omega (arith, within, size, length-block b), (All-head BlockFits b bs fit).1) (placed-before file body (at + length (block b)) end bs (omega (arith, within, size)) (All-tail BlockFits b bs fit))
