-- The front of a group, before a block that is not stored.
use Rattle.std.proofs.Common.{◌≡◌, ◌⊎◌, inl, inr, ⊎_elim, ℕ, zero, suc, ◌<◌, ◌≤◌, List, [], ◌∷◌, ◌++◌, map, length, take, Some, refl, sym, ap, ◌∙◌, subst, arith}
use Rattle.std.specs.Prelude.{slice_get, slice_index_or}
use Rattle.std.proofs.lemmas.List.{length-take, length-map, map-append}
use Rattle.std.proofs.Math.Seq.{take-append_seam}
use Rattle.std.proofs.lemmas.List.Sums.{sum_by-take-le}
use Rattle.std.proofs.lemmas.Option.{slice_get_within}
use Rattle.ss_car.specs.Car.{Section}
use Rattle.ss_model.specs.Lawful.{IsFirstFault, IsSound}
use Rattle.ss_model.specs.declared.TheConstants.{PUT_BYTES}
use Rattle.ss_model.specs.declared.call.PutReply.{PutReply}
use Rattle.ss_model.specs.declared.call.PutReply.TheVariants as put
use Rattle.ss_device.specs.declared.disk.Disk.{Ghosts}
use Rattle.ss_core.specs.declared.split_core.SplitCore.{SplitCore}
use Rattle.ss_core.specs.Replies.{held_bytes, held_put_bytes}
use Rattle.ss_import.specs.declared.fault.BlockFault.{BlockFault}
use Rattle.ss_import.specs.declared.fault.BlockFault.TheVariants as block
use Rattle.ss_import.specs.Import.{pair_of, pair_length, GoTogether, IsGroup}
use Rattle.ss_import.specs.Steps.{IsDueBlock}
use Rattle.ss_import.proofs.Unsound.{not_unknown, not_mismatch, not_malformed}

pub together_front : (pairs : List (List ℕ × List ℕ)) (i : ℕ) → GoTogether pairs → GoTogether (take i pairs)
together_front pairs i (inl one) = inl (omega (arith, one, length-take i pairs))
together_front pairs i (inr group) = inr (omega (arith, group.0, length-take i pairs), omega (arith, group.1, sum_by-take-le pair_length pairs i))

pub fits_front : {D : Type 0} {disk : Ghosts D} (core : SplitCore D disk) (pairs : List (List ℕ × List ℕ)) (i : ℕ) → (length pairs ≤ 1) ⊎ (held_put_bytes core pairs ≤ PUT_BYTES) → (length (take i pairs) ≤ 1) ⊎ (held_put_bytes core (take i pairs) ≤ PUT_BYTES)
fits_front core pairs i (inl one) = inl (omega (arith, one, length-take i pairs))
fits_front core pairs i (inr small) = inr (omega (arith, small, sum_by-take-le (held_bytes core) pairs i))

-- the section at a place: what stands before it, and its offset
pub front_of : (left : List Section) (i : ℕ) (s : Section) → slice_get left i ≡ Some s → (more : List Section) × (left ≡ take i left ++ s ∷ more)
front_of [] i s here = absurd (let no : ⊥ = omega (arith, slice_get_within [] i s here) in no)
front_of (x ∷ left) zero s here = (left, ap (λ y. y ∷ left) (let same : x ≡ s = cc (here) in same))
front_of (x ∷ left) (suc i) s here = let rest = front_of left i s here in (rest.0, ap (λ l. x ∷ l) rest.1)

pub offset_at : (left : List Section) (i d : ℕ) (s : Section) → slice_get left i ≡ Some s → slice_index_or (map (λ (t : Section). t.offset) left) i d ≡ s.offset
offset_at [] i d s here = absurd (let no : ⊥ = omega (arith, slice_get_within [] i s here) in no)
offset_at (x ∷ left) zero d s here = ap (λ (t : Section). t.offset) (let same : x ≡ s = cc (here) in same)
offset_at (x ∷ left) (suc i) d s here = offset_at left i d s here

pub pair_at : (left : List Section) (i : ℕ) (s : Section) → slice_get left i ≡ Some s → slice_get (map pair_of left) i ≡ Some (pair_of s)
pair_at [] i s here = absurd (let no : ⊥ = omega (arith, slice_get_within [] i s here) in no)
pair_at (x ∷ left) zero s here = ap (λ t. Some (pair_of t)) (let same : x ≡ s = cc (here) in same)
pair_at (x ∷ left) (suc i) s here = pair_at left i s here

-- a section stands at each place of its group
pub section_at : (left : List Section) (i : ℕ) → i < length (map pair_of left) → (s : Section) × (slice_get left i ≡ Some s)
section_at [] i within = absurd (let no : ⊥ = omega (arith, within) in no)
section_at (x ∷ left) zero within = (x, refl)
section_at (x ∷ left) (suc i) within = section_at left i (omega (arith, within))

get_take : (pairs : List (List ℕ × List ℕ)) (i k : ℕ) (p : List ℕ × List ℕ) → slice_get (take i pairs) k ≡ Some p → slice_get pairs k ≡ Some p
get_take [] zero k p here = here
get_take [] (suc i) k p here = here
get_take (x ∷ pairs) zero k p here = absurd (let no : ⊥ = omega (arith, slice_get_within [] k p here) in no)
get_take (x ∷ pairs) (suc i) zero p here = here
get_take (x ∷ pairs) (suc i) (suc k) p here = get_take pairs i k p here

-- a block before the first that is not stored has no fault
module _ {D : Type 0} {disk : Ghosts D} (core : SplitCore D disk) (pairs : List (List ℕ × List ℕ)) (i : ℕ) (fault : BlockFault) (some : i ≡ 0 → ⊥) (within : i < length pairs) (due : IsDueBlock core pairs i fault) (fits : (length pairs ≤ 1) ⊎ (held_put_bytes core pairs ≤ PUT_BYTES)) where
  first_at : (reply : PutReply) (f : IsFirstFault pairs reply) → i ≡ f.at → (k : ℕ) (q : List ℕ × List ℕ) → k < i → slice_get pairs k ≡ Some q → IsSound q
  first_at reply f is k q before here = f.before k q (omega (arith, is, before)) here

  sound_before : (k : ℕ) (q : List ℕ × List ℕ) → k < i → slice_get pairs k ≡ Some q → IsSound q
  sound_before = by fault due
    where
      by : (b : BlockFault) → IsDueBlock core pairs i b → (k : ℕ) (q : List ℕ × List ℕ) → k < i → slice_get pairs k ≡ Some q → IsSound q
      by block.TooLarge d = absurd (some d.0)
      by block.UnknownHash d = first_at (put.UnknownHash i) d d.fault.0
      by block.Mismatch d = first_at (put.Mismatch i) d d.fault.0
      by block.Malformed d = first_at (put.Malformed i d.0 d.1) d.2 d.2.fault.0

  sound_in : (reply : PutReply) (f : IsFirstFault (take i pairs) reply) → IsSound f.pair
  sound_in reply f = sound_before f.at f.pair (omega (arith, slice_get_within (take i pairs) f.at f.pair f.stands, length-take i pairs)) (get_take pairs i f.at f.pair f.stands)

  pub none_before : (j : ℕ) (other : BlockFault) → IsDueBlock core (take i pairs) j other → ⊥
  none_before j block.TooLarge d = ⊎_elim (λ one. omega (arith, one, within, nonzero i some)) (λ small. omega (arith, small, d.1, sum_by-take-le (held_bytes core) pairs i)) fits
    where
      nonzero : (n : ℕ) → (n ≡ 0 → ⊥) → 1 ≤ n
      nonzero zero not = absurd (not refl)
      nonzero (suc n) not = omega arith
  none_before j block.UnknownHash d = not_unknown d.pair (sound_in (put.UnknownHash j) d) d.at j d.fault
  none_before j block.Mismatch d = not_mismatch d.pair (sound_in (put.Mismatch j) d) d.at j d.fault
  none_before j block.Malformed d = not_malformed d.2.pair (sound_in (put.Malformed j d.0 d.1) d.2) d.2.at j d.0 d.1 d.2.fault

-- what is not empty has an element
pub some_of : {X : Type 0} (xs : List X) → (xs ≡ [] → ⊥) → 1 ≤ length xs
some_of [] none = absurd (none refl)
some_of (x ∷ xs) none = omega arith

-- sections whose pairs go together, of which there are some
pub group_of : (group : List Section) (pairs : List (List ℕ × List ℕ)) → pairs ≡ map pair_of group → 1 ≤ length pairs → GoTogether pairs → IsGroup group
group_of group pairs same some together = (omega (arith, some, ap length same, length-map group pair_of), subst GoTogether same together)

-- the section that comes after these, and its index
pub here_at : (left front : List Section) (s : Section) (rest : List Section) (i : ℕ) → left ≡ front ++ s ∷ rest → i ≡ length front → slice_get left i ≡ Some s
here_at left front s rest i parts at = rw (parts, at) (go front)
  where
    go : (l : List Section) → slice_get (l ++ s ∷ rest) (length l) ≡ Some s
    go [] = refl
    go (x ∷ l) = go l

-- the pairs of the sections before it
pub front_pairs : (left front : List Section) (s : Section) (rest : List Section) (i : ℕ) → left ≡ front ++ s ∷ rest → i ≡ length front → take i (map pair_of left) ≡ map pair_of front
front_pairs left front s rest i parts at =
    ap (λ l. take i (map pair_of l)) parts ∙ ap (take i) (map-append pair_of front (s ∷ rest))
    ∙ ap (λ n. take n (map pair_of front ++ map pair_of (s ∷ rest))) (at ∙ sym (length-map front pair_of)) ∙ take-append_seam (map pair_of front) (map pair_of (s ∷ rest))
