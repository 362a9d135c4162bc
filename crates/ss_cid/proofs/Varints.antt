-- Varints read and written.
use Rattle.std.proofs.Common.{◌≡◌, ℕ, zero, suc, ◌+◌, ◌*◌, ◌/◌, ◌%◌, ◌-◌, ◌^◌, ◌<◌, ◌≤◌, ◌≢◌, min, not, Bool, true, false, ◌&&◌, cond, eqb, ltb, List, [], ◌∷◌, ◌++◌, length, take, drop, get_or, set, Ok, Err, refl, ap, sym, subst, ◌∙◌, arith}
use Rattle.std.proofs.lemmas.List.{get_or-take, get_or-drop, length-take, length-drop, length-set, length-take-le, length_push, drop-set-lt, drop-drop, drop-take, set_split, take_more, take_more_set, append_assoc}
use Rattle.std.proofs.lemmas.List.Sums.{position_or_len_is, prefix_len-le-length, fails_before_first, passes_at_first}
use Rattle.std.proofs.lemmas.Bool.{lt-ltb, le-ltb, ltb-true, ltb-false}
use Rattle.std.proofs.lemmas.Bool.Decides.{nat_tests}
use Rattle.std.proofs.lemmas.Nat.{pow-add}
use Rattle.std.proofs.Math.Nat.{pow-suc, pow-le-pow_right, mul-le-mul_right}
use Rattle.std.proofs.Math.Numerals.{add-one}
use Rattle.ss_cid.specs.Varint.{varint, varint_at, groups_of, groups_value, high_count}
use Rattle.ss_cid.proofs.Chains.{guard-Ok, Ok-both}
use Rattle.ss_cid.specs.declared.fault.CidFault.TheVariants.{Short, LongVarint}

-- the first bytes at a place all have the high bit
abbrev pub AllHigh : List ℕ → ℕ → ℕ → Type 0
AllHigh bytes at k = (j : ℕ) → j < k → 128 ≤ get_or bytes (at + j) 0

-- the group that ends a varint is the first one without the high bit
pub high_count_is : (bytes : List ℕ) (at k : ℕ) → k ≤ 9 → at + k ≤ length bytes → AllHigh bytes at k
    → (k < 9 → at + k < length bytes → get_or bytes (at + k) 0 < 128) → high_count (drop at bytes) ≡ k
high_count_is bytes at k few within high ends =
    position_or_len_is (λ b. ltb b 128) (take 9 (drop at bytes)) k 0 fits before last where
      fits : k ≤ length (take 9 (drop at bytes))
      fits = simp (length-take, length-drop) (omega arith)

      before : (j : ℕ) → j < k → ltb (get_or (take 9 (drop at bytes)) j 0) 128 ≡ false
      before j less =
          let inside : j < 9 = omega arith in
          let is = high j less in
          rw (get_or-take 9 (drop at bytes) j 0 inside, get_or-drop at bytes j 0) (grind (arith, nat_tests))

      last : k < length (take 9 (drop at bytes)) → ltb (get_or (take 9 (drop at bytes)) k 0) 128 ≡ true
      last more =
          let inside : k < 9 = omega (arith, simp (length-take, length-drop) at more) in
          let there : at + k < length bytes = omega (arith, simp (length-take, length-drop) at more) in
          let is = ends inside there in
          rw (get_or-take 9 (drop at bytes) k 0 inside, get_or-drop at bytes k 0) (grind (arith, nat_tests))

-- the bytes end before the varint does
pub varint_at-short : (bytes : List ℕ) (at k : ℕ) → k < 9 → at + k ≡ length bytes → AllHigh bytes at k
    → varint_at bytes at ≡ Err (Short (length bytes))
unfolding varint_at
varint_at-short bytes at k few over high =
    let is = high_count_is bytes at k (omega arith) (omega arith) high (λ _ more. absurd (omega arith)) in
    let len : length (drop at bytes) ≡ k = omega (arith, length-drop at bytes) in
    rw (is, len) (grind (arith, nat_tests))

-- nine bytes have the high bit
pub varint_at-long : (bytes : List ℕ) (at : ℕ) → at + 9 ≤ length bytes → AllHigh bytes at 9
    → varint_at bytes at ≡ Err (LongVarint at)
unfolding varint_at
varint_at-long bytes at within high =
    rw (high_count_is bytes at 9 (omega arith) within high (λ more _. absurd (omega arith))) refl

-- a byte ends the varint: where it is zero and not the first, the form is not the shortest
pub varint_at-ends : (bytes : List ℕ) (at k : ℕ) → k < 9 → at + k < length bytes → AllHigh bytes at k
    → get_or bytes (at + k) 0 < 128
    → varint_at bytes at ≡ cond (ltb 0 k && eqb (get_or bytes (at + k) 0) 0) (Err (LongVarint at)) (Ok (groups_value (take (k + 1) (drop at bytes)), at + k + 1))
unfolding varint_at
varint_at-ends bytes at k few there high ends =
    let is = high_count_is bytes at k (omega arith) (omega arith) high (λ _ _. ends) in
    let nine : eqb k 9 ≡ false = grind (arith, nat_tests) in
    let more : eqb k (length (drop at bytes)) ≡ false = rw (length-drop at bytes) (grind (arith, nat_tests)) in
    rw (is, nine, more, get_or-drop at bytes k 0) refl

-- one more group
pub groups_value-push : (bs : List ℕ) (b : ℕ) → groups_value (bs ++ b ∷ []) ≡ groups_value bs + b % 128 * 128 ^ length bs
groups_value-push [] b = omega arith
groups_value-push (x ∷ bs) b = rw (pow-suc 128 (length bs), groups_value-push bs b) (omega arith)

pub groups_value-lt : (bs : List ℕ) → groups_value bs < 128 ^ length bs
groups_value-lt [] = omega arith
groups_value-lt (x ∷ bs) =
    let rest = groups_value-lt bs in
    rw (pow-suc 128 (length bs)) (omega arith)

pub length-front : (bytes : List ℕ) (at k : ℕ) → at + k ≤ length bytes → length (take k (drop at bytes)) ≡ k
length-front bytes at k within = simp (length-take, length-drop) (omega arith)

pub groups_value_more : (bytes : List ℕ) (at k : ℕ) → at + k < length bytes
    → groups_value (take (k + 1) (drop at bytes)) ≡ groups_value (take k (drop at bytes)) + get_or bytes (at + k) 0 % 128 * 128 ^ k
groups_value_more bytes at k there =
    ap groups_value (take_more (drop at bytes) k 0 (rw (length-drop at bytes) (omega arith)))
    ∙ groups_value-push (take k (drop at bytes)) (get_or (drop at bytes) k 0)
    ∙ rw (get_or-drop at bytes k 0, length-front bytes at k (omega arith)) refl

pub groups_value_front-lt : (bytes : List ℕ) (at k : ℕ) → at + k ≤ length bytes → groups_value (take k (drop at bytes)) < 128 ^ k
groups_value_front-lt bytes at k within =
    rw (length-front bytes at k within) at (groups_value-lt (take k (drop at bytes)))

-- the weight of the next group
pub weight_more : (k : ℕ) → 128 ^ k * 128 ≡ 128 ^ (k + 1)
weight_more k = rw (add-one k) (sym (pow-suc 128 k))

-- the weight of one of the first nine groups
pub weight-le : (k : ℕ) → k < 9 → 128 ^ k ≤ 2 ^ 56
weight-le k few = let fits : k ≤ 8 = omega arith in pow-le-pow_right {n = 128} (omega arith) fits

-- nine groups make a number below 2 ^ 63
pub number_fits : (number group weight : ℕ) → number < weight → group < 128 → weight ≤ 2 ^ 56 → number + group * weight < 2 ^ 63
number_fits number group weight small below fits =
    let most : group * weight ≤ 127 * weight = mul-le-mul_right weight (omega arith) in
    omega arith

-- ---- written

-- a byte without the high bit is the last group
pub groups_of-last : (more n : ℕ) → n < 128 → groups_of more n ≡ n ∷ []
unfolding groups_of
groups_of-last zero n small = refl
groups_of-last (suc more) n small = rw (lt-ltb n 128 small) refl

-- a group that more follow
pub groups_of-next : (more n : ℕ) → 128 ≤ n → groups_of (more + 1) n ≡ (n % 128 + 128) ∷ groups_of more (n / 128)
unfolding groups_of
groups_of-next more n large = rw (add-one more, le-ltb n 128 large) refl

-- at most so many more groups stand behind the first
pub groups_of-few : (more n : ℕ) → length (groups_of more n) ≤ suc more
unfolding groups_of
groups_of-few zero n = omega arith
groups_of-few (suc more) n = few (ltb n 128) (groups_of-few more (n / 128)) where
  few : (b : Bool) → length (groups_of more (n / 128)) ≤ suc more → length (cond b (n ∷ []) ((n % 128 + 128) ∷ groups_of more (n / 128))) ≤ suc (suc more)
  few true less = omega arith
  few false less = omega arith

-- out holds the first k bytes of the varint of n, and the groups of left are the others
pub record Writes (out old : List ℕ) (k left n : ℕ) : Type 0 where
  pub len : length out ≡ 9
  pub small : left < 2 ^ (63 - 7 * k)
  pub front : take k out ++ groups_of (8 - k) left ≡ varint n
  pub rest : drop k out ≡ drop k old

pub Writes-start : (old : List ℕ) (n : ℕ) → length old ≡ 9 → n < 2 ^ 63 → Writes old old 0 n n
unfolding varint
Writes-start old n len small = record { len = len; small = small; front = refl; rest = refl }

pub rest_more : (out old : List ℕ) (k : ℕ) → drop k out ≡ drop k old → drop (k + 1) out ≡ drop (k + 1) old
rest_more out old k same = sym (drop-drop 1 k out) ∙ ap (drop 1) same ∙ drop-drop 1 k old

small_more : (k left : ℕ) → k < 8 → left < 2 ^ (63 - 7 * k) → left / 128 < 2 ^ (63 - 7 * (k + 1))
small_more k left few small =
    let split : 63 - 7 * k ≡ 63 - 7 * (k + 1) + 7 = omega arith in
    let power : 2 ^ (63 - 7 * k) ≡ 2 ^ (63 - 7 * (k + 1)) * 2 ^ 7 = rw split (pow-add 2 (63 - 7 * (k + 1)) 7) in
    omega arith

pub Writes-next : (out old : List ℕ) (k left n : ℕ) → k < 8 → 128 ≤ left → Writes out old k left n
    → Writes (set out k (left % 128 + 128)) old (k + 1) (left / 128) n
Writes-next out old k left n few large w =
    let group = left % 128 + 128 in
    let there : k < length out = omega (arith, w.len) in
    let more : 8 - k ≡ 8 - (k + 1) + 1 = omega arith in
    record {
      len = length-set out k group ∙ w.len;
      small = small_more k left few w.small;
      front = rw (take_more_set out k group there, append_assoc) (sym (ap (λ m. take k out ++ groups_of m left) more ∙ ap (λ gs. take k out ++ gs) (groups_of-next (8 - (k + 1)) left large)) ∙ w.front);
      rest = drop-set-lt (k + 1) out k group (omega arith) ∙ rest_more out old k w.rest;
    }

whole : (out old : List ℕ) (k left n : ℕ) → left < 128 → Writes out old k left n → varint n ≡ take k out ++ left ∷ []
whole out old k left n small w = sym w.front ∙ ap (λ gs. take k out ++ gs) (groups_of-last (8 - k) left small)

pub Writes-length : (out old : List ℕ) (k left n : ℕ) → k < 9 → left < 128 → Writes out old k left n → k + 1 ≡ length (varint n)
Writes-length out old k left n few small w =
    rw (whole out old k left n small w, length_push (take k out) left, length-take-le k out (omega (arith, w.len))) refl

pub Writes-last : (out old : List ℕ) (k left n : ℕ) → k < 9 → left < 128 → Writes out old k left n
    → set out k left ≡ varint n ++ drop (k + 1) old
Writes-last out old k left n few small w =
    rw (set_split out k left (omega (arith, w.len)), whole out old k left n small w, append_assoc, ← rest_more out old k w.rest, add-one k) refl

-- behind eight groups there is room for one more
pub Writes-end : (out old : List ℕ) (k left n : ℕ) → k ≡ 8 → Writes out old k left n → (left < 128) × (set out 8 left ≡ varint n ++ drop 9 old) × (9 ≡ length (varint n))
Writes-end out old k left n end w =
    let small : left < 128 = subst (λ m. left < 2 ^ (63 - 7 * m)) end w.small in
    let eight : Writes out old 8 left n = subst (λ m. Writes out old m left n) end w in
    (small, Writes-last out old 8 left n (omega arith) small eight, Writes-length out old 8 left n (omega arith) small eight)

-- ---- what stands at a place

apart : (m n : ℕ) → eqb m n ≡ false → m ≢ n
apart m n h e = grind (arith, nat_tests)

-- the groups of a varint from a place on
pub record Stands (bytes : List ℕ) (at number end : ℕ) : Type 0 where
  pub last : ℕ
  pub few : last < 9
  pub there : at + last < length bytes
  pub high : AllHigh bytes at last
  pub ends : get_or bytes (at + last) 0 < 128
  pub shortest : 0 < last → 0 < get_or bytes (at + last) 0
  pub number_is : groups_value (take (last + 1) (drop at bytes)) ≡ number
  pub end_is : at + last + 1 ≡ end

pub Stands-from_varint_at : (bytes : List ℕ) (at number end : ℕ) → varint_at bytes at ≡ Ok (number, end) → Stands bytes at number end
unfolding varint_at
Stands-from_varint_at bytes at number end h =
    let rest = drop at bytes in
    let front = take 9 rest in
    let p : ℕ → Bool = λ b. ltb b 128 in
    let k = high_count rest in
    let nine = guard-Ok (eqb k 9) (LongVarint at) _ _ h in
    let more = guard-Ok (eqb k (length rest)) (Short (length bytes)) _ _ nine.1 in
    let one = guard-Ok (ltb 0 k && eqb (get_or rest k 0) 0) (LongVarint at) _ _ more.1 in
    let found = Ok-both one.1 in
    let fits : k ≤ length front = prefix_len-le-length (λ x. not (p x)) front in
    let front_len : length front ≡ min 9 (length bytes - at) = simp (length-take, length-drop) refl in
    let rest_len : length rest ≡ length bytes - at = length-drop at bytes in
    let other : k ≢ 9 = apart k 9 nine.0 in
    let inside : k ≢ length rest = apart k (length rest) more.0 in
    let few : k < 9 = omega arith in
    let there : k < length rest = omega arith in
    let at_last : get_or rest k 0 ≡ get_or bytes (at + k) 0 = get_or-drop at bytes k 0 in
    record {
      last = k;
      few = few;
      there = omega arith;
      high = λ j less. let small : j < 9 = omega arith in rw (get_or-take 9 rest j 0 small, get_or-drop at bytes j 0) at (ltb-false _ _ (fails_before_first p front j 0 less));
      ends = rw (get_or-take 9 rest k 0 few, get_or-drop at bytes k 0) at (ltb-true _ _ (passes_at_first p front 0 (omega arith)));
      shortest = λ some. let is = one.0 in grind (arith, nat_tests);
      number_is = found.0;
      end_is = found.1;
    }

pub Stands-varint_at : (bytes : List ℕ) (at number end : ℕ) → Stands bytes at number end → varint_at bytes at ≡ Ok (number, end)
Stands-varint_at bytes at number end s =
    let is = varint_at-ends bytes at s.last s.few s.there s.high s.ends in
    let shortest = s.shortest in
    let fine : (ltb 0 s.last && eqb (get_or bytes (at + s.last) 0) 0) ≡ false = grind (arith, nat_tests) in
    rw (is, fine, s.number_is, s.end_is) refl

-- only the bytes of the varint itself count
pub Stands-front : (bytes other : List ℕ) (at number end : ℕ) → Stands bytes at number end → take end bytes ≡ take end other → Stands other at number end
Stands-front bytes other at number end s same =
    let long : length (take end bytes) ≡ end = length-take-le end bytes (omega (arith, s.there, s.end_is)) in
    let lengths : length (take end bytes) ≡ length (take end other) = ap length same in
    let enough : end ≤ length other = omega (arith, length-take end other) in
    let byte : (i : ℕ) → i < end → get_or bytes i 0 ≡ get_or other i 0
    = λ i less. sym (get_or-take end bytes i 0 less) ∙ ap (λ xs. get_or xs i 0) same ∙ get_or-take end other i 0 less in
    let end_is : at + (s.last + 1) ≡ end = omega (arith, s.end_is) in
    let groups : take (s.last + 1) (drop at bytes) ≡ take (s.last + 1) (drop at other)
    = sym (drop-take at (s.last + 1) bytes) ∙ ap (λ n. drop at (take n bytes)) end_is ∙ ap (drop at) same ∙ ap (λ n. drop at (take n other)) (sym end_is) ∙ drop-take at (s.last + 1) other in
    let final = byte (at + s.last) (omega (arith, s.end_is)) in
    record {
      last = s.last;
      few = s.few;
      there = omega (arith, s.end_is);
      high = λ j less. rw (← byte (at + j) (omega (arith, s.end_is))) (s.high j less);
      ends = rw (← final) s.ends;
      shortest = rw (← final) s.shortest;
      number_is = ap groups_value (sym groups) ∙ s.number_is;
      end_is = s.end_is;
    }
