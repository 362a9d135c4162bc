-- The groups of a varint, by cases and by places.
use Rattle.std.proofs.Common.{◌≡◌, ℕ, zero, suc, ◌+◌, ◌/◌, ◌%◌, ◌-◌, ◌^◌, ◌<◌, ◌≤◌, List, [], ◌∷◌, ◌++◌, length, take, drop, get_or, All, inl, inr, refl, ap, sym, subst, ◌∙◌, arith}
use Rattle.std.proofs.lemmas.Bool.{cases_lt}
use Rattle.std.proofs.lemmas.List.{get_or-take, get_or-drop, get_or_past, get_or-append-add, get_or_append_left, length-append, drop_at, take_at}
use Rattle.std.proofs.Math.Nat.{pow-suc}
use Rattle.std.proofs.Math.Numerals.{add-one}
use Rattle.ss_cid.specs.Varint.{varint, groups_of, groups_value}
use Rattle.ss_cid.proofs.Varints.{Stands, groups_of-last, groups_of-next, groups_of-few, length-front}

-- the groups of a number, one after another
abbrev pub Groups : List ℕ → ℕ → Type 0
Groups [] n = ⊥
Groups (b ∷ []) n = (b < 128) × (b ≡ n)
Groups (b ∷ c ∷ bs) n = (n % 128 + 128 ≡ b) × (0 < n / 128) × Groups (c ∷ bs) (n / 128)

-- the same by places
pub record AreGroups (gs : List ℕ) (last n : ℕ) : Type 0 where
  pub len : length gs ≡ last + 1
  pub high : (j : ℕ) → j < last → 128 ≤ get_or gs j 0
  pub ends : get_or gs last 0 < 128
  pub shortest : 0 < last → 0 < get_or gs last 0
  pub value : groups_value gs ≡ n

pub AreGroups-from_Groups : (b : ℕ) (bs : List ℕ) (n : ℕ) → Groups (b ∷ bs) n → AreGroups (b ∷ bs) (length bs) n
AreGroups-from_Groups b [] n (small, same) = record {
  len = refl;
  high = λ j less. absurd (omega arith);
  ends = small;
  shortest = λ some. absurd (omega arith);
  value = omega arith;
}
AreGroups-from_Groups b (c ∷ bs) n (same, some, rest) =
    let r = AreGroups-from_Groups c bs (n / 128) rest in
    record {
      len = omega (arith, add-one (length bs));
      high = high_in b c bs (omega arith) r.high;
      ends = r.ends;
      shortest = λ _. last_in c bs (n / 128) some rest r.shortest;
      value = omega (arith, r.value);
    }
  where
    high_in : (b c : ℕ) (bs : List ℕ) → 128 ≤ b → ((j : ℕ) → j < length bs → 128 ≤ get_or (c ∷ bs) j 0) → (j : ℕ) → j < suc (length bs) → 128 ≤ get_or (b ∷ c ∷ bs) j 0
    high_in b c bs large high zero less = large
    high_in b c bs large high (suc j) less = high j (omega arith)

    last_in : (c : ℕ) (bs : List ℕ) (m : ℕ) → 0 < m → Groups (c ∷ bs) m → (0 < length bs → 0 < get_or (c ∷ bs) (length bs) 0) → 0 < get_or (c ∷ bs) (length bs) 0
    last_in c [] m some (small, same) shortest = omega arith
    last_in c (d ∷ bs) m some rest shortest = shortest (omega arith)

Groups-cons : (b : ℕ) (gs : List ℕ) (n : ℕ) → n % 128 + 128 ≡ b → 0 < n / 128 → Groups gs (n / 128) → Groups (b ∷ gs) n
Groups-cons b [] n same some rest = absurd rest
Groups-cons b (c ∷ gs) n same some rest = (same, some, rest)

-- a number below 128 ^ (more + 1) has so many groups at most
pub Groups-groups_of : (more n : ℕ) → n < 128 ^ suc more → Groups (groups_of more n) n
Groups-groups_of zero n small =
    let last : n < 128 = omega arith in
    subst (λ gs. Groups gs n) (sym (groups_of-last zero n last)) (last, refl)
Groups-groups_of (suc more) n small =
    elim (cases_lt n 128) [
      | inl last ↦ subst (λ gs. Groups gs n) (sym (groups_of-last (suc more) n last)) (last, refl)
      | inr large ↦
          let next : groups_of (suc more) n ≡ (n % 128 + 128) ∷ groups_of more (n / 128) = ap (λ m. groups_of m n) (sym (add-one more)) ∙ groups_of-next more n large in
          let fewer : n / 128 < 128 ^ suc more = omega (arith, pow-suc 128 (suc more)) in
          subst (λ gs. Groups gs n) (sym next) (Groups-cons (n % 128 + 128) (groups_of more (n / 128)) n refl (omega arith) (Groups-groups_of more (n / 128) fewer))
    ]

-- one row of groups for each number
pub Groups-same : (gs : List ℕ) (more n : ℕ) → Groups gs n → length gs ≤ suc more → gs ≡ groups_of more n
Groups-same [] more n g few = absurd g
Groups-same (b ∷ []) more n (small, same) few =
    ap (λ x. x ∷ []) same ∙ sym (groups_of-last more n (omega arith))
Groups-same (b ∷ c ∷ bs) zero n g few = absurd (omega arith)
Groups-same (b ∷ c ∷ bs) (suc more) n (same, some, rest) few =
    let next : groups_of (suc more) n ≡ (n % 128 + 128) ∷ groups_of more (n / 128) = ap (λ m. groups_of m n) (sym (add-one more)) ∙ groups_of-next more n (omega arith) in
    let others = Groups-same (c ∷ bs) more (n / 128) rest (omega arith) in
    rw (next, same, others) refl

-- bytes by places are groups one after another
pub Groups-from_AreGroups : (b : ℕ) (bs : List ℕ) (n : ℕ) → ((j : ℕ) → get_or (b ∷ bs) j 0 < 256) → AreGroups (b ∷ bs) (length bs) n
    → Groups (b ∷ bs) n × (0 < get_or (b ∷ bs) (length bs) 0 → 0 < n)
Groups-from_AreGroups b [] n bytes a =
    let small = a.ends in
    let value = a.value in
    ((a.ends, omega arith), λ some. omega arith)
Groups-from_AreGroups b (c ∷ bs) n bytes a =
    let rest : AreGroups (c ∷ bs) (length bs) (groups_value (c ∷ bs)) = record {
      len = omega (arith, a.len);
      high = λ j less. a.high (suc j) (omega arith);
      ends = a.ends;
      shortest = λ _. a.shortest (omega arith);
      value = refl;
    } in
    let r = Groups-from_AreGroups c bs (groups_value (c ∷ bs)) (λ j. bytes (suc j)) rest in
    let large : 128 ≤ b = a.high 0 (omega arith) in
    let byte : b < 256 = bytes 0 in
    let value = a.value in
    let higher : groups_value (c ∷ bs) ≡ n / 128 = omega arith in
    let some : 0 < groups_value (c ∷ bs) = r.1 (a.shortest (omega arith)) in
    ((omega arith, omega arith, subst (λ m. Groups (c ∷ bs) m) higher r.0), λ _. omega arith)

-- groups behind a front, whatever follows them
pub Stands-groups : (front gs rest : List ℕ) (last n : ℕ) → last < 9 → AreGroups gs last n
    → Stands (front ++ (gs ++ rest)) (length front) n (length front + length gs)
Stands-groups front gs rest last n few a =
    let all = front ++ (gs ++ rest) in
    let byte : (j : ℕ) → j < last + 1 → get_or all (length front + j) 0 ≡ get_or gs j 0
    = λ j less. get_or-append-add front (gs ++ rest) j 0 ∙ get_or_append_left gs rest 0 j (omega (arith, a.len)) in
    let final = byte last (omega arith) in
    record {
      last = last;
      few = few;
      there = omega (arith, length-append front (gs ++ rest), length-append gs rest, a.len);
      high = λ j less. rw (byte j (omega arith)) (a.high j less);
      ends = rw final a.ends;
      shortest = rw final a.shortest;
      number_is = ap (λ xs. groups_value (take (last + 1) xs)) (drop_at front (gs ++ rest) (length front) refl) ∙ ap groups_value (take_at gs rest (last + 1) a.len) ∙ a.value;
      end_is = omega (arith, a.len);
    }

-- a varint is read again, whatever follows it
pub varint-Stands : (front rest : List ℕ) (n : ℕ) → n < 2 ^ 63
    → Stands (front ++ (varint n ++ rest)) (length front) n (length front + length (varint n))
unfolding varint
varint-Stands front rest n small = stands (groups_of 8 n) (Groups-groups_of 8 n small) (groups_of-few 8 n) where
  stands : (gs : List ℕ) → Groups gs n → length gs ≤ 9 → Stands (front ++ (gs ++ rest)) (length front) n (length front + length gs)
  stands [] g few = absurd g
  stands (b ∷ bs) g few = Stands-groups front (b ∷ bs) rest (length bs) n (omega arith) (AreGroups-from_Groups b bs n g)

-- what is read is the varint of its number
pub Stands-varint : (bytes : List ℕ) (at n end : ℕ) → ((j : ℕ) → get_or bytes j 0 < 256) → Stands bytes at n end
    → take (end - at) (drop at bytes) ≡ varint n
unfolding varint
Stands-varint bytes at n end fits s =
    let gs = take (s.last + 1) (drop at bytes) in
    let byte : (j : ℕ) → j < s.last + 1 → get_or gs j 0 ≡ get_or bytes (at + j) 0
    = λ j less. get_or-take (s.last + 1) (drop at bytes) j 0 less ∙ get_or-drop at bytes j 0 in
    let len : length gs ≡ s.last + 1 = length-front bytes at (s.last + 1) (omega (arith, s.there)) in
    let groups : AreGroups gs s.last n = record {
      len = len;
      high = λ j less. rw (byte j (omega arith)) (s.high j less);
      ends = rw (byte s.last (omega arith)) s.ends;
      shortest = rw (byte s.last (omega arith)) s.shortest;
      value = s.number_is;
    } in
    let small : (j : ℕ) → get_or gs j 0 < 256 = λ j. elim (cases_lt j (s.last + 1)) [
      | inl less ↦ rw (byte j less) (fits (at + j))
      | inr past ↦ rw (get_or_past gs j 0 (omega arith)) (omega arith)
    ] in
    let count : end - at ≡ s.last + 1 = omega (arith, s.end_is) in
    ap (λ m. take m (drop at bytes)) count ∙ spelled gs s.last groups small s.few
  where
    spelled : (gs : List ℕ) (last : ℕ) → AreGroups gs last n → ((j : ℕ) → get_or gs j 0 < 256) → last < 9 → gs ≡ groups_of 8 n
    spelled [] last a bytes few = absurd (omega (arith, a.len))
    spelled (b ∷ bs) last a bytes few =
        let is : last ≡ length bs = omega (arith, a.len) in
        Groups-same (b ∷ bs) 8 n (Groups-from_AreGroups b bs n bytes (subst (λ m. AreGroups (b ∷ bs) m n) is a)).0 (omega arith)

-- groups are bytes
Groups-bytes : (gs : List ℕ) (n : ℕ) → Groups gs n → All (λ b. b < 256) gs
Groups-bytes [] n g k d less = absurd g
Groups-bytes (b ∷ []) n (small, same) zero d less = omega arith
Groups-bytes (b ∷ []) n (small, same) (suc k) d less = absurd (omega arith)
Groups-bytes (b ∷ c ∷ bs) n (same, some, rest) zero d less = omega arith
Groups-bytes (b ∷ c ∷ bs) n (same, some, rest) (suc k) d less = Groups-bytes (c ∷ bs) (n / 128) rest k d (omega arith)

pub varint-bytes : (n : ℕ) → n < 2 ^ 63 → All (λ b. b < 256) (varint n)
unfolding varint
varint-bytes n small = Groups-bytes (groups_of 8 n) n (Groups-groups_of 8 n small)
