-- Byte lists compared by words, with zeros behind the shorter one.
use Rattle.std.proofs.Common.{◌≡◌, ℕ, zero, suc, ◌+◌, ◌-◌, ◌*◌, ◌<◌, ◌≤◌, true, false, List, [], ◌∷◌, ◌++◌, length, take, drop, get_or, replicate, All, Ordering, Less, Equal, Greater, nat_cmp, refl, ap, ap₂, sym, ◌∙◌, arith}
use Rattle.std.specs.Ordering.{ordering_then, is_ne}
use Rattle.std.specs.Cmp.Lexicographic.{slice_cmp}
use Rattle.std.specs.Int.Digits.{number_from_digits}
use Rattle.std.proofs.lemmas.Int.Digits.{number_more}
use Rattle.std.proofs.lemmas.Bool.Decides.{nat_tests}
use Rattle.std.proofs.lemmas.List.{take_more, take_all, take-take, take-append-drop, drop-take, length-take, length-take-le, length-drop}
use Rattle.std.proofs.lemmas.List.Elements.{All-take, All-drop}
use Rattle.std.proofs.Math.Numerals.{add-one}
use Rattle.ss_cid.specs.Base32.{digits}
use Rattle.ss_cid.proofs.Digits.{digits-number}
use Rattle.ss_cid.proofs.Ordered.{tie_itself}

-- ---- one list behind another

then-Equal : (o : Ordering) → ordering_then o Equal ≡ o
then-Equal Less = refl
then-Equal Equal = refl
then-Equal Greater = refl

then_assoc : (o p q : Ordering) → ordering_then (ordering_then o p) q ≡ ordering_then o (ordering_then p q)
then_assoc Less p q = refl
then_assoc Equal p q = refl
then_assoc Greater p q = refl

nat_cmp_self : (x : ℕ) → nat_cmp x x ≡ Equal
nat_cmp_self x = grind (arith, nat_tests)

-- lists of one length are compared before what stands behind them
pub slice_cmp-append : (xs ys zs ws : List ℕ) → length xs ≡ length ys
    → slice_cmp nat_cmp (xs ++ zs) (ys ++ ws) ≡ ordering_then (slice_cmp nat_cmp xs ys) (slice_cmp nat_cmp zs ws)
slice_cmp-append [] [] zs ws same = refl
slice_cmp-append [] (y ∷ ys) zs ws same = absurd (omega arith)
slice_cmp-append (x ∷ xs) [] zs ws same = absurd (omega arith)
slice_cmp-append (x ∷ xs) (y ∷ ys) zs ws same =
    ap (ordering_then (nat_cmp x y)) (slice_cmp-append xs ys zs ws (omega arith)) ∙ sym (then_assoc (nat_cmp x y) (slice_cmp nat_cmp xs ys) (slice_cmp nat_cmp zs ws))

-- ---- a word is compared as its bytes

-- a digit more
nat_cmp_more : (p q x y : ℕ) → x < 256 → y < 256 → nat_cmp (p * 256 + x) (q * 256 + y) ≡ ordering_then (nat_cmp p q) (nat_cmp x y)
nat_cmp_more p q x y small other = grind (arith, nat_tests)

module _ (xs ys : List ℕ) (small : All (λ b. b < 256) xs) (others : All (λ b. b < 256) ys) (same : length xs ≡ length ys) where
  cmp_take : (i : ℕ) → i ≤ length xs → slice_cmp nat_cmp (take i xs) (take i ys) ≡ nat_cmp (number_from_digits 256 (take i xs)) (number_from_digits 256 (take i ys))
  cmp_take zero less = refl
  cmp_take (suc i) less =
      let there : i < length xs = omega arith in
      let here : i < length ys = omega (arith, same) in
      let x = get_or xs i 0 in
      let y = get_or ys i 0 in
      let front : length (take i xs) ≡ length (take i ys) = omega (arith, same, length-take i xs, length-take i ys) in
      let more : take (suc i) xs ≡ take i xs ++ x ∷ [] = ap (λ m. take m xs) (sym (add-one i)) ∙ take_more xs i 0 there in
      let others_more : take (suc i) ys ≡ take i ys ++ y ∷ [] = ap (λ m. take m ys) (sym (add-one i)) ∙ take_more ys i 0 here in
      let number : number_from_digits 256 (take (suc i) xs) ≡ number_from_digits 256 (take i xs) * 256 + x
      = ap (λ m. number_from_digits 256 (take m xs)) (sym (add-one i)) ∙ number_more 256 xs i there in
      let other : number_from_digits 256 (take (suc i) ys) ≡ number_from_digits 256 (take i ys) * 256 + y
      = ap (λ m. number_from_digits 256 (take m ys)) (sym (add-one i)) ∙ number_more 256 ys i here in
      ap₂ (slice_cmp nat_cmp) more others_more
      ∙ slice_cmp-append (take i xs) (take i ys) (x ∷ []) (y ∷ []) front
      ∙ ap₂ ordering_then (cmp_take i (omega arith)) (then-Equal (nat_cmp x y))
      ∙ sym (nat_cmp_more (number_from_digits 256 (take i xs)) (number_from_digits 256 (take i ys)) x y (small i 0 there) (others i 0 here))
      ∙ sym (ap₂ nat_cmp number other)

  -- two words compare as their bytes
  pub slice_cmp-words : slice_cmp nat_cmp xs ys ≡ nat_cmp (number_from_digits 256 xs) (number_from_digits 256 ys)
  slice_cmp-words =
      let all = take_all (length xs) xs (omega arith) in
      let every = take_all (length xs) ys (omega (arith, same)) in
      sym (ap₂ (slice_cmp nat_cmp) all every) ∙ cmp_take (length xs) (omega arith)
      ∙ ap₂ (λ a b. nat_cmp (number_from_digits 256 a) (number_from_digits 256 b)) all every

-- ---- zeros behind

abbrev pub pad : ℕ → List ℕ → List ℕ
pad n xs = xs ++ replicate (n - length xs) 0

pad-cons : (n x : ℕ) (xs : List ℕ) → pad (suc n) (x ∷ xs) ≡ x ∷ pad n xs
pad-cons n x xs = let same : suc n - suc (length xs) ≡ n - length xs = omega arith in ap (λ m. x ∷ (xs ++ replicate m 0)) same

pad-nil : (n : ℕ) → pad n [] ≡ replicate n 0
pad-nil n = let same : n - 0 ≡ n = omega arith in ap (λ m. replicate m 0) same

-- zeros are not greater than zeros behind a list
zeros_below : (n : ℕ) (ys : List ℕ) → length ys ≤ n → ordering_then (slice_cmp nat_cmp (replicate n 0) (pad n ys)) Less ≡ Less
zeros_below n [] short = ap (λ zs. ordering_then (slice_cmp nat_cmp (replicate n 0) zs) Less) (pad-nil n) ∙ ap (λ o. ordering_then o Less) (tie_itself (replicate n 0))
zeros_below zero (y ∷ ys) short = absurd (omega arith)
zeros_below (suc n) (y ∷ ys) short =
    ap (λ zs. ordering_then (slice_cmp nat_cmp (0 ∷ replicate n 0) zs) Less) (pad-cons n y ys)
    ∙ then_assoc (nat_cmp 0 y) (slice_cmp nat_cmp (replicate n 0) (pad n ys)) Less
    ∙ ap (ordering_then (nat_cmp 0 y)) (zeros_below n ys (omega arith)) ∙ least y where
      least : (y : ℕ) → ordering_then (nat_cmp 0 y) Less ≡ Less
      least zero = refl
      least (suc y) = grind (arith, nat_tests)

zeros_above : (n : ℕ) (xs : List ℕ) → length xs ≤ n → ordering_then (slice_cmp nat_cmp (pad n xs) (replicate n 0)) Greater ≡ Greater
zeros_above n [] short = ap (λ zs. ordering_then (slice_cmp nat_cmp zs (replicate n 0)) Greater) (pad-nil n) ∙ ap (λ o. ordering_then o Greater) (tie_itself (replicate n 0))
zeros_above zero (x ∷ xs) short = absurd (omega arith)
zeros_above (suc n) (x ∷ xs) short =
    ap (λ zs. ordering_then (slice_cmp nat_cmp zs (0 ∷ replicate n 0)) Greater) (pad-cons n x xs)
    ∙ then_assoc (nat_cmp x 0) (slice_cmp nat_cmp (pad n xs) (replicate n 0)) Greater
    ∙ ap (ordering_then (nat_cmp x 0)) (zeros_above n xs (omega arith)) ∙ greatest x where
      greatest : (x : ℕ) → ordering_then (nat_cmp x 0) Greater ≡ Greater
      greatest zero = refl
      greatest (suc x) = grind (arith, nat_tests)

-- lists compare as they do with zeros behind them, and else by their lengths
pub slice_cmp-pad : (n : ℕ) (xs ys : List ℕ) → length xs ≤ n → length ys ≤ n
    → slice_cmp nat_cmp xs ys ≡ ordering_then (slice_cmp nat_cmp (pad n xs) (pad n ys)) (nat_cmp (length xs) (length ys))
slice_cmp-pad n [] [] short shorter = sym (ap (λ o. ordering_then o Equal) (tie_itself (pad n [])))
slice_cmp-pad n [] (y ∷ ys) short shorter =
    let longer : nat_cmp 0 (suc (length ys)) ≡ Less = grind (arith, nat_tests) in
    sym (ap₂ (λ zs o. ordering_then (slice_cmp nat_cmp zs (pad n (y ∷ ys))) o) (pad-nil n) longer ∙ zeros_below n (y ∷ ys) shorter)
slice_cmp-pad n (x ∷ xs) [] short shorter =
    let longer : nat_cmp (suc (length xs)) 0 ≡ Greater = grind (arith, nat_tests) in
    sym (ap₂ (λ zs o. ordering_then (slice_cmp nat_cmp (pad n (x ∷ xs)) zs) o) (pad-nil n) longer ∙ zeros_above n (x ∷ xs) short)
slice_cmp-pad zero (x ∷ xs) (y ∷ ys) short shorter = absurd (omega arith)
slice_cmp-pad (suc n) (x ∷ xs) (y ∷ ys) short shorter =
    let lengths : nat_cmp (suc (length xs)) (suc (length ys)) ≡ nat_cmp (length xs) (length ys) = grind (arith, nat_tests) in
    sym (ap₂ (λ a b. ordering_then (slice_cmp nat_cmp a b) (nat_cmp (suc (length xs)) (suc (length ys)))) (pad-cons n x xs) (pad-cons n y ys)
    ∙ then_assoc (nat_cmp x y) (slice_cmp nat_cmp (pad n xs) (pad n ys)) (nat_cmp (suc (length xs)) (suc (length ys)))
    ∙ ap (λ o. ordering_then (nat_cmp x y) (ordering_then (slice_cmp nat_cmp (pad n xs) (pad n ys)) o)) lengths
    ∙ ap (ordering_then (nat_cmp x y)) (sym (slice_cmp-pad n xs ys (omega arith) (omega arith))))

-- ---- word after word

take-add : (n m : ℕ) (xs : List ℕ) → take (n + m) xs ≡ take n xs ++ take m (drop n xs)
take-add n m xs =
    sym (take-append-drop n (take (n + m) xs))
    ∙ ap₂ (λ front rest. front ++ rest) (take-take n (n + m) xs (omega arith)) (drop-take n m xs)

module _ (xs ys : List ℕ) (at : ℕ) (small : All (λ b. b < 256) xs) (others : All (λ b. b < 256) ys) (long : at + 8 ≤ length xs) (longer : at + 8 ≤ length ys)
    (front : take at xs ≡ take at ys) (order : Ordering) (is : order ≡ nat_cmp (number_from_digits 256 (take 8 (drop at xs))) (number_from_digits 256 (take 8 (drop at ys)))) where
  word_len : length (take 8 (drop at xs)) ≡ 8
  word_len = simp (length-take, length-drop) (omega arith)

  other_len : length (take 8 (drop at ys)) ≡ 8
  other_len = simp (length-take, length-drop) (omega arith)

  word_small : All (λ b. b < 256) (take 8 (drop at xs))
  word_small = All-take (λ b. b < 256) 8 (drop at xs) (All-drop (λ b. b < 256) at xs small)

  other_small : All (λ b. b < 256) (take 8 (drop at ys))
  other_small = All-take (λ b. b < 256) 8 (drop at ys) (All-drop (λ b. b < 256) at ys others)

  -- the first words that differ decide
  pub words_differ : true ≡ is_ne order → order ≡ slice_cmp nat_cmp xs ys
  words_differ unlike =
      let split : slice_cmp nat_cmp xs ys ≡ ordering_then (slice_cmp nat_cmp (take at xs) (take at ys)) (slice_cmp nat_cmp (drop at xs) (drop at ys))
      = sym (ap₂ (slice_cmp nat_cmp) (take-append-drop at xs) (take-append-drop at ys))
      ∙ slice_cmp-append (take at xs) (take at ys) (drop at xs) (drop at ys) (ap length front) in
      let tie : slice_cmp nat_cmp (take at xs) (take at ys) ≡ Equal = ap (λ p. slice_cmp nat_cmp p (take at ys)) front ∙ tie_itself (take at ys) in
      let word : slice_cmp nat_cmp (drop at xs) (drop at ys) ≡ ordering_then (slice_cmp nat_cmp (take 8 (drop at xs)) (take 8 (drop at ys))) (slice_cmp nat_cmp (drop 8 (drop at xs)) (drop 8 (drop at ys)))
      = sym (ap₂ (slice_cmp nat_cmp) (take-append-drop 8 (drop at xs)) (take-append-drop 8 (drop at ys)))
      ∙ slice_cmp-append (take 8 (drop at xs)) (take 8 (drop at ys)) _ _ (word_len ∙ sym other_len) in
      let by_word : slice_cmp nat_cmp (take 8 (drop at xs)) (take 8 (drop at ys)) ≡ order
      = slice_cmp-words (take 8 (drop at xs)) (take 8 (drop at ys)) word_small other_small (word_len ∙ sym other_len) ∙ sym is in
      sym (split ∙ ap₂ ordering_then tie (word ∙ ap (λ o. ordering_then o (slice_cmp nat_cmp (drop 8 (drop at xs)) (drop 8 (drop at ys)))) by_word) ∙ decided order (slice_cmp nat_cmp (drop 8 (drop at xs)) (drop 8 (drop at ys))) unlike) where
        decided : (o p : Ordering) → true ≡ is_ne o → ordering_then o p ≡ o
        decided Less p u = refl
        decided Equal p u = absurd (cc)
        decided Greater p u = refl

  -- words that tie are one
  pub words_tie : false ≡ is_ne order → take (at + 8) xs ≡ take (at + 8) ys
  words_tie tie =
      let numbers : number_from_digits 256 (take 8 (drop at xs)) ≡ number_from_digits 256 (take 8 (drop at ys)) = same_number _ _ (sym is ∙ tied order tie) in
      let words : take 8 (drop at xs) ≡ take 8 (drop at ys)
      = sym (digits-number 256 (take 8 (drop at xs)) word_small) ∙ ap₂ (λ k n. digits 256 k n) (word_len ∙ sym other_len) numbers ∙ digits-number 256 (take 8 (drop at ys)) other_small in
      take-add at 8 xs ∙ ap₂ (λ p w. p ++ w) front words ∙ sym (take-add at 8 ys) where
        tied : (o : Ordering) → false ≡ is_ne o → o ≡ Equal
        tied Less t = absurd (cc)
        tied Equal t = refl
        tied Greater t = absurd (cc)

        same_number : (m n : ℕ) → nat_cmp m n ≡ Equal → m ≡ n
        same_number m n e = grind (arith, nat_tests)

-- ---- cells

-- the cells that are in use and zeros are all cells
pad-take : (cells : List ℕ) (n : ℕ) → n ≤ length cells → drop n cells ≡ replicate (72 - n) 0 → pad 72 (take n cells) ≡ cells
pad-take cells n fits zeros =
    ap (λ m. take n cells ++ replicate (72 - m) 0) (length-take-le n cells fits)
    ∙ ap (λ z. take n cells ++ z) (sym zeros) ∙ take-append-drop n cells

-- what is in use compares as all cells do, and else by how many there are
pub cells_compare : (cells others : List ℕ) (n m : ℕ) → n ≤ 72 → m ≤ 72 → length cells ≡ 72 → length others ≡ 72
    → drop n cells ≡ replicate (72 - n) 0 → drop m others ≡ replicate (72 - m) 0
    → slice_cmp nat_cmp (take n cells) (take m others) ≡ ordering_then (slice_cmp nat_cmp cells others) (nat_cmp n m)
cells_compare cells others n m few fewer long longer zeros others_zeros =
    let len : length (take n cells) ≡ n = length-take-le n cells (omega arith) in
    let other_len : length (take m others) ≡ m = length-take-le m others (omega arith) in
    slice_cmp-pad 72 (take n cells) (take m others) (omega arith) (omega arith)
    ∙ ap₂ ordering_then (ap₂ (slice_cmp nat_cmp) (pad-take cells n (omega arith) zeros) (pad-take others m (omega arith) others_zeros)) (ap₂ nat_cmp len other_len)
