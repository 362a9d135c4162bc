-- Characters read as bytes, five bits in and eight bits out.
use Rattle.std.proofs.Common.{◌≡◌, ℕ, ◌+◌, ◌-◌, ◌*◌, ◌/◌, ◌%◌, ◌^◌, ◌<◌, ◌≤◌, ◌≢◌, true, false, not, eqb, List, [], ◌∷◌, ◌++◌, map, length, take, get_or, Ok, Err, refl, ap, sym, ◌∙◌, arith, below_more}
use Rattle.std.specs.Int.Digits.{number_from_digits}
use Rattle.std.proofs.lemmas.Int.Digits.{number_more}
use Rattle.std.proofs.lemmas.List.{length-map, get_or-map, take_all}
use Rattle.std.proofs.lemmas.List.Sums.{position_or_len_is}
use Rattle.std.proofs.lemmas.Bool.{lt-ltb, le-ltb}
use Rattle.std.proofs.lemmas.Bool.Decides.{nat_tests}
use Rattle.ss_cid.specs.Base32.{digits, is_letter, letter_value, spelled_bytes, unused_bits}
use Rattle.ss_cid.specs.Text.{good_letters, is_cut, letters_bytes, text_bytes}
use Rattle.ss_cid.specs.declared.fault.CidFault.TheVariants.{BadText}
use Rattle.ss_cid.proofs.Digits.{digits-more}
use Rattle.ss_cid.proofs.Queues.{feed-mod, feed-div, emit-value, emit-mod, emit-div}

-- the number that the first k characters make
abbrev pub front : List ℕ → ℕ → ℕ
front letters k = number_from_digits 32 (take k (map letter_value letters))

-- k characters were read, into the bytes in room and the bits that are held
pub record Reads (letters : List ℕ) (k held len : ℕ) (room : List ℕ) : Type 0 where
  pub good : (j : ℕ) → j < k → is_letter (get_or letters j 0) ≡ true
  pub len_is : len ≡ 5 * k % 8
  pub held_is : held ≡ front letters k % 2 ^ len
  pub room_is : room ≡ digits 256 (5 * k / 8) (front letters k / 2 ^ len)

pub Reads-start : (letters : List ℕ) → Reads letters 0 0 0 []
unfolding digits
Reads-start letters = record { good = λ j less. absurd (omega arith); len_is = refl; held_is = refl; room_is = refl }

module _ (letters : List ℕ) (k held len value : ℕ) (room : List ℕ) (r : Reads letters k held len room) (there : k < length letters)
    (good : is_letter (get_or letters k 0) ≡ true) (is : value ≡ letter_value (get_or letters k 0)) (fits : value < 32) where
  good_more : (j : ℕ) → j < k + 1 → is_letter (get_or letters j 0) ≡ true
  good_more = below_more _ _ r.good good

  front_more : front letters (k + 1) ≡ front letters k * 2 ^ 5 + value
  front_more = number_more 32 (map letter_value letters) k (omega (arith, length-map letters letter_value))
      ∙ ap (λ v. front letters k * 32 + v) (get_or-map letter_value letters k 0 0 there ∙ sym is)

  fed_held : held * 2 ^ 5 + value ≡ front letters (k + 1) % 2 ^ (len + 5)
  fed_held = rw (front_more, feed-mod (front letters k) len 5 value fits, r.held_is) refl

  fed_high : front letters (k + 1) / 2 ^ (len + 5) ≡ front letters k / 2 ^ len
  fed_high = rw front_more (feed-div (front letters k) len 5 value fits)

  -- too few bits for a byte
  pub Reads-kept : len + 5 < 8 → Reads letters (k + 1) (held * 2 ^ 5 + value) (len + 5) room
  Reads-kept few =
      let same : 5 * (k + 1) / 8 ≡ 5 * k / 8 = omega (arith, r.len_is) in
      record {
        good = good_more;
        len_is = omega (arith, r.len_is);
        held_is = fed_held;
        room_is = rw (same, fed_high) r.room_is;
      }

  -- a byte leaves
  pub Reads-spilt : 8 ≤ len + 5
      → Reads letters (k + 1) ((held * 2 ^ 5 + value) % 2 ^ (len + 5 - 8)) (len + 5 - 8) (room ++ (held * 2 ^ 5 + value) / 2 ^ (len + 5 - 8) ∷ [])
  Reads-spilt enough =
      let left = len + 5 - 8 in
      let all = front letters (k + 1) in
      let split : len + 5 ≡ 8 + left = omega arith in
      let one : 5 * (k + 1) / 8 ≡ 5 * k / 8 + 1 = omega (arith, r.len_is) in
      let held_now : held * 2 ^ 5 + value ≡ all % 2 ^ (8 + left) = fed_held ∙ ap (λ m. all % 2 ^ m) split in
      let high : all / 2 ^ left / 2 ^ 8 ≡ front letters k / 2 ^ len = emit-div all left 8 ∙ ap (λ m. all / 2 ^ m) (sym split) ∙ fed_high in
      let byte : (held * 2 ^ 5 + value) / 2 ^ left ≡ all / 2 ^ left % 2 ^ 8 = ap (λ h. h / 2 ^ left) held_now ∙ emit-value all left 8 in
      record {
        good = good_more;
        len_is = omega (arith, r.len_is);
        held_is = ap (λ h. h % 2 ^ left) held_now ∙ emit-mod all left 8;
        room_is = rw (byte, one, digits-more 256 (5 * k / 8) (all / 2 ^ left), high) (ap (λ bs. bs ++ all / 2 ^ left % 256 ∷ []) r.room_is);
      }

-- ---- what comes of it

-- a character that is none
pub letters_bytes-bad : (letters : List ℕ) (k held len : ℕ) (room : List ℕ) → Reads letters k held len room → k < length letters
    → is_letter (get_or letters k 0) ≡ false → letters_bytes letters ≡ Err (BadText (k + 1))
unfolding letters_bytes
letters_bytes-bad letters k held len room r there bad =
    let is : good_letters letters ≡ k = position_or_len_is (λ c. not (is_letter c)) letters k 0 (omega arith) (λ j less. ap not (r.good j less)) (λ _. ap not bad) in
    rw (is, lt-ltb k (length letters) there) refl

-- so many characters cut the last one off
is_cut-true : (n : ℕ) → 5 ≤ 5 * n % 8 → is_cut n ≡ true
is_cut-true n many = grind (arith, nat_tests)

is_cut-false : (n : ℕ) → 5 * n % 8 < 5 → is_cut n ≡ false
is_cut-false n few = grind (arith, nat_tests)

module _ (letters : List ℕ) (held len : ℕ) (room : List ℕ) (r : Reads letters (length letters) held len room) where
  all_good : good_letters letters ≡ length letters
  all_good = position_or_len_is (λ c. not (is_letter c)) letters (length letters) 0 (omega arith) (λ j less. ap not (r.good j less)) (λ more. absurd (omega arith))

  all_read : front letters (length letters) ≡ number_from_digits 32 (map letter_value letters)
  all_read = ap (number_from_digits 32) (take_all (length letters) (map letter_value letters) (omega (arith, length-map letters letter_value)))

  rest : held ≡ number_from_digits 32 (map letter_value letters) % 2 ^ unused_bits (length letters)
  rest = rw (← all_read, ← r.len_is) r.held_is

  -- the last character belongs to no byte
  pub letters_bytes-cut : 5 ≤ len → letters_bytes letters ≡ Err (BadText (length letters + 1))
  unfolding letters_bytes
  letters_bytes-cut many =
      rw (all_good, le-ltb (length letters) (length letters) (omega arith), is_cut-true (length letters) (omega (arith, r.len_is))) refl

  -- unused bits are set
  pub letters_bytes-unused : len < 5 → held ≢ 0 → letters_bytes letters ≡ Err (BadText (length letters))
  unfolding letters_bytes
  letters_bytes-unused few set =
      let some : eqb held 0 ≡ false = grind (arith, nat_tests) in
      rw (all_good, le-ltb (length letters) (length letters) (omega arith), is_cut-false (length letters) (omega (arith, r.len_is)), ← rest, some) refl

  -- the bytes
  pub letters_bytes-Ok : len < 5 → held ≡ 0 → letters_bytes letters ≡ Ok room
  unfolding letters_bytes spelled_bytes
  letters_bytes-Ok few none =
      let zero : eqb held 0 ≡ true = grind (arith, nat_tests) in
      let bytes : spelled_bytes (map letter_value letters) ≡ room
      = rw (length-map letters letter_value, ← all_read, ← r.len_is) (sym r.room_is) in
      rw (all_good, le-ltb (length letters) (length letters) (omega arith), is_cut-false (length letters) (omega (arith, r.len_is)), ← rest, zero) (ap Ok bytes)

-- ---- the sign

pub text_bytes-empty : (text : List ℕ) → length text ≡ 0 → text_bytes text ≡ Err (BadText 0)
unfolding text_bytes
text_bytes-empty [] none = refl
text_bytes-empty (c ∷ cs) none = absurd (omega arith)

pub text_bytes-other : (text : List ℕ) (first : ℕ) (letters : List ℕ) → text ≡ first ∷ letters → first ≢ 98 → text_bytes text ≡ Err (BadText 0)
unfolding text_bytes
text_bytes-other text first letters is other =
    let unlike : eqb first 98 ≡ false = grind (arith, nat_tests) in
    rw (is, unlike) refl

pub text_bytes-long : (text : List ℕ) (first : ℕ) (letters : List ℕ) → text ≡ first ∷ letters → first ≡ 98 → 117 < length letters + 1 → text_bytes text ≡ Err (BadText 117)
unfolding text_bytes
text_bytes-long text first letters is sign long = rw (is, sign, lt-ltb 117 (length letters + 1) long) refl

pub text_bytes-letters : (text : List ℕ) (first : ℕ) (letters : List ℕ) → text ≡ first ∷ letters → first ≡ 98 → length letters + 1 ≤ 117 → text_bytes text ≡ letters_bytes letters
unfolding text_bytes
text_bytes-letters text first letters is sign short = rw (is, sign, le-ltb 117 (length letters + 1) short) refl
