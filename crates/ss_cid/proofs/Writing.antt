-- Bytes written as characters, eight bits in and five bits out.
use Rattle.std.proofs.Common.{◌≡◌, ℕ, zero, suc, ◌+◌, ◌-◌, ◌*◌, ◌/◌, ◌%◌, ◌^◌, ◌<◌, ◌≤◌, List, [], ◌∷◌, ◌++◌, map, length, take, drop, set, get_or, refl, ap, ap₂, sym, ◌∙◌, arith, inl, inr}
use Rattle.std.specs.Int.Digits.{number_from_digits}
use Rattle.std.proofs.lemmas.Int.Digits.{number_more}
use Rattle.std.proofs.lemmas.List.{length-map, length-set, map_push, take_all, take_more_set, drop-set-lt, get_or_past, take-append-drop}
use Rattle.std.proofs.lemmas.Bool.{cases_lt}
use Rattle.std.proofs.lemmas.Nat.{shl-shr, pow-add}
use Rattle.std.proofs.Math.Numerals.{add-one}
use Rattle.ss_cid.specs.Base32.{digits, letter, letter_count, letter_values}
use Rattle.ss_cid.specs.Text.{cid_text}
use Rattle.ss_cid.proofs.Digits.{digits-more, length-digits}
use Rattle.ss_cid.proofs.Queues.{feed-mod, feed-div, emit-value, emit-mod, emit-div}
use Rattle.ss_cid.proofs.Varints.{rest_more}

-- the number that the first bytes make, with zeros behind the last
unfoldable pub front : List ℕ → ℕ → ℕ
front bytes zero = 0
front bytes (suc taken) = front bytes taken * 256 + get_or bytes taken 0

pub front-more : (bytes : List ℕ) (taken : ℕ) → front bytes (taken + 1) ≡ front bytes taken * 2 ^ 8 + get_or bytes taken 0
unfolding front
front-more bytes taken = ap (front bytes) (add-one taken)

pub front-take : (bytes : List ℕ) (taken : ℕ) → taken ≤ length bytes → front bytes taken ≡ number_from_digits 256 (take taken bytes)
unfolding front
front-take bytes zero less = refl
front-take bytes (suc taken) less =
    ap (λ n. n * 256 + get_or bytes taken 0) (front-take bytes taken (omega arith))
    ∙ sym (ap (λ m. number_from_digits 256 (take m bytes)) (sym (add-one taken)) ∙ number_more 256 bytes taken (omega arith))

-- so many bytes were taken for k characters, and these bits of them are held
pub record Draws (bytes : List ℕ) (k taken held len high : ℕ) : Type 0 where
  pub count : 8 * taken ≡ 5 * k + len
  pub held_is : held ≡ front bytes taken % 2 ^ len
  pub high_is : front bytes taken / 2 ^ len ≡ high

pub Draws-fed : (bytes : List ℕ) (k taken held len high : ℕ) → get_or bytes taken 0 < 2 ^ 8 → Draws bytes k taken held len high
    → Draws bytes k (taken + 1) (held * 256 + get_or bytes taken 0) (len + 8) high
Draws-fed bytes k taken held len high byte d = record {
  count = omega (arith, d.count);
  held_is = rw (front-more bytes taken, feed-mod (front bytes taken) len 8 (get_or bytes taken 0) byte, d.held_is) refl;
  high_is = rw (front-more bytes taken, feed-div (front bytes taken) len 8 (get_or bytes taken 0) byte) d.high_is;
}

-- what was written of the text: the sign and k characters
pub record Writes (bytes out old : List ℕ) (k taken held len : ℕ) : Type 0 where
  pub out_len : length out ≡ 120
  pub done : take (k + 1) out ≡ 98 ∷ map letter (digits 32 k (front bytes taken / 2 ^ len))
  pub rest : drop (k + 1) out ≡ drop (k + 1) old
  pub count : 8 * taken ≡ 5 * k + len
  pub held_is : held ≡ front bytes taken % 2 ^ len
  pub few : len < 8

pub Writes-draws : (bytes out old : List ℕ) (k taken held len : ℕ) → Writes bytes out old k taken held len
    → Draws bytes k taken held len (front bytes taken / 2 ^ len)
Writes-draws bytes out old k taken held len w = record { count = w.count; held_is = w.held_is; high_is = refl }

-- a character more
pub Writes-more : (bytes out old : List ℕ) (k taken held len taken' held' len' : ℕ) → k < 119 → Writes bytes out old k taken held len
    → Draws bytes k taken' held' len' (front bytes taken / 2 ^ len) → 5 ≤ len' → len' < 13
    → Writes bytes (set out (k + 1) (letter (held' / 2 ^ (len' - 5)))) old (k + 1) taken' (held' % 2 ^ (len' - 5)) (len' - 5)
Writes-more bytes out old k taken held len taken' held' len' fits w d enough few =
    let left = len' - 5 in
    let all = front bytes taken' in
    let split : len' ≡ 5 + left = omega arith in
    let held_now : held' ≡ all % 2 ^ (5 + left) = d.held_is ∙ ap (λ m. all % 2 ^ m) split in
    let high : all / 2 ^ left / 2 ^ 5 ≡ front bytes taken / 2 ^ len = emit-div all left 5 ∙ ap (λ m. all / 2 ^ m) (sym split) ∙ d.high_is in
    let value : held' / 2 ^ left ≡ all / 2 ^ left % 2 ^ 5 = ap (λ h. h / 2 ^ left) held_now ∙ emit-value all left 5 in
    let there : k + 1 < length out = omega (arith, w.out_len) in
    record {
      out_len = length-set out (k + 1) (letter (held' / 2 ^ left)) ∙ w.out_len;
      done = take_more_set out (k + 1) (letter (held' / 2 ^ left)) there
          ∙ ap₂ (λ front last. front ++ letter last ∷ []) (w.done ∙ ap (λ m. 98 ∷ map letter (digits 32 k m)) (sym high)) value
          ∙ ap (λ cs. 98 ∷ cs) (sym (map_push letter (digits 32 k (all / 2 ^ left / 32)) (all / 2 ^ left % 32)) ∙ ap (map letter) (sym (digits-more 32 k (all / 2 ^ left))));
      rest = drop-set-lt (k + 1 + 1) out (k + 1) (letter (held' / 2 ^ left)) (omega arith) ∙ rest_more out old (k + 1) w.rest;
      count = omega (arith, d.count);
      held_is = ap (λ h. h % 2 ^ left) held_now ∙ emit-mod all left 5;
      few = omega arith;
    }

-- all bytes are taken in the end, and a zero byte where the last character has unused bits
whole_number : (bytes : List ℕ) (taken len : ℕ) → len < 8 → 8 * taken ≡ 5 * letter_count (length bytes) + len
    → front bytes taken / 2 ^ len ≡ number_from_digits 256 bytes * 2 ^ (5 * letter_count (length bytes) - 8 * length bytes)
whole_number bytes taken len few count =
    let n = length bytes in
    let unused = 5 * letter_count n - 8 * n in
    let all = number_from_digits 256 bytes in
    let whole : front bytes n ≡ all = front-take bytes n (omega arith) ∙ ap (number_from_digits 256) (take_all n bytes (omega arith)) in
    elim (cases_lt len 1) [
      | inl none ↦
          let zero : len ≡ 0 = omega arith in
          let same : taken ≡ n = omega arith in
          let full : unused ≡ 0 = omega arith in
          rw (zero, same, whole, full) (omega arith)
      | inr some ↦
          let last : taken ≡ n + 1 = omega arith in
          let byte : unused + len ≡ 8 = omega arith in
          let past : get_or bytes n 0 ≡ 0 = get_or_past bytes n 0 (omega arith) in
          let zeros : front bytes (n + 1) ≡ all * 2 ^ unused * 2 ^ len
          = front-more bytes n ∙ ap₂ (λ m b. m * 2 ^ 8 + b) whole past ∙ omega (arith, ap (λ p. all * p) (ap (λ m. 2 ^ m) (sym byte) ∙ pow-add 2 unused len)) in
          rw (last, zeros) (shl-shr (all * 2 ^ unused) len)
    ]

pub Writes-start : (bytes old : List ℕ) → length old ≡ 120 → Writes bytes (set old 0 98) old 0 0 0 0
unfolding digits front
Writes-start bytes old len = record {
  out_len = length-set old 0 98 ∙ len;
  done = take_more_set old 0 98 (omega arith);
  rest = drop-set-lt 1 old 0 98 (omega arith);
  count = refl;
  held_is = refl;
  few = omega arith;
}

pub Writes-end : (bytes out old : List ℕ) (taken held len : ℕ) → Writes bytes out old (letter_count (length bytes)) taken held len
    → (out ≡ cid_text bytes ++ drop (letter_count (length bytes) + 1) old) × (letter_count (length bytes) + 1 ≡ length (cid_text bytes))
unfolding cid_text letter_values
Writes-end bytes out old taken held len w =
    let count = letter_count (length bytes) in
    let number = number_from_digits 256 bytes * 2 ^ (5 * count - 8 * length bytes) in
    let whole = whole_number bytes taken len w.few w.count in
    let text : take (count + 1) out ≡ 98 ∷ map letter (digits 32 count number) = w.done ∙ ap (λ m. 98 ∷ map letter (digits 32 count m)) whole in (
      sym (take-append-drop (count + 1) out) ∙ ap₂ (λ front rest. front ++ rest) text w.rest,
      rw (length-map (digits 32 count number) letter, length-digits 32 count number) (add-one count),
    )
