-- Bytes that were read of a file, and where they stand in it.
use Rattle.std.proofs.Common.{◌≡◌, inl, inr, ℕ, ◌+◌, ◌-◌, ◌≤◌, min, List, ◌++◌, length, take, drop, get_or, sym, ◌∙◌, ap, subst, arith, length-append, length-drop, take-append-drop}
use Rattle.std.specs.Prelude.{slice_index, slice_range}
use Rattle.std.proofs.lemmas.Bool.{cases_lt}
use Rattle.std.proofs.lemmas.List.{take_at, take_all, take_rest, drop_all, append-nil, length-take, drop-take, drop-drop, get_or-take, get_or-drop, length-take-le, take-take}
use Rattle.ss_gatelog.specs.Gate.{IsPiece}

-- the bytes of a piece from an offset on
piece_dropped : (file piece : List ℕ) (at offset : ℕ) → IsPiece file at piece → offset ≤ length piece → IsPiece file (at + offset) (drop offset piece)
piece_dropped file piece at offset is inside =
    let len = length piece in
    let size = length-drop offset piece in
    let count : at + len - at ≡ len = omega arith in
    let parts : len ≡ offset + (len - offset) = omega arith in
    let back : len - offset ≡ at + offset + length (drop offset piece) - (at + offset) = omega (arith, size) in
    ap (λ (l : List ℕ). drop offset l) (is ∙ ap (λ (k : ℕ). take k (drop at file)) (count ∙ parts))
    ∙ drop-take offset (len - offset) (drop at file)
    ∙ ap (λ (l : List ℕ). take (len - offset) l) (drop-drop offset at file)
    ∙ ap (λ (k : ℕ). take k (drop (at + offset) file)) back

pub piece_on : (file piece : List ℕ) (at offset : ℕ) → IsPiece file at piece → offset ≤ length piece → IsPiece file (at + offset) (slice_range piece offset (length piece))
piece_on file piece at offset is inside = subst (IsPiece file (at + offset)) (sym (take_rest piece offset)) (piece_dropped file piece at offset is inside)

take_both : (n m : ℕ) (xs : List ℕ) → take (n + m) xs ≡ take n xs ++ take m (drop n xs)
take_both n m xs = sym (take-append-drop n (take (n + m) xs)) ∙ ap (λ (l : List ℕ). l ++ drop n (take (n + m) xs)) (take-take n (n + m) xs (omega arith)) ∙ ap (λ (l : List ℕ). take n xs ++ l) (drop-take n m xs)

-- bytes that follow those of a piece
pub piece_grows : (file piece more : List ℕ) (at : ℕ) → IsPiece file at piece → IsPiece file (at + length piece) more → IsPiece file at (piece ++ more)
piece_grows file piece more at is is' =
    let n = length piece in
    let m = length more in
    let size = length-append piece more in
    let first : at + n - at ≡ n = omega arith in
    let second : at + n + m - (at + n) ≡ m = omega arith in
    let both : n + m ≡ at + length (piece ++ more) - at = omega (arith, size) in
    ap (λ (l : List ℕ). l ++ more) (is ∙ ap (λ (k : ℕ). take k (drop at file)) first)
    ∙ ap (λ (l : List ℕ). take n (drop at file) ++ l) (is' ∙ ap (λ (k : ℕ). take k (drop (at + n) file)) second ∙ ap (λ (l : List ℕ). take m l) (sym (drop-drop n at file)))
    ∙ sym (take_both n m (drop at file))
    ∙ ap (λ (k : ℕ). take k (drop at file)) both

-- what the first bytes of a piece are, the file has at the piece's place
module _ (file piece : List ℕ) (at : ℕ) (is : IsPiece file at piece) where
  same : piece ≡ take (length piece) (drop at file)
  same = let count : at + length piece - at ≡ length piece = omega arith in is ∙ ap (λ (k : ℕ). take k (drop at file)) count

  pub piece_gate : 1 ≤ length piece → slice_index piece 0 ≡ slice_index file at
  piece_gate some = ap (λ (l : List ℕ). get_or l 0 0) same ∙ get_or-take (length piece) (drop at file) 0 0 (omega (arith, some)) ∙ get_or-drop at file 0 0 ∙ ap (λ (k : ℕ). get_or file k 0) (let place : at + 0 ≡ at = omega arith in place)

  pub piece_length : 5 ≤ length piece → slice_range piece 1 5 ≡ slice_range file (at + 1) (at + 5)
  piece_length inside =
      let len = length piece in
      let parts : len ≡ 1 + (len - 1) = omega arith in
      let back : 4 ≡ at + 5 - (at + 1) = omega arith in
      let left : drop 1 piece ≡ take (len - 1) (drop 1 (drop at file)) =
      ap (λ (l : List ℕ). drop 1 l) (same ∙ ap (λ (k : ℕ). take k (drop at file)) parts) ∙ drop-take 1 (len - 1) (drop at file) in
      ap (λ (l : List ℕ). take 4 l) left
      ∙ take-take 4 (len - 1) (drop 1 (drop at file)) (omega arith)
      ∙ ap (λ (l : List ℕ). take 4 l) (drop-drop 1 at file)
      ∙ ap (λ (k : ℕ). take k (drop (at + 1) file)) back

-- a piece that was read into the front of a buffer
pub read_piece : (file buffer out : List ℕ) (at len : ℕ) → length out ≡ length (take len buffer) → out ≡ slice_range file at (at + length (take len buffer))
    → take len (out ++ drop len buffer) ≡ slice_range file at (at + length (take len (out ++ drop len buffer)))
read_piece file buffer out at len long read =
    let piece : take len (out ++ drop len buffer) ≡ out = elim (cases_lt (length buffer) len) [
      | inl past ↦
          take_all len (out ++ drop len buffer) (omega (arith, long, length-append out (drop len buffer), length-drop len buffer, length-take len buffer))
          ∙ ap (λ (l : List ℕ). out ++ l) (drop_all len buffer (omega arith))
          ∙ append-nil out
      | inr within ↦ take_at out (drop len buffer) len (omega (arith, long, length-take len buffer))
    ] in
    piece ∙ read ∙ ap (λ (n : ℕ). slice_range file at (at + n)) (sym long ∙ ap (length {A = ℕ}) (sym piece))

-- ---- a row of bytes in a buffer

pub length_range : (xs : List ℕ) (i j : ℕ) → i ≤ j → j ≤ length xs → length (slice_range xs i j) ≡ j - i
length_range xs i j up inside = length-take-le (j - i) (drop i xs) (omega (arith, length-drop i xs))

-- its first bytes leave it
pub drop_range : (xs : List ℕ) (i j n : ℕ) → i + n ≤ j → drop n (slice_range xs i j) ≡ slice_range xs (i + n) j
drop_range xs i j n inside =
    let parts : j - i ≡ n + (j - (i + n)) = omega arith in
    ap (λ (k : ℕ). drop n (take k (drop i xs))) parts ∙ drop-take n (j - (i + n)) (drop i xs) ∙ ap (λ (l : List ℕ). take (j - (i + n)) l) (drop-drop n i xs)

-- the bytes after the first five
pub body_range : (xs : List ℕ) (n : ℕ) → slice_range xs (min n 5) n ≡ drop 5 (take n xs)
body_range xs n = elim (cases_lt 5 n) [
  | inl more ↦
      let five : min n 5 ≡ 5 = omega arith in
      let parts : 5 + (n - 5) ≡ n = omega arith in
      ap (λ (k : ℕ). slice_range xs k n) five ∙ sym (drop-take 5 (n - 5) xs) ∙ ap (λ (k : ℕ). drop 5 (take k xs)) parts
  | inr few ↦
      let all : min n 5 ≡ n = omega arith in
      let none : n - n ≡ 0 = omega arith in
      ap (λ (k : ℕ). slice_range xs k n) all ∙ ap (λ (k : ℕ). take k (drop n xs)) none ∙ sym (drop_all 5 (take n xs) (omega (arith, few, length-take n xs)))
]

-- the body of a record, and what follows it, in a piece that begins at its gate
module _ (file window : List ℕ) (at next : ℕ) (is : IsPiece file at window) (past : at + 5 ≤ next) (inside : next - at ≤ length window) where
  pub piece_body : drop 5 (take (next - at) window) ≡ slice_range file (at + 5) next
  piece_body =
      let n = next - at in
      let len = length window in
      let count : at + len - at ≡ len = omega arith in
      let parts : n ≡ 5 + (next - (at + 5)) = omega arith in
      ap (λ (l : List ℕ). drop 5 (take n l)) (is ∙ ap (λ (k : ℕ). take k (drop at file)) count)
      ∙ ap (λ (l : List ℕ). drop 5 l) (take-take n len (drop at file) inside)
      ∙ ap (λ (k : ℕ). drop 5 (take k (drop at file))) parts
      ∙ drop-take 5 (next - (at + 5)) (drop at file)
      ∙ ap (λ (l : List ℕ). take (next - (at + 5)) l) (drop-drop 5 at file)

  pub piece_behind : IsPiece file next (drop (next - at) window)
  piece_behind = let place : at + (next - at) ≡ next = omega arith in subst (λ (k : ℕ). IsPiece file k (drop (next - at) window)) place (piece_dropped file window at (next - at) is inside)
