-- The four bytes of a length, and frames.
use Rattle.std.proofs.Common.{◌≡◌, ℕ, suc, ◌-◌, ◌<◌, ◌≤◌, ◌^◌, List, [], ◌∷◌, ◌++◌, length, take, drop, set, refl, sym, ◌∙◌, ap, arith, length-append, length-drop}
use Rattle.std.specs.Int.{w32, from_be_bytes}
use Rattle.std.proofs.lemmas.Nat.{from_be_bytes-to_be_bytes_4}
use Rattle.std.proofs.lemmas.List.{set-append_right, set_split, drop_all, drop_at, take_at, length-take-le}
use Rattle.ss_gatelog.specs.Log.{length_bytes}
use Rattle.ss_gatelog.specs.GateLog.{body_of}

pub length-length_bytes : (n : ℕ) → length (length_bytes n) ≡ 4
unfolding length_bytes
length-length_bytes n = refl

pub length_bytes-injective : (m n : ℕ) → m < 2 ^ 32 → n < 2 ^ 32 → length_bytes m ≡ length_bytes n → m ≡ n
unfolding length_bytes
length_bytes-injective m n fits_m fits_n same = sym (from_be_bytes-to_be_bytes_4 m fits_m) ∙ ap (from_be_bytes w32) same ∙ from_be_bytes-to_be_bytes_4 n fits_n

pub length-body_of : (frame : List ℕ) → 5 ≤ length frame → length (body_of frame) ≡ length frame - 5
length-body_of frame long = length-take-le (length frame - 5) (drop 4 frame) (omega (arith, length-drop 4 frame))

-- a frame whose first four bytes and last byte were written
pub sealed : (frame front : List ℕ) → 5 ≤ length frame → length front ≡ 4 → set (front ++ drop 4 frame) (length frame - 1) 0 ≡ front ++ (body_of frame ++ 0 ∷ [])
sealed frame front long four =
    let back = drop 4 frame in
    let size : length back ≡ length frame - 4 = length-drop 4 frame in
    let at : length frame - 1 - 4 ≡ length frame - 5 = omega arith in
    let last : drop (suc (length frame - 5)) back ≡ [] = drop_all (suc (length frame - 5)) back (omega (arith, size)) in
    set-append_right front back 4 (length frame - 1) 0 four (omega arith)
    ∙ ap (λ (k : ℕ). front ++ set back k 0) at
    ∙ ap (λ (l : List ℕ). front ++ l) (set_split back (length frame - 5) 0 (omega (arith, size)))
    ∙ ap (λ (l : List ℕ). front ++ (body_of frame ++ 0 ∷ l)) last

-- the body of a frame that was sealed
pub body_of-sealed : (frame : List ℕ) → body_of (length_bytes (length (body_of frame)) ++ (body_of frame ++ 0 ∷ [])) ≡ body_of frame
body_of-sealed frame =
    let body = body_of frame in
    let front = length_bytes (length body) in
    let four = length-length_bytes (length body) in
    let size : length (front ++ (body ++ 0 ∷ [])) - 5 ≡ length body = omega (arith, four, length-append front (body ++ 0 ∷ []), length-append body (0 ∷ [])) in
    ap (λ (n : ℕ). take n (drop 4 (front ++ (body ++ 0 ∷ [])))) size ∙ ap (λ (l : List ℕ). take (length body) l) (drop_at front (body ++ 0 ∷ []) 4 four) ∙ take_at body (0 ∷ []) (length body) refl

pub from_length_bytes : (n : ℕ) (bytes : List ℕ) → n < 2 ^ 32 → length_bytes n ≡ bytes → n ≡ from_be_bytes w32 bytes
unfolding length_bytes
from_length_bytes n bytes fits spells = sym (from_be_bytes-to_be_bytes_4 n fits) ∙ ap (from_be_bytes w32) spells
