-- Lists of words.
use Rattle.std.proofs.Common.{◌≡◌, ℕ, zero, suc, ◌*◌, ◌<◌, List, [], ◌∷◌, length, drop, get_or, slice_index, refl, sym, ap, ◌∙◌, arith}
use Rattle.std.proofs.lemmas.List.{ext_get_or, drop-drop}
use Rattle.byteorder.specs.Endian.{little_number, IsRead}
use Rattle.ss_hash.specs.Blake2b.{words}

-- a list of eight items
pub eight : (h : List ℕ) → length h ≡ 8
    → h ≡ slice_index h 0 ∷ slice_index h 1 ∷ slice_index h 2 ∷ slice_index h 3
    ∷ slice_index h 4 ∷ slice_index h 5 ∷ slice_index h 6 ∷ slice_index h 7 ∷ []
eight (a ∷ b ∷ c ∷ d ∷ e ∷ f ∷ g ∷ h ∷ []) p = refl
eight _ p = absurd (omega arith)

pub length-words : (n : ℕ) (bytes : List ℕ) → length (words n bytes) ≡ n
unfolding words
length-words zero bytes = refl
length-words (suc n) bytes = ap suc (length-words n (drop 8 bytes))

-- a word of some bytes
pub get_or-words : (n k : ℕ) (bytes : List ℕ) → k < n → get_or (words n bytes) k 0 ≡ little_number 8 (drop (8 * k) bytes)
unfolding words
get_or-words zero k bytes h = absurd (omega arith)
get_or-words (suc n) zero bytes h = refl
get_or-words (suc n) (suc k) bytes h =
    get_or-words n k (drop 8 bytes) (omega arith) ∙ ap (little_number 8) (drop-drop (8 * k) 8 bytes ∙ ap (λ (i : ℕ). drop i bytes) (omega arith))

-- words that were read of some bytes
pub words_read : (m bytes : List ℕ) (n : ℕ) → length m ≡ n → IsRead (λ i xs. little_number i xs) 8 bytes m → m ≡ words n bytes
words_read m bytes n e r =
    ext_get_or 0 m (words n bytes) (e ∙ sym (length-words n bytes)) (λ i h. r i h ∙ sym (get_or-words n i bytes (omega arith)))
