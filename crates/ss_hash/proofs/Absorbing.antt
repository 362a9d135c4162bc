-- How the hash follows a message as its blocks come.
use Rattle.std.proofs.Common.{◌≡◌, ℕ, zero, suc, ◌+◌, ◌-◌, ◌*◌, ◌/◌, ◌%◌, ◌^◌, ◌<◌, ◌≤◌, true, false, List, ◌++◌, length, take, drop, replicate, refl, sym, ap, ◌∙◌, arith, length-append, length-drop, take-add}
use Rattle.std.proofs.lemmas.List.{take-append-le, drop-append-le, take_all, drop_all, append_assoc, length-replicate, drop-drop, take-append-drop}
use Rattle.ss_hash.specs.Blake2b.{hash_after, compress, block_at, block_count, padded, final_hash, initial}
use Rattle.ss_hash.specs.State.{IsAbsorbed}
use Rattle.ss_hash.specs.declared.state.State.{State}

-- the hash reads only the blocks that it counts
pub hash_after-append : (h p x : List ℕ) (n : ℕ) → 128 * n ≤ length p → hash_after h (p ++ x) n ≡ hash_after h p n
unfolding hash_after
hash_after-append h p x zero fits = refl
hash_after-append h p x (suc n) fits =
    let long : 128 ≤ length (drop (128 * n) p) = omega (arith, length-drop (128 * n) p) in
    let block : block_at (p ++ x) n ≡ block_at p n =
    rw (drop-append-le (128 * n) p x (omega arith)) (take-append-le 128 (drop (128 * n) p) x long) in
    rw (block, hash_after-append h p x n (omega arith)) refl

-- the block at the end of whole blocks
pub block_at-append : (m b : List ℕ) (n : ℕ) → length m ≡ 128 * n → length b ≡ 128 → block_at (m ++ b) n ≡ b
block_at-append m b n e l =
    rw (drop-append-le (128 * n) m b (omega arith), drop_all (128 * n) m (omega arith)) (take_all 128 b (omega arith))

-- one more block
pub absorbed_next : (s t : State) (n : ℕ) (m b : List ℕ) → IsAbsorbed s n m → length b ≡ 128 → length m + length b < 2 ^ 64
    → t.count ≡ (s.count + 128) % 2 ^ 64 → t.hash ≡ compress s.hash b t.count false → IsAbsorbed t n (m ++ b)
unfolding hash_after
absorbed_next s t n m b a l short count hash =
    let q : ℕ = length m / 128 in
    let len : length (m ++ b) ≡ length m + 128 = rw (length-append m b, l) refl in
    let at : length m ≡ 128 * q = omega (arith, a.whole) in
    let more : length (m ++ b) / 128 ≡ suc q = omega arith in
    let count_is : t.count ≡ 128 * (q + 1) = omega (arith, a.count) in
    record {
      count = omega (arith, a.count);
      whole = omega arith;
      hash = rw (more, hash_after-append (initial n) m b q (omega arith), block_at-append m b q at l, ← a.hash, ← count_is) hash;
    }

-- the blocks before the last: m bytes of whole blocks, and r bytes more
blocks_before : (m r : ℕ) → m % 128 ≡ 0 → r ≤ 128 → (r ≡ 0 → m ≡ 0) → block_count (m + r) ≡ m / 128 + 1
blocks_before m zero whole small waits = let none : m ≡ 0 = waits refl in omega arith
blocks_before m (suc r) whole small waits = omega arith

-- the last block, which may be the only one
pub finished : (s : State) (n c : ℕ) (m r block h : List ℕ) → IsAbsorbed s n m → length r ≤ 128 → length m + length r < 2 ^ 64
    → (length r ≡ 0 → length m ≡ 0) → block ≡ r ++ replicate (128 - length r) 0 → c ≡ (s.count + length r) % 2 ^ 64
    → h ≡ compress s.hash block c true → h ≡ final_hash n (m ++ r)
unfolding final_hash
finished s n c m r block h a small short waits eb ec eh =
    let q : ℕ = length m / 128 in
    let len : length (m ++ r) ≡ length m + length r = length-append m r in
    let at : length m ≡ 128 * q = omega (arith, a.whole) in
    let blocks : block_count (length (m ++ r)) ≡ q + 1 = rw len (blocks_before (length m) (length r) a.whole small waits) in
    let before : block_count (length (m ++ r)) - 1 ≡ q = omega arith in
    let zeros : 128 * block_count (length (m ++ r)) - length (m ++ r) ≡ 128 - length r = omega arith in
    let filled : padded (m ++ r) ≡ m ++ block = rw (zeros, append_assoc, eb) refl in
    let count : c ≡ length (m ++ r) = omega (arith, a.count) in
    let whole : length block ≡ 128 = rw (eb, length-append, length-replicate) (omega arith) in
    rw (before, filled, hash_after-append (initial n) m block q (omega arith), block_at-append m block q at whole, ← a.hash, ← count) eh

-- a block more at the front of some bytes
pub front_more : (bytes rest block others : List ℕ) → rest ≡ drop (length bytes - length rest) bytes → length rest ≤ length bytes
    → 128 ≤ length rest → block ≡ take 128 rest → others ≡ drop 128 rest
    → (others ≡ drop (length bytes - length others) bytes)
    × (take (length bytes - length others) bytes ≡ take (length bytes - length rest) bytes ++ block)
front_more bytes rest block others left within long eb eo =
    let k : ℕ = length bytes - length rest in
    let len : length others ≡ length rest - 128 = ap length eo ∙ length-drop 128 rest in
    let at : length bytes - length others ≡ k + 128 = omega arith in (
      rw at (eo ∙ ap (drop 128) left ∙ drop-drop 128 k bytes ∙ ap (λ (i : ℕ). drop i bytes) (omega arith)),
      rw at (take-add k 128 bytes ∙ ap (λ (b : List ℕ). take k bytes ++ b) (ap (take 128) (sym left) ∙ sym eb)),
    )

-- the bytes at the front and the rest are all bytes
pub front_rest : (bytes rest : List ℕ) → rest ≡ drop (length bytes - length rest) bytes
    → take (length bytes - length rest) bytes ++ rest ≡ bytes
front_rest bytes rest left =
    ap (λ (r : List ℕ). take (length bytes - length rest) bytes ++ r) left ∙ take-append-drop (length bytes - length rest) bytes
