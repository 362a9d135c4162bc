-- Blocks as fields.
use Rattle.std.proofs.Common.{◌≡◌, ℕ, ◌+◌, ◌-◌, ◌^◌, ◌≤◌, List, ◌++◌, length, take, drop, Ok, refl, ap, subst, ◌∙◌, arith}
use Rattle.std.proofs.lemmas.List.{length-drop, append_assoc}
use Rattle.std.specs.Int.{w32}
use Rattle.ss_cid.specs.Cid.{IsCid}
use Rattle.ss_cid.proofs.Chains.{Ok-same}
use Rattle.ss_cid.proofs.Grammar.{IsCid-length}
use Rattle.ss_records.specs.Record.{number, block, BlockFits}
use Rattle.ss_records.specs.Fields.{block_at, bytes_at, number_at, stored_cid_at}
use Rattle.ss_records.proofs.Parts.{IsBytes, Takes, IsField, begins, begins_again}
use Rattle.ss_records.proofs.Numbers.{bytes_at-Ok, number_at-Ok, number_field, bytes_field, wide32}
use Rattle.ss_records.proofs.Cids.{stored_cid_field}

-- a block that a reader took apart
pub block_at-Ok : (bytes cid : List ℕ) (len : ℕ) (rest x y : List ℕ) → stored_cid_at bytes ≡ Ok (cid, drop (length cid) bytes) → length cid ≤ length bytes
    → number_at w32 0 (8388608 - length cid) (drop (length cid) bytes) ≡ Ok (len, rest) → bytes_at len rest ≡ Ok (x, y)
    → (block_at bytes ≡ Ok ((cid, take len (drop 4 (drop (length cid) bytes))), drop len (drop 4 (drop (length cid) bytes))))
    × (length cid + 4 + len ≤ length bytes)
unfolding block_at
block_at-Ok bytes cid len rest x y hc fits hn hb =
    let n = number_at-Ok w32 0 (8388608 - length cid) (drop (length cid) bytes) len rest hn in
    let b = bytes_at-Ok len rest x y hb in (
      rw (hc, hn, hb, ← b.1, ← b.2, ← n.rest_is) refl,
      omega (arith, n.there, ap length n.rest_is, length-drop (length cid) bytes, length-drop 4 (drop (length cid) bytes)),
    )

-- a block whose CID is one
abbrev pub IsBlock : List ℕ × List ℕ → Type 0
IsBlock b = IsCid b.0 × BlockFits b

-- a block that was read is its text
block_parts : (bytes cid one content two three rest : List ℕ) (len : ℕ) → bytes ≡ cid ++ one → one ≡ number w32 len ++ two → two ≡ content ++ rest
    → length content ≡ len → bytes ≡ block (cid, content) ++ rest
block_parts bytes cid one content two three rest len e1 e2 e3 size = simp append_assoc (rw (e1, e2, e3, size) refl)

block_size : (cid content : List ℕ) (len : ℕ) → length content ≡ len → len ≤ 8388608 - length cid → IsCid cid → length cid + length content ≤ 8388608
block_size cid content len size fits is = let short = IsCid-length cid is in omega arith

block_takes : (bytes : List ℕ) (b : List ℕ × List ℕ) (rest : List ℕ) → IsBytes bytes → block_at bytes ≡ Ok (b, rest) → Takes bytes (block b) rest × IsBlock b
unfolding block_at
block_takes bytes b rest small h =
    begins stored_cid_field _ bytes (b, rest) small h _ (λ cid one e1 is small1 h1.
    begins (number_field w32 (2 ^ 32) 0 (8388608 - length cid) wide32 (omega arith)) _ one (b, rest) small1 h1 _ (λ len two e2 between small2 h2.
    begins (bytes_field len) _ two (b, rest) small2 h2 _ (λ content three e3 size small3 h3.
    subst (λ (p : (List ℕ × List ℕ) × List ℕ). Takes bytes (block p.0) p.1 × IsBlock p.0) (Ok-same h3) (
      record { parts = block_parts bytes cid one content two three three len e1 e2 e3 size; rest_bytes = small3 },
      (is.0, (is.1, block_size cid content len size between.1 is.0)),
    ))))

block_again : (b : List ℕ × List ℕ) (rest : List ℕ) → IsBlock b → block_at (block b ++ rest) ≡ Ok (b, rest)
unfolding block_at
block_again b rest is =
    let tail : List ℕ = b.1 ++ rest in
    let regrouped : block b ++ rest ≡ b.0 ++ (number w32 (length b.1) ++ tail) = simp append_assoc refl in
    let fits : length b.1 ≤ 8388608 - length b.0 = let short = IsCid-length b.0 is.0 in omega (arith, is.1.1) in
    ap block_at regrouped
    ∙ begins_again stored_cid_field _ b.0 (number w32 (length b.1) ++ tail) (is.0, is.1.0)
    ∙ begins_again (number_field w32 (2 ^ 32) 0 (8388608 - length b.0) wide32 (omega arith)) _ (length b.1) tail (omega arith, fits)
    ∙ begins_again (bytes_field (length b.1)) _ b.1 rest refl

-- a block is a field
pub block_field : IsField block IsBlock block_at
block_field = record { takes = block_takes; again = block_again }
