-- What a put or a head needs of a log is what its record takes.
use Rattle.std.proofs.Common.{◌≡◌, ℕ, ◌+◌, List, ◌++◌, length, ◌∙◌, arith, length-append}
use Rattle.std.specs.Prelude.{sum_by}
use Rattle.std.specs.List.{flat_map}
use Rattle.std.specs.Int.{w8, w16, w32, w64, to_be_bytes}
use Rattle.std.proofs.lemmas.List.Concat.{length-flat_map}
use Rattle.ss_records.specs.Record.{spelling, block, row, number}
use Rattle.ss_records.specs.declared.record.Record.TheVariants.{Put, Head}
use Rattle.ss_model.specs.Head.{head_need}
use Rattle.ss_model.specs.Lawful.{written_bytes, pairs_need}

block_takes : (p : List ℕ × List ℕ) → length (block p) ≡ written_bytes p
unfolding number
block_takes p = omega (arith, length-append p.0 (to_be_bytes w32 (length p.1) ++ p.1), length-append (to_be_bytes w32 (length p.1)) p.1)

blocks_take : (pairs : List (List ℕ × List ℕ)) → length (flat_map block pairs) ≡ sum_by written_bytes pairs
blocks_take pairs = length-flat_map block pairs ∙ (λ i. sum_by (λ p. block_takes p i) pairs)

pub record_takes : (pairs : List (List ℕ × List ℕ)) → pairs_need pairs ≡ 5 + length (spelling (Put pairs))
unfolding spelling number
record_takes pairs = omega (arith, length-append (to_be_bytes w16 (length pairs)) (flat_map block pairs), blocks_take pairs)

row_takes : (cids : List (List ℕ)) → length (row cids) ≡ sum_by length cids
row_takes cids = length-flat_map (λ cid. cid) cids

pub head_takes : (height : ℕ) (cids : List (List ℕ)) → head_need cids ≡ 5 + length (spelling (Head height cids))
unfolding spelling number
head_takes height cids = omega (arith, length-append (to_be_bytes w8 (length cids)) (to_be_bytes w64 height ++ row cids), length-append (to_be_bytes w64 height) (row cids), row_takes cids)
