use Rattle.std.proofs.Common.{◌≡◌, ◌+◌, length, take}
use Rattle.std.specs.List.{flat_map}
use Rattle.ss_records.specs.Record.{block}
use Rattle.ss_store.specs.Places.{with_pairs}
use Rattle.ss_store.proofs.Placing.{placed_all}
use Rattle.ss_store.proofs.index.Index.insert_blocks.Given as goal

abbrev pub invariant-loop-i : goal.invariant-loop-i
invariant-loop-i l = record {
  places : l.self ≡ with_pairs l.fn.self (placed_all l.file l.body (take l.i l.blocks));
  at : l.at ≡ l.body + 3 + length (flat_map block (take l.i l.blocks));
}
