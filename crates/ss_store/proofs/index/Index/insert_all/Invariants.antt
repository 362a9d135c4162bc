use Rattle.std.proofs.Common.{◌≡◌}
use Rattle.ss_records.specs.Places.{places_left}
use Rattle.ss_store.specs.Places.{has_fault, with_places}
use Rattle.ss_store.proofs.index.Index.insert_all.Given as goal

abbrev pub invariant-loop-block : goal.invariant-loop-block
invariant-loop-block l = record {
  faults : has_fault (places_left l.block-iterator) ≡ has_fault (places_left l.fn.blocks);
  places : with_places l.file l.body l.self (places_left l.block-iterator) ≡ with_places l.file l.body l.fn.self (places_left l.fn.blocks);
}
