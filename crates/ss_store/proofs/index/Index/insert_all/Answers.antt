use Rattle.std.proofs.Common.{◌≡◌, ℕ, List, ◌∷◌, sym, ◌∙◌, ap, arith}
use Rattle.std.specs.Prelude.{Result, Ok, Err, not}
use Rattle.std.specs.FinMap as finite_map
use Rattle.ss_records.specs.declared.fault.RecordFault.{RecordFault}
use Rattle.ss_records.specs.declared.places.BlockPlace.{BlockPlace}
use Rattle.ss_records.specs.declared.places.PutBlocks.{PutBlocks}
use Rattle.ss_records.specs.Places.{places_left}
use Rattle.ss_store.specs.declared.place.Place.{Place}
use Rattle.ss_store.specs.Places.{CidMap, has_fault, with_places}
use Rattle.ss_store.proofs.index.Index.insert_all.Goals as goal

pub loop-block-init : goal.loop-block-init
loop-block-init c =
    let same = c.into_iter-block-iterator.ensures.into_iter_gives in
    record {
      faults = ap (λ (b : PutBlocks). has_fault (places_left b)) same;
      places = ap (λ (b : PutBlocks). with_places c.args.file c.args.body c.args.self.now (places_left b)) same;
    }

pub loop-block-preserved : goal.loop-block-preserved
loop-block-preserved c =
    let was = c.loop-block.invariant in
    let left = places_left c.next.new.self in
    let item : places_left c.loop-block.block-iterator ≡ Ok c.in-Ok.block ∷ left = c.in-Some.ensures.steps ∙ ap (λ (x : Result BlockPlace RecordFault). x ∷ left) c.in-Ok.is in
    record {
      faults = sym (ap has_fault item) ∙ was.faults;
      places =
          ap (λ (m : CidMap Place). with_places c.args.file c.args.body m left) c.in_ok-insert.ensures.ok
          ∙ ap (λ (n : ℕ). with_places c.args.file c.args.body (finite_map.insert c.loop-block.self c.in-Ok.block.cid (record { file = c.args.file; at = n; len = c.in-Ok.block.len })) left) (omega (arith, c.saturating_add.ensures))
          ∙ sym (ap (λ (items : List (Result BlockPlace RecordFault)). with_places c.args.file c.args.body c.loop-block.self items) item)
          ∙ was.places;
    }

pub returns-in_default-clause-whole : goal.returns-in_default-clause-whole
returns-in_default-clause-whole c =
    let left = places_left c.next.new.self in
    let item : places_left c.loop-block.block-iterator ≡ Err c.in_default.field-0 ∷ left = c.in-Some.ensures.steps ∙ ap (λ (x : Result BlockPlace RecordFault). x ∷ left) c.in_default.is in
    ap not (sym (ap has_fault item) ∙ c.loop-block.invariant.faults)

pub returns-clause-whole : goal.returns-clause-whole
returns-clause-whole c = ap not (sym (ap has_fault c.in-None.ensures.steps.0) ∙ c.loop-block.invariant.faults)

pub returns-clause-places : goal.returns-clause-places
returns-clause-places c _ = sym (ap (λ (items : List (Result BlockPlace RecordFault)). with_places c.args.file c.args.body c.loop-block.self items) c.in-None.ensures.steps.0) ∙ c.loop-block.invariant.places
