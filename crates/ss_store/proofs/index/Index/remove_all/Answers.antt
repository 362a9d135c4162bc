use Rattle.std.proofs.Common.{List, ℕ, ◌∷◌, [], ◌++◌, take, sym, ◌∙◌, ap}
use Rattle.std.specs.FinMap as finite_map
use Rattle.std.proofs.lemmas.List.{take_all, take_more}
use Rattle.ss_store.specs.declared.place.Place.{Place}
use Rattle.ss_store.specs.Places.{CidMap, without_cids}
use Rattle.ss_store.proofs.Pairs.{without_cids-push}
use Rattle.ss_store.proofs.index.Index.remove_all.Goals as goal

pub loop-cid-preserved : goal.loop-cid-preserved
loop-cid-preserved c =
    let held = c.args.self.now in
    let cids = c.as_slice-cid-items.result.now in
    let i = c.loop-cid.cid-index in
    let cid = c.cid-item.result in
    let more = take_more cids i cid c.loop-cid-test.true in
    c.remove.ensures
    ∙ ap (λ (m : CidMap Place). finite_map.remove m cid) c.loop-cid.invariant
    ∙ sym (without_cids-push held (take i cids) cid)
    ∙ ap (λ (l : List (List ℕ)). without_cids held l) (ap (λ (x : List ℕ). take i cids ++ x ∷ []) c.cid-item.is ∙ sym more)

pub returns : goal.returns
returns c =
    let cids = c.as_slice-cid-items.result.now in
    let whole = take_all c.loop-cid.cid-index cids c.loop-cid-test.false in
    c.loop-cid.invariant ∙ ap (λ (l : List (List ℕ)). without_cids c.args.self.now l) (whole ∙ c.as_slice-cid-items.ensures)
