use Rattle.std.proofs.Common.{◌≡◌, [], sym, ap, subst, ◌∙◌}
use Rattle.std.specs.Prelude.{unwrap_or}
use Rattle.std.specs.FinMap as finite_map
use Rattle.ss_core.specs.Found.{IsFound}
use Rattle.ss_core.proofs.Gets.{fetched_is, refilled}
use Rattle.ss_core.proofs.Finding.{own_bytes, not_own, is_held}
use Rattle.ss_core.proofs.split_core.SplitCore.block.Goals as goal

pub returns-in-InCid-clause-block : goal.returns-in-InCid-clause-block
returns-in-InCid-clause-block g c = λ told s doubt stands. own_bytes s.kept c.args.cid.now c.own_block.result c.own_block.ensures.block

pub returns-in-Ok-read-clause-block : goal.returns-in-Ok-read-clause-block
returns-in-Ok-read-clause-block g c = λ told s doubt stands.
    let held = is_held c.args.self.now.hot c.args.cid.now c.in-At.place (subst (λ f. IsFound c.args.self.now.hot c.args.cid.now f) c.in-At.is c.requires) in
    let filled : c.from.result ≡ c.read.new.block = refilled c.in-Ok.block.items c.read.new.block c.from.result _ (c.read.ensures.len ∙ c.as_mut_slice.ensures.len) c.from.ensures in
    filled
    ∙ ap (λ f. unwrap_or f []) (sym (fetched_is s.kept c.args.cid.now (not_own c.args.cid.now held.0) ∙ ap (λ kept. finite_map.get kept c.args.cid.now) stands.state.kept ∙ c.in-Ok-read.ensures.block c.args.cid.now stands.records _ told stands.keeps held.1))
