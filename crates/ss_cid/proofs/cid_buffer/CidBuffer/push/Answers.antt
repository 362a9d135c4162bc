use Rattle.std.proofs.Common.{◌≡◌, ◌+◌, ◌∙◌, length, sym, ap, arith}
use Rattle.std.proofs.lemmas.List.{length-set, length-take-le, drop-set-lt}
use Rattle.ss_cid.proofs.Lists.{drop_more_zeros}
use Rattle.ss_cid.proofs.cid_buffer.CidBuffer.push.Goals as goal

pub invariant_of-self : goal.invariant_of-self
invariant_of-self c =
    let r = c.self.inside in
    let len : length c.args.self.now ≡ r.len = ap length (sym c.self.view_is) ∙ length-take-le r.len r.cells (omega (arith, c.self.invariant.1)) in (
      omega arith,
      length-set r.cells _ _ ∙ c.self.invariant.1,
      drop_more_zeros r.cells _ r.len 1 (drop-set-lt (r.len + 1) r.cells _ _ (omega arith)) c.self.invariant.2,
    )
