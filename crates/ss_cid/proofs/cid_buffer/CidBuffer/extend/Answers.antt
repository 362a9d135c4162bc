use Rattle.std.proofs.Common.{◌≡◌, ◌+◌, ◌-◌, ◌≤◌, ◌∙◌, length, drop, replicate, sym, ap, arith, rules}
use Rattle.std.proofs.lemmas.List.{length-take-le}
use Rattle.std.proofs.lemmas.Slice.{drop-put_mid, overwrites}
use Rattle.ss_cid.proofs.Lists.{drop_more_zeros}
use Rattle.ss_cid.proofs.cid_buffer.CidBuffer.extend.Goals as goal

pub invariant_of-self : goal.invariant_of-self
invariant_of-self c =
    let r = c.self.inside in
    let used : length c.args.self.now ≡ r.len = ap length (sym c.self.view_is) ∙ length-take-le r.len r.cells (omega (arith, c.self.invariant.1)) in
    let start = c.from-start.result in
    let len = length c.args.bytes.now in
    let room : start + len ≤ 72 = omega arith in
    let new : length c.copy_from_slice.new.self ≡ start + len - start = search (rules, overwrites) in
    let zeros : drop start r.cells ≡ replicate (72 - start) 0 = rw c.from-start.ensures c.self.invariant.2 in (
      room,
      search (rules, overwrites),
      drop_more_zeros r.cells _ start len (drop-put_mid start (start + len - start) r.cells c.copy_from_slice.new.self (start + len) (omega arith) (omega arith) new) zeros,
    )
