use Rattle.std.proofs.Common.{◌≡◌, ℕ, List, length, take, drop, sym, arith}
use Rattle.std.proofs.lemmas.List.{length-drop, length-take-le}
use Rattle.std.proofs.lemmas.Result.{err_from_is_err_and}
use Rattle.ss_records.proofs.Placed.{from_more, from_Ok, from_Err}
use Rattle.ss_records.proofs.places.PutBlocks.take.Goals as goal

pub returns-then-self-eq0-clause-err : goal.returns-then-self-eq0-clause-err
returns-then-self-eq0-clause-err c =
    from_more c.args.self.now.end c.args.self.now.due _ c.args.self.now.rest.now c.if-self-eq0.true (omega arith) c.requires

pub returns-in_err-cid-clause-err : goal.returns-in_err-cid-clause-err
returns-in_err-cid-clause-err c =
    let p = err_from_is_err_and c.from_residual.result c.from_residual.ensures.1 in
    rw (p.1, p.2) (from_Err c.args.self.now.end c.args.self.now.due _ c.args.self.now.rest.now c.if-self-eq0.false c.in_err-cid.ensures.value)

pub returns-clause-ok : goal.returns-clause-ok
returns-clause-ok c =
    let rest : List ℕ = c.args.self.now.rest.now in
    let behind : List ℕ = drop 4 (drop (length c.in_ok-cid.cid) rest) in
    let size : length (take c.in_ok-cid.len behind) ≡ c.in_ok-cid.len =
    length-take-le c.in_ok-cid.len behind (omega (arith, c.in_ok-cid.ensures.within, length-drop 4 (drop (length c.in_ok-cid.cid) rest), length-drop (length c.in_ok-cid.cid) rest)) in
    rw (c.split_at.ensures.back, c.content-content.ensures.value) (from_Ok c.args.self.now.end c.args.self.now.due _ c.in_ok-cid.len rest c.in_ok-cid.cid _ _ c.if-self-eq0.false c.in_ok-cid.ensures.value
    (omega (arith, c.args.self.now.within, c.in_ok-cid.ensures.within, length-drop 4 (drop (length c.in_ok-cid.cid) rest), length-drop (length c.in_ok-cid.cid) rest)) (sym size))
