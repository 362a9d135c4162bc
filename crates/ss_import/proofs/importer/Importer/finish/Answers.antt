use Rattle.std.proofs.Common.{◌≡◌, Err, refl}
use Rattle.std.proofs.lemmas.Result.{err_from_is_err_and}
use Rattle.ss_import.proofs.Ends.{headless, headed, head_refused}
use Rattle.ss_import.proofs.importer.Importer.finish.Goals as goal
use Rattle.ss_import.proofs.importer.Importer.finish.Goals.{then-head+in_ok-set, else-head}

pub returns-in_err-set-clause-import : goal.returns-in_err-set-clause-import
returns-in_err-set-clause-import g c input was read =
    let fault = err_from_is_err_and c.from_residual.result c.from_residual.ensures.1 in
    let is : c.from_residual.result ≡ Err c.in_err-set.field-0.0 = cc (fault.1, fault.2) in
    rw is (head_refused input was c.args.self.now c.args.roots.now read c.args.head c.if-head.true c.set_head.new.self c.set_head.result c.set_head.ensures.told c.set_head.ensures.made c.in_err-set.field-0.0 c.in_err-set.ensures)

pub returns-clause-import : goal.returns-clause-import
returns-clause-import g c input was read = elim c.if-head.branch [
  | then-head+in_ok-set w ↦ rw (w.self-is, w.height-is) (headed input was c.args.self.now c.args.roots.now read c.args.head w.if-head.true w.set_head.new.self w.set_head.result w.set_head.ensures.told w.set_head.ensures.made _ _ w.in_ok-set.ensures refl refl refl)
  | else-head w ↦ rw (w.self-is, w.height-is) (headless input was c.args.self.now c.args.roots.now read c.args.head _ w.if-head.false refl refl refl)
]
