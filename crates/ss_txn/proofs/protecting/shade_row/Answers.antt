use Rattle.std.proofs.Common.{sym}
use Rattle.ss_txn.proofs.Shading.{shades_by}
use Rattle.ss_txn.proofs.protecting.shade_row.Goals as goal

pub returns-in-Some : goal.returns-in-Some
returns-in-Some c = shades_by c.args.marks.now c.shade.new.self c.args.cid.now c.in-Some.row c.shade.ensures.white c.shade.ensures.other (sym c.in-Some.ensures)
