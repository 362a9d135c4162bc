use Rattle.std.proofs.Common.{arith}
use Rattle.ss_import.proofs.Steps.{lent, start_short, begun}
use Rattle.ss_import.proofs.Ends.{header_refused}
use Rattle.ss_import.proofs.importer.Importer.read.Goals as goal

pub returns-in-Err-clause-import : goal.returns-in-Err-clause-import
returns-in-Err-clause-import g c was putting holds =
    let refused = c.in-Err.ensures.refused in
    rw c.from.ensures (header_refused c.args.head (g.S.Source.left c.args.source.now) was c.args.self.now c.in-Err.refusal.fault c.in-Err.refusal.offset refused.0 refused.1 putting)

pub read_sections-result-requires : goal.read_sections-result-requires
read_sections-result-requires g c = record {
  ready = c.requires.ready;
  fresh = c.in-Ok.ensures.fresh;
  count = omega (arith, c.requires.sections);
  short = start_short _ _ _ _ c.in-Ok.ensures.start;
}

pub returns-clause-import : goal.returns-clause-import
returns-clause-import g c was putting holds =
    c.read_sections-result.ensures.import (g.S.Source.left c.args.source.now) was (begun (lent g.S.Source) (g.S.Source.left c.args.source.now) was c.args.self.now c.in-Ok.reader c.in-Ok.ensures.start holds c.requires.sections putting)
