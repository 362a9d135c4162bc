use Rattle.std.proofs.Common.{◌≡◌, ◌∙◌, subst, arith, length, take, ◌+◌}
use Rattle.std.specs.Prelude.{slice_range}
use Rattle.ss_device.specs.Disk.{Files}
use Rattle.ss_device.proofs.Goes.{asked, then_same}
use Rattle.ss_gatelog.specs.Log.{IsDamaged}
use Rattle.ss_gatelog.proofs.Pieces.{read_piece}
use Rattle.ss_gatelog.proofs.skim.skim.Goals as goal

pub returns-in_err-read-clause-reads : goal.returns-in_err-read-clause-reads
returns-in_err-read-clause-reads g c =
    let read = c.read.ensures in
    then_same g.D.Disk _ _ _ _ c.loop-piece.invariant.reads (asked g.D.Disk _ _ read.known read.reads read.images read.cause.later read.place)

pub returns-in-Closed-clause-reads : goal.returns-in-Closed-clause-reads
returns-in-Closed-clause-reads g c =
    let read = c.read.ensures in
    then_same g.D.Disk _ _ _ _ c.loop-piece.invariant.reads (asked g.D.Disk _ _ read.known read.reads read.images read.cause.later read.place)

pub returns-in-Unfit-clause-damaged : goal.returns-in-Unfit-clause-damaged
returns-in-Unfit-clause-damaged g c at is =
    let same : c.in-Unfit.at ≡ at = cc in
    let within = c.in-Unfit.ensures.within in (
      (λ told.
          let file = g.D.Disk.files c.args.disk.now c.args.file in
          let files = c.loop-piece.invariant.reads.files told in
          let read : c.read.new.out ≡ slice_range file c.loop-piece.at (c.loop-piece.at + length (take c.min-len.result c.loop-piece.piece)) =
          subst (λ (f : Files). c.read.new.out ≡ slice_range (f c.args.file) c.loop-piece.at (c.loop-piece.at + length (take c.min-len.result c.loop-piece.piece))) files (c.in_ok-read.ensures.bytes told) in
          let piece = read_piece file c.loop-piece.piece c.read.new.out c.loop-piece.at c.min-len.result c.read.auto.out read in
          subst (IsDamaged c.args.limit file) same (c.in-Unfit.ensures.reaches file (c.requires.read told) piece (c.loop-piece.invariant.walked told))),
      omega (arith, same, within.0),
      omega (arith, same, within.1),
    )

pub returns-in-Unfit-clause-reads : goal.returns-in-Unfit-clause-reads
returns-in-Unfit-clause-reads g c =
    let read = c.read.ensures in
    then_same g.D.Disk _ _ _ _ c.loop-piece.invariant.reads (asked g.D.Disk _ _ read.known read.reads read.images read.cause.later read.place)

pub loop-piece-preserved : goal.loop-piece-preserved
loop-piece-preserved g c =
    let read = c.read.ensures in
    record {
      in_file = c.in-Further.ensures.within.1;
      in_limit = c.in-Further.ensures.within.2;
      reads = then_same g.D.Disk _ _ _ _ c.loop-piece.invariant.reads (asked g.D.Disk _ _ read.known read.reads read.images read.cause.later read.place);
      no_fault = c.in_ok-read.ensures.cause.kept ∙ c.loop-piece.invariant.no_fault;
      walked = λ told.
          let file = g.D.Disk.files c.args.disk.now c.args.file in
          let files = c.loop-piece.invariant.reads.files told in
          let bytes : c.read.new.out ≡ slice_range file c.loop-piece.at (c.loop-piece.at + length (take c.min-len.result c.loop-piece.piece)) =
          subst (λ (f : Files). c.read.new.out ≡ slice_range (f c.args.file) c.loop-piece.at (c.loop-piece.at + length (take c.min-len.result c.loop-piece.piece))) files (c.in_ok-read.ensures.bytes told) in
          let piece = read_piece file c.loop-piece.piece c.read.new.out c.loop-piece.at c.min-len.result c.read.auto.out bytes in
          c.in-Further.ensures.reaches file (c.requires.read told) piece (c.loop-piece.invariant.walked told);
    }
