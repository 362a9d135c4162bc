use Rattle.std.proofs.Common.{◌≡◌, ◌+◌, ◌-◌, subst, arith}
use Rattle.ss_gatelog.specs.Gate.{Walked}
use Rattle.ss_gatelog.proofs.Pieces.{piece_on}
use Rattle.ss_gatelog.proofs.skim.skim_piece.Goals as goal

pub returns-in-Closed-clause-reaches : goal.returns-in-Closed-clause-reaches
returns-in-Closed-clause-reaches c file size is before =
    let here = c.loop-offset.invariant.walked file size is before in
    let piece = piece_on file c.args.piece.now c.args.at c.loop-offset.offset is (omega arith) in
    (here.0, c.in-Closed.ensures.stands file here.0 size c.requires.piece.0 piece here.1, here.1.place)

pub returns-in-Unfit-clause-reaches : goal.returns-in-Unfit-clause-reaches
returns-in-Unfit-clause-reaches c file size is before =
    let here = c.loop-offset.invariant.walked file size is before in
    let piece = piece_on file c.args.piece.now c.args.at c.loop-offset.offset is (omega arith) in
    c.in-Unfit.ensures.stands file here.0 size c.requires.piece.0 piece here.1

pub loop-offset-preserved : goal.loop-offset-preserved
loop-offset-preserved c =
    let next = c.in-Record.ensures.within in
    let place : c.in-Record.next ≡ c.args.at + (c.in-Record.next - c.args.at) = omega (arith, next.0) in
    record {
      in_file = omega (arith, next.0, next.2);
      in_limit = omega (arith, next.0, next.3);
      walked = λ file size is before.
          let here = c.loop-offset.invariant.walked file size is before in
          let piece = piece_on file c.args.piece.now c.args.at c.loop-offset.offset is (omega arith) in
          subst (Walked c.args.limit file) place (_, c.in-Record.ensures.stands file here.0 size c.requires.piece.0 piece here.1);
    }
