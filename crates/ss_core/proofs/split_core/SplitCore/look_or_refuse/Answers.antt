use Rattle.std.proofs.Common.{◌≡◌, Err, sym, ap, ◌∙◌, arith}
use Rattle.std.proofs.lemmas.Result.{err_from_is_err_and}
use Rattle.std.specs.FinSet as finite_set
use Rattle.ss_core.specs.Replies.{cids_of}
use Rattle.ss_core.proofs.Refusals.{refused_by_fault, refused_anywhere}
use Rattle.ss_core.proofs.split_core.SplitCore.look_or_refuse.Goals as goal

pub returns-then-bytes-gt-PUT_BYTES-clause-decides : goal.returns-then-bytes-gt-PUT_BYTES-clause-decides
returns-then-bytes-gt-PUT_BYTES-clause-decides g c = λ s doubt stands.
    let bytes = c.look-bytes.ensures.all s doubt stands in (
      ap (λ views. finite_set.contains views c.args.view) stands.views ∙ sym c.if-not-contains.ensures,
      omega (arith, c.if-len-gt-PUT_BLOCKS.false, c.len.ensures.value),
      omega (arith, bytes, c.if-bytes-gt-PUT_BYTES.true),
      bytes,
    )

pub returns-in_err-check_blocks-clause-decides : goal.returns-in_err-check_blocks-clause-decides
returns-in_err-check_blocks-clause-decides g c = λ s doubt stands.
    let fault = err_from_is_err_and c.from_residual.result c.from_residual.ensures.1 in
    let is : c.from_residual.result ≡ Err c.in_err-check_blocks.field-0.0 = cc (fault.1, fault.2) in
    rw is (refused_by_fault s c.args.view c.args.parcel.now c.in_err-check_blocks.field-0.0 (record {
      view = ap (λ views. finite_set.contains views c.args.view) stands.views ∙ sym c.if-not-contains.ensures;
      few = omega (arith, c.if-len-gt-PUT_BLOCKS.false, c.len.ensures.value);
      bytes = omega (arith, c.look-bytes.ensures.all s doubt stands, c.if-bytes-gt-PUT_BYTES.false);
    }) c.in_err-check_blocks.ensures.judged)

pub returns-clause-decides : goal.returns-clause-decides
returns-clause-decides g c = λ s doubt stands. record {
  fitting = record {
    view = ap (λ views. finite_set.contains views c.args.view) stands.views ∙ sym c.if-not-contains.ensures;
    few = omega (arith, c.if-len-gt-PUT_BLOCKS.false, c.len.ensures.value);
    bytes = omega (arith, c.look-bytes.ensures.all s doubt stands, c.if-bytes-gt-PUT_BYTES.false);
  };
  sound = c.in_ok-check_blocks.ensures.judged;
}

pub returns-in_err-check_blocks-clause-ready : goal.returns-in_err-check_blocks-clause-ready
returns-in_err-check_blocks-clause-ready g c =
    let fault = err_from_is_err_and c.from_residual.result c.from_residual.ensures.1 in
    let is : c.from_residual.result ≡ Err c.in_err-check_blocks.field-0.0 = cc (fault.1, fault.2) in
    rw is (refused_anywhere g.D.Disk c.args.self.now c.args.view c.args.parcel.now c.in_err-check_blocks.field-0.0 c.in_err-check_blocks.ensures.judged)

pub returns-clause-looked : goal.returns-clause-looked
returns-clause-looked g c = record {
  own = c.look-bytes.ensures.own;
  each = c.in_ok-check_blocks.ensures.seen (cids_of c.args.self.now.hot.places) c.look-bytes.ensures.seen;
}
