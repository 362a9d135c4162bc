use Rattle.std.proofs.Common.{inr, sym, subst, ◌∙◌, arith}
use Rattle.std.proofs.lemmas.Result.{err_from_is_err_and}
use Rattle.ss_hot.specs.Store.{Hot}
use Rattle.ss_core.specs.declared.found.Found.{Found}
use Rattle.ss_core.specs.Found.{AreFound}
use Rattle.ss_core.proofs.Finding.{found_at}
use Rattle.ss_core.proofs.HeadSteps.{reads_then}
use Rattle.ss_core.proofs.Judging.{first_fault, begins, goes_on, differs, ends}
use Rattle.ss_core.proofs.Made.{counted_kept}
use Rattle.ss_core.proofs.Settling.{stands_read}
use Rattle.ss_core.proofs.split_core.SplitCore.judge.Goals as goal

pub returns-in_err-first-clause-judged : goal.returns-in_err-first-clause-judged
returns-in_err-first-clause-judged g c = λ told s doubt stands known.
    let p = err_from_is_err_and c.from_residual-in_err-first.result c.from_residual-in_err-first.ensures.1 in
    rw (p.1, p.2) (first_fault s.kept c.args.cids.now known c.at-cid.result c.as_slice.result.now _ c.at-cid.ensures (c.as_slice.ensures.value ∙ c.in_ok-block.ensures.block told s doubt stands) c.in_err-first.ensures.fault)

pub loop-i-init : goal.loop-i-init
loop-i-init g c = record {
  reads = c.block.ensures.reads;
  kept = counted_kept _ _ _ c.in_ok-block.ensures.counts.kept;
  judged = λ told s doubt stands known.
      begins s.kept c.args.cids.now known c.at-cid.result c.at-cid.ensures c.as_slice.result.now _ _ (c.as_slice.ensures.value ∙ c.in_ok-block.ensures.block told s doubt stands) c.in_ok-first.ensures.first;
}

pub returns-in_err-block-2-clause-reads : goal.returns-in_err-block-2-clause-reads
returns-in_err-block-2-clause-reads g c = reads_then g.D.Disk c.args.self.now c.loop-i.self c.block-in-loop-i.new.self c.loop-i.invariant.reads c.block-in-loop-i.ensures.reads

pub returns-in-Some-clause-judged : goal.returns-in-Some-clause-judged
returns-in-Some-clause-judged g c = λ told s doubt stands known.
    let reads = c.loop-i.invariant.reads in
    differs s.kept c.args.cids.now known c.at-cid.result c.at-cid.ensures _ _ c.loop-i.i c.at-cid-in-loop-i.result c.as_slice-in-loop-i.result.now c.in-Some.refusal (c.loop-i.invariant.judged told s doubt stands known) c.at-cid-in-loop-i.ensures
    (c.as_slice-in-loop-i.ensures.value ∙ c.in_ok-block-2.ensures.block told s doubt (stands_read g.D.Disk told c.args.self.now c.loop-i.self s doubt reads.goes reads.hot reads.views stands)) (omega arith) c.in-Some.ensures.beside

pub returns-in-Some-clause-reads : goal.returns-in-Some-clause-reads
returns-in-Some-clause-reads g c = reads_then g.D.Disk c.args.self.now c.loop-i.self c.block-in-loop-i.new.self c.loop-i.invariant.reads c.block-in-loop-i.ensures.reads

pub returns-in-Some-clause-counts : goal.returns-in-Some-clause-counts
returns-in-Some-clause-counts g c = record {
  later = omega (arith, c.in_ok-block-2.ensures.counts.later, c.loop-i.invariant.kept);
  rose = λ is. absurd (c.in-Some.ensures.no_fault (cc (is)));
  kept = inr (counted_kept _ _ _ c.in_ok-block-2.ensures.counts.kept ∙ c.loop-i.invariant.kept);
}

pub loop-i-preserved : goal.loop-i-preserved
loop-i-preserved g c = record {
  reads = reads_then g.D.Disk c.args.self.now c.loop-i.self c.block-in-loop-i.new.self c.loop-i.invariant.reads c.block-in-loop-i.ensures.reads;
  kept = counted_kept _ _ _ c.in_ok-block-2.ensures.counts.kept ∙ c.loop-i.invariant.kept;
  judged = λ told s doubt stands known.
      let reads = c.loop-i.invariant.reads in
      goes_on s.kept c.args.cids.now known c.at-cid.result c.at-cid.ensures _ _ c.loop-i.i c.at-cid-in-loop-i.result c.as_slice-in-loop-i.result.now (c.loop-i.invariant.judged told s doubt stands known) c.at-cid-in-loop-i.ensures
      (c.as_slice-in-loop-i.ensures.value ∙ c.in_ok-block-2.ensures.block told s doubt (stands_read g.D.Disk told c.args.self.now c.loop-i.self s doubt reads.goes reads.hot reads.views stands)) c.in_default.ensures.beside;
}

pub returns-clause-judged : goal.returns-clause-judged
returns-clause-judged g c = λ told s doubt stands known. ends s.kept c.args.cids.now known c.at-cid.result c.at-cid.ensures _ _ c.loop-i.i (c.loop-i.invariant.judged told s doubt stands known) (omega (arith, c.len-i-end.ensures.value))

pub block-requires-in-loop-i : goal.block-requires-in-loop-i
block-requires-in-loop-i g c = found_at c.loop-i.self.hot c.args.cids.now c.args.found.now c.loop-i.i c.at-cid-in-loop-i.result Found.InCid (subst (λ (h : Hot). AreFound h c.args.cids.now c.args.found.now) (sym c.loop-i.invariant.reads.hot) c.requires.found) c.at-cid-in-loop-i.ensures
