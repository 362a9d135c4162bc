use Rattle.std.proofs.Common.{◌≡◌, sym, ◌∙◌, subst, None, arith}
use Rattle.std.proofs.lemmas.List.{length-set}
use Rattle.std.proofs.lemmas.Option.{slice_get_within}
use Rattle.ss_chain.specs.Steps.{first_of}
use Rattle.ss_chain.proofs.Firsts.{first_of-none, first_of-next, first_of-found}
use Rattle.ss_model.specs.Head.{absent_at}
use Rattle.ss_model.specs.declared.call.HeadReply.TheVariants as head
use Rattle.ss_core.proofs.Finding.{found_more}
use Rattle.ss_core.proofs.HeadSteps.{first, decides, is_absent, is_present}
use Rattle.ss_core.proofs.split_core.SplitCore.refuse_head.Goals as goal

pub returns-in-Some-clause-decides : goal.returns-in-Some-clause-decides
returns-in-Some-clause-decides g c = λ s doubt stands. sym (first c.in-Some.refusal _ _ c.in-Some.ensures.fault)

pub loop-i-init : goal.loop-i-init
loop-i-init g c = record {
  kept = λ s doubt stands. first_of-none (absent_at s.kept c.args.cids.now);
  room = c.told-found;
  found = λ k d before at. absurd (omega (arith, before));
}

pub returns-in_default-find-clause-decides : goal.returns-in_default-find-clause-decides
returns-in_default-find-clause-decides g c = λ s doubt stands.
    decides s.kept c.args.cids.now _ c.in_default.ensures.fault
    (first_of-found (absent_at s.kept c.args.cids.now) c.loop-i.i _ (head.Absent c.loop-i.i) (c.loop-i.invariant.kept s doubt stands) (omega arith)
    (is_absent s.kept c.args.cids.now c.loop-i.i c.at-cid.result c.at-cid.ensures (sym (c.in_default-find.ensures.there s doubt stands))))

pub loop-i-preserved : goal.loop-i-preserved
loop-i-preserved g c = record {
  kept = λ s doubt stands.
      first_of-next (absent_at s.kept c.args.cids.now) c.loop-i.i (c.loop-i.invariant.kept s doubt stands)
      (is_present s.kept c.args.cids.now c.loop-i.i c.at-cid.result c.at-cid.ensures (sym (c.in-Some-find.ensures.there s doubt stands)));
  room = length-set c.loop-i.found c.loop-i.i c.in-Some-find.at ∙ c.loop-i.invariant.room;
  found = found_more c.args.self.now.hot c.args.cids.now c.loop-i.found c.loop-i.i c.at-cid.result c.in-Some-find.at c.at-cid.ensures (omega (arith, c.in_default.ensures.some, c.loop-i.invariant.room, c.loop-i-test.true, c.len-i-end.ensures.value)) c.in-Some-find.ensures.found c.loop-i.invariant.found;
}

pub returns-clause-decides : goal.returns-clause-decides
returns-clause-decides g c = λ s doubt stands.
    decides s.kept c.args.cids.now None c.in_default.ensures.fault (subst (λ n. first_of (absent_at s.kept c.args.cids.now) n ≡ None) (omega (arith, c.len-i-end.ensures.value)) (c.loop-i.invariant.kept s doubt stands))

pub returns-clause-found : goal.returns-clause-found
returns-clause-found g c = λ none k d at. c.loop-i.invariant.found k d (omega (arith, slice_get_within c.args.cids.now k d at, c.loop-i-test.false, c.len-i-end.ensures.value)) at
