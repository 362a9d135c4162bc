use Rattle.std.proofs.Common.{rules, ◌≡◌, ◌∷◌, []}
use Rattle.ss_chain.specs.Follows.{followed}
use Rattle.ss_model.proofs.Meeting.{leaves_next, leaves_none}
use Rattle.ss_model.proofs.met.Met.meet_followed.Goals as goal

pub loop-link-preserved : goal.loop-link-preserved
loop-link-preserved c =
    let steps : c.loop-link.link-iterator ≡ c.in-Some.link ∷ c.next.new.self = search rules in
    record {
      can = tt;
      ends = tt;
      leaves = leaves_next (followed c.args.edge c.args.cid.now c.args.block.now) c.loop-link.link-iterator c.in-Some.link c.next.new.self _ _ _ steps c.loop-link.invariant.leaves c.in_ok-meet.ensures;
    }

pub returns : goal.returns
returns c =
    let steps : c.loop-link.link-iterator ≡ [] = search rules in
    leaves_none (followed c.args.edge c.args.cid.now c.args.block.now) c.loop-link.link-iterator _ _ steps c.loop-link.invariant.leaves
