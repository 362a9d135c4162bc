use Rattle.ss_chain.specs.Parcel.{kept_of}
use Rattle.ss_model.proofs.Searching.{searching_next, searched}
use Rattle.ss_model.proofs.reaching.search.Goals as goal

pub loop-cid-preserved : goal.loop-cid-preserved
loop-cid-preserved c = searching_next c.args.edge (kept_of c.args.kept.now) c.args.from.now c.in-Some.cid c.loop-cid.met c.take_waiting.new.self c.read.new.met c.loop-cid.invariant c.in-Some.ensures.some c.in_ok-read.ensures

pub returns : goal.returns
returns c = searched c.args.edge (kept_of c.args.kept.now) c.args.from.now c.loop-cid.met c.take_waiting.new.self c.loop-cid.invariant c.in_default.ensures.none.0 c.in_default.ensures.none.1
