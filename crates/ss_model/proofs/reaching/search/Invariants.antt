use Rattle.std.proofs.Common.{◌-◌, ◌^◌, length}
use Rattle.ss_chain.specs.Parcel.{kept_of}
use Rattle.ss_model.proofs.Searching.{Searching}
use Rattle.ss_model.proofs.reaching.search.Given as goal

abbrev pub invariant-loop-cid : goal.invariant-loop-cid
invariant-loop-cid l = Searching l.edge (kept_of l.kept) l.from l.met

-- how many more CIDs can be read, were all that memory has room for met
abbrev pub decreases-loop-cid : goal.decreases-loop-cid
decreases-loop-cid l = 2 ^ 63 - (length l.met.cids.keys - length l.met.waiting.items)
