use Rattle.ss_cid.proofs.Parcels.{pairs_are}
use Rattle.ss_cid.proofs.parcel.Parcel.len.Goals as goal

pub returns-clause-cids : goal.returns-clause-cids
returns-clause-cids c =
    let p = c.self.inside in
    rw (← c.self.view_is) (pairs_are p.buffer.items p.entries.items c.self.invariant.entries)
