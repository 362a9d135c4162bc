use Rattle.ss_hot.proofs.Writes.{within_settled}
use Rattle.ss_hot.proofs.store.HotStore.settle.Goals as goal

pub invariant_of-self : goal.invariant_of-self
invariant_of-self g c = within_settled c.settle.result _ _ _ _ c.self.invariant c.settle.ensures.settled.ok c.settle.ensures.settled.err
