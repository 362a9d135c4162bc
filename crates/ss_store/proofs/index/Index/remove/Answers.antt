use Rattle.std.proofs.Common.{◌∙◌, ap, refl, None}
use Rattle.std.specs.FinMap.{remove}
use Rattle.ss_store.proofs.TreeMap.{map_remove, by_bytes, exact}
use Rattle.ss_store.proofs.index.Index.remove.Goals as goal

pub returns : goal.returns
returns c =
    map_remove by_bytes exact c.self.inside.map.entries c.remove.new.self.entries c.args.cid.now None c.remove.ensures.updates.0 refl
    ∙ ap (λ m. remove m c.args.cid.now) c.self.view_is
