use Rattle.std.proofs.Common.{◌∙◌, ap, refl, Some}
use Rattle.std.specs.FinMap.{insert}
use Rattle.ss_store.proofs.TreeMap.{map_insert, by_bytes, exact}
use Rattle.ss_store.proofs.index.Index.insert.Goals as goal

pub returns-clause-ok : goal.returns-clause-ok
returns-clause-ok c =
    map_insert by_bytes exact c.self.inside.map.entries c.insert.new.self.entries c.args.cid (Some c.args.place) c.in_ok-insert.ensures.updates.0 c.args.place refl
    ∙ ap (λ m. insert m c.args.cid c.args.place) c.self.view_is
