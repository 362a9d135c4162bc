use Rattle.std.proofs.Common.{◌∙◌, ap, sym}
use Rattle.std.specs.Prelude.{slice_get}
use Rattle.std.specs.Map.Iter.{deref}
use Rattle.std.specs.FinMap.{keys}
use Rattle.ss_store.proofs.TreeMap.{map_keys, first_item, by_bytes, exact}
use Rattle.ss_store.proofs.index.Index.first.Goals as goal

pub returns : goal.returns
returns c =
    c.copied.ensures
    ∙ first_item deref _ _ c.next.result c.next.ensures.steps
    ∙ ap (λ ks. slice_get ks 0) (c.keys.ensures.rest ∙ sym (map_keys by_bytes exact c.self.inside.map.entries c.keys.ensures.ordered) ∙ ap keys c.self.view_is)
