use Rattle.std.proofs.Common.{◌∙◌, ap, sym}
use Rattle.std.specs.FinMap.{get}
use Rattle.ss_store.proofs.TreeMap.{map_get, by_bytes}
use Rattle.ss_store.proofs.index.Index.get.Goals as goal

pub returns : goal.returns
returns c = c.copied.ensures ∙ c.get.ensures.value ∙ sym (map_get by_bytes _ c.args.cid.now) ∙ ap (λ m. get m c.args.cid.now) c.self.view_is
