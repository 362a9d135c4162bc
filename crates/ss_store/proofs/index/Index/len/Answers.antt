use Rattle.std.proofs.Common.{◌∙◌, ap, sym}
use Rattle.std.specs.FinMap.{len}
use Rattle.ss_store.proofs.TreeMap.{map_len, by_bytes, exact}
use Rattle.ss_store.proofs.index.Index.len.Goals as goal

pub returns-clause-value : goal.returns-clause-value
returns-clause-value c = c.len.ensures.len ∙ sym (map_len by_bytes exact _ c.len.ensures.ordered) ∙ ap len c.self.view_is
