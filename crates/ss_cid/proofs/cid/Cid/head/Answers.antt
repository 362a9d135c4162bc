use Rattle.std.proofs.Common.{◌∙◌, ap, sym}
use Rattle.ss_cid.specs.Cid.{cid_head}
use Rattle.ss_cid.proofs.Chains.{Ok-same}
use Rattle.ss_cid.proofs.Grammar.{IsCid-head}
use Rattle.ss_cid.proofs.cid.Cid.head.Goals as goal

pub unreachable-requires : goal.unreachable-requires
unreachable-requires c =
    let head = IsCid-head c.self.inside.room c.self.invariant in
    let read = sym c.in-Err.is ∙ c.read_head.ensures.value ∙ ap cid_head c.as_slice.ensures.value ∙ head.1 in
    cc

pub returns-clause-within : goal.returns-clause-within
returns-clause-within c =
    let head = IsCid-head c.self.inside.room c.self.invariant in
    let same = Ok-same (sym c.in-Ok.is ∙ c.read_head.ensures.value ∙ ap cid_head c.as_slice.ensures.value ∙ head.1) in
    rw (same, ← c.self.view_is) (head.3, head.2)
