use Rattle.std.proofs.Common.{List, ℕ, sym, subst}
use Rattle.std.proofs.lemmas.List.Elements.{All-append}
use Rattle.std.specs.Prelude.{All}
use Rattle.ss_cid.specs.Cid.{IsCid}
use Rattle.ss_cid.proofs.cids.Cids.extend.Goals as goal

pub invariant_of-self-2 : goal.invariant_of-self-2
invariant_of-self-2 c = subst (λ (l : List (List ℕ)). All IsCid l) (sym c.in_ok-extend_from_slice.ensures.items) (All-append IsCid _ _ c.self.invariant (subst (λ (l : List (List ℕ)). All IsCid l) (sym c.as_slice.ensures) c.len.ensures.cids))
