use Rattle.std.proofs.Common.{◌∙◌, ap, sym, arith, List, ℕ, ◌∷◌}
use Rattle.ss_cbor.specs.Reading.{links_left}
use Rattle.ss_cbor.proofs.LinkRows.{StillLinked-start, StillLinked-after, link_found, found_IsCid, no_more_links}
use Rattle.ss_cbor.proofs.links.next_link.Goals as goal

pub loop-part-init : goal.loop-part-init
loop-part-init c = StillLinked-start c.args.bytes.now (λ i. omega (arith, c.type_inv.bytes i))

pub cid_of-requires : goal.cid_of-requires
cid_of-requires c = found_IsCid _ _ _ _ c.loop-part.invariant c.in-Ok.ensures.value _ c.in-Some.ensures.some

pub returns-in-Some-clause-some : goal.returns-in-Some-clause-some
returns-in-Some-clause-some c =
    link_found _ _ _ _ c.loop-part.invariant c.in-Ok.ensures.value _ c.in-Some.ensures.some
    ∙ ap (λ (cid : List ℕ). cid ∷ links_left c.in-Ok.after.now) (sym c.cid_of.ensures)

pub loop-part-preserved : goal.loop-part-preserved
loop-part-preserved c = StillLinked-after _ _ _ _ c.loop-part.invariant c.in-Ok.ensures.value c.in_default-link.ensures.none

pub returns-clause-none : goal.returns-clause-none
returns-clause-none c = no_more_links _ _ _ c.loop-part.invariant c.in_default.ensures.value
