use Rattle.std.proofs.Common.{refl, ◌∙◌}
use Rattle.ss_hamt.proofs.Listed.{listing-next, listing-stop, listing-row, map-push}
use Rattle.ss_hamt.proofs.Buckets.{pair_of}
use Rattle.ss_hamt.proofs.listing.list_entries.Goals as goal

pub returns-in_default : goal.returns-in_default
returns-in_default c = listing-stop _ _ _ _ _ _ _ _ c.loop.invariant pair_of _ c.loop-test.true c.in_default.ensures

pub loop-preserved : goal.loop-preserved
loop-preserved c =
    listing-next _ _ _ _ _ _ _ _ c.loop.invariant pair_of _ (c.in-Some.key, c.in-Some.value) _ _ c.loop-test.true c.in-Some.ensures
    (c.in_ok-push.ensures.ok ∙ rw (c.in_ok-key.ensures, c.in_ok-value.ensures) refl) (map-push _ _ _)

pub returns : goal.returns
returns c = (c.loop.invariant.row, listing-row _ _ _ _ _ _ _ _ c.loop.invariant c.loop-test.false, c.loop.invariant.read.end, c.loop.invariant.added, tt)
