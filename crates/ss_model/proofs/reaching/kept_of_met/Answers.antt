use Rattle.std.proofs.Common.{◌≡◌, is_some, sym, subst, ◌∙◌, List, [], ℕ}
use Rattle.std.specs.Ordering.{nat_cmp}
use Rattle.std.specs.Cmp.Lexicographic.{slice_cmp}
use Rattle.std.specs.BTreeMap.{get}
use Rattle.std.specs.List.Sorted.{IsStrictlySortedBy}
use Rattle.std.proofs.lemmas.List.{append-nil}
use Rattle.std.proofs.lemmas.List.Kept.{IsStrictlySortedBy-filter}
use Rattle.ss_model.proofs.reaching.kept_of_met.Goals as goal

pub returns-clause-ascending : goal.returns-clause-ascending
returns-clause-ascending c =
    let none : c.loop-cid.cid-iterator ≡ [] = c.in-None.ensures.steps.0 in
    let listed = sym (append-nil c.loop-cid.cids) ∙ (rw none at c.loop-cid.invariant) in
    subst (λ (cids : List (List ℕ)). IsStrictlySortedBy (slice_cmp nat_cmp) cids) (sym listed)
    (IsStrictlySortedBy-filter (slice_cmp nat_cmp) (λ cid. is_some (get (slice_cmp nat_cmp) c.args.places.now cid)) c.args.met.now.cids.keys c.into_iter-cid-iterator.ensures.into_iter_gives.4)
