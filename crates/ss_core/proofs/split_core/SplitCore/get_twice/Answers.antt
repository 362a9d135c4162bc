use Rattle.std.proofs.Common.{refl, sym, ap, ◌∙◌}
use Rattle.std.specs.FinSet as finite_set
use Rattle.ss_core.proofs.Asked.{some_len, none_len}
use Rattle.ss_core.proofs.Gets.{bad_view, not_found, no_memory}
use Rattle.ss_core.proofs.split_core.SplitCore.get_twice.Goals as goal

pub returns-then-not-contains-clause-told : goal.returns-then-not-contains-clause-told
returns-then-not-contains-clause-told g c = λ told s doubt stands.
    bad_view g.D.Disk s doubt c.args.view c.args.cid.now c.args.self.now c.args.self.now refl refl refl stands (ap (λ views. finite_set.contains views c.args.view) stands.views ∙ sym c.if-not-contains.ensures)

pub returns-in_default-clause-told : goal.returns-in_default-clause-told
returns-in_default-clause-told g c = λ told s doubt stands.
    not_found g.D.Disk s doubt c.args.view c.args.cid.now c.args.self.now c.args.self.now refl refl refl stands (ap (λ views. finite_set.contains views c.args.view) stands.views ∙ sym c.if-not-contains.ensures) (none_len _ (c.in_default.ensures.block s doubt stands))

pub returns-in_default-vec-clause-told : goal.returns-in_default-vec-clause-told
returns-in_default-vec-clause-told g c = λ told s doubt stands.
    no_memory g.D.Disk s doubt c.args.view c.args.cid.now c.args.self.now c.args.self.now refl refl refl stands (ap (λ views. finite_set.contains views c.args.view) stands.views ∙ sym c.if-not-contains.ensures) (some_len _ _ (c.in-Some.ensures.block s doubt stands))
