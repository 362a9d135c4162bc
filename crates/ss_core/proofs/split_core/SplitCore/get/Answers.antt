use Rattle.std.proofs.Common.{refl, sym, ap, ◌∙◌}
use Rattle.std.specs.Prelude.{is_some}
use Rattle.std.specs.FinSet as finite_set
use Rattle.ss_core.proofs.Gets.{digest_lawful, digest_len, fetched_is, none_there, bad_view, not_found, no_memory, own_digest}
use Rattle.ss_core.proofs.Made.{digest_makes, same_disk}
use Rattle.ss_core.proofs.PutSteps.{held_is}
use Rattle.ss_core.proofs.split_core.SplitCore.get.Goals as goal

pub returns-then-not-contains-clause-told : goal.returns-then-not-contains-clause-told
returns-then-not-contains-clause-told g c = λ told s doubt stands.
    bad_view g.D.Disk s doubt c.args.view c.args.cid.now c.args.self.now c.args.self.now refl refl refl stands (ap (λ views. finite_set.contains views c.args.view) stands.views ∙ sym c.if-not-contains.ensures)

pub returns-in-Some-clause-told : goal.returns-in-Some-clause-told
returns-in-Some-clause-told g c = λ told s doubt stands.
    own_digest g.D.Disk s doubt c.args.view c.args.cid.now c.args.self.now c.args.self.now refl refl refl stands c.in-Some.digest.now c.found.result c.in-Some.ensures
    (digest_lawful s c.args.view c.args.cid.now c.in-Some.digest.now c.from_slice.result c.found.result (ap (λ views. finite_set.contains views c.args.view) stands.views ∙ sym c.if-not-contains.ensures) c.in-Some.ensures c.from_slice.ensures c.found.ensures)

pub returns-in-Some-clause-made : goal.returns-in-Some-clause-made
returns-in-Some-clause-made g c = digest_makes g.D.Disk c.args.self.now c.args.view c.args.cid.now c.in-Some.digest.now c.found.result c.from_slice.result c.in-Some.ensures c.found.ensures

pub returns-in-Some-clause-len : goal.returns-in-Some-clause-len
returns-in-Some-clause-len g c = digest_len c.args.self.now c.args.cid.now c.in-Some.digest.now c.from_slice.result c.found.result c.in-Some.ensures c.from_slice.ensures c.found.ensures

pub returns-in_default-place-clause-told : goal.returns-in_default-place-clause-told
returns-in_default-place-clause-told g c = λ told s doubt stands.
    not_found g.D.Disk s doubt c.args.view c.args.cid.now c.args.self.now c.args.self.now refl refl refl stands (ap (λ views. finite_set.contains views c.args.view) stands.views ∙ sym c.if-not-contains.ensures)
    (fetched_is s.kept c.args.cid.now c.in_default.ensures ∙ none_there _ (ap is_some c.in_default-place.ensures.value ∙ held_is g.D.Disk c.args.self.now s doubt stands c.args.cid.now))

pub returns-in_default-vec-clause-told : goal.returns-in_default-vec-clause-told
returns-in_default-vec-clause-told g c = λ told s doubt stands.
    no_memory g.D.Disk s doubt c.args.view c.args.cid.now c.args.self.now c.args.self.now refl refl refl stands (ap (λ views. finite_set.contains views c.args.view) stands.views ∙ sym c.if-not-contains.ensures)
    (ap is_some (fetched_is s.kept c.args.cid.now c.in_default.ensures) ∙ sym (ap is_some c.in-Some-place.ensures.value ∙ held_is g.D.Disk c.args.self.now s doubt stands c.args.cid.now))

pub returns-clause-told : goal.returns-clause-told
returns-clause-told g c = λ told s doubt stands.
    c.read_block.ensures.told told s doubt c.args.view c.args.cid.now stands (ap (λ views. finite_set.contains views c.args.view) stands.views ∙ sym c.if-not-contains.ensures) (sym c.in_default.ensures, sym c.in-Some-place.ensures.value)

pub returns-clause-made : goal.returns-clause-made
returns-clause-made g c = c.read_block.ensures.made c.args.view c.args.cid.now (sym c.in_default.ensures, sym c.in-Some-place.ensures.value)

pub returns-then-not-contains-clause-reads : goal.returns-then-not-contains-clause-reads
returns-then-not-contains-clause-reads g c = λ sure. same_disk g.D.Disk _ _ refl

pub returns-in-Some-clause-reads : goal.returns-in-Some-clause-reads
returns-in-Some-clause-reads g c = λ sure. same_disk g.D.Disk _ _ refl

pub returns-in_default-place-clause-reads : goal.returns-in_default-place-clause-reads
returns-in_default-place-clause-reads g c = λ sure. same_disk g.D.Disk _ _ refl

pub returns-in_default-vec-clause-reads : goal.returns-in_default-vec-clause-reads
returns-in_default-vec-clause-reads g c = λ sure. same_disk g.D.Disk _ _ refl
