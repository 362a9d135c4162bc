use Rattle.std.proofs.Common.{◌≡◌, ℕ, Err, sym, ap, subst, ◌∙◌}
use Rattle.ss_cid.specs.Cid.{digest_of}
use Rattle.ss_hash.specs.Digest.{PartAt}
use Rattle.ss_hash.specs.declared.fault.HashFault.TheVariants.{NotIdentity}
use Rattle.ss_hash.proofs.Digests.{part_unique}
use Rattle.ss_hash.proofs.block.check_for_parts.Goals as goal

pub returns-in-Some-clause-not_identity : goal.returns-in-Some-clause-not_identity
returns-in-Some-clause-not_identity c = λ at.
    let parts : PartAt (digest_of c.args.cid.now) c.args.bytes.now c.in-Some.at = rw (← c.parts-parts.ensures.digest) c.in-Some.ensures.place in (
      λ e.
          let same : c.in-Some.at ≡ at = cc in
          (sym c.parts-parts.ensures.hash_code ∙ c.in-Identity.is, subst (PartAt (digest_of c.args.cid.now) c.args.bytes.now) same parts),
      λ other. ap (λ (i : ℕ). Err (NotIdentity i)) (part_unique (digest_of c.args.cid.now) c.args.bytes.now c.in-Some.at at parts other.1),
    )
