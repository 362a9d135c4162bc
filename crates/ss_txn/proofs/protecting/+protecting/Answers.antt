use Rattle.std.proofs.Common.{rules, ◌≡◌, ◌∷◌, ◌<◌, [], length, ap, subst, arith, List, ℕ}
use Rattle.std.proofs.lemmas.List.Elements.{All-rest}
use Rattle.ss_chain.specs.Follows.{followed}
use Rattle.ss_chain.proofs.Kept.{identity-none}
use Rattle.ss_txn.specs.Marked.{Protects}
use Rattle.ss_txn.proofs.Paths.{digest-of-identity, digest-short}
use Rattle.ss_txn.proofs.Protections.{leaves_next, leaves_none, protects_stored, protects_identity}
use Rattle.ss_txn.proofs.protecting.+protecting.Goals as goal

pub protect_followed-loop-link-preserved : goal.protect_followed-loop-link-preserved
protect_followed-loop-link-preserved t c =
    let steps : c.loop-link.link-iterator ≡ c.in-Some.link ∷ c.next.new.self = search rules in
    record {
      can = tt;
      ends = tt;
      shorter = All-rest (λ (link : List ℕ). length link < length c.args.block.now) c.in-Some.link c.next.new.self c.loop-link.link-iterator steps c.loop-link.invariant.shorter;
      leaves = leaves_next c.args.edge (followed c.args.edge c.args.cid.now c.args.block.now) c.loop-link.link-iterator c.in-Some.link c.next.new.self _ _ _ steps c.loop-link.invariant.leaves c.protect_one.ensures;
    }

pub protect_followed-returns : goal.protect_followed-returns
protect_followed-returns t c =
    let steps : c.loop-link.link-iterator ≡ [] = search rules in
    leaves_none c.args.edge _ c.loop-link.link-iterator _ _ steps c.loop-link.invariant.leaves

pub protect_one-protect_followed-requires : goal.protect_one-protect_followed-requires
protect_one-protect_followed-requires t c =
    let digest = digest-of-identity c.args.cid.now c.in-Some.block.now c.in-Some.ensures in
    let len = ap length digest.1 in
    (omega (arith, len, digest-short c.args.cid.now, c.decreases), tt)

pub protect_one-returns-in-Some : goal.protect_one-returns-in-Some
protect_one-returns-in-Some t c =
    let digest = digest-of-identity c.args.cid.now c.in-Some.block.now c.in-Some.ensures in
    protects_identity c.args.edge c.args.cid.now _ _ _ digest.0 c.shade_row.ensures
    (subst (λ (block : List ℕ). Protects c.args.edge (followed c.args.edge c.args.cid.now block) c.shade_row.new.marks c.protect_followed.new.marks) digest.1 c.protect_followed.ensures)

pub protect_one-returns-in_default : goal.protect_one-returns-in_default
protect_one-returns-in_default t c = protects_stored c.args.edge c.args.cid.now _ _ (identity-none c.args.cid.now c.in_default.ensures) c.shade_row.ensures
