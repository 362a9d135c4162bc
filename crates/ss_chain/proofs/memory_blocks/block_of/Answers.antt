use Rattle.std.proofs.Common.{◌∙◌, sym, arith}
use Rattle.ss_chain.proofs.Firsts.{list_any-next}
use Rattle.ss_chain.proofs.Kept.{identity-some, identity-none, fetched-stored, kept-found, kept-none}
use Rattle.ss_chain.specs.Tipset.{same_cid}
use Rattle.ss_chain.proofs.memory_blocks.block_of.Goals as goal

pub returns-in-Some : goal.returns-in-Some
returns-in-Some c = identity-some _ _ _ c.in-Some.ensures

pub returns-then-eq : goal.returns-then-eq
returns-then-eq c =
    let stored = identity-none _ c.in_default.ensures in
    sym (kept-found _ stored _ _ _ c.at-stored.ensures c.loop-i.invariant (sym c.eq.ensures ∙ c.if-eq.true)) ∙ fetched-stored _ _ stored

pub loop-i-preserved : goal.loop-i-preserved
loop-i-preserved c = list_any-next (λ b. same_cid c.args.cid.now b.0) _ _ _ c.at-stored.ensures c.loop-i.invariant (sym c.eq.ensures ∙ c.if-eq.false)

pub returns : goal.returns
returns c =
    let stored = identity-none _ c.in_default.ensures in
    sym (kept-none _ stored _ _ (omega arith) c.loop-i.invariant) ∙ fetched-stored _ _ stored
