use Rattle.std.proofs.Common.{◌≡◌, ℕ, ◌∷◌, refl, ap, ◌∙◌, arith}
use Rattle.ss_records.proofs.Placed.{placed_put, placed_fault}
use Rattle.ss_records.proofs.places.PutBlocks.of.Goals as goal

pub returns-in-Ok-clause-places : goal.returns-in-Ok-clause-places
returns-in-Ok-clause-places c =
    let body : c.args.body.now ≡ 3 ∷ c.in-Some.fields.now = c.in-Some.ensures.cases.0 ∙ ap (λ (k : ℕ). k ∷ c.in-Some.fields.now) c.if-kind-eq-KIND_PUT.true in
    rw c.in-Ok.ensures.end
    (placed_put c.args.body.now c.in-Some.fields.now c.in-Ok.found.rest.now _ c.in-Ok.found.due (λ i. omega (arith, c.type_inv.body i)) body refl c.in-Ok.ensures.due)

pub returns-in-Err-clause-fault : goal.returns-in-Err-clause-fault
returns-in-Err-clause-fault c =
    let body : c.args.body.now ≡ 3 ∷ c.in-Some.fields.now = c.in-Some.ensures.cases.0 ∙ ap (λ (k : ℕ). k ∷ c.in-Some.fields.now) c.if-kind-eq-KIND_PUT.true in
    placed_fault c.args.body.now c.in-Some.fields.now c.in-Err.misfit.left _ body c.in-Err.ensures.err c.place.ensures
