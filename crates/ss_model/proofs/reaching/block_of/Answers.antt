use Rattle.std.proofs.Common.{◌≡◌, sym, rules}
use Rattle.std.specs.Prelude.{None}
use Rattle.ss_chain.proofs.Kept.{identity-some, identity-none}
use Rattle.ss_chain.specs.Parcel.{kept_of}
use Rattle.ss_model.proofs.Placing.{placed-block, placed-nowhere}
use Rattle.ss_model.proofs.reaching.block_of.Goals as goal

pub returns-in-Some : goal.returns-in-Some
returns-in-Some c = identity-some _ _ _ c.in-Some.ensures

pub returns-in_err-place : goal.returns-in_err-place
returns-in_err-place c =
    let none : c.from_residual.result ≡ None = search rules in
    rw none (placed-nowhere c.args.kept.now (kept_of c.args.kept.now) c.args.places.now c.requires c.args.cid.now (identity-none _ c.in_default.ensures) (sym c.in_err-place.ensures.value))

pub returns : goal.returns
returns c = placed-block c.args.kept.now (kept_of c.args.kept.now) c.args.places.now c.requires c.args.cid.now c.in_ok-place.place.now (c.at.result.0, c.at.result.1.now) (identity-none _ c.in_default.ensures) (sym c.in_ok-place.ensures.value) c.at.ensures
