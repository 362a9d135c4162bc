use Rattle.ss_chain.specs.Parcel.{kept_of}
use Rattle.ss_model.proofs.Listing.{all_listed}
use Rattle.ss_model.proofs.reaching.reach.Goals as goal

pub returns-clause-reached : goal.returns-clause-reached
returns-clause-reached c = all_listed c.args.edge c.args.kept.now (kept_of c.args.kept.now) c.args.from.now c.in_ok-places.places c.in_ok-places.ensures c.in_ok-met.met c.in_ok-met.ensures c.kept_of_met.result c.kept_of_met.ensures.listed
