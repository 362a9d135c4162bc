use Rattle.std.proofs.Common.{length, sym, ap, ◌∙◌, arith}
use Rattle.std.specs.Option.{option_or}
use Rattle.std.specs.Prelude.{option_map}
use Rattle.std.specs.FinMap as finite_map
use Rattle.ss_model.proofs.Kept.{fetched_is as fetched_by}
use Rattle.ss_core.proofs.Gets.{fetched_is, identity_short, own_len, place_len}
use Rattle.ss_core.proofs.split_core.SplitCore.block_len.Goals as goal

pub overflow_cast-result : goal.overflow_cast-result
overflow_cast-result g c = omega (arith, identity_short c.args.cid.now c.in-Some.digest.now c.in-Some.ensures, c.as_bytes.ensures.bounds)

pub returns-in-Some-clause-block : goal.returns-in-Some-clause-block
returns-in-Some-clause-block g c = λ s doubt stands.
    ap (option_map length) (sym (fetched_by s.kept c.args.cid.now ∙ ap (λ i. option_or i (finite_map.get s.kept c.args.cid.now)) (sym c.in-Some.ensures)))

pub returns-in-None-clause-block : goal.returns-in-None-clause-block
returns-in-None-clause-block g c = λ s doubt stands. c.kept_len.ensures.block s doubt stands ∙ ap (option_map length) (sym (fetched_is s.kept c.args.cid.now c.in-None.ensures))

pub returns-in-Some-clause-len : goal.returns-in-Some-clause-len
returns-in-Some-clause-len g c = own_len c.args.self.now c.args.cid.now c.in-Some.digest.now c.in-Some.ensures

pub returns-in-None-clause-len : goal.returns-in-None-clause-len
returns-in-None-clause-len g c = c.kept_len.ensures.place ∙ place_len c.args.self.now c.args.cid.now c.in-None.ensures
