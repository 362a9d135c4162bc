use Rattle.std.proofs.Common.{◌≡◌, ℕ, ◌+◌, ◌-◌, ◌++◌, length, take, arith, ap, length-append, ◌∙◌}
use Rattle.std.proofs.lemmas.List.{append_assoc, length-take-le}
use Rattle.ss_hash.proofs.Absorbing.{front_more}
use Rattle.ss_hash.proofs.state.State.absorb_front.Goals as goal

pub loop-rest-preserved : goal.loop-rest-preserved
loop-rest-preserved c =
    let long = c.loop-rest-test.true in
    let more = front_more c.args.bytes.now c.loop-rest.rest.now _ _ c.loop-rest.invariant.left c.loop-rest.invariant.at_most (omega arith) c.split_at.ensures.front c.split_at.ensures.back in
    record {
      left = more.0;
      at_most = omega arith;
      waits = λ _. omega arith;
      absorbed = λ n m held short.
          let taken = c.loop-rest.invariant.absorbed n m held short in
          let len : length (m ++ take (length c.args.bytes.now - length c.loop-rest.rest.now) c.args.bytes.now) ≡ length m + (length c.args.bytes.now - length c.loop-rest.rest.now) =
          length-append m _ ∙ ap (λ (k : ℕ). length m + k) (length-take-le _ c.args.bytes.now (omega arith)) in
          rw (more.1, ← append_assoc) (c.absorb.ensures n _ taken (omega arith));
    }
