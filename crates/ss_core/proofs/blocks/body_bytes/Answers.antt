use Rattle.std.proofs.Common.{◌≡◌, ℕ, List, length, take, arith, ap}
use Rattle.std.proofs.lemmas.List.{take_all}
use Rattle.ss_core.proofs.PutBytes.{body_more, body_within}
use Rattle.ss_core.proofs.blocks.body_bytes.Goals as goal

pub loop-i-init : goal.loop-i-init
loop-i-init c = omega arith

pub overflow_add-bytes-in-loop-i-2 : goal.overflow_add-bytes-in-loop-i-2
overflow_add-bytes-in-loop-i-2 c =
    let pair : List ℕ × List ℕ = (c.at-cid.result.0, c.at-cid.result.1.now) in
    omega (arith, body_within c.args.blocks.now c.loop-i.i pair c.loop-i.bytes c.at-cid.ensures c.loop-i.invariant, ap (λ (l : List ℕ). length l) c.as_bytes.ensures.value)

pub loop-i-preserved : goal.loop-i-preserved
loop-i-preserved c =
    let pair : List ℕ × List ℕ = (c.at-cid.result.0, c.at-cid.result.1.now) in
    omega (arith, body_more c.args.blocks.now c.loop-i.i pair c.loop-i.bytes c.at-cid.ensures c.loop-i.invariant, ap (λ (l : List ℕ). length l) c.as_bytes.ensures.value)

pub returns : goal.returns
returns c =
    let whole : take c.loop-i.i c.args.blocks.now ≡ c.args.blocks.now = take_all c.loop-i.i c.args.blocks.now (omega arith) in
    rw whole at c.loop-i.invariant
