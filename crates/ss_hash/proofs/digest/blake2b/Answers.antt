use Rattle.std.proofs.Common.{◌≡◌, ◌+◌, ◌-◌, [], ◌++◌, length, take, refl, sym, ap, ◌∙◌, arith, length-append}
use Rattle.ss_hash.specs.Blake2b.{blake2b}
use Rattle.ss_hash.proofs.Absorbing.{front_rest}
use Rattle.ss_hash.proofs.Digests.{length-blake2b}
use Rattle.ss_hash.proofs.digest.blake2b.Goals as goal

pub returns-clause-digest : goal.returns-clause-digest
unfolding blake2b
returns-clause-digest c =
    let rest = c.absorb_front-rest.result.now in
    let front = take (length c.args.bytes.now - length rest) c.args.bytes.now in
    let whole : front ++ rest ≡ c.args.bytes.now = front_rest c.args.bytes.now rest c.absorb_front-rest.ensures.left in
    let len : length front + length rest ≡ length c.args.bytes.now = sym (length-append front rest) ∙ ap length whole in
    let absorbed = c.absorb_front-rest.ensures.absorbed c.args.out_len [] c.new-state.ensures (omega arith) in
    let waits : length rest ≡ 0 → length front ≡ 0 = grind arith in
    let hash = c.finish.ensures c.args.out_len front absorbed (omega arith) waits in
    rw (c.digest_bytes.ensures, hash, whole) refl

pub returns-clause-size : goal.returns-clause-size
returns-clause-size c = length-blake2b c.args.out_len c.args.bytes.now c.requires.high
