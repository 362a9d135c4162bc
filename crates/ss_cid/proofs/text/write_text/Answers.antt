use Rattle.std.proofs.Common.{◌≡◌, ◌<◌, ◌≤◌, ◌/◌, ◌^◌, length, subst, inl, inr, arith}
use Rattle.std.proofs.lemmas.Bool.{cases_lt}
use Rattle.ss_cid.specs.Base32.{letter_count}
use Rattle.ss_cid.proofs.Queues.{value_fits}
use Rattle.ss_cid.proofs.Writing.{Writes, Writes-start, Writes-more, Writes-end, Writes-draws, Draws, Draws-fed, front}
use Rattle.ss_cid.proofs.text.write_text.Goals as goal
use Rattle.ss_cid.proofs.text.write_text.Goals.{After-refill-taken}

-- the bits that a character is taken from
drawn : (c : After-refill-taken) → Draws c.args.bytes.now c.loop-k.k c.refill-taken.result c.refill-taken.new.bits.held c.refill-taken.new.bits.len (front c.args.bytes.now c.loop-k.taken / 2 ^ c.loop-k.bits.len)
    × (5 ≤ c.refill-taken.new.bits.len) × (c.refill-taken.new.bits.len < 13)
drawn c =
    let w = c.loop-k.invariant in
    let old = Writes-draws c.args.bytes.now c.loop-k.out c.args.out.now c.loop-k.k c.loop-k.taken c.loop-k.bits.held c.loop-k.bits.len w in
    elim (cases_lt c.loop-k.bits.len 5) [
      | inl few ↦
          let fed = c.refill-taken.ensures.fed few in
          rw (fed.0, fed.1, fed.2) (Draws-fed c.args.bytes.now c.loop-k.k c.loop-k.taken c.loop-k.bits.held c.loop-k.bits.len _ (omega (arith, c.type_inv.bytes c.loop-k.taken)) old, omega arith, omega arith)
      | inr enough ↦
          let kept = c.refill-taken.ensures.kept enough in
          rw (kept.0, kept.1) (old, enough, omega (arith, w.few))
    ]

pub loop-k-init : goal.loop-k-init
loop-k-init c = rw (c.new-bits.ensures.held, c.new-bits.ensures.len) (Writes-start c.args.bytes.now c.args.out.now c.told-out)

pub letter-requires : goal.letter-requires
letter-requires c =
    let d = drawn (goal.at.letter-requires c).After-refill-taken in
    let small = value_fits c.refill-taken.new.bits.held c.refill-taken.new.bits.len d.1 c.refill-taken.new.bits.fits in
    omega arith

pub loop-k-preserved : goal.loop-k-preserved
loop-k-preserved c =
    let d = drawn (goal.at.loop-k-preserved c).After-refill-taken in
    rw (c.letter.ensures, c.emit.ensures.value, c.emit.ensures.held, c.emit.ensures.len)
    (Writes-more c.args.bytes.now c.loop-k.out c.args.out.now c.loop-k.k c.loop-k.taken c.loop-k.bits.held c.loop-k.bits.len c.refill-taken.result c.refill-taken.new.bits.held c.refill-taken.new.bits.len (omega arith) c.loop-k.invariant d.0 d.1 d.2)

pub returns-clause-value : goal.returns-clause-value
returns-clause-value c =
    let count = letter_count (length c.args.bytes.now) in
    let all : c.loop-k.k ≡ count = omega arith in
    (Writes-end c.args.bytes.now c.loop-k.out c.args.out.now c.loop-k.taken c.loop-k.bits.held c.loop-k.bits.len (subst (λ k. Writes c.args.bytes.now c.loop-k.out c.args.out.now k c.loop-k.taken c.loop-k.bits.held c.loop-k.bits.len) all c.loop-k.invariant)).0

pub returns-clause-len : goal.returns-clause-len
returns-clause-len c =
    let count = letter_count (length c.args.bytes.now) in
    let all : c.loop-k.k ≡ count = omega arith in
    (Writes-end c.args.bytes.now c.loop-k.out c.args.out.now c.loop-k.taken c.loop-k.bits.held c.loop-k.bits.len (subst (λ k. Writes c.args.bytes.now c.loop-k.out c.args.out.now k c.loop-k.taken c.loop-k.bits.held c.loop-k.bits.len) all c.loop-k.invariant)).1
