use Rattle.std.proofs.Common.{◌≡◌, ◌*◌, ◌/◌, length, sym, ap, ◌∙◌, subst, inl, inr, arith}
use Rattle.std.proofs.lemmas.Bool.{cases_lt}
use Rattle.ss_cid.proofs.Digits.{length-digits}
use Rattle.ss_cid.proofs.Reading.{Reads, Reads-start, Reads-kept, Reads-spilt, letters_bytes-bad, letters_bytes-cut, letters_bytes-unused, letters_bytes-Ok}
use Rattle.ss_cid.proofs.text.read_letters.Goals as goal

pub loop-k-init : goal.loop-k-init
loop-k-init c = rw (c.new-bits.ensures.held, c.new-bits.ensures.len, c.new-room.ensures) (Reads-start c.args.letters.now)

pub spill-requires-clause-room : goal.spill-requires-clause-room
spill-requires-clause-room c =
    let len = ap length c.loop-k.invariant.room_is ∙ length-digits 256 (5 * c.loop-k.k / 8) _ in
    omega arith

pub returns-in_default : goal.returns-in_default
returns-in_default c = sym (letters_bytes-bad c.args.letters.now c.loop-k.k _ _ _ c.loop-k.invariant c.loop-k-test.true c.in_default.ensures)

pub loop-k-preserved : goal.loop-k-preserved
loop-k-preserved c =
    let letters = c.args.letters.now in
    let k = c.loop-k.k in
    let bits = c.loop-k.bits in
    let value = c.in-Some.value in
    let is = c.in-Some.ensures in
    elim (cases_lt c.feed.new.self.len 8) [
      | inl few ↦
          let kept = c.spill.ensures.kept few in
          rw (kept.0, kept.1, c.feed.ensures.held, c.feed.ensures.len) (Reads-kept letters k bits.held bits.len value c.loop-k.room c.loop-k.invariant c.loop-k-test.true is.0 is.1 is.2 (omega arith))
      | inr enough ↦
          let spilt = c.spill.ensures.spilt enough in
          rw (spilt.0, spilt.1, spilt.2, c.feed.ensures.held, c.feed.ensures.len) (Reads-spilt letters k bits.held bits.len value c.loop-k.room c.loop-k.invariant c.loop-k-test.true is.0 is.1 is.2 (omega arith))
    ]

pub returns-then-bits-ge5 : goal.returns-then-bits-ge5
returns-then-bits-ge5 c =
    let letters = c.args.letters.now in
    let all : c.loop-k.k ≡ length letters = omega arith in
    let read = subst (λ k. Reads letters k c.loop-k.bits.held c.loop-k.bits.len c.loop-k.room) all c.loop-k.invariant in
    sym (letters_bytes-cut letters _ _ _ read (omega arith))

pub returns-then-bits-ne0 : goal.returns-then-bits-ne0
returns-then-bits-ne0 c =
    let letters = c.args.letters.now in
    let all : c.loop-k.k ≡ length letters = omega arith in
    let read = subst (λ k. Reads letters k c.loop-k.bits.held c.loop-k.bits.len c.loop-k.room) all c.loop-k.invariant in
    sym (letters_bytes-unused letters _ _ _ read (omega arith) (omega arith))

pub returns : goal.returns
returns c =
    let letters = c.args.letters.now in
    let all : c.loop-k.k ≡ length letters = omega arith in
    let read = subst (λ k. Reads letters k c.loop-k.bits.held c.loop-k.bits.len c.loop-k.room) all c.loop-k.invariant in
    sym (letters_bytes-Ok letters _ _ _ read (omega arith) (omega arith))
