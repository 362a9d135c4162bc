use Rattle.std.proofs.Common.{length, ap, sym, ◌∙◌, arith}
use Rattle.ss_cid.proofs.Reading.{text_bytes-empty, text_bytes-other, text_bytes-long, text_bytes-letters}
use Rattle.ss_cid.proofs.text.read_text.Goals as goal

pub returns-in_default : goal.returns-in_default
returns-in_default c = sym (text_bytes-empty c.args.text.now c.in_default.ensures.cases)

pub returns-then-first-ne-SIGN : goal.returns-then-first-ne-SIGN
returns-then-first-ne-SIGN c = sym (text_bytes-other c.args.text.now _ _ c.in-Some.ensures.cases.0 c.if-first-ne-SIGN.true)

pub returns-then-text-gt-MAX_TEXT : goal.returns-then-text-gt-MAX_TEXT
returns-then-text-gt-MAX_TEXT c =
    let len = ap length c.in-Some.ensures.cases.0 in
    sym (text_bytes-long c.args.text.now _ _ c.in-Some.ensures.cases.0 c.if-first-ne-SIGN.false (omega arith))

pub returns : goal.returns
returns c =
    let len = ap length c.in-Some.ensures.cases.0 in
    c.read_letters.ensures ∙ sym (text_bytes-letters c.args.text.now _ _ c.in-Some.ensures.cases.0 c.if-first-ne-SIGN.false (omega arith))
