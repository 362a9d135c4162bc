use Rattle.std.proofs.Common.{string_bytes, sym, ap, ◌∙◌}
use Rattle.ss_app.specs.Words.{with_word}
use Rattle.ss_app.proofs.WordSteps.{word_read, word_at_fault}
use Rattle.ss_app.proofs.words.read_settings.Goals as goal

pub returns-in_default : goal.returns-in_default
returns-in_default c =
    let refused = ap (with_word c.loop-index.settings) (sym c.as_str.ensures.value) ∙ sym c.with_word.ensures ∙ c.in_default.is in
    sym (c.loop-index.invariant ∙ word_at_fault string_bytes c.args.words.now c.loop-index.index _ c.loop-index-test.true c.index-words-index.is c.loop-index.settings refused)

pub loop-index-preserved : goal.loop-index-preserved
loop-index-preserved c =
    let taken = ap (with_word c.loop-index.settings) (sym c.as_str.ensures.value) ∙ sym c.with_word.ensures ∙ c.in-Some.is in
    c.loop-index.invariant ∙ word_read string_bytes c.args.words.now c.loop-index.index _ c.loop-index-test.true c.index-words-index.is c.loop-index.settings _ taken
