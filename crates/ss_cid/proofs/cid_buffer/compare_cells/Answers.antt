use Rattle.std.proofs.Common.{◌≡◌, ◌+◌, ◌*◌, ◌<◌, ℕ, take, nat_cmp, ap, ap₂, sym, ◌∙◌, arith}
use Rattle.std.specs.Cmp.Lexicographic.{slice_cmp}
use Rattle.std.proofs.lemmas.List.{take_all}
use Rattle.std.proofs.lemmas.List.Elements.{All-from_get_or}
use Rattle.ss_cid.proofs.Ordered.{tie_itself}
use Rattle.ss_cid.proofs.Words.{words_differ, words_tie}
use Rattle.ss_cid.proofs.cid_buffer.compare_cells.Goals as goal

pub returns-then-is_ne : goal.returns-then-is_ne
returns-then-is_ne c =
    let P : ℕ → Type 0 = λ b. b < 256 in
    let xs = c.args.cells.now in
    let ys = c.args.others.now in
    let order = c.cmp-order.ensures ∙ ap₂ nat_cmp c.word_at.ensures c.word_at-in-loop-i.ensures in
    words_differ xs ys (8 * c.loop-i.i) (All-from_get_or P xs 0 (λ i _. c.fits-cells i)) (All-from_get_or P ys 0 (λ i _. c.fits-others i)) (omega arith) (omega arith)
    c.loop-i.invariant c.cmp-order.result order c.if-is_ne.ensures

pub loop-i-preserved : goal.loop-i-preserved
loop-i-preserved c =
    let P : ℕ → Type 0 = λ b. b < 256 in
    let xs = c.args.cells.now in
    let ys = c.args.others.now in
    let order = c.cmp-order.ensures ∙ ap₂ nat_cmp c.word_at.ensures c.word_at-in-loop-i.ensures in
    let next : 8 * c.loop-i.i + 8 ≡ 8 * (c.loop-i.i + 1) = omega arith in
    let tie = words_tie xs ys (8 * c.loop-i.i) (All-from_get_or P xs 0 (λ i _. c.fits-cells i)) (All-from_get_or P ys 0 (λ i _. c.fits-others i)) (omega arith) (omega arith)
    c.loop-i.invariant c.cmp-order.result order c.if-is_ne.ensures in
    ap (λ n. take n xs) (sym next) ∙ tie ∙ ap (λ n. take n ys) next

pub returns : goal.returns
returns c =
    let xs = c.args.cells.now in
    let ys = c.args.others.now in
    let all : 8 * c.loop-i.i ≡ 72 = omega arith in
    let same : xs ≡ ys = sym (take_all (8 * c.loop-i.i) xs (omega arith)) ∙ c.loop-i.invariant ∙ take_all (8 * c.loop-i.i) ys (omega arith) in
    sym (ap (λ zs. slice_cmp nat_cmp zs ys) same ∙ tie_itself ys)
