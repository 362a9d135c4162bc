use Rattle.std.proofs.Common.{◌<◌, ◌-◌, length, sym, subst, arith}
use Rattle.std.proofs.lemmas.List.{get_or_read}
use Rattle.ss_marks.proofs.Walks.{HasCome, come_next}
use Rattle.ss_marks.proofs.index.Index.above.Goals as goal

pub loop-last-preserved : goal.loop-last-preserved
loop-last-preserved c =
    let heads = c.args.self.now.heads.items in
    let below = c.args.self.now.below.items in
    let last = c.loop-last.last in
    let come = come_next heads below c.args.slot c.args.row c.loop-last.above last c.requires.falling c.requires.slot c.loop-last.invariant c.loop-last-test.true in
    let high = come.within in
    let in' : last - 1 < length below = omega arith in
    subst (λ x. HasCome heads below c.args.slot c.args.row last x) (sym (get_or_read below (last - 1) _ in' c.index-last-in-loop-last.ensures 0)) come
