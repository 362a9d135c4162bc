use Rattle.std.proofs.Common.{◌≡◌, ◌∙◌, length, get_or, set, sym, ap, subst, arith, length-set}
use Rattle.std.proofs.lemmas.List.{get_or-set_other}
use Rattle.ss_marks.specs.declared.row.Row.{Row}
use Rattle.ss_marks.specs.Rows.{no_row, IsVacant, IsStack}
use Rattle.ss_marks.proofs.Stacks.{popped}
use Rattle.ss_marks.proofs.room.place_row.Goals as goal

pub returns-in-Some-clause-vacant : goal.returns-in-Some-clause-vacant
returns-in-Some-clause-vacant c =
    let rows = c.args.rows.now.items in
    let links = c.args.links.now in
    let number = c.in-Some.number in
    let pop = c.in-Some.ensures in
    let rows' = set rows number c.args.row in
    let top = c.args.vacant.now.top in
    let under : c.pop.new.self.top ≡ get_or links top 0 = pop.2 ∙ ap (λ r. get_or links r 0) pop.0 in
    subst (λ x. IsStack (IsVacant rows') links c.pop.new.self.len x) (sym under)
    (popped (IsVacant rows) (IsVacant rows') links c.args.vacant.now.len c.pop.new.self.len top pop.1
    (λ k vacant other. record {
      within = omega (arith, vacant.within, length-set rows number c.args.row);
      is = ap (λ (row : Row). row.colour) (get_or-set_other rows number k c.args.row no_row (λ e. other (e ∙ pop.0))) ∙ vacant.is;
    }) c.requires.vacant)
