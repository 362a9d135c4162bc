use Rattle.std.proofs.Common.{option_map, sym, ap, ◌∙◌, eq-eqb, ne_eqb}
use Rattle.ss_hamt.specs.Node.{found_of, found_or_none}
use Rattle.ss_node.proofs.Rows.{ended, unended}
use Rattle.ss_hamt.proofs.Nodes.{read-parts, node-miscounted, node-unended, node-whole, found-set, found-clear}
use Rattle.ss_hamt.proofs.node.read_node.Goals as goal
use Rattle.ss_hamt.proofs.node.read_node.Goals.{then-count-from-via-then-count-from, then-count-from-via-else-count-from+then-not-is_at_end}

pub returns-then-count-from : goal.returns-then-count-from
returns-then-count-from c =
    let pointers = c.in-Some.ensures.value in
    let read = read-parts (λ field. field.now) _ _ _ c.in_ok-field.field pointers.0 _ _ _ _ c.pick_pointer.new.cursor
    c.in_ok-array.ensures c.if-branch-ne-PARTS.false c.in_ok-field.ensures c.in_ok-bits.ensures.0 c.in_ok-bits.ensures.1 c.in_ok-count.ensures pointers.1 in
    elim c.then-count-from.branch [
      | then-count-from-via-then-count-from w ↦ node-miscounted _ _ _ _ read (ne_eqb c.in_ok-count.count _ (λ e. absurd (w.if-count-from.true (e ∙ sym c.from.ensures))))
      | then-count-from-via-else-count-from+then-not-is_at_end w ↦
          node-unended _ _ _ _ read (eq-eqb c.in_ok-count.count _ (w.if-count-from.false ∙ c.from.ensures))
          (unended _ (λ e. let yes = w.is_at_end.ensures.1 e in absurd (let differ : ⊥ = cc (yes, w.if-not-is_at_end.true) in differ)))
    ]

pub returns-then-not-is_set : goal.returns-then-not-is_set
returns-then-not-is_set c =
    let pointers = c.in-Some.ensures.value in
    let read = read-parts (λ field. field.now) _ _ _ c.in_ok-field.field pointers.0 _ _ _ _ c.pick_pointer.new.cursor
    c.in_ok-array.ensures c.if-branch-ne-PARTS.false c.in_ok-field.ensures c.in_ok-bits.ensures.0 c.in_ok-bits.ensures.1 c.in_ok-count.ensures pointers.1 in
    let count = eq-eqb c.in_ok-count.count _ (c.if-count-from.false ∙ c.from.ensures) in
    let whole = node-whole _ _ _ _ read count (ended _ (c.is_at_end.ensures.0 c.if-not-is_at_end.false)) in
    (_, whole, found-clear c.args.key.now c.args.slot _ (sym c.is_set.ensures ∙ c.if-not-is_set.true))

pub returns-in-Some-picked : goal.returns-in-Some-picked
returns-in-Some-picked c =
    let pointers = c.in-Some.ensures.value in
    let read = read-parts (λ field. field.now) _ _ _ c.in_ok-field.field pointers.0 _ _ _ _ c.pick_pointer.new.cursor
    c.in_ok-array.ensures c.if-branch-ne-PARTS.false c.in_ok-field.ensures c.in_ok-bits.ensures.0 c.in_ok-bits.ensures.1 c.in_ok-count.ensures pointers.1 in
    let count = eq-eqb c.in_ok-count.count _ (c.if-count-from.false ∙ c.from.ensures) in
    let whole = node-whole _ _ _ _ read count (ended _ (c.is_at_end.ensures.0 c.if-not-is_at_end.false)) in
    let at = c.from-index.ensures ∙ c.ones_below.ensures in
    let set = found-set c.args.key.now c.args.slot c.from-index.result _ c.in-Some.picked at (sym c.is_set.ensures ∙ c.if-not-is_set.false) pointers.2 in
    (_, whole, ap (λ picked. found_or_none (option_map found_of picked)) (sym c.in-Some-picked.is) ∙ set)

pub returns-in-None : goal.returns-in-None
returns-in-None c =
    let pointers = c.in-Some.ensures.value in
    let read = read-parts (λ field. field.now) _ _ _ c.in_ok-field.field pointers.0 _ _ _ _ c.pick_pointer.new.cursor
    c.in_ok-array.ensures c.if-branch-ne-PARTS.false c.in_ok-field.ensures c.in_ok-bits.ensures.0 c.in_ok-bits.ensures.1 c.in_ok-count.ensures pointers.1 in
    let count = eq-eqb c.in_ok-count.count _ (c.if-count-from.false ∙ c.from.ensures) in
    let whole = node-whole _ _ _ _ read count (ended _ (c.is_at_end.ensures.0 c.if-not-is_at_end.false)) in
    let at = c.from-index.ensures ∙ c.ones_below.ensures in
    let set = found-set c.args.key.now c.args.slot c.from-index.result _ c.in-Some.picked at (sym c.is_set.ensures ∙ c.if-not-is_set.false) pointers.2 in
    (_, whole, ap (λ picked. found_or_none (option_map found_of picked)) (sym c.in-None.is) ∙ set)
