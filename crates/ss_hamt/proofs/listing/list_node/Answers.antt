use Rattle.std.proofs.Common.{refl, sym, ◌∙◌, eq-eqb, ne_eqb, arith}
use Rattle.ss_hamt.specs.Node.{Node}
use Rattle.ss_node.proofs.Rows.{ended, unended}
use Rattle.ss_hamt.proofs.Nodes.{read-parts, node-miscounted, node-unended, node-whole}
use Rattle.ss_node.proofs.Members.{reversed-end}
use Rattle.ss_hamt.proofs.Walking.{shallow-node}
use Rattle.ss_hamt.proofs.listing.list_node.Goals as goal
use Rattle.ss_hamt.proofs.listing.list_node.Goals.{then-count-from-via-then-count-from, then-count-from-via-else-count-from+then-not-is_at_end}

pub returns-then-count-from : goal.returns-then-count-from
returns-then-count-from c =
    let pointers = c.in_ok-has_child.ensures in
    let read = read-parts (λ field. field.now) _ _ _ c.in-Some.field pointers.0 _ _ _ _ c.list_pointers.new.cursor
    c.in-Some-eq2.ensures c.in-Some-eq2.field-0-test c.in-Some.ensures c.in-Some-read_bitfield.ensures.0 c.in-Some-read_bitfield.ensures.1 c.in-Some-array.ensures pointers.1 in
    elim c.then-count-from.branch [
      | then-count-from-via-then-count-from w ↦ let none = node-miscounted _ _ _ _ read (ne_eqb c.in-Some-array.count _ (λ e. absurd (w.if-count-from.true (e ∙ sym c.from.ensures)))) in rw none refl
      | then-count-from-via-else-count-from+then-not-is_at_end w ↦
          let none = node-unended _ _ _ _ read (eq-eqb c.in-Some-array.count _ (w.if-count-from.false ∙ c.from.ensures))
          (unended _ (λ e. let yes = w.is_at_end.ensures.1 e in absurd (let differ : ⊥ = cc (yes, w.if-not-is_at_end.true) in differ))) in
          rw none refl
    ]

pub returns : goal.returns
returns c =
    let pointers = c.in_ok-has_child.ensures in
    let read = read-parts (λ field. field.now) _ _ _ c.in-Some.field pointers.0 _ _ _ _ c.list_pointers.new.cursor
    c.in-Some-eq2.ensures c.in-Some-eq2.field-0-test c.in-Some.ensures c.in-Some-read_bitfield.ensures.0 c.in-Some-read_bitfield.ensures.1 c.in-Some-array.ensures pointers.1 in
    let count = eq-eqb c.in-Some-array.count _ (c.if-count-from.false ∙ c.from.ensures) in
    let whole = node-whole _ _ _ _ read count (ended _ (c.is_at_end.ensures.0 c.if-not-is_at_end.false)) in
    let n : Node = record { bits = c.in-Some-read_bitfield.bits; pointers = pointers.0 } in
    let shallow = shallow-node c.args.level n c.in_ok-has_child.has_child c.requires pointers.4 c.else-level-eq-LAST_LEVEL.either in
    (n, rw whole shallow, c.reverse_from.ensures ∙ reversed-end c.args.pending.now.items _ _ _ pointers.3 (omega (arith, c.len-start.ensures, c.args.pending.now.ok)))
