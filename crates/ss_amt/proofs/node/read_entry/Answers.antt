use Rattle.std.proofs.Common.{◌≡◌, ◌*◌, ◌^◌, ◌%◌, sym, ap, ◌∙◌, arith}
use Rattle.std.proofs.lemmas.Nat.{one_shl}
use Rattle.ss_node.specs.Bits.{ones_below}
use Rattle.ss_amt.specs.Node.{has_counts}
use Rattle.ss_node.proofs.Rows.{ended, unended}
use Rattle.ss_amt.proofs.Nodes.{read-parts, node-miscounted, node-unended, node-whole, entry-set, entry-clear, picked-link, picked-value}
use Rattle.ss_amt.proofs.node.read_entry.Goals as goal
use Rattle.ss_amt.proofs.node.read_entry.Goals.{then-not-has_counts-via-then-not-has_counts, then-not-has_counts-via-else-not-has_counts+then-not-is_at_end}

pub returns-then-not-has_counts : goal.returns-then-not-has_counts
returns-then-not-has_counts c =
    let links = c.in_ok-link.ensures.value in
    let values = c.in_ok-value.ensures.value in
    let read = read-parts (λ bits. bits.now) c.args.width c.args.height _ _ _ c.in_ok-bits.bits links.0 values.0 _ _ _ _ _ _ c.pick_item.new.cursor
    c.in_ok-array.ensures c.if-branch-ne-PARTS.false c.in_ok-bits.ensures (sym c.if-not-is_bitmap.ensures.value)
    c.in_ok-links.ensures links.1 c.in_ok-link.ensures.end c.in_ok-values.ensures values.1 in
    let slots : 1 * 2 ^ c.args.width % 18446744073709551616 ≡ 2 ^ c.args.width = one_shl c.args.width 64 (omega arith) in
    let taken : ones_below c.in_ok-bits.bits.now (2 ^ c.args.width) ≡ c.ones_below-taken.result = ap (ones_below c.in_ok-bits.bits.now) (sym slots) ∙ sym c.ones_below-taken.ensures.value in
    let counts : has_counts c.args.height (ones_below c.in_ok-bits.bits.now (2 ^ c.args.width)) c.in_ok-links.links c.in_ok-values.values ≡ c.has_counts.result =
    ap (λ t. has_counts c.args.height t c.in_ok-links.links c.in_ok-values.values) taken ∙ sym c.has_counts.ensures in
    elim c.then-not-has_counts.branch [
      | then-not-has_counts-via-then-not-has_counts w ↦ node-miscounted _ _ _ _ _ _ _ read (counts ∙ w.if-not-has_counts.true)
      | then-not-has_counts-via-else-not-has_counts+then-not-is_at_end w ↦
          node-unended _ _ _ _ _ _ _ read (counts ∙ w.if-not-has_counts.false)
          (unended _ (λ e. let yes = w.is_at_end.ensures.1 e in absurd (let differ : ⊥ = cc (yes, w.if-not-is_at_end.true) in differ)))
    ]

pub returns-then-is_set : goal.returns-then-is_set
returns-then-is_set c =
    let links = c.in_ok-link.ensures.value in
    let values = c.in_ok-value.ensures.value in
    let read = read-parts (λ bits. bits.now) c.args.width c.args.height _ _ _ c.in_ok-bits.bits links.0 values.0 _ _ _ _ _ _ c.pick_item.new.cursor
    c.in_ok-array.ensures c.if-branch-ne-PARTS.false c.in_ok-bits.ensures (sym c.if-not-is_bitmap.ensures.value)
    c.in_ok-links.ensures links.1 c.in_ok-link.ensures.end c.in_ok-values.ensures values.1 in
    let slots : 1 * 2 ^ c.args.width % 18446744073709551616 ≡ 2 ^ c.args.width = one_shl c.args.width 64 (omega arith) in
    let taken : ones_below c.in_ok-bits.bits.now (2 ^ c.args.width) ≡ c.ones_below-taken.result = ap (ones_below c.in_ok-bits.bits.now) (sym slots) ∙ sym c.ones_below-taken.ensures.value in
    let counts : has_counts c.args.height (ones_below c.in_ok-bits.bits.now (2 ^ c.args.width)) c.in_ok-links.links c.in_ok-values.values ≡ c.has_counts.result =
    ap (λ t. has_counts c.args.height t c.in_ok-links.links c.in_ok-values.values) taken ∙ sym c.has_counts.ensures in
    let whole = node-whole _ _ _ _ _ _ _ read (counts ∙ c.if-not-has_counts.false) (ended _ (c.is_at_end.ensures.0 c.if-not-is_at_end.false)) in
    (_, whole, entry-set c.args.slot c.ones_below-index.result _ _ _ c.ones_below-index.ensures.value (sym c.is_set.ensures ∙ c.if-is_set.true) (picked-link _ ∙ links.2) (picked-value _ ∙ values.2))

pub returns-else-is_set : goal.returns-else-is_set
returns-else-is_set c =
    let links = c.in_ok-link.ensures.value in
    let values = c.in_ok-value.ensures.value in
    let read = read-parts (λ bits. bits.now) c.args.width c.args.height _ _ _ c.in_ok-bits.bits links.0 values.0 _ _ _ _ _ _ c.pick_item.new.cursor
    c.in_ok-array.ensures c.if-branch-ne-PARTS.false c.in_ok-bits.ensures (sym c.if-not-is_bitmap.ensures.value)
    c.in_ok-links.ensures links.1 c.in_ok-link.ensures.end c.in_ok-values.ensures values.1 in
    let slots : 1 * 2 ^ c.args.width % 18446744073709551616 ≡ 2 ^ c.args.width = one_shl c.args.width 64 (omega arith) in
    let taken : ones_below c.in_ok-bits.bits.now (2 ^ c.args.width) ≡ c.ones_below-taken.result = ap (ones_below c.in_ok-bits.bits.now) (sym slots) ∙ sym c.ones_below-taken.ensures.value in
    let counts : has_counts c.args.height (ones_below c.in_ok-bits.bits.now (2 ^ c.args.width)) c.in_ok-links.links c.in_ok-values.values ≡ c.has_counts.result =
    ap (λ t. has_counts c.args.height t c.in_ok-links.links c.in_ok-values.values) taken ∙ sym c.has_counts.ensures in
    let whole = node-whole _ _ _ _ _ _ _ read (counts ∙ c.if-not-has_counts.false) (ended _ (c.is_at_end.ensures.0 c.if-not-is_at_end.false)) in
    (_, whole, entry-clear c.args.slot _ (sym c.is_set.ensures ∙ c.if-is_set.false))
