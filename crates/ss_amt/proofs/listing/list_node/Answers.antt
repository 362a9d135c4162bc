use Rattle.std.proofs.Common.{◌≡◌, ◌*◌, ◌^◌, ◌%◌, true, false, sym, ap, ◌∙◌, arith}
use Rattle.std.proofs.lemmas.Nat.{one_shl}
use Rattle.ss_cbor.specs.Reading.{count_from, link_from}
use Rattle.ss_node.specs.Bits.{ones_below}
use Rattle.ss_amt.specs.Node.{has_counts}
use Rattle.ss_amt.proofs.Widths.{shape-fits, width-room}
use Rattle.ss_node.proofs.Rows.{ended}
use Rattle.ss_amt.proofs.Nodes.{read-parts, node-never, node-whole, too-many, count-same, rest-same}
use Rattle.ss_amt.proofs.listing.list_node.Goals as goal

pub returns-then-links-taken : goal.returns-then-links-taken
returns-then-links-taken c =
    let slots : 1 * 2 ^ c.args.width % 18446744073709551616 ≡ 2 ^ c.args.width = one_shl c.args.width 64 (omega (arith, (shape-fits c.args.width c.args.height c.requires.shape).narrow)) in
    let taken : ones_below c.in-Some.bits.now (2 ^ c.args.width) ≡ c.ones_below-taken.result = ap (ones_below c.in-Some.bits.now) (sym slots) ∙ sym c.ones_below-taken.ensures.value in
    node-never (λ bits. bits.now) c.args.width c.args.height _ c.in-Some-array.links c.in-Some.bits _ _ _ _
    c.in-Some-eq3.ensures c.in-Some-eq3.field-0-test c.in-Some.ensures (sym c.if-not-is_bitmap.ensures.value) c.in-Some-array.ensures
    (λ row rest after count e f. too-many c.args.height _ _ count (omega (arith, taken)))

pub returns-then-not-has_counts : goal.returns-then-not-has_counts
returns-then-not-has_counts c =
    let slots : 1 * 2 ^ c.args.width % 18446744073709551616 ≡ 2 ^ c.args.width = one_shl c.args.width 64 (omega (arith, (shape-fits c.args.width c.args.height c.requires.shape).narrow)) in
    let taken : ones_below c.in-Some.bits.now (2 ^ c.args.width) ≡ c.ones_below-taken.result = ap (ones_below c.in-Some.bits.now) (sym slots) ∙ sym c.ones_below-taken.ensures.value in
    let children = c.in_ok-list_children.ensures in
    let counts : has_counts c.args.height (ones_below c.in-Some.bits.now (2 ^ c.args.width)) c.in-Some-array.links c.in-Some-array-2.count ≡ false =
    ap (λ t. has_counts c.args.height t c.in-Some-array.links c.in-Some-array-2.count) taken ∙ sym c.has_counts.ensures ∙ c.if-not-has_counts.true in
    node-never (λ bits. bits.now) c.args.width c.args.height _ c.in-Some-array.links c.in-Some.bits _ _ _ _
    c.in-Some-eq3.ensures c.in-Some-eq3.field-0-test c.in-Some.ensures (sym c.if-not-is_bitmap.ensures.value) c.in-Some-array.ensures
    (λ row rest after n e f.
    let same : rest ≡ c.list_children.new.cursor.rest = rest-same link_from c.in-Some-array.links _ _ row children.0 rest _ e children.1 in
    let again = ap (λ x. count_from x rest) (sym children.2) ∙ ap (count_from c.list_children.new.cursor.end) same ∙ c.in-Some-array-2.ensures.value in
    ap (λ k. has_counts c.args.height (ones_below c.in-Some.bits.now (2 ^ c.args.width)) c.in-Some-array.links k) (count-same _ n c.in-Some-array-2.count rest after _ f again) ∙ counts)

pub list_values-requires-clause-room : goal.list_values-requires-clause-room
list_values-requires-clause-room c = width-room c.args.width c.args.height c.args.first c.requires.room

pub returns-then-is_at_end : goal.returns-then-is_at_end
returns-then-is_at_end c =
    let slots : 1 * 2 ^ c.args.width % 18446744073709551616 ≡ 2 ^ c.args.width = one_shl c.args.width 64 (omega (arith, (shape-fits c.args.width c.args.height c.requires.shape).narrow)) in
    let taken : ones_below c.in-Some.bits.now (2 ^ c.args.width) ≡ c.ones_below-taken.result = ap (ones_below c.in-Some.bits.now) (sym slots) ∙ sym c.ones_below-taken.ensures.value in
    let children = c.in_ok-list_children.ensures in
    let values = c.in_ok-list_values.ensures in
    let counts : has_counts c.args.height (ones_below c.in-Some.bits.now (2 ^ c.args.width)) c.in-Some-array.links c.in-Some-array-2.count ≡ true =
    ap (λ t. has_counts c.args.height t c.in-Some-array.links c.in-Some-array-2.count) taken ∙ sym c.has_counts.ensures ∙ c.if-not-has_counts.false in
    let read = read-parts (λ bits. bits.now) c.args.width c.args.height _ _ _ c.in-Some.bits children.0 values.0 _ _ _ _ _ _ c.list_values.new.cursor
    c.in-Some-eq3.ensures c.in-Some-eq3.field-0-test c.in-Some.ensures (sym c.if-not-is_bitmap.ensures.value)
    c.in-Some-array.ensures children.1 children.2 c.in-Some-array-2.ensures values.1 in
    (_, node-whole _ _ _ _ _ _ _ read counts (ended _ (c.is_at_end.ensures.0 c.if-is_at_end.true)), children.3, values.3)
