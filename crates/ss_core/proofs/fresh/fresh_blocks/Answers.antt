use Rattle.std.proofs.Common.{sym, ◌∙◌, arith}
use Rattle.ss_core.proofs.NewPairs.{all_new, same_pairs, as_many, not_empty}
use Rattle.ss_core.proofs.fresh.fresh_blocks.Goals as goal

pub returns-then-len : goal.returns-then-len
returns-then-len c = λ hot noted. (
  all_new hot c.args.parcel.now
      (omega (arith, as_many c.args.parcel.now c.in_ok-places.places.items _ (c.in_ok-places.ensures.new hot noted), c.in_ok-places.places.ok, c.len.ensures, c.if-len.true, c.len-2.ensures.value)),
  omega (arith, not_empty _ c.if-is_empty.ensures, c.len.ensures, c.if-len.true, c.len-2.ensures.value),
)

pub blocks_at-requires : goal.blocks_at-requires
blocks_at-requires c = rw c.as_slice.ensures.value c.in_ok-places.ensures.within

pub returns : goal.returns
returns c = λ hot noted.
    let new = c.in_ok-places.ensures.new hot noted in
    let at = rw c.as_slice.ensures.value at c.in_ok-blocks_at.ensures in (
      same_pairs _ _ (sym new ∙ at),
      omega (arith, as_many c.args.parcel.now c.in_ok-places.places.items c.in_ok-blocks_at.field-0 at, c.in_ok-places.places.ok, not_empty _ c.if-is_empty.ensures),
    )
