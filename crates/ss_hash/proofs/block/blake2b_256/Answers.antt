use Rattle.std.proofs.Common.{length, sym, ap, ◌∙◌}
use Rattle.ss_hash.proofs.Digests.{digest_front}
use Rattle.ss_hash.proofs.block.blake2b_256.Goals as goal

pub slice_bounds-copy_from_slice-end-3 : goal.slice_bounds-copy_from_slice-end-3
slice_bounds-copy_from_slice-end-3 c =
    sym (ap length (digest_front 32 c.args.bytes.now c.blake2b.result c.blake2b.ensures.digest c.blake2b.ensures.size) ∙ c.blake2b.ensures.size)

pub copy_from_slice-requires : goal.copy_from_slice-requires
copy_from_slice-requires c =
    sym (ap length (digest_front 32 c.args.bytes.now c.blake2b.result c.blake2b.ensures.digest c.blake2b.ensures.size) ∙ c.blake2b.ensures.size)

pub returns : goal.returns
returns c =
    c.copy_from_slice.ensures.after ∙ digest_front 32 c.args.bytes.now c.blake2b.result c.blake2b.ensures.digest c.blake2b.ensures.size
