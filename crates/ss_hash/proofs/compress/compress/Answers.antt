use Rattle.std.proofs.Common.{◌≡◌, refl, arith}
use Rattle.ss_hash.specs.Blake2b.{compress, folded, words}
use Rattle.ss_hash.proofs.Words.{words_read}
use Rattle.ss_hash.proofs.compress.compress.Goals as goal

pub returns : goal.returns
unfolding compress folded
returns c =
    let m : c.read_u64_into.new.dst ≡ words 16 c.args.block.now = words_read c.read_u64_into.new.dst c.args.block.now 16 (omega arith) c.read_u64_into.ensures in
    rw (c.rounds.ensures, c.working-v.ensures, m) refl
