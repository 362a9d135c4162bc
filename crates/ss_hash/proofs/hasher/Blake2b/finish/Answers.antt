use Rattle.std.proofs.Common.{◌≡◌, ◌+◌, length, take, refl, sym, ap, ◌∙◌, arith, length-append}
use Rattle.std.proofs.lemmas.List.{length-take-le}
use Rattle.ss_hash.specs.Blake2b.{blake2b}
use Rattle.ss_hash.proofs.hasher.Blake2b.finish.Goals as goal

pub returns : goal.returns
unfolding blake2b
returns c = λ n m held.
    let rest = take c.args.self.filled c.args.self.buffer in
    let filled : length rest ≡ c.args.self.filled = length-take-le c.args.self.filled c.args.self.buffer (omega arith) in
    let len : length m ≡ length held.front + length rest = ap length held.parts ∙ length-append held.front rest in
    let hash = c.finish.ensures n held.front held.absorbed (omega arith) (λ none. ap length (held.waits (sym filled ∙ none))) in
    rw (c.digest_bytes.ensures, hash, held.out_len, held.parts) refl
