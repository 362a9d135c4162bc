use Rattle.std.proofs.Common.{◌≡◌, ℕ, ◌+◌, ◌-◌, ◌++◌, length, take, refl, sym, ap, ◌∙◌, arith, length-append}
use Rattle.std.proofs.lemmas.List.{append_assoc, take_all, length-take-le}
use Rattle.ss_hash.proofs.hasher.Blake2b.flush.Goals as goal

pub returns-clause-absorbed : goal.returns-clause-absorbed
returns-clause-absorbed c = λ n m held short.
    let bytes = c.args.bytes.now in
    let buffer = c.store.new.self.buffer in
    let full : buffer ≡ take c.args.self.now.filled c.args.self.now.buffer ++ c.split_at.result.0.now =
    sym (take_all c.store.new.self.filled buffer (omega arith)) ∙ c.store.ensures.waiting in
    let count : length bytes - length c.split_at.result.1.now ≡ 128 - c.args.self.now.filled = omega arith in
    let first : take (length bytes - length c.split_at.result.1.now) bytes ≡ c.split_at.result.0.now = rw count (sym c.split_at.ensures.front) in
    let whole : m ++ take (length bytes - length c.split_at.result.1.now) bytes ≡ held.front ++ buffer =
    rw (first, full, ← append_assoc, ← held.parts) refl in
    let len : length m ≡ length held.front + c.args.self.now.filled =
    ap length held.parts ∙ length-append held.front _ ∙ ap (λ (k : ℕ). length held.front + k) (length-take-le c.args.self.now.filled c.args.self.now.buffer (omega arith)) in
    rw whole (c.absorb.ensures n held.front (rw c.store.ensures.state held.absorbed) (omega arith))
