use Rattle.std.proofs.Common.{◌+◌, ◌≤◌, ℕ, List, length, drop, sym, ◌∙◌, ap, arith}
use Rattle.ss_gatelog.proofs.Pieces.{drop_range, length_range}
use Rattle.ss_gatelog.proofs.window.Window.skip.Goals as goal

pub returns : goal.returns
returns c =
    let w = c.self.inside in
    let size = length_range w.bytes.items w.start w.end c.self.invariant.0 c.self.invariant.1 in
    let inside : w.start + c.args.count ≤ w.end = omega (arith, size, ap (length {A = ℕ}) c.self.view_is, c.requires, c.self.invariant.0) in
    sym (drop_range w.bytes.items w.start w.end c.args.count inside) ∙ ap (λ (l : List ℕ). drop c.args.count l) c.self.view_is
