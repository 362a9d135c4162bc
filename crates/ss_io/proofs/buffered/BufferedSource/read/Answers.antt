use Rattle.std.proofs.Common.{◌≡◌, ◌≤◌, ◌+◌, [], ◌++◌, ◌∙◌, ℕ, ap, sym, subst, take, drop, length, List, arith, length-append, length-drop}
use Rattle.std.specs.Io.KnownBytes.{Consumes, IsAtEnd}
use Rattle.std.proofs.lemmas.List.{length-take, drop-drop}
use Rattle.ss_io.specs.Buffered.{before, buffered_of}
use Rattle.ss_io.proofs.Told.{Keeps-then_Consumes}
use Rattle.ss_io.proofs.Buffers.{Consumes-buffered, taken_first, nothing_between}
use Rattle.ss_io.proofs.buffered.BufferedSource.read.Goals as goal

pub returns-clause-bytes : goal.returns-clause-bytes
returns-clause-bytes g c =
    let count = c.min-count.result in
    let filled = c.fill.new.self in
    let long : length c.copy_from_slice.new.self ≡ length (take count c.args.out.now) = c.copy_from_slice.ensures.len in
    let copied : take count (c.copy_from_slice.new.self ++ drop count c.args.out.now) ≡ c.copy_from_slice.new.self = taken_first count c.copy_from_slice.new.self (drop count c.args.out.now) (omega (arith, long, length-take count c.args.out.now, c.min-count.ensures)) in
    let after : c.copy_from_slice.new.self ≡ take count (buffered_of filled) = c.copy_from_slice.ensures.after ∙ ap (take count) c.buffered.ensures in
    let rest = g.S.Source.left filled.source in
    let left = drop (filled.start + count) (take filled.end filled.buffer.items) in (
      Keeps-then_Consumes _ _ _ _ c.in_ok-fill.ensures.left (subst (λ (b : List ℕ). Consumes (before (buffered_of filled) rest) (before left rest) b) (sym (copied ∙ after)) (Consumes-buffered rest (buffered_of filled) left count (sym (drop-drop count filled.start _)))),
      λ zero some.
          let out_is : length (c.copy_from_slice.new.self ++ drop count c.args.out.now) ≡ length c.args.out.now = length-append c.copy_from_slice.new.self (drop count c.args.out.now) ∙ omega (arith, long, length-take count c.args.out.now, length-drop count c.args.out.now, c.min-count.ensures) in
          let met : filled.end ≤ filled.start = omega (arith, zero, some, out_is, c.min-count.ensures) in
          let none : buffered_of filled ≡ [] = nothing_between filled.start filled.end filled.buffer.items met in
          let gone : left ≡ [] = nothing_between (filled.start + count) filled.end filled.buffer.items (omega (arith, met)) in
          subst (λ (b : List ℕ). IsAtEnd (before b rest)) (none ∙ sym gone) (c.in_ok-fill.ensures.ended none),
    )
