use Rattle.std.proofs.Common.{◌≡◌, ◌≤◌, ◌+◌, ◌-◌, ◌++◌, ℕ, List, length, take, sym, ◌∙◌, ap, arith, rules}
use Rattle.std.specs.Prelude.{slice_range}
use Rattle.std.specs.Vec.{with_items}
use Rattle.std.proofs.lemmas.List.{with_items_is, places}
use Rattle.std.proofs.lemmas.Slice.{take-put_mid, between_from_start}
use borrow.Rule.Slice.PartMut.{put_mid}
use Rattle.ss_gatelog.proofs.Pieces.{length_range}
use Rattle.ss_gatelog.proofs.window.Window.extend.Goals as goal

pub returns-clause-bytes : goal.returns-clause-bytes
returns-clause-bytes g c told =
    let w = c.self.inside in
    let held = w.end - w.start in
    let more = c.args.more in
    let buffer = c.deref_mut.result.now in
    let out = c.read.new.out in
    let now : List ℕ = put_mid held (held + more - held) buffer out in
    let inside = c.self.invariant in
    let long : held + more ≤ length buffer = omega (arith, ap (length {A = ℕ}) c.deref_mut.ensures.value, c.in_ok-lengthen.ensures.long) in
    let part = length_range buffer held (held + more) (omega arith) long in
    let size : length out ≡ more = omega (arith, c.read.auto.out, part) in
    let items : (with_items c.lengthen.new.bytes now).items ≡ now = with_items_is c.lengthen.new.bytes now (search (rules, places)) in
    let front : take held buffer ≡ c.args.self.now =
    ap (λ (l : List ℕ). take held l) c.deref_mut.ensures.value
    ∙ sym (between_from_start c.lengthen.new.bytes.items held)
    ∙ c.in_ok-lengthen.ensures.front held (omega (arith, inside, c.move_to_front.ensures.length))
    ∙ c.move_to_front.ensures.front
    ∙ c.self.view_is in
    let read = c.in_ok-read.ensures.bytes told in
    ap (λ (l : List ℕ). slice_range l 0 (held + more)) items
    ∙ between_from_start now (held + more)
    ∙ take-put_mid held (held + more - held) buffer out (held + more) (omega (arith, size)) (omega (arith, long))
    ∙ ap (λ (l : List ℕ). l ++ out) front
    ∙ ap (λ (l : List ℕ). c.args.self.now ++ l) (read ∙ ap (λ (n : ℕ). slice_range (g.D.Disk.files c.args.disk.now c.args.file) c.args.at (c.args.at + n)) (let count : length (slice_range buffer held (held + more)) ≡ more = omega (arith, part) in count))
