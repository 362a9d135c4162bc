use Rattle.std.proofs.Common.{◌≡◌, ◌∙◌, sym, subst, arith, List, ℕ}
use Rattle.ss_disk.specs.Memory.{contents, story, MayLeave}
use Rattle.ss_disk.proofs.Stories.{contents-get_or}
use Rattle.ss_disk.proofs.Images.{image_left, fits_front}
use Rattle.ss_disk.proofs.memory.image.image.Goals as goal

pub read_back-requires : goal.read_back-requires
read_back-requires c =
    let first : c.deref.result.now ≡ contents c.args.first.now c.args.file = c.deref.ensures.value ∙ sym (contents-get_or c.args.first.now c.args.file c.index-first-file.result (omega (arith, c.requires.six))) in
    fits_front _ _ c.args.calls.now _ _ _ first c.split_at.ensures.front (c.requires.fitting c.args.file)

pub returns : goal.returns
returns c =
    let first : c.deref.result.now ≡ contents c.args.first.now c.args.file = c.deref.ensures.value ∙ sym (contents-get_or c.args.first.now c.args.file c.index-first-file.result (omega (arith, c.requires.six))) in
    let fit = fits_front _ _ c.args.calls.now _ _ _ first c.split_at.ensures.front (c.requires.fitting c.args.file) in
    subst (λ (f : List ℕ). MayLeave f (story c.args.file c.args.calls.now) c.tear_all.new.bytes.items) first (image_left c.deref.result.now c.args.file c.args.calls.now _ _ _ _ _ c.split_at.ensures.front c.split_at.ensures.back fit c.in_ok-left.ensures c.in_ok-tear_all.ensures)
