use Rattle.std.proofs.Common.{ap, sym, subst, refl, List, take}
use Rattle.ss_disk.specs.declared.memory.call.DeviceCall.{DeviceCall}
use Rattle.ss_disk.specs.Memory.{contents, story, MayLeave}
use Rattle.ss_disk.proofs.Images.{fits_front, image_of_six}
use Rattle.ss_disk.proofs.memory.MemoryDisk.crash_at.Goals as goal

pub images-requires-clause-fitting : goal.images-requires-clause-fitting
images-requires-clause-fitting c = λ file.
    let front = ap (λ (l : List DeviceCall). take c.args.call l) c.deref.ensures.value in
    fits_front _ file c.args.self.now.calls.items c.args.call _ _ refl front (c.args.self.now.replays.fitting file)

pub returns-clause-image : goal.returns-clause-image
returns-clause-image c = λ file.
    let disk = c.args.self.now in
    let front = ap (λ (l : List DeviceCall). take c.args.call l) c.deref.ensures.value in
    let left = image_of_six disk.first c.in_ok-files.files disk.calls.items _ c.args.call disk.replays.first_six c.in_ok-files.ensures.six disk.replays.named front c.in_ok-files.ensures.images file in
    subst (MayLeave (contents disk.first file) (story file (take c.args.call disk.calls.items))) (sym (c.in_ok-holding.ensures.files file)) left
