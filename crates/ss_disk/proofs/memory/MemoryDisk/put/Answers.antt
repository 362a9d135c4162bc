use Rattle.std.proofs.Common.{◌≡◌, ◌∙◌, ap, refl, inr, ◌++◌, ◌∷◌, [], List, subst, sym}
use Rattle.ss_disk.specs.declared.memory.call.DeviceCall.{DeviceCall}
use Rattle.ss_disk.specs.declared.memory.call.DeviceCall.TheVariants.{Wrote}
use Rattle.ss_device.specs.Disk.{Changes, Holds}
use Rattle.ss_disk.specs.Memory.{contents, Replays}
use Rattle.ss_disk.proofs.Stories.{replays_same, replays_wrote, has_room}
use Rattle.ss_disk.proofs.memory.MemoryDisk.put.Goals as goal

pub invariant_of-self-in-Break-branch-2 : goal.invariant_of-self-in-Break-branch-2
invariant_of-self-in-Break-branch-2 c =
    record { replays = replays_same _ _ _ _ _ _ c.args.self.now.replays c.overwrite_file.ensures.six c.in_err-overwrite_file.ensures.err c.in_ok-reserve.ensures.items }

pub invariant_of-self-2 : goal.invariant_of-self-2
invariant_of-self-2 c =
    let d = c.args.self.now in
    let call = Wrote c.args.file c.args.at c.args.left c.args.missing in
    let pushed : c.push.new.self.items ≡ d.calls.items ++ call ∷ [] =
    has_room c.push.result _ _ _ _ _ c.push.ensures.items c.push.ensures.full c.in_ok-reserve.ensures.ok ∙ ap (λ (l : List DeviceCall). l ++ call ∷ []) c.in_ok-reserve.ensures.items in
    let changes : Changes c.args.file (Holds c.args.at c.args.left.items) (contents d.current) (contents c.overwrite_file.new.files) = rw (← c.deref.ensures.value) c.in_ok-overwrite_file.ensures.ok in
    let after = replays_wrote d.first d.current d.known d.calls.items d.replays c.args.file c.args.at c.args.left c.args.missing c.overwrite_file.new.files c.requires.file c.overwrite_file.ensures.six c.requires.place changes in
    record { replays = subst (Replays d.first c.overwrite_file.new.files d.known) (sym pushed) after }

pub returns-clause-writes : goal.returns-clause-writes
returns-clause-writes c =
    let d = c.args.self.now in
    let call = Wrote c.args.file c.args.at c.args.left c.args.missing in
    let pushed : c.push.new.self.items ≡ d.calls.items ++ call ∷ [] =
    has_room c.push.result _ _ _ _ _ c.push.ensures.items c.push.ensures.full c.in_ok-reserve.ensures.ok ∙ ap (λ (l : List DeviceCall). l ++ call ∷ []) c.in_ok-reserve.ensures.items in
    let changes : Changes c.args.file (Holds c.args.at c.args.left.items) (contents d.current) (contents c.overwrite_file.new.files) = rw (← c.deref.ensures.value) c.in_ok-overwrite_file.ensures.ok in
    record { first = refl; cases = inr record { left = c.args.left; missing = c.args.missing; length_is = refl; calls = pushed; files = changes } }
