use Rattle.std.proofs.Common.{◌≡◌, ◌∙◌, ap}
use Rattle.ss_device.specs.Disk.{Files, Same}
use Rattle.ss_device.specs.Calls.{Goes}
use Rattle.ss_device.proofs.Moments.{now_from}
use Rattle.ss_device.proofs.Goes.{size_up, asked, then_same}
use Rattle.ss_gatelog.proofs.Logs.{on_ok}
use Rattle.ss_gatelog.proofs.device.synced_size.Goals as goal

pub returns-clause-goes : goal.returns-clause-goes
returns-clause-goes g c =
    let sync = c.sync.ensures in
    let size = c.size.ensures in
    let synced = asked g.D.Disk c.args.disk.now c.sync.new.self sync.known sync.reads sync.images sync.cause.later sync.place in
    let sized : Goes g.D.Disk Same c.sync.new.self c.size.new.self = record {
      files = size.reads;
      images = size.images;
      known = size_up c.size.result _ _ _ size.known size.known_err;
      faults = size.cause.later;
      place = size.place;
    } in
    then_same g.D.Disk _ _ _ _ synced sized

pub returns-clause-settled : goal.returns-clause-settled
returns-clause-settled g c told =
    let settled : (left : Files) → g.D.Disk.image c.size.new.self (g.D.Disk.moment c.size.new.self) left → left c.args.file ≡ g.D.Disk.files c.args.disk.now c.args.file = λ left image.
    let from = now_from _ _ _ _ _ (c.size.ensures.images told) left image in
    ap (λ (f : Files). f c.args.file) from.2 ∙ c.in_ok-sync.ensures.durable told from.0 from.1 ∙ ap (λ (f : Files). f c.args.file) (c.sync.ensures.reads told) in
    on_ok c.size.result settled
