use Rattle.std.proofs.Common.{◌≡◌, ◌∙◌, ap, sym, length, Some}
use Rattle.std.specs.Prelude.{option_map, slice_range, ◌+◌}
use Rattle.ss_store.specs.declared.place.Place.{Place}
use Rattle.ss_hot.specs.Store.{Hot}
use Rattle.ss_hot.proofs.Places.{kept_bytes, read_block}
use Rattle.ss_hot.proofs.store.HotStore.read.Goals as goal

pub returns-in-Ok-clause-block : goal.returns-in-Ok-clause-block
returns-in-Ok-clause-block g c = λ cid records others told keeps at.
    let file = g.D.Disk.files c.args.disk.now c.args.self.now.log.file in
    let same = ap (λ (s : Hot). g.D.Disk.files c.args.disk.now s.log.file) c.self.view_is in
    let long : length c.read_at.new.out ≡ c.args.place.len = c.read_at.auto.out ∙ c.requires.len in
    sym (kept_bytes g.D.Disk c.args.disk.now c.args.self.now records others cid (g.met.D.Disk.reads_as_image c.args.disk.now told) keeps)
    ∙ ap (option_map (λ (p : Place). slice_range file p.at (p.at + p.len))) at
    ∙ ap Some (sym (read_block c.args.place file _ c.read_at.new.out same long (c.in-Ok.ensures.bytes told)))
