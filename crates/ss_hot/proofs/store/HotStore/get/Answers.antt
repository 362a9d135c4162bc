use Rattle.std.proofs.Common.{◌∙◌, ap, sym}
use Rattle.std.specs.Prelude.{option_map, slice_range, ◌+◌}
use Rattle.ss_store.specs.declared.place.Place.{Place}
use Rattle.ss_hot.proofs.Places.{kept_bytes}
use Rattle.ss_hot.proofs.store.HotStore.get.Goals as goal

pub returns-in_default-clause-block : goal.returns-in_default-clause-block
returns-in_default-clause-block g c records others told keeps =
    let file = g.D.Disk.files c.args.disk.now c.args.self.now.log.file in
    ap (option_map (λ (p : Place). slice_range file p.at (p.at + p.len))) (sym c.in_default.is ∙ c.place.ensures.value)
    ∙ kept_bytes g.D.Disk c.args.disk.now c.args.self.now records others c.args.cid.now (g.met.D.Disk.reads_as_image c.args.disk.now told) keeps
