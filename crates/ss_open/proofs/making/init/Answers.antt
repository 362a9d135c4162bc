use Rattle.std.proofs.Common.{[], refl, sym, ap, subst, arith}
use Rattle.std.specs.Ordering.{nat_cmp}
use Rattle.std.specs.Cmp.Lexicographic.{slice_cmp}
use Rattle.std.specs.FinMap as finite_map
use Rattle.ss_records.specs.declared.record.Config.{Config as Settings}
use Rattle.ss_store.specs.declared.place.Place.{Place}
use Rattle.ss_model.specs.State.{empty_state}
use Rattle.ss_core.proofs.Settling.{keeps_sure}
use Rattle.ss_core.specs.StandsFor.{IsLeftBy}
use Rattle.ss_hot.specs.Store.{first_records}
use Rattle.ss_open.specs.Opening.{IsNewStore}
use Rattle.ss_open.proofs.Openings.{none_left}
use Rattle.ss_open.proofs.making.init.Goals as goal

pub unreachable-requires : goal.unreachable-requires
unreachable-requires g c = omega (arith, c.in-Err-TooMany-default.ensures.many.1, ap finite_map.len c.in-Ok.ensures.new.places, finite_map.len-empty (slice_cmp nat_cmp) Place)

pub returns-in-Ok-from_parts-clause-told : goal.returns-in-Ok-from_parts-clause-told
returns-in-Ok-from_parts-clause-told g c = λ told.
    let records = first_records c.args.config in
    let new = c.in-Ok.ensures.new in (
      c.in-Ok.ensures.not_there told,
      c.in-Ok-from_parts.ensures.stands records (empty_state c.args.config) told (keeps_sure g.D.Disk c.make.new.disk c.in-Ok.hot records [] records new.settled.sure (new.keeps told))
          (subst (λ (settings : Settings). IsLeftBy settings records (empty_state c.args.config)) (sym new.settings) (none_left c.args.config)) refl,
      subst (λ disk. IsNewStore g.D.Disk disk c.args.config) (sym c.in-Ok-from_parts.ensures.parts.0) (c.in-Ok.ensures.images told),
    )
