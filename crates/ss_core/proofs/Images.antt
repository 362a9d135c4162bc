-- What each image of a disk has where a store over it stands for a state.
use Rattle.std.proofs.Common.{◌≡◌, inl, inr, ⊎_elim, ℕ, ◌<◌, Bool, true, false, List, [], ◌∷◌, length, refl, subst, arith}
use Rattle.std.specs.Prelude.{MatchBool}
use Rattle.ss_device.specs.declared.disk.Disk.{Ghosts}
use Rattle.ss_device.specs.Disk.{Files}
use Rattle.ss_gatelog.specs.Log.{spelled, HasList}
use Rattle.ss_gatelog.specs.GateLog.{Log, IsSure, IsDoubted, Stands, HasEither}
use Rattle.ss_gatelog.proofs.Steps.{doubt_either, has_list}
use Rattle.ss_records.specs.declared.record.Config.{Config as Settings}
use Rattle.ss_records.specs.declared.record.Record.{Record}
use Rattle.ss_store.specs.Append.{bodies}
use Rattle.ss_hot.specs.Half.{IsHalf}
use Rattle.ss_hot.proofs.Settings.{settings_stand}
use Rattle.ss_model.specs.State.{State, closed}
use Rattle.ss_core.specs.declared.split_core.SplitCore.{SplitCore}
use Rattle.ss_core.specs.StandsFor.{Doubt, IsLeftBy, AreOfHalf, StandsFor, HasClosed, HasEitherState, with_doubt, state_with}
use Rattle.ss_core.specs.LogFiles.{hot_file}

-- a file with a list of such records is a half
of_half : (file : List ℕ) (settings : Settings) (records : List Record) → AreOfHalf settings records → HasList settings.limit file (bodies records) → IsHalf file settings records
of_half file settings [] are list = absurd (let differ : ⊥ = cc (are.1) in differ)
of_half file settings (r ∷ rs) are (inl short) = absurd (let differ : ⊥ = cc (short.1) in differ)
of_half file settings (r ∷ rs) are (inr has) = record {
  committed = settings_stand file (r ∷ rs) settings are.0 are.1 has.bodies has.spells;
  list = inr has;
  in_place = are.0;
}

-- records leave the closed state too
pub left_closed : (settings : Settings) (records : List Record) (s : State) → IsLeftBy settings records s → IsLeftBy settings records (closed s)
left_closed settings records s is = record { config = is.config; kept = is.kept; hot = is.hot; head = is.head; base = is.base; rows = is.rows }

-- so the files have the closed state that the records leave
pub has_closed : (files : Files) (settings : Settings) (records : List Record) (s : State) → AreOfHalf settings records → IsLeftBy settings records s → HasList settings.limit (files hot_file) (bodies records) → HasClosed s files
has_closed files settings records s are left list = record { settings = settings; records = records; half = of_half (files hot_file) settings records are list; state = left_closed settings records s left; closed = refl }

-- a log that stands for two lists has one of them in each image
lists_of : {D : Type 0} (disk : Ghosts D) (now : D) (log : Log) (front more : List (List ℕ)) → log.end < log.limit → Stands disk now log front more → (left : Files) → disk.image now (disk.moment now) left → HasEither log.limit front more (left log.file)
lists_of disk now log front more within stands left image = at log.unsure stands
  where
    at : (b : Bool) → MatchBool b (IsDoubted disk now log front more) (IsSure disk now log front) → HasEither log.limit front more (left log.file)
    at true doubt = ⊎_elim
        (λ first. inl (has_list log.limit front (left log.file) doubt.bodies (omega (arith, within, doubt.end)) first))
        (λ second. inr (has_list log.limit more (left log.file) doubt.more_bodies doubt.more_within second))
        (doubt_either front more (left log.file) (doubt.each left image))
    at false sure = inl (has_list log.limit front (left log.file) sure.bodies (omega (arith, within, sure.end)) (sure.each left image))

-- a log ends after its records
pub end_of : {D : Type 0} (disk : Ghosts D) (now : D) (log : Log) (front more : List (List ℕ)) → Stands disk now log front more → log.end ≡ length (spelled front)
end_of disk now log front more stands = at log.unsure stands
  where
    at : (b : Bool) → MatchBool b (IsDoubted disk now log front more) (IsSure disk now log front) → log.end ≡ length (spelled front)
    at true doubt = doubt.end
    at false sure = sure.end

module _ {D : Type 0} (disk : Ghosts D) (core : SplitCore D disk) (s : State) (doubt : Doubt) (stands : StandsFor core s doubt) where
  -- the records of the store are those of a half
  pub own_half : AreOfHalf core.hot.settings stands.records
  own_half = (stands.keeps.tells.in_place, stands.keeps.tells.settings)

  -- files of which the hot log's has one of the two lists have one of the two states
  pub either_state : (files : Files) → HasEither core.hot.settings.limit (bodies stands.records) (bodies (with_doubt hot_file stands.records doubt)) (files hot_file) → HasEitherState s doubt files
  either_state files lists = ⊎_elim
      (λ first. inl (has_closed files core.hot.settings stands.records s own_half stands.state first))
      (λ second. inr (has_closed files core.hot.settings (with_doubt hot_file stands.records doubt) (state_with s doubt) stands.of_half stands.doubted second))
      lists

  -- each image now has
  pub image_state : (left : Files) → disk.image core.disk (disk.moment core.disk) left → HasEitherState s doubt left
  image_state left image =
      either_state left (subst (λ (file : ℕ). HasEither core.hot.settings.limit (bodies stands.records) (bodies (with_doubt hot_file stands.records doubt)) (left file)) core.file
      (subst (λ (n : ℕ). HasEither n (bodies stands.records) (bodies (with_doubt hot_file stands.records doubt)) (left core.hot.log.file)) stands.keeps.placed.0
      (lists_of disk core.disk core.hot.log (bodies stands.records) (bodies (with_doubt hot_file stands.records doubt)) (omega (arith, stands.keeps.placed.0, stands.keeps.placed.1)) stands.keeps.stands left image)))
