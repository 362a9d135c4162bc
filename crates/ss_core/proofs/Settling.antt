-- A store whose log was settled, or could not be, and then read.
use Rattle.std.proofs.Common.{◌≡◌, ◌⊎◌, inl, inr, ⊎_elim, ℕ, Bool, true, false, List, [], ◌∷◌, ◌++◌, sym, ap, ◌∙◌, subst, true≢false}
use Rattle.std.specs.Prelude.{IsTrue, MatchBool, Result, Ok, Err, OnOk, OnErr}
use Rattle.ss_device.specs.declared.disk.Disk.{Ghosts}
use Rattle.ss_device.specs.Disk.{Files, Same}
use Rattle.ss_device.specs.Calls.{Goes, Leaves}
use Rattle.ss_device.proofs.Moments as moments
use Rattle.ss_gatelog.specs.GateLog.{Log, Stands, IsSure, IsDoubted, HasEither}
use Rattle.ss_records.specs.declared.record.Record.{Record}
use Rattle.ss_store.specs.Append.{bodies, HasOneOf}
use Rattle.ss_store.specs.declared.fault.StoreFault.{StoreFault}
use Rattle.ss_store.proofs.Appended.{leaves_as}
use Rattle.ss_hot.specs.Store.{Hot, Keeps, Settles as SettlesHot, StillKeeps, KeepsWritten}
use Rattle.ss_model.specs.State.{State}
use Rattle.ss_core.specs.declared.split_core.SplitCore.{SplitCore}
use Rattle.ss_core.specs.Replies.{StillStands, doubt_after}
use Rattle.ss_core.specs.StandsFor.{Doubt, no_doubt, StandsFor, HasEitherState, with_doubt}
use Rattle.ss_core.specs.LogFiles.{hot_file}
use Rattle.ss_core.proofs.Idle.{stands_anew}
use Rattle.ss_core.proofs.LogFiles.{leaves_hot}
use Rattle.ss_core.proofs.Images.{own_half, either_state}

-- a sure log stands for its records, whatever the others
pub keeps_sure : {D : Type 0} (disk : Ghosts D) (now : D) (hot : Hot) (records others more : List Record) → hot.log.unsure ≡ false → Keeps disk now hot records others → Keeps disk now hot records more
keeps_sure disk now hot records others more sure keeps = record { tells = keeps.tells; placed = keeps.placed; stands = at hot.log.unsure sure keeps.stands }
  where
    at : (b : Bool) → b ≡ false → MatchBool b (IsDoubted disk now hot.log (bodies records) (bodies others)) (IsSure disk now hot.log (bodies records)) → MatchBool b (IsDoubted disk now hot.log (bodies records) (bodies more)) (IsSure disk now hot.log (bodies records))
    at true is stands = absurd (true≢false is)
    at false is stands = stands

-- what a settling means for the state
pub settles : {D : Type 0} (disk : Ghosts D) (old new : SplitCore D disk) (s : State) (doubt : Doubt) (result : Result (Unit {0}) StoreFault) → SettlesHot disk old.disk new.disk old.hot new.hot result → new.views ≡ old.views
    → ((records others : List Record) → Keeps disk old.disk old.hot records others → StillKeeps disk old.disk new.disk old.hot new.hot records others) → StandsFor old s doubt → StillStands old new s doubt result
settles disk old new s doubt result settled viewed kept stands = record {
  after = at result settled.log.ok settled.log.err;
  stops = leaves_hot disk old.hot.log.file (HasEither old.hot.settings.limit (bodies stands.records) (bodies others)) (HasEitherState s doubt) old.disk new.disk old.file (either_state disk old s doubt stands) still.stops;
}
  where
    others : List Record
    others = with_doubt hot_file stands.records doubt

    still : StillKeeps disk old.disk new.disk old.hot new.hot stands.records others
    still = kept stands.records others stands.keeps

    settings : new.hot.settings ≡ old.hot.settings
    settings = ap (λ (h : Hot). h.settings) settled.same

    at : (r : Result (Unit {0}) StoreFault) → OnOk r (new.hot.log ≡ record old.hot.log { unsure = false }) → OnErr r (new.hot.log ≡ old.hot.log) → StandsFor new s (doubt_after r doubt)
    at (Ok x) log _ =
        let sure : new.hot.log.unsure ≡ false = ap (λ (l : Log). l.unsure) log in
        stands_anew disk new old.hot.settings s no_doubt stands.records settings (keeps_sure disk new.disk new.hot stands.records others stands.records sure still.kept) stands.state (stands.views ∙ sym viewed) sure (own_half disk old s doubt stands) stands.state
    at (Err e) _ log =
        stands_anew disk new old.hot.settings s doubt stands.records settings still.kept stands.state (stands.views ∙ sym viewed) (ap (λ (l : Log). l.unsure) log ∙ stands.doubt_is) stands.of_half stands.doubted

-- what a write leaves of a store whose log was sure: its list, or that and one record more
module _ {D : Type 0} (disk : Ghosts D) (was now : D) (old new : Hot) (sure : old.log.unsure ≡ false) (r : Record) (result : Result (Unit {0}) StoreFault) (written : (records others : List Record) → Keeps disk was old records others → KeepsWritten disk was now old new records others r result)
    (records : List Record) (keeps : Keeps disk was old records records) where
  alone : KeepsWritten disk was now old new records (records ++ r ∷ []) r result
  alone = written records (records ++ r ∷ []) (keeps_sure disk was old records records (records ++ r ∷ []) sure keeps)

  pub sure_leaves : Leaves disk old.log.file (HasEither old.settings.limit (bodies records) (bodies (records ++ r ∷ []))) was now
  sure_leaves = leaves_as disk old.log.file (HasOneOf old.settings.limit records (records ++ r ∷ []) (records ++ r ∷ [])) (HasEither old.settings.limit (bodies records) (bodies (records ++ r ∷ []))) was now
      (λ bytes lists. ⊎_elim (λ short. inl short) (λ rest. inr (⊎_elim (λ long. long) (λ long. long) rest)) lists) alone.stops

  pub sure_failed : OnErr result (Keeps disk now new records (records ++ r ∷ []))
  sure_failed = at result alone.failed
    where
      at : (answer : Result (Unit {0}) StoreFault) → OnErr answer (Keeps disk now new records (records ++ r ∷ []) ⊎ Keeps disk now new records (records ++ r ∷ [])) → OnErr answer (Keeps disk now new records (records ++ r ∷ []))
      at (Ok x) failed = tt
      at (Err e) failed = ⊎_elim (λ perhaps. perhaps) (λ perhaps. perhaps) failed

-- what a log stands for where no file changed
stands_on : {D : Type 0} (disk : Ghosts D) (old new : D) (log : Log) (front more : List (List ℕ)) → IsTrue disk.told → Goes disk Same old new → Stands disk old log front more → Stands disk new log front more
stands_on disk old new log front more told goes stands = at log.unsure stands
  where
    was : (left : Files) → disk.image new (disk.moment new) left → disk.image old (disk.moment old) left
    was left now =
        let from = moments.now_from (disk.moment old) (disk.moment new) (disk.image old) (disk.image new) Same (goes.images told) left now in
        subst (λ (files : Files). disk.image old (disk.moment old) files) (sym from.2) from.1

    at : (b : Bool) → MatchBool b (IsDoubted disk old log front more) (IsSure disk old log front) → MatchBool b (IsDoubted disk new log front more) (IsSure disk new log front)
    at true doubt = record { each = λ left now. doubt.each left (was left now); end = doubt.end; bodies = doubt.bodies; more_bodies = doubt.more_bodies; more_within = doubt.more_within }
    at false sure = record { each = λ left now. sure.each left (was left now); end = sure.end; bodies = sure.bodies }

module _ {D : Type 0} (disk : Ghosts D) (told : IsTrue disk.told) where
  -- a store of which the disk alone changed, and no file of it
  pub stands_read : (old new : SplitCore D disk) (s : State) (doubt : Doubt) → Goes disk Same old.disk new.disk → new.hot ≡ old.hot → new.views ≡ old.views → StandsFor old s doubt → StandsFor new s doubt
  stands_read old new s doubt goes same viewed stands =
      stands_anew disk new old.hot.settings s doubt stands.records (ap (λ (h : Hot). h.settings) same)
      (subst (λ (h : Hot). Keeps disk new.disk h stands.records (with_doubt hot_file stands.records doubt)) (sym same) (record {
        tells = stands.keeps.tells;
        placed = stands.keeps.placed;
        stands = stands_on disk old.disk new.disk old.hot.log (bodies stands.records) (bodies (with_doubt hot_file stands.records doubt)) told goes stands.keeps.stands;
      }))
      stands.state (stands.views ∙ sym viewed) (ap (λ (h : Hot). h.log.unsure) same ∙ stands.doubt_is) stands.of_half stands.doubted
