-- Calls that write no record.
use Rattle.std.proofs.Common.{◌≡◌, inl, inr, ◌≤◌, true, false, true≢false, List, refl, sym, ap, ◌∙◌, subst, arith}
use Rattle.std.specs.Prelude.{if◌then◌else◌}
use Rattle.ss_device.specs.declared.disk.Disk.{Ghosts}
use Rattle.ss_device.specs.Calls.{LeavesFiles}
use Rattle.ss_device.proofs.Goes.{leaves_wider, leaves_no_file}
use Rattle.ss_records.specs.declared.record.Config.{Config as Settings}
use Rattle.ss_records.specs.declared.record.Record.{Record}
use Rattle.ss_records.specs.declared.record.Record.TheVariants.{Config, Generation, Put, Dropped, Head, Base, Start, Cold, Sealed, Copied, Purged}
use Rattle.ss_hot.specs.Store.{Hot, Keeps, room_of}
use Rattle.ss_model.specs.State.{State, ViewSet}
use Rattle.ss_model.specs.Lawful.{Lawful, After}
use Rattle.ss_model.specs.declared.call.Call.{Call}
use Rattle.ss_model.specs.declared.call.Answer.{Answer}
use Rattle.ss_core.specs.declared.split_core.SplitCore.{SplitCore}
use Rattle.ss_core.specs.Calls.{Steps}
use Rattle.ss_core.specs.Calls.{Use, Doubts, use_of, record_of, grown_by, own_doubt, bytes_of}
use Rattle.ss_core.specs.StandsFor.{Doubt, no_doubt, appended, restarted, IsLeftBy, AreOfHalf, StandsFor, HasEitherState, is_doubted, with_doubt, state_with, state_after}
use Rattle.ss_core.specs.LogFiles.{hot_file, log_files}
use Rattle.ss_core.proofs.Images.{image_state}

-- nothing is in doubt after a call that settled
pub doubts_none : (tells : Use) (own doubt : Doubt) → tells.reaches ≡ true → Doubts tells own doubt no_doubt
doubts_none tells own doubt reaches = record { settled = λ _. refl; still = λ not. absurd (true≢false (sym reaches ∙ not)); one_of = inl refl }

-- what was is, after a call that did not
pub doubts_same : (tells : Use) (own doubt : Doubt) → tells.settles ≡ false → Doubts tells own doubt doubt
doubts_same tells own doubt settles = record { settled = λ is. absurd (true≢false (sym is ∙ settles)); still = λ _. refl; one_of = inr (inl refl) }

-- the step of a call of this use that wrote no record
pub unwritten : {D : Type 0} (disk : Ghosts D) (old new : SplitCore D disk) (s : State) (doubt now : Doubt) (call : Call) (answer : Answer) (tells : Use) → use_of call answer ≡ tells → grown_by s call answer ≡ 0
    → (tells.roomy ≡ true → bytes_of (record_of s call answer) ≤ room_of old.hot) → Doubts tells (own_doubt s call answer) doubt now → new.hot.log.end ≡ old.hot.log.end
    → LeavesFiles disk log_files (HasEitherState s doubt) old.disk new.disk → Lawful s call answer → StandsFor new (After s call answer) now → Steps old new s doubt call answer
unwritten disk old new s doubt now call answer tells is none room doubts end leaves lawful after = record {
  lawful = lawful;
  now = now;
  doubts = subst (λ (u : Use). Doubts u (own_doubt s call answer) doubt now) (sym is) doubts;
  after = after;
  end = omega (arith, end, none);
  roomy = λ had. room (sym (ap (λ (u : Use). u.roomy) is) ∙ had);
  stops = leaves_wider disk log_files (HasEitherState s doubt) _ old.disk new.disk (λ files has. inl has) leaves;
}

-- an answer that tells that no record stands, that no room was looked for, and that no log was settled
pub record IsIdle (tells : Use) : Type 0 where
  pub settles : tells.settles ≡ false
  pub stands : tells.stands ≡ false
  pub roomy : tells.roomy ≡ false

-- the step of such a call, which left disk and hot store as they were
pub idle : {D : Type 0} (disk : Ghosts D) (old new : SplitCore D disk) (s : State) (doubt : Doubt) (call : Call) (answer : Answer) → new.disk ≡ old.disk → new.hot ≡ old.hot → IsIdle (use_of call answer)
    → StandsFor old s doubt → Lawful s call answer → StandsFor new (After s call answer) doubt → Steps old new s doubt call answer
idle disk old new s doubt call answer same same_hot is_idle stands lawful after =
    unwritten disk old new s doubt doubt call answer (use_of call answer) refl (ap (λ b. if b then bytes_of (record_of s call answer) else 0) is_idle.stands) (λ had. absurd (true≢false (sym had ∙ is_idle.roomy)))
    (doubts_same (use_of call answer) (own_doubt s call answer) doubt is_idle.settles) (ap (λ (h : Hot). h.log.end) same_hot)
    (subst (λ now. LeavesFiles disk log_files (HasEitherState s doubt) old.disk now) (sym same) (leaves_no_file disk log_files (HasEitherState s doubt) old.disk (image_state disk old s doubt stands)))
    lawful after

-- what a record in doubt would leave does not depend on the views
record_views : (settings : Settings) (records : List Record) (s : State) (views : ViewSet) (r : Record) → IsLeftBy settings records (state_after s r) → IsLeftBy settings records (state_after (record s { views = views }) r)
record_views settings records s views (Put pairs) is = record { config = is.config; kept = is.kept; hot = is.hot; head = is.head; base = is.base; rows = is.rows }
record_views settings records s views (Config c) is = record { config = is.config; kept = is.kept; hot = is.hot; head = is.head; base = is.base; rows = is.rows }
record_views settings records s views (Generation n) is = record { config = is.config; kept = is.kept; hot = is.hot; head = is.head; base = is.base; rows = is.rows }
record_views settings records s views (Dropped cids) is = record { config = is.config; kept = is.kept; hot = is.hot; head = is.head; base = is.base; rows = is.rows }
record_views settings records s views (Head height cids) is = record { config = is.config; kept = is.kept; hot = is.hot; head = is.head; base = is.base; rows = is.rows }
record_views settings records s views (Base base ended) is = record { config = is.config; kept = is.kept; hot = is.hot; head = is.head; base = is.base; rows = is.rows }
record_views settings records s views (Start edge cids) is = record { config = is.config; kept = is.kept; hot = is.hot; head = is.head; base = is.base; rows = is.rows }
record_views settings records s views (Cold cids) is = record { config = is.config; kept = is.kept; hot = is.hot; head = is.head; base = is.base; rows = is.rows }
record_views settings records s views (Sealed total) is = record { config = is.config; kept = is.kept; hot = is.hot; head = is.head; base = is.base; rows = is.rows }
record_views settings records s views (Copied up_to) is = record { config = is.config; kept = is.kept; hot = is.hot; head = is.head; base = is.base; rows = is.rows }
record_views settings records s views (Purged up_to) is = record { config = is.config; kept = is.kept; hot = is.hot; head = is.head; base = is.base; rows = is.rows }

doubted_views : (settings : Settings) (records : List Record) (s : State) (views : ViewSet) (doubt : Doubt) → IsLeftBy settings records (state_with s doubt) → IsLeftBy settings records (state_with (record s { views = views }) doubt)
doubted_views settings records s views no_doubt is = record { config = is.config; kept = is.kept; hot = is.hot; head = is.head; base = is.base; rows = is.rows }
doubted_views settings records s views (appended log r) is = record_views settings records s views r is
doubted_views settings records s views (restarted log) is = record { config = is.config; kept = is.kept; hot = is.hot; head = is.head; base = is.base; rows = is.rows }

-- a store stands for the state that its records leave
pub stands_anew : {D : Type 0} (disk : Ghosts D) (new : SplitCore D disk) (settings : Settings) (s : State) (doubt : Doubt) (records : List Record) → new.hot.settings ≡ settings → Keeps disk new.disk new.hot records (with_doubt hot_file records doubt) → IsLeftBy settings records s → s.views ≡ new.views
    → new.hot.log.unsure ≡ is_doubted hot_file doubt → AreOfHalf settings (with_doubt hot_file records doubt) → IsLeftBy settings (with_doubt hot_file records doubt) (state_with s doubt) → StandsFor new s doubt
stands_anew disk new settings s doubt records same keeps state views doubt_is of_half doubted = record {
  records = records;
  keeps = keeps;
  state = subst (λ (c : Settings). IsLeftBy c records s) (sym same) state;
  views = views;
  doubt_is = doubt_is;
  of_half = subst (λ (c : Settings). AreOfHalf c (with_doubt hot_file records doubt)) (sym same) of_half;
  doubted = subst (λ (c : Settings). IsLeftBy c (with_doubt hot_file records doubt) (state_with s doubt)) (sym same) doubted;
}

-- as it did, where disk and hot store are as they were
module _ {D : Type 0} (disk : Ghosts D) (old new : SplitCore D disk) (s : State) (doubt : Doubt) (same : new.disk ≡ old.disk) (same_hot : new.hot ≡ old.hot) (stands : StandsFor old s doubt) where
  keeps_still : Keeps disk new.disk new.hot stands.records (with_doubt hot_file stands.records doubt)
  keeps_still = subst (λ (h : Hot). Keeps disk new.disk h stands.records (with_doubt hot_file stands.records doubt)) (sym same_hot) (subst (λ (d : D). Keeps disk d old.hot stands.records (with_doubt hot_file stands.records doubt)) (sym same) stands.keeps)

  pub stands_still : new.views ≡ old.views → StandsFor new s doubt
  stands_still viewed =
      stands_anew disk new old.hot.settings s doubt stands.records (ap (λ (h : Hot). h.settings) same_hot) keeps_still stands.state (stands.views ∙ sym viewed) (ap (λ (h : Hot). h.log.unsure) same_hot ∙ stands.doubt_is) stands.of_half stands.doubted

  -- the views alone changed
  pub with_views : (views : ViewSet) → views ≡ new.views → StandsFor new (record s { views = views }) doubt
  with_views views viewed =
      stands_anew disk new old.hot.settings (record s { views = views }) doubt stands.records (ap (λ (h : Hot). h.settings) same_hot) keeps_still
      (record { config = stands.state.config; kept = stands.state.kept; hot = stands.state.hot; head = stands.state.head; base = stands.state.base; rows = stands.state.rows })
      viewed (ap (λ (h : Hot). h.log.unsure) same_hot ∙ stands.doubt_is) stands.of_half (doubted_views old.hot.settings (with_doubt hot_file stands.records doubt) s views doubt stands.doubted)
