-- What the next run starts from.
use Rattle.std.proofs.Common.{◌≡◌, inl, ℕ, List, length, refl, sym, ◌∙◌, ap, subst}
use Rattle.std.specs.Prelude.{is_some, IsTrue}
use Rattle.std.specs.FinMap as finite_map
use Rattle.ss_device.specs.declared.disk.Disk.{Ghosts}
use Rattle.ss_device.specs.Disk.{Files, Same}
use Rattle.ss_device.specs.Calls.{Goes}
use Rattle.ss_device.proofs.Moments as moments
use Rattle.ss_gatelog.specs.Log.{spelled}
use Rattle.ss_records.specs.declared.record.Record.{Record}
use Rattle.ss_store.specs.Append.{bodies}
use Rattle.ss_store.specs.Places.{CidMap}
use Rattle.ss_hot.specs.Half.{IsHalf, hot_blocks, head_of, base_of}
use Rattle.ss_hot.proofs.Readings.{settings_once, records_once}
use Rattle.ss_hot.proofs.Reopened.{kept_half}
use Rattle.ss_model.specs.State.{State, closed}
use Rattle.ss_core.specs.declared.split_core.SplitCore.{SplitCore}
use Rattle.ss_core.specs.StandsFor.{no_doubt, HasState, KeepsState, AreAlike, StandsFor, hot_end}
use Rattle.ss_core.specs.LogFiles.{hot_file}
use Rattle.ss_core.proofs.Images.{left_closed, end_of}

-- each image of a disk has the state of a store over it of which nothing is in doubt, with no view open
pub begins_again : {D : Type 0} (disk : Ghosts D) (core : SplitCore D disk) (s : State) → StandsFor core s no_doubt → (left : Files) → disk.image core.disk (disk.moment core.disk) left → HasState left (closed s)
begins_again disk core s stands left image = record {
  settings = core.hot.settings;
  records = stands.records;
  half = subst (λ (file : ℕ). IsHalf (left file) core.hot.settings stands.records) core.file (kept_half disk core.disk core.hot stands.records stands.records stands.keeps stands.doubt_is left image);
  state = left_closed core.hot.settings stands.records s stands.state;
  closed = refl;
}

-- ---- files have one state

module _ (files : Files) (s t : State) (is : HasState files s) (has : HasState files t) where
  same_records : is.records ≡ has.records
  same_records = records_once (files hot_file) is.settings has.settings is.records has.records is.half has.half

  same_kept : s.kept ≡ t.kept
  same_kept = is.state.kept ∙ ap hot_blocks same_records ∙ sym has.state.kept

  same_base : ◌≡◌ {A = ℕ × ℕ} (s.base, s.ended) (t.base, t.ended)
  same_base = is.state.base ∙ ap base_of same_records ∙ sym has.state.base

  pub one_end : hot_end is ≡ hot_end has
  one_end = ap (λ (rs : List Record). length (spelled (bodies rs))) same_records

  pub alike : AreAlike s t
  alike = record {
    config = is.state.config ∙ settings_once (files hot_file) is.settings has.settings is.half.committed has.half.committed ∙ sym has.state.config;
    kept = same_kept;
    hot = λ c. is.state.hot c ∙ ap (λ (kept : CidMap (List ℕ)). is_some (finite_map.get kept c)) same_kept ∙ sym (has.state.hot c);
    head = is.state.head ∙ ap head_of same_records ∙ sym has.state.head;
    base = ap (λ (p : ℕ × ℕ). p.0) same_base;
    ended = ap (λ (p : ℕ × ℕ). p.1) same_base;
    views = is.closed ∙ sym has.closed;
  }

-- the records of each image end where the log does
pub ends_there : {D : Type 0} (disk : Ghosts D) (core : SplitCore D disk) (s : State) (stands : StandsFor core s no_doubt) (left : Files) → disk.image core.disk (disk.moment core.disk) left → (has : HasState left (closed s)) → core.hot.log.end ≡ hot_end has
unfolding begins_again
ends_there disk core s stands left image has =
    end_of disk core.disk core.hot.log (bodies stands.records) (bodies stands.records) stands.keeps.stands ∙ one_end left (closed s) (closed s) (begins_again disk core s stands left image) has

-- where no file changed what an image has stays
pub same_state : {D : Type 0} (disk : Ghosts D) (old new : D) → Goes disk Same old new → IsTrue disk.told → KeepsState disk old new
same_state disk old new goes told = moments.widens (disk.moment old) (disk.moment new) (disk.image old) (disk.image new) Same _ (goes.images told) (λ a b left same. inl same)
