-- One call more of a story, and what a story is for those who look at it from outside.
use Rattle.std.proofs.Common.{◌≡◌, ◌⊎◌, inl, inr, ℕ, min, ◌≤◌, ◌+◌, ◌-◌, ◌^◌, Bool, true, false, List, [], ◌∷◌, ◌++◌, Some, refl, sym, ap, ◌∙◌, subst, arith, true≢false}
use Rattle.std.proofs.lemmas.List.Elements.{All-pop}
use Rattle.std.specs.Prelude.{if◌then◌else◌, IsTrue}
use Rattle.ss_device.specs.declared.disk.Disk.{Ghosts}
use Rattle.ss_device.specs.Disk.{Same, Rose}
use Rattle.ss_device.specs.Calls.{Goes}
use Rattle.ss_device.proofs.Goes.{touches_both}
use Rattle.ss_records.specs.declared.record.Config.{Config as Settings}
use Rattle.ss_records.specs.Record.{SettingsFit}
use Rattle.ss_model.specs.State.{State}
use Rattle.ss_model.specs.Lawful.{Lawful, After, obstacle_of, is_disk_fault}
use Rattle.ss_model.specs.Lawful.{Legal, AfterAll}
use Rattle.ss_model.specs.declared.call.Entry.{Entry}
use Rattle.ss_core.specs.declared.split_core.SplitCore.{SplitCore}
use Rattle.ss_core.specs.LogFiles.{log_files}
use Rattle.ss_core.specs.Calls.{Steps, Makes, OfFullLog, use_of, own_doubt, Doubts, settings_of}
use Rattle.ss_core.specs.StandsFor.{Doubt, no_doubt, HasState, StandsFor}
use Rattle.ss_core.proofs.Images.{image_state}
use Rattle.ss_core.proofs.Made.{of_log_wider}
use Rattle.ss_core.proofs.Reopened.{same_state}
use Rattle.ss_history.specs.Story.{AreCounted, HasRoomsBy, IsLimit, AreDoubts, faults_in, state_behind, Story, IsHistory, HasStore}
use Rattle.ss_history.proofs.Still.{same_touches}

-- one entry more

legal_more : (s : State) (h : List Entry) (e : Entry) → Legal s h → Lawful (AfterAll s h) e.call e.answer → Legal s (h ++ e ∷ [])
legal_more s [] e legal lawful = (lawful, tt)
legal_more s (x ∷ h) e legal lawful = (legal.0, legal_more (After s x.call x.answer) h e legal.1 lawful)

after_more : (s : State) (h : List Entry) (e : Entry) → AfterAll s (h ++ e ∷ []) ≡ After (AfterAll s h) e.call e.answer
after_more s [] e = refl
after_more s (x ∷ h) e = after_more (After s x.call x.answer) h e

doubts_more : (s : State) (old : Doubt) (h : List Entry) (e : Entry) (mid new : Doubt) → AreDoubts s old h mid → Doubts (use_of e.call e.answer) (own_doubt (AfterAll s h) e.call e.answer) mid new → AreDoubts s old (h ++ e ∷ []) new
doubts_more s old [] e mid new are is = (new, subst (λ (d : Doubt). Doubts (use_of e.call e.answer) (own_doubt s e.call e.answer) d new) are is, refl)
doubts_more s old (x ∷ h) e mid new are is = (are.0, are.1, doubts_more (After s x.call x.answer) are.0 h e mid new are.2 is)

room_more : (limit : ℕ) (known : ℕ → ℕ) (h : List Entry) (e : Entry) → HasRoomsBy limit known h → OfFullLog (λ file need room. limit ≤ room + known file) e.answer → HasRoomsBy limit known (h ++ e ∷ [])
room_more limit known [] e are is = (is, tt)
room_more limit known (x ∷ h) e are is = (are.0, room_more limit known h e are.1 is)

known_more : (limit : ℕ) (known later : ℕ → ℕ) (h : List Entry) → ((file : ℕ) → known file ≤ later file) → HasRoomsBy limit known h → HasRoomsBy limit later h
known_more limit known later [] more are = tt
known_more limit known later (e ∷ h) more are =
    (of_log_wider (obstacle_of e.answer) (λ file need room fits. let rise = more file in omega (arith, fits, rise)) are.0, known_more limit known later h more are.1)

pub faults_more : (h : List Entry) (e : Entry) → faults_in (h ++ e ∷ []) ≡ faults_in h + (if is_disk_fault e.answer then 1 else 0)
faults_more [] e = omega arith
faults_more (x ∷ h) e = let rest = faults_more h e in omega (arith, rest)

counted_more : (before mid now : ℕ) (h : List Entry) (e : Entry) → AreCounted before mid h → mid ≤ now → (IsTrue (is_disk_fault e.answer) → Rose mid now) → IsTrue (is_disk_fault e.answer) ⊎ (now ≡ mid) → AreCounted before now (h ++ e ∷ [])
counted_more before mid now h e few later rose same = by (is_disk_fault e.answer) refl same
  where
    rise : (before mid now few more : ℕ) → min (before + few) (2 ^ 64 - 1) ≤ mid → more ≡ few + 1 → Rose mid now → min (before + more) (2 ^ 64 - 1) ≤ now
    rise before mid now few more was sum up = omega (arith, was, sum, up)

    by : (b : Bool) → is_disk_fault e.answer ≡ b → IsTrue (is_disk_fault e.answer) ⊎ (now ≡ mid) → AreCounted before now (h ++ e ∷ [])
    by false is (inl fault) = absurd (true≢false (sym fault ∙ is))
    by false is (inr kept) =
        let sum : faults_in (h ++ e ∷ []) ≡ faults_in h + 0 = faults_more h e ∙ ap (λ b. faults_in h + (if b then 1 else 0)) is in
        let enough = few.enough in
        record { enough = omega (arith, enough, later, sum); none = λ zero. kept ∙ few.none (omega (arith, sum, zero)) }
    by true is same =
        let sum : faults_in (h ++ e ∷ []) ≡ faults_in h + 1 = faults_more h e ∙ ap (λ b. faults_in h + (if b then 1 else 0)) is in
        record { enough = rise before mid now (faults_in h) (faults_in (h ++ e ∷ [])) few.enough sum (rose is); none = λ zero. absurd (let no : ⊥ = omega (arith, sum, zero) in no) }

module _ {D : Type 0} {disk : Ghosts D} (was : D) where
  pub story_more : (old new : SplitCore D disk) (h : List Entry) (e : Entry) → Story was old h → (IsTrue disk.told → (s : State) (doubt : Doubt) → StandsFor old s doubt → Steps old new s doubt e.call e.answer) → Makes old new e.call e.answer → Story was new (h ++ e ∷ [])
  story_more old new h e story told made =
      let limit : (settings_of new).limit ≡ (settings_of old).limit = ap (λ (c : Settings). c.limit) made.settings in
      record {
        told = λ t.
            let p = story.told t in
            let step = told t (state_behind p.0) p.0.doubt p.1 in (
              record {
                state = p.0.state;
                stands = p.0.stands;
                legal = legal_more p.0.state h e p.0.legal step.lawful;
                doubt = step.now;
                doubts = doubts_more p.0.state no_doubt h e p.0.doubt step.now p.0.doubts step.doubts;
              },
              subst (λ s. StandsFor new s step.now) (sym (after_more p.0.state h e)) step.after,
            );
        counted = counted_more _ _ _ h e story.counted made.touches.faults made.fault made.no_fault;
        limit = subst IsLimit (sym limit) story.limit;
        rooms = subst (λ n. HasRoomsBy n (disk.known new.disk) (h ++ e ∷ [])) (sym limit)
            (room_more (settings_of old).limit (disk.known new.disk) h e (known_more _ (disk.known old.disk) (disk.known new.disk) h made.touches.known story.rooms)
            (of_log_wider (obstacle_of e.answer) (λ file need room is. enough _ room _ _ _ (is.2 ∙ ap (λ n. n - 1 - old.hot.log.end) old.limit) old.known (subst (λ n. disk.known old.disk n ≤ disk.known new.disk file) (is.0 ∙ sym old.file) (made.touches.known file))) made.full));
        touches = touches_both disk log_files log_files log_files was old.disk new.disk (λ g other. other) (λ g other. other) story.touches made.touches;
        still = λ are.
            let both = All-pop (λ x. (use_of x.call x.answer).reaches ≡ false) (h ++ e ∷ []) h (Some e) refl are in
            subst (λ d. Goes disk Same was d) (sym (made.still both.1)) (story.still both.0);
      }
    where
      enough : (limit room end known later : ℕ) → room ≡ limit - 1 - end → end + 1 ≤ known → known ≤ later → limit ≤ room + later
      enough limit room end known later is was rise = omega (arith, is, was, rise)

  -- a store that is opened, and has made no call
  pub begun_story : (core : SplitCore D disk) → Goes disk Same was core.disk → (IsTrue disk.told → (s : State) × HasState (disk.files was) s × StandsFor core s no_doubt)
      → disk.faults core.disk ≡ disk.faults was → SettingsFit (settings_of core) → Story was core []
  begun_story core goes serves sound fits = record {
    told = λ t. let s = serves t in (record { state = s.0; stands = s.1; legal = tt; doubt = no_doubt; doubts = refl }, s.2);
    counted = record { enough = omega (arith, sound); none = λ _. sound };
    limit = fits.limit;
    rooms = tt;
    touches = same_touches disk was core.disk goes;
    still = λ _. goes;
  }

  -- what the entries are for those who look at the run from outside
  pub history_of : (core : SplitCore D disk) (h : List Entry) → Story was core h → IsHistory disk was core.disk h
  history_of core h story = record {
    legal = λ t. let p = story.told t in inr (p.0, image_state disk core (state_behind p.0) p.0.doubt p.1);
    rooms = ((settings_of core).limit, story.limit, story.rooms);
    touches = story.touches;
    keeps = λ t are. same_state disk was core.disk (story.still are) t;
    still = story.still;
  }

  stands_of : (core : SplitCore D disk) (h : List Entry) → Story was core h → IsTrue disk.told → HasStore (disk.files was)
  stands_of core h story told = let p = story.told told in (p.0.state, p.0.stands)
