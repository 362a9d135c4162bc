-- The steps of a head.
use Rattle.std.proofs.Common.{◌≡◌, ◌⊎◌, inl, inr, ⊎_elim, ℕ, ◌+◌, ◌<◌, ◌≤◌, Bool, true, false, List, [], ◌∷◌, ◌++◌, length, Option, None, Some, Err, refl, sym, ap, subst, ◌∙◌, true≢false, arith}
use Rattle.std.specs.Option.{option_or}
use Rattle.std.specs.Prelude.{option_map, is_some, if◌then◌else◌, slice_get, Result, IsTrue}
use Rattle.std.specs.Result.{result_ok}
use Rattle.std.specs.FinMap as finite_map
use Rattle.ss_device.specs.declared.disk.Disk.{Ghosts}
use Rattle.ss_device.specs.Disk.{Files, Same, Rose}
use Rattle.ss_device.specs.Calls.{Goes, Leaves, TouchesFiles, LeavesFiles}
use Rattle.ss_device.proofs.Goes.{stays, then_same, same_files, touches_no_file, leaves_no_file, leaves_same, leaves_wider}
use Rattle.ss_gatelog.specs.GateLog.{CountsFault, HasEither}
use Rattle.ss_records.specs.declared.record.Config.{Config as Settings}
use Rattle.ss_records.specs.declared.record.Record.{Record}
use Rattle.ss_records.specs.declared.record.Record.TheVariants.{Head}
use Rattle.ss_records.specs.Record.{Fits, IsValue, spelling}
use Rattle.ss_chain.specs.Fetch.{fetched}
use Rattle.ss_chain.specs.Steps.{first_of}
use Rattle.ss_chain.specs.Tipset.{tipset_of, cids_fault}
use Rattle.ss_store.specs.Append.{bodies}
use Rattle.ss_store.specs.Places.{CidMap}
use Rattle.ss_hot.specs.Half.{hot_after, hot_from}
use Rattle.ss_hot.specs.Store.{Hot, Keeps, SameButDoubt, room_of}
use Rattle.ss_hot.proofs.Grown.{head_from-push, base_from-push, tells_next}
use Rattle.ss_model.specs.State.{Kept, State}
use Rattle.ss_model.specs.Head.{blocks_of, answer_of, absent_at, unread_refusal, IsHead, head_need}
use Rattle.ss_model.specs.Lawful.{After, LawfulHead, after_head, head_obstacle, is_disk_fault}
use Rattle.ss_model.specs.declared.call.Call.{Call}
use Rattle.ss_model.specs.declared.call.Call.TheVariants as call
use Rattle.ss_model.specs.declared.call.Answer.{Answer}
use Rattle.ss_model.specs.declared.call.Answer.TheVariants as answer
use Rattle.ss_model.specs.declared.call.HeadReply.{HeadReply}
use Rattle.ss_model.specs.declared.call.HeadReply.TheVariants as head
use Rattle.ss_core.specs.declared.split_core.SplitCore.{SplitCore}
use Rattle.ss_core.specs.Calls.{OfFullLog, Steps, Makes}
use Rattle.ss_core.specs.Calls.{Use, use_of, head_use, asking, settling, writing, record_of, bytes_of, height_record, own_doubt, doubt_of}
use Rattle.ss_core.specs.Replies.{OnlyReads, IsUnread, IsJudgement, IsJudged}
use Rattle.ss_core.specs.StandsFor.{IsLeftBy, AreOfHalf, StandsFor, HasClosed, HasEitherState, Doubt, no_doubt, appended}
use Rattle.ss_core.proofs.Idle.{doubts_none, doubts_same, unwritten, idle, stands_anew}
use Rattle.ss_core.proofs.Images.{has_closed, own_half, end_of, image_state}
use Rattle.ss_core.proofs.LogFiles.{touches_then, leaves_hot, leaves_then}
use Rattle.ss_core.proofs.Made.{never, rose_on, of_log_wider}
use Rattle.ss_core.proofs.Settling.{keeps_sure, stands_read}
use Rattle.ss_core.specs.LogFiles.{hot_file, log_files}

-- ---- one record more

blocks_stay : (hot : CidMap (List ℕ)) (records : List Record) (height : ℕ) (cids : List (List ℕ)) → hot_from hot (records ++ Head height cids ∷ []) ≡ hot_from hot records
blocks_stay hot [] height cids = refl
blocks_stay hot (r ∷ records) height cids = blocks_stay (hot_after hot r) records height cids

-- the state after a record of this head
left_head : (settings : Settings) (records : List Record) (s : State) (height : ℕ) (cids : List (List ℕ)) → IsLeftBy settings records s → IsLeftBy settings (records ++ Head height cids ∷ []) (record s { head = Some (height, cids) })
left_head settings records s height cids state = record {
  config = state.config;
  kept = state.kept ∙ sym (blocks_stay finite_map.empty records height cids);
  hot = state.hot;
  head = sym (head_from-push None records (Head height cids));
  base = state.base ∙ sym (base_from-push (0, 0) records (Head height cids));
  rows = state.rows;
}

-- ---- a call after the log was settled and blocks were read

module _ {D : Type 0} (disk : Ghosts D) (old mid new : SplitCore D disk) (same : SameButDoubt old.hot mid.hot) where
  pub then_steps : (s : State) (doubt : Doubt) (call : Call) (answer : Answer) → LeavesFiles disk log_files (HasEitherState s doubt) old.disk mid.disk → (use_of call answer).reaches ≡ true → Steps mid new s no_doubt call answer → Steps old new s doubt call answer
  then_steps s doubt call answer leaves reaches step = record {
    lawful = step.lawful;
    now = step.now;
    doubts = record { settled = step.doubts.settled; still = λ not. absurd (true≢false (sym reaches ∙ not)); one_of = ⊎_elim (λ none. inl none) (λ more. ⊎_elim (λ none. inl none) (λ own. inr (inr own)) more) step.doubts.one_of };
    after = step.after;
    end = omega (arith, step.end, ap (λ (h : Hot). h.log.end) same);
    roomy = λ had. let fits = step.roomy had in omega (arith, fits, ap room_of same);
    stops =
        leaves_then disk (λ files. HasEitherState s doubt files ⊎ HasEitherState (After s call answer) (own_doubt s call answer) files) old.disk mid.disk new.disk
        (leaves_wider disk log_files (HasEitherState s doubt) _ old.disk mid.disk (λ files has. inl has) leaves)
        (leaves_wider disk log_files (λ files. HasEitherState s no_doubt files ⊎ HasEitherState (After s call answer) (own_doubt s call answer) files) _ mid.disk new.disk
        (λ files has. ⊎_elim (λ (own : HasEitherState s no_doubt files). inl (⊎_elim (λ c. inl c) (λ c. inl c) own)) (λ other. inr other) has) step.stops);
  }

  pub then_makes : (cids : List (List ℕ)) (r : HeadReply) → TouchesFiles disk log_files old.disk mid.disk → disk.faults mid.disk ≡ disk.faults old.disk → mid.hot.log.unsure ≡ false → (old.hot.log.unsure ≡ false → Goes disk Same old.disk mid.disk) → (head_use r).reaches ≡ true
      → Makes mid new (call.SetHead cids) (answer.Head r) → Makes old new (call.SetHead cids) (answer.Head r)
  then_makes cids r touches kept sure goes reaches made = record {
    fault = λ is. rose_on (disk.faults old.disk) (disk.faults mid.disk) _ kept (made.fault is);
    no_fault = ⊎_elim (λ is. inl is) (λ now. inr (now ∙ kept)) made.no_fault;
    full = of_log_wider (head_obstacle r) (λ file need room is. (is.0, is.1, is.2 ∙ ap room_of same, is.3)) made.full;
    grows = omega (arith, made.grows, ap (λ (h : Hot). h.log.end) same, ap room_of same);
    memory = λ is was_sure. then_same disk old.disk mid.disk new.disk Same (goes was_sure) (made.memory is sure);
    still = λ not. never (sym not ∙ reaches);
    settled = made.settled;
    settings = made.settings ∙ ap (λ (h : Hot). h.settings) same;
    touches = touches_then disk old.disk mid.disk new.disk touches made.touches;
  }

-- ---- before the log is settled

-- what is refused early is refused
pub first : (r : HeadReply) (early late : Option HeadReply) → Some r ≡ early → option_or early late ≡ Some r
first r (Some r') late is = sym is
first r None late is = absurd (true≢false (ap is_some is))

-- where the CIDs have no fault, the first that is absent decides
pub decides : (kept : Kept) (cids : List (List ℕ)) (found : Option HeadReply) → None ≡ option_map answer_of (cids_fault cids) → first_of (absent_at kept cids) (length cids) ≡ found → found ≡ unread_refusal kept cids
decides kept cids found none is = subst (λ e. found ≡ option_or e (first_of (absent_at kept cids) (length cids))) none (sym is)

-- the CID at a place stands for a block, or does not, as its length tells
pub is_absent : (kept : Kept) (cids : List (List ℕ)) (i : ℕ) (c : List ℕ) → slice_get cids i ≡ Some c → is_some (fetched kept c) ≡ false → absent_at kept cids i ≡ Some (head.Absent i)
is_absent kept cids i c at none = rw at (on (fetched kept c) none)
  where
    on : (found : Option (List ℕ)) → is_some found ≡ false → (if is_some found then None else Some (head.Absent i)) ≡ Some (head.Absent i)
    on None e = refl
    on (Some b) e = absurd (true≢false e)

pub is_present : (kept : Kept) (cids : List (List ℕ)) (i : ℕ) (c : List ℕ) → slice_get cids i ≡ Some c → is_some (fetched kept c) ≡ true → absent_at kept cids i ≡ None
is_present kept cids i c at there = rw at (on (fetched kept c) there)
  where
    on : (found : Option (List ℕ)) → is_some found ≡ true → (if is_some found then None else Some (head.Absent i)) ≡ None
    on None e = absurd (true≢false (sym e))
    on (Some b) e = refl

module _ {D : Type 0} (disk : Ghosts D) (cids : List (List ℕ)) (core : SplitCore D disk) where
  -- over any disk such a refusal does nothing
  pub refused_makes : (r : HeadReply) → IsUnread r → Makes core core (call.SetHead cids) (answer.Head r)
  refused_makes head.Empty unread = record { fault = λ wrong. never wrong; no_fault = inr refl; full = tt; grows = omega arith; memory = λ wrong. never wrong; still = λ _. refl; settled = λ wrong. never wrong; settings = refl; touches = touches_no_file disk log_files core.disk }
  refused_makes (head.TooMany n) unread = record { fault = λ wrong. never wrong; no_fault = inr refl; full = tt; grows = omega arith; memory = λ wrong. never wrong; still = λ _. refl; settled = λ wrong. never wrong; settings = refl; touches = touches_no_file disk log_files core.disk }
  refused_makes (head.Repeated i) unread = record { fault = λ wrong. never wrong; no_fault = inr refl; full = tt; grows = omega arith; memory = λ wrong. never wrong; still = λ _. refl; settled = λ wrong. never wrong; settings = refl; touches = touches_no_file disk log_files core.disk }
  refused_makes (head.Absent i) unread = record { fault = λ wrong. never wrong; no_fault = inr refl; full = tt; grows = omega arith; memory = λ wrong. never wrong; still = λ _. refl; settled = λ wrong. never wrong; settings = refl; touches = touches_no_file disk log_files core.disk }
  refused_makes head.NoMemory unread = absurd unread
  refused_makes (head.NotHeader i) unread = absurd unread
  refused_makes (head.HeightDiffers i) unread = absurd unread
  refused_makes (head.ParentsDiffer i) unread = absurd unread
  refused_makes (head.LogFull file need room) unread = absurd unread
  refused_makes head.DiskFault unread = absurd unread
  refused_makes (head.Set height) unread = absurd unread

module _ {D : Type 0} (disk : Ghosts D) (s : State) (doubt : Doubt) (cids : List (List ℕ)) where
  -- refused before a block is read
  pub refused : (core : SplitCore D disk) (r : HeadReply) → IsUnread r → Some r ≡ unread_refusal s.kept cids → StandsFor core s doubt → Steps core core s doubt (call.SetHead cids) (answer.Head r)
  refused core head.Empty unread is stands = idle disk core core s doubt (call.SetHead cids) (answer.Head head.Empty) refl refl (record { settles = refl; stands = refl; roomy = refl }) stands (first _ _ _ is) stands
  refused core (head.TooMany n) unread is stands = idle disk core core s doubt (call.SetHead cids) (answer.Head (head.TooMany n)) refl refl (record { settles = refl; stands = refl; roomy = refl }) stands (first _ _ _ is) stands
  refused core (head.Repeated i) unread is stands = idle disk core core s doubt (call.SetHead cids) (answer.Head (head.Repeated i)) refl refl (record { settles = refl; stands = refl; roomy = refl }) stands (first _ _ _ is) stands
  refused core (head.Absent i) unread is stands = idle disk core core s doubt (call.SetHead cids) (answer.Head (head.Absent i)) refl refl (record { settles = refl; stands = refl; roomy = refl }) stands (first _ _ _ is) stands
  refused core head.NoMemory unread is stands = absurd unread
  refused core (head.NotHeader i) unread is stands = absurd unread
  refused core (head.HeightDiffers i) unread is stands = absurd unread
  refused core (head.ParentsDiffer i) unread is stands = absurd unread
  refused core (head.LogFull file need room) unread is stands = absurd unread
  refused core head.DiskFault unread is stands = absurd unread
  refused core (head.Set height) unread is stands = absurd unread

  -- the log could not be settled
  pub not_settled : (old mid : SplitCore D disk) → unread_refusal s.kept cids ≡ None → SameButDoubt old.hot mid.hot → LeavesFiles disk log_files (HasEitherState s doubt) old.disk mid.disk → StandsFor mid s doubt → Steps old mid s doubt (call.SetHead cids) (answer.Head head.DiskFault)
  not_settled old mid known same leaves after =
      unwritten disk old mid s doubt doubt (call.SetHead cids) (answer.Head head.DiskFault) asking refl refl (λ had. never had) (doubts_same asking _ doubt refl) (ap (λ (h : Hot). h.log.end) same) leaves known after

-- ---- what comes of reading

module _ {D : Type 0} (disk : Ghosts D) (told : IsTrue disk.told) (mid new : SplitCore D disk) (reads : OnlyReads mid new) (s : State) (cids : List (List ℕ)) (stands : StandsFor mid s no_doubt) (known : unread_refusal s.kept cids ≡ None) where
  -- it stands for the same state after
  pub stands_after : StandsFor new s no_doubt
  stands_after = stands_read disk told mid new s no_doubt reads.goes reads.hot reads.views stands

  -- and each image since has it
  leaves_after : LeavesFiles disk log_files (HasEitherState s no_doubt) mid.disk new.disk
  leaves_after = leaves_same disk log_files (HasEitherState s no_doubt) mid.disk mid.disk new.disk told (leaves_no_file disk log_files (HasEitherState s no_doubt) mid.disk (image_state disk mid s no_doubt stands)) reads.goes

  step : (r : HeadReply) (tells : Use) → head_use r ≡ tells → tells.stands ≡ false → tells.roomy ≡ false → tells.reaches ≡ true → LawfulHead s cids r → after_head s cids r ≡ s → Steps mid new s no_doubt (call.SetHead cids) (answer.Head r)
  step r tells is stands_not roomy reaches lawful after =
      unwritten disk mid new s no_doubt no_doubt (call.SetHead cids) (answer.Head r) tells is
      (ap (λ (u : Use). if u.stands then bytes_of (record_of s (call.SetHead cids) (answer.Head r)) else 0) is ∙ ap (λ b. if b then bytes_of (record_of s (call.SetHead cids) (answer.Head r)) else 0) stands_not)
      (λ had. absurd (true≢false (sym had ∙ roomy))) (doubts_none tells _ no_doubt reaches) (ap (λ (h : Hot). h.log.end) reads.hot) leaves_after lawful (subst (λ t. StandsFor new t no_doubt) (sym after) stands_after)

  pub judged_steps : (r : HeadReply) → IsJudgement r → IsJudged s.kept cids (Err r) → Steps mid new s no_doubt (call.SetHead cids) (answer.Head r)
  judged_steps head.NoMemory may judged = step head.NoMemory _ refl refl refl refl known refl
  judged_steps head.DiskFault may judged = step head.DiskFault _ refl refl refl refl known refl
  judged_steps (head.NotHeader i) may judged = step (head.NotHeader i) _ refl refl refl refl judged refl
  judged_steps (head.HeightDiffers i) may judged = step (head.HeightDiffers i) _ refl refl refl refl judged refl
  judged_steps (head.ParentsDiffer i) may judged = step (head.ParentsDiffer i) _ refl refl refl refl judged refl
  judged_steps head.Empty may judged = absurd may
  judged_steps (head.TooMany n) may judged = absurd may
  judged_steps (head.Repeated i) may judged = absurd may
  judged_steps (head.Absent i) may judged = absurd may
  judged_steps (head.LogFull file need room) may judged = absurd may
  judged_steps (head.Set height) may judged = absurd may

-- a head that was judged asked the disk
pub judged_reaches : (r : HeadReply) → IsJudgement r → (head_use r).reaches ≡ true
judged_reaches head.NoMemory may = refl
judged_reaches head.DiskFault may = refl
judged_reaches (head.NotHeader i) may = refl
judged_reaches (head.HeightDiffers i) may = refl
judged_reaches (head.ParentsDiffer i) may = refl
judged_reaches head.Empty may = absurd may
judged_reaches (head.TooMany n) may = absurd may
judged_reaches (head.Repeated i) may = absurd may
judged_reaches (head.Absent i) may = absurd may
judged_reaches (head.LogFull file need room) may = absurd may
judged_reaches (head.Set height) may = absurd may

module _ {D : Type 0} (disk : Ghosts D) (mid new : SplitCore D disk) (reads : OnlyReads mid new) (cids : List (List ℕ)) (sure : mid.hot.log.unsure ≡ false) where
  pub makes : (r : HeadReply) → (IsTrue (is_disk_fault (answer.Head r)) → Rose (disk.faults mid.disk) (disk.faults new.disk)) → IsTrue (is_disk_fault (answer.Head r)) ⊎ (disk.faults new.disk ≡ disk.faults mid.disk) → OfFullLog (λ file need room. (file ≡ hot_file) × (need ≡ head_need cids) × (room ≡ room_of mid.hot) × (room < need)) (answer.Head r)
      → (head_use r).reaches ≡ true → Makes mid new (call.SetHead cids) (answer.Head r)
  makes r fault no_fault full reaches = record {
    fault = fault;
    no_fault = no_fault;
    full = full;
    grows = omega (arith, ap (λ (h : Hot). h.log.end) reads.hot);
    memory = λ _ _. reads.goes;
    still = λ not. never (sym not ∙ reaches);
    settled = λ _. ap (λ (h : Hot). h.log.unsure) reads.hot ∙ sure;
    settings = ap (λ (h : Hot). h.settings) reads.hot;
    touches = same_files disk log_files mid.disk new.disk reads.goes;
  }

  -- an answer that is no fault of the disk has no such cause
  spared : {T P : Type 0} (r : HeadReply) → (r ≡ head.DiskFault → ⊥) → ◌≡◌ {A = Result T HeadReply} (Err r) (Err head.DiskFault) ⊎ P → P
  spared {T = T} r other (inl is) = absurd (other (inside r head.DiskFault is))
    where
      inside : (x y : HeadReply) → ◌≡◌ {A = Result T HeadReply} (Err x) (Err y) → x ≡ y
      inside x y e = cc
  spared r other (inr is) = is

  pub judged_makes : {T : Type 0} (r : HeadReply) → IsJudgement r → CountsFault {T = T} head.DiskFault (disk.faults mid.disk) (disk.faults new.disk) (Err r) → Makes mid new (call.SetHead cids) (answer.Head r)
  judged_makes head.DiskFault may counts = makes head.DiskFault (λ _. counts.rose refl) (inl refl) tt refl
  judged_makes head.NoMemory may counts = makes head.NoMemory (λ wrong. never wrong) (inr (spared head.NoMemory (λ e. cc (e)) counts.kept)) tt refl
  judged_makes (head.NotHeader i) may counts = makes (head.NotHeader i) (λ wrong. never wrong) (inr (spared (head.NotHeader i) (λ e. cc (e)) counts.kept)) tt refl
  judged_makes (head.HeightDiffers i) may counts = makes (head.HeightDiffers i) (λ wrong. never wrong) (inr (spared (head.HeightDiffers i) (λ e. cc (e)) counts.kept)) tt refl
  judged_makes (head.ParentsDiffer i) may counts = makes (head.ParentsDiffer i) (λ wrong. never wrong) (inr (spared (head.ParentsDiffer i) (λ e. cc (e)) counts.kept)) tt refl
  judged_makes head.Empty may counts = absurd may
  judged_makes (head.TooMany n) may counts = absurd may
  judged_makes (head.Repeated i) may counts = absurd may
  judged_makes (head.Absent i) may counts = absurd may
  judged_makes (head.LogFull file need room) may counts = absurd may
  judged_makes (head.Set height) may counts = absurd may

-- reads after reads
pub reads_then : {D : Type 0} (disk : Ghosts D) (old mid new : SplitCore D disk) → OnlyReads old mid → OnlyReads mid new → OnlyReads old new
reads_then disk old mid new one two = record {
  goes = then_same disk old.disk mid.disk new.disk Same one.goes two.goes;
  hot = two.hot ∙ one.hot;
  views = two.views ∙ one.views;
}

-- a store of which nothing changed was only read
pub unchanged : {D : Type 0} (disk : Ghosts D) (old new : SplitCore D disk) → new.disk ≡ old.disk → new.hot ≡ old.hot → new.views ≡ old.views → OnlyReads old new
unchanged disk old new same same_hot viewed = record {
  goes = subst (λ now. Goes disk Same old.disk now) (sym same) (stays disk old.disk Same (λ files. refl));
  hot = same_hot;
  views = viewed;
}

-- ---- the record is written

module _ {D : Type 0} (disk : Ghosts D) (cids : List (List ℕ)) where
  -- the log has no room
  pub full_makes : (core : SplitCore D disk) (file need room : ℕ) → core.hot.log.unsure ≡ false → file ≡ hot_file → need ≡ head_need cids → room ≡ room_of core.hot → room < need → Makes core core (call.SetHead cids) (answer.Head (head.LogFull file need room))
  full_makes core file need room sure file_is need_is room_is less =
      makes disk core core (unchanged disk core core refl refl refl) cids sure (head.LogFull file need room) (λ wrong. never wrong) (inr refl) (file_is, need_is, room_is, less) refl

  module _ (old new : SplitCore D disk) (settings : new.hot.settings ≡ old.hot.settings) (touches : TouchesFiles disk log_files old.disk new.disk) (grows : new.hot.log.end ≤ old.hot.log.end + room_of old.hot) where
    pub set_makes : (height : ℕ) → disk.faults new.disk ≡ disk.faults old.disk → new.hot.log.unsure ≡ false → Makes old new (call.SetHead cids) (answer.Head (head.Set height))
    set_makes height kept sure = record { fault = λ wrong. never wrong; no_fault = inr kept; full = tt; grows = grows; memory = λ wrong. never wrong; still = λ not. never (sym not); settled = λ _. sure; settings = settings; touches = touches }

    pub failed_makes : Rose (disk.faults old.disk) (disk.faults new.disk) → Makes old new (call.SetHead cids) (answer.Head head.DiskFault)
    failed_makes rose = record { fault = λ _. rose; no_fault = inl refl; full = tt; grows = grows; memory = λ wrong. never wrong; still = λ not. never (sym not); settled = λ wrong. never wrong; settings = settings; touches = touches }

module _ {D : Type 0} (disk : Ghosts D) (s : State) (height : ℕ) (cids : List (List ℕ)) (is_head : IsHead s.kept cids height) where
  abbrev after : State
  after = record s { head = Some (height, cids) }

  pub full_steps : (core : SplitCore D disk) → StandsFor core s no_doubt → (file need room : ℕ) → file ≡ 0 → need ≡ head_need cids → room < need → Steps core core s no_doubt (call.SetHead cids) (answer.Head (head.LogFull file need room))
  full_steps core stands file need room file_is need_is less =
      unwritten disk core core s no_doubt no_doubt (call.SetHead cids) (answer.Head (head.LogFull file need room)) settling refl refl (λ had. never had) (doubts_none settling _ no_doubt refl) refl
      (leaves_no_file disk log_files (HasEitherState s no_doubt) core.disk (image_state disk core s no_doubt stands)) ((height, is_head), file_is, need_is, less) stands

  module _ (old new : SplitCore D disk) (stands : StandsFor old s no_doubt) (fits : Fits (Head height cids)) (value : IsValue (Head height cids)) (settings : new.hot.settings ≡ old.hot.settings) (viewed : new.views ≡ old.views) (room : 5 + length (spelling (Head height cids)) ≤ room_of old.hot)
      (second : (records : List Record) → Keeps disk old.disk old.hot records records → Leaves disk old.hot.log.file (HasEither old.hot.settings.limit (bodies records) (bodies (records ++ Head height cids ∷ []))) old.disk new.disk) where
    abbrev more : List Record
    more = stands.records ++ Head height cids ∷ []

    -- the longer list is one of a half, and leaves the state with the head
    more_of_half : AreOfHalf old.hot.settings more
    more_of_half =
        let tells = tells_next old.hot old.hot.log stands.records (Head height cids) refl stands.keeps.tells (end_of disk old.disk old.hot.log (bodies stands.records) (bodies stands.records) stands.keeps.stands) fits value tt in
        (tells.in_place, tells.settings)

    left : IsLeftBy old.hot.settings more after
    left = left_head old.hot.settings stands.records s height cids stands.state

    -- each image has the state with the head, or the one without
    leaves_either : (Q : Files → Type 0) → ((files : Files) → HasClosed s files → Q files) → ((files : Files) → HasClosed after files → Q files) → LeavesFiles disk log_files Q old.disk new.disk
    leaves_either Q one two =
        leaves_hot disk old.hot.log.file (HasEither old.hot.settings.limit (bodies stands.records) (bodies more)) Q old.disk new.disk old.file
        (λ files lists. ⊎_elim (λ short. one files (has_closed files old.hot.settings stands.records s (own_half disk old s no_doubt stands) stands.state short)) (λ long. two files (has_closed files old.hot.settings more after more_of_half left long)) lists)
        (second stands.records stands.keeps)

    pub set_steps : new.hot.log.end ≡ old.hot.log.end + 5 + length (spelling (Head height cids)) → new.hot.log.unsure ≡ false → ((records : List Record) → Keeps disk old.disk old.hot records records → Keeps disk new.disk new.hot (records ++ Head height cids ∷ []) [])
        → Steps old new s no_doubt (call.SetHead cids) (answer.Head (head.Set height))
    set_steps end sure kept = record {
      lawful = is_head;
      now = no_doubt;
      doubts = doubts_none writing _ no_doubt refl;
      after = stands_anew disk new old.hot.settings after no_doubt more settings (keeps_sure disk new.disk new.hot more [] more sure (kept stands.records stands.keeps)) left (stands.views ∙ sym viewed) sure more_of_half left;
      end = omega (arith, end);
      roomy = λ _. room;
      stops = leaves_either _ (λ files has. inl (inl has)) (λ files has. inr (inl has));
    }

    pub doubted_steps : SameButDoubt old.hot new.hot → ((records : List Record) → Keeps disk old.disk old.hot records records → Keeps disk new.disk new.hot records (records ++ Head height cids ∷ [])) → Steps old new s no_doubt (call.SetHead cids) (answer.Head head.DiskFault)
    doubted_steps same kept = by new.hot.log.unsure refl
      where
        keeps : Keeps disk new.disk new.hot stands.records more
        keeps = kept stands.records stands.keeps

        own_is : doubt_of (option_map (height_record cids) (result_ok (tipset_of (blocks_of s.kept cids)))) ≡ appended hot_file (Head height cids)
        own_is = ap (λ r. doubt_of (option_map (height_record cids) (result_ok r))) is_head.tipset

        step' : (now : Doubt) → (now ≡ no_doubt) ⊎ (now ≡ appended hot_file (Head height cids)) → StandsFor new s now → Steps old new s no_doubt (call.SetHead cids) (answer.Head head.DiskFault)
        step' now which after_now = record {
          lawful = is_head.known;
          now = now;
          doubts = record { settled = λ no. absurd (let differ : ⊥ = cc (no) in differ); still = λ no. absurd (let differ : ⊥ = cc (no) in differ); one_of = ⊎_elim (λ none. inl none) (λ own. inr (inr (own ∙ sym own_is))) which };
          after = after_now;
          end = omega (arith, ap (λ (h : Hot). h.log.end) same);
          roomy = λ had. never had;
          stops = leaves_either _ (λ files has. inl (inl has)) (λ files has. inr (subst (λ (d : Doubt). HasEitherState s d files) (sym own_is) (inr has)));
        }

        by : (b : Bool) → new.hot.log.unsure ≡ b → Steps old new s no_doubt (call.SetHead cids) (answer.Head head.DiskFault)
        by true unsure = step' (appended hot_file (Head height cids)) (inr refl) (stands_anew disk new old.hot.settings s (appended hot_file (Head height cids)) stands.records settings keeps stands.state (stands.views ∙ sym viewed) unsure more_of_half left)
        by false sure = step' no_doubt (inl refl) (stands_anew disk new old.hot.settings s no_doubt stands.records settings (keeps_sure disk new.disk new.hot stands.records more stands.records sure keeps) stands.state (stands.views ∙ sym viewed) sure (own_half disk old s no_doubt stands) stands.state)
