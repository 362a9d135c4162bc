-- The steps of a put whose parcel passes.
use Rattle.std.proofs.Common.{◌≡◌, ◌≢◌, ◌⊎◌, inl, inr, ⊎_elim, ℕ, ◌+◌, ◌<◌, ◌≤◌, Bool, true, false, List, [], ◌∷◌, ◌++◌, length, None, Some, refl, sym, ap, subst, ◌∙◌, arith}
use Rattle.std.specs.Prelude.{is_some, All, Ok, Err}
use Rattle.std.specs.FinMap as finite_map
use Rattle.ss_device.specs.declared.disk.Disk.{Ghosts}
use Rattle.ss_device.specs.Disk.{Files}
use Rattle.ss_device.specs.Calls.{Leaves, LeavesFiles}
use Rattle.ss_gatelog.specs.Log.{HasList}
use Rattle.ss_gatelog.specs.GateLog.{Log}
use Rattle.ss_gatelog.proofs.Logs.{stands_end}
use Rattle.ss_records.specs.declared.record.Config.{Config as Settings}
use Rattle.ss_records.specs.declared.record.Record.{Record}
use Rattle.ss_records.specs.declared.record.Record.TheVariants.{Put}
use Rattle.ss_records.specs.Record.{Fits, IsValue, BlockFits, spelling}
use Rattle.ss_store.specs.Append.{bodies, HasOneOf}
use Rattle.ss_store.specs.declared.fault.StoreFault.{StoreFault}
use Rattle.ss_store.specs.Places.{CidMap, with_pairs}
use Rattle.ss_store.specs.declared.place.Place.{Place}
use Rattle.ss_hot.specs.Half.{hot_after, hot_from}
use Rattle.ss_hot.specs.Store.{Hot, Keeps, KeepsWritten, SameButDoubt, AreNotHot, room_of}
use Rattle.ss_hot.proofs.Grown.{head_from-push, base_from-push, tells_next}
use Rattle.ss_hot.proofs.Places.{places_some, places_len}
use Rattle.ss_model.specs.State.{State, Kept}
use Rattle.ss_model.specs.Lawful.{new_pairs, written_pairs, with_blocks, with_hot, rows_after, body_bytes, pairs_need, after_put, IsPassed, IsAdmitted}
use Rattle.ss_model.specs.declared.call.PutReply.TheVariants as put
use Rattle.ss_model.specs.declared.call.Call.TheVariants as call
use Rattle.ss_model.specs.declared.call.Answer.TheVariants as answer
use Rattle.ss_model.proofs.Need.{record_takes}
use Rattle.ss_core.specs.declared.split_core.SplitCore.{SplitCore}
use Rattle.ss_core.specs.Calls.{Steps}
use Rattle.ss_core.specs.Calls.{blocks_record, bytes_of, doubt_of, writing, perhaps_writing}
use Rattle.ss_core.specs.Replies.{IsLooked, cids_of, IsReady}
use Rattle.ss_core.specs.declared.fresh.Seen.{Seen}
use Rattle.ss_core.specs.StandsFor.{IsLeftBy, AreOfHalf, StandsFor, HasEitherState, Doubt, no_doubt, appended, with_doubt}
use Rattle.ss_core.proofs.Idle.{doubts_none, doubts_same, unwritten, idle, stands_anew, stands_still}
use Rattle.ss_core.proofs.Images.{has_closed, own_half, either_state}
use Rattle.ss_core.proofs.LogFiles.{leaves_hot}
use Rattle.ss_core.proofs.Puts.{new_pairs_alike, new_again, written_are, cids_known, kept_more, hot_more, rows_more, fresh_fit, fresh_few, fresh_short, fresh_absent}
use Rattle.ss_core.proofs.Settling.{keeps_sure}
use Rattle.ss_core.specs.LogFiles.{hot_file, log_files}

-- ---- the new blocks of a parcel that is ready

pub new_fits : (places : CidMap Place) (pairs fresh : List (List ℕ × List ℕ)) → IsReady pairs → new_pairs (cids_of places) pairs ≡ fresh → 1 ≤ length fresh → Fits (Put fresh)
new_fits places pairs fresh ready is some =
    ((some, omega (arith, fresh_few (cids_of places) pairs, ap (λ (ps : List (List ℕ × List ℕ)). length ps) is, ready.few)), subst (λ ps. All BlockFits ps) is (fresh_fit (cids_of places) pairs ready.sound))

pub new_short : (places : CidMap Place) (pairs fresh : List (List ℕ × List ℕ)) (top : ℕ) → body_bytes pairs ≤ top → new_pairs (cids_of places) pairs ≡ fresh → body_bytes fresh ≤ top
new_short places pairs fresh top short is = omega (arith, fresh_short (cids_of places) pairs, ap body_bytes is, short)

pub new_absent : (hot : Hot) (pairs fresh : List (List ℕ × List ℕ)) → new_pairs (cids_of hot.places) pairs ≡ fresh → AreNotHot hot fresh
new_absent hot pairs fresh is = subst (λ ps. AreNotHot hot ps) is (fresh_absent hot.places pairs)

-- where all are new, the bytes that the look told are those of their record
pub own_body : (hot : Hot) (pairs : List (List ℕ × List ℕ)) (bytes : ℕ) (seen : List Seen) → IsReady pairs → IsLooked hot pairs bytes seen → new_pairs (cids_of hot.places) pairs ≡ pairs → bytes ≡ body_bytes pairs
own_body hot pairs bytes seen ready is all = omega (arith, is.own (new_absent hot pairs pairs all), ready.short)

-- a record of so many bytes fits a log's record
pub spelled_short : (pairs : List (List ℕ × List ℕ)) (top : ℕ) → body_bytes pairs ≤ top → length (spelling (Put pairs)) ≤ top
spelled_short pairs top short = omega (arith, record_takes pairs, short)

-- ---- one record more

blocks_push : (hot : CidMap (List ℕ)) (records : List Record) (fresh : List (List ℕ × List ℕ)) → hot_from hot (records ++ Put fresh ∷ []) ≡ with_pairs (hot_from hot records) fresh
blocks_push hot [] fresh = refl
blocks_push hot (r ∷ records) fresh = blocks_push (hot_after hot r) records fresh

-- the state after a record of these new blocks
left_more : (settings : Settings) (records : List Record) (s : State) (pairs fresh : List (List ℕ × List ℕ)) → IsLeftBy settings records s → new_pairs s.hot pairs ≡ fresh → finite_map.len s.kept + length fresh ≤ s.config.rows
    → IsLeftBy settings (records ++ Put fresh ∷ []) (record s { kept = with_blocks s.kept pairs; hot = with_hot s.hot pairs })
left_more settings records s pairs fresh state is few = record {
  config = state.config;
  kept =
      sym (kept_more s.kept s.hot pairs state.hot)
      ∙ ap (λ (ps : List (List ℕ × List ℕ)). with_pairs s.kept ps) is
      ∙ ap (λ (kept : Kept). with_pairs kept fresh) state.kept
      ∙ sym (blocks_push finite_map.empty records fresh);
  hot = hot_more s.kept s.hot pairs state.hot;
  head = state.head ∙ sym (head_from-push None records (Put fresh));
  base = state.base ∙ sym (base_from-push (0, 0) records (Put fresh));
  rows = omega (arith, rows_more s.kept s.hot pairs state.hot, ap (λ (ps : List (List ℕ × List ℕ)). length ps) is, few);
}

-- the state where none is new
left_none : (settings : Settings) (records : List Record) (s : State) (pairs : List (List ℕ × List ℕ)) → IsLeftBy settings records s → new_pairs s.hot pairs ≡ [] → IsLeftBy settings records (record s { kept = with_blocks s.kept pairs; hot = with_hot s.hot pairs })
left_none settings records s pairs state is = record {
  config = state.config;
  kept = sym (kept_more s.kept s.hot pairs state.hot) ∙ ap (λ (ps : List (List ℕ × List ℕ)). with_pairs s.kept ps) is ∙ state.kept;
  hot = hot_more s.kept s.hot pairs state.hot;
  head = state.head;
  base = state.base;
  rows = omega (arith, rows_more s.kept s.hot pairs state.hot, ap (λ (ps : List (List ℕ × List ℕ)). length ps) is, state.rows);
}

-- ---- a store and the state that it stands for

module _ {D : Type 0} (disk : Ghosts D) (core : SplitCore D disk) (s : State) (doubt : Doubt) (stands : StandsFor core s doubt) where
  -- as many blocks are kept
  pub count_is : finite_map.len core.hot.places ≡ finite_map.len s.kept
  count_is = ap finite_map.len stands.keeps.tells.places ∙ places_len core.hot.log.file stands.records ∙ ap finite_map.len (sym stands.state.kept)

  -- those that are held
  pub held_is : (c : List ℕ) → is_some (finite_map.get core.hot.places c) ≡ is_some (finite_map.get s.kept c)
  held_is c =
      ap (λ (places : CidMap Place). is_some (finite_map.get places c)) stands.keeps.tells.places
      ∙ places_some core.hot.log.file stands.records c
      ∙ ap (λ (kept : Kept). is_some (finite_map.get kept c)) (sym stands.state.kept)

  -- and the same blocks of a parcel are new
  pub new_are : (pairs : List (List ℕ × List ℕ)) → new_pairs s.hot pairs ≡ new_pairs (cids_of core.hot.places) pairs
  new_are pairs = sym (new_pairs_alike (cids_of core.hot.places) s.hot pairs (λ c. cids_known core.hot.places c ∙ held_is c ∙ sym (stands.state.hot c)))

  module _ (pairs fresh : List (List ℕ × List ℕ)) (is : new_pairs s.hot pairs ≡ fresh) where
    -- the rows after a put of these new blocks
    rows_are : rows_after s pairs ≡ finite_map.len core.hot.places + length fresh
    rows_are = omega (arith, rows_more s.kept s.hot pairs stands.state.hot, count_is, ap (λ (ps : List (List ℕ × List ℕ)). length ps) is)

    admitted : (v : ℕ) → IsPassed s v pairs → finite_map.len core.hot.places + length fresh ≤ core.hot.settings.rows → IsAdmitted s v pairs
    admitted v passed few = record { passed = passed; rows = omega (arith, rows_are, few, ap (λ (c : Settings). c.rows) stands.state.config) }

-- ---- the steps

takes : (fresh : List (List ℕ × List ℕ)) → 1 ≤ length fresh → blocks_record fresh ≡ Some (record { file = hot_file; entry = Put fresh })
takes [] some = absurd (omega (arith, some))
takes (p ∷ fresh) some = refl

not_none : (fresh : List (List ℕ × List ℕ)) → 1 ≤ length fresh → fresh ≢ []
not_none fresh some none = absurd (omega (arith, some, ap (λ (ps : List (List ℕ × List ℕ)). length ps) none))

-- the bytes of the record of new blocks
bytes_are : (pairs fresh : List (List ℕ × List ℕ)) → pairs ≡ fresh → 1 ≤ length fresh → bytes_of (blocks_record pairs) ≡ 5 + body_bytes fresh
bytes_are pairs fresh is some = ap (λ (ps : List (List ℕ × List ℕ)). bytes_of (blocks_record ps)) is ∙ ap bytes_of (takes fresh some) ∙ omega (arith, record_takes fresh)

-- as a limit has them
pub need_short : (fresh : List (List ℕ × List ℕ)) (top : ℕ) → 1 ≤ length fresh → 5 + body_bytes fresh ≤ top → bytes_of (blocks_record fresh) ≤ top
need_short fresh top some short = omega (arith, bytes_are fresh fresh refl some, short)

-- so it is not refused for want of room
pub has_room : (hot : Hot) (fresh : List (List ℕ × List ℕ)) (room : ℕ) → 5 + body_bytes fresh ≤ room_of hot → room ≡ room_of hot → room < 5 + length (spelling (Put fresh)) → ⊥
has_room hot fresh room fits room_is full = omega (arith, record_takes fresh, fits, room_is, full)

-- there is a row for each block, and none for a new one is asked for
pub none_few : {D : Type 0} (disk : Ghosts D) (s : State) (doubt : Doubt) (core : SplitCore D disk) → StandsFor core s doubt → finite_map.len core.hot.places + 0 ≤ core.hot.settings.rows
none_few disk s doubt core stands = omega (arith, count_is disk core s doubt stands, stands.state.rows, ap (λ (c : Settings). c.rows) stands.state.config)

module _ {D : Type 0} (disk : Ghosts D) (s : State) (doubt : Doubt) (v : ℕ) (pairs fresh : List (List ℕ × List ℕ)) (passed : IsPassed s v pairs) (is : new_pairs s.hot pairs ≡ fresh) where
  -- the record has them as they are
  wrote : (core : SplitCore D disk) → StandsFor core s doubt → written_pairs s.kept s.hot pairs ≡ fresh
  wrote core stands = written_are s.kept s.hot pairs stands.state.hot ∙ is

  -- the table or the log is full
  module _ (core : SplitCore D disk) (stands : StandsFor core s doubt) where
    pub table_is_full : (rows : ℕ) → rows ≡ finite_map.len core.hot.places + length fresh → core.hot.settings.rows < rows → Steps core core s doubt (call.Put v pairs) (answer.Put (put.TableFull rows))
    table_is_full rows rows_is many =
        idle disk core core s doubt (call.Put v pairs) (answer.Put (put.TableFull rows)) refl refl (record { settles = refl; stands = refl; roomy = refl }) stands
        (passed, rows_is ∙ sym (rows_are disk core s doubt stands pairs fresh is), omega (arith, many, ap (λ (c : Settings). c.rows) stands.state.config)) stands

    pub log_is_full : (file need room : ℕ) → 1 ≤ length fresh → finite_map.len core.hot.places + length fresh ≤ core.hot.settings.rows → file ≡ 0 → need ≡ 5 + body_bytes fresh → room < need → Steps core core s doubt (call.Put v pairs) (answer.Put (put.LogFull file need room))
    log_is_full file need room some few hot need_is full =
        idle disk core core s doubt (call.Put v pairs) (answer.Put (put.LogFull file need room)) refl refl (record { settles = refl; stands = refl; roomy = refl }) stands
        (admitted disk core s doubt stands pairs fresh is v passed few, hot, (λ none. not_none fresh some (sym (wrote core stands) ∙ none)), need_is ∙ ap pairs_need (sym (wrote core stands)), full) stands

  -- out of memory nothing changed
  pub no_memory : (old new : SplitCore D disk) → StandsFor old s doubt → new.disk ≡ old.disk → new.hot ≡ old.hot → new.views ≡ old.views → Steps old new s doubt (call.Put v pairs) (answer.Put put.NoMemory)
  no_memory old new stands same same_hot viewed =
      idle disk old new s doubt (call.Put v pairs) (answer.Put put.NoMemory) same same_hot (record { settles = refl; stands = refl; roomy = refl }) stands passed (stands_still disk old new s doubt same same_hot stands viewed)

  -- the log was asked to be settled, and nothing was written
  module _ (old new : SplitCore D disk) (stands : StandsFor old s doubt) (same : SameButDoubt old.hot new.hot) (leaves : LeavesFiles disk log_files (HasEitherState s doubt) old.disk new.disk) where
    pub not_settled : finite_map.len old.hot.places + length fresh ≤ old.hot.settings.rows → bytes_of (blocks_record fresh) ≤ room_of old.hot → StandsFor new s doubt → Steps old new s doubt (call.Put v pairs) (answer.Put put.DiskFault)
    not_settled few room after =
        unwritten disk old new s doubt doubt (call.Put v pairs) (answer.Put put.DiskFault) perhaps_writing refl refl (λ _. omega (arith, ap (λ (ps : List (List ℕ × List ℕ)). bytes_of (blocks_record ps)) (wrote old stands), room))
        (doubts_same perhaps_writing _ doubt refl) (ap (λ (h : Hot). h.log.end) same) leaves (admitted disk old s doubt stands pairs fresh is v passed few) after

    pub none_stored : fresh ≡ [] → StandsFor new s no_doubt → Steps old new s doubt (call.Put v pairs) (answer.Put (put.Stored 0))
    none_stored none after =
        unwritten disk old new s doubt no_doubt (call.Put v pairs) (answer.Put (put.Stored 0)) writing refl (ap (λ (ps : List (List ℕ × List ℕ)). bytes_of (blocks_record ps)) (wrote old stands ∙ none)) (λ _. omega (arith, ap (λ (ps : List (List ℕ × List ℕ)). bytes_of (blocks_record ps)) (wrote old stands ∙ none)))
        (doubts_none writing _ doubt refl) (ap (λ (h : Hot). h.log.end) same) leaves (
          admitted disk old s doubt stands pairs fresh is v passed (omega (arith, ap (λ (ps : List (List ℕ × List ℕ)). length ps) none, count_is disk old s doubt stands, stands.state.rows, ap (λ (c : Settings). c.rows) stands.state.config)),
          omega (arith, rows_are disk old s doubt stands pairs fresh is, count_is disk old s doubt stands, ap (λ (ps : List (List ℕ × List ℕ)). length ps) none),
        )
        (
        let left = left_none new.hot.settings after.records s pairs after.state (is ∙ none) in
        stands_anew disk new new.hot.settings (after_put s pairs (put.Stored 0)) no_doubt after.records refl after.keeps left after.views after.doubt_is after.of_half left
        )

  -- A record of the new blocks was written, or may have been.
  module _ (old new : SplitCore D disk) (stands : StandsFor old s doubt) (some : Fits (Put fresh)) (value : IsValue (Put fresh)) (few : finite_map.len old.hot.places + length fresh ≤ old.hot.settings.rows) (room : 5 + body_bytes fresh ≤ room_of old.hot)
      (settings : new.hot.settings ≡ old.hot.settings) (viewed : new.views ≡ old.views) where
    -- the records with what was in doubt, and with the new one
    abbrev others : List Record
    others = with_doubt hot_file stands.records doubt

    abbrev more : List Record
    more = stands.records ++ Put fresh ∷ []

    small : finite_map.len s.kept + length fresh ≤ s.config.rows
    small = omega (arith, few, count_is disk old s doubt stands, ap (λ (c : Settings). c.rows) stands.state.config)

    -- the longer list is one of a half
    more_of_half : AreOfHalf old.hot.settings more
    more_of_half = let tells = tells_next old.hot old.hot.log stands.records (Put fresh) refl stands.keeps.tells (stands_end disk old.disk old.hot.log (bodies stands.records) (bodies others) stands.keeps.stands) some value tt in (tells.in_place, tells.settings)

    -- it leaves the state with all blocks of the parcel, and that with the new ones, which is the same
    left_all : IsLeftBy old.hot.settings more (after_put s pairs (put.Stored 0))
    left_all = left_more old.hot.settings stands.records s pairs fresh stands.state is small

    left_new : IsLeftBy old.hot.settings more (after_put s fresh (put.Stored 0))
    left_new = left_more old.hot.settings stands.records s fresh fresh stands.state (ap (new_pairs s.hot) (sym is) ∙ new_again s.hot pairs ∙ is) small

    -- each image has a state with the new blocks, or one without
    leaves_either : (Q : Files → Type 0) → ((files : Files) → HasEitherState s doubt files → Q files) → ((files : Files) → HasList old.hot.settings.limit (files hot_file) (bodies more) → Q files)
        → Leaves disk old.hot.log.file (HasOneOf old.hot.settings.limit stands.records others more) old.disk new.disk → LeavesFiles disk log_files Q old.disk new.disk
    leaves_either Q one two =
        leaves_hot disk old.hot.log.file (HasOneOf old.hot.settings.limit stands.records others more) Q old.disk new.disk old.file
        (λ files lists. ⊎_elim (λ first. one files (either_state disk old s doubt stands files (inl first))) (λ rest. ⊎_elim (λ second. one files (either_state disk old s doubt stands files (inr second))) (two files) rest) lists)

    pub is_stored : (n : ℕ) → n ≡ length fresh → new.hot.log ≡ record old.hot.log { end = old.hot.log.end + (5 + length (spelling (Put fresh))); unsure = false }
        → ((records others : List Record) → Keeps disk old.disk old.hot records others → KeepsWritten disk old.disk new.disk old.hot new.hot records others (Put fresh) (Ok tt)) → Steps old new s doubt (call.Put v pairs) (answer.Put (put.Stored n))
    is_stored n n_is log written =
        let sure : new.hot.log.unsure ≡ false = ap (λ (l : Log). l.unsure) log in
        let kept = written stands.records others stands.keeps in
        record {
          lawful = (admitted disk old s doubt stands pairs fresh is v passed few, omega (arith, rows_are disk old s doubt stands pairs fresh is, count_is disk old s doubt stands, n_is));
          now = no_doubt;
          doubts = doubts_none writing _ doubt refl;
          after = stands_anew disk new old.hot.settings (after_put s pairs (put.Stored n)) no_doubt more settings (keeps_sure disk new.disk new.hot more [] more sure kept.kept) left_all (stands.views ∙ sym viewed) sure more_of_half left_all;
          end = omega (arith, ap (λ (l : Log). l.end) log, bytes_are (written_pairs s.kept s.hot pairs) fresh (wrote old stands) some.0.0, record_takes fresh);
          roomy = λ _. omega (arith, bytes_are (written_pairs s.kept s.hot pairs) fresh (wrote old stands) some.0.0, room);
          stops = leaves_either _ (λ files has. inl has) (λ files long. inr (inl (has_closed files old.hot.settings more (after_put s pairs (put.Stored n)) more_of_half left_all long))) kept.stops;
        }

    module _ (e : StoreFault) (same : SameButDoubt old.hot new.hot) (written : (records others : List Record) → Keeps disk old.disk old.hot records others → KeepsWritten disk old.disk new.disk old.hot new.hot records others (Put fresh) (Err e)) where
      own_is : doubt_of (blocks_record (written_pairs s.kept s.hot pairs)) ≡ appended hot_file (Put fresh)
      own_is = ap (λ (ps : List (List ℕ × List ℕ)). doubt_of (blocks_record ps)) (wrote old stands) ∙ ap doubt_of (takes fresh some.0.0)

      -- The store still stands for its records: with what was in doubt, if it was, or with the new one.
      still : (Keeps disk new.disk new.hot stands.records others × (old.hot.log.unsure ≡ true)) ⊎ Keeps disk new.disk new.hot stands.records more
      still = at old.hot.log.unsure refl
        where
          at : (b : Bool) → old.hot.log.unsure ≡ b → (Keeps disk new.disk new.hot stands.records others × (old.hot.log.unsure ≡ true)) ⊎ Keeps disk new.disk new.hot stands.records more
          at true unsure = ⊎_elim (λ before. inl (before, unsure)) (λ perhaps. inr perhaps) (written stands.records others stands.keeps).failed
          at false sure = inr (⊎_elim (λ perhaps. perhaps) (λ perhaps. perhaps) (written stands.records more (keeps_sure disk old.disk old.hot stands.records others more sure stands.keeps)).failed)

      step : (now : Doubt) → (now ≡ no_doubt) ⊎ ((now ≡ doubt) ⊎ (now ≡ appended hot_file (Put fresh))) → StandsFor new s now → Steps old new s doubt (call.Put v pairs) (answer.Put put.DiskFault)
      step now which after = record {
        lawful = admitted disk old s doubt stands pairs fresh is v passed few;
        now = now;
        doubts = record { settled = λ no. absurd (let differ : ⊥ = cc (no) in differ); still = λ no. absurd (let differ : ⊥ = cc (no) in differ); one_of = ⊎_elim (λ none. inl none) (λ rest. inr (⊎_elim (λ before. inl before) (λ own. inr (own ∙ sym own_is)) rest)) which };
        after = after;
        end = omega (arith, ap (λ (h : Hot). h.log.end) same);
        roomy = λ _. omega (arith, bytes_are (written_pairs s.kept s.hot pairs) fresh (wrote old stands) some.0.0, room);
        stops = leaves_either _ (λ files has. inl has) (λ files long. inr (subst (λ (d : Doubt). HasEitherState s d files) (sym own_is) (inr (has_closed files old.hot.settings more (after_put s fresh (put.Stored 0)) more_of_half left_new long))))
            (written stands.records others stands.keeps).stops;
      }

      pub is_doubted : Steps old new s doubt (call.Put v pairs) (answer.Put put.DiskFault)
      is_doubted = by new.hot.log.unsure refl still
        where
          settle : (other : List Record) → new.hot.log.unsure ≡ false → Keeps disk new.disk new.hot stands.records other → Steps old new s doubt (call.Put v pairs) (answer.Put put.DiskFault)
          settle other sure keeps =
              step no_doubt (inl refl) (stands_anew disk new old.hot.settings s no_doubt stands.records settings (keeps_sure disk new.disk new.hot stands.records other stands.records sure keeps) stands.state (stands.views ∙ sym viewed) sure (own_half disk old s doubt stands) stands.state)

          by : (b : Bool) → new.hot.log.unsure ≡ b → (Keeps disk new.disk new.hot stands.records others × (old.hot.log.unsure ≡ true)) ⊎ Keeps disk new.disk new.hot stands.records more → Steps old new s doubt (call.Put v pairs) (answer.Put put.DiskFault)
          by true unsure (inl before) = step doubt (inr (inl refl)) (stands_anew disk new old.hot.settings s doubt stands.records settings before.0 stands.state (stands.views ∙ sym viewed) (unsure ∙ sym before.1 ∙ stands.doubt_is) stands.of_half stands.doubted)
          by true unsure (inr perhaps) = step (appended hot_file (Put fresh)) (inr (inr refl)) (stands_anew disk new old.hot.settings s (appended hot_file (Put fresh)) stands.records settings perhaps stands.state (stands.views ∙ sym viewed) unsure more_of_half left_new)
          by false sure (inl before) = settle others sure before.0
          by false sure (inr perhaps) = settle more sure perhaps
