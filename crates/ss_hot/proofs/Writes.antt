-- What a write does to a store and to its disk.
use Rattle.std.proofs.Common.{◌≡◌, inl, inr, ⊎_elim, ℕ, ◌+◌, ◌-◌, ◌≤◌, ◌<◌, Bool, false, List, [], ◌∷◌, ◌++◌, length, refl, sym, ◌∙◌, ap, subst, arith}
use Rattle.std.specs.Prelude.{None, All, MatchBool, Result, Ok, Err, OnOk, OnErr}
use Rattle.std.specs.Ordering.{nat_cmp}
use Rattle.std.specs.Cmp.Lexicographic.{slice_cmp}
use Rattle.std.specs.FinMap as finite_map
use Rattle.ss_device.specs.declared.disk.Disk.{Ghosts}
use Rattle.ss_device.specs.Calls.{Touches, Leaves}
use Rattle.ss_device.proofs.Goes.{touches_on}
use Rattle.ss_gatelog.specs.Log.{spelled}
use Rattle.ss_gatelog.specs.GateLog.{Log, IsSure, IsDoubted, Stands, HasEither}
use Rattle.ss_gatelog.proofs.Logs.{stands_end, stands_leaves}
use Rattle.ss_gatelog.proofs.Steps.{length-spelled-at}
use Rattle.ss_records.specs.declared.record.Config.{Config as Settings}
use Rattle.ss_records.specs.declared.record.Record.{Record}
use Rattle.ss_records.specs.declared.record.Record.TheVariants.{Config, Generation, Put}
use Rattle.ss_records.specs.Record.{spelling, BlockFits, Fits, IsValue, SettingsFit}
use Rattle.ss_store.specs.declared.place.Place.{Place}
use Rattle.ss_store.specs.Places.{CidMap, with_pairs, without_cids, LiesBefore}
use Rattle.ss_store.specs.Append.{bodies, HasOneOf, Appends, KeepsAppended}
use Rattle.ss_store.specs.declared.fault.StoreFault.{StoreFault}
use Rattle.ss_store.proofs.Appended.{leaves_as}
use Rattle.ss_hot.specs.Half.{hot_places}
use Rattle.ss_hot.specs.Store.{Hot, IsPlaced, Keeps, IsWithin, KeepsWritten, Writes, first_records}
use Rattle.ss_hot.proofs.Sizes.{length-Generation, length-Config}
use Rattle.ss_store.proofs.Pairs.{Each-with, Each-without}
use Rattle.ss_store.proofs.Placing.{placed_all, placed-before, length-Put}
use Rattle.ss_hot.proofs.Grown.{next, tells_next, IsLater}

-- a log that goes on below its limit stays where it is
placed_on : (inside : Hot) (log : Log) → IsPlaced inside → log.limit ≡ inside.log.limit → log.end < inside.settings.limit → IsPlaced (record inside { log = log })
placed_on inside log placed limit ends = (limit ∙ placed.0, ends)

-- so does one that is perhaps no longer sure
pub placed_doubt : (inside : Hot) (log : Log) (unsure : Bool) → IsPlaced inside → log ≡ record inside.log { unsure = unsure } → IsPlaced (record inside { log = log })
placed_doubt inside log unsure placed is = placed_on inside log placed (ap (λ (l : Log). l.limit) is) (omega (arith, ap (λ (l : Log). l.end) is, placed.1))

module _ {D : Type 0} (disk : Ghosts D) where
  -- a sure log has the one list
  pub sure_of : (now : D) (log : Log) (front more : List (List ℕ)) → log.unsure ≡ false → Stands disk now log front more → IsSure disk now log front
  sure_of now log front more sure stands = subst (λ (b : Bool). MatchBool b (IsDoubted disk now log front more) (IsSure disk now log front)) sure stands

  pub of_sure : (now : D) (log : Log) (front more : List (List ℕ)) → log.unsure ≡ false → IsSure disk now log front → Stands disk now log front more
  of_sure now log front more sure is = subst (λ (b : Bool). MatchBool b (IsDoubted disk now log front more) (IsSure disk now log front)) (sym sure) is

  -- ---- a call that writes, by a store and by what it tells

  module _ (old : D) (inside store : Hot) (same : inside ≡ store) (rs others : List Record) (keeps : Keeps disk old store rs others) where
    has_kept : Keeps disk old inside rs others
    has_kept = subst (λ (s : Hot). Keeps disk old s rs others) (sym same) keeps

    -- the store after a record that was appended
    keeps_next : (new : D) (log : Log) (n : ℕ) (r : Record) → log ≡ record inside.log { end = inside.log.end + n; unsure = false } → n ≤ inside.log.limit - 1 - inside.log.end → IsSure disk new log (bodies (rs ++ r ∷ []))
        → Fits r → IsValue r → IsLater r → Keeps disk new (next inside log r) (rs ++ r ∷ []) []
    keeps_next new log n r is room appended fits value later = record {
      placed = (
        ap (λ (l : Log). l.limit) is ∙ has_kept.placed.0,
        omega (arith, ap (λ (l : Log). l.end) is, room, has_kept.placed.0, has_kept.placed.1),
      );
      tells = tells_next inside log rs r (ap (λ (l : Log). l.file) is) has_kept.tells (stands_end disk old inside.log (bodies rs) (bodies others) has_kept.stands) fits value later;
      stands = of_sure new log (bodies (rs ++ r ∷ [])) [] (ap (λ (l : Log). l.unsure) is) appended;
    }

    -- the store of which no more than its log's doubt changed
    keeps_doubt : (new : D) (log : Log) (more : List Record) → log ≡ record inside.log { unsure = log.unsure } → Stands disk new log (bodies rs) (bodies more) → Keeps disk new (record inside { log = log }) rs more
    keeps_doubt new log more is stands =
        let tells = has_kept.tells in
        record {
          tells = record { in_place = tells.in_place; settings = tells.settings; places = tells.places ∙ ap (λ (f : ℕ). hot_places f rs) (sym (ap (λ (l : Log). l.file) is)); head = tells.head; base = tells.base };
          placed = placed_doubt inside log log.unsure has_kept.placed is;
          stands = stands;
        }

    -- what images have of its file
    leaves_store : (new : D) (P : ℕ → List ℕ → Type 0) → inside.log.limit ≡ inside.settings.limit → Leaves disk inside.log.file (P inside.log.limit) old new → Leaves disk store.log.file (P store.settings.limit) old new
    leaves_store new P limit leaves =
        subst (λ (f : ℕ). Leaves disk f (P store.settings.limit) old new) (ap (λ (s : Hot). s.log.file) same)
        (subst (λ (n : ℕ). Leaves disk inside.log.file (P n) old new) (limit ∙ ap (λ (s : Hot). s.settings.limit) same) leaves)

    -- a record that was appended
    pub done_keeps : (new : D) (log : Log) (n : ℕ) (r : Record) → inside.log.limit ≡ inside.settings.limit → log ≡ record inside.log { end = inside.log.end + n; unsure = false } → n ≤ inside.log.limit - 1 - inside.log.end
        → (Stands disk old inside.log (bodies rs) (bodies others) → KeepsAppended disk old new inside.log log rs others r (Ok tt)) → Fits r → IsValue r → IsLater r → KeepsWritten disk old new store (next inside log r) rs others r (Ok tt)
    done_keeps new log n r limit is room appends fits value later =
        let appended = appends has_kept.stands in
        record {
          kept = keeps_next new log n r is room appended.appended fits value later;
          failed = tt;
          stops = leaves_store new (λ n. HasOneOf n rs others (rs ++ r ∷ [])) limit appended.stops;
        }

    -- one that was not
    pub failed_keeps : (new : D) (log : Log) (r : Record) (cause e : StoreFault) → inside.log.limit ≡ inside.settings.limit → log ≡ record inside.log { unsure = log.unsure }
        → (Stands disk old inside.log (bodies rs) (bodies others) → KeepsAppended disk old new inside.log log rs others r (Err cause)) → KeepsWritten disk old new store (record inside { log = log }) rs others r (Err e)
    failed_keeps new log r cause e limit is appends =
        let appended = appends has_kept.stands in
        record {
          kept = tt;
          failed = ⊎_elim (λ before. inl (keeps_doubt new log others is before)) (λ perhaps. inr (keeps_doubt new log (rs ++ r ∷ []) is perhaps)) appended.failed;
          stops = leaves_store new (λ n. HasOneOf n rs others (rs ++ r ∷ [])) limit appended.stops;
        }

  -- a record for which memory was not enough
  pub wanting_keeps : (now : D) (store : Hot) (rs others : List Record) → Keeps disk now store rs others → (r : Record) (e : StoreFault) → KeepsWritten disk now now store store rs others r (Err e)
  wanting_keeps now store rs others keeps r e = record {
    kept = tt;
    failed = inl keeps;
    stops = subst (λ (n : ℕ). Leaves disk store.log.file (HasOneOf n rs others (rs ++ r ∷ [])) now now) keeps.placed.0 (leaves_as disk store.log.file (HasEither store.log.limit (bodies rs) (bodies others)) (HasOneOf store.log.limit rs others (rs ++ r ∷ [])) now now
        (λ bytes has. ⊎_elim (λ first. inl first) (λ second. inr (inl second)) has) (stands_leaves disk now store.log (bodies rs) (bodies others) (omega (arith, keeps.placed.0, keeps.placed.1)) keeps.stands));
  }

  -- one file alone changed, and then the file of a log, which is this one
  pub touches_log : (file : ℕ) (old mid new : D) (log : Log) → log.file ≡ file → Touches disk file old mid → Touches disk log.file mid new → Touches disk file old new
  touches_log file old mid new log same first second = touches_on disk file old mid new first (subst (λ (f : ℕ). Touches disk f mid new) same second)

  -- a store in which nothing is kept
  within_limit : (settings : Settings) → SettingsFit settings → length (spelled (bodies (first_records settings))) < settings.limit
  within_limit settings fit = omega (
    arith,
    length-spelled-at [] (spelling (Config settings) ∷ []) (spelling (Generation 1)),
    length-spelled-at [] [] (spelling (Config settings)),
    fit.limit.0,
    length-Generation 1,
    length-Config settings,
  )

  pub keeps_new : (new : D) (settings : Settings) (log : Log) → SettingsFit settings → log.limit ≡ settings.limit → log.unsure ≡ false → IsSure disk new log (bodies (first_records settings))
      → Keeps disk new (record { settings = settings; log = log; places = finite_map.empty; head = None; base = (0, 0) }) (first_records settings) []
  keeps_new new settings log fit limit sure is = record {
    tells = record {
      in_place = (record { fits = omega arith; value = omega arith; may_stand = tt }, (record { fits = fit; value = tt; may_stand = tt }, tt));
      settings = refl;
      places = refl;
      head = refl;
      base = refl;
    };
    placed = (limit, omega (arith, is.end, within_limit settings fit));
    stands = of_sure new log (bodies (first_records settings)) [] sure is;
  }

-- a log that goes on holds the same places
within_on : (settings : Settings) (old new : Log) (places : CidMap Place) → IsWithin settings old places → new.file ≡ old.file → new.limit ≡ old.limit → old.end ≤ new.end → IsWithin settings new places
within_on settings old new places within file limit later = record {
  limit = limit ∙ within.limit;
  each = λ c p held. let was = within.each c p held in (was.0 ∙ sym file, omega (arith, was.1, later), was.2);
}

pub within_doubt : (settings : Settings) (old new : Log) (places : CidMap Place) (unsure : Bool) → IsWithin settings old places → new ≡ record old { unsure = unsure } → IsWithin settings new places
within_doubt settings old new places unsure within is = within_on settings old new places within (ap (λ (l : Log). l.file) is) (ap (λ (l : Log). l.limit) is) (omega (arith, ap (λ (l : Log). l.end) is))

pub within_more : (settings : Settings) (old new : Log) (places : CidMap Place) (n : ℕ) → IsWithin settings old places → new ≡ record old { end = old.end + n; unsure = false } → IsWithin settings new places
within_more settings old new places n within is = within_on settings old new places within (ap (λ (l : Log). l.file) is) (ap (λ (l : Log). l.limit) is) (omega (arith, ap (λ (l : Log). l.end) is))

pub within_without : (settings : Settings) (log : Log) (places : CidMap Place) (cids : List (List ℕ)) → IsWithin settings log places → IsWithin settings log (without_cids places cids)
within_without settings log places cids within = record {
  limit = within.limit;
  each = Each-without (LiesBefore log.file log.end) places cids within.each;
}

pub within_put : (settings : Settings) (old new : Log) (places : CidMap Place) (n body : ℕ) (blocks : List (List ℕ × List ℕ)) → IsWithin settings old places → new ≡ record old { end = old.end + n; unsure = false } → body ≡ old.end + 5 → n ≡ 5 + length (spelling (Put blocks)) → All BlockFits blocks
    → IsWithin settings new (with_pairs places (placed_all old.file body blocks))
within_put settings old new places n body blocks within is at size fit =
    let more = within_more settings old new places n within is in
    let end : new.end ≡ old.end + n = ap (λ (l : Log). l.end) is in
    record {
      limit = more.limit;
      each = Each-with (LiesBefore new.file new.end) places (placed_all old.file body blocks) more.each
          (subst (λ (f : ℕ). All (λ p. LiesBefore f new.end p.0 p.1) (placed_all old.file body blocks)) (sym (ap (λ (l : Log). l.file) is)) (placed-before old.file body 3 new.end blocks (omega (arith, end, at, size, length-Put blocks)) fit));
    }

pub within_empty : (settings : Settings) (log : Log) → log.limit ≡ settings.limit → IsWithin settings log finite_map.empty
within_empty settings log limit = record {
  limit = limit;
  each = λ c p held. absurd (let differ : ⊥ = cc (finite_map.get-empty {X = Place} (slice_cmp nat_cmp) c, held) in differ);
}

-- a log after a settling of any outcome
pub within_settled : {T E : Type 0} (result : Result T E) (settings : Settings) (old new : Log) (places : CidMap Place) → IsWithin settings old places → OnOk result (new ≡ record old { unsure = false }) → OnErr result (new ≡ old) → IsWithin settings new places
within_settled (Ok x) settings old new places within ok err = within_doubt settings old new places false within ok
within_settled (Err e) settings old new places within ok err = subst (λ (l : Log). IsWithin settings l places) (sym err) within

-- a record that was not written, by what its append did to the log
pub failed_writes : {D : Type 0} (disk : Ghosts D) (was now : D) (inside : Hot) (log : Log) (r : Record) (e : StoreFault) → Appends disk was now inside.log log (5 + length (spelling r)) (Err e) → Writes disk was now inside (record inside { log = log }) r (Err e)
failed_writes disk was now inside log r e appends = record {
  appends = appends;
  settings = refl;
  err = ap (λ (l : Log). record inside { log = l }) appends.err;
  untouched = λ fault is. ⊎_elim (λ rose. inl rose) (λ same. inr (ap (λ (l : Log). record inside { log = l }) same.0, same.1)) (appends.untouched fault is);
}
