-- What one record more does to what the records of a half stand for.
use Rattle.std.proofs.Common.{◌≡◌, ℕ, suc, ◌+◌, List, [], ◌∷◌, ◌++◌, length, refl, sym, ◌∙◌, ap, subst, arith, length-append}
use Rattle.std.specs.Prelude.{Option, Some, None}
use Rattle.std.specs.FinMap as finite_map
use Rattle.ss_gatelog.specs.Log.{spelled}
use Rattle.ss_gatelog.specs.GateLog.{Log}
use Rattle.ss_gatelog.proofs.Steps.{length-spelled-at}
use Rattle.ss_records.specs.declared.record.Config.{Config as Settings}
use Rattle.ss_records.specs.declared.record.Record.{Record}
use Rattle.ss_records.specs.declared.record.Record.TheVariants.{Config, Generation, Put, Dropped, Head, Base, Start, Cold, Sealed, Copied, Purged}
use Rattle.ss_records.specs.Record.{frame, spelling, Fits, IsValue}
use Rattle.ss_store.specs.declared.place.Place.{Place}
use Rattle.ss_store.specs.Places.{CidMap}
use Rattle.ss_store.specs.Append.{bodies}
use Rattle.ss_hot.specs.Half.{MayStand, IsInPlace, AreInPlace, settings_from, settings_of, head_from, base_from, places_after, places_from, hot_places}
use Rattle.ss_hot.specs.Store.{Hot, Tells}

pub length-frame : (body : List ℕ) → length (frame body) ≡ 5 + length body
length-frame body = omega (arith, length-append body (0 ∷ []))

settings_from-step : (x : Option Settings) (r : Record) (rs : List Record) → settings_from x (r ∷ rs) ≡ settings_from (settings_from x (r ∷ [])) rs
settings_from-step x (Config c) rs = refl
settings_from-step x (Generation n) rs = refl
settings_from-step x (Put blocks) rs = refl
settings_from-step x (Dropped cids) rs = refl
settings_from-step x (Head height cids) rs = refl
settings_from-step x (Base edge ended) rs = refl
settings_from-step x (Start edge cids) rs = refl
settings_from-step x (Cold cids) rs = refl
settings_from-step x (Sealed total) rs = refl
settings_from-step x (Copied up_to) rs = refl
settings_from-step x (Purged up_to) rs = refl

pub settings_from-push : (x : Option Settings) (rs : List Record) (r : Record) → settings_from x (rs ++ r ∷ []) ≡ settings_from (settings_from x rs) (r ∷ [])
settings_from-push x [] r = refl
settings_from-push x (q ∷ rs) r = settings_from-step x q (rs ++ r ∷ []) ∙ settings_from-push (settings_from x (q ∷ [])) rs r ∙ ap (λ (y : Option Settings). settings_from y (r ∷ [])) (sym (settings_from-step x q rs))

head_from-step : (x : Option (ℕ × List (List ℕ))) (r : Record) (rs : List Record) → head_from x (r ∷ rs) ≡ head_from (head_from x (r ∷ [])) rs
head_from-step x (Config c) rs = refl
head_from-step x (Generation n) rs = refl
head_from-step x (Put blocks) rs = refl
head_from-step x (Dropped cids) rs = refl
head_from-step x (Head height cids) rs = refl
head_from-step x (Base edge ended) rs = refl
head_from-step x (Start edge cids) rs = refl
head_from-step x (Cold cids) rs = refl
head_from-step x (Sealed total) rs = refl
head_from-step x (Copied up_to) rs = refl
head_from-step x (Purged up_to) rs = refl

pub head_from-push : (x : Option (ℕ × List (List ℕ))) (rs : List Record) (r : Record) → head_from x (rs ++ r ∷ []) ≡ head_from (head_from x rs) (r ∷ [])
head_from-push x [] r = refl
head_from-push x (q ∷ rs) r = head_from-step x q (rs ++ r ∷ []) ∙ head_from-push (head_from x (q ∷ [])) rs r ∙ ap (λ (y : Option (ℕ × List (List ℕ))). head_from y (r ∷ [])) (sym (head_from-step x q rs))

base_from-step : (x : ℕ × ℕ) (r : Record) (rs : List Record) → base_from x (r ∷ rs) ≡ base_from (base_from x (r ∷ [])) rs
base_from-step x (Config c) rs = refl
base_from-step x (Generation n) rs = refl
base_from-step x (Put blocks) rs = refl
base_from-step x (Dropped cids) rs = refl
base_from-step x (Head height cids) rs = refl
base_from-step x (Base edge ended) rs = refl
base_from-step x (Start edge cids) rs = refl
base_from-step x (Cold cids) rs = refl
base_from-step x (Sealed total) rs = refl
base_from-step x (Copied up_to) rs = refl
base_from-step x (Purged up_to) rs = refl

pub base_from-push : (x : ℕ × ℕ) (rs : List Record) (r : Record) → base_from x (rs ++ r ∷ []) ≡ base_from (base_from x rs) (r ∷ [])
base_from-push x [] r = refl
base_from-push x (q ∷ rs) r = base_from-step x q (rs ++ r ∷ []) ∙ base_from-push (base_from x (q ∷ [])) rs r ∙ ap (λ (y : ℕ × ℕ). base_from y (r ∷ [])) (sym (base_from-step x q rs))

pub places_from-push : (file : ℕ) (held : CidMap Place) (at : ℕ) (rs : List Record) (r : Record) → places_from file held at (rs ++ r ∷ []) ≡ places_after file (places_from file held at rs) (at + length (spelled (bodies rs))) r
places_from-push file held at [] r = let none : at ≡ at + 0 = omega arith in ap (λ (n : ℕ). places_after file held n r) none
places_from-push file held at (q ∷ rs) r =
    let size : at + 5 + length (spelling q) + length (spelled (bodies rs)) ≡ at + length (spelled (bodies (q ∷ rs))) = omega (arith, length-spelled-at [] (bodies rs) (spelling q)) in
    places_from-push file (places_after file held at q) (at + 5 + length (spelling q)) rs r
    ∙ ap (λ (n : ℕ). places_after file (places_from file (places_after file held at q) (at + 5 + length (spelling q)) rs) n r) size

-- a record that stands after the settings
abbrev pub IsLater : Record → Type 0
IsLater r = MayStand 2 r

IsLater-stands : (n : ℕ) (r : Record) → IsLater r → MayStand (suc (suc n)) r
IsLater-stands n (Config c) later = absurd later
IsLater-stands n (Generation number) later = absurd later
IsLater-stands n (Put blocks) later = tt
IsLater-stands n (Dropped cids) later = tt
IsLater-stands n (Head height cids) later = tt
IsLater-stands n (Base edge ended) later = tt
IsLater-stands n (Start edge cids) later = absurd later
IsLater-stands n (Cold cids) later = absurd later
IsLater-stands n (Sealed total) later = absurd later
IsLater-stands n (Copied up_to) later = absurd later
IsLater-stands n (Purged up_to) later = absurd later

-- it leaves the settings
settings_from-later : (told : Option Settings) (r : Record) → IsLater r → settings_from told (r ∷ []) ≡ told
settings_from-later told (Config c) later = absurd later
settings_from-later told (Generation n) later = absurd later
settings_from-later told (Put blocks) later = refl
settings_from-later told (Dropped cids) later = refl
settings_from-later told (Head height cids) later = refl
settings_from-later told (Base edge ended) later = refl
settings_from-later told (Start edge cids) later = absurd later
settings_from-later told (Cold cids) later = absurd later
settings_from-later told (Sealed total) later = absurd later
settings_from-later told (Copied up_to) later = absurd later
settings_from-later told (Purged up_to) later = absurd later

-- a half's first record tells no settings
no_settings : (r : Record) (c : Settings) → MayStand 0 r → settings_of (r ∷ []) ≡ Some c → ⊥
no_settings (Config d) c stands told = absurd stands
no_settings (Generation n) c stands told = cc
no_settings (Put blocks) c stands told = absurd stands
no_settings (Dropped cids) c stands told = absurd stands
no_settings (Head height cids) c stands told = absurd stands
no_settings (Base edge ended) c stands told = absurd stands
no_settings (Start edge cids) c stands told = absurd stands
no_settings (Cold cids) c stands told = absurd stands
no_settings (Sealed total) c stands told = absurd stands
no_settings (Copied up_to) c stands told = absurd stands
no_settings (Purged up_to) c stands told = absurd stands

-- after records that tell the settings a later one may stand
stands_behind : (rs : List Record) (r : Record) (c : Settings) → AreInPlace 0 rs → settings_of rs ≡ Some c → IsLater r → MayStand (length rs) r
stands_behind [] r c are told later = absurd (let differ : ⊥ = cc in differ)
stands_behind (q ∷ []) r c are told later = absurd (no_settings q c are.0.may_stand told)
stands_behind (p ∷ q ∷ rs) r c are told later = IsLater-stands (length rs) r later

pub AreInPlace-push : (n : ℕ) (rs : List Record) (r : Record) → AreInPlace n rs → IsInPlace (n + length rs) r → AreInPlace n (rs ++ r ∷ [])
AreInPlace-push n [] r are one = let none : n + 0 ≡ n = omega arith in (subst (λ (k : ℕ). IsInPlace k r) none one, tt)
AreInPlace-push n (q ∷ rs) r are one =
    let next : n + length (q ∷ rs) ≡ suc n + length rs = omega arith in
    (are.0, AreInPlace-push (suc n) rs r are.1 (subst (λ (k : ℕ). IsInPlace k r) next one))

-- the store after a record, where its log is this one
abbrev pub next : Hot → Log → Record → Hot
next store log r = record { settings = store.settings; log = log; places = places_after store.log.file store.places store.log.end r; head = head_from store.head (r ∷ []); base = base_from store.base (r ∷ []) }

pub tells_next : (store : Hot) (log : Log) (rs : List Record) (r : Record) → log.file ≡ store.log.file → Tells store rs → store.log.end ≡ length (spelled (bodies rs)) → Fits r → IsValue r → IsLater r → Tells (next store log r) (rs ++ r ∷ [])
tells_next store log rs r same tells end fits value later = record {
  in_place = AreInPlace-push 0 rs r tells.in_place (record { fits = fits; value = value; may_stand = subst (λ (k : ℕ). MayStand k r) (let same : length rs ≡ 0 + length rs = omega arith in same) (stands_behind rs r store.settings tells.in_place tells.settings later) });
  settings = settings_from-push None rs r ∙ ap (λ (s : Option Settings). settings_from s (r ∷ [])) tells.settings ∙ settings_from-later (Some store.settings) r later;
  places =
      let file = store.log.file in
      ap (λ (m : CidMap Place). places_after file m store.log.end r) tells.places ∙ ap (λ (n : ℕ). places_after file (hot_places file rs) n r) (let at : store.log.end ≡ 0 + length (spelled (bodies rs)) = omega (arith, end) in at) ∙ sym (places_from-push file finite_map.empty 0 rs r)
      ∙ ap (λ (f : ℕ). hot_places f (rs ++ r ∷ [])) (sym same);
  head = ap (λ (h : Option (ℕ × List (List ℕ))). head_from h (r ∷ [])) tells.head ∙ sym (head_from-push None rs r);
  base = ap (λ (b : ℕ × ℕ). base_from b (r ∷ [])) tells.base ∙ sym (base_from-push (0, 0) rs r);
}
