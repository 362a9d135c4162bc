-- Where the blocks of a Put lie in a file, whose number is given first; and a map from CIDs: its keys in order, and how it changes.
use Rattle.std.specs.{Prelude.{◌≡◌, ℕ, ◌+◌, ◌-◌, ◌^◌, ◌≤◌, min, Bool, true, false, List, [], ◌∷◌, length, Result, Ok, Err, Option, None, Some, filter, slice_get, refl}, Ordering.{nat_cmp, is_lt}, Cmp.Lexicographic.slice_cmp, Coded.{Coded, code_by, coded×, coded_ℕ, coded_list}}
use Rattle.ss_records.specs.{declared.fault.RecordFault.RecordFault, declared.places.BlockPlace.BlockPlace}
use Rattle.ss_store.specs.declared.place.Place.{Place}
use Rattle.std.specs.FinMap as finite_map
pub use Rattle.ss_cid.specs.Maps.{CidMap}

-- the place of a block in the file, where its record's body begins at `body`
abbrev pub placed : ℕ → ℕ → BlockPlace → List ℕ × Place
placed file body b = (b.cid, record { file = file; at = body + b.at; len = b.len })

-- The block of a CID lies in this file, ends at this offset or before, and has with its CID no more bytes than a record allows.
abbrev pub LiesBefore : ℕ → ℕ → List ℕ → Place → Type 0
LiesBefore file end cid p = (p.file ≡ file) × (p.at + p.len ≤ end) × (length cid + p.len ≤ 8388608)

-- a fault is among what was read of a Put's places
abbrev pub has_fault : List (Result BlockPlace RecordFault) → Bool
has_fault [] = false
has_fault (Ok b ∷ items) = has_fault items
has_fault (Err e ∷ items) = true

-- the place of a block, or where that is past the last offset, this offset
abbrev pub capped : ℕ → ℕ → BlockPlace → Place
capped file body b = record { file = file; at = min (body + b.at) (2 ^ 64 - 1); len = b.len }

-- the places that were read join a map
abbrev pub with_places : ℕ → ℕ → CidMap Place → List (Result BlockPlace RecordFault) → CidMap Place
with_places file body held [] = held
with_places file body held (Ok b ∷ items) = with_places file body (finite_map.insert held b.cid (capped file body b)) items
with_places file body held (Err e ∷ items) = with_places file body held items

-- the first of ascending CIDs that is greater than this one, if one is given
abbrev pub next_key : List (List ℕ) → Option (List ℕ) → Option (List ℕ)
next_key keys None = slice_get keys 0
next_key keys (Some from) = slice_get (filter (λ k. is_lt (slice_cmp nat_cmp from k)) keys) 0

-- blocks join a map, in order: a later one takes the place of an earlier one under its CID
abbrev pub with_pairs : {X : Type 0} → CidMap X → List (List ℕ × X) → CidMap X
with_pairs held [] = held
with_pairs held (p ∷ ps) = with_pairs (finite_map.insert held p.0 p.1) ps

-- CIDs leave it
abbrev pub without_cids : {X : Type 0} → CidMap X → List (List ℕ) → CidMap X
without_cids held [] = held
without_cids held (c ∷ cs) = without_cids (finite_map.remove held c) cs

-- how places, and indexes of them, are told apart
abbrev pub place_code : Coded Place
place_code =
    code_by (ℕ × (ℕ × ℕ)) (coded× coded_ℕ (coded× coded_ℕ coded_ℕ))
    (λ p. (p.file, (p.at, p.len))) (λ t. record { file = t.0; at = t.1.0; len = t.1.1 }) (λ _. refl)

abbrev pub places_code : Coded (CidMap Place)
places_code = finite_map.code (coded_list coded_ℕ) place_code
