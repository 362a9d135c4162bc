-- Which CIDs are protected: marking has reached all that has to stay for their sake. And what holds of the marks of a running
-- transaction between any two calls: tri-colour marking, in which no black block is followed to a white one; and what calls do to them.
use Rattle.std.specs.Prelude.{◌≡◌, ℕ, Bool, List, Contains, Some, is_some, ◌≢◌, true, false, [], ◌∷◌, None, ◌↔◌, ◌≤◌, Option, option_map}
use Rattle.ss_cid.specs.{Maps.Kept, Cid.digest_of}
use Rattle.ss_chain.specs.{Reach.{LeadsTo, Reach}, Fetch.is_identity, Follows.followed}
use Rattle.ss_marks.specs.{Marks.{MarkTable, row_of, colour_of, NoneIs, Mark, mark_of, whitened}, declared.colour.Colour.Colour}
use Rattle.ss_txn.specs.declared.scan_reply.ScanReply.{ScanReply}
use Rattle.std.specs.FinMap as finite_map

-- no stored blocks, so that nothing but identity CIDs has a block
abbrev pub none_kept : Kept
none_kept = finite_map.empty

-- the CID has no white row
abbrev pub IsNotWhite : MarkTable → List ℕ → Type 0
IsNotWhite marks cid = colour_of marks cid ≢ Some Colour.White

-- No white row is reached from the CID by way of identity CIDs alone.
abbrev pub Protected : ℕ → MarkTable → List ℕ → Type 0
Protected edge marks cid = (to : List ℕ) → Reach edge none_kept (cid ∷ []) to → IsNotWhite marks to

-- ---- the same by cases, where no identity CID has a row

-- the CID has a row, which is shaded: it is grey, out or black
pub record IsShaded (marks : MarkTable) (cid : List ℕ) : Type 0 where
  pub colour : Colour
  pub is : colour_of marks cid ≡ Some colour
  pub not_white : colour ≢ Colour.White

-- A stored CID is protected if it is shaded, an identity CID if all that it is followed to is, and a CID that is neither always.
pub data ByCases (edge : ℕ) (marks : MarkTable) : List ℕ → Type 0 where
  shaded : {cid : List ℕ} → IsShaded marks cid → ByCases edge marks cid
  identity : {cid : List ℕ} → is_identity cid ≡ true → ((to : List ℕ) → Contains (followed edge cid (digest_of cid)) to → ByCases edge marks to) → ByCases edge marks cid
  neither : {cid : List ℕ} → is_identity cid ≡ false → colour_of marks cid ≡ None → ByCases edge marks cid

-- ---- the marks of a running transaction

-- there is one row for each CID of a set, and no other row
abbrev pub HasRowsOf : (List ℕ → Bool) → MarkTable → Type 0
HasRowsOf holds marks = (cid : List ℕ) → is_some (row_of marks cid) ≡ holds cid

-- so it is with the kept CIDs
abbrev pub HasRows : Kept → MarkTable → Type 0
HasRows kept marks = HasRowsOf (finite_map.contains_key kept) marks

-- The marks of a transaction with this edge, over these kept blocks, from these roots, among them what clients put or were shown since.
pub record Marked (edge : ℕ) (kept : Kept) (roots : List (List ℕ)) (marks : MarkTable) : Type 0 where
  pub rows : HasRows kept marks
  pub roots_are : (cid : List ℕ) → Contains roots cid → Protected edge marks cid
  pub black : (from to : List ℕ) → colour_of marks from ≡ Some Colour.Black → LeadsTo edge kept from to → Protected edge marks to
  pub reached : (cid : List ℕ) → IsShaded marks cid → Reach edge kept roots cid

-- no row is grey or out: all that is shaded was read
abbrev pub IsQuiet : MarkTable → Type 0
IsQuiet marks = NoneIs Colour.Grey marks × NoneIs Colour.Out marks

-- ---- what calls do to the marks, CID by CID

-- each CID has the row that it had, or none as before
abbrev pub KeepsRows : MarkTable → MarkTable → Type 0
KeepsRows old new = (cid : List ℕ) → row_of new cid ≡ row_of old cid

-- A mark stays, or goes from white to grey, which is allowed only under a condition.
pub data MayShade (condition : Type 0) (old new : Option Mark) : Type 0 where
  stays : new ≡ old → MayShade condition old new
  shades : (row : ℕ) → old ≡ Some (record { row = row; colour = Colour.White }) → new ≡ Some (record { row = row; colour = Colour.Grey }) →
      condition → MayShade condition old new

-- The row of a CID is not white afterwards, and nothing else changes.
pub record Shades (cid : List ℕ) (old new : MarkTable) : Type 0 where
  pub here : IsNotWhite new cid
  pub each : (other : List ℕ) → MayShade (other ≡ cid) (mark_of old other) (mark_of new other)
  pub same : new ≡ record old { marks = new.marks }

-- Some CIDs become protected, and nothing else changes: exactly the white rows that they reach by way of identity CIDs become grey.
pub record Protects (edge : ℕ) (cids : List (List ℕ)) (old new : MarkTable) : Type 0 where
  pub reached : (cid : List ℕ) → Reach edge none_kept cids cid → IsNotWhite new cid
  pub each : (cid : List ℕ) → MayShade (Reach edge none_kept cids cid) (mark_of old cid) (mark_of new cid)
  pub same : new ≡ record old { marks = new.marks }

-- All rows become white, and then some CIDs protected.
pub record Begins (edge : ℕ) (roots : List (List ℕ)) (old new : MarkTable) : Type 0 where
  pub reached : (cid : List ℕ) → Reach edge none_kept roots cid → IsNotWhite new cid
  pub each : (cid : List ℕ) → MayShade (Reach edge none_kept roots cid) (option_map whitened (mark_of old cid)) (mark_of new cid)
  pub same : new ≡ record old { marks = new.marks }

-- The row of this CID goes from one colour to black, what it is followed to becomes protected, and nothing else changes.
pub record Blackens (edge : ℕ) (from : Colour) (cid : List ℕ) (row : ℕ) (links : List (List ℕ)) (old new : MarkTable) : Type 0 where
  pub was : mark_of old cid ≡ Some (record { row = row; colour = from })
  pub black : mark_of new cid ≡ Some (record { row = row; colour = Colour.Black })
  pub reached : (to : List ℕ) → Reach edge none_kept links to → IsNotWhite new to
  pub others : (other : List ℕ) → other ≢ cid → MayShade (Reach edge none_kept links other) (mark_of old other) (mark_of new other)
  pub same : new ≡ record old { marks = new.marks }

-- these are the links that are followed from the block of a CID
abbrev pub AreFollowed : ℕ → Kept → List ℕ → List (List ℕ) → Type 0
AreFollowed edge kept cid links = (to : List ℕ) → Contains links to ↔ LeadsTo edge kept cid to

-- A grey row was read: it is black, by the links of its block.
pub record Scans (edge : ℕ) (told : Option Kept) (old new : MarkTable) : Type 0 where
  pub cid : List ℕ
  pub row : ℕ
  pub links : List (List ℕ)
  pub blackens : Blackens edge Colour.Grey cid row links old new
  pub followed : (kept : Kept) → told ≡ Some kept → AreFollowed edge kept cid links

-- what each answer of a scan says: NothingGrey comes exactly where no row is grey, and nothing changes but by Scanned
abbrev pub ScanDid : ℕ → Option Kept → MarkTable → MarkTable → ScanReply → Type 0
ScanDid edge told old new ScanReply.Scanned = Scans edge told old new
ScanDid edge told old new ScanReply.NothingGrey = NoneIs Colour.Grey old × (new ≡ old)
ScanDid edge told old new _ = (NoneIs Colour.Grey old → ⊥) × (new ≡ old)

-- the answer of a scan of which the blocks failed
abbrev pub IsFault : ScanReply → Type 0
IsFault reply = reply ≡ ScanReply.Fault
