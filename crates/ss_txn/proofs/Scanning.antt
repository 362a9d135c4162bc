-- One scan: a row is popped, its links are protected, and it is black, or it is put back.
use Rattle.std.proofs.Common.{◌≡◌, ◌≢◌, ℕ, false, eqb, List, [], Option, Some, sym, ap, subst, ◌∙◌}
use Rattle.std.specs.Prelude.{option_map}
use Rattle.ss_cid.specs.Cid.{codec_of}
use Rattle.ss_cid.specs.Maps.{Kept}
use Rattle.ss_chain.specs.Fetch.{IsFetched}
use Rattle.ss_chain.specs.Follows.{followed}
use Rattle.ss_chain.specs.declared.fetched.Fetched.TheVariants.{Found}
use Rattle.ss_marks.specs.declared.colour.Colour.TheVariants.{White, Grey, Out, Black}
use Rattle.ss_marks.specs.Marks.{Mark, MarkTable, mark_of, row_of, coloured, IsLive, IsColoured, NoneIs, Recolours}
use Rattle.ss_marks.proofs.Using.{coloured_here}
use Rattle.ss_txn.specs.declared.scan_reply.ScanReply.{ScanReply}
use Rattle.ss_txn.specs.declared.scan_reply.ScanReply.TheVariants.{Scanned, NothingGrey, Fault, NoMemory}
use Rattle.ss_txn.specs.Marked.{Marked}
use Rattle.ss_txn.specs.Marked.{KeepsRows, Protects, Scans, ScanDid, AreFollowed}
use Rattle.ss_txn.proofs.Following.{found_links, without_links}
use Rattle.ss_txn.proofs.Protections.{protects_none}
use Rattle.ss_txn.proofs.Marking.{row_in, blackens_marked, blackens_rows}
use Rattle.ss_txn.proofs.Blackening.{blackens_popped, popped_stays, put_back_same, coloured_by}

-- the row of this CID was grey, and is out
pub record Popped (cid : List ℕ) (row : ℕ) (old popped : MarkTable) : Type 0 where
  pub was : mark_of old cid ≡ Some (record { row = row; colour = Grey })
  pub is : popped ≡ coloured old cid row Out

out_here : (row : ℕ) (old popped : MarkTable) (p : Recolours old popped row Grey Out) → mark_of popped p.cid ≡ Some (record { row = row; colour = Out })
out_here row old popped p = ap (λ t. mark_of t p.cid) p.now ∙ coloured_here old p.cid row Out

-- the row that was popped, by the CID that it tells
pub popped_of : (cid : List ℕ) (row : ℕ) (old popped : MarkTable) → Recolours old popped row Grey Out
    → ((c : List ℕ) → row_of popped c ≡ Some row → c ≡ cid) → Popped cid row old popped
popped_of cid row old popped p only =
    let same : p.cid ≡ cid = only p.cid (ap row_in (out_here row old popped p)) in
    record {
      was = subst (λ (c : List ℕ). mark_of old c ≡ Some (record { row = row; colour = Grey })) same p.was;
      is = subst (λ (c : List ℕ). popped ≡ coloured old c row Out) same p.now;
    }

pub popped_live : (row : ℕ) (old popped : MarkTable) → Recolours old popped row Grey Out → IsLive popped row
popped_live row old popped p = record { cid = p.cid; is = ap row_in (out_here row old popped p) }

-- What the block of a CID is followed to became protected.
pub record ProtectsFrom (edge : ℕ) (told : Option Kept) (cid : List ℕ) (old new : MarkTable) : Type 0 where
  pub links : List (List ℕ)
  pub protects : Protects edge links old new
  pub followed : (kept : Kept) → told ≡ Some kept → AreFollowed edge kept cid links

module _ (edge : ℕ) (told : Option Kept) (cid : List ℕ) (old new : MarkTable) where
  -- by a block that was fetched
  pub from_found : (block bytes : List ℕ) → IsFetched told cid (Found block) → bytes ≡ block → Protects edge (followed edge cid bytes) old new → ProtectsFrom edge told cid old new
  from_found block bytes found is protects = record { links = followed edge cid bytes; protects = protects; followed = λ kept told_is. subst (λ (b : List ℕ). AreFollowed edge kept cid (followed edge cid b)) (sym is) (found_links edge kept cid told block found told_is) }

  -- by none, where it has no links
  pub from_none : eqb (codec_of cid) 0x71 ≡ false → new ≡ old → ProtectsFrom edge told cid old new
  from_none other same = subst (λ (m : MarkTable). ProtectsFrom edge told cid old m) (sym same) (record { links = []; protects = protects_none edge old; followed = λ kept _. without_links edge kept cid other })

module _ (edge : ℕ) (told : Option Kept) (cid : List ℕ) (row : ℕ) (old popped : MarkTable) (p : Popped cid row old popped) where
  module _ (mid : MarkTable) (f : ProtectsFrom edge told cid popped mid) where
    read_out : mark_of mid cid ≡ Some (record { row = row; colour = Out })
    read_out = popped_stays edge f.links cid row old popped mid p.is f.protects

    -- it can be blackened once its links are protected
    pub out_when_read : IsColoured mid row Out
    out_when_read = coloured_by mid cid row Out read_out

    pub scans_by : (new : MarkTable) → ((c : List ℕ) → row_of mid c ≡ Some row → new ≡ coloured mid c row Black) → Scans edge told old new
    scans_by new black = record {
      cid = cid;
      row = row;
      links = f.links;
      blackens = blackens_popped edge f.links cid row old popped mid new p.was p.is f.protects (black cid (ap row_in read_out));
      followed = f.followed;
    }

  unread_out : mark_of popped cid ≡ Some (record { row = row; colour = Out })
  unread_out = ap (λ t. mark_of t cid) p.is ∙ coloured_here old cid row Out

  -- and put back if they are not
  pub out_when_unread : IsColoured popped row Out
  out_when_unread = coloured_by popped cid row Out unread_out

  pub unscanned_by : (new : MarkTable) → ((c : List ℕ) → row_of popped c ≡ Some row → new ≡ coloured popped c row Grey) → (NoneIs Grey old → ⊥) × (new ≡ old)
  unscanned_by new back = (
    λ none. none cid (ap (option_map (λ (mark : Mark). mark.colour)) p.was),
    put_back_same cid row old popped new p.was p.is (back cid (ap row_in unread_out)),
  )

grey_is_not_white : Grey ≢ White
grey_is_not_white e = absurd (cc)

-- whatever a scan answers, what holds of the marks is kept
pub scan_marked : (edge : ℕ) (told : Option Kept) (old new : MarkTable) (reply : ScanReply) → ScanDid edge told old new reply
    → (kept : Kept) (roots : List (List ℕ)) → told ≡ Some kept → Marked edge kept roots old → Marked edge kept roots new
scan_marked edge told old new Scanned s kept roots is m = blackens_marked edge kept roots old new Grey grey_is_not_white s.cid s.row s.links s.blackens (s.followed kept is) m
scan_marked edge told old new NothingGrey (none, same) kept roots is m = subst (λ t. Marked edge kept roots t) (sym same) m
scan_marked edge told old new Fault (some, same) kept roots is m = subst (λ t. Marked edge kept roots t) (sym same) m
scan_marked edge told old new NoMemory (some, same) kept roots is m = subst (λ t. Marked edge kept roots t) (sym same) m

-- nor are rows changed
pub scan_rows : (edge : ℕ) (told : Option Kept) (old new : MarkTable) (reply : ScanReply) → ScanDid edge told old new reply → KeepsRows old new
scan_rows edge told old new Scanned s = blackens_rows edge Grey s.cid s.row s.links old new s.blackens
scan_rows edge told old new NothingGrey (none, same) = λ q. ap (λ t. row_of t q) same
scan_rows edge told old new Fault (some, same) = λ q. ap (λ t. row_of t q) same
scan_rows edge told old new NoMemory (some, same) = λ q. ap (λ t. row_of t q) same
