-- Which links of a block are followed. That a header's parents always are, its state root from the edge on and at
-- genesis, and its receipts and messages from the edge on, is after Lotus's splitstore. That commitments are never
-- followed is this project's own.
use Rattle.std.specs.Prelude.{◌≡◌, ◌⊎◌, ◌≤◌, ℕ, ◌==◌, ◌||◌, ◌&&◌, not, nat_le, if◌then◌else◌, Bool, List, [], ◌∷◌, ◌++◌, filter, Option, Some, None, false, Contains}
use Rattle.ss_cid.specs.Cid.{codec_of}
use Rattle.ss_chain.specs.{Header.{HeaderFields, links_in}, HeaderReading.header_of}

-- the codecs fil-commitment-unsealed and fil-commitment-sealed
unfoldable pub is_commitment : List ℕ → Bool
is_commitment cid = (codec_of cid == 0xf101) || (codec_of cid == 0xf102)

abbrev pub is_followed : List ℕ → Bool
is_followed cid = not (is_commitment cid)

-- a header is followed to this CID, for an edge
pub data HeaderLeads (edge : ℕ) (h : HeaderFields) (to : List ℕ) : Type 0 where
  parent : Contains h.parents to → HeaderLeads edge h to
  state : to ≡ h.state → (edge ≤ h.height) ⊎ (h.height ≡ 0) → HeaderLeads edge h to
  receipts : to ≡ h.receipts → edge ≤ h.height → HeaderLeads edge h to
  messages : to ≡ h.messages → edge ≤ h.height → HeaderLeads edge h to

-- so is a block with these fields, if it is a header, and these links
abbrev pub Leads : ℕ → Option HeaderFields → List (List ℕ) → List ℕ → Type 0
Leads edge (Some header) links to = HeaderLeads edge header to
Leads edge None links to = Contains links to

-- the block of a CID is followed to another CID
pub record IsFollowed (edge : ℕ) (cid block to : List ℕ) : Type 0 where
  pub no_commitment : is_commitment to ≡ false
  pub leads : Leads edge (header_of cid block) (links_in cid block) to

-- ---- the CIDs that a block is followed to, in order

-- the CID, where it is to be followed
abbrev pub only_if : Bool → List ℕ → List (List ℕ)
only_if b cid = if b then cid ∷ [] else []

-- the CID as it is handed on, if it is
abbrev pub kept_link : Bool → List ℕ → Option (List ℕ)
kept_link is_due cid = if is_due && is_followed cid then Some cid else None

-- a header's links, for an edge: parents, then state root, then receipts and messages
abbrev pub header_links : ℕ → HeaderFields → List (List ℕ)
header_links edge h =
    let within = nat_le edge h.height in
    h.parents ++ (only_if (within || (h.height == 0)) h.state ++ (only_if within h.receipts ++ only_if within h.messages))

-- the links of a block whose fields are these, if it is a header
abbrev pub links_by : ℕ → Option HeaderFields → List (List ℕ) → List (List ℕ)
links_by edge (Some header) links = header_links edge header
links_by edge None links = links

-- what a block is followed to, in order: those of which `IsFollowed` holds
unfoldable pub followed : ℕ → List ℕ → List ℕ → List (List ℕ)
followed edge cid block = filter is_followed (links_by edge (header_of cid block) (links_in cid block))
