-- The links of a block, and block headers, as Filecoin has them: an array of the 16 items Miner, Ticket, ElectionProof, BeaconEntries,
-- WinPoStProof, Parents, ParentWeight, Height, ParentStateRoot, ParentMessageReceipts, Messages, BLSAggregate,
-- Timestamp, BlockSig, ForkSignaling, ParentBaseFee. Which blocks count as headers is this project's own: those whose
-- CID is dag-cbor, whose Parents are an array of links alone, whose Height is a number below 2 ^ 63 and whose
-- ParentStateRoot, ParentMessageReceipts and Messages are links. Any item may stand in the other places.
use Rattle.std.specs.Prelude.{◌≡◌, ℕ, ◌<◌, ◌^◌, List, ◌∷◌, ◌++◌, map, length, ◌==◌, if◌then◌else◌, []}
use Rattle.ss_cid.specs.Cid.{codec_of}
use Rattle.ss_cbor.specs.{Item.{uint, array, link, head, IsPart, Items, AreParts}, Fault.scanned, Reading.or_none}
use Rattle.ss_chain.specs.declared.chain_header.Header.{Header}

-- the links of bytes that are one item, in order of bytes; other bytes have none
unfoldable pub item_links : List ℕ → List (List ℕ)
item_links bytes = or_none (scanned bytes)

-- the links of a block: those of its item, if its codec is dag-cbor
unfoldable pub links_in : List ℕ → List ℕ → List (List ℕ)
links_in cid block = if codec_of cid == 0x71 then item_links block else []

-- what is read of a header
pub record HeaderFields : Type 0 where
  pub height : ℕ
  pub parents : List (List ℕ)
  pub state : List ℕ
  pub receipts : List ℕ
  pub messages : List ℕ

-- the bytes are so many items one after another
abbrev pub AreItems : ℕ → List ℕ → Type 0
AreItems n bytes = (links : List (List ℕ)) × Items n bytes links

-- The block is a header with these fields. Each field here is the bytes of that item, or of five items.
pub record IsHeader (cid block : List ℕ) (header : HeaderFields) : Type 0 where
  pub miner_to_proof : List ℕ
  pub parents : List ℕ
  pub weight : List ℕ
  pub height : List ℕ
  pub state : List ℕ
  pub receipts : List ℕ
  pub messages : List ℕ
  pub aggregate_to_fee : List ℕ
  pub spelled : block ≡ head 4 16 ++ (miner_to_proof ++ (parents ++ (weight ++ (height ++ (state ++ (receipts ++ (messages ++ aggregate_to_fee)))))))
  pub is_dag_cbor : codec_of cid ≡ 0x71
  pub first_five : AreItems 5 miner_to_proof
  pub has_parents : AreParts parents (array (length header.parents) ∷ map link header.parents)
  pub has_weight : AreItems 1 weight
  pub has_height : IsPart height (uint header.height)
  pub height_fits : header.height < 2 ^ 63
  pub has_state : IsPart state (link header.state)
  pub has_receipts : IsPart receipts (link header.receipts)
  pub has_messages : IsPart messages (link header.messages)
  pub last_five : AreItems 5 aggregate_to_fee

-- the fields of a header that was read
abbrev pub fields : Header → HeaderFields
fields h = record { height = h.height; parents = item_links h.above.now; state = h.state; receipts = h.receipts; messages = h.messages }
