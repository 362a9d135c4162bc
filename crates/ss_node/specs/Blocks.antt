-- What a call over a set of blocks may answer for a node, and what it leaves of the set.
use Rattle.std.specs.Prelude.{◌≡◌, ◌≢◌, ℕ, Bool, true, false, List, Option, Some, None, Result, Ok, Err, ⊤}
use Rattle.ss_cid.specs.{Cid.{codec_of, digest_of}, Maps.Kept}
use Rattle.ss_chain.specs.{Fetch.{fetched, is_identity, is_known}, declared.blocks.Blocks.Ghosts}
use Rattle.ss_device.specs.Faults.{CountsFault}
use Rattle.ss_node.specs.declared.fault.NodeFault.{NodeFault}

-- what is known of a set of blocks: which CIDs have one in it, and the bytes of all where it exposes them
pub record Held : Type 0 where
  pub holds : List ℕ → Bool
  pub told : Option Kept

abbrev pub held_by : {B : Type 0} → Ghosts B → B → Held
held_by blocks b = record { holds = blocks.holds b; told = blocks.told b }

-- A fetch of the CID may find this block: the one of the map that is exposed, and in any case the digest of an identity CID.
pub record IsBlock (held : Held) (cid block : List ℕ) : Type 0 where
  pub known : is_known held.holds cid ≡ true
  pub told : (kept : Kept) → held.told ≡ Some kept → fetched kept cid ≡ Some block
  pub digest : is_identity cid ≡ true → block ≡ digest_of cid

-- What is found where the node of a CID is read: a block under dag-cbor. It is bad under another codec, and missing where it has no block.
abbrev pub FindsBlock : Held → List ℕ → Result (List ℕ) NodeFault → Type 0
FindsBlock held cid (Ok block) = (codec_of cid ≡ 0x71) × IsBlock held cid block
FindsBlock held cid (Err (NodeFault.Missing missing)) = (missing ≡ cid) × (codec_of cid ≡ 0x71) × (is_known held.holds cid ≡ false)
FindsBlock held cid (Err (NodeFault.BadNode bad)) = (bad ≡ cid) × (codec_of cid ≢ 0x71)
FindsBlock held cid (Err _) = ⊤

-- The node that a CID names, which `read` reads from its block, or why it names none.
pub data Names {N : Type 0} (held : Held) (read : List ℕ → Option N) (cid : List ℕ) : Result N NodeFault → Type 0 where
  node : (block : List ℕ) (n : N) → codec_of cid ≡ 0x71 → IsBlock held cid block → read block ≡ Some n → Names held read cid (Ok n)
  bad : (block : List ℕ) → codec_of cid ≡ 0x71 → IsBlock held cid block → read block ≡ None → Names held read cid (Err (NodeFault.BadNode cid))
  foreign : codec_of cid ≢ 0x71 → Names held read cid (Err (NodeFault.BadNode cid))
  missing : codec_of cid ≡ 0x71 → is_known held.holds cid ≡ false → Names held read cid (Err (NodeFault.Missing cid))

-- the answer is of this kind, unless memory or the blocks failed
abbrev pub Answers : {T : Type 0} → (Result T NodeFault → Type 0) → Result T NodeFault → Type 0
Answers P (Err NodeFault.Fault) = ⊤
Answers P (Err NodeFault.NoMemory) = ⊤
Answers P answer = P answer

-- A call over blocks: the set stays, and the count of faults rises exactly where the answer is the blocks' fault.
pub record Visits {B T : Type 0} (blocks : Ghosts B) (old new : B) (answer : Result T NodeFault) : Type 0 where
  pub holds : blocks.holds new ≡ blocks.holds old
  pub told : blocks.told new ≡ blocks.told old
  pub place : blocks.place new ≡ blocks.place old
  pub cause : CountsFault NodeFault.Fault (blocks.faults old) (blocks.faults new) answer
