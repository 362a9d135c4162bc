-- Setting a tipset as head, by its CIDs and their blocks. Tipsets are after Filecoin; the order of refusals is this project's own.
use Rattle.std.specs.{Prelude.{◌≡◌, ℕ, ◌+◌, ◌-◌, ◌^◌, min, if◌then◌else◌, List, [], map, length, Option, None, Some, Ok, is_some, option_map, option_and_then, unwrap_or, slice_get, sum_by}, Option.option_or}
use Rattle.ss_cid.specs.Maps.{Kept}
use Rattle.ss_chain.specs.{Fetch.fetched, Steps.first_of, Tipset.{cids_fault, tipset_of, fault_in}, declared.tipset_fault.TipsetFault.TipsetFault}
use Rattle.ss_model.specs.declared.call.HeadReply.{HeadReply}

-- the CIDs, each with the bytes that it stands for
abbrev pub blocks_of : Kept → List (List ℕ) → List (List ℕ × List ℕ)
blocks_of kept cids = map (λ c. (c, unwrap_or (fetched kept c) [])) cids

-- the answer that a tipset's fault is; a count ends at the last value of its type
abbrev pub answer_of : TipsetFault → HeadReply
answer_of TipsetFault.Empty = HeadReply.Empty
answer_of (TipsetFault.TooMany n) = HeadReply.TooMany (min n (2 ^ 32 - 1))
answer_of (TipsetFault.Repeated i) = HeadReply.Repeated i
answer_of (TipsetFault.NotHeader i) = HeadReply.NotHeader i
answer_of (TipsetFault.HeightDiffers i) = HeadReply.HeightDiffers i
answer_of (TipsetFault.ParentsDiffer i) = HeadReply.ParentsDiffer i

-- the CID at place i stands for nothing
abbrev pub absent_at : Kept → List (List ℕ) → ℕ → Option HeadReply
absent_at kept cids i = option_and_then (λ c. if is_some (fetched kept c) then None else Some (HeadReply.Absent i)) (slice_get cids i)

-- what is refused before a block is read: a fault of the CIDs alone, or the first that stands for nothing
abbrev pub unread_refusal : Kept → List (List ℕ) → Option HeadReply
unread_refusal kept cids = option_or (option_map answer_of (cids_fault cids)) (first_of (absent_at kept cids) (length cids))

-- what is refused, before a block is read or behind that
abbrev pub head_refusal : Kept → List (List ℕ) → Option HeadReply
head_refusal kept cids = option_or (unread_refusal kept cids) (option_map answer_of (fault_in (tipset_of (blocks_of kept cids))))

-- the CIDs all stand for something, and their blocks are a tipset of this height
pub record IsHead (kept : Kept) (cids : List (List ℕ)) (height : ℕ) : Type 0 where
  pub known : unread_refusal kept cids ≡ None
  pub tipset : tipset_of (blocks_of kept cids) ≡ Ok height

-- the bytes of a head's record in a log: its gate, a length of four bytes, its kind, a count of one byte, a height of eight, and the CIDs
abbrev pub head_need : List (List ℕ) → ℕ
head_need cids = 15 + sum_by length cids
