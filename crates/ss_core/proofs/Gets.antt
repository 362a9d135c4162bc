-- What a get finds.
use Rattle.std.proofs.Common.{◌≡◌, ℕ, ◌≤◌, Bool, true, false, cond, List, length, ◌++◌, take, drop, Option, Some, None, refl, sym, ap, subst, ◌∙◌, true≢false, arith}
use Rattle.std.specs.Option.{option_or}
use Rattle.std.specs.Prelude.{◌==◌, is_some, if◌then◌else◌, option_map, Result, Ok, Err, IfOk, MatchResult}
use Rattle.std.specs.FinMap as finite_map
use Rattle.std.proofs.lemmas.List.{length-drop, take_at}
use Rattle.ss_cid.specs.Cid.{cid_head, part_of, hash_of, digest_of, identity_of}
use Rattle.ss_model.specs.State.{State, Kept}
use Rattle.ss_chain.specs.Fetch.{fetched}
use Rattle.ss_model.specs.Lawful.{LawfulGet, is_open}
use Rattle.ss_model.proofs.Kept.{fetched_is as fetched_by}
use Rattle.ss_device.specs.declared.disk.Disk.{Ghosts}
use Rattle.ss_device.specs.Calls.{LeavesFiles}
use Rattle.ss_hot.specs.Store.{Hot, SameButDoubt}
use Rattle.ss_model.specs.declared.call.Call.TheVariants as call
use Rattle.ss_model.specs.declared.call.Answer.TheVariants as answer
use Rattle.ss_core.specs.declared.split_core.SplitCore.{SplitCore}
use Rattle.ss_core.specs.Calls.{Steps}
use Rattle.ss_core.specs.Calls.{untouched, get_use, use_of, grown_by}
use Rattle.ss_core.specs.Replies.{held_len, len_of, HasLen}
use Rattle.ss_core.specs.StandsFor.{Doubt, no_doubt, StandsFor, HasEitherState}
use Rattle.ss_core.specs.LogFiles.{log_files}
use Rattle.ss_core.proofs.Idle.{IsIdle, idle, unwritten, doubts_none, doubts_same, stands_still}
use Rattle.ss_model.specs.declared.call.GetReply.{GetReply}
use Rattle.ss_model.specs.declared.call.GetReply.TheVariants as get

-- an identity CID stands for its digest, of which a copy was made or not
pub digest_lawful : {E : Type 0} (s : State) (v : ℕ) (c digest : List ℕ) (copy : Result (List ℕ) E) (r : GetReply) → is_open s v ≡ true → Some digest ≡ identity_of c → IfOk copy (λ b. b ≡ digest) → MatchResult copy (λ b. r ≡ get.Found b) (λ _. r ≡ get.NoMemory) → LawfulGet s v c r
digest_lawful s v c digest (Ok b) r opened id copied is =
    subst (LawfulGet s v c) (sym is) (opened, fetched_by s.kept c ∙ ap (λ i. option_or i (finite_map.get s.kept c)) (sym id) ∙ ap Some (sym copied))
digest_lawful s v c digest (Err e) r opened id copied is =
    subst (LawfulGet s v c) (sym is) (opened, ap is_some (fetched_by s.kept c) ∙ ap (λ i. is_some (option_or i (finite_map.get s.kept c))) (sym id))

-- another CID stands for what is kept under it
pub fetched_is : (kept : Kept) (c : List ℕ) → None ≡ identity_of c → fetched kept c ≡ finite_map.get kept c
fetched_is kept c none = fetched_by kept c ∙ ap (λ i. option_or i (finite_map.get kept c)) (sym none)

-- a digest is no longer than its CID
pub digest_short : (c : List ℕ) → length (digest_of c) ≤ length c
unfolding digest_of
digest_short c = omega (arith, length-drop (part_of (λ head. head.digest_at) (cid_head c)) c)

pub identity_short : (c d : List ℕ) → Some d ≡ identity_of c → length d ≤ length c
unfolding identity_of
identity_short c d is = go (hash_of c == 0) is
  where
    go : (b : Bool) → Some d ≡ cond b (Some (digest_of c)) None → length d ≤ length c
    go true e = let same : d ≡ digest_of c = cc (e) in omega (arith, ap (λ (l : List ℕ). length l) same, digest_short c)
    go false e = absurd (let differ : ⊥ = cc (e) in differ)

-- what is not there is none
pub none_there : {X : Type 0} (found : Option X) → false ≡ is_some found → found ≡ None
none_there None e = refl
none_there (Some x) e = absurd (true≢false (sym e))

-- an answer that does not hang on what is looked up is idle, where it is whatever the CID
idle_get : (id : Option (List ℕ)) (r : GetReply) → IsIdle (get_use r) → IsIdle (if is_some id then untouched else get_use r)
idle_get None r is = is
idle_get (Some d) r is = record { settles = refl; stands = refl; roomy = refl }

nought : (b : Bool) → ◌≡◌ {A = ℕ} (if b then 0 else 0) 0
nought true = refl
nought false = refl

-- a buffer of which the whole was written
pub refilled : (items out bytes : List ℕ) (n : ℕ) → length out ≡ n → bytes ≡ take n (out ++ drop (length out) items) → bytes ≡ out
refilled items out bytes n whole is = is ∙ take_at out _ n whole

module _ {D : Type 0} (disk : Ghosts D) (s : State) (doubt : Doubt) (v : ℕ) (c : List ℕ) where
  module _ (old new : SplitCore D disk) (same : new.disk ≡ old.disk) (same_hot : new.hot ≡ old.hot) (viewed : new.views ≡ old.views) (stands : StandsFor old s doubt) where
    after : StandsFor new s doubt
    after = stands_still disk old new s doubt same same_hot stands viewed

    pub bad_view : is_open s v ≡ false → Steps old new s doubt (call.Get v c) (answer.Get get.BadView)
    bad_view not_open = idle disk old new s doubt (call.Get v c) (answer.Get get.BadView) same same_hot (idle_get (identity_of c) get.BadView (record { settles = refl; stands = refl; roomy = refl })) stands not_open after

    pub not_found : is_open s v ≡ true → fetched s.kept c ≡ None → Steps old new s doubt (call.Get v c) (answer.Get get.NotFound)
    not_found opened none = idle disk old new s doubt (call.Get v c) (answer.Get get.NotFound) same same_hot (idle_get (identity_of c) get.NotFound (record { settles = refl; stands = refl; roomy = refl })) stands (opened, none) after

    pub no_memory : is_open s v ≡ true → is_some (fetched s.kept c) ≡ true → Steps old new s doubt (call.Get v c) (answer.Get get.NoMemory)
    no_memory opened there = idle disk old new s doubt (call.Get v c) (answer.Get get.NoMemory) same same_hot (idle_get (identity_of c) get.NoMemory (record { settles = refl; stands = refl; roomy = refl })) stands (opened, there) after

    pub own_digest : (digest : List ℕ) (r : GetReply) → Some digest ≡ identity_of c → LawfulGet s v c r → Steps old new s doubt (call.Get v c) (answer.Get r)
    own_digest digest r id lawful =
        idle disk old new s doubt (call.Get v c) (answer.Get r) same same_hot (subst (λ (i : Option (List ℕ)). IsIdle (if is_some i then untouched else get_use r)) id (record { settles = refl; stands = refl; roomy = refl })) stands lawful after

  -- a block that is not its CID's own is looked up
  module _ (none : None ≡ identity_of c) (old new : SplitCore D disk) (same : SameButDoubt old.hot new.hot) (leaves : LeavesFiles disk log_files (HasEitherState s doubt) old.disk new.disk) (opened : is_open s v ≡ true) where
    looked : (r : GetReply) → use_of (call.Get v c) (answer.Get r) ≡ get_use r
    looked r = ap (λ i. if is_some i then untouched else get_use r) (sym none)

    -- no record is of a get
    none_written : (r : GetReply) → grown_by s (call.Get v c) (answer.Get r) ≡ 0
    none_written r = nought (use_of (call.Get v c) (answer.Get r)).stands

    is_there : is_some (finite_map.get s.kept c) ≡ true → is_some (fetched s.kept c) ≡ true
    is_there there = ap is_some (fetched_is s.kept c none) ∙ there

    -- the log could not be settled
    pub not_settled : is_some (finite_map.get s.kept c) ≡ true → StandsFor new s doubt → Steps old new s doubt (call.Get v c) (answer.Get get.DiskFault)
    not_settled there still =
        unwritten disk old new s doubt doubt (call.Get v c) (answer.Get get.DiskFault) (get_use get.DiskFault) (looked get.DiskFault) (none_written get.DiskFault) (λ had. omega arith) (doubts_same (get_use get.DiskFault) _ doubt refl) (ap (λ (h : Hot). h.log.end) same) leaves (opened, is_there there, sym none) still

    pub is_found : (block : List ℕ) → finite_map.get s.kept c ≡ Some block → StandsFor new s no_doubt → Steps old new s doubt (call.Get v c) (answer.Get (get.Found block))
    is_found block there settled =
        unwritten disk old new s doubt no_doubt (call.Get v c) (answer.Get (get.Found block)) (get_use (get.Found block)) (looked (get.Found block)) (none_written (get.Found block)) (λ had. omega arith) (doubts_none (get_use (get.Found block)) _ doubt refl) (ap (λ (h : Hot). h.log.end) same) leaves
        (opened, fetched_is s.kept c none ∙ there) settled

    pub is_not_read : is_some (finite_map.get s.kept c) ≡ true → StandsFor new s no_doubt → Steps old new s doubt (call.Get v c) (answer.Get get.DiskFault)
    is_not_read there settled =
        unwritten disk old new s doubt no_doubt (call.Get v c) (answer.Get get.DiskFault) (get_use get.DiskFault) (looked get.DiskFault) (none_written get.DiskFault) (λ had. omega arith) (doubts_none (get_use get.DiskFault) _ doubt refl) (ap (λ (h : Hot). h.log.end) same) leaves (opened, is_there there, sym none) settled

-- ---- how many bytes are found, over any disk

-- an identity CID's block has the length of its digest
pub own_len : {D : Type 0} {disk : Ghosts D} (core : SplitCore D disk) (c digest : List ℕ) → Some digest ≡ identity_of c → Some (length digest) ≡ len_of core c
own_len core c digest id = ap (λ i. option_or (option_map length i) (held_len core c)) id

-- another's that of its place
pub place_len : {D : Type 0} {disk : Ghosts D} (core : SplitCore D disk) (c : List ℕ) → None ≡ identity_of c → held_len core c ≡ len_of core c
place_len core c none = ap (λ i. option_or (option_map length i) (held_len core c)) none

-- so has a copy of the digest
pub digest_len : {D E : Type 0} {disk : Ghosts D} (core : SplitCore D disk) (c digest : List ℕ) (copy : Result (List ℕ) E) (r : GetReply) → Some digest ≡ identity_of c → IfOk copy (λ b. b ≡ digest) → MatchResult copy (λ b. r ≡ get.Found b) (λ _. r ≡ get.NoMemory) → HasLen (len_of core c) r
digest_len core c digest (Ok b) r id copied is =
    subst (HasLen (len_of core c)) (sym is) (sym (own_len core c digest id) ∙ ap (λ (d : List ℕ). Some (length d)) (sym copied))
digest_len core c digest (Err e) r id copied is = subst (HasLen (len_of core c)) (sym is) tt
