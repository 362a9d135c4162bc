-- A tipset that is judged header by header.
use Rattle.std.proofs.Common.{◌≡◌, ◌⊎◌, inl, inr, ℕ, ◌+◌, ◌<◌, true, List, [], ◌∷◌, length, map, Option, Some, None, Ok, Err, refl, sym, ap, subst, ◌∙◌, true≢false}
use Rattle.std.specs.Prelude.{slice_get, is_some, option_map, unwrap_or}
use Rattle.std.proofs.lemmas.Option.{slice_get-map}
use Rattle.std.proofs.lemmas.List.{length-map}
use Rattle.ss_chain.specs.Fetch.{fetched}
use Rattle.ss_chain.specs.Steps.{first_of}
use Rattle.ss_chain.specs.Header.{HeaderFields}
use Rattle.ss_chain.specs.HeaderReading.{header_of}
use Rattle.ss_chain.specs.Tipset.{tipset_of, common_height, fault_beside, header_at, fault_in}
use Rattle.ss_chain.specs.declared.tipset_fault.TipsetFault.{TipsetFault}
use Rattle.ss_chain.specs.declared.tipset_fault.TipsetFault.TheVariants as fault
use Rattle.ss_chain.proofs.Tipsets.{wrong-first, wrong-next, height-wrong, height-is, height-none}
use Rattle.ss_model.specs.State.{Kept}
use Rattle.ss_model.specs.Head.{answer_of, blocks_of, unread_refusal, head_refusal}
use Rattle.ss_model.specs.declared.call.HeadReply.{HeadReply}
use Rattle.ss_model.specs.declared.call.HeadReply.TheVariants as head
use Rattle.ss_model.proofs.Heads.{unread_is}
use Rattle.ss_core.specs.Replies.{IsFirst, IsJudged}

-- The first block is a header of this height and these parents, and none of the blocks before place i differs from it.
pub record IsJudgedTo (kept : Kept) (cids : List (List ℕ)) (height : ℕ) (parents : List (List ℕ)) (i : ℕ) : Type 0 where
  pub some : is_some (header_at (blocks_of kept cids) 0) ≡ true
  pub first : (h : HeaderFields) → header_at (blocks_of kept cids) 0 ≡ Some h → (height ≡ h.height) × (parents ≡ h.parents)
  pub none : (h : HeaderFields) → header_at (blocks_of kept cids) 0 ≡ Some h → first_of (λ j. fault_beside h j (header_at (blocks_of kept cids) j)) i ≡ None

-- what is refused is judged
judged_err : (kept : Kept) (cids : List (List ℕ)) (r : HeadReply) → head_refusal kept cids ≡ Some r → IsJudged kept cids (Err r)
judged_err kept cids head.Empty is = is
judged_err kept cids (head.TooMany n) is = is
judged_err kept cids (head.Repeated i) is = is
judged_err kept cids (head.Absent i) is = is
judged_err kept cids head.NoMemory is = tt
judged_err kept cids (head.NotHeader i) is = is
judged_err kept cids (head.HeightDiffers i) is = is
judged_err kept cids (head.ParentsDiffer i) is = is
judged_err kept cids (head.LogFull file need room) is = is
judged_err kept cids head.DiskFault is = tt
judged_err kept cids (head.Set height) is = is

cids_are : (kept : Kept) (cids : List (List ℕ)) → map (λ b. b.0) (blocks_of kept cids) ≡ cids
cids_are kept [] = refl
cids_are kept (c ∷ cids) = ap (λ rest. c ∷ rest) (cids_are kept cids)

module _ (kept : Kept) (cids : List (List ℕ)) where
  abbrev blocks : List (List ℕ × List ℕ)
  blocks = blocks_of kept cids

  abbrev bytes : List ℕ → List ℕ
  bytes c = unwrap_or (fetched kept c) []

  block_at : (i : ℕ) (c : List ℕ) → slice_get cids i ≡ Some c → slice_get blocks i ≡ Some (c, bytes c)
  block_at i c at = slice_get-map (λ c. (c, bytes c)) cids i ∙ ap (option_map (λ c. (c, bytes c))) at

  header_there : (i : ℕ) (c block : List ℕ) → slice_get cids i ≡ Some c → block ≡ bytes c → header_at blocks i ≡ header_of c block
  header_there i c block at is = rw (block_at i c at, is) refl

  module _ (known : unread_refusal kept cids ≡ None) where
    tipset_is : tipset_of blocks ≡ common_height blocks
    unfolding tipset_of
    tipset_is = rw (cids_are kept cids, unread_is kept cids known) refl

    refuses : (f : TipsetFault) → Err f ≡ common_height blocks → head_refusal kept cids ≡ Some (answer_of f)
    refuses f is = rw (known, tipset_is) (ap (λ r. option_map answer_of (fault_in r)) (sym is))

    -- the first block is no header
    no_first : (c block : List ℕ) → slice_get cids 0 ≡ Some c → block ≡ bytes c → header_of c block ≡ None → IsJudged kept cids (Err (head.NotHeader 0))
    no_first c block at is none = refuses (fault.NotHeader 0) (height-none blocks (c, bytes c) (block_at 0 c at) (subst (λ b. header_of c b ≡ None) is none))

    pub first_fault : (c block : List ℕ) (r : HeadReply) → slice_get cids 0 ≡ Some c → block ≡ bytes c → (r ≡ head.NoMemory) ⊎ ((r ≡ head.NotHeader 0) × (header_of c block ≡ None)) → IsJudged kept cids (Err r)
    first_fault c block r at is (inl wanting) = subst (λ r. IsJudged kept cids (Err r)) (sym wanting) tt
    first_fault c block r at is (inr none) = subst (λ r. IsJudged kept cids (Err r)) (sym none.0) (no_first c block at is none.1)

    module _ (c0 : List ℕ) (start_at : slice_get cids 0 ≡ Some c0) where
      first_is : (h : HeaderFields) → header_of c0 (bytes c0) ≡ Some h → header_at blocks 0 ≡ Some h
      first_is h is = header_there 0 c0 (bytes c0) start_at refl ∙ is

      there_is : (h : HeaderFields) → header_at blocks 0 ≡ Some h → header_of c0 (bytes c0) ≡ Some h
      there_is h is = sym (header_there 0 c0 (bytes c0) start_at refl) ∙ is

      -- the first block is a header
      pub begins : (block : List ℕ) (height : ℕ) (parents : List (List ℕ)) → block ≡ bytes c0 → IsFirst height parents (header_of c0 block) → IsJudgedTo kept cids height parents 1
      begins block height parents is first = on (header_of c0 (bytes c0)) refl (subst (λ b. IsFirst height parents (header_of c0 b)) is first)
        where
          inside : (h k : HeaderFields) → Some h ≡ Some k → h ≡ k
          inside h k e = cc

          on : (found : Option HeaderFields) → header_of c0 (bytes c0) ≡ found → IsFirst height parents found → IsJudgedTo kept cids height parents 1
          on (Some h) is_first own = record {
            some = ap is_some (first_is h is_first);
            first = λ k found. subst (λ (h : HeaderFields). (height ≡ h.height) × (parents ≡ h.parents)) (inside h k (sym is_first ∙ there_is k found)) own;
            none = λ k found. wrong-first blocks k (c0, bytes c0) (block_at 0 c0 start_at) (there_is k found);
          }
          on None is_first own = absurd own

      -- another block does not differ from it
      pub goes_on : (height : ℕ) (parents : List (List ℕ)) (i : ℕ) (c block : List ℕ) → IsJudgedTo kept cids height parents i → slice_get cids i ≡ Some c → block ≡ bytes c
          → ((h : HeaderFields) → (height ≡ h.height) × (parents ≡ h.parents) → None ≡ option_map answer_of (fault_beside h i (header_of c block))) → IsJudgedTo kept cids height parents (i + 1)
      goes_on height parents i c block judged at is beside = record {
        some = judged.some;
        first = judged.first;
        none = λ h found. wrong-next blocks h i (c, bytes c) (block_at i c at) (judged.none h found) (no_fault (fault_beside h i (header_of c (bytes c))) (subst (λ b. None ≡ option_map answer_of (fault_beside h i (header_of c b))) is (beside h (judged.first h found))));
      }
        where
          no_fault : (found : Option TipsetFault) → None ≡ option_map answer_of found → found ≡ None
          no_fault None e = refl
          no_fault (Some f) e = absurd (let differ : ⊥ = cc (e) in differ)

      module _ (height : ℕ) (parents : List (List ℕ)) where
        -- a block differs from it
        differs_by : (h : HeaderFields) → header_of c0 (bytes c0) ≡ Some h → (i : ℕ) (c block : List ℕ) (r : HeadReply) → IsJudgedTo kept cids height parents i → slice_get cids i ≡ Some c → block ≡ bytes c → i < length cids
            → (found : Option TipsetFault) → fault_beside h i (header_of c block) ≡ found → Some r ≡ option_map answer_of found → IsJudged kept cids (Err r)
        differs_by h is_first i c block r judged at is below None here said = absurd (let differ : ⊥ = cc (said) in differ)
        differs_by h is_first i c block r judged at is below (Some f) here said =
            let wrong = height-wrong blocks h i (c0, bytes c0) (c, bytes c) f (block_at 0 c0 start_at) is_first (block_at i c at) (judged.none h (first_is h is_first)) (subst (λ n. i < n) (sym (length-map cids (λ c. (c, bytes c)))) below) (subst (λ b. fault_beside h i (header_of c b) ≡ Some f) is here) in
            judged_err kept cids r (refuses f wrong ∙ sym said)

        pub differs : (i : ℕ) (c block : List ℕ) (r : HeadReply) → IsJudgedTo kept cids height parents i → slice_get cids i ≡ Some c → block ≡ bytes c → i < length cids
            → ((h : HeaderFields) → (height ≡ h.height) × (parents ≡ h.parents) → Some r ≡ option_map answer_of (fault_beside h i (header_of c block))) → IsJudged kept cids (Err r)
        differs i c block r judged at is below beside = on (header_of c0 (bytes c0)) refl
          where
            on : (found : Option HeaderFields) → header_of c0 (bytes c0) ≡ found → IsJudged kept cids (Err r)
            on (Some h) is_first = differs_by h is_first i c block r judged at is below (fault_beside h i (header_of c block)) refl (beside h (judged.first h (first_is h is_first)))
            on None none = absurd (true≢false (sym judged.some ∙ ap is_some (header_there 0 c0 (bytes c0) start_at refl ∙ none)))

        -- none does
        pub ends : (i : ℕ) → IsJudgedTo kept cids height parents i → i ≡ length cids → tipset_of blocks ≡ Ok height
        ends i judged all = on (header_of c0 (bytes c0)) refl
          where
            on : (found : Option HeaderFields) → header_of c0 (bytes c0) ≡ found → tipset_of blocks ≡ Ok height
            on (Some h) is_first =
                tipset_is ∙ sym (height-is blocks h i (c0, bytes c0) (block_at 0 c0 start_at) is_first (judged.none h (first_is h is_first)) (all ∙ sym (length-map cids (λ c. (c, bytes c))))) ∙ ap (λ n. Ok n) (sym (judged.first h (first_is h is_first)).0)
            on None none = absurd (true≢false (sym judged.some ∙ ap is_some (header_there 0 c0 (bytes c0) start_at refl ∙ none)))
