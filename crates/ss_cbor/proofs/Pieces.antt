-- Heads with their content: what is read is spelled so.
use Rattle.std.proofs.Common.{◌≡◌, ◌≢◌, ℕ, ◌+◌, ◌-◌, ◌*◌, ◌/◌, ◌%◌, ◌^◌, ◌<◌, ◌≤◌, true, false, eqb, ltb, List, [], ◌∷◌, ◌++◌, length, take, drop, Option, Some, None, Result, Ok, refl, sym, ap, ◌∙◌, append_assoc, arith, inl, inr}
use Rattle.std.specs.Prelude.{IfSome}
use Rattle.std.proofs.lemmas.Bool.{ltb-true, ltb-false, eqb-true, eqb-false}
use Rattle.std.proofs.lemmas.List.{append-nil, take-append-drop, length-take-le}
use Rattle.ss_cid.proofs.Chains.{bind-Ok, guard-Ok, chosen-Ok, Ok-same}
use Rattle.ss_cid.specs.Steps.{◌>>=◌}
use Rattle.ss_cbor.specs.Item.{Part, uint, nint, blob, text, array, map, float, bool, null, head, items_in, IsPart}
use Rattle.ss_cbor.specs.Reading.{argument_at, bytes_at, holding, content_at, simple_at, piece_at}
use Rattle.ss_cbor.specs.declared.fault.CborFault.{CborFault}
use Rattle.ss_cbor.specs.declared.fault.CborKind.TheVariants.{Truncated, CountTooLarge, OtherTag, BadSimple}
use Rattle.ss_cbor.proofs.Numbers.{IsBytes, IsBytes-drop, IsBytes-rest, Takes}
use Rattle.ss_cbor.proofs.Heads.{choose, argument_takes}

-- the bytes spell the part, or they are the head of tag 42
abbrev pub IsPiece : List ℕ → Option Part → Type 0
IsPiece bytes (Some part) = IsPart bytes part
IsPiece bytes None = bytes ≡ head 6 42

-- the items in a part fit with those behind it
abbrev pub Fits : ℕ → Option Part → Type 0
Fits due piece = IfSome piece (λ part. due + items_in part < 2 ^ 63)

-- what was read behind a front that is spelled already
pub record TakesPiece (due : ℕ) (front bytes : List ℕ) (x : Option Part × List ℕ) : Type 0 where
  pub content : List ℕ
  pub takes : Takes bytes content x.1
  pub is : IsPiece (front ++ content) x.0
  pub fits : Fits due x.0

pub record TakesBytes (len : ℕ) (bytes : List ℕ) (x : List ℕ × List ℕ) : Type 0 where
  pub takes : Takes bytes x.0 x.1
  pub long : length x.0 ≡ len

pub bytes_takes : (len end : ℕ) (bytes : List ℕ) (x : List ℕ × List ℕ) → IsBytes bytes → bytes_at len end bytes ≡ Ok x → TakesBytes len bytes x
unfolding bytes_at
bytes_takes len end bytes x fits h =
    let long = guard-Ok (ltb (length bytes) len) (record { kind = Truncated; at = end }) (Ok (take len bytes, drop len bytes)) x h in
    let is : (take len bytes, drop len bytes) ≡ x = Ok-same long.1 in
    let enough : len ≤ length bytes = ltb-false _ _ long.0 in
    rw (← is) (record {
      takes = record { parts = sym (take-append-drop len bytes); fits = IsBytes-drop len bytes fits };
      long = length-take-le len bytes enough;
    })

module _ (due : ℕ) (front bytes : List ℕ) (x : Option Part × List ℕ) (room : due < 2 ^ 63) (fits : IsBytes bytes) where
  -- a part with no content
  takes_alone : (part : Part) → IsPart front part → items_in part ≡ 0 → ◌≡◌ {A = Result (Option Part × List ℕ) CborFault} (Ok (Some part, bytes)) (Ok x) → TakesPiece due front bytes x
  takes_alone part is none h = rw (← (Ok-same h)) (record {
    content = [];
    takes = record { parts = refl; fits = fits };
    is = rw append-nil is;
    fits = omega (arith, none);
  })

  takes_tag : front ≡ head 6 42 → ◌≡◌ {A = Result (Option Part × List ℕ) CborFault} (Ok (None, bytes)) (Ok x) → TakesPiece due front bytes x
  takes_tag is h = rw (← (Ok-same h)) (record {
    content = [];
    takes = record { parts = refl; fits = fits };
    is = rw append-nil is;
    fits = tt;
  })

  -- a part whose content has a length
  takes_long : (len end : ℕ) (make : List ℕ → Part) → ((b : List ℕ) → length b ≡ len → IsPart (front ++ b) (make b)) → ((b : List ℕ) → items_in (make b) ≡ 0) →
      (bytes_at len end bytes >>= λ y. Ok (Some (make y.0), y.1)) ≡ Ok x → TakesPiece due front bytes x
  takes_long len end make is none h =
      let y = bind-Ok (bytes_at len end bytes) _ x h in
      let t = bytes_takes len end bytes y.0 fits y.1 in
      rw (← (Ok-same y.2)) (record {
        content = y.0.0;
        takes = t.takes;
        is = is y.0.0 t.long;
        fits = omega (arith, none y.0.0);
      })

  takes_holding : (part : Part) (at : ℕ) → IsPart front part → holding part due at bytes ≡ Ok x → TakesPiece due front bytes x
  unfolding holding
  takes_holding part at is h =
      let c = chosen-Ok (ltb (due + items_in part) (2 ^ 63)) (record { kind = CountTooLarge; at = at }) (Ok (Some part, bytes)) x h in
      let lt : due + items_in part < 2 ^ 63 = ltb-true _ _ c.0 in
      rw (← (Ok-same c.1)) (record {
        content = [];
        takes = record { parts = refl; fits = fits };
        is = rw append-nil is;
        fits = lt;
      })

six : (major : ℕ) → major ≤ 6 → major ≢ 0 → major ≢ 1 → major ≢ 2 → major ≢ 3 → major ≢ 4 → major ≢ 5 → major ≡ 6
six major le a b c d e f = omega arith

-- the content that stands behind a head
pub content_takes : (major n due at end : ℕ) (bytes : List ℕ) (x : Option Part × List ℕ) → major ≤ 6 → n < 2 ^ 64 → due < 2 ^ 63 → IsBytes bytes →
    content_at major n due at end bytes ≡ Ok x → TakesPiece due (head major n) bytes x
unfolding content_at
content_takes major n due at end bytes x le small room fits h =
    let front = head major n in
    elim (choose (eqb major 0) _ _ _ h) [
      | inl p ↦ takes_alone due front bytes x room fits (uint n) (small, ap (λ m. head m n) (eqb-true _ _ p.0)) refl p.1
      | inr a ↦ elim (choose (eqb major 1) _ _ _ a.1) [
        | inl p ↦ takes_alone due front bytes x room fits (nint n) (small, ap (λ m. head m n) (eqb-true _ _ p.0)) refl p.1
        | inr b ↦ elim (choose (eqb major 2) _ _ _ b.1) [
          | inl p ↦ takes_long due front bytes x room fits n end blob (λ c len. (omega arith, rw (eqb-true _ _ p.0, len) refl)) (λ c. refl) p.1
          | inr c ↦ elim (choose (eqb major 3) _ _ _ c.1) [
            | inl p ↦ takes_long due front bytes x room fits n end text (λ c len. (omega arith, rw (eqb-true _ _ p.0, len) refl)) (λ c. refl) p.1
            | inr d ↦ elim (choose (eqb major 4) _ _ _ d.1) [
              | inl p ↦ takes_holding due front bytes x room fits (array n) at (small, ap (λ m. head m n) (eqb-true _ _ p.0)) p.1
              | inr e ↦ elim (choose (eqb major 5) _ _ _ e.1) [
                | inl p ↦ takes_holding due front bytes x room fits (map n) at (small, ap (λ m. head m n) (eqb-true _ _ p.0)) p.1
                | inr f ↦
                    let tag = chosen-Ok (eqb n 42) (record { kind = OtherTag; at = at }) (Ok (None, bytes)) x f.1 in
                    let last : major ≡ 6 = six major le (eqb-false _ _ a.0) (eqb-false _ _ b.0) (eqb-false _ _ c.0) (eqb-false _ _ d.0) (eqb-false _ _ e.0) (eqb-false _ _ f.0) in
                    takes_tag due front bytes x room fits (rw (last, eqb-true _ _ tag.0) refl) tag.1
              ]
            ]
          ]
        ]
      ]
    ]

pub simple_takes : (byte due at end : ℕ) (bytes : List ℕ) (x : Option Part × List ℕ) → due < 2 ^ 63 → IsBytes bytes →
    simple_at byte at end bytes ≡ Ok x → TakesPiece due (byte ∷ []) bytes x
unfolding simple_at
simple_takes byte due at end bytes x room fits h =
    let front : List ℕ = byte ∷ [] in
    elim (choose (eqb byte 0xf4) _ _ _ h) [
      | inl p ↦ takes_alone due front bytes x room fits (bool false) (rw (eqb-true _ _ p.0) refl) refl p.1
      | inr a ↦ elim (choose (eqb byte 0xf5) _ _ _ a.1) [
        | inl p ↦ takes_alone due front bytes x room fits (bool true) (rw (eqb-true _ _ p.0) refl) refl p.1
        | inr b ↦ elim (choose (eqb byte 0xf6) _ _ _ b.1) [
          | inl p ↦ takes_alone due front bytes x room fits null (rw (eqb-true _ _ p.0) refl) refl p.1
          | inr c ↦
              let f = chosen-Ok (eqb byte 0xfb) (record { kind = BadSimple; at = at }) _ x c.1 in
              takes_long due front bytes x room fits 8 end (λ b. float) (λ v len. (v, len, rw (eqb-true _ _ f.0) refl)) (λ b. refl) f.1
        ]
      ]
    ]

-- the front of a piece
pub record TakesFront (due : ℕ) (bytes : List ℕ) (x : Option Part × List ℕ) : Type 0 where
  pub front : List ℕ
  pub takes : Takes bytes front x.1
  pub is : IsPiece front x.0
  pub fits : Fits due x.0

behind : (due : ℕ) (bytes front rest : List ℕ) (x : Option Part × List ℕ) → bytes ≡ front ++ rest → TakesPiece due front rest x → TakesFront due bytes x
behind due bytes front rest x parts t = record {
  front = front ++ t.content;
  takes = record { parts = rw (parts, t.takes.parts, append_assoc) refl; fits = t.takes.fits };
  is = t.is;
  fits = t.fits;
}

pub piece_takes : (due end : ℕ) (bytes : List ℕ) (x : Option Part × List ℕ) → due < 2 ^ 63 → IsBytes bytes → piece_at due end bytes ≡ Ok x → TakesFront due bytes x
unfolding piece_at
piece_takes due end [] x room fits h = absurd (cc)
piece_takes due end (byte ∷ bytes) x room fits h =
    let rest_fits = IsBytes-rest byte bytes fits in
    elim (choose (eqb (byte / 32) 7) _ _ _ h) [
      | inl a ↦ behind due (byte ∷ bytes) (byte ∷ []) bytes x refl (simple_takes byte due (end - (length bytes + 1)) end bytes x room rest_fits a.1)
      | inr a ↦
          let at = end - (length bytes + 1) in
          let y = bind-Ok (argument_at (byte / 32) (byte % 32) at end bytes) (λ y. content_at (byte / 32) y.0 due at end y.1) x a.1 in
          let t = argument_takes (byte / 32) (byte % 32) bytes y.0 at end rest_fits y.1 in
          let other : byte / 32 ≢ 7 = eqb-false _ _ a.0 in
          let major : byte / 32 ≤ 6 = omega (arith, fits 0) in
          let whole : 32 * (byte / 32) + byte % 32 ≡ byte = omega arith in
          let parts : byte ∷ bytes ≡ head (byte / 32) y.0.0 ++ y.0.1 = ap (λ (b : ℕ). b ∷ bytes) (sym whole) ∙ t.takes.parts in
          behind due (byte ∷ bytes) (head (byte / 32) y.0.0) y.0.1 x parts
          (content_takes (byte / 32) y.0.0 due at end y.0.1 x major t.below room t.takes.fits y.2)
    ]
