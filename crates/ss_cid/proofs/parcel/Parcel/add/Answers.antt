use Rattle.std.proofs.Common.{◌≡◌, ◌+◌, [], ◌∷◌, ◌++◌, map, length, refl, ap, ap₂, ◌∙◌, rules}
use Rattle.std.proofs.lemmas.List.{length-append}
use Rattle.ss_cid.specs.Parcel.{pair_of}
use Rattle.ss_cid.proofs.Parcels.{pairs_push}
use Rattle.ss_cid.proofs.parcel.Parcel.add.Goals as goal

pub returns-clause-ok : goal.returns-clause-ok
returns-clause-ok c =
    let p = c.self.inside in
    let old = p.buffer.items in
    let bytes = c.args.bytes.now in
    let buffer : c.extend_from_slice.new.self.items ≡ old ++ bytes = search rules in
    let start : c.len-start.result ≡ length old = search rules in
    let end : c.len-end.result ≡ length old + length bytes = search (rules, length-append) in
    let entries : c.push_reserved.new.self.items ≡ p.entries.items ++ record { cid = c.args.cid; start = length old; end = length old + length bytes } ∷ []
    = rw (c.push_reserved.ensures.items, c.reserve.ensures.items, start, end) refl in
    ap₂ (λ b es. map (pair_of b) es) buffer entries
    ∙ pairs_push old bytes p.entries.items c.args.cid c.self.invariant.entries
    ∙ ap (λ ps. ps ++ (c.args.cid, bytes) ∷ []) c.self.view_is
