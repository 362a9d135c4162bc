use Rattle.std.proofs.Common.{◌≡◌, ◌++◌, ◌∙◌, ℕ, List, length, take, subst, ap}
use Rattle.std.proofs.Math.Seq.{take-append_seam}
use Rattle.std.specs.Io.KnownBytes.{Appends}
use Rattle.ss_cid.specs.Varint.{varint}
use Rattle.ss_io.specs.Streams.{AppendsFront}
use Rattle.ss_io.proofs.Told.{PutAppends-before, PutAppends-append}
use Rattle.ss_car.proofs.writer.put_framed.Goals as goal

-- a varint at the front of a buffer
varint-front : (n count : ℕ) (out rest : List ℕ) → out ≡ varint n ++ rest → count ≡ length (varint n) → take count out ≡ varint n
varint-front n count out rest value len = ap (λ (k : ℕ). take k out) len ∙ ap (take (length (varint n))) value ∙ take-append_seam (varint n) rest

pub returns-in_err-put-clause-bytes : goal.returns-in_err-put-clause-bytes
returns-in_err-put-clause-bytes g c =
    let is = varint-front (length c.args.body.now) _ _ _ c.write_varint-count.ensures.value c.write_varint-count.ensures.len in
    PutAppends-before _ _ (varint (length c.args.body.now)) c.args.body.now _ c.from_residual.ensures.0 (subst (AppendsFront _ _) is c.in_err-put.ensures.bytes)

pub returns-clause-bytes : goal.returns-clause-bytes
returns-clause-bytes g c =
    let is = varint-front (length c.args.body.now) _ _ _ c.write_varint-count.ensures.value c.write_varint-count.ensures.len in
    PutAppends-append _ _ _ (varint (length c.args.body.now)) c.args.body.now _ (subst (Appends _ _) is c.in_ok-put.ensures.bytes) c.put-2.ensures.bytes
