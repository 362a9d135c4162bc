use Rattle.ss_cid.proofs.Grammar.{IsCid-cid_bytes}
use Rattle.ss_cid.proofs.Spelling.{parts-cid_bytes}
use Rattle.ss_cid.proofs.laws.parts_make_a_cid.Goals as goal

pub returns : goal.returns
returns c = λ codec hash digest codec_fits hash_fits small short.
    let parts = parts-cid_bytes codec hash digest codec_fits hash_fits short in
    (IsCid-cid_bytes codec hash digest codec_fits hash_fits short small, parts.0, parts.1, parts.2)
