use Rattle.std.proofs.Common.{◌≡◌, ◌-◌, ◌++◌, ◌∷◌, [], ℕ, List, length, ◌∙◌, ap, arith}
use Rattle.ss_gatelog.specs.Log.{length_bytes}
use Rattle.ss_gatelog.specs.GateLog.{body_of}
use Rattle.ss_gatelog.proofs.Bytes.{sealed, body_of-sealed, length-body_of, length-length_bytes}
use Rattle.ss_gatelog.proofs.frame.seal.Goals as goal

pub returns-clause-sealed : goal.returns-clause-sealed
unfolding length_bytes
returns-clause-sealed c =
    let frame = c.args.frame.now in
    let size : length frame - 1 - 4 ≡ length (body_of frame) = omega (arith, length-body_of frame c.requires.frame) in
    let front : c.copy_from_slice.new.self ≡ length_bytes (length (body_of frame)) = c.copy_from_slice.ensures.after ∙ c.to_be_bytes.ensures ∙ ap length_bytes size in
    sealed frame c.copy_from_slice.new.self c.requires.frame (ap length front ∙ length-length_bytes (length (body_of frame))) ∙ ap (λ (l : List ℕ). l ++ (body_of frame ++ 0 ∷ [])) front

pub returns-clause-body : goal.returns-clause-body
returns-clause-body c = ap body_of (returns-clause-sealed c) ∙ body_of-sealed c.args.frame.now
