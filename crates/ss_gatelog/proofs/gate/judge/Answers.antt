use Rattle.std.proofs.Common.{◌≡◌, ◌⊎◌, ◌+◌, ◌<◌, ◌≤◌, ◌++◌, ◌∷◌, [], ℕ, sym, ◌∙◌, subst, arith}
use Rattle.std.specs.Prelude.{slice_range}
use Rattle.ss_gatelog.specs.Log.{longest_body}
use Rattle.ss_gatelog.specs.Gate.{LeadTo}
use Rattle.ss_gatelog.proofs.Pieces.{piece_gate, piece_length}
use Rattle.ss_gatelog.proofs.Walks.{leads_closed, leads_cut, leads_unfit, leads_next}
use Rattle.ss_gatelog.proofs.gate.judge.Goals as goal

pub returns-in-Closed-clause-stands : goal.returns-in-Closed-clause-stands
returns-in-Closed-clause-stands c file records size long piece leads =
    let gate = piece_gate file c.args.bytes.now c.args.at piece c.requires.some in
    leads_closed c.args.limit file records c.args.at leads (omega (arith, size, c.requires.place.0)) (λ is_open. c.in-Closed.ensures (gate ∙ is_open))

pub returns-in-Cut-clause-stands : goal.returns-in-Cut-clause-stands
returns-in-Cut-clause-stands c file records size long piece leads =
    let gate = piece_gate file c.args.bytes.now c.args.at piece c.requires.some in
    leads_cut c.args.limit file records c.args.at leads (omega (arith, size, c.requires.place.0)) (sym gate ∙ c.in-Cut.ensures.0) (omega (arith, size, long)) (omega (arith, size, c.if-size-at.true))

pub returns-in-Some-clause-stands : goal.returns-in-Some-clause-stands
returns-in-Some-clause-stands c file records size long piece leads =
    let gate = piece_gate file c.args.bytes.now c.args.at piece c.requires.some in
    let head = c.in-Open.ensures in
    let next = c.in-Some.ensures in
    let spells = head.3 ∙ piece_length file c.args.bytes.now c.args.at piece head.2 in
    let place : c.args.at + 5 + c.in-Open.length ≡ c.in-Some.next = omega (arith, next.0) in
    subst (λ (n : ℕ). LeadTo c.args.limit file (records ++ slice_range file (c.args.at + 5) n ∷ []) n) place
    (leads_next c.args.limit file records c.args.at leads (omega (arith, size, c.requires.place.0)) c.in-Open.length head.1 spells (sym gate ∙ head.0) next.1 (omega (arith, size, next.0, next.2)) (omega (arith, next.0, next.3)))

pub returns-in-None-clause-stands : goal.returns-in-None-clause-stands
returns-in-None-clause-stands c file records size long piece leads =
    let gate = piece_gate file c.args.bytes.now c.args.at piece c.requires.some in
    let head = c.in-Open.ensures in
    let spells = head.3 ∙ piece_length file c.args.bytes.now c.args.at piece head.2 in
    let why = subst (λ (n : ℕ). (longest_body < c.in-Open.length) ⊎ (n ≤ c.args.at + 5 + c.in-Open.length) ⊎ (c.args.limit ≤ c.args.at + 5 + c.in-Open.length)) (sym size) c.in-None.ensures in
    leads_unfit c.args.limit file records c.args.at leads (omega (arith, size, c.requires.place.0)) c.in-Open.length head.1 spells (sym gate ∙ head.0) (omega (arith, size, long)) why
