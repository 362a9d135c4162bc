use Rattle.std.proofs.Common.{◌∙◌, ap, sym}
use Rattle.std.specs.Prelude.{option_map, slice_get}
use Rattle.std.specs.FinMap.{keys}
use Rattle.std.specs.Map.{keys_of}
use Rattle.ss_store.specs.Places.{next_key}
use Rattle.std.specs.Prelude.{Some}
use Rattle.std.specs.Ordering.{nat_cmp}
use Rattle.std.specs.Cmp.Lexicographic.{slice_cmp}
use Rattle.ss_store.proofs.TreeMap.{map_keys, first_key, keys_behind, by_bytes, exact}
use Rattle.ss_store.proofs.index.Index.behind.Goals as goal

pub returns-in-Some : goal.returns-in-Some
returns-in-Some c =
    ap (option_map (λ p. p.0.now)) (sym c.in-Some.is)
    ∙ first_key _ _ c.next.result c.next.ensures.steps
    ∙ ap (λ es. slice_get (keys_of es) 0) (c.range-greater.ensures.between tt)
    ∙ ap (λ ks. slice_get ks 0) (keys_behind (slice_cmp nat_cmp) c.args.from.now c.self.inside.map.entries)
    ∙ ap (λ ks. next_key ks (Some c.args.from.now)) (sym (map_keys by_bytes exact c.self.inside.map.entries c.range-greater.ensures.ordered) ∙ ap keys c.self.view_is)

pub returns-in-None : goal.returns-in-None
returns-in-None c =
    ap (option_map (λ p. p.0.now)) (sym c.in-None.is)
    ∙ first_key _ _ c.next.result c.next.ensures.steps
    ∙ ap (λ es. slice_get (keys_of es) 0) (c.range-greater.ensures.between tt)
    ∙ ap (λ ks. slice_get ks 0) (keys_behind (slice_cmp nat_cmp) c.args.from.now c.self.inside.map.entries)
    ∙ ap (λ ks. next_key ks (Some c.args.from.now)) (sym (map_keys by_bytes exact c.self.inside.map.entries c.range-greater.ensures.ordered) ∙ ap keys c.self.view_is)
