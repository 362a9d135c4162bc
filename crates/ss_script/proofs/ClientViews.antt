-- The views of the clients after one answer more.
use Rattle.std.proofs.Common.{◌≡◌, ℕ, ◌<◌, List, [], length, get_or, set, sym, ap, ◌∙◌}
use Rattle.std.specs.Prelude.{map}
use Rattle.std.proofs.lemmas.List.{map-set, get_or_default, length-map, set-get_or}
use Rattle.std.proofs.Math.ListN.{get_or-map}
use Rattle.ss_script.specs.Views.{client_views}

-- the list of one client is changed
pub one_changed : {X : Type 0} (f : X → List ℕ) (lists : List X) (i : ℕ) (old new : X) (change : List ℕ → List ℕ) → i < length lists → old ≡ get_or lists i old → f new ≡ change (f old) → map f (set lists i new) ≡ set (map f lists) i (change (client_views (map f lists) i))
one_changed f lists i old new change within is changed =
    let here : get_or (map f lists) i [] ≡ f old =
    get_or_default (map f lists) i [] (f old) (rw length-map within) ∙ get_or-map f lists i old ∙ ap f (sym is) in
    map-set f lists i new ∙ ap (set (map f lists) i) (changed ∙ ap change (sym here))

-- no client's list is changed
pub none_changed : (views : List (List ℕ)) (i : ℕ) → views ≡ set views i (client_views views i)
none_changed views i = sym (set-get_or views i [])
