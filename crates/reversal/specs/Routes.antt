-- Routes read backwards (document 02, paper 7).
use Rattle.std.specs.Prelude.{ℕ, ◌≡◌, List, [], ◌∷◌, ◌++◌}
use Rattle.theory.specs.Maps.{Map, Route, route_cost}
use Rattle.reversal.specs.Reversed.{reversed, old_number, new_number}

-- A list from its last word to its first, each word by its other number (document 02, paper 7).
unfoldable pub backwards : (number : ℕ → ℕ) → List ℕ → List ℕ
backwards number [] = []
backwards number (a ∷ route) = backwards number route ++ (number a ∷ [])

-- A route of the map, read backwards as arcs of the reversed map (document 02, paper 7).
abbrev pub new_route : Map → List ℕ → List ℕ
new_route M route = backwards (new_number M) route

-- A route of the reversed map, read backwards as arcs of the map (document 02, paper 7).
abbrev pub old_route : Map → List ℕ → List ℕ
old_route M route = backwards (old_number M) route

-- The routes of the map from v to w are, read backwards, those of the reversed map from w to v, one for one, and cost the same by the rule of
-- holds strictly between the ends (document 02, papers 2 and 7).
pub record RoutesReversed (M : Map) : Type 0 where
  pub there : {v w : ℕ} {route : List ℕ} → Route M v route w → Route (reversed M) w (new_route M route) v
  pub back : {v w : ℕ} {route : List ℕ} → Route (reversed M) w route v → Route M v (old_route M route) w
  pub there_back : {v w : ℕ} {route : List ℕ} → Route M v route w → old_route M (new_route M route) ≡ route
  pub back_there : {v w : ℕ} {route : List ℕ} → Route (reversed M) w route v → new_route M (old_route M route) ≡ route
  pub same_cost : {v w : ℕ} {route : List ℕ} → Route M v route w → route_cost (reversed M) (new_route M route) ≡ route_cost M route
