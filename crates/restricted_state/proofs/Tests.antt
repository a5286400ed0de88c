-- The tests of a state as tests of every element.
-- Assumes nothing.
use mathlib.Core.Path.{◌≡◌, refl, ap}
use Prim.Native.Nat.{ℕ}
use mathlib.Core.Bool.{Bool, ◌&&◌}
use mathlib.Core.List.{List, [], ◌∷◌}
use lib.Dec.{ltb}
use lib.IntN.{ℤ}
use Rattle.integers.specs.Relation.{within_limit}
use Rattle.std.specs.List.{list_all, zip}
use Rattle.model.specs.Steps.{values_within, modes_below_sizes}

pub within-every : (limit : ℕ) (l : List ℤ) → values_within limit l ≡ list_all (within_limit limit) l
within-every limit [] = refl
within-every limit (z ∷ l) = ap (λ (b : Bool). within_limit limit z && b) (within-every limit l)

-- a mode beside its size
abbrev pub is_below : ℕ × ℕ → Bool
is_below p = ltb p.0 p.1

pub below-every : (sizes modes : List ℕ) → modes_below_sizes sizes modes ≡ list_all is_below (zip modes sizes)
below-every sizes [] = refl
below-every [] (x ∷ modes) = refl
below-every (z ∷ sizes) (x ∷ modes) = ap (λ (c : Bool). ltb x z && c) (below-every sizes modes)
