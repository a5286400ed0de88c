-- The worked divisions of document 01, from the definitions. Assumes nothing.
use mathlib.Core.Path.{◌≡◌, refl}
use mathlib.Core.List.{[], ◌∷◌, map}
use lib.IntN.{ℤ, pos, negsuc}
use Rattle.integers.specs.Division.{quotient_of, residue_of}

-- a pair, divided: the quotient and the residue
abbrev pub divided : ℤ × ℤ → ℤ × ℤ
divided p = (quotient_of p.0 p.1, residue_of p.0 p.1)

-- 7 by 2: 3, 1; −7 by 2: −4, 1; 7 by −2: −3, 1; −7 by −2: 4, 1; 0 by 5: 0, 0
pub worked-divisions :
    map divided ((pos 7, pos 2) ∷ (negsuc 6, pos 2) ∷ (pos 7, negsuc 1) ∷ (negsuc 6, negsuc 1) ∷ (pos 0, pos 5) ∷ [])
    ≡ ((pos 3, pos 1) ∷ (negsuc 3, pos 1) ∷ (negsuc 2, pos 1) ∷ (pos 4, pos 1) ∷ (pos 0, pos 0) ∷ [])
worked-divisions = refl
