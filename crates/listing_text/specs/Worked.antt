-- Worked examples of the text of a number.
-- Assumes nothing.
use Rattle.std.specs.Prelude.{◌≡◌, ℕ, List, [], ◌∷◌, ℤ, pos, negsuc}
use Rattle.model.specs.Listing.{decimal_signed}

pub record Example : Type 0 where
  pub number : ℤ
  pub text : List ℕ

-- its text is the number's
abbrev pub Holds : Example → Type 0
Holds e = decimal_signed e.number ≡ e.text

abbrev pub example : ℤ → List ℕ → Example
example z text = record { number = z; text = text }

-- one digit and two, the first number of each, six digits and seven, the largest number and the least of 64 bits
abbrev pub examples : List Example
examples =
    example (pos 0) (48 ∷ [])
    ∷ example (pos 9) (57 ∷ [])
    ∷ example (pos 10) (49 ∷ 48 ∷ [])
    ∷ example (negsuc 9) (45 ∷ 49 ∷ 48 ∷ [])
    ∷ example (pos 99) (57 ∷ 57 ∷ [])
    ∷ example (pos 100) (49 ∷ 48 ∷ 48 ∷ [])
    ∷ example (pos 999_999) (57 ∷ 57 ∷ 57 ∷ 57 ∷ 57 ∷ 57 ∷ [])
    ∷ example (pos 1_000_000) (49 ∷ 48 ∷ 48 ∷ 48 ∷ 48 ∷ 48 ∷ 48 ∷ [])
    ∷ example (pos 18_446_744_073_709_551_615) (49 ∷ 56 ∷ 52 ∷ 52 ∷ 54 ∷ 55 ∷ 52 ∷ 52 ∷ 48 ∷ 55 ∷ 51 ∷ 55 ∷ 48 ∷ 57 ∷ 53 ∷ 53 ∷ 49 ∷ 54 ∷ 49 ∷ 53 ∷ [])
    ∷ example (negsuc 9_223_372_036_854_775_807) (45 ∷ 57 ∷ 50 ∷ 50 ∷ 51 ∷ 51 ∷ 55 ∷ 50 ∷ 48 ∷ 51 ∷ 54 ∷ 56 ∷ 53 ∷ 52 ∷ 55 ∷ 55 ∷ 53 ∷ 56 ∷ 48 ∷ 56 ∷ [])
    ∷ []
