-- What an effect asks of the numbers that it reads, and a state of its bounds.
-- Assumes nothing.
use Rattle.std.specs.Prelude.{ℕ, Bool, not, ◌&&◌, List, ltb, ℤ}
use Rattle.integers.specs.Relation.{between, within_limit}
use Rattle.lists.specs.Each.{tabulate}
use Rattle.lists.specs.Loops.{every}
use Rattle.model.specs.Tasks.{Effect, add_effect, linear_effect, quotient_effect, residue_effect}
use Rattle.model.specs.Limits.{source_limits}
use Rattle.model.specs.Steps.{integer_at, natural_at}

-- a value lies within the constants of a source file
abbrev pub small : ℤ → Bool
small z = within_limit source_limits.constant z

-- and is not 0
abbrev pub divides : ℤ → Bool
divides c = small c && not (within_limit 0 c)

-- a term: its variable's value and its weight do
abbrev pub term_fits : (ℕ → ℤ) → ℕ × ℤ → Bool
term_fits v t = small (v t.0) && small t.1

-- What an effect reads does, and it divides by no 0: so that no sum, product or quotient leaves 64 bits
abbrev pub effect_fits : Effect → (ℕ → ℤ) → Bool
effect_fits (add_effect t c) v = small (v t) && small c
effect_fits (linear_effect t w ts) v = (small (v t) && small w) && every (term_fits v) ts
effect_fits (quotient_effect t y c) v = (small (v t) && small (v y)) && divides c
effect_fits (residue_effect t y c) v = (small (v t) && small (v y)) && divides c

abbrev pub effects_fit : List Effect → (ℕ → ℤ) → Bool
effects_fit es v = every (λ e. effect_fits e v) es

-- each of the first n values lies between its bounds; each of the first n modes is below its size
abbrev pub values_between : ℕ → List ℤ → List ℤ → List ℤ → Bool
values_between n lower upper values = every (λ b. b) (tabulate n (λ i. between (integer_at lower i) (integer_at upper i) (integer_at values i)))

abbrev pub modes_below : ℕ → List ℕ → List ℕ → Bool
modes_below n sizes modes = every (λ b. b) (tabulate n (λ i. ltb (natural_at modes i) (natural_at sizes i)))
