-- How often each stage of an action's macro is gone through, from the values before the step; and the numbers of the steps that this makes.
-- Assumes nothing.
use Rattle.std.specs.Prelude.{length, ℕ, zero, ◌+◌, List, [], ◌∷◌, ◌++◌, ℤ, nat_abs}
use Rattle.integers.specs.Division.{unit_less, floor, quotient_of, residue_of}
use Rattle.model.specs.Tasks.{Effect, add_effect, linear_effect, quotient_effect, residue_effect}
use Rattle.model.specs.Steps.{result, results}
use Rattle.model.specs.Expansion.{strokes}

-- the most stages of a macro
abbrev pub STAGES : ℕ
STAGES = 33

-- ---- how often each stage is gone through: falling so many times or, where negative, rising
-- Drain and Refill of each term
unfoldable pub term_strokes : List (ℕ × ℤ) → (ℕ → ℤ) → List ℤ
term_strokes [] v = []
term_strokes (t ∷ ts) v = v t.0 ∷ v t.0 ∷ term_strokes ts v

-- an effect's stages before Clear
unfoldable pub result_strokes : Effect → (ℕ → ℤ) → List ℤ
result_strokes (add_effect t c) v = v t ∷ v t ∷ []
result_strokes (linear_effect t w ts) v = term_strokes ts v
result_strokes (quotient_effect t y c) v = v y ∷ v y ∷ floor (v y) (unit_less c) ∷ residue_of (v y) c ∷ []
result_strokes (residue_effect t y c) v = v y ∷ v y ∷ floor (v y) (unit_less c) ∷ quotient_of (v y) c ∷ []

-- of several effects: each one's stages before Clear, and the Move of its result into a hold
unfoldable pub held_strokes : List Effect → (ℕ → ℤ) → List ℤ
held_strokes [] v = []
held_strokes (e ∷ es) v = result_strokes e v ++ (result e v ∷ held_strokes es v)

-- of targets and what they get: each target's Clear, and the Move that gives it that
unfoldable pub set_strokes : List (ℕ × ℤ) → (ℕ → ℤ) → List ℤ
set_strokes [] v = []
set_strokes (p ∷ ps) v = v p.0 ∷ p.1 ∷ set_strokes ps v

-- of a single effect; + stays one action
unfoldable pub single_strokes : Effect → (ℕ → ℤ) → List ℤ
single_strokes (add_effect t c) v = []
single_strokes (linear_effect t w ts) v = result_strokes (linear_effect t w ts) v ++ set_strokes (results (linear_effect t w ts ∷ []) v) v
single_strokes (quotient_effect t y c) v = result_strokes (quotient_effect t y c) v ++ set_strokes (results (quotient_effect t y c ∷ []) v) v
single_strokes (residue_effect t y c) v = result_strokes (residue_effect t y c) v ++ set_strokes (results (residue_effect t y c ∷ []) v) v

-- of all effects of an action
unfoldable pub strokes_of : List Effect → (ℕ → ℤ) → List ℤ
strokes_of [] v = []
strokes_of (e ∷ []) v = single_strokes e v
strokes_of (e ∷ f ∷ es) v = held_strokes (e ∷ f ∷ es) v ++ set_strokes (results (e ∷ f ∷ es) v) v

-- ---- the numbers of the steps
-- of a stage, its actions being numbered from b: its strokes, then its turn
abbrev pub stage_steps : ℕ → ℤ → List ℕ
stage_steps b z = strokes b z ++ ((b + 2) ∷ [])

-- behind an opening, the first stage's actions being numbered from b
unfoldable pub macro_steps : ℕ → List ℤ → List ℕ
macro_steps b [] = []
macro_steps b (z ∷ zs) = strokes b z ++ ((b + 2) ∷ macro_steps (b + 3) zs)

-- all that a source step becomes
abbrev pub step_numbers : ℕ → List ℤ → List ℕ
step_numbers opening zs = opening ∷ macro_steps (opening + 1) zs

-- how many strokes in all
abbrev pub all_strokes : List ℤ → ℕ
all_strokes [] = zero
all_strokes (z ∷ zs) = nat_abs z + all_strokes zs

-- the price of a step with these strokes: its opening, the strokes, and a turn for each stage
abbrev pub price_of_strokes : List ℤ → ℕ
price_of_strokes zs = all_strokes zs + length zs + 1
