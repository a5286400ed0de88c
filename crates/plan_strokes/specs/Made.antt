-- Strokes in lent times, and what the functions that make them ensure.
-- Assumes nothing.
use Rattle.std.specs.Prelude.{◌≡◌, ℕ, ◌+◌, ◌≤◌, Bool, List, [], ◌∷◌, ◌++◌, length, take, replicate, ℤ, nat_abs, true, false, cond, Result, Ok, Err, is_ok}
use Rattle.integers.specs.Parts.{EachWithin}
use Rattle.model.specs.Steps.{integer_at}
use Rattle.model.specs.Expansion.{strokes, price_of_effects}
use Rattle.model.specs.Following.{makes_macro}
use Rattle.source_step.specs.Sizes.{EFFECTS}
use Rattle.source_step.specs.Row.{terms_at, effect_at, effects_at, result_at, held, Stepped, ResultsAre}
use Rattle.plan_strokes.specs.Strokes.{STAGES, term_strokes, result_strokes, held_strokes, strokes_of}
use Rattle.plan_strokes.specs.declared.Run.{Run}

-- these strokes stand at the front of the times, `count` of them, each so small that no sum of them leaves 64 bits
pub record Listed (zs : List ℤ) (times : List ℤ) (count : ℕ) : Type 0 where
  pub is : take count times ≡ zs
  pub counted : count ≡ length zs
  pub few : count ≤ STAGES
  pub long : length times ≡ STAGES
  pub within : EachWithin 1000000000 zs

-- these strokes stand in them behind the first `at`
pub record More (times : List ℤ) (at : ℕ) (zs : List ℤ) (times' : List ℤ) (r : ℕ) : Type 0 where
  pub is : take r times' ≡ take at times ++ zs
  pub counted : r ≡ at + length zs
  pub long : length times' ≡ STAGES

-- the strokes of the terms of effect e of a row do, whatever their weights
pub record TermsMade (marks : List ℕ) (e : ℕ) (v : ℕ → ℤ) (times : List ℤ) (at : ℕ) (times' : List ℤ) (r : ℕ) : Type 0 where
  pub more : (numbers : List ℤ) → More times at (term_strokes (terms_at marks numbers e) v) times' r

-- those of effect e of a row before Clear do, and behind them what it gives
abbrev pub ResultMade : ℕ → List ℕ → List ℤ → List ℤ → ℕ → List ℤ → ℕ → List ℤ → ℕ → Type 0
ResultMade n marks numbers values e times at =
    More times at (result_strokes (effect_at marks numbers e) (integer_at (take n values)) ++ (result_at n marks numbers values e ∷ []))

-- those of a row's effects up to the last Move into a hold were made, and what the effects give
pub record HeldMade (n : ℕ) (marks : List ℕ) (numbers : List ℤ) (values : List ℤ) (times : List ℤ) (results : List ℤ) (r : ℕ) : Type 0 where
  pub is : take r times ≡ held_strokes (effects_at marks numbers) (integer_at (take n values))
  pub counted : r ≡ length (held_strokes (effects_at marks numbers) (integer_at (take n values)))
  pub long : length times ≡ STAGES
  pub results_are : ResultsAre n marks numbers values results
  pub results_long : length results ≡ EFFECTS

-- all of them were made, and what the effects give
pub record StrokesMade (n : ℕ) (marks : List ℕ) (numbers : List ℤ) (values : List ℤ) (times : List ℤ) (results : List ℤ) (r : ℕ) : Type 0 where
  pub listed : Listed (strokes_of (effects_at marks numbers) (integer_at (take n values))) times r
  pub results_are : ResultsAre n marks numbers values results
  pub results_long : length results ≡ EFFECTS

-- whether the action of a row becomes a macro, whatever its numbers
pub record MacroIs (marks : List ℕ) (r : Bool) : Type 0 where
  pub is : (numbers : List ℤ) → makes_macro (effects_at marks numbers) ≡ r

-- the strokes of a stage as a run of one number
pub record RunOf (first : ℕ) (z : ℤ) (r : Run) : Type 0 where
  pub is : strokes first z ≡ replicate r.count r.number
  pub many : r.count ≡ nat_abs z

-- a price, and whether it is that of a step that was taken; and the price alone
abbrev pub priced : Bool → ℕ → Result ℕ ℕ
priced true price = Ok price
priced false price = Err price

abbrev pub price_in : Result ℕ ℕ → ℕ
price_in (Ok price) = price
price_in (Err price) = price

-- a step by rows was taken, and priced where their test holds
pub record Turned (n m : ℕ) (marks : List ℕ) (numbers sums values : List ℤ) (modes : List ℕ) (r : Result ℕ ℕ) (values' : List ℤ)
    (modes' : List ℕ) : Type 0 where
  pub stepped : Stepped n m marks numbers sums values modes (is_ok r) values' modes'
  pub price : price_in r ≡ cond (held n m marks numbers sums values modes) (price_of_effects (effects_at marks numbers) (integer_at (take n values))) 0
  pub few : price_in r ≤ 40_000_000_000
