-- A step of a walk, at its price or at none.
-- Assumes nothing.
use mathlib.Core.Path.{refl}
use Prim.Native.Nat.{ℕ}
use native.Mathlib.Omega.{arith}
use mathlib.Core.Bool.{Bool, true, false}
use mathlib.Core.List.{List}
use lib.IntN.{ℤ}
use Rattle.std.specs.Prelude.{Result, Ok, Err}
use Rattle.std.specs.Result.{result_ok}
use Rattle.std.specs.Bool.{then_some}
use Rattle.source_step.specs.Row.{Stepped}
use Rattle.plan_strokes.specs.Made.{Turned}
use Rattle.plan_strokes.proofs.Prices.{applied-price}
use Rattle.source_walk.specs.Walk.{TurnOf}

module _ {n m : ℕ} {marks : List ℕ} {numbers sums values : List ℤ} {modes : List ℕ} {values' : List ℤ} {modes' : List ℕ} where
  pub at-its-price : (r : Result ℕ ℕ) → Turned n m marks numbers sums values modes r values' modes'
      → TurnOf true n m marks numbers sums values modes (result_ok r) values' modes'
  at-its-price (Ok p) t = record { stepped = t.stepped; price = applied-price t; few = t.few }
  at-its-price (Err p) t = record { stepped = t.stepped; price = tt; few = tt }

  pub at-no-price : (b : Bool) → Stepped n m marks numbers sums values modes b values' modes'
      → TurnOf false n m marks numbers sums values modes (then_some b 0) values' modes'
  at-no-price true s = record { stepped = s; price = refl; few = omega arith }
  at-no-price false s = record { stepped = s; price = tt; few = tt }
