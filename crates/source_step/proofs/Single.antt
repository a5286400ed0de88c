-- An action that has one effect at most: whether its result lies within its bounds, and the values after.
-- Assumes nothing.
use mathlib.Core.Path.{◌≡◌, refl, sym, ap, ◌∙◌}
use Prim.Native.Nat.{ℕ}
use mathlib.Core.Bool.{true, false}
use mathlib.Core.List.{List}
use lib.IntN.{ℤ}
use Rattle.lists.specs.Each.{tabulate}
use Rattle.source_step.specs.Step.{set_at, settled}
use Rattle.source_step.specs.Row.{effect_count_at, target_at, result_at, stays_at, stays_in, values_after, modes_after, Settled, Finished}
use Rattle.source_step.proofs.Results.{outcomes-are}
use Rattle.source_step.proofs.Taking.{stays, goes}

module _ (n : ℕ) (marks : List ℕ) (numbers : List ℤ) (values : List ℤ) where
  pub none-settles : effect_count_at marks ≡ 0 → Settled n marks numbers values true values
  unfolding tabulate
  none-settles e = record { is = rw e refl; values_are = rw e refl }

  pub one-leaves : effect_count_at marks ≡ 1 → stays_at n marks numbers values 0 ≡ false → Settled n marks numbers values false values
  unfolding tabulate
  one-leaves e out = record { is = rw (e, out) refl; values_are = rw (e, out) refl }

  one-after : effect_count_at marks ≡ 1 → values_after n marks numbers values ≡ set_at n values (target_at marks 0) (result_at n marks numbers values 0)
  unfolding tabulate
  one-after e = ap (λ ps. settled n ps values) (outcomes-are n marks numbers values) ∙ rw e refl

  pub one-settles : effect_count_at marks ≡ 1 → stays_at n marks numbers values 0 ≡ true → {values' : List ℤ}
      → values' ≡ set_at n values (target_at marks 0) (result_at n marks numbers values 0) → Settled n marks numbers values true values'
  unfolding tabulate
  one-settles e inside p =
      let all : stays_in n marks numbers values ≡ true = rw (e, inside) refl in
      record { is = sym all; values_are = rw all (p ∙ sym (one-after e)) }

  -- the rest of the step
  module _ {m : ℕ} {modes : List ℕ} where
    pub leaves_all : {values' : List ℤ} → Settled n marks numbers values false values' → Finished n m marks numbers values modes false values' modes
    leaves_all S = let out = sym S.is in stays out (rw out at S.values_are)

    pub settles-all : {values' : List ℤ} {modes' : List ℕ} → Settled n marks numbers values true values' → modes' ≡ modes_after m marks modes
        → Finished n m marks numbers values modes true values' modes'
    settles-all S t = let inside = sym S.is in goes inside (rw inside at S.values_are) t
