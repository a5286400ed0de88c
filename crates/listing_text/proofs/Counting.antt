-- A power counted off once more: what was counted off and what is left make the number, as before.
-- Assumes nothing.
use mathlib.Core.Path.{◌≡◌, refl, sym, ap, ◌∙◌}
use Prim.Native.Nat.{ℕ, ◌+◌, ◌-◌, ◌*◌, ◌/◌, ◌%◌, ◌≤◌, ◌<◌}
use native.Mathlib.Nat.{add-mul, mul-le-mul_right}
use native.Mathlib.Omega.{arith}
use mathlib.Core.Bool.{Bool, true, false, cond}
use lib.Dec.{ltb}
use lib.Arith.{digits_div, digits_mod}
use borrow.Author.Tests.{ltb-true, ltb-false}
use Rattle.listing_text.specs.declared.Counted.{Counted}
use Rattle.listing_text.specs.Counting.{taken_off, Off}

pub off_next : {n power most fewer : ℕ} {c : Counted} (times : ℕ) → times ≤ fewer → Off n power most (fewer + times) c
    → Off n power (most + times) fewer (taken_off times power c)
off_next {n} {power} {most} {fewer} {c} times l o = go (ltb c.rest (times * power)) refl
  where
    go : (b : Bool) → ltb c.rest (times * power) ≡ b
        → Off n power (most + times) fewer (cond b c (record { digit = c.digit + times; rest = c.rest - times * power }))
    go true e = record {
      is = o.is;
      few = omega (arith, o.few);
      below = omega (arith, ltb-true c.rest (times * power) e, mul-le-mul_right power l);
    }
    go false e = record {
      is = omega (arith, o.is, ltb-false c.rest (times * power) e, add-mul c.digit times power);
      few = omega (arith, o.few);
      below = omega (arith, o.below, ltb-false c.rest (times * power) e, add-mul fewer times power);
    }

-- where the power goes in no more, this is the digit and what is left
pub off-last : {n power most : ℕ} {c : Counted} → Off n power most 1 c → (c.digit ≡ n / power) × (c.rest ≡ n % power) × (c.digit ≤ most)
off-last {n} {power} {most} {c} o =
    let l : c.rest < power = omega (arith, o.below) in (
      sym (digits_div c.digit l) ∙ ap (λ (x : ℕ). x / power) o.is,
      sym (digits_mod c.digit l) ∙ ap (λ (x : ℕ). x % power) o.is,
      o.few,
    )
