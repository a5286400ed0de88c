-- The numbers of each kind of stage are those of the model's.
-- Assumes nothing.
use mathlib.Core.Path.{◌≡◌, refl, ap, ap₂}
use Prim.Native.Nat.{ℕ, zero, suc, ◌+◌, ◌≤◌}
use native.Mathlib.Numerals.{add-one}
use native.Mathlib.Omega.{arith}
use mathlib.Core.Bool.{true, false}
use mathlib.Core.List.{List, [], ◌∷◌}
use lib.Dec.{lit≤}
use lib.IntN.{ℤ, pos, negsuc, nat_abs, neg_ℤ, ◌-ℤ◌}
use Rattle.std.specs.Int.{int_signum}
use Rattle.integers.specs.Division.{unit_less, sign}
use Rattle.lists.specs.Each.{tabulate}
use Rattle.model.specs.Limits.{source_limits}
use Rattle.model.specs.TaskOk.{Factor}
use Rattle.model.specs.Steps.{integer_at}
use Rattle.model.specs.Stages.{Name, hold, drain, refill, divide, empty, move, move_to_hold}
use Rattle.model.specs.Lowering.{number_of_name, numbered_additions}
use Rattle.lowering_stages.specs.declared.Stage.{Stage as Numbers}
use Rattle.lowering_stages.specs.Stages.{given_is, Small, Stands}
use Rattle.lowering_stages.proofs.Numbers.{zero_minus}

abbrev giving : ℕ → ℤ → ℕ → List ℕ → List ℤ → ℤ → Numbers
giving counter unit added variables amounts gives = record {
  counter = counter;
  unit = unit;
  deep = pos 0;
  added = added;
  variables = variables;
  amounts = amounts;
  bounded = false;
  target = 0;
  lower = pos 0;
  upper = pos 0;
  gives = gives;
}

abbrev numbers_of : ℕ → ℤ → ℕ → List ℕ → List ℤ → Numbers
numbers_of counter unit added variables amounts = giving counter unit added variables amounts (pos 0)

abbrev moving : ℕ → ℕ → ℤ → ℤ → Numbers
moving t v lower upper = record {
  counter = v;
  unit = pos 1;
  deep = pos 0;
  added = 2;
  variables = t ∷ v ∷ 0 ∷ 0 ∷ [];
  amounts = pos 1 ∷ negsuc 0 ∷ pos 0 ∷ pos 0 ∷ [];
  bounded = true;
  target = t;
  lower = lower;
  upper = upper;
  gives = pos 0;
}

module _ (x y z u : ℤ) (hx : nat_abs x ≤ 10000) (hy : nat_abs y ≤ 10000) (hz : nat_abs z ≤ 10000) (hu : nat_abs u ≤ 10000) where
  four : (i : ℕ) → nat_abs (integer_at (x ∷ y ∷ z ∷ u ∷ []) i) ≤ 10000
  four zero = hx
  four (suc zero) = hy
  four (suc (suc zero)) = hz
  four (suc (suc (suc zero))) = hu
  four (suc (suc (suc (suc i)))) = lit≤ tt

  small : (counter : ℕ) (unit : ℤ) (added : ℕ) (variables : List ℕ) → nat_abs unit ≤ 10000 → added ≤ 4 → Small (numbers_of counter unit added variables (x ∷ y ∷ z ∷ u ∷ []))
  small counter unit added variables h few = record { unit = h; deep = lit≤ tt; few = few; amounts = four; lower = lit≤ tt; upper = lit≤ tt; gives = lit≤ tt }

pub drain-stands : (a t : ℕ) (w : ℤ) → nat_abs w ≤ 10000 → Stands a (drain t w) (numbers_of t (pos 1) 3 (t ∷ a ∷ (a + 1) ∷ 0 ∷ []) (negsuc 0 ∷ w ∷ pos 1 ∷ pos 0 ∷ []))
unfolding tabulate
drain-stands a t w h = record {
  small = small (negsuc 0) w (pos 1) (pos 0) (lit≤ tt) h (lit≤ tt) (lit≤ tt) t (pos 1) 3 (t ∷ a ∷ (a + 1) ∷ 0 ∷ []) (lit≤ tt) (lit≤ tt);
  counter = refl;
  unit = refl;
  deep = refl;
  asks = refl;
  gives = refl;
  adds = ap (λ (b : ℕ). (t, negsuc 0) ∷ (a, w) ∷ (b, pos 1) ∷ []) (add-one a);
}

pub refill-stands : (a t : ℕ) → Stands a (refill t) (numbers_of (a + 1) (pos 1) 2 (t ∷ (a + 1) ∷ 0 ∷ 0 ∷ []) (pos 1 ∷ negsuc 0 ∷ pos 0 ∷ pos 0 ∷ []))
unfolding tabulate
refill-stands a t = record {
  small = small (pos 1) (negsuc 0) (pos 0) (pos 0) (lit≤ tt) (lit≤ tt) (lit≤ tt) (lit≤ tt) (a + 1) (pos 1) 2 (t ∷ (a + 1) ∷ 0 ∷ 0 ∷ []) (lit≤ tt) (lit≤ tt);
  counter = add-one a;
  unit = refl;
  deep = refl;
  asks = refl;
  gives = refl;
  adds = ap (λ (b : ℕ). (t, pos 1) ∷ (b, negsuc 0) ∷ []) (add-one a);
}

-- the unit of a c that is not 0 is |c|, and its sign is that of a number
divided : (a n : ℕ) (u s : ℤ) (c : ℤ) → unit_less c ≡ n → u ≡ pos (suc n) → nat_abs u ≤ 10000 → s ≡ sign c → nat_abs s ≤ 10000
    → Stands a (divide c) (numbers_of a u 2 (a ∷ (a + 1) ∷ 0 ∷ 0 ∷ []) ((pos 0 -ℤ u) ∷ s ∷ pos 0 ∷ pos 0 ∷ []))
unfolding tabulate
divided a n u s c e is_unit h is_sign g =
    let k : nat_abs (neg_ℤ u) ≤ 10000 = rw is_unit (omega (arith, rw is_unit at h)) in
    rw (zero_minus u) (record {
      small = small (neg_ℤ u) s (pos 0) (pos 0) k g (lit≤ tt) (lit≤ tt) a u 2 (a ∷ (a + 1) ∷ 0 ∷ 0 ∷ []) h (lit≤ tt);
      counter = refl;
      unit = rw (is_unit, e);
      deep = refl;
      asks = refl;
      gives = refl;
      adds = rw (add-one, is_unit, e, is_sign);
    })

pub divide-stands : (a : ℕ) (c : ℤ) → Factor source_limits c
    → Stands a (divide c) (numbers_of a (pos (nat_abs c)) 2 (a ∷ (a + 1) ∷ 0 ∷ 0 ∷ []) ((pos 0 -ℤ pos (nat_abs c)) ∷ int_signum c ∷ pos 0 ∷ pos 0 ∷ []))
divide-stands a (pos zero) h = absurd (omega (arith, h.0))
divide-stands a (pos (suc n)) h = divided a n (pos (suc n)) (int_signum (pos (suc n))) (pos (suc n)) refl refl h.1 (ap pos (omega arith)) (omega arith)
divide-stands a (negsuc n) h = divided a n (pos (suc n)) (negsuc 0) (negsuc n) refl refl h.1 refl (lit≤ tt)

pub empty_stands : (v a : ℕ) (name : Name) → v ≡ number_of_name a name → Stands a (empty name) (numbers_of v (pos 1) 1 (v ∷ 0 ∷ 0 ∷ 0 ∷ []) (negsuc 0 ∷ pos 0 ∷ pos 0 ∷ pos 0 ∷ []))
unfolding tabulate
empty_stands v a name e = record {
  small = small (negsuc 0) (pos 0) (pos 0) (pos 0) (lit≤ tt) (lit≤ tt) (lit≤ tt) (lit≤ tt) v (pos 1) 1 (v ∷ 0 ∷ 0 ∷ 0 ∷ []) (lit≤ tt) (lit≤ tt);
  counter = e;
  unit = refl;
  deep = refl;
  asks = refl;
  gives = refl;
  adds = ap (λ (b : ℕ). (b, negsuc 0) ∷ []) e;
}

pub move-stands : (t v : ℕ) (lower upper : ℤ) → nat_abs lower ≤ 10000 → nat_abs upper ≤ 10000 → (a : ℕ) (name : Name) → v ≡ number_of_name a name → Stands a (move t name lower upper) (moving t v lower upper)
unfolding tabulate
move-stands t v lower upper hl hu a name e = record {
  small = record {
    unit = lit≤ tt;
    deep = lit≤ tt;
    few = lit≤ tt;
    lower = hl;
    upper = hu;
    gives = lit≤ tt;
    amounts = four (pos 1) (negsuc 0) (pos 0) (pos 0) (lit≤ tt) (lit≤ tt) (lit≤ tt) (lit≤ tt);
  };
  counter = e;
  unit = refl;
  deep = refl;
  asks = refl;
  gives = refl;
  adds = ap (λ (b : ℕ). (t, pos 1) ∷ (b, negsuc 0) ∷ []) e;
}

pub hold-stands : (a e v h : ℕ) (gives : ℤ) → h ≡ number_of_name a (hold e) → nat_abs gives ≤ 10000 → (name : Name) (entering : List (Name × ℤ)) → v
    ≡ number_of_name a name
    → given_is a gives ≡ numbered_additions a entering
    → Stands a (move_to_hold e name entering) (giving v (pos 1) 2 (v ∷ h ∷ 0 ∷ 0 ∷ []) (negsuc 0 ∷ pos 1 ∷ pos 0 ∷ pos 0 ∷ []) gives)
unfolding tabulate
hold-stands a e v h gives is_hold small name entering is_name is_given = record {
  small = record {
    unit = lit≤ tt;
    deep = lit≤ tt;
    few = lit≤ tt;
    lower = lit≤ tt;
    upper = lit≤ tt;
    gives = small;
    amounts = four (negsuc 0) (pos 1) (pos 0) (pos 0) (lit≤ tt) (lit≤ tt) (lit≤ tt) (lit≤ tt);
  };
  counter = is_name;
  unit = refl;
  deep = refl;
  asks = refl;
  gives = is_given;
  adds = ap₂ (λ (x y : ℕ). (x, negsuc 0) ∷ (y, pos 1) ∷ []) is_name is_hold;
}
