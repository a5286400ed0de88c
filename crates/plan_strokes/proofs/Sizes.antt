-- How many restricted actions an action becomes, by its effects; and the numbers of the openings, each the one before and the size of its macro.
-- Assumes nothing.
use mathlib.Core.Path.{◌≡◌, refl, sym, ap, subst}
use Prim.Native.Nat.{ℕ, zero, suc, ◌+◌, ◌*◌}
use native.Mathlib.Omega.{arith}
use mathlib.Core.Bool.{true, false}
use mathlib.Core.Option.{some, none-ne-some}
use mathlib.Core.List.{List, [], ◌∷◌}
use lib.Dec.{T}
use lib.ListN.{length, get_elem?}
use lib.IntN.{ℤ}
use Rattle.model.specs.Tasks.{Effect, add_effect, linear_effect, quotient_effect, residue_effect, SourceAction}
use Rattle.model.specs.Stages.{Stage, count_actions, drain_terms, result_stages, result_in, move_to_hold, next_additions, hold_stages, unload_stages}
use Rattle.model.specs.Stages.{set_stages}
use Rattle.model.specs.Stages.{helper_a, stages_of, macro_size, opening}
use Rattle.model.specs.Following.{makes_macro}
use Rattle.model.proofs.Pairing.{some-injective}

-- ---- the size of a macro
pub terms-size : (ts : List (ℕ × ℤ)) (ds : List Stage) → count_actions (drain_terms ts ds) ≡ 6 * length ts + count_actions ds
terms-size [] ds = omega arith
terms-size (t ∷ ts) ds = omega (arith, terms-size ts ds)

result-size : (e : Effect) (ds : List Stage) → count_actions (result_stages e ds) ≡ count_actions (result_stages e []) + count_actions ds
result-size (add_effect t c) ds = omega arith
result-size (linear_effect t w ts) ds = omega (arith, terms-size ts ds, terms-size ts [])
result-size (quotient_effect t y c) ds = omega arith
result-size (residue_effect t y c) ds = omega arith

-- of effects one behind another, each with its Clear and two Moves
abbrev pub size_of_effects : List Effect → ℕ
size_of_effects [] = zero
size_of_effects (e ∷ es) = 9 + count_actions (result_stages e []) + size_of_effects es

module _ (lower upper : ℕ → ℤ) where
  unload-size : (j : ℕ) (es : List Effect) → count_actions (unload_stages lower upper j es) ≡ 6 * length es
  unload-size j [] = refl
  unload-size j (e ∷ es) = omega (arith, unload-size (suc j) es)

  hold-size : (j : ℕ) (es : List Effect) (ds : List Stage) → count_actions (hold_stages j es ds) + 6 * length es ≡ size_of_effects es + count_actions ds
  hold-size j [] ds = omega arith
  hold-size j (e ∷ es) ds =
      omega (arith, result-size e (move_to_hold j (result_in e) (next_additions es) ∷ hold_stages (suc j) es ds), hold-size (suc j) es ds)

  pub single-size : (es : List Effect) → makes_macro es ≡ false → suc (count_actions (stages_of lower upper es)) ≡ 1
  single-size [] m = refl
  single-size (add_effect t c ∷ []) m = refl
  single-size (linear_effect t w ts ∷ []) m = absurd (subst T m tt)
  single-size (quotient_effect t y c ∷ []) m = absurd (subst T m tt)
  single-size (residue_effect t y c ∷ []) m = absurd (subst T m tt)
  single-size (e ∷ f ∷ es) m = absurd (subst T m tt)

  pub one_size : (e : Effect) → makes_macro (e ∷ []) ≡ true → suc (count_actions (stages_of lower upper (e ∷ []))) + 3 ≡ 1 + size_of_effects (e ∷ [])
  one_size (add_effect t c) m = absurd (subst T (sym m) tt)
  one_size (linear_effect t w ts) m = omega (arith, result-size (linear_effect t w ts) (set_stages lower upper helper_a t []))
  one_size (quotient_effect t y c) m = omega arith
  one_size (residue_effect t y c) m = omega arith

  pub several-size : (e f : Effect) (es : List Effect) → suc (count_actions (stages_of lower upper (e ∷ f ∷ es))) ≡ 1 + size_of_effects (e ∷ f ∷ es)
  several-size e f es =
      let all = e ∷ f ∷ es in omega (arith, hold-size 0 all (unload_stages lower upper 0 all), unload-size 0 all)

  -- ---- the numbers of the openings
  pub no-opening-before : (acts : List SourceAction) → opening lower upper acts 0 ≡ 0
  no-opening-before [] = refl
  no-opening-before (a ∷ acts) = refl

  pub opening-next : (acts : List SourceAction) (k : ℕ) (a : SourceAction) → get_elem? acts k ≡ some a
      → opening lower upper acts (suc k) ≡ opening lower upper acts k + macro_size lower upper a
  opening-next [] k a e = absurd (none-ne-some a e)
  opening-next (b ∷ acts) zero a e =
      let f : macro_size lower upper b ≡ macro_size lower upper a = ap (macro_size lower upper) (some-injective e) in
      omega (arith, no-opening-before acts, f)
  opening-next (b ∷ acts) (suc k) a e = omega (arith, opening-next acts k a e)
