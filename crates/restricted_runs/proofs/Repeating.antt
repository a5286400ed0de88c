-- So many steps by one action at once. Each value goes along a line, and the modes stay as the first step sets them: an action that applies
-- to values within the figure, and still does behind so many steps to values within it, applies in every state between.
-- Assumes nothing.
use mathlib.Core.Path.{◌≡◌, refl, sym, ap, ap₂, ◌∙◌}
use Prim.Native.Nat.{ℕ, zero, suc, ◌≤◌, ◌<◌}
use native.Mathlib.Omega.{arith}
use mathlib.Core.Bool.{Bool, true, false, cond, ◌&&◌}
use mathlib.Core.Option.{Option, some}
use mathlib.Core.List.{List, [], ◌∷◌, map}
use lib.Dec.{eqb, ltb}
use lib.ListN.{length, set, length-set}
use lib.Seq.{ext_get_or}
use lib.IntN.{ℤ, pos, ◌+ℤ◌, ◌*ℤ◌}
use borrow.Author.Tests.{eqb-true, ltb-true, ltb-false}
use Rattle.integers.specs.All.{All}
use Rattle.integers.specs.Relation.{related, within_limit}
use Rattle.integers.proofs.Parts.{ints, add, mul}
use Rattle.integers.proofs.Products.{mul-add}
use Rattle.lists.proofs.Loops.{and_left, and_right}
use Rattle.model.specs.Tasks.{Measured, variable, weighted_sum, NumericCondition, RestrictedAction, State}
use Rattle.model.specs.Systems.{bind, provided}
use Rattle.model.specs.Steps.{integer_at, natural_at, measure, conditions_hold, modes_hold, add_all, set_all, values_within, applies_restricted}
use Rattle.model.specs.Steps.{apply_restricted, figure}
use Rattle.restricted_step.proofs.Tests.{within-at, at-within}
use Rattle.restricted_step.proofs.Effects.{add-length}
use Rattle.restricted_step.specs.Steps.{step_by, scaled, behind}
use Rattle.restricted_step.proofs.Stepping.{map-scaled-once}
use Rattle.restricted_runs.specs.Repeats.{steps_by}
use Rattle.restricted_runs.proofs.Writes.{get_d_past, get_d_set, set-again}
use Rattle.restricted_runs.proofs.Convex.{Convex, on_line, convex-related, convex-within}

-- ---- the values
-- what a step adds to variable i, where there is such a variable
rate : List (ℕ × ℤ) → ℕ → ℤ
rate [] i = pos 0
rate (e ∷ es) i = cond (eqb e.0 i) e.1 (pos 0) +ℤ rate es i

rate_in : List (ℕ × ℤ) → List ℤ → ℕ → ℤ
rate_in es l i = cond (ltb i (length l)) (rate es i) (pos 0)

none-added : (x : ℤ) (k : ℕ) → x ≡ x +ℤ pos k *ℤ pos 0
none-added x k = omega (ints, mul (pos k) (pos 0))

added : (x y z : ℤ) (k : ℕ) → (x +ℤ pos k *ℤ y) +ℤ pos k *ℤ z ≡ x +ℤ pos k *ℤ (y +ℤ z)
added x y z k = omega
    (ints, add (x +ℤ pos k *ℤ y) (pos k *ℤ z), add x (pos k *ℤ y), add x (pos k *ℤ (y +ℤ z)), mul-add (pos k) y z, add (pos k *ℤ y) (pos k *ℤ z))

passed-by : (x z : ℤ) (k : ℕ) → x +ℤ pos k *ℤ z ≡ x +ℤ pos k *ℤ (pos 0 +ℤ z)
passed-by x z k = let e : z ≡ pos 0 +ℤ z = omega (ints, add (pos 0) z) in ap (λ (y : ℤ). x +ℤ pos k *ℤ y) e

line-within : (k : ℕ) (es : List (ℕ × ℤ)) (l : List ℤ) (i : ℕ) → i < length l
    → integer_at (add_all (map (scaled k) es) l) i ≡ integer_at l i +ℤ pos k *ℤ rate es i
unfolding rate
line-within k [] l i h = none-added (integer_at l i) k
line-within k (e ∷ es) l i h =
    line-within k es (set l e.0 (integer_at l e.0 +ℤ pos k *ℤ e.1)) i (omega (arith, length-set l e.0 (integer_at l e.0 +ℤ pos k *ℤ e.1)))
    ∙ ap (λ (z : ℤ). z +ℤ pos k *ℤ rate es i) (get_d_set l e.0 i (integer_at l e.0 +ℤ pos k *ℤ e.1) (pos 0) h)
    ∙ go (eqb e.0 i) refl
  where
    go : (t : Bool) → eqb e.0 i ≡ t
        → cond t (integer_at l e.0 +ℤ pos k *ℤ e.1) (integer_at l i) +ℤ pos k *ℤ rate es i ≡ integer_at l i +ℤ pos k *ℤ (cond t e.1 (pos 0) +ℤ rate es i)
    go true q = rw (eqb-true e.0 i q) (added (integer_at l i) e.1 (rate es i) k)
    go false q = passed-by (integer_at l i) (rate es i) k

line_at : (k : ℕ) (es : List (ℕ × ℤ)) (l : List ℤ) (i : ℕ) → integer_at (add_all (map (scaled k) es) l) i ≡ integer_at l i +ℤ pos k *ℤ rate_in es l i
unfolding rate_in
line_at k es l i = go (ltb i (length l)) refl
  where
    go : (t : Bool) → ltb i (length l) ≡ t → integer_at (add_all (map (scaled k) es) l) i ≡ integer_at l i +ℤ pos k *ℤ cond t (rate es i) (pos 0)
    go true q = line-within k es l i (ltb-true i (length l) q)
    go false q =
        let h : length l ≤ i = ltb-false i (length l) q in
        get_d_past (add_all (map (scaled k) es) l) i (pos 0) (omega (arith, add-length (map (scaled k) es) l)) ∙ none-added (pos 0) k
        ∙ ap (λ (z : ℤ). z +ℤ pos k *ℤ pos 0) (sym (get_d_past l i (pos 0) h))

-- ---- so many steps, and one step more before them
one_more : (x c : ℤ) (k : ℕ) → (x +ℤ pos 1 *ℤ c) +ℤ pos k *ℤ c ≡ x +ℤ pos (suc k) *ℤ c
one_more x c k = omega (ints, mul (pos 1) c, mul (pos k) c, mul (pos (suc k)) c, add x (pos 1 *ℤ c), add (x +ℤ pos 1 *ℤ c) (pos k *ℤ c))

add-more : (k : ℕ) (es : List (ℕ × ℤ)) (l : List ℤ) → add_all (map (scaled k) es) (add_all (map (scaled 1) es) l) ≡ add_all (map (scaled (suc k)) es) l
add-more k es l =
    ext_get_or (pos 0) _ _
    (add-length (map (scaled k) es) (add_all (map (scaled 1) es) l) ∙ add-length (map (scaled 1) es) l ∙ sym (add-length (map (scaled (suc k)) es) l))
    (λ i h.
    let long : length (add_all (map (scaled 1) es) l) ≡ length l = add-length (map (scaled 1) es) l in
    let first : i < length (add_all (map (scaled 1) es) l) = omega (arith, add-length (map (scaled k) es) (add_all (map (scaled 1) es) l)) in
    line-within k es (add_all (map (scaled 1) es) l) i first
    ∙ ap (λ (z : ℤ). z +ℤ pos k *ℤ rate es i) (line-within 1 es l i (omega (arith, long)))
    ∙ one_more (integer_at l i) (rate es i) k
    ∙ sym (line-within (suc k) es l i (omega (arith, long))))

-- ---- an action whose conditions each measure one variable
unfoldable pub PlainMeasure : Measured ℕ → Type 0
PlainMeasure (variable i) = Unit {0}
PlainMeasure (weighted_sum ts) = ⊥

unfoldable pub Plain : NumericCondition ℕ → Type 0
Plain c = PlainMeasure c.measured

-- ---- between the first state and the last
module _ (es : List (ℕ × ℤ)) (l : List ℤ) (j m : ℕ) (h : j ≤ m) where
  at-between : (p : ℤ → Bool) → Convex p → (i : ℕ) → p (integer_at l i) ≡ true → p (integer_at (add_all (map (scaled m) es) l) i) ≡ true
      → p (integer_at (add_all (map (scaled j) es) l) i) ≡ true
  at-between p q i e f =
      ap p (line_at j es l i) ∙ on_line p q (integer_at l i) (rate_in es l i) j m h e (ap p (sym (line_at m es l i)) ∙ f)

  values-between : values_within figure l ≡ true → values_within figure (add_all (map (scaled m) es) l) ≡ true
      → values_within figure (add_all (map (scaled j) es) l) ≡ true
  values-between e f = at-within figure (add_all (map (scaled j) es) l)
      (λ i. at-between (within_limit figure) (convex-within figure) i (within-at figure l e i) (within-at figure (add_all (map (scaled m) es) l) f i))

  condition-between : (c : NumericCondition ℕ) (w : Measured ℕ) → PlainMeasure w
      → related c.relation (measure w (integer_at l)) c.constant ≡ true
      → related c.relation (measure w (integer_at (add_all (map (scaled m) es) l))) c.constant ≡ true
      → related c.relation (measure w (integer_at (add_all (map (scaled j) es) l))) c.constant ≡ true
  unfolding PlainMeasure
  condition-between c (variable i) p e f = at-between (λ v. related c.relation v c.constant) (convex-related c.relation c.constant) i e f
  condition-between c (weighted_sum ts) p e f = absurd p

  conditions-between : (cs : List (NumericCondition ℕ)) → All Plain cs → conditions_hold cs (integer_at l) ≡ true
      → conditions_hold cs (integer_at (add_all (map (scaled m) es) l)) ≡ true
      → conditions_hold cs (integer_at (add_all (map (scaled j) es) l)) ≡ true
  unfolding Plain
  conditions-between [] p e f = refl
  conditions-between (c ∷ cs) (p, ps) e f =
      let first = related c.relation (measure c.measured (integer_at l)) c.constant in
      let last = related c.relation (measure c.measured (integer_at (add_all (map (scaled m) es) l))) c.constant in
      ap₂ ◌&&◌ (condition-between c c.measured p (and_left first (conditions_hold cs (integer_at l)) e)
      (and_left last (conditions_hold cs (integer_at (add_all (map (scaled m) es) l))) f))
      (conditions-between cs ps (and_right first (conditions_hold cs (integer_at l)) e)
      (and_right last (conditions_hold cs (integer_at (add_all (map (scaled m) es) l))) f))

-- ---- a state in which an action may go on
module _ (a : RestrictedAction) where
  pub record Good (x : State) : Type 0 where
    pub within : values_within figure x.values ≡ true
    pub applies : applies_restricted a x ≡ true

  applied-once : (x : State) → apply_restricted a x ≡ behind a 1 x
  applied-once x = λ i. record { values = add_all (sym (map-scaled-once a.additions) i) x.values; modes = set_all a.mode_effects x.modes }

  behind_more : (x : State) (k : ℕ) → behind a k (behind a 1 x) ≡ behind a (suc k) x
  behind_more x k = λ i. record { values = add-more k a.additions x.values i; modes = set-again a.mode_effects x.modes i }

  one-step : (x : State) → applies_restricted a x ≡ true → values_within figure (behind a 1 x).values ≡ true → step_by a x ≡ some (behind a 1 x)
  unfolding step_by
  one-step x h v =
      ap (λ (y : State). provided (applies_restricted a x && values_within figure y.values) y) (applied-once x)
      ∙ ap (λ (b : Bool). provided b (behind a 1 x)) (ap₂ ◌&&◌ h v)

  abbrev held : State → Bool
  held x = modes_hold a.mode_conditions (natural_at x.modes)

  abbrev met : State → Bool
  met x = conditions_hold a.conditions (integer_at x.values)

  module _ (plain : All Plain a.conditions) where
    good-between : (x : State) (j m : ℕ) → j ≤ m → Good x → Good (behind a m x) → Good (behind a j x)
    good-between x j m h g b = record {
      within = values-between a.additions x.values j m h g.within b.within;
      applies = ap₂ ◌&&◌ (and_left (held (behind a m x)) (met (behind a m x)) b.applies)
          (conditions-between a.additions x.values j m h a.conditions plain (and_right (held x) (met x) g.applies)
          (and_right (held (behind a m x)) (met (behind a m x)) b.applies));
    }

    -- THE LAW
    pub repeats : (k : ℕ) (x : State) → Good x → Good (behind a (suc k) x) → steps_by a (suc k) x ≡ some (behind a (suc k) x)
    unfolding steps_by
    repeats zero x g b = ap (λ (o : Option State). bind o some) (one-step x g.applies b.within)
    repeats (suc k) x g b =
        let y = good-between x 1 (suc (suc k)) (omega arith) g b in
        ap (λ (o : Option State). bind o (steps_by a (suc k))) (one-step x g.applies y.within)
        ∙ repeats k (behind a 1 x) y (rw (behind_more x (suc k)) b)
        ∙ ap some (behind_more x (suc k))
