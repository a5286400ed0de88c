-- The price of a step by itself.
-- Assumes nothing.
use mathlib.Core.Path.{◌≡◌, refl, sym, ap, ap₂, ◌∙◌}
use Prim.Native.Nat.{ℕ, ◌+◌, ◌*◌, ◌<◌}
use mathlib.Core.Bool.{Bool, true, false}
use mathlib.Core.Option.{Option}
use mathlib.Core.List.{List, [], ◌∷◌}
use lib.ListN.{length, take}
use lib.Seq.{get_or-take}
use lib.IntN.{ℤ, pos, nat_abs, ◌+ℤ◌, ◌*ℤ◌}
use Rattle.integers.specs.All.{All}
use Rattle.integers.specs.Division.{quotient_of, residue_of}
use Rattle.answers.specs.Answer.{Answer, given, refused, then}
use Rattle.lists.proofs.Loops.{and_left}
use Rattle.model.specs.Limits.{source_limits}
use Rattle.model.specs.Tasks.{Effect, add_effect, linear_effect, quotient_effect, residue_effect, SourceAction, SourceTask, State}
use Rattle.model.specs.TaskOk.{AmountOk, EffectOk, SourceActionOk}
use Rattle.model.specs.Systems.{or_zero}
use Rattle.model.specs.Steps.{integer_at, linear, target, result, step_source, sizes_of}
use Rattle.model.specs.Expansion.{magnitudes, price_of_effect, price_of_result, price_of_held, price_of_effects, price_from}
use Rattle.model.specs.Judging.{step_alone, step_source_alone, price_step}
use Rattle.model.specs.Decoding.{read_source}
use Rattle.model.proofs.AcceptedOk.{accepted-source-ok}
use Rattle.model.proofs.StageWalk.{all-get}
use Rattle.file_declarations.specs.declared.Declared.{Declared}
use Rattle.file_actions.specs.Places.{BytesOfAction}
use Rattle.source_step.specs.Step.{state}
use Rattle.source_step.proofs.Judging.{task-of, task-by}
use Rattle.source_step.specs.Row.{effects_at, held, takes, stays_in, Reads}
use Rattle.source_step.proofs.Taking.{read-when-held}
use Rattle.plan_strokes.specs.Made.{Listed}
use Rattle.plan_strokes.specs.Strokes.{strokes_of, price_of_strokes}
use Rattle.plan_strokes.proofs.Prices.{price-is}
use Rattle.source_state.specs.Alone.{verdict_over, RowRead}
use Rattle.source_state.specs.Step.{stepped_by}
use Rattle.source_state.proofs.Alone.{step_verdict, step-taken}

-- ---- effects that name declared variables, of n, cost over the first n values what they cost over all
module _ (n : ℕ) (l : List ℤ) where
  same_at : (j : ℕ) → j < n → integer_at (take n l) j ≡ integer_at l j
  same_at j h = get_or-take n l j (pos 0) h

  same-sizes : (ts : List (ℕ × ℤ)) → All (AmountOk source_limits n) ts → magnitudes ts (integer_at (take n l)) ≡ magnitudes ts (integer_at l)
  same-sizes [] o = refl
  same-sizes (t ∷ ts) (o, os) = ap₂ (λ (z : ℤ) (s : ℕ). nat_abs z + s) (same_at t.0 o.0) (same-sizes ts os)

  same-linear : (w : ℤ) (ts : List (ℕ × ℤ)) → All (AmountOk source_limits n) ts
      → linear w ts (integer_at (take n l)) ≡ linear w ts (integer_at l)
  same-linear w [] o = refl
  same-linear w (t ∷ ts) (o, os) =
      ap (λ (z : ℤ). linear (w +ℤ z *ℤ t.1) ts (integer_at (take n l))) (same_at t.0 o.0)
      ∙ same-linear (w +ℤ integer_at l t.0 *ℤ t.1) ts os

  -- the price of a Q or R, with this target and operand
  abbrev divided : ℤ → ℤ → ℤ → ℕ
  divided c u z = 7 + 2 * nat_abs z + 2 * nat_abs (quotient_of z c) + nat_abs u + nat_abs (residue_of z c)

  same-price : (e : Effect) → EffectOk source_limits n e → price_of_effect e (integer_at (take n l)) ≡ price_of_effect e (integer_at l)
  same-price (add_effect t c) o = refl
  same-price (linear_effect t w ts) o =
      ap₂ (λ (s : ℕ) (z : ℤ). 3 + 2 * length ts + 2 * s + nat_abs z + nat_abs (linear w ts (integer_at (take n l))))
      (same-sizes ts o.3.0) (same_at t o.0)
      ∙ ap (λ (z : ℤ). 3 + 2 * length ts + 2 * magnitudes ts (integer_at l) + nat_abs (integer_at l t) + nat_abs z) (same-linear w ts o.3.0)
  same-price (quotient_effect t y c) o = ap₂ (divided c) (same_at t o.0) (same_at y o.1)
  same-price (residue_effect t y c) o = ap₂ (divided c) (same_at t o.0) (same_at y o.1)

  same_target : (e : Effect) → EffectOk source_limits n e → integer_at (take n l) (target e) ≡ integer_at l (target e)
  same_target (add_effect t c) o = same_at t o.0
  same_target (linear_effect t w ts) o = same_at t o.0
  same_target (quotient_effect t y c) o = same_at t o.0
  same_target (residue_effect t y c) o = same_at t o.0

  same-result : (e : Effect) → EffectOk source_limits n e → result e (integer_at (take n l)) ≡ result e (integer_at l)
  same-result (add_effect t c) o = ap (λ (z : ℤ). z +ℤ c) (same_at t o.0)
  same-result (linear_effect t w ts) o = same-linear w ts o.3.0
  same-result (quotient_effect t y c) o = ap (λ (z : ℤ). quotient_of z c) (same_at y o.1)
  same-result (residue_effect t y c) o = ap (λ (z : ℤ). residue_of z c) (same_at y o.1)

  -- the stages before Clear
  same-before : (e : Effect) → EffectOk source_limits n e → price_of_result e (integer_at (take n l)) ≡ price_of_result e (integer_at l)
  same-before (add_effect t c) o = ap (λ (z : ℤ). 2 + 2 * nat_abs z) (same_at t o.0)
  same-before (linear_effect t w ts) o = ap (λ (s : ℕ). 2 * length ts + 2 * s) (same-sizes ts o.3.0)
  same-before (quotient_effect t y c) o =
      ap (λ (z : ℤ). 4 + 2 * nat_abs z + nat_abs (quotient_of z c) + nat_abs (residue_of z c)) (same_at y o.1)
  same-before (residue_effect t y c) o = ap (λ (z : ℤ). 4 + 2 * nat_abs z + 2 * nat_abs (quotient_of z c)) (same_at y o.1)

  same-held : (es : List Effect) → All (EffectOk source_limits n) es → price_of_held es (integer_at (take n l)) ≡ price_of_held es (integer_at l)
  same-held [] o = refl
  same-held (e ∷ es) (o, os) =
      ap₂ (λ (p : ℕ) (z : ℤ). p + (1 + nat_abs z) + (2 + nat_abs (integer_at (take n l) (target e)) + nat_abs z) + price_of_held es (integer_at (take n l)))
      (same-before e o) (same-result e o)
      ∙ ap₂ (λ (z : ℤ) (q : ℕ). price_of_result e (integer_at l) + (1 + nat_abs (result e (integer_at l))) +
      (2 + nat_abs z + nat_abs (result e (integer_at l))) + q)
      (same_target e o) (same-held es os)

  same-prices : (es : List Effect) → All (EffectOk source_limits n) es → price_of_effects es (integer_at (take n l)) ≡ price_of_effects es (integer_at l)
  same-prices [] o = refl
  same-prices (e ∷ []) (o, os) = same-price e o
  same-prices (e ∷ f ∷ es) o = ap (λ (p : ℕ). 1 + p) (same-held (e ∷ f ∷ es) o)

module _ {file bytes marks : List ℕ} {numbers sums : List ℤ} {r : Declared} (R : RowRead file bytes marks numbers sums r)
    (values : List ℤ) (modes : List ℕ) where
  -- a state in which the row is taken can be priced
  pub readable : takes r.variables r.modes marks numbers sums values modes ≡ true → Reads r.variables values marks numbers
  readable e =
      let passed = and_left (held r.variables r.modes marks numbers sums values modes) (stays_in r.variables marks numbers values) e in
      read-when-held r.modes values modes R.few.0 R.row.usable passed

  -- ---- a step of action k, in a state that is handed in
  module _ (k : ℕ) (of : BytesOfAction source_limits file k bytes) (values_long : length values ≡ 8) (modes_long : length modes ≡ 4)
      {b : Bool} (applies : b ≡ takes r.variables r.modes marks numbers sums values modes) where
    abbrev t : SourceTask
    t = task-of file 0

    abbrev x : State
    x = state values modes

    abbrev priced : Answer State → Answer ℕ
    priced o = then o (λ y. given (price_from t.actions x k))

    abbrev after : State
    after = (stepped_by r.variables r.modes marks numbers sums x).1

    alone : priced (verdict_over (step_verdict b) after) ≡ price_step file x k
    alone =
        ap (λ (q : Answer State × State). priced q.0)
        (step-taken R k of values modes values_long modes_long b after.values after.modes (ap (λ (c : Bool). (c, after)) applies))
        ∙ ap (λ (o : Answer SourceTask). then o (λ u. then (step_source_alone file x k) (λ y. given (price_from u.actions x k)))) (sym (task-by file k of))

    pub not-priced : b ≡ false → refused 12 0 ≡ price_step file x k
    not-priced e = ap (λ (q : Bool). priced (verdict_over (step_verdict q) after)) (sym e) ∙ alone

    pub priced-alone : b ≡ true → {times : List ℤ} {count : ℕ}
        → Listed (strokes_of (effects_at marks numbers) (integer_at (take r.variables values))) times count
        → (price : ℕ) → price ≡ price_of_strokes (take count times) → given price ≡ price_step file x k
    priced-alone e l price p =
        let is = task-by file k of in
        let h = R.holds t is in
        let found = R.found t is k of in
        let ok = (accepted-source-ok file t is).actions_ok in
        let effects-ok = (all-get (SourceActionOk source_limits (length t.variables) (sizes_of t.modes)) t.actions k R.action ok found).effects_ok in
        let same : price ≡ price_from t.actions x k =
        p ∙ ap price_of_strokes l.is ∙ sym (price-is (effects_at marks numbers) (integer_at (take r.variables values)))
        ∙ ap₂ (λ (fs : List Effect) (n : ℕ). price_of_effects fs (integer_at (take n values))) R.row.effects h.variable_count
        ∙ same-prices (length t.variables) values R.action.effects effects-ok
        ∙ ap (λ (o : Option SourceAction). or_zero o (λ a. price_of_effects a.effects (integer_at values))) (sym found) in
        ap given same ∙ ap (λ (q : Bool). priced (verdict_over (step_verdict q) after)) (sym e) ∙ alone

-- ---- a step that is refused has no price
pub not-priced-alone : (file : List ℕ) (x : State) (k : ℕ) {number place : ℕ} → step_source_alone file x k ≡ refused number place
    → refused number place ≡ price_step file x k
not-priced-alone file x k {number} {place} e = by (read_source file) (step_source_alone file x k) refl e
  where
    by : (o : Answer SourceTask) (a : Answer State)
        → a ≡ then o (λ t. step_alone (length t.variables) (length t.modes) (length t.actions) (step_source t) x k)
        → a ≡ refused number place
        → refused number place ≡ then o (λ t. then a (λ y. given (price_from t.actions x k)))
    by (given t) a s q = rw q
    by (refused n p) a s q = cc
