-- How long a listing is at most. Values of a source task lie within 10,000 of 0 before and after a step, and an action has at most three
-- effects: so a step costs at most 330,034, a plan less than 10 ^ 12, and the line of a step has at most 73 bytes.
-- Assumes nothing.
use mathlib.Core.Path.{◌≡◌, refl, sym, ap, ◌∙◌}
use Prim.Native.Nat.{ℕ, suc, ◌+◌, ◌*◌, ◌^◌, ◌≤◌, ◌<◌}
use native.Mathlib.Omega.{arith}
use mathlib.Core.Bool.{Bool, true, false, cond, ◌&&◌}
use mathlib.Core.List.{List, [], ◌∷◌, ◌++◌, map}
use lib.Dec.{ltb}
use lib.ListN.{length, length-append, length-take, take}
use lib.IntN.{ℤ, pos, negsuc, nat_abs}
use lib.Signed.{le_z}
use borrow.Author.Tests.{ltb-true}
use Rattle.answers.specs.Refusals.{number_of}
use Rattle.answers.specs.declared.Reason.{Reason}
use Rattle.answers.specs.declared.Reason.TheVariants.{NotAllowed, CutShort, BytesBehind, OverLimit, Undeclared, OutOfRange, NamedTwice}
use Rattle.answers.specs.declared.Reason.TheVariants.{OutputShort, OverMillion, PlanLength, NoAction, DoesNotApply, GoalNotMet, SumWithoutTerm}
use Rattle.integers.specs.All.{All}
use Rattle.integers.proofs.Parts.{ints, abs}
use Rattle.lists.proofs.Loops.{and_left, and_right}
use Rattle.listing_text.proofs.Digits.{at_most}
use Rattle.model.specs.Limits.{source_limits}
use Rattle.model.specs.Tasks.{Effect, add_effect, linear_effect, quotient_effect, residue_effect, SourceVariable, SourceTask, State}
use Rattle.model.specs.TaskOk.{EffectOk, SourceActionOk, SourceVariableOk}
use Rattle.model.specs.Steps.{integer_at, target, result, results, within_bounds, sizes_of}
use Rattle.model.specs.Expansion.{magnitudes, price_of_effect, price_of_result, price_of_held, price_of_effects}
use Rattle.model.specs.Listing.{decimal, decimal_signed, fields_of, step_line, goal_line, refused_line}
use Rattle.model.proofs.StageWalk.{all-get, all_map}
use Rattle.source_step.specs.Row.{stays_in}
use Rattle.source_step.specs.Ready.{marks_of, numbers_of, RowAt}
use Rattle.source_step.specs.Table.{Table, declared_by, held_by, takes_by, after_by, price_by, values_by, RowsOf, Inside}
use Rattle.source_step.proofs.InRange.{quotient-small, residue-small}
use Rattle.source_step.proofs.Steps.{within_all}
use Rattle.source_step.proofs.Taking.{bounds-are}
use Rattle.source_step.proofs.Standing.{reads}
use Rattle.source_step.proofs.Tables.{stands, inside-after}
use Rattle.listing.specs.Listed.{lines_by, prices_by}
use Rattle.listing.specs.Parts.{LONGEST, ENDS}
use Rattle.listing.proofs.Lines.{natural}

-- ---- the price of effects that read values near 0 and give such results
abbrev Near : (ℕ → ℤ) → Type 0
Near v = (j : ℕ) → nat_abs (v j) ≤ 10_000

abbrev NearResult : (ℕ → ℤ) → Effect → Type 0
NearResult v e = nat_abs (result e v) ≤ 10_000

-- alone: the opening, the effect's stages before Clear, then Clear and the Move
alone-less : (v : ℕ → ℤ) (e : Effect) → price_of_effect e v ≤ price_of_result e v + (3 + nat_abs (v (target e)) + nat_abs (result e v))
alone-less v (add_effect t c) = omega arith
alone-less v (linear_effect t w ts) = omega arith
alone-less v (quotient_effect t y c) = omega arith
alone-less v (residue_effect t y c) = omega arith

module _ (v : ℕ → ℤ) (near : Near v) (n : ℕ) where
  magnitudes-most : (ts : List (ℕ × ℤ)) → magnitudes ts v ≤ 10_000 * length ts
  magnitudes-most [] = omega arith
  magnitudes-most (t ∷ ts) = omega (arith, near t.0, magnitudes-most ts)

  result-most : (e : Effect) → EffectOk source_limits n e → price_of_result e v ≤ 80_008
  result-most (add_effect t c) o = omega (arith, near t)
  result-most (linear_effect t w ts) o = omega (arith, o.2, magnitudes-most ts)
  result-most (quotient_effect t y c) o = omega (arith, near y, quotient-small (v y) c, residue-small (v y) c o.2.0, o.2.1)
  result-most (residue_effect t y c) o = omega (arith, near y, quotient-small (v y) c)

  held-most : (es : List Effect) → All (EffectOk source_limits n) es → All (NearResult v) es → price_of_held es v ≤ 110_011 * length es
  held-most [] os hs = omega arith
  held-most (e ∷ es) (o, os) (h, hs) = omega (arith, result-most e o, near (target e), h, held-most es os hs)

  effects-most : (es : List Effect) → length es ≤ 3 → All (EffectOk source_limits n) es → All (NearResult v) es → price_of_effects es v ≤ 330_034
  effects-most [] l os hs = omega arith
  effects-most (e ∷ []) l (o, os) (h, hs) = omega (arith, alone-less v e, result-most e o, near (target e), h)
  effects-most (e ∷ f ∷ es) l os hs = omega (arith, l, held-most (e ∷ f ∷ es) os hs)

-- results within bounds that are near 0
results-near : (lower upper : ℕ → ℤ) → Near lower → Near upper → (v : ℕ → ℤ) (es : List Effect)
    → within_bounds lower upper (results es v) ≡ true → All (NearResult v) es
results-near lower upper lo hi v [] h = tt
results-near lower upper lo hi v (e ∷ es) h =
    let j : ℕ = target e in
    let z : ℤ = result e v in
    let rest : Bool = within_bounds lower upper (results es v) in
    let b = and_left (le_z (lower j) z && le_z z (upper j)) rest h in
    let p = and_left (le_z (lower j) z) (le_z z (upper j)) b in
    let q = and_right (le_z (lower j) z) (le_z z (upper j)) b in (
      omega (ints, p, q, abs z, abs (lower j), abs (upper j), lo j, hi j),
      results-near lower upper lo hi v es (and_right (le_z (lower j) z && le_z z (upper j)) rest h),
    )

-- ---- the lengths of lines
signed-most : (z : ℤ) → nat_abs z ≤ 10_000 → length (decimal_signed z) ≤ 6
unfolding decimal_signed
signed-most (pos n) h = omega (arith, at_most 4 n (omega (arith, h)))
signed-most (negsuc n) h = omega (arith, at_most 4 (suc n) (omega (arith, h)))

values-most : (zs : List ℤ) → Near (integer_at zs) → length (fields_of zs) ≤ 7 * length zs + 1
values-most [] h = omega arith
values-most (z ∷ zs) h = omega (arith, signed-most z (h 0), length-append (decimal_signed z) (fields_of zs), values-most zs (λ j. h (suc j)))

-- a number of at most so many digits, and what stands behind it
before-most : (k n : ℕ) (rest : List ℕ) → n < 10 ^ suc k → length (decimal_signed (pos n) ++ rest) ≤ suc k + length rest
before-most k n rest h = omega (arith, length-append (decimal_signed (pos n)) rest, ap length (natural n), at_most k n h)

line-most : (i k price : ℕ) (y : State) → i < 1_000_000 → k < 100 → price < 1_000_000 → Near (integer_at y.values) → length y.values ≤ 8
    → length (step_line i k price y) ≤ LONGEST
unfolding step_line
line-most i k price y hi hk hp h l =
    let values : List ℕ = fields_of y.values in
    let priced : List ℕ = fields_of (pos price ∷ y.values) in
    let number = length-append (decimal i) (fields_of (pos k ∷ pos price ∷ y.values)) in
    omega (arith, number, at_most 5 i hi, before-most 1 k priced hk, before-most 5 price values hp, values-most y.values h, l)

pub goal-most : (total : ℕ) → total < 10 ^ 12 → length (goal_line total) ≤ 18
goal-most total h = omega (arith, before-most 11 total (10 ∷ []) h)

-- the numbers of the reasons have at most two digits
pub number-few : (reason : Reason) → number_of reason < 100
number-few NotAllowed = omega arith
number-few CutShort = omega arith
number-few BytesBehind = omega arith
number-few OverLimit = omega arith
number-few Undeclared = omega arith
number-few OutOfRange = omega arith
number-few NamedTwice = omega arith
number-few OutputShort = omega arith
number-few OverMillion = omega arith
number-few PlanLength = omega arith
number-few NoAction = omega arith
number-few DoesNotApply = omega arith
number-few GoalNotMet = omega arith
number-few SumWithoutTerm = omega arith

pub refused-most : (number place : ℕ) → number < 256 → place < 2 ^ 64 → length (refused_line number place) ≤ ENDS
refused-most number place h l =
    let behind : List ℕ = fields_of (pos place ∷ []) in
    omega (arith, before-most 2 number behind (omega (arith, h)), before-most 19 place (10 ∷ []) (omega (arith, l)))

-- ---- a step that is taken, from a state within its bounds
module _ {t : SourceTask} {T : Table} (R : RowsOf t T) where
  bounds-near : (f : SourceVariable → ℤ) → ((b : SourceVariable) → SourceVariableOk source_limits b → nat_abs (f b) ≤ 10_000)
      → Near (integer_at (map f t.variables))
  bounds-near f h = within_all f t.variables
      (all_map (SourceVariableOk source_limits) (λ (b : SourceVariable). nat_abs (f b) ≤ 10_000) h t.variables R.ready.ok.variables_in)

  lower-near : Near (integer_at (take T.variables R.lower))
  lower-near = rw R.ready.lowers_are (bounds-near (λ b. b.lower) (λ b h. h.0))

  upper-near : Near (integer_at (take T.variables R.upper))
  upper-near = rw R.ready.uppers_are (bounds-near (λ b. b.upper) (λ b h. h.1))

  module _ (x : State) (I : Inside R x) (k : ℕ) (l : k < T.count) where
    abbrev row : RowAt t.actions T.variables T.modes R.lower R.upper R.sizes T.marks T.numbers k
    row = R.ready.rows_are k l

    action-ok : SourceActionOk source_limits (length t.variables) (sizes_of t.modes) row.action
    action-ok = all-get (SourceActionOk source_limits (length t.variables) (sizes_of t.modes)) t.actions k row.action
        R.ready.ok.actions_ok row.found

    module _ (h : takes_by T x k ≡ true) where
      given-near : All (NearResult (values_by T x)) row.action.effects
      given-near = results-near _ _ lower-near upper-near (values_by T x) row.action.effects
          (sym (bounds-are I.shaped row.row)
          ∙ and_right (held_by T x k) (stays_in T.variables (marks_of T.marks k) (numbers_of T.numbers k) x.values) h)

      price-most : price_by T x k ≤ 330_034
      price-most =
          rw row.row.effects
          (effects-most (values_by T x) (reads (stands R x I) l).near (length t.variables) row.action.effects
          action-ok.effects_few action-ok.effects_ok given-near)

      step-line-most : (i : ℕ) → i < 1_000_000 → length (step_line i k (price_by T x k) (declared_by T (after_by T x k))) ≤ LONGEST
      step-line-most i hi =
          let y : State = after_by T x k in
          let few : k < 100 = omega (arith, l, R.ready.counted, R.ready.ok.actions_few) in
          let count : length (take T.variables y.values) ≤ 8 = omega (arith, length-take T.variables y.values, R.variables_few) in
          let near : Near (values_by T y) = (reads (stands R y (inside-after R x I k l h)) l).near in
          line-most i k (price_by T x k) (declared_by T y) hi few (omega (arith, price-most)) near count

  -- ---- a plan, from such a state on
  pub lines-most : (p : List ℕ) (i : ℕ) (x : State) → Inside R x → i + length p ≤ 1_000_000 → length (lines_by T i p x) ≤ LONGEST * length p
  unfolding lines_by
  lines-most [] i x I f = omega arith
  lines-most (k ∷ ks) i x I f =
      go (ltb k T.count) refl (takes_by T x k) refl (λ J. lines-most ks (suc i) (after_by T x k) J (omega (arith, f)))
    where
      line : List ℕ
      line = step_line i k (price_by T x k) (declared_by T (after_by T x k))

      rest : List ℕ
      rest = lines_by T (suc i) ks (after_by T x k)

      go : (a : Bool) → ltb k T.count ≡ a → (b : Bool) → takes_by T x k ≡ b → (Inside R (after_by T x k) → length rest ≤ LONGEST * length ks)
          → length (cond a (cond b (line ++ rest) []) []) ≤ LONGEST * suc (length ks)
      go true e true h ih =
          let l : k < T.count = ltb-true k T.count e in
          omega (arith, length-append line rest, step-line-most x I k l h i (omega (arith, f)), ih (inside-after R x I k l h))
      go true e false h ih = omega arith
      go false e b h ih = omega arith

  pub total-most : (p : List ℕ) (x : State) → Inside R x → prices_by T p x ≤ 330_034 * length p
  unfolding prices_by
  total-most [] x I = omega arith
  total-most (k ∷ ks) x I = go (ltb k T.count) refl (takes_by T x k) refl (λ J. total-most ks (after_by T x k) J)
    where
      rest : ℕ
      rest = prices_by T ks (after_by T x k)

      go : (a : Bool) → ltb k T.count ≡ a → (b : Bool) → takes_by T x k ≡ b → (Inside R (after_by T x k) → rest ≤ 330_034 * length ks)
          → cond a (cond b (price_by T x k + rest) 0) 0 ≤ 330_034 * suc (length ks)
      go true e true h ih =
          let l : k < T.count = ltb-true k T.count e in
          omega (arith, price-most x I k l h, ih (inside-after R x I k l h))
      go true e false h ih = omega arith
      go false e b h ih = omega arith
