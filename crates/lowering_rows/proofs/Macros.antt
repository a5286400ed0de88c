-- What a source action becomes, from its rows and from its task, is one; and what keeps to the rules on restricted files can be written.
-- Assumes nothing.
use mathlib.Core.Path.{◌≡◌, refl, sym, ap, ap₂, ◌∙◌}
use mathlib.Core.Bool.{cond}
use mathlib.Core.List.{List, [], ◌∷◌, ◌++◌, flat_map, append-nil}
use Prim.Native.Nat.{ℕ, suc, ◌+◌, ◌<◌}
use native.Mathlib.Omega.{arith}
use borrow.Author.Tests.{ne_eqb}
use lib.Dec.{eqb}
use lib.ListN.{length}
use lib.IntN.{ℤ, nat_abs}
use Rattle.integers.specs.All.{All}
use Rattle.integers.proofs.All.{all_map}
use Rattle.integers.specs.Relation.{Relation, below, at_most, at_least, above, equal}
use Rattle.lists.proofs.Writing.{Left, start}
use Rattle.model.specs.Tasks.{Measured, variable, weighted_sum, NumericCondition, Effect, RestrictedAction}
use Rattle.model.specs.Limits.{restricted_limits}
use Rattle.model.specs.TaskOk.{AmountOk, MeasureOk, ConditionOk, RestrictedActionOk}
use Rattle.model.specs.FourRelations.{in_four_relations, all_in_four_relations, in_four}
use Rattle.model.specs.Sums.{sums_in, on_kept, kept, keeping_all}
use Rattle.model.specs.Stages.{Name, Stage, on_source, on_source_terms, on_source_variables, added_bound, opening_action, first_stage, stages_of}
use Rattle.model.specs.Lowering.{numbered_additions, numbered_measure, numbered_conditions, numbered}
use Rattle.file_parts.specs.Row.{conditions_in, row_is}
use Rattle.file_parts.specs.With.{source_part}
use Rattle.file_actions.specs.declared.Effects.{Effects}
use Rattle.file_actions.specs.declared.SumConditions.{SumConditions}
use Rattle.file_actions.specs.Views.{sums_is as conditions_is, effects_is, plain_is, source_action_is}
use Rattle.lowering_stages.specs.declared.Shape.{Shape}
use Rattle.lowering_stages.specs.Shapes.{lower_of, upper_of}
use Rattle.lowering_rows.specs.Bytes.{restricted_action_bytes, with_kept}
use Rattle.lowering_rows.specs.Macros.{Constant, Amount, Fit, AllFit, opening_in, with_own, macro_with, macro_in, Sound}
use Rattle.lowering_rows.proofs.Keeping.{opening-kept, keeping-stages}

-- ---- the source's conditions, numbered, are themselves
terms-back : (n : ℕ) (ts : List (ℕ × ℤ)) → numbered_additions n (on_source_terms ts) ≡ ts
terms-back n [] = refl
terms-back n (t ∷ ts) = ap (λ (z : List (ℕ × ℤ)). t ∷ z) (terms-back n ts)

measure-back : (n : ℕ) (x : Measured ℕ) → numbered_measure n (on_source x) ≡ x
measure-back n (variable i) = refl
measure-back n (weighted_sum ts) = ap weighted_sum (terms-back n ts)

conditions-back : (n : ℕ) (cs : List (NumericCondition ℕ)) (more : List (NumericCondition Name))
    → numbered_conditions n (on_source_variables cs ++ more) ≡ cs ++ numbered_conditions n more
conditions-back n [] more = refl
conditions-back n (c ∷ cs) more = rw (measure-back n c.measured, conditions-back n cs more)

-- ---- the action with its effects, its sums kept, as the model has it
module _ (first : ℕ) (sums : List (List (ℕ × ℤ))) (h : Shape) (from : ℕ) (marks : List ℕ) (numbers : List ℤ) (r : Effects) (own : SumConditions) (j : ℕ) where
  abbrev es : List Effect
  es = effects_is r

  abbrev ds : List Stage
  ds = stages_of (lower_of h) (upper_of h) es

  -- its opening, from rows without +
  abbrev opened : RestrictedAction
  opened = opening_in h (first_stage from ds) es (with_own j own (source_part (plain_is marks numbers r)))

  abbrev opened_in_model : RestrictedAction
  opened_in_model = numbered h.variables h.modes (opening_action (lower_of h) (upper_of h) from (source_action_is marks numbers r own))

  opening-conditions : on_kept j opened_in_model.conditions ≡ opened.conditions
  opening-conditions =
      ap (on_kept j) (conditions-back h.variables (conditions_in marks numbers ++ conditions_is own) (added_bound (lower_of h) (upper_of h) es))
      ∙ opening-kept marks numbers (conditions_is own) h.variables (lower_of h) (upper_of h) es j

  opening-is : in_four (kept first sums j opened_in_model) ≡ in_four (with_kept first sums opened)
  opening-is = ap (λ (cs : List (NumericCondition ℕ)). in_four (with_kept first sums (record {
    mode_conditions = opened.mode_conditions;
    conditions = cs;
    mode_effects = opened.mode_effects;
    additions = opened.additions;
  }))) opening-conditions

  pub macro-is : row_is marks numbers ≡ source_part (plain_is marks numbers r)
      → macro_with first sums h from es (with_own j own (row_is marks numbers)) ≡ keeping_all first sums j (macro_in h from (source_action_is marks numbers r own))
  macro-is e =
      ap (λ (x : RestrictedAction). macro_with first sums h from es (with_own j own x)) e
      ∙ ap₂ ◌∷◌ (sym opening-is)
      (sym (keeping-stages first sums h.variables h.modes (lower_of h) (upper_of h) es from (j + length (sums_in opened_in_model.conditions))))

-- control on entering stages, by their count
pub first-is : (from count : ℕ) (ds : List Stage) → count ≡ length ds → cond (eqb count 0) 0 from ≡ first_stage from ds
first-is from count [] e = rw e
first-is from count (d ∷ ds) e = rw (e, ne_eqb (suc (length ds)) 0 (λ q. omega arith))

-- ---- what is sound can be written
measure-fits : (n : ℕ) (m : Measured ℕ) (k : ℤ) → MeasureOk restricted_limits n m k → nat_abs k < 2147483648
measure-fits n (variable i) k h = omega (arith, h.1)
measure-fits n (weighted_sum ts) k h = omega (arith, h.3)

conditions-fit : (n : ℕ) (cs : List (NumericCondition ℕ)) → All (ConditionOk restricted_limits n) cs → All Constant cs
conditions-fit n = all_map (ConditionOk restricted_limits n) Constant (λ c h. measure-fits n c.measured c.constant h.measures)

-- what is written in the four relations can be written
constants-of-four : (cs : List (NumericCondition ℕ)) → All Constant (all_in_four_relations cs) → All Constant cs
constants-of-four [] h = tt
constants-of-four (c ∷ cs) h = let (first, rest) = by c.relation h in (first, constants-of-four cs rest)
  where
    by : (r : Relation) → All Constant (in_four_relations c.measured r c.constant ++ all_in_four_relations cs)
        → Constant c × All Constant (all_in_four_relations cs)
    by below h = h
    by at_most h = h
    by at_least h = h
    by above h = h
    by equal h = h.1

pub fit-of-four : {x : RestrictedAction} → Fit (in_four x) → Fit x
fit-of-four {x} h = record { constants = constants-of-four x.conditions h.constants; amounts = h.amounts }

additions-fit : (n : ℕ) (es : List (ℕ × ℤ)) → All (AmountOk restricted_limits n) es → All Amount es
additions-fit n = all_map (AmountOk restricted_limits n) Amount (λ e h. omega (arith, h.1.1))

pub sound-fit : (acts : List RestrictedAction) → Sound acts → AllFit acts
sound-fit acts s = all_map (RestrictedActionOk restricted_limits s.variables s.sizes) Fit (λ x h. record {
  constants = conditions-fit s.variables x.conditions h.conditions_ok.conditions_in;
  amounts = additions-fit s.variables x.additions h.additions_in;
}) acts s.ok

-- before anything of a macro is written
pub macro-begun : (old : List ℕ) (at : ℕ) (x : RestrictedAction) (xs : List RestrictedAction)
    → Left old at (flat_map restricted_action_bytes (x ∷ xs)) old at (restricted_action_bytes x ∷ flat_map restricted_action_bytes xs ∷ [])
unfolding flat_map
macro-begun old at x xs = start old at (ap (λ (z : List ℕ). restricted_action_bytes x ++ z) (sym (append-nil (flat_map restricted_action_bytes xs))))
