-- The pairing of plans for every task and its lowered task.
-- Assumes nothing.
use mathlib.Core.Path.{refl, sym, subst}
use Prim.Native.Nat.{ℕ}
use mathlib.Core.List.{List}
use lib.Dec.{T}
use lib.IntN.{ℤ, pos}
use Rattle.integers.specs.All.{All}
use Rattle.model.specs.Walks.{Pairing}
use Rattle.model.specs.InTask.{Distinct, targets}
use Rattle.model.specs.Expansion.{all_zero}
use Rattle.model.specs.Tasks.{NumericCondition, SourceAction}
use Rattle.model.specs.Steps.{conditions_hold, modes_hold}
use Rattle.model.specs.NamedSystems.{NamedState, NamedSource, step_named, step_named_source, at_rest, stage_steps, price_at, dead_end_steps}
use Rattle.model.specs.Stages.{on_source_variables, lower_actions, opening, source_number}
use Rattle.model.proofs.Pairing.{pairing}
use Rattle.model.proofs.StageWalk.{Rest}
use Rattle.model.proofs.Outcomes.{Good, lowers, source-conditions-lift}

module _ (lo hi : ℕ → ℤ) (acts : List SourceAction) (all_once : All (λ (a : SourceAction). Distinct (targets a.effects)) acts) (gp : List (ℕ × ℕ))
    (gc : List (NumericCondition ℕ)) where
  abbrev pub GoalS : NamedSource → Type 0
  GoalS s = T (modes_hold gp s.mode) × T (conditions_hold gc s.value)

  abbrev pub GoalR : NamedState → Type 0
  GoalR x = T (modes_hold gp x.mode) × T (conditions_hold (on_source_variables gc) x.value) × Rest x

  pub named-plans-pair-off : (s₀ : NamedSource) → Good lo hi s₀
      → Pairing (step_named_source lo hi acts) (step_named (lower_actions lo hi 1 acts)) at_rest (opening lo hi acts) (source_number lo hi acts) (stage_steps lo hi acts) (price_at acts)
      s₀ GoalS GoalR 1_000_000
  named-plans-pair-off s₀ g = pairing (step_named_source lo hi acts) (step_named (lower_actions lo hi 1 acts)) Rest at_rest (Good lo hi) (opening lo hi acts) (source_number lo hi acts) (stage_steps lo hi acts) (price_at acts)
      (dead_end_steps lo hi acts) (lowers lo hi acts all_once) s₀ GoalS GoalR 1_000_000 g
      (λ s h. (h.0, subst T (sym (source-conditions-lift gc s.value (pos 0) (pos 0) all_zero)) h.1, refl))
      (λ s h. (h.0, subst T (source-conditions-lift gc s.value (pos 0) (pos 0) all_zero) h.1))
      (λ x h. h.2)
