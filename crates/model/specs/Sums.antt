-- M-103, "Conditions on sums": a restricted task whose conditions may measure weighted sums, and the task that keeps a variable for each of
-- them instead, written in four relations.
-- Assumes nothing.
use Rattle.std.specs.Prelude.{ℕ, zero, suc, ◌+◌, cond, List, [], ◌∷◌, ◌++◌, map, eqb, length, ℤ, pos, negsuc, ◌+ℤ◌}
use Rattle.model.specs.Tasks.{Measured, variable, weighted_sum, NumericCondition, SourceAction, RestrictedAction, SourceTask, RestrictedTask, State}
use Rattle.model.specs.Steps.{integer_at, weigh}
use Rattle.model.specs.FourRelations.{comparing, all_in_four_relations, in_four}

-- ---- the sums of conditions, of actions and of a task, in file order: the terms of each K
abbrev pub sum_in : Measured ℕ → List (List (ℕ × ℤ))
sum_in (variable i) = []
sum_in (weighted_sum ts) = ts ∷ []

abbrev pub sums_in : List (NumericCondition ℕ) → List (List (ℕ × ℤ))
sums_in [] = []
sums_in (c ∷ cs) = sum_in c.measured ++ sums_in cs

abbrev pub sums_of_actions : List RestrictedAction → List (List (ℕ × ℤ))
sums_of_actions [] = []
sums_of_actions (a ∷ acts) = sums_in a.conditions ++ sums_of_actions acts

abbrev pub sums_of : RestrictedTask → List (List (ℕ × ℤ))
sums_of r = sums_of_actions r.actions ++ sums_in r.goal_conditions

-- the same of a source task
abbrev pub sums_of_source_actions : List SourceAction → List (List (ℕ × ℤ))
sums_of_source_actions [] = []
sums_of_source_actions (a ∷ acts) = sums_in a.conditions ++ sums_of_source_actions acts

abbrev pub sums_of_source : SourceTask → List (List (ℕ × ℤ))
sums_of_source t = sums_of_source_actions t.actions ++ sums_in t.goal_conditions

-- ---- conditions. "K becomes a C on that variable": the first of these conditions that has a sum on variable j, the next on the next
abbrev pub kept_variable : ℕ → Measured ℕ → ℕ
kept_variable j (variable i) = i
kept_variable j (weighted_sum ts) = j

abbrev pub on_kept : ℕ → List (NumericCondition ℕ) → List (NumericCondition ℕ)
on_kept j [] = []
on_kept j (c ∷ cs) = comparing (variable (kept_variable j c.measured)) c.relation c.constant ∷ on_kept (j + length (sum_in c.measured)) cs

-- ---- additions
-- what an action adds to a variable; 0 where it adds nothing
abbrev pub amount : ℤ → ℕ → ℕ → ℤ
amount d v i = cond (eqb v i) d (pos 0)

abbrev pub added_to : List (ℕ × ℤ) → ℕ → ℤ
added_to [] i = pos 0
added_to (e ∷ es) i = amount e.1 e.0 i +ℤ added_to es i

-- + where it is not 0
abbrev pub addition : ℕ → ℤ → List (ℕ × ℤ)
addition j (pos zero) = []
addition j (pos (suc k)) = (j, pos (suc k)) ∷ []
addition j (negsuc k) = (j, negsuc k) ∷ []

-- "every restricted action that adds d to a source variable adds weight × d to it": to the kept variables, numbered from j
abbrev pub kept_additions : ℕ → List (List (ℕ × ℤ)) → List (ℕ × ℤ) → List (ℕ × ℤ)
kept_additions j [] es = []
kept_additions j (ts ∷ sums) es = addition j (weigh ts (added_to es)) ++ kept_additions (suc j) sums es

-- ---- the task. `first` is the number of the first kept variable, `sums` the sums of all; an action's own begin at number j
module _ (first : ℕ) (sums : List (List (ℕ × ℤ))) where
  abbrev pub kept : ℕ → RestrictedAction → RestrictedAction
  kept j a = record {
    mode_conditions = a.mode_conditions;
    conditions = on_kept j a.conditions;
    mode_effects = a.mode_effects;
    additions = a.additions ++ kept_additions first sums a.additions;
  }

  abbrev pub keeping_all : ℕ → List RestrictedAction → List RestrictedAction
  keeping_all j [] = []
  keeping_all j (a ∷ acts) = in_four (kept j a) ∷ keeping_all (j + length (sums_in a.conditions)) acts

-- the value of each sum
abbrev pub sum_values : List (List (ℕ × ℤ)) → List ℤ → List ℤ
sum_values sums values = map (λ ts. weigh ts (integer_at values)) sums

-- "R keeps one variable per K, in file order after the holds, starting at the sum"
abbrev pub keep_sums : RestrictedTask → RestrictedTask
keep_sums r = record {
  starts = r.starts ++ sum_values (sums_of r) r.starts;
  modes = r.modes;
  actions = keeping_all (length r.starts) (sums_of r) (length r.starts) r.actions;
  goal_modes = r.goal_modes;
  goal_conditions = all_in_four_relations (on_kept (length r.starts + length (sums_of_actions r.actions)) r.goal_conditions);
}

-- a state with the value of each sum behind its values
abbrev pub with_sums : List (List (ℕ × ℤ)) → State → State
with_sums sums x = record { values = x.values ++ sum_values sums x.values; modes = x.modes }
