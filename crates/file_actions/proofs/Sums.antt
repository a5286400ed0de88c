-- The sums of a decoded action: its C measure none, its K one each. And how the sums of a task are those of its actions, one behind another.
-- Assumes nothing.
use mathlib.Core.Path.{◌≡◌, refl, ◌∙◌, sym, ap}
use mathlib.Core.Bool.{Bool, true, false, cond}
use mathlib.Core.List.{List, [], ◌∷◌, ◌++◌, append_assoc, append-nil, map}
use mathlib.Core.Option.{some, none-ne-some}
use Prim.Native.Nat.{ℕ, zero, suc, ◌≤◌}
use native.Mathlib.Omega.{arith}
use lib.Dec.{eqb}
use lib.IntN.{ℤ}
use lib.ListN.{length, length-append, get_elem?, take}
use Rattle.lists.specs.Each.{tabulate}
use Rattle.commands.specs.Table.{letter_c, letter_k}
use Rattle.commands.specs.Encoding.{byte_of}
use Rattle.commands.specs.declared.Command.{Command}
use Rattle.model.specs.Tasks.{NumericCondition, SourceAction, SourceTask}
use Rattle.model.specs.Steps.{natural_at}
use Rattle.model.specs.Decoding.{those, terms_of, conditions_of, sum_condition_of, sum_conditions_of, source_conditions_of}
use Rattle.model.specs.Sums.{sum_in, sums_in, sums_of_source_actions, sums_of_source}
use Rattle.model.proofs.SumsAccepted.{no-sum, sums-append}
use Rattle.file_parts.specs.Layout.{condition_count}
use Rattle.file_parts.specs.Row.{condition_in, conditions_in}
use Rattle.file_actions.specs.declared.SumCondition.{SumCondition}
use Rattle.file_actions.specs.declared.SumConditions.{SumConditions}
use Rattle.file_actions.specs.declared.Effects.{Effects}
use Rattle.file_actions.specs.Views.{terms_is, sum_is, sums_is, sum_terms_is, source_action_is}

-- ---- of the commands of an action: as many as it has K
conditions-sums : (cs : List Command) → sums_in (source_conditions_of cs) ≡ sums_in (sum_conditions_of cs)
conditions-sums cs =
    sums-append (conditions_of cs) (sum_conditions_of cs)
    ∙ ap (λ (z : List (List (ℕ × ℤ))). z ++ sums_in (sum_conditions_of cs)) (no-sum (those letter_c cs))

each-one : (cs : List Command) → length (sums_in (sum_conditions_of cs)) ≡ length (sum_conditions_of cs)
each-one [] = refl
each-one (c ∷ cs) = go (eqb (byte_of c) letter_k) (each-one cs)
  where
    go : (k : Bool) → length (sums_in (sum_conditions_of cs)) ≡ length (sum_conditions_of cs)
        → length (sums_in (cond k (sum_condition_of c (terms_of cs) ∷ sum_conditions_of cs) (sum_conditions_of cs)))
        ≡ length (cond k (sum_condition_of c (terms_of cs) ∷ sum_conditions_of cs) (sum_conditions_of cs))
    go true h = ap suc h
    go false h = h

pub sums-counted : (cs : List Command) → length (sums_in (source_conditions_of cs)) ≡ length (sum_conditions_of cs)
sums-counted cs = ap length (conditions-sums cs) ∙ each-one cs

-- ---- of a decoded action: the terms of its K
none-measured : (n : ℕ) (f : ℕ → NumericCondition ℕ) → ((i : ℕ) → sum_in (f i).measured ≡ []) → sums_in (tabulate n f) ≡ []
unfolding tabulate
none-measured zero f h = refl
none-measured (suc n) f h =
    ap (λ (z : List (List (ℕ × ℤ))). z ++ sums_in (tabulate n (λ i. f (suc i)))) (h 0) ∙ none-measured n (λ i. f (suc i)) (λ i. h (suc i))

places-sums : (ks : List SumCondition) → sums_in (map sum_is ks) ≡ map (λ (k : SumCondition). terms_is k.term_count k.terms) ks
places-sums [] = refl
places-sums (k ∷ ks) = ap (λ (z : List (List (ℕ × ℤ))). terms_is k.term_count k.terms ∷ z) (places-sums ks)

pub decoded-sums : (marks : List ℕ) (numbers : List ℤ) (r : Effects) (s : SumConditions) → sums_in (source_action_is marks numbers r s).conditions ≡ sum_terms_is s
decoded-sums marks numbers r s =
    sums-append (conditions_in marks numbers) (sums_is s)
    ∙ ap (λ (z : List (List (ℕ × ℤ))). z ++ sums_in (sums_is s)) (none-measured (natural_at marks condition_count) (condition_in marks numbers) (λ i. refl))
    ∙ places-sums (take s.count s.places)

-- ---- of a task: those of its actions in order, then those of its goal
-- the first k + 1 actions have the sums of the first k, then those of action k
pub sums_next : (acts : List SourceAction) (k : ℕ) (a : SourceAction) → get_elem? acts k ≡ some a
    → sums_of_source_actions (take (suc k) acts) ≡ sums_of_source_actions (take k acts) ++ sums_in a.conditions
sums_next [] k a e = absurd (none-ne-some a e)
sums_next (b ∷ acts) zero a e = let same : b ≡ a = cc in append-nil (sums_in b.conditions) ∙ ap (λ (x : SourceAction). sums_in x.conditions) same
sums_next (b ∷ acts) (suc k) a e =
    ap (λ (z : List (List (ℕ × ℤ))). sums_in b.conditions ++ z) (sums_next acts k a e)
    ∙ sym (append_assoc (sums_in b.conditions) (sums_of_source_actions (take k acts)) (sums_in a.conditions))

-- so an action and the goal have no more than the task
among : (acts : List SourceAction) (k : ℕ) (a : SourceAction) → get_elem? acts k ≡ some a → length (sums_in a.conditions) ≤ length (sums_of_source_actions acts)
among [] k a e = absurd (none-ne-some a e)
among (b ∷ acts) zero a e =
    let same : b ≡ a = cc in
    omega (arith, length-append (sums_in b.conditions) (sums_of_source_actions acts), ap (λ (x : SourceAction). length (sums_in x.conditions)) same)
among (b ∷ acts) (suc k) a e = omega (arith, length-append (sums_in b.conditions) (sums_of_source_actions acts), among acts k a e)

module _ (t : SourceTask) where
  pub action-sums : (k : ℕ) (a : SourceAction) → get_elem? t.actions k ≡ some a → length (sums_in a.conditions) ≤ length (sums_of_source t)
  action-sums k a e = omega (arith, among t.actions k a e, length-append (sums_of_source_actions t.actions) (sums_in t.goal_conditions))

  pub goal-sums : length (sums_in t.goal_conditions) ≤ length (sums_of_source t)
  goal-sums = omega (arith, length-append (sums_of_source_actions t.actions) (sums_in t.goal_conditions))
