-- The number of each action's opening in R, from the rows of the actions before it.
-- Assumes nothing.
use Rattle.std.specs.Prelude.{◌≡◌, ℕ, ◌+◌, ◌*◌, ◌≤◌, ◌<◌, List, [], get_or, ℤ}
use Rattle.std.proofs.Math.Option.{some}
use Rattle.std.proofs.Math.ListN.{get_elem?}
use Rattle.model.specs.Tasks.{SourceAction}
use Rattle.model.specs.Stages.{result_stages, count_actions, macro_size, opening}
use Rattle.source_step.specs.Row.{effect_at, effects_at}
use Rattle.source_step.specs.Ready.{marks_of}

-- how many restricted actions effect e of these marks becomes where there are several: Clear, two Moves, and the stages before them
pub record EffectSized (marks : List ℕ) (e : ℕ) (r : ℕ) : Type 0 where
  pub is : (numbers : List ℤ) → r ≡ 9 + count_actions (result_stages (effect_at marks numbers e) [])
  pub few : r ≤ 33

-- how many restricted actions an action with these marks becomes, whatever its numbers and the bounds
pub record Sized (marks : List ℕ) (r : ℕ) : Type 0 where
  pub is : (numbers : List ℤ) (a : SourceAction) → effects_at marks numbers ≡ a.effects → (lower upper : ℕ → ℤ) → r ≡ macro_size lower upper a
  pub few : r ≤ 100

-- the effects of action k are those of these marks, with some numbers
pub record Marked (acts : List SourceAction) (marks : List (List ℕ)) (k : ℕ) : Type 0 where
  pub action : SourceAction
  pub numbers : List ℤ
  pub found : get_elem? acts k ≡ some action
  pub effects : effects_at (marks_of marks k) numbers ≡ action.effects

-- the numbers of the openings of actions with these marks, and behind them the count of all actions
pub record Opened (marks : List (List ℕ)) (count : ℕ) (openings : List ℕ) : Type 0 where
  pub is : (acts : List SourceAction) → ((k : ℕ) → k < count → Marked acts marks k) → (lower upper : ℕ → ℤ) (k : ℕ) → k ≤ count → get_or openings k 0
      ≡ opening lower upper acts k
  pub few : (k : ℕ) → k ≤ count → get_or openings k 0 ≤ 100 * k
