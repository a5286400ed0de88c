-- "Swapping the stock of two posts needs both old values": a swap worked by hand, and what each call says of it.
-- Assumes nothing.
use Rattle.std.specs.Prelude.{◌≡◌, ℕ, List, [], ◌∷◌, ◌++◌, replicate, pos}
use Rattle.answers.specs.Answer.{given, then}
use Rattle.model.specs.Tasks.{State}
use Rattle.model.specs.Plans.{plan_bytes_of}
use Rattle.model.specs.Judging.{judge_source, judge_restricted, price_plan, lower_bytes, expand_bytes, project_bytes}

-- V 0 9 3; V 0 9 5; A; L 0 0; T 1 1; L 1 0; T 0 1; G; C 0 = 5; C 1 = 3; Z
abbrev pub swap_task : List ℕ
swap_task =
    86 ∷ 0 ∷ 0 ∷ 0 ∷ 0 ∷ 9 ∷ 0 ∷ 0 ∷ 0 ∷ 3 ∷ 0 ∷ 0 ∷ 0 ∷ 86 ∷ 0 ∷ 0 ∷ 0 ∷ 0 ∷ 9 ∷ 0 ∷ 0 ∷ 0 ∷ 5 ∷ 0 ∷ 0 ∷ 0
    ∷ 65 ∷ 76 ∷ 0 ∷ 0 ∷ 0 ∷ 0 ∷ 0 ∷ 84 ∷ 1 ∷ 1 ∷ 0 ∷ 0 ∷ 0 ∷ 76 ∷ 1 ∷ 0 ∷ 0 ∷ 0 ∷ 0 ∷ 84 ∷ 0 ∷ 1 ∷ 0 ∷ 0 ∷ 0
    ∷ 71 ∷ 67 ∷ 0 ∷ 4 ∷ 5 ∷ 0 ∷ 0 ∷ 0 ∷ 67 ∷ 1 ∷ 4 ∷ 3 ∷ 0 ∷ 0 ∷ 0 ∷ 90 ∷ []

-- the plan of its one action
abbrev pub swap_plan : List ℕ
swap_plan = 0 ∷ 0 ∷ []

-- The restricted plan: the opening; of each effect Drain, Refill and the Move into its hold; of each target Clear and the Move from its hold.
-- A stage's falling is done as often as its counter says, then comes its turn
abbrev pub swap_walk : List ℕ
swap_walk =
    0
    ∷ (replicate 5 1 ++ (3 ∷ (replicate 5 4 ++ (6 ∷ (replicate 5 7 ++ (9 ∷ (replicate 3 10 ++ (12 ∷ (replicate 3 13 ++ (15 ∷ (replicate 3 16 ++ (18
    ∷ (replicate 3 19 ++ (21 ∷ (replicate 5 22 ++ (24 ∷ (replicate 5 25 ++ (27 ∷ (replicate 3 28 ++ (30 ∷ []))))))))))))))))))))

-- the two values change places; in R, A, B and the three holds are 0 and control is 0
abbrev pub swap_end : State
swap_end = record { values = pos 5 ∷ pos 3 ∷ []; modes = [] }

abbrev pub swap_end_in_r : State
swap_end_in_r = record { values = pos 5 ∷ pos 3 ∷ pos 0 ∷ pos 0 ∷ pos 0 ∷ pos 0 ∷ pos 0 ∷ []; modes = 0 ∷ [] }

-- The price is 1 for the opening, and for each effect 2 + 2 × |term variable|, 1 + |result| into its hold, 2 + |target before| + |result| out of
-- it: 1 + (12 + 6 + 10) + (8 + 4 + 10)
pub record SwapWorks : Type 0 where
  pub valid : judge_source swap_task swap_plan ≡ given (1, swap_end)
  pub price : price_plan swap_task swap_plan ≡ given 51
  pub expands : expand_bytes swap_task swap_plan ≡ given (plan_bytes_of swap_walk)
  pub valid_in_r : then (lower_bytes swap_task) (λ lowered. judge_restricted lowered (plan_bytes_of swap_walk)) ≡ given (51, swap_end_in_r)
  pub projects : project_bytes swap_task (plan_bytes_of swap_walk) ≡ given swap_plan
