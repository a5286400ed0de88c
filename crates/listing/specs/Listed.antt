-- The lines of a plan's steps, each taken by the rows of a task, from a state on, and what the steps cost.
-- Assumes nothing.
use Rattle.std.specs.Prelude.{◌≡◌, ℕ, suc, ◌+◌, ◌-◌, ◌*◌, ◌≤◌, cond, List, [], ◌∷◌, ◌++◌, ltb, length, take, drop, ℤ}
use Rattle.lists.specs.Writing.{Wrote}
use Rattle.model.specs.Tasks.{State}
use Rattle.model.specs.Listing.{step_line}
use Rattle.source_step.specs.Step.{state}
use Rattle.source_step.specs.Table.{Table, declared_by, takes_by, after_by, price_by, Usables}
use Rattle.listing.specs.Lines.{LINE}
use Rattle.listing.specs.declared.Lined.{Lined}

-- a price that no step passes, whatever the values
abbrev pub CEILING : ℕ
CEILING = 40_000_000_000

-- required: steps can be taken by the rows, those asked for are in the plan, which is no longer than a plan may be, those before cost no more
-- than so many steps may, and the arrays are whole
pub record Listable (T : Table) (p : List ℕ) (from until before : ℕ) (values : List ℤ) (modes : List ℕ) : Type 0 where
  pub usables : Usables T
  pub ordered : from ≤ until
  pub in_plan : until ≤ length p
  pub few : until ≤ 1_000_000
  pub cheap : before ≤ CEILING * from
  pub values_long : length values ≡ 8
  pub modes_long : length modes ≡ 4

module _ (T : Table) where
  -- the lines of the steps from step i on, in state x
  unfoldable pub lines_by : ℕ → List ℕ → State → List ℕ
  lines_by i [] x = []
  lines_by i (k ∷ ks) x =
      cond (ltb k T.count)
      (cond (takes_by T x k) (step_line i k (price_by T x k) (declared_by T (after_by T x k)) ++ lines_by (suc i) ks (after_by T x k)) [])
      []

  -- the lines of the steps from one on and until another
  abbrev pub lines_to : ℕ → ℕ → List ℕ → State → List ℕ
  lines_to from until p x = lines_by from (drop from (take until p)) x

  -- what the steps cost, from state x on
  unfoldable pub prices_by : List ℕ → State → ℕ
  prices_by [] x = 0
  prices_by (k ∷ ks) x =
      cond (ltb k T.count) (cond (takes_by T x k) (price_by T x k + prices_by ks (after_by T x k)) 0) 0

  abbrev pub prices_to : ℕ → ℕ → List ℕ → State → ℕ
  prices_to from until p x = prices_by (drop from (take until p)) x

-- ensured: those lines were written, and what is left of all lines are those from the next step on, in the state after; what those steps cost
-- was added to the price of the steps before, and what is left to pay is the price of the steps from the next on
pub record LinedTo (T : Table) (p : List ℕ) (from until before : ℕ) (values : List ℤ) (modes : List ℕ) (old : List ℕ) (at : ℕ) (after : List ℕ)
    (r : Lined) (values' : List ℤ) (modes' : List ℕ) : Type 0 where
  pub wrote : Wrote old at (lines_to T from until p (state values modes)) after r.place
  pub few : r.place ≤ at + LINE * (until - from)
  pub further : until ≤ r.next
  pub in_plan : r.next ≤ length p
  pub left : lines_by T from (drop from p) (state values modes)
      ≡ lines_to T from until p (state values modes) ++ lines_by T r.next (drop r.next p) (state values' modes')
  pub sum : r.spent ≡ before + prices_to T from until p (state values modes)
  pub left_to_pay : prices_by T (drop from p) (state values modes)
      ≡ prices_to T from until p (state values modes) + prices_by T (drop r.next p) (state values' modes')
  pub cheap : r.spent ≤ CEILING * r.next
  pub values_long : length values' ≡ 8
  pub modes_long : length modes' ≡ 4
