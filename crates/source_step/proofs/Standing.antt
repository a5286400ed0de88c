-- What a loop over the steps of a plan needs of rows: in a state within the bounds of its task a step can be taken, and it is the model's step; the state after lies within the bounds too.
-- Assumes nothing.
use mathlib.Core.Path.{◌≡◌, refl, sym, ap, ap₂, ◌∙◌}
use Prim.Native.Nat.{ℕ, ◌<◌, ◌≤◌}
use native.Mathlib.Omega.{arith}
use mathlib.Core.Bool.{Bool, true, false, cond, ◌&&◌}
use mathlib.Core.Option.{Option, none, some}
use mathlib.Core.List.{List}
use lib.ListN.{take}
use lib.IntN.{ℤ, nat_abs}
use Rattle.lists.proofs.Loops.{and_left, and_right}
use Rattle.model.specs.Tasks.{Effect, SourceAction, SourceTask, State}
use Rattle.model.specs.Systems.{bind, provided}
use Rattle.model.specs.Steps.{integer_at, natural_at, modes_hold, conditions_hold, results, within_bounds, try_source, values_within_bounds, modes_below_sizes, sound_source, lower_bounds, upper_bounds, step_source, source_goal_holds}
use Rattle.model.specs.Judging.{declared_part}
use Rattle.model.proofs.Pairing.{none-not-some, some-injective}
use Rattle.source_step.specs.Parts.{effects_fit, values_between, modes_below}
use Rattle.source_step.specs.Step.{state, step_of, handed_back, Shaped, Tried, Kept}
use Rattle.source_step.proofs.Sound.{values-sound, modes-sound}
use Rattle.source_step.proofs.Steps.{values-near, step-of-task}
use Rattle.source_step.proofs.Trying.{tried-keeps}
use Rattle.source_step.specs.Row.{effects_at, stays_in, held, Usable, Reads, Stepped}
use Rattle.source_step.proofs.Taking as taking
use Rattle.source_step.specs.Ready.{marks_of, numbers_of, sums_of, Ready, Standing}

-- what a step leaves passes the test that it makes last
last-passed : {A : Type 0} (f s : Bool) (o : Option A) (ok : A → Bool) (y : A) → cond f (bind o (λ z. cond s (cond (ok z) (some z) none) none)) none ≡ some y → ok y ≡ true
last-passed false s o ok y e = absurd (none-not-some refl e)
last-passed true s none ok y e = absurd (none-not-some refl e)
last-passed true false (some z) ok y e = absurd (none-not-some refl e)
last-passed true true (some z) ok y e = go (ok z) refl e
  where
    go : (b : Bool) → ok z ≡ b → cond b (some z) none ≡ some y → ok y ≡ true
    go true q p = ap ok (sym (some-injective p)) ∙ q
    go false q p = absurd (none-not-some refl p)

sound-after : (lower upper : List ℤ) (sizes : List ℕ) (x y : State) (a : SourceAction) → step_of lower upper sizes x a ≡ some y → sound_source (integer_at lower) (integer_at upper) sizes y ≡ true
unfolding step_of
sound-after lower upper sizes x y a e =
    last-passed (effects_fit a.effects (integer_at x.values)) (sound_source (integer_at lower) (integer_at upper) sizes x) (try_source (integer_at lower) (integer_at upper) x a) (sound_source (integer_at lower) (integer_at upper) sizes) y e

module _ {count : ℕ} {marks : List (List ℕ)} {numbers : List (List ℤ)} {n : ℕ} {lower upper : List ℤ} {m : ℕ} {sizes : List ℕ} where
  -- ---- a state within its bounds
  module _ {values : List ℤ} {modes : List ℕ} (S : Standing count marks numbers n lower upper m sizes values modes) where
    values-within : values_between n lower upper values ≡ true
    values-within =
        let h = S.shaped in
        sym (values-sound n lower upper values (omega (arith, h.values_long, h.variables_few)))
        ∙ and_left (values_within_bounds (integer_at (take n lower)) (integer_at (take n upper)) (take n values)) (modes_below_sizes (take m sizes) (take m modes)) S.sound

    modes-within : modes_below m sizes modes ≡ true
    modes-within =
        let h = S.shaped in
        sym (modes-sound m sizes modes (omega (arith, h.sizes_long, h.modes_few)) (omega (arith, h.modes_long, h.modes_few)))
        ∙ and_right (values_within_bounds (integer_at (take n lower)) (integer_at (take n upper)) (take n values)) (modes_below_sizes (take m sizes) (take m modes)) S.sound

    near : (i : ℕ) → nat_abs (integer_at (take n values) i) ≤ 10000
    near = let r = S.ready in values-near S.task r.ok (declared_part n m (state values modes)) (rw (r.lowers_are, r.uppers_are, r.sizes_are) at S.sound)

    module _ {k : ℕ} (l : k < count) where
      pub usable : Usable n (marks_of marks k) (numbers_of numbers k) (sums_of numbers)
      usable = (S.ready.rows_are k l).row.usable

      pub reads : Reads n values (marks_of marks k) (numbers_of numbers k)
      reads = record { variables_few = S.shaped.variables_few; near = near; effects = usable.effects }

      pub fits : effects_fit (effects_at (marks_of marks k) (numbers_of numbers k)) (integer_at (take n values)) ≡ true
      fits =
          let R = (S.ready.rows_are k l).row in
          ap (λ (es : List Effect). effects_fit es (integer_at (take n values))) R.effects ∙ R.fits values values-within

      -- the rows ask just the conditions
      pub opens : let a = (S.ready.rows_are k l).action in
          held n m (marks_of marks k) (numbers_of numbers k) (sums_of numbers) values modes
          ≡ (modes_hold a.mode_conditions (natural_at (take m modes)) && conditions_hold a.conditions (integer_at (take n values)))
      opens =
          let R = (S.ready.rows_are k l).row in
          let a = (S.ready.rows_are k l).action in
          ap₂ (λ (p q : Bool). p && q)
          (R.modes modes ∙ ap (λ (b : Bool). b && modes_hold a.mode_conditions (natural_at (take m modes))) modes-within)
          (R.values values ∙ ap (λ (b : Bool). b && conditions_hold a.conditions (integer_at (take n values))) values-within)

    -- the goal is met
    pub goal-met : held n m (marks_of marks count) (numbers_of numbers count) (sums_of numbers) values modes
        ≡ source_goal_holds S.task (declared_part n m (state values modes))
    goal-met =
        let R = S.ready.goal_row in
        ap₂ (λ (p q : Bool). p && q)
        (R.modes modes ∙ ap (λ (b : Bool). b && modes_hold S.task.goal_modes (natural_at (take m modes))) modes-within)
        (R.values values ∙ ap (λ (b : Bool). b && conditions_hold S.task.goal_conditions (integer_at (take n values))) values-within)

  -- ---- a step
  module _ {k : ℕ} (l : k < count) {values : List ℤ} {modes : List ℕ} (shaped : Shaped n m values modes sizes) {r : Bool} {values' : List ℤ} {modes' : List ℕ}
      (T : Stepped n m (marks_of marks k) (numbers_of numbers k) (sums_of numbers) values modes r values' modes') where
    module _ (t : SourceTask) (ready : Ready t count marks numbers n lower upper m sizes) where
      abbrev action : SourceAction
      action = (ready.rows_are k l).action

      tried : Tried n m lower upper sizes values modes action r values' modes'
      tried = taking.tried shaped (ready.rows_are k l).row T

      pub step : step_source t (declared_part n m (state values modes)) k ≡ provided r (declared_part n m (state values' modes'))
      step =
          sym (step-of-task t ready.ok (declared_part n m (state values modes)) k action (ready.rows_are k l).found)
          ∙ rw (← ready.lowers_are, ← ready.uppers_are, ← ready.sizes_are) tried.declares

      -- an action whose conditions hold and that does not apply has a result out of bounds
      pub turned-back : held n m (marks_of marks k) (numbers_of numbers k) (sums_of numbers) values modes ≡ true → r ≡ false
          → within_bounds (lower_bounds t) (upper_bounds t) (results action.effects (integer_at (take n values))) ≡ false
      turned-back h e =
          rw (← ready.lowers_are, ← ready.uppers_are) (
          sym (taking.bounds-are shaped (ready.rows_are k l).row)
          ∙ sym (ap (λ (b : Bool). b && stays_in n (marks_of marks k) (numbers_of numbers k) values) h) ∙ sym T.is ∙ e)

      pub kept : Kept n m values modes values' modes'
      kept = tried-keeps shaped tried

      pub shaped-after : Shaped n m values' modes' sizes
      shaped-after = record { variables_few = shaped.variables_few; modes_few = shaped.modes_few; values_long = tried.values_long; modes_long = tried.modes_long; sizes_long = shaped.sizes_long }

      -- an action that does not apply changes nothing
      pub unchanged : r ≡ false → state values' modes' ≡ state values modes
      unchanged e =
          ap (λ (p : Bool × State). p.1) (tried.meets ∙ ap (handed_back n m (state values modes)) (tried.declares ∙ ap (λ (b : Bool). provided b (declared_part n m (state values' modes'))) e))

      pub sound-then : sound_source (integer_at (take n lower)) (integer_at (take n upper)) (take m sizes) (declared_part n m (state values modes)) ≡ true
          → sound_source (integer_at (take n lower)) (integer_at (take n upper)) (take m sizes) (declared_part n m (state values' modes')) ≡ true
      sound-then s = go r refl
        where
          go : (b : Bool) → r ≡ b → sound_source (integer_at (take n lower)) (integer_at (take n upper)) (take m sizes) (declared_part n m (state values' modes')) ≡ true
          go true e =
              sound-after (take n lower) (take n upper) (take m sizes) (declared_part n m (state values modes)) (declared_part n m (state values' modes')) action
              (tried.declares ∙ ap (λ (b : Bool). provided b (declared_part n m (state values' modes'))) e)
          go false e = ap (λ (x : State). sound_source (integer_at (take n lower)) (integer_at (take n upper)) (take m sizes) (declared_part n m x)) (unchanged e) ∙ s

  pub stands : {values : List ℤ} {modes : List ℕ} (S : Standing count marks numbers n lower upper m sizes values modes) {k : ℕ} → k < count → {r : Bool} {values' : List ℤ} {modes' : List ℕ}
      → Stepped n m (marks_of marks k) (numbers_of numbers k) (sums_of numbers) values modes r values' modes'
      → Standing count marks numbers n lower upper m sizes values' modes'
  stands S l T = record {
    task = S.task;
    ready = S.ready;
    shaped = shaped-after l S.shaped T S.task S.ready;
    sound = sound-then l S.shaped T S.task S.ready S.sound;
  }
