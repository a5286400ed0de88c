-- The judge over an accepted file: what is left of the plan at each step, from what the task declares of the state there, gives what the whole
-- plan gives. A run of one action keeps this step by step.
-- Assumes nothing.
use mathlib.Core.Path.{◌≡◌, refl, sym, ap, ◌∙◌, subst}
use Prim.Native.Nat.{ℕ, zero, suc, ◌+◌, ◌≤◌, ◌<◌}
use native.Mathlib.Nat.{add-zero}
use native.Mathlib.Numerals.{add-one}
use native.Mathlib.Omega.{arith}
use mathlib.Core.Bool.{cond}
use mathlib.Core.Option.{none, some}
use mathlib.Core.List.{List, [], ◌∷◌}
use lib.ListN.{length, get_or, drop, get_elem?}
use lib.Seq.{drop-cons}
use lib.IntN.{ℤ}
use borrow.Author.Tests.{lt-ltb, le-ltb}
use Rattle.std.specs.Prelude.{Result, Ok, Err, MatchResult}
use Rattle.answers.specs.Answer.{given, refused}
use Rattle.answers.specs.Refusals.{refusal_at}
use Rattle.answers.specs.declared.Refusal.{Refusal}
use Rattle.answers.specs.declared.Reason.TheVariants.{NoAction, DoesNotApply}
use Rattle.model.specs.Tasks.{RestrictedAction, RestrictedTask, State}
use Rattle.model.specs.Limits.{restricted_limits}
use Rattle.model.specs.TaskOk.{RestrictedActionOk, RestrictedTaskOk}
use Rattle.model.specs.Plans.{plan_numbers}
use Rattle.model.specs.Steps.{sizes_of, step_restricted, restricted_goal_holds}
use Rattle.model.specs.Judging.{judge}
use Rattle.model.proofs.AcceptedOk.{accepted-restricted-ok}
use Rattle.model.proofs.Pairing.{bind-gives, some-injective}
use Rattle.file_parts.specs.Row.{row_is}
use Rattle.restricted_step.specs.Sizes.{MODES}
use Rattle.restricted_step.specs.Steps.{step_by}
use Rattle.restricted_step.specs.Whole.{task_in, declared_of, step_of, StandingIn, SparedIn}
use Rattle.restricted_step.proofs.Effects.{beyond-same, beyond-then}
use Rattle.restricted_step.proofs.Usable.{usable}
use Rattle.restricted_step.proofs.Whole.{stays, goes, sizes-many, action-ok, step-by-number}
use Rattle.restricted_runs.specs.Repeats.{steps_by}
use Rattle.restricted_runs.specs.Runs.{Alike, CanRun, Led, Passed, Stuck, Ran}
use Rattle.restricted_runs.specs.Slots.{PlacesKept}
use Rattle.restricted_judge.specs.Judging.{AcceptedPlan, judging_from, Walked}

-- ---- what comes of a run whose error is made a refusal: it passes, or it is stuck
module _ {a : RestrictedAction} {x : State} {k : ℕ} {plan : List ℕ} {from steps : ℕ} where
  pub ran-ok : (run : Result ℕ ℕ) (next : ℕ) {y : State} → Ran a x k plan from steps run y
      → MatchResult run (λ j. ◌≡◌ {A = Result ℕ Refusal} (Ok next) (Ok j)) (λ j. ⊥) → Passed a x k plan from steps next y
  ran-ok (Ok j) next {y} R e = let same : j ≡ next = cc in subst (λ (i : ℕ). Passed a x k plan from steps i y) same R
  ran-ok (Err j) next R e = absurd e

  pub ran-err : (run : Result ℕ ℕ) (refusal : Refusal) {made : ℕ → Type 0} (y : State) → Ran a x k plan from steps run y
      → MatchResult run (λ j. Err refusal ≡ Ok j) made → (at : ℕ) × Stuck a x k plan from steps at × made at
  ran-err (Ok j) refusal y R e = cc
  ran-err (Err j) refusal y R e = (j, R, e)

-- ---- past the last element nothing is left
none_left : {A : Type 0} (n : ℕ) (l : List A) → length l ≤ n → drop n l ≡ []
none_left zero [] h = refl
none_left zero (x ∷ l) h = absurd (omega arith)
none_left (suc n) [] h = refl
none_left (suc n) (x ∷ l) h = none_left n l (omega arith)

-- ---- one step of the definition
module _ (t : RestrictedTask) (p : List ℕ) (i : ℕ) (x : State) where
  pub judging-ends : length p ≤ i → judging_from t p i x ≡ cond (restricted_goal_holds t x) (given (i, x)) (refused 13 i)
  unfolding judge
  judging-ends h = rw (none_left i p h)

  module _ (more : i < length p) where
    step-of : judging_from t p i x ≡ judge (length t.actions) (step_restricted t) (restricted_goal_holds t) i (get_or p i 0 ∷ drop (suc i) p) x
    step-of = ap (λ (l : List ℕ). judge (length t.actions) (step_restricted t) (restricted_goal_holds t) i l x) (drop-cons p i 0 more)

    no-such-action : length t.actions ≤ get_or p i 0 → refused 11 i ≡ judging_from t p i x
    unfolding judge
    no-such-action h = sym (step-of ∙ rw (le-ltb (get_or p i 0) (length t.actions) h))

    module _ (known : get_or p i 0 < length t.actions) where
      step-stops : step_restricted t x (get_or p i 0) ≡ none → refused 12 i ≡ judging_from t p i x
      unfolding judge
      step-stops e = sym (step-of ∙ rw (lt-ltb (get_or p i 0) (length t.actions) known, e))

      step-goes : (y : State) → step_restricted t x (get_or p i 0) ≡ some y → judging_from t p (i + 1) y ≡ judging_from t p i x
      unfolding judge
      step-goes y e = sym (step-of ∙ rw (lt-ltb (get_or p i 0) (length t.actions) known, e, add-one))

-- ---- all steps of a plan
module _ (file plan places : List ℕ) (count steps : ℕ) (x₀ : State) where
  -- at step i
  pub record Walking (i : ℕ) (x : State) : Type 0 where
    pub input : AcceptedPlan file plan count steps
    pub placed : PlacesKept file places count
    pub bound : i ≤ steps
    pub standing : StandingIn (task_in file) x
    pub judged : judging_from (task_in file) (plan_numbers plan) i (declared_of (task_in file) x)
        ≡ judging_from (task_in file) (plan_numbers plan) 0 (declared_of (task_in file) x₀)
    pub spared : SparedIn (task_in file) x₀ x

spared-then : (t : RestrictedTask) {x y z : State} → SparedIn t x y → SparedIn t y z → SparedIn t x z
spared-then t a b = record { values = beyond-then a.values b.values; modes = beyond-then a.modes b.modes }

module _ {file plan places : List ℕ} {count steps : ℕ} {x₀ : State} where
  pub walk_start : AcceptedPlan file plan count steps → PlacesKept file places count → StandingIn (task_in file) x₀
      → Walking file plan places count steps x₀ 0 x₀
  walk_start a p s = record
      { input = a; placed = p; bound = omega arith; standing = s; judged = refl; spared = record { values = beyond-same; modes = beyond-same } }

  -- one step, and so many, by action k
  module _ (k : ℕ) (known : k < count) (a : RestrictedAction) (is : get_elem? (task_in file).actions k ≡ some a) where
    module _ {i : ℕ} {x : State} (W : Walking file plan places count steps x₀ i x) (more : i < steps) (takes : get_or (plan_numbers plan) i 0 ≡ k) where
      ok : RestrictedTaskOk (task_in file)
      ok = accepted-restricted-ok file (task_in file) W.input.accepted

      inside : i < length (plan_numbers plan)
      inside = omega (arith, W.input.steps_are)

      below : get_or (plan_numbers plan) i 0 < length (task_in file).actions
      below = omega (arith, W.input.count_is)

      abbrev sizes : List ℕ
      sizes = sizes_of (task_in file).modes

      action : RestrictedActionOk restricted_limits (length (task_in file).starts) sizes a
      action = action-ok (task_in file) ok k a is

      -- the task's step on what it declares of x is the step of action k
      numbered : step_restricted (task_in file) (declared_of (task_in file) x) (get_or (plan_numbers plan) i 0) ≡ step_of sizes (declared_of (task_in file) x) a
      numbered = ap (step_restricted (task_in file) (declared_of (task_in file) x)) takes
          ∙ sym (step-by-number (task_in file) (declared_of (task_in file) x) k a is)

      one-stops : step_by a x ≡ none → refused 12 i ≡ judging_from (task_in file) (plan_numbers plan) 0 (declared_of (task_in file) x₀)
      one-stops e =
          step-stops (task_in file) (plan_numbers plan) i (declared_of (task_in file) x) inside below
          (numbered ∙ stays (length (task_in file).starts) (length (task_in file).modes) sizes (sizes-many (task_in file)) a action x W.standing e)
          ∙ W.judged

      one-goes : (y : State) → step_by a x ≡ some y → Walking file plan places count steps x₀ (i + 1) y
      one-goes y e =
          let (s, standing, spared) =
          goes (length (task_in file).starts) (length (task_in file).modes) sizes (sizes-many (task_in file)) a action x W.standing y e in
          record {
            input = W.input;
            placed = W.placed;
            bound = omega arith;
            standing = standing;
            judged =
                step-goes (task_in file) (plan_numbers plan) i (declared_of (task_in file) x) inside below (declared_of (task_in file) y)
                (numbered ∙ s)
                ∙ W.judged;
            spared = spared-then (task_in file) W.spared spared;
          }

    many-go : (taken : ℕ) {i : ℕ} {x : State} → Walking file plan places count steps x₀ i x → i + taken ≤ steps → Alike k plan i taken
        → (y : State) → steps_by a taken x ≡ some y → Walking file plan places count steps x₀ (i + taken) y
    unfolding steps_by
    many-go zero {i} {x} W h alike y e = subst (λ (z : State). Walking file plan places count steps x₀ (i + 0) z) (some-injective e) (rw add-zero W)
    many-go (suc taken) {i} {x} W h alike y e =
        let (z, first, others) = bind-gives (step_by a x) (steps_by a taken) y e in
        let there : i + 1 + taken ≡ i + suc taken = omega arith in
        subst (λ (j : ℕ). Walking file plan places count steps x₀ j y) there
        (many-go taken (one-goes W (omega arith) (ap (λ (j : ℕ). get_or (plan_numbers plan) j 0) (omega arith) ∙ alike 0 (omega arith)) z first) (omega arith)
        (λ j q. ap (λ (l : ℕ). get_or (plan_numbers plan) l 0) (omega arith) ∙ alike (suc j) (omega arith)) y others)

    led_on : {i next : ℕ} {x y : State} → Walking file plan places count steps x₀ i x → Led a x k plan i next y → next ≤ steps
        → Walking file plan places count steps x₀ next y
    led_on {y = y} W L h =
        subst (λ (j : ℕ). Walking file plan places count steps x₀ j y) (sym L.there) (many-go L.taken W (omega (arith, L.there)) L.alike y L.steps)

  module _ {i : ℕ} {x : State} (W : Walking file plan places count steps x₀ i x) where
    pub walk_ends : steps ≤ i → Walked file plan steps x₀ (Ok tt) x
    walk_ends h =
        let e : steps ≡ i = omega (arith, W.bound) in
        record { judged = ap (λ (j : ℕ). judging_from (task_in file) (plan_numbers plan) j (declared_of (task_in file) x)) e ∙ W.judged; spared = W.spared }

    module _ (k : ℕ) (number : k ≡ get_or (plan_numbers plan) i 0) (more : i < steps) where
      pub walk-no-action : count ≤ k → (y : State) → Walked file plan steps x₀ (Err (refusal_at NoAction i)) y
      walk-no-action h y = record {
        judged = no-such-action (task_in file) (plan_numbers plan) i (declared_of (task_in file) x) (omega (arith, W.input.steps_are))
            (omega (arith, W.input.count_is)) ∙ W.judged;
        spared = tt;
      }

      module _ (known : k < count) (marks : List ℕ) (numbers : List ℤ) (is : get_elem? (task_in file).actions k ≡ some (row_is marks numbers)) where
        pub walk_can : CanRun x.values marks numbers k plan i steps
        walk_can = record {
          can_take = record {
            usable = usable (length (task_in file).starts) (sizes_of (task_in file).modes) marks numbers ok.starts_few sizes_few
                (action-ok (task_in file) ok k (row_is marks numbers) is);
            within = W.standing.within;
          };
          steps_are = W.input.steps_are;
          long = W.input.long;
          few = W.input.few;
          more = more;
          takes = sym number;
        }
          where
            ok : RestrictedTaskOk (task_in file)
            ok = accepted-restricted-ok file (task_in file) W.input.accepted

            sizes_few : length (sizes_of (task_in file).modes) ≤ MODES
            sizes_few = omega (arith, ok.modes_few, sizes-many (task_in file))

        pub walk-stops : {at : ℕ} → Stuck (row_is marks numbers) x k plan i steps at → (y : State)
            → Walked file plan steps x₀ (Err (refusal_at DoesNotApply at)) y
        walk-stops {at} R y = record {
          judged = one-stops k known (row_is marks numbers) is
              (led_on k known (row_is marks numbers) is W R.led (omega (arith, R.more))) R.more R.takes R.refuses;
          spared = tt;
        }

        pub walk-next : {next : ℕ} {y : State} → Passed (row_is marks numbers) x k plan i steps next y → Walking file plan places count steps x₀ next y
        walk-next R = led_on k known (row_is marks numbers) is W R.led R.bound
