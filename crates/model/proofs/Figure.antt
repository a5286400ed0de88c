-- No plan within the length limit takes a restricted variable past 2,000,000,000,000,000: the tests that the judges make of every state change no run of an accepted task
-- from its start.
-- Assumes nothing.
use mathlib.Core.Path.{◌≡◌, refl, sym, ap, ◌∙◌}
use Prim.Native.Nat.{ℕ, zero, suc, ◌+◌, ◌*◌, ◌≤◌, ◌<◌}
use native.Mathlib.Omega.{arith}
use mathlib.Core.Bool.{Bool, false, cond}
use mathlib.Core.Option.{none, some}
use mathlib.Core.List.{List, [], ◌∷◌}
use lib.ListN.{length, length-map}
use lib.Dec.{eqb}
use lib.IntN.{ℤ, nat_abs}
use Rattle.integers.specs.All.{All}
use Rattle.answers.specs.Answer.{given}
use Rattle.model.specs.Systems.{run_plan}
use Rattle.model.specs.Steps.{integer_at, source_step_of, restricted_step_of, sound_source, sound_restricted, lower_bounds, upper_bounds, source_start, sizes_of, step_source, step_restricted, restricted_start}
use Rattle.model.specs.Tasks.{State, RestrictedAction, SourceTask, RestrictedTask}
use Rattle.model.specs.Stages.{hold_count}
use Rattle.model.specs.Limits.{restricted_limits}
use Rattle.model.specs.Decoding.{read_source, read_restricted}
use Rattle.model.specs.TaskOk.{Distinct, keys, ValuesIn, InRange, AmountOk, RestrictedActionOk, SourceTaskOk, RestrictedTaskOk}
use Rattle.model.proofs.StageWalk.{all_map}
use Rattle.model.proofs.Follow.{guard-run, run-keeps}
use Rattle.model.proofs.Guards.{guard-any}
use Rattle.model.proofs.StepBounds.{addition_at, AdditionsOnce, AddsIn, WithinAfter, within-is-sound, step-within}
use Rattle.model.proofs.GuardedPairing.{WithinBounds, within-bounds-is-sound, step-within-bounds}
use Rattle.model.proofs.AcceptedPairing.{Accepted}
use Rattle.model.proofs.ReadingLaws.{length-keys}
use Rattle.model.proofs.AcceptedSource.{accepted, modes-below}
use Rattle.model.proofs.AcceptedOk.{accepted-source-ok, accepted-restricted-ok}

-- ---- what a restricted task that keeps to the rules has
not-among : (k : ℕ) (es : List (ℕ × ℤ)) → All (λ (j : ℕ). eqb j k ≡ false) (keys es) → addition_at es k ≡ none
not-among k [] h = refl
not-among k (e ∷ es) (h, hs) = ap (λ (b : Bool). cond b (some e.1) (addition_at es k)) h ∙ not-among k es hs

distinct-once : (es : List (ℕ × ℤ)) → Distinct (keys es) → AdditionsOnce es
distinct-once [] h = tt
distinct-once (e ∷ es) (h, hs) = (not-among e.0 es h, distinct-once es hs)

values-in : (zs : List ℤ) → All (InRange restricted_limits) zs → (j : ℕ) → nat_abs (integer_at zs j) ≤ 1_000_000_000 + 1_000_000_000 * 0
values-in [] h j = omega arith
values-in (z ∷ zs) (h, hs) zero = omega (arith, h)
values-in (z ∷ zs) (h, hs) (suc j) = values-in zs hs j

all-values : (B : ℕ) (zs : List ℤ) → ((j : ℕ) → nat_abs (integer_at zs j) ≤ B) → All (λ (z : ℤ). nat_abs z ≤ B) zs
all-values B [] h = tt
all-values B (z ∷ zs) h = (h 0, all-values B zs (λ j. h (suc j)))

module _ (r : RestrictedTask) (F : RestrictedTaskOk r) where
  abbrev pub Within : ℕ → State → Type 0
  Within = WithinAfter (length r.starts) (sizes_of r.modes)

  pub start-within : Within 0 (restricted_start r)
  start-within = (refl, length-map r.modes (λ (m : ℕ × ℕ). m.1) ∙ sym (length-keys r.modes), values-in r.starts F.starts_in, modes-below restricted_limits r.modes F.modes_in)

  pub steps-within : (i : ℕ) (x y : State) (k : ℕ) → Within i x → restricted_step_of r.actions x k ≡ some y → Within (suc i) y
  steps-within = step-within (length r.starts) (sizes_of r.modes) r.actions
      (all_map (RestrictedActionOk restricted_limits (length r.starts) (sizes_of r.modes)) (AddsIn (length r.starts) 1_000_000_000) adds r.actions F.actions_ok)
      (all_map (RestrictedActionOk restricted_limits (length r.starts) (sizes_of r.modes)) (λ (a : RestrictedAction). ValuesIn (sizes_of r.modes) a.mode_effects) (λ a h. h.mode_effects_in) r.actions F.actions_ok)
    where
      adds : (a : RestrictedAction) → RestrictedActionOk restricted_limits (length r.starts) (sizes_of r.modes) a → AddsIn (length r.starts) 1_000_000_000 a
      adds a h = record {
        inside = all_map (AmountOk restricted_limits (length r.starts)) (λ (e : ℕ × ℤ). e.0 < length r.starts) (λ e q. q.0) a.additions h.additions_in;
        once = distinct-once a.additions h.additions_once;
        up_to = all_map (AmountOk restricted_limits (length r.starts)) (λ (e : ℕ × ℤ). nat_abs e.1 ≤ 1_000_000_000) (λ e q. q.1.1) a.additions h.additions_in;
      }

-- THE FIGURE: the steps of a plan within the length limit, from the start of an accepted restricted task, go as they would without the test of the figure and of the modes' sizes
pub no-plan-passes-the-figure : (file : List ℕ) (r : RestrictedTask) → read_restricted file ≡ given r → (q : List ℕ) → length q ≤ 1_000_000
    → run_plan (step_restricted r) q (restricted_start r) ≡ run_plan (restricted_step_of r.actions) q (restricted_start r)
no-plan-passes-the-figure file r e q h = let F : RestrictedTaskOk r = accepted-restricted-ok file r e in
    guard-run (restricted_step_of r.actions) (sound_restricted (sizes_of r.modes)) (Within r F) 1_000_000 (steps-within r F) (within-is-sound (length r.starts) (sizes_of r.modes)) q 0 (restricted_start r) (omega (arith, h)) (start-within r F)

-- the same of the values: every state that such a plan leads to has them within the figure, with no test made. Any beginning of such a plan is one, so this is every state on the way
pub values-stay-within-the-figure : (file : List ℕ) (r : RestrictedTask) → read_restricted file ≡ given r → (q : List ℕ) → length q ≤ 1_000_000
    → (x : State) → run_plan (restricted_step_of r.actions) q (restricted_start r) ≡ some x → All (λ (z : ℤ). nat_abs z ≤ 2_000_000_000_000_000) x.values
values-stay-within-the-figure file r e q h x w = let F : RestrictedTaskOk r = accepted-restricted-ok file r e in
    let (_, _, v, _) = run-keeps (restricted_step_of r.actions) (Within r F) (steps-within r F) q 0 (restricted_start r) x (start-within r F) w in
    all-values 2_000_000_000_000_000 x.values (λ j. omega (arith, h, v j))

-- the steps of any plan from the start of an accepted source task go as they would with no test but that of the effects' results: all values
-- stay within their bounds, all modes below their sizes
module _ (t : SourceTask) (S : SourceTaskOk t) where
  abbrev InBounds : State → Type 0
  InBounds = WithinBounds (length t.variables) (length t.modes) (lower_bounds t) (upper_bounds t) (sizes_of t.modes)

  A : Accepted (length t.variables) (hold_count t.actions) (length t.modes) (lower_bounds t) (upper_bounds t) t.actions (sizes_of t.modes)
      t.goal_modes t.goal_conditions (source_start t)
  A = accepted t S

  start-in-bounds : InBounds (source_start t)
  start-in-bounds = (A.values_length, A.modes_length, A.good, A.below)

  step-in-bounds : (x y : State) (k : ℕ) → InBounds x → source_step_of (lower_bounds t) (upper_bounds t) t.actions x k ≡ some y → InBounds y
  step-in-bounds = step-within-bounds (length t.variables) (hold_count t.actions) (length t.modes) (lower_bounds t) (upper_bounds t) t.actions
      A.actions_in (sizes_of t.modes) A.sizes_length A.sets

  source-run-untested : (p : List ℕ)
      → run_plan (step_source t) p (source_start t) ≡ run_plan (source_step_of (lower_bounds t) (upper_bounds t) t.actions) p (source_start t)
  source-run-untested p =
      guard-any (sound_source (lower_bounds t) (upper_bounds t) (sizes_of t.modes)) (source_step_of (lower_bounds t) (upper_bounds t) t.actions) InBounds
      step-in-bounds (within-bounds-is-sound (length t.variables) (length t.modes) (lower_bounds t) (upper_bounds t) (sizes_of t.modes))
      p (source_start t) start-in-bounds

  pub source-run-in-bounds : (p : List ℕ) (s : State) → run_plan (step_source t) p (source_start t) ≡ some s → InBounds s
  source-run-in-bounds p s r =
      run-keeps (source_step_of (lower_bounds t) (upper_bounds t) t.actions) (λ i. InBounds) (λ i. step-in-bounds) p 0 (source_start t) s
      start-in-bounds (sym (source-run-untested p) ∙ r)

pub no-source-plan-leaves-its-bounds : (file : List ℕ) (t : SourceTask) → read_source file ≡ given t → (p : List ℕ)
    → run_plan (step_source t) p (source_start t) ≡ run_plan (source_step_of (lower_bounds t) (upper_bounds t) t.actions) p (source_start t)
no-source-plan-leaves-its-bounds file t e = source-run-untested t (accepted-source-ok file t e)
