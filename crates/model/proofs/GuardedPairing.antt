-- A source run keeps within its bounds, its modes below their sizes: the tests on states that the judges make hold of it.
-- Assumes nothing.
use mathlib.Core.Path.{◌≡◌, refl, sym, ap₂, ◌∙◌, subst}
use Prim.Native.Nat.{ℕ, ◌<◌}
use mathlib.Core.Bool.{◌&&◌, true}
use mathlib.Core.Option.{some}
use mathlib.Core.List.{List}
use lib.ListN.{length, get_elem?}
use lib.IntN.{ℤ}
use Rattle.integers.specs.All.{All}
use Rattle.model.specs.Walks.{Outcome, not_opened, hangs, completes}
use Rattle.model.specs.Tasks.{SourceAction, State}
use Rattle.model.specs.NamedSystems.{conditions_met, NamedSource, step_named_source, step_named, at_rest, stage_steps, price_at, by_name, dead_end_steps}
use Rattle.model.specs.Steps.{within_bounds, integer_at, natural_at, set_all, try_source, source_step_of, sound_source, results}
use Rattle.model.specs.Stages.{lower_actions, opening, source_number}
use Rattle.model.specs.InTask.{ActionIn, Distinct, targets}
use Rattle.model.specs.TaskOk.{ValuesIn}
use Rattle.model.proofs.Pairing.{bind-gives, none-not-some, some-unique}
use Rattle.model.proofs.StageWalk.{provided-gives, all-get, all_map, Rest}
use Rattle.model.proofs.Outcomes.{Good, lowers}
use Rattle.model.proofs.NumberedPairing.{agree_left, SourceAgrees, source-steps-agree}
use Rattle.model.proofs.StepBounds.{Below, modes-in, set_below, values-in-bounds}

-- ---- a source run, of a task with n variables and m modes of the sizes
abbrev pub WithinBounds : ℕ → ℕ → (ℕ → ℤ) → (ℕ → ℤ) → List ℕ → State → Type 0
WithinBounds n m lo hi sizes x = (length x.values ≡ n) × (length x.modes ≡ m) × Good lo hi (by_name x) × Below sizes x.modes

pub within-bounds-is-sound : (n m : ℕ) (lo hi : ℕ → ℤ) (sizes : List ℕ) (x : State) → WithinBounds n m lo hi sizes x → sound_source lo hi sizes x ≡ true
within-bounds-is-sound n m lo hi sizes x (a, b, g, h) = ap₂ ◌&&◌ (values-in-bounds lo hi x.values g) (modes-in sizes x.modes h)

module _ (n holds m : ℕ) (lo hi : ℕ → ℤ) (acts : List SourceAction) (acts-in : All (ActionIn n holds m) acts) (sizes : List ℕ) (sizes-m : length sizes ≡ m)
    (sets_t : All (λ (a : SourceAction). ValuesIn sizes a.mode_effects) acts) where
  pub step-within-bounds : (x y : State) (k : ℕ) → WithinBounds n m lo hi sizes x → source_step_of lo hi acts x k ≡ some y → WithinBounds n m lo hi sizes y
  step-within-bounds x y k (a, b, g, h) e =
      let (s, e', sim) = agree_left (SourceAgrees n m) (source_step_of lo hi acts x k) (step_named_source lo hi acts (by_name x) k) y
      (source-steps-agree n holds m lo hi acts acts-in x (by_name x) k (a, b, refl)) e in
      let once = all_map (ActionIn n holds m) (λ (a : SourceAction). Distinct (targets a.effects)) (λ a i. i.targets_once) acts acts-in in
      (sim.0, sim.1, subst (Good lo hi) sim.2 (good s e' ((lowers lo hi acts once).outcomes (by_name x) g k)), modes e)
    where
      good : (s : NamedSource) → step_named_source lo hi acts (by_name x) k ≡ some s → Outcome (step_named_source lo hi acts) (step_named (lower_actions lo hi 1 acts)) Rest at_rest (Good lo hi) (opening lo hi acts) (source_number lo hi acts) (stage_steps lo hi acts) (price_at acts) (dead_end_steps lo hi acts) (by_name x) k → Good lo hi s
      good s e (not_opened q _) = absurd (none-not-some q e)
      good s e (hangs _ _ q _ _ _) = absurd (none-not-some q e)
      good s e (completes s' _ q g _ _ _ _ _) = subst (Good lo hi) (some-unique q e) g

      modes : source_step_of lo hi acts x k ≡ some y → Below sizes y.modes
      modes e = let (act, e₁, e₂) = bind-gives (get_elem? acts k) (try_source lo hi x) y e in
          go act (all-get (λ (a : SourceAction). ValuesIn sizes a.mode_effects) acts k act sets_t e₁) e₂
        where
          go : (act : SourceAction) → ValuesIn sizes act.mode_effects → try_source lo hi x act ≡ some y → Below sizes y.modes
          go act s q = subst (λ (z : State). Below sizes z.modes)
              (provided-gives (((conditions_met act (by_name x)) && (within_bounds lo hi (results act.effects (integer_at x.values)))))
              (record { values = set_all (results act.effects (integer_at x.values)) x.values; modes = set_all act.mode_effects x.modes }) y q).1
              (set_below act.mode_effects sizes x.modes (subst (λ (c : ℕ). All (λ (e : ℕ × ℕ). (e.0 < c) × (e.1 < natural_at sizes e.0)) act.mode_effects) (sizes-m ∙ sym b) s) h)
