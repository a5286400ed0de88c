-- Expanding is what document 01 says: "from R's start, for each source step its single action or its opening, then, while control is not 0, the
-- one action that applies". Every plan of R that ends at rest is so made from the source steps that it projects to.
-- Assumes nothing.
use mathlib.Core.Path.{◌≡◌, sym, ap, ◌∙◌, subst}
use mathlib.Core.Logic.{inl, inr}
use Prim.Native.Nat.{ℕ, ◌≤◌}
use native.Mathlib.Omega.{arith}
use mathlib.Core.Bool.{◌&&◌, true}
use mathlib.Core.Option.{some}
use mathlib.Core.List.{List, [], ◌∷◌}
use lib.ListN.{length}
use lib.Dec.{T, eqb, eqb→eq}
use borrow.Author.Tests.{eq-eqb, ne_eqb}
use Rattle.model.specs.Systems.{run_plan}
use Rattle.model.specs.Tasks.{SourceTask, State}
use Rattle.model.specs.Steps.{natural_at, modes_hold, sound_restricted, sizes_of, lower_bounds, upper_bounds, source_start, step_source}
use Rattle.model.specs.Steps.{restricted_start, step_restricted}
use Rattle.model.specs.Stages.{NamedAction}
use Rattle.model.specs.Lowering.{lower_task, rest_state}
use Rattle.model.specs.Expansion.{opening_of, source_number_of, control_at_rest, expand_task, expand_by_following, project_task}
use Rattle.model.specs.InTask.{LoweredGoal}
use Rattle.model.specs.TaskOk.{SourceTaskOk}
use Rattle.model.proofs.StageWalk.{and_parts}
use Rattle.model.proofs.MacroPlace.{OpensOrOfAStage, opens-or-of-a-stage}
use Rattle.model.proofs.Follow.{OpensOrGoesOn, run-is-followed}
use Rattle.model.proofs.LoweredPairing.{PlansPairOff, rest-of-start, plans-pair-off}
use Rattle.model.proofs.JudgedPlans.{restricted-step-counts}
use Rattle.model.proofs.Forced.{first_kept, kept_sums, applies-at-its-control, action-taken, at-most-one-action-applies}

module _ (t : SourceTask) where
  abbrev control : State → ℕ
  control x = natural_at x.modes (length t.modes)

  -- an action that R takes is an opening, at rest; or it is of a stage, elsewhere
  opens-or-goes-on : (x : State) (k : ℕ) (y : State) → step_restricted (lower_task t) x k ≡ some y → OpensOrGoesOn (control_at_rest t) (opening_of t) (source_number_of t) x k
  opens-or-goes-on x k y e =
      let (r, e₁, a) = action-taken t x k y e in
      go r (opens-or-of-a-stage (lower_bounds t) (upper_bounds t) t.actions 1 k r (omega arith) e₁)
      (applies-at-its-control (length t.variables) (length t.modes) (first_kept t) (kept_sums t) x r a)
    where
      go : (r : NamedAction) → OpensOrOfAStage (lower_bounds t) (upper_bounds t) t.actions k r → control x ≡ r.control
          → OpensOrGoesOn (control_at_rest t) (opening_of t) (source_number_of t) x k
      go r (inl (a, n, o, c)) q = inl (a, n, o, eq-eqb (control x) 0 (q ∙ c))
      go r (inr (n, c)) q = inr (n, ne_eqb (control x) 0 (λ z. omega arith))

  pub plan-of-R-is-followed : (q : List ℕ) (x : State) → run_plan (step_restricted (lower_task t)) q (restricted_start (lower_task t)) ≡ some x → natural_at x.modes (length t.modes) ≡ 0 → length q ≤ 1_000_000
      → expand_by_following t (lower_task t) (project_task t q) ≡ q
  plan-of-R-is-followed q x r h l = run-is-followed (control_at_rest t) (opening_of t) (source_number_of t) (step_restricted (lower_task t)) (length (lower_task t).actions)
      (restricted-step-counts (sound_restricted (sizes_of (lower_task t).modes)) (lower_task t).actions) opens-or-goes-on
      (λ x b. at-most-one-action-applies t x (λ e. subst T (sym (eq-eqb (control x) 0 e) ∙ b) tt))
      q 1_000_000 (restricted_start (lower_task t)) x l r (eq-eqb (control x) 0 h)

module _ (t : SourceTask) (S : SourceTaskOk t) where
  -- the goal of R where T has none: control is 0
  abbrev Rests : State → Type 0
  Rests = LoweredGoal (length t.modes) [] []

  rests-too : (x y : State) → x.modes ≡ y.modes → Rests x → Rests y
  rests-too x y e (h, _) = (subst (λ (ms : List ℕ). T (modes_hold ((length t.modes, 0) ∷ []) (natural_at ms))) e h, tt)

  -- the pairing of plans that have no goal to reach
  pairing : PlansPairOff t [] [] Rests
  pairing = plans-pair-off t S [] [] tt tt Rests
      (λ X x k. rests-too X x (ap (λ (y : State). y.modes) k.1)) (λ X x k. rests-too x X (sym (ap (λ (y : State). y.modes) k.1)))

  pub expansion-follows : (p : List ℕ) (s : State) → run_plan (step_source t) p (source_start t) ≡ some s → length (expand_task t p) ≤ 1_000_000
      → expand_by_following t (lower_task t) p ≡ expand_task t p
  expansion-follows p s r l =
      let (run, rest, kept, _) = pairing.forth p s r (tt, tt) l in
      ap (expand_by_following t (lower_task t)) (sym kept)
      ∙ plan-of-R-is-followed t (expand_task t p) end (ap (run_plan (step_restricted (lower_task t)) (expand_task t p)) (sym (rest-of-start t S)) ∙ run)
      (ended rest.0) l
    where
      end : State
      end = rest_state t s

      control : ℕ
      control = natural_at end.modes (length t.modes)

      ended : T (eqb control 0 && true) → control ≡ 0
      ended h = eqb→eq control 0 (and_parts (eqb control 0) true h).0
