-- In the file of a well-formed restricted task the bytes of action k are those of its encoding.
-- Assumes nothing.
use mathlib.Core.Path.{◌≡◌, refl, ap, ◌∙◌, subst}
use mathlib.Core.Bool.{Bool, false}
use Prim.Native.Nat.{ℕ, zero, suc, ◌+◌}
use native.Mathlib.Omega.{arith}
use mathlib.Core.Option.{some, none-ne-some}
use mathlib.Core.List.{List, [], ◌∷◌, ◌++◌, map}
use lib.ListN.{length, get_elem?}
use Rattle.integers.specs.All.{All}
use Rattle.commands.specs.declared.Command.{Command}
use Rattle.commands.specs.declared.Command.TheVariants.{Action, Goal, End}
use Rattle.commands.specs.Encoding.{Fits, encode, encode_all}
use Rattle.model.specs.Tasks.{RestrictedAction, RestrictedTask}
use Rattle.model.specs.Limits.{restricted_limits}
use Rattle.model.specs.ReadingState.{begin}
use Rattle.model.specs.Decoding.{is_edge, actions_of}
use Rattle.model.specs.Lowering.{start_command, mode_command, mode_condition_command, condition_command, mode_effect_command, addition_command}
use Rattle.model.specs.Lowering.{mode_commands, mode_condition_commands, condition_commands, mode_effect_commands, addition_commands, action_commands}
use Rattle.model.specs.Lowering.{actions_commands, file_commands, encode_file}
use Rattle.model.specs.TaskOk.{RestrictedTaskOk}
use Rattle.model.specs.ActionBytes.{action_part}
use Rattle.model.proofs.Pairing.{some-injective}
use Rattle.model.proofs.CommandFacts.{no-edge-byte}
use Rattle.model.proofs.TrailOfTask.{trail}
use Rattle.model.proofs.ReadsBack.{file-ok, body_of, body-ends, acts-end}
use Rattle.model.proofs.ActionsAndGoal.{if_t, NoEdge, GoalIn, goal-in}
use Rattle.model.proofs.ActionBytes.{edges_c, At, other, behind, find, first_body, part_of}

abbrev Has : ℕ → ℕ → ℕ → List Command → List Command → Type 0
Has k at d cs b = (A : At k at d cs) × (A.body ≡ b)

skip : (c : Command) (cs : List Command) (k at d : ℕ) (b : List Command) → edges_c at (c ∷ cs) ≡ edges_c (at + length (encode c)) cs
    → actions_of (c ∷ cs) ≡ actions_of cs
    → Has k (at + length (encode c)) d cs b → Has k at d (c ∷ cs) b
unfolding other
skip c cs k at d b e f (A, q) = (other c cs k at d e f A, q)

-- ---- past a run of commands that are no A and no G
module _ {A : Type 0} (f : A → Command) (plain : (x : A) → is_edge (f x) ≡ false) where
  skip-run : (k d : ℕ) (b more : List Command) → ((at : ℕ) → Has k at d more b) → (xs : List A) (at : ℕ) → Has k at d (map f xs ++ more) b
  skip-run k d b more ready [] at = ready at
  skip-run k d b more ready (x ∷ xs) at =
      let (g, a) = no-edge-byte (f x) (plain x) in
      skip (f x) (map f xs ++ more) k at d b (rw (g, a) refl) (rw a refl) (skip-run k d b more ready xs (at + length (encode (f x))))

  goal-past : (xs : List A) (more : List Command) → GoalIn (map f xs ++ more) → GoalIn more
  goal-past [] more g = g
  goal-past (x ∷ xs) more g =
      goal-past xs more (subst (λ (b : Bool). if_t b (NoEdge (map f xs ++ more)) (GoalIn (map f xs ++ more))) (no-edge-byte (f x) (plain x)).0 g)

  fits-past : (xs : List A) (more : List Command) → All Fits (map f xs ++ more) → All Fits more
  fits-past [] more o = o
  fits-past (x ∷ xs) more (o, os) = fits-past xs more os

-- ---- past the commands behind an A
module _ (x : RestrictedAction) (more : List Command) where
  abbrev adds : List Command
  adds = addition_commands x.additions more

  abbrev effects : List Command
  effects = mode_effect_commands x.mode_effects adds

  abbrev conditions : List Command
  conditions = condition_commands x.conditions effects

  skip-body : (k d : ℕ) (b : List Command) → ((at : ℕ) → Has k at d more b) → (at : ℕ) → Has k at d (body_of x more) b
  skip-body k d b ready =
      skip-run mode_condition_command (λ e. refl) k d b conditions
      (skip-run condition_command (λ e. refl) k d b effects
      (skip-run mode_effect_command (λ e. refl) k d b adds
      (skip-run addition_command (λ e. refl) k d b more ready x.additions) x.mode_effects) x.conditions) x.mode_conditions

  goal-past-body : GoalIn (body_of x more) → GoalIn more
  goal-past-body g =
      goal-past addition_command (λ e. refl) x.additions more
      (goal-past mode_effect_command (λ e. refl) x.mode_effects adds
      (goal-past condition_command (λ e. refl) x.conditions effects
      (goal-past mode_condition_command (λ e. refl) x.mode_conditions conditions g)))

  fits-past-body : All Fits (body_of x more) → All Fits more
  fits-past-body o =
      fits-past addition_command (λ e. refl) x.additions more
      (fits-past mode_effect_command (λ e. refl) x.mode_effects adds
      (fits-past condition_command (λ e. refl) x.conditions effects
      (fits-past mode_condition_command (λ e. refl) x.mode_conditions conditions o)))

-- one action further on
later : (k at d : ℕ) (cs b : List Command) → Has k (at + 1) d cs b → Has (suc k) at d (Action ∷ cs) b
unfolding behind
later k at d cs b (A, q) = (behind Action cs k at d refl A, q)

-- where action k of an encoded task stands: behind k actions
has-act : (acts : List RestrictedAction) (gs : List Command) (k at d : ℕ) (a : RestrictedAction) → get_elem? acts k ≡ some a
    → GoalIn (actions_commands acts (Goal ∷ gs)) → All Fits (actions_commands acts (Goal ∷ gs)) → Has k at d (actions_commands acts (Goal ∷ gs)) (body_of a [])
has-act [] gs k at d a e g o = absurd (none-ne-some a e)
has-act (x ∷ acts) gs zero at d a e g o = (
  find (action_commands x (actions_commands acts (Goal ∷ gs))) zero at d g o (omega arith),
  first_body (body_of x (actions_commands acts (Goal ∷ gs))) at d g o (omega arith)
      ∙ body-ends x _ (acts-end gs acts)
      ∙ ap (λ (y : RestrictedAction). body_of y []) (some-injective e),
)
has-act (x ∷ acts) gs (suc k) at d a e g (o, os) =
    let more : List Command = actions_commands acts (Goal ∷ gs) in
    later k at d (body_of x more) (body_of a [])
    (skip-body x more k d (body_of a []) (λ at. has-act acts gs k at d a e (goal-past-body x more g) (fits-past-body x more os)) (at + 1))

pub encoded-part : (r : RestrictedTask) → RestrictedTaskOk r → (k : ℕ) (a : RestrictedAction) → get_elem? r.actions k ≡ some a
    → action_part (encode_file r) k ≡ encode_all (action_commands a [])
unfolding encode_file
encoded-part r F k a e =
    part_of (encode_all (file_commands r) ++ encode End) (file_commands r) k refl (file-ok r F) there.0
    ∙ ap (λ (c : List Command). encode_all (Action ∷ c)) there.1
  where
    goal : List Command
    goal = mode_condition_commands r.goal_modes (condition_commands r.goal_conditions [])

    acts : List Command
    acts = actions_commands r.actions (Goal ∷ goal)

    modes : List Command
    modes = mode_commands r.modes acts

    -- what the actions and the goal say of themselves
    goal-there : GoalIn acts
    goal-there = goal-past mode_command (λ m. refl) r.modes acts
        (goal-past start_command (λ z. refl) r.starts modes (goal-in restricted_limits (file_commands r) begin (omega arith) (trail r F)))

    fit : All Fits acts
    fit = fits-past mode_command (λ m. refl) r.modes acts (fits-past start_command (λ z. refl) r.starts modes (file-ok r F))

    there : Has k 0 (length (encode_all (file_commands r) ++ encode End)) (file_commands r) (body_of a [])
    there =
        let size : ℕ = length (encode_all (file_commands r) ++ encode End) in
        skip-run start_command (λ z. refl) k size (body_of a []) modes
        (skip-run mode_command (λ m. refl) k size (body_of a []) acts (λ at. has-act r.actions goal k at size a e goal-there fit) r.modes) r.starts 0
