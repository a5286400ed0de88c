-- What is decoded from the bytes of action k of an accepted file is action k of its task, and keeps to the rules on its file; so it is with the
-- goal. And the table of places has the places.
-- Assumes nothing.
use mathlib.Core.Path.{◌≡◌, refl, ◌∙◌, sym, ap, subst, subst⁻¹}
use mathlib.Core.List.{List, [], ◌∷◌, map}
use mathlib.Core.Option.{some, none-ne-some}
use Prim.Native.Nat.{ℕ, zero, suc, ◌<◌, ◌≤◌}
use native.Mathlib.Omega.{arith}
use lib.IntN.{ℤ}
use lib.ListN.{length, get_or, drop, get_elem?, get_or-append, length-map}
use Rattle.integers.specs.All.{All}
use Rattle.integers.specs.Numbers.{Bytes}
use Rattle.answers.specs.Answer.{given}
use Rattle.lists.specs.Writing.{splice}
use Rattle.lists.proofs.Writing.{splice_front}
use Rattle.commands.specs.declared.Command.{Command}
use Rattle.model.specs.Tasks.{NumericCondition, SourceAction, RestrictedAction, SourceTask, RestrictedTask}
use Rattle.model.specs.Limits.{Limits, source_limits, restricted_limits}
use Rattle.model.specs.Steps.{sizes_of}
use Rattle.model.specs.Reading.{Verdict, Accepted, Rejected, verdict_of, commands_of}
use Rattle.model.specs.Decoding.{actions_of, goal_of as goal_commands_of, conditions_of, source_conditions_of, mode_conditions_of, sum_conditions_of}
use Rattle.model.specs.Decoding.{source_action_of, restricted_action_of, source_task_of, restricted_task_of, on_verdict, read_source, read_restricted}
use Rattle.model.specs.Sums.{sums_in}
use Rattle.model.specs.TaskOk.{SourceActionOk, RestrictedActionOk, SourceTaskOk, RestrictedTaskOk}
use Rattle.model.specs.ActionBytes.{edge_of, action_part, decode_action}
use Rattle.model.proofs.AcceptedTrail.{Is}
use Rattle.model.proofs.AcceptedOk.{accepted-source-ok, accepted-restricted-ok}
use Rattle.model.proofs.ActionBytes.{action-decodes}
use Rattle.model.proofs.StageWalk.{all-get}
use Rattle.file_parts.specs.Row.{row_is, conditions_in, Says}
use Rattle.file_parts.proofs.Pushing.{says-as}
use Rattle.file_actions.specs.declared.Effects.{Effects}
use Rattle.file_actions.specs.declared.SumConditions.{SumConditions}
use Rattle.file_actions.specs.Places.{edges_of, goal_part}
use Rattle.file_actions.specs.Views.{sum_room, effects_is, source_action_is, plain_action_of, SourceDecoded, SumsDecoded, fitting_source, fitting_restricted}
use Rattle.file_actions.specs.Within.{SourceWithin}
use Rattle.file_actions.proofs.Fits.{restricted-fits, source_is, source-within}
use Rattle.file_actions.proofs.GoalBytes.{edges-counted, goal-decodes, Quiet, goal-quiet}
use Rattle.file_actions.proofs.Sums.{sums-counted, action-sums, goal-sums}

-- ---- a slice of bytes, one by one
pub bytes-of : (s : List ℕ) → ((i : ℕ) → get_or s i 0 < 256) → Bytes s
bytes-of [] h = tt
bytes-of (b ∷ s) h = (h 0, bytes-of s (λ i. h (suc i)))

-- ---- a file that a reader gives a task for
accepted : {A : Type 0} (v : Verdict) (t u : A) → on_verdict v t ≡ given u → Is v × (t ≡ u)
accepted (Accepted a b c) t u e = (tt, cc)
accepted (Rejected n w) t u e = let z : ◌≡◌ {A = ℕ} 0 1 = cc in absurd (omega arith)

get-map : {A B : Type 0} (f : A → B) (xs : List A) (k : ℕ) (x : A) → get_elem? xs k ≡ some x → get_elem? (map f xs) k ≡ some (f x)
get-map f [] k x e = absurd (none-ne-some x e)
get-map f (y ∷ xs) zero x e = cc
get-map f (y ∷ xs) (suc k) x e = get-map f xs k x e

-- ---- a file of either kind, read as a task with actions
module _ {Task Action : Type 0} (l : Limits) (task_of : List Command → Task) (action_of : List Command → Action) (actions : Task → List Action) (actions_are : (cs : List Command) → actions (task_of cs) ≡ map action_of (actions_of cs))
    (file : List ℕ) (bytes : Bytes file) (t : Task) (is : on_verdict (verdict_of l file) (task_of (commands_of l file)) ≡ given t) where
  verdict : Is (verdict_of l file)
  verdict = (accepted (verdict_of l file) (task_of (commands_of l file)) t is).0

  task : task_of (commands_of l file) ≡ t
  task = (accepted (verdict_of l file) (task_of (commands_of l file)) t is).1

  actions-are : map action_of (actions_of (commands_of l file)) ≡ actions t
  actions-are = sym (actions_are (commands_of l file)) ∙ ap actions task

  counted : length (actions_of (commands_of l file)) ≡ length (actions t)
  counted = sym (length-map (actions_of (commands_of l file)) action_of) ∙ ap length actions-are

  -- as many edges as actions, and one more
  edges-of : length (edges_of file) ≡ suc (length (actions t))
  edges-of = edges-counted l file bytes verdict ∙ ap suc counted

  -- the bytes of action k give action k
  module _ (k : ℕ) (below : k < length (actions t)) where
    action-is : get_elem? (actions t) k ≡ some (action_of (decode_action (action_part file k)))
    action-is =
        ap (λ (all : List Action). get_elem? all k) (sym actions-are)
        ∙ get-map action_of (actions_of (commands_of l file)) k (decode_action (action_part file k)) (action-decodes l file bytes verdict k (omega (arith, below, counted)))

    action-ok : (Ok : Action → Type 0) → All Ok (actions t) → Ok (action_of (decode_action (action_part file k)))
    action-ok Ok oks = all-get Ok (actions t) k (action_of (decode_action (action_part file k))) oks action-is

  -- the bytes of the goal have no effects
  goal-without : Quiet (decode_action (goal_part file (length (actions t))))
  goal-without = subst (λ (n : ℕ). Quiet (decode_action (goal_part file n))) counted (goal-quiet l file bytes verdict)

  -- what is decoded from them is the goal
  module _ (conditions : List Command → List (NumericCondition ℕ)) (goal_of : Task → List (ℕ × ℕ) × List (NumericCondition ℕ))
      (goal_is : (cs : List Command) → goal_of (task_of cs) ≡ (mode_conditions_of (goal_commands_of cs), conditions (goal_commands_of cs))) where
    goal-is : goal_of t ≡ (mode_conditions_of (decode_action (goal_part file (length (actions t)))), conditions (decode_action (goal_part file (length (actions t)))))
    goal-is =
        ap goal_of (sym task) ∙ goal_is (commands_of l file)
        ∙ ap (λ (cs : List Command). (mode_conditions_of cs, conditions cs))
        (goal-decodes l file bytes verdict ∙ ap (λ (n : ℕ). decode_action (goal_part file n)) counted)

-- ---- a source file
module _ (file : List ℕ) (bytes : Bytes file) (t : SourceTask) (is : read_source file ≡ given t) where
  source_ok : SourceTaskOk t
  source_ok = accepted-source-ok file t is

  source_modes : length (sizes_of t.modes) ≤ source_limits.modes
  source_modes = omega (arith, source_ok.modes_few, length-map t.modes (λ (m : ℕ × ℕ). m.0))

  pub source-edges : length (edges_of file) ≡ suc (length t.actions)
  source-edges = edges-of source_limits source_task_of source_action_of (λ u. u.actions) (λ d. refl) file bytes t is

  module _ (k : ℕ) (below : k < length t.actions) where
    abbrev action-commands : List Command
    action-commands = decode_action (action_part file k)

    action-there : get_elem? t.actions k ≡ some (source_action_of action-commands)
    action-there = action-is source_limits source_task_of source_action_of (λ u. u.actions) (λ d. refl) file bytes t is k below

    source-action-ok : SourceActionOk source_limits (length t.variables) (sizes_of t.modes) (source_action_of action-commands)
    source-action-ok = action-ok source_limits source_task_of source_action_of (λ u. u.actions) (λ d. refl) file bytes t is k below
        (SourceActionOk source_limits (length t.variables) (sizes_of t.modes)) source_ok.actions_ok

    action-sums-few : length (sum_conditions_of action-commands) ≤ sum_room
    action-sums-few = omega (arith, sums-counted action-commands, action-sums t k (source_action_of action-commands) action-there, source_ok.sums_few)

    module _ (marks : List ℕ) (numbers : List ℤ) (r : Effects) (s : SumConditions)
        (decoded : SourceDecoded (fitting_source (plain_action_of (decode_action (action_part file k)))) marks numbers r)
        (sums : SumsDecoded (sum_conditions_of (decode_action (action_part file k))) s) where
      -- it is action k of the task
      pub source-action-decoded : get_elem? t.actions k ≡ some (source_action_is marks numbers r s)
      source-action-decoded = action-there
          ∙ ap some (sym (source_is (length t.variables) (sizes_of t.modes) action-commands source-action-ok source_modes action-sums-few decoded sums))

      -- and keeps to the rules
      pub source-action-within : SourceWithin source_limits (length t.variables) (sizes_of t.modes) marks numbers r s
      source-action-within =
          source-within (length t.variables) (sizes_of t.modes) action-commands source-action-ok source_modes action-sums-few decoded sums

  -- the goal as an action of the task, which has no effects
  abbrev pub goal-action : SourceAction
  goal-action = record { mode_conditions = t.goal_modes; conditions = t.goal_conditions; mode_effects = []; effects = [] }

  pub goal-action-ok : SourceActionOk source_limits (length t.variables) (sizes_of t.modes) goal-action
  goal-action-ok = record {
    conditions_ok = source_ok.goal;
    mode_effects_in = tt;
    mode_effects_once = tt;
    effects_few = omega arith;
    effects_ok = tt;
    targets_once = tt;
  }

  abbrev goal-commands : List Command
  goal-commands = decode_action (goal_part file (length t.actions))

  goal-there : source_action_of goal-commands ≡ goal-action
  goal-there =
      let asks = goal-is source_limits source_task_of source_action_of (λ u. u.actions) (λ d. refl) file bytes t is source_conditions_of
      (λ u. (u.goal_modes, u.goal_conditions)) (λ d. refl) in
      let (modes, effects, none) = goal-without source_limits source_task_of source_action_of (λ u. u.actions) (λ d. refl) file bytes t is in
      λ i. record {
        mode_conditions = sym (ap (λ z. z.0) asks) i;
        conditions = sym (ap (λ z. z.1) asks) i;
        mode_effects = modes i;
        effects = effects i;
      }

  source-goal-ok : SourceActionOk source_limits (length t.variables) (sizes_of t.modes) (source_action_of goal-commands)
  source-goal-ok = subst⁻¹ (SourceActionOk source_limits (length t.variables) (sizes_of t.modes)) goal-there goal-action-ok

  goal-sums-few : length (sum_conditions_of goal-commands) ≤ sum_room
  goal-sums-few =
      let same = ap (λ (a : SourceAction). length (sums_in a.conditions)) goal-there in
      omega (arith, sums-counted goal-commands, same, goal-sums t, source_ok.sums_few)

  module _ (marks : List ℕ) (numbers : List ℤ) (r : Effects) (s : SumConditions)
      (decoded : SourceDecoded (fitting_source (plain_action_of (decode_action (goal_part file (length t.actions))))) marks numbers r)
      (sums : SumsDecoded (sum_conditions_of (decode_action (goal_part file (length t.actions)))) s) where
    -- what is decoded as an action from its bytes is that
    pub source-goal-decoded : source_action_is marks numbers r s ≡ goal-action
    source-goal-decoded =
        source_is (length t.variables) (sizes_of t.modes) goal-commands source-goal-ok source_modes goal-sums-few decoded sums ∙ goal-there

    -- and keeps to the rules
    pub source-goal-within : SourceWithin source_limits (length t.variables) (sizes_of t.modes) marks numbers r s
    source-goal-within = source-within (length t.variables) (sizes_of t.modes) goal-commands source-goal-ok source_modes goal-sums-few decoded sums

    -- its row says the goal's P, and C but no K; it has no E
    abbrev pub goal-row : RestrictedAction
    goal-row = record { mode_conditions = t.goal_modes; conditions = conditions_in marks numbers; mode_effects = []; additions = [] }

    pub source-goal-row : Says goal-row marks numbers
    source-goal-row = record {
      marks_long = decoded.parts.marks_long;
      numbers_long = decoded.parts.numbers_long;
      is = λ i. record {
        mode_conditions = (source-goal-decoded i).mode_conditions;
        conditions = conditions_in marks numbers;
        mode_effects = (source-goal-decoded i).mode_effects;
        additions = (decoded.parts.is i).additions;
      };
    }

    pub source-goal-effects : effects_is r ≡ []
    source-goal-effects = ap (λ (a : SourceAction). a.effects) source-goal-decoded

-- ---- a restricted file
module _ (file : List ℕ) (bytes : Bytes file) (t : RestrictedTask) (is : read_restricted file ≡ given t) where
  restricted_ok : RestrictedTaskOk t
  restricted_ok = accepted-restricted-ok file t is

  restricted_modes : length (sizes_of t.modes) ≤ restricted_limits.modes
  restricted_modes = omega (arith, restricted_ok.modes_few, length-map t.modes (λ (m : ℕ × ℕ). m.0))

  pub restricted-edges : length (edges_of file) ≡ suc (length t.actions)
  restricted-edges = edges-of restricted_limits restricted_task_of restricted_action_of (λ u. u.actions) (λ d. refl) file bytes t is

  -- the goal as an action of the task, which has no effects
  abbrev pub restricted-goal : RestrictedAction
  restricted-goal = record { mode_conditions = t.goal_modes; conditions = t.goal_conditions; mode_effects = []; additions = [] }

  pub restricted-goal-ok : RestrictedActionOk restricted_limits (length t.starts) (sizes_of t.modes) restricted-goal
  restricted-goal-ok = record {
    conditions_ok = restricted_ok.goal;
    mode_effects_in = tt;
    mode_effects_once = tt;
    additions_few = omega arith;
    additions_in = tt;
    additions_once = tt;
  }

  module _ (marks : List ℕ) (numbers : List ℤ) where
    -- what is decoded from the bytes of action k is action k of the task
    pub restricted-action-decoded : (k : ℕ) → k < length t.actions
        → Says (fitting_restricted (restricted_action_of (decode_action (action_part file k)))) marks numbers
        → get_elem? t.actions k ≡ some (row_is marks numbers)
    restricted-action-decoded k below decoded =
        let a : RestrictedAction = restricted_action_of (decode_action (action_part file k)) in
        let ok = action-ok restricted_limits restricted_task_of restricted_action_of (λ u. u.actions) (λ d. refl) file bytes t is k below
        (RestrictedActionOk restricted_limits (length t.starts) (sizes_of t.modes)) restricted_ok.actions_ok in
        action-is restricted_limits restricted_task_of restricted_action_of (λ u. u.actions) (λ d. refl) file bytes t is k below
        ∙ ap some (sym (decoded.is ∙ restricted-fits (length t.starts) (sizes_of t.modes) a ok restricted_modes))

    -- and what is decoded from those of the goal is the goal, as an action with no effects
    pub restricted-goal-decoded : Says (fitting_restricted (restricted_action_of (decode_action (goal_part file (length t.actions))))) marks numbers
        → Says restricted-goal marks numbers
    restricted-goal-decoded decoded =
        let cs = decode_action (goal_part file (length t.actions)) in
        let asks = goal-is restricted_limits restricted_task_of restricted_action_of (λ u. u.actions) (λ d. refl) file bytes t is conditions_of
        (λ u. (u.goal_modes, u.goal_conditions)) (λ d. refl) in
        let (modes, effects, none) = goal-without restricted_limits restricted_task_of restricted_action_of (λ u. u.actions) (λ d. refl) file bytes t is in
        let same : restricted_action_of cs ≡ restricted-goal = λ i. record {
          mode_conditions = sym (ap (λ z. z.0) asks) i;
          conditions = sym (ap (λ z. z.1) asks) i;
          mode_effects = modes i;
          additions = none i;
        } in
        says-as decoded
        (ap fitting_restricted same ∙ restricted-fits (length t.starts) (sizes_of t.modes) restricted-goal restricted-goal-ok restricted_modes)

-- ---- the table of places
-- a table with room for the edges has each of them at its number
pub places-at : (file old : List ℕ) → length (edges_of file) ≤ length old → (k : ℕ) → k < length (edges_of file) → get_or (splice old 0 (edges_of file)) k 0 ≡ edge_of file k
unfolding edge_of
places-at file old room k h =
    ap (λ (z : List ℕ). get_or z k 0) (splice_front (edges_of file) old room)
    ∙ get_or-append (edges_of file) (drop (length (edges_of file)) old) 0 k h
    ∙ same (edges_of file) k h
  where
    same : (xs : List ℕ) (k : ℕ) → k < length xs → get_or xs k 0 ≡ get_or xs k (length file)
    same [] k h = absurd (omega arith)
    same (x ∷ xs) zero h = refl
    same (x ∷ xs) (suc k) h = same xs k (omega arith)
