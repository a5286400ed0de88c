-- What is read of a well-formed restricted task's file is the task.
-- Assumes nothing.
use mathlib.Core.Path.{◌≡◌, refl, ap, ap₂, ◌∙◌}
use Prim.Native.Nat.{ℕ, zero, suc, ◌^◌, ◌≤◌, ◌<◌}
use native.Mathlib.Omega.{arith}
use mathlib.Core.List.{List, [], ◌∷◌, ◌++◌, map}
use mathlib.Core.Bool.{false}
use lib.Dec.{eqb}
use lib.ListN.{length, get_or}
use lib.IntN.{ℤ}
use Rattle.integers.specs.All.{All}
use Rattle.integers.specs.Relation.{Relation, below, at_most, at_least, above, equal, relation_of, relation_number}
use Rattle.integers.specs.Numbers.{bits_of}
use Rattle.commands.specs.declared.Command.{Command}
use Rattle.commands.specs.declared.Command.TheVariants.{Goal, End}
use Rattle.answers.specs.Answer.{given}
use Rattle.commands.specs.Table.{letter_u, letter_m, letter_a, letter_c, letter_p, letter_e, plus_sign, letter_g}
use Rattle.commands.specs.Encoding.{InWidths, encode, encode_all, Fits}
use Rattle.integers.proofs.Numbers.{bits_fit}
use Rattle.model.specs.Tasks.{NumericCondition, RestrictedAction, RestrictedTask, Measured, variable, weighted_sum}
use Rattle.model.specs.Steps.{natural_at, sizes_of}
use Rattle.model.specs.Limits.{restricted_limits}
use Rattle.model.specs.Reading.{Verdict, commands_of}
use Rattle.model.specs.Decoding.{those, up_to, parts_at, actions_of, goal_of, start_of, pair_of, condition_of, amount_of, starts_of, modes_of, conditions_of, mode_conditions_of, mode_effects_of, additions_of, restricted_action_of, restricted_task_of, on_verdict, read_restricted}
use Rattle.model.specs.Lowering.{start_command, mode_command, mode_condition_command, condition_command, mode_effect_command, addition_command, start_commands, mode_commands, mode_condition_commands, condition_commands, mode_effect_commands, addition_commands, actions_commands, file_commands, encode_file, variable_of}
use Rattle.model.specs.TaskOk.{ValuesIn, InRange, AmountOk, ModeOk, MeasureOk, ConditionOk, ConditionsOk, RestrictedActionOk, RestrictedTaskOk}
use Rattle.model.proofs.Walk.{trail-accepted, trail-commands}
use Rattle.model.proofs.StageWalk.{all_map}
use Rattle.model.proofs.Runs.{own, skipped, no_part, no_edge, read_back}
use Rattle.model.proofs.ReadingLaws.{clash, length-keys}
use Rattle.model.proofs.TrailOfTask.{const-back, trail, var-in}

-- ---- the operands fit their widths
abbrev Small : ℤ → Type 0
Small z = InRange restricted_limits z

fit : (z : ℤ) → Small z → bits_of 4 z < 256 ^ 4
fit z h = bits_fit 4 z (omega (arith, h))

abbrev Oks : List Command → Type 0
Oks cs = All Fits cs

starts-ok : (zs : List ℤ) (more : List Command) → All Small zs → Oks more → Oks (start_commands zs more)
starts-ok [] more h o = o
starts-ok (z ∷ zs) more (h, hs) o = ((tt, (fit z h, tt)), starts-ok zs more hs o)

modes-ok : (ms : List (ℕ × ℕ)) (more : List Command) → All (ModeOk restricted_limits) ms → Oks more → Oks (mode_commands ms more)
modes-ok [] more h o = o
modes-ok (m ∷ ms) more ((h, g), hs) o = ((tt, (omega (arith, g), (omega (arith, g, h), tt))), modes-ok ms more hs o)

size_few : (ms : List (ℕ × ℕ)) → All (ModeOk restricted_limits) ms → (j : ℕ) → natural_at (sizes_of ms) j ≤ 8192
size_few [] h j = omega arith
size_few (m ∷ ms) (h, hs) zero = h.1
size_few (m ∷ ms) (h, hs) (suc j) = size_few ms hs j

module _ (n : ℕ) (n-few : n ≤ 64) (sizes : List ℕ) (m-few : length sizes ≤ 8) (s-few : (j : ℕ) → natural_at sizes j ≤ 8192) where
  value-ok : (e : ℕ × ℕ) → (e.0 < length sizes) × (e.1 < natural_at sizes e.0) → InWidths (1 ∷ 2 ∷ []) (e.0 ∷ e.1 ∷ [])
  value-ok e (h, g) = (omega (arith, h, m-few), (omega (arith, g, s-few e.0), tt))

  places-ok : (ps : List (ℕ × ℕ)) (more : List Command) → ValuesIn sizes ps → Oks more → Oks (mode_condition_commands ps more)
  places-ok [] more h o = o
  places-ok (p ∷ ps) more (h, hs) o = ((tt, value-ok p h), places-ok ps more hs o)

  effects-ok : (ps : List (ℕ × ℕ)) (more : List Command) → ValuesIn sizes ps → Oks more → Oks (mode_effect_commands ps more)
  effects-ok [] more h o = o
  effects-ok (p ∷ ps) more (h, hs) o = ((tt, value-ok p h), effects-ok ps more hs o)

  rel-fits : (r : Relation) → relation_number r < 256 ^ 1
  rel-fits below = omega arith
  rel-fits at_most = omega arith
  rel-fits at_least = omega arith
  rel-fits above = omega arith
  rel-fits equal = omega arith

  compares-ok : (cs : List (NumericCondition ℕ)) (more : List Command) → All (ConditionOk restricted_limits n) cs → Oks more → Oks (condition_commands cs more)
  compares-ok [] more h o = o
  compares-ok (c ∷ cs) more (h, hs) o = let (v, q) = var-in n c.measured c.constant h.measures in
      ((tt, (omega (arith, v, n-few), (rel-fits c.relation, (fit c.constant q, tt)))), compares-ok cs more hs o)

  adds-ok : (es : List (ℕ × ℤ)) (more : List Command) → All (AmountOk restricted_limits n) es → Oks more → Oks (addition_commands es more)
  adds-ok [] more h o = o
  adds-ok (e ∷ es) more ((h, (k, g)), hs) o = ((tt, (omega (arith, h, n-few), (fit e.1 g, tt))), adds-ok es more hs o)

  acts-ok : (acts : List RestrictedAction) (more : List Command) → All (RestrictedActionOk restricted_limits n sizes) acts → Oks more → Oks (actions_commands acts more)
  acts-ok [] more h o = o
  acts-ok (a ∷ acts) more (h, hs) o =
      ((tt, tt), places-ok a.mode_conditions _ h.conditions_ok.mode_conditions_in (compares-ok a.conditions _ h.conditions_ok.conditions_in (effects-ok a.mode_effects _ h.mode_effects_in (adds-ok a.additions _ h.additions_in (acts-ok acts more hs o)))))

  goal-ok : (gp : List (ℕ × ℕ)) (gc : List (NumericCondition ℕ)) → ConditionsOk restricted_limits n sizes gp gc → Oks (Goal ∷ mode_condition_commands gp (condition_commands gc []))
  goal-ok gp gc h = ((tt, tt), places-ok gp _ h.mode_conditions_in (compares-ok gc [] h.conditions_in tt))

pub file-ok : (r : RestrictedTask) → RestrictedTaskOk r → Oks (file_commands r)
file-ok r F =
    starts-ok r.starts _ F.starts_in (modes-ok r.modes _ F.modes_in
    (acts-ok (length r.starts) F.starts_few (sizes_of r.modes) few (size_few r.modes F.modes_in) r.actions _ F.actions_ok
    (goal-ok (length r.starts) F.starts_few (sizes_of r.modes) few (size_few r.modes F.modes_in) r.goal_modes r.goal_conditions F.goal)))
  where
    few : length (sizes_of r.modes) ≤ 8
    few = omega (arith, F.modes_few, length-keys r.modes)

-- ---- each run of commands is read back by its byte, and by no other
rel-back : (r : Relation) → relation_of (relation_number r) ≡ r
rel-back below = refl
rel-back at_most = refl
rel-back at_least = refl
rel-back above = refl
rel-back equal = refl

var-back : (n : ℕ) (m : Measured ℕ) (k : ℤ) → MeasureOk restricted_limits n m k → variable (variable_of m) ≡ m
var-back n (variable i) k h = refl
var-back n (weighted_sum ts) k h = absurd (clash h.0)

conditions-back : (n : ℕ) (cs : List (NumericCondition ℕ)) → All (ConditionOk restricted_limits n) cs → map condition_of (condition_commands cs []) ≡ cs
conditions-back n = read_back condition_command condition_of (ConditionOk restricted_limits n) (λ c h i. record {
  measured = var-back n c.measured c.constant h.measures i;
  relation = rel-back c.relation i;
  constant = const-back c.constant (var-in n c.measured c.constant h.measures).1 i;
})

pairs-back : (f : ℕ × ℕ → Command) → ((p : ℕ × ℕ) → pair_of (f p) ≡ p) → (ps : List (ℕ × ℕ)) → map pair_of (map f ps ++ []) ≡ ps
pairs-back f h [] = refl
pairs-back f h (p ∷ ps) = ap₂ ◌∷◌ (h p) (pairs-back f h ps)

module _ (d : ℕ) where
  past-P : eqb letter_p d ≡ false → (ps : List (ℕ × ℕ)) (more : List Command) → those d (mode_condition_commands ps more) ≡ those d more
  past-P = skipped letter_p mode_condition_command (λ x. refl) d

  past-C : eqb letter_c d ≡ false → (cs : List (NumericCondition ℕ)) (more : List Command) → those d (condition_commands cs more) ≡ those d more
  past-C = skipped letter_c condition_command (λ x. refl) d

  past-E : eqb letter_e d ≡ false → (es : List (ℕ × ℕ)) (more : List Command) → those d (mode_effect_commands es more) ≡ those d more
  past-E = skipped letter_e mode_effect_command (λ x. refl) d

  past-plus : eqb plus_sign d ≡ false → (es : List (ℕ × ℤ)) (more : List Command) → those d (addition_commands es more) ≡ those d more
  past-plus = skipped plus_sign addition_command (λ x. refl) d

-- the commands of a goal
goal-modes-back : (ps : List (ℕ × ℕ)) (cs : List (NumericCondition ℕ)) → mode_conditions_of (mode_condition_commands ps (condition_commands cs [])) ≡ ps
goal-modes-back ps cs = ap (map pair_of) (own letter_p mode_condition_command (λ x. refl) ps _ ∙ ap (mode_condition_commands ps) (past-C letter_p refl cs [])) ∙ pairs-back mode_condition_command (λ p. refl) ps

goal-conditions-back : (n : ℕ) (ps : List (ℕ × ℕ)) (cs : List (NumericCondition ℕ)) → All (ConditionOk restricted_limits n) cs → conditions_of (mode_condition_commands ps (condition_commands cs [])) ≡ cs
goal-conditions-back n ps cs h = ap (map condition_of) (past-P letter_c refl ps _ ∙ own letter_c condition_command (λ x. refl) cs []) ∙ conditions-back n cs h

-- ---- actions: the commands behind an A
abbrev pub body_of : RestrictedAction → List Command → List Command
body_of a more = mode_condition_commands a.mode_conditions (condition_commands a.conditions (mode_effect_commands a.mode_effects (addition_commands a.additions more)))

abbrev Smalls : ℕ → RestrictedAction → Type 0
Smalls n a = All (ConditionOk restricted_limits n) a.conditions × All (λ (e : ℕ × ℤ). Small e.1) a.additions

module _ (n : ℕ) (a : RestrictedAction) (small : Smalls n a) where
  body-P : mode_conditions_of (body_of a []) ≡ a.mode_conditions
  body-P = ap (map pair_of) (own letter_p mode_condition_command (λ x. refl) a.mode_conditions _
      ∙ ap (mode_condition_commands a.mode_conditions) (past-C letter_p refl a.conditions _ ∙ past-E letter_p refl a.mode_effects _ ∙ past-plus letter_p refl a.additions []))
      ∙ pairs-back mode_condition_command (λ p. refl) a.mode_conditions

  body-C : conditions_of (body_of a []) ≡ a.conditions
  body-C = ap (map condition_of) (past-P letter_c refl a.mode_conditions _ ∙ own letter_c condition_command (λ x. refl) a.conditions _
      ∙ ap (condition_commands a.conditions) (past-E letter_c refl a.mode_effects _ ∙ past-plus letter_c refl a.additions []))
      ∙ conditions-back n a.conditions small.0

  body-E : mode_effects_of (body_of a []) ≡ a.mode_effects
  body-E = ap (map pair_of) (past-P letter_e refl a.mode_conditions _ ∙ past-C letter_e refl a.conditions _ ∙ own letter_e mode_effect_command (λ x. refl) a.mode_effects _
      ∙ ap (mode_effect_commands a.mode_effects) (past-plus letter_e refl a.additions []))
      ∙ pairs-back mode_effect_command (λ p. refl) a.mode_effects

  body-plus : additions_of (body_of a []) ≡ a.additions
  body-plus = ap (map amount_of) (past-P plus_sign refl a.mode_conditions _ ∙ past-C plus_sign refl a.conditions _ ∙ past-E plus_sign refl a.mode_effects _ ∙ own plus_sign addition_command (λ x. refl) a.additions [])
      ∙ read_back addition_command amount_of (λ (e : ℕ × ℤ). Small e.1) (λ e k j. (e.0, const-back e.1 k j)) a.additions small.1

  action-back : restricted_action_of (body_of a []) ≡ a
  action-back = λ i. record { mode_conditions = body-P i; conditions = body-C i; mode_effects = body-E i; additions = body-plus i }

-- they end where what follows begins with an A or G
pub body-ends : (a : RestrictedAction) (more : List Command) → up_to more ≡ [] → up_to (body_of a more) ≡ body_of a []
body-ends a more e =
    no_edge letter_p mode_condition_command (λ x. refl) refl refl a.mode_conditions _ ∙ ap (mode_condition_commands a.mode_conditions)
    (no_edge letter_c condition_command (λ x. refl) refl refl a.conditions _ ∙ ap (condition_commands a.conditions)
    (no_edge letter_e mode_effect_command (λ x. refl) refl refl a.mode_effects _ ∙ ap (mode_effect_commands a.mode_effects)
    (no_edge plus_sign addition_command (λ x. refl) refl refl a.additions more ∙ ap (addition_commands a.additions) e)))

-- a U or M, an A or G behind them
body-past : (d : ℕ) → eqb letter_p d ≡ false → eqb letter_c d ≡ false → eqb letter_e d ≡ false → eqb plus_sign d ≡ false → (a : RestrictedAction) (more : List Command) → those d (body_of a more) ≡ those d more
body-past d p c e s a more = past-P d p a.mode_conditions _ ∙ past-C d c a.conditions _ ∙ past-E d e a.mode_effects _ ∙ past-plus d s a.additions more

body-parts : (d : ℕ) → eqb letter_p d ≡ false → eqb letter_c d ≡ false → eqb letter_e d ≡ false → eqb plus_sign d ≡ false → (a : RestrictedAction) (more : List Command) → parts_at d (body_of a more) ≡ parts_at d more
body-parts d p c e s a more =
    no_part letter_p mode_condition_command (λ x. refl) d p a.mode_conditions _ ∙ no_part letter_c condition_command (λ x. refl) d c a.conditions _
    ∙ no_part letter_e mode_effect_command (λ x. refl) d e a.mode_effects _ ∙ no_part plus_sign addition_command (λ x. refl) d s a.additions more

module _ (goal : List Command) where
  pub acts-end : (acts : List RestrictedAction) → up_to (actions_commands acts (Goal ∷ goal)) ≡ []
  acts-end [] = refl
  acts-end (a ∷ acts) = refl

  acts-back : (n : ℕ) → parts_at letter_a goal ≡ [] → (acts : List RestrictedAction) → All (Smalls n) acts → map restricted_action_of (actions_of (actions_commands acts (Goal ∷ goal))) ≡ acts
  acts-back n e [] h = ap (map restricted_action_of) e
  acts-back n e (a ∷ acts) (h, hs) = ap₂ ◌∷◌
      (ap restricted_action_of (body-ends a _ (acts-end acts)) ∙ action-back n a h)
      (ap (map restricted_action_of) (body-parts letter_a refl refl refl refl a _) ∙ acts-back n e acts hs)

  acts-goal : (acts : List RestrictedAction) → parts_at letter_g (actions_commands acts (Goal ∷ goal)) ≡ up_to goal ∷ parts_at letter_g goal
  acts-goal [] = refl
  acts-goal (a ∷ acts) = body-parts letter_g refl refl refl refl a _ ∙ acts-goal acts

  acts-starts : (acts : List RestrictedAction) → those letter_u (actions_commands acts (Goal ∷ goal)) ≡ those letter_u goal
  acts-starts [] = refl
  acts-starts (a ∷ acts) = body-past letter_u refl refl refl refl a _ ∙ acts-starts acts

  acts-modes : (acts : List RestrictedAction) → those letter_m (actions_commands acts (Goal ∷ goal)) ≡ those letter_m goal
  acts-modes [] = refl
  acts-modes (a ∷ acts) = body-past letter_m refl refl refl refl a _ ∙ acts-modes acts

-- ---- the file
module _ (r : RestrictedTask) (F : RestrictedTaskOk r) where
  smalls : All (Smalls (length r.starts)) r.actions
  smalls = all_map (RestrictedActionOk restricted_limits (length r.starts) (sizes_of r.modes)) (Smalls (length r.starts)) (λ a h. (
    h.conditions_ok.conditions_in,
    all_map (AmountOk restricted_limits (length r.starts)) (λ (e : ℕ × ℤ). Small e.1) (λ c q. q.1.1) a.additions h.additions_in,
  )) r.actions F.actions_ok

  abbrev goal : List Command
  goal = mode_condition_commands r.goal_modes (condition_commands r.goal_conditions [])

  no-parts : (d : ℕ) → eqb letter_p d ≡ false → eqb letter_c d ≡ false → parts_at d goal ≡ []
  no-parts d p c = no_part letter_p mode_condition_command (λ x. refl) d p r.goal_modes _ ∙ no_part letter_c condition_command (λ x. refl) d c r.goal_conditions []

  -- behind the declarations
  parts : (d : ℕ) → eqb letter_u d ≡ false → eqb letter_m d ≡ false → parts_at d (file_commands r) ≡ parts_at d (actions_commands r.actions (Goal ∷ goal))
  parts d u m = no_part letter_u start_command (λ x. refl) d u r.starts _ ∙ no_part letter_m mode_command (λ x. refl) d m r.modes _

  goal-back : goal_of (file_commands r) ≡ goal
  goal-back = ap (λ (z : List (List Command)). get_or z 0 []) (parts letter_g refl refl ∙ acts-goal goal r.actions)
      ∙ no_edge letter_p mode_condition_command (λ x. refl) refl refl r.goal_modes _ ∙ ap (mode_condition_commands r.goal_modes) (no_edge letter_c condition_command (λ x. refl) refl refl r.goal_conditions [])

  starts-back : starts_of (file_commands r) ≡ r.starts
  starts-back = ap (map start_of) (own letter_u start_command (λ x. refl) r.starts _ ∙ ap (start_commands r.starts)
      (skipped letter_m mode_command (λ x. refl) letter_u refl r.modes _ ∙ acts-starts goal r.actions ∙ past-P letter_u refl r.goal_modes _ ∙ past-C letter_u refl r.goal_conditions []))
      ∙ read_back start_command start_of Small const-back r.starts F.starts_in

  modes-back : modes_of (file_commands r) ≡ r.modes
  modes-back = ap (map pair_of) (skipped letter_u start_command (λ x. refl) letter_m refl r.starts _ ∙ own letter_m mode_command (λ x. refl) r.modes _ ∙ ap (mode_commands r.modes)
      (acts-modes goal r.actions ∙ past-P letter_m refl r.goal_modes _ ∙ past-C letter_m refl r.goal_conditions []))
      ∙ pairs-back mode_command (λ p. refl) r.modes

  actions-back : map restricted_action_of (actions_of (file_commands r)) ≡ r.actions
  actions-back = ap (map restricted_action_of) (parts letter_a refl refl) ∙ acts-back goal (length r.starts) (no-parts letter_a refl refl) r.actions smalls

  task-back : restricted_task_of (file_commands r) ≡ r
  task-back = λ i. record {
    starts = starts-back i;
    modes = modes-back i;
    actions = actions-back i;
    goal_modes = (ap mode_conditions_of goal-back ∙ goal-modes-back r.goal_modes r.goal_conditions) i;
    goal_conditions = (ap conditions_of goal-back ∙ goal-conditions-back (length r.starts) r.goal_modes r.goal_conditions F.goal.conditions_in) i;
  }

  -- THE ROUND TRIP: the file of a well-formed restricted task is accepted, and read as that task
  pub reads-back : read_restricted (encode_file r) ≡ given r
  unfolding encode_file
  reads-back =
      ap (λ (v : Verdict). on_verdict v (restricted_task_of (commands_of restricted_limits (encode_all (file_commands r) ++ encode End)))) (trail-accepted restricted_limits (file_commands r) (file-ok r F) (trail r F))
      ∙ ap (λ (cs : List Command). given (restricted_task_of cs)) (trail-commands restricted_limits (file_commands r) (file-ok r F) (trail r F))
      ∙ ap given task-back
