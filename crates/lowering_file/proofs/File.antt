-- The lowered task's file by its parts, as they are written; that it is short enough to be counted; and what a file that is refused, or
-- accepted, comes to.
-- Assumes nothing.
use mathlib.Core.Path.{◌≡◌, refl, sym, ap, ap₂, ◌∙◌, subst}
use mathlib.Core.Bool.{Bool}
use mathlib.Core.List.{List, [], ◌∷◌, ◌++◌, flat_map, append_assoc, append-nil}
use Prim.Native.Nat.{ℕ, zero, suc, ◌+◌, ◌*◌, ◌≤◌, ◌<◌}
use native.Mathlib.Omega.{arith}
use lib.ListN.{length, take, replicate, length-append, length-map}
use lib.IntN.{ℤ, pos}
use Rattle.integers.specs.All.{All}
use Rattle.integers.specs.Numbers.{bits_of}
use Rattle.integers.proofs.All.{all_map}
use Rattle.lists.specs.Each.{tabulate}
use Rattle.answers.specs.Answer.{Answer, given, refused, then}
use Rattle.lists.proofs.Each.{flat_map-nil, flat_map-append, length-flat_map}
use Rattle.lists.proofs.Writing.{joined, Left, start}
use Rattle.commands.specs.Table.{letter_a, letter_g}
use Rattle.commands.specs.Encoding.{encode, encode_all}
use Rattle.commands.specs.declared.Command.{Command}
use Rattle.commands.specs.declared.Command.TheVariants.{Start, Mode, Goal, End}
use Rattle.model.specs.Tasks.{NumericCondition, RestrictedAction, SourceTask, RestrictedTask}
use Rattle.model.specs.Limits.{source_limits, restricted_limits}
use Rattle.model.specs.TaskOk.{InRange, ValuesIn, keys, RestrictedActionOk, RestrictedTaskOk}
use Rattle.model.specs.Reading.{Verdict, Rejected, verdict_of}
use Rattle.model.specs.Decoding.{on_verdict, read_source}
use Rattle.model.specs.Steps.{sizes_of}
use Rattle.model.specs.Stages.{hold_count}
use Rattle.model.specs.Sums.{sum_values}
use Rattle.model.specs.Lowering.{resting_helpers, start_commands, mode_commands, mode_condition_commands, condition_commands, encode_file, lower_task, lower_file}
use Rattle.model.specs.Judging.{lower_bytes}
use Rattle.model.proofs.AcceptedOk.{accepted-source-ok}
use Rattle.model.proofs.LoweredOk.{lowered-task-ok}
use Rattle.file_parts.specs.Row.{row_is}
use Rattle.file_parts.specs.With.{with_mode_condition}
use Rattle.file_actions.proofs.Distinct.{few-distinct}
use Rattle.model.specs.FourRelations.{in_four}
use Rattle.source_sums.specs.Found.{task_of}
use Rattle.lowering_sums.specs.Views.{Fits, start_bytes}
use Rattle.lowering_rows.specs.Bytes.{mode_condition_bytes, condition_bytes, mode_effect_bytes, addition_bytes, restricted_action_bytes, row_bytes}
use Rattle.lowering_rows.proofs.Parts.{run-bytes, mode-conditions-bytes, conditions-bytes, actions-bytes}
use Rattle.lowering_rows.proofs.Writing.{action-row}
use Rattle.lowering_file.specs.declared.Declarations.{Declarations}
use Rattle.lowering_file.specs.Parts.{mode_bytes, modes_in, holds_of, starts_in}
use Rattle.lowering_file.specs.Held.{Kept, sums_is, KeptOf, Declares, GoalOf, Told, starts_part, modes_part, actions_part, goal_end}
use Rattle.lowering_file.specs.Held.{in_file_order, actions_first}
use Rattle.lowering_file.proofs.Keeping.{starts-kept}
use Rattle.lowering_file.proofs.Walk.{all_right}

-- ---- the starts, the modes, and the whole file
starts-bytes : (zs : List ℤ) (more : List Command) → encode_all (start_commands zs more) ≡ flat_map start_bytes zs ++ encode_all more
starts-bytes = run-bytes (λ z. Start (bits_of 4 z)) start_commands (λ m. refl) (λ x xs m. refl)

modes-bytes : (ms : List (ℕ × ℕ)) (more : List Command) → encode_all (mode_commands ms more) ≡ flat_map mode_bytes ms ++ encode_all more
modes-bytes = run-bytes (λ m. Mode m.0 m.1) mode_commands (λ m. refl) (λ x xs m. refl)

-- so many zeros, by number
tabulated : (n : ℕ) → replicate n (pos 0) ≡ tabulate n (λ i. pos 0)
unfolding tabulate
tabulated zero = refl
tabulated (suc n) = ap (λ (zs : List ℤ). pos 0 ∷ zs) (tabulated n)

pub zeros : (n : ℕ) → flat_map start_bytes (replicate n (pos 0)) ≡ flat_map start_bytes (tabulate n (λ i. pos 0))
zeros n = ap (flat_map start_bytes) (tabulated n)

-- A, B and the holds, as many as there are
resting : (holds n : ℕ) → n ≡ 2 + holds → resting_helpers holds ≡ replicate n (pos 0)
resting holds n e = let z : n ≡ suc (suc holds) = omega arith in rw z

pub starts-begun : (old : List ℕ) (at : ℕ) (zs : List ℤ) (holds n : ℕ) (ks : List ℤ) → n ≡ 2 + holds
    → Left old at (flat_map start_bytes ((zs ++ resting_helpers holds) ++ ks)) old at
    (flat_map start_bytes zs ∷ flat_map start_bytes (replicate n (pos 0)) ∷ flat_map start_bytes ks ∷ [])
starts-begun old at zs holds n ks e =
    let front = flat_map start_bytes zs in
    let rest = flat_map start_bytes (replicate n (pos 0)) in
    let last = flat_map start_bytes ks in
    start old at
    (flat_map-append start_bytes (zs ++ resting_helpers holds) ks
    ∙ ap (λ (ys : List ℕ). ys ++ last) (flat_map-append start_bytes zs (resting_helpers holds)
    ∙ ap (λ (ys : List ℤ). front ++ flat_map start_bytes ys) (resting holds n e))
    ∙ append_assoc front rest last
    ∙ ap (λ (ys : List ℕ). front ++ (rest ++ ys)) (sym (append-nil last)))

pub modes-begun : (old : List ℕ) (at : ℕ) (ms : List (ℕ × ℕ)) (m : ℕ × ℕ) → Left old at (flat_map mode_bytes (ms ++ (m ∷ []))) old at (flat_map mode_bytes ms ∷ mode_bytes m ∷ [])
unfolding flat_map
modes-begun old at ms m = start old at (flat_map-append mode_bytes ms (m ∷ []))

-- a goal, up to the end of the file
abbrev goal_bytes : List (ℕ × ℕ) → List (NumericCondition ℕ) → List ℕ
goal_bytes ps cs = encode_all (Goal ∷ mode_condition_commands ps (condition_commands cs [])) ++ encode End

abbrev file_parts_of : RestrictedTask → List (List ℕ)
file_parts_of r = flat_map start_bytes r.starts ∷ flat_map mode_bytes r.modes ∷ flat_map restricted_action_bytes r.actions ∷ goal_bytes r.goal_modes r.goal_conditions ∷ []

file-parts : (r : RestrictedTask) → encode_file r ≡ joined (file_parts_of r)
unfolding encode_file
file-parts r =
    ap (λ (z : List ℕ). z ++ encode End)
    (starts-bytes r.starts _
    ∙ ap (λ (z : List ℕ). flat_map start_bytes r.starts ++ z)
    (modes-bytes r.modes _ ∙ ap (λ (z : List ℕ). flat_map mode_bytes r.modes ++ z) (actions-bytes r.actions _)))
    ∙ (simp append_assoc)
    ∙ ap (λ (z : List ℕ). flat_map start_bytes r.starts ++ (flat_map mode_bytes r.modes ++ (flat_map restricted_action_bytes r.actions ++ z)))
    (sym (append-nil (goal_bytes r.goal_modes r.goal_conditions)))

-- ---- a goal is written as a row with byte G, and the end behind it
goal-bytes : (ps : List (ℕ × ℕ)) (cs : List (NumericCondition ℕ)) → goal_bytes ps cs ≡ row_bytes letter_g (record { mode_conditions = ps; conditions = cs; mode_effects = []; additions = [] }) ++ encode End
goal-bytes ps cs =
    ap (λ (z : List ℕ). (encode Goal ++ z) ++ encode End)
    (mode-conditions-bytes ps _ ∙ ap (λ (z : List ℕ). flat_map mode_condition_bytes ps ++ z) (conditions-bytes cs [] ∙ ap (λ (z : List ℕ). flat_map condition_bytes cs ++ z) (sym none)))
  where
    none : flat_map mode_effect_bytes [] ++ (flat_map addition_bytes [] ++ []) ≡ []
    none = rw (flat_map-nil mode_effect_bytes, flat_map-nil addition_bytes)

pub goal-begun : (old : List ℕ) (at : ℕ) (row : List ℕ) → Left old at (row ++ encode End) old at (row ∷ encode End ∷ [])
goal-begun old at row = start old at (ap (λ (z : List ℕ). row ++ z) (sym (append-nil (encode End))))

-- ---- the parts that are written, from what is read
module _ {file : List ℕ} {count : ℕ} {d : Declarations} (D : Declares file count d) where
  module _ {control : ℕ} {several : Bool} (told : Told file control several) where
    pub starts-are : {p : Kept} → KeptOf file p → flat_map start_bytes (starts_in d.shape.variables d.starts several (sums_is p)) ≡ starts_part file
    starts-are keeps =
        ap (flat_map start_bytes) (starts-kept keeps (take d.shape.variables d.starts) (holds_of several) D.starts_are told.holds_are)

    pub modes-are : flat_map mode_bytes (modes_in d.shape.modes d.shape.sizes d.values ++ ((control, 0) ∷ [])) ≡ modes_part file
    modes-are = ap₂ (λ (ms : List (ℕ × ℕ)) (n : ℕ). flat_map mode_bytes (ms ++ ((n, 0) ∷ []))) D.modes_are told.control_is

  -- the kept variables start in range
  pub starts_fit : {p : Kept} → KeptOf file p → All Fits (sum_values (sums_is p) (take d.shape.variables d.starts))
  starts_fit {p} keeps =
      let t = task_of file in
      let values = take d.shape.variables d.starts in
      let holds = hold_count t.actions in
      let all = subst (All (InRange restricted_limits)) (sym (starts-kept keeps values holds D.starts_are refl))
      (lowered-task-ok t (accepted-source-ok file t D.held.is)).starts_in in
      all_map (InRange restricted_limits) Fits (λ z h. omega (arith, h)) (sum_values (sums_is p) values)
      (all_right (InRange restricted_limits) (values ++ resting_helpers holds) (sum_values (sums_is p) values) all)

  pub goal-are : {marks : List ℕ} {numbers : List ℤ} → GoalOf file marks numbers
      → row_bytes letter_g (in_four (with_mode_condition (row_is marks numbers) (d.shape.modes, 0))) ++ encode End ≡ goal_end file
  goal-are g = ap₂ (λ (x : RestrictedAction) (m : ℕ). row_bytes letter_g (in_four (with_mode_condition x (m, 0))) ++ encode End) g.is D.held.modes_are

-- ---- all of them, in the order of the file, are the lowered file
pub file-is : (file : List ℕ) → in_file_order file ≡ lower_file (task_of file)
file-is file =
    let t = task_of file in
    sym
    (file-parts (lower_task t)
    ∙ ap (λ (z : List ℕ). starts_part file ++ (modes_part file ++ (actions_part file ++ (z ++ []))))
    (goal-bytes (lower_task t).goal_modes (lower_task t).goal_conditions))

-- with the actions first there are as many
pub same-long : (file : List ℕ) → length (actions_first file) ≡ length (lower_file (task_of file))
same-long file = by (starts_part file) (modes_part file) (actions_part file) (goal_end file ++ []) ∙ ap length (file-is file)
  where
    by : (xs ys zs rest : List ℕ) → length (zs ++ (xs ++ (ys ++ rest))) ≡ length (xs ++ (ys ++ (zs ++ rest)))
    by xs ys zs rest = simp length-append (omega arith)

-- before anything is written
pub file-begun : (file old : List ℕ) → Left old 0 (in_file_order file) old 0 (starts_part file ∷ modes_part file ∷ actions_part file ∷ goal_end file ∷ [])
file-begun file old = start old 0 refl

pub count-begun : (file old : List ℕ) → Left old 0 (actions_first file) old 0 (actions_part file ∷ starts_part file ∷ modes_part file ∷ goal_end file ∷ [])
count-begun file old = start old 0 refl

-- ---- a file that keeps to the limits is short
row-length : (b : ℕ) (x : RestrictedAction) → length (row_bytes b x) ≡ 1 + 4 * length x.mode_conditions + 7 * length x.conditions + 4 * length x.mode_effects + 6 * length x.additions
row-length b x =
    simp length-append
    (omega (
      arith,
      length-flat_map mode_condition_bytes 4 (λ y. refl) x.mode_conditions,
      length-flat_map condition_bytes 7 (λ y. refl) x.conditions,
      length-flat_map mode_effect_bytes 4 (λ y. refl) x.mode_effects,
      length-flat_map addition_bytes 6 (λ y. refl) x.additions,
    ))

module _ (n : ℕ) (sizes : List ℕ) (few : length sizes ≤ 8) where
  set_below : (es : List (ℕ × ℕ)) → ValuesIn sizes es → All (λ (k : ℕ). k < length sizes) (keys es)
  set_below [] h = tt
  set_below (e ∷ es) (h, hs) = (h.0, set_below es hs)

  action-short : (a : RestrictedAction) → RestrictedActionOk restricted_limits n sizes a → length (restricted_action_bytes a) ≤ 1000
  action-short a h = omega (
    arith,
    ap length (action-row a),
    row-length letter_a a,
    h.conditions_ok.mode_conditions_few,
    h.conditions_ok.conditions_few,
    few-distinct (length sizes) (keys a.mode_effects) (set_below a.mode_effects h.mode_effects_in) h.mode_effects_once,
    length-map a.mode_effects (λ (e : ℕ × ℕ). e.0),
    h.additions_few,
  )

  actions-short : (acts : List RestrictedAction) → All (RestrictedActionOk restricted_limits n sizes) acts → length (flat_map restricted_action_bytes acts) ≤ 1000 * length acts
  unfolding flat_map
  actions-short [] h = omega arith
  actions-short (a ∷ acts) (h, hs) = omega (arith, action-short a h, actions-short acts hs, length-append (restricted_action_bytes a) (flat_map restricted_action_bytes acts))

-- so it can be counted
file-short : (r : RestrictedTask) → RestrictedTaskOk r → length (encode_file r) ≤ 4294967296
file-short r h = omega (
  arith,
  ap length (file-parts r),
  length-append (flat_map start_bytes r.starts) (flat_map mode_bytes r.modes ++ (flat_map restricted_action_bytes r.actions ++ (goal_bytes r.goal_modes r.goal_conditions ++ []))),
  length-append (flat_map mode_bytes r.modes) (flat_map restricted_action_bytes r.actions ++ (goal_bytes r.goal_modes r.goal_conditions ++ [])),
  length-append (flat_map restricted_action_bytes r.actions) (goal_bytes r.goal_modes r.goal_conditions ++ []),
  ap length (append-nil (goal_bytes r.goal_modes r.goal_conditions)),
  length-flat_map start_bytes 5 (λ y. refl) r.starts,
  length-flat_map mode_bytes 5 (λ y. refl) r.modes,
  actions-short (length r.starts) (sizes_of r.modes) (omega (arith, h.modes_few, length-map r.modes (λ (m : ℕ × ℕ). m.0))) r.actions h.actions_ok,
  ap length (goal-bytes r.goal_modes r.goal_conditions),
  length-append (row_bytes letter_g (record { mode_conditions = r.goal_modes; conditions = r.goal_conditions; mode_effects = []; additions = [] })) (encode End),
  row-length letter_g (record { mode_conditions = r.goal_modes; conditions = r.goal_conditions; mode_effects = []; additions = [] }),
  h.starts_few,
  h.modes_few,
  h.actions_few,
  h.goal.mode_conditions_few,
  h.goal.conditions_few,
)

pub task-short : (file : List ℕ) → read_source file ≡ given (task_of file) → length (lower_file (task_of file)) ≤ 4294967296
task-short file is = file-short (lower_task (task_of file)) (lowered-task-ok (task_of file) (accepted-source-ok file (task_of file) is))

-- ---- a file that is refused; and one that is accepted
module _ (file : List ℕ) where
  refused-reads : (number place : ℕ) → Rejected number place ≡ verdict_of source_limits file → read_source file ≡ refused number place
  refused-reads number place e = sym (ap (λ (v : Verdict). on_verdict v (task_of file)) e)

  pub refused-lowers : (number place : ℕ) → Rejected number place ≡ verdict_of source_limits file → lower_bytes file ≡ refused number place
  refused-lowers number place e = ap (λ (o : Answer SourceTask). then o (λ t. given (lower_file t))) (refused-reads number place e)

  pub accepted-lowers : read_source file ≡ given (task_of file) → lower_bytes file ≡ given (lower_file (task_of file))
  accepted-lowers e = ap (λ (o : Answer SourceTask). then o (λ t. given (lower_file t))) e
