-- What is read of an accepted file is what its task declares, and its goal.
-- Assumes nothing.
use mathlib.Core.Path.{◌≡◌, refl, sym, ap, ap₂, ◌∙◌, subst}
use mathlib.Core.List.{List, [], ◌∷◌, ◌++◌, map, append-nil}
use Prim.Native.Nat.{ℕ, zero, suc, ◌+◌, ◌≤◌, ◌<◌}
use native.Mathlib.Omega.{arith}
use lib.ListN.{length, take, get_or, replicate, length-replicate}
use lib.Seq.{get_or-take, ext_get_or}
use Rattle.lists.proofs.Each.{length-tabulate, get_or-tabulate}
use lib.IntN.{ℤ, pos, nat_abs}
use Rattle.integers.specs.All.{All}
use Rattle.integers.specs.Numbers.{Bytes}
use Rattle.answers.specs.Answer.{given}
use Rattle.lists.specs.Writing.{splice}
use Rattle.model.specs.Tasks.{Measured, variable, weighted_sum, NumericCondition, SourceAction, State}
use Rattle.model.specs.Limits.{source_limits}
use Rattle.model.specs.Reading.{verdict_of}
use Rattle.model.specs.Decoding.{sum_conditions_of, read_source}
use Rattle.model.specs.ActionBytes.{decode_action}
use Rattle.model.specs.TaskOk.{MeasureOk, ConditionOk, SourceTaskOk}
use Rattle.model.specs.Steps.{integer_at, natural_at, source_start}
use Rattle.model.specs.Sums.{sum_in, on_kept}
use Rattle.model.specs.Stages.{hold_count}
use Rattle.model.specs.Lowering.{resting_helpers}
use Rattle.model.proofs.AcceptedOk.{accepted-source-ok}
use Rattle.model.proofs.LoweredOk.{measuring-task-ok}
use Rattle.file_parts.specs.Layout.{condition_count}
use Rattle.file_parts.specs.Row.{condition_in, conditions_in, row_is, PartsFit, Says}
use Rattle.file_parts.specs.With.{with_conditions}
use Rattle.file_parts.proofs.Pushing.{parts-fit, says-as, pushed}
use Rattle.file_actions.specs.declared.Effects.{Effects}
use Rattle.file_actions.specs.declared.SumConditions.{SumConditions}
use Rattle.file_actions.specs.Numeric.{no_sums}
use Rattle.file_actions.specs.Places.{edges_of, goal_part}
use Rattle.file_actions.specs.Views.{sum_room, sums_is as conditions_is, plain_action_of, SourceDecoded, SumsDecoded, fitting_source}
use Rattle.file_actions.proofs.Accepted.{source-edges, places-at, goal-row, source-goal-decoded, source-goal-within, source-goal-row}
use Rattle.file_declarations.specs.declared.Declared.{Declared}
use Rattle.file_declarations.specs.Holding.{HoldsSource}
use Rattle.source_step.specs.Sizes.{ACTIONS}
use Rattle.source_step.specs.Row.{ValuesNear}
use Rattle.source_step.specs.Accepted.{AcceptedWith}
use Rattle.source_step.proofs.Judging.{accepted-task, counted-task}
use Rattle.source_sums.specs.Found.{task_of, PlacesOf}
use Rattle.lowering_rows.specs.Macros.{Constant, Fit}
use Rattle.lowering_rows.proofs.Keeping.{opening-kept}
use Rattle.lowering_file.specs.Parts.{mode_at, modes_in}
use Rattle.lowering_file.specs.Held.{measuring, Declares, goal_sum, goal_of, GoalOf}

-- ---- lists
front-small : (xs ys : List ℤ) (i : ℕ) → All (λ (z : ℤ). nat_abs z ≤ 10_000) (xs ++ ys) → nat_abs (integer_at xs i) ≤ 10_000
front-small [] ys i h = omega arith
front-small (x ∷ xs) ys zero (h, hs) = h
front-small (x ∷ xs) ys (suc i) (h, hs) = front-small xs ys i hs

get_or-each : {A B : Type 0} (f : A → B) (xs : List A) (k : ℕ) (d : A) → get_or (map f xs) k (f d) ≡ f (get_or xs k d)
get_or-each f [] k d = refl
get_or-each f (x ∷ xs) zero d = refl
get_or-each f (x ∷ xs) (suc k) d = get_or-each f xs k d

-- pairs in two arrays, from their firsts and their seconds
pairs-are : (n : ℕ) (xs ys : List ℕ) (ms : List (ℕ × ℕ)) → n ≡ length ms → take n xs ≡ map (λ (m : ℕ × ℕ). m.0) ms → take n ys ≡ map (λ (m : ℕ × ℕ). m.1) ms → modes_in n xs ys ≡ ms
pairs-are n xs ys ms l e f =
    ext_get_or (0, 0) (modes_in n xs ys) ms (length-tabulate n (mode_at xs ys) ∙ l)
    (λ k h.
    let b : k < n = omega (arith, length-tabulate n (mode_at xs ys)) in
    get_or-tabulate n (mode_at xs ys) k (0, 0) b
    ∙ ap₂ (λ (x y : ℕ). (x, y))
    (sym (get_or-take n xs k 0 b) ∙ ap (λ (z : List ℕ). get_or z k 0) e ∙ get_or-each (λ (m : ℕ × ℕ). m.0) ms k (0, 0))
    (sym (get_or-take n ys k 0 b) ∙ ap (λ (z : List ℕ). get_or z k 0) f ∙ get_or-each (λ (m : ℕ × ℕ). m.1) ms k (0, 0)))

-- ---- conditions on kept variables are as many
pub kept-long : (j : ℕ) (cs : List (NumericCondition ℕ)) → length (on_kept j cs) ≡ length cs
kept-long j [] = refl
kept-long j (c ∷ cs) = ap suc (kept-long (j + length (sum_in c.measured)) cs)

-- ---- an accepted file
module _ (file : List ℕ) (count : ℕ) (bytes : Bytes file) (accepted : AcceptedWith (verdict_of source_limits file) count) where
  pub task-read : read_source file ≡ given (task_of file)
  task-read = accepted-task file count accepted

  pub actions-counted : count ≡ length (task_of file).actions
  actions-counted = counted-task file count bytes accepted (task_of file) task-read

  pub task-ok : SourceTaskOk (task_of file)
  task-ok = accepted-source-ok file (task_of file) task-read

  pub actions-few : count ≤ ACTIONS
  actions-few = omega (arith, actions-counted, task-ok.actions_few)

  -- the offsets of the actions and of the goal, stored from the front of a table of zeros
  pub placed : (places : List ℕ) → places ≡ splice (replicate 33 0) 0 (edges_of file) → PlacesOf file count places
  placed places e k h =
      ap (λ (l : List ℕ). get_or l k 0) e
      ∙ places-at file (replicate 33 0) (omega (arith, edges, actions-few, length-replicate {A = ℕ} 33 0)) k (omega (arith, edges, h))
    where
      edges : length (edges_of file) ≡ suc count
      edges = source-edges file bytes (task_of file) task-read ∙ ap suc (sym actions-counted)

  module _ (r : Declared) (lower upper start : List ℤ) (sizes values : List ℕ) (h : HoldsSource (task_of file) r lower upper start sizes values) where
    starts-small : ValuesNear r.variables start
    starts-small j =
        let e : take r.variables start ≡ (source_start (task_of file)).values = ap (λ (x : State). x.values) h.start_is in
        let small = front-small (source_start (task_of file)).values (resting_helpers (hold_count (task_of file).actions)) j
        (measuring-task-ok (task_of file) task-ok).starts_in in
        subst (λ (z : List ℤ). nat_abs (integer_at z j) ≤ 10_000) (sym e) small

    pub declared : Declares file count (record { shape = record { variables = r.variables; lower = lower; upper = upper; modes = r.modes; sizes = sizes }; starts = start; values = values })
    declared = record {
      held = record {
        bytes = bytes;
        is = task-read;
        counted = actions-counted;
        variables_are = h.variable_count;
        modes_are = h.mode_count;
        lowers_are = h.lowers_are;
        uppers_are = h.uppers_are;
      };
      starts_long = h.room.start_long;
      starts_small = starts-small;
      starts_are = ap (λ (x : State). x.values) h.start_is;
      modes_are = pairs-are r.modes sizes values (task_of file).modes h.mode_count h.sizes_are (ap (λ (x : State). x.modes) h.start_is);
    }

  -- ---- the goal
  abbrev number : ℕ
  number = goal_sum file (length (measuring file).starts)

  -- rows that say it
  pub goal-read : {marks : List ℕ} {numbers : List ℤ} → Says (goal_of file) marks numbers → GoalOf file marks numbers
  goal-read says =
      let ok = task-ok.goal in
      let cs = (task_of file).goal_conditions in
      record {
        writable = record {
          room = parts-fit says (record {
            conditions = omega (arith, ok.conditions_few, kept-long number cs);
            mode_conditions = omega (arith, ok.mode_conditions_few);
            mode_effects = omega arith;
            additions = omega arith;
          });
          numbers_long = says.numbers_long;
          fit = subst Fit (sym says.is) (record { constants = all_small (length (task_of file).variables) cs number ok.conditions_in; amounts = tt });
        };
        is = says.is;
      }
    where
      all_small : (n : ℕ) (cs : List (NumericCondition ℕ)) (j : ℕ) → All (ConditionOk source_limits n) cs → All Constant (on_kept j cs)
      all_small n [] j h = tt
      all_small n (c ∷ cs) j (h, hs) = (one c.measured c.constant h.measures, all_small n cs (j + length (sum_in c.measured)) hs)
        where
          one : (m : Measured ℕ) (k : ℤ) → MeasureOk source_limits n m k → nat_abs k < 2_147_483_648
          one (variable i) k h = omega (arith, h.1)
          one (weighted_sum ts) k h = omega (arith, h.3)

  module _ (marks : List ℕ) (numbers : List ℤ) (r : Effects)
      (d : SourceDecoded (fitting_source (plain_action_of (decode_action (goal_part file count)))) marks numbers r) where
    plain : SourceDecoded (fitting_source (plain_action_of (decode_action (goal_part file (length (task_of file).actions))))) marks numbers r
    plain = subst (λ (n : ℕ). SourceDecoded (fitting_source (plain_action_of (decode_action (goal_part file n)))) marks numbers r) actions-counted d

    module _ (own : SumConditions) (s : SumsDecoded (sum_conditions_of (decode_action (goal_part file count))) own) where
      sums : SumsDecoded (sum_conditions_of (decode_action (goal_part file (length (task_of file).actions)))) own
      sums = subst (λ (n : ℕ). SumsDecoded (sum_conditions_of (decode_action (goal_part file n))) own) actions-counted s

      row : Says (goal-row file bytes (task_of file) task-read marks numbers r own plain sums) marks numbers
      row = source-goal-row file bytes (task_of file) task-read marks numbers r own plain sums

      -- there is room for its K's as C
      pub goal-sums-fit : PartsFit sum_room 0 0 0 marks
      goal-sums-fit =
          let within = source-goal-within file bytes (task_of file) task-read marks numbers r own plain sums in
          parts-fit row (record {
            conditions = omega (arith, within.conditions_few, length-tabulate (natural_at marks condition_count) (condition_in marks numbers));
            mode_conditions = omega (arith, task-ok.goal.mode_conditions_few);
            mode_effects = omega arith;
            additions = omega arith;
          })

      -- its C as they are and its K's on the variables from v on are the conditions of the goal, where v is their number, or there is none
      conditions-are : (v : ℕ) → on_kept v (conditions_is own) ≡ on_kept number (conditions_is own)
          → conditions_in marks numbers ++ on_kept v (conditions_is own) ≡ on_kept number (task_of file).goal_conditions
      conditions-are v e =
          let cs = conditions_in marks numbers in
          let ks = conditions_is own in
          let all : cs ++ ks ≡ (task_of file).goal_conditions =
          ap (λ (a : SourceAction). a.conditions) (source-goal-decoded file bytes (task_of file) task-read marks numbers r own plain sums) in
          ap (λ (z : List (NumericCondition ℕ)). cs ++ z) e ∙ sym (append-nil (cs ++ on_kept number ks))
          ∙ sym (opening-kept marks numbers ks 0 (λ (i : ℕ). pos 0) (λ (i : ℕ). pos 0) [] number)
          ∙ ap (on_kept number) (append-nil (cs ++ ks) ∙ all)

      pub goal-kept : (v : ℕ) → on_kept v (conditions_is own) ≡ on_kept number (conditions_is own) → {marks' : List ℕ} {numbers' : List ℤ}
          → Says (with_conditions (row_is marks numbers) (on_kept v (conditions_is own))) marks' numbers' → GoalOf file marks' numbers'
      goal-kept v e w = goal-read (says-as (pushed row with_conditions w) (λ i. record {
        mode_conditions = (task_of file).goal_modes;
        conditions = conditions-are v e i;
        mode_effects = [];
        additions = [];
      }))

    -- in a task without sums, and so without K's
    pub goal-plain : sum_conditions_of (decode_action (goal_part file count)) ≡ [] → GoalOf file marks numbers
    goal-plain none =
        let s = subst (λ (ks : List (NumericCondition ℕ)). SumsDecoded ks no_sums) (sym none) (record {
          are = refl;
          few = omega arith;
          long = refl;
          terms_few = (omega arith, (omega arith, (omega arith, (omega arith, tt))));
        }) in
        goal-kept no_sums s 0 refl (record {
          marks_long = d.parts.marks_long;
          numbers_long = d.parts.numbers_long;
          is = λ i. record {
            mode_conditions = (row_is marks numbers).mode_conditions;
            conditions = sym (append-nil (row_is marks numbers).conditions) i;
            mode_effects = (row_is marks numbers).mode_effects;
            additions = (row_is marks numbers).additions;
          };
        })
