-- The walk over the source actions of an accepted file: at each, what is left of the lowered actions is its macro and what is left behind it.
-- Assumes nothing.
use mathlib.Core.Path.{◌≡◌, refl, sym, ap, ap₂, ◌∙◌, subst}
use mathlib.Core.Bool.{Bool, true, false, cond}
use mathlib.Core.Option.{some}
use mathlib.Core.List.{List, [], ◌∷◌, ◌++◌, map}
use Prim.Native.Nat.{ℕ, zero, suc, ◌+◌, ◌*◌, ◌≤◌, ◌<◌}
use native.Mathlib.Omega.{arith}
use native.Mathlib.Numerals.{add-one}
use lib.ListN.{length, drop, get_elem?, length-append, length-map, length-take}
use lib.Seq.{drop-length}
use lib.IntN.{ℤ, nat_abs}
use Rattle.integers.specs.All.{All}
use Rattle.lists.proofs.Each.{length-tabulate}
use Rattle.model.specs.Tasks.{SourceVariable, SourceAction, RestrictedAction}
use Rattle.model.specs.Limits.{source_limits, restricted_limits}
use Rattle.model.specs.TaskOk.{EffectOk, SourceVariableOk, SourceActionOk, SourceTaskOk, RestrictedActionOk}
use Rattle.model.specs.Reading.{verdict_of}
use Rattle.model.specs.Decoding.{conditions_of, mode_conditions_of, sum_conditions_of, mode_effects_of, source_action_of}
use Rattle.model.specs.ActionBytes.{action_part, decode_action}
use Rattle.model.specs.Steps.{integer_at, natural_at, sizes_of, lower_bounds, upper_bounds}
use Rattle.model.specs.Stages.{stages_of, macro, lower_actions, stage_count, several, hold_count}
use Rattle.model.specs.Sums.{sums_in, sums_of_actions, on_kept, keeping_all}
use Rattle.model.specs.Lowering.{numbered_all, lower_task}
use Rattle.model.proofs.AcceptedOk.{accepted-source-ok}
use Rattle.model.proofs.LoweredOk.{lowered-task-ok}
use Rattle.model.proofs.LoweredSums.{sums-in-file-order}
use Rattle.model.proofs.StageWalk.{all-get}
use Rattle.file_parts.specs.Layout.{condition_room, mode_condition_room, mode_effect_room, mode_effect_count}
use Rattle.file_parts.specs.Row.{conditions_in, mode_effect_in, row_is, PartsFit, Says}
use Rattle.file_parts.specs.With.{source_part}
use Rattle.file_parts.proofs.Pushing.{parts-fit}
use Rattle.file_actions.specs.declared.Effects.{Effects}
use Rattle.file_actions.specs.declared.SumConditions.{SumConditions}
use Rattle.file_actions.specs.Views.{sum_room, sums_is as conditions_is, effects_is, plain_is, source_action_is, plain_action_of, SourceDecoded, SumsDecoded}
use Rattle.file_actions.specs.Views.{fitting_source}
use Rattle.file_actions.specs.Within.{SourceWithin}
use Rattle.file_actions.proofs.Accepted.{source-action-decoded, source-action-within}
use Rattle.file_actions.proofs.Sums.{decoded-sums}
use Rattle.source_step.specs.Accepted.{AcceptedWith}
use Rattle.source_sums.specs.Found.{task_of}
use Rattle.lowering_stages.specs.declared.Shape.{Shape}
use Rattle.lowering_stages.specs.Stages.{most_stages, stage_numbers, PlacesFew}
use Rattle.lowering_stages.specs.Shapes.{lower_of, upper_of, Bounded}
use Rattle.lowering_rows.specs.Macros.{AllFit, with_own, macro_with, Keeps, Lowerable, stages_in, macro_in, Sound}
use Rattle.lowering_rows.proofs.Macros.{macro-is, sound-fit}
use Rattle.lowering_rows.proofs.Staging.{numbered-append, drop_get}
use Rattle.lowering_file.specs.Held.{measuring, Held, Kept, sums_is, KeptOf, goal_sum, measured_at, rest_at, stages_of_task, Told}
use Rattle.lowering_file.proofs.Declared.{kept-long}
use Rattle.source_sums.proofs.Gathering.{own-counted, action-at, none-at}
use Rattle.lowering_file.proofs.Keeping.{sums-behind, keeping-append, macro-measures, actions-kept}

-- ---- lists
all_left : {A : Type 0} (P : A → Type 0) (xs ys : List A) → All P (xs ++ ys) → All P xs
all_left P [] ys h = tt
all_left P (x ∷ xs) ys (p, ps) = (p, all_left P xs ys ps)

pub all_right : {A : Type 0} (P : A → Type 0) (xs ys : List A) → All P (xs ++ ys) → All P ys
all_right P [] ys h = h
all_right P (x ∷ xs) ys (p, ps) = all_right P xs ys ps

sound-left : (xs ys : List RestrictedAction) → Sound (xs ++ ys) → Sound xs
sound-left xs ys s = record { variables = s.variables; sizes = s.sizes; few = s.few; ok = all_left (RestrictedActionOk restricted_limits s.variables s.sizes) xs ys s.ok }

sound-right : (xs ys : List RestrictedAction) → Sound (xs ++ ys) → Sound ys
sound-right xs ys s = record { variables = s.variables; sizes = s.sizes; few = s.few; ok = all_right (RestrictedActionOk restricted_limits s.variables s.sizes) xs ys s.ok }

-- bounds of a file are small
bounds-small : (f : SourceVariable → ℤ) → ((b : SourceVariable) → SourceVariableOk source_limits b → nat_abs (f b) ≤ 10000) → (vs : List SourceVariable) (j : ℕ) → All (SourceVariableOk source_limits) vs → nat_abs (integer_at (map f vs) j) ≤ 10000
bounds-small f h [] j o = omega arith
bounds-small f h (b ∷ vs) zero (o, os) = h b o
bounds-small f h (b ∷ vs) (suc j) (o, os) = bounds-small f h vs j os

module _ {file : List ℕ} {count : ℕ} {h : Shape} (held : Held file count h) where
  task-ok : SourceTaskOk (task_of file)
  task-ok = accepted-source-ok file (task_of file) held.is

  pub few-actions : count ≤ 32
  few-actions = omega (arith, held.counted, task-ok.actions_few)

  pub bounded : Bounded h
  bounded = record {
    variables_few = omega (arith, held.variables_are, task-ok.variables_few);
    modes_few = omega (arith, held.modes_are, task-ok.modes_few);
    lower_in = λ j. subst (λ (l : List ℤ). nat_abs (integer_at l j) ≤ 10000) (sym held.lowers_are) (bounds-small (λ (b : SourceVariable). b.lower) (λ b o. o.0) (task_of file).variables j task-ok.variables_in);
    upper_in = λ j. subst (λ (l : List ℤ). nat_abs (integer_at l j) ≤ 10000) (sym held.uppers_are) (bounds-small (λ (b : SourceVariable). b.upper) (λ b o. o.1) (task_of file).variables j task-ok.variables_in);
  }

  all_sound : Sound (lower_task (task_of file)).actions
  all_sound =
      let r = lowered-task-ok (task_of file) task-ok in
      record {
        variables = length (lower_task (task_of file)).starts;
        sizes = sizes_of (lower_task (task_of file)).modes;
        few = omega (arith, r.modes_few, length-map (lower_task (task_of file)).modes (λ (m : ℕ × ℕ). m.0));
        ok = r.actions_ok;
      }

  -- an action of the file, decoded
  module _ (k : ℕ) (below : k < count) (marks : List ℕ) (numbers : List ℤ) (r : Effects) (s : SumConditions)
      (decoded : SourceDecoded (fitting_source (plain_action_of (decode_action (action_part file k)))) marks numbers r)
      (sums : SumsDecoded (sum_conditions_of (decode_action (action_part file k))) s) where
    at : get_elem? (task_of file).actions k ≡ some (source_action_is marks numbers r s)
    at = source-action-decoded file held.bytes (task_of file) held.is k (omega (arith, held.counted)) marks numbers r s decoded sums

    within : SourceWithin source_limits (length (task_of file).variables) (sizes_of (task_of file).modes) marks numbers r s
    within = source-action-within file held.bytes (task_of file) held.is k (omega (arith, held.counted)) marks numbers r s decoded sums

    action-ok : SourceActionOk source_limits (length (task_of file).variables) (sizes_of (task_of file).modes) (source_action_is marks numbers r s)
    action-ok =
        all-get (SourceActionOk source_limits (length (task_of file).variables) (sizes_of (task_of file).modes)) (task_of file).actions k
        (source_action_is marks numbers r s) task-ok.actions_ok at

    places-few : PlacesFew r
    places-few = record { few = decoded.few; terms_few = decoded.terms_few }

    -- its rows have no +
    plain_rows : row_is marks numbers ≡ source_part (plain_is marks numbers r)
    plain_rows = λ i. record {
      mode_conditions = (row_is marks numbers).mode_conditions;
      conditions = (row_is marks numbers).conditions;
      mode_effects = (row_is marks numbers).mode_effects;
      additions = ap (λ (x : RestrictedAction). x.additions) decoded.parts.is i;
    }

    -- its K's behind its C's
    module _ (j : ℕ) {marks' : List ℕ} {numbers' : List ℤ} (says : Says (with_own j s (row_is marks numbers)) marks' numbers') where
      conditions-long : length (row_is marks' numbers').conditions ≡ length (source_action_is marks numbers r s).conditions
      conditions-long =
          ap (λ (x : RestrictedAction). length x.conditions) says.is
          ∙ length-append (conditions_in marks numbers) (on_kept j (conditions_is s))
          ∙ ap (λ (n : ℕ). length (conditions_in marks numbers) + n) (kept-long j (conditions_is s))
          ∙ sym (length-append (conditions_in marks numbers) (conditions_is s))

      lowerable : Lowerable h marks' numbers' r
      lowerable = record {
        bounded = bounded;
        marks_long = says.marks_long;
        numbers_long = says.numbers_long;
        no_additions = ap (λ (x : RestrictedAction). x.additions) says.is ∙ ap (λ (x : RestrictedAction). x.additions) plain_rows;
        effects = record {
          few = places-few;
          effects_ok = subst (λ (n : ℕ). All (EffectOk source_limits n) (effects_is r)) (sym held.variables_are) action-ok.effects_ok;
        };
        conditions_few = omega (arith, conditions-long, action-ok.conditions_ok.conditions_few);
        mode_conditions_few = omega (
          arith,
          ap (λ (x : RestrictedAction). length x.mode_conditions) says.is,
          action-ok.conditions_ok.mode_conditions_few,
        );
        mode_effects_few = omega (
          arith,
          ap (λ (x : RestrictedAction). length x.mode_effects) says.is,
          within.row.mode_effects.few,
          length-tabulate (natural_at marks mode_effect_count) (mode_effect_in marks),
          task-ok.modes_few,
          length-map (task_of file).modes (λ (m : ℕ × ℕ). m.0),
        );
      }

    lower-same : lower_of h ≡ lower_bounds (task_of file)
    lower-same = ap integer_at held.lowers_are

    upper-same : upper_of h ≡ upper_bounds (task_of file)
    upper-same = ap integer_at held.uppers_are

    stages-same : stages_in h r ≡ stages_of (lower_bounds (task_of file)) (upper_bounds (task_of file)) (effects_is r)
    stages-same = ap (λ (l : ℕ → ℤ). stages_of l (upper_of h) (effects_is r)) lower-same
        ∙ ap (λ (u : ℕ → ℤ). stages_of (lower_bounds (task_of file)) u (effects_is r)) upper-same

    macro-same : (from : ℕ) → macro_in h from (source_action_is marks numbers r s) ≡ numbered_all (length (task_of file).variables) (length (task_of file).modes)
        (macro (lower_bounds (task_of file)) (upper_bounds (task_of file)) from (source_action_is marks numbers r s))
    macro-same from =
        ap (λ (n : ℕ). numbered_all n h.modes (macro (lower_of h) (upper_of h) from (source_action_is marks numbers r s))) held.variables_are
        ∙ ap (λ (m : ℕ). numbered_all (length (task_of file).variables) m (macro (lower_of h) (upper_of h) from (source_action_is marks numbers r s)))
        held.modes_are
        ∙ ap (λ (l : ℕ → ℤ). numbered_all (length (task_of file).variables) (length (task_of file).modes)
        (macro l (upper_of h) from (source_action_is marks numbers r s))) lower-same
        ∙ ap (λ (u : ℕ → ℤ). numbered_all (length (task_of file).variables) (length (task_of file).modes)
        (macro (lower_bounds (task_of file)) u from (source_action_is marks numbers r s))) upper-same

    -- its macro, and what is left behind it
    measured-split : (from c : ℕ) → c ≡ length (stages_in h r)
        → measured_at file from k ≡ macro_in h from (source_action_is marks numbers r s) ++ measured_at file (from + c) (k + 1)
    measured-split from c e =
        let n = length (task_of file).variables in
        let m = length (task_of file).modes in
        let lo = lower_bounds (task_of file) in
        let hi = upper_bounds (task_of file) in
        let a = source_action_is marks numbers r s in
        let f : length (stages_of lo hi (effects_is r)) ≡ c = sym (e ∙ ap length stages-same) in
        ap (λ (acts : List SourceAction). numbered_all n m (lower_actions lo hi from acts)) (drop_get (task_of file).actions k a at)
        ∙ numbered-append n m (macro lo hi from a) (lower_actions lo hi (from + length (stages_of lo hi (effects_is r))) (drop (suc k) (task_of file).actions))
        ∙ ap₂ ◌++◌ (sym (macro-same from))
        (ap₂ (λ (z i : ℕ). numbered_all n m (lower_actions lo hi (from + z) (drop i (task_of file).actions))) f (sym (add-one k)))

    -- it measures the action's own sums
    macro-sums : (from : ℕ) → length (sums_of_actions (macro_in h from (source_action_is marks numbers r s))) ≡ s.count
    macro-sums from =
        ap (λ (z : List RestrictedAction). length (sums_of_actions z)) (macro-same from)
        ∙ macro-measures (task_of file) (source_action_is marks numbers r s) from
        ∙ ap length (decoded-sums marks numbers r s)
        ∙ sym (own-counted sums)

    stages-split : (c : ℕ) → c ≡ length (stages_in h r)
        → stage_count (lower_bounds (task_of file)) (upper_bounds (task_of file)) (drop k (task_of file).actions)
        ≡ c + stage_count (lower_bounds (task_of file)) (upper_bounds (task_of file)) (drop (k + 1) (task_of file).actions)
    stages-split c e =
        let lo = lower_bounds (task_of file) in
        let hi = upper_bounds (task_of file) in
        ap (stage_count lo hi) (drop_get (task_of file).actions k (source_action_is marks numbers r s) at)
        ∙ ap (λ (z : ℕ). z + stage_count lo hi (drop (suc k) (task_of file).actions)) (sym (e ∙ ap length stages-same))
        ∙ ap (λ (z : ℕ). c + stage_count lo hi (drop z (task_of file).actions)) (sym (add-one k))

    holds-split : hold_count (drop k (task_of file).actions) ≡ cond (several (effects_is r)) 3 (hold_count (drop (k + 1) (task_of file).actions))
    holds-split =
        ap hold_count (drop_get (task_of file).actions k (source_action_is marks numbers r s) at)
        ∙ ap (λ (z : ℕ). cond (several (effects_is r)) 3 (hold_count (drop z (task_of file).actions))) (sym (add-one k))

-- ---- at source action k, whose stages are numbered from `from` and whose sums are kept from number j on; `many` is whether some action before has
-- several effects
pub record Walk (file : List ℕ) (count : ℕ) (h : Shape) (p : Kept) (k from : ℕ) (many : Bool) (j : ℕ) : Type 0 where
  pub held : Held file count h
  pub keeps : KeptOf file p
  pub bound : k ≤ count
  pub low : 0 < from
  pub high : from ≤ 1 + most_stages * k
  pub sound : Sound (rest_at file p from k j)
  pub stages : from + stage_count (lower_bounds (task_of file)) (upper_bounds (task_of file)) (drop k (task_of file).actions) ≡ suc (stages_of_task file)
  pub holds : cond many 3 (hold_count (drop k (task_of file).actions)) ≡ hold_count (task_of file).actions
  pub sums : j + length (sums_of_actions (measured_at file from k)) ≡ goal_sum file p.first

pub walk_start : {file : List ℕ} {count : ℕ} {h : Shape} {p : Kept} → Held file count h → KeptOf file p → Walk file count h p 0 1 false p.first
walk_start held keeps = record {
  held = held;
  keeps = keeps;
  bound = omega arith;
  low = omega arith;
  high = omega arith;
  sound = subst Sound (sym (actions-kept keeps)) (all_sound held);
  stages = omega arith;
  holds = refl;
  sums = refl;
}

module _ {file : List ℕ} {count : ℕ} {h : Shape} {p : Kept} {k from : ℕ} {many : Bool} {j : ℕ} (w : Walk file count h p k from many j) where
  -- the numbers of sums are small
  pub numbers-low : j + sum_room ≤ 255
  numbers-low = omega (
    arith,
    w.sums,
    w.keeps.first_low,
    length-append (sums_of_actions (measuring file).actions) (sums_in (task_of file).goal_conditions),
    ap length (sums-in-file-order (task_of file)),
    (task-ok w.held).sums_few,
  )

  walk-keeps : Keeps p.first p.count p.weights
  walk-keeps = record { few = w.keeps.sums.few; small = w.keeps.sums.blank.small; numbers = omega (arith, w.keeps.first_low) }

  -- in a task without sums action k has none
  pub walk_none : AcceptedWith (verdict_of source_limits file) count → k < count → p.count ≡ 0
      → sum_conditions_of (decode_action (action_part file k)) ≡ []
  walk_none accepted below e = none-at file count w.held.bytes accepted k below p.count w.keeps.sums.counted e

  -- behind the parts of action k there is room for its K's as C
  pub own_room : AcceptedWith (verdict_of source_limits file) count → k < count → {marks : List ℕ} {numbers : List ℤ} {r : Effects}
      → SourceDecoded (fitting_source (plain_action_of (decode_action (action_part file k)))) marks numbers r → PartsFit sum_room 0 0 0 marks
  own_room accepted below decoded =
      let cs = decode_action (action_part file k) in
      let ok = all-get (SourceActionOk source_limits (length (task_of file).variables) (sizes_of (task_of file).modes)) (task_of file).actions k
      (source_action_of cs) (task-ok w.held).actions_ok (action-at file count w.held.bytes accepted k below) in
      parts-fit decoded.parts (record {
        conditions = omega (
          arith,
          ok.conditions_ok.conditions_few,
          length-take condition_room (conditions_of cs),
          length-append (conditions_of cs) (sum_conditions_of cs),
        );
        mode_conditions = omega (arith, length-take mode_condition_room (mode_conditions_of cs));
        mode_effects = omega (arith, length-take mode_effect_room (mode_effects_of cs));
        additions = omega arith;
      })

  module _ (below : k < count) (marks : List ℕ) (numbers : List ℤ) (r : Effects) (s : SumConditions)
      (decoded : SourceDecoded (fitting_source (plain_action_of (decode_action (action_part file k)))) marks numbers r)
      (sums : SumsDecoded (sum_conditions_of (decode_action (action_part file k))) s) where
    abbrev measured : List RestrictedAction
    measured = macro_in h from (source_action_is marks numbers r s)

    abbrev becomes : List RestrictedAction
    becomes = keeping_all p.first (sums_is p) j measured

    pub walk_split : (c : ℕ) → c ≡ length (stages_in h r) → rest_at file p from k j ≡ becomes ++ rest_at file p (from + c) (k + 1) (j + s.count)
    walk_split c e =
        let rest = measured_at file (from + c) (k + 1) in
        ap (keeping_all p.first (sums_is p) j) (measured-split w.held k below marks numbers r s decoded sums from c e)
        ∙ keeping-append p.first (sums_is p) measured rest j
        ∙ ap (λ (n : ℕ). becomes ++ keeping_all p.first (sums_is p) (j + n) rest) (macro-sums w.held k below marks numbers r s decoded sums from)

    -- from its rows, with its K's behind its C's
    module _ {marks' : List ℕ} {numbers' : List ℤ} (says : Says (with_own j s (row_is marks numbers)) marks' numbers') where
      pub rows-become : macro_with p.first (sums_is p) h from (effects_is r) (row_is marks' numbers') ≡ becomes
      rows-become =
          ap (macro_with p.first (sums_is p) h from (effects_is r)) says.is
          ∙ macro-is p.first (sums_is p) h from marks numbers r s j (plain_rows w.held k below marks numbers r s decoded sums)

      -- what a macro requires
      pub macro-ready : Lowerable h marks' numbers' r × Keeps p.first p.count p.weights × (0 < from) × (from ≤ stage_numbers)
          × AllFit (macro_with p.first (sums_is p) h from (effects_is r) (row_is marks' numbers'))
      macro-ready = (
        lowerable w.held k below marks numbers r s decoded sums j says,
        walk-keeps,
        w.low,
        omega (arith, w.high, w.bound, few-actions w.held),
        subst AllFit (sym rows-become) (sound-fit becomes (sound-left becomes _ (subst Sound (walk_split (length (stages_in h r)) refl) w.sound))),
      )

    pub walk-next : (c : ℕ) → c ≡ length (stages_in h r) → c ≤ most_stages → (more : Bool) → more ≡ cond many true (several (effects_is r))
        → Walk file count h p (k + 1) (from + c) more (j + s.count)
    walk-next c e l more is = record {
      held = w.held;
      keeps = w.keeps;
      bound = omega arith;
      low = omega (arith, w.low);
      high = omega (arith, w.high);
      sound = sound-right becomes (rest_at file p (from + c) (k + 1) (j + s.count)) (subst Sound (walk_split c e) w.sound);
      stages = omega (arith, w.stages, stages-split w.held k below marks numbers r s decoded sums c e);
      holds =
          ap (λ (b : Bool). cond b 3 (hold_count (drop (k + 1) (task_of file).actions))) is
          ∙ joined many (several (effects_is r)) (hold_count (drop (k + 1) (task_of file).actions))
          ∙ ap (λ (n : ℕ). cond many 3 n) (sym (holds-split w.held k below marks numbers r s decoded sums))
          ∙ w.holds;
      sums = omega (
        arith,
        w.sums,
        ap (λ (z : List RestrictedAction). length (sums_of_actions z)) (measured-split w.held k below marks numbers r s decoded sums from c e),
        sums-behind measured (measured_at file (from + c) (k + 1)),
        macro-sums w.held k below marks numbers r s decoded sums from,
      );
    }
      where
        joined : (b c : Bool) (n : ℕ) → cond (cond b true c) 3 n ≡ cond b 3 (cond c 3 n)
        joined true c n = refl
        joined false c n = refl

  -- behind the last
  dropped : count ≤ k → drop k (task_of file).actions ≡ []
  dropped l =
      let e : k ≡ length (task_of file).actions = omega (arith, w.bound, w.held.counted) in
      ap (λ (z : ℕ). drop z (task_of file).actions) e ∙ drop-length (task_of file).actions

  measured-end : count ≤ k → measured_at file from k ≡ []
  measured-end l =
      ap
      (λ (acts : List SourceAction).
      numbered_all (length (task_of file).variables) (length (task_of file).modes)
      (lower_actions (lower_bounds (task_of file)) (upper_bounds (task_of file)) from acts))
      (dropped l)

  pub walk_end : count ≤ k → rest_at file p from k j ≡ []
  walk_end l = ap (keeping_all p.first (sums_is p) j) (measured-end l)

  pub told : count ≤ k → Told file from many
  told l = record {
    control_is = omega (arith, w.stages, ap (stage_count (lower_bounds (task_of file)) (upper_bounds (task_of file))) (dropped l));
    holds_are = ap (λ (acts : List SourceAction). cond many 3 (hold_count acts)) (sym (dropped l)) ∙ w.holds;
  }

  pub goal-sum-is : count ≤ k → j ≡ goal_sum file p.first
  goal-sum-is l = omega (arith, w.sums, ap (λ (z : List RestrictedAction). length (sums_of_actions z)) (measured-end l))
