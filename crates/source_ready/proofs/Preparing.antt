-- The rows of the actions of an accepted file, one after the other.
-- Assumes nothing.
use mathlib.Core.Path.{◌≡◌, refl, sym, ap, ◌∙◌, subst, subst⁻¹}
use Prim.Native.Nat.{ℕ, zero, suc, ◌+◌, ◌≤◌, ◌<◌}
use native.Mathlib.Omega.{arith}
use mathlib.Core.Bool.{Bool, true, false}
use mathlib.Core.Option.{some}
use mathlib.Core.List.{List, [], ◌∷◌}
use lib.Dec.{ltb}
use lib.ListN.{length, length-set, length-map, length-take, set, take, replicate, length-replicate, get_or-replicate, get_elem?}
use lib.Seq.{get_or-take, get_or-set_same, get_or-set_other, set-set}
use lib.IntN.{ℤ, pos, nat_abs}
use borrow.Author.Tests.{ltb-true, ltb-false}
use Rattle.integers.specs.All.{All}
use Rattle.integers.specs.Numbers.{Bytes}
use Rattle.answers.specs.Answer.{given}
use Rattle.lists.specs.Writing.{splice}
use Rattle.model.specs.Tasks.{NumericCondition, SourceVariable, SourceTask}
use Rattle.model.specs.Limits.{source_limits}
use Rattle.model.specs.Reading.{verdict_of}
use Rattle.model.specs.TaskOk.{ModeOk, SourceActionOk, SourceVariableOk}
use Rattle.model.specs.Steps.{integer_at, natural_at, sizes_of}
use Rattle.model.specs.Decoding.{sum_conditions_of, read_source}
use Rattle.model.specs.ActionBytes.{edge_of, action_part, decode_action}
use Rattle.model.proofs.AcceptedOk.{accepted-source-ok}
use Rattle.model.proofs.StageWalk.{all-get, all_map}
use Rattle.file_actions.specs.declared.Effects.{Effects}
use Rattle.file_actions.specs.declared.SumConditions.{SumConditions}
use Rattle.file_actions.specs.Places.{edges_of, goal_part}
use Rattle.file_actions.specs.Within.{SourceWithin}
use Rattle.file_actions.specs.Views.{sum_room, sum_is, sums_is, plain_is, source_action_is, plain_action_of, SourceDecoded, SumsDecoded, fitting_source}
use Rattle.file_actions.proofs.Accepted.{source-action-decoded, source-action-within, goal-action-ok, source-goal-decoded, source-goal-within}
use Rattle.file_actions.proofs.Accepted.{source-edges, places-at}
use Rattle.source_step.specs.Accepted.{AcceptedWith}
use Rattle.source_step.proofs.Judging.{task-of, accepted-task, counted-task, few-actions}
use Rattle.source_step.proofs.Steps.{within_all}
use Rattle.source_ready.specs.Narrowed.{SizesFit}
use Rattle.source_step.specs.Sizes.{SUMS, ROWS, sums_row}
use Rattle.source_step.specs.Row.{WeightsSmall, RowOf}
use Rattle.source_step.specs.Layout.{MARKS, NUMBERS}
use Rattle.source_step.specs.Ready.{marks_of, numbers_of, sums_of, blank_marks, blank_numbers, RowAt, Prepared, goal_action}
use Rattle.source_sums.specs.Asked.{Asked}
use Rattle.source_sums.specs.Found.{PlacesOf, first_sum, PartAsks, SumsOf, SumsAsk}
use Rattle.source_ready.specs.Made.{OwnBehind, OwnNamed, RowFits, RowMade, ActionsPlaced, Declares, BlankRows, RowsMade}
use Rattle.source_sums.proofs.Asking.{asked-by-name}
use Rattle.source_sums.proofs.Gathering.{none-at, none-in-goal}

-- ---- the conditions on sums of an action, or of the goal
own-counted : {ks : List (NumericCondition ℕ)} {own : SumConditions} → SumsDecoded ks own → own.count ≡ length (sums_is own)
own-counted {ks} {own} d =
    omega (arith, length-map (take own.count own.places) sum_is, length-take own.count own.places, d.few, d.long)

module _ {ks : List (NumericCondition ℕ)} {first next : ℕ} {sums : List ℤ} (asks : PartAsks ks first next sums) {total : ℕ} (low : next ≤ total)
    (few : total ≤ sum_room) where
  -- they have room behind those before
  part_room : (own : SumConditions) → SumsDecoded ks own → first + own.count ≤ SUMS
  part_room own d = omega (arith, asks.next_is own d)

  part-behind : first ≤ total → (total ≡ 0 → ks ≡ []) → OwnBehind ks total first
  part-behind l none = record { none = none; start = λ z. omega arith; room = part_room }

  -- so what the marks name asks what they do
  part-asked : WeightsSmall sums → {marks : List ℕ} {r : ℕ} → (o : OwnNamed ks first marks r) → Asked marks (sums_is o.own) sums
  part-asked small {marks} {r} o = asked-by-name marks sums o.own first o.first_is o.count_is (own-counted o.decoded)
      (part_room o.own o.decoded) small (asks.asks o.own o.decoded)

-- ---- tables of zeros
blank-marks-long : {marks : List (List ℕ)} → marks ≡ blank_marks → length marks ≡ ROWS
blank-marks-long h = ap length h ∙ length-replicate {A = List ℕ} ROWS (replicate MARKS 0)

pub blank-numbers-long : {numbers : List (List ℤ)} → numbers ≡ blank_numbers → length numbers ≡ ROWS
blank-numbers-long h = ap length h ∙ length-replicate {A = List ℤ} ROWS (replicate NUMBERS (pos 0))

blank-marks-at : {marks : List (List ℕ)} → marks ≡ blank_marks → (j : ℕ) → j < ROWS → marks_of marks j ≡ replicate MARKS 0
blank-marks-at h j l = ap (λ (z : List (List ℕ)). marks_of z j) h ∙ get_or-replicate {A = List ℕ} ROWS j (replicate MARKS 0) [] l

pub blank-numbers-at : {numbers : List (List ℤ)} → numbers ≡ blank_numbers → (j : ℕ) → j < ROWS → numbers_of numbers j ≡ replicate NUMBERS (pos 0)
blank-numbers-at h j l = ap (λ (z : List (List ℤ)). numbers_of z j) h ∙ get_or-replicate {A = List ℤ} ROWS j (replicate NUMBERS (pos 0)) [] l

-- the row of the sums may be made in them
pub blank-but-sums : {marks : List (List ℕ)} {numbers : List (List ℤ)} → marks ≡ blank_marks → numbers ≡ blank_numbers → (sums : List ℤ)
    → BlankRows 0 marks (set numbers sums_row sums)
blank-but-sums {marks} {numbers} h g sums = record {
  marks_long = blank-marks-long h;
  numbers_long = length-set numbers sums_row sums ∙ blank-numbers-long g;
  marks_blank = λ j b l. blank-marks-at h j (omega arith);
  numbers_blank = λ j b l. get_or-set_other numbers sums_row j sums [] (λ q. omega arith) ∙ blank-numbers-at g j (omega arith);
}

-- one row less is blank
blank-next : {k : ℕ} {marks : List (List ℕ)} {numbers : List (List ℤ)} → BlankRows k marks numbers → (row : List ℕ) (line : List ℤ)
    → BlankRows (k + 1) (set marks k row) (set numbers k line)
blank-next {k} {marks} {numbers} h row line = record {
  marks_long = length-set marks k row ∙ h.marks_long;
  numbers_long = length-set numbers k line ∙ h.numbers_long;
  marks_blank = λ j b l. get_or-set_other marks k j row [] (λ q. omega arith) ∙ h.marks_blank j (omega arith) l;
  numbers_blank = λ j b l. get_or-set_other numbers k j line [] (λ q. omega arith) ∙ h.numbers_blank j (omega arith) l;
}

-- ---- a row that was lent in its place
pub marks-put : (marks : List (List ℕ)) (k : ℕ) (row : List ℕ) → length marks ≡ ROWS → k ≤ 32 → marks_of (set marks k row) k ≡ row
marks-put marks k row h l = get_or-set_same marks k row [] (omega arith)

numbers-put : (numbers : List (List ℤ)) (k : ℕ) (line : List ℤ) → length numbers ≡ ROWS → k ≤ 32 → numbers_of (set numbers k line) k ≡ line
numbers-put numbers k line h l = get_or-set_same numbers k line [] (omega arith)

-- that of the sums
pub sums-put : (numbers : List (List ℤ)) (sums : List ℤ) → length numbers ≡ ROWS → sums_of (set numbers sums_row sums) ≡ sums
sums-put numbers sums h = get_or-set_same numbers sums_row sums [] (omega arith)

-- ---- what an accepted file declares
sizes-in : (ms : List (ℕ × ℕ)) → All (ModeOk source_limits) ms → (i : ℕ) → i < length ms → (1 ≤ natural_at (sizes_of ms) i) × (natural_at (sizes_of ms) i ≤ 16)
sizes-in [] h i l = absurd (omega arith)
sizes-in (m ∷ ms) (h, hs) zero l = (omega (arith, h.0), h.1)
sizes-in (m ∷ ms) (h, hs) (suc i) l = sizes-in ms hs i (omega arith)

module _ (file : List ℕ) (bytes : Bytes file) (count n : ℕ) (lower upper : List ℤ) (m : ℕ) (sizes : List ℕ)
    (accepted : AcceptedWith (verdict_of source_limits file) count) (declares : Declares file n lower upper m sizes) where
  -- ---- an action of it
  module _ (t : SourceTask) (is : read_source file ≡ given t) where
    sizes-fit : SizesFit m sizes
    sizes-fit =
        let h = declares.holds t is in
        let each : (i : ℕ) → i < m → (1 ≤ natural_at (sizes_of t.modes) i) × (natural_at (sizes_of t.modes) i ≤ 16)
        = λ i l. sizes-in t.modes (accepted-source-ok file t is).modes_in i (omega (arith, h.mode_count)) in
        let same : (i : ℕ) → i < m → natural_at sizes i ≡ natural_at (sizes_of t.modes) i
        = λ i l. sym (get_or-take m sizes i 0 l) ∙ ap (λ (z : List ℕ). natural_at z i) h.sizes_are in
        record {
          few = h.modes_few;
          some = λ i l. rw (same i l) (each i l).0;
          small = λ i l. rw (same i l) (each i l).1;
        }

    lowers-near : (i : ℕ) → i < n → nat_abs (integer_at lower i) ≤ 10000
    lowers-near i l = rw ((declares.holds t is).lower_is i l)
        (within_all (λ (b : SourceVariable). b.lower) t.variables
        (all_map (SourceVariableOk source_limits) (λ (b : SourceVariable). nat_abs b.lower ≤ 10_000) (λ b z. z.0) t.variables
        (accepted-source-ok file t is).variables_in) i)

    uppers-near : (i : ℕ) → i < n → nat_abs (integer_at upper i) ≤ 10000
    uppers-near i l = rw ((declares.holds t is).upper_is i l)
        (within_all (λ (b : SourceVariable). b.upper) t.variables
        (all_map (SourceVariableOk source_limits) (λ (b : SourceVariable). nat_abs b.upper ≤ 10_000) (λ b z. z.1) t.variables
        (accepted-source-ok file t is).variables_in) i)

    -- an action that keeps to the rules, but for its K
    whole-fits : (parts : List ℕ) (constants : List ℤ) (effects : Effects) (sums : SumConditions)
        → SourceActionOk source_limits n (take m sizes) (source_action_is parts constants effects sums)
        → SourceWithin source_limits n (take m sizes) parts constants effects sums → RowFits n m lower upper sizes parts constants effects
    whole-fits parts constants effects sums ok within = record {
      few = (declares.holds t is).variables_few;
      row = within.row;
      asks_modes = ok.conditions_ok.mode_conditions_in;
      sets_modes = ok.mode_effects_in;
      effects_few = within.few;
      effects_ok = within.effects;
      sizes_fit = sizes-fit;
      lowers_near = lowers-near;
      uppers_near = uppers-near;
    }

    module _ (k : ℕ) (below : k < count) (parts : List ℕ) (constants : List ℤ) (effects : Effects) (sums : SumConditions)
        (decodes : SourceDecoded (fitting_source (plain_action_of (decode_action (action_part file k)))) parts constants effects)
        (decodes_sums : SumsDecoded (sum_conditions_of (decode_action (action_part file k))) sums) where
      pub found : get_elem? t.actions k ≡ some (source_action_is parts constants effects sums)
      found = source-action-decoded file bytes t is k (omega (arith, counted-task file count bytes accepted t is)) parts constants effects
          sums decodes decodes_sums

      pub row_fits : RowFits n m lower upper sizes parts constants effects
      row_fits =
          let h = declares.holds t is in
          let ok = accepted-source-ok file t is in
          let c = counted-task file count bytes accepted t is in
          whole-fits parts constants effects sums
          (rw (h.variable_count, h.sizes_are) (all-get (SourceActionOk source_limits (length t.variables) (sizes_of t.modes)) t.actions k
          (source_action_is parts constants effects sums) ok.actions_ok found))
          (rw (h.variable_count, h.sizes_are) (source-action-within file bytes t is k (omega arith) parts constants effects sums decodes decodes_sums))

  pub action-fits : (k : ℕ) → k < count → (parts : List ℕ) (constants : List ℤ) (effects : Effects) (sums : SumConditions)
      → SourceDecoded (fitting_source (plain_action_of (decode_action (action_part file k)))) parts constants effects
      → SumsDecoded (sum_conditions_of (decode_action (action_part file k))) sums → RowFits n m lower upper sizes parts constants effects
  action-fits = row_fits (task-of file count) (accepted-task file count accepted)

  -- ---- the places of its actions, and of its goal
  pub places_of : PlacesOf file count (splice (replicate 33 0) 0 (edges_of file))
  places_of k l =
      let t = task-of file count in
      let is = accepted-task file count accepted in
      let c = counted-task file count bytes accepted t is in
      let e = source-edges file bytes t is in
      let f = few-actions file count bytes accepted in
      let r = length-replicate {A = ℕ} 33 0 in
      places-at file (replicate 33 0) (omega arith) k (omega arith)

  pub all_placed : ActionsPlaced file (splice (replicate 33 0) 0 (edges_of file)) count
  all_placed = record { each = λ k l. record { start = places_of k (omega arith); end = places_of (k + 1) (omega arith) } }

  pub goal-placed : natural_at (splice (replicate 33 0) 0 (edges_of file)) count ≡ edge_of file count
  goal-placed = places_of count (omega arith)

  -- ---- its rows
  pub begins : {total : ℕ} (marks : List (List ℕ)) (numbers : List (List ℤ)) → BlankRows 0 marks numbers
      → SumsOf file total (sums_of numbers) → SumsAsk file count total (sums_of numbers) → RowsMade file count n lower upper m sizes total 0 0 marks numbers
  begins marks numbers h s a = record {
    bound = omega arith;
    blank = h;
    sums = s;
    ask = a;
    first_is = refl;
    rows = λ t is j l. absurd (omega arith);
  }

  module _ {total k first : ℕ} {marks : List (List ℕ)} {numbers : List (List ℤ)}
      (h : RowsMade file count n lower upper m sizes total k first marks numbers) where
    -- when no action is left, all have theirs
    pub all_made : count ≤ k → RowsMade file count n lower upper m sizes total count first marks numbers
    all_made l =
        let e : k ≡ count = omega (arith, h.bound) in
        subst (λ (j : ℕ). RowsMade file count n lower upper m sizes total j first marks numbers) e h

    -- the row of the sums stays while others are written
    sums_kept : (j : ℕ) → j ≤ 32 → (line : List ℤ) → sums_of (set numbers j line) ≡ sums_of numbers
    sums_kept j l line = get_or-set_other numbers j sums_row line [] (λ q. omega arith)

  -- ---- the goal, as an action
  module _ (parts : List ℕ) (constants : List ℤ) (effects : Effects) (sums : SumConditions)
      (decodes : SourceDecoded (fitting_source (plain_action_of (decode_action (goal_part file count)))) parts constants effects)
      (decodes_sums : SumsDecoded (sum_conditions_of (decode_action (goal_part file count))) sums) where
    module _ (t : SourceTask) (is : read_source file ≡ given t) where
      goal-decodes : SourceDecoded (fitting_source (plain_action_of (decode_action (goal_part file (length t.actions))))) parts constants effects
      goal-decodes = subst (λ (n : ℕ). SourceDecoded (fitting_source (plain_action_of (decode_action (goal_part file n)))) parts constants effects)
          (counted-task file count bytes accepted t is) decodes

      goal-sums : SumsDecoded (sum_conditions_of (decode_action (goal_part file (length t.actions)))) sums
      goal-sums = subst (λ (n : ℕ). SumsDecoded (sum_conditions_of (decode_action (goal_part file n))) sums)
          (counted-task file count bytes accepted t is) decodes_sums

      goal-is : source_action_is parts constants effects sums ≡ goal_action t
      goal-is = source-goal-decoded file bytes t is parts constants effects sums goal-decodes goal-sums

    pub goal-fits : RowFits n m lower upper sizes parts constants effects
    goal-fits =
        let t = task-of file count in
        let is = accepted-task file count accepted in
        let h = declares.holds t is in
        let asks : SourceActionOk source_limits n (take m sizes) (goal_action t) = rw (h.variable_count, h.sizes_are) (goal-action-ok file bytes t is) in
        whole-fits t is parts constants effects sums
        (subst⁻¹ (SourceActionOk source_limits n (take m sizes)) (goal-is t is) asks)
        (rw (h.variable_count, h.sizes_are) (source-goal-within file bytes t is parts constants effects sums (goal-decodes t is) (goal-sums t is)))

  module _ {total first : ℕ} {marks : List (List ℕ)} {numbers : List (List ℤ)}
      (h : RowsMade file count n lower upper m sizes total count first marks numbers) where
    goal-asks : PartAsks (sum_conditions_of (decode_action (goal_part file count))) first total (sums_of numbers)
    goal-asks =
        subst (λ (j : ℕ). PartAsks (sum_conditions_of (decode_action (goal_part file count))) j total (sums_of numbers)) (sym h.first_is) h.ask.goal

    pub goal-behind : OwnBehind (sum_conditions_of (decode_action (goal_part file count))) total first
    goal-behind = part-behind goal-asks (omega arith) h.sums.few (omega (arith, h.first_is, h.ask.below count (omega arith)))
        (none-in-goal file count bytes accepted total h.sums.counted)

    module _ (parts : List ℕ) (constants : List ℤ) (effects : Effects)
        (decodes : SourceDecoded (fitting_source (plain_action_of (decode_action (goal_part file count)))) parts constants effects)
        {before : List ℕ} {own : ℕ} (o : OwnNamed (sum_conditions_of (decode_action (goal_part file count))) first before own)
        (row : List ℕ) (line : List ℤ)
        (made : RowMade n m lower upper sizes (marks_of (set marks count before) count) row line (plain_is parts constants effects)) where
      room : count ≤ 32
      room = few-actions file count bytes accepted

      goal-made : RowMade n m lower upper sizes before row line (plain_is parts constants effects)
      goal-made = subst (λ (z : List ℕ). RowMade n m lower upper sizes z row line (plain_is parts constants effects))
          (marks-put marks count before h.blank.marks_long room) made

      goal-over : Prepared file count n lower upper m sizes (set marks count row) (set numbers count line)
      goal-over = record {
        ready = λ t is. record {
          ok = accepted-source-ok file t is;
          counted = counted-task file count bytes accepted t is;
          rows_are = λ j b. kept t is j b;
          lowers_are = (declares.holds t is).lowers_are;
          uppers_are = (declares.holds t is).uppers_are;
          sizes_are = (declares.holds t is).sizes_are;
          goal_row = rw (
            marks-put marks count row h.blank.marks_long room,
            numbers-put numbers count line h.blank.numbers_long room,
            sums_kept h count room line,
          )
              (subst (RowOf n m lower upper sizes row line (sums_of numbers)) (goal-is parts constants effects o.own decodes o.decoded t is)
              (goal-made.row (sums_is o.own) (sums_of numbers) (part-asked goal-asks (omega arith) h.sums.few h.sums.blank.small o)));
          marks_long = length-set marks count row ∙ h.blank.marks_long;
          numbers_long = length-set numbers count line ∙ h.blank.numbers_long;
        };
      }
        where
          kept : (t : SourceTask) → read_source file ≡ given t → (j : ℕ) → j < count
              → RowAt t.actions n m lower upper sizes (set marks count row) (set numbers count line) j
          kept t is j b =
              let q = h.rows t is j b in
              record {
                action = q.action;
                found = q.found;
                row = rw (
                  get_or-set_other marks count j row [] (λ s. omega arith),
                  get_or-set_other numbers count j line [] (λ s. omega arith),
                  sums_kept h count room line,
                )
                    q.row;
              }

      -- its marks are lent twice: to name its conditions on sums, and for the rest
      pub over : Prepared file count n lower upper m sizes (set (set marks count before) count row) (set numbers count line)
      over = rw (set-set marks count before row) goal-over

  -- ---- one action more
  module _ {total k first : ℕ} {marks : List (List ℕ)} {numbers : List (List ℤ)}
      (h : RowsMade file count n lower upper m sizes total k first marks numbers) (l : k < count) where
    own-asks : PartAsks (sum_conditions_of (decode_action (action_part file k))) first (first_sum file (k + 1)) (sums_of numbers)
    own-asks = subst (λ (j : ℕ). PartAsks (sum_conditions_of (decode_action (action_part file k))) j (first_sum file (k + 1)) (sums_of numbers))
        (sym h.first_is) (h.ask.actions k l)

    own-low : first_sum file (k + 1) ≤ total
    own-low = h.ask.below (k + 1) (omega arith)

    pub own_behind : OwnBehind (sum_conditions_of (decode_action (action_part file k))) total first
    own_behind = part-behind own-asks own-low h.sums.few (omega (arith, h.first_is, h.ask.below k (omega arith)))
        (none-at file count bytes accepted k l total h.sums.counted)

    module _ (parts : List ℕ) (constants : List ℤ) (effects : Effects)
        (decodes : SourceDecoded (fitting_source (plain_action_of (decode_action (action_part file k)))) parts constants effects)
        {before : List ℕ} {own : ℕ} (o : OwnNamed (sum_conditions_of (decode_action (action_part file k))) first before own)
        (row : List ℕ) (line : List ℤ)
        (made : RowMade n m lower upper sizes (marks_of (set marks k before) k) row line (plain_is parts constants effects)) where
      within : k ≤ 32
      within = omega (arith, few-actions file count bytes accepted)

      row_made : RowMade n m lower upper sizes before row line (plain_is parts constants effects)
      row_made = subst (λ (z : List ℕ). RowMade n m lower upper sizes z row line (plain_is parts constants effects))
          (marks-put marks k before h.blank.marks_long within) made

      more : RowsMade file count n lower upper m sizes total (k + 1) (first + own) (set marks k row) (set numbers k line)
      more = record {
        bound = omega arith;
        blank = blank-next h.blank row line;
        sums = rw (sums_kept h k within line) h.sums;
        ask = rw (sums_kept h k within line) h.ask;
        first_is = omega (arith, o.counted, own-asks.next_is o.own o.decoded);
        rows = λ t e j b. go t e j b (ltb j k) refl;
      }
        where
          go : (t : SourceTask) → read_source file ≡ given t → (j : ℕ) → j < k + 1 → (p : Bool) → ltb j k ≡ p
              → RowAt t.actions n m lower upper sizes (set marks k row) (set numbers k line) j
          go t e j b true q =
              let r = h.rows t e j (ltb-true j k q) in
              record {
                action = r.action;
                found = r.found;
                row = rw (
                  get_or-set_other marks k j row [] (λ s. omega (arith, ltb-true j k q)),
                  get_or-set_other numbers k j line [] (λ s. omega (arith, ltb-true j k q)),
                  sums_kept h k within line,
                )
                    r.row;
              }
          go t e j b false q =
              let s : j ≡ k = omega (arith, ltb-false j k q) in
              record {
                action = source_action_is parts constants effects o.own;
                found = rw s (found t e k l parts constants effects o.own decodes o.decoded);
                row = rw (
                  s,
                  marks-put marks k row h.blank.marks_long within,
                  numbers-put numbers k line h.blank.numbers_long within,
                  sums_kept h k within line,
                )
                    (row_made.row (sums_is o.own) (sums_of numbers) (part-asked own-asks own-low h.sums.few h.sums.blank.small o));
              }

      -- its marks are lent twice: to name its conditions on sums, and for the rest
      pub one_more : RowsMade file count n lower upper m sizes total (k + 1) (first + own) (set (set marks k before) k row) (set numbers k line)
      one_more = rw (set-set marks k before row) more
