-- The conditions on sums of an accepted file: what is decoded of an action, or of the goal, are its K's; and one behind another they are those of
-- the task.
-- Assumes nothing.
use mathlib.Core.Path.{◌≡◌, refl, sym, ap, ap₂, ◌∙◌, subst}
use mathlib.Core.Bool.{Bool, true, false}
use mathlib.Core.Option.{some, none-ne-some}
use mathlib.Core.List.{List, [], ◌∷◌, ◌++◌, map}
use Prim.Native.Nat.{ℕ, zero, suc, ◌+◌, ◌≤◌, ◌<◌}
use native.Mathlib.Omega.{arith}
use native.Mathlib.Numerals.{add-one}
use borrow.Author.Tests.{ltb-true, ltb-false}
use lib.Dec.{ltb}
use lib.IntN.{ℤ, pos, nat_abs}
use lib.ListN.{length, take, replicate, get_elem?, length-append, length-map}
use lib.Seq.{take_all}
use Rattle.integers.specs.All.{All}
use Rattle.integers.specs.Numbers.{Bytes}
use Rattle.integers.proofs.All.{all_app, all_map}
use Rattle.commands.specs.Table.{letter_c}
use Rattle.commands.specs.declared.Command.{Command}
use Rattle.model.specs.Tasks.{Measured, variable, weighted_sum, NumericCondition, SourceAction}
use Rattle.model.specs.Limits.{source_limits}
use Rattle.model.specs.TaskOk.{AmountOk, TermsOk, MeasureOk, ConditionOk, SourceActionOk, SourceTaskOk}
use Rattle.model.specs.Reading.{Verdict, Accepted, Rejected, verdict_of, commands_of}
use Rattle.model.specs.Decoding.{those, conditions_of, sum_conditions_of, source_conditions_of, actions_of, source_action_of}
use Rattle.model.specs.ActionBytes.{action_part, decode_action}
use Rattle.model.specs.Steps.{sizes_of}
use Rattle.model.specs.Sums.{sum_in, sums_in, sums_of_source_actions, sums_of_source}
use Rattle.model.proofs.AcceptedTrail.{Is}
use Rattle.model.proofs.AcceptedOk.{accepted-source-ok}
use Rattle.model.proofs.ActionBytes.{action-decodes}
use Rattle.model.proofs.StageWalk.{all-get}
use Rattle.model.proofs.SumsAccepted.{no-sum, sums-append}
use Rattle.file_actions.specs.declared.SumCondition.{SumCondition}
use Rattle.file_actions.specs.declared.SumConditions.{SumConditions}
use Rattle.file_actions.specs.Places.{goal_part}
use Rattle.file_actions.specs.Views.{sum_room, term_room, sum_is, sums_is, sum_terms_is, fitting_measure, fitting_sum, SumsDecoded}
use Rattle.file_actions.proofs.GoalBytes.{goal-decodes}
use Rattle.file_actions.proofs.Sums.{sums-counted, sums_next, action-sums, goal-sums}
use Rattle.source_step.specs.Accepted.{AcceptedWith}
use Rattle.source_step.specs.Sizes.{VARIABLES}
use Rattle.source_step.specs.Layout.{NUMBERS}
use Rattle.source_step.proofs.Judging.{accepted-task, counted-task}
use Rattle.source_sums.specs.Asked.{Weighs, Asks}
use Rattle.source_sums.specs.Put.{Blank, PartSmall, OwnSmall, SameBelow, SumsPut}
use Rattle.source_sums.specs.Found.{task_of, first_sum, PartAsks, SumsOf, SumsAsk}
use Rattle.source_sums.proofs.Asking.{blank-start, same-asks, weighs-more, asks_none}
use Rattle.source_sums.proofs.Own.{none_of, terms_of, terms-long, sums-long}

-- ---- lists
get-map : {A B : Type 0} (f : A → B) (xs : List A) (k : ℕ) (x : A) → get_elem? xs k ≡ some x → get_elem? (map f xs) k ≡ some (f x)
get-map f [] k x e = absurd (none-ne-some x e)
get-map f (y ∷ xs) zero x e = cc
get-map f (y ∷ xs) (suc k) x e = get-map f xs k x e

all-behind : {A : Type 0} (P : A → Type 0) (xs ys : List A) → All P (xs ++ ys) → All P ys
all-behind P [] ys h = h
all-behind P (x ∷ xs) ys (h, hs) = all-behind P xs ys hs

-- ---- K's that keep to the rules have room whole
measure-fits : (n : ℕ) (m : Measured ℕ) (k : ℤ) → MeasureOk source_limits n m k → fitting_measure m ≡ m
measure-fits n (variable i) k h = refl
measure-fits n (weighted_sum ts) k h = ap weighted_sum (take_all term_room ts h.1)

sums-fit : (n : ℕ) (ks : List (NumericCondition ℕ)) → All (ConditionOk source_limits n) ks → map fitting_sum ks ≡ ks
sums-fit n [] h = refl
sums-fit n (k ∷ ks) (h, hs) = ap₂
    (λ (m : Measured ℕ) (xs : List (NumericCondition ℕ)). record { measured = m; relation = k.relation; constant = k.constant } ∷ xs)
    (measure-fits n k.measured k.constant h.measures) (sums-fit n ks hs)

-- their sums are their terms
places-sums : (ks : List SumCondition) → sums_in (map sum_is ks) ≡ map terms_of ks
places-sums [] = refl
places-sums (k ∷ ks) = ap (λ (z : List (List (ℕ × ℤ))). terms_of k ∷ z) (places-sums ks)

-- ---- the terms of sums and their constants are those of a source file
module _ (n : ℕ) where
  terms-ok : (cs : List (NumericCondition ℕ)) → All (ConditionOk source_limits n) cs → All (TermsOk source_limits n) (sums_in cs)
  terms-ok [] h = tt
  terms-ok (c ∷ cs) (h, hs) =
      all_app (TermsOk source_limits n) (sum_in c.measured) (sums_in cs) (one c.measured c.constant h.measures) (terms-ok cs hs)
    where
      one : (m : Measured ℕ) (k : ℤ) → MeasureOk source_limits n m k → All (TermsOk source_limits n) (sum_in m)
      one (variable i) k h = tt
      one (weighted_sum ts) k h = (h.2, tt)

  constant-ok : (c : NumericCondition ℕ) → ConditionOk source_limits n c → nat_abs c.constant ≤ source_limits.sum_constant
  constant-ok c h = one c.measured c.constant h.measures
    where
      one : (m : Measured ℕ) (k : ℤ) → MeasureOk source_limits n m k → nat_abs k ≤ source_limits.sum_constant
      one (variable i) k h = omega (arith, h.1)
      one (weighted_sum ts) k h = h.3

-- ---- K's that are decoded
module _ {ks : List (NumericCondition ℕ)} {s : SumConditions} (d : SumsDecoded ks s) where
  -- as many as are counted
  pub own-counted : s.count ≡ length (sum_terms_is s)
  own-counted = sym (terms-long s (omega (arith, d.few, d.long)))

  pub own-long : s.count ≡ length (sums_is s)
  own-long = sym (sums-long s (omega (arith, d.few, d.long)))

  -- all of them, where they keep to the rules
  module _ (n : ℕ) (ok : All (ConditionOk source_limits n) ks) (few : length ks ≤ sum_room) where
    whole : sums_is s ≡ ks
    whole = d.are ∙ ap (take sum_room) (sums-fit n ks ok) ∙ take_all sum_room ks few

    whole-sums : sum_terms_is s ≡ sums_in ks
    whole-sums = sym (places-sums (take s.count s.places)) ∙ ap sums_in whole

    own-small : n ≤ VARIABLES → OwnSmall s
    own-small small = record {
      few = d.few;
      terms_few = d.terms_few;
      terms = subst (All (All PartSmall)) (sym whole-sums)
          (all_map (TermsOk source_limits n) (All PartSmall)
          (λ ts h. all_map (AmountOk source_limits n) PartSmall (λ t a. (omega (arith, a.0), a.1.1)) ts h.0) (sums_in ks) (terms-ok n ks ok));
      constants = subst (All (λ (k : NumericCondition ℕ). nat_abs k.constant ≤ source_limits.sum_constant)) (sym whole)
          (all_map (ConditionOk source_limits n) (λ (k : NumericCondition ℕ). nat_abs k.constant ≤ source_limits.sum_constant) (constant-ok n) ks ok);
    }

-- the sums of an action or a goal, from its commands
part-sums : (n : ℕ) (cs : List Command) (s : SumConditions) → SumsDecoded (sum_conditions_of cs) s → All (ConditionOk source_limits n) (sum_conditions_of cs)
    → length (sum_conditions_of cs) ≤ sum_room → sum_terms_is s ≡ sums_in (source_conditions_of cs)
part-sums n cs s d ok few =
    let ks = sum_conditions_of cs in
    whole-sums d n ok few ∙ sym (sums-append (conditions_of cs) ks ∙ ap (λ (z : List (List (ℕ × ℤ))). z ++ sums_in ks) (no-sum (those letter_c cs)))

-- ---- the first actions have no more sums than more of them, or all
first-fewer : (m k : ℕ) (acts : List SourceAction) → m ≤ k → length (sums_of_source_actions (take m acts)) ≤ length (sums_of_source_actions (take k acts))
first-fewer zero k acts l = omega arith
first-fewer (suc m) zero acts l = absurd (omega arith)
first-fewer (suc m) (suc k) [] l = omega arith
first-fewer (suc m) (suc k) (a ∷ acts) l = omega (
  arith,
  first-fewer m k acts (omega arith),
  length-append (sums_in a.conditions) (sums_of_source_actions (take m acts)),
  length-append (sums_in a.conditions) (sums_of_source_actions (take k acts)),
)

first-few : (file : List ℕ) (k : ℕ) → first_sum file k ≤ length (sums_of_source (task_of file))
first-few file k =
    let acts = (task_of file).actions in
    let n = k + length acts in
    omega (
      arith,
      first-fewer k n acts (omega arith),
      ap (λ (z : List SourceAction). length (sums_of_source_actions z)) (take_all n acts (omega arith)),
      length-append (sums_of_source_actions acts) (sums_in (task_of file).goal_conditions),
    )

-- ---- a part finds its own in the row, however they are decoded
part-asks : {ks : List (NumericCondition ℕ)} {own : SumConditions} {first next : ℕ} {sums : List ℤ} → SumsDecoded ks own → next ≡ first + own.count
    → Asks first (sums_is own) sums → PartAsks ks first next sums
part-asks {ks} {own} {first} {next} {sums} d e a = record {
  next_is = λ own' d'. omega (arith, own-long d, own-long d', ap length (same own' d'));
  asks = λ own' d'. subst (λ (z : List (NumericCondition ℕ)). Asks first z sums) (same own' d') a;
}
  where
    same : (own' : SumConditions) → SumsDecoded ks own' → sums_is own ≡ sums_is own'
    same own' d' = d.are ∙ sym d'.are

-- also where later ones are put behind
part-kept : {ks : List (NumericCondition ℕ)} {first next count : ℕ} {sums sums' : List ℤ} → next ≤ count → SameBelow count sums sums'
    → PartAsks ks first next sums → PartAsks ks first next sums'
part-kept {first = first} l same p = record {
  next_is = p.next_is;
  asks = λ own d. same-asks same first (sums_is own) (omega (arith, p.next_is own d, own-long d)) (p.asks own d);
}

-- and where it has none
part_none : {ks : List (NumericCondition ℕ)} {first next : ℕ} (sums : List ℤ) → ks ≡ [] → next ≡ first → PartAsks ks first next sums
part_none {ks} {first} sums none e = record {
  next_is = λ own d. omega (arith, own-long d, ap length (no_own own d));
  asks = λ own d. subst (λ (z : List (NumericCondition ℕ)). Asks first z sums) (sym (no_own own d)) (asks_none first sums);
}
  where
    no_own : (own : SumConditions) → SumsDecoded ks own → sums_is own ≡ []
    no_own own d = d.are ∙ ap (λ (z : List (NumericCondition ℕ)). take sum_room (map fitting_sum z)) none

-- ---- those of the first k actions are gathered: so many, with their weights and ranges in the row
pub record Gathered (file : List ℕ) (count k total : ℕ) (sums : List ℤ) : Type 0 where
  pub bytes : Bytes file
  pub bound : k ≤ count
  pub counted : total ≡ first_sum file k
  pub blank : Blank total sums
  pub weighs : Weighs 0 (sums_of_source_actions (take k (task_of file).actions)) sums
  pub asks : (i : ℕ) → i < k → PartAsks (sum_conditions_of (decode_action (action_part file i))) (first_sum file i) (first_sum file (i + 1)) sums

-- none are at first
pub gathered-start : {file : List ℕ} {count : ℕ} {sums : List ℤ} → Bytes file → sums ≡ replicate NUMBERS (pos 0) → Gathered file count 0 0 sums
gathered-start bytes e = record {
  bytes = bytes;
  bound = omega arith;
  counted = refl;
  blank = subst (Blank 0) (sym e) blank-start;
  weighs = λ i l. absurd (omega arith);
  asks = λ i l. absurd (omega arith);
}

-- ---- an accepted file
module _ (file : List ℕ) (count : ℕ) (bytes : Bytes file) (accepted : AcceptedWith (verdict_of source_limits file) count) where
  task-ok : SourceTaskOk (task_of file)
  task-ok = accepted-source-ok file (task_of file) (accepted-task file count accepted)

  actions-counted : count ≡ length (task_of file).actions
  actions-counted = counted-task file count bytes accepted (task_of file) (accepted-task file count accepted)

  verdict : Is (verdict_of source_limits file)
  verdict = go (verdict_of source_limits file) accepted
    where
      go : (v : Verdict) → AcceptedWith v count → Is v
      go (Accepted a b c) h = tt
      go (Rejected a b) h = absurd h

  -- the bytes of action k give action k
  module _ (k : ℕ) (below : k < count) where
    abbrev commands-at : List Command
    commands-at = decode_action (action_part file k)

    pub action-at : get_elem? (task_of file).actions k ≡ some (source_action_of commands-at)
    action-at = get-map source_action_of (actions_of (commands_of source_limits file)) k commands-at (action-decodes source_limits file bytes verdict k
        (omega (arith, actions-counted, length-map (actions_of (commands_of source_limits file)) source_action_of)))

    few-at : length (sum_conditions_of commands-at) ≤ length (sums_of_source (task_of file))
    few-at = omega (arith, sums-counted commands-at, action-sums (task_of file) k (source_action_of commands-at) action-at)

    -- in a task without sums it has none
    pub none-at : (n : ℕ) → n ≡ length (sums_of_source (task_of file)) → n ≡ 0 → sum_conditions_of commands-at ≡ []
    none-at n e z = none_of (sum_conditions_of commands-at) (omega (arith, few-at))

    here-ok : All (ConditionOk source_limits (length (task_of file).variables)) (sum_conditions_of commands-at)
    here-ok =
        let n = length (task_of file).variables in
        let sizes = sizes_of (task_of file).modes in
        let here = all-get (SourceActionOk source_limits n sizes) (task_of file).actions k (source_action_of commands-at) task-ok.actions_ok action-at in
        all-behind (ConditionOk source_limits n) (conditions_of commands-at) (sum_conditions_of commands-at) here.conditions_ok.conditions_in

    module _ {own : SumConditions} (d : SumsDecoded (sum_conditions_of (decode_action (action_part file k))) own) where
      sums_at : sum_terms_is own ≡ sums_in (source_conditions_of commands-at)
      sums_at = part-sums (length (task_of file).variables) commands-at own d here-ok (omega (arith, few-at, task-ok.sums_few))

      pub small_at : OwnSmall own
      small_at = own-small d (length (task_of file).variables) here-ok (omega (arith, few-at, task-ok.sums_few)) task-ok.variables_few

      module _ {total : ℕ} {sums : List ℤ} (g : Gathered file count k total sums) where
        next : sums_of_source_actions (take (suc k) (task_of file).actions) ≡ sums_of_source_actions (take k (task_of file).actions) ++ sum_terms_is own
        next = sums_next (task_of file).actions k (source_action_of commands-at) action-at
            ∙ ap (λ (z : List (List (ℕ × ℤ))). sums_of_source_actions (take k (task_of file).actions) ++ z) (sym sums_at)

        long : length (sums_of_source_actions (take (suc k) (task_of file).actions)) ≡ total + own.count
        long = ap length next ∙ length-append (sums_of_source_actions (take k (task_of file).actions)) (sum_terms_is own)
            ∙ ap₂ ◌+◌ (sym g.counted) (sym (own-counted d))

        pub gathered-room : total + own.count ≤ sum_room
        gathered-room = omega (arith, long, first-few file (suc k), task-ok.sums_few)

        pub gathered_next : {more : List ℤ} → SumsPut total own sums more → Gathered file count (k + 1) (total + own.count) more
        gathered_next {more} put = record {
          bytes = bytes;
          bound = omega arith;
          counted = rw (add-one k) (sym long);
          blank = put.blank;
          weighs = rw (add-one k) (subst (λ (z : List (List (ℕ × ℤ))). Weighs 0 z more) (sym next)
              (weighs-more (sums_of_source_actions (take k (task_of file).actions)) (sum_terms_is own) g.weighs (sym g.counted) put.before put.weighs));
          asks = λ i l. go i l (ltb i k) refl;
        }
          where
            here : PartAsks (sum_conditions_of commands-at) (first_sum file k) (first_sum file (k + 1)) more
            here = subst (λ (first : ℕ). PartAsks (sum_conditions_of commands-at) first (first_sum file (k + 1)) more) g.counted
                (part-asks d (rw (add-one k) long) put.asks)

            go : (i : ℕ) → i < k + 1 → (b : Bool) → ltb i k ≡ b
                → PartAsks (sum_conditions_of (decode_action (action_part file i))) (first_sum file i) (first_sum file (i + 1)) more
            go i l true t =
                let m : i < k = ltb-true i k t in
                part-kept (omega (arith, g.counted, first-fewer (i + 1) k (task_of file).actions (omega arith))) put.before (g.asks i m)
            go i l false t =
                let m : k ≤ i = ltb-false i k t in
                let s : i ≡ k = omega arith in
                rw s here

  -- the bytes of the goal give the goal
  abbrev goal-commands : List Command
  goal-commands = decode_action (goal_part file count)

  goal-at : source_conditions_of goal-commands ≡ (task_of file).goal_conditions
  goal-at =
      let same = length-map (actions_of (commands_of source_limits file)) source_action_of in
      sym (ap source_conditions_of (goal-decodes source_limits file bytes verdict
      ∙ ap (λ (n : ℕ). decode_action (goal_part file n)) (sym same ∙ sym actions-counted)))

  goal-few : length (sum_conditions_of goal-commands) ≤ length (sums_of_source (task_of file))
  goal-few = omega (arith, sums-counted goal-commands, ap (λ (z : List (NumericCondition ℕ)). length (sums_in z)) goal-at, goal-sums (task_of file))

  pub none-in-goal : (n : ℕ) → n ≡ length (sums_of_source (task_of file)) → n ≡ 0 → sum_conditions_of goal-commands ≡ []
  none-in-goal n e z = none_of (sum_conditions_of goal-commands) (omega (arith, goal-few))

  goal-ok : All (ConditionOk source_limits (length (task_of file).variables)) (sum_conditions_of goal-commands)
  goal-ok =
      let n = length (task_of file).variables in
      all-behind (ConditionOk source_limits n) (conditions_of goal-commands) (sum_conditions_of goal-commands)
      (subst (All (ConditionOk source_limits n)) (sym goal-at) task-ok.goal.conditions_in)

  -- with its sums behind those of all actions they are those of the task
  module _ {own : SumConditions} (d : SumsDecoded (sum_conditions_of (decode_action (goal_part file count))) own) where
    goal-sums-at : sum_terms_is own ≡ sums_in (source_conditions_of goal-commands)
    goal-sums-at = part-sums (length (task_of file).variables) goal-commands own d goal-ok (omega (arith, goal-few, task-ok.sums_few))

    pub small-in-goal : OwnSmall own
    small-in-goal = own-small d (length (task_of file).variables) goal-ok (omega (arith, goal-few, task-ok.sums_few)) task-ok.variables_few

    module _ {k total : ℕ} {sums : List ℤ} (g : Gathered file count k total sums) (last : count ≤ k) where
      all-gathered : sums_of_source_actions (take k (task_of file).actions) ++ sum_terms_is own ≡ sums_of_source (task_of file)
      all-gathered = ap₂ ◌++◌
          (ap sums_of_source_actions (take_all k (task_of file).actions (omega (arith, actions-counted))))
          (goal-sums-at ∙ ap sums_in goal-at)

      all-long : length (sums_of_source (task_of file)) ≡ total + own.count
      all-long = sym (ap length all-gathered) ∙ length-append (sums_of_source_actions (take k (task_of file).actions)) (sum_terms_is own)
          ∙ ap₂ ◌+◌ (sym g.counted) (sym (own-counted d))

      pub goal-room : total + own.count ≤ sum_room
      goal-room = omega (arith, all-long, task-ok.sums_few)

      module _ {more : List ℤ} (put : SumsPut total own sums more) where
        pub all_found : SumsOf file (total + own.count) more
        all_found = record {
          counted = sym all-long;
          few = goal-room;
          blank = put.blank;
          weighs = subst (λ (z : List (List (ℕ × ℤ))). Weighs 0 z more) all-gathered
              (weighs-more (sums_of_source_actions (take k (task_of file).actions)) (sum_terms_is own) g.weighs (sym g.counted) put.before put.weighs);
        }

        pub all-ask : SumsAsk file count (total + own.count) more
        all-ask = record {
          actions = λ i l.
              part-kept (omega (arith, g.counted, first-fewer (i + 1) k (task_of file).actions (omega arith))) put.before (g.asks i (omega arith));
          goal = subst (λ (first : ℕ). PartAsks (sum_conditions_of goal-commands) first (total + own.count) more) first-is (part-asks d refl put.asks);
          below = λ i l. omega (arith, first-few file i, all-long);
        }
          where
            first-is : total ≡ first_sum file count
            first-is = let e : k ≡ count = omega (arith, g.bound) in g.counted ∙ ap (first_sum file) e

  -- ---- in a task without any
  module _ (none : sums_of_source (task_of file) ≡ []) {sums : List ℤ} (zeros : sums ≡ replicate NUMBERS (pos 0)) where
    pub none_found : SumsOf file 0 sums
    none_found = record {
      counted = sym (ap length none);
      few = omega arith;
      blank = subst (Blank 0) (sym zeros) blank-start;
      weighs = λ i l. absurd (omega (arith, ap length none));
    }

    pub none-ask : SumsAsk file count 0 sums
    none-ask = record {
      actions = λ k l. part_none sums (none-at k l 0 (sym (ap length none)) refl) (omega (arith, first k, first (k + 1)));
      goal = part_none sums (none-in-goal 0 (sym (ap length none)) refl) (omega (arith, first count));
      below = λ k l. first k;
    }
      where
        first : (k : ℕ) → first_sum file k ≤ 0
        first k = omega (arith, first-few file k, ap length none)
