-- M-103: a task that keeps its sums goes as the task that measures them does. The kept values are the sums at the start, and an action adds to
-- them what its additions change in the sums; so a state of the one is a state of the other with the sums behind its values, step for step.
-- Assumes nothing.
use mathlib.Core.Path.{◌≡◌, refl, sym, ap, ap₂, ◌∙◌, subst}
use Prim.Native.Nat.{ℕ, zero, suc, ◌+◌, ◌*◌, ◌<◌}
use native.Mathlib.Omega.{arith}
use native.Mathlib.Nat.{add-zero}
use mathlib.Core.Bool.{Bool, true, false, cond, ◌&&◌}
use mathlib.Core.Option.{Option, some}
use mathlib.Core.List.{List, [], ◌∷◌, ◌++◌, append_assoc, map}
use lib.ListN.{length, length-append, length-set, set, get_or-append}
use lib.Dec.{T, eqb, eqb→eq}
use lib.IntN.{ℤ, pos, negsuc, ◌+ℤ◌, ◌*ℤ◌}
use Rattle.integers.specs.All.{All}
use Rattle.integers.specs.Relation.{related}
use Rattle.integers.proofs.Parts.{ints, up, down, add, mul}
use Rattle.model.specs.Systems.{run_plan, expand_from}
use Rattle.model.specs.Walks.{Pairing}
use Rattle.model.specs.Tasks.{Measured, variable, weighted_sum, NumericCondition, RestrictedAction, RestrictedTask, State}
use Rattle.model.specs.Steps.{integer_at, natural_at, weigh, measure, conditions_hold, modes_hold, add_all, set_all, applies_restricted, apply_restricted}
use Rattle.model.specs.Steps.{restricted_step_of, restricted_goal_holds}
use Rattle.model.specs.FourRelations.{all_in_four_relations, in_four}
use Rattle.model.specs.Sums.{sum_in, sums_in, sums_of_actions, sums_of, kept_variable, on_kept, added_to, addition, kept_additions, kept, keeping_all, sum_values}
use Rattle.model.specs.Sums.{keep_sums, with_sums}
use Rattle.model.specs.InTask.{MeasureIn}
use Rattle.model.specs.TaskOk.{ConditionIn}
use Rattle.model.proofs.Arrays.{get_set, set_front, set_back, get-back}
use Rattle.model.proofs.FourRelations.{four-hold}
use Rattle.model.proofs.StepBounds.{add-length}
use Rattle.model.proofs.NumberedPairing.{Agree, agree_left, agree_right, agree-run, agree-given}

-- ---- conditions
-- W has, from place j on, the values of the sums over v
abbrev pub Slots : (ℕ → ℤ) → (ℕ → ℤ) → ℕ → List (List (ℕ × ℤ)) → Type 0
Slots W v j [] = Unit {0}
Slots W v j (ts ∷ sums) = (W j ≡ weigh ts v) × Slots W v (suc j) sums

slots-left : (W v : ℕ → ℤ) (j : ℕ) (xs ys : List (List (ℕ × ℤ))) → Slots W v j (xs ++ ys) → Slots W v j xs
slots-left W v j [] ys s = tt
slots-left W v j (x ∷ xs) ys (e, s) = (e, slots-left W v (suc j) xs ys s)

slots-right : (W v : ℕ → ℤ) (j : ℕ) (xs ys : List (List (ℕ × ℤ))) → Slots W v j (xs ++ ys) → Slots W v (j + length xs) ys
slots-right W v j [] ys s = subst (λ (k : ℕ). Slots W v k ys) (sym (add-zero j)) s
slots-right W v j (x ∷ xs) ys (e, s) = subst (λ (k : ℕ). Slots W v k ys) (tidy j (length xs)) (slots-right W v (suc j) xs ys s)
  where
    tidy : (a b : ℕ) → suc a + b ≡ a + suc b
    tidy a b = omega arith

-- a state with its sums behind its values
snoc : {A : Type 0} (l : List A) (x : A) (r : List A) → l ++ (x ∷ r) ≡ (l ++ (x ∷ [])) ++ r
snoc l x r = sym (append_assoc l (x ∷ []) r)

length-snoc : {A : Type 0} (l : List A) (x : A) → length (l ++ (x ∷ [])) ≡ suc (length l)
length-snoc l x = omega (arith, length-append l (x ∷ []))

-- the values of the sums over v
abbrev weighed : (ℕ → ℤ) → List (List (ℕ × ℤ)) → List ℤ
weighed v sums = map (λ ts. weigh ts v) sums

slots-from : (v : ℕ → ℤ) (sums : List (List (ℕ × ℤ))) (front : List ℤ) → Slots (integer_at (front ++ weighed v sums)) v (length front) sums
slots-from v [] front = tt
slots-from v (ts ∷ sums) front = (
  ap (integer_at (front ++ weighed v (ts ∷ sums))) (sym (add-zero (length front))) ∙ get-back front (weighed v (ts ∷ sums)) 0 (pos 0),
  subst (λ (l : List ℤ). Slots (integer_at l) v (suc (length front)) sums) (sym (snoc front (weigh ts v) (weighed v sums)))
      (subst (λ (k : ℕ). Slots (integer_at (more ++ weighed v sums)) v k sums) (length-snoc front (weigh ts v)) (slots-from v sums more)),
)
  where
    more : List ℤ
    more = front ++ (weigh ts v ∷ [])

pub slots-of : (sums : List (List (ℕ × ℤ))) (x : State) → Slots (integer_at (with_sums sums x).values) (integer_at x.values) (length x.values) sums
slots-of sums x = slots-from (integer_at x.values) sums x.values

kept-conditions : (N : ℕ) (W v : ℕ → ℤ) → ((i : ℕ) → i < N → W i ≡ v i) → (cs : List (NumericCondition ℕ)) (j : ℕ) → All (ConditionIn N) cs
    → Slots W v j (sums_in cs) → conditions_hold (on_kept j cs) W ≡ conditions_hold cs v
kept-conditions N W v same [] j h s = refl
kept-conditions N W v same (c ∷ cs) j (h, hs) s =
    ap₂ ◌&&◌ (ap (λ (z : ℤ). related c.relation z c.constant) (one c.measured h s))
    (kept-conditions N W v same cs (j + length (sum_in c.measured)) hs (slots-right W v j (sum_in c.measured) (sums_in cs) s))
  where
    one : (m : Measured ℕ) → MeasureIn (λ (i : ℕ). i < N) m → Slots W v j (sum_in m ++ sums_in cs) → W (kept_variable j m) ≡ measure m v
    one (variable i) h s = same i h
    one (weighted_sum ts) h s = s.0

-- ---- additions
add-app : (es fs : List (ℕ × ℤ)) (l : List ℤ) → add_all (es ++ fs) l ≡ add_all fs (add_all es l)
add-app [] fs l = refl
add-app (e ∷ es) fs l = add-app es fs (set l e.0 (integer_at l e.0 +ℤ e.1))

abbrev pub AddsBelow : ℕ → List (ℕ × ℤ) → Type 0
AddsBelow N es = All (λ (e : ℕ × ℤ). e.0 < N) es

add-front : (N : ℕ) (es : List (ℕ × ℤ)) (l m : List ℤ) → length l ≡ N → AddsBelow N es → add_all es (l ++ m) ≡ add_all es l ++ m
add-front N [] l m e h = refl
add-front N (x ∷ es) l m e (h, hs) =
    ap (add_all es) (ap (λ (z : ℤ). set (l ++ m) x.0 (z +ℤ x.1)) (get_or-append l m (pos 0) x.0 (omega (arith, e, h)))
    ∙ set_front l m x.0 (integer_at l x.0 +ℤ x.1) (omega (arith, e, h)))
    ∙ add-front N es (set l x.0 (integer_at l x.0 +ℤ x.1)) m (length-set l x.0 (integer_at l x.0 +ℤ x.1) ∙ e) hs

plus-zero : (z : ℤ) → z ≡ z +ℤ pos 0
plus-zero z = omega (ints, add z (pos 0))

-- a value after the additions
add-value : (N : ℕ) (es : List (ℕ × ℤ)) (l : List ℤ) (i : ℕ) → length l ≡ N → AddsBelow N es → integer_at (add_all es l) i ≡ integer_at l i +ℤ added_to es i
add-value N [] l i e h = plus-zero (integer_at l i)
add-value N (x ∷ es) l i e (h, hs) =
    add-value N es (set l x.0 (integer_at l x.0 +ℤ x.1)) i (length-set l x.0 (integer_at l x.0 +ℤ x.1) ∙ e) hs
    ∙ ap (λ (z : ℤ). z +ℤ added_to es i) (get_set l x.0 i (integer_at l x.0 +ℤ x.1) (pos 0) (omega (arith, e, h))) ∙ pick (eqb x.0 i) refl
  where
    both : (a b c : ℤ) → (a +ℤ b) +ℤ c ≡ a +ℤ (b +ℤ c)
    both a b c = omega (ints, add (a +ℤ b) c, add a b, add a (b +ℤ c), add b c)

    none_more : (a c : ℤ) → a +ℤ c ≡ a +ℤ (pos 0 +ℤ c)
    none_more a c = omega (ints, add a c, add a (pos 0 +ℤ c), add (pos 0) c)

    pick : (b : Bool) → eqb x.0 i ≡ b
        → cond b (integer_at l x.0 +ℤ x.1) (integer_at l i) +ℤ added_to es i ≡ integer_at l i +ℤ (cond b x.1 (pos 0) +ℤ added_to es i)
    pick true q = both (integer_at l x.0) x.1 (added_to es i)
        ∙ ap (λ (k : ℕ). integer_at l k +ℤ (x.1 +ℤ added_to es i)) (eqb→eq x.0 i (subst T (sym q) tt))
    pick false q = none_more (integer_at l i) (added_to es i)

-- a sum of sums
weigh-sum : (ts : List (ℕ × ℤ)) (u v w : ℕ → ℤ) → ((i : ℕ) → u i ≡ v i +ℤ w i) → weigh ts u ≡ weigh ts v +ℤ weigh ts w
weigh-sum [] u v w h = refl
weigh-sum (t ∷ ts) u v w h =
    ap₂ (λ (x y : ℤ). x *ℤ t.1 +ℤ y) (h t.0) (weigh-sum ts u v w h) ∙ shuffle (v t.0) (w t.0) t.1 (weigh ts v) (weigh ts w)
  where
    times : (a b c : ℤ) → (a +ℤ b) *ℤ c ≡ a *ℤ c +ℤ b *ℤ c
    times a b c = let s = (add a b).is in
        omega (ints, mul (a +ℤ b) c, mul a c, mul b c, ap (λ (x : ℕ). x * up c) s, ap (λ (x : ℕ). x * down c) s)

    four : (p q x y : ℤ) → (p +ℤ q) +ℤ (x +ℤ y) ≡ (p +ℤ x) +ℤ (q +ℤ y)
    four p q x y = omega (ints, add (p +ℤ q) (x +ℤ y), add p q, add x y, add (p +ℤ x) (q +ℤ y), add p x, add q y)

    shuffle : (a b c x y : ℤ) → (a +ℤ b) *ℤ c +ℤ (x +ℤ y) ≡ (a *ℤ c +ℤ x) +ℤ (b *ℤ c +ℤ y)
    shuffle a b c x y = ap (λ (z : ℤ). z +ℤ (x +ℤ y)) (times a b c) ∙ four (a *ℤ c) (b *ℤ c) x y

-- the kept values after the additions are the sums after them
addition-at : (front : List ℤ) (w d : ℤ) (rest : List ℤ) → add_all (addition (length front) d) (front ++ (w ∷ rest)) ≡ front ++ ((w +ℤ d) ∷ rest)
addition-at front w d rest = go d
  where
    there : (d : ℤ) → set (front ++ (w ∷ rest)) (length front) (integer_at (front ++ (w ∷ rest)) (length front) +ℤ d) ≡ front ++ ((w +ℤ d) ∷ rest)
    there d = ap (λ (k : ℕ). set (front ++ (w ∷ rest)) k (integer_at (front ++ (w ∷ rest)) k +ℤ d)) (sym (add-zero (length front)))
        ∙ ap (λ (z : ℤ). set (front ++ (w ∷ rest)) (length front + 0) (z +ℤ d)) (get-back front (w ∷ rest) 0 (pos 0)) ∙ set_back front (w ∷ rest) 0 (w +ℤ d)

    go : (d : ℤ) → add_all (addition (length front) d) (front ++ (w ∷ rest)) ≡ front ++ ((w +ℤ d) ∷ rest)
    go (pos zero) = ap (λ (z : ℤ). front ++ (z ∷ rest)) (plus-zero w)
    go (pos (suc k)) = there (pos (suc k))
    go (negsuc k) = there (negsuc k)

add_kept : (es : List (ℕ × ℤ)) (v v' : ℕ → ℤ) → ((i : ℕ) → v' i ≡ v i +ℤ added_to es i) → (sums : List (List (ℕ × ℤ))) (front : List ℤ)
    → add_all (kept_additions (length front) sums es) (front ++ weighed v sums) ≡ front ++ weighed v' sums
add_kept es v v' h [] front = refl
add_kept es v v' h (ts ∷ sums) front =
    add-app (addition (length front) (weigh ts (added_to es))) (kept_additions (suc (length front)) sums es) (front ++ (weigh ts v ∷ old))
    ∙ ap (add_all (kept_additions (suc (length front)) sums es)) (addition-at front (weigh ts v) (weigh ts (added_to es)) old
    ∙ ap (λ (z : ℤ). front ++ (z ∷ old)) (sym (weigh-sum ts v' v (added_to es) h)) ∙ snoc front (weigh ts v') old)
    ∙ ap (λ (k : ℕ). add_all (kept_additions k sums es) (more ++ old)) (sym (length-snoc front (weigh ts v')))
    ∙ add_kept es v v' h sums more
    ∙ sym (snoc front (weigh ts v') (weighed v' sums))
  where
    old : List ℤ
    old = weighed v sums

    more : List ℤ
    more = front ++ (weigh ts v' ∷ [])

-- ---- a step
-- what is asked of an action of a task with N variables that measures sums
pub record Measures (N : ℕ) (a : RestrictedAction) : Type 0 where
  pub conditions_in : All (ConditionIn N) a.conditions
  pub additions_in : AddsBelow N a.additions

-- the two states that go together
abbrev pub KeepsSums : ℕ → List (List (ℕ × ℤ)) → State → State → Type 0
KeepsSums N sums X x = (length x.values ≡ N) × (X ≡ with_sums sums x)

module _ (N : ℕ) (sums : List (List (ℕ × ℤ))) where
  abbrev SlotsOf : State → ℕ → List (List (ℕ × ℤ)) → Type 0
  SlotsOf x = Slots (integer_at (with_sums sums x).values) (integer_at x.values)

  pub before-sums : (x : State) → length x.values ≡ N → (i : ℕ) → i < N → integer_at (with_sums sums x).values i ≡ integer_at x.values i
  before-sums x e i h = get_or-append x.values (sum_values sums x.values) (pos 0) i (omega (arith, e, h))

  kept-hold : (cs : List (NumericCondition ℕ)) (j : ℕ) (x : State) → length x.values ≡ N → All (ConditionIn N) cs → SlotsOf x j (sums_in cs)
      → conditions_hold (all_in_four_relations (on_kept j cs)) (integer_at (with_sums sums x).values) ≡ conditions_hold cs (integer_at x.values)
  kept-hold cs j x e h s = four-hold (on_kept j cs) (integer_at (with_sums sums x).values)
      ∙ kept-conditions N (integer_at (with_sums sums x).values) (integer_at x.values) (before-sums x e) cs j h s

  kept-apply : (j : ℕ) (a : RestrictedAction) (x : State) → length x.values ≡ N → AddsBelow N a.additions
      → apply_restricted (in_four (kept N sums j a)) (with_sums sums x) ≡ with_sums sums (apply_restricted a x)
  kept-apply j a x e h = λ i. record { values = values i; modes = set_all a.mode_effects x.modes }
    where
      es : List (ℕ × ℤ)
      es = a.additions

      before : List ℤ
      before = x.values

      after : List ℤ
      after = add_all es before

      values : add_all (es ++ kept_additions N sums es) (before ++ sum_values sums before) ≡ after ++ sum_values sums after
      values =
          add-app es (kept_additions N sums es) (before ++ sum_values sums before)
          ∙ ap (add_all (kept_additions N sums es)) (add-front N es before (sum_values sums before) e h)
          ∙ ap (λ (k : ℕ). add_all (kept_additions k sums es) (after ++ sum_values sums before)) (sym (add-length es before ∙ e))
          ∙ add_kept es (integer_at before) (integer_at after) (λ i. add-value N es before i e h) sums after

  kept_step : (acts : List RestrictedAction) (j : ℕ) (x : State) (k : ℕ) → All (Measures N) acts → length x.values ≡ N
      → SlotsOf x j (sums_of_actions acts)
      → Agree (KeepsSums N sums) (restricted_step_of (keeping_all N sums j acts) (with_sums sums x) k) (restricted_step_of acts x k)
  kept_step [] j x k h e s = tt
  kept_step (a ∷ acts) j x zero (h, hs) e s =
      agree-given (KeepsSums N sums) (applies_restricted (in_four (kept N sums j a)) (with_sums sums x)) (applies_restricted a x)
      (apply_restricted (in_four (kept N sums j a)) (with_sums sums x)) (apply_restricted a x)
      (ap (◌&&◌ (modes_hold a.mode_conditions (natural_at x.modes))) (kept-hold a.conditions j x e h.conditions_in
      (slots-left (integer_at (with_sums sums x).values) (integer_at x.values) j (sums_in a.conditions) (sums_of_actions acts) s)))
      (λ t. (add-length a.additions x.values ∙ e, kept-apply j a x e h.additions_in))
  kept_step (a ∷ acts) j x (suc k) (h, hs) e s = kept_step acts (j + length (sums_in a.conditions)) x k hs e
      (slots-right (integer_at (with_sums sums x).values) (integer_at x.values) j (sums_in a.conditions) (sums_of_actions acts) s)

-- ---- of a whole task
module _ (r : RestrictedTask) (measures : All (Measures (length r.starts)) r.actions)
    (goal_in : All (ConditionIn (length r.starts)) r.goal_conditions) where
  abbrev N : ℕ
  N = length r.starts

  abbrev sums : List (List (ℕ × ℤ))
  sums = sums_of r

  abbrev Sim : State → State → Type 0
  Sim = KeepsSums N sums

  slots : (x : State) → length x.values ≡ N → SlotsOf N sums x N sums
  slots x e = subst (λ (k : ℕ). SlotsOf N sums x k sums) e (slots-of sums x)

  -- THE LAYER: the task that keeps its sums goes with the task that measures them
  pub kept-steps-agree : (X x : State) (k : ℕ) → Sim X x → Agree Sim (restricted_step_of (keep_sums r).actions X k) (restricted_step_of r.actions x k)
  kept-steps-agree X x k (e, q) = subst (λ (Y : State). Agree Sim (restricted_step_of (keep_sums r).actions Y k) (restricted_step_of r.actions x k)) (sym q)
      (kept_step N sums r.actions N x k measures e (slots-left (integer_at (with_sums sums x).values) (integer_at x.values) N
      (sums_of_actions r.actions) (sums_in r.goal_conditions) (slots x e)))

  pub kept-goals-agree : (X x : State) → Sim X x → restricted_goal_holds (keep_sums r) X ≡ restricted_goal_holds r x
  kept-goals-agree X x (e, q) = ap (restricted_goal_holds (keep_sums r)) q
      ∙ ap (◌&&◌ (modes_hold r.goal_modes (natural_at x.modes)))
      (kept-hold N sums r.goal_conditions (N + length (sums_of_actions r.actions)) x e goal_in
      (slots-right (integer_at (with_sums sums x).values) (integer_at x.values) N (sums_of_actions r.actions) (sums_in r.goal_conditions) (slots x e)))

-- ---- a pairing of plans is carried along a layer
module _ {S X Y : Type 0} (step_s : S → ℕ → Option S) (step_x : X → ℕ → Option X) (step_y : Y → ℕ → Option Y)
    (Sim : Y → X → Type 0) (steps : (y : Y) (x : X) (k : ℕ) → Sim y x → Agree Sim (step_y y k) (step_x x k))
    (f : X → Y) (is : (y : Y) (x : X) → Sim y x → y ≡ f x) (at_rest : S → X) (opening : ℕ → ℕ) (number : ℕ → Option ℕ)
    (stage_steps : S → ℕ → List ℕ) (price : S → ℕ → ℕ)
    (s₀ : S) (start : Sim (f (at_rest s₀)) (at_rest s₀)) (GoalS : S → Type 0) (GoalX : X → Type 0) (GoalY : Y → Type 0) (limit : ℕ)
    (goal_in : (y : Y) (x : X) → Sim y x → GoalY y → GoalX x) (goal_out : (y : Y) (x : X) → Sim y x → GoalX x → GoalY y) where
  pub pairing-carried : Pairing step_s step_x at_rest opening number stage_steps price s₀ GoalS GoalX limit
      → Pairing step_s step_y (λ s. f (at_rest s)) opening number stage_steps price s₀ GoalS GoalY limit
  pairing-carried P = record {
    forth = λ p s' r g l. let (a, b, c, d) = P.forth p s' r g l in
        let q : List ℕ = expand_from step_s opening stage_steps p s₀ in
        let (y, e, sim) = agree_right Sim (run_plan step_y q (f (at_rest s₀))) (run_plan step_x q (at_rest s₀)) (at_rest s') (runs q) a in
        (e ∙ ap some (is y (at_rest s') sim), subst GoalY (is y (at_rest s') sim) (goal_out y (at_rest s') sim b), c, d);
    lengths = P.lengths;
    back = λ q y r g l.
        let (x, e, sim) = agree_left Sim (run_plan step_y q (f (at_rest s₀))) (run_plan step_x q (at_rest s₀)) y (runs q) r in
        let (s', a, b, c, d, h) = P.back q x e (goal_in y x sim g) l in
        (s', a, b, is y x sim ∙ ap f c, d, h);
  }
    where
      runs : (q : List ℕ) → Agree Sim (run_plan step_y q (f (at_rest s₀))) (run_plan step_x q (at_rest s₀))
      runs q = agree-run Sim step_y step_x steps q (f (at_rest s₀)) (at_rest s₀) start
