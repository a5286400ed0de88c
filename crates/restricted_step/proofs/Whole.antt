-- A step on a whole state is the task's step on what the task declares of it: an action that keeps to the rules tests and changes declared
-- variables and modes only, and what it sets a mode to is below the mode's size.
-- Assumes nothing.
use mathlib.Core.Path.{◌≡◌, refl, sym, ap, ap₂, ◌∙◌, subst}
use Prim.Native.Nat.{ℕ, zero, suc, ◌<◌}
use native.Mathlib.Omega.{arith}
use mathlib.Core.Bool.{Bool, true, false, ◌&&◌, cond}
use mathlib.Core.Option.{none, some, none-ne-some}
use mathlib.Core.List.{List, [], ◌∷◌, ◌++◌}
use lib.Dec.{eqb, ltb}
use lib.ListN.{length, get_elem?, set, take, drop, replicate, length-map}
use lib.Seq.{get_or-take, take-set-lt, drop-set-lt}
use lib.IntN.{ℤ, pos, ◌+ℤ◌}
use borrow.Author.Tests.{lt-ltb}
use Rattle.integers.specs.All.{All}
use Rattle.integers.specs.Relation.{related, within_limit}
use Rattle.lists.proofs.Loops.{and_left, and_right}
use Rattle.model.specs.Tasks.{Measured, variable, weighted_sum, NumericCondition, RestrictedAction, RestrictedTask, State}
use Rattle.model.specs.Limits.{Limits, restricted_limits}
use Rattle.model.specs.TaskOk.{ValuesIn, AmountOk, MeasureOk, ConditionOk, RestrictedActionOk, RestrictedTaskOk}
use Rattle.model.specs.Systems.{bind, provided}
use Rattle.model.specs.Steps.{integer_at, natural_at, measure, conditions_hold, modes_hold, add_all, set_all, values_within, modes_below_sizes}
use Rattle.model.specs.Steps.{sound_restricted, applies_restricted, apply_restricted, sizes_of, step_restricted, figure}
use Rattle.model.specs.Judging.{declared_part}
use Rattle.model.proofs.Pairing.{some-injective}
use Rattle.model.proofs.ReadingLaws.{clash}
use Rattle.model.proofs.StageValues.{and-true}
use Rattle.model.proofs.StageWalk.{all-get}
use Rattle.restricted_step.specs.Steps.{step_by}
use Rattle.restricted_step.specs.Whole.{step_of, Changed, Standing, Spared}
use Rattle.restricted_step.proofs.Effects.{put_sum, put_mode, changed-beyond, add-length, set-length}

-- ---- conditions read what is declared
conditions-declared : (n : ℕ) (values : List ℤ) (cs : List (NumericCondition ℕ)) → All (ConditionOk restricted_limits n) cs
    → conditions_hold cs (integer_at (take n values)) ≡ conditions_hold cs (integer_at values)
conditions-declared n values [] h = refl
conditions-declared n values (c ∷ cs) (h, hs) =
    ap₂ ◌&&◌ (ap (λ (z : ℤ). related c.relation z c.constant) (measured c.measured h.measures)) (conditions-declared n values cs hs)
  where
    -- a restricted file has no sums
    measured : (e : Measured ℕ) → MeasureOk restricted_limits n e c.constant → measure e (integer_at (take n values)) ≡ measure e (integer_at values)
    measured (variable i) k = get_or-take n values i (pos 0) k.0
    measured (weighted_sum ts) k = absurd (clash k.0)

modes-declared : (n : ℕ) (sizes modes : List ℕ) (ps : List (ℕ × ℕ)) → length sizes ≡ n → ValuesIn sizes ps
    → modes_hold ps (natural_at (take n modes)) ≡ modes_hold ps (natural_at modes)
modes-declared n sizes modes [] z h = refl
modes-declared n sizes modes (p ∷ ps) z (h, hs) =
    ap₂ ◌&&◌ (ap (λ (x : ℕ). eqb x p.1) (get_or-take n modes p.0 0 (omega (arith, h.0)))) (modes-declared n sizes modes ps z hs)

-- ---- effects change what is declared
add-declared : (l : Limits) (n : ℕ) (es : List (ℕ × ℤ)) (values : List ℤ) → All (AmountOk l n) es
    → Changed n values (add_all es values) (add_all es (take n values))
add-declared l n [] values h = record { is = refl; rest = refl }
add-declared l n (e ∷ es) values (h, hs) =
    let c : Changed n (put_sum values e) (add_all es (put_sum values e)) (add_all es (take n (put_sum values e))) = add-declared l n es (put_sum values e) hs in
    record {
      is = c.is
          ∙ ap (add_all es) (take-set-lt n values e.0 (integer_at values e.0 +ℤ e.1) h.0
          ∙ ap (λ (z : ℤ). set (take n values) e.0 (z +ℤ e.1)) (sym (get_or-take n values e.0 (pos 0) h.0)));
      rest = c.rest ∙ drop-set-lt n values e.0 (integer_at values e.0 +ℤ e.1) h.0;
    }

set-declared : (n : ℕ) (sizes : List ℕ) (es : List (ℕ × ℕ)) (modes : List ℕ) → length sizes ≡ n → ValuesIn sizes es
    → Changed n modes (set_all es modes) (set_all es (take n modes))
set-declared n sizes [] modes z h = record { is = refl; rest = refl }
set-declared n sizes (e ∷ es) modes z (h, hs) =
    let c : Changed n (put_mode modes e) (set_all es (put_mode modes e)) (set_all es (take n (put_mode modes e))) =
    set-declared n sizes es (put_mode modes e) z hs in
    record {
      is = c.is ∙ ap (set_all es) (take-set-lt n modes e.0 e.1 (omega (arith, h.0)));
      rest = c.rest ∙ drop-set-lt n modes e.0 e.1 (omega (arith, h.0));
    }

-- ---- values within a limit: the first n and the others
and_assoc : (a b c : Bool) → (a && (b && c)) ≡ ((a && b) && c)
and_assoc true b c = refl
and_assoc false b c = refl

within-parts : (limit n : ℕ) (l : List ℤ) → values_within limit l ≡ (values_within limit (take n l) && values_within limit (drop n l))
within-parts limit zero l = refl
within-parts limit (suc n) [] = refl
within-parts limit (suc n) (z ∷ l) =
    ap (λ (b : Bool). within_limit limit z && b) (within-parts limit n l)
    ∙ and_assoc (within_limit limit z) (values_within limit (take n l)) (values_within limit (drop n l))

-- values within the figure, and zeros behind them
pub within-append : (xs ys : List ℤ) → values_within figure xs ≡ true → values_within figure ys ≡ true → values_within figure (xs ++ ys) ≡ true
within-append [] ys a b = b
within-append (x ∷ xs) ys a b =
    ap₂ ◌&&◌ (and_left (within_limit figure x) (values_within figure xs) a)
    (within-append xs ys (and_right (within_limit figure x) (values_within figure xs) a) b)

pub zeros_within : (n k : ℕ) → values_within figure (drop n (replicate k (pos 0))) ≡ true
zeros_within zero zero = refl
zeros_within zero (suc k) = zeros_within zero k
zeros_within (suc n) zero = refl
zeros_within (suc n) (suc k) = zeros_within n k

-- where the others stay, the first n decide
within-declared : (limit n : ℕ) (old new : List ℤ) → values_within limit old ≡ true → drop n new ≡ drop n old
    → values_within limit (take n new) ≡ values_within limit new
within-declared limit n old new before e =
    sym (within-parts limit n new ∙ ap (λ (b : Bool). values_within limit (take n new) && b) others ∙ and-true (values_within limit (take n new)))
  where
    others : values_within limit (drop n new) ≡ true
    others = ap (values_within limit) e
        ∙ and_right (values_within limit (take n old)) (values_within limit (drop n old)) (sym (within-parts limit n old) ∙ before)

-- ---- modes below their sizes: as many as there are sizes are read
pub below-declared : (n : ℕ) (sizes modes : List ℕ) → length sizes ≡ n → modes_below_sizes sizes (take n modes) ≡ modes_below_sizes sizes modes
below-declared n [] [] e = ap (λ (k : ℕ). modes_below_sizes [] (take k [])) (sym e)
below-declared n [] (x ∷ modes) e = ap (λ (k : ℕ). modes_below_sizes [] (take k (x ∷ modes))) (sym e)
below-declared zero (z ∷ sizes) modes e = absurd (omega arith)
below-declared (suc n) (z ∷ sizes) [] e = refl
below-declared (suc n) (z ∷ sizes) (x ∷ modes) e = ap (λ (b : Bool). ltb x z && b) (below-declared n sizes modes (omega arith))

put-below : (sizes modes : List ℕ) (i x : ℕ) → i < length sizes → x < natural_at sizes i → modes_below_sizes sizes modes ≡ true
    → modes_below_sizes sizes (set modes i x) ≡ true
put-below sizes [] i x h k e = refl
put-below [] (y ∷ modes) i x h k e = absurd (omega arith)
put-below (z ∷ sizes) (y ∷ modes) zero x h k e = ap₂ ◌&&◌ (lt-ltb x z k) (and_right (ltb y z) (modes_below_sizes sizes modes) e)
put-below (z ∷ sizes) (y ∷ modes) (suc i) x h k e =
    ap₂ ◌&&◌ (and_left (ltb y z) (modes_below_sizes sizes modes) e)
    (put-below sizes modes i x (omega arith) k (and_right (ltb y z) (modes_below_sizes sizes modes) e))

set_below : (sizes : List ℕ) (es : List (ℕ × ℕ)) (modes : List ℕ) → ValuesIn sizes es → modes_below_sizes sizes modes ≡ true
    → modes_below_sizes sizes (set_all es modes) ≡ true
set_below sizes [] modes h e = e
set_below sizes (f ∷ es) modes (h, hs) e = set_below sizes es (put_mode modes f) hs (put-below sizes modes f.0 f.1 h.0 h.1 e)

-- ---- a step that asks for a test after it: two tests at once
tested-after : (applies sound : Bool) (ok : State → Bool) (y z : State) → y ≡ z → ok y ≡ sound
    → bind (provided applies y) (λ (s : State). cond (ok s) (some s) none) ≡ provided (applies && sound) z
tested-after false sound ok y z e q = refl
tested-after true true ok y z e q = rw q (ap some e)
tested-after true false ok y z e q = rw q

-- ---- THE LAW, of an action that keeps to the rules of a task with n variables and m modes of these sizes
module _ (n m : ℕ) (sizes : List ℕ) (many : length sizes ≡ m) (a : RestrictedAction) (ok : RestrictedActionOk restricted_limits n sizes a) (x : State) where
  pub applies-declared : applies_restricted a (declared_part n m x) ≡ applies_restricted a x
  applies-declared = ap₂ ◌&&◌
      (modes-declared m sizes x.modes a.mode_conditions many ok.conditions_ok.mode_conditions_in)
      (conditions-declared n x.values a.conditions ok.conditions_ok.conditions_in)

  values-changed : Changed n x.values (add_all a.additions x.values) (add_all a.additions (take n x.values))
  values-changed = add-declared restricted_limits n a.additions x.values ok.additions_in

  modes-changed : Changed m x.modes (set_all a.mode_effects x.modes) (set_all a.mode_effects (take m x.modes))
  modes-changed = set-declared m sizes a.mode_effects x.modes many ok.mode_effects_in

  effects-declared : apply_restricted a (declared_part n m x) ≡ declared_part n m (apply_restricted a x)
  effects-declared = λ i. record { values = sym values-changed.is i; modes = sym modes-changed.is i }

  abbrev tested : Bool
  tested = applies_restricted a x && values_within figure (add_all a.additions x.values)

  module _ (S : Standing n sizes x) where
    modes-stay-below : modes_below_sizes sizes (set_all a.mode_effects x.modes) ≡ true
    modes-stay-below = set_below sizes a.mode_effects x.modes ok.mode_effects_in S.below

    -- what is declared is sound before the step, and after it where no sum passes the figure
    sound-before : sound_restricted sizes (declared_part n m x) ≡ true
    sound-before = ap₂ ◌&&◌
        (within-declared figure n x.values x.values S.within refl ∙ S.within)
        (below-declared m sizes x.modes many ∙ S.below)

    sound-after : sound_restricted sizes (apply_restricted a (declared_part n m x)) ≡ values_within figure (add_all a.additions x.values)
    sound-after =
        ap (sound_restricted sizes) effects-declared
        ∙ ap₂ ◌&&◌
        (within-declared figure n x.values (add_all a.additions x.values) S.within values-changed.rest)
        (below-declared m sizes (set_all a.mode_effects x.modes) many ∙ modes-stay-below)
        ∙ and-true (values_within figure (add_all a.additions x.values))

    step-declared : step_of sizes (declared_part n m x) a ≡ provided tested (declared_part n m (apply_restricted a x))
    unfolding step_of
    step-declared =
        rw (sound-before, applies-declared)
        (tested-after (applies_restricted a x) (values_within figure (add_all a.additions x.values)) (sound_restricted sizes)
        (apply_restricted a (declared_part n m x)) (declared_part n m (apply_restricted a x)) effects-declared sound-after)

    pub stays : step_by a x ≡ none → step_of sizes (declared_part n m x) a ≡ none
    unfolding step_by
    stays e = step-declared ∙ go tested e
      where
        go : (b : Bool) → provided b (apply_restricted a x) ≡ none → provided b (declared_part n m (apply_restricted a x)) ≡ none
        go true q = absurd (none-ne-some (apply_restricted a x) (sym q))
        go false q = refl

    pub goes : (y : State) → step_by a x ≡ some y → (step_of sizes (declared_part n m x) a ≡ some (declared_part n m y)) × Standing n sizes y × Spared n m x y
    unfolding step_by
    goes y e = go tested refl e
      where
        standing : tested ≡ true → Standing n sizes (apply_restricted a x)
        standing q = record {
          values_long = omega (arith, S.values_long, add-length a.additions x.values);
          modes_long = omega (arith, S.modes_long, set-length a.mode_effects x.modes);
          within = and_right (applies_restricted a x) (values_within figure (add_all a.additions x.values)) q;
          below = modes-stay-below;
        }

        spared : Spared n m x (apply_restricted a x)
        spared = record {
          values = changed-beyond values-changed (add-length a.additions (take n x.values));
          modes = changed-beyond modes-changed (set-length a.mode_effects (take m x.modes));
        }

        go : (b : Bool) → tested ≡ b → provided b (apply_restricted a x) ≡ some y
            → (step_of sizes (declared_part n m x) a ≡ some (declared_part n m y)) × Standing n sizes y × Spared n m x y
        go true q f =
            subst (λ (z : State). (step_of sizes (declared_part n m x) a ≡ some (declared_part n m z)) × Standing n sizes z × Spared n m x z) (some-injective f)
            (step-declared ∙ ap (λ (b : Bool). provided b (declared_part n m (apply_restricted a x))) q, standing q, spared)
        go false q f = absurd (none-ne-some y f)

-- ---- a task has a size for each mode
pub sizes-many : (t : RestrictedTask) → length (sizes_of t.modes) ≡ length t.modes
sizes-many t = length-map t.modes (λ (m : ℕ × ℕ). m.0)

-- ---- an action of a task, by its number
pub action-ok : (t : RestrictedTask) → RestrictedTaskOk t → (k : ℕ) (a : RestrictedAction) → get_elem? t.actions k ≡ some a
    → RestrictedActionOk restricted_limits (length t.starts) (sizes_of t.modes) a
action-ok t ok k a is = all-get (RestrictedActionOk restricted_limits (length t.starts) (sizes_of t.modes)) t.actions k a ok.actions_ok is

pub step-by-number : (t : RestrictedTask) (x : State) (k : ℕ) (a : RestrictedAction) → get_elem? t.actions k ≡ some a
    → step_of (sizes_of t.modes) x a ≡ step_restricted t x k
unfolding step_of
step-by-number t x k a is = rw is
