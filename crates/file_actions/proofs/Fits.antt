-- An action that keeps to the rules on its file has room whole, so it is what is decoded; and what the rules say of it, said of the elements of its row.
-- Assumes nothing.
use mathlib.Core.Path.{◌≡◌, refl, ap, ap₂, subst, subst⁻¹, ◌∙◌}
use mathlib.Core.List.{List, [], ◌∷◌, ◌++◌, map}
use Prim.Native.Nat.{ℕ, zero, suc, ◌+◌, ◌<◌, ◌≤◌}
use native.Mathlib.Omega.{arith}
use lib.IntN.{ℤ}
use lib.ListN.{length, get_or, take, length-append, length-map, length-take}
use lib.Seq.{take_all}
use Rattle.integers.specs.All.{All}
use Rattle.lists.specs.Each.{tabulate}
use Rattle.lists.proofs.Each.{length-tabulate}
use Rattle.commands.specs.declared.Command.{Command}
use Rattle.model.specs.Tasks.{Measured, variable, weighted_sum, NumericCondition, Effect, add_effect, linear_effect, quotient_effect, residue_effect}
use Rattle.model.specs.Tasks.{SourceAction, RestrictedAction}
use Rattle.model.specs.Decoding.{conditions_of, sum_conditions_of, source_action_of}
use Rattle.model.specs.Steps.{natural_at}
use Rattle.model.specs.Limits.{Limits, source_limits, restricted_limits}
use Rattle.model.specs.InTask.{targets}
use Rattle.model.specs.TaskOk.{Distinct, keys, ValuesIn, AmountOk, MeasureOk, ConditionOk, EffectOk, SourceActionOk, RestrictedActionOk}
use Rattle.model.proofs.ReadingLaws.{length-keys}
use Rattle.file_parts.specs.Layout.{condition_room, mode_condition_room, mode_effect_room, addition_room}
use Rattle.file_parts.specs.Layout.{condition_count, mode_condition_count, mode_effect_count, addition_count}
use Rattle.file_parts.specs.Row.{condition_in, mode_condition_in, mode_effect_in, addition_in, mode_effects_in, row_is, Says}
use Rattle.file_parts.specs.With.{source_part}
use Rattle.file_actions.specs.declared.Effects.{Effects}
use Rattle.file_actions.specs.declared.SumConditions.{SumConditions}
use Rattle.file_actions.specs.Views.{effect_room, sum_room, term_room, sum_is, sums_is, plain_is, with_sum_conditions, source_action_is, plain_action_of}
use Rattle.file_actions.specs.Views.{SourceDecoded, SumsDecoded, fitting_effect, fitting_measure, fitting_sum, fitting_source, fitting_restricted}
use Rattle.file_actions.specs.Within.{RowWithin, SourceWithin}
use Rattle.file_actions.proofs.Distinct.{few-distinct}

-- an action has at most one mode effect a mode
few-modes : (sizes : List ℕ) (es : List (ℕ × ℕ)) → ValuesIn sizes es → Distinct (keys es) → length es ≤ length sizes
few-modes sizes es h d = subst (λ (m : ℕ). m ≤ length sizes) (length-keys es) (few-distinct (length sizes) (keys es) (declared es h) d)
  where
    declared : (es : List (ℕ × ℕ)) → ValuesIn sizes es → All (λ (k : ℕ). k < length sizes) (keys es)
    declared [] h = tt
    declared (e ∷ es) (h, hs) = (h.0, declared es hs)

-- ---- there is room
effect-fits : (n : ℕ) (e : Effect) → EffectOk source_limits n e → fitting_effect e ≡ e
effect-fits n (add_effect t c) h = refl
effect-fits n (linear_effect t w ts) h = ap (linear_effect t w) (take_all term_room ts h.2)
effect-fits n (quotient_effect t o c) h = refl
effect-fits n (residue_effect t o c) h = refl

effects-fit : (n : ℕ) (es : List Effect) → All (EffectOk source_limits n) es → map fitting_effect es ≡ es
effects-fit n [] h = refl
effects-fit n (e ∷ es) (h, hs) = ap₂ (λ (x : Effect) (xs : List Effect). x ∷ xs) (effect-fits n e h) (effects-fit n es hs)

measure-fits : (n : ℕ) (m : Measured ℕ) (k : ℤ) → MeasureOk source_limits n m k → fitting_measure m ≡ m
measure-fits n (variable i) k h = refl
measure-fits n (weighted_sum ts) k h = ap weighted_sum (take_all term_room ts h.1)

sums-fit : (n : ℕ) (ks : List (NumericCondition ℕ)) → All (ConditionOk source_limits n) ks → map fitting_sum ks ≡ ks
sums-fit n [] h = refl
sums-fit n (k ∷ ks) (h, hs) = ap₂
    (λ (m : Measured ℕ) (xs : List (NumericCondition ℕ)). record { measured = m; relation = k.relation; constant = k.constant } ∷ xs)
    (measure-fits n k.measured k.constant h.measures) (sums-fit n ks hs)

module _ (n : ℕ) (sizes : List ℕ) where
  source_fits : (a : SourceAction) → SourceActionOk source_limits n sizes a → length sizes ≤ source_limits.modes → fitting_source a ≡ a
  source_fits a h few = λ i. record {
    mode_conditions = take_all mode_condition_room a.mode_conditions (omega (arith, h.conditions_ok.mode_conditions_few)) i;
    conditions = take_all condition_room a.conditions (omega (arith, h.conditions_ok.conditions_few)) i;
    mode_effects = take_all mode_effect_room a.mode_effects (omega (arith, few-modes sizes a.mode_effects h.mode_effects_in h.mode_effects_once)) i;
    effects = (ap (take effect_room) (effects-fit n a.effects h.effects_ok) ∙ take_all effect_room a.effects h.effects_few) i;
  }

  pub restricted-fits : (a : RestrictedAction) → RestrictedActionOk restricted_limits n sizes a → length sizes ≤ restricted_limits.modes → fitting_restricted a ≡ a
  restricted-fits a h few = λ i. record {
    mode_conditions = take_all mode_condition_room a.mode_conditions h.conditions_ok.mode_conditions_few i;
    conditions = take_all condition_room a.conditions h.conditions_ok.conditions_few i;
    mode_effects = take_all mode_effect_room a.mode_effects (omega (arith, few-modes sizes a.mode_effects h.mode_effects_in h.mode_effects_once)) i;
    additions = take_all addition_room a.additions h.additions_few i;
  }

-- ---- of each element
all-at : {A : Type 0} (P : A → Type 0) (n : ℕ) (f : ℕ → A) → All P (tabulate n f) → (i : ℕ) → i < n → P (f i)
unfolding tabulate
all-at P zero f h i l = absurd (omega arith)
all-at P (suc n) f (h, hs) zero l = h
all-at P (suc n) f (h, hs) (suc i) l = all-at P n (λ k. f (suc k)) hs i (omega arith)

-- ---- a source action but for its K is what its row and its effects say
plain-is : {a : SourceAction} {marks : List ℕ} {numbers : List ℤ} {r : Effects} → SourceDecoded a marks numbers r → plain_is marks numbers r ≡ a
plain-is d = λ i. record {
  mode_conditions = (d.parts.is i).mode_conditions;
  conditions = (d.parts.is i).conditions;
  mode_effects = (d.parts.is i).mode_effects;
  effects = d.effects i;
}

-- ---- the rules, of a row's elements
abbrev Below : List ℕ → ℕ × ℕ → Type 0
Below sizes e = (e.0 < length sizes) × (e.1 < get_or sizes e.0 0)

module _ (l : Limits) (n : ℕ) (sizes : List ℕ) where
  row_within : (x : RestrictedAction) (marks : List ℕ) (numbers : List ℤ) → RestrictedActionOk l n sizes x → Says x marks numbers
      → RowWithin l n sizes marks numbers
  row_within x marks numbers h says = of-row-itself (subst⁻¹ (RestrictedActionOk l n sizes) says.is h)
    where
      each-condition : RestrictedActionOk l n sizes (row_is marks numbers) → (i : ℕ) → i < natural_at marks condition_count → ConditionOk l n (condition_in marks numbers i)
      each-condition k = all-at (ConditionOk l n) (natural_at marks condition_count) (condition_in marks numbers) k.conditions_ok.conditions_in

      of-row-itself : RestrictedActionOk l n sizes (row_is marks numbers) → RowWithin l n sizes marks numbers
      of-row-itself k = record {
        conditions = record {
          few = omega (arith, k.conditions_ok.conditions_few, length-tabulate (natural_at marks condition_count) (condition_in marks numbers));
          declared = λ i b. (each-condition k i b).measures.0;
          in_range = λ i b. (each-condition k i b).measures.1;
        };
        mode_conditions = record {
          few = omega (arith, k.conditions_ok.mode_conditions_few, length-tabulate (natural_at marks mode_condition_count) (mode_condition_in marks));
          declared = λ i b. (all-at (Below sizes) (natural_at marks mode_condition_count) (mode_condition_in marks) k.conditions_ok.mode_conditions_in i b).0;
          below = λ i b. (all-at (Below sizes) (natural_at marks mode_condition_count) (mode_condition_in marks) k.conditions_ok.mode_conditions_in i b).1;
        };
        mode_effects = record {
          few = omega (
            arith,
            few-modes sizes (mode_effects_in marks) k.mode_effects_in k.mode_effects_once,
            length-tabulate (natural_at marks mode_effect_count) (mode_effect_in marks),
          );
          declared = λ i b. (all-at (Below sizes) (natural_at marks mode_effect_count) (mode_effect_in marks) k.mode_effects_in i b).0;
          below = λ i b. (all-at (Below sizes) (natural_at marks mode_effect_count) (mode_effect_in marks) k.mode_effects_in i b).1;
        };
        additions = record {
          few = omega (arith, k.additions_few, length-tabulate (natural_at marks addition_count) (addition_in marks numbers));
          declared = λ i b. (all-at (AmountOk l n) (natural_at marks addition_count) (addition_in marks numbers) k.additions_in i b).0;
          not_zero = λ i b. (all-at (AmountOk l n) (natural_at marks addition_count) (addition_in marks numbers) k.additions_in i b).1.0;
          in_range = λ i b. (all-at (AmountOk l n) (natural_at marks addition_count) (addition_in marks numbers) k.additions_in i b).1.1;
        };
      }

-- ---- the conditions of a source action: its C, and behind them its K
module _ {A : Type 0} (P : A → Type 0) where
  all-front : (xs ys : List A) → All P (xs ++ ys) → All P xs
  all-front [] ys h = tt
  all-front (x ∷ xs) ys (h, hs) = (h, all-front xs ys hs)

  all-behind : (xs ys : List A) → All P (xs ++ ys) → All P ys
  all-behind [] ys h = h
  all-behind (x ∷ xs) ys (h, hs) = all-behind xs ys hs

-- ---- the action of commands that keep to the rules, decoded
module _ (n : ℕ) (sizes : List ℕ) (cs : List Command) (h : SourceActionOk source_limits n sizes (source_action_of cs))
    (modes_few : length sizes ≤ source_limits.modes) (sums_few : length (sum_conditions_of cs) ≤ sum_room) {marks : List ℕ} {numbers : List ℤ} {r : Effects} {s : SumConditions}
    (decoded : SourceDecoded (fitting_source (plain_action_of cs)) marks numbers r) (sums : SumsDecoded (sum_conditions_of cs) s) where
  together : length (conditions_of cs) + length (sum_conditions_of cs) ≤ source_limits.conditions
  together = omega (arith, h.conditions_ok.conditions_few, length-append (conditions_of cs) (sum_conditions_of cs))

  plain_ok : SourceActionOk source_limits n sizes (plain_action_of cs)
  plain_ok = record {
    conditions_ok = record {
      mode_conditions_few = h.conditions_ok.mode_conditions_few;
      mode_conditions_in = h.conditions_ok.mode_conditions_in;
      conditions_few = omega (arith, together);
      conditions_in = all-front (ConditionOk source_limits n) (conditions_of cs) (sum_conditions_of cs) h.conditions_ok.conditions_in;
    };
    mode_effects_in = h.mode_effects_in;
    mode_effects_once = h.mode_effects_once;
    effects_few = h.effects_few;
    effects_ok = h.effects_ok;
    targets_once = h.targets_once;
  }

  sums-ok : All (ConditionOk source_limits n) (sum_conditions_of cs)
  sums-ok = all-behind (ConditionOk source_limits n) (conditions_of cs) (sum_conditions_of cs) h.conditions_ok.conditions_in

  -- there is room for all of it
  plain-decoded : SourceDecoded (plain_action_of cs) marks numbers r
  plain-decoded = subst (λ (a : SourceAction). SourceDecoded a marks numbers r) (source_fits n sizes (plain_action_of cs) plain_ok modes_few) decoded

  sums-are : sums_is s ≡ sum_conditions_of cs
  sums-are = sums.are ∙ ap (take sum_room) (sums-fit n (sum_conditions_of cs) sums-ok) ∙ take_all sum_room (sum_conditions_of cs) sums_few

  pub source_is : source_action_is marks numbers r s ≡ source_action_of cs
  source_is = ap₂ with_sum_conditions (plain-is plain-decoded) sums-are

  -- and it keeps to the rules
  pub source-within : SourceWithin source_limits n sizes marks numbers r s
  source-within = record {
    row = row_within source_limits n sizes (source_part (plain_action_of cs)) marks numbers (record {
      conditions_ok = plain_ok.conditions_ok;
      mode_effects_in = h.mode_effects_in;
      mode_effects_once = h.mode_effects_once;
      additions_few = omega arith;
      additions_in = tt;
      additions_once = tt;
    }) plain-decoded.parts;
    conditions_few = omega (
      arith,
      together,
      ap (λ (a : SourceAction). length a.conditions) (plain-is plain-decoded),
      length-tabulate (natural_at marks condition_count) (condition_in marks numbers),
      ap length sums-are,
      length-map (take s.count s.places) sum_is,
      length-take s.count s.places,
      sums.few,
      sums.long,
    );
    few = decoded.few;
    effects = subst⁻¹ (All (EffectOk source_limits n)) plain-decoded.effects h.effects_ok;
    targets_once = subst⁻¹ (λ (es : List Effect). Distinct (targets es)) plain-decoded.effects h.targets_once;
    sums = subst⁻¹ (All (ConditionOk source_limits n)) sums-are sums-ok;
  }
