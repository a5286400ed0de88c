-- Relation 4 written as ≥ then ≤ asks for the same: no state tells the conditions apart, and they are at most twice as many.
-- Assumes nothing.
use mathlib.Core.Path.{◌≡◌, refl, ap, ◌∙◌}
use Prim.Native.Nat.{ℕ, ◌+◌, ◌≤◌}
use native.Mathlib.Omega.{arith}
use mathlib.Core.Bool.{Bool, true, false, ◌&&◌}
use mathlib.Core.List.{List, [], ◌∷◌, ◌++◌}
use lib.ListN.{length, length-append}
use lib.IntN.{ℤ}
use lib.Signed.{le_z}
use Rattle.integers.specs.All.{All}
use Rattle.integers.specs.Relation.{Relation, below, at_most, at_least, above, equal, relation_number, related}
use Rattle.model.specs.Tasks.{NumericCondition}
use Rattle.model.specs.Steps.{measure, conditions_hold}
use Rattle.model.specs.Limits.{restricted_limits}
use Rattle.model.specs.TaskOk.{MeasureOk, ConditionOk}
use Rattle.model.specs.FourRelations.{comparing, in_four_relations, all_in_four_relations}
use Rattle.model.proofs.StageWalk.{all_app}

both_first : (a b c : Bool) → a && (b && c) ≡ (a && b) && c
both_first true b c = refl
both_first false b c = refl

pub four-hold : (cs : List (NumericCondition ℕ)) (v : ℕ → ℤ) → conditions_hold (all_in_four_relations cs) v ≡ conditions_hold cs v
four-hold [] v = refl
four-hold (c ∷ cs) v = one c.relation ∙ ap (◌&&◌ (related c.relation (measure c.measured v) c.constant)) (four-hold cs v)
  where
    rest : List (NumericCondition ℕ)
    rest = all_in_four_relations cs

    one : (r : Relation) → conditions_hold (in_four_relations c.measured r c.constant ++ rest) v ≡ related r (measure c.measured v) c.constant && conditions_hold rest v
    one below = refl
    one at_most = refl
    one at_least = refl
    one above = refl
    one equal = both_first (le_z c.constant (measure c.measured v)) (le_z (measure c.measured v) c.constant) (conditions_hold rest v)

pub four-length : (cs : List (NumericCondition ℕ)) → length (all_in_four_relations cs) ≤ length cs + length cs
four-length [] = omega arith
four-length (c ∷ cs) = omega (arith, length-append (in_four_relations c.measured c.relation c.constant) (all_in_four_relations cs), one c.relation, four-length cs)
  where
    one : (r : Relation) → length (in_four_relations c.measured r c.constant) ≤ 2
    one below = omega arith
    one at_most = omega arith
    one at_least = omega arith
    one above = omega arith
    one equal = omega arith

pub four-ok : (n : ℕ) (cs : List (NumericCondition ℕ)) → All (λ (c : NumericCondition ℕ). MeasureOk restricted_limits n c.measured c.constant) cs
    → All (ConditionOk restricted_limits n) (all_in_four_relations cs)
four-ok n [] h = tt
four-ok n (c ∷ cs) (h, hs) = all_app (ConditionOk restricted_limits n) (in_four_relations c.measured c.relation c.constant) (all_in_four_relations cs) (one c.relation) (four-ok n cs hs)
  where
    ok : (r : Relation) → relation_number r ≤ 3 → ConditionOk restricted_limits n (comparing c.measured r c.constant)
    ok r k = record { measures = h; known = k }

    one : (r : Relation) → All (ConditionOk restricted_limits n) (in_four_relations c.measured r c.constant)
    one below = (ok below (omega arith), tt)
    one at_most = (ok at_most (omega arith), tt)
    one at_least = (ok at_least (omega arith), tt)
    one above = (ok above (omega arith), tt)
    one equal = (ok at_least (omega arith), (ok at_most (omega arith), tt))
