-- R HAS THE FOUR RELATIONS ALONE: a restricted task that is read, and one that the lowering makes, whatever the source's conditions are. And
-- where these are among the four, the lowering leaves them as they are.
-- Assumes nothing.
use mathlib.Core.Path.{◌≡◌, refl, ap, ◌∙◌}
use Prim.Native.Nat.{ℕ, ◌≤◌}
use native.Mathlib.Omega.{arith}
use mathlib.Core.List.{List, [], ◌∷◌, ◌++◌}
use lib.ListN.{length}
use Rattle.integers.specs.All.{All}
use Rattle.integers.specs.Relation.{Relation, below, at_most, at_least, above, equal, relation_number}
use Rattle.integers.proofs.All.{all_map}
use Rattle.answers.specs.Answer.{given}
use Rattle.model.specs.Tasks.{NumericCondition, SourceTask, RestrictedAction, RestrictedTask}
use Rattle.model.specs.Steps.{sizes_of}
use Rattle.model.specs.Limits.{restricted_limits}
use Rattle.model.specs.Decoding.{read_source, read_restricted}
use Rattle.model.specs.FourRelations.{comparing, in_four_relations, all_in_four_relations}
use Rattle.model.specs.Lowering.{lower_task}
use Rattle.model.specs.TaskOk.{ConditionOk, RestrictedActionOk, RestrictedTaskOk, OneOfFour, FourAlone}
use Rattle.model.proofs.AcceptedOk.{accepted-source-ok, accepted-restricted-ok}
use Rattle.model.proofs.LoweredOk.{lowered-task-ok}

-- what keeps to the rules on restricted files has no other
module _ (r : RestrictedTask) (ok : RestrictedTaskOk r) where
  conditions : (n : ℕ) (cs : List (NumericCondition ℕ)) → All (ConditionOk restricted_limits n) cs → All OneOfFour cs
  conditions n = all_map (ConditionOk restricted_limits n) OneOfFour (λ c h. h.known)

  alone : FourAlone r
  alone = record {
    actions = all_map (RestrictedActionOk restricted_limits (length r.starts) (sizes_of r.modes)) (λ (a : RestrictedAction). All OneOfFour a.conditions)
        (λ a h. conditions (length r.starts) a.conditions h.conditions_ok.conditions_in) r.actions ok.actions_ok;
    goal = conditions (length r.starts) r.goal_conditions ok.goal.conditions_in;
  }

pub read-has-four-alone : (file : List ℕ) (r : RestrictedTask) → read_restricted file ≡ given r → FourAlone r
read-has-four-alone file r e = alone r (accepted-restricted-ok file r e)

pub lowered-has-four-alone : (file : List ℕ) (t : SourceTask) → read_source file ≡ given t → FourAlone (lower_task t)
lowered-has-four-alone file t e = alone (lower_task t) (lowered-task-ok t (accepted-source-ok file t e))

-- conditions among the four stay as they are
pub four-stay : (cs : List (NumericCondition ℕ)) → All OneOfFour cs → all_in_four_relations cs ≡ cs
four-stay [] h = refl
four-stay (c ∷ cs) (h, hs) = ap (λ (z : List (NumericCondition ℕ)). in_four_relations c.measured c.relation c.constant ++ z) (four-stay cs hs) ∙ one c.relation h
  where
    one : (r : Relation) → relation_number r ≤ 3 → in_four_relations c.measured r c.constant ++ cs ≡ comparing c.measured r c.constant ∷ cs
    one below k = refl
    one at_most k = refl
    one at_least k = refl
    one above k = refl
    one equal k = absurd (omega (arith, k))
