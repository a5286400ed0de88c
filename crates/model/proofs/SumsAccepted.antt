-- An accepted source file's task has no more sums than the limit: each is of a K, and the reading counts the K's of the file.
-- Assumes nothing.
use mathlib.Core.Path.{◌≡◌, refl, sym, ap, ◌∙◌, subst}
use Prim.Native.Nat.{ℕ, zero, ◌+◌, ◌≤◌, ◌<◌}
use native.Mathlib.Omega.{arith}
use mathlib.Core.Bool.{Bool, true, false, cond}
use mathlib.Core.List.{List, [], ◌∷◌, ◌++◌, append_assoc, map}
use lib.ListN.{length, length-append, get_or}
use lib.Dec.{eqb}
use lib.IntN.{ℤ}
use Rattle.commands.specs.Table.{letter_a, letter_c, letter_g, letter_k}
use Rattle.commands.specs.declared.Command.{Command}
use Rattle.commands.specs.declared.Command.TheVariants.{Sum}
use Rattle.commands.specs.Encoding.{byte_of, operands}
use Rattle.commands.proofs.Commands.{by_byte}
use Rattle.model.specs.Limits.{Limits}
use Rattle.model.specs.ReadingState.{ReadingState, Going, begin}
use Rattle.model.specs.Rules.{tests_of, rule_of}
use Rattle.model.specs.Trail.{Trail}
use Rattle.model.specs.Tasks.{NumericCondition}
use Rattle.model.specs.Decoding.{those, up_to, parts_at, actions_of, goal_of, condition_of, conditions_of, terms_of, sum_condition_of}
use Rattle.model.specs.Decoding.{sum_conditions_of, source_conditions_of, source_action_of, source_task_of}
use Rattle.model.specs.Sums.{sum_in, sums_in, sums_of_source_actions, sums_of_source}
use Rattle.model.proofs.ReadingLaws.{over, Off, Alive}
use Rattle.model.proofs.CommandFacts.{has-byte, taken, sums-after, alive-is-no-refusal}

-- ---- the K's of commands
abbrev pub sum_count : List Command → ℕ
sum_count cs = length (those letter_k cs)

abbrev sum_counts : List (List Command) → ℕ
sum_counts [] = zero
sum_counts (a ∷ parts) = sum_count a + sum_counts parts

-- a K that is taken is not one too many
room-for-sum : (l : Limits) (p : ReadingState) (c : Command) → eqb (byte_of c) letter_k ≡ true → (rule_of l p c).progress ≡ Going → p.sums < l.sums
unfolding tests_of
room-for-sum l p c b g =
    let is : c ≡ Sum (get_or (operands c) 0 0) (get_or (operands c) 1 0) =
    by_byte c (Sum 0 0) (alive-is-no-refusal l p c (subst Alive (sym g) tt)) tt (has-byte c letter_k b) in
    over l.sums p.sums (subst (λ (x : Command). Off (tests_of l p x)) is (taken l p c g).0).1.0

counted : (l : Limits) (cs : List Command) (p : ReadingState) → p.sums ≤ l.sums → Trail l p cs → p.sums + sum_count cs ≤ l.sums
counted l [] p h t = omega (arith, h)
counted l (c ∷ cs) p h (w, g, t) =
    step (eqb (byte_of c) letter_k) refl (ap (λ (q : ReadingState). q.sums) (taken l p c g).1 ∙ sums-after p c)
    (λ h'. counted l cs (rule_of l p c).state h' t)
  where
    step : (b : Bool) → eqb (byte_of c) letter_k ≡ b → (rule_of l p c).state.sums ≡ cond b (p.sums + 1) p.sums
        → ((rule_of l p c).state.sums ≤ l.sums → (rule_of l p c).state.sums + sum_count cs ≤ l.sums)
        → p.sums + length (cond b (c ∷ those letter_k cs) (those letter_k cs)) ≤ l.sums
    step true b e more = omega (arith, e, more (omega (arith, e, room-for-sum l p c b g)))
    step false b e more = omega (arith, e, more (omega (arith, e, h)))

-- ---- those of the actions and the goal are among those of the file
parted : (cs : List Command) → sum_count (up_to cs) + (sum_counts (actions_of cs) + sum_count (goal_of cs)) ≤ sum_count cs
parted [] = omega arith
parted (c ∷ cs) = step (eqb (byte_of c) letter_g) (eqb (byte_of c) letter_a) refl refl (parted cs)
  where
    -- a command more has no fewer K's; both sides have it where it is neither A nor G
    more : sum_count cs ≤ sum_count (c ∷ cs)
    more = go (eqb (byte_of c) letter_k)
      where
        go : (k : Bool) → sum_count cs ≤ length (cond k (c ∷ those letter_k cs) (those letter_k cs))
        go true = omega arith
        go false = omega arith

    both : (x : ℕ) → sum_count (up_to cs) + x ≤ sum_count cs → sum_count (c ∷ up_to cs) + x ≤ sum_count (c ∷ cs)
    both x = go (eqb (byte_of c) letter_k)
      where
        go : (k : Bool) → sum_count (up_to cs) + x ≤ sum_count cs
            → length (cond k (c ∷ those letter_k (up_to cs)) (those letter_k (up_to cs))) + x ≤ length (cond k (c ∷ those letter_k cs) (those letter_k cs))
        go true h = omega (arith, h)
        go false h = h

    step : (g a : Bool) → eqb (byte_of c) letter_g ≡ g → eqb (byte_of c) letter_a ≡ a
        → sum_count (up_to cs) + (sum_counts (actions_of cs) + sum_count (goal_of cs)) ≤ sum_count cs
        → sum_count (cond (cond g true a) [] (c ∷ up_to cs))
        + (sum_counts (cond a (up_to cs ∷ actions_of cs) (actions_of cs)) + sum_count (get_or (cond g (up_to cs ∷ parts_at letter_g cs) (parts_at letter_g cs)) 0 []))
        ≤ sum_count (c ∷ cs)
    step true true g a h = absurd (omega (arith, sym (has-byte c letter_g g) ∙ has-byte c letter_a a))
    step true false g a h = omega (arith, h, more)
    step false true g a h = omega (arith, h, more)
    step false false g a h = both (sum_counts (actions_of cs) + sum_count (goal_of cs)) h

-- ---- the sums of conditions are the K's: a C measures none, a K one
pub no-sum : (cs : List Command) → sums_in (map condition_of cs) ≡ []
no-sum [] = refl
no-sum (c ∷ cs) = no-sum cs

pub sums-append : (xs ys : List (NumericCondition ℕ)) → sums_in (xs ++ ys) ≡ sums_in xs ++ sums_in ys
sums-append [] ys = refl
sums-append (x ∷ xs) ys = ap (λ (z : List (List (ℕ × ℤ))). sum_in x.measured ++ z) (sums-append xs ys)
    ∙ sym (append_assoc (sum_in x.measured) (sums_in xs) (sums_in ys))

pub one-sum-each : (cs : List Command) → length (sums_in (sum_conditions_of cs)) ≡ sum_count cs
one-sum-each [] = refl
one-sum-each (c ∷ cs) = step (eqb (byte_of c) letter_k) (one-sum-each cs)
  where
    step : (k : Bool) → length (sums_in (sum_conditions_of cs)) ≡ sum_count cs
        → length (sums_in (cond k (sum_condition_of c (terms_of cs) ∷ sum_conditions_of cs) (sum_conditions_of cs)))
        ≡ length (cond k (c ∷ those letter_k cs) (those letter_k cs))
    step true h = omega (arith, h)
    step false h = h

part-sums : (cs : List Command) → length (sums_in (source_conditions_of cs)) ≡ sum_count cs
part-sums cs = ap length (sums-append (conditions_of cs) (sum_conditions_of cs)
    ∙ ap (λ (z : List (List (ℕ × ℤ))). z ++ sums_in (sum_conditions_of cs)) (no-sum (those letter_c cs)))
    ∙ one-sum-each cs

actions-sums : (parts : List (List Command)) → length (sums_of_source_actions (map source_action_of parts)) ≡ sum_counts parts
actions-sums [] = refl
actions-sums (a ∷ parts) = length-append (sums_in (source_conditions_of a)) (sums_of_source_actions (map source_action_of parts))
    ∙ omega (arith, part-sums a, actions-sums parts)

pub task-sums : (cs : List Command) → length (sums_of_source (source_task_of cs)) ≤ sum_count cs
task-sums cs = omega (
  arith,
  length-append (sums_of_source_actions (map source_action_of (actions_of cs))) (sums_in (source_conditions_of (goal_of cs))),
  actions-sums (actions_of cs),
  part-sums (goal_of cs),
  parted cs,
)

-- THE LAW: the sums of the task of commands that may follow one another
pub sums-few : (l : Limits) (cs : List Command) → Trail l begin cs → length (sums_of_source (source_task_of cs)) ≤ l.sums
sums-few l cs t = omega (arith, task-sums cs, counted l cs begin (omega arith) t)
