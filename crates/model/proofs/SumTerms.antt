-- Every K of an accepted source file has a T: at any other command behind a K, Z among them, the file is refused (14).
-- Assumes nothing.
use mathlib.Core.Path.{◌≡◌, refl, sym, ap, ◌∙◌, subst}
use Prim.Native.Nat.{ℕ, ◌≤◌}
use native.Mathlib.Omega.{arith}
use mathlib.Core.Bool.{Bool, true, false, cond}
use mathlib.Core.List.{List, [], ◌∷◌, ◌++◌, map}
use lib.ListN.{length, get_or}
use lib.Dec.{eqb, leb}
use lib.IntN.{ℤ}
use Rattle.integers.specs.All.{All}
use Rattle.integers.proofs.All.{all_app}
use Rattle.answers.specs.Answer.{given}
use Rattle.commands.specs.Table.{letter_a, letter_c, letter_t, letter_g, letter_k}
use Rattle.commands.specs.declared.Command.{Command}
use Rattle.commands.specs.declared.Command.TheVariants.{End}
use Rattle.commands.specs.Encoding.{byte_of}
use Rattle.model.specs.Limits.{source_limits}
use Rattle.model.specs.ReadingState.{ReadingState, Taken, Going, begin, rule}
use Rattle.model.specs.Rules.{own_rule_of, rule_of}
use Rattle.model.specs.Reading.{commands_of}
use Rattle.model.specs.Trail.{Trail}
use Rattle.model.specs.Tasks.{SourceTask}
use Rattle.model.specs.Decoding.{those, is_edge, up_to, parts_at, actions_of, goal_of, conditions_of, terms_of, sum_condition_of, sum_conditions_of}
use Rattle.model.specs.Decoding.{source_conditions_of, source_action_of, source_task_of, read_source}
use Rattle.model.specs.Sums.{sums_in, sums_of_source_actions, sums_of_source}
use Rattle.model.proofs.ReadingLaws.{clash, Alive}
use Rattle.model.proofs.CommandFacts.{has-byte, bare-sum-after, taken, alive-is-no-refusal, has-no-zero}
use Rattle.model.proofs.SumsAccepted.{sums-append, no-sum}
use Rattle.model.proofs.AcceptedOk.{taken-from}

abbrev HasTerm : List (ℕ × ℤ) → Type 0
HasTerm ts = 1 ≤ length ts

-- ---- behind a K that has no T yet no command but a T is taken
stopped : (p : ReadingState) (q : Taken) (n : ℕ) → p.bare_sum ≡ 1 → Alive (rule p ((leb 1 p.bare_sum, n) ∷ []) q).progress → ⊥
stopped p q n b h = subst (λ (k : ℕ). Alive (rule p ((leb 1 k, n) ∷ []) q).progress) b h

only-term : (p : ReadingState) (c : Command) → p.bare_sum ≡ 1 → (rule_of source_limits p c).progress ≡ Going → eqb (byte_of c) letter_t ≡ true
only-term p c b g = step (eqb (byte_of c) letter_t) (eqb (byte_of c) 0) refl (has-no-zero c (alive-is-no-refusal source_limits p c alive)) alive
  where
    alive : Alive (rule_of source_limits p c).progress
    alive = subst Alive (sym g) tt

    step : (t z : Bool) → eqb (byte_of c) letter_t ≡ t → z ≡ false
        → Alive (rule p (cond (cond t true (cond z true false)) [] ((leb 1 p.bare_sum, 14) ∷ [])) (own_rule_of source_limits p c)).progress
        → t ≡ true
    step true z e f h = refl
    step false true e f h = absurd (clash f)
    step false false e f h = absurd (stopped p (own_rule_of source_limits p c) 14 b h)

term-follows : (cs : List Command) (p : ReadingState) → p.bare_sum ≡ 1 → Trail source_limits p cs → HasTerm (terms_of (up_to cs))
term-follows [] p b (s, e) = absurd (stopped p (own_rule_of source_limits p End) 14 b (subst (λ (x : Taken). Alive x.progress) (sym e) tt))
term-follows (c ∷ cs) p b (w, g, t) =
    let is : eqb (byte_of c) letter_t ≡ true = only-term p c b g in
    let inside : is_edge c ≡ false = ap (λ (x : ℕ). cond (eqb x letter_g) true (eqb x letter_a)) (has-byte c letter_t is) in
    rw (inside, is) (omega arith)

-- ---- so each has one: in an action or the goal, and in the task
part-terms : (cs : List Command) (p : ReadingState) → Trail source_limits p cs → All HasTerm (sums_in (sum_conditions_of (up_to cs)))
part-terms [] p t = tt
part-terms (c ∷ cs) p (w, g, t) = edge (is_edge c) (part-terms cs (rule_of source_limits p c).state t)
  where
    inner : (k : Bool) → eqb (byte_of c) letter_k ≡ k → All HasTerm (sums_in (sum_conditions_of (up_to cs)))
        → All HasTerm (sums_in (cond k (sum_condition_of c (terms_of (up_to cs)) ∷ sum_conditions_of (up_to cs)) (sum_conditions_of (up_to cs))))
    inner true k more = (term-follows cs (rule_of source_limits p c).state bare t, more)
      where
        bare : (rule_of source_limits p c).state.bare_sum ≡ 1
        bare = ap (λ (q : ReadingState). q.bare_sum) (taken source_limits p c g).1 ∙ bare-sum-after p c ∙ rw k refl
    inner false k more = more

    edge : (b : Bool) → All HasTerm (sums_in (sum_conditions_of (up_to cs))) → All HasTerm (sums_in (sum_conditions_of (cond b [] (c ∷ up_to cs))))
    edge true more = tt
    edge false more = inner (eqb (byte_of c) letter_k) refl more

abbrev TermsIn : List Command → Type 0
TermsIn a = All HasTerm (sums_in (source_conditions_of a))

conditions-terms : (a : List Command) → All HasTerm (sums_in (sum_conditions_of a)) → TermsIn a
conditions-terms a h = subst (All HasTerm)
    (sym (sums-append (conditions_of a) (sum_conditions_of a) ∙ ap (λ (z : List (List (ℕ × ℤ))). z ++ sums_in (sum_conditions_of a)) (no-sum (those letter_c a)))) h

parts-terms : (b : ℕ) (cs : List Command) (p : ReadingState) → Trail source_limits p cs → All TermsIn (parts_at b cs)
parts-terms b [] p t = tt
parts-terms b (c ∷ cs) p (w, g, t) = go (eqb (byte_of c) b) (parts-terms b cs (rule_of source_limits p c).state t)
  where
    go : (x : Bool) → All TermsIn (parts_at b cs) → All TermsIn (cond x (up_to cs ∷ parts_at b cs) (parts_at b cs))
    go true more = (conditions-terms (up_to cs) (part-terms cs (rule_of source_limits p c).state t), more)
    go false more = more

first-terms : (parts : List (List Command)) → All TermsIn parts → TermsIn (get_or parts 0 [])
first-terms [] h = tt
first-terms (a ∷ parts) (h, hs) = h

actions-terms : (parts : List (List Command)) → All TermsIn parts → All HasTerm (sums_of_source_actions (map source_action_of parts))
actions-terms [] h = tt
actions-terms (a ∷ parts) (h, hs) =
    all_app HasTerm (sums_in (source_conditions_of a)) (sums_of_source_actions (map source_action_of parts)) h (actions-terms parts hs)

-- THE LAW: of the sums of an accepted source file's task none is empty
pub sums-have-terms : (file : List ℕ) (t : SourceTask) → read_source file ≡ given t → All (λ (ts : List (ℕ × ℤ)). 1 ≤ length ts) (sums_of_source t)
sums-have-terms file t e =
    let (w, is) = taken-from source_limits file (source_task_of cs) t e in
    subst (λ (u : SourceTask). All HasTerm (sums_of_source u)) is
    (all_app HasTerm (sums_of_source_actions (map source_action_of (actions_of cs))) (sums_in (source_conditions_of (goal_of cs)))
    (actions-terms (actions_of cs) (parts-terms letter_a cs begin w)) (first-terms (parts_at letter_g cs) (parts-terms letter_g cs begin w)))
  where
    cs : List Command
    cs = commands_of source_limits file
