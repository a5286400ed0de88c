-- A source file with one numeric effect or none in each action and no K is read as document 01 reads it: the effect of an action is the first of its
-- + L Q R, an L with all T behind it, since a T stands directly behind L or T only. So lowering such a file gives the bytes that document 01's reading and
-- lowering give.
-- Assumes nothing.
use mathlib.Core.Path.{◌≡◌, refl, sym, ap, ap₂, ◌∙◌, subst}
use Prim.Native.Nat.{ℕ, ◌+◌, ◌≤◌}
use native.Mathlib.Omega.{arith}
use mathlib.Core.Bool.{Bool, true, false, cond}
use mathlib.Core.Option.{Option, some}
use mathlib.Core.List.{List, [], ◌∷◌, ◌++◌, append-nil, map}
use lib.ListN.{length, get_or}
use lib.Dec.{eqb, leb→le}
use lib.IntN.{ℤ}
use Rattle.integers.specs.All.{All}
use Rattle.answers.specs.Answer.{given}
use Rattle.commands.specs.Table.{letter_a, letter_l, letter_t, letter_q, letter_r, letter_g, letter_z, letter_k, plus_sign}
use Rattle.commands.specs.declared.Command.{Command}
use Rattle.commands.specs.Encoding.{byte_of, NoRefusal}
use Rattle.commands.proofs.Commands.{same_row}
use Rattle.model.specs.Limits.{Limits, source_limits}
use Rattle.model.specs.ReadingState.{ReadingState, Taken, Going, begin, finish, go_on}
use Rattle.model.specs.Rules.{allowed, tests_of, next_of, onwards, rule_of, constant}
use Rattle.model.specs.Reading.{commands_of}
use Rattle.model.specs.Trail.{Trail}
use Rattle.model.specs.Tasks.{NumericCondition, Effect, add_effect, linear_effect, quotient_effect, residue_effect, SourceTask}
use Rattle.model.specs.Decoding.{those, is_edge, up_to, parts_at, actions_of, goal_of, operand, amount_of, variables_of, modes_of, conditions_of}
use Rattle.model.specs.Decoding.{mode_conditions_of, mode_effects_of, terms_of, sum_conditions_of, source_conditions_of, effects_of, source_action_of}
use Rattle.model.specs.Decoding.{source_task_of, read_source}
use Rattle.model.specs.Sums.{sums_of_source}
use Rattle.model.specs.Stages.{several}
use Rattle.model.specs.Lowering.{encode_file}
use Rattle.model.specs.Judging.{lower_bytes}
use Rattle.model.proofs.ReadingLaws.{clash, holds, Goes, rule-none, own-goes}
use Rattle.model.proofs.CommandFacts.{has-byte, taken, onwards-is, Alive, alive-is-no-refusal}
use Rattle.model.proofs.AcceptedOk.{taken-from}
use Rattle.model.proofs.SumsAccepted.{sum_count, task-sums}
use Rattle.model.specs.OneEffect.{effect_of_one, one_or_none, action_of_one, task_of_one, the_effect, lower_task_of_one, Single}
use Rattle.model.proofs.SingleEffects.{lowered-file-kept}

-- no command is a K
abbrev pub NoSum : List Command → Type 0
NoSum cs = All (λ (c : Command). eqb (byte_of c) letter_k ≡ false) cs

-- ---- the state after a command: where a T may follow
abbrev terms_after : ReadingState → Command → ℕ
terms_after p c =
    cond (eqb (byte_of c) letter_t) (p.terms + 1)
    (cond (eqb (byte_of c) letter_l) 1
    (cond (eqb (byte_of c) letter_k) 1
    (cond (eqb (byte_of c) letter_z) p.terms
    0)))

terms-after : (p : ReadingState) (c : Command) → NoRefusal c → (next_of p c).terms ≡ terms_after p c
unfolding next_of
terms-after p = same_row (λ (c : Command). (next_of p c).terms) (terms_after p) (λ x y z. refl)

module _ (l : Limits) (p : ReadingState) (c : Command) (g : (rule_of l p c).progress ≡ Going) where
  no_end : eqb (byte_of c) letter_z ≡ false
  no_end = go (eqb (byte_of c) letter_z) refl (sym (ap (λ (x : Taken). x.progress) (is ∙ onwards-is (next_of p c) c)) ∙ g)
    where
      is : rule_of l p c ≡ onwards c (next_of p c)
      is = let (g', own) = own-goes l p c g in own ∙ (rule-none p (tests_of l p c) (onwards c (next_of p c)) g').1

      go : (b : Bool) → eqb (byte_of c) letter_z ≡ b → (cond b (finish (next_of p c)) (go_on (next_of p c))).progress ≡ Going → b ≡ false
      go true e f = absurd (subst Goes (sym f) tt)
      go false e f = refl

  -- no T follows a command but L, K and T
  terms-end : eqb (byte_of c) letter_t ≡ false → eqb (byte_of c) letter_l ≡ false → eqb (byte_of c) letter_k ≡ false → (rule_of l p c).state.terms ≡ 0
  terms-end a b k = ap (λ (q : ReadingState). q.terms) (taken l p c g).1
      ∙ terms-after p c (alive-is-no-refusal l p c (subst Alive (sym g) tt)) ∙ rw (a, b, k, no_end) refl

-- ---- the T behind an L: none of another effect follows
no-first : {A : Type 0} (w x y z : Bool) (a b c d : A) (l : List A) → cond w (a ∷ l) (cond x (b ∷ l) (cond y (c ∷ l) (cond z (d ∷ l) l))) ≡ []
    → (x ≡ false) × (l ≡ [])
no-first true x y z a b c d l e = let o : ◌≡◌ {A = ℕ} 0 1 = cc in absurd (omega arith)
no-first false true y z a b c d l e = let o : ◌≡◌ {A = ℕ} 0 1 = cc in absurd (omega arith)
no-first false false true z a b c d l e = let o : ◌≡◌ {A = ℕ} 0 1 = cc in absurd (omega arith)
no-first false false false true a b c d l e = let o : ◌≡◌ {A = ℕ} 0 1 = cc in absurd (omega arith)
no-first false false false false a b c d l e = (refl, e)

no-effect : (c : Command) (cs : List Command) → effects_of (c ∷ cs) ≡ [] → (eqb (byte_of c) letter_l ≡ false) × (effects_of cs ≡ [])
no-effect c cs e = no-first (eqb (byte_of c) plus_sign) (eqb (byte_of c) letter_l) (eqb (byte_of c) letter_q) (eqb (byte_of c) letter_r)
    (add_effect (operand c 0) (constant (operand c 1))) (linear_effect (operand c 0) (constant (operand c 1)) (terms_of cs))
    (quotient_effect (operand c 0) (operand c 1) (constant (operand c 2))) (residue_effect (operand c 0) (operand c 1) (constant (operand c 2)))
    (effects_of cs) e

abbrev TermsRead : ReadingState → List Command → Type 0
TermsRead p a = effects_of a ≡ [] → (terms_of a ≡ map amount_of (those letter_t a)) × (p.terms ≡ 0 → those letter_t a ≡ [])

terms-read : (l : Limits) (cs : List Command) (p : ReadingState) → NoSum cs → Trail l p cs → TermsRead p (up_to cs)
terms-read l [] p k t e = (refl, λ z. refl)
terms-read l (c ∷ cs) p (k, ks) (w, g, t) e = edge (is_edge c) (terms-read l cs (rule_of l p c).state ks t) e
  where
    inner : (x : Bool) → eqb (byte_of c) letter_t ≡ x → TermsRead (rule_of l p c).state (up_to cs) → effects_of (c ∷ up_to cs) ≡ []
        → (cond x (amount_of c ∷ terms_of (up_to cs)) [] ≡ map amount_of (cond x (c ∷ those letter_t (up_to cs)) (those letter_t (up_to cs))))
        × (p.terms ≡ 0 → cond x (c ∷ those letter_t (up_to cs)) (those letter_t (up_to cs)) ≡ [])
    inner true b more e = (
      ap (λ (ts : List (ℕ × ℤ)). amount_of c ∷ ts) (more (no-effect c (up_to cs) e).1).0,
      λ z. absurd (omega (arith, leb→le 1 p.terms (holds (sym (ap (allowed l p) (has-byte c letter_t b)) ∙ w)))),
    )
    inner false b more e = let (n, f) = no-effect c (up_to cs) e in
        let h : those letter_t (up_to cs) ≡ [] = (more f).1 (terms-end l p c g b n k) in (ap (map amount_of) (sym h), λ z. h)

    edge : (b : Bool) → TermsRead (rule_of l p c).state (up_to cs) → TermsRead p (cond b [] (c ∷ up_to cs))
    edge true more e = (refl, λ z. refl)
    edge false more e = inner (eqb (byte_of c) letter_t) refl more e

-- ---- the effect of an action
alone : (e : Effect) (es : List Effect) → several (e ∷ es) ≡ false → es ≡ []
alone e [] h = refl
alone e (f ∷ es) h = absurd (clash h)

first_of : (w x y z : Bool) (a b b' c d : Effect) (l : List Effect) (o : Option Effect)
    → (l ≡ [] → b ≡ b') → (several l ≡ false → the_effect l ≡ o)
    → several (cond w (a ∷ l) (cond x (b ∷ l) (cond y (c ∷ l) (cond z (d ∷ l) l)))) ≡ false
    → the_effect (cond w (a ∷ l) (cond x (b ∷ l) (cond y (c ∷ l) (cond z (d ∷ l) l))))
    ≡ cond w (some a) (cond x (some b') (cond y (some c) (cond z (some d) o)))
first_of true x y z a b b' c d l o h k s = refl
first_of false true y z a b b' c d l o h k s = ap some (h (alone b l s))
first_of false false true z a b b' c d l o h k s = refl
first_of false false false true a b b' c d l o h k s = refl
first_of false false false false a b b' c d l o h k s = k s

abbrev EffectRead : List Command → Type 0
EffectRead a = several (effects_of a) ≡ false → the_effect (effects_of a) ≡ effect_of_one a

effect-read : (l : Limits) (cs : List Command) (p : ReadingState) → NoSum cs → Trail l p cs → EffectRead (up_to cs)
effect-read l [] p k t s = refl
effect-read l (c ∷ cs) p (k, ks) (w, g, t) s = edge (is_edge c) (effect-read l cs (rule_of l p c).state ks t) s
  where
    edge : (b : Bool) → EffectRead (up_to cs) → EffectRead (cond b [] (c ∷ up_to cs))
    edge true more s = refl
    edge false more s = first_of (eqb (byte_of c) plus_sign) (eqb (byte_of c) letter_l) (eqb (byte_of c) letter_q) (eqb (byte_of c) letter_r)
        (add_effect (operand c 0) (constant (operand c 1))) (linear_effect (operand c 0) (constant (operand c 1)) (terms_of (up_to cs)))
        (linear_effect (operand c 0) (constant (operand c 1)) (map amount_of (those letter_t (up_to cs))))
        (quotient_effect (operand c 0) (operand c 1) (constant (operand c 2))) (residue_effect (operand c 0) (operand c 1) (constant (operand c 2)))
        (effects_of (up_to cs)) (effect_of_one (up_to cs))
        (λ e. ap (linear_effect (operand c 0) (constant (operand c 1))) (terms-read l cs (rule_of l p c).state ks t e).0) more s

parts-read : (l : Limits) (b : ℕ) (cs : List Command) (p : ReadingState) → NoSum cs → Trail l p cs → All EffectRead (parts_at b cs)
parts-read l b [] p k t = tt
parts-read l b (c ∷ cs) p (k, ks) (w, g, t) = go (eqb (byte_of c) b) (parts-read l b cs (rule_of l p c).state ks t)
  where
    go : (x : Bool) → All EffectRead (parts_at b cs) → All EffectRead (cond x (up_to cs ∷ parts_at b cs) (parts_at b cs))
    go true more = (effect-read l cs (rule_of l p c).state ks t, more)
    go false more = more

-- ---- the conditions of an action or the goal: its C's alone
up-to-none : (cs : List Command) → NoSum cs → NoSum (up_to cs)
up-to-none [] k = tt
up-to-none (c ∷ cs) (k, ks) = go (is_edge c) (up-to-none cs ks)
  where
    go : (b : Bool) → NoSum (up_to cs) → NoSum (cond b [] (c ∷ up_to cs))
    go true more = tt
    go false more = (k, more)

parts_none : (b : ℕ) (cs : List Command) → NoSum cs → All NoSum (parts_at b cs)
parts_none b [] k = tt
parts_none b (c ∷ cs) (k, ks) = go (eqb (byte_of c) b) (parts_none b cs ks)
  where
    go : (x : Bool) → All NoSum (parts_at b cs) → All NoSum (cond x (up_to cs ∷ parts_at b cs) (parts_at b cs))
    go true more = (up-to-none cs ks, more)
    go false more = more

first-none : (parts : List (List Command)) → All NoSum parts → NoSum (get_or parts 0 [])
first-none [] k = tt
first-none (a ∷ parts) (k, ks) = k

no-sums : (cs : List Command) → NoSum cs → sum_conditions_of cs ≡ []
no-sums [] k = refl
no-sums (c ∷ cs) (k, ks) = rw k (no-sums cs ks)

conditions-read : (a : List Command) → NoSum a → source_conditions_of a ≡ conditions_of a
conditions-read a k = ap (λ (z : List (NumericCondition ℕ)). conditions_of a ++ z) (no-sums a k) ∙ append-nil (conditions_of a)

none-counted : (cs : List Command) → NoSum cs → sum_count cs ≡ 0
none-counted [] k = refl
none-counted (c ∷ cs) (k, ks) = rw k (none-counted cs ks)

is-empty : {A : Type 0} (xs : List A) → length xs ≤ 0 → xs ≡ []
is-empty [] h = refl
is-empty (x ∷ xs) h = absurd (omega (arith, h))

-- ---- the task
effects-are : (es : List Effect) → several es ≡ false → es ≡ one_or_none (the_effect es)
effects-are [] s = refl
effects-are (e ∷ es) s = ap (λ (l : List Effect). e ∷ l) (alone e es s)

actions-read : (parts : List (List Command)) → All NoSum parts → All EffectRead parts → All Single (map source_action_of parts)
    → map source_action_of parts ≡ map action_of_one parts
actions-read [] k h s = refl
actions-read (a ∷ parts) (k, ks) (h, hs) (s, ss) = ap₂ ◌∷◌ (λ i. record {
  mode_conditions = mode_conditions_of a;
  conditions = conditions-read a k i;
  mode_effects = mode_effects_of a;
  effects = (effects-are (effects_of a) s ∙ ap one_or_none (h s)) i;
}) (actions-read parts ks hs ss)

module _ (file : List ℕ) (t : SourceTask) (e : read_source file ≡ given t) (h : All Single t.actions) (k : NoSum (commands_of source_limits file)) where
  abbrev cs : List Command
  cs = commands_of source_limits file

  -- its task is the one that document 01 reads
  pub task-read : t ≡ task_of_one cs
  task-read = let (w, is) = taken-from source_limits file (source_task_of cs) t e in sym is ∙ (λ i. record {
    variables = variables_of cs;
    modes = modes_of cs;
    actions = actions-read (actions_of cs) (parts_none letter_a cs k) (parts-read source_limits letter_a cs begin k w)
        (subst (λ (u : SourceTask). All Single u.actions) (sym is) h) i;
    goal_modes = mode_conditions_of (goal_of cs);
    goal_conditions = conditions-read (goal_of cs) (first-none (parts_at letter_g cs) (parts_none letter_g cs k)) i;
  })

  -- it has no sum
  no-sum-read : sums_of_source t ≡ []
  no-sum-read = let (w, is) = taken-from source_limits file (source_task_of cs) t e in
      subst (λ (u : SourceTask). sums_of_source u ≡ []) is (is-empty (sums_of_source (source_task_of cs)) (omega (arith, task-sums cs, none-counted cs k)))

  -- "tasks without a multiple effect keep their lowered bytes", from the file on
  pub lowered-as-document-01 : lower_bytes file ≡ given (encode_file (lower_task_of_one (task_of_one cs)))
  lowered-as-document-01 = lowered-file-kept file t e h no-sum-read ∙ ap (λ (u : SourceTask). given (encode_file (lower_task_of_one u))) task-read
