-- From the first A or G of an accepted file on nothing is declared, and every action and the goal keep to the rules: one law over the limits, by induction
-- over the commands.
-- Assumes nothing.
use mathlib.Core.Path.{◌≡◌, refl, sym, ◌∙◌, subst}
use Prim.Native.Nat.{ℕ, ◌+◌, ◌≤◌, ◌<◌}
use native.Mathlib.Omega.{arith}
use mathlib.Core.Bool.{Bool, true, false, cond}
use mathlib.Core.List.{List, [], ◌∷◌, map}
use lib.ListN.{length}
use lib.Dec.{eqb, eqb→eq, leb, leb→le}
use lib.IntN.{ℤ}
use Rattle.integers.specs.All.{All}
use Rattle.commands.specs.declared.Command.{Command}
use Rattle.commands.specs.declared.Command.TheVariants.{Variable, Start, Mode, Action, Condition, ModeCondition, ModeEffect, Add, Linear, Term, Quotient}
use Rattle.commands.specs.declared.Command.TheVariants.{Residue, Goal, End, Sum, Refused}
use Rattle.commands.specs.Table.{letter_v, letter_u, letter_m, letter_a, letter_g}
use Rattle.commands.specs.Encoding.{byte_of}
use Rattle.model.specs.Limits.{Limits}
use Rattle.model.specs.ReadingState.{ReadingState, Going, opened}
use Rattle.model.specs.Rules.{tests_of, next_of, rule_of}
use Rattle.model.specs.Trail.{Trail}
use Rattle.model.specs.Decoding.{up_to, actions_of, goal_of, variables_of, starts_of, modes_of}
use Rattle.model.specs.Tasks.{SourceVariable}
use Rattle.model.proofs.ReadingLaws.{clash, holds, over, Off, end-never-goes}
use Rattle.model.proofs.CommandFacts.{section-after, actions-after, taken}
use Rattle.model.proofs.CommandsOk.{PartConditionsOk, PartOk, PartFrom, Counted, Carries, opened-counted, nothing-follows, conditions-whole, part-whole}
use Rattle.model.proofs.CommandsOk.{condition-carries, sum_carries, mode-condition-carries, mode-effect-carries, add-carries, linear-carries}
use Rattle.model.proofs.CommandsOk.{term-carries, quotient-carries, residue-carries}

-- ---- bytes that stand in files of one kind
pub source-only : (r b : Bool) → cond r false b ≡ true → (r ≡ false) × (b ≡ true)
source-only true b e = absurd (clash (sym e))
source-only false b e = (refl, e)

pub restricted-only : (r b : Bool) → cond r b false ≡ true → (r ≡ true) × (b ≡ true)
restricted-only true b e = (refl, e)
restricted-only false b e = absurd (clash (sym e))

pub is-equal : (a b : ℕ) → eqb a b ≡ true → a ≡ b
is-equal a b e = eqb→eq a b (holds e)

-- from the first A or G on, `count` actions before: nothing is declared, and what is made is within the limits
pub record OthersOk (l : Limits) (n : ℕ) (sizes : List ℕ) (count : ℕ) (vs : List SourceVariable) (zs : List ℤ) (ms : List (ℕ × ℕ)) (acts : List (List Command))
    (goal : List Command) : Type 0 where
  pub no_variables : vs ≡ []
  pub no_starts : zs ≡ []
  pub no_modes : ms ≡ []
  pub actions_few : count + length acts ≤ l.actions
  pub actions_ok : All (PartOk l n sizes) acts
  pub goal_ok : PartConditionsOk l n sizes goal

-- neither a declaration nor an A or G
abbrev Inside : Command → Type 0
Inside c = map (eqb (byte_of c)) (letter_v ∷ letter_u ∷ letter_m ∷ letter_a ∷ letter_g ∷ []) ≡ false ∷ false ∷ false ∷ false ∷ false ∷ []

abbrev pub RestOk : Limits → ℕ → List ℕ → ReadingState → List Command → Type 0
RestOk l n sizes p d = OthersOk l n sizes p.actions (variables_of d) (starts_of d) (modes_of d) (actions_of d) (goal_of d) × PartFrom l n sizes p (up_to d)

module _ (l : Limits) where
  -- a command that goes on: its tests, and the state after it
  pub onward : (p : ReadingState) (c : Command) (cs : List Command) → (rule_of l p c).progress ≡ Going → Trail l (rule_of l p c).state cs
      → Off (tests_of l p c) × Trail l (next_of p c) cs
  onward p c cs g t = let (o, e) = taken l p c g in (o, subst (λ (q : ReadingState). Trail l q cs) e t)

  -- L, Q and R stand in an action, K in an action or the goal, both in a source file; T behind L, K or T
  pub in-action : (p : ReadingState) → cond l.restricted false (eqb p.section 2) ≡ true → p.section ≡ 2
  in-action p w = is-equal p.section 2 (source-only l.restricted (eqb p.section 2) w).1

  pub behind-action : (p : ReadingState) → cond l.restricted false (leb 2 p.section) ≡ true → (l.restricted ≡ false) × (2 ≤ p.section)
  behind-action p w = let (r, s) = source-only l.restricted (leb 2 p.section) w in (r, leb→le 2 p.section (holds s))

  pub after-linear : (p : ReadingState) → leb 1 p.terms ≡ true → 1 ≤ p.terms
  after-linear p w = leb→le 1 p.terms (holds w)

  module _ (n : ℕ) (sizes : List ℕ) (n-few : n ≤ 64) (m-few : length sizes ≤ 8) where
    -- a command of an action or the goal, of which is known what it carries
    inside-ok : (c : Command) (cs : List Command) (p : ReadingState) → Inside c → 2 ≤ p.section → Trail l p (c ∷ cs)
        → (Off (tests_of l p c) → Carries l n sizes p c)
        → ((q : ReadingState) → Counted l n sizes q → 2 ≤ q.section → Trail l q cs → RestOk l n sizes q cs)
        → RestOk l n sizes p (c ∷ cs)
    inside-ok c cs p h s (w, g, t) carries more =
        let v : eqb (byte_of c) letter_v ≡ false = cc in
        let u : eqb (byte_of c) letter_u ≡ false = cc in
        let m : eqb (byte_of c) letter_m ≡ false = cc in
        let a : eqb (byte_of c) letter_a ≡ false = cc in
        let e : eqb (byte_of c) letter_g ≡ false = cc in
        let (o, t') = onward p c cs g t in
        let (j, f) = carries o in
        let same : (next_of p c).section ≡ p.section = section-after p c ∙ rw (e, a) refl in
        let count : (next_of p c).actions ≡ p.actions = actions-after p c ∙ rw a refl in
        let (others, rest) = more (next_of p c) j (omega (arith, s, same)) t' in
        rw (v, u, m, a, e) (
          subst (λ (z : ℕ). OthersOk l n sizes z (variables_of cs) (starts_of cs) (modes_of cs) (actions_of cs) (goal_of cs)) count others,
          f (up_to cs) rest,
        )

    -- THE LAW from the first A or G on
    pub rest_ok : (cs : List Command) (p : ReadingState) → Counted l n sizes p → 2 ≤ p.section → Trail l p cs → RestOk l n sizes p cs
    unfolding tests_of next_of
    rest_ok [] p i s t = (
      record {
        no_variables = refl;
        no_starts = refl;
        no_modes = refl;
        actions_few = omega (arith, i.actions);
        actions_ok = tt;
        goal_ok = record {
          restricted = record { mode_conditions_few = omega arith; mode_conditions_in = tt; conditions_few = omega arith; conditions_in = tt };
          source = record { mode_conditions_few = omega arith; mode_conditions_in = tt; conditions_few = omega arith; conditions_in = tt };
        };
      },
      nothing-follows l n sizes p i,
    )
    rest_ok (Variable a b c ∷ cs) p i s (w, g, t) = absurd (omega (arith, s, is-equal p.section 0 (source-only l.restricted (eqb p.section 0) w).1))
    rest_ok (Start a ∷ cs) p i s (w, g, t) = absurd (omega (arith, s, is-equal p.section 0 (restricted-only l.restricted (eqb p.section 0) w).1))
    rest_ok (Mode z x ∷ cs) p i s (w, g, t) = absurd (omega (arith, s, is-equal p.section 0 w))
    rest_ok (Action ∷ cs) p i s (w, g, t) =
        let (o, t') = onward p Action cs g t in
        let h : p.actions < l.actions = over l.actions p.actions o.0 in
        let (r, c) = rest_ok cs (opened p 2 (p.actions + 1)) (opened-counted l n sizes p 2 (p.actions + 1) i.core (omega (arith, h))) (omega arith) t' in (
          record {
            no_variables = r.no_variables;
            no_starts = r.no_starts;
            no_modes = r.no_modes;
            actions_few = omega (arith, r.actions_few);
            actions_ok = (part-whole l n sizes p 2 (p.actions + 1) (up_to cs) c, r.actions_ok);
            goal_ok = r.goal_ok;
          },
          nothing-follows l n sizes p i,
        )
    rest_ok (Condition v r k ∷ cs) p i s h = inside-ok (Condition v r k) cs p refl s h (condition-carries l n sizes p v r k i) (rest_ok cs)
    rest_ok (ModeCondition m x ∷ cs) p i s h = inside-ok (ModeCondition m x) cs p refl s h (mode-condition-carries l n sizes p m x i) (rest_ok cs)
    rest_ok (ModeEffect m x ∷ cs) p i s h = inside-ok (ModeEffect m x) cs p refl s h (mode-effect-carries l n sizes m-few p m x i) (rest_ok cs)
    rest_ok (Add v k ∷ cs) p i s h = inside-ok (Add v k) cs p refl s h (add-carries l n sizes n-few p v k i) (rest_ok cs)
    rest_ok (Linear v k ∷ cs) p i s h = inside-ok (Linear v k) cs p refl s h (linear-carries l n sizes n-few p v k i) (rest_ok cs)
    rest_ok (Term v k ∷ cs) p i s h = inside-ok (Term v k) cs p refl s h (term-carries l n sizes n-few p v k i (after-linear p h.0)) (rest_ok cs)
    rest_ok (Quotient v y k ∷ cs) p i s h = inside-ok (Quotient v y k) cs p refl s h (quotient-carries l n sizes n-few p v y k i) (rest_ok cs)
    rest_ok (Residue v y k ∷ cs) p i s h = inside-ok (Residue v y k) cs p refl s h (residue-carries l n sizes n-few p v y k i) (rest_ok cs)
    rest_ok (Sum r k ∷ cs) p i s h = inside-ok (Sum r k) cs p refl s h (sum_carries l n sizes p r k i (behind-action p h.0).0) (rest_ok cs)
    rest_ok (Goal ∷ cs) p i s (w, g, t) =
        let (o, t') = onward p Goal cs g t in
        let (r, c) = rest_ok cs (opened p 3 p.actions) (opened-counted l n sizes p 3 p.actions i.core i.actions) (omega arith) t' in (
          record {
            no_variables = r.no_variables;
            no_starts = r.no_starts;
            no_modes = r.no_modes;
            actions_few = r.actions_few;
            actions_ok = r.actions_ok;
            goal_ok = conditions-whole l n sizes p 3 p.actions (up_to cs) c;
          },
          nothing-follows l n sizes p i,
        )
    rest_ok (End ∷ cs) p i s (w, g, t) = absurd (end-never-goes l p g)
    rest_ok (Refused number ∷ cs) p i s (w, g, t) = absurd (clash (sym w))
