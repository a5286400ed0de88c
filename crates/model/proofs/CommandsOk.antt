-- What the commands of an action or goal are held to in an accepted file of either kind, one law a command: if what follows it is as the state after it asks,
-- then so is what begins with it, as the state before it asks.
-- Assumes nothing.
use mathlib.Core.Path.{◌≡◌, refl, ◌∙◌}
use Prim.Native.Nat.{ℕ, zero, suc, ◌+◌, ◌≤◌, ◌<◌}
use native.Mathlib.Omega.{arith}
use mathlib.Core.Bool.{false}
use mathlib.Core.List.{List, [], ◌∷◌}
use lib.ListN.{length, length-append, length-set, get_or, set}
use lib.Dec.{eqb, leb}
use lib.IntN.{ℤ, nat_abs}
use Rattle.integers.specs.All.{All}
use Rattle.integers.proofs.All.{all_app}
use Rattle.integers.specs.Relation.{relation_of, relation_number}
use Rattle.commands.specs.declared.Command.{Command}
use Rattle.commands.specs.declared.Command.TheVariants.{Condition, ModeCondition, ModeEffect, Add, Linear, Term, Quotient, Residue, Sum}
use Rattle.model.specs.Tasks.{variable, weighted_sum, NumericCondition, Effect}
use Rattle.model.specs.Steps.{natural_at, target}
use Rattle.model.specs.InTask.{targets}
use Rattle.model.specs.Limits.{Limits}
use Rattle.model.specs.ReadingState.{ReadingState, opened, with_numeric_effect}
use Rattle.model.specs.Rules.{tests_of, next_of, constant, outside, no_variable, no_mode, no_room, already_target, not_below_size}
use Rattle.model.specs.Decoding.{conditions_of, sum_conditions_of, source_conditions_of, mode_conditions_of, mode_effects_of, additions_of, terms_of, effects_of}
use Rattle.model.specs.TaskOk.{Distinct, keys, ValuesIn, InRange, Factor, AmountOk, ConditionOk, ConditionsOk, TermsOk, EffectOk}
use Rattle.model.proofs.ReadingLaws.{over, up-to, not-zero, Off, Core, Free, unset}

-- the conditions of an action or goal: its C's, as a restricted task has them; its C's and K's, as a source task has them
pub record PartConditionsOk (l : Limits) (n : ℕ) (sizes : List ℕ) (a : List Command) : Type 0 where
  pub restricted : ConditionsOk l n sizes (mode_conditions_of a) (conditions_of a)
  pub source : ConditionsOk l n sizes (mode_conditions_of a) (source_conditions_of a)

-- the commands of an action, in a task with n variables and modes of the sizes: the effects are read of it in a source file, the additions in a restricted one
pub record PartOk (l : Limits) (n : ℕ) (sizes : List ℕ) (a : List Command) : Type 0 where
  pub conditions_ok : PartConditionsOk l n sizes a
  pub mode_effects_in : ValuesIn sizes (mode_effects_of a)
  pub mode_effects_once : Distinct (keys (mode_effects_of a))
  pub effects_few : length (effects_of a) ≤ l.numeric_effects
  pub effects_ok : All (EffectOk l n) (effects_of a)
  pub targets_once : Distinct (targets (effects_of a))
  pub additions_few : length (additions_of a) ≤ l.numeric_effects
  pub additions_in : All (AmountOk l n) (additions_of a)
  pub additions_once : Distinct (keys (additions_of a))

-- a number within the largest relation names a relation within it
relation-within : (r m : ℕ) → r ≤ m → relation_number (relation_of r) ≤ m
relation-within zero m h = omega arith
relation-within (suc zero) m h = h
relation-within (suc (suc zero)) m h = h
relation-within (suc (suc (suc zero))) m h = h
relation-within (suc (suc (suc (suc n)))) m h = omega (arith, h)

unmarked : (z : ℕ) → leb 1 z ≡ false → z ≡ 0
unmarked z e = omega (arith, over 1 z e)

module _ (l : Limits) (n : ℕ) (sizes : List ℕ) where
  -- ---- what is asked of what stands from a place on, by what the state has counted up to there
  abbrev pub ModeConditionsFrom : ℕ → List (ℕ × ℕ) → Type 0
  ModeConditionsFrom k ps = (k + length ps ≤ l.mode_conditions) × ValuesIn sizes ps

  -- C's and K's, counted together
  pub record ConditionsFrom (k : ℕ) (cs sums : List (NumericCondition ℕ)) : Type 0 where
    pub conditions_few : k + (length cs + length sums) ≤ l.conditions
    pub conditions_in : All (ConditionOk l n) cs
    pub sums_ok : All (ConditionOk l n) sums

  abbrev pub ModeEffectsFrom : List ℕ → List (ℕ × ℕ) → Type 0
  ModeEffectsFrom marks es = ValuesIn sizes es × Distinct (keys es) × Free marks (keys es)

  -- numeric effects, and among them the +: counted, and their targets marked
  pub record EffectsFrom (effects : ℕ) (seen : List ℕ) (es : List Effect) (adds : List (ℕ × ℤ)) : Type 0 where
    pub effects_ok : All (EffectOk l n) es
    pub effects_few : effects + length es ≤ l.numeric_effects
    pub targets_once : Distinct (targets es)
    pub targets_free : Free seen (targets es)
    pub additions_in : All (AmountOk l n) adds
    pub additions_few : effects + length adds ≤ l.numeric_effects
    pub additions_once : Distinct (keys adds)
    pub additions_free : Free seen (keys adds)

  -- T's that follow directly
  pub record TermsFrom (terms : ℕ) (seen : List ℕ) (ts : List (ℕ × ℤ)) : Type 0 where
    pub terms_ok : TermsOk l n ts
    pub terms_free : Free seen (keys ts)
    pub terms_few : terms + length ts ≤ suc l.terms

  abbrev pub PartFrom : ReadingState → List Command → Type 0
  PartFrom p a = ModeConditionsFrom p.counts.mode_conditions (mode_conditions_of a)
      × ConditionsFrom p.counts.conditions (conditions_of a) (sum_conditions_of a)
      × ModeEffectsFrom p.marks.modes_set (mode_effects_of a)
      × EffectsFrom p.counts.numeric_effects p.marks.targets_seen (effects_of a) (additions_of a) × TermsFrom p.terms p.marks.terms_seen (terms_of a)

  -- ---- what holds of every state from the first A or G on
  pub record Counted (p : ReadingState) : Type 0 where
    pub core : Core n sizes p
    pub actions : p.actions ≤ l.actions
    pub mode_conditions : p.counts.mode_conditions ≤ l.mode_conditions
    pub conditions : p.counts.conditions ≤ l.conditions
    pub effects : p.counts.numeric_effects ≤ l.numeric_effects
    pub terms : p.terms ≤ suc l.terms
    pub mode_marks : length p.marks.modes_set ≡ 8
    pub target_marks : length p.marks.targets_seen ≡ 64
    pub term_marks : length p.marks.terms_seen ≡ 64

  pub opened-counted : (p : ReadingState) (s a : ℕ) → Core n sizes p → a ≤ l.actions → Counted (opened p s a)
  opened-counted p s a c h = record {
    core = c;
    actions = h;
    mode_conditions = omega arith;
    conditions = omega arith;
    effects = omega arith;
    terms = omega arith;
    mode_marks = refl;
    target_marks = refl;
    term_marks = refl;
  }

  -- a command other than T is followed by no T of an effect before it
  no-terms : (p : ReadingState) → Counted p → TermsFrom p.terms p.marks.terms_seen []
  no-terms p i = record { terms_ok = (tt, tt); terms_free = tt; terms_few = omega (arith, i.terms) }

  pub nothing-follows : (p : ReadingState) → Counted p → PartFrom p []
  nothing-follows p i = (
    (omega (arith, i.mode_conditions), tt),
    record { conditions_few = omega (arith, i.conditions); conditions_in = tt; sums_ok = tt },
    (tt, tt, tt),
    record {
      effects_ok = tt;
      effects_few = omega (arith, i.effects);
      targets_once = tt;
      targets_free = tt;
      additions_in = tt;
      additions_few = omega (arith, i.effects);
      additions_once = tt;
      additions_free = tt;
    },
    no-terms p i,
  )

  pub conditions-whole : (p : ReadingState) (s k : ℕ) (a : List Command) → PartFrom (opened p s k) a
      → PartConditionsOk l n sizes a
  conditions-whole p s k a (ps, cs, es, nu, ts) = record {
    restricted = record {
      mode_conditions_few = omega (arith, ps.0);
      mode_conditions_in = ps.1;
      conditions_few = omega (arith, cs.conditions_few);
      conditions_in = cs.conditions_in;
    };
    source = record {
      mode_conditions_few = omega (arith, ps.0);
      mode_conditions_in = ps.1;
      conditions_few = omega (arith, cs.conditions_few, length-append (conditions_of a) (sum_conditions_of a));
      conditions_in = all_app (ConditionOk l n) (conditions_of a) (sum_conditions_of a) cs.conditions_in cs.sums_ok;
    };
  }

  pub part-whole : (p : ReadingState) (s k : ℕ) (a : List Command) → PartFrom (opened p s k) a → PartOk l n sizes a
  part-whole p s k a f = let (ps, cs, es, nu, ts) = f in record {
    conditions_ok = conditions-whole p s k a f;
    mode_effects_in = es.0;
    mode_effects_once = es.1;
    effects_few = omega (arith, nu.effects_few);
    effects_ok = nu.effects_ok;
    targets_once = nu.targets_once;
    additions_few = omega (arith, nu.additions_few);
    additions_in = nu.additions_in;
    additions_once = nu.additions_once;
  }

  -- ---- references and constants that pass their tests
  variable-there : (p : ReadingState) (v : ℕ) → Counted p → no_variable p v ≡ false → v < n
  variable-there p v i e = omega (arith, over p.declared.variables v e, i.core.variables)

  value_there : (p : ReadingState) (m x : ℕ) → Counted p → no_mode p m ≡ false → not_below_size p m x ≡ false → (m < length sizes) × (x < natural_at sizes m)
  value_there p m x i e f =
      (omega (arith, over p.declared.modes m e, i.core.mods), omega (arith, over (natural_at p.declared.sizes m) x f, i.core.sized m))

  constant-in : (k : ℕ) → outside l (constant k) ≡ false → InRange l (constant k)
  constant-in k e = up-to l.constant (nat_abs (constant k)) e

  factor : (k : ℕ) → eqb (nat_abs (constant k)) 0 ≡ false → outside l (constant k) ≡ false → Factor l (constant k)
  factor k z e = (not-zero (nat_abs (constant k)) z, constant-in k e)

  -- ---- one command of an action or the goal: the state after it, and what stands from it on. There are marks for 8 modes and 64 variables
  abbrev pub Carries : ReadingState → Command → Type 0
  Carries p c = Counted (next_of p c) × ((a : List Command) → PartFrom (next_of p c) a → PartFrom p (c ∷ a))

  pub condition-carries : (p : ReadingState) (v r k : ℕ) → Counted p → Off (tests_of l p (Condition v r k)) → Carries p (Condition v r k)
  unfolding tests_of next_of
  condition-carries p v r k i (a, (b, (c, (e, t)))) = (
    record {
      core = i.core;
      actions = i.actions;
      mode_conditions = i.mode_conditions;
      conditions = omega (arith, over l.conditions p.counts.conditions a);
      effects = i.effects;
      terms = omega arith;
      mode_marks = i.mode_marks;
      target_marks = i.target_marks;
      term_marks = i.term_marks;
    },
    λ x R. let (ps, cs, es, nu, ts) = R in
        let ok : ConditionOk l n (record { measured = variable v; relation = relation_of r; constant = constant k }) = record {
          measures = (variable-there p v i b, constant-in k e);
          known = relation-within r l.relations (up-to l.relations r c);
        } in (
          ps,
          record { conditions_few = omega (arith, cs.conditions_few); conditions_in = (ok, cs.conditions_in); sums_ok = cs.sums_ok },
          es,
          nu,
          no-terms p i,
        ),
  )

  pub sum_carries : (p : ReadingState) (r k : ℕ) → Counted p → l.restricted ≡ false → Off (tests_of l p (Sum r k)) → Carries p (Sum r k)
  unfolding tests_of next_of
  sum_carries p r k i s (a, (b, (c, (e, t)))) = (
    record {
      core = i.core;
      actions = i.actions;
      mode_conditions = i.mode_conditions;
      conditions = omega (arith, over l.conditions p.counts.conditions a);
      effects = i.effects;
      terms = omega arith;
      mode_marks = i.mode_marks;
      target_marks = i.target_marks;
      term_marks = refl;
    },
    λ x R. let (ps, cs, es, nu, ts) = R in
        let ok : ConditionOk l n (record { measured = weighted_sum (terms_of x); relation = relation_of r; constant = constant k }) = record {
          measures = (s, omega (arith, ts.terms_few), ts.terms_ok, up-to l.sum_constant (nat_abs (constant k)) e);
          known = relation-within r l.relations (up-to l.relations r c);
        } in (
          ps,
          record { conditions_few = omega (arith, cs.conditions_few); conditions_in = cs.conditions_in; sums_ok = (ok, cs.sums_ok) },
          es,
          nu,
          no-terms p i,
        ),
  )

  pub mode-condition-carries : (p : ReadingState) (m x : ℕ) → Counted p → Off (tests_of l p (ModeCondition m x)) → Carries p (ModeCondition m x)
  unfolding tests_of next_of
  mode-condition-carries p m x i (a, (b, (c, t))) = (
    record {
      core = i.core;
      actions = i.actions;
      mode_conditions = omega (arith, over l.mode_conditions p.counts.mode_conditions a);
      conditions = i.conditions;
      effects = i.effects;
      terms = omega arith;
      mode_marks = i.mode_marks;
      target_marks = i.target_marks;
      term_marks = i.term_marks;
    },
    λ y R. let (ps, cs, es, nu, ts) = R in ((omega (arith, ps.0), (value_there p m x i b c, ps.1)), cs, es, nu, no-terms p i),
  )

  pub mode-effect-carries : length sizes ≤ 8 → (p : ReadingState) (m x : ℕ) → Counted p → Off (tests_of l p (ModeEffect m x)) → Carries p (ModeEffect m x)
  unfolding tests_of next_of
  mode-effect-carries m-few p m x i (b, (c, (a, t))) = (
    record {
      core = i.core;
      actions = i.actions;
      mode_conditions = i.mode_conditions;
      conditions = i.conditions;
      effects = i.effects;
      terms = omega arith;
      mode_marks = length-set p.marks.modes_set m 1 ∙ i.mode_marks;
      target_marks = i.target_marks;
      term_marks = i.term_marks;
    },
    λ y R. let (ps, cs, es, nu, ts) = R in
        let v : (m < length sizes) × (x < natural_at sizes m) = value_there p m x i b c in
        let u : Free p.marks.modes_set (keys (mode_effects_of y)) × All (λ (j : ℕ). eqb j m ≡ false) (keys (mode_effects_of y)) =
        unset p.marks.modes_set m (omega (arith, v.0, m-few, i.mode_marks)) (keys (mode_effects_of y)) es.2 in
        (ps, cs, ((v, es.0), (u.1, es.1), (unmarked (get_or p.marks.modes_set m 0) a, u.0)), nu, no-terms p i),
  )

  pub term-carries : n ≤ 64 → (p : ReadingState) (v k : ℕ) → Counted p → 1 ≤ p.terms → Off (tests_of l p (Term v k)) → Carries p (Term v k)
  unfolding tests_of next_of
  term-carries n-few p v k i o (f, (b, (z, (e, (a, t))))) = (
    record {
      core = i.core;
      actions = i.actions;
      mode_conditions = i.mode_conditions;
      conditions = i.conditions;
      effects = i.effects;
      terms = omega (arith, up-to l.terms p.terms f);
      mode_marks = i.mode_marks;
      target_marks = i.target_marks;
      term_marks = length-set p.marks.terms_seen v 1 ∙ i.term_marks;
    },
    λ y R. let (ps, cs, es, nu, ts) = R in
        let there : v < n = variable-there p v i b in
        let u : Free p.marks.terms_seen (keys (terms_of y)) × All (λ (j : ℕ). eqb j v ≡ false) (keys (terms_of y)) =
        unset p.marks.terms_seen v (omega (arith, there, n-few, i.term_marks)) (keys (terms_of y)) ts.terms_free in (
          ps,
          cs,
          es,
          nu,
          record {
            terms_ok = (((there, factor k z e), ts.terms_ok.0), (u.1, ts.terms_ok.1));
            terms_free = (unmarked (get_or p.marks.terms_seen v 0) a, u.0);
            terms_few = omega (arith, ts.terms_few);
          },
        ),
  )

  -- ---- a numeric effect on variable t, with or without T's to follow
  effect-counted : (p : ReadingState) (t terms : ℕ) → Counted p → no_room l p ≡ false → terms ≤ 1 → Counted (with_numeric_effect p t terms)
  effect-counted p t terms i r h = record {
    core = i.core;
    actions = i.actions;
    mode_conditions = i.mode_conditions;
    conditions = i.conditions;
    effects = omega (arith, over l.numeric_effects p.counts.numeric_effects r);
    terms = omega (arith, h);
    mode_marks = i.mode_marks;
    target_marks = length-set p.marks.targets_seen t 1 ∙ i.target_marks;
    term_marks = refl;
  }

  effect-from : n ≤ 64 → (p : ReadingState) (t : ℕ) {e : Effect} {es : List Effect} {adds : List (ℕ × ℤ)}
      → Counted p → t < n → target e ≡ t → already_target p t ≡ false → EffectOk l n e
      → EffectsFrom (p.counts.numeric_effects + 1) (set p.marks.targets_seen t 1) es adds
      → EffectsFrom p.counts.numeric_effects p.marks.targets_seen (e ∷ es) adds
  effect-from n-few p t {e} {es} {adds} i there w a ok nu = record {
    effects_ok = (ok, nu.effects_ok);
    effects_few = omega (arith, nu.effects_few);
    targets_once = (rw w (free (targets es) nu.targets_free).1, nu.targets_once);
    targets_free = (rw w (unmarked (get_or p.marks.targets_seen t 0) a), (free (targets es) nu.targets_free).0);
    additions_in = nu.additions_in;
    additions_few = omega (arith, nu.additions_few);
    additions_once = nu.additions_once;
    additions_free = (free (keys adds) nu.additions_free).0;
  }
    where
      free : (ks : List ℕ) → Free (set p.marks.targets_seen t 1) ks → Free p.marks.targets_seen ks × All (λ (j : ℕ). eqb j t ≡ false) ks
      free = unset p.marks.targets_seen t (omega (arith, there, n-few, i.target_marks))

  pub add-carries : n ≤ 64 → (p : ReadingState) (v k : ℕ) → Counted p → Off (tests_of l p (Add v k)) → Carries p (Add v k)
  unfolding tests_of next_of
  add-carries n-few p v k i (f, (b, (z, (e, (a, t))))) = (
    effect-counted p v 0 i f (omega arith),
    λ y R. let (ps, cs, es, nu, ts) = R in
        let there : v < n = variable-there p v i b in
        let u : Free p.marks.targets_seen (keys (additions_of y)) × All (λ (j : ℕ). eqb j v ≡ false) (keys (additions_of y)) =
        unset p.marks.targets_seen v (omega (arith, there, n-few, i.target_marks)) (keys (additions_of y)) nu.additions_free in
        let o : EffectsFrom p.counts.numeric_effects p.marks.targets_seen (effects_of (Add v k ∷ y)) (additions_of y) =
        effect-from n-few p v i there refl a (there, factor k z e) nu in (
          ps,
          cs,
          es,
          record {
            effects_ok = o.effects_ok;
            effects_few = o.effects_few;
            targets_once = o.targets_once;
            targets_free = o.targets_free;
            additions_in = ((there, factor k z e), nu.additions_in);
            additions_few = omega (arith, nu.additions_few);
            additions_once = (u.1, nu.additions_once);
            additions_free = (unmarked (get_or p.marks.targets_seen v 0) a, u.0);
          },
          no-terms p i,
        ),
  )

  pub linear-carries : n ≤ 64 → (p : ReadingState) (v k : ℕ) → Counted p → Off (tests_of l p (Linear v k)) → Carries p (Linear v k)
  unfolding tests_of next_of
  linear-carries n-few p v k i (f, (b, (e, (a, t)))) = (
    effect-counted p v 1 i f (omega arith),
    λ y R. let (ps, cs, es, nu, ts) = R in (
      ps,
      cs,
      es,
      effect-from n-few p v i (variable-there p v i b) refl a (variable-there p v i b, constant-in k e, omega (arith, ts.terms_few), ts.terms_ok) nu,
      no-terms p i,
    ),
  )

  pub quotient-carries : n ≤ 64 → (p : ReadingState) (v y k : ℕ) → Counted p → Off (tests_of l p (Quotient v y k)) → Carries p (Quotient v y k)
  unfolding tests_of next_of
  quotient-carries n-few p v y k i (f, (b, (b', (z, (e, (a, t)))))) = (
    effect-counted p v 0 i f (omega arith),
    λ x R. let (ps, cs, es, nu, ts) = R in
        (ps, cs, es, effect-from n-few p v i (variable-there p v i b) refl a (variable-there p v i b, variable-there p y i b', factor k z e) nu, no-terms p i),
  )

  pub residue-carries : n ≤ 64 → (p : ReadingState) (v y k : ℕ) → Counted p → Off (tests_of l p (Residue v y k)) → Carries p (Residue v y k)
  unfolding tests_of next_of
  residue-carries n-few p v y k i (f, (b, (b', (z, (e, (a, t)))))) = (
    effect-counted p v 0 i f (omega arith),
    λ x R. let (ps, cs, es, nu, ts) = R in
        (ps, cs, es, effect-from n-few p v i (variable-there p v i b) refl a (variable-there p v i b, variable-there p y i b', factor k z e) nu, no-terms p i),
  )
