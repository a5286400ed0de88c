-- An accepted file's task keeps to every rule of its kind: one law over the limits, by induction over the file's commands, and what it gives for each kind.
-- Assumes nothing.
use mathlib.Core.Path.{◌≡◌, refl, sym, ap, ◌∙◌, subst}
use Prim.Native.Nat.{ℕ, ◌+◌, ◌≤◌, ◌<◌}
use native.Mathlib.Omega.{arith}
use mathlib.Core.Bool.{Bool, true, false, not}
use mathlib.Core.List.{List, [], ◌∷◌, ◌++◌, append_assoc, append-nil}
use lib.ListN.{length, length-append, length-map}
use lib.Dec.{T, eqb, leb→le}
use lib.Signed.{le_z}
use lib.IntN.{nat_abs}
use Rattle.integers.specs.All.{All}
use Rattle.integers.proofs.All.{all_of_map}
use Rattle.commands.specs.declared.Command.{Command}
use Rattle.commands.specs.declared.Command.TheVariants.{Variable, Start, Mode, Action, Condition, ModeCondition, ModeEffect, Add, Linear, Term, Quotient}
use Rattle.commands.specs.declared.Command.TheVariants.{Residue, Goal, End, Sum, Refused}
use Rattle.answers.specs.Answer.{given}
use Rattle.model.specs.Limits.{Limits, source_limits, restricted_limits}
use Rattle.model.specs.ReadingState.{ReadingState, begin, opened, with_variable, with_mode}
use Rattle.model.specs.Rules.{tests_of, next_of, constant}
use Rattle.model.specs.Reading.{Verdict, Accepted, Rejected, verdict_of, commands_of}
use Rattle.model.specs.Trail.{Trail}
use Rattle.model.specs.Decoding.{up_to, actions_of, goal_of, variables_of, starts_of, modes_of, source_action_of}
use Rattle.model.specs.Decoding.{restricted_action_of, source_task_of, restricted_task_of, on_verdict, read_source, read_restricted}
use Rattle.model.specs.Tasks.{SourceTask, RestrictedTask}
use Rattle.model.specs.TaskOk.{keys, InRange, ModeOk, SourceVariableOk, SourceActionOk, SourceTaskOk, RestrictedActionOk, RestrictedTaskOk}
use Rattle.model.specs.Steps.{sizes_of}
use Rattle.model.proofs.ReadingLaws.{clash, holds, over, up-to, end-never-goes, Core, core-mode, zeros, length-keys}
use Rattle.model.proofs.CommandsOk.{PartConditionsOk, PartOk, opened-counted, conditions-whole, part-whole}
use Rattle.model.proofs.ActionsOk.{source-only, restricted-only, is-equal, onward, in-action, behind-action, after-linear, rest_ok}
use Rattle.model.proofs.SumsAccepted.{sums-few}
use Rattle.model.proofs.AcceptedTrail.{Is, accepted-trail}

-- what the commands of an accepted file make, in a task with n variables and modes of the sizes: V declares variables in a source file, U in a restricted one
pub record MadeOk (l : Limits) (n : ℕ) (sizes : List ℕ) (d : List Command) : Type 0 where
  pub variables_few : n ≤ l.variables
  pub variables_in : All (SourceVariableOk l) (variables_of d)
  pub starts_in : All (InRange l) (starts_of d)
  pub no_variables : l.restricted ≡ true → variables_of d ≡ []
  pub no_starts : l.restricted ≡ false → starts_of d ≡ []
  pub modes_few : length sizes ≤ l.modes
  pub modes_in : All (ModeOk l) (modes_of d)
  pub actions_few : length (actions_of d) ≤ l.actions
  pub actions_ok : All (PartOk l n sizes) (actions_of d)
  pub goal : PartConditionsOk l n sizes (goal_of d)

abbrev pub variable_count : List Command → ℕ
variable_count d = length (variables_of d) + length (starts_of d)

not-not : (a : Bool) → not a ≡ false → T a
not-not true e = tt
not-not false e = absurd (clash e)

module _ (l : Limits) (variables-64 : l.variables ≤ 64) (modes-8 : l.modes ≤ 8) where
  -- ---- declarations
  -- what holds of every state up to the first A or G, with modes of the sizes known
  record Declaring (known : List ℕ) (p : ReadingState) : Type 0 where
    core : Core p.declared.variables known p
    section : p.section ≡ 0
    terms : p.terms ≡ 0
    actions : p.actions ≡ 0
    variables_few : p.declared.variables ≤ l.variables
    modes_few : length known ≤ l.modes

  -- the task's variables and modes are those known and those that follow
  record FromHere (count : ℕ) (known : List ℕ) (d : List Command) : Type 0 where
    n : ℕ
    sizes : List ℕ
    variables : n ≡ count + variable_count d
    modes : sizes ≡ known ++ keys (modes_of d)
    made : MadeOk l n sizes d

  -- an A or G ends the declarations
  none-follow : (p : ReadingState) (known : List ℕ) (d : List Command) → Declaring known p → variables_of d ≡ [] → starts_of d ≡ [] → modes_of d ≡ []
      → length (actions_of d) ≤ l.actions → All (PartOk l p.declared.variables known) (actions_of d)
      → PartConditionsOk l p.declared.variables known (goal_of d) → FromHere p.declared.variables known d
  none-follow p known d i v z m few acts goal = record {
    n = p.declared.variables;
    sizes = known;
    variables = omega (arith, ap length v, ap length z);
    modes = sym (append-nil known) ∙ ap (λ (ms : List (ℕ × ℕ)). known ++ keys ms) (sym m);
    made = record {
      variables_few = i.variables_few;
      variables_in = subst (All (SourceVariableOk l)) (sym v) tt;
      starts_in = subst (All (InRange l)) (sym z) tt;
      no_variables = λ r. v;
      no_starts = λ r. z;
      modes_few = i.modes_few;
      modes_in = subst (All (ModeOk l)) (sym m) tt;
      actions_few = few;
      actions_ok = acts;
      goal = goal;
    };
  }

  declaring : {known : List ℕ} {p : ReadingState} → Declaring known p → p.declared.variables < l.variables → Declaring known (with_variable p)
  declaring {known} {p} i h = record {
    core = record { variables = refl; mods = i.core.mods; lengths = i.core.lengths; sized = i.core.sized };
    section = i.section;
    terms = refl;
    actions = i.actions;
    variables_few = omega (arith, h);
    modes_few = i.modes_few;
  }

  from-here : (cs : List Command) (p : ReadingState) (known : List ℕ) → Declaring known p → Trail l p cs → FromHere p.declared.variables known cs
  unfolding tests_of next_of
  from-here [] p known i t = absurd (omega (arith, i.section, t.0))
  from-here (Variable a b c ∷ cs) p known i (w, g, t) =
      let (o, t') = onward l p (Variable a b c) cs g t in
      let F : FromHere (p.declared.variables + 1) known cs =
      from-here cs (with_variable p) known (declaring i (over l.variables p.declared.variables o.0)) t' in
      let D : MadeOk l F.n F.sizes cs = F.made in
      let s : l.restricted ≡ false = (source-only l.restricted (eqb p.section 0) w).0 in
      record {
        n = F.n;
        sizes = F.sizes;
        variables = omega (arith, F.variables);
        modes = F.modes;
        made = record {
          variables_few = D.variables_few;
          variables_in = (
            (
              up-to l.constant (nat_abs (constant a)) o.1.0,
              up-to l.constant (nat_abs (constant b)) o.1.1.0,
              not-not (le_z (constant a) (constant c)) o.1.1.1.1.0,
              not-not (le_z (constant c) (constant b)) o.1.1.1.1.1.0,
            ),
            D.variables_in,
          );
          starts_in = D.starts_in;
          no_variables = λ r. absurd (clash (sym r ∙ s));
          no_starts = D.no_starts;
          modes_few = D.modes_few;
          modes_in = D.modes_in;
          actions_few = D.actions_few;
          actions_ok = D.actions_ok;
          goal = D.goal;
        };
      }
  from-here (Start a ∷ cs) p known i (w, g, t) =
      let (o, t') = onward l p (Start a) cs g t in
      let F : FromHere (p.declared.variables + 1) known cs =
      from-here cs (with_variable p) known (declaring i (over l.variables p.declared.variables o.0)) t' in
      let D : MadeOk l F.n F.sizes cs = F.made in
      let s : l.restricted ≡ true = (restricted-only l.restricted (eqb p.section 0) w).0 in
      record {
        n = F.n;
        sizes = F.sizes;
        variables = omega (arith, F.variables);
        modes = F.modes;
        made = record {
          variables_few = D.variables_few;
          variables_in = D.variables_in;
          starts_in = (up-to l.constant (nat_abs (constant a)) o.1.0, D.starts_in);
          no_variables = D.no_variables;
          no_starts = λ r. absurd (clash (sym s ∙ r));
          modes_few = D.modes_few;
          modes_in = D.modes_in;
          actions_few = D.actions_few;
          actions_ok = D.actions_ok;
          goal = D.goal;
        };
      }
  from-here (Mode z x ∷ cs) p known i (w, g, t) =
      let (o, t') = onward l p (Mode z x) cs g t in
      let h : length known < l.modes = omega (arith, over l.modes p.declared.modes o.0, i.core.mods) in
      let F : FromHere p.declared.variables (known ++ (z ∷ [])) cs = from-here cs (with_mode p z) (known ++ (z ∷ [])) (record {
        core = core-mode p.declared.variables known p z (omega (arith, h, modes-8)) i.core;
        section = i.section;
        terms = refl;
        actions = i.actions;
        variables_few = i.variables_few;
        modes_few = omega (arith, h, length-append known (z ∷ []));
      }) t' in
      let D : MadeOk l F.n F.sizes cs = F.made in
      record {
        n = F.n;
        sizes = F.sizes;
        variables = F.variables;
        modes = F.modes ∙ append_assoc known (z ∷ []) (keys (modes_of cs));
        made = record {
          variables_few = D.variables_few;
          variables_in = D.variables_in;
          starts_in = D.starts_in;
          no_variables = D.no_variables;
          no_starts = D.no_starts;
          modes_few = D.modes_few;
          modes_in = ((over z x o.1.0, up-to l.size z o.1.1.0), D.modes_in);
          actions_few = D.actions_few;
          actions_ok = D.actions_ok;
          goal = D.goal;
        };
      }
  from-here (Action ∷ cs) p known i (w, g, t) =
      let (o, t') = onward l p Action cs g t in
      let h : p.actions < l.actions = over l.actions p.actions o.0 in
      let (r, c) = rest_ok l p.declared.variables known (omega (arith, i.variables_few, variables-64)) (omega (arith, i.modes_few, modes-8)) cs
      (opened p 2 (p.actions + 1)) (opened-counted l p.declared.variables known p 2 (p.actions + 1) i.core (omega (arith, h))) (omega arith) t' in
      none-follow p known (Action ∷ cs) i r.no_variables r.no_starts r.no_modes (omega (arith, r.actions_few))
      (part-whole l p.declared.variables known p 2 (p.actions + 1) (up_to cs) c, r.actions_ok) r.goal_ok
  from-here (Goal ∷ cs) p known i (w, g, t) =
      let (o, t') = onward l p Goal cs g t in
      let (r, c) = rest_ok l p.declared.variables known (omega (arith, i.variables_few, variables-64)) (omega (arith, i.modes_few, modes-8)) cs
      (opened p 3 p.actions) (opened-counted l p.declared.variables known p 3 p.actions i.core (omega (arith, i.actions))) (omega arith) t' in
      none-follow p known (Goal ∷ cs) i r.no_variables r.no_starts r.no_modes (omega (arith, r.actions_few)) r.actions_ok
      (conditions-whole l p.declared.variables known p 3 p.actions (up_to cs) c)
  from-here (Condition v r k ∷ cs) p known i (w, g, t) = absurd (omega (arith, i.section, leb→le 2 p.section (holds w)))
  from-here (ModeCondition m x ∷ cs) p known i (w, g, t) = absurd (omega (arith, i.section, leb→le 2 p.section (holds w)))
  from-here (ModeEffect m x ∷ cs) p known i (w, g, t) = absurd (omega (arith, i.section, is-equal p.section 2 w))
  from-here (Add v k ∷ cs) p known i (w, g, t) = absurd (omega (arith, i.section, is-equal p.section 2 w))
  from-here (Linear v k ∷ cs) p known i (w, g, t) = absurd (omega (arith, i.section, in-action l p w))
  from-here (Term v k ∷ cs) p known i (w, g, t) = absurd (omega (arith, i.terms, after-linear l p w))
  from-here (Quotient v y k ∷ cs) p known i (w, g, t) = absurd (omega (arith, i.section, in-action l p w))
  from-here (Residue v y k ∷ cs) p known i (w, g, t) = absurd (omega (arith, i.section, in-action l p w))
  from-here (Sum r k ∷ cs) p known i (w, g, t) = absurd (omega (arith, i.section, (behind-action l p w).1))
  from-here (End ∷ cs) p known i (w, g, t) = absurd (end-never-goes l p g)
  from-here (Refused number ∷ cs) p known i (w, g, t) = absurd (clash (sym w))

  -- THE LAW: what the commands of an accepted file make is within the limits, by as many variables and by the modes that it declares
  pub made_ok : (cs : List Command) → Trail l begin cs → MadeOk l (variable_count cs) (sizes_of (modes_of cs)) cs
  made_ok cs t = subst (λ (sizes : List ℕ). MadeOk l (variable_count cs) sizes cs) F.modes
      (subst (λ (n : ℕ). MadeOk l n F.sizes cs) (omega (arith, F.variables)) F.made)
    where
      F : FromHere 0 [] cs
      F = from-here cs begin [] (record {
        core = record { variables = refl; mods = refl; lengths = refl; sized = λ j. zeros 8 j };
        section = refl;
        terms = refl;
        actions = refl;
        variables_few = omega arith;
        modes_few = omega arith;
      }) t

-- ---- of either kind
-- the commands of an accepted source file give a task that keeps to the rules on source files
pub source_ok_lem : (cs : List Command) → Trail source_limits begin cs → SourceTaskOk (source_task_of cs)
source_ok_lem cs t = record {
  variables_few = D.variables_few;
  variables_in = D.variables_in;
  modes_few = omega (arith, D.modes_few, length-keys (modes_of cs));
  modes_in = D.modes_in;
  actions_few = omega (arith, D.actions_few, length-map (actions_of cs) source_action_of);
  actions_ok = all_of_map (PartOk source_limits (length (variables_of cs)) (sizes_of (modes_of cs)))
      (SourceActionOk source_limits (length (variables_of cs)) (sizes_of (modes_of cs))) source_action_of
      (λ a h. record {
        conditions_ok = h.conditions_ok.source;
        mode_effects_in = h.mode_effects_in;
        mode_effects_once = h.mode_effects_once;
        effects_few = h.effects_few;
        effects_ok = h.effects_ok;
        targets_once = h.targets_once;
      }) (actions_of cs) D.actions_ok;
  goal = D.goal.source;
  sums_few = sums-few source_limits cs t;
}
  where
    D : MadeOk source_limits (length (variables_of cs)) (sizes_of (modes_of cs)) cs
    D = let E : MadeOk source_limits (variable_count cs) (sizes_of (modes_of cs)) cs = made_ok source_limits (omega arith) (omega arith) cs t in
        subst (λ (n : ℕ). MadeOk source_limits n (sizes_of (modes_of cs)) cs) (omega (arith, ap length (E.no_starts refl))) E

-- the commands of an accepted restricted file give a task that keeps to the rules on restricted files
pub restricted-ok : (cs : List Command) → Trail restricted_limits begin cs → RestrictedTaskOk (restricted_task_of cs)
restricted-ok cs t = record {
  starts_few = D.variables_few;
  starts_in = D.starts_in;
  modes_few = omega (arith, D.modes_few, length-keys (modes_of cs));
  modes_in = D.modes_in;
  actions_few = omega (arith, D.actions_few, length-map (actions_of cs) restricted_action_of);
  actions_ok = all_of_map (PartOk restricted_limits (length (starts_of cs)) (sizes_of (modes_of cs)))
      (RestrictedActionOk restricted_limits (length (starts_of cs)) (sizes_of (modes_of cs))) restricted_action_of
      (λ a h. record {
        conditions_ok = h.conditions_ok.restricted;
        mode_effects_in = h.mode_effects_in;
        mode_effects_once = h.mode_effects_once;
        additions_few = h.additions_few;
        additions_in = h.additions_in;
        additions_once = h.additions_once;
      }) (actions_of cs) D.actions_ok;
  goal = D.goal.restricted;
}
  where
    D : MadeOk restricted_limits (length (starts_of cs)) (sizes_of (modes_of cs)) cs
    D = let E : MadeOk restricted_limits (variable_count cs) (sizes_of (modes_of cs)) cs = made_ok restricted_limits (omega arith) (omega arith) cs t in
        subst (λ (n : ℕ). MadeOk restricted_limits n (sizes_of (modes_of cs)) cs) (omega (arith, ap length (E.no_variables refl))) E

-- ---- from bytes: a file that a reader gives a task for
pub taken-from : {A : Type 0} (l : Limits) (file : List ℕ) (t u : A) → on_verdict (verdict_of l file) t ≡ given u → Trail l begin (commands_of l file) × (t ≡ u)
taken-from {A} l file t u e = go (verdict_of l file) refl e
  where
    go : (v : Verdict) → verdict_of l file ≡ v → on_verdict v t ≡ given u → Trail l begin (commands_of l file) × (t ≡ u)
    go (Accepted a b c) q e = ((accepted-trail l file (subst Is (sym q) tt)).0, cc)
    go (Rejected n w) q e = let z : ◌≡◌ {A = ℕ} 0 1 = cc in absurd (omega arith)

pub accepted-source-ok : (file : List ℕ) (t : SourceTask) → read_source file ≡ given t → SourceTaskOk t
accepted-source-ok file t e = let (w, is) = taken-from source_limits file (source_task_of (commands_of source_limits file)) t e in
    subst SourceTaskOk is (source_ok_lem (commands_of source_limits file) w)

pub accepted-restricted-ok : (file : List ℕ) (r : RestrictedTask) → read_restricted file ≡ given r → RestrictedTaskOk r
accepted-restricted-ok file r e = let (w, is) = taken-from restricted_limits file (restricted_task_of (commands_of restricted_limits file)) r e in
    subst RestrictedTaskOk is (restricted-ok (commands_of restricted_limits file) w)
