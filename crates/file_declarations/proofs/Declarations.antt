-- The declarations at the front of an accepted file are all that its commands declare: they stand before the first A or G, and nothing is
-- declared from there on. One law over the limits, by induction over the file's commands, and what it gives for each kind of file.
-- Assumes nothing.
use mathlib.Core.Path.{◌≡◌, refl, sym, ap, ◌∙◌, subst}
use Prim.Native.Nat.{ℕ, zero, suc, ◌≤◌}
use native.Mathlib.Omega.{arith}
use mathlib.Core.Bool.{Bool, true, false, cond}
use mathlib.Core.List.{List, [], ◌∷◌}
use lib.Dec.{eqb, eqb→eq, leb, leb→le}
use lib.IntN.{ℤ}
use lib.ListN.{length, get_or, drop}
use Rattle.answers.specs.Answer.{given}
use Rattle.commands.specs.Table.{letter_v, letter_u, letter_m, letter_a, letter_g, size_of_byte}
use Rattle.commands.specs.Encoding.{byte_of}
use Rattle.commands.specs.Reading.{command_at}
use Rattle.commands.specs.declared.Command.{Command}
use Rattle.commands.specs.declared.Command.TheVariants.{Variable, Start, Mode, Action, Condition, ModeCondition, ModeEffect, Add, Linear, Term}
use Rattle.commands.specs.declared.Command.TheVariants.{Quotient, Residue, Goal, End, Sum, Refused}
use Rattle.commands.proofs.Encoding.{byte-read}
use Rattle.model.specs.Tasks.{SourceVariable, SourceTask, RestrictedTask}
use Rattle.model.specs.Limits.{Limits, source_limits, restricted_limits}
use Rattle.model.specs.ReadingState.{in_declarations, in_action, ReadingState, Taken, Progress, Going, Ended, Stopped, begin, go_on}
use Rattle.model.specs.Rules.{is_one_of, allowed, constant, tests_of, next_of, onwards, rule_of, take_of}
use Rattle.model.specs.Reading.{Verdict, Accepted, Rejected, verdict_of, gather, commands_from, commands_of, commands_along, remainders}
use Rattle.model.specs.Trail.{Trail}
use Rattle.model.specs.Decoding.{variables_of, starts_of, modes_of, source_task_of, restricted_task_of, on_verdict, read_source, read_restricted}
use Rattle.model.proofs.ReadingLaws.{clash, holds, Alive, rule-none, own-goes, end-never-goes}
use Rattle.model.proofs.AcceptedTrail.{take-inv, Is, accepted-trail}
use Rattle.file_declarations.specs.Declarations.{declaring, commands_with, declarations, letters_along}

-- ---- what commands declare
abbrev Declarations : Type 0
Declarations = List SourceVariable × List ℤ × List (ℕ × ℕ)

abbrev declared : List Command → Declarations
declared cs = (variables_of cs, starts_of cs, modes_of cs)

-- the state after a command that is taken, other than Z
next : (l : Limits) (p : ReadingState) (c : Command) → onwards c (next_of p c) ≡ go_on (next_of p c) → (rule_of l p c).progress ≡ Going
    → next_of p c ≡ (rule_of l p c).state
next l p c n g =
    let (goes, own) = own-goes l p c g in
    sym (ap (λ (x : Taken). x.state) (own ∙ (rule-none p (tests_of l p c) (onwards c (next_of p c)) goes).1 ∙ n))

-- ---- bytes that stand in files of one kind
source-only : (r b : Bool) → cond r false b ≡ true → (r ≡ false) × (b ≡ true)
source-only true b e = absurd (clash (sym e))
source-only false b e = (refl, e)

restricted-only : (r b : Bool) → cond r b false ≡ true → (r ≡ true) × (b ≡ true)
restricted-only true b e = (refl, e)
restricted-only false b e = absurd (clash (sym e))

is-equal : (a b : ℕ) → eqb a b ≡ true → a ≡ b
is-equal a b e = eqb→eq a b (holds e)

module _ (l : Limits) where
  -- ---- from the first A or G on
  -- a command there declares nothing, and what follows it stands there too
  abbrev Quiet : ReadingState → Command → Type 0
  Quiet p c = (in_action ≤ (rule_of l p c).state.section) × ((cs : List Command) → declared (c ∷ cs) ≡ declared cs)

  still : (p : ReadingState) (c : Command) → onwards c (next_of p c) ≡ go_on (next_of p c) → (rule_of l p c).progress ≡ Going
      → in_action ≤ (next_of p c).section → in_action ≤ (rule_of l p c).state.section
  still p c n g s = subst (λ (q : ReadingState). in_action ≤ q.section) (next l p c n g) s

  quiet : (p : ReadingState) (c : Command) → in_action ≤ p.section → allowed l p (byte_of c) ≡ true → (rule_of l p c).progress ≡ Going → Quiet p c
  unfolding tests_of next_of
  quiet p (Variable x y z) s a g = absurd (omega (arith, s, is-equal p.section in_declarations (source-only l.restricted (eqb p.section in_declarations) a).1))
  quiet p (Start x) s a g = absurd (omega (arith, s, is-equal p.section in_declarations (restricted-only l.restricted (eqb p.section in_declarations) a).1))
  quiet p (Mode x y) s a g = absurd (omega (arith, s, is-equal p.section in_declarations a))
  quiet p Action s a g = (still p Action refl g (omega arith), λ d. refl)
  quiet p (Condition x y z) s a g = (still p (Condition x y z) refl g s, λ d. refl)
  quiet p (ModeCondition x y) s a g = (still p (ModeCondition x y) refl g s, λ d. refl)
  quiet p (ModeEffect x y) s a g = (still p (ModeEffect x y) refl g s, λ d. refl)
  quiet p (Add x y) s a g = (still p (Add x y) refl g s, λ d. refl)
  quiet p (Linear x y) s a g = (still p (Linear x y) refl g s, λ d. refl)
  quiet p (Term x y) s a g = (still p (Term x y) refl g s, λ d. refl)
  quiet p (Quotient x y z) s a g = (still p (Quotient x y z) refl g s, λ d. refl)
  quiet p (Residue x y z) s a g = (still p (Residue x y z) refl g s, λ d. refl)
  quiet p Goal s a g = (still p Goal refl g (omega arith), λ d. refl)
  quiet p End s a g = absurd (end-never-goes l p g)
  quiet p (Sum x y) s a g = (still p (Sum x y) refl g s, λ d. refl)
  quiet p (Refused reason) s a g = absurd (clash (sym a))

  none-declared : (cs : List Command) (p : ReadingState) → in_action ≤ p.section → Trail l p cs → declared cs ≡ ([], [], [])
  none-declared [] p s t = refl
  none-declared (c ∷ cs) p s (a, g, t) = let (s', f) = quiet p c s a g in f cs ∙ none-declared cs (rule_of l p c).state s' t

  -- ---- before it
  -- `more` are the declarations behind a command that declares, and `cs` all commands behind it
  abbrev Early : ReadingState → Type 0
  Early p = (p.section ≡ in_declarations) × (p.terms ≡ 0)

  abbrev Agree : Command → List Command → List Command → Type 0
  Agree c more cs = declared (cond (is_one_of (byte_of c) (declaring l.restricted)) (c ∷ more) []) ≡ declared (c ∷ cs)

  -- V or U, by the kind of file, is one of the bytes that declare; A and G are none
  letter-V : l.restricted ≡ false → is_one_of letter_v (declaring l.restricted) ≡ true
  letter-V e = rw e

  letter-U : l.restricted ≡ true → is_one_of letter_u (declaring l.restricted) ≡ true
  letter-U e = rw e

  neither-A : (r : Bool) → is_one_of letter_a (letter_m ∷ cond r letter_u letter_v ∷ []) ≡ false
  neither-A true = refl
  neither-A false = refl

  neither-G : (r : Bool) → is_one_of letter_g (letter_m ∷ cond r letter_u letter_v ∷ []) ≡ false
  neither-G true = refl
  neither-G false = refl

  declared-first : (p : ReadingState) (c : Command) (more cs : List Command) → Early p → allowed l p (byte_of c) ≡ true → (rule_of l p c).progress ≡ Going
      → Trail l (rule_of l p c).state cs
      → (Early (rule_of l p c).state → declared more ≡ declared cs) → Agree c more cs
  unfolding tests_of next_of
  declared-first p (Variable x y z) more cs (s, t) a g tr ih =
      rw (letter-V (source-only l.restricted (eqb p.section in_declarations) a).0)
      (ap (λ (w : Declarations). (record { lower = constant x; upper = constant y; start = constant z } ∷ w.0, w.1, w.2))
      (ih (subst Early (next l p (Variable x y z) refl g) (s, refl))))
  declared-first p (Start x) more cs (s, t) a g tr ih =
      rw (letter-U (restricted-only l.restricted (eqb p.section in_declarations) a).0)
      (ap (λ (w : Declarations). (w.0, constant x ∷ w.1, w.2)) (ih (subst Early (next l p (Start x) refl g) (s, refl))))
  declared-first p (Mode x y) more cs (s, t) a g tr ih =
      ap (λ (w : Declarations). (w.0, w.1, (x, y) ∷ w.2)) (ih (subst Early (next l p (Mode x y) refl g) (s, refl)))
  declared-first p Action more cs (s, t) a g tr ih = rw (neither-A l.restricted)
      (sym (none-declared cs (rule_of l p Action).state (still p Action refl g (omega arith)) tr))
  declared-first p (Condition x y z) more cs (s, t) a g tr ih = absurd (omega (arith, s, leb→le in_action p.section (holds a)))
  declared-first p (ModeCondition x y) more cs (s, t) a g tr ih = absurd (omega (arith, s, leb→le in_action p.section (holds a)))
  declared-first p (ModeEffect x y) more cs (s, t) a g tr ih = absurd (omega (arith, s, is-equal p.section in_action a))
  declared-first p (Add x y) more cs (s, t) a g tr ih = absurd (omega (arith, s, is-equal p.section in_action a))
  declared-first p (Linear x y) more cs (s, t) a g tr ih = absurd
      (omega (arith, s, is-equal p.section in_action (source-only l.restricted (eqb p.section in_action) a).1))
  declared-first p (Term x y) more cs (s, t) a g tr ih = absurd (omega (arith, t, leb→le 1 p.terms (holds a)))
  declared-first p (Quotient x y z) more cs (s, t) a g tr ih = absurd
      (omega (arith, s, is-equal p.section in_action (source-only l.restricted (eqb p.section in_action) a).1))
  declared-first p (Residue x y z) more cs (s, t) a g tr ih = absurd
      (omega (arith, s, is-equal p.section in_action (source-only l.restricted (eqb p.section in_action) a).1))
  declared-first p Goal more cs (s, t) a g tr ih = rw (neither-G l.restricted)
      (sym (none-declared cs (rule_of l p Goal).state (still p Goal refl g (omega arith)) tr))
  declared-first p End more cs (s, t) a g tr ih = absurd (end-never-goes l p g)
  declared-first p (Sum x y) more cs (s, t) a g tr ih =
      absurd (omega (arith, s, leb→le in_action p.section (holds (source-only l.restricted (leb in_action p.section) a).1)))
  declared-first p (Refused reason) more cs (s, t) a g tr ih = absurd (clash (sym a))

  -- ---- along the file
  declared-along : (most : ℕ) (p : ReadingState) (s : List ℕ) → Early p → Trail l p (commands_from l most p s)
      → declared (commands_with (declaring l.restricted) most s) ≡ declared (commands_from l most p s)
  unfolding remainders letters_along commands_along
  declared-along zero p s (e, _) t = absurd (omega (arith, e, t.0))
  declared-along (suc most) p s early t =
      step (take_of l p s).state (take_of l p s).progress refl refl t (λ q early' t'. declared-along most q (drop (size_of_byte (get_or s 0 0)) s) early' t')
    where
      more : List Command
      more = commands_with (declaring l.restricted) most (drop (size_of_byte (get_or s 0 0)) s)

      behind : ReadingState → List Command
      behind q = commands_from l most q (drop (size_of_byte (get_or s 0 0)) s)

      step : (q : ReadingState) (o : Progress) → (take_of l p s).state ≡ q → (take_of l p s).progress ≡ o → Trail l p (gather behind (command_at s) q o)
          → ((q : ReadingState) → Early q → Trail l q (behind q) → declared more ≡ declared (behind q))
          → declared (cond (is_one_of (get_or s 0 0) (declaring l.restricted)) (command_at s ∷ more) []) ≡ declared (gather behind (command_at s) q o)
      step q Going e f (a, g, t) ih =
          let (_, b, kn) = take-inv l p s (subst Alive (sym f) tt) in
          let is : (rule_of l p (command_at s)).state ≡ q = sym (ap (λ (t : Taken). t.state) b) ∙ e in
          subst (λ (x : ℕ). declared (cond (is_one_of x (declaring l.restricted)) (command_at s ∷ more) []) ≡ declared (command_at s ∷ behind q))
          (byte-read s kn)
          (declared-first p (command_at s) more (behind q) early a g t
          (λ early'. ih q (subst Early is early') (subst (λ (x : ReadingState). Trail l x (behind q)) is t)))
      step q Ended e f t ih = absurd (omega (arith, early.0, t.0))
      step q (Stopped n) e f t ih = absurd (omega (arith, early.0, t.0))

  -- THE LAW: the declarations at the front of an accepted file are what all its commands declare
  all-declared : (file : List ℕ) → Is (verdict_of l file) → declared (declarations l.restricted file) ≡ declared (commands_of l file)
  unfolding commands_of
  all-declared file h = declared-along (suc (length file)) begin file (refl, refl) (accepted-trail l file h).0

  read-declares : {A : Type 0} (file : List ℕ) (t u : A) → on_verdict (verdict_of l file) t ≡ given u
      → (declared (declarations l.restricted file) ≡ declared (commands_of l file)) × (t ≡ u)
  read-declares {A} file t u e = go (verdict_of l file) refl e
    where
      go : (v : Verdict) → verdict_of l file ≡ v → on_verdict v t ≡ given u
          → (declared (declarations l.restricted file) ≡ declared (commands_of l file)) × (t ≡ u)
      go (Accepted a b c) q e = (all-declared file (subst Is (sym q) tt), cc)
      go (Rejected n w) q e = let z : ◌≡◌ {A = ℕ} 0 1 = cc in absurd (omega arith)

-- ---- of either kind
pub source-declares : (file : List ℕ) (t : SourceTask) → read_source file ≡ given t
    → (variables_of (declarations false file) ≡ t.variables) × (modes_of (declarations false file) ≡ t.modes)
source-declares file t e =
    let (all, is) = read-declares source_limits file (source_task_of (commands_of source_limits file)) t e in
    (ap (λ (w : Declarations). w.0) all ∙ ap (λ (u : SourceTask). u.variables) is, ap (λ (w : Declarations). w.2) all ∙ ap (λ (u : SourceTask). u.modes) is)

pub restricted-declares : (file : List ℕ) (r : RestrictedTask) → read_restricted file ≡ given r
    → (starts_of (declarations true file) ≡ r.starts) × (modes_of (declarations true file) ≡ r.modes)
restricted-declares file r e =
    let (all, is) = read-declares restricted_limits file (restricted_task_of (commands_of restricted_limits file)) r e in (
      ap (λ (w : Declarations). w.1) all ∙ ap (λ (u : RestrictedTask). u.starts) is,
      ap (λ (w : Declarations). w.2) all ∙ ap (λ (u : RestrictedTask). u.modes) is,
    )
