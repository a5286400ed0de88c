-- The file of a well-formed restricted task is accepted.
-- Assumes nothing.
use mathlib.Core.Path.{◌≡◌, refl, sym, ap, ◌∙◌, subst}
use Prim.Native.Nat.{ℕ, ◌+◌, ◌≤◌, ◌<◌}
use native.Mathlib.Omega.{arith}
use native.Mathlib.Nat.{add-zero}
use mathlib.Core.Bool.{true, false}
use mathlib.Core.List.{List, [], ◌∷◌, ◌++◌, append_assoc, append-nil}
use lib.ListN.{length, length-append, length-set, get_or}
use lib.Dec.{eqb}
use lib.IntN.{ℤ, nat_abs}
use borrow.Author.Tests.{le-ltb, le-leb, lt-leb, ne_eqb, eq-eqb}
use Rattle.integers.specs.All.{All}
use Rattle.integers.specs.Relation.{relation_number}
use Rattle.integers.specs.Numbers.{bits_of}
use Rattle.commands.specs.declared.Command.{Command}
use Rattle.commands.specs.declared.Command.TheVariants.{Start, Mode, Action, Condition, ModeCondition, ModeEffect, Add, Goal}
use Rattle.commands.specs.Encoding.{byte_of}
use Rattle.integers.proofs.Numbers.{signed-bits}
use Rattle.model.specs.Tasks.{NumericCondition, RestrictedAction, RestrictedTask, Measured, variable, weighted_sum}
use Rattle.model.specs.Steps.{natural_at, sizes_of}
use Rattle.model.specs.Limits.{Limits, restricted_limits}
use Rattle.model.specs.ReadingState.{ReadingState, Taken, begin, go_on, opened, with_variable, with_mode, with_condition, with_mode_condition}
use Rattle.model.specs.ReadingState.{with_mode_effect, with_numeric_effect}
use Rattle.model.specs.Rules.{allowed, tests_of, next_of, onwards, rule_of, constant, outside, no_variable, no_mode, not_below_size}
use Rattle.model.specs.Lowering.{start_commands, mode_commands, mode_condition_commands, condition_commands, mode_effect_commands, addition_commands, actions_commands, file_commands, variable_of}
use Rattle.model.specs.Trail.{Trail}
use Rattle.model.specs.TaskOk.{Distinct, keys, ValuesIn, InRange, AmountOk, ModeOk, MeasureOk, ConditionOk, ConditionsOk}
use Rattle.model.specs.TaskOk.{RestrictedActionOk, RestrictedTaskOk}
use Rattle.model.proofs.ReadingLaws.{clash, Off, rule-go, Core, core-mode, Free, free-set, free-zero, zeros, length-keys}

abbrev l : Limits
l = restricted_limits

-- ---- a command none of whose tests holds
pass : (p : ReadingState) (c : Command) (cs : List Command) → onwards c (next_of p c) ≡ go_on (next_of p c) → allowed l p (byte_of c) ≡ true → Off (tests_of l p c)
    → Trail l (next_of p c) cs → Trail l p (c ∷ cs)
pass p c cs e a o t = let h : rule_of l p c ≡ go_on (next_of p c) = rule-go p (tests_of l p c) (onwards c (next_of p c)) o ∙ e in
    (a, ap (λ (x : Taken). x.progress) h, subst (λ (x : Taken). Trail l x.state cs) (sym h) t)

pub const-back : (z : ℤ) → InRange l z → constant (bits_of 4 z) ≡ z
const-back z h = signed-bits 4 z (omega (arith, h))

in-range : (z : ℤ) → InRange l z → outside l (constant (bits_of 4 z)) ≡ false
in-range z h = rw (const-back z h) (le-ltb 1_000_000_000 (nat_abs z) h)

-- ---- declarations
starts-run : (zs : List ℤ) (p : ReadingState) → p.section ≡ 0 → p.declared.variables + length zs ≤ 64 → All (InRange l) zs → (more : List Command)
    → ((q : ReadingState) → q.section ≡ 0 → q.declared.variables ≡ p.declared.variables + length zs → q.declared.modes ≡ p.declared.modes → q.actions ≡ p.actions → q.declared.sizes ≡ p.declared.sizes → Trail l q more)
    → Trail l p (start_commands zs more)
unfolding tests_of next_of
starts-run [] p s f h more k = k p s (sym (add-zero p.declared.variables)) refl refl refl
starts-run (z ∷ zs) p s f (h, hs) more k =
    pass p (Start (bits_of 4 z)) (start_commands zs more) refl (eq-eqb p.section 0 s)
    (lt-leb 64 p.declared.variables (omega (arith, f)), (in-range z h, tt))
    (starts-run zs (with_variable p) s (omega (arith, f)) hs more (λ q a b c d e. k q a (omega (arith, b)) c d e))

modes-run : (n : ℕ) (ms : List (ℕ × ℕ)) (sizes : List ℕ) (p : ReadingState) → Core n sizes p → p.section ≡ 0 → length sizes + length ms ≤ 8 → All (ModeOk l) ms
    → (more : List Command) → ((q : ReadingState) → Core n (sizes ++ keys ms) q → q.section ≡ 0 → q.actions ≡ p.actions → Trail l q more)
    → Trail l p (mode_commands ms more)
unfolding tests_of next_of
modes-run n [] sizes p c s f h more k = k p (subst (λ (z : List ℕ). Core n z p) (sym (append-nil sizes)) c) s refl
modes-run n (m ∷ ms) sizes p c s f ((h, g), hs) more k =
    pass p (Mode m.0 m.1) (mode_commands ms more) refl (eq-eqb p.section 0 s)
    (lt-leb 8 p.declared.modes (omega (arith, f, c.mods)), (lt-leb m.0 m.1 h, (le-ltb 8192 m.0 g, tt)))
    (modes-run n ms (sizes ++ (m.0 ∷ [])) (with_mode p m.0) (core-mode n sizes p m.0 (omega (arith, f)) c) s (omega (arith, f, length-append sizes (m.0 ∷ []))) hs more
    (λ q d a b. k q (subst (λ (z : List ℕ). Core n z q) (append_assoc sizes (m.0 ∷ []) (keys ms)) d) a b))

-- ---- in an action or the goal
declared : {n v : ℕ} {sizes : List ℕ} (p : ReadingState) → Core n sizes p → v < n → no_variable p v ≡ false
declared {n} {v} {sizes} p c h = lt-leb p.declared.variables v (omega (arith, h, c.variables))

-- a condition of a restricted file compares a variable
pub var-in : (n : ℕ) (m : Measured ℕ) (k : ℤ) → MeasureOk l n m k → (variable_of m < n) × InRange l k
var-in n (variable i) k h = h
var-in n (weighted_sum ts) k h = absurd (clash h.0)

module _ (n : ℕ) (sizes : List ℕ) where
  mode-there : (p : ReadingState) → Core n sizes p → (e : ℕ × ℕ) → (e.0 < length sizes) × (e.1 < natural_at sizes e.0) → (no_mode p e.0 ≡ false) × (not_below_size p e.0 e.1 ≡ false)
  mode-there p c e (h, g) = (lt-leb p.declared.modes e.0 (omega (arith, h, c.mods)), lt-leb (natural_at p.declared.sizes e.0) e.1 (omega (arith, g, c.sized e.0)))

  places-run : (ps : List (ℕ × ℕ)) (p : ReadingState) → Core n sizes p → 2 ≤ p.section → p.counts.mode_conditions + length ps ≤ 16 → ValuesIn sizes ps → (more : List Command)
      → ((q : ReadingState) → Core n sizes q → q.section ≡ p.section → q.actions ≡ p.actions
      → q.counts.conditions ≡ p.counts.conditions → q.counts.numeric_effects ≡ p.counts.numeric_effects
      → q.marks.modes_set ≡ p.marks.modes_set → q.marks.targets_seen ≡ p.marks.targets_seen → Trail l q more)
      → Trail l p (mode_condition_commands ps more)
  unfolding tests_of next_of
  places-run [] p c s f h more k = k p c refl refl refl refl refl refl
  places-run (e ∷ ps) p c s f (h, hs) more k = let (g₁, g₂) = mode-there p c e h in
      pass p (ModeCondition e.0 e.1) (mode_condition_commands ps more) refl (le-leb 2 p.section s)
      (lt-leb 16 p.counts.mode_conditions (omega (arith, f)), (g₁, (g₂, tt)))
      (places-run ps (with_mode_condition p) c s (omega (arith, f)) hs more k)

  compares-run : (cs : List (NumericCondition ℕ)) (p : ReadingState) → Core n sizes p → 2 ≤ p.section → p.counts.conditions + length cs ≤ 24 → All (ConditionOk l n) cs → (more : List Command)
      → ((q : ReadingState) → Core n sizes q → q.section ≡ p.section → q.actions ≡ p.actions
      → q.counts.numeric_effects ≡ p.counts.numeric_effects
      → q.marks.modes_set ≡ p.marks.modes_set → q.marks.targets_seen ≡ p.marks.targets_seen → Trail l q more)
      → Trail l p (condition_commands cs more)
  unfolding tests_of next_of
  compares-run [] p c s f h more k = k p c refl refl refl refl refl
  compares-run (x ∷ cs) p c s f (h, hs) more k = let (v, q) = var-in n x.measured x.constant h.measures in
      pass p (Condition (variable_of x.measured) (relation_number x.relation) (bits_of 4 x.constant)) (condition_commands cs more) refl (le-leb 2 p.section s) (
        lt-leb 24 p.counts.conditions (omega (arith, f)),
        (declared p c v, (le-ltb 3 (relation_number x.relation) h.known, (in-range x.constant q, tt))),
      )
      (compares-run cs (with_condition p) c s (omega (arith, f)) hs more k)

  effects-run : (es : List (ℕ × ℕ)) (p : ReadingState) → Core n sizes p → p.section ≡ 2 → length sizes ≤ 8 → length p.marks.modes_set ≡ 8 → ValuesIn sizes es → Distinct (keys es) → Free p.marks.modes_set (keys es) → (more : List Command)
      → ((q : ReadingState) → Core n sizes q → q.section ≡ 2 → q.actions ≡ p.actions
      → q.counts.numeric_effects ≡ p.counts.numeric_effects → q.marks.targets_seen ≡ p.marks.targets_seen → Trail l q more)
      → Trail l p (mode_effect_commands es more)
  unfolding tests_of next_of
  effects-run [] p c s z m h a f more k = k p c s refl refl refl
  effects-run (e ∷ es) p c s z m (h, hs) (a, as₁) (f, fs) more k = let (g₁, g₂) = mode-there p c e h in
      pass p (ModeEffect e.0 e.1) (mode_effect_commands es more) refl (eq-eqb p.section 2 s)
      (g₁, (g₂, (lt-leb 1 (get_or p.marks.modes_set e.0 0) (omega (arith, f)), tt)))
      (effects-run es (with_mode_effect p e.0) c s z (length-set p.marks.modes_set e.0 1 ∙ m) hs as₁
      (free-set p.marks.modes_set e.0 (omega (arith, h.0, z, m)) (keys es) a fs) more k)

  adds_run : (es : List (ℕ × ℤ)) (p : ReadingState) → Core n sizes p → p.section ≡ 2 → n ≤ 64
      → length p.marks.targets_seen ≡ 64 → p.counts.numeric_effects + length es ≤ 16
      → All (AmountOk l n) es → Distinct (keys es) → Free p.marks.targets_seen (keys es) → (more : List Command)
      → ((q : ReadingState) → Core n sizes q → q.section ≡ 2 → q.actions ≡ p.actions → Trail l q more)
      → Trail l p (addition_commands es more)
  unfolding tests_of next_of
  adds_run [] p c s z m w h a f more k = k p c s refl
  adds_run (e ∷ es) p c s z m w ((h₁, (h₂, h₃)), hs) (a, as₁) (f, fs) more k =
      pass p (Add e.0 (bits_of 4 e.1)) (addition_commands es more) refl (eq-eqb p.section 2 s) (
        lt-leb 16 p.counts.numeric_effects (omega (arith, w)),
        (declared p c h₁, (not-zero, (in-range e.1 h₃, (lt-leb 1 (get_or p.marks.targets_seen e.0 0) (omega (arith, f)), tt)))),
      )
      (adds_run es (with_numeric_effect p e.0 0) c s z (length-set p.marks.targets_seen e.0 1 ∙ m) (omega (arith, w)) hs as₁
      (free-set p.marks.targets_seen e.0 (omega (arith, h₁, z, m)) (keys es) a fs) more k)
    where
      not-zero : eqb (nat_abs (constant (bits_of 4 e.1))) 0 ≡ false
      not-zero = rw (const-back e.1 h₃) (ne_eqb (nat_abs e.1) 0 (λ q. omega (arith, h₂, q)))

  -- ---- the actions
  acts-run : (acts : List RestrictedAction) (p : ReadingState) → Core n sizes p → p.section ≤ 2 → n ≤ 64 → length sizes ≤ 8 → p.actions + length acts ≤ 16_384 → All (RestrictedActionOk l n sizes) acts → (more : List Command)
      → ((q : ReadingState) → Core n sizes q → q.section ≤ 2 → Trail l q more)
      → Trail l p (actions_commands acts more)
  unfolding tests_of next_of
  acts-run [] p c s z₁ z₂ w h more k = k p c s
  acts-run (a ∷ acts) p c s z₁ z₂ w (h, hs) more k =
      pass p Action (mode_condition_commands a.mode_conditions (condition_commands a.conditions (mode_effect_commands a.mode_effects (addition_commands a.additions (actions_commands acts more))))) refl (le-leb p.section 2 s)
      (lt-leb 16_384 p.actions (omega (arith, w)), tt)
      (places-run a.mode_conditions (opened p 2 (p.actions + 1)) c (omega arith) (omega (arith, h.conditions_ok.mode_conditions_few)) h.conditions_ok.mode_conditions_in _
      (λ q₁ c₁ s₁ n₁ k₁ f₁ m₁ e₁. compares-run a.conditions q₁ c₁ (omega (arith, s₁)) (omega (arith, k₁, h.conditions_ok.conditions_few)) h.conditions_ok.conditions_in _
      (λ q₂ c₂ s₂ n₂ f₂ m₂ e₂. effects-run a.mode_effects q₂ c₂ (s₂ ∙ s₁) z₂ (ap length (m₂ ∙ m₁)) h.mode_effects_in h.mode_effects_once (subst (λ (x : List ℕ). Free x (keys a.mode_effects)) (sym (m₂ ∙ m₁)) (free-zero 8 (keys a.mode_effects))) _
      (λ q₃ c₃ s₃ n₃ f₃ e₃. adds_run a.additions q₃ c₃ s₃ z₁ (ap length (e₃ ∙ e₂ ∙ e₁)) (omega (arith, f₃, f₂, f₁, h.additions_few)) h.additions_in h.additions_once
      (subst (λ (x : List ℕ). Free x (keys a.additions)) (sym (e₃ ∙ e₂ ∙ e₁)) (free-zero 64 (keys a.additions))) _
      (λ q₄ c₄ s₄ n₄. acts-run acts q₄ c₄ (omega (arith, s₄)) z₁ z₂ (omega (arith, w, n₄, n₃, n₂, n₁)) hs more k)))))

  goal-run : (gp : List (ℕ × ℕ)) (gc : List (NumericCondition ℕ)) (p : ReadingState) → Core n sizes p → p.section ≤ 2 → ConditionsOk l n sizes gp gc → Trail l p (Goal ∷ mode_condition_commands gp (condition_commands gc []))
  unfolding tests_of next_of
  goal-run gp gc p c s h =
      pass p Goal (mode_condition_commands gp (condition_commands gc [])) refl (le-leb p.section 2 s) tt
      (places-run gp (opened p 3 p.actions) c (omega arith) (omega (arith, h.mode_conditions_few)) h.mode_conditions_in _
      (λ q₁ c₁ s₁ n₁ k₁ f₁ m₁ e₁. compares-run gc q₁ c₁ (omega (arith, s₁)) (omega (arith, k₁, h.conditions_few)) h.conditions_in []
      (λ q₂ c₂ s₂ n₂ f₂ m₂ e₂. (s₂ ∙ s₁, refl))))

-- the commands of a well-formed task may follow one another
pub trail : (r : RestrictedTask) → RestrictedTaskOk r → Trail l begin (file_commands r)
trail r F =
    starts-run r.starts begin refl (omega (arith, F.starts_few)) F.starts_in _
    (λ q₁ s₁ v₁ m₁ a₁ z₁. modes-run (length r.starts) r.modes [] q₁
    (record { variables = v₁ ∙ omega arith; mods = m₁; lengths = ap length z₁; sized = λ j. ap (λ (x : List ℕ). natural_at x j) z₁ ∙ zeros 8 j }) s₁ (omega (arith, F.modes_few)) F.modes_in _
    (λ q₂ c₂ s₂ a₂. acts-run (length r.starts) (sizes_of r.modes) r.actions q₂ c₂ (omega (arith, s₂)) F.starts_few (omega (arith, F.modes_few, length-keys r.modes))
    (omega (arith, a₂, a₁, F.actions_few)) F.actions_ok _
    (λ q₃ c₃ s₃. goal-run (length r.starts) (sizes_of r.modes) r.goal_modes r.goal_conditions q₃ c₃ s₃ F.goal)))
