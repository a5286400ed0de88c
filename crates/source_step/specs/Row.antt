-- An action of an accepted source task made ready for many steps: two rows of numbers, in the place of lists of conditions and effects, and a
-- row of the task's sums beside them; and what a step by them does, in every state. Where each number stands is said in Layout.
-- Assumes nothing.
use Rattle.std.specs.Prelude.{◌≡◌, ℕ, zero, suc, min, ◌+◌, ◌*◌, ◌≤◌, ◌<◌, Bool, true, cond, ◌&&◌, List, ◌++◌, eqb, leb, length, take, drop, ℤ, nat_abs}
use Rattle.integers.specs.Relation.{between}
use Rattle.lists.specs.Each.{tabulate}
use Rattle.lists.specs.Loops.{every}
use Rattle.model.specs.Tasks.{Effect, add_effect, linear_effect, quotient_effect, residue_effect, SourceAction}
use Rattle.model.specs.Steps.{integer_at, natural_at, modes_hold, weigh, conditions_hold, set_all, result, results}
use Rattle.source_step.specs.Parts.{values_between, modes_below, effects_fit}
use Rattle.source_step.specs.Sizes.{VARIABLES, MODES, EFFECTS, SUMS}
use Rattle.source_step.specs.Step.{settled}
use Rattle.source_step.specs.Layout.{BLOCK, TOP, KEEP, PUT, MANY, KIND, TARGET, OPERAND, COUNT, TERM, sum_first, sum_count}
use Rattle.source_step.specs.Layout.{MOST, CONSTANT, WEIGHT, LOWER, UPPER, sum_least, sum_most, ADD, LINEAR, QUOTIENT}

-- ---- what the rows ask of a state with n variables and m modes
abbrev pub values_in : ℕ → List ℤ → List ℤ → Bool
values_in n numbers values = every (λ b. b) (tabulate n (λ i. between (integer_at numbers i) (integer_at numbers (MOST + i)) (integer_at values i)))

abbrev pub modes_in : ℕ → List ℕ → List ℕ → Bool
modes_in m marks modes = every (λ b. b) (tabulate m (λ i. leb (natural_at marks i) (natural_at modes i) && leb (natural_at modes i) (natural_at marks (TOP + i))))

-- the modes after
abbrev pub modes_after : ℕ → List ℕ → List ℕ → List ℕ
modes_after m marks modes = tabulate m (λ i. natural_at modes i * natural_at marks (KEEP + i) + natural_at marks (PUT + i)) ++ drop m modes

-- ---- the effects: how many, and effect e of them
abbrev pub effect_count_at : List ℕ → ℕ
effect_count_at marks = min EFFECTS (natural_at marks MANY)

abbrev pub kind_at : List ℕ → ℕ → ℕ
kind_at marks e = natural_at marks (KIND + BLOCK * e)

abbrev pub target_at : List ℕ → ℕ → ℕ
target_at marks e = natural_at marks (TARGET + BLOCK * e)

abbrev pub operand_at : List ℕ → ℕ → ℕ
operand_at marks e = natural_at marks (OPERAND + BLOCK * e)

abbrev pub term_count_at : List ℕ → ℕ → ℕ
term_count_at marks e = min 4 (natural_at marks (COUNT + BLOCK * e))

abbrev pub constant_at : List ℤ → ℕ → ℤ
constant_at numbers e = integer_at numbers (CONSTANT + BLOCK * e)

abbrev pub variable_at : List ℕ → ℕ → ℕ → ℕ
variable_at marks e i = natural_at marks (TERM + BLOCK * e + i)

abbrev pub weight_at : List ℤ → ℕ → ℕ → ℤ
weight_at numbers e i = integer_at numbers (WEIGHT + BLOCK * e + i)

abbrev pub terms_at : List ℕ → List ℤ → ℕ → List (ℕ × ℤ)
terms_at marks numbers e = tabulate (term_count_at marks e) (λ i. (variable_at marks e i, weight_at numbers e i))

unfoldable pub effect_of_kind : ℕ → ℕ → ℕ → ℤ → List (ℕ × ℤ) → Effect
effect_of_kind kind target operand c terms =
    cond (eqb kind ADD) (add_effect target c)
    (cond (eqb kind LINEAR) (linear_effect target c terms)
    (cond (eqb kind QUOTIENT) (quotient_effect target operand c) (residue_effect target operand c)))

abbrev pub effect_at : List ℕ → List ℤ → ℕ → Effect
effect_at marks numbers e = effect_of_kind (kind_at marks e) (target_at marks e) (operand_at marks e) (constant_at numbers e) (terms_at marks numbers e)

abbrev pub effects_at : List ℕ → List ℤ → List Effect
effects_at marks numbers = tabulate (effect_count_at marks) (effect_at marks numbers)

-- what effect e gives its target, and what all give theirs, over the values before
abbrev pub result_at : ℕ → List ℕ → List ℤ → List ℤ → ℕ → ℤ
result_at n marks numbers values e = result (effect_at marks numbers e) (integer_at (take n values))

abbrev pub outcomes_at : ℕ → List ℕ → List ℤ → List ℤ → List (ℕ × ℤ)
outcomes_at n marks numbers values = results (effects_at marks numbers) (integer_at (take n values))

-- numbers, each with the target of its effect; they are what the effects give
abbrev pub pairs_of : List ℕ → List ℤ → List (ℕ × ℤ)
pairs_of marks zs = tabulate (effect_count_at marks) (λ e. (target_at marks e, integer_at zs e))

abbrev pub ResultsAre : ℕ → List ℕ → List ℤ → List ℤ → List ℤ → Type 0
ResultsAre n marks numbers values zs = (e : ℕ) → e < effect_count_at marks → integer_at zs e ≡ result_at n marks numbers values e

-- there is one effect at most, and a number is what it gives
abbrev pub SingleIs : ℕ → List ℕ → List ℤ → List ℤ → ℤ → Type 0
SingleIs n marks numbers values z =
    (effect_count_at marks ≤ 1) × (effect_count_at marks ≡ 1 → z ≡ result_at n marks numbers values 0)

-- whether what effect e gives lies within the bounds of the row; how many effects stand before the first that leaves them, all where none does
abbrev pub stays_at : ℕ → List ℕ → List ℤ → List ℤ → ℕ → Bool
stays_at n marks numbers values e =
    between (integer_at numbers (LOWER + BLOCK * e)) (integer_at numbers (UPPER + BLOCK * e)) (result_at n marks numbers values e)

abbrev pub leading : (ℕ → Bool) → ℕ → ℕ
leading test zero = zero
leading test (suc k) = cond (test zero) (suc (leading (λ e. test (suc e)) k)) zero

abbrev pub first_outside : ℕ → List ℕ → List ℤ → List ℤ → ℕ
first_outside n marks numbers values = leading (stays_at n marks numbers values) (effect_count_at marks)

-- whether all do
abbrev pub stays_in : ℕ → List ℕ → List ℤ → List ℤ → Bool
stays_in n marks numbers values = every (λ b. b) (tabulate (effect_count_at marks) (stays_at n marks numbers values))

-- ---- the sums of the task, in a row of their own: sum j, with a term for each variable, and what it comes to
abbrev pub weights_in : List ℤ → ℕ → List (ℕ × ℤ)
weights_in sums j = tabulate VARIABLES (λ v. (v, integer_at sums (VARIABLES * j + v)))

abbrev pub sum_at : ℕ → List ℤ → List ℤ → ℕ → ℤ
sum_at n sums values j = weigh (weights_in sums j) (integer_at (take n values))

-- whether the condition on it holds
abbrev pub sum_holds : ℕ → List ℤ → List ℤ → ℕ → Bool
sum_holds n sums values j = between (integer_at sums (sum_least + j)) (integer_at sums (sum_most + j)) (sum_at n sums values j)

-- those of an action: which is the first, and how many they are; whether all hold
abbrev pub sum_first_at : List ℕ → ℕ
sum_first_at marks = natural_at marks sum_first

abbrev pub sum_count_at : List ℕ → ℕ
sum_count_at marks = natural_at marks sum_count

abbrev pub sums_hold_from : ℕ → List ℤ → List ℤ → ℕ → ℕ → Bool
sums_hold_from n sums values first count = every (λ b. b) (tabulate count (λ i. sum_holds n sums values (first + i)))

abbrev pub sums_hold : ℕ → List ℕ → List ℤ → List ℤ → Bool
sums_hold n marks sums values = sums_hold_from n sums values (sum_first_at marks) (sum_count_at marks)

-- ---- a mode stays as it is or is set, and remains a number of 16 bits
abbrev pub KeepOrSet : List ℕ → Type 0
KeepOrSet marks = (i : ℕ) → i < MODES → natural_at marks (KEEP + i) * 65535 + natural_at marks (PUT + i) ≤ 65535

-- ---- the first n values are those of a source file
abbrev pub ValuesNear : ℕ → List ℤ → Type 0
ValuesNear n values = (i : ℕ) → nat_abs (integer_at (take n values) i) ≤ 10000

-- effects of which no sum, product or quotient leaves its range in such a state
pub record EffectsSmall (marks : List ℕ) (numbers : List ℤ) : Type 0 where
  pub constants : (e : ℕ) → e < EFFECTS → nat_abs (constant_at numbers e) ≤ 10000
  pub weights : (e i : ℕ) → e < EFFECTS → i < 4 → nat_abs (weight_at numbers e i) ≤ 10000
  pub divides : (e : ℕ) → e < EFFECTS → QUOTIENT ≤ kind_at marks e → 1 ≤ nat_abs (constant_at numbers e)

-- sums likewise: four terms on one variable make no more than this
abbrev pub most_weight : ℕ
most_weight = 40_000

abbrev pub WeightsSmall : List ℤ → Type 0
WeightsSmall sums = (j v : ℕ) → j < SUMS → v < VARIABLES → nat_abs (integer_at sums (VARIABLES * j + v)) ≤ most_weight

-- ---- rows by which a step can be taken from any state: one that passes their test has the values of a source file
pub record Usable (n : ℕ) (marks : List ℕ) (numbers sums : List ℤ) : Type 0 where
  pub near : (x : List ℤ) → values_in n numbers x ≡ true → ValuesNear n x
  pub keeps : KeepOrSet marks
  pub effects : EffectsSmall marks numbers
  pub sums_there : sum_first_at marks + sum_count_at marks ≤ SUMS
  pub sums_small : WeightsSmall sums

-- n values that effects can be worked out from
pub record Reads (n : ℕ) (values : List ℤ) (marks : List ℕ) (numbers : List ℤ) : Type 0 where
  pub variables_few : n ≤ VARIABLES
  pub near : ValuesNear n values
  pub effects : EffectsSmall marks numbers

-- ---- the rows of an action in a task with these bounds and sizes
pub record RowOf (n m : ℕ) (lower upper : List ℤ) (sizes : List ℕ) (marks : List ℕ) (numbers sums : List ℤ) (a : SourceAction) : Type 0 where
  pub usable : Usable n marks numbers sums
  pub values : (x : List ℤ) → (values_in n numbers x && sums_hold n marks sums x)
      ≡ (values_between n lower upper x && conditions_hold a.conditions (integer_at (take n x)))
  pub modes : (x : List ℕ) → modes_in m marks x ≡ (modes_below m sizes x && modes_hold a.mode_conditions (natural_at (take m x)))
  pub sets : (x : List ℕ) → m ≤ length x → modes_after m marks x ≡ set_all a.mode_effects (take m x) ++ drop m x
  pub sets_below : (x : List ℕ) → m ≤ length x → modes_below m sizes x ≡ true → modes_below m sizes (modes_after m marks x) ≡ true
  pub effects : effects_at marks numbers ≡ a.effects
  pub fits : (x : List ℤ) → values_between n lower upper x ≡ true → effects_fit a.effects (integer_at (take n x)) ≡ true
  pub target_declared : (e : ℕ) → e < effect_count_at marks → target_at marks e < n
  pub lower_at : (e : ℕ) → e < effect_count_at marks → integer_at numbers (LOWER + BLOCK * e) ≡ integer_at (take n lower) (target_at marks e)
  pub upper_at : (e : ℕ) → e < effect_count_at marks → integer_at numbers (UPPER + BLOCK * e) ≡ integer_at (take n upper) (target_at marks e)

-- ---- a step by rows, in every state: the test of the rows
abbrev pub held : ℕ → ℕ → List ℕ → List ℤ → List ℤ → List ℤ → List ℕ → Bool
held n m marks numbers sums values modes = modes_in m marks modes && (values_in n numbers values && sums_hold n marks sums values)

-- whether they are taken, and the values after
abbrev pub takes : ℕ → ℕ → List ℕ → List ℤ → List ℤ → List ℤ → List ℕ → Bool
takes n m marks numbers sums values modes = held n m marks numbers sums values modes && stays_in n marks numbers values

abbrev pub values_after : ℕ → List ℕ → List ℤ → List ℤ → List ℤ
values_after n marks numbers values = settled n (outcomes_at n marks numbers values) values

-- whether the results lie within their bounds, and the values after, which have them where they do
pub record Settled (n : ℕ) (marks : List ℕ) (numbers : List ℤ) (values : List ℤ) (r : Bool) (values' : List ℤ) : Type 0 where
  pub is : r ≡ stays_in n marks numbers values
  pub values_are : values' ≡ cond (stays_in n marks numbers values) (values_after n marks numbers values) values

-- the answer r, and the arrays after, where the rows are taken if a test holds
pub record SteppedIf (test : Bool) (n m : ℕ) (marks : List ℕ) (numbers : List ℤ) (values : List ℤ) (modes : List ℕ) (r : Bool) (values' : List ℤ)
    (modes' : List ℕ) : Type 0 where
  pub is : r ≡ test
  pub values_are : values' ≡ cond test (values_after n marks numbers values) values
  pub modes_are : modes' ≡ cond test (modes_after m marks modes) modes

-- a whole step; and what is left of one behind the test of the rows
abbrev pub Stepped : ℕ → ℕ → List ℕ → List ℤ → List ℤ → List ℤ → List ℕ → Bool → List ℤ → List ℕ → Type 0
Stepped n m marks numbers sums values modes = SteppedIf (takes n m marks numbers sums values modes) n m marks numbers values modes

abbrev pub Finished : ℕ → ℕ → List ℕ → List ℤ → List ℤ → List ℕ → Bool → List ℤ → List ℕ → Type 0
Finished n m marks numbers values modes = SteppedIf (stays_in n marks numbers values) n m marks numbers values modes
