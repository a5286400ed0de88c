-- The expansion of a plan by the rows of a task's actions, and what the parts of expanding make.
-- Assumes nothing.
use Rattle.std.specs.Prelude.{◌≡◌, ℕ, ◌*◌, ◌≤◌, ◌<◌, Bool, true, cond, ◌&&◌, List, [], ◌∷◌, ◌++◌, ltb, length, get_or, ℤ, Result, Ok, Err}
use Rattle.answers.specs.Answer.{given}
use Rattle.answers.specs.Lent.{Lent}
use Rattle.answers.specs.declared.Refusal.{Refusal}
use Rattle.answers.specs.declared.Reason.TheVariants.{OverMillion}
use Rattle.model.specs.Tasks.{State}
use Rattle.model.specs.Plans.{plan_bytes_of}
use Rattle.source_step.specs.Row.{stays_in, values_after, modes_after}
use Rattle.source_step.specs.Table.{Table, takes_by, after_by, effects_by, values_by}
use Rattle.plan_strokes.specs.Strokes.{strokes_of, step_numbers}
use Rattle.plan_strokes.specs.Opening.{Opened}
use Rattle.source_walk.specs.Walk.{most}

-- how many bytes the expansion of a judged plan has, or why there is none
abbrev pub length_of : Result ℕ Refusal → ℕ → ℕ → Result ℕ Refusal
length_of (Ok steps) price passing = cond (ltb most price) (Err (record { reason = OverMillion; place = passing })) (Ok (2 * price))
length_of (Err r) price passing = Err r

-- ---- openings
abbrev pub opening_in : List ℕ → ℕ → ℕ
opening_in openings k = get_or openings k 0

abbrev pub OpeningsFew : ℕ → List ℕ → Type 0
OpeningsFew count openings = (k : ℕ) → k < count → opening_in openings k ≤ 65000

-- each step is one of so many actions
abbrev pub Named : List ℕ → ℕ → Type 0
Named p count = (i : ℕ) → i < length p → get_or p i 0 < count

-- ---- the rest of a step behind the test of its rows was taken, if it applies
pub record TurnTaken (n m : ℕ) (marks : List ℕ) (numbers : List ℤ) (values : List ℤ) (modes : List ℕ) (values' : List ℤ) (modes' : List ℕ) : Type 0 where
  pub values_are : stays_in n marks numbers values ≡ true → values' ≡ values_after n marks numbers values
  pub modes_are : stays_in n marks numbers values ≡ true → modes' ≡ modes_after m marks modes

-- ---- plans, from a state on
module _ (T : Table) where
  -- each step applies in the state that the one before left
  unfoldable pub goes_by : List ℕ → State → Bool
  goes_by [] x = true
  goes_by (k ∷ ks) x = ltb k T.count && (takes_by T x k && goes_by ks (after_by T x k))

  -- the numbers that step k becomes
  abbrev pub numbers_by : List ℕ → State → ℕ → List ℕ
  numbers_by openings x k = step_numbers (opening_in openings k) (strokes_of (effects_by T k) (values_by T x))

  -- the expansion of a plan whose steps apply
  unfoldable pub expansion_by : List ℕ → List ℕ → State → List ℕ
  expansion_by openings [] x = []
  expansion_by openings (k ∷ ks) x = numbers_by openings x k ++ expansion_by openings ks (after_by T x k)

  -- required of a plan whose expansion has these bytes: its steps apply, and the bytes are so many
  pub record Expands (p : List ℕ) (x : State) (bytes : ℕ) : Type 0 where
    pub goes : goes_by p x ≡ true
    pub long : (openings : List ℕ) → 2 * length (expansion_by openings p x) ≡ bytes

  abbrev pub Expandable : List ℕ → State → Result ℕ Refusal → Type 0
  Expandable p x (Ok bytes) = Expands p x bytes
  Expandable p x (Err r) = Unit {0}

  -- ensured: it was written, by the numbers of the openings of the rows' actions
  pub record Expanded (p : List ℕ) (x : State) (old after : List ℕ) (r : Result ℕ Refusal) : Type 0 where
    pub openings : List ℕ
    pub opens : Opened T.marks T.count openings
    pub lent : Lent old (given (plan_bytes_of (expansion_by openings p x))) after r

  abbrev pub ExpandedTo : List ℕ → State → Result ℕ Refusal → List ℕ → List ℕ → Result ℕ Refusal → Type 0
  ExpandedTo p x (Ok bytes) old after r = Expanded p x old after r
  ExpandedTo p x (Err refusal) old after r = (r ≡ Err refusal) × (after ≡ old)
