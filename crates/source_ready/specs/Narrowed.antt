-- Rows narrowed by conditions and marked by mode effects, and what they mean then.
-- Assumes nothing.
use Rattle.std.specs.Prelude.{◌≡◌, ℕ, ◌+◌, ◌*◌, ◌≤◌, ◌<◌, Bool, cond, ◌&&◌, List, [], ◌∷◌, ◌++◌, ltb, length, take, drop, set, ℤ, pos, ◌+ℤ◌, ◌-ℤ◌}
use Rattle.std.specs.Int.Signed.{lt_z}
use Rattle.integers.specs.All.{All}
use Rattle.integers.specs.Relation.{Relation, below, at_most, at_least, above, equal}
use Rattle.model.specs.Tasks.{Measured, variable, weighted_sum, NumericCondition}
use Rattle.model.specs.Steps.{integer_at, natural_at, conditions_hold, modes_hold, set_all}
use Rattle.model.specs.TaskOk.{ValuesIn}
use Rattle.file_parts.specs.Layout.{mode_condition_room, mode_condition_count, mode_condition_mode, mode_effect_room, mode_effect_count, mode_effect_mode}
use Rattle.source_step.specs.Parts.{values_between, modes_below}
use Rattle.source_step.specs.Sizes.{VARIABLES, MODES}
use Rattle.source_step.specs.Layout.{TOP, KEEP, PUT, MANY, MOST, CONSTANT, MARKS, NUMBERS}
use Rattle.source_step.specs.Row.{values_in, modes_in, modes_after}

-- stored at i where a test says so
abbrev pub set_if : {A : Type 0} → Bool → List A → ℕ → A → List A
set_if b l i z = cond b (set l i z) l

-- ---- the variables
-- number i at most, at least z
unfoldable pub capped : List ℤ → ℕ → ℤ → List ℤ
capped l i z = set_if (lt_z z (integer_at l i)) l i z

unfoldable pub raised : List ℤ → ℕ → ℤ → List ℤ
raised l i z = set_if (lt_z (integer_at l i) z) l i z

-- the values of variable i narrowed to those that stand in a relation to c
abbrev pub narrowed : Relation → List ℤ → ℕ → ℤ → List ℤ
narrowed below l i c = capped l (MOST + i) (c -ℤ pos 1)
narrowed at_most l i c = capped l (MOST + i) c
narrowed at_least l i c = raised l i c
narrowed above l i c = raised l i (c +ℤ pos 1)
narrowed equal l i c = capped (raised l i c) (MOST + i) c

abbrev pub narrowed_on : Measured ℕ → Relation → ℤ → List ℤ → List ℤ
narrowed_on (variable i) r c l = narrowed r l i c
narrowed_on (weighted_sum ts) r c l = l

abbrev pub narrowed_all : List (NumericCondition ℕ) → List ℤ → List ℤ
narrowed_all [] l = l
narrowed_all (c ∷ cs) l = narrowed_all cs (narrowed_on c.measured c.relation c.constant l)

-- a condition on a variable, of n, as every C is
abbrev pub VariableIn : ℕ → Measured ℕ → Type 0
VariableIn n (variable i) = i < n
VariableIn n (weighted_sum ts) = ⊥

abbrev pub OnVariable : ℕ → NumericCondition ℕ → Type 0
OnVariable n c = VariableIn n c.measured

-- the bounds of the first k variables stand in a row; from the effects on it is as before
pub record BoundsPut (k : ℕ) (lower upper : List ℤ) (numbers numbers' : List ℤ) : Type 0 where
  pub long : length numbers' ≡ NUMBERS
  pub leasts : (i : ℕ) → i < k → integer_at numbers' i ≡ integer_at lower i
  pub mosts : (i : ℕ) → i < k → integer_at numbers' (MOST + i) ≡ integer_at upper i
  pub rest : (j : ℕ) → CONSTANT ≤ j → integer_at numbers' j ≡ integer_at numbers j

-- the row asks that the values of a state lie within the bounds and that the conditions hold
pub record RangesPut (lower upper : List ℤ) (cs : List (NumericCondition ℕ)) (numbers numbers' : List ℤ) : Type 0 where
  pub long : length numbers' ≡ NUMBERS
  pub values : (n : ℕ) → n ≤ VARIABLES → All (OnVariable n) cs → (x : List ℤ)
      → values_in n numbers' x ≡ (values_between n lower upper x && conditions_hold cs (integer_at (take n x)))
  pub rest : (j : ℕ) → CONSTANT ≤ j → integer_at numbers' j ≡ integer_at numbers j

-- ---- the modes
unfoldable pub capped_mark : List ℕ → ℕ → ℕ → List ℕ
capped_mark l i z = set_if (ltb z (natural_at l i)) l i z

unfoldable pub raised_mark : List ℕ → ℕ → ℕ → List ℕ
raised_mark l i z = set_if (ltb (natural_at l i) z) l i z

-- the values of mode i narrowed to v
abbrev pub held : List ℕ → ℕ → ℕ → List ℕ
held l i v = capped_mark (raised_mark l i v) (TOP + i) v

abbrev pub held_all : List (ℕ × ℕ) → List ℕ → List ℕ
held_all [] l = l
held_all (p ∷ ps) l = held_all ps (held l p.0 p.1)

-- mode i marked as set to v
abbrev pub marked : List ℕ → ℕ → ℕ → List ℕ
marked l i v = set (set l (KEEP + i) 0) (PUT + i) v

abbrev pub marked_all : List (ℕ × ℕ) → List ℕ → List ℕ
marked_all [] l = l
marked_all (e ∷ es) l = marked_all es (marked l e.0 e.1)

-- the modes of a parts row, counted at a place and standing from another on, are below `most`, and there is room for them
pub record Indexed (most room count mode : ℕ) (parts : List ℕ) : Type 0 where
  pub few : natural_at parts count ≤ room
  pub each : (i : ℕ) → i < natural_at parts count → natural_at parts (mode + i) < most

-- both those of its P and those of its E
pub record ModesIndexed (parts : List ℕ) : Type 0 where
  pub conditions : Indexed MODES mode_condition_room mode_condition_count mode_condition_mode parts
  pub effects : Indexed MODES mode_effect_room mode_effect_count mode_effect_mode parts

-- the sizes of m modes of a source task
pub record SizesFit (m : ℕ) (sizes : List ℕ) : Type 0 where
  pub few : m ≤ MODES
  pub some : (i : ℕ) → i < m → 1 ≤ natural_at sizes i
  pub small : (i : ℕ) → i < m → natural_at sizes i ≤ 16

-- the first k modes may have every value below their sizes, and stay
pub record SizesPut (k : ℕ) (sizes : List ℕ) (marks marks' : List ℕ) : Type 0 where
  pub long : length marks' ≡ MARKS
  pub mosts : (i : ℕ) → i < k → natural_at marks' (TOP + i) + 1 ≡ natural_at sizes i
  pub stay : (i : ℕ) → i < k → natural_at marks' (KEEP + i) ≡ 1
  pub leasts : (i : ℕ) → i < MODES → natural_at marks' i ≡ natural_at marks i
  pub others : (i : ℕ) → k ≤ i → i < MODES → natural_at marks' (KEEP + i) ≡ natural_at marks (KEEP + i)
  pub rest : (j : ℕ) → PUT ≤ j → natural_at marks' j ≡ natural_at marks j

-- marks that are 0 as far as they are about modes
abbrev pub NoModes : List ℕ → Type 0
NoModes marks = (j : ℕ) → j < MANY → natural_at marks j ≡ 0

-- marks that were such ask that the modes of a state are below their sizes and that the conditions hold, and set them as the effects do
pub record ModesPut (m : ℕ) (sizes : List ℕ) (ps es : List (ℕ × ℕ)) (marks marks' : List ℕ) : Type 0 where
  pub long : length marks' ≡ MARKS
  pub rest : (j : ℕ) → MANY ≤ j → natural_at marks' j ≡ natural_at marks j
  pub modes : NoModes marks → ValuesIn (take m sizes) ps → (x : List ℕ)
      → modes_in m marks' x ≡ (modes_below m sizes x && modes_hold ps (natural_at (take m x)))
  pub sets : NoModes marks → ValuesIn (take m sizes) es → (x : List ℕ) → m ≤ length x
      → modes_after m marks' x ≡ set_all es (take m x) ++ drop m x
  pub stays : NoModes marks → ValuesIn (take m sizes) es → (i : ℕ) → i < m → (y : ℕ) → y < natural_at sizes i
      → y * natural_at marks' (KEEP + i) + natural_at marks' (PUT + i) < natural_at sizes i
  pub keeps : NoModes marks → ValuesIn (take m sizes) es → (i : ℕ) → i < MODES
      → natural_at marks' (KEEP + i) * 65535 + natural_at marks' (PUT + i) ≤ 65535
