-- Document 01, "Lowering": what each source action becomes, stage by stage. Variables go by name here (a source variable, A, B); their
-- numbers in R's file come in Lowering. Control is kept apart from the source's modes.
-- Assumes nothing.
use Rattle.std.specs.Prelude.{ℕ, zero, suc, ◌+◌, ◌-◌, Bool, true, false, cond, List, [], ◌∷◌, ◌++◌, length, ltb, ℤ, pos, negsuc, neg_ℤ, ◌-ℤ◌}
use Rattle.std.proofs.Math.Option.{Option, none, some}
use Rattle.std.specs.Int.Signed.{lt_z}
use Rattle.integers.specs.Division.{unit_less, sign}
use Rattle.integers.specs.Relation.{Relation, at_most, at_least}
use Rattle.model.specs.Tasks.{Measured, variable, weighted_sum, NumericCondition, Effect, add_effect, linear_effect, quotient_effect, residue_effect}
use Rattle.model.specs.Tasks.{SourceAction}
use Rattle.model.specs.Steps.{target}

-- R's variables by name: the source's, then A and B, then the holds
pub data Name : Type 0 where
  source : ℕ → Name
  helper_a : Name
  helper_b : Name
  hold : ℕ → Name

-- an action of R: `control` is the value of control that it needs, `next_control` the one that it leaves
pub record NamedAction : Type 0 where
  pub control : ℕ
  pub mode_conditions : List (ℕ × ℕ)
  pub conditions : List (NumericCondition Name)
  pub mode_effects : List (ℕ × ℕ)
  pub next_control : ℕ
  pub additions : List (Name × ℤ)

-- ---- a stage
-- what falling takes from the counter: 1, or in Divide |c|, given as |c| − 1
pub data StageKind : Type 0 where
  by_one : StageKind
  by_unit : ℕ → StageKind

-- the most that the turn leaves in the counter
abbrev pub left_over : StageKind → ℕ
left_over by_one = zero
left_over (by_unit u) = u

-- A stage: its counter; what falling adds, the counter's own loss among it; what the turn needs besides, and adds.
pub record Stage : Type 0 where
  pub counter : Name
  pub kind : StageKind
  pub additions : List (Name × ℤ)
  pub turn_conditions : List (NumericCondition Name)
  pub turn_additions : List (Name × ℤ)

abbrev pub opposite : List (Name × ℤ) → List (Name × ℤ)
opposite [] = []
opposite (e ∷ es) = (e.0, neg_ℤ e.1) ∷ opposite es

abbrev pub when : Name → Relation → ℤ → NumericCondition Name
when v r c = record { measured = variable v; relation = r; constant = c }

-- "falling needs its counter ≥ 1" (Divide: A ≥ |c|)
abbrev pub falling : ℕ → Stage → NamedAction
falling s d = record {
  control = s;
  mode_conditions = [];
  conditions = when d.counter at_least (pos (suc (left_over d.kind))) ∷ [];
  mode_effects = [];
  next_control = s;
  additions = d.additions;
}

-- "rising needs ≤ −1 and adds the opposites"
abbrev pub rising : ℕ → Stage → NamedAction
rising s d = record {
  control = s;
  mode_conditions = [];
  conditions = when d.counter at_most (negsuc 0) ∷ [];
  mode_effects = [];
  next_control = s;
  additions = opposite d.additions;
}

-- "turn needs ≥ 0 and ≤ 0, written so" (Divide: 0 ≤ A ≤ |c|−1); it sets the next stage
abbrev pub turn : ℕ → Stage → ℕ → NamedAction
turn s d next = record {
  control = s;
  mode_conditions = [];
  conditions = when d.counter at_least (pos 0) ∷ when d.counter at_most (pos (left_over d.kind)) ∷ d.turn_conditions;
  mode_effects = [];
  next_control = next;
  additions = d.turn_additions;
}

-- "stages of three actions each: falling, rising, turn"; the first two move the counter
abbrev pub stroke_actions : ℕ → Stage → List NamedAction
stroke_actions s d = falling s d ∷ rising s d ∷ []

abbrev pub stage_actions : ℕ → Stage → ℕ → List NamedAction
stage_actions s d next = stroke_actions s d ++ (turn s d next ∷ [])

-- the turn's place among a stage's actions
abbrev pub turn_place : StageKind → ℕ
turn_place by_one = 2
turn_place (by_unit u) = 2

-- control on entering stages numbered from s; 0 (rest) where there is none
abbrev pub first_stage : ℕ → List Stage → ℕ
first_stage s [] = zero
first_stage s (d ∷ ds) = s

-- the actions of stages numbered from s: the last turn sets control to 0, "any other turn sets the next stage"
abbrev pub stages_actions : ℕ → List Stage → List NamedAction
stages_actions s [] = []
stages_actions s (d ∷ ds) = stage_actions s d (first_stage (suc s) ds) ++ stages_actions (suc s) ds

abbrev pub count_actions : List Stage → ℕ
count_actions [] = zero
count_actions (d ∷ ds) = suc (turn_place d.kind) + count_actions ds

-- ---- the kinds of stage
abbrev pub unit_stage : Name → List (Name × ℤ) → List (NumericCondition Name) → Stage
unit_stage c es conditions = record { counter = c; kind = by_one; additions = es; turn_conditions = conditions; turn_additions = [] }

-- "Drain (variable ≥ 1: variable −1, A + weight, B +1)"
abbrev pub drain : ℕ → ℤ → Stage
drain t w = unit_stage (source t) ((source t, negsuc 0) ∷ (helper_a, w) ∷ (helper_b, pos 1) ∷ []) []

-- "Refill (B ≥ 1: B −1, variable +1)"
abbrev pub refill : ℕ → Stage
refill t = unit_stage helper_b ((source t, pos 1) ∷ (helper_b, negsuc 0) ∷ []) []

-- "Divide, with s the sign of c (A ≥ |c|: A − |c|, B + s; rising A ≤ −1: A + |c|, B − s; turn 0 ≤ A ≤ |c|−1)"
abbrev pub divide : ℤ → Stage
divide c = record {
  counter = helper_a;
  kind = by_unit (unit_less c);
  additions = (helper_a, negsuc (unit_less c)) ∷ (helper_b, sign c) ∷ [];
  turn_conditions = [];
  turn_additions = [];
}

-- "Empty (Q: A −1, R: B −1)"
abbrev pub empty : Name → Stage
empty v = unit_stage v ((v, negsuc 0) ∷ []) []

-- "Clear (target −1)"
abbrev pub clear : ℕ → Stage
clear t = unit_stage (source t) ((source t, negsuc 0) ∷ []) []

-- "Move (.. source −1, target +1)"; "The turn of Move also needs target ≥ lower, then ≤ upper"
abbrev pub move : ℕ → Name → ℤ → ℤ → Stage
move t from lower upper = unit_stage from ((source t, pos 1) ∷ (from, negsuc 0) ∷ []) (when (source t) at_least lower ∷ when (source t) at_most upper ∷ [])

-- "a Move without bound test into the next hold": hold j; its turn enters the next effect's stages, and adds what that takes
abbrev pub move_to_hold : ℕ → Name → List (Name × ℤ) → Stage
move_to_hold j from entering =
    record { counter = from; kind = by_one; additions = (from, negsuc 0) ∷ (hold j, pos 1) ∷ []; turn_conditions = []; turn_additions = entering }

-- "for each term of L: Drain, Refill"
abbrev pub drain_terms : List (ℕ × ℤ) → List Stage → List Stage
drain_terms [] rest = rest
drain_terms (t ∷ ts) rest = drain t.0 t.1 ∷ refill t.0 ∷ drain_terms ts rest

-- an effect's stages before Clear, in front of others; "such an action treats + as L with weight 1"
abbrev pub result_stages : Effect → List Stage → List Stage
result_stages (add_effect t c) rest = drain_terms ((t, pos 1) ∷ []) rest
result_stages (linear_effect t w ts) rest = drain_terms ts rest
result_stages (quotient_effect t y c) rest = drain y (pos 1) ∷ refill y ∷ divide c ∷ empty helper_a ∷ rest
result_stages (residue_effect t y c) rest = drain y (pos 1) ∷ refill y ∷ divide c ∷ empty helper_b ∷ rest

-- where they leave the result. "Move (Q: from B, else from A ..)"
abbrev pub result_in : Effect → Name
result_in (add_effect t c) = helper_a
result_in (linear_effect t w ts) = helper_a
result_in (quotient_effect t y c) = helper_b
result_in (residue_effect t y c) = helper_a

-- ---- openings and single actions
-- "A += w0 where w0 is not 0"
abbrev pub add_to_a : ℤ → List (Name × ℤ)
add_to_a (pos zero) = []
add_to_a (pos (suc n)) = (helper_a, pos (suc n)) ∷ []
add_to_a (negsuc n) = (helper_a, negsuc n) ∷ []

-- "the action that enters an effect's stages adds its w0 to A"; of + "w0 = c"
abbrev pub entering_additions : Effect → List (Name × ℤ)
entering_additions (add_effect t c) = add_to_a c
entering_additions (linear_effect t w ts) = add_to_a w
entering_additions (quotient_effect t y c) = []
entering_additions (residue_effect t y c) = []

-- of a single effect: + adds to its target at once
abbrev pub single_additions : Effect → List (Name × ℤ)
single_additions (add_effect t c) = (source t, c) ∷ []
single_additions (linear_effect t w ts) = add_to_a w
single_additions (quotient_effect t y c) = []
single_additions (residue_effect t y c) = []

-- what the first restricted action adds
abbrev pub opening_additions : List Effect → List (Name × ℤ)
opening_additions [] = []
opening_additions (e ∷ []) = single_additions e
opening_additions (e ∷ f ∷ es) = entering_additions e

-- behind an effect's stages: what entering the next one's adds
abbrev pub next_additions : List Effect → List (Name × ℤ)
next_additions [] = []
next_additions (e ∷ es) = entering_additions e

-- "Effect by effect it runs that effect's stages before Clear, then a Move .. into the next hold, from the first on": hold j on, in front of others
abbrev pub hold_stages : ℕ → List Effect → List Stage → List Stage
hold_stages j [] rest = rest
hold_stages j (e ∷ es) rest = result_stages e (move_to_hold j (result_in e) (next_additions es) ∷ hold_stages (suc j) es rest)

-- the source's conditions, over R's variables
abbrev pub on_source_terms : List (ℕ × ℤ) → List (Name × ℤ)
on_source_terms [] = []
on_source_terms (t ∷ ts) = (source t.0, t.1) ∷ on_source_terms ts

abbrev pub on_source : Measured ℕ → Measured Name
on_source (variable i) = variable (source i)
on_source (weighted_sum ts) = weighted_sum (on_source_terms ts)

abbrev pub on_source_variables : List (NumericCondition ℕ) → List (NumericCondition Name)
on_source_variables [] = []
on_source_variables (c ∷ cs) = record { measured = on_source c.measured; relation = c.relation; constant = c.constant } ∷ on_source_variables cs

-- the number of an action, one further on
abbrev pub later : Option ℕ → Option ℕ
later none = none
later (some a) = some (suc a)

module _ (lower upper : ℕ → ℤ) where
  -- Clear, and Move with its bound test
  abbrev pub set_stages : Name → ℕ → List Stage → List Stage
  set_stages from t rest = clear t ∷ move t from (lower t) (upper t) ∷ rest

  -- "Then each target in file order gets Clear and a Move from its hold, with its bound test"
  abbrev pub unload_stages : ℕ → List Effect → List Stage
  unload_stages j [] = []
  unload_stages j (e ∷ es) = set_stages (hold j) (target e) (unload_stages (suc j) es)

  -- the stages of a single effect, in order; none where the action stays one action
  abbrev pub single_stages : Effect → List Stage
  single_stages (add_effect t c) = []
  single_stages (linear_effect t w ts) = result_stages (linear_effect t w ts) (set_stages helper_a t [])
  single_stages (quotient_effect t y c) = result_stages (quotient_effect t y c) (set_stages helper_b t [])
  single_stages (residue_effect t y c) = result_stages (residue_effect t y c) (set_stages helper_a t [])

  -- the stages of an action's effects, in order
  abbrev pub stages_of : List Effect → List Stage
  stages_of [] = []
  stages_of (e ∷ []) = single_stages e
  stages_of (e ∷ f ∷ es) = hold_stages 0 (e ∷ f ∷ es) (unload_stages 0 (e ∷ f ∷ es))

  -- "with one bound more: c > 0 variable ≤ upper − c; c < 0 variable ≥ lower − c"
  abbrev pub single_bound : Effect → List (NumericCondition Name)
  single_bound (add_effect t c) = cond (lt_z (pos 0) c) (when (source t) at_most (upper t -ℤ c)) (when (source t) at_least (lower t -ℤ c)) ∷ []
  single_bound (linear_effect t w ts) = []
  single_bound (quotient_effect t y c) = []
  single_bound (residue_effect t y c) = []

  abbrev pub added_bound : List Effect → List (NumericCondition Name)
  added_bound [] = []
  added_bound (e ∷ []) = single_bound e
  added_bound (e ∷ f ∷ es) = []

  -- the single action or the opening of a source action, its stages, if any, being numbered from s
  abbrev pub opening_action : ℕ → SourceAction → NamedAction
  opening_action s a = record {
    control = zero;
    mode_conditions = a.mode_conditions;
    conditions = on_source_variables a.conditions ++ added_bound a.effects;
    mode_effects = a.mode_effects;
    next_control = first_stage s (stages_of a.effects);
    additions = opening_additions a.effects;
  }

  abbrev pub macro : ℕ → SourceAction → List NamedAction
  macro s a = opening_action s a ∷ stages_actions s (stages_of a.effects)

  -- "What one source action becomes stands together, in source order." Stages are numbered from s, which is 1 for a whole task
  abbrev pub lower_actions : ℕ → List SourceAction → List NamedAction
  lower_actions s [] = []
  lower_actions s (a ∷ acts) = macro s a ++ lower_actions (s + length (stages_of a.effects)) acts

  -- "the count of all stages"
  abbrev pub stage_count : List SourceAction → ℕ
  stage_count [] = zero
  stage_count (a ∷ acts) = length (stages_of a.effects) + stage_count acts

  -- ---- the number in R of the opening or single action of source action k; and back, none for an action of a stage
  abbrev pub macro_size : SourceAction → ℕ
  macro_size a = suc (count_actions (stages_of a.effects))

  abbrev pub opening : List SourceAction → ℕ → ℕ
  opening [] k = k
  opening (a ∷ acts) zero = zero
  opening (a ∷ acts) (suc k) = macro_size a + opening acts k

  abbrev pub source_number : List SourceAction → ℕ → Option ℕ
  source_number [] k = none
  source_number (a ∷ acts) zero = some zero
  source_number (a ∷ acts) (suc k) = cond (ltb (suc k) (macro_size a)) none (later (source_number acts (suc k - macro_size a)))

-- ---- the holds
abbrev pub several : List Effect → Bool
several [] = false
several (e ∷ []) = false
several (e ∷ f ∷ es) = true

-- "Where some action has two or more, R gains three holds"
abbrev pub hold_count : List SourceAction → ℕ
hold_count [] = zero
hold_count (a ∷ acts) = cond (several a.effects) 3 (hold_count acts)
