-- Document 01, "Files": where a reading of a file stands after some of its commands, and what each command changes in that.
-- Assumes nothing.
use Rattle.std.specs.Prelude.{ℕ, ◌+◌, Bool, cond, List, [], ◌∷◌, set, replicate}
use Rattle.model.specs.Limits.{restricted_limits}

-- "V and M in any mix, then actions, then G, then Z." (1 is free, for what may come between declarations and actions.)
abbrev pub in_declarations : ℕ
in_declarations = 0

abbrev pub in_action : ℕ
in_action = 2

abbrev pub in_goal : ℕ
in_goal = 3

-- what the file has declared: how many variables and modes, and the size of each mode
pub record Declarations : Type 0 where
  pub variables : ℕ
  pub modes : ℕ
  pub sizes : List ℕ

-- how much the action or goal has so far: C and K, P, numeric effects
pub record Counts : Type 0 where
  pub conditions : ℕ
  pub mode_conditions : ℕ
  pub numeric_effects : ℕ

-- what the action has touched: 1 at each mode that has its effect, at each variable that is the target of a numeric effect, and at each
-- variable that stands in a T of the last L or K
pub record Marks : Type 0 where
  pub modes_set : List ℕ
  pub targets_seen : List ℕ
  pub terms_seen : List ℕ

-- `terms`: 0 where no T may stand, else 1 plus the T's since their L or K. `bare_sum`: 1 from a K on until its first T, else 0. `sums`: the K's
-- of the file so far
pub record ReadingState : Type 0 where
  pub section : ℕ
  pub terms : ℕ
  pub bare_sum : ℕ
  pub actions : ℕ
  pub sums : ℕ
  pub declared : Declarations
  pub counts : Counts
  pub marks : Marks

-- what comes of one command: the reading goes on, it is at the end, or it stops with a refusal's number
pub data Progress : Type 0 where
  Going : Progress
  Ended : Progress
  Stopped : ℕ → Progress

pub record Taken : Type 0 where
  pub state : ReadingState
  pub progress : Progress

abbrev pub stop : ReadingState → ℕ → Taken
stop p number = record { state = p; progress = Stopped number }

abbrev pub go_on : ReadingState → Taken
go_on p = record { state = p; progress = Going }

abbrev pub finish : ReadingState → Taken
finish p = record { state = p; progress = Ended }

-- a rule: tests in the order in which they are made, each with the refusal that it gives; where none holds, what is taken
abbrev pub rule : ReadingState → List (Bool × ℕ) → Taken → Taken
rule p [] q = q
rule p (t ∷ ts) q = cond t.0 (stop p t.1) (rule p ts q)

-- ---- before anything is declared, counted or marked
abbrev pub no_modes : List ℕ
no_modes = replicate restricted_limits.modes 0

abbrev pub no_variables : List ℕ
no_variables = replicate restricted_limits.variables 0

abbrev pub none_declared : Declarations
none_declared = record { variables = 0; modes = 0; sizes = no_modes }

abbrev pub none_counted : Counts
none_counted = record { conditions = 0; mode_conditions = 0; numeric_effects = 0 }

abbrev pub none_marked : Marks
none_marked = record { modes_set = no_modes; targets_seen = no_variables; terms_seen = no_variables }

-- ---- one more of each
abbrev pub one_variable : Declarations → Declarations
one_variable d = record { variables = d.variables + 1; modes = d.modes; sizes = d.sizes }

abbrev pub one_mode : Declarations → ℕ → Declarations
one_mode d size = record { variables = d.variables; modes = d.modes + 1; sizes = set d.sizes d.modes size }

abbrev pub one_condition : Counts → Counts
one_condition c = record { conditions = c.conditions + 1; mode_conditions = c.mode_conditions; numeric_effects = c.numeric_effects }

abbrev pub one_mode_condition : Counts → Counts
one_mode_condition c = record { conditions = c.conditions; mode_conditions = c.mode_conditions + 1; numeric_effects = c.numeric_effects }

abbrev pub one_numeric_effect : Counts → Counts
one_numeric_effect c = record { conditions = c.conditions; mode_conditions = c.mode_conditions; numeric_effects = c.numeric_effects + 1 }

abbrev pub mark_mode : Marks → ℕ → Marks
mark_mode m mode = record { modes_set = set m.modes_set mode 1; targets_seen = m.targets_seen; terms_seen = m.terms_seen }

-- no T is read yet of an L or a K
abbrev pub unmark_terms : Marks → Marks
unmark_terms m = record { modes_set = m.modes_set; targets_seen = m.targets_seen; terms_seen = no_variables }

-- the target of a numeric effect, of which no T is read yet
abbrev pub mark_target : Marks → ℕ → Marks
mark_target m target = record { modes_set = m.modes_set; targets_seen = set m.targets_seen target 1; terms_seen = no_variables }

abbrev pub mark_term : Marks → ℕ → Marks
mark_term m variable = record { modes_set = m.modes_set; targets_seen = m.targets_seen; terms_seen = set m.terms_seen variable 1 }

-- ---- the state before the first command, and after each
abbrev pub begin : ReadingState
begin = record {
  section = in_declarations;
  terms = 0;
  bare_sum = 0;
  actions = 0;
  sums = 0;
  declared = none_declared;
  counts = none_counted;
  marks = none_marked;
}

-- an action or the goal begins: nothing is counted in it yet
abbrev pub opened : ReadingState → ℕ → ℕ → ReadingState
opened p section actions = record {
  section = section;
  terms = 0;
  bare_sum = p.bare_sum;
  actions = actions;
  sums = p.sums;
  declared = p.declared;
  counts = none_counted;
  marks = none_marked;
}

-- a declaration
abbrev declaring : ReadingState → Declarations → ReadingState
declaring p d = record {
  section = p.section;
  terms = 0;
  bare_sum = p.bare_sum;
  actions = p.actions;
  sums = p.sums;
  declared = d;
  counts = p.counts;
  marks = p.marks;
}

-- a command inside an action or the goal, after which `terms` is as given
abbrev inside : ReadingState → ℕ → Counts → Marks → ReadingState
inside p terms c m = record {
  section = p.section;
  terms = terms;
  bare_sum = p.bare_sum;
  actions = p.actions;
  sums = p.sums;
  declared = p.declared;
  counts = c;
  marks = m;
}

abbrev pub with_variable : ReadingState → ReadingState
with_variable p = declaring p (one_variable p.declared)

abbrev pub with_mode : ReadingState → ℕ → ReadingState
with_mode p size = declaring p (one_mode p.declared size)

abbrev pub with_condition : ReadingState → ReadingState
with_condition p = inside p 0 (one_condition p.counts) p.marks

abbrev pub with_mode_condition : ReadingState → ReadingState
with_mode_condition p = inside p 0 (one_mode_condition p.counts) p.marks

-- an effect on mode m
abbrev pub with_mode_effect : ReadingState → ℕ → ReadingState
with_mode_effect p m = inside p 0 p.counts (mark_mode p.marks m)

-- a numeric effect on variable t, after which `terms` is as given
abbrev pub with_numeric_effect : ReadingState → ℕ → ℕ → ReadingState
with_numeric_effect p t terms = inside p terms (one_numeric_effect p.counts) (mark_target p.marks t)

-- K: a condition more, of which no T is read yet
abbrev pub with_sum : ReadingState → ReadingState
with_sum p = record {
  section = p.section;
  terms = 1;
  bare_sum = 1;
  actions = p.actions;
  sums = p.sums + 1;
  declared = p.declared;
  counts = one_condition p.counts;
  marks = unmark_terms p.marks;
}

-- a T on variable v, of an L or a K
abbrev pub with_term : ReadingState → ℕ → ReadingState
with_term p v = record {
  section = p.section;
  terms = p.terms + 1;
  bare_sum = 0;
  actions = p.actions;
  sums = p.sums;
  declared = p.declared;
  counts = p.counts;
  marks = mark_term p.marks v;
}
