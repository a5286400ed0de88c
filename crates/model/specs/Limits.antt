-- Document 01, "Files": the limits of each kind of file.
-- Assumes nothing.
use Rattle.std.specs.Prelude.{ℕ, Bool, true, false}

-- `restricted`: U in place of V, no L T Q R, several + an action. `size`: of a mode. `conditions` and `mode_conditions`: C and P of an action
-- or goal. `numeric_effects`: of an action, which in a restricted one are its +. `terms`: T of an L or a K. `constant`: every constant, bound
-- and start lies within ± it. `relations`: the largest relation. `sums`: K of a task. `sum_constant`: every constant of a K lies within ± it
pub record Limits : Type 0 where
  pub restricted : Bool
  pub variables : ℕ
  pub modes : ℕ
  pub size : ℕ
  pub actions : ℕ
  pub conditions : ℕ
  pub mode_conditions : ℕ
  pub numeric_effects : ℕ
  pub terms : ℕ
  pub constant : ℕ
  pub relations : ℕ
  pub sums : ℕ
  pub sum_constant : ℕ

abbrev pub source_limits : Limits
source_limits = record {
  restricted = false;
  variables = 8;
  modes = 4;
  size = 16;
  actions = 32;
  conditions = 8;
  mode_conditions = 8;
  numeric_effects = 3;
  terms = 4;
  constant = 10_000;
  relations = 4;
  sums = 4;
  sum_constant = 1_000_000_000;
}

abbrev pub restricted_limits : Limits
restricted_limits = record {
  restricted = true;
  variables = 64;
  modes = 8;
  size = 8192;
  actions = 16_384;
  conditions = 24;
  mode_conditions = 16;
  numeric_effects = 16;
  terms = 0;
  constant = 1_000_000_000;
  relations = 3;
  sums = 0;
  sum_constant = 0;
}
