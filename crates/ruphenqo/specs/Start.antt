-- What a task file declares: the state before any step, and of a source task the bounds of its variables and the sizes of its modes.
-- Assumes nothing.
use Rattle.std.specs.Prelude.{ℕ, List, map, ℤ}
use Rattle.answers.specs.Answer.{Answer, given, then}
use Rattle.model.specs.Tasks.{SourceVariable, SourceTask, State}
use Rattle.model.specs.Decoding.{read_source, read_restricted}
use Rattle.model.specs.Steps.{sizes_of, source_start, restricted_start}
use Rattle.ruphenqo.specs.Told.{over, state_over}

pub record Declares : Type 0 where
  pub start : State
  pub lower : List ℤ
  pub upper : List ℤ
  pub sizes : List ℕ

abbrev pub declares_of : State → List ℤ → List ℤ → List ℕ → Declares
declares_of start lower upper sizes = record { start = start; lower = lower; upper = upper; sizes = sizes }

abbrev pub declared_by : SourceTask → Declares
declared_by t =
    declares_of (source_start t) (map (λ (b : SourceVariable). b.lower) t.variables) (map (λ (b : SourceVariable). b.upper) t.variables)
    (sizes_of t.modes)

abbrev pub start_source : List ℕ → Answer Declares
start_source file = then (read_source file) (λ t. given (declared_by t))

abbrev pub start_restricted : List ℕ → Answer State
start_restricted file = then (read_restricted file) (λ r. given (restricted_start r))

-- each in front of zeros
abbrev pub declares_over : State → Declares → Declares
declares_over zeros d =
    declares_of (state_over zeros d.start) (over zeros.values d.lower) (over zeros.values d.upper) (over zeros.modes d.sizes)
