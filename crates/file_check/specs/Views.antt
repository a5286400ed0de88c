-- What the code's types mean in the definitions: limits, the state of a reading, what comes of a command, the answer to a file.
-- Assumes nothing.
use Rattle.std.specs.Prelude.{ℕ, Bool, false, cond, not, ◌≡◌, eqb, leb, Result, Ok, Err}
use Rattle.answers.specs.Refusals.{number_of}
use Rattle.answers.specs.declared.Reason.{Reason}
use Rattle.answers.specs.declared.Refusal.{Refusal}
use Rattle.commands.specs.Table.{letter_t}
use Rattle.commands.specs.declared.Command.{Command}
use Rattle.model.specs.Limits.{Limits as ModelLimits}
use Rattle.model.specs.ReadingState.{in_declarations, in_action, in_goal, ReadingState, Taken as ModelTaken}
use Rattle.model.specs.ReadingState.{Progress as ModelProgress, Going as going, Ended as ended, Stopped as stopped}
use Rattle.model.specs.Rules.{own_rule_of}
use Rattle.model.specs.Reading.{Verdict as ModelVerdict, Accepted as accepted, Rejected as rejected}
use Rattle.file_check.specs.declared.Limits.{Limits}
use Rattle.file_check.specs.declared.Section.{Section}
use Rattle.file_check.specs.declared.Section.TheVariants.{Declarations, Action, Goal}
use Rattle.file_check.specs.declared.Reading.{Reading}
use Rattle.file_check.specs.declared.Progress.{Progress}
use Rattle.file_check.specs.declared.Progress.TheVariants.{Going, Ended}
use Rattle.file_check.specs.declared.Accepted.{Accepted}

abbrev pub limits_of : Limits → ModelLimits
limits_of l = record {
  restricted = l.restricted;
  variables = l.variables;
  modes = l.modes;
  size = l.size;
  actions = l.actions;
  conditions = l.conditions;
  mode_conditions = l.mode_conditions;
  numeric_effects = l.numeric_effects;
  terms = l.terms;
  constant = l.constant;
  relations = l.relations;
  sums = l.sums;
  sum_constant = l.sum_constant;
}

-- the sections by the definitions' numbers, and a flag as theirs
abbrev pub number_of_section : Section → ℕ
number_of_section Declarations = in_declarations
number_of_section Action = in_action
number_of_section Goal = in_goal

abbrev pub flag_of : Bool → ℕ
flag_of flag = cond flag 1 0

abbrev pub state_of : Reading → ReadingState
state_of p = record {
  section = number_of_section p.counts.section;
  terms = p.counts.terms;
  bare_sum = flag_of p.counts.bare_sum;
  actions = p.counts.actions;
  sums = p.counts.sums;
  declared = record { variables = p.counts.variables; modes = p.counts.modes; sizes = p.sizes };
  counts = record {
    conditions = p.counts.conditions;
    mode_conditions = p.counts.mode_conditions;
    numeric_effects = p.counts.numeric_effects;
  };
  marks = record { modes_set = p.modes_set; targets_seen = p.targets_seen; terms_seen = p.terms_seen };
}

abbrev pub progress_of : Result Progress Reason → ModelProgress
progress_of (Ok Going) = going
progress_of (Ok Ended) = ended
progress_of (Err reason) = stopped (number_of reason)

-- what a command leaves and answers
abbrev pub taken_of : Reading → Result Progress Reason → ModelTaken
taken_of p r = record { state = state_of p; progress = progress_of r }

-- of a reading that stood at p, a command leaves q and answers r, as its own rule says
abbrev pub Ruled : Limits → Reading → Command → Reading → Result Progress Reason → Type 0
Ruled l p c q r = taken_of q r ≡ own_rule_of (limits_of l) (state_of p) c

-- whether a command with the byte stands where a T must: the K before it has none yet, in a file that is not restricted
abbrev pub lacks_term : Bool → ℕ → ℕ → Bool
lacks_term restricted bare_sum byte = cond (leb 1 bare_sum) (cond restricted false (not (eqb byte letter_t))) false

abbrev pub verdict_is : Result Accepted Refusal → ModelVerdict
verdict_is (Ok a) = accepted a.variables a.modes a.actions
verdict_is (Err r) = rejected (number_of r.reason) r.place
