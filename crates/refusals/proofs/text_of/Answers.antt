-- `refusals::text_of` meets its contract: each arm has the text of its reason's number. Assumes nothing.
use Rattle.refusals.proofs.Texts.{text-of}
use Rattle.refusals.proofs.text_of.Goals as goal

pub returns-in-NotAllowed : goal.returns-in-NotAllowed
returns-in-NotAllowed c = text-of c.in-NotAllowed.is

pub returns-in-CutShort : goal.returns-in-CutShort
returns-in-CutShort c = text-of c.in-CutShort.is

pub returns-in-BytesBehind : goal.returns-in-BytesBehind
returns-in-BytesBehind c = text-of c.in-BytesBehind.is

pub returns-in-OverLimit : goal.returns-in-OverLimit
returns-in-OverLimit c = text-of c.in-OverLimit.is

pub returns-in-Undeclared : goal.returns-in-Undeclared
returns-in-Undeclared c = text-of c.in-Undeclared.is

pub returns-in-OutOfRange : goal.returns-in-OutOfRange
returns-in-OutOfRange c = text-of c.in-OutOfRange.is

pub returns-in-NamedTwice : goal.returns-in-NamedTwice
returns-in-NamedTwice c = text-of c.in-NamedTwice.is

pub returns-in-OutputShort : goal.returns-in-OutputShort
returns-in-OutputShort c = text-of c.in-OutputShort.is

pub returns-in-OverMillion : goal.returns-in-OverMillion
returns-in-OverMillion c = text-of c.in-OverMillion.is

pub returns-in-PlanLength : goal.returns-in-PlanLength
returns-in-PlanLength c = text-of c.in-PlanLength.is

pub returns-in-NoAction : goal.returns-in-NoAction
returns-in-NoAction c = text-of c.in-NoAction.is

pub returns-in-DoesNotApply : goal.returns-in-DoesNotApply
returns-in-DoesNotApply c = text-of c.in-DoesNotApply.is

pub returns-in-GoalNotMet : goal.returns-in-GoalNotMet
returns-in-GoalNotMet c = text-of c.in-GoalNotMet.is

pub returns-in-SumWithoutTerm : goal.returns-in-SumWithoutTerm
returns-in-SumWithoutTerm c = text-of c.in-SumWithoutTerm.is
