-- `lowering_stages::push_opening` meets its contract: control before, the effects, control after. Assumes nothing.
use mathlib.Core.List.{List}
use Rattle.model.specs.Tasks.{Effect, RestrictedAction}
use Rattle.file_parts.specs.Row.{row_is}
use Rattle.file_parts.specs.With.{with_mode_effect}
use Rattle.file_parts.proofs.Pushing.{pushed}
use Rattle.file_actions.specs.Views.{effects_is}
use Rattle.lowering_stages.specs.Shapes.{lower_of, upper_of}
use Rattle.lowering_stages.specs.Openings.{with_numeric}
use Rattle.lowering_stages.proofs.Rows.{said}
use Rattle.lowering_stages.proofs.Openings.{asked-room, opened-room, single-is, macro-opens}
use Rattle.lowering_stages.proofs.push_opening.Goals as goal
use Rattle.lowering_stages.proofs.push_opening.Lts as lts
use Rattle.lowering_stages.proofs.push_opening.Reads as reads
use Rattle.lowering_stages.proofs.push_opening.Tie as tie

-- what the rows say before, and an action with what effects need and add
abbrev row : lts.Start tie.the-claims reads.Pre reads.Post → RestrictedAction
row s = row_is s.args.marks.now s.args.numbers.now

abbrev more : lts.Start tie.the-claims reads.Pre reads.Post → RestrictedAction → List Effect → RestrictedAction
more s x es = with_numeric s.args.a (lower_of s.args.shape) (upper_of s.args.shape) es x

pub push_numeric-requires : goal.push_numeric-requires
push_numeric-requires c =
    let one = c.push_mode_condition.ensures c.args.numbers.now c.requires.1 in
    (asked-room c.args.numbers.now (c.args.control, 0) c.requires.0 one, c.requires.1, c.requires.2, c.requires.3)

pub returns-then-next-eq0 : goal.returns-then-next-eq0
returns-then-next-eq0 c =
    let s = c.before.before.before.before.before.before in
    let numbers = s.args.numbers.now in
    let lower = lower_of s.args.shape in
    let upper = upper_of s.args.shape in
    let es = effects_is s.args.effects in
    let one = c.push_mode_condition.ensures numbers s.requires.1 in
    let two = pushed one (more s) {y = es} c.push_numeric.ensures in
    said (single-is s.args.a s.args.control s.args.next lower upper es (row s) c.if-next-eq0.true) two

pub push_mode_effect-requires : goal.push_mode_effect-requires
push_mode_effect-requires c =
    let numbers = c.args.numbers.now in
    let es = effects_is c.args.effects in
    let one = c.push_mode_condition.ensures numbers c.requires.1 in
    let two = pushed one (more c.before.before.before.before.before.before.before) {y = es} c.push_numeric.ensures in
    opened-room numbers c.requires.0 c.args.a (lower_of c.args.shape) (upper_of c.args.shape) es (c.args.control, 0) two

pub returns : goal.returns
returns c =
    let s = c.before.before.before.before.before.before.before.before in
    let numbers = s.args.numbers.now in
    let lower = lower_of s.args.shape in
    let upper = upper_of s.args.shape in
    let es = effects_is s.args.effects in
    let one = c.push_mode_condition.ensures numbers s.requires.1 in
    let two = pushed one (more s) {y = es} c.push_numeric.ensures in
    said (macro-opens s.args.a s.args.control s.args.next lower upper es (row s) c.if-next-eq0.false)
    (pushed two with_mode_effect (c.push_mode_effect.ensures c.push_numeric.new.numbers two.numbers_long))
