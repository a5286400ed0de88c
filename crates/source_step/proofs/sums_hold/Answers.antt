-- `source_step::sums_hold` meets its contract: at each exit the conditions before it hold, and the next doesn't or there is none. Assumes nothing.
use mathlib.Core.Path.{sym, ◌∙◌}
use native.Mathlib.Nat.{add-zero}
use native.Mathlib.Omega.{arith}
use Prim.Native.Nat.{ℕ}
use Rattle.source_step.proofs.Sums.{SumsLeft, all_left, none_left, sum-passes, sum-fails, last-decides}
use borrow.Author.Rules.{rules}
use Rattle.source_step.proofs.sums_hold.Goals as goal
use Rattle.source_step.proofs.sums_hold.Lts as lts
use Rattle.source_step.proofs.sums_hold.Reads as reads
use Rattle.source_step.proofs.sums_hold.Tie as tie

-- condition j and those behind it decide what all of them do
abbrev Are-left : lts.Start tie.the-claims reads.Pre reads.Post → ℕ → Type 0
Are-left s j = SumsLeft s.args.n s.args.sums.now s.args.values.now s.args.first s.args.count j

from_first : (s : lts.Start tie.the-claims reads.Pre reads.Post) → Are-left s 0
from_first s = all_left s.args.n s.args.sums.now s.args.values.now s.args.first s.args.count

pub returns-then-count-lt1 : goal.returns-then-count-lt1
returns-then-count-lt1 c = none_left (from_first c.before) (omega (arith, c.if-count-lt1.true))

pub sum_holds-requires : goal.sum_holds-requires
sum_holds-requires c =
    (c.requires.0, c.requires.1, c.requires.2, omega (arith, c.requires.3, c.if-count-lt1.false))

pub returns-then-not-sum_holds : goal.returns-then-not-sum_holds
returns-then-not-sum_holds c =
    sum-fails (from_first c.before.before.before) (omega (arith, c.if-count-lt1.false))
    (rw (add-zero c.args.first) (sym c.sum_holds.ensures ∙ c.if-not-sum_holds.true))

from_second : (c : lts.Else2 tie.the-claims reads.Pre reads.Post) → Are-left c.before.before.before 1
from_second c =
    sum-passes (from_first c.before.before.before) (omega (arith, c.if-count-lt1.false))
    (rw (add-zero c.args.first) (sym c.sum_holds.ensures ∙ c.if-not-sum_holds.false))

pub returns-then-count-lt2 : goal.returns-then-count-lt2
returns-then-count-lt2 c = none_left (from_second c.before) (omega (arith, c.if-count-lt2.true))

pub overflow_add-first : goal.overflow_add-first
overflow_add-first c = search (rules, arith)

pub sum_holds-requires-2 : goal.sum_holds-requires-2
sum_holds-requires-2 c =
    (c.requires.0, c.requires.1, c.requires.2, omega (arith, c.requires.3, c.if-count-lt2.false))

pub returns-then-not-sum_holds-2 : goal.returns-then-not-sum_holds-2
returns-then-not-sum_holds-2 c =
    sum-fails (from_second c.before.before.before) (omega (arith, c.if-count-lt2.false)) (sym c.sum_holds-2.ensures ∙ c.if-not-sum_holds-2.true)

from-third : (c : lts.Else4 tie.the-claims reads.Pre reads.Post) → Are-left c.before.before.before.before.before.before 2
from-third c =
    sum-passes (from_second c.before.before.before) (omega (arith, c.if-count-lt2.false)) (sym c.sum_holds-2.ensures ∙ c.if-not-sum_holds-2.false)

pub returns-then-count-lt3 : goal.returns-then-count-lt3
returns-then-count-lt3 c = none_left (from-third c.before) (omega (arith, c.if-count-lt3.true))

pub overflow_add-first-2 : goal.overflow_add-first-2
overflow_add-first-2 c = search (rules, arith)

pub sum_holds-requires-3 : goal.sum_holds-requires-3
sum_holds-requires-3 c =
    (c.requires.0, c.requires.1, c.requires.2, omega (arith, c.requires.3, c.if-count-lt3.false))

pub returns-then-not-sum_holds-3 : goal.returns-then-not-sum_holds-3
returns-then-not-sum_holds-3 c =
    sum-fails (from-third c.before.before.before) (omega (arith, c.if-count-lt3.false)) (sym c.sum_holds-3.ensures ∙ c.if-not-sum_holds-3.true)

from-fourth : (c : lts.Else6 tie.the-claims reads.Pre reads.Post) → Are-left c.before.before.before.before.before.before.before.before.before 3
from-fourth c =
    sum-passes (from-third c.before.before.before) (omega (arith, c.if-count-lt3.false)) (sym c.sum_holds-3.ensures ∙ c.if-not-sum_holds-3.false)

pub returns-then-count-lt4 : goal.returns-then-count-lt4
returns-then-count-lt4 c = none_left (from-fourth c.before) (omega (arith, c.if-count-lt4.true))

pub overflow_add-first-3 : goal.overflow_add-first-3
overflow_add-first-3 c = search (rules, arith)

pub sum_holds-requires-4 : goal.sum_holds-requires-4
sum_holds-requires-4 c =
    (c.requires.0, c.requires.1, c.requires.2, omega (arith, c.requires.3, c.if-count-lt4.false))

pub returns : goal.returns
returns c =
    c.sum_holds-4.ensures ∙ last-decides (from-fourth c.before.before) (omega (arith, c.if-count-lt4.false)) (omega (arith, c.requires.3))
