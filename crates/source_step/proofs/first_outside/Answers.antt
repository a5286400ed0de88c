-- `source_step::first_outside` meets its contract: at each exit the results before it lie within their bounds, and the next doesn't or there is
-- none. Assumes nothing.
use native.Mathlib.Omega.{arith}
use mathlib.Core.Path.{sym, ◌∙◌}
use Prim.Native.Nat.{ℕ}
use mir.Facts.{to_z-of_z}
use mir.Syntax.{w64}
use mir.Val.{SFits}
use Rattle.model.specs.Steps.{integer_at}
use Rattle.source_step.proofs.Results.{Passed, none_passed, one-passed, stopped}
use borrow.Author.Rules.{rules}
use Rattle.source_step.proofs.first_outside.Goals as goal
use Rattle.source_step.proofs.first_outside.Goals.{then-count-lt1-via-then-count-lt1, then-count-lt1-via-else-count-lt1+then-not-stays}
use Rattle.source_step.proofs.first_outside.Goals.{then-count-lt2-via-then-count-lt2, then-count-lt2-via-else-count-lt2+then-not-stays-2}
use Rattle.source_step.proofs.first_outside.Goals.{then-count-lt3-via-then-count-lt3, then-count-lt3-via-else-count-lt3+then-not-stays-3}
use Rattle.source_step.proofs.first_outside.Lts as lts
use Rattle.source_step.proofs.first_outside.Reads as reads
use Rattle.source_step.proofs.first_outside.Tie as tie

-- the first e results lie within their bounds
abbrev Are-passed : lts.After-effect_count tie.the-claims reads.Pre reads.Post → ℕ → Type 0
Are-passed c e = Passed c.args.marks.now c.args.numbers.now c.args.results.now c.effect_count-count.result e

none : (c : lts.After-effect_count tie.the-claims reads.Pre reads.Post) → Are-passed c 0
none c = none_passed c.effect_count-count.ensures

pub returns-then-count-lt1 : goal.returns-then-count-lt1
returns-then-count-lt1 c =
    stopped (none c.before)
    (λ l. elim c.then-count-lt1.branch [
      | then-count-lt1-via-then-count-lt1 w ↦ absurd (omega (arith, l, w.if-count-lt1.true))
      | then-count-lt1-via-else-count-lt1+then-not-stays w ↦
          let x : SFits w64 (integer_at c.args.results.now 0) = search rules in
          sym (rw (to_z-of_z x) at w.stays.ensures) ∙ w.if-not-stays.true
    ])

one : (c : lts.Else2 tie.the-claims reads.Pre reads.Post) → Are-passed c.before.before.before.before 1
one c =
    let x : SFits w64 (integer_at c.args.results.now 0) = search rules in
    one-passed (none c.before.before.before.before) (omega (arith, c.if-count-lt1.false))
    (sym (rw (to_z-of_z x) at c.stays.ensures) ∙ c.if-not-stays.false)

pub returns-then-count-lt2 : goal.returns-then-count-lt2
returns-then-count-lt2 c =
    stopped (one c.before)
    (λ l. elim c.then-count-lt2.branch [
      | then-count-lt2-via-then-count-lt2 w ↦ absurd (omega (arith, l, w.if-count-lt2.true))
      | then-count-lt2-via-else-count-lt2+then-not-stays-2 w ↦
          let x : SFits w64 (integer_at c.args.results.now 1) = search rules in
          sym (rw (to_z-of_z x) at w.stays-else-count-lt2.ensures) ∙ w.if-not-stays-2.true
    ])

two : (c : lts.Else4 tie.the-claims reads.Pre reads.Post) → Are-passed c.before.before.before.before.before.before.before.before 2
two c =
    let x : SFits w64 (integer_at c.args.results.now 1) = search rules in
    let stays = sym (rw (to_z-of_z x) at c.stays-else-count-lt2.ensures) ∙ c.if-not-stays-2.false in
    one-passed (one c.before.before.before.before) (omega (arith, c.if-count-lt2.false)) stays

pub returns-then-count-lt3 : goal.returns-then-count-lt3
returns-then-count-lt3 c =
    stopped (two c.before)
    (λ l. elim c.then-count-lt3.branch [
      | then-count-lt3-via-then-count-lt3 w ↦ absurd (omega (arith, l, w.if-count-lt3.true))
      | then-count-lt3-via-else-count-lt3+then-not-stays-3 w ↦
          let x : SFits w64 (integer_at c.args.results.now 2) = search rules in
          sym (rw (to_z-of_z x) at w.stays-else-count-lt3.ensures) ∙ w.if-not-stays-3.true
    ])

pub returns : goal.returns
returns c =
    let x : SFits w64 (integer_at c.args.results.now 2) = search rules in
    let stays = sym (rw (to_z-of_z x) at c.stays-else-count-lt3.ensures) ∙ c.if-not-stays-3.false in
    stopped (one-passed (two c.before.before.before.before) (omega (arith, c.if-count-lt3.false)) stays)
    (λ l. absurd (omega (arith, l, c.effect_count-count.ensures)))
