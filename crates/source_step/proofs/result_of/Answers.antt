-- `source_step::result_of` meets its contract. Assumes nothing.
use native.Mathlib.Omega.{arith}
use mathlib.Core.Path.{refl}
use Prim.Native.Nat.{◌≤◌}
use mir.Facts.{to_z-of_z}
use mir.Syntax.{w64}
use mir.Val.{SFits}
use Rattle.source_step.specs.Row.{kind_at, constant_at}
use Rattle.source_step.proofs.Numbers.{within, constant-near, target-fits, gives-sum, gives-linear, gives-quotient, gives-residue}
use borrow.Author.Rules.{rules}
use Rattle.source_step.proofs.result_of.Goals as goal
use Rattle.source_step.proofs.result_of.Lts as lts
use Rattle.source_step.proofs.result_of.Reads as reads
use Rattle.source_step.proofs.result_of.Tie as tie

pub overflow_add-result : goal.overflow_add-result
overflow_add-result c =
    let v = c.value_of in
    let a : SFits w64 v.result = search rules in
    let k : SFits w64 (constant_at c.args.numbers.now c.args.e) = search rules in
    rw (to_z-of_z a, to_z-of_z k, v.ensures) (target-fits c.requires.0 c.args.e c.requires.1)

pub returns-then-kind-eq-ADD : goal.returns-then-kind-eq-ADD
returns-then-kind-eq-ADD c =
    let v = c.value_of in
    let a : SFits w64 v.result = search rules in
    let k : SFits w64 (constant_at c.args.numbers.now c.args.e) = search rules in
    rw (to_z-of_z a, to_z-of_z k, v.ensures, to_z-of_z (target-fits c.requires.0 c.args.e c.requires.1))
    (gives-sum c.requires.0 c.args.e c.requires.1 c.if-kind-eq-ADD.true refl)

pub returns-then-kind-eq-LINEAR : goal.returns-then-kind-eq-LINEAR
returns-then-kind-eq-LINEAR c =
    let r : SFits w64 c.linear_value.result = search rules in
    rw (to_z-of_z r) (gives-linear c.requires.0 c.args.e c.requires.1 c.if-kind-eq-LINEAR.true c.linear_value.ensures)

pub quotient-requires : goal.quotient-requires
quotient-requires c =
    let v = c.value_of-operand in
    let a : SFits w64 v.result = search rules in
    let k : SFits w64 (constant_at c.args.numbers.now c.args.e) = search rules in
    rw (to_z-of_z a, to_z-of_z k, v.ensures) (
      within _ (c.requires.0.near _),
      within _ (constant-near c.requires.0 c.args.e c.requires.1),
      c.requires.0.effects.divides c.args.e c.requires.1
          (omega (arith, c.if-kind-eq-QUOTIENT.true)),
    )

pub returns-then-kind-eq-QUOTIENT : goal.returns-then-kind-eq-QUOTIENT
returns-then-kind-eq-QUOTIENT c =
    let v = c.value_of-operand in
    let a : SFits w64 v.result = search rules in
    let k : SFits w64 (constant_at c.args.numbers.now c.args.e) = search rules in
    let r : SFits w64 c.quotient.result = search rules in
    rw (to_z-of_z r) (gives-quotient c.requires.0 c.args.e c.requires.1 c.if-kind-eq-QUOTIENT.true
    (rw v.ensures at (simp (to_z-of_z, a, k) at c.quotient.ensures)))

-- a kind past 2
past : (c : lts.Else3 tie.the-claims reads.Pre reads.Post) → 3 ≤ kind_at c.args.marks.now c.args.e
past c = omega (arith, c.if-kind-eq-ADD.false, c.if-kind-eq-LINEAR.false, c.if-kind-eq-QUOTIENT.false)

pub residue-requires : goal.residue-requires
residue-requires c =
    let v = c.value_of-operand in
    let a : SFits w64 v.result = search rules in
    let k : SFits w64 (constant_at c.args.numbers.now c.args.e) = search rules in
    rw (to_z-of_z a, to_z-of_z k, v.ensures) (
      within _ (c.requires.0.near _),
      within _ (constant-near c.requires.0 c.args.e c.requires.1),
      c.requires.0.effects.divides c.args.e c.requires.1
          (omega (arith, past c.before)),
    )

pub returns : goal.returns
returns c =
    let v = c.value_of-operand in
    let a : SFits w64 v.result = search rules in
    let k : SFits w64 (constant_at c.args.numbers.now c.args.e) = search rules in
    let r : SFits w64 c.residue.result = search rules in
    rw (to_z-of_z r) (gives-residue c.requires.0 c.args.e c.requires.1 (past c.before.before) (rw v.ensures at (simp (to_z-of_z, a, k) at c.residue.ensures)))
