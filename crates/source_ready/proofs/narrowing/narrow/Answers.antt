-- `source_ready::narrowing::narrow` meets its contract: each arm narrows by what its relation names. Assumes nothing.
use lib.IntN.{pos, ◌+ℤ◌, ◌-ℤ◌}
use mathlib.Core.Path.{refl}
use Prim.Native.Nat.{◌+◌}
use lib.ListN.{set}
use native.Mathlib.Omega.{arith}
use mir.Facts.{to_z-of_z}
use mir.Syntax.{w64}
use mir.Val.{SFits}
use borrow.Author.Rules.{rules}
use Rattle.integers.proofs.Parts.{ints, abs}
use Rattle.model.specs.Steps.{integer_at}
use Rattle.source_sums.proofs.Ranges.{over-three}
use Rattle.source_ready.proofs.Capping.{capped-lesser, raised-greater}
use Rattle.source_ready.proofs.narrowing.narrow.Goals as goal

pub overflow_sub-constant : goal.overflow_sub-constant
overflow_sub-constant c = let a : SFits w64 c.args.constant = search rules in
    simp (to_z-of_z, a) (omega (ints, abs c.args.constant, c.requires.1))

pub overflow_add-constant : goal.overflow_add-constant
overflow_add-constant c = let a : SFits w64 c.args.constant = search rules in
    simp (to_z-of_z, a) (omega (ints, abs c.args.constant, c.requires.1))

pub returns-in-0 : goal.returns-in-0
returns-in-0 c =
    let i = c.from-least.result in
    let a : SFits w64 c.args.constant = search rules in
    let b : SFits w64 (c.args.constant -ℤ pos 1) = omega (ints, abs c.args.constant, c.requires.1) in
    let x : SFits w64 (integer_at c.args.numbers.now (8 + i)) = search rules in
    let r : SFits w64 c.min.result = search rules in
    let e = simp (to_z-of_z, a, x, b) at c.min.ensures.value in
    rw (to_z-of_z r, capped-lesser c.args.numbers.now (8 + i) (c.args.constant -ℤ pos 1) e, c.from-least.ensures, c.in-0.is) refl

pub returns-in-1 : goal.returns-in-1
returns-in-1 c =
    let i = c.from-least.result in
    let a : SFits w64 c.args.constant = search rules in
    let x : SFits w64 (integer_at c.args.numbers.now (8 + i)) = search rules in
    let r : SFits w64 c.min-in-1.result = search rules in
    let e = simp (to_z-of_z, a, x) at c.min-in-1.ensures.value in
    rw (to_z-of_z r, capped-lesser c.args.numbers.now (8 + i) c.args.constant e, c.from-least.ensures, c.in-1.is) refl

pub returns-in-2 : goal.returns-in-2
returns-in-2 c =
    let i = c.from-least.result in
    let a : SFits w64 c.args.constant = search rules in
    let x : SFits w64 (integer_at c.args.numbers.now i) = search rules in
    let r : SFits w64 c.max.result = search rules in
    let e = simp (to_z-of_z, a, x) at c.max.ensures.value in
    rw (to_z-of_z r, raised-greater c.args.numbers.now i c.args.constant e, c.from-least.ensures, c.in-2.is) refl

pub returns-in-3 : goal.returns-in-3
returns-in-3 c =
    let i = c.from-least.result in
    let a : SFits w64 c.args.constant = search rules in
    let b : SFits w64 (c.args.constant +ℤ pos 1) = omega (ints, abs c.args.constant, c.requires.1) in
    let x : SFits w64 (integer_at c.args.numbers.now i) = search rules in
    let r : SFits w64 c.max-in-3.result = search rules in
    let e = simp (to_z-of_z, a, x, b) at c.max-in-3.ensures.value in
    rw (to_z-of_z r, raised-greater c.args.numbers.now i (c.args.constant +ℤ pos 1) e, c.from-least.ensures, c.in-3.is) refl

pub returns-in_default : goal.returns-in_default
returns-in_default c =
    let i = c.from-least.result in
    let z = c.args.constant in
    let a : SFits w64 z = search rules in
    let x : SFits w64 (integer_at c.args.numbers.now i) = search rules in
    let r : SFits w64 c.max-in_default.result = search rules in
    let y : SFits w64 (integer_at (set c.args.numbers.now i c.max-in_default.result) (8 + i)) = search rules in
    let q : SFits w64 c.min-in_default.result = search rules in
    let e = simp (to_z-of_z, a, x) at c.max-in_default.ensures.value in
    let f = simp (to_z-of_z, a, r, y) at c.min-in_default.ensures.value in
    rw (
      to_z-of_z q,
      to_z-of_z r,
      capped-lesser (set c.args.numbers.now i c.max-in_default.result) (8 + i) z f,
      raised-greater c.args.numbers.now i z e,
      c.from-least.ensures,
      over-three c.args.relation (omega arith),
    ) refl
