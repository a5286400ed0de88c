-- `plan_strokes::put_divided` meets its contract: the quotient and the residue of what is divided, in the order of the effect. Assumes nothing.
use mathlib.Core.Path.{◌≡◌, ap, ap₂, ◌∙◌}
use Prim.Native.Nat.{◌+◌, ◌≤◌, ◌<◌}
use native.Mathlib.Omega.{arith}
use mir.Facts.{to_z-of_z}
use mir.Syntax.{w64}
use mir.Val.{SFits}
use mathlib.Core.List.{[], ◌∷◌}
use lib.IntN.{ℤ, nat_abs}
use lib.ListN.{length, take}
use Rattle.integers.specs.Division.{unit_less, floor, quotient_of, residue_of}
use Rattle.model.specs.Steps.{integer_at}
use Rattle.source_step.specs.Row.{operand_at, constant_at}
use Rattle.source_step.proofs.InRange.{quotient-small}
use Rattle.plan_strokes.specs.Made.{More}
use Rattle.plan_strokes.proofs.Effects.{quotient-strokes, residue-strokes}
use Rattle.plan_strokes.proofs.Making.{then, more-as}
use borrow.Author.Rules.{rules}
use Rattle.plan_strokes.proofs.put_divided.Goals as goal
use Rattle.plan_strokes.proofs.put_divided.Lts as lts
use Rattle.plan_strokes.proofs.put_divided.Reads as reads
use Rattle.plan_strokes.proofs.put_divided.Tie as tie

module _ (s : lts.Start tie.the-claims reads.Pre reads.Post) where
  abbrev operand : ℤ
  operand = integer_at (take s.args.n s.args.values.now) (operand_at s.args.marks.now s.args.e)

  abbrev constant : ℤ
  constant = constant_at s.args.numbers.now s.args.e

  operand-near : nat_abs operand ≤ 10000
  operand-near = s.requires.2.near (operand_at s.args.marks.now s.args.e)

  constant-near : nat_abs constant ≤ 10000
  constant-near = s.requires.2.effects.constants s.args.e (omega (arith, s.requires.3))

  divides : 1 ≤ nat_abs constant
  divides = s.requires.2.effects.divides s.args.e s.requires.3 s.requires.4

pub quotient-quotient-requires : goal.quotient-quotient-requires
quotient-quotient-requires c =
    let s = c.before.before.before.before.before in
    let v = c.value_of-y in
    let a : SFits w64 v.result = search rules in
    let b : SFits w64 (constant s) = search rules in
    rw (to_z-of_z a, to_z-of_z b, v.ensures)
    (record { within = omega (arith, operand-near s) }, record { within = omega (arith, constant-near s) }, omega (arith, divides s))

pub residue-residue-requires : goal.residue-residue-requires
residue-residue-requires c =
    let s = c.before.before.before.before.before.before in
    let v = c.value_of-y in
    let a : SFits w64 v.result = search rules in
    let b : SFits w64 (constant s) = search rules in
    rw (to_z-of_z a, to_z-of_z b, v.ensures)
    (record { within = omega (arith, operand-near s) }, record { within = omega (arith, constant-near s) }, omega (arith, divides s))

-- what was found
module _ (c : lts.After-residue tie.the-claims reads.Pre reads.Post) where
  abbrev s₀ : lts.Start tie.the-claims reads.Pre reads.Post
  s₀ = c.before.before.before.before.before.before

  operand-is : c.value_of-y.result ≡ operand s₀
  operand-is = c.value_of-y.ensures

  quotient_is : c.quotient-quotient.result ≡ quotient_of (operand s₀) (constant s₀)
  quotient_is =
      let v = c.value_of-y in
      let a : SFits w64 v.result = search rules in
      let b : SFits w64 (constant s₀) = search rules in
      let e : c.quotient-quotient.result ≡ quotient_of v.result (constant s₀) = simp (to_z-of_z, a, b) at c.quotient-quotient.ensures in
      e ∙ ap (λ (y : ℤ). quotient_of y (constant s₀)) operand-is

  residue-is : c.residue-residue.result ≡ residue_of (operand s₀) (constant s₀)
  residue-is =
      let v = c.value_of-y in
      let a : SFits w64 v.result = search rules in
      let b : SFits w64 (constant s₀) = search rules in
      let e : c.residue-residue.result ≡ residue_of v.result (constant s₀) = simp (to_z-of_z, a, b) at c.residue-residue.ensures in
      e ∙ ap (λ (y : ℤ). residue_of y (constant s₀)) operand-is

pub put_two-drained-requires : goal.put_two-drained-requires
put_two-drained-requires c = (omega (arith, c.requires.0), c.requires.1)

pub divide_strokes-requires : goal.divide_strokes-requires
divide_strokes-requires c =
    let r = c.before.before.before.before in
    let q = c.quotient-quotient in
    let f : SFits w64 q.result = search rules in
    rw (to_z-of_z f) (record { within = omega (arith, ap nat_abs (quotient_is r), quotient-small (operand (s₀ r)) (constant (s₀ r)), operand-near (s₀ r)) })

pub put_one-divided-requires : goal.put_one-divided-requires
put_one-divided-requires c =
    let m = c.put_two-drained.ensures in
    (omega (arith, m.counted, (s₀ c.before.before.before.before.before).requires.0), m.long)

-- the strokes up to Divide's
divided : (c : lts.After-put_one tie.the-claims reads.Pre reads.Post) → let s = s₀ c.before.before.before.before.before in
    More s.args.times.now s.args.at (operand s ∷ operand s ∷ floor (operand s) (unit_less (constant s)) ∷ []) c.put_one-divided.new.times
    c.put_one-divided.result
divided c =
    let r = c.before.before.before.before.before in
    let s = s₀ r in
    let v = c.value_of-y in
    let d = c.divide_strokes in
    let q = c.quotient-quotient in
    let a : SFits w64 v.result = search rules in
    let b : SFits w64 (constant s) = search rules in
    let f : SFits w64 q.result = search rules in
    let g : SFits w64 d.result = search rules in
    let e : d.result ≡ floor (operand s) (unit_less (constant s)) = (simp (to_z-of_z, b, f) at d.ensures) (operand s) (quotient_is r) in
    then (rw (operand-is r) at (simp (to_z-of_z, a) at c.put_two-drained.ensures)) (rw e at (simp (to_z-of_z, g) at c.put_one-divided.ensures))

room : (c : lts.After-put_one tie.the-claims reads.Pre reads.Post) → (c.put_one-divided.result + 1 < 33) × (length c.put_one-divided.new.times ≡ 33)
room c = let m = divided c in (omega (arith, m.counted, (s₀ c.before.before.before.before.before).requires.0), m.long)

pub put_two-requires : goal.put_two-requires
put_two-requires c = room c.before.before.before.before

pub returns-then-marks-block-eq-QUOTIENT : goal.returns-then-marks-block-eq-QUOTIENT
returns-then-marks-block-eq-QUOTIENT c =
    let r = c.before.before.before.before.before.before.before.before.before.before in
    let s = s₀ r in
    let x : SFits w64 c.quotient-quotient.result = search rules in
    let y : SFits w64 r.residue-residue.result = search rules in
    let m = more-as (ap₂ (λ (a b : ℤ). a ∷ b ∷ []) (residue-is r) (quotient_is r)) (simp (to_z-of_z, x, y) at c.put_two.ensures) in
    more-as (quotient-strokes s.args.marks.now s.args.numbers.now s.args.e _ c.if-marks-block-eq-QUOTIENT.true)
    (then (divided c.before.before.before.before.before) m)

pub put_two-requires-2 : goal.put_two-requires-2
put_two-requires-2 c = room c.before.before.before.before

pub returns : goal.returns
returns c =
    let r = c.before.before.before.before.before.before.before.before.before.before in
    let s = s₀ r in
    let x : SFits w64 c.quotient-quotient.result = search rules in
    let y : SFits w64 r.residue-residue.result = search rules in
    let m = more-as (ap₂ (λ (a b : ℤ). a ∷ b ∷ []) (quotient_is r) (residue-is r)) (simp (to_z-of_z, x, y) at c.put_two-2.ensures) in
    more-as (residue-strokes s.args.marks.now s.args.numbers.now s.args.e _ (omega (arith, s.requires.4, c.if-marks-block-eq-QUOTIENT.false)))
    (then (divided c.before.before.before.before.before) m)
