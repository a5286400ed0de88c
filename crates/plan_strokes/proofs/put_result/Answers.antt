-- `plan_strokes::put_result` meets its contract, kind of effect by kind of effect. Assumes nothing.
use mathlib.Core.Path.{◌≡◌, sym, ap, ap₂, ◌∙◌}
use native.Mathlib.Omega.{arith}
use mir.Facts.{to_z-of_z}
use mir.Syntax.{w64}
use mir.Val.{SFits}
use mathlib.Core.List.{List, [], ◌∷◌, ◌++◌}
use lib.IntN.{ℤ}
use lib.ListN.{length, take}
use Rattle.model.specs.Steps.{integer_at}
use Rattle.source_step.proofs.Numbers.{result-linear}
use Rattle.plan_strokes.proofs.Effects.{add-strokes, linear-strokes}
use Rattle.plan_strokes.proofs.Making.{then, more-as}
use Rattle.plan_strokes.proofs.Ranges.{result-few}
use borrow.Author.Rules.{rules}
use Rattle.plan_strokes.proofs.put_result.Goals as goal

pub put_two-drained-requires : goal.put_two-drained-requires
put_two-drained-requires c = (omega (arith, c.requires.0), c.requires.1)

pub put_one-requires : goal.put_one-requires
put_one-requires c =
    let m = c.put_two-drained.ensures in
    (omega (arith, m.counted, c.requires.0), m.long)

pub returns-then-kind-eq-ADD : goal.returns-then-kind-eq-ADD
returns-then-kind-eq-ADD c =
    let v = c.value_of-before in
    let r = c.result_of-sum in
    let a : SFits w64 v.result = search rules in
    let b : SFits w64 r.result = search rules in
    let e : v.result ∷ v.result ∷ [] ≡ _ = ap (λ (z : ℤ). z ∷ z ∷ []) v.ensures
    ∙ sym (add-strokes c.args.marks.now c.args.numbers.now c.args.e (integer_at (take c.args.n c.args.values.now))
    c.if-kind-eq-ADD.true) in
    more-as (ap₂ (λ (xs : List ℤ) (z : ℤ). xs ++ (z ∷ [])) e r.ensures.0)
    (then (simp (to_z-of_z, a) at c.put_two-drained.ensures) (simp (to_z-of_z, b) at c.put_one.ensures))

pub put_one-requires-then-kind-eq-LINEAR : goal.put_one-requires-then-kind-eq-LINEAR
put_one-requires-then-kind-eq-LINEAR c =
    let marks = c.args.marks.now in
    let numbers = c.args.numbers.now in
    let v : _ = integer_at (take c.args.n c.args.values.now) in
    let m = c.put_terms-drained.ensures.more numbers in (
      omega (
        arith,
        m.counted,
        c.requires.0,
        result-few marks numbers c.args.e v,
        ap length
            (linear-strokes marks numbers c.args.e v c.if-kind-eq-LINEAR.true),
      ),
      m.long,
    )

pub returns-then-kind-eq-LINEAR : goal.returns-then-kind-eq-LINEAR
returns-then-kind-eq-LINEAR c =
    let l = c.linear_value-sum in
    let marks = c.args.marks.now in
    let numbers = c.args.numbers.now in
    let linear = c.if-kind-eq-LINEAR.true in
    let b : SFits w64 l.result = search rules in
    more-as
    (ap₂ (λ (xs : List ℤ) (z : ℤ). xs ++ (z ∷ []))
    (sym (linear-strokes marks numbers c.args.e (integer_at (take c.args.n c.args.values.now)) linear))
    (l.ensures.0 ∙ sym (result-linear marks numbers c.args.e c.args.n c.args.values.now linear)))
    (then (c.put_terms-drained.ensures.more numbers) (simp (to_z-of_z, b) at c.put_one-then-kind-eq-LINEAR.ensures))
