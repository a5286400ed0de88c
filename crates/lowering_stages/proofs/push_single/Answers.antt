-- `lowering_stages::push_single` meets its contract: effect by effect. Assumes nothing.
use mathlib.Core.Path.{◌≡◌}
use mathlib.Core.Logic.{inl, inr}
use mathlib.Core.List.{[], ◌∷◌}
use native.Mathlib.Omega.{arith}
use lib.Dec.{lit≤}
use mir.Syntax.{w64}
use mir.Val.{SFits}
use mir.Facts.{to_z-of_z}
use borrow.Author.Rules.{rules}
use Rattle.model.specs.Stages.{added_bound, opening_additions}
use Rattle.file_parts.specs.Row.{row_is, Says}
use Rattle.file_parts.specs.With.{with_addition}
use Rattle.file_parts.proofs.Pushing.{pushed}
use Rattle.file_actions.specs.Views.{terms_is, numeric_is}
use Rattle.lowering_stages.specs.Shapes.{lower_of, upper_of}
use Rattle.lowering_stages.specs.Openings.{with_numeric}
use Rattle.lowering_stages.proofs.Rows.{own, said}
use Rattle.lowering_stages.proofs.Openings.{nothing-more, add-more, linear-more, room-less, bound-room}
use Rattle.lowering_stages.proofs.push_single.Goals as goal
use Rattle.lowering_stages.proofs.push_single.Lts as lts
use Rattle.lowering_stages.proofs.push_single.Reads as reads
use Rattle.lowering_stages.proofs.push_single.Tie as tie

-- the rows stay where the effect needs and adds nothing
unchanged : (s : lts.Start tie.the-claims reads.Pre reads.Post) → added_bound (lower_of s.args.shape) (upper_of s.args.shape) (numeric_is s.args.place ∷ []) ≡ []
    → opening_additions (numeric_is s.args.place ∷ []) ≡ []
    → Says (with_numeric s.args.a (lower_of s.args.shape) (upper_of s.args.shape) (numeric_is s.args.place ∷ [])
    (row_is s.args.marks.now s.args.numbers.now)) s.args.marks.now s.args.numbers.now
unchanged s f g =
    said (nothing-more s.args.a (lower_of s.args.shape) (upper_of s.args.shape) (numeric_is s.args.place ∷ [])
    (row_is s.args.marks.now s.args.numbers.now) f g)
    (own s.requires.0.long s.requires.1)

pub push_bound-requires : goal.push_bound-requires
push_bound-requires c =
    let k : SFits w64 c.in-Add.c = search rules in
    let l : SFits w64 c.bounds_of-lower.result.0 = search rules in
    let m : SFits w64 c.bounds_of-lower.result.1 = search rules in
    rw (to_z-of_z k, to_z-of_z l, to_z-of_z m, c.bounds_of-lower.ensures.0, c.bounds_of-lower.ensures.1) (
      room-less c.requires.0 (lit≤ tt) (lit≤ tt) (lit≤ tt) (lit≤ tt),
      c.requires.1,
      (c.requires.2.lower_in c.in-Add.t, c.requires.2.upper_in c.in-Add.t),
      (rw c.in-Add.is at c.requires.3).1.1,
    )

pub push_addition-requires : goal.push_addition-requires
push_addition-requires c =
    (bound-room c.args.numbers.now _ c.requires.0 c.push_bound.ensures, c.push_bound.ensures.numbers_long)

pub returns-in-None : goal.returns-in-None
returns-in-None c =
    let h = rw c.in-None.is at c.requires.3 in
    absurd (omega (arith, h.1.0))

pub returns-in-Add : goal.returns-in-Add
returns-in-Add c =
    let k : SFits w64 c.in-Add.c = search rules in
    let l : SFits w64 c.bounds_of-lower.result.0 = search rules in
    let m : SFits w64 c.bounds_of-lower.result.1 = search rules in
    let one = rw (
      to_z-of_z k,
      to_z-of_z l,
      to_z-of_z m,
      c.bounds_of-lower.ensures.0,
      c.bounds_of-lower.ensures.1,
    ) at c.push_bound.ensures in
    rw c.in-Add.is
    (said (add-more c.args.a (lower_of c.args.shape) (upper_of c.args.shape) c.in-Add.t c.in-Add.c
    (row_is c.args.marks.now c.args.numbers.now))
    (pushed one with_addition (rw (to_z-of_z k) at c.push_addition.ensures)))

pub returns-in-Linear : goal.returns-in-Linear
returns-in-Linear c =
    let p = c.args.place in
    let k : SFits w64 c.in-Linear.w = search rules in
    rw c.in-Linear.is
    (said (linear-more c.args.a (lower_of c.args.shape) (upper_of c.args.shape) c.in-Linear.field-0 c.in-Linear.w (terms_is p.term_count p.terms)
    (row_is c.args.marks.now c.args.numbers.now))
    (rw (to_z-of_z k) at c.push_given.ensures))

pub returns-in-Quotient : goal.returns-in-Quotient
returns-in-Quotient c =
    elim c.in-Quotient.is [ inl (x, y, z, e) ↦ unchanged c.before (rw e) (rw e) | inr (x, y, z, e) ↦ unchanged c.before (rw e) (rw e) ]
