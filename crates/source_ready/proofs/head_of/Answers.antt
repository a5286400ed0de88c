-- `source_ready::head_of` meets its contract. Assumes nothing.
use mathlib.Core.Path.{◌≡◌, refl}
use mir.Facts.{to_z-of_z}
use mir.Syntax.{w64}
use mir.Val.{SFits}
use Rattle.file_actions.specs.declared.Effect.TheVariants.{None}
use Rattle.source_step.specs.Row.{effect_of_kind}
use borrow.Author.Rules.{rules}
use Rattle.source_ready.proofs.head_of.Goals as goal

pub returns-in-None : goal.returns-in-None
unfolding effect_of_kind
returns-in-None c =
    let e : c.args.effect ≡ None = search rules in
    record { is = λ terms. rw e refl }

pub returns-in-Add : goal.returns-in-Add
unfolding effect_of_kind
returns-in-Add c =
    let k : SFits w64 c.in-Add.c = search rules in
    record { is = λ terms. rw (c.in-Add.is, to_z-of_z k) refl }

pub returns-in-Linear : goal.returns-in-Linear
unfolding effect_of_kind
returns-in-Linear c =
    let k : SFits w64 c.in-Linear.c = search rules in
    record { is = λ terms. rw (c.in-Linear.is, to_z-of_z k) refl }

pub returns-in-Quotient : goal.returns-in-Quotient
unfolding effect_of_kind
returns-in-Quotient c =
    let k : SFits w64 c.in-Quotient.c = search rules in
    record { is = λ terms. rw (c.in-Quotient.is, to_z-of_z k) refl }

pub returns-in-Residue : goal.returns-in-Residue
unfolding effect_of_kind
returns-in-Residue c =
    let k : SFits w64 c.in-Residue.c = search rules in
    record { is = λ terms. rw (c.in-Residue.is, to_z-of_z k) refl }
