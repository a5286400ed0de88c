-- `lowering_stages::linear_stage` meets its contract: two stages a term. Assumes nothing.
use mathlib.Core.Path.{◌≡◌, sym, ◌∙◌}
use Prim.Native.Nat.{◌/◌}
use native.Mathlib.Omega.{arith}
use lib.ListN.{length, get_or}
use lib.IntN.{pos}
use mir.Syntax.{w64}
use mir.Val.{SFits}
use mir.Facts.{to_z-of_z}
use borrow.Author.Rules.{rules}
use Rattle.lists.proofs.Loops.{length-mapped}
use Rattle.file_actions.specs.declared.Term.{Term}
use Rattle.lowering_stages.proofs.Effects.{linear-at}
use Rattle.lowering_stages.proofs.linear_stage.Goals as goal

pub term_stage-requires : goal.term_stage-requires
term_stage-requires c =
    let e : Term = record { variable = 0; weight = pos 0 } in
    let i = c.args.j / 2 in
    let w : SFits w64 (get_or c.args.terms i e).weight = search rules in
    (c.requires.0, rw (to_z-of_z w) (c.requires.3 i e (omega (arith, c.requires.2))))

pub returns : goal.returns
returns c =
    let e : Term = record { variable = 0; weight = pos 0 } in
    let i = c.args.j / 2 in
    let w : SFits w64 (get_or c.args.terms i e).weight = search rules in
    let l : length c.args.terms ≡ 4 = search (rules, length-mapped) in
    let at = linear-at c.args.k c.args.terms (omega (arith, c.requires.1)) c.args.j e c.requires.2 in
    λ d g. (rw (to_z-of_z w) at c.term_stage.ensures) d (sym at ∙ g)
