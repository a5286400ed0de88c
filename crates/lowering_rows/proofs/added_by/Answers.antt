-- `lowering_rows::added_by` meets its contract: its four amounts are those of the stroke. Assumes nothing.
use Prim.Native.Nat.{ℕ}
use mir.Syntax.{w64}
use mir.Val.{SFits}
use mir.Facts.{to_z-of_z}
use borrow.Author.Rules.{rules}
use Rattle.model.specs.Steps.{integer_at}
use Rattle.lowering_stages.proofs.Rows.{amount-fits}
use Rattle.lowering_rows.proofs.Adding.{stroke-added}
use Rattle.lowering_rows.proofs.added_by.Goals as goal
use Rattle.lowering_rows.proofs.added_by.Lts as lts
use Rattle.lowering_rows.proofs.added_by.Reads as reads
use Rattle.lowering_rows.proofs.added_by.Tie as tie

-- an amount as the code has it
fits : (s : lts.Start tie.the-claims reads.Pre reads.Post) (i : ℕ) → SFits w64 (integer_at s.args.s.amounts i)
fits s i = amount-fits (s.requires.amounts i)

pub signed_by-first-requires : goal.signed_by-first-requires
signed_by-first-requires c = rw (to_z-of_z (fits c.before.before 0)) (c.requires.amounts 0)

pub signed_by-second-requires : goal.signed_by-second-requires
signed_by-second-requires c = rw (to_z-of_z (fits c.before.before.before.before 1)) (c.requires.amounts 1)

pub signed_by-third-requires : goal.signed_by-third-requires
signed_by-third-requires c = rw (to_z-of_z (fits c.before.before.before.before.before.before 2)) (c.requires.amounts 2)

pub signed_by-fourth-requires : goal.signed_by-fourth-requires
signed_by-fourth-requires c = rw (to_z-of_z (fits c.before.before.before.before.before.before.before.before 3)) (c.requires.amounts 3)

pub returns : goal.returns
returns c =
    let s = c.before.before.before.before.before.before.before.before.before in
    let x = c.signed_by-first in
    let y = c.signed_by-second in
    let z = c.signed_by-third in
    let w = c.signed_by-fourth in
    let xf : SFits w64 x.result = search rules in
    let yf : SFits w64 y.result = search rules in
    let zf : SFits w64 z.result = search rules in
    let wf : SFits w64 w.result = search rules in
    rw (to_z-of_z xf, to_z-of_z yf, to_z-of_z zf, to_z-of_z wf)
    (stroke-added s.args.falls s.args.s x.result y.result z.result w.result s.requires
    (rw (to_z-of_z (fits s 0)) at x.ensures) (rw (to_z-of_z (fits s 1)) at y.ensures) (rw (to_z-of_z (fits s 2)) at z.ensures)
    (rw (to_z-of_z (fits s 3)) at w.ensures))
