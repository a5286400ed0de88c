-- `lowering_file::put_declared_starts` meets its contract: the loop writes each U. Assumes nothing.
use mathlib.Core.Path.{◌≡◌, sym, ap, ◌∙◌}
use Prim.Native.Nat.{ℕ, ◌<◌}
use native.Mathlib.Omega.{arith}
use mir.Facts.{to_z-of_z}
use mir.Syntax.{w64}
use mir.Val.{SFits}
use lib.ListN.{get_or, take}
use lib.Seq.{get_or-take, length-take-le}
use lib.IntN.{pos}
use Rattle.lists.proofs.Writing.{room_as, wrote_as}
use Rattle.lists.proofs.Loops.{there-all}
use Rattle.lists.proofs.WritingLoops.{going_start, going-room, going_next, going_end, going-long}
use Rattle.commands.specs.Encoding.{encode}
use Rattle.commands.specs.declared.Command.TheVariants.{Start}
use Rattle.lowering_sums.specs.Views.{start_bytes}
use borrow.Author.Rules.{rules}
use Rattle.lowering_file.proofs.put_declared_starts.Goals as goal
use Rattle.lowering_file.proofs.put_declared_starts.Goals.{In-loop-start, After-bits-bits}

-- there are n of them
below : (c : In-loop-start) → c.loop-start.start-index < c.args.n
below c = omega (arith, length-take-le c.args.n c.args.starts.now (omega (arith, c.requires.n_bound.0, c.requires.n_bound.1)), c.loop-start-test.true)

-- the U that a turn writes
coded : (c : After-bits-bits) → c.loop-start.start-index < c.args.n → start_bytes (get_or c.args.starts.now c.loop-start.start-index (pos 0)) ≡ encode (Start c.bits-bits.result)
coded c l =
    let i = c.loop-start.start-index in
    let b : SFits w64 (get_or (take c.args.n c.args.starts.now) i (pos 0)) = search rules in
    ap start_bytes (sym (get_or-take c.args.n c.args.starts.now i (pos 0) l))
    ∙ ap (λ (k : ℕ). encode (Start k)) (sym (rw (to_z-of_z b) at c.bits-bits.ensures))

pub loop-start-init : goal.loop-start-init
loop-start-init c = going_start (there-all _ _ (omega (arith, c.requires.n_bound.0, c.requires.n_bound.1)))

pub bits-bits-requires : goal.bits-bits-requires
bits-bits-requires c =
    let b : SFits w64 (get_or (take c.args.n c.args.starts.now) c.loop-start.start-index (pos 0)) = search rules in
    rw (to_z-of_z b) (omega (arith, c.requires.values_near c.loop-start.start-index))

pub put_start-place-requires : goal.put_start-place-requires
put_start-place-requires c =
    let l = below (goal.at.put_start-place-requires c).In-loop-start in
    room_as (coded (goal.at.put_start-place-requires c).After-bits-bits l) (going-room (pos 0) c.loop-start.invariant l c.requires.room)

pub loop-start-preserved : goal.loop-start-preserved
loop-start-preserved c =
    let l = below (goal.at.loop-start-preserved c).In-loop-start in
    going_next (pos 0) c.loop-start.invariant l (wrote_as (sym (coded (goal.at.loop-start-preserved c).After-bits-bits l)) c.put_start-place.ensures)

pub shape_of-out : goal.shape_of-out
shape_of-out c = going-long c.loop-start.invariant

pub returns : goal.returns
returns c =
    let n = length-take-le c.args.n c.args.starts.now (omega (arith, c.requires.n_bound.0, c.requires.n_bound.1)) in
    going_end c.loop-start.invariant (omega (arith, n, c.loop-start-test.false))
