-- `lowering_sums::put_sum_starts` meets its contract: the loop writes each U. Assumes nothing.
use mathlib.Core.Path.{◌≡◌, sym, ap, ◌∙◌}
use mathlib.Core.List.{[]}
use Prim.Native.Nat.{ℕ}
use native.Mathlib.Omega.{arith}
use lib.ListN.{get_or, take}
use mir.Facts.{to_z-of_z}
use mir.Syntax.{w64}
use mir.Val.{SFits}
use borrow.Author.Rules.{rules}
use Rattle.integers.specs.Numbers.{bits_of}
use Rattle.lists.proofs.Writing.{room_as, wrote_as}
use Rattle.lists.proofs.WritingLoops.{going_start, going-room, going_next, going_end, going-long}
use Rattle.commands.specs.Encoding.{encode}
use Rattle.commands.specs.declared.Command.TheVariants.{Start}
use Rattle.lowering_sums.specs.Views.{sums_in}
use Rattle.lowering_sums.proofs.Starting.{sum_start, starts-are, starts-there, start-at, start_fits}
use Rattle.lowering_sums.proofs.put_sum_starts.Goals as goal
use Rattle.lowering_sums.proofs.put_sum_starts.Lts as lts
use Rattle.lowering_sums.proofs.put_sum_starts.Reads as reads
use Rattle.lowering_sums.proofs.put_sum_starts.Tie as tie

-- the U that a turn writes
coded : (c : lts.After-bits tie.the-claims reads.Pre reads.Post goal.the-invariant-loop-j goal.the-decreases-loop-j tie.handed_clauses)
    → (sum_start (take c.args.n c.args.starts.now) (get_or (sums_in c.args.sums c.args.weights.now) c.loop-j.j [])
    ≡ encode (Start c.bits-bits.result))
coded c =
    let values = take c.args.n c.args.starts.now in
    let a = c.sum_of-start in
    let f : SFits w64 a.result = search rules in
    ap (sum_start values) (start-at values c.args.sums c.args.weights.now c.loop-j.j c.loop-j-test.true)
    ∙ ap (λ (k : ℕ). encode (Start k)) (ap (bits_of 4) (sym a.ensures.0) ∙ sym (rw (to_z-of_z f) at c.bits-bits.ensures))

pub loop-j-init : goal.loop-j-init
loop-j-init c =
    going_start (starts-there (take c.args.n c.args.starts.now) c.args.sums c.args.weights.now)

pub sum_of-start-requires : goal.sum_of-start-requires
sum_of-start-requires c =
    (c.requires.n_bound.0, c.requires.n_bound.1, c.requires.n_bound.3, omega (arith, c.requires.n_bound.2, c.loop-j-test.true))

pub bits-bits-requires : goal.bits-bits-requires
bits-bits-requires c =
    let f : SFits w64 c.sum_of-start.result = search rules in
    rw (to_z-of_z f, c.sum_of-start.ensures.0)
    (start_fits (take c.args.n c.args.starts.now) c.args.sums c.args.weights.now c.requires.all c.loop-j.j c.loop-j-test.true)

pub put_start-place-requires : goal.put_start-place-requires
put_start-place-requires c =
    room_as (coded c.before) (going-room [] c.loop-j.invariant c.loop-j-test.true
    (room_as (sym (starts-are (take c.args.n c.args.starts.now) c.args.sums c.args.weights.now)) c.requires.room))

pub loop-j-preserved : goal.loop-j-preserved
loop-j-preserved c =
    going_next [] c.loop-j.invariant c.loop-j-test.true (wrote_as (sym (coded c.before.before.before.before.before)) c.put_start-place.ensures)

pub shape_of-out : goal.shape_of-out
shape_of-out c = going-long c.loop-j.invariant

pub returns : goal.returns
returns c =
    wrote_as (starts-are (take c.args.n c.args.starts.now) c.args.sums c.args.weights.now)
    (going_end c.loop-j.invariant c.loop-j-test.false)
