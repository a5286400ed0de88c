-- `plan_strokes::put_single` meets its contract: the strokes before Clear with the result behind them, as of the first of several effects; then
-- Clear in the place of that result, and the Move. Assumes nothing.
use mathlib.Core.Path.{sym}
use Prim.Native.Nat.{◌-◌, ◌≤◌}
use native.Mathlib.Omega.{arith}
use mir.Facts.{to_z-of_z}
use mir.Syntax.{w64}
use mir.Val.{SFits}
use lib.IntN.{pos}
use lib.ListN.{get_or, set, take}
use lib.Seq.{get_or-set_same}
use Rattle.model.specs.Steps.{integer_at}
use Rattle.plan_strokes.specs.Strokes.{STAGES}
use Rattle.plan_strokes.specs.Made.{HeldMade}
use Rattle.plan_strokes.proofs.Making.{Holding, holding-start, holding-last, holding-next, holding-end}
use Rattle.plan_strokes.proofs.Making.{setting-start, setting-next, setting-end, held-few, one-made}
use borrow.Author.Rules.{rules}
use Rattle.plan_strokes.proofs.put_single.Goals as goal
use Rattle.plan_strokes.proofs.put_single.Lts as lts
use Rattle.plan_strokes.proofs.put_single.Reads as reads
use Rattle.plan_strokes.proofs.put_single.Tie as tie

-- the strokes before Clear, and what the effect gives
module _ (c : lts.After-put_result tie.the-claims reads.Pre reads.Post) where
  abbrev s : lts.Start tie.the-claims reads.Pre reads.Post
  s = c.before.before

  begun : Holding s.args.n s.args.marks.now s.args.numbers.now s.args.values.now s.args.times.now s.args.results.now 0 0
  begun = holding-start _ _ _ _ s.requires.0 s.requires.1

  last : (1 ≤ c.put_result-behind.result) × (c.put_result-behind.result ≤ STAGES)
  last = holding-last begun (omega (arith, s.requires.4)) c.put_result-behind.ensures

  made : HeldMade s.args.n s.args.marks.now s.args.numbers.now s.args.values.now c.put_result-behind.new.times
      (set s.args.results.now 0 (get_or c.put_result-behind.new.times (c.put_result-behind.result - 1) (pos 0))) c.put_result-behind.result
  made = holding-end (holding-next begun (omega (arith, s.requires.4)) c.put_result-behind.ensures) (omega (arith, s.requires.4))

pub overflow_sub-last : goal.overflow_sub-last
overflow_sub-last c = (last c).0

pub offset_bounds-times-last : goal.offset_bounds-times-last
offset_bounds-times-last c = omega (arith, (last c).1)

pub bounds-times-last : goal.bounds-times-last
bounds-times-last c = omega (arith, (last c).0, (last c).1)

pub put_two-requires : goal.put_two-requires
put_two-requires c =
    let p = c.before.before.before.before.before.before in
    (omega (arith, (last p).0, held-few (s p).requires.2 (made p)), (made p).long)

pub returns : goal.returns
returns c =
    let v = c.value_of-before in
    let p = c.before.before.before.before.before.before.before in
    let results = (s p).args.results.now in
    let times = p.put_result-behind.new.times in
    let at = p.put_result-behind.result - 1 in
    let a : SFits w64 (get_or times at (pos 0)) = search rules in
    let b : SFits w64 v.result = search rules in
    let held = sym (get_or-set_same results 0 (get_or times at (pos 0)) (pos 0) (omega (arith, (s p).requires.1))) in
    let none_set = setting-start (s p).args.marks.now (set results 0 (get_or times at (pos 0)))
    (integer_at (take (s p).args.n (s p).args.values.now)) times at (made p).long in
    let set_first = setting-next none_set (omega (arith, (s p).requires.4)) v.ensures held
    (simp (to_z-of_z, a, b) at c.put_two.ensures) in
    rw (to_z-of_z a) (one-made (s p).requires.2 (made p) (s p).requires.3 (s p).requires.4 (setting-end set_first (omega (arith, (s p).requires.4))))
