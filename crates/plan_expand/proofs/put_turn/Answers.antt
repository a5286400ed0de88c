-- `plan_expand::put_turn` meets its contract: the strokes of the step, its numbers written, and the rest of the step. Assumes nothing.
use mathlib.Core.Path.{refl, sym, ap}
use native.Mathlib.Omega.{arith}
use mathlib.Core.List.{List}
use lib.IntN.{ℤ}
use Rattle.lists.proofs.Writing.{wrote_as, room_as}
use Rattle.model.specs.Plans.{plan_bytes_of}
use Rattle.plan_strokes.specs.Strokes.{step_numbers}
use Rattle.plan_expand.proofs.Writing.{turn-taken}
use Rattle.plan_expand.proofs.put_turn.Goals as goal

pub put_strokes-count-requires : goal.put_strokes-count-requires
put_strokes-count-requires c = (c.requires.opening_bound.4, refl, c.requires.keep_or_set.1)

pub put_step-place-requires : goal.put_step-place-requires
put_step-place-requires c =
    let l = c.put_strokes-count.ensures.listed in record { opening_bound = (c.requires.opening_bound.0, l.few, l.long); room = room_as (ap (λ (zs : List ℤ). plan_bytes_of (step_numbers c.args.opening zs)) (sym l.is)) c.requires.room }

pub finish-requires : goal.finish-requires
finish-requires c =
    (omega (arith, c.requires.opening_bound.1), c.requires.opening_bound.2, c.requires.opening_bound.3, c.requires.keep_or_set.0, c.put_strokes-count.ensures.results_are)

pub returns : goal.returns
returns c =
    let l = c.put_strokes-count.ensures.listed in
    record { wrote = wrote_as (ap (λ (zs : List ℤ). plan_bytes_of (step_numbers c.args.opening zs)) l.is) c.put_step-place.ensures; turn_taken = turn-taken c.finish.ensures; times_len = l.long }
