-- `integers::number_at` meets its contract: the bytes are read from the last on. Assumes nothing.
use native.Mathlib.Omega.{arith}
use Prim.Native.Nat.{◌+◌, ◌*◌, ◌^◌, ◌<◌, ◌≤◌}
use lib.ListN.{length, take, drop, length-take}
use Rattle.integers.proofs.Numbers.{backward_room}
use Rattle.integers.proofs.number_at.Goals as goal
use Rattle.integers.proofs.number_at.Goals.{In-Some}

-- the byte at hand has room
room : (c : In-Some) → c.loop-byte.number * 256 + 255 < 256 ^ 4
room c =
    let few : length (take c.args.width (drop c.args.place c.args.s.now)) ≤ 4 = simp length-take (omega arith) in
    backward_room _ _ few (rw c.in-Some.ensures.steps at c.loop-byte.invariant)

pub overflow_mul-number : goal.overflow_mul-number
overflow_mul-number c = omega (arith, room (goal.at.overflow_mul-number c).In-Some)

pub overflow_add-number : goal.overflow_add-number
overflow_add-number c = omega (arith, room (goal.at.overflow_add-number c).In-Some)
