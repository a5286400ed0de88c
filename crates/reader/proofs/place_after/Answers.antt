-- `reader::place_after` meets its contract, test by test. Assumes nothing.
use native.Mathlib.Omega.{arith}
use Prim.Native.Nat.{◌-◌}
use mathlib.Core.Path.{◌≡◌, refl}
use lib.ListN.{length, get_or-eq_default}
use borrow.Author.Tests.{le-leb, lt-leb}
use Rattle.commands.specs.Table as table
use Rattle.commands.specs.Table.{size_of_byte}
use Rattle.reader.proofs.place_after.Goals as goal

pub returns-then-size-file : goal.returns-then-size-file
returns-then-size-file c = rw (← c.size_of-size.ensures.0, le-leb _ _ c.if-size-file.true)

pub returns-else-size-file : goal.returns-else-size-file
returns-else-size-file c = rw (← c.size_of-size.ensures.0, lt-leb _ _ c.if-size-file.false)

-- no command begins with the byte 0, which stands for what is past the end
none-there : size_of_byte 0 ≡ 1
unfolding table.size_of_byte
none-there = refl

pub returns-else-at-file : goal.returns-else-at-file
returns-else-at-file c =
    let a = c.args in
    rw (get_or-eq_default a.file.now 0 {n = a.at} (omega (arith, c.if-at-file.false)), none-there, lt-leb 1 (length a.file.now - a.at) (omega (arith, c.if-at-file.false)))
