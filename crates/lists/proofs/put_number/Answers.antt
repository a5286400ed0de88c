-- `lists::put_number` meets its contract: what is left to write are the bytes of `rest`. Assumes nothing.
use mathlib.Core.Path.{◌≡◌, refl, sym, ap, ◌∙◌}
use mathlib.Core.List.{[], ◌∷◌, ◌++◌, append-nil}
use Prim.Native.Nat.{◌+◌, ◌-◌, ◌/◌, ◌%◌, ◌≤◌, ◌<◌}
use native.Mathlib.Omega.{arith}
use borrow.Author.Rules.{rules}
use lib.ListN.{length, length-take, length-drop}
use Rattle.integers.specs.Numbers.{bytes_of}
use Rattle.integers.proofs.Numbers.{length-bytes}
use Rattle.lists.proofs.Each.{single}
use Rattle.lists.proofs.Numbers.{bytes-more, bytes-none}
use Rattle.lists.proofs.Writing.{start, step, done, recast, room-some, room-wide, wrote_none, wrote_part}
use Rattle.lists.proofs.put_number.Goals as goal

pub overflow_add-end : goal.overflow_add-end
overflow_add-end c = omega (arith, room-wide c.requires (omega arith), length-bytes c.args.width c.args.n)

pub returns-then-is_empty : goal.returns-then-is_empty
returns-then-is_empty c = wrote_none (search rules) (omega (arith, length-bytes c.args.width c.args.n))

pub slice_bounds-slot-items-end : goal.slice_bounds-slot-items-end
slice_bounds-slot-items-end c =
    let fits : c.args.at + c.args.width ≤ length c.args.out.now = omega (arith, room-some c.requires (search rules), length-bytes c.args.width c.args.n) in
    search rules

pub loop-slot-init : goal.loop-slot-init
loop-slot-init c =
    let all : c.args.width - 0 ≡ c.args.width = omega arith in
    start _ 0 (ap (λ m. bytes_of m c.args.n) (sym all) ∙ sym (append-nil _))

pub loop-slot-preserved : goal.loop-slot-preserved
loop-slot-preserved c =
    let i = c.loop-slot.slot-index in
    let some : i < c.args.width = omega (arith, simp length-take at c.loop-slot-test.true) in
    let less : c.args.width - i - 1 ≡ c.args.width - (i + 1) = omega arith in
    let more = bytes-more (c.args.width - i) c.loop-slot.rest (omega arith) ∙ ap (λ m. c.loop-slot.rest % 256 ∷ bytes_of m (c.loop-slot.rest / 256)) less in
    step {xs = single (c.loop-slot.rest % 256)} (recast (ap (λ z. z ++ []) more) c.loop-slot.invariant) (record { place = refl; bytes = refl })

pub returns : goal.returns
returns c =
    let same : length (bytes_of c.args.width c.args.n) ≡ c.args.width = length-bytes c.args.width c.args.n in
    let fits : c.args.at + c.args.width ≤ length c.args.out.now = omega (arith, room-some c.requires (search rules), same) in
    let none : c.args.width - c.loop-slot.slot-index ≤ 0 = omega (arith, simp (length-take, length-drop) at c.loop-slot-test.false, fits) in
    wrote_part (sym same) (omega arith) fits (done (recast (append-nil _ ∙ bytes-none _ c.loop-slot.rest none) c.loop-slot.invariant))
