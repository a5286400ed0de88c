-- `lists::fill_run` meets its contract: what is left to write is a shorter run. Assumes nothing.
use mathlib.Core.Path.{◌≡◌, refl, sym, ap, ◌∙◌}
use mathlib.Core.List.{[], ◌++◌, append-nil}
use Prim.Native.Nat.{◌+◌, ◌*◌, ◌-◌, ◌≤◌}
use native.Mathlib.Omega.{arith}
use borrow.Author.Rules.{rules}
use lib.ListN.{length, replicate}
use Rattle.integers.specs.Numbers.{bytes_of}
use Rattle.lists.specs.Numbers.{numbers_bytes}
use Rattle.lists.proofs.Numbers.{length_run, run_more, run_none}
use Rattle.lists.proofs.Writing.{start, step, done, recast, room-some, room-wide, wrote_none, wrote_part}
use Rattle.lists.proofs.fill_run.Goals as goal

pub overflow_mul-end : goal.overflow_mul-end
overflow_mul-end c = omega (arith, room-wide c.requires (omega arith), length_run 2 c.args.count c.args.number)

pub overflow_add-end : goal.overflow_add-end
overflow_add-end c = omega (arith, room-wide c.requires (omega arith), length_run 2 c.args.count c.args.number)

pub returns-then-is_empty : goal.returns-then-is_empty
returns-then-is_empty c = wrote_none (search rules) (omega (arith, length_run 2 c.args.count c.args.number))

pub slice_bounds-run-end : goal.slice_bounds-run-end
slice_bounds-run-end c =
    let fits : c.args.at + 2 * c.args.count ≤ length c.args.out.now = omega (arith, room-some c.requires (search rules), length_run 2 c.args.count c.args.number) in
    search rules

pub loop-i-init : goal.loop-i-init
loop-i-init c =
    let all : c.args.count - 0 ≡ c.args.count = omega arith in
    start _ 0 (ap (λ m. numbers_bytes 2 (replicate m c.args.number)) (sym all) ∙ sym (append-nil _))

pub loop-i-preserved : goal.loop-i-preserved
loop-i-preserved c =
    let left = c.args.count - c.loop-i.i in
    let less : left - 1 ≡ c.args.count - (c.loop-i.i + 1) = omega arith in
    let more = run_more 2 left c.args.number (omega arith) ∙ ap (λ m. bytes_of 2 c.args.number ++ numbers_bytes 2 (replicate m c.args.number)) less in
    step {xs = bytes_of 2 c.args.number} (recast (ap (λ z. z ++ []) more) c.loop-i.invariant) (record { place = omega arith; bytes = rw c.to_le_bytes.ensures refl })

pub returns : goal.returns
returns c =
    let same : length (numbers_bytes 2 (replicate c.args.count c.args.number)) ≡ 2 * c.args.count = length_run 2 c.args.count c.args.number in
    let fits : c.args.at + 2 * c.args.count ≤ length c.args.out.now = omega (arith, room-some c.requires (search rules), same) in
    wrote_part (sym same) (omega arith) fits (done (recast (append-nil _ ∙ run_none 2 _ c.args.number (omega arith)) c.loop-i.invariant))
