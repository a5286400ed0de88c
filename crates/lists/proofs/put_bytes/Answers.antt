-- `lists::put_bytes` meets its contract: the loop writes each byte as a list of one. Assumes nothing.
use mathlib.Core.Path.{◌≡◌, refl, ◌∙◌, subst}
use Prim.Native.Nat.{ℕ, ◌+◌, ◌≤◌}
use native.Mathlib.Omega.{arith}
use native.Mathlib.Numerals.{unary_clauses}
use borrow.Author.Rules.{rules}
use mathlib.Core.List.{List, flat_map}
use lib.ListN.{length, take}
use lib.Seq.{take_all}
use Rattle.lists.proofs.Each.{single, flat_map-single}
use Rattle.lists.proofs.Loops.{there-all}
use Rattle.lists.proofs.Writing.{room-some, wrote_as, wrote_none}
use Rattle.lists.proofs.WritingLoops.{going_start, going_next, going_end, going-long}
use Rattle.lists.specs.Writing.{Wrote}
use Rattle.lists.proofs.put_bytes.Goals as goal

bytes-are : (xs : List ℕ) → flat_map single (take (length xs) xs) ≡ xs
bytes-are xs = flat_map-single _ ∙ take_all (length xs) xs (omega arith)

pub returns-then-is_empty : goal.returns-then-is_empty
returns-then-is_empty c = wrote_none (search rules) refl

pub loop-i-init : goal.loop-i-init
loop-i-init c = simp unary_clauses (going_start (there-all _ _ (omega arith)))

pub bounds-out-at : goal.bounds-out-at
bounds-out-at c =
    let fits : c.args.at + length c.args.bytes.now ≤ length c.args.out.now = room-some c.requires (search rules) in
    omega (arith, fits, c.loop-i-test.true, going-long c.loop-i.invariant)

pub loop-i-preserved : goal.loop-i-preserved
loop-i-preserved c = going_next 0 c.loop-i.invariant c.loop-i-test.true (record { place = omega arith; bytes = refl })

pub returns : goal.returns
returns c =
    let all : c.loop-i.i ≡ length c.args.bytes.now = omega (arith, c.loop-i.invariant.bound, c.loop-i-test.false) in
    subst (λ (k : ℕ). Wrote c.args.out.now c.args.at c.args.bytes.now c.loop-i.out (c.args.at + k)) all
    (wrote_as (bytes-are _) (going_end c.loop-i.invariant c.loop-i-test.false))
