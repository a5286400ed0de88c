-- `lowering_stages::push_added` meets its contract: each call makes one addition more, and each exit is where all are made. Assumes nothing.
use Prim.Native.Nat.{ℕ}
use mathlib.Core.List.{List}
use native.Mathlib.Omega.{arith}
use lib.IntN.{ℤ}
use mir.Syntax.{w64}
use mir.Val.{SFits}
use mir.Facts.{to_z-of_z}
use Rattle.model.specs.Steps.{integer_at}
use Rattle.lowering_stages.proofs.Rows.{Adding, adding-start, adding-room, adding-next, adding-end, amount-fits}
use Rattle.lowering_stages.proofs.push_added.Goals as goal
use Rattle.lowering_stages.proofs.push_added.Lts as lts
use Rattle.lowering_stages.proofs.push_added.Reads as reads
use Rattle.lowering_stages.proofs.push_added.Tie as tie

abbrev s₂ : lts.After-push_amount2 tie.the-claims reads.Pre reads.Post → lts.Start tie.the-claims reads.Pre reads.Post
s₂ c = c.before.before.before.before.before.before.before.before.before.before.before.before

abbrev s₃ : lts.After-push_amount3 tie.the-claims reads.Pre reads.Post → lts.Start tie.the-claims reads.Pre reads.Post
s₃ c = s₂ c.before.before.before.before.before.before

abbrev s₄ : lts.After-push_amount4 tie.the-claims reads.Pre reads.Post → lts.Start tie.the-claims reads.Pre reads.Post
s₄ c = s₃ c.before.before.before.before.before.before

-- the first i additions are made
abbrev Made : lts.Start tie.the-claims reads.Pre reads.Post → ℕ → List ℕ → List ℤ → Type 0
Made s i marks numbers = Adding s.args.marks.now s.args.numbers.now s.args.falls s.args.s s.args.s.added i marks numbers

-- an amount as the code has it
fits : (s : lts.Start tie.the-claims reads.Pre reads.Post) (i : ℕ) → SFits w64 (integer_at s.args.s.amounts i)
fits s i = amount-fits (s.requires.2.amounts i)

none : (s : lts.Start tie.the-claims reads.Pre reads.Post) → Made s 0 s.args.marks.now s.args.numbers.now
none s = adding-start s.args.falls s.args.s s.requires.0.long s.requires.1

one : (c : lts.After-push_amount tie.the-claims reads.Pre reads.Post) → Made c.before.before.before.before.before.before 1 c.push_amount.new.marks c.push_amount.new.numbers
one c = adding-next (none c.before.before.before.before.before.before) c.if-count-lt1.false (rw (to_z-of_z (fits c.before.before.before.before.before.before 0)) at c.push_amount.ensures)

two : (c : lts.After-push_amount2 tie.the-claims reads.Pre reads.Post) → Made (s₂ c) 2 c.push_amount-2.new.marks c.push_amount-2.new.numbers
two c =
    adding-next (one c.before.before.before.before.before.before) c.if-count-lt2.false
    (rw (to_z-of_z (fits (s₂ c) 1)) at c.push_amount-2.ensures)

three : (c : lts.After-push_amount3 tie.the-claims reads.Pre reads.Post) → Made (s₃ c) 3 c.push_amount-3.new.marks c.push_amount-3.new.numbers
three c =
    adding-next (two c.before.before.before.before.before.before) c.if-count-lt3.false
    (rw (to_z-of_z (fits (s₃ c) 2)) at c.push_amount-3.ensures)

four : (c : lts.After-push_amount4 tie.the-claims reads.Pre reads.Post) → Made (s₄ c) 4 c.push_amount-4.new.marks c.push_amount-4.new.numbers
four c =
    adding-next (three c.before.before.before.before.before.before) c.if-count-lt4.false
    (rw (to_z-of_z (fits (s₄ c) 3)) at c.push_amount-4.ensures)

pub returns-then-count-lt1 : goal.returns-then-count-lt1
returns-then-count-lt1 c = adding-end (none c.before) (omega (arith, c.if-count-lt1.true))

pub push_amount-requires : goal.push_amount-requires
push_amount-requires c =
    let s = c.before.before.before.before.before in
    let h = none s in
    rw (to_z-of_z (fits s 0)) (adding-room h c.if-count-lt1.false s.requires.0, h.says.numbers_long, s.requires.2.amounts 0)

pub returns-then-count-lt2 : goal.returns-then-count-lt2
returns-then-count-lt2 c = adding-end (one c.before) (omega (arith, c.if-count-lt2.true))

pub push_amount-requires-2 : goal.push_amount-requires-2
push_amount-requires-2 c =
    let h = one c.before.before.before.before.before in
    rw (to_z-of_z (fits c.before.before.before.before.before.before.before.before.before.before.before 1)) (adding-room h c.if-count-lt2.false c.requires.0, h.says.numbers_long, c.requires.2.amounts 1)

pub returns-then-count-lt3 : goal.returns-then-count-lt3
returns-then-count-lt3 c = adding-end (two c.before) (omega (arith, c.if-count-lt3.true))

pub push_amount-requires-3 : goal.push_amount-requires-3
push_amount-requires-3 c =
    let s = s₂ c.before.before.before.before.before in
    let h = two c.before.before.before.before.before in
    rw (to_z-of_z (fits s 2)) (adding-room h c.if-count-lt3.false s.requires.0, h.says.numbers_long, s.requires.2.amounts 2)

pub returns-then-count-lt4 : goal.returns-then-count-lt4
returns-then-count-lt4 c = adding-end (three c.before) (omega (arith, c.if-count-lt4.true))

pub push_amount-requires-4 : goal.push_amount-requires-4
push_amount-requires-4 c =
    let s = s₃ c.before.before.before.before.before in
    let h = three c.before.before.before.before.before in
    rw (to_z-of_z (fits s 3)) (adding-room h c.if-count-lt4.false s.requires.0, h.says.numbers_long, s.requires.2.amounts 3)

pub returns : goal.returns
returns c = adding-end (four c) (s₄ c).requires.2.few
