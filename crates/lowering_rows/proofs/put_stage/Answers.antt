-- `lowering_rows::put_stage` meets its contract: its rows are made and written one after another, each with the + on the kept variables behind it.
-- Assumes nothing.
use mathlib.Core.Path.{◌≡◌}
use mathlib.Core.Bool.{true, false}
use mathlib.Core.List.{List, [], ◌∷◌, map, flat_map}
use Prim.Native.Nat.{ℕ}
use lib.IntN.{ℤ}
use native.Mathlib.Omega.{arith}
use mir.Facts.{to_z-of_z}
use Rattle.lists.proofs.Writing.{Left, step, done, room, long}
use Rattle.commands.specs.Table.{letter_a}
use Rattle.model.specs.Tasks.{RestrictedAction}
use Rattle.lowering_stages.specs.Stages.{stroke_is, turn_is}
use Rattle.lowering_stages.proofs.Rows.{amount-fits}
use Rattle.lowering_sums.specs.Views.{sums_in, added_is, AddedSmall}
use Rattle.lowering_rows.specs.Bytes.{with_kept, row_bytes, stage_rows}
use Rattle.lowering_rows.proofs.Stages.{stroke-sized, turn-sized, plain_bytes, follow_bytes, stage-begun, plain-fit}
use Rattle.lowering_rows.proofs.Stages.{row-ready, row_written, follow-ready, follow-written}
use Rattle.lowering_rows.proofs.put_stage.Goals as goal
use Rattle.lowering_rows.proofs.put_stage.Lts as lts
use Rattle.lowering_rows.proofs.put_stage.Reads as reads
use Rattle.lowering_rows.proofs.put_stage.Tie as tie

-- its three actions, what follows each, and what is left to write of the whole
abbrev falling : lts.Start tie.the-claims reads.Pre reads.Post tie.handed_clauses → RestrictedAction
falling s = stroke_is true s.args.control s.args.number s.args.s

abbrev rising : lts.Start tie.the-claims reads.Pre reads.Post tie.handed_clauses → RestrictedAction
rising s = stroke_is false s.args.control s.args.number s.args.s

abbrev turn : lts.Start tie.the-claims reads.Pre reads.Post tie.handed_clauses → RestrictedAction
turn s = turn_is s.args.a s.args.control s.args.number s.args.next s.args.s

abbrev sums : lts.Start tie.the-claims reads.Pre reads.Post tie.handed_clauses → List (List (ℕ × ℤ))
sums s = sums_in s.args.kept.sums s.args.kept.weights.now

abbrev follows : lts.Start tie.the-claims reads.Pre reads.Post tie.handed_clauses → RestrictedAction → List ℕ
follows s = follow_bytes s.args.kept.first (sums s)

abbrev rows : lts.Start tie.the-claims reads.Pre reads.Post tie.handed_clauses → List RestrictedAction
rows s = map (with_kept s.args.kept.first (sums s)) (stage_rows s.args.a s.args.control s.args.number s.args.next s.args.s)

abbrev ToWrite : lts.Start tie.the-claims reads.Pre reads.Post tie.handed_clauses → List ℕ → ℕ → List (List ℕ) → Type 0
ToWrite s out place parts = Left s.args.out.now s.args.at (flat_map (row_bytes letter_a) (rows s)) out place parts

abbrev from_turn : lts.Start tie.the-claims reads.Pre reads.Post tie.handed_clauses → List (List ℕ)
from_turn s = plain_bytes (turn s) ∷ follows s (turn s) ∷ []

abbrev from_rise : lts.Start tie.the-claims reads.Pre reads.Post tie.handed_clauses → List (List ℕ)
from_rise s = plain_bytes (rising s) ∷ follows s (rising s) ∷ from_turn s

begun : (s : lts.Start tie.the-claims reads.Pre reads.Post tie.handed_clauses) → ToWrite s s.args.out.now s.args.at (plain_bytes (falling s) ∷ follows s (falling s) ∷ from_rise s)
begun s = stage-begun s.args.kept.first (sums s) _ _ s.args.a s.args.control s.args.number s.args.next s.args.s

abbrev s₂ : lts.After-follow tie.the-claims reads.Pre reads.Post tie.handed_clauses → lts.Start tie.the-claims reads.Pre reads.Post tie.handed_clauses
s₂ c = c.before.before.before.before.before.before.before.before.before.before.before

abbrev s₃ : lts.After-put_row2 tie.the-claims reads.Pre reads.Post tie.handed_clauses → lts.Start tie.the-claims reads.Pre reads.Post tie.handed_clauses
s₃ c = s₂ c.before.before.before.before.before.before.before

abbrev s₄ : lts.After-follow2 tie.the-claims reads.Pre reads.Post tie.handed_clauses → lts.Start tie.the-claims reads.Pre reads.Post tie.handed_clauses
s₄ c = s₃ c.before.before.before.before.before

abbrev s₅ : lts.After-put_row3 tie.the-claims reads.Pre reads.Post tie.handed_clauses → lts.Start tie.the-claims reads.Pre reads.Post tie.handed_clauses
s₅ c = s₄ c.before.before.before.before.before.before.before

abbrev s₆ : lts.After-added_once tie.the-claims reads.Pre reads.Post tie.handed_clauses → lts.Start tie.the-claims reads.Pre reads.Post tie.handed_clauses
s₆ c = s₅ c.before.before.before.before.before

-- what is left behind each
fallen : (c : lts.After-put_row tie.the-claims reads.Pre reads.Post tie.handed_clauses) → ToWrite c.before.before.before.before.before.before c.put_row-fallen.new.out c.put_row-fallen.result (follows c.before.before.before.before.before.before (falling c.before.before.before.before.before.before) ∷ from_rise c.before.before.before.before.before.before)
fallen c = step (begun c.before.before.before.before.before.before) (row_written c.push_stroke.ensures c.put_row-fallen.ensures)

fell : (c : lts.After-follow tie.the-claims reads.Pre reads.Post tie.handed_clauses) → ToWrite (s₂ c) c.follow-second.new.out c.follow-second.result (from_rise (s₂ c))
fell c =
    let s = s₂ c in
    step (fallen c.before.before.before.before.before)
    (follow-written s.args.kept.first s.args.kept.sums s.args.kept.weights.now (falling s) c.added_by.ensures c.follow-second.ensures)

risen : (c : lts.After-put_row2 tie.the-claims reads.Pre reads.Post tie.handed_clauses) → ToWrite (s₃ c) c.put_row-risen.new.out c.put_row-risen.result (follows (s₃ c) (rising (s₃ c)) ∷ from_turn (s₃ c))
risen c = step (fell c.before.before.before.before.before.before.before)
    (row_written c.push_stroke-2.ensures c.put_row-risen.ensures)

rose : (c : lts.After-follow2 tie.the-claims reads.Pre reads.Post tie.handed_clauses) → ToWrite (s₄ c) c.follow-third.new.out c.follow-third.result (from_turn (s₄ c))
rose c =
    let s = s₄ c in
    step (risen c.before.before.before.before.before)
    (follow-written s.args.kept.first s.args.kept.sums s.args.kept.weights.now (rising s) c.added_by-2.ensures c.follow-third.ensures)

turned : (c : lts.After-put_row3 tie.the-claims reads.Pre reads.Post tie.handed_clauses) → ToWrite (s₅ c) c.put_row-turned.new.out c.put_row-turned.result (follows (s₅ c) (turn (s₅ c)) ∷ [])
turned c = step (rose c.before.before.before.before.before.before.before)
    (row_written c.push_turn.ensures c.put_row-turned.ensures)

-- what a turn gives, as the code has it
given : (c : lts.After-added_once tie.the-claims reads.Pre reads.Post tie.handed_clauses) → (added_is c.added_once.result ≡ (turn (s₆ c)).additions) × AddedSmall c.added_once.result
given c = rw (to_z-of_z (amount-fits (s₆ c).requires.marks_len.2.gives)) at c.added_once.ensures

all-written : (c : lts.After-follow3 tie.the-claims reads.Pre reads.Post tie.handed_clauses) → ToWrite (s₆ c.before) c.follow.new.out c.follow.result []
all-written c =
    let s = s₆ c.before in
    step (turned c.before.before.before.before.before.before)
    (follow-written s.args.kept.first s.args.kept.sums s.args.kept.weights.now (turn s) (given c.before) c.follow.ensures)

pub put_row-fallen-requires : goal.put_row-fallen-requires
put_row-fallen-requires c =
    let s = c.before.before.before.before.before in
    let ready = row-ready c.push_stroke.ensures (stroke-sized s.args.s s.requires.marks_len.2 s.args.control s.args.number true)
    (plain-fit s.args.kept.first (sums s) (falling s) s.requires.all_fit.0) (room s.requires.room (begun s)) in
    record { writable = ready.0; room = ready.1 }

pub follow-second-requires : goal.follow-second-requires
follow-second-requires c =
    let ready = follow-ready c.args.kept.first c.args.kept.sums c.args.kept.weights.now (falling c.before.before.before.before.before.before.before.before.before.before)
    c.added_by.ensures c.requires.marks_len.3 c.requires.all_fit.0 (room c.requires.room (fallen c.before.before.before.before)) in
    record { keeps = ready.0; room = ready.1 }

pub put_row-risen-requires : goal.put_row-risen-requires
put_row-risen-requires c =
    let f = c.before.before.before.before.before.before in
    let s = s₂ f in
    let ready = row-ready c.push_stroke-2.ensures (stroke-sized s.args.s s.requires.marks_len.2 s.args.control s.args.number false)
    (plain-fit s.args.kept.first (sums s) (rising s) s.requires.all_fit.1.0) (room s.requires.room (fell f)) in
    record { writable = ready.0; room = ready.1 }

pub added_by-requires-2 : goal.added_by-requires-2
added_by-requires-2 c = (s₃ c.before.before.before).requires.marks_len.2

pub follow-third-requires : goal.follow-third-requires
follow-third-requires c =
    let s = s₃ c.before.before.before.before in
    let ready = follow-ready s.args.kept.first s.args.kept.sums s.args.kept.weights.now (rising s) c.added_by-2.ensures s.requires.marks_len.3 s.requires.all_fit.1.0
    (room s.requires.room (risen c.before.before.before.before)) in
    record { keeps = ready.0; room = ready.1 }

pub push_turn-requires : goal.push_turn-requires
push_turn-requires c =
    let says = c.push_stroke-2.ensures in
    (says.marks_long, says.numbers_long, (s₄ c.before.before.before.before.before).requires.marks_len.2)

pub put_row-turned-requires : goal.put_row-turned-requires
put_row-turned-requires c =
    let r = c.before.before.before.before.before.before in
    let s = s₄ r in
    let ready = row-ready c.push_turn.ensures
    (turn-sized s.args.s s.requires.marks_len.2 s.args.control s.args.number s.args.a s.args.next)
    (plain-fit s.args.kept.first (sums s) (turn s) s.requires.all_fit.1.1.0) (room s.requires.room (rose r)) in
    record { writable = ready.0; room = ready.1 }

pub added_once-requires : goal.added_once-requires
added_once-requires c =
    let gives = (s₅ c.before.before.before.before.before).requires.marks_len.2.gives in
    rw (to_z-of_z (amount-fits gives)) (omega (arith, gives))

pub follow-requires : goal.follow-requires
follow-requires c =
    let s = s₆ c in
    let ready = follow-ready s.args.kept.first s.args.kept.sums s.args.kept.weights.now (turn s) (given c) s.requires.marks_len.3 s.requires.all_fit.1.1.0
    (room s.requires.room (turned c.before.before.before.before.before)) in
    record { keeps = ready.0; room = ready.1 }

pub shape_of-out : goal.shape_of-out
shape_of-out c = long (all-written c.before.before.before)

pub returns : goal.returns
returns c =
    let says = c.push_turn.ensures in
    record { wrote = done (all-written c.before.before.before); marks_long = says.marks_long; numbers_long = says.numbers_long }
