-- `lowering_rows::put_opening` meets its contract: its row is made and written, and the + on the kept variables behind it. Assumes nothing.
use mathlib.Core.Path.{◌≡◌, ap, ◌∙◌}
use mathlib.Core.List.{List, [], ◌∷◌}
use Prim.Native.Nat.{ℕ}
use lib.IntN.{ℤ}
use Rattle.lists.proofs.Writing.{Left, step, done, room}
use Rattle.model.specs.Tasks.{RestrictedAction}
use Rattle.file_parts.specs.Row.{row_is}
use Rattle.file_actions.specs.Views.{effects_is}
use Rattle.lowering_sums.specs.Views.{sums_in, added_is, AddedSmall}
use Rattle.lowering_rows.specs.Macros.{opening_in}
use Rattle.lowering_rows.proofs.Keeping.{opening-room, opened-sized, opened-once}
use Rattle.lowering_rows.proofs.Stages.{plain_bytes, follow_bytes, kept_bytes, kept-begun, plain-fit}
use Rattle.lowering_rows.proofs.Stages.{row-ready, row_written, follow-ready, follow-written}
use Rattle.lowering_rows.proofs.put_opening.Goals as goal
use Rattle.lowering_rows.proofs.put_opening.Lts as lts
use Rattle.lowering_rows.proofs.put_opening.Reads as reads
use Rattle.lowering_rows.proofs.put_opening.Tie as tie

-- the opening, the sums, and what is left to write of it
abbrev opened : lts.Start tie.the-claims reads.Pre reads.Post tie.handed_clauses → RestrictedAction
opened s = opening_in s.args.shape s.args.next (effects_is s.args.effects) (row_is s.args.marks.now s.args.numbers.now)

abbrev sums : lts.Start tie.the-claims reads.Pre reads.Post tie.handed_clauses → List (List (ℕ × ℤ))
sums s = sums_in s.args.kept.sums s.args.kept.weights.now

abbrev ToWrite : lts.Start tie.the-claims reads.Pre reads.Post tie.handed_clauses → List ℕ → ℕ → List (List ℕ) → Type 0
ToWrite s out place parts = Left s.args.out.now s.args.at (kept_bytes s.args.kept.first (sums s) (opened s)) out place parts

begun : (s : lts.Start tie.the-claims reads.Pre reads.Post tie.handed_clauses) → ToWrite s s.args.out.now s.args.at (plain_bytes (opened s) ∷ follow_bytes s.args.kept.first (sums s) (opened s) ∷ [])
begun s = kept-begun s.args.kept.first (sums s) _ _ (opened s)

abbrev s₂ : lts.After-added_in tie.the-claims reads.Pre reads.Post tie.handed_clauses → lts.Start tie.the-claims reads.Pre reads.Post tie.handed_clauses
s₂ c = c.before.before.before.before.before.before.before.before.before.before.before.before

-- its row is written
plain : (c : lts.After-put_row tie.the-claims reads.Pre reads.Post tie.handed_clauses) → let s = c.before.before.before.before.before.before.before.before in
    ToWrite s c.put_row-behind.new.out c.put_row-behind.result (follow_bytes s.args.kept.first (sums s) (opened s) ∷ [])
plain c = step (begun c.before.before.before.before.before.before.before.before) (row_written c.push_opening.ensures c.put_row-behind.ensures)

-- what it adds
added : (c : lts.After-added_in tie.the-claims reads.Pre reads.Post tie.handed_clauses) → (added_is c.added_in.result ≡ (opened (s₂ c)).additions) × AddedSmall c.added_in.result
added c =
    let says = c.push_opening.ensures in
    (c.added_in.ensures.0 ∙ ap (λ (x : RestrictedAction). x.additions) says.is, c.added_in.ensures.1)

pub push_opening-requires : goal.push_opening-requires
push_opening-requires c =
    let l = c.requires.lowerable.0 in
    (opening-room l, l.numbers_long, l.bounded, l.effects)

pub put_row-behind-requires : goal.put_row-behind-requires
put_row-behind-requires c =
    let s = c.before.before.before.before.before.before.before in
    let ready = row-ready c.push_opening.ensures (opened-sized s.requires.lowerable.0 s.args.next)
    (plain-fit s.args.kept.first (sums s) (opened s) s.requires.fit) (room s.requires.room (begun s)) in
    record { writable = ready.0; room = ready.1 }

pub added_in-requires : goal.added_in-requires
added_in-requires c =
    opened-once c.requires.lowerable.0 c.args.next c.push_opening.ensures

pub follow-requires : goal.follow-requires
follow-requires c =
    let s = s₂ c in
    let ready = follow-ready s.args.kept.first s.args.kept.sums s.args.kept.weights.now (opened s) (added c) s.requires.lowerable.1 s.requires.fit
    (room s.requires.room (plain c.before.before.before.before)) in
    record { keeps = ready.0; room = ready.1 }

pub returns : goal.returns
returns c =
    let a = c.before.before.before.before in
    let s = s₂ a in
    let says = c.push_opening.ensures in
    record {
      wrote = done (step (plain a.before.before.before.before)
          (follow-written s.args.kept.first s.args.kept.sums s.args.kept.weights.now (opened s) (added a) c.follow.ensures));
      marks_long = says.marks_long;
      numbers_long = says.numbers_long;
    }
