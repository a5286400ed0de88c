-- `lowering_rows::put_macro` meets its contract: the opening or single action, then the stages; together they are its macro. Assumes nothing.
use mathlib.Core.Path.{◌≡◌, sym, ap, ◌∙◌, subst}
use mathlib.Core.List.{List}
use Prim.Native.Nat.{ℕ}
use lib.ListN.{length}
use lib.IntN.{ℤ}
use Rattle.lists.specs.Writing.{Wrote}
use Rattle.lists.proofs.Writing.{step, done, room, room_as, wrote_as}
use Rattle.model.specs.Tasks.{RestrictedAction}
use Rattle.model.specs.FourRelations.{in_four}
use Rattle.model.specs.Stages.{first_stage}
use Rattle.file_parts.specs.Row.{row_is}
use Rattle.file_actions.specs.Views.{effects_is}
use Rattle.lowering_stages.specs.Shapes.{lower_of, upper_of}
use Rattle.lowering_sums.specs.Views.{sums_in}
use Rattle.lowering_rows.specs.Bytes.{restricted_action_bytes, with_kept}
use Rattle.lowering_rows.specs.Macros.{Fit, opening_in, stages_in}
use Rattle.lowering_rows.proofs.Macros.{fit-of-four, first-is, macro-begun}
use Rattle.lowering_rows.proofs.Stages.{kept_bytes}
use Rattle.lowering_rows.proofs.Writing.{action-row}
use Rattle.lowering_rows.proofs.put_macro.Goals as goal
use Rattle.lowering_rows.proofs.put_macro.Lts as lts
use Rattle.lowering_rows.proofs.put_macro.Reads as reads
use Rattle.lowering_rows.proofs.put_macro.Tie as tie

-- the opening, with the next control; the sums of the task; and an action as its row is written
abbrev opened : lts.Start tie.the-claims reads.Pre reads.Post tie.handed_clauses → ℕ → RestrictedAction
opened s next = opening_in s.args.shape next (effects_is s.args.effects) (row_is s.args.marks.now s.args.numbers.now)

abbrev sums : lts.Start tie.the-claims reads.Pre reads.Post tie.handed_clauses → List (List (ℕ × ℤ))
sums s = sums_in s.args.kept.sums s.args.kept.weights.now

abbrev bytes : lts.Start tie.the-claims reads.Pre reads.Post tie.handed_clauses → RestrictedAction → List ℕ
bytes s = kept_bytes s.args.kept.first (sums s)

-- as many stages as it has, and the opening that is written is that of the macro
counted : (c : lts.After-stage_count tie.the-claims reads.Pre reads.Post tie.handed_clauses) → c.stage_count-count.result ≡ length (stages_in c.args.shape c.args.effects)
counted c = c.stage_count-count.ensures.0 (lower_of c.args.shape) (upper_of c.args.shape)

opening : (c : lts.After-first_stage tie.the-claims reads.Pre reads.Post tie.handed_clauses) → let s = c.before.before.before in opened s c.first_stage-next.result
    ≡ opened s (first_stage s.args.from (stages_in s.args.shape s.args.effects))
opening c =
    ap (opened c.before.before.before) (c.first_stage-next.ensures ∙ first-is c.args.from c.stage_count-count.result (stages_in c.args.shape c.args.effects)
    (counted c.before))

opening-wrote : (c : lts.After-put_opening tie.the-claims reads.Pre reads.Post tie.handed_clauses) → let s = c.before.before.before.before.before.before.before in
    let next = first_stage s.args.from (stages_in s.args.shape s.args.effects) in
    Wrote s.args.out.now s.args.at (restricted_action_bytes (in_four (with_kept s.args.kept.first (sums s) (opened s next))))
    c.put_opening-place.new.out c.put_opening-place.result
opening-wrote c =
    wrote_as (ap (bytes c.before.before.before.before.before.before.before) (opening c.before.before.before.before) ∙ action-row _) c.put_opening-place.ensures.wrote

pub put_opening-place-requires : goal.put_opening-place-requires
put_opening-place-requires c =
    let s = c.before.before.before.before.before.before in
    let same = opening c.before.before.before in
    record {
      lowerable = (s.requires.lowerable.0, s.requires.lowerable.1);
      fit = subst (λ (x : RestrictedAction). Fit (with_kept s.args.kept.first (sums s) x)) (sym same) (fit-of-four s.requires.lowerable.4.0);
      room = room_as (sym (ap (bytes s) same ∙ action-row _)) (room s.requires.room (macro-begun _ _ _ _));
    }

pub put_stages-requires : goal.put_stages-requires
put_stages-requires c =
    let h = c.requires.lowerable.0 in
    let one = step (macro-begun _ _ _ _) (opening-wrote c.before.before.before) in
    record {
      bounded = (h.bounded, h.effects, c.requires.lowerable.1);
      count_value = (counted c.before.before.before.before.before.before.before.before, c.stage_count-count.ensures.1, c.requires.lowerable.2, c.requires.lowerable.3);
      all_fit = c.requires.lowerable.4.1;
      room = room c.requires.room one;
    }

pub returns : goal.returns
returns c =
    let opens = c.put_opening-place.ensures in
    record {
      wrote = done (step (step (macro-begun _ _ _ _) (opening-wrote c.before.before.before.before.before.before.before)) c.put_stages.ensures);
      marks_long = opens.marks_long;
      numbers_long = opens.numbers_long;
    }
