-- The loop over the source actions of an accepted file that writes what they become.
-- Assumes nothing.
use mathlib.Core.Path.{◌≡◌, sym, ap, ◌∙◌, subst}
use mathlib.Core.Bool.{Bool, true, false, cond}
use mathlib.Core.List.{List, [], ◌∷◌, ◌++◌, append-nil, flat_map}
use Prim.Native.Nat.{ℕ, ◌+◌, ◌≤◌, ◌<◌}
use lib.ListN.{length}
use lib.IntN.{ℤ}
use Rattle.lists.specs.Writing.{Room, Wrote}
use Rattle.lists.proofs.Each.{flat_map-nil, flat_map-append}
use Rattle.lists.proofs.Writing.{Left, start, step, done, recast, room}
use Rattle.model.specs.Tasks.{RestrictedAction}
use Rattle.model.specs.Decoding.{sum_conditions_of}
use Rattle.model.specs.ActionBytes.{action_part, decode_action}
use Rattle.model.specs.Stages.{several}
use Rattle.model.specs.Sums.{keeping_all}
use Rattle.file_parts.specs.Row.{row_is}
use Rattle.file_actions.specs.declared.Effects.{Effects}
use Rattle.file_actions.specs.Views.{effects_is, source_action_is, plain_action_of, SourceDecoded, fitting_source}
use Rattle.lowering_stages.specs.declared.Shape.{Shape}
use Rattle.lowering_stages.specs.Stages.{most_stages}
use Rattle.lowering_rows.specs.Bytes.{restricted_action_bytes}
use Rattle.lowering_rows.specs.Macros.{macro_with, stages_in, macro_in}
use Rattle.lowering_file.specs.Held.{Held, Kept, sums_is, KeptOf, OwnPushed, rest_at, actions_part}
use Rattle.lowering_file.proofs.Keeping.{actions-kept}
use Rattle.lowering_file.proofs.Walk.{Walk, walk_start, walk_split, rows-become, walk-next, walk_end}

-- the bytes of what an action becomes, from its rows, and of what is left of the lowered actions
abbrev rows_bytes : Shape → Kept → ℕ → List ℕ → List ℤ → Effects → List ℕ
rows_bytes h p from marks numbers r = flat_map restricted_action_bytes (macro_with p.first (sums_is p) h from (effects_is r) (row_is marks numbers))

abbrev rest_bytes : List ℕ → Kept → ℕ → ℕ → ℕ → List ℕ
rest_bytes file p from k j = flat_map restricted_action_bytes (rest_at file p from k j)

-- into `old` from index `at` on: the output is `out`, and the next byte goes to `place`
pub record Putting (file : List ℕ) (count : ℕ) (h : Shape) (p : Kept) (old : List ℕ) (at : ℕ) (out : List ℕ)
    (place k from : ℕ) (many : Bool) (j : ℕ) : Type 0 where
  pub walk : Walk file count h p k from many j
  pub left : Left old at (actions_part file) out place (rest_bytes file p from k j ∷ [])

module _ {file : List ℕ} {count : ℕ} {h : Shape} {p : Kept} where
  pub putting-start : {old : List ℕ} {at : ℕ} → Held file count h → KeptOf file p → Putting file count h p old at old at 0 1 false p.first
  putting-start {old} {at} held keeps = record {
    walk = walk_start held keeps;
    left = start old at (ap (flat_map restricted_action_bytes) (sym (actions-kept keeps)) ∙ sym (append-nil (rest_bytes file p 1 0 p.first)));
  }

  -- action k, whose rows its K's were pushed to
  module _ {k from : ℕ} {many : Bool} {j : ℕ} (below : k < count) (marks : List ℕ) (numbers : List ℤ) (r : Effects)
      (decoded : SourceDecoded (fitting_source (plain_action_of (decode_action (action_part file k)))) marks numbers r)
      {marks' : List ℕ} {numbers' : List ℤ} {n : ℕ}
      (own : OwnPushed (sum_conditions_of (decode_action (action_part file k))) j (row_is marks numbers) marks' numbers' n)
      (c : ℕ) (stages : c ≡ length (stages_in h r)) where
    rest-split : Walk file count h p k from many j
        → rest_bytes file p from k j ≡ rows_bytes h p from marks' numbers' r ++ rest_bytes file p (from + c) (k + 1) (j + own.own.count)
    rest-split w =
        ap (flat_map restricted_action_bytes) (walk_split w below marks numbers r own.own decoded own.decoded c stages)
        ∙ flat_map-append restricted_action_bytes (keeping_all p.first (sums_is p) j (macro_in h from (source_action_is marks numbers r own.own)))
        (rest_at file p (from + c) (k + 1) (j + own.own.count))
        ∙ ap (λ (acts : List RestrictedAction). flat_map restricted_action_bytes acts ++ rest_bytes file p (from + c) (k + 1) (j + own.own.count))
        (sym (rows-become w below marks numbers r own.own decoded own.decoded own.says))

    module _ {old : List ℕ} {at : ℕ} {out : List ℕ} {place : ℕ} (g : Putting file count h p old at out place k from many j) where
      parted : Left old at (actions_part file) out place
          (rows_bytes h p from marks' numbers' r ∷ rest_bytes file p (from + c) (k + 1) (j + own.own.count) ∷ [])
      parted =
          recast
          (append-nil (rest_bytes file p from k j) ∙ rest-split g.walk
          ∙ ap (λ (z : List ℕ). rows_bytes h p from marks' numbers' r ++ z) (sym (append-nil (rest_bytes file p (from + c) (k + 1) (j + own.own.count)))))
          g.left

      pub putting-room : Room old at (actions_part file) → Room out place (rows_bytes h p from marks' numbers' r)
      putting-room room_for = room room_for parted

      pub putting-next : {after : List ℕ} {next : ℕ} → c ≤ most_stages → (more : Bool) → more ≡ cond many true (several (effects_is r))
          → Wrote out place (rows_bytes h p from marks' numbers' r) after next
          → Putting file count h p old at after next (k + 1) (from + c) more (j + n)
      putting-next {after} {next} l more is w =
          subst (λ (z : ℕ). Putting file count h p old at after next (k + 1) (from + c) more (j + z)) (sym own.counted)
          (record { walk = walk-next g.walk below marks numbers r own.own decoded own.decoded c stages l more is; left = step parted w })

  pub putting-end : {old : List ℕ} {at : ℕ} {out : List ℕ} {place k from : ℕ} {many : Bool} {j : ℕ} → Putting file count h p old at out place k from many j
      → count ≤ k → Wrote old at (actions_part file) out place
  putting-end {k = k} {from = from} {j = j} g l =
      done
      (recast
      (append-nil (rest_bytes file p from k j) ∙ ap (flat_map restricted_action_bytes) (walk_end g.walk l)
      ∙ flat_map-nil restricted_action_bytes)
      g.left)
