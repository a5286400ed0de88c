-- The rows of a stage can be written, each with the + on the kept variables behind it, and are those of the model.
-- Assumes nothing.
use mathlib.Core.Path.{◌≡◌, refl, sym, ap, ap₂, ◌∙◌, subst}
use Prim.Native.Nat.{ℕ, zero, suc, ◌<◌, ◌≤◌}
use native.Mathlib.Omega.{arith}
use mathlib.Core.Bool.{Bool, true, false, cond}
use mathlib.Core.List.{List, [], ◌∷◌, ◌++◌, map, flat_map, append_assoc, append-nil}
use lib.Dec.{eqb, lit≤}
use mathlib.Core.Option.{some}
use lib.ListN.{length, get_or, get_elem?}
use lib.IntN.{ℤ, pos, nat_abs, ◌-ℤ◌}
use Rattle.commands.specs.Table.{letter_a}
use Rattle.integers.specs.All.{All}
use Rattle.integers.specs.Numbers.{bytes_of}
use Rattle.lists.proofs.Each.{length-tabulate, flat_map-append}
use Rattle.lists.specs.Writing.{Room, Wrote}
use Rattle.lists.proofs.Writing.{Left, start, room_as, wrote_as}
use Rattle.model.specs.Tasks.{NumericCondition, RestrictedAction}
use Rattle.model.specs.Steps.{natural_at}
use Rattle.model.specs.FourRelations.{in_four}
use Rattle.model.specs.Sums.{kept_additions}
use Rattle.model.specs.Stages.{Stage as ModelStage, stage_actions}
use Rattle.model.specs.Lowering.{numbered_all}
use Rattle.file_parts.specs.Layout.{condition_count, addition_count}
use Rattle.file_parts.specs.Row.{condition_in, addition_in, row_is, Says}
use Rattle.file_parts.specs.With.{condition}
use Rattle.file_parts.proofs.Pushing.{Sized, parts-fit}
use Rattle.lowering_stages.specs.declared.Stage.{Stage}
use Rattle.lowering_stages.specs.Stages.{signed_at, stroke_is, turn_is, Small, Stands}
use Rattle.lowering_stages.proofs.Rows.{asked-few, asks-in-four, falling-is, rising-is, turn_is_lem}
use Rattle.lowering_sums.specs.declared.Added.{Added}
use Rattle.lowering_sums.specs.Views.{sums_in, added_is, AddedSmall}
use Rattle.lowering_rows.specs.Macros.{Constant, Amount, Fit, Keeps}
use Rattle.lowering_rows.specs.Bytes.{mode_condition_bytes, condition_bytes, mode_effect_bytes, addition_bytes, restricted_action_bytes, with_kept, row_bytes}
use Rattle.lowering_rows.specs.Bytes.{Writable, stage_rows}
use Rattle.lowering_rows.proofs.Keeping.{all-parts, all-at}
use Rattle.lowering_rows.proofs.Writing.{action-row}

-- ---- an action that can be written
pub writable : {x : RestrictedAction} {marks : List ℕ} {numbers : List ℤ} → Says x marks numbers → Sized 0 0 0 0 x → Fit x → Writable marks numbers
writable {x} {marks} {numbers} h s f = record {
  few = parts-fit h s;
  constants = all-at Constant (natural_at marks condition_count) (condition_in marks numbers)
      (subst (All Constant) (sym (ap (λ (z : RestrictedAction). z.conditions) h.is)) f.constants);
  amounts = all-at Amount (natural_at marks addition_count) (addition_in marks numbers)
      (subst (All Amount) (sym (ap (λ (z : RestrictedAction). z.additions) h.is)) f.amounts);
}

-- ---- the rows of a stage
module _ (s : Stage) (h : Small s) (m n : ℕ) where
  pub stroke-sized : (falls : Bool) → Sized 0 0 0 0 (stroke_is falls m n s)
  stroke-sized falls = record {
    conditions = lit≤ tt;
    mode_conditions = lit≤ tt;
    mode_effects = lit≤ tt;
    additions = omega (arith, length-tabulate s.added (signed_at falls s.variables s.amounts), h.few);
  }

  few-given : (b : Bool) (e : ℕ × ℤ) → length (cond b [] (e ∷ [])) ≤ 1
  few-given true e = lit≤ tt
  few-given false e = lit≤ tt

  pub turn-sized : (a next : ℕ) → Sized 0 0 0 0 (turn_is a m n next s)
  turn-sized a next = record {
    conditions = omega (arith, asked-few s);
    mode_conditions = lit≤ tt;
    mode_effects = lit≤ tt;
    additions = omega (arith, few-given (eqb (nat_abs s.gives) 0) (a, s.gives));
  }

-- ---- a row that is written with the + on the kept variables behind it, in the four relations
abbrev pub plain_bytes : RestrictedAction → List ℕ
plain_bytes x = row_bytes letter_a (in_four x)

abbrev pub follow_bytes : ℕ → List (List (ℕ × ℤ)) → RestrictedAction → List ℕ
follow_bytes first sums x = flat_map addition_bytes (kept_additions first sums x.additions)

abbrev pub kept_bytes : ℕ → List (List (ℕ × ℤ)) → RestrictedAction → List ℕ
kept_bytes first sums x = row_bytes letter_a (in_four (with_kept first sums x))

kept-follow : (first : ℕ) (sums : List (List (ℕ × ℤ))) (x : RestrictedAction) (more : List ℕ)
    → kept_bytes first sums x ++ more ≡ plain_bytes x ++ (follow_bytes first sums x ++ more)
kept-follow first sums x more =
    ap (λ (z : List ℕ). (bytes_of 1 letter_a ++ (flat_map mode_condition_bytes x.mode_conditions ++ (flat_map condition_bytes (in_four x).conditions
    ++ (flat_map mode_effect_bytes x.mode_effects ++ (z ++ []))))) ++ more)
    (flat_map-append addition_bytes x.additions (kept_additions first sums x.additions))
    ∙ simp (append_assoc, append-nil)

pub kept-begun : (first : ℕ) (sums : List (List (ℕ × ℤ))) (old : List ℕ) (at : ℕ) (x : RestrictedAction)
    → Left old at (kept_bytes first sums x) old at (plain_bytes x ∷ follow_bytes first sums x ∷ [])
kept-begun first sums old at x = start old at (sym (append-nil (kept_bytes first sums x)) ∙ kept-follow first sums x [])

-- what can be written with them can be written without, and so can they
module _ (first : ℕ) (sums : List (List (ℕ × ℤ))) (x : RestrictedAction) (f : Fit (with_kept first sums x)) where
  both-amounts : All Amount x.additions × All Amount (kept_additions first sums x.additions)
  both-amounts = all-parts Amount x.additions (kept_additions first sums x.additions) f.amounts

  pub plain-fit : Fit x
  plain-fit = record { constants = f.constants; amounts = both-amounts.0 }

  follow-fit : All Amount (kept_additions first sums x.additions)
  follow-fit = both-amounts.1

-- what the writer of the row requires, of rows that say x, and ensures
module _ {x : RestrictedAction} {marks : List ℕ} {numbers : List ℤ} (h : Says x marks numbers) where
  pub row-ready : {out : List ℕ} {at : ℕ} → Sized 0 0 0 0 x → Fit x → Room out at (plain_bytes x)
      → Writable marks numbers × Room out at (plain_bytes (row_is marks numbers))
  row-ready z f r = (writable h z f, room_as (sym (ap plain_bytes h.is)) r)

  pub row_written : {out : List ℕ} {at : ℕ} {after : List ℕ} {next : ℕ} → Wrote out at (plain_bytes (row_is marks numbers)) after next
      → Wrote out at (plain_bytes x) after next
  row_written w = wrote_as (ap plain_bytes h.is) w

-- and that of what follows, of + that are those of x
module _ (first sums : ℕ) (weights : List ℤ) {added : Added} (x : RestrictedAction) (h : (added_is added ≡ x.additions) × AddedSmall added) where
  follow-same : flat_map addition_bytes (kept_additions first (sums_in sums weights) (added_is added)) ≡ follow_bytes first (sums_in sums weights) x
  follow-same = ap (λ (z : List (ℕ × ℤ)). flat_map addition_bytes (kept_additions first (sums_in sums weights) z)) h.0

  pub follow-ready : {out : List ℕ} {at : ℕ} → Keeps first sums weights → Fit (with_kept first (sums_in sums weights) x)
      → Room out at (follow_bytes first (sums_in sums weights) x)
      → (Keeps first sums weights × AddedSmall added × All Amount (kept_additions first (sums_in sums weights) (added_is added)))
      × Room out at (flat_map addition_bytes (kept_additions first (sums_in sums weights) (added_is added)))
  follow-ready k f r = (
    (
      k,
      h.1,
      subst (λ (z : List (ℕ × ℤ)). All Amount (kept_additions first (sums_in sums weights) z)) (sym h.0) (follow-fit first (sums_in sums weights) x f),
    ),
    room_as (sym follow-same) r,
  )

  pub follow-written : {out : List ℕ} {at : ℕ} {after : List ℕ} {next : ℕ}
      → Wrote out at (flat_map addition_bytes (kept_additions first (sums_in sums weights) (added_is added))) after next
      → Wrote out at (follow_bytes first (sums_in sums weights) x) after next
  follow-written w = wrote_as follow-same w

-- the three of a stage; those are in the four relations as they are
pub stage-begun : (first : ℕ) (sums : List (List (ℕ × ℤ))) (old : List ℕ) (at a m n next : ℕ) (s : Stage)
    → (let falls = stroke_is true m n s in let rises = stroke_is false m n s in let turns = turn_is a m n next s in
    Left old at (flat_map (row_bytes letter_a) (map (with_kept first sums) (stage_rows a m n next s))) old at
    (plain_bytes falls ∷ follow_bytes first sums falls ∷ plain_bytes rises ∷ follow_bytes first sums rises ∷ plain_bytes turns ∷ follow_bytes first sums turns ∷ []))
unfolding flat_map
stage-begun first sums old at a m n next s =
    start old at
    (kept-follow first sums (stroke_is true m n s) _
    ∙ ap (λ (z : List ℕ). plain_bytes (stroke_is true m n s) ++ (follow_bytes first sums (stroke_is true m n s) ++ z))
    (kept-follow first sums (stroke_is false m n s) _
    ∙ ap (λ (z : List ℕ). plain_bytes (stroke_is false m n s) ++ (follow_bytes first sums (stroke_is false m n s) ++ z))
    (ap (λ (z : List ℕ). z ++ []) (sym in_four_lem) ∙ kept-follow first sums (turn_is a m n next s) [])))
  where
    in_four_lem : kept_bytes first sums (turn_is a m n next s) ≡ row_bytes letter_a (with_kept first sums (turn_is a m n next s))
    in_four_lem = ap (λ (cs : List (NumericCondition ℕ)). row_bytes letter_a (with_kept first sums (record {
      mode_conditions = (turn_is a m n next s).mode_conditions;
      conditions = (condition s.counter 2 (pos 0 -ℤ s.deep) ∷ condition s.counter 1 ((s.unit -ℤ s.deep) -ℤ pos 1) ∷ []) ++ cs;
      mode_effects = (turn_is a m n next s).mode_effects;
      additions = (turn_is a m n next s).additions;
    }))) (asks-in-four s)

-- ---- as the model has them
same_bytes : (xs : List RestrictedAction) → flat_map (row_bytes letter_a) xs ≡ flat_map restricted_action_bytes xs
unfolding flat_map
same_bytes [] = refl
same_bytes (x ∷ xs) = ap₂ ◌++◌ (action-row x) (same_bytes xs)

module _ (first : ℕ) (sums : List (List (ℕ × ℤ))) (a m n next : ℕ) {d : ModelStage} {s : Stage} (h : Stands a d s) (e : eqb n next ≡ false) where
  pub rows_are_lem : map (with_kept first sums) (stage_rows a m n next s) ≡ map (with_kept first sums) (numbered_all a m (stage_actions n d next))
  rows_are_lem = ap (map (with_kept first sums)) same
    where
      same : stage_rows a m n next s ≡ numbered_all a m (stage_actions n d next)
      same = rw (falling-is a m n h, rising-is a m n h, turn_is_lem a m n h next e)

  pub stage_is : flat_map (row_bytes letter_a) (map (with_kept first sums) (stage_rows a m n next s))
      ≡ flat_map restricted_action_bytes (map (with_kept first sums) (numbered_all a m (stage_actions n d next)))
  stage_is = same_bytes (map (with_kept first sums) (stage_rows a m n next s)) ∙ ap (flat_map restricted_action_bytes) rows_are_lem

-- ---- stage j of a list
pub there : {A : Type 0} (xs : List A) (j : ℕ) (d : A) → j < length xs → get_elem? xs j ≡ some (get_or xs j d)
there [] j d h = absurd (omega arith)
there (x ∷ xs) zero d h = refl
there (x ∷ xs) (suc j) d h = there xs j d (omega arith)
