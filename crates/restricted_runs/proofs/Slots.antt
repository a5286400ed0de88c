-- Actions in slots: at first none is held, what is decoded into a slot is what it holds, and the other slots stay.
-- Assumes nothing.
use mathlib.Core.Path.{◌≡◌, refl, sym, ap, ap₂, ◌∙◌, subst}
use Prim.Native.Nat.{ℕ, ◌+◌, ◌≤◌, ◌<◌}
use native.Mathlib.Numerals.{add-one}
use native.Mathlib.Omega.{arith}
use mathlib.Core.Bool.{Bool, true, false}
use mathlib.Core.Option.{some}
use mathlib.Core.List.{List, []}
use lib.Dec.{eqb}
use lib.ListN.{length, get_or, get_elem?, set, length-set, replicate, length-replicate, get_or-replicate}
use lib.Seq.{get_or-set_same, get_or-set_other}
use lib.IntN.{ℤ, pos}
use borrow.Author.Tests.{eqb-true, eqb-false}
use Rattle.model.specs.Limits.{restricted_limits}
use Rattle.model.specs.Decoding.{restricted_action_of}
use Rattle.model.specs.ActionBytes.{edge_of, decode_action}
use Rattle.file_parts.specs.Layout.{MARKS, NUMBERS}
use Rattle.file_parts.specs.Row.{row_is, Says}
use Rattle.file_actions.specs.Places.{part_of}
use Rattle.file_actions.specs.Views.{fitting_restricted}
use Rattle.file_actions.proofs.Accepted.{restricted-action-decoded}
use Rattle.restricted_step.specs.Whole.{task_in}
use Rattle.restricted_runs.specs.Slots.{PlacesKept, slot_is, Held, Kept}

-- ---- at first, with rows of zeros
pub held_none : (file : List ℕ) (count slots : ℕ) → count ≤ restricted_limits.actions
    → Held file count (replicate slots 65535) (replicate slots (replicate MARKS 0)) (replicate slots (replicate NUMBERS (pos 0)))
held_none file count slots few =
    let long : length {A = ℕ} (replicate slots 65535) ≡ slots = length-replicate {A = ℕ} slots 65535 in
    record {
      marks_long = length-replicate {A = List ℕ} slots (replicate MARKS 0) ∙ sym long;
      numbers_long = length-replicate {A = List ℤ} slots (replicate NUMBERS (pos 0)) ∙ sym long;
      rows_long = λ s l. (
        ap length (get_or-replicate {A = List ℕ} slots s (replicate MARKS 0) [] (omega (arith, long))) ∙ length-replicate {A = ℕ} MARKS 0,
        ap length (get_or-replicate {A = List ℤ} slots s (replicate NUMBERS (pos 0)) [] (omega (arith, long))) ∙ length-replicate {A = ℤ} NUMBERS (pos 0),
      );
      holds = λ s l h. absurd (omega (arith, get_or-replicate {A = ℕ} slots s 65535 0 (omega (arith, long))));
    }

-- ---- a slot that holds the action already
pub kept-already : {file : List ℕ} {count : ℕ} {tags : List ℕ} {slot k : ℕ} {marks : List (List ℕ)} {numbers : List (List ℤ)}
    → Held file count tags marks numbers → slot < length tags → k < count → get_or tags slot 0 ≡ k
    → Kept file count (length tags) slot k tags marks numbers
kept-already {file} {count} {tags} {slot} {k} {marks} {numbers} h l b e = record {
  held = h;
  slots_are = refl;
  is = subst (λ (j : ℕ). get_elem? (task_in file).actions j ≡ some (slot_is marks numbers slot)) e (h.holds slot l (omega (arith, e)));
}

-- ---- the rows that the bytes of action k say
pub decoded-action : {file places : List ℕ} {count : ℕ} (k : ℕ) → PlacesKept file places count → k < count → {bytes : List ℕ}
    → bytes ≡ part_of file (get_or places k 0) (get_or places (k + 1) 0)
    → {row : List ℕ} {line : List ℤ} → Says (fitting_restricted (restricted_action_of (decode_action bytes))) row line
    → get_elem? (task_in file).actions k ≡ some (row_is row line)
decoded-action {file} {places} {count} k placed known part {row} {line} says =
    restricted-action-decoded file placed.bytes (task_in file) placed.accepted row line k (omega (arith, placed.count_is))
    (subst (λ (s : List ℕ). Says (fitting_restricted (restricted_action_of (decode_action s))) row line)
    (part ∙ ap₂ (part_of file) (placed.places_are k (omega arith)) (placed.places_are (k + 1) (omega arith) ∙ ap (edge_of file) (add-one k))) says)

-- ---- they stand in a slot
module _ {file : List ℕ} {count : ℕ} {tags : List ℕ} {marks : List (List ℕ)} {numbers : List (List ℤ)} {slot : ℕ} (k : ℕ)
    (held : Held file count tags marks numbers) (there : slot < length tags)
    (row : List ℕ) (line : List ℤ) (row_long : length row ≡ MARKS) (line_long : length line ≡ NUMBERS)
    (is : get_elem? (task_in file).actions k ≡ some (row_is row line)) where
  row_put : get_or (set marks slot row) slot [] ≡ row
  row_put = get_or-set_same marks slot row [] (omega (arith, held.marks_long))

  line-put : get_or (set numbers slot line) slot [] ≡ line
  line-put = get_or-set_same numbers slot line [] (omega (arith, held.numbers_long))

  holds-there : get_elem? (task_in file).actions k ≡ some (slot_is (set marks slot row) (set numbers slot line) slot)
  holds-there = is ∙ ap some (sym (ap₂ row_is row_put line-put))

  -- another slot holds what it held
  row_other : (s : ℕ) → (s ≡ slot → ⊥) → get_or (set marks slot row) s [] ≡ get_or marks s []
  row_other s n = get_or-set_other marks slot s row [] n

  line_other : (s : ℕ) → (s ≡ slot → ⊥) → get_or (set numbers slot line) s [] ≡ get_or numbers s []
  line_other s n = get_or-set_other numbers slot s line [] n

  long-put : (s : ℕ) → s < length tags → (length (get_or (set marks slot row) s []) ≡ MARKS) × (length (get_or (set numbers slot line) s []) ≡ NUMBERS)
  long-put s l = go (eqb s slot) refl
    where
      go : (b : Bool) → eqb s slot ≡ b → (length (get_or (set marks slot row) s []) ≡ MARKS) × (length (get_or (set numbers slot line) s []) ≡ NUMBERS)
      go true q =
          let e : slot ≡ s = sym (eqb-true s slot q) in (
            ap (λ (j : ℕ). length (get_or (set marks slot row) j [])) (sym e) ∙ ap length row_put ∙ row_long,
            ap (λ (j : ℕ). length (get_or (set numbers slot line) j [])) (sym e) ∙ ap length line-put ∙ line_long,
          )
      go false q =
          let n = eqb-false s slot q in
          (ap length (row_other s n) ∙ (held.rows_long s l).0, ap length (line_other s n) ∙ (held.rows_long s l).1)

  holds-put : (s : ℕ) → s < length tags → get_or (set tags slot k) s 0 < count
      → get_elem? (task_in file).actions (get_or (set tags slot k) s 0) ≡ some (slot_is (set marks slot row) (set numbers slot line) s)
  holds-put s l h = go (eqb s slot) refl
    where
      go : (b : Bool) → eqb s slot ≡ b
          → get_elem? (task_in file).actions (get_or (set tags slot k) s 0) ≡ some (slot_is (set marks slot row) (set numbers slot line) s)
      go true q =
          subst (λ (j : ℕ). get_elem? (task_in file).actions (get_or (set tags slot k) j 0) ≡ some
          (slot_is (set marks slot row) (set numbers slot line) j)) (sym (eqb-true s slot q))
          (ap (get_elem? (task_in file).actions) (get_or-set_same tags slot k 0 there) ∙ holds-there)
      go false q =
          let n : s ≡ slot → ⊥ = eqb-false s slot q in
          let t = get_or-set_other tags slot s k 0 n in
          ap (get_elem? (task_in file).actions) t ∙ held.holds s l (omega (arith, t)) ∙ ap some (sym (ap₂ row_is (row_other s n) (line_other s n)))

  pub kept_put : Kept file count (length tags) slot k (set tags slot k) (set marks slot row) (set numbers slot line)
  kept_put =
      let long = length-set tags slot k in
      record {
        held = record {
          marks_long = length-set marks slot row ∙ held.marks_long ∙ sym long;
          numbers_long = length-set numbers slot line ∙ held.numbers_long ∙ sym long;
          rows_long = λ s l. long-put s (omega (arith, long));
          holds = λ s l h. holds-put s (omega (arith, long)) h;
        };
        slots_are = long;
        is = holds-there;
      }
