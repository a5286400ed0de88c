-- A part of a listing: the lines until its end, written behind the header or none, and behind them the goal's line or none; what it leaves
-- are the lines behind its end. And a whole listing into output that is lent.
-- Assumes nothing.
use mathlib.Core.Path.{◌≡◌, refl, sym, ap, ap₂, ◌∙◌}
use Prim.Native.Nat.{ℕ, zero, suc, min, ◌+◌, ◌-◌, ◌*◌, ◌^◌, ◌≤◌, ◌<◌}
use native.Mathlib.Omega.{arith}
use mathlib.Core.Bool.{Bool, true, false, cond}
use mathlib.Core.List.{List, [], ◌∷◌, ◌++◌, append-nil, append_assoc}
use lib.Dec.{ltb}
use lib.ListN.{length, take, drop}
use lib.Seq.{take_all, take-append_seam}
use lib.IntN.{ℤ}
use borrow.Author.Tests.{lt-ltb, le-ltb, ltb-true, ltb-false}
use Rattle.answers.specs.Answer.{given}
use Rattle.lists.specs.Writing.{Room, Wrote}
use Rattle.answers.specs.Lent.{Lent}
use Rattle.std.specs.Prelude.{Ok, Err}
use Rattle.answers.specs.declared.Reason.TheVariants.{OutputShort}
use Rattle.answers.proofs.Lent.{too_short, written}
use Rattle.lists.proofs.Writing.{Left, start, step, done, recast, room, room_by, long, splice_front, wrote-long}
use Rattle.model.specs.Tasks.{State}
use Rattle.model.specs.Plans.{plan_numbers}
use Rattle.model.specs.Listing.{goal_line, refused_line, listing}
use Rattle.source_step.specs.Step.{state}
use Rattle.source_step.specs.Table.{Table}
use Rattle.source_walk.specs.Opening.{table_of}
use Rattle.listing.specs.declared.Sheet.{Sheet}
use Rattle.listing.specs.declared.Lined.{Lined}
use Rattle.listing.specs.declared.Rest.{Rest}
use Rattle.listing.specs.declared.Rest.TheVariants.{Refusal, Lines, Nothing}
use Rattle.listing.specs.declared.Part.{Part}
use Rattle.listing.specs.Lines.{LINE, RoomFor}
use Rattle.listing.specs.Listed.{Listable, LinedTo, lines_by, lines_to, prices_by}
use Rattle.listing.specs.Parts.{most_of, needed_of, lines_left, header_at, part_end, goal_at, total_of, left_of, part_of}
use Rattle.listing.specs.Parts.{Unlisted, Pending, Begun, PutPart, NextPart}
use Rattle.listing.proofs.Lines.{room-either, room-for-either}

-- ---- the end of a part
pub end-is : (next most steps : ℕ) → next ≤ steps → next + min most (steps - next) ≡ part_end next most steps
end-is next most steps h = go (ltb most (steps - next)) refl
  where
    go : (b : Bool) → ltb most (steps - next) ≡ b → next + min most (steps - next) ≡ cond b (next + most) steps
    go true e = omega (arith, ltb-true most (steps - next) e)
    go false e = omega (arith, ltb-false most (steps - next) e)

pub end-last : (next most steps : ℕ) → steps - next ≤ most → steps ≡ part_end next most steps
end-last next most steps h = rw (le-ltb most (steps - next) h)

end-between : (next most steps : ℕ) → next ≤ steps
    → (next ≤ part_end next most steps) × (part_end next most steps ≤ steps) × (part_end next most steps ≤ next + most)
end-between next most steps h = go (ltb most (steps - next)) refl
  where
    go : (b : Bool) → ltb most (steps - next) ≡ b
        → (next ≤ cond b (next + most) steps) × (cond b (next + most) steps ≤ steps) × (cond b (next + most) steps ≤ next + most)
    go true e = (omega arith, omega (arith, ltb-true most (steps - next) e), omega arith)
    go false e = (h, omega arith, omega (arith, ltb-false most (steps - next) e))

end-broken : (next most steps : ℕ) → part_end next most steps < steps → part_end next most steps ≡ next + most
end-broken next most steps h = go (ltb most (steps - next)) h
  where
    go : (b : Bool) → cond b (next + most) steps < steps → cond b (next + most) steps ≡ next + most
    go true e = refl
    go false e = absurd (omega (arith, e))

-- ---- the header and the goal's line
header-short : (next : ℕ) → length (header_at next) ≤ 24
header-short zero = omega arith
header-short (suc next) = omega arith

pub no_header : (next : ℕ) → 0 < next → header_at next ≡ []
no_header zero h = absurd (omega (arith, h))
no_header (suc next) h = refl

pub first-header : (next : ℕ) → next ≤ 0 → header_at next ≡ header_at 0
first-header zero h = refl
first-header (suc next) h = absurd (omega (arith, h))

goal-later : {until steps : ℕ} (total : ℕ) → until < steps → goal_at until steps total ≡ []
goal-later {until} {steps} total h = rw (lt-ltb until steps h)

goal-here : {until steps : ℕ} (total : ℕ) → steps ≤ until → goal_at until steps total ≡ goal_line total
goal-here {until} {steps} total h = rw (le-ltb until steps h)

-- the lines in two parts, with nothing between them
in_two : (h a b g : List ℕ) → h ++ ((a ++ b) ++ g) ≡ (h ++ (a ++ [])) ++ (b ++ g)
in_two h a b g = simp (append_assoc, append-nil)

-- ---- a part of the lines
module _ {S : Sheet} (most : ℕ) {p : List ℕ} {marks : List (List ℕ)} {numbers : List (List ℤ)} {values : List ℤ} {modes : List ℕ}
    (U : Unlisted S p marks numbers values modes) where
  abbrev T : Table
  T = table_of S.task marks numbers

  abbrev x : State
  x = state values modes

  abbrev until : ℕ
  until = part_end S.next most S.task.steps

  abbrev total : ℕ
  total = total_of S p marks numbers values modes

  abbrev text : List ℕ
  text = part_of (Lines S) most p marks numbers values modes

  between : (S.next ≤ until) × (until ≤ S.task.steps) × (until ≤ S.next + most)
  between = end-between S.next most S.task.steps U.listable.ordered

  pub part-listable : Listable (table_of S.task marks numbers) p S.next (part_end S.next most S.task.steps) S.spent
      values modes
  part-listable = record {
    usables = U.listable.usables;
    ordered = between.0;
    in_plan = omega (arith, between.1, U.steps_are);
    few = omega (arith, between.1, U.listable.few);
    cheap = U.listable.cheap;
    values_long = U.listable.values_long;
    modes_long = U.listable.modes_long;
  }

  -- a part that ends with the last step is all that is left
  all-of-it : S.task.steps ≤ until → text ≡ left_of (Lines S) p marks numbers values modes
  all-of-it h =
      ap (λ (g : List ℕ). header_at S.next ++ (lines_to T S.next until p x ++ g)) (goal-here total h)
      ∙ ap (λ (q : List ℕ). header_at S.next ++ (lines_by T S.next (drop S.next q) x ++ goal_line total))
      (take_all until p (omega (arith, h, U.steps_are)))

  module _ {old : List ℕ} (R : RoomFor old 0 (50 + LINE * most) (part_of (Lines S) most p marks numbers values modes)) where
    begun : Left old 0 text old 0 (header_at S.next ∷ lines_to T S.next until p x ∷ goal_at until S.task.steps total ∷ [])
    begun = start old 0 (rw append-nil)

    pub header-room : Room old 0 (header_at S.next)
    header-room = room-either (omega (arith, header-short S.next)) refl (λ r. room r begun) R

    module _ {o₁ : List ℕ} {at : ℕ} (H : Wrote old 0 (header_at S.next) o₁ at) where
      behind-header : Left old 0 text o₁ at (lines_to T S.next until p x ∷ goal_at until S.task.steps total ∷ [])
      behind-header = step begun H

      pub lines-room : RoomFor o₁ at (LINE * (part_end S.next most S.task.steps - S.next))
          (lines_to (table_of S.task marks numbers) S.next (part_end S.next most S.task.steps) p (state values modes))
      lines-room =
          room-for-either (omega (arith, H.place, header-short S.next, between.2, between.0)) (long behind-header) (λ r. room r behind-header) R

      module _ {o₂ : List ℕ} {lined : Lined} {values' : List ℤ} {modes' : List ℕ}
          (L : LinedTo (table_of S.task marks numbers) p S.next (part_end S.next most S.task.steps) S.spent values modes o₁ at o₂
          lined values' modes')
        where
          behind-lines : Left old 0 text o₂ lined.place (goal_at until S.task.steps total ∷ [])
          behind-lines = step behind-header L.wrote

          place-few : lined.place ≤ 24 + LINE * most
          place-few = omega (arith, L.few, H.place, header-short S.next, between.2, between.0)

          -- steps are left
          pub part-broken : 0 < most → part_end S.next most S.task.steps < S.task.steps
              → PutPart (Lines S) most p marks numbers values modes old o₂
              (record { count = lined.place; rest = Lines (record { task = S.task; spent = lined.spent; next = lined.next }) }) values' modes'
          part-broken m h =
              let none : goal_at until S.task.steps total ≡ [] = goal-later total h in
              let end : until ≡ S.next + most = end-broken S.next most S.task.steps h in
              let rest : List ℕ = lines_by T lined.next (drop lined.next p) (state values' modes') in
              let left-to-pay : ℕ = prices_by T (drop lined.next p) (state values' modes') in
              let goal : List ℕ = goal_line (lined.spent + left-to-pay) in
              let paid : total ≡ lined.spent + left-to-pay = omega (arith, L.sum, L.left_to_pay) in
              record {
                wrote = done (recast (ap (λ (g : List ℕ). g ++ []) none) behind-lines);
                few = omega (arith, place-few);
                left =
                    ap₂ (λ (l : List ℕ) (n : ℕ). header_at S.next ++ (l ++ goal_line n)) L.left paid
                    ∙ in_two (header_at S.next) (lines_to T S.next until p x) rest goal
                    ∙ ap (λ (g : List ℕ). (header_at S.next ++ (lines_to T S.next until p x ++ g)) ++ (rest ++ goal)) (sym none)
                    ∙ ap (λ (g : List ℕ). text ++ (g ++ (rest ++ goal))) (sym (no_header lined.next (omega (arith, L.further, end, m))));
                pending = record {
                  steps_are = U.steps_are;
                  listable = record {
                    usables = U.listable.usables;
                    ordered = omega (arith, L.in_plan, U.steps_are);
                    in_plan = U.listable.in_plan;
                    few = U.listable.few;
                    cheap = L.cheap;
                    values_long = L.values_long;
                    modes_long = L.modes_long;
                  };
                };
                fewer = omega (arith, L.further, end, m, h);
              }

          -- the last step's line is written
          module _ (h : S.task.steps ≤ part_end S.next most S.task.steps) where
            -- all is paid
            all-spent : total ≡ lined.spent
            all-spent =
                ap (λ (q : List ℕ). S.spent + prices_by T (drop S.next q) x) (sym (take_all until p (omega (arith, h, U.steps_are))))
                ∙ sym L.sum

            behind-all : Left old 0 text o₂ lined.place (goal_line lined.spent ∷ [])
            behind-all = recast (ap (λ (g : List ℕ). g ++ []) (goal-here total h ∙ ap goal_line all-spent)) behind-lines

            pub goal-room : RoomFor o₂ lined.place 26 (goal_line lined.spent)
            goal-room = room-for-either (omega (arith, place-few)) (long behind-all) (λ r. room r behind-all) R

            pub part-last : {o₃ : List ℕ} {count : ℕ} → Wrote o₂ lined.place (goal_line lined.spent) o₃ count → count ≤ lined.place + 26
                → PutPart (Lines S) most p marks numbers values modes old o₃ (record { count = count; rest = Nothing }) values' modes'
            part-last g m = record {
              wrote = done (step behind-all g);
              few = omega (arith, m, place-few);
              left = sym (all-of-it h) ∙ sym (append-nil text);
              pending = tt;
              fewer = omega arith;
            }

-- ---- a refusal's line is a part
module _ (number place : ℕ) (most : ℕ) where
  pub refusal-room : {old : List ℕ} → RoomFor old 0 (50 + LINE * most) (refused_line number place) → RoomFor old 0 50 (refused_line number place)
  refusal-room R = room-for-either (omega arith) refl (λ r. r) R

  pub part-refusal : (p : List ℕ) (marks : List (List ℕ)) (numbers : List (List ℤ)) {values : List ℤ} {modes : List ℕ} {old after : List ℕ} {count : ℕ}
      → Wrote old 0 (refused_line number place) after count → count ≤ 0 + 50
      → PutPart (Refusal number place) most p marks numbers values modes old after (record { count = count; rest = Nothing }) values modes
  part-refusal p marks numbers w m = record {
    wrote = w;
    few = omega arith;
    left = sym (append-nil (refused_line number place));
    pending = tt;
    fewer = omega arith;
  }

-- ---- a part of as many lines as a plan may have is all that is left
whole : (rest : Rest) (p : List ℕ) (marks : List (List ℕ)) (numbers : List (List ℤ)) (values : List ℤ) (modes : List ℕ)
    → Pending rest p marks numbers values modes
    → part_of rest 1_000_000 p marks numbers values modes ≡ left_of rest p marks numbers values modes
whole (Refusal number place) p marks numbers values modes P = refl
whole (Lines S) p marks numbers values modes U =
    all-of-it 1_000_000 U (omega (arith, end-last S.next 1_000_000 S.task.steps (omega (arith, U.listable.few))))
whole Nothing p marks numbers values modes P = refl

-- so at first it is the listing
pub listed : {file plan : List ℕ} {rest : Rest} {marks : List (List ℕ)} {numbers : List (List ℤ)} {values : List ℤ} {modes : List ℕ}
    → Begun file plan rest marks numbers values modes → listing file plan ≡ part_of rest 1_000_000 (plan_numbers plan) marks numbers values modes
listed {plan = plan} {rest} {marks} {numbers} {values} {modes} B = sym (whole rest (plan_numbers plan) marks numbers values modes B.pending ∙ B.left)

-- ---- how many bytes must be lent

-- the most bytes are a number of 64 bits
pub most-fits : (rest : Rest) (p : List ℕ) (marks : List (List ℕ)) (numbers : List (List ℤ)) (values : List ℤ) (modes : List ℕ)
    → Pending rest p marks numbers values modes → most_of rest < 2 ^ 64
most-fits (Refusal number place) p marks numbers values modes P = omega arith
most-fits (Lines S) p marks numbers values modes U = omega (arith, U.listable.few)
most-fits Nothing p marks numbers values modes P = omega arith

module _ (room : ℕ) (rest : Rest) where
  pub need-none : (long : ℕ) → most_of rest ≤ room → 0 ≡ needed_of room rest long
  need-none long h = rw (le-ltb room (most_of rest) h)

  pub need-counted : {text none after : List ℕ} {n : ℕ} → room < most_of rest → Wrote none 0 text after n
      → n ≡ needed_of room rest (length text)
  need-counted h w = rw (lt-ltb room (most_of rest) h) (omega (arith, w.place))

  -- where more is needed than there is, it is the text's length
  need-all : {long : ℕ} → room < needed_of room rest long → needed_of room rest long ≡ long
  need-all {long} h = go (ltb room (most_of rest)) h
    where
      go : (b : Bool) → room < cond b long 0 → cond b long 0 ≡ long
      go true l = refl
      go false l = absurd (omega (arith, l))

  -- where no more is needed, a text no longer than the most fits
  need-met : {long : ℕ} → long ≤ most_of rest → needed_of room rest long ≤ room → long ≤ room
  need-met {long} m h = go (ltb room (most_of rest)) refl h
    where
      go : (b : Bool) → ltb room (most_of rest) ≡ b → cond b long 0 ≤ room → long ≤ room
      go true e l = l
      go false e l = omega (arith, m, ltb-false room (most_of rest) e)

-- so the listing is written, or not, as the bytes needed say
module _ (old : List ℕ) {file plan : List ℕ} {rest : Rest} {marks : List (List ℕ)} {numbers : List (List ℤ)} {values : List ℤ} {modes : List ℕ}
    (B : Begun file plan rest marks numbers values modes) {need : ℕ}
    (is : need ≡ needed_of (length old) rest (length (part_of rest 1_000_000 (plan_numbers plan) marks numbers values modes))) where
  abbrev listing-text : List ℕ
  listing-text = part_of rest 1_000_000 (plan_numbers plan) marks numbers values modes

  pub listing-short : length old < need → Lent old (given (listing file plan)) old (Err (record { reason = OutputShort; place = need }))
  listing-short h = too_short (ap given (listed B)) (is ∙ need-all (length old) rest (rw is at h)) h

  listing-fits : need ≤ length old → length listing-text ≤ length old
  listing-fits h = need-met (length old) rest (omega (arith, B.short, ap length (listed B))) (rw is at h)

  pub listing-room : need ≤ length old → Room old 0 (part_of rest 1_000_000 (plan_numbers plan) marks numbers values modes)
  listing-room h = room_by (omega (arith, listing-fits h))

  pub listing-written : need ≤ length old → {after : List ℕ} {count : ℕ}
      → Wrote old 0 (part_of rest 1_000_000 (plan_numbers plan) marks numbers values modes) after count
      → Lent old (given (listing file plan)) after (Ok count)
  listing-written h {count = count} w =
      let all : count ≡ length listing-text = omega (arith, w.place) in
      written (ap given (listed B)) all (omega (arith, all, listing-fits h)) w

-- ---- where no line is left, no byte is
pub nothing_left : (rest : Rest) (p : List ℕ) (marks : List (List ℕ)) (numbers : List (List ℤ)) (values : List ℤ) (modes : List ℕ)
    → lines_left rest ≡ 0 → left_of rest p marks numbers values modes ≡ []
nothing_left (Refusal number place) p marks numbers values modes e = absurd (omega (arith, e))
nothing_left (Lines S) p marks numbers values modes e = absurd (omega (arith, e))
nothing_left Nothing p marks numbers values modes e = refl

-- ---- what is written at the front of output that is long enough stands there
pub front : {old text after : List ℕ} {n : ℕ} → Wrote old 0 text after n → length text ≤ length old → take n after ≡ text
front {old} {text} {after} {n} w h =
    let e : n ≡ length text = omega (arith, w.place) in
    ap (λ (k : ℕ). take k after) e
    ∙ ap (take (length text)) (w.bytes ∙ splice_front text old h)
    ∙ take-append_seam text (drop (length text) old)

pub stands : {rest : Rest} {most : ℕ} {p : List ℕ} {marks : List (List ℕ)} {numbers : List (List ℤ)} {values : List ℤ} {modes old after : List ℕ}
    {r : Part} {values' : List ℤ} {modes' : List ℕ} → 50 + LINE * most ≤ length old
    → PutPart rest most p marks numbers values modes old after r values' modes' → NextPart rest p marks numbers values modes after r values' modes'
stands {p = p} {marks} {numbers} {r = r} {values'} {modes'} l P =
    let text = front P.wrote (omega (arith, P.wrote.place, P.few, l)) in
    record {
      left = P.left ∙ ap (λ (t : List ℕ). t ++ left_of r.rest p marks numbers values' modes') (sym text);
      fits = omega (arith, P.few, l, wrote-long P.wrote);
      pending = P.pending;
      fewer = P.fewer;
    }
