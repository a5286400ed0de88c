-- The laws of a line's parts.
-- Assumes nothing.
use mathlib.Core.Path.{◌≡◌, refl, sym, ap, ◌∙◌}
use Prim.Native.Nat.{ℕ, ◌+◌, ◌^◌, ◌≤◌, ◌<◌}
use native.Mathlib.Omega.{arith}
use mathlib.Core.List.{List, [], ◌∷◌, ◌++◌, append-nil, append_assoc, flat_map}
use lib.ListN.{length}
use lib.IntN.{ℤ, pos}
use Rattle.lists.specs.Writing.{capacity, Room}
use Rattle.lists.proofs.Writing.{Left, start, long, room, room_by}
use Rattle.lists.proofs.Each.{flat_map-nil, flat_map-cons}
use Rattle.model.specs.Listing.{decimal, decimal_signed, fields_of, goal_line, refused_line}
use Rattle.listing_text.proofs.Digits.{at_most}
use Rattle.listing.specs.Lines.{field, line_of, RoomFor, for_most, for_these}

pub natural : (n : ℕ) → decimal_signed (pos n) ≡ decimal n
unfolding decimal_signed
natural n = refl

-- the fields of a line, and its end
pub fields-are : (zs : List ℤ) → fields_of zs ≡ flat_map field zs ++ (10 ∷ [])
fields-are [] = rw (flat_map-nil field)
fields-are (z ∷ zs) =
    let behind = ap (λ (xs : List ℕ). decimal_signed z ++ xs) (fields-are zs) in
    let parted = sym (append_assoc (decimal_signed z) (flat_map field zs) (10 ∷ [])) in
    rw (flat_map-cons field z zs) (ap (λ (xs : List ℕ). 32 ∷ xs) (behind ∙ parted))

-- ---- room for a part of what is written

-- output that is as long as the most bytes has room for them
pub room_most : {out : List ℕ} {most : ℕ} {xs : List ℕ} → most ≤ length out → RoomFor out 0 most xs
room_most {out} {most} h =
    let r : Room out most [] = room_by (omega arith) in
    for_most (omega (arith, r.fits))

-- the part ends within the most bytes, or it has room where all have
pub room-either : {old : List ℕ} {at most : ℕ} {all out : List ℕ} {place : ℕ} {xs : List ℕ} → place + length xs ≤ at + most → length out ≡ length old
    → (Room old at all → Room out place xs) → RoomFor old at most all → Room out place xs
room-either h l f (for_most m) = record { fits = omega (arith, h, m, ap capacity l) }
room-either h l f (for_these r) = f r

pub room-for-either : {old : List ℕ} {at most : ℕ} {all out : List ℕ} {place fewer : ℕ} {xs : List ℕ} → place + fewer ≤ at + most → length out ≡ length old
    → (Room old at all → Room out place xs) → RoomFor old at most all → RoomFor out place fewer xs
room-for-either h l f (for_most m) = for_most (omega (arith, h, m, ap capacity l))
room-for-either h l f (for_these r) = for_these (f r)

-- the same of the part that comes next
module _ {old : List ℕ} {at most : ℕ} {all out : List ℕ} {place : ℕ} {xs : List ℕ} {rest : List (List ℕ)}
    (l : Left old at all out place (xs ∷ rest)) where
  pub room-next : place + length xs ≤ at + most → RoomFor old at most all → Room out place xs
  room-next h R = room-either h (long l) (λ r. room r l) R

  pub room-for-next : {fewer : ℕ} → place + fewer ≤ at + most → RoomFor old at most all → RoomFor out place fewer xs
  room-for-next h R = room-for-either h (long l) (λ r. room r l) R

-- ---- the parts of what is written, from the first on
pub field-begins : (z : ℤ) (old : List ℕ) (at : ℕ) → Left old at (field z) old at ((32 ∷ []) ∷ decimal_signed z ∷ [])
field-begins z old at = start old at (ap (λ (xs : List ℕ). 32 ∷ xs) (sym (append-nil (decimal_signed z))))

pub count-begins : (n : ℕ) (old : List ℕ) (at : ℕ) → Left old at (field (pos n)) old at ((32 ∷ []) ∷ decimal n ∷ [])
count-begins n old at = start old at (ap (λ (xs : List ℕ). 32 ∷ xs) (natural n ∙ sym (append-nil (decimal n))))

pub fields-begin : (values : List ℤ) (old : List ℕ) (at : ℕ) → Left old at (fields_of values) old at (flat_map field values ∷ (10 ∷ []) ∷ [])
fields-begin values old at = start old at (fields-are values)

pub step-line-begins : (i k price : ℕ) (values : List ℤ) (old : List ℕ) (at : ℕ)
    → Left old at (line_of i k price values) old at (decimal i ∷ field (pos k) ∷ field (pos price) ∷ fields_of values ∷ [])
step-line-begins i k price values old at = start old at (rw append-nil)

pub goal-line-begins : (total : ℕ) (old : List ℕ) (at : ℕ)
    → Left old at (goal_line total) old at ((103 ∷ 111 ∷ 97 ∷ 108 ∷ []) ∷ field (pos total) ∷ (10 ∷ []) ∷ [])
goal-line-begins total old at = start old at refl

pub refused-line-begins : (number place : ℕ) (old : List ℕ) (at : ℕ) → Left old at (refused_line number place) old at
    ((114 ∷ 101 ∷ 102 ∷ 117 ∷ 115 ∷ 101 ∷ 100 ∷ []) ∷ field (pos number) ∷ field (pos place) ∷ (10 ∷ []) ∷ [])
refused-line-begins number place old at = start old at refl

-- a space and a number of 64 bits
pub count_most : (n : ℕ) → n < 2 ^ 64 → length (field (pos n)) ≤ 21
count_most n h = omega (arith, ap length (natural n), at_most 19 n (omega arith))
