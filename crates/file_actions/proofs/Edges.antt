-- The walk over a file by the sizes of its commands, in search of the commands A and G: what one command gives.
-- Assumes nothing.
use mathlib.Core.Path.{◌≡◌, refl, ◌∙◌, sym, ap}
use mathlib.Core.List.{List, [], ◌∷◌}
use Prim.Native.Nat.{ℕ, zero, suc, ◌+◌, ◌-◌, ◌<◌, ◌≤◌}
use native.Mathlib.Omega.{arith}
use native.Mathlib.Nat.{add-zero}
use lib.ListN.{length, get_or, set, length-set, drop, drop_of_length-le, length-drop, get_or-eq_default}
use lib.Seq.{drop-drop, get_or-drop, set_out}
use borrow.Author.Tests.{eq-eqb, ne_eqb}
use Rattle.lists.specs.Writing.{splice}
use Rattle.commands.specs.Table.{letter_a, letter_g, size_of_byte}
use Rattle.model.specs.Reading.{remainders}
use Rattle.model.specs.ActionBytes.{edges, edge_of, edges_along}
use Rattle.file_actions.proofs.Walking.{size-positive}
use Rattle.file_actions.specs.Places.{edges_of, EdgesLeft, Sought}

pub all_left : (file : List ℕ) → EdgesLeft file 0 (edges_of file)
all_left file = record { most = suc (length file); enough = omega arith; are = refl }

pub none_left : (file : List ℕ) (at : ℕ) (left : List ℕ) → length file ≤ at → EdgesLeft file at left → left ≡ []
unfolding remainders edges_along
none_left file at left h e = e.are ∙ nothing e.most
  where
    nothing : (most : ℕ) → edges most at (drop at file) ≡ []
    nothing zero = refl
    nothing (suc most) = rw (drop_of_length-le file h)

module _ (file : List ℕ) (at : ℕ) (left : List ℕ) (h : at < length file) where
  some : length (drop at file) ≡ 0 → ⊥
  some e = omega (arith, length-drop at file)

  first : get_or (drop at file) 0 0 ≡ get_or file at 0
  first = get_or-drop at file 0 0 ∙ ap (λ (i : ℕ). get_or file i 0) (add-zero at)

  pub at-goal : get_or file at 0 ≡ letter_g → EdgesLeft file at left → left ≡ at ∷ []
  unfolding remainders edges_along
  at-goal g e = e.are ∙ go e.most e.enough
    where
      go : (most : ℕ) → length file < most + at → edges most at (drop at file) ≡ at ∷ []
      go zero b = absurd (omega arith)
      go (suc most) b = rw (ne_eqb _ 0 some, first, eq-eqb _ letter_g g)

  module _ (size : ℕ) (is : size ≡ size_of_byte (get_or file at 0)) (moves : 0 < size) where
    pub at-action : get_or file at 0 ≡ letter_a → EdgesLeft file at left → (more : List ℕ) × (left ≡ at ∷ more) × EdgesLeft file (at + size) more
    unfolding remainders edges_along
    at-action g e = go e.most e.enough e.are
      where
        go : (most : ℕ) → length file < most + at → left ≡ edges most at (drop at file) → (more : List ℕ) × (left ≡ at ∷ more) × EdgesLeft file (at + size) more
        go zero b q = absurd (omega arith)
        go (suc most) b q = (
          edges most (at + size) (drop (at + size) file),
          q ∙ rw (ne_eqb _ 0 some, first, ← is, drop-drop size at file, g),
          record { most = most; enough = omega arith; are = refl },
        )

    pub at_other : (get_or file at 0 ≡ letter_g → ⊥) → (get_or file at 0 ≡ letter_a → ⊥) → EdgesLeft file at left → EdgesLeft file (at + size) left
    unfolding remainders edges_along
    at_other g a e = go e.most e.enough e.are
      where
        go : (most : ℕ) → length file < most + at → left ≡ edges most at (drop at file) → EdgesLeft file (at + size) left
        go zero b q = absurd (omega arith)
        go (suc most) b q = record {
          most = most;
          enough = omega arith;
          are = q ∙ rw (ne_eqb _ 0 some, first, ne_eqb _ letter_g g, ne_eqb _ letter_a a, ← is, drop-drop size at file);
        }

-- ---- in search of one of them
pub sought-first : (file : List ℕ) (k : ℕ) → Sought file k 0 k
unfolding edge_of
sought-first file k = record { left = edges_of file; there = all_left file; sought = λ j. refl }

module _ {file : List ℕ} {k at number : ℕ} (s : Sought file k at number) where
  -- the one behind it, and so on
  behind : (j : ℕ) → edge_of file (j + suc k) ≡ get_or s.left (j + suc number) (length file)
  behind j =
      let e : j + suc k ≡ suc j + k = omega arith in
      let f : suc j + number ≡ j + suc number = omega arith in
      ap (edge_of file) e ∙ s.sought (suc j) ∙ ap (λ (i : ℕ). get_or s.left i (length file)) f

  -- it is none of those that are left, or the first
  none_found : (l : List ℕ) → s.left ≡ l → length l ≤ number → (length file ≡ edge_of file k) × Sought file (suc k) (length file) 1
  unfolding remainders edges_along
  none_found l e h = (sym here, record { left = []; there = ends; sought = λ j. behind j ∙ past (j + suc number) (omega arith) })
    where
      past : (i : ℕ) → number ≤ i → get_or s.left i (length file) ≡ length file
      past i b = ap (λ (z : List ℕ). get_or z i (length file)) e ∙ get_or-eq_default l (length file) (omega arith)

      here : edge_of file k ≡ length file
      here = let z : k ≡ 0 + k = omega arith in ap (edge_of file) z ∙ s.sought 0 ∙ past (0 + number) (omega arith)

      all : length file ≤ length file
      all = omega arith

      nothing : drop (length file) file ≡ []
      nothing = drop_of_length-le file all

      ends : EdgesLeft file (length file) []
      ends = record { most = 1; enough = omega arith; are = rw nothing }

  pub found_none : length file ≤ at → (length file ≡ edge_of file k) × Sought file (suc k) (length file) 1
  found_none h = none_found [] (none_left file at s.left h s.there) (omega arith)

  found_here : number ≡ 0 → (more : List ℕ) → s.left ≡ at ∷ more → (at ≡ edge_of file k) × Sought file (suc k) at 1
  found_here z more e =
      let i : k ≡ 0 + k = omega arith in
      let n : 0 + number ≡ 0 = omega arith in
      let one : suc number ≡ 1 = omega arith in (
        sym (ap (edge_of file) i ∙ s.sought 0 ∙ ap (λ (x : ℕ). get_or s.left x (length file)) n ∙ ap (λ (l : List ℕ). get_or l 0 (length file)) e),
        record { left = s.left; there = s.there; sought = λ j. behind j ∙ ap (λ (x : ℕ). get_or s.left (j + x) (length file)) one },
      )

  module _ (h : at < length file) where
    pub found-goal : get_or file at 0 ≡ letter_g → number ≡ 0 → (at ≡ edge_of file k) × Sought file (suc k) at 1
    found-goal g z = found_here z [] (at-goal file at s.left h g s.there)

    pub past-goal : get_or file at 0 ≡ letter_g → (number ≡ 0 → ⊥) → (length file ≡ edge_of file k) × Sought file (suc k) (length file) 1
    past-goal g z = none_found (at ∷ []) (at-goal file at s.left h g s.there) (omega (arith, z))

    pub found-action : get_or file at 0 ≡ letter_a → number ≡ 0 → (at ≡ edge_of file k) × Sought file (suc k) at 1
    found-action g z =
        let b = get_or file at 0 in
        let (more, e, there) = at-action file at s.left h (size_of_byte b) refl (size-positive b) g s.there in
        found_here z more e

    module _ {size : ℕ} (is : size ≡ size_of_byte (get_or file at 0)) (moves : 0 < size) where
      pub past-action : get_or file at 0 ≡ letter_a → (number ≡ 0 → ⊥) → Sought file k (at + size) (number - 1)
      past-action g z =
          let (more, e, there) = at-action file at s.left h size is moves g s.there in
          record {
            left = more;
            there = there;
            sought = λ j.
                s.sought j ∙ ap (λ (l : List ℕ). get_or l (j + number) (length file)) e
                ∙ ap (λ (i : ℕ). get_or (at ∷ more) i (length file)) (one_less j);
          }
        where
          one_less : (j : ℕ) → j + number ≡ suc (j + (number - 1))
          one_less j = omega (arith, z)

      pub past-other : (get_or file at 0 ≡ letter_g → ⊥) → (get_or file at 0 ≡ letter_a → ⊥) → Sought file k (at + size) number
      past-other g a = record { left = s.left; there = at_other file at s.left h size is moves g a s.there; sought = s.sought }

-- ---- storing them: what is left goes from index n of the table on
pub record Stores (file old table : List ℕ) (at n : ℕ) : Type 0 where
  pub left : List ℕ
  pub there : EdgesLeft file at left
  pub same : splice table n left ≡ splice old 0 (edges_of file)
  pub long : length table ≡ length old
  pub bound : n ≤ length table

pub stores-begin : (file old : List ℕ) → Stores file old old 0 0
stores-begin file old = record { left = edges_of file; there = all_left file; same = refl; long = refl; bound = omega arith }

-- one command more: an A is stored, and any other but G passed by
module _ {file old table : List ℕ} {at n : ℕ} (s : Stores file old table at n) (h : at < length file)
    {size : ℕ} (is : size ≡ size_of_byte (get_or file at 0)) (moves : 0 < size) where
  pub stores-action : get_or file at 0 ≡ letter_a → (n ≡ length table → ⊥) → Stores file old (set table n at) (at + size) (n + 1)
  stores-action a room =
      let (more, e, there) = at-action file at s.left h size is moves a s.there in
      record {
        left = more;
        there = there;
        same = ap (splice table n) (sym e) ∙ s.same;
        long = length-set table n at ∙ s.long;
        bound = omega (arith, length-set table n at, s.bound, room);
      }

  pub stores-other : (get_or file at 0 ≡ letter_g → ⊥) → (get_or file at 0 ≡ letter_a → ⊥) → Stores file old table (at + size) n
  stores-other g a = record { left = s.left; there = at_other file at s.left h size is moves g a s.there; same = s.same; long = s.long; bound = s.bound }

-- past the end of the table nothing is stored
pub splice-out : (left table : List ℕ) (n : ℕ) → length table ≤ n → splice table n left ≡ table
splice-out [] table n h = refl
splice-out (x ∷ left) table n h = ap (λ (z : List ℕ). splice z (n + 1) left) (set_out table n x h) ∙ splice-out left table (n + 1) (omega arith)
