-- Loops that write the bytes of the first k elements of a list, f of each.
-- Assumes nothing.
use mathlib.Core.Path.{◌≡◌, ap, sym, ◌∙◌}
use Prim.Native.Nat.{ℕ, ◌+◌, ◌≤◌, ◌<◌, zero-le}
use native.Mathlib.Omega.{arith}
use mathlib.Core.List.{List, [], ◌∷◌, ◌++◌, append-nil, flat_map}
use lib.ListN.{length, take, drop, get_or}
use Rattle.lists.specs.Writing.{Room, Wrote}
use Rattle.lists.proofs.Each.{flat_map-nil, flat_map-cons}
use Rattle.lists.proofs.Loops.{There, rest_more, rest-none}
use Rattle.lists.proofs.Writing.{Left, start, step, done, recast, room, long}

-- ---- what the elements from index i on make

module _ {A : Type 0} (f : A → List ℕ) {k : ℕ} {xs : List A} {n i : ℕ} (here : There k xs n) where
  flat-more : (d : A) → i < n → flat_map f (drop i (take k xs)) ≡ f (get_or xs i d) ++ flat_map f (drop (i + 1) (take k xs))
  flat-more d l = ap (flat_map f) (rest_more d here l) ∙ flat_map-cons f (get_or xs i d) (drop (i + 1) (take k xs))

  flat-none : i ≤ n → n ≤ i → flat_map f (drop i (take k xs)) ≡ []
  flat-none l m = ap (flat_map f) (rest-none here l m) ∙ flat_map-nil f

-- ---- a loop that writes

-- into `old` from index `at` on: the output is `out`, the next byte goes to `place`, and the next element is that at index i
pub record Going {A : Type 0} (f : A → List ℕ) (k : ℕ) (xs : List A) (n : ℕ) (old : List ℕ) (at : ℕ) (out : List ℕ) (place i : ℕ) : Type 0 where
  pub here : There k xs n
  pub bound : i ≤ n
  pub left : Left old at (flat_map f (take k xs)) out place (flat_map f (drop i (take k xs)) ∷ [])

module _ {A : Type 0} {f : A → List ℕ} {k : ℕ} {xs : List A} {n : ℕ} {old : List ℕ} {at : ℕ} where
  pub going_start : There k xs n → Going f k xs n old at old at 0
  going_start h = record { here = h; bound = zero-le; left = start old at (sym (append-nil (flat_map f (take k xs)))) }

  module _ {out : List ℕ} {place i : ℕ} where
    going_more : (d : A) → Going f k xs n old at out place i → i < n → Left old at (flat_map f (take k xs)) out place (f (get_or xs i d) ∷ flat_map f (drop (i + 1) (take k xs)) ∷ [])
    going_more d g l =
        recast
        (append-nil (flat_map f (drop i (take k xs)))
        ∙ flat-more f g.here d l
        ∙ ap (λ z. f (get_or xs i d) ++ z) (sym (append-nil (flat_map f (drop (i + 1) (take k xs))))))
        g.left

    -- what the writer of the element requires
    pub going-room : (d : A) → Going f k xs n old at out place i → i < n → Room old at (flat_map f (take k xs)) → Room out place (f (get_or xs i d))
    going-room d g l r = room r (going_more d g l)

    pub going_next : (d : A) {after : List ℕ} {next : ℕ} → Going f k xs n old at out place i → i < n → Wrote out place (f (get_or xs i d)) after next → Going f k xs n old at after next (i + 1)
    going_next d g l w = record { here = g.here; bound = omega arith; left = step (going_more d g l) w }

    pub going_end : Going f k xs n old at out place i → n ≤ i → Wrote old at (flat_map f (take k xs)) out place
    going_end g h = done (recast (append-nil (flat_map f (drop i (take k xs))) ∙ flat-none f g.here g.bound h) g.left)

    pub going-long : Going f k xs n old at out place i → length out ≡ length old
    going-long g = long g.left
