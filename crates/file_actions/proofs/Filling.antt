-- Rows of places that are filled from the front as far as there is room: what one place more makes of those that are read.
-- Assumes nothing.
use mathlib.Core.Path.{◌≡◌, refl, ◌∙◌, sym, ap}
use mathlib.Core.List.{List, [], ◌∷◌, ◌++◌, append_assoc, append-nil, map, map-append}
use Prim.Native.Nat.{ℕ, zero, suc, ◌+◌, ◌<◌, ◌≤◌}
use native.Mathlib.Omega.{arith}
use native.Mathlib.Numerals.{add-one}
use lib.ListN.{length, take, set, length-take, length-map}
use lib.Seq.{take-suc-set, take-append-le, take_all}
use Rattle.integers.specs.All.{All}

module _ {A : Type 0} (room : ℕ) where
  -- the front of a list is enough for its front with more behind it
  pub front-enough : (xs ys : List A) → take room (take room xs ++ ys) ≡ take room (xs ++ ys)
  front-enough xs ys = go room xs
    where
      go : (n : ℕ) (xs : List A) → take n (take n xs ++ ys) ≡ take n (xs ++ ys)
      go zero xs = refl
      go (suc n) [] = refl
      go (suc n) (x ∷ xs) = ap (λ (z : List A). x ∷ z) (go n xs)

  pub whole : (xs : List A) → length xs ≤ room → xs ≡ take room (xs ++ [])
  whole xs h = sym (ap (take room) (append-nil xs) ∙ take_all room xs h)

-- the first n of a row of places, read by f, with one more behind them
module _ {A B : Type 0} (f : A → B) (room : ℕ) (places : List A) (n : ℕ) (x : A) (long : length places ≡ room) where
  pub stored : n < room → map f (take (n + 1) (set places n x)) ≡ map f (take n places) ++ (f x ∷ [])
  stored h =
      ap (λ (k : ℕ). map f (take k (set places n x))) (add-one n) ∙ ap (map f) (take-suc-set places n x (omega (arith, long)))
      ∙ map-append f (take n places) (x ∷ [])

  pub filled : room ≤ n → (ys : List B) → take room (map f (take n places) ++ ys) ≡ map f (take n places)
  filled h ys =
      let l : length (map f (take n places)) ≡ room = omega (arith, length-map (take n places) f, length-take n places, long) in
      take-append-le room (map f (take n places)) ys (omega (arith, l)) ∙ take_all room (map f (take n places)) (omega (arith, l))

  -- it is stored where there is room, and dropped where there is none: with the rest behind it, as much as there is room for is the same
  module _ (rest : List B) where
    pub stored-with : n < room → take room (map f (take (n + 1) (set places n x)) ++ rest) ≡ take room (map f (take n places) ++ (f x ∷ rest))
    stored-with h = ap (λ (z : List B). take room (z ++ rest)) (stored h) ∙ ap (take room) (append_assoc (map f (take n places)) (f x ∷ []) rest)

    pub dropped-with : room ≤ n → take room (map f (take n places) ++ rest) ≡ take room (map f (take n places) ++ (f x ∷ rest))
    dropped-with h = filled h rest ∙ sym (filled h (f x ∷ rest))

pub taken-few : {A B : Type 0} (f : A → B) (n : ℕ) (places : List A) (room : ℕ) → n ≤ room → length (map f (take n places)) ≤ room
taken-few f n places room h = omega (arith, length-map (take n places) f, length-take n places)

-- what holds of all places, and of the one that is stored
pub all_set : {A : Type 0} (P : A → Type 0) (xs : List A) (i : ℕ) (x : A) → P x → All P xs → All P (set xs i x)
all_set P [] i x p a = tt
all_set P (y ∷ xs) zero x p (q, qs) = (p, qs)
all_set P (y ∷ xs) (suc i) x p (q, qs) = (q, all_set P xs i x p qs)
