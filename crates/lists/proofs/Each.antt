-- The laws of lists made element by element.
-- Assumes nothing.
use mathlib.Core.Path.{◌≡◌, refl, sym, ap, ap₂, ◌∙◌}
use Prim.Native.Nat.{ℕ, zero, suc, ◌+◌, ◌*◌, ◌<◌}
use native.Mathlib.Nat.{mul-zero, mul-suc, add_comm}
use native.Mathlib.Omega.{arith}
use mathlib.Core.List.{List, [], ◌∷◌, ◌++◌, map, append_assoc, flat_map}
use lib.ListN.{length, take, get_or, length-append}
use lib.Seq.{take_all}
use Rattle.lists.specs.Each.{tabulate}

-- ---- what f makes of each element

pub flat_map-nil : {A B : Type 0} (f : A → List B) → flat_map f [] ≡ []
unfolding flat_map
flat_map-nil f = refl

pub flat_map-cons : {A B : Type 0} (f : A → List B) (x : A) (xs : List A) → flat_map f (x ∷ xs) ≡ f x ++ flat_map f xs
unfolding flat_map
flat_map-cons f x xs = refl

pub flat_map-append : {A B : Type 0} (f : A → List B) (xs ys : List A) → flat_map f (xs ++ ys) ≡ flat_map f xs ++ flat_map f ys
unfolding flat_map
flat_map-append f [] ys = refl
flat_map-append f (x ∷ xs) ys = ap (λ z. f x ++ z) (flat_map-append f xs ys) ∙ sym (append_assoc (f x) (flat_map f xs) (flat_map f ys))

pub flat_map-map : {A B X : Type 0} (f : B → List X) (g : A → B) (xs : List A) → flat_map f (map g xs) ≡ flat_map (λ x. f (g x)) xs
unfolding flat_map
flat_map-map f g [] = refl
flat_map-map f g (x ∷ xs) = ap (λ z. f (g x) ++ z) (flat_map-map f g xs)

pub flat_map-flat_map : {A B X : Type 0} (f : B → List X) (g : A → List B) (xs : List A) → flat_map f (flat_map g xs) ≡ flat_map (λ x. flat_map f (g x)) xs
unfolding flat_map
flat_map-flat_map f g [] = refl
flat_map-flat_map f g (x ∷ xs) = flat_map-append f (g x) (flat_map g xs) ∙ ap (λ z. flat_map f (g x) ++ z) (flat_map-flat_map f g xs)

-- each element as a list of one
abbrev pub single : ℕ → List ℕ
single x = x ∷ []

pub flat_map-single : (xs : List ℕ) → flat_map single xs ≡ xs
unfolding flat_map
flat_map-single [] = refl
flat_map-single (x ∷ xs) = ap (λ z. x ∷ z) (flat_map-single xs)

-- where f makes as many of every element
pub length-flat_map : {A B : Type 0} (f : A → List B) (k : ℕ) → ((x : A) → length (f x) ≡ k) → (xs : List A) → length (flat_map f xs) ≡ k * length xs
unfolding flat_map
length-flat_map f k h [] = sym (mul-zero k)
length-flat_map f k h (x ∷ xs) =
    length-append (f x) (flat_map f xs) ∙ ap₂ ◌+◌ (h x) (length-flat_map f k h xs) ∙ add_comm k (k * length xs) ∙ sym (mul-suc k (length xs))

-- ---- f of every number below n

pub length-tabulate : {A : Type 0} (n : ℕ) (f : ℕ → A) → length (tabulate n f) ≡ n
unfolding tabulate
length-tabulate zero f = refl
length-tabulate (suc n) f = ap suc (length-tabulate n (λ k. f (suc k)))

pub get_or-tabulate : {A : Type 0} (n : ℕ) (f : ℕ → A) (k : ℕ) (d : A) → k < n → get_or (tabulate n f) k d ≡ f k
unfolding tabulate
get_or-tabulate zero f k d h = absurd (omega (arith, h))
get_or-tabulate (suc n) f zero d h = refl
get_or-tabulate (suc n) f (suc k) d h = get_or-tabulate n (λ j. f (suc j)) k d (omega (arith, h))

pub take-tabulate : {A : Type 0} (n : ℕ) (f : ℕ → A) → take n (tabulate n f) ≡ tabulate n f
take-tabulate n f = take_all n (tabulate n f) (omega (arith, length-tabulate n f))
