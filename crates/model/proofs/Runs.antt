-- Runs of commands that have one byte, in front of others: what is read by that byte is the run's, and by another byte what follows it.
-- Assumes nothing.
use mathlib.Core.Path.{◌≡◌, refl, ap, ap₂, ◌∙◌}
use Prim.Native.Nat.{ℕ}
use mathlib.Core.Bool.{Bool, false}
use mathlib.Core.List.{List, [], ◌∷◌, ◌++◌, map}
use lib.Dec.{eqb}
use borrow.Author.Tests.{eq-eqb}
use Rattle.integers.specs.All.{All}
use Rattle.commands.specs.Table.{letter_a, letter_g}
use Rattle.commands.specs.Encoding.{byte_of}
use Rattle.commands.specs.declared.Command.{Command}
use Rattle.model.specs.Decoding.{those, up_to, parts_at}

-- f makes commands with the byte b
module _ {A : Type 0} (b : ℕ) (f : A → Command) (byte : (x : A) → byte_of (f x) ≡ b) where
  test : (d : ℕ) {t : Bool} → eqb b d ≡ t → (x : A) → eqb (byte_of (f x)) d ≡ t
  test d e x = ap (λ (n : ℕ). eqb n d) (byte x) ∙ e

  pub own : (xs : List A) (more : List Command) → those b (map f xs ++ more) ≡ map f xs ++ those b more
  own [] more = refl
  own (x ∷ xs) more = rw (test b (eq-eqb b b refl) x) (ap (λ (z : List Command). f x ∷ z) (own xs more))

  pub skipped : (d : ℕ) → eqb b d ≡ false → (xs : List A) (more : List Command) → those d (map f xs ++ more) ≡ those d more
  skipped d e [] more = refl
  skipped d e (x ∷ xs) more = rw (test d e x) (skipped d e xs more)

  pub no_part : (d : ℕ) → eqb b d ≡ false → (xs : List A) (more : List Command) → parts_at d (map f xs ++ more) ≡ parts_at d more
  no_part d e [] more = refl
  no_part d e (x ∷ xs) more = rw (test d e x) (no_part d e xs more)

  pub no_edge : eqb b letter_g ≡ false → eqb b letter_a ≡ false → (xs : List A) (more : List Command) → up_to (map f xs ++ more) ≡ map f xs ++ up_to more
  no_edge g a [] more = refl
  no_edge g a (x ∷ xs) more = rw (test letter_g g x, test letter_a a x) (ap (λ (z : List Command). f x ∷ z) (no_edge g a xs more))

-- what was written is read
pub read_back : {A : Type 0} (f : A → Command) (g : Command → A) (P : A → Type 0) → ((x : A) → P x → g (f x) ≡ x) → (xs : List A) → All P xs → map g (map f xs ++ []) ≡ xs
read_back f g P h [] p = refl
read_back f g P h (x ∷ xs) (p, ps) = ap₂ ◌∷◌ (h x p) (read_back f g P h xs ps)
