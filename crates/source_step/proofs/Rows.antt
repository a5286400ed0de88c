-- Loops over a list whose elements are given by number: what is left at index i makes what the whole makes.
--     Row     a list of n elements, of which element i is f i
--     Left    at index i, H of what is left is `whole`
-- Assumes nothing.
use mathlib.Core.Path.{◌≡◌, refl, sym, ap, ◌∙◌}
use Prim.Native.Nat.{ℕ, zero, suc, min, ◌+◌, ◌≤◌, ◌<◌}
use native.Mathlib.Numerals.{add-one}
use native.Mathlib.Omega.{arith}
use mathlib.Core.Bool.{Bool, true, false, ◌&&◌}
use mathlib.Core.List.{List, [], ◌∷◌, map}
use lib.ListN.{length, length-take, get_or, take, drop}
use lib.Seq.{drop-cons, drop-length, get_or-take}
use Rattle.lists.specs.Each.{tabulate}
use Rattle.lists.proofs.Each.{length-tabulate, get_or-tabulate}
use Rattle.file_actions.specs.declared.Term.{Term}
use Rattle.file_actions.specs.Views.{term_is}
use lib.IntN.{ℤ}

pub record Row {A : Type 0} (xs : List A) (n : ℕ) (f : ℕ → A) : Type 0 where
  pub size : length xs ≡ n
  pub at : (i : ℕ) (d : A) → i < n → get_or xs i d ≡ f i

pub row-tabulate : {A : Type 0} (n : ℕ) (f : ℕ → A) → Row (tabulate n f) n f
row-tabulate n f = record { size = length-tabulate n f; at = λ i d h. get_or-tabulate n f i d h }

length-terms : (ts : List Term) → length (map term_is ts) ≡ length ts
length-terms [] = refl
length-terms (t ∷ ts) = ap suc (length-terms ts)

get_or-terms : (ts : List Term) (i : ℕ) (d : ℕ × ℤ) (e : Term) → i < length ts → get_or (map term_is ts) i d ≡ term_is (get_or ts i e)
get_or-terms [] i d e h = absurd (omega arith)
get_or-terms (t ∷ ts) zero d e h = refl
get_or-terms (t ∷ ts) (suc i) d e h = get_or-terms ts i d e (omega arith)

pub row-terms : (room count n : ℕ) (ts : List Term) (e : Term) → length ts ≡ room → n ≡ min room count → Row (take room (map term_is (take count ts))) n (λ i. term_is (get_or ts i e))
row-terms room count n ts e l s =
    let a : length (map term_is (take count ts)) ≡ min count (length ts) = length-terms (take count ts) ∙ length-take count ts in
    let b : length (take count ts) ≡ min count (length ts) = length-take count ts in
    record {
      size = length-take room (map term_is (take count ts)) ∙ omega arith;
      at = λ i d h. get_or-take room (map term_is (take count ts)) i d (omega arith) ∙ get_or-terms (take count ts) i d e (omega arith) ∙ ap term_is (get_or-take count ts i e (omega arith));
    }

pub record Left {A B : Type 0} (xs : List A) (n : ℕ) (f : ℕ → A) (i : ℕ) (H : List A → B) (whole : B) : Type 0 where
  pub row : Row xs n f
  pub bound : i ≤ n
  pub same : H (drop i xs) ≡ whole

pub left-start : {A B : Type 0} {xs : List A} {n : ℕ} {f : ℕ → A} (H : List A → B) → Row xs n f → Left xs n f 0 H (H xs)
left-start H r = record { row = r; bound = omega arith; same = refl }

module _ {A B : Type 0} {xs : List A} {n : ℕ} {f : ℕ → A} {i : ℕ} {H : List A → B} {whole : B} (l : Left xs n f i H whole) where
  pub left-more : i < n → H (f i ∷ drop (suc i) xs) ≡ whole
  left-more h =
      let s : length xs ≡ n = l.row.size in
      ap (λ x. H (x ∷ drop (suc i) xs)) (sym (l.row.at i (f i) h)) ∙ ap H (sym (drop-cons xs i (f i) (omega arith))) ∙ l.same

  pub left-next : (G : List A → B) → i < n → ((rest : List A) → G rest ≡ H (f i ∷ rest)) → Left xs n f (i + 1) G whole
  left-next G h e = record { row = l.row; bound = omega arith; same = rw (add-one i) (e (drop (suc i) xs) ∙ left-more h) }

  pub left-none : n ≤ i → H [] ≡ whole
  left-none h =
      let s : length xs ≡ n = l.row.size in
      let b = l.bound in
      let e : i ≡ length xs = omega arith in
      ap H (sym (drop-length xs) ∙ ap (λ (j : ℕ). drop j xs) (sym e)) ∙ l.same

-- ---- a test of each element
module _ {A : Type 0} {xs : List A} {n : ℕ} {f : ℕ → A} {i : ℕ} {H : List A → Bool} {whole : Bool} (l : Left xs n f i H whole) (h : i < n) (b : Bool) (e : (rest : List A) → H (f i ∷ rest) ≡ (b && H rest)) where
  pub left-pass : b ≡ true → Left xs n f (i + 1) H whole
  left-pass t = left-next l H h (λ rest. sym (e rest ∙ ap (λ x. x && H rest) t))

  pub left-stop : b ≡ false → false ≡ whole
  left-stop t = sym (e (drop (suc i) xs) ∙ ap (λ x. x && H (drop (suc i) xs)) t) ∙ left-more l h
