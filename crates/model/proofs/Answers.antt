-- Answers: what is known where a call gives its result; and that a call which answers a length has written the result there.
-- Assumes nothing.
use mathlib.Core.Path.{◌≡◌, refl, sym, ap, ap₂, ◌∙◌, subst}
use Prim.Native.Nat.{ℕ}
use mathlib.Core.Bool.{Bool, true, false, cond}
use mathlib.Core.List.{List, ◌++◌}
use lib.ListN.{length, take, drop}
use lib.Seq.{take-append_seam}
use lib.Dec.{leb}
use Rattle.answers.specs.Answer.{Answer, given, refused, then, lent}

abbrev pub Gives : {A : Type 0} → Answer A → Type 0
Gives (given a) = Unit {0}
Gives (refused number place) = ⊥

result_of : {A : Type 0} → A → Answer A → A
result_of d (given a) = a
result_of d (refused number place) = d

pub given-injective : {A : Type 0} {a b : A} → given a ≡ given b → a ≡ b
unfolding result_of
given-injective {A} {a} {b} e = ap (result_of a) e

pub then-gives : {A B : Type 0} (a : Answer A) (f : A → Answer B) (c : B) → then a f ≡ given c → (x : A) × (a ≡ given x) × (f x ≡ given c)
then-gives (given x) f c e = (x, refl, e)
then-gives {A} {B} (refused n w) f c e = absurd (subst (λ (z : Answer B). Gives z) (sym e) tt)

pub written-at-the-front : (old after : List ℕ) (n : ℕ) (bytes : List ℕ) → lent old (given bytes) ≡ (given n, after) → take n after ≡ bytes
unfolding lent
written-at-the-front old after n bytes e = go (leb (length bytes) (length old)) e
  where
    go : (b : Bool) → cond {A = Answer ℕ × List ℕ} b (given (length bytes), bytes ++ drop (length bytes) old) (refused 8 (length bytes), old) ≡ (given n, after) → take n after ≡ bytes
    go true e =
        ap₂ (λ (k : ℕ) (s : List ℕ). take k s) (sym (given-injective (ap (λ (z : Answer ℕ × List ℕ). z.0) e))) (sym (ap (λ (z : Answer ℕ × List ℕ). z.1) e))
        ∙ take-append_seam bytes (drop (length bytes) old)
    go false e = absurd (subst Gives (sym (ap (λ (z : Answer ℕ × List ℕ). z.0) e)) tt)
