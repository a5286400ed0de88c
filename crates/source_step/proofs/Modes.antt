-- The modes after a step, one after the other.
-- Assumes nothing.
use mathlib.Core.Path.{◌≡◌, refl, sym, ap, ◌∙◌}
use Prim.Native.Nat.{ℕ, zero, suc, ◌+◌, ◌*◌, ◌≤◌, ◌<◌}
use native.Mathlib.Nat.{mul-le-mul, mul_comm, le_refl}
use native.Mathlib.Numerals.{add-one}
use native.Mathlib.Omega.{arith}
use mathlib.Core.List.{List, [], ◌∷◌, ◌++◌}
use lib.ListN.{length, get_or, drop, set}
use Rattle.lists.specs.Each.{tabulate}
use Rattle.model.specs.Steps.{natural_at}
use Rattle.source_step.specs.Row.{modes_after}

-- a number of 16 bits, once or not at all
pub kept-below : (mode keep : ℕ) → mode ≤ 65535 → mode * keep ≤ keep * 65535
kept-below mode keep h = let k : mode * keep ≤ 65535 * keep = mul-le-mul h (le_refl keep) in rw (mul_comm keep 65535) k

-- the first i elements made anew, the rest as before: element i is as before, and is made next
module _ {A : Type 0} where
  drop-nil : (i : ℕ) → drop {A = A} i [] ≡ []
  drop-nil zero = refl
  drop-nil (suc i) = refl

  read_next : (i : ℕ) (f : ℕ → A) (l : List A) (d : A) → get_or (tabulate i f ++ drop i l) i d ≡ get_or l i d
  unfolding tabulate
  read_next zero f l d = refl
  read_next (suc i) f [] d = ap (λ (l : List A). get_or (tabulate i (λ k. f (suc k)) ++ l) i d) (sym (drop-nil i)) ∙ read_next i (λ k. f (suc k)) [] d
  read_next (suc i) f (x ∷ l) d = read_next i (λ k. f (suc k)) l d

  store-next : (i : ℕ) (f : ℕ → A) (l : List A) → i < length l → set (tabulate i f ++ drop i l) i (f i) ≡ tabulate (suc i) f ++ drop (suc i) l
  unfolding tabulate
  store-next i f [] h = absurd (omega arith)
  store-next zero f (x ∷ l) h = refl
  store-next (suc i) f (x ∷ l) h = ap (λ (z : List A). f 0 ∷ z) (store-next i (λ k. f (suc k)) l (omega arith))

-- i of the modes are set
pub record Set (m : ℕ) (marks before modes : List ℕ) (i : ℕ) : Type 0 where
  pub bound : i ≤ m
  pub room : m ≤ length before
  pub are : modes ≡ modes_after i marks before

pub none-set : (m : ℕ) (marks before : List ℕ) → m ≤ length before → Set m marks before before 0
unfolding tabulate
none-set m marks before h = record { bound = omega arith; room = h; are = refl }

module _ {m : ℕ} {marks before modes : List ℕ} {i : ℕ} (s : Set m marks before modes i) where
  pub one_set : {x : ℕ} → i < m → x ≡ natural_at modes i * natural_at marks (8 + i) + natural_at marks (12 + i) → Set m marks before (set modes i x) (i + 1)
  one_set {x} h e =
      let f : ℕ → ℕ = λ j. natural_at before j * natural_at marks (8 + j) + natural_at marks (12 + j) in
      let r : natural_at modes i ≡ natural_at before i = ap (λ (l : List ℕ). natural_at l i) s.are ∙ read_next i f before 0 in
      let y : x ≡ f i = e ∙ ap (λ (z : ℕ). z * natural_at marks (8 + i) + natural_at marks (12 + i)) r in
      record {
        bound = omega arith;
        room = s.room;
        are = rw (y, s.are, add-one i) (store-next i f before (omega (arith, s.room)));
      }

  pub all_set : m ≤ i → modes ≡ modes_after m marks before
  all_set h = let b = s.bound in let e : i ≡ m = omega arith in s.are ∙ ap (λ (k : ℕ). modes_after k marks before) e
