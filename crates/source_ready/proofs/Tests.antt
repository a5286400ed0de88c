-- Tests of every number below n, of which one is narrowed; lists of every number below n, of which one is set; and numbers stored where a test says so.
-- Assumes nothing.
use mathlib.Core.Path.{◌≡◌, refl, ap, ap₂, ◌∙◌}
use Prim.Native.Nat.{ℕ, zero, suc, ◌<◌}
use native.Mathlib.Omega.{arith}
use mathlib.Core.Logic.{◌≢◌}
use mathlib.Core.Bool.{Bool, true, false, cond, ◌&&◌}
use mathlib.Core.List.{List, ◌∷◌}
use lib.ListN.{length, length-set, get_or, set}
use lib.Seq.{get_or-set_same, get_or-set_other}
use Rattle.integers.specs.All.{All}
use Rattle.lists.specs.Each.{tabulate}
use Rattle.lists.specs.Loops.{every}
use Rattle.source_step.proofs.Sound.{tabulate-same}
use Rattle.source_ready.specs.Narrowed.{set_if}

-- ---- tests in another order
pub and-swap : (a b c : Bool) → ((a && b) && c) ≡ ((a && c) && b)
and-swap true true true = refl
and-swap true true false = refl
and-swap true false true = refl
and-swap true false false = refl
and-swap false b c = refl

pub and-right-first : (a b c : Bool) → (a && (b && c)) ≡ ((a && b) && c)
and-right-first true b c = refl
and-right-first false b c = refl

pub and-pairs : (a b c d : Bool) → ((a && b) && (c && d)) ≡ ((a && c) && (b && d))
and-pairs true true true d = refl
and-pairs true true false d = refl
and-pairs true false true d = refl
and-pairs true false false d = refl
and-pairs false b c d = refl

-- ---- one test of n narrowed by b
pub every-narrowed : (n i : ℕ) (f g : ℕ → Bool) (b : Bool) → i < n → g i ≡ (f i && b) → ((j : ℕ) → j < n → j ≢ i → g j ≡ f j)
    → every (λ c. c) (tabulate n g) ≡ (every (λ c. c) (tabulate n f) && b)
unfolding tabulate
every-narrowed zero i f g b h e s = absurd (omega arith)
every-narrowed (suc n) zero f g b h e s =
    ap₂ ◌&&◌ e (ap (every (λ c. c)) (tabulate-same n (λ k. g (suc k)) (λ k. f (suc k)) (λ j l. s (suc j) (omega arith) (λ q. omega arith))))
    ∙ and-swap (f 0) b (every (λ c. c) (tabulate n (λ k. f (suc k))))
every-narrowed (suc n) (suc i) f g b h e s =
    ap₂ ◌&&◌ (s 0 (omega arith) (λ q. omega arith)) (every-narrowed n i (λ k. f (suc k)) (λ k. g (suc k)) b (omega arith) e (λ j l q. s (suc j) (omega arith) (λ r. q (omega arith))))
    ∙ and-right-first (f 0) (every (λ c. c) (tabulate n (λ k. f (suc k)))) b

-- one element of n set
pub tabulate-set : {A : Type 0} (n i : ℕ) (f g : ℕ → A) (v : A) → g i ≡ v → ((j : ℕ) → j < n → j ≢ i → g j ≡ f j) → tabulate n g ≡ set (tabulate n f) i v
unfolding tabulate
tabulate-set zero i f g v e s = refl
tabulate-set (suc n) zero f g v e s = ap₂ ◌∷◌ e (tabulate-same n (λ k. g (suc k)) (λ k. f (suc k)) (λ j l. s (suc j) (omega arith) (λ q. omega arith)))
tabulate-set (suc n) (suc i) f g v e s = ap₂ ◌∷◌ (s 0 (omega arith) (λ q. omega arith)) (tabulate-set n i (λ k. f (suc k)) (λ k. g (suc k)) v e (λ j l q. s (suc j) (omega arith) (λ r. q (omega arith))))

-- ---- stored where a test says so
module _ {A : Type 0} (b : Bool) (l : List A) (i : ℕ) (z : A) where
  pub length-set_if : length (set_if b l i z) ≡ length l
  length-set_if = go b
    where
      go : (c : Bool) → length (cond c (set l i z) l) ≡ length l
      go true = length-set l i z
      go false = refl

  pub set_if-at : (d : A) → i < length l → get_or (set_if b l i z) i d ≡ cond b z (get_or l i d)
  set_if-at d h = go b
    where
      go : (c : Bool) → get_or (cond c (set l i z) l) i d ≡ cond c z (get_or l i d)
      go true = get_or-set_same l i z d h
      go false = refl

  pub set_if-other : (j : ℕ) (d : A) → j ≢ i → get_or (set_if b l i z) j d ≡ get_or l j d
  set_if-other j d h = go b
    where
      go : (c : Bool) → get_or (cond c (set l i z) l) j d ≡ get_or l j d
      go true = get_or-set_other l i j z d h
      go false = refl

-- ---- what holds of f of every number below n
pub all-tabulate : {A : Type 0} (P : A → Type 0) (n : ℕ) (f : ℕ → A) → ((i : ℕ) → i < n → P (f i)) → All P (tabulate n f)
unfolding tabulate
all-tabulate P zero f h = tt
all-tabulate P (suc n) f h = (h 0 (omega arith), all-tabulate P n (λ k. f (suc k)) (λ i l. h (suc i) (omega arith)))
