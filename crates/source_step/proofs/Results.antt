-- What the effects of an action give: each target with its number; how many results lie within their bounds before the first that does not; whether all do.
-- Assumes nothing.
use mathlib.Core.Path.{◌≡◌, refl, sym, ap, ◌∙◌}
use Prim.Native.Nat.{ℕ, zero, suc, ◌+◌, ◌*◌, ◌≤◌, ◌<◌}
use native.Mathlib.Omega.{arith}
use native.Mathlib.Decide.{ℕ_discrete}
use mathlib.Core.Bool.{Bool, true, false, ◌&&◌}
use mathlib.Core.List.{List, [], ◌∷◌}
use lib.ListN.{length, take, set}
use lib.IntN.{ℤ}
use Rattle.integers.specs.Relation.{between}
use Rattle.lists.specs.Each.{tabulate}
use Rattle.lists.specs.Loops.{every}
use Rattle.model.specs.Tasks.{Effect}
use Rattle.model.specs.Steps.{integer_at, target, result, results, within_bounds}
use Rattle.source_step.specs.Sizes.{EFFECTS}
use Rattle.source_step.specs.Layout.{BLOCK, LOWER, UPPER}
use Rattle.source_step.specs.Step.{set_at, settled}
use Rattle.source_step.specs.Row.{effect_count_at, target_at, effect_at, result_at, outcomes_at, ResultsAre, pairs_of, stays_at, leading, first_outside, stays_in}
use Rattle.source_step.proofs.Numbers.{target_is}
use Rattle.source_step.proofs.Sound.{tabulate-same}

abbrev self : Bool → Bool
self b = b

-- ---- each target with its number
results-by-number : (k : ℕ) (f : ℕ → Effect) (v : ℕ → ℤ) → results (tabulate k f) v ≡ tabulate k (λ e. (target (f e), result (f e) v))
unfolding tabulate
results-by-number zero f v = refl
results-by-number (suc k) f v = ap (λ (ps : List (ℕ × ℤ)). (target (f 0), result (f 0) v) ∷ ps) (results-by-number k (λ e. f (suc e)) v)

pub within-by-number : (lower upper : ℕ → ℤ) (k : ℕ) (t : ℕ → ℕ) (z : ℕ → ℤ) → within_bounds lower upper (tabulate k (λ e. (t e, z e))) ≡ every self
    (tabulate k (λ e. between (lower (t e)) (upper (t e)) (z e)))
unfolding tabulate
within-by-number lower upper zero t z = refl
within-by-number lower upper (suc k) t z = ap (λ (b : Bool). between (lower (t 0)) (upper (t 0)) (z 0) && b)
    (within-by-number lower upper k (λ e. t (suc e)) (λ e. z (suc e)))

module _ (n : ℕ) (marks : List ℕ) (numbers : List ℤ) (values : List ℤ) where
  pub outcomes-are : outcomes_at n marks numbers values ≡ tabulate (effect_count_at marks) (λ e. (target_at marks e, result_at n marks numbers values e))
  outcomes-are =
      results-by-number (effect_count_at marks) (effect_at marks numbers) (integer_at (take n values))
      ∙ tabulate-same (effect_count_at marks) _ _ (λ e h. ap (λ (t : ℕ). (t, result_at n marks numbers values e)) (target_is marks numbers e))

  pub pairs-are : (zs : List ℤ) → ResultsAre n marks numbers values zs → pairs_of marks zs ≡ outcomes_at n marks numbers values
  pairs-are zs R = tabulate-same (effect_count_at marks) _ _ (λ e h. ap (λ (z : ℤ). (target_at marks e, z)) (R e h)) ∙ sym outcomes-are

-- ---- how many pass a test before the first that does not
leading-is : (test : ℕ → Bool) (k r : ℕ) → r ≤ k → ((j : ℕ) → j < r → test j ≡ true) → (r < k → test r ≡ false) → r ≡ leading test k
leading-is test zero r h p q = omega arith
leading-is test (suc k) zero h p q = rw (q (omega arith)) refl
leading-is test (suc k) (suc r) h p q =
    rw (p 0 (omega arith)) (ap suc (leading-is (λ e. test (suc e)) k r (omega arith) (λ j l. p (suc j) (omega arith)) (λ l. q (omega arith))))

leading-short : (test : ℕ → Bool) (k : ℕ) → leading test k < k → every self (tabulate k test) ≡ false
unfolding tabulate
leading-short test zero h = absurd (omega arith)
leading-short test (suc k) h = go (test 0) refl (leading-short (λ j. test (suc j)) k)
  where
    go : (b : Bool) → test 0 ≡ b → (leading (λ j. test (suc j)) k < k → every self (tabulate k (λ j. test (suc j))) ≡ false)
        → every self (tabulate (suc k) test) ≡ false
    go true e later = rw e (later (let l = rw e at h in omega (arith, l)))
    go false e later = rw e refl

leading-all : (test : ℕ → Bool) (k : ℕ) → k ≤ leading test k → every self (tabulate k test) ≡ true
unfolding tabulate
leading-all test zero h = refl
leading-all test (suc k) h = go (test 0) refl (leading-all (λ j. test (suc j)) k)
  where
    go : (b : Bool) → test 0 ≡ b → (k ≤ leading (λ j. test (suc j)) k → every self (tabulate k (λ j. test (suc j))) ≡ true)
        → every self (tabulate (suc k) test) ≡ true
    go true e later = rw e (later (let l = rw e at h in omega (arith, l)))
    go false e later = absurd (let l = rw e at h in omega (arith, l))

-- ---- the results within their bounds
abbrev pub stays_by : List ℤ → List ℤ → ℕ → Bool
stays_by numbers zs e = between (integer_at numbers (LOWER + BLOCK * e)) (integer_at numbers (UPPER + BLOCK * e)) (integer_at zs e)

module _ (n : ℕ) (marks : List ℕ) (numbers : List ℤ) (values : List ℤ) where
  pub first-outside-is : (zs : List ℤ) → ResultsAre n marks numbers values zs → (r : ℕ) → r ≤ effect_count_at marks
      → ((j : ℕ) → j < r → stays_by numbers zs j ≡ true) → (r < effect_count_at marks → stays_by numbers zs r ≡ false) → r ≡ first_outside n marks numbers values
  first-outside-is zs R r h p q =
      leading-is _ (effect_count_at marks) r h (λ j l. sym (same j (omega arith)) ∙ p j l) (λ l. sym (same r l) ∙ q l)
    where
      same : (j : ℕ) → j < effect_count_at marks → stays_by numbers zs j ≡ stays_at n marks numbers values j
      same j l = ap (between (integer_at numbers (LOWER + BLOCK * j)) (integer_at numbers (UPPER + BLOCK * j))) (R j l)

  pub one_outside : first_outside n marks numbers values < effect_count_at marks → stays_in n marks numbers values ≡ false
  one_outside h = leading-short _ (effect_count_at marks) h

  pub none-outside : effect_count_at marks ≤ first_outside n marks numbers values → stays_in n marks numbers values ≡ true
  none-outside h = leading-all _ (effect_count_at marks) h

-- ---- the first e results lie within their bounds
pub record Passed (marks : List ℕ) (numbers zs : List ℤ) (count e : ℕ) : Type 0 where
  pub bound : e ≤ count
  pub counted : count ≡ effect_count_at marks
  pub stay : (j : ℕ) → j < e → stays_by numbers zs j ≡ true

-- one more of which a fact holds
one_more : (P : ℕ → Type 0) (e : ℕ) → ((j : ℕ) → j < e → P j) → P e → (j : ℕ) → j < e + 1 → P j
one_more P e h p j l = go (ℕ_discrete j e)
  where
    go : Dec (j ≡ e) → P j
    go (yes q) = rw q p
    go (no q) = h j (omega arith)

module _ {marks : List ℕ} {numbers zs : List ℤ} {count : ℕ} where
  pub none_passed : count ≡ effect_count_at marks → Passed marks numbers zs count 0
  none_passed c = record { bound = omega arith; counted = c; stay = λ j h. absurd (omega arith) }

  pub one-passed : {e : ℕ} → Passed marks numbers zs count e → e < count → stays_by numbers zs e ≡ true → Passed marks numbers zs count (e + 1)
  one-passed {e} S h q = record { bound = omega arith; counted = S.counted; stay = one_more (λ j. stays_by numbers zs j ≡ true) e S.stay q }

  pub stopped : {e : ℕ} → Passed marks numbers zs count e → (e < count → stays_by numbers zs e ≡ false)
      → (n : ℕ) (values : List ℤ) → ResultsAre n marks numbers values zs → e ≡ first_outside n marks numbers values
  stopped {e} S q n values R = first-outside-is n marks numbers values zs R e (omega (arith, S.bound, S.counted)) S.stay
      (λ l. q (omega (arith, S.counted)))

-- ---- results stored: of two effects at most, and of three
module _ (n : ℕ) (marks : List ℕ) (numbers values : List ℤ) {a b : ℤ} (p : a ≡ result_at n marks numbers values 0)
    (q : b ≡ result_at n marks numbers values 1) where
  in-front : (zs : List ℤ) → (2 < effect_count_at marks → integer_at zs 0 ≡ result_at n marks numbers values 2)
      → ResultsAre n marks numbers values (a ∷ b ∷ zs)
  in-front zs r zero l = p
  in-front zs r (suc zero) l = q
  in-front zs r (suc (suc zero)) l = r l
  in-front zs r (suc (suc (suc e))) l = absurd (omega arith)

  pub two-worked : (zs : List ℤ) → length zs ≡ EFFECTS → effect_count_at marks < 3
      → (length (set (set zs 0 a) 1 b) ≡ EFFECTS) × ResultsAre n marks numbers values (set (set zs 0 a) 1 b)
  two-worked [] l h = absurd (omega arith)
  two-worked (x ∷ []) l h = absurd (omega arith)
  two-worked (x ∷ y ∷ zs) l h = (l, in-front zs (λ m. absurd (omega arith)))

  pub three-worked : (zs : List ℤ) → length zs ≡ EFFECTS → {c : ℤ} → c ≡ result_at n marks numbers values 2
      → (length (set (set (set zs 0 a) 1 b) 2 c) ≡ EFFECTS) × ResultsAre n marks numbers values (set (set (set zs 0 a) 1 b) 2 c)
  three-worked [] l r = absurd (omega arith)
  three-worked (x ∷ []) l r = absurd (omega arith)
  three-worked (x ∷ y ∷ []) l r = absurd (omega arith)
  three-worked (x ∷ y ∷ z ∷ zs) l {c} r = (l, in-front (c ∷ zs) (λ m. r))

-- ---- targets set: as many as there are effects
module _ (n : ℕ) (marks : List ℕ) (zs values : List ℤ) where
  abbrev given : ℕ → List ℤ → List ℤ
  given e l = set_at n l (target_at marks e) (integer_at zs e)

  pub none-set : effect_count_at marks ≡ 0 → values ≡ settled n (pairs_of marks zs) values
  unfolding tabulate
  none-set h = rw h refl

  module _ {a : List ℤ} (p : a ≡ given 0 values) where
    pub one_set : effect_count_at marks ≡ 1 → a ≡ settled n (pairs_of marks zs) values
    unfolding tabulate
    one_set h = rw h p

    pub two-set : {b : List ℤ} → b ≡ given 1 a → effect_count_at marks ≡ 2 → b ≡ settled n (pairs_of marks zs) values
    unfolding tabulate
    two-set q h = rw h (q ∙ ap (given 1) p)

    pub three-set : {b c : List ℤ} → b ≡ given 1 a → c ≡ given 2 b → effect_count_at marks ≡ 3 → c ≡ settled n (pairs_of marks zs) values
    unfolding tabulate
    three-set q r h = rw h (r ∙ ap (given 2) (q ∙ ap (given 1) p))
