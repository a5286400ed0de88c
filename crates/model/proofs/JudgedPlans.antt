-- Judging is running a plan whose numbers are actions, with the goal at the end; pricing sums; plans and their bytes are the same.
-- Assumes nothing.
use mathlib.Core.Path.{◌≡◌, refl, sym, ap, ap₂, ◌∙◌, subst}
use Prim.Native.Nat.{ℕ, suc, ◌+◌, ◌%◌, ◌≤◌, ◌<◌}
use native.Mathlib.Omega.{arith}
use native.Mathlib.Nat.{add-zero}
use mathlib.Core.Bool.{Bool, true, false, not, cond}
use mathlib.Core.Option.{Option, none, some}
use mathlib.Core.List.{List, [], ◌∷◌, ◌++◌}
use lib.ListN.{length, get_elem?}
use lib.Dec.{T, eqb, ltb, ltb→lt, nltb→le}
use lib.IntN.{ℤ}
use borrow.Author.Tests.{lt-ltb, le-ltb, eq-eqb, ne_eqb}
use Rattle.integers.specs.All.{All}
use Rattle.integers.specs.Numbers.{Bytes, bytes_of}
use Rattle.integers.proofs.Numbers.{bytes_small}
use Rattle.answers.specs.Answer.{Answer, given, refused}
use Rattle.lists.proofs.Numbers.{length-numbers, halves-numbers, numbers-halves}
use Rattle.model.specs.Tasks.{SourceAction, RestrictedAction, State}
use Rattle.model.specs.Systems.{bind, or_empty, or_zero, run_plan, keep, total_price, guarded}
use Rattle.model.specs.Steps.{try_source, try_restricted, source_step_of, restricted_step_of}
use Rattle.model.specs.Plans.{plan_bytes_of, plan_numbers, read_plan}
use Rattle.model.specs.Judging.{if_applies, judge, if_goes_on, prices_from}
use Rattle.model.proofs.Pairing.{bind-gives, some-injective}
use Rattle.model.proofs.StageWalk.{all_app, found-below-length}
use Rattle.model.proofs.Answers.{Gives, given-injective}

-- ---- judging is running, with numbers of actions, and a goal at the end
module _ {X : Type 0} (count : ℕ) (step : X → ℕ → Option X) (goal : X → Bool) where
  pub judged : (ks : List ℕ) (i : ℕ) (x : X) (n : ℕ) (y : X) → judge count step goal i ks x ≡ given (n, y)
      → (run_plan step ks x ≡ some y) × T (goal y) × (n ≡ i + length ks) × All (λ (k : ℕ). k < count) ks
  unfolding judge
  judged [] i x n y e = go (goal x) refl e
    where
      go : (b : Bool) → goal x ≡ b → cond {A = Answer (ℕ × X)} b (given (i, x)) (refused 13 i) ≡ given (n, y) → (some x ≡ some y) × T (goal y) × (n ≡ i + 0) × Unit {0}
      go true q e = let h : ◌≡◌ {A = ℕ × X} (i, x) (n, y) = given-injective e in
          (ap (λ (z : ℕ × X). some z.1) h, subst (λ (z : X). T (goal z)) (ap (λ (z : ℕ × X). z.1) h) (subst T (sym q) tt), sym (ap (λ (z : ℕ × X). z.0) h) ∙ sym (add-zero i), tt)
      go false q e = absurd (subst Gives (sym e) tt)
  judged (k ∷ ks) i x n y e = go (ltb k count) refl (step x k) refl e (λ z h. judged ks (suc i) z n y h)
    where
      go : (b : Bool) → ltb k count ≡ b → (o : Option X) → step x k ≡ o → cond b (if_applies o i (judge count step goal (suc i) ks)) (refused 11 i) ≡ given (n, y)
          → ((z : X) → judge count step goal (suc i) ks z ≡ given (n, y) → (run_plan step ks z ≡ some y) × T (goal y) × (n ≡ suc i + length ks) × All (λ (k : ℕ). k < count) ks)
          → (bind (step x k) (run_plan step ks) ≡ some y) × T (goal y) × (n ≡ i + suc (length ks)) × ((k < count) × All (λ (k : ℕ). k < count) ks)
      go true q none s e rec = absurd (subst Gives (sym e) tt)
      go true q (some z) s e rec = let (a, b, c, d) = rec z e in (ap (λ (o : Option X). bind o (run_plan step ks)) s ∙ a, b, omega (arith, c), (ltb→lt k count (subst T (sym q) tt), d))
      go false q o s e rec = absurd (subst Gives (sym e) tt)

  pub judges : (ks : List ℕ) (i : ℕ) (x y : X) → run_plan step ks x ≡ some y → T (goal y) → All (λ (k : ℕ). k < count) ks → judge count step goal i ks x ≡ given (i + length ks, y)
  unfolding judge
  judges [] i x y e g h = let q : x ≡ y = some-injective e in go (goal x) refl q
    where
      go : (b : Bool) → goal x ≡ b → x ≡ y → cond {A = Answer (ℕ × X)} b (given (i, x)) (refused 13 i) ≡ given (i + 0, y)
      go true s q = ap₂ (λ (a : ℕ) (z : X). given (a, z)) (sym (add-zero i)) q
      go false s q = absurd (subst T (ap goal (sym q) ∙ s) g)
  judges (k ∷ ks) i x y e g (h, hs) = let (z, e₁, e₂) = bind-gives (step x k) (run_plan step ks) y e in
      rw (lt-ltb k count h) (ap (λ (o : Option X). if_applies o i (judge count step goal (suc i) ks)) e₁ ∙ judges ks (suc i) z y e₂ g hs
      ∙ ap (λ (a : ℕ). given (a, y)) (tidy i (length ks)))
    where
      tidy : (a b : ℕ) → suc a + b ≡ a + suc b
      tidy a b = omega arith

  pub run-count : ((x : X) (k : ℕ) (y : X) → step x k ≡ some y → k < count) → (ks : List ℕ) (x y : X) → run_plan step ks x ≡ some y → All (λ (k : ℕ). k < count) ks
  run-count f [] x y e = tt
  run-count f (k ∷ ks) x y e = let (z, e₁, e₂) = bind-gives (step x k) (run_plan step ks) y e in (f x k z e₁, run-count f ks z y e₂)

-- ---- prices
module _ {X : Type 0} (step : X → ℕ → Option X) (price : X → ℕ → ℕ) where
  pub priced : (ks : List ℕ) (i sum : ℕ) (x y : X) → run_plan step ks x ≡ some y → prices_from step price false i sum ks x ≡ given (sum + total_price step price ks x)
  unfolding prices_from
  priced [] i sum x y e = ap given (sym (add-zero sum))
  priced (k ∷ ks) i sum x y e = let (z, e₁, e₂) = bind-gives (step x k) (run_plan step ks) y e in
      rw e₁ (priced ks (suc i) (sum + price x k) z y e₂ ∙ ap given (tidy sum (price x k) (total_price step price ks z)))
    where
      tidy : (a b c : ℕ) → (a + b) + c ≡ a + (b + c)
      tidy a b c = omega arith

  pub capped : (ks : List ℕ) (i sum : ℕ) (x y : X) → run_plan step ks x ≡ some y → sum + total_price step price ks x ≤ 1_000_000 → prices_from step price true i sum ks x ≡ given (sum + total_price step price ks x)
  unfolding prices_from
  capped [] i sum x y e h = ap given (sym (add-zero sum))
  capped (k ∷ ks) i sum x y e h = let (z, e₁, e₂) = bind-gives (step x k) (run_plan step ks) y e in go z e₁ e₂ (λ g. capped ks (suc i) (sum + price x k) z y e₂ g)
    where
      tidy : (a b c : ℕ) → (a + b) + c ≡ a + (b + c)
      tidy a b c = omega arith

      go : (z : X) → step x k ≡ some z → run_plan step ks z ≡ some y
          → ((sum + price x k) + total_price step price ks z ≤ 1_000_000 → prices_from step price true (suc i) (sum + price x k) ks z ≡ given ((sum + price x k) + total_price step price ks z))
          → cond (ltb 1_000_000 (sum + price x k)) (refused 9 i) (if_goes_on (step x k) (prices_from step price true (suc i) (sum + price x k) ks) (sum + price x k)) ≡ given (sum + total_price step price (k ∷ ks) x)
      go z e₁ e₂ rec = let q : total_price step price (k ∷ ks) x ≡ price x k + total_price step price ks z = ap (λ (o : Option X). price x k + or_zero o (total_price step price ks)) e₁ in
          let b : sum + price x k ≤ 1_000_000 = omega (arith, h, q) in
          rw (le-ltb 1_000_000 (sum + price x k) b, e₁) (rec (omega (arith, h, q)) ∙ ap given (tidy sum (price x k) (total_price step price ks z)))

  -- a sum that is given with the limit asked for is within it
  pub within-limit : (ks : List ℕ) (i sum : ℕ) (x y : X) (c : ℕ) → sum ≤ 1_000_000 → run_plan step ks x ≡ some y → prices_from step price true i sum ks x ≡ given c → sum + total_price step price ks x ≤ 1_000_000
  unfolding prices_from
  within-limit [] i sum x y c l e h = omega arith
  within-limit (k ∷ ks) i sum x y c l e h = let (z, e₁, e₂) = bind-gives (step x k) (run_plan step ks) y e in
      go z e₁ (ltb 1_000_000 (sum + price x k)) refl h (λ l' h'. within-limit ks (suc i) (sum + price x k) z y c l' e₂ h')
    where
      go : (z : X) → step x k ≡ some z → (b : Bool) → ltb 1_000_000 (sum + price x k) ≡ b
          → cond b (refused 9 i) (if_goes_on (step x k) (prices_from step price true (suc i) (sum + price x k) ks) (sum + price x k)) ≡ given c
          → (sum + price x k ≤ 1_000_000 → prices_from step price true (suc i) (sum + price x k) ks z ≡ given c → (sum + price x k) + total_price step price ks z ≤ 1_000_000)
          → sum + total_price step price (k ∷ ks) x ≤ 1_000_000
      go z e₁ true q h rec = absurd (subst Gives (sym h) tt)
      go z e₁ false q h rec =
          let l' : sum + price x k ≤ 1_000_000 = nltb→le 1_000_000 (sum + price x k) (subst (λ (b : Bool). T (not b)) (sym q) tt) in
          let g : (sum + price x k) + total_price step price ks z ≤ 1_000_000 = rec l' (sym (ap (λ (o : Option X). if_goes_on o (prices_from step price true (suc i) (sum + price x k) ks) (sum + price x k)) e₁) ∙ h) in
          omega (arith, g, ap (λ (o : Option X). price x k + or_zero o (total_price step price ks)) e₁)

-- ---- plans and their bytes
pub plan-reads-back : (p : List ℕ) → All (λ (k : ℕ). k < 65_536) p → length p ≤ 1_000_000 → read_plan (plan_bytes_of p) ≡ given p
unfolding read_plan
plan-reads-back p h f =
    rw (ne_eqb (length (plan_bytes_of p) % 2) 1 (λ e. even e), le-ltb 2_000_000 (length (plan_bytes_of p)) (omega (arith, f, length-numbers 2 p))) (ap given (halves-numbers p h))
  where
    even : length (plan_bytes_of p) % 2 ≡ 1 → ⊥
    even e = omega (arith, e, length-numbers 2 p)

pub plan-is-bytes : (p : List ℕ) → Bytes (plan_bytes_of p)
plan-is-bytes [] = tt
plan-is-bytes (k ∷ p) = all_app (λ (b : ℕ). b < 256) (bytes_of 2 k) (plan_bytes_of p) (bytes_small 2 k) (plan-is-bytes p)

-- what is read are the bytes' numbers
pub read-numbers : (s p : List ℕ) → read_plan s ≡ given p → p ≡ plan_numbers s
unfolding read_plan
read-numbers s p e = go (eqb (length s % 2) 1) (ltb 2_000_000 (length s)) e
  where
    go : (a b : Bool) → cond a (refused 10 (length s)) (cond b (refused 10 (length s)) (given (plan_numbers s))) ≡ given p → p ≡ plan_numbers s
    go true b e = absurd (subst Gives (sym e) tt)
    go false true e = absurd (subst Gives (sym e) tt)
    go false false e = sym (given-injective e)

-- a plan's bytes that are read: the bytes again, and the length
pub plan-read : (s : List ℕ) (p : List ℕ) → Bytes s → read_plan s ≡ given p → (plan_bytes_of p ≡ s) × (length p ≤ 1_000_000)
unfolding read_plan
plan-read s p h e = go (eqb (length s % 2) 1) refl (ltb 2_000_000 (length s)) refl e
  where
    even : eqb (length s % 2) 1 ≡ false → length s % 2 ≡ 0
    even q = omega (arith, odd q)
      where
        odd : eqb (length s % 2) 1 ≡ false → length s % 2 ≡ 1 → ⊥
        odd q r = subst T (sym (eq-eqb (length s % 2) 1 r) ∙ q) tt

    go : (a : Bool) → eqb (length s % 2) 1 ≡ a → (b : Bool) → ltb 2_000_000 (length s) ≡ b → cond a (refused 10 (length s)) (cond b (refused 10 (length s)) (given (plan_numbers s))) ≡ given p
        → (plan_bytes_of p ≡ s) × (length p ≤ 1_000_000)
    go true q b r e = absurd (subst Gives (sym e) tt)
    go false q true r e = absurd (subst Gives (sym e) tt)
    go false q false r e =
        let w : plan_bytes_of p ≡ s = ap plan_bytes_of (sym (given-injective e)) ∙ numbers-halves s h (even q) in
        (w, omega (arith, length-numbers 2 p, ap length w, nltb→le 2_000_000 (length s) (subst (λ (x : Bool). T (not x)) (sym r) tt)))

-- ---- a step that is made is an action's
pub source-step-counts : (ok : State → Bool) (lo hi : ℕ → ℤ) (acts : List SourceAction) (x : State) (k : ℕ) (y : State) → guarded ok (source_step_of lo hi acts) x k ≡ some y → k < length acts
source-step-counts ok lo hi acts x k y e =
    let (z, e₁, e₂) = bind-gives (source_step_of lo hi acts x k) (λ y. cond (ok x) (cond (ok y) (some y) none) none) y e in
    let (a, e₃, e₄) = bind-gives (get_elem? acts k) (try_source lo hi x) z e₁ in found-below-length acts k a e₃

pub restricted-step-counts : (ok : State → Bool) (acts : List RestrictedAction) (x : State) (k : ℕ) (y : State) → guarded ok (restricted_step_of acts) x k ≡ some y → k < length acts
restricted-step-counts ok acts x k y e =
    let (z, e₁, e₂) = bind-gives (restricted_step_of acts x k) (λ y. cond (ok x) (cond (ok y) (some y) none) none) y e in
    let (a, e₃, e₄) = bind-gives (get_elem? acts k) (try_restricted x) z e₁ in found-below-length acts k a e₃

pub keep-few : (f : ℕ → Option ℕ) (q : List ℕ) → length (keep f q) ≤ length q
keep-few f [] = omega arith
keep-few f (k ∷ q) = go (f k) (keep-few f q)
  where
    go : (o : Option ℕ) → length (keep f q) ≤ length q → length (or_empty o (λ a. a ∷ []) ++ keep f q) ≤ suc (length q)
    go none h = omega (arith, h)
    go (some a) h = omega (arith, h)

pub few-all : (C D : ℕ) → C ≤ D → (ks : List ℕ) → All (λ (k : ℕ). k < C) ks → All (λ (k : ℕ). k < D) ks
few-all C D h [] a = tt
few-all C D h (k ∷ ks) (a, as₁) = (omega (arith, h, a), few-all C D h ks as₁)
