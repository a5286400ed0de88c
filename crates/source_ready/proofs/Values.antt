-- A row of numbers that is narrowed by a condition asks what it asked before and that the condition holds; so it is with all conditions of an action.
-- Assumes nothing.
use mathlib.Core.Path.{◌≡◌, refl, sym, ap, ap₂, ◌∙◌}
use Prim.Native.Nat.{ℕ, ◌+◌, ◌≤◌, ◌<◌}
use native.Mathlib.Omega.{arith}
use mathlib.Core.Logic.{◌≢◌}
use mathlib.Core.Bool.{Bool, true, false, cond, ◌&&◌}
use mathlib.Core.List.{List, [], ◌∷◌}
use lib.ListN.{length, take, set, length-set}
use lib.Seq.{get_or-take, get_or-set_same, get_or-set_other}
use lib.IntN.{ℤ, pos, ◌+ℤ◌, ◌-ℤ◌}
use lib.Signed.{le_z, lt_z}
use borrow.Author.Tests.{ltb-true, ltb-false}
use lib.Dec.{ltb}
use Rattle.integers.specs.All.{All}
use Rattle.integers.specs.Relation.{Relation, below, at_most, at_least, above, equal, related, between}
use Rattle.integers.proofs.Parts.{ints, add, sub}
use Rattle.lists.specs.Loops.{every}
use Rattle.model.specs.Tasks.{Measured, variable, weighted_sum, NumericCondition}
use Rattle.model.specs.Steps.{integer_at, measure, conditions_hold}
use Rattle.source_step.specs.Layout.{NUMBERS}
use Rattle.source_step.specs.Parts.{values_between}
use Rattle.source_step.proofs.Sound.{tabulate-same}
use Rattle.source_step.specs.Row.{values_in}
use Rattle.source_ready.specs.Narrowed.{capped, raised, narrowed, narrowed_on, narrowed_all, VariableIn, OnVariable, BoundsPut, RangesPut}
use Rattle.source_ready.proofs.Tests.{and-swap, and-right-first, every-narrowed, length-set_if, set_if-at, set_if-other}

-- ---- the lesser and the greater of two bounds
lesser-bound : (a b x : ℤ) → le_z x (cond (lt_z b a) b a) ≡ (le_z x a && le_z x b)
lesser-bound a b x = go (lt_z b a) (le_z x a) (le_z x b) refl refl refl
  where
    go : (p q r : Bool) → lt_z b a ≡ p → le_z x a ≡ q → le_z x b ≡ r → le_z x (cond p b a) ≡ (q && r)
    go true true r e f g = g
    go true false r e f g = omega (ints, e, f)
    go false true true e f g = f
    go false true false e f g = absurd (omega (ints, e, f, g))
    go false false r e f g = f

greater-bound : (a b x : ℤ) → le_z (cond (lt_z a b) b a) x ≡ (le_z a x && le_z b x)
greater-bound a b x = go (lt_z a b) (le_z a x) (le_z b x) refl refl refl
  where
    go : (p q r : Bool) → lt_z a b ≡ p → le_z a x ≡ q → le_z b x ≡ r → le_z (cond p b a) x ≡ (q && r)
    go true true r e f g = g
    go true false r e f g = omega (ints, e, f)
    go false true true e f g = f
    go false true false e f g = absurd (omega (ints, e, f, g))
    go false false r e f g = f

-- a strict bound is the next number as a bound
below-is : (x c : ℤ) → le_z x (c -ℤ pos 1) ≡ lt_z x c
below-is x c = go (lt_z x c) refl
  where
    go : (p : Bool) → lt_z x c ≡ p → le_z x (c -ℤ pos 1) ≡ p
    go true e = omega (ints, e, sub c (pos 1))
    go false e = omega (ints, e, sub c (pos 1))

above-is : (x c : ℤ) → le_z (c +ℤ pos 1) x ≡ lt_z c x
above-is x c = go (lt_z c x) refl
  where
    go : (p : Bool) → lt_z c x ≡ p → le_z (c +ℤ pos 1) x ≡ p
    go true e = omega (ints, e, add c (pos 1))
    go false e = omega (ints, e, add c (pos 1))

-- ---- one number capped or raised
capped-other : (l : List ℤ) (i : ℕ) (z : ℤ) (j : ℕ) → j ≢ i → integer_at (capped l i z) j ≡ integer_at l j
unfolding capped
capped-other l i z j p = set_if-other (lt_z z (integer_at l i)) l i z j (pos 0) p

raised-other : (l : List ℤ) (i : ℕ) (z : ℤ) (j : ℕ) → j ≢ i → integer_at (raised l i z) j ≡ integer_at l j
unfolding raised
raised-other l i z j p = set_if-other (lt_z (integer_at l i) z) l i z j (pos 0) p

capped-long : (l : List ℤ) (i : ℕ) (z : ℤ) → length (capped l i z) ≡ length l
unfolding capped
capped-long l i z = length-set_if (lt_z z (integer_at l i)) l i z

raised_long : (l : List ℤ) (i : ℕ) (z : ℤ) → length (raised l i z) ≡ length l
unfolding raised
raised_long l i z = length-set_if (lt_z (integer_at l i) z) l i z

-- ---- one condition
module _ (l : List ℤ) (i : ℕ) (long : length l ≡ NUMBERS) (few : i < 8) where
  capped-asks : (z x : ℤ) → between (integer_at (capped l (8 + i) z) i) (integer_at (capped l (8 + i) z) (8 + i)) x ≡ (between (integer_at l i) (integer_at l (8 + i)) x && le_z x z)
  unfolding capped
  capped-asks z x =
      let p = lt_z z (integer_at l (8 + i)) in
      ap₂ (λ (a b : ℤ). le_z a x && le_z x b) (set_if-other p l (8 + i) z i (pos 0) (λ q. omega arith)) (set_if-at p l (8 + i) z (pos 0) (omega arith))
      ∙ ap (λ (b : Bool). le_z (integer_at l i) x && b) (lesser-bound (integer_at l (8 + i)) z x)
      ∙ and-right-first (le_z (integer_at l i) x) (le_z x (integer_at l (8 + i))) (le_z x z)

  raised-asks : (z x : ℤ) → between (integer_at (raised l i z) i) (integer_at (raised l i z) (8 + i)) x ≡ (between (integer_at l i) (integer_at l (8 + i)) x && le_z z x)
  unfolding raised
  raised-asks z x =
      let p = lt_z (integer_at l i) z in
      ap₂ (λ (a b : ℤ). le_z a x && le_z x b) (set_if-at p l i z (pos 0) (omega arith)) (set_if-other p l i z (8 + i) (pos 0) (λ q. omega arith))
      ∙ ap (λ (b : Bool). b && le_z x (integer_at l (8 + i))) (greater-bound (integer_at l i) z x)
      ∙ and-swap (le_z (integer_at l i) x) (le_z z x) (le_z x (integer_at l (8 + i)))

module _ (l : List ℤ) (i : ℕ) (long : length l ≡ NUMBERS) (few : i < 8) where
  abbrev asked : ℤ → Bool
  asked x = between (integer_at l i) (integer_at l (8 + i)) x

  narrowed-asks : (r : Relation) (c x : ℤ) → between (integer_at (narrowed r l i c) i) (integer_at (narrowed r l i c) (8 + i)) x ≡ (asked x && related r x c)
  narrowed-asks below c x = capped-asks l i long few (c -ℤ pos 1) x ∙ ap (λ (b : Bool). asked x && b) (below-is x c)
  narrowed-asks at_most c x = capped-asks l i long few c x
  narrowed-asks at_least c x = raised-asks l i long few c x
  narrowed-asks above c x = raised-asks l i long few (c +ℤ pos 1) x ∙ ap (λ (b : Bool). asked x && b) (above-is x c)
  narrowed-asks equal c x =
      capped-asks (raised l i c) i (raised_long l i c ∙ long) few c x
      ∙ ap (λ (b : Bool). b && le_z x c) (raised-asks l i long few c x)
      ∙ sym (and-right-first (asked x) (le_z c x) (le_z x c))

-- elsewhere the row is as before
narrowed-other : (r : Relation) (l : List ℤ) (i : ℕ) (c : ℤ) (j : ℕ) → j ≢ i → j ≢ 8 + i → integer_at (narrowed r l i c) j ≡ integer_at l j
narrowed-other below l i c j p q = capped-other l (8 + i) (c -ℤ pos 1) j q
narrowed-other at_most l i c j p q = capped-other l (8 + i) c j q
narrowed-other at_least l i c j p q = raised-other l i c j p
narrowed-other above l i c j p q = raised-other l i (c +ℤ pos 1) j p
narrowed-other equal l i c j p q = capped-other (raised l i c) (8 + i) c j q ∙ raised-other l i c j p

narrowed-long : (r : Relation) (l : List ℤ) (i : ℕ) (c : ℤ) → length (narrowed r l i c) ≡ length l
narrowed-long below l i c = capped-long l (8 + i) (c -ℤ pos 1)
narrowed-long at_most l i c = capped-long l (8 + i) c
narrowed-long at_least l i c = raised_long l i c
narrowed-long above l i c = raised_long l i (c +ℤ pos 1)
narrowed-long equal l i c = capped-long (raised l i c) (8 + i) c ∙ raised_long l i c

-- ---- in a task of n variables
module _ (n : ℕ) (few : n ≤ 8) where
  narrowed-row : (r : Relation) (l : List ℤ) (i : ℕ) (c : ℤ) → length l ≡ NUMBERS → i < n → (x : List ℤ) → values_in n (narrowed r l i c) x ≡ (values_in n l x && related r (integer_at (take n x) i) c)
  narrowed-row r l i c long h x =
      every-narrowed n i (λ j. between (integer_at l j) (integer_at l (8 + j)) (integer_at x j)) (λ j. between (integer_at (narrowed r l i c) j) (integer_at (narrowed r l i c) (8 + j)) (integer_at x j))
      (related r (integer_at (take n x) i) c) h
      (narrowed-asks l i long (omega arith) r c (integer_at x i) ∙ ap (λ (z : ℤ). between (integer_at l i) (integer_at l (8 + i)) (integer_at x i) && related r z c) (sym (get_or-take n x i (pos 0) h)))
      (λ j k q. ap₂ (λ (a b : ℤ). between a b (integer_at x j)) (narrowed-other r l i c j q (λ e. omega arith)) (narrowed-other r l i c (8 + j) (λ e. omega arith) (λ e. q (omega arith))))

  narrowed-on : (m : Measured ℕ) (r : Relation) (c : ℤ) (l : List ℤ) → length l ≡ NUMBERS → VariableIn n m → (x : List ℤ)
      → values_in n (narrowed_on m r c l) x ≡ (values_in n l x && related r (measure m (integer_at (take n x))) c)
  narrowed-on (variable i) r c l long h x = narrowed-row r l i c long h x
  narrowed-on (weighted_sum ts) r c l long h x = absurd h

on-long : (m : Measured ℕ) (r : Relation) (c : ℤ) (l : List ℤ) → length (narrowed_on m r c l) ≡ length l
on-long (variable i) r c l = narrowed-long r l i c
on-long (weighted_sum ts) r c l = refl

on-rest : (n : ℕ) (m : Measured ℕ) (r : Relation) (c : ℤ) (l : List ℤ) → n ≤ 8 → VariableIn n m → (j : ℕ) → 16 ≤ j
    → integer_at (narrowed_on m r c l) j ≡ integer_at l j
on-rest n (variable i) r c l few h j k = narrowed-other r l i c j (λ e. omega arith) (λ e. omega arith)
on-rest n (weighted_sum ts) r c l few h j k = absurd h

module _ (n : ℕ) (few : n ≤ 8) where
  all_row : (cs : List (NumericCondition ℕ)) → All (OnVariable n) cs → (l : List ℤ) → length l ≡ NUMBERS → (x : List ℤ)
      → values_in n (narrowed_all cs l) x ≡ (values_in n l x && conditions_hold cs (integer_at (take n x)))
  all_row [] h l long x = sym (and-true (values_in n l x))
    where
      and-true : (b : Bool) → (b && true) ≡ b
      and-true true = refl
      and-true false = refl
  all_row (c ∷ cs) (h, hs) l long x =
      let held = related c.relation (measure c.measured (integer_at (take n x))) c.constant in
      all_row cs hs (narrowed_on c.measured c.relation c.constant l) (on-long c.measured c.relation c.constant l ∙ long) x
      ∙ ap (λ (b : Bool). b && conditions_hold cs (integer_at (take n x))) (narrowed-on n few c.measured c.relation c.constant l long h x)
      ∙ sym (and-right-first (values_in n l x) held (conditions_hold cs (integer_at (take n x))))

  all_rest : (cs : List (NumericCondition ℕ)) → All (OnVariable n) cs → (l : List ℤ) → (j : ℕ) → 16 ≤ j → integer_at (narrowed_all cs l) j ≡ integer_at l j
  all_rest [] h l j k = refl
  all_rest (c ∷ cs) (h, hs) l j k = all_rest cs hs (narrowed_on c.measured c.relation c.constant l) j k ∙ on-rest n c.measured c.relation c.constant l few h j k

all-long : (cs : List (NumericCondition ℕ)) (l : List ℤ) → length (narrowed_all cs l) ≡ length l
all-long [] l = refl
all-long (c ∷ cs) l = all-long cs (narrowed_on c.measured c.relation c.constant l) ∙ on-long c.measured c.relation c.constant l

-- ---- the bounds of the task first
pub bounds-begin : (lower upper numbers : List ℤ) → length numbers ≡ NUMBERS → BoundsPut 0 lower upper numbers numbers
bounds-begin lower upper numbers h = record { long = h; leasts = λ i l. absurd (omega arith); mosts = λ i l. absurd (omega arith); rest = λ j l. refl }

module _ (k : ℕ) (lower upper numbers₀ numbers : List ℤ) (h : BoundsPut k lower upper numbers₀ numbers) (few : k < 8) (a b : ℤ) (is_lower : a ≡ integer_at lower k) (is_upper : b ≡ integer_at upper k) where
  stored_other : (j : ℕ) → j ≢ k → j ≢ 8 + k → integer_at (set (set numbers k a) (8 + k) b) j ≡ integer_at numbers j
  stored_other j p q = get_or-set_other (set numbers k a) (8 + k) j b (pos 0) q ∙ get_or-set_other numbers k j a (pos 0) p

  pub bounds-more : BoundsPut (k + 1) lower upper numbers₀ (set (set numbers k a) (8 + k) b)
  bounds-more =
      let e = h.long in
      let f = length-set numbers k a in
      record {
        long = length-set (set numbers k a) (8 + k) b ∙ length-set numbers k a ∙ h.long;
        leasts = λ i l. least i (ltb i k) l refl;
        mosts = λ i l. most i (ltb i k) l refl;
        rest = λ j l. stored_other j (λ q. omega arith) (λ q. omega arith) ∙ h.rest j l;
      }
    where
      least : (i : ℕ) (p : Bool) → i < k + 1 → ltb i k ≡ p → integer_at (set (set numbers k a) (8 + k) b) i ≡ integer_at lower i
      least i true l e = let m : i < k = ltb-true i k e in stored_other i (λ q. omega arith) (λ q. omega arith) ∙ h.leasts i m
      least i false l e =
          let m : k ≤ i = ltb-false i k e in
          let s : i ≡ k = omega arith in
          rw s (get_or-set_other (set numbers k a) (8 + k) k b (pos 0) (λ q. omega arith) ∙ get_or-set_same numbers k a (pos 0) (omega (arith, h.long)) ∙ is_lower)

      most : (i : ℕ) (p : Bool) → i < k + 1 → ltb i k ≡ p → integer_at (set (set numbers k a) (8 + k) b) (8 + i) ≡ integer_at upper i
      most i true l e = let m : i < k = ltb-true i k e in stored_other (8 + i) (λ q. omega arith) (λ q. omega arith) ∙ h.mosts i m
      most i false l e =
          let m : k ≤ i = ltb-false i k e in
          let s : i ≡ k = omega arith in
          rw s (get_or-set_same (set numbers k a) (8 + k) b (pos 0) (omega (arith, h.long, length-set numbers k a)) ∙ is_upper)

bounds-row : (n : ℕ) → n ≤ 8 → (lower upper numbers₀ numbers : List ℤ) → BoundsPut 8 lower upper numbers₀ numbers → (x : List ℤ) → values_in n numbers x ≡ values_between n lower upper x
bounds-row n few lower upper numbers₀ numbers h x =
    ap (every (λ b. b)) (tabulate-same n (λ i. between (integer_at numbers i) (integer_at numbers (8 + i)) (integer_at x i)) (λ i. between (integer_at lower i) (integer_at upper i) (integer_at x i))
    (λ i l. ap₂ (λ (a b : ℤ). between a b (integer_at x i)) (h.leasts i (omega arith)) (h.mosts i (omega arith))))

-- THE LAW: the bounds, narrowed by every condition
pub ranges-put : (lower upper numbers₀ numbers : List ℤ) (cs : List (NumericCondition ℕ)) → BoundsPut 8 lower upper numbers₀ numbers
    → All (OnVariable 8) cs → RangesPut lower upper cs numbers₀ (narrowed_all cs numbers)
ranges-put lower upper numbers₀ numbers cs b declared = record {
  long = all-long cs numbers ∙ b.long;
  values = λ n few h x. all_row n few cs h numbers b.long x ∙ ap (λ (p : Bool). p && conditions_hold cs (integer_at (take n x))) (bounds-row n few lower upper numbers₀ numbers b x);
  rest = λ j k. all_rest 8 (omega arith) cs declared numbers j k ∙ b.rest j k;
}
