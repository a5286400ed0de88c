-- The tests of a state by number, as the code makes them, are those of the model; and what effects give their targets within the bounds of these leaves all values within theirs.
-- Assumes nothing.
use mathlib.Core.Path.{◌≡◌, refl, sym, ap, ap₂, ◌∙◌}
use Prim.Native.Nat.{ℕ, zero, suc, ◌≤◌, ◌<◌}
use native.Mathlib.Omega.{arith}
use mathlib.Core.Bool.{Bool, true, false, cond, ◌&&◌}
use mathlib.Core.List.{List, [], ◌∷◌, ◌++◌}
use lib.Dec.{ltb}
use lib.ListN.{length, length-take, length-set, get_or, take, drop, set, take-append-drop, get_or-eq_default}
use lib.Seq.{get_or-take, length-take-le, set_out, take-set-lt, drop-set-lt}
use lib.IntN.{ℤ, pos}
use lib.Signed.{le_z}
use borrow.Author.Tests.{ltb-true, ltb-false, lt-ltb, le-ltb}
use Rattle.integers.specs.Relation.{between}
use Rattle.lists.specs.Each.{tabulate}
use Rattle.lists.specs.Loops.{every}
use Rattle.lists.proofs.Loops.{and_left, and_right}
use Rattle.model.specs.Steps.{integer_at, natural_at, set_all, values_within_bounds, modes_below_sizes, within_bounds}
use Rattle.source_step.specs.Parts.{values_between, modes_below}
use Rattle.source_step.specs.Step.{set_at, settled}

abbrev self : Bool → Bool
self b = b

pub tabulate-same : {A : Type 0} (n : ℕ) (f g : ℕ → A) → ((i : ℕ) → i < n → f i ≡ g i) → tabulate n f ≡ tabulate n g
unfolding tabulate
tabulate-same zero f g h = refl
tabulate-same (suc n) f g h = ap₂ (λ x xs. x ∷ xs) (h 0 (omega arith)) (tabulate-same n (λ k. f (suc k)) (λ k. g (suc k)) (λ i l. h (suc i) (omega arith)))

-- ---- the values
by_number : (lower upper : ℕ → ℤ) (l : List ℤ) → values_within_bounds lower upper l ≡ every self (tabulate (length l) (λ j. between (lower j) (upper j) (integer_at l j)))
unfolding tabulate
by_number lower upper [] = refl
by_number lower upper (z ∷ l) = ap (λ b. (le_z (lower 0) z && le_z z (upper 0)) && b) (by_number (λ j. lower (suc j)) (λ j. upper (suc j)) l)

pub values-sound : (n : ℕ) (lower upper values : List ℤ) → n ≤ length values → values_within_bounds (integer_at (take n lower)) (integer_at (take n upper)) (take n values) ≡ values_between n lower upper values
values-sound n lower upper values h =
    by_number (integer_at (take n lower)) (integer_at (take n upper)) (take n values)
    ∙ ap (λ (k : ℕ). every self (tabulate k (λ j. between (integer_at (take n lower) j) (integer_at (take n upper) j) (integer_at (take n values) j)))) (length-take-le n values h)
    ∙ ap (every self) (tabulate-same n _ _ (λ i l. rw (get_or-take n lower i (pos 0) l, get_or-take n upper i (pos 0) l, get_or-take n values i (pos 0) l)))

-- ---- the modes
by_size : (sizes l : List ℕ) → length l ≤ length sizes → modes_below_sizes sizes l ≡ every self (tabulate (length l) (λ j. ltb (natural_at l j) (natural_at sizes j)))
unfolding tabulate
by_size [] [] h = refl
by_size (z ∷ sizes) [] h = refl
by_size [] (x ∷ l) h = absurd (omega arith)
by_size (z ∷ sizes) (x ∷ l) h = ap (λ b. ltb x z && b) (by_size sizes l (omega arith))

pub modes-sound : (n : ℕ) (sizes modes : List ℕ) → n ≤ length sizes → n ≤ length modes → modes_below_sizes (take n sizes) (take n modes) ≡ modes_below n sizes modes
modes-sound n sizes modes s h =
    let a = length-take-le n sizes s in
    let b = length-take-le n modes h in
    by_size (take n sizes) (take n modes) (omega arith)
    ∙ ap (λ (k : ℕ). every self (tabulate k (λ j. ltb (natural_at (take n modes) j) (natural_at (take n sizes) j)))) b
    ∙ ap (every self) (tabulate-same n _ _ (λ i l. rw (get_or-take n modes i 0 l, get_or-take n sizes i 0 l)))

-- ---- storing among the first n
take_short : {A : Type 0} (n : ℕ) (l : List A) → length (take n l) ≤ n
take_short n l = let e = length-take n l in omega arith

module _ {A : Type 0} (n : ℕ) (l : List A) (i : ℕ) (x : A) where
  take-set_at : take n (set_at n l i x) ≡ set (take n l) i x
  take-set_at = go (ltb i n) refl
    where
      go : (b : Bool) → ltb i n ≡ b → take n (cond b (set l i x) l) ≡ set (take n l) i x
      go true e = take-set-lt n l i x (ltb-true i n e)
      go false e = let h : n ≤ i = ltb-false i n e in sym (set_out (take n l) i x (omega (arith, take_short n l)))

  drop-set_at : drop n (set_at n l i x) ≡ drop n l
  drop-set_at = go (ltb i n) refl
    where
      go : (b : Bool) → ltb i n ≡ b → drop n (cond b (set l i x) l) ≡ drop n l
      go true e = drop-set-lt n l i x (ltb-true i n e)
      go false e = refl

pub length-set_at : {A : Type 0} (n : ℕ) (l : List A) (i : ℕ) (x : A) → length (set_at n l i x) ≡ length l
length-set_at n l i x = go (ltb i n)
  where
    go : (b : Bool) → length (cond b (set l i x) l) ≡ length l
    go true = length-set l i x
    go false = refl

pub length-settled : (n : ℕ) (ps : List (ℕ × ℤ)) (l : List ℤ) → length (settled n ps l) ≡ length l
length-settled n [] l = refl
length-settled n (p ∷ ps) l = length-settled n ps (set_at n l p.0 p.1) ∙ length-set_at n l p.0 p.1

pub settled_is : (n : ℕ) (ps : List (ℕ × ℤ)) (l : List ℤ) → settled n ps l ≡ set_all ps (take n l) ++ drop n l
settled_is n [] l = sym (take-append-drop n l)
settled_is n (p ∷ ps) l =
    settled_is n ps (set_at n l p.0 p.1) ∙ ap₂ (λ a b. set_all ps a ++ b) (take-set_at n l p.0 p.1) (drop-set_at n l p.0 p.1)

-- ---- values within their bounds leave all within theirs
both : (a b : Bool) → a ≡ true → b ≡ true → (a && b) ≡ true
both true b e f = f
both false b e f = e

stays : (lower upper : ℕ → ℤ) (l : List ℤ) (t : ℕ) (z : ℤ) → values_within_bounds lower upper l ≡ true → between (lower t) (upper t) z ≡ true → values_within_bounds lower upper (set l t z) ≡ true
stays lower upper [] t z h k = refl
stays lower upper (x ∷ l) zero z h k = both _ _ k (and_right (between (lower 0) (upper 0) x) _ h)
stays lower upper (x ∷ l) (suc t) z h k =
    both _ _ (and_left (between (lower 0) (upper 0) x) _ h)
    (stays (λ j. lower (suc j)) (λ j. upper (suc j)) l t z (and_right (between (lower 0) (upper 0) x) _ h) k)

pub put-stays : (lower upper : ℕ → ℤ) (ps : List (ℕ × ℤ)) (l : List ℤ) → values_within_bounds lower upper l ≡ true → within_bounds lower upper ps ≡ true → values_within_bounds lower upper (set_all ps l) ≡ true
put-stays lower upper [] l h k = h
put-stays lower upper (p ∷ ps) l h k =
    let b = between (lower p.0) (upper p.0) p.1 in
    put-stays lower upper ps (set l p.0 p.1) (stays lower upper l p.0 p.1 h (and_left b (within_bounds lower upper ps) k)) (and_right b (within_bounds lower upper ps) k)

-- ---- what the code reads and stores by number
module _ {A : Type 0} (n : ℕ) (l : List A) (i j : ℕ) (e : i ≡ j) where
  pub read-in : (d : A) → i < n → get_or l i d ≡ get_or (take n l) j d
  read-in d h = rw (← e) (sym (get_or-take n l i d h))

  pub read_out : (d : A) → n ≤ i → d ≡ get_or (take n l) j d
  read_out d h = rw (← e) (sym (get_or-eq_default (take n l) d (omega (arith, take_short n l))))

  pub store_in : (x : A) → i < n → set l i x ≡ set_at n l j x
  store_in x h = rw (← e, lt-ltb i n h)

  pub store_out : (x : A) → n ≤ i → l ≡ set_at n l j x
  store_out x h = rw (← e, le-ltb i n h)
