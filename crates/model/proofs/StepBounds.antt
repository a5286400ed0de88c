-- What the steps of a run keep: modes stay below their sizes, and restricted values within 1,000,000,000 and as much again for each step taken.
-- Assumes nothing.
use mathlib.Core.Path.{◌≡◌, refl, sym, ap, ap₂, ◌∙◌, subst}
use Prim.Native.Nat.{ℕ, suc, ◌+◌, ◌*◌, ◌≤◌, ◌<◌}
use native.Mathlib.Omega.{arith}
use mathlib.Core.Bool.{◌&&◌, Bool, true, false, cond}
use mathlib.Core.Option.{Option, none, some}
use mathlib.Core.List.{List, [], ◌∷◌}
use lib.ListN.{length, length-set, get_elem?, set}
use lib.Dec.{T, eqb, eqb→eq, leb, le→leb, ltb, lt→ltb}
use lib.IntN.{ℤ, pos, nat_abs, ◌+ℤ◌}
use lib.Signed.{le_z}
use Rattle.integers.specs.All.{All}
use Rattle.integers.proofs.Parts.{ints, abs, sum-parts}
use Rattle.model.specs.Expansion.{add_to}
use Rattle.model.specs.Steps.{values_within, values_within_bounds, modes_below_sizes, sound_restricted, integer_at, natural_at, add_all, set_all, applies_restricted, apply_restricted, try_restricted, restricted_step_of}
use Rattle.model.specs.Tasks.{State, RestrictedAction}
use Rattle.model.specs.TaskOk.{ValuesIn}
use Rattle.model.proofs.Pairing.{bind-gives}
use Rattle.model.proofs.StageWalk.{and_intro, provided-gives, all-get}
use Rattle.model.proofs.Arrays.{get_set}

-- ---- values
abbrev pub addition_at : List (ℕ × ℤ) → ℕ → Option ℤ
addition_at [] i = none
addition_at (e ∷ es) i = cond (eqb e.0 i) (some e.1) (addition_at es i)

abbrev pub AdditionsOnce : List (ℕ × ℤ) → Type 0
AdditionsOnce [] = Unit {0}
AdditionsOnce (e ∷ es) = (addition_at es e.0 ≡ none) × AdditionsOnce es

-- an element after an action's additions
add_at : (es : List (ℕ × ℤ)) (n : ℕ) (l : List ℤ) → length l ≡ n → All (λ (e : ℕ × ℤ). e.0 < n) es → AdditionsOnce es → (i : ℕ) → integer_at (add_all es l) i ≡ add_to (addition_at es i) (integer_at l i)
add_at [] n l h j o i = refl
add_at (e ∷ es) n l h (j, js) (o, os) i = add_at es n (set l e.0 (integer_at l e.0 +ℤ e.1)) (length-set l e.0 (integer_at l e.0 +ℤ e.1) ∙ h) js os i
    ∙ ap (add_to (addition_at es i)) (get_set l e.0 i (integer_at l e.0 +ℤ e.1) (pos 0) (omega (arith, h, j))) ∙ pick (eqb e.0 i) refl
  where
    pick : (b : Bool) → eqb e.0 i ≡ b → add_to (addition_at es i) (cond b (integer_at l e.0 +ℤ e.1) (integer_at l i)) ≡ add_to (cond b (some e.1) (addition_at es i)) (integer_at l i)
    pick true q = let s : e.0 ≡ i = eqb→eq e.0 i (subst T (sym q) tt) in
        ap (λ (r : Option ℤ). add_to r (integer_at l e.0 +ℤ e.1)) (ap (addition_at es) (sym s) ∙ o) ∙ ap (λ (k : ℕ). integer_at l k +ℤ e.1) s
    pick false q = refl

pub abs-sum : (a b : ℤ) → nat_abs (a +ℤ b) ≤ nat_abs a + nat_abs b
abs-sum a b = omega (ints, abs a, abs b, abs (a +ℤ b), sum-parts a b)

look-small : (C : ℕ) (es : List (ℕ × ℤ)) → All (λ (e : ℕ × ℤ). nat_abs e.1 ≤ C) es → (B : ℕ) (z : ℤ) (i : ℕ) → nat_abs z ≤ B → nat_abs (add_to (addition_at es i) z) ≤ B + C
look-small C [] h B z i l = omega arith
look-small C (e ∷ es) (h, hs) B z i l = go (eqb e.0 i) (look-small C es hs B z i l)
  where
    go : (b : Bool) → nat_abs (add_to (addition_at es i) z) ≤ B + C → nat_abs (add_to (cond b (some e.1) (addition_at es i)) z) ≤ B + C
    go true k = omega (arith, abs-sum z e.1)
    go false k = k

pub true_of : (b : Bool) → T b → b ≡ true
true_of true t = refl
true_of false t = absurd t

small_all : (F : ℕ) (l : List ℤ) → ((i : ℕ) → nat_abs (integer_at l i) ≤ F) → values_within F l ≡ true
small_all F [] h = refl
small_all F (z ∷ l) h = ap₂ ◌&&◌ (true_of (leb (nat_abs z) F) (le→leb (nat_abs z) F (h 0))) (small_all F l (λ i. h (suc i)))

-- what the reader has seen to: variables declared, none twice, constants up to C
pub record AddsIn (n C : ℕ) (a : RestrictedAction) : Type 0 where
  pub inside : All (λ (e : ℕ × ℤ). e.0 < n) a.additions
  pub once : AdditionsOnce a.additions
  pub up_to : All (λ (e : ℕ × ℤ). nat_abs e.1 ≤ C) a.additions

pub add-length : (es : List (ℕ × ℤ)) (l : List ℤ) → length (add_all es l) ≡ length l
add-length [] l = refl
add-length (e ∷ es) l = add-length es (set l e.0 (integer_at l e.0 +ℤ e.1)) ∙ length-set l e.0 (integer_at l e.0 +ℤ e.1)

-- ---- modes stay below their sizes
abbrev pub Below : List ℕ → List ℕ → Type 0
Below sizes l = (j : ℕ) → j < length l → natural_at l j < natural_at sizes j

pub modes-in : (sizes l : List ℕ) → Below sizes l → modes_below_sizes sizes l ≡ true
modes-in sizes [] h = refl
modes-in [] (x ∷ l) h = refl
modes-in (z ∷ sizes) (x ∷ l) h = ap₂ ◌&&◌ (true_of (ltb x z) (lt→ltb x z (h 0 (omega arith)))) (modes-in sizes l (λ j q. h (suc j) (omega arith)))

set-length : (es : List (ℕ × ℕ)) (l : List ℕ) → length (set_all es l) ≡ length l
set-length [] l = refl
set-length (e ∷ es) l = set-length es (set l e.0 e.1) ∙ length-set l e.0 e.1

pub set_below : (es : List (ℕ × ℕ)) (sizes l : List ℕ) → All (λ (e : ℕ × ℕ). (e.0 < length l) × (e.1 < natural_at sizes e.0)) es → Below sizes l → Below sizes (set_all es l)
set_below [] sizes l i h = h
set_below (e ∷ es) sizes l (i, is) h = set_below es sizes (set l e.0 e.1) (subst (λ (n : ℕ). All (λ (e : ℕ × ℕ). (e.0 < n) × (e.1 < natural_at sizes e.0)) es) (sym (length-set l e.0 e.1)) is) one
  where
    one : Below sizes (set l e.0 e.1)
    one j q = subst (λ (x : ℕ). x < natural_at sizes j) (sym (get_set l e.0 j e.1 0 i.0)) (go (eqb e.0 j) refl)
      where
        go : (b : Bool) → eqb e.0 j ≡ b → cond b e.1 (natural_at l j) < natural_at sizes j
        go true s = subst (λ (k : ℕ). e.1 < natural_at sizes k) (eqb→eq e.0 j (subst T (sym s) tt)) i.1
        go false s = h j (omega (arith, q, length-set l e.0 e.1))

pub values-in-bounds : (lo hi : ℕ → ℤ) (l : List ℤ) → ((j : ℕ) → T (le_z (lo j) (integer_at l j)) × T (le_z (integer_at l j) (hi j))) → values_within_bounds lo hi l ≡ true
values-in-bounds lo hi [] h = refl
values-in-bounds lo hi (z ∷ l) h = ap₂ ◌&&◌ (true_of (((le_z (lo 0) z) && (le_z z (hi 0)))) (and_intro (le_z (lo 0) z) (le_z z (hi 0)) (h 0).0 (h 0).1)) (values-in-bounds (λ j. lo (suc j)) (λ j. hi (suc j)) l (λ j. h (suc j)))

-- ---- a restricted run, of a task with n variables and modes of the sizes: after i steps
abbrev pub WithinAfter : ℕ → List ℕ → ℕ → State → Type 0
WithinAfter n sizes i x = (length x.values ≡ n) × (length x.modes ≡ length sizes) × ((j : ℕ) → nat_abs (integer_at x.values j) ≤ 1_000_000_000 + 1_000_000_000 * i) × Below sizes x.modes

pub within-is-sound : (n : ℕ) (sizes : List ℕ) (i : ℕ) (x : State) → i ≤ 1_000_000 → WithinAfter n sizes i x → sound_restricted sizes x ≡ true
within-is-sound n sizes i x l (a, b, v, h) = ap₂ ◌&&◌ (small_all 2_000_000_000_000_000 x.values (λ j. omega (arith, v j))) (modes-in sizes x.modes h)

pub step-within : (n : ℕ) (sizes : List ℕ) (R : List RestrictedAction) → All (AddsIn n 1_000_000_000) R → All (λ (a : RestrictedAction). ValuesIn sizes a.mode_effects) R
    → (i : ℕ) (x y : State) (k : ℕ) → WithinAfter n sizes i x → restricted_step_of R x k ≡ some y → WithinAfter n sizes (suc i) y
step-within n sizes R adds sets i x y k (a, b, v, h) e = let (r, e₁, e₂) = bind-gives (get_elem? R k) (try_restricted x) y e in
    go r (all-get (AddsIn n 1_000_000_000) R k r adds e₁) (all-get (λ (a : RestrictedAction). ValuesIn sizes a.mode_effects) R k r sets e₁) (provided-gives (applies_restricted r x) (apply_restricted r x) y e₂).1
  where
    go : (r : RestrictedAction) → AddsIn n 1_000_000_000 r → ValuesIn sizes r.mode_effects → apply_restricted r x ≡ y → WithinAfter n sizes (suc i) y
    go r A s q = subst (WithinAfter n sizes (suc i)) q (
      add-length r.additions x.values ∙ a,
      set-length r.mode_effects x.modes ∙ b,
      (λ j. subst (λ (w : ℤ). nat_abs w ≤ 1_000_000_000 + 1_000_000_000 * suc i) (sym (add_at r.additions n x.values a A.inside A.once j))
          (omega (arith, look-small 1_000_000_000 r.additions A.up_to (1_000_000_000 + 1_000_000_000 * i) (integer_at x.values j) j (v j)))),
      set_below r.mode_effects sizes x.modes (subst (λ (c : ℕ). All (λ (e : ℕ × ℕ). (e.0 < c) × (e.1 < natural_at sizes e.0)) r.mode_effects) (sym b) s) h,
    )
