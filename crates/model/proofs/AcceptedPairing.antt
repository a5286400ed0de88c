-- What the pairing asks of a source task; and how numbers tell the variables of R apart.
-- Assumes nothing.
use mathlib.Core.Path.{◌≡◌, refl, sym, ap, ap₂, ◌∙◌, subst}
use Prim.Native.Nat.{ℕ, zero, suc, ◌+◌, ◌<◌}
use native.Mathlib.Nat.{add-zero}
use native.Mathlib.Omega.{arith}
use mathlib.Core.Bool.{Bool, true, false, cond}
use mathlib.Core.Option.{Option, some}
use mathlib.Core.List.{List, [], ◌∷◌, ◌++◌}
use lib.ListN.{length, length-append, get_or-append}
use lib.Dec.{T, eqb, eqb→eq, eqb_refl}
use lib.IntN.{ℤ, pos, negsuc, neg_ℤ, nat_abs}
use Rattle.integers.specs.All.{All}
use Rattle.integers.specs.Division.{sign}
use Rattle.model.specs.Tasks.{NumericCondition, SourceAction, State}
use Rattle.model.specs.Stages.{Name, source, helper_a, helper_b, hold}
use Rattle.model.specs.Expansion.{same_name, addition_to}
use Rattle.model.specs.Steps.{natural_at}
use Rattle.model.specs.Lowering.{number_of_name, numbered_additions}
use Rattle.model.specs.InTask.{NameIn, ActionIn}
use Rattle.model.specs.NamedSystems.{by_name}
use Rattle.model.specs.TaskOk.{ValuesIn, ConditionIn}
use Rattle.model.proofs.Outcomes.{Good}
use Rattle.model.proofs.Arrays.{NamesOnce, get-back}
use Rattle.model.proofs.StepBounds.{addition_at, AdditionsOnce, Below}

-- ---- numbers tell variables apart
eqb_no : (a b : ℕ) → (a ≡ b → ⊥) → eqb a b ≡ false
eqb_no a b f = go (eqb a b) refl
  where
    go : (x : Bool) → eqb a b ≡ x → x ≡ false
    go true e = absurd (f (eqb→eq a b (subst T (sym e) tt)))
    go false e = refl

eqb_yes : (a : ℕ) → eqb a a ≡ true
eqb_yes a = go (eqb a a) (eqb_refl a)
  where
    go : (x : Bool) → T x → x ≡ true
    go true t = refl
    go false t = absurd t

-- numbers further on by the same
past-both : (n i j : ℕ) → eqb (suc (suc (n + i))) (suc (suc (n + j))) ≡ eqb i j
past-both n i j = go (eqb i j) refl
  where
    go : (b : Bool) → eqb i j ≡ b → eqb (suc (suc (n + i))) (suc (suc (n + j))) ≡ b
    go true e = ap (λ (k : ℕ). eqb (suc (suc (n + i))) (suc (suc (n + k)))) (sym (eqb→eq i j (subst T (sym e) tt))) ∙ eqb_yes (suc (suc (n + i)))
    go false e = eqb_no (suc (suc (n + i))) (suc (suc (n + j))) (λ q. subst T e (subst (λ (k : ℕ). T (eqb i k)) (same q) (eqb_refl i)))
      where
        same : suc (suc (n + i)) ≡ suc (suc (n + j)) → i ≡ j
        same q = omega (arith, q)

num-same : (n holds : ℕ) (w x : Name) → NameIn n holds w → NameIn n holds x → eqb (number_of_name n w) (number_of_name n x) ≡ same_name w x
num-same n holds (source i) (source j) p q = refl
num-same n holds (source i) helper_a p q = eqb_no i n (λ e. omega arith)
num-same n holds (source i) helper_b p q = eqb_no i (suc n) (λ e. omega arith)
num-same n holds (source i) (hold j) p q = eqb_no i (suc (suc (n + j))) (λ e. omega arith)
num-same n holds helper_a (source j) p q = eqb_no n j (λ e. omega arith)
num-same n holds helper_a helper_a p q = eqb_yes n
num-same n holds helper_a helper_b p q = eqb_no n (suc n) (λ e. omega arith)
num-same n holds helper_a (hold j) p q = eqb_no n (suc (suc (n + j))) (λ e. omega arith)
num-same n holds helper_b (source j) p q = eqb_no (suc n) j (λ e. omega arith)
num-same n holds helper_b helper_a p q = eqb_no (suc n) n (λ e. omega arith)
num-same n holds helper_b helper_b p q = eqb_yes (suc n)
num-same n holds helper_b (hold j) p q = eqb_no (suc n) (suc (suc (n + j))) (λ e. omega arith)
num-same n holds (hold i) (source j) p q = eqb_no (suc (suc (n + i))) j (λ e. omega arith)
num-same n holds (hold i) helper_a p q = eqb_no (suc (suc (n + i))) n (λ e. omega arith)
num-same n holds (hold i) helper_b p q = eqb_no (suc (suc (n + i))) (suc n) (λ e. omega arith)
num-same n holds (hold i) (hold j) p q = past-both n i j

pub num-room : (n holds : ℕ) (w : Name) → NameIn n holds w → number_of_name n w < n + (2 + holds)
num-room n holds (source i) p = omega arith
num-room n holds helper_a p = omega arith
num-room n holds helper_b p = omega arith
num-room n holds (hold j) p = omega arith

abbrev pub VarsIn : ℕ → ℕ → List (Name × ℤ) → Type 0
VarsIn n holds es = All (λ (e : Name × ℤ). NameIn n holds e.0) es

look-num : (n holds : ℕ) (es : List (Name × ℤ)) (w : Name) → VarsIn n holds es → NameIn n holds w
    → addition_at (numbered_additions n es) (number_of_name n w) ≡ addition_to es w
look-num n holds [] w p q = refl
look-num n holds (e ∷ es) w (p, ps) q =
    ap₂ (λ (b : Bool) (o : Option ℤ). cond b (some e.1) o) (num-same n holds e.0 w p q) (look-num n holds es w ps q)

pub num-once : (n holds : ℕ) (es : List (Name × ℤ)) → VarsIn n holds es → NamesOnce es → AdditionsOnce (numbered_additions n es)
num-once n holds [] p o = tt
num-once n holds (e ∷ es) (p, ps) (o, os) = (look-num n holds es e.0 ps p ∙ o, num-once n holds es ps os)

pub abs_neg : (z : ℤ) → nat_abs (neg_ℤ z) ≡ nat_abs z
abs_neg (pos zero) = refl
abs_neg (pos (suc n)) = refl
abs_neg (negsuc n) = refl

pub sign-up_to : (c : ℤ) → nat_abs (sign c) ≡ 1
sign-up_to (pos n) = refl
sign-up_to (negsuc n) = refl

pub sets_more : (sizes : List ℕ) (z : ℕ) (es : List (ℕ × ℕ)) → ValuesIn sizes es → ValuesIn (sizes ++ (z ∷ [])) es
sets_more sizes z [] h = tt
sets_more sizes z (e ∷ es) (h, hs) =
    ((omega (arith, h.0, length-append sizes (z ∷ [])), subst (λ (x : ℕ). e.1 < x) (sym (get_or-append sizes (z ∷ []) 0 e.0 h.0)) h.1), sets_more sizes z es hs)

pub at-end : (sizes : List ℕ) (z m : ℕ) → length sizes ≡ m → natural_at (sizes ++ (z ∷ [])) m ≡ z
at-end sizes z m e = ap (natural_at (sizes ++ (z ∷ []))) (sym e ∙ sym (add-zero (length sizes))) ∙ get-back sizes (z ∷ []) 0 0

-- what the reader of source files has seen to
pub record Accepted (n holds m : ℕ) (lo hi : ℕ → ℤ) (acts : List SourceAction) (sizes : List ℕ) (gp : List (ℕ × ℕ)) (gc : List (NumericCondition ℕ))
    (x : State) : Type 0 where
  pub actions_in : All (ActionIn n holds m) acts
  pub sets : All (λ (a : SourceAction). ValuesIn sizes a.mode_effects) acts
  pub sizes_length : length sizes ≡ m
  pub goal_modes_in : All (λ (p : ℕ × ℕ). p.0 < m) gp
  pub goal_conditions_in : All (ConditionIn n) gc
  pub values_length : length x.values ≡ n
  pub modes_length : length x.modes ≡ m
  pub good : Good lo hi (by_name x)
  pub below : Below sizes x.modes
