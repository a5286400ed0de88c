-- Lists behind the states: reading and writing elements, and the walk over one that holds source and helpers.
-- Assumes nothing.
use mathlib.Core.Path.{◌≡◌, refl, sym, ap, ap₂, ◌∙◌, subst, fun_ext}
use Prim.Native.Nat.{ℕ, zero, suc, ◌+◌, ◌<◌}
use native.Mathlib.Nat.{suc-add, add-zero}
use native.Mathlib.Numerals.{add-one}
use native.Mathlib.Omega.{arith}
use mathlib.Core.Bool.{◌&&◌, Bool, true, false, cond}
use mathlib.Core.Option.{Option, none, some}
use mathlib.Core.List.{List, [], ◌∷◌, ◌++◌}
use lib.ListN.{length, length-set, get_or, set, replicate, get_or-append}
use lib.Dec.{T, eqb, eqb→eq, eqb-suc-suc, eqb-zero-suc, eqb-suc-zero}
use lib.IntN.{ℤ, pos, ◌+ℤ◌, ◌*ℤ◌}
use Rattle.integers.specs.All.{All}
use Rattle.model.specs.Tasks.{Measured, variable, weighted_sum, NumericCondition}
use Rattle.model.specs.Steps.{measure, conditions_hold, modes_hold, integer_at, natural_at, add_all, set_all, weigh}
use Rattle.integers.specs.Relation.{related}
use Rattle.model.specs.NamedSystems.{mode_effect_on, or_default, set_modes}
use Rattle.model.specs.Stages.{Name, source, helper_a, helper_b, hold}
use Rattle.model.specs.Expansion.{same_name, addition_to, add_to, plus, named_values}
use Rattle.model.specs.Lowering.{number_of_name, numbered_measure, numbered_conditions, numbered_additions}
use Rattle.model.specs.InTask.{NameIn, MeasureIn, Once}
use Rattle.model.proofs.StageValues.{by_place, and-true, values-equal}

module _ {A : Type 0} where
  -- an element after a store
  pub get_set : (l : List A) (i j : ℕ) (a d : A) → i < length l → get_or (set l i a) j d ≡ cond (eqb i j) a (get_or l j d)
  get_set [] i j a d h = absurd (omega arith)
  get_set (x ∷ l) zero zero a d h = refl
  get_set (x ∷ l) zero (suc j) a d h = rw (eqb-zero-suc j) refl
  get_set (x ∷ l) (suc i) zero a d h = rw (eqb-suc-zero i) refl
  get_set (x ∷ l) (suc i) (suc j) a d h = rw (eqb-suc-suc i j) (get_set l i j a d (omega arith))

  pub set_front : (l r : List A) (i : ℕ) (a : A) → i < length l → set (l ++ r) i a ≡ set l i a ++ r
  set_front [] r i a h = absurd (omega arith)
  set_front (x ∷ l) r zero a h = refl
  set_front (x ∷ l) r (suc i) a h = ap (λ (u : List A). x ∷ u) (set_front l r i a (omega arith))

  pub set_back : (l r : List A) (i : ℕ) (a : A) → set (l ++ r) (length l + i) a ≡ l ++ set r i a
  set_back [] r i a = ap (λ (n : ℕ). set r n a) (omega arith)
  set_back (x ∷ l) r i a = ap (λ (n : ℕ). set (x ∷ (l ++ r)) n a) (suc-add (length l) i) ∙ ap (λ (u : List A). x ∷ u) (set_back l r i a)

  pub get-back : (l r : List A) (i : ℕ) (d : A) → get_or (l ++ r) (length l + i) d ≡ get_or r i d
  get-back [] r i d = ap (λ (n : ℕ). get_or r n d) (omega arith)
  get-back (x ∷ l) r i d = ap (λ (n : ℕ). get_or (x ∷ (l ++ r)) n d) (suc-add (length l) i) ∙ get-back l r i d

  -- two lists of one length with the same elements
  pub list_ext : (l r : List A) (d : A) → length l ≡ length r → ((i : ℕ) → get_or l i d ≡ get_or r i d) → l ≡ r
  list_ext [] [] d e h = refl
  list_ext [] (y ∷ r) d e h = absurd (omega arith)
  list_ext (x ∷ l) [] d e h = absurd (omega arith)
  list_ext (x ∷ l) (y ∷ r) d e h = λ i. h 0 i ∷ list_ext l r d (omega arith) (λ j. h (suc j)) i

same→eq : (w x : Name) → T (same_name w x) → w ≡ x
same→eq (source i) (source j) t = ap source (eqb→eq i j t)
same→eq (source i) helper_a t = absurd t
same→eq (source i) helper_b t = absurd t
same→eq (source i) (hold j) t = absurd t
same→eq helper_a (source j) t = absurd t
same→eq helper_a helper_a t = refl
same→eq helper_a helper_b t = absurd t
same→eq helper_a (hold j) t = absurd t
same→eq helper_b (source j) t = absurd t
same→eq helper_b helper_a t = absurd t
same→eq helper_b helper_b t = refl
same→eq helper_b (hold j) t = absurd t
same→eq (hold i) (source j) t = absurd t
same→eq (hold i) helper_a t = absurd t
same→eq (hold i) helper_b t = absurd t
same→eq (hold i) (hold j) t = ap hold (eqb→eq i j t)

pub replicated : (k j : ℕ) → integer_at (replicate k (pos 0)) j ≡ pos 0
replicated zero j = refl
replicated (suc k) zero = refl
replicated (suc k) (suc j) = replicated k j

past_two : (n j : ℕ) → suc (suc (n + j)) ≡ n + suc (suc j)
past_two n j = omega arith

-- each variable is named once
abbrev pub NamesOnce : List (Name × ℤ) → Type 0
NamesOnce [] = Unit {0}
NamesOnce (e ∷ es) = (addition_to es e.0 ≡ none) × NamesOnce es

-- ---- values: n source variables, then A, B and the holds
pub record ValuesLaid (n holds : ℕ) (l : List ℤ) (f : Name → ℤ) : Type 0 where
  pub V₀ : List ℤ
  pub a : ℤ
  pub b : ℤ
  pub H : List ℤ
  pub lengths : length V₀ ≡ n
  pub holds_length : length H ≡ holds
  pub is : l ≡ V₀ ++ (a ∷ b ∷ H)
  pub reads : f ≡ named_values (integer_at V₀) a b (integer_at H)

core-get : (v : List ℤ) (a b : ℤ) (H : List ℤ) (w : Name) → NameIn (length v) (length H) w
    → integer_at (v ++ (a ∷ b ∷ H)) (number_of_name (length v) w) ≡ named_values (integer_at v) a b (integer_at H) w
core-get v a b H (source i) h = get_or-append v (a ∷ b ∷ H) (pos 0) i h
core-get v a b H helper_a h = ap (integer_at (v ++ (a ∷ b ∷ H))) (sym (add-zero (length v))) ∙ get-back v (a ∷ b ∷ H) 0 (pos 0)
core-get v a b H helper_b h = ap (integer_at (v ++ (a ∷ b ∷ H))) (sym (add-one (length v))) ∙ get-back v (a ∷ b ∷ H) 1 (pos 0)
core-get v a b H (hold j) h = ap (integer_at (v ++ (a ∷ b ∷ H))) (past_two (length v) j) ∙ get-back v (a ∷ b ∷ H) (suc (suc j)) (pos 0)

abbrev bumped : Name → ℤ → (Name → ℤ) → Name → ℤ
bumped w d f x = cond (same_name w x) (f x +ℤ d) (f x)

-- an element that is added to, read by its place
bumped-at : (l : List ℤ) (i : ℕ) (d : ℤ) → i < length l → (j : ℕ)
    → cond (eqb i j) (integer_at l j +ℤ d) (integer_at l j) ≡ integer_at (set l i (integer_at l i +ℤ d)) j
bumped-at l i d h j =
    by_place i (λ c k. cond c (integer_at l k +ℤ d) (integer_at l k)) (λ c k. cond c (integer_at l i +ℤ d) (integer_at l k)) refl (λ k. refl) j
    ∙ sym (get_set l i j (integer_at l i +ℤ d) (pos 0) h)

core-one : (v : List ℤ) (a b : ℤ) (H : List ℤ) (w : Name) (d : ℤ) → NameIn (length v) (length H) w
    → ValuesLaid (length v) (length H) (set (v ++ (a ∷ b ∷ H)) (number_of_name (length v) w) (named_values (integer_at v) a b (integer_at H) w +ℤ d))
    (bumped w d (named_values (integer_at v) a b (integer_at H)))
core-one v a b H (source i) d h = record {
  V₀ = set v i (integer_at v i +ℤ d);
  a = a;
  b = b;
  H = H;
  lengths = length-set v i (integer_at v i +ℤ d);
  holds_length = refl;
  is = set_front v (a ∷ b ∷ H) i (integer_at v i +ℤ d) h;
  reads = values-equal (integer_at (set v i (integer_at v i +ℤ d))) a b (integer_at H) _ (bumped-at v i d h) refl refl (λ j. refl);
}
core-one v a b H helper_a d h = record {
  V₀ = v;
  a = a +ℤ d;
  b = b;
  H = H;
  lengths = refl;
  holds_length = refl;
  is = ap (λ (k : ℕ). set (v ++ (a ∷ b ∷ H)) k (a +ℤ d)) (sym (add-zero (length v))) ∙ set_back v (a ∷ b ∷ H) 0 (a +ℤ d);
  reads = values-equal (integer_at v) (a +ℤ d) b (integer_at H) _ (λ j. refl) refl refl (λ j. refl);
}
core-one v a b H helper_b d h = record {
  V₀ = v;
  a = a;
  b = b +ℤ d;
  H = H;
  lengths = refl;
  holds_length = refl;
  is = ap (λ (k : ℕ). set (v ++ (a ∷ b ∷ H)) k (b +ℤ d)) (sym (add-one (length v))) ∙ set_back v (a ∷ b ∷ H) 1 (b +ℤ d);
  reads = values-equal (integer_at v) a (b +ℤ d) (integer_at H) _ (λ j. refl) refl refl (λ j. refl);
}
core-one v a b H (hold i) d h = record {
  V₀ = v;
  a = a;
  b = b;
  H = set H i (integer_at H i +ℤ d);
  lengths = refl;
  holds_length = length-set H i (integer_at H i +ℤ d);
  is = ap (λ (k : ℕ). set (v ++ (a ∷ b ∷ H)) k (integer_at H i +ℤ d)) (past_two (length v) i)
      ∙ set_back v (a ∷ b ∷ H) (suc (suc i)) (integer_at H i +ℤ d);
  reads = values-equal (integer_at v) a b (integer_at (set H i (integer_at H i +ℤ d))) _ (λ j. refl) refl refl (bumped-at H i d h);
}

-- a name that is in the list has its value in it
pub values-laid-get : (n holds : ℕ) (l : List ℤ) (f : Name → ℤ) (w : Name) → ValuesLaid n holds l f → NameIn n holds w
    → integer_at l (number_of_name n w) ≡ f w
values-laid-get n holds l f w L i =
    ap₂ (λ (u : List ℤ) (k : ℕ). integer_at u (number_of_name k w)) L.is (sym L.lengths)
    ∙ core-get L.V₀ L.a L.b L.H w
    (subst (λ (k : ℕ). NameIn k (length L.H) w) (sym L.lengths) (subst (λ (k : ℕ). NameIn n k w) (sym L.holds_length) i))
    ∙ ap (λ (g : Name → ℤ). g w) (sym L.reads)

-- and may be added to
pub values-laid-one : (n holds : ℕ) (l : List ℤ) (f : Name → ℤ) (w : Name) (d : ℤ) → ValuesLaid n holds l f → NameIn n holds w
    → ValuesLaid n holds (set l (number_of_name n w) (integer_at l (number_of_name n w) +ℤ d)) (bumped w d f)
values-laid-one n holds l f w d L h = rw (values-laid-get n holds l f w L h)
    (subst (λ (k : ℕ). NameIn k holds w → ValuesLaid k holds (set l (number_of_name k w) (f w +ℤ d)) (bumped w d f)) L.lengths
    (subst (λ (c : ℕ). NameIn n₀ c w → ValuesLaid n₀ c (set l (number_of_name n₀ w) (f w +ℤ d)) (bumped w d f)) L.holds_length
    (λ h'. subst (λ (g : Name → ℤ). ValuesLaid n₀ (length L.H) (set l (number_of_name n₀ w) (g w +ℤ d)) (bumped w d g)) (sym L.reads)
    (subst (λ (u : List ℤ). ValuesLaid n₀ (length L.H) (set u (number_of_name n₀ w) (g₀ w +ℤ d)) (bumped w d g₀)) (sym L.is)
    (core-one L.V₀ L.a L.b L.H w d h')))) h)
  where
    n₀ : ℕ
    n₀ = length L.V₀

    g₀ : Name → ℤ
    g₀ = named_values (integer_at L.V₀) L.a L.b (integer_at L.H)

pub values-laid-all : (n holds : ℕ) (es : List (Name × ℤ)) (l : List ℤ) (f : Name → ℤ) → All (λ (e : Name × ℤ). NameIn n holds e.0) es → NamesOnce es
    → ValuesLaid n holds l f → ValuesLaid n holds (add_all (numbered_additions n es) l) (plus es f)
values-laid-all n holds [] l f i o L = L
values-laid-all n holds (e ∷ es) l f (i, is) (o, os) L =
    subst (ValuesLaid n holds (add_all (numbered_additions n es) (set l (number_of_name n e.0) (integer_at l (number_of_name n e.0) +ℤ e.1)))) (fun_ext go)
    (values-laid-all n holds es (set l (number_of_name n e.0) (integer_at l (number_of_name n e.0) +ℤ e.1)) (bumped e.0 e.1 f) is os
    (values-laid-one n holds l f e.0 e.1 L i))
  where
    pick : (x : Name) (b : Bool) → same_name e.0 x ≡ b → add_to (addition_to es x) (cond b (f x +ℤ e.1) (f x)) ≡ add_to (cond b (some e.1) (addition_to es x)) (f x)
    pick x true q = ap (λ (r : Option ℤ). add_to r (f x +ℤ e.1)) (ap (addition_to es) (sym (same→eq e.0 x (subst T (sym q) tt))) ∙ o)
    pick x false q = refl

    go : (x : Name) → plus es (bumped e.0 e.1 f) x ≡ plus (e ∷ es) f x
    go x = pick x (same_name e.0 x) refl

pub values-laid-conditions : (n holds : ℕ) (cs : List (NumericCondition Name)) (l : List ℤ) (f : Name → ℤ)
    → All (λ (c : NumericCondition Name). MeasureIn (NameIn n holds) c.measured) cs → ValuesLaid n holds l f
    → conditions_hold (numbered_conditions n cs) (integer_at l) ≡ conditions_hold cs f
values-laid-conditions n holds [] l f i L = refl
values-laid-conditions n holds (c ∷ cs) l f (i, is) L =
    ap₂ ◌&&◌ (ap (λ (z : ℤ). related c.relation z c.constant) (lhs c.measured i)) (values-laid-conditions n holds cs l f is L)
  where
    sums : (ts : List (Name × ℤ)) → All (λ (t : Name × ℤ). NameIn n holds t.0) ts → weigh (numbered_additions n ts) (integer_at l) ≡ weigh ts f
    sums [] h = refl
    sums (t ∷ ts) (h, hs) = ap₂ (λ (x y : ℤ). x *ℤ t.1 +ℤ y) (values-laid-get n holds l f t.0 L h) (sums ts hs)

    lhs : (e : Measured Name) → MeasureIn (NameIn n holds) e → measure (numbered_measure n e) (integer_at l) ≡ measure e f
    lhs (variable w) h = values-laid-get n holds l f w L h
    lhs (weighted_sum ts) h = sums ts h

-- ---- modes: m source modes, then control
pub record ModesLaid (m : ℕ) (l : List ℕ) (g : ℕ → ℕ) (c : ℕ) : Type 0 where
  pub M₀ : List ℕ
  pub lengths : length M₀ ≡ m
  pub is : l ≡ M₀ ++ (c ∷ [])
  pub reads : g ≡ natural_at M₀

pub modes-laid-get : (m : ℕ) (l : List ℕ) (g : ℕ → ℕ) (c j : ℕ) → ModesLaid m l g c → j < m → natural_at l j ≡ g j
modes-laid-get m l g c j L h = ap (λ (u : List ℕ). natural_at u j) L.is ∙ get_or-append L.M₀ (c ∷ []) 0 j (omega (arith, L.lengths)) ∙ ap (λ (f : ℕ → ℕ). f j) (sym L.reads)

pub modes-laid-control : (m : ℕ) (l : List ℕ) (g : ℕ → ℕ) (c : ℕ) → ModesLaid m l g c → natural_at l m ≡ c
modes-laid-control m l g c L = ap₂ (λ (u : List ℕ) (k : ℕ). natural_at u k) L.is (sym L.lengths ∙ sym (add-zero (length L.M₀))) ∙ get-back L.M₀ (c ∷ []) 0 0

pub modes-laid-one : (m : ℕ) (l : List ℕ) (g : ℕ → ℕ) (c j b : ℕ) → ModesLaid m l g c → j < m → ModesLaid m (set l j b) (λ k. cond (eqb j k) b (g k)) c
modes-laid-one m l g c j b L h = record {
  M₀ = set L.M₀ j b;
  lengths = length-set L.M₀ j b ∙ L.lengths;
  is = ap (λ (u : List ℕ). set u j b) L.is ∙ set_front L.M₀ (c ∷ []) j b (omega (arith, L.lengths));
  reads = fun_ext (λ k. ap (λ (f : ℕ → ℕ). cond (eqb j k) b (f k)) L.reads ∙ sym (get_set L.M₀ j k b 0 (omega (arith, L.lengths))));
}

pub modes-laid-set : (m : ℕ) (l : List ℕ) (g : ℕ → ℕ) (c c' : ℕ) → ModesLaid m l g c → ModesLaid m (set l m c') g c'
modes-laid-set m l g c c' L = record {
  M₀ = L.M₀;
  lengths = L.lengths;
  is = ap₂ (λ (u : List ℕ) (k : ℕ). set u k c') L.is (sym L.lengths ∙ sym (add-zero (length L.M₀))) ∙ set_back L.M₀ (c ∷ []) 0 c';
  reads = L.reads;
}

pub modes-laid-all : (m : ℕ) (es : List (ℕ × ℕ)) (l : List ℕ) (g : ℕ → ℕ) (c : ℕ) → All (λ (e : ℕ × ℕ). e.0 < m) es → Once es → ModesLaid m l g c → ModesLaid m (set_all es l) (set_modes es g) c
modes-laid-all m [] l g c i o L = L
modes-laid-all m (e ∷ es) l g c (i, is) (o, os) L =
    subst (λ (f : ℕ → ℕ). ModesLaid m (set_all es (set l e.0 e.1)) f c) (fun_ext (λ k. pick k (eqb e.0 k) refl))
    (modes-laid-all m es (set l e.0 e.1) (λ k. cond (eqb e.0 k) e.1 (g k)) c is os (modes-laid-one m l g c e.0 e.1 L i))
  where
    pick : (k : ℕ) (b : Bool) → eqb e.0 k ≡ b → or_default (mode_effect_on es k) (cond b e.1 (g k)) ≡ or_default (cond b (some e.1) (mode_effect_on es k)) (g k)
    pick k true q = ap (λ (r : Option ℕ). or_default r e.1) (ap (mode_effect_on es) (sym (eqb→eq e.0 k (subst T (sym q) tt))) ∙ o)
    pick k false q = refl

pub modes-laid-hold : (m : ℕ) (ps : List (ℕ × ℕ)) (l : List ℕ) (g : ℕ → ℕ) (c need : ℕ) → All (λ (p : ℕ × ℕ). p.0 < m) ps → ModesLaid m l g c
    → modes_hold (ps ++ ((m, need) ∷ [])) (natural_at l) ≡ ((modes_hold ps g) && (eqb c need))
modes-laid-hold m [] l g c need i L = and-true (eqb (natural_at l m) need) ∙ ap (λ (k : ℕ). eqb k need) (modes-laid-control m l g c L)
modes-laid-hold m (p ∷ ps) l g c need (i, is) L = ap₂ ◌&&◌ (ap (λ (k : ℕ). eqb k p.1) (modes-laid-get m l g c p.0 L i)) (modes-laid-hold m ps l g c need is L)
    ∙ again (eqb (g p.0) p.1) (modes_hold ps g) (eqb c need)
  where
    again : (x y z : Bool) → (x && ((y && z))) ≡ (((x && y)) && z)
    again true y z = refl
    again false y z = refl
