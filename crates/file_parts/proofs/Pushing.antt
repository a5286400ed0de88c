-- One part more in rows: it stands behind those of its kind, and the others stay.
-- Assumes nothing.
use mathlib.Core.Path.{◌≡◌, refl, sym, ap, ap₂, ◌∙◌}
use Prim.Native.Nat.{ℕ, zero, suc, ◌+◌, ◌<◌, ◌≤◌}
use native.Mathlib.Numerals.{add-one}
use native.Mathlib.Omega.{arith}
use mathlib.Core.List.{List, [], ◌∷◌, ◌++◌}
use lib.ListN.{length, get_or, set, length-set}
use lib.Seq.{get_or-set_same, get_or-set_other}
use lib.IntN.{ℤ, pos}
use Rattle.integers.specs.Relation.{relation_of}
use Rattle.lists.specs.Each.{tabulate}
use Rattle.lists.proofs.Each.{length-tabulate}
use Rattle.model.specs.Tasks.{variable, RestrictedAction}
use Rattle.model.specs.Steps.{integer_at, natural_at}
use Rattle.file_parts.specs.Row.{condition_in, mode_condition_in, mode_effect_in, addition_in, row_is, PartsFit, Says}
use Rattle.file_parts.specs.With.{condition, blank_action, with_condition, with_mode_condition, with_mode_effect, with_addition}

-- P and E alike: a mode and a value, counted at a place, with room for so many
abbrev pair_in : ℕ → ℕ → List ℕ → ℕ → ℕ × ℕ
pair_in at room marks i = (natural_at marks (at + 1 + i), natural_at marks (at + 1 + room + i))

-- ---- f of every number below n
tabulate-same : {A : Type 0} (n : ℕ) (f g : ℕ → A) → ((i : ℕ) → i < n → f i ≡ g i) → tabulate n f ≡ tabulate n g
unfolding tabulate
tabulate-same zero f g h = refl
tabulate-same (suc n) f g h = ap₂ ◌∷◌ (h 0 (omega arith)) (tabulate-same n (λ k. f (suc k)) (λ k. g (suc k)) (λ i l. h (suc i) (omega arith)))

tabulate-suc : {A : Type 0} (n : ℕ) (f g : ℕ → A) → ((i : ℕ) → i < n → f i ≡ g i) → tabulate (suc n) f ≡ tabulate n g ++ (f n ∷ [])
unfolding tabulate
tabulate-suc zero f g h = refl
tabulate-suc (suc n) f g h = ap₂ ◌∷◌ (h 0 (omega arith)) (tabulate-suc n (λ k. f (suc k)) (λ k. g (suc k)) (λ i l. h (suc i) (omega arith)))

tabulate-none : {A : Type 0} (n : ℕ) (f : ℕ → A) → n ≡ 0 → tabulate n f ≡ []
unfolding tabulate
tabulate-none zero f e = refl
tabulate-none (suc n) f e = absurd (omega arith)

-- a count that stays, of parts that stay; and one more
stays : {A : Type 0} {n n' : ℕ} (f f' : ℕ → A) → n' ≡ n → ((i : ℕ) → i < n → f' i ≡ f i) → tabulate n' f' ≡ tabulate n f
stays {n = n} f f' e h = ap (λ (z : ℕ). tabulate z f') e ∙ tabulate-same n f' f h

grows : {A : Type 0} {n n' : ℕ} (f f' : ℕ → A) (x : A) → n' ≡ n + 1 → ((i : ℕ) → i < n → f' i ≡ f i) → f' n ≡ x → tabulate n' f' ≡ tabulate n f ++ (x ∷ [])
grows {n = n} f f' x e h is = ap (λ (z : ℕ). tabulate z f') (e ∙ add-one n) ∙ tabulate-suc n f' f h ∙ ap (λ z. tabulate n f ++ (z ∷ [])) is

-- ---- rows of the same parts but for one kind
module _ (marks marks' : List ℕ) (numbers numbers' : List ℤ) {c p e a : ℕ} (room : PartsFit c p e a marks) where
  same-conditions : ((j : ℕ) → j < 49 → natural_at marks' j ≡ natural_at marks j) → ((j : ℕ) → j < 24 → integer_at numbers' j ≡ integer_at numbers j)
      → (row_is marks' numbers').conditions ≡ (row_is marks numbers).conditions
  same-conditions h g =
      let few = room.conditions in
      stays (condition_in marks numbers) (condition_in marks' numbers') (h 0 (omega arith))
      (λ i l q. record { measured = variable (h (1 + i) (omega arith) q); relation = relation_of (h (25 + i) (omega arith) q); constant = g i (omega arith) q })

  same-pairs : (at size : ℕ) → natural_at marks at ≤ size → ((j : ℕ) → at ≤ j → j < at + 1 + size + size → natural_at marks' j ≡ natural_at marks j)
      → tabulate (natural_at marks' at) (pair_in at size marks') ≡ tabulate (natural_at marks at) (pair_in at size marks)
  same-pairs at size few h =
      stays (pair_in at size marks) (pair_in at size marks') (h at (omega arith) (omega arith))
      (λ i l. ap₂ (λ (x y : ℕ). (x, y)) (h (at + 1 + i) (omega arith) (omega arith)) (h (at + 1 + size + i) (omega arith) (omega arith)))

  same-additions : ((j : ℕ) → 99 ≤ j → natural_at marks' j ≡ natural_at marks j) → ((j : ℕ) → 24 ≤ j → integer_at numbers' j ≡ integer_at numbers j)
      → (row_is marks' numbers').additions ≡ (row_is marks numbers).additions
  same-additions h g =
      stays (addition_in marks numbers) (addition_in marks' numbers') (h 99 (omega arith))
      (λ i l. ap₂ (λ (x : ℕ) (y : ℤ). (x, y)) (h (100 + i) (omega arith)) (g (24 + i) (omega arith)))

  -- an action by its four lists
  by_parts : (x : RestrictedAction) → (row_is marks' numbers').mode_conditions ≡ x.mode_conditions → (row_is marks' numbers').conditions ≡ x.conditions
      → (row_is marks' numbers').mode_effects ≡ x.mode_effects → (row_is marks' numbers').additions ≡ x.additions → row_is marks' numbers' ≡ x
  by_parts x p c e a q = record { mode_conditions = p q; conditions = c q; mode_effects = e q; additions = a q }

-- ---- an element among those set
module _ {A : Type 0} (none : A) (l : List A) (i j k : ℕ) (x y z : A) where
  abbrev three : List A
  three = set (set (set l i x) j y) k z

  other : (n : ℕ) → (n ≡ i → ⊥) → (n ≡ j → ⊥) → (n ≡ k → ⊥) → get_or three n none ≡ get_or l n none
  other n f g h = get_or-set_other (set (set l i x) j y) k n z none h ∙ get_or-set_other (set l i x) j n y none g ∙ get_or-set_other l i n x none f

  first : i < length l → (i ≡ j → ⊥) → (i ≡ k → ⊥) → get_or three i none ≡ x
  first b g h = get_or-set_other (set (set l i x) j y) k i z none h ∙ get_or-set_other (set l i x) j i y none g ∙ get_or-set_same l i x none b

  second : j < length l → (j ≡ k → ⊥) → get_or three j none ≡ y
  second b h = get_or-set_other (set (set l i x) j y) k j z none h ∙ get_or-set_same (set l i x) j y none (omega (arith, length-set l i x))

  third : k < length l → get_or three k none ≡ z
  third b = get_or-set_same (set (set l i x) j y) k z none (omega (arith, length-set (set l i x) j y, length-set l i x))

-- three stores keep the length
abbrev Kept3 : List ℕ → ℕ → ℕ → ℕ → ℕ → ℕ → ℕ → Type 0
Kept3 marks i j k x y z = length (three 0 marks i j k x y z) ≡ length marks

kept3 : (marks : List ℕ) (i j k x y z : ℕ) → Kept3 marks i j k x y z
kept3 marks i j k x y z = length-set (set (set marks i x) j y) k z ∙ length-set (set marks i x) j y ∙ length-set marks i x

-- ---- the pushes; n is how many there are, u one more
module _ (marks : List ℕ) (long : length marks ≡ 116) (n u : ℕ) (more : u ≡ n + 1) where
  is-condition : (numbers : List ℤ) → length numbers ≡ 40 → PartsFit 1 0 0 0 marks → n ≡ natural_at marks 0 → (v r : ℕ) (c : ℤ)
      → row_is (set (set (set marks (1 + n) v) (25 + n) r) 0 u) (set numbers n c) ≡ with_condition (row_is marks numbers) (condition v r c)
  is-condition numbers wide room is v r c =
      let m = three 0 marks (1 + n) (25 + n) 0 v r u in
      let l = set numbers n c in
      let few = room.conditions in
      let rest : (j : ℕ) → 49 ≤ j
      → natural_at m j ≡ natural_at marks j = λ j h. other 0 marks (1 + n) (25 + n) 0 v r u j (λ q. omega arith) (λ q. omega arith) (λ q. omega arith) in
      by_parts marks m numbers l room (with_condition (row_is marks numbers) (condition v r c))
      (same-pairs marks m numbers l room 49 16 (omega (arith, room.mode_conditions)) (λ j h g. rest j (omega arith)))
      (grows (condition_in marks numbers) (condition_in m l) (condition v r c)
      (third 0 marks (1 + n) (25 + n) 0 v r u (omega arith) ∙ more ∙ ap (λ (z : ℕ). z + 1) is)
      (λ i b q. record {
        measured = variable (other 0 marks (1 + n) (25 + n) 0 v r u (1 + i) (λ q. omega arith) (λ q. omega arith) (λ q. omega arith) q);
        relation = relation_of (other 0 marks (1 + n) (25 + n) 0 v r u (25 + i) (λ q. omega arith) (λ q. omega arith) (λ q. omega arith) q);
        constant = get_or-set_other numbers n i c (pos 0) (λ q. omega arith) q;
      })
      (rw (← is) (λ q. record {
        measured = variable (first 0 marks (1 + n) (25 + n) 0 v r u (omega arith) (λ q. omega arith) (λ q. omega arith) q);
        relation = relation_of (second 0 marks (1 + n) (25 + n) 0 v r u (omega arith) (λ q. omega arith) q);
        constant = get_or-set_same numbers n c (pos 0) (omega arith) q;
      })))
      (same-pairs marks m numbers l room 82 8 (omega (arith, room.mode_effects)) (λ j h g. rest j (omega arith)))
      (same-additions marks m numbers l room (λ j h. rest j (omega arith)) (λ j h. get_or-set_other numbers n j c (pos 0) (λ q. omega arith)))

  pairs-pushed : (at size : ℕ) → at + 1 + size + size ≤ 116 → n ≡ natural_at marks at → n < size → (v w : ℕ)
      → let m = set (set (set marks (at + 1 + n) v) (at + 1 + size + n) w) at u in
      tabulate (natural_at m at) (pair_in at size m) ≡ tabulate (natural_at marks at) (pair_in at size marks) ++ ((v, w) ∷ [])
  pairs-pushed at size fits is few v w =
      let m = three 0 marks (at + 1 + n) (at + 1 + size + n) at v w u in
      grows (pair_in at size marks) (pair_in at size m) (v, w)
      (third 0 marks (at + 1 + n) (at + 1 + size + n) at v w u (omega arith) ∙ more ∙ ap (λ (z : ℕ). z + 1) is)
      (λ i b. ap₂ (λ (x y : ℕ). (x, y))
      (other 0 marks (at + 1 + n) (at + 1 + size + n) at v w u (at + 1 + i) (λ q. omega arith) (λ q. omega arith) (λ q. omega arith))
      (other 0 marks (at + 1 + n) (at + 1 + size + n) at v w u (at + 1 + size + i) (λ q. omega arith) (λ q. omega arith) (λ q. omega arith)))
      (rw (← is) (ap₂ (λ (x y : ℕ). (x, y))
      (first 0 marks (at + 1 + n) (at + 1 + size + n) at v w u (omega arith) (λ q. omega arith) (λ q. omega arith))
      (second 0 marks (at + 1 + n) (at + 1 + size + n) at v w u (omega arith) (λ q. omega arith))))

  is-mode-condition : PartsFit 0 1 0 0 marks → n ≡ natural_at marks 49 → (v w : ℕ) (numbers : List ℤ)
      → row_is (set (set (set marks (50 + n) v) (66 + n) w) 49 u) numbers ≡ with_mode_condition (row_is marks numbers) (v, w)
  is-mode-condition room is v w numbers =
      let m = three 0 marks (50 + n) (66 + n) 49 v w u in
      let few = room.mode_conditions in
      let low : (j : ℕ) → j < 49
      → natural_at m j ≡ natural_at marks j = λ j h. other 0 marks (50 + n) (66 + n) 49 v w u j (λ q. omega arith) (λ q. omega arith) (λ q. omega arith) in
      let rest : (j : ℕ) → 82 ≤ j
      → natural_at m j ≡ natural_at marks j = λ j h. other 0 marks (50 + n) (66 + n) 49 v w u j (λ q. omega arith) (λ q. omega arith) (λ q. omega arith) in
      by_parts marks m numbers numbers room (with_mode_condition (row_is marks numbers) (v, w))
      (pairs-pushed 49 16 (omega arith) is (omega arith) v w)
      (same-conditions marks m numbers numbers room low (λ j h. refl))
      (same-pairs marks m numbers numbers room 82 8 (omega (arith, room.mode_effects)) (λ j h g. rest j (omega arith)))
      (same-additions marks m numbers numbers room (λ j h. rest j (omega arith)) (λ j h. refl))

  is-mode-effect : PartsFit 0 0 1 0 marks → n ≡ natural_at marks 82 → (v w : ℕ) (numbers : List ℤ)
      → row_is (set (set (set marks (83 + n) v) (91 + n) w) 82 u) numbers ≡ with_mode_effect (row_is marks numbers) (v, w)
  is-mode-effect room is v w numbers =
      let m = three 0 marks (83 + n) (91 + n) 82 v w u in
      let few = room.mode_effects in
      let low : (j : ℕ) → j < 82
      → natural_at m j ≡ natural_at marks j = λ j h. other 0 marks (83 + n) (91 + n) 82 v w u j (λ q. omega arith) (λ q. omega arith) (λ q. omega arith) in
      let rest : (j : ℕ) → 99 ≤ j
      → natural_at m j ≡ natural_at marks j = λ j h. other 0 marks (83 + n) (91 + n) 82 v w u j (λ q. omega arith) (λ q. omega arith) (λ q. omega arith) in
      by_parts marks m numbers numbers room (with_mode_effect (row_is marks numbers) (v, w))
      (same-pairs marks m numbers numbers room 49 16 (omega (arith, room.mode_conditions)) (λ j h g. low j (omega arith)))
      (same-conditions marks m numbers numbers room (λ j h. low j (omega arith)) (λ j h. refl))
      (pairs-pushed 82 8 (omega arith) is (omega arith) v w)
      (same-additions marks m numbers numbers room rest (λ j h. refl))

  is-addition : (numbers : List ℤ) → length numbers ≡ 40 → PartsFit 0 0 0 1 marks → n ≡ natural_at marks 99 → (v : ℕ) (x : ℤ)
      → row_is (set (set marks (100 + n) v) 99 u) (set numbers (24 + n) x) ≡ with_addition (row_is marks numbers) (v, x)
  is-addition numbers wide room is v x =
      let m = set (set marks (100 + n) v) 99 u in
      let l = set numbers (24 + n) x in
      let few = room.additions in
      let two : (j : ℕ) → (j ≡ 100 + n → ⊥) → (j ≡ 99 → ⊥)
      → natural_at m j ≡ natural_at marks j = λ j f g. get_or-set_other (set marks (100 + n) v) 99 j u 0 g ∙ get_or-set_other marks (100 + n) j v 0 f in
      let low : (j : ℕ) → j < 99 → natural_at m j ≡ natural_at marks j = λ j h. two j (λ q. omega arith) (λ q. omega arith) in
      by_parts marks m numbers l room (with_addition (row_is marks numbers) (v, x))
      (same-pairs marks m numbers l room 49 16 (omega (arith, room.mode_conditions)) (λ j h g. low j (omega arith)))
      (same-conditions marks m numbers l room (λ j h. low j (omega arith)) (λ j h. get_or-set_other numbers (24 + n) j x (pos 0) (λ q. omega arith)))
      (same-pairs marks m numbers l room 82 8 (omega (arith, room.mode_effects)) (λ j h g. low j (omega arith)))
      (grows (addition_in marks numbers) (addition_in m l) (v, x)
      (get_or-set_same (set marks (100 + n) v) 99 u 0 (omega (arith, length-set marks (100 + n) v)) ∙ more ∙ ap (λ (z : ℕ). z + 1) is)
      (λ i b. ap₂ (λ (y : ℕ) (z : ℤ). (y, z)) (two (100 + i) (λ q. omega arith) (λ q. omega arith))
      (get_or-set_other numbers (24 + n) (24 + i) x (pos 0) (λ q. omega arith)))
      (rw (← is) (ap₂ (λ (y : ℕ) (z : ℤ). (y, z))
      (get_or-set_other (set marks (100 + n) v) 99 (100 + n) u 0 (λ q. omega arith) ∙ get_or-set_same marks (100 + n) v 0 (omega arith))
      (get_or-set_same numbers (24 + n) x (pos 0) (omega arith)))))

  pub pushed-condition : (numbers : List ℤ) → length numbers ≡ 40 → PartsFit 1 0 0 0 marks → n ≡ natural_at marks 0 → (v r : ℕ) (c : ℤ)
      → Says (with_condition (row_is marks numbers) (condition v r c)) (set (set (set marks (1 + n) v) (25 + n) r) 0 u) (set numbers n c)
  pushed-condition numbers broad room is v r c = record {
    marks_long = kept3 marks (1 + n) (25 + n) 0 v r u ∙ long;
    numbers_long = length-set numbers n c ∙ broad;
    is = is-condition numbers broad room is v r c;
  }

  pub pushed-mode-condition : PartsFit 0 1 0 0 marks → n ≡ natural_at marks 49 → (v w : ℕ) (numbers : List ℤ) → length numbers ≡ 40
      → Says (with_mode_condition (row_is marks numbers) (v, w)) (set (set (set marks (50 + n) v) (66 + n) w) 49 u) numbers
  pushed-mode-condition room is v w numbers broad = record {
    marks_long = kept3 marks (50 + n) (66 + n) 49 v w u ∙ long;
    numbers_long = broad;
    is = is-mode-condition room is v w numbers;
  }

  pub pushed-mode-effect : PartsFit 0 0 1 0 marks → n ≡ natural_at marks 82 → (v w : ℕ) (numbers : List ℤ) → length numbers ≡ 40
      → Says (with_mode_effect (row_is marks numbers) (v, w)) (set (set (set marks (83 + n) v) (91 + n) w) 82 u) numbers
  pushed-mode-effect room is v w numbers broad = record {
    marks_long = kept3 marks (83 + n) (91 + n) 82 v w u ∙ long;
    numbers_long = broad;
    is = is-mode-effect room is v w numbers;
  }

  pub pushed-addition : (numbers : List ℤ) → length numbers ≡ 40 → PartsFit 0 0 0 1 marks → n ≡ natural_at marks 99 → (v : ℕ) (x : ℤ)
      → Says (with_addition (row_is marks numbers) (v, x)) (set (set marks (100 + n) v) 99 u) (set numbers (24 + n) x)
  pushed-addition numbers broad room is v x = record {
    marks_long = length-set (set marks (100 + n) v) 99 u ∙ length-set marks (100 + n) v ∙ long;
    numbers_long = length-set numbers (24 + n) x ∙ broad;
    is = is-addition numbers broad room is v x;
  }

-- no part
is-blank : (marks : List ℕ) → length marks ≡ 116 → (numbers : List ℤ) → row_is (set (set (set (set marks 0 0) 49 0) 82 0) 99 0) numbers ≡ blank_action
is-blank marks long numbers q =
    let m = set (set (set (set marks 0 0) 49 0) 82 0) 99 0 in
    let l = set marks 0 0 in
    let e = length-set marks 0 0 in
    record {
      mode_conditions = tabulate-none (natural_at m 49) (pair_in 49 16 m) (first 0 l 49 82 99 0 0 0 (omega arith) (λ q. omega arith) (λ q. omega arith)) q;
      conditions = tabulate-none (natural_at m 0) (condition_in m numbers)
          (other 0 l 49 82 99 0 0 0 0 (λ q. omega arith) (λ q. omega arith) (λ q. omega arith) ∙ get_or-set_same marks 0 0 0 (omega arith)) q;
      mode_effects = tabulate-none (natural_at m 82) (pair_in 82 8 m) (second 0 l 49 82 99 0 0 0 (omega arith) (λ q. omega arith)) q;
      additions = tabulate-none (natural_at m 99) (addition_in m numbers) (third 0 l 49 82 99 0 0 0 (omega arith)) q;
    }

pub blanked : (marks : List ℕ) → length marks ≡ 116 → (numbers : List ℤ) → length numbers ≡ 40
    → Says blank_action (set (set (set (set marks 0 0) 49 0) 82 0) 99 0) numbers
blanked marks long numbers broad = record {
  marks_long = kept3 (set marks 0 0) 49 82 99 0 0 0 ∙ length-set marks 0 0 ∙ long;
  numbers_long = broad;
  is = is-blank marks long numbers;
}

-- ---- what a caller goes by
-- how many parts an action has
pub record Sized (c p e a : ℕ) (x : RestrictedAction) : Type 0 where
  pub conditions : length x.conditions + c ≤ 24
  pub mode_conditions : length x.mode_conditions + p ≤ 16
  pub mode_effects : length x.mode_effects + e ≤ 8
  pub additions : length x.additions + a ≤ 16

module _ {x : RestrictedAction} {marks : List ℕ} {numbers : List ℤ} (h : Says x marks numbers) where
  -- the counts are those of its parts
  pub conditions-counted : natural_at marks 0 ≡ length x.conditions
  conditions-counted = sym (length-tabulate (natural_at marks 0) (condition_in marks numbers)) ∙ ap (λ (z : RestrictedAction). length z.conditions) h.is

  pub mode-conditions-counted : natural_at marks 49 ≡ length x.mode_conditions
  mode-conditions-counted = sym (length-tabulate (natural_at marks 49) (mode_condition_in marks)) ∙ ap (λ (z : RestrictedAction). length z.mode_conditions) h.is

  pub mode-effects-counted : natural_at marks 82 ≡ length x.mode_effects
  mode-effects-counted = sym (length-tabulate (natural_at marks 82) (mode_effect_in marks)) ∙ ap (λ (z : RestrictedAction). length z.mode_effects) h.is

  pub additions-counted : natural_at marks 99 ≡ length x.additions
  additions-counted = sym (length-tabulate (natural_at marks 99) (addition_in marks numbers)) ∙ ap (λ (z : RestrictedAction). length z.additions) h.is

  pub parts-fit : {c p e a : ℕ} → Sized c p e a x → PartsFit c p e a marks
  parts-fit s = record {
    long = h.marks_long;
    conditions = omega (arith, conditions-counted, s.conditions);
    mode_conditions = omega (arith, mode-conditions-counted, s.mode_conditions);
    mode_effects = omega (arith, mode-effects-counted, s.mode_effects);
    additions = omega (arith, additions-counted, s.additions);
  }

  -- they say what x is
  pub says-as : {y : RestrictedAction} → x ≡ y → Says y marks numbers
  says-as e = record { marks_long = h.marks_long; numbers_long = h.numbers_long; is = h.is ∙ e }

  -- a push, of rows that say x
  pub pushed : {B : Type 0} (f : RestrictedAction → B → RestrictedAction) {y : B} {marks' : List ℕ} {numbers' : List ℤ}
      → Says (f (row_is marks numbers) y) marks' numbers' → Says (f x y) marks' numbers'
  pushed f {y} w = record { marks_long = w.marks_long; numbers_long = w.numbers_long; is = w.is ∙ ap (λ (z : RestrictedAction). f z y) h.is }
