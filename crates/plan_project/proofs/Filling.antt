-- The table of source actions: every opening has its action, and no other number has one.
-- Assumes nothing.
use mathlib.Core.Path.{◌≡◌, refl, sym, ap, ◌∙◌, subst}
use Prim.Native.Nat.{ℕ, zero, suc, ◌+◌, ◌-◌, ◌≤◌, ◌<◌}
use native.Mathlib.Omega.{arith}
use mathlib.Core.Bool.{Bool, true, false, cond}
use mathlib.Core.Logic.{◌⊎◌, inl, inr, ⊎_elim}
use mathlib.Core.Option.{Option, none, some, none-ne-some}
use mathlib.Core.List.{List, [], ◌∷◌}
use lib.Dec.{ltb, eqb}
use lib.ListN.{length, take, get_or, get_elem?, set, length-set, replicate, length-replicate, get_or-replicate}
use lib.Seq.{get_or-take, length-take-le, get_or-set_same, get_or-set_other}
use lib.IntN.{ℤ}
use borrow.Author.Tests.{ltb-true, ltb-false, lt-ltb, le-ltb, eqb-true, eqb-false}
use Rattle.model.specs.Tasks.{SourceAction}
use Rattle.model.specs.Stages.{later, macro_size, opening, source_number}
use Rattle.model.proofs.Pairing.{some-injective}
use Rattle.model.proofs.MacroPlace.{opening-has-its-source}
use Rattle.plan_project.specs.Sources.{entry_at, named, Openable, Sourced}

pub there-below : {A : Type 0} (l : List A) (k : ℕ) → k < length l → (a : A) × (get_elem? l k ≡ some a)
there-below [] k h = absurd (omega arith)
there-below (a ∷ l) zero h = (a, refl)
there-below (a ∷ l) (suc k) h = there-below l k (omega arith)

-- an item of the front of some openings is theirs
pub in_front : (openings : List ℕ) (count k : ℕ) → count ≤ length openings → k < length (take count openings)
    → (k < count) × (get_or (take count openings) k 0 ≡ get_or openings k 0)
in_front openings count k all h =
    let within : k < count = omega (arith, length-take-le count openings all, h) in
    (within, get_or-take count openings k 0 within)

-- ---- an entry
module _ (numbers : List ℕ) (i k : ℕ) (e : i ≡ k) where
  pub entry_in : i < 3200 → get_or numbers i 0 ≡ entry_at numbers k
  entry_in h = rw (← e, lt-ltb i 3200 h)

  pub entry-out : 3200 ≤ i → 32 ≡ entry_at numbers k
  entry-out h = rw (← e, le-ltb i 3200 h)

-- ---- a source number and its opening
module _ (lower upper : ℕ → ℤ) where
  pub number-opens : (acts : List SourceAction) (k a : ℕ) → source_number lower upper acts k ≡ some a → (opening lower upper acts a ≡ k) × (a < length acts)
  number-opens [] k a e = absurd (none-ne-some a e)
  number-opens (b ∷ acts) zero a e =
      let z : a ≡ 0 = sym (some-injective e) in
      subst (λ (j : ℕ). (opening lower upper (b ∷ acts) j ≡ 0) × (j < suc (length acts))) (sym z) (refl, omega arith)
  number-opens (b ∷ acts) (suc k) a e = go (ltb (suc k) (macro_size lower upper b)) refl (source_number lower upper acts (suc k - macro_size lower upper b)) e (number-opens acts (suc k - macro_size lower upper b))
    where
      go : (c : Bool) → ltb (suc k) (macro_size lower upper b) ≡ c → (o : Option ℕ) → cond c none (later o) ≡ some a → ((j : ℕ) → o ≡ some j → (opening lower upper acts j ≡ suc k - macro_size lower upper b) × (j < length acts))
          → (opening lower upper (b ∷ acts) a ≡ suc k) × (a < suc (length acts))
      go true q o e ih = absurd (none-ne-some a e)
      go false q none e ih = absurd (none-ne-some a e)
      go false q (some j) e ih =
          let z : a ≡ suc j = sym (some-injective e) in
          let l : macro_size lower upper b ≤ suc k = ltb-false (suc k) (macro_size lower upper b) q in
          let h = ih j refl in
          let o : macro_size lower upper b + opening lower upper acts j ≡ suc k = omega (arith, h.0) in
          subst (λ (x : ℕ). (opening lower upper (b ∷ acts) x ≡ suc k) × (x < suc (length acts))) (sym z) (o, omega (arith, h.1))

  pub opening-has-its-number : (acts : List SourceAction) (a : ℕ) → a < length acts → source_number lower upper acts (opening lower upper acts a) ≡ some a
  opening-has-its-number acts a h = let (b, e) = there-below acts a h in opening-has-its-source lower upper acts a b e

-- ---- the loop that fills the table: the actions before k have their entries, and there are no others
abbrev Distinct : List ℕ → ℕ → Type 0
Distinct openings count = (a b : ℕ) → a < count → b < count → get_or openings a 0 ≡ get_or openings b 0 → a ≡ b

abbrev Entered : List ℕ → ℕ → ℕ → ℕ → Type 0
Entered openings k j s = (s ≡ 32) ⊎ ((s < k) × (get_or openings s 0 ≡ j))

pub record Filling (openings : List ℕ) (count : ℕ) (numbers : List ℕ) (k : ℕ) : Type 0 where
  pub bound : k ≤ count
  pub long : length numbers ≡ 3200
  pub only : (j : ℕ) → j < 3200 → Entered openings k j (get_or numbers j 0)
  pub named : Distinct openings count → (a : ℕ) → a < k → get_or numbers (get_or openings a 0) 0 ≡ a

pub filling-start : (openings : List ℕ) (count : ℕ) → Filling openings count (replicate 3200 32) 0
filling-start openings count = record {
  bound = omega arith;
  long = length-replicate {A = ℕ} 3200 32;
  only = λ j h. inl (get_or-replicate {A = ℕ} 3200 j 32 0 h);
  named = λ d a h. absurd (omega arith);
}

module _ {openings : List ℕ} {count : ℕ} {numbers : List ℕ} {k : ℕ} (o : Openable openings count) (g : Filling openings count numbers k) where
  one_more : k < count → Filling openings count (set numbers (get_or openings k 0) k) (k + 1)
  one_more h = record {
    bound = omega arith;
    long = length-set numbers (get_or openings k 0) k ∙ g.long;
    only = λ j l. store j l (eqb j (get_or openings k 0)) refl;
    named = λ d a l. keep d a l (ltb a k) refl;
  }
    where
      inside : get_or openings k 0 < length numbers
      inside = omega (arith, g.long, o.small k h)

      store : (j : ℕ) → j < 3200 → (b : Bool) → eqb j (get_or openings k 0) ≡ b → Entered openings (k + 1) j (get_or (set numbers (get_or openings k 0) k) j 0)
      store j l true e =
          let q : j ≡ get_or openings k 0 = eqb-true j (get_or openings k 0) e in
          let s : get_or (set numbers (get_or openings k 0) k) j 0 ≡ k = ap (λ (i : ℕ). get_or (set numbers (get_or openings k 0) k) i 0) q ∙ get_or-set_same numbers (get_or openings k 0) k 0 inside in
          subst (Entered openings (k + 1) j) (sym s) (inr (omega arith, sym q))
      store j l false e =
          let s : get_or (set numbers (get_or openings k 0) k) j 0 ≡ get_or numbers j 0 = get_or-set_other numbers (get_or openings k 0) j k 0 (λ q. eqb-false j (get_or openings k 0) e q) in
          subst (Entered openings (k + 1) j) (sym s) (⊎_elim (λ w. inl w) (λ w. inr (omega (arith, w.0), w.1)) (g.only j l))

      keep : Distinct openings count → (a : ℕ) → a < k + 1 → (b : Bool) → ltb a k ≡ b → get_or (set numbers (get_or openings k 0) k) (get_or openings a 0) 0 ≡ a
      keep d a l true e =
          let m : a < k = ltb-true a k e in
          get_or-set_other numbers (get_or openings k 0) (get_or openings a 0) k 0 (λ q. omega (arith, d a k (omega arith) h q)) ∙ g.named d a m
      keep d a l false e =
          let m : k ≤ a = ltb-false a k e in
          let q : a ≡ k = omega arith in
          rw q (get_or-set_same numbers (get_or openings k 0) k 0 inside)

  pub filling-next : {i : ℕ} → i ≡ get_or openings k 0 → k < count → Filling openings count (set numbers i k) (k + 1)
  filling-next e h = subst (λ (i : ℕ). Filling openings count (set numbers i k) (k + 1)) (sym e) (one_more h)

-- ---- the whole table, against the openings of actions
module _ {openings : List ℕ} {count : ℕ} {numbers : List ℕ} {k : ℕ} (o : Openable openings count) (g : Filling openings count numbers k) (h : count ≤ k)
    (lower upper : ℕ → ℤ) (acts : List SourceAction) (l : length acts ≡ count) (same : (k : ℕ) → k < count → get_or openings k 0 ≡ opening lower upper acts k) where
  own : (a : ℕ) → a < count → source_number lower upper acts (get_or openings a 0) ≡ some a
  own a m = ap (source_number lower upper acts) (same a m) ∙ opening-has-its-number lower upper acts a (omega arith)

  apart : Distinct openings count
  apart a b m n e = some-injective (sym (own a m) ∙ ap (source_number lower upper acts) e ∙ own b n)

  opened : (j a : ℕ) → source_number lower upper acts j ≡ some a → (a < count) × (get_or openings a 0 ≡ j)
  opened j a e =
      let w = number-opens lower upper acts j a e in
      let m : a < count = omega (arith, w.1) in
      (m, same a m ∙ w.0)

  entered : (j s : ℕ) → j < 3200 → get_or numbers j 0 ≡ s → (r : Option ℕ) → source_number lower upper acts j ≡ r → Entered openings k j s → named s ≡ r
  entered j s m e none q (inl w) = ap named w
  entered j s m e (some a) q (inl w) =
      let p = opened j a q in
      let z : get_or numbers j 0 ≡ a = ap (λ (i : ℕ). get_or numbers i 0) (sym p.1) ∙ g.named apart a (omega (arith, p.0)) in
      absurd (omega (arith, o.few, p.0))
  entered j s m e r q (inr w) =
      let b = g.bound in
      let c : s < count = omega (arith, w.0) in
      ap (λ (x : Bool). cond x (some s) none) (lt-ltb s 32 (omega (arith, o.few))) ∙ sym (own s c) ∙ ap (source_number lower upper acts) w.1 ∙ q

  past : (j : ℕ) → 3200 ≤ j → (r : Option ℕ) → source_number lower upper acts j ≡ r → none ≡ r
  past j m none q = refl
  past j m (some a) q = let p = opened j a q in absurd (omega (arith, o.small a p.0, p.1))

  told : (j : ℕ) (b : Bool) → ltb j 3200 ≡ b → named (cond b (get_or numbers j 0) 32) ≡ source_number lower upper acts j
  told j true e = entered j (get_or numbers j 0) (ltb-true j 3200 e) refl (source_number lower upper acts j) refl (g.only j (ltb-true j 3200 e))
  told j false e = past j (ltb-false j 3200 e) (source_number lower upper acts j) refl

pub filling-end : {openings : List ℕ} {count : ℕ} {numbers : List ℕ} {k : ℕ} → Openable openings count → Filling openings count numbers k → count ≤ k → Sourced openings count numbers
filling-end o g h = record { is = λ lower upper acts l same j. told o g h lower upper acts l same j (ltb j 3200) refl }
