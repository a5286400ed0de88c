-- Tests that no run within the limit fails (bounds, sizes, the figure for restricted values) change no pair.
-- Assumes nothing.
use mathlib.Core.Path.{◌≡◌, refl, sym, ap, ◌∙◌, subst}
use Prim.Native.Nat.{ℕ, suc, ◌+◌, ◌≤◌}
use native.Mathlib.Omega.{arith}
use mathlib.Core.Bool.{Bool, true, cond}
use mathlib.Core.Option.{Option, none, some}
use mathlib.Core.List.{List, [], ◌∷◌, ◌++◌}
use lib.ListN.{length}
use Rattle.model.specs.Systems.{bind, or_empty, or_zero, run_plan, keep, expand_from, total_price, guarded}
use Rattle.model.specs.Walks.{Pairing}
use Rattle.model.proofs.Follow.{guard-run}

module _ {S : Type 0} (ok : S → Bool) (step : S → ℕ → Option S) (Inv : S → Type 0) (up : (x y : S) (k : ℕ) → Inv x → step x k ≡ some y → Inv y) (fine : (x : S) → Inv x → ok x ≡ true) where
  pub guard-step : (x : S) (k : ℕ) → Inv x → guarded ok step x k ≡ step x k
  guard-step x k v = go (step x k) refl
    where
      go : (o : Option S) → step x k ≡ o → bind o (λ y. cond (ok x) (cond (ok y) (some y) none) none) ≡ o
      go none e = refl
      go (some y) e = rw (fine x v, fine y (up x y k v e)) refl

  pub guard-any : (q : List ℕ) (x : S) → Inv x → run_plan (guarded ok step) q x ≡ run_plan step q x
  guard-any q x v = guard-run step ok (λ i. Inv) (length q) (λ i. up) (λ i y l. fine y) q 0 x (omega arith) v

  guard-expand : (opn : ℕ → ℕ) (tail : S → ℕ → List ℕ) (p : List ℕ) (x : S) → Inv x → expand_from (guarded ok step) opn tail p x ≡ expand_from step opn tail p x
  guard-expand opn tail [] x v = refl
  guard-expand opn tail (k ∷ p) x v = ap (λ (l : List ℕ). opn k ∷ (tail x k ++ l))
      (ap (λ (o : Option S). or_empty o (expand_from (guarded ok step) opn tail p)) (guard-step x k v) ∙ go (step x k) refl (guard-expand opn tail p))
    where
      go : (o : Option S) → step x k ≡ o → ((y : S) → Inv y → expand_from (guarded ok step) opn tail p y ≡ expand_from step opn tail p y) → or_empty o (expand_from (guarded ok step) opn tail p) ≡ or_empty o (expand_from step opn tail p)
      go none e ih = refl
      go (some y) e ih = ih y (up x y k v e)

  guard-total : (price : S → ℕ → ℕ) (p : List ℕ) (x : S) → Inv x → total_price (guarded ok step) price p x ≡ total_price step price p x
  guard-total price [] x v = refl
  guard-total price (k ∷ p) x v = ap (λ (n : ℕ). price x k + n)
      (ap (λ (o : Option S). or_zero o (total_price (guarded ok step) price p)) (guard-step x k v) ∙ go (step x k) refl (guard-total price p))
    where
      go : (o : Option S) → step x k ≡ o → ((y : S) → Inv y → total_price (guarded ok step) price p y ≡ total_price step price p y) → or_zero o (total_price (guarded ok step) price p) ≡ or_zero o (total_price step price p)
      go none e ih = refl
      go (some y) e ih = ih y (up x y k v e)

module _ {S X : Type 0} (step_s : S → ℕ → Option S) (step : X → ℕ → Option X) (emb : S → X) (opn : ℕ → ℕ) (own : ℕ → Option ℕ) (tail : S → ℕ → List ℕ) (price : S → ℕ → ℕ)
    (s₀ : S) (GoalS : S → Type 0) (GoalR : X → Type 0) (lim : ℕ)
    (ok_s : S → Bool) (InvS : S → Type 0) (up_s : (x y : S) (k : ℕ) → InvS x → step_s x k ≡ some y → InvS y) (fine_s : (x : S) → InvS x → ok_s x ≡ true) (v₀ : InvS s₀)
    (ok_r : X → Bool) (InvR : ℕ → X → Type 0) (up_r : (i : ℕ) (x y : X) (k : ℕ) → InvR i x → step x k ≡ some y → InvR (suc i) y)
    (fine_r : (i : ℕ) (x : X) → i ≤ lim → InvR i x → ok_r x ≡ true) (w₀ : InvR 0 (emb s₀)) where
  pub pairing-guarded : Pairing step_s step emb opn own tail price s₀ GoalS GoalR lim → Pairing (guarded ok_s step_s) (guarded ok_r step) emb opn own tail price s₀ GoalS GoalR lim
  pairing-guarded P = record {
    forth = λ p s' r g l.
        let l' : length (expand_from step_s opn tail p s₀) ≤ lim = subst (λ (u : List ℕ). length u ≤ lim) (ex p) l in
        let (a, b, c, d) = P.forth p s' (sym (guard-any ok_s step_s InvS up_s fine_s p s₀ v₀) ∙ r) g l' in (
          ap (λ (u : List ℕ). run_plan (guarded ok_r step) u (emb s₀)) (ex p) ∙ r_r (expand_from step_s opn tail p s₀) l' ∙ a,
          b,
          ap (keep own) (ex p) ∙ c,
          ap length (ex p) ∙ d ∙ sym (guard-total ok_s step_s InvS up_s fine_s price p s₀ v₀),
        );
    lengths = λ p s' r. ap length (ex p) ∙ P.lengths p s' (sym (guard-any ok_s step_s InvS up_s fine_s p s₀ v₀) ∙ r) ∙ sym (guard-total ok_s step_s InvS up_s fine_s price p s₀ v₀);
    back = λ q x r g l.
        let (s', a, b, c, d, e) = P.back q x (sym (r_r q l) ∙ r) g l in
        (s', guard-any ok_s step_s InvS up_s fine_s (keep own q) s₀ v₀ ∙ a, b, c, ex (keep own q) ∙ d, subst (λ (u : List ℕ). length u ≤ lim) (sym (ex (keep own q))) e);
  }
    where
      ex : (p : List ℕ) → expand_from (guarded ok_s step_s) opn tail p s₀ ≡ expand_from step_s opn tail p s₀
      ex p = guard-expand ok_s step_s InvS up_s fine_s opn tail p s₀ v₀

      r_r : (q : List ℕ) → length q ≤ lim → run_plan (guarded ok_r step) q (emb s₀) ≡ run_plan step q (emb s₀)
      r_r q l = guard-run step ok_r InvR lim up_r fine_r q 0 (emb s₀) (omega arith) w₀
