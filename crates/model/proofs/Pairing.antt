-- Whole plans pair off wherever each source step becomes one forced walk from rest to rest. And the pairing in one line.
-- Assumes nothing.
use mathlib.Core.Path.{◌≡◌, refl, sym, ap, ap₂, ◌∙◌, subst}
use Prim.Native.Nat.{ℕ, zero, suc, ◌≤◌}
use native.Mathlib.Omega.{arith}
use mathlib.Core.Option
use mathlib.Core.Option.{Option, none, some, none-ne-some}
use mathlib.Core.List.{List, [], ◌∷◌, ◌++◌}
use lib.ListN.{length, length-append}
use Rattle.integers.specs.All.{All}
use Rattle.model.specs.Systems.{bind, run_plan, keep, expand_from, total_price}
use Rattle.model.specs.Walks.{Pairing, Forced, Stuck, Outcome, not_opened, hangs, completes, Lowers}

pub bind-gives : {A B : Type 0} (o : Option A) (f : A → Option B) (z : B) → bind o f ≡ some z → (y : A) × (o ≡ some y) × (f y ≡ some z)
bind-gives none f z e = absurd (none-ne-some z e)
bind-gives (some y) f z e = (y, refl, e)

pub none-not-some : {A : Type 0} {o : Option A} {a : A} → o ≡ none → o ≡ some a → ⊥
none-not-some {a = a} p q = none-ne-some a (sym p ∙ q)

pub some-unique : {A : Type 0} {o : Option A} {a b : A} → o ≡ some a → o ≡ some b → a ≡ b
some-unique {a = a} {b = b} p q = Option.some-injective a b (sym p ∙ q)

pub some-injective : {A : Type 0} {a b : A} → ◌≡◌ {A = Option A} (some a) (some b) → a ≡ b
some-injective {a = a} {b = b} e = Option.some-injective a b e

-- ---- walks
module _ {X : Type 0} (step : X → ℕ → Option X) (Rest : X → Type 0) where
  pub forced-app : (ks ls : List ℕ) (x y z : X) → Forced step Rest x ks y → Forced step Rest y ls z → Forced step Rest x (ks ++ ls) z
  forced-app [] ls x y z e f = rw e f
  forced-app (k ∷ ks) ls x y z (x', b, o, e, f) g = (x', b, o, e, forced-app ks ls x' y z f g)

  pub forced-run : (ks ls : List ℕ) (x z : X) → Forced step Rest x ks z → run_plan step (ks ++ ls) x ≡ run_plan step ls z
  forced-run [] ls x z e = ap (run_plan step ls) e
  forced-run (k ∷ ks) ls x z (y, b, o, e, f) = rw e (forced-run ks ls y z f)

  -- a run that comes to rest goes the whole of a forced walk first
  pub forced-split : (ks q : List ℕ) (x z w : X) → Forced step Rest x ks z → run_plan step q x ≡ some w → Rest w
      → (q' : List ℕ) × (q ≡ ks ++ q') × (run_plan step q' z ≡ some w)
  forced-split [] q x z w e r h = (q, refl, rw (← e) r)
  forced-split (k ∷ ks) [] x z w (y, b, o, e, f) r h = absurd (b (rw (some-injective r) h))
  forced-split (k ∷ ks) (j ∷ q) x z w (y, b, o, e, f) r h = let (y', e', r') = bind-gives (step x j) (run_plan step q) w r in go y' e' r' (λ r''. forced-split ks q y z w f r'' h)
    where
      go : (y' : X) → step x j ≡ some y' → run_plan step q y' ≡ some w → (run_plan step q y ≡ some w → (q' : List ℕ) × (q ≡ ks ++ q') × (run_plan step q' z ≡ some w))
          → (q' : List ℕ) × (j ∷ q ≡ k ∷ (ks ++ q')) × (run_plan step q' z ≡ some w)
      go y' e' r' ih =
          let jk : j ≡ k = o j y' e' in
          let yy : y' ≡ y = some-unique {o = step x k} (subst (λ (m : ℕ). step x m ≡ some y') jk e') e in
          let (q', eq, r'') = ih (subst (λ (u : X). run_plan step q u ≡ some w) yy r') in
          (q', (λ i. jk i ∷ eq i), r'')

  pub stuck-end : (q : List ℕ) (z w : X) → Stuck step Rest z → run_plan step q z ≡ some w → Rest w → ⊥
  stuck-end [] z w (b, n) r h = b (rw (some-injective r) h)
  stuck-end (j ∷ q) z w (b, n) r h = let (y, e, r') = bind-gives (step z j) (run_plan step q) w r in n j y e

pub keep-quiet : (own : ℕ → Option ℕ) (ks ls : List ℕ) → All (λ (k : ℕ). own k ≡ none) ks → keep own (ks ++ ls) ≡ keep own ls
keep-quiet own [] ls h = refl
keep-quiet own (k ∷ ks) ls (h, hs) = rw h (keep-quiet own ks ls hs)

-- ---- whole plans
module _ {S X : Type 0} (step_s : S → ℕ → Option S) (step : X → ℕ → Option X) (Rest : X → Type 0) (emb : S → X) (Good : S → Type 0)
    (opn : ℕ → ℕ) (own : ℕ → Option ℕ) (tail : S → ℕ → List ℕ) (price : S → ℕ → ℕ) (stuck : S → ℕ → List ℕ)
    (L : Lowers step_s step Rest emb Good opn own tail price stuck) where
  abbrev There : List ℕ → S → S → Type 0
  There p s s' = Good s' × (run_plan step (expand_from step_s opn tail p s) (emb s) ≡ some (emb s')) × (keep own (expand_from step_s opn tail p s) ≡ p)
      × (length (expand_from step_s opn tail p s) ≡ total_price step_s price p s)

  there : (p : List ℕ) (s s' : S) → Good s → run_plan step_s p s ≡ some s' → There p s s'
  there [] s s' g e = (subst Good (some-injective e) g, ap (λ (u : S). some (emb u)) (some-injective e), refl, refl)
  there (a ∷ p) s s' g e = let (t, e₁, e₂) = bind-gives (step_s s a) (run_plan step_s p) s' e in go t e₁ (L.outcomes s g a) (λ gt. there p t s' gt e₂)
    where
      go : (t : S) → step_s s a ≡ some t → Outcome step_s step Rest emb Good opn own tail price stuck s a → (Good t → There p t s') → There (a ∷ p) s s'
      go t e₁ (not_opened n _) k = absurd (none-not-some n e₁)
      go t e₁ (hangs y z n _ _ _) k = absurd (none-not-some n e₁)
      go t e₁ (completes t' y et gt eo f ow qu pr) k =
          let tt' : t' ≡ t = some-unique et e₁ in
          let (g', r, kp, ln) = k (subst Good tt' gt) in
          let ex : List ℕ = expand_from step_s opn tail p t in (
            g',
            rw (eo, e₁) (forced-run step Rest (tail s a) ex y (emb t') f ∙ ap (λ (u : S). run_plan step ex (emb u)) tt' ∙ r),
            rw (ow, e₁) (ap (λ (u : List ℕ). a ∷ u) (keep-quiet own (tail s a) ex qu ∙ kp)),
            rw (e₁, pr) (omega (arith, length-append (tail s a) ex, ln)),
          )

  abbrev Back : List ℕ → S → X → Type 0
  Back q s w = (s' : S) × (run_plan step_s (keep own q) s ≡ some s') × (w ≡ emb s') × (expand_from step_s opn tail (keep own q) s ≡ q)

  back : (n : ℕ) (q : List ℕ) → length q ≤ n → (s : S) (w : X) → Good s → run_plan step q (emb s) ≡ some w → Rest w → Back q s w
  back zero [] l s w g r h = (s, refl, sym (some-injective r), refl)
  back (suc n) [] l s w g r h = (s, refl, sym (some-injective r), refl)
  back zero (k ∷ q) l s w g r h = absurd (omega arith)
  back (suc n) (k ∷ q) l s w g r h =
      let (y, e, r') = bind-gives (step (emb s) k) (run_plan step q) w r in
      let (a, ka) = L.only_openings s k y e in
      go y e r' a ka (L.outcomes s g a) (λ q' l' s' g' r''. back n q' l' s' w g' r'' h)
    where
      at : (a : ℕ) → k ≡ opn a → (y : X) → step (emb s) k ≡ some y → step (emb s) (opn a) ≡ some y
      at a ka y e = subst (λ (m : ℕ). step (emb s) m ≡ some y) ka e

      along : (y y₁ : X) → y ≡ y₁ → run_plan step q y ≡ some w → run_plan step q y₁ ≡ some w
      along y y₁ yy r' = subst (λ (u : X). run_plan step q u ≡ some w) yy r'

      shorter : (ks q' : List ℕ) → q ≡ ks ++ q' → length q' ≤ n
      shorter ks q' eq = omega (arith, l, ap length eq, length-append ks q')

      go : (y : X) → step (emb s) k ≡ some y → run_plan step q y ≡ some w → (a : ℕ) → k ≡ opn a → Outcome step_s step Rest emb Good opn own tail price stuck s a
          → ((q' : List ℕ) → length q' ≤ n → (s' : S) → Good s' → run_plan step q' (emb s') ≡ some w → Back q' s' w) → Back (k ∷ q) s w
      go y e r' a ka (not_opened _ no') ih = absurd (no' y (at a ka y e))
      go y e r' a ka (hangs y₁ z _ e₁ f st) ih =
          let (q', eq, r'') = forced-split step Rest (stuck s a) q y₁ z w f (along y y₁ (some-unique (at a ka y e) e₁) r') h in
          absurd (stuck-end step Rest q' z w st r'' h)
      go y e r' a ka (completes s₁ y₁ es g₁ e₁ f ow qu pr) ih =
          let (q', eq, r'') = forced-split step Rest (tail s a) q y₁ (emb s₁) w f (along y y₁ (some-unique (at a ka y e) e₁) r') h in
          finish (tail s a) q' eq qu refl (ih q' (shorter (tail s a) q' eq) s₁ g₁ r'')
        where
          finish : (ks q' : List ℕ) → q ≡ ks ++ q' → All (λ (m : ℕ). own m ≡ none) ks → tail s a ≡ ks → Back q' s₁ w → Back (k ∷ q) s w
          finish ks q' eq qu' et (s', rs, we, ex) =
              let ok : own k ≡ some a = ap own ka ∙ ow in
              let K : keep own (k ∷ q) ≡ a ∷ keep own q' = rw ok (ap (λ (u : List ℕ). a ∷ u) (ap (keep own) eq ∙ keep-quiet own ks q' qu')) in
              (s', rw (K, es) rs, we, rw (K, es) (λ i. sym ka i ∷ (ap₂ (λ (u v : List ℕ). u ++ v) et ex ∙ sym eq) i))

  pub pairing : (s₀ : S) (GoalS : S → Type 0) (GoalR : X → Type 0) (lim : ℕ) → Good s₀ → ((s : S) → GoalS s → GoalR (emb s)) → ((s : S) → GoalR (emb s) → GoalS s)
      → ((x : X) → GoalR x → Rest x) → Pairing step_s step emb opn own tail price s₀ GoalS GoalR lim
  pairing s₀ GoalS GoalR lim g up down at_rest_lem = record {
    forth = λ p s' r h l. let (_, e, k, n) = there p s₀ s' g r in (e, up s' h, k, n);
    lengths = λ p s' r. let (_, e, k, n) = there p s₀ s' g r in n;
    back = λ q x r h l. let (s', e, w, k) = back (length q) q (omega arith) s₀ x g r (at_rest_lem x h) in
        (s', e, down s' (subst GoalR w h), w, k, subst (λ (u : List ℕ). length u ≤ lim) (sym k) l);
  }
