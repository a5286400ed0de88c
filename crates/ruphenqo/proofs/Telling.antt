-- What the answers of the entry points tell a caller in C, case by case.
-- Assumes nothing.
use mathlib.Core.Path.{◌≡◌, refl, sym, ap, ◌∙◌, subst}
use Prim.Native.Nat.{ℕ}
use Rattle.std.specs.Prelude.{Result, Ok, Err}
use Rattle.answers.specs.Answer.{Answer, given, refused}
use Rattle.answers.specs.Refusals.{answer_of, refusal_is}
use Rattle.answers.specs.declared.Refusal.{Refusal}
use Rattle.model.specs.Tasks.{State}
use Rattle.ruphenqo.specs.Told.{Told, code_of, place_of, end_over}

pub told-as : {A B : Type 0} {answer other : Answer A} {f : A → B} {old : B} {code place : ℕ} {after : B} → answer ≡ other → Told answer f old code place after → Told other f old code place after
told-as {f = f} {old = old} {code = code} {place = place} {after = after} e h = subst (λ a. Told a f old code place after) e h

pub told-refusal : {A B : Type 0} {answer : Answer A} (f : A → B) (old : B) {number place code : ℕ} → answer ≡ refused number place → code ≡ number → Told answer f old code place old
told-refusal f old e c = told-as (sym e) (record { returns = c; placed = refl; stored = refl })

pub told-result : {A B : Type 0} {answer : Answer A} (f : A → B) (old : B) {a : A} {after : B} → answer ≡ given a → after ≡ f a → Told answer f old 0 0 after
told-result f old e s = told-as (sym e) (record { returns = refl; placed = refl; stored = s })

-- an answer of which a caller is told the number and the place of a call's refusal, or of its result
module _ {A B T : Type 0} {answer : Answer A} {f : A → B} {old : B} {checked : Result T Refusal} {code place : ℕ} (c : code ≡ code_of (answer_of checked))
    (p : place ≡ place_of (answer_of checked)) where
  pub told-err : {r : Refusal} → checked ≡ Err r → answer ≡ refusal_is r → Told answer f old code place old
  told-err h e = told-as (sym e) (record { returns = c ∙ ap (λ z. code_of (answer_of z)) h; placed = p ∙ ap (λ z. place_of (answer_of z)) h; stored = refl })

  pub told-ok : {t : T} {a : A} {after : B} → checked ≡ Ok t → answer ≡ given a → after ≡ f a → Told answer f old code place after
  told-ok h e s = told-as (sym e) (record { returns = c ∙ ap (λ z. code_of (answer_of z)) h; placed = p ∙ ap (λ z. place_of (answer_of z)) h; stored = s })

-- ---- judging and stepping: the verdict and the state beside it are those of one answer

-- of a task of either kind: `judgement_of` puts the end state in front of `zeros`
module _ (zeros : State) (judgement_of : Answer (ℕ × State) → Answer ℕ × State)
    (on_result : (u : ℕ × State) → judgement_of (given u) ≡ (given u.0, (end_over zeros u).1))
    (on_refusal : (number place : ℕ) → judgement_of (refused number place) ≡ (refused number place, zeros))
    (a : Answer (ℕ × State)) (old : ℕ × State) (v : Answer ℕ) (x : State) (e : ◌≡◌ {A = Answer ℕ × State} (v, x) (judgement_of a)) where
  -- what is stored: the count and the state, or on a refusal what stood there
  abbrev pub stored_with : Answer ℕ → State → ℕ × State
  stored_with (given n) y = (n, y)
  stored_with (refused number place) y = old

  pub told-judged : {code place : ℕ} {after : ℕ × State} → code ≡ code_of v → place ≡ place_of v → after ≡ stored_with v x → Told a (end_over zeros) old code place after
  told-judged {code} {place} {after} c p s = go a e
    where
      go : (b : Answer (ℕ × State)) → ◌≡◌ {A = Answer ℕ × State} (v, x) (judgement_of b) → Told b (end_over zeros) old code place after
      go (given u) q =
          let h = q ∙ on_result u in
          record {
            returns = c ∙ ap (λ (z : Answer ℕ × State). code_of z.0) h;
            placed = p ∙ ap (λ (z : Answer ℕ × State). place_of z.0) h;
            stored = s ∙ ap (λ (z : Answer ℕ × State). stored_with z.0 z.1) h;
          }
      go (refused n k) q =
          let h = q ∙ on_refusal n k in
          record {
            returns = c ∙ ap (λ (z : Answer ℕ × State). code_of z.0) h;
            placed = p ∙ ap (λ (z : Answer ℕ × State). place_of z.0) h;
            stored = s ∙ ap (λ (z : Answer ℕ × State). stored_with z.0 z.1) h;
          }
