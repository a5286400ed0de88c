-- One source step: what it answers, from how far the plan agrees with its numbers.
-- Assumes nothing.
use mathlib.Core.Path.{◌≡◌, refl, sym, ap, ap₂, ◌∙◌, subst}
use Prim.Native.Nat.{ℕ, zero, suc, min, ◌+◌, ◌-◌, ◌≤◌, ◌<◌}
use native.Mathlib.Omega.{arith}
use native.Mathlib.Numerals.{add-one}
use mathlib.Core.Bool.{Bool, true, false, cond, false≢true}
use mathlib.Core.List.{List, [], ◌∷◌}
use lib.Dec.{eqb, ltb}
use lib.ListN.{length, get_or, take, drop, drop_of_length-le}
use lib.Seq.{drop-cons, drop-drop, take-take}
use lib.IntN.{ℤ}
use borrow.Author.Tests.{lt-ltb, le-ltb, ltb-true, ltb-false, eq-eqb, ne_eqb}
use Rattle.integers.specs.Parts.{EachWithin}
use Rattle.answers.specs.Answer.{Answer, refused}
use Rattle.model.specs.Following.{agreeing, strayed, past_macro, into_macro}
use Rattle.model.specs.Steps.{integer_at}
use Rattle.source_step.specs.Row.{effect_count_at, effects_at, first_outside, held, Stepped, Finished}
use Rattle.source_step.proofs.Results.{none-outside}
use Rattle.source_step.proofs.Taking.{not-held, behind-the-test}
use Rattle.plan_strokes.specs.Strokes.{STAGES, strokes_of, macro_steps, step_numbers, price_of_strokes}
use Rattle.plan_strokes.specs.Made.{Listed, MacroIs}
use Rattle.plan_strokes.proofs.Effects.{no-strokes}
use Rattle.plan_strokes.proofs.Ranges.{within-front}
use Rattle.std.specs.Prelude.{Result, Ok, Err}
use Rattle.answers.specs.Refusals.{refusal_is}
use Rattle.answers.specs.declared.Refusal.{Refusal}
use Rattle.answers.specs.declared.Reason.TheVariants.{DoesNotApply}
use Rattle.plan_project.specs.Following.{Answers, Further, strayed_at, past_at, into_at, strokes_walked, opens_at, numbers_at, dead_end_at, turned, Advanced}

-- how far a plan agrees with the first j of some numbers
agreeing-with-some : (j : ℕ) (ns q : List ℕ) → agreeing (take j ns) q ≡ min (agreeing ns q) j
agreeing-with-some zero [] q = omega arith
agreeing-with-some zero (n ∷ ns) [] = omega arith
agreeing-with-some zero (n ∷ ns) (k ∷ q) = omega arith
agreeing-with-some (suc j) [] q = omega arith
agreeing-with-some (suc j) (n ∷ ns) [] = omega arith
agreeing-with-some (suc j) (n ∷ ns) (k ∷ q) = go (eqb n k) (agreeing-with-some j ns q)
  where
    go : (b : Bool) → agreeing (take j ns) q ≡ min (agreeing ns q) j
        → cond b (suc (agreeing (take j ns) q)) zero ≡ min (cond b (suc (agreeing ns q)) zero) (suc j)
    go true ih = omega (arith, ih)
    go false ih = omega arith

-- ---- where a plan goes astray
module _ (total place : ℕ) (q : List ℕ) where
  pub ended : length q ≤ place → strayed_at total q place ≡ refused 13 place
  ended h = ap (strayed total place) (drop_of_length-le q h)

  module _ (k : ℕ) (e : k ≡ get_or q place 0) (h : place < length q) where
    stands : strayed_at total q place ≡ cond (ltb k total) (refused 12 place) (refused 11 place)
    stands = ap (strayed total place) (drop-cons q place 0 h) ∙ ap (λ (j : ℕ). cond (ltb j total) (refused 12 place) (refused 11 place)) (sym e)

    pub not-applying : k < total → strayed_at total q place ≡ refused 12 place
    not-applying l = stands ∙ rw (lt-ltb k total l) refl

    pub no_such : total ≤ k → strayed_at total q place ≡ refused 11 place
    no_such l = stands ∙ rw (le-ltb k total l) refl

-- ---- behind a step that applies
module _ (total at matched size : ℕ) (q : List ℕ) where
  pub whole : matched ≡ size → Answers (Ok (at + matched)) q (past_at total at matched size q)
  whole e onward = rw (eq-eqb matched size e) refl

  pub part : (matched ≡ size → ⊥) → (r : Refusal) → strayed_at total q (at + matched) ≡ refusal_is r
      → Answers (Err r) q (past_at total at matched size q)
  part e r s onward = rw (ne_eqb matched size e) (sym s)

-- ---- a step that is not taken, though its rows' test passes
module _ {n m : ℕ} {marks : List ℕ} {numbers values : List ℤ} {modes : List ℕ} {b : Bool} {values' : List ℤ} {modes' : List ℕ}
    (F : Finished n m marks numbers values modes b values' modes') where
  pub one_outside : b ≡ false → first_outside n marks numbers values < effect_count_at marks
  one_outside e = go (ltb (first_outside n marks numbers values) (effect_count_at marks)) refl
    where
      go : (c : Bool) → ltb (first_outside n marks numbers values) (effect_count_at marks) ≡ c → first_outside n marks numbers values < effect_count_at marks
      go true q = ltb-true (first_outside n marks numbers values) (effect_count_at marks) q
      go false q = absurd
          (false≢true (sym e ∙ F.is ∙ none-outside n marks numbers values (ltb-false (first_outside n marks numbers values) (effect_count_at marks) q)))

-- the first of listed strokes
module _ {zs times : List ℤ} {count : ℕ} (l : Listed zs times count) (k : ℕ) (h : k ≤ count) where
  pub front-is : take k times ≡ take k zs
  front-is = sym (take-take k count times h) ∙ ap (take k) l.is

  pub front-priced : (k ≤ STAGES) × (length times ≡ STAGES) × EachWithin 1000000000 (take k times)
  front-priced = (omega (arith, l.few), l.long, subst (EachWithin 1000000000) (sym front-is) (within-front k zs l.within))

-- ---- the step
pub one_number : (opening : ℕ) → step_numbers opening [] ≡ opening ∷ []
unfolding macro_steps
one_number opening = refl

module _ (n m : ℕ) (marks : List ℕ) (numbers sums values : List ℤ) (modes : List ℕ) (total i : ℕ) (q : List ℕ) (opening : ℕ) where
  abbrev ns : List ℕ
  ns = numbers_at n m marks numbers sums values modes opening

  abbrev zs : List ℤ
  zs = strokes_of (effects_at marks numbers) (integer_at (take n values))

  -- how many of the strokes are gone through where it hangs
  abbrev walked : ℕ
  walked = strokes_walked (length zs) (effect_count_at marks) (first_outside n marks numbers values)

  abbrev AdvancedTo : Result ℕ Refusal → List ℤ → List ℕ → Type 0
  AdvancedTo r values' modes' = Advanced n m marks numbers sums values modes total i q opening r values' modes'

  -- what a step that does not apply answers
  abbrev not_applying_here : Result ℕ Refusal
  not_applying_here = Err (record { reason = DoesNotApply; place = i })

  not_opened_lem : opens_at n m marks numbers sums values modes ≡ false
      → Answers not_applying_here q (turned n m marks numbers sums values modes total i q opening false)
  not_opened_lem e onward = rw e refl

  -- an action that stays one: its number is its opening, which stands there
  module _ (single : MacroIs marks false) {b : Bool} {values' : List ℤ} {modes' : List ℕ}
      (S : Stepped n m marks numbers sums values modes b values' modes') where
    pub one-taken : opening ≡ get_or q i 0 → i < length q → b ≡ true → AdvancedTo (Ok (i + 1)) values' modes'
    one-taken is h e = record { applied = b; stepped = S; answers = λ onward. rw e (sym (passed onward)); further = (e, omega arith, omega arith) }
      where
        here : drop i q ≡ opening ∷ drop (suc i) q
        here = drop-cons q i 0 h ∙ ap (λ (k : ℕ). k ∷ drop (suc i) q) (sym is)

        only : ns ≡ opening ∷ []
        only = ap (step_numbers opening) (no-strokes (effects_at marks numbers) (integer_at (take n values)) (single.is numbers)) ∙ one_number opening

        passed : (onward : ℕ → List ℕ → Answer (List ℕ)) → past_macro total ns i (drop i q) onward ≡ onward (i + 1) (drop (i + 1) q)
        passed onward =
            ap₂ (λ (l rest : List ℕ). past_macro total l i rest onward) only here
            ∙ rw (eq-eqb opening opening refl) (ap (λ (j : ℕ). onward (i + 1) (drop j q)) (sym (add-one i)))

    pub one-refused : b ≡ false → AdvancedTo not_applying_here values' modes'
    one-refused e = record { applied = b; stepped = S; answers = rw e (not_opened_lem (rw (single.is numbers) refl)); further = tt }

  -- an action that becomes a macro: its rows' test fails
  module _ (several : MacroIs marks true) where
    opens-so : opens_at n m marks numbers sums values modes ≡ held n m marks numbers sums values modes
    opens-so = rw (several.is numbers) refl

    pub macro-refused : held n m marks numbers sums values modes ≡ false → AdvancedTo not_applying_here values modes
    macro-refused e = record { applied = false; stepped = not-held sums e; answers = not_opened_lem (opens-so ∙ e); further = tt }

    -- or it passes, and its numbers were compared with the plan
    module _ (h : held n m marks numbers sums values modes ≡ true) {matched : ℕ}
        (is : matched ≡ agreeing ns (drop i q)) {b : Bool} {values' : List ℤ} {modes' : List ℕ}
        (F : Finished n m marks numbers values modes b values' modes') where
      pub macro-past : {r : Result ℕ Refusal} {size : ℕ} → b ≡ true → size ≡ length ns → Answers r q (past_at total i matched size q) → Further true i q r
          → AdvancedTo r values' modes'
      macro-past {r} {size} e sized a f =
          record {
            applied = b;
            stepped = behind-the-test sums h F;
            answers = λ onward. a onward ∙ rw e (sym (same onward));
            further = subst (λ (d : Bool). Further d i q r) (sym e) f;
          }
        where
          past : (ℕ → List ℕ → Answer (List ℕ)) → ℕ → ℕ → List ℕ → Answer (List ℕ)
          past onward d l rest = cond (eqb d l) (onward (i + d) rest) (strayed total (i + d) rest)

          same : (onward : ℕ → List ℕ → Answer (List ℕ)) → past_macro total ns i (drop i q) onward ≡ past_at total i matched size q onward
          same onward =
              ap (past onward (agreeing ns (drop i q)) (length ns)) (drop-drop (agreeing ns (drop i q)) i q)
              ∙ ap₂ (λ (d l : ℕ). past onward d l (drop (i + d) q)) (sym is) (sym sized)

      pub macro-into : {r : Result ℕ Refusal} {size : ℕ} → b ≡ false → size ≡ price_of_strokes (take walked zs) → Answers r q (λ onward. into_at total i matched size q)
          → Further false i q r → AdvancedTo r values' modes'
      macro-into {r} {size} e sized a f =
          record {
            applied = b;
            stepped = behind-the-test sums h F;
            answers = λ onward. a onward ∙ rw (e, opens-so, h) (sym same);
            further = subst (λ (d : Bool). Further d i q r) (sym e) f;
          }
        where
          into : ℕ → List ℕ → Answer (List ℕ)
          into d rest = strayed total (i + d) rest

          size₀ : ℕ
          size₀ = price_of_strokes (take walked zs)

          same : into_macro total (dead_end_at n m marks numbers sums values modes opening) i (drop i q) ≡ into_at total i matched size q
          same =
              ap (λ (d : ℕ). into d (drop d (drop i q))) (agreeing-with-some (size₀ - 1) ns (drop i q))
              ∙ ap (into (min (agreeing ns (drop i q)) (size₀ - 1))) (drop-drop (min (agreeing ns (drop i q)) (size₀ - 1)) i q)
              ∙ ap₂ (λ (d l : ℕ). into (min d (l - 1)) (drop (i + min d (l - 1)) q)) (sym is) (sym sized)
