-- A plan is compared with what a source step becomes stage by stage: a run of one number, then the turn.
-- Assumes nothing.
use mathlib.Core.Path.{◌≡◌, sym, ap, ◌∙◌}
use Prim.Native.Nat.{ℕ, ◌+◌, ◌*◌, ◌≤◌, ◌<◌}
use native.Mathlib.Nat.{add-zero, zero-add}
use native.Mathlib.Omega.{arith}
use mathlib.Core.List.{List, [], ◌∷◌, ◌++◌}
use lib.ListN.{length, get_or, drop, take, replicate, length-append, length-replicate, length-drop}
use lib.Seq.{drop-drop}
use lib.IntN.{ℤ, pos}
use Rattle.model.specs.Expansion.{strokes}
use Rattle.model.specs.Following.{agreeing}
use Rattle.model.proofs.FollowingWalks.{agreeing-few, agreeing-there, agreeing-short, agreeing-past}
use Rattle.plan_strokes.specs.declared.Run.{Run}
use Rattle.plan_strokes.specs.Strokes.{stage_steps, macro_steps, step_numbers}
use Rattle.plan_strokes.specs.Made.{RunOf}
use Rattle.plan_strokes.proofs.Writing.{steps-more, steps-none}

-- ---- a stage
module _ {first : ℕ} {z : ℤ} {r : Run} (is : RunOf first z r) (xs : List ℕ) (at m : ℕ) (e : m ≡ agreeing (replicate r.count r.number) (drop at xs)) where
  abbrev run : List ℕ
  run = replicate r.count r.number

  as-run : agreeing (stage_steps first z) (drop at xs) ≡ agreeing (run ++ ((first + 2) ∷ [])) (drop at xs)
  as-run = ap (λ (l : List ℕ). agreeing (l ++ ((first + 2) ∷ [])) (drop at xs)) is.is

  pub run-there : at ≤ length xs → at + m ≤ length xs
  run-there h = omega (arith, e, agreeing-there run (drop at xs), length-drop at xs)

  pub run-differs : m < r.count → m ≡ agreeing (stage_steps first z) (drop at xs)
  run-differs h = e ∙ sym (as-run ∙ agreeing-short run ((first + 2) ∷ []) (drop at xs) (omega (arith, e, length-replicate r.count r.number)))

  pub run-whole : (k : ℕ) → r.count ≤ m → k ≡ agreeing ((first + 2) ∷ []) (drop (at + m) xs) → m + k ≡ agreeing (stage_steps first z) (drop at xs)
  run-whole k h f =
      let l : length run ≡ r.count = length-replicate r.count r.number in
      let n : agreeing run (drop at xs) ≡ length run = omega (arith, e, agreeing-few run (drop at xs)) in
      let q : length run ≡ m = sym (e ∙ n) in
      sym (as-run ∙ agreeing-past run ((first + 2) ∷ []) (drop at xs) n ∙ rw (q, drop-drop m at xs, ← f))

-- ---- the stages, one after another
pub record Matching (first : ℕ) (zs : List ℤ) (xs : List ℕ) (at matched number i : ℕ) : Type 0 where
  pub bound : i ≤ length zs
  pub numbered : number ≡ first + 3 * i
  pub there : at + matched ≤ length xs
  pub same : matched + agreeing (macro_steps number (drop i zs)) (drop (at + matched) xs) ≡ agreeing (macro_steps first zs) (drop at xs)

pub matching-start : (first : ℕ) (zs : List ℤ) (xs : List ℕ) (at : ℕ) → at ≤ length xs → Matching first zs xs at 0 first 0
matching-start first zs xs at l = record {
  bound = omega arith;
  numbered = omega arith;
  there = omega arith;
  same = zero-add _ ∙ ap (λ (k : ℕ). agreeing (macro_steps first zs) (drop k xs)) (add-zero at);
}

module _ {first : ℕ} {zs : List ℤ} {xs : List ℕ} {at matched number i : ℕ} (g : Matching first zs xs at matched number i) where
  pub matching-end : length zs ≤ i → matched ≡ agreeing (macro_steps first zs) (drop at xs)
  matching-end h =
      let n : agreeing (macro_steps number (drop i zs)) (drop (at + matched) xs) ≡ 0 =
      ap (λ (l : List ℕ). agreeing l (drop (at + matched) xs)) (steps-none zs number i h) in
      omega (arith, n, g.same)

  module _ (h : i < length zs) (r : Run) (is : RunOf number (get_or zs i (pos 0)) r) (k : ℕ)
      (e : k ≡ agreeing (stage_steps number (get_or zs i (pos 0))) (drop (at + matched) xs)) where
    abbrev stage : List ℕ
    stage = stage_steps number (get_or zs i (pos 0))

    abbrev rest : List ℕ
    rest = macro_steps (number + 3) (drop (i + 1) zs)

    long : length stage ≡ r.count + 1
    long = length-append (strokes number (get_or zs i (pos 0))) ((number + 2) ∷ []) ∙ omega (arith, ap length is.is, length-replicate r.count r.number)

    more : matched + agreeing (stage ++ rest) (drop (at + matched) xs) ≡ agreeing (macro_steps first zs) (drop at xs)
    more = ap (λ (l : List ℕ). matched + agreeing l (drop (at + matched) xs)) (sym (steps-more zs number i h)) ∙ g.same

    pub matched-there : at + (matched + k) ≤ length xs
    matched-there = omega (arith, e, agreeing-there stage (drop (at + matched) xs), length-drop (at + matched) xs, g.there)

    pub matching-stop : k ≤ r.count → matched + k ≡ agreeing (macro_steps first zs) (drop at xs)
    matching-stop l = ap (λ (n : ℕ). matched + n) (e ∙ sym (agreeing-short stage rest (drop (at + matched) xs) (omega (arith, e, long)))) ∙ more

    pub matching-next : r.count < k → Matching first zs xs at (matched + k) (number + 3) (i + 1)
    matching-next l =
        let n : agreeing stage (drop (at + matched) xs) ≡ length stage = omega (arith, e, long, agreeing-few stage (drop (at + matched) xs)) in
        let q : length stage ≡ k = sym (e ∙ n) in
        let f : at + matched + k ≡ at + (matched + k) = omega arith in
        let on : agreeing (stage ++ rest) (drop (at + matched) xs) ≡ k + agreeing rest (drop (at + (matched + k)) xs) =
        agreeing-past stage rest (drop (at + matched) xs) n ∙ rw (q, drop-drop k (at + matched) xs, f) in
        record { bound = omega arith; numbered = omega (arith, g.numbered); there = matched-there; same = omega (arith, on, more) }

-- ---- the opening, and the stages behind it
module _ (opening : ℕ) (zs : List ℤ) (xs : List ℕ) (at m : ℕ) (e : m ≡ agreeing (opening ∷ []) (drop at xs)) where
  pub not_opened_lem : m ≡ 0 → 0 ≡ agreeing (step_numbers opening zs) (drop at xs)
  not_opened_lem h = sym h ∙ e ∙ sym (agreeing-short (opening ∷ []) (macro_steps (opening + 1) zs) (drop at xs) (omega (arith, e)))

  pub opened-there : (m ≡ 0 → ⊥) → at + 1 ≤ length xs
  opened-there h = omega (arith, e, agreeing-there (opening ∷ []) (drop at xs), length-drop at xs)

  pub opened : (m ≡ 0 → ⊥) → (k : ℕ) → k ≡ agreeing (macro_steps (opening + 1) zs) (drop (at + 1) xs) → 1 + k ≡ agreeing (step_numbers opening zs) (drop at xs)
  opened h k f =
      let n : agreeing (opening ∷ []) (drop at xs) ≡ 1 = omega (arith, e, agreeing-few (opening ∷ []) (drop at xs)) in
      sym (agreeing-past (opening ∷ []) (macro_steps (opening + 1) zs) (drop at xs) n ∙ rw (drop-drop 1 at xs, ← f))
