-- The stages of several effects by number: effect by effect up to the Move into its hold, then two for each target.
-- Assumes nothing.
use mathlib.Core.Path.{◌≡◌, refl, sym, ap, ◌∙◌, subst}
use mathlib.Core.Option.{some, none-ne-some}
use mathlib.Core.List.{List, [], ◌∷◌}
use Prim.Native.Nat.{ℕ, zero, suc, ◌+◌, ◌*◌, ◌-◌, ◌≤◌, ◌<◌}
use native.Mathlib.Omega.{arith}
use native.Mathlib.Numerals.{add-one}
use lib.ListN.{length, get_or, get_elem?, drop}
use lib.Seq.{drop-length}
use lib.IntN.{ℤ}
use Rattle.model.specs.Tasks.{Effect}
use Rattle.model.specs.Steps.{target}
use Rattle.model.specs.Stages.{Stage, hold, move_to_hold, result_stages, result_in, next_additions, hold_stages, set_stages, unload_stages, stages_of}
use Rattle.file_actions.specs.declared.Effects.{Effects}
use Rattle.file_actions.specs.Views.{numeric_is, effects_is}
use Rattle.lowering_stages.specs.declared.Found.{Found}
use Rattle.lowering_stages.specs.Stages.{FoundAt, most_result_stages}
use Rattle.lowering_stages.proofs.Effects.{no_place, effects-length, effects-from, result-length, result-at, result-past}

-- ---- the stages of the first of effects, from hold k on, and behind them
module _ (k : ℕ) (e : Effect) (es : List Effect) (rest : List Stage) where
  pub held_at : (j : ℕ) → j < length (result_stages e []) → get_elem? (hold_stages k (e ∷ es) rest) j ≡ get_elem? (result_stages e []) j
  held_at j h = result-at e (move_to_hold k (result_in e) (next_additions es) ∷ hold_stages (suc k) es rest) j h

  pub moved_at : (j : ℕ) → j ≡ length (result_stages e []) → get_elem? (hold_stages k (e ∷ es) rest) j ≡ some (move_to_hold k (result_in e) (next_additions es))
  moved_at j h = result-past e (move_to_hold k (result_in e) (next_additions es) ∷ hold_stages (suc k) es rest) j 0 (omega arith)

  pub held-past : (j : ℕ) → length (result_stages e []) < j
      → get_elem? (hold_stages k (e ∷ es) rest) j ≡ get_elem? (hold_stages (suc k) es rest) (j - (length (result_stages e []) + 1))
  held-past j h =
      result-past e (move_to_hold k (result_in e) (next_additions es) ∷ hold_stages (suc k) es rest) j (suc (j - (length (result_stages e []) + 1))) (omega arith)

-- ---- Clear and Move of each target, from hold k on
pub unloaded-at : (lower upper : ℕ → ℤ) (k : ℕ) (es : List Effect) (j i q n : ℕ) (e : Effect) → j ≡ 2 * i + q → q < 2 → n ≡ k + i → get_elem? es i ≡ some e
    → get_elem? (unload_stages lower upper k es) j ≡ get_elem? (set_stages lower upper (hold n) (target e) []) q
unloaded-at lower upper k [] j i q n e h l m g = absurd (none-ne-some e g)
unloaded-at lower upper k (x ∷ es) j zero zero n e h l m g = let z : j ≡ zero = omega arith in let f : x ≡ e = cc in rw (z, f)
unloaded-at lower upper k (x ∷ es) j zero (suc zero) n e h l m g =
    let z : j ≡ suc zero = omega arith in
    let f : x ≡ e = cc in
    let w : k ≡ n = omega arith in
    rw (z, f, w)
unloaded-at lower upper k (x ∷ es) j zero (suc (suc q)) n e h l m g = absurd (omega arith)
unloaded-at lower upper k (x ∷ es) j (suc i) q n e h l m g =
    let z : j ≡ suc (suc (2 * i + q)) = omega arith in
    rw z (unloaded-at lower upper (suc k) es (2 * i + q) i q n e refl l (omega arith) g)

-- ---- how many there are
abbrev pub several_count : List Effect → ℕ
several_count [] = zero
several_count (e ∷ es) = length (result_stages e []) + 3 + several_count es

held-length : (k : ℕ) (es : List Effect) (rest : List Stage) → length (hold_stages k es rest) + 2 * length es ≡ several_count es + length rest
held-length k [] rest = omega arith
held-length k (e ∷ es) rest =
    let more = move_to_hold k (result_in e) (next_additions es) ∷ hold_stages (suc k) es rest in
    omega (arith, result-length e more, held-length (suc k) es rest)

unloaded-length : (lower upper : ℕ → ℤ) (k : ℕ) (es : List Effect) → length (unload_stages lower upper k es) ≡ 2 * length es
unloaded-length lower upper k [] = omega arith
unloaded-length lower upper k (e ∷ es) = omega (arith, unloaded-length lower upper (suc k) es)

pub several-length : (lower upper : ℕ → ℤ) (es : List Effect) → length (hold_stages 0 es (unload_stages lower upper 0 es)) ≡ several_count es
several-length lower upper es = omega (arith, held-length 0 es (unload_stages lower upper 0 es), unloaded-length lower upper 0 es)

-- the loop that counts them: those of the effects before e are counted
pub record Counting (es : List Effect) (e total : ℕ) : Type 0 where
  pub within : e ≤ length es
  pub rest : total + several_count (drop e es) ≡ several_count es
  pub most : total ≤ (most_result_stages + 3) * e

module _ {es : List Effect} where
  pub count-start : Counting es 0 0
  count-start = record { within = omega arith; rest = omega arith; most = omega arith }

  pub count_next : {e total : ℕ} → Counting es e total → (x : Effect) → e < length es → drop e es ≡ x ∷ drop (suc e) es → (n : ℕ) → n
      ≡ length (result_stages x [])
      → n ≤ most_result_stages → Counting es (e + 1) (total + (n + 3))
  count_next {e} {total} c x below is n size few = record {
    within = omega arith;
    rest = omega (arith, c.rest, ap several_count is, ap (λ (k : ℕ). several_count (drop k es)) (add-one e), size);
    most = omega (arith, c.most);
  }

  pub count-end : {e total : ℕ} → Counting es e total → length es ≤ e → total ≡ several_count es
  count-end {e} c h =
      let z : e ≡ length es = omega (arith, c.within) in
      omega (arith, c.rest, ap (λ (k : ℕ). several_count (drop k es)) z, ap several_count (drop-length es))

-- ---- by how many effects there are
module _ (lower upper : ℕ → ℤ) where
  pub no-stages : (es : List Effect) → length es ≡ 0 → stages_of lower upper es ≡ []
  no-stages [] h = refl
  no-stages (e ∷ es) h = absurd (omega arith)

  pub several-stages : (es : List Effect) → 2 ≤ length es → stages_of lower upper es ≡ hold_stages 0 es (unload_stages lower upper 0 es)
  several-stages [] h = absurd (omega arith)
  several-stages (e ∷ []) h = absurd (omega arith)
  several-stages (e ∷ f ∷ es) h = refl

only_one : (es : List Effect) (x : Effect) → es ≡ x ∷ drop 1 es → length es ≡ 1 → es ≡ x ∷ []
only_one [] x e h = absurd (omega arith)
only_one (y ∷ []) x e h = e
only_one (y ∷ z ∷ es) x e h = absurd (omega arith)

-- of effects that are read, one alone
pub one-alone : (r : Effects) → 0 < length r.places → r.count ≡ 1 → effects_is r ≡ numeric_is (get_or r.places 0 no_place) ∷ []
one-alone r l h = only_one (effects_is r) (numeric_is (get_or r.places 0 no_place)) (effects-from r 0 l (omega arith)) (omega (arith, effects-length r, l, h))

-- ---- the search for a stage: stage j of them all is stage `left` of those from effect e on
pub record Searching (es : List Effect) (j e left : ℕ) : Type 0 where
  pub within : e ≤ length es
  pub same : (rest : List Stage) → get_elem? (hold_stages 0 es rest) j ≡ get_elem? (hold_stages e (drop e es) rest) left

get_from : {A : Type 0} (xs : List A) (k : ℕ) → get_elem? (drop k xs) 0 ≡ get_elem? xs k
get_from xs zero = refl
get_from [] (suc k) = refl
get_from (x ∷ xs) (suc k) = get_from xs k

get-out : {A : Type 0} (xs : List A) (k : ℕ) (x : A) → length xs ≤ k → get_elem? xs k ≡ some x → ⊥
get-out [] k x h e = none-ne-some x e
get-out (y ∷ xs) zero x h e = omega arith
get-out (y ∷ xs) (suc k) x h e = get-out xs k x (omega arith) e

-- what is one element in two lists stands within both
same_in : {A : Type 0} (xs ys : List A) (j i : ℕ) → get_elem? xs j ≡ get_elem? ys i → j < length xs → i < length ys
same_in [] ys j i e h = absurd (omega arith)
same_in (x ∷ xs) [] zero i e h = absurd (none-ne-some x (sym e))
same_in (x ∷ xs) [] (suc j) i e h = same_in xs [] j i e (omega arith)
same_in (x ∷ xs) (y ∷ ys) j zero e h = omega arith
same_in (x ∷ xs) (y ∷ ys) j (suc i) e h = omega (arith, same_in (x ∷ xs) ys j i e h)

module _ {es : List Effect} {j : ℕ} where
  pub search-start : Searching es j 0 j
  search-start = record { within = omega arith; same = λ rest. refl }

  module _ {e left : ℕ} (s : Searching es j e left) where
    module _ (x : Effect) (below : e < length es) (is : drop e es ≡ x ∷ drop (suc e) es) (last : ℕ) (size : last ≡ length (result_stages x [])) where
      from-here : (rest : List Stage) → get_elem? (hold_stages 0 es rest) j ≡ get_elem? (hold_stages e (x ∷ drop (suc e) es) rest) left
      from-here rest = s.same rest ∙ ap (λ (fs : List Effect). get_elem? (hold_stages e fs rest) left) is

      pub search-found : left ≤ last → FoundAt es j (record { effect = e; stage = left })
      search-found h = record {
        within = omega arith;
        inside = λ y g.
            let f : some x ≡ some y = sym (ap (λ (fs : List Effect). get_elem? fs 0) is) ∙ get_from es e ∙ g in
            let z : x ≡ y = cc in
            subst (λ (w : Effect). left ≤ length (result_stages w [])) z (omega (arith, size));
        same = s.same;
      }

      pub search-next : last < left → Searching es j (e + 1) (left - (last + 1))
      search-next h = record {
        within = omega arith;
        same = λ rest.
            from-here rest
            ∙ held-past e x (drop (suc e) es) rest left (omega (arith, size))
            ∙ ap (λ (n : ℕ). get_elem? (hold_stages (suc e) (drop (suc e) es) rest) (left - (n + 1))) (sym size)
            ∙ ap (λ (n : ℕ). get_elem? (hold_stages n (drop n es) rest) (left - (last + 1))) (sym (add-one e));
      }

    pub search-end : length es ≤ e → FoundAt es j (record { effect = e; stage = left })
    search-end h = record { within = s.within; inside = λ y g. absurd (get-out es e y h g); same = s.same }

-- ---- a stage that is found
module _ (lower upper : ℕ → ℤ) {es : List Effect} {j : ℕ} {p : Found} (f : FoundAt es j p) (many : 2 ≤ length es) where
  found-same : get_elem? (stages_of lower upper es) j ≡ get_elem? (hold_stages p.effect (drop p.effect es) (unload_stages lower upper 0 es)) p.stage
  found-same = ap (λ (ds : List Stage). get_elem? ds j) (several-stages lower upper es many) ∙ f.same (unload_stages lower upper 0 es)

  -- among the stages up to the Moves into holds, or behind them
  pub found-held : (d : Stage) → get_elem? (stages_of lower upper es) j ≡ some d
      → get_elem? (hold_stages p.effect (drop p.effect es) (unload_stages lower upper 0 es)) p.stage ≡ some d
  found-held d e = sym found-same ∙ e

  module _ (past : length es ≤ p.effect) where
    found-past : get_elem? (stages_of lower upper es) j ≡ get_elem? (unload_stages lower upper 0 es) p.stage
    found-past =
        let e : p.effect ≡ length es = omega (arith, f.within) in
        let none : drop p.effect es ≡ [] = ap (λ (k : ℕ). drop k es) e ∙ drop-length es in
        found-same ∙ ap (λ (fs : List Effect). get_elem? (hold_stages p.effect fs (unload_stages lower upper 0 es)) p.stage) none

    pub found-unloaded : (d : Stage) → get_elem? (stages_of lower upper es) j ≡ some d → get_elem? (unload_stages lower upper 0 es) p.stage ≡ some d
    found-unloaded d e = sym found-past ∙ e

    pub found_below : j < length (stages_of lower upper es) → p.stage < 2 * length es
    found_below h = omega (arith, unloaded-length lower upper 0 es, same_in (stages_of lower upper es) (unload_stages lower upper 0 es) j p.stage found-past h)
