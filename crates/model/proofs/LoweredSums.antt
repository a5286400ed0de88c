-- "R keeps one variable per K, in file order": the sums that the lowered task measures are those of T's file. Stages and bounds have none.
-- Assumes nothing.
use mathlib.Core.Path.{◌≡◌, refl, ap, ap₂, ◌∙◌}
use Prim.Native.Nat.{ℕ, suc, ◌+◌}
use mathlib.Core.Bool.{Bool, true, false, cond}
use mathlib.Core.List.{List, [], ◌∷◌, ◌++◌, append-nil}
use lib.ListN.{length}
use lib.Signed.{lt_z}
use lib.IntN.{ℤ, pos, ◌-ℤ◌}
use Rattle.integers.specs.All.{All}
use Rattle.integers.specs.Relation.{at_most, at_least}
use Rattle.model.specs.Tasks.{NumericCondition, SourceAction, SourceTask, Effect, add_effect, linear_effect, quotient_effect, residue_effect}
use Rattle.model.specs.Steps.{lower_bounds, upper_bounds}
use Rattle.model.specs.Stages.{Name, source, helper_a, helper_b, NamedAction, Stage, when, stages_actions, drain_terms, move_to_hold, result_stages, result_in}
use Rattle.model.specs.Stages.{next_additions, hold_stages, set_stages, unload_stages, stages_of, added_bound, on_source_variables, lower_actions}
use Rattle.model.specs.Sums.{sums_in, sums_of_actions, sums_of, sums_of_source_actions, sums_of_source}
use Rattle.model.specs.Lowering.{numbered_conditions, numbered_all, lower_measuring}
use Rattle.model.proofs.SumsAccepted.{sums-append}
use Rattle.model.proofs.NumberedPairing.{num-lift}

numbered-app : (n : ℕ) (xs ys : List (NumericCondition Name)) → numbered_conditions n (xs ++ ys) ≡ numbered_conditions n xs ++ numbered_conditions n ys
numbered-app n [] ys = refl
numbered-app n (x ∷ xs) ys = ap (λ (z : List (NumericCondition ℕ)). numbered_conditions n (x ∷ []) ++ z) (numbered-app n xs ys)

-- a stage has no sum
abbrev NoSums : ℕ → Stage → Type 0
NoSums n d = sums_in (numbered_conditions n d.turn_conditions) ≡ []

terms-no-sums : (n : ℕ) (ts : List (ℕ × ℤ)) (ds : List Stage) → All (NoSums n) ds → All (NoSums n) (drain_terms ts ds)
terms-no-sums n [] ds h = h
terms-no-sums n (t ∷ ts) ds h = (refl, (refl, terms-no-sums n ts ds h))

module _ (n m : ℕ) (lo hi : ℕ → ℤ) where
  results-no-sums : (e : Effect) (ds : List Stage) → All (NoSums n) ds → All (NoSums n) (result_stages e ds)
  results-no-sums (add_effect t c) ds h = (refl, (refl, h))
  results-no-sums (linear_effect t w ts) ds h = terms-no-sums n ts ds h
  results-no-sums (quotient_effect t y c) ds h = (refl, (refl, (refl, (refl, h))))
  results-no-sums (residue_effect t y c) ds h = (refl, (refl, (refl, (refl, h))))

  holds-no-sums : (es : List Effect) (j : ℕ) (ds : List Stage) → All (NoSums n) ds → All (NoSums n) (hold_stages j es ds)
  holds-no-sums [] j ds h = h
  holds-no-sums (e ∷ es) j ds h =
      results-no-sums e (move_to_hold j (result_in e) (next_additions es) ∷ hold_stages (suc j) es ds) (refl, holds-no-sums es (suc j) ds h)

  unloads-no-sums : (es : List Effect) (j : ℕ) → All (NoSums n) (unload_stages lo hi j es)
  unloads-no-sums [] j = tt
  unloads-no-sums (e ∷ es) j = (refl, (refl, unloads-no-sums es (suc j)))

  stages-no-sums : (es : List Effect) → All (NoSums n) (stages_of lo hi es)
  stages-no-sums [] = tt
  stages-no-sums (add_effect t c ∷ []) = tt
  stages-no-sums (linear_effect t w ts ∷ []) = results-no-sums (linear_effect t w ts) (set_stages lo hi helper_a t []) (refl, (refl, tt))
  stages-no-sums (quotient_effect t y c ∷ []) = results-no-sums (quotient_effect t y c) (set_stages lo hi helper_b t []) (refl, (refl, tt))
  stages-no-sums (residue_effect t y c ∷ []) = results-no-sums (residue_effect t y c) (set_stages lo hi helper_a t []) (refl, (refl, tt))
  stages-no-sums (e ∷ f ∷ es) = holds-no-sums (e ∷ f ∷ es) 0 (unload_stages lo hi 0 (e ∷ f ∷ es)) (unloads-no-sums (e ∷ f ∷ es) 0)

  bound-no-sums : (es : List Effect) → sums_in (numbered_conditions n (added_bound lo hi es)) ≡ []
  bound-no-sums [] = refl
  bound-no-sums (add_effect t c ∷ []) = go (lt_z (pos 0) c)
    where
      go : (b : Bool) → sums_in (numbered_conditions n (cond b (when (source t) at_most (hi t -ℤ c)) (when (source t) at_least (lo t -ℤ c)) ∷ [])) ≡ []
      go true = refl
      go false = refl
  bound-no-sums (linear_effect t w ts ∷ []) = refl
  bound-no-sums (quotient_effect t y c ∷ []) = refl
  bound-no-sums (residue_effect t y c ∷ []) = refl
  bound-no-sums (e ∷ f ∷ es) = refl

  abbrev sums_of_rows : List NamedAction → List (List (ℕ × ℤ))
  sums_of_rows R = sums_of_actions (numbered_all n m R)

  over-stages : (ds : List Stage) (s : ℕ) (rest : List NamedAction) → All (NoSums n) ds → sums_of_rows (stages_actions s ds ++ rest) ≡ sums_of_rows rest
  over-stages [] s rest h = refl
  over-stages (d ∷ ds) s rest (h, hs) =
      ap (λ (z : List (List (ℕ × ℤ))). z ++ sums_of_rows (stages_actions (suc s) ds ++ rest)) h ∙ over-stages ds (suc s) rest hs

  opening-sums : (a : SourceAction)
      → sums_in (numbered_conditions n (on_source_variables a.conditions ++ added_bound lo hi a.effects)) ≡ sums_in a.conditions
  opening-sums a =
      ap sums_in (numbered-app n (on_source_variables a.conditions) bound
      ∙ ap (λ (z : List (NumericCondition ℕ)). z ++ numbered_conditions n bound) (num-lift n a.conditions))
      ∙ sums-append a.conditions (numbered_conditions n bound)
      ∙ ap (λ (z : List (List (ℕ × ℤ))). sums_in a.conditions ++ z) (bound-no-sums a.effects) ∙ append-nil (sums_in a.conditions)
    where
      bound : List (NumericCondition Name)
      bound = added_bound lo hi a.effects

  lowered-sums : (acts : List SourceAction) (s : ℕ) → sums_of_rows (lower_actions lo hi s acts) ≡ sums_of_source_actions acts
  lowered-sums [] s = refl
  lowered-sums (a ∷ acts) s = ap₂ (λ (x y : List (List (ℕ × ℤ))). x ++ y) (opening-sums a)
      (over-stages (stages_of lo hi a.effects) s (lower_actions lo hi (s + length (stages_of lo hi a.effects)) acts) (stages-no-sums a.effects)
      ∙ lowered-sums acts (s + length (stages_of lo hi a.effects)))

pub sums-in-file-order : (t : SourceTask) → sums_of (lower_measuring t) ≡ sums_of_source t
sums-in-file-order t = ap (λ (z : List (List (ℕ × ℤ))). z ++ sums_in t.goal_conditions)
    (lowered-sums (length t.variables) (length t.modes) (lower_bounds t) (upper_bounds t) t.actions 1)
