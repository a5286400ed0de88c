-- The loop over the stages of an action: what is left to write at each is its three actions, and what is left behind it.
-- Assumes nothing.
use mathlib.Core.Path.{◌≡◌, refl, sym, ap, ap₂, ◌∙◌, subst}
use mathlib.Core.Option.{some, none-ne-some}
use mathlib.Core.List.{List, [], ◌∷◌, ◌++◌, append-nil, map, map-append, flat_map}
use Prim.Native.Nat.{ℕ, zero, suc, ◌+◌, ◌-◌, ◌≤◌, ◌<◌}
use native.Mathlib.Omega.{arith}
use native.Mathlib.Numerals.{add-one}
use lib.ListN.{length, drop, get_elem?}
use lib.Seq.{drop-length}
use lib.IntN.{ℤ}
use Rattle.lists.specs.Writing.{Room, Wrote}
use Rattle.lists.proofs.Each.{flat_map-nil, flat_map-append}
use Rattle.lists.proofs.Writing.{Left, start, step, done, recast, room}
use Rattle.model.specs.Tasks.{RestrictedAction}
use Rattle.model.specs.Stages.{NamedAction, Stage, stage_actions, first_stage, stages_actions}
use Rattle.model.specs.Lowering.{numbered_all}
use Rattle.lowering_rows.specs.Bytes.{restricted_action_bytes, with_kept}
use Rattle.lowering_rows.specs.Macros.{Fit, AllFit, kept_stages, stages_bytes}
use Rattle.lowering_stages.specs.Shapes.{next_number}
use Rattle.lowering_stages.proofs.Effects.{first_next}
use Rattle.lowering_rows.proofs.Keeping.{all-parts}

-- ---- lists
pub numbered-append : (n m : ℕ) (xs ys : List NamedAction) → numbered_all n m (xs ++ ys) ≡ numbered_all n m xs ++ numbered_all n m ys
numbered-append n m [] ys = refl
numbered-append n m (x ∷ xs) ys = rw (numbered-append n m xs ys)

pub drop_get : {A : Type 0} (xs : List A) (k : ℕ) (x : A) → get_elem? xs k ≡ some x → drop k xs ≡ x ∷ drop (suc k) xs
drop_get [] k x e = absurd (none-ne-some x e)
drop_get (y ∷ xs) zero x e = let z : y ≡ x = cc in rw z
drop_get (y ∷ xs) (suc k) x e = drop_get xs k x e

left_behind : {A : Type 0} (xs : List A) (k : ℕ) → length (drop (suc k) xs) ≡ length xs - (k + 1)
left_behind [] k = omega arith
left_behind (x ∷ xs) zero = omega arith
left_behind (x ∷ xs) (suc k) = left_behind xs k ∙ omega arith

-- the three actions of a stage
abbrev pub kept_stage : ℕ → List (List (ℕ × ℤ)) → ℕ → ℕ → ℕ → Stage → ℕ → List RestrictedAction
kept_stage first sums n m s d next = map (with_kept first sums) (numbered_all n m (stage_actions s d next))

-- into `old` from index `at` on: the output is `out`, the next byte goes to `place`, and the next stage is stage j, with this number
pub record Staging (first : ℕ) (sums : List (List (ℕ × ℤ))) (n m from : ℕ) (ds : List Stage) (old : List ℕ) (at : ℕ)
    (out : List ℕ) (place number j : ℕ) : Type 0 where
  pub bound : j ≤ length ds
  pub number_is : number ≡ from + j
  pub fits : AllFit (kept_stages first sums n m number (drop j ds))
  pub left : Left old at (stages_bytes first sums n m from ds) out place (stages_bytes first sums n m number (drop j ds) ∷ [])

module _ {first : ℕ} {sums : List (List (ℕ × ℤ))} {n m from : ℕ} {ds : List Stage} {old : List ℕ} {at : ℕ} where
  pub staging-start : AllFit (kept_stages first sums n m from ds) → Staging first sums n m from ds old at old at from 0
  staging-start f =
      record { bound = omega arith; number_is = omega arith; fits = f; left = start old at (sym (append-nil (stages_bytes first sums n m from ds))) }

  module _ {out : List ℕ} {place number j : ℕ} (g : Staging first sums n m from ds old at out place number j) where
    module _ (d : Stage) (is : get_elem? ds j ≡ some d) (below : j < length ds) (next : ℕ) (on : next ≡ next_number number (length ds - (j + 1))) where
      abbrev three : List RestrictedAction
      three = kept_stage first sums n m number d next

      abbrev behind : List RestrictedAction
      behind = kept_stages first sums n m (number + 1) (drop (j + 1) ds)

      rows_split : kept_stages first sums n m number (drop j ds) ≡ three ++ behind
      rows_split =
          let more = drop (suc j) ds in
          let e : first_stage (suc number) more ≡ next = first_next number more ∙ ap (next_number number) (left_behind ds j) ∙ sym on in
          let opened = stage_actions number d (first_stage (suc number) more) in
          ap (kept_stages first sums n m number) (drop_get ds j d is)
          ∙ ap (map (with_kept first sums)) (numbered-append n m opened (stages_actions (suc number) more))
          ∙ map-append (with_kept first sums) (numbered_all n m opened) (numbered_all n m (stages_actions (suc number) more))
          ∙ ap (λ (z : ℕ). kept_stage first sums n m number d z ++ kept_stages first sums n m (suc number) more) e
          ∙ ap₂ (λ (k i : ℕ). three ++ kept_stages first sums n m k (drop i ds)) (sym (add-one number)) (sym (add-one j))

      parted : Left old at (stages_bytes first sums n m from ds) out place (flat_map restricted_action_bytes three ∷ flat_map restricted_action_bytes behind ∷ [])
      parted =
          recast
          (append-nil (stages_bytes first sums n m number (drop j ds)) ∙ ap (flat_map restricted_action_bytes) rows_split
          ∙ flat_map-append restricted_action_bytes three behind
          ∙ ap (λ (z : List ℕ). flat_map restricted_action_bytes three ++ z) (sym (append-nil (flat_map restricted_action_bytes behind))))
          g.left

      both-fit : AllFit three × AllFit behind
      both-fit = all-parts Fit three behind (subst AllFit rows_split g.fits)

      pub staging-fit : AllFit three
      staging-fit = both-fit.0

      pub staging-room : Room old at (stages_bytes first sums n m from ds) → Room out place (flat_map restricted_action_bytes three)
      staging-room r = room r parted

      pub staging-next : {after : List ℕ} {end : ℕ} → Wrote out place (flat_map restricted_action_bytes three) after end
          → Staging first sums n m from ds old at after end (number + 1) (j + 1)
      staging-next w = record { bound = omega arith; number_is = omega (arith, g.number_is); fits = both-fit.1; left = step parted w }

    pub staging-end : length ds ≤ j → Wrote old at (stages_bytes first sums n m from ds) out place
    staging-end l =
        let e : j ≡ length ds = omega (arith, g.bound) in
        let none : drop j ds ≡ [] = ap (λ (z : ℕ). drop z ds) e ∙ drop-length ds in
        done (recast
        (append-nil (stages_bytes first sums n m number (drop j ds)) ∙ ap (stages_bytes first sums n m number) none ∙ flat_map-nil restricted_action_bytes)
        g.left)
