-- What follows an opening is forced: at each state with control not 0, reached or not, at most one action of R applies. An action that needs
-- such a control is of the one stage with that number, and what a stage's three actions ask of its counter excludes each other.
-- Assumes nothing.
use mathlib.Core.Path.{◌≡◌, refl, sym, ap, ◌∙◌, subst}
use mathlib.Core.Logic.{◌≢◌, ◌⊎◌, inl, inr}
use Prim.Native.Nat.{ℕ, zero, suc, ◌+◌, ◌≤◌, ◌<◌}
use native.Mathlib.Omega.{arith}
use native.Mathlib.Decide.{ℕ_discrete, dec_lt}
use mathlib.Core.Bool.{◌&&◌, Bool, true, cond}
use mathlib.Core.Option.{none, some, none-ne-some}
use mathlib.Core.List.{List, [], ◌∷◌, ◌++◌}
use lib.ListN.{length, get_elem?}
use lib.Dec.{T, eqb, eqb→eq}
use lib.IntN.{ℤ, pos, negsuc}
use lib.Signed.{le_z}
use Rattle.integers.specs.All.{All}
use Rattle.integers.proofs.Parts.{ints}
use Rattle.model.specs.Tasks.{SourceAction, RestrictedAction, SourceTask, State}
use Rattle.model.specs.Steps.{integer_at, natural_at, modes_hold, conditions_hold, applies_restricted, apply_restricted, try_restricted, restricted_step_of, sound_restricted, sizes_of, lower_bounds, upper_bounds, step_restricted}
use Rattle.model.specs.Stages.{NamedAction, Stage, left_over, falling, rising, turn, stage_actions, first_stage, stages_actions, stages_of, opening_action, lower_actions}
use Rattle.model.specs.FourRelations.{in_four}
use Rattle.model.specs.Sums.{sums_in, sums_of, on_kept, kept, keeping_all}
use Rattle.model.specs.Lowering.{number_of_name, numbered_conditions, numbered, numbered_all, lower_measuring, lower_task}
use Rattle.model.proofs.FourRelations.{four-hold}
use Rattle.model.proofs.Pairing.{bind-gives, some-injective}
use Rattle.model.proofs.StageWalk.{and_parts, provided-gives, all_app, all_map, all-get, stages-from, stages-under}
use Rattle.model.proofs.MacroPlace.{lower-past}

-- ---- at most one element of a list has P
abbrev AtMostOne : {A : Type 0} → (A → Type 0) → List A → Type 0
AtMostOne P [] = Unit {0}
AtMostOne P (r ∷ l) = (P r → All (λ u. ¬ (P u)) l) × AtMostOne P l

module _ {A : Type 0} (P : A → Type 0) where
  abbrev NoneHas : List A → Type 0
  NoneHas l = All (λ (u : A). ¬ (P u)) l

  one-of-both : (l m : List A) → AtMostOne P l → AtMostOne P m → NoneHas l ⊎ NoneHas m → AtMostOne P (l ++ m)
  one-of-both [] m a b c = b
  one-of-both (r ∷ l) m (h, hs) b (inl (o, os)) = ((λ t. absurd (o t)), one-of-both l m hs b (inl os))
  one-of-both (r ∷ l) m (h, hs) b (inr o) = ((λ t. all_app (λ (u : A). ¬ (P u)) l m (h t) o), one-of-both l m hs b (inr o))

  one_place : (l : List A) → AtMostOne P l → (j k : ℕ) (u w : A) → get_elem? l j ≡ some u → get_elem? l k ≡ some w → P u → P w → j ≡ k
  one_place [] h j k u w e f a b = absurd (none-ne-some u e)
  one_place (r ∷ l) (h, hs) zero zero u w e f a b = refl
  one_place (r ∷ l) (h, hs) zero (suc k) u w e f a b = absurd (all-get (λ (v : A). ¬ (P v)) l k w (h (subst P (sym (some-injective e)) a)) f b)
  one_place (r ∷ l) (h, hs) (suc j) zero u w e f a b = absurd (all-get (λ (v : A). ¬ (P v)) l j u (h (subst P (sym (some-injective f)) b)) e a)
  one_place (r ∷ l) (h, hs) (suc j) (suc k) u w e f a b = ap suc (one_place l hs j k u w e f a b)

-- ---- in state x, an action of R, whose sums, all of them, are kept from number `first` on; its own begin at some number
module _ (n m first : ℕ) (sums : List (List (ℕ × ℤ))) (x : State) where
  abbrev pub Applies : NamedAction → Type 0
  Applies r = (j : ℕ) × T (applies_restricted (in_four (kept first sums j (numbered n m r))) x)

  abbrev control : ℕ
  control = natural_at x.modes m

  last-holds : (ps : List (ℕ × ℕ)) (c : ℕ) → T (modes_hold (ps ++ ((m, c) ∷ [])) (natural_at x.modes)) → control ≡ c
  last-holds [] c t = eqb→eq control c (and_parts (eqb control c) true t).0
  last-holds (p ∷ ps) c t = last-holds ps c (and_parts (eqb (natural_at x.modes p.0) p.1) (modes_hold (ps ++ ((m, c) ∷ [])) (natural_at x.modes)) t).1

  asked : (r : NamedAction) (t : Applies r)
      → T (modes_hold (numbered n m r).mode_conditions (natural_at x.modes))
      × T (conditions_hold (on_kept t.0 (numbered_conditions n r.conditions)) (integer_at x.values))
  asked r (j, t) =
      let own = on_kept j (numbered_conditions n r.conditions) in
      let (a, b) = and_parts (modes_hold (numbered n m r).mode_conditions (natural_at x.modes))
      (conditions_hold (in_four (kept first sums j (numbered n m r))).conditions (integer_at x.values)) t in
      (a, subst T (four-hold own (integer_at x.values)) b)

  pub applies-at-its-control : (r : NamedAction) → Applies r → control ≡ r.control
  applies-at-its-control r t = last-holds r.mode_conditions r.control (asked r t).0

  -- the three actions of a stage ask the counter for what excludes each other
  module _ (s next : ℕ) (d : Stage) where
    abbrev z : ℤ
    z = integer_at x.values (number_of_name n d.counter)

    falls : Applies (falling s d) → T (le_z (pos (suc (left_over d.kind))) z)
    falls t = (and_parts (le_z (pos (suc (left_over d.kind))) z) true (asked (falling s d) t).1).0

    rises : Applies (rising s d) → T (le_z z (negsuc 0))
    rises t = (and_parts (le_z z (negsuc 0)) true (asked (rising s d) t).1).0

    turns : Applies (turn s d next) → T (le_z (pos 0) z) × T (le_z z (pos (left_over d.kind)))
    turns t =
        let more : Bool = conditions_hold (on_kept (t.0 + 0 + 0) (numbered_conditions n d.turn_conditions)) (integer_at x.values) in
        let (a, b) = and_parts (le_z (pos 0) z) (le_z z (pos (left_over d.kind)) && more) (asked (turn s d next) t).1 in
        (a, (and_parts (le_z z (pos (left_over d.kind))) more b).0)

    one-of-a-stage : AtMostOne Applies (stage_actions s d next)
    one-of-a-stage = (
      (λ f. ((λ r. omega (ints, falls f, rises r)), ((λ t. omega (ints, falls f, (turns t).1)), tt))),
      ((λ r. ((λ t. omega (ints, rises r, (turns t).0)), tt)), ((λ t. tt), tt)),
    )

  -- stages numbered from s: those of other numbers need another control
  one-of-stages : (s : ℕ) (ds : List Stage) → AtMostOne Applies (stages_actions s ds)
  one-of-stages s [] = tt
  one-of-stages s (d ∷ ds) = one-of-both Applies (stage_actions s d (first_stage (suc s) ds)) (stages_actions (suc s) ds) (one-of-a-stage s (first_stage (suc s) ds) d) (one-of-stages (suc s) ds) (here (ℕ_discrete control s))
    where
      here : Dec (control ≡ s) → NoneHas Applies (stage_actions s d (first_stage (suc s) ds)) ⊎ NoneHas Applies (stages_actions (suc s) ds)
      here (yes e) = inr (all_map (λ (r : NamedAction). suc s ≤ r.control) (λ (r : NamedAction). ¬ (Applies r)) (λ r h t. omega (arith, applies-at-its-control r t)) (stages_actions (suc s) ds) (stages-from (suc s) ds))
      here (no e) = inl (
        (λ t. e (applies-at-its-control (falling s d) t)),
        ((λ t. e (applies-at-its-control (rising s d) t)), ((λ t. e (applies-at-its-control (turn s d (first_stage (suc s) ds)) t)), tt)),
      )

  -- the whole task: what other source actions become needs another control, or rest
  one_of_all : (lower upper : ℕ → ℤ) (s : ℕ) (acts : List SourceAction) → control ≢ 0 → AtMostOne Applies (lower_actions lower upper s acts)
  one_of_all lower upper s [] busy = tt
  one_of_all lower upper s (a ∷ acts) busy =
      ((λ t. absurd (busy (applies-at-its-control (opening_action lower upper s a) t))), one-of-both Applies (stages_actions s ds) rest (one-of-stages s ds) (one_of_all lower upper (s + length ds) acts busy) (here (dec_lt control (s + length ds))))
    where
      ds : List Stage
      ds = stages_of lower upper a.effects

      rest : List NamedAction
      rest = lower_actions lower upper (s + length ds) acts

      here : Dec (control < s + length ds) → NoneHas Applies (stages_actions s ds) ⊎ NoneHas Applies rest
      here (yes l) = inr (all_map (λ (r : NamedAction). (r.control ≡ 0) ⊎ (s + length ds ≤ r.control)) (λ (r : NamedAction). ¬ (Applies r)) past rest (lower-past lower upper (s + length ds) acts))
        where
          past : (r : NamedAction) → (r.control ≡ 0) ⊎ (s + length ds ≤ r.control) → ¬ (Applies r)
          past r (inl e) t = busy (applies-at-its-control r t ∙ e)
          past r (inr h) t = omega (arith, applies-at-its-control r t)
      here (no l) = inl (all_map (λ (r : NamedAction). r.control < s + length ds) (λ (r : NamedAction). ¬ (Applies r)) (λ r h t. l (subst (λ (c : ℕ). c < s + length ds) (sym (applies-at-its-control r t)) h))
          (stages_actions s ds) (stages-under s ds))

-- ---- of a whole task
numbered-at : (n m : ℕ) (l : List NamedAction) (k : ℕ) (a : RestrictedAction) → get_elem? (numbered_all n m l) k ≡ some a → (r : NamedAction) × (get_elem? l k ≡ some r) × (numbered n m r ≡ a)
numbered-at n m [] k a e = absurd (none-ne-some a e)
numbered-at n m (r ∷ l) zero a e = (r, refl, some-injective e)
numbered-at n m (r ∷ l) (suc k) a e = numbered-at n m l k a e

kept_at : (first : ℕ) (sums : List (List (ℕ × ℤ))) (acts : List RestrictedAction) (j k : ℕ) (b : RestrictedAction)
    → get_elem? (keeping_all first sums j acts) k ≡ some b → (a : RestrictedAction) × (i : ℕ) × (get_elem? acts k ≡ some a) × (in_four (kept first sums i a) ≡ b)
kept_at first sums [] j k b e = absurd (none-ne-some b e)
kept_at first sums (a ∷ acts) j zero b e = (a, j, refl, some-injective e)
kept_at first sums (a ∷ acts) j (suc k) b e = kept_at first sums acts (j + length (sums_in a.conditions)) k b e

module _ (t : SourceTask) where
  abbrev n : ℕ
  n = length t.variables

  abbrev m : ℕ
  m = length t.modes

  -- the number of R's first kept variable, and its sums
  abbrev pub first_kept : ℕ
  first_kept = length (lower_measuring t).starts

  abbrev pub kept_sums : List (List (ℕ × ℤ))
  kept_sums = sums_of (lower_measuring t)

  abbrev rows : List NamedAction
  rows = lower_actions (lower_bounds t) (upper_bounds t) 1 t.actions

  -- what a step takes is an action of R that applies
  pub action-taken : (x : State) (k : ℕ) (y : State) → step_restricted (lower_task t) x k ≡ some y
      → (r : NamedAction) × (get_elem? rows k ≡ some r) × Applies n m first_kept kept_sums x r
  action-taken x k y e =
      let (z, e₁, e₂) = bind-gives (restricted_step_of (lower_task t).actions x k) (λ y. cond (sound x) (cond (sound y) (some y) none) none) y e in
      let (a, e₃, e₄) = bind-gives (get_elem? (lower_task t).actions k) (try_restricted x) z e₁ in
      let (b, j, e₅, e₆) = kept_at first_kept kept_sums (lower_measuring t).actions first_kept k a e₃ in
      let (r, e₇, e₈) = numbered-at n m rows k b e₅ in
      let same : in_four (kept first_kept kept_sums j (numbered n m r)) ≡ a
      = ap (λ (u : RestrictedAction). in_four (kept first_kept kept_sums j u)) e₈ ∙ e₆ in
      let applies = (provided-gives (applies_restricted a x) (apply_restricted a x) z e₄).0 in
      (r, e₇, (j, subst (λ (u : RestrictedAction). T (applies_restricted u x)) (sym same) applies))
    where
      sound : State → Bool
      sound = sound_restricted (sizes_of (lower_task t).modes)

  -- "at each state with control not 0 at most one action applies"
  pub at-most-one-action-applies : (x : State) → ¬ (natural_at x.modes (length t.modes) ≡ 0) → (j k : ℕ) (y z : State)
      → step_restricted (lower_task t) x j ≡ some y → step_restricted (lower_task t) x k ≡ some z → j ≡ k
  at-most-one-action-applies x busy j k y z e f =
      let (u, e₁, a) = action-taken x j y e in
      let (w, f₁, b) = action-taken x k z f in
      one_place (Applies n m first_kept kept_sums x) rows
      (one_of_all n m first_kept kept_sums x (lower_bounds t) (upper_bounds t) 1 t.actions busy) j k u w e₁ f₁ a b
