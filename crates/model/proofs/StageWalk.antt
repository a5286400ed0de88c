-- One stage, and a run of stages: from control s the only walk is as often falling or rising as the unit goes into the counter, then the turn.
-- Assumes nothing.
use mathlib.Core.Path.{◌≡◌, refl, sym, ap, ap₂, ◌∙◌, subst, fun_ext}
use mathlib.Core.Logic.{◌≢◌, ◌⊎◌, inl, inr}
use Prim.Native.Nat.{ℕ, zero, suc, ◌+◌, ◌*◌, ◌/◌, ◌≤◌, ◌<◌, suc-le-suc, zero-le}
use native.Mathlib.Nat.{suc-add, zero-add, add-zero, mod-lt, div-add-mod, mul-le-mul_right}
use native.Mathlib.Omega.{arith}
use mathlib.Core.Bool.{◌&&◌, Bool, true, false, not, cond}
use mathlib.Core.Option.{Option, none, some, none-ne-some}
use mathlib.Core.List.{List, [], ◌∷◌, ◌++◌, append_assoc}
use lib.ListN.{length, length-append, get_elem?, replicate}
use lib.Dec.{T, eqb, eqb→eq, eqb_refl, T_not}
use lib.IntN.{ℤ, pos, negsuc, neg_ℤ, ◌+ℤ◌, ◌*ℤ◌}
use lib.Signed.{le_z}
use Rattle.integers.specs.All.{All}
pub use Rattle.integers.proofs.All.{all_map, all_app}
use Rattle.integers.specs.Division.{floor, remainder}
use Rattle.integers.proofs.Parts.{ints, sum-parts, mul-up, mul-down, neg-up, neg-down}
use Rattle.model.specs.Systems.{bind, provided}
use Rattle.model.specs.Walks.{Only, Forced, Stuck}
use Rattle.model.specs.Steps.{conditions_hold, modes_hold}
use Rattle.model.specs.Stages.{Name, NamedAction, StageKind, by_one, by_unit, left_over, Stage, opposite, falling, rising, turn, stroke_actions, stage_actions, turn_place, first_stage, stages_actions}
use Rattle.model.specs.Expansion.{same_name, addition_to, add_to, plus, strokes, units_in, times_added, after_strokes, after_stage, stage_walk, walk_to_dead_end}
use Rattle.model.specs.NamedSystems.{NamedState, applies, apply, try_named, step_named, passes, after_stages}
use Rattle.model.proofs.Pairing.{bind-gives, some-injective, forced-app}

pub and_intro : (a b : Bool) → T a → T b → T ((a && b))
and_intro true b s t = t
and_intro false b s t = s

pub and_parts : (a b : Bool) → T ((a && b)) → T a × T b
and_parts true b t = (tt, t)
and_parts false b t = absurd t

pub applies-in : (r : NamedAction) (x : NamedState) → x.control ≡ r.control → T (modes_hold r.mode_conditions x.mode) → T (conditions_hold r.conditions x.value) → T (applies r x)
applies-in r x e p c = and_intro (eqb x.control r.control) (((modes_hold r.mode_conditions x.mode) && (conditions_hold r.conditions x.value)))
    (subst (λ (n : ℕ). T (eqb x.control n)) e (eqb_refl x.control)) (and_intro (modes_hold r.mode_conditions x.mode) (conditions_hold r.conditions x.value) p c)

pub applies-out : (r : NamedAction) (x : NamedState) → T (applies r x) → (x.control ≡ r.control) × T (modes_hold r.mode_conditions x.mode) × T (conditions_hold r.conditions x.value)
applies-out r x t =
    let (a, b) = and_parts (eqb x.control r.control) (((modes_hold r.mode_conditions x.mode) && (conditions_hold r.conditions x.value))) t in
    let (c, d) = and_parts (modes_hold r.mode_conditions x.mode) (conditions_hold r.conditions x.value) b in
    (eqb→eq x.control r.control a, c, d)

pub provided-gives : {A : Type 0} (b : Bool) (a y : A) → provided b a ≡ some y → T b × (a ≡ y)
provided-gives true a y e = (tt, some-injective e)
provided-gives false a y e = absurd (none-ne-some y e)

pub provided-holds : {A : Type 0} (b : Bool) (a : A) → T b → provided b a ≡ some a
provided-holds true a t = refl
provided-holds false a t = absurd t

-- ---- rows of a list
pub get-past : {A : Type 0} (pre g : List A) (i : ℕ) → get_elem? (pre ++ g) (length pre + i) ≡ get_elem? g i
get-past [] g i = rw zero-add refl
get-past (x ∷ pre) g i = rw (suc-add (length pre) i) (get-past pre g i)

pub get-split : {A : Type 0} (pre g : List A) (k : ℕ) (r : A) → get_elem? (pre ++ g) k ≡ some r
    → (get_elem? pre k ≡ some r) ⊎ ((i : ℕ) × (k ≡ length pre + i) × (get_elem? g i ≡ some r))
get-split [] g k r e = inr (k, sym (zero-add k), e)
get-split (x ∷ pre) g zero r e = inl e
get-split (x ∷ pre) g (suc k) r e = go (get-split pre g k r e)
  where
    go : (get_elem? pre k ≡ some r) ⊎ ((i : ℕ) × (k ≡ length pre + i) × (get_elem? g i ≡ some r))
        → (get_elem? pre k ≡ some r) ⊎ ((i : ℕ) × (suc k ≡ suc (length pre) + i) × (get_elem? g i ≡ some r))
    go (inl h) = inl h
    go (inr (i, h, f)) = inr (i, ap suc h ∙ sym (suc-add (length pre) i), f)

pub found-below-length : {A : Type 0} (l : List A) (k : ℕ) (a : A) → get_elem? l k ≡ some a → k < length l
found-below-length [] k a e = absurd (none-ne-some a e)
found-below-length (x ∷ l) zero a e = omega arith
found-below-length (x ∷ l) (suc k) a e = omega (arith, found-below-length l k a e)

pub all-get : {A : Type 0} (Q : A → Type 0) (l : List A) (k : ℕ) (r : A) → All Q l → get_elem? l k ≡ some r → Q r
all-get Q [] k r h e = absurd (none-ne-some r e)
all-get Q (x ∷ l) zero r (h, hs) e = subst Q (some-injective e) h
all-get Q (x ∷ l) (suc k) r (h, hs) e = all-get Q l k r hs e

-- no row of the list stands at control s
abbrev pub Away : ℕ → List NamedAction → Type 0
Away s l = All (λ (r : NamedAction). r.control ≢ s) l

abbrev pub Rest : NamedState → Type 0
Rest x = x.control ≡ 0

abbrev pub at : (Name → ℤ) → (ℕ → ℕ) → ℕ → NamedState
at v m s = record { value = v; mode = m; control = s }

-- ---- the only row that applies
abbrev pub Off : NamedState → NamedAction → Type 0
Off x u = T (applies u x) → ⊥

module _ (R pre post : List NamedAction) (r : NamedAction) (split : R ≡ pre ++ (r ∷ post)) (x : NamedState) (off₁ : All (Off x) pre) (off₂ : All (Off x) post) where
  sole : T (applies r x) → (step_named R x (length pre) ≡ some (apply r x)) × Only (step_named R) Rest x (length pre)
  sole t = (
    there ∙ provided-holds (applies r x) (apply r x) t,
    λ k y e. let (u, e₁, e₂) = bind-gives (get_elem? R k) (try_named x) y e in only k u e₁ (provided-gives (applies u x) (apply u x) y e₂).0,
  )
    where
      there : step_named R x (length pre) ≡ try_named x r
      there = ap (λ (o : Option NamedAction). bind o (try_named x)) (ap₂ (λ (l : List NamedAction) (n : ℕ). get_elem? l n) split (sym (add-zero (length pre))) ∙ get-past pre (r ∷ post) 0)

      only : (k : ℕ) (u : NamedAction) → get_elem? R k ≡ some u → T (applies u x) → k ≡ length pre
      only k u e t = go (get-split pre (r ∷ post) k u (subst (λ (l : List NamedAction). get_elem? l k ≡ some u) split e))
        where
          later : (i : ℕ) → k ≡ length pre + i → get_elem? (r ∷ post) i ≡ some u → k ≡ length pre
          later zero q f = q ∙ add-zero (length pre)
          later (suc i) q f = absurd (all-get (Off x) post i u off₂ f t)

          go : (get_elem? pre k ≡ some u) ⊎ ((i : ℕ) × (k ≡ length pre + i) × (get_elem? (r ∷ post) i ≡ some u)) → k ≡ length pre
          go (inl f) = absurd (all-get (Off x) pre k u off₁ f t)
          go (inr (i, q, f)) = later i q f

none-on : (R : List NamedAction) (x : NamedState) → All (Off x) R → (k : ℕ) (y : NamedState) → ¬ (step_named R x k ≡ some y)
none-on R x h k y e = let (u, e₁, e₂) = bind-gives (get_elem? R k) (try_named x) y e in all-get (Off x) R k u h e₁ (provided-gives (applies u x) (apply u x) y e₂).0

away-off : (s : ℕ) (l : List NamedAction) (v : Name → ℤ) (m : ℕ → ℕ) → Away s l → All (Off (at v m s)) l
away-off s l v m h = all_map (λ (r : NamedAction). r.control ≢ s) (Off (at v m s)) (λ r n t. n (sym (applies-out r (at v m s) t).0)) l h

-- an action taken k times
abbrev pub times : ℕ → List (Name × ℤ) → (Name → ℤ) → Name → ℤ
times zero es v = v
times (suc k) es v = times k es (plus es v)

by_zero : (o : Option ℤ) (z : ℤ) → z ≡ times_added (pos 0) o z
by_zero none z = refl
by_zero (some d) z = omega (ints, sum-parts z (pos 0 *ℤ d), mul-up (pos 0) d, mul-down (pos 0) d)

by-suc : (k : ℕ) (o : Option ℤ) (z : ℤ) → times_added (pos k) o (add_to o z) ≡ times_added (pos (suc k)) o z
by-suc k none z = refl
by-suc k (some d) z = omega (
  ints,
  sum-parts z d,
  sum-parts (z +ℤ d) (pos k *ℤ d),
  sum-parts z (pos (suc k) *ℤ d),
  mul-up (pos k) d,
  mul-down (pos k) d,
  mul-up (pos (suc k)) d,
  mul-down (pos (suc k)) d,
)

pub times-by : (k : ℕ) (es : List (Name × ℤ)) (v : Name → ℤ) (w : Name) → times k es v w ≡ times_added (pos k) (addition_to es w) (v w)
times-by zero es v w = by_zero (addition_to es w) (v w)
times-by (suc k) es v w = times-by k es (plus es v) w ∙ by-suc k (addition_to es w) (v w)

abbrev neg-some : Option ℤ → Option ℤ
neg-some none = none
neg-some (some d) = some (neg_ℤ d)

look-opposite : (es : List (Name × ℤ)) (w : Name) → addition_to (opposite es) w ≡ neg-some (addition_to es w)
look-opposite [] w = refl
look-opposite (e ∷ es) w = go (same_name e.0 w) (look-opposite es w)
  where
    go : (b : Bool) → addition_to (opposite es) w ≡ neg-some (addition_to es w) → cond b (some (neg_ℤ e.1)) (addition_to (opposite es) w) ≡ neg-some (cond b (some e.1) (addition_to es w))
    go true h = refl
    go false h = h

flip : (k : ℕ) (d : ℤ) → pos (suc k) *ℤ neg_ℤ d ≡ negsuc k *ℤ d
flip k (pos zero) = omega (ints, neg-up (pos (suc k * zero)), neg-down (pos (suc k * zero)))
flip k (pos (suc n)) = refl
flip k (negsuc n) = refl

by-opposite : (k : ℕ) (o : Option ℤ) (z : ℤ) → times_added (pos (suc k)) (neg-some o) z ≡ times_added (negsuc k) o z
by-opposite k none z = refl
by-opposite k (some d) z = ap (λ (y : ℤ). z +ℤ y) (flip k d)

-- ---- the unit in the counter
fall-ok : (a u j : ℕ) → j < a / suc u → T (le_z (pos (suc u)) (pos a +ℤ pos j *ℤ negsuc u))
fall-ok a u j h = omega (ints, sum-parts (pos a) (pos j *ℤ negsuc u), mul-up (pos j) (negsuc u), mul-down (pos j) (negsuc u), mul-le-mul_right (suc u) h, div-add-mod a (suc u))

rise-ok : (a u j : ℕ) → j < suc (a / suc u) → T (le_z (negsuc a +ℤ pos j *ℤ pos (suc u)) (negsuc 0))
rise-ok a u j h = omega (ints, sum-parts (negsuc a) (pos j *ℤ pos (suc u)), mul-up (pos j) (pos (suc u)), mul-down (pos j) (pos (suc u)), mul-le-mul_right (suc u) h, div-add-mod a (suc u))

pub left_le : (z : ℤ) (u : ℕ) → remainder z u ≤ u
left_le (pos a) u = omega (arith, mod-lt a {m = suc u} (suc-le-suc zero-le))
left_le (negsuc a) u = omega arith

pub floor-left : (z : ℤ) (u : ℕ) → z +ℤ floor z u *ℤ negsuc u ≡ pos (remainder z u)
floor-left (pos a) u = omega (ints, sum-parts (pos a) (pos (a / suc u) *ℤ negsuc u), mul-up (pos (a / suc u)) (negsuc u), mul-down (pos (a / suc u)) (negsuc u), div-add-mod a (suc u))
floor-left (negsuc a) u = omega (
  ints,
  sum-parts (negsuc a) (negsuc (a / suc u) *ℤ negsuc u),
  mul-up (negsuc (a / suc u)) (negsuc u),
  mul-down (negsuc (a / suc u)) (negsuc u),
  div-add-mod a (suc u),
  mod-lt a {m = suc u} (suc-le-suc zero-le),
)

floor-one : (z : ℤ) → floor z 0 ≡ z
floor-one (pos a) = ap pos (omega arith)
floor-one (negsuc a) = ap negsuc (omega arith)

quot-floor : (k : StageKind) (z : ℤ) → units_in k z ≡ floor z (left_over k)
quot-floor by_one z = sym (floor-one z)
quot-floor (by_unit u) z = refl

-- ---- one stage
-- falling takes one unit from the counter
abbrev pub Fine : Stage → Type 0
Fine d = addition_to d.additions d.counter ≡ some (negsuc (left_over d.kind))

pub body-length : (s : ℕ) (d : Stage) → length (stroke_actions s d) ≡ turn_place d.kind
body-length s d = go d.kind
  where
    go : (k : StageKind) → 2 ≡ turn_place k
    go by_one = refl
    go (by_unit u) = refl

pub stage-length : (s : ℕ) (d : Stage) (nx : ℕ) → length (stage_actions s d nx) ≡ suc (turn_place d.kind)
stage-length s d nx = length-append (stroke_actions s d) (turn s d nx ∷ []) ∙ omega (arith, body-length s d)

module _ (R pre post : List NamedAction) (s nx : ℕ) (d : Stage) (split : R ≡ pre ++ (stage_actions s d nx ++ post)) (off₁ : Away s pre) (off₂ : Away s post) (busy : s ≢ 0) (m : ℕ → ℕ) where
  -- row n applies, and no other
  abbrev On : (Name → ℤ) → ℕ → List (Name × ℤ) → ℕ → Type 0
  On v n es t = (step_named R (at v m s) n ≡ some (at (plus es v) m t)) × Only (step_named R) Rest (at v m s) n

  pre-off : (v : Name → ℤ) → All (Off (at v m s)) pre
  pre-off v = away-off s pre v m off₁

  post-off : (v : Name → ℤ) → All (Off (at v m s)) post
  post-off v = away-off s post v m off₂

  -- what the rows ask of the counter
  fall-says : (v : Name → ℤ) → T (applies (falling s d) (at v m s)) → T (le_z (pos (suc (left_over d.kind))) (v d.counter))
  fall-says v t = (and_parts (le_z (pos (suc (left_over d.kind))) (v d.counter)) true (applies-out (falling s d) (at v m s) t).2).0

  rise-says : (v : Name → ℤ) → T (applies (rising s d) (at v m s)) → T (le_z (v d.counter) (negsuc 0))
  rise-says v t = (and_parts (le_z (v d.counter) (negsuc 0)) true (applies-out (rising s d) (at v m s) t).2).0

  turn-says : (v : Name → ℤ) → T (applies (turn s d nx) (at v m s)) → T (le_z (pos 0) (v d.counter)) × T (le_z (v d.counter) (pos (left_over d.kind))) × T (conditions_hold d.turn_conditions v)
  turn-says v t =
      let (a, b) = and_parts (le_z (pos 0) (v d.counter)) (((le_z (v d.counter) (pos (left_over d.kind))) && (conditions_hold d.turn_conditions v))) (applies-out (turn s d nx) (at v m s) t).2 in
      let (b₁, b₂) = and_parts (le_z (v d.counter) (pos (left_over d.kind))) (conditions_hold d.turn_conditions v) b in
      (a, b₁, b₂)

  on-fall : (v : Name → ℤ) → T (le_z (pos (suc (left_over d.kind))) (v d.counter)) → On v (length pre) d.additions s
  on-fall v h = sole R pre (rising s d ∷ turn s d nx ∷ post) (falling s d) split (at v m s) (pre-off v)
      ((λ t. omega (ints, h, rise-says v t)), ((λ t. omega (ints, h, (turn-says v t).1)), post-off v))
      (applies-in (falling s d) (at v m s) refl tt (and_intro (le_z (pos (suc (left_over d.kind))) (v d.counter)) true h tt))

  on-rise : (v : Name → ℤ) → T (le_z (v d.counter) (negsuc 0)) → On v (suc (length pre)) (opposite d.additions) s
  on-rise v h = subst (λ (n : ℕ). On v n (opposite d.additions) s) (length-append pre (falling s d ∷ []) ∙ omega arith)
      (sole R (pre ++ (falling s d ∷ [])) (turn s d nx ∷ post) (rising s d) (split ∙ sym (append_assoc pre (falling s d ∷ []) (rising s d ∷ turn s d nx ∷ post))) (at v m s)
      (all_app (Off (at v m s)) pre (falling s d ∷ []) (pre-off v) ((λ t. omega (ints, h, fall-says v t)), tt))
      ((λ t. omega (ints, h, (turn-says v t).0)), post-off v)
      (applies-in (rising s d) (at v m s) refl tt (and_intro (le_z (v d.counter) (negsuc 0)) true h tt)))

  -- the same row k times over
  phase : (n : ℕ) (es : List (Name × ℤ)) (k : ℕ) (v : Name → ℤ) → ((j : ℕ) → j < k → On (times j es v) n es s)
      → Forced (step_named R) Rest (at v m s) (replicate k n) (at (times k es v) m s)
  phase n es zero v h = refl
  phase n es (suc k) v h = (at (plus es v) m s, busy, (h 0 (suc-le-suc zero-le)).1, (h 0 (suc-le-suc zero-le)).0, phase n es k (plus es v) (λ j l. h (suc j) (suc-le-suc l)))

  module _ (takes : Fine d) where
    moves-at : (z : ℤ) (v : Name → ℤ) → v d.counter ≡ z
        → Forced (step_named R) Rest (at v m s) (strokes (length pre) (floor z (left_over d.kind))) (at (λ w. times_added (floor z (left_over d.kind)) (addition_to d.additions w) (v w)) m s)
    moves-at (pos a) v e = subst (λ (f : Name → ℤ). Forced (step_named R) Rest (at v m s) (replicate k (length pre)) (at f m s)) (fun_ext (times-by k d.additions v))
        (phase (length pre) d.additions k v (λ j l. on-fall (times j d.additions v)
        (subst (λ (z : ℤ). T (le_z (pos (suc (left_over d.kind))) z)) (sym (times-by j d.additions v d.counter ∙ ap₂ (λ (o : Option ℤ) (z : ℤ). times_added (pos j) o z) takes e))
        (fall-ok a (left_over d.kind) j l))))
      where
        k : ℕ
        k = a / suc (left_over d.kind)
    moves-at (negsuc a) v e = subst (λ (f : Name → ℤ). Forced (step_named R) Rest (at v m s) (replicate (suc k) (suc (length pre))) (at f m s))
        (fun_ext (λ w. times-by (suc k) (opposite d.additions) v w ∙ ap (λ (o : Option ℤ). times_added (pos (suc k)) o (v w)) (look-opposite d.additions w) ∙ by-opposite k (addition_to d.additions w) (v w)))
        (phase (suc (length pre)) (opposite d.additions) (suc k) v (λ j l. on-rise (times j (opposite d.additions) v)
        (subst (λ (z : ℤ). T (le_z z (negsuc 0)))
        (sym (times-by j (opposite d.additions) v d.counter ∙ ap₂ (λ (o : Option ℤ) (z : ℤ). times_added (pos j) o z) (look-opposite d.additions d.counter ∙ ap neg-some takes) e))
        (rise-ok a (left_over d.kind) j l))))
      where
        k : ℕ
        k = a / suc (left_over d.kind)

    -- up to the turn
    moves : (v : Name → ℤ) → Forced (step_named R) Rest (at v m s) (strokes (length pre) (units_in d.kind (v d.counter))) (at (after_strokes d v) m s)
    moves v = subst (λ (q : ℤ). Forced (step_named R) Rest (at v m s) (strokes (length pre) q) (at (λ w. times_added q (addition_to d.additions w) (v w)) m s))
        (sym (quot-floor d.kind (v d.counter))) (moves-at (v d.counter) v refl)

    -- the counter is then at rest
    rested : (v : Name → ℤ) → T (le_z (pos 0) (after_strokes d v d.counter)) × T (le_z (after_strokes d v d.counter) (pos (left_over d.kind)))
    rested v = subst (λ (z : ℤ). T (le_z (pos 0) z) × T (le_z z (pos (left_over d.kind)))) (sym is) (omega ints, omega (ints, left_le (v d.counter) (left_over d.kind)))
      where
        is : after_strokes d v d.counter ≡ pos (remainder (v d.counter) (left_over d.kind))
        is = ap₂ (λ (q : ℤ) (o : Option ℤ). times_added q o (v d.counter)) (quot-floor d.kind (v d.counter)) takes ∙ floor-left (v d.counter) (left_over d.kind)

    body-off : (v : Name → ℤ) → All (Off (at (after_strokes d v) m s)) (stroke_actions s d)
    body-off v = ((λ t. omega (ints, (rested v).1, fall-says (after_strokes d v) t)), ((λ t. omega (ints, (rested v).0, rise-says (after_strokes d v) t)), tt))

    turned : (v : Name → ℤ) → T (conditions_hold d.turn_conditions (after_strokes d v)) → Forced (step_named R) Rest (at (after_strokes d v) m s) ((length pre + turn_place d.kind) ∷ []) (at (after_stage d v) m nx)
    turned v h =
        let (e, o) = sole R (pre ++ stroke_actions s d) post (turn s d nx) (split ∙ sym (append_assoc pre (stroke_actions s d) (turn s d nx ∷ post))) (at (after_strokes d v) m s)
        (all_app (Off (at (after_strokes d v) m s)) pre (stroke_actions s d) (pre-off (after_strokes d v)) (body-off v)) (post-off (after_strokes d v))
        (applies-in (turn s d nx) (at (after_strokes d v) m s) refl tt
        (and_intro (le_z (pos 0) (after_strokes d v d.counter)) (((le_z (after_strokes d v d.counter) (pos (left_over d.kind))) && (conditions_hold d.turn_conditions (after_strokes d v)))) (rested v).0
        (and_intro (le_z (after_strokes d v d.counter) (pos (left_over d.kind))) (conditions_hold d.turn_conditions (after_strokes d v)) (rested v).1 h))) in
        subst (λ (n : ℕ). Forced (step_named R) Rest (at (after_strokes d v) m s) (n ∷ []) (at (after_stage d v) m nx))
        (length-append pre (stroke_actions s d) ∙ ap (λ (n : ℕ). length pre + n) (body-length s d)) (at (after_stage d v) m nx, busy, o, e, refl)

    halted : (v : Name → ℤ) → T (not (conditions_hold d.turn_conditions (after_strokes d v))) → Stuck (step_named R) Rest (at (after_strokes d v) m s)
    halted v h = (
      busy,
      none-on R (at (after_strokes d v) m s) (subst (All (Off (at (after_strokes d v) m s))) (sym (split ∙ sym (append_assoc pre (stroke_actions s d) (turn s d nx ∷ post))))
          (all_app (Off (at (after_strokes d v) m s)) (pre ++ stroke_actions s d) (turn s d nx ∷ post)
          (all_app (Off (at (after_strokes d v) m s)) pre (stroke_actions s d) (pre-off (after_strokes d v)) (body-off v))
          ((λ t. T_not (conditions_hold d.turn_conditions (after_strokes d v)) h (turn-says (after_strokes d v) t).2), post-off (after_strokes d v)))),
    )

    -- through the whole stage, then on
    onward : (v : Name → ℤ) (ks : List ℕ) (z : NamedState) → T (conditions_hold d.turn_conditions (after_strokes d v)) → Forced (step_named R) Rest (at (after_stage d v) m nx) ks z
        → Forced (step_named R) Rest (at v m s) (strokes (length pre) (units_in d.kind (v d.counter)) ++ ((length pre + turn_place d.kind) ∷ ks)) z
    onward v ks z h w = forced-app (step_named R) Rest (strokes (length pre) (units_in d.kind (v d.counter))) ((length pre + turn_place d.kind) ∷ ks) (at v m s) (at (after_strokes d v) m s) z (moves v)
        (forced-app (step_named R) Rest ((length pre + turn_place d.kind) ∷ []) ks (at (after_strokes d v) m s) (at (after_stage d v) m nx) z (turned v h) w)

-- ---- a run of stages
abbrev pub Under : ℕ → List NamedAction → Type 0
Under s l = All (λ (r : NamedAction). r.control < s) l

abbrev pub Past : ℕ → List NamedAction → Type 0
Past s l = All (λ (r : NamedAction). (r.control ≡ 0) ⊎ (s ≤ r.control)) l

pub under-away : (s : ℕ) (l : List NamedAction) → Under s l → Away s l
under-away s l h = all_map (λ (r : NamedAction). r.control < s) (λ (r : NamedAction). r.control ≢ s) (λ r p q. omega arith) l h

pub past-away : (s : ℕ) → 1 ≤ s → (l : List NamedAction) → Past (suc s) l → Away s l
past-away s h l p = all_map (λ (r : NamedAction). (r.control ≡ 0) ⊎ (suc s ≤ r.control)) (λ (r : NamedAction). r.control ≢ s) go l p
  where
    go : (r : NamedAction) → (r.control ≡ 0) ⊎ (suc s ≤ r.control) → r.control ≢ s
    go r (inl e) q = omega arith
    go r (inr l) q = omega arith

pub under-mono : (s t : ℕ) → s ≤ t → (l : List NamedAction) → Under s l → Under t l
under-mono s t h l p = all_map (λ (r : NamedAction). r.control < s) (λ (r : NamedAction). r.control < t) (λ r q. omega arith) l p

pub past-mono : (s t : ℕ) → s ≤ t → (l : List NamedAction) → Past t l → Past s l
past-mono s t h l p = all_map (λ (r : NamedAction). (r.control ≡ 0) ⊎ (t ≤ r.control)) (λ (r : NamedAction). (r.control ≡ 0) ⊎ (s ≤ r.control)) go l p
  where
    go : (r : NamedAction) → (r.control ≡ 0) ⊎ (t ≤ r.control) → (r.control ≡ 0) ⊎ (s ≤ r.control)
    go r (inl e) = inl e
    go r (inr q) = inr (omega arith)

needs-s : (s : ℕ) (d : Stage) (nx : ℕ) → All (λ (r : NamedAction). r.control ≡ s) (stage_actions s d nx)
needs-s s d nx = (refl, (refl, (refl, tt)))

pub stages-from : (s : ℕ) (ds : List Stage) → All (λ (r : NamedAction). s ≤ r.control) (stages_actions s ds)
stages-from s [] = tt
stages-from s (d ∷ ds) = all_app (λ (r : NamedAction). s ≤ r.control) (stage_actions s d (first_stage (suc s) ds)) (stages_actions (suc s) ds)
    (all_map (λ (r : NamedAction). r.control ≡ s) (λ (r : NamedAction). s ≤ r.control) (λ r h. omega arith) (stage_actions s d (first_stage (suc s) ds)) (needs-s s d (first_stage (suc s) ds)))
    (all_map (λ (r : NamedAction). suc s ≤ r.control) (λ (r : NamedAction). s ≤ r.control) (λ r h. omega arith) (stages_actions (suc s) ds) (stages-from (suc s) ds))

pub stages-past : (s : ℕ) (ds : List Stage) → Past s (stages_actions s ds)
stages-past s ds = all_map (λ (r : NamedAction). s ≤ r.control) (λ (r : NamedAction). (r.control ≡ 0) ⊎ (s ≤ r.control)) (λ r h. inr h) (stages_actions s ds) (stages-from s ds)

pub stages-under : (s : ℕ) (ds : List Stage) → Under (s + length ds) (stages_actions s ds)
stages-under s [] = tt
stages-under s (d ∷ ds) = all_app (λ (r : NamedAction). r.control < s + suc (length ds)) (stage_actions s d (first_stage (suc s) ds)) (stages_actions (suc s) ds)
    (all_map (λ (r : NamedAction). r.control ≡ s) (λ (r : NamedAction). r.control < s + suc (length ds)) (λ r h. omega arith) (stage_actions s d (first_stage (suc s) ds)) (needs-s s d (first_stage (suc s) ds)))
    (under-mono (suc s + length ds) (s + suc (length ds)) (omega arith) (stages_actions (suc s) ds) (stages-under (suc s) ds))

module _ (R : List NamedAction) (m : ℕ → ℕ) where
  -- one stage of a run, and where the next one stands
  record Place (pre post : List NamedAction) (s : ℕ) (d : Stage) (ds : List Stage) : Type 0 where
    here : R ≡ pre ++ (stage_actions s d (first_stage (suc s) ds) ++ (stages_actions (suc s) ds ++ post))
    next_control : R ≡ (pre ++ stage_actions s d (first_stage (suc s) ds)) ++ (stages_actions (suc s) ds ++ post)
    off₁ : Away s pre
    off₂ : Away s (stages_actions (suc s) ds ++ post)
    busy : s ≢ 0
    under : Under (suc s) (pre ++ stage_actions s d (first_stage (suc s) ds))
    past : Past (suc s + length ds) post
    lengths : length (pre ++ stage_actions s d (first_stage (suc s) ds)) ≡ suc (length pre + turn_place d.kind)

  place : (pre post : List NamedAction) (s : ℕ) (d : Stage) (ds : List Stage) → R ≡ pre ++ (stages_actions s (d ∷ ds) ++ post) → 1 ≤ s → Under s pre → Past (s + suc (length ds)) post
      → Place pre post s d ds
  place pre post s d ds e h u p = record {
    here = here;
    next_control = here ∙ sym (append_assoc pre (stage_actions s d (first_stage (suc s) ds)) (stages_actions (suc s) ds ++ post));
    off₁ = under-away s pre u;
    off₂ = all_app (λ (r : NamedAction). r.control ≢ s) (stages_actions (suc s) ds) post (past-away s h (stages_actions (suc s) ds) (stages-past (suc s) ds))
        (past-away s h post (past-mono (suc s) (s + suc (length ds)) (omega arith) post p));
    busy = omega arith;
    under = all_app (λ (r : NamedAction). r.control < suc s) pre (stage_actions s d (first_stage (suc s) ds)) (under-mono s (suc s) (omega arith) pre u)
        (all_map (λ (r : NamedAction). r.control ≡ s) (λ (r : NamedAction). r.control < suc s) (λ r q. omega arith) (stage_actions s d (first_stage (suc s) ds)) (needs-s s d (first_stage (suc s) ds)));
    past = past-mono (suc s + length ds) (s + suc (length ds)) (omega arith) post p;
    lengths = length-append pre (stage_actions s d (first_stage (suc s) ds)) ∙ omega (arith, stage-length s d (first_stage (suc s) ds));
  }
    where
      here : R ≡ pre ++ (stage_actions s d (first_stage (suc s) ds) ++ (stages_actions (suc s) ds ++ post))
      here = e ∙ ap (λ (l : List NamedAction). pre ++ l) (append_assoc (stage_actions s d (first_stage (suc s) ds)) (stages_actions (suc s) ds) post)

  pub stages-walked : (ds : List Stage) (s : ℕ) (pre post : List NamedAction) (v : Name → ℤ) → R ≡ pre ++ (stages_actions s ds ++ post) → 1 ≤ s → Under s pre → Past (s + length ds) post
      → All Fine ds → T (passes ds v) → Forced (step_named R) Rest (at v m (first_stage s ds)) (stage_walk (length pre) ds v) (at (after_stages ds v) m 0)
  stages-walked [] s pre post v e h u p f t = refl
  stages-walked (d ∷ ds) s pre post v e h u p (f, fs) t =
      let L : Place pre post s d ds = place pre post s d ds e h u p in
      let (t₁, t₂) = and_parts (conditions_hold d.turn_conditions (after_strokes d v)) (passes ds (after_stage d v)) t in
      onward R pre (stages_actions (suc s) ds ++ post) s (first_stage (suc s) ds) d L.here L.off₁ L.off₂ L.busy m f v
      (stage_walk (suc (length pre + turn_place d.kind)) ds (after_stage d v)) (at (after_stages ds (after_stage d v)) m 0) t₁
      (subst (λ (b : ℕ). Forced (step_named R) Rest (at (after_stage d v) m (first_stage (suc s) ds)) (stage_walk b ds (after_stage d v)) (at (after_stages ds (after_stage d v)) m 0)) L.lengths
      (stages-walked ds (suc s) (pre ++ stage_actions s d (first_stage (suc s) ds)) post (after_stage d v) L.next_control (omega arith) L.under L.past fs t₂))

  -- up to the turn of the first stage whose test fails, and no further
  pub stages-hang : (ds : List Stage) (s : ℕ) (pre post : List NamedAction) (v : Name → ℤ) → R ≡ pre ++ (stages_actions s ds ++ post) → 1 ≤ s → Under s pre → Past (s + length ds) post
      → All Fine ds → T (not (passes ds v)) → (z : NamedState) × Forced (step_named R) Rest (at v m (first_stage s ds)) (walk_to_dead_end (length pre) ds v) z × Stuck (step_named R) Rest z
  stages-hang [] s pre post v e h u p f t = absurd t
  stages-hang (d ∷ ds) s pre post v e h u p (f, fs) t =
      let L : Place pre post s d ds = place pre post s d ds e h u p in
      go L (conditions_hold d.turn_conditions (after_strokes d v)) refl t
      (stages-hang ds (suc s) (pre ++ stage_actions s d (first_stage (suc s) ds)) post (after_stage d v) L.next_control (omega arith) L.under L.past fs)
    where
      go : Place pre post s d ds → (b : Bool) → conditions_hold d.turn_conditions (after_strokes d v) ≡ b → T (not ((b && (passes ds (after_stage d v)))))
          → (T (not (passes ds (after_stage d v)))
          → (z : NamedState) × Forced (step_named R) Rest (at (after_stage d v) m (first_stage (suc s) ds)) (walk_to_dead_end (length (pre ++ stage_actions s d (first_stage (suc s) ds))) ds (after_stage d v)) z × Stuck (step_named R) Rest z)
          → (z : NamedState) × Forced (step_named R) Rest (at v m s)
          (strokes (length pre) (units_in d.kind (v d.counter)) ++ cond b ((length pre + turn_place d.kind) ∷ walk_to_dead_end (suc (length pre + turn_place d.kind)) ds (after_stage d v)) []) z
          × Stuck (step_named R) Rest z
      go L true e t ih = let (z, w, st) = ih t in (
        z,
        onward R pre (stages_actions (suc s) ds ++ post) s (first_stage (suc s) ds) d L.here L.off₁ L.off₂ L.busy m f v (walk_to_dead_end (suc (length pre + turn_place d.kind)) ds (after_stage d v)) z (subst T (sym e) tt)
            (subst (λ (b : ℕ). Forced (step_named R) Rest (at (after_stage d v) m (first_stage (suc s) ds)) (walk_to_dead_end b ds (after_stage d v)) z) L.lengths w),
        st,
      )
      go L false e t ih = (
        at (after_strokes d v) m s,
        forced-app (step_named R) Rest (strokes (length pre) (units_in d.kind (v d.counter))) [] (at v m s) (at (after_strokes d v) m s) (at (after_strokes d v) m s)
            (moves R pre (stages_actions (suc s) ds ++ post) s (first_stage (suc s) ds) d L.here L.off₁ L.off₂ L.busy m f v) refl,
        halted R pre (stages_actions (suc s) ds ++ post) s (first_stage (suc s) ds) d L.here L.off₁ L.off₂ L.busy m f v (subst (λ (b : Bool). T (not b)) (sym e) tt),
      )
