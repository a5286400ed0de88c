-- Where the rows of a source action stand among the rows of the whole task, and which numbers are whose.
-- Assumes nothing.
use mathlib.Core.Path.{◌≡◌, refl, sym, ap, ap₂, ◌∙◌}
use mathlib.Core.Logic.{◌⊎◌, inl, inr}
use Prim.Native.Nat.{ℕ, zero, suc, ◌+◌, ◌-◌, ◌≤◌, ◌<◌}
use native.Mathlib.Nat.{suc-add}
use native.Mathlib.Omega.{arith}
use mathlib.Core.Bool.{Bool, true, false, not, cond}
use mathlib.Core.Option.{Option, none, some, none-ne-some}
use mathlib.Core.List.{List, [], ◌∷◌, ◌++◌, append_assoc}
use lib.ListN.{length, length-append, length-replicate, replicate, get_elem?}
use lib.Dec.{T, ltb, ltb→lt, lt→ltb, not_T}
use lib.IntN.{ℤ, pos, negsuc, nat_abs}
use Rattle.integers.specs.All.{All}
use Rattle.model.specs.Steps.{conditions_hold}
use Rattle.model.specs.Stages.{Name, NamedAction, Stage, first_stage, stage_actions, turn_place, stages_actions, count_actions, stages_of, macro, lower_actions, macro_size, opening, source_number, later}
use Rattle.model.specs.Tasks.{SourceAction}
use Rattle.model.specs.Expansion.{strokes, units_in, after_strokes, after_stage, stage_walk, walk_to_dead_end}
use Rattle.model.specs.NamedSystems.{stages_price, price_to_dead_end}
use Rattle.model.proofs.Pairing.{some-injective}
use Rattle.model.proofs.StageWalk.{body-length, stage-length, Under, Past, stages-from, stages-past, stages-under, under-mono, past-mono, all_app, all_map, all-get, get-split, get-past, found-below-length}

pub stages-length : (s : ℕ) (ds : List Stage) → length (stages_actions s ds) ≡ count_actions ds
stages-length s [] = refl
stages-length s (d ∷ ds) = length-append (stage_actions s d (first_stage (suc s) ds)) (stages_actions (suc s) ds) ∙ omega (arith, stage-length s d (first_stage (suc s) ds), stages-length (suc s) ds)

-- ---- the walk's length and its numbers
goes-length : (b : ℕ) (q : ℤ) → length (strokes b q) ≡ nat_abs q
goes-length b (pos k) = length-replicate k b
goes-length b (negsuc k) = length-replicate (suc k) (suc b)

pub walk-length : (b : ℕ) (ds : List Stage) (v : Name → ℤ) → length (stage_walk b ds v) ≡ stages_price ds v
walk-length b [] v = refl
walk-length b (d ∷ ds) v = length-append (strokes b (units_in d.kind (v d.counter))) ((b + turn_place d.kind) ∷ stage_walk (suc (b + turn_place d.kind)) ds (after_stage d v))
    ∙ omega (arith, goes-length b (units_in d.kind (v d.counter)), walk-length (suc (b + turn_place d.kind)) ds (after_stage d v))

pub dead-end-length : (b : ℕ) (ds : List Stage) (v : Name → ℤ) → length (walk_to_dead_end b ds v) ≡ price_to_dead_end ds v
dead-end-length b [] v = refl
dead-end-length b (d ∷ ds) v = length-append (strokes b (units_in d.kind (v d.counter)))
    (cond (conditions_hold d.turn_conditions (after_strokes d v)) ((b + turn_place d.kind) ∷ walk_to_dead_end (suc (b + turn_place d.kind)) ds (after_stage d v)) [])
    ∙ ap₂ (λ (x y : ℕ). x + y) (goes-length b (units_in d.kind (v d.counter))) (go (conditions_hold d.turn_conditions (after_strokes d v)) (dead-end-length (suc (b + turn_place d.kind)) ds (after_stage d v)))
  where
    go : (c : Bool) → length (walk_to_dead_end (suc (b + turn_place d.kind)) ds (after_stage d v)) ≡ price_to_dead_end ds (after_stage d v)
        → length (cond c ((b + turn_place d.kind) ∷ walk_to_dead_end (suc (b + turn_place d.kind)) ds (after_stage d v)) []) ≡ cond c (suc (price_to_dead_end ds (after_stage d v))) zero
    go true h = ap suc h
    go false h = refl

abbrev pub Between : ℕ → ℕ → ℕ → Type 0
Between l h k = (l ≤ k) × (k < h)

same-all : (Q : ℕ → Type 0) (k n : ℕ) → Q n → All Q (replicate k n)
same-all Q zero n h = tt
same-all Q (suc k) n h = (h, same-all Q k n h)

goes-range : (b h : ℕ) (q : ℤ) → b + 2 ≤ h → All (Between b h) (strokes b q)
goes-range b h (pos k) l = same-all (Between b h) k b (omega arith, omega arith)
goes-range b h (negsuc k) l = same-all (Between b h) (suc k) (suc b) (omega arith, omega arith)

pub walk-range : (b : ℕ) (ds : List Stage) (v : Name → ℤ) → All (Between b (b + count_actions ds)) (stage_walk b ds v)
walk-range b [] v = tt
walk-range b (d ∷ ds) v = all_app (Between b (b + (suc (turn_place d.kind) + count_actions ds))) (strokes b (units_in d.kind (v d.counter)))
    ((b + turn_place d.kind) ∷ stage_walk (suc (b + turn_place d.kind)) ds (after_stage d v))
    (goes-range b (b + (suc (turn_place d.kind) + count_actions ds)) (units_in d.kind (v d.counter)) (omega (arith, body-length 0 d))) (
      (omega arith, omega arith),
      all_map (Between (suc (b + turn_place d.kind)) (suc (b + turn_place d.kind) + count_actions ds)) (Between b (b + (suc (turn_place d.kind) + count_actions ds))) (λ r h. (omega arith, omega arith))
          (stage_walk (suc (b + turn_place d.kind)) ds (after_stage d v)) (walk-range (suc (b + turn_place d.kind)) ds (after_stage d v)),
    )

module _ (lo hi : ℕ → ℤ) where
  pub macro-length : (s : ℕ) (a : SourceAction) → length (macro lo hi s a) ≡ macro_size lo hi a
  macro-length s a = ap suc (stages-length s (stages_of lo hi a.effects))

  pub lower-past : (s : ℕ) (acts : List SourceAction) → Past s (lower_actions lo hi s acts)
  lower-past s [] = tt
  lower-past s (a ∷ acts) = (
    inl refl,
    all_app (λ (r : NamedAction). (r.control ≡ 0) ⊎ (s ≤ r.control)) (stages_actions s (stages_of lo hi a.effects))
        (lower_actions lo hi (s + length (stages_of lo hi a.effects)) acts)
        (stages-past s (stages_of lo hi a.effects))
        (past-mono s (s + length (stages_of lo hi a.effects)) (omega arith) (lower_actions lo hi (s + length (stages_of lo hi a.effects)) acts)
        (lower-past (s + length (stages_of lo hi a.effects)) acts)),
  )

  pub record Where (acts : List SourceAction) (s k : ℕ) (a : SourceAction) : Type 0 where
    pub from : ℕ
    pub pre : List NamedAction
    pub post : List NamedAction
    pub split : lower_actions lo hi s acts ≡ pre ++ (macro lo hi from a ++ post)
    pub lengths : length pre ≡ opening lo hi acts k
    pub under : Under from pre
    pub past : Past (from + length (stages_of lo hi a.effects)) post
    pub after : s ≤ from

  pub locate : (acts : List SourceAction) (s k : ℕ) (a : SourceAction) → 1 ≤ s → get_elem? acts k ≡ some a → Where acts s k a
  locate [] s k a h e = absurd (none-ne-some a e)
  locate (a₀ ∷ acts) s zero a h e = record {
    from = s;
    pre = [];
    post = lower_actions lo hi (s + length (stages_of lo hi a.effects)) acts;
    split = ap (λ (x : SourceAction). macro lo hi s x ++ lower_actions lo hi (s + length (stages_of lo hi x.effects)) acts) (some-injective e);
    lengths = refl;
    under = tt;
    past = lower-past (s + length (stages_of lo hi a.effects)) acts;
    after = omega arith;
  }
  locate (a₀ ∷ acts) s (suc k) a h e = go (locate acts (s + length (stages_of lo hi a₀.effects)) k a (omega arith) e)
    where
      go : Where acts (s + length (stages_of lo hi a₀.effects)) k a → Where (a₀ ∷ acts) s (suc k) a
      go w = record {
        from = w.from;
        pre = macro lo hi s a₀ ++ w.pre;
        post = w.post;
        split = ap (λ (l : List NamedAction). macro lo hi s a₀ ++ l) w.split ∙ sym (append_assoc (macro lo hi s a₀) w.pre (macro lo hi w.from a ++ w.post));
        lengths = length-append (macro lo hi s a₀) w.pre ∙ ap₂ (λ (x y : ℕ). x + y) (macro-length s a₀) w.lengths;
        under = all_app (λ (r : NamedAction). r.control < w.from) (macro lo hi s a₀) w.pre (
          omega (arith, h, w.after),
          under-mono (s + length (stages_of lo hi a₀.effects)) w.from w.after (stages_actions s (stages_of lo hi a₀.effects))
              (stages-under s (stages_of lo hi a₀.effects)),
        )
            w.under;
        past = w.past;
        after = omega (arith, w.after);
      }

  pub no-opening-past-the-last : (acts : List SourceAction) (s k : ℕ) → get_elem? acts k ≡ none → get_elem? (lower_actions lo hi s acts) (opening lo hi acts k) ≡ none
  no-opening-past-the-last [] s k e = refl
  no-opening-past-the-last (a ∷ acts) s zero e = absurd (none-ne-some a (sym e))
  no-opening-past-the-last (a ∷ acts) s (suc k) e =
      ap (λ (n : ℕ). get_elem? (macro lo hi s a ++ lower_actions lo hi (s + length (stages_of lo hi a.effects)) acts) (n + opening lo hi acts k))
      (sym (macro-length s a))
      ∙ get-past (macro lo hi s a) (lower_actions lo hi (s + length (stages_of lo hi a.effects)) acts) (opening lo hi acts k)
      ∙ no-opening-past-the-last acts (s + length (stages_of lo hi a.effects)) k e

  -- ---- whose number
  pick : (b : Bool) (x : Option ℕ) → T (not b) → cond b none x ≡ x
  pick true x t = absurd t
  pick false x t = refl

  drop-it : (b : Bool) (x : Option ℕ) → T b → cond b none x ≡ none
  drop-it true x t = refl
  drop-it false x t = absurd t

  source-past : (a : SourceAction) (acts : List SourceAction) (x : ℕ) → source_number lo hi (a ∷ acts) (macro_size lo hi a + x) ≡ later (source_number lo hi acts x)
  source-past a acts x = ap (source_number lo hi (a ∷ acts)) (suc-add n x)
      ∙ pick (ltb (suc (n + x)) (suc n)) (later (source_number lo hi acts (suc (n + x) - suc n))) (not_T (ltb (suc (n + x)) (suc n)) (λ t. omega (arith, ltb→lt (suc (n + x)) (suc n) t)))
      ∙ ap (λ (y : ℕ). later (source_number lo hi acts y)) (omega arith)
    where
      n : ℕ
      n = count_actions (stages_of lo hi a.effects)

  -- an action of R is the opening of a source action, has its number and needs control 0; or it is of a stage, has no source number and needs
  -- that stage's control
  abbrev pub OpensOrOfAStage : List SourceAction → ℕ → NamedAction → Type 0
  OpensOrOfAStage acts k r = ((a : ℕ) × (source_number lo hi acts k ≡ some a) × (opening lo hi acts a ≡ k) × (r.control ≡ 0)) ⊎ ((source_number lo hi acts k ≡ none) × (1 ≤ r.control))

  pub opens-or-of-a-stage : (acts : List SourceAction) (s k : ℕ) (r : NamedAction) → 1 ≤ s → get_elem? (lower_actions lo hi s acts) k ≡ some r → OpensOrOfAStage acts k r
  opens-or-of-a-stage [] s k r h e = absurd (none-ne-some r e)
  opens-or-of-a-stage (a₀ ∷ acts) s zero r h e = inl (zero, refl, refl, ap (λ (u : NamedAction). u.control) (sym (some-injective e)))
  opens-or-of-a-stage (a₀ ∷ acts) s (suc k) r h e = go (get-split (stages_actions s ds) (lower_actions lo hi (s + length ds) acts) k r e)
      (λ i f. opens-or-of-a-stage acts (s + length ds) i r (omega arith) f)
    where
      ds : List Stage
      ds = stages_of lo hi a₀.effects

      go : (get_elem? (stages_actions s ds) k ≡ some r) ⊎ ((i : ℕ) × (k ≡ length (stages_actions s ds) + i) × (get_elem? (lower_actions lo hi (s + length ds) acts) i ≡ some r))
          → ((i : ℕ) → get_elem? (lower_actions lo hi (s + length ds) acts) i ≡ some r → OpensOrOfAStage acts i r) → OpensOrOfAStage (a₀ ∷ acts) (suc k) r
      go (inl f) ih = inr (
        drop-it (ltb (suc k) (macro_size lo hi a₀)) (later (source_number lo hi acts (suc k - macro_size lo hi a₀)))
            (lt→ltb (suc k) (macro_size lo hi a₀) (omega (arith, found-below-length (stages_actions s ds) k r f, stages-length s ds))),
        omega (arith, all-get (λ (u : NamedAction). s ≤ u.control) (stages_actions s ds) k r (stages-from s ds) f),
      )
      go (inr (i, q, f)) ih = on (ih i f)
        where
          at : suc k ≡ macro_size lo hi a₀ + i
          at = omega (arith, q, stages-length s ds)

          number : source_number lo hi (a₀ ∷ acts) (suc k) ≡ later (source_number lo hi acts i)
          number = ap (source_number lo hi (a₀ ∷ acts)) at ∙ source-past a₀ acts i

          on : OpensOrOfAStage acts i r → OpensOrOfAStage (a₀ ∷ acts) (suc k) r
          on (inl (a, n, o, c)) = inl (suc a, number ∙ ap later n, ap (λ (j : ℕ). macro_size lo hi a₀ + j) o ∙ sym at, c)
          on (inr (n, c)) = inr (number ∙ ap later n, c)

  -- a row at rest is the first of some source action
  pub first_of : (acts : List SourceAction) (s k : ℕ) (r : NamedAction) → 1 ≤ s → get_elem? (lower_actions lo hi s acts) k ≡ some r → r.control ≡ 0 → (a : ℕ) × (k ≡ opening lo hi acts a)
  first_of acts s k r h e z = go (opens-or-of-a-stage acts s k r h e)
    where
      go : OpensOrOfAStage acts k r → (a : ℕ) × (k ≡ opening lo hi acts a)
      go (inl (a, n, o, c)) = (a, sym o)
      go (inr (n, c)) = absurd (omega arith)

  pub opening-has-its-source : (acts : List SourceAction) (k : ℕ) (a : SourceAction) → get_elem? acts k ≡ some a → source_number lo hi acts (opening lo hi acts k) ≡ some k
  opening-has-its-source [] k a e = absurd (none-ne-some a e)
  opening-has-its-source (a₀ ∷ acts) zero a e = refl
  opening-has-its-source (a₀ ∷ acts) (suc k) a e = source-past a₀ acts (opening lo hi acts k) ∙ ap later (opening-has-its-source acts k a e)

  pub stage-has-no-source : (acts : List SourceAction) (k : ℕ) (a : SourceAction) (m : ℕ) → get_elem? acts k ≡ some a → opening lo hi acts k < m → m < opening lo hi acts k + macro_size lo hi a → source_number lo hi acts m ≡ none
  stage-has-no-source [] k a m e h l = absurd (none-ne-some a e)
  stage-has-no-source (a₀ ∷ acts) zero a zero e h l = absurd (omega arith)
  stage-has-no-source (a₀ ∷ acts) zero a (suc m) e h l = drop-it (ltb (suc m) (macro_size lo hi a₀)) (later (source_number lo hi acts (suc m - macro_size lo hi a₀)))
      (lt→ltb (suc m) (macro_size lo hi a₀) (omega (arith, ap (macro_size lo hi) (some-injective e))))
  stage-has-no-source (a₀ ∷ acts) (suc k) a m e h l = ap (source_number lo hi (a₀ ∷ acts)) (sym back) ∙ source-past a₀ acts (m - macro_size lo hi a₀)
      ∙ ap later (stage-has-no-source acts k a (m - macro_size lo hi a₀) e (omega arith) (omega arith))
    where
      back : macro_size lo hi a₀ + (m - macro_size lo hi a₀) ≡ m
      back = omega arith
