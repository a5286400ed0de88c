-- Two systems of steps, a source and its lowering: walks that are forced, dead ends, what comes of one source action, and what it means
-- that whole plans pair off.
-- Assumes nothing.
use Rattle.std.specs.Prelude.{◌≡◌, ℕ, suc, ◌≤◌, List, [], ◌∷◌, length}
use Rattle.std.proofs.Math.Option.{Option, none, some}
use Rattle.integers.specs.All.{All}
use Rattle.model.specs.Systems.{run_plan, keep, expand_from, total_price}

module _ {X : Type 0} (step : X → ℕ → Option X) (Rest : X → Type 0) where
  -- no action but k applies
  abbrev pub Only : X → ℕ → Type 0
  Only x k = (j : ℕ) (y : X) → step x j ≡ some y → j ≡ k

  -- the walk ks leads from x to z; before each of its steps the state is not at rest and no other action applies
  abbrev pub Forced : X → List ℕ → X → Type 0
  Forced x [] z = x ≡ z
  Forced x (k ∷ ks) z = (y : X) × (¬ (Rest x)) × Only x k × (step x k ≡ some y) × Forced y ks z

  -- not at rest, and nothing applies
  abbrev pub Stuck : X → Type 0
  Stuck x = (¬ (Rest x)) × ((k : ℕ) (y : X) → ¬ (step x k ≡ some y))

-- ---- two systems: what a source action becomes
module _ {S X : Type 0} (source_step_of : S → ℕ → Option S) (step : X → ℕ → Option X) (Rest : X → Type 0) (at_rest : S → X) (Good : S → Type 0)
    (opening : ℕ → ℕ) (source_number : ℕ → Option ℕ) (stage_steps : S → ℕ → List ℕ) (price : S → ℕ → ℕ) (dead_end : S → ℕ → List ℕ) where
  -- what comes of source action a in state s: its first restricted action doesn't apply; or it applies and the walk `dead_end s a` from there
  -- ends in a dead end; or the walk `stage_steps s a` ends at rest in the state that the source step gives
  pub data Outcome (s : S) (a : ℕ) : Type 0 where
    not_opened : source_step_of s a ≡ none → ((y : X) → ¬ (step (at_rest s) (opening a) ≡ some y)) → Outcome s a
    hangs : (y z : X) → source_step_of s a ≡ none → step (at_rest s) (opening a) ≡ some y → Forced step Rest y (dead_end s a) z → Stuck step Rest z → Outcome s a
    completes : (s' : S) (y : X) → source_step_of s a ≡ some s' → Good s' → step (at_rest s) (opening a) ≡ some y → Forced step Rest y (stage_steps s a) (at_rest s')
        → source_number (opening a) ≡ some a → All (λ (k : ℕ). source_number k ≡ none) (stage_steps s a) → price s a ≡ suc (length (stage_steps s a)) → Outcome s a

  pub record Lowers : Type 0 where
    pub rests : (s : S) → Rest (at_rest s)
    pub only_openings : (s : S) (k : ℕ) (y : X) → step (at_rest s) k ≡ some y → (a : ℕ) × (k ≡ opening a)
    pub outcomes : (s : S) → Good s → (a : ℕ) → Outcome s a

-- ---- the pairing of whole plans: from the start s₀, with goals, and with at most `limit` restricted steps
pub record Pairing {S X : Type 0} (source_step_of : S → ℕ → Option S) (step : X → ℕ → Option X) (at_rest : S → X)
    (opening : ℕ → ℕ) (source_number : ℕ → Option ℕ) (stage_steps : S → ℕ → List ℕ) (price : S → ℕ → ℕ)
    (s₀ : S) (GoalS : S → Type 0) (GoalR : X → Type 0) (limit : ℕ) : Type 0 where
  -- a valid source plan whose expansion is not too long: the expansion is a valid restricted plan that ends in the same state, helpers at rest;
  -- its projection is the plan; its length is the sum of the step prices
  pub forth : (p : List ℕ) (s' : S) → run_plan source_step_of p s₀ ≡ some s' → GoalS s' → length (expand_from source_step_of opening stage_steps p s₀) ≤ limit
      → (run_plan step (expand_from source_step_of opening stage_steps p s₀) (at_rest s₀) ≡ some (at_rest s')) × GoalR (at_rest s')
      × (keep source_number (expand_from source_step_of opening stage_steps p s₀) ≡ p)
      × (length (expand_from source_step_of opening stage_steps p s₀) ≡ total_price source_step_of price p s₀)
  -- the length of a valid source plan's expansion is the sum of the step prices, however long it is
  pub lengths : (p : List ℕ) (s' : S) → run_plan source_step_of p s₀ ≡ some s'
      → length (expand_from source_step_of opening stage_steps p s₀) ≡ total_price source_step_of price p s₀
  -- a valid restricted plan that is not too long: its projection is a valid source plan that ends in the same state, its end has helpers at rest;
  -- the expansion of the projection is the plan
  pub back : (q : List ℕ) (x : X) → run_plan step q (at_rest s₀) ≡ some x → GoalR x → length q ≤ limit
      → (s' : S) × (run_plan source_step_of (keep source_number q) s₀ ≡ some s') × GoalS s' × (x ≡ at_rest s')
      × (expand_from source_step_of opening stage_steps (keep source_number q) s₀ ≡ q)
      × (length (expand_from source_step_of opening stage_steps (keep source_number q) s₀) ≤ limit)
