-- The loop over the steps of a plan: the lines of what is left, and what it costs, step by step.
-- Assumes nothing.
use mathlib.Core.Path.{◌≡◌, refl, sym, ap, ◌∙◌}
use Prim.Native.Nat.{ℕ, suc, ◌+◌, ◌-◌, ◌*◌, ◌≤◌, ◌<◌}
use native.Mathlib.Omega.{arith}
use native.Mathlib.Numerals.{add-one}
use mathlib.Core.Bool.{Bool, true, false}
use mathlib.Core.List.{List, [], ◌∷◌, ◌++◌, append-nil, append_assoc}
use lib.ListN.{length, get_or, take, drop, drop_of_length-le}
use lib.Seq.{drop-cons, get_or-take, length-take-le}
use lib.IntN.{ℤ}
use borrow.Author.Tests.{lt-ltb, le-ltb}
use Rattle.lists.specs.Writing.{Wrote}
use Rattle.lists.proofs.Writing.{Left, start, step, done, recast, long, room}
use Rattle.model.specs.Tasks.{State}
use Rattle.model.specs.Listing.{step_line}
use Rattle.source_step.specs.Step.{state}
use Rattle.source_step.proofs.Sound.{length-settled}
use Rattle.source_step.specs.Row.{outcomes_at, values_after, modes_after, Stepped}
use Rattle.source_step.specs.Ready.{marks_of, numbers_of, sums_of}
use Rattle.source_step.specs.Table.{Table, takes_by, price_by, Usables}
use Rattle.std.specs.Prelude.{Result, Ok}
use Rattle.plan_strokes.specs.Made.{Turned}
use Rattle.plan_strokes.proofs.Prices.{applied-price}
use Rattle.source_walk.proofs.Loop.{long_after}
use Rattle.listing.specs.Lines.{line_of, LINE, RoomFor}
use Rattle.listing.specs.Listed.{CEILING, Listable, lines_by, lines_to, prices_by, prices_to, LinedTo}
use Rattle.listing.proofs.Lines.{room-for-either}

-- the arrays are whole, at step i of a plan
pub record Reached (p : List ℕ) (values : List ℤ) (modes : List ℕ) (i : ℕ) : Type 0 where
  pub bound : i ≤ length p
  pub values_long : length values ≡ 8
  pub modes_long : length modes ≡ 4

-- action k is tried in a state, and is taken or not, and comes to the state after
abbrev pub StepsTo : Table → ℕ → List ℤ → List ℕ → Bool → List ℤ → List ℕ → Type 0
StepsTo T k values modes r values' modes' =
    Stepped T.variables T.modes (marks_of T.marks k) (numbers_of T.numbers k) (sums_of T.numbers) values modes r values' modes'

-- the same, with its price or what it would cost
abbrev pub TurnsTo : Table → ℕ → List ℤ → List ℕ → Result ℕ ℕ → List ℤ → List ℕ → Type 0
TurnsTo T k values modes r values' modes' =
    Turned T.variables T.modes (marks_of T.marks k) (numbers_of T.numbers k) (sums_of T.numbers) values modes r values' modes'

abbrev left_by : Table → List ℕ → ℕ → List ℤ → List ℕ → List ℕ
left_by T p i values modes = lines_by T i (drop i p) (state values modes)

abbrev cost_left : Table → List ℕ → ℕ → List ℤ → List ℕ → ℕ
cost_left T p i values modes = prices_by T (drop i p) (state values modes)

module _ (T : Table) (p : List ℕ) (values : List ℤ) (modes : List ℕ) (i : ℕ) where
  abbrev x : State
  x = state values modes

  -- nothing is left, to write or to pay
  abbrev Over : Type 0
  Over = (left_by T p i values modes ≡ []) × (cost_left T p i values modes ≡ 0)

  over : length p ≤ i → Over
  unfolding lines_by prices_by
  over h =
      let none = drop_of_length-le p h in
      (ap (λ (ks : List ℕ). lines_by T i ks x) none, ap (λ (ks : List ℕ). prices_by T ks x) none)

  module _ (k : ℕ) (e : k ≡ get_or p i 0) (h : i < length p) where
    steps-left : drop i p ≡ k ∷ drop (suc i) p
    steps-left = drop-cons p i 0 h ∙ ap (λ (j : ℕ). j ∷ drop (suc i) p) (sym e)

    lines-at-step : left_by T p i values modes ≡ lines_by T i (k ∷ drop (suc i) p) x
    lines-at-step = ap (λ (ks : List ℕ). lines_by T i ks x) steps-left

    cost-at-step : cost_left T p i values modes ≡ prices_by T (k ∷ drop (suc i) p) x
    cost-at-step = ap (λ (ks : List ℕ). prices_by T ks x) steps-left

    no-action : T.count ≤ k → Over
    unfolding lines_by prices_by
    no-action l =
        let off = le-ltb k T.count l in
        (lines-at-step ∙ rw off refl, cost-at-step ∙ rw off refl)

    module _ (l : k < T.count) {values' : List ℤ} {modes' : List ℕ} where
      not-applied : StepsTo T k values modes false values' modes' → Over
      unfolding lines_by prices_by
      not-applied s =
          let on = lt-ltb k T.count l in
          let off : takes_by T x k ≡ false = sym s.is in
          (lines-at-step ∙ rw (on, off) refl, cost-at-step ∙ rw (on, off) refl)

      module _ {price : ℕ} (t : TurnsTo T k values modes (Ok price) values' modes') where
        on : takes_by T x k ≡ true
        on = sym t.stepped.is

        values_are : values' ≡ values_after T.variables (marks_of T.marks k) (numbers_of T.numbers k) values
        values_are = t.stepped.values_are ∙ rw on refl

        modes_are : modes' ≡ modes_after T.modes (marks_of T.marks k) modes
        modes_are = t.stepped.modes_are ∙ rw on refl

        lines_next : left_by T p i values modes ≡ line_of i k price (take T.variables values') ++ left_by T p (i + 1) values' modes'
        unfolding lines_by step_line
        lines_next =
            let cost : price_by T x k ≡ price = sym (applied-price t) in
            lines-at-step ∙ rw (lt-ltb k T.count l, on, cost, values_are, modes_are, add-one i) refl

        cost-next : cost_left T p i values modes ≡ price + cost_left T p (i + 1) values' modes'
        unfolding prices_by
        cost-next =
            let cost : price_by T x k ≡ price = sym (applied-price t) in
            cost-at-step ∙ rw (lt-ltb k T.count l, on, cost, values_are, modes_are, add-one i) refl

        reached-next : Usables T → Reached p values modes i → Reached p values' modes' (i + 1)
        reached-next u r = record {
          bound = omega arith;
          values_long =
              ap length values_are
              ∙ length-settled T.variables (outcomes_at T.variables (marks_of T.marks k) (numbers_of T.numbers k) values) values
              ∙ r.values_long;
          modes_long = ap length modes_are ∙ long_after T.modes (marks_of T.marks k) modes u.modes_few r.modes_long;
        }

-- ---- the loop that writes: the lines left until the last step asked for are still to be written, and behind them come those of all other steps;
-- and so it is with what the steps cost
module _ (T : Table) (p : List ℕ) (from until before : ℕ) (x₀ : State) where
  pub record Writing (old : List ℕ) (at : ℕ) (values : List ℤ) (modes : List ℕ) (i : ℕ) (out : List ℕ) (place spent : ℕ) : Type 0 where
    pub reached : Reached (take until p) values modes i
    pub begun : from ≤ i
    pub lines : Left old at (lines_to T from until p x₀) out place (left_by T (take until p) i values modes ∷ [])
    pub few : place ≤ at + LINE * (i - from)
    pub left : (z : List ℕ) → left_by T p i values modes ≡ left_by T (take until p) i values modes ++ z
        → lines_by T from (drop from p) x₀ ≡ lines_to T from until p x₀ ++ z
    pub sum : spent + cost_left T (take until p) i values modes ≡ before + prices_to T from until p x₀
    pub total : spent + cost_left T p i values modes ≡ before + prices_by T (drop from p) x₀
    pub cheap : spent ≤ CEILING * i

module _ (T : Table) (p : List ℕ) (from until before : ℕ) (values : List ℤ) (modes : List ℕ) (l : Listable T p from until before values modes) where
  long-part : length (take until p) ≡ until
  long-part = length-take-le until p l.in_plan

  pub writing_begins : (old : List ℕ) (at : ℕ) → Writing T p from until before (state values modes) old at values modes from old at before
  writing_begins old at = record {
    reached = record { bound = omega (arith, long-part, l.ordered); values_long = l.values_long; modes_long = l.modes_long };
    begun = omega arith;
    lines = start old at (sym (append-nil (lines_to T from until p (state values modes))));
    few = omega arith;
    left = λ z e. e;
    sum = refl;
    total = refl;
    cheap = l.cheap;
  }

module _ {T : Table} {p : List ℕ} {from until before : ℕ} {values₀ : List ℤ} {modes₀ : List ℕ} (L : Listable T p from until before values₀ modes₀)
    {values : List ℤ} {modes : List ℕ} {i : ℕ} {old : List ℕ} {at : ℕ} {out : List ℕ} {place spent : ℕ}
    (g : Writing T p from until before (state values₀ modes₀) old at values modes i out place spent) where
  abbrev q : List ℕ
  q = take until p

  part-long : length q ≡ until
  part-long = long-part T p from until before values₀ modes₀ L

  pub writing-long : length out ≡ length old
  writing-long = long g.lines

  -- the lines are written: nothing is left of those asked for, and this is left of all
  written : (next : ℕ) → until ≤ next → next ≤ length p → {values' : List ℤ} {modes' : List ℕ} → length values' ≡ 8 → length modes' ≡ 4
      → Over T q values modes i → left_by T p i values modes ≡ left_by T p next values' modes'
      → cost_left T p i values modes ≡ cost_left T p next values' modes'
      → LinedTo T p from until before values₀ modes₀ old at out (record { place = place; spent = spent; next = next }) values' modes'
  written next h m {values'} {modes'} v w o f c = record {
    wrote = done (recast (ap (λ (l : List ℕ). l ++ []) o.0) g.lines);
    few = omega (arith, g.few, g.reached.bound, part-long);
    further = h;
    in_plan = m;
    left = g.left (left_by T p next values' modes') (f ∙ ap (λ (l : List ℕ). l ++ left_by T p next values' modes') (sym o.0));
    sum = omega (arith, g.sum, o.1);
    left_to_pay = omega (arith, g.sum, g.total, o.1, c);
    cheap = omega (arith, g.cheap, g.reached.bound, part-long, h);
    values_long = v;
    modes_long = w;
  }

  pub writing-over : until ≤ i
      → LinedTo T p from until before values₀ modes₀ old at out (record { place = place; spent = spent; next = until }) values modes
  writing-over h =
      let e : i ≡ until = omega (arith, g.reached.bound, part-long) in
      written until (omega arith) L.in_plan g.reached.values_long g.reached.modes_long
      (over T q values modes i (omega (arith, part-long)))
      (ap (λ (j : ℕ). left_by T p j values modes) e)
      (ap (λ (j : ℕ). cost_left T p j values modes) e)

  -- nothing is left, since the walk stops
  stopped : (next : ℕ) → next ≡ length p → {values' : List ℤ} {modes' : List ℕ} → length values' ≡ 8 → length modes' ≡ 4
      → Over T q values modes i → Over T p values modes i
      → LinedTo T p from until before values₀ modes₀ old at out (record { place = place; spent = spent; next = next }) values' modes'
  stopped next m {values'} {modes'} v w o f =
      let end = over T p values' modes' next (omega arith) in
      written next (omega (arith, m, L.in_plan)) (omega arith) v w o (f.0 ∙ sym end.0) (f.1 ∙ sym end.1)

  module _ (k : ℕ) (e : k ≡ get_or p i 0) (h : i < until) where
    in-part : i < length q
    in-part = omega (arith, part-long)

    in-plan : i < length p
    in-plan = omega (arith, L.in_plan)

    part-is : k ≡ get_or q i 0
    part-is = e ∙ sym (get_or-take until p i 0 h)

    pub writing-no-action : T.count ≤ k → (next : ℕ) → next ≡ length p
        → LinedTo T p from until before values₀ modes₀ old at out (record { place = place; spent = spent; next = next }) values modes
    writing-no-action l next m =
        stopped next m g.reached.values_long g.reached.modes_long
        (no-action T q values modes i k part-is in-part l) (no-action T p values modes i k e in-plan l)

    module _ (l : k < T.count) {values' : List ℤ} {modes' : List ℕ} where
      pub writing-not-applied : StepsTo T k values modes false values' modes' → (next : ℕ) → next ≡ length p
          → LinedTo T p from until before values₀ modes₀ old at out (record { place = place; spent = spent; next = next }) values' modes'
      writing-not-applied s next m =
          let off : takes_by T (state values modes) k ≡ false = sym s.is in
          let same-values : values' ≡ values = s.values_are ∙ rw off refl in
          let same-modes : modes' ≡ modes = s.modes_are ∙ rw off refl in
          stopped next m
          (ap length same-values ∙ g.reached.values_long)
          (ap length same-modes ∙ g.reached.modes_long)
          (not-applied T q values modes i k part-is in-part l s) (not-applied T p values modes i k e in-plan l s)

      module _ {price : ℕ} (t : TurnsTo T k values modes (Ok price) values' modes') where
        abbrev line : List ℕ
        line = line_of i k price (take T.variables values')

        -- the line of the step comes next
        parted : Left old at (lines_to T from until p (state values₀ modes₀)) out place (line ∷ left_by T q (i + 1) values' modes' ∷ [])
        parted =
            let rest = left_by T q (i + 1) values' modes' in
            recast (ap (λ (z : List ℕ). z ++ []) (lines_next T q values modes i k part-is in-part l t) ∙ append_assoc line rest []) g.lines

        pub writing-reached : Reached (take until p) values' modes' (i + 1)
        writing-reached = reached-next T q values modes i k part-is in-part l t L.usables g.reached

        pub writing-room : RoomFor old at (LINE * (until - from)) (lines_to T from until p (state values₀ modes₀))
            → RoomFor out place LINE (line_of i k price (take T.variables values'))
        writing-room r = room-for-either (omega (arith, g.few, g.begun)) writing-long (λ w. room w parted) r

        pub writing-next : {after : List ℕ} {next : ℕ} → Wrote out place (line_of i k price (take T.variables values')) after next
            → next ≤ place + LINE
            → Writing T p from until before (state values₀ modes₀) old at values' modes' (i + 1) after next (spent + price)
        writing-next w m = record {
          reached = writing-reached;
          begun = omega (arith, g.begun);
          lines = step parted w;
          few = omega (arith, g.few, g.begun, m);
          left = λ z u. g.left z
              (lines_next T p values modes i k e in-plan l t
              ∙ ap (λ (y : List ℕ). line ++ y) u
              ∙ sym (append_assoc line (left_by T q (i + 1) values' modes') z)
              ∙ ap (λ (y : List ℕ). y ++ z) (sym (lines_next T q values modes i k part-is in-part l t)));
          sum = omega (arith, g.sum, cost-next T q values modes i k part-is in-part l t);
          total = omega (arith, g.total, cost-next T p values modes i k e in-plan l t);
          cheap = omega (arith, g.cheap, t.few);
        }
