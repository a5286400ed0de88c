-- The loops that write: what is left to write is what is left of the plan becomes, from the state reached.
-- Assumes nothing.
use mathlib.Core.Path.{◌≡◌, refl, sym, ap, ap₂, ◌∙◌, subst}
use Prim.Native.Nat.{ℕ, ◌+◌, ◌*◌, ◌≤◌, ◌<◌}
use native.Mathlib.Omega.{arith}
use native.Mathlib.Numerals.{add-one}
use mathlib.Core.Bool.{Bool, true}
use mathlib.Core.List.{List, [], ◌∷◌, ◌++◌, append-nil, map}
use lib.ListN.{length, length-map, get_or, drop, drop_of_length-le}
use lib.Seq.{drop-cons}
use lib.IntN.{ℤ}
use Rattle.integers.specs.Numbers.{bytes_of}
use Rattle.lists.specs.Writing.{Room, Wrote}
use Rattle.lists.proofs.Numbers.{length-numbers, numbers-append}
use Rattle.lists.proofs.Loops.{and_left, and_right}
use Rattle.lists.proofs.Writing.{Left, start, step, done, recast, long, room, room_by, wrote_as}
use Rattle.answers.proofs.Lent.{too_short, written}
use Rattle.std.specs.Prelude.{Result, Ok, Err}
use Rattle.answers.specs.declared.Refusal.{Refusal}
use Rattle.answers.specs.declared.Reason.TheVariants.{OutputShort}
use Rattle.model.specs.Tasks.{State}
use Rattle.model.specs.Plans.{plan_bytes_of}
use Rattle.source_step.specs.Step.{state}
use Rattle.source_step.specs.Row.{stays_in, Finished}
use Rattle.source_step.specs.Ready.{marks_of, numbers_of}
use Rattle.source_step.specs.Table.{Table, held_by, takes_by, after_by, Usables}
use Rattle.plan_strokes.specs.Opening.{Opened}
use Rattle.source_walk.proofs.Loop.{long_after}
use Rattle.plan_expand.specs.Expanding.{opening_in, Named, TurnTaken, goes_by, numbers_by, expansion_by, Expands, Expandable, ExpandedTo}
use Rattle.plan_expand.proofs.Expanding as laws

-- the rest of a step, where it applies
pub turn-taken : {n m : ℕ} {marks : List ℕ} {numbers : List ℤ} {values : List ℤ} {modes : List ℕ} {b : Bool} {values' : List ℤ} {modes' : List ℕ} → Finished n m marks numbers values modes b values' modes'
    → TurnTaken n m marks numbers values modes values' modes'
turn-taken f = record { values_are = λ e. f.values_are ∙ rw e refl; modes_are = λ e. f.modes_are ∙ rw e refl }

module _ (T : Table) (openings p : List ℕ) (x₀ : State) (old : List ℕ) where
  -- the first i steps are written, and the arrays hold the state after them
  pub record Going (values : List ℤ) (modes : List ℕ) (out : List ℕ) (place i : ℕ) : Type 0 where
    pub bound : i ≤ length p
    pub long : length modes ≡ 4
    pub goes : goes_by T (drop i p) (state values modes) ≡ true
    pub left : Left old 0 (plan_bytes_of (expansion_by T openings p x₀)) out place (plan_bytes_of (expansion_by T openings (drop i p) (state values modes)) ∷ [])

pub begins : (T : Table) (openings p : List ℕ) (values : List ℤ) (modes old : List ℕ) → length modes ≡ 4 → goes_by T p (state values modes) ≡ true → Going T openings p (state values modes) old values modes old 0 0
begins T openings p values modes old l h = record { bound = omega arith; long = l; goes = h; left = start old 0 (sym (append-nil _)) }

module _ {T : Table} {openings p : List ℕ} {x₀ : State} {old : List ℕ} {values : List ℤ} {modes out : List ℕ} {place i : ℕ} (g : Going T openings p x₀ old values modes out place i) where
  abbrev x : State
  x = state values modes

  pub ends : length p ≤ i → Wrote old 0 (plan_bytes_of (expansion_by T openings p x₀)) out place
  unfolding expansion_by
  ends h = done (recast (append-nil _ ∙ ap (λ (ks : List ℕ). plan_bytes_of (expansion_by T openings ks x)) (drop_of_length-le p h)) g.left)

  pub as_long : length out ≡ length old
  as_long = long g.left

  module _ (h : i < length p) (k : ℕ) (e : k ≡ get_or p i 0) where
    next : drop i p ≡ k ∷ drop (i + 1) p
    next = drop-cons p i 0 h ∙ ap₂ (λ (j l : ℕ). j ∷ drop l p) (sym e) (sym (add-one i))

    here : goes_by T (k ∷ drop (i + 1) p) x ≡ true
    here = sym (ap (λ (ks : List ℕ). goes_by T ks x) next) ∙ g.goes

    -- the step is an action's, and applies
    pub named : k < T.count
    named = laws.below T k (drop (i + 1) p) x here

    applies : takes_by T x k ≡ true
    applies = laws.applies T k (drop (i + 1) p) x here

    pub holds : held_by T (state values modes) k ≡ true
    holds = and_left (held_by T x k) (stays_in T.variables (marks_of T.marks k) (numbers_of T.numbers k) values) applies

    stays : stays_in T.variables (marks_of T.marks k) (numbers_of T.numbers k) values ≡ true
    stays = and_right (held_by T x k) (stays_in T.variables (marks_of T.marks k) (numbers_of T.numbers k) values) applies

    parts : Left old 0 (plan_bytes_of (expansion_by T openings p x₀)) out place (plan_bytes_of (numbers_by T openings x k) ∷ plan_bytes_of (expansion_by T openings (drop (i + 1) p) (after_by T x k)) ∷ [])
    unfolding expansion_by
    parts = recast
        (append-nil _
        ∙ ap (λ (ks : List ℕ). plan_bytes_of (expansion_by T openings ks x)) next
        ∙ numbers-append 2 (numbers_by T openings x k) (expansion_by T openings (drop (i + 1) p) (after_by T x k))
        ∙ ap (λ (b : List ℕ). plan_bytes_of (numbers_by T openings x k) ++ b) (sym (append-nil _)))
        g.left

    pub has_room : Room old 0 (plan_bytes_of (expansion_by T openings p x₀)) → Room out place (plan_bytes_of (numbers_by T openings (state values modes) k))
    has_room r = room r parts

    pub goes_on_lem : Usables T → {values' : List ℤ} {modes' : List ℕ} → TurnTaken T.variables T.modes (marks_of T.marks k) (numbers_of T.numbers k) values modes values' modes'
        → {after : List ℕ} {end : ℕ} → Wrote out place (plan_bytes_of (numbers_by T openings (state values modes) k)) after end → Going T openings p x₀ old values' modes' after end (i + 1)
    goes_on_lem u {values'} {modes'} t w =
        let there : after_by T x k ≡ state values' modes' = sym (ap₂ state (t.values_are stays) (t.modes_are stays)) in
        record {
          bound = omega arith;
          long = ap length (t.modes_are stays) ∙ long_after T.modes (marks_of T.marks k) modes u.modes_few g.long;
          goes = ap (goes_by T (drop (i + 1) p)) (sym there) ∙ laws.goes_on_lem T k (drop (i + 1) p) x here;
          left = step (subst (λ (y : State). Left old 0 (plan_bytes_of (expansion_by T openings p x₀)) out place (plan_bytes_of (numbers_by T openings x k) ∷ plan_bytes_of (expansion_by T openings (drop (i + 1) p) y) ∷ [])) there parts) w;
        }

-- ---- the loop that writes the openings: what is left to write are those of what is left of the plan
module _ (p openings old : List ℕ) where
  pub record Opening (out : List ℕ) (place i : ℕ) : Type 0 where
    pub bound : i ≤ length p
    pub left : Left old 0 (plan_bytes_of (map (opening_in openings) p)) out place (plan_bytes_of (map (opening_in openings) (drop i p)) ∷ [])

  pub opening-begins : Opening old 0 0
  opening-begins = record { bound = omega arith; left = start old 0 (sym (append-nil _)) }

module _ {p openings old out : List ℕ} {place i : ℕ} (g : Opening p openings old out place i) where
  pub opening-ends : length p ≤ i → Wrote old 0 (plan_bytes_of (map (opening_in openings) p)) out place
  opening-ends h = done (recast (append-nil _ ∙ ap (λ (ks : List ℕ). plan_bytes_of (map (opening_in openings) ks)) (drop_of_length-le p h)) g.left)

  pub opening-as-long : length out ≡ length old
  opening-as-long = long g.left

  module _ (h : i < length p) (k : ℕ) (e : k ≡ get_or p i 0) where
    opening-parts : Left old 0 (plan_bytes_of (map (opening_in openings) p)) out place (bytes_of 2 (opening_in openings k) ∷ plan_bytes_of (map (opening_in openings) (drop (i + 1) p)) ∷ [])
    opening-parts = recast
        (append-nil _
        ∙ ap (λ (ks : List ℕ). plan_bytes_of (map (opening_in openings) ks)) (drop-cons p i 0 h ∙ ap₂ (λ (j l : ℕ). j ∷ drop l p) (sym e) (sym (add-one i)))
        ∙ ap (λ (b : List ℕ). bytes_of 2 (opening_in openings k) ++ b) (sym (append-nil _)))
        g.left

    pub opening-room : 2 * length p ≤ length old → Room out place (bytes_of 2 (opening_in openings k))
    opening-room r = room (room_by (omega (arith, r, length-numbers 2 (map (opening_in openings) p), length-map p (opening_in openings)))) opening-parts

    pub opening-goes : {after : List ℕ} {end : ℕ} → Wrote out place (bytes_of 2 (opening_in openings k)) after end → Opening p openings old after end (i + 1)
    opening-goes w = record { bound = omega arith; left = step opening-parts w }

-- ---- an expansion whose bytes were counted
module _ (T : Table) (p : List ℕ) (x : State) {needed : Result ℕ Refusal} {bytes : ℕ} (was : needed ≡ Ok bytes) (E : Expandable T p x needed) where
  counted : Expands T p x bytes
  counted = rw was at E

  pub expands : goes_by T p x ≡ true
  expands = counted.goes

  pub named-by : Named p T.count
  named-by = laws.named-all T p x counted.goes

  module _ {openings : List ℕ} (opens : Opened T.marks T.count openings) where
    bytes-long : bytes ≡ length (plan_bytes_of (expansion_by T openings p x))
    bytes-long = omega (arith, counted.long openings, length-numbers 2 (expansion_by T openings p x))

    pub expansion-room : {out : List ℕ} → bytes ≤ length out → Room out 0 (plan_bytes_of (expansion_by T openings p x))
    expansion-room h = room_by (omega (arith, h, bytes-long))

    pub expanded-short : (old : List ℕ) → length old < bytes → ExpandedTo T p x needed old old (Err (record { reason = OutputShort; place = bytes }))
    expanded-short old h = rw was (record { openings = openings; opens = opens; lent = too_short refl bytes-long h })

    pub expanded : {old after : List ℕ} {next : ℕ} → bytes ≤ length old → Wrote old 0 (plan_bytes_of (expansion_by T openings p x)) after next
        → ExpandedTo T p x needed old after (Ok bytes)
    expanded h w = rw was (record { openings = openings; opens = opens; lent = written refl bytes-long h w })

    -- where they are two for each step, the expansion is the openings
    pub expanded-alone : {old after : List ℕ} {next : ℕ} → bytes ≤ length old → bytes ≡ 2 * length p
        → Wrote old 0 (plan_bytes_of (map (opening_in openings) p)) after next → ExpandedTo T p x needed old after (Ok bytes)
    expanded-alone h l w =
        let alone = laws.openings-alone T openings p x (omega (arith, l, counted.long openings)) in
        expanded h (wrote_as (ap plan_bytes_of (sym alone)) w)
