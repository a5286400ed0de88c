-- Rows with several parts more, and the actions of a stage.
-- Assumes nothing.
use mathlib.Core.Path.{◌≡◌, refl, sym, ap, ap₂, ◌∙◌, subst}
use Prim.Native.Nat.{ℕ, zero, suc, ◌+◌, ◌<◌, ◌≤◌}
use native.Mathlib.Numerals.{add-one}
use native.Mathlib.Omega.{arith}
use mathlib.Core.Bool.{Bool, true, false, cond}
use mathlib.Core.List.{List, [], ◌∷◌, ◌++◌, append_assoc, append-nil}
use mathlib.Core.Option.{Option, some, none-ne-some}
use lib.Dec.{eqb, lit≤}
use lib.ListN.{length, length-append}
use lib.IntN.{ℤ, pos, negsuc, nat_abs, neg_ℤ, ◌-ℤ◌, +ℤ_idr}
use mir.Syntax.{w64}
use mir.Val.{SFits}
use Rattle.integers.proofs.Parts.{ints, abs, sub}
use borrow.Author.Tests.{eq-eqb, ne_eqb}
use Rattle.lists.specs.Each.{tabulate}
use Rattle.lists.proofs.Each.{length-tabulate}
use Rattle.model.specs.Tasks.{NumericCondition, RestrictedAction}
use Rattle.model.specs.Steps.{natural_at}
use Rattle.model.specs.Stages.{Stage, Name, left_over, opposite, falling, rising, turn}
use Rattle.model.specs.FourRelations.{all_in_four_relations}
use Rattle.model.specs.Lowering.{number_of_name, numbered_additions, numbered}
use Rattle.file_parts.specs.Layout.{MARKS, NUMBERS, condition_count, mode_condition_count, mode_effect_count, addition_count}
use Rattle.file_parts.specs.Row.{condition_in, mode_condition_in, mode_effect_in, addition_in, row_is, PartsFit, Says}
use Rattle.file_parts.specs.With.{condition, with_condition, with_conditions, with_addition, with_additions}
use Rattle.file_parts.proofs.Pushing.{Sized, parts-fit, pushed}
use Rattle.lowering_stages.proofs.Numbers.{one_less}
use Rattle.lowering_stages.specs.declared.Stage.{Stage as Numbers}
use Rattle.lowering_stages.specs.Stages.{signed_at, added_is, asked_is, given_is, stroke_is, turn_is, Stands, StandsAt}

-- ---- what a turn asks of its target is in the four relations as it is
pub asks-in-four : (s : Numbers) → all_in_four_relations (asked_is s) ≡ asked_is s
asks-in-four s = by s.bounded
  where
    by : (b : Bool) → (let cs = cond b (condition s.target 2 s.lower ∷ condition s.target 1 s.upper ∷ []) [] in all_in_four_relations cs ≡ cs)
    by true = refl
    by false = refl

-- ---- nothing more, and one more
pub same-additions : (x : RestrictedAction) → x ≡ with_additions x []
same-additions x = rw append-nil

pub same-conditions : (x : RestrictedAction) → x ≡ with_conditions x []
same-conditions x = rw append-nil

-- the last number below n + 1
tabulate-suc : {A : Type 0} (n : ℕ) (f : ℕ → A) → tabulate (suc n) f ≡ tabulate n f ++ (f n ∷ [])
unfolding tabulate
tabulate-suc zero f = refl
tabulate-suc (suc n) f = ap (λ z. f 0 ∷ z) (tabulate-suc n (λ k. f (suc k)))

tabulate-last : {A : Type 0} (n : ℕ) (f : ℕ → A) → tabulate (n + 1) f ≡ tabulate n f ++ (f n ∷ [])
tabulate-last n f = ap (λ (z : ℕ). tabulate z f) (add-one n) ∙ tabulate-suc n f

-- rows are as they are
pub own : {marks : List ℕ} {numbers : List ℤ} → length marks ≡ MARKS → length numbers ≡ NUMBERS → Says (row_is marks numbers) marks numbers
own h g = record { marks_long = h; numbers_long = g; is = refl }

pub said : {x y : RestrictedAction} {marks : List ℕ} {numbers : List ℤ} → x ≡ y → Says x marks numbers → Says y marks numbers
said e h = record { marks_long = h.marks_long; numbers_long = h.numbers_long; is = h.is ∙ e }

-- ---- the additions of a stroke, i of them made
pub record Adding (marks₀ : List ℕ) (numbers₀ : List ℤ) (falls : Bool) (s : Numbers) (count i : ℕ) (marks : List ℕ) (numbers : List ℤ) : Type 0 where
  pub counted : count ≡ s.added
  pub within : i ≤ count
  pub says : Says (with_additions (row_is marks₀ numbers₀) (tabulate i (signed_at falls s.variables s.amounts))) marks numbers

-- an amount of a source file is one of 64 bits
pub amount-fits : {x : ℤ} → nat_abs x ≤ 10000 → SFits w64 x
amount-fits {x} h = omega (ints, abs x, h)

pub adding-start : {marks : List ℕ} {numbers : List ℤ} (falls : Bool) (s : Numbers) → length marks ≡ MARKS → length numbers ≡ NUMBERS → Adding marks numbers falls s s.added 0 marks numbers
unfolding tabulate
adding-start {marks} {numbers} falls s h g = record { counted = refl; within = omega arith; says = said (same-additions (row_is marks numbers)) (own h g) }

-- of rows with a room, the sizes of what they say
module _ {marks₀ : List ℕ} (numbers₀ : List ℤ) {c p e a : ℕ} (r : PartsFit c p e a marks₀) where
  pub sized : Sized c p e a (row_is marks₀ numbers₀)
  sized = record {
    conditions = omega (arith, r.conditions, length-tabulate (natural_at marks₀ condition_count) (condition_in marks₀ numbers₀));
    mode_conditions = omega (arith, r.mode_conditions, length-tabulate (natural_at marks₀ mode_condition_count) (mode_condition_in marks₀));
    mode_effects = omega (arith, r.mode_effects, length-tabulate (natural_at marks₀ mode_effect_count) (mode_effect_in marks₀));
    additions = omega (arith, r.additions, length-tabulate (natural_at marks₀ addition_count) (addition_in marks₀ numbers₀));
  }

module _ {marks₀ : List ℕ} {numbers₀ : List ℤ} {falls : Bool} {s : Numbers} {count i : ℕ} {marks : List ℕ} {numbers : List ℤ} (h : Adding marks₀ numbers₀ falls s count i marks numbers) where
  pub adding-room : i < count → PartsFit 0 0 0 s.added marks₀ → PartsFit 0 0 0 1 marks
  adding-room l r =
      let z = sized numbers₀ r in
      let f = signed_at falls s.variables s.amounts in
      parts-fit h.says (record {
        conditions = z.conditions;
        mode_conditions = z.mode_conditions;
        mode_effects = z.mode_effects;
        additions = omega (arith, z.additions, h.counted, length-append (row_is marks₀ numbers₀).additions (tabulate i f), length-tabulate i f);
      })

  pub adding-next : {marks' : List ℕ} {numbers' : List ℤ} → i < count
      → Says (with_addition (row_is marks numbers) (signed_at falls s.variables s.amounts i)) marks' numbers' → Adding marks₀ numbers₀ falls s count (i + 1) marks' numbers'
  adding-next l w =
      let f = signed_at falls s.variables s.amounts in
      let x = row_is marks₀ numbers₀ in
      record {
        counted = h.counted;
        within = omega arith;
        says = said (ap (λ (z : List (ℕ × ℤ)). record { mode_conditions = x.mode_conditions; conditions = x.conditions; mode_effects = x.mode_effects; additions = z })
            (append_assoc x.additions (tabulate i f) (f i ∷ []) ∙ ap (λ (z : List (ℕ × ℤ)). x.additions ++ z) (sym (tabulate-last i f)))) (pushed h.says with_addition w);
      }

  pub adding-end : count ≤ i → Says (with_additions (row_is marks₀ numbers₀) (added_is falls s)) marks numbers
  adding-end l =
      let e : i ≡ s.added = omega (arith, h.counted, h.within) in
      rw e at h.says

-- ---- the numbers of a stage, told
pub given : {a : ℕ} {x : Stage} {r : Numbers} → Stands a x r → (d : Stage) → some x ≡ some d → Stands a d r
given {a} {x} {r} h d e = let f : x ≡ d = cc in subst (λ (z : Stage). Stands a z r) f h

pub known : {a : ℕ} {x : Stage} {r : Numbers} {o : Option Stage} → Stands a x r → o ≡ some x → (d : Stage) → o ≡ some d → Stands a d r
known h e d f = given h d (sym e ∙ f)

-- of two stages the second, where there is one
pub second : {a : ℕ} (x : Stage) {y : Stage} {r : Numbers} → Stands a y r → (j : ℕ) → (j ≡ 0 → ⊥) → StandsAt a (x ∷ y ∷ []) j r
second x h zero n = absurd (n refl)
second x h (suc zero) n = given h
second x h (suc (suc j)) n = λ d e. absurd (none-ne-some d e)

-- ---- the bounds of a target, and what a turn gives
module _ (marks : List ℕ) (numbers : List ℤ) (c : NumericCondition ℕ) {marks' : List ℕ} {numbers' : List ℤ} where
  pub bounds-room : PartsFit 2 0 0 0 marks → Says (with_condition (row_is marks numbers) c) marks' numbers' → PartsFit 1 0 0 0 marks'
  bounds-room r w =
      let z = sized numbers r in
      parts-fit w (record {
        conditions = omega (arith, z.conditions, length-append (row_is marks numbers).conditions (c ∷ []));
        mode_conditions = z.mode_conditions;
        mode_effects = z.mode_effects;
        additions = z.additions;
      })

  pub asked-said : (d : NumericCondition ℕ) {marks'' : List ℕ} {numbers'' : List ℤ} → Says (with_condition (row_is marks numbers) c) marks' numbers' → Says (with_condition (row_is marks' numbers') d) marks'' numbers''
      → Says (with_conditions (row_is marks numbers) (c ∷ d ∷ [])) marks'' numbers''
  asked-said d v w = said (rw append_assoc) (pushed v with_condition w)

pub nothing-given : (x : RestrictedAction) (a : ℕ) (z : ℤ) → z ≡ pos 0 → x ≡ with_additions x (given_is a z)
nothing-given x a z e = rw e (same-additions x)

pub something-given : (x : RestrictedAction) (a : ℕ) (z : ℤ) → (z ≡ pos 0 → ⊥) → with_addition x (a, z) ≡ with_additions x (given_is a z)
something-given x a (pos zero) h = absurd (h refl)
something-given x a (pos (suc n)) h = rw (ne_eqb (suc n) 0 (λ q. omega arith))
something-given x a (negsuc n) h = rw (ne_eqb (suc n) 0 (λ q. omega arith))

pub difference-fits : (x y : ℤ) → nat_abs x ≤ 20000 → nat_abs y ≤ 20000 → SFits w64 (x -ℤ y)
difference-fits x y h g = omega (ints, abs x, abs y, h, g)

pub difference-small : (x y : ℤ) → nat_abs x ≤ 10000 → nat_abs y ≤ 10000 → nat_abs (x -ℤ y) ≤ 20000
difference-small x y h g = omega (ints, sub x y, abs x, abs y, abs (x -ℤ y), h, g)

pub asked-few : (s : Numbers) → length (asked_is s) ≤ 2
asked-few s = few s.bounded (condition s.target 2 s.lower) (condition s.target 1 s.upper)
  where
    few : (b : Bool) (x y : NumericCondition ℕ) → length (cond b (x ∷ y ∷ []) []) ≤ 2
    few true x y = lit≤ tt
    few false x y = lit≤ tt

-- ---- the actions of the model
abbrev opposed_all : List (ℕ × ℤ) → List (ℕ × ℤ)
opposed_all [] = []
opposed_all (e ∷ es) = (e.0, neg_ℤ e.1) ∷ opposed_all es

opposed-tabulate : (n : ℕ) (f : ℕ → ℕ × ℤ) → tabulate n (λ i. ((f i).0, neg_ℤ (f i).1)) ≡ opposed_all (tabulate n f)
unfolding tabulate
opposed-tabulate zero f = refl
opposed-tabulate (suc n) f = ap (λ (z : List (ℕ × ℤ)). ((f 0).0, neg_ℤ (f 0).1) ∷ z) (opposed-tabulate n (λ k. f (suc k)))

module _ (a : ℕ) where
  opposed-numbered : (es : List (Name × ℤ)) → opposed_all (numbered_additions a es) ≡ numbered_additions a (opposite es)
  opposed-numbered [] = refl
  opposed-numbered (e ∷ es) = ap (λ (z : List (ℕ × ℤ)). (number_of_name a e.0, neg_ℤ e.1) ∷ z) (opposed-numbered es)

module _ (a m n : ℕ) {d : Stage} {s : Numbers} (h : Stands a d s) where
  whole : s.unit -ℤ s.deep ≡ pos (suc (left_over d.kind))
  whole = ap₂ ◌-ℤ◌ h.unit h.deep ∙ +ℤ_idr (pos (suc (left_over d.kind)))

  least : pos 0 -ℤ s.deep ≡ pos 0
  least = ap (λ (z : ℤ). pos 0 -ℤ z) h.deep

  most : (s.unit -ℤ s.deep) -ℤ pos 1 ≡ pos (left_over d.kind)
  most = ap (λ (z : ℤ). z -ℤ pos 1) whole ∙ one_less (left_over d.kind)

  pub falling-is : stroke_is true m n s ≡ numbered a m (falling n d)
  falling-is = rw (h.counter, whole, h.adds, eq-eqb n n refl)

  -- the opposites
  opposed : (count : ℕ) (variables : List ℕ) (amounts : List ℤ) (es : List (Name × ℤ)) → tabulate count (signed_at true variables amounts) ≡ numbered_additions a es
      → tabulate count (signed_at false variables amounts) ≡ numbered_additions a (opposite es)
  opposed count variables amounts es e = opposed-tabulate count (signed_at true variables amounts) ∙ ap opposed_all e ∙ opposed-numbered a es

  pub rising-is : stroke_is false m n s ≡ numbered a m (rising n d)
  rising-is = rw (h.counter, h.deep, opposed s.added s.variables s.amounts d.additions h.adds, eq-eqb n n refl)

  pub turn_is_lem : (next : ℕ) → eqb n next ≡ false → turn_is a m n next s ≡ numbered a m (turn n d next)
  turn_is_lem next e = rw (h.counter, most, least, h.asks, h.gives, e)
