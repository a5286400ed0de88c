-- A step by rows is the step of the action that they are the rows of.
-- Assumes nothing.
use mathlib.Core.Path.{◌≡◌, refl, sym, ap, ap₂, ◌∙◌}
use Prim.Native.Nat.{ℕ, ◌≤◌}
use native.Mathlib.Omega.{arith}
use mathlib.Core.Bool.{Bool, true, false, cond, ◌&&◌, false≢true}
use mathlib.Core.Option.{none, some}
use mathlib.Core.List.{List, [], ◌∷◌, ◌++◌}
use lib.ListN.{length, length-append, length-drop, take, drop}
use lib.Seq.{length-take-le, take_at}
use lib.IntN.{ℤ}
use Rattle.integers.specs.All.{All}
use Rattle.lists.specs.Loops.{every}
use Rattle.lists.proofs.Loops.{and_left, and_right}
use Rattle.model.specs.Tasks.{Effect, SourceAction}
use Rattle.model.specs.Steps.{integer_at, natural_at, modes_hold, conditions_hold, within_bounds, results, set_all, modes_below_sizes}
use Rattle.model.specs.Judging.{declared_part}
use Rattle.source_step.specs.Parts.{effects_fit, values_between, modes_below}
use Rattle.source_step.specs.Step.{state, step_of, handed_back, settled, Shaped, Tried}
use Rattle.source_step.proofs.Sound.{tabulate-same, length-settled, values-sound, modes-sound, settled_is}
use Rattle.source_step.proofs.Steps.{after, asked, one-fails, all_pass, step-asks}
use Rattle.source_step.proofs.Trying.{length-set_all}
use Rattle.source_step.specs.Sizes.{VARIABLES}
use Rattle.source_step.specs.Row.{values_in, modes_in, modes_after, effect_count_at, target_at, result_at, outcomes_at, stays_in, sums_hold}
use Rattle.source_step.specs.Row.{held, values_after, Usable, Reads, RowOf, Stepped, Finished}
use Rattle.source_step.proofs.Results.{within-by-number, outcomes-are}

-- four tests in the order of the rows and in that of the model
four-fail : {A : Type 0} (v m p c : Bool) (rest : List Bool) (y : A) → ((m && p) && (v && c)) ≡ false → asked (v ∷ m ∷ p ∷ c ∷ rest) y ≡ none
four-fail true true true true rest y e = absurd (false≢true (sym e))
four-fail true true true false rest y e = refl
four-fail true true false c rest y e = refl
four-fail true false p c rest y e = refl
four-fail false m p c rest y e = refl

-- a state that passes the test of the rows has values of a source file
pub read-when-held : {n : ℕ} (m : ℕ) {marks : List ℕ} {numbers sums : List ℤ} (values : List ℤ) (modes : List ℕ) → n ≤ VARIABLES
    → Usable n marks numbers sums → held n m marks numbers sums values modes ≡ true → Reads n values marks numbers
read-when-held {n} m {marks} {numbers} {sums} values modes l u h =
    let inside = and_right (modes_in m marks modes) (values_in n numbers values && sums_hold n marks sums values) h in
    record { variables_few = l; near = u.near values (and_left (values_in n numbers values) (sums_hold n marks sums values) inside); effects = u.effects }

-- the test of the rows asks the ranges first, then the conditions on sums
and_assoc : (a b c : Bool) → (a && (b && c)) ≡ ((a && b) && c)
and_assoc true b c = refl
and_assoc false b c = refl

ranges-first : (n m : ℕ) (marks : List ℕ) (numbers sums values : List ℤ) (modes : List ℕ) {b : Bool} → (modes_in m marks modes && values_in n numbers values) ≡ b
    → held n m marks numbers sums values modes ≡ (b && sums_hold n marks sums values)
ranges-first n m marks numbers sums values modes e =
    let rest = sums_hold n marks sums values in
    and_assoc (modes_in m marks modes) (values_in n numbers values) rest ∙ ap (λ (b : Bool). b && rest) e

pub out_of_range : (n m : ℕ) (marks : List ℕ) (numbers sums values : List ℤ) (modes : List ℕ)
    → (modes_in m marks modes && values_in n numbers values) ≡ false → held n m marks numbers sums values modes ≡ false
out_of_range n m marks numbers sums values modes e = ranges-first n m marks numbers sums values modes e

-- every mode and value lies between what the rows say
pub record RangesHold (n m : ℕ) (marks : List ℕ) (numbers values : List ℤ) (modes : List ℕ) : Type 0 where
  pub passes : (modes_in m marks modes && values_in n numbers values) ≡ true

module _ {n m : ℕ} {marks : List ℕ} {numbers : List ℤ} {values : List ℤ} {modes : List ℕ} (h : RangesHold n m marks numbers values modes) where
  pub sums-decide : (sums : List ℤ) → held n m marks numbers sums values modes ≡ sums_hold n marks sums values
  sums-decide sums = ranges-first n m marks numbers sums values modes h.passes

  pub read-in-range : n ≤ VARIABLES → {sums : List ℤ} → Usable n marks numbers sums → Reads n values marks numbers
  read-in-range l u =
      record {
        variables_few = l;
        near = u.near values (and_right (modes_in m marks modes) (values_in n numbers values) h.passes);
        effects = u.effects;
      }

-- ---- what the ways through a step come to
module _ {n m : ℕ} {marks : List ℕ} {numbers : List ℤ} {values : List ℤ} {modes : List ℕ} where
  pub not-held : (sums : List ℤ) → held n m marks numbers sums values modes ≡ false → Stepped n m marks numbers sums values modes false values modes
  not-held sums e = record { is = rw e refl; values_are = rw e refl; modes_are = rw e refl }

  pub stays : {values' : List ℤ} → stays_in n marks numbers values ≡ false → values' ≡ values → Finished n m marks numbers values modes false values' modes
  stays f s = record { is = rw f refl; values_are = rw f s; modes_are = rw f refl }

  pub goes : {values' : List ℤ} {modes' : List ℕ} → stays_in n marks numbers values ≡ true
      → values' ≡ values_after n marks numbers values → modes' ≡ modes_after m marks modes → Finished n m marks numbers values modes true values' modes'
  goes f s t = record { is = rw f refl; values_are = rw f s; modes_are = rw f t }

  -- the test passed, and the rest was taken: the whole step
  pub behind-the-test : (sums : List ℤ) → held n m marks numbers sums values modes ≡ true → {r : Bool} {values' : List ℤ} {modes' : List ℕ}
      → Finished n m marks numbers values modes r values' modes' → Stepped n m marks numbers sums values modes r values' modes'
  behind-the-test sums e F = record { is = rw e F.is; values_are = rw e F.values_are; modes_are = rw e F.modes_are }

module _ {n m : ℕ} {marks : List ℕ} {numbers : List ℤ} {values : List ℤ} {modes : List ℕ} where
  module _ {lower upper : List ℤ} {sizes : List ℕ} {sums : List ℤ} {a : SourceAction} (S : Shaped n m values modes sizes)
      (R : RowOf n m lower upper sizes marks numbers sums a) where
    -- the bounds in the row are those of the target
    pub bounds-are : stays_in n marks numbers values ≡ within_bounds (integer_at (take n lower)) (integer_at (take n upper)) (results a.effects (integer_at (take n values)))
    bounds-are =
        ap (every (λ b. b)) (tabulate-same (effect_count_at marks) _ _ (λ e h. rw (R.lower_at e h, R.upper_at e h)))
        ∙ sym (within-by-number (integer_at (take n lower)) (integer_at (take n upper)) (effect_count_at marks) (target_at marks) (result_at n marks numbers values))
        ∙ ap (within_bounds (integer_at (take n lower)) (integer_at (take n upper))) (sym (outcomes-are n marks numbers values))
        ∙ ap (λ (es : List Effect). within_bounds (integer_at (take n lower)) (integer_at (take n upper)) (results es (integer_at (take n values)))) R.effects

    length-set-modes : length (set_all a.mode_effects (take m modes)) ≡ m
    length-set-modes = length-set_all a.mode_effects (take m modes) ∙ length-take-le m modes (omega (arith, S.modes_long, S.modes_few))

    sets : modes_after m marks modes ≡ set_all a.mode_effects (take m modes) ++ drop m modes
    sets = R.sets modes (omega (arith, S.modes_long, S.modes_few))

    length-modes-after : length (modes_after m marks modes) ≡ 4
    length-modes-after = ap length sets ∙ omega (arith, length-append (set_all a.mode_effects (take m modes)) (drop m modes), length-set-modes, length-drop m modes, S.modes_long, S.modes_few)

    front-modes : take m (modes_after m marks modes) ≡ set_all a.mode_effects (take m modes)
    front-modes = ap (take m) sets ∙ take_at _ (drop m modes) m length-set-modes

    -- the tests of a step, by the rows
    abbrev made : List Bool
    made =
        values_between n lower upper values
        ∷ modes_below m sizes modes
        ∷ modes_hold a.mode_conditions (natural_at (take m modes))
        ∷ conditions_hold a.conditions (integer_at (take n values))
        ∷ effects_fit a.effects (integer_at (take n values))
        ∷ modes_below m sizes (modes_after m marks modes)
        ∷ stays_in n marks numbers values
        ∷ []

    below-after : modes_below_sizes (take m sizes) (set_all a.mode_effects (take m modes)) ≡ modes_below m sizes (modes_after m marks modes)
    below-after =
        ap (modes_below_sizes (take m sizes)) (sym front-modes)
        ∙ modes-sound m sizes (modes_after m marks modes) (omega (arith, S.sizes_long, S.modes_few)) (omega (arith, length-modes-after, S.modes_few))

    step-made : step_of (take n lower) (take n upper) (take m sizes) (declared_part n m (state values modes)) a ≡ asked made (after (declared_part n m (state values modes)) a)
    step-made =
        step-asks (take n lower) (take n upper) (take m sizes) (declared_part n m (state values modes)) a
        ∙ rw (values-sound n lower upper values (omega (arith, S.values_long, S.variables_few)), modes-sound m sizes modes (omega (arith, S.sizes_long, S.modes_few)) (omega (arith, S.modes_long, S.modes_few)), below-after, bounds-are) refl

    rows_are_lem : held n m marks numbers sums values modes
        ≡ ((modes_below m sizes modes && modes_hold a.mode_conditions (natural_at (take m modes)))
        && (values_between n lower upper values && conditions_hold a.conditions (integer_at (take n values))))
    rows_are_lem = ap₂ (λ (p q : Bool). p && q) (R.modes modes) (R.values values)

    refusal : {r : Bool} {values' : List ℤ} {modes' : List ℕ} → r ≡ false → values' ≡ values → modes' ≡ modes → asked made (after (declared_part n m (state values modes)) a) ≡ none → Tried n m lower upper sizes values modes a r values' modes'
    refusal p s t e =
        rw (p, s, t) (record { meets = ap (handed_back n m (state values modes)) (sym (step-made ∙ e)); declares = step-made ∙ e; values_long = S.values_long; modes_long = S.modes_long })

    fails-before : held n m marks numbers sums values modes ≡ false → asked made (after (declared_part n m (state values modes)) a) ≡ none
    fails-before e =
        (four-fail (values_between n lower upper values) (modes_below m sizes modes) (modes_hold a.mode_conditions (natural_at (take m modes))) (conditions_hold a.conditions (integer_at (take n values)))
        (effects_fit a.effects (integer_at (take n values)) ∷ modes_below m sizes (modes_after m marks modes) ∷ stays_in n marks numbers values ∷ [])
        (after (declared_part n m (state values modes)) a) (sym rows_are_lem ∙ e))

    module _ (h : held n m marks numbers sums values modes ≡ true) where
      before : All (λ (b : Bool). b ≡ true) (values_between n lower upper values ∷ modes_below m sizes modes ∷ modes_hold a.mode_conditions (natural_at (take m modes)) ∷ conditions_hold a.conditions (integer_at (take n values)) ∷ [])
      before =
          let mb = modes_below m sizes modes in
          let mh = modes_hold a.mode_conditions (natural_at (take m modes)) in
          let vb = values_between n lower upper values in
          let ch = conditions_hold a.conditions (integer_at (take n values)) in
          let e = sym rows_are_lem ∙ h in
          let p = and_left (mb && mh) (vb && ch) e in
          let q = and_right (mb && mh) (vb && ch) e in
          (and_left vb ch q, (and_left mb mh p, (and_right mb mh p, (and_right vb ch q, tt))))

      passed : stays_in n marks numbers values ≡ true → asked made (after (declared_part n m (state values modes)) a) ≡ some (after (declared_part n m (state values modes)) a)
      passed w =
          let b = before in
          all_pass made _ (b.0, (b.1.0, (b.1.1.0, (b.1.1.1.0, (R.fits values b.0, (R.sets_below modes (omega (arith, S.modes_long, S.modes_few)) b.1.0, (w, tt)))))))

    passes : {r : Bool} {values' : List ℤ} {modes' : List ℕ} → r ≡ true → held n m marks numbers sums values modes ≡ true
        → stays_in n marks numbers values ≡ true → values' ≡ settled n (outcomes_at n marks numbers values) values → modes' ≡ modes_after m marks modes
        → Tried n m lower upper sizes values modes a r values' modes'
    passes {r} {values'} {modes'} p h w s t =
        let o = results a.effects (integer_at (take n values)) in
        let u : values' ≡ settled n o values = s ∙ ap (λ (es : List Effect). settled n (results es (integer_at (take n values))) values) R.effects in
        let v = u ∙ settled_is n o values in
        let y = t ∙ sets in
        let some_is = step-made ∙ passed h w in
        rw p (record {
          meets = ap₂ (λ (vs : List ℤ) (ms : List ℕ). (true, state vs ms)) v y ∙ ap (handed_back n m (state values modes)) (sym some_is);
          declares = some_is ∙ ap₂ (λ (vs : List ℤ) (ms : List ℕ). some (state vs ms)) (sym (ap (take n) v ∙ take_at _ (drop n values) n (front-values o))) (sym (ap (take m) t ∙ front-modes));
          values_long = ap length u ∙ length-settled n o values ∙ S.values_long;
          modes_long = ap length t ∙ length-modes-after;
        })
      where
        front-values : (ps : List (ℕ × ℤ)) → length (set_all ps (take n values)) ≡ n
        front-values ps = length-set_all ps (take n values) ∙ length-take-le n values (omega (arith, S.values_long, S.variables_few))

    -- THE LAW, in every state
    pub tried : {r : Bool} {values' : List ℤ} {modes' : List ℕ} → Stepped n m marks numbers sums values modes r values' modes'
        → Tried n m lower upper sizes values modes a r values' modes'
    tried {r} {values'} {modes'} T =
        go (held n m marks numbers sums values modes) (stays_in n marks numbers values) refl refl T.is T.values_are T.modes_are
      where
        go : (h w : Bool) → held n m marks numbers sums values modes ≡ h → stays_in n marks numbers values ≡ w
            → r ≡ (h && w) → values' ≡ cond (h && w) (values_after n marks numbers values) values → modes' ≡ cond (h && w) (modes_after m marks modes) modes → Tried n m lower upper sizes values modes a r values' modes'
        go true true e f p s t = passes p e f s t
        go true false e f p s t = refusal p s t (one-fails made 6 _ f)
        go false w e f p s t = refusal p s t (fails-before e)
