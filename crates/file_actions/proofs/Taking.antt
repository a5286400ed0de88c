-- Commands taken into a parts row one by one: one part more, where there is room.
-- Assumes nothing.
use mathlib.Core.Path.{◌≡◌, refl, ◌∙◌, sym, ap, subst⁻¹}
use mathlib.Core.Bool.{Bool, true, false, cond}
use mathlib.Core.List.{List, [], ◌∷◌, ◌++◌, append-nil, map, map-append}
use Prim.Native.Nat.{ℕ, ◌<◌, ◌≤◌}
use native.Mathlib.Omega.{arith}
use lib.Dec.{T, eqb, leb, ltb, lit<}
use lib.IntN.{ℤ}
use lib.ListN.{length, length-append, length-take, take, get_or, get_or-eq_default}
use lib.Seq.{take-nil, take_all, take-append-le}
use borrow.Author.Tests.{ne_eqb, ltb-false}
use Rattle.answers.specs.declared.Reason.TheVariants.{CutShort}
use Rattle.commands.specs.Table.{Row, rows, table, row_at, size_of_row, letter_a, letter_c, letter_p, letter_e, letter_g, plus_sign}
use Rattle.commands.specs.Reading.{command_at, read_row}
use Rattle.commands.specs.Encoding.{byte_of, row_number, NoRefusal}
use Rattle.commands.specs.declared.Command.{Command}
use Rattle.commands.specs.declared.Command.TheVariants.{Condition, ModeCondition, ModeEffect, Add, Refused}
use Rattle.commands.proofs.Known.{read_as}
use Rattle.model.specs.Rules.{constant}
use Rattle.model.specs.Tasks.{NumericCondition, RestrictedAction}
use Rattle.model.specs.Steps.{natural_at}
use Rattle.model.specs.Decoding.{those, is_edge, condition_of, pair_of, amount_of, additions_of}
use Rattle.file_parts.specs.Layout.{condition_room, mode_condition_room, mode_effect_room, addition_room, condition_count}
use Rattle.file_parts.specs.Layout.{mode_condition_count, mode_effect_count, addition_count}
use Rattle.file_parts.specs.Row.{row_is, Says}
use Rattle.file_parts.specs.With.{condition, blank_action, with_condition, with_mode_condition, with_mode_effect, with_addition}
use Rattle.file_parts.proofs.Pushing.{Sized, pushed, says-as, conditions-counted, mode-conditions-counted, mode-effects-counted, additions-counted}
use Rattle.file_actions.specs.Views.{fitting_restricted}
use Rattle.file_actions.specs.Taking.{parts_of, Takes}

-- ---- the parts of commands, and of more
abbrev joined : RestrictedAction → RestrictedAction → RestrictedAction
joined p q = record {
  mode_conditions = p.mode_conditions ++ q.mode_conditions;
  conditions = p.conditions ++ q.conditions;
  mode_effects = p.mode_effects ++ q.mode_effects;
  additions = p.additions ++ q.additions;
}

those-append : (b : ℕ) (xs ys : List Command) → those b (xs ++ ys) ≡ those b xs ++ those b ys
those-append b [] ys = refl
those-append b (x ∷ xs) ys = go (eqb (byte_of x) b) (those-append b xs ys)
  where
    go : (t : Bool) → those b (xs ++ ys) ≡ those b xs ++ those b ys
        → cond t (x ∷ those b (xs ++ ys)) (those b (xs ++ ys)) ≡ cond t (x ∷ those b xs) (those b xs) ++ those b ys
    go true e = ap (λ (z : List Command). x ∷ z) e
    go false e = e

made-append : {A : Type 0} (f : Command → A) (b : ℕ) (xs ys : List Command) → map f (those b (xs ++ ys)) ≡ map f (those b xs) ++ map f (those b ys)
made-append f b xs ys = ap (map f) (those-append b xs ys) ∙ map-append f (those b xs) (those b ys)

either-append : (r : Bool) (xs ys : List Command) → cond r (additions_of (xs ++ ys)) [] ≡ cond r (additions_of xs) [] ++ cond r (additions_of ys) []
either-append true xs ys = made-append amount_of plus_sign xs ys
either-append false xs ys = refl

parts-append : (r : Bool) (xs ys : List Command) → parts_of r (xs ++ ys) ≡ joined (parts_of r xs) (parts_of r ys)
parts-append r xs ys i = record {
  mode_conditions = made-append pair_of letter_p xs ys i;
  conditions = made-append condition_of letter_c xs ys i;
  mode_effects = made-append pair_of letter_e xs ys i;
  additions = either-append r xs ys i;
}

-- ---- as many as there is room for
stays : {A : Type 0} (room : ℕ) (all : List A) → take room all ≡ take room (all ++ [])
stays room all = ap (take room) (sym (append-nil all))

module _ {A : Type 0} (room : ℕ) (all : List A) (x : A) where
  grows : length (take room all) < room → take room all ++ (x ∷ []) ≡ take room (all ++ (x ∷ []))
  grows h =
      let n : length all < room = omega (arith, length-take room all) in
      ap (λ (z : List A). z ++ (x ∷ [])) (take_all room all (omega arith)) ∙ sym (take_all room (all ++ (x ∷ [])) (omega (arith, length-append all (x ∷ []))))

  full : room ≤ length (take room all) → take room all ≡ take room (all ++ (x ∷ []))
  full h = sym (take-append-le room all (x ∷ []) (omega (arith, length-take room all)))

pub fitting-sized : (p : RestrictedAction) → Sized 0 0 0 0 (fitting_restricted p)
fitting-sized p = record {
  conditions = omega (arith, length-take condition_room p.conditions);
  mode_conditions = omega (arith, length-take mode_condition_room p.mode_conditions);
  mode_effects = omega (arith, length-take mode_effect_room p.mode_effects);
  additions = omega (arith, length-take addition_room p.additions);
}

-- what fits of p and q, by its four lists
fitting-joined : (p q x : RestrictedAction)
    → x.mode_conditions ≡ take mode_condition_room (p.mode_conditions ++ q.mode_conditions) → x.conditions ≡ take condition_room (p.conditions ++ q.conditions)
    → x.mode_effects ≡ take mode_effect_room (p.mode_effects ++ q.mode_effects) → x.additions ≡ take addition_room (p.additions ++ q.additions)
    → x ≡ fitting_restricted (joined p q)
fitting-joined p q x ps cs es more i = record { mode_conditions = ps i; conditions = cs i; mode_effects = es i; additions = more i }

module _ (p : RestrictedAction) where
  same-modes : take mode_condition_room p.mode_conditions ≡ take mode_condition_room (p.mode_conditions ++ [])
  same-modes = stays mode_condition_room p.mode_conditions

  same-conditions : take condition_room p.conditions ≡ take condition_room (p.conditions ++ [])
  same-conditions = stays condition_room p.conditions

  same-effects : take mode_effect_room p.mode_effects ≡ take mode_effect_room (p.mode_effects ++ [])
  same-effects = stays mode_effect_room p.mode_effects

  same-additions : take addition_room p.additions ≡ take addition_room (p.additions ++ [])
  same-additions = stays addition_room p.additions

  -- one part more, of each kind, where there is room and where there is none
  fits-none : fitting_restricted p ≡ fitting_restricted (joined p blank_action)
  fits-none = fitting-joined p blank_action (fitting_restricted p) same-modes same-conditions same-effects same-additions

  module _ (x : NumericCondition ℕ) where
    fits-condition : length (take condition_room p.conditions) < condition_room
        → with_condition (fitting_restricted p) x ≡ fitting_restricted (joined p (with_condition blank_action x))
    fits-condition h =
        fitting-joined p (with_condition blank_action x) (with_condition (fitting_restricted p) x)
        same-modes (grows condition_room p.conditions x h) same-effects same-additions

    full-conditions : condition_room ≤ length (take condition_room p.conditions)
        → fitting_restricted p ≡ fitting_restricted (joined p (with_condition blank_action x))
    full-conditions h =
        fitting-joined p (with_condition blank_action x) (fitting_restricted p) same-modes (full condition_room p.conditions x h) same-effects same-additions

  module _ (x : ℕ × ℕ) where
    fits-mode-condition : length (take mode_condition_room p.mode_conditions) < mode_condition_room
        → with_mode_condition (fitting_restricted p) x ≡ fitting_restricted (joined p (with_mode_condition blank_action x))
    fits-mode-condition h = fitting-joined p (with_mode_condition blank_action x) (with_mode_condition (fitting_restricted p) x)
        (grows mode_condition_room p.mode_conditions x h) same-conditions same-effects same-additions

    full-mode-conditions : mode_condition_room ≤ length (take mode_condition_room p.mode_conditions)
        → fitting_restricted p ≡ fitting_restricted (joined p (with_mode_condition blank_action x))
    full-mode-conditions h = fitting-joined p (with_mode_condition blank_action x) (fitting_restricted p)
        (full mode_condition_room p.mode_conditions x h) same-conditions same-effects same-additions

    fits-mode-effect : length (take mode_effect_room p.mode_effects) < mode_effect_room
        → with_mode_effect (fitting_restricted p) x ≡ fitting_restricted (joined p (with_mode_effect blank_action x))
    fits-mode-effect h = fitting-joined p (with_mode_effect blank_action x) (with_mode_effect (fitting_restricted p) x)
        same-modes same-conditions (grows mode_effect_room p.mode_effects x h) same-additions

    full-mode-effects : mode_effect_room ≤ length (take mode_effect_room p.mode_effects)
        → fitting_restricted p ≡ fitting_restricted (joined p (with_mode_effect blank_action x))
    full-mode-effects h =
        fitting-joined p (with_mode_effect blank_action x) (fitting_restricted p)
        same-modes same-conditions (full mode_effect_room p.mode_effects x h) same-additions

  module _ (x : ℕ × ℤ) where
    fits-addition : length (take addition_room p.additions) < addition_room
        → with_addition (fitting_restricted p) x ≡ fitting_restricted (joined p (with_addition blank_action x))
    fits-addition h =
        fitting-joined p (with_addition blank_action x) (with_addition (fitting_restricted p) x)
        same-modes same-conditions same-effects (grows addition_room p.additions x h)

    full-additions : addition_room ≤ length (take addition_room p.additions)
        → fitting_restricted p ≡ fitting_restricted (joined p (with_addition blank_action x))
    full-additions h =
        fitting-joined p (with_addition blank_action x) (fitting_restricted p) same-modes same-conditions same-effects (full addition_room p.additions x h)

-- ---- a command is taken
pub nothing-taken : (r : Bool) → blank_action ≡ fitting_restricted (parts_of r [])
nothing-taken r i = record {
  mode_conditions = sym (take-nil mode_condition_room) i;
  conditions = sym (take-nil condition_room) i;
  mode_effects = sym (take-nil mode_effect_room) i;
  additions = none r i;
}
  where
    none : (r : Bool) → [] ≡ take addition_room (cond r (additions_of []) [])
    none true = sym (take-nil addition_room)
    none false = sym (take-nil addition_room)

-- c gives the parts q
module _ (r : Bool) (c : Command) {q : RestrictedAction} (gives : parts_of r (c ∷ []) ≡ q) where
  onto : (passed : List Command) → fitting_restricted (joined (parts_of r passed) q) ≡ fitting_restricted (parts_of r (passed ++ (c ∷ [])))
  onto passed =
      ap (λ (z : RestrictedAction). fitting_restricted (joined (parts_of r passed) z)) (sym gives)
      ∙ ap fitting_restricted (sym (parts-append r passed (c ∷ [])))

  -- they are pushed; or the rows stay
  module _ (marks : List ℕ) (numbers : List ℤ) where
    taken : {B : Type 0} (f : RestrictedAction → B → RestrictedAction) {x : B} {marks' : List ℕ} {numbers' : List ℤ}
        → Says (f (row_is marks numbers) x) marks' numbers'
        → ((p : RestrictedAction) → Says (fitting_restricted p) marks numbers → f (fitting_restricted p) x ≡ fitting_restricted (joined p q))
        → Takes r c marks numbers marks' numbers'
    taken f w e passed h = says-as (pushed h f w) (e (parts_of r passed) h ∙ onto passed)

    kept : ((p : RestrictedAction) → Says (fitting_restricted p) marks numbers → fitting_restricted p ≡ fitting_restricted (joined p q))
        → Takes r c marks numbers marks numbers
    kept e passed h = says-as h (e (parts_of r passed) h ∙ onto passed)

-- a command of no part
passed-by : (r : Bool) (c : Command) (marks : List ℕ) (numbers : List ℤ) → parts_of r (c ∷ []) ≡ blank_action → Takes r c marks numbers marks numbers
passed-by r c marks numbers e = kept r c e marks numbers (λ p h. fits-none p)

-- what C, P and E give
condition-gives : (v k bits : ℕ) (r : Bool) → parts_of r (Condition v k bits ∷ []) ≡ with_condition blank_action (condition v k (constant bits))
condition-gives v k bits true = refl
condition-gives v k bits false = refl

mode-condition-gives : (v w : ℕ) (r : Bool) → parts_of r (ModeCondition v w ∷ []) ≡ with_mode_condition blank_action (v, w)
mode-condition-gives v w true = refl
mode-condition-gives v w false = refl

mode-effect-gives : (v w : ℕ) (r : Bool) → parts_of r (ModeEffect v w ∷ []) ≡ with_mode_effect blank_action (v, w)
mode-effect-gives v w true = refl
mode-effect-gives v w false = refl

-- they and + are taken, or not, by whether there is room
module _ (r : Bool) (marks : List ℕ) (numbers : List ℤ) where
  pub condition-taken : (v k bits : ℕ) {marks' : List ℕ} {numbers' : List ℤ} → natural_at marks condition_count < condition_room
      → Says (with_condition (row_is marks numbers) (condition v k (constant bits))) marks' numbers'
      → Takes r (Condition v k bits) marks numbers marks' numbers'
  condition-taken v k bits few w = taken r (Condition v k bits) (condition-gives v k bits r) marks numbers with_condition w
      (λ p h. fits-condition p _ (omega (arith, few, conditions-counted h)))

  pub condition-dropped : (v k bits : ℕ) → condition_room ≤ natural_at marks condition_count → Takes r (Condition v k bits) marks numbers marks numbers
  condition-dropped v k bits all = kept r (Condition v k bits) (condition-gives v k bits r) marks numbers
      (λ p h. full-conditions p _ (omega (arith, all, conditions-counted h)))

  pub mode-condition-taken : (v w : ℕ) {marks' : List ℕ} {numbers' : List ℤ} → natural_at marks mode_condition_count < mode_condition_room
      → Says (with_mode_condition (row_is marks numbers) (v, w)) marks' numbers' → Takes r (ModeCondition v w) marks numbers marks' numbers'
  mode-condition-taken v w few z = taken r (ModeCondition v w) (mode-condition-gives v w r) marks numbers with_mode_condition z
      (λ p h. fits-mode-condition p _ (omega (arith, few, mode-conditions-counted h)))

  pub mode-condition-dropped : (v w : ℕ) → mode_condition_room ≤ natural_at marks mode_condition_count → Takes r (ModeCondition v w) marks numbers marks numbers
  mode-condition-dropped v w all = kept r (ModeCondition v w) (mode-condition-gives v w r) marks numbers
      (λ p h. full-mode-conditions p _ (omega (arith, all, mode-conditions-counted h)))

  pub mode-effect-taken : (v w : ℕ) {marks' : List ℕ} {numbers' : List ℤ} → natural_at marks mode_effect_count < mode_effect_room
      → Says (with_mode_effect (row_is marks numbers) (v, w)) marks' numbers' → Takes r (ModeEffect v w) marks numbers marks' numbers'
  mode-effect-taken v w few z = taken r (ModeEffect v w) (mode-effect-gives v w r) marks numbers with_mode_effect z
      (λ p h. fits-mode-effect p _ (omega (arith, few, mode-effects-counted h)))

  pub mode-effect-dropped : (v w : ℕ) → mode_effect_room ≤ natural_at marks mode_effect_count → Takes r (ModeEffect v w) marks numbers marks numbers
  mode-effect-dropped v w all = kept r (ModeEffect v w) (mode-effect-gives v w r) marks numbers
      (λ p h. full-mode-effects p _ (omega (arith, all, mode-effects-counted h)))

module _ (marks : List ℕ) (numbers : List ℤ) (v bits : ℕ) where
  pub addition-taken : {marks' : List ℕ} {numbers' : List ℤ} → natural_at marks addition_count < addition_room
      → Says (with_addition (row_is marks numbers) (v, constant bits)) marks' numbers' → Takes true (Add v bits) marks numbers marks' numbers'
  addition-taken few w = taken true (Add v bits) refl marks numbers with_addition w (λ p h. fits-addition p _ (omega (arith, few, additions-counted h)))

  pub addition-dropped : addition_room ≤ natural_at marks addition_count → Takes true (Add v bits) marks numbers marks numbers
  addition-dropped all = kept true (Add v bits) refl marks numbers (λ p h. full-additions p _ (omega (arith, all, additions-counted h)))

-- ---- by the byte

-- the byte of row i: the command is that row's, or it is cut short
pub of_row : (s : List ℕ) (i : ℕ) → i < rows → 0 < length s → get_or s 0 0 ≡ (row_at i).byte
    → (P : Command → Type 0) → P (read_row s i) → P (Refused CutShort) → P (command_at s)
of_row s i few some b P whole short = subst⁻¹ P (read_as s i few some b) (go (leb (size_of_row i) (length s)))
  where
    go : (t : Bool) → P (cond t (read_row s i) (Refused CutShort))
    go true = whole
    go false = short

-- a command of row i that is cut short is not taken
pub cut-passed : (r : Bool) (marks : List ℕ) (numbers : List ℤ) (c : Command) → c ≡ Refused CutShort → Takes r c marks numbers marks numbers
cut-passed r marks numbers c e = subst⁻¹ (λ (d : Command). Takes r d marks numbers marks numbers) e (short r)
  where
    short : (r : Bool) → Takes r (Refused CutShort) marks numbers marks numbers
    short true = passed-by true (Refused CutShort) marks numbers refl
    short false = passed-by false (Refused CutShort) marks numbers refl

-- the + of a source action is no part
pub addition-passed : (s : List ℕ) → 0 < length s → get_or s 0 0 ≡ plus_sign
    → (marks : List ℕ) (numbers : List ℤ) → Takes false (command_at s) marks numbers marks numbers
addition-passed s some b marks numbers =
    passed-by false (command_at s) marks numbers (of_row s 7 (lit< tt) some b (λ (c : Command). parts_of false (c ∷ []) ≡ blank_action) refl refl)

-- any other byte; a command that is refused has none
module _ (b : ℕ) (c : Command) (byte : NoRefusal c → byte_of c ≡ b) where
  pub not_byte : (x : ℕ) → 0 < x → (b ≡ x → ⊥) → eqb (byte_of c) x ≡ false
  not_byte x h n = ne_eqb (byte_of c) x (λ e. go (ltb (row_number c) rows) refl e)
    where
      go : (t : Bool) → ltb (row_number c) rows ≡ t → byte_of c ≡ x → ⊥
      go true k e = n (sym (byte (subst⁻¹ T k tt)) ∙ e)
      go false k e = omega (arith, h, e, ap (λ (r : Row). r.byte) (get_or-eq_default table (row_at rows) (ltb-false (row_number c) rows k)))

  pub other-inside : (b ≡ letter_a → ⊥) → (b ≡ letter_g → ⊥) → is_edge c ≡ false
  other-inside no_a no_g = rw (not_byte letter_g (omega arith) no_g, not_byte letter_a (omega arith) no_a)

  none_of : {A : Type 0} (f : Command → A) (x : ℕ) → 0 < x → (b ≡ x → ⊥) → map f (those x (c ∷ [])) ≡ []
  none_of f x h n = ap (λ (t : Bool). map f (cond t (c ∷ []) [])) (not_byte x h n)

  pub other-passed : (b ≡ letter_c → ⊥) → (b ≡ letter_p → ⊥) → (b ≡ letter_e → ⊥) → (b ≡ plus_sign → ⊥)
      → (r : Bool) (marks : List ℕ) (numbers : List ℤ) → Takes r c marks numbers marks numbers
  other-passed no_c no_p no_e no_plus r marks numbers = passed-by r c marks numbers (λ i. record {
    mode_conditions = none_of pair_of letter_p (omega arith) no_p i;
    conditions = none_of condition_of letter_c (omega arith) no_c i;
    mode_effects = none_of pair_of letter_e (omega arith) no_e i;
    additions = none r i;
  })
    where
      none : (r : Bool) → cond r (additions_of (c ∷ [])) [] ≡ []
      none true = none_of amount_of plus_sign (omega arith) no_plus
      none false = refl
