-- The parts of an action, taken command by command: those of the commands passed are in the rows, and behind the last command that is all of them.
-- Assumes nothing.
use mathlib.Core.Path.{◌≡◌, refl, ◌∙◌, sym, ap, subst⁻¹}
use mathlib.Core.Bool.{Bool, true, false}
use mathlib.Core.List.{List, [], ◌∷◌, ◌++◌, append_assoc, append-nil}
use mathlib.Core.Logic.{inl, inr}
use Prim.Native.Nat.{ℕ, ◌+◌, ◌<◌, ◌≤◌}
use lib.Dec.{lit<}
use lib.IntN.{ℤ}
use lib.ListN.{length, get_or}
use types.Run.{OneOf}
use Rattle.commands.specs.Table.{letter_a, letter_c, letter_p, letter_e, letter_g, plus_sign}
use Rattle.commands.specs.Reading.{command_at}
use Rattle.commands.specs.declared.Command.{Command}
use Rattle.commands.proofs.Encoding.{byte-read}
use Rattle.model.specs.Decoding.{is_edge}
use Rattle.model.specs.ActionBytes.{decode_action}
use Rattle.file_parts.specs.Row.{PartsFit, Says}
use Rattle.file_parts.specs.With.{blank_action}
use Rattle.file_parts.proofs.Pushing.{parts-fit, says-as}
use Rattle.file_actions.specs.Places.{body_start}
use Rattle.file_actions.specs.Taking.{parts_of, Takes}
use Rattle.file_actions.specs.Views.{fitting_restricted}
use Rattle.file_actions.proofs.Taking.{of_row, fitting-sized, nothing-taken, addition-passed, other-inside, other-passed}
use Rattle.file_actions.proofs.Walking.{Turn, Left, left-begin, left_end, some, left-edge, left-next}

-- the rows say the parts of the commands before `rest`
pub record PartsTaken (s : List ℕ) (restricted : Bool) (marks : List ℕ) (numbers : List ℤ) (rest : List Command) : Type 0 where
  pub passed : List Command
  pub whole : decode_action s ≡ passed ++ rest
  pub parts : Says (fitting_restricted (parts_of restricted passed)) marks numbers

-- before the command at an offset
abbrev pub Gathering : List ℕ → Bool → ℕ → List ℕ → List ℤ → Type 0
Gathering s restricted at marks numbers = Left s at (PartsTaken s restricted marks numbers)

pub gathering-begin : (s : List ℕ) (restricted : Bool) {marks : List ℕ} {numbers : List ℤ} → Says blank_action marks numbers
    → Gathering s restricted (body_start s) marks numbers
gathering-begin s restricted {marks} {numbers} blank =
    left-begin s (PartsTaken s restricted marks numbers) (record { passed = []; whole = refl; parts = says-as blank (nothing-taken restricted) })

-- where none is left
all-gathered : {s : List ℕ} {restricted : Bool} {marks : List ℕ} {numbers : List ℤ} → PartsTaken s restricted marks numbers []
    → Says (fitting_restricted (parts_of restricted (decode_action s))) marks numbers
all-gathered {s} {restricted} p =
    says-as p.parts (ap (λ (z : List Command). fitting_restricted (parts_of restricted z)) (sym (p.whole ∙ append-nil p.passed)))

module _ {s : List ℕ} {restricted : Bool} {at : ℕ} {marks : List ℕ} {numbers : List ℤ} (g : Gathering s restricted at marks numbers) where
  -- what a push asks
  pub gathering-room : PartsFit 0 0 0 0 marks
  gathering-room = parts-fit g.holds.parts (fitting-sized (parts_of restricted g.holds.passed))

  -- after the last command
  pub gathering-end : length s ≤ at → Says (fitting_restricted (parts_of restricted (decode_action s))) marks numbers
  gathering-end h = all-gathered (left_end (PartsTaken s restricted marks numbers) g h)

module _ {s : List ℕ} {restricted : Bool} {at : ℕ} {marks : List ℕ} {numbers : List ℤ} {rest : List ℕ} {size : ℕ}
    (t : Turn s at rest size) (g : Gathering s restricted at marks numbers) where
  abbrev there : 0 < length rest
  there = some t (PartsTaken s restricted marks numbers) g

  pub turn-edge : OneOf (letter_a ∷ letter_g ∷ []) (get_or rest 0 0) → Says (fitting_restricted (parts_of restricted (decode_action s))) marks numbers
  turn-edge b = all-gathered (left-edge t (PartsTaken s restricted marks numbers) g b)

  turn : {marks' : List ℕ} {numbers' : List ℤ} → is_edge (command_at rest) ≡ false → Takes restricted (command_at rest) marks numbers marks' numbers'
      → Gathering s restricted (at + size) marks' numbers'
  turn {marks'} {numbers'} inside takes =
      left-next t (PartsTaken s restricted marks numbers) g inside (PartsTaken s restricted marks' numbers') (λ more behind p. record {
        passed = p.passed ++ (command_at rest ∷ []);
        whole = p.whole ∙ sym (append_assoc p.passed (command_at rest ∷ []) _);
        parts = takes p.passed p.parts;
      })

  module _ {marks' : List ℕ} {numbers' : List ℤ} (takes : Takes restricted (command_at rest) marks numbers marks' numbers') where
    pub turn-condition : get_or rest 0 0 ≡ letter_c → Gathering s restricted (at + size) marks' numbers'
    turn-condition b = turn (of_row rest 4 (lit< tt) there b (λ (c : Command). is_edge c ≡ false) refl refl) takes

    pub turn-mode-condition : get_or rest 0 0 ≡ letter_p → Gathering s restricted (at + size) marks' numbers'
    turn-mode-condition b = turn (of_row rest 5 (lit< tt) there b (λ (c : Command). is_edge c ≡ false) refl refl) takes

    pub turn-mode-effect : get_or rest 0 0 ≡ letter_e → Gathering s restricted (at + size) marks' numbers'
    turn-mode-effect b = turn (of_row rest 6 (lit< tt) there b (λ (c : Command). is_edge c ≡ false) refl refl) takes

  -- a + of a restricted action; and of a source one
  addition-inside : get_or rest 0 0 ≡ plus_sign → is_edge (command_at rest) ≡ false
  addition-inside b = of_row rest 7 (lit< tt) there b (λ (c : Command). is_edge c ≡ false) refl refl

  pub turn-addition : {marks' : List ℕ} {numbers' : List ℤ} → restricted ≡ true → Takes true (command_at rest) marks numbers marks' numbers'
      → get_or rest 0 0 ≡ plus_sign → Gathering s restricted (at + size) marks' numbers'
  turn-addition {marks'} {numbers'} r takes b =
      turn (addition-inside b) (subst⁻¹ (λ (z : Bool). Takes z (command_at rest) marks numbers marks' numbers') r takes)

  pub turn-add : restricted ≡ false → get_or rest 0 0 ≡ plus_sign → Gathering s restricted (at + size) marks numbers
  turn-add r b =
      turn (addition-inside b) (subst⁻¹ (λ (z : Bool). Takes z (command_at rest) marks numbers marks numbers) r (addition-passed rest there b marks numbers))

  pub turn-other : (get_or rest 0 0 ≡ letter_c → ⊥) → (get_or rest 0 0 ≡ letter_p → ⊥) → (get_or rest 0 0 ≡ letter_e → ⊥)
      → (get_or rest 0 0 ≡ plus_sign → ⊥) → (OneOf (letter_a ∷ letter_g ∷ []) (get_or rest 0 0) → ⊥) → Gathering s restricted (at + size) marks numbers
  turn-other no_c no_p no_e no_plus no_edge =
      turn (other-inside (get_or rest 0 0) (command_at rest) (byte-read rest) (λ b. no_edge (inl b)) (λ b. no_edge (inr b)))
      (other-passed (get_or rest 0 0) (command_at rest) (byte-read rest) no_c no_p no_e no_plus restricted marks numbers)
