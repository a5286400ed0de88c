-- The bytes of actions are those of their parts, one behind another.
-- Assumes nothing.
use mathlib.Core.Path.{◌≡◌, refl, sym, ap, ◌∙◌}
use Prim.Native.Nat.{ℕ}
use mathlib.Core.List.{List, [], ◌∷◌, ◌++◌, append_assoc, flat_map}
use lib.IntN.{ℤ}
use Rattle.lists.proofs.Writing.{joined}
use Rattle.commands.specs.Encoding.{encode, encode_all}
use Rattle.commands.specs.declared.Command.{Command}
use Rattle.commands.specs.declared.Command.TheVariants.{Action, Condition, ModeCondition, ModeEffect, Add}
use Rattle.integers.specs.Numbers.{bits_of}
use Rattle.integers.specs.Relation.{relation_number}
use Rattle.model.specs.Tasks.{NumericCondition, RestrictedAction}
use Rattle.model.specs.Lowering.{variable_of, mode_condition_commands, condition_commands, mode_effect_commands, addition_commands, action_commands, actions_commands}
use Rattle.lowering_rows.specs.Bytes.{mode_condition_bytes, condition_bytes, mode_effect_bytes, addition_bytes, restricted_action_bytes}

-- ---- commands in front of others, one for each element of a list
module _ {A : Type 0} (command : A → Command) (put : List A → List Command → List Command)
    (none : (more : List Command) → put [] more ≡ more) (one : (x : A) (xs : List A) (more : List Command) → put (x ∷ xs) more ≡ command x ∷ put xs more) where
  pub run-bytes : (xs : List A) (more : List Command) → encode_all (put xs more) ≡ flat_map (λ x. encode (command x)) xs ++ encode_all more
  unfolding flat_map
  run-bytes [] more = ap encode_all (none more)
  run-bytes (x ∷ xs) more =
      ap encode_all (one x xs more) ∙ ap (λ (z : List ℕ). encode (command x) ++ z) (run-bytes xs more)
      ∙ sym (append_assoc (encode (command x)) (flat_map (λ x. encode (command x)) xs) (encode_all more))

pub mode-conditions-bytes : (ps : List (ℕ × ℕ)) (more : List Command) → encode_all (mode_condition_commands ps more) ≡ flat_map mode_condition_bytes ps ++ encode_all more
mode-conditions-bytes = run-bytes (λ p. ModeCondition p.0 p.1) mode_condition_commands (λ m. refl) (λ x xs m. refl)

pub conditions-bytes : (cs : List (NumericCondition ℕ)) (more : List Command) → encode_all (condition_commands cs more) ≡ flat_map condition_bytes cs ++ encode_all more
conditions-bytes = run-bytes (λ c. Condition (variable_of c.measured) (relation_number c.relation) (bits_of 4 c.constant)) condition_commands (λ m. refl) (λ x xs m. refl)

mode-effects-bytes : (es : List (ℕ × ℕ)) (more : List Command) → encode_all (mode_effect_commands es more) ≡ flat_map mode_effect_bytes es ++ encode_all more
mode-effects-bytes = run-bytes (λ e. ModeEffect e.0 e.1) mode_effect_commands (λ m. refl) (λ x xs m. refl)

additions-bytes : (es : List (ℕ × ℤ)) (more : List Command) → encode_all (addition_commands es more) ≡ flat_map addition_bytes es ++ encode_all more
additions-bytes = run-bytes (λ e. Add e.0 (bits_of 4 e.1)) addition_commands (λ m. refl) (λ x xs m. refl)

-- ---- an action
abbrev pub action_parts : RestrictedAction → List (List ℕ)
action_parts a =
    encode Action ∷ flat_map mode_condition_bytes a.mode_conditions ∷ flat_map condition_bytes a.conditions ∷ flat_map mode_effect_bytes a.mode_effects ∷ flat_map addition_bytes a.additions ∷ []

action-before : (a : RestrictedAction) (more : List Command) → encode_all (action_commands a more)
    ≡ encode Action ++ (flat_map mode_condition_bytes a.mode_conditions ++ (flat_map condition_bytes a.conditions ++ (flat_map mode_effect_bytes a.mode_effects ++ (flat_map addition_bytes a.additions ++ encode_all more))))
action-before a more =
    ap (λ (z : List ℕ). encode Action ++ z)
    (mode-conditions-bytes a.mode_conditions _
    ∙ ap (λ (z : List ℕ). flat_map mode_condition_bytes a.mode_conditions ++ z)
    (conditions-bytes a.conditions _
    ∙ ap (λ (z : List ℕ). flat_map condition_bytes a.conditions ++ z)
    (mode-effects-bytes a.mode_effects _
    ∙ ap (λ (z : List ℕ). flat_map mode_effect_bytes a.mode_effects ++ z) (additions-bytes a.additions more))))

pub action-parts : (a : RestrictedAction) → restricted_action_bytes a ≡ joined (action_parts a)
action-parts a = action-before a []

action-more : (a : RestrictedAction) (more : List Command) → encode_all (action_commands a more) ≡ restricted_action_bytes a ++ encode_all more
action-more a more = action-before a more ∙ sym (ap (λ (z : List ℕ). z ++ encode_all more) (action-parts a) ∙ simp append_assoc)

pub actions-bytes : (acts : List RestrictedAction) (more : List Command) → encode_all (actions_commands acts more) ≡ flat_map restricted_action_bytes acts ++ encode_all more
unfolding flat_map
actions-bytes [] more = refl
actions-bytes (a ∷ acts) more =
    action-more a (actions_commands acts more) ∙ ap (λ (z : List ℕ). restricted_action_bytes a ++ z) (actions-bytes acts more)
    ∙ sym (append_assoc (restricted_action_bytes a) (flat_map restricted_action_bytes acts) (encode_all more))
