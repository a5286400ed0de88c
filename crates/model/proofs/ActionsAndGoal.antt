-- Among the commands of an accepted file G stands once, behind every A; and its task has as many actions as the verdict says.
-- Assumes nothing.
use mathlib.Core.Path.{◌≡◌, refl, sym, ap, ◌∙◌}
use Prim.Native.Nat.{ℕ, ◌+◌, ◌≤◌}
use native.Mathlib.Omega.{arith}
use native.Mathlib.Nat.{add-zero, zero-add}
use mathlib.Core.Bool.{Bool, true, false, cond}
use mathlib.Core.List.{List, [], ◌∷◌}
use lib.ListN.{length}
use lib.Dec.{eqb}
use Rattle.integers.specs.All.{All}
use Rattle.integers.specs.Numbers.{Bytes}
use Rattle.commands.specs.Table.{letter_a, letter_g}
use Rattle.commands.specs.declared.Command.{Command}
use Rattle.commands.specs.Encoding.{byte_of}
use Rattle.model.specs.Limits.{Limits}
use Rattle.model.specs.ReadingState.{ReadingState, in_action, in_goal, begin}
use Rattle.model.specs.Rules.{rule_of}
use Rattle.model.specs.Reading.{Verdict, Accepted, Rejected, verdict_of, commands_of}
use Rattle.model.specs.Decoding.{is_edge, up_to, actions_of}
use Rattle.model.specs.Trail.{Trail, end_state}
use Rattle.model.proofs.CommandFacts.{no-edge-byte, edge-stands, section-taken, actions-taken}
use Rattle.model.proofs.AcceptedTrail.{Is, accepted-trail}

-- ---- A and G among commands
abbrev pub if_t : Bool → Type 0 → Type 0 → Type 0
if_t true A B = A
if_t false A B = B

abbrev pub NoEdge : List Command → Type 0
NoEdge cs = All (λ (c : Command). is_edge c ≡ false) cs

-- G stands there, and no A or G after it
abbrev pub GoalIn : List Command → Type 0
GoalIn [] = ⊥
GoalIn (c ∷ cs) = if_t (eqb (byte_of c) 71) (NoEdge cs) (GoalIn cs)

no_edge : (l : Limits) (cs : List Command) (p : ReadingState) → p.section ≡ in_goal → Trail l p cs → NoEdge cs
no_edge l [] p s t = tt
no_edge l (c ∷ cs) p s (a, g, t) = step (is_edge c) refl (λ s'. no_edge l cs (rule_of l p c).state s' t)
  where
    step : (b : Bool) → is_edge c ≡ b → ((rule_of l p c).state.section ≡ in_goal → NoEdge cs) → NoEdge (c ∷ cs)
    step true e f = absurd (omega (arith, s, edge-stands l p c e a))
    step false e f = let (x, y) = no-edge-byte c e in (e, f (section-taken l p c g ∙ rw (x, y) s))

pub goal-in : (l : Limits) (cs : List Command) (p : ReadingState) → p.section ≤ 2 → Trail l p cs → GoalIn cs
goal-in l [] p s t = omega (arith, s, t.0)
goal-in l (c ∷ cs) p s (a, g, t) =
    step (eqb (byte_of c) letter_g) (eqb (byte_of c) letter_a) (section-taken l p c g) (λ s'. goal-in l cs (rule_of l p c).state s' t)
  where
    step : (x y : Bool) → (rule_of l p c).state.section ≡ cond x in_goal (cond y in_action p.section) → ((rule_of l p c).state.section ≤ 2 → GoalIn cs)
        → if_t x (NoEdge cs) (GoalIn cs)
    step true y e f = no_edge l cs (rule_of l p c).state e t
    step false true e f = f (omega arith)
    step false false e f = f (omega arith)

-- the count of actions in the verdict is that of the task's actions
counted : (l : Limits) (cs : List Command) (p : ReadingState) → Trail l p cs → (end_state l p cs).actions ≡ p.actions + length (actions_of cs)
counted l [] p t = sym (add-zero p.actions)
counted l (c ∷ cs) p (a, g, t) = counted l cs (rule_of l p c).state t ∙ step (eqb (byte_of c) letter_a) (actions-taken l p c g)
  where
    step : (y : Bool) → (rule_of l p c).state.actions ≡ cond y (p.actions + 1) p.actions
        → (rule_of l p c).state.actions + length (actions_of cs) ≡ p.actions + length (cond y (up_to cs ∷ actions_of cs) (actions_of cs))
    step true e = omega arith
    step false e = omega arith

module _ (l : Limits) (file : List ℕ) (b : Bytes file) (h : Is (verdict_of l file)) where
  pub verdict-counts-actions : (v m a : ℕ) → verdict_of l file ≡ Accepted v m a → a ≡ length (actions_of (commands_of l file))
  verdict-counts-actions v m a e = let (t, w) = accepted-trail l file h in
      actions-of v m a (sym e ∙ w) ∙ counted l (commands_of l file) begin t ∙ zero-add (length (actions_of (commands_of l file)))
    where
      third : Verdict → ℕ
      third (Accepted x y z) = z
      third (Rejected n w) = 0

      actions-of : (v m a : ℕ) {v' m' a' : ℕ} → Accepted v m a ≡ Accepted v' m' a' → a ≡ a'
      actions-of v m a e = ap third e
