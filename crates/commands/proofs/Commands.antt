-- What holds of every command: a fact that holds of the command of each row, whatever its operands, and of every refusal holds of each command. So a law over
-- all commands needs no clause for each: where it is an equation, antt computes the one side into the other, once for all rows (`same`).
-- Assumes nothing.
use mathlib.Core.Bool.{true}
use mathlib.Core.List.{List, [], ◌∷◌, map}
use mathlib.Core.Path.{◌≡◌, refl, sym, ap, ◌∙◌, subst}
use Prim.Native.Nat.{ℕ, zero, suc}
use lib.Dec.{T, ltb, ltb→lt}
use lib.ListN.{get_or}
use Rattle.integers.specs.All.{All}
use Rattle.integers.proofs.All.{all_map}
use Rattle.commands.specs.Table.{rows, row_of}
use Rattle.commands.specs.Reading.{commands, made}
use Rattle.commands.specs.Encoding.{row_number, operands, byte_of, NoRefusal}
use Rattle.answers.specs.declared.Reason.{Reason}
use Rattle.answers.specs.declared.Reason.TheVariants.{NotAllowed}
use Rattle.commands.specs.declared.Command.{Command}
use Rattle.commands.specs.declared.Command.TheVariants.{Variable, Start, Mode, Action, Condition, ModeCondition, ModeEffect, Add, Linear, Term, Quotient}
use Rattle.commands.specs.declared.Command.TheVariants.{Residue, Goal, End, Sum, Refused}
use Rattle.commands.proofs.Rows.{row-of-byte}

-- it holds at each place of the list
at : (P : Command → Type 0) (d : Command) → P d → (cs : List Command) → All P cs → (i : ℕ) → P (get_or cs i d)
at P d h [] a i = h
at P d h (c ∷ cs) (a, as₁) zero = a
at P d h (c ∷ cs) (a, as₁) (suc i) = at P d h cs as₁ i

module _ (P : Command → Type 0) (row : (x y z : ℕ) → All P (commands x y z)) (refusal : (reason : Reason) → P (Refused reason)) where
  of : (x y z i : ℕ) → P (get_or (commands x y z) i (Refused NotAllowed))
  of x y z i = at P (Refused NotAllowed) (refusal NotAllowed) (commands x y z) (row x y z) i

  pub every-command : (c : Command) → P c
  every-command (Variable lower upper start) = of lower upper start 0
  every-command (Start start) = of start 0 0 1
  every-command (Mode size start) = of size start 0 2
  every-command Action = of 0 0 0 3
  every-command (Condition var relation constant) = of var relation constant 4
  every-command (ModeCondition mode value) = of mode value 0 5
  every-command (ModeEffect mode value) = of mode value 0 6
  every-command (Add var constant) = of var constant 0 7
  every-command (Linear target constant) = of target constant 0 8
  every-command (Term var weight) = of var weight 0 9
  every-command (Quotient target operand divisor) = of target operand divisor 10
  every-command (Residue target operand divisor) = of target operand divisor 11
  every-command Goal = of 0 0 0 12
  every-command End = of 0 0 0 13
  every-command (Sum relation constant) = of relation constant 0 14
  every-command (Refused reason) = refusal reason

-- ---- what is said of the commands of all rows at once
all_same : {A : Type 0} (f g : Command → A) (cs : List Command) → map f cs ≡ map g cs → All (λ (c : Command). f c ≡ g c) cs
all_same f g [] e = tt
all_same f g (c ∷ cs) e = (cc, all_same f g cs (cc))

module _ {A : Type 0} (f g : Command → A) (row : (x y z : ℕ) → map f (commands x y z) ≡ map g (commands x y z)) where
  pub same : ((reason : Reason) → f (Refused reason) ≡ g (Refused reason)) → (c : Command) → f c ≡ g c
  same = every-command (λ (c : Command). f c ≡ g c) (λ x y z. all_same f g (commands x y z) (row x y z))

  pub same_row : (c : Command) → NoRefusal c → f c ≡ g c
  same_row = every-command (λ (c : Command). NoRefusal c → f c ≡ g c)
      (λ x y z. all_map (λ (c : Command). f c ≡ g c) (λ (c : Command). NoRefusal c → f c ≡ g c) (λ c e h. e) (commands x y z)
      (all_same f g (commands x y z) (row x y z)))
      (λ reason h. absurd h)

-- a command is of the table, or it is a refusal
pub row-or-refusal : (P : Command → Type 0) → ((c : Command) → NoRefusal c → P c) → ((reason : Reason) → P (Refused reason)) → (c : Command) → P c
row-or-refusal P h = every-command P (λ x y z. all_map (λ (c : Command). ltb (row_number c) rows ≡ true) P (λ c e. h c (subst T (sym e) tt)) (commands x y z)
    (all_same (λ (c : Command). ltb (row_number c) rows) (λ (c : Command). true) (commands x y z) refl))

-- ---- a command is its row and its operands
pub made_again : (c : Command) → NoRefusal c → made (row_number c) (operands c) ≡ c
made_again = same_row (λ (c : Command). made (row_number c) (operands c)) (λ (c : Command). c) (λ x y z. refl)

-- a command is known by its byte
pub by_byte : (c d : Command) → NoRefusal c → NoRefusal d → byte_of c ≡ byte_of d → c ≡ made (row_number d) (operands c)
by_byte c d h k e = sym (made_again c h) ∙ ap (λ (i : ℕ). made i (operands c)) (sym (row c h) ∙ ap row_of e ∙ row d k)
  where
    row : (c : Command) → NoRefusal c → row_of (byte_of c) ≡ row_number c
    row c h = row-of-byte (row_number c) (ltb→lt (row_number c) rows h)
