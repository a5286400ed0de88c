-- Document 01, "Files": what a task is, once its file is read. Variables, modes and actions go by number, from 0.
-- Assumes nothing.
use Rattle.std.specs.Prelude.{ℕ, List, ℤ}
use Rattle.integers.specs.Relation.{Relation}

-- What a condition compares: a variable (C), or the weighted sum of variables (K with its T: variable and weight of each)
pub data Measured (I : Type 0) : Type 0 where
  variable : I → Measured I
  weighted_sum : List (I × ℤ) → Measured I

-- C: a variable, a relation, a constant
pub record NumericCondition (I : Type 0) : Type 0 where
  pub measured : Measured I
  pub relation : Relation
  pub constant : ℤ

-- A numeric effect. add_effect is +: target, c. linear_effect is L with its T: target, w0, (variable, weight) of each term. quotient_effect is Q and
-- residue_effect R: target, operand, c
pub data Effect : Type 0 where
  add_effect : ℕ → ℤ → Effect
  linear_effect : ℕ → ℤ → List (ℕ × ℤ) → Effect
  quotient_effect : ℕ → ℕ → ℤ → Effect
  residue_effect : ℕ → ℕ → ℤ → Effect

-- P and E are pairs of a mode and a value. "An action may have up to three numeric effects, on different targets, all reading the state before"
pub record SourceAction : Type 0 where
  pub mode_conditions : List (ℕ × ℕ)
  pub conditions : List (NumericCondition ℕ)
  pub mode_effects : List (ℕ × ℕ)
  pub effects : List Effect

-- several + per action, each on another variable: pairs of a variable and what is added
pub record RestrictedAction : Type 0 where
  pub mode_conditions : List (ℕ × ℕ)
  pub conditions : List (NumericCondition ℕ)
  pub mode_effects : List (ℕ × ℕ)
  pub additions : List (ℕ × ℤ)

-- V
pub record SourceVariable : Type 0 where
  pub lower : ℤ
  pub upper : ℤ
  pub start : ℤ

-- M is a pair of a size and a start value
pub record SourceTask : Type 0 where
  pub variables : List SourceVariable
  pub modes : List (ℕ × ℕ)
  pub actions : List SourceAction
  pub goal_modes : List (ℕ × ℕ)
  pub goal_conditions : List (NumericCondition ℕ)

-- U is a start value
pub record RestrictedTask : Type 0 where
  pub starts : List ℤ
  pub modes : List (ℕ × ℕ)
  pub actions : List RestrictedAction
  pub goal_modes : List (ℕ × ℕ)
  pub goal_conditions : List (NumericCondition ℕ)

-- a state of a task of either kind: the value of each variable and of each mode
pub record State : Type 0 where
  pub values : List ℤ
  pub modes : List ℕ
