-- The tests of the rules, as the code makes them.
-- Assumes nothing.
use mathlib.Core.Path.{◌≡◌, sym, ◌∙◌}
use mathlib.Core.Bool.{Bool}
use borrow.Author.Rules.{rules}
use borrow.Author.Tests.{le-leb, lt-leb, lt-ltb, le-ltb}

-- by what the tests of a rule are told from the branches of the code
pub ruleset tests = (rules, le-leb, lt-leb, le-ltb, lt-ltb)

-- what a branch on a call's answer says of the answer's definition
pub told : {r t b : Bool} → r ≡ t → r ≡ b → t ≡ b
told e h = sym e ∙ h
