-- A source file that is accepted.
-- Assumes nothing.
use Rattle.std.specs.Prelude.{◌≡◌, ℕ}
use Rattle.model.specs.Reading.{Verdict, Accepted, Rejected}

-- a verdict that accepts a file with so many actions
abbrev pub AcceptedWith : Verdict → ℕ → Type 0
AcceptedWith (Accepted variables modes actions) count = actions ≡ count
AcceptedWith (Rejected number place) count = ⊥
