-- `file_check::Reading::refuse_bare` meets its contract: the byte is a command's, whose size says whether the command is cut short. Assumes nothing.
use native.Mathlib.Omega.{arith}
use Rattle.file_check.specs.Views.{limits_of, state_of}
use Rattle.file_check.proofs.Bare.{cut-before-term, missing-term}
use Rattle.file_check.proofs.Reading.refuse_bare.Goals as goal

pub returns-then-rest-size_of : goal.returns-then-rest-size_of
returns-then-rest-size_of c =
    cut-before-term (limits_of c.args.l.now) (state_of c.args.self.now) c.args.rest.now c.requires.0 c.requires.1 c.requires.2
    (omega (arith, c.size_of.ensures.0))

pub returns-else-rest-size_of : goal.returns-else-rest-size_of
returns-else-rest-size_of c =
    missing-term (limits_of c.args.l.now) (state_of c.args.self.now) c.args.rest.now c.requires.0 c.requires.1 c.requires.2
    (omega (arith, c.size_of.ensures.0))
