-- `lowering_stages::result_in` meets its contract: effect by effect. Assumes nothing.
use native.Mathlib.Numerals.{add-one}
use Rattle.lowering_stages.proofs.result_in.Goals as goal

pub returns-in-Quotient : goal.returns-in-Quotient
returns-in-Quotient c = rw c.in-Quotient.is (add-one c.args.a)
