-- The bytes of a file, where it could be read, in the words of the definitions.
-- Assumes nothing.
use Rattle.std.specs.Prelude.{List, ℕ, Option, Some, None}
use Rattle.std.specs.Borrow.{Bor}
use Rattle.std.proofs.Math.Option as math

abbrev pub file_of : Option (Bor (List ℕ)) → math.Option (List ℕ)
file_of None = math.none
file_of (Some bytes) = math.some bytes.now
