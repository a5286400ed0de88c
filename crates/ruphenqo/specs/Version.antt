-- The version of the library. Assumes nothing.
use Rattle.std.specs.Prelude.{ℕ, ◌+◌, ◌*◌}

-- major * 10000 + minor * 100 + patch, of 1.3.0
abbrev pub VERSION : ℕ
VERSION = 1 * 10000 + 3 * 100 + 0
