-- The pattern that lent output has before a call, and the checksum of bytes.
-- Assumes nothing.
use Rattle.std.specs.Prelude.{ℕ, ◌+◌, ◌*◌, ◌%◌, List, map}
use Rattle.std.specs.List.{fold, range_with_len}

-- so many bytes of the pattern: byte i is the remainder of i by 251
unfoldable pub pattern : ℕ → List ℕ
pattern n = map (λ i. i % 251) (range_with_len 0 n)

-- the checksum of one byte more
abbrev pub with_byte : ℕ → ℕ → ℕ
with_byte sum byte = (sum * 257 + byte + 1) % 1000000007

-- the checksum of bytes: from 0 on, one byte more at a time, the first one first
unfoldable pub checksum_of : List ℕ → ℕ
checksum_of bytes = fold with_byte 0 bytes
