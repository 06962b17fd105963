-- What the writer answers.
use Rattle.std.specs.Prelude.{◌≡◌, ◌≤◌, ◌<◌, ◌^◌, ◌-◌, ℕ, min, List, length, Result, Ok, Err}
use Rattle.rdb_base.specs.declared.limits.TheConstants.{MAX_ROW}
use Rattle.rdb_access.specs.declared.encode.EncodeFault.{EncodeFault}
use Rattle.rdb_access.specs.declared.encode.EncodeFault.TheVariants.{TooLong, NoMemory}

-- A row with that encoding is encoded where it takes at most `MAX_ROW` bytes, and too long exactly where it takes more, by its length, which a
-- number of 32 bits holds as far as it can; or memory was wanting.
abbrev pub IsEncodeAnswer : List ℕ → Result (List ℕ) EncodeFault → Type 0
IsEncodeAnswer encoding (Ok bytes) = (bytes ≡ encoding) × (length encoding ≤ MAX_ROW)
IsEncodeAnswer encoding (Err (TooLong bytes)) = (MAX_ROW < length encoding) × (bytes ≡ min (length encoding) (2 ^ 32 - 1))
IsEncodeAnswer encoding (Err NoMemory) = Unit {0}
