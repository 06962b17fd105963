-- What a read of the machine's files tells of its budget.
use Rattle.std.specs.Prelude.{◌≡◌, ℕ}
use Rattle.rdb_base.specs.declared.files.ReadFault.{ReadFault}
use Rattle.rdb_base.specs.declared.files.ReadFault.TheVariants as fault

-- a file that is too long is so for this budget
abbrev pub IsLimit : ℕ → ReadFault → Type 0
IsLimit budget (fault.TooLong limit) = limit ≡ budget
IsLimit budget fault.Failed = Unit
IsLimit budget fault.NoMemory = Unit
