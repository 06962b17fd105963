-- The numbers of the statuses.
use Rattle.std.specs.Prelude.{ℕ, List, map, Contains}
use Rattle.rdb_runner.specs.declared.status.Status.{Status}
use Rattle.rdb_runner.specs.declared.status.Status.TheVariants.{Done, Usage, Unreadable, BadSchema, BadScript, BadSchedule, CutOff, NoMemory, BadReport, NotBuilt}

-- the number of each status
abbrev pub number_of : Status → ℕ
number_of Done = 0
number_of Usage = 2
number_of Unreadable = 3
number_of BadSchema = 4
number_of BadScript = 5
number_of BadSchedule = 6
number_of CutOff = 7
number_of NoMemory = 8
number_of BadReport = 9
number_of NotBuilt = 10

-- the answer is the number of one of these statuses
abbrev pub IsOneOf : List Status → ℕ → Type 0
IsOneOf statuses answer = Contains (map number_of statuses) answer
