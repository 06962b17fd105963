-- The words that tell why a schema is refused.
use Rattle.std.specs.Prelude.{ℕ, List, codes}
use Rattle.rdb_schema.specs.declared.syntax.DdlCause.{DdlCause}
use Rattle.rdb_schema.specs.declared.syntax.DdlCause.TheVariants.{Unexpected, Unknown, Twice, BadKey, TooMany, NoMemory}

-- the word of a cause
abbrev pub cause_word : DdlCause → List ℕ
cause_word Unexpected = codes "unexpected"
cause_word Unknown = codes "unknown"
cause_word Twice = codes "twice"
cause_word BadKey = codes "badkey"
cause_word TooMany = codes "toomany"
cause_word NoMemory = codes "memory"
