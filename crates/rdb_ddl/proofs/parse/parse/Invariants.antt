use Rattle.std.proofs.Common.{◌≤◌, length}
use Rattle.rdb_ddl.specs.Grammar.{grammar}
use Rattle.rdb_ddl.specs.Read.{parsed_of, IsPlaced}
use Rattle.rdb_ddl.proofs.Reading.{Reads}
use Rattle.rdb_ddl.proofs.parse.parse.Given as goal

abbrev pub invariant-tokens : goal.invariant-tokens
invariant-tokens l = Reads (parsed_of l.parsed) l.expect l.rest (grammar l.text) × IsPlaced (parsed_of l.parsed) (length l.text) × (length l.rest ≤ length l.text)

abbrev pub decreases-tokens : goal.decreases-tokens
decreases-tokens l = length l.rest
