-- The parts of the text are those that were read, so what they declare is a schema.
use Rattle.std.proofs.Common.{Result, subst}
use Rattle.rdb_ddl.specs.declared.parse.Parsed.{Parsed}
use Rattle.rdb_ddl.specs.declared.parse.Refused.{Refused}
use Rattle.rdb_ddl.specs.Grammar.{grammar}
use Rattle.rdb_ddl.specs.Read.{GivesParts, parsed_of}
use Rattle.rdb_ddl.proofs.Shapes.{grammar_fits}
use Rattle.rdb_ddl.proofs.reader.read.Goals as goal

pub returns-in-Ok-clause-schema : goal.returns-in-Ok-clause-schema
returns-in-Ok-clause-schema c =
    let read = subst (λ (read : Result Parsed Refused). GivesParts read (grammar c.args.text.now)) c.in-Ok-Ok.field-0-is c.in-Ok-Ok.ensures.parts in
    c.in-Ok.ensures.schema (grammar_fits c.args.text.now (parsed_of c.in-Ok-Ok.parsed) read)
