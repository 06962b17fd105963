use Rattle.std.proofs.Common.{rules, ◌≡◌, sym, subst}
use Rattle.rdb_schema.specs.Rules.{BreaksNoRule}
use Rattle.rdb_schema.specs.Meaning.{declared}
use Rattle.rdb_schema.specs.Schemas.{IsSchema}
use Rattle.rdb_schema.proofs.SoundSchemas.{declares_schema}
use Rattle.rdb_schema.proofs.resolver.resolve.Goals as goal

pub returns-clause-schema : goal.returns-clause-schema
returns-clause-schema c = λ are.
    let is : c.in_ok-declared.field-0 ≡ declared c.args.syntax.now = search rules in
    let no_fault : BreaksNoRule c.args.syntax.now = search rules in
    subst IsSchema (sym is) (declares_schema c.args.syntax.now no_fault are)
