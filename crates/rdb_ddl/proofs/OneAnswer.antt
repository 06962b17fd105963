-- A text that is read isn't refused.
use Rattle.std.proofs.Common.{◌≡◌, ℕ, List, Some, None, Ok, Err, sym, ◌∙◌, subst}
use Rattle.rdb_schema.specs.declared.schema.Schema.{Schema}
use Rattle.rdb_schema.specs.declared.syntax.DdlCause.{DdlCause}
use Rattle.rdb_schema.specs.declared.syntax.DdlCause.TheVariants.{Unexpected, Unknown, Twice, BadKey, TooMany, NoMemory}
use Rattle.rdb_schema.specs.Rules.{BreaksNoRule}
use Rattle.rdb_ddl.specs.declared.fault.DdlFault.{DdlFault}
use Rattle.rdb_ddl.specs.Grammar.{Parsed}
use Rattle.rdb_ddl.specs.Read.{IsRead, IsFaultIn, BreaksRule, IsRefused}

no_rule : (text : List ℕ) (schema : Schema) (fault : DdlFault) → IsRead text schema → BreaksRule text fault → ⊥
no_rule text schema fault read breaks =
    let same : Ok read.parsed ≡ Ok breaks.parsed = sym read.parts ∙ breaks.parts in
    let parsed : read.parsed ≡ breaks.parsed = cc in
    let none = subst (λ (p : Parsed). BreaksNoRule p.syntax) parsed read.no_fault breaks.at breaks.first.within in
    let both : None ≡ Some fault.cause = sym none ∙ breaks.first.breaks in
    cc

by_cause : (text : List ℕ) (schema : Schema) (fault : DdlFault) (cause : DdlCause) → IsRead text schema → IsFaultIn text fault cause → (cause ≡ NoMemory → ⊥) → ⊥
by_cause text schema fault Unexpected read first told =
    let both : Ok read.parsed ≡ Err first.left = sym read.parts ∙ first.refused in
    cc
by_cause text schema fault Unknown read first told = no_rule text schema fault read first
by_cause text schema fault Twice read first told = no_rule text schema fault read first
by_cause text schema fault BadKey read first told = no_rule text schema fault read first
by_cause text schema fault TooMany read first told = no_rule text schema fault read first
by_cause text schema fault NoMemory read first told = told cc

pub not_both : (text : List ℕ) (schema : Schema) (fault : DdlFault) → IsRead text schema → IsRefused text fault → ⊥
not_both text schema fault read refused = by_cause text schema fault fault.cause read refused.first refused.told

-- a text is read as one schema
pub one_schema : (text : List ℕ) (one other : Schema) → IsRead text one → IsRead text other → one ≡ other
one_schema text one other a b =
    let same : Ok a.parsed ≡ Ok b.parsed = sym a.parts ∙ b.parts in
    let parsed : a.parsed ≡ b.parsed = cc in
    cc
