-- What is read from a text is a schema, and is read again from its canonical text.
use Rattle.std.proofs.Common.{ℕ, List, sym, ap, ◌∙◌, subst}
use Rattle.rdb_schema.specs.declared.schema.Schema.{Schema}
use Rattle.rdb_schema.specs.Rules.{BreaksNoRule}
use Rattle.rdb_schema.specs.Meaning.{declared}
use Rattle.rdb_schema.specs.Schemas.{IsSchema}
use Rattle.rdb_ddl.specs.Canonical.{canonical}
use Rattle.rdb_ddl.specs.Read.{IsRead}
use Rattle.rdb_schema.proofs.Declaring.{declares}
use Rattle.rdb_schema.proofs.SoundSchemas.{Sound, sound}
use Rattle.rdb_ddl.proofs.CanonicalTexts.{has_the_parts}
use Rattle.rdb_ddl.proofs.Shapes.{grammar_fits}

sound_text : (text : List ℕ) (schema : Schema) → IsRead text schema → Sound schema
sound_text text schema read = subst Sound (sym read.declares) (sound read.parsed.syntax (grammar_fits text read.parsed read.parts) read.no_fault)

pub is_schema : (text : List ℕ) (schema : Schema) → IsRead text schema → IsSchema schema
is_schema text schema read = (sound_text text schema read).whole

pub read_again : (text : List ℕ) (schema : Schema) → IsRead text schema → IsRead (canonical schema) schema
read_again text schema read =
    let whole = sound_text text schema read in
    let has = has_the_parts schema whole.whole.spelled in
    record {
      parsed = has.parsed;
      parts = has.parts;
      no_fault = subst BreaksNoRule (sym has.same) whole.keeps;
      declares = sym (ap declared has.same ∙ declares schema whole.whole.resolved);
    }
