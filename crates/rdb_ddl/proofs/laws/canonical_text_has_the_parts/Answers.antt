use Rattle.rdb_ddl.proofs.CanonicalTexts.{has_the_parts}
use Rattle.rdb_ddl.proofs.laws.canonical_text_has_the_parts.Goals as goal

pub returns : goal.returns
returns c = has_the_parts
