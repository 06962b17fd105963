use Rattle.rdb_ddl.proofs.ShortTexts.{short}
use Rattle.rdb_ddl.proofs.laws.canonical_text_is_short.Goals as goal

pub returns : goal.returns
returns c = short
