use Rattle.std.proofs.Common.{◌∙◌, sym}
use Rattle.rdb_tree.proofs.SeekLemmas.{last_at}
use Rattle.rdb_tree.proofs.lookup.last_of.Goals as goal

pub returns : goal.returns
returns c = c.copied.ensures ∙ c.last.ensures.value ∙ sym (last_at c.args.versions.now)
