use Rattle.rdb_words.proofs.Ends.{read_by_clap}
use Rattle.rdb_words.proofs.simple_command.words_are_read.Goals as goal

pub returns : goal.returns
returns c = read_by_clap
