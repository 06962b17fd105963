use Rattle.rdb_core.proofs.LookLemmas.{few_in}
use Rattle.rdb_core.proofs.looks.standing.Goals as goal

pub standing-requires : goal.standing-requires
standing-requires g c = few_in c.args.state.now c.args.c c.requires.whole
