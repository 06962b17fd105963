-- Line by line.
use Rattle.rdb_bindings.proofs.LineFits.{lines_fit}
use Rattle.rdb_bindings.proofs.laws.filled_lines_fit.Goals as goal

pub returns : goal.returns
returns c = lines_fit
