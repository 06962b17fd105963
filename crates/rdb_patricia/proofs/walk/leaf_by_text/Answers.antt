use Rattle.std.proofs.Common.{ap}
use Rattle.rdb_patricia.specs.Bits.{bit_at}
use Rattle.rdb_patricia.proofs.PlugLemmas.{leaf_there, leaf_is}
use Rattle.rdb_patricia.proofs.walk.leaf_by_text.Goals as goal

pub read-requires : goal.read-requires
read-requires g c =
    let r = c.requires in
    leaf_there r.0 (g.C.Cells.image c.args.cells.now) c.args.root.number r.1 r.2 r.3 (bit_at c.args.text.now) c.down_by_text.result (c.down_by_text.ensures r.1 r.2)

pub returns : goal.returns
returns g c = λ said trie part keyed.
    leaf_is said (g.C.Cells.image c.args.cells.now) c.args.root.number trie part keyed (bit_at c.args.text.now) c.down_by_text.result (c.down_by_text.ensures trie part)
    c.read.result.now c.read.ensures c.of_cell.result.version (ap (λ e. e.version) c.of_cell.ensures.value)
