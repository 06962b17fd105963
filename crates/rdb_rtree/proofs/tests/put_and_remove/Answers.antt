use Rattle.std.proofs.Common.{◌∷◌}
use Rattle.std.proofs.lemmas.List.Sorted.{Contains-permutation}
use Rattle.rdb_cells.specs.Keys.{says}
use Rattle.rdb_cells.specs.Work.{work, reading}
use Rattle.rdb_cells.proofs.ListedLemmas.{contains_first}
use Rattle.rdb_rtree.proofs.tests.put_and_remove.Goals as goal

pub remove-requires-clause-has : goal.remove-requires-clause-has
remove-requires-clause-has g c =
    let lacks = c.requires.lacks in
    let came = c.put.ensures.puts lacks.listed lacks.nodes lacks.lists lacks.unlisted in
    record {
      listed = came.0.listed;
      nodes = came.0.now_nodes;
      lists = came.0.lists;
      within = Contains-permutation (c.args.version ∷ lacks.listed) came.0.listed c.args.version came.1 (contains_first c.args.version lacks.listed);
    }

pub refs-requires : goal.refs-requires
refs-requires g c =
    let lacks = c.requires.lacks in
    let came = c.put.ensures.puts lacks.listed lacks.nodes lacks.lists lacks.unlisted in
    let gone = (c.remove.ensures.removes came.0.listed came.0.now_nodes came.0.lists (Contains-permutation (c.args.version ∷ lacks.listed) came.0.listed c.args.version came.1 (contains_first c.args.version lacks.listed))).0 in
    (says (g.K.Keys.meaning c.args.keys.now) (reading (work g.C.Cells c.remove.new.cells)), gone.listed, gone.now_nodes, gone.lists)
