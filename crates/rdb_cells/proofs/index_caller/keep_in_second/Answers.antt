use Rattle.std.proofs.Common.{◌≡◌, ◌+◌, ◌∷◌, ℕ, ap, arith}
use Rattle.std.specs.Prelude.{IsPermutation}
use Rattle.std.proofs.lemmas.Result.{IfOk-weaker}
use Rattle.rdb_cells.specs.Index.{IsListing}
use Rattle.rdb_cells.specs.IndexCaller.{Keyed, Listed, NeitherLists, keyed}
use Rattle.rdb_cells.specs.Work.{work, reading}
use Rattle.rdb_cells.proofs.CallerLemmas.{Change, Laws, PutIn, TakenFrom, second_lacks_it, first_has_it, second_stands, came_to_second, listed_second}
use Rattle.rdb_cells.proofs.IndexLemmas.{fewer_left}
use Rattle.rdb_cells.proofs.index_caller.keep_in_second.Goals as goal

pub put-requires-clause-free : goal.put-requires-clause-free
put-requires-clause-free g c =
    let first = (g.I.Index.nature c.args.first.now).part in
    let second = (g.J.Index.nature c.args.second.now).part in
    fewer_left (work g.C.Cells c.args.cells.now) second first (first + second) (omega arith) c.requires.free

pub put-requires-2-clause-lacks : goal.put-requires-2-clause-lacks
put-requires-2-clause-lacks g c =
    let one = keyed (g.I.Index.nature c.args.first.now) (g.K.Keys.meaning c.args.first_keys.now) in
    let two = keyed (g.J.Index.nature c.args.second.now) (g.L.Keys.meaning c.args.second_keys.now) in
    let w0 = work g.C.Cells c.args.cells.now in
    let w1 = work g.C.Cells c.put.new.cells in
    let one_laws : Laws one = record { rests = g.met.K.Keys.rests_on_versions c.args.first_keys.now; cells = g.met.I.Index.has_index_cells c.args.first.now; frame = g.met.I.Index.rests_on_nodes c.args.first.now } in
    let two_laws : Laws two = record { rests = g.met.L.Keys.rests_on_versions c.args.second_keys.now; cells = g.met.J.Index.has_index_cells c.args.second.now; frame = g.met.J.Index.rests_on_nodes c.args.second.now } in
    let put_first : PutIn one w0 w1 c.args.version = record { change = record { own = c.put.ensures.own; versions = c.put.ensures.versions; below = ap g.C.Cells.image c.put.ensures.below.0 }; puts = c.put.ensures.puts } in
    second_lacks_it one two one_laws two_laws c.args.version w0 w1 put_first c.requires.neither.0 c.requires.neither.1

pub remove-requires-clause-has : goal.remove-requires-clause-has
remove-requires-clause-has g c =
    let one = keyed (g.I.Index.nature c.args.first.now) (g.K.Keys.meaning c.args.first_keys.now) in
    let two = keyed (g.J.Index.nature c.args.second.now) (g.L.Keys.meaning c.args.second_keys.now) in
    let w0 = work g.C.Cells c.args.cells.now in
    let w1 = work g.C.Cells c.put.new.cells in
    let w2 = work g.C.Cells c.put-2.new.cells in
    let one_laws : Laws one = record { rests = g.met.K.Keys.rests_on_versions c.args.first_keys.now; cells = g.met.I.Index.has_index_cells c.args.first.now; frame = g.met.I.Index.rests_on_nodes c.args.first.now } in
    let two_laws : Laws two = record { rests = g.met.L.Keys.rests_on_versions c.args.second_keys.now; cells = g.met.J.Index.has_index_cells c.args.second.now; frame = g.met.J.Index.rests_on_nodes c.args.second.now } in
    let put_first : PutIn one w0 w1 c.args.version = record { change = record { own = c.put.ensures.own; versions = c.put.ensures.versions; below = ap g.C.Cells.image c.put.ensures.below.0 }; puts = c.put.ensures.puts } in
    let put_second : PutIn two w1 w2 c.args.version = record { change = record { own = c.put-2.ensures.own; versions = c.put-2.ensures.versions; below = ap g.C.Cells.image c.put-2.ensures.below.0 }; puts = c.put-2.ensures.puts } in
    first_has_it one two one_laws two_laws c.args.version w0 w1 put_first c.requires.neither.0 c.requires.neither.1 w2 put_second

pub refs-requires : goal.refs-requires
refs-requires g c =
    let one = keyed (g.I.Index.nature c.args.first.now) (g.K.Keys.meaning c.args.first_keys.now) in
    let two = keyed (g.J.Index.nature c.args.second.now) (g.L.Keys.meaning c.args.second_keys.now) in
    let w0 = work g.C.Cells c.args.cells.now in
    let w1 = work g.C.Cells c.put.new.cells in
    let w2 = work g.C.Cells c.put-2.new.cells in
    let w3 = work g.C.Cells c.remove.new.cells in
    let one_laws : Laws one = record { rests = g.met.K.Keys.rests_on_versions c.args.first_keys.now; cells = g.met.I.Index.has_index_cells c.args.first.now; frame = g.met.I.Index.rests_on_nodes c.args.first.now } in
    let two_laws : Laws two = record { rests = g.met.L.Keys.rests_on_versions c.args.second_keys.now; cells = g.met.J.Index.has_index_cells c.args.second.now; frame = g.met.J.Index.rests_on_nodes c.args.second.now } in
    let put_first : PutIn one w0 w1 c.args.version = record { change = record { own = c.put.ensures.own; versions = c.put.ensures.versions; below = ap g.C.Cells.image c.put.ensures.below.0 }; puts = c.put.ensures.puts } in
    let put_second : PutIn two w1 w2 c.args.version = record { change = record { own = c.put-2.ensures.own; versions = c.put-2.ensures.versions; below = ap g.C.Cells.image c.put-2.ensures.below.0 }; puts = c.put-2.ensures.puts } in
    let taken : TakenFrom one w2 w3 c.args.version = record { change = record { own = c.remove.ensures.own; versions = c.remove.ensures.versions; below = ap g.C.Cells.image c.remove.ensures.below.0 }; removes = c.remove.ensures.removes } in
    second_stands one two one_laws two_laws c.args.version w0 w1 put_first c.requires.neither.0 c.requires.neither.1 w2 put_second w3 taken

pub returns-clause-brought : goal.returns-clause-brought
returns-clause-brought g c l neither =
    let one = keyed (g.I.Index.nature c.args.first.now) (g.K.Keys.meaning c.args.first_keys.now) in
    let two = keyed (g.J.Index.nature c.args.second.now) (g.L.Keys.meaning c.args.second_keys.now) in
    let w0 = work g.C.Cells c.args.cells.now in
    let w1 = work g.C.Cells c.put.new.cells in
    let w2 = work g.C.Cells c.put-2.new.cells in
    let w3 = work g.C.Cells c.remove.new.cells in
    let one_laws : Laws one = record { rests = g.met.K.Keys.rests_on_versions c.args.first_keys.now; cells = g.met.I.Index.has_index_cells c.args.first.now; frame = g.met.I.Index.rests_on_nodes c.args.first.now } in
    let two_laws : Laws two = record { rests = g.met.L.Keys.rests_on_versions c.args.second_keys.now; cells = g.met.J.Index.has_index_cells c.args.second.now; frame = g.met.J.Index.rests_on_nodes c.args.second.now } in
    let put_first : PutIn one w0 w1 c.args.version = record { change = record { own = c.put.ensures.own; versions = c.put.ensures.versions; below = ap g.C.Cells.image c.put.ensures.below.0 }; puts = c.put.ensures.puts } in
    let put_second : PutIn two w1 w2 c.args.version = record { change = record { own = c.put-2.ensures.own; versions = c.put-2.ensures.versions; below = ap g.C.Cells.image c.put-2.ensures.below.0 }; puts = c.put-2.ensures.puts } in
    let taken : TakenFrom one w2 w3 c.args.version = record { change = record { own = c.remove.ensures.own; versions = c.remove.ensures.versions; below = ap g.C.Cells.image c.remove.ensures.below.0 }; removes = c.remove.ensures.removes } in
    came_to_second one two one_laws two_laws c.args.version w0 w1 put_first l neither w2 put_second w3 taken

pub returns-clause-refs : goal.returns-clause-refs
returns-clause-refs g c =
    let one = keyed (g.I.Index.nature c.args.first.now) (g.K.Keys.meaning c.args.first_keys.now) in
    let two = keyed (g.J.Index.nature c.args.second.now) (g.L.Keys.meaning c.args.second_keys.now) in
    let w0 = work g.C.Cells c.args.cells.now in
    let w1 = work g.C.Cells c.put.new.cells in
    let w2 = work g.C.Cells c.put-2.new.cells in
    let w3 = work g.C.Cells c.remove.new.cells in
    let one_laws : Laws one = record { rests = g.met.K.Keys.rests_on_versions c.args.first_keys.now; cells = g.met.I.Index.has_index_cells c.args.first.now; frame = g.met.I.Index.rests_on_nodes c.args.first.now } in
    let two_laws : Laws two = record { rests = g.met.L.Keys.rests_on_versions c.args.second_keys.now; cells = g.met.J.Index.has_index_cells c.args.second.now; frame = g.met.J.Index.rests_on_nodes c.args.second.now } in
    let put_first : PutIn one w0 w1 c.args.version = record { change = record { own = c.put.ensures.own; versions = c.put.ensures.versions; below = ap g.C.Cells.image c.put.ensures.below.0 }; puts = c.put.ensures.puts } in
    let put_second : PutIn two w1 w2 c.args.version = record { change = record { own = c.put-2.ensures.own; versions = c.put-2.ensures.versions; below = ap g.C.Cells.image c.put-2.ensures.below.0 }; puts = c.put-2.ensures.puts } in
    let taken : TakenFrom one w2 w3 c.args.version = record { change = record { own = c.remove.ensures.own; versions = c.remove.ensures.versions; below = ap g.C.Cells.image c.remove.ensures.below.0 }; removes = c.remove.ensures.removes } in
    IfOk-weaker c.refs.result (IsListing two.index (reading w3)) (λ refs. (l : Listed) → NeitherLists one two (reading w0) c.args.version l → IsPermutation refs (c.args.version ∷ l.second))
    (λ refs listing l neither. listed_second one two one_laws two_laws c.args.version w0 w1 put_first l neither w2 put_second w3 taken refs listing) c.refs.ensures
