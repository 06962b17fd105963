use Rattle.std.proofs.Common.{◌≡◌, ◌+◌, ◌⊎◌, Bor, ℕ, List, Option, take, map, true, sym, subst}
use Rattle.std.proofs.lemmas.List.{length-map}
use Rattle.rdb_pages.specs.declared.cell.CellRef.{CellRef}
use Rattle.rdb_cells.specs.declared.pairs.Pair.{Pair}
use Rattle.rdb_cells.specs.declared.undo.Undo.{Undo}
use Rattle.rdb_cells.specs.Free.{IsLowestAmong, sooner_of}
use Rattle.rdb_cells.specs.Records.{names, some_names}
use Rattle.rdb_cells.proofs.FreeLemmas.{lowest_of_both, lowest_of_fewer, logged_more, named_in}
use Rattle.rdb_cells.proofs.SettledLemmas.{item}
use Rattle.rdb_cells.proofs.free.lowest_logged.Goals as goal

abbrev pairs_of : Bor Undo → List Pair
pairs_of r = r.now.pairs

pub lowest_named-requires : goal.lowest_named-requires
lowest_named-requires g c = λ n named.
    let records = c.args.records.now in
    let i = c.loop-record.record-index in
    let r = c.record-item.result in
    c.requires n (named_in (map pairs_of records) i (pairs_of r) n (rw length-map c.loop-record-test.true) (item pairs_of records i r c.loop-record-test.true c.record-item.is) (subst (λ (ps : List Pair). names ps n ≡ true) c.as_slice.ensures named))

pub loop-record-preserved : goal.loop-record-preserved
loop-record-preserved g c =
    let records = c.args.records.now in
    let image = g.L.Layer.image c.args.layer.now in
    let class_of = g.L.Layer.class_of c.args.layer.now in
    let of = c.args.class in
    let start = c.args.above.number in
    let i = c.loop-record.record-index in
    let r = c.record-item.result in
    let before : ℕ → Type 0 = λ n. some_names (take i (map pairs_of records)) n ≡ true in
    let here : ℕ → Type 0 = λ n. names (pairs_of r) n ≡ true in
    let after : ℕ → Type 0 = λ n. some_names (take (i + 1) (map pairs_of records)) n ≡ true in
    let one : IsLowestAmong image class_of of start here c.lowest_named.result = subst (λ (ps : List Pair). IsLowestAmong image class_of of start (λ n. names ps n ≡ true) c.lowest_named.result) c.as_slice.ensures c.lowest_named.ensures in
    subst (λ (o : Option CellRef). IsLowestAmong image class_of of start after o) (sym c.sooner-best.ensures)
    (lowest_of_fewer image class_of of start (λ n. before n ⊎ here n) after (sooner_of c.loop-record.best c.lowest_named.result)
    (λ n. logged_more (map pairs_of records) i (pairs_of r) n (rw length-map c.loop-record-test.true) (item pairs_of records i r c.loop-record-test.true c.record-item.is))
    (lowest_of_both image class_of of start before here c.loop-record.best c.lowest_named.result c.loop-record.invariant one))
