use Rattle.std.proofs.Common.{◌≡◌, ◌++◌, List, filter, ap, sym, subst, ◌∙◌}
use Rattle.std.proofs.lemmas.Result.{IfOk-weaker}
use Rattle.std.specs.List.Sorted.{IsNonDecreasingBy}
use Rattle.std.proofs.lemmas.List.Sorted.{IsNonDecreasingBy-from_sort}
use Rattle.rdb_pages.specs.declared.cell.CellRef.{CellRef}
use Rattle.rdb_cells.specs.Links.{segment}
use Rattle.rdb_hash.specs.Lookup.{IsFound, has_key}
use Rattle.rdb_hash.specs.Shape.{hash_nature, versions_of}
use Rattle.rdb_hash.proofs.EqualLemmas.{hashed_bucket, with_key}
use Rattle.rdb_hash.proofs.hash.Hash.equal.Goals as goal

pub gather-requires-clause-bucket : goal.gather-requires-clause-bucket
gather-requires-clause-bucket g c =
    hashed_bucket c.args.self.now.head.number (g.K.Keys.meaning c.args.keys.now) (g.C.Cells.image c.args.cells.now) c.args.key.now c.hash_of-hash.result c.of.result.table c.of.result.place c.first_of-first.result.number c.hash_of-hash.ensures c.of.ensures.number c.of.ensures.table c.of.ensures.place c.first_of-first.ensures
    c.requires.stands.0 c.requires.stands.1 c.requires.stands.2

pub returns : goal.returns
returns g c =
    let gathered = c.gather.new.found.items in
    let found = c.sort_unstable.new.self.items in
    let ordered : IsNonDecreasingBy (λ (r : CellRef). r.number) found = IsNonDecreasingBy-from_sort (λ (r : CellRef). r.number) found c.sort_unstable.ensures.sorted in
    let whole : IsFound (hash_nature c.args.self.now.class c.args.self.now.head.number) (g.K.Keys.meaning c.args.keys.now) (g.C.Cells.image c.args.cells.now) c.args.key.now found = λ listed nodes stands.
    with_key c.args.self.now.head.number (g.K.Keys.meaning c.args.keys.now) (g.C.Cells.image c.args.cells.now) c.args.key.now c.hash_of-hash.result c.of.result.table c.of.result.place c.first_of-first.result.number c.hash_of-hash.ensures c.of.ensures.number c.of.ensures.table c.of.ensures.place c.first_of-first.ensures
    listed nodes stands gathered found
    (λ bucket chain is. c.in_ok-gather.ensures bucket chain is ∙ ap (λ (rs : List CellRef). rs ++ filter (has_key (g.K.Keys.meaning c.args.keys.now) (g.C.Cells.image c.args.cells.now) c.args.key.now) (versions_of (segment chain 0))) c.new-found.ensures.items)
    c.sort_unstable.ensures.permutation ordered in
    let Finds : List CellRef → Type 0 = IsFound (hash_nature c.args.self.now.class c.args.self.now.head.number) (g.K.Keys.meaning c.args.keys.now) (g.C.Cells.image c.args.cells.now) c.args.key.now in
    IfOk-weaker c.from_slice.result (λ (list : List CellRef). list ≡ c.as_slice.result.now) Finds
    (λ list same. subst Finds (sym (same ∙ c.as_slice.ensures.value)) whole) c.from_slice.ensures
