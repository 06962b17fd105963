use Rattle.std.proofs.Common.{◌∙◌, List, Option, sym, ap, false}
use Rattle.std.specs.Option.{option_map_or}
use Rattle.rdb_base.specs.declared.value.Value.{Value}
use Rattle.rdb_model.specs.Index.{has_key}
use Rattle.rdb_sight.specs.Versions.{chain_of}
use Rattle.rdb_store.specs.Shapes.{index_at}
use Rattle.rdb_cursor.proofs.KeyIndexes.{key_there, key_fits, shows_by}
use Rattle.rdb_cursor.proofs.Looks.{shows_none}
use Rattle.rdb_cursor.proofs.view.View.shows.Goals as goal

pub same-requires-clause-version : goal.same-requires-clause-version
same-requires-clause-version g c =
    let look = c.requires.look in
    key_there c.args.self.now.class.now (g.C.Cells.image c.args.self.now.cells.now) (g.C.Cells.class_of c.args.self.now.cells.now) look c.args.index c.index.result.now c.index.ensures look.holds.0 look.holds.1 (g.M.Marks.marked c.args.self.now.marks.now) c.args.self.now.reader c.args.id c.in-Some.version
    (sym (c.seen.ensures look.holds.0 look.holds.1) ∙ c.in-Some.is)

pub same-requires-clause-key : goal.same-requires-clause-key
same-requires-clause-key g c = key_fits c.args.self.now.class.now (g.C.Cells.image c.args.self.now.cells.now) (g.C.Cells.class_of c.args.self.now.cells.now) c.requires.look c.args.index c.index.result.now c.index.ensures c.args.key.now c.requires.key

pub returns-in-Some : goal.returns-in-Some
returns-in-Some g c objects holds =
    shows_by c.args.self.now.class.now (g.C.Cells.image c.args.self.now.cells.now) (g.C.Cells.class_of c.args.self.now.cells.now) c.requires.look c.args.index c.index.result.now c.index.ensures objects holds (g.M.Marks.marked c.args.self.now.marks.now) c.args.self.now.reader c.args.id c.in-Some.version
    (sym (c.seen.ensures objects holds) ∙ c.in-Some.is) c.args.key.now c.same.result c.same.ensures

pub returns-in-None : goal.returns-in-None
returns-in-None g c objects holds =
    sym (ap (λ (o : Option (List Value)). option_map_or (has_key (index_at c.args.self.now.class.now c.args.index).fields c.args.key.now) o false)
    (shows_none (g.M.Marks.marked c.args.self.now.marks.now) c.args.self.now.reader (chain_of objects c.args.id) (sym (c.seen.ensures objects holds) ∙ c.in-None.is)))
