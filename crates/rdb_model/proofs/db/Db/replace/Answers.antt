-- There are few indexes; and the objects as they were, or with a row more, are in order.
use Rattle.std.proofs.Common.{◌≡◌, ◌<◌, [], length, ap, arith}
use Rattle.std.proofs.lemmas.List.{get_or_read}
use Rattle.rdb_schema.proofs.SchemaLemmas.{few_indexes}
use Rattle.rdb_model.specs.Database.{objects_of}
use Rattle.rdb_model.proofs.OrderedLemmas.{same_in_order, row_put_in_order}
use Rattle.rdb_model.proofs.db.Db.replace.Goals as goal
use Rattle.rdb_model.proofs.db.Db.replace.Goals.{in-Some, in-None+in_ok-copy-in-None+in_ok-put-in-None}

pub find_clash-requires : goal.find_clash-requires
find_clash-requires c = let few = few_indexes c.args.schema.now c.requires.is_schema c.args.class in omega (arith, few, ap length c.class_indexes-indexes.ensures)

pub invariant_of-self-2 : goal.invariant_of-self-2
invariant_of-self-2 c =
    let db = c.self.inside.classes.items in
    let old = c.index_mut-objects.result.now in
    let within : c.args.class < length db = omega (arith, c.requires.class, ap length c.self.view_is) in
    let is : old ≡ objects_of db c.args.class = get_or_read db c.args.class old within c.index_mut-objects.ensures.value [] in
    elim c.match-find_clash.branch [
      | in-Some w ↦ rw w.self-inside-is (same_in_order db c.args.class old c.self.invariant is)
      | in-None+in_ok-copy-in-None+in_ok-put-in-None w ↦
          rw w.self-inside-is (row_put_in_order db c.args.class c.args.id w.in_ok-copy-in-None.field-0 old w.put.new.self c.self.invariant is w.in_ok-put-in-None.ensures.ok)
    ]
