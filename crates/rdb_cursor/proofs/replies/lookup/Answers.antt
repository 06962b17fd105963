use Rattle.std.proofs.Common.{◌≡◌}
use Rattle.std.proofs.lemmas.Result.{IfOk-weaker}
use Rattle.std.specs.Option.{option_map_or}
use Rattle.rdb_base.specs.declared.identity.Kind.TheVariants.{ReadOnly}
use Rattle.rdb_base.specs.declared.operation.Reply.{Reply}
use Rattle.rdb_base.specs.declared.operation.Reply.TheVariants as reply
use Rattle.rdb_model.specs.Answer.{ids_where}
use Rattle.rdb_model.specs.Database.{row_of}
use Rattle.rdb_model.specs.Index.{has_key}
use Rattle.rdb_store.specs.Shapes.{index_at}
use Rattle.rdb_cursor.specs.Replies.{IsPlainReply}
use Rattle.rdb_cursor.specs.Seeks.{sought_reply}
use Rattle.rdb_cursor.specs.Views.{OfRows}
use Rattle.rdb_cursor.proofs.Refusing.{kept_there, shape_of, look_there}
use Rattle.rdb_cursor.proofs.ReadReplies.{find_index, find_key, seek_index, seek_tree, seek_place, seek_class, seek_at, seek_fields, get_is, count_is, find_is, seek_is, served_reads}
use Rattle.rdb_cursor.proofs.replies.lookup.Goals as goal

pub class-requires-2 : goal.class-requires-2
class-requires-2 g c = kept_there c.args.schema.now c.args.op.now ReadOnly c.requires.fits c.class.result c.class.ensures c.args.store.now c.requires.store

pub get-requires : goal.get-requires
get-requires g c = look_there c.args.schema.now c.args.op.now ReadOnly c.requires.fits c.class.result c.class.ensures c.args.store.now c.requires.store c.class-2.result.now c.class-2.ensures.shape (g.C.Cells.image c.args.cells.now) (g.C.Cells.class_of c.args.cells.now) c.requires.schema c.requires.served c.requires.holds

pub returns-in-Get : goal.returns-in-Get
returns-in-Get g c =
    IfOk-weaker c.get.result (λ (told : Reply). OfRows c.class-2.result.now (g.C.Cells.image c.args.cells.now) (g.C.Cells.class_of c.args.cells.now) (g.M.Marks.marked c.args.marks.now) c.args.reader (λ rows. told ≡ option_map_or reply.Row (row_of rows c.in-Get.id) reply.NotFound)) (IsPlainReply c.args.schema.now (g.C.Cells.image c.args.cells.now) (g.C.Cells.class_of c.args.cells.now) (g.M.Marks.marked c.args.marks.now) c.args.reader c.args.op.now)
    (λ told tells. get_is c.args.schema.now (g.C.Cells.image c.args.cells.now) (g.C.Cells.class_of c.args.cells.now) (g.M.Marks.marked c.args.marks.now) c.args.reader c.args.op.now c.class-2.result.now (shape_of c.args.schema.now c.args.op.now ReadOnly c.requires.fits c.class.result c.class.ensures c.args.store.now c.requires.store c.class-2.result.now c.class-2.ensures.shape) c.in-Get.class c.in-Get.id c.in-Get.is told tells) c.get.ensures

pub count-requires : goal.count-requires
count-requires g c = look_there c.args.schema.now c.args.op.now ReadOnly c.requires.fits c.class.result c.class.ensures c.args.store.now c.requires.store c.class-2.result.now c.class-2.ensures.shape (g.C.Cells.image c.args.cells.now) (g.C.Cells.class_of c.args.cells.now) c.requires.schema c.requires.served c.requires.holds

pub returns-in-Count : goal.returns-in-Count
returns-in-Count g c = count_is c.args.schema.now (g.C.Cells.image c.args.cells.now) (g.C.Cells.class_of c.args.cells.now) (g.M.Marks.marked c.args.marks.now) c.args.reader c.args.op.now c.class-2.result.now (shape_of c.args.schema.now c.args.op.now ReadOnly c.requires.fits c.class.result c.class.ensures c.args.store.now c.requires.store c.class-2.result.now c.class-2.ensures.shape) c.in-Count.class c.in-Count.is c.count.result c.count.ensures

pub find-requires-clause-look : goal.find-requires-clause-look
find-requires-clause-look g c = look_there c.args.schema.now c.args.op.now ReadOnly c.requires.fits c.class.result c.class.ensures c.args.store.now c.requires.store c.class-2.result.now c.class-2.ensures.shape (g.C.Cells.image c.args.cells.now) (g.C.Cells.class_of c.args.cells.now) c.requires.schema c.requires.served c.requires.holds

pub find-requires-clause-index : goal.find-requires-clause-index
find-requires-clause-index g c = find_index c.args.schema.now c.args.op.now ReadOnly c.requires.fits c.class-2.result.now (shape_of c.args.schema.now c.args.op.now ReadOnly c.requires.fits c.class.result c.class.ensures c.args.store.now c.requires.store c.class-2.result.now c.class-2.ensures.shape) c.in-Find.class c.in-Find.index c.in-Find.key c.in-Find.is

pub find-requires-clause-key : goal.find-requires-clause-key
find-requires-clause-key g c = find_key c.args.schema.now c.args.op.now ReadOnly c.requires.fits c.class-2.result.now (shape_of c.args.schema.now c.args.op.now ReadOnly c.requires.fits c.class.result c.class.ensures c.args.store.now c.requires.store c.class-2.result.now c.class-2.ensures.shape) c.in-Find.class c.in-Find.index c.in-Find.key c.in-Find.is

pub returns-in-Find : goal.returns-in-Find
returns-in-Find g c =
    IfOk-weaker c.find.result (λ (told : Reply). OfRows c.class-2.result.now (g.C.Cells.image c.args.cells.now) (g.C.Cells.class_of c.args.cells.now) (g.M.Marks.marked c.args.marks.now) c.args.reader (λ rows. told ≡ reply.Ids (ids_where (has_key (index_at c.class-2.result.now c.in-Find.index).fields c.in-Find.key) rows))) (IsPlainReply c.args.schema.now (g.C.Cells.image c.args.cells.now) (g.C.Cells.class_of c.args.cells.now) (g.M.Marks.marked c.args.marks.now) c.args.reader c.args.op.now)
    (λ told tells. find_is c.args.schema.now (g.C.Cells.image c.args.cells.now) (g.C.Cells.class_of c.args.cells.now) (g.M.Marks.marked c.args.marks.now) c.args.reader c.args.op.now c.class-2.result.now (shape_of c.args.schema.now c.args.op.now ReadOnly c.requires.fits c.class.result c.class.ensures c.args.store.now c.requires.store c.class-2.result.now c.class-2.ensures.shape) ReadOnly c.requires.fits c.in-Find.class c.in-Find.index c.in-Find.key c.in-Find.is told tells) c.find.ensures

pub at-requires : goal.at-requires
at-requires g c = seek_class c.args.schema.now c.args.op.now ReadOnly c.requires.fits c.class-2.result.now (shape_of c.args.schema.now c.args.op.now ReadOnly c.requires.fits c.class.result c.class.ensures c.args.store.now c.requires.store c.class-2.result.now c.class-2.ensures.shape) c.in-Seek.class c.in-Seek.index c.in-Seek.place c.in-Seek.up c.in-Seek.is

pub at-requires-in-Seek : goal.at-requires-in-Seek
at-requires-in-Seek g c = seek_at c.args.schema.now c.args.op.now ReadOnly c.requires.fits c.class-2.result.now (shape_of c.args.schema.now c.args.op.now ReadOnly c.requires.fits c.class.result c.class.ensures c.args.store.now c.requires.store c.class-2.result.now c.class-2.ensures.shape) c.in-Seek.class c.in-Seek.index c.in-Seek.place c.in-Seek.up c.in-Seek.is c.at.result.now c.at.ensures

pub next-requires-clause-look : goal.next-requires-clause-look
next-requires-clause-look g c = look_there c.args.schema.now c.args.op.now ReadOnly c.requires.fits c.class.result c.class.ensures c.args.store.now c.requires.store c.class-2.result.now c.class-2.ensures.shape (g.C.Cells.image c.args.cells.now) (g.C.Cells.class_of c.args.cells.now) c.requires.schema c.requires.served c.requires.holds

pub next-requires-clause-index : goal.next-requires-clause-index
next-requires-clause-index g c = seek_index c.args.schema.now c.args.op.now ReadOnly c.requires.fits c.class-2.result.now (shape_of c.args.schema.now c.args.op.now ReadOnly c.requires.fits c.class.result c.class.ensures c.args.store.now c.requires.store c.class-2.result.now c.class-2.ensures.shape) c.in-Seek.class c.in-Seek.index c.in-Seek.place c.in-Seek.up c.in-Seek.is

pub next-requires-clause-tree : goal.next-requires-clause-tree
next-requires-clause-tree g c = seek_tree c.args.schema.now c.args.op.now ReadOnly c.requires.fits c.class-2.result.now (shape_of c.args.schema.now c.args.op.now ReadOnly c.requires.fits c.class.result c.class.ensures c.args.store.now c.requires.store c.class-2.result.now c.class-2.ensures.shape) c.in-Seek.class c.in-Seek.index c.in-Seek.place c.in-Seek.up c.in-Seek.is

pub next-requires-clause-fields : goal.next-requires-clause-fields
next-requires-clause-fields g c = seek_fields c.args.schema.now c.args.op.now ReadOnly c.requires.fits c.class-2.result.now (shape_of c.args.schema.now c.args.op.now ReadOnly c.requires.fits c.class.result c.class.ensures c.args.store.now c.requires.store c.class-2.result.now c.class-2.ensures.shape) c.in-Seek.class c.in-Seek.index c.in-Seek.place c.in-Seek.up c.in-Seek.is c.at.result.now c.at.ensures c.at-in-Seek.result.now c.at-in-Seek.ensures

pub next-requires-clause-place : goal.next-requires-clause-place
next-requires-clause-place g c = seek_place c.args.schema.now c.args.op.now ReadOnly c.requires.fits c.class-2.result.now (shape_of c.args.schema.now c.args.op.now ReadOnly c.requires.fits c.class.result c.class.ensures c.args.store.now c.requires.store c.class-2.result.now c.class-2.ensures.shape) c.in-Seek.class c.in-Seek.index c.in-Seek.place c.in-Seek.up c.in-Seek.is

pub returns-in-Seek : goal.returns-in-Seek
returns-in-Seek g c =
    IfOk-weaker c.next.result (λ (told : Reply). OfRows c.class-2.result.now (g.C.Cells.image c.args.cells.now) (g.C.Cells.class_of c.args.cells.now) (g.M.Marks.marked c.args.marks.now) c.args.reader (λ rows. told ≡ sought_reply c.at-in-Seek.result.now.key c.in-Seek.place c.in-Seek.up rows)) (IsPlainReply c.args.schema.now (g.C.Cells.image c.args.cells.now) (g.C.Cells.class_of c.args.cells.now) (g.M.Marks.marked c.args.marks.now) c.args.reader c.args.op.now)
    (λ told tells. seek_is c.args.schema.now (g.C.Cells.image c.args.cells.now) (g.C.Cells.class_of c.args.cells.now) (g.M.Marks.marked c.args.marks.now) c.args.reader c.args.op.now c.class-2.result.now (shape_of c.args.schema.now c.args.op.now ReadOnly c.requires.fits c.class.result c.class.ensures c.args.store.now c.requires.store c.class-2.result.now c.class-2.ensures.shape) ReadOnly c.requires.fits c.in-Seek.class c.in-Seek.index c.in-Seek.place c.in-Seek.up c.in-Seek.is c.at-in-Seek.result.now.key
    (seek_fields c.args.schema.now c.args.op.now ReadOnly c.requires.fits c.class-2.result.now (shape_of c.args.schema.now c.args.op.now ReadOnly c.requires.fits c.class.result c.class.ensures c.args.store.now c.requires.store c.class-2.result.now c.class-2.ensures.shape) c.in-Seek.class c.in-Seek.index c.in-Seek.place c.in-Seek.up c.in-Seek.is c.at.result.now c.at.ensures c.at-in-Seek.result.now c.at-in-Seek.ensures) told tells) c.next.ensures

pub unreachable-requires : goal.unreachable-requires
unreachable-requires g c =
    served_reads c.args.schema.now c.requires.schema c.requires.served c.args.op.now c.requires.fits
    (λ class id is. c.in_default.not-Get class id is) (λ class index key is. c.in_default.not-Find class index key is) (λ class index from up is. c.in_default.not-Seek class index from up is) (λ class is. c.in_default.not-Count class is)
