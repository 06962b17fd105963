use Rattle.std.proofs.Common.{◌≡◌, Option, Some, None, refl}
use Rattle.std.proofs.lemmas.Result.{IfOk-weaker}
use Rattle.rdb_base.specs.declared.identity.Kind.TheVariants.{ReadWrite}
use Rattle.rdb_base.specs.declared.operation.Reply.{Reply}
use Rattle.rdb_base.specs.declared.operation.Reply.TheVariants as reply
use Rattle.rdb_cursor.specs.Clashes.{clash_reply}
use Rattle.rdb_cursor.specs.Replies.{IsPlainRefusal}
use Rattle.rdb_cursor.specs.Views.{OfRows}
use Rattle.rdb_cursor.proofs.Refusing.{class_there, kept_there, shape_of, look_there, new_row_fits, put_row_fits, declared, new_is, put_is, del_is, told_none, told_some}
use Rattle.rdb_cursor.proofs.refusals.refusal.Goals as goal

pub class-requires-2 : goal.class-requires-2
class-requires-2 g c = kept_there c.args.schema.now c.args.op.now ReadWrite c.requires.fits c.class.result c.class.ensures c.args.store.now c.requires.store

pub at-requires : goal.at-requires
at-requires g c = class_there c.args.schema.now c.args.op.now ReadWrite c.requires.fits c.class-3.result c.class-3.ensures

pub clash-requires-clause-look : goal.clash-requires-clause-look
clash-requires-clause-look g c = look_there c.args.schema.now c.args.op.now ReadWrite c.requires.fits c.class.result c.class.ensures c.args.store.now c.requires.store c.class-2.result.now c.class-2.ensures.shape (g.C.Cells.image c.args.cells.now) (g.C.Cells.class_of c.args.cells.now) c.requires.schema c.requires.served c.requires.holds

pub clash-requires-clause-indexes : goal.clash-requires-clause-indexes
clash-requires-clause-indexes g c = declared c.args.schema.now (g.C.Cells.image c.args.cells.now) (g.C.Cells.class_of c.args.cells.now) (g.M.Marks.marked c.args.marks.now) c.args.reader c.args.op.now c.class-2.result.now (shape_of c.args.schema.now c.args.op.now ReadWrite c.requires.fits c.class.result c.class.ensures c.args.store.now c.requires.store c.class-2.result.now c.class-2.ensures.shape) c.class-3.result c.class-3.ensures c.at.result.now c.at.ensures c.requires.schema

pub clash-requires-clause-row : goal.clash-requires-clause-row
clash-requires-clause-row g c = new_row_fits c.args.schema.now c.args.op.now ReadWrite c.class-2.result.now c.requires.fits (shape_of c.args.schema.now c.args.op.now ReadWrite c.requires.fits c.class.result c.class.ensures c.args.store.now c.requires.store c.class-2.result.now c.class-2.ensures.shape) c.in-New.class c.in-New.row c.in-New.id c.in-New.is

pub seen-requires : goal.seen-requires
seen-requires g c = look_there c.args.schema.now c.args.op.now ReadWrite c.requires.fits c.class.result c.class.ensures c.args.store.now c.requires.store c.class-2.result.now c.class-2.ensures.shape (g.C.Cells.image c.args.cells.now) (g.C.Cells.class_of c.args.cells.now) c.requires.schema c.requires.served c.requires.holds

pub clash-requires-in-Some-clause-look : goal.clash-requires-in-Some-clause-look
clash-requires-in-Some-clause-look g c = look_there c.args.schema.now c.args.op.now ReadWrite c.requires.fits c.class.result c.class.ensures c.args.store.now c.requires.store c.class-2.result.now c.class-2.ensures.shape (g.C.Cells.image c.args.cells.now) (g.C.Cells.class_of c.args.cells.now) c.requires.schema c.requires.served c.requires.holds

pub clash-requires-in-Some-clause-indexes : goal.clash-requires-in-Some-clause-indexes
clash-requires-in-Some-clause-indexes g c = declared c.args.schema.now (g.C.Cells.image c.args.cells.now) (g.C.Cells.class_of c.args.cells.now) (g.M.Marks.marked c.args.marks.now) c.args.reader c.args.op.now c.class-2.result.now (shape_of c.args.schema.now c.args.op.now ReadWrite c.requires.fits c.class.result c.class.ensures c.args.store.now c.requires.store c.class-2.result.now c.class-2.ensures.shape) c.class-3.result c.class-3.ensures c.at.result.now c.at.ensures c.requires.schema

pub clash-requires-in-Some-clause-row : goal.clash-requires-in-Some-clause-row
clash-requires-in-Some-clause-row g c = put_row_fits c.args.schema.now c.args.op.now ReadWrite c.class-2.result.now c.requires.fits (shape_of c.args.schema.now c.args.op.now ReadWrite c.requires.fits c.class.result c.class.ensures c.args.store.now c.requires.store c.class-2.result.now c.class-2.ensures.shape) c.in-Put.class c.in-Put.id c.in-Put.row c.in-Put.is

pub seen-requires-in-Del : goal.seen-requires-in-Del
seen-requires-in-Del g c = look_there c.args.schema.now c.args.op.now ReadWrite c.requires.fits c.class.result c.class.ensures c.args.store.now c.requires.store c.class-2.result.now c.class-2.ensures.shape (g.C.Cells.image c.args.cells.now) (g.C.Cells.class_of c.args.cells.now) c.requires.schema c.requires.served c.requires.holds

pub returns-in-New : goal.returns-in-New
returns-in-New g c =
    IfOk-weaker c.clash.result (λ (told : Option Reply). OfRows c.class-2.result.now (g.C.Cells.image c.args.cells.now) (g.C.Cells.class_of c.args.cells.now) (g.M.Marks.marked c.args.marks.now) c.args.reader (λ rows. told ≡ clash_reply c.at.result.now.indexes c.in-New.row None rows))
    (IsPlainRefusal c.args.schema.now (g.C.Cells.image c.args.cells.now) (g.C.Cells.class_of c.args.cells.now) (g.M.Marks.marked c.args.marks.now) c.args.reader c.args.op.now)
    (λ told tells. new_is c.args.schema.now (g.C.Cells.image c.args.cells.now) (g.C.Cells.class_of c.args.cells.now) (g.M.Marks.marked c.args.marks.now) c.args.reader c.args.op.now c.class-2.result.now (shape_of c.args.schema.now c.args.op.now ReadWrite c.requires.fits c.class.result c.class.ensures c.args.store.now c.requires.store c.class-2.result.now c.class-2.ensures.shape) c.class-3.result c.class-3.ensures c.at.result.now c.at.ensures c.in-New.class c.in-New.row c.in-New.id c.in-New.is told tells) c.clash.ensures

pub returns-in-None : goal.returns-in-None
returns-in-None g c =
    put_is c.args.schema.now (g.C.Cells.image c.args.cells.now) (g.C.Cells.class_of c.args.cells.now) (g.M.Marks.marked c.args.marks.now) c.args.reader c.args.op.now c.class-2.result.now (shape_of c.args.schema.now c.args.op.now ReadWrite c.requires.fits c.class.result c.class.ensures c.args.store.now c.requires.store c.class-2.result.now c.class-2.ensures.shape) c.class-3.result c.class-3.ensures c.at.result.now c.at.ensures c.in-Put.class c.in-Put.id c.in-Put.row c.in-Put.is (Some reply.NotFound)
    (told_none c.args.schema.now (g.C.Cells.image c.args.cells.now) (g.C.Cells.class_of c.args.cells.now) (g.M.Marks.marked c.args.marks.now) c.args.reader c.args.op.now c.class-2.result.now (shape_of c.args.schema.now c.args.op.now ReadWrite c.requires.fits c.class.result c.class.ensures c.args.store.now c.requires.store c.class-2.result.now c.class-2.ensures.shape) c.class-3.result c.class-3.ensures c.at.result.now c.at.ensures c.in-Put.id c.seen.result c.seen.ensures (λ rows. clash_reply c.at.result.now.indexes c.in-Put.row (Some c.in-Put.id) rows) c.in-None.is)

pub returns-in-Some : goal.returns-in-Some
returns-in-Some g c =
    IfOk-weaker c.clash-in-Some.result (λ (told : Option Reply). OfRows c.class-2.result.now (g.C.Cells.image c.args.cells.now) (g.C.Cells.class_of c.args.cells.now) (g.M.Marks.marked c.args.marks.now) c.args.reader (λ rows. told ≡ clash_reply c.at.result.now.indexes c.in-Put.row (Some c.in-Put.id) rows))
    (IsPlainRefusal c.args.schema.now (g.C.Cells.image c.args.cells.now) (g.C.Cells.class_of c.args.cells.now) (g.M.Marks.marked c.args.marks.now) c.args.reader c.args.op.now)
    (λ told tells. put_is c.args.schema.now (g.C.Cells.image c.args.cells.now) (g.C.Cells.class_of c.args.cells.now) (g.M.Marks.marked c.args.marks.now) c.args.reader c.args.op.now c.class-2.result.now (shape_of c.args.schema.now c.args.op.now ReadWrite c.requires.fits c.class.result c.class.ensures c.args.store.now c.requires.store c.class-2.result.now c.class-2.ensures.shape) c.class-3.result c.class-3.ensures c.at.result.now c.at.ensures c.in-Put.class c.in-Put.id c.in-Put.row c.in-Put.is told
    (told_some c.args.schema.now (g.C.Cells.image c.args.cells.now) (g.C.Cells.class_of c.args.cells.now) (g.M.Marks.marked c.args.marks.now) c.args.reader c.args.op.now c.class-2.result.now (shape_of c.args.schema.now c.args.op.now ReadWrite c.requires.fits c.class.result c.class.ensures c.args.store.now c.requires.store c.class-2.result.now c.class-2.ensures.shape) c.class-3.result c.class-3.ensures c.at.result.now c.at.ensures c.in-Put.id c.seen.result c.seen.ensures (λ rows. clash_reply c.at.result.now.indexes c.in-Put.row (Some c.in-Put.id) rows) c.in-Some.field-0 told c.in-Some.is tells)) c.clash-in-Some.ensures

pub returns-in-None-seen : goal.returns-in-None-seen
returns-in-None-seen g c =
    del_is c.args.schema.now (g.C.Cells.image c.args.cells.now) (g.C.Cells.class_of c.args.cells.now) (g.M.Marks.marked c.args.marks.now) c.args.reader c.args.op.now c.class-2.result.now (shape_of c.args.schema.now c.args.op.now ReadWrite c.requires.fits c.class.result c.class.ensures c.args.store.now c.requires.store c.class-2.result.now c.class-2.ensures.shape) c.class-3.result c.class-3.ensures c.at.result.now c.at.ensures c.in-Del.class c.in-Del.id c.in-Del.is (Some reply.NotFound)
    (told_none c.args.schema.now (g.C.Cells.image c.args.cells.now) (g.C.Cells.class_of c.args.cells.now) (g.M.Marks.marked c.args.marks.now) c.args.reader c.args.op.now c.class-2.result.now (shape_of c.args.schema.now c.args.op.now ReadWrite c.requires.fits c.class.result c.class.ensures c.args.store.now c.requires.store c.class-2.result.now c.class-2.ensures.shape) c.class-3.result c.class-3.ensures c.at.result.now c.at.ensures c.in-Del.id c.seen-in-Del.result c.seen-in-Del.ensures (λ rows. None) c.in-None-seen.is)

pub returns-in-Some-seen : goal.returns-in-Some-seen
returns-in-Some-seen g c =
    del_is c.args.schema.now (g.C.Cells.image c.args.cells.now) (g.C.Cells.class_of c.args.cells.now) (g.M.Marks.marked c.args.marks.now) c.args.reader c.args.op.now c.class-2.result.now (shape_of c.args.schema.now c.args.op.now ReadWrite c.requires.fits c.class.result c.class.ensures c.args.store.now c.requires.store c.class-2.result.now c.class-2.ensures.shape) c.class-3.result c.class-3.ensures c.at.result.now c.at.ensures c.in-Del.class c.in-Del.id c.in-Del.is None
    (told_some c.args.schema.now (g.C.Cells.image c.args.cells.now) (g.C.Cells.class_of c.args.cells.now) (g.M.Marks.marked c.args.marks.now) c.args.reader c.args.op.now c.class-2.result.now (shape_of c.args.schema.now c.args.op.now ReadWrite c.requires.fits c.class.result c.class.ensures c.args.store.now c.requires.store c.class-2.result.now c.class-2.ensures.shape) c.class-3.result c.class-3.ensures c.at.result.now c.at.ensures c.in-Del.id c.seen-in-Del.result c.seen-in-Del.ensures (λ rows. None) c.in-Some-seen.field-0 None c.in-Some-seen.is (λ objects held. refl))
