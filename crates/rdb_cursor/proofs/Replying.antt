-- From the rows that a class shows to the plain database's reply, and to its refusal of a write.
use Rattle.std.proofs.Common.{◌≡◌, ℕ, Bool, true, false, cond, List, Option, Some, None, is_none, refl, sym, ap, subst, ◌∙◌}
use Rattle.std.specs.Option.{option_map, option_and_then}
use Rattle.rdb_base.specs.declared.operation.Op.{Op}
use Rattle.rdb_base.specs.declared.operation.Op.TheVariants as op
use Rattle.rdb_base.specs.declared.operation.Reply.{Reply}
use Rattle.rdb_base.specs.declared.operation.Reply.TheVariants as reply
use Rattle.rdb_base.specs.Operations.{class_of as class_named}
use Rattle.rdb_schema.specs.declared.schema.Schema.{Schema}
use Rattle.rdb_schema.specs.Indexes.{indexes_of}
use Rattle.rdb_pages.specs.declared.cell.CellRef.{CellRef}
use Rattle.rdb_cells.specs.Images.{Image}
use Rattle.rdb_sight.specs.Versions.{Version, Object, Marks, chain_of, objects_in, shown, row_shown}
use Rattle.rdb_shown.proofs.ChainMaps.{Rises}
use Rattle.rdb_shown.proofs.RowsShown.{objects_shown, row_of_shown}
use Rattle.rdb_model.specs.Database.{Row, Objects, Database, row_of, objects_of, with_row, without, with_objects}
use Rattle.rdb_model.specs.Answer.{answer, clash, written}
use Rattle.rdb_store.specs.Shapes.{ClassShape, class_shape}
use Rattle.rdb_cursor.specs.declared.marks.Reader.{Reader}
use Rattle.rdb_cursor.specs.Clashes.{clash_reply}
use Rattle.rdb_cursor.specs.Replies.{IsPlainReply, IsPlainRefusal, refusal_in}
use Rattle.rdb_cursor.specs.Views.{OfRows, rows_of, ref_shown, version_of}
use Rattle.rdb_cursor.proofs.Looks.{shown_there, shows_none}

module _ (schema : Schema) (image : Image) (class_of : ℕ → Option ℕ) (marks : Marks) (reader : Reader) (o : Op) (shape : ClassShape) (shape_is : shape ≡ class_shape schema (class_named o)) where
  -- a reply that rests on the class's rows alone
  pub plain_by : (told : Reply) (f : Objects → Reply) → ((db : Database) → (answer schema db o).0 ≡ f (objects_of db (class_named o))) → OfRows shape image class_of marks reader (λ rows. told ≡ f rows) → IsPlainReply schema image class_of marks reader o told
  plain_by told f rests is versions holds =
      (subst (λ (s : ClassShape). OfRows s image class_of marks reader (λ rows. told ≡ f rows)) shape_is is) (objects_in versions (class_named o)) holds
      ∙ ap f (sym (objects_shown marks reader.snapshot (Some reader.tx) versions (class_named o)))
      ∙ sym (rests (shown marks reader.snapshot (Some reader.tx) versions))

  -- a refusal that rests on the class's rows alone
  pub refusal_by : (refused : Option Reply) (f : Objects → Option Reply) → ((db : Database) → refusal_in (answer schema db o).0 ≡ f (objects_of db (class_named o))) → OfRows shape image class_of marks reader (λ rows. refused ≡ f rows) → IsPlainRefusal schema image class_of marks reader o refused
  refusal_by refused f rests is versions holds =
      (subst (λ (s : ClassShape). OfRows s image class_of marks reader (λ rows. refused ≡ f rows)) shape_is is) (objects_in versions (class_named o)) holds
      ∙ ap f (sym (objects_shown marks reader.snapshot (Some reader.tx) versions (class_named o)))
      ∙ sym (rests (shown marks reader.snapshot (Some reader.tx) versions))

-- What the plain database refuses
refused_if : (at : Option (ℕ × ℕ)) (told : Reply) (before after : Database) → refusal_in told ≡ None → refusal_in (written at told before after).0 ≡ option_map (λ (c : ℕ × ℕ). reply.Duplicate c.0 c.1) at
refused_if None told before after none = none
refused_if (Some at) told before after none = refl

pub new_rests : (schema : Schema) (class : ℕ) (row : Row) (id : ℕ) (db : Database) → refusal_in (answer schema db (op.New class row id)).0 ≡ clash_reply (indexes_of schema class) row None (objects_of db class)
new_rests schema class row id db = refused_if (clash (indexes_of schema class) 0 row (objects_of db class)) (reply.Made id) db (with_objects db class (with_row (objects_of db class) id row)) refl

-- what refuses a put, and a deletion
abbrev pub put_refused : Schema → ℕ → ℕ → Row → Objects → Option Reply
put_refused schema class id row rows = cond (is_none (row_of rows id)) (Some reply.NotFound) (clash_reply (indexes_of schema class) row (Some id) rows)

abbrev pub del_refused : ℕ → Objects → Option Reply
del_refused id rows = cond (is_none (row_of rows id)) (Some reply.NotFound) None

pub put_rests : (schema : Schema) (class id : ℕ) (row : Row) (db : Database) → refusal_in (answer schema db (op.Put class id row)).0 ≡ put_refused schema class id row (objects_of db class)
put_rests schema class id row db = go (is_none (row_of (objects_of db class) id))
  where
    go : (b : Bool) → refusal_in (cond {A = Reply × Database} b (reply.NotFound, db) (written (clash (indexes_of schema class) 0 row (without (objects_of db class) id)) reply.Done db (with_objects db class (with_row (objects_of db class) id row)))).0 ≡ cond b (Some reply.NotFound) (clash_reply (indexes_of schema class) row (Some id) (objects_of db class))
    go true = refl
    go false = refused_if (clash (indexes_of schema class) 0 row (without (objects_of db class) id)) reply.Done db (with_objects db class (with_row (objects_of db class) id row)) refl

pub del_rests : (schema : Schema) (class id : ℕ) (db : Database) → refusal_in (answer schema db (op.Del class id)).0 ≡ del_refused id (objects_of db class)
del_rests schema class id db = go (is_none (row_of (objects_of db class) id))
  where
    go : (b : Bool) → refusal_in (cond {A = Reply × Database} b (reply.NotFound, db) (reply.Done, with_objects db class (without (objects_of db class) id))).0 ≡ cond b (Some reply.NotFound) None
    go true = refl
    go false = refl

-- Whether there is an object, by the version that it shows
module _ (marks : Marks) (reader : Reader) (objects : List Object) (rises : Rises objects) (id : ℕ) (seen : Option CellRef) (seen_is : seen ≡ ref_shown marks reader (chain_of objects id)) where
  pub row_none : seen ≡ None → is_none (row_of (rows_of marks reader objects) id) ≡ true
  row_none is = ap is_none (row_of_shown marks reader.snapshot (Some reader.tx) objects id rises ∙ shows_none marks reader (chain_of objects id) (sym seen_is ∙ is))

  pub row_some : (r : CellRef) → seen ≡ Some r → is_none (row_of (rows_of marks reader objects) id) ≡ false
  row_some r is =
      let s = shown_there marks reader (chain_of objects id) r (sym seen_is ∙ is) in
      ap is_none (row_of_shown marks reader.snapshot (Some reader.tx) objects id rises ∙ row_is s.0 s.1 s.5 s.4)
    where
      row_is : (v : Version) (row : Row) → version_of marks reader (chain_of objects id) ≡ Some v → v.row ≡ Some row → row_shown marks reader.snapshot (Some reader.tx) (chain_of objects id) ≡ Some row
      row_is v row seen_v has = ap (λ (o : Option Version). option_and_then (λ (w : Version). w.row) o) seen_v ∙ has
