-- A refusal, operation by operation; and what lookup and refusal ask of the class that they look at.
use Rattle.std.proofs.Common.{◌≡◌, ◌<◌, ℕ, Bool, true, cond, List, [], length, map, slice_get, Option, Some, None, is_none, sym, ap, ap₂, subst, ◌∙◌, arith}
use Rattle.std.specs.Option.{option_map_or}
use Rattle.rdb_base.specs.declared.identity.Kind.{Kind}
use Rattle.rdb_base.specs.declared.operation.Op.{Op}
use Rattle.rdb_base.specs.declared.operation.Op.TheVariants as op
use Rattle.rdb_base.specs.declared.operation.Reply.{Reply}
use Rattle.rdb_base.specs.declared.operation.Reply.TheVariants as reply
use Rattle.rdb_base.specs.Operations.{class_of as class_named}
use Rattle.rdb_schema.specs.declared.schema.Class.{Class}
use Rattle.rdb_schema.specs.declared.schema.Schema.{Schema}
use Rattle.rdb_schema.specs.Indexes.{indexes_of}
use Rattle.rdb_schema.specs.Schemas.{IsSchema}
use Rattle.rdb_schema.specs.Types.{row_fits}
use Rattle.rdb_schema.proofs.EncodingLengths.{row_fits_of}
use Rattle.rdb_schema.proofs.SchemaLemmas.{few_indexes}
use Rattle.rdb_pages.specs.declared.cell.CellRef.{CellRef}
use Rattle.rdb_cells.specs.Images.{Image}
use Rattle.rdb_sight.specs.Versions.{Marks, chain_of}
use Rattle.rdb_shown.proofs.ChainMaps.{rises_from}
use Rattle.rdb_model.specs.Database.{Row, Objects, row_of, objects_of}
use Rattle.rdb_model.specs.Answer.{answer}
use Rattle.rdb_model.specs.Fits.{fits}
use Rattle.rdb_model.proofs.FitsLemmas.{first_of, second_of}
use Rattle.rdb_store.specs.Shapes.{IsServed, ClassShape, index_shape, class_shape, shapes_of, shape_in}
use Rattle.rdb_cursor.specs.declared.marks.Reader.{Reader}
use Rattle.rdb_cursor.specs.Clashes.{AreDeclared, clash_reply}
use Rattle.rdb_cursor.specs.Replies.{HoldsFor, IsPlainRefusal, refusal_in}
use Rattle.rdb_cursor.specs.Views.{CanLook, OfObjects, OfRows, rows_of, ref_shown}
use Rattle.rdb_cursor.proofs.Classes.{in_store, shape_is, class_fits, can_look}
use Rattle.rdb_cursor.proofs.Replying.{refusal_by, new_rests, put_refused, put_rests, del_refused, del_rests, row_none, row_some}

-- The class of an operation that fits
module _ (schema : Schema) (o : Op) (kind : Kind) (fit : fits schema o kind ≡ true) (n : ℕ) (n_is : n ≡ class_named o) where
  pub class_there : n < length schema.classes
  class_there = subst (λ (k : ℕ). k < length schema.classes) (sym n_is) (class_fits schema o kind fit)

  module _ (store : List ClassShape) (store_is : store ≡ shapes_of schema) where
    pub kept_there : n < length store
    kept_there = subst (λ (l : List ClassShape). n < length l) (sym store_is) (in_store schema n class_there)

    pub shape_of : (shape : ClassShape) → shape ≡ shape_in store n → shape ≡ class_shape schema (class_named o)
    shape_of shape is = is ∙ ap₂ (λ (l : List ClassShape) (k : ℕ). shape_in l k) store_is n_is ∙ shape_is schema (class_named o) (class_fits schema o kind fit)

    pub look_there : (shape : ClassShape) → shape ≡ shape_in store n → (image : Image) (class_of : ℕ → Option ℕ) → IsSchema schema → IsServed schema → HoldsFor schema image class_of o → CanLook shape image class_of
    look_there shape is image class_of is_schema served holds =
        subst (λ (s : ClassShape). CanLook s image class_of) (sym (shape_of shape is)) (can_look schema image class_of o is_schema served (class_fits schema o kind fit) holds)

-- The row of a write that fits
pub new_row_fits : (schema : Schema) (o : Op) (kind : Kind) (shape : ClassShape) → fits schema o kind ≡ true → shape ≡ class_shape schema (class_named o) → (class : ℕ) (row : Row) (id : ℕ) → o ≡ op.New class row id → row_fits shape.types row ≡ true
new_row_fits schema o kind shape fit shape_eq class row id is =
    ap (λ (s : ClassShape). row_fits s.types row) (shape_eq ∙ ap (λ (p : Op). class_shape schema (class_named p)) is)
    ∙ row_fits_of schema class row (first_of _ _ (second_of _ _ (subst (λ (p : Op). fits schema p kind ≡ true) is fit)))

pub put_row_fits : (schema : Schema) (o : Op) (kind : Kind) (shape : ClassShape) → fits schema o kind ≡ true → shape ≡ class_shape schema (class_named o) → (class id : ℕ) (row : Row) → o ≡ op.Put class id row → row_fits shape.types row ≡ true
put_row_fits schema o kind shape fit shape_eq class id row is =
    ap (λ (s : ClassShape). row_fits s.types row) (shape_eq ∙ ap (λ (p : Op). class_shape schema (class_named p)) is)
    ∙ row_fits_of schema class row (first_of _ _ (second_of _ _ (subst (λ (p : Op). fits schema p kind ≡ true) is fit)))

module _ (schema : Schema) (image : Image) (class_of : ℕ → Option ℕ) (marks : Marks) (reader : Reader) (o : Op) (shape : ClassShape) (shape_eq : shape ≡ class_shape schema (class_named o)) (n : ℕ) (n_is : n ≡ class_named o) (c : Class) (there : slice_get schema.classes n ≡ Some c) where
  indexes_are : indexes_of schema (class_named o) ≡ c.indexes
  indexes_are = ap (indexes_of schema) (sym n_is) ∙ ap (λ (x : Option Class). option_map_or (λ (d : Class). d.indexes) x []) there

  -- the class's indexes, as declared
  pub declared : IsSchema schema → AreDeclared shape c.indexes
  declared is_schema = record {
    shapes = ap (λ (s : ClassShape). s.indexes) shape_eq ∙ ap (map index_shape) indexes_are;
    few = (let few = few_indexes schema is_schema (class_named o) in let same = ap (λ (l : List _). length l) indexes_are in omega arith);
  }

  pub new_is : (class : ℕ) (row : Row) (id : ℕ) → o ≡ op.New class row id → (told : Option Reply) → OfRows shape image class_of marks reader (λ rows. told ≡ clash_reply c.indexes row None rows) → IsPlainRefusal schema image class_of marks reader o told
  new_is class row id is told tells =
      refusal_by schema image class_of marks reader o shape shape_eq told (λ rows. clash_reply (indexes_of schema (class_named o)) row None rows)
      (λ db. subst (λ (p : Op). refusal_in (answer schema db p).0 ≡ clash_reply (indexes_of schema (class_named p)) row None (objects_of db (class_named p))) (sym is) (new_rests schema class row id db))
      (λ objects held. tells objects held ∙ ap (λ (l : List _). clash_reply l row None (rows_of marks reader objects)) (sym indexes_are))

  pub put_is : (class id : ℕ) (row : Row) → o ≡ op.Put class id row → (told : Option Reply) → OfRows shape image class_of marks reader (λ rows. told ≡ cond (is_none (row_of rows id)) (Some reply.NotFound) (clash_reply c.indexes row (Some id) rows)) → IsPlainRefusal schema image class_of marks reader o told
  put_is class id row is told tells =
      refusal_by schema image class_of marks reader o shape shape_eq told (λ rows. put_refused schema (class_named o) id row rows)
      (λ db. subst (λ (p : Op). refusal_in (answer schema db p).0 ≡ put_refused schema (class_named p) id row (objects_of db (class_named p))) (sym is) (put_rests schema class id row db))
      (λ objects held. tells objects held ∙ ap (λ (l : List _). cond (is_none (row_of (rows_of marks reader objects) id)) (Some reply.NotFound) (clash_reply l row (Some id) (rows_of marks reader objects))) (sym indexes_are))

  pub del_is : (class id : ℕ) → o ≡ op.Del class id → (told : Option Reply) → OfRows shape image class_of marks reader (λ rows. told ≡ del_refused id rows) → IsPlainRefusal schema image class_of marks reader o told
  del_is class id is told tells =
      refusal_by schema image class_of marks reader o shape shape_eq told (λ rows. del_refused id rows)
      (λ db. subst (λ (p : Op). refusal_in (answer schema db p).0 ≡ del_refused id (objects_of db (class_named p))) (sym is) (del_rests schema class id db)) tells

  -- whether there is an object, by the version that was seen
  module _ (id : ℕ) (seen : Option CellRef) (seen_is : OfObjects shape image class_of (λ objects. seen ≡ ref_shown marks reader (chain_of objects id))) where
    pub told_none : (rest : Objects → Option Reply) → seen ≡ None → OfRows shape image class_of marks reader (λ rows. Some reply.NotFound ≡ cond (is_none (row_of rows id)) (Some reply.NotFound) (rest rows))
    told_none rest is objects held =
        sym (ap (λ (b : Bool). cond b (Some reply.NotFound) (rest (rows_of marks reader objects))) (row_none marks reader objects (rises_from objects held.1.ascending) id seen (seen_is objects held) is))

    pub told_some : (rest : Objects → Option Reply) (r : CellRef) (told : Option Reply) → seen ≡ Some r → OfRows shape image class_of marks reader (λ rows. told ≡ rest rows) → OfRows shape image class_of marks reader (λ rows. told ≡ cond (is_none (row_of rows id)) (Some reply.NotFound) (rest rows))
    told_some rest r told is tells objects held =
        tells objects held ∙ sym (ap (λ (b : Bool). cond b (Some reply.NotFound) (rest (rows_of marks reader objects))) (row_some marks reader objects (rises_from objects held.1.ascending) id seen (seen_is objects held) r is))
