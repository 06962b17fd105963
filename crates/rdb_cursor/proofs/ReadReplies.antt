-- A look-up, operation by operation.
use Rattle.std.proofs.Common.{◌≡◌, ◌<◌, ℕ, Bool, true, List, [], length, map, slice_get, get_or, Option, Some, None, refl, sym, ap, subst, ◌∙◌}
use Rattle.std.specs.Option.{option_map_or}
use Rattle.std.proofs.lemmas.Bool.{false≢true}
use Rattle.rdb_base.specs.declared.identity.Kind.{Kind}
use Rattle.rdb_base.specs.declared.identity.Kind.TheVariants as kinds
use Rattle.rdb_schema.specs.Schemas.{IsSchema}
use Rattle.rdb_cells.specs.HeadFormat.{index_head_cell, empty_index_head}
use Rattle.rdb_cells.specs.Index.{StartsEmpty}
use Rattle.rdb_cells.specs.Keys.{Sayings}
use Rattle.rdb_store.specs.Classes.{IsLawful}
use Rattle.rdb_store.proofs.LawfulClasses.{schema_lawful}
use Rattle.rdb_base.specs.declared.operation.Op.{Op}
use Rattle.rdb_base.specs.declared.operation.Op.TheVariants as op
use Rattle.rdb_base.specs.declared.operation.Place.{Place}
use Rattle.rdb_base.specs.declared.operation.Place.TheVariants as places
use Rattle.rdb_base.specs.declared.operation.Reply.{Reply}
use Rattle.rdb_base.specs.declared.operation.Reply.TheVariants as reply
use Rattle.rdb_base.specs.Operations.{class_of as class_named}
use Rattle.rdb_schema.specs.declared.schema.Class.{Class}
use Rattle.rdb_schema.specs.declared.schema.IndexDecl.{IndexDecl}
use Rattle.rdb_schema.specs.declared.schema.IndexKind.{IndexKind}
use Rattle.rdb_schema.specs.declared.schema.IndexKind.TheVariants.{Hash, Tree, Rtree, Patricia}
use Rattle.rdb_schema.specs.declared.schema.Schema.{Schema}
use Rattle.rdb_schema.specs.Indexes.{indexes_of, fields_of, finds_keys, is_tree, is_rtree, is_patricia}
use Rattle.rdb_schema.specs.Types.{row_fits, types_of}
use Rattle.rdb_cells.specs.Images.{Image}
use Rattle.rdb_rows.specs.RowKeys.{picked}
use Rattle.rdb_sight.specs.Versions.{Marks}
use Rattle.rdb_model.specs.Database.{Row, row_of, objects_of}
use Rattle.rdb_model.specs.Index.{has_key}
use Rattle.rdb_model.specs.Answer.{answer, ids_where}
use Rattle.rdb_model.specs.Fits.{fits, fits_key, fits_place, has_index}
use Rattle.rdb_model.proofs.FitsLemmas.{first_of, second_of}
use Rattle.rdb_store.specs.Shapes.{IsServed, nature_of, ClassShape, IndexShape, index_shape, class_shape, index_at, nature_of_class}
use Rattle.rdb_cursor.specs.declared.marks.Reader.{Reader}
use Rattle.rdb_cursor.specs.Replies.{IsPlainReply}
use Rattle.rdb_cursor.specs.Seeks.{CanSeekFrom, sought_reply}
use Rattle.rdb_cursor.specs.Views.{OfRows, rows_of}
use Rattle.rdb_cursor.proofs.Classes.{class_fits, below, index_below, fields_are, kind_passes, tree_is, key_types_fit, shape_of_index}
use Rattle.rdb_cursor.proofs.Replying.{plain_by}

module _ (schema : Schema) (o : Op) (kind : Kind) (fit : fits schema o kind ≡ true) (shape : ClassShape) (shape_eq : shape ≡ class_shape schema (class_named o)) where
  class_is : (class : ℕ) (p : Op) → o ≡ p → class_named p ≡ class → shape ≡ class_shape schema class
  class_is class p is named = shape_eq ∙ ap (λ (q : Op). class_shape schema (class_named q)) is ∙ ap (class_shape schema) named

  key_there : (class index : ℕ) (key : Row) (passes : IndexKind → Bool) → has_index schema class index passes ≡ true → fits_key schema class index key ≡ true → class < length schema.classes → shape ≡ class_shape schema class → ((nature_of_class shape).at index).keys.fits key ≡ true
  key_there class index key passes has fits_it within same =
      subst (λ (s : ClassShape). ((nature_of_class s).at index).keys.fits key ≡ true) (sym same)
      (subst (λ (fs : List ℕ). row_fits (picked (types_of schema class) fs) key ≡ true) (fields_are schema class index passes has) (key_types_fit schema class index key within fits_it))

  place_by : (class index : ℕ) → has_index schema class index is_tree ≡ true → class < length schema.classes → shape ≡ class_shape schema class → (from : Place) → fits_place schema class index from ≡ true → CanSeekFrom (nature_of_class shape) index from
  place_by class index has within same places.Start fits_it = tt
  place_by class index has within same places.End fits_it = tt
  place_by class index has within same (places.At key id) fits_it = key_there class index key is_tree has fits_it within same

  module _ (class index : ℕ) (key : Row) (is : o ≡ op.Find class index key) where
    find_fit : fits schema (op.Find class index key) kind ≡ true
    find_fit = subst (λ (p : Op). fits schema p kind ≡ true) is fit

    pub find_index : index < length shape.indexes
    find_index = subst (λ (s : ClassShape). index < length s.indexes) (sym (class_is class (op.Find class index key) is refl)) (index_below schema class index finds_keys (first_of _ _ find_fit))

    pub find_key : ((nature_of_class shape).at index).keys.fits key ≡ true
    find_key = key_there class index key finds_keys (first_of _ _ find_fit) (second_of _ _ find_fit) (class_fits schema (op.Find class index key) kind find_fit) (class_is class (op.Find class index key) is refl)

  module _ (class index : ℕ) (from : Place) (up : Bool) (is : o ≡ op.Seek class index from up) where
    seek_fit : fits schema (op.Seek class index from up) kind ≡ true
    seek_fit = subst (λ (p : Op). fits schema p kind ≡ true) is fit

    pub seek_index : index < length shape.indexes
    seek_index = subst (λ (s : ClassShape). index < length s.indexes) (sym (class_is class (op.Seek class index from up) is refl)) (index_below schema class index is_tree (first_of _ _ seek_fit))

    pub seek_tree : (index_at shape index).kind ≡ Tree
    seek_tree = subst (λ (s : ClassShape). (index_at s index).kind ≡ Tree) (sym (class_is class (op.Seek class index from up) is refl)) (tree_is _ (kind_passes schema class index is_tree (first_of _ _ seek_fit)))

    pub seek_place : CanSeekFrom (nature_of_class shape) index from
    seek_place = place_by class index (first_of _ _ seek_fit) (class_fits schema (op.Seek class index from up) kind seek_fit) (class_is class (op.Seek class index from up) is refl) from (second_of _ _ seek_fit)

    pub seek_class : class < length schema.classes
    seek_class = class_fits schema (op.Seek class index from up) kind seek_fit

    module _ (c : Class) (there : slice_get schema.classes class ≡ Some c) where
      are : indexes_of schema class ≡ c.indexes
      are = ap (λ (x : Option Class). option_map_or (λ (d : Class). d.indexes) x []) there

      pub seek_at : index < length c.indexes
      seek_at = subst (λ (l : List IndexDecl). index < length l) are (below schema class index is_tree (first_of _ _ seek_fit))

      pub seek_fields : (d : IndexDecl) → slice_get c.indexes index ≡ Some d → d.key ≡ (index_at shape index).fields
      seek_fields d at =
          sym (ap (λ (s : ClassShape). (index_at s index).fields) (class_is class (op.Seek class index from up) is refl)
          ∙ ap (λ (s : IndexShape). s.fields) (ap (λ (l : List IndexDecl). get_or (map index_shape l) index (record { kind = Patricia; fields = [] })) are ∙ shape_of_index c.indexes index d (record { kind = Patricia; fields = [] }) at))

module _ (schema : Schema) (image : Image) (class_of : ℕ → Option ℕ) (marks : Marks) (reader : Reader) (o : Op) (shape : ClassShape) (shape_eq : shape ≡ class_shape schema (class_named o)) where
  pub get_is : (class id : ℕ) → o ≡ op.Get class id → (told : Reply) → OfRows shape image class_of marks reader (λ rows. told ≡ option_map_or reply.Row (row_of rows id) reply.NotFound) → IsPlainReply schema image class_of marks reader o told
  get_is class id is told tells =
      plain_by schema image class_of marks reader o shape shape_eq told (λ rows. option_map_or reply.Row (row_of rows id) reply.NotFound)
      (λ db. subst (λ (p : Op). (answer schema db p).0 ≡ option_map_or reply.Row (row_of (objects_of db (class_named p)) id) reply.NotFound) (sym is) refl) tells

  pub count_is : (class : ℕ) → o ≡ op.Count class → (told : Reply) → OfRows shape image class_of marks reader (λ rows. told ≡ reply.Count (length rows)) → IsPlainReply schema image class_of marks reader o told
  count_is class is told tells =
      plain_by schema image class_of marks reader o shape shape_eq told (λ rows. reply.Count (length rows))
      (λ db. subst (λ (p : Op). (answer schema db p).0 ≡ reply.Count (length (objects_of db (class_named p)))) (sym is) refl) tells

  module _ (kind : Kind) (fit : fits schema o kind ≡ true) where
    -- the fields of an index, by its class's shape and by the schema
    same_fields : (class index : ℕ) (passes : IndexKind → Bool) (p : Op) → o ≡ p → class_named p ≡ class → has_index schema class index passes ≡ true → (index_at shape index).fields ≡ fields_of schema class index
    same_fields class index passes p is named has =
        ap (λ (s : ClassShape). (index_at s index).fields) (shape_eq ∙ ap (λ (q : Op). class_shape schema (class_named q)) is ∙ ap (class_shape schema) named)
        ∙ sym (fields_are schema class index passes has)

    pub find_is : (class index : ℕ) (key : Row) → o ≡ op.Find class index key → (told : Reply) → OfRows shape image class_of marks reader (λ rows. told ≡ reply.Ids (ids_where (has_key (index_at shape index).fields key) rows)) → IsPlainReply schema image class_of marks reader o told
    find_is class index key is told tells =
        plain_by schema image class_of marks reader o shape shape_eq told (λ rows. reply.Ids (ids_where (has_key (fields_of schema class index) key) rows))
        (λ db. subst (λ (p : Op). (answer schema db p).0 ≡ reply.Ids (ids_where (has_key (fields_of schema class index) key) (objects_of db (class_named p)))) (sym is) refl)
        (λ objects held. tells objects held ∙ ap (λ (fs : List ℕ). reply.Ids (ids_where (has_key fs key) (rows_of marks reader objects))) (same_fields class index finds_keys (op.Find class index key) is refl (first_of _ _ (subst (λ (p : Op). fits schema p kind ≡ true) is fit))))

    pub seek_is : (class index : ℕ) (from : Place) (up : Bool) → o ≡ op.Seek class index from up → (fields : List ℕ) → fields ≡ (index_at shape index).fields → (told : Reply) → OfRows shape image class_of marks reader (λ rows. told ≡ sought_reply fields from up rows) → IsPlainReply schema image class_of marks reader o told
    seek_is class index from up is fields same told tells =
        plain_by schema image class_of marks reader o shape shape_eq told (λ rows. sought_reply (fields_of schema class index) from up rows)
        (λ db. subst (λ (p : Op). (answer schema db p).0 ≡ sought_reply (fields_of schema class index) from up (objects_of db (class_named p))) (sym is) refl)
        (λ objects held. tells objects held ∙ ap (λ (fs : List ℕ). sought_reply fs from up (rows_of marks reader objects)) (same ∙ same_fields class index is_tree (op.Seek class index from up) is refl (first_of _ _ (subst (λ (p : Op). fits schema p kind ≡ true) is fit))))

-- An index that a store serves is none of the other kinds
never_served : (class : ℕ) (types : List _) (place : ℕ) (kind other : IndexKind) (keys : _) (key_in : _) → IsLawful class types (record { index = nature_of class place kind; keys = keys; key_in = key_in }) → kind ≡ other → (StartsEmpty (nature_of class place other) → ⊥) → ⊥
never_served class types place kind other keys key_in law is never = never (subst (λ (k : IndexKind). StartsEmpty (nature_of class place k)) is law.starts_empty)

nothing_said : Sayings
nothing_said = record { version_of = λ n. None; hash_of = λ key. 0 }

rtree_is : (kind : IndexKind) → is_rtree kind ≡ true → kind ≡ Rtree
rtree_is Hash e = absurd (false≢true e)
rtree_is Tree e = absurd (false≢true e)
rtree_is Rtree e = refl
rtree_is Patricia e = absurd (false≢true e)

patricia_is : (kind : IndexKind) → is_patricia kind ≡ true → kind ≡ Patricia
patricia_is Hash e = absurd (false≢true e)
patricia_is Tree e = absurd (false≢true e)
patricia_is Rtree e = absurd (false≢true e)
patricia_is Patricia e = refl

-- so an operation that reads is one of four
pub served_reads : (schema : Schema) → IsSchema schema → IsServed schema → (o : Op) → fits schema o kinds.ReadOnly ≡ true
    → ((class id : ℕ) → o ≡ op.Get class id → ⊥) → ((class index : ℕ) (key : Row) → o ≡ op.Find class index key → ⊥) → ((class index : ℕ) (from : Place) (up : Bool) → o ≡ op.Seek class index from up → ⊥) → ((class : ℕ) → o ≡ op.Count class → ⊥) → ⊥
served_reads schema is served (op.New class row id) fit get find seek count = false≢true fit
served_reads schema is served (op.Get class id) fit get find seek count = get class id refl
served_reads schema is served (op.Put class id row) fit get find seek count = false≢true fit
served_reads schema is served (op.Del class id) fit get find seek count = false≢true fit
served_reads schema is served (op.Find class index key) fit get find seek count = find class index key refl
served_reads schema is served (op.Seek class index from up) fit get find seek count = seek class index from up refl
served_reads schema is served (op.Area class index rect inside) fit get find seek count =
    never_served class (types_of schema class) index (index_at (class_shape schema class) index).kind Rtree _ _
    ((schema_lawful schema class is served (class_fits schema (op.Area class index rect inside) kinds.ReadOnly fit)).each index (index_below schema class index is_rtree (first_of _ _ fit)))
    (rtree_is _ (kind_passes schema class index is_rtree (first_of _ _ fit))) (λ starts. starts nothing_said (λ n. Some (index_head_cell empty_index_head)) refl)
served_reads schema is served (op.Prefix class index text way) fit get find seek count =
    never_served class (types_of schema class) index (index_at (class_shape schema class) index).kind Patricia _ _
    ((schema_lawful schema class is served (class_fits schema (op.Prefix class index text way) kinds.ReadOnly fit)).each index (index_below schema class index is_patricia (first_of _ _ fit)))
    (patricia_is _ (kind_passes schema class index is_patricia (first_of _ _ fit))) (λ starts. starts nothing_said (λ n. Some (index_head_cell empty_index_head)) refl)
served_reads schema is served (op.Count class) fit get find seek count = count class refl
