-- What a step of a seek comes to, by the rows that the reader is shown.
use Rattle.std.proofs.Common.{◌≡◌, ℕ, Bool, true, false, List, Option, Some, None, refl, sym, ap, subst, ◌∙◌}
use Rattle.std.proofs.lemmas.Bool.{false≢true}
use Rattle.std.proofs.lemmas.Cmp.{tied_itself}
use Rattle.std.specs.declared.cmp.Ordering.{Ordering}
use Rattle.std.specs.declared.cmp.Ordering.TheVariants.{Less, Equal, Greater}
use Rattle.std.specs.Ordering.{is_eq}
use Rattle.std.specs.Option.{option_map_or}
use Rattle.rdb_base.specs.declared.operation.Place.{Place}
use Rattle.rdb_base.specs.declared.operation.Place.TheVariants as place
use Rattle.rdb_base.specs.declared.value.Value.{Value}
use Rattle.rdb_base.specs.Order.{row_order}
use Rattle.rdb_base.proofs.OrderLemmas.{row_level, row_order_total}
use Rattle.rdb_schema.specs.declared.schema.IndexKind.{IndexKind}
use Rattle.rdb_schema.specs.declared.schema.IndexKind.TheVariants.{Tree}
use Rattle.rdb_pages.specs.declared.cell.CellRef.{CellRef}
use Rattle.rdb_cells.specs.Images.{Image}
use Rattle.rdb_cells.specs.Keys.{Sayings}
use Rattle.rdb_rows.specs.RowKeys.{picked}
use Rattle.rdb_tree.specs.Lookups.{is_past, first_past}
use Rattle.rdb_tree.specs.Order.{AreAscending}
use Rattle.rdb_sight.specs.Versions.{Object, Marks, chain_of}
use Rattle.rdb_shown.proofs.ChainMaps.{Rises}
use Rattle.rdb_model.specs.Index.{key, has_key, pair_of, index}
use Rattle.rdb_model.specs.Answer.{is_beyond, sought}
use Rattle.rdb_store.specs.Shapes.{nature_of}
use Rattle.rdb_cursor.specs.declared.marks.Reader.{Reader}
use Rattle.rdb_cursor.specs.Views.{row_of, rows_of}
use Rattle.rdb_cursor.proofs.Pairs.{Pair, nearer, nearer_both, nearer_neither, beyond_pair, beyond_more, sought_none, sought_some, sought_same}
use Rattle.rdb_cursor.proofs.Listing.{Listing, Listed, shown_listed, each_shown, shown_in}
use Rattle.rdb_cursor.proofs.Seeking.{past_is, at_member, met_none, met_beyond, met_others}

-- a tree lists in ascending order
pub ascending_of : (class place : ℕ) (kind : IndexKind) → kind ≡ Tree → (said : Sayings) (image : Image) (listed : List CellRef) (nodes : List ℕ) → (nature_of class place kind).Stands said image listed nodes → AreAscending said listed
ascending_of class place kind is said image listed nodes =
    subst (λ (k : IndexKind). (nature_of class place k).Stands said image listed nodes → AreAscending said listed) (sym is) (λ stands. stands.ascending)

equal_from : (o : Ordering) → is_eq o ≡ true → o ≡ Equal
equal_from Less e = absurd (false≢true e)
equal_from Equal e = refl
equal_from Greater e = absurd (false≢true e)

-- a row has a key that is its own
pub key_is : (fields : List ℕ) (wanted row : List Value) → has_key fields wanted row ≡ true → key fields row ≡ wanted
key_is fields wanted row has = row_level (key fields row) wanted (equal_from (row_order (key fields row) wanted) has)

pub has_own_key : (fields : List ℕ) (wanted row : List Value) → key fields row ≡ wanted → has_key fields wanted row ≡ true
has_own_key fields wanted row is = ap (λ (k : List Value). is_eq (row_order k wanted)) is ∙ ap is_eq (tied_itself row_order_total wanted)

module _ (said : Sayings) (fields : List ℕ) (objects : List Object) (listed : List CellRef) (listing : Listing said fields objects listed) (ascending : AreAscending said listed) (marks : Marks) (reader : Reader) (rises : Rises objects) (from : Place) (up : Bool) where
  -- where no version is past the place, no pair is
  pub none_past : first_past said from up listed ≡ None → sought from up (index fields (rows_of marks reader objects)) ≡ None
  none_past is =
      sought_none from up fields (rows_of marks reader objects)
      (each_shown marks reader objects rises (λ q. is_beyond from up (pair_of fields q) ≡ false) (λ id row shows.
      let s = shown_listed said fields objects listed listing marks reader id row shows in
      sym (past_is said from up s.0 _ s.3.1) ∙ at_member (λ r. is_past said from up r ≡ false) listed s.0 (met_none said (is_past said from up) up listed is) s.1))

  module _ (r : CellRef) (is : first_past said from up listed ≡ Some r) (at : Listed said fields objects r) where
    beyond : is_beyond from up (picked at.row fields, at.id) ≡ true
    beyond = met_beyond said from up listed ascending r is _ at.said_is

    further : (id : ℕ) (row : List Value) → row_of marks reader (chain_of objects id) ≡ Some row → is_beyond from up (pair_of fields (id, row)) ≡ true → nearer up (pair_of fields (id, row)) (picked at.row fields, at.id) ≡ false
    further id row shows past =
        let s = shown_listed said fields objects listed listing marks reader id row shows in
        met_others said from up listed ascending r is _ at.said_is s.0 _ s.1 s.3.1 past

    -- the pair of the version is the one that is sought, where its object shows a row with the key
    pub told_pair : option_map_or (has_key fields (picked at.row fields)) (row_of marks reader (chain_of objects at.id)) false ≡ true → sought from up (index fields (rows_of marks reader objects)) ≡ Some (picked at.row fields, at.id)
    told_pair shows = go (row_of marks reader (chain_of objects at.id)) refl shows
      where
        go : (o : Option (List Value)) → row_of marks reader (chain_of objects at.id) ≡ o → option_map_or (has_key fields (picked at.row fields)) o false ≡ true → sought from up (index fields (rows_of marks reader objects)) ≡ Some (picked at.row fields, at.id)
        go None e f = absurd (false≢true f)
        go (Some row) e f =
            let same : key fields row ≡ picked at.row fields = key_is fields (picked at.row fields) row f in
            sought_some from up fields (rows_of marks reader objects) (at.id, row) (shown_in marks reader objects rises at.id row e)
            (subst (λ (k : List Value). is_beyond from up (k, at.id) ≡ true) (sym same) beyond)
            (each_shown marks reader objects rises (λ q. is_beyond from up (pair_of fields q) ≡ true → nearer up (pair_of fields q) (key fields row, at.id) ≡ false)
            (λ id other shown past. subst (λ (k : List Value). nearer up (pair_of fields (id, other)) (k, at.id) ≡ false) (sym same) (further id other shown past)))
            ∙ ap (λ (k : List Value). Some (k, at.id)) same

    -- from its pair on a seek finds what it finds from the place, where it doesn't
    pub passed_pair : option_map_or (has_key fields (picked at.row fields)) (row_of marks reader (chain_of objects at.id)) false ≡ false → sought (place.At (picked at.row fields) at.id) up (index fields (rows_of marks reader objects)) ≡ sought from up (index fields (rows_of marks reader objects))
    passed_pair hides =
        sought_same (place.At (picked at.row fields) at.id) from up fields (rows_of marks reader objects)
        (each_shown marks reader objects rises (λ q. is_beyond (place.At (picked at.row fields) at.id) up (pair_of fields q) ≡ is_beyond from up (pair_of fields q))
        (λ id row shows. both (is_beyond (place.At (picked at.row fields) at.id) up (pair_of fields (id, row))) (is_beyond from up (pair_of fields (id, row))) (onward id row) (onto id row shows)))
      where
        both : (s t : Bool) → (s ≡ true → t ≡ true) → (t ≡ true → s ≡ true) → s ≡ t
        both true t f g = sym (f refl)
        both false true f g = g refl
        both false false f g = refl

        onward : (id : ℕ) (row : List Value) → is_beyond (place.At (picked at.row fields) at.id) up (pair_of fields (id, row)) ≡ true → is_beyond from up (pair_of fields (id, row)) ≡ true
        onward id row past =
            beyond_more from up (picked at.row fields, at.id) (pair_of fields (id, row)) beyond
            (nearer_both up (picked at.row fields, at.id) (pair_of fields (id, row)) (sym (beyond_pair up (picked at.row fields, at.id) (pair_of fields (id, row))) ∙ past))

        onto : (id : ℕ) (row : List Value) → row_of marks reader (chain_of objects id) ≡ Some row → is_beyond from up (pair_of fields (id, row)) ≡ true → is_beyond (place.At (picked at.row fields) at.id) up (pair_of fields (id, row)) ≡ true
        onto id row shows past = beyond_pair up (picked at.row fields, at.id) (pair_of fields (id, row)) ∙ go (nearer up (picked at.row fields, at.id) (pair_of fields (id, row))) refl
          where
            go : (b : Bool) → nearer up (picked at.row fields, at.id) (pair_of fields (id, row)) ≡ b → nearer up (picked at.row fields, at.id) (pair_of fields (id, row)) ≡ true
            go true e = e
            go false e =
                let one : pair_of fields (id, row) ≡ (picked at.row fields, at.id) = nearer_neither up (pair_of fields (id, row)) (picked at.row fields, at.id) (further id row shows past) e in
                let ids : id ≡ at.id = ap (λ (p : Pair). p.1) one in
                let keys : key fields row ≡ picked at.row fields = ap (λ (p : Pair). p.0) one in
                let here : row_of marks reader (chain_of objects at.id) ≡ Some row = subst (λ (n : ℕ). row_of marks reader (chain_of objects n) ≡ Some row) ids shows in
                let shown : option_map_or (has_key fields (picked at.row fields)) (row_of marks reader (chain_of objects at.id)) false ≡ true =
                ap (λ (o : Option (List Value)). option_map_or (has_key fields (picked at.row fields)) o false) here ∙ has_own_key fields (picked at.row fields) row keys in
                absurd (false≢true (sym hides ∙ shown))
