-- An index of a class that can be looked at: that it stands, what its look-ups give, and what the keys say of what is shown.
use Rattle.std.proofs.Common.{◌≡◌, ◌↔◌, ℕ, Bool, true, false, List, filter, Option, Some, None, IsSome, IsTrue, refl, sym, ap, ap₂, subst, ◌∙◌}
use Rattle.std.specs.List.{Contains}
use Rattle.std.specs.List.Sorted.{IsPermutation}
use Rattle.std.specs.Option.{option_map_or, option_and_then}
use Rattle.std.proofs.lemmas.List.Sorted.{Contains-permutation}
use Rattle.rdb_base.specs.declared.operation.Place.{Place}
use Rattle.rdb_base.specs.declared.operation.Place.TheVariants as places
use Rattle.rdb_base.specs.declared.operation.Reply.TheVariants as reply
use Rattle.rdb_base.specs.declared.value.Value.{Value}
use Rattle.rdb_schema.specs.declared.schema.IndexKind.TheVariants.{Tree}
use Rattle.rdb_pages.specs.declared.cell.CellRef.{CellRef}
use Rattle.rdb_cells.specs.Images.{Image}
use Rattle.rdb_cells.specs.Index.{Nature}
use Rattle.rdb_cells.specs.Keys.{Version as Keyed, Meaning, says, HasKey, ForVersion}
use Rattle.rdb_rows.specs.RowKeys.{KeyShape, key_meaning, picked}
use Rattle.rdb_rows.specs.KeyLaws.{keys_fit}
use Rattle.rdb_tree.specs.Lookups.{is_past, first_past}
use Rattle.rdb_tree.specs.Order.{AreAscending}
use Rattle.rdb_sight.specs.Versions.{Version, Object, Marks, chain_of}
use Rattle.rdb_shown.proofs.ChainMaps.{Rises, rises_from}
use Rattle.rdb_shown.proofs.RowsShown.{row_of_shown}
use Rattle.rdb_model.specs.Database.{Row, row_of as row_among}
use Rattle.rdb_model.specs.Index.{key, has_key, index}
use Rattle.rdb_model.specs.Answer.{sought}
use Rattle.rdb_store.specs.declared.class_index.ClassIndex.{ClassIndex}
use Rattle.rdb_store.specs.declared.keyed.Keyed.{Keyed as KeyedIndex}
use Rattle.rdb_store.specs.ClassIndexes.{index_nature}
use Rattle.rdb_store.specs.Holds.{Holds, Agrees}
use Rattle.rdb_store.specs.Lookups.{Stands, AreWithKey, IsNext}
use Rattle.rdb_store.specs.Shapes.{ClassShape, nature_of_class, index_at}
use Rattle.rdb_store.specs.Stored.{HasHeader, HasRowAt}
use Rattle.rdb_cursor.specs.declared.marks.Reader.{Reader}
use Rattle.rdb_cursor.specs.Seeks.{sought_reply, IsNearer}
use Rattle.rdb_cursor.specs.Views.{CanLook, IsIndexAt, HasRow, IsOf, row_of, rows_of, ref_shown}
use Rattle.rdb_cursor.proofs.Finding.{is_keyed, filter_in}
use Rattle.rdb_cursor.proofs.Listing.{Listing, Listed, listing_of, listed_is}
use Rattle.rdb_cursor.proofs.Looks.{nature_is, meaning_is, shown_there, shows_row, shows_none}
use Rattle.rdb_cursor.proofs.SeekSteps.{ascending_of, none_past, told_pair, passed_pair, key_is, has_own_key}
use Rattle.rdb_cursor.proofs.Seeking.{met_first, fewer_past}

-- what has a row is a version
pub header_of_row : (objects : List Object) (n : ℕ) → HasRowAt objects n → HasHeader objects n
header_of_row objects n has = record { version = has.version; has = has.has; there = has.there }

-- what is shown has a row
pub row_of_shown_ref : (marks : Marks) (reader : Reader) (objects : List Object) (id : ℕ) (r : CellRef) → ref_shown marks reader (chain_of objects id) ≡ Some r → HasRowAt objects r.number
row_of_shown_ref marks reader objects id r shown =
    let s = shown_there marks reader (chain_of objects id) r shown in
    record { version = s.0; has = record { id = id; within = s.2 }; there = s.3; row = subst (λ (o : Option (List Value)). IsSome o) (sym s.4) refl }

-- What a get is told
module _ (marks : Marks) (reader : Reader) (objects : List Object) (rises : Rises objects) (id : ℕ) (seen : Option CellRef) (seen_is : seen ≡ ref_shown marks reader (chain_of objects id)) where
  pub got_row : (r : CellRef) (row : Row) → seen ≡ Some r → HasRow objects r row → reply.Row row ≡ option_map_or reply.Row (row_among (rows_of marks reader objects) id) reply.NotFound
  got_row r row is has =
      let shown = shows_row marks reader (chain_of objects id) r row (sym seen_is ∙ is) (λ v within there. has id v within there) in
      sym (ap (λ (o : Option Row). option_map_or reply.Row o reply.NotFound) (row_of_shown marks reader.snapshot (Some reader.tx) objects id rises ∙ shown))

  pub got_none : seen ≡ None → reply.NotFound ≡ option_map_or reply.Row (row_among (rows_of marks reader objects) id) reply.NotFound
  got_none is =
      sym (ap (λ (o : Option Row). option_map_or reply.Row o reply.NotFound) (row_of_shown marks reader.snapshot (Some reader.tx) objects id rises ∙ shows_none marks reader (chain_of objects id) (sym seen_is ∙ is)))

both : (s t : Bool) → (s ≡ true → t ≡ true) → (t ≡ true → s ≡ true) → s ≡ t
both true t f g = sym (f refl)
both false true f g = g refl
both false false f g = refl

module _ (shape : ClassShape) (image : Image) (class_of : ℕ → Option ℕ) (look : CanLook shape image class_of) (place : ℕ) (keyed : KeyedIndex ClassIndex KeyShape) (at : IsIndexAt shape place keyed) where
  -- the index stands
  pub stands_by : Stands (index_nature keyed.index) (key_meaning keyed.keys) image
  stands_by =
      let holds = look.holds.1.1 in
      let agrees = holds.indexes place at.within in
      subst (λ (n : Nature). Stands n (key_meaning keyed.keys) image) (sym (nature_is shape place keyed at))
      (subst (λ (keys : Meaning). Stands ((nature_of_class shape).at place).index keys image) (sym (meaning_is shape place keyed at)) (agrees.listed, look.holds.1.0.of_index place, agrees.lists))

  pub key_fits : (wanted : List Value) → ((nature_of_class shape).at place).keys.fits wanted ≡ true → (key_meaning keyed.keys).fits wanted ≡ true
  key_fits wanted fits = subst (λ (keys : Meaning). keys.fits wanted ≡ true) (sym (meaning_is shape place keyed at)) fits

  module _ (objects : List Object) (held : Holds (nature_of_class shape) image class_of objects) where
    abbrev pub agrees : Agrees ((nature_of_class shape).at place).index ((nature_of_class shape).at place).keys image objects (held.0.of_index place)
    agrees = held.1.indexes place at.within

    pub listing : Listing (says ((nature_of_class shape).at place).keys image) (index_at shape place).fields objects agrees.listed
    listing = listing_of shape image class_of objects held.0 held.1 look.lawful place at.within

    pub rises : Rises objects
    rises = rises_from objects held.1.ascending

    -- what a look-up by a key gives
    pub found_these : (wanted : List Value) (found : List CellRef) → AreWithKey (index_nature keyed.index) (key_meaning keyed.keys) image wanted found → IsPermutation found (filter (is_keyed (says ((nature_of_class shape).at place).keys image) wanted) agrees.listed)
    found_these wanted found these =
        (subst (λ (keys : Meaning). AreWithKey ((nature_of_class shape).at place).index keys image wanted found) (meaning_is shape place keyed at)
        (subst (λ (n : Nature). AreWithKey n (key_meaning keyed.keys) image wanted found) (nature_is shape place keyed at) these)) agrees.listed (held.0.of_index place) agrees.lists

    pub found_listed : (wanted : List Value) (found : List CellRef) → AreWithKey (index_nature keyed.index) (key_meaning keyed.keys) image wanted found → (r : CellRef) → Contains found r → Contains agrees.listed r
    found_listed wanted found these r within =
        (filter_in (is_keyed (says ((nature_of_class shape).at place).keys image) wanted) agrees.listed r
        (Contains-permutation found (filter (is_keyed (says ((nature_of_class shape).at place).keys image) wanted) agrees.listed) r (found_these wanted found these) within)).0

    pub listed_row : (r : CellRef) → Contains agrees.listed r → HasRowAt objects r.number
    listed_row r within = (agrees.exactly r).0 within

    -- what the keys say of the version that an object shows
    module _ (marks : Marks) (reader : Reader) (id : ℕ) (version : CellRef) (shown : ref_shown marks reader (chain_of objects id) ≡ Some version) where
      said_shown : (row : Row) × (serial : ℕ) × (row_of marks reader (chain_of objects id) ≡ Some row) × (((nature_of_class shape).at place).keys.version_of image version.number ≡ Some (record { key = picked row (index_at shape place).fields; id = id; serial = serial }))
      said_shown =
          let s = shown_there marks reader (chain_of objects id) version shown in (
            s.1,
            s.0.serial,
            ap (λ (o : Option Version). option_and_then (λ (v : Version). v.row) o) s.5 ∙ s.4,
            ap (((nature_of_class shape).at place).keys.version_of image) (sym s.3) ∙ listing.says_of id s.0 s.1 s.2 s.4,
          )

      pub key_there : HasKey (key_meaning keyed.keys) image version
      key_there =
          subst (λ (keys : Meaning). HasKey keys image version) (sym (meaning_is shape place keyed at))
          (subst (λ (o : Option Keyed). IsSome o) (sym said_shown.3) refl)

      pub shows_by : (wanted : List Value) (result : Bool) → ForVersion (key_meaning keyed.keys) image version (λ v. IsTrue result ↔ (v.key ≡ wanted)) → result ≡ option_map_or (has_key (index_at shape place).fields wanted) (row_of marks reader (chain_of objects id)) false
      shows_by wanted result same =
          let told = (subst (λ (keys : Meaning). ForVersion keys image version (λ v. IsTrue result ↔ (v.key ≡ wanted))) (meaning_is shape place keyed at) same) _ said_shown.3 in
          both result (has_key (index_at shape place).fields wanted said_shown.0)
          (λ same_key. has_own_key (index_at shape place).fields wanted said_shown.0 (told.0 same_key))
          (λ has. told.1 (key_is (index_at shape place).fields wanted said_shown.0 has))
          ∙ sym (ap (λ (o : Option Row). option_map_or (has_key (index_at shape place).fields wanted) o false) said_shown.2)

    -- What a seek finds
    module _ (tree : (index_at shape place).kind ≡ Tree) (from : Place) (up : Bool) where
      ascending : AreAscending (says ((nature_of_class shape).at place).keys image) agrees.listed
      ascending = ascending_of shape.number place (index_at shape place).kind tree (says ((nature_of_class shape).at place).keys image) image agrees.listed (held.0.of_index place) agrees.lists

      pub next_is : (found : Option CellRef) → IsNext (index_nature keyed.index) (key_meaning keyed.keys) image from up found → found ≡ first_past (says ((nature_of_class shape).at place).keys image) from up agrees.listed
      next_is found is =
          (subst (λ (keys : Meaning). IsNext ((nature_of_class shape).at place).index keys image from up found) (meaning_is shape place keyed at)
          (subst (λ (n : Nature). IsNext n (key_meaning keyed.keys) image from up found) (nature_is shape place keyed at) is)) agrees.listed (held.0.of_index place) agrees.lists

      pub seek_ends : (marks : Marks) (reader : Reader) → first_past (says ((nature_of_class shape).at place).keys image) from up agrees.listed ≡ None → reply.End ≡ sought_reply (index_at shape place).fields from up (rows_of marks reader objects)
      seek_ends marks reader none =
          sym (ap (λ (o : Option (Row × ℕ)). option_map_or (λ (pair : Row × ℕ). reply.At pair.0 pair.1) o reply.End)
          (none_past (says ((nature_of_class shape).at place).keys image) (index_at shape place).fields objects agrees.listed listing ascending marks reader rises from up none))

      module _ (r : CellRef) (is : first_past (says ((nature_of_class shape).at place).keys image) from up agrees.listed ≡ Some r) where
        next_within : Contains agrees.listed r
        next_within = (met_first (says ((nature_of_class shape).at place).keys image) (is_past (says ((nature_of_class shape).at place).keys image) from up) up agrees.listed r ascending is).within

        pub next_row : HasRowAt objects r.number
        next_row = (agrees.exactly r).0 next_within

        pub next_listed : Listed (says ((nature_of_class shape).at place).keys image) (index_at shape place).fields objects r
        next_listed = listed_is (says ((nature_of_class shape).at place).keys image) (index_at shape place).fields objects agrees.listed listing r next_within

        -- the row, the key and the id that were read are those of the version
        module _ (row k : List Value) (id : ℕ) (has : HasRow objects r row) (k_is : k ≡ key (index_at shape place).fields row) (of_id : IsOf objects r id) where
          pub read_id : next_listed.id ≡ id
          read_id = of_id next_listed.id next_listed.version next_listed.within next_listed.there

          pub read_key : picked next_listed.row (index_at shape place).fields ≡ k
          read_key =
              let rows : Some next_listed.row ≡ Some row = sym next_listed.has ∙ has next_listed.id next_listed.version next_listed.within next_listed.there in
              ap (λ (o : Option (List Value)). option_map_or (λ (x : List Value). picked x (index_at shape place).fields) o k) rows ∙ sym k_is

          pub next_fits : ((nature_of_class shape).at place).keys.fits k ≡ true
          next_fits =
              subst (λ (x : List Value). ((nature_of_class shape).at place).keys.fits x ≡ true) read_key
              (keys_fit (record { types = shape.types; fields = (index_at shape place).fields }) image r.number _ next_listed.said_is)

          module _ (marks : Marks) (reader : Reader) (shows : Bool) (shows_is : shows ≡ option_map_or (has_key (index_at shape place).fields k) (row_of marks reader (chain_of objects id)) false) where
            shows_there : option_map_or (has_key (index_at shape place).fields (picked next_listed.row (index_at shape place).fields)) (row_of marks reader (chain_of objects next_listed.id)) false ≡ shows
            shows_there =
                ap₂ (λ (x : List Value) (n : ℕ). option_map_or (has_key (index_at shape place).fields x) (row_of marks reader (chain_of objects n)) false) read_key read_id ∙ sym shows_is

            pub seek_finds : shows ≡ true → reply.At k id ≡ sought_reply (index_at shape place).fields from up (rows_of marks reader objects)
            seek_finds shown =
                sym (ap (λ (o : Option (Row × ℕ)). option_map_or (λ (pair : Row × ℕ). reply.At pair.0 pair.1) o reply.End)
                (told_pair (says ((nature_of_class shape).at place).keys image) (index_at shape place).fields objects agrees.listed listing ascending marks reader rises from up r is next_listed (shows_there ∙ shown))
                ∙ ap₂ (λ (x : List Value) (n : ℕ). reply.At x n) read_key read_id)

            pub seek_passes : shows ≡ false → sought (places.At k id) up (index (index_at shape place).fields (rows_of marks reader objects)) ≡ sought from up (index (index_at shape place).fields (rows_of marks reader objects))
            seek_passes hidden =
                subst (λ (p : Place). sought p up (index (index_at shape place).fields (rows_of marks reader objects)) ≡ sought from up (index (index_at shape place).fields (rows_of marks reader objects)))
                (ap₂ (λ (x : List Value) (n : ℕ). places.At x n) read_key read_id)
                (passed_pair (says ((nature_of_class shape).at place).keys image) (index_at shape place).fields objects agrees.listed listing ascending marks reader rises from up r is next_listed (shows_there ∙ hidden))

  -- A step past a pair that isn't shown
  module _ (tree : (index_at shape place).kind ≡ Tree) (from : Place) (up : Bool) (r : CellRef) (is : IsNext (index_nature keyed.index) (key_meaning keyed.keys) image from up (Some r)) (row k : List Value) (id : ℕ) (k_is : k ≡ key (index_at shape place).fields row)
      (has : (objects : List Object) → Holds (nature_of_class shape) image class_of objects → HasRow objects r row) (of_id : (objects : List Object) → Holds (nature_of_class shape) image class_of objects → IsOf objects r id)
      (marks : Marks) (reader : Reader) (shows : Bool) (shows_is : (objects : List Object) → Holds (nature_of_class shape) image class_of objects → shows ≡ option_map_or (has_key (index_at shape place).fields k) (row_of marks reader (chain_of objects id)) false) where
    first_here : (objects : List Object) (held : Holds (nature_of_class shape) image class_of objects) → first_past (says ((nature_of_class shape).at place).keys image) from up (held.1.indexes place at.within).listed ≡ Some r
    first_here objects held = sym (next_is objects held tree from up (Some r) is)

    -- what the keys say of the version
    said : ((nature_of_class shape).at place).keys.version_of image r.number ≡ Some (record { key = k; id = id; serial = (next_listed look.holds.0 look.holds.1 tree from up r (first_here look.holds.0 look.holds.1)).version.serial })
    said =
        let l = next_listed look.holds.0 look.holds.1 tree from up r (first_here look.holds.0 look.holds.1) in
        let key_is_k = read_key look.holds.0 look.holds.1 tree from up r (first_here look.holds.0 look.holds.1) row k id (has look.holds.0 look.holds.1) k_is (of_id look.holds.0 look.holds.1) in
        let id_is_id = read_id look.holds.0 look.holds.1 tree from up r (first_here look.holds.0 look.holds.1) row k id (has look.holds.0 look.holds.1) k_is (of_id look.holds.0 look.holds.1) in
        l.said_is ∙ (λ i. Some (record { key = key_is_k i; id = id_is_id i; serial = l.version.serial }))

    pub step_passes : shows ≡ false → IsNearer shape place image class_of marks reader up (places.At k id) from
    step_passes hidden = record {
      fits = keys_fit (record { types = shape.types; fields = (index_at shape place).fields }) image r.number _ said;
      same = λ objects held.
          seek_passes objects held tree from up r (first_here objects held) row k id (has objects held) k_is (of_id objects held) marks reader shows (shows_is objects held) hidden;
      fewer = λ listed nodes lists.
          let ascends = ascending_of shape.number place (index_at shape place).kind tree (says ((nature_of_class shape).at place).keys image) image listed nodes lists in
          let first : Some r ≡ first_past (says ((nature_of_class shape).at place).keys image) from up listed =
          (subst (λ (keys : Meaning). IsNext ((nature_of_class shape).at place).index keys image from up (Some r)) (meaning_is shape place keyed at)
          (subst (λ (n : Nature). IsNext n (key_meaning keyed.keys) image from up (Some r)) (nature_is shape place keyed at) is)) listed nodes lists in
          fewer_past (says ((nature_of_class shape).at place).keys image) from up listed ascends r (sym first) _ said;
    }
