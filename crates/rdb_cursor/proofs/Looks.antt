-- What the cells of a class say of its objects' versions, to whoever looks.
use Rattle.std.proofs.Common.{◌≡◌, ◌≢◌, ℕ, Bool, true, false, cond, List, [], ◌∷◌, Option, Some, None, IsSome, is_some, slice_get, inl, inr, refl, sym, ap, subst, ◌∙◌}
use Rattle.std.proofs.lemmas.Bool.{false≢true}
use Rattle.std.specs.List.{Contains}
use Rattle.std.specs.Option.{option_map, option_and_then}
use Rattle.rdb_base.specs.declared.value.Value.{Value}
use Rattle.rdb_schema.specs.declared.schema.IndexKind.{IndexKind}
use Rattle.rdb_schema.specs.Encoding.{row_bytes}
use Rattle.rdb_pages.specs.declared.cell.CellRef.{CellRef}
use Rattle.rdb_cells.specs.Images.{Image}
use Rattle.rdb_hash.specs.Shape.{hash_nature}
use Rattle.rdb_tree.specs.Nature.{tree_nature}
use Rattle.rdb_objects.specs.Objects.{Object as Linked, newest_of, newest_version, versions_of}
use Rattle.rdb_objects.specs.Slots.{AreVersions, HoldsObjects}
use Rattle.rdb_rows.specs.Decoded.{IsRowOf}
use Rattle.rdb_rows.specs.RowKeys.{KeyShape, key_meaning}
use Rattle.rdb_rows.specs.Versions.{HasVersion, ForVersion, HoldsVersion, is_tombstone}
use Rattle.rdb_sight.specs.Versions.{Version, Object, Marks, chain_of}
use Rattle.rdb_sight.proofs.LatestLemmas.{seen_there}
use Rattle.rdb_store.specs.declared.class_index.ClassIndex.{ClassIndex}
use Rattle.rdb_store.specs.declared.class_index.ClassIndex.TheVariants.{Hash, Tree}
use Rattle.rdb_store.specs.declared.keyed.Keyed.{Keyed}
use Rattle.rdb_store.specs.ClassIndexes.{index_nature, kind_of, IsAt}
use Rattle.rdb_store.specs.Holds.{HoldsIn}
use Rattle.rdb_store.specs.Layouts.{Layout}
use Rattle.rdb_store.specs.Shapes.{ClassShape, IndexShape, nature_of_class, nature_of, index_at}
use Rattle.rdb_store.specs.Stored.{ref_of, refs_of, all_linked, as_stored, IsRow, IsStored, HasHeader, HasRowAt}
use Rattle.rdb_store.proofs.Storing.{linked_versions, stored_in}
use Rattle.rdb_cursor.specs.declared.marks.Reader.{Reader}
use Rattle.rdb_cursor.proofs.Walks.{seen_best, none_best}
use Rattle.rdb_base.specs.declared.identity.Stamp.{Stamp}
use Rattle.rdb_cursor.specs.Views.{version_of, sighted, ref_shown, row_of, if_alive, StandsFrom, IsIndexAt, HasRow, IsOf, IsIdIfShown}

-- The versions of an object stand one behind the other
chain_stands : (image : Image) (class : ℕ) (objects : List Linked) (cells : List ℕ) → HoldsObjects image class objects cells → (id : ℕ) → AreVersions image id (versions_of objects id)
chain_stands image class objects cells holds id = elim (holds.objects_are.slotted id) [
  | inl none ↦ subst (λ (vs : List CellRef). AreVersions image id vs) (sym none) tt
  | inr found ↦
      let one = found.1 in
      let are = (holds.versions found.0 one).1 in
      subst (λ (k : ℕ). AreVersions image k (versions_of objects k)) found.2
      (subst (λ (vs : List CellRef). AreVersions image found.0.id vs) (sym (holds.objects_are.told found.0 one)) are)
]

first_ref : (chain : List Version) (newest : CellRef) → slice_get (refs_of chain) 0 ≡ Some newest → newest ≡ newest_of (refs_of chain)
first_ref [] newest is = absurd (cc)
first_ref (v ∷ vs) newest is = (cc)

no_first : (chain : List Version) → slice_get (refs_of chain) 0 ≡ None → chain ≡ []
no_first [] none = refl
no_first (v ∷ vs) none = absurd (cc)

module _ (shape : ClassShape) (image : Image) (class_of : ℕ → Option ℕ) (objects : List Object) (layout : Layout) (holds : HoldsIn (nature_of_class shape) image class_of objects layout) where
  newest_is : (id : ℕ) → newest_version (all_linked objects) id ≡ slice_get (refs_of (chain_of objects id)) 0
  newest_is id = ap (λ (vs : List CellRef). slice_get vs 0) (linked_versions objects id)

  pub stands_from_refs : (id : ℕ) (newest : CellRef) → newest ≡ newest_of (refs_of (chain_of objects id)) → StandsFrom shape image newest id (chain_of objects id)
  stands_from_refs id newest is = record {
    layout = layout;
    stored = holds.chains id;
    linked = subst (λ (vs : List CellRef). AreVersions image id vs) (linked_versions objects id) (chain_stands image shape.number (all_linked objects) layout.slots holds.slots id);
    begins = is;
  }

  pub stands_from : (id : ℕ) (newest : CellRef) → Some newest ≡ newest_version (all_linked objects) id → StandsFrom shape image newest id (chain_of objects id)
  stands_from id newest is = stands_from_refs id newest (first_ref (chain_of objects id) newest (sym (is ∙ newest_is id)))

  pub none_shown : (marks : Marks) (reader : Reader) (id : ℕ) → None ≡ newest_version (all_linked objects) id → None ≡ ref_shown marks reader (chain_of objects id)
  none_shown marks reader id is = ap (λ (vs : List Version). ref_shown marks reader vs) (sym (no_first (chain_of objects id) (sym (is ∙ newest_is id))))

  -- a version with this header stands there
  module _ (version : CellRef) (id : ℕ) (v : Version) (within : Contains (chain_of objects id) v) (there : v.header ≡ version.number) where
    pub stored : (older : List Version) × IsStored (nature_of_class shape) image id v older (layout.of_version v.header)
    stored = stored_in (nature_of_class shape) image layout id (chain_of objects id) (holds.chains id) v within

    pub standing : HoldsVersion image version.number (as_stored (nature_of_class shape) id v stored.0) (layout.of_version v.header)
    standing = subst (λ (n : ℕ). HoldsVersion image n (as_stored (nature_of_class shape) id v stored.0) (layout.of_version v.header)) there stored.1.stands

    pub proper : IsRow shape.types v.row
    proper = stored.1.row

    pub has_version : HasVersion image version.number
    has_version = record { version = _; cells = _; holds = standing }

  pub header_there : (version : CellRef) → HasHeader objects version.number → HasVersion image version.number
  header_there version has = has_version version has.has.id has.version has.has.within has.there

  pub id_is : (version : CellRef) (id : ℕ) → ForVersion image version.number (λ v cells. id ≡ v.label.id) → IsOf objects version id
  id_is version id is other v within there = sym (is _ _ (standing version other v within there))

  pub row_there : (version : CellRef) → HasRowAt objects version.number → HasVersion image version.number
  row_there version has = has_version version has.has.id has.version has.has.within has.there

  read_is : (types : List _) (row : Option (List Value)) (read : Option (List Value)) → IsRow types row → IsRowOf types (option_map (row_bytes types) row) read → read ≡ row
  read_is types None read is told = told
  read_is types (Some row) read is told = told row (record { fits = is.0; proper = is.1; bytes_are = refl })

  -- what was read is the row of each version with the header
  pub reads_row : (version : CellRef) (read : Option (List Value)) → ForVersion image version.number (λ v cells. IsRowOf shape.types v.row read) → (id : ℕ) (v : Version) → Contains (chain_of objects id) v → v.header ≡ version.number → read ≡ v.row
  reads_row version read told id v within there =
      read_is shape.types v.row read (proper version id v within there) (told _ _ (standing version id v within there))

  pub has_row : (version : CellRef) (row : List Value) (read : Option (List Value)) → read ≡ Some row → ForVersion image version.number (λ v cells. IsRowOf shape.types v.row read) → HasRow objects version row
  has_row version row read is told id v within there = sym (reads_row version read told id v within there) ∙ is

  pub never_none : (version : CellRef) (read : Option (List Value)) → read ≡ None → ForVersion image version.number (λ v cells. IsRowOf shape.types v.row read) → HasRowAt objects version.number → ⊥
  never_none version read is told has =
      let none : None ≡ has.version.row = sym is ∙ reads_row version read told has.has.id has.version has.has.within has.there in
      false≢true (subst (λ (o : Option (List Value)). IsSome o) (sym none) has.row)

-- What is shown of a chain
record IsShown (o : Option Version) (r : CellRef) : Type 0 where
  pub version : Version
  pub row : List Value
  pub is : o ≡ Some version
  pub there : ref_of version ≡ r
  pub has : version.row ≡ Some row

if_alive_none : (v : Version) → v.row ≡ None → if_alive v ≡ None
if_alive_none v e = ap (λ (o : Option (List Value)). cond (is_some o) (Some v) None) e

if_alive_some : (v : Version) (row : List Value) → v.row ≡ Some row → if_alive v ≡ Some v
if_alive_some v row e = ap (λ (o : Option (List Value)). cond (is_some o) (Some v) None) e

shown_by : (o : Option Version) (r : CellRef) → option_map ref_of (option_and_then if_alive o) ≡ Some r → IsShown o r
shown_by None r is = absurd (cc)
shown_by (Some v) r is = by_row v.row refl
  where
    by_row : (row : Option (List Value)) → v.row ≡ row → IsShown (Some v) r
    by_row None e =
        let none : None ≡ Some r = sym (ap (λ (o : Option Version). option_map ref_of o) (if_alive_none v e)) ∙ is in
        absurd (cc)
    by_row (Some row) e =
        let here : Some (ref_of v) ≡ Some r = sym (ap (λ (o : Option Version). option_map ref_of o) (if_alive_some v row e)) ∙ is in
        record { version = v; row = row; is = refl; there = (cc); has = e }

module _ (marks : Marks) (reader : Reader) (chain : List Version) where
  -- what is shown is a version of the chain, and has a row
  pub shown_there : (r : CellRef) → ref_shown marks reader chain ≡ Some r → (v : Version) × (row : List Value) × Contains chain v × (v.header ≡ r.number) × (v.row ≡ Some row) × (version_of marks reader chain ≡ Some v)
  shown_there r is =
      let s = shown_by (version_of marks reader chain) r is in
      (s.version, s.row, seen_there marks reader.snapshot (Some reader.tx) chain s.version s.is, ap (λ (q : CellRef). q.number) s.there, s.has, s.is)

  pub shows_row : (r : CellRef) (row : List Value) → ref_shown marks reader chain ≡ Some r → ((v : Version) → Contains chain v → v.header ≡ r.number → v.row ≡ Some row) → row_of marks reader chain ≡ Some row
  shows_row r row is has =
      let s = shown_there r is in
      ap (λ (o : Option Version). option_and_then (λ (v : Version). v.row) o) s.5 ∙ has s.0 s.2 s.3

  pub shows_none : ref_shown marks reader chain ≡ None → row_of marks reader chain ≡ None
  shows_none is = go (version_of marks reader chain) is
    where
      go : (o : Option Version) → option_map ref_of (option_and_then if_alive o) ≡ None → option_and_then (λ (v : Version). v.row) o ≡ None
      go None e = refl
      go (Some v) e = by_row v.row refl
        where
          by_row : (row : Option (List Value)) → v.row ≡ row → v.row ≡ None
          by_row None f = f
          by_row (Some row) f =
              let some : Some (ref_of v) ≡ None = sym (ap (λ (o : Option Version). option_map ref_of o) (if_alive_some v row f)) ∙ e in
              absurd (cc)

  -- what shows a row has a version that is shown
  pub row_shown_by : (row : List Value) → row_of marks reader chain ≡ Some row → (v : Version) × Contains chain v × (v.row ≡ Some row) × (ref_shown marks reader chain ≡ Some (ref_of v))
  row_shown_by row is = go (version_of marks reader chain) refl is
    where
      go : (o : Option Version) → version_of marks reader chain ≡ o → option_and_then (λ (v : Version). v.row) o ≡ Some row → (v : Version) × Contains chain v × (v.row ≡ Some row) × (ref_shown marks reader chain ≡ Some (ref_of v))
      go None e f = absurd (cc)
      go (Some v) e f = (
        v,
        seen_there marks reader.snapshot (Some reader.tx) chain v e,
        f,
        ap (λ (o : Option Version). option_map ref_of (option_and_then if_alive o)) e ∙ ap (λ (o : Option Version). option_map ref_of o) (if_alive_some v row f),
      )

-- The last of the versions from the newest on, once the best is known
module _ (shape : ClassShape) (image : Image) (newest : CellRef) (id : ℕ) (chain : List Version) (stands : StandsFrom shape image newest id chain) (marks : Marks) (reader : Reader) (v : Version) (is : version_of marks reader chain ≡ Some v) where
  there : (older : List Version) × IsStored (nature_of_class shape) image id v older (stands.layout.of_version v.header)
  there = stored_in (nature_of_class shape) image stands.layout id chain stands.stored v (seen_there marks reader.snapshot (Some reader.tx) chain v is)

  pub best_there : HasVersion image v.header
  best_there = record { version = _; cells = _; holds = there.1.stands }

  module _ (dead : Bool) (told : ForVersion image v.header (λ w cells. dead ≡ is_tombstone w.row)) where
    says : dead ≡ is_tombstone (option_map (row_bytes shape.types) v.row)
    says = told _ _ there.1.stands

    pub best_dead : dead ≡ true → None ≡ ref_shown marks reader chain
    best_dead it = sym (ap (λ (o : Option Version). option_map ref_of (option_and_then if_alive o)) is ∙ ap (λ (o : Option Version). option_map ref_of o) (go v.row refl (sym says ∙ it)))
      where
        go : (row : Option (List Value)) → v.row ≡ row → is_tombstone (option_map (row_bytes shape.types) v.row) ≡ true → if_alive v ≡ None
        go None e f = if_alive_none v e
        go (Some row) e f =
            let live : false ≡ true = sym (ap (λ (o : Option (List Value)). is_tombstone (option_map (row_bytes shape.types) o)) e) ∙ f in
            absurd (cc)

    pub best_alive : dead ≡ false → Some (ref_of v) ≡ ref_shown marks reader chain
    best_alive it = sym (ap (λ (o : Option Version). option_map ref_of (option_and_then if_alive o)) is ∙ ap (λ (o : Option Version). option_map ref_of o) (go v.row refl (sym says ∙ it)))
      where
        go : (row : Option (List Value)) → v.row ≡ row → is_tombstone (option_map (row_bytes shape.types) v.row) ≡ false → if_alive v ≡ Some v
        go (Some row) e f = if_alive_some v row e
        go None e f =
            let gone : true ≡ false = sym (ap (λ (o : Option (List Value)). is_tombstone (option_map (row_bytes shape.types) o)) e) ∙ f in
            absurd (cc)

-- What the best version comes to
module _ (shape : ClassShape) (image : Image) (newest : CellRef) (id : ℕ) (chain : List Version) (stands : StandsFrom shape image newest id chain) (marks : Marks) (reader : Reader) (best : Option (CellRef × Stamp)) (best_is : best ≡ option_map (sighted marks) (version_of marks reader chain)) where
  pub nothing_seen : best ≡ None → None ≡ ref_shown marks reader chain
  nothing_seen none = sym (ap (λ (o : Option Version). option_map ref_of (option_and_then if_alive o)) (none_best marks (version_of marks reader chain) best best_is none))

  module _ (version : CellRef) (s : Stamp) (found : best ≡ Some (version, s)) where
    pub it : (v : Version) × (version_of marks reader chain ≡ Some v) × ((version, s) ≡ sighted marks v)
    it = seen_best marks (version_of marks reader chain) best (version, s) best_is found

    pub version_is : version ≡ ref_of it.0
    version_is = ap (λ (b : CellRef × Stamp). b.0) it.2

    pub asked_there : HasVersion image version.number
    asked_there = subst (λ (r : CellRef). HasVersion image r.number) (sym version_is) (best_there shape image newest id chain stands marks reader it.0 it.1)

    module _ (dead : Bool) (told : ForVersion image version.number (λ w cells. dead ≡ is_tombstone w.row)) where
      told_there : ForVersion image it.0.header (λ w cells. dead ≡ is_tombstone w.row)
      told_there = subst (λ (r : CellRef). ForVersion image r.number (λ w cells. dead ≡ is_tombstone w.row)) version_is told

      pub dead_seen : dead ≡ true → None ≡ ref_shown marks reader chain
      dead_seen = best_dead shape image newest id chain stands marks reader it.0 it.1 dead told_there

      pub alive_seen : dead ≡ false → Some version ≡ ref_shown marks reader chain
      alive_seen lives = ap Some version_is ∙ best_alive shape image newest id chain stands marks reader it.0 it.1 dead told_there lives

-- The id of a version's object
module _ (marks : Marks) (reader : Reader) (objects : List Object) (version : CellRef) (id : ℕ) (is : IsOf objects version id) (seen : Option CellRef) (seen_is : seen ≡ ref_shown marks reader (chain_of objects id)) where
  only_of : (k : ℕ) → ref_shown marks reader (chain_of objects k) ≡ Some version → k ≡ id
  only_of k shown =
      let s = shown_there marks reader (chain_of objects k) version shown in
      is k s.0 s.2 s.3

  pub given_id : seen ≡ Some version → IsIdIfShown marks reader version (Some id) objects
  given_id it k = (
    λ same. (let e : id ≡ k = (cc) in subst (λ (n : ℕ). ref_shown marks reader (chain_of objects n) ≡ Some version) e (sym seen_is ∙ it)),
    λ shown. ap Some (sym (only_of k shown)),
  )

  pub given_none : seen ≢ Some version → IsIdIfShown marks reader version None objects
  given_none other k = (
    λ same. absurd (cc),
    λ shown. absurd (other (seen_is ∙ subst (λ (n : ℕ). ref_shown marks reader (chain_of objects n) ≡ Some version) (only_of k shown) shown)),
  )

-- The index at a place of a class
nature_at : (class place : ℕ) (index : ClassIndex) (kind : IndexKind) → IsAt class place index → kind_of index ≡ kind → index_nature index ≡ nature_of class place kind
nature_at class place (Hash hash) kind at is = subst (λ (k : IndexKind). index_nature (Hash hash) ≡ nature_of class place k) is (λ i. hash_nature (at.0 i) ((at.1 i).number))
nature_at class place (Tree tree) kind at is = subst (λ (k : IndexKind). index_nature (Tree tree) ≡ nature_of class place k) is (λ i. tree_nature (at.0 i) ((at.1 i).number))

module _ (shape : ClassShape) (place : ℕ) (keyed : Keyed ClassIndex KeyShape) (at : IsIndexAt shape place keyed) where
  pub nature_is : index_nature keyed.index ≡ ((nature_of_class shape).at place).index
  nature_is = nature_at shape.number place keyed.index (index_at shape place).kind at.keyed_at.at (ap (λ (s : IndexShape). s.kind) at.shape_is)

  pub keys_are : keyed.keys ≡ record { types = shape.types; fields = (index_at shape place).fields }
  keys_are = λ i. record { types = at.keyed_at.over i; fields = (at.shape_is i).fields }

  pub meaning_is : key_meaning keyed.keys ≡ ((nature_of_class shape).at place).keys
  meaning_is = ap key_meaning keys_are
