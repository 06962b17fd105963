-- What an index of a class lists, by the rows that a reader is shown of the class.
use Rattle.std.proofs.Common.{◌≡◌, ◌<◌, ◌↔◌, ℕ, Bool, true, false, cond, List, [], ◌∷◌, length, Option, Some, None, IsSome, nat_eq, inl, inr, refl, sym, ap, subst, ◌∙◌, arith}
use Rattle.std.specs.List.{Contains, AllByRecursion}
use Rattle.std.proofs.lemmas.Bool.{false≢true}
use Rattle.std.proofs.lemmas.Bool.Decides.{nat_tests}
use Rattle.rdb_base.specs.declared.value.Value.{Value}
use Rattle.rdb_pages.specs.declared.cell.CellRef.{CellRef}
use Rattle.rdb_cells.specs.Images.{Image}
use Rattle.rdb_cells.specs.Keys.{Sayings, says, ListsVersions}
use Rattle.rdb_rows.specs.RowKeys.{picked}
use Rattle.rdb_sight.specs.Versions.{Version, Object, Marks, chain_of}
use Rattle.rdb_shown.proofs.ChainMaps.{Rises}
use Rattle.rdb_shown.proofs.RowsShown.{rows_rise, row_of_shown}
use Rattle.rdb_model.specs.Database.{Objects, row_of as row_among}
use Rattle.rdb_model.proofs.Rising.{IsRising}
use Rattle.rdb_store.specs.Classes.{AreLawful}
use Rattle.rdb_store.specs.Holds.{HoldsIn}
use Rattle.rdb_store.specs.Layouts.{Layout}
use Rattle.rdb_store.specs.Shapes.{ClassShape, nature_of_class, index_at}
use Rattle.rdb_store.specs.Stored.{ref_of, HasRowAt}
use Rattle.rdb_store.proofs.Storing.{stored_in, said_of}
use Rattle.rdb_cursor.specs.declared.marks.Reader.{Reader}
use Rattle.rdb_cursor.specs.Views.{row_of, rows_of, ref_shown}
use Rattle.rdb_cursor.proofs.Looks.{row_shown_by}
use Rattle.rdb_cursor.proofs.Pairs.{IsIn}

-- the index lists the versions with a row, each once, and the keys say each one's key and its object's id
pub record Listing (said : Sayings) (fields : List ℕ) (objects : List Object) (listed : List CellRef) : Type 0 where
  pub says_of : (id : ℕ) (v : Version) (row : List Value) → Contains (chain_of objects id) v → v.row ≡ Some row → said.version_of v.header ≡ Some (record { key = picked row fields; id = id; serial = v.serial })
  pub exactly : (r : CellRef) → Contains listed r ↔ HasRowAt objects r.number
  pub once : ListsVersions said listed

pub listing_of : (shape : ClassShape) (image : Image) (class_of : ℕ → Option ℕ) (objects : List Object) (layout : Layout) (holds : HoldsIn (nature_of_class shape) image class_of objects layout) → AreLawful (nature_of_class shape) → (place : ℕ) (below : place < length shape.indexes)
    → Listing (says ((nature_of_class shape).at place).keys image) (index_at shape place).fields objects (holds.indexes place below).listed
listing_of shape image class_of objects layout holds lawful place below =
    let agrees = holds.indexes place below in
    let law = lawful.each place below in
    record {
      says_of = λ id v row within is.
          let stored = stored_in (nature_of_class shape) image layout id (chain_of objects id) (holds.chains id) v within in
          said_of (nature_of_class shape) ((nature_of_class shape).at place) law image id v stored.0 (layout.of_version v.header) stored.1 row is;
      exactly = agrees.exactly;
      once = law.lists_once (says ((nature_of_class shape).at place).keys image) image agrees.listed (layout.of_index place) agrees.lists;
    }

some_row : (o : Option (List Value)) → IsSome o → (row : List Value) × (o ≡ Some row)
some_row None some = absurd (false≢true some)
some_row (Some row) some = (row, refl)

-- a listed version: its object's id, itself, and its row
pub record Listed (said : Sayings) (fields : List ℕ) (objects : List Object) (r : CellRef) : Type 0 where
  pub id : ℕ
  pub version : Version
  pub row : List Value
  pub within : Contains (chain_of objects id) version
  pub there : version.header ≡ r.number
  pub has : version.row ≡ Some row
  pub said_is : said.version_of r.number ≡ Some (record { key = picked row fields; id = id; serial = version.serial })

module _ (said : Sayings) (fields : List ℕ) (objects : List Object) (listed : List CellRef) (listing : Listing said fields objects listed) where
  pub listed_is : (r : CellRef) → Contains listed r → Listed said fields objects r
  listed_is r within =
      let has = (listing.exactly r).0 within in
      let row = some_row has.version.row has.row in
      record {
        id = has.has.id;
        version = has.version;
        row = row.0;
        within = has.has.within;
        there = has.there;
        has = row.1;
        said_is = ap said.version_of (sym has.there) ∙ listing.says_of has.has.id has.version row.0 has.has.within row.1;
      }

  -- the version that shows a row is listed
  pub shown_listed : (marks : Marks) (reader : Reader) (id : ℕ) (row : List Value) → row_of marks reader (chain_of objects id) ≡ Some row
      → (r : CellRef) × Contains listed r × (ref_shown marks reader (chain_of objects id) ≡ Some r) × ((serial : ℕ) × (said.version_of r.number ≡ Some (record { key = picked row fields; id = id; serial = serial })))
  shown_listed marks reader id row is =
      let s = row_shown_by marks reader (chain_of objects id) row is in (
        ref_of s.0,
        (listing.exactly (ref_of s.0)).1 (record { version = s.0; has = record { id = id; within = s.1 }; there = refl; row = subst (λ (o : Option (List Value)). IsSome o) (sym s.2) refl }),
        s.3,
        (s.0.serial, listing.says_of id s.0 row s.1 s.2),
      )

-- The rows that a reader is shown, by their ids
row_below : (os : Objects) (id : ℕ) → AllByRecursion (λ q. id < q.0) os → row_among os id ≡ None
row_below [] id all = refl
row_below (o ∷ os) id all =
    let above : id < o.0 = all.0 in
    let differs : nat_eq o.0 id ≡ false = grind (arith, nat_tests) in
    rw differs (row_below os id all.1)

row_first : (o : ℕ × List Value) (os : Objects) → row_among (o ∷ os) o.0 ≡ Some o.1
row_first o os = let same : nat_eq o.0 o.0 ≡ true = grind (arith, nat_tests) in rw same refl

row_later : (o : ℕ × List Value) (os : Objects) (id : ℕ) (row : List Value) → AllByRecursion (λ q. o.0 < q.0) os → row_among os id ≡ Some row → row_among (o ∷ os) id ≡ Some row
row_later o os id row above is = go (nat_eq o.0 id) refl
  where
    go : (b : Bool) → nat_eq o.0 id ≡ b → cond (nat_eq o.0 id) (Some o.1) (row_among os id) ≡ Some row
    go false e = ap (λ (b : Bool). cond b (Some o.1) (row_among os id)) e ∙ is
    go true e =
        let same : o.0 ≡ id = grind (arith, nat_tests) in
        let none : None ≡ Some row = sym (row_below os id (subst (λ (n : ℕ). AllByRecursion (λ q. n < q.0) os) same above)) ∙ is in
        absurd (cc)

-- what holds of the row of each id holds of each of the objects
each_row : (P : ℕ × List Value → Type 0) (os : Objects) → IsRising os → ((id : ℕ) (row : List Value) → row_among os id ≡ Some row → P (id, row)) → AllByRecursion P os
each_row P [] rises each = tt
each_row P (o ∷ os) rises each = (each o.0 o.1 (row_first o os), each_row P os rises.1 (λ id row is. each id row (row_later o os id row rises.0 is)))

in_of : (os : Objects) (id : ℕ) (row : List Value) → row_among os id ≡ Some row → IsIn os (id, row)
in_of [] id row is = absurd (cc)
in_of (o ∷ os) id row is = go (λ rest. in_of os id row rest) (nat_eq o.0 id) refl
  where
    go : (row_among os id ≡ Some row → IsIn os (id, row)) → (b : Bool) → nat_eq o.0 id ≡ b → IsIn (o ∷ os) (id, row)
    go later true e =
        let same : o.0 ≡ id = grind (arith, nat_tests) in
        let has : Some o.1 ≡ Some row = sym (ap (λ (b : Bool). cond b (Some o.1) (row_among os id)) e) ∙ is in
        let rows : o.1 ≡ row = (cc) in
        inl (λ i. (same i, rows i))
    go later false e = inr (later (sym (ap (λ (b : Bool). cond b (Some o.1) (row_among os id)) e) ∙ is))

of_in : (os : Objects) (id : ℕ) (row : List Value) → IsRising os → IsIn os (id, row) → row_among os id ≡ Some row
of_in [] id row rises within = absurd within
of_in (o ∷ os) id row rises (inl same) = subst (λ (q : ℕ × List Value). row_among (q ∷ os) id ≡ Some row) (sym same) (row_first (id, row) os)
of_in (o ∷ os) id row rises (inr later) = row_later o os id row rises.0 (of_in os id row rises.1 later)

module _ (marks : Marks) (reader : Reader) (objects : List Object) (rises : Rises objects) where
  pub each_shown : (P : ℕ × List Value → Type 0) → ((id : ℕ) (row : List Value) → row_of marks reader (chain_of objects id) ≡ Some row → P (id, row)) → AllByRecursion P (rows_of marks reader objects)
  each_shown P each =
      each_row P (rows_of marks reader objects) (rows_rise marks reader.snapshot (Some reader.tx) objects rises)
      (λ id row is. each id row (sym (row_of_shown marks reader.snapshot (Some reader.tx) objects id rises) ∙ is))

  pub shown_in : (id : ℕ) (row : List Value) → row_of marks reader (chain_of objects id) ≡ Some row → IsIn (rows_of marks reader objects) (id, row)
  shown_in id row is = in_of (rows_of marks reader objects) id row (row_of_shown marks reader.snapshot (Some reader.tx) objects id rises ∙ is)

  pub shown_by_in : (id : ℕ) (row : List Value) → IsIn (rows_of marks reader objects) (id, row) → row_of marks reader (chain_of objects id) ≡ Some row
  shown_by_in id row within =
      sym (row_of_shown marks reader.snapshot (Some reader.tx) objects id rises)
      ∙ of_in (rows_of marks reader objects) id row (rows_rise marks reader.snapshot (Some reader.tx) objects rises) within
