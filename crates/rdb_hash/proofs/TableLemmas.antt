-- What is read from the head and from a table.
use Rattle.std.proofs.Common.{◌≡◌, ◌≢◌, ◌<◌, ◌^◌, ◌++◌, inl, zero, suc, ℕ, List, [], ◌∷◌, map, slice_get, Option, Some, None, IsSome, refl, sym, ap, subst, ◌∙◌, arith, rules}
use Rattle.std.proofs.lemmas.Option.{slice_get-map}
use Rattle.std.specs.Option.{option_map, option_map_or}
use Rattle.rdb_pages.specs.declared.cell.Cell.{Cell}
use Rattle.rdb_pages.specs.declared.cell.CellRef.{CellRef}
use Rattle.rdb_cells.specs.HashFormat.{table_in, table_buckets}
use Rattle.rdb_cells.specs.HeadFormat.{index_head_in, index_roots}
use Rattle.rdb_cells.specs.Images.{Image, IsCell}
use Rattle.rdb_cells.specs.Keys.{Meaning, ForVersion, says, hash_by}
use Rattle.rdb_cells.specs.Links.{IsAmong, Placed, Stand, numbers, start, segment}
use Rattle.rdb_cells.specs.References.{IsPageCell}
use Rattle.rdb_cells.proofs.LinkLemmas.{stand_parts}
use Rattle.rdb_hash.specs.Shape.{Held, Entry, IsHashed, Table, IsWritten, IsTableCell, AreTables, own_node, starts, bucket_nodes, hash_nodes}
use Rattle.rdb_hash.specs.Walks.{HasTables, IsFirst}
use Rattle.rdb_hash.proofs.ListPlaces.{some_is, some_at, get_here}
use Rattle.rdb_hash.proofs.ShapeLemmas.{tables_of, table_of, buckets_of, around, is_bucket, count_tables}

pub same_cell : (image : Image) (n : ℕ) (c d : Cell) → image n ≡ Some c → image n ≡ Some d → c ≡ d
same_cell image n c d is also = ap (λ (o : Option Cell). option_map_or (λ e. e) o c) (sym is ∙ also)

-- an element of one list is that of another where both give one list
one_mapped : {X Y Z : Type 0} (f : X → Z) (g : Y → Z) (xs : List X) (ys : List Y) (i : ℕ) (x : X) (y : Y) → map f xs ≡ map g ys → slice_get xs i ≡ Some x → slice_get ys i ≡ Some y → f x ≡ g y
one_mapped f g xs ys i x y same at_x at_y =
    some_is (f x) (g y)
    (sym (slice_get-map f xs i ∙ ap (option_map f) at_x) ∙ ap (λ zs. slice_get zs i) same ∙ slice_get-map g ys i ∙ ap (option_map g) at_y)

pub none_both : {X : Type 0} (xs ys : List X) → xs ++ ys ≡ [] → (xs ≡ []) × (ys ≡ [])
none_both [] ys none = (refl, none)
none_both (x ∷ xs) ys none = cc

pub none_begins : (b : List (Placed Held)) → segment b 0 ≡ [] → start b 0 ≡ 0
none_begins [] none = refl
none_begins (p ∷ ps) none = cc

pub bucket_empty : (bs : List (List (Placed Held))) (word : ℕ) (b : List (Placed Held)) → bucket_nodes bs ≡ [] → slice_get bs word ≡ Some b → start b 0 ≡ 0
bucket_empty [] word b none at = cc
bucket_empty (c ∷ cs) zero b none at = none_begins b (subst (λ (d : List (Placed Held)). segment d 0 ≡ []) (some_is c b at) (none_both (segment c 0) (bucket_nodes cs) none).0)
bucket_empty (c ∷ cs) (suc word) b none at = bucket_empty cs word b (none_both (segment c 0) (bucket_nodes cs) none).1 at

-- the cell of a table that has one
own_held : (image : Image) (number : ℕ) (links : List ℕ) → number ≢ 0 → Stand IsWritten image (own_node number links) → (cell : Cell) × (image number ≡ Some cell) × IsTableCell cell links
own_held image zero links some stand = absurd (some refl)
own_held image (suc n) links some stand = (stand.0.cell, stand.0.here, stand.0.written)

table_held : (image : Image) (tables : List Table) (place : ℕ) (t : Table) → Stand IsWritten image (hash_nodes tables) → slice_get tables place ≡ Some t → t.number ≢ 0 → (cell : Cell) × (image t.number ≡ Some cell) × IsTableCell cell (starts t.buckets)
table_held image [] place t stand at some = cc
table_held image (u ∷ us) zero t stand at some =
    let own = (stand_parts IsWritten image (own_node u.number (starts u.buckets)) (bucket_nodes u.buckets ++ hash_nodes us) stand).0 in
    let same = some_is u t at in
    own_held image t.number (starts t.buckets) some (subst (λ (v : Table). Stand IsWritten image (own_node v.number (starts v.buckets))) same own)
table_held image (u ∷ us) (suc place) t stand at some =
    let rest = (stand_parts IsWritten image (own_node u.number (starts u.buckets)) (bucket_nodes u.buckets ++ hash_nodes us) stand).1 in
    table_held image us place t (stand_parts IsWritten image (bucket_nodes u.buckets) (hash_nodes us) rest).1 at some

module _ (image : Image) (head : ℕ) (top : Cell) (top_is : image head ≡ Some top) (table : ℕ) (root : CellRef) (root_is : slice_get (index_head_in top).roots table ≡ Some root) where
  -- the root that was read is the number of the table
  pub root_there : (tables : List Table) (t : Table) → AreTables image head tables → slice_get tables table ≡ Some t → root.number ≡ t.number
  root_there tables t are at =
      let leads = subst (λ (c : Cell). map (λ (r : CellRef). r.number) (index_head_in c).roots ≡ map (λ (u : Table). u.number) tables) (same_cell image head are.leads.cell top are.leads.here top_is) are.leads.leads in
      one_mapped (λ (r : CellRef). r.number) (λ (u : Table). u.number) (index_head_in top).roots tables table root t leads root_is at

  -- no table, no entries
  pub first_of_none : (place : ℕ) → root.number ≡ 0 → IsFirst image head table place 0
  first_of_none place none tables b are bucket =
      let t = bucket.0 in
      let shaped = are.shaped table t bucket.1 in
      sym (bucket_empty t.buckets place b (shaped.used.0 (sym (root_there tables t are bucket.1) ∙ none)) bucket.2)

  -- a table stands in its cell
  pub table_there : (tables : List Table) (t : Table) → AreTables image head tables → slice_get tables table ≡ Some t → root.number ≢ 0 → (cell : Cell) × (image root.number ≡ Some cell) × IsTableCell cell (starts t.buckets)
  table_there tables t are at some =
      let same = root_there tables t are at in
      let held = table_held image tables table t are.apart.stand at (λ none. some (same ∙ none)) in
      (held.0, ap image same ∙ held.1, held.2)

  pub table_read : (tables : List Table) (t : Table) → AreTables image head tables → slice_get tables table ≡ Some t → root.number ≢ 0 → (cell : Cell) → image root.number ≡ Some cell → IsTableCell cell (starts t.buckets)
  table_read tables t are at some cell here =
      let held = table_there tables t are at some in
      subst (λ (c : Cell). IsTableCell c (starts t.buckets)) (same_cell image root.number held.0 cell held.1 here) held.2

  pub is_there : table < index_roots → HasTables image head → root.number ≢ 0 → IsCell image root.number
  is_there small has some =
      let t = some_at has.0 table (subst (λ (n : ℕ). table < n) (sym (count_tables image head has.0 has.1.leads)) small) in
      subst (λ (o : Option Cell). IsSome o) (sym (table_there has.0 t.0 has.1 t.1 some).1) (search rules)

  pub first_of_table : (place : ℕ) (cell : Cell) (first : CellRef) → root.number ≢ 0 → image root.number ≡ Some cell → slice_get (table_in cell).buckets place ≡ Some first → IsFirst image head table place first.number
  first_of_table place cell first some here read tables b are bucket =
      let leads = (table_read tables bucket.0 are bucket.1 some cell here).leads in
      one_mapped (λ (r : CellRef). r.number) (λ (c : List (Placed Held)). start c 0) (table_in cell).buckets bucket.0.buckets place first b leads read bucket.2

pub head_there : (image : Image) (head : ℕ) → HasTables image head → IsCell image head
head_there image head has = subst (λ (o : Option Cell). IsSome o) (sym has.1.leads.here) (search rules)

-- where a bucket begins fits 24 bits
pub start_small : (b : List (Placed Held)) → ((n : ℕ) → IsAmong (numbers (segment b 0)) n → IsPageCell n) → start b 0 < 2 ^ 24
start_small [] paged = omega arith
start_small (p ∷ ps) paged = let page = (paged p.number (inl refl)).1 in omega arith

pub first_small : (image : Image) (head table place first : ℕ) → HasTables image head → table < index_roots → place < table_buckets → IsFirst image head table place first → first < 2 ^ 24
first_small image head table place first has table_small place_small begins =
    let found = around image head has.0 table place has.1 table_small place_small in
    let a = found.0 in
    let are = subst (λ (ts : List Table). AreTables image head ts) found.1 has.1 in
    let b = is_bucket image head found.0 are in
    let starts_at = begins (tables_of found.0) found.0.bucket are
    (table_of found.0, ap (slice_get (tables_of found.0)) (sym found.2) ∙ get_here found.0.front (table_of found.0) found.0.back, ap (slice_get (buckets_of found.0)) (sym found.3) ∙ get_here found.0.left found.0.bucket found.0.right) in
    subst (λ (n : ℕ). n < 2 ^ 24) (sym starts_at) (start_small found.0.bucket b.paged)

-- a version with a key, and its hash
pub some_value : {X : Type 0} (o : Option X) → IsSome o → (x : X) × (o ≡ Some x)
some_value None some = cc
some_value (Some x) some = (x, refl)

pub hashed_of : (keys : Meaning) (image : Image) (version : CellRef) (hash : ℕ) → IsSome (keys.version_of image version.number) → ForVersion keys image version (λ v. hash ≡ hash_by keys v.key) → IsHashed (says keys image) (Entry version hash)
hashed_of keys image version hash some is =
    let v = some_value (keys.version_of image version.number) some in
    (v.0, v.1, is v.0 v.1)
