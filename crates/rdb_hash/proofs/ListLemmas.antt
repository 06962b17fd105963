-- A listing, table by table and bucket by bucket.
use Rattle.std.proofs.Common.{◌≡◌, ◌<◌, ◌+◌, ◌++◌, zero, suc, ℕ, List, [], ◌∷◌, length, take, slice_get, Some, refl, sym, ap, subst, ◌∙◌, arith}
use Rattle.std.proofs.lemmas.List.{append_assoc, append-nil}
use Rattle.std.proofs.lemmas.List.Sorted.{IsPermutation-refl}
use Rattle.std.specs.Prelude.{IsPermutation}
use Rattle.rdb_pages.specs.declared.cell.CellRef.{CellRef}
use Rattle.rdb_cells.specs.HashFormat.{table_buckets}
use Rattle.rdb_cells.specs.HeadFormat.{index_roots}
use Rattle.rdb_cells.specs.Images.{Image}
use Rattle.rdb_cells.specs.Index.{IsListing}
use Rattle.rdb_cells.specs.Links.{Node, Placed, segment}
use Rattle.rdb_hash.specs.Shape.{Held, Table, AreTables, hash_nature, bucket_number, own_node, starts, bucket_nodes, hash_nodes, versions_of}
use Rattle.rdb_hash.specs.Walks.{HasBucket, IsBucket, IsFirst, ListsTable, WhateverInBucket}
use Rattle.rdb_hash.proofs.ListPlaces.{some_is, some_at, get_here}
use Rattle.rdb_hash.proofs.ShapeLemmas.{Around, around, count_tables, is_bucket, table_of, tables_of, buckets_of, bucket_nodes_append, hash_nodes_append, versions_append, own_versions}

-- one element more of a list, and all
take_next : {X : Type 0} (xs : List X) (i : ℕ) (x : X) → slice_get xs i ≡ Some x → take (suc i) xs ≡ take i xs ++ x ∷ []
take_next [] i x at = cc
take_next (y ∷ ys) zero x at = ap (λ z. z ∷ []) (some_is y x at)
take_next (y ∷ ys) (suc i) x at = ap (λ zs. y ∷ zs) (take_next ys i x at)

take_whole : {X : Type 0} (xs : List X) → take (length xs) xs ≡ xs
take_whole [] = refl
take_whole (x ∷ xs) = ap (λ zs. x ∷ zs) (take_whole xs)

-- the bucket at a place, that begins at this number
module _ (image : Image) (head table place first : ℕ) (tables : List Table) (are : AreTables image head tables) (table_small : table < index_roots) (place_small : place < table_buckets) (begins : IsFirst image head table place first) where
  pub found : (a : Around) × (tables ≡ tables_of a) × (length a.front ≡ table) × (length a.left ≡ place)
  found = around image head tables table place are table_small place_small

  are_found : AreTables image head (tables_of found.0)
  are_found = subst (λ (ts : List Table). AreTables image head ts) found.1 are

  table_at : slice_get tables table ≡ Some (table_of found.0)
  table_at = ap (λ (ts : List Table). slice_get ts table) found.1 ∙ ap (slice_get (tables_of found.0)) (sym found.2) ∙ get_here found.0.front (table_of found.0) found.0.back

  bucket_at : slice_get (buckets_of found.0) place ≡ Some found.0.bucket
  bucket_at = ap (slice_get (buckets_of found.0)) (sym found.3) ∙ get_here found.0.left found.0.bucket found.0.right

  pub bucket_there : (bucket : ℕ) × IsBucket image first bucket found.0.bucket
  bucket_there =
      let same = begins tables found.0.bucket are (table_of found.0, table_at, bucket_at) in
      let number = bucket_number (length found.0.front) (length found.0.left) in
      (number, subst (λ (n : ℕ). IsBucket image n number found.0.bucket) (sym same) (is_bucket image head found.0 are_found))

  pub has_bucket : HasBucket image first
  has_bucket = (bucket_there.0, found.0.bucket, bucket_there.1)

  -- the versions of one bucket more
  pub listed_bucket : (before so_far after : List CellRef) (t : Table) → slice_get tables table ≡ Some t → so_far ≡ before ++ versions_of (bucket_nodes (take place t.buckets)) → WhateverInBucket image first (λ versions. after ≡ so_far ++ versions) → after ≡ before ++ versions_of (bucket_nodes (take (place + 1) t.buckets))
  listed_bucket before so_far after t at all more =
      let same : t ≡ table_of found.0 = some_is t (table_of found.0) (sym at ∙ table_at) in
      let bucket : slice_get t.buckets place ≡ Some found.0.bucket = ap (λ (u : Table). slice_get u.buckets place) same ∙ bucket_at in
      let front = take place t.buckets in
      let next : place + 1 ≡ suc place = omega arith in
      more bucket_there.0 found.0.bucket bucket_there.1
      ∙ ap (λ (rs : List CellRef). rs ++ versions_of (segment found.0.bucket 0)) all
      ∙ append_assoc before (versions_of (bucket_nodes front)) (versions_of (segment found.0.bucket 0))
      ∙ ap (λ (rs : List CellRef). before ++ rs)
      (ap (λ (xs : List (Node Held)). versions_of (bucket_nodes front) ++ versions_of xs) (sym (append-nil (segment found.0.bucket 0)))
      ∙ sym (versions_append (bucket_nodes front) (bucket_nodes (found.0.bucket ∷ [])))
      ∙ ap (λ (xs : List (Node Held)). versions_of xs) (sym (bucket_nodes_append front (found.0.bucket ∷ [])))
      ∙ ap (λ (bs : List (List (Placed Held))). versions_of (bucket_nodes bs)) (sym (take_next t.buckets place found.0.bucket bucket))
      ∙ ap (λ (n : ℕ). versions_of (bucket_nodes (take n t.buckets))) (sym next))

-- what has been listed of a table
abbrev pub IsListedUpTo : Image → ℕ → ℕ → List CellRef → List CellRef → ℕ → Type 0
IsListedUpTo image head table before refs place = (tables : List Table) (t : Table) → AreTables image head tables → slice_get tables table ≡ Some t →
    refs ≡ before ++ versions_of (bucket_nodes (take place t.buckets))

pub table_listed : (image : Image) (head table : ℕ) (before refs : List CellRef) (place : ℕ) → place ≡ table_buckets → IsListedUpTo image head table before refs place → ListsTable image head table before refs
table_listed image head table before refs place all listed tables t are at =
    let count = (are.shaped table t at).count in
    listed tables t are at
    ∙ ap (λ (n : ℕ). before ++ versions_of (bucket_nodes (take n t.buckets))) (all ∙ sym count)
    ∙ ap (λ (bs : List (List (Placed Held))). before ++ versions_of (bucket_nodes bs)) (take_whole t.buckets)

-- what has been listed of all tables
abbrev pub AreListedUpTo : Image → ℕ → List CellRef → ℕ → Type 0
AreListedUpTo image head refs table = (tables : List Table) → AreTables image head tables → refs ≡ versions_of (hash_nodes (take table tables))

module _ (image : Image) (head : ℕ) where
  pub one_table_more : (refs after : List CellRef) (table : ℕ) → table < index_roots → AreListedUpTo image head refs table → ListsTable image head table refs after → AreListedUpTo image head after (table + 1)
  one_table_more refs after table small so_far lists tables are =
      let t = some_at tables table (subst (λ (n : ℕ). table < n) (sym (count_tables image head tables are.leads)) small) in
      let front = take table tables in
      let own = own_node t.0.number (starts t.0.buckets) in
      let one : versions_of (hash_nodes (t.0 ∷ [])) ≡ versions_of (bucket_nodes t.0.buckets) =
      versions_append own (bucket_nodes t.0.buckets ++ [])
      ∙ ap (λ (rs : List CellRef). rs ++ versions_of (bucket_nodes t.0.buckets ++ [])) (own_versions t.0.number (starts t.0.buckets))
      ∙ ap (λ (xs : List (Node Held)). versions_of xs) (append-nil (bucket_nodes t.0.buckets)) in
      let next : table + 1 ≡ suc table = omega arith in
      lists tables t.0 are t.1
      ∙ ap (λ (rs : List CellRef). rs ++ versions_of (bucket_nodes t.0.buckets)) (so_far tables are)
      ∙ ap (λ (rs : List CellRef). versions_of (hash_nodes front) ++ rs) (sym one)
      ∙ sym (versions_append (hash_nodes front) (hash_nodes (t.0 ∷ [])))
      ∙ ap (λ (xs : List (Node Held)). versions_of xs) (sym (hash_nodes_append front (t.0 ∷ [])))
      ∙ ap (λ (ts : List Table). versions_of (hash_nodes ts)) (sym (take_next tables table t.0 t.1))
      ∙ ap (λ (n : ℕ). versions_of (hash_nodes (take n tables))) (sym next)

  pub all_listed : (class : ℕ) (refs : List CellRef) (table : ℕ) → table ≡ index_roots → AreListedUpTo image head refs table → IsListing (hash_nature class head) image refs
  all_listed class refs table all so_far said listed nodes hash =
      let count = count_tables image head hash.tables hash.stand.leads in
      let same : refs ≡ listed =
      so_far hash.tables hash.stand
      ∙ ap (λ (n : ℕ). versions_of (hash_nodes (take n hash.tables))) (all ∙ sym count)
      ∙ ap (λ (ts : List Table). versions_of (hash_nodes ts)) (take_whole hash.tables)
      ∙ sym hash.listed_is in
      subst (λ (rs : List CellRef). IsPermutation refs rs) same (IsPermutation-refl refs)
