-- The nodes of a hash index, and those around one bucket.
use Rattle.std.proofs.Common.{◌≡◌, ◌<◌, ◌++◌, zero, suc, ℕ, List, [], ◌∷◌, length, refl, sym, ap, ap₂, subst, ◌∙◌, arith}
use Rattle.std.proofs.lemmas.List.{append_assoc, length-map}
use Rattle.rdb_pages.specs.declared.cell.CellRef.{CellRef}
use Rattle.rdb_cells.specs.HashFormat.{table_buckets}
use Rattle.rdb_cells.specs.HeadFormat.{index_roots}
use Rattle.rdb_cells.specs.Images.{Image}
use Rattle.rdb_cells.specs.Keys.{Sayings}
use Rattle.rdb_cells.specs.Links.{IsAmong, AreOnce, Format, IsNeverZero, IsFunctional, Node, Placed, StandApart, numbers, segment, start}
use Rattle.rdb_cells.specs.References.{IsPageCell}
use Rattle.rdb_cells.proofs.LinkLemmas.{among_front, among_back, once_parts, numbers_append, stand_parts}
use Rattle.rdb_hash.specs.Shape.{Held, Buckets, Entry, Table, LeadsTo, AreTables, IsTable, AreEntriesOf, AreHashed, IsWritten, bucket_number, own_node, starts, bucket_nodes, hash_nodes, versions_of, version_in}
use Rattle.rdb_hash.specs.Walks.{IsBucket}
use Rattle.rdb_hash.proofs.ListPlaces.{split_place, some_at, get_here}

pub never_zero : IsNeverZero IsWritten
never_zero Buckets links written = let e = written.kind in absurd (omega arith)
never_zero (Entry version hash) links written = let e = written.kind in absurd (omega arith)

pub functional : IsFunctional IsWritten
functional cell Buckets Buckets ks ls first second = (refl, sym first.leads ∙ second.leads)
functional cell Buckets (Entry version hash) ks ls first second = let a = first.kind in let b = second.kind in absurd (omega arith)
functional cell (Entry version hash) Buckets ks ls first second = let a = first.kind in let b = second.kind in absurd (omega arith)
functional cell (Entry v h) (Entry w k) ks ls first second = (ap₂ (λ (r : CellRef) (n : ℕ). Entry r n) (sym first.of_version ∙ second.of_version) (sym first.has_hash ∙ second.has_hash), sym first.leads ∙ second.leads)

-- nodes one after another
pub bucket_nodes_append : (left right : List (List (Placed Held))) → bucket_nodes (left ++ right) ≡ bucket_nodes left ++ bucket_nodes right
bucket_nodes_append [] right = refl
bucket_nodes_append (b ∷ bs) right = ap (λ (xs : List (Node Held)). segment b 0 ++ xs) (bucket_nodes_append bs right) ∙ sym (append_assoc (segment b 0) (bucket_nodes bs) (bucket_nodes right))

pub hash_nodes_append : (front back : List Table) → hash_nodes (front ++ back) ≡ hash_nodes front ++ hash_nodes back
hash_nodes_append [] back = refl
hash_nodes_append (t ∷ ts) back =
    let own = own_node t.number (starts t.buckets) in
    ap (λ (xs : List (Node Held)). own ++ (bucket_nodes t.buckets ++ xs)) (hash_nodes_append ts back)
    ∙ ap (λ (xs : List (Node Held)). own ++ xs) (sym (append_assoc (bucket_nodes t.buckets) (hash_nodes ts) (hash_nodes back)))
    ∙ sym (append_assoc own (bucket_nodes t.buckets ++ hash_nodes ts) (hash_nodes back))

-- a bucket of a table, with what stands around it
pub record Around : Type 0 where
  pub front : List Table
  pub number : ℕ
  pub left : List (List (Placed Held))
  pub bucket : List (Placed Held)
  pub right : List (List (Placed Held))
  pub back : List Table

abbrev pub buckets_of : Around → List (List (Placed Held))
buckets_of a = a.left ++ a.bucket ∷ a.right

abbrev pub table_of : Around → Table
table_of a = record { number = a.number; buckets = buckets_of a }

abbrev pub tables_of : Around → List Table
tables_of a = a.front ++ table_of a ∷ a.back

-- the nodes behind the bucket
abbrev pub behind : Around → List (Node Held)
behind a = bucket_nodes a.right ++ hash_nodes a.back

abbrev pub nodes_of : Around → List (Node Held)
nodes_of a = hash_nodes a.front ++ (own_node a.number (starts (buckets_of a)) ++ (bucket_nodes a.left ++ (segment a.bucket 0 ++ behind a)))

pub nodes_are : (a : Around) → hash_nodes (tables_of a) ≡ nodes_of a
nodes_are a =
    let front = hash_nodes a.front in
    let own = own_node a.number (starts (buckets_of a)) in
    hash_nodes_append a.front (table_of a ∷ a.back)
    ∙ ap (λ (xs : List (Node Held)). front ++ (own ++ (xs ++ hash_nodes a.back))) (bucket_nodes_append a.left (a.bucket ∷ a.right))
    ∙ ap (λ (xs : List (Node Held)). front ++ (own ++ xs)) (append_assoc (bucket_nodes a.left) (segment a.bucket 0 ++ bucket_nodes a.right) (hash_nodes a.back))
    ∙ ap (λ (xs : List (Node Held)). front ++ (own ++ (bucket_nodes a.left ++ xs))) (append_assoc (segment a.bucket 0) (bucket_nodes a.right) (hash_nodes a.back))

-- versions of nodes one after another
pub versions_append : (xs ys : List (Node Held)) → versions_of (xs ++ ys) ≡ versions_of xs ++ versions_of ys
versions_append [] ys = refl
versions_append (x ∷ xs) ys = ap (λ (rs : List CellRef). version_in x.element ++ rs) (versions_append xs ys) ∙ sym (append_assoc (version_in x.element) (versions_of xs) (versions_of ys))

pub hashed_parts : (said : Sayings) (xs ys : List (Node Held)) → AreHashed said (xs ++ ys) → AreHashed said xs × AreHashed said ys
hashed_parts said [] ys hashed = (tt, hashed)
hashed_parts said (x ∷ xs) ys hashed = let rest = hashed_parts said xs ys hashed.1 in ((hashed.0, rest.0), rest.1)

pub hashed_together : (said : Sayings) (xs ys : List (Node Held)) → AreHashed said xs → AreHashed said ys → AreHashed said (xs ++ ys)
hashed_together said [] ys first second = second
hashed_together said (x ∷ xs) ys first second = (first.0, hashed_together said xs ys first.1 second)

pub chain_hashed_parts : (said : Sayings) (xs ys : List (Placed Held)) → AreHashed said (segment (xs ++ ys) 0) → AreHashed said (segment xs 0) × AreHashed said (segment ys 0)
chain_hashed_parts said [] ys hashed = (tt, hashed)
chain_hashed_parts said (x ∷ xs) ys hashed = let rest = chain_hashed_parts said xs ys hashed.1 in ((hashed.0, rest.0), rest.1)

pub chain_hashed_together : (said : Sayings) (xs ys : List (Placed Held)) → AreHashed said (segment xs 0) → AreHashed said (segment ys 0) → AreHashed said (segment (xs ++ ys) 0)
chain_hashed_together said [] ys first second = second
chain_hashed_together said (x ∷ xs) ys first second = (first.0, chain_hashed_together said xs ys first.1 second)

pub bucket_of_hashed : (said : Sayings) (a : Around) → AreHashed said (nodes_of a) → AreHashed said (segment a.bucket 0)
bucket_of_hashed said a hashed =
    let own = own_node a.number (starts (buckets_of a)) in
    let inner = (hashed_parts said own (bucket_nodes a.left ++ (segment a.bucket 0 ++ behind a)) (hashed_parts said (hash_nodes a.front) (own ++ (bucket_nodes a.left ++ (segment a.bucket 0 ++ behind a))) hashed).1).1 in
    (hashed_parts said (segment a.bucket 0) (behind a) (hashed_parts said (bucket_nodes a.left) (segment a.bucket 0 ++ behind a) inner).1).0

-- the node of a table is no entry
pub own_versions : (number : ℕ) (links : List ℕ) → versions_of (own_node number links) ≡ []
own_versions zero links = refl
own_versions (suc n) links = refl

pub own_hashed : (said : Sayings) (number : ℕ) (links : List ℕ) → AreHashed said (own_node number links)
own_hashed said zero links = tt
own_hashed said (suc n) links = (tt, tt)

pub versions_around : (a : Around) → versions_of (nodes_of a) ≡ versions_of (hash_nodes a.front) ++ (versions_of (bucket_nodes a.left) ++ (versions_of (segment a.bucket 0) ++ versions_of (behind a)))
versions_around a =
    let front = hash_nodes a.front in
    let own = own_node a.number (starts (buckets_of a)) in
    let rest = bucket_nodes a.left ++ (segment a.bucket 0 ++ behind a) in
    versions_append front (own ++ rest)
    ∙ ap (λ (rs : List CellRef). versions_of front ++ rs) (versions_append own rest ∙ ap (λ (rs : List CellRef). rs ++ versions_of rest) (own_versions a.number (starts (buckets_of a))))
    ∙ ap (λ (rs : List CellRef). versions_of front ++ rs) (versions_append (bucket_nodes a.left) (segment a.bucket 0 ++ behind a))
    ∙ ap (λ (rs : List CellRef). versions_of front ++ (versions_of (bucket_nodes a.left) ++ rs)) (versions_append (segment a.bucket 0) (behind a))

-- nodes that stand, in parts
module _ {A : Type 0} (format : Format A) (image : Image) (xs ys : List (Node A)) where
  pub front_apart : StandApart format image (xs ++ ys) → StandApart format image xs
  front_apart apart = record {
    stand = (stand_parts format image xs ys apart.stand).0;
    once = (once_parts (numbers xs) (numbers ys) (subst AreOnce (numbers_append xs ys) apart.once)).0;
  }

  pub back_apart : StandApart format image (xs ++ ys) → StandApart format image ys
  back_apart apart = record {
    stand = (stand_parts format image xs ys apart.stand).1;
    once = (once_parts (numbers xs) (numbers ys) (subst AreOnce (numbers_append xs ys) apart.once)).1;
  }

module _ {A : Type 0} (xs ys : List (Node A)) (n : ℕ) where
  pub front_among : IsAmong (numbers xs) n → IsAmong (numbers (xs ++ ys)) n
  front_among within = subst (λ (ns : List ℕ). IsAmong ns n) (sym (numbers_append xs ys)) (among_front (numbers xs) (numbers ys) n within)

  pub back_among : IsAmong (numbers ys) n → IsAmong (numbers (xs ++ ys)) n
  back_among within = subst (λ (ns : List ℕ). IsAmong ns n) (sym (numbers_append xs ys)) (among_back (numbers xs) (numbers ys) n within)

-- the head has as many roots as there are tables
pub count_tables : (image : Image) (head : ℕ) (tables : List Table) → LeadsTo image head tables → length tables ≡ index_roots
count_tables image head tables leads =
    sym (length-map tables (λ (t : Table). t.number)) ∙ sym (ap (λ (ns : List ℕ). length ns) leads.leads)

-- the tables round a bucket
pub around : (image : Image) (head : ℕ) (tables : List Table) (table place : ℕ) → AreTables image head tables → table < index_roots → place < table_buckets → (a : Around) × (tables ≡ tables_of a) × (length a.front ≡ table) × (length a.left ≡ place)
around image head tables table place are t_small p_small =
    let count = count_tables image head tables are.leads in
    let t = some_at tables table (subst (λ (n : ℕ). table < n) (sym count) t_small) in
    let b = some_at t.0.buckets place (subst (λ (n : ℕ). place < n) (sym (are.shaped table t.0 t.1).count) p_small) in
    let tables_split = split_place tables table t.0 t.1 in
    let buckets_split = split_place t.0.buckets place b.0 b.1 in (
      record { front = tables_split.0; number = t.0.number; left = buckets_split.0; bucket = b.0; right = buckets_split.1; back = tables_split.1 },
      tables_split.2 ∙ ap (λ (bs : List (List (Placed Held))). tables_split.0 ++ (let u : Table = record { number = t.0.number; buckets = bs } in u) ∷ tables_split.1) buckets_split.2,
      tables_split.3,
      buckets_split.3,
    )

-- what stands round a bucket
module _ (image : Image) (head : ℕ) (a : Around) (are : AreTables image head (tables_of a)) where
  pub table_shaped : IsTable (length a.front) (table_of a)
  table_shaped = are.shaped (length a.front) (table_of a) (get_here a.front (table_of a) a.back)

  pub entries_here : AreEntriesOf (bucket_number (length a.front) (length a.left)) a.bucket
  entries_here = table_shaped.entries (length a.left) a.bucket (get_here a.left a.bucket a.right)

  pub apart_around : StandApart IsWritten image (nodes_of a)
  apart_around = subst (λ (nodes : List (Node Held)). StandApart IsWritten image nodes) (nodes_are a) are.apart

  pub paged_around : (n : ℕ) → IsAmong (numbers (nodes_of a)) n → IsPageCell n
  paged_around n within = are.paged n (subst (λ (nodes : List (Node Held)). IsAmong (numbers nodes) n) (sym (nodes_are a)) within)

  -- the bucket among all nodes
  pub bucket_among : (n : ℕ) → IsAmong (numbers (segment a.bucket 0)) n → IsAmong (numbers (nodes_of a)) n
  bucket_among n within =
      let own = own_node a.number (starts (buckets_of a)) in
      back_among (hash_nodes a.front) (own ++ (bucket_nodes a.left ++ (segment a.bucket 0 ++ behind a))) n
      (back_among own (bucket_nodes a.left ++ (segment a.bucket 0 ++ behind a)) n
      (back_among (bucket_nodes a.left) (segment a.bucket 0 ++ behind a) n (front_among (segment a.bucket 0) (behind a) n within)))

  pub is_bucket : IsBucket image (start a.bucket 0) (bucket_number (length a.front) (length a.left)) a.bucket
  is_bucket =
      let own = own_node a.number (starts (buckets_of a)) in
      record {
        chained = record {
          begins = refl;
          nodes =
              front_apart IsWritten image (segment a.bucket 0) (behind a)
              (back_apart IsWritten image (bucket_nodes a.left) (segment a.bucket 0 ++ behind a)
              (back_apart IsWritten image own (bucket_nodes a.left ++ (segment a.bucket 0 ++ behind a))
              (back_apart IsWritten image (hash_nodes a.front) (own ++ (bucket_nodes a.left ++ (segment a.bucket 0 ++ behind a))) apart_around)));
        };
        entries = entries_here;
        paged = λ n within. paged_around n (bucket_among n within);
      }
