-- A version's entry stands in the bucket of its key's hash, and nowhere else.
use Rattle.std.proofs.Common.{◌≡◌, ◌≢◌, ◌<◌, ◌+◌, ◌⊎◌, ◌++◌, suc, ℕ, List, [], ◌∷◌, length, slice_get, filter, Some, Bool, false, cond, inl, inr, refl, sym, ap, subst, ◌∙◌, arith}
use Rattle.std.proofs.lemmas.List.Elements.{filter-append}
use Rattle.std.proofs.lemmas.List.{append-nil}
use Rattle.std.specs.List.{Contains}
use Rattle.rdb_pages.specs.declared.cell.CellRef.{CellRef}
use Rattle.rdb_cells.specs.HashFormat.{table_buckets}
use Rattle.rdb_cells.specs.Keys.{Sayings, Version}
use Rattle.rdb_cells.specs.Links.{Node, Placed, segment}
use Rattle.rdb_cells.proofs.ListedLemmas.{contains_either, contains_later}
use Rattle.rdb_hash.specs.Shape.{Held, Buckets, Entry, Table, IsTable, IsEntryOf, AreEntriesOf, IsHashed, AreHashed, bucket_of, bucket_number, own_node, starts, bucket_nodes, hash_nodes, versions_of, version_in}
use Rattle.rdb_hash.proofs.ListPlaces.{some_is, got_within, get_before, get_behind}
use Rattle.rdb_hash.proofs.ShapeLemmas.{Around, table_of, tables_of, buckets_of, behind, nodes_of, versions_append, versions_around, own_versions, hashed_parts}

-- the version's key has a hash of another bucket
pub record IsElsewhere (said : Sayings) (bucket : ℕ) (r : CellRef) : Type 0 where
  pub version : Version
  pub is : said.version_of r.number ≡ Some version
  pub other : bucket_of (said.hash_of version.key) ≢ bucket

abbrev pub AreElsewhere : Sayings → ℕ → List CellRef → Type 0
AreElsewhere said bucket rs = (r : CellRef) → Contains rs r → IsElsewhere said bucket r

no_element : {X : Type 0} (x : X) → ¬ Contains [] x
no_element x within = let below = within.1 in absurd (omega arith)

contains_parts : (xs ys : List CellRef) (r : CellRef) → Contains (xs ++ ys) r → Contains xs r ⊎ Contains ys r
contains_parts [] ys r within = inr within
contains_parts (x ∷ xs) ys r within = elim (contains_either x (xs ++ ys) r within) [
  | inl same ↦ inl (0, omega arith, same)
  | inr later ↦ elim (contains_parts xs ys r later) [
    | inl front ↦ inl (contains_later x r xs front)
    | inr back ↦ inr back
  ]
]

module _ (said : Sayings) (bucket : ℕ) where
  together : (xs ys : List (Node Held)) → AreElsewhere said bucket (versions_of xs) → AreElsewhere said bucket (versions_of ys) → AreElsewhere said bucket (versions_of (xs ++ ys))
  together xs ys first second r within = elim (contains_parts (versions_of xs) (versions_of ys) r (subst (λ (rs : List CellRef). Contains rs r) (versions_append xs ys) within)) [
    | inl front ↦ first r front
    | inr back ↦ second r back
  ]

  -- an entry of another bucket
  one_elsewhere : (e : Held) (other : ℕ) → IsEntryOf other e → IsHashed said e → other ≢ bucket → AreElsewhere said bucket (version_in e)
  one_elsewhere Buckets other none hashed apart r within = absurd none
  one_elsewhere (Entry version hash) other of hashed apart r within = elim (contains_either version [] r within) [
    | inl same ↦ record {
      version = hashed.0;
      is = subst (λ (q : CellRef). said.version_of q.number ≡ Some hashed.0) same hashed.1;
      other = λ here. apart (sym of ∙ ap bucket_of hashed.2 ∙ here);
    }
    | inr later ↦ absurd (no_element r later)
  ]

  chain_elsewhere : (chain : List (Placed Held)) (other : ℕ) → other ≢ bucket → AreEntriesOf other chain → AreHashed said (segment chain 0) → AreElsewhere said bucket (versions_of (segment chain 0))
  chain_elsewhere [] other apart are hashed r within = absurd (no_element r within)
  chain_elsewhere (p ∷ ps) other apart are hashed r within = elim (contains_parts (version_in p.element) (versions_of (segment ps 0)) r within) [
    | inl here ↦ one_elsewhere p.element other are.0 hashed.0 apart r here
    | inr later ↦ chain_elsewhere ps other apart are.1 hashed.1 r later
  ]

  -- entries of other buckets of a table, and of other tables
  buckets_elsewhere : (bs : List (List (Placed Held))) → ((word : ℕ) (b : List (Placed Held)) → slice_get bs word ≡ Some b → (other : ℕ) × (other ≢ bucket) × AreEntriesOf other b) → AreHashed said (bucket_nodes bs) → AreElsewhere said bucket (versions_of (bucket_nodes bs))
  buckets_elsewhere [] each hashed r within = absurd (no_element r within)
  buckets_elsewhere (b ∷ bs) each hashed r within =
      let parts = hashed_parts said (segment b 0) (bucket_nodes bs) hashed in
      let here = each 0 b refl in
      together (segment b 0) (bucket_nodes bs) (chain_elsewhere b here.0 here.1 here.2 parts.0) (buckets_elsewhere bs (λ word c at. each (suc word) c at) parts.1) r within

  tables_elsewhere : (ts : List Table) → ((i : ℕ) (t : Table) → slice_get ts i ≡ Some t → (place : ℕ) × IsTable place t × ((word : ℕ) → word < table_buckets → bucket_number place word ≢ bucket)) → AreHashed said (hash_nodes ts) → AreElsewhere said bucket (versions_of (hash_nodes ts))
  tables_elsewhere [] each hashed r within = absurd (no_element r within)
  tables_elsewhere (t ∷ ts) each hashed r within =
      let here = each 0 t refl in
      let own = own_node t.number (starts t.buckets) in
      let parts = hashed_parts said own (bucket_nodes t.buckets ++ hash_nodes ts) hashed in
      let others = hashed_parts said (bucket_nodes t.buckets) (hash_nodes ts) parts.1 in
      let none : AreElsewhere said bucket (versions_of own) = λ q among. absurd (no_element q (subst (λ (rs : List CellRef). Contains rs q) (own_versions t.number (starts t.buckets)) among)) in
      let inside : AreElsewhere said bucket (versions_of (bucket_nodes t.buckets)) =
      buckets_elsewhere t.buckets
      (λ word b at. (bucket_number here.0 word, here.2 word (subst (λ (n : ℕ). word < n) here.1.count (got_within t.buckets word b at)), here.1.entries word b at)) others.0 in
      together own (bucket_nodes t.buckets ++ hash_nodes ts) none
      (together (bucket_nodes t.buckets) (hash_nodes ts) inside (tables_elsewhere ts (λ i u at. each (suc i) u at) others.1)) r within

-- no two places have one number
other_table : (i j word place : ℕ) → i ≢ j → word < table_buckets → place < table_buckets → bucket_number i word ≢ bucket_number j place
other_table i j word place apart word_small place_small same = apart (omega arith)

other_word : (i word place : ℕ) → word ≢ place → bucket_number i word ≢ bucket_number i place
other_word i word place apart same = apart (omega arith)

-- round a bucket all others are elsewhere
module _ (said : Sayings) (a : Around) (shaped : (i : ℕ) (t : Table) → slice_get (tables_of a) i ≡ Some t → IsTable i t) (here : IsTable (length a.front) (table_of a)) (small : length a.left < table_buckets) (hashed : AreHashed said (nodes_of a)) where
  abbrev number : ℕ
  number = bucket_number (length a.front) (length a.left)

  abbrev own : List (Node Held)
  own = own_node a.number (starts (buckets_of a))

  front_hashed : AreHashed said (hash_nodes a.front)
  front_hashed = (hashed_parts said (hash_nodes a.front) (own ++ (bucket_nodes a.left ++ (segment a.bucket 0 ++ behind a))) hashed).0

  inner_hashed : AreHashed said (bucket_nodes a.left ++ (segment a.bucket 0 ++ behind a))
  inner_hashed =
      (hashed_parts said own (bucket_nodes a.left ++ (segment a.bucket 0 ++ behind a))
      (hashed_parts said (hash_nodes a.front) (own ++ (bucket_nodes a.left ++ (segment a.bucket 0 ++ behind a))) hashed).1).1

  left_hashed : AreHashed said (bucket_nodes a.left)
  left_hashed = (hashed_parts said (bucket_nodes a.left) (segment a.bucket 0 ++ behind a) inner_hashed).0

  bucket_and_behind : AreHashed said (segment a.bucket 0) × AreHashed said (behind a)
  bucket_and_behind = hashed_parts said (segment a.bucket 0) (behind a) (hashed_parts said (bucket_nodes a.left) (segment a.bucket 0 ++ behind a) inner_hashed).1

  pub bucket_hashed : AreHashed said (segment a.bucket 0)
  bucket_hashed = bucket_and_behind.0

  behind_hashed : AreHashed said (bucket_nodes a.right) × AreHashed said (hash_nodes a.back)
  behind_hashed = hashed_parts said (bucket_nodes a.right) (hash_nodes a.back) bucket_and_behind.1

  pub front_elsewhere : AreElsewhere said number (versions_of (hash_nodes a.front))
  front_elsewhere =
      tables_elsewhere said number a.front
      (λ i t at. (i, shaped i t (get_before a.front (table_of a) a.back i t at), λ word word_small. (let below = got_within a.front i t at in other_table i (length a.front) word (length a.left) (omega arith) word_small small)))
      front_hashed

  pub left_elsewhere : AreElsewhere said number (versions_of (bucket_nodes a.left))
  left_elsewhere =
      buckets_elsewhere said number a.left
      (λ word b at. (bucket_number (length a.front) word, (let below = got_within a.left word b at in other_word (length a.front) word (length a.left) (omega arith)), here.entries word b (get_before a.left a.bucket a.right word b at)))
      left_hashed

  pub behind_elsewhere : AreElsewhere said number (versions_of (behind a))
  behind_elsewhere =
      together said number (bucket_nodes a.right) (hash_nodes a.back)
      (buckets_elsewhere said number a.right
      (λ word b at. (bucket_number (length a.front) (suc (length a.left + word)), other_word (length a.front) (suc (length a.left + word)) (length a.left) (omega arith), here.entries (suc (length a.left + word)) b (get_behind a.left a.bucket a.right word ∙ at)))
      behind_hashed.0)
      (tables_elsewhere said number a.back
      (λ i t at. (suc (length a.front + i), shaped (suc (length a.front + i)) t (get_behind a.front (table_of a) a.back i ∙ at), λ word word_small. other_table (suc (length a.front + i)) (length a.front) word (length a.left) (omega arith) word_small small))
      behind_hashed.1)

  -- a version whose key has a hash of the bucket stands in it
  pub in_its_bucket : (r : CellRef) (v : Version) → said.version_of r.number ≡ Some v → bucket_of (said.hash_of v.key) ≡ number → Contains (versions_of (nodes_of a)) r → Contains (versions_of (segment a.bucket 0)) r
  in_its_bucket r v is of within =
      let not_elsewhere : ¬ IsElsewhere said number r = λ other. other.other (ap (λ (w : Version). bucket_of (said.hash_of w.key)) (some_is other.version v (sym other.is ∙ is)) ∙ of) in
      elim (contains_parts (versions_of (hash_nodes a.front)) (versions_of (bucket_nodes a.left) ++ (versions_of (segment a.bucket 0) ++ versions_of (behind a))) r (subst (λ (rs : List CellRef). Contains rs r) (versions_around a) within)) [
        | inl front ↦ absurd (not_elsewhere (front_elsewhere r front))
        | inr inner ↦ elim (contains_parts (versions_of (bucket_nodes a.left)) (versions_of (segment a.bucket 0) ++ versions_of (behind a)) r inner) [
          | inl left ↦ absurd (not_elsewhere (left_elsewhere r left))
          | inr rest ↦ elim (contains_parts (versions_of (segment a.bucket 0)) (versions_of (behind a)) r rest) [
            | inl found ↦ found
            | inr back ↦ absurd (not_elsewhere (behind_elsewhere r back))
          ]
        ]
      ]

  -- what only versions with a hash of the bucket pass keeps those of the bucket alone
  module _ (p : CellRef → Bool) (fails : (r : CellRef) → IsElsewhere said number r → p r ≡ false) where
    pub filtered : filter p (versions_of (nodes_of a)) ≡ filter p (versions_of (segment a.bucket 0))
    filtered =
        let front = versions_of (hash_nodes a.front) in
        let left = versions_of (bucket_nodes a.left) in
        let bucket = versions_of (segment a.bucket 0) in
        let back = versions_of (behind a) in
        ap (λ (rs : List CellRef). filter p rs) (versions_around a)
        ∙ filter-append p front (left ++ (bucket ++ back))
        ∙ ap (λ (rs : List CellRef). rs ++ filter p (left ++ (bucket ++ back))) (none_pass front front_elsewhere)
        ∙ filter-append p left (bucket ++ back)
        ∙ ap (λ (rs : List CellRef). rs ++ filter p (bucket ++ back)) (none_pass left left_elsewhere)
        ∙ filter-append p bucket back
        ∙ ap (λ (rs : List CellRef). filter p bucket ++ rs) (none_pass back behind_elsewhere)
        ∙ append-nil (filter p bucket)
      where
        none_pass : (rs : List CellRef) → AreElsewhere said number rs → filter p rs ≡ []
        none_pass [] all = refl
        none_pass (r ∷ rs) all =
            ap (λ (b : Bool). cond b (r ∷ filter p rs) (filter p rs)) (fails r (all r (0, omega arith, refl)))
            ∙ none_pass rs (λ q within. all q (contains_later r q rs within))
