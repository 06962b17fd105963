-- What a look-up finds: the versions with the key, by reference.
use Rattle.std.proofs.Common.{◌≡◌, ◌<◌, ◌≤◌, ◌+◌, ◌⊎◌, ◌==◌, zero, suc, ℕ, List, [], ◌∷◌, length, map, slice_get, slice_index, get_or, filter, Bool, true, false, cond, inl, inr, refl, sym, ap, subst, ◌∙◌, arith, eq-eqb}
use Rattle.std.proofs.lemmas.Bool.{ne_eqb}
use Rattle.std.proofs.lemmas.List.{length-map}
use Rattle.std.proofs.lemmas.List.Sums.{sum_by-cons}
use Rattle.std.proofs.lemmas.List.Sorted.{sum_by-IsPermutation}
use Rattle.std.proofs.Permutation.{which}
use Rattle.std.specs.List.{Contains}
use Rattle.std.specs.List.Sorted.{IsNonDecreasingBy, IsStrictlyIncreasing}
use Rattle.std.specs.Prelude.{IsPermutation}
use Rattle.rdb_base.specs.declared.value.Value.{Value}
use Rattle.rdb_pages.specs.declared.cell.CellRef.{CellRef}
use Rattle.rdb_cells.specs.Images.{Image}
use Rattle.rdb_cells.specs.Keys.{Meaning, ForVersion, says, hash_by, times_listed}
use Rattle.rdb_cells.specs.Words.{no_ref}
use Rattle.rdb_cells.proofs.ListedLemmas.{contains_later, contains_first}
use Rattle.rdb_cells.specs.HashFormat.{table_buckets}
use Rattle.rdb_cells.specs.HeadFormat.{index_roots}
use Rattle.rdb_cells.specs.Links.{start, segment}
use Rattle.rdb_hash.specs.Lookup.{has_key, AreWithKey}
use Rattle.rdb_hash.specs.Shape.{IsTable, IsHash, bucket_of, bucket_number, versions_of}
use Rattle.rdb_hash.specs.Walks.{IsBucket, HasEntry, HasHashedBucket, IsFirst, WhateverInBucket}
use Rattle.rdb_hash.proofs.AroundLemmas.{IsAround, hash_around}
use Rattle.rdb_hash.proofs.ElsewhereLemmas.{IsElsewhere, bucket_hashed, in_its_bucket, filtered}
use Rattle.rdb_hash.proofs.KeyTests.{other_hash}
use Rattle.rdb_hash.proofs.ListPlaces.{get_here}
use Rattle.rdb_hash.proofs.ShapeLemmas.{table_of, tables_of, buckets_of, table_shaped, is_bucket}
use Rattle.rdb_hash.proofs.TableLemmas.{some_value}

-- how often a reference is listed
pub counts : (q r : CellRef) (rs : List CellRef) → times_listed (q ∷ rs) r ≡ cond (q.number == r.number) 1 0 + times_listed rs r
counts q r rs = sum_by-cons (λ (x : CellRef). cond (x.number == r.number) 1 0) q rs

pub counts_it : (q r : CellRef) (rs : List CellRef) → q.number ≡ r.number → times_listed (q ∷ rs) r ≡ suc (times_listed rs r)
counts_it q r rs same = counts q r rs ∙ ap (λ (b : Bool). cond b 1 0 + times_listed rs r) (eq-eqb q.number r.number same) ∙ omega arith

pub counts_more : (q r : CellRef) (rs : List CellRef) → times_listed rs r ≤ times_listed (q ∷ rs) r
counts_more q r rs = let e = counts q r rs in omega arith

listed_at : (rs : List CellRef) (i : ℕ) (r : CellRef) → i < length rs → (get_or rs i no_ref).number ≡ r.number → 1 ≤ times_listed rs r
listed_at [] i r within same = absurd (omega arith)
listed_at (q ∷ rs) zero r within same = let e = counts_it q r rs same in omega arith
listed_at (q ∷ rs) (suc i) r within same =
    let rest = listed_at rs i r (omega arith) same in
    let more = counts_more q r rs in
    omega arith

twice_at : (rs : List CellRef) (i : ℕ) → suc i < length rs → (get_or rs i no_ref).number ≡ (get_or rs (suc i) no_ref).number → 2 ≤ times_listed rs (get_or rs i no_ref)
twice_at [] i within same = absurd (omega arith)
twice_at (q ∷ []) i within same = absurd (omega arith)
twice_at (q ∷ p ∷ rs) zero within same =
    let once = listed_at (p ∷ rs) 0 q (omega arith) (sym same) in
    let e = counts_it q q (p ∷ rs) refl in
    omega arith
twice_at (q ∷ p ∷ rs) (suc i) within same =
    let rest = twice_at (p ∷ rs) i (omega arith) same in
    let more = counts_more q (get_or (p ∷ rs) i no_ref) (p ∷ rs) in
    omega arith

number_at : (rs : List CellRef) (i : ℕ) → i < length rs → slice_index (map (λ (r : CellRef). r.number) rs) i ≡ (get_or rs i no_ref).number
number_at [] i within = absurd (omega arith)
number_at (q ∷ rs) zero within = refl
number_at (q ∷ rs) (suc i) within = number_at rs i (omega arith)

-- what is in order and listed once ascends strictly
pub ascending : (rs : List CellRef) → IsNonDecreasingBy (λ (r : CellRef). r.number) rs → ((r : CellRef) → times_listed rs r ≤ 1) → IsStrictlyIncreasing (map (λ (r : CellRef). r.number) rs)
ascending rs ordered once k within =
    let long = length-map rs (λ (r : CellRef). r.number) in
    let next : k + 1 ≡ suc k = omega arith in
    let below : suc k < length rs = omega arith in
    let first = number_at rs k (omega arith) in
    let second = number_at rs (suc k) below in
    let least = ordered k (suc k) no_ref (omega arith) below in
    let few = once (get_or rs k no_ref) in
    subst (λ (n : ℕ). slice_index (map (λ (r : CellRef). r.number) rs) k < slice_index (map (λ (r : CellRef). r.number) rs) n) (sym next)
    (elim (which (get_or rs k no_ref).number (get_or rs (suc k) no_ref).number) [
      | inl same ↦ (let twice = twice_at rs k below same in absurd (omega arith))
      | inr apart ↦ omega arith
    ])

-- a filter lists nothing more often, and another order as often
filtered_less : (p : CellRef → Bool) (rs : List CellRef) (r : CellRef) → times_listed (filter p rs) r ≤ times_listed rs r
filtered_less p [] r = omega arith
filtered_less p (q ∷ rs) r = by_test (p q) refl (filtered_less p rs r)
  where
    by_test : (b : Bool) → p q ≡ b → times_listed (filter p rs) r ≤ times_listed rs r → times_listed (filter p (q ∷ rs)) r ≤ times_listed (q ∷ rs) r
    by_test true passes rest =
        let is : filter p (q ∷ rs) ≡ q ∷ filter p rs = ap (λ (b : Bool). cond b (q ∷ filter p rs) (filter p rs)) passes in
        let one = counts q r (filter p rs) in
        let all = counts q r rs in
        subst (λ (xs : List CellRef). times_listed xs r ≤ times_listed (q ∷ rs) r) (sym is) (omega arith)
    by_test false fails rest =
        let is : filter p (q ∷ rs) ≡ filter p rs = ap (λ (b : Bool). cond b (q ∷ filter p rs) (filter p rs)) fails in
        let all = counts q r rs in
        subst (λ (xs : List CellRef). times_listed xs r ≤ times_listed (q ∷ rs) r) (sym is) (omega arith)

listed_or_not : (rs : List CellRef) (r : CellRef) → (times_listed rs r ≡ 0) ⊎ Contains rs r
listed_or_not [] r = inl refl
listed_or_not (q ∷ rs) r = elim (which q.number r.number) [
  | inl same ↦ inr (subst (λ (x : CellRef). Contains (q ∷ rs) x) (ap (λ (n : ℕ). (let x : CellRef = record { number = n } in x)) same) (contains_first q rs))
  | inr apart ↦ elim (listed_or_not rs r) [
    | inl none ↦ inl (counts q r rs ∙ ap (λ (b : Bool). cond b 1 0 + times_listed rs r) (ne_eqb q.number r.number apart) ∙ omega arith)
    | inr within ↦ inr (contains_later q r rs within)
  ]
]

pub found_once : (p : CellRef → Bool) (listed found : List CellRef) → ((r : CellRef) → Contains listed r → times_listed listed r ≡ 1) → IsPermutation (filter p listed) found → (r : CellRef) → times_listed found r ≤ 1
found_once p listed found once order r =
    let same : times_listed (filter p listed) r ≡ times_listed found r = sym (sum_by-IsPermutation (λ (q : CellRef). cond (q.number == r.number) 1 0) (filter p listed) found order) in
    let less = filtered_less p listed r in
    elim (listed_or_not listed r) [
      | inl none ↦ omega arith
      | inr within ↦ (let e = once r within in omega arith)
    ]

-- a look-up in the bucket of the key's hash
module _ (head : ℕ) (keys : Meaning) (image : Image) (key : List Value) (hash table place first : ℕ) (hash_is : hash ≡ hash_by keys key) (number_is : bucket_number table place ≡ bucket_of hash) (table_small : table < index_roots) (place_small : place < table_buckets) (begins : IsFirst image head table place first) where
  module _ (listed : List CellRef) (nodes : List ℕ) (stands : IsHash head (says keys image) image listed nodes) where
    at : IsAround head (says keys image) image listed nodes table place
    at = hash_around head (says keys image) image listed nodes table place stands table_small place_small

    begins_here : first ≡ start at.a.bucket 0
    begins_here =
        begins (tables_of at.a) at.a.bucket at.are
        (table_of at.a, ap (slice_get (tables_of at.a)) (sym at.table_is) ∙ get_here at.a.front (table_of at.a) at.a.back, ap (slice_get (buckets_of at.a)) (sym at.place_is) ∙ get_here at.a.left at.a.bucket at.a.right)

    shaped : IsTable (length at.a.front) (table_of at.a)
    shaped = table_shaped image head at.a at.are

    small : length at.a.left < table_buckets
    small = subst (λ (n : ℕ). n < table_buckets) (sym at.place_is) place_small

    here : IsBucket image first (bucket_number (length at.a.front) (length at.a.left)) at.a.bucket
    here = subst (λ (n : ℕ). IsBucket image n (bucket_number (length at.a.front) (length at.a.left)) at.a.bucket) (sym begins_here) (is_bucket image head at.a at.are)

    pub hashed_bucket : HasHashedBucket keys image first
    hashed_bucket = record {
      bucket = bucket_number (length at.a.front) (length at.a.left);
      chain = at.a.bucket;
      is = here;
      hashed = bucket_hashed (says keys image) at.a at.are.shaped shaped small at.hashed;
    }

    own_number : bucket_of (hash_by keys key) ≡ bucket_number (length at.a.front) (length at.a.left)
    own_number = ap bucket_of (sym hash_is) ∙ sym number_is ∙ ap (λ (n : ℕ). bucket_number n place) (sym at.table_is) ∙ ap (λ (n : ℕ). bucket_number (length at.a.front) n) (sym at.place_is)

    elsewhere_fails : (r : CellRef) → IsElsewhere (says keys image) (bucket_number (length at.a.front) (length at.a.left)) r → has_key keys image key r ≡ false
    elsewhere_fails r is = other_hash keys image key r is.version is.is (λ same. is.other (ap bucket_of same ∙ own_number))

    all_here : filter (has_key keys image key) listed ≡ filter (has_key keys image key) (versions_of (segment at.a.bucket 0))
    all_here =
        ap (λ (rs : List CellRef). filter (has_key keys image key) rs) at.listed_is
        ∙ filtered (says keys image) at.a at.are.shaped shaped small at.hashed (has_key keys image key) elsewhere_fails

    pub with_key : (gathered found : List CellRef) → WhateverInBucket image first (λ versions. gathered ≡ filter (has_key keys image key) versions) → IsPermutation gathered found → IsNonDecreasingBy (λ (r : CellRef). r.number) found → AreWithKey keys image key listed found
    with_key gathered found are order ordered =
        let same : gathered ≡ filter (has_key keys image key) listed = are (bucket_number (length at.a.front) (length at.a.left)) at.a.bucket here ∙ sym all_here in
        let these : IsPermutation (filter (has_key keys image key) listed) found = subst (λ (rs : List CellRef). IsPermutation rs found) same order in
        record {
          these = these;
          by_reference = ascending found ordered (found_once (has_key keys image key) listed found at.versions.once these);
        }

-- a listed version's entry is in the bucket of its key's hash
pub has_entry : (head : ℕ) (keys : Meaning) (image : Image) (version : CellRef) (hash table place first : ℕ) (listed : List CellRef) (nodes : List ℕ) → IsHash head (says keys image) image listed nodes → Contains listed version → ForVersion keys image version (λ v. hash ≡ hash_by keys v.key) → bucket_number table place ≡ bucket_of hash → table < index_roots → place < table_buckets → IsFirst image head table place first → HasEntry image first version
has_entry head keys image version hash table place first listed nodes stands there hash_is number_is table_small place_small begins =
    let v = some_value (keys.version_of image version.number) (stands.versions.keyed version there) in
    let at = hash_around head (says keys image) image listed nodes table place stands table_small place_small in
    let shaped = table_shaped image head at.a at.are in
    let small = subst (λ (n : ℕ). n < table_buckets) (sym at.place_is) place_small in
    let own_place : bucket_of (hash_by keys v.0.key) ≡ bucket_number (length at.a.front) (length at.a.left) =
    ap bucket_of (sym (hash_is v.0 v.1)) ∙ sym number_is ∙ ap (λ (n : ℕ). bucket_number n place) (sym at.table_is) ∙ ap (λ (n : ℕ). bucket_number (length at.a.front) n) (sym at.place_is) in
    let begins_at = begins (tables_of at.a) at.a.bucket at.are
    (table_of at.a, ap (slice_get (tables_of at.a)) (sym at.table_is) ∙ get_here at.a.front (table_of at.a) at.a.back, ap (slice_get (buckets_of at.a)) (sym at.place_is) ∙ get_here at.a.left at.a.bucket at.a.right) in
    record {
      bucket = bucket_number (length at.a.front) (length at.a.left);
      chain = at.a.bucket;
      is = subst (λ (n : ℕ). IsBucket image n (bucket_number (length at.a.front) (length at.a.left)) at.a.bucket) (sym begins_at) (is_bucket image head at.a at.are);
      within = in_its_bucket (says keys image) at.a at.are.shaped shaped small at.hashed version v.0 v.1 own_place (subst (λ (rs : List CellRef). Contains rs version) at.listed_is there);
    }
