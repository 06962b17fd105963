-- A hash index as one of its buckets changes, and the cell of that bucket's table.
use Rattle.std.proofs.Common.{◌≡◌, ◌≢◌, ◌⊎◌, ◌↔◌, ◌++◌, zero, suc, ℕ, List, [], ◌∷◌, length, map, slice_get, Some, inl, inr, refl, sym, ap, subst, ◌∙◌}
use Rattle.std.proofs.lemmas.List.{append_assoc}
use Rattle.std.proofs.lemmas.List.Sorted.{IsPermutation-sym, IsPermutation-middle}
use Rattle.std.specs.Prelude.{IsPermutation}
use Rattle.rdb_pages.specs.declared.cell.CellRef.{CellRef}
use Rattle.rdb_cells.specs.Keys.{Sayings}
use Rattle.rdb_cells.specs.Links.{IsAmong, Placed, numbers, segment}
use Rattle.rdb_cells.proofs.LinkLemmas.{among_either, among_front, among_back, numbers_append}
use Rattle.rdb_hash.specs.Shape.{Held, Entry, Table, IsTable, AreEntriesOf, AreHashed, bucket_number, own_node, starts, bucket_nodes, hash_nodes, versions_of, version_in}
use Rattle.rdb_hash.proofs.ListPlaces.{each_with, same_length}
use Rattle.rdb_hash.proofs.ShapeLemmas.{Around, buckets_of, table_of, tables_of, behind, nodes_of, bucket_nodes_append, hashed_parts, hashed_together, own_hashed, versions_around}
use Rattle.rdb_hash.proofs.TableLemmas.{none_both}
use Rattle.rdb_hash.proofs.WalkLemmas.{versions_segment}

-- the cells of a table and of a bucket
abbrev pub own_cells : ℕ → List ℕ
own_cells zero = []
own_cells (suc n) = suc n ∷ []

abbrev pub cells_of : List (Placed Held) → List ℕ
cells_of chain = map (λ p. p.number) chain

numbers_own : (n : ℕ) (links : List ℕ) → numbers (own_node n links) ≡ own_cells n
numbers_own zero links = refl
numbers_own (suc n) links = refl

pub numbers_segment : (chain : List (Placed Held)) → numbers (segment chain 0) ≡ cells_of chain
numbers_segment [] = refl
numbers_segment (p ∷ ps) = ap (λ (ns : List ℕ). p.number ∷ ns) (numbers_segment ps)

pub own_among : (n m : ℕ) → n ≢ 0 → n ≡ m → IsAmong (own_cells n) m
own_among zero m some same = absurd (some refl)
own_among (suc n) m some same = inl same

pub own_only : (n m : ℕ) → IsAmong (own_cells n) m → n ≡ m
own_only zero m none = absurd none
own_only (suc n) m (inl same) = same
own_only (suc n) m (inr none) = absurd none

-- the cells of the nodes, in five parts
parts_are : (a : Around) → numbers (nodes_of a) ≡ numbers (hash_nodes a.front) ++ (own_cells a.number ++ (numbers (bucket_nodes a.left) ++ (cells_of a.bucket ++ numbers (behind a))))
parts_are a =
    let own = own_node a.number (starts (buckets_of a)) in
    let front = numbers (hash_nodes a.front) in
    let left = numbers (bucket_nodes a.left) in
    numbers_append (hash_nodes a.front) (own ++ (bucket_nodes a.left ++ (segment a.bucket 0 ++ behind a)))
    ∙ ap (λ (ns : List ℕ). front ++ ns) (numbers_append own (bucket_nodes a.left ++ (segment a.bucket 0 ++ behind a)))
    ∙ ap (λ (ns : List ℕ). front ++ (ns ++ numbers (bucket_nodes a.left ++ (segment a.bucket 0 ++ behind a)))) (numbers_own a.number (starts (buckets_of a)))
    ∙ ap (λ (ns : List ℕ). front ++ (own_cells a.number ++ ns)) (numbers_append (bucket_nodes a.left) (segment a.bucket 0 ++ behind a))
    ∙ ap (λ (ns : List ℕ). front ++ (own_cells a.number ++ (left ++ ns))) (numbers_append (segment a.bucket 0) (behind a))
    ∙ ap (λ (ns : List ℕ). front ++ (own_cells a.number ++ (left ++ (ns ++ numbers (behind a))))) (numbers_segment a.bucket)

-- each cell of one part
module _ (a : Around) (m : ℕ) where
  rest_cells : List ℕ
  rest_cells = numbers (bucket_nodes a.left) ++ (cells_of a.bucket ++ numbers (behind a))

  whole : IsAmong (numbers (hash_nodes a.front) ++ (own_cells a.number ++ (numbers (bucket_nodes a.left) ++ (cells_of a.bucket ++ numbers (behind a))))) m → IsAmong (numbers (nodes_of a)) m
  whole within = subst (λ (ns : List ℕ). IsAmong ns m) (sym (parts_are a)) within

  pub by_front : IsAmong (numbers (hash_nodes a.front)) m → IsAmong (numbers (nodes_of a)) m
  by_front within = whole (among_front (numbers (hash_nodes a.front)) (own_cells a.number ++ (numbers (bucket_nodes a.left) ++ (cells_of a.bucket ++ numbers (behind a)))) m within)

  behind_front : IsAmong (own_cells a.number ++ (numbers (bucket_nodes a.left) ++ (cells_of a.bucket ++ numbers (behind a)))) m → IsAmong (numbers (nodes_of a)) m
  behind_front within = whole (among_back (numbers (hash_nodes a.front)) (own_cells a.number ++ (numbers (bucket_nodes a.left) ++ (cells_of a.bucket ++ numbers (behind a)))) m within)

  pub by_own : IsAmong (own_cells a.number) m → IsAmong (numbers (nodes_of a)) m
  by_own within = behind_front (among_front (own_cells a.number) (numbers (bucket_nodes a.left) ++ (cells_of a.bucket ++ numbers (behind a))) m within)

  behind_own : IsAmong (numbers (bucket_nodes a.left) ++ (cells_of a.bucket ++ numbers (behind a))) m → IsAmong (numbers (nodes_of a)) m
  behind_own within = behind_front (among_back (own_cells a.number) (numbers (bucket_nodes a.left) ++ (cells_of a.bucket ++ numbers (behind a))) m within)

  pub by_left : IsAmong (numbers (bucket_nodes a.left)) m → IsAmong (numbers (nodes_of a)) m
  by_left within = behind_own (among_front (numbers (bucket_nodes a.left)) (cells_of a.bucket ++ numbers (behind a)) m within)

  pub by_bucket : IsAmong (cells_of a.bucket) m → IsAmong (numbers (nodes_of a)) m
  by_bucket within = behind_own (among_back (numbers (bucket_nodes a.left)) (cells_of a.bucket ++ numbers (behind a)) m (among_front (cells_of a.bucket) (numbers (behind a)) m within))

  pub by_behind : IsAmong (numbers (behind a)) m → IsAmong (numbers (nodes_of a)) m
  by_behind within = behind_own (among_back (numbers (bucket_nodes a.left)) (cells_of a.bucket ++ numbers (behind a)) m (among_back (cells_of a.bucket) (numbers (behind a)) m within))

-- another cell of the table and another bucket; an entry more in front
abbrev pub changed : Around → ℕ → List (Placed Held) → Around
changed a number bucket = record a { number = number; bucket = bucket }

abbrev pub entered : Around → ℕ → ℕ → CellRef → ℕ → Around
entered a number entry version hash = changed a number (record { number = entry; element = Entry version hash } ∷ a.bucket)

-- what becomes of a cell as the table's cell and the bucket change
pub transfer : (a : Around) (number : ℕ) (bucket : List (Placed Held)) (m : ℕ) (Gone : Type 0) → (IsAmong (own_cells a.number) m → IsAmong (own_cells number) m ⊎ Gone) → (IsAmong (cells_of a.bucket) m → IsAmong (cells_of bucket) m ⊎ Gone) → IsAmong (numbers (nodes_of a)) m → IsAmong (numbers (nodes_of (changed a number bucket))) m ⊎ Gone
transfer a number bucket m Gone own chain within =
    let now : Around = changed a number bucket in
    elim (among_either (numbers (hash_nodes a.front)) (own_cells a.number ++ (numbers (bucket_nodes a.left) ++ (cells_of a.bucket ++ numbers (behind a)))) m (subst (λ (ns : List ℕ). IsAmong ns m) (parts_are a) within)) [
      | inl front ↦ inl (by_front now m front)
      | inr back ↦ elim (among_either (own_cells a.number) (numbers (bucket_nodes a.left) ++ (cells_of a.bucket ++ numbers (behind a))) m back) [
        | inl table ↦ elim (own table) [ inl stays ↦ inl (by_own now m stays) | inr gone ↦ inr gone ]
        | inr rest ↦ elim (among_either (numbers (bucket_nodes a.left)) (cells_of a.bucket ++ numbers (behind a)) m rest) [
          | inl left ↦ inl (by_left now m left)
          | inr others ↦ elim (among_either (cells_of a.bucket) (numbers (behind a)) m others) [
            | inl entry ↦ elim (chain entry) [ inl stays ↦ inl (by_bucket now m stays) | inr gone ↦ inr gone ]
            | inr last ↦ inl (by_behind now m last)
          ]
        ]
      ]
    ]

-- an entry is a node
pub some_nodes : (left : List (List (Placed Held))) (p : Placed Held) (ps : List (Placed Held)) (right : List (List (Placed Held))) → bucket_nodes (left ++ (p ∷ ps) ∷ right) ≢ []
some_nodes left p ps right none = not_none (none_both (bucket_nodes left) (segment (p ∷ ps) 0 ++ bucket_nodes right) (sym (bucket_nodes_append left ((p ∷ ps) ∷ right)) ∙ none)).1
  where
    not_none : segment (p ∷ ps) 0 ++ bucket_nodes right ≢ []
    not_none e = cc

-- the shape and the hashes after the change
module _ (a : Around) (number : ℕ) (bucket : List (Placed Held)) where
  pub shaped_now : ((i : ℕ) (t : Table) → slice_get (tables_of a) i ≡ Some t → IsTable i t) → IsTable (length a.front) (table_of a) → ((number ≡ 0) ↔ (bucket_nodes (a.left ++ bucket ∷ a.right) ≡ [])) → AreEntriesOf (bucket_number (length a.front) (length a.left)) bucket → (i : ℕ) (t : Table) → slice_get (tables_of (changed a number bucket)) i ≡ Some t → IsTable i t
  shaped_now shaped here used entries =
      each_with IsTable a.front (table_of a) (table_of (changed a number bucket)) a.back shaped (record {
        count = same_length a.left a.bucket bucket a.right ∙ here.count;
        used = used;
        entries = each_with (λ (word : ℕ) (b : List (Placed Held)). AreEntriesOf (bucket_number (length a.front) word) b) a.left a.bucket bucket a.right here.entries entries;
      })

  pub hashed_now : (said : Sayings) → AreHashed said (nodes_of a) → AreHashed said (segment bucket 0) → AreHashed said (nodes_of (changed a number bucket))
  hashed_now said hashed chain =
      let own = own_node a.number (starts (buckets_of a)) in
      let now = own_node number (starts (a.left ++ bucket ∷ a.right)) in
      let front = hashed_parts said (hash_nodes a.front) (own ++ (bucket_nodes a.left ++ (segment a.bucket 0 ++ behind a))) hashed in
      let inner = (hashed_parts said own (bucket_nodes a.left ++ (segment a.bucket 0 ++ behind a)) front.1).1 in
      let left = hashed_parts said (bucket_nodes a.left) (segment a.bucket 0 ++ behind a) inner in
      let back = (hashed_parts said (segment a.bucket 0) (behind a) left.1).1 in
      hashed_together said (hash_nodes a.front) (now ++ (bucket_nodes a.left ++ (segment bucket 0 ++ behind a))) front.0
      (hashed_together said now (bucket_nodes a.left ++ (segment bucket 0 ++ behind a)) (own_hashed said number (starts (a.left ++ bucket ∷ a.right)))
      (hashed_together said (bucket_nodes a.left) (segment bucket 0 ++ behind a) left.0
      (hashed_together said (segment bucket 0) (behind a) chain back)))

-- The versions are those without an entry, and its own.
pub one_more : (a : Around) (n k : ℕ) (front back : List (Placed Held)) (x : Placed Held) (version : CellRef) (hash : ℕ) → x.element ≡ Entry version hash → IsPermutation (version ∷ versions_of (nodes_of (changed a k (front ++ back)))) (versions_of (nodes_of (changed a n (front ++ x ∷ back))))
one_more a n k front back x version hash is =
    let f = versions_of (hash_nodes a.front) in
    let l = versions_of (bucket_nodes a.left) in
    let ms = versions_of (segment front 0) in
    let ns = versions_of (segment back 0) in
    let e = versions_of (behind a) in
    let here : versions_of (segment (x ∷ back) 0) ≡ version ∷ ns = ap (λ (held : Held). version_in held ++ ns) is in
    let with_it : versions_of (nodes_of (changed a n (front ++ x ∷ back))) ≡ (f ++ (l ++ ms)) ++ version ∷ (ns ++ e) =
    versions_around (changed a n (front ++ x ∷ back))
    ∙ ap (λ (rs : List CellRef). f ++ (l ++ (rs ++ e))) (versions_segment front (x ∷ back) ∙ ap (λ (rs : List CellRef). ms ++ rs) here)
    ∙ ap (λ (rs : List CellRef). f ++ (l ++ rs)) (append_assoc ms (version ∷ ns) e)
    ∙ ap (λ (rs : List CellRef). f ++ rs) (sym (append_assoc l ms (version ∷ (ns ++ e))))
    ∙ sym (append_assoc f (l ++ ms) (version ∷ (ns ++ e))) in
    let without_it : versions_of (nodes_of (changed a k (front ++ back))) ≡ (f ++ (l ++ ms)) ++ (ns ++ e) =
    versions_around (changed a k (front ++ back))
    ∙ ap (λ (rs : List CellRef). f ++ (l ++ (rs ++ e))) (versions_segment front back)
    ∙ ap (λ (rs : List CellRef). f ++ (l ++ rs)) (append_assoc ms ns e)
    ∙ ap (λ (rs : List CellRef). f ++ rs) (sym (append_assoc l ms (ns ++ e)))
    ∙ sym (append_assoc f (l ++ ms) (ns ++ e)) in
    subst (λ (rs : List CellRef). IsPermutation (version ∷ rs) (versions_of (nodes_of (changed a n (front ++ x ∷ back))))) (sym without_it)
    (subst (λ (rs : List CellRef). IsPermutation (version ∷ ((f ++ (l ++ ms)) ++ (ns ++ e))) rs) (sym with_it)
    (IsPermutation-sym ((f ++ (l ++ ms)) ++ version ∷ (ns ++ e)) (version ∷ ((f ++ (l ++ ms)) ++ (ns ++ e))) (IsPermutation-middle (f ++ (l ++ ms)) version (ns ++ e))))
