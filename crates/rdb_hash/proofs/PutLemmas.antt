-- A put into a bucket of a table that stands: the entry in the cell that was taken, and the table.
use Rattle.std.proofs.Common.{◌≡◌, ◌≢◌, ◌<◌, ◌+◌, ◌⊎◌, ◌++◌, ℕ, List, [], ◌∷◌, length, map, slice_get, slice_set, Some, inl, inr, refl, sym, ap, subst, ◌∙◌, arith}
use Rattle.rdb_pages.specs.declared.cell.Cell.{Cell}
use Rattle.rdb_pages.specs.declared.cell.CellRef.{CellRef}
use Rattle.rdb_cells.specs.declared.formats.hash.HashEntry.{HashEntry as EntryValue}
use Rattle.rdb_cells.specs.declared.kind.Kind.TheVariants as kind
use Rattle.rdb_cells.specs.HashFormat.{table_in, hash_entry_in, table_buckets}
use Rattle.rdb_cells.specs.HeadFormat.{index_roots}
use Rattle.rdb_cells.specs.Images.{Image, Writes}
use Rattle.rdb_cells.specs.Keys.{Meaning, says}
use Rattle.rdb_cells.specs.Links.{IsAmong, Node, Placed, Stand, StandApart, numbers, start, segment}
use Rattle.rdb_cells.specs.Parts.{hash_part}
use Rattle.rdb_cells.specs.References.{IsPageCell}
use Rattle.rdb_cells.specs.Untaken.{IsNextUntaken}
use Rattle.rdb_cells.specs.Words.{IsOfKind, HasKind}
use Rattle.rdb_cells.specs.Work.{Work, reading, IsBlank, IsLeft, TakesAtMost}
use Rattle.rdb_cells.proofs.IndexLemmas.{fewer_than}
use Rattle.rdb_cells.proofs.LinkLemmas.{node_of}
use Rattle.rdb_cells.proofs.PlainLemmas.{one_kind}
use Rattle.rdb_cells.proofs.WorkLemmas.{put_work, take_work, put_reads, left_blank, take_one, taken_spent, lowest_take}
use Rattle.rdb_hash.specs.Changes.{HasRoot, IsPutHashed}
use Rattle.rdb_hash.specs.Shape.{Held, Buckets, Entry, Table, IsHash, IsTable, AreTables, IsWritten, bucket_of, bucket_number, hash_nature, hash_nodes, own_node, starts, bucket_nodes}
use Rattle.rdb_hash.specs.Walks.{HasTables}
use Rattle.rdb_hash.proofs.AroundLemmas.{IsAround, hash_around}
use Rattle.rdb_hash.proofs.ChangeLemmas.{own_among, by_own, by_bucket, transfer, entered, some_nodes, shaped_now}
use Rattle.rdb_hash.proofs.EditLemmas.{Edits, no_edits, edit_more, bare_table, bare_entry, none_of_kind, none_where_free, apart_from_free, never_left}
use Rattle.rdb_hash.proofs.FinishLemmas.{Comes, is_put}
use Rattle.rdb_hash.proofs.FrameLemmas.{frame, entry_comes, table_leads}
use Rattle.rdb_hash.proofs.ListPlaces.{get_here, some_at, set_mapped, map_set, same_mapped}
use Rattle.rdb_hash.proofs.ShapeLemmas.{buckets_of, table_of, tables_of, behind, nodes_of, nodes_are, count_tables, table_shaped, entries_here, apart_around, paged_around}
use Rattle.rdb_hash.proofs.TableLemmas.{root_there, first_of_table, table_there, table_read}

-- the entry's cell
pub entry_written : (cell : Cell) (next version : CellRef) (hash leads : ℕ) → IsOfKind cell kind.HashEntry → hash_entry_in cell ≡ record { next = next; version = version; hash = hash } → next.number ≡ leads → IsWritten cell (Entry version hash) (leads ∷ [])
entry_written cell next version hash leads of says next_is = record {
  kind = of;
  of_version = ap (λ (e : EntryValue). e.version) says;
  has_hash = ap (λ (e : EntryValue). e.hash) says;
  leads = ap (λ (e : EntryValue). e.next.number ∷ []) says ∙ ap (λ (n : ℕ). n ∷ []) next_is;
}

-- a part that is enough for one cell less
pub one_of_two : (w : Work) (now : Work) → TakesAtMost 1 w now → TakesAtMost hash_part w now
one_of_two w now most = record {
  enough = λ count has. most.enough count (fewer_than w (count + 1) (count + hash_part) (omega arith) has);
  no_more = most.no_more;
}

pub head_no_table : (image : Image) (head root : ℕ) → HasKind image kind.IndexHead head → HasKind image kind.HashTable root → root ≢ head
head_no_table image head root top below same =
    let e = one_kind image kind.HashTable kind.IndexHead head (subst (HasKind image kind.HashTable) same below) top in
    absurd (omega arith)

-- the head is none of the nodes
pub head_no_node : (image : Image) (xs : List (Node Held)) (head : ℕ) → HasKind image kind.IndexHead head → Stand IsWritten image xs → ¬ IsAmong (numbers xs) head
head_no_node image xs head top stand within =
    let x = node_of IsWritten image xs head stand within in
    other_kind x.0.element x.0.links x.2.cell (sym (ap image x.1) ∙ x.2.here) x.2.written
  where
    other_kind : (e : Held) (links : List ℕ) (cell : Cell) → image head ≡ Some cell → ¬ IsWritten cell e links
    other_kind Buckets links cell here written = let k = one_kind image kind.HashTable kind.IndexHead head (cell, here, written.kind) top in absurd (omega arith)
    other_kind (Entry version hash) links cell here written = let k = one_kind image kind.HashEntry kind.IndexHead head (cell, here, written.kind) top in absurd (omega arith)

module _ (class : ℕ) (head root place version next : CellRef) (hash table word : ℕ) (w : Work) (old cell new : Cell)
    (tables : HasTables (reading w) head.number)
    (has : HasRoot (reading w) head.number table root)
    (some : root.number ≢ 0)
    (old_is : reading w root.number ≡ Some old)
    (next_is : slice_get (table_in old).buckets word ≡ Some next)
    (lowest : IsNextUntaken w.pairs w.below w.class_of w.class w.taken place.number)
    (cell_kind : IsOfKind cell kind.HashEntry)
    (cell_says : hash_entry_in cell ≡ record { next = next; version = version; hash = hash })
    (new_kind : IsOfKind new kind.HashTable)
    (new_says : (table_in new).buckets ≡ slice_set (table_in old).buckets word place)
    (table_small : table < index_roots)
    (word_small : word < table_buckets)
    (number_is : bucket_number table word ≡ bucket_of hash) where
  abbrev pub enter_1 : Work
  enter_1 = put_work (take_work w place) place cell

  abbrev pub enter_2 : Work
  enter_2 = put_work enter_1 root new

  wrote_1 : Writes (reading w) (reading enter_1) place.number cell
  wrote_1 = put_reads (take_work w place) place cell

  wrote_2 : Writes (reading enter_1) (reading enter_2) root.number new
  wrote_2 = put_reads enter_1 root new

  blank : IsBlank w place.number
  blank = left_blank w place.number lowest.untaken

  head_kind : HasKind (reading w) kind.IndexHead head.number
  head_kind = (tables.1.leads.cell, tables.1.leads.here, tables.1.leads.kind)

  root_kind : HasKind (reading w) kind.HashTable root.number
  root_kind =
      let t = some_at tables.0 table (subst (λ (n : ℕ). table < n) (sym (count_tables (reading w) head.number tables.0 tables.1.leads)) table_small) in
      let there = table_there (reading w) head.number has.cell has.here table root has.leads tables.0 t.0 tables.1 t.1 some in
      (there.0, there.1, there.2.kind)

  edits : Edits (take_work w place) enter_2 (root.number ∷ place.number ∷ [])
  edits =
      edit_more (take_work w place) enter_1 (place.number ∷ [])
      (edit_more (take_work w place) (take_work w place) [] (no_edits (take_work w place)) place cell (none_where_free (reading w) place.number blank.zero) (taken_spent w place lowest) (bare_entry cell cell_kind))
      root new (none_of_kind (reading w) kind.HashTable root.number root_kind bare_table) (never_left (take_work w place) kind.HashTable root.number root_kind (λ e. absurd (omega arith))) (bare_table new new_kind)

  head_apart : ¬ IsAmong (root.number ∷ place.number ∷ []) head.number
  head_apart (inl same) = head_no_table (reading w) head.number root.number head_kind root_kind same
  head_apart (inr (inl same)) = apart_from_free (reading w) kind.IndexHead head.number place.number head_kind (λ e. absurd (omega arith)) blank.zero same
  head_apart (inr (inr none)) = none

  module _ (keys : Meaning) (listed : List CellRef) (nodes : List ℕ) (stands : IsHash head.number (says keys (reading w)) (reading w) listed nodes) where
    at : IsAround head.number (says keys (reading w)) (reading w) listed nodes table word
    at = hash_around head.number (says keys (reading w)) (reading w) listed nodes table word stands table_small word_small

    table_at : slice_get (tables_of at.a) table ≡ Some (table_of at.a)
    table_at = ap (slice_get (tables_of at.a)) (sym at.table_is) ∙ get_here at.a.front (table_of at.a) at.a.back

    bucket_at : slice_get (buckets_of at.a) word ≡ Some at.a.bucket
    bucket_at = ap (slice_get (buckets_of at.a)) (sym at.place_is) ∙ get_here at.a.left at.a.bucket at.a.right

    same_root : root.number ≡ at.a.number
    same_root = root_there (reading w) head.number has.cell has.here table root has.leads (tables_of at.a) (table_of at.a) at.are table_at

    next_begins : next.number ≡ start at.a.bucket 0
    next_begins = first_of_table (reading w) head.number has.cell has.here table root has.leads word old next some old_is next_is (tables_of at.a) at.a.bucket at.are (table_of at.a, table_at, bucket_at)

    number_some : at.a.number ≢ 0
    number_some none = some (same_root ∙ none)

    -- the table leads to the entry
    leads_now : map (λ (r : CellRef). r.number) (table_in new).buckets ≡ starts (buckets_of (entered at.a at.a.number place.number version hash))
    leads_now =
        ap (λ (rs : List CellRef). map (λ (r : CellRef). r.number) rs) new_says
        ∙ map_set (λ (r : CellRef). r.number) (table_in old).buckets word place
        ∙ ap (λ (ns : List ℕ). slice_set ns word place.number) (table_read (reading w) head.number has.cell has.here table root has.leads (tables_of at.a) (table_of at.a) at.are table_at some old old_is).leads
        ∙ ap (λ (i : ℕ). slice_set (starts (buckets_of at.a)) i place.number) (sym at.place_is)
        ∙ set_mapped (λ (b : List (Placed Held)). start b 0) at.a.left at.a.bucket (record { number = place.number; element = Entry version hash } ∷ at.a.bucket) at.a.right place.number refl

    apart_1 : StandApart IsWritten (reading enter_1) (frame (hash_nodes at.a.front) (own_node at.a.number (starts (buckets_of at.a))) (bucket_nodes at.a.left) (segment (record { number = place.number; element = Entry version hash } ∷ at.a.bucket) 0 ++ behind at.a))
    apart_1 =
        entry_comes (hash_nodes at.a.front) (bucket_nodes at.a.left) (own_node at.a.number (starts (buckets_of at.a))) [] (record { number = place.number; element = Entry version hash; links = start at.a.bucket 0 ∷ [] }) (segment at.a.bucket 0 ++ behind at.a)
        (reading w) (reading enter_1) place.number cell wrote_1 refl (let page = blank.page.0 in omega arith) blank.zero
        (entry_written cell next version hash (start at.a.bucket 0) cell_kind cell_says next_begins)
        (apart_around (reading w) head.number at.a at.are)

    apart_2 : StandApart IsWritten (reading enter_2) (nodes_of (entered at.a at.a.number place.number version hash))
    apart_2 =
        table_leads (hash_nodes at.a.front) (bucket_nodes at.a.left) (segment (record { number = place.number; element = Entry version hash } ∷ at.a.bucket) 0 ++ behind at.a)
        (reading enter_1) (reading enter_2) root.number new wrote_2 at.a.number (starts (buckets_of at.a)) (starts (buckets_of (entered at.a at.a.number place.number version hash)))
        (sym same_root) number_some (record { kind = new_kind; leads = leads_now }) apart_1

    come : (n : ℕ) → IsAmong (numbers (nodes_of (entered at.a at.a.number place.number version hash))) n → IsAmong (numbers (nodes_of at.a)) n ⊎ IsAmong (place.number ∷ []) n
    come n = transfer (entered at.a at.a.number place.number version hash) at.a.number at.a.bucket n (IsAmong (place.number ∷ []) n) (λ own. inl own) (λ chain. elim chain [ inl same ↦ inr (inl same) | inr later ↦ inl later ])

    stay : (n : ℕ) → IsAmong (numbers (nodes_of at.a)) n → IsAmong (numbers (nodes_of (entered at.a at.a.number place.number version hash))) n
    stay n within = elim (transfer at.a at.a.number (record { number = place.number; element = Entry version hash } ∷ at.a.bucket) n ⊥ (λ own. inl own) (λ chain. inl (inr chain)) within) [ inl there ↦ there | inr none ↦ absurd none ]

    entries_now : IsTable (length at.a.front) (table_of at.a) → bucket_of hash ≡ bucket_number (length at.a.front) (length at.a.left)
    entries_now shaped = sym number_is ∙ ap (λ (n : ℕ). bucket_number n word) (sym at.table_is) ∙ ap (λ (n : ℕ). bucket_number (length at.a.front) n) (sym at.place_is)

    are_now : AreTables (reading enter_2) head.number (tables_of (entered at.a at.a.number place.number version hash))
    are_now = record {
      leads = record {
        cell = at.are.leads.cell;
        here = edits.elsewhere head.number head_apart ∙ at.are.leads.here;
        kind = at.are.leads.kind;
        leads = at.are.leads.leads ∙ sym (same_mapped (λ (t : Table). t.number) at.a.front (table_of at.a) (table_of (entered at.a at.a.number place.number version hash)) at.a.back refl);
      };
      apart = subst (λ (xs : List (Node Held)). StandApart IsWritten (reading enter_2) xs) (sym (nodes_are (entered at.a at.a.number place.number version hash))) apart_2;
      shaped = shaped_now at.a at.a.number (record { number = place.number; element = Entry version hash } ∷ at.a.bucket) at.are.shaped (table_shaped (reading w) head.number at.a at.are)
          ((λ none. absurd (number_some none)), (λ none. absurd (some_nodes at.a.left (record { number = place.number; element = Entry version hash }) at.a.bucket at.a.right none)))
          (entries_now (table_shaped (reading w) head.number at.a at.are), entries_here (reading w) head.number at.a at.are);
      paged = λ n within. elim (come n (subst (λ (xs : List (Node Held)). IsAmong (numbers xs) n) (nodes_are (entered at.a at.a.number place.number version hash)) within)) [
        | inl old ↦ paged_around (reading w) head.number at.a at.are n old
        | inr (inl same) ↦ subst IsPageCell same blank.page
        | inr (inr none) ↦ absurd none
      ];
    }

    comes : Comes head.number keys w enter_2 (place.number ∷ []) (root.number ∷ place.number ∷ []) version hash table word listed nodes
    comes = record {
      at = at;
      number = at.a.number;
      entry = place.number;
      are = are_now;
      own = λ n among. elim among [
        | inl same ↦ inr (inl (by_own at.a n (own_among at.a.number n number_some (sym same_root ∙ same))))
        | inr came ↦ inr (inr came)
      ];
      come = come;
      stay = stay;
      within = λ n among. elim among [
        | inl same ↦ by_bucket (entered at.a at.a.number place.number version hash) n (inl same)
        | inr none ↦ absurd none
      ];
      filled = λ n free among. elim among [
        | inl same ↦ absurd (apart_from_free (reading w) kind.HashTable root.number n root_kind (λ e. absurd (omega arith)) free.zero (sym same))
        | inr came ↦ came
      ];
    }

  pub put_in_table : IsPutHashed (hash_nature class head.number) w enter_2 version hash
  put_in_table keys rests hashed =
      is_put class head.number keys rests w place.number enter_2 (place.number ∷ []) (root.number ∷ place.number ∷ []) version hash table word
      (lowest_take w place lowest) (one_of_two w (take_work w place) (take_one w place lowest))
      (λ n among. elim among [ inl same ↦ subst (λ (k : ℕ). IsLeft w k) same lowest.untaken | inr none ↦ absurd none ])
      edits (omega arith) hashed (comes keys)
