-- A put into a bucket whose table has no cell: the table and the entry in the cells that were taken, and the head.
use Rattle.std.proofs.Common.{◌≡◌, ◌≢◌, ◌<◌, ◌⊎◌, ◌++◌, ℕ, zero, suc, List, [], ◌∷◌, length, map, replicate, slice_get, slice_set, Some, inl, inr, refl, sym, ap, subst, ◌∙◌, arith}
use Rattle.rdb_pages.specs.declared.cell.Cell.{Cell}
use Rattle.rdb_pages.specs.declared.cell.CellRef.{CellRef}
use Rattle.rdb_cells.specs.declared.kind.Kind.TheVariants as kind
use Rattle.rdb_cells.specs.HashFormat.{table_in, hash_entry_in, table_buckets}
use Rattle.rdb_cells.specs.HeadFormat.{index_head_in, index_roots}
use Rattle.rdb_cells.specs.Images.{Writes}
use Rattle.rdb_cells.specs.Keys.{Meaning, says}
use Rattle.rdb_cells.specs.Links.{IsAmong, Node, Placed, StandApart, numbers, start, segment}
use Rattle.rdb_cells.specs.Parts.{hash_part}
use Rattle.rdb_cells.specs.References.{IsPageCell}
use Rattle.rdb_cells.specs.Untaken.{IsNextUntaken}
use Rattle.rdb_cells.specs.Words.{IsOfKind, HasKind, no_ref}
use Rattle.rdb_cells.specs.Work.{Work, reading, IsBlank, IsLeft, TakesAtMost, TakesLowest}
use Rattle.rdb_cells.proofs.WorkLemmas.{put_work, take_work, put_reads, left_blank, take_one, taken_spent, lowest_take, lowest_then, at_most_then}
use Rattle.rdb_cells.proofs.LinkLemmas.{apart_beside}
use Rattle.rdb_hash.specs.Changes.{HasRoot, IsPutHashed}
use Rattle.rdb_hash.specs.Shape.{Held, Entry, Table, IsHash, AreTables, IsWritten, bucket_of, bucket_number, hash_nature, hash_nodes, own_node, starts, bucket_nodes}
use Rattle.rdb_hash.specs.Walks.{HasTables}
use Rattle.rdb_hash.proofs.AroundLemmas.{IsAround, hash_around}
use Rattle.rdb_hash.proofs.ChangeLemmas.{own_cells, own_among, own_only, by_own, by_bucket, transfer, entered, some_nodes, shaped_now}
use Rattle.rdb_hash.proofs.EditLemmas.{Edits, no_edits, edit_more, bare_table, bare_entry, bare_head, none_of_kind, none_where_free, apart_from_free, never_left}
use Rattle.rdb_hash.proofs.FinishLemmas.{Comes, is_put}
use Rattle.rdb_hash.proofs.FrameLemmas.{frame, entry_comes, table_comes}
use Rattle.rdb_hash.proofs.ListPlaces.{get_here, set_mapped, map_set}
use Rattle.rdb_hash.proofs.PutLemmas.{entry_written, head_no_node}
use Rattle.rdb_hash.proofs.ShapeLemmas.{buckets_of, table_of, tables_of, behind, nodes_of, nodes_are, table_shaped, entries_here, apart_around, paged_around}
use Rattle.rdb_hash.proofs.TableLemmas.{root_there, first_of_none, none_both, none_begins, same_cell}

-- buckets without an entry begin nowhere
none_start : (bs : List (List (Placed Held))) (count : ℕ) → length bs ≡ count → bucket_nodes bs ≡ [] → starts bs ≡ replicate count 0
none_start [] zero long none = refl
none_start [] (suc n) long none = cc
none_start (b ∷ bs) zero long none = cc
none_start (b ∷ bs) (suc n) long none =
    let both = none_both (segment b 0) (bucket_nodes bs) none in
    let rest = none_start bs n (omega arith) both.1 in
    ap (λ (k : ℕ). k ∷ starts bs) (none_begins b both.0) ∙ ap (λ (ns : List ℕ). 0 ∷ ns) rest

module _ (class : ℕ) (head place made version : CellRef) (hash table word : ℕ) (w : Work) (top new cell now_top : Cell)
    (tables : HasTables (reading w) head.number)
    (has : HasRoot (reading w) head.number table no_ref)
    (top_is : reading w head.number ≡ Some top)
    (first : IsNextUntaken w.pairs w.below w.class_of w.class w.taken place.number)
    (second : IsNextUntaken w.pairs w.below w.class_of w.class place.number made.number)
    (new_kind : IsOfKind new kind.HashTable)
    (new_says : (table_in new).buckets ≡ slice_set (replicate table_buckets no_ref) word place)
    (cell_kind : IsOfKind cell kind.HashEntry)
    (cell_says : hash_entry_in cell ≡ record { next = no_ref; version = version; hash = hash })
    (top_kind : IsOfKind now_top kind.IndexHead)
    (top_says : (index_head_in now_top).roots ≡ slice_set (index_head_in top).roots table made)
    (table_small : table < index_roots)
    (word_small : word < table_buckets)
    (number_is : bucket_number table word ≡ bucket_of hash) where
  abbrev taken_1 : Work
  taken_1 = take_work w place

  abbrev taken_2 : Work
  taken_2 = take_work taken_1 made

  abbrev pub made_1 : Work
  made_1 = put_work (take_work (take_work w place) made) made new

  abbrev pub made_2 : Work
  made_2 = put_work made_1 place cell

  abbrev pub made_3 : Work
  made_3 = put_work made_2 head now_top

  wrote_1 : Writes (reading w) (reading made_1) made.number new
  wrote_1 = put_reads taken_2 made new

  wrote_2 : Writes (reading made_1) (reading made_2) place.number cell
  wrote_2 = put_reads made_1 place cell

  wrote_3 : Writes (reading made_2) (reading made_3) head.number now_top
  wrote_3 = put_reads made_2 head now_top

  made_left : IsLeft w made.number
  made_left = (take_one w place first).no_more made.number second.untaken

  place_blank : IsBlank w place.number
  place_blank = left_blank w place.number first.untaken

  made_blank : IsBlank w made.number
  made_blank = left_blank w made.number made_left

  made_apart : made.number ≢ place.number
  made_apart same = let above = second.untaken.above in absurd (omega arith)

  head_kind : HasKind (reading w) kind.IndexHead head.number
  head_kind = (tables.1.leads.cell, tables.1.leads.here, tables.1.leads.kind)

  place_spent : ¬ IsLeft taken_2 place.number
  place_spent left = taken_spent w place first ((take_one taken_1 made second).no_more place.number left)

  edits : Edits taken_2 made_3 (head.number ∷ place.number ∷ made.number ∷ [])
  edits =
      edit_more taken_2 made_2 (place.number ∷ made.number ∷ [])
      (edit_more taken_2 made_1 (made.number ∷ [])
      (edit_more taken_2 taken_2 [] (no_edits taken_2) made new (none_where_free (reading w) made.number made_blank.zero) (taken_spent taken_1 made second) (bare_table new new_kind))
      place cell (none_where_free (reading w) place.number place_blank.zero) place_spent (bare_entry cell cell_kind))
      head now_top (none_of_kind (reading w) kind.IndexHead head.number head_kind bare_head) (never_left taken_2 kind.IndexHead head.number head_kind (λ e. absurd (omega arith))) (bare_head now_top top_kind)

  took : TakesLowest w taken_2 (place.number ∷ made.number ∷ [])
  took = lowest_then (place.number ∷ []) (made.number ∷ []) w taken_1 taken_2 (lowest_take w place first) (lowest_take taken_1 made second)

  most : TakesAtMost hash_part w taken_2
  most = at_most_then 1 1 w taken_1 taken_2 (take_one w place first) (take_one taken_1 made second)

  fresh_left : (n : ℕ) → IsAmong (place.number ∷ made.number ∷ []) n → IsLeft w n
  fresh_left n (inl same) = subst (λ (k : ℕ). IsLeft w k) same first.untaken
  fresh_left n (inr (inl same)) = subst (λ (k : ℕ). IsLeft w k) same made_left
  fresh_left n (inr (inr none)) = absurd none

  fresh_page : (n : ℕ) → IsAmong (place.number ∷ made.number ∷ []) n → IsPageCell n
  fresh_page n among = (left_blank w n (fresh_left n among)).page

  module _ (keys : Meaning) (listed : List CellRef) (nodes : List ℕ) (stands : IsHash head.number (says keys (reading w)) (reading w) listed nodes) where
    at : IsAround head.number (says keys (reading w)) (reading w) listed nodes table word
    at = hash_around head.number (says keys (reading w)) (reading w) listed nodes table word stands table_small word_small

    table_at : slice_get (tables_of at.a) table ≡ Some (table_of at.a)
    table_at = ap (slice_get (tables_of at.a)) (sym at.table_is) ∙ get_here at.a.front (table_of at.a) at.a.back

    bucket_at : slice_get (buckets_of at.a) word ≡ Some at.a.bucket
    bucket_at = ap (slice_get (buckets_of at.a)) (sym at.place_is) ∙ get_here at.a.left at.a.bucket at.a.right

    number_none : at.a.number ≡ 0
    number_none = sym (root_there (reading w) head.number has.cell has.here table no_ref has.leads (tables_of at.a) (table_of at.a) at.are table_at)

    begins_none : 0 ≡ start at.a.bucket 0
    begins_none = first_of_none (reading w) head.number has.cell has.here table no_ref has.leads word refl (tables_of at.a) at.a.bucket at.are (table_of at.a, table_at, bucket_at)

    starts_none : starts (buckets_of at.a) ≡ replicate table_buckets 0
    starts_none =
        let shaped = table_shaped (reading w) head.number at.a at.are in
        none_start (buckets_of at.a) table_buckets shaped.count (shaped.used.0 number_none)

    leads_now : map (λ (r : CellRef). r.number) (table_in new).buckets ≡ starts (buckets_of (entered at.a made.number place.number version hash))
    leads_now =
        ap (λ (rs : List CellRef). map (λ (r : CellRef). r.number) rs) new_says
        ∙ map_set (λ (r : CellRef). r.number) (replicate table_buckets no_ref) word place
        ∙ ap (λ (ns : List ℕ). slice_set ns word place.number) (sym starts_none)
        ∙ ap (λ (i : ℕ). slice_set (starts (buckets_of at.a)) i place.number) (sym at.place_is)
        ∙ set_mapped (λ (b : List (Placed Held)). start b 0) at.a.left at.a.bucket (record { number = place.number; element = Entry version hash } ∷ at.a.bucket) at.a.right place.number refl

    apart_1 : StandApart IsWritten (reading made_1) (frame (hash_nodes at.a.front) (own_node made.number (starts (buckets_of (entered at.a made.number place.number version hash)))) (bucket_nodes at.a.left) (segment at.a.bucket 0 ++ behind at.a))
    apart_1 =
        table_comes (hash_nodes at.a.front) (bucket_nodes at.a.left) (segment at.a.bucket 0 ++ behind at.a) (reading w) (reading made_1) made.number new wrote_1
        at.a.number (starts (buckets_of at.a)) (starts (buckets_of (entered at.a made.number place.number version hash))) number_none
        (let page = made_blank.page.0 in omega arith) (λ none. (let page = made_blank.page.0 in absurd (omega arith))) made_blank.zero
        (record { kind = new_kind; leads = leads_now }) (apart_around (reading w) head.number at.a at.are)

    apart_2 : StandApart IsWritten (reading made_2) (nodes_of (entered at.a made.number place.number version hash))
    apart_2 =
        entry_comes (hash_nodes at.a.front) (bucket_nodes at.a.left) (own_node made.number (starts (buckets_of (entered at.a made.number place.number version hash)))) [] (record { number = place.number; element = Entry version hash; links = start at.a.bucket 0 ∷ [] }) (segment at.a.bucket 0 ++ behind at.a)
        (reading made_1) (reading made_2) place.number cell wrote_2 refl (let page = place_blank.page.0 in omega arith)
        (wrote_1.elsewhere place.number (λ same. made_apart (sym same)) ∙ place_blank.zero)
        (entry_written cell no_ref version hash (start at.a.bucket 0) cell_kind cell_says begins_none) apart_1

    come : (n : ℕ) → IsAmong (numbers (nodes_of (entered at.a made.number place.number version hash))) n → IsAmong (numbers (nodes_of at.a)) n ⊎ IsAmong (place.number ∷ made.number ∷ []) n
    come n = transfer (entered at.a made.number place.number version hash) at.a.number at.a.bucket n (IsAmong (place.number ∷ made.number ∷ []) n)
        (λ own. inr (inr (inl (own_only made.number n own)))) (λ chain. elim chain [ inl same ↦ inr (inl same) | inr later ↦ inl later ])

    stay : (n : ℕ) → IsAmong (numbers (nodes_of at.a)) n → IsAmong (numbers (nodes_of (entered at.a made.number place.number version hash))) n
    stay n within = elim (transfer at.a made.number (record { number = place.number; element = Entry version hash } ∷ at.a.bucket) n ⊥
        (λ own. absurd (no_own at.a.number number_none own)) (λ chain. inl (inr chain)) within) [ inl there ↦ there | inr none ↦ absurd none ]
      where
        no_own : (k : ℕ) → k ≡ 0 → ¬ IsAmong (own_cells k) n
        no_own zero none own = own
        no_own (suc k) none own = cc

    made_some : made.number ≢ 0
    made_some none = let page = made_blank.page.0 in absurd (omega arith)

    head_beside : ¬ IsAmong (numbers (nodes_of (entered at.a made.number place.number version hash))) head.number
    head_beside within = elim (come head.number within) [
      | inl old ↦ not_old old
      | inr (inl same) ↦ apart_from_free (reading w) kind.IndexHead head.number place.number head_kind (λ e. absurd (omega arith)) place_blank.zero same
      | inr (inr (inl same)) ↦ apart_from_free (reading w) kind.IndexHead head.number made.number head_kind (λ e. absurd (omega arith)) made_blank.zero same
      | inr (inr (inr none)) ↦ none
    ]
      where
        not_old : ¬ IsAmong (numbers (nodes_of at.a)) head.number
        not_old = head_no_node (reading w) (nodes_of at.a) head.number head_kind (apart_around (reading w) head.number at.a at.are).stand

    entries_now : bucket_of hash ≡ bucket_number (length at.a.front) (length at.a.left)
    entries_now = sym number_is ∙ ap (λ (n : ℕ). bucket_number n word) (sym at.table_is) ∙ ap (λ (n : ℕ). bucket_number (length at.a.front) n) (sym at.place_is)

    are_now : AreTables (reading made_3) head.number (tables_of (entered at.a made.number place.number version hash))
    are_now = record {
      leads = record {
        cell = now_top;
        here = wrote_3.here;
        kind = top_kind;
        leads =
            ap (λ (rs : List CellRef). map (λ (r : CellRef). r.number) rs) top_says
            ∙ map_set (λ (r : CellRef). r.number) (index_head_in top).roots table made
            ∙ ap (λ (ns : List ℕ). slice_set ns table made.number) (ap (λ (c : Cell). map (λ (r : CellRef). r.number) (index_head_in c).roots) (same_cell (reading w) head.number top at.are.leads.cell top_is at.are.leads.here) ∙ at.are.leads.leads)
            ∙ ap (λ (i : ℕ). slice_set (map (λ (t : Table). t.number) (tables_of at.a)) i made.number) (sym at.table_is)
            ∙ set_mapped (λ (t : Table). t.number) at.a.front (table_of at.a) (table_of (entered at.a made.number place.number version hash)) at.a.back made.number refl;
      };
      apart =
          apart_beside IsWritten (reading made_2) (reading made_3) head.number now_top wrote_3 (hash_nodes (tables_of (entered at.a made.number place.number version hash)))
          (λ within. head_beside (subst (λ (xs : List (Node Held)). IsAmong (numbers xs) head.number) (nodes_are (entered at.a made.number place.number version hash)) within))
          (subst (λ (xs : List (Node Held)). StandApart IsWritten (reading made_2) xs) (sym (nodes_are (entered at.a made.number place.number version hash))) apart_2);
      shaped = shaped_now at.a made.number (record { number = place.number; element = Entry version hash } ∷ at.a.bucket) at.are.shaped (table_shaped (reading w) head.number at.a at.are)
          ((λ none. absurd (made_some none)), (λ none. absurd (some_nodes at.a.left (record { number = place.number; element = Entry version hash }) at.a.bucket at.a.right none)))
          (entries_now, entries_here (reading w) head.number at.a at.are);
      paged = λ n within. elim (come n (subst (λ (xs : List (Node Held)). IsAmong (numbers xs) n) (nodes_are (entered at.a made.number place.number version hash)) within)) [
        | inl old ↦ paged_around (reading w) head.number at.a at.are n old
        | inr came ↦ fresh_page n came
      ];
    }

    comes : Comes head.number keys w made_3 (place.number ∷ made.number ∷ []) (head.number ∷ place.number ∷ made.number ∷ []) version hash table word listed nodes
    comes = record {
      at = at;
      number = made.number;
      entry = place.number;
      are = are_now;
      own = λ n among. elim among [
        | inl same ↦ inl (sym same)
        | inr came ↦ inr (inr came)
      ];
      come = come;
      stay = stay;
      within = λ n among. elim among [
        | inl same ↦ by_bucket (entered at.a made.number place.number version hash) n (inl same)
        | inr (inl same) ↦ by_own (entered at.a made.number place.number version hash) n (own_among made.number n made_some same)
        | inr (inr none) ↦ absurd none
      ];
      filled = λ n free among. elim among [
        | inl same ↦ absurd (apart_from_free (reading w) kind.IndexHead head.number n head_kind (λ e. absurd (omega arith)) free.zero (sym same))
        | inr came ↦ came
      ];
    }

  pub put_in_new_table : IsPutHashed (hash_nature class head.number) w made_3 version hash
  put_in_new_table keys rests hashed =
      is_put class head.number keys rests w made.number made_3 (place.number ∷ made.number ∷ []) (head.number ∷ place.number ∷ made.number ∷ []) version hash table word
      took most fresh_left edits (omega arith) hashed (comes keys)
