-- A version's entry goes: from behind another one, from the front of its bucket, or as the last of its table.
use Rattle.std.proofs.Common.{◌≡◌, ◌≢◌, ◌<◌, ◌⊎◌, ◌++◌, ℕ, List, [], ◌∷◌, length, map, slice_get, slice_set, ◌==◌, true, false, Some, inl, inr, refl, sym, ap, subst, ◌∙◌, ◌^◌, arith}
use Rattle.std.proofs.lemmas.List.{append_assoc}
use Rattle.std.specs.List.{list_all}
use Rattle.rdb_pages.specs.declared.cell.Cell.{Cell}
use Rattle.rdb_pages.specs.declared.cell.CellRef.{CellRef}
use Rattle.rdb_pages.specs.Pages.{zero_cell}
use Rattle.rdb_cells.specs.declared.formats.hash.HashEntry.{HashEntry as EntryValue}
use Rattle.rdb_cells.specs.declared.kind.Kind.TheVariants as kind
use Rattle.rdb_cells.specs.HashFormat.{table_in, hash_entry_in, table_buckets}
use Rattle.rdb_cells.specs.HeadFormat.{index_head_in, index_roots}
use Rattle.rdb_cells.specs.Images.{IsCell, Writes}
use Rattle.rdb_cells.specs.Keys.{Meaning, says}
use Rattle.rdb_cells.specs.Links.{IsAmong, AreOnce, Node, Placed, StandApart, numbers, start, segment}
use Rattle.rdb_cells.specs.References.{IsPageCell}
use Rattle.rdb_cells.specs.Words.{IsOfKind, HasKind, no_ref}
use Rattle.rdb_cells.specs.Work.{Work, reading}
use Rattle.rdb_cells.proofs.ChainLemmas.{same_chain}
use Rattle.rdb_cells.proofs.LinkLemmas.{among_but, among_past, among_back, once_without, segment_append, apart_beside}
use Rattle.rdb_cells.proofs.WorkLemmas.{put_work, put_reads}
use Rattle.rdb_hash.specs.declared.chain.Found.{Found}
use Rattle.rdb_hash.specs.Changes.{IsIn, IsRemovedByAny}
use Rattle.rdb_hash.specs.Shape.{Held, Entry, Table, IsHash, AreTables, IsTable, AreEntriesOf, IsWritten, IsTableCell, bucket_number, hash_nature, hash_nodes, own_node, starts, bucket_nodes}
use Rattle.rdb_hash.specs.Walks.{HasTables, IsBucket}
use Rattle.rdb_hash.proofs.AroundLemmas.{hash_around}
use Rattle.rdb_hash.proofs.ChangeLemmas.{own_cells, cells_of, own_among, own_only, numbers_segment, by_own, by_bucket, transfer, changed, some_nodes, shaped_now}
use Rattle.rdb_hash.proofs.EmptyLemmas.{cells_append, same_begin, entry_no_table, entry_no_head, kind_there, chain_kind, all_none, not_all_none, table_stand}
use Rattle.rdb_hash.proofs.EditLemmas.{Edits, no_edits, edit_more, bare_table, bare_entry, bare_head, bare_zero, none_of_kind, apart_from_free, never_left}
use Rattle.rdb_hash.proofs.FinishLemmas.{Goes, is_removed}
use Rattle.rdb_hash.proofs.FrameLemmas.{frame, entry_goes, entry_leads, table_leads, table_goes}
use Rattle.rdb_hash.proofs.ListPlaces.{get_here, set_mapped, map_set, same_mapped}
use Rattle.rdb_hash.proofs.PutLemmas.{head_no_table, head_no_node}
use Rattle.rdb_hash.proofs.ShapeLemmas.{Around, around, functional, buckets_of, table_of, tables_of, behind, nodes_of, nodes_are, table_shaped, entries_here, apart_around, paged_around, is_bucket}
use Rattle.rdb_hash.proofs.TableLemmas.{start_small, is_there, root_there, table_read, same_cell}
use Rattle.rdb_hash.proofs.WalkLemmas.{held_there, entry_there, written_there, entries_parts, entries_together}

-- the entry that was found, in any listing
module _ (class : ℕ) (head version : CellRef) (table word : ℕ) (w : Work) (found : Found)
    (tables : HasTables (reading w) head.number)
    (is_in : IsIn (reading w) head.number table word version found)
    (table_small : table < index_roots)
    (word_small : word < table_buckets) where
  abbrev pub gone_1 : Work
  gone_1 = put_work w found.at zero_cell

  wrote_1 : Writes (reading w) (reading gone_1) found.at.number zero_cell
  wrote_1 = put_reads w found.at zero_cell

  abbrev entry : Placed Held
  entry = record { number = found.at.number; element = Entry version is_in.at.hash }

  abbrev front : List (Placed Held)
  front = is_in.at.front

  abbrev back : List (Placed Held)
  back = is_in.at.back

  head_kind : HasKind (reading w) kind.IndexHead head.number
  head_kind = (tables.1.leads.cell, tables.1.leads.here, tables.1.leads.kind)

  entry_kind : HasKind (reading w) kind.HashEntry found.at.number
  entry_kind = chain_kind (reading w) is_in.first is_in.at.bucket front entry back is_in.at.is

  edits_1 : Edits w gone_1 (found.at.number ∷ [])
  edits_1 = edit_more w w [] (no_edits w) found.at zero_cell (none_of_kind (reading w) kind.HashEntry found.at.number entry_kind bare_entry) (never_left w kind.HashEntry found.at.number entry_kind (λ e. absurd (omega arith))) bare_zero

  pub entry_there_cell : IsCell (reading w) found.at.number
  entry_there_cell = kind_there (reading w) kind.HashEntry found.at.number entry_kind

  -- the next entry's reference fits 24 bits
  pub next_small : found.next.number < 2 ^ 24
  next_small = subst (λ (n : ℕ). n < 2 ^ 24) (sym is_in.at.next) (start_small is_in.at.back (λ n within. is_in.at.is.paged n
      (subst (λ (ns : List ℕ). IsAmong ns n) (sym (numbers_segment (is_in.at.front ++ record { number = found.at.number; element = Entry version is_in.at.hash } ∷ is_in.at.back) ∙ cells_append is_in.at.front (record { number = found.at.number; element = Entry version is_in.at.hash } ∷ is_in.at.back)))
      (among_back (cells_of is_in.at.front) (found.at.number ∷ cells_of is_in.at.back) n (inr (subst (λ (ns : List ℕ). IsAmong ns n) (numbers_segment is_in.at.back) within))))))

  -- the tables round its bucket
  module _ (a : Around) (are : AreTables (reading w) head.number (tables_of a)) (table_is : length a.front ≡ table) (place_is : length a.left ≡ word) where
    table_at : slice_get (tables_of a) table ≡ Some (table_of a)
    table_at = ap (slice_get (tables_of a)) (sym table_is) ∙ get_here a.front (table_of a) a.back

    bucket_at : slice_get (buckets_of a) word ≡ Some a.bucket
    bucket_at = ap (slice_get (buckets_of a)) (sym place_is) ∙ get_here a.left a.bucket a.right

    begins_here : is_in.first ≡ start a.bucket 0
    begins_here = is_in.begins (tables_of a) a.bucket are (table_of a, table_at, bucket_at)

    chain_is : a.bucket ≡ front ++ entry ∷ back
    chain_is =
        let own = is_bucket (reading w) head.number a are in
        sym (same_chain IsWritten functional (reading w) (start a.bucket 0) (front ++ entry ∷ back) a.bucket
        (record { begins = sym begins_here ∙ is_in.at.is.chained.begins; nodes = is_in.at.is.chained.nodes }) own.chained)

    shaped : IsTable (length a.front) (table_of a)
    shaped = table_shaped (reading w) head.number a are

    rest_entries : AreEntriesOf (bucket_number (length a.front) (length a.left)) (front ++ back)
    rest_entries =
        let number = bucket_number (length a.front) (length a.left) in
        let all = subst (λ (b : List (Placed Held)). AreEntriesOf number b) chain_is (entries_here (reading w) head.number a are) in
        let parts = entries_parts number front (entry ∷ back) all in
        entries_together number front back parts.0 parts.1.1

    number_some : a.number ≢ 0
    number_some none =
        not_empty front (subst (λ (b : List (Placed Held)). bucket_nodes (a.left ++ b ∷ a.right) ≡ []) chain_is (shaped.used.0 none))
      where
        not_empty : (fs : List (Placed Held)) → bucket_nodes (a.left ++ (fs ++ entry ∷ back) ∷ a.right) ≢ []
        not_empty [] = some_nodes a.left entry back a.right
        not_empty (f ∷ fs) = some_nodes a.left f (fs ++ entry ∷ back) a.right

    -- the nodes without the entry
    apart_1 : StandApart IsWritten (reading gone_1) (frame (hash_nodes a.front) (own_node a.number (starts (buckets_of a))) (bucket_nodes a.left) (segment front found.at.number ++ (segment back 0 ++ behind a)))
    apart_1 =
        let own = own_node a.number (starts (buckets_of a)) in
        let node : Node Held = record { number = found.at.number; element = Entry version is_in.at.hash; links = start back 0 ∷ [] } in
        let split : segment a.bucket 0 ++ behind a ≡ segment front found.at.number ++ node ∷ (segment back 0 ++ behind a) =
        ap (λ (b : List (Placed Held)). segment b 0 ++ behind a) chain_is
        ∙ ap (λ (xs : List (Node Held)). xs ++ behind a) (segment_append front (entry ∷ back) 0)
        ∙ append_assoc (segment front found.at.number) (node ∷ segment back 0) (behind a) in
        entry_goes (hash_nodes a.front) (bucket_nodes a.left) own (segment front found.at.number) node (segment back 0 ++ behind a) (reading w) (reading gone_1) found.at.number zero_cell wrote_1 refl
        (subst (λ (xs : List (Node Held)). StandApart IsWritten (reading w) (frame (hash_nodes a.front) own (bucket_nodes a.left) xs)) split (apart_around (reading w) head.number a are))

    entry_among : IsAmong (cells_of a.bucket) found.at.number
    entry_among = subst (λ (b : List (Placed Held)). IsAmong (cells_of b) found.at.number) (sym chain_is) (subst (λ (ns : List ℕ). IsAmong ns found.at.number) (sym (cells_append front (entry ∷ back))) (among_back (cells_of front) (found.at.number ∷ cells_of back) found.at.number (inl refl)))

    -- what becomes of the cells, whatever cell the table has then
    came : (number n : ℕ) → (IsAmong (own_cells number) n → IsAmong (own_cells a.number) n) → IsAmong (numbers (nodes_of (changed a number (front ++ back)))) n → IsAmong (numbers (nodes_of a)) n
    came number n own within =
        elim (transfer (changed a number (front ++ back)) a.number a.bucket n ⊥ (λ table_cell. inl (own table_cell))
        (λ chain. inl (subst (λ (b : List (Placed Held)). IsAmong (cells_of b) n) (sym chain_is) (subst (λ (ns : List ℕ). IsAmong ns n) (sym (cells_append front (entry ∷ back)))
        (among_past (cells_of front) found.at.number (cells_of back) n (subst (λ (ns : List ℕ). IsAmong ns n) (cells_append front back) chain)))))
        within) [ inl there ↦ there | inr none ↦ absurd none ]

    went : (number n : ℕ) (Gone : Type 0) → (IsAmong (own_cells a.number) n → IsAmong (own_cells number) n ⊎ Gone) → (found.at.number ≡ n → Gone) → IsAmong (numbers (nodes_of a)) n → IsAmong (numbers (nodes_of (changed a number (front ++ back)))) n ⊎ Gone
    went number n Gone own here within =
        transfer a number (front ++ back) n Gone own
        (λ chain. elim (among_but (cells_of front) found.at.number (cells_of back) n (subst (λ (ns : List ℕ). IsAmong ns n) (cells_append front (entry ∷ back)) (subst (λ (b : List (Placed Held)). IsAmong (cells_of b) n) chain_is chain))) [
          | inl same ↦ inr (here same)
          | inr other ↦ inl (subst (λ (ns : List ℕ). IsAmong ns n) (sym (cells_append front back)) other)
        ]) within

    paged_still : (number n : ℕ) → (IsAmong (own_cells number) n → IsAmong (own_cells a.number) n) → IsAmong (numbers (hash_nodes (tables_of (changed a number (front ++ back))))) n → IsPageCell n
    paged_still number n own within = paged_around (reading w) head.number a are n (came number n own (subst (λ (xs : List (Node Held)). IsAmong (numbers xs) n) (nodes_are (changed a number (front ++ back))) within))

  -- from behind another entry
  module _ (some : found.before.number ≢ 0) where
    -- the one before it
    previous : (fs : List (Placed Held)) × (p : Placed Held) × (front ≡ fs ++ p ∷ []) × (found.before.number ≡ p.number)
    previous = elim is_in.at.before [
      | inl none ↦ absurd (some none.1)
      | inr last ↦ (last.0, last.1, last.2, last.3)
    ]

    whole_chain : front ++ entry ∷ back ≡ previous.0 ++ previous.1 ∷ entry ∷ back
    whole_chain = ap (λ (xs : List (Placed Held)). xs ++ entry ∷ back) previous.2 ∙ append_assoc previous.0 (previous.1 ∷ []) (entry ∷ back)

    bucket_there : IsBucket (reading w) is_in.first is_in.at.bucket (previous.0 ++ previous.1 ∷ entry ∷ back)
    bucket_there = subst (λ (b : List (Placed Held)). IsBucket (reading w) is_in.first is_in.at.bucket b) whole_chain is_in.at.is

    before_kind : HasKind (reading w) kind.HashEntry found.before.number
    before_kind = subst (HasKind (reading w) kind.HashEntry) (sym previous.3) (chain_kind (reading w) is_in.first is_in.at.bucket previous.0 previous.1 (entry ∷ back) bucket_there)

    -- it stands in another cell
    before_apart : found.before.number ≢ found.at.number
    before_apart same =
        let once = subst AreOnce (numbers_segment (previous.0 ++ previous.1 ∷ entry ∷ back) ∙ cells_append previous.0 (previous.1 ∷ entry ∷ back)) bucket_there.chained.nodes.once in
        (once_without (cells_of previous.0) previous.1.number (found.at.number ∷ cells_of back) once).1
        (among_back (cells_of previous.0) (found.at.number ∷ cells_of back) previous.1.number (inl (sym same ∙ previous.3)))

    pub before_there : IsCell (reading w) found.before.number
    before_there = kind_there (reading w) kind.HashEntry found.before.number before_kind

    module _ (old led : Cell)
        (old_is : reading w found.before.number ≡ Some old)
        (led_kind : IsOfKind led kind.HashEntry)
        (led_says : hash_entry_in led ≡ record { next = found.next; version = (hash_entry_in old).version; hash = (hash_entry_in old).hash }) where
      abbrev pub gone_behind : Work
      gone_behind = put_work gone_1 found.before led

      wrote_2 : Writes (reading gone_1) (reading gone_behind) found.before.number led
      wrote_2 = put_reads gone_1 found.before led

      edits_behind : Edits w gone_behind (found.before.number ∷ found.at.number ∷ [])
      edits_behind = edit_more w gone_1 (found.at.number ∷ []) edits_1 found.before led (none_of_kind (reading w) kind.HashEntry found.before.number before_kind bare_entry) (never_left w kind.HashEntry found.before.number before_kind (λ e. absurd (omega arith))) (bare_entry led led_kind)

      module _ (a : Around) (are : AreTables (reading w) head.number (tables_of a)) (table_is : length a.front ≡ table) (place_is : length a.left ≡ word) where
        links_same : starts (buckets_of a) ≡ starts (buckets_of (changed a a.number (front ++ back)))
        links_same =
            sym (same_mapped (λ (c : List (Placed Held)). start c 0) a.left a.bucket (front ++ back) a.right
            (ap (λ (xs : List (Placed Held)). start (xs ++ back) 0) previous.2 ∙ same_begin previous.0 previous.1 entry back
            ∙ sym (ap (λ (c : List (Placed Held)). start c 0) (chain_is a are table_is place_is ∙ ap (λ (xs : List (Placed Held)). xs ++ entry ∷ back) previous.2))))

        some_left : (gs : List (Placed Held)) (q : Placed Held) → bucket_nodes (a.left ++ ((gs ++ q ∷ []) ++ back) ∷ a.right) ≢ []
        some_left [] q = some_nodes a.left q back a.right
        some_left (g ∷ gs) q = some_nodes a.left g ((gs ++ q ∷ []) ++ back) a.right

        written_now : IsWritten led previous.1.element (start back 0 ∷ [])
        written_now =
            let entry_p = entry_there (reading w) is_in.first is_in.at.bucket previous.0 previous.1 (entry ∷ back) bucket_there in
            let was = written_there (reading w) is_in.first is_in.at.bucket previous.0 previous.1 (entry ∷ back) bucket_there old (ap (reading w) (sym previous.3) ∙ old_is) in
            subst (λ (e : Held). IsWritten led e (start back 0 ∷ [])) (sym entry_p.2) (record {
              kind = led_kind;
              of_version = ap (λ (e : EntryValue). e.version) led_says ∙ was.of_version;
              has_hash = ap (λ (e : EntryValue). e.hash) led_says ∙ was.has_hash;
              leads = ap (λ (e : EntryValue). e.next.number ∷ []) led_says ∙ ap (λ (n : ℕ). n ∷ []) is_in.at.next;
            })

        apart_now : StandApart IsWritten (reading gone_behind) (nodes_of (changed a a.number (front ++ back)))
        apart_now =
            let own = own_node a.number (starts (buckets_of a)) in
            let rest = segment back 0 ++ behind a in
            let x : Node Held = record { number = previous.1.number; element = previous.1.element; links = found.at.number ∷ [] } in
            let y : Node Held = record { number = previous.1.number; element = previous.1.element; links = start back 0 ∷ [] } in
            let split : segment front found.at.number ++ rest ≡ segment previous.0 previous.1.number ++ x ∷ rest =
            ap (λ (xs : List (Placed Held)). segment xs found.at.number ++ rest) previous.2
            ∙ ap (λ (xs : List (Node Held)). xs ++ rest) (segment_append previous.0 (previous.1 ∷ []) found.at.number)
            ∙ append_assoc (segment previous.0 previous.1.number) (x ∷ []) rest in
            let joined : segment previous.0 previous.1.number ++ y ∷ rest ≡ segment (front ++ back) 0 ++ behind a =
            sym (append_assoc (segment previous.0 previous.1.number) (y ∷ segment back 0) (behind a))
            ∙ ap (λ (xs : List (Node Held)). xs ++ behind a) (sym (segment_append previous.0 (previous.1 ∷ back) 0))
            ∙ ap (λ (xs : List (Placed Held)). segment xs 0 ++ behind a) (sym (ap (λ (xs : List (Placed Held)). xs ++ back) previous.2 ∙ append_assoc previous.0 (previous.1 ∷ []) back)) in
            let led_apart = entry_leads (hash_nodes a.front) (bucket_nodes a.left) own (segment previous.0 previous.1.number) x rest (reading gone_1) (reading gone_behind) found.before.number led wrote_2 y (sym previous.3) (sym previous.3) written_now
            (subst (λ (xs : List (Node Held)). StandApart IsWritten (reading gone_1) (frame (hash_nodes a.front) own (bucket_nodes a.left) xs)) split (apart_1 a are table_is place_is)) in
            subst (λ (links : List ℕ). StandApart IsWritten (reading gone_behind) (frame (hash_nodes a.front) (own_node a.number links) (bucket_nodes a.left) (segment (front ++ back) 0 ++ behind a))) links_same
            (subst (λ (xs : List (Node Held)). StandApart IsWritten (reading gone_behind) (frame (hash_nodes a.front) own (bucket_nodes a.left) xs)) joined led_apart)

        zero_behind : reading gone_behind found.at.number ≡ Some zero_cell
        zero_behind = wrote_2.elsewhere found.at.number (λ same. before_apart (sym same)) ∙ wrote_1.here

        before_among : IsAmong (cells_of a.bucket) found.before.number
        before_among =
            subst (λ (b : List (Placed Held)). IsAmong (cells_of b) found.before.number) (sym (chain_is a are table_is place_is ∙ whole_chain))
            (subst (λ (ns : List ℕ). IsAmong ns found.before.number) (sym (cells_append previous.0 (previous.1 ∷ entry ∷ back)))
            (among_back (cells_of previous.0) (previous.1.number ∷ found.at.number ∷ cells_of back) found.before.number (inl (sym previous.3))))

        are_behind : AreTables (reading gone_behind) head.number (tables_of (changed a a.number (front ++ back)))
        are_behind = record {
          leads = record {
            cell = are.leads.cell;
            here = edits_behind.elsewhere head.number (λ among. elim among [
              | inl same ↦ entry_no_head (reading w) found.before.number head.number before_kind head_kind same
              | inr (inl same) ↦ entry_no_head (reading w) found.at.number head.number entry_kind head_kind same
              | inr (inr none) ↦ none
            ]) ∙ are.leads.here;
            kind = are.leads.kind;
            leads = are.leads.leads ∙ sym (same_mapped (λ (u : Table). u.number) a.front (table_of a) (table_of (changed a a.number (front ++ back))) a.back refl);
          };
          apart = subst (λ (xs : List (Node Held)). StandApart IsWritten (reading gone_behind) xs) (sym (nodes_are (changed a a.number (front ++ back)))) apart_now;
          shaped = shaped_now a a.number (front ++ back) are.shaped (shaped a are table_is place_is)
              ((λ none. absurd (number_some a are table_is place_is none)), (λ none. absurd (some_left previous.0 previous.1 (subst (λ (xs : List (Placed Held)). bucket_nodes (a.left ++ (xs ++ back) ∷ a.right) ≡ []) previous.2 none))))
              (rest_entries a are table_is place_is);
          paged = λ n within. paged_still a are table_is place_is a.number n (λ own. own) within;
        }

      goes_behind : (keys : Meaning) (listed : List CellRef) (nodes : List ℕ) → IsHash head.number (says keys (reading w)) (reading w) listed nodes → Goes head.number keys w gone_behind (found.before.number ∷ found.at.number ∷ []) version table word listed nodes
      goes_behind keys listed nodes stands =
          let t = hash_around head.number (says keys (reading w)) (reading w) listed nodes table word stands table_small word_small in
          record {
            at = t;
            number = t.a.number;
            front = front;
            entry = found.at.number;
            hash = is_in.at.hash;
            back = back;
            bucket_is = chain_is t.a t.are t.table_is t.place_is;
            are = are_behind t.a t.are t.table_is t.place_is;
            own = λ n among. elim among [
              | inl same ↦ inr (by_bucket t.a n (subst (λ (k : ℕ). IsAmong (cells_of t.a.bucket) k) same (before_among t.a t.are t.table_is t.place_is)))
              | inr (inl same) ↦ inr (by_bucket t.a n (subst (λ (k : ℕ). IsAmong (cells_of t.a.bucket) k) same (entry_among t.a t.are t.table_is t.place_is)))
              | inr (inr none) ↦ absurd none
            ];
            come = λ n within. came t.a t.are t.table_is t.place_is t.a.number n (λ own. own) within;
            gone = λ n within. went t.a t.are t.table_is t.place_is t.a.number n (reading gone_behind n ≡ Some zero_cell) (λ own. inl own) (λ same. ap (reading gone_behind) (sym same) ∙ zero_behind t.a t.are t.table_is t.place_is) within;
            filled = λ n blank among. elim among [
              | inl same ↦ apart_from_free (reading w) kind.HashEntry found.before.number n before_kind (λ e. absurd (omega arith)) blank.zero (sym same)
              | inr (inl same) ↦ apart_from_free (reading w) kind.HashEntry found.at.number n entry_kind (λ e. absurd (omega arith)) blank.zero (sym same)
              | inr (inr none) ↦ none
            ];
          }

      pub take_behind : IsRemovedByAny (hash_nature class head.number) w gone_behind version
      take_behind keys rests = is_removed class head.number keys rests w gone_behind (found.before.number ∷ found.at.number ∷ []) version table word edits_behind (omega arith) (goes_behind keys)

  -- from the front of its bucket
  module _ (first : found.before.number ≡ 0) (top : Cell) (root : CellRef)
      (top_is : reading w head.number ≡ Some top)
      (root_is : slice_get (index_head_in top).roots table ≡ Some root) where
    front_none : front ≡ []
    front_none = elim is_in.at.before [
      | inl none ↦ none.0
      | inr last ↦
          let whole = ap (λ (xs : List (Placed Held)). xs ++ entry ∷ back) last.2 ∙ append_assoc last.0 (last.1 ∷ []) (entry ∷ back) in
          let bucket = subst (λ (b : List (Placed Held)). IsBucket (reading w) is_in.first is_in.at.bucket b) whole is_in.at.is in
          let some = (held_there (reading w) is_in.first is_in.at.bucket last.0 last.1 (entry ∷ back) bucket).some in
          let same = last.3 in
          absurd (omega arith)
    ]

    some_tables : (a : Around) × (tables.0 ≡ tables_of a) × (length a.front ≡ table) × (length a.left ≡ word)
    some_tables = around (reading w) head.number tables.0 table word tables.1 table_small word_small

    some_are : AreTables (reading w) head.number (tables_of some_tables.0)
    some_are = subst (λ (ts : List Table). AreTables (reading w) head.number ts) some_tables.1 tables.1

    root_same : (a : Around) → AreTables (reading w) head.number (tables_of a) → length a.front ≡ table → root.number ≡ a.number
    root_same a are table_is = root_there (reading w) head.number top top_is table root root_is (tables_of a) (table_of a) are (ap (slice_get (tables_of a)) (sym table_is) ∙ get_here a.front (table_of a) a.back)

    root_some : root.number ≢ 0
    root_some none = number_some some_tables.0 some_are some_tables.2 some_tables.3 (sym (root_same some_tables.0 some_are some_tables.2) ∙ none)

    pub table_there_cell : IsCell (reading w) root.number
    table_there_cell = is_there (reading w) head.number top top_is table root root_is table_small tables root_some

    module _ (old : Cell) (old_is : reading w root.number ≡ Some old) where
      leads_old : (a : Around) → AreTables (reading w) head.number (tables_of a) → length a.front ≡ table → IsTableCell old (starts (buckets_of a))
      leads_old a are table_is = table_read (reading w) head.number top top_is table root root_is (tables_of a) (table_of a) are (ap (slice_get (tables_of a)) (sym table_is) ∙ get_here a.front (table_of a) a.back) root_some old old_is

      root_kind : HasKind (reading w) kind.HashTable root.number
      root_kind = (old, old_is, (leads_old some_tables.0 some_are some_tables.2).kind)

      -- the table's buckets then
      module _ (rest : List CellRef) (rest_is : rest ≡ slice_set (table_in old).buckets word found.next) (a : Around) (are : AreTables (reading w) head.number (tables_of a)) (table_is : length a.front ≡ table) (place_is : length a.left ≡ word) where
        rest_leads : map (λ (r : CellRef). r.number) rest ≡ starts (a.left ++ (front ++ back) ∷ a.right)
        rest_leads =
            ap (λ (rs : List CellRef). map (λ (r : CellRef). r.number) rs) rest_is
            ∙ map_set (λ (r : CellRef). r.number) (table_in old).buckets word found.next
            ∙ ap (λ (ns : List ℕ). slice_set ns word found.next.number) (leads_old a are table_is).leads
            ∙ ap (λ (i : ℕ). slice_set (starts (buckets_of a)) i found.next.number) (sym place_is)
            ∙ set_mapped (λ (b : List (Placed Held)). start b 0) a.left a.bucket (front ++ back) a.right found.next.number
            (ap (λ (xs : List (Placed Held)). start (xs ++ back) 0) front_none ∙ sym is_in.at.next)

        -- nodes with the table's links as they were
        apart_front : StandApart IsWritten (reading gone_1) (frame (hash_nodes a.front) (own_node a.number (starts (buckets_of a))) (bucket_nodes a.left) (segment (front ++ back) 0 ++ behind a))
        apart_front =
            let own = own_node a.number (starts (buckets_of a)) in
            let joined : segment front found.at.number ++ (segment back 0 ++ behind a) ≡ segment (front ++ back) 0 ++ behind a =
            ap (λ (xs : List (Placed Held)). segment xs found.at.number ++ (segment back 0 ++ behind a)) front_none
            ∙ ap (λ (xs : List (Placed Held)). segment (xs ++ back) 0 ++ behind a) (sym front_none) in
            subst (λ (xs : List (Node Held)). StandApart IsWritten (reading gone_1) (frame (hash_nodes a.front) own (bucket_nodes a.left) xs)) joined (apart_1 a are table_is place_is)

      -- a table that keeps entries
      module _ (new : Cell) (new_kind : IsOfKind new kind.HashTable) (rest : List CellRef) (rest_is : rest ≡ slice_set (table_in old).buckets word found.next) (new_says : (table_in new).buckets ≡ rest) (some_rest : list_all (λ (r : CellRef). r.number == 0) rest ≡ false) where
        abbrev pub gone_first : Work
        gone_first = put_work gone_1 root new

        wrote_table : Writes (reading gone_1) (reading gone_first) root.number new
        wrote_table = put_reads gone_1 root new

        edits_first : Edits w gone_first (root.number ∷ found.at.number ∷ [])
        edits_first = edit_more w gone_1 (found.at.number ∷ []) edits_1 root new (none_of_kind (reading w) kind.HashTable root.number root_kind bare_table) (never_left w kind.HashTable root.number root_kind (λ e. absurd (omega arith))) (bare_table new new_kind)

        are_first : (a : Around) → AreTables (reading w) head.number (tables_of a) → length a.front ≡ table → length a.left ≡ word → AreTables (reading gone_first) head.number (tables_of (changed a a.number (front ++ back)))
        are_first a are table_is place_is = record {
          leads = record {
            cell = are.leads.cell;
            here = edits_first.elsewhere head.number (λ among. elim among [
              | inl same ↦ head_no_table (reading w) head.number root.number head_kind root_kind same
              | inr (inl same) ↦ entry_no_head (reading w) found.at.number head.number entry_kind head_kind same
              | inr (inr none) ↦ none
            ]) ∙ are.leads.here;
            kind = are.leads.kind;
            leads = are.leads.leads ∙ sym (same_mapped (λ (u : Table). u.number) a.front (table_of a) (table_of (changed a a.number (front ++ back))) a.back refl);
          };
          apart = subst (λ (xs : List (Node Held)). StandApart IsWritten (reading gone_first) xs) (sym (nodes_are (changed a a.number (front ++ back))))
              (table_leads (hash_nodes a.front) (bucket_nodes a.left) (segment (front ++ back) 0 ++ behind a) (reading gone_1) (reading gone_first) root.number new wrote_table a.number (starts (buckets_of a)) (starts (a.left ++ (front ++ back) ∷ a.right))
              (sym (root_same a are table_is)) (number_some a are table_is place_is)
              (record { kind = new_kind; leads = ap (λ (rs : List CellRef). map (λ (r : CellRef). r.number) rs) new_says ∙ rest_leads rest rest_is a are table_is place_is })
              (apart_front rest rest_is a are table_is place_is));
          shaped = shaped_now a a.number (front ++ back) are.shaped (shaped a are table_is place_is)
              ((λ none. absurd (number_some a are table_is place_is none)), (λ none. absurd (not_all_none rest (a.left ++ (front ++ back) ∷ a.right) (rest_leads rest rest_is a are table_is place_is) some_rest none)))
              (rest_entries a are table_is place_is);
          paged = λ n within. paged_still a are table_is place_is a.number n (λ own. own) within;
        }

        goes_first : (keys : Meaning) (listed : List CellRef) (nodes : List ℕ) → IsHash head.number (says keys (reading w)) (reading w) listed nodes → Goes head.number keys w gone_first (root.number ∷ found.at.number ∷ []) version table word listed nodes
        goes_first keys listed nodes stands =
            let t = hash_around head.number (says keys (reading w)) (reading w) listed nodes table word stands table_small word_small in
            let zero_now : reading gone_first found.at.number ≡ Some zero_cell = wrote_table.elsewhere found.at.number (entry_no_table (reading w) found.at.number root.number entry_kind root_kind) ∙ wrote_1.here in
            record {
              at = t;
              number = t.a.number;
              front = front;
              entry = found.at.number;
              hash = is_in.at.hash;
              back = back;
              bucket_is = chain_is t.a t.are t.table_is t.place_is;
              are = are_first t.a t.are t.table_is t.place_is;
              own = λ n among. elim among [
                | inl same ↦ inr (by_own t.a n (own_among t.a.number n (number_some t.a t.are t.table_is t.place_is) (sym (root_same t.a t.are t.table_is) ∙ same)))
                | inr (inl same) ↦ inr (by_bucket t.a n (subst (λ (k : ℕ). IsAmong (cells_of t.a.bucket) k) same (entry_among t.a t.are t.table_is t.place_is)))
                | inr (inr none) ↦ absurd none
              ];
              come = λ n within. came t.a t.are t.table_is t.place_is t.a.number n (λ own. own) within;
              gone = λ n within. went t.a t.are t.table_is t.place_is t.a.number n (reading gone_first n ≡ Some zero_cell) (λ own. inl own) (λ same. ap (reading gone_first) (sym same) ∙ zero_now) within;
              filled = λ n blank among. elim among [
                | inl same ↦ apart_from_free (reading w) kind.HashTable root.number n root_kind (λ e. absurd (omega arith)) blank.zero (sym same)
                | inr (inl same) ↦ apart_from_free (reading w) kind.HashEntry found.at.number n entry_kind (λ e. absurd (omega arith)) blank.zero (sym same)
                | inr (inr none) ↦ none
              ];
            }

        pub take_first : IsRemovedByAny (hash_nature class head.number) w gone_first version
        take_first keys rests = is_removed class head.number keys rests w gone_first (root.number ∷ found.at.number ∷ []) version table word edits_first (omega arith) (goes_first keys)

      -- a table without entries
      module _ (now_top : Cell) (top_kind : IsOfKind now_top kind.IndexHead) (top_says : (index_head_in now_top).roots ≡ slice_set (index_head_in top).roots table no_ref) (rest : List CellRef) (rest_is : rest ≡ slice_set (table_in old).buckets word found.next) (none_rest : list_all (λ (r : CellRef). r.number == 0) rest ≡ true) where
        abbrev pub gone_table : Work
        gone_table = put_work gone_1 root zero_cell

        abbrev pub gone_last : Work
        gone_last = put_work gone_table head now_top

        wrote_zero : Writes (reading gone_1) (reading gone_table) root.number zero_cell
        wrote_zero = put_reads gone_1 root zero_cell

        wrote_head : Writes (reading gone_table) (reading gone_last) head.number now_top
        wrote_head = put_reads gone_table head now_top

        edits_last : Edits w gone_last (head.number ∷ root.number ∷ found.at.number ∷ [])
        edits_last =
            edit_more w gone_table (root.number ∷ found.at.number ∷ [])
            (edit_more w gone_1 (found.at.number ∷ []) edits_1 root zero_cell (none_of_kind (reading w) kind.HashTable root.number root_kind bare_table) (never_left w kind.HashTable root.number root_kind (λ e. absurd (omega arith))) bare_zero)
            head now_top (none_of_kind (reading w) kind.IndexHead head.number head_kind bare_head) (never_left w kind.IndexHead head.number head_kind (λ e. absurd (omega arith))) (bare_head now_top top_kind)

        -- nothing of the table is left
        module _ (a : Around) (are : AreTables (reading w) head.number (tables_of a)) (table_is : length a.front ≡ table) (place_is : length a.left ≡ word) where
          apart_table : StandApart IsWritten (reading gone_table) (nodes_of (changed a 0 (front ++ back)))
          apart_table =
              table_goes (hash_nodes a.front) (bucket_nodes a.left) (segment (front ++ back) 0 ++ behind a) (reading gone_1) (reading gone_table) root.number zero_cell wrote_zero a.number (starts (buckets_of a)) (starts (a.left ++ (front ++ back) ∷ a.right))
              (sym (root_same a are table_is)) (number_some a are table_is place_is) (apart_front rest rest_is a are table_is place_is)

          no_entries : bucket_nodes (a.left ++ (front ++ back) ∷ a.right) ≡ []
          no_entries =
              all_none (reading gone_table) rest (a.left ++ (front ++ back) ∷ a.right) (rest_leads rest rest_is a are table_is place_is) none_rest
              (table_stand (reading gone_table) (changed a 0 (front ++ back)) apart_table.stand)

          head_beside : ¬ IsAmong (numbers (nodes_of (changed a 0 (front ++ back)))) head.number
          head_beside within = head_no_node (reading w) (nodes_of a) head.number head_kind (apart_around (reading w) head.number a are).stand (came a are table_is place_is 0 head.number (λ none. absurd none) within)

          are_last : AreTables (reading gone_last) head.number (tables_of (changed a 0 (front ++ back)))
          are_last = record {
            leads = record {
              cell = now_top;
              here = wrote_head.here;
              kind = top_kind;
              leads =
                  ap (λ (rs : List CellRef). map (λ (r : CellRef). r.number) rs) top_says
                  ∙ map_set (λ (r : CellRef). r.number) (index_head_in top).roots table no_ref
                  ∙ ap (λ (ns : List ℕ). slice_set ns table 0) (ap (λ (c : Cell). map (λ (r : CellRef). r.number) (index_head_in c).roots) (same_cell (reading w) head.number top are.leads.cell top_is are.leads.here) ∙ are.leads.leads)
                  ∙ ap (λ (i : ℕ). slice_set (map (λ (t : Table). t.number) (tables_of a)) i 0) (sym table_is)
                  ∙ set_mapped (λ (t : Table). t.number) a.front (table_of a) (table_of (changed a 0 (front ++ back))) a.back 0 refl;
            };
            apart =
                apart_beside IsWritten (reading gone_table) (reading gone_last) head.number now_top wrote_head (hash_nodes (tables_of (changed a 0 (front ++ back))))
                (λ within. head_beside (subst (λ (xs : List (Node Held)). IsAmong (numbers xs) head.number) (nodes_are (changed a 0 (front ++ back))) within))
                (subst (λ (xs : List (Node Held)). StandApart IsWritten (reading gone_table) xs) (sym (nodes_are (changed a 0 (front ++ back)))) apart_table);
            shaped = shaped_now a 0 (front ++ back) are.shaped (shaped a are table_is place_is)
                ((λ none. no_entries), (λ none. refl))
                (rest_entries a are table_is place_is);
            paged = λ n within. paged_still a are table_is place_is 0 n (λ none. absurd none) within;
          }

        goes_last : (keys : Meaning) (listed : List CellRef) (nodes : List ℕ) → IsHash head.number (says keys (reading w)) (reading w) listed nodes → Goes head.number keys w gone_last (head.number ∷ root.number ∷ found.at.number ∷ []) version table word listed nodes
        goes_last keys listed nodes stands =
            let t = hash_around head.number (says keys (reading w)) (reading w) listed nodes table word stands table_small word_small in
            let entry_now : reading gone_last found.at.number ≡ Some zero_cell =
            wrote_head.elsewhere found.at.number (entry_no_head (reading w) found.at.number head.number entry_kind head_kind)
            ∙ wrote_zero.elsewhere found.at.number (entry_no_table (reading w) found.at.number root.number entry_kind root_kind) ∙ wrote_1.here in
            let table_now : reading gone_last root.number ≡ Some zero_cell = wrote_head.elsewhere root.number (head_no_table (reading w) head.number root.number head_kind root_kind) ∙ wrote_zero.here in
            record {
              at = t;
              number = 0;
              front = front;
              entry = found.at.number;
              hash = is_in.at.hash;
              back = back;
              bucket_is = chain_is t.a t.are t.table_is t.place_is;
              are = are_last t.a t.are t.table_is t.place_is;
              own = λ n among. elim among [
                | inl same ↦ inl (sym same)
                | inr (inl same) ↦ inr (by_own t.a n (own_among t.a.number n (number_some t.a t.are t.table_is t.place_is) (sym (root_same t.a t.are t.table_is) ∙ same)))
                | inr (inr (inl same)) ↦ inr (by_bucket t.a n (subst (λ (k : ℕ). IsAmong (cells_of t.a.bucket) k) same (entry_among t.a t.are t.table_is t.place_is)))
                | inr (inr (inr none)) ↦ absurd none
              ];
              come = λ n within. came t.a t.are t.table_is t.place_is 0 n (λ none. absurd none) within;
              gone = λ n within. went t.a t.are t.table_is t.place_is 0 n (reading gone_last n ≡ Some zero_cell)
                  (λ own. inr (ap (reading gone_last) (sym (root_same t.a t.are t.table_is ∙ own_only t.a.number n own)) ∙ table_now))
                  (λ same. ap (reading gone_last) (sym same) ∙ entry_now) within;
              filled = λ n blank among. elim among [
                | inl same ↦ apart_from_free (reading w) kind.IndexHead head.number n head_kind (λ e. absurd (omega arith)) blank.zero (sym same)
                | inr (inl same) ↦ apart_from_free (reading w) kind.HashTable root.number n root_kind (λ e. absurd (omega arith)) blank.zero (sym same)
                | inr (inr (inl same)) ↦ apart_from_free (reading w) kind.HashEntry found.at.number n entry_kind (λ e. absurd (omega arith)) blank.zero (sym same)
                | inr (inr (inr none)) ↦ none
              ];
            }

        pub take_last : IsRemovedByAny (hash_nature class head.number) w gone_last version
        take_last keys rests = is_removed class head.number keys rests w gone_last (head.number ∷ root.number ∷ found.at.number ∷ []) version table word edits_last (omega arith) (goes_last keys)
