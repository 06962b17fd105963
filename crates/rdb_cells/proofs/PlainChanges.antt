-- Plain lists: what a put and a remove make of them.
use Rattle.std.proofs.Common.{◌≡◌, ◌≢◌, ◌<◌, ◌⊎◌, ◌++◌, ℕ, List, [], ◌∷◌, slice_get, Some, inl, inr, refl, sym, ap, subst, ◌∙◌, arith}
use Rattle.std.proofs.Permutation.{which}
use Rattle.std.proofs.lemmas.List.Sorted.{IsPermutation-refl, IsPermutation-sym, IsPermutation-cons, IsPermutation-middle, IsPermutation-trans}
use Rattle.std.specs.Prelude.{IsPermutation}
use Rattle.rdb_pages.specs.declared.cell.Cell.{Cell}
use Rattle.rdb_pages.specs.declared.cell.CellRef.{CellRef}
use Rattle.rdb_pages.specs.Pages.{zero_cell}
use Rattle.rdb_cells.specs.declared.kind.Kind.TheVariants as kind
use Rattle.rdb_cells.specs.HeadFormat.{index_head_in, rooted_head}
use Rattle.rdb_cells.specs.Images.{Image, Writes}
use Rattle.rdb_cells.specs.Index.{Puts, Removes, KeepsAccount, PlansOnlyOwn}
use Rattle.rdb_cells.specs.Keys.{Meaning, Sayings, says, SameVersionCells, HasNoVersionCell, RestsOnVersions, IsUnlisted, ListsVersions}
use Rattle.rdb_cells.specs.Links.{IsAmong, Node, StandApart, numbers, Placed, elements, start, segment}
use Rattle.rdb_cells.specs.PatriciaFormat.{patricia_entry_in}
use Rattle.rdb_cells.specs.PlainLaws.{lists_again}
use Rattle.rdb_cells.specs.PlainList.{IsEntry, AreEntries, IsPlainList, plain_nature, IsEntryAt}
use Rattle.rdb_cells.specs.References.{IsPageCell}
use Rattle.rdb_cells.specs.Untaken.{IsNextUntaken}
use Rattle.rdb_cells.specs.Words.{IsOfKind, HasKind}
use Rattle.rdb_cells.specs.Work.{Work, reading, IsBlank, IsLeft, TakesAtMost, TakesNone}
use Rattle.rdb_cells.proofs.IndexLemmas.{says_again, unlisted_again}
use Rattle.rdb_cells.proofs.LinkLemmas.{node_of, taken, given_back, apart_beside, rewritten_chain, same_cells, same_start, elements_append}
use Rattle.rdb_cells.proofs.ListedLemmas.{lists_more, lists_less, lists_in_order}
use Rattle.rdb_cells.proofs.PlainLemmas.{entries_never_zero, leads_there, one_kind, one_entries, entry_version, entry_next}
use Rattle.rdb_cells.proofs.VersionCellLemmas.{no_version, others_written}
use Rattle.rdb_cells.proofs.WorkLemmas.{put_work, take_work, put_reads, put_says, left_blank, put_takes_none, none_then, none_at_most, at_most_then, take_one, taken_spent, lowest_take, lowest_none, lowest_then}

free_none : (image : Image) (n : ℕ) → HasKind image kind.Free n → HasNoVersionCell image n
free_none image n has = no_version image kind.Free n has (λ e. absurd (omega arith)) (λ e. absurd (omega arith))

head_none : (image : Image) (n : ℕ) → HasKind image kind.IndexHead n → HasNoVersionCell image n
head_none image n has = no_version image kind.IndexHead n has (λ e. absurd (omega arith)) (λ e. absurd (omega arith))

entry_none : (image : Image) (n : ℕ) → HasKind image kind.PatriciaEntry n → HasNoVersionCell image n
entry_none image n has = no_version image kind.PatriciaEntry n has (λ e. absurd (omega arith)) (λ e. absurd (omega arith))

zero_kind : (image : Image) (n : ℕ) → image n ≡ Some zero_cell → HasKind image kind.Free n
zero_kind image n free = (zero_cell, free, refl)

-- a head, an entry and a free cell stand in different places
head_not_free : (image : Image) (head n : ℕ) → HasKind image kind.IndexHead head → image n ≡ Some zero_cell → n ≢ head
head_not_free image head n has free same =
    let e = one_kind image kind.Free kind.IndexHead head (zero_kind image head (ap image (sym same) ∙ free)) has in
    absurd (omega arith)

entry_not_free : (image : Image) (entry n : ℕ) → HasKind image kind.PatriciaEntry entry → image n ≡ Some zero_cell → n ≢ entry
entry_not_free image entry n has free same =
    let e = one_kind image kind.Free kind.PatriciaEntry entry (zero_kind image entry (ap image (sym same) ∙ free)) has in
    absurd (omega arith)

head_not_entry : (image : Image) (head n : ℕ) → HasKind image kind.IndexHead head → HasKind image kind.PatriciaEntry n → n ≢ head
head_not_entry image head n has entry same =
    let e = one_kind image kind.PatriciaEntry kind.IndexHead head (subst (HasKind image kind.PatriciaEntry) same entry) has in
    absurd (omega arith)

-- the kinds of a plain list's cells
module _ (head : ℕ) (said : Sayings) (image : Image) (listed : List CellRef) (nodes : List ℕ) (list : IsPlainList head said image listed nodes) where
  plain_head : HasKind image kind.IndexHead head
  plain_head = (list.leads.cell, list.leads.here, list.leads.kind)

  plain_entry : (n : ℕ) → IsAmong (numbers (segment list.chain 0)) n → HasKind image kind.PatriciaEntry n
  plain_entry n within =
      let node = node_of IsEntry image (segment list.chain 0) n list.entries.chained.nodes.stand within in
      (node.2.cell, ap image (sym node.1) ∙ node.2.here, node.2.written.kind)

-- a put: the entry in the place that was taken, and the head
module _ (class : ℕ) (head place first version : CellRef) (keys : Meaning) (w : Work) (old_top cell top : Cell)
    (rests : RestsOnVersions keys)
    (old_top_is : reading w head.number ≡ Some old_top)
    (root_is : slice_get (index_head_in old_top).roots 0 ≡ Some first)
    (lowest : IsNextUntaken w.pairs w.below w.class_of w.class w.taken place.number)
    (cell_kind : IsOfKind cell kind.PatriciaEntry)
    (cell_says : patricia_entry_in cell ≡ record { next = first; version = version })
    (top_kind : IsOfKind top kind.IndexHead)
    (top_says : index_head_in top ≡ rooted_head place) where
  abbrev pub put_1 : Work
  put_1 = put_work (take_work w place) place cell

  abbrev pub put_2 : Work
  put_2 = put_work put_1 head top

  blank : IsBlank w place.number
  blank = left_blank w place.number lowest.untaken

  wrote_1 : Writes (reading w) (reading put_1) place.number cell
  wrote_1 = put_reads (take_work w place) place cell

  wrote_2 : Writes (reading put_1) (reading put_2) head.number top
  wrote_2 = put_reads put_1 head top

  module _ (listed : List CellRef) (nodes : List ℕ) (list : IsPlainList head.number (says keys (reading w)) (reading w) listed nodes) where
    head_kind : HasKind (reading w) kind.IndexHead head.number
    head_kind = plain_head head.number (says keys (reading w)) (reading w) listed nodes list

    first_is : list.first ≡ first
    first_is = leads_there (reading w) head.number list.first first old_top list.leads old_top_is root_is

    not_head : place.number ≢ head.number
    not_head = head_not_free (reading w) head.number place.number head_kind blank.zero

    head_beside : ¬ IsAmong (place.number ∷ numbers (segment list.chain 0)) head.number
    head_beside (inl same) = not_head same
    head_beside (inr within) = head_not_entry (reading w) head.number head.number head_kind (plain_entry head.number (says keys (reading w)) (reading w) listed nodes list head.number within) refl

    chain_now : List (Placed CellRef)
    chain_now = record { number = place.number; element = version } ∷ list.chain

    written : IsEntry cell version (start list.chain 0 ∷ [])
    written = record {
      kind = cell_kind;
      says = ap (λ e. e.version) cell_says;
      leads = ap (λ (n : ℕ). n ∷ []) (sym list.entries.chained.begins ∙ ap (λ (r : CellRef). r.number) first_is ∙ sym (ap (λ e. e.next.number) cell_says));
    }

    some : 0 < place.number
    some = let page = blank.page.0 in omega arith

    apart_1 : StandApart IsEntry (reading put_1) (record { number = place.number; element = version; links = start list.chain 0 ∷ [] } ∷ segment list.chain 0)
    apart_1 = taken IsEntry (reading w) (reading put_1) place.number cell wrote_1 entries_never_zero (record { number = place.number; element = version; links = start list.chain 0 ∷ [] }) (segment list.chain 0) refl some blank.zero written list.entries.chained.nodes

    apart_2 : StandApart IsEntry (reading put_2) (record { number = place.number; element = version; links = start list.chain 0 ∷ [] } ∷ segment list.chain 0)
    apart_2 = apart_beside IsEntry (reading put_1) (reading put_2) head.number top wrote_2 (record { number = place.number; element = version; links = start list.chain 0 ∷ [] } ∷ segment list.chain 0) head_beside apart_1

    elsewhere : (n : ℕ) → n ≢ place.number → n ≢ head.number → reading put_2 n ≡ reading w n
    elsewhere n no_place no_head = wrote_2.elsewhere n no_head ∙ wrote_1.elsewhere n no_place

    pub put_versions : SameVersionCells (reading w) (reading put_2)
    put_versions = others_written (reading w) (reading put_2) (λ n. elim (which n head.number) [
      | inl same ↦ inr (head_none (reading w) n (subst (HasKind (reading w) kind.IndexHead) (sym same) head_kind), head_none (reading put_2) n (top, ap (reading put_2) same ∙ wrote_2.here, top_kind))
      | inr no_head ↦ elim (which n place.number) [
        | inl same ↦ inr (free_none (reading w) n (zero_kind (reading w) n (ap (reading w) same ∙ blank.zero)), entry_none (reading put_2) n (cell, wrote_2.elsewhere n no_head ∙ ap (reading put_1) same ∙ wrote_1.here, cell_kind))
        | inr no_place ↦ inl (elsewhere n no_place no_head)
      ]
    ])

    lists_now : IsUnlisted (says keys (reading w)) listed version → ListsVersions (says keys (reading put_2)) (version ∷ listed)
    lists_now unlisted =
        lists_more (says keys (reading put_2)) listed version
        (unlisted_again keys (reading w) (reading put_2) rests put_versions listed version unlisted)
        (lists_again (says keys (reading w)) (says keys (reading put_2)) listed (says_again keys (reading w) (reading put_2) rests put_versions listed) list.versions)

    plain_now : IsUnlisted (says keys (reading w)) listed version → IsPlainList head.number (says keys (reading put_2)) (reading put_2) (version ∷ listed) (place.number ∷ nodes)
    plain_now unlisted = record {
      first = place;
      chain = record { number = place.number; element = version } ∷ list.chain;
      leads = record { cell = top; here = wrote_2.here; kind = top_kind; leads = ap (λ h. slice_get h.roots 0) top_says };
      entries = record {
        chained = record { begins = refl; nodes = apart_2 };
        paged = λ n within. elim within [
          | inl same ↦ subst (λ (k : ℕ). IsPageCell k) same blank.page
          | inr later ↦ list.entries.paged n later
        ];
      };
      listed_is = ap (λ (rs : List CellRef). version ∷ rs) list.listed_is;
      nodes_are = ap (λ (ns : List ℕ). place.number ∷ ns) list.nodes_are;
      versions = lists_now unlisted;
    }

    -- after the taking nothing that can be taken is planned
    put_rest : TakesNone (take_work w place) put_2
    put_rest =
        let spent : ¬ IsLeft put_1 head.number = λ left. not_free (left_blank put_1 head.number left).zero in
        none_then (take_work w place) put_1 put_2 (put_takes_none (take_work w place) place cell (taken_spent w place lowest)) (put_takes_none put_1 head top spent)
      where
        not_free : reading put_1 head.number ≡ Some zero_cell → ⊥
        not_free zero_there = head_not_free (reading w) head.number head.number head_kind (sym (wrote_1.elsewhere head.number (λ same. not_head (sym same))) ∙ zero_there) refl

    old_spent : (n : ℕ) → IsAmong nodes n → ¬ IsLeft w n
    old_spent n within left =
        let node = plain_entry head.number (says keys (reading w)) (reading w) listed nodes list n (subst (λ (ns : List ℕ). IsAmong ns n) list.nodes_are within) in
        entry_not_free (reading w) n n node (left_blank w n left).zero refl

    pub put_takes : TakesAtMost 1 w put_2
    put_takes = at_most_then 1 0 w (take_work w place) put_2 (take_one w place lowest) (none_at_most (take_work w place) put_2 put_rest)

    account_now : KeepsAccount w put_2 nodes (place.number ∷ nodes)
    account_now = record {
      come = λ n within. elim within [
        | inl same ↦ inr (subst (IsLeft w) same lowest.untaken)
        | inr old ↦ inl old
      ];
      gone = λ n within. inl (inr within);
      takes =
          lowest_then (place.number ∷ []) nodes w (take_work w place) put_2 (lowest_take w place lowest)
          (lowest_none (take_work w place) put_2 nodes put_rest (λ n within left. old_spent n within ((take_one w place lowest).no_more n left)));
      filled = λ n free. elim (which place.number n) [
        | inl same ↦ inl (inl same)
        | inr other ↦ inr (elsewhere n (λ same. other (sym same)) (head_not_free (reading w) head.number n head_kind free.zero))
      ];
    }

  pub plain_puts : Puts (plain_nature class head.number) keys w put_2 version
  plain_puts listed nodes list unlisted = (
    record { listed = version ∷ listed; now_nodes = place.number ∷ nodes; lists = plain_now listed nodes list unlisted; account = account_now listed nodes list },
    IsPermutation-refl (version ∷ listed),
  )

  pub put_own : PlansOnlyOwn (plain_nature class head.number) keys w put_2
  put_own listed nodes list n = elim (put_says put_1 head top n) [
    | inr at_head ↦ inr (inl at_head)
    | inl same ↦ elim (put_says (take_work w place) place cell n) [
      | inr at_place ↦ inr (inr (inr (subst (IsLeft w) (sym at_place) lowest.untaken)))
      | inl before ↦ inl (same ∙ before)
    ]
  ]

-- a cell of a chain is among its cells
among_there : (xs : List (Placed CellRef)) (x : Placed CellRef) (ys : List (Placed CellRef)) → IsAmong (numbers (segment (xs ++ x ∷ ys) 0)) x.number
among_there [] x ys = inl refl
among_there (p ∷ ps) x ys = inr (among_there ps x ys)

-- a remove: the first entry's version in the entry of the version, the first entry's cell given back, and the head
module _ (class : ℕ) (head place first version : CellRef) (keys : Meaning) (w : Work) (old_top front_cell place_cell moved top : Cell)
    (rests : RestsOnVersions keys)
    (old_top_is : reading w head.number ≡ Some old_top)
    (root_is : slice_get (index_head_in old_top).roots 0 ≡ Some first)
    (at : IsEntryAt (reading w) first.number version place)
    (front_is : reading w first.number ≡ Some front_cell)
    (place_is : reading w place.number ≡ Some place_cell)
    (moved_kind : IsOfKind moved kind.PatriciaEntry)
    (moved_says : patricia_entry_in moved ≡ record { next = (patricia_entry_in place_cell).next; version = (patricia_entry_in front_cell).version })
    (top_kind : IsOfKind top kind.IndexHead)
    (top_says : index_head_in top ≡ rooted_head (patricia_entry_in front_cell).next) where
  abbrev pub gone_1 : Work
  gone_1 = put_work w place moved

  abbrev pub gone_2 : Work
  gone_2 = put_work gone_1 first zero_cell

  abbrev pub gone_3 : Work
  gone_3 = put_work gone_2 head top

  wrote_a : Writes (reading w) (reading gone_1) place.number moved
  wrote_a = put_reads w place moved

  wrote_b : Writes (reading gone_1) (reading gone_2) first.number zero_cell
  wrote_b = put_reads gone_1 first zero_cell

  wrote_c : Writes (reading gone_2) (reading gone_3) head.number top
  wrote_c = put_reads gone_2 head top

  abbrev x : Placed CellRef
  x = record { number = place.number; element = version }

  -- the chain without the first cell
  record IsShorter (chain : List (Placed CellRef)) : Type 0 where
    rest : List (Placed CellRef)
    nodes : StandApart IsEntry (reading gone_2) (segment rest 0)
    begins : (patricia_entry_in front_cell).next.number ≡ start rest 0
    cells : numbers (segment chain 0) ≡ first.number ∷ numbers (segment rest 0)
    fewer : IsPermutation (version ∷ elements rest) (elements chain)

  shorter : (before after : List (Placed CellRef)) → AreEntries (reading w) first.number (before ++ x ∷ after) → IsShorter (before ++ x ∷ after)
  shorter [] after entries =
      let same : first.number ≡ place.number = entries.chained.begins in
      let one = given_back IsEntry (reading w) (reading gone_1) place.number moved wrote_a [] (record { number = place.number; element = version; links = start after 0 ∷ [] }) (segment after 0) refl entries.chained.nodes in
      record {
        rest = after;
        nodes = apart_beside IsEntry (reading gone_1) (reading gone_2) first.number zero_cell wrote_b (segment after 0) (λ within. entries.chained.nodes.once.0 (subst (λ (n : ℕ). IsAmong (numbers (segment after 0)) n) same within)) one;
        begins = entry_next (reading w) first.number [] x after entries front_cell (ap (reading w) (sym same) ∙ front_is);
        cells = ap (λ (n : ℕ). n ∷ numbers (segment after 0)) (sym same);
        fewer = IsPermutation-refl (version ∷ elements after);
      }
  shorter (z ∷ bs) after entries =
      let same : first.number ≡ z.number = entries.chained.begins in
      let front : reading w z.number ≡ Some front_cell = ap (reading w) (sym same) ∙ front_is in
      let y : Placed CellRef = record { number = place.number; element = z.element } in
      let written : IsEntry moved z.element (start after 0 ∷ []) = record {
        kind = moved_kind;
        says = ap (λ e. e.version) moved_says ∙ entry_version (reading w) first.number [] z (bs ++ x ∷ after) entries front_cell front;
        leads = ap (λ (n : ℕ). n ∷ []) (sym (ap (λ e. e.next.number) moved_says ∙ entry_next (reading w) first.number (z ∷ bs) x after entries place_cell place_is));
      } in
      let one = rewritten_chain IsEntry (reading w) (reading gone_1) place.number moved wrote_a (z ∷ bs) x y after refl refl written entries.chained.nodes in
      let z_node : Node CellRef = record { number = z.number; element = z.element; links = start (bs ++ y ∷ after) 0 ∷ [] } in
      record {
        rest = bs ++ y ∷ after;
        nodes = given_back IsEntry (reading gone_1) (reading gone_2) first.number zero_cell wrote_b [] z_node (segment (bs ++ y ∷ after) 0) (sym same) one;
        begins = entry_next (reading w) first.number [] z (bs ++ x ∷ after) entries front_cell front ∙ sym (same_start bs x y after 0 refl);
        cells = ap (λ (n : ℕ). n ∷ numbers (segment (bs ++ x ∷ after) 0)) (sym same) ∙ ap (λ (ns : List ℕ). first.number ∷ ns) (sym (same_cells bs x y after 0 refl));
        fewer = moved_front z.element (elements bs) (elements after) (elements (bs ++ y ∷ after)) (elements (bs ++ x ∷ after)) (elements_append bs (y ∷ after)) (elements_append bs (x ∷ after));
      }
    where
      moved_front : (e : CellRef) (b a now was : List CellRef) → now ≡ b ++ e ∷ a → was ≡ b ++ version ∷ a → IsPermutation (version ∷ now) (e ∷ was)
      moved_front e b a now was now_is was_is =
          rw (now_is, was_is)
          (IsPermutation-trans (version ∷ b ++ e ∷ a) (version ∷ e ∷ b ++ a) (e ∷ b ++ version ∷ a)
          (IsPermutation-cons version (b ++ e ∷ a) (e ∷ b ++ a) (IsPermutation-middle b e a))
          (IsPermutation-trans (version ∷ e ∷ b ++ a) (e ∷ version ∷ b ++ a) (e ∷ b ++ version ∷ a)
          (IsPermutation-middle (version ∷ []) e (b ++ a))
          (IsPermutation-cons e (version ∷ b ++ a) (b ++ version ∷ a) (IsPermutation-sym (b ++ version ∷ a) (version ∷ b ++ a) (IsPermutation-middle b version a)))))

  left : IsShorter (at.before ++ x ∷ at.after)
  left = shorter at.before at.after at.entries

  module _ (listed : List CellRef) (nodes : List ℕ) (list : IsPlainList head.number (says keys (reading w)) (reading w) listed nodes) where
    top_kind_was : HasKind (reading w) kind.IndexHead head.number
    top_kind_was = plain_head head.number (says keys (reading w)) (reading w) listed nodes list

    root_first : list.first ≡ first
    root_first = leads_there (reading w) head.number list.first first old_top list.leads old_top_is root_is

    chain_is : at.before ++ x ∷ at.after ≡ list.chain
    chain_is = one_entries (reading w) first.number (at.before ++ x ∷ at.after) list.chain at.entries (subst (λ (r : CellRef). AreEntries (reading w) r.number list.chain) root_first list.entries)

    cells_are : numbers (segment list.chain 0) ≡ first.number ∷ numbers (segment left.rest 0)
    cells_are = ap (λ (c : List (Placed CellRef)). numbers (segment c 0)) (sym chain_is) ∙ left.cells

    nodes_were : nodes ≡ first.number ∷ numbers (segment left.rest 0)
    nodes_were = list.nodes_are ∙ cells_are

    entry_at : (n : ℕ) → IsAmong (first.number ∷ numbers (segment left.rest 0)) n → HasKind (reading w) kind.PatriciaEntry n
    entry_at n within = plain_entry head.number (says keys (reading w)) (reading w) listed nodes list n (subst (λ (ns : List ℕ). IsAmong ns n) (sym cells_are) within)

    place_among : IsAmong (first.number ∷ numbers (segment left.rest 0)) place.number
    place_among = subst (λ (ns : List ℕ). IsAmong ns place.number) left.cells (among_there at.before x at.after)

    first_kind : HasKind (reading w) kind.PatriciaEntry first.number
    first_kind = entry_at first.number (inl refl)

    place_kind : HasKind (reading w) kind.PatriciaEntry place.number
    place_kind = entry_at place.number place_among

    first_not_head : first.number ≢ head.number
    first_not_head = head_not_entry (reading w) head.number first.number top_kind_was first_kind

    place_not_head : place.number ≢ head.number
    place_not_head = head_not_entry (reading w) head.number place.number top_kind_was place_kind

    rest_apart : StandApart IsEntry (reading gone_3) (segment left.rest 0)
    rest_apart = apart_beside IsEntry (reading gone_2) (reading gone_3) head.number top wrote_c (segment left.rest 0) (λ within. head_not_entry (reading w) head.number head.number top_kind_was (entry_at head.number (inr within)) refl) left.nodes

    otherwhere : (n : ℕ) → n ≢ place.number → n ≢ first.number → n ≢ head.number → reading gone_3 n ≡ reading w n
    otherwhere n no_place no_first no_head = wrote_c.elsewhere n no_head ∙ wrote_b.elsewhere n no_first ∙ wrote_a.elsewhere n no_place

    first_zero : reading gone_3 first.number ≡ Some zero_cell
    first_zero = wrote_c.elsewhere first.number first_not_head ∙ wrote_b.here

    pub remove_versions : SameVersionCells (reading w) (reading gone_3)
    remove_versions = others_written (reading w) (reading gone_3) (λ n. elim (which n head.number) [
      | inl same ↦ inr (head_none (reading w) n (subst (HasKind (reading w) kind.IndexHead) (sym same) top_kind_was), head_none (reading gone_3) n (top, ap (reading gone_3) same ∙ wrote_c.here, top_kind))
      | inr no_head ↦ elim (which n first.number) [
        | inl same ↦ inr (entry_none (reading w) n (subst (HasKind (reading w) kind.PatriciaEntry) (sym same) first_kind), free_none (reading gone_3) n (zero_kind (reading gone_3) n (ap (reading gone_3) same ∙ first_zero)))
        | inr no_first ↦ elim (which n place.number) [
          | inl same ↦ inr (entry_none (reading w) n (subst (HasKind (reading w) kind.PatriciaEntry) (sym same) place_kind), entry_none (reading gone_3) n (moved, wrote_c.elsewhere n no_head ∙ wrote_b.elsewhere n no_first ∙ ap (reading gone_1) same ∙ wrote_a.here, moved_kind))
          | inr no_place ↦ inl (otherwhere n no_place no_first no_head)
        ]
      ]
    ])

    listed_were : IsPermutation (version ∷ elements left.rest) listed
    listed_were = subst (λ (rs : List CellRef). IsPermutation (version ∷ elements left.rest) rs) (ap (λ (c : List (Placed CellRef)). elements c) chain_is ∙ sym list.listed_is) left.fewer

    rest_lists : ListsVersions (says keys (reading gone_3)) (elements left.rest)
    rest_lists =
        lists_less (says keys (reading gone_3)) (elements left.rest) version
        (lists_in_order (says keys (reading gone_3)) listed (version ∷ elements left.rest) (IsPermutation-sym (version ∷ elements left.rest) listed listed_were)
        (lists_again (says keys (reading w)) (says keys (reading gone_3)) listed (says_again keys (reading w) (reading gone_3) rests remove_versions listed) list.versions))

    rest_plain : IsPlainList head.number (says keys (reading gone_3)) (reading gone_3) (elements left.rest) (numbers (segment left.rest 0))
    rest_plain = record {
      first = (patricia_entry_in front_cell).next;
      chain = left.rest;
      leads = record { cell = top; here = wrote_c.here; kind = top_kind; leads = ap (λ h. slice_get h.roots 0) top_says };
      entries = record {
        chained = record { begins = left.begins; nodes = rest_apart };
        paged = λ n within. list.entries.paged n (subst (λ (ns : List ℕ). IsAmong ns n) (sym cells_are) (inr within));
      };
      listed_is = refl;
      nodes_are = refl;
      versions = rest_lists;
    }

    pub remove_takes_none : TakesNone w gone_3
    remove_takes_none =
        let place_spent : ¬ IsLeft w place.number = λ left_over. entry_not_free (reading w) place.number place.number place_kind (left_blank w place.number left_over).zero refl in
        let first_spent : ¬ IsLeft gone_1 first.number = λ left_over. entry_not_free (reading gone_1) first.number first.number (first_kind_1 (which first.number place.number)) (left_blank gone_1 first.number left_over).zero refl in
        let head_same : reading gone_2 head.number ≡ reading w head.number = wrote_b.elsewhere head.number (λ same. first_not_head (sym same)) ∙ wrote_a.elsewhere head.number (λ same. place_not_head (sym same)) in
        let head_spent : ¬ IsLeft gone_2 head.number = λ left_over. head_not_free (reading w) head.number head.number top_kind_was (sym head_same ∙ (left_blank gone_2 head.number left_over).zero) refl in
        none_then w gone_2 gone_3 (none_then w gone_1 gone_2 (put_takes_none w place moved place_spent) (put_takes_none gone_1 first zero_cell first_spent)) (put_takes_none gone_2 head top head_spent)
      where
        first_kind_1 : (first.number ≡ place.number) ⊎ (first.number ≢ place.number) → HasKind (reading gone_1) kind.PatriciaEntry first.number
        first_kind_1 (inl same) = (moved, ap (reading gone_1) same ∙ wrote_a.here, moved_kind)
        first_kind_1 (inr apart) = (first_kind.0, wrote_a.elsewhere first.number apart ∙ first_kind.1, first_kind.2)

    rest_account : KeepsAccount w gone_3 nodes (numbers (segment left.rest 0))
    rest_account = record {
      come = λ n within. inl (subst (λ (ns : List ℕ). IsAmong ns n) (sym nodes_were) (inr within));
      gone = λ n within. elim (subst (λ (ns : List ℕ). IsAmong ns n) nodes_were within) [
        | inl same ↦ inr (ap (reading gone_3) (sym same) ∙ first_zero)
        | inr later ↦ inl later
      ];
      takes =
          lowest_none w gone_3 (numbers (segment left.rest 0)) remove_takes_none
          (λ n within left_over. entry_not_free (reading w) n n (entry_at n (inr within)) (left_blank w n left_over).zero refl);
      filled = λ n free. inr (otherwhere n
          (entry_not_free (reading w) place.number n place_kind free.zero)
          (entry_not_free (reading w) first.number n first_kind free.zero)
          (head_not_free (reading w) head.number n top_kind_was free.zero));
    }

  pub plain_removes : Removes (plain_nature class head.number) keys w gone_3 version
  plain_removes listed nodes list within = (
    record { listed = elements left.rest; now_nodes = numbers (segment left.rest 0); lists = rest_plain listed nodes list; account = rest_account listed nodes list },
    listed_were listed nodes list,
    λ n there. subst (λ (ns : List ℕ). IsAmong ns n) (sym (nodes_were listed nodes list)) (inr there),
  )

  pub remove_own : PlansOnlyOwn (plain_nature class head.number) keys w gone_3
  remove_own listed nodes list n =
      let own_node : (m : ℕ) → IsAmong (first.number ∷ numbers (segment left.rest 0)) m → n ≡ m → IsAmong nodes n = λ m within same. subst (λ (k : ℕ). IsAmong nodes k) (sym same) (subst (λ (ns : List ℕ). IsAmong ns m) (sym (nodes_were listed nodes list)) within) in
      elim (put_says gone_2 head top n) [
        | inr at_head ↦ inr (inl at_head)
        | inl same_c ↦ elim (put_says gone_1 first zero_cell n) [
          | inr at_first ↦ inr (inr (inl (own_node first.number (inl refl) at_first)))
          | inl same_b ↦ elim (put_says w place moved n) [
            | inr at_place ↦ inr (inr (inl (own_node place.number (place_among listed nodes list) at_place)))
            | inl same_a ↦ inl (same_c ∙ same_b ∙ same_a)
          ]
        ]
      ]
