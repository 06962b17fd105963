-- A new root, and what a put into the tree of a head comes to.
use Rattle.std.proofs.Common.{◌≡◌, ◌≢◌, ◌≤◌, ◌<◌, ◌+◌, ◌*◌, ◌++◌, zero, suc, ℕ, List, [], ◌∷◌, length, length-append, Option, Some, None, IsSome, inl, inr, refl, sym, ap, subst, ◌∙◌, arith, rules}
use Rattle.std.proofs.lemmas.List.{length-map}
use Rattle.std.proofs.lemmas.List.Sorted.{IsPermutation-refl}
use Rattle.std.proofs.lemmas.Bool.{false≢true}
use Rattle.std.specs.Option.{option_and_then}
use Rattle.std.specs.Prelude.{unwrap_or}
use Rattle.rdb_base.specs.declared.value.Rect.{Rect}
use Rattle.rdb_pages.specs.declared.cell.Cell.{Cell}
use Rattle.rdb_pages.specs.declared.cell.CellRef.{CellRef}
use Rattle.rdb_pages.specs.Pages.{zero_cell}
use Rattle.rdb_cells.specs.declared.kind.Kind.TheVariants as kind
use Rattle.rdb_cells.specs.HeadFormat.{index_head_cell, rooted_head}
use Rattle.rdb_cells.specs.Images.{Image}
use Rattle.rdb_cells.specs.Keys.{Version, Meaning, Sayings, says, HasBox, ForVersion, box_of}
use Rattle.rdb_cells.specs.Links.{IsAmong}
use Rattle.rdb_cells.specs.Words.{HasKind}
use Rattle.rdb_cells.specs.Work.{Work, reading, HasLeft}
use Rattle.rdb_cells.proofs.IndexLemmas.{fewer_than}
use Rattle.rdb_cells.proofs.PlainLemmas.{one_kind}
use Rattle.rdb_cells.proofs.WorkLemmas.{put_reads, left_blank, one_left}
use Rattle.rdb_rtree.specs.Boxes.{Each}
use Rattle.rdb_rtree.specs.Changes.{cell_of, with_cell, with_taken, CanTake, HasPlaces, IsAccount, cells_below, versions_below, entries_above, IsPlanted, IsToSettle, AreSettled, IsGrowing, HasGrown, IsTreePut}
use Rattle.rdb_rtree.specs.Nature.{IsBoxKey}
use Rattle.rdb_rtree.specs.RtreeLaws.{all_stand_still, nodes_of_all, all_nodes}
use Rattle.rdb_rtree.specs.Trees.{Node, RTree, box, box_at, no_box, cells, versions, entry_of, Stands, HasProperBox, IsShaped, least_entries, Empty, Rooted, root_entries}
use Rattle.rdb_rtree.specs.declared.entry.Entry.{Entry}
use Rattle.rdb_rtree.proofs.AccountLemmas.{node_bare, head_bare, node_spent, head_spent, account_put, account_take, account_within, account_then, reads_same}
use Rattle.rdb_rtree.proofs.CountLemmas.{count, count_cons, count_append, count_same, out_count, among_count, listed, listed_append, listed_same, numbers_permute, versions_permute}
use Rattle.rdb_rtree.proofs.NodeLemmas.{some_box}
use Rattle.rdb_rtree.proofs.WrittenLemmas.{written_stands, written_shaped, written_kind}

-- the box of a version that has one
module _ (keys : Meaning) (image : Image) (r : CellRef) (boxed : HasProperBox (says keys image) r) where
  pub proper_box : HasBox keys image r
  proper_box =
      let v = some_box (keys.version_of image r.number) boxed.own boxed.is in
      (v.0, v.1, subst (λ (o : Option Rect). IsSome o) (sym v.2) (search rules))

  pub proper_entry : (read : Rect) → ForVersion keys image r (λ v. box_of v.key ≡ Some read) → record { at = r; cover = read } ≡ entry_of (says keys image) 0 r
  proper_entry read told =
      let v = some_box (keys.version_of image r.number) boxed.own boxed.is in
      let here : box_at (says keys image) r ≡ Some read = boxed.is ∙ sym v.2 ∙ told v.0 v.1 in
      let same : read ≡ box (says keys image) 0 r = sym (ap (λ (o : Option Rect). unwrap_or o no_box) here) in
      λ i. record { at = r; cover = same i }

some_version : (o : Option Version) → IsSome o → (v : Version) × (o ≡ Some v)
some_version None some = absurd (false≢true some)
some_version (Some v) some = (v, refl)

-- a version whose key the index takes
pub taken_box : (said : Sayings) (version : CellRef) → IsSome (said.version_of version.number) → ((v : Version) → said.version_of version.number ≡ Some v → IsBoxKey v.key) → HasProperBox said version
taken_box said version keyed taken =
    let v = some_version (said.version_of version.number) keyed in
    let key = taken v.0 v.1 in
    record { own = key.own; is = ap (λ (o : Option Version). option_and_then (λ (w : Version). box_of w.key) o) v.1 ∙ key.is; proper = key.proper }

-- a head isn't a node, and neither is free
pub not_head : (image : Image) (n head : ℕ) → HasKind image kind.RtreeNode n → HasKind image kind.IndexHead head → n ≢ head
not_head image n head node index same =
    let kinds = one_kind image kind.RtreeNode kind.IndexHead n node (subst (HasKind image kind.IndexHead) (sym same) index) in
    absurd (omega arith)

pub not_free : (image : Image) (n free : ℕ) → HasKind image kind.RtreeNode n → image free ≡ Some zero_cell → n ≢ free
not_free image n free node blank same =
    let kinds = one_kind image kind.RtreeNode kind.Free n node (zero_cell, ap image same ∙ blank, refl) in
    absurd (omega arith)

pub head_not_free : (image : Image) (head free : ℕ) → HasKind image kind.IndexHead head → image free ≡ Some zero_cell → head ≢ free
head_not_free image head free index blank same =
    let kinds = one_kind image kind.IndexHead kind.Free head index (zero_cell, ap image same ∙ blank, refl) in
    absurd (omega arith)

-- a new root that stands above trees
pub record HasRoot (said : Sayings) (mid after : Work) (head : CellRef) (h : ℕ) (us : List (RTree h)) : Type 0 where
  pub top : CellRef
  pub cover : Rect
  pub leads : reading after head.number ≡ Some (index_head_cell (rooted_head top))
  pub stands : Stands (suc h) (reading after) (record { at = top; cover = cover; below = us })
  pub shape : IsShaped said (suc h) (root_entries h) (record { at = top; cover = cover; below = us })
  pub account : IsAccount mid after (head.number ∷ []) (top.number ∷ []) 2

module _ (said : Sayings) (mid : Work) (head : CellRef) (level h : ℕ) (us : List (RTree h)) (entries : List Entry) (low : level ≡ h) (are : entries ≡ entries_above said h us) (stand : Each (Stands h (reading mid)) us) (shaped : Each (IsShaped said h least_entries) us)
    (enough : root_entries h ≤ length us) (head_kind : HasKind (reading mid) kind.IndexHead head.number) where
  module _ (top : CellRef) (cell other : Cell) where
    abbrev w1 : Work
    w1 = with_cell (with_taken mid top) top cell

    abbrev w2 : Work
    w2 = with_cell (with_cell (with_taken mid top) top cell) head other

  pub has_root : (after : Work) → IsPlanted mid after head level entries → HasRoot said mid after head h us
  has_root after planted = subst (λ (v : Work). HasRoot said mid v head h us) (sym planted.work) rooted
    where
      c1 : Cell
      c1 = cell_of level planted.cover entries

      c2 : Cell
      c2 = index_head_cell (rooted_head planted.top)

      one : Work
      one = with_cell (with_taken mid planted.top) planted.top (cell_of level planted.cover entries)

      two : Work
      two = with_cell (with_cell (with_taken mid planted.top) planted.top (cell_of level planted.cover entries)) head (index_head_cell (rooted_head planted.top))

      blank : reading mid planted.top.number ≡ Some zero_cell
      blank = (left_blank mid planted.top.number planted.lowest.untaken).zero

      away : head.number ≢ planted.top.number
      away = head_not_free (reading mid) head.number planted.top.number head_kind blank

      head_kept : reading (with_cell (with_taken mid planted.top) planted.top (cell_of level planted.cover entries)) head.number ≡ reading mid head.number
      head_kept = (put_reads (with_taken mid planted.top) planted.top (cell_of level planted.cover entries)).elsewhere head.number away

      head_now : HasKind (reading (with_cell (with_taken mid planted.top) planted.top (cell_of level planted.cover entries))) kind.IndexHead head.number
      head_now = (head_kind.0, head_kept ∙ head_kind.1, head_kind.2)

      top_one : reading (with_cell (with_taken mid planted.top) planted.top (cell_of level planted.cover entries)) planted.top.number ≡ Some (cell_of level planted.cover entries)
      top_one = (put_reads (with_taken mid planted.top) planted.top (cell_of level planted.cover entries)).here

      leads : reading (with_cell (with_cell (with_taken mid planted.top) planted.top (cell_of level planted.cover entries)) head (index_head_cell (rooted_head planted.top))) head.number ≡ Some (index_head_cell (rooted_head planted.top))
      leads = (put_reads (with_cell (with_taken mid planted.top) planted.top (cell_of level planted.cover entries)) head (index_head_cell (rooted_head planted.top))).here

      top_two : reading (with_cell (with_cell (with_taken mid planted.top) planted.top (cell_of level planted.cover entries)) head (index_head_cell (rooted_head planted.top))) planted.top.number ≡ Some (cell_of level planted.cover entries)
      top_two = (put_reads (with_cell (with_taken mid planted.top) planted.top (cell_of level planted.cover entries)) head (index_head_cell (rooted_head planted.top))).elsewhere planted.top.number (λ same. away (sym same)) ∙ top_one

      below : (n : ℕ) → IsAmong (cells_below h us) n → reading (with_cell (with_cell (with_taken mid planted.top) planted.top (cell_of level planted.cover entries)) head (index_head_cell (rooted_head planted.top))) n ≡ reading mid n
      below n within =
          let has = nodes_of_all (reading mid) h us n stand within in
          (put_reads (with_cell (with_taken mid planted.top) planted.top (cell_of level planted.cover entries)) head (index_head_cell (rooted_head planted.top))).elsewhere n (not_head (reading mid) n head.number has head_kind)
          ∙ (put_reads (with_taken mid planted.top) planted.top (cell_of level planted.cover entries)).elsewhere n (not_free (reading mid) n planted.top.number has blank)

      rooted : HasRoot said mid (with_cell (with_cell (with_taken mid planted.top) planted.top (cell_of level planted.cover entries)) head (index_head_cell (rooted_head planted.top))) head h us
      rooted = record {
        top = planted.top;
        cover = planted.cover;
        leads = leads;
        stands = written_stands said level h us entries planted.cover low are (reading (with_cell (with_cell (with_taken mid planted.top) planted.top (cell_of level planted.cover entries)) head (index_head_cell (rooted_head planted.top)))) planted.top planted.proper top_two
            (all_stand_still (reading mid) (reading (with_cell (with_cell (with_taken mid planted.top) planted.top (cell_of level planted.cover entries)) head (index_head_cell (rooted_head planted.top)))) h us below stand);
        shape = written_shaped said level h us entries planted.cover low are planted.top (root_entries h) enough planted.covers shaped;
        account = account_then mid (with_cell (with_taken mid planted.top) planted.top (cell_of level planted.cover entries))
            (with_cell (with_cell (with_taken mid planted.top) planted.top (cell_of level planted.cover entries)) head (index_head_cell (rooted_head planted.top)))
            [] (head.number ∷ []) (head.number ∷ []) (planted.top.number ∷ []) [] 1 1
            (account_take mid planted.top (cell_of level planted.cover entries) planted.lowest
            (node_bare (reading (with_cell (with_taken mid planted.top) planted.top (cell_of level planted.cover entries))) planted.top.number (written_kind (reading (with_cell (with_taken mid planted.top) planted.top (cell_of level planted.cover entries))) planted.top.number level planted.cover entries top_one)))
            (account_put (with_cell (with_taken mid planted.top) planted.top (cell_of level planted.cover entries)) head (index_head_cell (rooted_head planted.top))
            (head_spent (with_cell (with_taken mid planted.top) planted.top (cell_of level planted.cover entries)) head.number head_now)
            (head_bare (reading (with_cell (with_taken mid planted.top) planted.top (cell_of level planted.cover entries))) head.number head_now)
            (head_bare (reading (with_cell (with_cell (with_taken mid planted.top) planted.top (cell_of level planted.cover entries)) head (index_head_cell (rooted_head planted.top)))) head.number (index_head_cell (rooted_head planted.top), leads, refl)))
            (λ n none. absurd none) (λ n within. inl within);
      }

-- the first version of a tree
pub put_first : (said : Sayings) (w after : Work) (head version : CellRef) (entry : Entry) → HasProperBox said version → entry ≡ entry_of said 0 version → HasKind (reading w) kind.IndexHead head.number → IsPlanted w after head 0 (entry ∷ []) → IsTreePut said w after version head.number Empty
put_first said w after head version entry boxed entry_is head_kind planted =
    let root = has_root said w head 0 0 (version ∷ []) (entry ∷ []) refl (λ i. entry_is i ∷ []) (tt, tt) (boxed, tt) (omega arith) head_kind after planted in
    record {
      fresh = root.top.number ∷ [];
      now = Rooted 0 (record { at = root.top; cover = root.cover; below = version ∷ [] });
      changed = record {
        leads = root.leads;
        stands = root.stands;
        shape = root.shape;
        places = IsPermutation-refl (root.top.number ∷ []);
        zero = λ n none. absurd none;
        account = account_within w after (head.number ∷ []) (head.number ∷ []) (root.top.number ∷ []) 2 24 root.account (omega arith) (λ n within. within);
      };
      list = IsPermutation-refl (version ∷ []);
      few = omega arith;
    }

-- a put into a tree that has a root
module _ (keys : Meaning) (said : Sayings) (w : Work) (head : CellRef) (at : CellRef) (level : ℕ) (entry : Entry) (h : ℕ) (t : Node (RTree h)) (growing : IsGrowing keys said (reading w) at level entry h t)
    (enough : root_entries h ≤ length t.below) (leads : reading w head.number ≡ Some (index_head_cell (rooted_head t.at))) (mid : Work) (entries : List Entry) (grown : HasGrown said w mid entry.at h t.below entries) where
  own_held : HasKind (reading w) kind.RtreeNode t.at.number
  own_held = all_nodes (reading w) (suc h) t t.at.number growing.keyed.tree.stands (inl refl)

  head_kind : HasKind (reading w) kind.IndexHead head.number
  head_kind = (index_head_cell (rooted_head t.at), leads, refl)

  new_not_node : (n : ℕ) → HasKind (reading w) kind.RtreeNode n → ¬ IsAmong grown.fresh n
  new_not_node n has within = node_spent w n has (grown.account.left n within)

  new_not_head : ¬ IsAmong grown.fresh head.number
  new_not_head within = head_spent w head.number head_kind (grown.account.left head.number within)

  own_same : reading mid t.at.number ≡ reading w t.at.number
  own_same = reads_same w mid (cells_below h t.below) grown.fresh (2 * h) grown.account t.at.number growing.once.0 (new_not_node t.at.number own_held)

  mid_own : HasKind (reading mid) kind.RtreeNode t.at.number
  mid_own = (own_held.0, own_same ∙ own_held.1, own_held.2)

  apart : ¬ IsAmong (cells_below h grown.now) t.at.number
  apart within =
      let some = among_count (cells_below h grown.now) t.at.number within in
      let same = count_same t.at.number (grown.fresh ++ cells_below h t.below) (cells_below h grown.now) grown.places in
      let both = count_append t.at.number grown.fresh (cells_below h t.below) in
      let first = out_count grown.fresh t.at.number (new_not_node t.at.number own_held) in
      let second = out_count (cells_below h t.below) t.at.number growing.once.0 in
      absurd (omega arith)

  -- its node is to be written
  pub root_settles : IsToSettle said mid at level h grown.now entries
  root_settles = record {
    level_is = growing.keyed.tree.level_is;
    low = (let same = growing.keyed.tree.level_is in let low = growing.keyed.tree.stands.0.proper.level in omega arith);
    entries_are = grown.entries_are;
    sound = grown.sound;
    held = subst (λ (r : CellRef). HasKind (reading mid) kind.RtreeNode r.number) growing.keyed.tree.at_is mid_own;
    apart = subst (λ (r : CellRef). ¬ IsAmong (cells_below h grown.now) r.number) growing.keyed.tree.at_is apart;
    some = (let more = grown.no_fewer in let one = growing.some in omega arith);
  }

  -- and then it was
  module _ (last : Work) (tops : List Entry) (settled : AreSettled said mid last at h grown.now [] tops) where
    node_at_is : settled.node.at ≡ t.at
    node_at_is = settled.at_is ∙ sym growing.keyed.tree.at_is

    node_not_head : (n : ℕ) → HasKind (reading w) kind.RtreeNode n → n ≢ head.number
    node_not_head n has = not_head (reading w) n head.number has head_kind

    head_out : ¬ IsAmong (cells_below h t.below) head.number
    head_out within = node_not_head head.number (nodes_of_all (reading w) h t.below head.number growing.keyed.tree.stands.1 within) refl

    head_mid : reading mid head.number ≡ reading w head.number
    head_mid = reads_same w mid (cells_below h t.below) grown.fresh (2 * h) grown.account head.number head_out new_not_head

    head_last : reading last head.number ≡ reading mid head.number
    head_last = reads_same mid last (at.number ∷ []) settled.fresh 2 settled.account head.number
        (λ within. elim within [
          | inl same ↦ node_not_head t.at.number own_held (ap (λ (r : CellRef). r.number) growing.keyed.tree.at_is ∙ same)
          | inr none ↦ none
        ])
        (λ within. head_spent w head.number head_kind ((grown.account.lowest.left head.number).0 (settled.account.left head.number within)).0)

    both_account : IsAccount w last (head.number ∷ (t.at.number ∷ cells_below h t.below)) (grown.fresh ++ settled.fresh) (2 * h + 2)
    both_account = account_then w mid last (cells_below h t.below) (at.number ∷ []) (head.number ∷ (t.at.number ∷ cells_below h t.below)) grown.fresh settled.fresh (2 * h) 2 grown.account settled.account
        (λ n within. inr (inr within))
        (λ n within. elim within [
          | inl same ↦ inl (inr (inl (ap (λ (r : CellRef). r.number) growing.keyed.tree.at_is ∙ same)))
          | inr none ↦ absurd none
        ])

    at_least : root_entries h ≤ length grown.now
    at_least = let more = grown.no_fewer in omega arith

    no_more_than_two : (k : ℕ) → root_entries k ≤ 4
    no_more_than_two zero = omega arith
    no_more_than_two (suc k) = omega arith

    counted : (n : ℕ) → count n ((grown.fresh ++ settled.fresh) ++ (t.at.number ∷ cells_below h t.below)) ≡ count n (cells_below (suc h) (settled.node ∷ settled.others))
    counted n =
        let outer = count_append n (grown.fresh ++ settled.fresh) (t.at.number ∷ cells_below h t.below) in
        let inner = count_append n grown.fresh settled.fresh in
        let own = count_cons n t.at.number (cells_below h t.below) in
        let came = count_same n (grown.fresh ++ cells_below h t.below) (cells_below h grown.now) grown.places in
        let came_parts = count_append n grown.fresh (cells_below h t.below) in
        let written = ap (λ (r : CellRef). count n (r.number ∷ (settled.fresh ++ cells_below h grown.now))) growing.keyed.tree.at_is ∙ count_same n (at.number ∷ (settled.fresh ++ cells_below h grown.now)) (cells_below (suc h) (settled.node ∷ settled.others)) settled.places in
        let written_first = count_cons n t.at.number (settled.fresh ++ cells_below h grown.now) in
        let written_parts = count_append n settled.fresh (cells_below h grown.now) in
        omega arith

    listed_now : (k : ℕ) → listed k (entry.at ∷ versions_below h t.below) ≡ listed k (versions_below (suc h) (settled.node ∷ settled.others))
    listed_now k = listed_same k (entry.at ∷ versions_below h t.below) (versions_below h grown.now) grown.list ∙ listed_same k (versions_below h grown.now) (versions_below (suc h) (settled.node ∷ settled.others)) settled.list

    alone : (us : List (RTree (suc h))) → length us ≤ 0 → us ≡ []
    alone [] few = refl
    alone (u ∷ us) few = absurd (omega arith)

    -- one node is the root, as before
    pub put_kept : length tops ≤ 1 → h ≤ 10 → IsTreePut said w last entry.at head.number (Rooted h t)
    put_kept few low =
        let many = ap (length {A = Entry}) settled.entries ∙ length-map (settled.node ∷ settled.others) (entry_of said (suc h)) in
        let none = alone settled.others (omega arith) in
        let fresh_long = length-append grown.fresh settled.fresh in
        let few_one = grown.few in
        let few_two = settled.few in
        record {
          fresh = grown.fresh ++ settled.fresh;
          now = Rooted h settled.node;
          changed = record {
            leads = head_last ∙ head_mid ∙ leads ∙ ap (λ (r : CellRef). Some (index_head_cell (rooted_head r))) (sym node_at_is);
            stands = settled.stand.0;
            shape = (settled.shaped (root_entries h) at_least (no_more_than_two h)).0;
            places = numbers_permute ((grown.fresh ++ settled.fresh) ++ (t.at.number ∷ cells_below h t.below)) (cells (suc h) settled.node) (λ n.
                let all = counted n in
                let one = ap (λ (us : List (RTree (suc h))). count n (cells_below (suc h) (settled.node ∷ us))) none in
                let end = count_append n (cells (suc h) settled.node) [] in
                omega arith);
            zero = λ n gone. absurd gone;
            account = account_within w last (head.number ∷ (t.at.number ∷ cells_below h t.below)) (head.number ∷ (t.at.number ∷ cells_below h t.below)) (grown.fresh ++ settled.fresh) (2 * h + 2) 24 both_account (omega arith) (λ n within. within);
          };
          list = versions_permute (entry.at ∷ versions_below h t.below) (versions (suc h) settled.node) (λ k.
              let all = listed_now k in
              let one = ap (λ (us : List (RTree (suc h))). listed k (versions_below (suc h) (settled.node ∷ us))) none in
              let end = listed_append k (versions (suc h) settled.node) [] in
              omega arith);
          few = omega arith;
        }

    -- a new root stands above two
    pub put_split : 1 < length tops → h ≤ 10 → (after : Work) → IsPlanted last after head (level + 1) tops → IsTreePut said w after entry.at head.number (Rooted h t)
    put_split more low after planted =
        let many = ap (length {A = Entry}) settled.entries ∙ length-map (settled.node ∷ settled.others) (entry_of said (suc h)) in
        let full = settled.over (omega arith) in
        let level_is = growing.keyed.tree.level_is in
        let root = has_root said last head (level + 1) (suc h) (settled.node ∷ settled.others) tops (omega arith) settled.entries settled.stand (settled.shaped 4 (omega arith) (omega arith)) (omega arith) (head_kind.0, head_last ∙ head_mid ∙ head_kind.1, head_kind.2) after planted in
        let fresh_long = length-append (grown.fresh ++ settled.fresh) (root.top.number ∷ []) in
        let fresh_inner = length-append grown.fresh settled.fresh in
        let few_one = grown.few in
        let few_two = settled.few in
        record {
          fresh = (grown.fresh ++ settled.fresh) ++ root.top.number ∷ [];
          now = Rooted (suc h) (record { at = root.top; cover = root.cover; below = settled.node ∷ settled.others });
          changed = record {
            leads = root.leads;
            stands = root.stands;
            shape = root.shape;
            places = numbers_permute (((grown.fresh ++ settled.fresh) ++ root.top.number ∷ []) ++ (t.at.number ∷ cells_below h t.below)) (root.top.number ∷ cells_below (suc h) (settled.node ∷ settled.others)) (λ n.
                let all = counted n in
                let left = count_append n (grown.fresh ++ settled.fresh) (t.at.number ∷ cells_below h t.below) in
                let outer = count_append n ((grown.fresh ++ settled.fresh) ++ root.top.number ∷ []) (t.at.number ∷ cells_below h t.below) in
                let inner = count_append n (grown.fresh ++ settled.fresh) (root.top.number ∷ []) in
                let single = count_cons n root.top.number [] in
                let first = count_cons n root.top.number (cells_below (suc h) (settled.node ∷ settled.others)) in
                omega arith);
            zero = λ n gone. absurd gone;
            account = account_within w after (head.number ∷ (t.at.number ∷ cells_below h t.below)) (head.number ∷ (t.at.number ∷ cells_below h t.below)) ((grown.fresh ++ settled.fresh) ++ root.top.number ∷ []) (2 * h + 2 + 2) 24
                (account_then w last after (head.number ∷ (t.at.number ∷ cells_below h t.below)) (head.number ∷ []) (head.number ∷ (t.at.number ∷ cells_below h t.below)) (grown.fresh ++ settled.fresh) (root.top.number ∷ []) (2 * h + 2) 2 both_account root.account
                (λ n within. within) (λ n within. elim within [ inl same ↦ inl (inl same) | inr none ↦ absurd none ]))
                (omega arith) (λ n within. within);
          };
          list = versions_permute (entry.at ∷ versions_below h t.below) (versions_below (suc h) (settled.node ∷ settled.others)) listed_now;
          few = omega arith;
        }

    -- what is left to take and to plan for it
    pub split_take : HasLeft w 12 → h ≤ 10 → CanTake last
    split_take left low =
        let few_one = grown.few in
        let few_two = settled.few in
        let long = length-append grown.fresh settled.fresh in
        one_left last (both_account.most.enough 1 (fewer_than w (1 + length (grown.fresh ++ settled.fresh)) 12 (omega arith) left))

    pub split_places : HasPlaces w 24 → h ≤ 10 → HasPlaces last 2
    split_places room low =
        let places = both_account.places in
        let as_before = both_account.goes_on.room in
        omega arith

    pub many_tops : length tops ≤ 2
    many_tops =
        let many = ap (length {A = Entry}) settled.entries ∙ length-map (settled.node ∷ settled.others) (entry_of said (suc h)) in
        let two = settled.two in
        omega arith
