-- The tree of an index has become another one: what an index owes of a change.
use Rattle.std.proofs.Common.{◌≡◌, ◌≤◌, ◌+◌, ◌⊎◌, suc, ℕ, List, [], ◌∷◌, ◌++◌, Some, inl, inr, refl, sym, subst, arith}
use Rattle.std.proofs.lemmas.List.Sorted.{IsPermutation-sym}
use Rattle.std.specs.Prelude.{IsPermutation}
use Rattle.rdb_pages.specs.declared.cell.CellRef.{CellRef}
use Rattle.rdb_pages.specs.Pages.{zero_cell}
use Rattle.rdb_cells.specs.declared.kind.Kind.TheVariants as kind
use Rattle.rdb_cells.specs.HeadFormat.{index_head_cell, rooted_head}
use Rattle.rdb_cells.specs.Images.{Image}
use Rattle.rdb_cells.specs.Index.{KeepsAccount, Lists, ListsAnew, IsOwn}
use Rattle.rdb_cells.specs.Keys.{Meaning, says, IsUnlisted, RestsOnVersions, ListsVersions}
use Rattle.rdb_cells.specs.Links.{IsAmong, AreOf, AreOnce}
use Rattle.rdb_cells.specs.Records.{content}
use Rattle.rdb_cells.specs.Words.{HasKind}
use Rattle.rdb_cells.specs.Work.{Work, reading, IsBlank, TakesAtMost, TakesNone, TakesLowest}
use Rattle.rdb_cells.proofs.IndexLemmas.{says_again, fewer_than}
use Rattle.rdb_cells.proofs.LinkLemmas.{among_or_not}
use Rattle.rdb_cells.proofs.ListedLemmas.{lists_more, lists_less, lists_in_order}
use Rattle.rdb_cells.proofs.PlainLemmas.{one_kind}
use Rattle.rdb_cells.proofs.WorkLemmas.{lowest_of}
use Rattle.rdb_rtree.specs.Changes.{IsTreeChanged, IsTreePut, IsTreeRemoved}
use Rattle.rdb_rtree.specs.Nature.{IsRtreeIndex, rtree_nature}
use Rattle.rdb_rtree.specs.RtreeLaws.{all_nodes, rtree_rests_on_nodes}
use Rattle.rdb_rtree.specs.Trees.{Tree, Empty, Rooted, root_of, versions_of, cells_of, TreeStands}
use Rattle.rdb_rtree.proofs.AccountLemmas.{node_spent, reads_same}
use Rattle.rdb_rtree.proofs.CountLemmas.{count, count_append, count_same, out_count, among_count, count_among, once_count, count_once}

-- each cell of a tree is a node
tree_node : (image : Image) (tree : Tree) (n : ℕ) → TreeStands image tree → IsAmong (cells_of tree) n → HasKind image kind.RtreeNode n
tree_node image Empty n stands within = absurd within
tree_node image (Rooted h t) n stands within = all_nodes image (suc h) t n stands within

pub takes_more : (before after : Work) (few many : ℕ) → few ≤ many → TakesAtMost few before after → TakesAtMost many before after
takes_more before after few many within takes = record {
  enough = λ n has. takes.enough n (fewer_than before (n + few) (n + many) (omega arith) has);
  no_more = takes.no_more;
}

-- who took no cell can take the same
pub takes_nothing : (before after : Work) → TakesLowest before after [] → TakesNone before after
takes_nothing before after lowest n = (λ left. ((lowest.left n).0 left).0, λ left. (lowest.left n).1 (left, λ none. none))

module _ (class head : ℕ) (keys : Meaning) (before after : Work) (listed : List CellRef) (nodes : List ℕ) (is : IsRtreeIndex head (says keys (reading before)) (reading before) listed nodes) (fresh gone : List ℕ) (places : ℕ) (now : Tree) (changed : IsTreeChanged (says keys (reading before)) before after head fresh gone places is.tree now)
    (either : (fresh ≡ []) ⊎ (gone ≡ [])) where
  head_was : HasKind (reading before) kind.IndexHead head
  head_was = (index_head_cell (rooted_head (root_of is.tree)), is.leads, refl)

  was_node : (n : ℕ) → IsAmong nodes n → IsAmong (cells_of is.tree) n
  was_node n within = subst (λ (ns : List ℕ). IsAmong ns n) is.nodes_are within

  node_was : (n : ℕ) → IsAmong (cells_of is.tree) n → IsAmong nodes n
  node_was n within = subst (λ (ns : List ℕ). IsAmong ns n) (sym is.nodes_are) within

  counts : (n : ℕ) → count n fresh + count n (cells_of is.tree) ≡ count n gone + count n (cells_of now)
  counts n =
      let same = count_same n (fresh ++ cells_of is.tree) (gone ++ cells_of now) changed.places in
      let first = count_append n fresh (cells_of is.tree) in
      let second = count_append n gone (cells_of now) in
      omega arith

  node_not_fresh : (n : ℕ) → IsAmong (cells_of is.tree) n → ¬ IsAmong fresh n
  node_not_fresh n within new = node_spent before n (tree_node (reading before) is.tree n is.stands within) (changed.account.left n new)

  -- what came, what went, and that each is there once
  more : (n : ℕ) → IsAmong (cells_of now) n → IsAmong (cells_of is.tree) n ⊎ IsAmong fresh n
  more n within = elim (among_or_not fresh n) [
    | inl new ↦ inr new
    | inr old ↦ inl (
        let none = out_count fresh n old in
        let some = among_count (cells_of now) n within in
        let all = counts n in
        count_among (cells_of is.tree) n (omega arith))
  ]

  went : (n : ℕ) → IsAmong (cells_of is.tree) n → IsAmong (cells_of now) n ⊎ (reading after n ≡ Some zero_cell)
  went n within = elim (among_or_not gone n) [
    | inl lost ↦ inr (changed.zero n lost)
    | inr kept ↦ inl (
        let none = out_count gone n kept in
        let some = among_count (cells_of is.tree) n within in
        let all = counts n in
        count_among (cells_of now) n (omega arith))
  ]

  once : AreOnce (cells_of now)
  once = count_once (cells_of now) (λ n.
      let all = counts n in
      let was = once_count (cells_of is.tree) n (subst AreOnce is.nodes_are is.once) in
      let new = once_count fresh n changed.account.once in
      elim (among_or_not fresh n) [
        | inl within ↦ (
            let apart = out_count (cells_of is.tree) n (λ own. node_not_fresh n own within) in
            omega arith)
        | inr without ↦ (let none = out_count fresh n without in omega arith)
      ])

  used : (n : ℕ) → IsAmong fresh n → IsAmong (cells_of now) n
  used n new = elim (among_or_not gone n) [
    | inl lost ↦ absurd (fresh_stays n new lost)
    | inr kept ↦ (
        let none = out_count gone n kept in
        let some = among_count fresh n new in
        let all = counts n in
        count_among (cells_of now) n (omega arith))
  ]
    where
      fresh_stays : (m : ℕ) → IsAmong fresh m → IsAmong gone m → ⊥
      fresh_stays m new lost = elim either [
        | inl none ↦ subst (λ (ns : List ℕ). IsAmong ns m) none new
        | inr none ↦ subst (λ (ns : List ℕ). IsAmong ns m) none lost
      ]

  -- the plan says of other cells what it said
  pub own_alone : (n : ℕ) → (content after.pairs n ≡ content before.pairs n) ⊎ IsOwn (rtree_nature class head) nodes before n
  own_alone n = elim (among_or_not (head ∷ cells_of is.tree) n) [
    | inl own ↦ inr (elim own [ inl same ↦ inl (sym same) | inr within ↦ inr (inl (node_was n within)) ])
    | inr out ↦ elim (among_or_not fresh n) [
      | inl new ↦ inr (inr (inr (changed.account.left n new)))
      | inr other ↦ inl (changed.account.says n out other)
    ]
  ]

  blank_not_head : (n : ℕ) → IsBlank before n → ¬ IsAmong (head ∷ cells_of is.tree) n
  blank_not_head n blank (inl same) =
      let kinds = one_kind (reading before) kind.IndexHead kind.Free n (subst (HasKind (reading before) kind.IndexHead) same head_was) (zero_cell, blank.zero, refl) in
      absurd (omega arith)
  blank_not_head n blank (inr within) =
      let kinds = one_kind (reading before) kind.RtreeNode kind.Free n (tree_node (reading before) is.tree n is.stands within) (zero_cell, blank.zero, refl) in
      absurd (omega arith)

  account : KeepsAccount before after nodes (cells_of now)
  account = record {
    come = λ n within. elim (more n within) [
      | inl old ↦ inl (node_was n old)
      | inr new ↦ inr (changed.account.left n new)
    ];
    takes = lowest_of before after fresh (cells_of now) (λ n left. (
      used n,
      λ within. elim (more n within) [
        | inl old ↦ absurd (node_spent before n (tree_node (reading before) is.tree n is.stands old) left)
        | inr new ↦ new
      ],
    )) changed.account.lowest;
    gone = λ n within. went n (was_node n within);
    filled = λ n blank. elim (among_or_not fresh n) [
      | inl new ↦ inl (used n new)
      | inr other ↦ inr (reads_same before after (head ∷ cells_of is.tree) fresh places changed.account n (blank_not_head n blank) other)
    ];
  }

  -- the index lists the versions of the tree now
  lists_now : RestsOnVersions keys → ListsVersions (says keys (reading before)) (versions_of now) → Lists (rtree_nature class head) keys (reading after) (versions_of now) (cells_of now)
  lists_now rests listing =
      let stood : IsRtreeIndex head (says keys (reading before)) (reading after) (versions_of now) (cells_of now) = record {
        tree = now;
        leads = changed.leads;
        stands = changed.stands;
        shape = changed.shape;
        listed_is = refl;
        nodes_are = refl;
        once = once;
        paged = λ n within. elim (more n within) [
          | inl old ↦ is.paged n (node_was n old)
          | inr new ↦ (changed.account.left n new).free.page
        ];
        listing = listing;
      } in
      rtree_rests_on_nodes class head (says keys (reading before)) (reading after) (versions_of now) (cells_of now) stood (says keys (reading after)) (reading after)
      (says_again keys (reading before) (reading after) rests changed.account.versions (versions_of now)) (λ n within. refl)

  pub stands_now : RestsOnVersions keys → ListsVersions (says keys (reading before)) (versions_of now) → Lists (rtree_nature class head) keys (reading after) (versions_of now) (cells_of now)
  stands_now rests listing = lists_now rests listing

  pub keeps : KeepsAccount before after nodes (cells_of now)
  keeps = account

  -- no node came that was neither there before nor taken
  pub no_more : fresh ≡ [] → AreOf nodes (cells_of now)
  no_more none n within = elim (more n within) [
    | inl old ↦ node_was n old
    | inr new ↦ absurd (subst (λ (ns : List ℕ). IsAmong ns n) none new)
  ]

-- a put into the tree meets what an index owes
module _ (class head : ℕ) (keys : Meaning) (before after : Work) (version : CellRef) (listed : List CellRef) (nodes : List ℕ) (is : IsRtreeIndex head (says keys (reading before)) (reading before) listed nodes) (put : IsTreePut (says keys (reading before)) before after version head is.tree) where
  pub puts : IsUnlisted (says keys (reading before)) listed version → RestsOnVersions keys → (now : ListsAnew (rtree_nature class head) keys before after nodes) × IsPermutation (version ∷ listed) now.listed
  puts unlisted rests =
      let order = subst (λ (rs : List CellRef). IsPermutation (version ∷ rs) (versions_of put.now)) (sym is.listed_is) put.list in (
        record {
          listed = versions_of put.now;
          now_nodes = cells_of put.now;
          lists = stands_now class head keys before after listed nodes is put.fresh [] 24 put.now put.changed (inr refl) rests
              (lists_in_order (says keys (reading before)) (version ∷ listed) (versions_of put.now) order (lists_more (says keys (reading before)) listed version unlisted is.listing));
          account = keeps class head keys before after listed nodes is put.fresh [] 24 put.now put.changed (inr refl);
        },
        order,
      )

-- and so does a removal
module _ (class head : ℕ) (keys : Meaning) (before after : Work) (version : CellRef) (listed : List CellRef) (nodes : List ℕ) (is : IsRtreeIndex head (says keys (reading before)) (reading before) listed nodes) (removed : IsTreeRemoved (says keys (reading before)) before after version head is.tree) where
  pub removes : RestsOnVersions keys → (now : ListsAnew (rtree_nature class head) keys before after nodes) × IsPermutation (version ∷ now.listed) listed × AreOf nodes now.now_nodes
  removes rests =
      let order = subst (λ (rs : List CellRef). IsPermutation (version ∷ versions_of removed.now) rs) (sym is.listed_is) removed.list in (
        record {
          listed = versions_of removed.now;
          now_nodes = cells_of removed.now;
          lists = stands_now class head keys before after listed nodes is [] removed.gone 24 removed.now removed.changed (inl refl) rests
              (lists_less (says keys (reading before)) (versions_of removed.now) version
              (lists_in_order (says keys (reading before)) listed (version ∷ versions_of removed.now) (IsPermutation-sym (version ∷ versions_of removed.now) listed order) is.listing));
          account = keeps class head keys before after listed nodes is [] removed.gone 24 removed.now removed.changed (inl refl);
        },
        order,
        no_more class head keys before after listed nodes is [] removed.gone 24 removed.now removed.changed (inl refl) refl,
      )
