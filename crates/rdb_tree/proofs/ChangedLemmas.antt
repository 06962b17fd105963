-- The tree of an index has become another one: what an index owes of a change.
use Rattle.std.proofs.Common.{◌≡◌, ◌⊎◌, ℕ, List, ◌∷◌, Some, inl, inr, refl, sym, subst, arith}
use Rattle.rdb_pages.specs.declared.cell.CellRef.{CellRef}
use Rattle.rdb_pages.specs.Pages.{zero_cell}
use Rattle.rdb_cells.specs.declared.kind.Kind.TheVariants as kind
use Rattle.rdb_cells.specs.HeadFormat.{index_head_cell, rooted_head}
use Rattle.rdb_cells.specs.Images.{Image}
use Rattle.rdb_cells.specs.Index.{KeepsAccount, Lists, IsOwn}
use Rattle.rdb_cells.specs.Keys.{Meaning, says, SameVersionCells, HasNoVersionCell, RestsOnVersions, ListsVersions}
use Rattle.rdb_cells.specs.Links.{IsAmong}
use Rattle.rdb_cells.specs.Records.{content}
use Rattle.rdb_cells.specs.Words.{HasKind}
use Rattle.rdb_cells.specs.Work.{Work, reading, IsBlank, IsLeft}
use Rattle.rdb_cells.proofs.IndexLemmas.{says_again}
use Rattle.rdb_cells.proofs.LinkLemmas.{among_or_not}
use Rattle.rdb_cells.proofs.PlainLemmas.{one_kind}
use Rattle.rdb_cells.proofs.VersionCellLemmas.{no_version, others_written}
use Rattle.rdb_cells.proofs.WorkLemmas.{left_blank, lowest_of}
use Rattle.rdb_tree.specs.Growth.{IsTreeChanged}
use Rattle.rdb_tree.specs.Nature.{IsTree, tree_nature}
use Rattle.rdb_tree.specs.Order.{AreAscending}
use Rattle.rdb_tree.specs.TreeLaws.{all_nodes, tree_rests_on_nodes}
use Rattle.rdb_tree.specs.Trees.{Tree, Empty, Rooted, root_of, versions_of, cells_of, TreeStands}

-- each cell of a tree is a node
tree_node : (image : Image) (tree : Tree) (n : ℕ) → TreeStands image tree → IsAmong (cells_of tree) n → HasKind image kind.TreeNode n
tree_node image Empty n stands within = absurd within
tree_node image (Rooted h t) n stands within = all_nodes image h t n stands within

node_bare : (image : Image) (n : ℕ) → HasKind image kind.TreeNode n → HasNoVersionCell image n
node_bare image n has = no_version image kind.TreeNode n has (λ same. absurd (omega arith)) (λ same. absurd (omega arith))

head_bare : (image : Image) (n : ℕ) → HasKind image kind.IndexHead n → HasNoVersionCell image n
head_bare image n has = no_version image kind.IndexHead n has (λ same. absurd (omega arith)) (λ same. absurd (omega arith))

zero_bare : (image : Image) (n : ℕ) → image n ≡ Some zero_cell → HasNoVersionCell image n
zero_bare image n blank = no_version image kind.Free n (zero_cell, blank, refl) (λ same. absurd (omega arith)) (λ same. absurd (omega arith))

module _ (class head : ℕ) (keys : Meaning) (before after : Work) (listed : List CellRef) (nodes : List ℕ) (is : IsTree head (says keys (reading before)) (reading before) listed nodes) (fresh : List ℕ) (now : Tree) (changed : IsTreeChanged before after head fresh is.tree now) where
  head_was : HasKind (reading before) kind.IndexHead head
  head_was = (index_head_cell (rooted_head (root_of is.tree)), is.leads, refl)

  head_now : HasKind (reading after) kind.IndexHead head
  head_now = (index_head_cell (rooted_head (root_of now)), changed.leads, refl)

  was_node : (n : ℕ) → IsAmong nodes n → IsAmong (cells_of is.tree) n
  was_node n within = subst (λ (ns : List ℕ). IsAmong ns n) is.nodes_are within

  node_was : (n : ℕ) → IsAmong (cells_of is.tree) n → IsAmong nodes n
  node_was n within = subst (λ (ns : List ℕ). IsAmong ns n) (sym is.nodes_are) within

  node_not_left : (n : ℕ) → IsAmong (cells_of is.tree) n → ¬ IsLeft before n
  node_not_left n within left =
      let same = one_kind (reading before) kind.TreeNode kind.Free n (tree_node (reading before) is.tree n is.stands within) (zero_cell, (left_blank before n left).zero, refl) in
      absurd (omega arith)

  -- every cell is the head, a node now, one that went, or reads as before
  bare_or_same : (n : ℕ) → (reading after n ≡ reading before n) ⊎ (HasNoVersionCell (reading before) n × HasNoVersionCell (reading after) n)
  bare_or_same n = elim (among_or_not (head ∷ cells_of is.tree) n) [
    | inl own ↦ inr (of_own own)
    | inr out ↦ elim (among_or_not fresh n) [
      | inl new ↦ inr (zero_bare (reading before) n (left_blank before n (changed.left n new)).zero, node_bare (reading after) n (tree_node (reading after) now n changed.stands (changed.used n new)))
      | inr other ↦ inl (changed.elsewhere n out other)
    ]
  ]
    where
      of_own : IsAmong (head ∷ cells_of is.tree) n → HasNoVersionCell (reading before) n × HasNoVersionCell (reading after) n
      of_own (inl same) = (
        subst (HasNoVersionCell (reading before)) same (head_bare (reading before) head head_was),
        subst (HasNoVersionCell (reading after)) same (head_bare (reading after) head head_now),
      )
      of_own (inr within) = (
        node_bare (reading before) n (tree_node (reading before) is.tree n is.stands within),
        elim (changed.gone n within) [
          | inl still ↦ node_bare (reading after) n (tree_node (reading after) now n changed.stands still)
          | inr gone ↦ zero_bare (reading after) n gone
        ],
      )

  -- the cells of rows and headers stay
  pub version_cells : SameVersionCells (reading before) (reading after)
  version_cells = others_written (reading before) (reading after) bare_or_same

  -- the plan says of other cells what it said
  pub own_alone : (n : ℕ) → (content after.pairs n ≡ content before.pairs n) ⊎ IsOwn (tree_nature class head) nodes before n
  own_alone n = elim (among_or_not (head ∷ cells_of is.tree) n) [
    | inl own ↦ inr (elim own [ inl same ↦ inl (sym same) | inr within ↦ inr (inl (node_was n within)) ])
    | inr out ↦ elim (among_or_not fresh n) [
      | inl new ↦ inr (inr (inr (changed.left n new)))
      | inr other ↦ inl (changed.says n out other)
    ]
  ]

  blank_not_head : (n : ℕ) → IsBlank before n → ¬ IsAmong (head ∷ cells_of is.tree) n
  blank_not_head n blank (inl same) =
      let kinds = one_kind (reading before) kind.IndexHead kind.Free n (subst (HasKind (reading before) kind.IndexHead) same head_was) (zero_cell, blank.zero, refl) in
      absurd (omega arith)
  blank_not_head n blank (inr within) =
      let kinds = one_kind (reading before) kind.TreeNode kind.Free n (tree_node (reading before) is.tree n is.stands within) (zero_cell, blank.zero, refl) in
      absurd (omega arith)

  pub account : KeepsAccount before after nodes (cells_of now)
  account = record {
    come = λ n within. elim (changed.more n within) [
      | inl old ↦ inl (node_was n old)
      | inr new ↦ inr (changed.left n new)
    ];
    takes = lowest_of before after fresh (cells_of now) (λ n left. (
      changed.used n,
      λ within. elim (changed.more n within) [
        | inl old ↦ absurd (node_not_left n old left)
        | inr new ↦ new
      ],
    )) changed.lowest;
    gone = λ n within. changed.gone n (was_node n within);
    filled = λ n blank. elim (among_or_not fresh n) [
      | inl new ↦ inl (changed.used n new)
      | inr other ↦ inr (changed.elsewhere n (blank_not_head n blank) other)
    ];
  }

  -- the index lists the versions of the tree now
  pub lists_now : RestsOnVersions keys → ListsVersions (says keys (reading before)) (versions_of now) → AreAscending (says keys (reading before)) (versions_of now) → Lists (tree_nature class head) keys (reading after) (versions_of now) (cells_of now)
  lists_now rests listing ascending =
      let stood : IsTree head (says keys (reading before)) (reading after) (versions_of now) (cells_of now) = record {
        tree = now;
        leads = changed.leads;
        stands = changed.stands;
        shape = changed.shape;
        listed_is = refl;
        nodes_are = refl;
        once = changed.once;
        paged = λ n within. elim (changed.more n within) [
          | inl old ↦ is.paged n (node_was n old)
          | inr new ↦ (changed.left n new).free.page
        ];
        listing = listing;
        ascending = ascending;
      } in
      tree_rests_on_nodes class head (says keys (reading before)) (reading after) (versions_of now) (cells_of now) stood (says keys (reading after)) (reading after)
      (says_again keys (reading before) (reading after) rests version_cells (versions_of now)) (λ n within. refl)
