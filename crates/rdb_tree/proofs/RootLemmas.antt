-- A put ends: the tree has grown in its place, or a new root stands above it.
use Rattle.std.proofs.Common.{◌≡◌, ◌≢◌, ◌≤◌, ◌+◌, ◌⊎◌, zero, suc, ℕ, List, [], ◌∷◌, ◌++◌, Some, Bool, inl, inr, refl, sym, ap, subst, ◌∙◌, arith}
use Rattle.std.proofs.lemmas.List.{append-nil}
use Rattle.rdb_pages.specs.declared.cell.Cell.{Cell}
use Rattle.rdb_pages.specs.declared.cell.CellRef.{CellRef}
use Rattle.rdb_pages.specs.Pages.{zero_cell}
use Rattle.rdb_cells.specs.declared.kind.Kind.TheVariants as kind
use Rattle.rdb_cells.specs.HeadFormat.{index_head_cell, rooted_head}
use Rattle.rdb_cells.specs.Images.{Writes}
use Rattle.rdb_cells.specs.Links.{IsAmong}
use Rattle.rdb_cells.specs.Words.{HasKind}
use Rattle.rdb_cells.specs.Work.{Work, reading, IsLeft}
use Rattle.rdb_cells.proofs.LinkLemmas.{among_either, among_front, among_back}
use Rattle.rdb_cells.proofs.PlainLemmas.{one_kind}
use Rattle.rdb_cells.proofs.WorkLemmas.{put_reads, take_work, left_blank}
use Rattle.rdb_tree.specs.Changes.{cell_of, with_cell, with_taken, IsLowest, IsNewRoot}
use Rattle.rdb_tree.specs.Growth.{ComesTo, AddsCells, StaysBeside, IsRaised, IsAccount, IsUnderway, IsSettled, IsTreePut}
use Rattle.rdb_tree.specs.Nature.{most_levels}
use Rattle.rdb_tree.specs.TreeLaws.{still_stands, all_nodes}
use Rattle.rdb_tree.specs.Trees.{BTree, Tree, Empty, Rooted, root_of, levels_of, versions, versions_of, cells, cells_of, Stands, TreeStands, IsBTree}
use Rattle.rdb_tree.specs.declared.insert.Raised.{Raised}
use Rattle.rdb_tree.proofs.AccountLemmas.{account_within, account_split}
use Rattle.rdb_tree.proofs.ClimbLemmas.{node_spent}

-- a list with one more in front, where what comes is last
adds_top : (fresh was now : List ℕ) (top : ℕ) → AddsCells fresh was now → (¬ IsAmong was top) → (¬ IsAmong fresh top) → AddsCells (fresh ++ top ∷ []) was (top ∷ now)
adds_top fresh was now top adds not_was not_fresh = record {
  more = λ n within. elim within [
    | inl same ↦ inr (among_back fresh (top ∷ []) n (inl same))
    | inr inside ↦ elim (adds.more n inside) [
      | inl old ↦ inl old
      | inr new ↦ inr (among_front fresh (top ∷ []) n new)
    ]
  ];
  kept = λ n within. inr (adds.kept n within);
  used = λ n within. used_top n within;
  once = ((λ within. elim (adds.more top within) [ inl old ↦ not_was old | inr new ↦ not_fresh new ]), adds.once);
}
  where
    of_last : (n : ℕ) → IsAmong fresh n ⊎ IsAmong (top ∷ []) n → IsAmong (top ∷ now) n
    of_last n (inl new) = inr (adds.used n new)
    of_last n (inr (inl same)) = inl same
    of_last n (inr (inr none)) = absurd none

    used_top : (n : ℕ) → IsAmong (fresh ++ top ∷ []) n → IsAmong (top ∷ now) n
    used_top n within = of_last n (among_either fresh (top ∷ []) n within)

-- a tree that changes at all: the head is no cell of it, nor a free one
module _ (before : Work) (head : CellRef) (whole : Tree) (leads : reading before head.number ≡ Some (index_head_cell (rooted_head (root_of whole)))) (stands : TreeStands (reading before) whole) where
  head_kind : HasKind (reading before) kind.IndexHead head.number
  head_kind = (index_head_cell (rooted_head (root_of whole)), leads, refl)

  pub head_spent : ¬ IsLeft before head.number
  head_spent left =
      let same = one_kind (reading before) kind.IndexHead kind.Free head.number head_kind (zero_cell, (left_blank before head.number left).zero, refl) in
      absurd (omega arith)

  pub head_apart : ¬ IsAmong (cells_of whole) head.number
  head_apart = of_tree whole stands
    where
      of_tree : (tree : Tree) → TreeStands (reading before) tree → ¬ IsAmong (cells_of tree) head.number
      of_tree Empty stand within = within
      of_tree (Rooted h t) stand within =
          let same = one_kind (reading before) kind.IndexHead kind.TreeNode head.number head_kind (all_nodes (reading before) h t head.number stand within) in
          absurd (omega arith)

  account_head : (after : Work) (fresh : List ℕ) (levels : ℕ) → IsAccount before after (cells_of whole) fresh levels → IsAccount before after (head.number ∷ cells_of whole) fresh levels
  account_head after fresh levels account = record {
    lowest = account.lowest;
    most = account.most;
    left = account.left;
    few = account.few;
    places = account.places;
    says = λ n out new. account.says n (λ within. out (inr within)) new;
    goes_on = account.goes_on;
  }

  module _ (near : CellRef → Bool) (version : CellRef) where
    -- from an account and what became of the tree
    tree_put : (after : Work) (fresh : List ℕ) (now : Tree) → IsAccount before after (head.number ∷ cells_of whole) fresh (most_levels + 1) →
        reading after head.number ≡ Some (index_head_cell (rooted_head (root_of now))) → TreeStands (reading after) now → IsBTree now → ComesTo near version (versions_of whole) (versions_of now) →
        AddsCells fresh (cells_of whole) (cells_of now) → StaysBeside (reading before) (reading after) (head.number ∷ cells_of whole) fresh → IsTreePut before after near version head.number whole
    tree_put after fresh now account leads_now stand shape comes adds elsewhere = record {
      fresh = fresh;
      now = now;
      changed = record {
        leads = leads_now;
        stands = stand;
        shape = shape;
        more = adds.more;
        gone = λ n within. inl (adds.kept n within);
        used = adds.used;
        once = adds.once;
        elsewhere = elsewhere;
        lowest = account.lowest;
        left = account.left;
        says = account.says;
        goes_on = account.goes_on;
      };
      comes = comes;
      most = account.most;
      few = account.few;
      places = account.places;
    }

-- it has grown in its place
pub put_in_place : (before after : Work) (head : CellRef) (near : CellRef → Bool) (version : CellRef) (whole : Tree) → reading before head.number ≡ Some (index_head_cell (rooted_head (root_of whole))) → TreeStands (reading before) whole → IsBTree whole → levels_of whole ≤ most_levels →
    IsSettled before after near version whole → IsTreePut before after near version head.number whole
put_in_place before after head near version Empty leads stands shape levels settled = absurd settled.grown
put_in_place before after head near version (Rooted h t) leads stands shape levels settled =
    let u = settled.grown.0 in
    let grown = settled.grown.1 in
    let account = account_within before after (head.number ∷ cells h t) settled.fresh (suc h) (account_head before head (Rooted h t) leads stands after settled.fresh (suc h) settled.account) (most_levels + 1) (omega arith) in
    tree_put before head (Rooted h t) leads stands near version after settled.fresh (Rooted h u) account
    (grown.elsewhere head.number (head_apart before head (Rooted h t) leads stands) (λ new. head_spent before head (Rooted h t) leads stands (settled.account.left head.number new))
    ∙ leads ∙ ap (λ (r : CellRef). Some (index_head_cell (rooted_head r))) (sym grown.at))
    grown.stands (grown.shape 1 shape) grown.comes grown.adds (λ n out new. grown.elsewhere n (λ within. out (inr within)) new)

-- a new root stands in the lowest cell, and the head leads to it
module _ (before mid : Work) (head : CellRef) (near : CellRef → Bool) (version : CellRef) (whole : Tree) (leads : reading before head.number ≡ Some (index_head_cell (rooted_head (root_of whole)))) (stands : TreeStands (reading before) whole) (levels : levels_of whole ≤ most_levels)
    (fresh : List ℕ) (account : IsAccount before mid (cells_of whole) fresh (levels_of whole)) (top : CellRef) (cell : Cell) (head_cell : Cell) (lowest : IsLowest mid top) where
  abbrev one : Work
  one = with_cell (with_taken mid top) top cell

  abbrev two : Work
  two = with_cell (with_cell (with_taken mid top) top cell) head head_cell

  top_left : IsLeft before top.number × (¬ IsAmong fresh top.number)
  top_left = (account.lowest.left top.number).0 lowest.untaken

  top_apart : ¬ IsAmong (cells_of whole) top.number
  top_apart within = node_spent before near version whole stands top.number within top_left.0

  top_not_head : top.number ≢ head.number
  top_not_head same = head_spent before head whole leads stands (subst (IsLeft before) same top_left.0)

  account_two : IsAccount before two (head.number ∷ cells_of whole) (fresh ++ top.number ∷ []) (most_levels + 1)
  account_two =
      let own = account_head before head whole leads stands mid fresh (levels_of whole) account in
      account_within before two (head.number ∷ cells_of whole) (fresh ++ top.number ∷ []) (suc (levels_of whole))
      (account_split before mid (head.number ∷ cells_of whole) fresh (levels_of whole) own top cell head head_cell lowest (inl refl) (head_spent before head whole leads stands))
      (most_levels + 1) (omega arith)

  first : Writes (reading mid) (reading one) top.number cell
  first = put_reads (take_work mid top) top cell

  second : Writes (reading one) (reading two) head.number head_cell
  second = put_reads one head head_cell

  top_here : reading two top.number ≡ Some cell
  top_here = second.elsewhere top.number top_not_head ∙ first.here

  stays_two : (n : ℕ) → n ≢ top.number → n ≢ head.number → reading two n ≡ reading mid n
  stays_two n not_top not_head = second.elsewhere n not_head ∙ first.elsewhere n not_top

  beside_two : StaysBeside (reading before) (reading mid) (cells_of whole) fresh → StaysBeside (reading before) (reading two) (head.number ∷ cells_of whole) (fresh ++ top.number ∷ [])
  beside_two stays n out new =
      stays_two n (λ same. new (among_back fresh (top.number ∷ []) n (inl (sym same)))) (λ same. out (inl (sym same)))
      ∙ stays n (λ within. out (inr within)) (λ old. new (among_front fresh (top.number ∷ []) n old))

  -- a root with these children
  root_put : (now : Tree) → root_of now ≡ top → head_cell ≡ index_head_cell (rooted_head top) → TreeStands (reading two) now → IsBTree now → ComesTo near version (versions_of whole) (versions_of now) →
      AddsCells (fresh ++ top.number ∷ []) (cells_of whole) (cells_of now) → StaysBeside (reading before) (reading mid) (cells_of whole) fresh → IsTreePut before two near version head.number whole
  root_put now root is stand shape comes adds stays = tree_put before head whole leads stands near version two (fresh ++ top.number ∷ []) now account_two
      (second.here ∙ ap Some is ∙ ap (λ (r : CellRef). Some (index_head_cell (rooted_head r))) (sym root)) stand shape comes adds (beside_two stays)

-- a leaf, where there was none
pub put_alone : (before mid after : Work) (head : CellRef) (near : CellRef → Bool) (version : CellRef) (raised : Raised) → reading before head.number ≡ Some (index_head_cell (rooted_head (root_of Empty))) →
    IsUnderway before mid near version Empty [] raised → IsNewRoot mid after head (raised.key ∷ []) [] → IsTreePut before after near version head.number Empty
put_alone before mid after head near version raised leads under new =
    let untouched = subst (λ (tree : Tree). IsRaised (reading before) (reading mid) near version under.fresh tree raised) (sym under.leads) under.halves in
    let account = subst (λ (tree : Tree). IsAccount before mid [] under.fresh (levels_of tree)) (sym under.leads) under.account in
    let cell = cell_of (raised.key ∷ []) [] in
    let head_cell = index_head_cell (rooted_head new.top) in
    let t : BTree zero = record { at = new.top; keys = raised.key ∷ []; children = [] } in
    let stays : StaysBeside (reading before) (reading mid) [] under.fresh = λ n out fresh. untouched.same n in
    let none : AddsCells under.fresh [] [] = record { more = λ n within. inl within; kept = λ n within. within; used = λ n within. subst (λ (ns : List ℕ). IsAmong ns n) untouched.none within; once = tt } in
    let left = (account.lowest.left new.top.number).0 new.lowest.untaken in
    let comes : ComesTo near version [] (raised.key ∷ []) = record { front = []; back = []; was_is = refl; now_is = ap (λ (k : CellRef). k ∷ []) untouched.key_is; before = tt; behind = tt } in
    subst (λ (w : Work). IsTreePut before w near version head.number Empty) (sym new.work)
    (root_put before mid head near version Empty leads tt (omega arith) under.fresh account new.top cell head_cell new.lowest (Rooted zero t) refl refl
    (top_here before mid head near version Empty leads tt (omega arith) under.fresh account new.top cell head_cell new.lowest)
    (record { enough = omega arith; fit = omega arith }) comes (adds_top under.fresh [] [] new.top.number none (λ within. within) left.1) stays)

-- a root above the halves
pub put_above : (before mid after : Work) (head : CellRef) (near : CellRef → Bool) (version : CellRef) (raised : Raised) (h : ℕ) (t : BTree h) → reading before head.number ≡ Some (index_head_cell (rooted_head t.at)) → Stands h (reading before) t → suc h ≤ most_levels →
    IsUnderway before mid near version (Rooted h t) [] raised → IsNewRoot mid after head (raised.key ∷ []) (t.at ∷ raised.right ∷ []) → IsTreePut before after near version head.number (Rooted h t)
put_above before mid after head near version raised h t leads stands levels under new =
    let halved = subst (λ (tree : Tree). IsRaised (reading before) (reading mid) near version under.fresh tree raised) (sym under.leads) under.halves in
    let account = subst (λ (tree : Tree). IsAccount before mid (cells h t) under.fresh (levels_of tree)) (sym under.leads) under.account in
    let cell = cell_of (raised.key ∷ []) (t.at ∷ raised.right ∷ []) in
    let head_cell = index_head_cell (rooted_head new.top) in
    let u : BTree (suc h) = record { at = new.top; keys = raised.key ∷ []; children = halved.l ∷ halved.r ∷ [] } in
    let left = (account.lowest.left new.top.number).0 new.lowest.untaken in
    let stays = stays_two before mid head near version (Rooted h t) leads stands levels under.fresh account new.top cell head_cell new.lowest in
    let apart : (n : ℕ) → IsAmong (cells h halved.l ++ cells h halved.r) n → reading (two before mid head near version (Rooted h t) leads stands levels under.fresh account new.top cell head_cell new.lowest) n ≡ reading mid n = λ n within. stays n
    (λ same. elim (halved.adds.more n within) [
      | inl old ↦ top_apart before mid head near version (Rooted h t) leads stands levels under.fresh account new.top cell head_cell new.lowest (subst (IsAmong (cells h t)) same old)
      | inr fresh ↦ left.1 (subst (IsAmong under.fresh) same fresh)
    ])
    (λ same. elim (halved.adds.more n within) [
      | inl old ↦ head_apart before head (Rooted h t) leads stands (subst (IsAmong (cells h t)) same old)
      | inr fresh ↦ head_spent before head (Rooted h t) leads stands (subst (IsLeft before) same (account.left n fresh))
    ]) in
    subst (λ (w : Work). IsTreePut before w near version head.number (Rooted h t)) (sym new.work)
    (root_put before mid head near version (Rooted h t) leads stands levels under.fresh account new.top cell head_cell new.lowest (Rooted (suc h) u) refl refl (
      top_here before mid head near version (Rooted h t) leads stands levels under.fresh account new.top cell head_cell new.lowest
          ∙ ap (λ (rs : List CellRef). Some (cell_of (raised.key ∷ []) rs)) (ap (λ (r : CellRef). r ∷ raised.right ∷ []) (sym halved.left_at) ∙ ap (λ (r : CellRef). halved.l.at ∷ r ∷ []) (sym halved.right_at)),
      (
        still_stands (reading mid) (reading (two before mid head near version (Rooted h t) leads stands levels under.fresh account new.top cell head_cell new.lowest)) h halved.l (λ n within. apart n (among_front (cells h halved.l) (cells h halved.r) n within)) halved.left_stands,
        (still_stands (reading mid) (reading (two before mid head near version (Rooted h t) leads stands levels under.fresh account new.top cell head_cell new.lowest)) h halved.r (λ n within. apart n (among_back (cells h halved.l) (cells h halved.r) n within)) halved.right_stands, tt),
      ),
    )
    (record { enough = omega arith; fit = omega arith }, refl, (halved.left_shape, (halved.right_shape, tt)))
    (subst (λ (rs : List CellRef). ComesTo near version (versions h t) (versions h halved.l ++ raised.key ∷ rs)) (sym (append-nil (versions h halved.r))) halved.comes)
    (subst (λ (ns : List ℕ). AddsCells (under.fresh ++ new.top.number ∷ []) (cells h t) (new.top.number ∷ (cells h halved.l ++ ns))) (sym (append-nil (cells h halved.r)))
    (adds_top under.fresh (cells h t) (cells h halved.l ++ cells h halved.r) new.top.number halved.adds (λ within. top_apart before mid head near version (Rooted h t) leads stands levels under.fresh account new.top cell head_cell new.lowest within) left.1))
    halved.elsewhere)
