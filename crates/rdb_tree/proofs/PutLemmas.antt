-- A put into the tree of an index: its way down, and what the climb and a new root come to.
use Rattle.std.proofs.Common.{◌≡◌, ◌≢◌, ◌≤◌, ◌+◌, ℕ, List, [], ◌∷◌, ◌++◌, length, Some, IsSome, Bool, refl, sym, ap, subst, ◌∙◌, arith}
use Rattle.rdb_pages.specs.declared.cell.CellRef.{CellRef}
use Rattle.rdb_cells.specs.HeadFormat.{index_head_cell, rooted_head}
use Rattle.rdb_cells.specs.Keys.{Sayings}
use Rattle.rdb_cells.specs.Links.{AreOnce}
use Rattle.rdb_cells.specs.Parts.{tree_part}
use Rattle.rdb_cells.specs.Work.{Work, reading, HasLeft}
use Rattle.rdb_cells.proofs.IndexLemmas.{fewer_than}
use Rattle.rdb_cells.proofs.WorkLemmas.{one_left}
use Rattle.rdb_tree.specs.Changes.{CanTake, HasPlaces, IsNewRoot}
use Rattle.rdb_tree.specs.Growth.{IsWayDown, IsUnderway, IsSettled, IsTreePut}
use Rattle.rdb_tree.specs.Nature.{IsTree, IsSound, IsRootedAt, most_levels}
use Rattle.rdb_tree.specs.Order.{AreAscending, is_before}
use Rattle.rdb_tree.specs.Trees.{Tree, Empty, Rooted, root_of, levels_of, versions_of}
use Rattle.rdb_tree.specs.Ways.{Leads, GoesOnTo}
use Rattle.rdb_tree.specs.declared.insert.Raised.{Raised}
use Rattle.rdb_tree.specs.declared.path.Step.{Step}
use Rattle.rdb_tree.proofs.LevelLemmas.{tree_rooted}
use Rattle.rdb_tree.proofs.NodeLemmas.{own_cell}
use Rattle.rdb_tree.proofs.RootLemmas.{put_in_place, put_alone, put_above}
use Rattle.rdb_tree.proofs.VersionLemmas.{some_version, version_cuts}

-- what is left to take and to plan at the root
module _ (before mid : Work) (near : CellRef → Bool) (version : CellRef) (whole : Tree) (raised : Raised) (levels : levels_of whole ≤ most_levels) (under : IsUnderway before mid near version whole [] raised) where
  at_most : levels_of under.rest ≤ 11
  at_most = let same = ap levels_of under.leads in omega arith

  pub root_free : HasLeft before tree_part → CanTake mid
  root_free left =
      let few = under.account.few in
      let low = at_most in
      one_left mid (under.account.most.enough 1 (fewer_than before (1 + length under.fresh) 12 (omega arith) left))

  pub root_places : HasPlaces before 24 → HasPlaces mid 2
  root_places room =
      let places = under.account.places in
      let low = at_most in
      let same = under.account.goes_on.room in
      omega arith

module _ (before : Work) (head : CellRef) (said : Sayings) (version : CellRef) (listed : List CellRef) (nodes : List ℕ) (is : IsTree head.number said (reading before) listed nodes) (root : CellRef) (root_is : root_of is.tree ≡ root) where
  rooted : IsRootedAt said (reading before) root is.tree
  rooted = tree_rooted head.number said (reading before) listed nodes is root root_is

  abbrev near : CellRef → Bool
  near = is_before said version

  pub tree_levels : levels_of is.tree ≤ most_levels
  tree_levels = rooted.levels

  pub way_down : IsSome (said.version_of version.number) → (path now : List Step) → path ≡ [] → GoesOnTo near path now is.tree Empty → IsWayDown (reading before) near is.tree now
  way_down keyed path now none goes =
      let x = some_version (said.version_of version.number) keyed in
      record {
        stands = is.stands;
        shape = is.shape;
        once = subst AreOnce is.nodes_are is.once;
        cut = version_cuts said version x.0 x.1 (versions_of is.tree) (subst (AreAscending said) is.listed_is is.ascending);
        levels = rooted.levels;
        leads = subst (λ (steps : List Step). Leads near is.tree steps Empty) (sym (goes.path ∙ ap (λ (steps : List Step). steps ++ goes.steps) none)) goes.leads;
      }

  pub ends_in_place : (after : Work) → IsSettled before after near version is.tree → IsTreePut before after near version head.number is.tree
  ends_in_place after settled = put_in_place before after head near version is.tree is.leads is.stands is.shape rooted.levels settled

  module _ (mid after : Work) (raised : Raised) where
    alone : (tree : Tree) → IsSound said (reading before) tree → reading before head.number ≡ Some (index_head_cell (rooted_head (root_of tree))) → (root_of tree).number ≡ 0 → IsUnderway before mid near version tree [] raised → IsNewRoot mid after head (raised.key ∷ []) [] → IsTreePut before after near version head.number tree
    alone Empty sound leads none under new = put_alone before mid after head near version raised leads under new
    alone (Rooted h t) sound leads none under new = absurd (let page = (sound.paged t.at.number (own_cell h t)).0 in omega arith)

    pub ends_alone : root.number ≡ 0 → IsUnderway before mid near version is.tree [] raised → IsNewRoot mid after head (raised.key ∷ []) [] → IsTreePut before after near version head.number is.tree
    ends_alone none under new = alone is.tree rooted.sound is.leads (ap (λ (r : CellRef). r.number) root_is ∙ none) under new

    above : (tree : Tree) → IsSound said (reading before) tree → reading before head.number ≡ Some (index_head_cell (rooted_head (root_of tree))) → (root_of tree).number ≢ 0 → levels_of tree ≤ most_levels → IsUnderway before mid near version tree [] raised → IsNewRoot mid after head (raised.key ∷ []) (root_of tree ∷ raised.right ∷ []) → IsTreePut before after near version head.number tree
    above Empty sound leads some levels under new = absurd (some refl)
    above (Rooted h t) sound leads some levels under new = put_above before mid after head near version raised h t leads sound.stands levels under new

    pub ends_above : root.number ≢ 0 → IsUnderway before mid near version is.tree [] raised → IsNewRoot mid after head (raised.key ∷ []) (root ∷ raised.right ∷ []) → IsTreePut before after near version head.number is.tree
    ends_above some under new = above is.tree rooted.sound is.leads (λ none. some (ap (λ (r : CellRef). r.number) (sym root_is) ∙ none)) rooted.levels under
        (subst (λ (r : CellRef). IsNewRoot mid after head (raised.key ∷ []) (r ∷ raised.right ∷ [])) (sym root_is) new)
