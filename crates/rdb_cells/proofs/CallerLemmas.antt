-- What a caller of two indexes knows after each change.
use Rattle.std.proofs.Common.{◌≡◌, ℕ, List, ◌∷◌, refl, zero-lt-suc}
use Rattle.std.proofs.lemmas.List.Sorted.{IsPermutation-trans, IsPermutation-sym, Contains-permutation}
use Rattle.std.specs.Prelude.{IsPermutation, Contains}
use Rattle.rdb_pages.specs.declared.cell.CellRef.{CellRef}
use Rattle.rdb_cells.specs.Images.{Image}
use Rattle.rdb_cells.specs.Index.{LacksVersion, HasVersion, Puts, Removes, PlansOnlyOwn, ListsAnew, IsListing, IsStanding, HasIndexCells, RestsOnNodes}
use Rattle.rdb_cells.specs.IndexCaller.{Keyed, Listed, StandApart, NeitherLists, CameToSecond}
use Rattle.rdb_cells.specs.Keys.{says, SameVersionCells, RestsOnVersions, IsUnlisted}
use Rattle.rdb_cells.specs.Links.{AreOf}
use Rattle.rdb_cells.specs.Work.{Work, reading}
use Rattle.rdb_cells.proofs.IndexLemmas.{other_lists, still_disjoint, disjoint_back, unlisted_again, taken_again}

-- what a change of an index says of other cells
pub record Change (one : Keyed) (before after : Work) : Type 0 where
  pub own : PlansOnlyOwn one.index one.keys before after
  pub versions : SameVersionCells (reading before) (reading after)
  pub below : after.below ≡ before.below

-- the laws of an index and its keys
pub record Laws (one : Keyed) : Type 0 where
  pub rests : RestsOnVersions one.keys
  pub cells : HasIndexCells one.index
  pub frame : RestsOnNodes one.index

contains_first : (x : CellRef) (xs : List CellRef) → Contains (x ∷ xs) x
contains_first x xs = (0, zero-lt-suc _, refl)

-- the first in other nodes with other versions
abbrev with_first : Listed → List CellRef → List ℕ → Listed
with_first l listed nodes = record l { first = listed; first_nodes = nodes }

abbrev turned : Listed → Listed
turned l = record { first = l.second; first_nodes = l.second_nodes; second = l.first; second_nodes = l.first_nodes }

turn : (one two : Keyed) (image : Image) (l : Listed) → StandApart one two image l → StandApart two one image (turned l)
turn one two image l stand = record {
  first_lists = stand.second_lists;
  second_lists = stand.first_lists;
  apart = disjoint_back (one.index.head ∷ l.first_nodes) (two.index.head ∷ l.second_nodes) stand.apart;
}

-- a change of the first leaves the second, and the two apart
changed : (one two : Keyed) (laws : Laws two) (before after : Work) (change : Change one before after) (l : Listed) (now : ListsAnew one.index one.keys before after l.first_nodes) → StandApart one two (reading before) l → StandApart one two (reading after) (with_first l now.listed now.now_nodes)
changed one two laws before after change l now stand = record {
  first_lists = now.lists;
  second_lists = other_lists one.index two.index one.keys two.keys before after l.first_nodes now.now_nodes l.second_nodes l.second (change.own l.first l.first_nodes stand.first_lists) now.account change.versions change.below laws.rests laws.cells laws.frame stand.second_lists stand.apart;
  apart = still_disjoint one.index two.index one.keys two.keys before after l.first_nodes now.now_nodes l.second_nodes l.second (change.own l.first l.first_nodes stand.first_lists) now.account change.versions change.below laws.rests laws.cells laws.frame stand.second_lists stand.apart;
}

-- what a put says beside
pub record PutIn (one : Keyed) (before after : Work) (version : CellRef) : Type 0 where
  pub change : Change one before after
  pub puts : Puts one.index one.keys before after version

pub record TakenFrom (one : Keyed) (before after : Work) (version : CellRef) : Type 0 where
  pub change : Change one before after
  pub removes : Removes one.index one.keys before after version

module _ (one two : Keyed) (first_laws : Laws one) (second_laws : Laws two) (version : CellRef) (w0 w1 : Work) (put_first : PutIn one w0 w1 version) (l : Listed) (neither : NeitherLists one two (reading w0) version l) where
  came_first : (now : ListsAnew one.index one.keys w0 w1 l.first_nodes) × IsPermutation (version ∷ l.first) now.listed
  came_first = put_first.puts l.first l.first_nodes neither.stand.first_lists neither.first_lacks

  abbrev l1 : Listed
  l1 = with_first l came_first.0.listed came_first.0.now_nodes

  stand_1 : StandApart one two (reading w1) l1
  stand_1 = changed one two second_laws w0 w1 put_first.change l came_first.0 neither.stand

  unlisted_1 : IsUnlisted (says two.keys (reading w1)) l.second version
  unlisted_1 = unlisted_again two.keys (reading w0) (reading w1) second_laws.rests put_first.change.versions l.second version neither.second_lacks

  pub second_lacks_it : LacksVersion two.index two.keys (reading w1) version
  second_lacks_it = record {
    listed = l.second;
    nodes = l.second_nodes;
    lists = stand_1.second_lists;
    unlisted = unlisted_1;
    taken = taken_again two.index two.keys (reading w0) (reading w1) second_laws.rests put_first.change.versions version neither.second_takes;
  }

  module _ (w2 : Work) (put_second : PutIn two w1 w2 version) where
    came_second : (now : ListsAnew two.index two.keys w1 w2 l.second_nodes) × IsPermutation (version ∷ l.second) now.listed
    came_second = put_second.puts l.second l.second_nodes stand_1.second_lists unlisted_1

    abbrev l2 : Listed
    l2 = record { first = came_first.0.listed; first_nodes = came_first.0.now_nodes; second = came_second.0.listed; second_nodes = came_second.0.now_nodes }

    stand_2 : StandApart one two (reading w2) l2
    stand_2 = turn two one (reading w2) (turned l2) (changed two one first_laws w1 w2 put_second.change (turned l1) came_second.0 (turn one two (reading w1) l1 stand_1))

    within_first : Contains came_first.0.listed version
    within_first = Contains-permutation (version ∷ l.first) came_first.0.listed version came_first.1 (contains_first version l.first)

    pub first_has_it : HasVersion one.index one.keys (reading w2) version
    first_has_it = record {
      listed = came_first.0.listed;
      nodes = came_first.0.now_nodes;
      lists = stand_2.first_lists;
      within = within_first;
    }

    module _ (w3 : Work) (taken : TakenFrom one w2 w3 version) where
      went : (now : ListsAnew one.index one.keys w2 w3 came_first.0.now_nodes) × IsPermutation (version ∷ now.listed) came_first.0.listed × AreOf came_first.0.now_nodes now.now_nodes
      went = taken.removes came_first.0.listed came_first.0.now_nodes stand_2.first_lists within_first

      stand_3 : StandApart one two (reading w3) (with_first l2 went.0.listed went.0.now_nodes)
      stand_3 = changed one two second_laws w2 w3 taken.change l2 went.0 stand_2

      pub second_stands : IsStanding two.index (reading w3)
      second_stands = (says two.keys (reading w3), came_second.0.listed, came_second.0.now_nodes, stand_3.second_lists)

      pub came_to_second : CameToSecond one two (reading w3) version l
      came_to_second = record {
        now = with_first l2 went.0.listed went.0.now_nodes;
        stand = stand_3;
        first_stays = IsPermutation-trans (version ∷ went.0.listed) came_first.0.listed (version ∷ l.first) went.1 (IsPermutation-sym (version ∷ l.first) came_first.0.listed came_first.1);
        second_more = IsPermutation-sym (version ∷ l.second) came_second.0.listed came_second.1;
      }

      pub listed_second : (refs : List CellRef) → IsListing two.index (reading w3) refs → IsPermutation refs (version ∷ l.second)
      listed_second refs listing =
          IsPermutation-trans refs came_second.0.listed (version ∷ l.second)
          (listing (says two.keys (reading w3)) came_second.0.listed came_second.0.now_nodes stand_3.second_lists)
          (IsPermutation-sym (version ∷ l.second) came_second.0.listed came_second.1)
