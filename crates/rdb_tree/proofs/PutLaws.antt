-- A put into the tree of an index meets what an index owes.
use Rattle.std.proofs.Common.{◌≡◌, ◌≤◌, ◌+◌, ℕ, List, ◌∷◌, ◌++◌, true, false, sym, subst, ◌∙◌, arith}
use Rattle.std.proofs.lemmas.List.Elements.{Contains-append_left, Contains-append_right}
use Rattle.std.proofs.lemmas.List.Sorted.{IsPermutation-sym, IsPermutation-middle}
use Rattle.std.specs.List.{Contains}
use Rattle.std.specs.Prelude.{IsPermutation}
use Rattle.rdb_pages.specs.declared.cell.CellRef.{CellRef}
use Rattle.rdb_cells.specs.Index.{ListsAnew}
use Rattle.rdb_cells.specs.Keys.{Meaning, Sayings, says, IsUnlisted, RestsOnVersions}
use Rattle.rdb_cells.specs.Work.{Work, reading, TakesAtMost}
use Rattle.rdb_cells.proofs.IndexLemmas.{fewer_than}
use Rattle.rdb_cells.proofs.ListedLemmas.{lists_more, lists_in_order}
use Rattle.rdb_tree.specs.Growth.{IsTreePut}
use Rattle.rdb_tree.specs.Nature.{IsTree, tree_nature}
use Rattle.rdb_tree.specs.Order.{IsBefore, AreAscending, is_before}
use Rattle.rdb_tree.specs.Trees.{versions_of, cells_of}
use Rattle.rdb_tree.proofs.ChangedLemmas.{lists_now, account}
use Rattle.rdb_tree.proofs.VersionLemmas.{some_version, goes_before, goes_behind, ascending_with, each_listed}

pub takes_more : (before after : Work) (few many : ℕ) → few ≤ many → TakesAtMost few before after → TakesAtMost many before after
takes_more before after few many within takes = record {
  enough = λ count has. takes.enough count (fewer_than before (count + few) (count + many) (omega arith) has);
  no_more = takes.no_more;
}

module _ (class head : ℕ) (keys : Meaning) (before after : Work) (version : CellRef) (listed : List CellRef) (nodes : List ℕ) (is : IsTree head (says keys (reading before)) (reading before) listed nodes)
    (put : IsTreePut before after (is_before (says keys (reading before)) version) version head is.tree) (unlisted : IsUnlisted (says keys (reading before)) listed version) where
  said : Sayings
  said = says keys (reading before)

  front : List CellRef
  front = put.comes.front

  back : List CellRef
  back = put.comes.back

  listed_is : listed ≡ front ++ back
  unfolding front back
  listed_is = is.listed_is ∙ put.comes.was_is

  order : IsPermutation (version ∷ listed) (versions_of put.now)
  unfolding front back
  order =
      subst (λ (rs : List CellRef). IsPermutation (version ∷ rs) (versions_of put.now)) (sym listed_is)
      (subst (λ (rs : List CellRef). IsPermutation (version ∷ (front ++ back)) rs) (sym put.comes.now_is)
      (IsPermutation-sym (front ++ version ∷ back) (version ∷ (front ++ back)) (IsPermutation-middle front version back)))

  in_front : (r : CellRef) → Contains front r → Contains listed r
  in_front r within = subst (λ (rs : List CellRef). Contains rs r) (sym listed_is) (Contains-append_left front back r within)

  in_back : (r : CellRef) → Contains back r → Contains listed r
  in_back r within = subst (λ (rs : List CellRef). Contains rs r) (sym listed_is) (Contains-append_right front back r within)

  ascending_now : AreAscending (says keys (reading before)) (versions_of put.now)
  unfolding said front back
  ascending_now =
      let x = some_version (said.version_of version.number) unlisted.keyed in
      subst (AreAscending said) (sym put.comes.now_is)
      (ascending_with said version front back (subst (AreAscending said) listed_is is.ascending)
      (each_listed (λ r. is_before said version r ≡ true) (λ r. IsBefore said r version) front put.comes.before (λ r within near. goes_before said version x.0 x.1 r (is.listing.keyed r (in_front r within)) near))
      (each_listed (λ r. is_before said version r ≡ false) (IsBefore said version) back put.comes.behind (λ r within far. goes_behind said version x.0 x.1 r (is.listing.keyed r (in_back r within)) (unlisted.otherwise r (in_back r within)) far)))

  pub puts : RestsOnVersions keys → (now : ListsAnew (tree_nature class head) keys before after nodes) × IsPermutation (version ∷ listed) now.listed
  unfolding said
  puts rests = (
    record {
      listed = versions_of put.now;
      now_nodes = cells_of put.now;
      lists = lists_now class head keys before after listed nodes is put.fresh put.now put.changed rests (lists_in_order said (version ∷ listed) (versions_of put.now) order (lists_more said listed version unlisted is.listing)) ascending_now;
      account = account class head keys before after listed nodes is put.fresh put.now put.changed;
    },
    order,
  )
