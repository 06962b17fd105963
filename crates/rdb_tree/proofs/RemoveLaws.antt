-- A removal from the tree of an index meets what an index owes.
use Rattle.std.proofs.Common.{◌≡◌, ℕ, List, [], ◌∷◌, ◌++◌, inl, inr, sym, subst, ◌∙◌}
use Rattle.std.proofs.lemmas.List.Sorted.{IsPermutation-sym, IsPermutation-middle}
use Rattle.std.specs.Prelude.{IsPermutation}
use Rattle.rdb_pages.specs.declared.cell.CellRef.{CellRef}
use Rattle.rdb_cells.specs.Index.{ListsAnew}
use Rattle.rdb_cells.specs.Keys.{Meaning, Sayings, says, ListsVersions, RestsOnVersions}
use Rattle.rdb_cells.specs.Links.{IsAmong, AreOf}
use Rattle.rdb_cells.specs.Work.{Work, reading}
use Rattle.rdb_cells.proofs.ListedLemmas.{lists_less, lists_in_order}
use Rattle.rdb_tree.specs.Losses.{IsTreeRemoved}
use Rattle.rdb_tree.specs.Nature.{IsTree, tree_nature}
use Rattle.rdb_tree.specs.Order.{IsBefore, AreAscending}
use Rattle.rdb_tree.specs.Trees.{versions_of, cells_of}
use Rattle.rdb_tree.proofs.ChangedLemmas.{lists_now, account}
use Rattle.rdb_tree.proofs.WovenLemmas.{each_both, each_front, each_back}

-- those around a version still ascend without it
ascending_without : (said : Sayings) (version : CellRef) (front back : List CellRef) → AreAscending said (front ++ version ∷ back) → AreAscending said (front ++ back)
ascending_without said version [] back ascending = ascending.1
ascending_without said version (r ∷ rs) back ascending = (
  each_both (IsBefore said r) rs back (each_front (IsBefore said r) rs (version ∷ back) ascending.0) (each_back (IsBefore said r) rs (version ∷ back) ascending.0).1,
  ascending_without said version rs back ascending.1,
)

module _ (class head : ℕ) (keys : Meaning) (before after : Work) (version : CellRef) (listed : List CellRef) (nodes : List ℕ) (is : IsTree head (says keys (reading before)) (reading before) listed nodes) (removed : IsTreeRemoved before after version head is.tree) where
  front : List CellRef
  front = removed.leaves.front

  back : List CellRef
  back = removed.leaves.back

  listed_is : listed ≡ front ++ version ∷ back
  unfolding front back
  listed_is = is.listed_is ∙ removed.leaves.was_is

  order : IsPermutation (version ∷ versions_of removed.now) listed
  unfolding front back
  order =
      subst (λ (rs : List CellRef). IsPermutation (version ∷ versions_of removed.now) rs) (sym listed_is)
      (subst (λ (rs : List CellRef). IsPermutation (version ∷ rs) (front ++ version ∷ back)) (sym removed.leaves.now_is)
      (IsPermutation-sym (front ++ version ∷ back) (version ∷ (front ++ back)) (IsPermutation-middle front version back)))

  listing_now : ListsVersions (says keys (reading before)) (versions_of removed.now)
  listing_now = lists_less (says keys (reading before)) (versions_of removed.now) version
      (lists_in_order (says keys (reading before)) listed (version ∷ versions_of removed.now) (IsPermutation-sym (version ∷ versions_of removed.now) listed order) is.listing)

  ascending_now : AreAscending (says keys (reading before)) (versions_of removed.now)
  unfolding front back
  ascending_now = subst (AreAscending (says keys (reading before))) (sym removed.leaves.now_is)
      (ascending_without (says keys (reading before)) version front back (subst (AreAscending (says keys (reading before))) listed_is is.ascending))

  no_more : AreOf nodes (cells_of removed.now)
  no_more n within = elim (removed.changed.more n within) [
    | inl old ↦ subst (λ (ns : List ℕ). IsAmong ns n) (sym is.nodes_are) old
    | inr none ↦ absurd none
  ]

  pub removes : RestsOnVersions keys → (now : ListsAnew (tree_nature class head) keys before after nodes) × IsPermutation (version ∷ now.listed) listed × AreOf nodes now.now_nodes
  removes rests = (
    record {
      listed = versions_of removed.now;
      now_nodes = cells_of removed.now;
      lists = lists_now class head keys before after listed nodes is [] removed.now removed.changed rests listing_now ascending_now;
      account = account class head keys before after listed nodes is [] removed.now removed.changed;
    },
    order,
    no_more,
  )
