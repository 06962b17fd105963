-- A plain list meets the laws of an index.
use Rattle.std.specs.Prelude.{◌≡◌, ◌≤◌, ◌*◌, ℕ, suc, List, [], ◌∷◌, length, Option, IsSome, refl}
use mathlib.Core.Logic.{inl, inr}
use mathlib.Core.Path.{sym, ap, subst, ◌∙◌}
use native.Mathlib.Nat.{not-suc-le-zero, le_intro, two-mul}
use Rattle.rdb_pages.specs.declared.cell.CellRef.{CellRef}
use Rattle.rdb_cells.specs.declared.kind.Kind.TheVariants as kind
use Rattle.rdb_cells.specs.HeadFormat.{index_head_cell, empty_index_head}
use Rattle.rdb_cells.specs.Index.{StartsEmpty, ListsOnce, HasIndexCells, HasFewNodes, RestsOnNodes}
use Rattle.rdb_cells.specs.Keys.{Sayings, Version, SaySame, ListsVersions}
use Rattle.rdb_cells.specs.Links.{IsAmong, AreOnce, SameOn, Placed, elements, segment, numbers}
use Rattle.rdb_cells.specs.LinkLaws.{still_chain, node_of}
use Rattle.rdb_cells.specs.PlainList.{IsEntry, plain_nature}
use Rattle.rdb_cells.specs.Words.{HasKind, no_ref}

-- keys that say the same of versions say the same of their lists
pub lists_again : (said again : Sayings) (listed : List CellRef) → SaySame said again listed → ListsVersions said listed → ListsVersions again listed
lists_again said again listed same lists = record {
  keyed = λ r within. subst (λ (o : Option Version). IsSome o) (sym (same.versions r within)) (lists.keyed r within);
  once = lists.once;
  differ = λ q r q_within r_within twins. lists.differ q r q_within r_within (record {
    first = twins.first;
    second = twins.second;
    is_first = sym (same.versions q q_within) ∙ twins.is_first;
    is_second = sym (same.versions r r_within) ∙ twins.is_second;
    ids = twins.ids;
    serials = twins.serials;
  });
}

-- a chain has a cell for each element
each_a_cell : (chain : List (Placed CellRef)) (end : ℕ) → length (numbers (segment chain end)) ≡ length (elements chain)
each_a_cell [] end = refl
each_a_cell (p ∷ ps) end = ap suc (each_a_cell ps end)

one_each : (chain : List (Placed CellRef)) (listed : List CellRef) (nodes : List ℕ) → listed ≡ elements chain → nodes ≡ numbers (segment chain 0) → length nodes ≡ length listed
one_each chain listed nodes are in_cells =
    ap (λ (ns : List ℕ). length ns) in_cells ∙ each_a_cell chain 0 ∙ sym (ap (λ (rs : List CellRef). length rs) are)

once_in_twice : (n : ℕ) → n ≤ 2 * n
once_in_twice n = le_intro n n (sym (two-mul n))

module _ (class head : ℕ) where
  pub plain_starts_empty : StartsEmpty (plain_nature class head)
  plain_starts_empty said image empty = record {
    first = no_ref;
    chain = [];
    leads = record { cell = index_head_cell empty_index_head; here = empty; kind = refl; leads = refl };
    entries = record {
      chained = record { begins = refl; nodes = record { stand = tt; once = tt } };
      paged = λ n none. absurd none;
    };
    listed_is = refl;
    nodes_are = refl;
    versions = record { keyed = λ r within. absurd (not-suc-le-zero within.1); once = λ r within. absurd (not-suc-le-zero within.1); differ = λ q r within. absurd (not-suc-le-zero within.1) };
  }

  pub plain_lists_once : ListsOnce (plain_nature class head)
  plain_lists_once said image listed nodes list = list.versions

  pub plain_has_index_cells : HasIndexCells (plain_nature class head)
  plain_has_index_cells said image listed nodes list = record {
    head = (list.leads.cell, list.leads.here, list.leads.kind);
    nodes = λ n within.
        let node = node_of IsEntry image (segment list.chain 0) n list.entries.chained.nodes.stand (subst (λ (ns : List ℕ). IsAmong ns n) list.nodes_are within) in
        let has : HasKind image kind.PatriciaEntry n = (node.2.cell, sym (ap image node.1) ∙ node.2.here, node.2.written.kind) in
        (kind.PatriciaEntry, refl, has);
    once = subst AreOnce (sym list.nodes_are) list.entries.chained.nodes.once;
  }

  pub plain_has_few_nodes : HasFewNodes (plain_nature class head)
  plain_has_few_nodes said image listed nodes list =
      subst (λ (many : ℕ). many ≤ 2 * length listed) (sym (one_each list.chain listed nodes list.listed_is list.nodes_are)) (once_in_twice (length listed))

  pub plain_rests_on_nodes : RestsOnNodes (plain_nature class head)
  plain_rests_on_nodes said image listed nodes list again after says same =
      let entries : SameOn (numbers (segment list.chain 0)) image after = λ n within. same n (inr (subst (λ (ns : List ℕ). IsAmong ns n) (sym list.nodes_are) within)) in
      record {
        first = list.first;
        chain = list.chain;
        leads = record { cell = list.leads.cell; here = same head (inl refl) ∙ list.leads.here; kind = list.leads.kind; leads = list.leads.leads };
        entries = record { chained = still_chain IsEntry image after list.first.number list.chain entries list.entries.chained; paged = list.entries.paged };
        listed_is = list.listed_is;
        nodes_are = list.nodes_are;
        versions = lists_again said again listed says list.versions;
      }
