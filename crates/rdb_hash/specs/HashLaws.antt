-- A hash index meets the laws of an index. No tactic stands here.
use Rattle.std.specs.Prelude.{◌≡◌, ◌≤◌, ◌*◌, ℕ, zero, suc, List, [], ◌∷◌, ◌++◌, length, replicate, slice_get, Some, is_some, Contains, refl}
use Rattle.std.specs.Option.{option_map_or}
use mathlib.Core.Bool.{false≢true}
use mathlib.Core.Logic.{inl, inr}
use mathlib.Core.Path.{sym, ap, subst, ◌∙◌}
use native.Mathlib.Nat.{not-suc-le-zero, zero-lt-suc}
use Prim.Native.Nat.{suc-le-suc}
use Rattle.rdb_pages.specs.declared.cell.CellRef.{CellRef}
use Rattle.rdb_cells.specs.declared.kind.Kind.TheVariants as kind
use Rattle.rdb_cells.specs.HashFormat.{table_buckets}
use Rattle.rdb_cells.specs.HeadFormat.{index_head_cell, empty_index_head, index_roots}
use Rattle.rdb_cells.specs.Images.{Image}
use Rattle.rdb_cells.specs.Index.{IsIndexNode, StartsEmpty, ListsOnce, HasIndexCells, HasFewNodes, RestsOnNodes}
use Rattle.rdb_cells.specs.Keys.{Sayings, SaySame}
use Rattle.rdb_cells.specs.Links.{IsAmong, AreOnce, SameOn, Node, IsHeld, numbers}
use Rattle.rdb_cells.specs.LinkLaws.{still_apart, node_of}
use Rattle.rdb_cells.specs.PlainLaws.{lists_again}
use Rattle.rdb_hash.specs.FewNodes.{few_nodes}
use Rattle.rdb_hash.specs.Shape.{Held, Buckets, Entry, no_table, IsWritten, AreEntriesOf, IsHashed, AreHashed, IsTable, bucket_number, versions_of, version_in, hash_nodes, hash_nature}

-- each element of a list of one thing is that
one_thing : {X : Type 0} (count : ℕ) (x : X) (place : ℕ) (y : X) → slice_get (replicate count x) place ≡ Some y → x ≡ y
one_thing zero x place y at = absurd (false≢true (ap is_some at))
one_thing (suc count) x zero y at = ap (λ o. option_map_or (λ z. z) o x) at
one_thing (suc count) x (suc place) y at = one_thing count x place y at

none_in : {X : Type 0} (x : X) → ¬ Contains [] x
none_in x within = not-suc-le-zero within.1

empty_shaped : (place : ℕ) → IsTable place no_table
empty_shaped place = record {
  count = refl;
  used = (λ none. refl, λ none. refl);
  entries = λ word b at. subst (AreEntriesOf (bucket_number place word)) (one_thing table_buckets [] word b at) tt;
}

-- keys that say the same of versions say the same of their hashes
pub hashed_again : (said again : Sayings) (nodes : List (Node Held)) → SaySame said again (versions_of nodes) → AreHashed said nodes → AreHashed again nodes
hashed_again said again [] same hashed = tt
hashed_again said again (x ∷ xs) same hashed = by_element x.element same hashed.0 (λ same_there. hashed_again said again xs same_there hashed.1)
  where
    by_element : (element : Held) → SaySame said again (version_in element ++ versions_of xs) → IsHashed said element → (SaySame said again (versions_of xs) → AreHashed again xs) → IsHashed again element × AreHashed again xs
    by_element Buckets same_here is others = (tt, others same_here)
    by_element (Entry version hash) same_here is others = (
      (is.0, same_here.versions version (0, zero-lt-suc _, refl) ∙ is.1, is.2 ∙ sym (same_here.hashes is.0.key)),
      others (record { versions = λ r within. same_here.versions r (suc within.0, suc-le-suc within.1, within.2); hashes = same_here.hashes }),
    )

-- a node of a hash index is a table or an entry
node_kind : (image : Image) (x : Node Held) → IsHeld IsWritten image x → IsIndexNode image x.number
node_kind image x held = by_element x.element held.written
  where
    by_element : (element : Held) → IsWritten held.cell element x.links → IsIndexNode image x.number
    by_element Buckets written = (kind.HashTable, refl, (held.cell, held.here, written.kind))
    by_element (Entry version hash) written = (kind.HashEntry, refl, (held.cell, held.here, written.kind))

module _ (class head : ℕ) where
  pub hash_starts_empty : StartsEmpty (hash_nature class head)
  hash_starts_empty said image empty = record {
    tables = replicate index_roots no_table;
    stand = record {
      leads = record { cell = index_head_cell empty_index_head; here = empty; kind = refl; leads = refl };
      apart = record { stand = tt; once = tt };
      shaped = λ place t at. subst (IsTable place) (one_thing index_roots no_table place t at) (empty_shaped place);
      paged = λ n none. absurd none;
    };
    hashed = tt;
    listed_is = refl;
    nodes_are = refl;
    versions = record { keyed = λ r within. absurd (none_in r within); once = λ r within. absurd (none_in r within); differ = λ q r within. absurd (none_in q within) };
  }

  pub hash_lists_once : ListsOnce (hash_nature class head)
  hash_lists_once said image listed nodes hash = hash.versions

  pub hash_has_index_cells : HasIndexCells (hash_nature class head)
  hash_has_index_cells said image listed nodes hash = record {
    head = (hash.stand.leads.cell, hash.stand.leads.here, hash.stand.leads.kind);
    nodes = λ n within.
        let node = node_of IsWritten image (hash_nodes hash.tables) n hash.stand.apart.stand (subst (λ (ns : List ℕ). IsAmong ns n) hash.nodes_are within) in
        subst (IsIndexNode image) node.1 (node_kind image node.0 node.2);
    once = subst AreOnce (sym hash.nodes_are) hash.stand.apart.once;
  }

  pub hash_has_few_nodes : HasFewNodes (hash_nature class head)
  hash_has_few_nodes said image listed nodes hash =
      subst (λ (ns : List ℕ). length ns ≤ 2 * length listed) (sym hash.nodes_are)
      (subst (λ (rs : List CellRef). length (numbers (hash_nodes hash.tables)) ≤ 2 * length rs) (sym hash.listed_is)
      (few_nodes hash.tables (λ place t at. (place, hash.stand.shaped place t at))).few)

  pub hash_rests_on_nodes : RestsOnNodes (hash_nature class head)
  hash_rests_on_nodes said image listed nodes hash again after says same =
      let nodes_same : SameOn (numbers (hash_nodes hash.tables)) image after = λ n within. same n (inr (subst (λ (ns : List ℕ). IsAmong ns n) (sym hash.nodes_are) within)) in
      record {
        tables = hash.tables;
        stand = record {
          leads = record { cell = hash.stand.leads.cell; here = same head (inl refl) ∙ hash.stand.leads.here; kind = hash.stand.leads.kind; leads = hash.stand.leads.leads };
          apart = still_apart IsWritten image after (hash_nodes hash.tables) nodes_same hash.stand.apart;
          shaped = hash.stand.shaped;
          paged = hash.stand.paged;
        };
        hashed = hashed_again said again (hash_nodes hash.tables) (subst (SaySame said again) hash.listed_is says) hash.hashed;
        listed_is = hash.listed_is;
        nodes_are = hash.nodes_are;
        versions = lists_again said again listed says hash.versions;
      }
