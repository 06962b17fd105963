-- A hash index round one of its buckets.
use Rattle.std.proofs.Common.{◌≡◌, ◌<◌, ℕ, List, length, sym, ap, subst, ◌∙◌}
use Rattle.rdb_pages.specs.declared.cell.CellRef.{CellRef}
use Rattle.rdb_cells.specs.HashFormat.{table_buckets}
use Rattle.rdb_cells.specs.HeadFormat.{index_roots}
use Rattle.rdb_cells.specs.Images.{Image}
use Rattle.rdb_cells.specs.Keys.{Sayings, ListsVersions}
use Rattle.rdb_cells.specs.Links.{Node, numbers}
use Rattle.rdb_hash.specs.Shape.{Held, Table, AreTables, AreHashed, IsHash, hash_nodes, versions_of}
use Rattle.rdb_hash.proofs.ShapeLemmas.{Around, tables_of, nodes_of, around}
use Rattle.rdb_hash.proofs.ShapeLemmas as shape

-- the index, with one bucket of one table pointed out
pub record IsAround (head : ℕ) (said : Sayings) (image : Image) (listed : List CellRef) (nodes : List ℕ) (table place : ℕ) : Type 0 where
  pub a : Around
  pub table_is : length a.front ≡ table
  pub place_is : length a.left ≡ place
  pub are : AreTables image head (tables_of a)
  pub hashed : AreHashed said (nodes_of a)
  pub listed_is : listed ≡ versions_of (nodes_of a)
  pub nodes_are : nodes ≡ numbers (nodes_of a)
  pub versions : ListsVersions said listed

module _ (head : ℕ) (said : Sayings) (image : Image) (listed : List CellRef) (nodes : List ℕ) (table place : ℕ) where
  pub hash_around : IsHash head said image listed nodes → table < index_roots → place < table_buckets → IsAround head said image listed nodes table place
  hash_around hash table_small place_small =
      let found = around image head hash.tables table place hash.stand table_small place_small in
      let same = ap (λ (ts : List Table). hash_nodes ts) found.1 ∙ shape.nodes_are found.0 in
      record {
        a = found.0;
        table_is = found.2;
        place_is = found.3;
        are = subst (λ (ts : List Table). AreTables image head ts) found.1 hash.stand;
        hashed = subst (λ (xs : List (Node Held)). AreHashed said xs) same hash.hashed;
        listed_is = hash.listed_is ∙ ap (λ (xs : List (Node Held)). versions_of xs) same;
        nodes_are = hash.nodes_are ∙ ap (λ (xs : List (Node Held)). numbers xs) same;
        versions = hash.versions;
      }

  pub around_hash : IsAround head said image listed nodes table place → IsHash head said image listed nodes
  around_hash at = record {
    tables = tables_of at.a;
    stand = at.are;
    hashed = subst (λ (xs : List (Node Held)). AreHashed said xs) (sym (shape.nodes_are at.a)) at.hashed;
    listed_is = at.listed_is ∙ sym (ap (λ (xs : List (Node Held)). versions_of xs) (shape.nodes_are at.a));
    nodes_are = at.nodes_are ∙ sym (ap (λ (xs : List (Node Held)). numbers xs) (shape.nodes_are at.a));
    versions = at.versions;
  }
