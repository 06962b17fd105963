-- A hash index has at most two nodes for each version that it lists. No tactic stands here.
use Rattle.std.specs.Prelude.{◌≡◌, ◌≤◌, ◌*◌, ◌++◌, ℕ, zero, suc, List, [], ◌∷◌, length, slice_get, Some, refl}
use mathlib.Core.Path.{sym, ap, subst, ◌∙◌}
use native.Mathlib.Nat.{le_trans, le-suc, suc-add, add-suc, suc-ne-zero, two-mul}
use Prim.Native.Nat.{suc-le-suc, zero-le}
use Rattle.rdb_pages.specs.declared.cell.CellRef.{CellRef}
use Rattle.rdb_cells.specs.Links.{Node, Placed, numbers, segment}
use Rattle.rdb_hash.specs.Shape.{Held, Buckets, Entry, Table, AreEntriesOf, IsEntryOf, IsTable, own_node, starts, bucket_nodes, hash_nodes, version_in, versions_of}

-- there are at most two nodes for each version
pub record HaveFew (nodes : List (Node Held)) : Type 0 where
  pub few : length (numbers nodes) ≤ 2 * length (versions_of nodes)

abbrev IsEntryNode : Held → Type 0
IsEntryNode Buckets = ⊥
IsEntryNode (Entry version hash) = Unit {0}

abbrev AreEntryNodes : List (Node Held) → Type 0
AreEntryNodes [] = Unit {0}
AreEntryNodes (x ∷ xs) = IsEntryNode x.element × AreEntryNodes xs

two_more : (few many : ℕ) → few ≤ 2 * many → suc (suc few) ≤ 2 * suc many
two_more few many least =
    let twice : suc (suc (2 * many)) ≡ 2 * suc many =
    ap (λ (n : ℕ). suc (suc n)) (two-mul many) ∙ ap suc (sym (add-suc many many)) ∙ sym (suc-add many (suc many)) ∙ sym (two-mul (suc many)) in
    subst (λ (n : ℕ). suc (suc few) ≤ n) twice (suc-le-suc (suc-le-suc least))

one_version : (e : Held) → IsEntryNode e → (rs : List CellRef) → length (version_in e ++ rs) ≡ suc (length rs)
one_version Buckets none rs = absurd none
one_version (Entry version hash) is rs = refl

-- an entry more, and a table with an entry more
entry_more : (x : Node Held) (xs : List (Node Held)) → IsEntryNode x.element → HaveFew xs → HaveFew (x ∷ xs)
entry_more x xs is have = record {
  few = subst (λ (n : ℕ). suc (length (numbers xs)) ≤ 2 * n) (sym (one_version x.element is (versions_of xs)))
      (le_trans (le-suc (suc (length (numbers xs)))) (two_more (length (numbers xs)) (length (versions_of xs)) have.few));
}

table_more : (n : ℕ) (links : List ℕ) (x : Node Held) (xs : List (Node Held)) → IsEntryNode x.element → HaveFew xs → HaveFew (own_node (suc n) links ++ x ∷ xs)
table_more n links x xs is have = record {
  few = subst (λ (n : ℕ). suc (suc (length (numbers xs))) ≤ 2 * n) (sym (one_version x.element is (versions_of xs)))
      (two_more (length (numbers xs)) (length (versions_of xs)) have.few);
}

entries_more : (xs ys : List (Node Held)) → AreEntryNodes xs → HaveFew ys → HaveFew (xs ++ ys)
entries_more [] ys are have = have
entries_more (x ∷ xs) ys are have = entry_more x (xs ++ ys) are.0 (entries_more xs ys are.1 have)

own_more : (number : ℕ) (links : List ℕ) (xs ys : List (Node Held)) → (xs ≡ [] → number ≡ 0) → AreEntryNodes xs → HaveFew ys → HaveFew (own_node number links ++ (xs ++ ys))
own_more zero links xs ys used are have = entries_more xs ys are have
own_more (suc n) links [] ys used are have = absurd (suc-ne-zero n (used refl))
own_more (suc n) links (x ∷ xs) ys used are have = table_more n links x (xs ++ ys) are.0 (entries_more xs ys are.1 have)

-- the nodes of buckets are entries
entry_node : (bucket : ℕ) (e : Held) → IsEntryOf bucket e → IsEntryNode e
entry_node bucket Buckets none = none
entry_node bucket (Entry version hash) is = tt

chain_nodes : (bucket : ℕ) (chain : List (Placed Held)) (ys : List (Node Held)) → AreEntriesOf bucket chain → AreEntryNodes ys → AreEntryNodes (segment chain 0 ++ ys)
chain_nodes bucket [] ys are others = others
chain_nodes bucket (p ∷ ps) ys are others = (entry_node bucket p.element are.0, chain_nodes bucket ps ys are.1 others)

entry_nodes : (bs : List (List (Placed Held))) → ((word : ℕ) (b : List (Placed Held)) → slice_get bs word ≡ Some b → (bucket : ℕ) × AreEntriesOf bucket b) → AreEntryNodes (bucket_nodes bs)
entry_nodes [] each = tt
entry_nodes (b ∷ bs) each = chain_nodes (each 0 b refl).0 b (bucket_nodes bs) (each 0 b refl).1 (entry_nodes bs (λ word c at. each (suc word) c at))

pub few_nodes : (tables : List Table) → ((place : ℕ) (t : Table) → slice_get tables place ≡ Some t → (k : ℕ) × IsTable k t) → HaveFew (hash_nodes tables)
few_nodes [] each = record { few = zero-le }
few_nodes (t ∷ ts) each =
    let is = (each 0 t refl).1 in
    own_more t.number (starts t.buckets) (bucket_nodes t.buckets) (hash_nodes ts) is.used.1
    (entry_nodes t.buckets (λ word b at. (_, is.entries word b at))) (few_nodes ts (λ place u at. each (suc place) u at))
