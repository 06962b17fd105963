-- Cells of chains and of buckets: which kinds they have, and which buckets have no entry.
use Rattle.std.proofs.Common.{◌≡◌, ◌≢◌, ◌==◌, ◌&&◌, ◌++◌, ℕ, List, [], ◌∷◌, map, get_or, drop, Bool, true, false, eq-eqb, Option, IsSome, refl, sym, ap, subst, ◌∙◌, arith, rules}
use Rattle.std.specs.List.{list_all}
use borrow.Author.Tests.{eqb-true}
use Rattle.rdb_pages.specs.declared.cell.Cell.{Cell}
use Rattle.rdb_pages.specs.declared.cell.CellRef.{CellRef}
use Rattle.rdb_cells.specs.declared.kind.Kind.{Kind}
use Rattle.rdb_cells.specs.declared.kind.Kind.TheVariants as kind
use Rattle.rdb_cells.specs.Images.{Image, IsCell}
use Rattle.rdb_cells.specs.Links.{Node, Placed, Stand, start, segment}
use Rattle.rdb_cells.specs.Words.{HasKind}
use Rattle.rdb_cells.proofs.LinkLemmas.{empty_chain, stand_parts, stand_together}
use Rattle.rdb_cells.proofs.PlainLemmas.{one_kind}
use Rattle.rdb_hash.specs.Shape.{Held, IsWritten, own_node, starts, bucket_nodes, hash_nodes}
use Rattle.rdb_hash.specs.Walks.{IsBucket}
use Rattle.rdb_hash.proofs.ChangeLemmas.{cells_of}
use Rattle.rdb_hash.proofs.ShapeLemmas.{Around, buckets_of, behind, nodes_of, bucket_nodes_append}
use Rattle.rdb_hash.proofs.TableLemmas.{none_both, none_begins}
use Rattle.rdb_hash.proofs.WalkLemmas.{held_there, entry_there}

pub cells_append : (xs ys : List (Placed Held)) → cells_of (xs ++ ys) ≡ cells_of xs ++ cells_of ys
cells_append [] ys = refl
cells_append (x ∷ xs) ys = ap (λ (ns : List ℕ). x.number ∷ ns) (cells_append xs ys)

-- two kinds, two cells
pub entry_no_table : (image : Image) (n m : ℕ) → HasKind image kind.HashEntry n → HasKind image kind.HashTable m → n ≢ m
entry_no_table image n m entry table same =
    let e = one_kind image kind.HashEntry kind.HashTable m (subst (HasKind image kind.HashEntry) same entry) table in
    absurd (omega arith)

pub entry_no_head : (image : Image) (n m : ℕ) → HasKind image kind.HashEntry n → HasKind image kind.IndexHead m → n ≢ m
entry_no_head image n m entry top same =
    let e = one_kind image kind.HashEntry kind.IndexHead m (subst (HasKind image kind.HashEntry) same entry) top in
    absurd (omega arith)

pub kind_there : (image : Image) (of : Kind) (n : ℕ) → HasKind image of n → IsCell image n
kind_there image of n has = subst (λ (o : Option Cell). IsSome o) (sym has.1) (search rules)

-- an entry of a chain is one
pub chain_kind : (image : Image) (first bucket : ℕ) (front : List (Placed Held)) (p : Placed Held) (back : List (Placed Held)) → IsBucket image first bucket (front ++ p ∷ back) → HasKind image kind.HashEntry p.number
chain_kind image first bucket front p back is =
    let held = held_there image first bucket front p back is in
    let entry = entry_there image first bucket front p back is in
    let written = subst (λ (e : Held). IsWritten held.cell e (start back 0 ∷ [])) entry.2 held.written in
    (held.cell, held.here, written.kind)

-- buckets that begin nowhere have no entries, and those without entries begin nowhere
pub all_none : (image : Image) (rs : List CellRef) (bs : List (List (Placed Held))) → map (λ (r : CellRef). r.number) rs ≡ starts bs → list_all (λ (r : CellRef). r.number == 0) rs ≡ true → Stand IsWritten image (bucket_nodes bs) → bucket_nodes bs ≡ []
all_none image [] [] same none stand = refl
all_none image [] (b ∷ bs) same none stand = cc
all_none image (r ∷ rs) [] same none stand = cc
all_none image (r ∷ rs) (b ∷ bs) same none stand =
    let both = two_true (r.number == 0) (list_all (λ (q : CellRef). q.number == 0) rs) none in
    let parts = stand_parts IsWritten image (segment b 0) (bucket_nodes bs) stand in
    let begins : start b 0 ≡ 0 = sym (ap (λ (ns : List ℕ). get_or ns 0 0) same) ∙ eqb-true r.number 0 both.0 in
    let empty = empty_chain IsWritten image b begins parts.0 in
    let rest = all_none image rs bs (ap (λ (ns : List ℕ). drop 1 ns) same) both.1 parts.1 in
    ap (λ (c : List (Placed Held)). segment c 0 ++ bucket_nodes bs) empty ∙ rest
  where
    two_true : (p q : Bool) → (p && q) ≡ true → (p ≡ true) × (q ≡ true)
    two_true true q both = (refl, both)
    two_true false q both = cc

pub not_all_none : (rs : List CellRef) (bs : List (List (Placed Held))) → map (λ (r : CellRef). r.number) rs ≡ starts bs → list_all (λ (r : CellRef). r.number == 0) rs ≡ false → bucket_nodes bs ≢ []
not_all_none [] bs same some none = cc
not_all_none (r ∷ rs) [] same some none = cc
not_all_none (r ∷ rs) (b ∷ bs) same some none =
    let both = none_both (segment b 0) (bucket_nodes bs) none in
    let zero : r.number ≡ 0 = ap (λ (ns : List ℕ). get_or ns 0 0) same ∙ none_begins b both.0 in
    not_all_none rs bs (ap (λ (ns : List ℕ). drop 1 ns) same)
    (sym (ap (λ (t : Bool). t && list_all (λ (q : CellRef). q.number == 0) rs) (eq-eqb r.number 0 zero)) ∙ some) both.1

-- the entries of a table's buckets stand
pub table_stand : (image : Image) (a : Around) → Stand IsWritten image (nodes_of a) → Stand IsWritten image (bucket_nodes (buckets_of a))
table_stand image a stand =
    let own = own_node a.number (starts (buckets_of a)) in
    let inner = (stand_parts IsWritten image own (bucket_nodes a.left ++ (segment a.bucket 0 ++ behind a)) (stand_parts IsWritten image (hash_nodes a.front) (own ++ (bucket_nodes a.left ++ (segment a.bucket 0 ++ behind a))) stand).1).1 in
    let left = stand_parts IsWritten image (bucket_nodes a.left) (segment a.bucket 0 ++ behind a) inner in
    let bucket = stand_parts IsWritten image (segment a.bucket 0) (behind a) left.1 in
    let right = (stand_parts IsWritten image (bucket_nodes a.right) (hash_nodes a.back) bucket.1).0 in
    subst (λ (xs : List (Node Held)). Stand IsWritten image xs) (sym (bucket_nodes_append a.left (a.bucket ∷ a.right)))
    (stand_together IsWritten image (bucket_nodes a.left) (segment a.bucket 0 ++ bucket_nodes a.right) left.0 (stand_together IsWritten image (segment a.bucket 0) (bucket_nodes a.right) bucket.0 right))

-- where a chain begins doesn't rest on what stands behind its first entry
pub same_begin : (front : List (Placed Held)) (p x : Placed Held) (back : List (Placed Held)) → start ((front ++ p ∷ []) ++ back) 0 ≡ start ((front ++ p ∷ []) ++ x ∷ back) 0
same_begin [] p x back = refl
same_begin (f ∷ fs) p x back = refl
