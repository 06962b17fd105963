-- The claim of an operation: free cells for it, and how small it is.
use Rattle.std.proofs.Common.{◌≡◌, ◌<◌, ◌≤◌, ◌+◌, ◌*◌, ◌∷◌, ℕ, zero, suc, List, [], length, map, take, get_or, sum_by, All, Option, Some, None, slice_get, refl, sym, ap, subst, ◌∙◌, arith}
use Rattle.std.specs.List.{AllByRecursion}
use Rattle.std.specs.List.Sorted.{IsStrictlySortedBy}
use Rattle.std.specs.Option.{option_map_or}
use Rattle.std.specs.Ordering.{nat_cmp}
use Rattle.std.proofs.lemmas.List.{length-take}
use Rattle.std.proofs.lemmas.List.Sums.{sum_by-cons, sum_by-le}
use Rattle.std.proofs.lemmas.Option.{get_or_from_slice_get, slice_get_within}
use Rattle.rdb_base.specs.declared.operation.Op.{Op}
use Rattle.rdb_base.specs.declared.operation.Op.TheVariants as op
use Rattle.rdb_schema.specs.declared.schema.Class.{Class}
use Rattle.rdb_schema.specs.declared.schema.IndexDecl.{IndexDecl}
use Rattle.rdb_schema.specs.declared.schema.IndexKind.{IndexKind}
use Rattle.rdb_schema.specs.declared.schema.IndexKind.TheVariants.{Hash, Patricia, Rtree, Tree}
use Rattle.rdb_schema.specs.declared.schema.Schema.{Schema}
use Rattle.rdb_schema.specs.Indexes.{indexes_of}
use Rattle.rdb_schema.specs.Limits.{IsSmallClass}
use Rattle.rdb_schema.specs.Schemas.{IsSchema}
use Rattle.rdb_cells.specs.Images.{Image}
use Rattle.rdb_cells.specs.Untaken.{HasUntaken}
use Rattle.rdb_space.specs.Claim.{claim_of, claim_of_row, index_part, part_of_kind, row_cells}
use Rattle.rdb_space.specs.Memory.{HasFree}
use Rattle.rdb_store.specs.Shapes.{IndexShape, claim_in, class_shape, index_shape}

-- the first of some ascending numbers ascend
all_taken : (P : ℕ → Type 0) (many : ℕ) (xs : List ℕ) → AllByRecursion P xs → AllByRecursion P (take many xs)
all_taken P zero xs all = tt
all_taken P (suc many) [] all = tt
all_taken P (suc many) (x ∷ xs) all = (all.0, all_taken P many xs all.1)

ascending_taken : (many : ℕ) (xs : List ℕ) → IsStrictlySortedBy nat_cmp xs → IsStrictlySortedBy nat_cmp (take many xs)
unfolding IsStrictlySortedBy
ascending_taken zero xs sorted = tt
ascending_taken (suc many) [] sorted = tt
ascending_taken (suc many) (x ∷ xs) sorted = (all_taken _ many xs sorted.0, ascending_taken many xs sorted.1)

taken_there : (many : ℕ) (xs : List ℕ) (i n : ℕ) → slice_get (take many xs) i ≡ Some n → slice_get xs i ≡ Some n
taken_there zero xs i n there = absurd (let no : None ≡ Some n = there in cc)
taken_there (suc many) [] i n there = there
taken_there (suc many) (x ∷ xs) zero n there = there
taken_there (suc many) (x ∷ xs) (suc i) n there = taken_there many xs i n there

-- of the free cells of a class, so many can be taken
pub untaken_free : (image : Image) (class_of : ℕ → Option ℕ) (class count many : ℕ) → HasFree image class_of class count → many ≤ count → HasUntaken [] image class_of class 0 many
untaken_free image class_of class count many f enough = record {
  cells = take many f.free;
  count = let long = length-take many f.free in let is = f.count_is in omega (arith, long, is, enough);
  ascending = ascending_taken many f.free f.listed.ascending;
  untaken = λ i n there.
      let free = f.listed.listed i n (taken_there many f.free i n there) in
      record { above = (let page = free.page.0 in omega (arith, page)); free = free; unplanned = refl };
}

-- the parts of the indexes of a class are those of its shape
sum_mapped : (xs : List IndexDecl) → sum_by (λ (i : IndexShape). part_of_kind i.kind) (map index_shape xs) ≡ sum_by index_part xs
sum_mapped [] = refl
sum_mapped (x ∷ xs) =
    sum_by-cons (λ (i : IndexShape). part_of_kind i.kind) (index_shape x) (map index_shape xs)
    ∙ ap (λ (n : ℕ). index_part x + n) (sum_mapped xs)
    ∙ sym (sum_by-cons index_part x xs)

pub claim_same : (schema : Schema) (class bytes : ℕ) → claim_in (class_shape schema class) bytes ≡ claim_of_row schema class bytes
claim_same schema class bytes = ap (λ (n : ℕ). row_cells bytes + 2 + n) (sum_mapped (indexes_of schema class))

-- a claim is small
part_small : (k : IndexKind) → part_of_kind k ≤ 12
part_small Hash = omega arith
part_small Tree = omega arith
part_small Rtree = omega arith
part_small Patricia = omega arith

all_at : {A : Type 0} (P : A → Type 0) (xs : List A) (i : ℕ) (x : A) → All P xs → slice_get xs i ≡ Some x → P x
all_at P xs i x all at = subst P (get_or_from_slice_get xs i x x at) (all i x (slice_get_within xs i x at))

few_indexes : (schema : Schema) (class : ℕ) → IsSchema schema → length (indexes_of schema class) ≤ 8
few_indexes schema class is = go (slice_get schema.classes class) refl
  where
    go : (o : Option Class) → slice_get schema.classes class ≡ o → length (option_map_or (λ (k : Class). k.indexes) o []) ≤ 8
    go None at = omega arith
    go (Some k) at = (all_at IsSmallClass schema.classes class k is.limits.classes at).indexes

row_claim_small : (schema : Schema) (class bytes : ℕ) → IsSchema schema → bytes ≤ 4000 → claim_of_row schema class bytes ≤ 1024
row_claim_small schema class bytes is short =
    let few = few_indexes schema class is in
    let parts = sum_by-le index_part 12 (indexes_of schema class) (λ k d lt. part_small (get_or (indexes_of schema class) k d).kind) in
    let cells : row_cells bytes ≤ 68 = omega (arith, short) in
    omega (arith, few, parts, cells)

pub claim_small : (schema : Schema) (o : Op) (bytes : ℕ) → IsSchema schema → bytes ≤ 4000 → claim_of schema o bytes ≤ 1024
claim_small schema (op.New class row id) bytes is short = row_claim_small schema class bytes is short
claim_small schema (op.Put class id row) bytes is short = row_claim_small schema class bytes is short
claim_small schema (op.Del class id) bytes is short = omega arith
claim_small schema (op.Get class id) bytes is short = omega arith
claim_small schema (op.Find class index key) bytes is short = omega arith
claim_small schema (op.Seek class index place up) bytes is short = omega arith
claim_small schema (op.Area class index rect inside) bytes is short = omega arith
claim_small schema (op.Prefix class index text how) bytes is short = omega arith
claim_small schema (op.Count class) bytes is short = omega arith
