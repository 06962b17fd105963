-- Indexes beside each other: what a change of one leaves of another.
use Rattle.std.proofs.Common.{◌≡◌, ◌≢◌, ◌≤◌, ◌+◌, ◌-◌, ◌⊎◌, zero, suc, ℕ, List, [], ◌∷◌, length, slice_get, Option, Some, IsSome, true, inl, inr, refl, sym, ap, ap₂, subst, ◌∙◌, arith, nat_cmp}
use Rattle.std.proofs.lemmas.Bool.{false≢true}
use Rattle.std.proofs.lemmas.Map.Keys.{sorted_tail}
use Rattle.std.specs.List.Sorted.{IsStrictlySortedBy}
use Rattle.std.specs.Option.{option_map_or}
use Rattle.rdb_pages.specs.declared.cell.Cell.{Cell}
use Rattle.rdb_pages.specs.declared.cell.CellRef.{CellRef}
use Rattle.rdb_pages.specs.Pages.{zero_cell}
use Rattle.rdb_cells.specs.declared.kind.Kind.{Kind}
use Rattle.rdb_cells.specs.declared.kind.Kind.TheVariants.{Free, Row, Version, Object, HashTable, HashEntry, TreeNode, RtreeNode, PatriciaBranch, PatriciaEntry, ClassHead, IndexHead}
use Rattle.rdb_cells.specs.Images.{Image}
use Rattle.rdb_cells.specs.Index.{Nature, Lists, TakesKeyOf, KeepsAccount, IsOwn, PlansOnlyOwn, is_of_index, HasIndexCells, RestsOnNodes}
use Rattle.rdb_cells.specs.Keys.{Meaning, Sayings, says, SaySame, SameVersionCells, RestsOnVersions, IsUnlisted}
use Rattle.rdb_cells.specs.Links.{IsAmong, AreDisjoint, SameOn}
use Rattle.rdb_cells.specs.Records.{content, first_of}
use Rattle.rdb_cells.specs.Words.{kind_number, number_of, HasKind}
use Rattle.rdb_cells.specs.Work.{Work, reading, IsBlank, IsLeft, HasLeft}
use Rattle.rdb_cells.proofs.WorkLemmas.{left_blank}

-- a zero cell has the kind of a free one
kind_of_zero : (image : Image) (of : Kind) (n : ℕ) → image n ≡ Some zero_cell → HasKind image of n → number_of of ≡ 0
kind_of_zero image of n free has =
    let cells : Some has.0 ≡ Some zero_cell = sym has.1 ∙ free in
    sym has.2 ∙ ap (λ (o : Option Cell). option_map_or kind_number o 0) cells

index_kind : (of : Kind) → is_of_index of ≡ true → number_of of ≢ 0
index_kind Free is zero_kind = false≢true is
index_kind Row is zero_kind = false≢true is
index_kind Version is zero_kind = false≢true is
index_kind Object is zero_kind = false≢true is
index_kind HashTable is zero_kind = omega arith
index_kind HashEntry is zero_kind = omega arith
index_kind TreeNode is zero_kind = omega arith
index_kind RtreeNode is zero_kind = omega arith
index_kind PatriciaBranch is zero_kind = omega arith
index_kind PatriciaEntry is zero_kind = omega arith
index_kind ClassHead is zero_kind = false≢true is
index_kind IndexHead is zero_kind = false≢true is

-- the head and the nodes of an index aren't free
pub index_filled : (index : Nature) (said : Sayings) (image : Image) (listed : List CellRef) (nodes : List ℕ) → HasIndexCells index → index.Stands said image listed nodes → (n : ℕ) → image n ≡ Some zero_cell → ¬ IsAmong (index.head ∷ nodes) n
index_filled index said image listed nodes cells stands n free (inl same) =
    let e = kind_of_zero image IndexHead n free (subst (HasKind image IndexHead) same (cells said image listed nodes stands).head) in
    absurd (omega arith)
index_filled index said image listed nodes cells stands n free (inr within) =
    let node = (cells said image listed nodes stands).nodes n within in
    index_kind node.0 node.1 (kind_of_zero image node.0 n free node.2)

-- keys that rest on versions say the same again
module _ (keys : Meaning) (before after : Image) (rests : RestsOnVersions keys) (versions : SameVersionCells before after) where
  pub says_again : (listed : List CellRef) → SaySame (says keys before) (says keys after) listed
  says_again listed = record { versions = λ r within. sym (rests before after versions r.number); hashes = λ key. refl }

  pub unlisted_again : (listed : List CellRef) (version : CellRef) → IsUnlisted (says keys before) listed version → IsUnlisted (says keys after) listed version
  unlisted_again listed version unlisted = record {
    keyed = subst (λ (o : Option _). IsSome o) (rests before after versions version.number) unlisted.keyed;
    itself = unlisted.itself;
    otherwise = λ r within twins. unlisted.otherwise r within (record {
      first = twins.first;
      second = twins.second;
      is_first = rests before after versions version.number ∙ twins.is_first;
      is_second = rests before after versions r.number ∙ twins.is_second;
      ids = twins.ids;
      serials = twins.serials;
    });
  }

-- one index changes beside another
module _ (index other : Nature) (keys other_keys : Meaning) (before after : Work) (nodes now_nodes other_nodes : List ℕ) (other_listed : List CellRef)
    (own : (n : ℕ) → (content after.pairs n ≡ content before.pairs n) ⊎ IsOwn index nodes before n)
    (account : KeepsAccount before after nodes now_nodes)
    (versions : SameVersionCells (reading before) (reading after))
    (below : after.below ≡ before.below)
    (rests : RestsOnVersions other_keys)
    (cells : HasIndexCells other)
    (frame : RestsOnNodes other)
    (lists : Lists other other_keys (reading before) other_listed other_nodes)
    (apart : AreDisjoint (index.head ∷ nodes) (other.head ∷ other_nodes)) where
  blank_apart : (n : ℕ) → IsBlank before n → ¬ IsAmong (other.head ∷ other_nodes) n
  blank_apart n blank = index_filled other (says other_keys (reading before)) (reading before) other_listed other_nodes cells lists n blank.zero

  other_same : SameOn (other.head ∷ other_nodes) (reading before) (reading after)
  other_same n within = elim (own n) [
    | inl same ↦ ap₂ (λ (o : Option Cell) (image : Image). first_of o (image n)) same below
    | inr (inl head) ↦ absurd (apart n (inl (sym head)) within)
    | inr (inr (inl node)) ↦ absurd (apart n (inr node) within)
    | inr (inr (inr left)) ↦ absurd (blank_apart n (left_blank before n left) within)
  ]

  -- the other one lists the same in the same nodes
  pub other_lists : Lists other other_keys (reading after) other_listed other_nodes
  other_lists = frame (says other_keys (reading before)) (reading before) other_listed other_nodes lists (says other_keys (reading after)) (reading after) (says_again other_keys (reading before) (reading after) rests versions other_listed) other_same

  -- and the two are still apart
  pub still_disjoint : AreDisjoint (index.head ∷ now_nodes) (other.head ∷ other_nodes)
  still_disjoint n (inl head) = apart n (inl head)
  still_disjoint n (inr node) = elim (account.come n node) [
    | inl old ↦ apart n (inr old)
    | inr left ↦ blank_apart n (left_blank before n left)
  ]

pub disjoint_back : (ms ns : List ℕ) → AreDisjoint ms ns → AreDisjoint ns ms
disjoint_back ms ns apart n within also = apart n also within

-- a node of an index can't be taken
pub node_not_left : (index : Nature) (keys : Meaning) (w : Work) (listed : List CellRef) (nodes : List ℕ) → HasIndexCells index → Lists index keys (reading w) listed nodes → (n : ℕ) → IsAmong nodes n → ¬ IsLeft w n
node_not_left index keys w listed nodes cells lists n within left = index_filled index (says keys (reading w)) (reading w) listed nodes cells lists n (left_blank w n left).zero (inr within)

-- what isn't the index's own reads as before
pub reads_as_before : (index : Nature) (keys : Meaning) (before after : Work) (listed : List CellRef) (nodes : List ℕ) → Lists index keys (reading before) listed nodes → PlansOnlyOwn index keys before after → after.below ≡ before.below → (n : ℕ) → (¬ IsOwn index nodes before n) → reading after n ≡ reading before n
reads_as_before index keys before after listed nodes lists plans below n foreign = elim (plans listed nodes lists n) [
  | inl same ↦ ap₂ (λ (o : Option Cell) (image : Image). first_of o (image n)) same below
  | inr own ↦ absurd (foreign own)
]

-- where headers and rows say the same, the index takes a version's key as before
pub taken_again : (index : Nature) (keys : Meaning) (before after : Image) → RestsOnVersions keys → SameVersionCells before after → (version : CellRef) → TakesKeyOf index (says keys before) version → TakesKeyOf index (says keys after) version
taken_again index keys before after rests same version taken v now = taken v (rests before after same version.number ∙ now)

-- who can take more cells can take fewer
module _ (w : Work) where
  one_less : (cells : List ℕ) (k : ℕ) → length cells ≡ suc k → IsStrictlySortedBy nat_cmp cells → ((i n : ℕ) → slice_get cells i ≡ Some n → IsLeft w n) → HasLeft w k
  one_less [] k many sorted all = absurd (omega arith)
  one_less (x ∷ xs) k many sorted all = record {
    cells = xs;
    count = omega arith;
    ascending = sorted_tail nat_cmp x xs sorted;
    untaken = λ i n at. all (suc i) n at;
  }

  pub fewer_left : (m n k : ℕ) → k ≡ m + n → HasLeft w k → HasLeft w n
  fewer_left zero n k e has = let same : k ≡ n = omega arith in subst (HasLeft w) same has
  fewer_left (suc m) n k e has =
      let count = has.count in
      let many : length has.cells ≡ suc (m + n) = omega arith in
      fewer_left m n (m + n) refl (one_less has.cells (m + n) many has.ascending has.untaken)

pub fewer_than : (w : Work) (few many : ℕ) → few ≤ many → HasLeft w many → HasLeft w few
fewer_than w few many least has = fewer_left w (many - few) few many (omega arith) has
