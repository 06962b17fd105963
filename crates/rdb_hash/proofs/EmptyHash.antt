-- An empty hash index under an overlay with nothing planned.
use Rattle.std.proofs.Common.{◌≡◌, ◌≢◌, ◌<◌, ◌≤◌, ◌+◌, ◌⊎◌, zero, suc, ℕ, List, [], ◌∷◌, slice_get, Bool, cond, Option, Some, IsSome, inl, inr, refl, sym, ap, subst, ◌∙◌, arith, rules, nat_cmp}
use Rattle.std.proofs.lemmas.Bool.{ne_eqb}
use Rattle.std.proofs.lemmas.List.Sorted.{Contains-permutation, IsPermutation-sym}
use Rattle.std.specs.List.{Contains}
use Rattle.std.specs.List.Sorted.{IsStrictlySortedBy}
use Rattle.std.specs.Prelude.{IsPermutation}
use Rattle.rdb_base.specs.declared.value.Value.{Value}
use Rattle.rdb_pages.specs.declared.cell.Cell.{Cell}
use Rattle.rdb_pages.specs.declared.cell.CellRef.{CellRef}
use Rattle.rdb_cells.specs.declared.kind.Kind.TheVariants as kind
use Rattle.rdb_cells.specs.HeadFormat.{index_head_cell, empty_index_head}
use Rattle.rdb_cells.specs.Images.{Image, IsFree}
use Rattle.rdb_cells.specs.Index.{LacksVersion}
use Rattle.rdb_cells.specs.Keys.{Version, Sayings, AreTwins, IsUnlisted, ListsVersions, times_listed, says}
use Rattle.rdb_cells.specs.OneKey.{one_meaning, version_of_header}
use Rattle.rdb_cells.specs.Untaken.{IsUntaken}
use Rattle.rdb_cells.specs.VersionFormat.{header_in}
use Rattle.rdb_cells.specs.Words.{IsOfKind}
use Rattle.rdb_cells.specs.Work.{HasLeft}
use Rattle.rdb_cells.proofs.KeyLemmas.{held_version}
use Rattle.rdb_cells.proofs.ListedLemmas.{contains_either, contains_first, contains_later}
use Rattle.rdb_hash.specs.HashLaws.{hash_starts_empty}
use Rattle.rdb_hash.specs.Shape.{hash_nature}
use Rattle.rdb_hash.proofs.EqualLemmas.{counts, counts_it, counts_more}
use Rattle.rdb_hash.proofs.ListPlaces.{some_is}

counts_not : (q r : CellRef) (rs : List CellRef) → q.number ≢ r.number → times_listed (q ∷ rs) r ≡ times_listed rs r
counts_not q r rs apart = counts q r rs ∙ ap (λ (b : Bool). cond b 1 0 + times_listed rs r) (ne_eqb q.number r.number apart) ∙ omega arith

nothing_there : (x : CellRef) → ¬ Contains [] x
nothing_there x within = let below : within.0 < 0 = within.1 in absurd (omega arith)

pub lacks_it : (key : List Value) (image : Image) (class head : ℕ) (version : CellRef) (cell : Cell) → image head ≡ Some (index_head_cell empty_index_head) → image version.number ≡ Some cell → IsOfKind cell kind.Version → LacksVersion (hash_nature class head) (one_meaning key) image version
lacks_it key image class head version cell empty held is_header = record {
  listed = [];
  nodes = [];
  lists = hash_starts_empty class head (says (one_meaning key) image) image empty;
  unlisted = record {
    keyed = subst (λ (o : Option Version). IsSome o) (sym (held_version key (image version.number) cell held is_header)) (search rules);
    itself = nothing_there version;
    otherwise = λ r within. absurd (nothing_there r within);
  };
  taken = λ v e. tt;
}

at_least_once : (rs : List CellRef) (r : CellRef) → Contains rs r → 1 ≤ times_listed rs r
at_least_once [] r within = absurd (nothing_there r within)
at_least_once (q ∷ rs) r within = elim (contains_either q rs r within) [
  | inl same ↦ (let e = counts_it q r rs (ap (λ (x : CellRef). x.number) same) in omega arith)
  | inr later ↦ (let rest = at_least_once rs r later in let more = counts_more q r rs in omega arith)
]

-- a version that can be listed beside others isn't among them
pub unlisted_beside : (said : Sayings) (version : CellRef) (others listed : List CellRef) → ListsVersions said (version ∷ others) → IsPermutation others listed → IsUnlisted said listed version
unlisted_beside said version others listed lists order =
    let within_others : (r : CellRef) → Contains listed r → Contains others r = λ r within. Contains-permutation listed others r (IsPermutation-sym others listed order) within in
    let itself : ¬ Contains listed version = λ within.
    let once = lists.once version (contains_first version others) in
    let e = counts_it version version others refl in
    let again = at_least_once others version (within_others version within) in
    absurd (omega arith) in
    record {
      keyed = lists.keyed version (contains_first version others);
      itself = itself;
      otherwise = λ r within twins. itself (subst (λ (x : CellRef). Contains listed x) (sym (lists.differ version r (contains_first version others) (contains_later version r others (within_others r within)) twins)) within);
    }

-- two headers of different ids
module _ (key : List Value) (image : Image) (first second : CellRef) (one other : Cell)
    (one_is : image first.number ≡ Some one) (one_kind : IsOfKind one kind.Version)
    (other_is : image second.number ≡ Some other) (other_kind : IsOfKind other kind.Version)
    (apart : first.number ≢ second.number) (ids : (header_in one).id ≢ (header_in other).id) where
  first_is : (says (one_meaning key) image).version_of first.number ≡ Some (version_of_header key one)
  first_is = held_version key (image first.number) one one_is one_kind

  second_is : (says (one_meaning key) image).version_of second.number ≡ Some (version_of_header key other)
  second_is = held_version key (image second.number) other other_is other_kind

  one_of : (r : CellRef) → Contains (second ∷ first ∷ []) r → (second ≡ r) ⊎ (first ≡ r)
  one_of r within = elim (contains_either second (first ∷ []) r within) [
    | inl same ↦ inl same
    | inr later ↦ elim (contains_either first [] r later) [
      | inl same ↦ inr same
      | inr none ↦ absurd (nothing_there r none)
    ]
  ]

  -- twins have one id
  id_at : (r : CellRef) (v w : Version) → (says (one_meaning key) image).version_of r.number ≡ Some v → (says (one_meaning key) image).version_of r.number ≡ Some w → v.id ≡ w.id
  id_at r v w is also = ap (λ (u : Version). u.id) (some_is v w (sym is ∙ also))

  no_twins : ¬ AreTwins (says (one_meaning key) image) second first
  no_twins twins = ids (sym (id_at first twins.second (version_of_header key one) twins.is_second first_is) ∙ sym twins.ids ∙ id_at second twins.first (version_of_header key other) twins.is_first second_is)

  no_twins_back : ¬ AreTwins (says (one_meaning key) image) first second
  no_twins_back twins = ids (sym (id_at first twins.first (version_of_header key one) twins.is_first first_is) ∙ twins.ids ∙ id_at second twins.second (version_of_header key other) twins.is_second second_is)

  pub two_versions : ListsVersions (says (one_meaning key) image) (second ∷ first ∷ [])
  two_versions = record {
    keyed = λ r within. elim (one_of r within) [
      | inl same ↦ subst (λ (x : CellRef). IsSome ((says (one_meaning key) image).version_of x.number)) same (subst (λ (o : Option Version). IsSome o) (sym second_is) (search rules))
      | inr same ↦ subst (λ (x : CellRef). IsSome ((says (one_meaning key) image).version_of x.number)) same (subst (λ (o : Option Version). IsSome o) (sym first_is) (search rules))
    ];
    once = λ r within. elim (one_of r within) [
      | inl same ↦ (let here = counts_it second r (first ∷ []) (ap (λ (x : CellRef). x.number) same) in let not_there = counts_not first r [] (λ e. apart (e ∙ sym (ap (λ (x : CellRef). x.number) same))) in here ∙ ap suc not_there)
      | inr same ↦ (let not_here = counts_not second r (first ∷ []) (λ e. apart (ap (λ (x : CellRef). x.number) same ∙ sym e)) in let there = counts_it first r [] (ap (λ (x : CellRef). x.number) same) in not_here ∙ there)
    ];
    differ = λ q r q_within r_within twins. elim (one_of q q_within) [
      | inl q_same ↦ elim (one_of r r_within) [
        | inl r_same ↦ sym q_same ∙ r_same
        | inr r_same ↦ absurd (no_twins (subst (λ (x : CellRef). AreTwins (says (one_meaning key) image) x first) (sym q_same) (subst (λ (x : CellRef). AreTwins (says (one_meaning key) image) q x) (sym r_same) twins)))
      ]
      | inr q_same ↦ elim (one_of r r_within) [
        | inl r_same ↦ absurd (no_twins_back (subst (λ (x : CellRef). AreTwins (says (one_meaning key) image) x second) (sym q_same) (subst (λ (x : CellRef). AreTwins (says (one_meaning key) image) q x) (sym r_same) twins)))
        | inr r_same ↦ sym q_same ∙ r_same
      ]
    ];
  }

-- four free cells, each above the one before
module _ (image : Image) (class_of : ℕ → Option ℕ) (of a b c d : ℕ) (some : 0 < a) (a_free : IsFree image class_of of a) (ab : a < b) (b_free : IsFree image class_of of b) (bc : b < c) (c_free : IsFree image class_of of c) (cd : c < d) (d_free : IsFree image class_of of d) where
  untaken : (n : ℕ) → 0 < n → IsFree image class_of of n → IsUntaken [] image class_of of 0 n
  untaken n above free = record { above = above; free = free; unplanned = refl }

  left : (i n : ℕ) → slice_get (a ∷ b ∷ c ∷ d ∷ []) i ≡ Some n → IsUntaken [] image class_of of 0 n
  left zero n at = subst (λ (k : ℕ). IsUntaken [] image class_of of 0 k) (some_is a n at) (untaken a some a_free)
  left (suc zero) n at = subst (λ (k : ℕ). IsUntaken [] image class_of of 0 k) (some_is b n at) (untaken b (omega arith) b_free)
  left (suc (suc zero)) n at = subst (λ (k : ℕ). IsUntaken [] image class_of of 0 k) (some_is c n at) (untaken c (omega arith) c_free)
  left (suc (suc (suc zero))) n at = subst (λ (k : ℕ). IsUntaken [] image class_of of 0 k) (some_is d n at) (untaken d (omega arith) d_free)
  left (suc (suc (suc (suc i)))) n at = cc

  ascend : IsStrictlySortedBy nat_cmp (a ∷ b ∷ c ∷ d ∷ [])
  unfolding IsStrictlySortedBy
  ascend = search rules

  pub four_left : HasLeft (record { below = image; class_of = class_of; pairs = []; room = 150; class = of; taken = 0 }) 4
  four_left = record {
    cells = a ∷ b ∷ c ∷ d ∷ [];
    count = refl;
    ascending = ascend;
    untaken = left;
  }
