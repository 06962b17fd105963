-- What changes make of an index that lists these versions.
use Rattle.std.proofs.Common.{◌≡◌, ◌≢◌, ◌<◌, ◌+◌, ◌==◌, ℕ, List, [], ◌∷◌, Bool, cond, inl, inr, refl, sym, ap, subst, ◌∙◌, arith, eq-eqb}
use Rattle.std.proofs.lemmas.Bool.{ne_eqb}
use Rattle.std.proofs.lemmas.List.Sums.{sum_by-cons}
use Rattle.std.proofs.lemmas.List.Sorted.{sum_by-IsPermutation}
use Rattle.std.proofs.Permutation.{which}
use Rattle.std.specs.List.{Contains}
use Rattle.std.specs.Prelude.{IsPermutation}
use Rattle.rdb_pages.specs.declared.cell.CellRef.{CellRef}
use Rattle.rdb_cells.specs.Images.{Image, SameImage}
use Rattle.rdb_cells.specs.Index.{Nature, LacksVersion, HasVersion, Puts, Removes, RestsOnNodes}
use Rattle.rdb_cells.specs.Keys.{Meaning, Sayings, says, SameVersionCells, RestsOnVersions, IsUnlisted, times_listed, ListsVersions}
use Rattle.rdb_cells.specs.Overlays.{Laid}
use Rattle.rdb_cells.specs.Records.{Record}
use Rattle.rdb_cells.specs.Work.{Work, reading}
use Rattle.rdb_cells.proofs.IndexLemmas.{says_again}
use Rattle.rdb_cells.proofs.ListedLemmas.{contains_either, contains_first, contains_later}
use Rattle.rdb_trials.specs.Kept.{ListAlike, IsKept, Lacks, empty_plan}

-- how often a version is listed, by the first of a list and its rest
pub counts : (q r : CellRef) (rs : List CellRef) → times_listed (q ∷ rs) r ≡ cond (q.number == r.number) 1 0 + times_listed rs r
counts q r rs = sum_by-cons (λ (x : CellRef). cond (x.number == r.number) 1 0) q rs

counts_it : (q r : CellRef) (rs : List CellRef) → q.number ≡ r.number → times_listed (q ∷ rs) r ≡ 1 + times_listed rs r
counts_it q r rs same = counts q r rs ∙ ap (λ (b : Bool). cond b 1 0 + times_listed rs r) (eq-eqb q.number r.number same)

counts_not : (q r : CellRef) (rs : List CellRef) → q.number ≢ r.number → times_listed (q ∷ rs) r ≡ times_listed rs r
counts_not q r rs apart = counts q r rs ∙ ap (λ (b : Bool). cond b 1 0 + times_listed rs r) (ne_eqb q.number r.number apart) ∙ omega arith

same_ref : (q r : CellRef) → q.number ≡ r.number → q ≡ r
same_ref q r same = ap (λ (n : ℕ). record { number = n }) same

pub contained : (r : CellRef) (rs : List CellRef) → 0 < times_listed rs r → Contains rs r
contained r [] some = absurd (omega arith)
contained r (q ∷ rs) some = elim (which q.number r.number) [
  | inl same ↦ subst (λ (x : CellRef). Contains (q ∷ rs) x) (same_ref q r same) (contains_first q rs)
  | inr apart ↦ (let e = counts_not q r rs apart in contains_later q r rs (contained r rs (omega arith)))
]

pub often : (r : CellRef) (rs : List CellRef) → Contains rs r → 0 < times_listed rs r
often r [] within = let below = within.1 in absurd (omega arith)
often r (q ∷ rs) within = elim (contains_either q rs r within) [
  | inl same ↦ (let e = counts_it q r rs (ap (λ (x : CellRef). x.number) same) in omega arith)
  | inr later ↦ (let rest = often r rs later in let e = counts q r rs in omega arith)
]

-- lists that are alike contain the same
pub contained_alike : (these listed : List CellRef) (r : CellRef) → ListAlike these listed → Contains listed r → Contains these r
contained_alike these listed r alike within = let e = alike r in let some = often r listed within in contained r these (omega arith)

pub contained_back : (these listed : List CellRef) (r : CellRef) → ListAlike these listed → Contains these r → Contains listed r
contained_back these listed r alike within = let e = alike r in let some = often r these within in contained r listed (omega arith)

pub alike_permuted : (these listed : List CellRef) → IsPermutation these listed → ListAlike these listed
alike_permuted these listed order r = sum_by-IsPermutation (λ (x : CellRef). cond (x.number == r.number) 1 0) these listed order

-- a version that can be listed besides isn't listed
unlisted_in : (said : Sayings) (version : CellRef) (these listed : List CellRef) → ListsVersions said (version ∷ these) → ListAlike these listed → IsUnlisted said listed version
unlisted_in said version these listed lists alike =
    let itself : ¬ Contains listed version = λ within.
    let once = lists.once version (contains_first version these) in
    let e = counts_it version version these refl in
    let again = often version listed within in
    let same = alike version in
    absurd (omega arith) in
    record {
      keyed = lists.keyed version (contains_first version these);
      itself = itself;
      otherwise = λ r within twins. itself (subst (λ (x : CellRef). Contains listed x) (sym (lists.differ version r (contains_first version these) (contains_later version r these (contained_alike these listed r alike within)) twins)) within);
    }

cancel : (k a b s t : ℕ) → s ≡ k + a → t ≡ k + b → s ≡ t → a ≡ b
cancel k a b s t first second same = omega arith

module _ (index : Nature) (keys : Meaning) where
  pub lacks_it : (image : Image) (these : List CellRef) (version : CellRef) → Lacks index keys image these version → LacksVersion index keys image version
  lacks_it image these version lacks = record {
    listed = lacks.kept.listed;
    nodes = lacks.kept.nodes;
    lists = lacks.kept.lists;
    unlisted = unlisted_in (says keys image) version these lacks.kept.listed lacks.versions lacks.kept.alike;
    taken = lacks.taken;
  }

  pub kept_put : (before after : Work) (these : List CellRef) (version : CellRef) → Puts index keys before after version → Lacks index keys (reading before) these version → IsKept index keys (reading after) (version ∷ these)
  kept_put before after these version puts lacks =
      let listed = lacks.kept.listed in
      let came = puts listed lacks.kept.nodes lacks.kept.lists (unlisted_in (says keys (reading before)) version these listed lacks.versions lacks.kept.alike) in
      record {
        listed = came.0.listed;
        nodes = came.0.now_nodes;
        lists = came.0.lists;
        alike = λ r. alike_permuted (version ∷ listed) came.0.listed came.1 r ∙ counts version r listed
            ∙ ap (λ (n : ℕ). cond (version.number == r.number) 1 0 + n) (lacks.kept.alike r) ∙ sym (counts version r these);
      }

  has_within : (image : Image) (left : List CellRef) (version : CellRef) (kept : IsKept index keys image (version ∷ left)) → Contains kept.listed version
  has_within image left version kept = contained_back (version ∷ left) kept.listed version kept.alike (contains_first version left)

  pub has_it : (image : Image) (left : List CellRef) (version : CellRef) → IsKept index keys image (version ∷ left) → HasVersion index keys image version
  has_it image left version kept = record {
    listed = kept.listed;
    nodes = kept.nodes;
    lists = kept.lists;
    within = has_within image left version kept;
  }

  pub kept_removed : (before after : Work) (left : List CellRef) (version : CellRef) → Removes index keys before after version → IsKept index keys (reading before) (version ∷ left) → IsKept index keys (reading after) left
  kept_removed before after left version removes kept =
      let gone = removes kept.listed kept.nodes kept.lists (has_within (reading before) left version kept) in
      record {
        listed = gone.0.listed;
        nodes = gone.0.now_nodes;
        lists = gone.0.lists;
        alike = λ r. cancel (cond (version.number == r.number) 1 0) (times_listed gone.0.listed r) (times_listed left r) (times_listed (version ∷ gone.0.listed) r) (times_listed (version ∷ left) r)
            (counts version r gone.0.listed) (counts version r left) (sym (alike_permuted (version ∷ gone.0.listed) kept.listed gone.1 r) ∙ kept.alike r);
      }

  -- in an image that holds the same the index lists the same
  pub kept_written : (a b : Image) (these : List CellRef) → RestsOnVersions keys → RestsOnNodes index → SameImage b a → IsKept index keys a these → IsKept index keys b these
  kept_written a b these rests frame same kept =
      let versions : SameVersionCells a b = λ n cell of. (λ is. same n ∙ is, λ is. sym (same n) ∙ is) in
      record {
        listed = kept.listed;
        nodes = kept.nodes;
        lists = frame (says keys a) a kept.listed kept.nodes kept.lists (says keys b) b (says_again keys a b rests versions kept.listed) (λ n within. same n);
        alike = kept.alike;
      }

-- the same cells of versions in an image that holds the same as a third
pub versions_written : (a b c : Image) → SameVersionCells a b → SameImage c b → SameVersionCells a c
versions_written a b c versions same n cell of = (λ is. same n ∙ (versions n cell of).0 is, λ is. (versions n cell of).1 (sym (same n) ∙ is))

-- an overlay with an empty plan
pub fresh : {X : Type 0} (cells : X) (class : ℕ) (o : Laid X) (plan : Record) → o ≡ record { cells = cells; plan = plan; class = class; taken = record { number = 0 } } → plan ≡ empty_plan → record { cells = cells; plan = empty_plan; class = class; taken = record { number = 0 } } ≡ o
fresh cells class o plan laid empty = sym (laid ∙ ap (λ (p : Record). record { cells = cells; plan = p; class = class; taken = record { number = 0 } }) empty)
