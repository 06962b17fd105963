-- What tests show of plans that they write, and of versions that they read in a chain.
use Rattle.std.proofs.Common.{◌≡◌, ◌≢◌, ◌==◌, ℕ, List, [], ◌∷◌, ◌++◌, length, slice_get, Option, Some, None, IsSome, true, inl, inr, refl, sym, ap, subst, ◌∙◌, rules, arith, eq-eqb}
use Rattle.std.proofs.lemmas.Bool.{false≢true}
use Rattle.std.proofs.Permutation.{which}
use Rattle.std.specs.List.{Contains}
use Rattle.std.specs.Option.{option_map_or}
use Rattle.rdb_pages.specs.declared.cell.Cell.{Cell}
use Rattle.rdb_pages.specs.declared.cell.CellRef.{CellRef}
use Rattle.rdb_cells.specs.declared.pairs.Pair.{Pair}
use Rattle.rdb_cells.specs.Images.{Image, IsCell, SameImage, Writes}
use Rattle.rdb_cells.specs.Overlays.{AreCells}
use Rattle.rdb_cells.specs.Records.{names, planned}
use Rattle.rdb_cells.specs.VersionFormat.{header_in}
use Rattle.rdb_cells.specs.Words.{no_ref}
use Rattle.rdb_cells.proofs.ListedLemmas.{contains_first, contains_later}
use Rattle.rdb_cells.proofs.PairLemmas.{any_right, either}
use Rattle.rdb_objects.specs.Changes.{HasVersion}
use Rattle.rdb_objects.specs.Objects.{Object, newest_of, versions_of, newest_version}
use Rattle.rdb_objects.specs.Slots.{AreVersions, HoldsObjects, HoldsSome, Whatever}
use Rattle.rdb_objects.proofs.Adding.{version_there}
use Rattle.rdb_objects.proofs.LawLemmas.{rests}

-- Plans that are written

pub last_named : (ps : List Pair) (p : Pair) → names (ps ++ p ∷ []) p.at.number ≡ true
last_named [] p = rw (eq-eqb p.at.number p.at.number refl) refl
last_named (q ∷ ps) p = any_right (q.at.number == p.at.number) (names (ps ++ p ∷ []) p.at.number) (last_named ps p)

pub still_named : (ps : List Pair) (p : Pair) (n : ℕ) → names ps n ≡ true → names (ps ++ p ∷ []) n ≡ true
still_named [] p n named = absurd (false≢true named)
still_named (q ∷ ps) p n named = elim (either (q.at.number == n) (names ps n) named) [
  | inl here ↦ rw here refl
  | inr later ↦ any_right (q.at.number == n) (names (ps ++ p ∷ []) n) (still_named ps p n later)
]

-- a cell stays one after a write
there_still : (before after : Image) (at n : ℕ) (cell : Cell) → Writes before after at cell → IsCell before n → IsCell after n
there_still before after at n cell writes there = elim (which n at) [
  | inl same ↦ subst (λ (o : Option Cell). IsSome o) (sym (ap after same ∙ writes.here)) (search rules)
  | inr other ↦ subst (λ (o : Option Cell). IsSome o) (sym (writes.elsewhere n other)) there
]

-- the pairs that are left, once the newest one is written, are of cells
pub cells_left : (ps : List Pair) (p : Pair) (before after : Image) → AreCells before (ps ++ p ∷ []) → Writes before after p.at.number p.cell → AreCells after ps
cells_left ps p before after cells writes n named = there_still before after p.at.number n p.cell writes (cells n (still_named ps p n named))

-- without pairs cells are read as they stand
pub none_planned : (ps : List Pair) → length ps ≡ 0 → (image : Image) → SameImage image (planned ps image)
none_planned [] none image n = refl
none_planned (p ∷ ps) none image n = absurd (omega arith)

-- two images that hold the same hold the same objects
pub same_holds : (before after : Image) → SameImage after before → HoldsSome before 0 → HoldsSome after 0
same_holds before after same holds = (
  holds.0,
  holds.1,
  rests before after 0 holds.0 holds.1 holds.2 (λ n within. same n) (λ id version older within is. record {
    some = is.some;
    cell = is.cell;
    here = same version.number ∙ is.here;
    kind = is.kind;
    of_object = is.of_object;
    leads = is.leads;
  }),
)

-- Chains

-- the versions of an object with a newest one
record NewestOf (image : Image) (id : ℕ) (version : CellRef) : Type 0 where
  pub objects : List Object
  pub cells : List ℕ
  pub holds : HoldsObjects image 0 objects cells
  pub others : List CellRef
  pub versions : versions_of objects id ≡ version ∷ others
  pub stand : AreVersions image id (version ∷ others)

first_and_others : (vs : List CellRef) (version : CellRef) → Some version ≡ slice_get vs 0 → (others : List CellRef) × (vs ≡ version ∷ others)
first_and_others [] version is = absurd (nothing is)
  where
    nothing : Some version ≡ None → ⊥
    nothing e = cc
first_and_others (v ∷ vs) version is = (vs, ap (λ (u : CellRef). u ∷ vs) (ap (λ (o : Option CellRef). option_map_or (λ u. u) o v) (sym is)))

newest_in : (image : Image) (id : ℕ) (version : CellRef) → HoldsSome image 0 → Whatever image 0 (λ objects cells. Some version ≡ newest_version objects id) → NewestOf image id version
newest_in image id version holds is =
    let list = first_and_others (versions_of holds.0 id) version (is holds.0 holds.1 holds.2) in
    record {
      objects = holds.0;
      cells = holds.1;
      holds = holds.2;
      others = list.0;
      versions = list.1;
      stand = elim (holds.2.objects_are.slotted id) [
        | inl none ↦ absurd (nothing list.0 (sym none ∙ list.1))
        | inr slot ↦
            let told : versions_of holds.0 id ≡ slot.0.versions = ap (versions_of holds.0) (sym slot.2) ∙ holds.2.objects_are.told slot.0 slot.1 in
            subst (λ (vs : List CellRef). AreVersions image id vs) (sym told ∙ list.1)
            (subst (λ (k : ℕ). AreVersions image k slot.0.versions) slot.2 (holds.2.versions slot.0 slot.1).1)
      ];
    }
  where
    nothing : (others : List CellRef) → [] ≡ version ∷ others → ⊥
    nothing others e = cc

pub newest_there : (image : Image) (id : ℕ) (version : CellRef) → HoldsSome image 0 → Whatever image 0 (λ objects cells. Some version ≡ newest_version objects id) → IsCell image version.number
newest_there image id version holds is =
    let newest = newest_in image id version holds is in
    version_there image id version (newest_of newest.others) newest.stand.0

second_contained : (v w : CellRef) (others : List CellRef) → w ≡ newest_of others → w ≢ no_ref → Contains (v ∷ others) w
second_contained v w [] is some = absurd (some is)
second_contained v w (u ∷ us) is some = subst (λ (r : CellRef). Contains (v ∷ u ∷ us) r) (sym is) (contains_later v u (u ∷ us) (contains_first u us))

-- the version to which the newest one leads is one of the object's
pub has_second : (image : Image) (id : ℕ) (version : CellRef) (cell : Cell) (second : CellRef) → HoldsSome image 0 → Whatever image 0 (λ objects cells. Some version ≡ newest_version objects id) → image version.number ≡ Some cell → second ≡ (header_in cell).older → second ≢ no_ref → HasVersion image 0 id second
has_second image id version cell second holds is here older some =
    let newest = newest_in image id version holds is in
    let same : newest.stand.0.cell ≡ cell = ap (λ (o : Option Cell). option_map_or (λ c. c) o cell) (sym newest.stand.0.here ∙ here) in
    let leads : second ≡ newest_of newest.others = older ∙ ap (λ (c : Cell). (header_in c).older) (sym same) ∙ newest.stand.0.leads in
    record {
      objects = newest.objects;
      cells = newest.cells;
      holds = newest.holds;
      within = subst (λ (vs : List CellRef). Contains vs second) (sym newest.versions) (second_contained version second newest.others leads some);
    }
