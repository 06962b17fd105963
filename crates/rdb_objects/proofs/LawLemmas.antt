-- What objects in cells rest on, and that a version is of one object.
use Rattle.std.proofs.Common.{◌≡◌, ℕ, List, [], ◌∷◌, inl, inr, refl, sym, ap, subst, ◌∙◌}
use Rattle.std.specs.List.{Contains}
use Rattle.rdb_pages.specs.declared.cell.CellRef.{CellRef}
use Rattle.rdb_cells.specs.HeadFormat.{class_head_cell, empty_class_head}
use Rattle.rdb_cells.specs.Images.{Image}
use Rattle.rdb_cells.specs.Links.{IsAmong, AreOnce}
use Rattle.rdb_cells.proofs.ListedLemmas.{contains_first, contains_later}
use Rattle.rdb_objects.specs.Changes.{RestsOnObjects, LeavesObjects, StartsEmpty, OfOneObject, HasObjectCells}
use Rattle.rdb_objects.specs.Objects.{Object, newest_of, versions_of}
use Rattle.rdb_objects.specs.Slots.{IsVersion, AreVersions, HoldsObjects}
use Rattle.rdb_objects.proofs.ChainLemmas.{one_header, chain_member, contained}
use Rattle.rdb_objects.proofs.Removing.{header_not_free}
use Rattle.rdb_objects.proofs.TreeLemmas.{in_cells, slot_in_cell}
use Rattle.rdb_objects.proofs.TreeSteps.{tree_beside, free_no_head, free_no_slot}

still_versions : (before after : Image) (id : ℕ) (vs : List CellRef) → ((v older : CellRef) → Contains vs v → IsVersion before id v older → IsVersion after id v older) → AreVersions before id vs → AreVersions after id vs
still_versions before after id [] same are = tt
still_versions before after id (v ∷ vs) same are = (same v (newest_of vs) (contains_first v vs) are.0, still_versions before after id vs (λ u older within. same u older (contains_later v u vs within)) are.1)

pub rests : RestsOnObjects
rests before after class objects cells holds same links = record {
  slots = holds.slots;
  tree = tree_beside before after class holds.slots holds.tree (same _ (inl refl))
      (λ s one. same s.number (inr (subst (λ (ns : List ℕ). IsAmong ns s.number) (sym holds.cells_are) (in_cells holds.slots s one))));
  versions = λ s one.
      let was = holds.versions s one in
      (was.0, still_versions before after s.id s.versions (λ v older within. links s.id v older (subst (λ (vs : List CellRef). Contains vs v) (sym (holds.objects_are.told s one)) within)) was.1);
  objects_are = holds.objects_are;
  cells_are = holds.cells_are;
}

-- a write to a free cell leaves the objects
pub free_written : LeavesObjects
free_written before after class objects cells n cell holds free writes =
    rests before after class objects cells holds
    (λ m within. elim within [
      | inl head ↦ writes.elsewhere m (λ e. free_no_head before class holds.slots holds.tree n free (head ∙ e))
      | inr slot ↦
          let s = slot_in_cell holds.slots m (subst (λ (ns : List ℕ). IsAmong ns m) holds.cells_are slot) in
          writes.elsewhere m (λ e. free_no_slot before class holds.slots holds.tree n free s.0 s.1 (s.2 ∙ e))
    ])
    (λ id version older within is. record {
      some = is.some;
      cell = is.cell;
      here = writes.elsewhere version.number (λ e. header_not_free before id version older is n free (sym e)) ∙ is.here;
      kind = is.kind;
      of_object = is.of_object;
      leads = is.leads;
    })

-- the header of an object's version
pub version_of : (image : Image) (class : ℕ) (objects : List Object) (cells : List ℕ) → HoldsObjects image class objects cells → (id : ℕ) (version : CellRef) → Contains (versions_of objects id) version → (v : CellRef) × (older : CellRef) × IsVersion image id v older × (v.number ≡ version.number)
version_of image class objects cells holds id version within = elim (holds.objects_are.slotted id) [
  | inl none ↦ let gone = contained [] version (subst (λ (vs : List CellRef). Contains vs version) none within) in absurd gone
  | inr slot ↦
      let told : versions_of objects id ≡ slot.0.versions = ap (versions_of objects) (sym slot.2) ∙ holds.objects_are.told slot.0 slot.1 in
      let stand = subst (λ (k : ℕ). AreVersions image k slot.0.versions) slot.2 (holds.versions slot.0 slot.1).1 in
      chain_member image id slot.0.versions version.number stand (contained slot.0.versions version (subst (λ (vs : List CellRef). Contains vs version) told within))
]

pub of_one : OfOneObject
of_one image class objects cells holds a b version first second =
    let one = version_of image class objects cells holds a version first in
    let other = version_of image class objects cells holds b version second in
    (one_header image a b one.0 other.0 one.1 other.1 one.2 other.2 (one.3 ∙ sym other.3)).0

-- an empty head leads to no slot
pub empty_holds : StartsEmpty
empty_holds image class empty = record {
  slots = [];
  tree = record {
    rooted = record {
      cell = class_head_cell empty_class_head;
      here = empty;
      kind = refl;
      root = record { there = inl refl; only = λ s none path. absurd none };
    };
    each = λ s none. absurd none;
    once = tt;
    ids = λ s t none also same. absurd none;
  };
  versions = λ s none. absurd none;
  objects_are = record { told = λ s none. absurd none; slotted = λ id. inl refl; once = tt; have = tt };
  cells_are = refl;
}

-- the kinds of what a class's objects stand in
pub object_cells : HasObjectCells
object_cells image class objects cells holds = record {
  head = (holds.tree.rooted.cell, holds.tree.rooted.here, holds.tree.rooted.kind);
  slots = λ n within.
      let s = slot_in_cell holds.slots n (subst (λ (ns : List ℕ). IsAmong ns n) holds.cells_are within) in
      let stands = holds.tree.each s.0 s.1 in
      (stands.cell, ap image (sym s.2) ∙ stands.here, stands.kind);
  once = subst AreOnce (sym holds.cells_are) holds.tree.once;
  headers = λ id version within.
      let v = version_of image class objects cells holds id version within in
      (v.2.cell, ap image (sym v.3) ∙ v.2.here, v.2.kind);
}
