-- What a class's cells hold, as the look-up of garbage sees it.
use Rattle.std.proofs.Common.{◌≡◌, ℕ, List, [], ◌∷◌, is_none, Option, Some, None, inl, inr, refl, sym, ap, subst, ◌∙◌}
use Rattle.std.specs.Option.{option_map}
use Rattle.rdb_base.specs.declared.value.Value.{Value}
use Rattle.rdb_schema.specs.declared.types.ValueType.{ValueType}
use Rattle.rdb_schema.specs.Encoding.{row_bytes}
use Rattle.rdb_cells.specs.Images.{Image}
use Rattle.rdb_objects.specs.Objects.{versions_of}
use Rattle.rdb_objects.specs.Slots.{AreVersions, HoldsObjects}
use Rattle.rdb_rows.specs.Versions.{is_tombstone}
use Rattle.rdb_sight.specs.Versions.{Version, Object, chain_of}
use Rattle.rdb_store.specs.Classes.{ClassNature}
use Rattle.rdb_store.specs.FirstGarbage.{IsChain, HoldsChains}
use Rattle.rdb_store.specs.Holds.{Holds}
use Rattle.rdb_store.specs.Layouts.{Layout}
use Rattle.rdb_store.specs.Stored.{refs_of, all_linked, as_stored, AreStored}
use Rattle.rdb_store.proofs.Storing.{linked_versions}

-- the headers of an object's versions stand
pub versions_stand : (image : Image) (class : ℕ) (objects : List Object) (cells : List ℕ) → HoldsObjects image class (all_linked objects) cells → (id : ℕ) → AreVersions image id (refs_of (chain_of objects id))
versions_stand image class objects cells holds id = elim (holds.objects_are.slotted id) [
  | inl none ↦ subst (AreVersions image id) (sym none ∙ linked_versions objects id) tt
  | inr slot ↦
      let told : versions_of (all_linked objects) id ≡ slot.0.versions = ap (versions_of (all_linked objects)) (sym slot.2) ∙ holds.objects_are.told slot.0 slot.1 in
      let stand = subst (λ (k : ℕ). AreVersions image k slot.0.versions) slot.2 (holds.versions slot.0 slot.1).1 in
      subst (AreVersions image id) (sym told ∙ linked_versions objects id) stand
]

gone : (types : List ValueType) (row : Option (List Value)) → is_tombstone (option_map (row_bytes types) row) ≡ is_none row
gone types None = refl
gone types (Some row) = refl

chain_stands : (class : ClassNature) (image : Image) (layout : Layout) (id : ℕ) (chain : List Version) → AreStored class image layout id chain → AreVersions image id (refs_of chain) → IsChain image chain
chain_stands class image layout id [] stored versions = tt
chain_stands class image layout id (v ∷ vs) stored versions = (
  record {
    some = versions.0.some;
    stored = as_stored class id v vs;
    cells = layout.of_version v.header;
    stands = stored.0.stands;
    stamp_is = refl;
    row = gone class.types v.row;
    leads = refl;
  },
  chain_stands class image layout id vs stored.1 versions.1,
)

pub holds_chains : (class : ClassNature) (image : Image) (class_of : ℕ → Option ℕ) (objects : List Object) → Holds class image class_of objects → HoldsChains image class.number objects
holds_chains class image class_of objects holds = record {
  cells = holds.0.slots;
  slots = holds.1.slots;
  chains = λ id. chain_stands class image holds.0 id (chain_of objects id) (holds.1.chains id) (versions_stand image class.number objects holds.0.slots holds.1.slots id);
}
