-- What the steps of a put ask, and what they come to.
use Rattle.std.proofs.Common.{◌≡◌, ◌≢◌, ◌<◌, ℕ, List, [], ◌∷◌, Option, Some, None, IsSome, slice_get, refl, sym, ap, subst, ◌∙◌, length, arith}
use Rattle.std.proofs.lemmas.Bool.{false≢true}
use Rattle.std.specs.Option.{option_map, unwrap_or}
use Rattle.rdb_base.specs.declared.value.Value.{Value}
use Rattle.rdb_schema.specs.declared.types.ValueType.{ValueType}
use Rattle.rdb_schema.specs.Encodes.{Encodes}
use Rattle.rdb_schema.specs.Encoding.{row_bytes}
use Rattle.rdb_pages.specs.declared.cell.CellRef.{CellRef}
use Rattle.rdb_cells.specs.Index.{Nature}
use Rattle.rdb_cells.specs.Keys.{Meaning}
use Rattle.rdb_cells.specs.References.{max_classes}
use Rattle.rdb_cells.specs.Words.{no_ref}
use Rattle.rdb_cells.specs.Work.{Work, reading}
use Rattle.rdb_objects.specs.Changes.{AddsVersion, CanAdd, HasRoom}
use Rattle.rdb_objects.specs.Objects.{newest_of, versions_of}
use Rattle.rdb_objects.specs.Slots.{HoldsObjects, HoldsSome, Whatever}
use Rattle.rdb_objects.proofs.OneTree.{same_versions}
use Rattle.rdb_rows.specs.declared.label.Label.{Label}
use Rattle.rdb_rows.specs.Plans.{PutsVersion}
use Rattle.rdb_rows.specs.Versions.{Version as StoredVersion, IsLabel}
use Rattle.rdb_sight.specs.Versions.{Version, Object, chain_of, with_chain}
use Rattle.rdb_store.specs.Chains.{IsNewSerial}
use Rattle.rdb_store.specs.Classes.{ClassNature, AreLawful}
use Rattle.rdb_store.specs.Indexed.{Declared, class_over, LacksInAll, PutsInAll}
use Rattle.rdb_store.specs.OwnCells.{AddsOwnCells}
use Rattle.rdb_store.specs.Plans.{made_at}
use Rattle.rdb_store.specs.Putting.{label_over}
use Rattle.rdb_store.specs.Stored.{ref_of, refs_of, all_linked, IsRow, as_stored}
use Rattle.rdb_store.specs.Taking.{HoldsNow}
use Rattle.rdb_store.specs.declared.keyed.Keyed.{Keyed}
use Rattle.rdb_store.specs.declared.plans.NewVersion.{NewVersion}
use Rattle.rdb_store.proofs.PuttingIn.{older_small, linked_held, can_add, put_holds, own_so_far, death_held, lacks_in_all, put_in}
use Rattle.rdb_store.proofs.Storing.{linked_versions}

-- the newest of an object's versions, or none
pub newest_or : (versions : List CellRef) (o : Option CellRef) → o ≡ slice_get versions 0 → unwrap_or o no_ref ≡ newest_of versions
newest_or [] o is = ap (λ (p : Option CellRef). unwrap_or p no_ref) is
newest_or (v ∷ vs) o is = ap (λ (p : Option CellRef). unwrap_or p no_ref) is

-- the label of a new version, in a class that is held
module _ (class : ClassNature) (w : Work) (of_class : w.class ≡ class.number) (objects : List Object) (new : NewVersion) (holds : HoldsNow class w objects) (number : ℕ) (in_class : w.class ≡ number) where
  pub held_some : HoldsSome (reading w) number
  held_some = (all_linked objects, holds.0.slots, linked_held class w objects holds new.id number (sym of_class ∙ in_class))

  module _ (label : Label) (said : Whatever (reading w) number (λ held slots. label ≡ label_over number new (newest_of (versions_of held new.id)))) where
    label_is : label ≡ label_over number new (newest_of (refs_of (chain_of objects new.id)))
    label_is = subst (λ (rs : List CellRef). label ≡ label_over number new (newest_of rs)) (linked_versions objects new.id)
        (said (all_linked objects) holds.0.slots (linked_held class w objects holds new.id number (sym of_class ∙ in_class)))

    pub label_fits : number < max_classes → IsLabel label
    label_fits few = subst IsLabel (sym label_is) ((omega arith), older_small class w objects holds new.id)

    stored_is : (header : ℕ) (row : Option (List Value)) (bytes : Option (List ℕ)) → bytes ≡ option_map (row_bytes class.types) row → ◌≡◌ {A = StoredVersion} (record { label = label; row = bytes }) (as_stored class new.id (made_at header new row) (chain_of objects new.id))
    stored_is header row bytes encoded = λ i. record { label = in_number i; row = encoded i }
      where
        in_number : label ≡ label_over class.number new (newest_of (refs_of (chain_of objects new.id)))
        in_number = subst (λ (k : ℕ). label ≡ label_over k new (newest_of (refs_of (chain_of objects new.id)))) (sym in_class ∙ of_class) label_is

    pub puts_made : (put : Work) (header : ℕ) (row : Option (List Value)) (bytes : Option (List ℕ)) → bytes ≡ option_map (row_bytes class.types) row → PutsVersion w put header (record { label = label; row = bytes }) → PutsVersion w put header (as_stored class new.id (made_at header new row) (chain_of objects new.id))
    puts_made put header row bytes encoded puts = subst (PutsVersion w put header) (stored_is header row bytes encoded) puts

no_versions : (chain : List Version) → refs_of chain ≡ [] → chain ≡ []
no_versions [] none = refl
no_versions (v ∷ vs) none = absurd (cc)

-- an object that has a version has a reference of one
pub had_versions : (objects : List Object) (id : ℕ) → chain_of objects id ≢ [] → ¬ (versions_of (all_linked objects) id ≡ [])
had_versions objects id some none = some (no_versions (chain_of objects id) (sym (linked_versions objects id) ∙ none))

-- a version that is put leaves the plan's room
pub put_keeps_room : (w put : Work) (at : ℕ) (v : StoredVersion) → PutsVersion w put at v → put.room ≡ w.room
put_keeps_room w put at v puts = ap (λ (x : Work). x.room) puts.planned

-- the row that bytes encode
pub encoded_row : (types : List ValueType) (row : List Value) (bytes : List ℕ) → Encodes types row bytes → ◌≡◌ {A = Option (List ℕ)} (Some bytes) (option_map (row_bytes types) (Some row))
encoded_row types row bytes encodes = ap Some encodes.bytes_are

-- a new version, with its header and its row put, in a class that is held
module _ (class : ClassNature) (lawful : AreLawful class) (w put : Work) (of_class : w.class ≡ class.number) (objects : List Object) (new : NewVersion) (row : Option (List Value)) (is_row : IsRow class.types row) (fresh : IsNewSerial new.serial objects) (holds : HoldsNow class w objects) (number : ℕ) (in_class : w.class ≡ number) (version : CellRef) (puts : PutsVersion w put version.number (as_stored class new.id (made_at version.number new row) (chain_of objects new.id))) where
  same : class.number ≡ number
  same = sym of_class ∙ in_class

  pub can_add_it : CanAdd (reading put) number new.id version
  can_add_it = can_add class lawful w put of_class objects new.id (made_at version.number new row) is_row fresh holds puts number same

  pub put_held : HoldsObjects (reading put) number (all_linked objects) holds.0.slots
  put_held = put_holds class lawful w put of_class objects new.id (made_at version.number new row) is_row fresh holds puts number same

  -- an object that has a version takes no slot
  pub has_slot : chain_of objects new.id ≢ [] → HasRoom put number new.id
  has_slot some held slots holds_it none = absurd (had_versions objects new.id some
      (sym (same_versions (reading put) number held (all_linked objects) slots holds.0.slots holds_it put_held new.id) ∙ none))

  module _ (linked : Work) (adds : AddsVersion number put linked new.id version) where
    pub adds_made : AddsVersion class.number put linked new.id (ref_of (made_at version.number new row))
    adds_made = subst (λ (k : ℕ). AddsVersion k put linked new.id version) (sym same) adds

    pub own_put_in : AddsOwnCells w linked
    own_put_in = own_so_far class lawful w put of_class objects new.id (made_at version.number new row) is_row fresh holds puts linked adds_made

    pub death_put : row ≡ None → HoldsNow class linked (with_chain objects new.id (made_at version.number new row ∷ chain_of objects new.id))
    death_put none = death_held class lawful w put of_class objects new.id (made_at version.number new row) is_row fresh holds puts linked adds_made
        (λ some. false≢true (subst (λ (o : Option (List Value)). IsSome o) none some))

-- and where it has a row, it goes into the indexes
module _ {I K : Type 0} (nature : I → Nature) (meaning : K → Meaning) (indexes : List (Keyed I K)) (of : Declared) (lawful : AreLawful (class_over nature meaning indexes of)) (w put linked : Work) (of_class : w.class ≡ of.number) (objects : List Object) (new : NewVersion) (row : List Value) (bytes : List ℕ) (encodes : Encodes of.types row bytes) (fresh : IsNewSerial new.serial objects) (holds : HoldsNow (class_over nature meaning indexes of) w objects) (number : ℕ) (in_class : w.class ≡ number) (version : CellRef) (puts : PutsVersion w put version.number (as_stored (class_over nature meaning indexes of) new.id (made_at version.number new (Some row)) (chain_of objects new.id))) (adds : AddsVersion number put linked new.id version) where
  in_number : AddsVersion of.number put linked new.id (ref_of (made_at version.number new (Some row)))
  in_number = subst (λ (k : ℕ). AddsVersion k put linked new.id version) (sym in_class ∙ of_class) adds

  pub lacks_it : LacksInAll nature meaning indexes linked version.number
  lacks_it = lacks_in_all nature meaning indexes of lawful w put linked of_class objects new.id (made_at version.number new (Some row)) (encodes.fits, encodes.proper) fresh holds puts in_number refl

  pub row_put : (after : Work) → PutsInAll nature meaning indexes linked after version.number (length indexes) → HoldsNow (class_over nature meaning indexes of) after (with_chain objects new.id (made_at version.number new (Some row) ∷ chain_of objects new.id))
  row_put after in_all = put_in nature meaning indexes of lawful w put linked of_class objects new.id (made_at version.number new (Some row)) (encodes.fits, encodes.proper) fresh holds puts in_number refl after in_all
