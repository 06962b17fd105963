-- The plans of a store, for a class that it keeps.
use Rattle.std.proofs.Common.{◌≡◌, ◌≢◌, ◌+◌, ℕ, List, [], ◌∷◌, sum_by, Option, Some, None, sym, ap, subst, ◌∙◌}
use Rattle.rdb_base.specs.declared.identity.Stamp.{Stamp}
use Rattle.rdb_base.specs.declared.value.Value.{Value}
use Rattle.rdb_schema.specs.Encodes.{Encodes}
use Rattle.rdb_pages.specs.declared.cell.Cell.{Cell}
use Rattle.rdb_pages.specs.declared.cell.CellRef.{CellRef}
use Rattle.rdb_cells.specs.Images.{Image, Writes}
use Rattle.rdb_cells.specs.Work.{Work, reading}
use Rattle.rdb_rows.specs.RowKeys.{KeyShape, key_meaning}
use Rattle.rdb_rows.specs.Rows.{cells_for}
use Rattle.rdb_rows.specs.Versions.{HasVersion as HasStored, ForVersion, HoldsVersion, stamped}
use Rattle.rdb_space.specs.Claim.{part_of_kind}
use Rattle.rdb_sight.specs.Versions.{Version, Object, chain_of, with_chain}
use Rattle.rdb_store.specs.declared.class_index.ClassIndex.{ClassIndex}
use Rattle.rdb_store.specs.declared.keyed.Keyed.{Keyed}
use Rattle.rdb_store.specs.declared.plans.NewVersion.{NewVersion}
use Rattle.rdb_store.specs.Chains.{IsLeft, CanReplace, IsNewSerial}
use Rattle.rdb_store.specs.Classes.{ClassNature, AreLawful}
use Rattle.rdb_store.specs.ClassIndexes.{index_nature}
use Rattle.rdb_store.specs.Holds.{Holds, HoldsSome, Whatever}
use Rattle.rdb_store.specs.Indexed.{class_over, parts_of}
use Rattle.rdb_store.specs.Laws.{Stamps}
use Rattle.rdb_store.specs.Plans.{IsFresh, WillHold, HoldsBelow, WhateverBelow, made_at, Puts, WhateverRow, Drops}
use Rattle.rdb_store.specs.Putting.{IsReadyForRow, IsReadyForDeath, PutsRow, PutsDeath}
use Rattle.rdb_store.specs.Shapes.{IndexShape, ClassShape, nature_of_class, claim_in}
use Rattle.rdb_store.specs.Stored.{as_stored, HasHeader}
use Rattle.rdb_store.specs.Taking.{HoldsNow, StandsHeld, DropsHeld, CanTakeReplaced, TakesReplaced}
use Rattle.rdb_store.proofs.ChainMaps.{rises_from}
use Rattle.rdb_store.proofs.KeptClasses.{IsKept, shape_over, declared_by, parts_are, held_over, held_by_shape, shape_lawful, over_lawful}
use Rattle.rdb_store.proofs.Replacing.{held_through, can_take, replaced_held}
use Rattle.rdb_store.proofs.Storing.{stored_in}

-- a class that is kept, with its indexes
abbrev pub kept_over : ClassShape → List (Keyed ClassIndex KeyShape) → ClassNature
kept_over shape indexes = class_over index_nature key_meaning indexes (declared_by (shape_over shape.number shape.types indexes))

module _ (shape : ClassShape) (indexes : List (Keyed ClassIndex KeyShape)) (kept : IsKept shape indexes) where
  shape_is : shape_over shape.number shape.types indexes ≡ shape
  shape_is = λ i. record { number = shape.number; types = shape.types; indexes = kept.shapes i }

  kept_lawful : AreLawful (kept_over shape indexes)
  kept_lawful = over_lawful shape.number shape.types indexes kept.are kept.few

  pub lawful_shape : AreLawful (nature_of_class shape)
  lawful_shape = subst (λ (s : ClassShape). AreLawful (nature_of_class s)) shape_is (shape_lawful shape.number shape.types indexes kept.are kept.few)

  over_it : (image : Image) (class_of : ℕ → Option ℕ) (objects : List Object) → Holds (nature_of_class shape) image class_of objects → Holds (kept_over shape indexes) image class_of objects
  over_it image class_of objects holds = held_over shape.number shape.types indexes kept.are image class_of objects
      (subst (λ (s : ClassShape). Holds (nature_of_class s) image class_of objects) (sym shape_is) holds)

  by_it : (image : Image) (class_of : ℕ → Option ℕ) (objects : List Object) → Holds (kept_over shape indexes) image class_of objects → Holds (nature_of_class shape) image class_of objects
  by_it image class_of objects holds = subst (λ (s : ClassShape). Holds (nature_of_class s) image class_of objects) shape_is
      (held_by_shape shape.number shape.types indexes kept.are image class_of objects holds)

  -- what a row claims is what its version takes
  pub claim_is : (bytes : ℕ) → cells_for bytes + 2 + parts_of index_nature indexes ≡ claim_in shape bytes
  claim_is bytes =
      let parts = parts_are indexes ∙ ap (λ (is : List IndexShape). sum_by (λ i. part_of_kind i.kind) is) kept.shapes in
      ap (λ (n : ℕ). cells_for bytes + 2 + n) parts

  -- the class holds through an empty plan what it holds below it
  module _ (w : Work) (number : ℕ) (named : shape.number ≡ number) (fresh : IsFresh number w) where
    of_class : w.class ≡ shape.number
    of_class = fresh.of_class ∙ sym named

    held : (objects : List Object) → Holds (nature_of_class shape) w.below w.class_of objects → HoldsNow (kept_over shape indexes) w objects
    held objects holds = held_through (kept_over shape indexes) w objects fresh.empty (over_it w.below w.class_of objects holds)

    -- a version can be taken out
    pub stands_held : (version : CellRef) → HoldsBelow (nature_of_class shape) w → WhateverBelow (nature_of_class shape) w (λ objects. HasHeader objects version.number) → StandsHeld index_nature key_meaning indexes w version.number
    stands_held version some has =
        let there = has some.0 some.1 in
        record {
          of = declared_by (shape_over shape.number shape.types indexes);
          lawful = kept_lawful;
          of_class = of_class;
          objects = some.0;
          version = there.version;
          has = there.has;
          there = there.there;
          holds = held some.0 some.1;
        }

    pub drops_it : (after : Work) (header : ℕ) → DropsHeld index_nature key_meaning indexes w after header → Drops (nature_of_class shape) w after header
    drops_it after header drops objects holds id rest without =
        let parted = without.without in
        let gone = drops (declared_by (shape_over shape.number shape.types indexes)) kept_lawful of_class objects id parted.newer parted.older without.version parted.before without.there
        (held objects holds) in
        by_it (reading after) after.class_of (with_chain objects id rest)
        (subst (λ (vs : List Version). HoldsNow (kept_over shape indexes) after (with_chain objects id vs)) (sym parted.after) gone)

    -- the class is ready for a new version
    module _ (new : NewVersion) (serial : WhateverBelow (nature_of_class shape) w (IsNewSerial new.serial)) where
      pub ready_for_row : (bytes : List ℕ) → HoldsBelow (nature_of_class shape) w → (row : List Value) × Encodes shape.types row bytes → IsReadyForRow index_nature key_meaning indexes w new bytes
      ready_for_row bytes some row = record {
        of = declared_by (shape_over shape.number shape.types indexes);
        ready = record {
          lawful = kept_lawful;
          of_class = of_class;
          objects = some.0;
          serial = serial some.0 some.1;
          holds = held some.0 some.1;
        };
        row = row.0;
        encodes = row.1;
      }

      pub ready_for_death : HoldsBelow (nature_of_class shape) w → WhateverBelow (nature_of_class shape) w (λ objects. chain_of objects new.id ≢ []) → IsReadyForDeath w new
      ready_for_death some object = record {
        shape = shape;
        ready = record {
          lawful = lawful_shape;
          of_class = of_class;
          objects = some.0;
          serial = serial some.0 some.1;
          holds = held_through (nature_of_class shape) w some.0 fresh.empty some.1;
        };
        object = object some.0 some.1;
      }

      -- it comes first
      row_first : (put : Work) (header : ℕ) (bytes : List ℕ) → PutsRow index_nature key_meaning indexes w put new header bytes → (row : List Value) → Encodes shape.types row bytes → (objects : List Object) → Holds (nature_of_class shape) w.below w.class_of objects → HoldsNow (kept_over shape indexes) put (with_chain objects new.id (made_at header new (Some row) ∷ chain_of objects new.id))
      row_first put header bytes puts row encodes objects holds =
          puts (declared_by (shape_over shape.number shape.types indexes)) kept_lawful of_class row encodes objects (serial objects holds) (held objects holds)

      death_first : (put : Work) (header : ℕ) → PutsDeath w put new header → (objects : List Object) → Holds (nature_of_class shape) w.below w.class_of objects → HoldsNow (kept_over shape indexes) put (with_chain objects new.id (made_at header new None ∷ chain_of objects new.id))
      death_first put header puts objects holds =
          over_it (reading put) put.class_of (with_chain objects new.id (made_at header new None ∷ chain_of objects new.id))
          (puts shape lawful_shape of_class objects (serial objects holds) (held_through (nature_of_class shape) w objects fresh.empty holds))

      -- then the one that it replaces can be taken out
      module _ (put : Work) (same_class : put.class ≡ w.class) (header : ℕ) where
        can_take_it : (row : Option (List Value)) → (some : HoldsBelow (nature_of_class shape) w) → HoldsNow (kept_over shape indexes) put (with_chain some.0 new.id (made_at header new row ∷ chain_of some.0 new.id)) → WhateverBelow (nature_of_class shape) w (λ objects. CanReplace new.replaces (chain_of objects new.id)) → CanTakeReplaced index_nature key_meaning indexes put new.replaces
        can_take_it row some first can =
            can_take index_nature key_meaning indexes (declared_by (shape_over shape.number shape.types indexes)) kept_lawful put (same_class ∙ of_class)
            some.0 (rises_from some.0 some.1.1.ascending) some.1.1.slots.objects_are.have new.id (made_at header new row) first new.replaces (can some.0 some.1)

        pub can_take_by_row : (bytes : List ℕ) → PutsRow index_nature key_meaning indexes w put new header bytes → HoldsBelow (nature_of_class shape) w → (row : List Value) × Encodes shape.types row bytes → WhateverBelow (nature_of_class shape) w (λ objects. CanReplace new.replaces (chain_of objects new.id)) → CanTakeReplaced index_nature key_meaning indexes put new.replaces
        can_take_by_row bytes puts some row can = can_take_it (Some row.0) some (row_first put header bytes puts row.0 row.1 some.0 some.1) can

        pub can_take_by_death : PutsDeath w put new header → HoldsBelow (nature_of_class shape) w → WhateverBelow (nature_of_class shape) w (λ objects. CanReplace new.replaces (chain_of objects new.id)) → CanTakeReplaced index_nature key_meaning indexes put new.replaces
        can_take_by_death puts some can = can_take_it None some (death_first put header puts some.0 some.1) can

        -- and is
        module _ (after : Work) (takes : TakesReplaced index_nature key_meaning indexes put after new.replaces) where
          put_over : (row : Option (List Value)) (objects : List Object) (holds : Holds (nature_of_class shape) w.below w.class_of objects) → HoldsNow (kept_over shape indexes) put (with_chain objects new.id (made_at header new row ∷ chain_of objects new.id)) → (rest : List Version) → IsLeft new.replaces (chain_of objects new.id) rest → WillHold (nature_of_class shape) after (with_chain objects new.id (made_at header new row ∷ rest))
          put_over row objects holds first rest left =
              by_it (reading after) after.class_of (with_chain objects new.id (made_at header new row ∷ rest))
              (replaced_held index_nature key_meaning indexes (declared_by (shape_over shape.number shape.types indexes)) kept_lawful put (same_class ∙ of_class)
              objects (rises_from objects holds.1.ascending) holds.1.slots.objects_are.have new.id (made_at header new row) first after new.replaces takes rest left)

          pub puts_row : (bytes : List ℕ) → PutsRow index_nature key_meaning indexes w put new header bytes → WhateverRow (nature_of_class shape) bytes (Puts (nature_of_class shape) w after new header)
          puts_row bytes puts row encodes objects holds rest left = put_over (Some row) objects holds (row_first put header bytes puts row encodes objects holds) rest left

          pub puts_death : PutsDeath w put new header → Puts (nature_of_class shape) w after new header None
          puts_death puts objects holds rest left = put_over None objects holds (death_first put header puts objects holds) rest left

-- a version of the class stands
pub stands_there : (shape : ClassShape) (image : Image) (class_of : ℕ → Option ℕ) (header : ℕ) → HoldsSome (nature_of_class shape) image class_of → Whatever (nature_of_class shape) image class_of (λ objects. HasHeader objects header) → HasStored image header
stands_there shape image class_of header some has =
    let there = has some.0 some.1 in
    let v = there.version in
    let stored = stored_in (nature_of_class shape) image some.1.0 there.has.id (chain_of some.0 there.has.id) (some.1.1.chains there.has.id) v there.has.within in
    record {
      version = as_stored (nature_of_class shape) there.has.id v stored.0;
      cells = some.1.0.of_version v.header;
      holds = subst (λ (n : ℕ). HoldsVersion image n (as_stored (nature_of_class shape) there.has.id v stored.0) (some.1.0.of_version v.header)) there.there stored.1.stands;
    }

-- its header is written with another stamp
pub stamps_there : (before after : Image) (n : ℕ) (cell : Cell) (header : ℕ) → header ≡ n → (stamp : Stamp) → ForVersion before n (λ v places. HoldsVersion after n (stamped v stamp) places) → Writes before after n cell → Stamps before after header stamp
stamps_there before after n cell header there stamp stands writes = subst (λ (m : ℕ). Stamps before after m stamp) (sym there) (record { there = stands; elsewhere = writes.elsewhere })
