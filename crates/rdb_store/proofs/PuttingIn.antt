-- A version is put in: into free cells, first in its object's chain, and into every index, if it has a row.
use Rattle.std.proofs.Common.{◌≡◌, ◌<◌, ◌^◌, ◌↔◌, ℕ, List, [], ◌∷◌, IsSome, inl, inr, refl, sym, ap, subst, ◌∙◌, length, arith}
use Rattle.std.specs.List.{Contains}
use native.Mathlib.Nat.{add-mul-mod_self_left}
use Rattle.rdb_pages.specs.declared.cell.CellRef.{CellRef}
use Rattle.rdb_cells.specs.declared.formats.version.VersionHeader.{VersionHeader}
use Rattle.rdb_cells.specs.Index.{Nature}
use Rattle.rdb_cells.specs.Keys.{Meaning}
use Rattle.rdb_cells.specs.Links.{IsAmong}
use Rattle.rdb_cells.specs.VersionFormat.{header_cell}
use Rattle.rdb_cells.specs.Work.{Work, reading}
use Rattle.rdb_cells.proofs.WorkLemmas.{left_blank}
use Rattle.rdb_objects.specs.Changes.{AddsVersion, CanAdd}
use Rattle.rdb_objects.specs.Objects.{newest_of}
use Rattle.rdb_objects.specs.Slots.{IsVersion, HoldsObjects}
use Rattle.rdb_rows.specs.Plans.{PutsVersion}
use Rattle.rdb_rows.specs.Versions.{HoldsVersion, header_of}
use Rattle.rdb_rows.proofs.Headers.{header_back}
use Rattle.rdb_sight.specs.Versions.{Version, Object, chain_of, with_chain}
use Rattle.rdb_store.specs.Chains.{IsNewSerial}
use Rattle.rdb_store.specs.Classes.{ClassNature, AreLawful}
use Rattle.rdb_store.specs.Indexed.{Declared, NoneLoose, class_over, LacksInAll, PutsInAll}
use Rattle.rdb_store.specs.Layouts.{Layout, OfVersion}
use Rattle.rdb_store.specs.Midway.{IsMidway, BeforePut}
use Rattle.rdb_store.specs.OwnCells.{AddsOwnCells}
use Rattle.rdb_store.specs.Stored.{ref_of, refs_of, all_linked, IsRow, as_stored, HasVersion, HasHeader, HasRowAt}
use Rattle.rdb_store.specs.Taking.{HoldsNow}
use Rattle.rdb_store.specs.declared.keyed.Keyed.{Keyed}
use Rattle.rdb_store.proofs.ChainMaps.{rises_from}
use Rattle.rdb_store.proofs.Ends.{midway_from, holds_from}
use Rattle.rdb_store.proofs.IndexesLeft.{stands_at}
use Rattle.rdb_store.proofs.Linking.{new_there, row_there, row_was}
use Rattle.rdb_store.proofs.LinkSteps.{LinksVersion, linked_step}
use Rattle.rdb_store.proofs.Lists.{first_in}
use Rattle.rdb_store.proofs.OwnPlans.{own_put, own_slots, own_then}
use Rattle.rdb_store.proofs.Parts.{with_part, with_here}
use Rattle.rdb_store.proofs.Storing.{linked_versions}
use Rattle.rdb_store.proofs.VersionPuts.{put_loose, new_header}

-- a version of a class that is held stands in a page
module _ (class : ClassNature) (w : Work) (objects : List Object) (holds : HoldsNow class w objects) (id : ℕ) where
  newest_small : (chain : List Version) → ((v : Version) → Contains chain v → HasVersion objects v) → (newest_of (refs_of chain)).number < 2 ^ 24
  newest_small [] has = omega arith
  newest_small (v ∷ vs) has =
      let there = has v (first_in v vs) in
      let stored = stands_at class w objects holds v there in
      let page = (holds.1.account.paged v.header (record {
        part = OfVersion v.header;
        is_part = record { version = v; has = there; there = refl };
        within = subst (λ (ns : List ℕ). IsAmong ns v.header) (sym stored.1.stands.cells_are) (inl refl);
      })).0 in
      let high = page.1 in
      omega arith

  pub older_small : (newest_of (refs_of (chain_of objects id))).number < 2 ^ 24
  older_small = newest_small (chain_of objects id) (λ v within. record { id = id; within = within })

  -- its objects, by the references of their versions
  pub linked_held : (number : ℕ) → class.number ≡ number → HoldsObjects (reading w) number (all_linked objects) holds.0.slots
  linked_held number same = subst (λ (k : ℕ). HoldsObjects (reading w) k (all_linked objects) holds.0.slots) same holds.1.slots

module _ (class : ClassNature) (lawful : AreLawful class) (before put : Work) (of_class : before.class ≡ class.number) (objects : List Object) (id : ℕ) (made : Version) (row : IsRow class.types made.row) (fresh : IsNewSerial made.serial objects) (holds : HoldsNow class before objects) (puts : PutsVersion before put made.header (as_stored class id made (chain_of objects id))) where
  start : IsMidway class (reading before) before.class_of objects NoneLoose (λ place n. HasRowAt objects n) holds.0
  start = midway_from class (reading before) before.class_of objects holds.0 (λ place n. HasRowAt objects n) (λ place n below. (λ has. has, λ has. has)) holds.1

  loose_layout : Layout
  loose_layout = with_part holds.0 (OfVersion made.header) (made.header ∷ puts.row_cells)

  pub loose : IsMidway class (reading put) put.class_of objects (λ n. n ≡ made.header) (λ place n. HasRowAt objects n) (with_part holds.0 (OfVersion made.header) (made.header ∷ puts.row_cells))
  loose = put_loose class lawful before put of_class objects (λ place n. HasRowAt objects n) (λ place n has. has) holds.0 start made.header
      (as_stored class id made (chain_of objects id)) puts

  pub unknown : ¬ HasHeader objects made.header
  unknown = new_header class lawful before put of_class objects (λ place n. HasRowAt objects n) (λ place n has. has) holds.0 start made.header
      (as_stored class id made (chain_of objects id)) puts

  pub put_class : put.class ≡ class.number
  put_class = ap (λ (w : Work). w.class) puts.planned ∙ of_class

  pub put_room : put.room ≡ before.room
  put_room = ap (λ (w : Work). w.room) puts.planned

  -- its header leads to the newest version of its object
  new_link : IsVersion (reading put) id (ref_of made) (newest_of (refs_of (chain_of objects id)))
  new_link =
      let stands = puts.holds in
      let v = as_stored class id made (chain_of objects id) in
      let page = (left_blank before made.header (puts.left made.header (inl refl))).page in
      let head = header_back (header_of v stands.first) (stands.labelled.0, stands.labelled.1) in
      record {
        some = (let low = page.0 in omega arith);
        cell = header_cell (header_of (as_stored class id made (chain_of objects id)) stands.first);
        here = stands.header;
        kind = add-mul-mod_self_left 2 256 (as_stored class id made (chain_of objects id)).label.older.number;
        of_object = ap (λ (h : VersionHeader). h.id) head;
        leads = ap (λ (h : VersionHeader). h.older) head;
      }

  pub can_add : (number : ℕ) → class.number ≡ number → CanAdd (reading put) number id (ref_of made)
  can_add number same = record {
    objects = all_linked objects;
    cells = holds.0.slots;
    holds = subst (λ (k : ℕ). HoldsObjects (reading put) k (all_linked objects) holds.0.slots) same loose.slots;
    header = subst (λ (rs : List CellRef). IsVersion (reading put) id (ref_of made) (newest_of rs)) (sym (linked_versions objects id)) new_link;
  }

  -- what an object's versions are, whatever the class's cells are said to hold
  pub put_holds : (number : ℕ) → class.number ≡ number → HoldsObjects (reading put) number (all_linked objects) holds.0.slots
  put_holds number same = subst (λ (k : ℕ). HoldsObjects (reading put) k (all_linked objects) holds.0.slots) same loose.slots

  module _ (linked : Work) (adds : AddsVersion class.number put linked id (ref_of made)) where
    pub own_so_far : AddsOwnCells before linked
    own_so_far = own_then before put linked (ap (λ (w : Work). w.class_of) puts.planned) (ap (λ (w : Work). w.class) puts.planned)
        (own_put before put made.header (as_stored class id made (chain_of objects id)) puts)
        (own_slots class lawful put put_class objects (λ n. n ≡ made.header) (λ place n. HasRowAt objects n) (with_part holds.0 (OfVersion made.header) (made.header ∷ puts.row_cells)) loose
        linked id (ref_of made) adds)

    pub linked_class : linked.class ≡ class.number
    linked_class = adds.goes_on.class ∙ put_class

    pub links : (Such : ℕ → ℕ → Type 0) → ((place n : ℕ) → HasRowAt objects n ↔ Such place n) → (layout : Layout) × IsMidway class (reading linked) linked.class_of (with_chain objects id (made ∷ chain_of objects id)) NoneLoose Such layout
    links Such same =
        let layout = with_part holds.0 (OfVersion made.header) (made.header ∷ puts.row_cells) in
        let step : LinksVersion class put linked objects id made (with_part holds.0 (OfVersion made.header) (made.header ∷ puts.row_cells)) Such = record {
          of_class = put_class;
          mid = loose;
          stands = subst (λ (ns : List ℕ). HoldsVersion (reading put) made.header (as_stored class id made (chain_of objects id)) ns)
              (sym (with_here holds.0.of_version made.header (made.header ∷ puts.row_cells))) puts.holds;
          row = row;
          fresh = fresh;
          adds = adds;
          same = same;
        } in
        (_, linked_step class lawful put linked objects id made (with_part holds.0 (OfVersion made.header) (made.header ∷ puts.row_cells)) Such step)

    -- a version with a row is in no index yet
    module _ (has_row : IsSome made.row) where
      pub linked_mid : (layout : Layout) × IsMidway class (reading linked) linked.class_of (with_chain objects id (made ∷ chain_of objects id)) NoneLoose
          (BeforePut (with_chain objects id (made ∷ chain_of objects id)) made.header 0) layout
      linked_mid = links (BeforePut (with_chain objects id (made ∷ chain_of objects id)) made.header 0) (λ place n. (
        λ has. (row_there objects (rises_from objects holds.1.ascending) id made n has, inr (λ e. unknown (record { version = has.version; has = has.has; there = has.there ∙ e }))),
        λ such. elim (row_was objects (rises_from objects holds.1.ascending) id made n such.0) [
          | inl old ↦ old
          | inr new ↦ absurd (elim such.1 [ inl less ↦ absurd (omega arith) | inr differ ↦ differ new.0 ])
        ],
      ))

      pub row_at : HasRowAt (with_chain objects id (made ∷ chain_of objects id)) made.header
      row_at = record { version = made; has = new_there objects (rises_from objects holds.1.ascending) id made; there = refl; row = has_row }

    -- a tombstone is in none
    pub death_held : ¬ IsSome made.row → HoldsNow class linked (with_chain objects id (made ∷ chain_of objects id))
    death_held none =
        let now = with_chain objects id (made ∷ chain_of objects id) in
        let done = links (λ place n. HasRowAt (with_chain objects id (made ∷ chain_of objects id)) n) (λ place n. (
          λ has. row_there objects (rises_from objects holds.1.ascending) id made n has,
          λ has. elim (row_was objects (rises_from objects holds.1.ascending) id made n has) [ inl old ↦ old | inr new ↦ absurd (none new.1) ],
        )) in (
          done.0,
          holds_from class (reading linked) linked.class_of (with_chain objects id (made ∷ chain_of objects id)) done.0
              (λ place n. HasRowAt (with_chain objects id (made ∷ chain_of objects id)) n) (λ place n below. (λ has. has, λ has. has)) done.1,
        )

module _ {I K : Type 0} (nature : I → Nature) (meaning : K → Meaning) (indexes : List (Keyed I K)) (of : Declared) (lawful : AreLawful (class_over nature meaning indexes of)) (before put linked : Work) (of_class : before.class ≡ of.number) (objects : List Object) (id : ℕ) (made : Version) (row : IsRow of.types made.row) (fresh : IsNewSerial made.serial objects) (holds : HoldsNow (class_over nature meaning indexes of) before objects) (puts : PutsVersion before put made.header (as_stored (class_over nature meaning indexes of) id made (chain_of objects id))) (adds : AddsVersion of.number put linked id (ref_of made)) (has_row : IsSome made.row) where
  mid : (layout : Layout) × IsMidway (class_over nature meaning indexes of) (reading linked) linked.class_of (with_chain objects id (made ∷ chain_of objects id)) NoneLoose
      (BeforePut (with_chain objects id (made ∷ chain_of objects id)) made.header 0) layout
  mid = linked_mid (class_over nature meaning indexes of) lawful before put of_class objects id made row fresh holds puts linked adds has_row

  at : HasRowAt (with_chain objects id (made ∷ chain_of objects id)) made.header
  at = row_at (class_over nature meaning indexes of) lawful before put of_class objects id made row fresh holds puts linked adds has_row

  in_class : linked.class ≡ of.number
  in_class = linked_class (class_over nature meaning indexes of) lawful before put of_class objects id made row fresh holds puts linked adds

  -- no index lists it yet
  pub lacks_in_all : LacksInAll nature meaning indexes linked made.header
  lacks_in_all = record {
    of = of;
    lawful = lawful;
    of_class = in_class;
    objects = with_chain objects id (made ∷ chain_of objects id);
    has = at;
    lacks = mid;
  }

  -- all of them list it
  pub put_in : (after : Work) → PutsInAll nature meaning indexes linked after made.header (length indexes) → HoldsNow (class_over nature meaning indexes of) after (with_chain objects id (made ∷ chain_of objects id))
  put_in after in_all =
      let done = in_all of lawful in_class (with_chain objects id (made ∷ chain_of objects id)) at mid in (
        done.0,
        holds_from (class_over nature meaning indexes of) (reading after) after.class_of (with_chain objects id (made ∷ chain_of objects id)) done.0
            (BeforePut (with_chain objects id (made ∷ chain_of objects id)) made.header (length indexes)) (λ place n below. (λ has. (has, inl below), λ such. such.0)) done.1,
      )
