-- Each step of a plan has cells of its class alone.
use Rattle.std.proofs.Common.{◌≡◌, ◌<◌, ℕ, true, List, [], ◌∷◌, map, Option, Some, None, inl, inr, refl, sym, ap, subst, ◌∙◌}
use Rattle.std.proofs.lemmas.Bool.{false≢true}
use Rattle.std.specs.List.{Contains}
use Rattle.std.specs.Prelude.{IsSome}
use Rattle.rdb_pages.specs.declared.cell.Cell.{Cell}
use Rattle.rdb_pages.specs.declared.cell.CellRef.{CellRef}
use Rattle.rdb_cells.specs.declared.pairs.Pair.{Pair}
use Rattle.rdb_cells.specs.Index.{PlansOnlyOwn}
use Rattle.rdb_cells.specs.Links.{IsAmong}
use Rattle.rdb_cells.specs.Records.{names, content, first_of}
use Rattle.rdb_cells.specs.Work.{Work, reading}
use Rattle.rdb_cells.proofs.FreeLemmas.{cell_when_named}
use Rattle.rdb_cells.proofs.WorkLemmas.{left_blank}
use Rattle.rdb_objects.specs.Changes.{AddsVersion, RemovesVersion}
use Rattle.rdb_objects.specs.Objects.{versions_of}
use Rattle.rdb_rows.specs.Plans.{PutsVersion, GivesBack}
use Rattle.rdb_rows.specs.Versions.{Version as StoredVersion}
use Rattle.rdb_sight.specs.Versions.{Version, Object, chain_of}
use Rattle.rdb_store.specs.Classes.{ClassNature, IsHeadOf, AreLawful}
use Rattle.rdb_store.specs.Layouts.{Part, Slots, OfVersion, OfIndex, Layout, cells_in}
use Rattle.rdb_store.specs.Midway.{IsMidPart, IsMidway}
use Rattle.rdb_store.specs.OwnCells.{AddsOwnCells}
use Rattle.rdb_store.specs.Plans.{PlansOnlyClass}
use Rattle.rdb_store.specs.Stored.{all_linked, refs_of}
use Rattle.rdb_store.proofs.IndexSteps.{version_at}
use Rattle.rdb_store.proofs.Lists.{first_in, later_in}
use Rattle.rdb_store.proofs.Staying.{among_or_not}
use Rattle.rdb_store.proofs.Storing.{linked_versions}

-- nothing is planned
pub own_none : (w : Work) → AddsOwnCells w w
own_none w n = inl refl

-- one step after another
pub own_then : (a b c : Work) → b.class_of ≡ a.class_of → b.class ≡ a.class → AddsOwnCells a b → AddsOwnCells b c → AddsOwnCells a c
own_then a b c classes class first second n = elim (second n) [
  | inl same ↦ elim (first n) [ inl before ↦ inl (same ∙ before) | inr own ↦ inr own ]
  | inr own ↦ inr (ap (λ (f : ℕ → Option ℕ). f n) (sym classes) ∙ own ∙ ap Some class)
]

-- a version that is put has cells that could be taken
pub own_put : (w after : Work) (at : ℕ) (v : StoredVersion) → PutsVersion w after at v → AddsOwnCells w after
own_put w after at v puts n = elim (among_or_not (at ∷ puts.row_cells) n) [
  | inl new ↦ inr (left_blank w n (puts.left n new)).class
  | inr apart ↦ inl (puts.elsewhere n apart)
]

-- the version of a chain that has a header
header_in : (chain : List Version) (n : ℕ) → IsAmong (map (λ r. r.number) (refs_of chain)) n → (v : Version) × Contains chain v × (v.header ≡ n)
header_in [] n within = absurd within
header_in (v ∷ vs) n (inl is) = (v, first_in v vs, is)
header_in (v ∷ vs) n (inr within) = let rest = header_in vs n within in (rest.0, later_in v rest.0 vs rest.1, rest.2)

module _ (class : ClassNature) (lawful : AreLawful class) (w : Work) (of_class : w.class ≡ class.number) (objects : List Object) (Loose : ℕ → Type 0) (Such : ℕ → ℕ → Type 0) (layout : Layout) (mid : IsMidway class (reading w) w.class_of objects Loose Such layout) where
  pub of_part : (p : Part) → IsMidPart class objects Loose p → (n : ℕ) → IsAmong (cells_in layout p) n → w.class_of n ≡ Some w.class
  of_part p is n within = (mid.account.paged n (record { part = p; is_part = is; within = within })).1 ∙ ap Some (sym of_class)

  pub of_head : (n : ℕ) → IsHeadOf class n → w.class_of n ≡ Some w.class
  of_head n is = mid.account.heads n is ∙ ap Some (sym of_class)

  pub own_index : (place : ℕ) → place < class.count → (after : Work) → PlansOnlyOwn (class.at place).index (class.at place).keys w after → AddsOwnCells w after
  own_index place below after own n = elim (own (mid.indexes place below).listed (layout.of_index place) (mid.indexes place below).lists n) [
    | inl same ↦ inl same
    | inr (inl head) ↦ inr (of_head n (inr (place, below, head)))
    | inr (inr (inl node)) ↦ inr (of_part (OfIndex place) below n node)
    | inr (inr (inr left)) ↦ inr (left_blank w n left).class
  ]

  pub own_slots : (after : Work) (id : ℕ) (version : CellRef) → AddsVersion class.number w after id version → AddsOwnCells w after
  own_slots after id version adds n = elim (adds.own (all_linked objects) layout.slots mid.slots n) [
    | inl same ↦ inl same
    | inr (inl head) ↦ inr (of_head n (inl head))
    | inr (inr (inl slot)) ↦ inr (of_part Slots tt n slot)
    | inr (inr (inr left)) ↦ inr (left_blank w n left).class
  ]

  header_of : (id n : ℕ) → IsAmong (map (λ v. v.number) (versions_of (all_linked objects) id)) n → w.class_of n ≡ Some w.class
  header_of id n within =
      let found = header_in (chain_of objects id) n (subst (λ (rs : List CellRef). IsAmong (map (λ r. r.number) rs) n) (linked_versions objects id) within) in
      let v = found.0 in
      let stored = version_at class lawful (reading w) w.class_of objects Loose Such layout mid v (record { id = id; within = found.1 }) in
      of_part (OfVersion v.header) (inl (record { version = v; has = record { id = id; within = found.1 }; there = refl })) n
      (subst (λ (ns : List ℕ). IsAmong ns n) (sym stored.1.stands.cells_are) (inl found.2))

  pub own_object : (after : Work) (id : ℕ) (version : CellRef) → RemovesVersion class.number w after id version → AddsOwnCells w after
  own_object after id version removes n = elim (removes.own (all_linked objects) layout.slots mid.slots n) [
    | inl same ↦ inl same
    | inr (inl head) ↦ inr (of_head n (inl head))
    | inr (inr (inl slot)) ↦ inr (of_part Slots tt n slot)
    | inr (inr (inr header)) ↦ inr (header_of id n header)
  ]

  pub own_given : (after : Work) (header : ℕ) → Loose header → GivesBack w after header → AddsOwnCells w after
  own_given after header loose gives n =
      let stands = mid.loose header loose in
      let clears = gives stands.0 (layout.of_version header) stands.1 in
      elim (among_or_not (layout.of_version header) n) [
        | inl within ↦ inr (of_part (OfVersion header) (inr loose) n within)
        | inr apart ↦ inl (clears.elsewhere n apart)
      ]

-- a plan has a content for a cell that it names
named_content : (ps : List Pair) (n : ℕ) → names ps n ≡ true → ¬ (content ps n ≡ None)
named_content ps n named none =
    let cell = cell_when_named ps (λ m. None) n named in
    false≢true (subst (λ (o : Option Cell). IsSome (first_of o None)) none cell)

-- so a plan that was empty has cells of the class alone
pub plans_only : (class : ℕ) (w after : Work) → w.pairs ≡ [] → w.class ≡ class → after.class_of ≡ w.class_of → AddsOwnCells w after → PlansOnlyClass class after
plans_only class w after empty of_class classes adds n named = elim (adds n) [
  | inl same ↦ absurd (named_content after.pairs n named (same ∙ ap (λ (ps : List Pair). content ps n) empty))
  | inr own ↦ ap (λ (f : ℕ → Option ℕ). f n) classes ∙ own ∙ ap Some of_class
]
