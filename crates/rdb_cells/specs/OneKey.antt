-- Keys that are all one row: a version's header gives its id and its serial.
use Rattle.std.specs.Prelude.{◌≡◌, ◌≢◌, ◌⊎◌, ◌↔◌, ◌==◌, ℕ, List, [], Option, Some, None, IsSome, Bool, true, false, is_some, refl, eqb, if◌then◌else◌}
use Rattle.std.specs.Option.{option_map_or}
use Rattle.std.specs.declared.cmp.Ordering.{Ordering}
use Rattle.std.specs.declared.cmp.Ordering.TheVariants.{Equal}
use Rattle.std.specs.Ordering.{nat_cmp, ordering_then}
use mathlib.Core.Bool.{false≢true}
use mathlib.Core.Logic.{inl, inr}
use mathlib.Core.Path.{sym, ap, ◌∙◌}
use borrow.Author.Tests.{eqb-true, eqb-false, eq-eqb, ne_eqb}
use Rattle.rdb_base.specs.declared.value.Value.{Value}
use Rattle.rdb_pages.specs.declared.cell.Cell.{Cell}
use Rattle.rdb_cells.specs.declared.kind.Kind.TheVariants as kind
use Rattle.rdb_cells.specs.Images.{Image}
use Rattle.rdb_cells.specs.Keys.{Version, Meaning, IsOfVersion, SameVersionCells}
use Rattle.rdb_cells.specs.VersionFormat.{header_in}
use Rattle.rdb_cells.specs.Words.{kind_number, number_of, IsOfKind}

same_or_apart : (a b : ℕ) → (a ≡ b) ⊎ (a ≢ b)
same_or_apart a b = by_test (eqb a b) refl
  where
    by_test : (s : Bool) → eqb a b ≡ s → (a ≡ b) ⊎ (a ≢ b)
    by_test true p = inl (eqb-true a b p)
    by_test false p = inr (eqb-false a b p)

-- the version that a header says, with its key
abbrev pub version_of_header : List Value → Cell → Version
version_of_header key cell = record { key = key; id = (header_in cell).id; serial = (header_in cell).serial }

-- headers go by their versions' ids, then by their serials
abbrev pub header_order : Cell → Cell → Ordering
header_order a b = ordering_then (nat_cmp (header_in a).id (header_in b).id) (nat_cmp (header_in a).serial (header_in b).serial)

-- a header's id against an id, if one is given
abbrev pub id_order : Cell → Option ℕ → Ordering
id_order cell None = Equal
id_order cell (Some id) = nat_cmp (header_in cell).id id

-- the version of a cell, if it is a header
abbrev pub version_in : List Value → Cell → Option Version
version_in key cell = if kind_number cell == number_of kind.Version then Some (version_of_header key cell) else None

abbrev pub version_held : List Value → Option Cell → Option Version
version_held key None = None
version_held key (Some cell) = version_in key cell

pub is_version : (key : List Value) (c : Cell) → IsOfKind c kind.Version → version_in key c ≡ Some (version_of_header key c)
is_version key c is = ap (λ (b : Bool). if b then Some (version_of_header key c) else None) (eq-eqb (kind_number c) (number_of kind.Version) is)

no_version_in : (key : List Value) (c : Cell) → (¬ IsOfKind c kind.Version) → version_in key c ≡ None
no_version_in key c apart = ap (λ (b : Bool). if b then Some (version_of_header key c) else None) (ne_eqb (kind_number c) (number_of kind.Version) apart)

none_some : {X : Type 0} (x : X) → None ≡ Some x → ⊥
none_some {X = X} x e = false≢true (ap (λ (o : Option X). is_some o) e)

-- what a held version is
pub held_is : (key : List Value) (o : Option Cell) (v : Version) → version_held key o ≡ Some v → (c : Cell) × (o ≡ Some c) × (IsOfKind c kind.Version) × (v ≡ version_of_header key c)
held_is key None v e = absurd (none_some v e)
held_is key (Some c) v e = elim (same_or_apart (kind_number c) (number_of kind.Version)) [
  | inl is ↦ (c, refl, is, ap (λ (o : Option Version). option_map_or (λ w. w) o v) (sym e ∙ is_version key c is))
  | inr apart ↦ absurd (none_some v (sym (no_version_in key c apart) ∙ e))
]

-- the laws of keys
pub header_of_version : (key : List Value) (o : Option Cell) → IsSome (version_held key o) → (cell : Cell) × (o ≡ Some cell) × (IsOfKind cell kind.Version)
header_of_version key None some = absurd (false≢true some)
header_of_version key (Some c) some = elim (same_or_apart (kind_number c) (number_of kind.Version)) [
  | inl is ↦ (c, refl, is)
  | inr apart ↦ absurd (false≢true (sym (ap (λ (o : Option Version). is_some o) (no_version_in key c apart)) ∙ some))
]

same_held : (key : List Value) (o p : Option Cell) → ((cell : Cell) → IsOfVersion cell → (o ≡ Some cell) ↔ (p ≡ Some cell)) → version_held key o ≡ version_held key p
same_held key None None same = refl
same_held key None (Some d) same = sym (no_version_in key d (λ is. none_some d ((same d (inr is)).1 refl)))
same_held key (Some c) None same = no_version_in key c (λ is. none_some c ((same c (inr is)).0 refl))
same_held key (Some c) (Some d) same = elim (same_or_apart (kind_number c) (number_of kind.Version)) [
  | inl is ↦ sym (ap (version_held key) ((same c (inr is)).0 refl))
  | inr apart ↦ elim (same_or_apart (kind_number d) (number_of kind.Version)) [
    | inl is ↦ ap (version_held key) ((same d (inr is)).1 refl)
    | inr other ↦ no_version_in key c apart ∙ sym (no_version_in key d other)
  ]
]

pub rests_on_headers : (key : List Value) (a b : Image) → SameVersionCells a b → (n : ℕ) → version_held key (a n) ≡ version_held key (b n)
rests_on_headers key a b same n = same_held key (a n) (b n) (λ cell of_version. same n cell of_version)

-- what the keys mean
abbrev pub one_meaning : List Value → Meaning
one_meaning key = record { version_of = λ image n. version_held key (image n); fits = λ other. true; encoding = λ other. [] }
