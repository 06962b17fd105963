-- What headers say of versions that all have one key.
use Rattle.std.proofs.Common.{◌≡◌, ℕ, List, Option, Some, None, IsSome, refl, sym, ap, ap₂, subst, ◌∙◌}
use Rattle.std.specs.declared.cmp.Ordering.{Ordering}
use Rattle.std.specs.declared.cmp.Ordering.TheVariants.{Less, Equal, Greater}
use Rattle.std.specs.Option.{ForSome, option_map_or}
use Rattle.std.specs.Ordering.{ordering_then, ordering_reverse}
use Rattle.rdb_base.specs.declared.value.Value.{Value}
use Rattle.rdb_base.specs.Order.{row_order}
use Rattle.rdb_base.proofs.OrderLemmas.{row_order_total}
use Rattle.rdb_pages.specs.declared.cell.Cell.{Cell}
use Rattle.rdb_cells.specs.declared.kind.Kind.TheVariants as kind
use Rattle.rdb_cells.specs.Keys.{Version, version_order, key_order}
use Rattle.rdb_cells.specs.Words.{IsOfKind}
use Rattle.rdb_cells.specs.OneKey.{version_of_header, version_held, header_order, id_order, held_is, header_of_version, is_version}

-- a row is level with itself
level_with_itself : (o : Ordering) → o ≡ ordering_reverse o → o ≡ Equal
level_with_itself Less e = cc
level_with_itself Equal e = refl
level_with_itself Greater e = cc

pub row_with_itself : (key : List Value) → row_order key key ≡ Equal
row_with_itself key = level_with_itself (row_order key key) (row_order_total.antisymm key key)

pub level_when_equal : (a b : List Value) → a ≡ b → row_order a b ≡ Equal
level_when_equal a b same = subst (λ (k : List Value). row_order a k ≡ Equal) same (row_with_itself a)

module _ (key : List Value) where
  pub header_there : (o : Option Cell) → IsSome (version_held key o) → IsSome o
  header_there o some = subst (λ (p : Option Cell). IsSome p) (sym (header_of_version key o some).1) refl

  -- the version of a cell that is known
  known_version : (o : Option Cell) (c : Cell) (v : Version) → o ≡ Some c → version_held key o ≡ Some v → v ≡ version_of_header key c
  known_version o c v is held =
      let found = held_is key o v held in
      found.3 ∙ ap (version_of_header key) (ap (λ (p : Option Cell). option_map_or (λ d. d) p c) (sym found.1 ∙ is))

  pub held_version : (o : Option Cell) (c : Cell) → o ≡ Some c → IsOfKind c kind.Version → version_held key o ≡ Some (version_of_header key c)
  held_version o c is kind = ap (version_held key) is ∙ is_version key c kind

  own_key : (o : Option Cell) (v : Version) → version_held key o ≡ Some v → v.key ≡ key
  own_key o v held = ap (λ (w : Version). w.key) (held_is key o v held).3

  pub headers_ordered : (o p : Option Cell) (a b : Cell) (r : Ordering) → o ≡ Some a → p ≡ Some b → r ≡ header_order a b → ForSome (version_held key o) (λ v. ForSome (version_held key p) (λ w. r ≡ version_order v w))
  headers_ordered o p a b r is_a is_b e v held w also =
      e ∙ sym (ap (λ (first : Ordering). ordering_then first (header_order a b)) (row_with_itself key))
      ∙ sym (ap₂ version_order (known_version o a v is_a held) (known_version p b w is_b also))

  by_id : (c : Cell) (other : List Value) (id : Option ℕ) (rows ids : Ordering) → rows ≡ row_order key other → ids ≡ id_order c id → ordering_then rows ids ≡ key_order (version_of_header key c) other id
  by_id c other None rows ids is_rows is_ids = ap₂ ordering_then is_rows is_ids ∙ then_level (row_order key other)
    where
      then_level : (o : Ordering) → ordering_then o Equal ≡ o
      then_level Less = refl
      then_level Equal = refl
      then_level Greater = refl
  by_id c other (Some id) rows ids is_rows is_ids = ap₂ ordering_then is_rows is_ids

  pub against_key : (o : Option Cell) (c : Cell) (other : List Value) (id : Option ℕ) (rows ids both : Ordering) → o ≡ Some c → rows ≡ row_order key other → ids ≡ id_order c id → both ≡ ordering_then rows ids → ForSome (version_held key o) (λ v. both ≡ key_order v other id)
  against_key o c other id rows ids both is is_rows is_ids e v held = e ∙ by_id c other id rows ids is_rows is_ids ∙ sym (ap (λ (w : Version). key_order w other id) (known_version o c v is held))

  pub of_key : (P : List Value → Type 0) → P key → (o : Option Cell) → ForSome (version_held key o) (λ v. P v.key)
  of_key P here o v held = subst P (sym (own_key o v held)) here

  pub has_key : (P : List Value → Type 0) (o : Option Cell) (v : Version) → version_held key o ≡ Some v → P v.key → P key
  has_key P o v held there = subst P (own_key o v held) there
