-- The objects that operations wrote, each once.
use Rattle.std.proofs.Common.{◌≡◌, ℕ, Bool, true, false, cond, List, [], ◌∷◌, ◌++◌, length, slice_get, Option, Some, None, refl, sym, ap, ◌∙◌, inl, inr, ◌⊎◌}
use Rattle.rdb_base.specs.declared.operation.Op.{Op}
use Rattle.rdb_base.specs.declared.operation.Reply.{Reply}
use Rattle.rdb_model.specs.Database.{Row}
use Rattle.rdb_model.specs.Touch.{written_by}
use Rattle.rdb_model.specs.Validation.{was_written}
use Rattle.rdb_history.specs.Rows.{same_object, row_after, is_among, with_object, with_written, objects_written}
use Rattle.rdb_history.proofs.ListLemmas.{get_pushed}
use Rattle.rdb_history.proofs.ObjectLemmas.{among_at, place_among, any_written, row_of_unwritten}

pub among_is : (done : List (Op × Reply)) (object : ℕ × ℕ) → is_among (objects_written done) object ≡ was_written done object
among_is done object = any_written (λ o. same_object o object) done

pub placed : (done : List (Op × Reply)) (object : ℕ × ℕ) → was_written done object ≡ true → (k : ℕ) × (slice_get (objects_written done) k ≡ Some object)
placed done object written = place_among (objects_written done) object (among_is done object ∙ written)

pub written_at : (done : List (Op × Reply)) (k : ℕ) (object : ℕ × ℕ) → slice_get (objects_written done) k ≡ Some object → was_written done object ≡ true
written_at done k object at = sym (among_is done object) ∙ among_at (objects_written done) k object at

-- that each object stands at one place
abbrev IsOnce : List (ℕ × ℕ) → Type 0
IsOnce objects = (i k : ℕ) (object : ℕ × ℕ) → slice_get objects i ≡ Some object → slice_get objects k ≡ Some object → i ≡ k

pushed_once : (objects : List (ℕ × ℕ)) (own : ℕ × ℕ) → is_among objects own ≡ false → IsOnce objects → IsOnce (objects ++ own ∷ [])
pushed_once objects own absent once i k object at other = go (get_pushed objects own object i at) (get_pushed objects own object k other)
  where
    never : (j : ℕ) → slice_get objects j ≡ Some object → own ≡ object → ⊥
    never j here same = let among : is_among objects own ≡ true = ap (is_among objects) same ∙ among_at objects j object here in (cc)

    go : (slice_get objects i ≡ Some object) ⊎ ((i ≡ length objects) × (own ≡ object)) → (slice_get objects k ≡ Some object) ⊎ ((k ≡ length objects) × (own ≡ object)) → i ≡ k
    go (inl f) (inl g) = once i k object f g
    go (inl f) (inr g) = absurd (never i f g.1)
    go (inr f) (inl g) = absurd (never k g f.1)
    go (inr f) (inr g) = f.0 ∙ sym g.0

with_once : (objects : List (ℕ × ℕ)) (w : Option (ℕ × ℕ)) → IsOnce objects → IsOnce (with_object objects w)
with_once objects None once = once
with_once objects (Some own) once = go (is_among objects own) refl
  where
    go : (b : Bool) → is_among objects own ≡ b → IsOnce (cond b objects (objects ++ own ∷ []))
    go true e = once
    go false e = pushed_once objects own e once

all_once : (objects : List (ℕ × ℕ)) (done : List (Op × Reply)) → IsOnce objects → IsOnce (with_written objects done)
all_once objects [] once = once
all_once objects (d ∷ ds) once = all_once (with_object objects (written_by d)) ds (with_once objects (written_by d) once)

pub written_once : (done : List (Op × Reply)) (i k : ℕ) (object : ℕ × ℕ) → slice_get (objects_written done) i ≡ Some object → slice_get (objects_written done) k ≡ Some object → i ≡ k
written_once done = all_once [] done (λ i k object at other. (cc))

pub unwritten_row : (done : List (Op × Reply)) (object : ℕ × ℕ) (row : Option Row) → was_written done object ≡ false → row_after object row done ≡ row
unwritten_row done object row absent = row_of_unwritten object row done (among_is done object ∙ absent)
