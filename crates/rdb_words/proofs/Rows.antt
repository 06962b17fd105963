-- What a use makes of the rows: the row of its argument, and no other.
use Rattle.std.proofs.Common.{◌≡◌, ◌||◌, Bool, true, false, cond, List, [], ◌∷◌, ◌++◌, Option, Some, None, refl, sym, ap, ◌∙◌}
use Rattle.std.specs.Prelude.{find, if◌then◌else◌}
use Rattle.std.specs.Str.{bytes_eq}
use Rattle.std.proofs.lemmas.Slice.Eq.{bytes_eq-Decides}
use Rattle.clap.specs.Walk.{Row, Text, at_row, without, has_row}

-- the first row of an id
abbrev pub row_at : Text → List Row → Option Row
row_at id rows = find (λ r. bytes_eq r.id id) rows

-- an id that has no row
pub no_row : (id : Text) (rows : List Row) → row_at id rows ≡ None → has_row id rows ≡ false
no_row id [] none = refl
no_row id (r ∷ rs) none = by_test (bytes_eq r.id id) refl none (no_row id rs)
  where
    by_test : (b : Bool) → bytes_eq r.id id ≡ b → cond b (Some r) (row_at id rs) ≡ None → (row_at id rs ≡ None → has_row id rs ≡ false) → (bytes_eq r.id id || has_row id rs) ≡ false
    by_test true e h rest = let never : Some r ≡ None = h in absurd (cc)
    by_test false e h rest = ap (λ (x : Bool). x || has_row id rs) e ∙ rest h

-- has none to take out
pub without_none : (id : Text) (rows : List Row) → row_at id rows ≡ None → without id rows ≡ rows
without_none id [] none = refl
without_none id (r ∷ rs) none = by_test (bytes_eq r.id id) refl none (without_none id rs)
  where
    by_test : (b : Bool) → bytes_eq r.id id ≡ b → cond b (Some r) (row_at id rs) ≡ None → (row_at id rs ≡ None → without id rs ≡ rs) → without id (r ∷ rs) ≡ r ∷ rs
    by_test true e h rest = let never : Some r ≡ None = h in absurd (cc)
    by_test false e h rest = ap (λ (x : Bool). if x then ([] ++ rs) else r ∷ without id rs) e ∙ ap (λ (xs : List Row). r ∷ xs) (rest h)

-- and is given one behind the others
pub new_row : (id : Text) (change : Row → List Row) (new : Row) (rows : List Row) → row_at id rows ≡ None → bytes_eq new.id id ≡ true → row_at id (at_row id change (new ∷ []) rows) ≡ Some new
new_row id change new [] none own = ap (λ (x : Bool). cond x (Some new) None) own
new_row id change new (r ∷ rs) none own = by_test (bytes_eq r.id id) refl none (λ h. new_row id change new rs h own)
  where
    by_test : (b : Bool) → bytes_eq r.id id ≡ b → cond b (Some r) (row_at id rs) ≡ None → (row_at id rs ≡ None → row_at id (at_row id change (new ∷ []) rs) ≡ Some new)
        → row_at id (at_row id change (new ∷ []) (r ∷ rs)) ≡ Some new
    by_test true e h rest = let never : Some r ≡ None = h in absurd (cc)
    by_test false e h rest =
        ap (λ (x : Bool). row_at id (if x then (change r ++ rs) else r ∷ at_row id change (new ∷ []) rs)) e
        ∙ ap (λ (x : Bool). cond x (Some r) (row_at id (at_row id change (new ∷ []) rs))) e
        ∙ rest h

-- the row of an id is changed
pub changed_row : (id : Text) (change : Row → Row) (new old : Row) (rows : List Row) → row_at id rows ≡ Some old → bytes_eq (change old).id id ≡ true
    → row_at id (at_row id (λ r. change r ∷ []) (new ∷ []) rows) ≡ Some (change old)
changed_row id change new old [] there own = let never : None ≡ Some old = there in absurd (cc)
changed_row id change new old (r ∷ rs) there own = by_test (bytes_eq r.id id) refl there (λ h. changed_row id change new old rs h own)
  where
    by_test : (b : Bool) → bytes_eq r.id id ≡ b → cond b (Some r) (row_at id rs) ≡ Some old
        → (row_at id rs ≡ Some old → row_at id (at_row id (λ x. change x ∷ []) (new ∷ []) rs) ≡ Some (change old))
        → row_at id (at_row id (λ x. change x ∷ []) (new ∷ []) (r ∷ rs)) ≡ Some (change old)
    by_test true e h rest =
        let whole : Some r ≡ Some old = h in
        let same : r ≡ old = cc in
        ap (λ (x : Bool). row_at id (if x then ((change r ∷ []) ++ rs) else r ∷ at_row id (λ y. change y ∷ []) (new ∷ []) rs)) e
        ∙ ap (λ (x : Bool). cond x (Some (change r)) (row_at id rs)) (ap (λ (y : Row). bytes_eq (change y).id id) same ∙ own)
        ∙ ap (λ (y : Row). Some (change y)) same
    by_test false e h rest =
        ap (λ (x : Bool). row_at id (if x then ((change r ∷ []) ++ rs) else r ∷ at_row id (λ y. change y ∷ []) (new ∷ []) rs)) e
        ∙ ap (λ (x : Bool). cond x (Some r) (row_at id (at_row id (λ y. change y ∷ []) (new ∷ []) rs))) e
        ∙ rest h

-- and no other
pub other_row : (id other : Text) (change : Row → Row) (new : Row) (rows : List Row) → bytes_eq id other ≡ false → bytes_eq new.id other ≡ false
    → ((r : Row) → bytes_eq (change r).id other ≡ bytes_eq r.id other) → row_at other (at_row id (λ r. change r ∷ []) (new ∷ []) rows) ≡ row_at other rows
other_row id other change new [] apart own keeps = ap (λ (x : Bool). cond x (Some new) None) own
other_row id other change new (r ∷ rs) apart own keeps = by_test (bytes_eq r.id id) refl (other_row id other change new rs apart own keeps)
  where
    by_test : (b : Bool) → bytes_eq r.id id ≡ b → row_at other (at_row id (λ x. change x ∷ []) (new ∷ []) rs) ≡ row_at other rs
        → row_at other (at_row id (λ x. change x ∷ []) (new ∷ []) (r ∷ rs)) ≡ row_at other (r ∷ rs)
    by_test true e rest =
        let same : r.id ≡ id = (bytes_eq-Decides r.id id).0 e in
        let away : bytes_eq r.id other ≡ false = ap (λ (t : Text). bytes_eq t other) same ∙ apart in
        ap (λ (x : Bool). row_at other (if x then ((change r ∷ []) ++ rs) else r ∷ at_row id (λ y. change y ∷ []) (new ∷ []) rs)) e
        ∙ ap (λ (x : Bool). cond x (Some (change r)) (row_at other rs)) (keeps r ∙ away)
        ∙ sym (ap (λ (x : Bool). cond x (Some r) (row_at other rs)) away)
    by_test false e rest =
        ap (λ (x : Bool). row_at other (if x then ((change r ∷ []) ++ rs) else r ∷ at_row id (λ y. change y ∷ []) (new ∷ []) rs)) e
        ∙ ap (λ (o : Option Row). cond (bytes_eq r.id other) (Some r) o) rest
