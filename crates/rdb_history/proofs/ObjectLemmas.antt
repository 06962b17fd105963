-- The objects that operations wrote, and their rows, operation by operation.
use Rattle.std.proofs.Common.{◌≡◌, ℕ, zero, suc, ◌+◌, ◌≤◌, Bool, true, false, cond, ◌&&◌, ◌||◌, ◌==◌, List, [], ◌∷◌, ◌++◌, length, slice_get, filter_map, Option, Some, None, refl, sym, ap, subst, ◌∙◌, arith}
use Rattle.std.specs.List.{list_any, cons_option}
use Rattle.std.proofs.lemmas.List.{length_push}
use Rattle.std.proofs.lemmas.List.Folds.{list_any-append}
use Rattle.std.specs.Option.{option_map_or}
use Rattle.std.proofs.lemmas.Bool.Decides.{nat_tests}
use Rattle.rdb_base.specs.declared.operation.Op.{Op}
use Rattle.rdb_base.specs.declared.operation.Reply.{Reply}
use Rattle.rdb_model.specs.Database.{Row}
use Rattle.rdb_model.specs.Touch.{written_by}
use Rattle.rdb_history.specs.Rows.{same_object, row_left, wrote, row_after, is_among, with_object, with_written, objects_written}

pub same_itself : (a : ℕ × ℕ) → same_object a a ≡ true
same_itself a = both (a.0 == a.0) (a.1 == a.1) refl refl
  where
    both : (b c : Bool) → (a.0 == a.0) ≡ b → (a.1 == a.1) ≡ c → (b && c) ≡ true
    both true true e f = refl
    both true false e f = absurd (grind (arith, nat_tests))
    both false c e f = absurd (grind (arith, nat_tests))

pub same_are_one : (a b : ℕ × ℕ) → same_object a b ≡ true → a ≡ b
same_are_one a b same = both (a.0 == b.0) (a.1 == b.1) refl refl same
  where
    both : (c d : Bool) → (a.0 == b.0) ≡ c → (a.1 == b.1) ≡ d → (c && d) ≡ true → a ≡ b
    both true true e f g =
        let first : a.0 ≡ b.0 = grind (arith, nat_tests) in
        let second : a.1 ≡ b.1 = grind (arith, nat_tests) in
        λ i. (first i, second i)
    both true false e f g = (cc)
    both false d e f g = (cc)

-- an object at a place is among the others
pub among_at : (objects : List (ℕ × ℕ)) (k : ℕ) (object : ℕ × ℕ) → slice_get objects k ≡ Some object → is_among objects object ≡ true
among_at [] k object e = (cc)
among_at (o ∷ os) zero object e =
    let one : o ≡ object = (cc) in
    ap (λ b. b || is_among os object) (subst (λ x. same_object o x ≡ true) one (same_itself o))
among_at (o ∷ os) (suc k) object e = either (same_object o object) (among_at os k object e)
  where
    either : (b : Bool) → is_among os object ≡ true → (b || is_among os object) ≡ true
    either true f = refl
    either false f = f

-- an object among others stands at a place
pub place_among : (objects : List (ℕ × ℕ)) (object : ℕ × ℕ) → is_among objects object ≡ true → (k : ℕ) × (slice_get objects k ≡ Some object)
place_among [] object e = (cc)
place_among (o ∷ os) object e = go (same_object o object) refl (place_among os object) e
  where
    go : (b : Bool) → same_object o object ≡ b → (is_among os object ≡ true → (k : ℕ) × (slice_get os k ≡ Some object)) → (b || is_among os object) ≡ true → (k : ℕ) × (slice_get (o ∷ os) k ≡ Some object)
    go true f rest g = (0, ap Some (same_are_one o object f))
    go false f rest g = let r = rest g in (suc r.0, r.1)

-- the objects after one more operation
with_written_more : (objects : List (ℕ × ℕ)) (done : List (Op × Reply)) (d : Op × Reply) → with_written objects (done ++ d ∷ []) ≡ with_object (with_written objects done) (written_by d)
with_written_more objects [] d = refl
with_written_more objects (x ∷ xs) d = with_written_more (with_object objects (written_by x)) xs d

pub objects_more : (done : List (Op × Reply)) (d : Op × Reply) → objects_written (done ++ d ∷ []) ≡ with_object (objects_written done) (written_by d)
objects_more done d = with_written_more [] done d

pub objects_same : (done : List (Op × Reply)) (d : Op × Reply) → written_by d ≡ None → objects_written (done ++ d ∷ []) ≡ objects_written done
objects_same done d none = objects_more done d ∙ ap (with_object (objects_written done)) none

pub objects_again : (done : List (Op × Reply)) (d : Op × Reply) (object : ℕ × ℕ) → written_by d ≡ Some object → is_among (objects_written done) object ≡ true → objects_written (done ++ d ∷ []) ≡ objects_written done
objects_again done d object is among =
    objects_more done d ∙ ap (with_object (objects_written done)) is
    ∙ ap (λ b. cond b (objects_written done) (objects_written done ++ object ∷ [])) among

pub objects_first : (done : List (Op × Reply)) (d : Op × Reply) (object : ℕ × ℕ) → written_by d ≡ Some object → is_among (objects_written done) object ≡ false → objects_written (done ++ d ∷ []) ≡ objects_written done ++ object ∷ []
objects_first done d object is absent =
    objects_more done d ∙ ap (with_object (objects_written done)) is
    ∙ ap (λ b. cond b (objects_written done) (objects_written done ++ object ∷ [])) absent

-- the row after one more operation
pub row_more : (object : ℕ × ℕ) (row : Option Row) (done : List (Op × Reply)) (d : Op × Reply) → row_after object row (done ++ d ∷ []) ≡ cond (wrote d object) (row_left d.0) (row_after object row done)
row_more object row [] d = refl
row_more object row (x ∷ xs) d = row_more object (cond (wrote x object) (row_left x.0) row) xs d

pub row_same : (object : ℕ × ℕ) (row : Option Row) (done : List (Op × Reply)) (d : Op × Reply) → wrote d object ≡ false → row_after object row (done ++ d ∷ []) ≡ row_after object row done
row_same object row done d other = row_more object row done d ∙ ap (λ b. cond b (row_left d.0) (row_after object row done)) other

pub row_written : (object : ℕ × ℕ) (row : Option Row) (done : List (Op × Reply)) (d : Op × Reply) → wrote d object ≡ true → row_after object row (done ++ d ∷ []) ≡ row_left d.0
row_written object row done d own = row_more object row done d ∙ ap (λ b. cond b (row_left d.0) (row_after object row done)) own

pub wrote_none : (d : Op × Reply) (object : ℕ × ℕ) → written_by d ≡ None → wrote d object ≡ false
wrote_none d object none = ap (λ w. option_map_or (λ o. same_object o object) w false) none

pub wrote_is : (d : Op × Reply) (own object : ℕ × ℕ) → written_by d ≡ Some own → wrote d object ≡ same_object own object
wrote_is d own object is = ap (λ w. option_map_or (λ o. same_object o object) w false) is

-- what operations didn't write keeps its row
among_pushed : (objects : List (ℕ × ℕ)) (own object : ℕ × ℕ) → is_among (objects ++ own ∷ []) object ≡ (is_among objects object || same_object own object)
among_pushed [] own object = or_false (same_object own object)
  where
    or_false : (b : Bool) → (b || false) ≡ b
    or_false true = refl
    or_false false = refl
among_pushed (o ∷ os) own object = go (same_object o object) (among_pushed os own object)
  where
    go : (b : Bool) → is_among (os ++ own ∷ []) object ≡ (is_among os object || same_object own object) → (b || is_among (os ++ own ∷ []) object) ≡ ((b || is_among os object) || same_object own object)
    go true e = refl
    go false e = e

-- what isn't among objects with one more isn't that one, and isn't among the objects
not_among : (objects : List (ℕ × ℕ)) (w : Option (ℕ × ℕ)) (object : ℕ × ℕ) → is_among (with_object objects w) object ≡ false → (is_among objects object ≡ false) × (option_map_or (λ o. same_object o object) w false ≡ false)
not_among objects None object absent = (absent, refl)
not_among objects (Some own) object absent = go (is_among objects own) refl absent
  where
    parts : (b c : Bool) → (b || c) ≡ false → (b ≡ false) × (c ≡ false)
    parts true c e = (cc)
    parts false c e = (refl, e)

    other : (b : Bool) → same_object own object ≡ b → is_among objects own ≡ true → is_among objects object ≡ false → same_object own object ≡ false
    other true e f g = (cc (ap (is_among objects) (same_are_one own object e)))
    other false e f g = e

    go : (b : Bool) → is_among objects own ≡ b → is_among (cond b objects (objects ++ own ∷ [])) object ≡ false → (is_among objects object ≡ false) × (same_object own object ≡ false)
    go true e none = (none, other (same_object own object) refl e none)
    go false e none = parts (is_among objects object) (same_object own object) (sym (among_pushed objects own object) ∙ none)

absent_row : (objects : List (ℕ × ℕ)) (object : ℕ × ℕ) (row : Option Row) (done : List (Op × Reply)) → is_among (with_written objects done) object ≡ false → (is_among objects object ≡ false) × (row_after object row done ≡ row)
absent_row objects object row [] absent = (absent, refl)
absent_row objects object row (d ∷ ds) absent =
    let here = not_among objects (written_by d) object (absent_row (with_object objects (written_by d)) object row ds absent).0 in
    (here.0, ap (λ b. row_after object (cond b (row_left d.0) row) ds) here.1 ∙ (absent_row (with_object objects (written_by d)) object row ds absent).1)

pub row_of_unwritten : (object : ℕ × ℕ) (row : Option Row) (done : List (Op × Reply)) → is_among (objects_written done) object ≡ false → row_after object row done ≡ row
row_of_unwritten object row done absent = (absent_row [] object row done absent).1

-- operations write at most as many objects as there are writes
at_most_writes : (objects : List (ℕ × ℕ)) (done : List (Op × Reply)) → length (with_written objects done) ≤ length objects + length (filter_map written_by done)
at_most_writes objects [] = omega arith
at_most_writes objects (d ∷ ds) = go (written_by d) (at_most_writes (with_object objects (written_by d)) ds) (grown objects (written_by d))
  where
    grown : (os : List (ℕ × ℕ)) (w : Option (ℕ × ℕ)) → length (with_object os w) ≤ length os + length (cons_option w [])
    grown os None = omega arith
    grown os (Some o) = by_case (is_among os o)
      where
        by_case : (b : Bool) → length (cond b os (os ++ o ∷ [])) ≤ length os + 1
        by_case true = omega arith
        by_case false = let e = length_push os o in omega arith

    go : (w : Option (ℕ × ℕ)) → length (with_written (with_object objects (written_by d)) ds) ≤ length (with_object objects (written_by d)) + length (filter_map written_by ds)
        → length (with_object objects (written_by d)) ≤ length objects + length (cons_option w [])
        → length (with_written (with_object objects (written_by d)) ds) ≤ length objects + length (cons_option w (filter_map written_by ds))
    go None e f = omega arith
    go (Some o) e f = omega arith

pub objects_at_most : (done : List (Op × Reply)) → length (objects_written done) ≤ length (filter_map written_by done)
objects_at_most done = let e = at_most_writes [] done in omega arith

-- a test passes one of the objects that operations wrote where it passes one of their writes
passes_among : (p : ℕ × ℕ → Bool) (objects : List (ℕ × ℕ)) (o : ℕ × ℕ) → is_among objects o ≡ true → p o ≡ true → list_any p objects ≡ true
passes_among p [] o e f = (cc)
passes_among p (x ∷ xs) o e f = go (same_object x o) refl (passes_among p xs o) e
  where
    either : (b : Bool) → list_any p xs ≡ true → (b || list_any p xs) ≡ true
    either true g = refl
    either false g = g

    go : (b : Bool) → same_object x o ≡ b → (is_among xs o ≡ true → p o ≡ true → list_any p xs ≡ true) → (b || is_among xs o) ≡ true → (p x || list_any p xs) ≡ true
    go true g rest h = ap (λ b. b || list_any p xs) (ap p (same_are_one x o g) ∙ f)
    go false g rest h = either (p x) (rest h f)

any_with : (p : ℕ × ℕ → Bool) (objects : List (ℕ × ℕ)) (done : List (Op × Reply)) → list_any p (with_written objects done) ≡ (list_any p objects || list_any p (filter_map written_by done))
any_with p objects [] = nothing (list_any p objects)
  where
    nothing : (b : Bool) → b ≡ (b || false)
    nothing true = refl
    nothing false = refl
any_with p objects (d ∷ ds) = any_with p (with_object objects (written_by d)) ds ∙ go (written_by d)
  where
    rest : Bool
    rest = list_any p (filter_map written_by ds)

    grouped : (a b c : Bool) → ((a || b) || c) ≡ (a || (b || c))
    grouped true b c = refl
    grouped false b c = refl

    or_false : (b : Bool) → (b || false) ≡ b
    or_false true = refl
    or_false false = refl

    there : (o : ℕ × ℕ) (b : Bool) → p o ≡ b → is_among objects o ≡ true → list_any p objects ≡ (list_any p objects || b)
    there o true e among = passes_among p objects o among e ∙ sym (ap (λ b. b || true) (passes_among p objects o among e))
    there o false e among = sym (or_false (list_any p objects))

    pushed : (o : ℕ × ℕ) (b : Bool) → is_among objects o ≡ b → list_any p (cond b objects (objects ++ o ∷ [])) ≡ (list_any p objects || p o)
    pushed o true e = there o (p o) refl e
    pushed o false e = list_any-append p objects (o ∷ []) ∙ ap (λ b. list_any p objects || b) (or_false (p o))

    go : (w : Option (ℕ × ℕ)) → (list_any p (with_object objects w) || rest) ≡ (list_any p objects || list_any p (cons_option w (filter_map written_by ds)))
    go None = refl
    go (Some o) = ap (λ b. b || rest) (pushed o (is_among objects o) refl) ∙ grouped (list_any p objects) (p o) rest

pub any_written : (p : ℕ × ℕ → Bool) (done : List (Op × Reply)) → list_any p (objects_written done) ≡ list_any p (filter_map written_by done)
any_written p done = any_with p [] done
