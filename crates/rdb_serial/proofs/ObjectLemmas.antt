-- The object that an operation in work writes: what its own plan says of it, and which ids are drawn.
use Rattle.std.proofs.Common.{◌≡◌, ◌⊎◌, inl, inr, ℕ, ◌<◌, ◌≤◌, Bool, true, false, ◌&&◌, ◌||◌, ◌==◌, List, [], ◌∷◌, ◌++◌, slice_index, Option, Some, None, nat_eq, refl, sym, ap, subst, ◌∙◌, arith}
use Rattle.std.specs.Option.{option_map_or}
use Rattle.std.proofs.lemmas.Bool.Decides.{nat_tests}
use Rattle.std.proofs.lemmas.List.Folds.{list_any-append}
use Rattle.rdb_base.specs.declared.identity.Kind.{Kind}
use Rattle.rdb_base.specs.declared.operation.Op.{Op}
use Rattle.rdb_base.specs.declared.operation.Op.TheVariants as op
use Rattle.rdb_base.specs.declared.operation.Reply.{Reply}
use Rattle.rdb_base.specs.declared.operation.Reply.TheVariants as reply
use Rattle.rdb_base.specs.Operations.{class_of}
use Rattle.rdb_schema.specs.declared.schema.Schema.{Schema}
use Rattle.rdb_schema.specs.Indexes.{indexes_of}
use Rattle.rdb_model.specs.Database.{Database, objects_of, with_objects, with_row}
use Rattle.rdb_model.specs.Answer.{clash, written}
use Rattle.rdb_model.specs.Fits.{Fits}
use Rattle.rdb_model.specs.Journal.{made_by, made_in, was_made}
use Rattle.rdb_model.specs.Touch.{written_by}
use Rattle.rdb_history.specs.Rows.{row_left}
use Rattle.rdb_serial.specs.Progress.{reply_when_done}
use Rattle.rdb_serial.specs.Serial.{AreDrawn, IsUnrefused}
use Rattle.rdb_serial.specs.Moves.{with_id, WritesObject}

-- the operation with its reply once it is done
abbrev pub done_with : ℕ → Op → Op × Reply
done_with id o = (with_id id o, reply_when_done (with_id id o))

-- a fact that can't be so isn't
pub not_so : (b : Bool) → (b ≡ true → ⊥) → b ≡ false
not_so true none = absurd (none refl)
not_so false none = refl

-- it writes the object of that id
pub writes_it : (o : Op) (id : ℕ) (drawn now : List ℕ) → WritesObject o id drawn now → written_by (with_id id o, reply_when_done (with_id id o)) ≡ Some (class_of o, id)
writes_it (op.New class row was) id drawn now is = refl
writes_it (op.Put class named row) id drawn now is = ap (λ (n : ℕ). Some (class, n)) (sym is.0)
writes_it (op.Del class named) id drawn now is = ap (λ (n : ℕ). Some (class, n)) (sym is.0)
writes_it (op.Get class named) id drawn now is = absurd is
writes_it (op.Find class at wanted) id drawn now is = absurd is
writes_it (op.Seek class at from up) id drawn now is = absurd is
writes_it (op.Area class at rect inside) id drawn now is = absurd is
writes_it (op.Prefix class at text way) id drawn now is = absurd is
writes_it (op.Count class) id drawn now is = absurd is

-- it leaves the same row of it
pub same_row : (o : Op) (id : ℕ) → row_left (with_id id o) ≡ row_left o
same_row (op.New class row was) id = refl
same_row (op.Put class named row) id = refl
same_row (op.Del class named) id = refl
same_row (op.Get class named) id = refl
same_row (op.Find class at wanted) id = refl
same_row (op.Seek class at from up) id = refl
same_row (op.Area class at rect inside) id = refl
same_row (op.Prefix class at text way) id = refl
same_row (op.Count class) id = refl

-- it fits with any id
pub fits_still : (schema : Schema) (k : Kind) (o : Op) (id : ℕ) → Fits schema o k → Fits schema (with_id id o) k
fits_still schema k (op.New class row was) id fits = fits
fits_still schema k (op.Put class named row) id fits = fits
fits_still schema k (op.Del class named) id fits = fits
fits_still schema k (op.Get class named) id fits = fits
fits_still schema k (op.Find class at wanted) id fits = fits
fits_still schema k (op.Seek class at from up) id fits = fits
fits_still schema k (op.Area class at rect inside) id fits = fits
fits_still schema k (op.Prefix class at text way) id fits = fits
fits_still schema k (op.Count class) id fits = fits

-- and isn't refused
pub unrefused_still : (schema : Schema) (db : Database) (o : Op) (id : ℕ) → IsUnrefused schema db o → IsUnrefused schema db (with_id id o)
unrefused_still schema db (op.New class row was) id is = go (clash (indexes_of schema class) 0 row (objects_of db class)) is
  where
    go : (c : Option (ℕ × ℕ)) → (written c (reply.Made was) db (with_objects db class (with_row (objects_of db class) was row))).0 ≡ reply.Made was
        → (written c (reply.Made id) db (with_objects db class (with_row (objects_of db class) id row))).0 ≡ reply.Made id
    go None e = refl
    go (Some at) e = absurd (cc)
unrefused_still schema db (op.Put class named row) id is = is
unrefused_still schema db (op.Del class named) id is = is
unrefused_still schema db (op.Get class named) id is = is
unrefused_still schema db (op.Find class at wanted) id is = is
unrefused_still schema db (op.Seek class at from up) id is = is
unrefused_still schema db (op.Area class at rect inside) id is = is
unrefused_still schema db (op.Prefix class at text way) id is = is
unrefused_still schema db (op.Count class) id is = is

same_drawn : (drawn now : List ℕ) → now ≡ drawn → (k : ℕ) → slice_index drawn k ≤ slice_index now k
same_drawn drawn now same k = let d = ap (λ (ds : List ℕ). slice_index ds k) same in omega (arith, d)

-- no fewer ids are drawn
pub draws_more : (o : Op) (id : ℕ) (drawn now : List ℕ) → WritesObject o id drawn now → (k : ℕ) → slice_index drawn k ≤ slice_index now k
draws_more (op.New class row was) id drawn now is = is.grows
draws_more (op.Put class named row) id drawn now is = same_drawn drawn now is.1
draws_more (op.Del class named) id drawn now is = same_drawn drawn now is.1
draws_more (op.Get class named) id drawn now is = absurd is
draws_more (op.Find class at wanted) id drawn now is = absurd is
draws_more (op.Seek class at from up) id drawn now is = absurd is
draws_more (op.Area class at rect inside) id drawn now is = absurd is
draws_more (op.Prefix class at text way) id drawn now is = absurd is
draws_more (op.Count class) id drawn now is = absurd is

-- that an object's id is one of those that were drawn now, and not before
abbrev pub IsNewlyDrawn : List ℕ → List ℕ → ℕ × ℕ → Type 0
IsNewlyDrawn drawn now object = (slice_index drawn object.0 < object.1) × (object.1 ≤ slice_index now object.0)

-- what it makes is newly drawn
pub makes_newly : (o : Op) (id : ℕ) (drawn now : List ℕ) → WritesObject o id drawn now → (object : ℕ × ℕ) → was_made (made_in (done_with id o ∷ [])) object ≡ true → IsNewlyDrawn drawn now object
makes_newly (op.New class row was) id drawn now is object made = go (nat_eq class object.0) refl (nat_eq id object.1) refl made
  where
    go : (a : Bool) → nat_eq class object.0 ≡ a → (b : Bool) → nat_eq id object.1 ≡ b → ((a && b) || false) ≡ true → (slice_index drawn object.0 < object.1) × (object.1 ≤ slice_index now object.0)
    go true e true f h =
        let same : class ≡ object.0 = grind (arith, nat_tests) in
        let one : id ≡ object.1 = grind (arith, nat_tests) in
        subst (λ (k : ℕ). (slice_index drawn k < object.1) × (object.1 ≤ slice_index now k)) same
        (subst (λ (n : ℕ). (slice_index drawn class < n) × (n ≤ slice_index now class)) one (is.above, is.counted))
    go true e false f h = absurd (cc)
    go false e b f h = absurd (cc)
makes_newly (op.Put class named row) id drawn now is object made = absurd (cc)
makes_newly (op.Del class named) id drawn now is object made = absurd (cc)
makes_newly (op.Get class named) id drawn now is object made = absurd is
makes_newly (op.Find class at wanted) id drawn now is object made = absurd is
makes_newly (op.Seek class at from up) id drawn now is object made = absurd is
makes_newly (op.Area class at rect inside) id drawn now is object made = absurd is
makes_newly (op.Prefix class at text way) id drawn now is object made = absurd is
makes_newly (op.Count class) id drawn now is object made = absurd is

-- so it was never made
pub makes_none_again : (o : Op) (id : ℕ) (drawn now : List ℕ) (made : List (ℕ × ℕ)) → WritesObject o id drawn now → AreDrawn drawn made → option_map_or (was_made made) (made_by (done_with id o)) false ≡ false
makes_none_again (op.New class row was) id drawn now made is are = not_so (was_made made (class, id)) (λ h. let le = are class id h in let lt = is.above in omega (arith, le, lt))
makes_none_again (op.Put class named row) id drawn now made is are = refl
makes_none_again (op.Del class named) id drawn now made is are = refl
makes_none_again (op.Get class named) id drawn now made is are = absurd is
makes_none_again (op.Find class at wanted) id drawn now made is are = absurd is
makes_none_again (op.Seek class at from up) id drawn now made is are = absurd is
makes_none_again (op.Area class at rect inside) id drawn now made is are = absurd is
makes_none_again (op.Prefix class at text way) id drawn now made is are = absurd is
makes_none_again (op.Count class) id drawn now made is are = absurd is

-- an object among two lists is of one of them
pub made_either : (xs ys : List (ℕ × ℕ)) (object : ℕ × ℕ) → was_made (xs ++ ys) object ≡ true → (was_made xs object ≡ true) ⊎ (was_made ys object ≡ true)
made_either xs ys object made = go (was_made xs object) refl (sym (list_any-append (λ (m : ℕ × ℕ). (m.0 == object.0) && (m.1 == object.1)) xs ys) ∙ made)
  where
    go : (a : Bool) → was_made xs object ≡ a → (a || was_made ys object) ≡ true → (was_made xs object ≡ true) ⊎ (was_made ys object ≡ true)
    go true e h = inl e
    go false e h = inr h

-- the ids of two lists are drawn
pub drawn_both : (drawn : List ℕ) (xs ys : List (ℕ × ℕ)) → AreDrawn drawn xs → AreDrawn drawn ys → AreDrawn drawn (xs ++ ys)
drawn_both drawn xs ys first second class id made = go (made_either xs ys (class, id) made)
  where
    go : (was_made xs (class, id) ≡ true) ⊎ (was_made ys (class, id) ≡ true) → id ≤ slice_index drawn class
    go (inl h) = first class id h
    go (inr h) = second class id h
