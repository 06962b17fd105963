-- What an operation that writes leaves of the plain database, and what a story left of its objects.
use Rattle.std.proofs.Common.{◌≡◌, ℕ, ◌<◌, Bool, true, false, cond, ◌&&◌, ◌≤◌, ◌⊎◌, inl, inr, List, [], ◌∷◌, ◌++◌, length, Option, Some, None, nat_eq, nat_lt, refl, ap, subst, ◌∙◌, arith, get_or-set_same}
use Rattle.std.specs.Option.{option_map_or, option_or}
use Rattle.std.proofs.lemmas.Bool.{cases_lt}
use Rattle.std.proofs.lemmas.Bool.Decides.{nat_tests}
use Rattle.std.proofs.lemmas.List.{set_past}
use Rattle.std.proofs.lemmas.Option.{some_pair_parts}
use Rattle.rdb_base.specs.declared.operation.Op.{Op}
use Rattle.rdb_base.specs.declared.operation.Op.TheVariants as op
use Rattle.rdb_base.specs.declared.operation.Reply.{Reply}
use Rattle.rdb_base.specs.declared.operation.Reply.TheVariants as reply
use Rattle.rdb_schema.specs.declared.schema.Schema.{Schema}
use Rattle.rdb_schema.specs.Indexes.{indexes_of}
use Rattle.rdb_model.specs.Database.{Row, Objects, Database, row_of, with_row, without, objects_of, with_objects}
use Rattle.rdb_model.specs.Answer.{clash, written, answer}
use Rattle.rdb_model.specs.Touch.{written_by}
use Rattle.rdb_model.proofs.Rising.{row_of_with_row, row_of_without, row_of_without_same}
use Rattle.rdb_model.proofs.Erasing.{objects_other}
use Rattle.rdb_model.proofs.ClassAnswers.{put_answer, del_answer}
use Rattle.rdb_history.specs.Rows.{same_object, row_left, wrote, row_after}
use Rattle.rdb_shown.specs.Kept.{last_left}

-- the objects with that row at that id, or without it
abbrev pub set_row : Objects → ℕ → Option Row → Objects
set_row os id (Some row) = with_row os id row
set_row os id None = without os id

row_of_with_same : (os : Objects) (id : ℕ) (row : Row) → row_of (with_row os id row) id ≡ Some row
row_of_with_same [] id row = let same : nat_eq id id ≡ true = grind (arith, nat_tests) in ap (λ b. cond b (Some row) None) same
row_of_with_same (o ∷ os) id row = go (nat_lt id o.0) (nat_eq o.0 id) refl (grind (arith, nat_tests)) (row_of_with_same os id row)
  where
    go : (b c : Bool) → nat_eq o.0 id ≡ c → nat_eq id id ≡ true → row_of (with_row os id row) id ≡ Some row → row_of (cond b ((id, row) ∷ o ∷ os) (cond c ((id, row) ∷ os) (o ∷ with_row os id row))) id ≡ Some row
    go true c e same rest = ap (λ b. cond b (Some row) (cond (nat_eq o.0 id) (Some o.1) (row_of os id))) same
    go false true e same rest = ap (λ b. cond b (Some row) (row_of os id)) same
    go false false e same rest = ap (λ b. cond b (Some o.1) (row_of (with_row os id row) id)) e ∙ rest

pub set_row_same : (os : Objects) (id : ℕ) (row : Option Row) → row_of (set_row os id row) id ≡ row
set_row_same os id (Some row) = row_of_with_same os id row
set_row_same os id None = row_of_without_same os id

pub set_row_other : (os : Objects) (id other : ℕ) (row : Option Row) → nat_eq id other ≡ false → row_of (set_row os id row) other ≡ row_of os other
set_row_other os id other (Some row) e = row_of_with_row os id other row e
set_row_other os id other None e = row_of_without os id other e

-- an operation that wrote an object set its row
set_at : (db : Database) (class id c i : ℕ) (row : Option Row) → ◌≡◌ {A = Option (ℕ × ℕ)} (Some (c, i)) (Some (class, id)) → with_objects db c (set_row (objects_of db c) i row) ≡ with_objects db class (set_row (objects_of db class) id row)
set_at db class id c i row e =
    let parts = some_pair_parts c class i id e in
    ap (λ k. with_objects db k (set_row (objects_of db k) i row)) parts.0 ∙ ap (λ k. with_objects db class (set_row (objects_of db class) k row)) parts.1

pub answer_wrote : (schema : Schema) (db : Database) (o : Op) (told : Reply) (class id : ℕ) → written_by (o, told) ≡ Some (class, id) → (answer schema db o).0 ≡ told
    → (answer schema db o).1 ≡ with_objects db class (set_row (objects_of db class) id (row_left o))
answer_wrote schema db (op.New c row i) told class id wrote is = go (clash (indexes_of schema c) 0 row (objects_of db c)) is
  where
    go : (k : Option (ℕ × ℕ)) → (written k (reply.Made i) db (with_objects db c (with_row (objects_of db c) i row))).0 ≡ told
        → (written k (reply.Made i) db (with_objects db c (with_row (objects_of db c) i row))).1 ≡ with_objects db class (set_row (objects_of db class) id (Some row))
    go None e = set_at db class id c i (Some row) (ap (λ t. written_by (op.New c row i, t)) e ∙ wrote)
    go (Some at) e = let h : ◌≡◌ {A = Option (ℕ × ℕ)} None (Some (class, id)) = ap (λ t. written_by (op.New c row i, t)) e ∙ wrote in (cc)
answer_wrote schema db (op.Put c i row) told class id wrote is = go (row_of (objects_of db c) i) (clash (indexes_of schema c) 0 row (without (objects_of db c) i)) is
  where
    go : (r : Option Row) (k : Option (ℕ × ℕ)) → (put_answer r k db (with_objects db c (with_row (objects_of db c) i row))).0 ≡ told
        → (put_answer r k db (with_objects db c (with_row (objects_of db c) i row))).1 ≡ with_objects db class (set_row (objects_of db class) id (Some row))
    go None k e = let h : ◌≡◌ {A = Option (ℕ × ℕ)} None (Some (class, id)) = ap (λ t. written_by (op.Put c i row, t)) e ∙ wrote in (cc)
    go (Some r) None e = set_at db class id c i (Some row) (ap (λ t. written_by (op.Put c i row, t)) e ∙ wrote)
    go (Some r) (Some at) e = let h : ◌≡◌ {A = Option (ℕ × ℕ)} None (Some (class, id)) = ap (λ t. written_by (op.Put c i row, t)) e ∙ wrote in (cc)
answer_wrote schema db (op.Del c i) told class id wrote is = go (row_of (objects_of db c) i) is
  where
    go : (r : Option Row) → (del_answer r db (with_objects db c (without (objects_of db c) i))).0 ≡ told
        → (del_answer r db (with_objects db c (without (objects_of db c) i))).1 ≡ with_objects db class (set_row (objects_of db class) id None)
    go None e = let h : ◌≡◌ {A = Option (ℕ × ℕ)} None (Some (class, id)) = ap (λ t. written_by (op.Del c i, t)) e ∙ wrote in (cc)
    go (Some r) e = set_at db class id c i None (ap (λ t. written_by (op.Del c i, t)) e ∙ wrote)
answer_wrote schema db (op.Get c i) told class id wrote is = (cc)
answer_wrote schema db (op.Find c at wanted) told class id wrote is = (cc)
answer_wrote schema db (op.Seek c at from up) told class id wrote is = (cc)
answer_wrote schema db (op.Area c at rect inside) told class id wrote is = (cc)
answer_wrote schema db (op.Prefix c at text way) told class id wrote is = (cc)
answer_wrote schema db (op.Count c) told class id wrote is = (cc)

-- the row of the object that was written, and of every other one
pub set_here : (db : Database) (class id : ℕ) (row : Option Row) → class < length db → row_of (objects_of (with_objects db class (set_row (objects_of db class) id row)) class) id ≡ row
set_here db class id row lt = ap (λ os. row_of os id) (get_or-set_same db class (set_row (objects_of db class) id row) [] lt) ∙ set_row_same (objects_of db class) id row

pub set_elsewhere : (db : Database) (class id : ℕ) (row : Option Row) (c i : ℕ) → (nat_eq class c ≡ true → nat_eq id i ≡ true → ⊥)
    → row_of (objects_of (with_objects db class (set_row (objects_of db class) id row)) c) i ≡ row_of (objects_of db c) i
set_elsewhere db class id row c i differs = go (nat_eq class c) refl (nat_eq id i) refl
  where
    within : (class < length db) ⊎ (length db ≤ class) → nat_eq id i ≡ false → row_of (objects_of (with_objects db class (set_row (objects_of db class) id row)) class) i ≡ row_of (objects_of db class) i
    within (inl lt) f = ap (λ os. row_of os i) (get_or-set_same db class (set_row (objects_of db class) id row) [] lt) ∙ set_row_other (objects_of db class) id i row f
    within (inr past) f = ap (λ (d : Database). row_of (objects_of d class) i) (set_past db class (set_row (objects_of db class) id row) past)

    go : (b : Bool) → nat_eq class c ≡ b → (d : Bool) → nat_eq id i ≡ d → row_of (objects_of (with_objects db class (set_row (objects_of db class) id row)) c) i ≡ row_of (objects_of db c) i
    go false e d f = ap (λ os. row_of os i) (objects_other db class c (set_row (objects_of db class) id row) e)
    go true e true f = absurd (differs e f)
    go true e false f =
        let same : class ≡ c = grind (arith, nat_tests) in
        subst (λ (k : ℕ). row_of (objects_of (with_objects db class (set_row (objects_of db class) id row)) k) i ≡ row_of (objects_of db k) i) same (within (cases_lt class (length db)) f)

-- whether an operation wrote an object
pub wrote_here : (d : Op × Reply) (class id : ℕ) → written_by d ≡ Some (class, id) → wrote d (class, id) ≡ true
wrote_here d class id e =
    let one : nat_eq class class ≡ true = grind (arith, nat_tests) in
    let two : nat_eq id id ≡ true = grind (arith, nat_tests) in
    ap (λ o. option_map_or (λ w. same_object w (class, id)) o false) e ∙ ap (λ b. b && nat_eq id id) one ∙ two

pub wrote_elsewhere : (d : Op × Reply) (class id c i : ℕ) → written_by d ≡ Some (class, id) → (nat_eq class c ≡ true → nat_eq id i ≡ true → ⊥) → wrote d (c, i) ≡ false
wrote_elsewhere d class id c i e differs = ap (λ o. option_map_or (λ w. same_object w (c, i)) o false) e ∙ go (nat_eq class c) refl (nat_eq id i) refl
  where
    go : (b : Bool) → nat_eq class c ≡ b → (f : Bool) → nat_eq id i ≡ f → (b && f) ≡ false
    go false g f h = refl
    go true g false h = refl
    go true g true h = absurd (differs g h)

pub wrote_none : (d : Op × Reply) (object : ℕ × ℕ) → written_by d ≡ None → wrote d object ≡ false
wrote_none d object e = ap (λ o. option_map_or (λ w. same_object w object) o false) e

-- what one operation more left
pub left_more : (object : ℕ × ℕ) (done : List (Op × Reply)) (d : Op × Reply) → last_left object (done ++ d ∷ []) ≡ cond (wrote d object) (Some (row_left d.0)) (last_left object done)
left_more object [] d = refl
left_more object (e ∷ es) d =
    ap (λ l. option_or l (cond (wrote e object) (Some (row_left e.0)) None)) (left_more object es d) ∙ go (wrote d object)
  where
    go : (b : Bool) → option_or (cond b (Some (row_left d.0)) (last_left object es)) (cond (wrote e object) (Some (row_left e.0)) None) ≡ cond b (Some (row_left d.0)) (option_or (last_left object es) (cond (wrote e object) (Some (row_left e.0)) None))
    go true = refl
    go false = refl

-- the row of an object after operations is what they left of it, if they wrote it
pub left_after : (object : ℕ × ℕ) (row : Option Row) (done : List (Op × Reply)) → row_after object row done ≡ option_map_or (λ r. r) (last_left object done) row
left_after object row [] = refl
left_after object row (d ∷ ds) = left_after object (cond (wrote d object) (row_left d.0) row) ds ∙ go (last_left object ds) (wrote d object)
  where
    go : (l : Option (Option Row)) (b : Bool) → option_map_or (λ r. r) l (cond b (row_left d.0) row) ≡ option_map_or (λ r. r) (option_or l (cond b (Some (row_left d.0)) None)) row
    go (Some r) b = refl
    go None true = refl
    go None false = refl
