-- One operation more of a story that is judged.
use Rattle.std.proofs.Common.{◌≡◌, ℕ, ◌+◌, ◌<◌, Bool, true, false, cond, not, ◌&&◌, List, [], ◌∷◌, ◌++◌, length, take, drop, get_or, Option, Some, None, refl, sym, ap, ap₂, ◌∙◌, subst, append_assoc, is_none, length-set}
use Rattle.std.specs.List.{cons_option}
use Rattle.std.specs.Option.{option_map_or, option_or}
use Rattle.std.proofs.lemmas.List.{take_more, drop_more}
use Rattle.std.proofs.lemmas.List.Elements.{filter_map-append}
use Rattle.rdb_base.specs.declared.identity.Kind.{Kind}
use Rattle.rdb_base.specs.declared.identity.Kind.TheVariants as kind
use Rattle.rdb_base.specs.declared.operation.Op.{Op}
use Rattle.rdb_base.specs.declared.operation.Op.TheVariants as op
use Rattle.rdb_base.specs.declared.operation.Reply.{Reply}
use Rattle.rdb_schema.specs.declared.schema.Schema.{Schema}
use Rattle.rdb_model.specs.Database.{Database, objects_of, with_objects, row_of, with_row, without}
use Rattle.rdb_model.specs.Fits.{Fits, AllFit}
use Rattle.rdb_model.specs.Answer.{answer, clash, written}
use Rattle.rdb_model.specs.Story.{same_reply, after}
use Rattle.rdb_model.specs.Journal.{wrong_reply, was_made, made_by, made_in}
use Rattle.rdb_base.specs.declared.operation.Reply.TheVariants as reply
use Rattle.rdb_schema.specs.Indexes.{indexes_of}

-- what is left of a list, and what was passed, one element on
pub drop_next : {A : Type 0} (xs : List A) (i : ℕ) (d : A) → i < length xs → d ≡ get_or xs i d → drop i xs ≡ d ∷ drop (i + 1) xs
drop_next xs i d within is = drop_more xs i d within ∙ ap (λ x. x ∷ drop (i + 1) xs) (sym is)

pub take_next : {A : Type 0} (xs : List A) (i : ℕ) (d : A) → i < length xs → d ≡ get_or xs i d → take (i + 1) xs ≡ take i xs ++ d ∷ []
take_next xs i d within is = take_more xs i d within ∙ ap (λ x. take i xs ++ x ∷ []) (sym is)

-- the objects that one operation more made
pub made_in_more : (objects : List (ℕ × ℕ)) (done : List (Op × Reply)) (i : ℕ) (d : Op × Reply) → i < length done → d ≡ get_or done i d → objects ++ made_in (take (i + 1) done) ≡ (objects ++ made_in (take i done)) ++ made_in (d ∷ [])
made_in_more objects done i d within is =
    ap (λ l. objects ++ made_in l) (take_next done i d within is)
    ∙ ap (λ l. objects ++ l) (filter_map-append made_by (take i done) (d ∷ []))
    ∙ sym (append_assoc objects (made_in (take i done)) (made_in (d ∷ [])))

-- the database after what is left, one operation on
pub after_more : (schema : Schema) (db : Database) (done : List (Op × Reply)) (i : ℕ) (d : Op × Reply) → i < length done → d ≡ get_or done i d → after schema db (drop i done) ≡ after schema (answer schema db d.0).1 (drop (i + 1) done)
after_more schema db done i d within is = ap (after schema db) (drop_next done i d within is)

-- the database after what was passed, one operation on
after_push : (schema : Schema) (db : Database) (done : List (Op × Reply)) (d : Op × Reply) → after schema db (done ++ d ∷ []) ≡ (answer schema (after schema db done) d.0).1
after_push schema db [] d = refl
after_push schema db (x ∷ xs) d = after_push schema (answer schema db x.0).1 xs d

pub after_taken : (schema : Schema) (db : Database) (done : List (Op × Reply)) (i : ℕ) (d : Op × Reply) → i < length done → d ≡ get_or done i d → after schema db (take (i + 1) done) ≡ (answer schema (after schema db (take i done)) d.0).1
after_taken schema db done i d within is = ap (after schema db) (take_next done i d within is) ∙ after_push schema db (take i done) d

-- the first wrong operation so far, or else of what is left, one operation on
pub wrong_more : (schema : Schema) (db : Database) (objects : List (ℕ × ℕ)) (done : List (Op × Reply)) (i : ℕ) (d : Op × Reply) (wrong : Option ℕ) (same again : Bool) → i < length done → d ≡ get_or done i d → same ≡ same_reply (answer schema db d.0).0 d.1 → again ≡ option_map_or (was_made objects) (made_by d) false → option_or (option_or wrong (cond (same && not again) None (Some (i + 1)))) (wrong_reply schema (answer schema db d.0).1 (objects ++ made_in (d ∷ [])) (i + 1 + 1) (drop (i + 1) done)) ≡ option_or wrong (wrong_reply schema db objects (i + 1) (drop i done))
wrong_more schema db objects done i d (Some w) same again within is so also = refl
wrong_more schema db objects done i d None same again within is so also =
    by_right (same && not again)
    ∙ ap₂ (λ a b. cond (a && not b) (wrong_reply schema (answer schema db d.0).1 (objects ++ made_in (d ∷ [])) (i + 1 + 1) (drop (i + 1) done)) (Some (i + 1))) so also
    ∙ ap (wrong_reply schema db objects (i + 1)) (sym (drop_next done i d within is))
  where
    by_right : (b : Bool) → option_or (cond b None (Some (i + 1))) (wrong_reply schema (answer schema db d.0).1 (objects ++ made_in (d ∷ [])) (i + 1 + 1) (drop (i + 1) done)) ≡ cond b (wrong_reply schema (answer schema db d.0).1 (objects ++ made_in (d ∷ [])) (i + 1 + 1) (drop (i + 1) done)) (Some (i + 1))
    by_right true = refl
    by_right false = refl

-- an operation that fits under reading alone fits under reading and writing, changes nothing and makes nothing
pub reads_fit : (schema : Schema) (o : Op) → Fits schema o kind.ReadOnly → Fits schema o kind.ReadWrite
reads_fit schema (op.New class row id) h = absurd (cc)
reads_fit schema (op.Get class id) h = h
reads_fit schema (op.Put class id row) h = absurd (cc)
reads_fit schema (op.Del class id) h = absurd (cc)
reads_fit schema (op.Find class index key) h = h
reads_fit schema (op.Seek class index from up) h = h
reads_fit schema (op.Area class index rect inside) h = h
reads_fit schema (op.Prefix class index text way) h = h
reads_fit schema (op.Count class) h = h

pub reads_keep : (schema : Schema) (db : Database) (o : Op) → Fits schema o kind.ReadOnly → (answer schema db o).1 ≡ db
reads_keep schema db (op.New class row id) h = absurd (cc)
reads_keep schema db (op.Get class id) h = refl
reads_keep schema db (op.Put class id row) h = absurd (cc)
reads_keep schema db (op.Del class id) h = absurd (cc)
reads_keep schema db (op.Find class index key) h = refl
reads_keep schema db (op.Seek class index from up) h = refl
reads_keep schema db (op.Area class index rect inside) h = refl
reads_keep schema db (op.Prefix class index text way) h = refl
reads_keep schema db (op.Count class) h = refl

pub reads_make : (schema : Schema) (o : Op) (told : Reply) → Fits schema o kind.ReadOnly → made_by (o, told) ≡ None
reads_make schema (op.New class row id) told h = absurd (cc)
reads_make schema (op.Get class id) told h = refl
reads_make schema (op.Put class id row) told h = absurd (cc)
reads_make schema (op.Del class id) told h = absurd (cc)
reads_make schema (op.Find class index key) told h = refl
reads_make schema (op.Seek class index from up) told h = refl
reads_make schema (op.Area class index rect inside) told h = refl
reads_make schema (op.Prefix class index text way) told h = refl
reads_make schema (op.Count class) told h = refl

-- a read is judged by its replies alone
pub read_more : (schema : Schema) (db : Database) (done : List (Op × Reply)) (i n : ℕ) (d : Op × Reply) → i < length done → d ≡ get_or done i d → Fits schema d.0 kind.ReadOnly → wrong_reply schema db [] n (drop i done) ≡ cond (same_reply (answer schema db d.0).0 d.1) (wrong_reply schema db [] (n + 1) (drop (i + 1) done)) (Some n)
read_more schema db done i n d within is fit =
    ap (wrong_reply schema db [] n) (drop_next done i d within is)
    ∙ by_made (made_by d) (reads_make schema d.0 d.1 fit)
    ∙ ap (λ next. cond (same_reply (answer schema db d.0).0 d.1) (wrong_reply schema next [] (n + 1) (drop (i + 1) done)) (Some n)) (reads_keep schema db d.0 fit)
  where
    and_true : (b : Bool) → (b && true) ≡ b
    and_true true = refl
    and_true false = refl

    by_made : (made : Option (ℕ × ℕ)) → made ≡ None → cond (same_reply (answer schema db d.0).0 d.1 && not (option_map_or (was_made []) made false)) (wrong_reply schema (answer schema db d.0).1 ([] ++ cons_option made []) (n + 1) (drop (i + 1) done)) (Some n) ≡ cond (same_reply (answer schema db d.0).0 d.1) (wrong_reply schema (answer schema db d.0).1 [] (n + 1) (drop (i + 1) done)) (Some n)
    by_made None is = ap (λ b. cond b (wrong_reply schema (answer schema db d.0).1 [] (n + 1) (drop (i + 1) done)) (Some n)) (and_true (same_reply (answer schema db d.0).0 d.1))
    by_made (Some m) is = absurd (cc)

-- a read whose reply is right is judged by what is left, one whose reply is wrong ends there
pub read_right : (schema : Schema) (db : Database) (done : List (Op × Reply)) (i n : ℕ) (d : Op × Reply) → i < length done → d ≡ get_or done i d → Fits schema d.0 kind.ReadOnly → true ≡ same_reply (answer schema db d.0).0 d.1 → wrong_reply schema db [] (n + 1) (drop (i + 1) done) ≡ wrong_reply schema db [] n (drop i done)
read_right schema db done i n d within is fit right = sym (read_more schema db done i n d within is fit ∙ ap (λ b. cond b (wrong_reply schema db [] (n + 1) (drop (i + 1) done)) (Some n)) (sym right))

pub read_wrong : (schema : Schema) (db : Database) (done : List (Op × Reply)) (i n : ℕ) (d : Op × Reply) → i < length done → d ≡ get_or done i d → Fits schema d.0 kind.ReadOnly → false ≡ same_reply (answer schema db d.0).0 d.1 → Some n ≡ wrong_reply schema db [] n (drop i done)
read_wrong schema db done i n d within is fit wrong = sym (read_more schema db done i n d within is fit ∙ ap (λ b. cond b (wrong_reply schema db [] (n + 1) (drop (i + 1) done)) (Some n)) (sym wrong))

-- an operation keeps the number of classes
written_classes : (found : Option (ℕ × ℕ)) (told : Reply) (before after : Database) → length after ≡ length before → length (written found told before after).1 ≡ length before
written_classes None told before after same = same
written_classes (Some at) told before after same = refl

pub answer_classes : (schema : Schema) (db : Database) (o : Op) → length (answer schema db o).1 ≡ length db
answer_classes schema db (op.New class row id) = written_classes (clash (indexes_of schema class) 0 row (objects_of db class)) (reply.Made id) db (with_objects db class (with_row (objects_of db class) id row)) (length-set db class (with_row (objects_of db class) id row))
answer_classes schema db (op.Get class id) = refl
answer_classes schema db (op.Put class id row) = by_row (is_none (row_of (objects_of db class) id))
  where
    by_row : (b : Bool) → length (cond {A = Reply × Database} b (reply.NotFound, db) (written (clash (indexes_of schema class) 0 row (without (objects_of db class) id)) reply.Done db (with_objects db class (with_row (objects_of db class) id row)))).1 ≡ length db
    by_row true = refl
    by_row false = written_classes (clash (indexes_of schema class) 0 row (without (objects_of db class) id)) reply.Done db (with_objects db class (with_row (objects_of db class) id row)) (length-set db class (with_row (objects_of db class) id row))
answer_classes schema db (op.Del class id) = by_row (is_none (row_of (objects_of db class) id))
  where
    by_row : (b : Bool) → length (cond {A = Reply × Database} b (reply.NotFound, db) (reply.Done, with_objects db class (without (objects_of db class) id))).1 ≡ length db
    by_row true = refl
    by_row false = length-set db class (without (objects_of db class) id)
answer_classes schema db (op.Find class index key) = refl
answer_classes schema db (op.Seek class index from up) = refl
answer_classes schema db (op.Area class index rect inside) = refl
answer_classes schema db (op.Prefix class index text way) = refl
answer_classes schema db (op.Count class) = refl

-- the operation at a place fits where all do
pub fits_at : (schema : Schema) (may : Kind) (all done : List (Op × Reply)) (i : ℕ) (d : Op × Reply) → AllFit schema may all → done ≡ all → i < length done → d ≡ get_or done i d → Fits schema d.0 may
fits_at schema may all done i d fit same within is = subst (λ (x : Op × Reply). Fits schema x.0 may) (sym is) (subst (AllFit schema may) (sym same) fit i d within)

-- a first wrong operation, or else none
pub or_nothing : (wrong : Option ℕ) → wrong ≡ option_or wrong None
or_nothing None = refl
or_nothing (Some w) = refl
