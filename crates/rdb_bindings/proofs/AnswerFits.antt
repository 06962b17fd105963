-- The plain database keeps its rows' types, and tells no place whose key doesn't fit.
use Rattle.std.proofs.Common.{◌≡◌, ℕ, zero, suc, Bool, true, false, ◌&&◌, ◌==◌, cond, not, List, [], ◌∷◌, slice_get, slice_set, nat_lt, Option, Some, None, is_none, refl, ap, ◌∙◌}
use Rattle.std.specs.Prelude.{IfSome}
use Rattle.std.specs.List.{AllByRecursion, find, filter_map, cons_option}
use Rattle.std.specs.Option.{option_map_or, option_or}
use Rattle.std.specs.Ordering.{is_lt}
use Rattle.rdb_base.specs.declared.identity.Kind.{Kind}
use Rattle.rdb_base.specs.declared.operation.Op.{Op}
use Rattle.rdb_base.specs.declared.operation.Op.TheVariants as op
use Rattle.rdb_base.specs.declared.operation.Place.{Place}
use Rattle.rdb_base.specs.declared.operation.Reply.{Reply}
use Rattle.rdb_base.specs.declared.operation.Reply.TheVariants as reply
use Rattle.rdb_base.specs.declared.value.Value.{Value}
use Rattle.rdb_schema.specs.declared.schema.Class.{Class}
use Rattle.rdb_schema.specs.declared.schema.Field.{Field}
use Rattle.rdb_schema.specs.declared.schema.Schema.{Schema}
use Rattle.rdb_schema.specs.Indexes.{fields_of, indexes_of}
use Rattle.rdb_schema.specs.Values.{holds, values_hold, row_holds}
use Rattle.rdb_model.specs.Database.{Row, Objects, Database, empty, objects_of, with_objects, row_of, with_row, without}
use Rattle.rdb_model.specs.Index.{key, pair_order, with_pair, pair_of, index}
use Rattle.rdb_model.specs.Answer.{answer, clash, find_last, is_beyond, sought, written}
use Rattle.rdb_model.specs.Fits.{Fits, fits_key, fits_row, may_write}
use Rattle.rdb_model.proofs.FitsLemmas.{first_of, second_of}
use Rattle.rdb_bindings.specs.Fitting.{place_fits, RowsHold}

-- ---- a row's key fits

-- a field and its value stand at the same places
abbrev pub BothThere : Schema → Option Field → Option Value → Type 0
BothThere schema None None = Unit {0}
BothThere schema None (Some v) = ⊥
BothThere schema (Some f) None = ⊥
BothThere schema (Some f) (Some v) = holds schema f.ty v ≡ true

both_there : (schema : Schema) (fs : List Field) (vs : List Value) (n : ℕ) → values_hold schema fs vs ≡ true → BothThere schema (slice_get fs n) (slice_get vs n)
both_there schema [] [] n e = tt
both_there schema [] (v ∷ vs) n e = absurd (cc)
both_there schema (f ∷ fs) [] n e = absurd (cc)
both_there schema (f ∷ fs) (v ∷ vs) zero e = first_of (holds schema f.ty v) (values_hold schema fs vs) e
both_there schema (f ∷ fs) (v ∷ vs) (suc n) e = both_there schema fs vs n (second_of (holds schema f.ty v) (values_hold schema fs vs) e)

picked_hold : (schema : Schema) (fs : List Field) (vs : List Value) (numbers : List ℕ) → values_hold schema fs vs ≡ true → values_hold schema (filter_map (slice_get fs) numbers) (filter_map (slice_get vs) numbers) ≡ true
picked_hold schema fs vs [] e = refl
picked_hold schema fs vs (n ∷ numbers) e =
    go (slice_get fs n) (slice_get vs n) (filter_map (slice_get fs) numbers) (filter_map (slice_get vs) numbers) (both_there schema fs vs n e) (picked_hold schema fs vs numbers e)
  where
    go : (f : Option Field) (v : Option Value) (picked : List Field) (values : List Value) → BothThere schema f v → values_hold schema picked values ≡ true → values_hold schema (cons_option f picked) (cons_option v values) ≡ true
    go None None picked values there rest = rest
    go None (Some v) picked values there rest = absurd there
    go (Some f) None picked values there rest = absurd there
    go (Some f) (Some v) picked values there rest = ap (λ b. b && values_hold schema picked values) there ∙ rest

key_fits : (schema : Schema) (class at : ℕ) (row : Row) → row_holds schema class row ≡ true → fits_key schema class at (key (fields_of schema class at) row) ≡ true
key_fits schema class at row e = go (slice_get schema.classes class) e
  where
    go : (c : Option Class) → option_map_or (λ (c : Class). values_hold schema c.fields row) c false ≡ true → values_hold schema (option_map_or (λ (c : Class). filter_map (slice_get c.fields) (fields_of schema class at)) c []) (key (fields_of schema class at) row) ≡ true
    go None e = absurd (cc)
    go (Some c) e = picked_hold schema c.fields row (fields_of schema class at) e

-- ---- so does each key of an index, and the one that is sought

all_with_pair : (P : Row × ℕ → Type 0) (p : Row × ℕ) (ps : List (Row × ℕ)) → P p → AllByRecursion P ps → AllByRecursion P (with_pair p ps)
all_with_pair P p [] here rest = (here, tt)
all_with_pair P p (q ∷ qs) here rest =
    elim (is_lt (pair_order p q)) as (λ b. AllByRecursion P (cond b (p ∷ q ∷ qs) (q ∷ with_pair p qs))) [
      | true ↦ (here, rest)
      | false ↦ (rest.0, all_with_pair P p qs here rest.1)
    ]

index_fits : (schema : Schema) (class at : ℕ) (os : Objects) → AllByRecursion (λ (o : ℕ × Row). row_holds schema class o.1 ≡ true) os → AllByRecursion (λ (p : Row × ℕ). fits_key schema class at p.0 ≡ true) (index (fields_of schema class at) os)
index_fits schema class at [] all = tt
index_fits schema class at (o ∷ os) all =
    all_with_pair (λ (p : Row × ℕ). fits_key schema class at p.0 ≡ true) (pair_of (fields_of schema class at) o) (index (fields_of schema class at) os) (key_fits schema class at o.1 all.0) (index_fits schema class at os all.1)

found_is : (P : Row × ℕ → Type 0) (test : Row × ℕ → Bool) (ps : List (Row × ℕ)) → AllByRecursion P ps → IfSome (find test ps) P
found_is P test [] all = tt
found_is P test (p ∷ ps) all = go (test p) (found_is P test ps all.1)
  where
    go : (b : Bool) → IfSome (find test ps) P → IfSome (cond b (Some p) (find test ps)) P
    go true rest = all.0
    go false rest = rest

last_is : (P : Row × ℕ → Type 0) (test : Row × ℕ → Bool) (ps : List (Row × ℕ)) → AllByRecursion P ps → IfSome (find_last test ps) P
last_is P test [] all = tt
last_is P test (p ∷ ps) all = go (find_last test ps) (test p) (last_is P test ps all.1)
  where
    go : (o : Option (Row × ℕ)) (b : Bool) → IfSome o P → IfSome (option_or o (cond b (Some p) None)) P
    go (Some q) b rest = rest
    go None true rest = all.0
    go None false rest = tt

sought_is : (P : Row × ℕ → Type 0) (from : Place) (up : Bool) (ps : List (Row × ℕ)) → AllByRecursion P ps → IfSome (sought from up ps) P
sought_is P from true ps all = found_is P (is_beyond from true) ps all
sought_is P from false ps all = last_is P (is_beyond from false) ps all

told_fits : (schema : Schema) (class at : ℕ) (from : Place) (up : Bool) (o : Option (Row × ℕ)) → IfSome o (λ p. fits_key schema class at p.0 ≡ true) → place_fits schema (op.Seek class at from up) (option_map_or (λ (pair : Row × ℕ). reply.At pair.0 pair.1) o reply.End) ≡ true
told_fits schema class at from up None fits = refl
told_fits schema class at from up (Some p) fits = fits

pub places_fit : (schema : Schema) (db : Database) (o : Op) → RowsHold schema db → place_fits schema o (answer schema db o).0 ≡ true
places_fit schema db (op.New class row id) all = refl
places_fit schema db (op.Get class id) all = refl
places_fit schema db (op.Put class id row) all = refl
places_fit schema db (op.Del class id) all = refl
places_fit schema db (op.Find class at wanted) all = refl
places_fit schema db (op.Seek class at from up) all =
    told_fits schema class at from up (sought from up (index (fields_of schema class at) (objects_of db class)))
    (sought_is (λ (p : Row × ℕ). fits_key schema class at p.0 ≡ true) from up (index (fields_of schema class at) (objects_of db class)) (index_fits schema class at (objects_of db class) (all class)))
places_fit schema db (op.Area class at rect inside) all = refl
places_fit schema db (op.Prefix class at text way) all = refl
places_fit schema db (op.Count class) all = refl

-- ---- rows stay of their types

-- a change of one class's objects
set_all : (Q : ℕ → Objects → Type 0) (db : Database) (class : ℕ) (os : Objects) → ((k : ℕ) → Q k (objects_of db k)) → Q class os → (k : ℕ) → Q k (objects_of (slice_set db class os) k)
set_all Q [] class os all here k = all k
set_all Q (o ∷ db) zero os all here zero = here
set_all Q (o ∷ db) zero os all here (suc k) = all (suc k)
set_all Q (o ∷ db) (suc class) os all here zero = all zero
set_all Q (o ∷ db) (suc class) os all here (suc k) = set_all (λ n. Q (suc n)) db class os (λ n. all (suc n)) here k

module _ (P : ℕ × Row → Type 0) where
  all_with_row : (os : Objects) (id : ℕ) (row : Row) → P (id, row) → AllByRecursion P os → AllByRecursion P (with_row os id row)
  all_with_row [] id row here all = (here, tt)
  all_with_row (o ∷ os) id row here all = go (nat_lt id o.0) (o.0 == id) (all_with_row os id row here all.1)
    where
      go : (below same : Bool) → AllByRecursion P (with_row os id row) → AllByRecursion P (cond below ((id, row) ∷ o ∷ os) (cond same ((id, row) ∷ os) (o ∷ with_row os id row)))
      go true same rest = (here, all)
      go false true rest = (here, all.1)
      go false false rest = (all.0, rest)

  all_without : (os : Objects) (id : ℕ) → AllByRecursion P os → AllByRecursion P (without os id)
  all_without [] id all = tt
  all_without (o ∷ os) id all = go (not (o.0 == id)) (all_without os id all.1)
    where
      go : (b : Bool) → AllByRecursion P (without os id) → AllByRecursion P (cond b (o ∷ without os id) (without os id))
      go true rest = (all.0, rest)
      go false rest = rest

written_all : (R : Database → Type 0) (c : Option (ℕ × ℕ)) (told : Reply) (db next : Database) → R db → R next → R (written c told db next).1
written_all R None told db next before after = after
written_all R (Some at) told db next before after = before

rows_with : (schema : Schema) (db : Database) (class id : ℕ) (row : Row) → RowsHold schema db → row_holds schema class row ≡ true → RowsHold schema (with_objects db class (with_row (objects_of db class) id row))
rows_with schema db class id row all fits =
    set_all (λ k os. AllByRecursion (λ (o : ℕ × Row). row_holds schema k o.1 ≡ true) os) db class (with_row (objects_of db class) id row) all
    (all_with_row (λ (o : ℕ × Row). row_holds schema class o.1 ≡ true) (objects_of db class) id row fits (all class))

row_fits : (schema : Schema) (class : ℕ) (row : Row) (may : Kind) → (may_write may && fits_row schema class row) ≡ true → row_holds schema class row ≡ true
row_fits schema class row may e = first_of (row_holds schema class row) _ (second_of (may_write may) (fits_row schema class row) e)

pub rows_stay : (schema : Schema) (db : Database) (o : Op) (may : Kind) → Fits schema o may → RowsHold schema db → RowsHold schema (answer schema db o).1
rows_stay schema db (op.New class row id) may fit all =
    written_all (RowsHold schema) (clash (indexes_of schema class) 0 row (objects_of db class)) (reply.Made id) db (with_objects db class (with_row (objects_of db class) id row)) all
    (rows_with schema db class id row all (row_fits schema class row may fit))
rows_stay schema db (op.Get class id) may fit all = all
rows_stay schema db (op.Put class id row) may fit all = go (is_none (row_of (objects_of db class) id))
  where
    go : (b : Bool) → RowsHold schema (cond {A = Reply × Database} b (reply.NotFound, db) (written (clash (indexes_of schema class) 0 row (without (objects_of db class) id)) reply.Done db (with_objects db class (with_row (objects_of db class) id row)))).1
    go true = all
    go false =
        written_all (RowsHold schema) (clash (indexes_of schema class) 0 row (without (objects_of db class) id)) reply.Done db (with_objects db class (with_row (objects_of db class) id row)) all
        (rows_with schema db class id row all (row_fits schema class row may fit))
rows_stay schema db (op.Del class id) may fit all = go (is_none (row_of (objects_of db class) id))
  where
    go : (b : Bool) → RowsHold schema (cond {A = Reply × Database} b (reply.NotFound, db) (reply.Done, with_objects db class (without (objects_of db class) id))).1
    go true = all
    go false =
        set_all (λ k os. AllByRecursion (λ (o : ℕ × Row). row_holds schema k o.1 ≡ true) os) db class (without (objects_of db class) id) all
        (all_without (λ (o : ℕ × Row). row_holds schema class o.1 ≡ true) (objects_of db class) id (all class))
rows_stay schema db (op.Find class at wanted) may fit all = all
rows_stay schema db (op.Seek class at from up) may fit all = all
rows_stay schema db (op.Area class at rect inside) may fit all = all
rows_stay schema db (op.Prefix class at text way) may fit all = all
rows_stay schema db (op.Count class) may fit all = all

pub empty_holds : (schema : Schema) (classes : ℕ) → RowsHold schema (empty classes)
empty_holds schema classes = λ class. go classes class class
  where
    go : (count k class : ℕ) → AllByRecursion (λ (o : ℕ × Row). row_holds schema class o.1 ≡ true) (objects_of (empty count) k)
    go zero k class = tt
    go (suc count) zero class = tt
    go (suc count) (suc k) class = go count k class
