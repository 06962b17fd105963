-- A database without one object, and what an operation does to it.
use Rattle.std.proofs.Common.{◌≡◌, ℕ, ◌<◌, ◌≤◌, ◌≢◌, Bool, true, false, ◌&&◌, ◌⊎◌, inl, inr, [], length, Option, Some, None, MatchOption, nat_eq, refl, sym, ap, subst, ◌∙◌, arith, set-set, get_or-set_same, get_or-set_other}
use Rattle.std.specs.Option.{option_map, option_map_or}
use Rattle.std.proofs.lemmas.Bool.{cases_lt}
use Rattle.std.proofs.lemmas.Bool.Decides.{nat_tests}
use Rattle.std.proofs.lemmas.List.{set_past, get_or_past, set_comm}
use Rattle.rdb_base.specs.declared.operation.Op.{Op}
use Rattle.rdb_base.specs.declared.operation.Op.TheVariants as op
use Rattle.rdb_base.specs.declared.operation.Reply.{Reply}
use Rattle.rdb_base.specs.declared.operation.Reply.TheVariants as reply
use Rattle.rdb_schema.specs.declared.schema.Schema.{Schema}
use Rattle.rdb_model.specs.Database.{Row, Objects, Database, row_of, with_row, without, objects_of, with_objects}
use Rattle.rdb_schema.specs.Indexes.{indexes_of}
use Rattle.rdb_model.specs.Answer.{clash, answer}
use Rattle.rdb_model.specs.Journal.{made_by}
use Rattle.rdb_base.specs.Operations.{class_of}
use Rattle.rdb_model.specs.Touch.{rests, rests_on}
use Rattle.rdb_model.proofs.Rising.{IsRising, without_without, rising_with_row, rising_without}
use Rattle.rdb_model.proofs.ClassAnswers.{local_write, local_put, local_del, local, changed, globally, answer_local}
use Rattle.rdb_model.proofs.Spared.{MakesOther, IsTold, IsSpared, spared}

-- the database without an object
abbrev pub erased : Database → ℕ × ℕ → Database
erased db w = with_objects db w.0 (without (objects_of db w.0) w.1)

-- the objects of each class are in ascending id
abbrev pub AllRising : Database → Type 0
AllRising db = (class : ℕ) → IsRising (objects_of db class)

-- the objects of another class, and of a class that is there
pub objects_other : (db : Database) (class other : ℕ) (os : Objects) → nat_eq class other ≡ false → objects_of (with_objects db class os) other ≡ objects_of db other
objects_other db class other os differs = let ne : other ≢ class = grind (arith, nat_tests) in get_or-set_other db class other os [] ne

objects_same : (db : Database) (class : ℕ) (os : Objects) → class < length db → objects_of (with_objects db class os) class ≡ os
objects_same db class os lt = get_or-set_same db class os [] lt

-- without an object, its class has the others
pub objects_erased : (db : Database) (class x : ℕ) → objects_of (erased db (class, x)) class ≡ without (objects_of db class) x
objects_erased db class x = go (cases_lt class (length db))
  where
    go : (class < length db) ⊎ (length db ≤ class) → objects_of (erased db (class, x)) class ≡ without (objects_of db class) x
    go (inl lt) = objects_same db class (without (objects_of db class) x) lt
    go (inr past) =
        let none : objects_of db class ≡ [] = get_or_past db class [] past in
        let stays : with_objects db class (without (objects_of db class) x) ≡ db = set_past db class (without (objects_of db class) x) past in
        ap (λ d. objects_of d class) stays ∙ none ∙ sym (ap (λ l. without l x) none)

-- a database whose objects are in order in one class more
pub rising_with : (db : Database) (class : ℕ) (os : Objects) → AllRising db → IsRising os → AllRising (with_objects db class os)
rising_with db class os all here other = go (nat_eq class other) refl (cases_lt class (length db))
  where
    go : (b : Bool) → nat_eq class other ≡ b → (class < length db) ⊎ (length db ≤ class) → IsRising (objects_of (with_objects db class os) other)
    go false e c = subst IsRising (sym (objects_other db class other os e)) (all other)
    go true e (inl lt) =
        let same : class ≡ other = grind (arith, nat_tests) in
        subst (λ k. IsRising (objects_of (with_objects db class os) k)) same (subst IsRising (sym (objects_same db class os lt)) here)
    go true e (inr past) = subst (λ d. IsRising (objects_of d other)) (sym (set_past db class os past)) (all other)

pub rising_erased : (db : Database) (w : ℕ × ℕ) → AllRising db → AllRising (erased db w)
rising_erased db w all = rising_with db w.0 (without (objects_of db w.0) w.1) all (rising_without (objects_of db w.0) w.1 (all w.0))

-- the objects after an operation are in order
local_rising : (schema : Schema) (o : Op) (os : Objects) → IsRising os → MatchOption (local schema o os).1 (Unit {0}) IsRising
local_rising schema (op.New class row id) os rising = go (clash (indexes_of schema class) 0 row os)
  where
    go : (c : Option (ℕ × ℕ)) → MatchOption (local_write c (reply.Made id) (with_row os id row)).1 (Unit {0}) IsRising
    go None = rising_with_row os id row rising
    go (Some at) = tt
local_rising schema (op.Put class id row) os rising = go (row_of os id) (clash (indexes_of schema class) 0 row (without os id))
  where
    go : (r : Option Row) (c : Option (ℕ × ℕ)) → MatchOption (local_put r c (with_row os id row)).1 (Unit {0}) IsRising
    go None c = tt
    go (Some r) None = rising_with_row os id row rising
    go (Some r) (Some at) = tt
local_rising schema (op.Del class id) os rising = go (row_of os id)
  where
    go : (r : Option Row) → MatchOption (local_del r (without os id)).1 (Unit {0}) IsRising
    go None = tt
    go (Some r) = rising_without os id rising
local_rising schema (op.Get class id) os rising = tt
local_rising schema (op.Find class at wanted) os rising = tt
local_rising schema (op.Seek class at from up) os rising = tt
local_rising schema (op.Area class at rect inside) os rising = tt
local_rising schema (op.Prefix class at text way) os rising = tt
local_rising schema (op.Count class) os rising = tt

pub rising_answer : (schema : Schema) (db : Database) (o : Op) → AllRising db → AllRising (answer schema db o).1
rising_answer schema db o all = subst (λ t. AllRising t.1) (sym (answer_local schema db o)) (go (local schema o (objects_of db (class_of o))).1 (local_rising schema o (objects_of db (class_of o)) (all (class_of o))))
  where
    go : (ch : Option Objects) → MatchOption ch (Unit {0}) IsRising → AllRising (changed db (class_of o) ch)
    go None rising = all
    go (Some os) rising = rising_with db (class_of o) os all rising

-- a change of a class, and the loss of one of its objects or of another's, go in either order
pub erased_with_same : (db : Database) (class x : ℕ) (os : Objects) → erased (with_objects db class os) (class, x) ≡ with_objects (erased db (class, x)) class (without os x)
erased_with_same db class x os = go (cases_lt class (length db))
  where
    twice : with_objects (erased db (class, x)) class (without os x) ≡ with_objects db class (without os x)
    twice = set-set db class (without (objects_of db class) x) (without os x)

    go : (class < length db) ⊎ (length db ≤ class) → erased (with_objects db class os) (class, x) ≡ with_objects (erased db (class, x)) class (without os x)
    go (inl lt) =
        set-set db class os (without (objects_of (with_objects db class os) class) x)
        ∙ ap (λ l. with_objects db class (without l x)) (objects_same db class os lt)
        ∙ sym twice
    go (inr past) =
        set-set db class os (without (objects_of (with_objects db class os) class) x)
        ∙ set_past db class (without (objects_of (with_objects db class os) class) x) past
        ∙ sym (set_past db class (without os x) past)
        ∙ sym twice

pub erased_with_other : (db : Database) (class : ℕ) (w : ℕ × ℕ) (os : Objects) → nat_eq class w.0 ≡ false → erased (with_objects db class os) w ≡ with_objects (erased db w) class os
erased_with_other db class w os differs =
    let ne : class ≢ w.0 = grind (arith, nat_tests) in
    ap (λ l. with_objects (with_objects db class os) w.0 (without l w.1)) (objects_other db class w.0 os differs)
    ∙ set_comm db class w.0 os (without (objects_of db w.0) w.1) ne

-- two objects go in either order
pub erased_comm : (db : Database) (v w : ℕ × ℕ) → erased (erased db v) w ≡ erased (erased db w) v
erased_comm db v w = go (nat_eq v.0 w.0) refl
  where
    alike : (class a b : ℕ) → erased (erased db (class, a)) (class, b) ≡ erased (erased db (class, b)) (class, a)
    alike class a b =
        erased_with_same db class b (without (objects_of db class) a)
        ∙ ap (with_objects (erased db (class, b)) class) (without_without (objects_of db class) a b)
        ∙ sym (ap (λ l. with_objects (erased db (class, b)) class (without l a)) (objects_erased db class b))

    go : (b : Bool) → nat_eq v.0 w.0 ≡ b → erased (erased db v) w ≡ erased (erased db w) v
    go true e =
        let same : v.0 ≡ w.0 = grind (arith, nat_tests) in
        subst (λ c. erased (erased db v) (c, w.1) ≡ erased (erased db (c, w.1)) v) same (alike v.0 v.1 w.1)
    go false e =
        let back : nat_eq w.0 v.0 ≡ false = grind (arith, nat_tests) in
        erased_with_other db v.0 w (without (objects_of db v.0) v.1) e
        ∙ sym (ap (λ l. with_objects (erased db w) v.0 (without l v.1)) (objects_other db w.0 v.0 (without (objects_of db w.0) w.1) back))

-- whether an operation made that object
abbrev pub makes : Op × Reply → ℕ × ℕ → Bool
makes d w = option_map_or (λ made. nat_eq w.0 made.0 && nat_eq w.1 made.1) (made_by d) false

-- an operation on a database without an object is told the same, and leaves what it leaves with it, without it
pub record IsSteady (schema : Schema) (db : Database) (o : Op) (w : ℕ × ℕ) : Type 0 where
  pub same_told : (answer schema (erased db w) o).0 ≡ (answer schema db o).0
  pub same_next : (answer schema (erased db w) o).1 ≡ erased (answer schema db o).1 w
  pub same_row : row_of (objects_of (answer schema db o).1 w.0) w.1 ≡ row_of (objects_of db w.0) w.1

-- what was told is the reply with the object or the one without it
abbrev pub WasTold : Schema → Database → Op → ℕ × ℕ → Reply → Type 0
WasTold schema db o w told = (told ≡ (answer schema db o).0) ⊎ (told ≡ (answer schema (erased db w) o).0)

-- in the object's class
steady_same : (schema : Schema) (db : Database) (o : Op) (told : Reply) (x : ℕ) → AllRising db → option_map_or (rests schema o told x) (row_of (objects_of db (class_of o)) x) false ≡ false → MakesOther o told x → WasTold schema db o (class_of o, x) told → IsSteady schema db o (class_of o, x)
steady_same schema db o told x all fails other is = record {
  same_told = ap (λ t. t.0) without_it ∙ alike.same_told ∙ sym (ap (λ t. t.0) with_it);
  same_next = ap (λ t. t.1) without_it ∙ ap (changed (erased db (class_of o, x)) (class_of o)) alike.same_change ∙ moved (local schema o (objects_of db (class_of o))).1 ∙ sym (ap (λ t. erased t.1 (class_of o, x)) with_it);
  same_row = ap (λ t. row_of (objects_of t.1 (class_of o)) x) with_it ∙ kept (cases_lt (class_of o) (length db)) (local schema o (objects_of db (class_of o))).1 alike.same_row;
}
  where
    with_it : answer schema db o ≡ globally db (class_of o) (local schema o (objects_of db (class_of o)))
    with_it = answer_local schema db o

    without_it : answer schema (erased db (class_of o, x)) o ≡ globally (erased db (class_of o, x)) (class_of o) (local schema o (without (objects_of db (class_of o)) x))
    without_it = answer_local schema (erased db (class_of o, x)) o ∙ ap (λ l. globally (erased db (class_of o, x)) (class_of o) (local schema o l)) (objects_erased db (class_of o) x)

    told_local : WasTold schema db o (class_of o, x) told → IsTold schema o (objects_of db (class_of o)) x told
    told_local (inl e) = inl (e ∙ ap (λ t. t.0) with_it)
    told_local (inr e) = inr (e ∙ ap (λ t. t.0) without_it)

    alike : IsSpared schema o (objects_of db (class_of o)) x
    alike = spared schema (objects_of db (class_of o)) x (all (class_of o)) o told fails other (told_local is)

    moved : (ch : Option Objects) → changed (erased db (class_of o, x)) (class_of o) (option_map (λ l. without l x) ch) ≡ erased (changed db (class_of o) ch) (class_of o, x)
    moved None = refl
    moved (Some l) = sym (erased_with_same db (class_of o) x l)

    kept : (class_of o < length db) ⊎ (length db ≤ class_of o) → (ch : Option Objects) → option_map_or (λ l. row_of l x) ch (row_of (objects_of db (class_of o)) x) ≡ row_of (objects_of db (class_of o)) x → row_of (objects_of (changed db (class_of o) ch) (class_of o)) x ≡ row_of (objects_of db (class_of o)) x
    kept c None e = refl
    kept (inl lt) (Some l) e = ap (λ m. row_of m x) (objects_same db (class_of o) l lt) ∙ e
    kept (inr past) (Some l) e = ap (λ d. row_of (objects_of d (class_of o)) x) (set_past db (class_of o) l past)

-- in another class
steady_other : (schema : Schema) (db : Database) (o : Op) (w : ℕ × ℕ) → nat_eq w.0 (class_of o) ≡ false → IsSteady schema db o w
steady_other schema db o w differs = record {
  same_told = ap (λ t. t.0) without_it ∙ sym (ap (λ t. t.0) with_it);
  same_next = ap (λ t. t.1) without_it ∙ moved (local schema o (objects_of db (class_of o))).1 ∙ sym (ap (λ t. erased t.1 w) with_it);
  same_row = ap (λ t. row_of (objects_of t.1 w.0) w.1) with_it ∙ kept (local schema o (objects_of db (class_of o))).1;
}
  where
    back : nat_eq (class_of o) w.0 ≡ false
    back = turn (class_of o) w.0 differs
      where
        turn : (a b : ℕ) → nat_eq b a ≡ false → nat_eq a b ≡ false
        turn a b e = grind (arith, nat_tests)

    with_it : answer schema db o ≡ globally db (class_of o) (local schema o (objects_of db (class_of o)))
    with_it = answer_local schema db o

    without_it : answer schema (erased db w) o ≡ globally (erased db w) (class_of o) (local schema o (objects_of db (class_of o)))
    without_it = answer_local schema (erased db w) o ∙ ap (λ l. globally (erased db w) (class_of o) (local schema o l)) (objects_other db w.0 (class_of o) (without (objects_of db w.0) w.1) differs)

    moved : (ch : Option Objects) → changed (erased db w) (class_of o) ch ≡ erased (changed db (class_of o) ch) w
    moved None = refl
    moved (Some l) = sym (erased_with_other db (class_of o) w l back)

    kept : (ch : Option Objects) → row_of (objects_of (changed db (class_of o) ch) w.0) w.1 ≡ row_of (objects_of db w.0) w.1
    kept None = refl
    kept (Some l) = ap (λ m. row_of m w.1) (objects_other db (class_of o) w.0 l back)

-- an object that isn't made is of another id than the one that is
makes_other : (o : Op) (told : Reply) (w : ℕ × ℕ) → nat_eq w.0 (class_of o) ≡ true → makes (o, told) w ≡ false → MakesOther o told w.1
makes_other (op.New class row id) (reply.Made made) w same e = go (nat_eq w.0 class) (nat_eq w.1 made) same e refl
  where
    go : (a b : Bool) → a ≡ true → (a && b) ≡ false → nat_eq w.1 made ≡ b → nat_eq made w.1 ≡ false
    go true true s e f = (cc)
    go true false s e f = grind (arith, nat_tests)
    go false b s e f = (cc)
makes_other _ _ w same e = refl

-- an operation whose reply doesn't rest on an object, and that doesn't make it, is steady without it
pub steady : (schema : Schema) (db : Database) (o : Op) (told : Reply) (w : ℕ × ℕ) → AllRising db → rests_on schema db (o, told) w ≡ false → makes (o, told) w ≡ false → WasTold schema db o w told → IsSteady schema db o w
steady schema db o told w all fails unmade is = go (nat_eq w.0 (class_of o)) refl fails
  where
    go : (b : Bool) → nat_eq w.0 (class_of o) ≡ b → (b && option_map_or (rests schema o told w.1) (row_of (objects_of db w.0) w.1) false) ≡ false → IsSteady schema db o w
    go false e fails = steady_other schema db o w e
    go true e fails =
        let same : w.0 ≡ class_of o = equal_from w.0 (class_of o) e in
        subst (λ c. IsSteady schema db o (c, w.1)) (sym same)
        (steady_same schema db o told w.1 all
        (ap (λ c. option_map_or (rests schema o told w.1) (row_of (objects_of db c) w.1) false) (sym same) ∙ fails)
        (makes_other o told w e unmade)
        (subst (λ c. WasTold schema db o (c, w.1) told) same is))
      where
        equal_from : (a b : ℕ) → nat_eq a b ≡ true → a ≡ b
        equal_from a b e = grind (arith, nat_tests)
