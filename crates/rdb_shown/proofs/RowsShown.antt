-- The rows that objects show, one by one and as databases.
use Rattle.std.proofs.Common.{◌≡◌, ℕ, zero, suc, ◌<◌, Bool, true, false, cond, List, [], ◌∷◌, length, Option, Some, None, nat_eq, nat_lt, refl, sym, ap, subst, ◌∙◌, arith}
use Rattle.std.specs.List.{AllByRecursion, cons_option}
use Rattle.std.specs.Option.{option_map}
use Rattle.std.proofs.lemmas.Bool.Decides.{nat_tests}
use Rattle.std.proofs.lemmas.List.{ext_get_or, length-map}
use Rattle.rdb_base.specs.declared.identity.TxId.{TxId}
use Rattle.rdb_sight.specs.Versions.{Object, Versions, Marks, chain_of, objects_in, chain_in, row_shown, rows_shown, shown}
use Rattle.rdb_model.specs.Database.{Row, Objects, Database, row_of, objects_of, IsInOrder}
use Rattle.rdb_model.proofs.Rising.{IsRising}
use Rattle.rdb_model.proofs.OrderedLemmas.{rising_from, ascending_from}
use Rattle.rdb_shown.proofs.ChainMaps.{Rises}

-- an object before all of a list is none of it
row_below : (os : Objects) (id : ℕ) → AllByRecursion (λ q. id < q.0) os → row_of os id ≡ None
row_below [] id all = refl
row_below (o ∷ os) id all =
    let above : id < o.0 = all.0 in
    let differs : nat_eq o.0 id ≡ false = grind (arith, nat_tests) in
    rw differs (row_below os id all.1)

all_shown : (marks : Marks) (snapshot : ℕ) (own : Option TxId) (os : List Object) (id : ℕ) → AllByRecursion (λ p. id < p.id) os → AllByRecursion (λ q. id < q.0) (rows_shown marks snapshot own os)
all_shown marks snapshot own [] id all = tt
all_shown marks snapshot own (o ∷ os) id all = go (row_shown marks snapshot own o.chain) (all_shown marks snapshot own os id all.1)
  where
    go : (r : Option Row) → AllByRecursion (λ q. id < q.0) (rows_shown marks snapshot own os) → AllByRecursion (λ q. id < q.0) (cons_option (option_map (λ row. (o.id, row)) r) (rows_shown marks snapshot own os))
    go None rest = rest
    go (Some r) rest = (all.0, rest)

-- what is shown of objects in order is in order
pub rows_rise : (marks : Marks) (snapshot : ℕ) (own : Option TxId) (os : List Object) → Rises os → IsRising (rows_shown marks snapshot own os)
rows_rise marks snapshot own [] rises = tt
rows_rise marks snapshot own (o ∷ os) rises = go (row_shown marks snapshot own o.chain) (rows_rise marks snapshot own os rises.1)
  where
    go : (r : Option Row) → IsRising (rows_shown marks snapshot own os) → IsRising (cons_option (option_map (λ row. (o.id, row)) r) (rows_shown marks snapshot own os))
    go None rest = rest
    go (Some r) rest = (all_shown marks snapshot own os o.id rises.0, rest)

-- the row of an id is what its chain shows
pub row_of_shown : (marks : Marks) (snapshot : ℕ) (own : Option TxId) (os : List Object) (id : ℕ) → Rises os → row_of (rows_shown marks snapshot own os) id ≡ row_shown marks snapshot own (chain_of os id)
row_of_shown marks snapshot own [] id rises = refl
row_of_shown marks snapshot own (o ∷ os) id rises = go (nat_eq o.id id) refl (row_shown marks snapshot own o.chain) refl (row_of_shown marks snapshot own os id rises.1)
  where
    go : (b : Bool) → nat_eq o.id id ≡ b → (r : Option Row) → row_shown marks snapshot own o.chain ≡ r → row_of (rows_shown marks snapshot own os) id ≡ row_shown marks snapshot own (chain_of os id)
        → row_of (cons_option (option_map (λ row. (o.id, row)) r) (rows_shown marks snapshot own os)) id ≡ row_shown marks snapshot own (cond b o.chain (chain_of os id))
    go true e None f rest =
        let same : o.id ≡ id = grind (arith, nat_tests) in
        row_below (rows_shown marks snapshot own os) id (subst (λ (i : ℕ). AllByRecursion (λ q. i < q.0) (rows_shown marks snapshot own os)) same (all_shown marks snapshot own os o.id rises.0)) ∙ sym f
    go true e (Some r) f rest = rw e (sym f)
    go false e None f rest = rest
    go false e (Some r) f rest = rw e rest

-- objects in order are one where each id has one row
object_is : (o q : ℕ × Row) → o.0 ≡ q.0 → Some o.1 ≡ Some q.1 → o ≡ q
object_is o q same row = let r : o.1 ≡ q.1 = (cc) in ap (λ i. (i, o.1)) same ∙ ap (λ x. (q.0, x)) r

pub same_objects : (os qs : Objects) → IsRising os → IsRising qs → ((id : ℕ) → row_of os id ≡ row_of qs id) → os ≡ qs
same_objects [] [] rises others same = refl
same_objects [] (q ∷ qs) rises others same = let here : nat_eq q.0 q.0 ≡ true = grind (arith, nat_tests) in let h : None ≡ cond (nat_eq q.0 q.0) (Some q.1) (row_of qs q.0) = same q.0 in let g : None ≡ Some q.1 = h ∙ ap (λ b. cond b (Some q.1) (row_of qs q.0)) here in (cc)
same_objects (o ∷ os) [] rises others same = let here : nat_eq o.0 o.0 ≡ true = grind (arith, nat_tests) in let h : cond (nat_eq o.0 o.0) (Some o.1) (row_of os o.0) ≡ None = same o.0 in let g : Some o.1 ≡ None = sym (ap (λ b. cond b (Some o.1) (row_of os o.0)) here) ∙ h in (cc)
same_objects (o ∷ os) (q ∷ qs) rises others same =
    ap (λ x. x ∷ os) first ∙ ap (λ l. q ∷ l) (same_objects os qs rises.1 others.1 rest)
  where
    itself : (n : ℕ) → nat_eq n n ≡ true
    itself n = grind (arith, nat_tests)

    at_o : Some o.1 ≡ cond (nat_eq q.0 o.0) (Some q.1) (row_of qs o.0)
    at_o = sym (ap (λ b. cond b (Some o.1) (row_of os o.0)) (itself o.0)) ∙ same o.0

    at_q : cond (nat_eq o.0 q.0) (Some o.1) (row_of os q.0) ≡ Some q.1
    at_q = same q.0 ∙ ap (λ b. cond b (Some q.1) (row_of qs q.0)) (itself q.0)

    up : (low high : ℕ) (l : Objects) → low < high → AllByRecursion (λ p. high < p.0) l → AllByRecursion (λ p. low < p.0) l
    up low high [] lt all = tt
    up low high (p ∷ ps) lt all = (let h = all.0 in omega arith, up low high ps lt all.1)

    ids : o.0 ≡ q.0
    ids = go (nat_eq o.0 q.0) refl (nat_lt o.0 q.0) refl
      where
        go : (b : Bool) → nat_eq o.0 q.0 ≡ b → (c : Bool) → nat_lt o.0 q.0 ≡ c → o.0 ≡ q.0
        go true e c f = grind (arith, nat_tests)
        go false e true f =
            let below : o.0 < q.0 = grind (arith, nat_tests) in
            let apart : nat_eq q.0 o.0 ≡ false = grind (arith, nat_tests) in
            let none : Some o.1 ≡ None = at_o ∙ ap (λ b. cond b (Some q.1) (row_of qs o.0)) apart ∙ row_below qs o.0 (up o.0 q.0 qs below others.0) in
            (cc)
        go false e false f =
            let below : q.0 < o.0 = grind (arith, nat_tests) in
            let none : None ≡ Some q.1 = sym (ap (λ b. cond b (Some o.1) (row_of os q.0)) e ∙ row_below os q.0 (up q.0 o.0 os below rises.0)) ∙ at_q in
            (cc)

    first : o ≡ q
    first = object_is o q ids (at_o ∙ ap (λ b. cond b (Some q.1) (row_of qs o.0)) (let e : nat_eq q.0 o.0 ≡ true = grind (arith, nat_tests, ids) in e))

    rest : (id : ℕ) → row_of os id ≡ row_of qs id
    rest id = go (nat_eq o.0 id) refl
      where
        go : (b : Bool) → nat_eq o.0 id ≡ b → row_of os id ≡ row_of qs id
        go false e =
            let apart : nat_eq q.0 id ≡ false = grind (arith, nat_tests, ids) in
            sym (ap (λ b. cond b (Some o.1) (row_of os id)) e) ∙ same id ∙ ap (λ b. cond b (Some q.1) (row_of qs id)) apart
        go true e =
            let one : o.0 ≡ id = grind (arith, nat_tests) in
            let other : q.0 ≡ id = sym ids ∙ one in
            row_below os id (subst (λ (i : ℕ). AllByRecursion (λ p. i < p.0) os) one rises.0)
            ∙ sym (row_below qs id (subst (λ (i : ℕ). AllByRecursion (λ p. i < p.0) qs) other others.0))

-- what is shown of a class
pub objects_shown : (marks : Marks) (snapshot : ℕ) (own : Option TxId) (versions : Versions) (class : ℕ) → objects_of (shown marks snapshot own versions) class ≡ rows_shown marks snapshot own (objects_in versions class)
objects_shown marks snapshot own [] class = refl
objects_shown marks snapshot own (os ∷ oss) zero = refl
objects_shown marks snapshot own (os ∷ oss) (suc class) = objects_shown marks snapshot own oss class

-- the row of an object in what is shown
pub shown_row : (marks : Marks) (snapshot : ℕ) (own : Option TxId) (versions : Versions) (class id : ℕ) → ((c : ℕ) → Rises (objects_in versions c))
    → row_of (objects_of (shown marks snapshot own versions) class) id ≡ row_shown marks snapshot own (chain_in versions class id)
shown_row marks snapshot own versions class id rises =
    ap (λ l. row_of l id) (objects_shown marks snapshot own versions class) ∙ row_of_shown marks snapshot own (objects_in versions class) id (rises class)

pub shown_in_order : (marks : Marks) (snapshot : ℕ) (own : Option TxId) (versions : Versions) → ((c : ℕ) → Rises (objects_in versions c)) → IsInOrder (shown marks snapshot own versions)
shown_in_order marks snapshot own versions rises class =
    ascending_from (objects_of (shown marks snapshot own versions) class)
    (subst IsRising (sym (objects_shown marks snapshot own versions class)) (rows_rise marks snapshot own (objects_in versions class) (rises class)))

-- versions show a database where each object's chain shows its row there
pub shows : (marks : Marks) (snapshot : ℕ) (own : Option TxId) (versions : Versions) (db : Database) → ((c : ℕ) → Rises (objects_in versions c)) → IsInOrder db → length versions ≡ length db
    → ((class id : ℕ) → class < length db → row_shown marks snapshot own (chain_in versions class id) ≡ row_of (objects_of db class) id)
    → shown marks snapshot own versions ≡ db
shows marks snapshot own versions db rises ordered many rows =
    ext_get_or [] (shown marks snapshot own versions) db (length-map versions (rows_shown marks snapshot own) ∙ many) class_is
  where
    class_is : (class : ℕ) → class < length (shown marks snapshot own versions) → objects_of (shown marks snapshot own versions) class ≡ objects_of db class
    class_is class lt = same_objects (objects_of (shown marks snapshot own versions) class) (objects_of db class)
        (rising_from (objects_of (shown marks snapshot own versions) class) (shown_in_order marks snapshot own versions rises class))
        (rising_from (objects_of db class) (ordered class))
        (λ id. shown_row marks snapshot own versions class id rises ∙ rows class id (let m = length-map versions (rows_shown marks snapshot own) in omega (arith, many)))
