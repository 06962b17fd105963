-- Databases by their rows.
use Rattle.std.proofs.Common.{◌≡◌, ℕ, suc, ◌<◌, ◌≤◌, Bool, true, false, cond, ◌==◌, [], ◌∷◌, length, Some, None, refl, sym, ap, ◌∙◌, arith, inl, inr, ◌⊎◌}
use Rattle.std.specs.List.{AllByRecursion}
use Rattle.std.proofs.lemmas.Bool.Decides.{nat_tests}
use Rattle.std.proofs.lemmas.Bool.{cases_lt}
use Rattle.rdb_base.specs.declared.operation.Op.{Op}
use Rattle.rdb_schema.specs.declared.schema.Schema.{Schema}
use Rattle.rdb_model.specs.Database.{Row, Objects, Database, row_of, objects_of, IsInOrder}
use Rattle.rdb_model.specs.Answer.{answer}
use Rattle.rdb_model.proofs.OrderedLemmas.{rising_from}
use Rattle.rdb_model.proofs.ReplyLemmas.{reply_itself}
use Rattle.rdb_model.proofs.Rising.{IsRising, all_more}
use Rattle.rdb_history.specs.Rows.{row_left, wrote}
use Rattle.rdb_history.proofs.FoldLemmas.{left_by}

pub one_row : (schema : Schema) (db : Database) (o : Op) (class id : ℕ) → class < length db
    → row_of (objects_of (answer schema db o).1 class) id ≡ cond (wrote (o, (answer schema db o).0) (class, id)) (row_left o) (row_of (objects_of db class) id)
one_row schema db o class id within = left_by schema db (o, (answer schema db o).0) class id within (reply_itself (answer schema db o).0)

-- an id below all objects has none
below_all : (os : Objects) (id : ℕ) → AllByRecursion (λ q. id < q.0) os → row_of os id ≡ None
below_all [] id all = refl
below_all (o ∷ os) id all = go (o.0 == id) refl (below_all os id all.1)
  where
    go : (b : Bool) → (o.0 == id) ≡ b → row_of os id ≡ None → cond b (Some o.1) (row_of os id) ≡ None
    go true e rest = let f = all.0 in let same : o.0 ≡ id = grind (arith, nat_tests) in absurd (omega arith)
    go false e rest = rest

first_row : (o : ℕ × Row) (os : Objects) → row_of (o ∷ os) o.0 ≡ Some o.1
first_row o os = let same : (o.0 == o.0) ≡ true = grind (arith, nat_tests) in ap (λ b. cond b (Some o.1) (row_of os o.0)) same

other_row : (o : ℕ × Row) (os : Objects) (id : ℕ) → o.0 < id → row_of (o ∷ os) id ≡ row_of os id
other_row o os id above = let other : (o.0 == id) ≡ false = grind (arith, nat_tests) in ap (λ b. cond b (Some o.1) (row_of os id)) other

-- objects in order with the same rows are one
same_objects : (os ps : Objects) → IsRising os → IsRising ps → ((id : ℕ) → row_of os id ≡ row_of ps id) → os ≡ ps
same_objects [] [] rising other same = refl
same_objects [] (p ∷ ps) rising other same = let e = same p.0 in let f = first_row p ps in (cc)
same_objects (o ∷ os) [] rising other same = let e = same o.0 in let f = first_row o os in (cc)
same_objects (o ∷ os) (p ∷ ps) rising other same = by_id (cases_lt o.0 p.0) (cases_lt p.0 o.0) (same_objects os ps rising.1 other.1)
  where
    above : (a b : ℕ) (qs : Objects) → a < b → AllByRecursion (λ q. b < q.0) qs → AllByRecursion (λ q. a < q.0) qs
    above a b qs less all = all_more (λ q. b < q.0) (λ q. a < q.0) qs (λ q f. omega arith) all

    one_pair : (a b : ℕ × Row) → a.0 ≡ b.0 → a.1 ≡ b.1 → a ≡ b
    one_pair a b e f i = (e i, f i)

    some_is : (a b : Row) → Some a ≡ Some b → a ≡ b
    some_is a b e = (cc)

    by_id : (o.0 < p.0) ⊎ (p.0 ≤ o.0) → (p.0 < o.0) ⊎ (o.0 ≤ p.0) → (((id : ℕ) → row_of os id ≡ row_of ps id) → os ≡ ps) → (o ∷ os) ≡ (p ∷ ps)
    by_id (inl less) g further =
        let none : row_of (p ∷ ps) o.0 ≡ None = below_all (p ∷ ps) o.0 (less, above o.0 p.0 ps less other.0) in
        let there = first_row o os in let e = same o.0 in (cc)
    by_id (inr f) (inl less) further =
        let none : row_of (o ∷ os) p.0 ≡ None = below_all (o ∷ os) p.0 (less, above p.0 o.0 os less rising.0) in
        let there = first_row p ps in let e = same p.0 in (cc)
    by_id (inr f) (inr g) further =
        let id : o.0 ≡ p.0 = omega arith in
        let row : o.1 ≡ p.1 = some_is o.1 p.1 (sym (first_row o os) ∙ same o.0 ∙ ap (row_of (p ∷ ps)) id ∙ first_row p ps) in
        let rest : os ≡ ps = further (λ k. tail k id (cases_lt o.0 k)) in
        λ i. one_pair o p id row i ∷ rest i
      where
        tail : (k : ℕ) → o.0 ≡ p.0 → (o.0 < k) ⊎ (k ≤ o.0) → row_of os k ≡ row_of ps k
        tail k id (inl less) = sym (other_row o os k less) ∙ same k ∙ other_row p ps k (omega arith)
        tail k id (inr le) = below_all os k (under k o.0 os le rising.0) ∙ sym (below_all ps k (under k p.0 ps (omega arith) other.0))
          where
            under : (a b : ℕ) (qs : Objects) → a ≤ b → AllByRecursion (λ q. b < q.0) qs → AllByRecursion (λ q. a < q.0) qs
            under a b qs le all = all_more (λ q. b < q.0) (λ q. a < q.0) qs (λ q f. omega arith) all

-- lists of as many classes with the same objects of each are one
same_lists : (a b : Database) → length a ≡ length b → ((class : ℕ) → objects_of a class ≡ objects_of b class) → a ≡ b
same_lists [] [] many same = refl
same_lists [] (y ∷ ys) many same = absurd (omega (arith, many))
same_lists (x ∷ xs) [] many same = absurd (omega (arith, many))
same_lists (x ∷ xs) (y ∷ ys) many same =
    let first : x ≡ y = same 0 in
    let rest : xs ≡ ys = same_lists xs ys (omega (arith, many)) (λ class. same (suc class)) in
    λ i. first i ∷ rest i

pub one_database : (a b : Database) → IsInOrder a → IsInOrder b → length a ≡ length b → ((class id : ℕ) → row_of (objects_of a class) id ≡ row_of (objects_of b class) id) → a ≡ b
one_database a b ordered other many same =
    same_lists a b many (λ class. same_objects (objects_of a class) (objects_of b class) (rising_from (objects_of a class) (ordered class)) (rising_from (objects_of b class) (other class)) (same class))
