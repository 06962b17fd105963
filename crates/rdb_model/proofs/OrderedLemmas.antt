-- Objects in ascending id, by places and by recursion; and databases in order.
use Rattle.std.proofs.Common.{◌≡◌, ℕ, zero, suc, ◌<◌, List, [], ◌∷◌, length, slice_set, subst, sym, ap, ◌∙◌, arith}
use Rattle.std.specs.List.{AllByRecursion}
use Rattle.rdb_base.specs.declared.operation.Op.{Op}
use Rattle.rdb_base.specs.declared.journal.Entry.{Entry}
use Rattle.rdb_schema.specs.declared.schema.Schema.{Schema}
use Rattle.rdb_model.specs.Database.{Row, Objects, Database, id_at, with_row, without, empty, objects_of, IsAscending, IsInOrder}
use Rattle.rdb_model.specs.Answer.{answer}
use Rattle.rdb_model.specs.Journal.{fold}
use Rattle.rdb_model.proofs.Rising.{IsRising, rising_with_row, rising_without}
use Rattle.rdb_model.proofs.Erasing.{AllRising, rising_with, rising_answer}
use Rattle.rdb_model.proofs.Validating.{rising_empty, rising_fold}

-- the same order, by places and by recursion
above_at : (id : ℕ) (os : Objects) (j : ℕ) → AllByRecursion (λ q. id < q.0) os → j < length os → id < id_at os j
above_at id [] j all within = absurd (omega arith)
above_at id (o ∷ os) zero all within = all.0
above_at id (o ∷ os) (suc j) all within = above_at id os j all.1 (omega arith)

all_above : (id : ℕ) (os : Objects) → ((j : ℕ) → j < length os → id < id_at os j) → AllByRecursion (λ q. id < q.0) os
all_above id [] at = tt
all_above id (o ∷ os) at = (at 0 (omega arith), all_above id os (λ j within. at (suc j) (omega arith)))

pub ascending_from : (os : Objects) → IsRising os → IsAscending os
ascending_from [] rising i j less within = absurd (omega arith)
ascending_from (o ∷ os) rising i zero less within = absurd (omega arith)
ascending_from (o ∷ os) rising zero (suc j) less within = above_at o.0 os j rising.0 (omega arith)
ascending_from (o ∷ os) rising (suc i) (suc j) less within = ascending_from os rising.1 i j (omega arith) (omega arith)

pub rising_from : (os : Objects) → IsAscending os → IsRising os
rising_from [] ascending = tt
rising_from (o ∷ os) ascending = (
  all_above o.0 os (λ j within. ascending 0 (suc j) (omega arith) (omega arith)),
  rising_from os (λ i j less within. ascending (suc i) (suc j) (omega arith) (omega arith)),
)

in_order_from : (db : Database) → AllRising db → IsInOrder db
in_order_from db rising class = ascending_from (objects_of db class) (rising class)

-- the empty database is in order, an answer keeps the order, and so does the fold
pub empty_in_order : (classes : ℕ) → IsInOrder (empty classes)
empty_in_order classes = in_order_from (empty classes) (rising_empty classes)

pub answer_in_order : (schema : Schema) (db : Database) (o : Op) → IsInOrder db → IsInOrder (answer schema db o).1
answer_in_order schema db o ordered = in_order_from (answer schema db o).1 (rising_answer schema db o (λ class. rising_from (objects_of db class) (ordered class)))

pub fold_in_order : (schema : Schema) (journal : List Entry) (n : ℕ) → IsInOrder (fold schema journal n)
fold_in_order schema journal n = in_order_from (fold schema journal n) (rising_fold schema journal n)

-- a change of one class keeps the order where the class's objects are in order
pub in_order_with : (db : Database) (class : ℕ) (os : Objects) → IsInOrder db → IsAscending os → IsInOrder (slice_set db class os)
in_order_with db class os ordered ascending = in_order_from (slice_set db class os) (rising_with db class os (λ k. rising_from (objects_of db k) (ordered k)) (rising_from os ascending))

pub same_in_order : (db : Database) (class : ℕ) (old : Objects) → IsInOrder db → old ≡ objects_of db class → IsInOrder (slice_set db class old)
same_in_order db class old ordered is = in_order_with db class old ordered (subst IsAscending (sym is) (ordered class))

pub row_put_in_order : (db : Database) (class id : ℕ) (row : Row) (old new : Objects) → IsInOrder db → old ≡ objects_of db class → new ≡ with_row old id row → IsInOrder (slice_set db class new)
row_put_in_order db class id row old new ordered is makes =
    in_order_with db class new ordered (subst IsAscending (sym (makes ∙ ap (λ os. with_row os id row) is)) (ascending_from (with_row (objects_of db class) id row) (rising_with_row (objects_of db class) id row (rising_from (objects_of db class) (ordered class)))))

pub object_gone_in_order : (db : Database) (class id : ℕ) (old new : Objects) → IsInOrder db → old ≡ objects_of db class → new ≡ without old id → IsInOrder (slice_set db class new)
object_gone_in_order db class id old new ordered is makes =
    in_order_with db class new ordered (subst IsAscending (sym (makes ∙ ap (λ os. without os id) is)) (ascending_from (without (objects_of db class) id) (rising_without (objects_of db class) id (rising_from (objects_of db class) (ordered class)))))
