-- What is shown, what is kept and what is a transaction's work, class by class.
use Rattle.std.proofs.Common.{◌≡◌, ◌⊎◌, inl, inr, ℕ, List, [], length, Option, None, sym, ap, subst, ◌∙◌}
use Rattle.std.specs.List.{AllPairs}
use Rattle.std.specs.Option.{option_map}
use Rattle.std.proofs.lemmas.List.{ext_get_or, length-map}
use Rattle.rdb_base.specs.declared.identity.TxId.{TxId}
use Rattle.rdb_base.specs.declared.operation.Op.{Op}
use Rattle.rdb_base.specs.declared.operation.Reply.{Reply}
use Rattle.rdb_base.specs.declared.journal.Entry.{Entry}
use Rattle.rdb_sight.specs.Versions.{Object, Versions, Marks, IsAscending, chain_of, objects_in, own_version, rows_shown, shown}
use Rattle.rdb_model.specs.Database.{Database, objects_of}
use Rattle.rdb_shown.specs.Kept.{last_left, IsChain, AreVersions, IsUnseenBy, IsWork}
use Rattle.rdb_shown.specs.Changes.{HasNone}
use Rattle.rdb_shown.proofs.RowsShown.{objects_shown}
use Rattle.rdb_serial.specs.Histories.{AreSameIn}

-- what is shown is one database where it is so of each class
pub shown_by_class : (marks now : Marks) (snapshot later : ℕ) (reader other : Option TxId) (a b : Versions) → length a ≡ length b →
    ((class : ℕ) → rows_shown now later other (objects_in a class) ≡ rows_shown marks snapshot reader (objects_in b class)) →
    shown now later other a ≡ shown marks snapshot reader b
shown_by_class marks now snapshot later reader other a b many same =
    ext_get_or [] (shown now later other a) (shown marks snapshot reader b)
    (length-map a (rows_shown now later other) ∙ many ∙ sym (length-map b (rows_shown marks snapshot reader)))
    (λ class lt. objects_shown now later other a class ∙ same class ∙ sym (objects_shown marks snapshot reader b class))

-- and of each class where it is one database
pub class_shown : (marks now : Marks) (snapshot later : ℕ) (reader other : Option TxId) (a b : Versions) → shown now later other a ≡ shown marks snapshot reader b →
    (class : ℕ) → rows_shown now later other (objects_in a class) ≡ rows_shown marks snapshot reader (objects_in b class)
class_shown marks now snapshot later reader other a b same class =
    sym (objects_shown now later other a class) ∙ ap (λ (db : Database). objects_of db class) same ∙ objects_shown marks snapshot reader b class

-- what is kept of one class's versions
pub record KeptIn (journal : List Entry) (marks : Marks) (class : ℕ) (objects : List Object) : Type 0 where
  pub in_order : IsAscending objects
  pub chains : (id : ℕ) → IsChain journal marks (class, id) (chain_of objects id)

pub kept_in : (journal : List Entry) (marks : Marks) (versions : Versions) → AreVersions journal marks versions → (class : ℕ) → KeptIn journal marks class (objects_in versions class)
kept_in journal marks versions kept class = record { in_order = kept.in_order class; chains = kept.chains class }

pub kept_by_class : (journal : List Entry) (marks : Marks) (versions : Versions) → ((class : ℕ) → KeptIn journal marks class (objects_in versions class)) → AreVersions journal marks versions
kept_by_class journal marks versions each = record { in_order = λ class. (each class).in_order; chains = λ class. (each class).chains }

-- what a transaction's work is of one class
pub record WorkIn (marks : Marks) (tx : TxId) (snapshot : ℕ) (done : List (Op × Reply)) (class : ℕ) (objects : List Object) : Type 0 where
  pub wrote : (id : ℕ) → option_map (λ v. v.row) (own_version tx (chain_of objects id)) ≡ last_left (class, id) done
  pub unseen : (id : ℕ) → AllPairs (IsUnseenBy tx snapshot marks) (chain_of objects id)

pub work_in : (marks : Marks) (versions : Versions) (tx : TxId) (snapshot : ℕ) (done : List (Op × Reply)) → IsWork marks versions tx snapshot done →
    (class : ℕ) → WorkIn marks tx snapshot done class (objects_in versions class)
work_in marks versions tx snapshot done work class = record { wrote = work.wrote class; unseen = work.unseen class }

pub work_by_class : (marks : Marks) (versions : Versions) (tx : TxId) (snapshot : ℕ) (done : List (Op × Reply)) → marks tx ≡ None →
    ((class : ℕ) → WorkIn marks tx snapshot done class (objects_in versions class)) → IsWork marks versions tx snapshot done
work_by_class marks versions tx snapshot done unmarked each = record { unmarked = unmarked; wrote = λ class. (each class).wrote; unseen = λ class. (each class).unseen }

-- of a class from one of two lists holds what holds of both
pub of_either : (P : ℕ → List Object → Type 0) (now a b : Versions) (class : ℕ) → AreSameIn class now a ⊎ AreSameIn class now b → P class (objects_in a class) → P class (objects_in b class) → P class (objects_in now class)
of_either P now a b class (inl same) here there = subst (P class) (sym same) here
of_either P now a b class (inr same) here there = subst (P class) (sym same) there

-- versions of which each class is from one of two lists are kept where both are
pub kept_either : (journal : List Entry) (marks : Marks) (now a b : Versions) → ((class : ℕ) → AreSameIn class now a ⊎ AreSameIn class now b) →
    AreVersions journal marks a → AreVersions journal marks b → AreVersions journal marks now
kept_either journal marks now a b each here there = kept_by_class journal marks now
    (λ class. of_either (KeptIn journal marks) now a b class (each class) (kept_in journal marks a here class) (kept_in journal marks b there class))

-- and none is of a transaction where none of both is
pub none_either : (now a b : Versions) (tx : TxId) → ((class : ℕ) → AreSameIn class now a ⊎ AreSameIn class now b) → HasNone a tx → HasNone b tx → HasNone now tx
none_either now a b tx each here there class id =
    of_either (λ c objects. own_version tx (chain_of objects id) ≡ None) now a b class (each class) (here class id) (there class id)
