-- A story on databases without some objects, on which none of its replies rests.
use Rattle.std.proofs.Common.{◌≡◌, ℕ, Bool, true, false, ◌&&◌, ◌⊎◌, inl, inr, cond, List, [], ◌∷◌, Option, None, IsSome, nat_eq, refl, sym, ap, subst, ◌∙◌, arith}
use Rattle.std.specs.List.{AllByRecursion}
use Rattle.std.specs.Option.{option_map_or}
use Rattle.std.proofs.lemmas.Bool.Decides.{nat_tests}
use Rattle.rdb_base.specs.declared.operation.Op.{Op}
use Rattle.rdb_base.specs.declared.operation.Reply.{Reply}
use Rattle.rdb_schema.specs.declared.schema.Schema.{Schema}
use Rattle.rdb_model.specs.Database.{Row, Database, row_of, without, objects_of}
use Rattle.rdb_model.specs.Answer.{answer}
use Rattle.rdb_model.specs.Story.{same_reply, run}
use Rattle.rdb_base.specs.Operations.{class_of}
use Rattle.rdb_model.specs.Touch.{rests}
use Rattle.rdb_model.proofs.Rising.{row_of_without, row_of_without_same}
use Rattle.rdb_model.proofs.ReplyLemmas.{same_reply_is}
use Rattle.rdb_model.proofs.Erasing.{erased, AllRising, objects_other, objects_erased, rising_erased, rising_answer, erased_comm, makes, IsSteady, steady}

-- the row that a database has of an object
abbrev pub row_in : Database → ℕ × ℕ → Option Row
row_in db w = row_of (objects_of db w.0) w.1

-- whether a reply rests on an object that has that row
abbrev pub rests_at : Schema → Op × Reply → ℕ × ℕ → Option Row → Bool
rests_at schema d w row = nat_eq w.0 (class_of d.0) && option_map_or (rests schema d.0 d.1 w.1) row false

-- no operation rests on an object that has that row, or makes the object
abbrev pub IsPassedOver : Schema → ℕ × ℕ → Option Row → List (Op × Reply) → Type 0
IsPassedOver schema w row done = AllByRecursion (λ d. (rests_at schema d w row ≡ false) × (makes d w ≡ false)) done

-- an object that no operation rests on may go
pub run_erased : (schema : Schema) (done : List (Op × Reply)) (db : Database) (w : ℕ × ℕ) → AllRising db → IsPassedOver schema w (row_in db w) done → IsSome (run schema db done) → IsSome (run schema (erased db w) done)
run_erased schema [] db w all passed runs = refl
run_erased schema (d ∷ ds) db w all passed runs = go (same_reply (answer schema db d.0).0 d.1) refl (run_erased schema ds (answer schema db d.0).1 w (rising_answer schema db d.0 all)) runs
  where
    go : (b : Bool) → same_reply (answer schema db d.0).0 d.1 ≡ b → (IsPassedOver schema w (row_in (answer schema db d.0).1 w) ds → IsSome (run schema (answer schema db d.0).1 ds) → IsSome (run schema (erased (answer schema db d.0).1 w) ds)) → IsSome (cond b (run schema (answer schema db d.0).1 ds) None) → IsSome (run schema (erased db w) (d ∷ ds))
    go false e rest runs = (cc)
    go true e rest runs =
        let told : (answer schema db d.0).0 ≡ d.1 = same_reply_is (answer schema db d.0).0 d.1 e in
        let same : IsSteady schema db d.0 w = steady schema db d.0 d.1 w all passed.0.0 passed.0.1 (inl (sym told)) in
        let here : same_reply (answer schema (erased db w) d.0).0 d.1 ≡ true = ap (λ t. same_reply t d.1) same.same_told ∙ e in
        let there : IsSome (run schema (erased (answer schema db d.0).1 w) ds) = rest (subst (λ r. IsPassedOver schema w r ds) (sym same.same_row) passed.1) runs in
        subst (λ b. IsSome (cond b (run schema (answer schema (erased db w) d.0).1 ds) None)) (sym here)
        (subst (λ next. IsSome (run schema next ds)) (sym same.same_next) there)

-- and it may come back
pub run_with : (schema : Schema) (done : List (Op × Reply)) (db : Database) (w : ℕ × ℕ) → AllRising db → IsPassedOver schema w (row_in db w) done → IsSome (run schema (erased db w) done) → IsSome (run schema db done)
run_with schema [] db w all passed runs = refl
run_with schema (d ∷ ds) db w all passed runs = go (same_reply (answer schema (erased db w) d.0).0 d.1) refl (run_with schema ds (answer schema db d.0).1 w (rising_answer schema db d.0 all)) runs
  where
    go : (b : Bool) → same_reply (answer schema (erased db w) d.0).0 d.1 ≡ b → (IsPassedOver schema w (row_in (answer schema db d.0).1 w) ds → IsSome (run schema (erased (answer schema db d.0).1 w) ds) → IsSome (run schema (answer schema db d.0).1 ds)) → IsSome (cond b (run schema (answer schema (erased db w) d.0).1 ds) None) → IsSome (run schema db (d ∷ ds))
    go false e rest runs = (cc)
    go true e rest runs =
        let told : (answer schema (erased db w) d.0).0 ≡ d.1 = same_reply_is (answer schema (erased db w) d.0).0 d.1 e in
        let same : IsSteady schema db d.0 w = steady schema db d.0 d.1 w all passed.0.0 passed.0.1 (inr (sym told)) in
        let here : same_reply (answer schema db d.0).0 d.1 ≡ true = ap (λ t. same_reply t d.1) (sym same.same_told) ∙ e in
        let there : IsSome (run schema (erased (answer schema db d.0).1 w) ds) = subst (λ next. IsSome (run schema next ds)) same.same_next runs in
        subst (λ b. IsSome (cond b (run schema (answer schema db d.0).1 ds) None)) (sym here)
        (rest (subst (λ r. IsPassedOver schema w r ds) (sym same.same_row) passed.1) there)

-- the database without some objects
abbrev pub erased_all : Database → List (ℕ × ℕ) → Database
erased_all db [] = db
erased_all db (w ∷ ws) = erased_all (erased db w) ws

pub erased_all_comm : (ws : List (ℕ × ℕ)) (db : Database) (w : ℕ × ℕ) → erased_all (erased db w) ws ≡ erased (erased_all db ws) w
erased_all_comm [] db w = refl
erased_all_comm (v ∷ vs) db w = ap (λ d. erased_all d vs) (erased_comm db w v) ∙ erased_all_comm vs (erased db v) w

-- each of some objects is passed over
abbrev pub ArePassedOver : Schema → Database → List (ℕ × ℕ) → List (Op × Reply) → Type 0
ArePassedOver schema db ws done = AllByRecursion (λ w. IsPassedOver schema w (row_in db w) done) ws

-- without one object a database has another's row, or none of it
row_in_erased : (db : Database) (v w : ℕ × ℕ) → (row_in (erased db v) w ≡ row_in db w) ⊎ (row_in (erased db v) w ≡ None)
row_in_erased db v w = go (nat_eq v.0 w.0) (nat_eq v.1 w.1) refl refl
  where
    go : (a b : Bool) → nat_eq v.0 w.0 ≡ a → nat_eq v.1 w.1 ≡ b → (row_in (erased db v) w ≡ row_in db w) ⊎ (row_in (erased db v) w ≡ None)
    go false b e f = inl (ap (λ l. row_of l w.1) (objects_other db v.0 w.0 (without (objects_of db v.0) v.1) e))
    go true false e f =
        let same : v.0 ≡ w.0 = grind (arith, nat_tests) in
        inl (subst (λ c. row_of (objects_of (erased db v) c) w.1 ≡ row_of (objects_of db c) w.1) same (ap (λ l. row_of l w.1) (objects_erased db v.0 v.1) ∙ row_of_without (objects_of db v.0) v.1 w.1 f))
    go true true e f =
        let same : v.0 ≡ w.0 = grind (arith, nat_tests) in
        let same_id : v.1 ≡ w.1 = grind (arith, nat_tests) in
        inr (subst (λ c. row_of (objects_of (erased db v) c) w.1 ≡ None) same (ap (λ l. row_of l w.1) (objects_erased db v.0 v.1) ∙ subst (λ i. row_of (without (objects_of db v.0) v.1) i ≡ None) same_id (row_of_without_same (objects_of db v.0) v.1)))

-- no reply rests on an object that isn't there
passed_none : (schema : Schema) (w : ℕ × ℕ) (row : Option Row) (done : List (Op × Reply)) → IsPassedOver schema w row done → IsPassedOver schema w None done
passed_none schema w row [] passed = tt
passed_none schema w row (d ∷ ds) passed = ((fails (nat_eq w.0 (class_of d.0)), passed.0.1), passed_none schema w row ds passed.1)
  where
    fails : (b : Bool) → (b && false) ≡ false
    fails true = refl
    fails false = refl

passed_erased : (schema : Schema) (db : Database) (v : ℕ × ℕ) (ws : List (ℕ × ℕ)) (done : List (Op × Reply)) → ArePassedOver schema db ws done → ArePassedOver schema (erased db v) ws done
passed_erased schema db v [] done passed = tt
passed_erased schema db v (w ∷ ws) done passed = (go (row_in_erased db v w), passed_erased schema db v ws done passed.1)
  where
    go : (row_in (erased db v) w ≡ row_in db w) ⊎ (row_in (erased db v) w ≡ None) → IsPassedOver schema w (row_in (erased db v) w) done
    go (inl e) = subst (λ r. IsPassedOver schema w r done) (sym e) passed.0
    go (inr e) = subst (λ r. IsPassedOver schema w r done) (sym e) (passed_none schema w (row_in db w) done passed.0)

-- objects that no operation rests on may go, and come back
pub run_erased_all : (schema : Schema) (ws : List (ℕ × ℕ)) (db : Database) (done : List (Op × Reply)) → AllRising db → ArePassedOver schema db ws done → IsSome (run schema db done) → IsSome (run schema (erased_all db ws) done)
run_erased_all schema [] db done all passed runs = runs
run_erased_all schema (w ∷ ws) db done all passed runs = run_erased_all schema ws (erased db w) done (rising_erased db w all) (passed_erased schema db w ws done passed.1) (run_erased schema done db w all passed.0 runs)

pub run_with_all : (schema : Schema) (ws : List (ℕ × ℕ)) (db : Database) (done : List (Op × Reply)) → AllRising db → ArePassedOver schema db ws done → IsSome (run schema (erased_all db ws) done) → IsSome (run schema db done)
run_with_all schema [] db done all passed runs = runs
run_with_all schema (w ∷ ws) db done all passed runs = run_with schema done db w all passed.0 (run_with_all schema ws (erased db w) done (rising_erased db w all) (passed_erased schema db w ws done passed.1) runs)
