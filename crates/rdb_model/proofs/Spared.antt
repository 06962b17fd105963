-- What an operation is told without an object on which its reply doesn't rest.
use Rattle.std.proofs.Common.{◌≡◌, ℕ, Bool, true, false, ◌&&◌, ◌||◌, ◌⊎◌, inl, inr, List, ◌∷◌, ◌++◌, length, take, Option, Some, None, nat_eq, refl, sym, ap, subst, ◌∙◌, arith, map, take_all}
use Rattle.std.specs.Option.{option_map, option_map_or}
use Rattle.std.specs.Cmp.Lexicographic.{bytes_decides, pointwise}
use Rattle.std.proofs.lemmas.Bool.Decides.{nat_tests}
use Rattle.rdb_base.specs.declared.value.Rect.{Rect}
use Rattle.rdb_base.specs.declared.operation.Op.{Op}
use Rattle.rdb_base.specs.declared.operation.Op.TheVariants as op
use Rattle.rdb_base.specs.declared.operation.Place.{Place}
use Rattle.rdb_base.specs.declared.operation.How.{How}
use Rattle.rdb_base.specs.declared.operation.How.TheVariants as how
use Rattle.rdb_base.specs.declared.operation.Reply.{Reply}
use Rattle.rdb_base.specs.declared.operation.Reply.TheVariants as reply
use Rattle.rdb_schema.specs.declared.schema.Schema.{Schema}
use Rattle.rdb_schema.specs.declared.schema.IndexDecl.{IndexDecl}
use Rattle.rdb_model.specs.Database.{Row, Objects, row_of, with_row, without}
use Rattle.rdb_schema.specs.Indexes.{indexes_of, fields_of}
use Rattle.rdb_model.specs.Index.{key, has_key, index}
use Rattle.rdb_model.specs.Answer.{ids_where, clash, sought, meets, words_of, starts, longest_prefix, is_found}
use Rattle.rdb_model.specs.Journal.{made_by}
use Rattle.rdb_model.specs.Touch.{shares_key, relates, rests}
use Rattle.rdb_model.proofs.Rising.{IsRising, IsSplit, split, without_missing, without_without, without_with_row, row_of_with_row, row_of_without, row_of_without_same, rising_without}
use Rattle.rdb_model.proofs.Lacking.{first_fails, second_fails, filter_lacks, row_of_lacks, clash_lacks, longest_lacks, sought_lacks, told_at}
use Rattle.rdb_model.proofs.ClassAnswers.{local_write, local_put, local_del, local}

-- what a function of objects gives without one whose row fails a test
by_split : {A : Type 0} (f : Objects → A) (test : Row → Bool) (os : Objects) (x : ℕ) → IsRising os → option_map_or test (row_of os x) false ≡ false → ((front back : Objects) (row : Row) → row_of front x ≡ None → test row ≡ false → f (front ++ (x, row) ∷ back) ≡ f (front ++ back)) → f (without os x) ≡ f os
by_split f test os x rising fails lacks = go (row_of os x) refl fails
  where
    go : (o : Option Row) → row_of os x ≡ o → option_map_or test o false ≡ false → f (without os x) ≡ f os
    go None e fails = ap f (without_missing os x e)
    go (Some row) e fails =
        let s : IsSplit os x row = split os x row rising e in
        ap f s.rest ∙ sym (lacks s.front s.back row s.none_before fails) ∙ ap f (sym s.whole)

-- an operation is told the same without an object, and changes the other objects alike
pub record IsSpared (schema : Schema) (o : Op) (os : Objects) (x : ℕ) : Type 0 where
  pub same_told : (local schema o (without os x)).0 ≡ (local schema o os).0
  pub same_change : (local schema o (without os x)).1 ≡ option_map (λ l. without l x) (local schema o os).1
  pub same_row : option_map_or (λ l. row_of l x) (local schema o os).1 (row_of os x) ≡ row_of os x

-- a text that has a prefix of its own length is that prefix
same_text : (text words : List ℕ) → starts text words ≡ true → nat_eq (length words) (length text) ≡ true → starts words text ≡ true
same_text text words begins long =
    let same_length : length words ≡ length text = grind (arith, nat_tests) in
    let whole : take (length words) text ≡ text = take_all (length words) text (omega arith) in
    let same : words ≡ text = (bytes_decides words text).0 (ap (pointwise nat_eq words) (sym whole) ∙ begins) in
    ap (λ w. starts w text) same ∙ starts_itself text
  where
    starts_itself : (t : List ℕ) → starts t t ≡ true
    starts_itself t = let whole : take (length t) t ≡ t = take_all (length t) t (omega arith) in ap (pointwise nat_eq t) whole ∙ (bytes_decides t t).1 refl

-- words that don't relate to a text aren't found by it
not_found : (way : How) (text : List ℕ) (longest : ℕ) (words : List ℕ) → relates way text words ≡ false → is_found way text longest words ≡ false
not_found how.Exact text longest words fails = go (starts text words) (nat_eq (length words) (length text)) (same_text text words) fails
  where
    go : (a b : Bool) → (a ≡ true → b ≡ true → starts words text ≡ true) → (a && starts words text) ≡ false → (a && b) ≡ false
    go false b same fails = refl
    go true false same fails = refl
    go true true same fails = let all = same refl refl in (cc)
not_found how.Longest text longest words fails = ap (λ b. b && nat_eq (length words) longest) fails
not_found how.Starting text longest words fails = fails

not_found_any : (way : How) (text : List ℕ) (longest : ℕ) (words : Option (List ℕ)) → option_map_or (relates way text) words false ≡ false → option_map_or (is_found way text longest) words false ≡ false
not_found_any way text longest None fails = refl
not_found_any way text longest (Some words) fails = not_found way text longest words fails

-- a Made is of an id other than this
abbrev pub MakesOther : Op → Reply → ℕ → Type 0
MakesOther o told x = option_map_or (λ made. nat_eq made.1 x) (made_by (o, told)) false ≡ false

-- what was told is the reply with the object or the one without it
abbrev pub IsTold : Schema → Op → Objects → ℕ → Reply → Type 0
IsTold schema o os x told = (told ≡ (local schema o os).0) ⊎ (told ≡ (local schema o (without os x)).0)

module _ (schema : Schema) (os : Objects) (x : ℕ) (rising : IsRising os) where
  spared_new : (class : ℕ) (row : Row) (id : ℕ) (told : Reply) → option_map_or (shares_key (indexes_of schema class) row) (row_of os x) false ≡ false → MakesOther (op.New class row id) told x → IsTold schema (op.New class row id) os x told → IsSpared schema (op.New class row id) os x
  spared_new class row id told fails other is = go (clash (indexes_of schema class) 0 row os) refl is
    where
      same : clash (indexes_of schema class) 0 row (without os x) ≡ clash (indexes_of schema class) 0 row os
      same = by_split (clash (indexes_of schema class) 0 row) (shares_key (indexes_of schema class) row) os x rising fails (λ front back r none f. clash_lacks (indexes_of schema class) 0 row front back (x, r) f)

      made : (c : Option (ℕ × ℕ)) → clash (indexes_of schema class) 0 row os ≡ c → IsTold schema (op.New class row id) os x told → told ≡ (local_write c (reply.Made id) os).0
      made None e (inl is) = is ∙ ap (λ d. (local_write d (reply.Made id) (with_row os id row)).0) e
      made None e (inr is) = is ∙ ap (λ d. (local_write d (reply.Made id) (with_row (without os x) id row)).0) (same ∙ e)
      made (Some at) e (inl is) = is ∙ ap (λ d. (local_write d (reply.Made id) (with_row os id row)).0) e
      made (Some at) e (inr is) = is ∙ ap (λ d. (local_write d (reply.Made id) (with_row (without os x) id row)).0) (same ∙ e)

      go : (c : Option (ℕ × ℕ)) → clash (indexes_of schema class) 0 row os ≡ c → IsTold schema (op.New class row id) os x told → IsSpared schema (op.New class row id) os x
      go (Some at) e is = record {
        same_told = ap (λ d. (local_write d (reply.Made id) (with_row (without os x) id row)).0) (same ∙ e) ∙ sym (ap (λ d. (local_write d (reply.Made id) (with_row os id row)).0) e);
        same_change = ap (λ d. (local_write d (reply.Made id) (with_row (without os x) id row)).1) (same ∙ e) ∙ sym (ap (λ d. option_map (λ l. without l x) (local_write d (reply.Made id) (with_row os id row)).1) e);
        same_row = ap (λ d. option_map_or (λ l. row_of l x) (local_write d (reply.Made id) (with_row os id row)).1 (row_of os x)) e;
      }
      go None e is =
          let differs : nat_eq id x ≡ false = subst (λ t. MakesOther (op.New class row id) t x) (made None e is) other in
          record {
            same_told = ap (λ d. (local_write d (reply.Made id) (with_row (without os x) id row)).0) (same ∙ e) ∙ sym (ap (λ d. (local_write d (reply.Made id) (with_row os id row)).0) e);
            same_change = ap (λ d. (local_write d (reply.Made id) (with_row (without os x) id row)).1) (same ∙ e) ∙ ap Some (sym (without_with_row os id x row rising differs)) ∙ sym (ap (λ d. option_map (λ l. without l x) (local_write d (reply.Made id) (with_row os id row)).1) e);
            same_row = ap (λ d. option_map_or (λ l. row_of l x) (local_write d (reply.Made id) (with_row os id row)).1 (row_of os x)) e ∙ row_of_with_row os id x row differs;
          }

  -- an object whose row is there and fails a test of ids has another id
  other_id : (id : ℕ) (more : Row → Bool) (r : Row) → option_map_or (λ row. nat_eq x id || more row) (row_of os x) false ≡ false → row_of os id ≡ Some r → nat_eq id x ≡ false
  other_id id more r fails here = go (nat_eq id x) refl
    where
      go : (b : Bool) → nat_eq id x ≡ b → b ≡ false
      go false e = refl
      go true e =
          let same : id ≡ x = grind (arith, nat_tests) in
          let here_too : row_of os x ≡ Some r = ap (row_of os) (sym same) ∙ here in
          let found : option_map_or (λ row. nat_eq x id || more row) (row_of os x) false ≡ (nat_eq x id || more r) = ap (λ o. option_map_or (λ row. nat_eq x id || more row) o false) here_too in
          let itself : nat_eq x id ≡ true = grind (arith, nat_tests) in
          let holds : (nat_eq x id || more r) ≡ true = ap (λ b. b || more r) itself in
          (cc)

  -- the row of an id that fails a test of ids
  same_row_of : (id : ℕ) (more : Row → Bool) → option_map_or (λ row. nat_eq x id || more row) (row_of os x) false ≡ false → row_of (without os x) id ≡ row_of os id
  same_row_of id more fails = by_split (λ l. row_of l id) (λ row. nat_eq x id || more row) os x rising fails (λ front back r none f. row_of_lacks front back (x, r) id (first_fails (nat_eq x id) (more r) f))

  -- the clash of a row that is put
  same_clash_of : (indexes : List IndexDecl) (id : ℕ) (row : Row) → option_map_or (λ r. nat_eq x id || shares_key indexes row r) (row_of os x) false ≡ false → clash indexes 0 row (without (without os x) id) ≡ clash indexes 0 row (without os id)
  same_clash_of indexes id row fails =
      ap (clash indexes 0 row) (without_without os x id)
      ∙ by_split (clash indexes 0 row) (shares_key indexes row) (without os id) x (rising_without os id rising) (fails_there (nat_eq id x) refl) (λ front back r none f. clash_lacks indexes 0 row front back (x, r) f)
    where
      second : (o : Option Row) → option_map_or (λ r. nat_eq x id || shares_key indexes row r) o false ≡ false → option_map_or (shares_key indexes row) o false ≡ false
      second None f = refl
      second (Some r) f = second_fails (nat_eq x id) (shares_key indexes row r) f

      fails_there : (b : Bool) → nat_eq id x ≡ b → option_map_or (shares_key indexes row) (row_of (without os id) x) false ≡ false
      fails_there true e =
          let same : id ≡ x = grind (arith, nat_tests) in
          ap (λ i. option_map_or (shares_key indexes row) (row_of (without os i) x) false) same ∙ ap (λ o. option_map_or (shares_key indexes row) o false) (row_of_without_same os x)
      fails_there false e = ap (λ o. option_map_or (shares_key indexes row) o false) (row_of_without os id x e) ∙ second (row_of os x) fails

  spared_get : (class id : ℕ) → option_map_or (λ r. nat_eq x id) (row_of os x) false ≡ false → IsSpared schema (op.Get class id) os x
  spared_get class id fails = record {
    same_told = ap (λ r. option_map_or reply.Row r reply.NotFound) (by_split (λ l. row_of l id) (λ r. nat_eq x id) os x rising fails (λ front back r none f. row_of_lacks front back (x, r) id f));
    same_change = refl;
    same_row = refl;
  }

  spared_put : (class id : ℕ) (row : Row) → option_map_or (λ r. nat_eq x id || shares_key (indexes_of schema class) row r) (row_of os x) false ≡ false → IsSpared schema (op.Put class id row) os x
  spared_put class id row fails = go (row_of os id) (clash (indexes_of schema class) 0 row (without os id)) refl refl
    where
      here : row_of (without os x) id ≡ row_of os id
      here = same_row_of id (shares_key (indexes_of schema class) row) fails

      same : clash (indexes_of schema class) 0 row (without (without os x) id) ≡ clash (indexes_of schema class) 0 row (without os id)
      same = same_clash_of (indexes_of schema class) id row fails

      -- the answers at what is there and what clashes
      with_it : (r : Option Row) (c : Option (ℕ × ℕ)) → row_of os id ≡ r → clash (indexes_of schema class) 0 row (without os id) ≡ c → local schema (op.Put class id row) os ≡ local_put r c (with_row os id row)
      with_it r c e f = ap (λ q. local_put q (clash (indexes_of schema class) 0 row (without os id)) (with_row os id row)) e ∙ ap (λ d. local_put r d (with_row os id row)) f

      without_it : (r : Option Row) (c : Option (ℕ × ℕ)) → row_of os id ≡ r → clash (indexes_of schema class) 0 row (without os id) ≡ c → local schema (op.Put class id row) (without os x) ≡ local_put r c (with_row (without os x) id row)
      without_it r c e f = ap (λ q. local_put q (clash (indexes_of schema class) 0 row (without (without os x) id)) (with_row (without os x) id row)) (here ∙ e) ∙ ap (λ d. local_put r d (with_row (without os x) id row)) (same ∙ f)

      go : (r : Option Row) (c : Option (ℕ × ℕ)) → row_of os id ≡ r → clash (indexes_of schema class) 0 row (without os id) ≡ c → IsSpared schema (op.Put class id row) os x
      go None c e f = record {
        same_told = ap (λ t. t.0) (without_it None c e f) ∙ sym (ap (λ t. t.0) (with_it None c e f));
        same_change = ap (λ t. t.1) (without_it None c e f) ∙ sym (ap (λ t. option_map (λ l. without l x) t.1) (with_it None c e f));
        same_row = ap (λ t. option_map_or (λ l. row_of l x) t.1 (row_of os x)) (with_it None c e f);
      }
      go (Some r) (Some at) e f = record {
        same_told = ap (λ t. t.0) (without_it (Some r) (Some at) e f) ∙ sym (ap (λ t. t.0) (with_it (Some r) (Some at) e f));
        same_change = ap (λ t. t.1) (without_it (Some r) (Some at) e f) ∙ sym (ap (λ t. option_map (λ l. without l x) t.1) (with_it (Some r) (Some at) e f));
        same_row = ap (λ t. option_map_or (λ l. row_of l x) t.1 (row_of os x)) (with_it (Some r) (Some at) e f);
      }
      go (Some r) None e f =
          let differs : nat_eq id x ≡ false = other_id id (shares_key (indexes_of schema class) row) r fails e in
          record {
            same_told = ap (λ t. t.0) (without_it (Some r) None e f) ∙ sym (ap (λ t. t.0) (with_it (Some r) None e f));
            same_change = ap (λ t. t.1) (without_it (Some r) None e f) ∙ ap Some (sym (without_with_row os id x row rising differs)) ∙ sym (ap (λ t. option_map (λ l. without l x) t.1) (with_it (Some r) None e f));
            same_row = ap (λ t. option_map_or (λ l. row_of l x) t.1 (row_of os x)) (with_it (Some r) None e f) ∙ row_of_with_row os id x row differs;
          }

  spared_del : (class id : ℕ) → option_map_or (λ r. nat_eq x id) (row_of os x) false ≡ false → IsSpared schema (op.Del class id) os x
  spared_del class id fails = go (row_of os id) refl
    where
      here : row_of (without os x) id ≡ row_of os id
      here = by_split (λ l. row_of l id) (λ r. nat_eq x id) os x rising fails (λ front back r none f. row_of_lacks front back (x, r) id f)

      -- the answers at what is there
      with_it : (r : Option Row) → row_of os id ≡ r → local schema (op.Del class id) os ≡ local_del r (without os id)
      with_it r e = ap (λ q. local_del q (without os id)) e

      without_it : (r : Option Row) → row_of os id ≡ r → local schema (op.Del class id) (without os x) ≡ local_del r (without (without os x) id)
      without_it r e = ap (λ q. local_del q (without (without os x) id)) (here ∙ e)

      go : (r : Option Row) → row_of os id ≡ r → IsSpared schema (op.Del class id) os x
      go None e = record {
        same_told = ap (λ t. t.0) (without_it None e) ∙ sym (ap (λ t. t.0) (with_it None e));
        same_change = ap (λ t. t.1) (without_it None e) ∙ sym (ap (λ t. option_map (λ l. without l x) t.1) (with_it None e));
        same_row = ap (λ t. option_map_or (λ l. row_of l x) t.1 (row_of os x)) (with_it None e);
      }
      go (Some r) e =
          let differs : nat_eq id x ≡ false = other_id id (λ row. false) r (or_false (row_of os x) fails) e in
          record {
            same_told = ap (λ t. t.0) (without_it (Some r) e) ∙ sym (ap (λ t. t.0) (with_it (Some r) e));
            same_change = ap (λ t. t.1) (without_it (Some r) e) ∙ ap Some (without_without os x id) ∙ sym (ap (λ t. option_map (λ l. without l x) t.1) (with_it (Some r) e));
            same_row = ap (λ t. option_map_or (λ l. row_of l x) t.1 (row_of os x)) (with_it (Some r) e) ∙ row_of_without os id x differs;
          }
        where
          or_false : (o : Option Row) → option_map_or (λ r. nat_eq x id) o false ≡ false → option_map_or (λ r. nat_eq x id || false) o false ≡ false
          or_false None f = refl
          or_false (Some r) f = ap (λ b. b || false) f

  -- the ids of objects whose rows pass a test
  same_ids : (test : Row → Bool) → option_map_or test (row_of os x) false ≡ false → ids_where test (without os x) ≡ ids_where test os
  same_ids test fails = by_split (ids_where test) test os x rising fails (λ front back r none f. ap (map (λ o. o.0)) (filter_lacks (λ o. test o.1) front back (x, r) f))

  spared_find : (class at : ℕ) (wanted : Row) → option_map_or (has_key (fields_of schema class at) wanted) (row_of os x) false ≡ false → IsSpared schema (op.Find class at wanted) os x
  spared_find class at wanted fails = record { same_told = ap reply.Ids (same_ids (has_key (fields_of schema class at) wanted) fails); same_change = refl; same_row = refl }

  spared_area : (class at : ℕ) (rect : Rect) (inside : Bool) → option_map_or (λ row. meets rect inside (key (fields_of schema class at) row)) (row_of os x) false ≡ false → IsSpared schema (op.Area class at rect inside) os x
  spared_area class at rect inside fails = record { same_told = ap reply.Ids (same_ids (λ row. meets rect inside (key (fields_of schema class at) row)) fails); same_change = refl; same_row = refl }

  spared_count : (class : ℕ) → option_map_or (λ row. true) (row_of os x) false ≡ false → IsSpared schema (op.Count class) os x
  spared_count class fails = record { same_told = by_split (λ l. reply.Count (length l)) (λ row. true) os x rising fails (λ front back r none f. (cc)); same_change = refl; same_row = refl }

  -- the ids of the objects that a text finds
  same_found : (fields text : List ℕ) (way : How) (longest : ℕ) → option_map_or (λ row. option_map_or (relates way text) (words_of (key fields row)) false) (row_of os x) false ≡ false → ids_where (λ row. option_map_or (is_found way text longest) (words_of (key fields row)) false) (without os x) ≡ ids_where (λ row. option_map_or (is_found way text longest) (words_of (key fields row)) false) os
  same_found fields text way longest fails = same_ids (λ row. option_map_or (is_found way text longest) (words_of (key fields row)) false) (weaker (row_of os x) fails)
    where
      weaker : (o : Option Row) → option_map_or (λ row. option_map_or (relates way text) (words_of (key fields row)) false) o false ≡ false → option_map_or (λ row. option_map_or (is_found way text longest) (words_of (key fields row)) false) o false ≡ false
      weaker None f = refl
      weaker (Some r) f = not_found_any way text longest (words_of (key fields r)) f

  spared_prefix : (class at : ℕ) (text : List ℕ) (way : How) → option_map_or (λ row. option_map_or (relates way text) (words_of (key (fields_of schema class at) row)) false) (row_of os x) false ≡ false → IsSpared schema (op.Prefix class at text way) os x
  spared_prefix class at text how.Exact fails = record { same_told = ap reply.Ids (same_found (fields_of schema class at) text how.Exact 0 fails); same_change = refl; same_row = refl }
  spared_prefix class at text how.Starting fails = record { same_told = ap reply.Ids (same_found (fields_of schema class at) text how.Starting 0 fails); same_change = refl; same_row = refl }
  spared_prefix class at text how.Longest fails =
      let fields = fields_of schema class at in
      let same : longest_prefix fields text (without os x) ≡ longest_prefix fields text os =
      by_split (longest_prefix fields text) (λ row. option_map_or (relates how.Longest text) (words_of (key fields row)) false) os x rising fails (λ front back r none f. longest_lacks fields text front back (x, r) f) in
      record {
        same_told =
            ap (λ n. reply.Ids (ids_where (λ row. option_map_or (is_found how.Longest text n) (words_of (key fields row)) false) (without os x))) same
            ∙ ap reply.Ids (same_found fields text how.Longest (longest_prefix fields text os) fails);
        same_change = refl;
        same_row = refl;
      }

  spared_seek : (class at : ℕ) (from : Place) (up : Bool) (told : Reply) → option_map_or (rests schema (op.Seek class at from up) told x) (row_of os x) false ≡ false → IsTold schema (op.Seek class at from up) os x told → IsSpared schema (op.Seek class at from up) os x
  spared_seek class at from up told fails is = record { same_told = ap told_at (go (row_of os x) refl fails is); same_change = refl; same_row = refl }
    where
      go : (o : Option Row) → row_of os x ≡ o → option_map_or (rests schema (op.Seek class at from up) told x) o false ≡ false → (told ≡ told_at (sought from up (index (fields_of schema class at) os))) ⊎ (told ≡ told_at (sought from up (index (fields_of schema class at) (without os x)))) → sought from up (index (fields_of schema class at) (without os x)) ≡ sought from up (index (fields_of schema class at) os)
      go None e fails is = ap (λ l. sought from up (index (fields_of schema class at) l)) (without_missing os x e)
      go (Some r) e fails is = at_split (split os x r rising e) fails is
        where
          at_split : IsSplit os x r → rests schema (op.Seek class at from up) told x r ≡ false → (told ≡ told_at (sought from up (index (fields_of schema class at) os))) ⊎ (told ≡ told_at (sought from up (index (fields_of schema class at) (without os x)))) → sought from up (index (fields_of schema class at) (without os x)) ≡ sought from up (index (fields_of schema class at) os)
          at_split s fails is =
              ap (λ l. sought from up (index (fields_of schema class at) l)) s.rest
              ∙ sym (sought_lacks from up (fields_of schema class at) s.front s.back (x, r) told s.none_before fails (moved is))
              ∙ ap (λ l. sought from up (index (fields_of schema class at) l)) (sym s.whole)
            where
              moved : (told ≡ told_at (sought from up (index (fields_of schema class at) os))) ⊎ (told ≡ told_at (sought from up (index (fields_of schema class at) (without os x)))) → (told ≡ told_at (sought from up (index (fields_of schema class at) (s.front ++ (x, r) ∷ s.back)))) ⊎ (told ≡ told_at (sought from up (index (fields_of schema class at) (s.front ++ s.back))))
              moved (inl e) = inl (e ∙ ap (λ l. told_at (sought from up (index (fields_of schema class at) l))) s.whole)
              moved (inr e) = inr (e ∙ ap (λ l. told_at (sought from up (index (fields_of schema class at) l))) s.rest)

  -- each operation is spared by an object on which its reply doesn't rest
  pub spared : (o : Op) (told : Reply) → option_map_or (rests schema o told x) (row_of os x) false ≡ false → MakesOther o told x → IsTold schema o os x told → IsSpared schema o os x
  spared (op.New class row id) told fails other is = spared_new class row id told fails other is
  spared (op.Get class id) told fails other is = spared_get class id fails
  spared (op.Put class id row) told fails other is = spared_put class id row fails
  spared (op.Del class id) told fails other is = spared_del class id fails
  spared (op.Find class at wanted) told fails other is = spared_find class at wanted fails
  spared (op.Seek class at from up) told fails other is = spared_seek class at from up told fails is
  spared (op.Area class at rect inside) told fails other is = spared_area class at rect inside fails
  spared (op.Prefix class at text way) told fails other is = spared_prefix class at text way fails
  spared (op.Count class) told fails other is = spared_count class fails
