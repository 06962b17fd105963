-- The object that stands in a write's way, by the ids that show its key.
use Rattle.std.proofs.Common.{◌≡◌, ◌==◌, ◌<◌, ◌≤◌, ◌+◌, ℕ, Bool, true, false, not, cond, List, [], ◌∷◌, zero, suc, length, drop, get_or, map, filter, Option, Some, None, slice_get, refl, sym, ap, ap₂, subst, ◌∙◌, arith, eq-eqb, eqb-true}
use Rattle.std.proofs.lemmas.List.{drop_more, drop_all, at_drop_more}
use Rattle.std.specs.List.{find}
use Rattle.std.specs.Option.{option_map, option_or}
use Rattle.rdb_base.specs.declared.operation.Reply.TheVariants as reply
use Rattle.rdb_schema.specs.declared.schema.IndexDecl.{IndexDecl}
use Rattle.rdb_schema.specs.declared.schema.IndexKind.TheVariants.{Patricia}
use Rattle.rdb_schema.specs.Types.{row_fits}
use Rattle.rdb_rows.specs.KeyLaws.{key_fits}
use Rattle.rdb_model.specs.Database.{Row, Objects}
use Rattle.rdb_model.specs.Index.{key, has_key}
use Rattle.rdb_model.specs.Answer.{ids_where, clash, holder}
use Rattle.rdb_store.specs.Shapes.{ClassShape, IndexShape, index_shape, index_at, nature_of_class}
use Rattle.rdb_model.specs.Others.{others, first_with}
use Rattle.rdb_cursor.specs.Clashes.{first_but, AreDeclared}

module _ (fields : List ℕ) (wanted : Row) where
  first_of : (os : Objects) → slice_get (map (λ (o : ℕ × Row). o.0) (filter (λ (o : ℕ × Row). has_key fields wanted o.1) os)) 0 ≡ option_map (λ (o : ℕ × Row). o.0) (find (λ (o : ℕ × Row). has_key fields wanted o.1) os)
  first_of [] = refl
  first_of (o ∷ os) = go (has_key fields wanted o.1) (first_of os)
    where
      go : (b : Bool) → slice_get (map (λ (q : ℕ × Row). q.0) (filter (λ (q : ℕ × Row). has_key fields wanted q.1) os)) 0 ≡ option_map (λ (q : ℕ × Row). q.0) (find (λ (q : ℕ × Row). has_key fields wanted q.1) os)
          → slice_get (map (λ (q : ℕ × Row). q.0) (cond b (o ∷ filter (λ (q : ℕ × Row). has_key fields wanted q.1) os) (filter (λ (q : ℕ × Row). has_key fields wanted q.1) os))) 0
          ≡ option_map (λ (q : ℕ × Row). q.0) (cond b (Some o) (find (λ (q : ℕ × Row). has_key fields wanted q.1) os))
      go true rest = refl
      go false rest = rest

  first_other : (out : ℕ) (os : Objects) → find (λ (id : ℕ). not (id == out)) (map (λ (o : ℕ × Row). o.0) (filter (λ (o : ℕ × Row). has_key fields wanted o.1) os))
      ≡ option_map (λ (o : ℕ × Row). o.0) (find (λ (o : ℕ × Row). has_key fields wanted o.1) (filter (λ (o : ℕ × Row). not (o.0 == out)) os))
  first_other out [] = refl
  first_other out (o ∷ os) = go (has_key fields wanted o.1) (not (o.0 == out)) refl refl (first_other out os)
    where
      go : (b c : Bool) → has_key fields wanted o.1 ≡ b → not (o.0 == out) ≡ c
          → find (λ (id : ℕ). not (id == out)) (map (λ (q : ℕ × Row). q.0) (filter (λ (q : ℕ × Row). has_key fields wanted q.1) os))
          ≡ option_map (λ (q : ℕ × Row). q.0) (find (λ (q : ℕ × Row). has_key fields wanted q.1) (filter (λ (q : ℕ × Row). not (q.0 == out)) os))
          → find (λ (id : ℕ). not (id == out)) (map (λ (q : ℕ × Row). q.0) (cond b (o ∷ filter (λ (q : ℕ × Row). has_key fields wanted q.1) os) (filter (λ (q : ℕ × Row). has_key fields wanted q.1) os)))
          ≡ option_map (λ (q : ℕ × Row). q.0) (find (λ (q : ℕ × Row). has_key fields wanted q.1) (cond c (o ∷ filter (λ (q : ℕ × Row). not (q.0 == out)) os) (filter (λ (q : ℕ × Row). not (q.0 == out)) os)))
      go true true e f rest =
          ap (λ (b : Bool). cond b (Some o.0) (find (λ (id : ℕ). not (id == out)) (map (λ (q : ℕ × Row). q.0) (filter (λ (q : ℕ × Row). has_key fields wanted q.1) os)))) f
          ∙ sym (ap (λ (b : Bool). option_map (λ (q : ℕ × Row). q.0) (cond b (Some o) (find (λ (q : ℕ × Row). has_key fields wanted q.1) (filter (λ (q : ℕ × Row). not (q.0 == out)) os)))) e)
      go true false e f rest = ap (λ (b : Bool). cond b (Some o.0) (find (λ (id : ℕ). not (id == out)) (map (λ (q : ℕ × Row). q.0) (filter (λ (q : ℕ × Row). has_key fields wanted q.1) os)))) f ∙ rest
      go false true e f rest = rest ∙ sym (ap (λ (b : Bool). option_map (λ (q : ℕ × Row). q.0) (cond b (Some o) (find (λ (q : ℕ × Row). has_key fields wanted q.1) (filter (λ (q : ℕ × Row). not (q.0 == out)) os)))) e)
      go false false e f rest = rest

  -- the first of the ids, but for the one left out, is that of the first object
  pub first_is : (left_out : Option ℕ) (os : Objects) → first_but left_out (ids_where (has_key fields wanted) os) ≡ first_with fields wanted (others left_out os)
  first_is None os = first_of os
  first_is (Some out) os = first_other out os

-- The first id but for one that is left out, one after another
but_here : (left_out : Option ℕ) (id : ℕ) (rest : List ℕ) → (left_out ≡ Some id → ⊥) → first_but left_out (id ∷ rest) ≡ Some id
but_here None id rest other = refl
but_here (Some out) id rest other = go (id == out) refl
  where
    go : (b : Bool) → (id == out) ≡ b → cond (not (id == out)) (Some id) (find (λ (n : ℕ). not (n == out)) rest) ≡ Some id
    go true e = absurd (other (ap Some (sym (eqb-true id out e))))
    go false e = ap (λ (b : Bool). cond (not b) (Some id) (find (λ (n : ℕ). not (n == out)) rest)) e

but_skip : (left_out : Option ℕ) (id : ℕ) (rest : List ℕ) → left_out ≡ Some id → first_but left_out (id ∷ rest) ≡ first_but left_out rest
but_skip None id rest is = absurd (cc)
but_skip (Some out) id rest is =
    let same : id ≡ out = (cc) in
    ap (λ (b : Bool). cond (not b) (Some id) (find (λ (n : ℕ). not (n == out)) rest)) (eq-eqb id out same)

module _ (left_out : Option ℕ) (ids : List ℕ) (i : ℕ) (below : i < length ids) where
  drop_is : drop i ids ≡ get_or ids i 0 ∷ drop (i + 1) ids
  drop_is = drop_more ids i 0 below

  pub but_found : (left_out ≡ Some (get_or ids i 0) → ⊥) → first_but left_out (drop i ids) ≡ Some (get_or ids i 0)
  but_found other = ap (first_but left_out) drop_is ∙ but_here left_out (get_or ids i 0) (drop (i + 1) ids) other

  pub but_more : left_out ≡ Some (get_or ids i 0) → first_but left_out (drop (i + 1) ids) ≡ first_but left_out (drop i ids)
  but_more out = sym (ap (first_but left_out) drop_is ∙ but_skip left_out (get_or ids i 0) (drop (i + 1) ids) out)

pub but_none : (left_out : Option ℕ) (ids : List ℕ) (i : ℕ) → length ids ≤ i → first_but left_out (drop i ids) ≡ None
but_none left_out ids i past = ap (first_but left_out) (drop_all i ids past) ∙ nothing left_out
  where
    nothing : (o : Option ℕ) → first_but o [] ≡ None
    nothing None = refl
    nothing (Some out) = refl

-- A row that fits a class has keys that fit its indexes
pub row_key_fits : (shape : ClassShape) (at : ℕ) (fields : List ℕ) (row k : Row) → row_fits shape.types row ≡ true → fields ≡ (index_at shape at).fields → k ≡ key fields row → ((nature_of_class shape).at at).keys.fits k ≡ true
row_key_fits shape at fields row k fits fields_are k_is =
    subst (λ (x : Row). ((nature_of_class shape).at at).keys.fits x ≡ true) (sym (k_is ∙ ap (λ (fs : List ℕ). key fs row) fields_are)) (key_fits shape.types row (index_at shape at).fields fits)

-- The object that has a row's key in an index
pub held_by : (fields index_fields : List ℕ) (row k : Row) (left_out : Option ℕ) (rows : Objects) (ids : List ℕ) (told : Option ℕ) → fields ≡ index_fields → k ≡ key fields row → ids ≡ ids_where (has_key index_fields k) rows → told ≡ first_but left_out ids
    → told ≡ first_with fields (key fields row) (others left_out rows)
held_by fields index_fields row k left_out rows ids told same k_is ids_are is =
    is ∙ ap (first_but left_out) (ids_are ∙ ap₂ (λ (fs : List ℕ) (x : Row). ids_where (has_key fs x) rows) (sym same) k_is) ∙ first_is fields (key fields row) left_out rows

-- An index of a class, as declared
pub declared_at : (shape : ClassShape) (indexes : List IndexDecl) → AreDeclared shape indexes → (i : ℕ) (d : IndexDecl) → i < length indexes → d ≡ get_or indexes i d → (i < length shape.indexes) × (d.key ≡ (index_at shape i).fields)
declared_at shape indexes are i d below is = (
  (let long = ap (λ (l : List IndexShape). length l) are.shapes in let same = as_many indexes in omega arith),
  sym (ap (λ (s : IndexShape). s.fields) (ap (λ (l : List IndexShape). get_or l i (record { kind = Patricia; fields = [] })) are.shapes ∙ at_shape indexes i d (record { kind = Patricia; fields = [] }) below is)),
)
  where
    as_many : (ds : List IndexDecl) → length (map index_shape ds) ≡ length ds
    as_many [] = refl
    as_many (d ∷ ds) = ap suc (as_many ds)

    at_shape : (ds : List IndexDecl) (i : ℕ) (d : IndexDecl) (other : IndexShape) → i < length ds → d ≡ get_or ds i d → get_or (map index_shape ds) i other ≡ index_shape d
    at_shape [] i d other below is = absurd (omega arith)
    at_shape (e ∷ ds) zero d other below is = ap index_shape (sym is)
    at_shape (e ∷ ds) (suc i) d other below is = at_shape ds i d other (omega arith) is

-- The clash in the indexes from a place on
clash_more : (indexes : List IndexDecl) (number : ℕ) (row : Row) (os : Objects) (i : ℕ) (d : IndexDecl) → i < length indexes → d ≡ get_or indexes i d → clash (drop i indexes) number row os ≡ option_or (cond d.unique (option_map {U = ℕ × ℕ} (λ (id : ℕ). (number, id)) (holder d.key row os)) None) (clash (drop (i + 1) indexes) (number + 1) row os)
clash_more indexes number row os i d below is =
    at_drop_more (λ (is : List IndexDecl). clash is number row os) indexes i d below ∙ ap (λ (e : IndexDecl). clash (e ∷ drop (i + 1) indexes) number row os) (sym is)

clash_step : (indexes : List IndexDecl) (number : ℕ) (row : Row) (os : Objects) (i : ℕ) (d : IndexDecl) → i < length indexes → d ≡ get_or indexes i d → (told : Option ℕ) → told ≡ cond d.unique (first_with d.key (key d.key row) os) None
    → clash (drop i indexes) number row os ≡ option_or (option_map {U = ℕ × ℕ} (λ (id : ℕ). (number, id)) told) (clash (drop (i + 1) indexes) (number + 1) row os)
clash_step indexes number row os i d below is told told_is =
    clash_more indexes number row os i d below is
    ∙ ap (λ (o : Option (ℕ × ℕ)). option_or o (clash (drop (i + 1) indexes) (number + 1) row os)) (go d.unique refl)
  where
    go : (b : Bool) → d.unique ≡ b → cond d.unique (option_map {U = ℕ × ℕ} (λ (id : ℕ). (number, id)) (holder d.key row os)) None ≡ option_map {U = ℕ × ℕ} (λ (id : ℕ). (number, id)) told
    go true e = ap (λ (b : Bool). cond b (option_map {U = ℕ × ℕ} (λ (id : ℕ). (number, id)) (holder d.key row os)) None) e ∙ sym (ap (option_map {U = ℕ × ℕ} (λ (id : ℕ). (number, id))) (told_is ∙ ap (λ (b : Bool). cond b (first_with d.key (key d.key row) os) None) e))
    go false e = ap (λ (b : Bool). cond b (option_map {U = ℕ × ℕ} (λ (id : ℕ). (number, id)) (holder d.key row os)) None) e ∙ sym (ap (option_map {U = ℕ × ℕ} (λ (id : ℕ). (number, id))) (told_is ∙ ap (λ (b : Bool). cond b (first_with d.key (key d.key row) os) None) e))

module _ (indexes : List IndexDecl) (row : Row) (os : Objects) (i : ℕ) (d : IndexDecl) (below : i < length indexes) (is : d ≡ get_or indexes i d) (told : Option ℕ) (told_is : told ≡ cond d.unique (first_with d.key (key d.key row) os) None) (so_far : clash (drop i indexes) i row os ≡ clash indexes 0 row os) where
  pub clash_here : (id : ℕ) → told ≡ Some id → Some (reply.Duplicate i id) ≡ option_map (λ (at : ℕ × ℕ). reply.Duplicate at.0 at.1) (clash indexes 0 row os)
  clash_here id found =
      ap (λ (o : Option ℕ). option_map (λ (at : ℕ × ℕ). reply.Duplicate at.0 at.1) (option_or (option_map {U = ℕ × ℕ} (λ (n : ℕ). (i, n)) o) (clash (drop (i + 1) indexes) (i + 1) row os))) (sym found)
      ∙ ap (option_map (λ (at : ℕ × ℕ). reply.Duplicate at.0 at.1)) (sym (clash_step indexes i row os i d below is told told_is) ∙ so_far)

  pub clash_later : told ≡ None → clash (drop (i + 1) indexes) (i + 1) row os ≡ clash indexes 0 row os
  clash_later none =
      ap (λ (o : Option ℕ). option_or (option_map {U = ℕ × ℕ} (λ (n : ℕ). (i, n)) o) (clash (drop (i + 1) indexes) (i + 1) row os)) (sym none)
      ∙ sym (clash_step indexes i row os i d below is told told_is) ∙ so_far

pub clash_nowhere : (indexes : List IndexDecl) (row : Row) (os : Objects) (i : ℕ) → length indexes ≤ i → clash (drop i indexes) i row os ≡ clash indexes 0 row os → None ≡ option_map (λ (at : ℕ × ℕ). reply.Duplicate at.0 at.1) (clash indexes 0 row os)
clash_nowhere indexes row os i past so_far =
    ap (λ (l : List IndexDecl). option_map (λ (at : ℕ × ℕ). reply.Duplicate at.0 at.1) (clash l i row os)) (sym (drop_all i indexes past)) ∙ ap (option_map (λ (at : ℕ × ℕ). reply.Duplicate at.0 at.1)) so_far
