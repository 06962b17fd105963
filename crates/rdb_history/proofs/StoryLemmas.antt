-- Stories with one operation more, and the objects that they make.
use Rattle.std.proofs.Common.{◌≡◌, ◌↔◌, ℕ, suc, Bool, true, false, ◌&&◌, ◌||◌, ◌==◌, List, [], ◌∷◌, ◌++◌, Option, Some, None, All, refl, sym, ap, subst, ◌∙◌, arith, append_assoc, append-nil}
use Rattle.std.specs.List.{cons_option}
use Rattle.std.specs.Option.{option_map_or}
use Rattle.std.proofs.lemmas.List.Folds.{list_any-append}
use Rattle.rdb_base.specs.declared.operation.Op.{Op}
use Rattle.rdb_base.specs.declared.operation.Reply.{Reply}
use Rattle.rdb_base.specs.declared.journal.Entry.{Entry}
use Rattle.rdb_schema.specs.declared.schema.Schema.{Schema}
use Rattle.rdb_model.specs.Database.{Database}
use Rattle.rdb_model.specs.Answer.{answer}
use Rattle.rdb_model.specs.Story.{after}
use Rattle.rdb_model.specs.Journal.{committed, made_by, made_in, made_before, was_made}
use Rattle.rdb_model.specs.Validation.{MakesAnew}

pub after_more : (schema : Schema) (db : Database) (done : List (Op × Reply)) (d : Op × Reply) → after schema db (done ++ d ∷ []) ≡ (answer schema (after schema db done) d.0).1
after_more schema db [] d = refl
after_more schema db (x ∷ xs) d = after_more schema (answer schema db x.0).1 xs d

-- the objects that a story makes, one after another
in_turn : (made : List (ℕ × ℕ)) (d : Op × Reply) (ds : List (Op × Reply)) → (made ++ made_in (d ∷ [])) ++ made_in ds ≡ made ++ made_in (d ∷ ds)
in_turn made d ds = append_assoc made (made_in (d ∷ [])) (made_in ds) ∙ ap (λ l. made ++ l) (go (made_by d))
  where
    go : (o : Option (ℕ × ℕ)) → cons_option o [] ++ made_in ds ≡ cons_option o (made_in ds)
    go None = refl
    go (Some m) = refl

-- that an operation makes no object that was made
abbrev MakesNone : List (ℕ × ℕ) → Op × Reply → Type 0
MakesNone made d = option_map_or (was_made made) (made_by d) false ≡ false

pub anew_more : (made : List (ℕ × ℕ)) (done : List (Op × Reply)) (d : Op × Reply) → MakesAnew made (done ++ d ∷ []) ↔ (MakesAnew made done × MakesNone (made ++ made_in done) d)
anew_more made [] d = (
  λ both. (tt, subst (λ l. MakesNone l d) (sym (append-nil made)) both.0),
  λ both. (subst (λ l. MakesNone l d) (append-nil made) both.1, tt),
)
anew_more made (x ∷ xs) d =
    let rest = anew_more (made ++ made_in (x ∷ [])) xs d in (
      λ both. let r = rest.0 both.1 in ((both.0, r.0), subst (λ l. MakesNone l d) (in_turn made x xs) r.1),
      λ both. (both.0.0, rest.1 (both.0.1, subst (λ l. MakesNone l d) (sym (in_turn made x xs)) both.1)),
    )

-- others that were made and aren't theirs
either_false : (a b : Bool) → a ≡ false → b ≡ false → (a || b) ≡ false
either_false true b e f = (cc)
either_false false b e f = f

swapped : (a b c : Bool) → ((a || b) || c) ≡ ((a || c) || b)
swapped true b c = refl
swapped false true true = refl
swapped false true false = refl
swapped false false true = refl
swapped false false false = refl

first_of : (P : ℕ × ℕ → Type 0) (o : Option (ℕ × ℕ)) (xs : List (ℕ × ℕ)) (w : ℕ × ℕ) → o ≡ Some w → All P (cons_option o xs) → P w
first_of P None xs w e all = (cc)
first_of P (Some v) xs w e all = let same : v ≡ w = (cc) in subst P same (all 0 v (omega arith))

rest_of : (P : ℕ × ℕ → Type 0) (o : Option (ℕ × ℕ)) (xs : List (ℕ × ℕ)) → All P (cons_option o xs) → All P xs
rest_of P None xs all = all
rest_of P (Some v) xs all = λ i d lt. all (suc i) d (omega arith)

with_others : (others a b : List (ℕ × ℕ)) (done : List (Op × Reply)) → ((o : ℕ × ℕ) → was_made b o ≡ (was_made a o || was_made others o)) → MakesAnew a done → All (λ o. was_made others o ≡ false) (made_in done) → MakesAnew b done
with_others others a b [] same anew apart = tt
with_others others a b (d ∷ ds) same anew apart = (
  here (made_by d) refl anew.0,
  with_others others (a ++ made_in (d ∷ [])) (b ++ made_in (d ∷ [])) ds grown anew.1 (rest_of (λ o. was_made others o ≡ false) (made_by d) (made_in ds) apart),
)
  where
    here : (o : Option (ℕ × ℕ)) → made_by d ≡ o → option_map_or (was_made a) o false ≡ false → option_map_or (was_made b) o false ≡ false
    here None e f = refl
    here (Some w) e f = same w ∙ either_false (was_made a w) (was_made others w) f (first_of (λ o. was_made others o ≡ false) (made_by d) (made_in ds) w e apart)

    grown : (o : ℕ × ℕ) → was_made (b ++ made_in (d ∷ [])) o ≡ (was_made (a ++ made_in (d ∷ [])) o || was_made others o)
    grown o =
        list_any-append (λ m. (m.0 == o.0) && (m.1 == o.1)) b (made_in (d ∷ []))
        ∙ ap (λ x. x || was_made (made_in (d ∷ [])) o) (same o)
        ∙ swapped (was_made a o) (was_made others o) (was_made (made_in (d ∷ [])) o)
        ∙ ap (λ x. x || was_made others o) (sym (list_any-append (λ m. (m.0 == o.0) && (m.1 == o.1)) a (made_in (d ∷ []))))

pub anew_beside : (made others : List (ℕ × ℕ)) (done : List (Op × Reply)) → MakesAnew made done → All (λ o. was_made others o ≡ false) (made_in done) → MakesAnew (made ++ others) done
anew_beside made others done anew apart = with_others others made (made ++ others) done (λ o. list_any-append (λ m. (m.0 == o.0) && (m.1 == o.1)) made others) anew apart

pub made_more : (journal : List Entry) (e : Entry) → made_before (journal ++ e ∷ []) ≡ made_before journal ++ option_map_or made_in (committed e) []
made_more [] e = append-nil (option_map_or made_in (committed e) [])
made_more (x ∷ xs) e =
    ap (λ l. option_map_or made_in (committed x) [] ++ l) (made_more xs e)
    ∙ sym (append_assoc (option_map_or made_in (committed x) []) (made_before xs) (option_map_or made_in (committed e) []))
