-- The parts of the law: of what a journal begins with, of one entry more, and of the law as it is judged.
use Rattle.std.proofs.Common.{◌≡◌, ℕ, zero, suc, ◌+◌, ◌⊎◌, inl, inr, Bool, true, false, cond, List, [], ◌∷◌, ◌++◌, length, take, slice_get, Option, Some, None, refl, sym, ap, ap₂, ◌∙◌, subst, arith, append_assoc, append-nil}
use Rattle.std.specs.Option.{option_map, option_map_or}
use Rattle.std.proofs.lemmas.Option.{slice_get_within}
use Rattle.std.proofs.lemmas.List.{take_at, take-append-le}
use Rattle.rdb_base.specs.declared.journal.Entry.{Entry}
use Rattle.rdb_schema.specs.declared.schema.Schema.{Schema}
use Rattle.rdb_model.specs.declared.legality.Legality.TheVariants as legality
use Rattle.rdb_model.specs.declared.legality.Why.{Why}
use Rattle.rdb_model.specs.declared.legality.Why.TheVariants as why
use Rattle.rdb_model.specs.declared.legality.Span.{Span}
use Rattle.rdb_model.specs.Journal.{breaks_number, breaks_twice, breaks_place, breaks_reply, broken, judged}
use Rattle.rdb_model.specs.Parts.{HoldsOfEach, KeepsLaw}
use Rattle.rdb_model.proofs.FirstFaultLemmas.{slice_get_middle}

-- an element of a front, and one of a list with one more
get_front : {A : Type 0} (xs ys : List A) (i : ℕ) (x : A) → slice_get xs i ≡ Some x → slice_get (xs ++ ys) i ≡ Some x
get_front [] ys i x e = (cc)
get_front (a ∷ xs) ys zero x e = e
get_front (a ∷ xs) ys (suc i) x e = get_front xs ys i x e

get_pushed : {A : Type 0} (xs : List A) (y x : A) (i : ℕ) → slice_get (xs ++ y ∷ []) i ≡ Some x → (slice_get xs i ≡ Some x) ⊎ ((i ≡ length xs) × (y ≡ x))
get_pushed [] y x zero e = let same : y ≡ x = (cc) in inr (refl, same)
get_pushed [] y x (suc i) e = (cc)
get_pushed (a ∷ xs) y x zero e = inl e
get_pushed (a ∷ xs) y x (suc i) e = go (get_pushed xs y x i e)
  where
    go : (slice_get xs i ≡ Some x) ⊎ ((i ≡ length xs) × (y ≡ x)) → (slice_get xs i ≡ Some x) ⊎ ((suc i ≡ suc (length xs)) × (y ≡ x))
    go (inl f) = inl f
    go (inr f) = inr (ap suc f.0, f.1)

module _ (Relation : List Entry → Entry → Type 0) where
  -- what holds of each entry holds of one that stands after others
  pub holds_here : (journal earlier es : List Entry) (e : Entry) → HoldsOfEach Relation journal → earlier ++ e ∷ es ≡ journal → Relation earlier e
  holds_here journal earlier es e all whole =
      let at : slice_get journal (length earlier) ≡ Some e = ap (λ j. slice_get j (length earlier)) (sym whole) ∙ slice_get_middle earlier es e in
      let front : take (length earlier) journal ≡ earlier = ap (take (length earlier)) (sym whole) ∙ take_at earlier (e ∷ es) (length earlier) refl in
      subst (λ l. Relation l e) front (all (length earlier) e at)

  -- what holds of each entry of a journal holds of each of those with which it begins
  pub holds_in_front : (front back : List Entry) → HoldsOfEach Relation (front ++ back) → HoldsOfEach Relation front
  holds_in_front front back all place e at =
      let within = slice_get_within front place e at in
      subst (λ l. Relation l e) (take-append-le place front back (omega arith)) (all place e (get_front front back place e at))

  -- one entry more
  pub holds_with : (journal : List Entry) (e : Entry) → HoldsOfEach Relation journal → Relation journal e → HoldsOfEach Relation (journal ++ e ∷ [])
  holds_with journal e all here place x at = go (get_pushed journal e x place at)
    where
      go : (slice_get journal place ≡ Some x) ⊎ ((place ≡ length journal) × (e ≡ x)) → Relation (take place (journal ++ e ∷ [])) x
      go (inl f) =
          let within = slice_get_within journal place x f in
          subst (λ l. Relation l x) (sym (take-append-le place journal (e ∷ []) (omega arith))) (all place x f)
      go (inr f) =
          let front : journal ≡ take place (journal ++ e ∷ []) = sym (take_at journal (e ∷ []) place (sym f.0)) in
          subst (λ l. Relation l x) front (subst (Relation journal) f.1 here)

-- the parts of an entry that isn't broken
pub record IsWhole (within : Span) (schema : Schema) (earlier : List Entry) (e : Entry) : Type 0 where
  pub number : breaks_number earlier e ≡ false
  pub twice : breaks_twice within earlier e ≡ false
  pub placed : breaks_place earlier e ≡ false
  pub replies : breaks_reply schema earlier e ≡ None

whole_from : (within : Span) (schema : Schema) (earlier : List Entry) (e : Entry) → broken within schema earlier e ≡ None → IsWhole within schema earlier e
whole_from within schema earlier e none = go (breaks_number earlier e) (breaks_twice within earlier e) (breaks_place earlier e) (breaks_reply schema earlier e) refl refl refl refl none
  where
    go : (a b c : Bool) (d : Option ℕ) → breaks_number earlier e ≡ a → breaks_twice within earlier e ≡ b → breaks_place earlier e ≡ c → breaks_reply schema earlier e ≡ d → cond a (Some why.Number) (cond b (Some why.Twice) (cond c (Some why.Place) (option_map why.Reply d))) ≡ None → IsWhole within schema earlier e
    go true b c d p q r s none = (cc)
    go false true c d p q r s none = (cc)
    go false false true d p q r s none = (cc)
    go false false false (Some k) p q r s none = (cc)
    go false false false None p q r s none = record { number = p; twice = q; placed = r; replies = s }

-- an entry that breaks no part isn't broken
unbroken : (a b c : Bool) (d : Option ℕ) → a ≡ false → b ≡ false → c ≡ false → d ≡ None → cond a (Some why.Number) (cond b (Some why.Twice) (cond c (Some why.Place) (option_map why.Reply d))) ≡ None
unbroken false false false None p q r s = refl
unbroken false false false (Some k) p q r s = (cc)
unbroken false false true d p q r s = (cc)
unbroken false true c d p q r s = (cc)
unbroken true b c d p q r s = (cc)

-- the first of the entries that are judged legal isn't broken, and the others are legal after it
judged_first : (within : Span) (schema : Schema) (earlier : List Entry) (e : Entry) (es : List Entry) → judged within schema earlier (e ∷ es) ≡ legality.Legal → IsWhole within schema earlier e × (judged within schema (earlier ++ e ∷ []) es ≡ legality.Legal)
judged_first within schema earlier e es legal = go (broken within schema earlier e) refl legal
  where
    go : (b : Option Why) → broken within schema earlier e ≡ b → option_map_or (legality.Illegal (length earlier + 1)) b (judged within schema (earlier ++ e ∷ []) es) ≡ legality.Legal → IsWhole within schema earlier e × (judged within schema (earlier ++ e ∷ []) es ≡ legality.Legal)
    go None f legal = (whole_from within schema earlier e f, legal)
    go (Some w) f legal = (cc)

-- what stands at a place of a legal journal is whole after those before it
whole_at : (within : Span) (schema : Schema) (earlier es : List Entry) (i : ℕ) (e : Entry) → judged within schema earlier es ≡ legality.Legal → slice_get es i ≡ Some e → IsWhole within schema (earlier ++ take i es) e
whole_at within schema earlier [] i e legal is = (cc)
whole_at within schema earlier (x ∷ xs) zero e legal is =
    let same : x ≡ e = (cc) in
    subst (λ j. IsWhole within schema j e) (sym (append-nil earlier)) (subst (λ y. IsWhole within schema earlier y) same (judged_first within schema earlier x xs legal).0)
whole_at within schema earlier (x ∷ xs) (suc i) e legal is =
    subst (λ j. IsWhole within schema j e) (append_assoc earlier (x ∷ []) (take i xs)) (whole_at within schema (earlier ++ x ∷ []) xs i e (judged_first within schema earlier x xs legal).1 is)

-- entries of which each is whole after those before it are judged legal
judged_from : (within : Span) (schema : Schema) (earlier es : List Entry) → ((i : ℕ) (e : Entry) → slice_get es i ≡ Some e → IsWhole within schema (earlier ++ take i es) e) → judged within schema earlier es ≡ legality.Legal
judged_from within schema earlier [] all = refl
judged_from within schema earlier (x ∷ xs) all =
    ap₂ (λ b l. option_map_or (legality.Illegal (length earlier + 1)) b l)
    (unbroken (breaks_number earlier x) (breaks_twice within earlier x) (breaks_place earlier x) (breaks_reply schema earlier x) here.number here.twice here.placed here.replies)
    (judged_from within schema (earlier ++ x ∷ []) xs (λ i e at. subst (λ j. IsWhole within schema j e) (sym (append_assoc earlier (x ∷ []) (take i xs))) (all (suc i) e at)))
  where
    here : IsWhole within schema earlier x
    here = subst (λ j. IsWhole within schema j x) (append-nil earlier) (all 0 x refl)

-- a journal is judged legal exactly where it keeps the four parts
pub law_from : (within : Span) (schema : Schema) (journal : List Entry) → judged within schema [] journal ≡ legality.Legal → KeepsLaw within schema journal
law_from within schema journal legal = record {
  numbers = λ place e at. (whole_at within schema [] journal place e legal at).number;
  ends_once = λ place e at. (whole_at within schema [] journal place e legal at).twice;
  placed = λ place e at. (whole_at within schema [] journal place e legal at).placed;
  replies = λ place e at. (whole_at within schema [] journal place e legal at).replies;
}

pub legal_from : (within : Span) (schema : Schema) (journal : List Entry) → KeepsLaw within schema journal → judged within schema [] journal ≡ legality.Legal
legal_from within schema journal law = judged_from within schema [] journal (λ place e at. record {
  number = law.numbers place e at;
  twice = law.ends_once place e at;
  placed = law.placed place e at;
  replies = law.replies place e at;
})

-- what a journal that keeps the law begins with keeps it
pub law_in_front : (within : Span) (schema : Schema) (front back : List Entry) → KeepsLaw within schema (front ++ back) → KeepsLaw within schema front
law_in_front within schema front back law = record {
  numbers = holds_in_front (λ earlier e. breaks_number earlier e ≡ false) front back law.numbers;
  ends_once = holds_in_front (λ earlier e. breaks_twice within earlier e ≡ false) front back law.ends_once;
  placed = holds_in_front (λ earlier e. breaks_place earlier e ≡ false) front back law.placed;
  replies = holds_in_front (λ earlier e. breaks_reply schema earlier e ≡ None) front back law.replies;
}

-- one entry more that breaks no part
pub law_with : (within : Span) (schema : Schema) (journal : List Entry) (e : Entry) → KeepsLaw within schema journal → IsWhole within schema journal e → KeepsLaw within schema (journal ++ e ∷ [])
law_with within schema journal e law whole = record {
  numbers = holds_with (λ earlier e. breaks_number earlier e ≡ false) journal e law.numbers whole.number;
  ends_once = holds_with (λ earlier e. breaks_twice within earlier e ≡ false) journal e law.ends_once whole.twice;
  placed = holds_with (λ earlier e. breaks_place earlier e ≡ false) journal e law.placed whole.placed;
  replies = holds_with (λ earlier e. breaks_reply schema earlier e ≡ None) journal e law.replies whole.replies;
}
