-- What notes say: whether the next event is that of a note, and whether the commits looked through never fall.
use Rattle.std.proofs.Common.{◌≡◌, ◌↔◌, ℕ, zero, suc, ◌<◌, ◌≤◌, Bool, true, false, not, ◌&&◌, List, [], ◌∷◌, length, drop, get_or, drop-cons, slice_get, Option, Some, None, IsTrue, nat_eq, nat_lt, refl, sym, ap, subst, ◌∙◌, arith}
use Rattle.std.specs.Option.{option_map_or}
use Rattle.std.proofs.lemmas.Bool.Decides.{nat_tests}
use Rattle.std.proofs.lemmas.List.{drop_all}
use Rattle.rdb_base.specs.declared.journal.Entry.{Entry}
use Rattle.rdb_schema.specs.declared.schema.EventKind.{EventKind}
use Rattle.rdb_model.specs.Events.{is_behind}
use Rattle.rdb_model.specs.Journal.{commits}
use Rattle.rdb_history.specs.declared.watches.Note.{Note}
use Rattle.rdb_history.specs.Watches.{looked_through, NeverFalls}
use Rattle.rdb_history.specs.RowEvents.{HappenedByRows, IsNextEvent, HasNoEvent}
use Rattle.rdb_history.proofs.EventLemmas.{one_next, some_next}

module _ (class : ℕ) (kind : EventKind) (journal : List Entry) (place : ℕ × ℕ) where
  pub same_next : (next other : ℕ × ℕ) (b : Bool) → (b ≡ true → next ≡ other) → (next ≡ other → b ≡ true) → IsNextEvent class kind journal place next → IsTrue b ↔ IsNextEvent class kind journal place other
  same_next next other b holds only is =
      (λ e. subst (λ p. IsNextEvent class kind journal place p) (holds e) is, λ o. only (one_next class kind journal place next other is o))

  pub never_next : (other : ℕ × ℕ) → HasNoEvent class kind journal place (commits journal) → IsTrue false ↔ IsNextEvent class kind journal place other
  never_next other none = (λ e. (cc), λ o. absurd (some_next class kind journal place other o none))

  pub none_up_to : (next : ℕ × ℕ) (at : ℕ) → IsNextEvent class kind journal place next → IsTrue (nat_lt at next.0) ↔ HasNoEvent class kind journal place at
  none_up_to next at is = (λ e other h below. go e other h below (is_behind place other) refl, λ none. reached none (nat_lt at next.0) refl)
    where
      go : nat_lt at next.0 ≡ true → (other : ℕ × ℕ) → HappenedByRows class kind journal other → other.0 ≤ at → (b : Bool) → is_behind place other ≡ b → b ≡ false
      go e other h below true f = let g = is.first other h f in let less : is_behind other next ≡ true = grind (arith, nat_tests) in absurd (cc)
      go e other h below false f = refl

      reached : HasNoEvent class kind journal place at → (b : Bool) → nat_lt at next.0 ≡ b → b ≡ true
      reached none true e = refl
      reached none false e =
          let below : next.0 ≤ at = grind (arith, nat_tests) in
          let never = none next is.happened below in let f = is.behind in absurd (cc)

pub equal_places : (a b : ℕ × ℕ) → a.0 ≡ b.0 → a.1 ≡ b.1 → a ≡ b
equal_places a b e f = λ i. (e i, f i)

-- whether the commits looked through never fall, nor below a number
abbrev pub rises : ℕ → List Note → Bool
rises most [] = true
rises most (n ∷ ns) = option_map_or (λ at. not (nat_lt at most) && rises at ns) (looked_through n.notice) (rises most ns)

abbrev pub AreAbove : ℕ → List Note → Type 0
AreAbove most notes = (i at : ℕ) (note : Note) → slice_get notes i ≡ Some note → looked_through note.notice ≡ Some at → most ≤ at

not_less : (a b : ℕ) (c : Bool) → (not (nat_lt a b) && c) ≡ true → (b ≤ a) × (c ≡ true)
not_less a b c e = go (nat_lt a b) refl e
  where
    go : (d : Bool) → nat_lt a b ≡ d → (not d && c) ≡ true → (b ≤ a) × (c ≡ true)
    go true f g = (cc)
    go false f g = (grind (arith, nat_tests), g)

rises_are : (most : ℕ) (notes : List Note) → rises most notes ≡ true → NeverFalls notes × AreAbove most notes
rises_are most [] e = (λ i j earlier later first second less at other l m. (cc), λ i at note stands l. (cc))
rises_are most (n ∷ ns) e = go (looked_through n.notice) refl (rises_are most ns) (λ k. rises_are k ns) e
  where
    some_is : (a b : ℕ) → Some a ≡ Some b → a ≡ b
    some_is a b e = (cc)

    note_is : (a b : Note) → Some a ≡ Some b → a ≡ b
    note_is a b e = (cc)

    falls : (o : Option ℕ) → looked_through n.notice ≡ o → NeverFalls ns → ((k : ℕ) → o ≡ Some k → AreAbove k ns) → NeverFalls (n ∷ ns)
    falls o is rest above zero zero earlier later first second less at other l m = absurd (omega arith)
    falls o is rest above zero (suc j) earlier later first second less at other l m =
        let own : looked_through n.notice ≡ Some earlier = ap (λ (x : Note). looked_through x.notice) (note_is n first at) ∙ l in
        above earlier (sym is ∙ own) j later second other m
    falls o is rest above (suc i) zero earlier later first second less at other l m = absurd (omega arith)
    falls o is rest above (suc i) (suc j) earlier later first second less at other l m = rest i j earlier later first second (omega arith) at other l m

    are_above : (o : Option ℕ) → looked_through n.notice ≡ o → ((k : ℕ) → o ≡ Some k → most ≤ k) → AreAbove most ns → AreAbove most (n ∷ ns)
    are_above o is here rest zero at note stands l =
        let own : looked_through n.notice ≡ Some at = ap (λ (x : Note). looked_through x.notice) (note_is n note stands) ∙ l in
        here at (sym is ∙ own)
    are_above o is here rest (suc i) at note stands l = rest i at note stands l

    go : (o : Option ℕ) → looked_through n.notice ≡ o → (rises most ns ≡ true → NeverFalls ns × AreAbove most ns) → ((k : ℕ) → rises k ns ≡ true → NeverFalls ns × AreAbove k ns)
        → option_map_or (λ at. not (nat_lt at most) && rises at ns) o (rises most ns) ≡ true → NeverFalls (n ∷ ns) × AreAbove most (n ∷ ns)
    go None is rest other f = (falls None is (rest f).0 (λ k e. (cc)), are_above None is (λ k e. (cc)) (rest f).1)
    go (Some at) is rest other f =
        let both = not_less at most (rises at ns) f in
        let r = other at both.1 in (
          falls (Some at) is r.0 (λ k e. subst (λ (m : ℕ). AreAbove m ns) (some_is at k e) r.1),
          are_above (Some at) is (λ k e. let same = some_is at k e in let least = both.0 in omega arith) (λ i k note stands l. let least = both.0 in let above = r.1 i k note stands l in omega arith),
        )

are_rising : (most : ℕ) (notes : List Note) → NeverFalls notes → AreAbove most notes → rises most notes ≡ true
are_rising most [] falls above = refl
are_rising most (n ∷ ns) falls above = go (looked_through n.notice) refl (λ k a. are_rising k ns (λ i j earlier later first second less. falls (suc i) (suc j) earlier later first second (omega arith)) a)
  where
    at_least : (a b : ℕ) (c : Bool) → b ≤ a → c ≡ true → (not (nat_lt a b) && c) ≡ true
    at_least a b c le e = let not_below : nat_lt a b ≡ false = grind (arith, nat_tests) in ap (λ d. not d && c) not_below ∙ e

    go : (o : Option ℕ) → looked_through n.notice ≡ o → ((k : ℕ) → AreAbove k ns → rises k ns ≡ true) → option_map_or (λ at. not (nat_lt at most) && rises at ns) o (rises most ns) ≡ true
    go None is rest = rest most (λ i at note stands l. above (suc i) at note stands l)
    go (Some at) is rest = at_least at most (rises at ns) (above 0 at n refl is) (rest at (λ i k note stands l. falls 0 (suc i) at k n note (omega arith) refl stands is l))

pub never_falling : (notes : List Note) → IsTrue (rises 0 notes) ↔ NeverFalls notes
never_falling notes = (λ e. (rises_are 0 notes e).0, λ falls. are_rising 0 notes falls (λ i at note stands l. omega arith))

-- a note that falls, and the end of the notes
module _ (notes : List Note) (most i : ℕ) (left : rises most (drop i notes) ≡ rises 0 notes) where
  pub falls_here : (at : ℕ) (d : Note) → i < length notes → looked_through (get_or notes i d).notice ≡ Some at → at < most → IsTrue false ↔ NeverFalls notes
  falls_here at d within is below =
      let less : nat_lt at most ≡ true = grind (arith, nat_tests) in
      let here : rises most (drop i notes) ≡ false =
      ap (rises most) (drop-cons notes i d within)
      ∙ ap (λ o. option_map_or (λ k. not (nat_lt k most) && rises k (drop (suc i) notes)) o (rises most (drop (suc i) notes))) is
      ∙ ap (λ b. not b && rises at (drop (suc i) notes)) less in
      subst (λ b. IsTrue b ↔ NeverFalls notes) (sym left ∙ here) (never_falling notes)

  pub all_rise : length notes ≤ i → IsTrue true ↔ NeverFalls notes
  all_rise past =
      let here : rises most (drop i notes) ≡ true = ap (rises most) (drop_all i notes past) in
      subst (λ b. IsTrue b ↔ NeverFalls notes) (sym left ∙ here) (never_falling notes)

pub test_to_equal : (a b : ℕ) → nat_eq a b ≡ true → a ≡ b
test_to_equal a b e = grind (arith, nat_tests)

pub equal_to_test : (a b : ℕ) → a ≡ b → nat_eq a b ≡ true
equal_to_test a b e = grind (arith, nat_tests)
