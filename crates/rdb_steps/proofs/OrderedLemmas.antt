-- Own writes in order: two lists in which the same is found of every object are one, and without its first a list is the rest of it.
use Rattle.std.proofs.Common.{◌≡◌, ◌≢◌, ◌⊎◌, ◌∷◌, ◌+◌, ◌==◌, ◌&&◌, nat_lt, ℕ, List, [], true, drop, length, Option, Some, None, slice_get, refl, sym, ap, subst, ◌∙◌, inl, inr, ⊎_elim, arith, lt-ltb, eq-eqb}
use Rattle.std.proofs.lemmas.Bool.{and_from, cases_order}
use Rattle.rdb_base.specs.Room.{Reserved}
use Rattle.rdb_pages.specs.declared.cell.CellRef.{CellRef}
use Rattle.rdb_registry.specs.declared.own_writes.OwnWrite.{OwnWrite}
use Rattle.rdb_registry.specs.OwnWrites.{AllBehind, AreOrdered, Cut, header_of, object_of, precedes}
use Rattle.rdb_registry.proofs.OwnLemmas.{here_with, here_without, others_with, trans}
use Rattle.rdb_steps.specs.Steps.{without_first}
use Rattle.rdb_steps.proofs.FirstLemmas.{first_gone}
use Rattle.rdb_steps.proofs.HandKept.{or_first, or_second}
use Rattle.rdb_steps.proofs.OwnLemmas.{object_is}

-- of two objects one comes first, or they are one
one_first : (a b : ℕ × ℕ) → (a ≡ b) ⊎ ((precedes a b ≡ true) ⊎ (precedes b a ≡ true))
one_first a b = elim (cases_order a.0 b.0) [
  | inl same ↦ elim (cases_order a.1 b.1) [
    | inl both ↦ inl (λ i. (same i, both i))
    | inr rest ↦ ⊎_elim
        (λ lt. inr (inl (or_second (nat_lt a.0 b.0) _ (and_from (a.0 == b.0) (nat_lt a.1 b.1) (eq-eqb _ _ same) (lt-ltb _ _ lt)))))
        (λ gt. inr (inr (or_second (nat_lt b.0 a.0) _ (and_from (b.0 == a.0) (nat_lt b.1 a.1) (eq-eqb _ _ (sym same)) (lt-ltb _ _ gt)))))
        rest
  ]
  | inr rest ↦ ⊎_elim
      (λ lt. inr (inl (or_first (nat_lt a.0 b.0) _ (lt-ltb _ _ lt))))
      (λ gt. inr (inr (or_first (nat_lt b.0 a.0) _ (lt-ltb _ _ gt))))
      rest
]

behind_both : (a b : ℕ × ℕ) (ws : List OwnWrite) → precedes a b ≡ true → AllBehind b ws → AllBehind a ws
behind_both a b [] lt all = tt
behind_both a b (w ∷ ws) lt all = (trans a b (object_of w) lt all.0, behind_both a b ws lt all.1)

cut_of : (w : OwnWrite) (ws : List OwnWrite) → AreOrdered (w ∷ ws) → Cut (object_of w) [] ws
cut_of w ws ordered = record { front_ordered = tt; back_ordered = ordered.1; before = tt; behind = ordered.0 }

-- the first is found
pub found_first : (w : OwnWrite) (ws : List OwnWrite) → AreOrdered (w ∷ ws) → header_of (w ∷ ws) (object_of w) ≡ Some w.header
found_first w ws ordered = here_with (cut_of w ws ordered) w refl

-- and nothing of an object before it
none_found : (o : ℕ × ℕ) (w : OwnWrite) (ws : List OwnWrite) → precedes o (object_of w) ≡ true → AreOrdered (w ∷ ws) → header_of (w ∷ ws) o ≡ None
none_found o w ws lt ordered = here_without (cut_before o w ws lt ordered)
  where
    cut_before : (o : ℕ × ℕ) (w : OwnWrite) (ws : List OwnWrite) → precedes o (object_of w) ≡ true → AreOrdered (w ∷ ws) → Cut o [] (w ∷ ws)
    cut_before o w ws lt ordered = record { front_ordered = tt; back_ordered = ordered; before = tt; behind = (lt, behind_both o (object_of w) ws lt ordered.0) }

no_header : (o : Option CellRef) (h : CellRef) → o ≡ None → o ≡ Some h → ⊥
no_header None h none some = cc
no_header (Some x) h none some = cc

pub same_writes : (xs ys : List OwnWrite) → AreOrdered xs → AreOrdered ys → ((o : ℕ × ℕ) → header_of xs o ≡ header_of ys o) → xs ≡ ys
same_writes [] [] a b same = refl
same_writes [] (y ∷ ys) a b same = absurd (no_header (header_of (y ∷ ys) (object_of y)) y.header (sym (same (object_of y))) (found_first y ys b))
same_writes (x ∷ xs) [] a b same = absurd (no_header (header_of (x ∷ xs) (object_of x)) x.header (same (object_of x)) (found_first x xs a))
same_writes (x ∷ xs) (y ∷ ys) a b same = go (one_first (object_of x) (object_of y)) (λ others. same_writes xs ys a.1 b.1 others)
  where
    go : (object_of x ≡ object_of y) ⊎ ((precedes (object_of x) (object_of y) ≡ true) ⊎ (precedes (object_of y) (object_of x) ≡ true)) →
        (((o : ℕ × ℕ) → header_of xs o ≡ header_of ys o) → xs ≡ ys) → ◌≡◌ {A = List OwnWrite} (x ∷ xs) (y ∷ ys)
    go (inl is) step =
        let found : Some x.header ≡ Some y.header = sym (found_first x xs a) ∙ same (object_of x) ∙ ap (header_of (y ∷ ys)) is ∙ found_first y ys b in
        let header : x.header ≡ y.header = cc in
        let rest : xs ≡ ys = step (λ o. elim (object_is o.0 o.1 x.class x.id) [
          | inl at ↦
              ap (header_of xs) (λ i. (at.0 i, at.1 i))
              ∙ here_without (cut_of x xs a)
              ∙ sym (here_without (cut_of y ys b))
              ∙ sym (ap (header_of ys) is)
              ∙ sym (ap (header_of ys) (λ i. (at.0 i, at.1 i)))
          | inr ne ↦ sym (others_with (object_of x) o [] xs x refl (λ e. ne e)) ∙ same o ∙ others_with (object_of y) o [] ys y refl (λ e. ne (e ∙ sym is))
        ]) in
        λ i. record { class = (is i).0; id = (is i).1; header = header i } ∷ rest i
    go (inr (inl lt)) step = absurd (no_header (header_of (x ∷ xs) (object_of x)) x.header (same (object_of x) ∙ none_found (object_of x) y ys lt b) (found_first x xs a))
    go (inr (inr gt)) step = absurd (no_header (header_of (y ∷ ys) (object_of y)) y.header (sym (same (object_of y)) ∙ none_found (object_of y) x xs gt a) (found_first y ys b))

-- without a first there is none
pub no_first : (own : List OwnWrite) → ◌≡◌ {A = Option OwnWrite} None (slice_get own 0) → own ≡ []
no_first [] e = refl
no_first (w ∷ ws) e = let none : ◌≡◌ {A = Option OwnWrite} None (Some w) = e in absurd cc

-- a list by its first
pub first_rest : (ws : List OwnWrite) (w : OwnWrite) → slice_get ws 0 ≡ Some w → ws ≡ w ∷ drop 1 ws
first_rest [] w there = absurd (let no : ◌≡◌ {A = Option OwnWrite} None (Some w) = there in cc)
first_rest (v ∷ vs) w there = let is : v ≡ w = cc in ap (λ (x : OwnWrite). x ∷ vs) is

-- what is found of the rest: nothing of the first, and of others what was found
pub gone_first : (ws : List OwnWrite) (w : OwnWrite) → AreOrdered ws → slice_get ws 0 ≡ Some w → header_of (drop 1 ws) (w.class, w.id) ≡ None
gone_first [] w ordered there = refl
gone_first (v ∷ vs) w ordered there = let is : v ≡ w = cc in subst (λ (x : OwnWrite). header_of vs (x.class, x.id) ≡ None) is (here_without (cut_of v vs ordered))

pub others_first : (ws : List OwnWrite) (w : OwnWrite) (object : ℕ × ℕ) → slice_get ws 0 ≡ Some w → object ≢ (w.class, w.id) → header_of (drop 1 ws) object ≡ header_of ws object
others_first [] w object there ne = refl
others_first (v ∷ vs) w object there ne = let is : v ≡ w = cc in sym (others_with (v.class, v.id) object [] vs v refl (λ e. ne (e ∙ (λ i. ((is i).class, (is i).id)))))

ordered_rest : (ws : List OwnWrite) → AreOrdered ws → AreOrdered (drop 1 ws)
ordered_rest [] ordered = tt
ordered_rest (w ∷ ws) ordered = ordered.1

-- a list without the object of its first is the rest of it
pub first_left : (own now : Reserved OwnWrite) (first : OwnWrite) → slice_get own.items 0 ≡ Some first → AreOrdered own.items → AreOrdered now.items → header_of now.items (first.class, first.id) ≡ None →
    ((object : ℕ × ℕ) → object ≢ (first.class, first.id) → header_of now.items object ≡ header_of own.items object) → now.room + length now.items ≡ own.room + length own.items → now ≡ without_first own
first_left own now first there ordered ordered_now here others room =
    let items : now.items ≡ drop 1 own.items = same_writes now.items (drop 1 own.items) ordered_now (ordered_rest own.items ordered) (first_gone own.items now.items first there ordered here others) in
    let longer : length own.items ≡ length (drop 1 own.items) + 1 = ap length (first_rest own.items first there) ∙ one_more (drop 1 own.items) in
    let shorter : length now.items ≡ length (drop 1 own.items) = ap length items in
    let more : now.room ≡ own.room + 1 = omega (arith, room, longer, shorter) in
    λ i. record { items = items i; room = more i }
  where
    one_more : (ws : List OwnWrite) → length (first ∷ ws) ≡ length ws + 1
    one_more ws = omega arith
