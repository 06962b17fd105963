-- How many objects show a row, gone over in the order in which they come.
use Rattle.std.proofs.Common.{◌≡◌, ◌≢◌, ◌<◌, ◌≤◌, ◌+◌, ◌++◌, ◌⊎◌, zero, suc, ℕ, Bool, true, false, cond, List, [], ◌∷◌, length, map, take, Option, Some, None, slice_get, IsSome, is_some, sum_by, nat_eq, inl, inr, refl, sym, ap, subst, ◌∙◌, arith}
use Rattle.std.proofs.lemmas.Bool.{eq-eqb, ne_eqb}
use Rattle.std.proofs.lemmas.Bool.Decides.{nat_tests}
use Rattle.std.proofs.lemmas.List.Sums.{sum_by-cons}
use Rattle.std.specs.List.{AllByRecursion, cons_option}
use Rattle.std.specs.Option.{option_map, option_and_then}
use Rattle.rdb_base.specs.declared.value.Value.{Value}
use Rattle.rdb_pages.specs.declared.cell.CellRef.{CellRef}
use Rattle.rdb_cells.specs.Images.{Image, IsCell, AreBounded}
use Rattle.rdb_pages.specs.declared.cell.Cell.{Cell}
use Rattle.rdb_cells.specs.Links.{IsAmong, AreOnce}
use Rattle.rdb_cells.specs.References.{last_head}
use Rattle.rdb_cells.proofs.LinkLemmas.{few_below}
use Rattle.rdb_objects.specs.declared.walk.Found.{Found}
use Rattle.rdb_objects.specs.Objects.{Object as Linked, ids_of, newest_of, versions_of, HaveVersions}
use Rattle.rdb_objects.specs.Order.{ListsInOrder, object_of, objects_of, behind, told, HasObject}
use Rattle.rdb_objects.specs.Slots.{Slot, IsOneOf, cells_of}
use Rattle.rdb_objects.proofs.ObjectLemmas.{absent}
use Rattle.rdb_objects.proofs.OneTree.{same_object}
use Rattle.rdb_objects.proofs.TreeLemmas.{slot_in_cell}
use Rattle.rdb_sight.specs.Versions.{Version, Object, Marks, chain_of}
use Rattle.rdb_shown.proofs.ChainMaps.{Rises}
use Rattle.rdb_store.specs.Holds.{HoldsIn}
use Rattle.rdb_store.specs.Layouts.{Layout}
use Rattle.rdb_store.specs.Shapes.{ClassShape, nature_of_class}
use Rattle.rdb_store.specs.Stored.{ref_of, refs_of, all_linked}
use Rattle.rdb_store.proofs.Storing.{linked_versions}
use Rattle.rdb_cursor.specs.declared.marks.Reader.{Reader}
use Rattle.rdb_cursor.specs.Views.{version_of, row_of, rows_of, ref_shown, if_alive, StandsFrom}
use Rattle.rdb_cursor.proofs.Looks.{stands_from_refs}

-- Sums over the same numbers, each once
among_or_not : (ns : List ℕ) (n : ℕ) → IsAmong ns n ⊎ (¬ IsAmong ns n)
among_or_not [] n = inr (λ within. within)
among_or_not (m ∷ ms) n = go (nat_eq m n) refl (among_or_not ms n)
  where
    go : (b : Bool) → nat_eq m n ≡ b → IsAmong ms n ⊎ (¬ IsAmong ms n) → IsAmong (m ∷ ms) n ⊎ (¬ IsAmong (m ∷ ms) n)
    go true e rest = inl (inl (grind (arith, nat_tests)))
    go false e (inl within) = inl (inr within)
    go false e (inr without) = inr (λ within. elim within [ inl same ↦ (let yes = eq-eqb m n same in let t : true ≡ false = sym yes ∙ e in absurd (cc)) | inr later ↦ without later ])

take_out : (ys : List ℕ) (x : ℕ) → IsAmong ys x → (front : List ℕ) × (back : List ℕ) × (ys ≡ front ++ x ∷ back)
take_out [] x within = absurd within
take_out (y ∷ ys) x (inl same) = ([], ys, λ i. same i ∷ ys)
take_out (y ∷ ys) x (inr later) = let rest = take_out ys x later in (y ∷ rest.0, rest.1, ap (λ (l : List ℕ). y ∷ l) rest.2)

sum_out : (g : ℕ → ℕ) (front : List ℕ) (x : ℕ) (back : List ℕ) → sum_by g (front ++ x ∷ back) ≡ g x + sum_by g (front ++ back)
sum_out g [] x back = sum_by-cons g x back
sum_out g (y ∷ front) x back =
    let here = sum_by-cons g y (front ++ x ∷ back) in
    let there = sum_by-cons g y (front ++ back) in
    let rest = sum_out g front x back in
    omega arith

among_part : (front : List ℕ) (x : ℕ) (back : List ℕ) (n : ℕ) → IsAmong (front ++ x ∷ back) n → (x ≡ n) ⊎ IsAmong (front ++ back) n
among_part [] x back n (inl same) = inl same
among_part [] x back n (inr later) = inr later
among_part (y ∷ front) x back n (inl same) = inr (inl same)
among_part (y ∷ front) x back n (inr later) = elim (among_part front x back n later) [ inl same ↦ inl same | inr rest ↦ inr (inr rest) ]

among_whole : (front : List ℕ) (x : ℕ) (back : List ℕ) (n : ℕ) → IsAmong (front ++ back) n → IsAmong (front ++ x ∷ back) n
among_whole [] x back n within = inr within
among_whole (y ∷ front) x back n (inl same) = inl same
among_whole (y ∷ front) x back n (inr later) = inr (among_whole front x back n later)

once_part : (front : List ℕ) (x : ℕ) (back : List ℕ) → AreOnce (front ++ x ∷ back) → AreOnce (front ++ back) × (¬ IsAmong (front ++ back) x)
once_part [] x back once = (once.1, once.0)
once_part (y ∷ front) x back once =
    let rest = once_part front x back once.1 in (
      (λ within. once.0 (among_whole front x back y within), rest.0),
      λ within. elim within [
        | inl same ↦ once.0 (subst (λ (n : ℕ). IsAmong (front ++ x ∷ back) n) (sym same) (in_middle front x back))
        | inr later ↦ rest.1 later
      ],
    )
  where
    in_middle : (front : List ℕ) (x : ℕ) (back : List ℕ) → IsAmong (front ++ x ∷ back) x
    in_middle [] x back = inl refl
    in_middle (y ∷ front) x back = inr (in_middle front x back)

same_sum : (g : ℕ → ℕ) (xs ys : List ℕ) → AreOnce xs → AreOnce ys → ((n : ℕ) → IsAmong xs n → IsAmong ys n) → ((n : ℕ) → IsAmong ys n → IsAmong xs n) → sum_by g xs ≡ sum_by g ys
same_sum g [] [] once other there back = refl
same_sum g [] (y ∷ ys) once other there back = absurd (back y (inl refl))
same_sum g (x ∷ xs) ys once other there back =
    let out = take_out ys x (there x (inl refl)) in
    let parts = once_part out.0 x out.1 (subst AreOnce out.2 other) in
    let rest = same_sum g xs (out.0 ++ out.1) once.1 parts.0
    (λ n within. elim (among_part out.0 x out.1 n (subst (λ (l : List ℕ). IsAmong l n) out.2 (there n (inr within)))) [
      | inl same ↦ absurd (once.0 (subst (λ (k : ℕ). IsAmong xs k) (sym same) within))
      | inr later ↦ later
    ])
    (λ n within. elim (back n (subst (λ (l : List ℕ). IsAmong l n) (sym out.2) (among_whole out.0 x out.1 n within))) [
      | inl same ↦ absurd (parts.1 (subst (λ (k : ℕ). IsAmong (out.0 ++ out.1) k) (sym same) within))
      | inr later ↦ later
    ]) in
    sum_by-cons g x xs ∙ ap (λ (k : ℕ). g x + k) rest ∙ sym (ap (λ (l : List ℕ). sum_by g l) out.2 ∙ sum_out g out.0 x out.1)

-- The objects in the order in which they come
id_there : (slots : List Slot) (n : ℕ) → IsAmong (ids_of (objects_of slots)) n → (s : Slot) × IsOneOf slots s × (s.id ≡ n)
id_there [] n within = absurd within
id_there (s ∷ slots) n (inl same) = (s, inl refl, same)
id_there (s ∷ slots) n (inr later) = let rest = id_there slots n later in (rest.0, inr rest.1, rest.2)

there_id : (slots : List Slot) (s : Slot) → IsOneOf slots s → IsAmong (ids_of (objects_of slots)) s.id
there_id [] s one = absurd one
there_id (t ∷ slots) s (inl same) = inl (ap (λ (u : Slot). u.id) same)
there_id (t ∷ slots) s (inr later) = inr (there_id slots s later)

slot_cell : (slots : List Slot) (s : Slot) → IsOneOf slots s → IsAmong (cells_of slots) s.number
slot_cell [] s one = absurd one
slot_cell (t ∷ slots) s (inl same) = inl (ap (λ (u : Slot). u.number) same)
slot_cell (t ∷ slots) s (inr later) = inr (slot_cell slots s later)

slots_once : (slots : List Slot) → AreOnce (cells_of slots) → ((s t : Slot) → IsOneOf slots s → IsOneOf slots t → s.id ≡ t.id → s.number ≡ t.number) → AreOnce (ids_of (objects_of slots))
slots_once [] once ids = tt
slots_once (s ∷ slots) once ids = (
  λ within.
      let found = id_there slots s.id within in
      let same : s.number ≡ found.0.number = ids s found.0 (inl refl) (inr found.1) (sym found.2) in
      once.0 (subst (λ (n : ℕ). IsAmong (cells_of slots) n) (sym same) (slot_cell slots found.0 found.1)),
  slots_once slots once.1 (λ a b first second. ids a b (inr first) (inr second)),
)

object_at : (slots : List Slot) (k : ℕ) (o : Linked) → slice_get (objects_of slots) k ≡ Some o → (s : Slot) × IsOneOf slots s × (object_of s ≡ o)
object_at [] k o is = absurd (cc)
object_at (s ∷ slots) zero o is = (s, inl refl, (cc))
object_at (s ∷ slots) (suc k) o is = let rest = object_at slots k o is in (rest.0, inr rest.1, rest.2)

among_at : (os : List Linked) (k : ℕ) (o : Linked) → slice_get os k ≡ Some o → IsAmong (ids_of os) o.id
among_at [] k o is = absurd (cc)
among_at (p ∷ os) zero o is = inl (let same : p ≡ o = (cc) in ap (λ (q : Linked). q.id) same)
among_at (p ∷ os) (suc k) o is = inr (among_at os k o is)

-- the object behind the one at a place is at the next place
next_behind : (os : List Linked) (k : ℕ) (o : Linked) → AreOnce (ids_of os) → slice_get os k ≡ Some o → behind os o.id ≡ slice_get os (suc k)
next_behind [] k o once is = absurd (cc)
next_behind (p ∷ os) zero o once is =
    let same : p ≡ o = (cc) in
    ap (λ (b : Bool). cond b (slice_get os 0) (behind os o.id)) (eq-eqb p.id o.id (ap (λ (q : Linked). q.id) same))
next_behind (p ∷ os) (suc k) o once is =
    let apart : p.id ≢ o.id = λ same. once.0 (subst (λ (n : ℕ). IsAmong (ids_of os) n) (sym same) (among_at os k o is)) in
    ap (λ (b : Bool). cond b (slice_get os 0) (behind os o.id)) (ne_eqb p.id o.id apart) ∙ next_behind os k o once.1 is

have_at : (os : List Linked) (n : ℕ) → HaveVersions os → IsAmong (ids_of os) n → ¬ (versions_of os n ≡ [])
have_at [] n have within none = within
have_at (o ∷ os) n have within none = go (λ later nothing. have_at os n have.1 later nothing) (nat_eq o.id n) refl within
  where
    go : (IsAmong (ids_of os) n → versions_of os n ≡ [] → ⊥) → (b : Bool) → nat_eq o.id n ≡ b → IsAmong (ids_of (o ∷ os)) n → ⊥
    go rest true e w = have.0 (sym (ap (λ (b : Bool). cond b o.versions (versions_of os n)) e) ∙ none)
    go rest false e (inl same) = (let yes = eq-eqb o.id n same in let t : true ≡ false = sym yes ∙ e in absurd (cc))
    go rest false e (inr later) = rest later (sym (ap (λ (b : Bool). cond b o.versions (versions_of os n)) e) ∙ none)

-- What is shown of each object
shown_alike : (marks : Marks) (reader : Reader) (chain : List Version) → is_some (ref_shown marks reader chain) ≡ is_some (row_of marks reader chain)
shown_alike marks reader chain = go (version_of marks reader chain)
  where
    go : (o : Option Version) → is_some (option_map ref_of (option_and_then if_alive o)) ≡ is_some (option_and_then (λ (v : Version). v.row) o)
    go None = refl
    go (Some v) = by_row v.row refl
      where
        by_row : (row : Option (List Value)) → v.row ≡ row → is_some (option_map ref_of (if_alive v)) ≡ is_some v.row
        by_row None e = ap (λ (o : Option (List Value)). is_some (option_map ref_of (cond (is_some o) (Some v) None))) e ∙ sym (ap (λ (o : Option (List Value)). is_some o) e)
        by_row (Some row) e = ap (λ (o : Option (List Value)). is_some (option_map ref_of (cond (is_some o) (Some v) None))) e ∙ sym (ap (λ (o : Option (List Value)). is_some o) e)

-- 1 for an object that shows the reader a row, and 0 for another
abbrev pub one_shown : Marks → Reader → List Object → ℕ → ℕ
one_shown marks reader objects id = cond (is_some (ref_shown marks reader (chain_of objects id))) 1 0

chain_first : (o : Object) (os : List Object) → chain_of (o ∷ os) o.id ≡ o.chain
chain_first o os = ap (λ (b : Bool). cond b o.chain (chain_of os o.id)) (eq-eqb o.id o.id refl)

chain_later : (o : Object) (os : List Object) (id : ℕ) → o.id < id → chain_of (o ∷ os) id ≡ chain_of os id
chain_later o os id above = ap (λ (b : Bool). cond b o.chain (chain_of os id)) (ne_eqb o.id id (λ same. absurd (omega arith)))

sum_alike : (g h : ℕ → ℕ) (os : List Object) → AllByRecursion (λ o. g o.id ≡ h o.id) os → sum_by g (map (λ (o : Object). o.id) os) ≡ sum_by h (map (λ (o : Object). o.id) os)
sum_alike g h [] all = refl
sum_alike g h (o ∷ os) all =
    sum_by-cons g o.id (map (λ (p : Object). p.id) os) ∙ (λ i. all.0 i + sum_alike g h os all.1 i) ∙ sym (sum_by-cons h o.id (map (λ (p : Object). p.id) os))

later_ones : (marks : Marks) (reader : Reader) (o : Object) (os : List Object) (rest : List Object) → AllByRecursion (λ p. o.id < p.id) rest → AllByRecursion (λ p. one_shown marks reader (o ∷ os) p.id ≡ one_shown marks reader os p.id) rest
later_ones marks reader o os [] all = tt
later_ones marks reader o os (p ∷ ps) all = (ap (λ (c : List Version). cond (is_some (ref_shown marks reader c)) 1 0) (chain_later o os p.id all.0), later_ones marks reader o os ps all.1)

rows_long : (marks : Marks) (reader : Reader) (os : List Object) → Rises os → length (rows_of marks reader os) ≡ sum_by (one_shown marks reader os) (map (λ (o : Object). o.id) os)
rows_long marks reader [] rises = refl
rows_long marks reader (o ∷ os) rises =
    first (row_of marks reader o.chain) refl
    ∙ (λ i. here i + there (rows_long marks reader os rises.1) i)
    ∙ sym (sum_by-cons (one_shown marks reader (o ∷ os)) o.id (map (λ (p : Object). p.id) os))
  where
    first : (r : Option (List Value)) → row_of marks reader o.chain ≡ r → length (cons_option (option_map (λ (row : List Value). (o.id, row)) (row_of marks reader o.chain)) (rows_of marks reader os)) ≡ cond (is_some (row_of marks reader o.chain)) 1 0 + length (rows_of marks reader os)
    first None e = ap (λ (r : Option (List Value)). length (cons_option (option_map (λ (row : List Value). (o.id, row)) r) (rows_of marks reader os))) e ∙ (omega arith) ∙ sym (ap (λ (r : Option (List Value)). cond (is_some r) 1 0 + length (rows_of marks reader os)) e)
    first (Some row) e = ap (λ (r : Option (List Value)). length (cons_option (option_map (λ (row : List Value). (o.id, row)) r) (rows_of marks reader os))) e ∙ (omega arith) ∙ sym (ap (λ (r : Option (List Value)). cond (is_some r) 1 0 + length (rows_of marks reader os)) e)

    here : cond (is_some (row_of marks reader o.chain)) 1 0 ≡ one_shown marks reader (o ∷ os) o.id
    here = ap (λ (b : Bool). cond b 1 0) (sym (shown_alike marks reader o.chain)) ∙ sym (ap (λ (c : List Version). cond (is_some (ref_shown marks reader c)) 1 0) (chain_first o os))

    there : length (rows_of marks reader os) ≡ sum_by (one_shown marks reader os) (map (λ (p : Object). p.id) os) → length (rows_of marks reader os) ≡ sum_by (one_shown marks reader (o ∷ os)) (map (λ (p : Object). p.id) os)
    there rest = rest ∙ sym (sum_alike (one_shown marks reader (o ∷ os)) (one_shown marks reader os) os (later_ones marks reader o os os rises.0))

linked_ids : (os : List Object) → ids_of (all_linked os) ≡ map (λ (o : Object). o.id) os
linked_ids [] = refl
linked_ids (o ∷ os) = ap (λ (l : List ℕ). o.id ∷ l) (linked_ids os)

take_next : (os : List Linked) (k : ℕ) (o : Linked) → slice_get os k ≡ Some o → take (suc k) os ≡ take k os ++ o ∷ []
take_next [] k o is = absurd (cc)
take_next (p ∷ os) zero o is = let same : p ≡ o = (cc) in λ i. same i ∷ []
take_next (p ∷ os) (suc k) o is = ap (λ (l : List Linked). p ∷ l) (take_next os k o is)

take_whole : (os : List Linked) (k : ℕ) → slice_get os k ≡ None → take k os ≡ os
take_whole [] zero is = refl
take_whole [] (suc k) is = refl
take_whole (p ∷ os) zero is = absurd (cc)
take_whole (p ∷ os) (suc k) is = ap (λ (l : List Linked). p ∷ l) (take_whole os k is)

place_below : (os : List Linked) (k : ℕ) (o : Linked) → slice_get os k ≡ Some o → k < length os
place_below [] k o is = absurd (cc)
place_below (p ∷ os) zero o is = omega arith
place_below (p ∷ os) (suc k) o is = let rest = place_below os k o is in omega arith

module _ (shape : ClassShape) (image : Image) (class_of : ℕ → Option ℕ) (objects : List Object) (layout : Layout) (holds : HoldsIn (nature_of_class shape) image class_of objects layout) (rises : Rises objects) (ordered : List Linked) (lists : ListsInOrder image shape.number ordered) (marks : Marks) (reader : Reader) where
  -- how far the count has come: it is at the next object, and has counted those before it
  pub record IsCounting (k : ℕ) (next : Option Found) (count : ℕ) : Type 0 where
    pub next_is : next ≡ told (slice_get ordered k)
    pub count_is : count ≡ sum_by (λ (o : Linked). one_shown marks reader objects o.id) (take k ordered)

  pub counting_first : (next : Option Found) → next ≡ told (slice_get ordered 0) → IsCounting 0 next 0
  counting_first next is = record { next_is = is; count_is = refl }

  slot_at : (k : ℕ) (o : Linked) → slice_get ordered k ≡ Some o → (s : Slot) × IsOneOf lists.slots s × (object_of s ≡ o)
  slot_at k o is = object_at lists.slots k o (sym (ap (λ (os : List Linked). slice_get os k) lists.objects_are) ∙ is)

  -- the versions of a slot are those of its object's chain
  versions_are : (s : Slot) → IsOneOf lists.slots s → s.versions ≡ refs_of (chain_of objects s.id)
  versions_are s one =
      let t = same_object image shape.number lists.slots holds.slots.slots lists.tree holds.slots.tree lists.versions holds.slots.versions s one in
      sym t.4 ∙ sym (holds.slots.objects_are.told t.0 t.1) ∙ ap (λ (n : ℕ). versions_of (all_linked objects) n) t.3 ∙ linked_versions objects s.id

  found_of : (o : Option Linked) (found : Found) → told o ≡ Some found → (p : Linked) × (o ≡ Some p) × (found ≡ record { id = p.id; newest = newest_of p.versions })
  found_of None found is = absurd (cc)
  found_of (Some p) found is = (p, refl, (cc))

  module _ (k : ℕ) (next : Option Found) (count : ℕ) (so_far : IsCounting k next count) (found : Found) (is : next ≡ Some found) where
    at : (p : Linked) × (slice_get ordered k ≡ Some p) × (found ≡ record { id = p.id; newest = newest_of p.versions })
    at = found_of (slice_get ordered k) found (sym so_far.next_is ∙ is)

    slot : (s : Slot) × IsOneOf lists.slots s × (object_of s ≡ at.0)
    slot = slot_at k at.0 at.1

    id_is : found.id ≡ slot.0.id
    id_is = ap (λ (f : Found). f.id) at.2 ∙ sym (ap (λ (o : Linked). o.id) slot.2)

    newest_is : found.newest ≡ newest_of (refs_of (chain_of objects slot.0.id))
    newest_is = ap (λ (f : Found). f.newest) at.2 ∙ sym (ap (λ (o : Linked). newest_of o.versions) slot.2) ∙ ap newest_of (versions_are slot.0 slot.1)

    pub counting_stands : StandsFrom shape image found.newest found.id (chain_of objects found.id)
    counting_stands = subst (λ (n : ℕ). StandsFrom shape image found.newest n (chain_of objects n)) (sym id_is) (stands_from_refs shape image class_of objects layout holds slot.0.id found.newest newest_is)

    pub counting_object : HasObject image shape.number found.id
    counting_object = (
      all_linked objects,
      layout.slots,
      holds.slots,
      λ none. (lists.versions slot.0 slot.1).0 (versions_are slot.0 slot.1 ∙ sym (linked_versions objects slot.0.id) ∙ ap (λ (n : ℕ). versions_of (all_linked objects) n) (sym id_is) ∙ none),
    )

    pub counting_more : (after : Option Found) (counted : ℕ) (seen : Option CellRef) → after ≡ told (behind ordered found.id) → seen ≡ ref_shown marks reader (chain_of objects found.id) → counted ≡ count + cond (is_some seen) 1 0 → IsCounting (k + 1) after counted
    counting_more after counted seen after_is seen_is counted_is =
        let next_place : suc k ≡ k + 1 = omega arith in
        let same_id : found.id ≡ at.0.id = ap (λ (f : Found). f.id) at.2 in
        let once : AreOnce (ids_of ordered) = subst (λ (os : List Linked). AreOnce (ids_of os)) (sym lists.objects_are) (slots_once lists.slots lists.tree.once lists.tree.ids) in
        let taken : take (suc k) ordered ≡ take k ordered ++ at.0 ∷ [] = take_next ordered k at.0 at.1 in
        let whole : sum_by (λ (o : Linked). one_shown marks reader objects o.id) (take (suc k) ordered) ≡ sum_by (λ (o : Linked). one_shown marks reader objects o.id) (take k ordered) + one_shown marks reader objects at.0.id =
        ap (sum_by (λ (o : Linked). one_shown marks reader objects o.id)) taken ∙ sum_push (λ (o : Linked). one_shown marks reader objects o.id) (take k ordered) at.0 in
        let here : cond (is_some seen) 1 0 ≡ one_shown marks reader objects at.0.id = ap (λ (o : Option CellRef). cond (is_some o) 1 0) seen_is ∙ ap (one_shown marks reader objects) same_id in
        subst (λ (n : ℕ). IsCounting n after counted) next_place (record {
          next_is = after_is ∙ ap (λ (n : ℕ). told (behind ordered n)) same_id ∙ ap told (next_behind ordered k at.0 once at.1);
          count_is = (let so = so_far.count_is in omega arith);
        })
      where
        sum_push : (h : Linked → ℕ) (os : List Linked) (o : Linked) → sum_by h (os ++ o ∷ []) ≡ sum_by h os + h o
        sum_push h [] o = sum_by-cons h o [] ∙ (omega arith)
        sum_push h (p ∷ os) o = let rest = sum_push h os o in let a = sum_by-cons h p (os ++ o ∷ []) in let b = sum_by-cons h p os in omega arith

    pub counting_below : (bounded : AreBounded image class_of) → last_head ≤ k → ⊥
    counting_below bounded all =
        let below = place_below ordered k at.0 at.1 in
        let few = few_below (suc last_head) (0 ∷ cells_of lists.slots) (no_zero, lists.tree.once) numbered in
        let long : length ordered ≡ length (cells_of lists.slots) = ap (λ (os : List Linked). length os) lists.objects_are ∙ as_long lists.slots in
        absurd (omega arith)
      where
        as_long : (slots : List Slot) → length (objects_of slots) ≡ length (cells_of slots)
        as_long [] = refl
        as_long (s ∷ slots) = ap suc (as_long slots)

        no_zero : ¬ IsAmong (cells_of lists.slots) 0
        no_zero within = let found = slot_in_cell lists.slots 0 within in let some = (lists.tree.each found.0 found.1).some in let zero = found.2 in absurd (omega arith)

        numbered : (n : ℕ) → IsAmong (0 ∷ cells_of lists.slots) n → n < suc last_head
        numbered n (inl same) = omega arith
        numbered n (inr later) =
            let found = slot_in_cell lists.slots n later in
            let is_at = lists.tree.each found.0 found.1 in
            let there : IsCell image n = subst (λ (o : Option Cell). IsSome o) (sym (ap image (sym found.2) ∙ is_at.here)) refl in
            elim (bounded.numbers n there) [ inl page ↦ (let most = page.1 in omega arith) | inr head ↦ (let most = head.1 in omega arith) ]

  -- where none is left, all that show a row were counted
  pub counting_end : (k count : ℕ) → IsCounting k None count → count ≡ length (rows_of marks reader objects)
  counting_end k count so_far =
      let past : slice_get ordered k ≡ None = nothing (slice_get ordered k) so_far.next_is in
      so_far.count_is
      ∙ ap (sum_by (λ (o : Linked). one_shown marks reader objects o.id)) (take_whole ordered k past)
      ∙ by_ids (one_shown marks reader objects) ordered
      ∙ same_sum (one_shown marks reader objects) (ids_of ordered) (map (λ (o : Object). o.id) objects)
      (subst (λ (os : List Linked). AreOnce (ids_of os)) (sym lists.objects_are) (slots_once lists.slots lists.tree.once lists.tree.ids))
      (subst AreOnce (linked_ids objects) holds.slots.objects_are.once)
      there back
      ∙ sym (rows_long marks reader objects rises)
    where
      nothing : (o : Option Linked) → None ≡ told o → o ≡ None
      nothing None e = refl
      nothing (Some p) e = absurd (cc)

      by_ids : (h : ℕ → ℕ) (os : List Linked) → sum_by (λ (o : Linked). h o.id) os ≡ sum_by h (ids_of os)
      by_ids h [] = refl
      by_ids h (o ∷ os) = sum_by-cons (λ (p : Linked). h p.id) o os ∙ ap (λ (n : ℕ). h o.id + n) (by_ids h os) ∙ sym (sum_by-cons h o.id (ids_of os))

      there : (n : ℕ) → IsAmong (ids_of ordered) n → IsAmong (map (λ (o : Object). o.id) objects) n
      there n within =
          let found = id_there lists.slots n (subst (λ (os : List Linked). IsAmong (ids_of os) n) lists.objects_are within) in
          elim (among_or_not (ids_of (all_linked objects)) found.0.id) [
            | inl among ↦ subst (λ (l : List ℕ). IsAmong l n) (linked_ids objects) (subst (λ (m : ℕ). IsAmong (ids_of (all_linked objects)) m) found.2 among)
            | inr not_there ↦ absurd ((lists.versions found.0 found.1).0 (versions_are found.0 found.1 ∙ sym (linked_versions objects found.0.id) ∙ absent (all_linked objects) found.0.id not_there))
          ]

      back : (n : ℕ) → IsAmong (map (λ (o : Object). o.id) objects) n → IsAmong (ids_of ordered) n
      back n within =
          let among = subst (λ (l : List ℕ). IsAmong l n) (sym (linked_ids objects)) within in
          let have = have_at (all_linked objects) n holds.slots.objects_are.have among in
          elim (holds.slots.objects_are.slotted n) [
            | inl none ↦ absurd (have none)
            | inr slot ↦
                let t = same_object image shape.number holds.slots.slots lists.slots holds.slots.tree lists.tree holds.slots.versions lists.versions slot.0 slot.1 in
                subst (λ (os : List Linked). IsAmong (ids_of os) n) (sym lists.objects_are)
                (subst (λ (m : ℕ). IsAmong (ids_of (objects_of lists.slots)) m) (t.3 ∙ slot.2) (there_id lists.slots t.0 t.1))
          ]

  -- there are no more than cells
  pub counting_all : (k : ℕ) (next : Option Found) (count : ℕ) → IsCounting k next count → AreBounded image class_of → last_head ≤ k → count ≡ length (rows_of marks reader objects)
  counting_all k next count so_far bounded all = go next refl
    where
      go : (o : Option Found) → next ≡ o → count ≡ length (rows_of marks reader objects)
      go None e = counting_end k count (subst (λ (p : Option Found). IsCounting k p count) e so_far)
      go (Some found) e = absurd (counting_below k next count so_far found e bounded all)

pub at_most_one : (b : Bool) → cond b 1 0 ≤ 1
at_most_one true = omega arith
at_most_one false = omega arith
