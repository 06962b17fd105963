-- The walk over a class's objects to the first version that no reader can see any more.
use Rattle.std.proofs.Common.{◌≡◌, ◌+◌, ◌<◌, ◌≤◌, ◌⊎◌, ◌++◌, ℕ, suc, List, [], ◌∷◌, length, length-append, slice_get, Option, Some, None, IsSome, inl, inr, refl, sym, ap, subst, ◌∙◌, arith, rules}
use Rattle.std.proofs.Permutation.{which}
use Rattle.std.proofs.lemmas.Bool.{eq-eqb, ne_eqb}
use Rattle.std.proofs.lemmas.List.{append-nil, append_assoc}
use Rattle.std.specs.Option.{option_map, option_map_or, option_or}
use Rattle.rdb_pages.specs.declared.cell.Cell.{Cell}
use Rattle.rdb_pages.specs.declared.cell.CellRef.{CellRef}
use Rattle.rdb_cells.specs.Images.{Image, IsCell, AreBounded}
use Rattle.rdb_cells.specs.Links.{IsAmong, AreOnce}
use Rattle.rdb_cells.specs.References.{last_head}
use Rattle.rdb_cells.proofs.LinkLemmas.{few_below}
use Rattle.rdb_objects.specs.declared.walk.Found.{Found}
use Rattle.rdb_objects.specs.Objects.{Object as Linked, ids_of, versions_of, newest_of, SameObjects}
use Rattle.rdb_objects.specs.Order.{Comes, AreInOrder, ListsInOrder, HasObject, InOrder, behind, told, objects_of, outward}
use Rattle.rdb_objects.specs.Slots.{Slot, IsOneOf, AreSlots, AreVersions, cells_of}
use Rattle.rdb_objects.proofs.ListOrder.{first_comes}
use Rattle.rdb_objects.proofs.OrderLemmas.{before_never}
use Rattle.rdb_objects.proofs.SortLemmas.{come_in_order}
use Rattle.rdb_objects.proofs.TreeLemmas.{same_id}
use Rattle.rdb_sight.specs.Versions.{Version, Object, chain_of}
use Rattle.rdb_store.specs.FirstGarbage.{IsGarbageIn, IsNoLater, IsFirstGarbage, Begins, HoldsChains, IsFirstIn, IsSooner}
use Rattle.rdb_store.specs.Stored.{refs_of, all_linked}
use Rattle.rdb_store.specs.declared.garbage.Unseen.{Unseen}
use Rattle.rdb_store.proofs.Storing.{linked_versions}

-- ---- slots, each with an id of its own

slot_among : (xs : List Slot) (n : ℕ) → IsAmong (ids_of (objects_of xs)) n → (t : Slot) × IsOneOf xs t × (t.id ≡ n)
slot_among [] n within = absurd within
slot_among (x ∷ xs) n (inl is) = (x, inl refl, is)
slot_among (x ∷ xs) n (inr later) = let t = slot_among xs n later in (t.0, inr t.1, t.2)

cell_among : (xs : List Slot) (n : ℕ) → IsAmong (cells_of xs) n → (t : Slot) × IsOneOf xs t × (t.number ≡ n)
cell_among [] n within = absurd within
cell_among (x ∷ xs) n (inl is) = (x, inl refl, is)
cell_among (x ∷ xs) n (inr later) = let t = cell_among xs n later in (t.0, inr t.1, t.2)

ids_apart : (xs : List Slot) → AreInOrder xs → ((a b : Slot) → IsOneOf xs a → IsOneOf xs b → a.id ≡ b.id → a ≡ b) → AreOnce (ids_of (objects_of xs))
ids_apart [] order ids = tt
ids_apart (x ∷ xs) order ids = (beside, ids_apart xs order.1 (λ a b one also. ids a b (inr one) (inr also)))
  where
    beside : ¬ IsAmong (ids_of (objects_of xs)) x.id
    beside within =
        let t = slot_among xs x.id within in
        let same : x ≡ t.0 = ids x t.0 (inl refl) (inr t.1) (sym t.2) in
        before_never (outward x.path) (subst (Comes x) (sym same) (first_comes x xs order.0 t.0 t.1))

length_cells : (xs : List Slot) → length (cells_of xs) ≡ length xs
length_cells [] = refl
length_cells (x ∷ xs) = ap suc (length_cells xs)

-- a tree has no more slots than there are cells
few_slots : (image : Image) (class_of : ℕ → Option ℕ) (class : ℕ) (slots : List Slot) → AreBounded image class_of → AreSlots image class slots → length slots ≤ last_head
few_slots image class_of class slots bounded tree =
    let some : ¬ IsAmong (cells_of slots) 0 = λ within. (let t = cell_among slots 0 within in let above = (tree.each t.0 t.1).some in let is = t.2 in absurd (omega arith)) in
    let below : (n : ℕ) → IsAmong (0 ∷ cells_of slots) n → n < suc last_head = λ n within. elim within [
      | inl same ↦ omega arith
      | inr later ↦
          let t = cell_among slots n later in
          let there : IsCell image n = subst (λ (o : Option Cell). IsSome o) (sym (ap image (sym t.2) ∙ (tree.each t.0 t.1).here)) (search rules) in
          elim (bounded.numbers n there) [ inl page ↦ (let most = page.1 in omega arith) | inr head ↦ (let most = head.1 in omega arith) ]
    ] in
    let few = few_below (suc last_head) (0 ∷ cells_of slots) (some, tree.once) below in
    let long = length_cells slots in
    omega arith

-- what stands at one slot among others, of which none before it has its id
ids_front : (front : List Slot) (s : Slot) (back : List Slot) → AreOnce (ids_of (objects_of (front ++ s ∷ back))) → ¬ IsAmong (ids_of (objects_of front)) s.id
ids_front [] s back once within = within
ids_front (x ∷ xs) s back once (inl is) = once.0 (there xs s back x.id is)
  where
    there : (xs : List Slot) (s : Slot) (back : List Slot) (n : ℕ) → n ≡ s.id → IsAmong (ids_of (objects_of (xs ++ s ∷ back))) n
    there [] s back n is = inl (sym is)
    there (x ∷ xs) s back n is = inr (there xs s back n is)
ids_front (x ∷ xs) s back once (inr later) = ids_front xs s back once.1 later

behind_there : (front : List Slot) (s : Slot) (back : List Slot) → (¬ IsAmong (ids_of (objects_of front)) s.id) → behind (objects_of (front ++ s ∷ back)) s.id ≡ slice_get (objects_of back) 0
behind_there [] s back beside = rw (eq-eqb s.id s.id refl) refl
behind_there (x ∷ xs) s back beside = rw (ne_eqb x.id s.id (λ is. beside (inl is))) (behind_there xs s back (λ later. beside (inr later)))

versions_there : (front : List Slot) (s : Slot) (back : List Slot) → (¬ IsAmong (ids_of (objects_of front)) s.id) → versions_of (objects_of (front ++ s ∷ back)) s.id ≡ s.versions
versions_there [] s back beside = rw (eq-eqb s.id s.id refl) refl
versions_there (x ∷ xs) s back beside = rw (ne_eqb x.id s.id (λ is. beside (inl is))) (versions_there xs s back (λ later. beside (inr later)))

one_there : (front : List Slot) (s : Slot) (back : List Slot) → IsOneOf (front ++ s ∷ back) s
one_there [] s back = inl refl
one_there (x ∷ xs) s back = inr (one_there xs s back)

among_or_none : (xs : List Slot) (id : ℕ) → IsAmong (ids_of (objects_of xs)) id ⊎ (versions_of (objects_of xs) id ≡ [])
among_or_none [] id = inr refl
among_or_none (x ∷ xs) id = elim (which x.id id) [
  | inl same ↦ inl (inl same)
  | inr apart ↦ elim (among_or_none xs id) [
    | inl later ↦ inl (inr later)
    | inr none ↦ inr (rw (ne_eqb x.id id apart) none)
  ]
]

ids_more : (front : List Slot) (s : Slot) (n : ℕ) → IsAmong (ids_of (objects_of (front ++ s ∷ []))) n → IsAmong (ids_of (objects_of front)) n ⊎ (s.id ≡ n)
ids_more [] s n (inl is) = inr is
ids_more [] s n (inr none) = absurd none
ids_more (x ∷ xs) s n (inl is) = inl (inl is)
ids_more (x ∷ xs) s n (inr later) = elim (ids_more xs s n later) [ inl before ↦ inl (inr before) | inr is ↦ inr is ]

-- ---- the first among the objects that were passed

abbrev pub IsFirstAmong : Option ℕ → List Object → List Slot → Option Unseen → Type 0
IsFirstAmong floor held front None = (id commit header : ℕ) → IsAmong (ids_of (objects_of front)) id → ¬ IsGarbageIn floor (chain_of held id) commit header
IsFirstAmong floor held front (Some best) =
    IsGarbageIn floor (chain_of held best.id) best.commit best.version.number
    × ((other later there : ℕ) → IsAmong (ids_of (objects_of front)) other → IsGarbageIn floor (chain_of held other) later there → IsNoLater best.id best.commit other later)

module _ (floor : Option ℕ) (held : List Object) (front : List Slot) (s : Slot) where
  here_is : (n : ℕ) → s.id ≡ n → (k header : ℕ) → IsGarbageIn floor (chain_of held n) k header → IsGarbageIn floor (chain_of held s.id) k header
  here_is n is k header garbage = subst (λ (m : ℕ). IsGarbageIn floor (chain_of held m) k header) (sym is) garbage

  -- where none was found before
  first_alone : (found : Option Unseen) → IsFirstAmong floor held front None → IsFirstIn floor (chain_of held s.id) s.id found → IsFirstAmong floor held (front ++ s ∷ []) found
  first_alone None none first = λ id k header within garbage. elim (ids_more front s id within) [
    | inl before ↦ none id k header before garbage
    | inr is ↦ first k header (here_is id is k header garbage)
  ]
  first_alone (Some best) none first = (
    subst (λ (m : ℕ). IsGarbageIn floor (chain_of held m) best.commit best.version.number) (sym first.0) first.1,
    λ other later there within garbage. elim (ids_more front s other within) [
      | inl before ↦ absurd (none other later there before garbage)
      | inr is ↦ inr (first.0 ∙ is, first.2 later there (here_is other is later there garbage))
    ],
  )

  -- where the one that was found before is of an object with a lesser id
  first_kept : (best : Unseen) → best.id < s.id → IsFirstAmong floor held front (Some best) → IsFirstAmong floor held (front ++ s ∷ []) (Some best)
  first_kept best less first = (
    first.0,
    λ other later there within garbage. elim (ids_more front s other within) [
      | inl before ↦ first.1 other later there before garbage
      | inr is ↦ inl (omega arith)
    ],
  )

  first_other : (best : Unseen) (found : Option Unseen) → s.id ≤ best.id → IsFirstAmong floor held front (Some best) → IsFirstIn floor (chain_of held s.id) s.id found → IsFirstAmong floor held (front ++ s ∷ []) (option_or found (Some best))
  first_other best None le first none = (
    first.0,
    λ other later there within garbage. elim (ids_more front s other within) [
      | inl before ↦ first.1 other later there before garbage
      | inr is ↦ absurd (none later there (here_is other is later there garbage))
    ],
  )
  first_other best (Some one) le first there_first = (
    subst (λ (m : ℕ). IsGarbageIn floor (chain_of held m) one.commit one.version.number) (sym there_first.0) there_first.1,
    λ other later there within garbage. elim (which s.id other) [
      | inl is ↦ inr (there_first.0 ∙ is, there_first.2 later there (here_is other is later there garbage))
      | inr apart ↦ elim (ids_more front s other within) [
        | inr is ↦ absurd (apart is)
        | inl before ↦
            let id_is = there_first.0 in
            elim (first.1 other later there before garbage) [
              | inl less ↦ inl (omega arith)
              | inr same ↦ let at = same.0 in inl (omega arith)
            ]
      ]
    ],
  )

  pub first_now : (before result : Option Unseen) → IsFirstAmong floor held front before → IsSooner floor (chain_of held s.id) s.id before result → IsFirstAmong floor held (front ++ s ∷ []) result
  first_now None result first sooner = first_alone result first sooner
  first_now (Some best) result first (inl kept) = subst (IsFirstAmong floor held (front ++ s ∷ [])) (sym kept.1) (first_kept best kept.0 first)
  first_now (Some best) result first (inr other) = subst (IsFirstAmong floor held (front ++ s ∷ [])) (sym other.3) (first_other best other.1 other.0 first other.2)

-- ---- the walk

no_split : (chain : List Version) → refs_of chain ≡ [] → (newer : List Version) (v : Version) (older : List Version) → chain ≡ newer ++ v ∷ older → ⊥
no_split [] none [] v older e = absurd (cc)
no_split [] none (n ∷ ns) v older e = absurd (cc)
no_split (w ∷ ws) none newer v older e = absurd (cc)

-- so many slots were passed
pub record IsGoing (floor : Option ℕ) (held : List Object) (slots : List Slot) (count : ℕ) (next : Option Found) (found : Option Unseen) : Type 0 where
  pub front : List Slot
  pub back : List Slot
  pub split : slots ≡ front ++ back
  pub many : length front ≡ count
  pub here : next ≡ told (slice_get (objects_of back) 0)
  pub first : IsFirstAmong floor held front found

module _ (image : Image) (class : ℕ) (floor : Option ℕ) (held : List Object) (holds : HoldsChains image class held) where
  pub ordered : (objects : List Linked) × ListsInOrder image class objects × SameObjects (all_linked held) objects
  ordered = come_in_order image class (all_linked held) holds.cells holds.slots

  abbrev pub lists : ListsInOrder image class ordered.0
  lists = ordered.1

  abbrev pub slots_in_order : List Slot
  slots_in_order = ordered.1.slots

  once : AreOnce (ids_of (objects_of slots_in_order))
  once = ids_apart lists.slots lists.in_order (λ a b one also same. same_id image class lists.slots lists.tree a b one also same)

  same_versions : (id : ℕ) → versions_of (objects_of slots_in_order) id ≡ refs_of (chain_of held id)
  same_versions id = ap (λ (os : List Linked). versions_of os id) (sym lists.objects_are) ∙ sym (ordered.2 id) ∙ linked_versions held id

  pub going_first : (next : Option Found) → InOrder image class (λ objects. next ≡ told (slice_get objects 0)) → IsGoing floor held slots_in_order 0 next None
  going_first next first = record {
    front = [];
    back = slots_in_order;
    split = refl;
    many = refl;
    here = first ordered.0 lists ∙ ap (λ (os : List Linked). told (slice_get os 0)) lists.objects_are;
    first = λ id commit header none. absurd none;
  }

  module _ (count : ℕ) (next : Option Found) (found : Option Unseen) (going : IsGoing floor held slots_in_order count next found) where
    -- the slot of the object that is passed next
    pub record IsAt (object : Found) : Type 0 where
      pub slot : Slot
      pub others : List Slot
      pub back_is : going.back ≡ slot ∷ others
      pub id_is : object.id ≡ slot.id
      pub newest_is : object.newest ≡ newest_of slot.versions

    next_at : (object : Found) → next ≡ Some object → IsAt object
    next_at object is = go going.back refl (sym is ∙ going.here)
      where
        go : (back : List Slot) → going.back ≡ back → Some object ≡ told (slice_get (objects_of back) 0) → IsAt object
        go [] e there = absurd (cc)
        go (s ∷ ss) e there =
            let same : object ≡ record { id = s.id; newest = newest_of s.versions } = ap (λ (o : Option Found). option_map_or (λ f. f) o object) there in
            record { slot = s; others = ss; back_is = e; id_is = ap (λ (f : Found). f.id) same; newest_is = ap (λ (f : Found). f.newest) same }

    module _ (object : Found) (is : next ≡ Some object) where
      pub at : IsAt object
      at = next_at object is

      whole : slots_in_order ≡ going.front ++ at.slot ∷ at.others
      whole = going.split ∙ ap (λ (l : List Slot). going.front ++ l) at.back_is

      beside : ¬ IsAmong (ids_of (objects_of going.front)) at.slot.id
      beside = ids_front going.front at.slot at.others (subst (λ (l : List Slot). AreOnce (ids_of (objects_of l))) whole once)

      versions_are : at.slot.versions ≡ refs_of (chain_of held at.slot.id)
      versions_are =
          sym (versions_there going.front at.slot at.others beside)
          ∙ ap (λ (l : List Slot). versions_of (objects_of l) at.slot.id) (sym whole)
          ∙ same_versions at.slot.id

      one : IsOneOf slots_in_order at.slot
      one = subst (λ (l : List Slot). IsOneOf l at.slot) (sym whole) (one_there going.front at.slot at.others)

      pub begins_there : Begins image object.newest (chain_of held at.slot.id)
      begins_there = record {
        id = at.slot.id;
        versions = subst (AreVersions image at.slot.id) versions_are (lists.versions at.slot one).1;
        is_chain = holds.chains at.slot.id;
        newest_is = at.newest_is ∙ ap newest_of versions_are;
      }

      pub some_chain : (chain : List Version) × Begins image object.newest chain
      some_chain = (chain_of held at.slot.id, begins_there)

      pub has_object : HasObject image class object.id
      has_object = (
        all_linked held,
        holds.cells,
        holds.slots,
        λ none. (lists.versions at.slot one).0 (
            versions_are ∙ sym (linked_versions held at.slot.id) ∙ ap (versions_of (all_linked held)) (sym at.id_is) ∙ none),
      )

      pub going_on : (later : Option Found) (now : Option Unseen) → InOrder image class (λ objects. later ≡ told (behind objects object.id)) → ((chain : List Version) → Begins image object.newest chain → IsSooner floor chain object.id found now) → IsGoing floor held slots_in_order (count + 1) later now
      going_on later now behind_it sooner = record {
        front = going.front ++ at.slot ∷ [];
        back = at.others;
        split = whole ∙ sym (append_assoc going.front (at.slot ∷ []) at.others);
        many = let many = going.many in length-append going.front (at.slot ∷ []) ∙ omega arith;
        here = behind_it ordered.0 lists ∙ ap told (
            ap (λ (os : List Linked). behind os object.id) lists.objects_are
            ∙ ap (λ (l : List Slot). behind (objects_of l) object.id) whole
            ∙ ap (behind (objects_of (going.front ++ at.slot ∷ at.others))) at.id_is
            ∙ behind_there going.front at.slot at.others beside);
        first = first_now floor held going.front at.slot found now going.first
            (subst (λ (n : ℕ). IsSooner floor (chain_of held at.slot.id) n found now) at.id_is (sooner (chain_of held at.slot.id) begins_there));
      }

    ended : going.back ≡ [] → (result : Option CellRef) → result ≡ option_map (λ unseen. unseen.version) found → IsFirstGarbage floor held result
    ended none result is = subst (IsFirstGarbage floor held) (sym is) (go found going.first)
      where
        all : slots_in_order ≡ going.front
        all = going.split ∙ ap (λ (l : List Slot). going.front ++ l) none ∙ append-nil going.front

        within : (id commit header : ℕ) → IsGarbageIn floor (chain_of held id) commit header → IsAmong (ids_of (objects_of going.front)) id
        within id commit header garbage = elim (among_or_none going.front id) [
          | inl there ↦ there
          | inr none_there ↦
              let none_held : refs_of (chain_of held id) ≡ [] = sym (same_versions id) ∙ ap (λ (l : List Slot). versions_of (objects_of l) id) all ∙ none_there in
              absurd (no_split (chain_of held id) none_held garbage.newer garbage.version garbage.older garbage.split)
        ]

        go : (o : Option Unseen) → IsFirstAmong floor held going.front o → IsFirstGarbage floor held (option_map (λ unseen. unseen.version) o)
        go None first = λ id commit header garbage. first id commit header (within id commit header garbage) garbage
        go (Some best) first = record {
          id = best.id;
          commit = best.commit;
          garbage = first.0;
          first = λ other later there garbage. first.1 other later there (within other later there garbage) garbage;
        }

    pub ends_at_none : next ≡ None → (result : Option CellRef) → result ≡ option_map (λ unseen. unseen.version) found → IsFirstGarbage floor held result
    ends_at_none none = ended (go going.back (sym none ∙ going.here))
      where
        go : (back : List Slot) → None ≡ told (slice_get (objects_of back) 0) → back ≡ []
        go [] there = refl
        go (s ∷ ss) there = absurd (cc)

    pub ends_at_most : (class_of : ℕ → Option ℕ) → AreBounded image class_of → last_head ≤ count → (result : Option CellRef) → result ≡ option_map (λ unseen. unseen.version) found → IsFirstGarbage floor held result
    ends_at_most class_of bounded most = ended (go going.back (ap (λ (l : List Slot). length l) going.split ∙ length-append going.front going.back))
      where
        short : length slots_in_order ≤ last_head
        short = few_slots image class_of class lists.slots bounded lists.tree

        go : (back : List Slot) → length slots_in_order ≡ length going.front + length back → back ≡ []
        go [] long = refl
        go (s ∷ ss) long = let many = going.many in let few = short in absurd (omega arith)
