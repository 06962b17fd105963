-- The slots of a tree come in an order, and so do the objects of a class.
use Rattle.std.proofs.Common.{◌≡◌, ◌≢◌, ℕ, List, [], ◌∷◌, inl, inr, refl, sym, ap, subst, ◌∙◌}
use Rattle.std.proofs.Permutation.{which}
use Rattle.std.proofs.lemmas.Bool.{eq-eqb, ne_eqb}
use Rattle.rdb_cells.specs.Images.{Image}
use Rattle.rdb_cells.specs.Links.{IsAmong, AreOnce}
use Rattle.rdb_objects.specs.Objects.{versions_of}
use Rattle.rdb_objects.specs.Order.{outward, Comes, IsFirst, AreInOrder, ComeInOrder, objects_of}
use Rattle.rdb_objects.specs.Slots.{Path, Slot, cells_of, IsOneOf, Leads, AreSlots}
use Rattle.rdb_objects.proofs.OrderLemmas.{before_or_after, before_then, outward_back}
use Rattle.rdb_objects.proofs.ListOrder.{first_comes}
use Rattle.rdb_objects.proofs.TreeChanges.{above_by}
use Rattle.rdb_objects.proofs.TreeLemmas.{in_cells, slot_in_cell, leads_by, here_is, same_path, same_id}

pub is_first : (s : Slot) (xs : List Slot) → ((t : Slot) → IsOneOf xs t → Comes s t) → IsFirst s xs
is_first s [] all = tt
is_first s (x ∷ xs) all = (all x (inl refl), is_first s xs (λ t one. all t (inr one)))

-- these slots in order, each once
pub record IsOrdered (xs ys : List Slot) : Type 0 where
  pub in_order : AreInOrder ys
  pub to : (t : Slot) → IsOneOf xs t → IsOneOf ys t
  pub back : (t : Slot) → IsOneOf ys t → IsOneOf xs t
  pub once : AreOnce (cells_of xs) → AreOnce (cells_of ys)

insert : (s : Slot) (ys : List Slot) → AreInOrder ys → ((t : Slot) → IsOneOf ys t → ¬ (outward s.path ≡ outward t.path)) → (zs : List Slot) × IsOrdered (s ∷ ys) zs
insert s [] order apart = (s ∷ [], record { in_order = (tt, tt); to = λ t one. one; back = λ t one. one; once = λ once. once })
insert s (y ∷ ys) order apart = elim (before_or_after (outward s.path) (outward y.path)) [
  | inl same ↦ absurd (apart y (inl refl) same)
  | inr (inl before) ↦
      let first = is_first s (y ∷ ys) (λ t one. elim one [
        | inl it ↦ subst (Comes s) it before
        | inr later ↦ before_then (outward s.path) (outward y.path) (outward t.path) before (first_comes y ys order.0 t later)
      ]) in
      (s ∷ y ∷ ys, record { in_order = (first, order); to = λ t one. one; back = λ t one. one; once = λ once. once })
  | inr (inr after) ↦
      let rest = insert s ys order.1 (λ t one. apart t (inr one)) in
      let first = is_first y rest.0 (λ t one. elim (rest.1.back t one) [
        | inl it ↦ subst (Comes y) it after
        | inr later ↦ first_comes y ys order.0 t later
      ]) in (
        y ∷ rest.0,
        record {
          in_order = (first, rest.1.in_order);
          to = λ t one. elim one [
            | inl it ↦ inr (rest.1.to t (inl it))
            | inr (inl it) ↦ inl it
            | inr (inr later) ↦ inr (rest.1.to t (inr later))
          ];
          back = λ t one. elim one [
            | inl it ↦ inr (inl it)
            | inr later ↦ elim (rest.1.back t later) [ inl it ↦ inl it | inr old ↦ inr (inr old) ]
          ];
          once = λ once. (
            λ within.
                let t = slot_in_cell rest.0 y.number within in
                elim (rest.1.back t.0 t.1) [
                  | inl it ↦ once.0 (inl (sym (ap (λ (x : Slot). x.number) it ∙ t.2)))
                  | inr old ↦ once.1.0 (subst (λ (n : ℕ). IsAmong (cells_of ys) n) t.2 (in_cells ys t.0 old))
                ],
            rest.1.once (λ within. once.0 (inr within), once.1.1),
          );
        },
      )
]

sort : (xs : List Slot) → AreOnce (cells_of xs) → ((a b : Slot) → IsOneOf xs a → IsOneOf xs b → a.path ≡ b.path → a ≡ b) → (ys : List Slot) × IsOrdered xs ys
sort [] once paths = ([], record { in_order = tt; to = λ t one. one; back = λ t one. one; once = λ e. e })
sort (x ∷ xs) once paths =
    let rest = sort xs once.1 (λ a b one also. paths a b (inr one) (inr also)) in
    let whole = insert x rest.0 rest.1.in_order (λ t one same.
    let path : x.path ≡ t.path = sym (outward_back x.path) ∙ ap outward same ∙ outward_back t.path in
    let it = paths x t (inl refl) (inr (rest.1.back t one)) path in
    once.0 (subst (λ (y : Slot). IsAmong (cells_of xs) y.number) (sym it) (in_cells xs t (rest.1.back t one)))) in (
      whole.0,
      record {
        in_order = whole.1.in_order;
        to = λ t one. whole.1.to t (elim one [ inl it ↦ inl it | inr later ↦ inr (rest.1.to t later) ]);
        back = λ t one. elim (whole.1.back t one) [ inl it ↦ inl it | inr old ↦ inr (rest.1.back t old) ];
        once = λ all. whole.1.once (
          λ within.
              let t = slot_in_cell rest.0 x.number within in
              all.0 (subst (λ (n : ℕ). IsAmong (cells_of xs) n) t.2 (in_cells xs t.0 (rest.1.back t.0 t.1))),
          rest.1.once all.1,
        );
      },
    )

-- the same slots in another order are the same tree
module _ (image : Image) (class : ℕ) (xs ys : List Slot) (same : IsOrdered xs ys) (tree : AreSlots image class xs) where
  lead : (q : Path) (n : ℕ) → Leads xs q n → Leads ys q n
  lead q n = leads_by xs ys q n (λ t one at. here_is ys t q (same.to t one) at) (λ t one at. here_is xs t q (same.back t one) at)

  pub ordered_tree : AreSlots image class ys
  ordered_tree = record {
    rooted = record { cell = tree.rooted.cell; here = tree.rooted.here; kind = tree.rooted.kind; root = lead [] _ tree.rooted.root };
    each = λ s one.
        let stands = tree.each s (same.back s one) in
        record {
          some = stands.some;
          cell = stands.cell;
          here = stands.here;
          kind = stands.kind;
          fits = stands.fits;
          of_object = stands.of_object;
          newest = stands.newest;
          small = stands.small;
          ends = stands.ends;
          above = above_by xs ys s.path (λ u there place path. (u, same.to u there, refl)) stands.above;
          children = λ place child there. lead (place ∷ s.path) child.number (stands.children place child there);
        };
    once = same.once tree.once;
    ids = λ s t one also ids. tree.ids s t (same.back s one) (same.back t also) ids;
  }

-- the versions that a list of slots gives to an id
listed_there : (xs : List Slot) → ((a b : Slot) → IsOneOf xs a → IsOneOf xs b → a.id ≡ b.id → a ≡ b) → (s : Slot) → IsOneOf xs s → versions_of (objects_of xs) s.id ≡ s.versions
listed_there [] ids s one = absurd one
listed_there (x ∷ xs) ids s one = elim (which x.id s.id) [
  | inl same ↦ rw (eq-eqb x.id s.id same) (ap (λ (t : Slot). t.versions) (ids x s (inl refl) one same))
  | inr apart ↦
      rw (ne_eqb x.id s.id apart)
      (listed_there xs (λ a b first second. ids a b (inr first) (inr second)) s (elim one [ inl it ↦ absurd (apart (ap (λ (t : Slot). t.id) it)) | inr later ↦ later ]))
]

listed_nowhere : (xs : List Slot) (id : ℕ) → ((s : Slot) → IsOneOf xs s → s.id ≢ id) → versions_of (objects_of xs) id ≡ []
listed_nowhere [] id none = refl
listed_nowhere (x ∷ xs) id none = rw (ne_eqb x.id id (none x (inl refl))) (listed_nowhere xs id (λ s one. none s (inr one)))

pub come_in_order : ComeInOrder
come_in_order image class objects cells holds =
    let sorted = sort holds.slots holds.tree.once (λ a b one also at. same_path image class holds.slots holds.tree a b one also at) in
    let tree = ordered_tree image class holds.slots sorted.0 sorted.1 holds.tree in
    let ids = λ (a b : Slot) (one : IsOneOf sorted.0 a) (also : IsOneOf sorted.0 b) (same : a.id ≡ b.id). same_id image class sorted.0 tree a b one also same in (
      objects_of sorted.0,
      record {
        slots = sorted.0;
        tree = tree;
        versions = λ s one. holds.versions s (sorted.1.back s one);
        in_order = sorted.1.in_order;
        objects_are = refl;
      },
      λ id. elim (holds.objects_are.slotted id) [
        | inr slot ↦
            ap (versions_of objects) (sym slot.2) ∙ holds.objects_are.told slot.0 slot.1 ∙ sym (listed_there sorted.0 ids slot.0 (sorted.1.to slot.0 slot.1)) ∙ ap (versions_of (objects_of sorted.0)) slot.2
        | inl none ↦
            none ∙ sym (listed_nowhere sorted.0 id (λ s one same.
            (holds.versions s (sorted.1.back s one)).0 (sym (holds.objects_are.told s (sorted.1.back s one)) ∙ ap (versions_of objects) same ∙ none)))
      ],
    )
