-- The order of slots, and a walk that looks for the next one.
use Rattle.std.proofs.Common.{◌≡◌, ◌≢◌, ◌<◌, ◌≤◌, ◌+◌, ◌⊎◌, ◌++◌, ℕ, List, [], ◌∷◌, slice_get, Option, Some, inl, inr, refl, sym, ap, subst, ◌∙◌, arith}
use Rattle.std.proofs.Permutation.{which}
use Rattle.std.specs.Option.{option_map_or}
use Rattle.std.proofs.lemmas.Bool.{cases_lt}
use Rattle.std.proofs.lemmas.List.{append-nil, append_assoc}
use Rattle.rdb_pages.specs.declared.cell.Cell.{Cell}
use Rattle.rdb_pages.specs.declared.cell.CellRef.{CellRef}
use Rattle.rdb_cells.specs.Images.{Image}
use Rattle.rdb_cells.specs.ObjectFormat.{slot_in, slot_children}
use Rattle.rdb_cells.specs.Words.{no_ref, ref_in}
use Rattle.rdb_cells.proofs.FormatLemmas.{child_there}
use Rattle.rdb_objects.specs.declared.tree.Spot.{Spot}
use Rattle.rdb_objects.specs.Order.{outward, Before, Comes, IsChildFrom, HasNoChildFrom, IsSooner, IsNext}
use Rattle.rdb_objects.specs.Slots.{Path, Slot, IsOneOf, HasSlot, Leads, HasAbove, AreSlots}
use Rattle.rdb_objects.proofs.TreeLemmas.{ancestor, led_slot, no_slot, same_path}
use Rattle.rdb_objects.proofs.WalkLemmas.{IsSought, read_child, sought_none}

-- the second goes another way than the first, by a higher place
abbrev pub Beyond : List ℕ → List ℕ → Type 0
Beyond [] us = ⊥
Beyond (p ∷ ps) [] = ⊥
Beyond (p ∷ ps) (u ∷ us) = (p < u) ⊎ ((p ≡ u) × Beyond ps us)

pub before_cases : (ps us : List ℕ) → Before ps us → ((i : ℕ) × (xs : List ℕ) × (us ≡ ps ++ i ∷ xs)) ⊎ Beyond ps us
before_cases [] [] before = absurd before
before_cases [] (u ∷ us) before = inl (u, us, refl)
before_cases (p ∷ ps) [] before = absurd before
before_cases (p ∷ ps) (u ∷ us) (inl less) = inr (inl less)
before_cases (p ∷ ps) (u ∷ us) (inr same) = elim (before_cases ps us same.1) [
  | inl down ↦ inl (down.0, down.1, ap (λ (k : ℕ). k ∷ us) (sym same.0) ∙ ap (λ (vs : List ℕ). p ∷ vs) down.2)
  | inr beyond ↦ inr (inr (same.0, beyond))
]

pub beyond_cases : (ps : List ℕ) (i : ℕ) (us : List ℕ) → Beyond (ps ++ i ∷ []) us → Beyond ps us ⊎ ((j : ℕ) × (xs : List ℕ) × (us ≡ ps ++ j ∷ xs) × (i < j))
beyond_cases [] i [] beyond = absurd beyond
beyond_cases [] i (u ∷ us) (inl less) = inr (u, us, refl, less)
beyond_cases [] i (u ∷ us) (inr none) = absurd none.1
beyond_cases (p ∷ ps) i [] beyond = absurd beyond
beyond_cases (p ∷ ps) i (u ∷ us) (inl less) = inl (inl less)
beyond_cases (p ∷ ps) i (u ∷ us) (inr same) = elim (beyond_cases ps i us same.1) [
  | inl beyond ↦ inl (inr (same.0, beyond))
  | inr down ↦ inr (down.0, down.1, ap (λ (k : ℕ). k ∷ us) (sym same.0) ∙ ap (λ (vs : List ℕ). p ∷ vs) down.2, down.3)
]

pub beyond_more : (ps qs us : List ℕ) → Beyond ps us → Beyond (ps ++ qs) us
beyond_more [] qs us beyond = absurd beyond
beyond_more (p ∷ ps) qs [] beyond = absurd beyond
beyond_more (p ∷ ps) qs (u ∷ us) (inl less) = inl less
beyond_more (p ∷ ps) qs (u ∷ us) (inr same) = inr (same.0, beyond_more ps qs us same.1)

pub beyond_beside : (ps : List ℕ) (i j : ℕ) (xs : List ℕ) → i < j → Beyond (ps ++ i ∷ []) (ps ++ j ∷ xs)
beyond_beside [] i j xs less = inl less
beyond_beside (p ∷ ps) i j xs less = inr (refl, beyond_beside ps i j xs less)

pub before_beyond : (ps us : List ℕ) → Beyond ps us → Before ps us
before_beyond [] us beyond = absurd beyond
before_beyond (p ∷ ps) [] beyond = absurd beyond
before_beyond (p ∷ ps) (u ∷ us) (inl less) = inl less
before_beyond (p ∷ ps) (u ∷ us) (inr same) = inr (same.0, before_beyond ps us same.1)

pub before_down : (ps : List ℕ) (i : ℕ) (xs : List ℕ) → Before ps (ps ++ i ∷ xs)
before_down [] i xs = tt
before_down (p ∷ ps) i xs = inr (refl, before_down ps i xs)

-- Paths from the root and back
pub outward_append : (xs ys : List ℕ) → outward (xs ++ ys) ≡ outward ys ++ outward xs
outward_append [] ys = sym (append-nil (outward ys))
outward_append (x ∷ xs) ys = ap (λ (ps : List ℕ). ps ++ x ∷ []) (outward_append xs ys) ∙ append_assoc (outward ys) (outward xs) (x ∷ [])

pub outward_back : (path : Path) → outward (outward path) ≡ path
outward_back [] = refl
outward_back (place ∷ path) = outward_append (outward path) (place ∷ []) ∙ ap (λ (ps : List ℕ). place ∷ ps) (outward_back path)

pub inward : (u path : Path) (k : ℕ) (xs : List ℕ) → outward u ≡ outward path ++ k ∷ xs → u ≡ outward xs ++ k ∷ path
inward u path k xs is =
    sym (outward_back u) ∙ ap outward is ∙ outward_append (outward path) (k ∷ xs)
    ∙ ap (λ (ps : Path). (outward xs ++ k ∷ []) ++ ps) (outward_back path) ∙ append_assoc (outward xs) (k ∷ []) path

-- what comes beyond a path: nothing, or the slot in the cell first
abbrev pub IsLater : List Slot → Path → ℕ → Type 0
IsLater slots path n = ((n ≡ 0) × ((u : Slot) → IsOneOf slots u → ¬ Beyond (outward path) (outward u.path)))
    ⊎ ((t : Slot) × IsOneOf slots t × (t.number ≡ n) × Beyond (outward path) (outward t.path) × ((u : Slot) → IsOneOf slots u → Beyond (outward path) (outward u.path) → (t ≡ u) ⊎ Comes t u))

pub later_first : (slots : List Slot) → IsLater slots [] 0
later_first slots = inl (refl, λ u one beyond. beyond)

module _ (image : Image) (class : ℕ) (slots : List Slot) (tree : AreSlots image class slots) (path : Path) (n : ℕ) (has : HasSlot slots path n) (cell : Cell) (here : image n ≡ Some cell) where
  -- a slot below begins with a child at its place
  child_above : (u : Slot) → IsOneOf slots u → (k : ℕ) (xs : List ℕ) → outward u.path ≡ outward path ++ k ∷ xs → (a : Slot) × IsOneOf slots a × (a.path ≡ k ∷ path) × (k < slot_children)
  child_above u one k xs is =
      let a = ancestor image class slots tree (outward xs) (k ∷ path) u one (inward u.path path k xs is) in
      (a.0, a.1, a.2, (subst (HasAbove slots) a.2 (tree.each a.0 a.1).above).0)

  none_from : (start end k : ℕ) → HasNoChildFrom cell start end → start ≤ k → k < end → k < slot_children → (a : Slot) → IsOneOf slots a → ¬ (a.path ≡ k ∷ path)
  none_from start end k none low high below a one at =
      let child = child_there cell k below in
      let zero_ref = none k (ref_in cell (4 + k)) low high child in
      let leads = read_child image class slots tree path n has cell here k (ref_in cell (4 + k)) child in
      no_slot image class slots tree (k ∷ path) (subst (λ (m : ℕ). Leads slots (k ∷ path) m) (ap (λ (r : CellRef). r.number) zero_ref) leads) a one at

  -- the lowest child from a place on comes before all others that begin at such a place
  module _ (start : ℕ) (j : ℕ) (child : CellRef) (low : start ≤ j) (below : j < slot_children) (is : slice_get (slot_in cell).children j ≡ Some child) (some : child.number ≢ 0) (none : HasNoChildFrom cell start j) where
    pub child_slot : HasSlot slots (j ∷ path) child.number
    child_slot = led_slot image class slots tree (j ∷ path) child.number some (read_child image class slots tree path n has cell here j child is)

    pub child_first : (u : Slot) → IsOneOf slots u → (k : ℕ) (xs : List ℕ) → start ≤ k → outward u.path ≡ outward path ++ k ∷ xs → (child_slot.slot ≡ u) ⊎ Comes child_slot.slot u
    child_first u one k xs from at =
        let a = child_above u one k xs at in
        let mine : outward child_slot.slot.path ≡ outward path ++ j ∷ [] = ap outward child_slot.there in
        elim (which j k) [
          | inl same ↦ whole xs (at ∙ ap (λ (m : ℕ). outward path ++ m ∷ xs) (sym same)) mine
          | inr apart ↦ elim (cases_lt j k) [
            | inl less ↦ inr (subst (λ (ps : List ℕ). Before ps (outward u.path)) (sym mine) (subst (λ (us : List ℕ). Before (outward path ++ j ∷ []) us) (sym at) (before_beyond (outward path ++ j ∷ []) (outward path ++ k ∷ xs) (beyond_beside (outward path) j k xs less))))
            | inr more ↦ absurd (none_from start j k none from (omega arith) a.3 a.0 a.1 a.2)
          ]
        ]
      where
        whole : (xs : List ℕ) → outward u.path ≡ outward path ++ j ∷ xs → outward child_slot.slot.path ≡ outward path ++ j ∷ [] → (child_slot.slot ≡ u) ⊎ Comes child_slot.slot u
        whole [] at mine =
            inl (same_path image class slots tree child_slot.slot u child_slot.one one (sym (outward_back child_slot.slot.path) ∙ ap outward (mine ∙ sym at) ∙ outward_back u.path))
        whole (x ∷ xs) at mine =
            let split : outward path ++ j ∷ x ∷ xs ≡ (outward path ++ j ∷ []) ++ x ∷ xs = sym (append_assoc (outward path) (j ∷ []) (x ∷ xs)) in
            inr (subst (λ (ps : List ℕ). Before ps (outward u.path)) (sym mine) (subst (λ (us : List ℕ). Before (outward path ++ j ∷ []) us) (sym (at ∙ split)) (before_down (outward path ++ j ∷ []) x xs)))

  no_number : (r : CellRef) → r ≢ no_ref → r.number ≢ 0
  no_number r some none = some (λ i. record { number = none i })

  -- one step down, to the child at a place
  pub later_more : (place : ℕ) (beside later now : CellRef) → IsChildFrom cell (place + 1) beside → IsSooner beside later now → IsLater slots path later.number → IsLater slots (place ∷ path) now.number
  later_more place beside later now child sooner was = elim child [
    | inl none ↦ elim sooner [
      | inr other ↦ absurd (other.0 none.0)
      | inl kept ↦
          let no_child = λ (u : Slot) (one : IsOneOf slots u) (j : ℕ) (xs : List ℕ) (at : outward u.path ≡ outward path ++ j ∷ xs) (less : place < j).
          (let a = child_above u one j xs at in none_from (place + 1) slot_children j none.1 (omega arith) a.3 a.3 a.0 a.1 a.2) in
          subst (λ (m : ℕ). IsLater slots (place ∷ path) m) (ap (λ (r : CellRef). r.number) (sym kept.1)) (elim was [
            | inl nothing ↦ inl (
              nothing.0,
              λ u one beyond. elim (beyond_cases (outward path) place (outward u.path) beyond) [
                | inl far ↦ nothing.1 u one far
                | inr down ↦ no_child u one down.0 down.1 down.2 down.3
              ],
            )
            | inr first ↦ inr (
              first.0,
              first.1,
              first.2,
              beyond_more (outward path) (place ∷ []) (outward first.0.path) first.3,
              λ u one beyond. elim (beyond_cases (outward path) place (outward u.path) beyond) [
                | inl far ↦ first.4 u one far
                | inr down ↦ absurd (no_child u one down.0 down.1 down.2 down.3)
              ],
            )
          ])
    ]
    | inr found ↦ elim sooner [
      | inl none ↦ absurd (found.4 (ap (λ (r : CellRef). r.number) none.0))
      | inr taken ↦
          let slot = child_slot (place + 1) found.0 beside found.1 found.2 found.3 found.4 found.5 in
          let mine : outward slot.slot.path ≡ outward path ++ found.0 ∷ [] = ap outward slot.there in
          let less : place < found.0 = (let low = found.1 in omega arith) in
          subst (λ (m : ℕ). IsLater slots (place ∷ path) m) (ap (λ (r : CellRef). r.number) (sym taken.1)) (inr (
            slot.slot,
            slot.one,
            slot.numbered,
            subst (λ (us : List ℕ). Beyond (outward path ++ place ∷ []) us) (sym mine) (beyond_beside (outward path) place found.0 [] less),
            λ u one beyond. elim (beyond_cases (outward path) place (outward u.path) beyond) [
              | inl far ↦ inr (subst (λ (ps : List ℕ). Before ps (outward u.path)) (sym mine) (before_beyond (outward path ++ found.0 ∷ []) (outward u.path) (beyond_more (outward path) (found.0 ∷ []) (outward u.path) far)))
              | inr down ↦ child_first (place + 1) found.0 beside found.1 found.2 found.3 found.4 found.5 u one down.0 down.1 (let low = down.3 in omega arith) down.2
            ],
          ))
    ]
  ]

  -- at the slot itself
  pub later_here : (below later now : CellRef) → IsChildFrom cell 0 below → IsSooner below later now → IsLater slots path later.number → IsNext slots has.slot now.number
  later_here below later now child sooner was =
      let own : outward has.slot.path ≡ outward path = ap outward has.there in
      subst (λ (ps : List ℕ). ((now.number ≡ 0) × ((u : Slot) → IsOneOf slots u → ¬ Before ps (outward u.path)))
      ⊎ ((t : Slot) × IsOneOf slots t × (t.number ≡ now.number) × Before ps (outward t.path) × ((u : Slot) → IsOneOf slots u → Before ps (outward u.path) → (t ≡ u) ⊎ Comes t u))) (sym own)
      (elim child [
        | inl none ↦ elim sooner [
          | inr other ↦ absurd (other.0 none.0)
          | inl kept ↦
              let no_child = λ (u : Slot) (one : IsOneOf slots u) (j : ℕ) (xs : List ℕ) (at : outward u.path ≡ outward path ++ j ∷ xs).
              (let a = child_above u one j xs at in none_from 0 slot_children j none.1 (omega arith) a.3 a.3 a.0 a.1 a.2) in
              let number : later.number ≡ now.number = ap (λ (r : CellRef). r.number) (sym kept.1) in
              elim was [
                | inl nothing ↦ inl (
                  sym number ∙ nothing.0,
                  λ u one before. elim (before_cases (outward path) (outward u.path) before) [
                    | inl down ↦ no_child u one down.0 down.1 down.2
                    | inr far ↦ nothing.1 u one far
                  ],
                )
                | inr first ↦ inr (
                  first.0,
                  first.1,
                  first.2 ∙ number,
                  before_beyond (outward path) (outward first.0.path) first.3,
                  λ u one before. elim (before_cases (outward path) (outward u.path) before) [
                    | inl down ↦ absurd (no_child u one down.0 down.1 down.2)
                    | inr far ↦ first.4 u one far
                  ],
                )
              ]
        ]
        | inr found ↦ elim sooner [
          | inl none ↦ absurd (found.4 (ap (λ (r : CellRef). r.number) none.0))
          | inr taken ↦
              let slot = child_slot 0 found.0 below found.1 found.2 found.3 found.4 found.5 in
              let mine : outward slot.slot.path ≡ outward path ++ found.0 ∷ [] = ap outward slot.there in
              inr (
                slot.slot,
                slot.one,
                slot.numbered ∙ ap (λ (r : CellRef). r.number) (sym taken.1),
                subst (λ (us : List ℕ). Before (outward path) us) (sym mine) (before_down (outward path) found.0 []),
                λ u one before. elim (before_cases (outward path) (outward u.path) before) [
                  | inl down ↦ child_first 0 found.0 below found.1 found.2 found.3 found.4 found.5 u one down.0 down.1 (omega arith) down.2
                  | inr far ↦ inr (subst (λ (ps : List ℕ). Before ps (outward u.path)) (sym mine) (before_beyond (outward path ++ found.0 ∷ []) (outward u.path) (beyond_more (outward path) (found.0 ∷ []) (outward u.path) far)))
                ],
              )
        ]
      ])

-- the places from one on, and one more
pub no_child_from_more : (cell : Cell) (start end : ℕ) (child : CellRef) → HasNoChildFrom cell start end → slice_get (slot_in cell).children end ≡ Some child → child ≡ no_ref → HasNoChildFrom cell start (end + 1)
no_child_from_more cell start end child before is none place other low below there = elim (which place end) [
  | inl same ↦
      let both : Some other ≡ Some child = sym there ∙ ap (slice_get (slot_in cell).children) same ∙ is in
      ap (λ (o : Option CellRef). option_map_or (λ r. r) o other) both ∙ none
  | inr apart ↦ before place other low (omega arith) there
]

pub no_child_from_all : (cell : Cell) (start end : ℕ) → slot_children ≤ end → HasNoChildFrom cell start end → HasNoChildFrom cell start slot_children
no_child_from_all cell start end far none place other low below there = none place other low (omega arith) there

-- an id that has a slot isn't lost on the way
pub not_lost : (image : Image) (class : ℕ) (slots : List Slot) (tree : AreSlots image class slots) (id count digits : ℕ) (spot : Spot) → IsSought slots id count digits spot → spot.slot.number ≡ 0 → (s : Slot) → IsOneOf slots s → s.id ≡ id → ⊥
not_lost image class slots tree id count digits spot so_far none s one same = elim (sought_none image class slots tree id count digits spot so_far none).found [
  | inl without_any ↦ without_any.1 s one same
  | inr slot ↦
      let some = (tree.each slot.0 slot.1).some in
      let is = slot.3 in
      absurd (omega arith)
]

-- Before is an order
pub before_never : (ps : List ℕ) → ¬ Before ps ps
before_never [] before = before
before_never (p ∷ ps) (inl less) = absurd (omega arith)
before_never (p ∷ ps) (inr same) = before_never ps same.1

pub before_one_way : (ps us : List ℕ) → Before ps us → ¬ Before us ps
before_one_way [] [] first second = first
before_one_way [] (u ∷ us) first second = second
before_one_way (p ∷ ps) [] first second = first
before_one_way (p ∷ ps) (u ∷ us) (inl less) (inl more) = absurd (omega arith)
before_one_way (p ∷ ps) (u ∷ us) (inl less) (inr same) = let e = same.0 in absurd (omega arith)
before_one_way (p ∷ ps) (u ∷ us) (inr same) (inl more) = let e = same.0 in absurd (omega arith)
before_one_way (p ∷ ps) (u ∷ us) (inr same) (inr also) = before_one_way ps us same.1 also.1

pub before_or_after : (ps us : List ℕ) → (ps ≡ us) ⊎ Before ps us ⊎ Before us ps
before_or_after [] [] = inl refl
before_or_after [] (u ∷ us) = inr (inl tt)
before_or_after (p ∷ ps) [] = inr (inr tt)
before_or_after (p ∷ ps) (u ∷ us) = elim (which p u) [
  | inl same ↦ elim (before_or_after ps us) [
    | inl rest ↦ inl (ap (λ (k : ℕ). k ∷ ps) same ∙ ap (λ (vs : List ℕ). u ∷ vs) rest)
    | inr (inl first) ↦ inr (inl (inr (same, first)))
    | inr (inr second) ↦ inr (inr (inr (sym same, second)))
  ]
  | inr apart ↦ elim (cases_lt p u) [
    | inl less ↦ inr (inl (inl less))
    | inr more ↦ inr (inr (inl (omega arith)))
  ]
]

pub before_then : (ps us vs : List ℕ) → Before ps us → Before us vs → Before ps vs
before_then [] [] vs first second = absurd first
before_then [] (u ∷ us) [] first second = absurd second
before_then [] (u ∷ us) (v ∷ vs) first second = tt
before_then (p ∷ ps) [] vs first second = absurd first
before_then (p ∷ ps) (u ∷ us) [] first second = absurd second
before_then (p ∷ ps) (u ∷ us) (v ∷ vs) (inl less) (inl more) = inl (omega arith)
before_then (p ∷ ps) (u ∷ us) (v ∷ vs) (inl less) (inr same) = let e = same.0 in inl (omega arith)
before_then (p ∷ ps) (u ∷ us) (v ∷ vs) (inr same) (inl more) = let e = same.0 in inl (omega arith)
before_then (p ∷ ps) (u ∷ us) (v ∷ vs) (inr same) (inr also) = inr (same.0 ∙ also.0, before_then ps us vs same.1 also.1)
