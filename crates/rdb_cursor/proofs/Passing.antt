-- A seek that goes on: from place to place fewer versions are left, and there are no more than cells.
use Rattle.std.proofs.Common.{◌≡◌, ◌==◌, ◌<◌, ◌≤◌, ◌+◌, suc, ℕ, Bool, true, false, cond, List, [], ◌∷◌, length, map, filter, Option, IsSome, zero-lt-suc, suc-le-suc, inl, inr, refl, sym, ap, subst, ◌∙◌, arith, eq-eqb}
use Rattle.std.proofs.lemmas.List.Sums.{sum_by-cons}
use Rattle.std.specs.List.{Contains}
use Rattle.rdb_base.specs.declared.operation.Place.{Place}
use Rattle.rdb_base.specs.declared.operation.Reply.{Reply}
use Rattle.rdb_base.specs.declared.operation.Reply.TheVariants as reply
use Rattle.std.specs.Option.{option_map_or}
use Rattle.rdb_model.specs.Database.{Row}
use Rattle.rdb_pages.specs.declared.cell.Cell.{Cell}
use Rattle.rdb_pages.specs.declared.cell.CellRef.{CellRef}
use Rattle.rdb_cells.specs.Images.{Image, IsCell, AreBounded}
use Rattle.rdb_cells.specs.Index.{WhateverListed}
use Rattle.rdb_cells.specs.Keys.{says, times_listed}
use Rattle.rdb_cells.specs.Links.{IsAmong, AreOnce}
use Rattle.rdb_cells.specs.References.{last_head}
use Rattle.rdb_cells.proofs.LinkLemmas.{few_below}
use Rattle.rdb_sight.specs.Versions.{Object, Marks}
use Rattle.rdb_tree.specs.Lookups.{is_past}
use Rattle.rdb_model.specs.Answer.{sought}
use Rattle.rdb_model.specs.Index.{index}
use Rattle.rdb_store.specs.Classes.{AreLawful}
use Rattle.rdb_store.specs.Holds.{Holds}
use Rattle.rdb_store.specs.Shapes.{ClassShape, nature_of_class, index_at}
use Rattle.rdb_cursor.specs.declared.marks.Reader.{Reader}
use Rattle.rdb_cursor.specs.declared.seek.Step.{Step}
use Rattle.rdb_cursor.specs.declared.seek.Step.TheVariants as step
use Rattle.rdb_cursor.specs.Seeks.{CanSeekFrom, IsNearer, IsStep, sought_reply}
use Rattle.rdb_cursor.specs.Views.{CanLook, OfRows}
use Rattle.rdb_cursor.proofs.Listing.{Listing, listing_of}
use Rattle.rdb_cursor.proofs.Looks.{row_there}

kept_few : (p : CellRef → Bool) (rs : List CellRef) → length (filter p rs) ≤ length rs
kept_few p [] = omega arith
kept_few p (r ∷ rs) = go (p r) (kept_few p rs)
  where
    go : (b : Bool) → length (filter p rs) ≤ length rs → length (cond b (r ∷ filter p rs) (filter p rs)) ≤ suc (length rs)
    go true le = omega arith
    go false le = omega arith

-- what is listed once has numbers that stand once
among_times : (rs : List CellRef) (n : ℕ) → IsAmong (map (λ (r : CellRef). r.number) rs) n → 1 ≤ times_listed rs (record { number = n })
among_times [] n within = absurd within
among_times (r ∷ rs) n (inl same) =
    let more : times_listed (r ∷ rs) (record { number = n }) ≡ cond (r.number == n) 1 0 + times_listed rs (record { number = n }) = sum_by-cons (λ (x : CellRef). cond (x.number == n) 1 0) r rs in
    let one : times_listed (r ∷ rs) (record { number = n }) ≡ 1 + times_listed rs (record { number = n }) = more ∙ ap (λ (b : Bool). cond b 1 0 + times_listed rs (record { number = n })) (eq-eqb r.number n same) in
    omega arith
among_times (r ∷ rs) n (inr later) =
    let more : times_listed (r ∷ rs) (record { number = n }) ≡ cond (r.number == n) 1 0 + times_listed rs (record { number = n }) = sum_by-cons (λ (x : CellRef). cond (x.number == n) 1 0) r rs in
    let rest = among_times rs n later in
    omega arith

once_of : (rs : List CellRef) → ((r : CellRef) → Contains rs r → times_listed rs r ≤ 1) → AreOnce (map (λ (r : CellRef). r.number) rs)
once_of [] once = tt
once_of (r ∷ rs) once = (
  λ within.
      let here = once r (0, zero-lt-suc _, refl) in
      let again = among_times rs r.number within in
      let one : times_listed (r ∷ rs) r ≡ 1 + times_listed rs r = sum_by-cons (λ (x : CellRef). cond (x.number == r.number) 1 0) r rs ∙ ap (λ (b : Bool). cond b 1 0 + times_listed rs r) (eq-eqb r.number r.number refl) in
      absurd (omega arith),
  once_of rs (λ s within.
      let most = once s (suc within.0, suc-le-suc within.1, within.2) in
      let more : times_listed (r ∷ rs) s ≡ cond (r.number == s.number) 1 0 + times_listed rs s = sum_by-cons (λ (x : CellRef). cond (x.number == s.number) 1 0) r rs in
      omega arith),
)

number_of : (rs : List CellRef) (n : ℕ) → IsAmong (map (λ (r : CellRef). r.number) rs) n → (r : CellRef) × Contains rs r × (r.number ≡ n)
number_of [] n within = absurd within
number_of (r ∷ rs) n (inl same) = (r, (0, zero-lt-suc _, refl), same)
number_of (r ∷ rs) n (inr later) = let rest = number_of rs n later in (rest.0, (suc rest.1.0, suc-le-suc rest.1.1, rest.1.2), rest.2)

as_long : (rs : List CellRef) → length (map (λ (r : CellRef). r.number) rs) ≡ length rs
as_long [] = refl
as_long (r ∷ rs) = ap suc (as_long rs)

-- an index lists no more versions than there are cells
pub few_listed : (shape : ClassShape) (image : Image) (class_of : ℕ → Option ℕ) → AreBounded image class_of → (objects : List Object) (held : Holds (nature_of_class shape) image class_of objects) → AreLawful (nature_of_class shape) → (place : ℕ) (below : place < length shape.indexes)
    → length (held.1.indexes place below).listed ≤ last_head
few_listed shape image class_of bounded objects held lawful place below =
    let listed = (held.1.indexes place below).listed in
    let few = few_below (suc last_head) (0 ∷ map (λ (r : CellRef). r.number) listed) (no_zero, once) numbered in
    let long = as_long listed in
    omega arith
  where
    listing : Listing (says ((nature_of_class shape).at place).keys image) (index_at shape place).fields objects (held.1.indexes place below).listed
    listing = listing_of shape image class_of objects held.0 held.1 lawful place below

    once : AreOnce (map (λ (r : CellRef). r.number) (held.1.indexes place below).listed)
    once = once_of (held.1.indexes place below).listed (λ r within. let one = listing.once.once r within in omega arith)

    cell_there : (r : CellRef) → Contains (held.1.indexes place below).listed r → IsCell image r.number
    cell_there r within =
        let there = row_there shape image class_of objects held.0 held.1 r ((listing.exactly r).0 within) in
        subst (λ (o : Option Cell). IsSome o) (sym there.holds.header) refl

    no_zero : ¬ IsAmong (map (λ (r : CellRef). r.number) (held.1.indexes place below).listed) 0
    no_zero within =
        let found = number_of (held.1.indexes place below).listed 0 within in
        let zero_is = found.2 in
        elim (bounded.numbers found.0.number (cell_there found.0 found.1)) [ inl page ↦ (let least = page.0 in absurd (omega arith)) | inr head ↦ (let least = head.0 in absurd (omega arith)) ]

    numbered : (n : ℕ) → IsAmong (0 ∷ map (λ (r : CellRef). r.number) (held.1.indexes place below).listed) n → n < suc last_head
    numbered n (inl same) = omega arith
    numbered n (inr later) =
        let found = number_of (held.1.indexes place below).listed n later in
        let is = found.2 in
        elim (bounded.numbers found.0.number (cell_there found.0 found.1)) [ inl page ↦ (let most = page.1 in omega arith) | inr head ↦ (let most = head.1 in omega arith) ]

-- How far a seek has come
module _ (shape : ClassShape) (at : ℕ) (image : Image) (class_of : ℕ → Option ℕ) (marks : Marks) (reader : Reader) (up : Bool) where
  -- from the place that was passed last a seek finds what it finds from the first one, and fewer versions are left than there were
  pub record IsPassing (from : Place) (count : ℕ) (passed : Place) : Type 0 where
    pub fits : CanSeekFrom (nature_of_class shape) at passed
    pub same : OfRows shape image class_of marks reader (λ rows. sought passed up (index (index_at shape at).fields rows) ≡ sought from up (index (index_at shape at).fields rows))
    pub fewer : WhateverListed ((nature_of_class shape).at at).index ((nature_of_class shape).at at).keys image (λ listed nodes.
        count + length (filter (is_past (says ((nature_of_class shape).at at).keys image) passed up) listed) < length listed)

  -- a step's reply and the place that it passed to
  pub told_by : (from : Place) (s : Step) (told : Reply) → s ≡ step.Told told → IsStep shape at image class_of marks reader up from s → OfRows shape image class_of marks reader (λ rows. told ≡ sought_reply (index_at shape at).fields from up rows)
  told_by from s told is steps = subst (λ (t : Step). IsStep shape at image class_of marks reader up from t) is steps

  pub passed_by : (from : Place) (s : Step) (next : Place) → s ≡ step.Passed next → IsStep shape at image class_of marks reader up from s → IsNearer shape at image class_of marks reader up next from
  passed_by from s next is steps = subst (λ (t : Step). IsStep shape at image class_of marks reader up from t) is steps

  pub passing_first : (from next : Place) → IsNearer shape at image class_of marks reader up next from → IsPassing from 0 next
  passing_first from next near = record {
    fits = near.fits;
    same = near.same;
    fewer = λ listed nodes lists.
        let less = near.fewer listed nodes lists in
        let few = kept_few (is_past (says ((nature_of_class shape).at at).keys image) from up) listed in
        omega arith;
  }

  pub passing_more : (from passed next : Place) (count : ℕ) → IsPassing from count passed → IsNearer shape at image class_of marks reader up next passed → IsPassing from (count + 1) next
  passing_more from passed next count so_far near = record {
    fits = near.fits;
    same = λ objects held. near.same objects held ∙ so_far.same objects held;
    fewer = λ listed nodes lists.
        let less = near.fewer listed nodes lists in
        let few = so_far.fewer listed nodes lists in
        omega arith;
  }

  pub passing_told : (from passed : Place) (count : ℕ) (told : Reply) → IsPassing from count passed → OfRows shape image class_of marks reader (λ rows. told ≡ sought_reply (index_at shape at).fields passed up rows) → OfRows shape image class_of marks reader (λ rows. told ≡ sought_reply (index_at shape at).fields from up rows)
  passing_told from passed count told so_far is objects held =
      is objects held ∙ ap (λ (o : Option (Row × ℕ)). option_map_or (λ (pair : Row × ℕ). reply.At pair.0 pair.1) o reply.End) (so_far.same objects held)

  pub passing_never : (look : CanLook shape image class_of) → at < length shape.indexes → AreBounded image class_of → (from passed : Place) (count : ℕ) → IsPassing from count passed → last_head ≤ count → ⊥
  passing_never look below bounded from passed count so_far all =
      let held = look.holds.1 in
      let agrees = held.1.indexes at below in
      let few = few_listed shape image class_of bounded look.holds.0 held look.lawful at below in
      let left = so_far.fewer agrees.listed (held.0.of_index at) agrees.lists in
      absurd (omega arith)
