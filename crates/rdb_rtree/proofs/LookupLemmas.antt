-- What is gathered from a tree: its versions, and those whose box meets a rectangle.
use Rattle.std.proofs.Common.{◌≡◌, ◌≢◌, ◌≤◌, ◌<◌, ◌+◌, ◌-◌, ◌++◌, zero, suc, ℕ, ℤ, List, [], ◌∷◌, length, drop, map, get_or, cond, Option, Bool, true, false, refl, sym, ap, subst, ◌∙◌, arith, T, ◌&&◌}
use Rattle.std.proofs.lemmas.Bool.{false≢true}
use Rattle.std.proofs.lemmas.Int.{ints}
use Rattle.std.proofs.lemmas.List.{append_assoc, append-nil, drop_all, drop_more, length-map}
use Rattle.std.proofs.lemmas.List.Elements.{filter-append}
use Rattle.std.specs.List.{flat_map, filter}
use Rattle.std.specs.Option.{option_map_or}
use Rattle.std.specs.Prelude.{Result, Ok, Err, OnOk, unwrap_or, int_le, ◌≤ℤ◌}
use Rattle.rdb_base.specs.declared.value.Rect.{Rect}
use Rattle.rdb_pages.specs.declared.cell.CellRef.{CellRef}
use Rattle.rdb_cells.specs.Images.{Image}
use Rattle.rdb_cells.specs.Keys.{Meaning, Sayings}
use Rattle.rdb_rtree.specs.Boxes.{Each, overlaps, meets, IsProper, LiesIn, Covers}
use Rattle.rdb_rtree.specs.Changes.{entries_above}
use Rattle.rdb_rtree.specs.Lookups.{is_found, found_in, matching}
use Rattle.rdb_rtree.specs.Standing.{IsTreeAt, IsKeyedAt}
use Rattle.rdb_rtree.specs.Trees.{Node, RTree, place, versions, box, no_box, entry_of, HasProperBox, Stands, IsShaped, least_entries}
use Rattle.rdb_rtree.specs.declared.entry.Entry.{Entry}
use Rattle.rdb_rtree.proofs.BoxLemmas.{lies_further, lies_itself}
use Rattle.rdb_rtree.proofs.ListLemmas.{taken_at, got_middle, each_back, each_both, map_both}

pub on_ok : {A E : Type 0} (r : Result A E) (P Q : Type 0) → (P → Q) → OnOk r P → OnOk r Q
on_ok (Ok a) P Q so p = so p
on_ok (Err e) P Q so p = tt

-- a leaf's entries are its versions
pub leaf_versions : (h : ℕ) (ts : List (RTree h)) → h ≡ 0 → map (place h) ts ≡ flat_map (versions h) ts
leaf_versions zero [] leaf = refl
leaf_versions zero (r ∷ rs) leaf = ap (λ (qs : List CellRef). r ∷ qs) (leaf_versions zero rs leaf)
leaf_versions (suc h) ts leaf = absurd (omega arith)

-- a node below a node
pub record IsChild (image : Image) (level h : ℕ) (ts : List (RTree h)) (i : ℕ) (r : CellRef) : Type 0 where
  pub height : ℕ
  pub child : Node (RTree height)
  pub is : IsTreeAt image r (level - 1) height child
  pub part : flat_map (versions h) (drop i ts) ≡ versions (suc height) child ++ flat_map (versions h) (drop (i + 1) ts)

pub child_at : (image : Image) (at : CellRef) (level h : ℕ) (t : Node (RTree h)) → IsTreeAt image at level h t → level ≢ 0 → (refs : List CellRef) → refs ≡ map (place h) t.below → (i : ℕ) (d : CellRef) → i < length refs → IsChild image level h t.below i (get_or refs i d)
child_at image at level zero t is inner refs same i d below = absurd (inner is.level_is)
child_at image at level (suc h) t is inner refs same i d below =
    let many = ap (length {A = CellRef}) same ∙ length-map t.below (place (suc h)) in
    let low : i < length t.below = omega arith in
    let here = taken_at t.below i low in
    let one_is : get_or t.below i here.one ≡ here.one = ap (λ (ts : List (RTree (suc h))). get_or ts i here.one) here.is ∙ got_middle here.front here.one here.back i here.one here.many in
    let stand = (each_back (Stands (suc h) image) here.front (here.one ∷ here.back) (subst (Each (Stands (suc h) image)) here.is is.stands.1)).0 in
    let shown : get_or refs i d ≡ place (suc h) here.one =
    ap (λ (rs : List CellRef). get_or rs i d) (same ∙ ap (map (place (suc h))) here.is ∙ map_both (place (suc h)) here.front (here.one ∷ here.back))
    ∙ got_middle (map (place (suc h)) here.front) (place (suc h) here.one) (map (place (suc h)) here.back) i d (length-map here.front (place (suc h)) ∙ here.many) in
    let same_level = is.level_is in
    record {
      height = h;
      child = here.one;
      is = record { at_is = sym shown; level_is = omega arith; stands = stand };
      part = ap (flat_map (versions (suc h))) (drop_more t.below i here.one low ∙ ap (λ (u : RTree (suc h)). u ∷ drop (i + 1) t.below) one_is);
    }

-- and as one of its entries, by what the keys say
pub record IsKeyedChild (keys : Meaning) (said : Sayings) (image : Image) (level h : ℕ) (ts : List (RTree h)) (i : ℕ) (e : Entry) : Type 0 where
  pub height : ℕ
  pub child : Node (RTree height)
  pub is : IsKeyedAt keys said image e.at (level - 1) height child
  pub cover_is : e.cover ≡ child.cover
  pub shape : IsShaped said (suc height) least_entries child
  pub part : flat_map (versions h) (drop i ts) ≡ versions (suc height) child ++ flat_map (versions h) (drop (i + 1) ts)

pub keyed_child : (keys : Meaning) (said : Sayings) (image : Image) (at : CellRef) (level h : ℕ) (t : Node (RTree h)) → IsKeyedAt keys said image at level h t → level ≢ 0 → (entries : List Entry) → entries ≡ entries_above said h t.below → (i : ℕ) (d : Entry) → i < length entries → IsKeyedChild keys said image level h t.below i (get_or entries i d)
keyed_child keys said image at level zero t is inner entries same i d below = absurd (inner is.tree.level_is)
keyed_child keys said image at level (suc h) t is inner entries same i d below =
    let many = ap (length {A = Entry}) same ∙ length-map t.below (entry_of said (suc h)) in
    let low : i < length t.below = omega arith in
    let here = taken_at t.below i low in
    let one_is : get_or t.below i here.one ≡ here.one = ap (λ (ts : List (RTree (suc h))). get_or ts i here.one) here.is ∙ got_middle here.front here.one here.back i here.one here.many in
    let stand = (each_back (Stands (suc h) image) here.front (here.one ∷ here.back) (subst (Each (Stands (suc h) image)) here.is is.tree.stands.1)).0 in
    let shape = (each_back (IsShaped said (suc h) least_entries) here.front (here.one ∷ here.back) (subst (Each (IsShaped said (suc h) least_entries)) here.is is.shaped)).0 in
    let shown : get_or entries i d ≡ entry_of said (suc h) here.one =
    ap (λ (es : List Entry). get_or es i d) (same ∙ ap (entries_above said (suc h)) here.is ∙ map_both (entry_of said (suc h)) here.front (here.one ∷ here.back))
    ∙ got_middle (map (entry_of said (suc h)) here.front) (entry_of said (suc h) here.one) (map (entry_of said (suc h)) here.back) i d (length-map here.front (entry_of said (suc h)) ∙ here.many) in
    let same_level = is.tree.level_is in
    record {
      height = h;
      child = here.one;
      is = record { tree = record { at_is = sym (ap (λ (e : Entry). e.at) shown); level_is = omega arith; stands = stand }; says = is.says; shaped = shape.1 };
      cover_is = ap (λ (e : Entry). e.cover) shown;
      shape = shape;
      part = ap (flat_map (versions (suc h))) (drop_more t.below i here.one low ∙ ap (λ (u : RTree (suc h)). u ∷ drop (i + 1) t.below) one_is);
    }

-- what was gathered so far, and what is left
pub gather_step : (was now part rest all : List CellRef) → now ≡ was ++ part → was ++ (part ++ rest) ≡ all → now ++ rest ≡ all
gather_step was now part rest all grown whole = ap (λ (rs : List CellRef). rs ++ rest) grown ∙ append_assoc was part rest ∙ whole

pub gather_end : {X : Type 0} (f : List X → List CellRef) (xs : List X) (i : ℕ) (now all : List CellRef) → f [] ≡ [] → length xs ≤ i → now ++ f (drop i xs) ≡ all → now ≡ all
gather_end f xs i now all none past whole =
    sym (append-nil now) ∙ ap (λ (rs : List CellRef). now ++ rs) (sym none ∙ ap f (sym (drop_all i xs past))) ∙ whole

-- tests of numbers
both_true : (a b : Bool) → (a && b) ≡ true → (a ≡ true) × (b ≡ true)
both_true true true e = (refl, refl)
both_true true false e = absurd (false≢true e)
both_true false b e = absurd (false≢true e)

pub true_both : (a b : Bool) → a ≡ true → b ≡ true → (a && b) ≡ true
true_both true true first second = refl
true_both true false first second = absurd (false≢true second)
true_both false b first second = absurd (false≢true first)

le_true : (a b : ℤ) → int_le a b ≡ true → a ≤ℤ b
le_true a b e = record { le = subst T (sym e) tt }

true_when : (b : Bool) → T b → b ≡ true
true_when true t = refl
true_when false t = absurd t

pub true_le : (a b : ℤ) → a ≤ℤ b → int_le a b ≡ true
true_le a b low = true_when (int_le a b) low.le

-- what meets the rectangle overlaps it in whatever covers it
meets_over : (rect own cover : Rect) (inside : Bool) → LiesIn own cover → IsProper own → meets rect inside own ≡ true → overlaps cover rect ≡ true
meets_over rect own cover true lies proper met =
    let ways = both_true (int_le rect.x1 own.x1 && int_le own.x2 rect.x2) (int_le rect.y1 own.y1 && int_le own.y2 rect.y2) met in
    let across = both_true (int_le rect.x1 own.x1) (int_le own.x2 rect.x2) ways.0 in
    let along = both_true (int_le rect.y1 own.y1) (int_le own.y2 rect.y2) ways.1 in
    let a1 = le_true rect.x1 own.x1 across.0 in
    let a2 = le_true own.x2 rect.x2 across.1 in
    let b1 = le_true rect.y1 own.y1 along.0 in
    let b2 = le_true own.y2 rect.y2 along.1 in
    let l1 = lies.left in
    let l2 = lies.low in
    let l3 = lies.right in
    let l4 = lies.high in
    let p1 = proper.across in
    let p2 = proper.up in
    true_both (int_le cover.x1 rect.x2 && int_le rect.x1 cover.x2) (int_le cover.y1 rect.y2 && int_le rect.y1 cover.y2)
    (true_both (int_le cover.x1 rect.x2) (int_le rect.x1 cover.x2) (true_le cover.x1 rect.x2 (omega (arith, ints))) (true_le rect.x1 cover.x2 (omega (arith, ints))))
    (true_both (int_le cover.y1 rect.y2) (int_le rect.y1 cover.y2) (true_le cover.y1 rect.y2 (omega (arith, ints))) (true_le rect.y1 cover.y2 (omega (arith, ints))))
meets_over rect own cover false lies proper met =
    let ways = both_true (int_le own.x1 rect.x2 && int_le rect.x1 own.x2) (int_le own.y1 rect.y2 && int_le rect.y1 own.y2) met in
    let across = both_true (int_le own.x1 rect.x2) (int_le rect.x1 own.x2) ways.0 in
    let along = both_true (int_le own.y1 rect.y2) (int_le rect.y1 own.y2) ways.1 in
    let a1 = le_true own.x1 rect.x2 across.0 in
    let a2 = le_true rect.x1 own.x2 across.1 in
    let b1 = le_true own.y1 rect.y2 along.0 in
    let b2 = le_true rect.y1 own.y2 along.1 in
    let l1 = lies.left in
    let l2 = lies.low in
    let l3 = lies.right in
    let l4 = lies.high in
    true_both (int_le cover.x1 rect.x2 && int_le rect.x1 cover.x2) (int_le cover.y1 rect.y2 && int_le rect.y1 cover.y2)
    (true_both (int_le cover.x1 rect.x2) (int_le rect.x1 cover.x2) (true_le cover.x1 rect.x2 (omega (arith, ints))) (true_le rect.x1 cover.x2 (omega (arith, ints))))
    (true_both (int_le cover.y1 rect.y2) (int_le rect.y1 cover.y2) (true_le cover.y1 rect.y2 (omega (arith, ints))) (true_le rect.y1 cover.y2 (omega (arith, ints))))

-- a version whose box lies in a cover
pub record HasBoxIn (said : Sayings) (cover : Rect) (r : CellRef) : Type 0 where
  pub boxed : HasProperBox said r
  pub lies : LiesIn boxed.own cover

each_further : (said : Sayings) (a b : Rect) (rs : List CellRef) → LiesIn a b → Each (HasBoxIn said a) rs → Each (HasBoxIn said b) rs
each_further said a b [] within each = tt
each_further said a b (r ∷ rs) within each = (record { boxed = each.0.boxed; lies = lies_further each.0.boxed.own a b each.0.lies within }, each_further said a b rs within each.1)

-- each version of a tree has a box that lies in the tree's
module _ (said : Sayings) where
  own_box : (r : CellRef) (boxed : HasProperBox said r) → box said 0 r ≡ boxed.own
  own_box r boxed = ap (λ (o : Option Rect). unwrap_or o no_box) boxed.is

  pub all_lie : (h : ℕ) → ((t : RTree h) → IsShaped said h least_entries t → Each (HasBoxIn said (box said h t)) (versions h t)) → (ts : List (RTree h)) (cover : Rect) → Each (IsShaped said h least_entries) ts → Covers cover (map (box said h) ts) → Each (HasBoxIn said cover) (flat_map (versions h) ts)
  all_lie h one [] cover shaped covers = tt
  all_lie h one (t ∷ ts) cover shaped covers =
      each_both (HasBoxIn said cover) (versions h t) (flat_map (versions h) ts)
      (each_further said (box said h t) cover (versions h t) covers.0 (one t shaped.0))
      (all_lie h one ts cover shaped.1 covers.1)

  pub versions_lie : (h least : ℕ) (t : RTree h) → IsShaped said h least t → Each (HasBoxIn said (box said h t)) (versions h t)
  versions_lie zero least t shape = (record { boxed = shape; lies = subst (LiesIn shape.own) (sym (own_box t shape)) (lies_itself shape.own) }, tt)
  versions_lie (suc h) least t shape = all_lie h (versions_lie h least_entries) t.below t.cover shape.1 shape.0.covers.covers

  is_found_by : (rect : Rect) (inside : Bool) (r : CellRef) (boxed : HasProperBox said r) → is_found said rect inside r ≡ meets rect inside boxed.own
  is_found_by rect inside r boxed = ap (λ (o : Option Rect). option_map_or (meets rect inside) o false) boxed.is

  -- nothing is found below a node whose box doesn't overlap the rectangle
  outside : (rect : Rect) (inside : Bool) (cover : Rect) (r : CellRef) → HasBoxIn said cover r → overlaps cover rect ≡ false → is_found said rect inside r ≡ false
  outside rect inside cover r has apart = is_found_by rect inside r has.boxed ∙ by_test (meets rect inside has.boxed.own) refl
    where
      by_test : (b : Bool) → meets rect inside has.boxed.own ≡ b → b ≡ false
      by_test true met = absurd (false≢true (sym apart ∙ meets_over rect has.boxed.own cover inside has.lies has.boxed.proper met))
      by_test false met = refl

  pub none_found : (rect : Rect) (inside : Bool) (cover : Rect) (rs : List CellRef) → Each (HasBoxIn said cover) rs → overlaps cover rect ≡ false → found_in said rect inside rs ≡ []
  none_found rect inside cover [] each apart = refl
  none_found rect inside cover (r ∷ rs) each apart =
      ap (λ (b : Bool). cond b (r ∷ found_in said rect inside rs) (found_in said rect inside rs)) (outside rect inside cover r each.0 apart)
      ∙ none_found rect inside cover rs each.1 apart

  -- what is found in a leaf
  pub leaf_found : (rect : Rect) (inside : Bool) (h : ℕ) (ts : List (RTree h)) → h ≡ 0 → Each (IsShaped said h least_entries) ts → matching rect inside (entries_above said h ts) ≡ found_in said rect inside (flat_map (versions h) ts)
  leaf_found rect inside (suc h) ts leaf shaped = absurd (omega arith)
  leaf_found rect inside zero [] leaf shaped = refl
  leaf_found rect inside zero (r ∷ rs) leaf shaped =
      let tested : meets rect inside (box said 0 r) ≡ is_found said rect inside r = ap (meets rect inside) (own_box r shaped.0) ∙ sym (is_found_by rect inside r shaped.0) in
      let rest = leaf_found rect inside zero rs leaf shaped.1 in
      by_test (meets rect inside (box said 0 r)) refl tested rest
    where
      by_test : (b : Bool) → meets rect inside (box said 0 r) ≡ b → meets rect inside (box said 0 r) ≡ is_found said rect inside r → matching rect inside (entries_above said 0 rs) ≡ found_in said rect inside (flat_map (versions 0) rs) → matching rect inside (entries_above said 0 (r ∷ rs)) ≡ found_in said rect inside (flat_map (versions 0) (r ∷ rs))
      by_test true met tested rest =
          ap (λ (b : Bool). map (λ (e : Entry). e.at) (cond b (entry_of said 0 r ∷ filter (λ (e : Entry). meets rect inside e.cover) (entries_above said 0 rs)) (filter (λ (e : Entry). meets rect inside e.cover) (entries_above said 0 rs)))) met
          ∙ ap (λ (qs : List CellRef). r ∷ qs) rest
          ∙ ap (λ (b : Bool). cond b (r ∷ found_in said rect inside (flat_map (versions 0) rs)) (found_in said rect inside (flat_map (versions 0) rs))) (sym met ∙ tested)
      by_test false met tested rest =
          ap (λ (b : Bool). map (λ (e : Entry). e.at) (cond b (entry_of said 0 r ∷ filter (λ (e : Entry). meets rect inside e.cover) (entries_above said 0 rs)) (filter (λ (e : Entry). meets rect inside e.cover) (entries_above said 0 rs)))) met
          ∙ rest
          ∙ ap (λ (b : Bool). cond b (r ∷ found_in said rect inside (flat_map (versions 0) rs)) (found_in said rect inside (flat_map (versions 0) rs))) (sym met ∙ tested)

-- the step of a loop over entries, by whether the entry's box meets the rectangle
pub meeting_step : (rect : Rect) (inside : Bool) (entries : List Entry) (i : ℕ) (d : Entry) (b : Bool) → i < length entries → meets rect inside (get_or entries i d).cover ≡ b → matching rect inside (drop i entries) ≡ cond b ((get_or entries i d).at ∷ []) [] ++ matching rect inside (drop (i + 1) entries)
meeting_step rect inside entries i d b below met =
    ap (matching rect inside) (drop_more entries i d below)
    ∙ ap (λ (c : Bool). map (λ (e : Entry). e.at) (cond c (get_or entries i d ∷ filter (λ (e : Entry). meets rect inside e.cover) (drop (i + 1) entries)) (filter (λ (e : Entry). meets rect inside e.cover) (drop (i + 1) entries)))) met
    ∙ by_test b
  where
    by_test : (c : Bool) → map (λ (e : Entry). e.at) (cond c (get_or entries i d ∷ filter (λ (e : Entry). meets rect inside e.cover) (drop (i + 1) entries)) (filter (λ (e : Entry). meets rect inside e.cover) (drop (i + 1) entries))) ≡ cond c ((get_or entries i d).at ∷ []) [] ++ matching rect inside (drop (i + 1) entries)
    by_test true = refl
    by_test false = refl

-- what is found in trees side by side
pub found_both : (said : Sayings) (rect : Rect) (inside : Bool) (xs ys : List CellRef) → found_in said rect inside (xs ++ ys) ≡ found_in said rect inside xs ++ found_in said rect inside ys
found_both said rect inside xs ys = filter-append (is_found said rect inside) xs ys
