-- The search for a version that is to go: the place of an entry, what no box shows, and the trees below a node one after another.
use Rattle.std.proofs.Common.{◌≡◌, ◌≢◌, ◌<◌, ◌≤◌, ◌-◌, ◌+◌, ◌*◌, ◌++◌, ◌&&◌, zero, suc, ℕ, List, [], ◌∷◌, length, drop, map, get_or, cond, Option, Some, None, Bool, true, false, not, refl, sym, ap, subst, ◌∙◌, arith, ltb}
use Rattle.std.proofs.lemmas.Bool.{false≢true, ltb-true, ltb-false}
use Rattle.std.proofs.lemmas.List.{drop_all, drop_more, length-map}
use Rattle.std.specs.List.{flat_map, remove, prefix_len, position_or_len, Contains}
use Rattle.std.specs.Prelude.{◌==◌, IfSome, IfNone, position, int_le, unwrap_or}
use borrow.Author.Tests.{eqb-true, eqb-false}
use Rattle.rdb_base.specs.declared.value.Rect.{Rect}
use Rattle.rdb_pages.specs.declared.cell.CellRef.{CellRef}
use Rattle.rdb_cells.specs.Images.{Image}
use Rattle.rdb_cells.specs.Keys.{Meaning, Sayings, RestsOnVersions}
use Rattle.rdb_cells.specs.Work.{Work, reading}
use Rattle.rdb_rtree.specs.Boxes.{Each, lies_in, LiesIn}
use Rattle.rdb_rtree.specs.Changes.{HasPlaces, versions_below, entries_above, AreOthers, AreElsewhere, IsShrinking, HasShrunk, IsToMend, IsMended}
use Rattle.rdb_rtree.specs.Trees.{Node, RTree, box, box_at, no_box, versions, entry_of, IsShaped, least_entries}
use Rattle.rdb_rtree.specs.declared.entry.Entry.{Entry}
use Rattle.rdb_rtree.proofs.ChosenLemmas.{pick}
use Rattle.rdb_rtree.proofs.ListLemmas.{taken_at, got_middle, map_both, each_both}
use Rattle.rdb_rtree.proofs.LookupLemmas.{HasBoxIn, all_lie, versions_lie, true_both, true_le}
use Rattle.rdb_rtree.proofs.ShrinkLemmas.{child_shrinking, child_mends, mid_room, shrunk_inner}

pub some_also : {A : Type 0} (o : Option A) (P Q : A → Type 0) → ((a : A) → P a → Q a) → IfSome o P → IfSome o Q
some_also None P Q so p = tt
some_also (Some a) P Q so p = so a p

pub none_also : {A : Type 0} (o : Option A) (P Q : Type 0) → (P → Q) → IfNone o P → IfNone o Q
none_also None P Q so p = so p
none_also (Some a) P Q so p = tt

pub each_member : {X : Type 0} (P : X → Type 0) (xs : List X) (x : X) → Each P xs → Contains xs x → P x
each_member P [] x all (k, below, is) = absurd (omega arith)
each_member P (y ∷ ys) x all (zero, below, is) = subst P is all.0
each_member P (y ∷ ys) x all (suc k, below, is) = each_member P ys x all.1 (k, omega arith, is)

-- what an answer says in its case
pub some_at : {A : Type 0} (o : Option A) (P : A → Type 0) (a : A) → o ≡ Some a → IfSome o P → P a
some_at o P a same p = subst (λ (q : Option _). IfSome q P) same p

pub none_at : {A : Type 0} (o : Option A) (P : Type 0) → o ≡ None → IfNone o P → P
none_at o P same p = subst (λ (q : Option _). IfNone q P) same p

same_got : (xs : List Entry) (i : ℕ) (d e : Entry) → i < length xs → get_or xs i d ≡ get_or xs i e
same_got [] i d e low = absurd (omega arith)
same_got (x ∷ xs) zero d e low = refl
same_got (x ∷ xs) (suc i) d e low = same_got xs i d e (omega arith)

-- the first element that fails a test
first_fails : {X : Type 0} (q : X → Bool) (xs : List X) (d : X) → prefix_len q xs < length xs → q (get_or xs (prefix_len q xs) d) ≡ false
first_fails q [] d below = absurd (omega arith)
first_fails {X} q (x ∷ xs) d below = go (q x) refl below (first_fails q xs d)
  where
    go : (b : Bool) → q x ≡ b → cond b (1 + prefix_len q xs) 0 < suc (length xs) → (prefix_len q xs < length xs → q (get_or xs (prefix_len q xs) d) ≡ false) → q (get_or (x ∷ xs) (cond b (1 + prefix_len q xs) 0) d) ≡ false
    go true e low later =
        let next : suc (prefix_len q xs) ≡ 1 + prefix_len q xs = omega arith in
        subst (λ (k : ℕ). q (get_or (x ∷ xs) k d) ≡ false) next (later (omega arith))
    go false e low later = e

all_pass : {X : Type 0} (q : X → Bool) (xs : List X) → length xs ≤ prefix_len q xs → Each (λ x. q x ≡ true) xs
all_pass q [] long = tt
all_pass {X} q (x ∷ xs) long = go (q x) refl long (all_pass q xs)
  where
    go : (b : Bool) → q x ≡ b → suc (length xs) ≤ cond b (1 + prefix_len q xs) 0 → (length xs ≤ prefix_len q xs → Each (λ y. q y ≡ true) xs) → (q x ≡ true) × Each (λ y. q y ≡ true) xs
    go true e high later = (e, later (omega arith))
    go false e high later = absurd (omega arith)

-- what a test doesn't say of an element
not_false : (b : Bool) → not b ≡ false → b ≡ true
not_false true e = refl
not_false false e = absurd (false≢true (sym e))

not_true : (b : Bool) → not b ≡ true → b ≡ false
not_true true e = absurd (false≢true e)
not_true false e = refl

-- the place that was found is that of an entry in the cell
pub found_entry : (entries : List Entry) (at : CellRef) (place : ℕ) (d : Entry) → Some place ≡ position (λ (e : Entry). e.at.number == at.number) entries → (place < length entries) × ((get_or entries place d).at.number ≡ at.number)
found_entry entries at place d e = go (ltb (position_or_len (λ (x : Entry). x.at.number == at.number) entries) (length entries)) refl
  where
    go : (b : Bool) → ltb (position_or_len (λ (x : Entry). x.at.number == at.number) entries) (length entries) ≡ b → (place < length entries) × ((get_or entries place d).at.number ≡ at.number)
    go true t =
        let there : Some place ≡ Some (position_or_len (λ (x : Entry). x.at.number == at.number) entries) = e ∙ ap (λ (b : Bool). cond b (Some (position_or_len (λ (x : Entry). x.at.number == at.number) entries)) None) t in
        let is : place ≡ position_or_len (λ (x : Entry). x.at.number == at.number) entries = cc in
        let low : position_or_len (λ (x : Entry). x.at.number == at.number) entries < length entries = ltb-true (position_or_len (λ (x : Entry). x.at.number == at.number) entries) (length entries) t in (
          subst (λ (i : ℕ). i < length entries) (sym is) low,
          subst (λ (i : ℕ). (get_or entries i d).at.number ≡ at.number) (sym is)
              (eqb-true (get_or entries (position_or_len (λ (x : Entry). x.at.number == at.number) entries) d).at.number at.number
              (not_false ((get_or entries (position_or_len (λ (x : Entry). x.at.number == at.number) entries) d).at.number == at.number)
              (first_fails (λ (x : Entry). not (x.at.number == at.number)) entries d low))),
        )
    go false t = absurd (let none : Some place ≡ None = e ∙ ap (λ (b : Bool). cond b (Some (position_or_len (λ (x : Entry). x.at.number == at.number) entries)) None) t in cc)

each_elsewhere : (entries : List Entry) (at : CellRef) → Each (λ (x : Entry). not (x.at.number == at.number) ≡ true) entries → AreElsewhere at entries
each_elsewhere [] at all = tt
each_elsewhere (x ∷ xs) at all = (eqb-false x.at.number at.number (not_true (x.at.number == at.number) all.0), each_elsewhere xs at all.1)

pub no_entry : (entries : List Entry) (at : CellRef) → None ≡ position (λ (e : Entry). e.at.number == at.number) entries → AreElsewhere at entries
no_entry entries at e = go (ltb (position_or_len (λ (x : Entry). x.at.number == at.number) entries) (length entries)) refl
  where
    go : (b : Bool) → ltb (position_or_len (λ (x : Entry). x.at.number == at.number) entries) (length entries) ≡ b → AreElsewhere at entries
    go true t = absurd (let none : None ≡ Some (position_or_len (λ (x : Entry). x.at.number == at.number) entries) = e ∙ ap (λ (b : Bool). cond b (Some (position_or_len (λ (x : Entry). x.at.number == at.number) entries)) None) t in cc)
    go false t =
        let long : length entries ≤ position_or_len (λ (x : Entry). x.at.number == at.number) entries = ltb-false (position_or_len (λ (x : Entry). x.at.number == at.number) entries) (length entries) t in
        each_elsewhere entries at (all_pass (λ (x : Entry). not (x.at.number == at.number)) entries long)

-- a leaf none of whose entries stands in the cell
pub leaf_others : (said : Sayings) (at : CellRef) (h : ℕ) (ts : List (RTree h)) → h ≡ 0 → AreElsewhere at (entries_above said h ts) → AreOthers at (versions_below h ts)
leaf_others said at (suc h) ts leaf all = absurd (omega arith)
leaf_others said at zero [] leaf all = tt
leaf_others said at zero (r ∷ rs) leaf all = (all.0, leaf_others said at zero rs leaf all.1)

-- a box that lies in another one
lies_true : (a b : Rect) → LiesIn a b → lies_in a b ≡ true
lies_true a b lies =
    true_both (int_le b.x1 a.x1 && int_le a.x2 b.x2) (int_le b.y1 a.y1 && int_le a.y2 b.y2)
    (true_both (int_le b.x1 a.x1) (int_le a.x2 b.x2) (true_le b.x1 a.x1 lies.left) (true_le a.x2 b.x2 lies.right))
    (true_both (int_le b.y1 a.y1) (int_le a.y2 b.y2) (true_le b.y1 a.y1 lies.low) (true_le a.y2 b.y2 lies.high))

-- a version whose box doesn't lie in a tree's isn't the tree's
module _ (said : Sayings) (lost : Entry) (lost_is : lost ≡ entry_of said 0 lost.at) (cover : Rect) (out : lies_in lost.cover cover ≡ false) where
  one_other : (r : CellRef) → HasBoxIn said cover r → r.number ≢ lost.at.number
  one_other r has same =
      let same_ref : r ≡ lost.at = λ i. record { number = same i } in
      let own : lost.cover ≡ has.boxed.own = ap (λ (e : Entry). e.cover) lost_is ∙ ap (λ (q : CellRef). unwrap_or (box_at said q) no_box) (sym same_ref) ∙ ap (λ (o : Option Rect). unwrap_or o no_box) has.boxed.is in
      false≢true (sym out ∙ ap (λ (b : Rect). lies_in b cover) own ∙ lies_true has.boxed.own cover has.lies)

  pub all_others : (rs : List CellRef) → Each (HasBoxIn said cover) rs → AreOthers lost.at rs
  all_others [] all = tt
  all_others (r ∷ rs) all = (one_other r all.0, all_others rs all.1)

boxes_lie : (said : Sayings) (h : ℕ) (t : Node (RTree h)) → Each (IsShaped said h least_entries) t.below → Each (λ (b : Rect). LiesIn b t.cover) (map (box said h) t.below) → Each (HasBoxIn said t.cover) (versions_below h t.below)
boxes_lie said h t shaped covers = all_lie said h (versions_lie said h least_entries) t.below t.cover shaped covers

pub outside_node : (keys : Meaning) (said : Sayings) (image : Image) (node : Entry) (level : ℕ) (lost : Entry) (h : ℕ) (t : Node (RTree h)) → IsShrinking keys said image node level lost h t → lies_in lost.cover node.cover ≡ false → AreOthers lost.at (versions_below h t.below)
outside_node keys said image node level lost h t is out =
    all_others said lost is.lost_is t.cover (ap (lies_in lost.cover) (sym is.cover_is) ∙ out) (versions_below h t.below) (boxes_lie said h t is.keyed.shaped is.covers)

-- a tree below a node doesn't have the version, and neither have those behind it
pub step_others : (at : CellRef) (all first rest : List CellRef) → all ≡ first ++ rest → AreOthers at first → AreOthers at rest → AreOthers at all
step_others at all first rest same one others = subst (AreOthers at) (sym same) (each_both (λ (r : CellRef). r.number ≢ at.number) first rest one others)

pub end_others : (at : CellRef) (h : ℕ) (ts : List (RTree h)) (i : ℕ) → length ts ≤ i → AreOthers at (versions_below h (drop i ts))
end_others at h ts i past = subst (λ (us : List (RTree h)). AreOthers at (versions_below h us)) (sym (drop_all i ts past)) tt

-- the tree at a place below a node, and what stands behind it
pub record IsLosing (keys : Meaning) (said : Sayings) (image : Image) (level : ℕ) (lost : Entry) (h : ℕ) (ts : List (RTree h)) (i : ℕ) (e : Entry) : Type 0 where
  pub height : ℕ
  pub child : Node (RTree height)
  pub is : IsShrinking keys said image e (level - 1) lost height child
  pub part : flat_map (versions h) (drop i ts) ≡ versions (suc height) child ++ flat_map (versions h) (drop (i + 1) ts)

module _ (keys : Meaning) (said : Sayings) (w : Work) (node : Entry) (level : ℕ) (lost : Entry) (inner : level ≢ 0) (entries : List Entry) (i : ℕ) (d : Entry) (low : i < length entries) where
  pub losing_child : (h : ℕ) (t : Node (RTree h)) → IsShrinking keys said (reading w) node level lost h t → entries ≡ entries_above said h t.below → IsLosing keys said (reading w) level lost h t.below i (get_or entries i d)
  losing_child zero t is are = absurd (inner is.keyed.tree.level_is)
  losing_child (suc k) t is are =
      let many = ap (length {A = Entry}) are ∙ length-map t.below (entry_of said (suc k)) in
      let below : i < length t.below = omega arith in
      let here = taken_at t.below i below in
      let one_is : get_or t.below i here.one ≡ here.one = ap (λ (ts : List (RTree (suc k))). get_or ts i here.one) here.is ∙ got_middle here.front here.one here.back i here.one here.many in
      let shown : get_or entries i d ≡ entry_of said (suc k) here.one =
      ap (λ (es : List Entry). get_or es i d) (are ∙ ap (entries_above said (suc k)) here.is ∙ map_both (entry_of said (suc k)) here.front (here.one ∷ here.back))
      ∙ got_middle (map (entry_of said (suc k)) here.front) (entry_of said (suc k) here.one) (map (entry_of said (suc k)) here.back) i d (length-map here.front (entry_of said (suc k)) ∙ here.many) in
      record {
        height = k;
        child = here.one;
        is = child_shrinking keys said w node level lost k t is here.front here.back here.one here.is (get_or entries i d) shown;
        part = ap (flat_map (versions (suc k))) (drop_more t.below i here.one below ∙ ap (λ (u : RTree (suc k)). u ∷ drop (i + 1) t.below) one_is);
      }

  -- the version was found below it
  module _ (mid : Work) (left rest : List Entry) (rest_is : rest ≡ remove entries i)
      (has : (k : ℕ) (child : Node (RTree k)) → IsShrinking keys said (reading w) (get_or entries i d) (level - 1) lost k child → HasShrunk said w mid lost.at k child.below left) where
    pub losing_mends : RestsOnVersions keys → (h : ℕ) (t : Node (RTree h)) → IsShrinking keys said (reading w) node level lost h t → entries ≡ entries_above said h t.below → (k : ℕ) × (own : List (RTree k)) × (beside : List (RTree (suc k))) × IsToMend keys said mid (get_or entries i d).at (level - 1) k own beside left rest
    losing_mends rests zero t is are = absurd (inner is.keyed.tree.level_is)
    losing_mends rests (suc k) t is are =
        let p = pick said (suc k) t.below entries rest i (get_or entries i d) low (same_got entries i d (get_or entries i d) low) rest_is are in
        let shrunk = has k p.one (child_shrinking keys said w node level lost k t is p.front p.back p.one p.split (get_or entries i d) p.chosen_is) in
        (k, shrunk.now, p.front ++ p.back, child_mends keys said w node level lost k t is p.front p.back p.one p.split mid left shrunk rests (get_or entries i d) p.chosen_is rest p.rest_are)

    pub losing_room : (h : ℕ) (t : Node (RTree h)) → IsShrinking keys said (reading w) node level lost h t → entries ≡ entries_above said h t.below → HasPlaces w (2 * level) → HasPlaces mid 2
    losing_room zero t is are room = absurd (inner is.keyed.tree.level_is)
    losing_room (suc k) t is are room =
        let p = pick said (suc k) t.below entries rest i (get_or entries i d) low (same_got entries i d (get_or entries i d) low) rest_is are in
        let shrunk = has k p.one (child_shrinking keys said w node level lost k t is p.front p.back p.one p.split (get_or entries i d) p.chosen_is) in
        mid_room keys said w node level lost k t is p.front p.back p.one p.split mid left shrunk room

    pub losing_shrunk : RestsOnVersions keys → (after : Work) (now : List Entry) → ((k : ℕ) (own : List (RTree k)) (beside : List (RTree (suc k))) → IsToMend keys said mid (get_or entries i d).at (level - 1) k own beside left rest → IsMended said mid after (get_or entries i d).at k own beside now) → (h : ℕ) (t : Node (RTree h)) → IsShrinking keys said (reading w) node level lost h t → entries ≡ entries_above said h t.below → HasShrunk said w after lost.at h t.below now
    losing_shrunk rests after now mends zero t is are = absurd (inner is.keyed.tree.level_is)
    losing_shrunk rests after now mends (suc k) t is are =
        let p = pick said (suc k) t.below entries rest i (get_or entries i d) low (same_got entries i d (get_or entries i d) low) rest_is are in
        let shrunk = has k p.one (child_shrinking keys said w node level lost k t is p.front p.back p.one p.split (get_or entries i d) p.chosen_is) in
        let mended = mends k shrunk.now (p.front ++ p.back) (child_mends keys said w node level lost k t is p.front p.back p.one p.split mid left shrunk rests (get_or entries i d) p.chosen_is rest p.rest_are) in
        shrunk_inner keys said w node level lost k t is p.front p.back p.one p.split mid left shrunk after now
        (subst (λ (r : CellRef). IsMended said mid after r k shrunk.now (p.front ++ p.back) now) (ap (λ (e : Entry). e.at) p.chosen_is) mended)
