-- A version leaves a tree: a leaf that loses it, a node whose child did, and what mending makes of that.
use Rattle.std.proofs.Common.{◌≡◌, ◌≢◌, ◌<◌, ◌+◌, ◌⊎◌, zero, suc, ℕ, List, [], ◌∷◌, ◌++◌, length, length-append, take, drop, map, slice_get, Some, true, inl, inr, refl, sym, ap, subst, ◌∙◌, arith}
use Rattle.std.proofs.lemmas.List.{append_assoc, length-take-le}
use Rattle.std.specs.List.{flat_map}
use Rattle.rdb_pages.specs.declared.cell.CellRef.{CellRef}
use Rattle.rdb_pages.specs.Pages.{zero_cell}
use Rattle.rdb_cells.specs.Images.{Image}
use Rattle.rdb_cells.specs.Links.{IsAmong, AreOnce}
use Rattle.rdb_cells.specs.Work.{Work, reading}
use Rattle.rdb_cells.proofs.LinkLemmas.{among_or_not}
use Rattle.rdb_cells.proofs.WorkLemmas.{put_reads, none_then}
use Rattle.rdb_tree.specs.Changes.{cell_of, with_cell, IsNodeAt}
use Rattle.rdb_tree.specs.Losses.{Leaves, DropsCells, StaysOutside, IsPlain, IsShort, HasMended, IsBranch, HasLost}
use Rattle.rdb_tree.specs.TreeLaws.{still_stands}
use Rattle.rdb_tree.specs.Trees.{BTree, Rooted, woven, versions, cells, roots, Stands, IsShaped, least_keys}
use Rattle.rdb_tree.proofs.ChangeLemmas.{below_there}
use Rattle.rdb_tree.proofs.ChildLemmas.{with_another, each_take, each_drop, length_another, map_another, another_roots}
use Rattle.rdb_tree.proofs.ClimbLemmas.{node_spent}
use Rattle.rdb_tree.proofs.FamilyLemmas.{others_still}
use Rattle.rdb_tree.proofs.GrownLemmas.{once_own}
use Rattle.rdb_tree.proofs.MendLemmas.{plain_first, plain_put}
use Rattle.rdb_tree.proofs.MiddleLemmas.{ahead, behind, cells_another, cells_at}
use Rattle.rdb_tree.proofs.NodeLemmas.{few_keys, roots_fit, stands_held}
use Rattle.rdb_tree.proofs.PairLemmas.{drops_between}
use Rattle.rdb_tree.proofs.PartLemmas.{IsParted, parted}
use Rattle.rdb_tree.proofs.WovenLemmas.{each_at, map_there, length_map, own_cells}

pub plain_then : (a b c : Work) (own inner : List ℕ) (m k : ℕ) → IsPlain a b own m → IsPlain b c inner k → ((n : ℕ) → IsAmong inner n → IsAmong own n) → IsPlain a c own (m + k)
plain_then a b c own inner m k first second within =
    let places = first.places in
    let more = second.places in
    record {
      none = none_then a b c first.none second.none;
      places = omega arith;
      says = λ n out. second.says n (λ inside. out (within n inside)) ∙ first.says n out;
      goes_on = record {
        below = second.goes_on.below ∙ first.goes_on.below;
        classes = second.goes_on.classes ∙ first.goes_on.classes;
        class = second.goes_on.class ∙ first.goes_on.class;
        room = second.goes_on.room ∙ first.goes_on.room;
      };
    }

-- the node of a tree at a cell
pub branch_node : (image : Image) (at : CellRef) (least h : ℕ) (t : BTree h) → IsBranch image at least h t → IsNodeAt image at t.keys (roots h t.children)
branch_node image at least h t branch = record {
  few = (few_keys h least t branch.shape).fit;
  fits = roots_fit h least t branch.shape;
  here = subst (λ (r : CellRef). image r.number ≡ Some (cell_of t.keys (roots h t.children))) branch.root (stands_held h image t branch.stands);
}

-- and of a child at a place
pub branch_child : (image : Image) (at : CellRef) (least h : ℕ) (t : BTree (suc h)) → IsBranch image at least (suc h) t → (n : ℕ) (c : BTree h) → slice_get t.children n ≡ Some c → IsBranch image c.at least_keys h c
branch_child image at least h t branch n c there = record {
  root = refl;
  stands = each_at (Stands h image) t.children n c there branch.stands.1;
  shape = each_at (IsShaped h least_keys) t.children n c there branch.shape.2;
  once = once_own h t.children n c there branch.once.1;
}

-- a leaf is written without a version
pub leaf_lost : (w after : Work) (at : CellRef) (least : ℕ) (t : BTree zero) (rest : List CellRef) (lost : CellRef) (leaves : Leaves lost t.keys rest) → IsBranch (reading w) at least zero t → after ≡ with_cell w at (cell_of rest []) → (has : HasLost w after lost 1 zero t) × (versions zero has.now ≡ rest)
leaf_lost w after at least t rest lost leaves branch is = subst (λ (v : Work). (has : HasLost w v lost 1 zero t) × (versions zero has.now ≡ rest)) (sym is) (
  (record {
    now = record { at = t.at; keys = rest; children = [] };
    less = record {
      at = refl;
      stands = subst (λ (r : CellRef). reading (with_cell w at (cell_of rest [])) r.number ≡ Some (cell_of rest [])) (sym branch.root) (put_reads w at (cell_of rest [])).here;
      shape = λ most shape.
          let long = ap (length {A = CellRef}) leaves.was_is in
          let less = ap (length {A = CellRef}) leaves.now_is in
          let first = length-append leaves.front (lost ∷ leaves.back) in
          let second = length-append leaves.front leaves.back in
          let enough = shape.enough in
          let fit = shape.fit in
          record { enough = omega arith; fit = omega arith };
      leaves = leaves;
      drops = record { more = λ n within. within; gone = λ n within. inl within; once = ((λ none. none), tt) };
      elsewhere = λ n out. (put_reads w at (cell_of rest [])).elsewhere n (λ same. out (inl (ap (λ (r : CellRef). r.number) branch.root ∙ sym same)));
    };
    plain = plain_put w w (cells zero t) 0 at (cell_of rest []) (plain_first w (cells zero t)) (inl (ap (λ (r : CellRef). r.number) branch.root))
        (node_spent w (λ r. true) at (Rooted zero t) branch.stands at.number (inl (ap (λ (r : CellRef). r.number) branch.root)));
  }),
  refl,
)

-- the node without its version, one of whose children may be a key too few
pub record IsReduced (w mid : Work) (lost at : CellRef) (place count h : ℕ) (t : BTree (suc h)) : Type 0 where
  pub now : BTree (suc h)
  pub at_is : now.at ≡ t.at
  pub short : IsShort (reading mid) at place h now
  pub as_many : length now.keys ≡ length t.keys
  pub leaves : Leaves lost (versions (suc h) t) (versions (suc h) now)
  pub drops : DropsCells (reading mid) (cells (suc h) t) (cells (suc h) now)
  pub elsewhere : StaysOutside (reading w) (reading mid) (cells (suc h) t)
  pub plain : IsPlain w mid (cells (suc h) t) count

module _ (w mid after : Work) (lost at : CellRef) (place count h : ℕ) (t : BTree (suc h)) (reduced : IsReduced w mid lost at place count h t) (has : HasMended mid after h reduced.now) where
  gone_after : (n : ℕ) → reading mid n ≡ Some zero_cell → IsAmong (cells (suc h) has.now) n ⊎ (reading after n ≡ Some zero_cell)
  gone_after n blank = elim (among_or_not (cells (suc h) reduced.now) n) [
    | inl still ↦ has.mended.drops.gone n still
    | inr out ↦ inr (has.mended.elsewhere n out ∙ blank)
  ]

  pub reduced_mended : HasLost w after lost (count + 3) (suc h) t
  reduced_mended = record {
    now = has.now;
    less = record {
      at = has.mended.at ∙ reduced.at_is;
      stands = has.mended.stands;
      shape = λ least shape. has.mended.shape least (let enough = shape.0.enough in let same = reduced.as_many in omega arith);
      leaves = record { front = reduced.leaves.front; back = reduced.leaves.back; was_is = reduced.leaves.was_is; now_is = has.mended.same ∙ reduced.leaves.now_is };
      drops = record {
        more = λ n within. reduced.drops.more n (has.mended.drops.more n within);
        gone = λ n within. elim (reduced.drops.gone n within) [
          | inl still ↦ has.mended.drops.gone n still
          | inr blank ↦ gone_after n blank
        ];
        once = has.mended.drops.once;
      };
      elsewhere = λ n out. has.mended.elsewhere n (λ within. out (reduced.drops.more n within)) ∙ reduced.elsewhere n out;
    };
    plain = plain_then w mid after (cells (suc h) t) (cells (suc h) reduced.now) count 3 reduced.plain has.plain reduced.drops.more;
  }

  pub reduced_list : versions (suc h) reduced_mended.now ≡ versions (suc h) reduced.now
  unfolding reduced_mended
  reduced_list = has.mended.same

-- a child lost a version
module _ (w mid : Work) (lost at : CellRef) (least place count h : ℕ) (t : BTree (suc h)) (branch : IsBranch (reading w) at least (suc h) t) (some : 0 < length t.keys) (c : BTree h) (there : slice_get t.children place ≡ Some c) (has : HasLost w mid lost count h c) where
  abbrev d : BTree h
  d = has.now

  abbrev pub with_less : List (BTree h)
  with_less = with_another place has.now t.children

  was_cells : flat_map (cells h) t.children ≡ ahead h t.children place ++ (cells h c ++ behind h t.children place)
  was_cells = cells_at h t.children place c there

  pub less_drops : DropsCells (reading mid) (cells (suc h) t) (t.at.number ∷ flat_map (cells h) with_less)
  less_drops =
      subst (λ (ns : List ℕ). DropsCells (reading mid) (t.at.number ∷ ns) (t.at.number ∷ flat_map (cells h) with_less)) (sym was_cells)
      (subst (λ (ns : List ℕ). DropsCells (reading mid) (t.at.number ∷ (ahead h t.children place ++ (cells h c ++ behind h t.children place))) (t.at.number ∷ ns)) (sym (cells_another h t.children place has.now))
      (drops_between (reading mid) (t.at.number ∷ ahead h t.children place) (behind h t.children place) (cells h c) (cells h has.now) has.less.drops
      (subst (λ (ns : List ℕ). AreOnce (t.at.number ∷ ns)) was_cells branch.once)))

  root_apart : ¬ IsAmong (cells h c) t.at.number
  root_apart within = branch.once.0 (own_cells h t.children place c there t.at.number within)

  pub less_roots : roots (suc h) with_less ≡ roots (suc h) t.children
  less_roots = another_roots h t place c there branch.shape.1 has.now has.less.at

  pub less_plain : IsPlain w mid (cells (suc h) t) count
  less_plain = record {
    none = has.plain.none;
    places = has.plain.places;
    says = λ n out. has.plain.says n (λ within. out (inr (own_cells h t.children place c there n within)));
    goes_on = has.plain.goes_on;
  }

  pub less_elsewhere : StaysOutside (reading w) (reading mid) (cells (suc h) t)
  less_elsewhere n out = has.less.elsewhere n (λ within. out (inr (own_cells h t.children place c there n within)))

  -- with these keys, in an image in which the children still stand
  pub less_short : (image : Image) (keys : List CellRef) → length keys ≡ length t.keys → image t.at.number ≡ Some (cell_of keys (roots (suc h) t.children)) → ((n : ℕ) → n ≢ t.at.number → image n ≡ reading mid n) → IsShort image at place h (record { at = t.at; keys = keys; children = with_less })
  less_short image keys as_many here stays = record {
    root = branch.root;
    stands = (
      here ∙ ap (λ (rs : List CellRef). Some (cell_of keys rs)) (sym less_roots),
      others_still (reading w) image h t.children place c has.now there branch.once.1
          (λ m within out. stays m (λ same. branch.once.0 (subst (IsAmong (flat_map (cells h) t.children)) same within)) ∙ has.less.elsewhere m out) branch.stands.1
          (still_now image (λ n within. stays n (λ same. root_apart (subst (IsAmong (cells h c)) same (has.less.drops.more n within))))),
    );
    keys = (let fit = branch.shape.0.fit in record { enough = omega arith; fit = omega arith });
    many = length_another place has.now t.children (below_there t.children place c there) ∙ branch.shape.1 ∙ ap (λ (k : ℕ). k + 1) (sym as_many);
    once = less_drops.once;
    front = take place t.children;
    short = has.now;
    back = drop (suc place) t.children;
    children_are = refl;
    place_is = length-take-le place t.children (let below = below_there t.children place c there in omega arith);
    front_shape = each_take (IsShaped h least_keys) place t.children branch.shape.2;
    short_shape = has.less.shape 2 (each_at (IsShaped h least_keys) t.children place c there branch.shape.2);
    back_shape = each_drop (IsShaped h least_keys) (suc place) t.children branch.shape.2;
  }
    where
      still_now : (image : Image) → ((n : ℕ) → IsAmong (cells h has.now) n → image n ≡ reading mid n) → Stands h image has.now
      still_now image same = still_stands (reading mid) image h has.now same has.less.stands

  abbrev parts : IsParted t.keys (map (versions h) t.children) place (versions h c)
  parts = parted t.keys (map (versions h) t.children) place (versions h c) (map_there (versions h) t.children place c there) (length_map (versions h) t.children ∙ branch.shape.1)

  -- it wasn't in the node itself
  pub child_reduced : IsReduced w mid lost at place count h t
  child_reduced = record {
    now = record { at = t.at; keys = t.keys; children = with_less };
    at_is = refl;
    short = less_short (reading mid) t.keys refl (has.less.elsewhere t.at.number root_apart ∙ branch.stands.0) (λ n apart. refl);
    as_many = refl;
    leaves = record {
      front = parts.front ++ has.less.leaves.front;
      back = has.less.leaves.back ++ parts.back;
      was_is =
          parts.whole
          ∙ ap (λ (p : List CellRef). parts.front ++ (p ++ parts.back)) has.less.leaves.was_is
          ∙ ap (λ (p : List CellRef). parts.front ++ p) (append_assoc has.less.leaves.front (lost ∷ has.less.leaves.back) parts.back)
          ∙ sym (append_assoc parts.front has.less.leaves.front (lost ∷ (has.less.leaves.back ++ parts.back)));
      now_is =
          ap (woven t.keys) (map_another (versions h) place has.now t.children)
          ∙ parts.other (versions h has.now)
          ∙ ap (λ (p : List CellRef). parts.front ++ (p ++ parts.back)) has.less.leaves.now_is
          ∙ ap (λ (p : List CellRef). parts.front ++ p) (append_assoc has.less.leaves.front has.less.leaves.back parts.back)
          ∙ sym (append_assoc parts.front has.less.leaves.front (has.less.leaves.back ++ parts.back));
    };
    drops = less_drops;
    elsewhere = less_elsewhere;
    plain = less_plain;
  }

  pub child_list : versions (suc h) child_reduced.now ≡ woven t.keys (map (versions h) with_less)
  unfolding child_reduced
  child_list = refl
