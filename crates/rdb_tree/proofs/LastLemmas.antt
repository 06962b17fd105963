-- The last version of a tree goes.
use Rattle.std.proofs.Common.{◌≡◌, ◌<◌, ◌+◌, ◌-◌, ◌*◌, zero, suc, ℕ, List, [], ◌∷◌, ◌++◌, length, take, drop, map, slice_get, Option, Some, true, false, refl, sym, ap, ap₂, subst, ◌∙◌, arith}
use Rattle.std.proofs.lemmas.Bool.{false≢true}
use Rattle.std.proofs.lemmas.List.{append_assoc, append-nil}
use Rattle.std.specs.Option.{unwrap_or}
use Rattle.rdb_pages.specs.declared.cell.CellRef.{CellRef}
use Rattle.rdb_cells.specs.Images.{Image}
use Rattle.rdb_cells.specs.Words.{no_ref}
use Rattle.rdb_cells.specs.Work.{Work, reading}
use Rattle.rdb_tree.specs.Changes.{cell_of, with_cell, HasPlaces}
use Rattle.rdb_tree.specs.Losses.{Leaves, IsShort, HasMended, IsBranch, HasLost, HasLostLast}
use Rattle.rdb_tree.specs.Trees.{BTree, woven, versions, cells, roots, is_empty, least_keys}
use Rattle.rdb_tree.proofs.ChildLemmas.{with_another, map_another, same_another}
use Rattle.rdb_tree.proofs.LossLemmas.{IsReduced, leaf_lost, branch_child, child_reduced, child_list, reduced_mended, reduced_list}
use Rattle.rdb_tree.proofs.MendLemmas.{plain_within}
use Rattle.rdb_tree.proofs.SiblingLemmas.{has_last}
use Rattle.rdb_tree.proofs.WovenLemmas.{there, map_there, length_map}

-- a node has a child where it isn't a leaf
some_child : {X : Type 0} (xs : List X) (f : X → CellRef) → 0 < length xs → is_empty (map f xs) ≡ false
some_child [] f some = absurd (omega arith)
some_child (x ∷ xs) f some = refl

pub inner_full : (image : Image) (at : CellRef) (least h : ℕ) (t : BTree (suc h)) → IsBranch image at least (suc h) t → is_empty (roots (suc h) t.children) ≡ false
inner_full image at least h t branch = some_child t.children (λ (c : BTree h). c.at) (let many = branch.shape.1 in omega arith)

got_last : (xs : List CellRef) (some : 0 < length xs) → unwrap_or (slice_get xs (length xs - 1)) no_ref ≡ (has_last xs some).last
got_last xs some = go xs (length xs - 1) (has_last xs some).last (has_last xs some).dropped
  where
    go : (ys : List CellRef) (n : ℕ) (l : CellRef) → drop n ys ≡ l ∷ [] → unwrap_or (slice_get ys n) no_ref ≡ l
    go [] zero l same = cc
    go [] (suc n) l same = cc
    go (y ∷ ys) zero l same = cc
    go (y ∷ ys) (suc n) l same = go ys n l same

pub last_of_leaf : (w after : Work) (at : CellRef) (h : ℕ) (t : BTree h) (rest : List CellRef) (lost : CellRef) → IsBranch (reading w) at least_keys h t → is_empty (roots h t.children) ≡ true → rest ≡ take (length t.keys - 1) t.keys → lost ≡ unwrap_or (slice_get t.keys (length t.keys - 1)) no_ref → after ≡ with_cell w at (cell_of rest []) → HasLostLast w after lost h t
last_of_leaf w after at zero t rest lost branch leaf rest_is lost_is is =
    let some : 0 < length t.keys = (let enough = branch.shape.enough in omega arith) in
    let last = has_last t.keys some in
    let list : t.keys ≡ rest ++ lost ∷ [] =
    sym last.taken ∙ ap₂ (λ (rs : List CellRef) (r : CellRef). rs ++ r ∷ []) (sym rest_is) (sym (lost_is ∙ got_last t.keys some)) in
    let leaves : Leaves lost t.keys rest = record { front = rest; back = []; was_is = list; now_is = sym (append-nil rest) } in
    let has = leaf_lost w after at least_keys t rest lost leaves branch is in
    record { lost_one = has.0; list = list ∙ ap (λ (rs : List CellRef). rs ++ lost ∷ []) (sym has.1) }
last_of_leaf w after at (suc h) t rest lost branch leaf rest_is lost_is is = absurd (false≢true (sym (inner_full (reading w) at least_keys h t branch) ∙ leaf))

-- the last part
record IsEnd (keys : List CellRef) (parts : List (List CellRef)) (n : ℕ) : Type 0 where
  pub ahead : List CellRef
  pub other : (p : List CellRef) → woven keys (with_another n p parts) ≡ ahead ++ p

woven_end : (keys : List CellRef) (parts : List (List CellRef)) (n : ℕ) → n ≡ length keys → length parts ≡ length keys + 1 → IsEnd keys parts n
woven_end [] [] n same many = absurd (omega arith)
woven_end [] (p ∷ q ∷ ps) n same many = absurd (omega arith)
woven_end [] (p ∷ []) zero same many = record { ahead = []; other = λ q. append-nil q }
woven_end [] (p ∷ []) (suc n) same many = absurd (omega arith)
woven_end (k ∷ ks) [] n same many = absurd (omega arith)
woven_end (k ∷ ks) (p ∷ ps) zero same many = absurd (omega arith)
woven_end (k ∷ ks) (p ∷ ps) (suc n) same many =
    let rest = woven_end ks ps n (omega arith) (omega arith) in
    record { ahead = p ++ k ∷ rest.ahead; other = λ q. ap (λ (w : List CellRef). p ++ k ∷ w) (rest.other q) ∙ sym (append_assoc p (k ∷ rest.ahead) q) }

module _ (w : Work) (at : CellRef) (place : ℕ) (child : CellRef) where
  module _ (h : ℕ) (t : BTree (suc h)) (branch : IsBranch (reading w) at least_keys (suc h) t) (place_is : place ≡ length t.keys) (child_is : child ≡ unwrap_or (slice_get (roots (suc h) t.children) place) no_ref) where
    found : (c : BTree h) × (slice_get t.children place ≡ Some c)
    found = there t.children place (let many = branch.shape.1 in omega arith)

    child_at_c : child ≡ found.0.at
    child_at_c = child_is ∙ ap (λ (o : Option CellRef). unwrap_or o no_ref) (map_there (λ (c : BTree h). c.at) t.children place found.0 found.1)

    below : IsBranch (reading w) child least_keys h found.0
    below = subst (λ (r : CellRef). IsBranch (reading w) r least_keys h found.0) (sym child_at_c) (branch_child (reading w) at least_keys h t branch place found.0 found.1)

    module _ (mid : Work) (lost : CellRef) (has : HasLostLast w mid lost h found.0) where
      reduced : IsReduced w mid lost at place (3 * h + 1) h t
      reduced = child_reduced w mid lost at least_keys place (3 * h + 1) h t branch (let enough = branch.shape.0.enough in omega arith) found.0 found.1 has.lost_one

      module _ (after : Work) (mended : HasMended mid after h reduced.now) where
        now_has : HasLost w after lost (3 * h + 1 + 3) (suc h) t
        now_has = reduced_mended w mid after lost at place (3 * h + 1) h t reduced mended

        end : IsEnd t.keys (map (versions h) t.children) place
        end = woven_end t.keys (map (versions h) t.children) place place_is (length_map (versions h) t.children ∙ branch.shape.1)

        list_now : versions (suc h) t ≡ versions (suc h) now_has.now ++ lost ∷ []
        unfolding now_has reduced
        list_now =
            sym (ap (woven t.keys) (same_another place (versions h found.0) (map (versions h) t.children) (map_there (versions h) t.children place found.0 found.1)))
            ∙ end.other (versions h found.0)
            ∙ ap (λ (p : List CellRef). end.ahead ++ p) has.list
            ∙ sym (append_assoc end.ahead (versions h has.lost_one.now) (lost ∷ []))
            ∙ ap (λ (p : List CellRef). p ++ lost ∷ [])
            (sym (end.other (versions h has.lost_one.now))
            ∙ ap (woven t.keys) (sym (map_another (versions h) place has.lost_one.now t.children))
            ∙ sym (child_list w mid lost at least_keys place (3 * h + 1) h t branch (let enough = branch.shape.0.enough in omega arith) found.0 found.1 has.lost_one)
            ∙ sym (reduced_list w mid after lost at place (3 * h + 1) h t reduced mended))

        lost_last : HasLostLast w after lost (suc h) t
        lost_last = record {
          lost_one = record { now = now_has.now; less = now_has.less; plain = plain_within w after (cells (suc h) t) (3 * h + 1 + 3) (3 * suc h + 1) (omega arith) now_has.plain };
          list = list_now;
        }

  -- a child to go on with
  pub last_below : (levels h : ℕ) (t : BTree h) → IsBranch (reading w) at least_keys h t → h < levels → is_empty (roots h t.children) ≡ false → place ≡ length t.keys → child ≡ unwrap_or (slice_get (roots h t.children) place) no_ref →
      (k : ℕ) × (c : BTree k) × IsBranch (reading w) child least_keys k c × (k < levels - 1)
  last_below levels zero t branch low inner place_is child_is = absurd (false≢true (sym inner))
  last_below levels (suc h) t branch low inner place_is child_is = (h, (found h t branch place_is child_is).0, below h t branch place_is child_is, omega arith)

  -- the node to be mended
  pub last_short : (mid : Work) (lost : CellRef) (levels h : ℕ) (t : BTree h) → IsBranch (reading w) at least_keys h t → h < levels → is_empty (roots h t.children) ≡ false → place ≡ length t.keys → child ≡ unwrap_or (slice_get (roots h t.children) place) no_ref →
      ((k : ℕ) (c : BTree k) → IsBranch (reading w) child least_keys k c → HasLostLast w mid lost k c) → (k : ℕ) × (u : BTree (suc k)) × IsShort (reading mid) at place k u
  last_short mid lost levels zero t branch low inner place_is child_is has = absurd (false≢true (sym inner))
  last_short mid lost levels (suc h) t branch low inner place_is child_is has =
      let one = reduced h t branch place_is child_is mid lost (has h (found h t branch place_is child_is).0 (below h t branch place_is child_is)) in
      (h, one.now, one.short)

  pub last_room : (mid : Work) (lost : CellRef) (levels h : ℕ) (t : BTree h) → IsBranch (reading w) at least_keys h t → h < levels → is_empty (roots h t.children) ≡ false → place ≡ length t.keys → child ≡ unwrap_or (slice_get (roots h t.children) place) no_ref →
      ((k : ℕ) (c : BTree k) → IsBranch (reading w) child least_keys k c → HasLostLast w mid lost k c) → HasPlaces w (3 * levels) → HasPlaces mid 3
  last_room mid lost levels zero t branch low inner place_is child_is has room = absurd (false≢true (sym inner))
  last_room mid lost levels (suc h) t branch low inner place_is child_is has room =
      let plain = (has h (found h t branch place_is child_is).0 (below h t branch place_is child_is)).lost_one.plain in
      let places = plain.places in
      let same = plain.goes_on.room in
      omega arith

  -- and what mending it gives
  pub last_ends : (mid after : Work) (lost : CellRef) (h : ℕ) (t : BTree h) → IsBranch (reading w) at least_keys h t → is_empty (roots h t.children) ≡ false → place ≡ length t.keys → child ≡ unwrap_or (slice_get (roots h t.children) place) no_ref →
      ((k : ℕ) (c : BTree k) → IsBranch (reading w) child least_keys k c → HasLostLast w mid lost k c) → ((k : ℕ) (u : BTree (suc k)) → IsShort (reading mid) at place k u → HasMended mid after k u) → HasLostLast w after lost h t
  last_ends mid after lost zero t branch inner place_is child_is has mended = absurd (false≢true (sym inner))
  last_ends mid after lost (suc h) t branch inner place_is child_is has mended =
      let own = has h (found h t branch place_is child_is).0 (below h t branch place_is child_is) in
      let one = reduced h t branch place_is child_is mid lost own in
      lost_last h t branch place_is child_is mid lost own after (mended h one.now one.short)
