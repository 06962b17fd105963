-- A node is mended by a pair of its children: they share a key, or merge.
use Rattle.std.proofs.Common.{◌≡◌, ◌≢◌, ◌≤◌, ◌+◌, ◌-◌, zero, suc, ℕ, List, [], ◌∷◌, ◌++◌, length, take, drop, slice_get, Some, inl, inr, refl, sym, ap, subst, ◌∙◌, arith}
use Rattle.std.proofs.lemmas.List.{append_assoc, map-append, take-append-drop}
use Rattle.std.proofs.lemmas.List.Concat.{flat_map-append}
use Rattle.std.specs.List.{flat_map}
use Rattle.rdb_pages.specs.declared.cell.Cell.{Cell}
use Rattle.rdb_pages.specs.declared.cell.CellRef.{CellRef}
use Rattle.rdb_pages.specs.Pages.{zero_cell}
use Rattle.rdb_cells.specs.Images.{Image}
use Rattle.rdb_cells.specs.Links.{IsAmong, AreOnce}
use Rattle.rdb_cells.specs.Work.{Work, reading, IsLeft}
use Rattle.rdb_cells.proofs.WorkLemmas.{put_reads, put_says, put_takes_none, put_longer, none_then}
use Rattle.rdb_tree.specs.Changes.{cell_of, with_cell, replaced_at, without}
use Rattle.rdb_tree.specs.Losses.{DropsCells, IsPlain}
use Rattle.rdb_tree.specs.Trees.{BTree, Each, cells, roots, Stands, IsShaped, least_keys}
use Rattle.rdb_tree.proofs.ChildLemmas.{each_take, each_drop, map_take, map_drop}
use Rattle.rdb_tree.proofs.FamilyLemmas.{all_still}
use Rattle.rdb_tree.proofs.ShiftLemmas.{moved_behind, moved_before, gone_one}
use Rattle.rdb_tree.proofs.SiblingLemmas.{left_less, right_more, left_more, right_less, both_joined}
use Rattle.rdb_tree.proofs.WovenLemmas.{each_both, length_map}

-- the account of puts
pub plain_first : (before : Work) (own : List ℕ) → IsPlain before before own 0
plain_first before own = record {
  none = λ n. ((λ left. left), (λ left. left));
  places = omega arith;
  says = λ n out. refl;
  goes_on = record { below = refl; classes = refl; class = refl; room = refl };
}

pub plain_within : (before after : Work) (own : List ℕ) (few many : ℕ) → few ≤ many → IsPlain before after own few → IsPlain before after own many
plain_within before after own few many within plain = record {
  none = plain.none;
  places = (let places = plain.places in omega arith);
  says = plain.says;
  goes_on = plain.goes_on;
}

pub plain_more : (before after : Work) (own : List ℕ) → IsPlain before after own 0 → IsPlain before after own 3
plain_more before after own plain = plain_within before after own 0 3 (omega arith) plain

pub plain_put : (before mid : Work) (own : List ℕ) (count : ℕ) (at : CellRef) (cell : Cell) → IsPlain before mid own count → IsAmong own at.number → (¬ IsLeft before at.number) → IsPlain before (with_cell mid at cell) own (count + 1)
plain_put before mid own count at cell plain inside spent =
    let longer = put_longer mid.pairs (record { at = at; cell = cell }) in
    let places = plain.places in
    record {
      none = none_then before mid (with_cell mid at cell) plain.none (put_takes_none mid at cell (λ left. spent ((plain.none at.number).0 left)));
      places = omega arith;
      says = λ n out. (elim (put_says mid at cell n) [ inl same ↦ same | inr is ↦ absurd (out (subst (IsAmong own) (sym is) inside)) ]) ∙ plain.says n out;
      goes_on = record { below = plain.goes_on.below; classes = plain.goes_on.classes; class = plain.goes_on.class; room = plain.goes_on.room };
    }

-- three cells are written, each another one
module _ (w : Work) (p q r : CellRef) (c d e : Cell) (first : p.number ≢ q.number) (second : p.number ≢ r.number) (third : q.number ≢ r.number) where
  abbrev pub three : Work
  three = with_cell (with_cell (with_cell w p c) q d) r e

  pub three_p : reading three p.number ≡ Some c
  three_p = (put_reads (with_cell (with_cell w p c) q d) r e).elsewhere p.number second ∙ (put_reads (with_cell w p c) q d).elsewhere p.number first ∙ (put_reads w p c).here

  pub three_q : reading three q.number ≡ Some d
  three_q = (put_reads (with_cell (with_cell w p c) q d) r e).elsewhere q.number third ∙ (put_reads (with_cell w p c) q d).here

  pub three_r : reading three r.number ≡ Some e
  three_r = (put_reads (with_cell (with_cell w p c) q d) r e).here

  pub three_other : (n : ℕ) → n ≢ p.number → n ≢ q.number → n ≢ r.number → reading three n ≡ reading w n
  three_other n not_p not_q not_r = (put_reads (with_cell (with_cell w p c) q d) r e).elsewhere n not_r ∙ (put_reads (with_cell w p c) q d).elsewhere n not_q ∙ (put_reads w p c).elsewhere n not_p

  pub three_plain : (own : List ℕ) → IsAmong own p.number → IsAmong own q.number → IsAmong own r.number → ((n : ℕ) → IsAmong own n → ¬ IsLeft w n) → IsPlain w three own 3
  three_plain own p_in q_in r_in spent =
      plain_put w (with_cell (with_cell w p c) q d) own 2 r e
      (plain_put w (with_cell w p c) own 1 q d
      (plain_put w w own 0 p c (plain_first w own) p_in (spent p.number p_in)) q_in (spent q.number q_in)) r_in (spent r.number r_in)

-- a pair of children, and the key between them
pub record IsPairAt (image : Image) (at : CellRef) (place h : ℕ) (t : BTree (suc h)) : Type 0 where
  pub root : t.at ≡ at
  pub K : List CellRef
  pub L : List CellRef
  pub k : CellRef
  pub F : List (BTree h)
  pub B : List (BTree h)
  pub x : BTree h
  pub y : BTree h
  pub whole : t ≡ record { at = t.at; keys = K ++ k ∷ L; children = F ++ x ∷ y ∷ B }
  pub same : length K ≡ length F
  pub place_is : length K ≡ place
  pub few : length t.keys ≤ 7
  pub front : Each (IsShaped h least_keys) F
  pub back : Each (IsShaped h least_keys) B
  pub left_shape : IsShaped h 2 x
  pub right_shape : IsShaped h 2 y

pub there_front : {X : Type 0} (xs : List X) (x : X) (ys : List X) (n : ℕ) → length xs ≡ n → slice_get (xs ++ x ∷ ys) n ≡ Some x
there_front [] x ys zero same = refl
there_front [] x ys (suc n) same = absurd (omega arith)
there_front (y ∷ xs) x ys zero same = absurd (omega arith)
there_front (y ∷ xs) x ys (suc n) same = there_front xs x ys n (omega arith)

pub there_next : {X : Type 0} (xs : List X) (x y : X) (ys : List X) (n : ℕ) → length xs ≡ n → slice_get (xs ++ x ∷ y ∷ ys) (suc n) ≡ Some y
there_next [] x y ys zero same = refl
there_next [] x y ys (suc n) same = absurd (omega arith)
there_next (z ∷ xs) x y ys zero same = absurd (omega arith)
there_next (z ∷ xs) x y ys (suc n) same = there_next xs x y ys n (omega arith)

pub replaced_front : (xs : List CellRef) (x z : CellRef) (ys : List CellRef) (n : ℕ) → length xs ≡ n → replaced_at n z (xs ++ x ∷ ys) ≡ xs ++ z ∷ ys
replaced_front [] x z ys zero same = refl
replaced_front [] x z ys (suc n) same = absurd (omega arith)
replaced_front (y ∷ xs) x z ys zero same = absurd (omega arith)
replaced_front (y ∷ xs) x z ys (suc n) same = ap (λ (rs : List CellRef). y ∷ rs) (replaced_front xs x z ys n (omega arith))

pub without_front : (xs : List CellRef) (x : CellRef) (ys : List CellRef) (n : ℕ) → length xs ≡ n → without n (xs ++ x ∷ ys) ≡ xs ++ ys
without_front [] x ys zero same = refl
without_front [] x ys (suc n) same = absurd (omega arith)
without_front (y ∷ xs) x ys zero same = absurd (omega arith)
without_front (y ∷ xs) x ys (suc n) same = ap (λ (rs : List CellRef). y ∷ rs) (without_front xs x ys n (omega arith))

pub without_next : (xs : List CellRef) (x y : CellRef) (ys : List CellRef) (n : ℕ) → length xs ≡ n → without (suc n) (xs ++ x ∷ y ∷ ys) ≡ xs ++ x ∷ ys
without_next [] x y ys zero same = refl
without_next [] x y ys (suc n) same = absurd (omega arith)
without_next (z ∷ xs) x y ys zero same = absurd (omega arith)
without_next (z ∷ xs) x y ys (suc n) same = ap (λ (rs : List CellRef). z ∷ rs) (without_next xs x y ys n (omega arith))

-- the roots of siblings that share
pub left_less_roots : (h : ℕ) (x : BTree h) → roots h (left_less h x).children ≡ take (length (roots h x.children) - 1) (roots h x.children)
left_less_roots zero x = refl
left_less_roots (suc h) x = map_take (λ (c : BTree h). c.at) (length x.children - 1) x.children ∙ ap (λ (n : ℕ). take (n - 1) (roots (suc h) x.children)) (sym (length_map (λ (c : BTree h). c.at) x.children))

pub right_more_roots : (h : ℕ) (x : BTree h) (k : CellRef) (y : BTree h) → roots h (right_more h x k y).children ≡ drop (length (roots h x.children) - 1) (roots h x.children) ++ roots h y.children
right_more_roots zero x k y = refl
right_more_roots (suc h) x k y =
    map-append (λ (c : BTree h). c.at) (drop (length x.children - 1) x.children) y.children
    ∙ ap (λ (rs : List CellRef). rs ++ roots (suc h) y.children) (map_drop (λ (c : BTree h). c.at) (length x.children - 1) x.children ∙ ap (λ (n : ℕ). drop (n - 1) (roots (suc h) x.children)) (sym (length_map (λ (c : BTree h). c.at) x.children)))

pub right_less_roots : (h : ℕ) (y : BTree h) → roots h (right_less h y).children ≡ drop 1 (roots h y.children)
right_less_roots zero y = refl
right_less_roots (suc h) y = map_drop (λ (c : BTree h). c.at) 1 y.children

pub left_more_roots : (h : ℕ) (x : BTree h) (k : CellRef) (y : BTree h) → roots h (left_more h x k y).children ≡ roots h x.children ++ take 1 (roots h y.children)
left_more_roots zero x k y = refl
left_more_roots (suc h) x k y = map-append (λ (c : BTree h). c.at) x.children (take 1 y.children) ∙ ap (λ (rs : List CellRef). roots (suc h) x.children ++ rs) (map_take (λ (c : BTree h). c.at) 1 y.children)

pub joined_roots : (h : ℕ) (x : BTree h) (k : CellRef) (y : BTree h) → roots h (both_joined h x k y).children ≡ roots h x.children ++ roots h y.children
joined_roots zero x k y = refl
joined_roots (suc h) x k y = map-append (λ (c : BTree h). c.at) x.children y.children

-- what stands below a node
abbrev pub BelowStands : (h : ℕ) → Image → BTree h → Type 0
BelowStands zero b t = Unit {0}
BelowStands (suc h) b t = Each (Stands h b) t.children

pub stands_of : (h : ℕ) (b : Image) (t : BTree h) → b t.at.number ≡ Some (cell_of t.keys (roots h t.children)) → BelowStands h b t → Stands h b t
stands_of zero b t here below = here
stands_of (suc h) b t here below = (here, below)

pub below_stands : (h : ℕ) (a b : Image) (t : BTree h) → Stands h a t → AreOnce (cells h t) → ((n : ℕ) → IsAmong (cells h t) n → n ≢ t.at.number → b n ≡ a n) → BelowStands h b t
below_stands zero a b t stands once same = tt
below_stands (suc h) a b t stands once same = all_still a b h t.children (λ n within. same n (inr within) (λ is. once.0 (subst (IsAmong (flat_map (cells h) t.children)) is within))) stands.1

pub left_below : (h : ℕ) (b : Image) (x : BTree h) → BelowStands h b x → BelowStands h b (left_less h x)
left_below zero b x below = tt
left_below (suc h) b x below = each_take (Stands h b) (length x.children - 1) x.children below

pub right_more_below : (h : ℕ) (b : Image) (x : BTree h) (k : CellRef) (y : BTree h) → BelowStands h b x → BelowStands h b y → BelowStands h b (right_more h x k y)
right_more_below zero b x k y below also = tt
right_more_below (suc h) b x k y below also = each_both (Stands h b) (drop (length x.children - 1) x.children) y.children (each_drop (Stands h b) (length x.children - 1) x.children below) also

pub right_below : (h : ℕ) (b : Image) (y : BTree h) → BelowStands h b y → BelowStands h b (right_less h y)
right_below zero b y below = tt
right_below (suc h) b y below = each_drop (Stands h b) 1 y.children below

pub left_more_below : (h : ℕ) (b : Image) (x : BTree h) (k : CellRef) (y : BTree h) → BelowStands h b x → BelowStands h b y → BelowStands h b (left_more h x k y)
left_more_below zero b x k y below also = tt
left_more_below (suc h) b x k y below also = each_both (Stands h b) x.children (take 1 y.children) below (each_take (Stands h b) 1 y.children also)

pub joined_below : (h : ℕ) (b : Image) (x : BTree h) (k : CellRef) (y : BTree h) → BelowStands h b x → BelowStands h b y → BelowStands h b (both_joined h x k y)
joined_below zero b x k y below also = tt
joined_below (suc h) b x k y below also = each_both (Stands h b) x.children y.children below also

-- their cells
module _ (b : Image) (k : CellRef) where
  pub left_drops : (h : ℕ) (x y : BTree h) → AreOnce (cells h x ++ (cells h y ++ [])) → DropsCells b (cells h x ++ (cells h y ++ [])) (cells h (left_less h x) ++ (cells h (right_more h x k y) ++ []))
  left_drops zero x y once = record { more = λ n within. within; gone = λ n within. inl within; once = once }
  left_drops (suc h) x y once =
      let n = length x.children - 1 in
      let P = flat_map (cells h) (take n x.children) in
      let Q = flat_map (cells h) (drop n x.children) in
      let R = flat_map (cells h) y.children in
      let was : flat_map (cells h) x.children ≡ P ++ Q = ap (flat_map (cells h)) (sym (take-append-drop n x.children)) ∙ flat_map-append (cells h) (take n x.children) (drop n x.children) in
      let now : flat_map (cells h) (drop n x.children ++ y.children) ++ [] ≡ Q ++ (R ++ []) = ap (λ (ns : List ℕ). ns ++ []) (flat_map-append (cells h) (drop n x.children) y.children) ∙ append_assoc Q R [] in
      subst (λ (ns : List ℕ). DropsCells b ((x.at.number ∷ ns) ++ (y.at.number ∷ (R ++ []))) ((x.at.number ∷ P) ++ (y.at.number ∷ (flat_map (cells h) (drop n x.children ++ y.children) ++ [])))) (sym was)
      (subst (λ (ns : List ℕ). DropsCells b ((x.at.number ∷ (P ++ Q)) ++ (y.at.number ∷ (R ++ []))) ((x.at.number ∷ P) ++ (y.at.number ∷ ns))) (sym now)
      (moved_behind b (x.at.number ∷ P) Q y.at.number (R ++ []) (subst (λ (ns : List ℕ). AreOnce ((x.at.number ∷ ns) ++ (y.at.number ∷ (R ++ [])))) was once)))

  pub right_drops : (h : ℕ) (x y : BTree h) → AreOnce (cells h x ++ (cells h y ++ [])) → DropsCells b (cells h x ++ (cells h y ++ [])) (cells h (left_more h x k y) ++ (cells h (right_less h y) ++ []))
  right_drops zero x y once = record { more = λ n within. within; gone = λ n within. inl within; once = once }
  right_drops (suc h) x y once =
      let P = flat_map (cells h) x.children in
      let Q = flat_map (cells h) (take 1 y.children) in
      let R = flat_map (cells h) (drop 1 y.children) in
      let was : flat_map (cells h) y.children ++ [] ≡ Q ++ (R ++ []) = ap (λ (ns : List ℕ). ns ++ []) (ap (flat_map (cells h)) (sym (take-append-drop 1 y.children)) ∙ flat_map-append (cells h) (take 1 y.children) (drop 1 y.children)) ∙ append_assoc Q R [] in
      let now : flat_map (cells h) (x.children ++ take 1 y.children) ≡ P ++ Q = flat_map-append (cells h) x.children (take 1 y.children) in
      subst (λ (ns : List ℕ). DropsCells b ((x.at.number ∷ P) ++ (y.at.number ∷ ns)) ((x.at.number ∷ flat_map (cells h) (x.children ++ take 1 y.children)) ++ (y.at.number ∷ (R ++ [])))) (sym was)
      (subst (λ (ns : List ℕ). DropsCells b ((x.at.number ∷ P) ++ (y.at.number ∷ (Q ++ (R ++ [])))) ((x.at.number ∷ ns) ++ (y.at.number ∷ (R ++ [])))) (sym now)
      (moved_before b (x.at.number ∷ P) Q y.at.number (R ++ []) (subst (λ (ns : List ℕ). AreOnce ((x.at.number ∷ P) ++ (y.at.number ∷ ns))) was once)))

  pub joined_drops : (h : ℕ) (x y : BTree h) → AreOnce (cells h x ++ (cells h y ++ [])) → b y.at.number ≡ Some zero_cell → DropsCells b (cells h x ++ (cells h y ++ [])) (cells h (both_joined h x k y) ++ [])
  joined_drops zero x y once blank = gone_one b (x.at.number ∷ []) y.at.number [] blank once
  joined_drops (suc h) x y once blank =
      let P = flat_map (cells h) x.children in
      let R = flat_map (cells h) y.children in
      let now : flat_map (cells h) (x.children ++ y.children) ++ [] ≡ P ++ (R ++ []) = ap (λ (ns : List ℕ). ns ++ []) (flat_map-append (cells h) x.children y.children) ∙ append_assoc P R [] in
      subst (λ (ns : List ℕ). DropsCells b ((x.at.number ∷ P) ++ (y.at.number ∷ (R ++ []))) (x.at.number ∷ ns)) (sym now)
      (gone_one b (x.at.number ∷ P) y.at.number (R ++ []) blank once)
