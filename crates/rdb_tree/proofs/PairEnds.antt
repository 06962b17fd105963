-- What comes of a node whose pair of children shares a key, or merges.
use Rattle.std.proofs.Common.{◌≡◌, ◌≢◌, ◌≤◌, ◌<◌, ◌+◌, ◌-◌, ◌⊎◌, zero, suc, ℕ, List, [], ◌∷◌, ◌++◌, length, take, drop, map, get_or, Some, true, inl, inr, refl, sym, ap, ap₂, subst, ◌∙◌, arith}
use Rattle.std.proofs.lemmas.List.{append_assoc, map-append}
use Rattle.std.specs.List.{flat_map}
use Rattle.rdb_pages.specs.declared.cell.CellRef.{CellRef}
use Rattle.rdb_pages.specs.Pages.{zero_cell}
use Rattle.rdb_cells.specs.Images.{Image}
use Rattle.rdb_cells.specs.Links.{IsAmong, AreOnce, AreDisjoint}
use Rattle.rdb_cells.specs.Words.{no_ref}
use Rattle.rdb_cells.specs.Work.{Work, reading, IsLeft}
use Rattle.rdb_cells.proofs.LinkLemmas.{among_front, among_back, once_parts}
use Rattle.rdb_tree.specs.Changes.{cell_of, IsNodeAt, Siblings, replaced_at, without, shared_left, shared_right, merged}
use Rattle.rdb_tree.specs.Losses.{DropsCells, StaysOutside, IsMended, HasMended}
use Rattle.rdb_tree.specs.Trees.{BTree, Each, Rooted, versions, cells, roots, Stands, IsShaped, least_keys}
use Rattle.rdb_tree.proofs.ClimbLemmas.{node_spent}
use Rattle.rdb_tree.proofs.MendLemmas.{three, three_p, three_q, three_r, three_other, three_plain, there_front, there_next, replaced_front, without_front, without_next, left_less_roots, right_more_roots, right_less_roots, left_more_roots, joined_roots, BelowStands, stands_of, below_stands, left_below, right_more_below, right_below, left_more_below, joined_below, left_drops, right_drops, joined_drops}
use Rattle.rdb_tree.proofs.NodeLemmas.{few_keys, roots_fit, stands_held, own_cell}
use Rattle.rdb_tree.proofs.PairLemmas.{behind_part, woven_first, cells_around, mended}
use Rattle.rdb_tree.proofs.SiblingLemmas.{left_less, right_more, left_more, right_less, both_joined, left_list, right_list, joined_list, left_shapes, right_shapes, joined_shape}
use Rattle.rdb_tree.proofs.WovenLemmas.{each_back, map_there, length_map}

pub alike_of : (h : ℕ) (x y : BTree h) → IsShaped h 2 x → IsShaped h 2 y → ((roots h x.children ≡ []) × (roots h y.children ≡ [])) ⊎ ((length (roots h x.children) ≡ length x.keys + 1) × (length (roots h y.children) ≡ length y.keys + 1))
alike_of zero x y left right = inl (refl, refl)
alike_of (suc h) x y left right = inr (length_map (λ (c : BTree h). c.at) x.children ∙ left.1, length_map (λ (c : BTree h). c.at) y.children ∙ right.1)

module _ (w : Work) (at : CellRef) (h place : ℕ) (K L : List CellRef) (k : CellRef) (F B : List (BTree h)) (x y : BTree h) (same : length K ≡ length F) (place_is : length K ≡ place)
    (stands : Stands (suc h) (reading w) (record { at = at; keys = K ++ k ∷ L; children = F ++ x ∷ y ∷ B })) (few : length (K ++ k ∷ L) ≤ 7) (many : length (F ++ x ∷ y ∷ B) ≡ length (K ++ k ∷ L) + 1)
    (once : AreOnce (at.number ∷ flat_map (cells h) (F ++ x ∷ y ∷ B))) (front : Each (IsShaped h least_keys) F) (back : Each (IsShaped h least_keys) B) (left_shape : IsShaped h 2 x) (right_shape : IsShaped h 2 y) where
  abbrev pub pair_node : BTree (suc h)
  pair_node = record { at = at; keys = K ++ k ∷ L; children = F ++ x ∷ y ∷ B }

  pub middle_stands : Each (Stands h (reading w)) (x ∷ y ∷ B)
  middle_stands = each_back (Stands h (reading w)) F (x ∷ y ∷ B) stands.1

  pub node_of_child : (c : BTree h) → Stands h (reading w) c → IsShaped h 2 c → IsNodeAt (reading w) c.at c.keys (roots h c.children)
  node_of_child c stand shape = record { few = (few_keys h 2 c shape).fit; fits = roots_fit h 2 c shape; here = stands_held h (reading w) c stand }

  unfoldable pub sib : Siblings (reading w) (K ++ k ∷ L) (roots (suc h) (F ++ x ∷ y ∷ B)) place
  sib = record {
    between = k;
    left = x.at;
    right = y.at;
    is_between = there_front K k L place place_is;
    is_left = map_there (λ (c : BTree h). c.at) (F ++ x ∷ y ∷ B) place x (there_front F x (y ∷ B) place (sym same ∙ place_is));
    is_right = map_there (λ (c : BTree h). c.at) (F ++ x ∷ y ∷ B) (suc place) y (there_next F x y B place (sym same ∙ place_is));
    left_keys = x.keys;
    left_children = roots h x.children;
    right_keys = y.keys;
    right_children = roots h y.children;
    left_node = node_of_child x middle_stands.0 left_shape;
    right_node = node_of_child y middle_stands.1.0 right_shape;
    alike = alike_of h x y left_shape right_shape;
  }

  all_once : AreOnce (at.number ∷ (flat_map (cells h) F ++ ((cells h x ++ (cells h y ++ [])) ++ flat_map (cells h) B)))
  all_once = subst (λ (ns : List ℕ). AreOnce (at.number ∷ ns)) (cells_around h F B (x ∷ y ∷ [])) once

  middle_once : AreOnce (cells h x ++ (cells h y ++ []))
  middle_once = (once_parts (cells h x ++ (cells h y ++ [])) (flat_map (cells h) B) (once_parts (flat_map (cells h) F) ((cells h x ++ (cells h y ++ [])) ++ flat_map (cells h) B) all_once.1).1).0

  middle_parts : AreOnce (cells h x) × AreOnce (cells h y ++ []) × AreDisjoint (cells h x) (cells h y ++ [])
  middle_parts = once_parts (cells h x) (cells h y ++ []) middle_once

  y_in : (n : ℕ) → IsAmong (cells h y) n → IsAmong (cells h y ++ []) n
  y_in n within = among_front (cells h y) [] n within

  in_all : (n : ℕ) → IsAmong (cells h x ++ (cells h y ++ [])) n → IsAmong (flat_map (cells h) (F ++ x ∷ y ∷ B)) n
  in_all n within = subst (λ (ns : List ℕ). IsAmong ns n) (sym (cells_around h F B (x ∷ y ∷ []))) (among_back (flat_map (cells h) F) ((cells h x ++ (cells h y ++ [])) ++ flat_map (cells h) B) n (among_front (cells h x ++ (cells h y ++ [])) (flat_map (cells h) B) n within))

  x_middle : IsAmong (cells h x ++ (cells h y ++ [])) x.at.number
  x_middle = among_front (cells h x) (cells h y ++ []) x.at.number (own_cell h x)

  y_middle : IsAmong (cells h x ++ (cells h y ++ [])) y.at.number
  y_middle = among_back (cells h x) (cells h y ++ []) y.at.number (y_in y.at.number (own_cell h y))

  x_not_y : x.at.number ≢ y.at.number
  x_not_y is = middle_parts.2 y.at.number (subst (IsAmong (cells h x)) is (own_cell h x)) (y_in y.at.number (own_cell h y))

  x_not_at : x.at.number ≢ at.number
  x_not_at is = once.0 (subst (IsAmong (flat_map (cells h) (F ++ x ∷ y ∷ B))) is (in_all x.at.number x_middle))

  y_not_at : y.at.number ≢ at.number
  y_not_at is = once.0 (subst (IsAmong (flat_map (cells h) (F ++ x ∷ y ∷ B))) is (in_all y.at.number y_middle))

  spent : (n : ℕ) → IsAmong (cells (suc h) pair_node) n → ¬ IsLeft w n
  spent n within = node_spent w (λ r. true) at (Rooted (suc h) pair_node) stands n within

  -- the images after the puts of three cells
  module _ (b : Image) (other : (n : ℕ) → n ≢ x.at.number → n ≢ y.at.number → n ≢ at.number → b n ≡ reading w n) where
    stays : StaysOutside (reading w) b (at.number ∷ (cells h x ++ (cells h y ++ [])))
    stays n out = other n (λ is. out (inr (subst (IsAmong (cells h x ++ (cells h y ++ []))) (sym is) x_middle))) (λ is. out (inr (subst (IsAmong (cells h x ++ (cells h y ++ []))) (sym is) y_middle))) (λ is. out (inl (sym is)))

    x_below : BelowStands h b x
    x_below = below_stands h (reading w) b x middle_stands.0 middle_parts.0 (λ n within not_root. other n not_root
        (λ is. middle_parts.2 n within (y_in n (subst (IsAmong (cells h y)) (sym is) (own_cell h y))))
        (λ is. once.0 (subst (IsAmong (flat_map (cells h) (F ++ x ∷ y ∷ B))) is (in_all n (among_front (cells h x) (cells h y ++ []) n within)))))

    y_below : BelowStands h b y
    y_below = below_stands h (reading w) b y middle_stands.1.0 (once_parts (cells h y) [] middle_parts.1).0 (λ n within not_root. other n
        (λ is. middle_parts.2 n (subst (IsAmong (cells h x)) (sym is) (own_cell h x)) (y_in n within))
        not_root
        (λ is. once.0 (subst (IsAmong (flat_map (cells h) (F ++ x ∷ y ∷ B))) is (in_all n (among_back (cells h x) (cells h y ++ []) n (y_in n within))))))

    -- two siblings in the place of the pair
    two_mended : (u v : BTree h) (m : CellRef) → u.at ≡ x.at → v.at ≡ y.at → Stands h b u → Stands h b v → IsShaped h least_keys u → IsShaped h least_keys v → versions h u ++ m ∷ versions h v ≡ versions h x ++ k ∷ versions h y → DropsCells b (cells h x ++ (cells h y ++ [])) (cells h u ++ (cells h v ++ [])) →
        b at.number ≡ Some (cell_of (replaced_at place m (K ++ k ∷ L)) (roots (suc h) (F ++ x ∷ y ∷ B))) → IsMended (reading w) b h pair_node (record { at = at; keys = K ++ m ∷ L; children = F ++ u ∷ v ∷ B })
    two_mended u v m u_at v_at u_stands v_stands u_shape v_shape list drops here =
        mended (reading w) b h at K L k F B x y same stands few many once front back stays (m ∷ []) (u ∷ v ∷ []) (omega arith) refl (u_shape, (v_shape, tt)) (u_stands, (v_stands, tt))
        (ap (λ (rs : List CellRef). versions h u ++ m ∷ rs) (woven_first L (versions h v) (map (versions h) B))
        ∙ sym (append_assoc (versions h u) (m ∷ versions h v) (behind_part L (map (versions h) B)))
        ∙ ap (λ (rs : List CellRef). rs ++ behind_part L (map (versions h) B)) list)
        drops
        (here
        ∙ ap (λ (ks : List CellRef). Some (cell_of ks (roots (suc h) (F ++ x ∷ y ∷ B)))) (replaced_front K k m L place place_is)
        ∙ ap (λ (rs : List CellRef). Some (cell_of (K ++ m ∷ L) rs))
        (map-append (λ (c : BTree h). c.at) F (x ∷ y ∷ B)
        ∙ ap₂ (λ (r s : CellRef). map (λ (c : BTree h). c.at) F ++ r ∷ s ∷ map (λ (c : BTree h). c.at) B) (sym u_at) (sym v_at)
        ∙ sym (map-append (λ (c : BTree h). c.at) F (u ∷ v ∷ B))))

    -- one
    one_mended : (u : BTree h) → u.at ≡ x.at → Stands h b u → IsShaped h least_keys u → versions h u ≡ versions h x ++ k ∷ versions h y → DropsCells b (cells h x ++ (cells h y ++ [])) (cells h u ++ []) →
        b at.number ≡ Some (cell_of (without place (K ++ k ∷ L)) (without (suc place) (roots (suc h) (F ++ x ∷ y ∷ B)))) → IsMended (reading w) b h pair_node (record { at = at; keys = K ++ L; children = F ++ u ∷ B })
    one_mended u u_at u_stands u_shape list drops here =
        let first = length_map (λ (c : BTree h). c.at) F in
        mended (reading w) b h at K L k F B x y same stands few many once front back stays [] (u ∷ []) (omega arith) refl (u_shape, tt) (u_stands, tt)
        (woven_first L (versions h u) (map (versions h) B) ∙ ap (λ (rs : List CellRef). rs ++ behind_part L (map (versions h) B)) list)
        drops
        (here
        ∙ ap (λ (ks : List CellRef). Some (cell_of ks (without (suc place) (roots (suc h) (F ++ x ∷ y ∷ B))))) (without_front K k L place place_is)
        ∙ ap (λ (rs : List CellRef). Some (cell_of (K ++ L) rs))
        (ap (without (suc place)) (map-append (λ (c : BTree h). c.at) F (x ∷ y ∷ B))
        ∙ without_next (map (λ (c : BTree h). c.at) F) x.at y.at (map (λ (c : BTree h). c.at) B) place (first ∙ sym same ∙ place_is)
        ∙ ap (λ (r : CellRef). map (λ (c : BTree h). c.at) F ++ r ∷ map (λ (c : BTree h). c.at) B) (sym u_at)
        ∙ sym (map-append (λ (c : BTree h). c.at) F (u ∷ B))))

  abbrev last_key : CellRef
  last_key = get_or x.keys (length x.keys - 1) no_ref

  abbrev first_key : CellRef
  first_key = get_or y.keys 0 no_ref

  -- the left one gives its last key
  pub left_gives : IsShaped h least_keys x → least_keys < length x.keys → length y.keys ≤ 6 → HasMended w (shared_left w at sib) h pair_node
  unfolding sib
  left_gives shape enough room =
      let shapes = left_shapes k h x y shape enough right_shape room in
      let c = cell_of (take (length x.keys - 1) x.keys) (take (length (roots h x.children) - 1) (roots h x.children)) in
      let d = cell_of (k ∷ y.keys) (drop (length (roots h x.children) - 1) (roots h x.children) ++ roots h y.children) in
      let e = cell_of (replaced_at place last_key (K ++ k ∷ L)) (roots (suc h) (F ++ x ∷ y ∷ B)) in
      let b = reading (three w x.at y.at at c d e x_not_y x_not_at y_not_at) in
      let other = three_other w x.at y.at at c d e x_not_y x_not_at y_not_at in
      record {
        now = record { at = at; keys = K ++ last_key ∷ L; children = F ++ left_less h x ∷ right_more h x k y ∷ B };
        mended = two_mended b other (left_less h x) (right_more h x k y) last_key refl refl
            (stands_of h b (left_less h x) (three_p w x.at y.at at c d e x_not_y x_not_at y_not_at ∙ ap (λ (rs : List CellRef). Some (cell_of (take (length x.keys - 1) x.keys) rs)) (sym (left_less_roots h x))) (left_below h b x (x_below b other)))
            (stands_of h b (right_more h x k y) (three_q w x.at y.at at c d e x_not_y x_not_at y_not_at ∙ ap (λ (rs : List CellRef). Some (cell_of (k ∷ y.keys) rs)) (sym (right_more_roots h x k y))) (right_more_below h b x k y (x_below b other) (y_below b other)))
            shapes.0 shapes.1 (left_list k h least_keys x y shape (omega arith)) (left_drops b k h x y middle_once)
            (three_r w x.at y.at at c d e x_not_y x_not_at y_not_at);
        plain = three_plain w x.at y.at at c d e x_not_y x_not_at y_not_at (cells (suc h) pair_node) (inr (in_all x.at.number x_middle)) (inr (in_all y.at.number y_middle)) (inl refl) spent;
      }

  -- the right one gives its first key
  pub right_gives : IsShaped h least_keys y → least_keys < length y.keys → length x.keys ≤ 6 → HasMended w (shared_right w at sib) h pair_node
  unfolding sib
  right_gives shape enough room =
      let shapes = right_shapes k h x y left_shape room shape enough in
      let c = cell_of (drop 1 y.keys) (drop 1 (roots h y.children)) in
      let d = cell_of (x.keys ++ k ∷ []) (roots h x.children ++ take 1 (roots h y.children)) in
      let e = cell_of (replaced_at place first_key (K ++ k ∷ L)) (roots (suc h) (F ++ x ∷ y ∷ B)) in
      let y_not_x : y.at.number ≢ x.at.number = λ is. x_not_y (sym is) in
      let b = reading (three w y.at x.at at c d e y_not_x y_not_at x_not_at) in
      let other : (n : ℕ) → n ≢ x.at.number → n ≢ y.at.number → n ≢ at.number → b n ≡ reading w n = λ n not_x not_y not_at. three_other w y.at x.at at c d e y_not_x y_not_at x_not_at n not_y not_x not_at in
      record {
        now = record { at = at; keys = K ++ first_key ∷ L; children = F ++ left_more h x k y ∷ right_less h y ∷ B };
        mended = two_mended b other (left_more h x k y) (right_less h y) first_key refl refl
            (stands_of h b (left_more h x k y) (three_q w y.at x.at at c d e y_not_x y_not_at x_not_at ∙ ap (λ (rs : List CellRef). Some (cell_of (x.keys ++ k ∷ []) rs)) (sym (left_more_roots h x k y))) (left_more_below h b x k y (x_below b other) (y_below b other)))
            (stands_of h b (right_less h y) (three_p w y.at x.at at c d e y_not_x y_not_at x_not_at ∙ ap (λ (rs : List CellRef). Some (cell_of (drop 1 y.keys) rs)) (sym (right_less_roots h y))) (right_below h b y (y_below b other)))
            shapes.0 shapes.1 (right_list k h 2 least_keys x y left_shape shape (omega arith)) (right_drops b k h x y middle_once)
            (three_r w y.at x.at at c d e y_not_x y_not_at x_not_at);
        plain = three_plain w y.at x.at at c d e y_not_x y_not_at x_not_at (cells (suc h) pair_node) (inr (in_all y.at.number y_middle)) (inr (in_all x.at.number x_middle)) (inl refl) spent;
      }

  -- they merge
  pub they_merge : length x.keys + length y.keys ≤ 6 → HasMended w (merged w at sib) h pair_node
  unfolding sib
  they_merge room =
      let z = both_joined h x k y in
      let c = cell_of (x.keys ++ k ∷ y.keys) (roots h x.children ++ roots h y.children) in
      let e = cell_of (without place (K ++ k ∷ L)) (without (suc place) (roots (suc h) (F ++ x ∷ y ∷ B))) in
      let b = reading (three w x.at y.at at c zero_cell e x_not_y x_not_at y_not_at) in
      let other = three_other w x.at y.at at c zero_cell e x_not_y x_not_at y_not_at in
      record {
        now = record { at = at; keys = K ++ L; children = F ++ z ∷ B };
        mended = one_mended b other z refl
            (stands_of h b z (three_p w x.at y.at at c zero_cell e x_not_y x_not_at y_not_at ∙ ap (λ (rs : List CellRef). Some (cell_of (x.keys ++ k ∷ y.keys) rs)) (sym (joined_roots h x k y))) (joined_below h b x k y (x_below b other) (y_below b other)))
            (joined_shape k h x y left_shape right_shape room) (joined_list k h 2 x y left_shape)
            (joined_drops b k h x y middle_once (three_q w x.at y.at at c zero_cell e x_not_y x_not_at y_not_at))
            (three_r w x.at y.at at c zero_cell e x_not_y x_not_at y_not_at);
        plain = three_plain w x.at y.at at c zero_cell e x_not_y x_not_at y_not_at (cells (suc h) pair_node) (inr (in_all x.at.number x_middle)) (inr (in_all y.at.number y_middle)) (inl refl) spent;
      }
