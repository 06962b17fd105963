-- The short child of a node, its sibling before it, and the one behind it.
use Rattle.std.proofs.Common.{◌≡◌, ◌≢◌, ◌≤◌, ◌<◌, ◌+◌, ◌-◌, suc, ℕ, List, [], ◌∷◌, ◌++◌, length, length-append, take, get_or, slice_get, Some, true, false, inl, inr, refl, sym, ap, subst, ◌∙◌, arith, nat_lt}
use Rattle.std.proofs.lemmas.List.{append_assoc}
use Rattle.std.specs.Prelude.{nat_le}
use borrow.Author.Tests.{ltb-true, ltb-false, leb-true, leb-false}
use Rattle.rdb_pages.specs.declared.cell.CellRef.{CellRef}
use Rattle.rdb_cells.specs.Work.{Work, reading}
use Rattle.rdb_tree.specs.Changes.{cell_of, IsNodeAt, Siblings, shared_left, shared_right, merged}
use Rattle.rdb_tree.specs.Losses.{HasMended, IsShort}
use Rattle.rdb_tree.specs.Trees.{BTree, Each, cells, roots, Stands, IsShaped, least_keys}
use Rattle.rdb_tree.proofs.MendLemmas.{plain_first, plain_more, there_front, there_next}
use Rattle.rdb_tree.proofs.NodeLemmas.{few_keys, roots_fit, stands_held}
use Rattle.rdb_tree.proofs.ShortLemmas.{fewer, full, IsPairOf, pair_of, the_siblings, left_ends, right_ends, merge_ends}
use Rattle.rdb_tree.proofs.SiblingLemmas.{HasLast, has_last}
use Rattle.rdb_tree.proofs.WovenLemmas.{each_at, each_front, each_back, each_both, length_map, map_there, get_there}

module _ (w : Work) (at : CellRef) (h place : ℕ) (t : BTree (suc h)) (s : IsShort (reading w) at place h t) where
  -- the node itself
  pub parent_node : IsNodeAt (reading w) at t.keys (roots (suc h) t.children)
  parent_node = record {
    few = s.keys.fit;
    fits = inr (length_map (λ (c : BTree h). c.at) t.children ∙ s.many);
    here = subst (λ (r : CellRef). reading w r.number ≡ Some (cell_of t.keys (roots (suc h) t.children))) s.root s.stands.0;
  }

  counts : length s.front + length s.back + 1 ≡ length t.keys + 1
  counts =
      let both = length-append s.front (s.short ∷ s.back) in
      let count = ap (length {A = BTree h}) s.children_are in
      let many = s.many in
      omega arith

  short_there : slice_get t.children place ≡ Some s.short
  short_there = subst (λ (cs : List (BTree h)). slice_get cs place ≡ Some s.short) (sym s.children_are) (there_front s.front s.short s.back place s.place_is)

  short_fit : length s.short.keys ≤ 7
  short_fit = (few_keys h 2 s.short s.short_shape).fit

  -- a child at a place of the slice
  child_node : (cs : List CellRef) → cs ≡ roots (suc h) t.children → (n : ℕ) (c : BTree h) → slice_get t.children n ≡ Some c → IsShaped h 2 c → (d : CellRef) → IsNodeAt (reading w) (get_or cs n d) c.keys (roots h c.children)
  child_node cs c_is n c there shape d =
      let at_c : get_or cs n d ≡ c.at = ap (λ (rs : List CellRef). get_or rs n d) c_is ∙ get_there (roots (suc h) t.children) n c.at d (map_there (λ (x : BTree h). x.at) t.children n c there) in
      subst (λ (r : CellRef). IsNodeAt (reading w) r c.keys (roots h c.children)) (sym at_c) (record {
        few = (few_keys h 2 c shape).fit;
        fits = roots_fit h 2 c shape;
        here = stands_held h (reading w) c (each_at (Stands h (reading w)) t.children n c there s.stands.1);
      })

  module _ (vs cs : List CellRef) (v_is : vs ≡ t.keys) (c_is : cs ≡ roots (suc h) t.children) where
    pub place_bound : place < length cs
    place_bound =
        let count = counts in
        let same = ap (length {A = CellRef}) c_is in
        let roots_count = length_map (λ (c : BTree h). c.at) t.children in
        let many = s.many in
        let there = s.place_is in
        omega arith

    pub first_below : place ≡ 0 → place < length vs
    first_below first =
        let same = ap (length {A = CellRef}) v_is in
        let enough = s.keys.enough in
        omega arith

    pub inner_below : place ≢ length vs → place < length vs
    inner_below apart =
        let same = ap (length {A = CellRef}) v_is in
        let count = counts in
        let there = s.place_is in
        omega arith

    pub children_few : length cs ≤ 8
    children_few =
        let same = ap (length {A = CellRef}) c_is in
        let roots_count = length_map (λ (c : BTree h). c.at) t.children in
        let many = s.many in
        let few = s.keys.fit in
        omega arith

    pub short_node : (d : CellRef) → IsNodeAt (reading w) (get_or cs place d) s.short.keys (roots h s.short.children)
    short_node d = child_node cs c_is place s.short short_there s.short_shape d

    -- it has enough
    pub enough_ends : nat_le least_keys (length s.short.keys) ≡ true → HasMended w w h t
    enough_ends test = record {
      now = t;
      mended = record {
        at = refl;
        stands = s.stands;
        shape = λ least enough. (
          record { enough = omega arith; fit = s.keys.fit },
          s.many,
          subst (Each (IsShaped h least_keys)) (sym s.children_are) (each_both (IsShaped h least_keys) s.front (s.short ∷ s.back) s.front_shape (full h s.short s.short_shape (leb-true least_keys (length s.short.keys) test), s.back_shape)),
        );
        same = refl;
        drops = record { more = λ n within. within; gone = λ n within. inl within; once = s.once };
        elsewhere = λ n out. refl;
      };
      plain = plain_more w w (cells (suc h) t) (plain_first w (cells (suc h) t));
    }

    module _ (less : nat_le least_keys (length s.short.keys) ≡ false) where
      two_keys : length s.short.keys ≤ 2
      two_keys = let few = leb-false least_keys (length s.short.keys) less in omega arith

      -- the sibling before it
      module _ (some : 0 < place) where
        before : HasLast (BTree h) s.front
        before = has_last s.front (let there = s.place_is in omega arith)

        ahead : List (BTree h)
        ahead = take (length s.front - 1) s.front

        ahead_is : (ahead ++ before.last ∷ [] ≡ s.front) × (length ahead ≡ place - 1)
        unfolding ahead
        ahead_is = (
          before.taken,
          (let both = length-append (take (length s.front - 1) s.front) (before.last ∷ []) in
              let count = ap (length {A = BTree h}) before.taken in
              let there = s.place_is in
              omega arith),
        )

        left_pair : IsPairOf h t (place - 1) ahead s.back before.last s.short
        left_pair = pair_of h t (place - 1) ahead s.back before.last s.short
            (s.children_are ∙ ap (λ (cs : List (BTree h)). cs ++ s.short ∷ s.back) (sym ahead_is.0) ∙ append_assoc ahead (before.last ∷ []) (s.short ∷ s.back))
            ahead_is.1 s.many

        ahead_shape : Each (IsShaped h least_keys) ahead × IsShaped h least_keys before.last
        ahead_shape =
            let all = subst (Each (IsShaped h least_keys)) (sym ahead_is.0) s.front_shape in
            (each_front (IsShaped h least_keys) ahead (before.last ∷ []) all, (each_back (IsShaped h least_keys) ahead (before.last ∷ []) all).0)

        left_there : slice_get t.children (place - 1) ≡ Some before.last
        left_there = subst (λ (cs : List (BTree h)). slice_get cs (place - 1) ≡ Some before.last) (sym (ap (λ (u : BTree (suc h)). u.children) left_pair.whole)) (there_front ahead before.last (s.short ∷ s.back) (place - 1) ahead_is.1)

        pub left_keys : List CellRef
        left_keys = before.last.keys

        pub left_children : List CellRef
        left_children = roots h before.last.children

        pub left_node : (d : CellRef) → IsNodeAt (reading w) (get_or cs (place - 1) d) left_keys left_children
        unfolding left_keys left_children
        left_node d = child_node cs c_is (place - 1) before.last left_there (fewer h before.last ahead_shape.1) d

        left_fit : length before.last.keys ≤ 7
        left_fit = (few_keys h least_keys before.last ahead_shape.1).fit

        left_many : least_keys ≤ length before.last.keys
        left_many = (few_keys h least_keys before.last ahead_shape.1).enough

        pub left_siblings : nat_lt least_keys (length left_keys) ≡ true → (sb : Siblings (reading w) vs cs (place - 1)) × (0 < length sb.left_keys) × (length sb.right_keys < 7)
        unfolding left_keys
        left_siblings spare =
            let sb = the_siblings w at h (place - 1) t s.root s.stands s.keys s.many s.once ahead s.back before.last s.short left_pair ahead_shape.0 s.back_shape (fewer h before.last ahead_shape.1) s.short_shape vs cs v_is c_is in
            let many = left_many in
            let few = two_keys in
            let first = sb.1 in
            let second = sb.2 in
            (sb.0, omega arith, omega arith)

        pub left_shared : nat_lt least_keys (length left_keys) ≡ true → (after : Work) → ((sb : Siblings (reading w) vs cs (place - 1)) → after ≡ shared_left w at sb) → HasMended w after h t
        unfolding left_keys
        left_shared spare after works =
            let few = two_keys in
            left_ends w at h (place - 1) t s.root s.stands s.keys s.many s.once ahead s.back before.last s.short left_pair ahead_shape.0 s.back_shape (fewer h before.last ahead_shape.1) s.short_shape vs cs v_is c_is after works ahead_shape.1 (ltb-true least_keys (length before.last.keys) spare) (omega arith)

        pub left_merge_siblings : nat_lt least_keys (length left_keys) ≡ false → (sb : Siblings (reading w) vs cs (place - 1)) × (length sb.left_keys + length sb.right_keys < 7)
        unfolding left_keys
        left_merge_siblings none =
            let sb = the_siblings w at h (place - 1) t s.root s.stands s.keys s.many s.once ahead s.back before.last s.short left_pair ahead_shape.0 s.back_shape (fewer h before.last ahead_shape.1) s.short_shape vs cs v_is c_is in
            let most = ltb-false least_keys (length before.last.keys) none in
            let few = two_keys in
            let first = sb.1 in
            let second = sb.2 in
            (sb.0, omega arith)

        pub left_merged : nat_lt least_keys (length left_keys) ≡ false → (after : Work) → ((sb : Siblings (reading w) vs cs (place - 1)) → after ≡ merged w at sb) → HasMended w after h t
        unfolding left_keys
        left_merged none after works =
            let most = ltb-false least_keys (length before.last.keys) none in
            let few = two_keys in
            merge_ends w at h (place - 1) t s.root s.stands s.keys s.many s.once ahead s.back before.last s.short left_pair ahead_shape.0 s.back_shape (fewer h before.last ahead_shape.1) s.short_shape vs cs v_is c_is after works (omega arith)

      -- the sibling behind it
      module _ (r : BTree h) (others : List (BTree h)) (back_is : s.back ≡ r ∷ others) where
        right_is : t.children ≡ s.front ++ s.short ∷ r ∷ others
        right_is = s.children_are ∙ ap (λ (cs : List (BTree h)). s.front ++ s.short ∷ cs) back_is

        right_pair : IsPairOf h t place s.front others s.short r
        right_pair = pair_of h t place s.front others s.short r right_is s.place_is s.many

        behind_shape : Each (IsShaped h least_keys) (r ∷ others)
        behind_shape = subst (Each (IsShaped h least_keys)) back_is s.back_shape

        pub right_node : (d : CellRef) → IsNodeAt (reading w) (get_or cs (place + 1) d) r.keys (roots h r.children)
        right_node d =
            let one : suc place ≡ place + 1 = omega arith in
            child_node cs c_is (place + 1) r (subst (λ (n : ℕ). slice_get t.children n ≡ Some r) one (subst (λ (cs : List (BTree h)). slice_get cs (suc place) ≡ Some r) (sym right_is) (there_next s.front s.short r others place s.place_is))) (fewer h r behind_shape.0) d

        pub right_siblings : nat_lt least_keys (length r.keys) ≡ true → (sb : Siblings (reading w) vs cs place) × (0 < length sb.right_keys) × (length sb.left_keys < 7)
        right_siblings spare =
            let sb = the_siblings w at h place t s.root s.stands s.keys s.many s.once s.front others s.short r right_pair s.front_shape behind_shape.1 s.short_shape (fewer h r behind_shape.0) vs cs v_is c_is in
            let many = (few_keys h least_keys r behind_shape.0).enough in
            let few = two_keys in
            let first = sb.1 in
            let second = sb.2 in
            (sb.0, omega arith, omega arith)

        pub right_shared : nat_lt least_keys (length r.keys) ≡ true → (after : Work) → ((sb : Siblings (reading w) vs cs place) → after ≡ shared_right w at sb) → HasMended w after h t
        right_shared spare after works =
            let few = two_keys in
            right_ends w at h place t s.root s.stands s.keys s.many s.once s.front others s.short r right_pair s.front_shape behind_shape.1 s.short_shape (fewer h r behind_shape.0) vs cs v_is c_is after works behind_shape.0 (ltb-true least_keys (length r.keys) spare) (omega arith)

        pub right_merge_siblings : nat_lt least_keys (length r.keys) ≡ false → (sb : Siblings (reading w) vs cs place) × (length sb.left_keys + length sb.right_keys < 7)
        right_merge_siblings none =
            let sb = the_siblings w at h place t s.root s.stands s.keys s.many s.once s.front others s.short r right_pair s.front_shape behind_shape.1 s.short_shape (fewer h r behind_shape.0) vs cs v_is c_is in
            let most = ltb-false least_keys (length r.keys) none in
            let few = two_keys in
            let first = sb.1 in
            let second = sb.2 in
            (sb.0, omega arith)

        pub right_merged : nat_lt least_keys (length r.keys) ≡ false → (after : Work) → ((sb : Siblings (reading w) vs cs place) → after ≡ merged w at sb) → HasMended w after h t
        right_merged none after works =
            let most = ltb-false least_keys (length r.keys) none in
            let few = two_keys in
            merge_ends w at h place t s.root s.stands s.keys s.many s.once s.front others s.short r right_pair s.front_shape behind_shape.1 s.short_shape (fewer h r behind_shape.0) vs cs v_is c_is after works (omega arith)

    -- where there is one behind it
    pub behind_there : place < length vs → (r : BTree h) × (others : List (BTree h)) × (s.back ≡ r ∷ others)
    behind_there below = of_back s.back refl
      where
        of_back : (back : List (BTree h)) → s.back ≡ back → (r : BTree h) × (others : List (BTree h)) × (s.back ≡ r ∷ others)
        of_back [] is = absurd (
            let none = ap (length {A = BTree h}) is in
            let count = counts in
            let same = ap (length {A = CellRef}) v_is in
            let there = s.place_is in
            omega arith)
        of_back (r ∷ others) is = (r, others, is)
