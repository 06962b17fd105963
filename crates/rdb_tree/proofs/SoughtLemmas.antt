-- A search down a tree for the first version past a place.
use Rattle.std.proofs.Common.{◌≡◌, ◌≢◌, ◌≤◌, ◌+◌, zero, suc, ℕ, List, [], ◌++◌, length, map, slice_get, Option, Some, None, IsSome, Bool, true, false, inl, inr, refl, sym, ap, ap₂, subst, ◌∙◌, arith}
use Rattle.std.proofs.lemmas.List.Sums.{prefix_len-le-length}
use Rattle.std.specs.List.{prefix_len, Contains}
use Rattle.std.specs.Option.{unwrap_or}
use Rattle.rdb_base.specs.declared.operation.Place.{Place}
use Rattle.rdb_pages.specs.declared.cell.CellRef.{CellRef}
use Rattle.rdb_cells.specs.declared.formats.tree.TreeNode.{TreeNode}
use Rattle.rdb_cells.specs.Images.{Image, IsCell}
use Rattle.rdb_cells.specs.Keys.{Sayings}
use Rattle.rdb_cells.specs.TreeFormat.{IsTreeNode, tree_node_cell, most_keys}
use Rattle.rdb_cells.specs.Words.{no_ref}
use Rattle.rdb_tree.specs.Lookups.{is_near, first_past, first_of, key_beyond}
use Rattle.rdb_tree.specs.Nature.{IsSound}
use Rattle.rdb_tree.specs.Order.{AreKeyed}
use Rattle.rdb_tree.specs.Trees.{BTree, Tree, Empty, Rooted, woven, versions, versions_of, roots, root_of, levels_of, node_with, keys_in, children_in, Stands, IsShaped, least_keys}
use Rattle.rdb_tree.proofs.NodeLemmas.{few_keys, keys_back, children_back, roots_fit, looser, own_cell, proper, stands_held, cell_there}
use Rattle.rdb_tree.proofs.OrderLemmas.{place_cuts, first_beyond}
use Rattle.rdb_tree.proofs.SeekLemmas.{beyond, step, first_assoc, first_none}
use Rattle.rdb_tree.specs.Ways.{IsCut}
use Rattle.rdb_tree.proofs.WovenLemmas.{key_within, each_at, there, map_there, get_there, part_of, bare, keyed_part, own_cells, length_map}

-- what is left of a search: a tree below, and the best version so far
pub record IsSought (said : Sayings) (image : Image) (place : Place) (up : Bool) (whole : Tree) (at : CellRef) (best : Option CellRef) (count : ℕ) : Type 0 where
  pub rest : Tree
  pub sound : IsSound said image rest
  pub root : root_of rest ≡ at
  pub answer : first_past said place up (versions_of whole) ≡ first_of (first_past said place up (versions_of rest)) best
  pub levels : levels_of rest + count ≡ levels_of whole

-- nothing is past a place in an empty tree
pub none_past : (said : Sayings) (place : Place) (up : Bool) → first_past said place up [] ≡ None
none_past said place true = refl
none_past said place false = refl

none_beyond : (near : CellRef → Bool) (up : Bool) → beyond near up [] ≡ None
none_beyond near true = refl
none_beyond near false = refl

-- a sound tree with no root is empty
pub empty_root : (said : Sayings) (image : Image) (tree : Tree) → IsSound said image tree → (root_of tree).number ≡ 0 → tree ≡ Empty
empty_root said image Empty sound none = refl
empty_root said image (Rooted h t) sound none = absurd (let page = (sound.paged t.at.number (own_cell h t)).0 in omega arith)

-- one with a root isn't
pub some_root : (said : Sayings) (image : Image) (tree : Tree) → IsSound said image tree → (root_of tree).number ≢ 0 → (h : ℕ) × (t : BTree h) × (tree ≡ Rooted h t)
some_root said image Empty sound some = absurd (some refl)
some_root said image (Rooted h t) sound some = (h, t, refl)

module _ (said : Sayings) (image : Image) (place : Place) (up : Bool) (whole : Tree) (at : CellRef) (best : Option CellRef) (count : ℕ) where
  pub sought_first : IsSound said image whole → root_of whole ≡ at → best ≡ None → count ≡ 0 → IsSought said image place up whole at best count
  sought_first sound root none start = record {
    rest = whole;
    sound = sound;
    root = root;
    answer = sym (first_none (first_past said place up (versions_of whole))) ∙ ap (first_of (first_past said place up (versions_of whole))) (sym none);
    levels = omega arith;
  }

  module _ (so_far : IsSought said image place up whole at best count) where
    pub sought_found : at.number ≡ 0 → first_past said place up (versions_of whole) ≡ best
    sought_found none =
        let empty = empty_root said image so_far.rest so_far.sound (ap (λ (r : CellRef). r.number) so_far.root ∙ none) in
        so_far.answer
        ∙ ap (λ (tree : Tree). first_of (first_past said place up (versions_of tree)) best) empty
        ∙ ap (λ (o : Option CellRef). first_of o best) (none_past said place up)

    pub sought_levels : at.number ≡ 0 → count ≡ levels_of whole
    sought_levels none =
        let empty = empty_root said image so_far.rest so_far.sound (ap (λ (r : CellRef). r.number) so_far.root ∙ none) in
        let same : levels_of so_far.rest ≡ 0 = ap levels_of empty in
        let levels = so_far.levels in
        omega arith

  -- one level down, in a tree whose node was read
  module _ (h : ℕ) (t : BTree h) (sound : IsSound said image (Rooted h t)) (node : TreeNode) (read : node ≡ node_with t.keys (roots h t.children)) where
    keys_read : keys_in node ≡ t.keys
    keys_read = ap keys_in read ∙ keys_back t.keys (roots h t.children)

    children_read : children_in node ≡ roots h t.children
    children_read = ap children_in read ∙ children_back t.keys (roots h t.children) (roots_fit h 1 t sound.shape)

-- what the search answers of a leaf, and of an inner node by its children
module _ (said : Sayings) (image : Image) (place : Place) (up : Bool) where
  pub leaf_answer : (t : BTree zero) → IsSound said image (Rooted zero t) → first_past said place up t.keys ≡ key_beyond up (prefix_len (is_near said place up) t.keys) t.keys
  leaf_answer t sound =
      let near = is_near said place up in
      let own = bare t.keys in
      first_beyond said place up t.keys sound.keyed
      ∙ ap (beyond near up) (sym own)
      ∙ step near up t.keys [] (omega arith) (subst (IsCut near) (sym own) (place_cuts said place up t.keys sound.keyed.ascending))
      ∙ ap (λ (o : Option CellRef). first_of o (key_beyond up (prefix_len near t.keys) t.keys)) (none_beyond near up)

  module _ (h : ℕ) (t : BTree (suc h)) (sound : IsSound said image (Rooted (suc h) t)) (c : BTree h) (at : slice_get t.children (prefix_len (is_near said place up) t.keys) ≡ Some c) where
    few : length (map (versions h) t.children) ≤ length t.keys + 1
    few = let many = length_map (versions h) t.children in let same = sound.shape.1 in omega arith

    part : (before : List CellRef) × (behind : List CellRef) × (woven t.keys (map (versions h) t.children) ≡ before ++ (versions h c ++ behind))
    part = part_of t.keys (map (versions h) t.children) (prefix_len (is_near said place up) t.keys) (versions h c) (map_there (versions h) t.children (prefix_len (is_near said place up) t.keys) c at) few

    pub child_sound : IsSound said image (Rooted h c)
    child_sound = record {
      stands = each_at (Stands h image) t.children (prefix_len (is_near said place up) t.keys) c at sound.stands.1;
      shape = looser h c (each_at (IsShaped h least_keys) t.children (prefix_len (is_near said place up) t.keys) c at sound.shape.2);
      paged = λ n within. sound.paged n (inr (own_cells h t.children (prefix_len (is_near said place up) t.keys) c at n within));
      keyed = keyed_part said part.0 (versions h c) part.1 (subst (AreKeyed said) part.2 sound.keyed);
    }

    pub inner_answer : first_past said place up (versions (suc h) t) ≡ first_of (first_past said place up (versions h c)) (key_beyond up (prefix_len (is_near said place up) t.keys) t.keys)
    inner_answer =
        let near = is_near said place up in
        let parts = map (versions h) t.children in
        let n = prefix_len near t.keys in
        first_beyond said place up (versions (suc h) t) sound.keyed
        ∙ step near up t.keys parts few (place_cuts said place up (versions (suc h) t) sound.keyed.ascending)
        ∙ ap (λ (p : List CellRef). first_of (beyond near up p) (key_beyond up n t.keys)) (get_there parts n (versions h c) [] (map_there (versions h) t.children n c at))
        ∙ ap (λ (o : Option CellRef). first_of o (key_beyond up n t.keys)) (sym (first_beyond said place up (versions h c) child_sound.keyed))

-- a sound tree stands there
pub record IsHere (said : Sayings) (image : Image) (at : CellRef) : Type 0 where
  pub h : ℕ
  pub t : BTree h
  pub sound : IsSound said image (Rooted h t)
  pub root : t.at ≡ at

module _ (said : Sayings) (image : Image) (at : CellRef) where
  rooted_here : (rest : Tree) → IsSound said image rest → root_of rest ≡ at → at.number ≢ 0 → IsHere said image at
  rooted_here Empty sound root some = absurd (some (ap (λ (r : CellRef). r.number) (sym root)))
  rooted_here (Rooted h t) sound root some = record { h = h; t = t; sound = sound; root = root }

  pub here_is : (place : Place) (up : Bool) (whole : Tree) (best : Option CellRef) (count : ℕ) → IsSought said image place up whole at best count → at.number ≢ 0 → IsHere said image at
  here_is place up whole best count so_far some = rooted_here so_far.rest so_far.sound so_far.root some

  module _ (here : IsHere said image at) where
    pub here_held : image at.number ≡ Some (tree_node_cell (node_with here.t.keys (roots here.h here.t.children)))
    here_held = ap (λ (r : CellRef). image r.number) (sym here.root) ∙ stands_held here.h image here.t here.sound.stands

    pub here_cell : IsCell image at.number
    here_cell = cell_there image at.number (tree_node_cell (node_with here.t.keys (roots here.h here.t.children))) here_held

    module _ (node : TreeNode) (reads : (n : TreeNode) → IsTreeNode n → image at.number ≡ Some (tree_node_cell n) → node ≡ n) where
      pub here_read : node ≡ node_with here.t.keys (roots here.h here.t.children)
      here_read = reads (node_with here.t.keys (roots here.h here.t.children)) (proper here.h 1 here.t here.sound.shape) here_held

      pub here_few : node.count ≤ most_keys
      here_few = subst (λ (n : TreeNode). n.count ≤ most_keys) (sym here_read) (few_keys here.h 1 here.t here.sound.shape).fit

      pub here_keyed : (r : CellRef) → Contains (keys_in node) r → IsSome (said.version_of r.number)
      here_keyed r within = own_keyed here.h here.t here.sound r (subst (λ (ks : List CellRef). Contains ks r) (ap keys_in here_read ∙ keys_back here.t.keys (roots here.h here.t.children)) within)
        where
          own_keyed : (h : ℕ) (t : BTree h) → IsSound said image (Rooted h t) → (r : CellRef) → Contains t.keys r → IsSome (said.version_of r.number)
          own_keyed zero t sound r within = sound.keyed.keyed r within
          own_keyed (suc h) t sound r within = sound.keyed.keyed r (key_within t.keys (map (versions h) t.children) r within)

module _ (said : Sayings) (image : Image) (place : Place) (up : Bool) (whole : Tree) (at : CellRef) (best : Option CellRef) (count : ℕ) (node : TreeNode) (near : ℕ) (next : CellRef) (better : Option CellRef)
    (reads : (n : TreeNode) → IsTreeNode n → image at.number ≡ Some (tree_node_cell n) → node ≡ n)
    (counted : near ≡ prefix_len (is_near said place up) (keys_in node))
    (chosen : better ≡ first_of (key_beyond up near (keys_in node)) best)
    (leads : next ≡ unwrap_or (slice_get (children_in node) near) no_ref) where
  more_from : (rest : Tree) → IsSound said image rest → root_of rest ≡ at → at.number ≢ 0 → first_past said place up (versions_of whole) ≡ first_of (first_past said place up (versions_of rest)) best → levels_of rest + count ≡ levels_of whole → IsSought said image place up whole next better (count + 1)
  more_from Empty sound root some answer levels = absurd (some (ap (λ (r : CellRef). r.number) (sym root)))
  more_from (Rooted zero t) sound root some answer levels =
      let here : IsHere said image at = record { h = zero; t = t; sound = sound; root = root } in
      let read = here_read said image at here node reads in
      let keys : keys_in node ≡ t.keys = ap keys_in read ∙ keys_back t.keys [] in
      let children : children_in node ≡ [] = ap children_in read ∙ children_back t.keys [] (inl refl) in
      record {
        rest = Empty;
        sound = record { stands = tt; shape = tt; paged = λ n none. absurd none; keyed = record { keyed = λ r within. absurd (omega (arith, within.1)); ascending = tt } };
        root = sym (leads ∙ ap (λ (cs : List CellRef). unwrap_or (slice_get cs near) no_ref) children);
        answer =
            answer
            ∙ ap (λ (o : Option CellRef). first_of o best) (leaf_answer said image place up t sound)
            ∙ ap₂ (λ (n : ℕ) (ks : List CellRef). first_of (key_beyond up n ks) best) (sym (counted ∙ ap (prefix_len (is_near said place up)) keys)) (sym keys)
            ∙ sym chosen
            ∙ ap (λ (o : Option CellRef). first_of o better) (sym (none_past said place up));
        levels = omega arith;
      }
  more_from (Rooted (suc h) t) sound root some answer levels =
      let here : IsHere said image at = record { h = suc h; t = t; sound = sound; root = root } in
      let read = here_read said image at here node reads in
      let keys : keys_in node ≡ t.keys = ap keys_in read ∙ keys_back t.keys (roots (suc h) t.children) in
      let children : children_in node ≡ map (λ (child : BTree h). child.at) t.children = ap children_in read ∙ children_back t.keys (roots (suc h) t.children) (roots_fit (suc h) 1 t sound.shape) in
      let same : near ≡ prefix_len (is_near said place up) t.keys = counted ∙ ap (prefix_len (is_near said place up)) keys in
      let few = prefix_len-le-length (is_near said place up) t.keys in
      let many = sound.shape.1 in
      let child = there t.children (prefix_len (is_near said place up) t.keys) (omega arith) in
      record {
        rest = Rooted h child.0;
        sound = child_sound said image place up h t sound child.0 child.1;
        root = sym (leads
            ∙ ap₂ (λ (cs : List CellRef) (n : ℕ). unwrap_or (slice_get cs n) no_ref) children same
            ∙ ap (λ (o : Option CellRef). unwrap_or o no_ref) (map_there (λ (c : BTree h). c.at) t.children (prefix_len (is_near said place up) t.keys) child.0 child.1));
        answer =
            answer
            ∙ ap (λ (o : Option CellRef). first_of o best) (inner_answer said image place up h t sound child.0 child.1)
            ∙ first_assoc (first_past said place up (versions h child.0)) (key_beyond up (prefix_len (is_near said place up) t.keys) t.keys) best
            ∙ ap (first_of (first_past said place up (versions h child.0)))
            (ap₂ (λ (n : ℕ) (ks : List CellRef). first_of (key_beyond up n ks) best) (sym same) (sym keys) ∙ sym chosen);
        levels = omega arith;
      }

  pub sought_more : IsSought said image place up whole at best count → at.number ≢ 0 → IsSought said image place up whole next better (count + 1)
  sought_more so_far some = more_from so_far.rest so_far.sound so_far.root some so_far.answer so_far.levels
