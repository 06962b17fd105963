-- A version is taken out of a tree: out of a leaf, out of a node by the last version before it, or out of a child.
use Rattle.std.proofs.Common.{◌≡◌, ◌≢◌, ◌<◌, ◌+◌, ◌-◌, ◌*◌, zero, suc, ℕ, List, [], ◌∷◌, ◌++◌, length, take, drop, map, slice_get, Option, Some, IsSome, Bool, true, false, inl, inr, refl, sym, ap, ap₂, subst, ◌∙◌, arith}
use Rattle.std.proofs.lemmas.Bool.{false≢true}
use Rattle.std.proofs.lemmas.List.{append_assoc}
use Rattle.std.proofs.Permutation.{which}
use Rattle.std.proofs.lemmas.List.Sums.{prefix_len-le-length}
use Rattle.std.specs.List.{Contains, prefix_len, flat_map}
use Rattle.std.specs.Option.{unwrap_or}
use Rattle.rdb_pages.specs.declared.cell.CellRef.{CellRef}
use Rattle.rdb_cells.specs.Images.{IsCell}
use Rattle.rdb_cells.specs.Keys.{Sayings}
use Rattle.rdb_cells.specs.Words.{no_ref}
use Rattle.rdb_cells.specs.Work.{Work, reading}
use Rattle.rdb_cells.proofs.WorkLemmas.{put_reads}
use Rattle.rdb_tree.specs.Changes.{cell_of, with_cell, HasPlaces, without, replaced_at}
use Rattle.rdb_tree.specs.Losses.{Leaves, DropsCells, IsShort, HasMended, IsBranch, IsHome, HasLost, HasLostLast}
use Rattle.rdb_tree.specs.Order.{AreKeyed, is_before}
use Rattle.rdb_tree.specs.Trees.{BTree, Rooted, woven, versions, cells, roots, is_empty, least_keys}
use Rattle.rdb_tree.proofs.ChangeLemmas.{length_replaced, below_there}
use Rattle.rdb_tree.proofs.ChildLemmas.{with_another, map_another, same_another}
use Rattle.rdb_tree.proofs.ClimbLemmas.{node_spent}
use Rattle.rdb_tree.proofs.LastLemmas.{inner_full}
use Rattle.rdb_tree.proofs.LocatedLemmas.{IsBelow, located, located_leaf}
use Rattle.rdb_tree.proofs.LossLemmas.{IsReduced, leaf_lost, branch_child, child_reduced, reduced_mended, less_drops, less_short, less_plain, less_elsewhere}
use Rattle.rdb_tree.proofs.MendLemmas.{plain_put, plain_within}
use Rattle.rdb_tree.proofs.NodeLemmas.{looser, cell_there}
use Rattle.rdb_tree.proofs.WovenLemmas.{there, map_there, length_map, part_of, keyed_part, key_within, own_cells}

-- a key is replaced by the last version before it
swapped : (keys : List CellRef) (parts : List (List CellRef)) (n : ℕ) (version last : CellRef) (was now : List CellRef) → slice_get keys n ≡ Some version → slice_get parts n ≡ Some was → was ≡ now ++ last ∷ [] → Leaves version (woven keys parts) (woven (replaced_at n last keys) (with_another n now parts))
swapped [] parts n version last was now key part is = cc
swapped (k ∷ ks) [] n version last was now key part is = cc
swapped (k ∷ ks) (p ∷ ps) zero version last was now key part is =
    let same : k ≡ version = cc in
    let own : p ≡ was = cc in
    record {
      front = now ++ last ∷ [];
      back = woven ks ps;
      was_is = ap₂ (λ (q : List CellRef) (r : CellRef). q ++ r ∷ woven ks ps) (own ∙ is) same;
      now_is = sym (append_assoc now (last ∷ []) (woven ks ps));
    }
swapped (k ∷ ks) (p ∷ ps) (suc n) version last was now key part is =
    let rest = swapped ks ps n version last was now key part is in
    record {
      front = p ++ k ∷ rest.front;
      back = rest.back;
      was_is = ap (λ (w : List CellRef). p ++ k ∷ w) rest.was_is ∙ sym (append_assoc p (k ∷ rest.front) (version ∷ rest.back));
      now_is = ap (λ (w : List CellRef). p ++ k ∷ w) rest.now_is ∙ sym (append_assoc p (k ∷ rest.front) rest.back);
    }

module _ (w mid after : Work) (version last at : CellRef) (least place h : ℕ) (t : BTree (suc h)) (branch : IsBranch (reading w) at least (suc h) t) (some : 0 < length t.keys) (c : BTree h) (there_c : slice_get t.children place ≡ Some c) (key : slice_get t.keys place ≡ Some version)
    (has : HasLostLast w mid last h c) (is : after ≡ with_cell mid at (cell_of (replaced_at place last t.keys) (roots (suc h) t.children))) where
  abbrev put : Work
  put = with_cell mid at (cell_of (replaced_at place last t.keys) (roots (suc h) t.children))

  root_is : t.at.number ≡ at.number
  root_is = ap (λ (r : CellRef). r.number) branch.root

  as_many : length (replaced_at place last t.keys) ≡ length t.keys
  as_many = length_replaced place last t.keys (below_there t.keys place version key)

  here : reading put t.at.number ≡ Some (cell_of (replaced_at place last t.keys) (roots (suc h) t.children))
  here = ap (reading put) root_is ∙ (put_reads mid at (cell_of (replaced_at place last t.keys) (roots (suc h) t.children))).here

  stays : (n : ℕ) → n ≢ t.at.number → reading put n ≡ reading mid n
  stays n apart = (put_reads mid at (cell_of (replaced_at place last t.keys) (roots (suc h) t.children))).elsewhere n (λ same. apart (same ∙ sym root_is))

  short_now : IsShort (reading put) at place h (record { at = t.at; keys = replaced_at place last t.keys; children = with_another place has.lost_one.now t.children })
  short_now = less_short w mid last at least place (3 * h + 1) h t branch some c there_c has.lost_one (reading put) (replaced_at place last t.keys) as_many here stays

  drops_mid : DropsCells (reading mid) (cells (suc h) t) (t.at.number ∷ flat_map (cells h) (with_another place has.lost_one.now t.children))
  drops_mid = less_drops w mid last at least place (3 * h + 1) h t branch some c there_c has.lost_one

  key_put : IsReduced w put version at place (3 * h + 1 + 1) h t
  key_put = record {
    now = record { at = t.at; keys = replaced_at place last t.keys; children = with_another place has.lost_one.now t.children };
    at_is = refl;
    short = short_now;
    as_many = as_many;
    leaves = subst (λ (ps : List (List CellRef)). Leaves version (versions (suc h) t) (woven (replaced_at place last t.keys) ps)) (sym (map_another (versions h) place has.lost_one.now t.children))
        (swapped t.keys (map (versions h) t.children) place version last (versions h c) (versions h has.lost_one.now) key (map_there (versions h) t.children place c there_c) has.list);
    drops = record {
      more = drops_mid.more;
      gone = λ n within. elim (which n t.at.number) [
        | inl same ↦ inl (inl (sym same))
        | inr apart ↦ elim (drops_mid.gone n within) [
          | inl still ↦ inl still
          | inr blank ↦ inr (stays n apart ∙ blank)
        ]
      ];
      once = drops_mid.once;
    };
    elsewhere = λ n out. stays n (λ same. out (inl (sym same))) ∙ less_elsewhere w mid last at least place (3 * h + 1) h t branch some c there_c has.lost_one n out;
    plain = plain_put w mid (cells (suc h) t) (3 * h + 1) at (cell_of (replaced_at place last t.keys) (roots (suc h) t.children)) (less_plain w mid last at least place (3 * h + 1) h t branch some c there_c has.lost_one) (inl root_is)
        (node_spent w (λ r. true) at (Rooted (suc h) t) branch.stands at.number (inl root_is));
  }

  pub key_reduced : IsReduced w after version at place (3 * h + 1 + 1) h t
  key_reduced = subst (λ (v : Work). IsReduced w v version at place (3 * h + 1 + 1) h t) (sym is) key_put

-- the tree that lists the version
module _ (said : Sayings) (w : Work) (version at : CellRef) (place : ℕ) where
  near : CellRef → Bool
  near = is_before said version

  pub home_keyed : (h : ℕ) (t : BTree h) → IsHome said (reading w) version at h t → IsSome (said.version_of version.number)
  home_keyed h t home = home.keyed.keyed version home.within

  -- each key of the node has one
  pub home_keys : (h : ℕ) (t : BTree h) → IsHome said (reading w) version at h t → (r : CellRef) → Contains t.keys r → IsSome (said.version_of r.number)
  home_keys zero t home r within = home.keyed.keyed r within
  home_keys (suc h) t home r within = home.keyed.keyed r (key_within t.keys (map (versions h) t.children) r within)

  pub leaf_place : (h : ℕ) (t : BTree h) → IsHome said (reading w) version at h t → is_empty (roots h t.children) ≡ true → place ≡ prefix_len (is_before said version) t.keys → place < length t.keys
  leaf_place zero t home leaf same = below_there t.keys place version (located_leaf said version (home_keyed zero t home) t.keys place same home.keyed.ascending home.within)
  leaf_place (suc h) t home leaf same = absurd (false≢true (sym (inner_full (reading w) at 1 h t home.branch) ∙ leaf))

  -- a leaf
  pub leaf_ends : (after : Work) (h : ℕ) (t : BTree h) (rest : List CellRef) → IsHome said (reading w) version at h t → is_empty (roots h t.children) ≡ true → place ≡ prefix_len (is_before said version) t.keys → rest ≡ without place t.keys → after ≡ with_cell w at (cell_of rest []) → HasLost w after version (3 * h + 2) h t
  leaf_ends after zero t rest home leaf same rest_is is =
      let here = located_leaf said version (home_keyed zero t home) t.keys place same home.keyed.ascending home.within in
      let has = leaf_lost w after at 1 t rest version (record { front = take place t.keys; back = drop (suc place) t.keys; was_is = sym (same_another place version t.keys here); now_is = rest_is }) home.branch is in
      record { now = has.0.now; less = has.0.less; plain = plain_within w after (cells zero t) 1 2 (omega arith) has.0.plain }
  leaf_ends after (suc h) t rest home leaf same rest_is is = absurd (false≢true (sym (inner_full (reading w) at 1 h t home.branch) ∙ leaf))

  module _ (child : CellRef) (h : ℕ) (t : BTree (suc h)) (home : IsHome said (reading w) version at (suc h) t) (same : place ≡ prefix_len (is_before said version) t.keys) (child_is : child ≡ unwrap_or (slice_get (roots (suc h) t.children) place) no_ref) where
    found : (c : BTree h) × (slice_get t.children place ≡ Some c)
    found = there t.children place (let many = home.branch.shape.1 in let few = prefix_len-le-length (is_before said version) t.keys in omega arith)

    child_at_c : child ≡ found.0.at
    child_at_c = child_is ∙ ap (λ (o : Option CellRef). unwrap_or o no_ref) (map_there (λ (c : BTree h). c.at) t.children place found.0 found.1)

    below : IsBranch (reading w) child least_keys h found.0
    below = subst (λ (r : CellRef). IsBranch (reading w) r least_keys h found.0) (sym child_at_c) (branch_child (reading w) at 1 h t home.branch place found.0 found.1)

    enough : 0 < length t.keys
    enough = let least = home.branch.shape.0.enough in omega arith

    many_parts : length (map (versions h) t.children) ≡ length t.keys + 1
    many_parts = length_map (versions h) t.children ∙ home.branch.shape.1

    -- below the child
    module _ (other : slice_get t.keys place ≢ Some version) where
      inside : Contains (versions h found.0) version
      inside = elim (located said version (home_keyed (suc h) t home) t.keys (map (versions h) t.children) place same many_parts home.keyed.keyed home.keyed.ascending home.within) [
        | inl is ↦ absurd (other is)
        | inr below ↦ subst (λ (rs : List CellRef). Contains rs version) (one_part below) below.within
      ]
        where
          one_part : (lower : IsBelow said version (home_keyed (suc h) t home) (map (versions h) t.children) place) → lower.part ≡ versions h found.0
          one_part lower =
              let parts : Some lower.part ≡ Some (versions h found.0) = sym lower.there ∙ map_there (versions h) t.children place found.0 found.1 in
              cc

      home_below : IsHome said (reading w) version child h found.0
      home_below =
          let woven_part = part_of t.keys (map (versions h) t.children) place (versions h found.0) (map_there (versions h) t.children place found.0 found.1) (let same = many_parts in omega arith) in
          record {
            branch = record { root = below.root; stands = below.stands; shape = looser h found.0 below.shape; once = below.once };
            keyed = keyed_part said woven_part.0 (versions h found.0) woven_part.1 (subst (AreKeyed said) woven_part.2 home.keyed);
            within = inside;
          }

      module _ (mid : Work) (has : (k : ℕ) (c : BTree k) → IsHome said (reading w) version child k c → HasLost w mid version (3 * k + 2) k c) where
        reduced : IsReduced w mid version at place (3 * h + 2) h t
        reduced = child_reduced w mid version at 1 place (3 * h + 2) h t home.branch enough found.0 found.1 (has h found.0 home_below)

        child_ends : (after : Work) → ((k : ℕ) (u : BTree (suc k)) → IsShort (reading mid) at place k u → HasMended mid after k u) → HasLost w after version (3 * suc h + 2) (suc h) t
        child_ends after mended =
            let lost = reduced_mended w mid after version at place (3 * h + 2) h t reduced (mended h reduced.now reduced.short) in
            record { now = lost.now; less = lost.less; plain = plain_within w after (cells (suc h) t) (3 * h + 2 + 3) (3 * suc h + 2) (omega arith) lost.plain }

    -- in the node
    module _ (key : slice_get t.keys place ≡ Some version) (mid put : Work) (last : CellRef) (has : (k : ℕ) (c : BTree k) → IsBranch (reading w) child least_keys k c → HasLostLast w mid last k c)
        (is : put ≡ with_cell mid at (cell_of (replaced_at place last t.keys) (roots (suc h) t.children))) where
      key_one : IsReduced w put version at place (3 * h + 1 + 1) h t
      key_one = key_reduced w mid put version last at 1 place h t home.branch enough found.0 found.1 key (has h found.0 below) is

      key_ends : (after : Work) → ((k : ℕ) (u : BTree (suc k)) → IsShort (reading put) at place k u → HasMended put after k u) → HasLost w after version (3 * suc h + 2) (suc h) t
      key_ends after mended =
          let lost = reduced_mended w put after version at place (3 * h + 1 + 1) h t key_one (mended h key_one.now key_one.short) in
          record { now = lost.now; less = lost.less; plain = plain_within w after (cells (suc h) t) (3 * h + 1 + 1 + 3) (3 * suc h + 2) (omega arith) lost.plain }

  -- what a tree of any height comes to
  module _ (child : CellRef) (h : ℕ) (t : BTree h) (home : IsHome said (reading w) version at h t) (inner : is_empty (roots h t.children) ≡ false) (same : place ≡ prefix_len (is_before said version) t.keys) (child_is : child ≡ unwrap_or (slice_get (roots h t.children) place) no_ref) where
    pub home_child : slice_get t.keys place ≢ Some version → (levels : ℕ) → h < levels → (k : ℕ) × (c : BTree k) × IsHome said (reading w) version child k c × (k < levels - 1)
    home_child = of_height h t home inner same child_is
      where
        of_height : (h : ℕ) (t : BTree h) → IsHome said (reading w) version at h t → is_empty (roots h t.children) ≡ false → place ≡ prefix_len (is_before said version) t.keys → child ≡ unwrap_or (slice_get (roots h t.children) place) no_ref → slice_get t.keys place ≢ Some version → (levels : ℕ) → h < levels → (k : ℕ) × (c : BTree k) × IsHome said (reading w) version child k c × (k < levels - 1)
        of_height zero t home inner same child_is other levels low = absurd (false≢true (sym inner))
        of_height (suc h) t home inner same child_is other levels low = (h, (found child h t home same child_is).0, home_below child h t home same child_is other, omega arith)

    pub home_last : (levels : ℕ) → h < levels → (k : ℕ) × (c : BTree k) × IsBranch (reading w) child least_keys k c × (k < levels - 1)
    home_last = of_height h t home inner same child_is
      where
        of_height : (h : ℕ) (t : BTree h) → IsHome said (reading w) version at h t → is_empty (roots h t.children) ≡ false → place ≡ prefix_len (is_before said version) t.keys → child ≡ unwrap_or (slice_get (roots h t.children) place) no_ref → (levels : ℕ) → h < levels → (k : ℕ) × (c : BTree k) × IsBranch (reading w) child least_keys k c × (k < levels - 1)
        of_height zero t home inner same child_is levels low = absurd (false≢true (sym inner))
        of_height (suc h) t home inner same child_is levels low = (h, (found child h t home same child_is).0, below child h t home same child_is, omega arith)

    -- after a child lost it
    module _ (other : slice_get t.keys place ≢ Some version) (mid : Work) (has : (k : ℕ) (c : BTree k) → IsHome said (reading w) version child k c → HasLost w mid version (3 * k + 2) k c) where
      pub child_short : (levels : ℕ) → h < levels → HasPlaces w (3 * levels) → ((k : ℕ) × (u : BTree (suc k)) × IsShort (reading mid) at place k u) × HasPlaces mid 3
      child_short = of_height h t home inner same child_is other
        where
          of_height : (h : ℕ) (t : BTree h) → IsHome said (reading w) version at h t → is_empty (roots h t.children) ≡ false → place ≡ prefix_len (is_before said version) t.keys → child ≡ unwrap_or (slice_get (roots h t.children) place) no_ref → slice_get t.keys place ≢ Some version → (levels : ℕ) → h < levels → HasPlaces w (3 * levels) →
              ((k : ℕ) × (u : BTree (suc k)) × IsShort (reading mid) at place k u) × HasPlaces mid 3
          of_height zero t home inner same child_is other levels low room = absurd (false≢true (sym inner))
          of_height (suc h) t home inner same child_is other levels low room =
              let one = reduced child h t home same child_is other mid has in
              let places = one.plain.places in
              let as_before = one.plain.goes_on.room in
              ((h, one.now, one.short), omega arith)

      pub child_lost : (after : Work) → ((k : ℕ) (u : BTree (suc k)) → IsShort (reading mid) at place k u → HasMended mid after k u) → HasLost w after version (3 * h + 2) h t
      child_lost = of_height h t home inner same child_is other
        where
          of_height : (h : ℕ) (t : BTree h) → IsHome said (reading w) version at h t → is_empty (roots h t.children) ≡ false → place ≡ prefix_len (is_before said version) t.keys → child ≡ unwrap_or (slice_get (roots h t.children) place) no_ref → slice_get t.keys place ≢ Some version → (after : Work) → ((k : ℕ) (u : BTree (suc k)) → IsShort (reading mid) at place k u → HasMended mid after k u) → HasLost w after version (3 * h + 2) h t
          of_height zero t home inner same child_is other after mended = absurd (false≢true (sym inner))
          of_height (suc h) t home inner same child_is other after mended = child_ends child h t home same child_is other mid has after mended

    -- after its key was replaced
    module _ (key : slice_get t.keys place ≡ Some version) (mid put : Work) (last : CellRef) (has : (k : ℕ) (c : BTree k) → IsBranch (reading w) child least_keys k c → HasLostLast w mid last k c)
        (is : put ≡ with_cell mid at (cell_of (replaced_at place last t.keys) (roots h t.children))) where
      pub key_short : (levels : ℕ) → h < levels → HasPlaces w (3 * levels) → ((k : ℕ) × (u : BTree (suc k)) × IsShort (reading put) at place k u) × HasPlaces put 3
      key_short = of_height h t home inner same child_is key is
        where
          of_height : (h : ℕ) (t : BTree h) → IsHome said (reading w) version at h t → is_empty (roots h t.children) ≡ false → place ≡ prefix_len (is_before said version) t.keys → child ≡ unwrap_or (slice_get (roots h t.children) place) no_ref → slice_get t.keys place ≡ Some version → put ≡ with_cell mid at (cell_of (replaced_at place last t.keys) (roots h t.children)) → (levels : ℕ) → h < levels → HasPlaces w (3 * levels) →
              ((k : ℕ) × (u : BTree (suc k)) × IsShort (reading put) at place k u) × HasPlaces put 3
          of_height zero t home inner same child_is key is levels low room = absurd (false≢true (sym inner))
          of_height (suc h) t home inner same child_is key is levels low room =
              let one = key_one child h t home same child_is key mid put last has is in
              let places = one.plain.places in
              let as_before = one.plain.goes_on.room in
              ((h, one.now, one.short), omega arith)

      pub key_lost : (after : Work) → ((k : ℕ) (u : BTree (suc k)) → IsShort (reading put) at place k u → HasMended put after k u) → HasLost w after version (3 * h + 2) h t
      key_lost = of_height h t home inner same child_is key is
        where
          of_height : (h : ℕ) (t : BTree h) → IsHome said (reading w) version at h t → is_empty (roots h t.children) ≡ false → place ≡ prefix_len (is_before said version) t.keys → child ≡ unwrap_or (slice_get (roots h t.children) place) no_ref → slice_get t.keys place ≡ Some version → put ≡ with_cell mid at (cell_of (replaced_at place last t.keys) (roots h t.children)) → (after : Work) → ((k : ℕ) (u : BTree (suc k)) → IsShort (reading put) at place k u → HasMended put after k u) → HasLost w after version (3 * h + 2) h t
          of_height zero t home inner same child_is key is after mended = absurd (false≢true (sym inner))
          of_height (suc h) t home inner same child_is key is after mended = key_ends child h t home same child_is key mid put last has is after mended

    -- what is left of the places when the key is to be replaced
    pub key_room : (mid : Work) (last : CellRef) → ((k : ℕ) (c : BTree k) → IsBranch (reading w) child least_keys k c → HasLostLast w mid last k c) → (levels : ℕ) → h < levels → HasPlaces w (3 * levels) → HasPlaces mid 1
    key_room mid last has = of_height h t home inner same child_is
      where
        of_height : (h : ℕ) (t : BTree h) → IsHome said (reading w) version at h t → is_empty (roots h t.children) ≡ false → place ≡ prefix_len (is_before said version) t.keys → child ≡ unwrap_or (slice_get (roots h t.children) place) no_ref → (levels : ℕ) → h < levels → HasPlaces w (3 * levels) → HasPlaces mid 1
        of_height zero t home inner same child_is levels low room = absurd (false≢true (sym inner))
        of_height (suc h) t home inner same child_is levels low room =
            let plain = (has h (found child h t home same child_is).0 (below child h t home same child_is)).lost_one.plain in
            let places = plain.places in
            let as_before = plain.goes_on.room in
            omega arith

    -- its cell is one still
    pub key_cell : (mid : Work) (last : CellRef) → ((k : ℕ) (c : BTree k) → IsBranch (reading w) child least_keys k c → HasLostLast w mid last k c) → IsCell (reading mid) at.number
    key_cell mid last has = of_height h t home inner same child_is
      where
        of_height : (h : ℕ) (t : BTree h) → IsHome said (reading w) version at h t → is_empty (roots h t.children) ≡ false → place ≡ prefix_len (is_before said version) t.keys → child ≡ unwrap_or (slice_get (roots h t.children) place) no_ref → IsCell (reading mid) at.number
        of_height zero t home inner same child_is = absurd (false≢true (sym inner))
        of_height (suc h) t home inner same child_is =
            let c = found child h t home same child_is in
            let lost = (has h c.0 (below child h t home same child_is)).lost_one in
            subst (λ (r : CellRef). IsCell (reading mid) r.number) home.branch.root
            (cell_there (reading mid) t.at.number (cell_of t.keys (roots (suc h) t.children))
            (lost.less.elsewhere t.at.number (λ within. home.branch.once.0 (own_cells h t.children place c.0 c.1 t.at.number within)) ∙ home.branch.stands.0))
