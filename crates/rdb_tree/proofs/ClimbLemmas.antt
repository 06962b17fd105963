-- A level further up: what was raised is put into the node of the last step, which has room or is split.
use Rattle.std.proofs.Common.{◌≡◌, ◌≤◌, ◌+◌, zero, suc, ℕ, List, [], ◌∷◌, ◌++◌, length, take, drop, Option, Some, None, Bool, inl, refl, sym, ap, subst, ◌∙◌, arith}
use Rattle.std.proofs.lemmas.List.Sums.{prefix_len-le-length}
use Rattle.std.specs.List.{prefix_len}
use Rattle.rdb_pages.specs.declared.cell.CellRef.{CellRef}
use Rattle.rdb_pages.specs.Pages.{zero_cell}
use Rattle.rdb_cells.specs.declared.kind.Kind.TheVariants as kind
use Rattle.rdb_cells.specs.Images.{Image, Writes}
use Rattle.rdb_cells.specs.Links.{IsAmong, AreDisjoint}
use Rattle.rdb_cells.specs.Parts.{tree_part}
use Rattle.rdb_cells.specs.Work.{Work, reading, IsLeft, HasLeft}
use Rattle.rdb_cells.proofs.IndexLemmas.{fewer_than}
use Rattle.rdb_cells.proofs.PlainLemmas.{one_kind}
use Rattle.rdb_cells.proofs.WorkLemmas.{take_work, put_reads, left_blank, one_left}
use Rattle.rdb_tree.specs.Changes.{cell_of, with_cell, with_taken, split_work, raised_keys, raised_children, IsNodeAt, CanTake, HasPlaces, PutsInto, IsPutInto, IsSplit}
use Rattle.rdb_tree.specs.Growth.{IsRaised, IsAccount, IsWayDown, IsUnderway, IsSettled, IsPutUpTo}
use Rattle.rdb_tree.specs.TreeLaws.{all_nodes}
use Rattle.rdb_tree.specs.Trees.{BTree, Below, Tree, Empty, Rooted, levels_of, cells, cells_of, roots, TreeStands}
use Rattle.rdb_tree.specs.Ways.{Leads}
use Rattle.rdb_tree.specs.declared.insert.Raised.{Raised}
use Rattle.rdb_tree.specs.declared.path.Step.{Step}
use Rattle.rdb_tree.proofs.AccountLemmas.{account_first, account_within, account_put, account_split}
use Rattle.rdb_tree.proofs.ChildLemmas.{with_two}
use Rattle.rdb_tree.proofs.GrownLemmas.{IsPart, IsPartTree, no_way, part_along, grown_along}
use Rattle.rdb_tree.proofs.HalfLemmas.{overfull}
use Rattle.rdb_tree.proofs.NodeLemmas.{few_keys, roots_fit, stands_held, own_cell}
use Rattle.rdb_tree.proofs.RisenLemmas.{IsRisen, leaf_risen, inner_risen, inner_roots, settled, halves}
use Rattle.rdb_tree.proofs.WayLemmas.{IsChildOf, IsLastStep, leads_back}
use Rattle.rdb_tree.proofs.WovenLemmas.{own_cells}

-- the node of a level, with what was raised into it
record IsLevel (a b : Image) (near : CellRef → Bool) (version : CellRef) (fresh : List ℕ) (h : ℕ) (t : BTree h) (place : ℕ) (raised : Raised) (rest : Tree) : Type 0 where
  pub children : List (Below h)
  pub risen : IsRisen a b near version fresh h t (raised_keys place raised.key t.keys) children
  pub roots_are : roots h children ≡ raised_children place raised.right (roots h t.children)
  pub untouched : b t.at.number ≡ a t.at.number
  pub levels : levels_of rest ≡ h

level : (a b : Image) (near : CellRef → Bool) (version : CellRef) (own fresh : List ℕ) (raised : Raised) (h : ℕ) (t : BTree h) (place : ℕ) (rest : Tree) → IsChildOf h t place rest → place ≡ prefix_len near t.keys → IsPart a near own h t → AreDisjoint fresh (cells h t) → IsRaised a b near version fresh rest raised →
    IsLevel a b near version fresh h t place raised rest
level a b near version own fresh raised zero t place rest child same part apart is =
    subst (λ (tree : Tree). IsRaised a b near version fresh tree raised → IsLevel a b near version fresh zero t place raised tree) child (λ untouched. record {
      children = [];
      risen =
          subst (λ (fs : List ℕ). IsRisen a b near version fs zero t (raised_keys place raised.key t.keys) []) (sym untouched.none)
          (subst (λ (k : CellRef). IsRisen a b near version [] zero t (raised_keys place k t.keys) []) (sym untouched.key_is)
          (leaf_risen a b near version own t place same part untouched.same));
      roots_are = refl;
      untouched = untouched.same t.at.number;
      levels = refl;
    }) is
level a b near version own fresh raised (suc h) t place rest child same part apart is =
    subst (λ (tree : Tree). IsRaised a b near version fresh tree raised → IsLevel a b near version fresh (suc h) t place raised tree) child.2 (λ halved. record {
      children = with_two place halved.l halved.r t.children;
      risen = inner_risen a b near version own fresh h t place child.0 raised.key raised.right child.1 same part apart halved;
      roots_are = inner_roots a b near version own fresh h t place child.0 raised.key raised.right child.1 same part apart halved;
      untouched = halved.elsewhere t.at.number (λ within. part.once.0 (own_cells h t.children place child.0 child.1 t.at.number within)) (λ new. apart t.at.number new (inl refl));
      levels = refl;
    }) is

-- the node of a way is no higher than where the way began
lower : (near : CellRef → Bool) (h : ℕ) (t : BTree h) (steps : List Step) (k : ℕ) (s : BTree k) → Leads near (Rooted h t) steps (Rooted k s) → suc k ≤ suc h
lower near h t [] k s leads = let same : suc h ≡ suc k = ap levels_of leads in omega arith
lower near zero t (x ∷ xs) k s leads = absurd (no_way near xs k s leads.2)
lower near (suc h) t (x ∷ xs) k s leads = let below = lower near h leads.2.0 xs k s leads.2.2 in omega arith

module _ (before : Work) (near : CellRef → Bool) (version : CellRef) where
  pub node_spent : (whole : Tree) → TreeStands (reading before) whole → (n : ℕ) → IsAmong (cells_of whole) n → ¬ IsLeft before n
  node_spent Empty stands n within left = within
  node_spent (Rooted h t) stands n within left =
      let same = one_kind (reading before) kind.TreeNode kind.Free n (all_nodes (reading before) h t n stands within) (zero_cell, (left_blank before n left).zero, refl) in
      absurd (omega arith)

  whole_part : (whole : Tree) (steps : List Step) → IsWayDown (reading before) near whole steps → IsPartTree (reading before) near (cells_of whole) whole
  whole_part Empty steps way = tt
  whole_part (Rooted h t) steps way = record { stands = way.stands; shape = way.shape; once = way.once; cut = way.cut; within = λ n within. within }

  -- the way up begins
  pub underway_first : (whole : Tree) (steps : List Step) → IsWayDown (reading before) near whole steps → (raised : Raised) → raised.key ≡ version → IsUnderway before before near version whole steps raised
  underway_first whole steps way raised key = record {
    rest = Empty;
    leads = way.leads;
    fresh = [];
    halves = record { key_is = key; none = refl; same = λ n. refl };
    account = account_first before (cells_of whole);
  }

  module _ (H : ℕ) (T : BTree H) (path : List Step) (way : IsWayDown (reading before) near (Rooted H T) path) (mid : Work) (steps : List Step) (step : Step) (raised : Raised) (under : IsUnderway before mid near version (Rooted H T) (steps ++ step ∷ []) raised) where
    pub last : IsLastStep near (Rooted H T) steps step under.rest
    last = leads_back near (Rooted H T) steps step under.rest under.leads

    part : IsPart (reading before) near (cells H T) last.h last.t
    part = part_along (reading before) near (cells H T) H T steps last.h last.t last.leads (whole_part (Rooted H T) path way)

    apart_whole : AreDisjoint under.fresh (cells H T)
    apart_whole n new within = node_spent (Rooted H T) way.stands n within (under.account.left n new)

    here : IsLevel (reading before) (reading mid) near version under.fresh last.h last.t step.place raised under.rest
    here = level (reading before) (reading mid) near version (cells H T) under.fresh raised last.h last.t step.place under.rest last.child last.place part (λ n new within. apart_whole n new (part.within n within)) under.halves

    inside : IsAmong (cells H T) last.t.at.number
    inside = part.within last.t.at.number (own_cell last.h last.t)

    account : IsAccount before mid (cells H T) under.fresh last.h
    account = account_within before mid (cells H T) under.fresh (levels_of under.rest) under.account last.h (let same = here.levels in omega arith)

    -- the node that is put into
    pub node_here : IsNodeAt (reading mid) step.at last.t.keys (roots last.h last.t.children)
    node_here = record {
      few = (few_keys last.h 1 last.t part.shape).fit;
      fits = roots_fit last.h 1 last.t part.shape;
      here = subst (λ (r : CellRef). reading mid r.number ≡ Some (cell_of last.t.keys (roots last.h last.t.children))) (sym last.at) (here.untouched ∙ stands_held last.h (reading before) last.t part.stands);
    }

    pub place_here : step.place ≤ length last.t.keys
    place_here = let same = last.place in let few = prefix_len-le-length near last.t.keys in omega arith

    -- there are cells and places left
    few_fresh : length under.fresh ≤ 10
    few_fresh =
        let few = account.few in
        let low = lower near H T steps last.h last.t last.leads in
        let levels = way.levels in
        omega arith

    pub can_take : HasLeft before tree_part → CanTake mid
    can_take left =
        let few = few_fresh in
        one_left mid (under.account.most.enough 1 (fewer_than before (1 + length under.fresh) 12 (omega arith) left))

    pub has_places : HasPlaces before 24 → HasPlaces mid 2
    has_places room =
        let places = account.places in
        let low = lower near H T steps last.h last.t last.leads in
        let levels = way.levels in
        let same = under.account.goes_on.room in
        omega arith

    abbrev keys_now : List CellRef
    keys_now = raised_keys step.place raised.key last.t.keys

    abbrev children_now : List CellRef
    children_now = raised_children step.place raised.right (roots last.h last.t.children)

    -- it had room
    room_after : (after : Work) → IsPutInto mid after last.t.at keys_now children_now → IsSettled before after near version (Rooted H T)
    room_after after into =
        let now = with_cell mid last.t.at (cell_of keys_now children_now) in
        let writes = subst (λ (cs : List CellRef). Writes (reading mid) (reading now) last.t.at.number (cell_of keys_now cs)) (sym here.roots_are) (put_reads mid last.t.at (cell_of keys_now children_now)) in
        let grown = settled (reading before) (reading mid) (reading now) near version under.fresh last.h last.t keys_now here.children here.risen into.fit writes in
        let done : IsSettled before now near version (Rooted H T) = record {
          fresh = under.fresh;
          grown = grown_along (reading before) (reading now) near version under.fresh (cells H T) apart_whole H T steps last.h last.t (overfull last.h last.t.at keys_now here.children) last.leads grown (whole_part (Rooted H T) path way);
          account = account_within before now (cells H T) under.fresh (suc last.h) (account_put before mid (cells H T) under.fresh last.h account last.t.at (cell_of keys_now children_now) inside (node_spent (Rooted H T) way.stands last.t.at.number inside)) (suc H) (lower near H T steps last.h last.t last.leads);
        } in
        subst (λ (w : Work). IsSettled before w near version (Rooted H T)) (sym into.work) done

    -- it was split
    split_after : (after : Work) (higher : Raised) → IsSplit mid after last.t.at keys_now children_now higher → IsUnderway before after near version (Rooted H T) steps higher
    split_after after higher split =
        let behind = cell_of (drop 4 keys_now) (drop 4 children_now) in
        let front = cell_of (take 3 keys_now) (take 4 children_now) in
        let first = with_cell (with_taken mid higher.right) higher.right behind in
        let now = split_work mid higher.right last.t.at keys_now children_now in
        let left = (account.lowest.left higher.right.number).0 split.lowest.untaken in
        let not_own : ¬ IsAmong (cells last.h last.t) higher.right.number = λ within. node_spent (Rooted H T) way.stands higher.right.number (part.within higher.right.number within) left.0 in
        let eight : length keys_now ≡ 8 = (let over = split.over in let few = (few_keys last.h 1 last.t part.shape).fit in let more = here.risen.one_more in omega arith) in
        let behind_writes = subst (λ (cs : List CellRef). Writes (reading mid) (reading first) higher.right.number (cell_of (drop 4 keys_now) (drop 4 cs))) (sym here.roots_are) (put_reads (take_work mid higher.right) higher.right behind) in
        let front_writes = subst (λ (cs : List CellRef). Writes (reading first) (reading now) last.t.at.number (cell_of (take 3 keys_now) (take 4 cs))) (sym here.roots_are) (put_reads first last.t.at front) in
        let done : IsUnderway before now near version (Rooted H T) steps higher = record {
          rest = Rooted last.h last.t;
          leads = last.leads;
          fresh = under.fresh ++ higher.right.number ∷ [];
          halves = halves (reading before) (reading mid) (reading first) (reading now) near version under.fresh higher.key higher.right last.h last.t keys_now here.children here.risen eight split.key behind_writes front_writes not_own left.1
              (λ same. not_own (subst (IsAmong (cells last.h last.t)) (sym same) (own_cell last.h last.t)));
          account = account_split before mid (cells H T) under.fresh last.h account higher.right behind last.t.at front split.lowest inside (node_spent (Rooted H T) way.stands last.t.at.number inside);
        } in
        subst (λ (w : Work). IsUnderway before w near version (Rooted H T) steps higher) (sym split.work) done

    abbrev PutsHere : Work → Option Raised → CellRef → Type 0
    PutsHere after result at = PutsInto mid after at keys_now children_now result

    pub stepped : (after : Work) (result : Option Raised) → PutsHere after result step.at → IsPutUpTo before after near version (Rooted H T) steps result
    stepped after None puts = room_after after (subst (PutsHere after None) last.at puts)
    stepped after (Some higher) puts = split_after after higher (subst (PutsHere after (Some higher)) last.at puts)

  -- of whatever tree the way leads down
  module _ (path : List Step) (mid : Work) (steps : List Step) (step : Step) (raised : Raised) where
    pub climb_node : (whole : Tree) → IsWayDown (reading before) near whole path → IsUnderway before mid near version whole (steps ++ step ∷ []) raised → (keys : List CellRef) × (children : List CellRef) × IsNodeAt (reading mid) step.at keys children × (step.place ≤ length keys)
    climb_node Empty way under =
        let back = leads_back near Empty steps step under.rest under.leads in
        absurd (no_way near steps back.h back.t back.leads)
    climb_node (Rooted H T) way under =
        let back = last H T path way mid steps step raised under in
        (back.t.keys, roots back.h back.t.children, node_here H T path way mid steps step raised under, place_here H T path way mid steps step raised under)

    pub climb_free : (whole : Tree) → IsWayDown (reading before) near whole path → IsUnderway before mid near version whole (steps ++ step ∷ []) raised → HasLeft before tree_part → CanTake mid
    climb_free Empty way under left =
        let back = leads_back near Empty steps step under.rest under.leads in
        absurd (no_way near steps back.h back.t back.leads)
    climb_free (Rooted H T) way under left = can_take H T path way mid steps step raised under left

    pub climb_places : (whole : Tree) → IsWayDown (reading before) near whole path → IsUnderway before mid near version whole (steps ++ step ∷ []) raised → HasPlaces before 24 → HasPlaces mid 2
    climb_places Empty way under room =
        let back = leads_back near Empty steps step under.rest under.leads in
        absurd (no_way near steps back.h back.t back.leads)
    climb_places (Rooted H T) way under room = has_places H T path way mid steps step raised under room

    pub climb_step : (whole : Tree) → IsWayDown (reading before) near whole path → IsUnderway before mid near version whole (steps ++ step ∷ []) raised → (after : Work) (result : Option Raised) →
        ((keys children : List CellRef) → IsNodeAt (reading mid) step.at keys children → PutsInto mid after step.at (raised_keys step.place raised.key keys) (raised_children step.place raised.right children) result) →
        IsPutUpTo before after near version whole steps result
    climb_step Empty way under after result puts =
        let back = leads_back near Empty steps step under.rest under.leads in
        absurd (no_way near steps back.h back.t back.leads)
    climb_step (Rooted H T) way under after result puts =
        let back = last H T path way mid steps step raised under in
        stepped H T path way mid steps step raised under after result (puts back.t.keys (roots back.h back.t.children) (node_here H T path way mid steps step raised under))
