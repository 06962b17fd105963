-- A way from the root down to the place of a version.
use Rattle.std.proofs.Common.{◌≡◌, ◌≢◌, ◌+◌, zero, suc, ℕ, List, [], ◌∷◌, ◌++◌, map, slice_get, Option, Some, Bool, inl, inr, refl, sym, ap, subst, ◌∙◌, arith}
use Rattle.std.proofs.lemmas.List.{append_assoc, append-nil}
use Rattle.std.proofs.lemmas.List.Sums.{prefix_len-le-length}
use Rattle.std.specs.List.{prefix_len}
use Rattle.std.specs.Option.{unwrap_or}
use Rattle.rdb_pages.specs.declared.cell.CellRef.{CellRef}
use Rattle.rdb_cells.specs.declared.formats.tree.TreeNode.{TreeNode}
use Rattle.rdb_cells.specs.Images.{Image}
use Rattle.rdb_cells.specs.Keys.{Sayings}
use Rattle.rdb_cells.specs.TreeFormat.{IsTreeNode, tree_node_cell}
use Rattle.rdb_cells.specs.Words.{no_ref}
use Rattle.rdb_tree.specs.Nature.{IsSound}
use Rattle.rdb_tree.specs.Order.{AreKeyed}
use Rattle.rdb_tree.specs.Trees.{BTree, Tree, Empty, Rooted, versions, roots, root_of, levels_of, keys_in, children_in, Stands, IsShaped, least_keys}
use Rattle.rdb_tree.specs.Ways.{Leads, GoesOnTo}
use Rattle.rdb_tree.specs.declared.path.Step.{Step}
use Rattle.rdb_tree.proofs.NodeLemmas.{keys_back, children_back, roots_fit, looser}
use Rattle.rdb_tree.proofs.SoughtLemmas.{IsHere, here_read, empty_root}
use Rattle.rdb_tree.proofs.WovenLemmas.{each_at, there, map_there, part_of, keyed_part, own_cells, length_map}

module _ (near : CellRef → Bool) where
  -- one step more at the end of a way
  pub leads_leaf : (from : Tree) (steps : List Step) (t : BTree zero) (step : Step) → Leads near from steps (Rooted zero t) → step.at ≡ t.at → step.place ≡ prefix_len near t.keys → Leads near from (steps ++ step ∷ []) Empty
  leads_leaf from [] t step leads at place = subst (λ (tree : Tree). Leads near tree (step ∷ []) Empty) (sym leads) (at, place, refl)
  leads_leaf Empty (s ∷ ss) t step leads at place = absurd leads
  leads_leaf (Rooted zero u) (s ∷ ss) t step leads at place = (leads.0, leads.1, leads_leaf Empty ss t step leads.2 at place)
  leads_leaf (Rooted (suc h) u) (s ∷ ss) t step leads at place = (leads.0, leads.1, (leads.2.0, leads.2.1, leads_leaf (Rooted h leads.2.0) ss t step leads.2.2 at place))

  pub leads_inner : (from : Tree) (steps : List Step) (h : ℕ) (t : BTree (suc h)) (step : Step) (c : BTree h) → Leads near from steps (Rooted (suc h) t) → step.at ≡ t.at → step.place ≡ prefix_len near t.keys → slice_get t.children step.place ≡ Some c → Leads near from (steps ++ step ∷ []) (Rooted h c)
  leads_inner from [] h t step c leads at place child = subst (λ (tree : Tree). Leads near tree (step ∷ []) (Rooted h c)) (sym leads) (at, place, (c, child, refl))
  leads_inner Empty (s ∷ ss) h t step c leads at place child = absurd leads
  leads_inner (Rooted zero u) (s ∷ ss) h t step c leads at place child = (leads.0, leads.1, leads_inner Empty ss h t step c leads.2 at place child)
  leads_inner (Rooted (suc k) u) (s ∷ ss) h t step c leads at place child = (leads.0, leads.1, (leads.2.0, leads.2.1, leads_inner (Rooted k leads.2.0) ss h t step c leads.2.2 at place child))

-- the child at a place is sound
pub sound_child : (said : Sayings) (image : Image) (h : ℕ) (t : BTree (suc h)) → IsSound said image (Rooted (suc h) t) → (place : ℕ) (c : BTree h) → slice_get t.children place ≡ Some c → IsSound said image (Rooted h c)
sound_child said image h t sound place c at =
    let many = length_map (versions h) t.children in
    let same = sound.shape.1 in
    let part = part_of t.keys (map (versions h) t.children) place (versions h c) (map_there (versions h) t.children place c at) (omega arith) in
    record {
      stands = each_at (Stands h image) t.children place c at sound.stands.1;
      shape = looser h c (each_at (IsShaped h least_keys) t.children place c at sound.shape.2);
      paged = λ n within. sound.paged n (inr (own_cells h t.children place c at n within));
      keyed = keyed_part said part.0 (versions h c) part.1 (subst (AreKeyed said) part.2 sound.keyed);
    }

-- where a way has come to
pub record IsOnWay (said : Sayings) (image : Image) (near : CellRef → Bool) (whole : Tree) (before path : List Step) (at : CellRef) (count : ℕ) : Type 0 where
  pub rest : Tree
  pub sound : IsSound said image rest
  pub root : root_of rest ≡ at
  pub goes : GoesOnTo near before path whole rest
  pub levels : levels_of rest + count ≡ levels_of whole

module _ (said : Sayings) (image : Image) (near : CellRef → Bool) (whole : Tree) (before : List Step) where
  pub way_first : (at : CellRef) → IsSound said image whole → root_of whole ≡ at → IsOnWay said image near whole before before at 0
  way_first at sound root = record { rest = whole; sound = sound; root = root; goes = record { steps = []; path = sym (append-nil before); leads = refl }; levels = omega arith }

  module _ (path : List Step) (at : CellRef) (count : ℕ) (so_far : IsOnWay said image near whole before path at count) where
    pub way_end : at.number ≡ 0 → GoesOnTo near before path whole Empty
    way_end none =
        let empty = empty_root said image so_far.rest so_far.sound (ap (λ (r : CellRef). r.number) so_far.root ∙ none) in
        subst (λ (tree : Tree). GoesOnTo near before path whole tree) empty so_far.goes

    pub way_here : at.number ≢ 0 → IsHere said image at
    way_here some = of_rest so_far.rest so_far.sound so_far.root
      where
        of_rest : (rest : Tree) → IsSound said image rest → root_of rest ≡ at → IsHere said image at
        of_rest Empty sound root = absurd (some (ap (λ (r : CellRef). r.number) (sym root)))
        of_rest (Rooted h t) sound root = record { h = h; t = t; sound = sound; root = root }

  module _ (path : List Step) (at : CellRef) (count : ℕ) (node : TreeNode) (place : ℕ) (next : CellRef) (longer : List Step)
      (reads : (n : TreeNode) → IsTreeNode n → image at.number ≡ Some (tree_node_cell n) → node ≡ n)
      (counted : place ≡ prefix_len near (keys_in node))
      (leads : next ≡ unwrap_or (slice_get (children_in node) place) no_ref)
      (pushed : longer ≡ path ++ record { at = at; place = place } ∷ [])
      (some : at.number ≢ 0) where
    further : (rest : Tree) → IsSound said image rest → root_of rest ≡ at → GoesOnTo near before path whole rest → levels_of rest + count ≡ levels_of whole → IsOnWay said image near whole before longer next (count + 1)
    further Empty sound root goes levels = absurd (some (ap (λ (r : CellRef). r.number) (sym root)))
    further (Rooted zero t) sound root goes levels =
        let here : IsHere said image at = record { h = zero; t = t; sound = sound; root = root } in
        let read = here_read said image at here node reads in
        let keys : keys_in node ≡ t.keys = ap keys_in read ∙ keys_back t.keys [] in
        let children : children_in node ≡ [] = ap children_in read ∙ children_back t.keys [] (inl refl) in
        record {
          rest = Empty;
          sound = record { stands = tt; shape = tt; paged = λ n none. absurd none; keyed = record { keyed = λ r within. absurd (omega (arith, within.1)); ascending = tt } };
          root = sym (leads ∙ ap (λ (cs : List CellRef). unwrap_or (slice_get cs place) no_ref) children);
          goes = record {
            steps = goes.steps ++ record { at = at; place = place } ∷ [];
            path = pushed ∙ ap (λ (ss : List Step). ss ++ record { at = at; place = place } ∷ []) goes.path ∙ append_assoc before goes.steps (record { at = at; place = place } ∷ []);
            leads = leads_leaf near whole goes.steps t (record { at = at; place = place }) goes.leads (sym root) (counted ∙ ap (prefix_len near) keys);
          };
          levels = omega arith;
        }
    further (Rooted (suc h) t) sound root goes levels =
        let here : IsHere said image at = record { h = suc h; t = t; sound = sound; root = root } in
        let read = here_read said image at here node reads in
        let keys : keys_in node ≡ t.keys = ap keys_in read ∙ keys_back t.keys (roots (suc h) t.children) in
        let children : children_in node ≡ map (λ (c : BTree h). c.at) t.children = ap children_in read ∙ children_back t.keys (roots (suc h) t.children) (roots_fit (suc h) 1 t sound.shape) in
        let same : place ≡ prefix_len near t.keys = counted ∙ ap (prefix_len near) keys in
        let few = prefix_len-le-length near t.keys in
        let many = sound.shape.1 in
        let child = there t.children place (omega arith) in
        record {
          rest = Rooted h child.0;
          sound = sound_child said image h t sound place child.0 child.1;
          root = sym (leads
              ∙ ap (λ (cs : List CellRef). unwrap_or (slice_get cs place) no_ref) children
              ∙ ap (λ (o : Option CellRef). unwrap_or o no_ref) (map_there (λ (c : BTree h). c.at) t.children place child.0 child.1));
          goes = record {
            steps = goes.steps ++ record { at = at; place = place } ∷ [];
            path = pushed ∙ ap (λ (ss : List Step). ss ++ record { at = at; place = place } ∷ []) goes.path ∙ append_assoc before goes.steps (record { at = at; place = place } ∷ []);
            leads = leads_inner near whole goes.steps h t (record { at = at; place = place }) child.0 goes.leads (sym root) same child.1;
          };
          levels = omega arith;
        }

    pub way_more : IsOnWay said image near whole before path at count → IsOnWay said image near whole before longer next (count + 1)
    way_more so_far = further so_far.rest so_far.sound so_far.root so_far.goes so_far.levels

-- the tree that the last step of a way leads to, from a node
abbrev pub IsChildOf : (h : ℕ) → BTree h → ℕ → Tree → Type 0
IsChildOf zero t place to = Empty ≡ to
IsChildOf (suc h) t place to = (c : BTree h) × (slice_get t.children place ≡ Some c) × (Rooted h c ≡ to)

-- the node of the last step of a way
pub record IsLastStep (near : CellRef → Bool) (whole : Tree) (steps : List Step) (step : Step) (to : Tree) : Type 0 where
  pub h : ℕ
  pub t : BTree h
  pub leads : Leads near whole steps (Rooted h t)
  pub at : step.at ≡ t.at
  pub place : step.place ≡ prefix_len near t.keys
  pub child : IsChildOf h t step.place to

-- a way without its last step leads to that step's node
pub leads_back : (near : CellRef → Bool) (whole : Tree) (steps : List Step) (step : Step) (to : Tree) → Leads near whole (steps ++ step ∷ []) to → IsLastStep near whole steps step to
leads_back near Empty [] step to leads = absurd leads
leads_back near (Rooted zero t) [] step to leads = record { h = zero; t = t; leads = refl; at = leads.0; place = leads.1; child = leads.2 }
leads_back near (Rooted (suc h) t) [] step to leads = record { h = suc h; t = t; leads = refl; at = leads.0; place = leads.1; child = leads.2 }
leads_back near Empty (s ∷ ss) step to leads = absurd leads
leads_back near (Rooted zero u) (s ∷ ss) step to leads =
    let back = leads_back near Empty ss step to leads.2 in
    record { h = back.h; t = back.t; leads = (leads.0, leads.1, back.leads); at = back.at; place = back.place; child = back.child }
leads_back near (Rooted (suc h) u) (s ∷ ss) step to leads =
    let back = leads_back near (Rooted h leads.2.0) ss step to leads.2.2 in
    record { h = back.h; t = back.t; leads = (leads.0, leads.1, (leads.2.0, leads.2.1, back.leads)); at = back.at; place = back.place; child = back.child }
