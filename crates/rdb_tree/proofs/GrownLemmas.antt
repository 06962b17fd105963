-- A tree into which a version came, in the same root cell: so did it into the tree above.
use Rattle.std.proofs.Common.{◌≡◌, ◌+◌, zero, suc, ℕ, List, [], ◌∷◌, ◌++◌, length, map, slice_get, Some, Bool, inl, inr, refl, sym, ap, subst, ◌∙◌, ◌≤◌, arith}
use Rattle.std.specs.List.{flat_map, prefix_len}
use Rattle.rdb_pages.specs.declared.cell.CellRef.{CellRef}
use Rattle.rdb_cells.specs.Images.{Image}
use Rattle.rdb_cells.specs.Links.{IsAmong, AreOnce, AreDisjoint}
use Rattle.rdb_cells.proofs.LinkLemmas.{once_parts}
use Rattle.rdb_tree.specs.Changes.{cell_of}
use Rattle.rdb_tree.specs.Growth.{IsGrown, HasGrown}
use Rattle.rdb_tree.specs.Trees.{BTree, Tree, Empty, Rooted, levels_of, versions, cells, Stands, IsShaped, least_keys}
use Rattle.rdb_tree.specs.Ways.{IsCut, Leads}
use Rattle.rdb_tree.specs.declared.path.Step.{Step}
use Rattle.rdb_tree.proofs.ChangeLemmas.{below_there}
use Rattle.rdb_tree.proofs.ChildLemmas.{with_another, each_another, length_another, another_roots}
use Rattle.rdb_tree.proofs.ComingLemmas.{comes_another}
use Rattle.rdb_tree.proofs.FamilyLemmas.{others_still}
use Rattle.rdb_tree.proofs.MiddleLemmas.{adds_another}
use Rattle.rdb_tree.proofs.NodeLemmas.{looser}
use Rattle.rdb_tree.proofs.PlaceLemmas.{IsAtCut, at_cut}
use Rattle.rdb_tree.proofs.SeekLemmas.{cut_front, cut_back}
use Rattle.rdb_tree.proofs.WovenLemmas.{part_of, each_at, map_there, length_map, own_cells}

-- A tree whose versions on the near side stand in front, in cells of its own: a whole one, or one below it.
pub record IsPart (image : Image) (near : CellRef → Bool) (own : List ℕ) (h : ℕ) (t : BTree h) : Type 0 where
  pub stands : Stands h image t
  pub shape : IsShaped h 1 t
  pub once : AreOnce (cells h t)
  pub cut : IsCut near (versions h t)
  pub within : (n : ℕ) → IsAmong (cells h t) n → IsAmong own n

le_of : {m n : ℕ} → m ≡ n → m ≤ n
le_of {m = m} {n = n} same = omega arith

-- an empty tree leads nowhere
pub no_way : (near : CellRef → Bool) (steps : List Step) (k : ℕ) (s : BTree k) → ¬ Leads near Empty steps (Rooted k s)
no_way near [] k s leads = let same : 0 ≡ suc k = ap levels_of leads in absurd (omega arith)
no_way near (x ∷ xs) k s leads = leads

pub once_own : (h : ℕ) (ts : List (BTree h)) (n : ℕ) (c : BTree h) → slice_get ts n ≡ Some c → AreOnce (flat_map (cells h) ts) → AreOnce (cells h c)
once_own h [] n c at once = cc
once_own h (t ∷ ts) zero c at once = let is : t ≡ c = cc in subst (λ (x : BTree h). AreOnce (cells h x)) is (once_parts (cells h t) (flat_map (cells h) ts) once).0
once_own h (t ∷ ts) (suc n) c at once = once_own h ts n c at (once_parts (cells h t) (flat_map (cells h) ts) once).1

module _ (a : Image) (near : CellRef → Bool) (own : List ℕ) where
  pub part_child : (h : ℕ) (t : BTree (suc h)) (n : ℕ) (c : BTree h) → slice_get t.children n ≡ Some c → IsPart a near own (suc h) t → IsPart a near own h c
  part_child h t n c at part =
      let woven_part = part_of t.keys (map (versions h) t.children) n (versions h c) (map_there (versions h) t.children n c at) (le_of (length_map (versions h) t.children ∙ part.shape.1)) in
      record {
        stands = each_at (Stands h a) t.children n c at part.stands.1;
        shape = looser h c (each_at (IsShaped h least_keys) t.children n c at part.shape.2);
        once = once_own h t.children n c at part.once.1;
        cut = cut_front near (versions h c) woven_part.1 (cut_back near woven_part.0 (versions h c ++ woven_part.1) (subst (IsCut near) woven_part.2 part.cut));
        within = λ m inside. part.within m (inr (own_cells h t.children n c at m inside));
      }

  abbrev pub IsPartTree : Tree → Type 0
  IsPartTree Empty = Unit {0}
  IsPartTree (Rooted h t) = IsPart a near own h t

  -- what a way leads to
  pub part_along : (h : ℕ) (t : BTree h) (steps : List Step) (k : ℕ) (s : BTree k) → Leads near (Rooted h t) steps (Rooted k s) → IsPart a near own h t → IsPart a near own k s
  part_along h t [] k s leads part = subst IsPartTree leads part
  part_along zero t (x ∷ xs) k s leads part = absurd (no_way near xs k s leads.2)
  part_along (suc h) t (x ∷ xs) k s leads part = part_along h leads.2.0 xs k s leads.2.2 (part_child h t x.place leads.2.0 leads.2.1 part)

module _ (a b : Image) (near : CellRef → Bool) (version : CellRef) (fresh own : List ℕ) (apart : AreDisjoint fresh own) where
  module _ (h : ℕ) (t : BTree (suc h)) (n : ℕ) (c d : BTree h) (at : slice_get t.children n ≡ Some c) (place : n ≡ prefix_len near t.keys) (part : IsPart a near own (suc h) t)
      (grown : IsGrown a b near version fresh h c d) where
    many : length t.children ≡ length t.keys + 1
    many = part.shape.1

    at_place : IsAtCut near t.keys (map (versions h) t.children) n (versions h c)
    at_place = at_cut near t.keys (map (versions h) t.children) n (versions h c) (map_there (versions h) t.children n c at) (length_map (versions h) t.children ∙ many) place part.cut

    not_fresh : (m : ℕ) → IsAmong (cells (suc h) t) m → ¬ IsAmong fresh m
    not_fresh m within new = apart m new (part.within m within)

    -- the tree above, with the grown child
    pub grown_up : IsGrown a b near version fresh (suc h) t (record t { children = with_another n d t.children })
    grown_up = record {
      at = refl;
      stands = (
        grown.elsewhere t.at.number (λ within. part.once.0 (own_cells h t.children n c at t.at.number within)) (not_fresh t.at.number (inl refl))
            ∙ part.stands.0
            ∙ ap (λ (rs : List CellRef). Some (cell_of t.keys rs)) (sym (another_roots h t n c at many d grown.at)),
        others_still a b h t.children n c d at part.once.1 (λ m within out. grown.elsewhere m out (not_fresh m (inr within))) part.stands.1 grown.stands,
      );
      shape = λ least s. (
        s.0,
        length_another n d t.children (below_there t.children n c at) ∙ s.1,
        each_another (IsShaped h least_keys) n d t.children s.2 (grown.shape least_keys (each_at (IsShaped h least_keys) t.children n c at s.2)),
      );
      comes = comes_another near version h t.keys t.children n (versions h c) at_place d grown.comes;
      adds = adds_another h t.children n t.at.number fresh c at part.once (λ m new within. not_fresh m within new) d grown.adds;
      elsewhere = λ m out new. grown.elsewhere m (λ within. out (inr (own_cells h t.children n c at m within))) new;
    }

  -- a tree from which a way leads to one that has grown has grown
  pub grown_along : (h : ℕ) (t : BTree h) (steps : List Step) (k : ℕ) (s u : BTree k) → Leads near (Rooted h t) steps (Rooted k s) → IsGrown a b near version fresh k s u → IsPart a near own h t → (v : BTree h) × IsGrown a b near version fresh h t v
  grown_along h t [] k s u leads grown part = subst (HasGrown a b near version fresh) (sym leads) (u, grown)
  grown_along zero t (x ∷ xs) k s u leads grown part = absurd (no_way near xs k s leads.2)
  grown_along (suc h) t (x ∷ xs) k s u leads grown part =
      let below = grown_along h leads.2.0 xs k s u leads.2.2 grown (part_child a near own h t x.place leads.2.0 leads.2.1 part) in (
        record t { children = with_another x.place below.0 t.children },
        grown_up h t x.place leads.2.0 below.0 leads.2.1 leads.1 part below.1,
      )
