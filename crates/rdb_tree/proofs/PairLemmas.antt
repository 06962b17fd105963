-- Two children side by side and the key between them, with others in their place: the node lists the same.
use Rattle.std.proofs.Common.{◌≡◌, ◌≤◌, ◌+◌, suc, ℕ, List, [], ◌∷◌, ◌++◌, length, length-append, map, Some, inl, inr, refl, sym, ap, subst, ◌∙◌, arith}
use Rattle.std.proofs.lemmas.List.{append_assoc, map-append}
use Rattle.std.proofs.lemmas.List.Concat.{flat_map-append}
use Rattle.std.specs.List.{flat_map}
use Rattle.rdb_pages.specs.declared.cell.CellRef.{CellRef}
use Rattle.rdb_cells.specs.Images.{Image}
use Rattle.rdb_cells.specs.Links.{IsAmong, AreOnce}
use Rattle.rdb_cells.proofs.LinkLemmas.{among_either, among_front, among_back, once_parts, once_together}
use Rattle.rdb_tree.specs.Changes.{cell_of}
use Rattle.rdb_tree.specs.Losses.{DropsCells, StaysOutside, IsMended}
use Rattle.rdb_tree.specs.Trees.{BTree, Each, woven, versions, cells, roots, Stands, IsShaped, least_keys}
use Rattle.rdb_tree.proofs.FamilyLemmas.{all_still}
use Rattle.rdb_tree.proofs.PartLemmas.{woven_append}
use Rattle.rdb_tree.proofs.WovenLemmas.{each_both, each_front, each_back, length_map}

-- what stands behind the first part
abbrev pub behind_part : List CellRef → List (List CellRef) → List CellRef
behind_part [] parts = woven [] parts
behind_part (k ∷ ks) parts = k ∷ woven ks parts

pub woven_first : (ks : List CellRef) (p : List CellRef) (ps : List (List CellRef)) → woven ks (p ∷ ps) ≡ p ++ behind_part ks ps
woven_first [] p ps = refl
woven_first (k ∷ ks) p ps = refl

-- cells that go, between others
module _ (b : Image) (front back was now : List ℕ) (drops : DropsCells b was now) (once : AreOnce (front ++ (was ++ back))) where
  dropped_behind : AreOnce (now ++ back)
  dropped_behind =
      let inner = once_parts was back (once_parts front (was ++ back) once).1 in
      once_together now back drops.once inner.1 (λ n own behind. inner.2 n (drops.more n own) behind)

  more_behind : (n : ℕ) → IsAmong (now ++ back) n → IsAmong (was ++ back) n
  more_behind n within = elim (among_either now back n within) [
    | inl own ↦ among_front was back n (drops.more n own)
    | inr behind ↦ among_back was back n behind
  ]

  pub drops_between : DropsCells b (front ++ (was ++ back)) (front ++ (now ++ back))
  drops_between = record {
    more = λ n within. elim (among_either front (now ++ back) n within) [
      | inl ahead ↦ among_front front (was ++ back) n ahead
      | inr rest ↦ among_back front (was ++ back) n (more_behind n rest)
    ];
    gone = λ n within. elim (among_either front (was ++ back) n within) [
      | inl ahead ↦ inl (among_front front (now ++ back) n ahead)
      | inr rest ↦ elim (among_either was back n rest) [
        | inl own ↦ elim (drops.gone n own) [
          | inl still ↦ inl (among_back front (now ++ back) n (among_front now back n still))
          | inr gone ↦ inr gone
        ]
        | inr behind ↦ inl (among_back front (now ++ back) n (among_back now back n behind))
      ]
    ];
    once =
        let outer = once_parts front (was ++ back) once in
        once_together front (now ++ back) outer.0 dropped_behind (λ n ahead rest. outer.2 n ahead (more_behind n rest));
  }

-- children in front and behind, with some between
module _ (h : ℕ) (F B : List (BTree h)) where
  pub cells_around : (ms : List (BTree h)) → flat_map (cells h) (F ++ (ms ++ B)) ≡ flat_map (cells h) F ++ (flat_map (cells h) ms ++ flat_map (cells h) B)
  cells_around ms = flat_map-append (cells h) F (ms ++ B) ∙ ap (λ (xs : List ℕ). flat_map (cells h) F ++ xs) (flat_map-append (cells h) ms B)

  pub versions_around : (K ks L : List CellRef) (ms : List (BTree h)) → length K ≡ length F → woven (K ++ (ks ++ L)) (map (versions h) (F ++ (ms ++ B))) ≡ woven K (map (versions h) F) ++ woven (ks ++ L) (map (versions h) ms ++ map (versions h) B)
  versions_around K ks L ms same =
      ap (woven (K ++ (ks ++ L))) (map-append (versions h) F (ms ++ B) ∙ ap (λ (ps : List (List CellRef)). map (versions h) F ++ ps) (map-append (versions h) ms B))
      ∙ woven_append K (ks ++ L) (map (versions h) F) (map (versions h) ms ++ map (versions h) B) (same ∙ sym (length_map (versions h) F))

module _ (a b : Image) (h : ℕ) (at : CellRef) (K L : List CellRef) (k : CellRef) (F B : List (BTree h)) (x y : BTree h) (same : length K ≡ length F)
    (stands : Stands (suc h) a (record { at = at; keys = K ++ k ∷ L; children = F ++ x ∷ y ∷ B })) (few : length (K ++ k ∷ L) ≤ 7) (many : length (F ++ x ∷ y ∷ B) ≡ length (K ++ k ∷ L) + 1)
    (once : AreOnce (at.number ∷ flat_map (cells h) (F ++ x ∷ y ∷ B))) (front : Each (IsShaped h least_keys) F) (back : Each (IsShaped h least_keys) B)
    (stays : StaysOutside a b (at.number ∷ (cells h x ++ (cells h y ++ [])))) where
  abbrev was : BTree (suc h)
  was = record { at = at; keys = K ++ k ∷ L; children = F ++ x ∷ y ∷ B }

  split_once : AreOnce (at.number ∷ (flat_map (cells h) F ++ ((cells h x ++ (cells h y ++ [])) ++ flat_map (cells h) B)))
  split_once = subst (λ (ns : List ℕ). AreOnce (at.number ∷ ns)) (cells_around h F B (x ∷ y ∷ [])) once

  within_all : (n : ℕ) → IsAmong (cells h x ++ (cells h y ++ [])) n → IsAmong (flat_map (cells h) (F ++ x ∷ y ∷ B)) n
  within_all n within = subst (λ (ns : List ℕ). IsAmong ns n) (sym (cells_around h F B (x ∷ y ∷ []))) (among_back (flat_map (cells h) F) ((cells h x ++ (cells h y ++ [])) ++ flat_map (cells h) B) n (among_front (cells h x ++ (cells h y ++ [])) (flat_map (cells h) B) n within))

  same_front : (n : ℕ) → IsAmong (flat_map (cells h) F) n → b n ≡ a n
  same_front n within = stays n (λ own. elim own [
    | inl root ↦ split_once.0 (among_front (flat_map (cells h) F) ((cells h x ++ (cells h y ++ [])) ++ flat_map (cells h) B) at.number (subst (IsAmong (flat_map (cells h) F)) (sym root) within))
    | inr middle ↦ (once_parts (flat_map (cells h) F) ((cells h x ++ (cells h y ++ [])) ++ flat_map (cells h) B) split_once.1).2 n within (among_front (cells h x ++ (cells h y ++ [])) (flat_map (cells h) B) n middle)
  ])

  same_back : (n : ℕ) → IsAmong (flat_map (cells h) B) n → b n ≡ a n
  same_back n within = stays n (λ own. elim own [
    | inl root ↦ split_once.0 (among_back (flat_map (cells h) F) ((cells h x ++ (cells h y ++ [])) ++ flat_map (cells h) B) at.number (among_back (cells h x ++ (cells h y ++ [])) (flat_map (cells h) B) at.number (subst (IsAmong (flat_map (cells h) B)) (sym root) within)))
    | inr middle ↦ (once_parts (cells h x ++ (cells h y ++ [])) (flat_map (cells h) B) (once_parts (flat_map (cells h) F) ((cells h x ++ (cells h y ++ [])) ++ flat_map (cells h) B) split_once.1).1).2 n middle within
  ])

  module _ (ks : List CellRef) (ms : List (BTree h)) (one : length ks ≤ 1) (more : length ms ≡ length ks + 1) (shapes : Each (IsShaped h least_keys) ms) (stand : Each (Stands h b) ms)
      (list : woven (ks ++ L) (map (versions h) ms ++ map (versions h) B) ≡ (versions h x ++ k ∷ versions h y) ++ behind_part L (map (versions h) B))
      (drops : DropsCells b (cells h x ++ (cells h y ++ [])) (flat_map (cells h) ms))
      (here : b at.number ≡ Some (cell_of (K ++ (ks ++ L)) (roots (suc h) (F ++ (ms ++ B))))) where
    abbrev now : BTree (suc h)
    now = record { at = at; keys = K ++ (ks ++ L); children = F ++ (ms ++ B) }

    was_list : versions (suc h) was ≡ woven K (map (versions h) F) ++ ((versions h x ++ k ∷ versions h y) ++ behind_part L (map (versions h) B))
    was_list =
        versions_around h F B K (k ∷ []) L (x ∷ y ∷ []) same
        ∙ ap (λ (rs : List CellRef). woven K (map (versions h) F) ++ (versions h x ++ k ∷ rs)) (woven_first L (versions h y) (map (versions h) B))
        ∙ ap (λ (rs : List CellRef). woven K (map (versions h) F) ++ rs) (sym (append_assoc (versions h x) (k ∷ versions h y) (behind_part L (map (versions h) B))))

    counts : (length (K ++ (ks ++ L)) ≤ length (K ++ k ∷ L)) × (length (K ++ k ∷ L) ≤ length (K ++ (ks ++ L)) + 1) × (length (F ++ (ms ++ B)) ≡ length (K ++ (ks ++ L)) + 1)
    counts =
        let first = length-append K (k ∷ L) in
        let second = length-append K (ks ++ L) in
        let third = length-append ks L in
        let fourth = length-append F (x ∷ y ∷ B) in
        let fifth = length-append F (ms ++ B) in
        let sixth = length-append ms B in
        (omega arith, omega arith, omega arith)

    pub mended : IsMended a b h was now
    mended = record {
      at = refl;
      stands = (here, each_both (Stands h b) F (ms ++ B) (all_still a b h F same_front (each_front (Stands h a) F (x ∷ y ∷ B) stands.1)) (each_both (Stands h b) ms B stand (all_still a b h B same_back (each_back (Stands h a) F (x ∷ y ∷ B) stands.1).1.1)));
      shape = λ least enough. (
        (let count = counts in record { enough = omega arith; fit = omega arith }),
        counts.2,
        each_both (IsShaped h least_keys) F (ms ++ B) front (each_both (IsShaped h least_keys) ms B shapes back),
      );
      same = versions_around h F B K ks L ms same ∙ ap (λ (rs : List CellRef). woven K (map (versions h) F) ++ rs) list ∙ sym was_list;
      drops =
          subst (λ (ns : List ℕ). DropsCells b (at.number ∷ ns) (at.number ∷ flat_map (cells h) (F ++ (ms ++ B)))) (sym (cells_around h F B (x ∷ y ∷ [])))
          (subst (λ (ns : List ℕ). DropsCells b (at.number ∷ (flat_map (cells h) F ++ ((cells h x ++ (cells h y ++ [])) ++ flat_map (cells h) B))) (at.number ∷ ns)) (sym (cells_around h F B ms))
          (drops_between b (at.number ∷ flat_map (cells h) F) (flat_map (cells h) B) (cells h x ++ (cells h y ++ [])) (flat_map (cells h) ms) drops split_once));
      elsewhere = λ n out. stays n (λ own. elim own [
        | inl root ↦ out (inl root)
        | inr middle ↦ out (inr (within_all n middle))
      ]);
    }
