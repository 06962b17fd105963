-- Cells between others, where those between change; and the cells of a node's children with another one, or two, in the place of one.
use Rattle.std.proofs.Common.{◌≡◌, ◌⊎◌, suc, ℕ, List, ◌∷◌, ◌++◌, take, drop, slice_get, Some, inl, inr, sym, ap, subst, ◌∙◌}
use Rattle.std.proofs.lemmas.List.{append_assoc}
use Rattle.std.proofs.lemmas.List.Concat.{flat_map-append}
use Rattle.std.specs.List.{flat_map}
use Rattle.rdb_cells.specs.Links.{IsAmong, AreOnce, AreDisjoint}
use Rattle.rdb_cells.proofs.LinkLemmas.{among_either, among_front, among_back, once_parts, once_together}
use Rattle.rdb_tree.specs.Growth.{AddsCells}
use Rattle.rdb_tree.specs.Trees.{BTree, cells}
use Rattle.rdb_tree.proofs.ChildLemmas.{with_another, with_two, same_another}

module _ (front back was now fresh : List ℕ) (adds : AddsCells fresh was now) where
  more_between : (n : ℕ) → IsAmong (front ++ (now ++ back)) n → IsAmong (front ++ (was ++ back)) n ⊎ IsAmong fresh n
  more_between n within = elim (among_either front (now ++ back) n within) [
    | inl ahead ↦ inl (among_front front (was ++ back) n ahead)
    | inr rest ↦ elim (among_either now back n rest) [
      | inl own ↦ elim (adds.more n own) [
        | inl old ↦ inl (among_back front (was ++ back) n (among_front was back n old))
        | inr new ↦ inr new
      ]
      | inr behind ↦ inl (among_back front (was ++ back) n (among_back was back n behind))
    ]
  ]

  kept_between : (n : ℕ) → IsAmong (front ++ (was ++ back)) n → IsAmong (front ++ (now ++ back)) n
  kept_between n within = elim (among_either front (was ++ back) n within) [
    | inl ahead ↦ among_front front (now ++ back) n ahead
    | inr rest ↦ elim (among_either was back n rest) [
      | inl own ↦ among_back front (now ++ back) n (among_front now back n (adds.kept n own))
      | inr behind ↦ among_back front (now ++ back) n (among_back now back n behind)
    ]
  ]

  module _ (once : AreOnce (front ++ (was ++ back))) (apart : AreDisjoint fresh (front ++ (was ++ back))) where
    once_behind : AreOnce (now ++ back)
    once_behind =
        let outer = once_parts front (was ++ back) once in
        let inner = once_parts was back outer.1 in
        once_together now back adds.once inner.1 (λ n own behind. elim (adds.more n own) [
          | inl old ↦ inner.2 n old behind
          | inr new ↦ apart n new (among_back front (was ++ back) n (among_back was back n behind))
        ])

    once_between : AreOnce (front ++ (now ++ back))
    once_between =
        let outer = once_parts front (was ++ back) once in
        once_together front (now ++ back) outer.0 once_behind (λ n ahead rest. elim (among_either now back n rest) [
          | inl own ↦ elim (adds.more n own) [
            | inl old ↦ outer.2 n ahead (among_front was back n old)
            | inr new ↦ apart n new (among_front front (was ++ back) n ahead)
          ]
          | inr behind ↦ outer.2 n ahead (among_back was back n behind)
        ])

    pub adds_between : AddsCells fresh (front ++ (was ++ back)) (front ++ (now ++ back))
    adds_between = record {
      more = more_between;
      kept = kept_between;
      used = λ n new. among_back front (now ++ back) n (among_front now back n (adds.used n new));
      once = once_between;
    }

module _ (h : ℕ) (ts : List (BTree h)) (n : ℕ) where
  pub ahead : List ℕ
  ahead = flat_map (cells h) (take n ts)

  pub behind : List ℕ
  behind = flat_map (cells h) (drop (suc n) ts)

  pub cells_another : (d : BTree h) → flat_map (cells h) (with_another n d ts) ≡ ahead ++ (cells h d ++ behind)
  unfolding ahead behind
  cells_another d = flat_map-append (cells h) (take n ts) (d ∷ drop (suc n) ts)

  cells_two : (l r : BTree h) → flat_map (cells h) (with_two n l r ts) ≡ ahead ++ ((cells h l ++ cells h r) ++ behind)
  unfolding ahead behind
  cells_two l r =
      flat_map-append (cells h) (take n ts) (l ∷ r ∷ drop (suc n) ts)
      ∙ ap (λ (xs : List ℕ). flat_map (cells h) (take n ts) ++ xs) (sym (append_assoc (cells h l) (cells h r) (flat_map (cells h) (drop (suc n) ts))))

  pub cells_at : (c : BTree h) → slice_get ts n ≡ Some c → flat_map (cells h) ts ≡ ahead ++ (cells h c ++ behind)
  cells_at c at = ap (flat_map (cells h)) (sym (same_another n c ts at)) ∙ cells_another c

  -- what comes of the cells of a node, whose own is the first, as of those of a child
  module _ (m : ℕ) (fresh : List ℕ) (c : BTree h) (at : slice_get ts n ≡ Some c) (once : AreOnce (m ∷ flat_map (cells h) ts)) (apart : AreDisjoint fresh (m ∷ flat_map (cells h) ts)) where
    adds_among : (now : List ℕ) → AddsCells fresh (cells h c) now → AddsCells fresh (m ∷ flat_map (cells h) ts) (m ∷ (ahead ++ (now ++ behind)))
    adds_among now adds =
        let was = cells_at c at in
        subst (λ (xs : List ℕ). AddsCells fresh (m ∷ xs) (m ∷ (ahead ++ (now ++ behind)))) (sym was)
        (adds_between (m ∷ ahead) behind (cells h c) now fresh adds
        (subst (λ (xs : List ℕ). AreOnce (m ∷ xs)) was once)
        (subst (λ (xs : List ℕ). AreDisjoint fresh (m ∷ xs)) was apart))

    pub adds_another : (d : BTree h) → AddsCells fresh (cells h c) (cells h d) → AddsCells fresh (m ∷ flat_map (cells h) ts) (m ∷ flat_map (cells h) (with_another n d ts))
    adds_another d adds = subst (λ (xs : List ℕ). AddsCells fresh (m ∷ flat_map (cells h) ts) (m ∷ xs)) (sym (cells_another d)) (adds_among (cells h d) adds)

    pub adds_two : (l r : BTree h) → AddsCells fresh (cells h c) (cells h l ++ cells h r) → AddsCells fresh (m ∷ flat_map (cells h) ts) (m ∷ flat_map (cells h) (with_two n l r ts))
    adds_two l r adds = subst (λ (xs : List ℕ). AddsCells fresh (m ∷ flat_map (cells h) ts) (m ∷ xs)) (sym (cells_two l r)) (adds_among (cells h l ++ cells h r) adds)
