-- Leaves of trees in cells: one comes to an empty place below a node, or goes from there.
use Rattle.std.proofs.Common.{◌≡◌, ◌≢◌, ◌⊎◌, ◌++◌, ℕ, List, [], ◌∷◌, inl, inr, refl, sym, ap, subst, ◌∙◌}
use Rattle.rdb_cells.specs.Images.{Image}
use Rattle.rdb_cells.specs.Links.{IsAmong, AreOnce, AreDisjoint, SameOn, Node, Format, IsHeld, StandApart, numbers, Forest, Gap, Tree, roots, grown, Step, PastGap, PastTree, Below, graft, ahead, behind, around, StaysBeside}
use Rattle.rdb_cells.proofs.LinkLemmas.{still_apart, among_either, among_front, among_back, among_past, among_but, numbers_append, others_apart, stand_parts, stand_together, grafted}
use Rattle.rdb_cells.proofs.ForestLemmas.{node_among, of_forest, node_regrown}

once_between : (xs : List ℕ) (m : ℕ) (ys : List ℕ) → AreOnce (xs ++ ys) → (¬ IsAmong (xs ++ ys) m) → AreOnce (xs ++ m ∷ ys)
once_between [] m ys once fresh = (fresh, once)
once_between (x ∷ xs) m ys once fresh = (
  λ within. elim (among_but xs m ys x within) [ inl same ↦ fresh (inl (sym same)) | inr other ↦ once.0 other ],
  once_between xs m ys once.1 (λ within. fresh (inr within)),
)

module _ {A : Type 0} (format : Format A) (image : Image) where
  -- a node that comes between others, and one that goes
  pub node_between : (front : List (Node A)) (x : Node A) (back : List (Node A)) → IsHeld format image x → (¬ IsAmong (numbers (front ++ back)) x.number) → StandApart format image (front ++ back) → StandApart format image (front ++ x ∷ back)
  node_between front x back held fresh apart =
      let named = numbers_append front back in
      let stand = stand_parts format image front back apart.stand in
      record {
        stand = stand_together format image front (x ∷ back) stand.0 (held, stand.1);
        once = subst AreOnce (sym (numbers_append front (x ∷ back))) (once_between (numbers front) x.number (numbers back) (subst AreOnce named apart.once) (λ within. fresh (subst (λ (ns : List ℕ). IsAmong ns x.number) (sym named) within)));
      }

  pub node_dropped : (front : List (Node A)) (x : Node A) (back : List (Node A)) → StandApart format image (front ++ x ∷ back) → StandApart format image (front ++ back)
  node_dropped front x back apart =
      let stand = stand_parts format image front (x ∷ back) apart.stand in
      record { stand = stand_together format image front back stand.0 stand.1.1; once = (others_apart front x back apart.once).2 }

-- steps that stay beside the trees
module _ {A : Type 0} where
  append_nil : (nodes : List (Node A)) → nodes ++ [] ≡ nodes
  append_nil [] = refl
  append_nil (x ∷ xs) = ap (λ (ns : List (Node A)). x ∷ ns) (append_nil xs)

  ahead_beside : (steps : List (Step A)) (rs ss : List ℕ) → StaysBeside steps → ahead steps rs ≡ ahead steps ss
  ahead_beside [] rs ss beside = refl
  ahead_beside (PastGap ∷ steps) rs ss beside = ahead_beside steps (0 ∷ rs) (0 ∷ ss) beside
  ahead_beside (PastTree n e below ∷ steps) rs ss beside = ap (λ (front : List (Node A)). front ++ record { number = n; element = e; links = roots below } ∷ grown below) (ahead_beside steps (n ∷ rs) (n ∷ ss) beside)
  ahead_beside (Below n e others ∷ steps) rs ss beside = absurd beside

  behind_beside : (steps : List (Step A)) → StaysBeside steps → behind steps ≡ []
  behind_beside [] beside = refl
  behind_beside (PastGap ∷ steps) beside = behind_beside steps beside
  behind_beside (PastTree n e below ∷ steps) beside = behind_beside steps beside
  behind_beside (Below n e others ∷ steps) beside = absurd beside

  grown_beside : (steps : List (Step A)) (trees : Forest A) → StaysBeside steps → grown (graft steps trees) ≡ ahead steps [] ++ grown trees
  grown_beside steps trees beside =
      grafted steps trees
      ∙ ap (λ (front : List (Node A)). front ++ (grown trees ++ behind steps)) (ahead_beside steps (roots trees) [] beside)
      ∙ ap (λ (back : List (Node A)). ahead steps [] ++ (grown trees ++ back)) (behind_beside steps beside)
      ∙ ap (λ (nodes : List (Node A)). ahead steps [] ++ nodes) (append_nil (grown trees))

-- a leaf at a place beside others, and the place empty
module _ {A : Type 0} (steps : List (Step A)) (beside : StaysBeside steps) (m : ℕ) (leaf : A) (leaves more : Forest A) (bare : grown leaves ≡ []) where
  leaf_node : Node A
  leaf_node = record { number = m; element = leaf; links = roots leaves }

  grown_with : grown (graft steps (Tree m leaf leaves more)) ≡ ahead steps [] ++ record { number = m; element = leaf; links = roots leaves } ∷ grown more
  grown_with =
      grown_beside steps (Tree m leaf leaves more) beside
      ∙ ap (λ (nodes : List (Node A)). ahead steps [] ++ record { number = m; element = leaf; links = roots leaves } ∷ (nodes ++ grown more)) bare

  grown_without : grown (graft steps (Gap more)) ≡ ahead steps [] ++ grown more
  grown_without = grown_beside steps (Gap more) beside

  numbers_with : numbers (grown (graft steps (Tree m leaf leaves more))) ≡ numbers (ahead steps []) ++ m ∷ numbers (grown more)
  numbers_with = ap (λ (nodes : List (Node A)). numbers nodes) grown_with ∙ numbers_append (ahead steps []) (record { number = m; element = leaf; links = roots leaves } ∷ grown more)

  numbers_without : numbers (grown (graft steps (Gap more))) ≡ numbers (ahead steps []) ++ numbers (grown more)
  numbers_without = ap (λ (nodes : List (Node A)). numbers nodes) grown_without ∙ numbers_append (ahead steps []) (grown more)

  among_with : (n : ℕ) → IsAmong (numbers (grown (graft steps (Tree m leaf leaves more)))) n → (m ≡ n) ⊎ IsAmong (numbers (grown (graft steps (Gap more)))) n
  among_with n within = elim (among_but (numbers (ahead steps [])) m (numbers (grown more)) n (subst (λ (ns : List ℕ). IsAmong ns n) numbers_with within)) [
    | inl here ↦ inl here
    | inr other ↦ inr (subst (λ (ns : List ℕ). IsAmong ns n) (sym numbers_without) other)
  ]

  among_still : (n : ℕ) → IsAmong (numbers (grown (graft steps (Gap more)))) n → IsAmong (numbers (grown (graft steps (Tree m leaf leaves more)))) n
  among_still n within = subst (λ (ns : List ℕ). IsAmong ns n) (sym numbers_with) (among_past (numbers (ahead steps [])) m (numbers (grown more)) n (subst (λ (ns : List ℕ). IsAmong ns n) numbers_without within))

  leaf_there : IsAmong (numbers (grown (graft steps (Tree m leaf leaves more)))) m
  leaf_there = subst (λ (ns : List ℕ). IsAmong ns m) (sym numbers_with) (among_back (numbers (ahead steps [])) (m ∷ numbers (grown more)) m (inl refl))

  module _ (format : Format A) (image : Image) where
    pub row_sprouted : IsHeld format image (record { number = m; element = leaf; links = roots leaves }) → (¬ IsAmong (numbers (grown (graft steps (Gap more)))) m) → StandApart format image (grown (graft steps (Gap more))) → StandApart format image (grown (graft steps (Tree m leaf leaves more)))
    row_sprouted held fresh apart =
        subst (λ (nodes : List (Node A)). StandApart format image nodes) (sym grown_with)
        (node_between format image (ahead steps []) (record { number = m; element = leaf; links = roots leaves }) (grown more) held
        (λ within. fresh (subst (λ (nodes : List (Node A)). IsAmong (numbers nodes) m) (sym grown_without) within))
        (subst (λ (nodes : List (Node A)). StandApart format image nodes) grown_without apart))

    pub row_wilted : StandApart format image (grown (graft steps (Tree m leaf leaves more))) → StandApart format image (grown (graft steps (Gap more)))
    row_wilted apart =
        subst (λ (nodes : List (Node A)). StandApart format image nodes) (sym grown_without)
        (node_dropped format image (ahead steps []) (record { number = m; element = leaf; links = roots leaves }) (grown more)
        (subst (λ (nodes : List (Node A)). StandApart format image nodes) grown_with apart))

    -- the cell of a leaf is none of the others
    pub leaf_once : StandApart format image (grown (graft steps (Tree m leaf leaves more))) → ¬ IsAmong (numbers (grown (graft steps (Gap more)))) m
    leaf_once apart within =
        let front = ahead steps [] in
        let once = subst (λ (nodes : List (Node A)). AreOnce (numbers nodes)) grown_with apart.once in
        let others = others_apart front (record { number = m; element = leaf; links = roots leaves }) (grown more) once in
        elim (among_either (numbers front) (numbers (grown more)) m (subst (λ (ns : List ℕ). IsAmong ns m) numbers_without within)) [
          | inl sooner ↦ others.0 sooner
          | inr later ↦ others.1 later
        ]

-- Below a node a leaf comes to an empty place, or goes from one: the two cells alone are written
module _ {A : Type 0} (format : Format A) (before after : Image) (outer : List (Step A)) (n : ℕ) (e d : A) (steps : List (Step A)) (beside : StaysBeside steps) (m : ℕ) (leaf : A) (leaves more others : Forest A) (bare : grown leaves ≡ []) (stay : (k : ℕ) → k ≢ m → k ≢ n → after k ≡ before k) where
  pub sprouted : (¬ IsAmong (numbers (grown (graft outer (Tree n e (graft steps (Gap more)) others)))) m) → IsHeld format after (record { number = m; element = leaf; links = roots leaves }) → IsHeld format after (record { number = n; element = d; links = roots (graft steps (Tree m leaf leaves more)) }) → StandApart format before (grown (graft outer (Tree n e (graft steps (Gap more)) others))) → StandApart format after (grown (graft outer (Tree n d (graft steps (Tree m leaf leaves more)) others)))
  sprouted fresh leaf_held held apart =
      let was = graft steps (Gap more) in
      let rest = numbers (grown others) ++ around outer (n ∷ roots others) in
      let old = node_among format before outer n e was others apart in
      let inside = of_forest format before outer n e was others in
      let other : (k : ℕ) → IsAmong rest k → n ≢ k = λ k within here. elim (among_either (numbers (grown others)) (around outer (n ∷ roots others)) k within) [
        | inl later ↦ old.not_beside (subst (λ (i : ℕ). IsAmong (numbers (grown others)) i) (sym here) later)
        | inr outside ↦ old.outside k (inl here) outside
      ] in
      let not_leaf : (k : ℕ) → (n ≡ k) ⊎ IsAmong (numbers (grown was)) k ⊎ IsAmong rest k → k ≢ m = λ k within same. fresh (subst (λ (i : ℕ). IsAmong (numbers (grown (graft outer (Tree n e was others)))) i) same (inside k within)) in
      let same_rest : SameOn rest before after = λ k within. stay k (not_leaf k (inr (inr within))) (λ same. other k within (sym same)) in
      let same_below : SameOn (numbers (grown was)) before after = λ k within. stay k (not_leaf k (inr (inl within))) (λ same. old.not_below (subst (λ (i : ℕ). IsAmong (numbers (grown was)) i) same within)) in
      let below = still_apart format before after (grown was) same_below old.below_stand in
      let now = row_sprouted steps beside m leaf leaves more bare format after leaf_held (λ within. not_leaf m (inr (inl within)) refl) below in
      let not_now : ¬ IsAmong (numbers (grown (graft steps (Tree m leaf leaves more)))) n = λ within. elim (among_with steps beside m leaf leaves more bare n within) [
        | inl same ↦ not_leaf n (inl refl) (sym same)
        | inr lower ↦ old.not_below lower
      ] in
      let apart_now : AreDisjoint (numbers (grown (graft steps (Tree m leaf leaves more)))) rest = λ k within also. elim (among_with steps beside m leaf leaves more bare k within) [
        | inl same ↦ not_leaf k (inr (inr also)) (sym same)
        | inr lower ↦ elim (among_either (numbers (grown others)) (around outer (n ∷ roots others)) k also) [
          | inl later ↦ old.beside k lower later
          | inr outside ↦ old.outside k (inr (among_front (numbers (grown was)) (numbers (grown others)) k lower)) outside
        ]
      ] in
      node_regrown format before after outer n e d was (graft steps (Tree m leaf leaves more)) others apart same_rest held now not_now apart_now

  pub wilted : IsHeld format after (record { number = n; element = d; links = roots (graft steps (Gap more)) }) → StandApart format before (grown (graft outer (Tree n e (graft steps (Tree m leaf leaves more)) others))) → StandApart format after (grown (graft outer (Tree n d (graft steps (Gap more)) others)))
  wilted held apart =
      let was = graft steps (Tree m leaf leaves more) in
      let now = graft steps (Gap more) in
      let rest = numbers (grown others) ++ around outer (n ∷ roots others) in
      let old = node_among format before outer n e was others apart in
      let there = leaf_there steps beside m leaf leaves more bare in
      let still = among_still steps beside m leaf leaves more bare in
      let other : (k : ℕ) → IsAmong rest k → n ≢ k = λ k within here. elim (among_either (numbers (grown others)) (around outer (n ∷ roots others)) k within) [
        | inl later ↦ old.not_beside (subst (λ (i : ℕ). IsAmong (numbers (grown others)) i) (sym here) later)
        | inr outside ↦ old.outside k (inl here) outside
      ] in
      let apart_was : AreDisjoint (numbers (grown was)) rest = λ k lower also. elim (among_either (numbers (grown others)) (around outer (n ∷ roots others)) k also) [
        | inl later ↦ old.beside k lower later
        | inr outside ↦ old.outside k (inr (among_front (numbers (grown was)) (numbers (grown others)) k lower)) outside
      ] in
      let same_rest : SameOn rest before after = λ k within. stay k (λ same. apart_was m there (subst (λ (i : ℕ). IsAmong rest i) same within)) (λ same. other k within (sym same)) in
      let once = leaf_once steps beside m leaf leaves more bare format before old.below_stand in
      let same_now : SameOn (numbers (grown now)) before after = λ k within. stay k (λ same. once (subst (λ (i : ℕ). IsAmong (numbers (grown now)) i) same within)) (λ same. old.not_below (subst (λ (i : ℕ). IsAmong (numbers (grown was)) i) same (still k within))) in
      let lower = still_apart format before after (grown now) same_now (row_wilted steps beside m leaf leaves more bare format before old.below_stand) in
      node_regrown format before after outer n e d was now others apart same_rest held lower (λ within. old.not_below (still n within)) (λ k within also. apart_was k (still k within) also)
