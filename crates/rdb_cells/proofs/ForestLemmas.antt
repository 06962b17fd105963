-- Trees in cells: an image holds one forest from its roots on; the steps to a node; a node replaced with all below it; a leaf
-- that comes or goes; and how deep a forest can be.
use Rattle.std.proofs.Common.{◌≢◌, ◌≡◌, ◌<◌, ◌≤◌, ◌⊎◌, ◌++◌, suc, ℕ, List, [], ◌∷◌, length, length-append, get_or, drop, Option, Some, inl, inr, refl, sym, ap, subst, ◌∙◌, arith}
use Rattle.std.proofs.lemmas.List.{length-map}
use Rattle.std.specs.Option.{option_map_or}
use Rattle.rdb_pages.specs.declared.cell.Cell.{Cell}
use Rattle.rdb_cells.specs.Images.{Image}
use Rattle.rdb_cells.specs.Links.{IsAmong, AreOnce, AreDisjoint, SameOn, Node, Format, IsFunctional, IsHeld, Stand, StandApart, numbers, Forest, End, Gap, Tree, roots, grown, depth, AreTrees, Step, PastGap, PastTree, Below, graft, ahead, behind, around}
use Rattle.rdb_cells.proofs.LinkLemmas.{still_stand, still_apart, among_either, among_front, among_back, once_parts, once_together, few_below, numbers_append, stand_parts, stand_together, grafted}

no_cons : (n : ℕ) (ns : List ℕ) → [] ≡ n ∷ ns → ⊥
no_cons n ns e = let many : 0 ≡ suc (length ns) = ap (λ (ms : List ℕ). length ms) e in omega arith

-- One forest from its roots on
module _ {A : Type 0} (format : Format A) (one : IsFunctional format) (image : Image) where
  pub one_forest : (first second : Forest A) → roots first ≡ roots second → Stand format image (grown first) → Stand format image (grown second) → first ≡ second
  one_forest End End same f s = refl
  one_forest End (Gap others) same f s = absurd (no_cons 0 (roots others) same)
  one_forest End (Tree n e below others) same f s = absurd (no_cons n (roots others) same)
  one_forest (Gap others) End same f s = absurd (no_cons 0 (roots others) (sym same))
  one_forest (Gap others) (Gap again) same f s = ap (λ (t : Forest A). Gap t) (one_forest others again (ap (λ (ns : List ℕ). drop 1 ns) same) f s)
  one_forest (Gap others) (Tree n e below again) same f s =
      let none : 0 ≡ n = ap (λ (ns : List ℕ). get_or ns 0 0) same in
      let some = s.0.some in
      absurd (omega arith)
  one_forest (Tree n e below others) End same f s = absurd (no_cons n (roots others) (sym same))
  one_forest (Tree n e below others) (Gap again) same f s =
      let none : n ≡ 0 = ap (λ (ns : List ℕ). get_or ns 0 0) same in
      let some = f.0.some in
      absurd (omega arith)
  one_forest (Tree n e below others) (Tree m d under again) same f s =
      let number : n ≡ m = ap (λ (ns : List ℕ). get_or ns 0 0) same in
      let cells : Some s.0.cell ≡ Some f.0.cell = sym s.0.here ∙ ap image (sym number) ∙ f.0.here in
      let cell : s.0.cell ≡ f.0.cell = ap (λ (o : Option Cell). option_map_or (λ c. c) o s.0.cell) cells in
      let both = one f.0.cell e d (roots below) (roots under) f.0.written (subst (λ (c : Cell). format c d (roots under)) cell s.0.written) in
      let f_parts = stand_parts format image (grown below) (grown others) f.1 in
      let s_parts = stand_parts format image (grown under) (grown again) s.1 in
      let lower = one_forest below under both.1 f_parts.0 s_parts.0 in
      let later = one_forest others again (ap (λ (ns : List ℕ). drop 1 ns) same) f_parts.1 s_parts.1 in
      λ i. Tree (number i) (both.0 i) (lower i) (later i)

-- The steps to a node
pub record IsReached {A : Type 0} (trees : Forest A) (n : ℕ) : Type 0 where
  pub steps : List (Step A)
  pub element : A
  pub below : Forest A
  pub others : Forest A
  pub is : trees ≡ graft steps (Tree n element below others)

module _ {A : Type 0} where
  further_steps : (steps : List (Step A)) (trees : Forest A) (n : ℕ) → IsAmong (numbers (grown trees)) n → IsReached (graft steps trees) n
  further_steps steps End n within = absurd within
  further_steps steps (Gap others) n within = further_steps (PastGap ∷ steps) others n within
  further_steps steps (Tree m e below others) n (inl same) = record {
    steps = steps;
    element = e;
    below = below;
    others = others;
    is = ap (λ (k : ℕ). graft steps (Tree k e below others)) same;
  }
  further_steps steps (Tree m e below others) n (inr later) =
      elim (among_either (numbers (grown below)) (numbers (grown others)) n (subst (λ (ns : List ℕ). IsAmong ns n) (numbers_append (grown below) (grown others)) later)) [
        | inl lower ↦ further_steps (Below m e others ∷ steps) below n lower
        | inr beside ↦ further_steps (PastTree m e below ∷ steps) others n beside
      ]

  -- to each node of a forest some steps lead
  pub steps_to : (trees : Forest A) (n : ℕ) → IsAmong (numbers (grown trees)) n → IsReached trees n
  steps_to trees n within = further_steps [] trees n within

-- Nodes apart, with some between them replaced
module _ {A : Type 0} (format : Format A) (before after : Image) where
  pub middle_replaced : (front was now back : List (Node A)) → StandApart format before (front ++ (was ++ back)) → SameOn (numbers front ++ numbers back) before after → StandApart format after now → AreDisjoint (numbers now) (numbers front ++ numbers back) → StandApart format after (front ++ (now ++ back))
  middle_replaced front was now back apart same stands fresh =
      let stand = stand_parts format before front (was ++ back) apart.stand in
      let stand_back = (stand_parts format before was back stand.1).1 in
      let front_still = still_stand format before after front (λ n within. same n (among_front (numbers front) (numbers back) n within)) stand.0 in
      let back_still = still_stand format before after back (λ n within. same n (among_back (numbers front) (numbers back) n within)) stand_back in
      let named : numbers (front ++ (was ++ back)) ≡ numbers front ++ (numbers was ++ numbers back) = numbers_append front (was ++ back) ∙ ap (λ (ns : List ℕ). numbers front ++ ns) (numbers_append was back) in
      let renamed : numbers (front ++ (now ++ back)) ≡ numbers front ++ (numbers now ++ numbers back) = numbers_append front (now ++ back) ∙ ap (λ (ns : List ℕ). numbers front ++ ns) (numbers_append now back) in
      let parts = once_parts (numbers front) (numbers was ++ numbers back) (subst AreOnce named apart.once) in
      let back_once = (once_parts (numbers was) (numbers back) parts.1).1 in
      let later = once_together (numbers now) (numbers back) stands.once back_once (λ n within also. fresh n within (among_back (numbers front) (numbers back) n also)) in
      let front_apart : AreDisjoint (numbers front) (numbers now ++ numbers back) = λ n within also. elim (among_either (numbers now) (numbers back) n also) [
        | inl new ↦ fresh n new (among_front (numbers front) (numbers back) n within)
        | inr old ↦ parts.2 n within (among_back (numbers was) (numbers back) n old)
      ] in
      record {
        stand = stand_together format after front (now ++ back) front_still (stand_together format after now back stands.stand back_still);
        once = subst AreOnce (sym renamed) (once_together (numbers front) (numbers now ++ numbers back) parts.0 later front_apart);
      }

  -- a forest in place of one with the same roots
  pub regrown : (steps : List (Step A)) (was now : Forest A) → roots now ≡ roots was → StandApart format before (grown (graft steps was)) → SameOn (around steps (roots was)) before after → StandApart format after (grown now) → AreDisjoint (numbers (grown now)) (around steps (roots was)) → StandApart format after (grown (graft steps now))
  regrown steps was now same_roots apart same stands fresh =
      let split = subst (λ (nodes : List (Node A)). StandApart format before nodes) (grafted steps was) apart in
      let again = middle_replaced (ahead steps (roots was)) (grown was) (grown now) (behind steps) split same stands fresh in
      let nodes : grown (graft steps now) ≡ ahead steps (roots was) ++ (grown now ++ behind steps) = grafted steps now ∙ ap (λ (rs : List ℕ). ahead steps rs ++ (grown now ++ behind steps)) same_roots in
      subst (λ (nodes : List (Node A)). StandApart format after nodes) (sym nodes) again

-- what stands around a node: the cells of the trees below it, of those beside it, and of the others are apart
pub record IsNodeAmong {A : Type 0} (format : Format A) (image : Image) (steps : List (Step A)) (n : ℕ) (below others : Forest A) : Type 0 where
  pub below_stand : StandApart format image (grown below)
  pub others_stand : StandApart format image (grown others)
  pub not_below : ¬ IsAmong (numbers (grown below)) n
  pub not_beside : ¬ IsAmong (numbers (grown others)) n
  pub beside : AreDisjoint (numbers (grown below)) (numbers (grown others))
  pub outside : AreDisjoint (n ∷ (numbers (grown below) ++ numbers (grown others))) (around steps (n ∷ roots others))

module _ {A : Type 0} (format : Format A) (image : Image) (steps : List (Step A)) (n : ℕ) (e : A) (below others : Forest A) where
  node : Node A
  node = record { number = n; element = e; links = roots below }

  -- the cells of a forest with the node, in their order
  cells_around : numbers (grown (graft steps (Tree n e below others))) ≡ numbers (ahead steps (n ∷ roots others)) ++ ((n ∷ (numbers (grown below) ++ numbers (grown others))) ++ numbers (behind steps))
  cells_around =
      ap (λ (nodes : List (Node A)). numbers nodes) (grafted steps (Tree n e below others))
      ∙ numbers_append (ahead steps (n ∷ roots others)) (grown (Tree n e below others) ++ behind steps)
      ∙ ap (λ (ns : List ℕ). numbers (ahead steps (n ∷ roots others)) ++ ns)
      (numbers_append (grown (Tree n e below others)) (behind steps) ∙ ap (λ (ns : List ℕ). (n ∷ ns) ++ numbers (behind steps)) (numbers_append (grown below) (grown others)))

  pub node_among : StandApart format image (grown (graft steps (Tree n e below others))) → IsNodeAmong format image steps n below others
  node_among apart =
      let front = ahead steps (n ∷ roots others) in
      let back = behind steps in
      let tree = n ∷ (numbers (grown below) ++ numbers (grown others)) in
      let stand = subst (λ (nodes : List (Node A)). Stand format image nodes) (grafted steps (Tree n e below others)) apart.stand in
      let tree_stand = (stand_parts format image (grown (Tree n e below others)) back (stand_parts format image front (grown (Tree n e below others) ++ back) stand).1).0 in
      let parts_stand = stand_parts format image (grown below) (grown others) tree_stand.1 in
      let whole = once_parts (numbers front) (tree ++ numbers back) (subst AreOnce cells_around apart.once) in
      let rest = once_parts tree (numbers back) whole.1 in
      let parts = once_parts (numbers (grown below)) (numbers (grown others)) rest.0.1 in
      record {
        below_stand = record { stand = parts_stand.0; once = parts.0 };
        others_stand = record { stand = parts_stand.1; once = parts.1 };
        not_below = λ within. rest.0.0 (among_front (numbers (grown below)) (numbers (grown others)) n within);
        not_beside = λ within. rest.0.0 (among_back (numbers (grown below)) (numbers (grown others)) n within);
        beside = parts.2;
        outside = λ k within also. elim (among_either (numbers front) (numbers back) k also) [
          | inl sooner ↦ whole.2 k sooner (among_front tree (numbers back) k within)
          | inr later ↦ rest.2 k within later
        ];
      }

  -- the node's cell, those below it and those of the others are cells of the forest
  pub of_forest : (k : ℕ) → (n ≡ k) ⊎ IsAmong (numbers (grown below)) k ⊎ IsAmong (numbers (grown others) ++ around steps (n ∷ roots others)) k → IsAmong (numbers (grown (graft steps (Tree n e below others)))) k
  of_forest k within = subst (λ (ns : List ℕ). IsAmong ns k) (sym cells_around) (place within)
    where
      front : List ℕ
      front = numbers (ahead steps (n ∷ roots others))

      back : List ℕ
      back = numbers (behind steps)

      in_tree : IsAmong (n ∷ (numbers (grown below) ++ numbers (grown others))) k → IsAmong (numbers (ahead steps (n ∷ roots others)) ++ ((n ∷ (numbers (grown below) ++ numbers (grown others))) ++ numbers (behind steps))) k
      in_tree among = among_back (numbers (ahead steps (n ∷ roots others))) ((n ∷ (numbers (grown below) ++ numbers (grown others))) ++ numbers (behind steps)) k (among_front (n ∷ (numbers (grown below) ++ numbers (grown others))) (numbers (behind steps)) k among)

      place : (n ≡ k) ⊎ IsAmong (numbers (grown below)) k ⊎ IsAmong (numbers (grown others) ++ around steps (n ∷ roots others)) k → IsAmong (numbers (ahead steps (n ∷ roots others)) ++ ((n ∷ (numbers (grown below) ++ numbers (grown others))) ++ numbers (behind steps))) k
      place (inl here) = in_tree (inl here)
      place (inr (inl lower)) = in_tree (inr (among_front (numbers (grown below)) (numbers (grown others)) k lower))
      place (inr (inr other)) = elim (among_either (numbers (grown others)) (around steps (n ∷ roots others)) k other) [
        | inl later ↦ in_tree (inr (among_back (numbers (grown below)) (numbers (grown others)) k later))
        | inr outer ↦ elim (among_either (numbers (ahead steps (n ∷ roots others))) (numbers (behind steps)) k outer) [
          | inl sooner ↦ among_front (numbers (ahead steps (n ∷ roots others))) ((n ∷ (numbers (grown below) ++ numbers (grown others))) ++ numbers (behind steps)) k sooner
          | inr last ↦ among_back (numbers (ahead steps (n ∷ roots others))) ((n ∷ (numbers (grown below) ++ numbers (grown others))) ++ numbers (behind steps)) k (among_back (n ∷ (numbers (grown below) ++ numbers (grown others))) (numbers (behind steps)) k last)
        ]
      ]

-- A node rewritten together with those below it, while the others stay
module _ {A : Type 0} (format : Format A) (before after : Image) (steps : List (Step A)) (n : ℕ) (e d : A) (was now others : Forest A) where
  pub node_regrown : StandApart format before (grown (graft steps (Tree n e was others))) → SameOn (numbers (grown others) ++ around steps (n ∷ roots others)) before after → IsHeld format after (record { number = n; element = d; links = roots now }) → StandApart format after (grown now) → (¬ IsAmong (numbers (grown now)) n) → AreDisjoint (numbers (grown now)) (numbers (grown others) ++ around steps (n ∷ roots others)) → StandApart format after (grown (graft steps (Tree n d now others)))
  node_regrown apart same held stands beside fresh =
      let rest = around steps (n ∷ roots others) in
      let old = node_among format before steps n e was others apart in
      let others_still = still_stand format before after (grown others) (λ k within. same k (among_front (numbers (grown others)) rest k within)) old.others_stand.stand in
      let split : (k : ℕ) → IsAmong (numbers (grown now ++ grown others)) k → IsAmong (numbers (grown now)) k ⊎ IsAmong (numbers (grown others)) k = λ k within. among_either (numbers (grown now)) (numbers (grown others)) k (subst (λ (ns : List ℕ). IsAmong ns k) (numbers_append (grown now) (grown others)) within) in
      let lower = once_together (numbers (grown now)) (numbers (grown others)) stands.once old.others_stand.once (λ k within also. fresh k within (among_front (numbers (grown others)) rest k also)) in
      let tree : StandApart format after (grown (Tree n d now others)) = record {
        stand = (held, stand_together format after (grown now) (grown others) stands.stand others_still);
        once = (λ within. elim (split n within) [ inl low ↦ beside low | inr other ↦ old.not_beside other ], subst AreOnce (sym (numbers_append (grown now) (grown others))) lower);
      } in
      let outside : AreDisjoint (numbers (grown (Tree n d now others))) rest = λ k within also. elim within [
        | inl here ↦ old.outside k (inl here) also
        | inr deeper ↦ elim (split k deeper) [
          | inl low ↦ fresh k low (among_back (numbers (grown others)) rest k also)
          | inr other ↦ old.outside k (inr (among_back (numbers (grown was)) (numbers (grown others)) k other)) also
        ]
      ] in
      regrown format before after steps (Tree n e was others) (Tree n d now others) refl apart (λ k within. same k (among_back (numbers (grown others)) rest k within)) tree outside

-- One node rewritten, which leads where it led
module _ {A : Type 0} (format : Format A) (before after : Image) (steps : List (Step A)) (n : ℕ) (e d : A) (below others : Forest A) (stay : (k : ℕ) → k ≢ n → after k ≡ before k) where
  pub node_rewritten : IsHeld format after (record { number = n; element = d; links = roots below }) → StandApart format before (grown (graft steps (Tree n e below others))) → StandApart format after (grown (graft steps (Tree n d below others)))
  node_rewritten held apart =
      let rest = numbers (grown others) ++ around steps (n ∷ roots others) in
      let old = node_among format before steps n e below others apart in
      let same_rest : SameOn rest before after = λ k within. stay k (λ here. elim (among_either (numbers (grown others)) (around steps (n ∷ roots others)) k within) [
        | inl later ↦ old.not_beside (subst (λ (i : ℕ). IsAmong (numbers (grown others)) i) here later)
        | inr outside ↦ old.outside k (inl (sym here)) outside
      ]) in
      let lower = still_apart format before after (grown below) (λ k within. stay k (λ here. old.not_below (subst (λ (i : ℕ). IsAmong (numbers (grown below)) i) here within))) old.below_stand in
      let fresh : AreDisjoint (numbers (grown below)) rest = λ k within also. elim (among_either (numbers (grown others)) (around steps (n ∷ roots others)) k also) [
        | inl later ↦ old.beside k within later
        | inr outside ↦ old.outside k (inr (among_front (numbers (grown below)) (numbers (grown others)) k within)) outside
      ] in
      node_regrown format before after steps n e d below below others apart same_rest held lower old.not_below fresh

-- Trees from their first numbers on
module _ {A : Type 0} where
  -- trees with the same roots where some steps lead: the whole has the same roots
  pub roots_alike : (steps : List (Step A)) (was now : Forest A) → roots now ≡ roots was → roots (graft steps now) ≡ roots (graft steps was)
  roots_alike [] was now same = same
  roots_alike (PastGap ∷ steps) was now same = roots_alike steps (Gap was) (Gap now) (ap (λ (ns : List ℕ). 0 ∷ ns) same)
  roots_alike (PastTree n e below ∷ steps) was now same = roots_alike steps (Tree n e below was) (Tree n e below now) (ap (λ (ns : List ℕ). n ∷ ns) same)
  roots_alike (Below n e others ∷ steps) was now same = roots_alike steps (Tree n e was others) (Tree n e now others) refl

  pub same_trees : (format : Format A) → IsFunctional format → (image : Image) (first : List ℕ) (trees again : Forest A) → AreTrees format image first trees → AreTrees format image first again → trees ≡ again
  same_trees format one image first trees again left right = one_forest format one image trees again (sym left.begin ∙ right.begin) left.nodes.stand right.nodes.stand

-- How deep a forest can be
module _ {A : Type 0} where
  pub depth_within : (trees : Forest A) → depth trees ≤ length (grown trees)
  depth_within End = omega arith
  depth_within (Gap others) = depth_within others
  depth_within (Tree n e below others) =
      let lower = depth_within below in
      let later = depth_within others in
      let all = length-append (grown below) (grown others) in
      omega arith

  -- where all cells stand below a number, so does the depth
  pub depth_below : (format : Format A) (image : Image) (most : ℕ) (trees : Forest A) → StandApart format image (grown trees) → ((n : ℕ) → IsAmong (numbers (grown trees)) n → n < most) → depth trees ≤ most
  depth_below format image most trees apart below =
      let few = few_below most (numbers (grown trees)) apart.once below in
      let each : length (numbers (grown trees)) ≡ length (grown trees) = length-map (grown trees) (λ x. x.number) in
      let deep = depth_within trees in
      omega arith
