-- Linked structures in cells: what writes leave of them, and what they make of them.
use Rattle.std.proofs.Common.{◌≡◌, ◌≢◌, ◌<◌, ◌≤◌, ◌⊎◌, ◌++◌, zero, suc, ℕ, List, [], ◌∷◌, length, get_or, Option, Some, inl, inr, refl, sym, ap, ap₂, subst, ◌∙◌, arith}
use Rattle.std.proofs.Permutation.{which}
use Rattle.std.proofs.lemmas.List.{append_assoc}
use Rattle.std.specs.Option.{option_map_or}
use Rattle.rdb_pages.specs.declared.cell.Cell.{Cell}
use Rattle.rdb_pages.specs.Pages.{zero_cell}
use Rattle.rdb_cells.specs.Images.{Image, Writes}
use Rattle.rdb_cells.specs.Links.{IsAmong, AreOnce, AreDisjoint, Node, Format, IsNeverZero, IsFunctional, IsHeld, Stand, StandApart, numbers, Placed, elements, start, segment, Forest, Gap, Tree, roots, grown, Step, PastGap, PastTree, Below, graft, ahead, behind}
pub use Rattle.rdb_cells.specs.LinkLaws.{still_stand, still_apart, still_chain, still_trees, node_of}

-- Numbers
pub among_or_not : (ns : List ℕ) (n : ℕ) → IsAmong ns n ⊎ (¬ IsAmong ns n)
among_or_not [] n = inr (λ none. none)
among_or_not (m ∷ ms) n = elim (which m n) [
  | inl same ↦ inl (inl same)
  | inr apart ↦ elim (among_or_not ms n) [
    | inl within ↦ inl (inr within)
    | inr without ↦ inr (λ either. elim either [ inl same ↦ apart same | inr within ↦ without within ])
  ]
]

pub among_either : (xs ys : List ℕ) (n : ℕ) → IsAmong (xs ++ ys) n → IsAmong xs n ⊎ IsAmong ys n
among_either [] ys n within = inr within
among_either (x ∷ xs) ys n (inl same) = inl (inl same)
among_either (x ∷ xs) ys n (inr within) = elim (among_either xs ys n within) [ inl front ↦ inl (inr front) | inr back ↦ inr back ]

pub among_front : (xs ys : List ℕ) (n : ℕ) → IsAmong xs n → IsAmong (xs ++ ys) n
among_front [] ys n within = absurd within
among_front (x ∷ xs) ys n (inl same) = inl same
among_front (x ∷ xs) ys n (inr within) = inr (among_front xs ys n within)

pub among_back : (xs ys : List ℕ) (n : ℕ) → IsAmong ys n → IsAmong (xs ++ ys) n
among_back [] ys n within = within
among_back (x ∷ xs) ys n within = inr (among_back xs ys n within)

-- with a number put between, each of the others stays
pub among_past : (xs : List ℕ) (m : ℕ) (ys : List ℕ) (n : ℕ) → IsAmong (xs ++ ys) n → IsAmong (xs ++ m ∷ ys) n
among_past xs m ys n within = elim (among_either xs ys n within) [
  | inl front ↦ among_front xs (m ∷ ys) n front
  | inr back ↦ among_back xs (m ∷ ys) n (inr back)
]

pub among_but : (xs : List ℕ) (m : ℕ) (ys : List ℕ) (n : ℕ) → IsAmong (xs ++ m ∷ ys) n → (m ≡ n) ⊎ IsAmong (xs ++ ys) n
among_but xs m ys n within = elim (among_either xs (m ∷ ys) n within) [
  | inl front ↦ inr (among_front xs ys n front)
  | inr (inl same) ↦ inl same
  | inr (inr back) ↦ inr (among_back xs ys n back)
]

pub once_without : (xs : List ℕ) (m : ℕ) (ys : List ℕ) → AreOnce (xs ++ m ∷ ys) → AreOnce (xs ++ ys) × (¬ IsAmong (xs ++ ys) m)
once_without [] m ys once = (once.1, once.0)
once_without (x ∷ xs) m ys once =
    let rest = once_without xs m ys once.1 in (
      (λ within. once.0 (among_past xs m ys x within), rest.0),
      λ within. elim within [
        | inl same ↦ once.0 (subst (λ (k : ℕ). IsAmong (xs ++ m ∷ ys) k) (sym same) (among_back xs (m ∷ ys) m (inl refl)))
        | inr later ↦ rest.1 later
      ],
    )

pub once_parts : (xs ys : List ℕ) → AreOnce (xs ++ ys) → AreOnce xs × AreOnce ys × AreDisjoint xs ys
once_parts [] ys once = (tt, once, λ n none within. none)
once_parts (x ∷ xs) ys once =
    let rest = once_parts xs ys once.1 in (
      (λ within. once.0 (among_front xs ys x within), rest.0),
      rest.1,
      λ n within also. elim within [
        | inl same ↦ once.0 (among_back xs ys x (subst (λ (k : ℕ). IsAmong ys k) (sym same) also))
        | inr later ↦ rest.2 n later also
      ],
    )

pub once_together : (xs ys : List ℕ) → AreOnce xs → AreOnce ys → AreDisjoint xs ys → AreOnce (xs ++ ys)
once_together [] ys first second apart = second
once_together (x ∷ xs) ys first second apart = (
  λ within. elim (among_either xs ys x within) [ inl front ↦ first.0 front | inr back ↦ apart x (inl refl) back ],
  once_together xs ys first.1 second (λ n within. apart n (inr within)),
)

pub split_at : (ns : List ℕ) (n : ℕ) → IsAmong ns n → (xs : List ℕ) × (ys : List ℕ) × (ns ≡ xs ++ n ∷ ys)
split_at [] n within = absurd within
split_at (m ∷ ms) n (inl same) = ([], ms, ap (λ (k : ℕ). k ∷ ms) same)
split_at (m ∷ ms) n (inr within) = let rest = split_at ms n within in (m ∷ rest.0, rest.1, ap (λ (ks : List ℕ). m ∷ ks) rest.2)

length_with : (xs : List ℕ) (n : ℕ) (ys : List ℕ) → length (xs ++ n ∷ ys) ≡ suc (length (xs ++ ys))
length_with [] n ys = refl
length_with (x ∷ xs) n ys = ap suc (length_with xs n ys)

-- numbers that stand once, all below a bound, are no more than the bound
pub few_below : (most : ℕ) (ns : List ℕ) → AreOnce ns → ((n : ℕ) → IsAmong ns n → n < most) → length ns ≤ most
few_below zero [] once below = omega arith
few_below zero (x ∷ xs) once below = let least = below x (inl refl) in absurd (omega arith)
few_below (suc m) ns once below = elim (among_or_not ns m) [
  | inl within ↦
      let parts = split_at ns m within in
      let others = once_without parts.0 m parts.1 (subst AreOnce parts.2 once) in
      let still : (n : ℕ) → IsAmong (parts.0 ++ parts.1) n → n < m = λ n among.
      let least = below n (subst (λ (ks : List ℕ). IsAmong ks n) (sym parts.2) (among_past parts.0 m parts.1 n among)) in
      let apart : n ≢ m = λ same. others.1 (subst (λ (k : ℕ). IsAmong (parts.0 ++ parts.1) k) same among) in
      omega arith in
      let rest = few_below m (parts.0 ++ parts.1) others.0 still in
      let whole : length ns ≡ suc (length (parts.0 ++ parts.1)) = ap (λ (ks : List ℕ). length ks) parts.2 ∙ length_with parts.0 m parts.1 in
      omega arith
  | inr without ↦
      let still : (n : ℕ) → IsAmong ns n → n < m = λ n among.
      let least = below n among in
      let apart : n ≢ m = λ same. without (subst (λ (k : ℕ). IsAmong ns k) same among) in
      omega arith in
      let rest = few_below m ns once still in
      omega arith
]

-- Nodes
module _ {A : Type 0} where
  pub numbers_append : (xs ys : List (Node A)) → numbers (xs ++ ys) ≡ numbers xs ++ numbers ys
  numbers_append [] ys = refl
  numbers_append (x ∷ xs) ys = ap (λ (ns : List ℕ). x.number ∷ ns) (numbers_append xs ys)

  -- a node in place of another with its number
  pub same_numbers : (xs : List (Node A)) (x y : Node A) (ys : List (Node A)) → y.number ≡ x.number → numbers (xs ++ y ∷ ys) ≡ numbers (xs ++ x ∷ ys)
  same_numbers [] x y ys same = ap (λ (n : ℕ). n ∷ numbers ys) same
  same_numbers (f ∷ fs) x y ys same = ap (λ (ns : List ℕ). f.number ∷ ns) (same_numbers fs x y ys same)

  once_numbers : (xs ys : List (Node A)) → AreOnce (numbers (xs ++ ys)) → AreOnce (numbers xs ++ numbers ys)
  once_numbers xs ys once = subst AreOnce (numbers_append xs ys) once

  -- no other node stands in the node's cell
  pub others_apart : (xs : List (Node A)) (x : Node A) (ys : List (Node A)) → AreOnce (numbers (xs ++ x ∷ ys)) → (¬ IsAmong (numbers xs) x.number) × (¬ IsAmong (numbers ys) x.number) × AreOnce (numbers (xs ++ ys))
  others_apart xs x ys once =
      let parts = once_without (numbers xs) x.number (numbers ys) (once_numbers xs (x ∷ ys) once) in (
        λ within. parts.1 (among_front (numbers xs) (numbers ys) x.number within),
        λ within. parts.1 (among_back (numbers xs) (numbers ys) x.number within),
        subst AreOnce (sym (numbers_append xs ys)) parts.0,
      )

module _ {A : Type 0} (format : Format A) where
  pub stand_parts : (image : Image) (xs ys : List (Node A)) → Stand format image (xs ++ ys) → Stand format image xs × Stand format image ys
  stand_parts image [] ys stand = (tt, stand)
  stand_parts image (x ∷ xs) ys stand = let rest = stand_parts image xs ys stand.1 in ((stand.0, rest.0), rest.1)

  pub stand_together : (image : Image) (xs ys : List (Node A)) → Stand format image xs → Stand format image ys → Stand format image (xs ++ ys)
  stand_together image [] ys first second = second
  stand_together image (x ∷ xs) ys first second = (first.0, stand_together image xs ys first.1 second)

  -- a free cell is no node
  pub free_apart : IsNeverZero format → (image : Image) (nodes : List (Node A)) (n : ℕ) → image n ≡ Some zero_cell → Stand format image nodes → ¬ IsAmong (numbers nodes) n
  free_apart never image nodes n free stand within =
      let x = node_of format image nodes n stand within in
      let cells : Some x.2.cell ≡ Some zero_cell = sym x.2.here ∙ ap image x.1 ∙ free in
      let same : x.2.cell ≡ zero_cell = ap (λ (o : Option Cell). option_map_or (λ c. c) o zero_cell) cells in
      never x.0.element x.0.links (subst (λ (c : Cell). format c x.0.element x.0.links) same x.2.written)

  module _ (before after : Image) (n : ℕ) (cell : Cell) (writes : Writes before after n cell) where
    -- a write beside the nodes keeps them
    pub stand_beside : (nodes : List (Node A)) → (¬ IsAmong (numbers nodes) n) → Stand format before nodes → Stand format after nodes
    stand_beside nodes beside stand = still_stand format before after nodes (λ m within. writes.elsewhere m (λ same. beside (subst (λ (k : ℕ). IsAmong (numbers nodes) k) same within))) stand

    pub apart_beside : (nodes : List (Node A)) → (¬ IsAmong (numbers nodes) n) → StandApart format before nodes → StandApart format after nodes
    apart_beside nodes beside apart = record { stand = stand_beside nodes beside apart.stand; once = apart.once }

    -- one node rewritten
    pub rewritten : (xs : List (Node A)) (x y : Node A) (ys : List (Node A)) → x.number ≡ n → y.number ≡ n → format cell y.element y.links → StandApart format before (xs ++ x ∷ ys) → StandApart format after (xs ++ y ∷ ys)
    rewritten xs x y ys was is written apart =
        let others = others_apart xs x ys apart.once in
        let stand = stand_parts before xs (x ∷ ys) apart.stand in
        let front = stand_beside xs (subst (λ (k : ℕ). ¬ IsAmong (numbers xs) k) was others.0) stand.0 in
        let back = stand_beside ys (subst (λ (k : ℕ). ¬ IsAmong (numbers ys) k) was others.1) stand.1.1 in
        let held : IsHeld format after y = record {
          some = subst (λ (k : ℕ). 0 < k) (was ∙ sym is) stand.1.0.some;
          cell = cell;
          here = ap after is ∙ writes.here;
          written = written;
        } in
        record {
          stand = stand_together after xs (y ∷ ys) front (held, back);
          once = subst AreOnce (sym (same_numbers xs x y ys (is ∙ sym was))) apart.once;
        }

    -- a node taken: a cell that was free is a node before the others
    pub taken : IsNeverZero format → (x : Node A) (xs : List (Node A)) → x.number ≡ n → 0 < n → before n ≡ Some zero_cell → format cell x.element x.links → StandApart format before xs → StandApart format after (x ∷ xs)
    taken never x xs is some free written apart =
        let fresh = free_apart never before xs n free apart.stand in
        let held : IsHeld format after x = record {
          some = subst (λ (k : ℕ). 0 < k) (sym is) some;
          cell = cell;
          here = ap after is ∙ writes.here;
          written = written;
        } in
        record {
          stand = (held, stand_beside xs fresh apart.stand);
          once = (λ within. fresh (subst (λ (k : ℕ). IsAmong (numbers xs) k) is within), apart.once);
        }

    -- a node given back: whatever is written to its cell, the others stay
    pub given_back : (xs : List (Node A)) (x : Node A) (ys : List (Node A)) → x.number ≡ n → StandApart format before (xs ++ x ∷ ys) → StandApart format after (xs ++ ys)
    given_back xs x ys was apart =
        let others = others_apart xs x ys apart.once in
        let stand = stand_parts before xs (x ∷ ys) apart.stand in
        let front = stand_beside xs (subst (λ (k : ℕ). ¬ IsAmong (numbers xs) k) was others.0) stand.0 in
        let back = stand_beside ys (subst (λ (k : ℕ). ¬ IsAmong (numbers ys) k) was others.1) stand.1.1 in
        record { stand = stand_together after xs ys front back; once = others.2 }

-- Chains
module _ {A : Type 0} where
  pub segment_append : (xs ys : List (Placed A)) (end : ℕ) → segment (xs ++ ys) end ≡ segment xs (start ys end) ++ segment ys end
  segment_append [] ys end = refl
  segment_append (x ∷ []) ys end = refl
  segment_append (x ∷ z ∷ zs) ys end = ap (λ (nodes : List (Node A)). record { number = x.number; element = x.element; links = z.number ∷ [] } ∷ nodes) (segment_append (z ∷ zs) ys end)

  pub length_segment : (xs : List (Placed A)) (end : ℕ) → length (numbers (segment xs end)) ≡ length xs
  length_segment [] end = refl
  length_segment (x ∷ xs) end = ap suc (length_segment xs end)

  pub elements_append : (xs ys : List (Placed A)) → elements (xs ++ ys) ≡ elements xs ++ elements ys
  elements_append [] ys = refl
  elements_append (x ∷ xs) ys = ap (λ (es : List A). x.element ∷ es) (elements_append xs ys)

  -- another element at a place of a chain
  pub same_cells : (xs : List (Placed A)) (x y : Placed A) (ys : List (Placed A)) (end : ℕ) → y.number ≡ x.number → numbers (segment (xs ++ y ∷ ys) end) ≡ numbers (segment (xs ++ x ∷ ys) end)
  same_cells [] x y ys end same = ap (λ (n : ℕ). n ∷ numbers (segment ys end)) same
  same_cells (p ∷ ps) x y ys end same = ap (λ (ns : List ℕ). p.number ∷ ns) (same_cells ps x y ys end same)

  pub same_start : (xs : List (Placed A)) (x y : Placed A) (ys : List (Placed A)) (end : ℕ) → y.number ≡ x.number → start (xs ++ y ∷ ys) end ≡ start (xs ++ x ∷ ys) end
  same_start [] x y ys end same = same
  same_start (p ∷ ps) x y ys end same = refl

module _ {A : Type 0} (format : Format A) where
  -- a chain at no number is empty
  pub empty_chain : (image : Image) (xs : List (Placed A)) → start xs 0 ≡ 0 → Stand format image (segment xs 0) → xs ≡ []
  empty_chain image [] none stand = refl
  empty_chain image (x ∷ xs) none stand = let some = stand.0.some in absurd (omega arith)

  -- an image holds one chain from a number on
  pub one_chain : IsFunctional format → (image : Image) (xs ys : List (Placed A)) → start xs 0 ≡ start ys 0 → Stand format image (segment xs 0) → Stand format image (segment ys 0) → xs ≡ ys
  one_chain one image [] [] same first second = refl
  one_chain one image [] (y ∷ ys) same first second = let some = second.0.some in absurd (omega arith)
  one_chain one image (x ∷ xs) [] same first second = let some = first.0.some in absurd (omega arith)
  one_chain one image (x ∷ xs) (y ∷ ys) same first second =
      let cells : Some second.0.cell ≡ Some first.0.cell = sym second.0.here ∙ ap image (sym same) ∙ first.0.here in
      let cell : second.0.cell ≡ first.0.cell = ap (λ (o : Option Cell). option_map_or (λ c. c) o second.0.cell) cells in
      let both = one first.0.cell x.element y.element (start xs 0 ∷ []) (start ys 0 ∷ []) first.0.written (subst (λ (c : Cell). format c y.element (start ys 0 ∷ [])) cell second.0.written) in
      let next : start xs 0 ≡ start ys 0 = ap (λ (ns : List ℕ). get_or ns 0 0) both.1 in
      let here : x ≡ y = ap₂ (λ (n : ℕ) (e : A). (let p : Placed A = record { number = n; element = e } in p)) same both.0 in
      ap₂ (λ (p : Placed A) (ps : List (Placed A)). p ∷ ps) here (one_chain one image xs ys next first.1 second.1)

  -- the element at a place of a chain rewritten
  module _ (before after : Image) (n : ℕ) (cell : Cell) (writes : Writes before after n cell) where
    pub rewritten_chain : (xs : List (Placed A)) (x y : Placed A) (ys : List (Placed A)) → x.number ≡ n → y.number ≡ n → format cell y.element (start ys 0 ∷ []) → StandApart format before (segment (xs ++ x ∷ ys) 0) → StandApart format after (segment (xs ++ y ∷ ys) 0)
    rewritten_chain xs x y ys was is written apart =
        let x_node : Node A = record { number = x.number; element = x.element; links = start ys 0 ∷ [] } in
        let y_node : Node A = record { number = y.number; element = y.element; links = start ys 0 ∷ [] } in
        let split = subst (λ (nodes : List (Node A)). StandApart format before nodes) (segment_append xs (x ∷ ys) 0) apart in
        let now = rewritten format before after n cell writes (segment xs x.number) x_node y_node (segment ys 0) was is written split in
        let named : StandApart format after (segment xs y.number ++ y_node ∷ segment ys 0) = subst (λ (k : ℕ). StandApart format after (segment xs k ++ y_node ∷ segment ys 0)) (was ∙ sym is) now in
        subst (λ (nodes : List (Node A)). StandApart format after nodes) (sym (segment_append xs (y ∷ ys) 0)) named

    -- an element unlinked: the one before it leads past it, and its cell is a node no more
    pub unlinked : (xs : List (Placed A)) (p x : Placed A) (ys : List (Placed A)) → p.number ≡ n → format cell p.element (start ys 0 ∷ []) → StandApart format before (segment (xs ++ p ∷ x ∷ ys) 0) → StandApart format after (segment (xs ++ p ∷ ys) 0)
    unlinked xs p x ys is written apart =
        let was_node : Node A = record { number = p.number; element = p.element; links = x.number ∷ [] } in
        let p_node : Node A = record { number = p.number; element = p.element; links = start ys 0 ∷ [] } in
        let x_node : Node A = record { number = x.number; element = x.element; links = start ys 0 ∷ [] } in
        let split = subst (λ (nodes : List (Node A)). StandApart format before nodes) (segment_append xs (p ∷ x ∷ ys) 0) apart in
        let now = rewritten format before after n cell writes (segment xs p.number) was_node p_node (x_node ∷ segment ys 0) is is written split in
        let parts = stand_parts format after (segment xs p.number) (p_node ∷ x_node ∷ segment ys 0) now.stand in
        let stand = stand_together format after (segment xs p.number) (p_node ∷ segment ys 0) parts.0 (parts.1.0, parts.1.1.1) in
        let moved : numbers (segment xs p.number ++ p_node ∷ x_node ∷ segment ys 0) ≡ numbers ((segment xs p.number ++ p_node ∷ []) ++ x_node ∷ segment ys 0) = ap (λ (nodes : List (Node A)). numbers nodes) (sym (append_assoc (segment xs p.number) (p_node ∷ []) (x_node ∷ segment ys 0))) in
        let others = others_apart (segment xs p.number ++ p_node ∷ []) x_node (segment ys 0) (subst AreOnce moved now.once) in
        let once : AreOnce (numbers (segment xs p.number ++ p_node ∷ segment ys 0)) = subst AreOnce (ap (λ (nodes : List (Node A)). numbers nodes) (append_assoc (segment xs p.number) (p_node ∷ []) (segment ys 0))) others.2 in
        subst (λ (nodes : List (Node A)). StandApart format after nodes) (sym (segment_append xs (p ∷ ys) 0)) (record { stand = stand; once = once })

-- Trees
module _ {A : Type 0} where
  pub grafted : (steps : List (Step A)) (trees : Forest A) → grown (graft steps trees) ≡ ahead steps (roots trees) ++ (grown trees ++ behind steps)
  grafted [] trees = sym (append_nil (grown trees))
    where
      append_nil : (nodes : List (Node A)) → nodes ++ [] ≡ nodes
      append_nil [] = refl
      append_nil (x ∷ xs) = ap (λ (ns : List (Node A)). x ∷ ns) (append_nil xs)
  grafted (PastGap ∷ steps) trees = grafted steps (Gap trees)
  grafted (PastTree n element below ∷ steps) trees =
      let node : Node A = record { number = n; element = element; links = roots below } in
      let front = ahead steps (n ∷ roots trees) in
      grafted steps (Tree n element below trees)
      ∙ ap (λ (nodes : List (Node A)). front ++ node ∷ nodes) (append_assoc (grown below) (grown trees) (behind steps))
      ∙ sym (append_assoc front (node ∷ grown below) (grown trees ++ behind steps))
  grafted (Below n element others ∷ steps) trees =
      let node : Node A = record { number = n; element = element; links = roots trees } in
      let front = ahead steps (n ∷ roots others) in
      grafted steps (Tree n element trees others)
      ∙ ap (λ (nodes : List (Node A)). front ++ node ∷ nodes) (append_assoc (grown trees) (grown others) (behind steps))
      ∙ sym (append_assoc front (node ∷ []) (grown trees ++ (grown others ++ behind steps)))
