-- The children of a node with another one, or two, in the place of one: their roots, their number, what holds of each, and the
-- versions of the node.
use Rattle.std.proofs.Common.{◌≡◌, ◌<◌, ◌+◌, zero, suc, ℕ, List, [], ◌∷◌, ◌++◌, length, take, drop, map, slice_get, Some, refl, sym, ap, ◌∙◌, arith}
use Rattle.rdb_pages.specs.declared.cell.CellRef.{CellRef}
use Rattle.rdb_tree.specs.Changes.{raised_keys, raised_children}
use Rattle.rdb_tree.specs.Trees.{BTree, Each, woven, versions, roots}
use Rattle.rdb_tree.proofs.PartLemmas.{IsParted, parted}
use Rattle.rdb_tree.proofs.WovenLemmas.{map_there, length_map}

module _ {X : Type 0} where
  -- the elements with another at a place, and with two in the place of one
  abbrev pub with_another : ℕ → X → List X → List X
  with_another n x xs = take n xs ++ x ∷ drop (suc n) xs

  abbrev pub with_two : ℕ → X → X → List X → List X
  with_two n x y xs = take n xs ++ x ∷ y ∷ drop (suc n) xs

  module _ (Holds : X → Type 0) where
    pub each_take : (n : ℕ) (xs : List X) → Each Holds xs → Each Holds (take n xs)
    each_take zero xs each = tt
    each_take (suc n) [] each = tt
    each_take (suc n) (x ∷ xs) each = (each.0, each_take n xs each.1)

    pub each_drop : (n : ℕ) (xs : List X) → Each Holds xs → Each Holds (drop n xs)
    each_drop zero xs each = each
    each_drop (suc n) [] each = tt
    each_drop (suc n) (x ∷ xs) each = each_drop n xs each.1

    pub each_another : (n : ℕ) (x : X) (xs : List X) → Each Holds xs → Holds x → Each Holds (with_another n x xs)
    each_another zero x [] each here = (here, tt)
    each_another zero x (y ∷ ys) each here = (here, each.1)
    each_another (suc n) x [] each here = (here, tt)
    each_another (suc n) x (y ∷ ys) each here = (each.0, each_another n x ys each.1 here)

    pub each_two : (n : ℕ) (x y : X) (xs : List X) → Each Holds xs → Holds x → Holds y → Each Holds (with_two n x y xs)
    each_two zero x y [] each first second = (first, (second, tt))
    each_two zero x y (z ∷ zs) each first second = (first, (second, each.1))
    each_two (suc n) x y [] each first second = (first, (second, tt))
    each_two (suc n) x y (z ∷ zs) each first second = (each.0, each_two n x y zs each.1 first second)

  pub length_another : (n : ℕ) (x : X) (xs : List X) → n < length xs → length (with_another n x xs) ≡ length xs
  length_another n x [] below = absurd (omega arith)
  length_another zero x (y ∷ ys) below = refl
  length_another (suc n) x (y ∷ ys) below = ap suc (length_another n x ys (omega arith))

  pub length_two : (n : ℕ) (x y : X) (xs : List X) → n < length xs → length (with_two n x y xs) ≡ suc (length xs)
  length_two n x y [] below = absurd (omega arith)
  length_two zero x y (z ∷ zs) below = refl
  length_two (suc n) x y (z ∷ zs) below = ap suc (length_two n x y zs (omega arith))

module _ {X Y : Type 0} (f : X → Y) where
  pub map_another : (n : ℕ) (x : X) (xs : List X) → map f (with_another n x xs) ≡ with_another n (f x) (map f xs)
  map_another zero x [] = refl
  map_another zero x (y ∷ ys) = refl
  map_another (suc n) x [] = refl
  map_another (suc n) x (y ∷ ys) = ap (λ (zs : List Y). f y ∷ zs) (map_another n x ys)

  pub map_two : (n : ℕ) (x y : X) (xs : List X) → map f (with_two n x y xs) ≡ with_two n (f x) (f y) (map f xs)
  map_two zero x y [] = refl
  map_two zero x y (z ∷ zs) = refl
  map_two (suc n) x y [] = refl
  map_two (suc n) x y (z ∷ zs) = ap (λ (ws : List Y). f z ∷ ws) (map_two n x y zs)

  pub map_take : (n : ℕ) (xs : List X) → map f (take n xs) ≡ take n (map f xs)
  map_take zero xs = refl
  map_take (suc n) [] = refl
  map_take (suc n) (x ∷ xs) = ap (λ (ys : List Y). f x ∷ ys) (map_take n xs)

  pub map_drop : (n : ℕ) (xs : List X) → map f (drop n xs) ≡ drop n (map f xs)
  map_drop zero xs = refl
  map_drop (suc n) [] = refl
  map_drop (suc n) (x ∷ xs) = map_drop n xs

-- one that is the same in the place of what stands there changes nothing
pub same_another : {X : Type 0} (n : ℕ) (x : X) (xs : List X) → slice_get xs n ≡ Some x → with_another n x xs ≡ xs
same_another n x [] at = cc
same_another zero x (y ∷ ys) at = let same : y ≡ x = cc in ap (λ (z : _). z ∷ ys) (sym same)
same_another (suc n) x (y ∷ ys) at = ap (λ (zs : _). y ∷ zs) (same_another n x ys at)

-- two in the place of one, the first being what stands there, is one more behind it
two_raised : (n : ℕ) (x right : CellRef) (xs : List CellRef) → slice_get xs n ≡ Some x → with_two n x right xs ≡ take (suc n) xs ++ right ∷ drop (suc n) xs
two_raised n x right [] at = cc
two_raised zero x right (y ∷ ys) at = let same : y ≡ x = cc in ap (λ (z : CellRef). z ∷ right ∷ ys) (sym same)
two_raised (suc n) x right (y ∷ ys) at = ap (λ (zs : List CellRef). y ∷ zs) (two_raised n x right ys at)

pub two_is_raised : (n : ℕ) (x right : CellRef) (xs : List CellRef) → slice_get xs n ≡ Some x → with_two n x right xs ≡ raised_children n right xs
two_is_raised n x right [] at = cc
two_is_raised n x right (y ∷ ys) at =
    let same : suc n ≡ n + 1 = omega arith in
    two_raised n x right (y ∷ ys) at ∙ ap (λ (m : ℕ). take m (y ∷ ys) ++ right ∷ drop m (y ∷ ys)) same

module _ (h : ℕ) (t : BTree (suc h)) (n : ℕ) (c : BTree h) (at : slice_get t.children n ≡ Some c) (many : length t.children ≡ length t.keys + 1) where
  parts : IsParted t.keys (map (versions h) t.children) n (versions h c)
  parts = parted t.keys (map (versions h) t.children) n (versions h c) (map_there (versions h) t.children n c at) (length_map (versions h) t.children ∙ many)

  -- the versions before and behind those of a child
  pub front : List CellRef
  front = parts.front

  pub back : List CellRef
  back = parts.back

  pub whole_versions : versions (suc h) t ≡ front ++ (versions h c ++ back)
  unfolding front back
  whole_versions = parts.whole

  -- with another child in its place, and with two and a key
  pub another_versions : (d : BTree h) → woven t.keys (map (versions h) (with_another n d t.children)) ≡ front ++ (versions h d ++ back)
  unfolding front back
  another_versions d = ap (woven t.keys) (map_another (versions h) n d t.children) ∙ parts.other (versions h d)

  pub two_versions : (l r : BTree h) (k : CellRef) → woven (raised_keys n k t.keys) (map (versions h) (with_two n l r t.children)) ≡ front ++ (versions h l ++ k ∷ (versions h r ++ back))
  unfolding front back
  two_versions l r k = ap (woven (raised_keys n k t.keys)) (map_two (versions h) n l r t.children) ∙ parts.two (versions h l) (versions h r) k

  -- their roots
  pub another_roots : (d : BTree h) → d.at ≡ c.at → roots (suc h) (with_another n d t.children) ≡ roots (suc h) t.children
  another_roots d same =
      map_another (λ (x : BTree h). x.at) n d t.children
      ∙ ap (λ (r : CellRef). with_another n r (map (λ (x : BTree h). x.at) t.children)) same
      ∙ same_another n c.at (map (λ (x : BTree h). x.at) t.children) (map_there (λ (x : BTree h). x.at) t.children n c at)

  pub two_roots : (l r : BTree h) → l.at ≡ c.at → roots (suc h) (with_two n l r t.children) ≡ raised_children n r.at (roots (suc h) t.children)
  two_roots l r same =
      map_two (λ (x : BTree h). x.at) n l r t.children
      ∙ ap (λ (x : CellRef). with_two n x r.at (map (λ (y : BTree h). y.at) t.children)) same
      ∙ two_is_raised n c.at r.at (map (λ (y : BTree h). y.at) t.children) (map_there (λ (y : BTree h). y.at) t.children n c at)
