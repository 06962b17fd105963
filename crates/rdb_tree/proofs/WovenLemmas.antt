-- Keys woven with what stands between them, and parts of lists that ascend.
use Rattle.std.proofs.Common.{◌≡◌, ◌≤◌, ◌<◌, ◌+◌, zero, suc, ℕ, List, [], ◌∷◌, ◌++◌, length, map, get_or, slice_get, Some, inl, inr, refl, sym, ap, subst, ◌∙◌, arith}
use Rattle.std.proofs.lemmas.List.{append_assoc}
use Rattle.std.proofs.lemmas.List.Elements.{Contains-append_left, Contains-append_right}
use Rattle.std.specs.List.{Contains, flat_map}
use Rattle.rdb_pages.specs.declared.cell.CellRef.{CellRef}
use Rattle.rdb_cells.specs.Keys.{Sayings}
use Rattle.rdb_cells.specs.Links.{IsAmong}
use Rattle.rdb_cells.proofs.LinkLemmas.{among_front, among_back}
use Rattle.rdb_cells.proofs.ListedLemmas.{contains_first, contains_later, contains_either}
use Rattle.rdb_tree.specs.Order.{IsBefore, AreAscending, AreKeyed}
use Rattle.rdb_tree.specs.Trees.{BTree, Each, woven, cells}

-- what holds of each holds of parts, and of the one at a place
module _ {X : Type 0} (Holds : X → Type 0) where
  pub each_both : (xs ys : List X) → Each Holds xs → Each Holds ys → Each Holds (xs ++ ys)
  each_both [] ys first second = second
  each_both (x ∷ xs) ys first second = (first.0, each_both xs ys first.1 second)

  pub each_front : (xs ys : List X) → Each Holds (xs ++ ys) → Each Holds xs
  each_front [] ys each = tt
  each_front (x ∷ xs) ys each = (each.0, each_front xs ys each.1)

  pub each_back : (xs ys : List X) → Each Holds (xs ++ ys) → Each Holds ys
  each_back [] ys each = each
  each_back (x ∷ xs) ys each = each_back xs ys each.1

  pub each_at : (xs : List X) (n : ℕ) (x : X) → slice_get xs n ≡ Some x → Each Holds xs → Holds x
  each_at [] n x at each = cc
  each_at (y ∷ ys) zero x at each = let same : y ≡ x = cc in subst Holds same each.0
  each_at (y ∷ ys) (suc n) x at each = each_at ys n x at each.1

pub there : {X : Type 0} (xs : List X) (n : ℕ) → n < length xs → (x : X) × (slice_get xs n ≡ Some x)
there [] n below = absurd (omega arith)
there (x ∷ xs) zero below = (x, refl)
there (x ∷ xs) (suc n) below = there xs n (omega arith)

pub map_there : {X Y : Type 0} (f : X → Y) (xs : List X) (n : ℕ) (x : X) → slice_get xs n ≡ Some x → slice_get (map f xs) n ≡ Some (f x)
map_there f [] n x at = cc
map_there f (y ∷ ys) zero x at = let same : y ≡ x = cc in ap (λ z. Some (f z)) same
map_there f (y ∷ ys) (suc n) x at = map_there f ys n x at

pub get_there : {X : Type 0} (xs : List X) (n : ℕ) (x d : X) → slice_get xs n ≡ Some x → get_or xs n d ≡ x
get_there [] n x d at = cc
get_there (y ∷ ys) zero x d at = cc
get_there (y ∷ ys) (suc n) x d at = get_there ys n x d at

pub length_map : {X Y : Type 0} (f : X → Y) (xs : List X) → length (map f xs) ≡ length xs
length_map f [] = refl
length_map f (x ∷ xs) = ap suc (length_map f xs)

-- keys with nothing between them
pub bare : (keys : List CellRef) → woven keys [] ≡ keys
bare [] = refl
bare (k ∷ ks) = ap (λ (rest : List CellRef). k ∷ rest) (bare ks)

-- a part that stands between keys
pub part_of : (keys : List CellRef) (parts : List (List CellRef)) (n : ℕ) (part : List CellRef) → slice_get parts n ≡ Some part → length parts ≤ length keys + 1 → (before : List CellRef) × (behind : List CellRef) × (woven keys parts ≡ before ++ (part ++ behind))
part_of keys [] n part at few = cc
part_of [] (p ∷ ps) zero part at few =
    let same : p ≡ part = cc in
    ([], woven [] ps, ap (λ (q : List CellRef). q ++ woven [] ps) same)
part_of [] (p ∷ []) (suc n) part at few = cc
part_of [] (p ∷ q ∷ ps) (suc n) part at few = absurd (omega arith)
part_of (k ∷ ks) (p ∷ ps) zero part at few =
    let same : p ≡ part = cc in
    ([], k ∷ woven ks ps, ap (λ (q : List CellRef). q ++ k ∷ woven ks ps) same)
part_of (k ∷ ks) (p ∷ ps) (suc n) part at few =
    let rest = part_of ks ps n part at (omega arith) in
    (p ++ k ∷ rest.0, rest.1, ap (λ (w : List CellRef). p ++ k ∷ w) rest.2 ∙ sym (append_assoc p (k ∷ rest.0) (part ++ rest.1)))

module _ (said : Sayings) where
  pub ascending_front : (xs ys : List CellRef) → AreAscending said (xs ++ ys) → AreAscending said xs
  ascending_front [] ys ascending = tt
  ascending_front (x ∷ xs) ys ascending = (each_front (IsBefore said x) xs ys ascending.0, ascending_front xs ys ascending.1)

  pub ascending_back : (xs ys : List CellRef) → AreAscending said (xs ++ ys) → AreAscending said ys
  ascending_back [] ys ascending = ascending
  ascending_back (x ∷ xs) ys ascending = ascending_back xs ys ascending.1

  pub keyed_part : (before part behind : List CellRef) → AreKeyed said (before ++ (part ++ behind)) → AreKeyed said part
  keyed_part before part behind keyed = record {
    keyed = λ r within. keyed.keyed r (Contains-append_right before (part ++ behind) r (Contains-append_left part behind r within));
    ascending = ascending_front part behind (ascending_back before (part ++ behind) keyed.ascending);
  }

-- the cells of one of some trees are among theirs
pub own_cells : (h : ℕ) (ts : List (BTree h)) (n : ℕ) (t : BTree h) → slice_get ts n ≡ Some t → (m : ℕ) → IsAmong (cells h t) m → IsAmong (flat_map (cells h) ts) m
own_cells h [] n t at m within = cc
own_cells h (u ∷ us) zero t at m within =
    let same : u ≡ t = cc in
    among_front (cells h u) (flat_map (cells h) us) m (subst (λ (v : BTree h). IsAmong (cells h v) m) (sym same) within)
own_cells h (u ∷ us) (suc n) t at m within = among_back (cells h u) (flat_map (cells h) us) m (own_cells h us n t at m within)

-- a key is among what is woven
pub key_within : (keys : List CellRef) (parts : List (List CellRef)) (r : CellRef) → Contains keys r → Contains (woven keys parts) r
key_within [] parts r within = absurd (omega (arith, within.1))
key_within (k ∷ ks) [] r within = elim (contains_either k ks r within) [
  | inl same ↦ subst (Contains (k ∷ woven ks [])) same (contains_first k (woven ks []))
  | inr later ↦ contains_later k r (woven ks []) (key_within ks [] r later)
]
key_within (k ∷ ks) (p ∷ ps) r within = Contains-append_right p (k ∷ woven ks ps) r (elim (contains_either k ks r within) [
  | inl same ↦ subst (Contains (k ∷ woven ks ps)) same (contains_first k (woven ks ps))
  | inr later ↦ contains_later k r (woven ks ps) (key_within ks ps r later)
])
