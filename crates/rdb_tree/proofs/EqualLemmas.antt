-- The versions with a key, among keys that are woven with what stands between them.
use Rattle.std.proofs.Common.{◌≡◌, ◌≤◌, ◌<◌, ◌+◌, zero, suc, ℕ, List, [], ◌∷◌, ◌++◌, length, drop, slice_get, get_or, Option, Some, None, Bool, true, false, cond, refl, sym, ap, ap₂, subst, ◌∙◌, arith}
use Rattle.std.proofs.lemmas.Bool.{false≢true}
use Rattle.std.proofs.lemmas.List.{append_assoc, append-nil}
use Rattle.std.proofs.lemmas.List.Elements.{filter-append}
use Rattle.std.specs.List.{filter, Contains}
use Rattle.std.specs.Ordering.{is_lt, is_le, is_eq, is_some_and}
use Rattle.std.specs.declared.cmp.Ordering.{Ordering}
use Rattle.std.specs.declared.cmp.Ordering.TheVariants.{Less, Equal, Greater}
use Rattle.rdb_base.specs.declared.value.Value.{Value}
use Rattle.rdb_pages.specs.declared.cell.CellRef.{CellRef}
use Rattle.rdb_cells.specs.Keys.{Sayings}
use Rattle.rdb_tree.specs.Lookups.{has_key}
use Rattle.rdb_tree.specs.Order.{AreKeyed, AreAscending, goes, order_against}
use Rattle.rdb_tree.specs.Trees.{BTree, Each, woven, versions}
use Rattle.rdb_tree.proofs.GatherLemmas.{parts_of, woven_is, drop_there, drop_end, get_is}
use Rattle.rdb_tree.proofs.OrderLemmas.{less_cuts, up_to_cuts}
use Rattle.rdb_tree.proofs.SeekLemmas.{keep_none, keep_one, all_before, cut_back}
use Rattle.rdb_tree.proofs.WovenLemmas.{part_of, keyed_part, ascending_back, key_within}

each_so : (P Q : CellRef → Type 0) → ((r : CellRef) → P r → Q r) → (rs : List CellRef) → Each P rs → Each Q rs
each_so P Q so [] each = tt
each_so P Q so (r ∷ rs) each = (so r each.0, each_so P Q so rs each.1)

not_if_less : (o : Option Ordering) → is_some_and is_lt o ≡ true → is_some_and is_eq o ≡ false
not_if_less None less = refl
not_if_less (Some Less) less = refl
not_if_less (Some Equal) less = absurd (false≢true less)
not_if_less (Some Greater) less = refl

not_if_past : (o : Option Ordering) → is_some_and is_le o ≡ false → is_some_and is_eq o ≡ false
not_if_past None past = refl
not_if_past (Some Less) past = absurd (false≢true (sym past))
not_if_past (Some Equal) past = absurd (false≢true (sym past))
not_if_past (Some Greater) past = refl

drop_none : (n : ℕ) → [] ≡ drop {A = List CellRef} n []
drop_none zero = refl
drop_none (suc n) = refl

-- what is woven from a place on stands at its end
pub rest_woven : (keys : List CellRef) (parts : List (List CellRef)) (n : ℕ) → n ≤ length keys → (front : List CellRef) × (woven keys parts ≡ front ++ woven (drop n keys) (drop n parts))
rest_woven keys parts zero within = ([], refl)
rest_woven [] parts (suc n) within = absurd (omega arith)
rest_woven (k ∷ ks) [] (suc n) within =
    let rest = rest_woven ks [] n (omega arith) in
    (k ∷ rest.0, ap (λ (rs : List CellRef). k ∷ rs) (rest.1 ∙ ap (λ (ps : List (List CellRef)). rest.0 ++ woven (drop n ks) ps) (sym (drop_none n))))
rest_woven (k ∷ ks) (p ∷ ps) (suc n) within =
    let rest = rest_woven ks ps n (omega arith) in
    (p ++ k ∷ rest.0, ap (λ (rs : List CellRef). p ++ k ∷ rs) rest.1 ∙ sym (append_assoc p (k ∷ rest.0) (woven (drop n ks) (drop n ps))))

module _ (said : Sayings) (key : List Value) (keys : List CellRef) (parts : List (List CellRef)) (place : ℕ) (d : CellRef) (p refs all : List CellRef)
    (below : place < length keys) (part : slice_get parts place ≡ Some p) (keyed : AreKeyed said (woven keys parts))
    (left : refs ++ filter (has_key said key) (woven (drop place keys) (drop place parts)) ≡ all) where
  abbrev rest : List CellRef
  rest = woven (drop (suc place) keys) (drop (suc place) parts)

  split : woven (drop place keys) (drop place parts) ≡ p ++ get_or keys place d ∷ woven (drop (suc place) keys) (drop (suc place) parts)
  split = ap₂ woven (drop_there keys place (get_or keys place d) (get_is keys place d below)) (drop_there parts place p part)

  ascends : AreAscending said (p ++ get_or keys place d ∷ rest)
  ascends =
      let front = rest_woven keys parts place (omega arith) in
      ascending_back said front.0 (p ++ get_or keys place d ∷ rest) (subst (AreAscending said) (front.1 ∙ ap (λ (rs : List CellRef). front.0 ++ rs) split) keyed.ascending)

  left_split : refs ++ filter (has_key said key) (p ++ get_or keys place d ∷ rest) ≡ all
  left_split = ap (λ (rs : List CellRef). refs ++ filter (has_key said key) rs) (sym split) ∙ left

  next : (rs : List CellRef) → rs ++ filter (has_key said key) rest ≡ all → rs ++ filter (has_key said key) (woven (drop (place + 1) keys) (drop (place + 1) parts)) ≡ all
  next rs = let same : suc place ≡ place + 1 = omega arith in subst (λ (n : ℕ). rs ++ filter (has_key said key) (woven (drop n keys) (drop n parts)) ≡ all) same

  -- a key that is too low
  pub step_less : goes is_lt said key None (get_or keys place d) ≡ true → refs ++ filter (has_key said key) (woven (drop (place + 1) keys) (drop (place + 1) parts)) ≡ all
  step_less less =
      let before = all_before (goes is_lt said key None) p (get_or keys place d) rest (less_cuts said key (p ++ get_or keys place d ∷ rest) ascends) less in
      let none = keep_none (has_key said key) p (each_so (λ r. goes is_lt said key None r ≡ true) (λ r. has_key said key r ≡ false) (λ r lower. not_if_less (order_against said key None r) lower) p before) in
      next refs
      (ap (λ (rs : List CellRef). refs ++ rs)
      (sym (filter-append (has_key said key) p (get_or keys place d ∷ rest)
      ∙ ap₂ (λ (xs ys : List CellRef). xs ++ ys) none (keep_other_ (not_if_less (order_against said key None (get_or keys place d)) less))))
      ∙ left_split)
    where
      keep_other_ : has_key said key (get_or keys place d) ≡ false → filter (has_key said key) (get_or keys place d ∷ rest) ≡ filter (has_key said key) rest
      keep_other_ other = ap (λ (b : Bool). cond b (get_or keys place d ∷ filter (has_key said key) rest) (filter (has_key said key) rest)) other

  -- one with the key
  pub step_equal : (more most : List CellRef) → has_key said key (get_or keys place d) ≡ true → more ≡ refs ++ filter (has_key said key) p → most ≡ more ++ get_or keys place d ∷ [] → most ++ filter (has_key said key) (woven (drop (place + 1) keys) (drop (place + 1) parts)) ≡ all
  step_equal more most equal one two =
      let F = filter (has_key said key) in
      next most
      (ap (λ (xs : List CellRef). xs ++ F rest) (two ∙ ap (λ (xs : List CellRef). xs ++ get_or keys place d ∷ []) one)
      ∙ append_assoc (refs ++ F p) (get_or keys place d ∷ []) (F rest)
      ∙ append_assoc refs (F p) (get_or keys place d ∷ F rest)
      ∙ ap (λ (rs : List CellRef). refs ++ rs)
      (ap (λ (rs : List CellRef). F p ++ rs) (sym (keep_one (has_key said key) (get_or keys place d) rest equal)) ∙ sym (filter-append (has_key said key) p (get_or keys place d ∷ rest)))
      ∙ left_split)

  -- one that is past the key ends the search
  pub end_past : (more : List CellRef) → goes is_le said key None (get_or keys place d) ≡ false → more ≡ refs ++ filter (has_key said key) p → more ≡ all
  end_past more past one =
      let F = filter (has_key said key) in
      let far = (cut_back (goes is_le said key None) p (get_or keys place d ∷ rest) (up_to_cuts said key (p ++ get_or keys place d ∷ rest) ascends)).0 past in
      let none = keep_none (has_key said key) (get_or keys place d ∷ rest)
      (each_so (λ r. goes is_le said key None r ≡ false) (λ r. has_key said key r ≡ false) (λ r higher. not_if_past (order_against said key None r) higher) (get_or keys place d ∷ rest) (past, far)) in
      one
      ∙ ap (λ (rs : List CellRef). refs ++ rs)
      (sym (append-nil (F p)) ∙ ap (λ (rs : List CellRef). F p ++ rs) (sym none) ∙ sym (filter-append (has_key said key) p (get_or keys place d ∷ rest)))
      ∙ left_split

-- the last part
pub end_equal : (said : Sayings) (key : List Value) (keys : List CellRef) (parts : List (List CellRef)) (place : ℕ) (p refs all more : List CellRef) → place ≡ length keys → length parts ≡ length keys + 1 → slice_get parts place ≡ Some p →
    refs ++ filter (has_key said key) (woven (drop place keys) (drop place parts)) ≡ all → more ≡ refs ++ filter (has_key said key) p → more ≡ all
end_equal said key keys parts place p refs all more end many part left one =
    one
    ∙ ap (λ (xs : List CellRef). refs ++ filter (has_key said key) xs) (sym (append-nil p))
    ∙ ap₂ (λ (ks : List CellRef) (ps : List (List CellRef)). refs ++ filter (has_key said key) (woven ks ps)) (sym (drop_end keys place (omega arith)))
    (sym (drop_there parts place p part ∙ ap (λ (ps : List (List CellRef)). p ∷ ps) (drop_end parts (suc place) (omega arith))))
    ∙ left

-- a row without parts
pub row_step : (said : Sayings) (key : List Value) (keys : List CellRef) (place : ℕ) (d : CellRef) (refs all more : List CellRef) → place < length keys →
    refs ++ filter (has_key said key) (drop place keys) ≡ all → more ≡ refs ++ cond (has_key said key (get_or keys place d)) (get_or keys place d ∷ []) [] →
    more ++ filter (has_key said key) (drop (place + 1) keys) ≡ all
row_step said key keys place d refs all more below left one =
    let same : suc place ≡ place + 1 = omega arith in
    subst (λ (n : ℕ). more ++ filter (has_key said key) (drop n keys) ≡ all) same
    (ap (λ (rs : List CellRef). rs ++ filter (has_key said key) (drop (suc place) keys)) one
    ∙ append_assoc refs (cond (has_key said key (get_or keys place d)) (get_or keys place d ∷ []) []) (filter (has_key said key) (drop (suc place) keys))
    ∙ ap (λ (rs : List CellRef). refs ++ rs) (by_test (has_key said key (get_or keys place d)) refl)
    ∙ left)
  where
    by_test : (b : Bool) → has_key said key (get_or keys place d) ≡ b → cond (has_key said key (get_or keys place d)) (get_or keys place d ∷ []) [] ++ filter (has_key said key) (drop (suc place) keys) ≡ filter (has_key said key) (drop place keys)
    by_test b is =
        ap (λ (c : Bool). cond c (get_or keys place d ∷ []) [] ++ filter (has_key said key) (drop (suc place) keys)) is
        ∙ by_value b
        ∙ ap (λ (c : Bool). cond c (get_or keys place d ∷ filter (has_key said key) (drop (suc place) keys)) (filter (has_key said key) (drop (suc place) keys))) (sym is)
        ∙ ap (filter (has_key said key)) (sym (drop_there keys place (get_or keys place d) (get_is keys place d below)))
      where
        by_value : (b : Bool) → cond b (get_or keys place d ∷ []) [] ++ filter (has_key said key) (drop (suc place) keys) ≡ cond b (get_or keys place d ∷ filter (has_key said key) (drop (suc place) keys)) (filter (has_key said key) (drop (suc place) keys))
        by_value true = refl
        by_value false = refl

-- the keys of a child
pub child_keyed : (said : Sayings) (h : ℕ) (t : BTree h) → AreKeyed said (versions h t) → (part : List CellRef) (place : ℕ) → slice_get (parts_of h t) place ≡ Some part → length (parts_of h t) ≤ length t.keys + 1 → AreKeyed said part
child_keyed said h t keyed part place at few =
    let found = part_of t.keys (parts_of h t) place part at few in
    keyed_part said found.0 part found.1 (subst (AreKeyed said) (woven_is h t ∙ found.2) keyed)

pub own_keyed : (said : Sayings) (h : ℕ) (t : BTree h) → AreKeyed said (versions h t) → (r : CellRef) → Contains t.keys r → Contains (versions h t) r
own_keyed said h t keyed r within = subst (λ (rs : List CellRef). Contains rs r) (sym (woven_is h t)) (key_within t.keys (parts_of h t) r within)
