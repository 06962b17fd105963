-- A chain without the versions of one transaction, and without one version.
use Rattle.std.proofs.Common.{◌==◌, ◌&&◌, subst, ◌≡◌, ◌≢◌, ◌⊎◌, ◌++◌, ◌∷◌, ℕ, suc, List, [], length, Bool, true, false, not, cond, Option, Some, None, Contains, AllPairs, option_map, refl, sym, ap, ◌∙◌, arith, inl, inr, length-append}
use Rattle.std.specs.List.{AllByRecursion}
use Rattle.std.proofs.lemmas.Bool.{false≢true, both_ways, not-true}
use Rattle.std.proofs.lemmas.List.Elements.{All-contains, All-filter, All-weaker, All-contains_itself, filter_passes, recursion_from_All, All-from_recursion, Contains-append_left, Contains-append_right, Contains-append_cases}
use Rattle.std.proofs.lemmas.List.Kept.{AllPairs-cons, AllPairs-filter}
use Rattle.std.proofs.lemmas.Bool.Decides.{nat_tests}
use Rattle.rdb_base.specs.declared.identity.Stamp.{Stamp}
use Rattle.rdb_base.specs.declared.identity.Stamp.TheVariants as stamp
use Rattle.rdb_base.specs.declared.identity.TxId.{TxId}
use Rattle.rdb_cells.proofs.SettledLemmas.{true_or_false}
use Rattle.rdb_sight.specs.Sight.{same_tx, is_own}
use Rattle.rdb_sight.specs.Versions.{Version, IsWithout, own_version}
use Rattle.rdb_store.specs.Chains.{IsLeft, IsWithoutHeader}
use Rattle.rdb_store.specs.Stored.{ref_of}
use Rattle.rdb_steps.specs.Planned.{all_but}
use Rattle.rdb_steps.specs.Stamped.{AreOfTwo}

-- whose a stamp is
abbrev tx_in : ℕ → ℕ → ℕ → TxId
tx_in slot serial number = record { conn = record { slot = slot; serial = serial }; number = number }

pub same_itself : (tx : TxId) → same_tx tx tx ≡ true
same_itself tx =
    let slot : (tx.conn.slot == tx.conn.slot) ≡ true = grind (arith, nat_tests) in
    let serial : (tx.conn.serial == tx.conn.serial) ≡ true = grind (arith, nat_tests) in
    let number : (tx.number == tx.number) ≡ true = grind (arith, nat_tests) in
    ap (λ b. b && ((tx.conn.serial == tx.conn.serial) && (tx.number == tx.number))) slot
    ∙ ap (λ b. b && (tx.number == tx.number)) serial ∙ number

pub same_is : (a b : TxId) → same_tx a b ≡ true → a ≡ b
same_is a b e = go (a.conn.slot == b.conn.slot) (a.conn.serial == b.conn.serial) (a.number == b.number) refl refl refl e
  where
    go : (x y z : Bool) → (a.conn.slot == b.conn.slot) ≡ x → (a.conn.serial == b.conn.serial) ≡ y → (a.number == b.number) ≡ z → (x && (y && z)) ≡ true → a ≡ b
    go true true true e f g h =
        let slot : a.conn.slot ≡ b.conn.slot = grind (arith, nat_tests) in
        let serial : a.conn.serial ≡ b.conn.serial = grind (arith, nat_tests) in
        let number : a.number ≡ b.number = grind (arith, nat_tests) in
        ap (λ n. tx_in n a.conn.serial a.number) slot ∙ ap (λ n. tx_in b.conn.slot n a.number) serial ∙ ap (λ n. tx_in b.conn.slot b.conn.serial n) number
    go true true false e f g h = (cc)
    go true false z e f g h = (cc)
    go false y z e f g h = (cc)

pub own_itself : (tx : TxId) (s : Stamp) → s ≡ stamp.By tx → is_own (Some tx) s ≡ true
own_itself tx s e = ap (λ t. is_own (Some tx) t) e ∙ same_itself tx

pub own_is : (tx : TxId) (s : Stamp) → is_own (Some tx) s ≡ true → s ≡ stamp.By tx
own_is tx (stamp.By by) e = ap stamp.By (same_is by tx e)
own_is tx (stamp.Done n) e = (cc)

-- a version is of one transaction at most
pub not_both : (tx other : TxId) (s : Stamp) → other ≢ tx → is_own (Some tx) s ≡ true → is_own (Some other) s ≡ false
not_both tx other s differs e = elim (true_or_false (is_own (Some other) s)) [
  | inl f ↦
      let by : stamp.By other ≡ stamp.By tx = sym (own_is other s f) ∙ own_is tx s e in
      let same : other ≡ tx = cc in
      absurd (differs same)
  | inr f ↦ f
]

-- a version whose commit is done is of no transaction
pub done_is_none : (tx : TxId) (s : Stamp) (commit : ℕ) → s ≡ stamp.Done commit → is_own (Some tx) s ≡ false
done_is_none tx s commit e = ap (λ t. is_own (Some tx) t) e

-- a relation of each element and each later one, by recursion
abbrev pub Pairs : {A : Type 0} → (A → A → Type 0) → List A → Type 0
Pairs R [] = Unit {0}
Pairs R (x ∷ xs) = AllByRecursion (R x) xs × Pairs R xs

module _ {A : Type 0} where
  pub pairs_from : (R : A → A → Type 0) (xs : List A) → AllPairs R xs → Pairs R xs
  pairs_from R [] all = tt
  pairs_from R (x ∷ xs) all = (
    recursion_from_All (R x) xs (λ k d lt. all 0 (suc k) d (omega arith) (omega arith)),
    pairs_from R xs (λ i j d less lt. all (suc i) (suc j) d (omega arith) (omega arith)),
  )

  pub pairs_to : (R : A → A → Type 0) (xs : List A) → Pairs R xs → AllPairs R xs
  pairs_to R [] pairs = λ i j d less lt. absurd (omega arith)
  pairs_to R (x ∷ xs) pairs = AllPairs-cons R x xs (All-from_recursion (R x) xs pairs.0) (pairs_to R xs pairs.1)

  all_without : (P : A → Type 0) (front : List A) (v : A) (back : List A) → AllByRecursion P (front ++ v ∷ back) → AllByRecursion P (front ++ back)
  all_without P [] v back all = all.1
  all_without P (x ∷ xs) v back all = (all.0, all_without P xs v back all.1)

  pairs_without : (R : A → A → Type 0) (front : List A) (v : A) (back : List A) → Pairs R (front ++ v ∷ back) → Pairs R (front ++ back)
  pairs_without R [] v back pairs = pairs.1
  pairs_without R (x ∷ xs) v back pairs = (all_without (R x) xs v back pairs.0, pairs_without R xs v back pairs.1)

-- a chain without one version
pub once_without : (newer : List Version) (v : Version) (older : List Version) → AllPairs AreOfTwo (newer ++ v ∷ older) → AllPairs AreOfTwo (newer ++ older)
once_without newer v older once = pairs_to AreOfTwo (newer ++ older) (pairs_without AreOfTwo newer v older (pairs_from AreOfTwo (newer ++ v ∷ older) once))

pub within_without : (newer : List Version) (v : Version) (older : List Version) (w : Version) → Contains (newer ++ older) w → Contains (newer ++ v ∷ older) w
within_without newer v older w there = elim (Contains-append_cases newer older w there) [
  | inl front ↦ Contains-append_left newer (v ∷ older) w front
  | inr back ↦ Contains-append_right newer (v ∷ older) w (Contains-append_right (v ∷ []) older w back)
]

pub own_without : (tx : TxId) (newer : List Version) (v : Version) (older : List Version) → is_own (Some tx) v.stamp ≡ false → own_version tx (newer ++ older) ≡ own_version tx (newer ++ v ∷ older)
own_without tx [] v older none = sym (ap (λ b. cond b (Some v) (own_version tx older)) none)
own_without tx (w ∷ newer) v older none = ap (λ o. cond (is_own (Some tx) w.stamp) (Some w) o) (own_without tx newer v older none)

pub longer_with : (newer : List Version) (v : Version) (older : List Version) → newer ++ older ≢ newer ++ v ∷ older
longer_with newer v older same =
    let lengths : length (newer ++ older) ≡ length (newer ++ v ∷ older) = ap length same in
    let short = length-append newer older in
    let long = length-append newer (v ∷ older) in
    let one : length (v ∷ older) ≡ suc (length older) = refl in
    omega (arith, lengths, short, long, one)

-- a chain without the versions of a transaction
pub none_left : (tx : TxId) (chain : List Version) → own_version tx (all_but tx chain) ≡ None
none_left tx [] = refl
none_left tx (v ∷ vs) = go (is_own (Some tx) v.stamp) refl (none_left tx vs)
  where
    go : (b : Bool) → is_own (Some tx) v.stamp ≡ b → own_version tx (all_but tx vs) ≡ None → own_version tx (cond (not b) (v ∷ all_but tx vs) (all_but tx vs)) ≡ None
    go true e rest = rest
    go false e rest = ap (λ b. cond b (Some v) (own_version tx (all_but tx vs))) e ∙ rest

pub other_left : (tx other : TxId) → other ≢ tx → (chain : List Version) → own_version other (all_but tx chain) ≡ own_version other chain
other_left tx other differs [] = refl
other_left tx other differs (v ∷ vs) = go (is_own (Some tx) v.stamp) refl (other_left tx other differs vs)
  where
    go : (b : Bool) → is_own (Some tx) v.stamp ≡ b → own_version other (all_but tx vs) ≡ own_version other vs
        → own_version other (cond (not b) (v ∷ all_but tx vs) (all_but tx vs)) ≡ own_version other (v ∷ vs)
    go true e rest = rest ∙ sym (ap (λ b. cond b (Some v) (own_version other vs)) (not_both tx other v.stamp differs e))
    go false e rest = ap (λ o. cond (is_own (Some other) v.stamp) (Some v) o) rest

pub twice_left : (tx : TxId) (chain : List Version) → all_but tx (all_but tx chain) ≡ all_but tx chain
twice_left tx [] = refl
twice_left tx (v ∷ vs) = go (is_own (Some tx) v.stamp) refl (twice_left tx vs)
  where
    go : (b : Bool) → is_own (Some tx) v.stamp ≡ b → all_but tx (all_but tx vs) ≡ all_but tx vs
        → all_but tx (cond (not b) (v ∷ all_but tx vs) (all_but tx vs)) ≡ cond (not b) (v ∷ all_but tx vs) (all_but tx vs)
    go true e rest = rest
    go false e rest =
        ap (λ b. cond (not b) (v ∷ all_but tx (all_but tx vs)) (all_but tx (all_but tx vs))) e
        ∙ ap (λ (vs : List Version). v ∷ vs) rest

pub within_left : (tx : TxId) (chain : List Version) (v : Version) → Contains (all_but tx chain) v → Contains chain v
within_left tx chain v there = All-contains (Contains chain) (all_but tx chain) v (All-filter (λ w. not (is_own (Some tx) w.stamp)) (Contains chain) chain (All-contains_itself chain)) there

pub once_left : (tx : TxId) (chain : List Version) → AllPairs AreOfTwo chain → AllPairs AreOfTwo (all_but tx chain)
once_left tx chain once = AllPairs-filter AreOfTwo (λ w. not (is_own (Some tx) w.stamp)) chain once

-- a version put first in its place
pub once_put : (tx : TxId) (v : Version) (chain : List Version) → v.stamp ≡ stamp.By tx → AllPairs AreOfTwo chain → AllPairs AreOfTwo (v ∷ all_but tx chain)
once_put tx v chain by once =
    AllPairs-cons AreOfTwo v (all_but tx chain)
    (All-weaker (λ w. not (is_own (Some tx) w.stamp) ≡ true) (AreOfTwo v) (λ w none t of_v of_w.
    let same : stamp.By t ≡ stamp.By tx = sym of_v ∙ by in
    both_ways (is_own (Some tx) w.stamp) (not-true (is_own (Some tx) w.stamp) none) (own_itself tx w.stamp (of_w ∙ same)))
    (all_but tx chain) (filter_passes (λ w. not (is_own (Some tx) w.stamp)) chain))
    (once_left tx chain once)

-- the one version of a transaction in a chain, cut out
pub record OwnCut (tx : TxId) (chain : List Version) : Type 0 where
  pub newer : List Version
  pub version : Version
  pub older : List Version
  pub is : own_version tx chain ≡ Some version
  pub before : chain ≡ newer ++ version ∷ older
  pub after : all_but tx chain ≡ newer ++ older

pub record NoneOwn (tx : TxId) (chain : List Version) : Type 0 where
  pub is : own_version tx chain ≡ None
  pub after : all_but tx chain ≡ chain

none_own : (tx : TxId) (chain : List Version) → AllByRecursion (λ w. is_own (Some tx) w.stamp ≡ false) chain → all_but tx chain ≡ chain
none_own tx [] none = refl
none_own tx (v ∷ vs) none =
    ap (λ b. cond (not b) (v ∷ all_but tx vs) (all_but tx vs)) none.0
    ∙ ap (λ (vs : List Version). v ∷ vs) (none_own tx vs none.1)

none_behind : (tx : TxId) (v : Version) (vs : List Version) → v.stamp ≡ stamp.By tx → AllByRecursion (AreOfTwo v) vs → AllByRecursion (λ w. is_own (Some tx) w.stamp ≡ false) vs
none_behind tx v [] by apart = tt
none_behind tx v (w ∷ vs) by apart = (
  elim (true_or_false (is_own (Some tx) w.stamp)) [
    | inl e ↦ absurd (apart.0 tx by (own_is tx w.stamp e))
    | inr e ↦ e
  ],
  none_behind tx v vs by apart.1,
)

cut_from : (tx : TxId) (chain : List Version) → Pairs AreOfTwo chain → OwnCut tx chain ⊎ NoneOwn tx chain
cut_from tx [] pairs = inr (record { is = refl; after = refl })
cut_from tx (v ∷ vs) pairs = go (is_own (Some tx) v.stamp) refl (cut_from tx vs pairs.1)
  where
    go : (b : Bool) → is_own (Some tx) v.stamp ≡ b → OwnCut tx vs ⊎ NoneOwn tx vs → OwnCut tx (v ∷ vs) ⊎ NoneOwn tx (v ∷ vs)
    go true e rest = inl (record {
      newer = [];
      version = v;
      older = vs;
      is = ap (λ b. cond b (Some v) (own_version tx vs)) e;
      before = refl;
      after =
          ap (λ b. cond (not b) (v ∷ all_but tx vs) (all_but tx vs)) e
          ∙ none_own tx vs (none_behind tx v vs (own_is tx v.stamp e) pairs.0);
    })
    go false e (inl c) = inl (record {
      newer = v ∷ c.newer;
      version = c.version;
      older = c.older;
      is = ap (λ b. cond b (Some v) (own_version tx vs)) e ∙ c.is;
      before = ap (λ (vs : List Version). v ∷ vs) c.before;
      after =
          ap (λ b. cond (not b) (v ∷ all_but tx vs) (all_but tx vs)) e
          ∙ ap (λ (vs : List Version). v ∷ vs) c.after;
    })
    go false e (inr none) = inr (record {
      is = ap (λ b. cond b (Some v) (own_version tx vs)) e ∙ none.is;
      after =
          ap (λ b. cond (not b) (v ∷ all_but tx vs) (all_but tx vs)) e
          ∙ ap (λ (vs : List Version). v ∷ vs) none.after;
    })

pub cut_own : (tx : TxId) (chain : List Version) → AllPairs AreOfTwo chain → OwnCut tx chain ⊎ NoneOwn tx chain
cut_own tx chain once = cut_from tx chain (pairs_from AreOfTwo chain once)

-- what the store leaves of a chain where the own version is replaced, if there is one
pub left_of : (tx : TxId) (chain : List Version) → AllPairs AreOfTwo chain → IsLeft (option_map ref_of (own_version tx chain)) chain (all_but tx chain)
left_of tx chain once = elim (cut_own tx chain once) [
  | inl c ↦ subst (λ (o : Option Version). IsLeft (option_map ref_of o) chain (all_but tx chain)) (sym c.is)
      (record { version = c.version; there = refl; without = record { newer = c.newer; older = c.older; before = c.before; after = c.after } })
  | inr none ↦ subst (λ (o : Option Version). IsLeft (option_map ref_of o) chain (all_but tx chain)) (sym none.is) none.after
]

pub left_without : (tx : TxId) (chain : List Version) (v : Version) → AllPairs AreOfTwo chain → own_version tx chain ≡ Some v → IsWithoutHeader v.header chain (all_but tx chain)
left_without tx chain v once is = subst (λ (o : Option Version). IsLeft (option_map ref_of o) chain (all_but tx chain)) is (left_of tx chain once)
