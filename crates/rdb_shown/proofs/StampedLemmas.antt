-- What is shown rests on what each version counts as and on its row alone.
use Rattle.std.proofs.Common.{◌≡◌, ℕ, Bool, true, false, cond, List, [], ◌∷◌, ◌++◌, map, Option, Some, None, is_some, refl, sym, ap, ◌∙◌}
use Rattle.std.specs.Prelude.{option_and_then}
use Rattle.std.specs.List.{find, AllPairs, AllByRecursion}
use Rattle.std.specs.Option.{option_map, option_or}
use Rattle.rdb_base.specs.declared.identity.TxId.{TxId}
use Rattle.rdb_base.specs.declared.identity.Stamp.{Stamp}
use Rattle.rdb_base.specs.declared.identity.Stamp.TheVariants as stamp
use Rattle.rdb_sight.specs.Sight.{is_own, commit_within, exceeds, greatest}
use Rattle.rdb_sight.specs.Versions.{Version, Marks, counted, row_shown, own_version}
use Rattle.rdb_model.specs.Database.{Row}
use Rattle.rdb_shown.specs.Kept.{IsUnseenBy}
use Rattle.rdb_shown.proofs.Pairs.{pairs_from, pairs_to, pairs_put}

module _ {A B : Type 0} where
  find_mapped : (p : B → Bool) (h : A → B) (xs : List A) → find p (map h xs) ≡ option_map h (find (λ x. p (h x)) xs)
  find_mapped p h [] = refl
  find_mapped p h (x ∷ xs) = go (p (h x)) (find_mapped p h xs)
    where
      go : (b : Bool) → find p (map h xs) ≡ option_map h (find (λ y. p (h y)) xs) → cond b (Some (h x)) (find p (map h xs)) ≡ option_map h (cond b (Some x) (find (λ y. p (h y)) xs))
      go true rest = refl
      go false rest = rest

  greatest_mapped : (f : B → Option ℕ) (h : A → B) (xs : List A) → greatest f (map h xs) ≡ option_map h (greatest (λ x. f (h x)) xs)
  greatest_mapped f h [] = refl
  greatest_mapped f h (x ∷ xs) =
      ap (λ r. cond (exceeds (option_and_then f r) (f (h x))) r (cond (is_some (f (h x))) (Some (h x)) None)) (greatest_mapped f h xs)
      ∙ number (greatest (λ y. f (h y)) xs)
    where
      moved : (b c : Bool) (r : Option A) → cond b (option_map h r) (cond c (Some (h x)) None) ≡ option_map h (cond b r (cond c (Some x) None))
      moved true c r = refl
      moved false true r = refl
      moved false false r = refl

      number : (r : Option A) → cond (exceeds (option_and_then f (option_map h r)) (f (h x))) (option_map h r) (cond (is_some (f (h x))) (Some (h x)) None)
          ≡ option_map h (cond (exceeds (option_and_then (λ y. f (h y)) r) (f (h x))) r (cond (is_some (f (h x))) (Some x) None))
      number None = moved (exceeds None (f (h x))) (is_some (f (h x))) None
      number (Some z) = moved (exceeds (f (h z)) (f (h x))) (is_some (f (h x))) (Some z)

-- what a version counts as, and its row
pub record Sight : Type 0 where
  pub counts : Stamp
  pub row : Option Row

abbrev pub sight : Marks → Version → Sight
sight marks v = record { counts = counted marks v.stamp; row = v.row }

-- what these show
abbrev pub shown_by : ℕ → Option TxId → List Sight → Option Row
shown_by snapshot reader sights =
    option_and_then (λ (s : Sight). s.row) (option_or (find (λ (s : Sight). is_own reader s.counts) sights) (greatest (λ (s : Sight). commit_within snapshot s.counts) sights))

pub sights_shown : (marks : Marks) (snapshot : ℕ) (reader : Option TxId) (chain : List Version) → row_shown marks snapshot reader chain ≡ shown_by snapshot reader (map (sight marks) chain)
sights_shown marks snapshot reader chain =
    go (find (λ v. is_own reader (counted marks v.stamp)) chain) (greatest (λ v. commit_within snapshot (counted marks v.stamp)) chain)
    ∙ ap (λ m. option_and_then (λ (s : Sight). s.row) (option_or m (option_map (sight marks) (greatest (λ v. commit_within snapshot (counted marks v.stamp)) chain)))) (sym (find_mapped (λ (s : Sight). is_own reader s.counts) (sight marks) chain))
    ∙ ap (λ m. option_and_then (λ (s : Sight). s.row) (option_or (find (λ (s : Sight). is_own reader s.counts) (map (sight marks) chain)) m)) (sym (greatest_mapped (λ (s : Sight). commit_within snapshot s.counts) (sight marks) chain))
  where
    go : (m g : Option Version) → option_and_then (λ (v : Version). v.row) (option_or m g) ≡ option_and_then (λ (s : Sight). s.row) (option_or (option_map (sight marks) m) (option_map (sight marks) g))
    go (Some v) g = refl
    go None (Some v) = refl
    go None None = refl

-- the same sights show the same
pub same_sights : (marks now : Marks) (snapshot : ℕ) (reader : Option TxId) (chain others : List Version) → map (sight now) others ≡ map (sight marks) chain → row_shown now snapshot reader others ≡ row_shown marks snapshot reader chain
same_sights marks now snapshot reader chain others same =
    sights_shown now snapshot reader others ∙ ap (shown_by snapshot reader) same ∙ sym (sights_shown marks snapshot reader chain)

sight_is : (marks now : Marks) (v w : Version) → counted now w.stamp ≡ counted marks v.stamp → w.row ≡ v.row → sight now w ≡ sight marks v
sight_is marks now v w same rows =
    ap (λ c. let s : Sight = record { counts = c; row = w.row } in s) same ∙ ap (λ r. let s : Sight = record { counts = counted marks v.stamp; row = r } in s) rows

-- one version restamped
pub restamped_sights : (marks : Marks) (newer : List Version) (v w : Version) (older : List Version) → counted marks w.stamp ≡ counted marks v.stamp → w.row ≡ v.row
    → map (sight marks) (newer ++ w ∷ older) ≡ map (sight marks) (newer ++ v ∷ older)
restamped_sights marks [] v w older same rows = ap (λ s. s ∷ map (sight marks) older) (sight_is marks marks v w same rows)
restamped_sights marks (x ∷ xs) v w older same rows = ap (λ ss. sight marks x ∷ ss) (restamped_sights marks xs v w older same rows)

-- other marks, which count each version as before
pub recounted_sights : (marks now : Marks) (chain : List Version) → AllByRecursion (λ v. counted now v.stamp ≡ counted marks v.stamp) chain → map (sight now) chain ≡ map (sight marks) chain
recounted_sights marks now [] all = refl
recounted_sights marks now (v ∷ vs) all = ap (λ s. s ∷ map (sight now) vs) (sight_is marks now v v all.0 refl) ∙ ap (λ ss. sight marks v ∷ ss) (recounted_sights marks now vs all.1)

-- one version restamped is as much a transaction's own as before
pub restamped_own : (tx : TxId) (newer : List Version) (v w : Version) (older : List Version) → is_own (Some tx) v.stamp ≡ false → is_own (Some tx) w.stamp ≡ false
    → own_version tx (newer ++ w ∷ older) ≡ own_version tx (newer ++ v ∷ older)
restamped_own tx [] v w older e f =
    ap (λ b. cond b (Some w) (find (λ (x : Version). is_own (Some tx) x.stamp) older)) f ∙ sym (ap (λ b. cond b (Some v) (find (λ (x : Version). is_own (Some tx) x.stamp) older)) e)
restamped_own tx (x ∷ xs) v w older e f = ap (λ r. cond (is_own (Some tx) x.stamp) (Some x) r) (restamped_own tx xs v w older e f)

pub restamped_unseen : (marks : Marks) (tx : TxId) (snapshot : ℕ) (newer : List Version) (v w : Version) (older : List Version) → counted marks w.stamp ≡ counted marks v.stamp → (w.stamp ≡ stamp.By tx → ⊥)
    → AllPairs (IsUnseenBy tx snapshot marks) (newer ++ v ∷ older) → AllPairs (IsUnseenBy tx snapshot marks) (newer ++ w ∷ older)
restamped_unseen marks tx snapshot newer v w older same other all =
    pairs_to (IsUnseenBy tx snapshot marks) (newer ++ w ∷ older) (pairs_put (IsUnseenBy tx snapshot marks) newer v w older (λ x h n e f. absurd (other f)) (λ x h n e f. h n (sym same ∙ e) f)
    (pairs_from (IsUnseenBy tx snapshot marks) (newer ++ v ∷ older) all))
