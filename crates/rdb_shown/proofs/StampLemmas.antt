-- Whose a stamp is, with the marks counted and as it stands.
use Rattle.std.proofs.Common.{◌≡◌, ◌≢◌, ℕ, Bool, true, false, ◌&&◌, Option, Some, None, nat_eq, refl, sym, ap, subst, ◌∙◌, arith}
use Rattle.std.specs.Option.{option_map_or}
use Rattle.std.proofs.lemmas.Bool.Decides.{nat_tests}
use Rattle.rdb_base.specs.declared.identity.TxId.{TxId}
use Rattle.rdb_base.specs.declared.identity.Stamp.{Stamp}
use Rattle.rdb_base.specs.declared.identity.Stamp.TheVariants as stamp
use Rattle.rdb_sight.specs.Sight.{same_tx, is_own}
use Rattle.rdb_sight.specs.Versions.{Marks, counted}

abbrev tx_of : ℕ → ℕ → ℕ → TxId
tx_of slot serial number = record { conn = record { slot = slot; serial = serial }; number = number }

pub same_itself : (tx : TxId) → same_tx tx tx ≡ true
same_itself tx =
    let slot : nat_eq tx.conn.slot tx.conn.slot ≡ true = grind (arith, nat_tests) in
    let serial : nat_eq tx.conn.serial tx.conn.serial ≡ true = grind (arith, nat_tests) in
    let number : nat_eq tx.number tx.number ≡ true = grind (arith, nat_tests) in
    ap (λ b. b && (nat_eq tx.conn.serial tx.conn.serial && nat_eq tx.number tx.number)) slot
    ∙ ap (λ b. b && nat_eq tx.number tx.number) serial ∙ number

pub same_is : (a b : TxId) → same_tx a b ≡ true → a ≡ b
same_is a b e = go (nat_eq a.conn.slot b.conn.slot) (nat_eq a.conn.serial b.conn.serial) (nat_eq a.number b.number) refl refl refl e
  where
    go : (x y z : Bool) → nat_eq a.conn.slot b.conn.slot ≡ x → nat_eq a.conn.serial b.conn.serial ≡ y → nat_eq a.number b.number ≡ z → (x && (y && z)) ≡ true → a ≡ b
    go true true true e f g h =
        let slot : a.conn.slot ≡ b.conn.slot = grind (arith, nat_tests) in
        let serial : a.conn.serial ≡ b.conn.serial = grind (arith, nat_tests) in
        let number : a.number ≡ b.number = grind (arith, nat_tests) in
        ap (λ n. tx_of n a.conn.serial a.number) slot ∙ ap (λ n. tx_of b.conn.slot n a.number) serial ∙ ap (λ n. tx_of b.conn.slot b.conn.serial n) number
    go true true false e f g h = (cc)
    go true false z e f g h = (cc)
    go false y z e f g h = (cc)

pub own_itself : (tx : TxId) (s : Stamp) → s ≡ stamp.By tx → is_own (Some tx) s ≡ true
own_itself tx s e = ap (λ t. is_own (Some tx) t) e ∙ same_itself tx

pub own_is : (tx : TxId) (s : Stamp) → is_own (Some tx) s ≡ true → s ≡ stamp.By tx
own_is tx (stamp.By by) e = ap stamp.By (same_is by tx e)
own_is tx (stamp.Done n) e = (cc)

-- a stamp of a transaction is nobody else's
pub others_own : (reader : Option TxId) (tx : TxId) (s : Stamp) → reader ≢ Some tx → s ≡ stamp.By tx → is_own reader s ≡ false
others_own None tx s differs e = refl
others_own (Some other) tx s differs e = ap (λ t. is_own (Some other) t) e ∙ go (same_tx tx other) refl
  where
    go : (b : Bool) → same_tx tx other ≡ b → b ≡ false
    go false f = refl
    go true f = absurd (differs (ap Some (sym (same_is tx other f))))

-- what counts as a transaction's own stands so, and isn't marked
pub counted_by : (marks : Marks) (s : Stamp) (tx : TxId) → counted marks s ≡ stamp.By tx → (s ≡ stamp.By tx) × (marks tx ≡ None)
counted_by marks (stamp.Done n) tx e = (cc)
counted_by marks (stamp.By by) tx e = go (marks by) refl e
  where
    go : (m : Option ℕ) → marks by ≡ m → option_map_or stamp.Done m (stamp.By by) ≡ stamp.By tx → (stamp.By by ≡ stamp.By tx) × (marks tx ≡ None)
    go None f e = let same : by ≡ tx = (cc) in (e, subst (λ (t : TxId). marks t ≡ None) same f)
    go (Some n) f e = (cc)

pub counted_own : (marks : Marks) (s : Stamp) (tx : TxId) → s ≡ stamp.By tx → marks tx ≡ None → counted marks s ≡ stamp.By tx
counted_own marks s tx e none = ap (counted marks) e ∙ ap (λ m. option_map_or stamp.Done m (stamp.By tx)) none

pub counted_marked : (marks : Marks) (s : Stamp) (tx : TxId) (n : ℕ) → s ≡ stamp.By tx → marks tx ≡ Some n → counted marks s ≡ stamp.Done n
counted_marked marks s tx n e some = ap (counted marks) e ∙ ap (λ m. option_map_or stamp.Done m (stamp.By tx)) some

-- whether a version is the reader's own: the same with the marks counted, where the reader's transaction isn't marked
pub own_counted : (marks : Marks) (tx : TxId) (s : Stamp) → marks tx ≡ None → is_own (Some tx) (counted marks s) ≡ is_own (Some tx) s
own_counted marks tx (stamp.Done n) none = refl
own_counted marks tx (stamp.By by) none = go (marks by) refl (same_tx by tx) refl
  where
    go : (m : Option ℕ) → marks by ≡ m → (b : Bool) → same_tx by tx ≡ b → is_own (Some tx) (option_map_or stamp.Done m (stamp.By by)) ≡ same_tx by tx
    go None e b f = refl
    go (Some n) e false f = sym f
    go (Some n) e true f = let same : by ≡ tx = same_is by tx f in let g : marks by ≡ None = ap marks same ∙ none in let h : Some n ≡ None = sym e ∙ g in (cc)
