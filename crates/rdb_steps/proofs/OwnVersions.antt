-- The version of a transaction in a chain.
use Rattle.std.proofs.Common.{◌≡◌, ◌<◌, ◌&&◌, ◌==◌, ◌∷◌, ℕ, zero, suc, List, [], length, Bool, true, false, cond, Option, Some, None, Contains, option_map, slice_index_or, refl, sym, ap, ◌∙◌, arith, eqb-true, eq-eqb}
use Rattle.std.proofs.lemmas.Bool.{false≢true, and_parts, and_from}
use Rattle.rdb_base.specs.declared.identity.Stamp.{Stamp}
use Rattle.rdb_base.specs.declared.identity.Stamp.TheVariants as stamp
use Rattle.rdb_base.specs.declared.identity.TxId.{TxId}
use Rattle.rdb_sight.specs.Sight.{same_tx, is_own}
use Rattle.rdb_sight.specs.Versions.{Version, own_version}
use Rattle.rdb_store.specs.Stored.{ref_of}

same_tx_is : (a b : TxId) → same_tx a b ≡ true → a ≡ b
same_tx_is a b e =
    let first = and_parts (a.conn.slot == b.conn.slot) ((a.conn.serial == b.conn.serial) && (a.number == b.number)) e in
    let second = and_parts (a.conn.serial == b.conn.serial) (a.number == b.number) first.1 in
    let slot = eqb-true a.conn.slot b.conn.slot first.0 in
    let serial = eqb-true a.conn.serial b.conn.serial second.0 in
    let number = eqb-true a.number b.number second.1 in
    λ i. record { conn = record { slot = slot i; serial = serial i }; number = number i }

same_tx_self : (tx : TxId) → same_tx tx tx ≡ true
same_tx_self tx =
    and_from (tx.conn.slot == tx.conn.slot) ((tx.conn.serial == tx.conn.serial) && (tx.number == tx.number)) (eq-eqb tx.conn.slot tx.conn.slot refl)
    (and_from (tx.conn.serial == tx.conn.serial) (tx.number == tx.number) (eq-eqb tx.conn.serial tx.conn.serial refl) (eq-eqb tx.number tx.number refl))

own_is : (tx : TxId) (s : Stamp) → is_own (Some tx) s ≡ true → s ≡ stamp.By tx
own_is tx (stamp.By by) e = ap (λ (x : TxId). stamp.By x) (same_tx_is by tx e)
own_is tx (stamp.Done commit) e = absurd (false≢true e)

-- none is found where no version of the chain is of the transaction
pub none_found : (tx : TxId) (chain : List Version) → ((v : Version) → Contains chain v → v.stamp ≡ stamp.By tx → ⊥) → own_version tx chain ≡ None
none_found tx [] none = refl
none_found tx (v ∷ vs) none = step (is_own (Some tx) v.stamp) refl (none_found tx vs (λ w has is. none w (suc has.0, omega (arith, has.1), has.2) is))
  where
    step : (b : Bool) → is_own (Some tx) v.stamp ≡ b → own_version tx vs ≡ None → cond b (Some v) (own_version tx vs) ≡ None
    step true e rest = absurd (none v (0, omega arith, refl) (own_is tx v.stamp e))
    step false e rest = rest

rest_none : (b : Bool) (w : Version) (rest : Option Version) → cond b (Some w) rest ≡ None → rest ≡ None
rest_none true w rest e = absurd (let no : Some w ≡ None = e in cc)
rest_none false w rest e = e

found_at : (tx : TxId) (chain : List Version) (k : ℕ) (v : Version) → own_version tx chain ≡ None → k < length chain → slice_index_or chain k v ≡ v → v.stamp ≡ stamp.By tx → ⊥
found_at tx [] k v none within at is = omega (arith, within)
found_at tx (w ∷ ws) zero v none within at is =
    let own : is_own (Some tx) w.stamp ≡ true = ap (λ (x : Version). is_own (Some tx) x.stamp) at ∙ ap (is_own (Some tx)) is ∙ same_tx_self tx in
    let found : Some w ≡ None = sym (ap (λ (b : Bool). cond b (Some w) (own_version tx ws)) own) ∙ none in
    cc
found_at tx (w ∷ ws) (suc k) v none within at is =
    found_at tx ws k v (rest_none (is_own (Some tx) w.stamp) w (own_version tx ws) none) (omega (arith, within)) at is

-- no version of the chain is of the transaction where none is found
pub found_none : (tx : TxId) (chain : List Version) → own_version tx chain ≡ None → (v : Version) → Contains chain v → v.stamp ≡ stamp.By tx → ⊥
found_none tx chain none v has is = found_at tx chain has.0 v none has.1 has.2 is

-- a version without a header there is none
pub no_header : (o : Option Version) → None ≡ option_map ref_of o → o ≡ None
no_header None e = refl
no_header (Some v) e = absurd (let no : None ≡ Some (ref_of v) = e in cc)
