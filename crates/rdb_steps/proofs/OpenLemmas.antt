-- Transactions that are open, as one slot's record is another.
use Rattle.std.proofs.Common.{◌≡◌, ◌≢◌, ℕ, Option, Some, None, Contains, option_and_then, sym, ap, subst, ◌∙◌, inl, inr}
use Rattle.std.proofs.Permutation.{which}
use Rattle.rdb_base.specs.declared.identity.ConnId.{ConnId}
use Rattle.rdb_base.specs.declared.identity.Stamp.TheVariants as stamp
use Rattle.rdb_base.specs.declared.identity.TxId.{TxId}
use Rattle.rdb_registry.specs.declared.seat.Seat.{Seat}
use Rattle.rdb_registry.specs.declared.seat.Transaction.{Transaction}
use Rattle.rdb_registry.specs.Seats.{Seats, seat_in, seat_of, if_conn}
use Rattle.rdb_registry.proofs.SlotLemmas.{if_conn_is, own_seat}
use Rattle.rdb_sight.specs.Versions.{Version, Versions, chain_in, own_version}
use Rattle.rdb_steps.specs.Kept.{HasNoVersion, tx_of}
use Rattle.rdb_steps.specs.Stamped.{IsOpen, AreStamped}
use Rattle.rdb_steps.proofs.OwnVersions.{none_found, found_none}

-- the record that a connection has in a slot
pub record Named (c : ConnId) (o : Option Seat) (seat : Seat) : Type 0 where
  pub there : o ≡ Some seat
  pub conn : seat.conn ≡ c

pub named : (c : ConnId) (o : Option Seat) (seat : Seat) → option_and_then (if_conn c) o ≡ Some seat → Named c o seat
named c None seat e = absurd (let no : None ≡ Some seat = e in cc)
named c (Some other) seat e =
    let both = if_conn_is c other seat e in
    record {
      there = ap (λ (s : Seat). Some s) both.1;
      conn = subst (λ (s : Seat). s.conn ≡ c) both.1 both.0;
    }

-- the record has an open transaction of this number
pub record HasNumber (seat : Seat) (number : ℕ) : Type 0 where
  pub transaction : Transaction
  pub open_one : seat.transaction ≡ Some transaction
  pub number_is : transaction.number ≡ number

-- the transaction that is open in a slot
pub record OpenIn (seat : Seat) (tx : TxId) : Type 0 where
  pub transaction : Transaction
  pub open_one : seat.transaction ≡ Some transaction
  pub is : tx ≡ tx_of seat transaction

pub open_in : (seats : Seats) (slot : ℕ) (seat : Seat) (tx : TxId) → seat_in seats slot ≡ Some seat → tx.conn.slot ≡ slot → IsOpen seats tx → OpenIn seat tx
open_in seats slot seat tx there place open_tx =
    let n = named tx.conn (seat_in seats tx.conn.slot) open_tx.seat open_tx.held in
    let both : Some open_tx.seat ≡ Some seat = sym n.there ∙ ap (seat_in seats) place ∙ there in
    let me : open_tx.seat ≡ seat = cc in
    let conn : tx.conn ≡ seat.conn = sym n.conn ∙ ap (λ (s : Seat). s.conn) me in
    let number = sym open_tx.number in
    record {
      transaction = open_tx.transaction;
      open_one = ap (λ (s : Seat). s.transaction) (sym me) ∙ open_tx.open_one;
      is = λ i. record { conn = conn i; number = number i };
    }

module _ (before after : Seats) (slot : ℕ) (others : (i : ℕ) → i ≢ slot → seat_in after i ≡ seat_in before i) where
  -- a transaction of another slot is open still
  open_elsewhere : (tx : TxId) → tx.conn.slot ≢ slot → IsOpen before tx → IsOpen after tx
  open_elsewhere tx other open_tx = record {
    seat = open_tx.seat;
    transaction = open_tx.transaction;
    held = ap (option_and_then (if_conn tx.conn)) (others tx.conn.slot other) ∙ open_tx.held;
    open_one = open_tx.open_one;
    number = open_tx.number;
  }

  -- and so is that of the slot, where its record has one of that number still
  open_here : (seat now : Seat) → seat_in before slot ≡ Some seat → seat_in after slot ≡ Some now → now.conn ≡ seat.conn →
      ((t : Transaction) → seat.transaction ≡ Some t → HasNumber now t.number) → (tx : TxId) → tx.conn.slot ≡ slot → IsOpen before tx → IsOpen after tx
  open_here seat now there there_now conn keeps tx place open_tx =
      let was = open_in before slot seat tx there place open_tx in
      let has = keeps was.transaction was.open_one in
      let named_so : now.conn ≡ tx.conn = conn ∙ ap (λ (x : TxId). x.conn) (sym was.is) in
      record {
        seat = now;
        transaction = has.transaction;
        held =
            subst (λ (c : ConnId). seat_of after c ≡ Some now) named_so
            (own_seat after slot now there_now (ap (λ (c : ConnId). c.slot) named_so ∙ place));
        open_one = has.open_one;
        number = has.number_is ∙ ap (λ (x : TxId). x.number) (sym was.is);
      }

  pub stamped_still : (seat now : Seat) → seat_in before slot ≡ Some seat → seat_in after slot ≡ Some now → now.conn ≡ seat.conn →
      ((t : Transaction) → seat.transaction ≡ Some t → HasNumber now t.number) → (versions : Versions) → AreStamped before versions → AreStamped after versions
  stamped_still seat now there there_now conn keeps versions stamped = record {
    once = stamped.once;
    open_ones = λ class id v tx has is.
        let was = stamped.open_ones class id v tx has is in
        elim (which tx.conn.slot slot) [
          | inl place ↦ open_here seat now there there_now conn keeps tx place was
          | inr other ↦ open_elsewhere tx other was
        ];
  }

  -- no version names the slot's transaction, which may go
  pub stamped_without : (versions : Versions) →
      ((tx : TxId) (class id : ℕ) (v : Version) → tx.conn.slot ≡ slot → IsOpen before tx → Contains (chain_in versions class id) v → v.stamp ≡ stamp.By tx → ⊥) →
      AreStamped before versions → AreStamped after versions
  stamped_without versions none stamped = record {
    once = stamped.once;
    open_ones = λ class id v tx has is.
        let was = stamped.open_ones class id v tx has is in
        elim (which tx.conn.slot slot) [
          | inl place ↦ absurd (none tx class id v place was has is)
          | inr other ↦ open_elsewhere tx other was
        ];
  }

-- of a record no version names its transaction
pub unnamed : (seats : Seats) (slot : ℕ) (seat : Seat) → seat_in seats slot ≡ Some seat → (versions : Versions) → HasNoVersion seat versions →
    (tx : TxId) (class id : ℕ) (v : Version) → tx.conn.slot ≡ slot → IsOpen seats tx → Contains (chain_in versions class id) v → v.stamp ≡ stamp.By tx → ⊥
unnamed seats slot seat there versions none tx class id v place open_tx has is =
    let was = open_in seats slot seat tx there place open_tx in
    found_none (tx_of seat was.transaction) (chain_in versions class id) (none was.transaction was.open_one class id) v has
    (is ∙ ap (λ (x : TxId). stamp.By x) was.is)

-- no version names a transaction of a connection that has none open
pub none_yet : (seats : Seats) (slot : ℕ) (seat : Seat) → seat_in seats slot ≡ Some seat → seat.transaction ≡ None → (versions : Versions) → AreStamped seats versions →
    (tx : TxId) → tx.conn.slot ≡ slot → (class id : ℕ) → own_version tx (chain_in versions class id) ≡ None
none_yet seats slot seat there closed versions stamped tx place class id =
    none_found tx (chain_in versions class id) (λ v has is.
    let was = open_in seats slot seat tx there place (stamped.open_ones class id v tx has is) in
    let no : None ≡ Some was.transaction = sym closed ∙ was.open_one in
    cc)
