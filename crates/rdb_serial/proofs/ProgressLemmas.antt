-- Marks as the progress of connections says them, as one connection's changes.
use Rattle.std.proofs.Common.{◌≡◌, ◌≢◌, ℕ, Bool, true, false, ◌&&◌, ◌==◌, cond, Option, Some, None, nat_eq, refl, sym, ap, subst, ◌∙◌, arith, option_and_then, option_map}
use Rattle.std.proofs.lemmas.Bool.Decides.{nat_tests}
use Rattle.rdb_base.specs.declared.identity.ConnId.{ConnId}
use Rattle.rdb_base.specs.declared.identity.TxId.{TxId}
use Rattle.rdb_registry.specs.declared.seat.Seat.{Seat}
use Rattle.rdb_registry.specs.declared.seat.Transaction.{Transaction}
use Rattle.rdb_registry.specs.Seats.{Seats, seat_in, if_conn, transaction_in, mark_if, mark_of, marked}
use Rattle.rdb_shown.specs.Changes.{IsMarked, IsUnmarked}
use Rattle.rdb_shown.proofs.StampLemmas.{same_is}
use Rattle.rdb_serial.specs.Progress.{Progress, Course, progress_of, progress_in, tx_of, mark_in, marks_of}

-- whether a transaction is of a connection
abbrev pub is_of : TxId → Progress → Bool
is_of tx p = (p.conn.slot == tx.conn.slot) && (p.conn.serial == tx.conn.serial)

itself : (n : ℕ) → nat_eq n n ≡ true
itself n = grind (arith, nat_tests)

-- the mark rests on who the connection is and on its open transaction alone
pub mark_by : (tx : TxId) (p : Progress) → mark_in tx (Some p) ≡ cond (is_of tx p) (option_and_then (mark_if tx.number) p.transaction) None
mark_by tx p = go (is_of tx p)
  where
    go : (b : Bool) → option_and_then (mark_if tx.number) (option_and_then (λ (q : Progress). q.transaction) (cond b (Some p) None)) ≡ cond b (option_and_then (mark_if tx.number) p.transaction) None
    go true = refl
    go false = refl

both_true : (a b : Bool) → a ≡ true → b ≡ true → (a && b) ≡ true
both_true true true e f = refl
both_true true false e f = (cc)
both_true false b e f = (cc)

-- the mark of a connection's own transaction
pub own_mark : (p : Progress) (t : Transaction) → p.transaction ≡ Some t → mark_in (tx_of p t) (Some p) ≡ t.mark
own_mark p t open_one =
    mark_by (tx_of p t) p
    ∙ ap (λ (b : Bool). cond b (option_and_then (mark_if t.number) p.transaction) None) (both_true (nat_eq p.conn.slot p.conn.slot) (nat_eq p.conn.serial p.conn.serial) (itself p.conn.slot) (itself p.conn.serial))
    ∙ ap (option_and_then (mark_if t.number)) open_one
    ∙ ap (λ (b : Bool). cond b t.mark None) (itself t.number)

-- a connection has the mark of no other transaction
pub no_other_mark : (tx : TxId) (p : Progress) (t : Transaction) → p.transaction ≡ Some t → tx ≢ tx_of p t → mark_in tx (Some p) ≡ None
no_other_mark tx p t open_one differs =
    mark_by tx p ∙ ap (λ (o : Option Transaction). cond (is_of tx p) (option_and_then (mark_if tx.number) o) None) open_one
    ∙ go (nat_eq p.conn.slot tx.conn.slot) refl (nat_eq p.conn.serial tx.conn.serial) refl (nat_eq t.number tx.number) refl
  where
    go : (a : Bool) → nat_eq p.conn.slot tx.conn.slot ≡ a → (b : Bool) → nat_eq p.conn.serial tx.conn.serial ≡ b → (c : Bool) → nat_eq t.number tx.number ≡ c
        → cond (a && b) (cond c t.mark None) None ≡ None
    go false e b f c g = refl
    go true e false f c g = refl
    go true e true f false g = refl
    go true e true f true g = absurd (differs (sym (same_is (tx_of p t) tx (both_true (nat_eq p.conn.slot tx.conn.slot) (nat_eq p.conn.serial tx.conn.serial && nat_eq t.number tx.number) e
        (both_true (nat_eq p.conn.serial tx.conn.serial) (nat_eq t.number tx.number) f g)))))

-- a connection whose open transaction, if there is one, isn't marked has no mark
pub no_mark : (tx : TxId) (p : Progress) → ((t : Transaction) → p.transaction ≡ Some t → t.mark ≡ None) → mark_in tx (Some p) ≡ None
no_mark tx p unmarked = mark_by tx p ∙ go (is_of tx p) p.transaction unmarked
  where
    at : (t : Transaction) (c : Bool) → t.mark ≡ None → cond c t.mark None ≡ None
    at t true e = e
    at t false e = refl

    go : (b : Bool) (o : Option Transaction) → ((t : Transaction) → o ≡ Some t → t.mark ≡ None) → cond b (option_and_then (mark_if tx.number) o) None ≡ None
    go false o each = refl
    go true None each = refl
    go true (Some t) each = at t (nat_eq t.number tx.number) (each t refl)

module _ (before after : Course) (slot : ℕ) (others : (other : ℕ) → other ≢ slot → after other ≡ before other) where
  -- one connection's progress changes, and no mark does
  pub marks_same : ((tx : TxId) → mark_in tx (after slot) ≡ mark_in tx (before slot)) → marks_of after ≡ marks_of before
  marks_same here = λ i tx. each tx i
    where
      each : (tx : TxId) → marks_of after tx ≡ marks_of before tx
      each tx = go (nat_eq tx.conn.slot slot) refl
        where
          go : (b : Bool) → nat_eq tx.conn.slot slot ≡ b → mark_in tx (after tx.conn.slot) ≡ mark_in tx (before tx.conn.slot)
          go true e =
              let same : slot ≡ tx.conn.slot = grind (arith, nat_tests) in
              subst (λ (k : ℕ). mark_in tx (after k) ≡ mark_in tx (before k)) same (here tx)
          go false e =
              let differs : tx.conn.slot ≢ slot = grind (arith, nat_tests) in
              ap (mark_in tx) (others tx.conn.slot differs)

  elsewhere : (tx : TxId) → ((other : TxId) → other ≢ tx → mark_in other (after slot) ≡ mark_in other (before slot)) → (other : TxId) → other ≢ tx → marks_of after other ≡ marks_of before other
  elsewhere tx here other apart = go (nat_eq other.conn.slot slot) refl
    where
      go : (b : Bool) → nat_eq other.conn.slot slot ≡ b → mark_in other (after other.conn.slot) ≡ mark_in other (before other.conn.slot)
      go true e =
          let same : slot ≡ other.conn.slot = grind (arith, nat_tests) in
          subst (λ (k : ℕ). mark_in other (after k) ≡ mark_in other (before k)) same (here other apart)
      go false e =
          let differs : other.conn.slot ≢ slot = grind (arith, nat_tests) in
          ap (mark_in other) (others other.conn.slot differs)

  -- a connection's transaction is marked
  pub marks_more : (p q : Progress) (t : Transaction) (commit : ℕ) → before slot ≡ Some p → after slot ≡ Some q → p.conn.slot ≡ slot → q.conn ≡ p.conn → p.transaction ≡ Some t
      → q.transaction ≡ Some (marked commit t) → IsMarked (marks_of before) (marks_of after) (tx_of p t) commit
  marks_more p q t commit was is place same_conn open_one now_open = record {
    own = ap (λ (k : ℕ). mark_in (tx_of p t) (after k)) place ∙ ap (mark_in (tx_of p t)) is
        ∙ subst (λ (c : ConnId). mark_in (record { conn = c; number = t.number }) (Some q) ≡ Some commit) same_conn (own_mark q (marked commit t) now_open);
    others = elsewhere (tx_of p t) (λ other apart.
        ap (mark_in other) is ∙ no_other_mark other q (marked commit t) now_open (λ e. apart (e ∙ ap (λ (c : ConnId). record { conn = c; number = t.number }) same_conn))
        ∙ sym (ap (mark_in other) was ∙ no_other_mark other p t open_one apart));
  }

  -- the mark of a connection's transaction is taken away
  pub marks_less : (p : Progress) (t : Transaction) → before slot ≡ Some p → p.conn.slot ≡ slot → p.transaction ≡ Some t → ((tx : TxId) → mark_in tx (after slot) ≡ None)
      → IsUnmarked (marks_of before) (marks_of after) (tx_of p t)
  marks_less p t was place open_one none = record {
    own = ap (λ (k : ℕ). mark_in (tx_of p t) (after k)) place ∙ none (tx_of p t);
    others = elsewhere (tx_of p t) (λ other apart. none other ∙ sym (ap (mark_in other) was ∙ no_other_mark other p t open_one apart));
  }

-- the marks are those of the records
pub marks_are : (seats : Seats) → marks_of (progress_in seats) ≡ mark_of seats
marks_are seats = λ i tx. each tx i
  where
    each : (tx : TxId) → marks_of (progress_in seats) tx ≡ mark_of seats tx
    each tx = go (seat_in seats tx.conn.slot)
      where
        at : (seat : Seat) (b : Bool) → option_and_then (mark_if tx.number) (option_and_then (λ (q : Progress). q.transaction) (cond b (Some (progress_of seat)) None))
            ≡ option_and_then (mark_if tx.number) (option_and_then (λ (s : Seat). s.transaction) (cond b (Some seat) None))
        at seat true = refl
        at seat false = refl

        go : (o : Option Seat) → mark_in tx (option_map progress_of o) ≡ option_and_then (mark_if tx.number) (transaction_in (option_and_then (if_conn tx.conn) o))
        go None = refl
        go (Some seat) = at seat (nat_eq seat.conn.slot tx.conn.slot && nat_eq seat.conn.serial tx.conn.serial)

-- the transactions of two connections in different slots differ
pub apart_txs : (p q : Progress) (t u : Transaction) → p.conn.slot ≢ q.conn.slot → tx_of p t ≢ tx_of q u
apart_txs p q t u differs e = differs (ap (λ (x : TxId). x.conn.slot) e)
