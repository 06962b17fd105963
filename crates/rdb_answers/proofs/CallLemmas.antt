-- What is so of a connection's record, and moves one after the other.
use Rattle.std.proofs.Common.{◌≡◌, ◌≢◌, ◌++◌, ◌&&◌, ◌==◌, ℕ, Bool, true, false, not, List, [], Option, Some, None, IsSome, IsSomeAnd, slice_get, refl, sym, ap, subst, ◌∙◌, inl, inr, append_assoc}
use Rattle.std.specs.Bool.{OnTrue, OnFalse}
use Rattle.std.specs.Option.{option_map_or}
use Rattle.std.proofs.Common.{ne_eqb}
use Rattle.std.proofs.lemmas.List.{append-nil}
use Rattle.rdb_base.specs.declared.identity.ConnId.{ConnId}
use Rattle.rdb_base.specs.declared.identity.EventPlace.{EventPlace}
use Rattle.rdb_base.specs.declared.identity.Kind.{Kind}
use Rattle.rdb_base.specs.declared.identity.Kind.TheVariants as kind
use Rattle.rdb_base.specs.declared.identity.Manager.{Manager}
use Rattle.rdb_base.specs.declared.identity.Manager.TheVariants as manager
use Rattle.rdb_base.specs.declared.journal.Cause.{Cause}
use Rattle.rdb_base.specs.declared.operation.Op.{Op}
use Rattle.rdb_base.specs.declared.operation.Reply.{Reply}
use Rattle.rdb_base.specs.declared.identity.Phase.TheVariants as phase
use Rattle.rdb_base.specs.declared.journal.Entry.{Entry}
use Rattle.rdb_mursiw.specs.Admission.{bars, bars_in, is_same, keeps_out}
use Rattle.rdb_registry.specs.declared.hand.Subscription.{Subscription}
use Rattle.rdb_registry.specs.declared.seat.Seat.{Seat}
use Rattle.rdb_registry.specs.declared.seat.Transaction.{Transaction}
use Rattle.rdb_registry.specs.Registry.{Roll, IsRoll}
use Rattle.rdb_registry.specs.Seats.{Seats, seat_of}
use Rattle.rdb_answers.specs.Callers.{IsFree, Runs}
use Rattle.rdb_answers.specs.Watching.{IsWatchAmong}
use Rattle.rdb_transactions.specs.Hands.{watch_of}
use Rattle.rdb_transactions.specs.declared.transactions.Transactions.{Transactions}
use Rattle.rdb_transactions.specs.Phases.{IsUnmarked, IsInPhase}
use Rattle.rdb_transactions.specs.Records.{edited, rolls_back, story_in}
use Rattle.rdb_transactions.specs.Sound.{IsSound, IsSoundBut, FindsNoLatch}
use Rattle.rdb_transactions.specs.Moves.{Moves}
use Rattle.rdb_transactions.proofs.EditLemmas.{of_held, has_from, seat_edited, then_edited}
use Rattle.rdb_transactions.proofs.PhaseLemmas.{open_in_phase, in_its_phase, unmarked_kind}
use Rattle.rdb_transactions.proofs.SoundLemmas.{orderly_of}

-- a weaker property
pub has_map : (seats : Seats) (c : ConnId) (P Q : Seat → Type 0) → ((s : Seat) → P s → Q s) → IsSomeAnd (seat_of seats c) P → IsSomeAnd (seat_of seats c) Q
has_map seats c P Q goes h =
    let there = of_held seats c P h in
    has_from seats c Q there.0 there.1.0 (goes there.0 there.1.1)

-- what is so of a record after its change is so of the changed one before
pub has_back :
    (r r1 : Roll) (c : ConnId) (f : Seat → Seat) (Q : Seat → Type 0) → ((s : Seat) → (f s).conn ≡ s.conn) → r1 ≡ edited r c.slot f → IsSome (seat_of r.seats c)
    → IsSomeAnd (seat_of r1.seats c) Q → IsSomeAnd (seat_of r.seats c) (λ s. Q (f s))
has_back r r1 c f Q keeps e held h = go (seat_of r.seats c) refl held
  where
    go : (o : Option Seat) → seat_of r.seats c ≡ o → IsSome o → IsSomeAnd o (λ s. Q (f s))
    go None at none = absurd cc
    go (Some seat) at some = subst (λ (o : Option Seat). IsSomeAnd o Q) (seat_edited r r1 c f seat keeps e at) h

-- two moves of one record
pub moves_two :
    (a b d : Transactions) (c : ConnId) (f g : Seat → Seat) (first second : List Entry) → Moves a b c f first → Moves b d c g second → Moves a d c (λ s. g (f s)) (first ++ second)
moves_two a b d c f g first second m n = record {
  manager = n.manager ∙ m.manager;
  registry = then_edited a.registry b.registry d.registry c.slot f g m.registry n.registry;
  entries = n.entries ∙ (ap (λ (es : List Entry). es ++ second) m.entries ∙ append_assoc a.journal.entries first second);
}

-- the second appends nothing
pub moves_then :
    (a b d : Transactions) (c : ConnId) (f g : Seat → Seat) (first : List Entry) → Moves a b c f first → Moves b d c g [] → Moves a d c (λ s. g (f s)) first
moves_then a b d c f g first m n = subst (λ (es : List Entry). Moves a d c (λ s. g (f s)) es) (append-nil first) (moves_two a b d c f g first [] m n)

-- a connection that isn't in the way has no open transaction, where a writer asks
none_open : (conn c : ConnId) (k : Kind) (o : Option Transaction) → k ≡ kind.ReadWrite → is_same conn c ≡ false → (not (is_same conn c) && option_map_or (λ t. keeps_out k t.kind) o false) ≡ false → o ≡ None
none_open conn c k None rw other out = refl
none_open conn c k (Some t) rw other out =
    let yes : (not (is_same conn c) && keeps_out k t.kind) ≡ true = ap (λ b. not b && keeps_out k t.kind) other ∙ ap (λ (w : Kind). keeps_out w t.kind) rw in
    absurd cc

other_slot : (a b : ConnId) → a.slot ≢ b.slot → is_same a b ≡ false
other_slot a b ne = ap (λ x. x && (a.serial == b.serial)) (ne_eqb a.slot b.slot ne)

-- A single writer whom nobody is in the way of finds no latch with another.
pub finds_no_latch : (t : Transactions) (c : ConnId) (k : Kind) → IsSound t → IsRoll t.registry → IsFree t c k → FindsNoLatch t c k
finds_no_latch t c k s roll free single writes slot seat ne there =
    let place = (roll.seated slot seat there).place in
    let out : bars_in t.registry.seats c k slot ≡ false = free single slot in
    let own : bars c k seat ≡ false = sym (ap (λ (o : Option Seat). option_map_or (bars c k) o false) there) ∙ out in
    let other : is_same seat.conn c ≡ false = other_slot seat.conn c (λ e. ne (sym place ∙ e)) in
    let none : seat.transaction ≡ None = none_open seat.conn c k seat.transaction writes other own in
    let o = s.records slot seat there in
    elim (open_in_phase seat.hand.phase seat o.phase) [
      | inl idle ↦ (in_its_phase _ seat phase.Idle o idle).rest.latches
      | inr opened ↦ let some : IsSome {T = Transaction} None = subst (λ (x : Option Transaction). IsSome x) none opened in absurd cc
    ]

-- what a roll-back leaves of a record as it begins
pub rolls_plan : (m : Manager) (why : Cause) (seat : Seat) → (rolls_back m why seat).hand.plan.pairs ≡ []
rolls_plan manager.Mursiw why seat = refl
rolls_plan manager.Mvcc why seat = refl

pub rolls_undo : (m : Manager) (why : Cause) (seat : Seat) → (rolls_back m why seat).hand.undo.pairs ≡ seat.hand.undo.pairs
rolls_undo manager.Mursiw why seat = refl
rolls_undo manager.Mvcc why seat = refl

pub rolls_conn : (m : Manager) (why : Cause) (seat : Seat) → (rolls_back m why seat).conn ≡ seat.conn
rolls_conn manager.Mursiw why seat = refl
rolls_conn manager.Mvcc why seat = refl

pub rolls_transaction : (m : Manager) (why : Cause) (seat : Seat) → (rolls_back m why seat).transaction ≡ seat.transaction
rolls_transaction manager.Mursiw why seat = refl
rolls_transaction manager.Mvcc why seat = refl

pub rolls_story : (m : Manager) (why : Cause) (c : ConnId) (t : Transaction) (seat : Seat) → story_in c t (rolls_back m why seat).hand ≡ story_in c t seat.hand
rolls_story manager.Mursiw why c t seat = refl
rolls_story manager.Mvcc why c t seat = refl

-- from a test
pub on_true : {P : Type 0} (b : Bool) → b ≡ true → OnTrue b P → P
on_true {P} b e h = subst (λ (x : Bool). OnTrue x P) e h

pub on_false : {P : Type 0} (b : Bool) → b ≡ false → OnFalse b P → P
on_false {P} b e h = subst (λ (x : Bool). OnFalse x P) e h

-- a running transaction has no mark
pub running_unmarked : (t : Transactions) (c : ConnId) (away : List (Op × Reply)) → IsSoundBut away t → IsSomeAnd (seat_of t.registry.seats c) Runs → IsSomeAnd (seat_of t.registry.seats c) IsUnmarked
running_unmarked t c away s h =
    let there = of_held t.registry.seats c Runs h in
    has_from t.registry.seats c IsUnmarked there.0 there.1.0
    (unmarked there.1.1.0 there.0 (in_its_phase _ there.0 (phase.Running there.1.1.0) (orderly_of away t c there.0 s there.1.0) there.1.1.1))
  where
    unmarked : (k : Kind) (seat : Seat) → IsInPhase (phase.Running k) seat → IsUnmarked seat
    unmarked kind.ReadOnly seat i = unmarked_kind seat kind.ReadOnly i.transaction
    unmarked kind.ReadWrite seat i = unmarked_kind seat kind.ReadWrite i.transaction

-- a place, by its pair
pub place_is : (p : EventPlace) (q : ℕ × ℕ) → (p.commit, p.id) ≡ q → p ≡ record { commit = q.0; id = q.1 }
place_is p q e = ap (λ (x : ℕ × ℕ). record { commit = x.0; id = x.1 }) e

-- an event has one watch
pub watch_same :
    (class event : ℕ) (watches : List Subscription) (number : ℕ) (place : EventPlace) (k : ℕ) (watch : Subscription) → IsWatchAmong class event watches number place
    → watch_of class event watches ≡ Some k → slice_get watches k ≡ Some watch → (number ≡ k) × (place ≡ watch.place)
watch_same class event watches number place k watch w found here =
    let numbers : Some number ≡ Some k = sym w.found ∙ found in
    let same : number ≡ k = cc in
    let two : Some w.watch ≡ Some watch = sym w.at ∙ (ap (slice_get watches) same ∙ here) in
    let one : w.watch ≡ watch = cc in
    (same, sym w.place_is ∙ ap (λ (x : Subscription). x.place) one)
