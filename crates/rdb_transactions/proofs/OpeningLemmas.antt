-- A transaction that opens.
use Rattle.std.proofs.Common.{◌≡◌, ℕ, Bool, true, false, cond, [], length, Some, refl, ap, subst, ◌∙◌}
use Rattle.std.proofs.lemmas.Nat.Bits.{bit_at-zero}
use Rattle.std.specs.Int.{bit_at}
use Rattle.rdb_base.specs.declared.identity.ConnId.{ConnId}
use Rattle.rdb_base.specs.declared.identity.Kind.{Kind}
use Rattle.rdb_base.specs.declared.identity.Kind.TheVariants as kind
use Rattle.rdb_base.specs.declared.identity.Manager.{Manager}
use Rattle.rdb_base.specs.declared.identity.Manager.TheVariants as manager
use Rattle.rdb_base.specs.declared.identity.Phase.TheVariants as phase
use Rattle.rdb_cells.specs.Records.{Record}
use Rattle.rdb_model.specs.Journal.{commits}
use Rattle.rdb_registry.specs.declared.seat.Seat.{Seat}
use Rattle.rdb_registry.specs.Registry.{Roll}
use Rattle.rdb_registry.specs.Seats.{seat_of, with_begun, with_latches, all_latches}
use Rattle.rdb_transactions.specs.declared.transactions.Transactions.{Transactions}
use Rattle.rdb_transactions.specs.Hands.{in_phase}
use Rattle.rdb_transactions.specs.Records.{edited, on_hand, latched, exchanged, opened, is_single_writer}
use Rattle.rdb_transactions.specs.Moves.{ExchangesSpare, opens}
use Rattle.rdb_transactions.proofs.EditLemmas.{then_edited}
use Rattle.rdb_transactions.proofs.PhaseLemmas.{spare_empty}

-- the single writer's transaction may write, and its manager is that of a single writer
pub single_is : (m : Manager) (k : Kind) (begun snapshot : ℕ) (seat : Seat) → is_single_writer m (opened k begun snapshot seat) ≡ true → (m ≡ manager.Mursiw) × (k ≡ kind.ReadWrite)
single_is manager.Mursiw kind.ReadWrite begun snapshot seat e = (refl, refl)
single_is manager.Mursiw kind.ReadOnly begun snapshot seat e = absurd cc
single_is manager.Mvcc k begun snapshot seat e = absurd cc

-- a record without a latch holds none
pub no_latch : (latches class : ℕ) → latches ≡ 0 → bit_at latches class ≡ 0
no_latch latches class e = ap (λ n. bit_at n class) e ∙ bit_at-zero class

-- the changes of a record that opens a transaction, by what the journal had
pub opens_three :
    (r r1 r2 r3 : Roll) (slot : ℕ) (m : Manager) (k : Kind) (b s begun snapshot : ℕ) → b ≡ begun → s ≡ snapshot
    → r1 ≡ edited r slot (with_begun k b s) → r2 ≡ edited r1 slot (on_hand (in_phase (phase.Running k))) → r3 ≡ edited r2 slot (latched m r2.classes)
    → r3 ≡ edited r slot (λ x. latched m r.classes (opened k begun snapshot x))
opens_three r r1 r2 r3 slot m k b s begun snapshot eb es e1 e2 e3 =
    let two = then_edited r r1 r2 slot (with_begun k b s) (on_hand (in_phase (phase.Running k))) e1 e2 in
    let same : r2.classes ≡ r.classes = ap (λ (x : Roll). x.classes) two in
    let three : r3 ≡ edited r slot (λ x. latched m r.classes (opened k b s x)) =
    subst (λ (n : ℕ). r3 ≡ edited r slot (λ x. latched m n (opened k b s x))) same (then_edited r r2 r3 slot (opened k b s) (latched m r2.classes) two e3) in
    subst (λ (n : ℕ). r3 ≡ edited r slot (λ x. latched m r.classes (opened k begun n x))) es
    (subst (λ (n : ℕ). r3 ≡ edited r slot (λ x. latched m r.classes (opened k n s x))) eb three)

pub opens_two :
    (r r1 r2 r3 r4 : Roll) (slot : ℕ) (m : Manager) (spare : Record) (k : Kind) (b s begun snapshot : ℕ) → b ≡ begun → s ≡ snapshot
    → r1 ≡ edited r slot (with_begun k b s) → r2 ≡ edited r1 slot (on_hand (in_phase (phase.Running k))) → r3 ≡ edited r2 slot (latched m r2.classes)
    → r4 ≡ edited r3 slot (exchanged m spare)
    → r4 ≡ edited r slot (λ x. exchanged m spare (latched m r.classes (opened k begun snapshot x)))
opens_two r r1 r2 r3 r4 slot m spare k b s begun snapshot eb es e1 e2 e3 e4 =
    then_edited r r3 r4 slot (λ x. latched m r.classes (opened k begun snapshot x)) (exchanged m spare) (opens_three r r1 r2 r3 slot m k b s begun snapshot eb es e1 e2 e3) e4

-- the spare undo record is empty, where it and the connection's were
pub spare_opened :
    (before after : Transactions) (c : ConnId) (k : Kind) (seat : Seat) → seat_of before.registry.seats c ≡ Some seat
    → ExchangesSpare before after c (opens before k) → before.spare_undo.pairs ≡ [] → seat.hand.undo.pairs ≡ [] → after.spare_undo.pairs ≡ []
spare_opened before after c k seat at spare empty undo =
    ap (λ (u : Record). u.pairs) (spare seat at) ∙ spare_empty before.manager before.spare_undo (opens before k seat) empty (latched_undo before.manager ∙ undo)
  where
    latched_undo : (m : Manager) → (latched m before.registry.classes (opened k (length before.journal.entries) (commits before.journal.entries) seat)).hand.undo.pairs ≡ seat.hand.undo.pairs
    latched_undo m = go (is_single_writer m (opened k (length before.journal.entries) (commits before.journal.entries) seat))
      where
        go : (b : Bool) → (cond b (with_latches (all_latches before.registry.classes) (opened k (length before.journal.entries) (commits before.journal.entries) seat)) (opened k (length before.journal.entries) (commits before.journal.entries) seat)).hand.undo.pairs ≡ seat.hand.undo.pairs
        go true = refl
        go false = refl
