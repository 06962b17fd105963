-- A transaction ends: its story is moved out of its record, an entry is appended, and the record is closed.
use Rattle.std.proofs.Common.{◌≡◌, ◌+◌, ◌≤◌, ◌++◌, ◌∷◌, ℕ, true, List, [], length, None, Some, refl, sym, ap, subst, ◌∙◌, arith}
use Rattle.std.proofs.lemmas.List.{append-nil, length_push}
use Rattle.rdb_base.specs.declared.identity.ConnId.{ConnId}
use Rattle.rdb_base.specs.declared.identity.Manager.{Manager}
use Rattle.rdb_base.specs.declared.identity.Manager.TheVariants as manager
use Rattle.rdb_base.specs.declared.journal.Entry.{Entry}
use Rattle.rdb_base.specs.declared.operation.Op.{Op}
use Rattle.rdb_base.specs.declared.operation.Reply.{Reply}
use Rattle.rdb_cells.specs.Records.{Record}
use Rattle.rdb_history.specs.Kept.{Kept}
use Rattle.rdb_registry.specs.declared.seat.Seat.{Seat}
use Rattle.rdb_registry.specs.Registry.{Roll}
use Rattle.rdb_registry.specs.Seats.{seat_of, changed}
use Rattle.rdb_transactions.specs.declared.claims.Claims.{Claims}
use Rattle.rdb_transactions.specs.declared.transactions.Transactions.{Transactions}
use Rattle.rdb_transactions.specs.Claims.{writes_in, is_unmarked, HasRoom}
use Rattle.rdb_transactions.specs.Hands.{without_story}
use Rattle.rdb_transactions.specs.Records.{on_hand, edited, exchanged, closed, spare_left}
use Rattle.rdb_transactions.specs.Sound.{IsSoundBut, IsSound}
use Rattle.rdb_transactions.specs.Moves.{Moves, Enters, ExchangesSpare, ends, ends_with_story}
use Rattle.rdb_transactions.proofs.EditLemmas.{then_edited, seat_edited, seats_edited}
use Rattle.rdb_transactions.proofs.PhaseLemmas.{closed_orderly, closed_writes, spare_empty}
use Rattle.rdb_transactions.proofs.SoundLemmas.{sound_edit, places_at}

-- what is so of a record whose transaction ends with its story
pub record MayEnd (n : ℕ) (seat : Seat) : Type 0 where
  pub unmarked : is_unmarked seat ≡ true
  pub work : seat.hand.work ≡ None
  pub plan : seat.hand.plan.pairs ≡ []
  pub undo : seat.hand.undo.pairs ≡ []
  pub begun : seat.begun ≤ n + 1

-- the three steps one after the other
pub record Steps (before moved entered after : Transactions) (c : ConnId) (done : List (Op × Reply)) (entry : Entry) (given : Claims) : Type 0 where
  pub sound : IsSoundBut done moved
  pub moves_out : Moves before moved c (on_hand without_story) []
  pub spare : moved.spare_undo ≡ before.spare_undo
  pub enters : Enters moved entered entry given
  pub given_is : given ≡ record { entries = 1; writes = writes_in done }
  pub closes : Moves entered after c (ends entered) []
  pub exchanges : ExchangesSpare entered after c (λ s. s)
  pub journal : after.journal ≡ entered.journal
  pub claims : after.claims ≡ entered.claims

-- what they come to
pub record EndsStory (before after : Transactions) (c : ConnId) (seat : Seat) (entry : Entry) : Type 0 where
  pub moves : Moves before after c (ends_with_story before) (entry ∷ [])
  pub spare : after.spare_undo ≡ spare_left before.manager before.spare_undo seat
  pub sound : IsSound after

-- the story has no part in the exchange
spare_left_same : (m : Manager) (spare : Record) (seat : Seat) → spare_left m spare (on_hand without_story seat) ≡ spare_left m spare seat
spare_left_same manager.Mursiw spare seat = refl
spare_left_same manager.Mvcc spare seat = refl

pub ends_story :
    (before moved entered after : Transactions) (c : ConnId) (done : List (Op × Reply)) (entry : Entry) (given : Claims) (seat : Seat)
    → seat_of before.registry.seats c ≡ Some seat → MayEnd (length before.journal.entries) seat
    → Steps before moved entered after c done entry given → EndsStory before after c seat entry
ends_story before moved entered after c done entry given seat at may s =
    let slot = c.slot in
    let seat1 = on_hand without_story seat in
    let same_manager : entered.manager ≡ before.manager = s.enters.manager ∙ s.moves_out.manager in
    let same_spare : entered.spare_undo ≡ before.spare_undo = s.enters.spare ∙ s.spare in
    let same_entries : moved.journal.entries ≡ before.journal.entries = s.moves_out.entries ∙ append-nil before.journal.entries in
    let entries : after.journal.entries ≡ before.journal.entries ++ entry ∷ [] =
    ap (λ (k : Kept). k.entries) s.journal ∙ (s.enters.entries ∙ ap (λ (es : List Entry). es ++ entry ∷ []) same_entries) in
    let longer : length after.journal.entries ≡ length moved.journal.entries + 1 =
    ap (λ (k : Kept). length k.entries) s.journal ∙ (ap length s.enters.entries ∙ length_push moved.journal.entries entry) in
    let as_long : length moved.journal.entries ≡ length before.journal.entries = ap length same_entries in
    let at1 : seat_of moved.registry.seats c ≡ Some seat1 = seat_edited before.registry moved.registry c (on_hand without_story) seat (λ x. refl) s.moves_out.registry at in
    let at2 : seat_of entered.registry.seats c ≡ Some seat1 = ap (λ (r : Roll). seat_of r.seats c) s.enters.registry ∙ at1 in
    let all : after.registry ≡ edited before.registry slot (λ x. closed (exchanged entered.manager entered.spare_undo (on_hand without_story x))) =
    then_edited before.registry entered.registry after.registry slot (on_hand without_story) (ends entered) (s.enters.registry ∙ s.moves_out.registry) s.closes.registry in
    let spare : after.spare_undo ≡ spare_left entered.manager entered.spare_undo seat1 = s.exchanges seat1 at2 in
    let empty : entered.spare_undo.pairs ≡ [] = ap (λ (u : Record). u.pairs) s.enters.spare ∙ s.sound.spare in
    let begun = may.begun in
    let was = places_at seat1 true may.unmarked in
    let claimed = s.enters.claimed in
    let written = s.enters.writes in
    let one : given.entries ≡ 1 = ap (λ (x : Claims). x.entries) s.given_is in
    let given_writes : given.writes ≡ writes_in done = ap (λ (x : Claims). x.writes) s.given_is in
    let claims : after.claims.entries ≡ entered.claims.entries = ap (λ (x : Claims). x.entries) s.claims in
    let claims_written : after.claims.writes ≡ entered.claims.writes = ap (λ (x : Claims). x.writes) s.claims in
    let writes = closed_writes entered.manager entered.spare_undo seat1 in
    record {
      moves = record {
        manager = s.closes.manager ∙ same_manager;
        registry =
            subst (λ (m : Manager). after.registry ≡ edited before.registry slot (λ x. closed (exchanged m before.spare_undo (on_hand without_story x)))) same_manager
            (subst (λ (u : Record). after.registry ≡ edited before.registry slot (λ x. closed (exchanged entered.manager u (on_hand without_story x)))) same_spare all);
        entries = entries;
      };
      spare =
          subst (λ (m : Manager). after.spare_undo ≡ spare_left m before.spare_undo seat1) same_manager
          (subst (λ (u : Record). after.spare_undo ≡ spare_left entered.manager u seat1) same_spare spare)
          ∙ spare_left_same before.manager before.spare_undo seat;
      sound =
          sound_edit done [] moved after c seat1 (ends entered) s.sound at1
          (seats_edited entered.registry after.registry slot (ends entered) s.closes.registry ∙ ap (λ (r : Roll). changed r.seats slot (ends entered)) s.enters.registry)
          (closed_orderly entered.manager entered.spare_undo (length after.journal.entries) seat1 may.work may.plan may.undo empty refl (omega (arith, begun, longer, as_long)))
          (omega (arith, was, claimed, one, claims)) (omega (arith, written, given_writes, claims_written, writes))
          (subst (λ (k : Kept). HasRoom after.claims k) (sym s.journal) (subst (λ (x : Claims). HasRoom x entered.journal) (sym s.claims) s.enters.room))
          (omega (arith, longer))
          (ap (λ (u : Record). u.pairs) spare ∙ spare_empty entered.manager entered.spare_undo seat1 empty may.undo);
    }
