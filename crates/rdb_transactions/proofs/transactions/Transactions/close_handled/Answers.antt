use Rattle.std.proofs.Common.{◌≡◌, ◌+◌, ◌∷◌, ◌++◌, [], length, Some, None, IsSome, sym, ap, subst, ◌∙◌, arith}
use Rattle.std.proofs.lemmas.List.{length_push}
use Rattle.rdb_base.specs.declared.journal.Entry.{Entry}
use Rattle.rdb_cells.specs.Records.{Record}
use Rattle.rdb_model.specs.Journal.{done_of}
use Rattle.rdb_registry.specs.declared.seat.Seat.{Seat}
use Rattle.rdb_registry.specs.Registry.{Roll}
use Rattle.rdb_registry.specs.Seats.{IsHeld}
use Rattle.rdb_registry.proofs.SlotLemmas.{some_of}
use Rattle.rdb_transactions.specs.declared.claims.Claims.{Claims}
use Rattle.rdb_transactions.specs.Claims.{places_of, writes_of, writes_in}
use Rattle.rdb_transactions.specs.Moves.{handled}
use Rattle.rdb_transactions.specs.Records.{exchanged, spare_left}
use Rattle.rdb_transactions.proofs.EditLemmas.{has_seat, is_held, held_edited, stands, same_seat, freed_edited}
use Rattle.rdb_transactions.proofs.PhaseLemmas.{exchanged_conn, spare_empty}
use Rattle.rdb_transactions.proofs.SoundLemmas.{sound_set, slot_there, claimed_by_seat, places_some}
use Rattle.rdb_transactions.proofs.transactions.Transactions.close_handled.Goals as goal

pub enter-requires-clause-claimed : goal.enter-requires-clause-claimed
enter-requires-clause-claimed c =
    let before = c.args.self.now in
    let seat = c.seat.result.now in
    let given = c.leave_of-entry.result.1 in
    let both = claimed_by_seat [] before c.args.d seat c.requires.sound c.seat.ensures in
    let some = places_some seat in
    let entries : given.entries ≡ places_of seat = ap (λ (x : Claims). x.entries) c.leave_of-entry.ensures.claims in
    let writes : given.writes ≡ writes_of seat = ap (λ (x : Claims). x.writes) c.leave_of-entry.ensures.claims in
    let why = some_of seat.condemned (has_seat before.registry.seats c.args.d (λ (s : Seat). IsSome s.condemned) seat c.requires.condemned c.seat.ensures) in
    let none : writes_in (done_of c.leave_of-entry.result.0) ≡ 0 = ap (λ (e : Entry). writes_in (done_of e)) (c.leave_of-entry.ensures.entry why.0 why.1) in
    let places = both.places in
    let written = both.writes in
    record { place = omega (arith, some, entries); entries = omega (arith, places, entries); writes = omega (arith, written, writes); story = omega (arith, none) }

pub free-requires : goal.free-requires
free-requires c =
    let before = c.args.self.now in
    subst (λ (r : Roll). IsHeld r.seats c.args.d) (sym c.enter.ensures.registry)
    (held_edited before.registry c.exchange_for_writer.new.registry c.args.d (exchanged before.manager before.spare_undo) (λ s. exchanged_conn before.manager before.spare_undo s) c.exchange_for_writer.ensures.registry
    (is_held before.registry.seats c.args.d (λ (s : Seat). IsSome s.condemned) c.requires.condemned))

pub returns-clause-leaves : goal.returns-clause-leaves
returns-clause-leaves c seat condemned at why =
    let before = c.args.self.now in
    let own : c.seat.result.now ≡ seat = same_seat before.registry.seats c.args.d c.seat.result.now seat c.seat.ensures at in
    let told = c.leave_of-entry.ensures.entry condemned (ap (λ (s : Seat). s.condemned) own ∙ why) in
    let entry_is = told ∙ ap (λ (s : Seat). handled c.args.d condemned s) own in
    record {
      manager = c.enter.ensures.manager;
      registry =
          freed_edited before.registry c.enter.new.self.registry c.free.new.self c.args.d.slot (exchanged before.manager before.spare_undo)
          (c.enter.ensures.registry ∙ c.exchange_for_writer.ensures.registry) c.free.ensures;
      entries = c.enter.ensures.entries ∙ ap (λ (e : Entry). before.journal.entries ++ e ∷ []) entry_is;
    }

pub returns-clause-sound : goal.returns-clause-sound
returns-clause-sound c =
    let before = c.args.self.now in
    let seat = c.seat.result.now in
    let given = c.leave_of-entry.result.1 in
    let entries : given.entries ≡ places_of seat = ap (λ (x : Claims). x.entries) c.leave_of-entry.ensures.claims in
    let writes : given.writes ≡ writes_of seat = ap (λ (x : Claims). x.writes) c.leave_of-entry.ensures.claims in
    let claimed = c.enter.ensures.claimed in
    let written = c.enter.ensures.writes in
    let longer : length c.enter.new.self.journal.entries ≡ length before.journal.entries + 1 = ap length c.enter.ensures.entries ∙ length_push before.journal.entries _ in
    let freed = freed_edited before.registry c.enter.new.self.registry c.free.new.self c.args.d.slot (exchanged before.manager before.spare_undo)
    (c.enter.ensures.registry ∙ c.exchange_for_writer.ensures.registry) c.free.ensures in
    let left = has_seat before.registry.seats c.args.d (λ (s : Seat). c.exchange_for_writer.new.spare ≡ spare_left before.manager before.spare_undo s) seat c.exchange_for_writer.ensures.spare c.seat.ensures in
    let undo = has_seat before.registry.seats c.args.d (λ (s : Seat). s.hand.undo.pairs ≡ []) seat c.requires.logged c.seat.ensures in
    sound_set [] [] before _ c.args.d.slot (Some seat) None c.requires.sound
    (slot_there before.registry.seats c.args.d.slot seat (stands before.registry.seats c.args.d seat c.seat.ensures).there)
    (ap (λ (r : Roll). r.seats) freed)
    (λ other e. let no : None ≡ Some other = e in absurd cc)
    (omega (arith, entries, claimed)) (omega (arith, writes, written)) c.enter.ensures.room (omega (arith, longer))
    (ap (λ (r : Record). r.pairs) c.enter.ensures.spare ∙ (ap (λ (r : Record). r.pairs) left ∙ spare_empty before.manager before.spare_undo seat c.requires.sound.spare undo))
