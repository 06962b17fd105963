use Rattle.std.proofs.Common.{[], refl, sym, ap, ◌∙◌}
use Rattle.rdb_registry.specs.declared.seat.Condemned.{Condemned}
use Rattle.rdb_registry.specs.Registry.{Roll}
use Rattle.rdb_registry.specs.Seats.{seat_of, with_condemned}
use Rattle.rdb_transactions.proofs.PhaseLemmas.{live_there, condemned_phase}
use Rattle.rdb_transactions.proofs.SoundLemmas.{sound_still, orderly_of}
use Rattle.rdb_transactions.proofs.transactions.Transactions.condemn.Goals as goal

pub returns-then-is_live-clause-sound : goal.returns-then-is_live-clause-sound
returns-then-is_live-clause-sound c =
    let before = c.args.self.now in
    let there = live_there (seat_of before.registry.seats c.args.d) (sym c.is_live.ensures ∙ c.if-is_live.true) in
    let what : Condemned = record { by = c.args.by; at = c.len-at.result } in
    let o = orderly_of [] before c.args.d there.0 c.requires there.1.0 in
    sound_still before c.condemn.new.self c.args.d there.0 (with_condemned what) c.requires there.1.0
    (ap (λ (r : Roll). r.seats) c.condemn.ensures)
    (record { phase = condemned_phase there.0.hand.phase what there.0 o.phase; begun = o.begun }) refl refl
