use Rattle.std.proofs.Common.{refl}
use Rattle.rdb_registry.specs.Seats.{with_hand}
use Rattle.rdb_steps.proofs.NearDrops.{back_nearer}
use Rattle.rdb_steps.proofs.StateBacks.{only_back, back_one, rolled_back}
use Rattle.rdb_steps.proofs.WrittenLemmas.{back_becomes}
use Rattle.rdb_steps.proofs.WholeSteps.{whole_back}
use Rattle.rdb_steps.proofs.state.State.take_newest_back.Goals as goal

pub returns-clause-kept : goal.returns-clause-kept
returns-clause-kept g c =
    let s = c.args.self.now in
    λ settled aimed kept. rolled_back s.schema s.transactions.manager s.counters.serials s.counters.ids.items s.memory c.take_newest_back.new.cells s.transactions.registry c.take_newest_back.new.registry
    c.args.c c.requires.whole.lawful c.sound.ensures c.take_newest_back.ensures.back c.take_newest_back.ensures.works c.seat_mut.result.now c.forget_if_taken_back.new.hand settled aimed kept
    c.requires.single c.requires.live c.requires.rolling c.seat_mut.ensures.value c.forget_if_taken_back.ensures

pub returns-clause-cell : goal.returns-clause-cell
returns-clause-cell g c =
    let s = c.args.self.now in
    back_one s.schema s.transactions.manager s.counters.serials s.counters.ids.items s.memory c.take_newest_back.new.cells s.transactions.registry c.take_newest_back.new.registry
    c.args.c c.requires.whole.lawful c.sound.ensures c.take_newest_back.ensures.back c.take_newest_back.ensures.works c.take_newest_back.ensures.owners

pub returns-clause-record : goal.returns-clause-record
returns-clause-record g c =
    let s = c.args.self.now in
    record {
      seats = only_back s.schema s.transactions.manager s.counters.serials s.counters.ids.items s.memory c.take_newest_back.new.cells s.transactions.registry c.take_newest_back.new.registry
          c.args.c c.requires.whole.lawful c.sound.ensures c.take_newest_back.ensures.back c.take_newest_back.ensures.works c.take_newest_back.ensures.roll c.forget_if_taken_back.new.hand;
      rest = refl;
    }

pub returns-clause-becomes : goal.returns-clause-becomes
returns-clause-becomes g c =
    let s = c.args.self.now in
    back_becomes s.memory c.take_newest_back.new.cells s.transactions.registry c.take_newest_back.new.registry c.args.c c.take_newest_back.ensures.back
    c.seat_mut.result.now c.forget_if_taken_back.new.hand c.seat_mut.ensures.value c.forget_if_taken_back.ensures

pub returns-clause-nearer : goal.returns-clause-nearer
returns-clause-nearer g c =
    let s = c.args.self.now in
    let last = with_hand c.take_newest_back.new.registry.seats c.args.c.slot c.forget_if_taken_back.new.hand in
    back_nearer s.schema s.transactions.manager s.counters.serials s.counters.ids.items s.memory c.take_newest_back.new.cells s.transactions.registry last c.args.c
    c.requires.kept.0 c.requires.kept.1 c.requires.kept.2 c.requires.single c.requires.rolling
    (back_becomes s.memory c.take_newest_back.new.cells s.transactions.registry c.take_newest_back.new.registry c.args.c c.take_newest_back.ensures.back
    c.seat_mut.result.now c.forget_if_taken_back.new.hand c.seat_mut.ensures.value c.forget_if_taken_back.ensures)

pub returns-clause-counts : goal.returns-clause-counts
returns-clause-counts g c = record { counters = refl; journal = refl; claims = refl; spare = refl; manager = refl; schema = refl; store = refl }

pub returns-clause-whole : goal.returns-clause-whole
returns-clause-whole g c =
    let s = c.args.self.now in
    whole_back s c.take_newest_back.new.cells c.take_newest_back.new.registry c.args.c c.requires.whole c.take_newest_back.ensures.back c.take_newest_back.ensures.roll
    c.take_newest_back.ensures.owners c.requires.rolling c.seat_mut.result.now c.forget_if_taken_back.new.hand c.seat_mut.ensures.value c.forget_if_taken_back.ensures
