use Rattle.std.proofs.Common.{refl, ◌<◌, None, IsSome, sym, ◌∙◌}
use Rattle.std.proofs.lemmas.Bool.{false≢true}
use Rattle.rdb_registry.specs.declared.hand.Hand.{Hand}
use Rattle.rdb_steps.specs.States.{cell_count}
use Rattle.rdb_steps.proofs.StateWrites.{only_on, only_told, work_on, work_told, reply_on, reply_told, writes_one, held_mid, room_mid, furnished_here}
use Rattle.rdb_steps.proofs.NearLemmas.{nearer}
use Rattle.rdb_steps.proofs.WrittenLemmas.{work_becomes, work_goes_on}
use Rattle.rdb_steps.proofs.WholeSteps.{whole_on, whole_told}
use Rattle.rdb_steps.proofs.state.State.write_work.Goals as goal

pub end_work-requires-clause-held : goal.end_work-requires-clause-held
end_work-requires-clause-held g c =
    let s = c.args.self.now in
    held_mid s.schema s.transactions.manager s.counters.serials s.counters.ids.items s.memory c.write_next-is_last.new.cells s.transactions.registry c.write_next-is_last.new.registry
    c.args.c c.write_next-is_last.result c.requires.whole.lawful c.requires.whole.classes c.sound.ensures c.write_next-is_last.ensures.written c.write_next-is_last.ensures.works c.requires.kept.0 c.requires.kept.1 c.requires.kept.2

pub end_work-requires-clause-done : goal.end_work-requires-clause-done
end_work-requires-clause-done g c =
    let s = c.args.self.now in
    room_mid s.schema s.transactions.manager s.counters.serials s.counters.ids.items s.memory c.write_next-is_last.new.cells s.transactions.registry c.write_next-is_last.new.registry
    c.args.c c.write_next-is_last.result c.requires.whole.lawful c.requires.whole.classes c.sound.ensures c.write_next-is_last.ensures.written c.write_next-is_last.ensures.works c.requires.kept.0 c.requires.kept.1 c.requires.kept.2
    (λ (h : Hand). IsSome h.work → 0 < h.done.room) (furnished_here s.schema s.transactions.manager s.counters.serials s.counters.ids.items s.memory c.write_next-is_last.new.cells s.transactions.registry c.write_next-is_last.new.registry
    c.args.c c.write_next-is_last.result c.requires.whole.lawful c.requires.whole.classes c.sound.ensures c.write_next-is_last.ensures.written c.write_next-is_last.ensures.works c.requires.kept.0 c.requires.kept.1 c.requires.kept.2 (cell_count s.schema s.memory) c.requires.whole.furnished).done

pub end_work-requires-clause-own : goal.end_work-requires-clause-own
end_work-requires-clause-own g c =
    let s = c.args.self.now in
    room_mid s.schema s.transactions.manager s.counters.serials s.counters.ids.items s.memory c.write_next-is_last.new.cells s.transactions.registry c.write_next-is_last.new.registry
    c.args.c c.write_next-is_last.result c.requires.whole.lawful c.requires.whole.classes c.sound.ensures c.write_next-is_last.ensures.written c.write_next-is_last.ensures.works c.requires.kept.0 c.requires.kept.1 c.requires.kept.2
    (λ (h : Hand). IsSome h.work → 0 < h.own.room) (furnished_here s.schema s.transactions.manager s.counters.serials s.counters.ids.items s.memory c.write_next-is_last.new.cells s.transactions.registry c.write_next-is_last.new.registry
    c.args.c c.write_next-is_last.result c.requires.whole.lawful c.requires.whole.classes c.sound.ensures c.write_next-is_last.ensures.written c.write_next-is_last.ensures.works c.requires.kept.0 c.requires.kept.1 c.requires.kept.2 (cell_count s.schema s.memory) c.requires.whole.furnished).own

pub returns-then-is_last-clause-kept : goal.returns-then-is_last-clause-kept
returns-then-is_last-clause-kept g c =
    let s = c.args.self.now in
    λ settled aimed kept. work_told s.schema s.transactions.manager s.counters.serials s.counters.ids.items s.memory c.write_next-is_last.new.cells s.transactions.registry c.write_next-is_last.new.registry
    c.args.c c.write_next-is_last.result c.requires.whole.lawful c.requires.whole.classes c.sound.ensures c.write_next-is_last.ensures.written c.write_next-is_last.ensures.works settled aimed kept
    c.requires.live c.requires.writing c.if-is_last.true c.end_work.new.registry c.end_work.result c.end_work.ensures.none c.end_work.ensures.same c.end_work.ensures.ends

pub returns-then-is_last-clause-reply : goal.returns-then-is_last-clause-reply
returns-then-is_last-clause-reply g c =
    let s = c.args.self.now in
    reply_told s.schema s.transactions.manager s.counters.serials s.counters.ids.items s.memory c.write_next-is_last.new.cells s.transactions.registry c.write_next-is_last.new.registry
    c.args.c c.write_next-is_last.result c.requires.whole.lawful c.requires.whole.classes c.sound.ensures c.write_next-is_last.ensures.written c.write_next-is_last.ensures.works c.requires.kept.0 c.requires.kept.1 c.requires.kept.2 c.if-is_last.true c.end_work.new.registry c.end_work.result c.end_work.ensures.none c.end_work.ensures.ends

pub returns-then-is_last-clause-cell : goal.returns-then-is_last-clause-cell
returns-then-is_last-clause-cell g c =
    let s = c.args.self.now in
    writes_one s.schema s.transactions.manager s.counters.serials s.counters.ids.items s.memory c.write_next-is_last.new.cells s.transactions.registry c.write_next-is_last.new.registry
    c.args.c c.write_next-is_last.result c.requires.whole.lawful c.requires.whole.classes c.sound.ensures c.write_next-is_last.ensures.written c.write_next-is_last.ensures.works c.requires.kept.0 c.requires.kept.1 c.requires.kept.2 c.write_next-is_last.ensures.owners

pub returns-else-is_last-clause-kept : goal.returns-else-is_last-clause-kept
returns-else-is_last-clause-kept g c =
    let s = c.args.self.now in
    λ settled aimed kept. work_on s.schema s.transactions.manager s.counters.serials s.counters.ids.items s.memory c.write_next-is_last.new.cells s.transactions.registry c.write_next-is_last.new.registry
    c.args.c c.write_next-is_last.result c.requires.whole.lawful c.requires.whole.classes c.sound.ensures c.write_next-is_last.ensures.written c.write_next-is_last.ensures.works settled aimed kept
    c.requires.live c.requires.writing (λ work had written. absurd (false≢true (sym c.if-is_last.false ∙ c.write_next-is_last.ensures.written.last ∙ written)))

pub returns-else-is_last-clause-reply : goal.returns-else-is_last-clause-reply
returns-else-is_last-clause-reply g c =
    let s = c.args.self.now in
    reply_on s.schema s.transactions.manager s.counters.serials s.counters.ids.items s.memory c.write_next-is_last.new.cells s.transactions.registry c.write_next-is_last.new.registry
    c.args.c c.write_next-is_last.result c.requires.whole.lawful c.requires.whole.classes c.sound.ensures c.write_next-is_last.ensures.written c.write_next-is_last.ensures.works c.requires.kept.0 c.requires.kept.1 c.requires.kept.2 c.if-is_last.false

pub returns-else-is_last-clause-cell : goal.returns-else-is_last-clause-cell
returns-else-is_last-clause-cell g c =
    let s = c.args.self.now in
    writes_one s.schema s.transactions.manager s.counters.serials s.counters.ids.items s.memory c.write_next-is_last.new.cells s.transactions.registry c.write_next-is_last.new.registry
    c.args.c c.write_next-is_last.result c.requires.whole.lawful c.requires.whole.classes c.sound.ensures c.write_next-is_last.ensures.written c.write_next-is_last.ensures.works c.requires.kept.0 c.requires.kept.1 c.requires.kept.2 c.write_next-is_last.ensures.owners

pub returns-then-is_last-clause-record : goal.returns-then-is_last-clause-record
returns-then-is_last-clause-record g c =
    let s = c.args.self.now in
    record {
      seats = only_told s.schema s.transactions.manager s.counters.serials s.counters.ids.items s.memory c.write_next-is_last.new.cells s.transactions.registry c.write_next-is_last.new.registry
          c.args.c c.write_next-is_last.result c.requires.whole.lawful c.requires.whole.classes c.sound.ensures c.write_next-is_last.ensures.written c.write_next-is_last.ensures.works c.requires.kept.0 c.requires.kept.1 c.requires.kept.2 c.write_next-is_last.ensures.roll c.end_work.new.registry c.end_work.result c.end_work.ensures.same c.end_work.ensures.ends;
      rest = refl;
    }

pub returns-else-is_last-clause-record : goal.returns-else-is_last-clause-record
returns-else-is_last-clause-record g c =
    let s = c.args.self.now in
    record {
      seats = only_on s.schema s.transactions.manager s.counters.serials s.counters.ids.items s.memory c.write_next-is_last.new.cells s.transactions.registry c.write_next-is_last.new.registry
          c.args.c c.write_next-is_last.result c.requires.whole.lawful c.requires.whole.classes c.sound.ensures c.write_next-is_last.ensures.written c.write_next-is_last.ensures.works c.requires.kept.0 c.requires.kept.1 c.requires.kept.2 c.write_next-is_last.ensures.roll;
      rest = refl;
    }

pub returns-then-is_last-clause-becomes : goal.returns-then-is_last-clause-becomes
returns-then-is_last-clause-becomes g c =
    let s = c.args.self.now in
    work_becomes s.transactions.manager s.memory c.write_next-is_last.new.cells s.transactions.registry c.write_next-is_last.new.registry
    c.args.c c.write_next-is_last.result c.write_next-is_last.ensures.written c.end_work.new.registry c.end_work.result c.end_work.ensures.same c.end_work.ensures.ends

pub returns-else-is_last-clause-becomes : goal.returns-else-is_last-clause-becomes
returns-else-is_last-clause-becomes g c =
    let s = c.args.self.now in
    work_goes_on s.transactions.manager s.memory c.write_next-is_last.new.cells s.transactions.registry c.write_next-is_last.new.registry
    c.args.c c.write_next-is_last.result c.write_next-is_last.ensures.written

pub returns-then-is_last-clause-counts : goal.returns-then-is_last-clause-counts
returns-then-is_last-clause-counts g c = record { counters = refl; journal = refl; claims = refl; spare = refl; manager = refl; schema = refl; store = refl }

pub returns-else-is_last-clause-counts : goal.returns-else-is_last-clause-counts
returns-else-is_last-clause-counts g c = record { counters = refl; journal = refl; claims = refl; spare = refl; manager = refl; schema = refl; store = refl }

pub returns-then-is_last-clause-whole : goal.returns-then-is_last-clause-whole
returns-then-is_last-clause-whole g c =
    let s = c.args.self.now in
    whole_told s c.write_next-is_last.new.cells c.write_next-is_last.new.registry c.args.c c.write_next-is_last.result c.requires.whole c.write_next-is_last.ensures.written
    c.write_next-is_last.ensures.roll c.write_next-is_last.ensures.owners c.requires.writing c.if-is_last.true c.end_work.new.registry c.end_work.result c.end_work.ensures.same c.end_work.ensures.ends

pub returns-else-is_last-clause-whole : goal.returns-else-is_last-clause-whole
returns-else-is_last-clause-whole g c =
    let s = c.args.self.now in
    whole_on s c.write_next-is_last.new.cells c.write_next-is_last.new.registry c.args.c c.write_next-is_last.result c.requires.whole c.write_next-is_last.ensures.written
    c.write_next-is_last.ensures.roll c.write_next-is_last.ensures.owners

pub returns-then-is_last-clause-nearer : goal.returns-then-is_last-clause-nearer
returns-then-is_last-clause-nearer g c =
    let s = c.args.self.now in
    nearer s.schema s.transactions.manager s.counters.serials s.counters.ids.items s.memory c.write_next-is_last.new.cells s.transactions.registry c.end_work.new.registry.seats c.args.c c.end_work.result
    c.requires.kept.0 c.requires.kept.1 c.requires.kept.2 c.requires.live c.requires.writing
    (work_becomes s.transactions.manager s.memory c.write_next-is_last.new.cells s.transactions.registry c.write_next-is_last.new.registry
    c.args.c c.write_next-is_last.result c.write_next-is_last.ensures.written c.end_work.new.registry c.end_work.result c.end_work.ensures.same c.end_work.ensures.ends)

pub returns-else-is_last-clause-nearer : goal.returns-else-is_last-clause-nearer
returns-else-is_last-clause-nearer g c =
    let s = c.args.self.now in
    nearer s.schema s.transactions.manager s.counters.serials s.counters.ids.items s.memory c.write_next-is_last.new.cells s.transactions.registry c.write_next-is_last.new.registry.seats c.args.c None
    c.requires.kept.0 c.requires.kept.1 c.requires.kept.2 c.requires.live c.requires.writing
    (work_goes_on s.transactions.manager s.memory c.write_next-is_last.new.cells s.transactions.registry c.write_next-is_last.new.registry
    c.args.c c.write_next-is_last.result c.write_next-is_last.ensures.written)
