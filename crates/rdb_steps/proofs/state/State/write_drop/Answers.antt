use Rattle.std.proofs.Common.{refl, ◌≡◌, []}
use Rattle.rdb_registry.specs.declared.hand.Hand.{Hand}
use Rattle.rdb_steps.proofs.StateWrites.{only_on, only_forgot, drop_goes_on, drop_ends, has_first, room_mid, writes_one}
use Rattle.rdb_steps.proofs.NearDrops.{drop_nearer}
use Rattle.rdb_steps.proofs.WrittenLemmas.{drop_becomes, drop_forgets}
use Rattle.rdb_steps.proofs.WholeSteps.{whole_forgot, whole_on}
use Rattle.rdb_steps.proofs.state.State.write_drop.Goals as goal

pub forget_first-requires : goal.forget_first-requires
forget_first-requires g c =
    let s = c.args.self.now in
    room_mid s.schema s.transactions.manager s.counters.serials s.counters.ids.items s.memory c.write_next-is_last.new.cells s.transactions.registry c.write_next-is_last.new.registry
    c.args.c c.write_next-is_last.result c.requires.whole.lawful c.requires.whole.classes c.sound.ensures c.write_next-is_last.ensures.written c.write_next-is_last.ensures.works c.requires.kept.0 c.requires.kept.1 c.requires.kept.2
    (λ (h : Hand). h.own.items ≡ [] → ⊥) (has_first s.schema s.transactions.manager s.counters.serials s.counters.ids.items s.memory c.write_next-is_last.new.cells s.transactions.registry c.write_next-is_last.new.registry
    c.args.c c.write_next-is_last.result c.requires.whole.lawful c.requires.whole.classes c.sound.ensures c.write_next-is_last.ensures.written c.write_next-is_last.ensures.works c.requires.kept.0 c.requires.kept.1 c.requires.kept.2 c.requires.dropping)

pub returns-then-is_last-clause-kept : goal.returns-then-is_last-clause-kept
returns-then-is_last-clause-kept g c =
    let s = c.args.self.now in
    λ settled aimed kept. drop_ends s.schema s.transactions.manager s.counters.serials s.counters.ids.items s.memory c.write_next-is_last.new.cells s.transactions.registry c.write_next-is_last.new.registry
    c.args.c c.write_next-is_last.result c.requires.whole.lawful c.requires.whole.classes c.sound.ensures c.write_next-is_last.ensures.written c.write_next-is_last.ensures.works settled aimed kept
    c.requires.dropping c.if-is_last.true c.forget_first.new.registry c.forget_first.ensures

pub returns-then-is_last-clause-cell : goal.returns-then-is_last-clause-cell
returns-then-is_last-clause-cell g c =
    let s = c.args.self.now in
    writes_one s.schema s.transactions.manager s.counters.serials s.counters.ids.items s.memory c.write_next-is_last.new.cells s.transactions.registry c.write_next-is_last.new.registry
    c.args.c c.write_next-is_last.result c.requires.whole.lawful c.requires.whole.classes c.sound.ensures c.write_next-is_last.ensures.written c.write_next-is_last.ensures.works c.requires.kept.0 c.requires.kept.1 c.requires.kept.2 c.write_next-is_last.ensures.owners

pub returns-else-is_last-clause-kept : goal.returns-else-is_last-clause-kept
returns-else-is_last-clause-kept g c =
    let s = c.args.self.now in
    λ settled aimed kept. drop_goes_on s.schema s.transactions.manager s.counters.serials s.counters.ids.items s.memory c.write_next-is_last.new.cells s.transactions.registry c.write_next-is_last.new.registry
    c.args.c c.write_next-is_last.result c.requires.whole.lawful c.requires.whole.classes c.sound.ensures c.write_next-is_last.ensures.written c.write_next-is_last.ensures.works settled aimed kept
    c.requires.dropping c.if-is_last.false

pub returns-else-is_last-clause-cell : goal.returns-else-is_last-clause-cell
returns-else-is_last-clause-cell g c =
    let s = c.args.self.now in
    writes_one s.schema s.transactions.manager s.counters.serials s.counters.ids.items s.memory c.write_next-is_last.new.cells s.transactions.registry c.write_next-is_last.new.registry
    c.args.c c.write_next-is_last.result c.requires.whole.lawful c.requires.whole.classes c.sound.ensures c.write_next-is_last.ensures.written c.write_next-is_last.ensures.works c.requires.kept.0 c.requires.kept.1 c.requires.kept.2 c.write_next-is_last.ensures.owners

pub returns-then-is_last-clause-record : goal.returns-then-is_last-clause-record
returns-then-is_last-clause-record g c =
    let s = c.args.self.now in
    record {
      seats = only_forgot s.schema s.transactions.manager s.counters.serials s.counters.ids.items s.memory c.write_next-is_last.new.cells s.transactions.registry c.write_next-is_last.new.registry
          c.args.c c.write_next-is_last.result c.requires.whole.lawful c.requires.whole.classes c.sound.ensures c.write_next-is_last.ensures.written c.write_next-is_last.ensures.works c.requires.kept.0 c.requires.kept.1 c.requires.kept.2 c.write_next-is_last.ensures.roll c.forget_first.new.registry c.forget_first.ensures;
      rest = refl;
    }

pub returns-else-is_last-clause-record : goal.returns-else-is_last-clause-record
returns-else-is_last-clause-record g c =
    let s = c.args.self.now in
    record {
      seats = only_on s.schema s.transactions.manager s.counters.serials s.counters.ids.items s.memory c.write_next-is_last.new.cells s.transactions.registry c.write_next-is_last.new.registry
          c.args.c c.write_next-is_last.result c.requires.whole.lawful c.requires.whole.classes c.sound.ensures c.write_next-is_last.ensures.written c.write_next-is_last.ensures.works c.requires.kept.0 c.requires.kept.1 c.requires.kept.2 c.write_next-is_last.ensures.roll;
      rest = refl;
    }

pub returns-then-is_last-clause-becomes : goal.returns-then-is_last-clause-becomes
returns-then-is_last-clause-becomes g c =
    let s = c.args.self.now in
    drop_forgets s.transactions.manager s.memory c.write_next-is_last.new.cells s.transactions.registry c.write_next-is_last.new.registry
    c.args.c c.write_next-is_last.result c.write_next-is_last.ensures.written c.if-is_last.true c.forget_first.new.registry c.forget_first.ensures

pub returns-else-is_last-clause-becomes : goal.returns-else-is_last-clause-becomes
returns-else-is_last-clause-becomes g c =
    let s = c.args.self.now in
    drop_becomes s.transactions.manager s.memory c.write_next-is_last.new.cells s.transactions.registry c.write_next-is_last.new.registry
    c.args.c c.write_next-is_last.result c.write_next-is_last.ensures.written c.if-is_last.false

pub returns-then-is_last-clause-nearer : goal.returns-then-is_last-clause-nearer
returns-then-is_last-clause-nearer g c =
    let s = c.args.self.now in
    drop_nearer s.schema s.transactions.manager s.counters.serials s.counters.ids.items s.memory c.write_next-is_last.new.cells s.transactions.registry c.forget_first.new.registry.seats c.args.c
    c.requires.kept.0 c.requires.kept.1 c.requires.kept.2 c.requires.dropping
    (drop_forgets s.transactions.manager s.memory c.write_next-is_last.new.cells s.transactions.registry c.write_next-is_last.new.registry
    c.args.c c.write_next-is_last.result c.write_next-is_last.ensures.written c.if-is_last.true c.forget_first.new.registry c.forget_first.ensures)

pub returns-else-is_last-clause-nearer : goal.returns-else-is_last-clause-nearer
returns-else-is_last-clause-nearer g c =
    let s = c.args.self.now in
    drop_nearer s.schema s.transactions.manager s.counters.serials s.counters.ids.items s.memory c.write_next-is_last.new.cells s.transactions.registry c.write_next-is_last.new.registry.seats c.args.c
    c.requires.kept.0 c.requires.kept.1 c.requires.kept.2 c.requires.dropping
    (drop_becomes s.transactions.manager s.memory c.write_next-is_last.new.cells s.transactions.registry c.write_next-is_last.new.registry
    c.args.c c.write_next-is_last.result c.write_next-is_last.ensures.written c.if-is_last.false)

pub returns-then-is_last-clause-counts : goal.returns-then-is_last-clause-counts
returns-then-is_last-clause-counts g c = record { counters = refl; journal = refl; claims = refl; spare = refl; manager = refl; schema = refl; store = refl }

pub returns-else-is_last-clause-counts : goal.returns-else-is_last-clause-counts
returns-else-is_last-clause-counts g c = record { counters = refl; journal = refl; claims = refl; spare = refl; manager = refl; schema = refl; store = refl }

pub returns-then-is_last-clause-whole : goal.returns-then-is_last-clause-whole
returns-then-is_last-clause-whole g c =
    let s = c.args.self.now in
    whole_forgot s c.write_next-is_last.new.cells c.write_next-is_last.new.registry c.args.c c.write_next-is_last.result c.requires.whole c.write_next-is_last.ensures.written
    c.write_next-is_last.ensures.roll c.write_next-is_last.ensures.owners c.requires.dropping c.forget_first.new.registry c.forget_first.ensures

pub returns-else-is_last-clause-whole : goal.returns-else-is_last-clause-whole
returns-else-is_last-clause-whole g c =
    let s = c.args.self.now in
    whole_on s c.write_next-is_last.new.cells c.write_next-is_last.new.registry c.args.c c.write_next-is_last.result c.requires.whole c.write_next-is_last.ensures.written
    c.write_next-is_last.ensures.roll c.write_next-is_last.ensures.owners
