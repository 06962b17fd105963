use Rattle.std.proofs.Common.{refl}
use Rattle.rdb_steps.proofs.StateStamps.{becomes_stamped, cell_idle, cell_there, class_holds, class_known, class_there, held_by_other, keeps_stamped, nearer_stamped, only_stamped, version_there, whole_stamped}
use Rattle.rdb_steps.proofs.state.State.stamp_first.Goals as goal

pub holder_of-requires : goal.holder_of-requires
holder_of-requires g c =
    let s = c.args.self.now in
    class_known s c.args.c c.seat-seat.result.now c.first_own-own.result c.mark_of-commit.result c.requires.whole c.sound.ensures c.seat-seat.ensures c.first_own-own.ensures.first c.mark_of-commit.ensures c.requires.kept.0 c.requires.kept.1 c.requires.kept.2

pub stamped-cell-requires-clause-class : goal.stamped-cell-requires-clause-class
stamped-cell-requires-clause-class g c =
    let s = c.args.self.now in
    class_there s c.args.c c.seat-seat.result.now c.first_own-own.result c.mark_of-commit.result c.requires.whole c.sound.ensures c.seat-seat.ensures c.first_own-own.ensures.first c.mark_of-commit.ensures c.requires.kept.0 c.requires.kept.1 c.requires.kept.2 (c.holder_of.ensures.none c.in_default.is)

pub stamped-cell-requires-clause-holds : goal.stamped-cell-requires-clause-holds
stamped-cell-requires-clause-holds g c =
    let s = c.args.self.now in
    class_holds s c.args.c c.seat-seat.result.now c.first_own-own.result c.mark_of-commit.result c.requires.whole c.sound.ensures c.seat-seat.ensures c.first_own-own.ensures.first c.mark_of-commit.ensures c.requires.kept.0 c.requires.kept.1 c.requires.kept.2 (c.holder_of.ensures.none c.in_default.is)

pub stamped-cell-requires-clause-version : goal.stamped-cell-requires-clause-version
stamped-cell-requires-clause-version g c =
    let s = c.args.self.now in
    version_there s c.args.c c.seat-seat.result.now c.first_own-own.result c.mark_of-commit.result c.requires.whole c.sound.ensures c.seat-seat.ensures c.first_own-own.ensures.first c.mark_of-commit.ensures c.requires.kept.0 c.requires.kept.1 c.requires.kept.2 (c.holder_of.ensures.none c.in_default.is)

pub write_unlogged-requires-clause-named : goal.write_unlogged-requires-clause-named
write_unlogged-requires-clause-named g c =
    let s = c.args.self.now in
    cell_there s c.args.c c.seat-seat.result.now c.first_own-own.result c.mark_of-commit.result c.requires.whole c.sound.ensures c.seat-seat.ensures c.first_own-own.ensures.first c.mark_of-commit.ensures c.requires.kept.0 c.requires.kept.1 c.requires.kept.2 (c.holder_of.ensures.none c.in_default.is)

pub write_unlogged-requires-clause-idle : goal.write_unlogged-requires-clause-idle
write_unlogged-requires-clause-idle g c =
    let s = c.args.self.now in
    cell_idle s c.args.c c.seat-seat.result.now c.first_own-own.result c.mark_of-commit.result c.requires.whole c.sound.ensures c.seat-seat.ensures c.first_own-own.ensures.first c.mark_of-commit.ensures c.requires.kept.0 c.requires.kept.1 c.requires.kept.2 (c.holder_of.ensures.none c.in_default.is)

pub returns-clause-kept : goal.returns-clause-kept
returns-clause-kept g c =
    let s = c.args.self.now in
    λ none settled aimed kept. keeps_stamped s c.args.c c.seat-seat.result.now c.first_own-own.result c.mark_of-commit.result c.requires.whole c.sound.ensures c.seat-seat.ensures c.first_own-own.ensures.first c.mark_of-commit.ensures settled aimed kept (c.holder_of.ensures.none c.in_default.is) c.first_own-own.ensures.ordered c.write_unlogged.new.cells c.forget.new.registry c.stamped-cell.result c.write_unlogged.ensures.written c.write_unlogged.ensures.settled c.write_unlogged.ensures.classes c.stamped-cell.ensures c.forget.ensures

pub returns-clause-cell : goal.returns-clause-cell
returns-clause-cell g c =
    let s = c.args.self.now in
    record { at = c.first_own-own.result.header.number; elsewhere = λ n ne. c.write_unlogged.ensures.written.elsewhere n ne; classes = c.write_unlogged.ensures.classes; owners = c.write_unlogged.ensures.owners }

pub returns-clause-record : goal.returns-clause-record
returns-clause-record g c =
    let s = c.args.self.now in
    record { seats = only_stamped s c.args.c c.seat-seat.result.now c.first_own-own.result c.mark_of-commit.result c.requires.whole c.sound.ensures c.seat-seat.ensures c.first_own-own.ensures.first c.mark_of-commit.ensures c.write_unlogged.new.cells c.forget.new.registry c.forget.ensures; rest = refl }

pub returns-clause-becomes : goal.returns-clause-becomes
returns-clause-becomes g c =
    let s = c.args.self.now in
    λ none. becomes_stamped s c.args.c c.seat-seat.result.now c.first_own-own.result c.mark_of-commit.result c.requires.whole c.sound.ensures c.seat-seat.ensures c.first_own-own.ensures.first c.mark_of-commit.ensures c.write_unlogged.new.cells c.forget.new.registry c.forget.ensures c.stamped-cell.result (c.holder_of.ensures.none c.in_default.is) c.write_unlogged.ensures.written

pub returns-clause-nearer : goal.returns-clause-nearer
returns-clause-nearer g c =
    let s = c.args.self.now in
    λ none a b. nearer_stamped s c.args.c c.seat-seat.result.now c.first_own-own.result c.mark_of-commit.result c.requires.whole c.sound.ensures c.seat-seat.ensures c.first_own-own.ensures.first c.mark_of-commit.ensures c.write_unlogged.new.cells c.forget.new.registry c.forget.ensures a b

pub returns-clause-whole : goal.returns-clause-whole
returns-clause-whole g c =
    let s = c.args.self.now in
    whole_stamped s c.args.c c.seat-seat.result.now c.first_own-own.result c.mark_of-commit.result c.requires.whole c.sound.ensures c.seat-seat.ensures c.first_own-own.ensures.first c.mark_of-commit.ensures c.write_unlogged.new.cells c.forget.new.registry c.forget.ensures (record { at = c.first_own-own.result.header.number; elsewhere = λ n ne. c.write_unlogged.ensures.written.elsewhere n ne; classes = c.write_unlogged.ensures.classes; owners = c.write_unlogged.ensures.owners })
