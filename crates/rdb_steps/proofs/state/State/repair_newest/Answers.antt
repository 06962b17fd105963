use Rattle.rdb_steps.proofs.FreeLemmas.{still_held}
use Rattle.rdb_steps.proofs.StateRepairs.{back_claimed, back_one, becomes_repaired, keeps_repaired, nearer_back, whole_back}
use Rattle.rdb_steps.proofs.state.State.repair_newest.Goals as goal

pub give_up_work-requires : goal.give_up_work-requires
give_up_work-requires g c =
    let s = c.args.self.now in
    back_claimed s c.take_newest_back.new.cells c.take_newest_back.new.registry c.args.d c.requires.whole c.sound.ensures c.take_newest_back.ensures.back c.take_newest_back.ensures.works c.requires.condemned

pub leave-requires : goal.leave-requires
leave-requires g c =
    let s = c.args.self.now in
    still_held (record s.transactions { registry = c.take_newest_back.new.registry }) c.give_up_work.new.t c.args.d c.give_up_work.ensures

pub returns-clause-kept : goal.returns-clause-kept
returns-clause-kept g c =
    let s = c.args.self.now in
    keeps_repaired s c.take_newest_back.new.cells c.take_newest_back.new.registry c.args.d c.requires.whole c.sound.ensures c.take_newest_back.ensures.back c.take_newest_back.ensures.works c.requires.condemned c.give_up_work.new.t c.leave.new.registry c.take_newest_back.ensures.roll c.give_up_work.ensures c.leave.ensures

pub returns-clause-cell : goal.returns-clause-cell
returns-clause-cell g c =
    let s = c.args.self.now in
    back_one s c.take_newest_back.new.cells c.take_newest_back.new.registry c.args.d c.requires.whole c.sound.ensures c.take_newest_back.ensures.back c.take_newest_back.ensures.works c.requires.condemned c.take_newest_back.ensures.owners

pub returns-clause-becomes : goal.returns-clause-becomes
returns-clause-becomes g c =
    let s = c.args.self.now in
    becomes_repaired s c.take_newest_back.new.cells c.take_newest_back.new.registry c.args.d c.requires.whole c.sound.ensures c.take_newest_back.ensures.back c.take_newest_back.ensures.works c.requires.condemned c.give_up_work.new.t c.leave.new.registry c.take_newest_back.ensures.roll c.give_up_work.ensures c.leave.ensures

pub returns-clause-nearer : goal.returns-clause-nearer
returns-clause-nearer g c =
    let s = c.args.self.now in
    λ quiet x y. nearer_back s c.take_newest_back.new.cells c.take_newest_back.new.registry c.args.d c.requires.whole c.sound.ensures c.take_newest_back.ensures.back c.take_newest_back.ensures.works c.requires.condemned c.give_up_work.new.t c.leave.new.registry c.take_newest_back.ensures.roll c.give_up_work.ensures c.leave.ensures quiet x y

pub returns-clause-whole : goal.returns-clause-whole
returns-clause-whole g c =
    let s = c.args.self.now in
    whole_back s c.take_newest_back.new.cells c.take_newest_back.new.registry c.args.d c.requires.whole c.sound.ensures c.take_newest_back.ensures.back c.take_newest_back.ensures.works c.requires.condemned c.give_up_work.new.t c.leave.new.registry c.take_newest_back.ensures.roll c.give_up_work.ensures c.leave.ensures c.take_newest_back.ensures.owners
