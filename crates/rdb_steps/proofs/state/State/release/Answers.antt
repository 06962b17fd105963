use Rattle.std.proofs.Common.{IsSome}
use Rattle.rdb_steps.proofs.FreeLemmas.{still_held}
use Rattle.rdb_steps.proofs.StateRepairs.{becomes_free, freed_claimed, keeps_free, nearer_freed, whole_freed}
use Rattle.rdb_steps.proofs.state.State.release.Goals as goal

pub give_up_work-requires : goal.give_up_work-requires
give_up_work-requires g c = freed_claimed c.args.self.now c.args.d (λ seat. IsSome seat.condemned) c.requires.whole c.requires.condemned

pub release_latches-requires : goal.release_latches-requires
release_latches-requires g c = still_held c.args.self.now.transactions c.give_up_work.new.t c.args.d c.give_up_work.ensures

pub returns-clause-kept : goal.returns-clause-kept
returns-clause-kept g c = keeps_free c.args.self.now c.give_up_work.new.t c.release_latches.new.self c.args.d c.requires.whole c.sound.ensures c.requires.condemned c.requires.logged c.give_up_work.ensures c.release_latches.ensures

pub returns-clause-becomes : goal.returns-clause-becomes
returns-clause-becomes g c = becomes_free c.args.self.now c.give_up_work.new.t c.release_latches.new.self c.args.d c.requires.whole c.sound.ensures c.requires.condemned c.requires.logged c.give_up_work.ensures c.release_latches.ensures

pub returns-clause-nearer : goal.returns-clause-nearer
returns-clause-nearer g c =
    let t = c.give_up_work.new.t in
    λ holds a b. nearer_freed c.args.self.now (record t { registry = c.release_latches.new.self }) c.args.d c.requires.whole c.requires.condemned c.requires.logged (becomes_free c.args.self.now c.give_up_work.new.t c.release_latches.new.self c.args.d c.requires.whole c.sound.ensures c.requires.condemned c.requires.logged c.give_up_work.ensures c.release_latches.ensures) holds a b

pub returns-clause-whole : goal.returns-clause-whole
returns-clause-whole g c =
    let t = c.give_up_work.new.t in
    whole_freed c.args.self.now (record t { registry = c.release_latches.new.self }) c.args.d c.requires.whole c.requires.condemned c.requires.logged (becomes_free c.args.self.now c.give_up_work.new.t c.release_latches.new.self c.args.d c.requires.whole c.sound.ensures c.requires.condemned c.requires.logged c.give_up_work.ensures c.release_latches.ensures)
