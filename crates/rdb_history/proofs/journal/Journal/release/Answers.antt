use Rattle.std.proofs.Common.{◌-◌, refl, arith}
use Rattle.rdb_history.proofs.KeptLemmas.{kept_with_room}
use Rattle.rdb_history.proofs.journal.Journal.release.Goals as goal

pub invariant_of-self : goal.invariant_of-self
invariant_of-self c =
    let j = c.self.inside in
    let k = c.self.invariant in
    let a = k.entry_room in let b = k.commit_room in let d = k.writes_room in let n = k.newest_room in
    kept_with_room j.entries j.entries j.commits j.commits j.writes j.writes j.newest j.newest j.room j.write_room (j.room - c.args.entries) (j.write_room - c.args.writes) k
    refl refl refl (λ object. refl) (omega arith) (omega arith) (omega arith) (omega arith)
