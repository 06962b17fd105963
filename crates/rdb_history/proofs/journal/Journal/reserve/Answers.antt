use Rattle.std.proofs.Common.{◌+◌, refl, arith}
use Rattle.rdb_history.proofs.KeptLemmas.{kept_with_room}
use Rattle.rdb_history.proofs.journal.Journal.reserve.Goals as goal

pub invariant_of-self : goal.invariant_of-self
invariant_of-self c =
    let j = c.self.inside in
    let k = c.self.invariant in
    let a = k.entry_room in let e = c.in_err-reserve_beside.ensures.kept in
    kept_with_room j.entries c.reserve_beside.new.elements j.commits j.commits j.writes j.writes j.newest j.newest j.room j.write_room j.room j.write_room k
    c.in_err-reserve_beside.ensures.items refl refl (λ object. refl) (omega arith) k.commit_room k.writes_room k.newest_room

pub invariant_of-self-in_err-reserve_beside-2 : goal.invariant_of-self-in_err-reserve_beside-2
invariant_of-self-in_err-reserve_beside-2 c =
    let j = c.self.inside in
    let k = c.self.invariant in
    let a = k.entry_room in let b = k.commit_room in
    let e = c.in_ok-reserve_beside.ensures.kept in let f = c.in_err-reserve_beside-2.ensures.kept in
    kept_with_room j.entries c.reserve_beside.new.elements j.commits c.reserve_beside-2.new.elements j.writes j.writes j.newest j.newest j.room j.write_room j.room j.write_room k
    c.in_ok-reserve_beside.ensures.items c.in_err-reserve_beside-2.ensures.items refl (λ object. refl) (omega arith) (omega arith) k.writes_room k.newest_room

pub invariant_of-self-in_err-reserve_beside-3 : goal.invariant_of-self-in_err-reserve_beside-3
invariant_of-self-in_err-reserve_beside-3 c =
    let j = c.self.inside in
    let k = c.self.invariant in
    let a = k.entry_room in let b = k.commit_room in let d = k.writes_room in
    let e = c.in_ok-reserve_beside.ensures.kept in let f = c.in_ok-reserve_beside-2.ensures.kept in let g = c.in_err-reserve_beside-3.ensures.kept in
    kept_with_room j.entries c.reserve_beside.new.elements j.commits c.reserve_beside-2.new.elements j.writes c.reserve_beside-3.new.elements j.newest j.newest j.room j.write_room j.room j.write_room k
    c.in_ok-reserve_beside.ensures.items c.in_ok-reserve_beside-2.ensures.items c.in_err-reserve_beside-3.ensures.items (λ object. refl) (omega arith) (omega arith) (omega arith) k.newest_room

pub invariant_of-self-in_err-reserve : goal.invariant_of-self-in_err-reserve
invariant_of-self-in_err-reserve c =
    let j = c.self.inside in
    let k = c.self.invariant in
    let a = k.entry_room in let b = k.commit_room in let d = k.writes_room in let n = k.newest_room in
    let e = c.in_ok-reserve_beside.ensures.kept in let f = c.in_ok-reserve_beside-2.ensures.kept in let g = c.in_ok-reserve_beside-3.ensures.kept in
    let roomier = c.in_err-reserve.ensures.spare in
    kept_with_room j.entries c.reserve_beside.new.elements j.commits c.reserve_beside-2.new.elements j.writes c.reserve_beside-3.new.elements j.newest c.reserve.new.self j.room j.write_room j.room j.write_room k
    c.in_ok-reserve_beside.ensures.items c.in_ok-reserve_beside-2.ensures.items c.in_ok-reserve_beside-3.ensures.items c.in_err-reserve.ensures.entries.2 (omega arith) (omega arith) (omega arith) (omega arith)

pub invariant_of-self-2 : goal.invariant_of-self-2
invariant_of-self-2 c =
    let j = c.self.inside in
    kept_with_room j.entries c.reserve_beside.new.elements j.commits c.reserve_beside-2.new.elements j.writes c.reserve_beside-3.new.elements j.newest c.reserve.new.self j.room j.write_room
    (j.room + c.args.entries) (j.write_room + c.args.writes) c.self.invariant
    c.in_ok-reserve_beside.ensures.items c.in_ok-reserve_beside-2.ensures.items c.in_ok-reserve_beside-3.ensures.items c.in_ok-reserve.ensures.entries.2
    c.in_ok-reserve_beside.ensures.room c.in_ok-reserve_beside-2.ensures.room c.in_ok-reserve_beside-3.ensures.room c.in_ok-reserve.ensures.ok
