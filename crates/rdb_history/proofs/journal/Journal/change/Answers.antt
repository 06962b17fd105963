use Rattle.std.proofs.Common.{ℕ, ap}
use Rattle.std.specs.Option.{option_copied}
use Rattle.rdb_history.specs.Kept.{Kept}
use Rattle.rdb_history.proofs.KeptLemmas.{kept_of, write_there, leads_there, change_is}
use Rattle.rdb_history.proofs.journal.Journal.change.Goals as goal

pub write_from-write-requires : goal.write_from-write-requires
write_from-write-requires c =
    let j = c.self.inside in
    let kept = kept_of j.entries j.commits j.writes j.newest j.room j.write_room c.args.commit c.at-kept.result.now c.self.invariant c.requires.first c.at-kept.ensures in
    write_there j.entries.items c.args.self.now.entries j.writes.items c.args.commit c.args.object c.at-kept.result.now kept (ap (λ (v : Kept). v.entries) c.self.view_is) c.requires.written

pub change_of-requires : goal.change_of-requires
change_of-requires c =
    let j = c.self.inside in
    let kept = kept_of j.entries j.commits j.writes j.newest j.room j.write_room c.args.commit c.at-kept.result.now c.self.invariant c.requires.first c.at-kept.ensures in
    leads_there j.entries.items c.args.self.now.entries c.as_slice.result.now j.writes.items c.args.commit c.args.object c.at-kept.result.now c.write_from-write.result.now kept
    (ap (λ (v : Kept). v.entries) c.self.view_is) c.as_slice.ensures c.requires.written c.write_from-write.ensures

pub returns : goal.returns
returns c =
    let j = c.self.inside in
    let object : ℕ × ℕ = (c.change_of.result.class, c.change_of.result.id) in
    let kept = kept_of j.entries j.commits j.writes j.newest j.room j.write_room c.args.commit c.at-kept.result.now c.self.invariant c.requires.first c.at-kept.ensures in
    let is = change_is j.entries.items c.args.self.now.entries c.as_slice.result.now j.writes.items c.args.commit c.args.object c.at-kept.result.now c.write_from-write.result.now object
    (option_copied c.change_of.result.before) (option_copied c.change_of.result.after) kept (ap (λ (v : Kept). v.entries) c.self.view_is) c.as_slice.ensures c.requires.written c.write_from-write.ensures
    c.change_of.ensures.object c.change_of.ensures.before c.change_of.ensures.after in
    record { object = is.0; before = is.1; after = is.2 }
