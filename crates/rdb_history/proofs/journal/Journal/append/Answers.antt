use Rattle.std.proofs.Common.{◌≡◌, ◌≤◌, ◌-◌, ◌++◌, ◌∷◌, [], ap, sym, subst, ◌∙◌, arith, length, filter_map}
use Rattle.rdb_base.specs.Room.{Reserved}
use Rattle.rdb_base.specs.declared.journal.Entry.{Entry}
use Rattle.rdb_base.specs.declared.journal.Entry.TheVariants as entry
use Rattle.rdb_model.specs.Journal.{done_of}
use Rattle.rdb_model.specs.Touch.{written_by}
use Rattle.rdb_history.specs.Rows.{objects_written}
use Rattle.rdb_history.specs.Kept.{Kept}
use Rattle.rdb_history.proofs.ObjectLemmas.{objects_at_most}
use Rattle.rdb_history.proofs.KeptLemmas.{kept_after, kept_beside, entry_at, no_commit}
use Rattle.rdb_history.proofs.journal.Journal.append.Goals as goal

pub overflow_sub-self-in-Commit : goal.overflow_sub-self-in-Commit
overflow_sub-self-in-Commit c =
    let j = c.self.inside in
    let story = c.in-Commit.story in
    let is : c.args.entry ≡ entry.Commit story c.in-Commit.commit =
    entry_at j.entries.items c.append.new.self.items c.len-place.result c.args.entry c.at.result.now (ap (λ (r : Reserved Entry). r.items) c.append.ensures) c.len-place.ensures.value c.at.ensures ∙ c.in-Commit.is in
    let room : j.room ≡ c.args.self.now.room = ap (λ (v : Kept). v.room) c.self.view_is in
    let write_room : j.write_room ≡ c.args.self.now.write_room = ap (λ (v : Kept). v.write_room) c.self.view_is in
    let enough : length (filter_map written_by story.done) ≤ c.args.self.now.write_room = subst (λ (e : Entry). length (filter_map written_by (done_of e)) ≤ c.args.self.now.write_room) is c.requires.write_room in
    let count : c.len.result - c.len-first.result ≡ length (objects_written story.done) = (kept_after j.entries.items story c.in-Commit.commit j.entries.room j.room c.len-place.result c.index_writes-classes.result c.len-first.result (c.len.result - c.len-first.result) j.commits j.writes c.index_writes-classes.new.writes j.newest c.index_writes-classes.new.newest j.write_room
    c.self.invariant c.len-place.ensures.value c.len-first.ensures.value (omega arith) (omega arith) (omega arith)
    c.index_writes-classes.ensures.classes c.index_writes-classes.ensures.indexed c.index_writes-classes.ensures.kept c.index_writes-classes.ensures.room c.index_writes-classes.ensures.table_room).0 in
    let few = objects_at_most story.done in
    omega arith

pub invariant_of-self : goal.invariant_of-self
invariant_of-self c =
    let j = c.self.inside in
    let story = c.in-Commit.story in
    let is : c.args.entry ≡ entry.Commit story c.in-Commit.commit =
    entry_at j.entries.items c.append.new.self.items c.len-place.result c.args.entry c.at.result.now (ap (λ (r : Reserved Entry). r.items) c.append.ensures) c.len-place.ensures.value c.at.ensures ∙ c.in-Commit.is in
    let room : j.room ≡ c.args.self.now.room = ap (λ (v : Kept). v.room) c.self.view_is in
    let write_room : j.write_room ≡ c.args.self.now.write_room = ap (λ (v : Kept). v.write_room) c.self.view_is in
    let enough : length (filter_map written_by story.done) ≤ c.args.self.now.write_room = subst (λ (e : Entry). length (filter_map written_by (done_of e)) ≤ c.args.self.now.write_room) is c.requires.write_room in
    let entries_are : c.append.new.self ≡ record { items = j.entries.items ++ entry.Commit story c.in-Commit.commit ∷ []; room = j.entries.room - 1 } =
    c.append.ensures ∙ ap (λ (e : Entry). record { items = j.entries.items ++ e ∷ []; room = j.entries.room - 1 }) is in
    rw (entries_are, c.append-in-Commit.ensures)
    (kept_after j.entries.items story c.in-Commit.commit j.entries.room j.room c.len-place.result c.index_writes-classes.result c.len-first.result (c.len.result - c.len-first.result) j.commits j.writes c.index_writes-classes.new.writes j.newest c.index_writes-classes.new.newest j.write_room
    c.self.invariant c.len-place.ensures.value c.len-first.ensures.value (omega arith) (omega arith) (omega arith)
    c.index_writes-classes.ensures.classes c.index_writes-classes.ensures.indexed c.index_writes-classes.ensures.kept c.index_writes-classes.ensures.room c.index_writes-classes.ensures.table_room).1

pub invariant_of-self-in_default : goal.invariant_of-self-in_default
invariant_of-self-in_default c =
    let j = c.self.inside in
    let last : c.args.entry ≡ c.at.result.now = entry_at j.entries.items c.append.new.self.items c.len-place.result c.args.entry c.at.result.now (ap (λ (r : Reserved Entry). r.items) c.append.ensures) c.len-place.ensures.value c.at.ensures in
    rw c.append.ensures (kept_beside j.entries.items c.args.entry j.entries.room j.room j.commits j.writes j.newest j.write_room (no_commit c.args.entry (λ story number e. c.in_default.not-Commit story number (sym last ∙ e))).0 c.self.invariant)

pub returns-in-Commit-clause-write_room : goal.returns-in-Commit-clause-write_room
returns-in-Commit-clause-write_room c =
    let j = c.self.inside in
    let story = c.in-Commit.story in
    let is : c.args.entry ≡ entry.Commit story c.in-Commit.commit =
    entry_at j.entries.items c.append.new.self.items c.len-place.result c.args.entry c.at.result.now (ap (λ (r : Reserved Entry). r.items) c.append.ensures) c.len-place.ensures.value c.at.ensures ∙ c.in-Commit.is in
    let room : j.room ≡ c.args.self.now.room = ap (λ (v : Kept). v.room) c.self.view_is in
    let write_room : j.write_room ≡ c.args.self.now.write_room = ap (λ (v : Kept). v.write_room) c.self.view_is in
    let enough : length (filter_map written_by story.done) ≤ c.args.self.now.write_room = subst (λ (e : Entry). length (filter_map written_by (done_of e)) ≤ c.args.self.now.write_room) is c.requires.write_room in
    let count : c.len.result - c.len-first.result ≡ length (objects_written story.done) = (kept_after j.entries.items story c.in-Commit.commit j.entries.room j.room c.len-place.result c.index_writes-classes.result c.len-first.result (c.len.result - c.len-first.result) j.commits j.writes c.index_writes-classes.new.writes j.newest c.index_writes-classes.new.newest j.write_room
    c.self.invariant c.len-place.ensures.value c.len-first.ensures.value (omega arith) (omega arith) (omega arith)
    c.index_writes-classes.ensures.classes c.index_writes-classes.ensures.indexed c.index_writes-classes.ensures.kept c.index_writes-classes.ensures.room c.index_writes-classes.ensures.table_room).0 in
    let same : length (objects_written (done_of c.args.entry)) ≡ length (objects_written story.done) = ap (λ e. length (objects_written (done_of e))) is in
    omega arith

pub returns-in_default-clause-write_room : goal.returns-in_default-clause-write_room
returns-in_default-clause-write_room c =
    let j = c.self.inside in
    let last : c.args.entry ≡ c.at.result.now = entry_at j.entries.items c.append.new.self.items c.len-place.result c.args.entry c.at.result.now (ap (λ (r : Reserved Entry). r.items) c.append.ensures) c.len-place.ensures.value c.at.ensures in
    let write_room : j.write_room ≡ c.args.self.now.write_room = ap (λ (v : Kept). v.write_room) c.self.view_is in
    let none : length (objects_written (done_of c.args.entry)) ≡ 0 = ap (λ done. length (objects_written done)) (no_commit c.args.entry (λ story number e. c.in_default.not-Commit story number (sym last ∙ e))).1 in
    omega arith

pub returns-in-Commit-clause-left : goal.returns-in-Commit-clause-left
returns-in-Commit-clause-left c =
    let j = c.self.inside in
    let story = c.in-Commit.story in
    let is : c.args.entry ≡ entry.Commit story c.in-Commit.commit =
    entry_at j.entries.items c.append.new.self.items c.len-place.result c.args.entry c.at.result.now (ap (λ (r : Reserved Entry). r.items) c.append.ensures) c.len-place.ensures.value c.at.ensures ∙ c.in-Commit.is in
    let room : j.room ≡ c.args.self.now.room = ap (λ (v : Kept). v.room) c.self.view_is in
    let write_room : j.write_room ≡ c.args.self.now.write_room = ap (λ (v : Kept). v.write_room) c.self.view_is in
    let enough : length (filter_map written_by story.done) ≤ c.args.self.now.write_room = subst (λ (e : Entry). length (filter_map written_by (done_of e)) ≤ c.args.self.now.write_room) is c.requires.write_room in
    let count : c.len.result - c.len-first.result ≡ length (objects_written story.done) = (kept_after j.entries.items story c.in-Commit.commit j.entries.room j.room c.len-place.result c.index_writes-classes.result c.len-first.result (c.len.result - c.len-first.result) j.commits j.writes c.index_writes-classes.new.writes j.newest c.index_writes-classes.new.newest j.write_room
    c.self.invariant c.len-place.ensures.value c.len-first.ensures.value (omega arith) (omega arith) (omega arith)
    c.index_writes-classes.ensures.classes c.index_writes-classes.ensures.indexed c.index_writes-classes.ensures.kept c.index_writes-classes.ensures.room c.index_writes-classes.ensures.table_room).0 in
    let few = objects_at_most story.done in
    let same : length (filter_map written_by (done_of c.args.entry)) ≡ length (filter_map written_by story.done) = ap (λ e. length (filter_map written_by (done_of e))) is in
    omega arith
