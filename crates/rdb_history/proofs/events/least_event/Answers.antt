use Rattle.std.proofs.Common.{◌≡◌, ℕ, ◌∙◌, arith}
use Rattle.std.specs.Option.{option_copied}
use Rattle.rdb_history.specs.Rows.{done_in, objects_written}
use Rattle.rdb_history.proofs.EventLemmas.{is_event, event_found, least_next, least_same, some_found, none_found}
use Rattle.rdb_history.proofs.events.least_event.Goals.{then-is_event, else-is_event}
use Rattle.rdb_history.proofs.events.least_event.Goals as goal

pub loop-object-preserved : goal.loop-object-preserved
loop-object-preserved c =
    let es = c.args.journal.now.entries in
    let place : ℕ × ℕ = (c.args.place.commit, c.args.place.id) in
    let own : ℕ × ℕ = (c.change-change.result.class, c.change-change.result.id) in
    let found : is_event c.args.class c.args.kind es place c.args.commit own ≡ c.is_event.result =
    event_found c.args.class c.args.kind es place c.args.commit own (option_copied c.change-change.result.before) (option_copied c.change-change.result.after) c.is_event.result c.is_event.ensures c.change-change.ensures.before c.change-change.ensures.after in
    elim c.if-is_event.branch [
      | then-is_event w ↦
          rw (w.least-is, w.least_of.ensures)
          (least_next c.args.class c.args.kind es place c.args.commit (objects_written (done_in es c.args.commit)) c.loop-object.object own c.loop-object.least c.change-change.ensures.object (found ∙ w.if-is_event.true) c.loop-object.invariant)
      | else-is_event w ↦
          rw w.least-is
          (least_same c.args.class c.args.kind es place c.args.commit (objects_written (done_in es c.args.commit)) c.loop-object.object own c.loop-object.least c.change-change.ensures.object (found ∙ w.if-is_event.false) c.loop-object.invariant)
    ]

pub returns-clause-some : goal.returns-clause-some
returns-clause-some c =
    let all = c.written-object-end.ensures in
    let past = c.loop-object-test.false in
    some_found c.args.class c.args.kind c.args.journal.now.entries (c.args.place.commit, c.args.place.id) c.args.commit c.requires.first c.requires.there c.loop-object.object (omega arith) c.loop-object.least c.loop-object.invariant

pub returns-clause-none : goal.returns-clause-none
returns-clause-none c =
    let all = c.written-object-end.ensures in
    let past = c.loop-object-test.false in
    none_found c.args.class c.args.kind c.args.journal.now.entries (c.args.place.commit, c.args.place.id) c.args.commit c.requires.first c.requires.there c.loop-object.object (omega arith) c.loop-object.least c.loop-object.invariant
