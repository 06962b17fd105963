use Rattle.std.proofs.Common.{◌≡◌, ℕ, sym, ◌∙◌}
use Rattle.std.specs.Option.{option_copied}
use Rattle.rdb_base.specs.declared.operation.Op.{Op}
use Rattle.rdb_base.specs.declared.operation.Reply.{Reply}
use Rattle.rdb_history.specs.Rows.{done_in, objects_written}
use Rattle.rdb_history.specs.RowTouch.{rests_on_change}
use Rattle.rdb_history.proofs.ObjectLemmas.{any_written}
use Rattle.rdb_history.proofs.TouchingLemmas.{any_here, any_next, rests_is}
use Rattle.rdb_history.proofs.first_touch.touches.Goals as goal

pub loop-object-init : goal.loop-object-init
loop-object-init c =
    let es = c.args.journal.now.entries in
    let d : Op × Reply = (c.args.op.now, c.args.told.now) in
    any_written (rests_on_change c.args.schema.now es c.args.commit d) (done_in es c.args.commit)

pub returns-then-rests_on_change : goal.returns-then-rests_on_change
returns-then-rests_on_change c =
    let es = c.args.journal.now.entries in
    let d : Op × Reply = (c.args.op.now, c.args.told.now) in
    let object : ℕ × ℕ = (c.change.result.class, c.change.result.id) in
    let rests : c.rests_on_change.result ≡ rests_on_change c.args.schema.now es c.args.commit d object =
    rests_is c.args.schema.now es c.args.commit d object (option_copied c.change.result.before) (option_copied c.change.result.after) c.rests_on_change.result c.rests_on_change.ensures c.change.ensures.before c.change.ensures.after in
    sym (any_here (rests_on_change c.args.schema.now es c.args.commit d) (objects_written (done_in es c.args.commit)) c.loop-object.object object c.change.ensures.object (sym rests ∙ c.if-rests_on_change.true))
    ∙ c.loop-object.invariant

pub loop-object-preserved : goal.loop-object-preserved
loop-object-preserved c =
    let es = c.args.journal.now.entries in
    let d : Op × Reply = (c.args.op.now, c.args.told.now) in
    let object : ℕ × ℕ = (c.change.result.class, c.change.result.id) in
    let rests : c.rests_on_change.result ≡ rests_on_change c.args.schema.now es c.args.commit d object =
    rests_is c.args.schema.now es c.args.commit d object (option_copied c.change.result.before) (option_copied c.change.result.after) c.rests_on_change.result c.rests_on_change.ensures c.change.ensures.before c.change.ensures.after in
    any_next (rests_on_change c.args.schema.now es c.args.commit d) (objects_written (done_in es c.args.commit)) c.loop-object.object object c.change.ensures.object (sym rests ∙ c.if-rests_on_change.false)
    ∙ c.loop-object.invariant
