use Rattle.std.proofs.Common.{sym, ◌∙◌}
use Rattle.rdb_history.proofs.NoteLemmas.{falls_here, all_rise}
use Rattle.rdb_history.proofs.watches.never_fall.Goals as goal

pub returns-then-at-most : goal.returns-then-at-most
returns-then-at-most c =
    falls_here c.args.notes.now c.loop-note.most c.loop-note.note-index c.loop-note.invariant c.in-Some.at _ c.loop-note-test.true (sym c.looked_through.ensures ∙ c.in-Some.is) c.if-at-most.true

pub returns : goal.returns
returns c = all_rise c.args.notes.now c.loop-note.most c.loop-note.note-index c.loop-note.invariant c.loop-note-test.false
