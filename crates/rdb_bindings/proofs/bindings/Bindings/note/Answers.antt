-- What is kept of the line is what the reply gives.
use Rattle.std.proofs.Common.{refl, ap, slice_set, ◌∙◌}
use Rattle.rdb_bindings.proofs.KeepingLemmas.{keeps_noted}
use Rattle.rdb_bindings.proofs.bindings.Bindings.note.Goals as goal

pub returns-clause-ok : goal.returns-clause-ok
returns-clause-ok c = λ answered keeps.
    keeps_noted answered c.args.number c.args.reply.now c.args.self.now _ refl
    (c.set.ensures ∙ ap (slice_set c.args.self.now.referents c.args.number) c.in_ok-referent.ensures) keeps
