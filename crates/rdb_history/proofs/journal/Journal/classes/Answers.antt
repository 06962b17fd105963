use Rattle.std.proofs.Common.{ap, subst, List}
use Rattle.rdb_base.specs.declared.journal.Entry.{Entry}
use Rattle.rdb_history.specs.Rows.{done_in}
use Rattle.rdb_history.specs.Kept.{Kept, HasClasses}
use Rattle.rdb_history.proofs.KeptLemmas.{kept_of}
use Rattle.rdb_history.proofs.journal.Journal.classes.Goals as goal

pub returns : goal.returns
returns c =
    let j = c.self.inside in
    let kept = kept_of j.entries j.commits j.writes j.newest j.room j.write_room c.args.commit c.at.result.now c.self.invariant c.requires.first c.at.ensures in
    subst (λ (es : List Entry). HasClasses c.at.result.now.classes (done_in es c.args.commit)) (ap (λ (v : Kept). v.entries) c.self.view_is) kept.classes
