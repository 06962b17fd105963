use Rattle.std.proofs.Common.{ap, ◌∙◌, length}
use Rattle.rdb_history.specs.Rows.{done_in, objects_written}
use Rattle.rdb_history.specs.Kept.{Kept}
use Rattle.rdb_history.proofs.KeptLemmas.{kept_of}
use Rattle.rdb_history.proofs.journal.Journal.written.Goals as goal

pub returns : goal.returns
returns c =
    let j = c.self.inside in
    let kept = kept_of j.entries j.commits j.writes j.newest j.room j.write_room c.args.commit c.at.result.now c.self.invariant c.requires.first c.at.ensures in
    kept.count ∙ ap (λ (v : Kept). length (objects_written (done_in v.entries c.args.commit))) c.self.view_is
