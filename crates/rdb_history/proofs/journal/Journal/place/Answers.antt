use Rattle.std.proofs.Common.{◌≡◌, ◌-◌, ap, subst, List, take}
use Rattle.rdb_base.specs.declared.journal.Entry.{Entry}
use Rattle.rdb_model.specs.Journal.{commits}
use Rattle.rdb_history.specs.Kept.{Kept}
use Rattle.rdb_history.proofs.KeptLemmas.{kept_of}
use Rattle.rdb_history.proofs.journal.Journal.place.Goals as goal

pub returns-clause-earlier : goal.returns-clause-earlier
returns-clause-earlier c =
    let j = c.self.inside in
    let kept = kept_of j.entries j.commits j.writes j.newest j.room j.write_room c.args.commit c.at.result.now c.self.invariant c.requires.first c.at.ensures in
    subst (λ (es : List Entry). commits (take c.at.result.now.entry es) ≡ c.args.commit - 1) (ap (λ (v : Kept). v.entries) c.self.view_is) kept.earlier
