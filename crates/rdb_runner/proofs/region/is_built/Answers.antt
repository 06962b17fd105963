use Rattle.std.proofs.Common.{◌==◌, length, ap, sym, ◌∙◌}
use Rattle.rdb_runner.proofs.CommandLemmas.{when_true, when_false, one_client_is_built, others_are_unbuilt}
use Rattle.rdb_runner.proofs.region.is_built.Goals as goal

pub returns-in-Replay-clause-yes : goal.returns-in-Replay-clause-yes
returns-in-Replay-clause-yes c =
    let line = c.in-Replay in
    let same = ap (λ xs. length xs == 1) (sym c.as_slice.ensures.value) ∙ sym c.is_single.ensures in
    rw line.is (when_true _ _ (λ one. one_client_is_built line.settings line.schema.now line.schedule.now line.clients.items (same ∙ one)))

pub returns-in-Replay-clause-no : goal.returns-in-Replay-clause-no
returns-in-Replay-clause-no c =
    let line = c.in-Replay in
    let same = ap (λ xs. length xs == 1) (sym c.as_slice.ensures.value) ∙ sym c.is_single.ensures in
    rw line.is (when_false _ _ (λ other. others_are_unbuilt line.settings line.schema.now line.schedule.now line.clients.items (same ∙ other)))
