use Rattle.std.proofs.Common.{◌≡◌, take, subst, arith}
use Rattle.std.proofs.lemmas.List.{take_all}
use Rattle.rdb_cells.specs.Keys.{says, ListsVersions}
use Rattle.rdb_cells.specs.Memory.{memory_image}
use Rattle.rdb_trials.specs.KeyTable.{table_meaning}
use Rattle.rdb_trials.proofs.FillLemmas.{below_none, below_next}
use Rattle.rdb_trials.proofs.filling.checked.Goals as goal

pub loop-place-init : goal.loop-place-init
loop-place-init g c = below_none (says (table_meaning c.args.keys.now.rows) (memory_image c.args.cells.now))

pub loop-place-preserved : goal.loop-place-preserved
loop-place-preserved g c =
    let said = says (table_meaning c.args.keys.now.rows) (memory_image c.args.cells.now) in
    below_next said c.checked_version-bound.result c.args.versions.now c.loop-place.place c.version_at-version.result c.version_at-version.ensures
    (c.checked_version-bound.ensures (take c.loop-place.place c.args.versions.now) c.loop-place.invariant)

pub returns : goal.returns
returns g c =
    let said = says (table_meaning c.args.keys.now.rows) (memory_image c.args.cells.now) in
    let end = c.loop-place-test.false in
    let whole : take c.loop-place.place c.args.versions.now ≡ c.args.versions.now = take_all c.loop-place.place c.args.versions.now (omega arith) in
    subst (ListsVersions said) whole c.loop-place.invariant.lists
