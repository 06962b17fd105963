use Rattle.std.proofs.Common.{◌≡◌, ◌≢◌, ◌++◌, ◌∷◌, [], true, false, arith, rules}
use Rattle.std.proofs.lemmas.Grind.{common_steps}
use Rattle.rdb_hash.specs.Lookup.{has_key}
use Rattle.rdb_hash.proofs.GatherLemmas.{gathered_first, gathered_there, gathered_at_none, gathered_at_end, gathered_with, gathered_without, hashed_here}
use Rattle.rdb_hash.proofs.chain.gather.Goals as goal
use Rattle.rdb_hash.proofs.chain.gather.Goals.{then-has_the_key+in_ok-push, else-has_the_key}

pub loop-init : goal.loop-init
loop-init g c = gathered_first (g.K.Keys.meaning c.args.keys.now) (g.C.Cells.image c.args.cells.now) c.args.key.now c.args.first.number c.args.found.now.items c.requires.bucket

pub returns-then-eq : goal.returns-then-eq
returns-then-eq g c =
    let none : c.loop.at.number ≡ 0 = search rules in
    gathered_at_none (g.K.Keys.meaning c.args.keys.now) (g.C.Cells.image c.args.cells.now) c.args.key.now c.args.first.number c.args.found.now.items c.loop.found.items c.loop.counter c.loop.at.number c.loop.invariant none

pub read-requires : goal.read-requires
read-requires g c =
    let some : c.loop.at.number ≢ 0 = search rules in
    gathered_there (g.K.Keys.meaning c.args.keys.now) (g.C.Cells.image c.args.cells.now) c.args.key.now c.args.first.number c.args.found.now.items c.loop.found.items c.loop.counter c.loop.at.number c.loop.invariant some

pub has_the_key-requires-clause-entry : goal.has_the_key-requires-clause-entry
has_the_key-requires-clause-entry g c =
    let some : c.loop.at.number ≢ 0 = search rules in
    rw c.of_cell-entry.ensures.value
    (hashed_here (g.K.Keys.meaning c.args.keys.now) (g.C.Cells.image c.args.cells.now) c.args.key.now c.args.first.number c.args.found.now.items c.loop.found.items c.loop.counter c.loop.at.number c.loop.invariant some c.read.result.now c.read.ensures)

pub returns : goal.returns
returns g c =
    let most = c.loop.auto.counter-end in
    let least = c.loop-test.false in
    gathered_at_end (g.K.Keys.meaning c.args.keys.now) (g.C.Cells.image c.args.cells.now) c.args.key.now c.args.first.number c.args.found.now.items c.loop.found.items c.loop.counter c.loop.at.number c.loop.invariant (omega arith)

pub loop-preserved : goal.loop-preserved
loop-preserved g c =
    let some : c.loop.at.number ≢ 0 = search rules in
    elim c.if-has_the_key.branch [
      | then-has_the_key+in_ok-push w ↦
          let now : c.if-has_the_key.found.items ≡ c.loop.found.items ++ c.of_cell-entry.result.version ∷ [] = grind (arith, common_steps) in
          let passes : has_key (g.K.Keys.meaning c.args.keys.now) (g.C.Cells.image c.args.cells.now) c.args.key.now c.of_cell-entry.result.version ≡ true = search rules in
          gathered_with (g.K.Keys.meaning c.args.keys.now) (g.C.Cells.image c.args.cells.now) c.args.key.now c.args.first.number c.args.found.now.items c.loop.found.items c.loop.counter c.loop.at.number c.loop.invariant some c.read.result.now c.read.ensures c.of_cell-entry.result c.of_cell-entry.ensures.value c.if-has_the_key.found.items now passes
      | else-has_the_key w ↦
          let now : c.if-has_the_key.found.items ≡ c.loop.found.items = search rules in
          let fails : has_key (g.K.Keys.meaning c.args.keys.now) (g.C.Cells.image c.args.cells.now) c.args.key.now c.of_cell-entry.result.version ≡ false = search rules in
          gathered_without (g.K.Keys.meaning c.args.keys.now) (g.C.Cells.image c.args.cells.now) c.args.key.now c.args.first.number c.args.found.now.items c.loop.found.items c.loop.counter c.loop.at.number c.loop.invariant some c.read.result.now c.read.ensures c.of_cell-entry.result c.of_cell-entry.ensures.value c.if-has_the_key.found.items now fails
    ]
