use Rattle.std.proofs.Common.{◌∷◌, [], List, length, length-append, refl, sym, ap, subst, ◌∙◌, arith}
use Rattle.rdb_cells.specs.declared.pairs.Pair.{Pair}
use Rattle.rdb_cells.specs.Overlays.{AreCells}
use Rattle.rdb_cells.specs.Records.{Record, planned, numbers_of}
use Rattle.rdb_cells.specs.Places.{AreDifferent}
use Rattle.rdb_trials.proofs.Writing.{last_named, cells_left, none_planned}
use Rattle.rdb_trials.proofs.write.write_out.Goals as goal

pub loop-plan-init : goal.loop-plan-init
loop-plan-init g c = (c.requires.cells, λ n. refl, refl, λ n. refl)

pub write-requires : goal.write-requires
write-requires g c =
    let split = ap (λ (r : Record). r.pairs) c.pop-pair.ensures in
    c.loop-plan.invariant.0 c.pop-pair.result.at.number (rw split (last_named c.pop-pair.new.self.pairs c.pop-pair.result))

pub loop-plan-smaller : goal.loop-plan-smaller
loop-plan-smaller g c =
    let longer = ap (λ (r : Record). length r.pairs) c.pop-pair.ensures ∙ length-append c.pop-pair.new.self.pairs (c.pop-pair.result ∷ []) in
    omega arith

pub loop-plan-preserved : goal.loop-plan-preserved
loop-plan-preserved g c =
    let split = ap (λ (r : Record). r.pairs) c.pop-pair.ensures in
    let once = subst (λ (ps : List Pair). AreDifferent (numbers_of ps)) split c.each_once.ensures.once in
    let cells = subst (λ (ps : List Pair). AreCells (g.C.Cells.image c.loop-plan.cells) ps) split c.loop-plan.invariant.0 in (
      cells_left c.pop-pair.new.self.pairs c.pop-pair.result (g.C.Cells.image c.loop-plan.cells) (g.C.Cells.image c.write.new.self) cells c.write.ensures.written,
      λ n. c.written_plan_reads_the_same.ensures c.pop-pair.new.self.pairs c.pop-pair.result (g.C.Cells.image c.loop-plan.cells) (g.C.Cells.image c.write.new.self) once c.write.ensures.written n
          ∙ ap (λ (ps : List Pair). planned ps (g.C.Cells.image c.loop-plan.cells) n) (sym split)
          ∙ c.loop-plan.invariant.1 n,
      sym (ap (λ (r : Record). r.room) c.pop-pair.ensures) ∙ c.loop-plan.invariant.2,
      λ n. c.write.ensures.classes n ∙ c.loop-plan.invariant.3 n,
    )

pub returns-clause-reading : goal.returns-clause-reading
returns-clause-reading g c n =
    let many = c.len.ensures in
    let end = c.loop-plan-test.false in
    none_planned c.loop-plan.plan.pairs (omega arith) (g.C.Cells.image c.loop-plan.cells) n ∙ c.loop-plan.invariant.1 n
