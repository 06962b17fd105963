use Rattle.std.proofs.Common.{Bor, sym, ap, ◌∙◌}
use Rattle.rdb_cells.specs.Memory.{Memory, memory_image}
use Rattle.rdb_cells.specs.Records.{planned}
use Rattle.rdb_objects.proofs.WriteLemmas.{same_holds}
use Rattle.rdb_objects.proofs.many_tests.remove_object.Goals as goal

pub returns-clause-holds : goal.returns-clause-holds
returns-clause-holds g c =
    let made = c.remove.new.cells in
    let below = c.remove.ensures.below ∙ c.lay_over-overlay.ensures.under in
    same_holds (planned made.plan.pairs (memory_image made.cells.now)) (memory_image c.write_out.new.cells)
    (λ n. c.write_out.ensures.reading n
    ∙ ap (λ (b : Bor Memory). planned c.plan-plan.result.pairs (memory_image b.now) n) (sym below)
    ∙ c.plan-plan.ensures.reading n)
    c.remove.ensures.holds
