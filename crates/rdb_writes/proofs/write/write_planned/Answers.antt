use Rattle.std.proofs.Common.{◌+◌, ◌≤◌, length, refl, sym, ap, subst, ◌∙◌}
use Rattle.rdb_cells.specs.Places.{AreDifferent}
use Rattle.rdb_cells.specs.Records.{Record, numbers_of, planned}
use Rattle.rdb_cells.proofs.PairLemmas.{written_next}
use Rattle.rdb_writes.proofs.PlanLemmas.{lacking, places_left, place_for_next}
use Rattle.rdb_writes.proofs.write.write_planned.Goals as goal

pub log_write-requires-clause-room : goal.log_write-requires-clause-room
log_write-requires-clause-room g c =
    let was = c.pop-pair.ensures in
    let enough = subst (λ (r : Record). length c.args.hand.now.undo.pairs + lacking c.args.hand.now.undo.pairs r.pairs ≤ c.args.hand.now.undo.room) was c.requires.places in
    place_for_next c.args.hand.now.undo c.pop-pair.new.self.pairs c.pop-pair.result enough

pub returns-clause-written : goal.returns-clause-written
returns-clause-written g c =
    let was = c.pop-pair.ensures in
    let rest = c.pop-pair.new.self.pairs in
    let next = c.pop-pair.result in
    let undo = c.args.hand.now.undo in
    let once = subst (λ (r : Record). AreDifferent (numbers_of r.pairs)) was c.each_once.ensures.once in
    let enough = subst (λ (r : Record). length undo.pairs + lacking undo.pairs r.pairs ≤ undo.room) was c.requires.places in (
      next,
      record {
        plan = was;
        rest = refl;
        written = c.log_write.ensures.written;
        logged = c.log_write.ensures.logged;
        settled = c.log_write.ensures.settled;
        aimed = λ n.
            written_next rest next (g.C.Cells.image c.args.cells.now) (g.C.Cells.image c.log_write.new.cells) once c.log_write.ensures.written n
            ∙ sym (ap (λ (r : Record). planned r.pairs (g.C.Cells.image c.args.cells.now) n) was);
        places = places_left undo c.log_write.new.undo (g.C.Cells.image c.args.cells.now) rest next c.log_write.ensures.logged once enough;
      },
    )
