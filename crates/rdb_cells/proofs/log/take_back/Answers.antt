use Rattle.std.proofs.Common.{sym, subst, ap, List}
use Rattle.rdb_cells.specs.declared.pairs.Pair.{Pair}
use Rattle.rdb_cells.specs.Records.{Record, KeepsSettled}
use Rattle.rdb_cells.proofs.SettledLemmas.{back_keeps}
use Rattle.rdb_cells.proofs.log.take_back.Goals as goal

pub returns-clause-back : goal.returns-clause-back
returns-clause-back g c = record {
  newest = c.pop-pair.result;
  shorter = c.pop-pair.ensures;
  written = c.write.ensures.written;
  settled =
      subst (λ (ps : List Pair). KeepsSettled ps c.pop-pair.new.self.pairs (g.C.Cells.image c.args.cells.now) (g.C.Cells.image c.write.new.self) c.pop-pair.result.at.number)
      (sym (ap (λ (r : Record). r.pairs) c.pop-pair.ensures))
      (back_keeps c.pop-pair.new.self.pairs c.pop-pair.result (g.C.Cells.image c.args.cells.now) (g.C.Cells.image c.write.new.self) c.write.ensures.written);
}
