use Rattle.std.proofs.Common.{◌∙◌, sym, ap}
use Rattle.std.specs.Option.{option_copied}
use Rattle.rdb_cells.proofs.PairLemmas.{named_when_content}
use Rattle.rdb_cells.proofs.overlay.Overlay.planned.Goals as goal

pub returns-in-Some-clause-below : goal.returns-in-Some-clause-below
returns-in-Some-clause-below g c =
    rw (← c.self.view_is)
    (c.self.invariant c.args.at.number (named_when_content c.self.inside.plan.pairs c.args.at.number c.in-Some.cell.now (sym c.get.ensures ∙ ap option_copied c.in-Some.is)))
