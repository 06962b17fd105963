use Rattle.std.proofs.Common.{ap, ◌∙◌}
use Rattle.rdb_cells.specs.Records.{Record, names}
use Rattle.rdb_cells.proofs.PairLemmas.{is_named}
use Rattle.rdb_cells.proofs.pairs.Pairs.has.Goals as goal

pub returns : goal.returns
returns c =
    c.is_some.ensures
    ∙ is_named c.find.result c.self.inside.pairs.items c.self.inside.places.numbers c.args.at.number c.self.invariant.0 c.find.ensures.found c.find.ensures.none
    ∙ ap (λ (r : Record). names r.pairs c.args.at.number) c.self.view_is
