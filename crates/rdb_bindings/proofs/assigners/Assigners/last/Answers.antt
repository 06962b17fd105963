-- The tree answers as the map.
use Rattle.std.proofs.Common.{ap, sym, ◌∙◌}
use Rattle.std.specs.FinMap.{get}
use Rattle.rdb_base.proofs.FolderLemmas.{get-named}
use Rattle.rdb_bindings.proofs.assigners.Assigners.last.Goals as goal

pub returns : goal.returns
returns c =
    c.copied.ensures
    ∙ c.get.ensures.value
    ∙ sym (get-named c.self.inside.last c.args.name.now)
    ∙ ap (λ names. get names c.args.name.now) c.self.view_is
