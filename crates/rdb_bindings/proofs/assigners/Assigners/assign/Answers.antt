-- The tree's insertion is the map's.
use Rattle.std.proofs.Common.{◌∙◌}
use Rattle.std.specs.String.{string_bytes}
use Rattle.std.specs.FinMap.{insert}
use Rattle.rdb_base.proofs.FolderLemmas.{insert-named}
use Rattle.rdb_bindings.proofs.assigners.Assigners.assign.Goals as goal

pub returns-clause-ok : goal.returns-clause-ok
returns-clause-ok c =
    insert-named (string_bytes c.in_ok-key.key) c.self.inside.last c.insert.new.self c.args.number c.in_ok-insert.ensures.updates
    ∙ (λ i. insert (c.self.view_is i) (c.in_ok-key.ensures.ok i) c.args.number)
