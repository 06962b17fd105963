use Rattle.std.proofs.Common.{ap, ◌∙◌}
use Rattle.rdb_access.specs.Walk.{items_in}
use Rattle.rdb_access.proofs.Reading.{items_field}
use Rattle.rdb_access.proofs.accessors.Accessors.items.Goals as goal

pub returns : goal.returns
returns c row of elements fits is typed there =
    c.items_in.ensures ∙ ap (λ types. items_in types c.args.field c.args.bytes.now) c.self.view_is ∙ ap (items_in c.args.self.now c.args.field) is
    ∙ items_field c.args.self.now row c.args.field of elements fits typed there
