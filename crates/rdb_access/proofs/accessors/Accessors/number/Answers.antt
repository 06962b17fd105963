use Rattle.std.proofs.Common.{ap, ◌∙◌, rules}
use Rattle.std.proofs.lemmas.Int.{to_z-of_z}
use mir.Syntax.{w128}
use mir.Val.{SFits}
use Rattle.rdb_access.specs.Walk.{number_in}
use Rattle.rdb_access.proofs.Reading.{number_field}
use Rattle.rdb_access.proofs.accessors.Accessors.number.Goals as goal

pub returns : goal.returns
returns c row number fits is there =
    let fits128 : SFits w128 c.number_in.result = search rules in
    to_z-of_z w128 c.number_in.result fits128 ∙ c.number_in.ensures ∙ ap (λ types. number_in types c.args.field c.args.bytes.now) c.self.view_is
    ∙ ap (number_in c.args.self.now c.args.field) is ∙ number_field c.args.self.now row c.args.field number fits there
