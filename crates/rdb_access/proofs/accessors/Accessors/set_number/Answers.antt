use Rattle.std.proofs.Common.{◌≡◌, ap, ◌∙◌}
use Rattle.std.proofs.lemmas.Int.{to_z-of_z}
use mir.Syntax.{w128}
use mir.Val.{to_z, of_z}
use Rattle.rdb_access.specs.Walk.{with_number}
use Rattle.rdb_access.proofs.Writing.{encodes_written}
use Rattle.rdb_access.proofs.accessors.Accessors.set_number.Goals as goal

pub returns : goal.returns
returns c row e =
    let same : to_z w128 (of_z w128 c.args.value) ≡ c.args.value = to_z-of_z w128 c.args.value c.ranges.value in
    encodes_written c.args.self.now row c.args.field c.args.value c.args.bytes.now c.set_number_in.new.bytes c.requires e
    (c.set_number_in.ensures ∙ ap (λ n. with_number c.self.inside.types c.args.field n c.args.bytes.now) same ∙ ap (λ t. with_number t c.args.field c.args.value c.args.bytes.now) c.self.view_is)
