use Rattle.std.proofs.Common.{◌≡◌, ◌-◌, ◌∙◌, ap, sym, length, take, drop, slice_get, Some}
use Rattle.std.proofs.lemmas.Option.{slice_get-get_or}
use Rattle.std.proofs.lemmas.Int.{to_z-of_z}
use mir.Syntax.{w128}
use mir.Val.{to_z, of_z}
use Rattle.rdb_access.specs.Walk.{overwritten_by}
use Rattle.rdb_access.proofs.Writing.{written_from}
use Rattle.rdb_access.proofs.write.set_number_in.Goals as goal

pub returns : goal.returns
returns c =
    let xs = c.args.bytes.now in
    let start = c.saturating_sub-start.result in
    let same : to_z w128 (of_z w128 c.args.value) ≡ c.args.value = to_z-of_z w128 c.args.value c.ranges.value in
    let lookup = c.in-Some.ensures.lookup in
    let found : slice_get c.args.types.now c.args.field ≡ Some c.in-Some.ty.now =
    ap (λ types. slice_get types c.args.field) (sym c.as_slice.ensures) ∙ slice_get-get_or c.as_slice.result.now c.args.field c.in-Some.ty.now lookup.3.0 ∙ ap Some (sym lookup.1) in
    written_from c.args.types.now c.args.field c.args.value c.in-Some.ty.now xs c.overwrite_value.new.bytes start found
    (c.saturating_sub-start.ensures ∙ ap (λ ys. length xs - length ys) c.from_field-left.ensures)
    (c.overwrite_value.ensures ∙ ap (λ n. overwritten_by c.in-Some.ty.now n (take (length xs - start) (drop start xs))) same)
