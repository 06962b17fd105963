use Rattle.std.proofs.Common.{◌≡◌, ◌<◌, ◌+◌, false, length, sym, ◌∙◌, arith}
use Rattle.rdb_schema.specs.Rules.{is_field}
use Rattle.rdb_schema.proofs.Scan.{type_in-skips}
use Rattle.rdb_schema.proofs.rules.type_in.Goals as goal

pub loop-at-preserved : goal.loop-at-preserved
loop-at-preserved c =
    let within : c.loop-at.at + 1 < length c.args.parts.now = omega arith in
    let differs : is_field c.args.name.now c.index-parts-at.result ≡ false = sym c.is_field.ensures ∙ c.if-is_field.false in
    type_in-skips c.args.name.now c.args.parts.now c.loop-at.at c.index-parts-at.result within c.index-parts-at.is differs ∙ c.loop-at.invariant
