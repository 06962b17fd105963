use Rattle.std.proofs.Common.{◌≡◌, ap, ◌∙◌, sym, subst}
use Rattle.std.specs.Str.{IsUtf8}
use Rattle.rdb_access.specs.Walk.{text_in}
use Rattle.rdb_access.proofs.Reading.{text_field}
use Rattle.rdb_access.proofs.accessors.Accessors.text.Goals as goal

pub returns : goal.returns
returns c row words fits is there utf8 =
    let same : c.text_in.result.now ≡ words =
    c.text_in.ensures ∙ ap (λ types. text_in types c.args.field c.args.bytes.now) c.self.view_is ∙ ap (text_in c.args.self.now c.args.field) is
    ∙ text_field c.args.self.now row c.args.field words fits there in
    c.as_text.ensures (subst IsUtf8 (sym same) utf8) ∙ same
