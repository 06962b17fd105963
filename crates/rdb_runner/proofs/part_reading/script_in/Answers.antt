use Rattle.std.proofs.Common.{subst, Err, IfErr}
use Rattle.rdb_script.specs.Scripts.{IsScriptFault, IsScriptRead}
use Rattle.rdb_runner.proofs.part_reading.script_in.Goals as goal

pub returns-in-Err-Line-clause-refused : goal.returns-in-Err-Line-clause-refused
returns-in-Err-Line-clause-refused c =
    let schema = c.args.schema.now in
    let text = c.args.text.now in
    let was = c.in-Err-Line in
    record {
      first = subst (IsScriptFault schema text) was.field-0-is (subst (λ r. IfErr r (IsScriptFault schema text)) was.is c.script.ensures.fault);
      none = λ script h. subst (λ e. IsScriptRead (Err e) script) was.field-0-is (subst (λ r. IsScriptRead r script) was.is (c.script.ensures.only script h));
    }
