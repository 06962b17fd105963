-- Each arm writes what the escapes make of the character.
use Rattle.std.proofs.Common.{rules, ◌≢◌, false, arith}
use Rattle.std.proofs.lemmas.Fmt.{hex_byte}
use Rattle.rdb_literals.proofs.Escapes.{escaped_quote, escaped_backslash, escaped_control, escaped_plain}
use Rattle.rdb_literals.proofs.printed.append_escaped.Goals.{in-34+in_ok-push_str-in-34, in-92+in_ok-push_str-in-92, in_default+in_ok-write-in_default, in_default-2+in_ok-push-in_default-2}
use Rattle.rdb_literals.proofs.printed.append_escaped.Goals as goal

pub returns : goal.returns
returns c = elim c.match-character.branch [
  | in-34+in_ok-push_str-in-34 w ↦ rw (escaped_quote c.args.character w.in-34.is) (search rules)
  | in-92+in_ok-push_str-in-92 w ↦ rw (escaped_backslash c.args.character w.in-92.is) (search rules)
  | in_default+in_ok-write-in_default w ↦
      rw (escaped_control c.args.character w.if-is_ascii_control.ensures.cases, ← hex_byte false c.args.character (omega (arith, w.if-is_ascii_control.ensures.cases))) (search rules)
  | in_default-2+in_ok-push-in_default-2 w ↦
      let quote : c.args.character ≢ 34 = omega arith in
      let backslash : c.args.character ≢ 92 = omega arith in
      rw (escaped_plain c.args.character quote backslash w.if-is_ascii_control.ensures.cases) (search rules)
]
