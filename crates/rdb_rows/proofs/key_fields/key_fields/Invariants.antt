use Rattle.std.proofs.Common.{◌≡◌, take}
use Rattle.rdb_rows.specs.Places.{numbers_in, AreKeyFields}
use Rattle.rdb_rows.proofs.key_fields.key_fields.Given as goal

abbrev pub invariant-loop-number : goal.invariant-loop-number
invariant-loop-number l = (numbers_in l.fields ≡ take l.number-index l.numbers) × AreKeyFields l.types l.fields
