use Rattle.std.proofs.Common.{sym, ap, ◌∙◌}
use Rattle.std.specs.Int.{w64}
use Rattle.std.proofs.lemmas.Nat.Bits.{bit_at_set_same, bit_at_set_other, bit_at_clear_same, bit_at_clear_other}
use Rattle.rdb_space.specs.Bits.{bit_of}
use Rattle.rdb_space.proofs.words.with_bit.Goals as goal

pub returns-then-is_set : goal.returns-then-is_set
returns-then-is_set c = record {
  here = bit_at_set_same w64 c.args.word c.args.place c.requires ∙ sym (ap bit_of c.if-is_set.true);
  elsewhere = λ i within apart. bit_at_set_other w64 c.args.word c.args.place c.requires i apart;
}

pub returns-else-is_set : goal.returns-else-is_set
returns-else-is_set c = record {
  here = bit_at_clear_same w64 c.args.word c.args.place c.requires ∙ sym (ap bit_of c.if-is_set.false);
  elsewhere = λ i within apart. bit_at_clear_other w64 c.args.word c.args.place c.requires i within apart;
}
