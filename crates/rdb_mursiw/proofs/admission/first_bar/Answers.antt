-- No record stands past the last slot.
use Rattle.std.proofs.Common.{length, inl, inr, arith}
use Rattle.std.proofs.lemmas.Bool.{cases_lt}
use Rattle.rdb_mursiw.proofs.BarLemmas.{past_end}
use Rattle.rdb_mursiw.proofs.admission.first_bar.Goals as goal

pub returns : goal.returns
returns c =
    λ slot. elim (cases_lt slot c.loop-slot.slot) [
      | inl lt ↦ c.loop-slot.invariant slot lt
      | inr ge ↦
          let count = c.sound.ensures.count in
          past_end c.args.kind c.args.c c.args.registry.now.seats slot (omega arith)
    ]
