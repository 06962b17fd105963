-- Each slot lowers the least so far; at the end nothing is left.
use Rattle.std.proofs.Common.{◌+◌, ℕ, Option, ap, sym, ◌∙◌, drop}
use Rattle.std.proofs.lemmas.List.{at_drop_all}
use Rattle.rdb_registry.specs.declared.seat.Transaction.{Transaction}
use Rattle.std.specs.Option.{option_map}
use Rattle.rdb_registry.specs.Seats.{lower, opening_of}
use Rattle.rdb_registry.proofs.OpeningLemmas.{lower_all, lower_more, least_is}
use Rattle.rdb_registry.proofs.transactions.least_snapshot.Goals as goal

pub loop-slot-preserved : goal.loop-slot-preserved
loop-slot-preserved c =
    let step = lower_more c.args.slots.now c.loop-slot.slot-index c.slot-item.result c.loop-slot.least c.loop-slot-test.true c.slot-item.is in
    let lowered = c.lower-least.ensures ∙ ap (λ (t : Option Transaction). lower c.loop-slot.least (option_map opening_of t)) c.transaction.ensures in
    ap (λ (least : Option ℕ). lower_all least (drop (c.loop-slot.slot-index + 1) c.args.slots.now)) lowered ∙ (sym step ∙ c.loop-slot.invariant)

pub returns : goal.returns
returns c = least_is c.args.slots.now c.loop-slot.least (sym c.loop-slot.invariant ∙ at_drop_all (lower_all c.loop-slot.least) c.args.slots.now c.loop-slot.slot-index c.loop-slot-test.false)
