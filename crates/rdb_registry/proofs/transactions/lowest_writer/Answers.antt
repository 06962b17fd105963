-- The first slot whose opening is such a one.
use Rattle.std.proofs.Common.{refl, ◌∙◌, rules}
use Rattle.rdb_registry.specs.Seats.{is_writer}
use Rattle.rdb_registry.proofs.SlotLemmas.{position_of_openings}
use Rattle.rdb_registry.proofs.transactions.lowest_writer.Goals as goal

pub returns-in_err-place : goal.returns-in_err-place
returns-in_err-place c = let none = c.in_err-place.ensures.first ∙ position_of_openings is_writer _ (λ slot. refl) c.args.slots.now in search (rules, none)

pub returns : goal.returns
returns c = c.in_ok-place.ensures.first ∙ position_of_openings is_writer _ (λ slot. refl) c.args.slots.now
