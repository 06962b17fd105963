-- A slot is free where it has no record.
use Rattle.std.proofs.Common.{is_none, ◌∙◌, rules}
use Rattle.rdb_registry.specs.Kept.{record_of}
use Rattle.rdb_registry.proofs.SlotLemmas.{position_by, free_is}
use Rattle.rdb_registry.proofs.registry.lowest_free.Goals as goal

pub returns-in_err-place : goal.returns-in_err-place
returns-in_err-place c = let none = c.in_err-place.ensures.first ∙ position_by is_none record_of _ free_is c.args.slots.now in search (rules, none)

pub returns : goal.returns
returns c = c.in_ok-place.ensures.first ∙ position_by is_none record_of _ free_is c.args.slots.now
