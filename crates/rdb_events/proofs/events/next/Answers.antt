use Rattle.std.proofs.Common.{◌≡◌, None, Some, sym, ap, ◌∙◌}
use Rattle.std.specs.Option.{option_map}
use Rattle.rdb_history.specs.Watches.{pair_of}
use Rattle.rdb_events.specs.NextEvent.{pair_found}
use Rattle.rdb_events.proofs.NextLemmas.{is_listed}
use Rattle.rdb_events.proofs.events.next.Goals as goal

pub returns-in_err-place-in-Some-clause-listed : goal.returns-in_err-place-in-Some-clause-listed
returns-in_err-place-in-Some-clause-listed c = λ numbers replies.
    ap (option_map pair_found) c.from_residual.ensures
    ∙ is_listed c.args.schema.now c.args.class c.args.event c.in-Some.kind c.args.journal.now.entries (pair_of c.args.place) None (sym c.event_kind.ensures ∙ c.in-Some.is) c.in_err-place-in-Some.ensures.none numbers replies

pub returns-clause-listed : goal.returns-clause-listed
returns-clause-listed c =
    is_listed c.args.schema.now c.args.class c.args.event c.in-Some.kind c.args.journal.now.entries (pair_of c.args.place) (Some (pair_of c.in_ok-place-in-Some.place)) (sym c.event_kind.ensures ∙ c.in-Some.is) c.in_ok-place-in-Some.ensures.some
