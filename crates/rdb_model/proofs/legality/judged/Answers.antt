-- The entries before the first misplaced one fit and are well placed, and what is found first is what the law says.
use Rattle.std.proofs.Common.{[], ap, ◌∙◌, arith}
use Rattle.std.proofs.lemmas.Option.{IfSome_then}
use Rattle.rdb_model.specs.Journal.{breaks_reply}
use Rattle.rdb_model.specs.FirstFault.{FitsEntry, misplaced, first_at, before}
use Rattle.rdb_model.proofs.FirstFaultLemmas.{all_before, before_well, legal_is}
use Rattle.rdb_model.proofs.LegalityLemmas.{first_within, wrong_within, well_placed}
use Rattle.rdb_model.proofs.legality.judged.Goals as goal

pub before-requires : goal.before-requires
before-requires c = first_within (misplaced c.args.within) c.args.entries.now c.in_ok-found.found c.in_ok-found.ensures

pub first_wrong-requires-clause-fits : goal.first_wrong-requires-clause-fits
first_wrong-requires-clause-fits c =
    rw c.before-2.ensures (all_before (FitsEntry c.args.schema.now) c.args.entries.now c.in_ok-found.found c.requires.fits)

pub first_wrong-requires-clause-placed : goal.first_wrong-requires-clause-placed
first_wrong-requires-clause-placed c =
    rw c.before-2.ensures (well_placed c.args.within (before c.in_ok-found.found c.args.entries.now) (before_well c.args.within c.args.entries.now c.in_ok-found.found c.in_ok-found.ensures))

pub verdict-requires-clause-wrong : goal.verdict-requires-clause-wrong
verdict-requires-clause-wrong c =
    IfSome_then c.in_ok-wrong.wrong (wrong_within (breaks_reply c.args.schema.now) c.args.entries.now c.in_ok-found.found c.in_ok-wrong.wrong (c.in_ok-wrong.ensures ∙ ap (first_at (breaks_reply c.args.schema.now) []) c.before-2.ensures)) (λ x p. omega arith)

pub verdict-requires-clause-found : goal.verdict-requires-clause-found
verdict-requires-clause-found c =
    IfSome_then c.in_ok-found.found (first_within (misplaced c.args.within) c.args.entries.now c.in_ok-found.found c.in_ok-found.ensures) (λ x p. omega arith)

pub returns : goal.returns
returns c =
    c.verdict.ensures
    ∙ legal_is c.args.within c.args.schema.now c.args.entries.now c.in_ok-wrong.wrong c.in_ok-found.found
    c.in_ok-found.ensures
    (c.in_ok-wrong.ensures ∙ ap (first_at (breaks_reply c.args.schema.now) []) c.before-2.ensures)
