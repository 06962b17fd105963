use Rattle.std.proofs.Common.{map, string_bytes, rules, ap, refl}
use Rattle.std.proofs.lemmas.List.{length-map}
use Rattle.rdb_words.proofs.Parts.{if_none, more_mapped, none_mapped}
use Rattle.rdb_words.proofs.Completion.{reads_more, reads_all, reads_names, reads_no_more, reads_no_room, too_many, shorter}
use Rattle.rdb_words.proofs.definition.arguments_in.Goals as goal

pub returns-in_err-add_names-clause-none : goal.returns-in_err-add_names-clause-none
returns-in_err-add_names-clause-none c =
    if_none _ (too_many _ _ _ _ _ c.loop-first.invariant (ap (map string_bytes) c.in-Some.ensures.cases.0) (search rules)
    (more_mapped _ _ _ _ 18 c.in_err-add_names.ensures.none))

pub returns-then-eq-clause-some : goal.returns-then-eq-clause-some
returns-then-eq-clause-some c =
    reads_names _ _ _ _ _ _ c.loop-first.invariant (ap (map string_bytes) c.in-Some.ensures.cases.0) (search rules)
    (c.in_ok-add_names.ensures.some refl)

pub returns-in_err-piece-clause-none : goal.returns-in_err-piece-clause-none
returns-in_err-piece-clause-none c =
    if_none _ (reads_no_more _ _ _ _ _ c.loop-first.invariant (ap (map string_bytes) c.in-Some.ensures.cases.0)
    (search rules) c.in_err-piece.ensures.none)

pub returns-in_err-add-clause-none : goal.returns-in_err-add-clause-none
returns-in_err-add-clause-none c =
    if_none _ (reads_no_room _ _ _ _ _ c.loop-first.invariant c.in_ok-piece.ensures.some c.in_err-add.ensures.none)

pub loop-first-smaller : goal.loop-first-smaller
loop-first-smaller c = simp length-map at (shorter _ _ _ c.in_ok-piece.ensures.some)

pub loop-first-preserved : goal.loop-first-preserved
loop-first-preserved c =
    reads_more _ _ _ _ _ _ c.loop-first.invariant c.in_ok-piece.ensures.some (c.in_ok-add.ensures.some refl)

pub returns-clause-some : goal.returns-clause-some
returns-clause-some c = reads_all _ _ _ c.loop-first.invariant (none_mapped _ _ c.in_default.ensures.cases)
