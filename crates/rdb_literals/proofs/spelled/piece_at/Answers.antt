use Rattle.std.proofs.Common.{[], ◌∷◌, refl, inl, inr}
use Rattle.rdb_literals.proofs.SpellingLemmas.{hex_read, plain_read}
use Rattle.rdb_literals.proofs.spelled.piece_at.Goals as goal

pub returns-in-Some-clause-found : goal.returns-in-Some-clause-found
returns-in-Some-clause-found c = hex_read c.args.text.now c.in-Some.digits.now c.hex_pair_at.result c.in-Some.ensures.found c.hex_pair_at.ensures.found

pub returns-in-Some-after-clause-found : goal.returns-in-Some-after-clause-found
returns-in-Some-after-clause-found c = (92 ∷ 34 ∷ [], (refl, refl, inl refl), c.in-Some-after.ensures.found)

pub returns-in-Some-after-2-clause-found : goal.returns-in-Some-after-2-clause-found
returns-in-Some-after-2-clause-found c = (92 ∷ 92 ∷ [], (refl, refl, inr refl), c.in-Some-after-2.ensures.found)

pub returns-clause-found : goal.returns-clause-found
returns-clause-found c = plain_read c.args.text.now c.plain_at.result c.plain_at.ensures.found
