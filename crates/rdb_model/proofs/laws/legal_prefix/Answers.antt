-- Part by part.
use Rattle.std.proofs.Common.{◌++◌}
use Rattle.rdb_model.specs.declared.legality.Span.TheVariants as span
use Rattle.rdb_model.proofs.PartLemmas.{law_from, legal_from, law_in_front}
use Rattle.rdb_model.proofs.laws.legal_prefix.Goals as goal

pub returns : goal.returns
returns c = record {
  legal = λ schema front back legal. legal_from span.Journal schema front (law_in_front span.Journal schema front back (law_from span.Journal schema (front ++ back) legal));
  law = law_in_front;
}
