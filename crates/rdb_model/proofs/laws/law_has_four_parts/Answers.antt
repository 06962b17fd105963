-- Entry by entry.
use Rattle.rdb_model.specs.declared.legality.Span.TheVariants as span
use Rattle.rdb_model.proofs.PartLemmas.{law_from, legal_from}
use Rattle.rdb_model.proofs.EndingLemmas.{law_in_stretches}
use Rattle.rdb_model.proofs.laws.law_has_four_parts.Goals as goal

pub returns : goal.returns
returns c = record {
  whole = λ schema journal. (law_from span.Journal schema journal, legal_from span.Journal schema journal);
  stretches = λ schema journal. (law_from span.Stretch schema journal, legal_from span.Stretch schema journal);
  weaker = law_in_stretches;
}
