use Rattle.std.proofs.Common.{sym, ap, ◌∙◌}
use Rattle.std.specs.Prelude.{◌==◌, position}
use Rattle.rdb_rtree.specs.declared.entry.Entry.{Entry}
use Rattle.rdb_rtree.proofs.SearchLemmas.{found_entry, no_entry}
use Rattle.rdb_rtree.proofs.remove.without.Goals as goal

pub returns-in-Some-clause-found : goal.returns-in-Some-clause-found
returns-in-Some-clause-found c =
    let here = found_entry c.args.entries.items c.args.at c.in-Some.place c.remove-lost.result (sym c.in-Some.is ∙ c.place_of.ensures ∙ ap (position (λ (e : Entry). e.at.number == c.args.at.number)) c.as_slice.ensures.value) in
    let number = ap (λ (e : Entry). e.at.number) c.remove-lost.ensures.value ∙ here.1 in
    record {
      place = c.in-Some.place;
      lost = c.remove-lost.result;
      here = here.0;
      lost_is = c.remove-lost.ensures.value;
      at_is = λ i. record { number = number i };
      rest = c.remove-lost.ensures.items;
    }

pub returns-in-None-clause-none : goal.returns-in-None-clause-none
returns-in-None-clause-none c =
    no_entry c.args.entries.items c.args.at (sym c.in-None.is ∙ c.place_of.ensures ∙ ap (position (λ (e : Entry). e.at.number == c.args.at.number)) c.as_slice.ensures.value)
