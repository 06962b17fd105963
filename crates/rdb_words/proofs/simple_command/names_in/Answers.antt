use Rattle.std.proofs.Common.{◌≡◌, ◌≤◌, ◌<◌, List, [], length, map, Option, codes, sym, ap, ◌∙◌, subst}
use Rattle.std.specs.Prelude.{IfSome, option_map, unwrap_or}
use Rattle.clap.specs.Matches.{found_of, matched_of, raw_values}
use Rattle.rdb_words.specs.Grammar.{Word, texts}
use Rattle.rdb_words.proofs.Reading.{ok_texts}
use Rattle.rdb_words.proofs.simple_command.names_in.Goals as goal

pub returns-in-Some-clause-some : goal.returns-in-Some-clause-some
returns-in-Some-clause-some c =
    let names = c.in-Some.names.now in
    let there = unwrap_or (option_map raw_values (matched_of (found_of c.args.found.now) (codes "name"))) [] in
    let found : texts names ≡ there = ap (λ (o : Option (List Word)). unwrap_or o []) (sym (ap (option_map (λ s. map (λ v. v.now) s.now)) c.in-Some.is) ∙ c.get_strs.ensures) in
    subst (λ o. IfSome o (λ v. texts v.items ≡ there)) (sym c.ok.ensures.value)
    (ok_texts (λ v. v.items) (length names ≤ 18) (λ _. 18 < length names) names there c.try_from.result found c.try_from.ensures)
