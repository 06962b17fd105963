use Rattle.std.proofs.Common.{arith, Some, None}
use Rattle.rdb_script.proofs.ItemLemmas.{sniff, sniff_unit, dead, unit}
use Rattle.rdb_script.proofs.schedule_reader.item_of.Goals as goal

pub returns-then-is_word-clause-exact : goal.returns-then-is_word-clause-exact
returns-then-is_word-clause-exact c = λ i is e. sniff c.args.clients c.args.word.now (omega arith) c.if-is_word.ensures.yes i is e

pub returns-then-is_word-2-clause-exact : goal.returns-then-is_word-2-clause-exact
returns-then-is_word-2-clause-exact c = λ i is e. sniff_unit c.args.clients c.args.word.now (omega arith) c.if-is_word-2.ensures.yes i is e

pub returns-in_err-client_of-clause-exact : goal.returns-in_err-client_of-clause-exact
returns-in_err-client_of-clause-exact c = λ i is e.
    let d = dead c.args.clients c.args.word.now c.in-Some.number.now None (omega arith) c.in-Some.ensures.found c.in_err-client_of.ensures.exact i is e in
    let none = d.1 in absurd cc

pub returns-in-Some-clause-exact : goal.returns-in-Some-clause-exact
returns-in-Some-clause-exact c = λ i is e.
    let d = dead c.args.clients c.args.word.now c.in-Some.number.now (Some c.in_ok-client_of.field-0) (omega arith) c.in-Some.ensures.found c.in_ok-client_of.ensures.exact i is e in
    let same = d.1 in let it = d.2 in cc

pub returns-in_err-client_of-in-Some-before-clause-exact : goal.returns-in_err-client_of-in-Some-before-clause-exact
returns-in_err-client_of-in-Some-before-clause-exact c = λ i is e.
    let d = unit c.args.clients c.args.word.now c.in-Some-before.number.now None (omega arith) c.if-is_word-2.ensures.no c.in_default.ensures.exact c.in-Some-before.ensures.found c.in_err-client_of-in-Some-before.ensures.exact i is e in
    let none = d.1 in absurd cc

pub returns-in_ok-client_of-in-Some-before-clause-exact : goal.returns-in_ok-client_of-in-Some-before-clause-exact
returns-in_ok-client_of-in-Some-before-clause-exact c = λ i is e.
    let d = unit c.args.clients c.args.word.now c.in-Some-before.number.now (Some c.in_ok-client_of-in-Some-before.field-0) (omega arith) c.if-is_word-2.ensures.no c.in_default.ensures.exact c.in-Some-before.ensures.found c.in_ok-client_of-in-Some-before.ensures.exact i is e in
    let same = d.1 in let it = d.2 in cc
