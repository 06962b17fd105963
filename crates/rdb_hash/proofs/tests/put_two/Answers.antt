use Rattle.std.proofs.Common.{[], ◌∷◌, arith}
use Rattle.std.proofs.lemmas.List.Sorted.{Contains-permutation, IsPermutation-refl}
use Rattle.rdb_cells.specs.Keys.{says}
use Rattle.rdb_cells.specs.Work.{work, reading}
use Rattle.rdb_cells.proofs.IndexLemmas.{unlisted_again, fewer_than}
use Rattle.rdb_cells.proofs.ListedLemmas.{contains_first, contains_later, lists_less}
use Rattle.rdb_hash.proofs.EmptyHash.{unlisted_beside}
use Rattle.rdb_hash.proofs.tests.put_two.Goals as goal

pub put-requires-clause-lacks : goal.put-requires-clause-lacks
put-requires-clause-lacks g c =
    let said = says (g.K.Keys.meaning c.args.keys.now) (reading (work g.C.Cells c.args.cells.now)) in
    record {
      listed = [];
      nodes = [];
      lists = c.requires.empty;
      unlisted = unlisted_beside said c.args.first [] [] (lists_less said (c.args.first ∷ []) c.args.second c.requires.versions) (IsPermutation-refl []);
      taken = λ v now. tt;
    }

pub put-requires-clause-free : goal.put-requires-clause-free
put-requires-clause-free g c = fewer_than (work g.C.Cells c.args.cells.now) 2 4 (omega arith) c.requires.free

pub put-requires-2-clause-free : goal.put-requires-2-clause-free
put-requires-2-clause-free g c = c.put.ensures.takes.enough 2 c.requires.free

pub put-requires-2-clause-lacks : goal.put-requires-2-clause-lacks
put-requires-2-clause-lacks g c =
    let keys = g.K.Keys.meaning c.args.keys.now in
    let before = reading (work g.C.Cells c.args.cells.now) in
    let said = says keys before in
    let first_new = unlisted_beside said c.args.first [] [] (lists_less said (c.args.first ∷ []) c.args.second c.requires.versions) (IsPermutation-refl []) in
    let first_came = c.put.ensures.puts [] [] c.requires.empty first_new in
    let second_new = unlisted_again keys before (reading (work g.C.Cells c.put.new.cells)) (g.met.K.Keys.rests_on_versions c.args.keys.now) c.put.ensures.versions first_came.0.listed c.args.second (unlisted_beside said c.args.second (c.args.first ∷ []) first_came.0.listed c.requires.versions first_came.1) in
    record { listed = first_came.0.listed; nodes = first_came.0.now_nodes; lists = first_came.0.lists; unlisted = second_new; taken = λ v now. tt }

pub equal-found-requires-clause-stands : goal.equal-found-requires-clause-stands
equal-found-requires-clause-stands g c =
    let keys = g.K.Keys.meaning c.args.keys.now in
    let before = reading (work g.C.Cells c.args.cells.now) in
    let said = says keys before in
    let first_new = unlisted_beside said c.args.first [] [] (lists_less said (c.args.first ∷ []) c.args.second c.requires.versions) (IsPermutation-refl []) in
    let first_came = c.put.ensures.puts [] [] c.requires.empty first_new in
    let second_new = unlisted_again keys before (reading (work g.C.Cells c.put.new.cells)) (g.met.K.Keys.rests_on_versions c.args.keys.now) c.put.ensures.versions first_came.0.listed c.args.second (unlisted_beside said c.args.second (c.args.first ∷ []) first_came.0.listed c.requires.versions first_came.1) in
    let came = c.put-2.ensures.puts first_came.0.listed first_came.0.now_nodes first_came.0.lists second_new in
    (came.0.listed, came.0.now_nodes, came.0.lists)

pub remove-requires-clause-has : goal.remove-requires-clause-has
remove-requires-clause-has g c =
    let keys = g.K.Keys.meaning c.args.keys.now in
    let before = reading (work g.C.Cells c.args.cells.now) in
    let said = says keys before in
    let first_new = unlisted_beside said c.args.first [] [] (lists_less said (c.args.first ∷ []) c.args.second c.requires.versions) (IsPermutation-refl []) in
    let first_came = c.put.ensures.puts [] [] c.requires.empty first_new in
    let second_new = unlisted_again keys before (reading (work g.C.Cells c.put.new.cells)) (g.met.K.Keys.rests_on_versions c.args.keys.now) c.put.ensures.versions first_came.0.listed c.args.second (unlisted_beside said c.args.second (c.args.first ∷ []) first_came.0.listed c.requires.versions first_came.1) in
    let came = c.put-2.ensures.puts first_came.0.listed first_came.0.now_nodes first_came.0.lists second_new in
    let within = Contains-permutation (c.args.second ∷ first_came.0.listed) came.0.listed c.args.first came.1 (contains_later c.args.second c.args.first first_came.0.listed (Contains-permutation (c.args.first ∷ []) first_came.0.listed c.args.first first_came.1 (contains_first c.args.first []))) in
    record { listed = came.0.listed; nodes = came.0.now_nodes; lists = came.0.lists; within = within }

pub refs-requires : goal.refs-requires
refs-requires g c =
    let keys = g.K.Keys.meaning c.args.keys.now in
    let before = reading (work g.C.Cells c.args.cells.now) in
    let said = says keys before in
    let first_new = unlisted_beside said c.args.first [] [] (lists_less said (c.args.first ∷ []) c.args.second c.requires.versions) (IsPermutation-refl []) in
    let first_came = c.put.ensures.puts [] [] c.requires.empty first_new in
    let second_new = unlisted_again keys before (reading (work g.C.Cells c.put.new.cells)) (g.met.K.Keys.rests_on_versions c.args.keys.now) c.put.ensures.versions first_came.0.listed c.args.second (unlisted_beside said c.args.second (c.args.first ∷ []) first_came.0.listed c.requires.versions first_came.1) in
    let came = c.put-2.ensures.puts first_came.0.listed first_came.0.now_nodes first_came.0.lists second_new in
    let within = Contains-permutation (c.args.second ∷ first_came.0.listed) came.0.listed c.args.first came.1 (contains_later c.args.second c.args.first first_came.0.listed (Contains-permutation (c.args.first ∷ []) first_came.0.listed c.args.first first_came.1 (contains_first c.args.first []))) in
    let gone = (c.remove.ensures.removes came.0.listed came.0.now_nodes came.0.lists within).0 in
    (says keys (reading (work g.C.Cells c.remove.new.cells)), gone.listed, gone.now_nodes, gone.lists)
