use Rattle.std.proofs.Common.{◌≡◌, ◌<◌, Some, length, ◌∷◌, cond, sym, ap, ◌∙◌, arith}
use Rattle.std.proofs.lemmas.List.{length-map}
use Rattle.rdb_sight.specs.Versions.{chain_in, row_shown, rows_shown, shown}
use Rattle.rdb_model.specs.Database.{row_of, objects_of}
use Rattle.rdb_model.specs.Answer.{answer}
use Rattle.rdb_model.proofs.OrderedLemmas.{answer_in_order}
use Rattle.rdb_model.proofs.AnsweringLemmas.{answer_classes}
use Rattle.rdb_history.specs.Rows.{row_left}
use Rattle.rdb_shown.specs.Kept.{last_left, IsUnseenBy}
use Rattle.rdb_shown.proofs.ChainMaps.{each_object, rises_after, classes_after}
use Rattle.rdb_shown.proofs.RowsShown.{shown_row, shown_in_order, shows}
use Rattle.rdb_shown.proofs.KeptLemmas.{in_order, kept_after, work_after, same_work_after, same_shown, chain_put}
use Rattle.rdb_shown.proofs.RestLemmas.{put_is, put_seen, put_unseen, rest_chain, rest_pairs, rest_none, rest_others, rest_shown, unseen_put, put_wrote, put_other}
use Rattle.rdb_shown.proofs.AnswerLemmas.{answer_wrote, set_here, set_elsewhere, wrote_here, wrote_elsewhere, left_more}
use Rattle.rdb_shown.proofs.puts.own_put_is_the_answer.Goals as goal

pub returns : goal.returns
returns c = record {
  own = λ schema journal marks before after tx snapshot o told class id kept open_ wrote is puts.
      let put = put_is before after tx class id (row_left o) puts in
      let rises = in_order journal marks before kept in
      let db = shown marks snapshot (Some tx) before in
      let many = length-map before (rows_shown marks snapshot (Some tx)) in
      let there : class < length db = let lt = put.put.class_there in omega (arith, many) in
      shows marks snapshot (Some tx) after (answer schema db o).1 (rises_after before after class id (put.version ∷ put.rest) rises put.put)
      (answer_in_order schema db o (shown_in_order marks snapshot (Some tx) before rises))
      (classes_after before after class id (put.version ∷ put.rest) put.put ∙ sym (answer_classes schema db o ∙ many))
      (λ k i lt. each_object before after class id (put.version ∷ put.rest) rises put.put (λ d j ch. row_shown marks snapshot (Some tx) ch ≡ row_of (objects_of (answer schema db o).1 d) j)
      (put_seen marks snapshot tx put.version put.rest put.stamped open_ ∙ put.holds ∙ sym (ap (λ b. row_of (objects_of b class) id) (answer_wrote schema db o told class id wrote is) ∙ set_here db class id (row_left o) there))
      (λ d j differs. sym (ap (λ b. row_of (objects_of b d) j) (answer_wrote schema db o told class id wrote is) ∙ set_elsewhere db class id (row_left o) d j differs ∙ shown_row marks snapshot (Some tx) before d j rises)) k i);
  others = λ journal marks before after tx class id row snapshot reader kept open_ differs puts.
      let put = put_is before after tx class id row puts in
      same_shown marks snapshot reader before after class id (put.version ∷ put.rest) (in_order journal marks before kept) put.put
      (put_unseen marks snapshot reader tx put.version put.rest put.stamped open_ differs ∙ rest_shown marks snapshot reader tx (chain_in before class id) put.rest open_ differs put.is_rest);
  kept = λ journal marks before after tx class id row kept open_ puts.
      let put = put_is before after tx class id row puts in
      kept_after journal marks before after class id (put.version ∷ put.rest) kept put.put
      (chain_put journal marks (class, id) tx put.version put.rest put.stamped open_ (rest_none marks tx (chain_in before class id) put.rest open_ (kept.chains class id).once put.is_rest)
      (rest_chain journal marks (class, id) tx (chain_in before class id) put.rest put.is_rest (kept.chains class id)));
  work = λ journal marks before after tx snapshot done o told class id kept work wrote puts.
      let put = put_is before after tx class id (row_left o) puts in
      work_after marks before after class id (put.version ∷ put.rest) tx snapshot done _ (in_order journal marks before kept) put.put
      (put_wrote tx put.version put.rest (row_left o) put.stamped put.holds ∙ sym (left_more (class, id) done (o, told) ∙ ap (λ b. cond b (Some (row_left o)) (last_left (class, id) done)) (wrote_here (o, told) class id wrote)))
      (unseen_put marks tx snapshot tx put.version put.rest put.stamped work.unmarked (rest_pairs (IsUnseenBy tx snapshot marks) tx (chain_in before class id) put.rest put.is_rest (work.unseen class id)))
      (λ k i differs. sym (left_more (k, i) done (o, told) ∙ ap (λ b. cond b (Some (row_left o)) (last_left (k, i) done)) (wrote_elsewhere (o, told) class id k i wrote differs)))
      work;
  others_work = λ journal marks before after tx other class id row snapshot done kept open_ differs puts work.
      let put = put_is before after tx class id row puts in
      same_work_after marks before after class id (put.version ∷ put.rest) other snapshot done (in_order journal marks before kept) put.put
      (put_other tx other put.version put.rest put.stamped differs ∙ rest_others tx other (chain_in before class id) put.rest differs put.is_rest)
      (λ unseen. unseen_put marks other snapshot tx put.version put.rest put.stamped open_ (rest_pairs (IsUnseenBy other snapshot marks) tx (chain_in before class id) put.rest put.is_rest unseen))
      work;
}
