-- A version that a transaction puts: what it is shown, and what its work is.
use Rattle.std.proofs.Common.{◌≡◌, ℕ, ◌<◌, List, [], ◌∷◌, ◌++◌, length, Some, None, cond, sym, ap, ◌∙◌, arith}
use Rattle.std.proofs.lemmas.List.{length-map}
use Rattle.rdb_base.specs.declared.identity.TxId.{TxId}
use Rattle.rdb_base.specs.declared.operation.Op.{Op}
use Rattle.rdb_base.specs.declared.operation.Reply.{Reply}
use Rattle.rdb_base.specs.declared.journal.Entry.{Entry}
use Rattle.rdb_schema.specs.declared.schema.Schema.{Schema}
use Rattle.rdb_sight.specs.Versions.{Versions, Marks, chain_in, row_shown, rows_shown, shown}
use Rattle.rdb_model.specs.Database.{row_of, objects_of}
use Rattle.rdb_model.specs.Answer.{answer}
use Rattle.rdb_model.specs.Touch.{written_by}
use Rattle.rdb_model.proofs.OrderedLemmas.{answer_in_order}
use Rattle.rdb_model.proofs.AnsweringLemmas.{answer_classes}
use Rattle.rdb_history.specs.Rows.{row_left}
use Rattle.rdb_shown.specs.Kept.{last_left, AreVersions, IsUnseenBy, IsWork}
use Rattle.rdb_shown.specs.Changes.{Puts}
use Rattle.rdb_shown.proofs.ChainMaps.{each_object, rises_after, classes_after}
use Rattle.rdb_shown.proofs.RowsShown.{shown_row, shown_in_order, shows}
use Rattle.rdb_shown.proofs.KeptLemmas.{in_order, work_after}
use Rattle.rdb_shown.proofs.RestLemmas.{put_is, put_seen, rest_pairs, unseen_put, put_wrote}
use Rattle.rdb_shown.proofs.AnswerLemmas.{answer_wrote, set_here, set_elsewhere, wrote_here, wrote_elsewhere, left_more}

module _ (journal : List Entry) (marks : Marks) (before after : Versions) (tx : TxId) (snapshot class id : ℕ) (o : Op) (told : Reply) (kept : AreVersions journal marks before)
    (wrote : written_by (o, told) ≡ Some (class, id)) (puts : Puts before after tx class id (row_left o)) where
  -- it is shown the plain answer
  pub put_shown : (schema : Schema) → marks tx ≡ None → (answer schema (shown marks snapshot (Some tx) before) o).0 ≡ told → shown marks snapshot (Some tx) after ≡ (answer schema (shown marks snapshot (Some tx) before) o).1
  put_shown schema unmarked is =
      let put = put_is before after tx class id (row_left o) puts in
      let rises = in_order journal marks before kept in
      let db = shown marks snapshot (Some tx) before in
      let many = length-map before (rows_shown marks snapshot (Some tx)) in
      let there : class < length db = let lt = put.put.class_there in omega (arith, many) in
      shows marks snapshot (Some tx) after (answer schema db o).1 (rises_after before after class id (put.version ∷ put.rest) rises put.put)
      (answer_in_order schema db o (shown_in_order marks snapshot (Some tx) before rises))
      (classes_after before after class id (put.version ∷ put.rest) put.put ∙ sym (answer_classes schema db o ∙ many))
      (λ k i lt. each_object before after class id (put.version ∷ put.rest) rises put.put (λ d j ch. row_shown marks snapshot (Some tx) ch ≡ row_of (objects_of (answer schema db o).1 d) j)
      (put_seen marks snapshot tx put.version put.rest put.stamped unmarked ∙ put.holds ∙ sym (ap (λ b. row_of (objects_of b class) id) (answer_wrote schema db o told class id wrote is) ∙ set_here db class id (row_left o) there))
      (λ d j differs. sym (ap (λ b. row_of (objects_of b d) j) (answer_wrote schema db o told class id wrote is) ∙ set_elsewhere db class id (row_left o) d j differs ∙ shown_row marks snapshot (Some tx) before d j rises)) k i)

  -- and its versions are the work of one operation more
  pub put_work : (done : List (Op × Reply)) → IsWork marks before tx snapshot done → IsWork marks after tx snapshot (done ++ (o, told) ∷ [])
  put_work done work =
      let put = put_is before after tx class id (row_left o) puts in
      work_after marks before after class id (put.version ∷ put.rest) tx snapshot done _ (in_order journal marks before kept) put.put
      (put_wrote tx put.version put.rest (row_left o) put.stamped put.holds ∙ sym (left_more (class, id) done (o, told) ∙ ap (λ b. cond b (Some (row_left o)) (last_left (class, id) done)) (wrote_here (o, told) class id wrote)))
      (unseen_put marks tx snapshot tx put.version put.rest put.stamped work.unmarked (rest_pairs (IsUnseenBy tx snapshot marks) tx (chain_in before class id) put.rest put.is_rest (work.unseen class id)))
      (λ k i differs. sym (left_more (k, i) done (o, told) ∙ ap (λ b. cond b (Some (row_left o)) (last_left (k, i) done)) (wrote_elsewhere (o, told) class id k i wrote differs)))
      work
