use Rattle.std.proofs.Common.{inr, Some, None, sym, ap, ◌∙◌}
use Rattle.rdb_sight.specs.Versions.{chain_in, row_shown}
use Rattle.rdb_shown.specs.Kept.{IsUnseenBy}
use Rattle.rdb_shown.proofs.ChainMaps.{rises_after}
use Rattle.rdb_shown.proofs.RowsShown.{shown_row}
use Rattle.rdb_shown.proofs.KeptLemmas.{in_order, kept_after, same_work_after, same_shown, chain_after, chain_elsewhere, chain_without}
use Rattle.rdb_shown.proofs.RestLemmas.{rest_pairs, rest_none, rest_others, rest_shown, none_own_shown}
use Rattle.rdb_shown.proofs.changes.own_drop_shows_the_snapshot.Goals as goal

pub returns : goal.returns
returns c = record {
  own = λ journal marks before after tx snapshot class id kept open_ drops.
      let rises = in_order journal marks before kept in
      let rest = inr (drops.dropped, drops.was_own, drops.without) in
      shown_row marks snapshot (Some tx) after class id (rises_after before after class id drops.rest rises drops.taken)
      ∙ ap (row_shown marks snapshot (Some tx)) (chain_after before after class id drops.rest rises drops.taken)
      ∙ none_own_shown marks snapshot tx drops.rest open_ (rest_none marks tx (chain_in before class id) drops.rest open_ (kept.chains class id).once rest)
      ∙ rest_shown marks snapshot None tx (chain_in before class id) drops.rest open_ (λ e. (cc)) rest
      ∙ sym (shown_row marks snapshot None before class id rises);
  elsewhere = λ journal marks before after tx snapshot class id other kept drops differs.
      let rises = in_order journal marks before kept in
      shown_row marks snapshot (Some tx) after other.0 other.1 (rises_after before after class id drops.rest rises drops.taken)
      ∙ ap (row_shown marks snapshot (Some tx)) (chain_elsewhere before after class id drops.rest rises drops.taken other differs)
      ∙ sym (shown_row marks snapshot (Some tx) before other.0 other.1 rises);
  others = λ journal marks before after tx class id snapshot reader kept open_ differs drops.
      same_shown marks snapshot reader before after class id drops.rest (in_order journal marks before kept) drops.taken
      (rest_shown marks snapshot reader tx (chain_in before class id) drops.rest open_ differs (inr (drops.dropped, drops.was_own, drops.without)));
  kept = λ journal marks before after tx class id kept drops.
      kept_after journal marks before after class id drops.rest kept drops.taken
      (chain_without journal marks (class, id) drops.dropped (chain_in before class id) drops.rest drops.without (kept.chains class id));
  others_work = λ journal marks before after tx other class id snapshot done kept differs drops work.
      same_work_after marks before after class id drops.rest other snapshot done (in_order journal marks before kept) drops.taken
      (rest_others tx other (chain_in before class id) drops.rest differs (inr (drops.dropped, drops.was_own, drops.without)))
      (rest_pairs (IsUnseenBy other snapshot marks) tx (chain_in before class id) drops.rest (inr (drops.dropped, drops.was_own, drops.without)))
      work;
}
