use Rattle.std.proofs.Common.{◌≡◌, ◌≢◌, ◌∷◌, ◌++◌, List, Some, None, refl, sym, ap, subst, ◌∙◌}
use Rattle.std.specs.List.{AllPairs}
use Rattle.rdb_sight.specs.Versions.{Version, row_shown, own_version}
use Rattle.rdb_shown.specs.Kept.{IsChain, IsUnseenBy}
use Rattle.rdb_shown.proofs.KeptLemmas.{in_order, kept_after, same_work_after, same_shown, chain_restamped}
use Rattle.rdb_shown.proofs.StampLemmas.{counted_marked, others_own}
use Rattle.rdb_shown.proofs.StampedLemmas.{same_sights, restamped_sights, restamped_own, restamped_unseen}
use Rattle.rdb_shown.proofs.changes.stamp_shows_no_change.Goals as goal

pub returns : goal.returns
returns c = record {
  shown = λ journal marks before after tx class id snapshot reader kept stamps.
      same_shown marks snapshot reader before after class id _ (in_order journal marks before kept) stamps.put
      (same_sights marks marks snapshot reader (stamps.newer ++ stamps.stamped ∷ stamps.older) _
      (restamped_sights marks stamps.newer stamps.stamped _ stamps.older (sym (counted_marked marks stamps.stamped.stamp tx stamps.commit stamps.was_own stamps.marked)) refl)
      ∙ ap (row_shown marks snapshot reader) (sym stamps.was));
  kept = λ journal marks before after tx class id kept stamps.
      kept_after journal marks before after class id _ kept stamps.put
      (chain_restamped journal marks (class, id) stamps.newer stamps.stamped _ stamps.older (sym (counted_marked marks stamps.stamped.stamp tx stamps.commit stamps.was_own stamps.marked)) refl
      (subst (IsChain journal marks (class, id)) stamps.was (kept.chains class id)));
  work = λ journal marks before after tx other class id snapshot done kept stamps work.
      let differs : Some other ≢ Some tx = (λ e. let same : other ≡ tx = (cc) in let g : marks tx ≡ None = ap marks (sym same) ∙ work.unmarked in let h = stamps.marked in (cc)) in
      same_work_after marks before after class id _ other snapshot done (in_order journal marks before kept) stamps.put
      (restamped_own other stamps.newer stamps.stamped _ stamps.older (others_own (Some other) tx stamps.stamped.stamp differs stamps.was_own) refl ∙ ap (own_version other) (sym stamps.was))
      (λ unseen. restamped_unseen marks other snapshot stamps.newer stamps.stamped _ stamps.older (sym (counted_marked marks stamps.stamped.stamp tx stamps.commit stamps.was_own stamps.marked)) (λ e. (cc))
      (subst (λ (vs : List Version). AllPairs (IsUnseenBy other snapshot marks) vs) stamps.was unseen))
      work;
}
