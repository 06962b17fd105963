use Rattle.std.proofs.Common.{◌++◌, Some, refl, sym, ap, subst, ◌∙◌}
use Rattle.rdb_sight.specs.Versions.{chain_in, row_shown, own_version}
use Rattle.rdb_shown.specs.Kept.{IsChain, IsUnseenBy}
use Rattle.rdb_shown.proofs.Picks.{find_without}
use Rattle.rdb_shown.proofs.KeptLemmas.{in_order, kept_after, same_work_after, same_shown, chain_without, pairs_kept}
use Rattle.rdb_sight.specs.Sight.{is_own}
use Rattle.rdb_shown.proofs.GarbageLemmas.{garbage_unseen, garbage_not_own}
use Rattle.rdb_shown.proofs.changes.garbage_drop_shows_no_change.Goals as goal

pub returns : goal.returns
returns c = record {
  shown = λ journal marks before after floor class id snapshot reader kept drops least.
      same_shown marks snapshot reader before after class id (drops.newer ++ drops.older) (in_order journal marks before kept) drops.taken
      (garbage_unseen journal marks (class, id) snapshot reader floor drops.newer drops.dropped drops.older (subst (IsChain journal marks (class, id)) drops.was (kept.chains class id)) least drops.garbage
      ∙ ap (row_shown marks snapshot reader) (sym drops.was));
  kept = λ journal marks before after floor class id kept drops.
      kept_after journal marks before after class id (drops.newer ++ drops.older) kept drops.taken
      (chain_without journal marks (class, id) drops.dropped (chain_in before class id) (drops.newer ++ drops.older)
      (record { newer = drops.newer; older = drops.older; before = drops.was; after = refl }) (kept.chains class id));
  work = λ journal marks before after floor class id snapshot tx done kept drops work.
      same_work_after marks before after class id (drops.newer ++ drops.older) tx snapshot done (in_order journal marks before kept) drops.taken
      (sym (find_without (λ v. is_own (Some tx) v.stamp) drops.newer drops.dropped drops.older (garbage_not_own tx floor drops.newer drops.dropped drops.older drops.garbage)) ∙ ap (own_version tx) (sym drops.was))
      (pairs_kept (IsUnseenBy tx snapshot marks) drops.dropped (chain_in before class id) (drops.newer ++ drops.older) (record { newer = drops.newer; older = drops.older; before = drops.was; after = refl }))
      work;
}
