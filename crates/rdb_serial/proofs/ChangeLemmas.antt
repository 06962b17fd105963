-- What one change of a class's versions, which a transaction's connection makes, leaves of what others see there.
use Rattle.std.proofs.Common.{◌≡◌, ◌≢◌, inl, inr, ℕ, ◌<◌, ◌≤◌, List, ◌∷◌, ◌++◌, length, Option, Some, None, refl, sym, ap, subst, ◌∙◌, [], length-set, get_or-set_other}
use Rattle.rdb_base.specs.declared.identity.TxId.{TxId}
use Rattle.rdb_base.specs.declared.operation.Op.{Op}
use Rattle.rdb_base.specs.declared.operation.Reply.{Reply}
use Rattle.rdb_base.specs.declared.journal.Entry.{Entry}
use Rattle.rdb_sight.specs.Sight.{is_own}
use Rattle.rdb_sight.specs.Versions.{Version, Versions, Marks, objects_in, chain_in, with_chain, own_version, row_shown, shown}
use Rattle.rdb_model.specs.Database.{Row}
use Rattle.rdb_shown.specs.Kept.{IsChain, AreVersions, IsUnseenBy, IsWork}
use Rattle.rdb_shown.specs.Changes.{HasChain, Puts, DropsOwn, DropsGarbage, Stamps}
use Rattle.rdb_shown.proofs.GarbageLemmas.{garbage_unseen, garbage_not_own}
use Rattle.rdb_shown.proofs.KeptLemmas.{in_order, kept_after, same_work_after, same_shown, chain_put, chain_without, pairs_kept}
use Rattle.rdb_shown.proofs.Picks.{find_without}
use Rattle.rdb_shown.proofs.RestLemmas.{put_is, put_unseen, rest_chain, rest_pairs, rest_none, rest_others, rest_shown, unseen_put, put_other}
use Rattle.rdb_serial.specs.Progress.{Course}
use Rattle.rdb_serial.specs.Histories.{AreSameIn, IsFloor, DropsOld, IsOneChange}
use Rattle.rdb_serial.proofs.ViewLemmas.{moved_chain, same_chain}

module _ (journal : List Entry) (course : Course) (marks : Marks) (tx : TxId) (before after : Versions) (class : ℕ) (kept : AreVersions journal marks before) (unmarked : marks tx ≡ None) where
  -- a garbage version that is dropped is seen by nobody, its own transaction's reader too
  pub old_unseen : (one : DropsOld journal course before after class) (snapshot : ℕ) (reader : Option TxId) → one.floor ≤ snapshot → shown marks snapshot reader after ≡ shown marks snapshot reader before
  old_unseen one snapshot reader above =
      same_shown marks snapshot reader before after class one.id (one.drops.newer ++ one.drops.older) (in_order journal marks before kept) one.drops.taken
      (garbage_unseen journal marks (class, one.id) snapshot reader (Some one.floor) one.drops.newer one.drops.dropped one.drops.older
      (subst (IsChain journal marks (class, one.id)) one.drops.was (kept.chains class one.id)) above one.drops.garbage
      ∙ ap (row_shown marks snapshot reader) (sym one.drops.was))

  pub old_is_no_work : (one : DropsOld journal course before after class) (other : TxId) (snapshot : ℕ) (done : List (Op × Reply)) → IsWork marks before other snapshot done → IsWork marks after other snapshot done
  old_is_no_work one other snapshot done work =
      same_work_after marks before after class one.id (one.drops.newer ++ one.drops.older) other snapshot done (in_order journal marks before kept) one.drops.taken
      (sym (find_without (λ v. is_own (Some other) v.stamp) one.drops.newer one.drops.dropped one.drops.older (garbage_not_own other (Some one.floor) one.drops.newer one.drops.dropped one.drops.older one.drops.garbage))
      ∙ ap (own_version other) (sym one.drops.was))
      (pairs_kept (IsUnseenBy other snapshot marks) one.drops.dropped (chain_in before class one.id) (one.drops.newer ++ one.drops.older)
      (record { newer = one.drops.newer; older = one.drops.older; before = one.drops.was; after = refl }))
      work

  -- everybody else is shown what they were
  pub change_shown : (snapshot : ℕ) (reader : Option TxId) → reader ≢ Some tx → ((floor : ℕ) → IsFloor journal course floor → floor ≤ snapshot) → IsOneChange journal course tx before after class →
      shown marks snapshot reader after ≡ shown marks snapshot reader before
  change_shown snapshot reader differs above (inl one) =
      let put = put_is before after tx class one.id one.row one.puts in
      same_shown marks snapshot reader before after class one.id (put.version ∷ put.rest) (in_order journal marks before kept) put.put
      (put_unseen marks snapshot reader tx put.version put.rest put.stamped unmarked differs ∙ rest_shown marks snapshot reader tx (chain_in before class one.id) put.rest unmarked differs put.is_rest)
  change_shown snapshot reader differs above (inr (inl one)) =
      same_shown marks snapshot reader before after class one.id one.drops.rest (in_order journal marks before kept) one.drops.taken
      (rest_shown marks snapshot reader tx (chain_in before class one.id) one.drops.rest unmarked differs (inr (one.drops.dropped, one.drops.was_own, one.drops.without)))
  change_shown snapshot reader differs above (inr (inr one)) = old_unseen one snapshot reader (above one.floor one.least)

  -- the versions are kept
  pub change_kept : IsOneChange journal course tx before after class → AreVersions journal marks after
  change_kept (inl one) =
      let put = put_is before after tx class one.id one.row one.puts in
      kept_after journal marks before after class one.id (put.version ∷ put.rest) kept put.put
      (chain_put journal marks (class, one.id) tx put.version put.rest put.stamped unmarked (rest_none marks tx (chain_in before class one.id) put.rest unmarked (kept.chains class one.id).once put.is_rest)
      (rest_chain journal marks (class, one.id) tx (chain_in before class one.id) put.rest put.is_rest (kept.chains class one.id)))
  change_kept (inr (inl one)) =
      kept_after journal marks before after class one.id one.drops.rest kept one.drops.taken
      (chain_without journal marks (class, one.id) one.drops.dropped (chain_in before class one.id) one.drops.rest one.drops.without (kept.chains class one.id))
  change_kept (inr (inr one)) =
      kept_after journal marks before after class one.id (one.drops.newer ++ one.drops.older) kept one.drops.taken
      (chain_without journal marks (class, one.id) one.drops.dropped (chain_in before class one.id) (one.drops.newer ++ one.drops.older)
      (record { newer = one.drops.newer; older = one.drops.older; before = one.drops.was; after = refl }) (kept.chains class one.id))

  -- another transaction's versions are its work as they were
  pub change_work : (other : TxId) (snapshot : ℕ) (done : List (Op × Reply)) → other ≢ tx → IsOneChange journal course tx before after class →
      IsWork marks before other snapshot done → IsWork marks after other snapshot done
  change_work other snapshot done differs (inl one) work =
      let put = put_is before after tx class one.id one.row one.puts in
      same_work_after marks before after class one.id (put.version ∷ put.rest) other snapshot done (in_order journal marks before kept) put.put
      (put_other tx other put.version put.rest put.stamped differs ∙ rest_others tx other (chain_in before class one.id) put.rest differs put.is_rest)
      (λ unseen. unseen_put marks other snapshot tx put.version put.rest put.stamped unmarked (rest_pairs (IsUnseenBy other snapshot marks) tx (chain_in before class one.id) put.rest put.is_rest unseen))
      work
  change_work other snapshot done differs (inr (inl one)) work =
      same_work_after marks before after class one.id one.drops.rest other snapshot done (in_order journal marks before kept) one.drops.taken
      (rest_others tx other (chain_in before class one.id) one.drops.rest differs (inr (one.drops.dropped, one.drops.was_own, one.drops.without)))
      (rest_pairs (IsUnseenBy other snapshot marks) tx (chain_in before class one.id) one.drops.rest (inr (one.drops.dropped, one.drops.was_own, one.drops.without)))
      work
  change_work other snapshot done differs (inr (inr one)) work = old_is_no_work one other snapshot done work

-- the class that a change is of is there
pub change_there : (journal : List Entry) (course : Course) (tx : TxId) (before after : Versions) (class : ℕ) → IsOneChange journal course tx before after class → class < length before
change_there journal course tx before after class (inl one) = put_there one.puts
  where
    put_there : Puts before after tx class one.id one.row → class < length before
    put_there (inl puts) = puts.put.class_there
    put_there (inr puts) = puts.put.class_there
change_there journal course tx before after class (inr (inl one)) = one.drops.taken.class_there
change_there journal course tx before after class (inr (inr one)) = one.drops.taken.class_there

-- the chain that a change leaves, of one object of the class
changes_chain : (journal : List Entry) (course : Course) (tx : TxId) (before after : Versions) (class : ℕ) → IsOneChange journal course tx before after class → (id : ℕ) × (chain : List Version) × HasChain before after class id chain
changes_chain journal course tx before after class (inl one) = go one.puts
  where
    go : Puts before after tx class one.id one.row → (id : ℕ) × (chain : List Version) × HasChain before after class id chain
    go (inl puts) = (one.id, puts.version ∷ chain_in before class one.id, puts.put)
    go (inr puts) = (one.id, puts.version ∷ puts.rest, puts.put)
changes_chain journal course tx before after class (inr (inl one)) = (one.id, one.drops.rest, one.drops.taken)
changes_chain journal course tx before after class (inr (inr one)) = (one.id, one.drops.newer ++ one.drops.older, one.drops.taken)

-- no class is lost, and all other classes stay
pub change_long : (journal : List Entry) (course : Course) (tx : TxId) (before after : Versions) (class : ℕ) → IsOneChange journal course tx before after class → length after ≡ length before
change_long journal course tx before after class change =
    let has = changes_chain journal course tx before after class change in
    ap (λ (vs : Versions). length vs) has.2.is ∙ length-set before class (with_chain (objects_in before class) has.0 has.1)

pub chain_elsewhere_same : (before after : Versions) (class id : ℕ) (chain : List Version) → HasChain before after class id chain → (other : ℕ) → other ≢ class → AreSameIn other after before
chain_elsewhere_same before after class id chain has other differs =
    ap (λ (vs : Versions). objects_in vs other) has.is ∙ get_or-set_other before class other (with_chain (objects_in before class) id chain) [] differs

pub change_elsewhere : (journal : List Entry) (course : Course) (tx : TxId) (before after : Versions) (class : ℕ) → IsOneChange journal course tx before after class → (other : ℕ) → other ≢ class → AreSameIn other after before
change_elsewhere journal course tx before after class change =
    let has = changes_chain journal course tx before after class change in chain_elsewhere_same before after class has.0 has.1 has.2

-- the same change in other lists with the same objects in the class
module _ (before after was now : Versions) (class : ℕ) (there : class < length was) (many : length now ≡ length was) (here_was : objects_in was class ≡ objects_in before class)
    (here_now : objects_in now class ≡ objects_in after class) (elsewhere : (other : ℕ) → other ≢ class → objects_in now other ≡ objects_in was other) where
  pub moved_put : (tx : TxId) (id : ℕ) (row : Option Row) → Puts before after tx class id row → Puts was now tx class id row
  moved_put tx id row (inl puts) = inl (record {
    version = puts.version;
    stamped = puts.stamped;
    holds = puts.holds;
    none_own = ap (own_version tx) (same_chain was before class id here_was) ∙ puts.none_own;
    put = subst (λ (vs : List Version). HasChain was now class id (puts.version ∷ vs)) (sym (same_chain was before class id here_was))
        (moved_chain before after was now class id (puts.version ∷ chain_in before class id) puts.put there many here_was here_now elsewhere);
  })
  moved_put tx id row (inr puts) = inr (record {
    version = puts.version;
    stamped = puts.stamped;
    holds = puts.holds;
    replaced = puts.replaced;
    was_own = puts.was_own;
    rest = puts.rest;
    without = record {
      newer = puts.without.newer;
      older = puts.without.older;
      before = same_chain was before class id here_was ∙ puts.without.before;
      after = puts.without.after;
    };
    put = moved_chain before after was now class id (puts.version ∷ puts.rest) puts.put there many here_was here_now elsewhere;
  })

  pub moved_drop : (tx : TxId) (id : ℕ) → DropsOwn before after tx class id → DropsOwn was now tx class id
  moved_drop tx id drops = record {
    dropped = drops.dropped;
    was_own = drops.was_own;
    rest = drops.rest;
    without = record {
      newer = drops.without.newer;
      older = drops.without.older;
      before = same_chain was before class id here_was ∙ drops.without.before;
      after = drops.without.after;
    };
    taken = moved_chain before after was now class id drops.rest drops.taken there many here_was here_now elsewhere;
  }

  pub moved_garbage : (floor : Option ℕ) (id : ℕ) → DropsGarbage floor before after class id → DropsGarbage floor was now class id
  moved_garbage floor id drops = record {
    dropped = drops.dropped;
    newer = drops.newer;
    older = drops.older;
    was = same_chain was before class id here_was ∙ drops.was;
    garbage = drops.garbage;
    taken = moved_chain before after was now class id (drops.newer ++ drops.older) drops.taken there many here_was here_now elsewhere;
  }

  pub moved_stamp : (marks : Marks) (tx : TxId) (id : ℕ) → Stamps marks before after tx class id → Stamps marks was now tx class id
  moved_stamp marks tx id stamps = record {
    stamped = stamps.stamped;
    was_own = stamps.was_own;
    commit = stamps.commit;
    marked = stamps.marked;
    newer = stamps.newer;
    older = stamps.older;
    was = same_chain was before class id here_was ∙ stamps.was;
    put = moved_chain before after was now class id _ stamps.put there many here_was here_now elsewhere;
  }

  pub moved_change : (journal later : List Entry) (course next : Course) (tx : TxId) → ((floor : ℕ) → IsFloor journal course floor → IsFloor later next floor) →
      IsOneChange journal course tx before after class → IsOneChange later next tx was now class
  moved_change journal later course next tx floors (inl one) = inl (record { id = one.id; row = one.row; puts = moved_put tx one.id one.row one.puts })
  moved_change journal later course next tx floors (inr (inl one)) = inr (inl (record { id = one.id; drops = moved_drop tx one.id one.drops }))
  moved_change journal later course next tx floors (inr (inr one)) = inr (inr (record { id = one.id; floor = one.floor; least = floors one.floor one.least; drops = moved_garbage (Some one.floor) one.id one.drops }))
