-- Where there is no version, of any transaction or of one.
use Rattle.std.proofs.Common.{◌≡◌, ℕ, zero, suc, true, false, List, [], ◌∷◌, replicate, Option, Some, None, refl, sym, ap, subst, arith}
use Rattle.std.specs.List.{AllByRecursion}
use Rattle.std.specs.Option.{option_map}
use Rattle.rdb_base.specs.declared.identity.TxId.{TxId}
use Rattle.rdb_base.specs.declared.journal.Entry.{Entry}
use Rattle.rdb_sight.specs.Sight.{is_own}
use Rattle.rdb_sight.specs.Versions.{Version, Object, Versions, Marks, chain_of, objects_in, chain_in, shown}
use Rattle.rdb_model.specs.Database.{Objects, empty}
use Rattle.rdb_shown.specs.Kept.{IsChain, AreVersions, IsUnseenBy, IsWork}
use Rattle.rdb_shown.specs.Changes.{HasNone}
use Rattle.rdb_shown.proofs.ChainMaps.{Rises, ascending_from}
use Rattle.rdb_shown.proofs.Pairs.{Pairs, pairs_to}
use Rattle.rdb_shown.proofs.StampLemmas.{own_itself}
use Rattle.rdb_shown.proofs.Picks.{none_found}

pub shows_nothing : (classes snapshot : ℕ) (marks : Marks) (reader : Option TxId) → shown marks snapshot reader (replicate classes []) ≡ empty classes
shows_nothing zero snapshot marks reader = refl
shows_nothing (suc n) snapshot marks reader = ap (λ (db : List Objects). [] ∷ db) (shows_nothing n snapshot marks reader)

no_objects : (classes class : ℕ) → objects_in (replicate classes []) class ≡ []
no_objects zero class = refl
no_objects (suc n) zero = refl
no_objects (suc n) (suc class) = no_objects n class

pub nothing_kept : (classes : ℕ) (journal : List Entry) (marks : Marks) → AreVersions journal marks (replicate classes [])
nothing_kept classes journal marks = record {
  in_order = λ class. ascending_from (objects_in (replicate classes []) class) (subst (λ (os : List Object). Rises os) (sym (no_objects classes class)) tt);
  chains = λ class id. subst (λ (os : List Object). IsChain journal marks (class, id) (chain_of os id)) (sym (no_objects classes class)) (record {
    falls = λ i j d less lt. absurd (omega arith);
    once = λ i j d less lt. absurd (omega arith);
    written = λ k d lt. absurd (omega arith);
  });
}

pub no_work : (marks : Marks) (versions : Versions) (tx : TxId) (snapshot : ℕ) → marks tx ≡ None → HasNone versions tx → IsWork marks versions tx snapshot []
no_work marks versions tx snapshot open_ none = record {
  unmarked = open_;
  wrote = λ class id. ap (option_map (λ (v : Version). v.row)) (none class id);
  unseen = λ class id. pairs_to (IsUnseenBy tx snapshot marks) (chain_in versions class id) (unseen (chain_in versions class id) (none_found (λ (v : Version). is_own (Some tx) v.stamp) (chain_in versions class id) (none class id)));
}
  where
    each : (v : Version) (ws : List Version) → AllByRecursion (λ (w : Version). is_own (Some tx) w.stamp ≡ false) ws → AllByRecursion (IsUnseenBy tx snapshot marks v) ws
    each v [] all = tt
    each v (w ∷ ws) all = ((λ n e f. let mine : is_own (Some tx) w.stamp ≡ true = own_itself tx w.stamp f in let other = all.0 in (cc)), each v ws all.1)

    unseen : (vs : List Version) → AllByRecursion (λ (w : Version). is_own (Some tx) w.stamp ≡ false) vs → Pairs (IsUnseenBy tx snapshot marks) vs
    unseen [] all = tt
    unseen (v ∷ vs) all = (each v vs all.1, unseen vs all.1)
