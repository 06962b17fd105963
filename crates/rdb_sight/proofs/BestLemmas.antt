-- The best version so far, as a slice of versions is read place by place.
use Rattle.std.proofs.Common.{◌≡◌, ℕ, ◌+◌, ◌<◌, ◌≤◌, Bool, true, false, cond, List, length, take, slice_get, get_or, Option, Some, None, IfSome, IfNone, refl, sym, ap, subst, ◌∙◌}
use Rattle.std.specs.Prelude.{option_and_then}
use Rattle.std.specs.Option.{option_map}
use Rattle.std.proofs.lemmas.Option.{slice_get-get_or}
use Rattle.std.proofs.lemmas.List.{take_all, take_more}
use Rattle.rdb_base.specs.declared.identity.TxId.{TxId}
use Rattle.rdb_base.specs.declared.identity.Stamp.{Stamp}
use Rattle.rdb_sight.specs.declared.Sighted.{Sighted}
use Rattle.rdb_sight.specs.Sight.{seen, seen_row, is_better}
use Rattle.rdb_sight.proofs.SightLemmas.{seen_more}

-- what is seen of the versions before a place
abbrev seen_before : ℕ → TxId → List Sighted → ℕ → Option Sighted
seen_before snapshot tx versions place = seen (λ v. v.stamp) snapshot (Some tx) (take place versions)

-- that the best so far, a place and its stamp, is the version that is seen
pub record IsBest (versions : List Sighted) (there : Option Sighted) (best : Option (ℕ × Stamp)) : Type 0 where
  pub none : IfNone best (there ≡ None)
  pub within : IfSome best (λ b. b.0 < length versions)
  pub same : IfSome best (λ b. slice_get versions b.0 ≡ there)
  pub stamp : option_map (λ b. b.1) best ≡ option_map (λ v. v.stamp) there

pub best_more : (snapshot : ℕ) (tx : TxId) (versions : List Sighted) (place : ℕ) (best new : Option (ℕ × Stamp)) (d : Sighted)
    → IsBest versions (seen_before snapshot tx versions place) best → place < length versions
    → new ≡ cond (is_better snapshot (Some tx) (option_map (λ b. b.1) best) (get_or versions place d).stamp) (Some (place, (get_or versions place d).stamp)) best
    → IsBest versions (seen_before snapshot tx versions (place + 1)) new
best_more snapshot tx versions place best new d is within makes =
    subst (λ (n : Option (ℕ × Stamp)). IsBest versions (seen_before snapshot tx versions (place + 1)) n) (sym makes)
    (subst (λ (s : Option Sighted). IsBest versions s (cond (is_better snapshot (Some tx) (option_map (λ b. b.1) best) v.stamp) (Some (place, v.stamp)) best)) (sym next)
    (go (is_better snapshot (Some tx) (option_map (λ b. b.1) best) v.stamp)))
  where
    v : Sighted
    v = get_or versions place d

    next : seen_before snapshot tx versions (place + 1) ≡ cond (is_better snapshot (Some tx) (option_map (λ b. b.1) best) v.stamp) (Some v) (seen_before snapshot tx versions place)
    next =
        ap (λ vs. seen (λ w. w.stamp) snapshot (Some tx) vs) (take_more versions place d within)
        ∙ seen_more (λ w. w.stamp) snapshot (Some tx) (take place versions) v
        ∙ ap (λ b. cond (is_better snapshot (Some tx) b v.stamp) (Some v) (seen_before snapshot tx versions place)) (sym is.stamp)

    go : (b : Bool) → IsBest versions (cond b (Some v) (seen_before snapshot tx versions place)) (cond b (Some (place, v.stamp)) best)
    go true = record { none = tt; within = within; same = slice_get-get_or versions place d within; stamp = refl }
    go false = is

-- the version at the best place at the end is the one that is seen of all
pub best_is : (snapshot : ℕ) (tx : TxId) (versions : List Sighted) (end place : ℕ) (s : Stamp) (best : Option (ℕ × Stamp)) (d : Sighted)
    → IsBest versions (seen_before snapshot tx versions end) best → length versions ≤ end → best ≡ Some (place, s)
    → (slice_get versions place ≡ Some (get_or versions place d))
    × (seen_row snapshot (Some tx) versions ≡ cond (get_or versions place d).tombstone None (Some (get_or versions place d)))
best_is snapshot tx versions end place s best d is past there =
    let found : IsBest versions (seen_before snapshot tx versions end) (Some (place, s)) = subst (λ (b : Option (ℕ × Stamp)). IsBest versions (seen_before snapshot tx versions end) b) there is in
    let here : slice_get versions place ≡ Some (get_or versions place d) = slice_get-get_or versions place d found.within in
    let all : seen (λ w. w.stamp) snapshot (Some tx) versions ≡ Some (get_or versions place d) = ap (λ vs. seen (λ w. w.stamp) snapshot (Some tx) vs) (sym (take_all end versions past)) ∙ sym found.same ∙ here in
    (here, ap (option_and_then (λ w. cond w.tombstone None (Some w))) all)

pub best_gone : (snapshot : ℕ) (tx : TxId) (versions : List Sighted) (end place : ℕ) (s : Stamp) (best : Option (ℕ × Stamp)) (d : Sighted)
    → IsBest versions (seen_before snapshot tx versions end) best → length versions ≤ end → best ≡ Some (place, s) → (get_or versions place d).tombstone ≡ true
    → seen_row snapshot (Some tx) versions ≡ None
best_gone snapshot tx versions end place s best d is past there gone =
    (best_is snapshot tx versions end place s best d is past there).1 ∙ ap (λ b. cond b None (Some (get_or versions place d))) gone

pub best_row : (snapshot : ℕ) (tx : TxId) (versions : List Sighted) (end place : ℕ) (s : Stamp) (best : Option (ℕ × Stamp)) (d : Sighted)
    → IsBest versions (seen_before snapshot tx versions end) best → length versions ≤ end → best ≡ Some (place, s) → (get_or versions place d).tombstone ≡ false
    → slice_get versions place ≡ seen_row snapshot (Some tx) versions
best_row snapshot tx versions end place s best d is past there row =
    let found = best_is snapshot tx versions end place s best d is past there in
    found.0 ∙ sym (found.1 ∙ ap (λ b. cond b None (Some (get_or versions place d))) row)
