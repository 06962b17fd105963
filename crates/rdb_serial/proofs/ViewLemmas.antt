-- Lists of versions class by class: the versions as a connection sees them, and one class or several from another list.
use Rattle.std.proofs.Common.{◌≡◌, ◌≢◌, ◌⊎◌, inl, inr, ℕ, zero, suc, ◌+◌, ◌<◌, ◌≤◌, Bool, true, false, cond, List, [], ◌∷◌, length, nat_eq, refl, sym, ap, subst, ◌∙◌, arith, slice_index_or, get_or-set_same, get_or-set_other, length-set}
use Rattle.std.proofs.lemmas.Bool.Decides.{nat_tests}
use Rattle.std.proofs.lemmas.List.{ext_get_or, get_or_past}
use Rattle.rdb_sight.specs.Versions.{Version, Object, Versions, chain_of, objects_in, chain_in, with_chain, with_chain_in}
use Rattle.rdb_shown.specs.Changes.{HasChain}
use Rattle.rdb_serial.specs.Progress.{holds}
use Rattle.rdb_serial.specs.Histories.{view_from, view, AreSameIn, with_class}

-- a class beyond all has no object
pub beyond : (versions : Versions) (class : ℕ) → length versions ≤ class → objects_in versions class ≡ []
beyond versions class le = get_or_past versions class [] le

-- two lists with the same objects in each class are one
pub same_versions : (a b : Versions) → length a ≡ length b → ((class : ℕ) → objects_in a class ≡ objects_in b class) → a ≡ b
same_versions a b many same = ext_get_or [] a b many (λ class lt. same class)

pub length_view : (latches first : ℕ) (settled aimed : Versions) → length (view_from latches first settled aimed) ≡ length settled
length_view latches first [] aimed = refl
length_view latches first (os ∷ oss) aimed = ap suc (length_view latches (first + 1) oss aimed)

view_at : (latches first : ℕ) (settled aimed : Versions) (k class : ℕ) → class ≡ first + k → k < length settled →
    slice_index_or (view_from latches first settled aimed) k [] ≡ cond (holds latches class) (objects_in aimed class) (slice_index_or settled k [])
view_at latches first [] aimed k class is within = absurd (omega (arith, within))
view_at latches first (os ∷ oss) aimed zero class is within =
    let same : first ≡ class = omega (arith, is) in
    ap (λ (c : ℕ). cond (holds latches c) (objects_in aimed c) os) same
view_at latches first (os ∷ oss) aimed (suc k) class is within = view_at latches (first + 1) oss aimed k class (omega (arith, is)) (omega (arith, within))

-- what is seen of a class: what is aimed at where its latch is held, else what is settled
pub view_latched : (latches : ℕ) (settled aimed : Versions) (class : ℕ) → length aimed ≡ length settled → holds latches class ≡ true → objects_in (view latches settled aimed) class ≡ objects_in aimed class
view_latched latches settled aimed class many held = go (nat_eq 0 0) (class_within class (length settled))
  where
    class_within : (c n : ℕ) → (c < n) ⊎ (n ≤ c)
    class_within c zero = inr (omega arith)
    class_within zero (suc n) = inl (omega arith)
    class_within (suc c) (suc n) = up (class_within c n)
      where
        up : (c < n) ⊎ (n ≤ c) → (suc c < suc n) ⊎ (suc n ≤ suc c)
        up (inl lt) = inl (omega (arith, lt))
        up (inr le) = inr (omega (arith, le))

    go : Bool → (class < length settled) ⊎ (length settled ≤ class) → objects_in (view latches settled aimed) class ≡ objects_in aimed class
    go b (inl lt) = view_at latches 0 settled aimed class class (omega arith) lt ∙ ap (λ (c : Bool). cond c (objects_in aimed class) (objects_in settled class)) held
    go b (inr le) =
        beyond (view latches settled aimed) class (let m = length_view latches 0 settled aimed in omega (arith, m, le))
        ∙ sym (beyond aimed class (omega (arith, many, le)))

pub view_free : (latches : ℕ) (settled aimed : Versions) (class : ℕ) → holds latches class ≡ false → objects_in (view latches settled aimed) class ≡ objects_in settled class
view_free latches settled aimed class free = free_at latches 0 settled aimed class class (omega arith) free
  where
    free_at : (latches first : ℕ) (settled aimed : Versions) (k class : ℕ) → class ≡ first + k → holds latches class ≡ false →
        slice_index_or (view_from latches first settled aimed) k [] ≡ slice_index_or settled k []
    free_at latches first [] aimed k class is free = refl
    free_at latches first (os ∷ oss) aimed zero class is free =
        let same : first ≡ class = omega (arith, is) in
        ap (λ (c : ℕ). cond (holds latches c) (objects_in aimed c) os) same ∙ ap (λ (b : Bool). cond b (objects_in aimed class) os) free
    free_at latches first (os ∷ oss) aimed (suc k) class is free = free_at latches (first + 1) oss aimed k class (omega (arith, is)) free

-- each class is seen as it is aimed at or as it is settled
pub view_either : (latches : ℕ) (settled aimed : Versions) (class : ℕ) → length aimed ≡ length settled →
    AreSameIn class (view latches settled aimed) aimed ⊎ AreSameIn class (view latches settled aimed) settled
view_either latches settled aimed class many = go (holds latches class) refl
  where
    go : (b : Bool) → holds latches class ≡ b → AreSameIn class (view latches settled aimed) aimed ⊎ AreSameIn class (view latches settled aimed) settled
    go true e = inl (view_latched latches settled aimed class many e)
    go false e = inr (view_free latches settled aimed class e)

-- a view is another where each of its classes is
pub view_is : (latches : ℕ) (settled aimed now : Versions) → length aimed ≡ length settled → length now ≡ length settled →
    ((class : ℕ) → holds latches class ≡ true → objects_in now class ≡ objects_in aimed class) →
    ((class : ℕ) → holds latches class ≡ false → objects_in now class ≡ objects_in settled class) →
    view latches settled aimed ≡ now
view_is latches settled aimed now many count latched free =
    same_versions (view latches settled aimed) now (length_view latches 0 settled aimed ∙ sym count) (λ class. go class (holds latches class) refl)
  where
    go : (class : ℕ) (b : Bool) → holds latches class ≡ b → objects_in (view latches settled aimed) class ≡ objects_in now class
    go class true e = view_latched latches settled aimed class many e ∙ sym (latched class e)
    go class false e = view_free latches settled aimed class e ∙ sym (free class e)

-- two views are one where their latched classes are aimed at, and the others settled, alike
pub views_are_one : (latches : ℕ) (settled aimed settled_now aimed_now : Versions) → length aimed ≡ length settled → length aimed_now ≡ length settled_now →
    length settled_now ≡ length settled → ((class : ℕ) → holds latches class ≡ true → objects_in aimed_now class ≡ objects_in aimed class) →
    ((class : ℕ) → holds latches class ≡ false → objects_in settled_now class ≡ objects_in settled class) →
    view latches settled_now aimed_now ≡ view latches settled aimed
views_are_one latches settled aimed settled_now aimed_now many many_now count latched free =
    view_is latches settled_now aimed_now (view latches settled aimed) many_now (length_view latches 0 settled aimed ∙ sym count)
    (λ class e. view_latched latches settled aimed class many e ∙ sym (latched class e))
    (λ class e. view_free latches settled aimed class e ∙ sym (free class e))

-- one class from another list
pub class_here : (versions : Versions) (class : ℕ) (others : Versions) → class < length versions → objects_in (with_class versions class others) class ≡ objects_in others class
class_here versions class others lt = get_or-set_same versions class (objects_in others class) [] lt

pub class_elsewhere : (versions : Versions) (class : ℕ) (others : Versions) (other : ℕ) → other ≢ class → objects_in (with_class versions class others) other ≡ objects_in versions other
class_elsewhere versions class others other differs = get_or-set_other versions class other (objects_in others class) [] differs

-- the same change of one chain, in other lists that have the same objects in its class
pub moved_chain : (before after was now : Versions) (class id : ℕ) (chain : List Version) → HasChain before after class id chain → class < length was → length now ≡ length was →
    objects_in was class ≡ objects_in before class → objects_in now class ≡ objects_in after class → ((other : ℕ) → other ≢ class → objects_in now other ≡ objects_in was other) →
    HasChain was now class id chain
moved_chain before after was now class id chain has there many here_was here_now elsewhere = record { class_there = there; is = same_versions now (with_chain_in was class id chain) (many ∙ sym (length-set was class (with_chain (objects_in was class) id chain))) each }
  where
    each : (other : ℕ) → objects_in now other ≡ objects_in (with_chain_in was class id chain) other
    each other = go (nat_eq other class) refl
      where
        go : (b : Bool) → nat_eq other class ≡ b → objects_in now other ≡ objects_in (with_chain_in was class id chain) other
        go false e =
            let differs : other ≢ class = grind (arith, nat_tests) in
            elsewhere other differs ∙ sym (get_or-set_other was class other (with_chain (objects_in was class) id chain) [] differs)
        go true e =
            let same : class ≡ other = grind (arith, nat_tests) in
            subst (λ (k : ℕ). objects_in now k ≡ objects_in (with_chain_in was class id chain) k) same
            (here_now ∙ ap (λ (vs : Versions). objects_in vs class) has.is
            ∙ get_or-set_same before class (with_chain (objects_in before class) id chain) [] has.class_there
            ∙ ap (λ (os : List Object). with_chain os id chain) (sym here_was)
            ∙ sym (get_or-set_same was class (with_chain (objects_in was class) id chain) [] there))

pub same_chain : (a b : Versions) (class id : ℕ) → objects_in a class ≡ objects_in b class → chain_in a class id ≡ chain_in b class id
same_chain a b class id same = ap (λ (os : List Object). chain_of os id) same
