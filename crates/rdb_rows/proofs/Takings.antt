-- A work that took its lowest cells one after another, and planned pairs of these.
use Rattle.std.proofs.Common.{◌≡◌, ◌<◌, ◌≤◌, ◌+◌, ◌++◌, suc, ℕ, List, [], ◌∷◌, length, false, inl, inr, refl, subst, arith}
use Rattle.rdb_cells.specs.declared.pairs.Pair.{Pair}
use Rattle.rdb_cells.specs.Links.{IsAmong, AreOnce}
use Rattle.rdb_cells.specs.Records.{names, numbers_of}
use Rattle.rdb_cells.specs.Untaken.{IsNextUntaken}
use Rattle.rdb_cells.specs.Work.{Work, IsLeft, TakesAtMost, TakesNone, TakesLowest}
use Rattle.rdb_cells.proofs.WorkLemmas.{take_one, lowest_take, lowest_then, lowest_none, at_most_then, none_at_most}
use Rattle.rdb_rows.specs.Plans.{AreNextLeft, last_number}
use Rattle.rdb_rows.proofs.Pairings.{named_before, unnamed_both, unnamed_when}

-- so many were taken
abbrev pub taking : Work → List ℕ → Work
taking w ns = record w { taken = last_number w.taken ns }

pub taken_above : (w : Work) (ns : List ℕ) → AreNextLeft w ns → w.taken ≤ last_number w.taken ns
taken_above w [] next = omega arith
taken_above w (n ∷ ns) next = let here = next.0.untaken.above in let later = taken_above (record w { taken = n }) ns next.1 in omega arith

-- each of them stands above what was taken before, and not above the last
pub among_above : (w : Work) (ns : List ℕ) (m : ℕ) → AreNextLeft w ns → IsAmong ns m → (w.taken < m) × (m ≤ last_number w.taken ns)
among_above w [] m next within = absurd within
among_above w (n ∷ ns) m next (inl same) =
    let here = next.0.untaken.above in
    let later = taken_above (record w { taken = n }) ns next.1 in
    (omega arith, omega arith)
among_above w (n ∷ ns) m next (inr within) =
    let here = next.0.untaken.above in
    let there = among_above (record w { taken = n }) ns m next.1 within in
    (let above = there.0 in omega arith, there.1)

pub taken_once : (w : Work) (ns : List ℕ) → AreNextLeft w ns → AreOnce ns
taken_once w [] next = tt
taken_once w (n ∷ ns) next = (
  λ within. let above = (among_above (record w { taken = n }) ns n next.1 within).0 in absurd (omega arith),
  taken_once (record w { taken = n }) ns next.1,
)

-- each of them could be taken
pub was_left : (w : Work) (ns : List ℕ) (m : ℕ) → AreNextLeft w ns → IsAmong ns m → IsLeft w m
was_left w [] m next within = absurd within
was_left w (n ∷ ns) m next (inl same) = subst (IsLeft w) same next.0.untaken
was_left w (n ∷ ns) m next (inr within) =
    let left = was_left (record w { taken = n }) ns m next.1 within in
    let here = next.0.untaken.above in
    let above = left.above in
    record { above = omega arith; free = left.free; unplanned = left.unplanned }

pub take_more : (w : Work) (ns : List ℕ) (n : ℕ) → AreNextLeft w ns → IsNextUntaken w.pairs w.below w.class_of w.class (last_number w.taken ns) n → AreNextLeft w (ns ++ n ∷ [])
take_more w [] n next last = (last, tt)
take_more w (m ∷ ns) n next last = (next.0, take_more (record w { taken = m }) ns n next.1 last)

pub last_more : (taken : ℕ) (ns : List ℕ) (n : ℕ) → last_number taken (ns ++ n ∷ []) ≡ n
last_more taken [] n = refl
last_more taken (m ∷ ns) n = last_more m ns n

-- taking them takes so many at most, and the lowest
pub takes_so_many : (w : Work) (ns : List ℕ) → AreNextLeft w ns → TakesAtMost (length ns) w (taking w ns)
takes_so_many w [] next = none_at_most w w (λ n. (λ left. left, λ left. left))
takes_so_many w (n ∷ ns) next =
    let same : 1 + length ns ≡ suc (length ns) = omega arith in
    subst (λ (many : ℕ). TakesAtMost many w (taking w (n ∷ ns))) same
    (at_most_then 1 (length ns) w (record w { taken = n }) (taking w (n ∷ ns)) (take_one w (record { number = n }) next.0) (takes_so_many (record w { taken = n }) ns next.1))

pub takes_the_lowest : (w : Work) (ns : List ℕ) → AreNextLeft w ns → TakesLowest w (taking w ns) ns
takes_the_lowest w [] next = lowest_none w w [] (λ n. (λ left. left, λ left. left)) (λ n none. absurd none)
takes_the_lowest w (n ∷ ns) next =
    lowest_then (n ∷ []) ns w (record w { taken = n }) (taking w (n ∷ ns)) (lowest_take w (record { number = n }) next.0) (takes_the_lowest (record w { taken = n }) ns next.1)

-- with pairs of cells that were taken
module _ (w : Work) (ns : List ℕ) (new : List Pair) (next : AreNextLeft w ns) (within : (n : ℕ) → IsAmong (numbers_of new) n → IsAmong ns n) where
  abbrev pub planning : Work
  planning = record w { pairs = w.pairs ++ new; taken = last_number w.taken ns }

  unnamed_above : (n : ℕ) → last_number w.taken ns < n → names new n ≡ false
  unnamed_above n above = unnamed_when new n (λ among. let below = (among_above w ns n next (within n among)).1 in absurd (omega arith))

  pub plans_none : TakesNone (taking w ns) planning
  plans_none n = (
    λ left. record { above = left.above; free = left.free; unplanned = named_before w.pairs new n left.unplanned },
    λ left. record { above = left.above; free = left.free; unplanned = unnamed_both w.pairs new n left.unplanned (unnamed_above n left.above) },
  )

  pub plans_at_most : TakesAtMost (length ns) w planning
  plans_at_most =
      let same : length ns + 0 ≡ length ns = omega arith in
      subst (λ (many : ℕ). TakesAtMost many w planning) same
      (at_most_then (length ns) 0 w (taking w ns) planning (takes_so_many w ns next) (none_at_most (taking w ns) planning plans_none))

  pub plans_lowest : TakesLowest w planning ns
  plans_lowest = record {
    left = λ n. (
      λ left. ((takes_the_lowest w ns next).left n).0 ((plans_none n).0 left),
      λ both. (plans_none n).1 (((takes_the_lowest w ns next).left n).1 both),
    );
    above = λ m n among left after. (takes_the_lowest w ns next).above m n among left ((plans_none n).0 after);
  }

  -- the next one is that of the work without the pairs
  pub plans_next : (n : ℕ) → IsNextUntaken planning.pairs planning.below planning.class_of planning.class planning.taken n → IsNextUntaken w.pairs w.below w.class_of w.class (last_number w.taken ns) n
  plans_next n is = record {
    untaken = (plans_none n).0 is.untaken;
    lowest = λ lower below left. is.lowest lower below ((plans_none lower).1 left);
  }
