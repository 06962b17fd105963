-- Where the first faults of a journal are: at places of it.
use Rattle.std.proofs.Common.{◌≡◌, ℕ, ◌<◌, ◌≤◌, Bool, true, false, cond, List, [], length, take, Option, Some, None, IfSome, refl, sym, arith, length-take}
use Rattle.rdb_base.specs.declared.journal.Entry.{Entry}
use Rattle.rdb_model.specs.declared.legality.Why.{Why}
use Rattle.rdb_model.specs.declared.legality.Why.TheVariants as why
use Rattle.rdb_model.specs.declared.legality.Span.{Span}
use Rattle.rdb_model.specs.Journal.{breaks_number, breaks_twice, breaks_place}
use Rattle.rdb_model.specs.Parts.{IsWellPlaced}
use Rattle.rdb_model.specs.FirstFault.{first_at, misplaced, before}
use Rattle.rdb_model.proofs.FirstFaultLemmas.{first_at_within, no_fault_at}

-- the first fault of a journal is at one of its places
pub first_within : {A : Type 0} (fault : List Entry → Entry → Option A) (journal : List Entry) (found : Option (ℕ × A)) → found ≡ first_at fault [] journal → IfSome found (λ f. f.0 < length journal)
first_within fault journal None is = tt
first_within fault journal (Some f) is = let h = first_at_within fault [] journal f (sym is) in omega arith

-- the entries before the first misplaced one are no more than all
pub before_length : (found : Option (ℕ × Why)) (journal : List Entry) → length (before found journal) ≤ length journal
before_length None journal = omega arith
before_length (Some f) journal = let h = length-take f.0 journal in omega arith

-- the first fault of those before a misplaced entry is at a place of the journal
pub wrong_within : {A : Type 0} (fault : List Entry → Entry → Option A) (journal : List Entry) (found : Option (ℕ × Why)) (wrong : Option (ℕ × A)) → wrong ≡ first_at fault [] (before found journal) → IfSome wrong (λ w. w.0 < length journal)
wrong_within fault journal found None is = tt
wrong_within fault journal found (Some w) is = let h = first_within fault (before found journal) (Some w) is in let n = before_length found journal in omega arith

-- where nothing is misplaced, each transaction is well placed
pub well_placed : (within : Span) (journal : List Entry) → first_at (misplaced within) [] journal ≡ None → IsWellPlaced journal
well_placed within journal none place e at = go (breaks_number (take place journal) e) (breaks_twice within (take place journal) e) (breaks_place (take place journal) e) (no_fault_at (misplaced within) [] journal place e none at)
  where
    go : (n t p : Bool) → cond n (Some why.Number) (cond t (Some why.Twice) (cond p (Some why.Place) None)) ≡ None → p ≡ false
    go true t p h = absurd (cc)
    go false true p h = absurd (cc)
    go false false true h = absurd (cc)
    go false false false h = refl
