use Rattle.std.proofs.Common.{ℕ, nat_eq, ap}
use Rattle.rdb_history.specs.Watches.{pair_of}
use Rattle.rdb_history.proofs.NoteLemmas.{same_next, never_next, equal_places, test_to_equal, equal_to_test}
use Rattle.rdb_history.proofs.watches.is_next.Goals as goal

pub returns-then-next-is : goal.returns-then-next-is
returns-then-next-is c =
    same_next c.args.class c.args.kind c.args.journal.now.entries (pair_of c.args.place) (pair_of c.in-Some.next) (pair_of c.args.is) (nat_eq c.in-Some.next.id c.args.is.id)
    (λ e. equal_places (pair_of c.in-Some.next) (pair_of c.args.is) c.if-next-is.true (test_to_equal c.in-Some.next.id c.args.is.id e))
    (λ e. equal_to_test c.in-Some.next.id c.args.is.id (ap (λ (p : ℕ × ℕ). p.1) e)) c.in-Some.ensures.some

pub returns-else-next-is : goal.returns-else-next-is
returns-else-next-is c =
    same_next c.args.class c.args.kind c.args.journal.now.entries (pair_of c.args.place) (pair_of c.in-Some.next) (pair_of c.args.is) (nat_eq c.in-Some.next.commit c.args.is.commit)
    (λ e. absurd (c.if-next-is.false (test_to_equal c.in-Some.next.commit c.args.is.commit e)))
    (λ e. equal_to_test c.in-Some.next.commit c.args.is.commit (ap (λ (p : ℕ × ℕ). p.0) e)) c.in-Some.ensures.some

pub returns-in-None : goal.returns-in-None
returns-in-None c = never_next c.args.class c.args.kind c.args.journal.now.entries (pair_of c.args.place) (pair_of c.args.is) c.in-None.ensures.none
