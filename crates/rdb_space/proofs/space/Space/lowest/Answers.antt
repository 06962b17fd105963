use Rattle.std.proofs.Common.{subst, arith}
use Rattle.rdb_space.specs.Space.{PageTable, IsLowestUnowned, AllOwned}
use Rattle.rdb_space.proofs.SpaceLemmas.{lowest_unowned, all_owned}
use Rattle.rdb_space.proofs.space.Space.lowest.Goals as goal

pub returns-then-self-len-clause-found : goal.returns-then-self-len-clause-found
returns-then-self-len-clause-found c =
    let s = c.self.inside in
    subst (λ (t : PageTable). IsLowestUnowned t.pages s.granted) c.self.view_is (lowest_unowned s.pages.items s.granted c.self.invariant.owners (omega arith))

pub returns-else-self-len-clause-none : goal.returns-else-self-len-clause-none
returns-else-self-len-clause-none c =
    let s = c.self.inside in
    subst (λ (t : PageTable). AllOwned t.pages) c.self.view_is (all_owned s.pages.items s.granted c.self.invariant.owners (omega arith))
