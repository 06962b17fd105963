use Rattle.std.proofs.Common.{◌≡◌, ◌≤◌, take, drop, []}
use Rattle.rdb_model.specs.Journal.{commits}
use Rattle.rdb_model.specs.FirstFault.{first_at, misplaced}
use Rattle.rdb_model.specs.Tallies.{Counts, LastEnds, LastLeaves}
use Rattle.rdb_model.proofs.placing.first_misplaced.Given as goal

-- none of the entries so far is misplaced, and they are what is kept
abbrev pub invariant-loop-place : goal.invariant-loop-place
invariant-loop-place l = record {
  counted : Counts (take l.place l.entries) l.counts.items;
  count : l.count ≡ commits (take l.place l.entries);
  few : l.count ≤ l.place;
  ended : LastEnds (take l.place l.entries) l.transactions;
  left : LastLeaves (take l.place l.entries) l.clients;
  rest : first_at (misplaced l.within) (take l.place l.entries) (drop l.place l.entries) ≡ first_at (misplaced l.within) [] l.entries;
}
