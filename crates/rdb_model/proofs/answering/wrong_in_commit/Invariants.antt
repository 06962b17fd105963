use Rattle.std.proofs.Common.{◌≡◌, ℕ, ◌+◌, ◌++◌, List, length, take, drop}
use Rattle.std.specs.Option.{option_or}
use Rattle.rdb_model.specs.Story.{after}
use Rattle.rdb_model.specs.Journal.{wrong_reply, made_in}
use Rattle.rdb_model.specs.Tallies.{HasMade}
use Rattle.rdb_model.proofs.answering.wrong_in_commit.Given as goal

-- the first wrong operation so far, or else of those that are left, is that of all
abbrev pub invariant-loop-place : goal.invariant-loop-place
invariant-loop-place l = record {
  classes : length l.db ≡ length l.fn.db;
  next : after l.schema l.db (drop l.place l.operations) ≡ after l.schema l.fn.db l.done;
  objects : (objects : List (ℕ × ℕ)) → HasMade objects l.fn.made → HasMade (objects ++ made_in (take l.place l.operations)) l.made;
  left : (objects : List (ℕ × ℕ)) → HasMade objects l.fn.made → option_or l.wrong (wrong_reply l.schema l.db (objects ++ made_in (take l.place l.operations)) (l.place + 1) (drop l.place l.operations)) ≡ wrong_reply l.schema l.fn.db objects 1 l.done;
}
