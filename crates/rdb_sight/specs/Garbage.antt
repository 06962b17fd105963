-- Which versions no reader can see any more. Stamps are taken as they stand, marks not counted.
use Rattle.std.specs.Prelude.{ℕ, Bool, true, false, ◌&&◌, ◌||◌, nat_le, not, List, [], ◌∷◌, min, Option, Some, None}
use Rattle.std.specs.Option.{option_map_or}
use Rattle.rdb_base.specs.declared.identity.Stamp.{Stamp}
use Rattle.rdb_base.specs.declared.identity.Stamp.TheVariants as stamp

-- whether every open snapshot has a commit, given the least of them, if one is open
abbrev pub all_have : Option ℕ → ℕ → Bool
all_have floor commit = option_map_or (nat_le commit) floor true

-- the least number of a commit that one of the versions is of, if one is
abbrev pub least_commit : List Stamp → Option ℕ
least_commit [] = None
least_commit (stamp.Done commit ∷ stamps) = Some (option_map_or (min commit) (least_commit stamps) commit)
least_commit (stamp.By by ∷ stamps) = least_commit stamps

-- whether a version is garbage: its commit is done, and either every open snapshot has the commit of a newer version of its object, or it
-- is a tombstone which has no older version behind it and whose commit every open snapshot has
abbrev pub is_garbage : Stamp → Bool → Option ℕ → Bool → Option ℕ → Bool
is_garbage (stamp.Done commit) tombstone newer older floor =
    option_map_or (all_have floor) newer false || (tombstone && (not older && all_have floor commit))
is_garbage (stamp.By by) tombstone newer older floor = false
