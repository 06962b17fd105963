-- Which version of an object a reader sees. A reader has a snapshot, which is the number of commits that it sees, and may have a
-- transaction of its own.
use Rattle.std.specs.Prelude.{ℕ, Bool, true, false, ◌&&◌, ◌||◌, ◌==◌, nat_le, nat_lt, not, List, [], ◌∷◌, Option, Some, None, is_some, option_and_then, if◌then◌else◌}
use Rattle.std.specs.List.{find}
use Rattle.std.specs.Option.{option_or}
use Rattle.rdb_base.specs.declared.identity.TxId.{TxId}
use Rattle.rdb_base.specs.declared.identity.Stamp.{Stamp}
use Rattle.rdb_base.specs.declared.identity.Stamp.TheVariants as stamp
use Rattle.rdb_sight.specs.declared.Sighted.{Sighted}

-- whether two transactions are one
abbrev pub same_tx : TxId → TxId → Bool
same_tx a b = (a.conn.slot == b.conn.slot) && ((a.conn.serial == b.conn.serial) && (a.number == b.number))

-- whether a version is one of the reader's own transaction
abbrev pub is_own : Option TxId → Stamp → Bool
is_own (Some tx) (stamp.By by) = same_tx by tx
is_own (Some tx) (stamp.Done commit) = false
is_own None version = false

-- the number of the commit that a version is of, if a snapshot has that commit
abbrev pub commit_within : ℕ → Stamp → Option ℕ
commit_within snapshot (stamp.Done commit) = if nat_le commit snapshot then Some commit else None
commit_within snapshot (stamp.By by) = None

-- whether there is the first number, and no second one that isn't below it
abbrev pub exceeds : Option ℕ → Option ℕ → Bool
exceeds None other = false
exceeds (Some n) None = true
exceeds (Some n) (Some other) = nat_lt other n

-- the element whose number is the greatest; the first such one, and none where no element has a number
abbrev pub greatest : {A : Type 0} → (A → Option ℕ) → List A → Option A
greatest number_of [] = None
greatest number_of (x ∷ xs) =
    let rest = greatest number_of xs in
    if exceeds (option_and_then number_of rest) (number_of x) then rest else (if is_some (number_of x) then Some x else None)

-- the version that a reader sees: its own, or else the one of the latest commit that its snapshot has
abbrev pub seen : {V : Type 0} → (V → Stamp) → ℕ → Option TxId → List V → Option V
seen stamp_of snapshot own versions =
    option_or (find (λ v. is_own own (stamp_of v)) versions) (greatest (λ v. commit_within snapshot (stamp_of v)) versions)

-- whether a version is seen in place of the one that is seen among those before it, if there is one
abbrev pub is_better : ℕ → Option TxId → Option Stamp → Stamp → Bool
is_better snapshot own None version = is_own own version || is_some (commit_within snapshot version)
is_better snapshot own (Some best) version =
    not (is_own own best) && (is_own own version || exceeds (commit_within snapshot version) (commit_within snapshot best))

-- the version that a reader sees, unless it is a tombstone: then there is no object
abbrev pub seen_row : ℕ → Option TxId → List Sighted → Option Sighted
seen_row snapshot own versions = option_and_then (λ v. if v.tombstone then None else Some v) (seen (λ v. v.stamp) snapshot own versions)
