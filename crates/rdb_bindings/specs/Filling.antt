-- What the names of a script stand for, and the operations that its lines ask for.
use Rattle.std.specs.Prelude.{ℕ, zero, suc, ◌+◌, Bool, true, false, List, [], ◌∷◌, length, map, take, slice_get, Option, Some, None}
use Rattle.std.specs.List.{flat_map}
use Rattle.std.specs.Option.{option_and_then, option_map, option_map_or}
use Rattle.std.specs.Str.{bytes_eq}
use Rattle.rdb_base.specs.declared.operation.Op.{Op}
use Rattle.rdb_base.specs.declared.operation.Op.TheVariants as op
use Rattle.rdb_base.specs.declared.operation.Place.{Place}
use Rattle.rdb_base.specs.declared.operation.Place.TheVariants as place
use Rattle.rdb_base.specs.declared.operation.Reply.{Reply}
use Rattle.rdb_base.specs.declared.operation.Reply.TheVariants as reply
use Rattle.rdb_script.specs.declared.unit.ScriptLine.{ScriptLine}
use Rattle.rdb_script.specs.declared.unit.Unit.{Unit as ScriptUnit}
use Rattle.rdb_script.specs.declared.unit.Unit.TheVariants as unit
use Rattle.rdb_model.specs.Answer.{find_last}
use Rattle.rdb_bindings.specs.declared.referent.Referent.{Referent}
use Rattle.rdb_bindings.specs.declared.referent.Referent.TheVariants as referent

-- ---- the lines of a script, in order through all its transactions

-- the lines of a unit: only a transaction has any
abbrev pub lines_in : ScriptUnit → List ScriptLine
lines_in (unit.Tx mode retries lines commits) = lines
lines_in _ = []

abbrev pub lines_of : List ScriptUnit → List ScriptLine
lines_of units = flat_map lines_in units

-- the number of a unit's line, from 0 at the script's first line
abbrev pub number_of : List ScriptUnit → ℕ → ℕ → ℕ
number_of units unit at = length (lines_of (take unit units)) + at

-- ---- the replies so far

-- lines, each with the last reply that it got, if it got one
abbrev pub Answered : Type 0
Answered = List (ScriptLine × Option Reply)

abbrev pub lines_answered : Answered → List ScriptLine
lines_answered answered = map (λ l. l.0) answered

-- no line has got a reply
abbrev pub unanswered : List ScriptLine → Answered
unanswered lines = map (λ line. (line, None)) lines

-- a line of that number has got a reply
abbrev pub noted : Answered → ℕ → Reply → Answered
noted [] number told = []
noted (l ∷ ls) zero told = (l.0, Some told) ∷ ls
noted (l ∷ ls) (suc number) told = l ∷ noted ls number told

-- ---- what a name stands for

-- whether a line assigns the name
abbrev pub assigns : List ℕ → ScriptLine → Bool
assigns name line = option_map_or (λ own. bytes_eq own name) line.name false

-- the reply that decides about a name: the last one to the last of the lines that assign it, if that line has got one
abbrev pub reply_for : List ℕ → Answered → Option Reply
reply_for name above = option_and_then (λ l. l.1) (find_last (λ l. assigns name l.0) above)

-- what a reply gives a name: the object made, the first object found, or the place found with its object; else nothing
abbrev pub given : Reply → Option Referent
given (reply.Made id) = Some (referent.Object id)
given (reply.Ids ids) = option_map referent.Object (slice_get ids 0)
given (reply.At key id) = Some (referent.Found key id)
given _ = None

-- what a name stands for, if it stands for something
abbrev pub referent_of : List ℕ → Answered → Option Referent
referent_of name above = option_and_then given (reply_for name above)

-- ---- what a line asks for

-- the id of no object
abbrev pub no_object : ℕ
no_object = 0

-- the object that a name stands for; where it stands for nothing, the id of none
abbrev pub target : Option Referent → ℕ
target None = no_object
target (Some (referent.Object id)) = id
target (Some (referent.Found key id)) = id

-- the place that a name stands for; where it stands for none, the one beyond which there is nothing
abbrev pub origin : Bool → Option Referent → Place
origin up (Some (referent.Found key id)) = place.At key id
origin true _ = place.End
origin false _ = place.Start

-- an operation with what a name stands for as its object or its place
abbrev pub with_referent : Option Referent → Op → Op
with_referent found (op.Get class id) = op.Get class (target found)
with_referent found (op.Put class id row) = op.Put class (target found) row
with_referent found (op.Del class id) = op.Del class (target found)
with_referent found (op.Seek class index from up) = op.Seek class index (origin up found) up
with_referent found asked = asked

-- the operation that a line asks for, by the lines above it and their last replies
abbrev pub filled : Answered → ScriptLine → Op
filled above line = option_map_or (λ name. with_referent (referent_of name above) line.op) line.from line.op
