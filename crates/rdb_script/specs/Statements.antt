-- What a line of a script says, for a schema and what the names stand for above it.
use Rattle.std.specs.Prelude.{◌≡◌, ⊤, ℕ, ◌+◌, ◌^◌, ◌<◌, ◌-◌, ◌≤◌, Bool, true, false, ◌==◌, ◌||◌, ◌&&◌, not, nat_le, nat_lt, IsTrue, List, [], ◌∷◌, ◌++◌, length, take, drop, slice_get, slice_index, position, if◌then◌else◌, Option, Some, None, IfSome, codes}
use Rattle.std.specs.Option.{option_and_then, option_map, option_map_or}
use Rattle.std.specs.Ordering.{nat_cmp}
use Rattle.std.specs.Cmp.Lexicographic.{slice_cmp}
use Rattle.std.specs.Char.{is_ascii_digit}
use Rattle.std.specs.FinMap.{FinMap, get}
use Rattle.std.specs.Str.{IsUtf8, bytes_eq}
use Rattle.std.specs.Str.Parse.{IsNumeral, digits_value}
use Rattle.rdb_base.specs.declared.identity.Kind.{Kind}
use Rattle.rdb_base.specs.declared.identity.Kind.TheVariants as kind
use Rattle.rdb_base.specs.declared.operation.Op.{Op}
use Rattle.rdb_base.specs.declared.operation.Op.TheVariants as op
use Rattle.rdb_base.specs.declared.operation.How.{How}
use Rattle.rdb_base.specs.declared.operation.How.TheVariants as how
use Rattle.rdb_base.specs.declared.operation.Place.{Place}
use Rattle.rdb_base.specs.declared.operation.Place.TheVariants as place
use Rattle.rdb_base.specs.declared.value.Rect.{Rect}
use Rattle.rdb_base.specs.declared.value.Value.{Value}
use Rattle.rdb_schema.specs.declared.schema.Class.{Class}
use Rattle.rdb_schema.specs.declared.schema.IndexDecl.{IndexDecl}
use Rattle.rdb_schema.specs.declared.schema.IndexKind.{IndexKind}
use Rattle.rdb_schema.specs.declared.schema.Event.{Event}
use Rattle.rdb_schema.specs.declared.schema.Schema.{Schema}
use Rattle.rdb_schema.specs.Indexes.{finds_keys, is_tree, is_rtree, is_patricia}
use Rattle.rdb_schema.specs.Values.{row_length}
use Rattle.rdb_script.specs.declared.names.Assigned.{Assigned}
use Rattle.rdb_script.specs.declared.statement.Keyword.{Keyword}
use Rattle.rdb_script.specs.declared.statement.Keyword.TheVariants as keyword
use Rattle.rdb_script.specs.declared.statement.Verb.{Verb}
use Rattle.rdb_script.specs.declared.statement.Verb.TheVariants as verb
use Rattle.rdb_script.specs.declared.statement.Where.{Where}
use Rattle.rdb_script.specs.declared.statement.Where.TheVariants as from_where
use Rattle.rdb_script.specs.declared.statement.Statement.{Statement}
use Rattle.rdb_script.specs.declared.statement.Statement.TheVariants as saying
use Rattle.rdb_script.specs.declared.statement.Call.{Call}
use Rattle.rdb_script.specs.declared.statement.Member.{Member}
use Rattle.rdb_script.specs.declared.statement.Origin.{Origin}
use Rattle.rdb_script.specs.declared.statement.Target.{Target}
use Rattle.rdb_script.specs.declared.unit.ScriptLine.{ScriptLine}
use Rattle.rdb_script.specs.Lines.{word, behind, after_blanks, is_end, is_comment, is_name, name_in}
use Rattle.rdb_literals.specs.SpelledValues.{IsSpelledRow, IsSpelledKey, IsSpelledText, IsRectText}

-- what names stand for
abbrev pub Known : Type 0
Known = FinMap (slice_cmp nat_cmp) Assigned

-- ---- words

-- the operation that a word asks for
unfoldable pub verb_of : List ℕ → Option Verb
verb_of w =
    if bytes_eq w (codes "new") then Some verb.New
    else (if bytes_eq w (codes "get") then Some verb.Get
    else (if bytes_eq w (codes "put") then Some verb.Put
    else (if bytes_eq w (codes "del") then Some verb.Del
    else (if bytes_eq w (codes "find") then Some verb.Find
    else (if bytes_eq w (codes "seek") then Some verb.Seek
    else (if bytes_eq w (codes "area") then Some verb.Area
    else (if bytes_eq w (codes "prefix") then Some verb.Prefix
    else (if bytes_eq w (codes "count") then Some verb.Count
    else None))))))))

-- what a word that begins a line asks for
unfoldable pub keyword_of : List ℕ → Option Keyword
keyword_of w =
    if bytes_eq w (codes "stop") then Some keyword.Stop
    else (if bytes_eq w (codes "begin") then Some keyword.Begin
    else (if bytes_eq w (codes "commit") then Some keyword.Commit
    else (if bytes_eq w (codes "rollback") then Some keyword.Rollback
    else (if bytes_eq w (codes "watch") then Some keyword.Watch
    else (if bytes_eq w (codes "poll") then Some keyword.Poll
    else option_map keyword.Operation (verb_of w))))))

unfoldable pub where_of : List ℕ → Option Where
where_of w =
    if bytes_eq w (codes "first") then Some from_where.First
    else (if bytes_eq w (codes "last") then Some from_where.Last
    else (if bytes_eq w (codes "ge") then Some from_where.Ge
    else (if bytes_eq w (codes "gt") then Some from_where.Gt
    else (if bytes_eq w (codes "le") then Some from_where.Le
    else (if bytes_eq w (codes "lt") then Some from_where.Lt
    else (if bytes_eq w (codes "next") then Some from_where.Next
    else (if bytes_eq w (codes "prev") then Some from_where.Prev
    else None)))))))

unfoldable pub how_of : List ℕ → Option How
how_of w =
    if bytes_eq w (codes "exact") then Some how.Exact
    else (if bytes_eq w (codes "longest") then Some how.Longest
    else (if bytes_eq w (codes "starting") then Some how.Starting
    else None))

-- whether an `area` looks for what lies inside
unfoldable pub inside_of : List ℕ → Option Bool
inside_of w = if bytes_eq w (codes "inside") then Some true else (if bytes_eq w (codes "overlaps") then Some false else None)

-- a word is a number in decimal digits, within these bounds; zeros may lead
abbrev pub IsNumber : ℕ → ℕ → List ℕ → ℕ → Type 0
IsNumber least most w number = IsNumeral 10 w × (digits_value 10 w ≡ number) × (least ≤ number) × (number ≤ most)

-- ---- the schema's words

-- a place of a list, where it has 32 bits
abbrev pub small : Option ℕ → Option ℕ
small found = option_and_then (λ place. if nat_lt place (2 ^ 32) then Some place else None) found

-- the class of a name
unfoldable pub class_of : Schema → List ℕ → Option ℕ
class_of schema name = small (position (λ c. bytes_eq c.name name) schema.classes)

-- the class and the name before and behind the first `.` of a word
abbrev pub class_before : Schema → List ℕ → Option ℕ → Option (ℕ × List ℕ)
class_before schema w None = None
class_before schema w (Some dot) = option_map (λ class. (class, drop (dot + 1) w)) (class_of schema (take dot w))

unfoldable pub member_in : Schema → List ℕ → Option (ℕ × List ℕ)
member_in schema w = class_before schema w (position (λ byte. byte == 46) w)

abbrev pub index_place : Schema → ℕ → List ℕ → Option ℕ
index_place schema class name = option_map_or (λ c. small (position (λ i. bytes_eq i.name name) c.indexes)) (slice_get schema.classes class) None

abbrev pub event_place : Schema → ℕ → List ℕ → Option ℕ
event_place schema class name = option_map_or (λ c. small (position (λ e. bytes_eq e.name name) c.events)) (slice_get schema.classes class) None

abbrev pub as_member : ℕ → ℕ → Member
as_member class place = record { class = class; place = place }

-- the index that a word `CLASS.INDEX` names
unfoldable pub index_of : Schema → List ℕ → Option Member
index_of schema w = option_and_then (λ m. option_map (as_member m.0) (index_place schema m.0 m.1)) (member_in schema w)

-- the event that a word `CLASS.EVENT` names
unfoldable pub event_of : Schema → List ℕ → Option Member
event_of schema w = option_and_then (λ m. option_map (as_member m.0) (event_place schema m.0 m.1)) (member_in schema w)

abbrev pub kind_of : Schema → Member → Option IndexKind
kind_of schema m = option_map_or (λ c. option_map (λ i. i.kind) (slice_get c.indexes m.place)) (slice_get schema.classes m.class) None

-- the index that a word names, where its kind passes a test
unfoldable pub index_with : (IndexKind → Bool) → Schema → List ℕ → Option Member
index_with passes schema w = option_and_then (λ m. if option_map_or passes (kind_of schema m) false then Some m else None) (index_of schema w)

-- whether scripts may name a class's objects by number
unfoldable pub has_autoid : Schema → ℕ → Bool
has_autoid schema class = option_map_or (λ c. c.autoid) (slice_get schema.classes class) false

-- ---- what stands behind the words: all of the text but blanks

-- a row of a class, whose encoding has at most 4,000 bytes
pub record IsLastRow (schema : Schema) (class : ℕ) (text : List ℕ) (row : List Value) : Type 0 where
  pub spelled : List ℕ
  pub rest : List ℕ
  pub split : after_blanks text ≡ spelled ++ rest
  pub is : IsSpelledRow schema class spelled row
  pub last : is_end rest ≡ true
  pub short : row_length schema class row ≤ 4000

-- a key of an index
pub record IsLastKey (schema : Schema) (m : Member) (text : List ℕ) (key : List Value) : Type 0 where
  pub spelled : List ℕ
  pub rest : List ℕ
  pub split : after_blanks text ≡ spelled ++ rest
  pub is : IsSpelledKey schema m.class m.place spelled key
  pub last : is_end rest ≡ true

-- a rectangle
pub record IsLastRect (text : List ℕ) (rect : Rect) : Type 0 where
  pub spelled : List ℕ
  pub rest : List ℕ
  pub split : after_blanks text ≡ spelled ++ rest
  pub is : IsRectText spelled rect
  pub last : is_end rest ≡ true

-- a text of at most 255 bytes
pub record IsLastText (text words : List ℕ) : Type 0 where
  pub spelled : List ℕ
  pub rest : List ℕ
  pub split : after_blanks text ≡ spelled ++ rest
  pub is : IsSpelledText spelled words
  pub last : is_end rest ≡ true

-- ---- operands

-- whether a name stands for an object of a class
abbrev pub is_object : Known → ℕ → List ℕ → Bool
is_object known class name = option_map_or (λ a. a.class == class) (get known name) false

-- an object by its id, where the class has `autoid`
abbrev pub IsNumbered : Schema → ℕ → List ℕ → Target → Type 0
IsNumbered schema class w target = (id : ℕ) × (has_autoid schema class ≡ true) × IsNumber 1 (2 ^ 64 - 1) w id × (target ≡ record { from = None; id = id })

-- an object of a class: a name that stands for one, which leaves the id 0, or an id
abbrev pub IsTargetBy : Bool → Schema → Known → ℕ → List ℕ → Target → Type 0
IsTargetBy true schema known class w target = (is_object known class w ≡ true) × (target ≡ record { from = Some w; id = 0 })
IsTargetBy false schema known class w target = IsNumbered schema class w target

abbrev pub IsTarget : Schema → Known → ℕ → List ℕ → Target → Type 0
IsTarget schema known class w target = IsTargetBy (is_name w) schema known class w target

-- whether an assignment is that of a place of the index
abbrev pub is_place_of : Member → Assigned → Bool
is_place_of m a = option_map_or (λ i. a.class == m.class && i == m.place) a.index false

-- whether a name was last assigned by a `seek` on the index
abbrev pub holds_place : Known → Member → List ℕ → Bool
holds_place known m name = option_map_or (is_place_of m) (get known name) false

-- whether such a name stands there, and nothing more
abbrev pub cursor_in : Known → Member → List ℕ → Bool
cursor_in known m text = is_name (word text) && (holds_place known m (word text) && is_end (behind text))

-- a tree's place: nothing more is written, a key, or the name of a cursor. Where the name stands for nothing, nothing is found
-- from the end up, and from the start down.
abbrev pub IsOrigin : Schema → Known → Member → Where → List ℕ → Origin → Type 0
IsOrigin schema known m from_where.First text origin = (is_end text ≡ true) × (origin ≡ record { from = None; place = place.Start; up = true })
IsOrigin schema known m from_where.Last text origin = (is_end text ≡ true) × (origin ≡ record { from = None; place = place.End; up = false })
IsOrigin schema known m from_where.Ge text origin = (key : List Value) × IsLastKey schema m text key × (origin ≡ record { from = None; place = place.At key 0; up = true })
IsOrigin schema known m from_where.Gt text origin = (key : List Value) × IsLastKey schema m text key × (origin ≡ record { from = None; place = place.At key (2 ^ 64 - 1); up = true })
IsOrigin schema known m from_where.Le text origin = (key : List Value) × IsLastKey schema m text key × (origin ≡ record { from = None; place = place.At key (2 ^ 64 - 1); up = false })
IsOrigin schema known m from_where.Lt text origin = (key : List Value) × IsLastKey schema m text key × (origin ≡ record { from = None; place = place.At key 0; up = false })
IsOrigin schema known m from_where.Next text origin = (cursor_in known m text ≡ true) × (origin ≡ record { from = Some (word text); place = place.End; up = true })
IsOrigin schema known m from_where.Prev text origin = (cursor_in known m text ≡ true) × (origin ≡ record { from = Some (word text); place = place.Start; up = false })

-- ---- operations, behind the word that asks for them

pub record IsNew (schema : Schema) (text : List ℕ) (call : Call) : Type 0 where
  pub class : ℕ
  pub row : List Value
  pub named : class_of schema (word text) ≡ Some class
  pub written : IsLastRow schema class (behind text) row
  pub is : call ≡ record { from = None; op = op.New class row 0 }

pub record IsGet (schema : Schema) (known : Known) (text : List ℕ) (call : Call) : Type 0 where
  pub class : ℕ
  pub target : Target
  pub named : class_of schema (word text) ≡ Some class
  pub object : IsTarget schema known class (word (behind text)) target
  pub last : is_end (behind (behind text)) ≡ true
  pub is : call ≡ record { from = target.from; op = op.Get class target.id }

pub record IsPut (schema : Schema) (known : Known) (text : List ℕ) (call : Call) : Type 0 where
  pub class : ℕ
  pub target : Target
  pub row : List Value
  pub named : class_of schema (word text) ≡ Some class
  pub object : IsTarget schema known class (word (behind text)) target
  pub written : IsLastRow schema class (behind (behind text)) row
  pub is : call ≡ record { from = target.from; op = op.Put class target.id row }

pub record IsDel (schema : Schema) (known : Known) (text : List ℕ) (call : Call) : Type 0 where
  pub class : ℕ
  pub target : Target
  pub named : class_of schema (word text) ≡ Some class
  pub object : IsTarget schema known class (word (behind text)) target
  pub last : is_end (behind (behind text)) ≡ true
  pub is : call ≡ record { from = target.from; op = op.Del class target.id }

pub record IsFind (schema : Schema) (text : List ℕ) (call : Call) : Type 0 where
  pub m : Member
  pub key : List Value
  pub named : index_with finds_keys schema (word text) ≡ Some m
  pub written : IsLastKey schema m (behind text) key
  pub is : call ≡ record { from = None; op = op.Find m.class m.place key }

pub record IsSeek (schema : Schema) (known : Known) (text : List ℕ) (call : Call) : Type 0 where
  pub m : Member
  pub way : Where
  pub origin : Origin
  pub named : index_with is_tree schema (word text) ≡ Some m
  pub asked : where_of (word (behind text)) ≡ Some way
  pub written : IsOrigin schema known m way (behind (behind text)) origin
  pub is : call ≡ record { from = origin.from; op = op.Seek m.class m.place origin.place origin.up }

pub record IsArea (schema : Schema) (text : List ℕ) (call : Call) : Type 0 where
  pub m : Member
  pub inside : Bool
  pub rect : Rect
  pub named : index_with is_rtree schema (word text) ≡ Some m
  pub asked : inside_of (word (behind text)) ≡ Some inside
  pub written : IsLastRect (behind (behind text)) rect
  pub is : call ≡ record { from = None; op = op.Area m.class m.place rect inside }

pub record IsPrefix (schema : Schema) (text : List ℕ) (call : Call) : Type 0 where
  pub m : Member
  pub how_ : How
  pub words : List ℕ
  pub named : index_with is_patricia schema (word text) ≡ Some m
  pub asked : how_of (word (behind text)) ≡ Some how_
  pub written : IsLastText (behind (behind text)) words
  pub is : call ≡ record { from = None; op = op.Prefix m.class m.place words how_ }

pub record IsCount (schema : Schema) (text : List ℕ) (call : Call) : Type 0 where
  pub class : ℕ
  pub named : class_of schema (word text) ≡ Some class
  pub last : is_end (behind text) ≡ true
  pub is : call ≡ record { from = None; op = op.Count class }

abbrev pub IsCall : Schema → Known → Verb → List ℕ → Call → Type 0
IsCall schema known verb.New text call = IsNew schema text call
IsCall schema known verb.Get text call = IsGet schema known text call
IsCall schema known verb.Put text call = IsPut schema known text call
IsCall schema known verb.Del text call = IsDel schema known text call
IsCall schema known verb.Find text call = IsFind schema text call
IsCall schema known verb.Seek text call = IsSeek schema known text call
IsCall schema known verb.Area text call = IsArea schema text call
IsCall schema known verb.Prefix text call = IsPrefix schema text call
IsCall schema known verb.Count text call = IsCount schema text call

-- ---- lines

-- whether an operation may stand behind `NAME =`
abbrev pub assigns : Verb → Bool
assigns verb.New = true
assigns verb.Find = true
assigns verb.Seek = true
assigns _ = false

-- whether a line's second word is `=`
abbrev pub is_assignment : List ℕ → Bool
is_assignment line = bytes_eq (word (behind line)) (codes "=")

-- a line `NAME = ` and an operation that assigns
pub record IsAssignment (schema : Schema) (known : Known) (line : List ℕ) (says : ScriptLine) : Type 0 where
  pub asked : Verb
  pub call : Call
  pub named : is_name (word line) ≡ true
  pub verb_is : verb_of (word (behind (behind line))) ≡ Some asked
  pub may : assigns asked ≡ true
  pub written : IsCall schema known asked (behind (behind (behind line))) call
  pub is : says ≡ record { name = Some (word line); from = call.from; op = call.op }

-- what a transaction may do, by the word behind `begin`
unfoldable pub mode_of : List ℕ → Option Kind
mode_of w = if bytes_eq w (codes "rw") then Some kind.ReadWrite else (if bytes_eq w (codes "ro") then Some kind.ReadOnly else None)

-- nothing more, or `retry` and a number up to 1,000
abbrev pub IsRetriesBy : Bool → List ℕ → ℕ → Type 0
IsRetriesBy true text retries = retries ≡ 0
IsRetriesBy false text retries = (bytes_eq (word text) (codes "retry") ≡ true) × IsNumber 0 1000 (word (behind text)) retries × (is_end (behind (behind text)) ≡ true)

-- how often a transaction is begun again; one that only reads never is
abbrev pub IsRetries : Kind → List ℕ → ℕ → Type 0
IsRetries kind.ReadWrite text retries = IsRetriesBy (is_end text) text retries
IsRetries kind.ReadOnly text retries = (is_end text ≡ true) × (retries ≡ 0)

-- what stands behind `begin`
pub record IsBegin (text : List ℕ) (says : Statement) : Type 0 where
  pub mode : Kind
  pub retries : ℕ
  pub asked : mode_of (word text) ≡ Some mode
  pub written : IsRetries mode (behind text) retries
  pub is : says ≡ saying.Begin mode retries

-- what stands behind `stop`
pub record IsStop (text : List ℕ) (says : Statement) : Type 0 where
  pub step : ℕ
  pub number : IsNumber 1 4294967295 (word text) step
  pub last : is_end (behind text) ≡ true
  pub is : says ≡ saying.Stop step

-- a word `CLASS.EVENT` and nothing more
pub record IsEventText (schema : Schema) (text : List ℕ) (m : Member) : Type 0 where
  pub named : event_of schema (word text) ≡ Some m
  pub last : is_end (behind text) ≡ true

-- an operation that assigns no name
pub record IsPlain (schema : Schema) (known : Known) (asked : Verb) (text : List ℕ) (says : Statement) : Type 0 where
  pub call : Call
  pub written : IsCall schema known asked text call
  pub is : says ≡ saying.Operation (record { name = None; from = call.from; op = call.op })

-- what stands behind a line's first word
abbrev pub IsAsked : Schema → Known → Keyword → List ℕ → Statement → Type 0
IsAsked schema known keyword.Stop text says = IsStop text says
IsAsked schema known keyword.Begin text says = IsBegin text says
IsAsked schema known keyword.Commit text says = (is_end text ≡ true) × (says ≡ saying.Commit)
IsAsked schema known keyword.Rollback text says = (is_end text ≡ true) × (says ≡ saying.Rollback)
IsAsked schema known keyword.Watch text says = (m : Member) × IsEventText schema text m × (says ≡ saying.Watch m.class m.place)
IsAsked schema known keyword.Poll text says = (m : Member) × IsEventText schema text m × (says ≡ saying.Poll m.class m.place)
IsAsked schema known (keyword.Operation asked) text says = IsPlain schema known asked text says

-- whether a line is empty or a comment
abbrev pub is_silent : List ℕ → Bool
is_silent line = is_comment line || is_end line

-- a line that means nothing, or assigns, or neither
abbrev pub IsSaidBy : Bool → Bool → Schema → Known → List ℕ → Statement → Type 0
IsSaidBy true assigning schema known line says = says ≡ saying.Nothing
IsSaidBy false true schema known line says = (l : ScriptLine) × IsAssignment schema known line l × (says ≡ saying.Operation l)
IsSaidBy false false schema known line says = (k : Keyword) × (keyword_of (word line) ≡ Some k) × IsAsked schema known k (behind line) says

-- a line in the grammar, and what it says
abbrev pub IsStatement : Schema → Known → List ℕ → Statement → Type 0
IsStatement schema known line says = IsUtf8 line × IsSaidBy (is_silent line) (is_assignment line) schema known line says
