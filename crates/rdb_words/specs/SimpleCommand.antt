-- The one simple command of which the words behind a command's word are the arguments, and what its walk makes of them.
use Rattle.std.specs.Prelude.{◌≡◌, ◌≤◌, length, Bool, true, false, List, [], ◌∷◌, Option, Some, None, codes, fold}
use Rattle.clap.specs.declared.builder.action.ArgAction.TheVariants.{Set, Append, SetTrue}
use Rattle.clap.specs.Simple.{App, Shape, built, filled, matches_of, with_index, new_app, new_rule, with_rule, on_top}
use Rattle.clap.specs.Walk.{Rule, Row, Text, Held, Waiting, idle, option, positional, Walk, has_row, first_of, one_of, all_of, settled_rows, used, walked}
use Rattle.clap.specs.Takes.{takes, settle_passes, walk_passes}
use Rattle.rdb_words.specs.Grammar.{Word, Part, manager, pages, threads, name, IsPlain, Given, Gives}

-- ---- the command of clap

abbrev pub manager_rule : Rule
manager_rule = record (new_rule (codes "manager")) { long = Some (codes "manager"); action = Some Set }

abbrev pub pages_rule : Rule
pages_rule = record (new_rule (codes "pages")) { long = Some (codes "pages"); action = Some Set }

abbrev pub threads_rule : Rule
threads_rule = record (new_rule (codes "threads")) { long = Some (codes "threads"); action = Some SetTrue }

abbrev pub name_rule : Rule
name_rule = record (new_rule (codes "name")) { action = Some Append }

-- the command: its options, its flag and its names, and no help
abbrev pub the_app : App
the_app =
    with_rule (with_rule (with_rule (with_rule
    (on_top (λ s. record s { no_binary_name = true; disable_help_flag = true }) (new_app (codes "regiondb")))
    manager_rule) pages_rule) threads_rule) name_rule

-- the command as built, and its arguments
abbrev pub the_shape : Shape
the_shape = (built the_app).top

abbrev pub rules : List Rule
rules = the_shape.rules

-- the arguments, as building fills them in
abbrev pub manager_arg : Rule
manager_arg = filled manager_rule

abbrev pub pages_arg : Rule
pages_arg = filled pages_rule

abbrev pub threads_arg : Rule
threads_arg = filled threads_rule

abbrev pub name_arg : Rule
name_arg = with_index 1 (filled name_rule)

-- where the walk stands between two words, with no subcommand and no bundle
abbrev pub kept : List Row → Option (Text × List Text) → Held
kept rows pending = record { rows = rows; pending = pending; skip = 0 }

abbrev pub state : List Row → Option (Text × List Text) → Waiting → Bool → Walk
state rows pending waiting trailing = record {
  held = kept rows pending;
  waiting = waiting;
  position = 1;
  is_trailing = trailing;
  stopped = None;
}

-- no option waits for its value
abbrev pub IsFree : Waiting → Type 0
IsFree idle = Unit {0}
IsFree positional = Unit {0}
IsFree (option id) = ⊥

-- ---- what the parts make of the rows

-- the rows with one use more
abbrev pub use_of : Part → List Row → List Row
use_of (manager value) rows = used manager_arg (value ∷ []) rows
use_of (pages value) rows = used pages_arg (value ∷ []) rows
use_of threads rows = used threads_arg [] rows
use_of (name word) rows = used name_arg (word ∷ []) rows

-- the rows behind these parts
abbrev pub applied : List Row → List Part → List Row
applied rows [] = rows
applied rows (part ∷ parts) = applied (use_of part rows) parts

-- the part may be used: an option that wasn't used before, whose value begins with no hyphen, or a name
abbrev pub Fits : Part → List Row → Type 0
Fits (manager value) rows = (has_row (codes "manager") rows ≡ false) × IsPlain value
Fits (pages value) rows = (has_row (codes "pages") rows ≡ false) × IsPlain value
Fits threads rows = has_row (codes "threads") rows ≡ false
Fits (name word) rows = Unit {0}

abbrev pub AllFit : List Part → List Row → Type 0
AllFit [] rows = Unit {0}
AllFit (part ∷ parts) rows = Fits part rows × AllFit parts (use_of part rows)

-- the walk stands between two words, and these are the rows once what is pending is used
pub record Stands (trailing : Bool) (w : Walk) (rows : List Row) : Type 0 where
  pub before : List Row
  pub pending : Option (Text × List Text)
  pub waiting : Waiting
  pub is : w ≡ state before pending waiting trailing
  pub free : IsFree waiting
  pub settles : settled_rows rules pending before ≡ rows
  pub passes : settle_passes rules false (kept before pending) ≡ true

-- the walk over the words goes on from another place with the rest
pub record Goes (trailing : Bool) (w : Walk) (words rest : List Word) (rows : List Row) : Type 0 where
  pub next : Walk
  pub walks : fold (walked rules []) w words ≡ fold (walked rules []) next rest
  pub tests : walk_passes the_shape [] w words ≡ walk_passes the_shape [] next rest
  pub stands : Stands trailing next rows

-- a value that begins with no hyphen, where there is one
abbrev pub IsPlainValue : Option Word → Type 0
IsPlainValue None = Unit {0}
IsPlainValue (Some value) = IsPlain value

-- ---- what clap has of them

-- the text of the flag
abbrev pub flag_text : Bool → Word
flag_text true = codes "true"
flag_text false = codes "false"

-- the names, where there are some
abbrev pub names_given : List Word → Option (List Word)
names_given [] = None
names_given (word ∷ words) = Some (word ∷ words)

-- clap takes the words, and has what they give
pub record Reads (words : List Word) (given : Given) : Type 0 where
  pub taken : takes the_app words ≡ true
  pub manager_is : first_of (codes "manager") (matches_of the_app words) ≡ given.manager_value
  pub pages_is : first_of (codes "pages") (matches_of the_app words) ≡ given.pages_value
  pub threads_is : one_of (codes "threads") (matches_of the_app words) ≡ Some (flag_text given.with_threads)
  pub names_is : all_of (codes "name") (matches_of the_app words) ≡ names_given given.names

-- the words give something whose values begin with no hyphen, and 18 names at most
pub record IsReadable (words : List Word) : Type 0 where
  pub given : Given
  pub gives : Gives words given
  pub manager_plain : IsPlainValue given.manager_value
  pub pages_plain : IsPlainValue given.pages_value
  pub few : length given.names ≤ 18
