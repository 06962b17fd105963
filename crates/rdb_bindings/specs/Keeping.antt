-- What bindings keep of a script and of the replies to its lines.
use Rattle.std.specs.Prelude.{◌≡◌, ℕ, suc, Bool, List, [], ◌∷◌, ◌++◌, map, slice_get, if◌then◌else◌, Option, Some, None}
use Rattle.std.specs.Option.{option_and_then, option_flatten, option_map, option_or}
use Rattle.std.specs.Ordering.{nat_cmp}
use Rattle.std.specs.Cmp.Lexicographic.{slice_cmp}
use Rattle.std.specs.FinMap.{FinMap, get, insert}
use Rattle.rdb_base.specs.declared.operation.Reply.{Reply}
use Rattle.rdb_script.specs.declared.unit.ScriptLine.{ScriptLine}
use Rattle.rdb_bindings.specs.declared.referent.Referent.{Referent}
use Rattle.rdb_bindings.specs.declared.bindings.Bindings.{Bindings}
use Rattle.rdb_bindings.specs.declared.survey.Survey.{Survey}
use Rattle.rdb_bindings.specs.Filling.{Answered, lines_answered, assigns, given}

-- the place of the last element that passes a test
abbrev pub last_place : {X : Type 0} → (X → Bool) → List X → Option ℕ
last_place test [] = None
last_place test (x ∷ xs) = option_or (option_map suc (last_place test xs)) (if test x then Some 0 else None)

-- the line from whose reply a line takes its object or its place: the last above it that assigns the name that it uses
abbrev pub source : List ScriptLine → ScriptLine → Option ℕ
source above line = option_and_then (λ name. last_place (assigns name) above) line.from

-- the sources of lines that stand below others
abbrev pub sources_below : List ScriptLine → List ScriptLine → List (Option ℕ)
sources_below above [] = []
sources_below above (line ∷ lines) = source above line ∷ sources_below (above ++ line ∷ []) lines

-- the source of each line of a script
abbrev pub sources_of : List ScriptLine → List (Option ℕ)
sources_of lines = sources_below [] lines

-- what a line's last reply gives the name that it assigns
abbrev pub kept : ScriptLine × Option Reply → Option Referent
kept l = option_and_then given l.1

-- bindings keep the source of each line, and what each line's last reply gives
pub record Keeps (answered : Answered) (bindings : Bindings) : Type 0 where
  pub sources : bindings.sources ≡ sources_of (lines_answered answered)
  pub referents : bindings.referents ≡ map kept answered

-- what the name that a line of that number uses stands for
abbrev pub referent_at : Bindings → ℕ → Option Referent
referent_at bindings number =
    option_and_then (λ n. option_flatten (slice_get bindings.referents n)) (option_flatten (slice_get bindings.sources number))

-- the last lines that assign names, with a further line of that number, which may assign one
abbrev pub assigned : FinMap (slice_cmp nat_cmp) ℕ → ℕ → Option (List ℕ) → FinMap (slice_cmp nat_cmp) ℕ
assigned last number None = last
assigned last number (Some name) = insert last name number

-- lines that were surveyed: the last of them that assigns each name, the source of each, and room for what its reply gives
pub record IsSurvey (lines : List ScriptLine) (survey : Survey) : Type 0 where
  pub last : (name : List ℕ) → get survey.assigners name ≡ last_place (assigns name) lines
  pub sources : survey.sources ≡ sources_of lines
  pub referents : survey.referents ≡ map (λ _. None) lines
