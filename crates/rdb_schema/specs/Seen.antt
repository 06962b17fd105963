-- What the code keeps, as the rules see it.
use Rattle.std.specs.Prelude.{ℕ, ◌+◌, List, [], ◌∷◌, ◌++◌, take, drop, Option, Some, None}
use Rattle.rdb_schema.specs.declared.first_fault.Declared.{Declared}
use Rattle.rdb_schema.specs.declared.rules.Context.{Context}
use Rattle.rdb_schema.specs.declared.syntax.Part.{Part}
use Rattle.rdb_schema.specs.declared.syntax.Part.TheVariants as parts
use Rattle.rdb_schema.specs.declared.syntax.SchemaFault.{SchemaFault}
use Rattle.rdb_schema.specs.Rules.{Before, IsFirstFault, BreaksNoRule}

-- what stands before a part, without where it lies in memory
abbrev pub before_of : Context → Before
before_of context = record { groups = context.groups.now; classes = context.classes.now; front = context.front.now }

-- the same of what was declared before the part at a place
abbrev pub seen : Declared → List Part → ℕ → Before
seen declared syntax at = record { groups = declared.groups; classes = declared.classes; front = drop declared.start (take at syntax) }

-- what is declared once the part at a place is passed
abbrev pub passes : Declared → Part → ℕ → Declared
passes declared (parts.Struct name) at = record { groups = declared.groups ++ name ∷ []; classes = declared.classes; start = at + 1 }
passes declared (parts.Class name) at = record { groups = declared.groups; classes = declared.classes ++ name ∷ []; start = at + 1 }
passes declared part at = declared

-- the first part that breaks a rule, or that there is none
abbrev pub IsFirst : List Part → Option SchemaFault → Type 0
IsFirst syntax None = BreaksNoRule syntax
IsFirst syntax (Some fault) = IsFirstFault syntax fault.at fault.cause
