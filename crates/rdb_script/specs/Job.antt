-- The generated job: its schema, its schedule and its files.
use Rattle.std.specs.Prelude.{ℕ, zero, suc, ◌+◌, ◌==◌, if◌then◌else◌, List, [], ◌∷◌, ◌++◌, codes, decimal}
use Rattle.std.specs.FinMap.{insert}
use Rattle.rdb_base.specs.Memory.{Named}
use Rattle.rdb_script.specs.Stream.{next_state, draw}
use Rattle.rdb_script.specs.JobScripts.{job_script}

unfoldable pub job_schema : List ℕ
job_schema =
    codes "declare database job;\n\nclass Item {\n  string name;\n  uint4 stock;\n  uint8 price;\n  autoid;\n  unique hash<name> byName;\n  tree<stock> byStock;\n  patricia<name> pName;\n  event<update stock> moved;\n};\n\nclass Place {\n  rect<int4> area;\n  string label;\n  autoid;\n  rtree<area> byArea;\n};\n\nclass Sale {\n  uint8 item;\n  uint4 count;\n  int4 day;\n  autoid;\n  tree<day,item> byDay;\n};\n"

-- a turn of a client, in a line of its own: one step where the number is 0, else steps until its unit ends
abbrev pub turn_line : ℕ → ℕ → List ℕ
turn_line client number = if number == 0 then decimal client ++ codes "\n" else decimal client ++ codes "*\n"

-- so many turns, drawn from a state on: first which of the eight clients, then a number below 4
unfoldable pub turns : ℕ → ℕ → List ℕ
turns zero state = []
turns (suc more) state = turn_line (1 + draw 8 state) (draw 4 (next_state state)) ++ turns more (next_state (next_state state))

-- so many rounds, in each of which all clients take steps until their unit ends
unfoldable pub rounds : ℕ → List ℕ
rounds zero = []
rounds (suc more) = codes "1* 2* 3* 4* 5* 6* 7* 8*\n" ++ rounds more

-- the schedule: 4,000 turns, and then 1,100 rounds
unfoldable pub job_schedule : ℕ → List ℕ
job_schedule seed = turns 4000 seed ++ rounds 1100

-- a file's name, and its bytes
abbrev pub File : Type 0
File = List ℕ × List ℕ

-- the scripts of so many clients from client k on
unfoldable pub scripts : ℕ → ℕ → ℕ → List File
scripts zero k seed = []
scripts (suc more) k seed = (codes "client" ++ decimal k, job_script seed k) ∷ scripts more (k + 1) seed

-- the files of the job
abbrev pub job : ℕ → List File
job seed = (codes "schema", job_schema) ∷ (codes "schedule", job_schedule seed) ∷ scripts 8 1 seed

-- named bytes, with these files put into them one after another
abbrev pub folder_of : Named → List File → Named
folder_of held [] = held
folder_of held (file ∷ files) = folder_of (insert held file.0 file.1) files
