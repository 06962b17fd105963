-- Texts that the files tell are the texts that were read.
use Rattle.std.proofs.Common.{◌≡◌, ℕ, inl, inr, List, ◌∷◌, Option, Some, sym, ◌∙◌, subst}
use Rattle.std.specs.Prelude.{IfSome, None}
use Rattle.std.proofs.lemmas.Bool.{false≢true}
use Rattle.rdb_schema.specs.declared.schema.Schema.{Schema}
use Rattle.rdb_ddl.specs.Read.{IsRead, IsRefused}
use Rattle.rdb_ddl.proofs.OneAnswer.{one_schema, not_both}
use Rattle.rdb_script.specs.declared.item.Item.{Item}
use Rattle.rdb_script.specs.declared.unit.Script.{Script}
use Rattle.rdb_script.specs.declared.unit.ScriptLine.{ScriptLine}
use Rattle.rdb_script.specs.Schedule.{IsSchedule}
use Rattle.rdb_script.specs.Scripts.{IsScript}
use Rattle.rdb_runner.specs.Parts.{names_of, HasRefusedScript, HasBadScript, HasBadSchedule}
use Rattle.rdb_runner.specs.PlainJob.{IsPlainJob, IsOther}
use Rattle.rdb_runner.specs.PlainPromise.{IsFirstOther, ArePlain}
use Rattle.rdb_runner.specs.Reading.{Sight, AreBytesOf, IsBytesOf, AllRead}
use Rattle.rdb_runner.specs.SchemaFile.{IsBadSchema}

-- bytes that were read are those that are told
pub bytes_told : (told : List ℕ → Option (List ℕ)) (name text there : List ℕ) → IsBytesOf told name text → told name ≡ Some there → text ≡ there
bytes_told told name text there h is = subst (λ (o : Option (List ℕ)). IfSome o (λ x. text ≡ x)) is h.0

-- the bytes of three named files
three_read : (sight : Sight) (names : List (List ℕ)) (a b c schema schedule client : List ℕ) → names ≡ names_of a b c → AllRead sight names (names_of schema schedule client)
    → IsBytesOf sight.told a schema × IsBytesOf sight.told b schedule × IsBytesOf sight.told c client
three_read sight names a b c schema schedule client named read =
    let all = subst (λ (ns : List (List ℕ)). AreBytesOf sight.told ns (names_of schema schedule client)) named read.0 in
    (all.0, all.1.0, all.1.1.0)

-- a client that is told to be no script isn't read as one
pub script_told : (names : List (List ℕ)) (sight : Sight) (schema schedule client : List ℕ) → AllRead sight names (names_of schema schedule client) → HasBadScript names sight → (s : Schema) (script : Script) → IsRead schema s → IsScript s client script → ⊥
script_told names sight schema schedule client read bad s script is has =
    let all = three_read sight names bad.schema_name bad.schedule_name bad.client_name schema schedule client bad.named read in
    let one = bytes_told sight.told bad.schema_name schema bad.schema_text all.0 bad.schema_told in
    let three = bytes_told sight.told bad.client_name client bad.client_text all.2 bad.client_told in
    let same = one_schema bad.schema_text s bad.schema (subst (λ (t : List ℕ). IsRead t s) one is) bad.schema_read in
    bad.no_script script (subst (λ (t : List ℕ). IsScript bad.schema t script) three (subst (λ (x : Schema). IsScript x client script) same has))

-- a schedule that is told to be none isn't read as one
pub schedule_told : (names : List (List ℕ)) (sight : Sight) (schema schedule client : List ℕ) → AllRead sight names (names_of schema schedule client) → HasBadSchedule names sight → (items : List Item) → IsSchedule 1 schedule items → ⊥
schedule_told names sight schema schedule client read bad items has =
    let all = three_read sight names bad.schema_name bad.schedule_name bad.client_name schema schedule client bad.named read in
    let two = bytes_told sight.told bad.schedule_name schedule bad.schedule_text all.1 bad.schedule_told in
    bad.no_schedule items (subst (λ (t : List ℕ). IsSchedule 1 t items) two has)

-- a client that is told to be a script isn't refused
pub script_not_refused : (names : List (List ℕ)) (sight : Sight) (schema schedule client : List ℕ) (line : ℕ) → AllRead sight names (names_of schema schedule client) → HasBadSchedule names sight → HasRefusedScript schema client line → ⊥
script_not_refused names sight schema schedule client line read told refused =
    let all = three_read sight names told.schema_name told.schedule_name told.client_name schema schedule client told.named read in
    let one = bytes_told sight.told told.schema_name schema told.schema_text all.0 told.schema_told in
    let three = bytes_told sight.told told.client_name client told.client_text all.2 told.client_told in
    let same = one_schema told.schema_text told.schema refused.schema told.schema_read (subst (λ (t : List ℕ). IsRead t refused.schema) one refused.schema_read) in
    refused.refused.none told.script (subst (λ (t : List ℕ). IsScript refused.schema t told.script) (sym three) (subst (λ (x : Schema). IsScript x told.client_text told.script) same told.client_read))

-- a schema that is told to be one isn't refused
pub schema_told : (names : List (List ℕ)) (sight : Sight) (text a b c there : List ℕ) (schema : Schema) → names ≡ names_of a b c → sight.told a ≡ Some there → IsRead there schema → IsBadSchema names sight text → ⊥
schema_told names sight text a b c there schema named told read (first, others, fault, all, refused, line) =
    let bytes = subst (λ (ns : List (List ℕ)). AreBytesOf sight.told ns (first ∷ others)) named all.0 in
    let same = bytes_told sight.told a first there bytes.0 told in
    not_both there schema fault read (subst (λ (t : List ℕ). IsRefused t fault) same refused)

one_other : (schema : Schema) (items : List Item) (script : Script) (lines : List ScriptLine) (place : ℕ) → IsPlainJob schema items script lines → IsOther schema items script place → ⊥
one_other schema items script lines place p (inl h) = false≢true (sym h.1 ∙ p.schema_plain)
one_other schema items script lines place p (inr (inl h)) = false≢true (sym h.2 ∙ p.schedule_plain)
one_other schema items script lines place p (inr (inr h)) = let no : None ≡ Some lines = sym h.3 ∙ p.script_plain in cc

-- files of the simplest form have no part that isn't of it
pub plain_told : (names : List (List ℕ)) (sight : Sight) (schema schedule client : List ℕ) (place : ℕ) → ArePlain names sight → AllRead sight names (names_of schema schedule client) → IsFirstOther schema schedule client place → ⊥
plain_told names sight schema schedule client place p read first =
    let all = three_read sight names p.schema_name p.schedule_name p.client_name schema schedule client p.named read in
    let one = bytes_told sight.told p.schema_name schema p.schema_text all.0 p.schema_told in
    let two = bytes_told sight.told p.schedule_name schedule p.schedule_text all.1 p.schedule_told in
    let three = bytes_told sight.told p.client_name client p.client_text all.2 p.client_told in
    let s : first.schema ≡ p.schema = one_schema p.schema_text first.schema p.schema (subst (λ (t : List ℕ). IsRead t first.schema) one first.parts.schema_read) p.parts.schema_read in
    let items : first.items ≡ p.items = first.items_only p.items (subst (λ (t : List ℕ). IsSchedule 1 t p.items) (sym two) p.parts.schedule_read) in
    let script : first.script ≡ p.script = first.script_only p.script (subst (λ (t : List ℕ). IsScript first.schema t p.script) (sym three) (subst (λ (x : Schema). IsScript x p.client_text p.script) (sym s) p.parts.client_read)) in
    one_other p.schema p.items p.script p.lines place p.plain
    (subst (λ (x : Schema). IsOther x p.items p.script place) s (subst (λ (x : List Item). IsOther first.schema x p.script place) items (subst (λ (x : Script). IsOther first.schema first.items x place) script first.other)))
