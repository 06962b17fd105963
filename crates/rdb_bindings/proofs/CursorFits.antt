-- The place that a cursor stands for fits the index that its `seek` looked in.
use Rattle.std.proofs.Common.{◌≡◌, ℕ, Bool, true, false, ◌==◌, List, slice_get, Option, Some, None, refl, sym, ap, ap₂, ◌∙◌, eqb-true}
use Rattle.std.specs.Option.{option_and_then, option_map, option_map_or}
use Rattle.std.specs.FinMap.{get}
use Rattle.rdb_base.specs.declared.operation.Op.{Op}
use Rattle.rdb_base.specs.declared.operation.Op.TheVariants as op
use Rattle.rdb_base.specs.declared.operation.Reply.{Reply}
use Rattle.rdb_base.specs.declared.operation.Reply.TheVariants as reply
use Rattle.rdb_schema.specs.declared.schema.Schema.{Schema}
use Rattle.rdb_script.specs.declared.names.Assigned.{Assigned}
use Rattle.rdb_script.specs.declared.statement.Member.{Member}
use Rattle.rdb_script.specs.declared.unit.ScriptLine.{ScriptLine}
use Rattle.rdb_script.specs.Scripts.{assigned_by}
use Rattle.rdb_script.specs.Statements.{Known, is_place_of, holds_place}
use Rattle.rdb_model.specs.Answer.{find_last}
use Rattle.rdb_model.specs.Fits.{fits_key, fits_place}
use Rattle.rdb_model.proofs.FitsLemmas.{first_of, second_of}
use Rattle.rdb_bindings.specs.declared.referent.Referent.TheVariants as referent
use Rattle.rdb_bindings.specs.Filling.{Answered, lines_answered, assigns, given, referent_of, origin}
use Rattle.rdb_bindings.specs.Fitting.{place_fits, PlacesFit}
use Rattle.rdb_bindings.proofs.PlaceLemmas.{find_last-map, found_there}

-- what the script's reader knows of each name is what the last line that assigns it gives
abbrev pub AreKnown : Known → List ScriptLine → Type 0
AreKnown known lines = (name : List ℕ) → get known name ≡ option_and_then (λ (l : ScriptLine). assigned_by l.op) (find_last (assigns name) lines)

-- an object is no place, and nothing is none: what is left is an end
object_fits : (schema : Schema) (m : Member) (up : Bool) (o : Option ℕ) → fits_place schema m.class m.place (origin up (option_map referent.Object o)) ≡ true
object_fits schema m true None = refl
object_fits schema m false None = refl
object_fits schema m true (Some id) = refl
object_fits schema m false (Some id) = refl

-- what a reply to a `seek` on an index gives fits there
reply_fits : (schema : Schema) (m : Member) (up : Bool) (o : Op) (told : Reply) → option_map_or (is_place_of m) (assigned_by o) false ≡ true → place_fits schema o told ≡ true → fits_place schema m.class m.place (origin up (given told)) ≡ true
reply_fits schema m up o (reply.Made id) is fits = object_fits schema m up (Some id)
reply_fits schema m up o (reply.Row row) is fits = object_fits schema m up None
reply_fits schema m up o reply.Done is fits = object_fits schema m up None
reply_fits schema m up o reply.NotFound is fits = object_fits schema m up None
reply_fits schema m up o (reply.Duplicate index id) is fits = object_fits schema m up None
reply_fits schema m up o (reply.Ids ids) is fits = object_fits schema m up (slice_get ids 0)
reply_fits schema m up o reply.End is fits = object_fits schema m up None
reply_fits schema m up o (reply.Count count) is fits = object_fits schema m up None
reply_fits schema m up o (reply.At key id) is fits = by_place up (by_op o is fits)
  where
    by_place : (up : Bool) → fits_key schema m.class m.place key ≡ true → fits_place schema m.class m.place (origin up (given (reply.At key id))) ≡ true
    by_place true e = e
    by_place false e = e

    by_op : (o : Op) → option_map_or (is_place_of m) (assigned_by o) false ≡ true → place_fits schema o (reply.At key id) ≡ true → fits_key schema m.class m.place key ≡ true
    by_op (op.New class row made) is fits = absurd (cc)
    by_op (op.Get class at) is fits = absurd (cc)
    by_op (op.Put class at row) is fits = absurd (cc)
    by_op (op.Del class at) is fits = absurd (cc)
    by_op (op.Find class index wanted) is fits = absurd (cc)
    by_op (op.Seek class index from way) is fits =
        ap₂ (λ c i. fits_key schema c i key)
        (sym (eqb-true class m.class (first_of (class == m.class) (index == m.place) is)))
        (sym (eqb-true index m.place (second_of (class == m.class) (index == m.place) is)))
        ∙ fits
    by_op (op.Area class index rect inside) is fits = absurd (cc)
    by_op (op.Prefix class index text way) is fits = absurd (cc)
    by_op (op.Count class) is fits = absurd (cc)

pub cursor_fits : (schema : Schema) (known : Known) (m : Member) (name : List ℕ) (answered : Answered) (up : Bool) → AreKnown known (lines_answered answered) → PlacesFit schema answered → holds_place known m name ≡ true → fits_place schema m.class m.place (origin up (referent_of name answered)) ≡ true
cursor_fits schema known m name answered up are fit holds =
    go (find_last (λ l. assigns name l.0) answered) refl
    (ap (λ (o : Option ScriptLine). option_map_or (is_place_of m) (option_and_then (λ (l : ScriptLine). assigned_by l.op) o) false) (sym (find_last-map (λ (l : ScriptLine × Option Reply). l.0) (assigns name) answered))
    ∙ ap (λ (a : Option Assigned). option_map_or (is_place_of m) a false) (sym (are name)) ∙ holds)
  where
    at_line : (line : ScriptLine) (told : Option Reply) (n : ℕ) → slice_get answered n ≡ Some (line, told) → option_map_or (is_place_of m) (assigned_by line.op) false ≡ true → fits_place schema m.class m.place (origin up (option_and_then given told)) ≡ true
    at_line line None n there is = object_fits schema m up None
    at_line line (Some told) n there is = reply_fits schema m up line.op told is (fit n line told there)

    go : (o : Option (ScriptLine × Option Reply)) → find_last (λ (l : ScriptLine × Option Reply). assigns name l.0) answered ≡ o → option_map_or (is_place_of m) (option_and_then (λ (l : ScriptLine). assigned_by l.op) (option_map (λ (l : ScriptLine × Option Reply). l.0) o)) false ≡ true → fits_place schema m.class m.place (origin up (option_and_then given (option_and_then (λ (l : ScriptLine × Option Reply). l.1) o))) ≡ true
    go None e is = absurd (cc)
    go (Some l) e is = let there = found_there (λ (l : ScriptLine × Option Reply). assigns name l.0) answered l e in at_line l.0 l.1 there.0 there.1 is
