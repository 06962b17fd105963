-- Each operation that a line may ask for fits, filled.
use Rattle.std.proofs.Common.{◌≡◌, ℕ, true, false, List, length, Option, Some, None, refl, sym, subst}
use Rattle.std.specs.Option.{option_map_or}
use Rattle.rdb_base.specs.declared.identity.Kind.{Kind}
use Rattle.rdb_base.specs.declared.identity.Kind.TheVariants as mode
use Rattle.rdb_base.specs.declared.operation.Op.{Op}
use Rattle.rdb_base.specs.declared.operation.Op.TheVariants as op
use Rattle.rdb_base.specs.declared.value.Value.{Value}
use Rattle.rdb_schema.specs.declared.schema.Schema.{Schema}
use Rattle.rdb_schema.specs.Indexes.{is_tree}
use Rattle.rdb_schema.specs.Values.{row_length}
use Rattle.rdb_script.specs.declared.statement.Call.{Call}
use Rattle.rdb_script.specs.declared.statement.Member.{Member}
use Rattle.rdb_script.specs.declared.statement.Origin.{Origin}
use Rattle.rdb_script.specs.declared.statement.Verb.{Verb}
use Rattle.rdb_script.specs.declared.statement.Verb.TheVariants as verb
use Rattle.rdb_script.specs.declared.statement.Where.{Where}
use Rattle.rdb_script.specs.declared.statement.Where.TheVariants as from_where
use Rattle.rdb_script.specs.Lines.{word, behind, is_end, is_name}
use Rattle.rdb_script.specs.Scripts.{may_have}
use Rattle.rdb_script.specs.Statements.{Known, IsLastRow, IsOrigin, IsCall, holds_place}
use Rattle.rdb_model.specs.Fits.{Fits, fits_row, may_write, has_class, has_index}
use Rattle.rdb_model.proofs.FitsLemmas.{first_of, second_of}
use Rattle.rdb_bindings.specs.Filling.{Answered, lines_answered, referent_of, with_referent}
use Rattle.rdb_bindings.specs.Fitting.{PlacesFit}
use Rattle.rdb_bindings.proofs.StaticFits.{both, class_there, index_there, at_most}
use Rattle.rdb_bindings.proofs.CursorFits.{AreKnown, cursor_fits}

-- an operation and the name that it uses, filled
abbrev pub filled_call : Answered → Option (List ℕ) → Op → Op
filled_call above from asked = option_map_or (λ name. with_referent (referent_of name above) asked) from asked

-- such an operation fits, where the transaction may have it
abbrev pub CallFits : Schema → Kind → Answered → Call → Type 0
CallFits schema may above call = may_have may call.op ≡ true → Fits schema (filled_call above call.from call.op) may

same_call : (schema : Schema) (may : Kind) (above : Answered) (call other : Call) → call ≡ other → CallFits schema may above other → CallFits schema may above call
same_call schema may above call other e fit = subst (CallFits schema may above) (sym e) fit

-- a write stands in a transaction that may write
new_may : (may : Kind) (class : ℕ) (row : List Value) (id : ℕ) → may_have may (op.New class row id) ≡ true → may_write may ≡ true
new_may mode.ReadWrite class row id e = refl
new_may mode.ReadOnly class row id e = absurd (cc)

put_may : (may : Kind) (class id : ℕ) (row : List Value) → may_have may (op.Put class id row) ≡ true → may_write may ≡ true
put_may mode.ReadWrite class id row e = refl
put_may mode.ReadOnly class id row e = absurd (cc)

del_may : (may : Kind) (class id : ℕ) → may_have may (op.Del class id) ≡ true → may_write may ≡ true
del_may mode.ReadWrite class id e = refl
del_may mode.ReadOnly class id e = absurd (cc)

row_fits : (schema : Schema) (class : ℕ) (text : List ℕ) (row : List Value) → IsLastRow schema class text row → fits_row schema class row ≡ true
row_fits schema class text row is = both _ _ is.is.1 (at_most (row_length schema class row) 4000 is.short)

-- a name or a number in the place of the object makes no difference
get_fits : (schema : Schema) (may : Kind) (above : Answered) (class id : ℕ) (from : Option (List ℕ)) → has_class schema class ≡ true → Fits schema (filled_call above from (op.Get class id)) may
get_fits schema may above class id None there = there
get_fits schema may above class id (Some name) there = there

put_fits : (schema : Schema) (may : Kind) (above : Answered) (class id : ℕ) (row : List Value) (from : Option (List ℕ)) → may_write may ≡ true → fits_row schema class row ≡ true → Fits schema (filled_call above from (op.Put class id row)) may
put_fits schema may above class id row None writes fit = both _ _ writes fit
put_fits schema may above class id row (Some name) writes fit = both _ _ writes fit

del_fits : (schema : Schema) (may : Kind) (above : Answered) (class id : ℕ) (from : Option (List ℕ)) → may_write may ≡ true → has_class schema class ≡ true → Fits schema (filled_call above from (op.Del class id)) may
del_fits schema may above class id None writes there = both _ _ writes there
del_fits schema may above class id (Some name) writes there = both _ _ writes there

-- the place at which a `seek` begins
abbrev pub SeekFits : Schema → Kind → Answered → Member → Origin → Type 0
SeekFits schema may above m origin = Fits schema (filled_call above origin.from (op.Seek m.class m.place origin.place origin.up)) may

same_origin : (schema : Schema) (may : Kind) (above : Answered) (m : Member) (origin other : Origin) → origin ≡ other → SeekFits schema may above m other → SeekFits schema may above m origin
same_origin schema may above m origin other e fit = subst (SeekFits schema may above m) (sym e) fit

seek_fits : (schema : Schema) (known : Known) (may : Kind) (above : Answered) (m : Member) (way : Where) (text : List ℕ) (origin : Origin) → AreKnown known (lines_answered above) → PlacesFit schema above → has_index schema m.class m.place is_tree ≡ true → IsOrigin schema known m way text origin → SeekFits schema may above m origin
seek_fits schema known may above m from_where.First text origin are fit tree is = same_origin schema may above m origin _ is.1 (both _ _ tree refl)
seek_fits schema known may above m from_where.Last text origin are fit tree is = same_origin schema may above m origin _ is.1 (both _ _ tree refl)
seek_fits schema known may above m from_where.Ge text origin are fit tree is = same_origin schema may above m origin _ is.2 (both _ _ tree is.1.is.1)
seek_fits schema known may above m from_where.Gt text origin are fit tree is = same_origin schema may above m origin _ is.2 (both _ _ tree is.1.is.1)
seek_fits schema known may above m from_where.Le text origin are fit tree is = same_origin schema may above m origin _ is.2 (both _ _ tree is.1.is.1)
seek_fits schema known may above m from_where.Lt text origin are fit tree is = same_origin schema may above m origin _ is.2 (both _ _ tree is.1.is.1)
seek_fits schema known may above m from_where.Next text origin are fit tree is =
    let holds = first_of (holds_place known m (word text)) (is_end (behind text)) (second_of (is_name (word text)) _ is.0) in
    same_origin schema may above m origin _ is.1 (both _ _ tree (cursor_fits schema known m (word text) above true are fit holds))
seek_fits schema known may above m from_where.Prev text origin are fit tree is =
    let holds = first_of (holds_place known m (word text)) (is_end (behind text)) (second_of (is_name (word text)) _ is.0) in
    same_origin schema may above m origin _ is.1 (both _ _ tree (cursor_fits schema known m (word text) above false are fit holds))

pub call_fits : (schema : Schema) (known : Known) (may : Kind) (above : Answered) (asked : Verb) (text : List ℕ) (call : Call) → AreKnown known (lines_answered above) → PlacesFit schema above → IsCall schema known asked text call → CallFits schema may above call
call_fits schema known may above verb.New text call are fit h =
    same_call schema may above call _ h.is (λ m. both _ _ (new_may may h.class h.row 0 m) (row_fits schema h.class (behind text) h.row h.written))
call_fits schema known may above verb.Get text call are fit h =
    same_call schema may above call _ h.is (λ m. get_fits schema may above h.class h.target.id h.target.from (class_there schema (word text) h.class h.named))
call_fits schema known may above verb.Put text call are fit h =
    same_call schema may above call _ h.is (λ m. put_fits schema may above h.class h.target.id h.row h.target.from (put_may may h.class h.target.id h.row m) (row_fits schema h.class (behind (behind text)) h.row h.written))
call_fits schema known may above verb.Del text call are fit h =
    same_call schema may above call _ h.is (λ m. del_fits schema may above h.class h.target.id h.target.from (del_may may h.class h.target.id m) (class_there schema (word text) h.class h.named))
call_fits schema known may above verb.Find text call are fit h =
    same_call schema may above call _ h.is (λ m. both _ _ (index_there _ schema (word text) h.m h.named) h.written.is.1)
call_fits schema known may above verb.Seek text call are fit h =
    same_call schema may above call _ h.is (λ m. seek_fits schema known may above h.m h.way (behind (behind text)) h.origin are fit (index_there is_tree schema (word text) h.m h.named) h.written)
call_fits schema known may above verb.Area text call are fit h =
    same_call schema may above call _ h.is (λ m. both _ _ (index_there _ schema (word text) h.m h.named) h.written.is.1.1)
call_fits schema known may above verb.Prefix text call are fit h =
    same_call schema may above call _ h.is (λ m. both _ _ (index_there _ schema (word text) h.m h.named) (at_most (length h.words) 255 h.written.is.1))
call_fits schema known may above verb.Count text call are fit h =
    same_call schema may above call _ h.is (λ m. class_there schema (word text) h.class h.named)
