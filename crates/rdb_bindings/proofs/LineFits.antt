-- The line of a unit that fits below the lines above it fits at its number.
use Rattle.std.proofs.Common.{◌≡◌, ℕ, zero, suc, ◌+◌, ◌≤◌, Bool, List, [], ◌∷◌, ◌++◌, length, take, slice_get, Option, Some, sym, ap, ap₂, subst, ◌∙◌, append_assoc, length-append, arith}
use Rattle.std.proofs.lemmas.List.{append-nil, take-map, take-append-le}
use Rattle.std.proofs.lemmas.Option.{slice_get_within}
use Rattle.rdb_base.specs.declared.identity.Kind.{Kind}
use Rattle.rdb_base.specs.declared.operation.Reply.{Reply}
use Rattle.rdb_schema.specs.declared.schema.Schema.{Schema}
use Rattle.rdb_script.specs.declared.unit.Script.{Script}
use Rattle.rdb_script.specs.declared.unit.ScriptLine.{ScriptLine}
use Rattle.rdb_script.specs.declared.unit.Unit.{Unit as ScriptUnit}
use Rattle.rdb_script.specs.declared.unit.Unit.TheVariants as unit
use Rattle.rdb_script.specs.Scripts.{IsScript}
use Rattle.rdb_model.specs.Fits.{Fits}
use Rattle.rdb_bindings.specs.Filling.{Answered, lines_answered, lines_in, lines_of, number_of, filled}
use Rattle.rdb_bindings.specs.Fitting.{PlacesFit}
use Rattle.rdb_bindings.proofs.PlaceLemmas.{slice_get-taken}
use Rattle.rdb_bindings.proofs.ScriptFits.{FitsBelow, LinesFit, UnitFits, UnitsFit, script_fits}

line_at : (schema : Schema) (may : Kind) (above ls : List ScriptLine) (at : ℕ) (line : ScriptLine) → LinesFit schema may above ls → slice_get ls at ≡ Some line → FitsBelow schema may (above ++ take at ls) line
line_at schema may above [] at line fit e = absurd (cc)
line_at schema may above (l ∷ ls) zero line fit e =
    let same : l ≡ line = cc in
    subst (λ (all : List ScriptLine). FitsBelow schema may all line) (sym (append-nil above)) (subst (FitsBelow schema may above) same fit.0)
line_at schema may above (l ∷ ls) (suc at) line fit e =
    subst (λ (all : List ScriptLine). FitsBelow schema may all line) (append_assoc above (l ∷ []) (take at ls)) (line_at schema may (above ++ l ∷ []) ls at line fit.1 e)

unit_at : (schema : Schema) (above : List ScriptLine) (us : List ScriptUnit) (place : ℕ) (u : ScriptUnit) → UnitsFit schema above us → slice_get us place ≡ Some u → UnitFits schema (above ++ lines_of (take place us)) u
unit_at schema above [] place u fit e = absurd (cc)
unit_at schema above (v ∷ us) zero u fit e =
    let same : v ≡ u = cc in
    subst (λ (all : List ScriptLine). UnitFits schema all u) (sym (append-nil above)) (subst (UnitFits schema above) same fit.0)
unit_at schema above (v ∷ us) (suc place) u fit e =
    subst (λ (all : List ScriptLine). UnitFits schema all u) (append_assoc above (lines_in v) (lines_of (take place us))) (unit_at schema (above ++ lines_in v) us place u fit.1 e)

-- the lines above the one of a number
take_over : {X : Type 0} (xs ys : List X) (n : ℕ) → take (length xs + n) (xs ++ ys) ≡ xs ++ take n ys
take_over [] ys n = let none : 0 + n ≡ n = omega arith in ap (λ k. take k ys) none
take_over (x ∷ xs) ys n =
    let next : suc (length xs) + n ≡ suc (length xs + n) = omega arith in
    ap (λ k. take k (x ∷ (xs ++ ys))) next ∙ ap (λ rest. x ∷ rest) (take_over xs ys n)

taken : (us : List ScriptUnit) (place at : ℕ) (u : ScriptUnit) → slice_get us place ≡ Some u → at ≤ length (lines_in u) → take (number_of us place at) (lines_of us) ≡ lines_of (take place us) ++ take at (lines_in u)
taken [] place at u e within = absurd (cc)
taken (v ∷ us) zero at u e within =
    let same : v ≡ u = cc in
    let none : 0 + at ≡ at = omega arith in
    ap₂ (λ (k : ℕ) (w : ScriptUnit). take k (lines_in w ++ lines_of us)) none same ∙ take-append-le at (lines_in u) (lines_of us) within
taken (v ∷ us) (suc place) at u e within =
    let count = length-append (lines_in v) (lines_of (take place us)) in
    let next : number_of (v ∷ us) (suc place) at ≡ length (lines_in v) + number_of us place at = omega (arith, count) in
    ap (λ k. take k (lines_in v ++ lines_of us)) next
    ∙ take_over (lines_in v) (lines_of us) (number_of us place at)
    ∙ ap (λ rest. lines_in v ++ rest) (taken us place at u e within)
    ∙ sym (append_assoc (lines_in v) (lines_of (take place us)) (take at (lines_in u)))

places_taken : (schema : Schema) (answered : Answered) (n : ℕ) → PlacesFit schema answered → PlacesFit schema (take n answered)
places_taken schema answered n fit = λ number line told there. fit number line told (slice_get-taken answered n number (line, Some told) there)

pub lines_fit : (schema : Schema) (text : List ℕ) (script : Script) (answered : Answered) (place at : ℕ) (may : Kind) (retries : ℕ) (ls : List ScriptLine) (commits : Bool) (line : ScriptLine) → IsScript schema text script → lines_answered answered ≡ lines_of script.units → PlacesFit schema answered → slice_get script.units place ≡ Some (unit.Tx may retries ls commits) → slice_get ls at ≡ Some line → Fits schema (filled (take (number_of script.units place at) answered) line) may
lines_fit schema text script answered place at may retries ls commits line is same fit unit_there line_there =
    let within = slice_get_within ls at line line_there in
    line_at schema may (lines_of (take place script.units)) ls at line
    (unit_at schema [] script.units place (unit.Tx may retries ls commits) (script_fits schema text script is) unit_there) line_there
    (take (number_of script.units place at) answered)
    (sym (take-map (λ (l : ScriptLine × Option Reply). l.0) (number_of script.units place at) answered)
    ∙ ap (take (number_of script.units place at)) same
    ∙ taken script.units place at (unit.Tx may retries ls commits) unit_there (omega (arith, within)))
    (places_taken schema answered (number_of script.units place at) fit)
