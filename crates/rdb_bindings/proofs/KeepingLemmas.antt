-- What is kept of a script, read and written.
use Rattle.std.proofs.Common.{◌≡◌, ℕ, zero, suc, List, [], ◌∷◌, ◌++◌, map, take, slice_get, slice_set, Option, Some, None, refl, sym, ap, ap₂, ◌∙◌, append_assoc, length}
use Rattle.std.specs.Option.{option_and_then, option_flatten, option_map, option_map_or}
use Rattle.std.proofs.lemmas.List.{append-nil, length-map, take-map}
use Rattle.rdb_base.specs.declared.operation.Op.{Op}
use Rattle.rdb_base.specs.declared.operation.Reply.{Reply}
use Rattle.rdb_script.specs.declared.unit.ScriptLine.{ScriptLine}
use Rattle.rdb_model.specs.Answer.{find_last}
use Rattle.rdb_bindings.specs.declared.bindings.Bindings.{Bindings}
use Rattle.rdb_bindings.specs.declared.referent.Referent.{Referent}
use Rattle.rdb_bindings.specs.Filling.{Answered, lines_answered, unanswered, noted, assigns, given, referent_of, with_referent, filled}
use Rattle.rdb_bindings.specs.Keeping.{last_place, source, sources_below, sources_of, kept, Keeps, referent_at}
use Rattle.rdb_bindings.proofs.PlaceLemmas.{IsThere, last_there, last_place-map, slice_get-taken, slice_get-map}

-- before the first reply
pub lines-unanswered : (lines : List ScriptLine) → lines_answered (unanswered lines) ≡ lines
lines-unanswered [] = refl
lines-unanswered (line ∷ lines) = ap (λ ls. line ∷ ls) (lines-unanswered lines)

kept-unanswered : (lines : List ScriptLine) → map kept (unanswered lines) ≡ map (λ _. None) lines
kept-unanswered [] = refl
kept-unanswered (line ∷ lines) = ap (λ rs. None ∷ rs) (kept-unanswered lines)

pub keeps_none : (lines : List ScriptLine) (bindings : Bindings) → bindings.sources ≡ sources_of lines → bindings.referents ≡ map (λ _. None) lines → Keeps (unanswered lines) bindings
keeps_none lines bindings sources referents = record {
  sources = sources ∙ ap sources_of (sym (lines-unanswered lines));
  referents = referents ∙ sym (kept-unanswered lines);
}

-- a reply that is noted
pub lines-noted : (answered : Answered) (number : ℕ) (told : Reply) → lines_answered (noted answered number told) ≡ lines_answered answered
lines-noted [] number told = refl
lines-noted (l ∷ ls) zero told = refl
lines-noted (l ∷ ls) (suc number) told = ap (λ rest. l.0 ∷ rest) (lines-noted ls number told)

kept-noted : (answered : Answered) (number : ℕ) (told : Reply) → map kept (noted answered number told) ≡ slice_set (map kept answered) number (given told)
kept-noted [] number told = refl
kept-noted (l ∷ ls) zero told = refl
kept-noted (l ∷ ls) (suc number) told = ap (λ rest. kept l ∷ rest) (kept-noted ls number told)

pub keeps_noted : (answered : Answered) (number : ℕ) (told : Reply) (old new : Bindings) → new.sources ≡ old.sources → new.referents ≡ slice_set old.referents number (given told) → Keeps answered old → Keeps (noted answered number told) new
keeps_noted answered number told old new sources referents is = record {
  sources = sources ∙ is.sources ∙ ap sources_of (sym (lines-noted answered number told));
  referents = referents ∙ ap (λ rs. slice_set rs number (given told)) is.referents ∙ sym (kept-noted answered number told);
}

-- something is kept for each line
pub kept-length : (answered : Answered) (bindings : Bindings) → Keeps answered bindings → length bindings.referents ≡ length answered
kept-length answered bindings is = ap length is.referents ∙ length-map answered kept

-- the source of a line is kept at its number
source_below : (above lines : List ScriptLine) (number : ℕ) (line : ScriptLine) → slice_get lines number ≡ Some line → slice_get (sources_below above lines) number ≡ Some (source (above ++ take number lines) line)
source_below above [] number line e = absurd (cc)
source_below above (l ∷ ls) zero line e =
    let same : l ≡ line = cc in
    ap Some (ap₂ source (sym (append-nil above)) same)
source_below above (l ∷ ls) (suc number) line e =
    source_below (above ++ l ∷ []) ls number line e
    ∙ ap (λ (all : List ScriptLine). Some (source all line)) (append_assoc above (l ∷ []) (take number ls))

-- what is kept of a source is what its last reply gives
kept_at : (answered : Answered) (number : ℕ) (name : List ℕ) (o : Option ℕ) (last : Option (ScriptLine × Option Reply)) → IsThere (take number answered) last o → option_and_then (λ n. option_flatten (slice_get (map kept answered) n)) o ≡ option_and_then given (option_and_then (λ l. l.1) last)
kept_at answered number name None last is = sym (ap (λ l. option_and_then given (option_and_then (λ (x : ScriptLine × Option Reply). x.1) l)) is)
kept_at answered number name (Some n) last is =
    ap option_flatten (slice_get-map kept answered n ∙ ap (option_map kept) (slice_get-taken answered number n is.0 is.1))
    ∙ sym (ap (λ l. option_and_then given (option_and_then (λ (x : ScriptLine × Option Reply). x.1) l)) is.2)

-- what is kept for a line that uses a name is what the name stands for
pub referent_there : (answered : Answered) (bindings : Bindings) (number : ℕ) (line : ScriptLine) (name : List ℕ) → Keeps answered bindings → slice_get (lines_answered answered) number ≡ Some line → line.from ≡ Some name → referent_at bindings number ≡ referent_of name (take number answered)
referent_there answered bindings number line name is there from =
    ap₂ (λ (sources : List (Option ℕ)) (referents : List (Option Referent)). option_and_then (λ n. option_flatten (slice_get referents n)) (option_flatten (slice_get sources number))) is.sources is.referents
    ∙ ap (λ (o : Option (Option ℕ)). option_and_then (λ n. option_flatten (slice_get (map kept answered) n)) (option_flatten o)) (source_below [] (lines_answered answered) number line there)
    ∙ ap (λ (o : Option (List ℕ)). option_and_then (λ n. option_flatten (slice_get (map kept answered) n)) (option_and_then (λ own. last_place (assigns own) (take number (lines_answered answered))) o)) from
    ∙ ap (λ (o : Option ℕ). option_and_then (λ n. option_flatten (slice_get (map kept answered) n)) o) (ap (last_place (assigns name)) (take-map (λ (l : ScriptLine × Option Reply). l.0) number answered) ∙ last_place-map (λ (l : ScriptLine × Option Reply). l.0) (assigns name) (take number answered))
    ∙ kept_at answered number name (last_place (λ l. assigns name l.0) (take number answered)) (find_last (λ l. assigns name l.0) (take number answered)) (last_there (λ l. assigns name l.0) (take number answered))

-- the operation that such a line asks for
pub filled_there : (answered : Answered) (bindings : Bindings) (number : ℕ) (line : ScriptLine) (name : List ℕ) (asked : Op) → asked ≡ with_referent (referent_at bindings number) line.op → line.from ≡ Some name → Keeps answered bindings → slice_get (lines_answered answered) number ≡ Some line → asked ≡ filled (take number answered) line
filled_there answered bindings number line name asked is from keeps there =
    is
    ∙ ap (λ found. with_referent found line.op) (referent_there answered bindings number line name keeps there from)
    ∙ sym (ap (λ (o : Option (List ℕ)). option_map_or (λ own. with_referent (referent_of own (take number answered)) line.op) o line.op) from)
