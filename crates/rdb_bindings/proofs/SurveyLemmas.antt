-- A survey that goes on behind a line.
use Rattle.std.proofs.Common.{◌≡◌, ℕ, suc, false, cond, List, [], ◌∷◌, ◌++◌, length, Option, Some, None, refl, sym, ap, ap₂, ◌∙◌, append_assoc}
use Rattle.std.specs.Option.{option_and_then, option_map_or}
use Rattle.std.specs.Ordering.{nat_cmp, is_eq}
use Rattle.std.specs.Str.{bytes_eq}
use Rattle.std.specs.Cmp.Lexicographic.{slice_cmp}
use Rattle.std.specs.FinMap.{FinMap, get, get-insert}
use Rattle.std.proofs.lemmas.Cmp.{nat_list_cmp_total, eq_by_cmp_equiv}
use Rattle.std.proofs.lemmas.List.{append-nil, map-append}
use Rattle.std.proofs.lemmas.Map.Text.{is_eq-slice_cmp}
use Rattle.rdb_script.specs.declared.unit.ScriptLine.{ScriptLine}
use Rattle.rdb_bindings.specs.declared.survey.Survey.{Survey}
use Rattle.rdb_bindings.specs.Filling.{assigns}
use Rattle.rdb_bindings.specs.Keeping.{assigned, last_place, source, sources_below, IsSurvey}
use Rattle.rdb_bindings.proofs.PlaceLemmas.{last_place_more}

pub same_name : (own name : List ℕ) → is_eq (slice_cmp nat_cmp name own) ≡ bytes_eq own name
same_name own name = (eq_by_cmp_equiv nat_list_cmp_total).symm name own ∙ is_eq-slice_cmp own name

pub length-sources : (above lines : List ScriptLine) → length (sources_below above lines) ≡ length lines
length-sources above [] = refl
length-sources above (line ∷ lines) = ap suc (length-sources (above ++ line ∷ []) lines)

sources_more : (above lines : List ScriptLine) (line : ScriptLine) → sources_below above (lines ++ line ∷ []) ≡ sources_below above lines ++ source (above ++ lines) line ∷ []
sources_more above [] line = ap (λ (ls : List ScriptLine). source ls line ∷ []) (sym (append-nil above))
sources_more above (l ∷ ls) line =
    ap (λ rest. source above l ∷ rest) (sources_more (above ++ l ∷ []) ls line)
    ∙ ap (λ (all : List ScriptLine). source above l ∷ (sources_below (above ++ l ∷ []) ls ++ source all line ∷ [])) (append_assoc above (l ∷ []) ls)

-- the map behind a line answers for one line more
assigned_more : (m : FinMap (slice_cmp nat_cmp) ℕ) (number : ℕ) (own : Option (List ℕ)) (name : List ℕ) → get (assigned m number own) name ≡ cond (option_map_or (λ o. bytes_eq o name) own false) (Some number) (get m name)
assigned_more m number None name = refl
assigned_more m number (Some own) name = get-insert nat_list_cmp_total m own number name ∙ ap (λ b. cond b (Some number) (get m name)) (same_name own name)

source_by : (m : FinMap (slice_cmp nat_cmp) ℕ) (above : List ScriptLine) → ((name : List ℕ) → get m name ≡ last_place (assigns name) above) → (from : Option (List ℕ)) → option_and_then (get m) from ≡ option_and_then (λ name. last_place (assigns name) above) from
source_by m above last None = refl
source_by m above last (Some name) = last name

pub survey_none : (new : Survey) → ((name : List ℕ) → get new.assigners name ≡ None) → new.sources ≡ [] → new.referents ≡ [] → IsSurvey [] new
survey_none new last sources referents = record { last = last; sources = sources; referents = referents }

pub survey_more : (above : List ScriptLine) (line : ScriptLine) (old new : Survey) → IsSurvey above old → new.sources ≡ old.sources ++ option_and_then (get old.assigners) line.from ∷ [] → new.referents ≡ old.referents ++ None ∷ [] → new.assigners ≡ assigned old.assigners (length old.sources) line.name → IsSurvey (above ++ line ∷ []) new
survey_more above line old new is sources referents assigners = record {
  last = λ name.
      ap (λ m. get m name) assigners
      ∙ assigned_more old.assigners (length old.sources) line.name name
      ∙ ap₂ (λ n o. cond (assigns name line) (Some n) o) (ap length is.sources ∙ length-sources [] above) (is.last name)
      ∙ sym (last_place_more (assigns name) above line);
  sources =
      sources
      ∙ ap₂ (λ ss s. ss ++ s ∷ []) is.sources (source_by old.assigners above is.last line.from)
      ∙ sym (sources_more [] above line);
  referents = referents ∙ ap (λ rs. rs ++ None ∷ []) is.referents ∙ sym (map-append (λ _. None) above (line ∷ []));
}
