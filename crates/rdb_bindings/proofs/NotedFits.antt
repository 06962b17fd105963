-- The places that lines were told still fit, with one reply more.
use Rattle.std.proofs.Common.{◌≡◌, ℕ, zero, suc, Bool, true, List, [], ◌∷◌, slice_get, Option, Some, None, ◌⊎◌, inl, inr, refl, sym, ap, ◌∙◌}
use Rattle.std.specs.Option.{option_map_or}
use Rattle.rdb_base.specs.declared.operation.Op.{Op}
use Rattle.rdb_base.specs.declared.operation.Op.TheVariants as op
use Rattle.rdb_base.specs.declared.operation.Place.{Place}
use Rattle.rdb_base.specs.declared.operation.Reply.{Reply}
use Rattle.rdb_base.specs.declared.operation.Reply.TheVariants as reply
use Rattle.rdb_schema.specs.declared.schema.Schema.{Schema}
use Rattle.rdb_script.specs.declared.unit.ScriptLine.{ScriptLine}
use Rattle.rdb_bindings.specs.declared.referent.Referent.{Referent}
use Rattle.rdb_bindings.specs.Filling.{Answered, lines_answered, unanswered, noted, origin, referent_of, with_referent, filled}
use Rattle.rdb_bindings.specs.Fitting.{place_fits, PlacesFit}

-- whether a place fits doesn't hang on where the `seek` began, nor on what fills a line
same_seek : (schema : Schema) (class index : ℕ) (from other : Place) (up : Bool) (told : Reply) → place_fits schema (op.Seek class index from up) told ≡ place_fits schema (op.Seek class index other up) told
same_seek schema class index from other up (reply.Made id) = refl
same_seek schema class index from other up (reply.Row row) = refl
same_seek schema class index from other up reply.Done = refl
same_seek schema class index from other up reply.NotFound = refl
same_seek schema class index from other up (reply.Duplicate at id) = refl
same_seek schema class index from other up (reply.Ids ids) = refl
same_seek schema class index from other up (reply.At key id) = refl
same_seek schema class index from other up reply.End = refl
same_seek schema class index from other up (reply.Count count) = refl

same_place : (schema : Schema) (found : Option Referent) (o : Op) (told : Reply) → place_fits schema (with_referent found o) told ≡ place_fits schema o told
same_place schema found (op.New class row id) told = refl
same_place schema found (op.Get class id) told = refl
same_place schema found (op.Put class id row) told = refl
same_place schema found (op.Del class id) told = refl
same_place schema found (op.Find class index key) told = refl
same_place schema found (op.Seek class index from up) told = same_seek schema class index (origin up found) from up told
same_place schema found (op.Area class index rect inside) told = refl
same_place schema found (op.Prefix class index text way) told = refl
same_place schema found (op.Count class) told = refl

filled_place : (schema : Schema) (above : Answered) (from : Option (List ℕ)) (o : Op) (told : Reply) → place_fits schema (option_map_or (λ name. with_referent (referent_of name above) o) from o) told ≡ place_fits schema o told
filled_place schema above None o told = refl
filled_place schema above (Some name) o told = same_place schema (referent_of name above) o told

same_pair : (p q : ScriptLine × Option Reply) → Some p ≡ Some q → p ≡ q
same_pair p q e = (cc)

same_told : (a b : Reply) → Some a ≡ Some b → a ≡ b
same_told a b e = (cc)

-- a reply that a line was told last is the one noted, or was told before
noted_at : (answered : Answered) (number n : ℕ) (told last : Reply) (line : ScriptLine) → slice_get (noted answered number told) n ≡ Some (line, Some last) → (slice_get answered n ≡ Some (line, Some last)) ⊎ ((slice_get (lines_answered answered) number ≡ Some line) × (told ≡ last))
noted_at [] number n told last line e = inl e
noted_at (l ∷ ls) zero zero told last line e =
    let pair = same_pair (l.0, Some told) (line, Some last) e in
    inr (ap (λ (p : ScriptLine × Option Reply). Some p.0) pair, same_told told last (ap (λ (p : ScriptLine × Option Reply). p.1) pair))
noted_at (l ∷ ls) zero (suc n) told last line e = inl e
noted_at (l ∷ ls) (suc number) zero told last line e = inl e
noted_at (l ∷ ls) (suc number) (suc n) told last line e = noted_at ls number n told last line e

some_line : (a b : ScriptLine) → Some a ≡ Some b → a ≡ b
some_line a b e = (cc)

pub places_noted : (schema : Schema) (above answered : Answered) (number : ℕ) (line : ScriptLine) (told : Reply) → PlacesFit schema answered → slice_get (lines_answered answered) number ≡ Some line → place_fits schema (filled above line) told ≡ true → PlacesFit schema (noted answered number told)
places_noted schema above answered number line told fit there fits = λ n other last e. go other last n (noted_at answered number n told last other e)
  where
    go : (other : ScriptLine) (last : Reply) (n : ℕ) → (slice_get answered n ≡ Some (other, Some last)) ⊎ ((slice_get (lines_answered answered) number ≡ Some other) × (told ≡ last)) → place_fits schema other.op last ≡ true
    go other last n (inl before) = fit n other last before
    go other last n (inr now) =
        let same = some_line line other (sym there ∙ now.0) in
        ap (λ (l : ScriptLine). place_fits schema l.op last) (sym same) ∙ ap (place_fits schema line.op) (sym now.1)
        ∙ sym (filled_place schema above line.from line.op told) ∙ fits

-- no place was told yet
none_told : (lines : List ScriptLine) (n : ℕ) (line : ScriptLine) (told : Reply) → ◌≡◌ {A = Option (ScriptLine × Option Reply)} (slice_get (unanswered lines) n) (Some (line, Some told)) → ⊥
none_told [] n line told e = (cc)
none_told (l ∷ ls) zero line told e = let none = ap (λ (p : ScriptLine × Option Reply). p.1) (same_pair (l, None) (line, Some told) e) in absurd (cc)
none_told (l ∷ ls) (suc n) line told e = none_told ls n line told e

pub places_none : (schema : Schema) (lines : List ScriptLine) → PlacesFit schema (unanswered lines)
places_none schema lines = λ n line told e. absurd (none_told lines n line told e)
