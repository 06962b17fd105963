-- A schema's file that is told and refused isn't one that was read.
use Rattle.std.proofs.Common.{◌≡◌, ℕ, List, [], ◌∷◌, Option, Some, sym, ap, ◌∙◌, subst}
use Rattle.std.specs.Prelude.{IfSome, slice_get}
use Rattle.rdb_schema.specs.declared.schema.Schema.{Schema}
use Rattle.rdb_ddl.specs.Read.{IsRead, IsRefused}
use Rattle.rdb_ddl.proofs.OneAnswer.{not_both}
use Rattle.rdb_runner.specs.Reading.{Sight, AreBytesOf}
use Rattle.rdb_runner.specs.SchemaFile.{HasBadSchema}

-- the first text is the one that is told of the first name
pub first_told : (told : List ℕ → Option (List ℕ)) (names others : List (List ℕ)) (name there text : List ℕ) → AreBytesOf told names (text ∷ others) → slice_get names 0 ≡ Some name → told name ≡ Some there → text ≡ there
first_told told [] others name there text all at is = absurd all
first_told told (n ∷ names) others name there text all at is =
    let same : n ≡ name = cc in
    subst (λ (o : Option (List ℕ)). IfSome o (λ x. text ≡ x)) (ap told same ∙ is) all.0.0

-- a schema that is read isn't one that is refused
pub bad_is_not_read : (names others : List (List ℕ)) (sight : Sight) (text : List ℕ) (schema : Schema) → AreBytesOf sight.told names (text ∷ others) → IsRead text schema → HasBadSchema names sight → ⊥
bad_is_not_read names others sight text schema all read (name, there, fault, at, is, refused) =
    not_both text schema fault read (subst (λ (t : List ℕ). IsRefused t fault) (sym (first_told sight.told names others name there text all at is)) refused)
