-- A clash, one index after another.
use Rattle.std.proofs.Common.{◌≡◌, ℕ, ◌+◌, ◌<◌, List, ◌∷◌, length, get_or, drop, Some, None, true, sym, ap, ◌∙◌, if◌then◌else◌}
use Rattle.std.specs.Option.{option_map, option_or}
use Rattle.std.proofs.lemmas.List.{at_drop_more}
use Rattle.rdb_schema.specs.declared.schema.IndexDecl.{IndexDecl}
use Rattle.rdb_model.specs.Database.{Row, Objects}
use Rattle.rdb_model.specs.Index.{key}
use Rattle.rdb_model.specs.Answer.{clash, holder}
use Rattle.rdb_model.specs.Others.{first_with}

-- the clash in the indexes from a place on is that in the one there, or else that in the others
clash_more : (indexes : List IndexDecl) (number : ℕ) (row : Row) (os : Objects) (i : ℕ) (decl : IndexDecl) → i < length indexes → decl ≡ get_or indexes i decl → clash (drop i indexes) number row os ≡ option_or (if decl.unique then option_map (λ id. (number, id)) (holder decl.key row os) else None) (clash (drop (i + 1) indexes) (number + 1) row os)
clash_more indexes number row os i decl lt is =
    at_drop_more (λ is. clash is number row os) indexes i decl lt ∙ ap (λ d. clash (d ∷ drop (i + 1) indexes) number row os) (sym is)

-- an object that has the row's key in a unique index there is the clash
pub clash_found : (indexes : List IndexDecl) (number : ℕ) (row : Row) (os : Objects) (i : ℕ) (decl : IndexDecl) (id : ℕ) → i < length indexes → decl ≡ get_or indexes i decl → decl.unique ≡ true → Some id ≡ first_with decl.key (key decl.key row) os → clash (drop i indexes) number row os ≡ Some (number, id)
clash_found indexes number row os i decl id lt is unique found =
    clash_more indexes number row os i decl lt is
    ∙ ap (λ u. option_or (if u then option_map (λ n. (number, n)) (holder decl.key row os) else None) (clash (drop (i + 1) indexes) (number + 1) row os)) unique
    ∙ ap (λ o. option_or (option_map (λ n. (number, n)) o) (clash (drop (i + 1) indexes) (number + 1) row os)) (sym found)
