use Rattle.std.proofs.Common.{◌≡◌, ◌++◌, drop, false}
use Rattle.std.specs.Option.{option_map_or}
use Rattle.rdb_model.specs.Index.{key}
use Rattle.rdb_model.specs.Answer.{ids_where, is_found, words_of}
use Rattle.rdb_model.proofs.lookups.ids_with_prefix.Given as goal

-- the ids so far, and those of the objects that are left, are those of all
abbrev pub invariant-loop-id : goal.invariant-loop-id
invariant-loop-id l = l.ids ++ ids_where (λ row. option_map_or (is_found l.how l.text l.longest) (words_of (key l.fields row)) false) (drop l.id-index l.objects) ≡ ids_where (λ row. option_map_or (is_found l.how l.text l.longest) (words_of (key l.fields row)) false) l.objects
