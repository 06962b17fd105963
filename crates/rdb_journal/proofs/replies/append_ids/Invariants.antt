use Rattle.std.proofs.Common.{◌≡◌, ◌++◌, string_bytes, flat_map, take, codes}
use Rattle.std.specs.Prelude.{decimal}
use Rattle.rdb_journal.proofs.replies.append_ids.Given as goal

abbrev pub invariant-loop-id : goal.invariant-loop-id
invariant-loop-id l =
    string_bytes l.text ≡ string_bytes l.initial.text ++ flat_map (λ id. codes " " ++ decimal id) (take l.id-index l.others)
