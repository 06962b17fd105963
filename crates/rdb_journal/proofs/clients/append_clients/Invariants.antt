use Rattle.std.proofs.Common.{◌≡◌, ◌++◌, flat_map, take}
use Rattle.std.specs.List.{enumerate_from, zip}
use Rattle.rdb_journal.specs.Endings.{client_lines}
use Rattle.rdb_journal.proofs.clients.append_clients.Given as goal

abbrev pub invariant-loop-place : goal.invariant-loop-place
invariant-loop-place l = l.lines
    ≡ l.initial.lines ++ flat_map (λ client. client_lines l.schema client.0 client.1.0 client.1.1) (enumerate_from 1 (take l.place (zip l.ends l.notes)))
