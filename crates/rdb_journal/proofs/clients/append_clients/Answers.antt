use Rattle.std.proofs.Common.{◌≡◌, ◌≤◌, ◌++◌, length, flat_map, ap, ◌∙◌, append_assoc, arith}
use Rattle.std.specs.List.{enumerate_from, zip}
use Rattle.std.proofs.lemmas.List.{take_all}
use Rattle.std.proofs.lemmas.Slice.Zip.{length-zip}
use Rattle.rdb_journal.specs.Endings.{client_lines}
use Rattle.rdb_journal.proofs.Numbered.{numbered_more, appended}
use Rattle.rdb_journal.proofs.clients.append_clients.Goals as goal

pub loop-place-preserved : goal.loop-place-preserved
loop-place-preserved c =
    rw (numbered_more (λ client. client_lines c.args.schema.now client.0 client.1.0 client.1.1) c.args.ends.now c.args.notes.now c.loop-place.place c.at.result.now c.at-in-loop-place.result.now c.at.ensures c.at-in-loop-place.ensures)
    (appended _ _ _ _ _ c.loop-place.invariant c.in_ok-lines.ensures)

pub returns : goal.returns
returns c =
    let past : length (zip c.args.ends.now c.args.notes.now) ≤ c.loop-place.place =
    omega (arith, length-zip c.args.ends.now c.args.notes.now, c.min-place-end.ensures, c.len.ensures, c.len-2.ensures) in
    c.loop-place.invariant ∙ ap (λ pairs. c.args.lines ++ flat_map (λ client. client_lines c.args.schema.now client.0 client.1.0 client.1.1) (enumerate_from 1 pairs)) (take_all c.loop-place.place (zip c.args.ends.now c.args.notes.now) past)
