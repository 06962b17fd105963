use Rattle.std.proofs.Common.{◌≡◌, ℕ, ◌++◌, ◌-◌, length, drop, replicate, subst, sym, arith}
use Rattle.std.proofs.lemmas.List.{drop-replicate}
use Rattle.rdb_cells.specs.RowFormat.{IsRowCell}
use Rattle.rdb_cells.proofs.RowFormatLemmas.{filled_proper}
use Rattle.rdb_cells.proofs.formats.row.RowCell.holding.Goals as goal

pub returns-clause-value : goal.returns-clause-value
returns-clause-value c =
    let given : ℕ = length c.args.bytes.now in
    let zeros : drop {A = ℕ} given (replicate 60 0) ≡ replicate (60 - given) 0 = drop-replicate given 60 0 in
    λ i. record { next = c.args.next; bytes = c.copy_from_slice.ensures.after i ++ zeros i }

pub returns-clause-proper : goal.returns-clause-proper
returns-clause-proper c near = subst IsRowCell (sym (returns-clause-value c)) (filled_proper c.args.bytes.now c.args.next c.requires (λ k. let fits = c.type_inv.bytes k in omega arith) near)
