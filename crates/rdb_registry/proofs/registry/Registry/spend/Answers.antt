-- One sum of one slot's row grows.
use Rattle.std.proofs.Common.{◌<◌, ◌+◌, ℕ, List, length, map, ap, subst, sym, ◌∙◌, Vec, Global, arith}
use Rattle.std.proofs.lemmas.List.{length-map, length-set, map-set}
use Rattle.std.specs.Vec.{with_item}
use Rattle.rdb_registry.specs.Registry.{Roll, spent_by, with_spent}
use Rattle.rdb_registry.specs.contracts.registry.Registry.{the_view}
use Rattle.rdb_registry.proofs.SpentLemmas.{spent_row, sum_at, kept_spent, spent_set}
use Rattle.rdb_registry.proofs.KeptLemmas.{told_by}
use Rattle.rdb_registry.proofs.registry.Registry.spend.Goals as goal

abbrev row_items : Vec ℕ Global → List ℕ
row_items row = row.items

pub invariant_of-self : goal.invariant_of-self
invariant_of-self c =
    let slot : c.args.slot < length c.self.inside.spent.items = let count = c.self.invariant.spent in let lengths = length-map c.self.inside.spent.items row_items in omega (arith, count, lengths) in
    let at = spent_row row_items c.self.inside.spent.items c.args.slot c.index_mut-row.result.now slot c.index_mut-row.ensures.value in
    rw (map-set row_items c.self.inside.spent.items c.args.slot (with_item c.index_mut-row.result.now c.args.class (c.index_mut.result.now + c.args.claim)))
    (kept_spent c.self.invariant c.args.slot c.index_mut-row.result.now.items _ at (length-set c.index_mut-row.result.now.items c.args.class (c.index_mut.result.now + c.args.claim)))

pub returns : goal.returns
returns c =
    let slot : c.args.slot < length c.self.inside.spent.items = let count = c.self.invariant.spent in let lengths = length-map c.self.inside.spent.items row_items in omega (arith, count, lengths) in
    let at = spent_row row_items c.self.inside.spent.items c.args.slot c.index_mut-row.result.now slot c.index_mut-row.ensures.value in
    let rows = c.self.invariant.rows c.args.slot c.index_mut-row.result.now.items at in
    let class : c.args.class < length c.self.inside.takers.items = subst (λ (r : Roll). c.args.class < r.classes) (sym c.self.view_is) c.requires.class in
    let sum = sum_at (map row_items c.self.inside.spent.items) c.args.slot c.args.class c.index_mut-row.result.now.items c.index_mut.result.now at (omega (arith, rows, class)) c.index_mut.ensures.value in
    let table =
    map-set row_items c.self.inside.spent.items c.args.slot (with_item c.index_mut-row.result.now c.args.class (c.index_mut.result.now + c.args.claim))
    ∙ spent_set (map row_items c.self.inside.spent.items) c.args.slot c.args.class c.index_mut-row.result.now.items c.index_mut.result.now c.args.claim at sum in
    told_by _ _ _ (λ (r : Roll). record r { spent = with_spent r.spent c.args.slot c.args.class (spent_by r.spent c.args.slot c.args.class + c.args.claim) }) c.self.view_is
    (ap (λ (t : List (List ℕ)). record (the_view c.self.inside) { spent = t }) table)
