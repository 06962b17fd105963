-- Each slot has a row with a sum for each class.
use Rattle.std.proofs.Common.{◌<◌, ℕ, List, length, ap, subst, sym, ◌∙◌, map, Vec, Global, arith}
use Rattle.std.proofs.lemmas.List.{length-map}
use Rattle.rdb_registry.specs.Registry.{Roll, spent_by}
use Rattle.rdb_registry.proofs.SpentLemmas.{spent_row, sum_at}
use Rattle.rdb_registry.proofs.registry.Registry.spent.Goals as goal

abbrev row_items : Vec ℕ Global → List ℕ
row_items row = row.items

pub index-requires : goal.index-requires
index-requires c =
    let slot : c.args.slot < length c.self.inside.spent.items = let count = c.self.invariant.spent in let lengths = length-map c.self.inside.spent.items row_items in omega (arith, count, lengths) in
    let at = spent_row row_items c.self.inside.spent.items c.args.slot c.index-row.result.now slot c.index-row.ensures in
    let rows = c.self.invariant.rows c.args.slot c.index-row.result.now.items at in
    let class : c.args.class < length c.self.inside.takers.items = subst (λ (r : Roll). c.args.class < r.classes) (sym c.self.view_is) c.requires.class in
    let len = c.index-row.result.now.ok.0 in
    omega arith

pub returns : goal.returns
returns c =
    let slot : c.args.slot < length c.self.inside.spent.items = let count = c.self.invariant.spent in let lengths = length-map c.self.inside.spent.items row_items in omega (arith, count, lengths) in
    let at = spent_row row_items c.self.inside.spent.items c.args.slot c.index-row.result.now slot c.index-row.ensures in
    let rows = c.self.invariant.rows c.args.slot c.index-row.result.now.items at in
    let class : c.args.class < length c.self.inside.takers.items = subst (λ (r : Roll). c.args.class < r.classes) (sym c.self.view_is) c.requires.class in
    let sum = sum_at (map row_items c.self.inside.spent.items) c.args.slot c.args.class c.index-row.result.now.items c.index.result.now at (omega (arith, rows, class)) c.index.ensures in
    sum ∙ ap (λ (r : Roll). spent_by r.spent c.args.slot c.args.class) c.self.view_is
