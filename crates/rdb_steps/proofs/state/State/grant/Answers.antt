use Rattle.std.proofs.Common.{length, ap, ◌∙◌}
use Rattle.std.proofs.lemmas.List.{length-set}
use Rattle.rdb_steps.proofs.PageLemmas.{page_kept}
use Rattle.rdb_steps.proofs.WholeLemmas.{classes_granted, heads_there, whole_grown}
use Rattle.rdb_steps.proofs.state.State.grant.Goals as goal

pub returns-clause-kept : goal.returns-clause-kept
returns-clause-kept g c =
    let s = c.args.self.now in
    λ settled aimed kept. page_kept s.memory c.grant-page.new.self s.transactions.registry c.args.class c.grant-page.result c.bounded.ensures c.grant-page.ensures.cells
    s.schema s.transactions.manager s.counters.serials s.counters.ids.items settled aimed c.requires.whole.lawful kept

pub returns-clause-whole : goal.returns-clause-whole
returns-clause-whole g c =
    let s = c.args.self.now in
    whole_grown s c.grant-page.new.self c.requires.whole (ap length c.grant-page.ensures.owners ∙ length-set s.memory.owners c.grant-page.result _)
    (classes_granted s.schema s.memory c.grant-page.new.self s.transactions.registry c.args.class c.grant-page.result c.bounded.ensures c.grant-page.ensures.cells c.requires.class c.requires.whole.cells)

pub grant-page-requires-clause-class : goal.grant-page-requires-clause-class
grant-page-requires-clause-class g c =
    let s = c.args.self.now in
    heads_there s.schema s.memory c.requires.whole.cells c.args.class c.requires.class
