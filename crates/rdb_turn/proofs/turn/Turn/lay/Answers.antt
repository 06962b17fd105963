use Rattle.std.proofs.Common.{rules, ◌≡◌, ◌∷◌, ◌++◌, [], true, ℕ, List, Option, Some, Contains, subst, sym, ◌∙◌, ap, length}
use Rattle.atomic_table.specs.Table.{opening}
use Rattle.rdb_turn.specs.Rule.{IsClient, OwnsSlot, Keeps, first_view}
use Rattle.rdb_turn.specs.Steps.{Mine}
use Rattle.rdb_turn.proofs.Kept.{clear, opens}
use Rattle.rdb_turn.proofs.Parts.{owns_all}
use Rattle.rdb_turn.proofs.turn.Turn.lay.Goals as goal

pub new-requires : goal.new-requires
new-requires g c =
    let made = c.of-made.result.value in
    let boarded = c.args.boarded in
    let same : made ≡ c.args.value = c.of-made.ensures in
    let items : c.push.new.self.items ≡ Some made ∷ [] = search rules in
    let long : c.length-length.result ≡ length (g.T.Chronicle.history made) = c.length-length.ensures ∙ ap (λ v. length (g.T.Chronicle.history v)) (sym same) in
    let alive = subst (λ (v : g.row.T.Denot). (boarded ≡ true → (client : ℕ) → IsClient client → ¬ Contains (g.T.Chronicle.gone v) client)) (sym same) c.requires in
    subst (λ (xs : List (Option g.row.T.Denot)). Keeps g.T.Chronicle made boarded (opening (0 ∷ 0 ∷ c.length-length.result ∷ (clear ++ clear)) xs (first_view g.T.Chronicle made boarded))) (sym items)
    (opens g.T.Chronicle made boarded c.length-length.result long alive)

pub returns-clause-owns : goal.returns-clause-owns
returns-clause-owns g c = λ slot low. subst (λ (m : Mine g.row.T.Denot). OwnsSlot m.0.owned slot) (sym c.in-Ok.ensures.ok.4) (owns_all c.of-made.result.value slot low)
