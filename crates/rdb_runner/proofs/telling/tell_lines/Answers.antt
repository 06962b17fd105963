use Rattle.std.proofs.Common.{◌≡◌, ℕ, ◌+◌, ◌<◌, ◌≤◌, ◌++◌, List, length, take, get_or, sym, ap, ◌∙◌, inr, refl, subst}
use Rattle.std.specs.Option.{option_map}
use Rattle.std.specs.List.{concat}
use Rattle.rdb_base.specs.Outside.{Rose}
use Rattle.rdb_runner.proofs.TellingLemmas.{appended_on, concat_more, prefix_of_all}
use Rattle.rdb_runner.proofs.telling.tell_lines.Goals as goal

pub loop-line-preserved : goal.loop-line-preserved
loop-line-preserved g c =
    let lines = c.args.lines.now in
    let i = c.loop-line.line-index in
    let line = c.line-item.result in
    let within : i < length lines = subst (λ (xs : List (List ℕ)). i < length xs) c.as_slice-line-items.ensures c.loop-line-test.true in
    let is : line ≡ get_or lines i line = c.line-item.is ∙ ap (λ (xs : List (List ℕ)). get_or xs i line) c.as_slice-line-items.ensures in
    let more : concat (take (i + 1) lines) ≡ concat (take i lines) ++ line = concat_more lines i line within ∙ ap (λ (l : List ℕ). concat (take i lines) ++ l) (sym is) in
    (appended_on _ _ _ _ _ c.loop-line.invariant.0 c.in-Ok.ensures.ok.0 ∙ ap (λ (text : List ℕ). option_map (λ before. before ++ text) (g.K.Sink.written c.args.out.now)) (sym more), c.in-Ok.ensures.ok.1 ∙ c.loop-line.invariant.1)

pub returns-in-Err : goal.returns-in-Err
returns-in-Err g c =
    let h = c.in-Err.ensures.err in
    let lines = c.args.lines.now in
    let i = c.loop-line.line-index in
    let line = c.line-item.result in
    let within : i < length lines = subst (λ (xs : List (List ℕ)). i < length xs) c.as_slice-line-items.ensures c.loop-line-test.true in
    let is : line ≡ get_or lines i line = c.line-item.is ∙ ap (λ (xs : List (List ℕ)). get_or xs i line) c.as_slice-line-items.ensures in
    let part = prefix_of_all lines i line h.0 within (subst (λ (l : List ℕ). h.0 ≤ length l) is h.1) in
    let text : concat (take i lines) ++ take h.0 line ≡ take (length (concat (take i lines)) + h.0) (concat lines) = ap (λ (l : List ℕ). concat (take i lines) ++ take h.0 l) is ∙ sym part.1 in
    inr (refl, (length (concat (take i lines)) + h.0, part.0, appended_on _ _ _ _ _ c.loop-line.invariant.0 h.2 ∙ ap (λ (t : List ℕ). option_map (λ before. before ++ t) (g.K.Sink.written c.args.out.now)) text, subst (λ (n : ℕ). Rose n (g.K.Sink.faults c.write_line.new.out)) c.loop-line.invariant.1 h.3))
