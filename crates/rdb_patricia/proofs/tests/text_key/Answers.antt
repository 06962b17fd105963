use Rattle.std.proofs.Common.{◌≡◌, ◌≤◌, ◌<◌, ◌^◌, ℕ, List, length, slice_get, Some, sym, ap, subst, ◌∙◌, arith}
use Rattle.std.specs.Option.{option_copied}
use Rattle.rdb_patricia.proofs.EmptyPatricia.{is_text_key}
use Rattle.rdb_patricia.proofs.tests.text_key.Goals as goal

pub returns : goal.returns
returns g c =
    is_text_key c.args.key.now c.in-Some.text.now (sym c.text_in.ensures ∙ ap option_copied c.in-Some.is)
    (subst (λ t. length t ≤ 255) c.as_str.ensures c.short.ensures.short)
    (subst (λ t. (place byte : ℕ) → slice_get t place ≡ Some byte → byte < 2 ^ 8) c.as_str.ensures c.short.ensures.bytes)
