use Rattle.std.proofs.Common.{◌∙◌, ℕ, List, fold, sym, ap, ap₂}
use Rattle.rdb_schema.specs.Encoding.{leaf_bytes}
use Rattle.rdb_cells.specs.Keys.{fnv_step}
use Rattle.rdb_rows.proofs.hash.hash_value.Goals as goal

pub returns-in-Box4-Rect : goal.returns-in-Box4-Rect
returns-in-Box4-Rect c = c.hash_rect.ensures ∙ ap (λ (bytes : List ℕ). fold fnv_step c.args.hash bytes) (sym (ap₂ leaf_bytes c.in-Box4-Rect.is-0 c.in-Box4-Rect.is-1))
