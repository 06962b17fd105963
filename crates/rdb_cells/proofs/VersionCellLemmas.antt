-- Images that hold the same cells of rows and headers.
use Rattle.std.proofs.Common.{◌≡◌, ◌≢◌, ◌⊎◌, ℕ, inl, inr, sym, ◌∙◌}
use Rattle.rdb_cells.specs.declared.kind.Kind.{Kind}
use Rattle.rdb_cells.specs.declared.kind.Kind.TheVariants as kind
use Rattle.rdb_cells.specs.Images.{Image}
use Rattle.rdb_cells.specs.Keys.{SameVersionCells, HasNoVersionCell}
use Rattle.rdb_cells.specs.Words.{number_of, HasKind}
use Rattle.rdb_cells.proofs.PlainLemmas.{one_kind}

-- where a cell of another kind stands
pub no_version : (image : Image) (of : Kind) (n : ℕ) → HasKind image of n → number_of of ≢ number_of kind.Row → number_of of ≢ number_of kind.Version → HasNoVersionCell image n
no_version image of n has no_row no_header c is of_version = elim of_version [
  | inl row ↦ no_row (one_kind image of kind.Row n has (c, is, row))
  | inr header ↦ no_header (one_kind image of kind.Version n has (c, is, header))
]

pub itself : (image : Image) → SameVersionCells image image
itself image n cell of_version = (λ e. e, λ e. e)

pub turned : (a b : Image) → SameVersionCells a b → SameVersionCells b a
turned a b same n cell of_version = ((same n cell of_version).1, (same n cell of_version).0)

pub further : (a b c : Image) → SameVersionCells a b → SameVersionCells b c → SameVersionCells a c
further a b c first second n cell of_version = (
  λ e. (second n cell of_version).0 ((first n cell of_version).0 e),
  λ e. (first n cell of_version).1 ((second n cell of_version).1 e),
)

-- other cells alone were written
pub others_written : (a b : Image) → ((n : ℕ) → (b n ≡ a n) ⊎ (HasNoVersionCell a n × HasNoVersionCell b n)) → SameVersionCells a b
others_written a b same n c of_version = elim (same n) [
  | inl stays ↦ (λ e. stays ∙ e, λ e. sym stays ∙ e)
  | inr neither ↦ (λ e. absurd (neither.0 c e of_version), λ e. absurd (neither.1 c e of_version))
]
