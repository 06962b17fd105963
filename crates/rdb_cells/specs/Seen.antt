-- What a reader sees: cells as they stand, or with undo records taken back.
use Rattle.std.specs.Prelude.{ℕ, Option}
use Rattle.rdb_cells.specs.declared.seen.Seen.{Seen}
use Rattle.rdb_cells.specs.declared.seen.Seen.TheVariants.{Bare, Settled}
use Rattle.rdb_cells.specs.Images.{Image}
use Rattle.rdb_cells.specs.Records.{settled}

abbrev pub seen_image : {C : Type 0} → (C → Image) → Seen C → Image
seen_image image (Bare cells) = image cells.now
seen_image image (Settled s) = settled s.records (image s.cells.now)

abbrev pub seen_class : {C : Type 0} → (C → ℕ → Option ℕ) → Seen C → ℕ → Option ℕ
seen_class class_of (Bare cells) = class_of cells.now
seen_class class_of (Settled s) = class_of s.cells.now
