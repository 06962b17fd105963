use Rattle.std.proofs.Common.{◌≡◌, map, ℕ, List, take}
use Rattle.rdb_runner.specs.Reading.{AreBytesOf, Asks, sight_of}
use Rattle.rdb_runner.proofs.reading.read_all.Given as goal

-- the names so far are read
abbrev pub invariant-loop-place : goal.invariant-loop-place
invariant-loop-place g l =
    let names = map (λ n. n.now) l.names in
    record {
      texts : AreBytesOf (g.F.Files.told l.fn.files) (take l.place names) l.texts;
      asked : Asks (sight_of g.F.Files.told g.F.Files.asked g.F.Files.faults l.fn.files l.files) (take l.place names);
      faults : g.F.Files.faults l.files ≡ g.F.Files.faults l.fn.files;
      told : (name : List ℕ) → g.F.Files.told l.files name ≡ g.F.Files.told l.fn.files name;
    }
