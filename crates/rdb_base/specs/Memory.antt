-- What contracts see of the files, the sinks and the callback in memory.
use Rattle.std.specs.Prelude.{◌≡◌, ℕ, Bool, true, false, ◌+◌, ◌-◌, ◌^◌, ◌==◌, nat_le, if◌then◌else◌, min, List, ◌∷◌, [], ◌++◌, length, refl, map, take, position, slice_get, String, Option, Some, None, Result, Ok, Err, unwrap_or}
use Rattle.std.specs.List.{list_any}
use Rattle.std.specs.Option.{option_and_then}
use Rattle.std.specs.Ordering.{nat_cmp}
use Rattle.std.specs.Cmp.Lexicographic.{slice_cmp}
use Rattle.std.specs.String.{string_bytes}
use Rattle.std.specs.FinMap.{FinMap, get, code}
use Rattle.std.specs.Coded.{Coded, code_by, coded×, coded_ℕ, coded_list}
use Rattle.std.specs.declared.alloc.Global.{Global}
use Rattle.rdb_base.specs.declared.identity.ConnId.{ConnId}
use Rattle.rdb_base.specs.declared.files.ReadFault.{ReadFault}
use Rattle.rdb_base.specs.declared.files.ReadFault.TheVariants.{Failed, TooLong, NoMemory}

-- one more of a count of 64 bits, which stands still at its end
abbrev pub one_more : ℕ → ℕ
one_more count = min (count + 1) (2 ^ 64 - 1)

-- the connections that a callback calls dead, and how often it said yes and no
pub record Watch : Type 0 where
  pub dead : List ConnId
  pub deaths : ℕ
  pub lives : ℕ

-- the same after an answer
abbrev pub after_answer : Watch → Bool → Watch
after_answer w true = record w { deaths = one_more w.deaths }
after_answer w false = record w { lives = one_more w.lives }

-- entries with the bytes of their names
abbrev pub named : {X : Type 0} → List (String Global × X) → List (List ℕ × X)
named entries = map (λ entry. (string_bytes entry.0, entry.1)) entries

-- the bytes of each name
abbrev pub Named : Type 0
Named = FinMap (slice_cmp nat_cmp) (List ℕ)

-- the code of named files
abbrev pub named_code : Coded Named
named_code = code (coded_list coded_ℕ) (coded_list coded_ℕ)

-- Files in memory: what is held, the numbers of the reads that are to fail, from 1, how many reads there were,
-- the names that were asked, and how many reads failed.
pub record MemoryOfFiles : Type 0 where
  pub held : Named
  pub failing : List ℕ
  pub reads : ℕ
  pub asked : List (List ℕ)
  pub faults : ℕ

-- such files are stored as the tuple of their fields
abbrev pub memory_code : Coded MemoryOfFiles
memory_code =
    code_by (Named × (List ℕ × (ℕ × (List (List ℕ) × ℕ)))) (coded× named_code (coded× (coded_list coded_ℕ) (coded× coded_ℕ (coded× (coded_list (coded_list coded_ℕ)) coded_ℕ))))
    (λ m. (m.held, (m.failing, (m.reads, (m.asked, m.faults)))))
    (λ p. record { held = p.0; failing = p.1.0; reads = p.1.1.0; asked = p.1.1.1.0; faults = p.1.1.1.1 })
    (λ _. refl)

-- what a read of these bytes answers
abbrev pub read_of : List ℕ → ℕ → Result (List ℕ) ReadFault
read_of bytes budget = if nat_le (length bytes) budget then Ok bytes else Err (TooLong budget)

-- what a read answers of a file that may be held; one that isn't can't be read
abbrev pub read_held : Option (List ℕ) → ℕ → Result (List ℕ) ReadFault
read_held None budget = Err Failed
read_held (Some bytes) budget = read_of bytes budget

-- what the next read of a name answers
abbrev pub next_read : MemoryOfFiles → List ℕ → ℕ → Result (List ℕ) ReadFault
next_read m name budget = if list_any (λ number. number == one_more m.reads) m.failing then Err Failed else read_held (get m.held name) budget

-- the answer is the one that is due, unless memory was wanting
abbrev pub IsDue : Result (List ℕ) ReadFault → Result (List ℕ) ReadFault → Type 0
IsDue due (Ok bytes) = due ≡ Ok bytes
IsDue due (Err (TooLong limit)) = due ≡ Err (TooLong limit)
IsDue due (Err Failed) = due ≡ Err Failed
IsDue due (Err NoMemory) = Unit {0}

-- the files after a read of a name that was answered so: it is one read more, asked unless memory was wanting, and a fault where it failed
abbrev pub after_read : MemoryOfFiles → List ℕ → Result (List ℕ) ReadFault → MemoryOfFiles
after_read m name (Ok bytes) = record m { reads = one_more m.reads; asked = m.asked ++ name ∷ [] }
after_read m name (Err (TooLong limit)) = record m { reads = one_more m.reads; asked = m.asked ++ name ∷ [] }
after_read m name (Err Failed) = record m { reads = one_more m.reads; asked = m.asked ++ name ∷ []; faults = one_more m.faults }
after_read m name (Err NoMemory) = record m { reads = one_more m.reads }

-- Files that never fail: what is held, and the names that were asked.
pub record SureMemory : Type 0 where
  pub held : Named
  pub asked : List (List ℕ)

-- such files are stored as the pair of their fields
abbrev pub sure_code : Coded SureMemory
sure_code = code_by (Named × List (List ℕ)) (coded× named_code (coded_list (coded_list coded_ℕ))) (λ m. (m.held, m.asked)) (λ p. record { held = p.0; asked = p.1 }) (λ _. refl)

-- the bytes of a name; a name that isn't held is an empty file
abbrev pub bytes_of : Named → List ℕ → List ℕ
bytes_of held name = unwrap_or (get held name) []

-- A sink in memory: the bytes, the numbers of the writes that are to fail, from 1, how many bytes each of these takes first,
-- how many writes there were, and how many failed.
pub record MemoryOfSink : Type 0 where
  pub bytes : List ℕ
  pub failing : List ℕ
  pub taken : List ℕ
  pub writes : ℕ
  pub faults : ℕ

-- how many bytes the next write takes, where it is to fail: at the first place of its number
abbrev pub taken_next : MemoryOfSink → Option ℕ
taken_next m = option_and_then (λ place. slice_get m.taken place) (position (λ number. number == one_more m.writes) m.failing)

-- the sink after a write that took these bytes
abbrev pub after_write : MemoryOfSink → List ℕ → MemoryOfSink
after_write m more = record m { bytes = m.bytes ++ more; writes = one_more m.writes }

-- the sink after a write that failed, and took these bytes first
abbrev pub after_fault : MemoryOfSink → List ℕ → MemoryOfSink
after_fault m more = record m { bytes = m.bytes ++ more; writes = one_more m.writes; faults = one_more m.faults }
