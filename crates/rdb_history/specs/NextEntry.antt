-- What the law of journals asks of an entry that comes next, and of slots that are given once.
use Rattle.std.specs.Prelude.{◌≡◌, false, List, None}
use Rattle.rdb_base.specs.Entries.{client_of}
use Rattle.rdb_base.specs.declared.journal.Entry.{Entry}
use Rattle.rdb_schema.specs.declared.schema.Schema.{Schema}
use Rattle.rdb_model.specs.declared.legality.Span.{Span}
use Rattle.rdb_model.specs.Journal.{breaks_number, breaks_twice, breaks_place, breaks_reply, has_left}
use Rattle.rdb_model.specs.Parts.{HoldsOfEach}

-- that an entry after earlier ones breaks no part of the law
pub record MayCome (within : Span) (schema : Schema) (earlier : List Entry) (e : Entry) : Type 0 where
  pub number : breaks_number earlier e ≡ false
  pub once : breaks_twice within earlier e ≡ false
  pub placed : breaks_place earlier e ≡ false
  pub replies : breaks_reply schema earlier e ≡ None

-- that each slot is given once: no entry of a client comes after its leave was taken
abbrev pub EachSlotOnce : List Entry → Type 0
EachSlotOnce journal = HoldsOfEach (λ earlier e. has_left earlier (client_of e) ≡ false) journal
