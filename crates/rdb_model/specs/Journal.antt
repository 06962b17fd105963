-- The journal: the database that its commits make, and the law that it keeps.
use Rattle.std.specs.Prelude.{◌≡◌, ℕ, ◌+◌, Bool, false, ◌&&◌, ◌||◌, not, ◌==◌, nat_le, List, [], ◌∷◌, ◌++◌, length, take, Option, Some, None, if◌then◌else◌}
use Rattle.std.specs.List.{filter, filter_map, list_any}
use Rattle.std.specs.Option.{option_map, option_map_or}
use Rattle.rdb_base.specs.Entries.{is_commit, story_of}
use Rattle.rdb_base.specs.declared.operation.Op.{Op}
use Rattle.rdb_base.specs.declared.operation.Op.TheVariants as op
use Rattle.rdb_base.specs.declared.operation.Reply.{Reply}
use Rattle.rdb_base.specs.declared.operation.Reply.TheVariants as reply
use Rattle.rdb_base.specs.declared.journal.Story.{Story}
use Rattle.rdb_base.specs.declared.journal.Entry.{Entry}
use Rattle.rdb_base.specs.declared.journal.Entry.TheVariants as entry
use Rattle.rdb_schema.specs.declared.schema.Schema.{Schema}
use Rattle.rdb_model.specs.declared.legality.Legality.{Legality}
use Rattle.rdb_model.specs.declared.legality.Legality.TheVariants as legality
use Rattle.rdb_model.specs.declared.legality.Why.{Why}
use Rattle.rdb_model.specs.declared.legality.Why.TheVariants as why
use Rattle.rdb_model.specs.declared.legality.Span.{Span}
use Rattle.rdb_model.specs.declared.legality.Span.TheVariants as span
use Rattle.rdb_model.specs.Database.{Database, empty}
use Rattle.rdb_model.specs.Answer.{answer}
use Rattle.rdb_model.specs.Story.{same_reply, after}

-- how many commits there are
abbrev pub commits : List Entry → ℕ
commits journal = length (filter is_commit journal)

-- the operations of a commit, with their replies, or none
abbrev pub done_of : Entry → List (Op × Reply)
done_of (entry.Commit story commit) = story.done
done_of _ = []

-- the operations of a commit, with their replies
abbrev pub committed : Entry → Option (List (Op × Reply))
committed (entry.Commit story commit) = Some story.done
committed _ = None

-- the database after stories, whatever they are told
abbrev pub after_all : Schema → Database → List (List (Op × Reply)) → Database
after_all schema db [] = db
after_all schema db (done ∷ stories) = after_all schema (after schema db done) stories

-- the database that the operations of the first n commits make, from no objects
abbrev pub fold : Schema → List Entry → ℕ → Database
fold schema journal n = after_all schema (empty (length schema.classes)) (take n (filter_map committed journal))

-- the client and the number of the transaction that an entry ends
abbrev pub ended : Entry → Option (ℕ × ℕ)
ended e = option_map (λ s. (s.client, s.number)) (story_of e)

-- the client that an entry takes leave of
abbrev pub left_client : Entry → Option ℕ
left_client (entry.Handled client by at finished) = Some client
left_client (entry.Closed client) = Some client
left_client _ = None

-- whether an entry ends that transaction
abbrev pub ends : ℕ × ℕ → Entry → Bool
ends tx e = option_map_or (λ t. (t.0 == tx.0) && (t.1 == tx.1)) (ended e) false

-- whether an entry takes leave of that client
abbrev pub takes_leave : ℕ → Entry → Bool
takes_leave client e = option_map_or (λ c. c == client) (left_client e) false

-- whether an earlier entry ended that transaction
abbrev pub has_ended : List Entry → ℕ × ℕ → Bool
has_ended earlier tx = list_any (ends tx) earlier

-- whether an earlier entry took leave of that client
abbrev pub has_left : List Entry → ℕ → Bool
has_left earlier client = list_any (takes_leave client) earlier

-- whether one of the earlier entries ended that transaction, and none after it took leave of its client
abbrev pub has_ended_since_leave : List Entry → ℕ × ℕ → Bool
has_ended_since_leave [] tx = false
has_ended_since_leave (e ∷ es) tx = (ends tx e && not (has_left es tx.0)) || has_ended_since_leave es tx

-- whether an earlier entry of the journal, or of the client's stretch, ended that transaction
abbrev pub has_ended_within : Span → List Entry → ℕ × ℕ → Bool
has_ended_within span.Journal earlier tx = has_ended earlier tx
has_ended_within span.Stretch earlier tx = has_ended_since_leave earlier tx

-- whether an earlier entry of the journal, or of the client's stretch, took leave of that client: a stretch ends as leave is taken
abbrev pub has_left_within : Span → List Entry → ℕ → Bool
has_left_within span.Journal earlier client = has_left earlier client
has_left_within span.Stretch earlier client = false

-- number: whether an entry is a commit whose number isn't one more than the commits before it
abbrev pub breaks_number : List Entry → Entry → Bool
breaks_number earlier (entry.Commit story commit) = not (commit == (commits earlier + 1))
breaks_number earlier _ = false

-- twice: whether an entry ends a transaction that has ended, or takes leave of a client that has left
abbrev pub breaks_twice : Span → List Entry → Entry → Bool
breaks_twice within earlier e =
    option_map_or (has_ended_within within earlier) (ended e) false || option_map_or (has_left_within within earlier) (left_client e) false

-- whether a transaction began at one of the places before its end, and sees at least the commits before that place and at most those
-- before its end
abbrev pub is_placed : List Entry → Story → Bool
is_placed earlier story =
    nat_le story.begun (length earlier)
    && (nat_le (commits (take story.begun earlier)) story.snapshot && nat_le story.snapshot (commits earlier))

-- place: whether the entry's transaction isn't placed so
abbrev pub breaks_place : List Entry → Entry → Bool
breaks_place earlier e = option_map_or (λ s. not (is_placed earlier s)) (story_of e) false

-- the class and the id of the object that an operation made, if it did
abbrev pub made_by : Op × Reply → Option (ℕ × ℕ)
made_by (op.New class row id, reply.Made made) = Some (class, made)
made_by _ = None

-- the objects that operations made
abbrev pub made_in : List (Op × Reply) → List (ℕ × ℕ)
made_in done = filter_map made_by done

-- the objects that commits made
abbrev pub made_before : List Entry → List (ℕ × ℕ)
made_before [] = []
made_before (e ∷ es) = option_map_or made_in (committed e) [] ++ made_before es

-- whether an object was made before
abbrev pub was_made : List (ℕ × ℕ) → ℕ × ℕ → Bool
was_made made object = list_any (λ m. (m.0 == object.0) && (m.1 == object.1)) made

-- the first operation, numbered from `first` on, whose reply isn't the plain database's, or that made an object that was made before
abbrev pub wrong_reply : Schema → Database → List (ℕ × ℕ) → ℕ → List (Op × Reply) → Option ℕ
wrong_reply schema db made first [] = None
wrong_reply schema db made first (d ∷ ds) =
    let told = answer schema db d.0 in
    if same_reply told.0 d.1 && not (option_map_or (was_made made) (made_by d) false)
    then wrong_reply schema told.1 (made ++ made_in (d ∷ [])) (first + 1) ds
    else Some first

-- reply: the first wrong operation of a commit, after all commits before it, or of a read, after those that it sees; neither
-- makes an object that a commit before it made
abbrev pub breaks_reply : Schema → List Entry → Entry → Option ℕ
breaks_reply schema earlier (entry.Commit story commit) =
    wrong_reply schema (fold schema earlier (commits earlier)) (made_before earlier) 1 story.done
breaks_reply schema earlier (entry.Read story) = wrong_reply schema (fold schema earlier story.snapshot) (made_before earlier) 1 story.done
breaks_reply schema earlier _ = None

-- the first part of the law that an entry breaks, after the earlier ones: number, twice, place, reply
abbrev pub broken : Span → Schema → List Entry → Entry → Option Why
broken within schema earlier e =
    if breaks_number earlier e then Some why.Number
    else (if breaks_twice within earlier e then Some why.Twice
    else (if breaks_place earlier e then Some why.Place
    else option_map why.Reply (breaks_reply schema earlier e)))

-- the first entry that breaks the law, numbered from 1, of those that come after the earlier ones
abbrev pub judged : Span → Schema → List Entry → List Entry → Legality
judged within schema earlier [] = legality.Legal
judged within schema earlier (e ∷ es) =
    option_map_or (legality.Illegal (length earlier + 1)) (broken within schema earlier e) (judged within schema (earlier ++ e ∷ []) es)

-- whether a journal keeps the law, or where it first breaks it, and how
abbrev pub legal : Schema → List Entry → Legality
legal schema journal = judged span.Journal schema [] journal

-- the same, where a slot may be given again once leave was taken of its client
abbrev pub legal_in_stretches : Schema → List Entry → Legality
legal_in_stretches schema journal = judged span.Stretch schema [] journal

-- that a journal keeps the law
abbrev pub IsLegal : Schema → List Entry → Type 0
IsLegal schema journal = legal schema journal ≡ legality.Legal
