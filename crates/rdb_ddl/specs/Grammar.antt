-- The grammar of schemas. The language is regular, so each production is "a token, and then what may come next";
-- the names of what may come next are those of `Expect`.
use Rattle.std.specs.Prelude.{ℕ, zero, suc, Bool, true, false, List, [], ◌∷◌, length, Option, Some, None, Result, Ok, Err, if◌then◌else◌}
use Rattle.rdb_schema.specs.declared.schema.Plain.TheVariants as plains
use Rattle.rdb_schema.specs.declared.schema.Plain.{Plain}
use Rattle.rdb_schema.specs.declared.schema.IndexKind.{IndexKind}
use Rattle.rdb_schema.specs.declared.schema.IndexKind.TheVariants as kinds
use Rattle.rdb_schema.specs.declared.schema.EventKind.{EventKind}
use Rattle.rdb_schema.specs.declared.schema.EventKind.TheVariants as events
use Rattle.rdb_schema.specs.declared.syntax.Part.{Part}
use Rattle.rdb_schema.specs.declared.syntax.Part.TheVariants as parts
use Rattle.rdb_schema.specs.declared.keyword.Keyword.{Keyword}
use Rattle.rdb_schema.specs.declared.keyword.Keyword.TheVariants as words
use Rattle.rdb_ddl.specs.declared.token.Sign.{Sign}
use Rattle.rdb_ddl.specs.declared.token.Sign.TheVariants as signs
use Rattle.rdb_ddl.specs.declared.expect.Owner.{Owner}
use Rattle.rdb_ddl.specs.declared.expect.Owner.TheVariants as owners
use Rattle.rdb_ddl.specs.declared.expect.Holder.{Holder}
use Rattle.rdb_ddl.specs.declared.expect.Holder.TheVariants as holders
use Rattle.rdb_ddl.specs.declared.expect.Expect.{Expect}
use Rattle.rdb_ddl.specs.declared.expect.Expect.TheVariants.{Declare, Database, DatabaseName, DatabaseEnd, Declaration, DeclarationEnd, StructName, ClassName, Open, StructMember, ClassMember, FieldName, Semicolon, RectOpen, RectType, RectClose, VectorOpen, VectorType, VectorClose, SizeOrEnd, SizeNumber, SizeClose, IndexKindWord, IndexOpen, KeyName, KeyNext, IndexName, EventOpen, EventWord, UpdateEnd, EventClose, EventName}
use Rattle.rdb_schema.specs.Keyword.{keyword_of}
use Rattle.rdb_ddl.specs.Token.{Lexeme, Word, Name, Number, Mark, End, Unknown, lexeme_at}

-- the plain type that a word is, but for boxes
unfoldable pub plain_word : Keyword → Option Plain
plain_word words.Uint1 = Some (plains.Num 1 false)
plain_word words.Uint2 = Some (plains.Num 2 false)
plain_word words.Uint4 = Some (plains.Num 4 false)
plain_word words.Uint8 = Some (plains.Num 8 false)
plain_word words.Int1 = Some (plains.Num 1 true)
plain_word words.Int2 = Some (plains.Num 2 true)
plain_word words.Int4 = Some (plains.Num 4 true)
plain_word words.Int8 = Some (plains.Num 8 true)
plain_word words.String_ = Some plains.Str
plain_word words.Rect = Some plains.Box4
plain_word _ = None

unfoldable pub kind_word : Keyword → Option IndexKind
kind_word words.Hash = Some kinds.Hash
kind_word words.Tree = Some kinds.Tree
kind_word words.Rtree = Some kinds.Rtree
kind_word words.Patricia = Some kinds.Patricia
kind_word _ = None

unfoldable pub event_word : Keyword → Option EventKind
event_word words.New = Some events.New
event_word words.Delete = Some events.Delete
event_word words.Update = Some events.Update
event_word _ = None

-- what may come after the type of a field or of a vector's elements
abbrev pub after_type : Holder → Expect
after_type holders.StructField = FieldName owners.Struct
after_type holders.ClassField = FieldName owners.Class
after_type holders.Element = VectorClose

-- what may come after a plain type's first word
abbrev pub after_plain : Holder → Plain → Expect
after_plain holder plains.Box4 = RectOpen holder
after_plain holder plain = after_type holder

abbrev pub after_plain_word : Holder → Option Plain → Option Expect
after_plain_word holder (Some plain) = Some (after_plain holder plain)
after_plain_word holder None = None

abbrev pub after_kind_word : Option IndexKind → Option Expect
after_kind_word (Some kind) = Some IndexOpen
after_kind_word None = None

-- a struct or a class begins
abbrev pub after_head : Keyword → Option Expect
after_head words.Struct = Some StructName
after_head words.Class = Some ClassName
after_head _ = None

-- a member of a class begins with a word
abbrev pub after_member_word : Keyword → Option Expect
after_member_word words.Autoid = Some SizeOrEnd
after_member_word words.Unique = Some IndexKindWord
after_member_word words.Event = Some EventOpen
after_member_word words.Vector = Some VectorOpen
after_member_word words.Hash = Some IndexOpen
after_member_word words.Tree = Some IndexOpen
after_member_word words.Rtree = Some IndexOpen
after_member_word words.Patricia = Some IndexOpen
after_member_word word = after_plain_word holders.ClassField (plain_word word)

abbrev pub after_event_word : Keyword → Option Expect
after_event_word words.New = Some EventClose
after_event_word words.Delete = Some EventClose
after_event_word words.Update = Some UpdateEnd
after_event_word _ = None

abbrev pub after_rect_word : Holder → Keyword → Option Expect
after_rect_word holder words.Int4 = Some (RectClose holder)
after_rect_word holder _ = None

-- what may come after a reserved word
unfoldable pub after_keyword : Expect → Keyword → Option Expect
after_keyword Declare words.Declare = Some Database
after_keyword Database words.Database = Some DatabaseName
after_keyword Declaration word = after_head word
after_keyword DeclarationEnd word = after_head word
after_keyword (StructMember first) word = after_plain_word holders.StructField (plain_word word)
after_keyword (ClassMember first) word = after_member_word word
after_keyword VectorType word = after_plain_word holders.Element (plain_word word)
after_keyword (RectType holder) word = after_rect_word holder word
after_keyword IndexKindWord word = after_kind_word (kind_word word)
after_keyword EventWord word = after_event_word word
after_keyword _ _ = None

-- what may come after a name that is no reserved word
unfoldable pub after_name : Expect → Option Expect
after_name DatabaseName = Some DatabaseEnd
after_name StructName = Some (Open owners.Struct)
after_name ClassName = Some (Open owners.Class)
after_name (ClassMember first) = Some (FieldName owners.Class)
after_name VectorType = Some VectorClose
after_name (FieldName owner) = Some (Semicolon owner)
after_name KeyName = Some KeyNext
after_name IndexName = Some SizeOrEnd
after_name UpdateEnd = Some EventClose
after_name EventName = Some (Semicolon owners.Class)
after_name _ = None

abbrev pub member_of : Owner → Bool → Expect
member_of owners.Struct first = StructMember first
member_of owners.Class first = ClassMember first

-- what may come after a sign
unfoldable pub after_mark : Expect → Sign → Option Expect
after_mark DatabaseEnd signs.Semicolon = Some Declaration
after_mark DeclarationEnd signs.Semicolon = Some Declaration
after_mark (Open owner) signs.OpenBrace = Some (member_of owner true)
after_mark (StructMember false) signs.CloseBrace = Some DeclarationEnd
after_mark (ClassMember false) signs.CloseBrace = Some DeclarationEnd
after_mark (Semicolon owner) signs.Semicolon = Some (member_of owner false)
after_mark (RectOpen holder) signs.Less = Some (RectType holder)
after_mark (RectClose holder) signs.Greater = Some (after_type holder)
after_mark VectorOpen signs.Less = Some VectorType
after_mark VectorClose signs.Greater = Some (FieldName owners.Class)
after_mark SizeOrEnd signs.Semicolon = Some (ClassMember false)
after_mark SizeOrEnd signs.OpenBracket = Some SizeNumber
after_mark SizeClose signs.CloseBracket = Some (Semicolon owners.Class)
after_mark IndexOpen signs.Less = Some KeyName
after_mark KeyNext signs.Comma = Some KeyName
after_mark KeyNext signs.Greater = Some IndexName
after_mark EventOpen signs.Less = Some EventWord
after_mark UpdateEnd signs.Greater = Some EventName
after_mark EventClose signs.Greater = Some EventName
after_mark _ _ = None

-- a number is a size
unfoldable pub after_number : Expect → Option Expect
after_number SizeNumber = Some SizeClose
after_number _ = None

-- the text may end between declarations
unfoldable pub may_end : Expect → Bool
may_end Declaration = true
may_end DeclarationEnd = true
may_end _ = false

abbrev pub after_word : Expect → Option Keyword → Option Expect
after_word expect (Some word) = after_keyword expect word
after_word expect None = after_name expect

-- what may come after a token, where it is allowed
abbrev pub after : Expect → Word → Option Expect
after expect (Name bytes) = after_word expect (keyword_of bytes)
after expect (Number value) = after_number expect
after expect (Mark sign) = after_mark expect sign
after expect End = None
after expect Unknown = None

-- ---- the parts that tokens stand for

abbrev pub size_in : Word → Word → Option ℕ
size_in (Mark signs.OpenBracket) (Number value) = Some value
size_in first second = None

-- the size that may stand in brackets at the front of a text
unfoldable pub size_at : List ℕ → Option ℕ
size_at text = let first = lexeme_at text in size_in first.word (lexeme_at first.rest).word

abbrev pub plain_part : Option Plain → Bool → Option Part
plain_part (Some plain) vector = Some (parts.Plain plain vector)
plain_part None vector = None

abbrev pub index_part : Option IndexKind → Bool → Option Part
index_part (Some kind) unique = Some (parts.Index unique kind)
index_part None unique = None

abbrev pub event_part : Option EventKind → Option Part
event_part (Some kind) = Some (parts.Event kind)
event_part None = None

abbrev pub part_or : Option Part → Option Part → Option Part
part_or (Some part) other = Some part
part_or None other = other

abbrev pub autoid_part : Keyword → Option ℕ → Option Part
autoid_part words.Autoid size = Some (parts.Autoid size)
autoid_part _ size = None

-- the part that the first word of a class's member stands for
abbrev pub member_part : Keyword → Option ℕ → Option Part
member_part word size = part_or (autoid_part word size) (part_or (plain_part (plain_word word) false) (index_part (kind_word word) false))

-- the part that a reserved word stands for, with the size that may stand after it
unfoldable pub keyword_part : Expect → Keyword → Option ℕ → Option Part
keyword_part (StructMember first) word size = plain_part (plain_word word) false
keyword_part (ClassMember first) word size = member_part word size
keyword_part VectorType word size = plain_part (plain_word word) true
keyword_part IndexKindWord word size = index_part (kind_word word) true
keyword_part EventWord word size = event_part (event_word word)
keyword_part _ word size = None

-- the part that a name stands for, with the size that may stand after it
unfoldable pub name_part : Expect → List ℕ → Option ℕ → Option Part
name_part DatabaseName name size = Some (parts.Database name)
name_part StructName name size = Some (parts.Struct name)
name_part ClassName name size = Some (parts.Class name)
name_part (ClassMember first) name size = Some (parts.Named name false)
name_part VectorType name size = Some (parts.Named name true)
name_part (FieldName owner) name size = Some (parts.Member name)
name_part KeyName name size = Some (parts.Key name)
name_part IndexName name size = Some (parts.IndexName name size)
name_part UpdateEnd name size = Some (parts.Update name)
name_part EventName name size = Some (parts.EventName name)
name_part _ name size = None

abbrev pub word_part : Expect → List ℕ → Option Keyword → Option ℕ → Option Part
word_part expect name (Some word) size = keyword_part expect word size
word_part expect name None size = name_part expect name size

-- the part that a token stands for, by the text after it
abbrev pub part_of : Expect → Word → List ℕ → Option Part
part_of expect (Name bytes) rest = word_part expect bytes (keyword_of bytes) (size_at rest)
part_of expect word rest = None

-- ---- whole texts

-- the parts of a text, and how many bytes of it there are from the first token of each on
pub record Parsed : Type 0 where
  pub syntax : List Part
  pub lefts : List ℕ

abbrev pub with_part : Option Part → ℕ → Parsed → Parsed
with_part None left parsed = parsed
with_part (Some part) left parsed = record { syntax = part ∷ parsed.syntax; lefts = left ∷ parsed.lefts }

abbrev pub parsed_with : Option Part → ℕ → Result Parsed ℕ → Result Parsed ℕ
parsed_with part left (Ok parsed) = Ok (with_part part left parsed)
parsed_with part left (Err fault) = Err fault

-- the text ends where it may
abbrev pub ends_at : Expect → Word → Bool
ends_at expect End = may_end expect
ends_at expect word = false

-- the rest of a text is read where its first token is allowed
abbrev pub reads_on : Expect → Lexeme → Option Expect → (Expect → List ℕ → Result Parsed ℕ) → Result Parsed ℕ
reads_on expect lexeme (Some next) reads = parsed_with (part_of expect lexeme.word lexeme.rest) lexeme.left (reads next lexeme.rest)
reads_on expect lexeme None reads = if ends_at expect lexeme.word then Ok (record { syntax = []; lefts = [] }) else Err lexeme.left

-- The parts of a text of at most so many tokens, or the bytes from the first token on that the grammar does not allow.
unfoldable pub reads : ℕ → Expect → List ℕ → Result Parsed ℕ
reads zero expect text = Err 0
reads (suc tokens) expect text = reads_on expect (lexeme_at text) (after expect (lexeme_at text).word) (λ next rest. reads tokens next rest)

-- the parts of a text of the grammar; a text has fewer tokens than bytes, but for its end
abbrev pub grammar : List ℕ → Result Parsed ℕ
grammar text = reads (suc (length text)) Declare text
