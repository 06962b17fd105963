-- The parts of a canonical text: each production of it, before what it is read with.
use Rattle.std.proofs.Common.{◌≡◌, ℕ, zero, suc, ◌+◌, ◌<◌, ◌≤◌, Bool, true, false, cond, List, [], ◌∷◌, ◌++◌, length, Option, Some, None, Ok, refl, sym, ap, ◌∙◌, arith, subst, append_assoc, inl, inr}
use Rattle.std.specs.Prelude.{codes, map}
use Rattle.std.specs.List.{flat_map, All}
use Rattle.std.specs.Fmt.{decimal}
use Rattle.std.proofs.lemmas.List.Elements.{All-head, All-tail}
use Rattle.std.proofs.lemmas.List.Sums.{AllPass-from_list_all}
use Rattle.std.proofs.lemmas.List.{append-nil}
use Rattle.std.proofs.lemmas.Fmt.{decimal_digit}
use Rattle.std.specs.List.{list_all}
use Rattle.std.specs.Prelude.{slice_index}
use Rattle.rdb_schema.specs.declared.schema.Plain.{Plain}
use Rattle.rdb_schema.specs.declared.schema.Plain.TheVariants as plains
use Rattle.rdb_schema.specs.declared.schema.FieldType.{FieldType}
use Rattle.rdb_schema.specs.declared.schema.FieldType.TheVariants as types
use Rattle.rdb_schema.specs.declared.schema.IndexKind.{IndexKind}
use Rattle.rdb_schema.specs.declared.schema.IndexKind.TheVariants as kinds
use Rattle.rdb_schema.specs.declared.schema.EventKind.{EventKind}
use Rattle.rdb_schema.specs.declared.schema.EventKind.TheVariants as events
use Rattle.rdb_schema.specs.declared.schema.Field.{Field}
use Rattle.rdb_schema.specs.declared.schema.IndexDecl.{IndexDecl}
use Rattle.rdb_schema.specs.declared.schema.Event.{Event}
use Rattle.rdb_schema.specs.declared.schema.Group.{Group}
use Rattle.rdb_schema.specs.declared.schema.Class.{Class}
use Rattle.rdb_schema.specs.declared.schema.Schema.{Schema}
use Rattle.rdb_schema.specs.declared.syntax.Part.{Part}
use Rattle.rdb_schema.specs.declared.syntax.Part.TheVariants as parts
use Rattle.rdb_schema.specs.declared.keyword.Keyword.{Keyword}
use Rattle.rdb_schema.specs.declared.keyword.Keyword.TheVariants as words
use Rattle.rdb_ddl.specs.declared.token.Sign.{Sign}
use Rattle.rdb_ddl.specs.declared.token.Sign.TheVariants as signs
use Rattle.rdb_ddl.specs.declared.expect.Owner.TheVariants as owners
use Rattle.rdb_ddl.specs.declared.expect.Holder.{Holder}
use Rattle.rdb_ddl.specs.declared.expect.Holder.TheVariants as holders
use Rattle.rdb_ddl.specs.declared.expect.Expect.{Expect}
use Rattle.rdb_ddl.specs.declared.expect.Expect.TheVariants.{Declare, Database, DatabaseName, DatabaseEnd, Declaration, DeclarationEnd, StructName, ClassName, Open, StructMember, ClassMember, FieldName, Semicolon, RectOpen, RectType, RectClose, VectorOpen, VectorType, VectorClose, SizeOrEnd, SizeNumber, SizeClose, IndexKindWord, IndexOpen, KeyName, KeyNext, IndexName, EventOpen, EventWord, UpdateEnd, EventClose, EventName}
use Rattle.rdb_schema.specs.Keyword.{type_word, member_word, head_word, keyword_of}
use Rattle.rdb_ddl.specs.Token.{Lexeme, Word, Name, Number, Mark, lexeme_at, after_passing, token_at}
use Rattle.rdb_schema.specs.Names.{begins_name, is_name_byte, group_name, field_name, IsWord, IsName}
use Rattle.rdb_ddl.specs.Grammar.{Parsed, plain_word, kind_word, event_word, after, after_word, after_type, after_plain, after_keyword, after_member_word, after_name, after_mark, after_number, part_of, word_part, keyword_part, name_part, member_part, size_at, size_in, parsed_with, reads_on, reads, may_end}
use Rattle.rdb_ddl.specs.Canonical.{number_text, plain_text, type_text, field_text, size_text, autoid_text, kind_text, unique_text, named_after, key_text, index_text, event_kind_text, event_text, group_text, class_text, canonical}
use Rattle.rdb_schema.specs.SchemaParts.{plain_part, type_part, field_parts, autoid_parts, key_part, index_parts, kind_parts, event_parts, group_parts, body_parts, class_parts, parts_of}
use Rattle.rdb_schema.specs.SpelledSchemas.{IsWidth, IsSizeSpelled, IsPlainSpelled, IsTypeSpelled, IsMemberTypeSpelled, IsFieldSpelled, IsMemberSpelled, IsIndexSpelled, IsKindSpelled, IsEventSpelled, IsGroupSpelled, IsClassSpelled, IsSpelled}
use Rattle.rdb_ddl.specs.Read.{HasParts}
use Rattle.rdb_ddl.proofs.Spellings.{Begins, begins_word, begins_number, begins_sign, byte_of, after_space, after_feed}

-- a text is read to its end, with these parts
record ReadsWith (tokens : ℕ) (expect : Expect) (text : List ℕ) (syntax : List Part) : Type 0 where
  parsed : Parsed
  parts : reads tokens expect text ≡ Ok parsed
  same : parsed.syntax ≡ syntax

-- the same, however many more tokens are allowed than the text has bytes
record ReadsAs (expect : Expect) (text : List ℕ) (syntax : List Part) : Type 0 where
  whole : (tokens : ℕ) → length text < tokens → ReadsWith tokens expect text syntax

-- a token that stands for no part
silent : (expect next : Expect) (text : List ℕ) (word : Word) (rest : List ℕ) (syntax : List Part) → Begins text word rest → after expect word ≡ Some next → part_of expect word rest ≡ None → ReadsAs next rest syntax → ReadsAs expect text syntax
unfolding reads
silent expect next text word rest syntax begins allowed none more = record { whole = whole } where
  whole : (tokens : ℕ) → length text < tokens → ReadsWith tokens expect text syntax
  whole zero enough = absurd (omega arith)
  whole (suc tokens) enough =
      let further = more.whole tokens (omega (arith, begins.shorter)) in
      let at_lexeme : reads (suc tokens) expect text ≡ parsed_with (part_of expect word rest) begins.left (reads tokens next rest) =
      ap (λ (lexeme : Lexeme). reads_on expect lexeme (after expect lexeme.word) (λ next rest. reads tokens next rest)) begins.is
      ∙ ap (λ (goes_on : Option Expect). reads_on expect (record { word = word; left = begins.left; rest = rest }) goes_on (λ next rest. reads tokens next rest)) allowed in
      record {
        parsed = further.parsed;
        parts = at_lexeme ∙ ap (λ (part : Option Part). parsed_with part begins.left (reads tokens next rest)) none ∙ ap (parsed_with None begins.left) further.parts;
        same = further.same;
      }

-- a token that stands for a part
spoken : (expect next : Expect) (text : List ℕ) (word : Word) (rest : List ℕ) (part : Part) (syntax : List Part) → Begins text word rest → after expect word ≡ Some next → part_of expect word rest ≡ Some part → ReadsAs next rest syntax → ReadsAs expect text (part ∷ syntax)
unfolding reads
spoken expect next text word rest part syntax begins allowed some more = record { whole = whole } where
  whole : (tokens : ℕ) → length text < tokens → ReadsWith tokens expect text (part ∷ syntax)
  whole zero enough = absurd (omega arith)
  whole (suc tokens) enough =
      let further = more.whole tokens (omega (arith, begins.shorter)) in
      let at_lexeme : reads (suc tokens) expect text ≡ parsed_with (part_of expect word rest) begins.left (reads tokens next rest) =
      ap (λ (lexeme : Lexeme). reads_on expect lexeme (after expect lexeme.word) (λ next rest. reads tokens next rest)) begins.is
      ∙ ap (λ (goes_on : Option Expect). reads_on expect (record { word = word; left = begins.left; rest = rest }) goes_on (λ next rest. reads tokens next rest)) allowed in
      record {
        parsed = record { syntax = part ∷ further.parsed.syntax; lefts = begins.left ∷ further.parsed.lefts };
        parts = at_lexeme ∙ ap (λ (part : Option Part). parsed_with part begins.left (reads tokens next rest)) some ∙ ap (parsed_with (Some part) begins.left) further.parts;
        same = ap (λ (syntax : List Part). part ∷ syntax) further.same;
      }

-- spaces and line feeds in front
blank : (expect : Expect) (text : List ℕ) (syntax : List Part) → ReadsAs expect text syntax → ReadsAs expect (32 ∷ text) syntax
unfolding reads
blank expect text syntax more = record { whole = whole } where
  whole : (tokens : ℕ) → length (32 ∷ text) < tokens → ReadsWith tokens expect (32 ∷ text) syntax
  whole zero enough = absurd (omega arith)
  whole (suc tokens) enough =
      let further = more.whole (suc tokens) (omega arith) in
      record { parsed = further.parsed; parts = ap (λ (lexeme : Lexeme). reads_on expect lexeme (after expect lexeme.word) (λ next rest. reads tokens next rest)) (after_space text) ∙ further.parts; same = further.same }

feed : (expect : Expect) (text : List ℕ) (syntax : List Part) → ReadsAs expect text syntax → ReadsAs expect (10 ∷ text) syntax
unfolding reads
feed expect text syntax more = record { whole = whole } where
  whole : (tokens : ℕ) → length (10 ∷ text) < tokens → ReadsWith tokens expect (10 ∷ text) syntax
  whole zero enough = absurd (omega arith)
  whole (suc tokens) enough =
      let further = more.whole (suc tokens) (omega arith) in
      record { parsed = further.parsed; parts = ap (λ (lexeme : Lexeme). reads_on expect lexeme (after expect lexeme.word) (λ next rest. reads tokens next rest)) (after_feed text) ∙ further.parts; same = further.same }

mark : (expect next : Expect) (sign : Sign) (rest : List ℕ) (syntax : List Part) → after_mark expect sign ≡ Some next → ReadsAs next rest syntax → ReadsAs expect (byte_of sign ∷ rest) syntax
mark expect next sign rest syntax allowed more = silent expect next (byte_of sign ∷ rest) (Mark sign) rest syntax (begins_sign sign rest) allowed refl more

-- a reserved word
keyword : (expect next : Expect) (name : List ℕ) (word : Keyword) (byte : ℕ) (rest : List ℕ) (syntax : List Part) → IsWord name → keyword_of name ≡ Some word → is_name_byte byte ≡ false → after_keyword expect word ≡ Some next → ((size : Option ℕ) → keyword_part expect word size ≡ None) → ReadsAs next (byte ∷ rest) syntax → ReadsAs expect (name ++ byte ∷ rest) syntax
keyword expect next name word byte rest syntax spelled is stop allowed none more =
    silent expect next (name ++ byte ∷ rest) (Name name) (byte ∷ rest) syntax (begins_word name byte rest spelled stop) (ap (after_word expect) is ∙ allowed) (ap (λ (k : Option Keyword). word_part expect name k (size_at (byte ∷ rest))) is ∙ none (size_at (byte ∷ rest))) more

-- the same where it stands for a part
telling : (expect next : Expect) (name : List ℕ) (word : Keyword) (byte : ℕ) (rest : List ℕ) (part : Part) (syntax : List Part) → IsWord name → keyword_of name ≡ Some word → is_name_byte byte ≡ false → after_keyword expect word ≡ Some next → keyword_part expect word (size_at (byte ∷ rest)) ≡ Some part → ReadsAs next (byte ∷ rest) syntax → ReadsAs expect (name ++ byte ∷ rest) (part ∷ syntax)
telling expect next name word byte rest part syntax spelled is stop allowed some more =
    spoken expect next (name ++ byte ∷ rest) (Name name) (byte ∷ rest) part syntax (begins_word name byte rest spelled stop) (ap (after_word expect) is ∙ allowed) (ap (λ (k : Option Keyword). word_part expect name k (size_at (byte ∷ rest))) is ∙ some) more

-- a name
name_of : (expect next : Expect) (name : List ℕ) (byte : ℕ) (rest : List ℕ) (part : Part) (syntax : List Part) → IsName name → is_name_byte byte ≡ false → after_name expect ≡ Some next → name_part expect name (size_at (byte ∷ rest)) ≡ Some part → ReadsAs next (byte ∷ rest) syntax → ReadsAs expect (name ++ byte ∷ rest) (part ∷ syntax)
name_of expect next name byte rest part syntax spelled stop allowed some more =
    spoken expect next (name ++ byte ∷ rest) (Name name) (byte ∷ rest) part syntax (begins_word name byte rest spelled.word stop) (ap (after_word expect) spelled.free ∙ allowed) (ap (λ (k : Option Keyword). word_part expect name k (size_at (byte ∷ rest))) spelled.free ∙ some) more

spelled_by : (name : List ℕ) → begins_name (slice_index name 0) ≡ true → list_all is_name_byte name ≡ true → length name ≤ 32 → IsWord name
spelled_by name begins all short = record { begins = begins; goes_on = AllPass-from_list_all is_name_byte name all; short = short }

-- ---- types

-- where the type of a member or of an element may begin
abbrev starts : Holder → Bool → Expect
starts holders.StructField first = StructMember first
starts holders.ClassField first = ClassMember first
starts holders.Element first = VectorType

abbrev is_vector : Holder → Bool
is_vector holders.StructField = false
is_vector holders.ClassField = false
is_vector holders.Element = true

-- a word that begins a plain type
type_begins : (holder : Holder) (first : Bool) (word : Keyword) (plain : Plain) (name : List ℕ) (byte : ℕ) (rest : List ℕ) (syntax : List Part)
    → IsWord name → keyword_of name ≡ Some word → is_name_byte byte ≡ false → plain_word word ≡ Some plain → after_member_word word ≡ Some (after_plain holders.ClassField plain) → ((size : Option ℕ) → member_part word size ≡ Some (parts.Plain plain false))
    → ReadsAs (after_plain holder plain) (byte ∷ rest) syntax → ReadsAs (starts holder first) (name ++ byte ∷ rest) (parts.Plain plain (is_vector holder) ∷ syntax)
unfolding after_keyword keyword_part
type_begins holders.StructField first word plain name byte rest syntax spelled is stop here member part more =
    telling (StructMember first) (after_plain holders.StructField plain) name word byte rest (parts.Plain plain false) syntax spelled is stop (rw here refl) (rw here refl) more
type_begins holders.ClassField first word plain name byte rest syntax spelled is stop here member part more =
    telling (ClassMember first) (after_plain holders.ClassField plain) name word byte rest (parts.Plain plain false) syntax spelled is stop member (part (size_at (byte ∷ rest))) more
type_begins holders.Element first word plain name byte rest syntax spelled is stop here member part more =
    telling VectorType (after_plain holders.Element plain) name word byte rest (parts.Plain plain true) syntax spelled is stop (rw here refl) (rw here refl) more

digit_text : (n : ℕ) (signed : Bool) → n < 10 → number_text n signed ≡ cond signed (codes "int") (codes "uint") ++ (48 + n) ∷ []
unfolding number_text
digit_text n true small = ap (λ (digits : List ℕ). codes "int" ++ digits) (decimal_digit n small)
digit_text n false small = ap (λ (digits : List ℕ). codes "uint" ++ digits) (decimal_digit n small)

abbrev ReadsNumber : Holder → Bool → Bool → ℕ → List ℕ → List Part → ℕ → Type 0
ReadsNumber holder first signed byte rest syntax bytes = ReadsAs (starts holder first) (number_text bytes signed ++ byte ∷ rest) (parts.Plain (plains.Num bytes signed) (is_vector holder) ∷ syntax)

number_reads : (holder : Holder) (first : Bool) (bytes : ℕ) (signed : Bool) (byte : ℕ) (rest : List ℕ) (syntax : List Part) → IsWidth bytes → is_name_byte byte ≡ false
    → ReadsAs (after_type holder) (byte ∷ rest) syntax → ReadsAs (starts holder first) (number_text bytes signed ++ byte ∷ rest) (parts.Plain (plains.Num bytes signed) (is_vector holder) ∷ syntax)
unfolding number_text type_word member_word head_word plain_word
number_reads holder first bytes signed byte rest syntax width stop more = by_width width where
  one : (s : Bool) → ReadsAs (starts holder first) ((cond s (codes "int") (codes "uint") ++ 49 ∷ []) ++ byte ∷ rest) (parts.Plain (plains.Num 1 s) (is_vector holder) ∷ syntax)
  one false = type_begins holder first words.Uint1 (plains.Num 1 false) (codes "uint1") byte rest syntax (spelled_by _ refl refl (omega arith)) refl stop refl refl (λ size. refl) more
  one true = type_begins holder first words.Int1 (plains.Num 1 true) (codes "int1") byte rest syntax (spelled_by _ refl refl (omega arith)) refl stop refl refl (λ size. refl) more

  two : (s : Bool) → ReadsAs (starts holder first) ((cond s (codes "int") (codes "uint") ++ 50 ∷ []) ++ byte ∷ rest) (parts.Plain (plains.Num 2 s) (is_vector holder) ∷ syntax)
  two false = type_begins holder first words.Uint2 (plains.Num 2 false) (codes "uint2") byte rest syntax (spelled_by _ refl refl (omega arith)) refl stop refl refl (λ size. refl) more
  two true = type_begins holder first words.Int2 (plains.Num 2 true) (codes "int2") byte rest syntax (spelled_by _ refl refl (omega arith)) refl stop refl refl (λ size. refl) more

  four : (s : Bool) → ReadsAs (starts holder first) ((cond s (codes "int") (codes "uint") ++ 52 ∷ []) ++ byte ∷ rest) (parts.Plain (plains.Num 4 s) (is_vector holder) ∷ syntax)
  four false = type_begins holder first words.Uint4 (plains.Num 4 false) (codes "uint4") byte rest syntax (spelled_by _ refl refl (omega arith)) refl stop refl refl (λ size. refl) more
  four true = type_begins holder first words.Int4 (plains.Num 4 true) (codes "int4") byte rest syntax (spelled_by _ refl refl (omega arith)) refl stop refl refl (λ size. refl) more

  eight : (s : Bool) → ReadsAs (starts holder first) ((cond s (codes "int") (codes "uint") ++ 56 ∷ []) ++ byte ∷ rest) (parts.Plain (plains.Num 8 s) (is_vector holder) ∷ syntax)
  eight false = type_begins holder first words.Uint8 (plains.Num 8 false) (codes "uint8") byte rest syntax (spelled_by _ refl refl (omega arith)) refl stop refl refl (λ size. refl) more
  eight true = type_begins holder first words.Int8 (plains.Num 8 true) (codes "int8") byte rest syntax (spelled_by _ refl refl (omega arith)) refl stop refl refl (λ size. refl) more

  as_digits : (n : ℕ) → n < 10 → ReadsAs (starts holder first) ((cond signed (codes "int") (codes "uint") ++ (48 + n) ∷ []) ++ byte ∷ rest) (parts.Plain (plains.Num n signed) (is_vector holder) ∷ syntax) → ReadsNumber holder first signed byte rest syntax n
  as_digits n small read = subst (λ (text : List ℕ). ReadsAs (starts holder first) (text ++ byte ∷ rest) (parts.Plain (plains.Num n signed) (is_vector holder) ∷ syntax)) (sym (digit_text n signed small)) read

  by_width : IsWidth bytes → ReadsNumber holder first signed byte rest syntax bytes
  by_width (inl e) = subst (ReadsNumber holder first signed byte rest syntax) (sym e) (as_digits 1 (omega arith) (one signed))
  by_width (inr (inl e)) = subst (ReadsNumber holder first signed byte rest syntax) (sym e) (as_digits 2 (omega arith) (two signed))
  by_width (inr (inr (inl e))) = subst (ReadsNumber holder first signed byte rest syntax) (sym e) (as_digits 4 (omega arith) (four signed))
  by_width (inr (inr (inr e))) = subst (ReadsNumber holder first signed byte rest syntax) (sym e) (as_digits 8 (omega arith) (eight signed))

text_reads : (holder : Holder) (first : Bool) (byte : ℕ) (rest : List ℕ) (syntax : List Part) → is_name_byte byte ≡ false
    → ReadsAs (after_type holder) (byte ∷ rest) syntax → ReadsAs (starts holder first) (codes "string" ++ byte ∷ rest) (parts.Plain plains.Str (is_vector holder) ∷ syntax)
unfolding type_word member_word head_word plain_word
text_reads holder first byte rest syntax stop more = type_begins holder first words.String_ plains.Str (codes "string") byte rest syntax (spelled_by _ refl refl (omega arith)) refl stop refl refl (λ size. refl) more

box_reads : (holder : Holder) (first : Bool) (byte : ℕ) (rest : List ℕ) (syntax : List Part)
    → ReadsAs (after_type holder) (byte ∷ rest) syntax → ReadsAs (starts holder first) (codes "rect<int4>" ++ byte ∷ rest) (parts.Plain plains.Box4 (is_vector holder) ∷ syntax)
unfolding type_word member_word head_word plain_word after_mark after_keyword keyword_part
box_reads holder first byte rest syntax more =
    type_begins holder first words.Rect plains.Box4 (codes "rect") 60 (codes "int4>" ++ byte ∷ rest) syntax (spelled_by _ refl refl (omega arith)) refl refl refl refl (λ size. refl)
    (mark (RectOpen holder) (RectType holder) signs.Less (codes "int4>" ++ byte ∷ rest) syntax refl
    (keyword (RectType holder) (RectClose holder) (codes "int4") words.Int4 62 (byte ∷ rest) syntax (spelled_by _ refl refl (omega arith)) refl refl refl (λ size. refl)
    (mark (RectClose holder) (after_type holder) signs.Greater (byte ∷ rest) syntax refl more)))

-- the type of a vector's elements
element_reads : (groups : List Group) (plain : Plain) (byte : ℕ) (rest : List ℕ) (syntax : List Part) → IsPlainSpelled groups plain → is_name_byte byte ≡ false
    → ReadsAs VectorClose (byte ∷ rest) syntax → ReadsAs VectorType (plain_text groups plain ++ byte ∷ rest) (plain_part groups plain true ∷ syntax)
unfolding plain_text after_name name_part
element_reads groups (plains.Num bytes signed) byte rest syntax spelled stop more = number_reads holders.Element true bytes signed byte rest syntax spelled stop more
element_reads groups plains.Str byte rest syntax spelled stop more = text_reads holders.Element true byte rest syntax stop more
element_reads groups plains.Box4 byte rest syntax spelled stop more = box_reads holders.Element true byte rest syntax more
element_reads groups (plains.Struct place) byte rest syntax spelled stop more = name_of VectorType VectorClose (group_name groups place) byte rest (parts.Named (group_name groups place) true) syntax spelled stop refl refl more

vector_reads : (first : Bool) (groups : List Group) (plain : Plain) (byte : ℕ) (rest : List ℕ) (syntax : List Part) → IsPlainSpelled groups plain
    → ReadsAs (FieldName owners.Class) (byte ∷ rest) syntax → ReadsAs (ClassMember first) ((codes "vector<" ++ plain_text groups plain ++ codes ">") ++ byte ∷ rest) (plain_part groups plain true ∷ syntax)
unfolding type_word member_word head_word plain_word kind_word after_mark after_keyword keyword_part
vector_reads first groups plain byte rest syntax spelled more =
    let whole = keyword (ClassMember first) VectorOpen (codes "vector") words.Vector 60 (plain_text groups plain ++ 62 ∷ byte ∷ rest) (plain_part groups plain true ∷ syntax) (spelled_by _ refl refl (omega arith)) refl refl refl (λ size. refl)
    (mark VectorOpen VectorType signs.Less (plain_text groups plain ++ 62 ∷ byte ∷ rest) (plain_part groups plain true ∷ syntax) refl
    (element_reads groups plain 62 (byte ∷ rest) syntax spelled refl
    (mark VectorClose (FieldName owners.Class) signs.Greater (byte ∷ rest) syntax refl more))) in
    subst (λ (text : List ℕ). ReadsAs (ClassMember first) text (plain_part groups plain true ∷ syntax)) (ap (λ (text : List ℕ). codes "vector<" ++ text) (sym (append_assoc (plain_text groups plain) (codes ">") (byte ∷ rest)))) whole

-- the type of a class's field
type_reads : (first : Bool) (groups : List Group) (type : FieldType) (byte : ℕ) (rest : List ℕ) (syntax : List Part) → IsTypeSpelled groups type → is_name_byte byte ≡ false
    → ReadsAs (FieldName owners.Class) (byte ∷ rest) syntax → ReadsAs (ClassMember first) (type_text groups type ++ byte ∷ rest) (type_part groups type ∷ syntax)
unfolding type_text after_name name_part
type_reads first groups (types.Num bytes signed) byte rest syntax spelled stop more = number_reads holders.ClassField first bytes signed byte rest syntax spelled stop more
type_reads first groups types.Str byte rest syntax spelled stop more = text_reads holders.ClassField first byte rest syntax stop more
type_reads first groups types.Box4 byte rest syntax spelled stop more = box_reads holders.ClassField first byte rest syntax more
type_reads first groups (types.Struct place) byte rest syntax spelled stop more = name_of (ClassMember first) (FieldName owners.Class) (group_name groups place) byte rest (parts.Named (group_name groups place) false) syntax spelled stop refl refl more
type_reads first groups (types.Vector plain) byte rest syntax spelled stop more = vector_reads first groups plain byte rest syntax spelled more

-- the type of a struct's field
member_type_reads : (first : Bool) (type : FieldType) (byte : ℕ) (rest : List ℕ) (syntax : List Part) → IsMemberTypeSpelled type → is_name_byte byte ≡ false
    → ReadsAs (FieldName owners.Struct) (byte ∷ rest) syntax → ReadsAs (StructMember first) (type_text [] type ++ byte ∷ rest) (type_part [] type ∷ syntax)
unfolding type_text
member_type_reads first (types.Num bytes signed) byte rest syntax spelled stop more = number_reads holders.StructField first bytes signed byte rest syntax spelled stop more
member_type_reads first types.Str byte rest syntax spelled stop more = text_reads holders.StructField first byte rest syntax stop more
member_type_reads first types.Box4 byte rest syntax spelled stop more = box_reads holders.StructField first byte rest syntax more
member_type_reads first (types.Struct place) byte rest syntax spelled stop more = absurd spelled
member_type_reads first (types.Vector plain) byte rest syntax spelled stop more = absurd spelled

-- ---- lists of declarations

flat_reads : {X : Type 0} (expect : Expect) (text : X → List ℕ) (syntax_of : X → List Part) (Good : X → Type 0) → ((x : X) (rest : List ℕ) (syntax : List Part) → Good x → ReadsAs expect rest syntax → ReadsAs expect (text x ++ rest) (syntax_of x ++ syntax))
    → (xs : List X) (rest : List ℕ) (syntax : List Part) → All Good xs → ReadsAs expect rest syntax → ReadsAs expect (flat_map text xs ++ rest) (flat_map syntax_of xs ++ syntax)
flat_reads expect text syntax_of Good one [] rest syntax all more = more
flat_reads expect text syntax_of Good one (x ∷ xs) rest syntax all more =
    let others = flat_reads expect text syntax_of Good one xs rest syntax (All-tail Good x xs all) more in
    rw (append_assoc (text x) (flat_map text xs) rest, append_assoc (syntax_of x) (flat_map syntax_of xs) syntax) (one x (flat_map text xs ++ rest) (flat_map syntax_of xs ++ syntax) (All-head Good x xs all) others)

-- ---- fields

field_line : (groups : List Group) (field : Field) (rest : List ℕ) → field_text groups field ++ rest ≡ 32 ∷ 32 ∷ (type_text groups field.ty ++ 32 ∷ (field.name ++ 59 ∷ 10 ∷ rest))
unfolding field_text
field_line groups field rest = simp append_assoc

field_reads : (first : Bool) (groups : List Group) (field : Field) (rest : List ℕ) (syntax : List Part) → IsFieldSpelled groups field → ReadsAs (ClassMember false) rest syntax → ReadsAs (ClassMember first) (field_text groups field ++ rest) (field_parts groups field ++ syntax)
unfolding after_name name_part after_mark
field_reads first groups field rest syntax spelled more =
    let line = 32 ∷ (field.name ++ 59 ∷ 10 ∷ rest) in
    let ends : ReadsAs (FieldName owners.Class) line (parts.Member field.name ∷ syntax) =
    blank (FieldName owners.Class) (field.name ++ 59 ∷ 10 ∷ rest) (parts.Member field.name ∷ syntax)
    (name_of (FieldName owners.Class) (Semicolon owners.Class) field.name 59 (10 ∷ rest) (parts.Member field.name) syntax spelled.name refl refl refl
    (mark (Semicolon owners.Class) (ClassMember false) signs.Semicolon (10 ∷ rest) syntax refl (feed (ClassMember false) rest syntax more))) in
    let whole = blank (ClassMember first) (32 ∷ (type_text groups field.ty ++ line)) (field_parts groups field ++ syntax) (blank (ClassMember first) (type_text groups field.ty ++ line) (field_parts groups field ++ syntax)
    (type_reads first groups field.ty 32 (field.name ++ 59 ∷ 10 ∷ rest) (parts.Member field.name ∷ syntax) spelled.type refl ends)) in
    subst (λ (text : List ℕ). ReadsAs (ClassMember first) text (field_parts groups field ++ syntax)) (sym (field_line groups field rest)) whole

member_reads : (first : Bool) (field : Field) (rest : List ℕ) (syntax : List Part) → IsMemberSpelled field → ReadsAs (StructMember false) rest syntax → ReadsAs (StructMember first) (field_text [] field ++ rest) (field_parts [] field ++ syntax)
unfolding after_name name_part after_mark
member_reads first field rest syntax spelled more =
    let line = 32 ∷ (field.name ++ 59 ∷ 10 ∷ rest) in
    let ends : ReadsAs (FieldName owners.Struct) line (parts.Member field.name ∷ syntax) =
    blank (FieldName owners.Struct) (field.name ++ 59 ∷ 10 ∷ rest) (parts.Member field.name ∷ syntax)
    (name_of (FieldName owners.Struct) (Semicolon owners.Struct) field.name 59 (10 ∷ rest) (parts.Member field.name) syntax spelled.name refl refl refl
    (mark (Semicolon owners.Struct) (StructMember false) signs.Semicolon (10 ∷ rest) syntax refl (feed (StructMember false) rest syntax more))) in
    let whole = blank (StructMember first) (32 ∷ (type_text [] field.ty ++ line)) (field_parts [] field ++ syntax) (blank (StructMember first) (type_text [] field.ty ++ line) (field_parts [] field ++ syntax)
    (member_type_reads first field.ty 32 (field.name ++ 59 ∷ 10 ∷ rest) (parts.Member field.name ∷ syntax) spelled.type refl ends)) in
    subst (λ (text : List ℕ). ReadsAs (StructMember first) text (field_parts [] field ++ syntax)) (sym (field_line [] field rest)) whole

fields_read : (groups : List Group) (fields : List Field) (rest : List ℕ) (syntax : List Part) → 0 < length fields → All (IsFieldSpelled groups) fields → ReadsAs (ClassMember false) rest syntax
    → ReadsAs (ClassMember true) (flat_map (field_text groups) fields ++ rest) (flat_map (field_parts groups) fields ++ syntax)
fields_read groups [] rest syntax some all more = absurd (omega arith)
fields_read groups (field ∷ fields) rest syntax some all more =
    let others = flat_reads (ClassMember false) (field_text groups) (field_parts groups) (IsFieldSpelled groups) (field_reads false groups) fields rest syntax (All-tail (IsFieldSpelled groups) field fields all) more in
    let whole = field_reads true groups field (flat_map (field_text groups) fields ++ rest) (flat_map (field_parts groups) fields ++ syntax) (All-head (IsFieldSpelled groups) field fields all) others in
    subst (λ (text : List ℕ). ReadsAs (ClassMember true) text (flat_map (field_parts groups) (field ∷ fields) ++ syntax)) (sym (append_assoc (field_text groups field) (flat_map (field_text groups) fields) rest)) whole

members_read : (fields : List Field) (rest : List ℕ) (syntax : List Part) → 0 < length fields → All IsMemberSpelled fields → ReadsAs (StructMember false) rest syntax
    → ReadsAs (StructMember true) (flat_map (field_text []) fields ++ rest) (flat_map (field_parts []) fields ++ syntax)
members_read [] rest syntax some all more = absurd (omega arith)
members_read (field ∷ fields) rest syntax some all more =
    let others = flat_reads (StructMember false) (field_text []) (field_parts []) IsMemberSpelled (member_reads false) fields rest syntax (All-tail IsMemberSpelled field fields all) more in
    let whole = member_reads true field (flat_map (field_text []) fields ++ rest) (flat_map (field_parts []) fields ++ syntax) (All-head IsMemberSpelled field fields all) others in
    subst (λ (text : List ℕ). ReadsAs (StructMember true) text (flat_map (field_parts []) (field ∷ fields) ++ syntax)) (sym (append_assoc (field_text [] field) (flat_map (field_text []) fields) rest)) whole

-- ---- sizes

size_none : (rest : List ℕ) → size_at (59 ∷ rest) ≡ None
unfolding size_at
size_none rest = ap (λ (lexeme : Lexeme). size_in lexeme.word (lexeme_at lexeme.rest).word) (begins_sign signs.Semicolon rest).is

size_some : (size : ℕ) (rest : List ℕ) → size ≤ 4294967295 → size_at (91 ∷ (decimal size ++ 93 ∷ rest)) ≡ Some size
unfolding size_at
size_some size rest small =
    ap (λ (lexeme : Lexeme). size_in lexeme.word (lexeme_at lexeme.rest).word) (begins_sign signs.OpenBracket (decimal size ++ 93 ∷ rest)).is
    ∙ ap (λ (lexeme : Lexeme). size_in (Mark signs.OpenBracket) lexeme.word) (begins_number size 93 rest small refl).is

-- a word before a size, or none, and the end of the line
before_size : (expect : Expect) (word : List ℕ) (size : Option ℕ) (rest : List ℕ) (part : Part) (syntax : List Part)
    → ((byte : ℕ) (tail : List ℕ) → is_name_byte byte ≡ false → size_at (byte ∷ tail) ≡ size → ReadsAs SizeOrEnd (byte ∷ tail) syntax → ReadsAs expect (word ++ byte ∷ tail) (part ∷ syntax))
    → IsSizeSpelled size → ReadsAs (ClassMember false) rest syntax → ReadsAs expect (word ++ (size_text size ++ 59 ∷ 10 ∷ rest)) (part ∷ syntax)
unfolding size_text after_mark after_number
before_size expect word None rest part syntax reads_word spelled more =
    reads_word 59 (10 ∷ rest) refl (size_none (10 ∷ rest)) (mark SizeOrEnd (ClassMember false) signs.Semicolon (10 ∷ rest) syntax refl (feed (ClassMember false) rest syntax more))
before_size expect word (Some size) rest part syntax reads_word spelled more =
    let tail = decimal size ++ 93 ∷ 59 ∷ 10 ∷ rest in
    let number : ReadsAs SizeNumber tail syntax =
    silent SizeNumber SizeClose tail (Number size) (93 ∷ 59 ∷ 10 ∷ rest) syntax (begins_number size 93 (59 ∷ 10 ∷ rest) spelled refl) refl refl
    (mark SizeClose (Semicolon owners.Class) signs.CloseBracket (59 ∷ 10 ∷ rest) syntax refl (mark (Semicolon owners.Class) (ClassMember false) signs.Semicolon (10 ∷ rest) syntax refl (feed (ClassMember false) rest syntax more))) in
    let whole = reads_word 91 tail refl (size_some size (59 ∷ 10 ∷ rest) spelled) (mark SizeOrEnd SizeNumber signs.OpenBracket tail syntax refl number) in
    subst (λ (text : List ℕ). ReadsAs expect (word ++ 91 ∷ text) (part ∷ syntax)) (sym (append_assoc (decimal size) (codes "]") (59 ∷ 10 ∷ rest))) whole

autoid_line : (size : Option ℕ) (rest : List ℕ) → autoid_text true size ++ rest ≡ 32 ∷ 32 ∷ (codes "autoid" ++ (size_text size ++ 59 ∷ 10 ∷ rest))
unfolding autoid_text
autoid_line size rest = simp append_assoc

autoid_reads : (autoid : Bool) (size : Option ℕ) (rest : List ℕ) (syntax : List Part) → IsSizeSpelled size → ReadsAs (ClassMember false) rest syntax → ReadsAs (ClassMember false) (autoid_text autoid size ++ rest) (autoid_parts autoid size ++ syntax)
unfolding autoid_text type_word member_word head_word after_keyword keyword_part
autoid_reads false size rest syntax spelled more = more
autoid_reads true size rest syntax spelled more =
    let word = before_size (ClassMember false) (codes "autoid") size rest (parts.Autoid size) syntax
    (λ byte tail stop here further. telling (ClassMember false) SizeOrEnd (codes "autoid") words.Autoid byte tail (parts.Autoid size) syntax (spelled_by _ refl refl (omega arith)) refl stop refl (ap (λ (size : Option ℕ). Some (parts.Autoid size)) here) further)
    spelled more in
    let text = codes "autoid" ++ (size_text size ++ 59 ∷ 10 ∷ rest) in
    subst (λ (text : List ℕ). ReadsAs (ClassMember false) text (parts.Autoid size ∷ syntax)) (sym (autoid_line size rest))
    (blank (ClassMember false) (32 ∷ text) (parts.Autoid size ∷ syntax) (blank (ClassMember false) text (parts.Autoid size ∷ syntax) word))

-- ---- indexes

kind_reads : (unique : Bool) (kind : IndexKind) (rest : List ℕ) (syntax : List Part) → ReadsAs IndexOpen (60 ∷ rest) syntax → ReadsAs (ClassMember false) (unique_text unique ++ (kind_text kind ++ 60 ∷ rest)) (parts.Index unique kind ∷ syntax)
unfolding unique_text kind_text type_word member_word head_word plain_word kind_word after_keyword keyword_part
kind_reads false kinds.Hash rest syntax more = telling (ClassMember false) IndexOpen (codes "hash") words.Hash 60 rest (parts.Index false kinds.Hash) syntax (spelled_by _ refl refl (omega arith)) refl refl refl refl more
kind_reads false kinds.Tree rest syntax more = telling (ClassMember false) IndexOpen (codes "tree") words.Tree 60 rest (parts.Index false kinds.Tree) syntax (spelled_by _ refl refl (omega arith)) refl refl refl refl more
kind_reads false kinds.Rtree rest syntax more = telling (ClassMember false) IndexOpen (codes "rtree") words.Rtree 60 rest (parts.Index false kinds.Rtree) syntax (spelled_by _ refl refl (omega arith)) refl refl refl refl more
kind_reads false kinds.Patricia rest syntax more = telling (ClassMember false) IndexOpen (codes "patricia") words.Patricia 60 rest (parts.Index false kinds.Patricia) syntax (spelled_by _ refl refl (omega arith)) refl refl refl refl more
kind_reads true kind rest syntax more =
    keyword (ClassMember false) IndexKindWord (codes "unique") words.Unique 32 (kind_text kind ++ 60 ∷ rest) (parts.Index true kind ∷ syntax) (spelled_by _ refl refl (omega arith)) refl refl refl (λ size. refl)
    (blank IndexKindWord (kind_text kind ++ 60 ∷ rest) (parts.Index true kind ∷ syntax) (by_kind kind))
  where
    by_kind : (kind : IndexKind) → ReadsAs IndexKindWord (kind_text kind ++ 60 ∷ rest) (parts.Index true kind ∷ syntax)
    by_kind kinds.Hash = telling IndexKindWord IndexOpen (codes "hash") words.Hash 60 rest (parts.Index true kinds.Hash) syntax (spelled_by _ refl refl (omega arith)) refl refl refl refl more
    by_kind kinds.Tree = telling IndexKindWord IndexOpen (codes "tree") words.Tree 60 rest (parts.Index true kinds.Tree) syntax (spelled_by _ refl refl (omega arith)) refl refl refl refl more
    by_kind kinds.Rtree = telling IndexKindWord IndexOpen (codes "rtree") words.Rtree 60 rest (parts.Index true kinds.Rtree) syntax (spelled_by _ refl refl (omega arith)) refl refl refl refl more
    by_kind kinds.Patricia = telling IndexKindWord IndexOpen (codes "patricia") words.Patricia 60 rest (parts.Index true kinds.Patricia) syntax (spelled_by _ refl refl (omega arith)) refl refl refl refl more

-- the name of a key's field, before the next one or the end of the key
key_name_reads : (fields : List Field) (place : ℕ) (places : List ℕ) (rest : List ℕ) (syntax : List Part) → IsName (field_name fields place) → ReadsAs KeyNext (flat_map (named_after fields (codes ",")) places ++ 62 ∷ rest) syntax
    → ReadsAs KeyName (field_name fields place ++ (flat_map (named_after fields (codes ",")) places ++ 62 ∷ rest)) (key_part fields place ∷ syntax)
unfolding after_name name_part
key_name_reads fields place [] rest syntax spelled more = name_of KeyName KeyNext (field_name fields place) 62 rest (key_part fields place) syntax spelled refl refl refl more
key_name_reads fields place (other ∷ places) rest syntax spelled more =
    name_of KeyName KeyNext (field_name fields place) 44 ((field_name fields other ++ flat_map (named_after fields (codes ",")) places) ++ 62 ∷ rest) (key_part fields place) syntax spelled refl refl refl more

more_keys_read : (fields : List Field) (places : List ℕ) (rest : List ℕ) (syntax : List Part) → All (λ place. IsName (field_name fields place)) places → ReadsAs IndexName rest syntax
    → ReadsAs KeyNext (flat_map (named_after fields (codes ",")) places ++ 62 ∷ rest) (map (key_part fields) places ++ syntax)
unfolding after_mark
more_keys_read fields [] rest syntax all more = mark KeyNext IndexName signs.Greater rest syntax refl more
more_keys_read fields (place ∷ places) rest syntax all more =
    let others = more_keys_read fields places rest syntax (All-tail (λ (place : ℕ). IsName (field_name fields place)) place places all) more in
    let here = key_name_reads fields place places rest (map (key_part fields) places ++ syntax) (All-head (λ (place : ℕ). IsName (field_name fields place)) place places all) others in
    let whole = mark KeyNext KeyName signs.Comma (field_name fields place ++ (flat_map (named_after fields (codes ",")) places ++ 62 ∷ rest)) (map (key_part fields) (place ∷ places) ++ syntax) refl here in
    subst (λ (text : List ℕ). ReadsAs KeyNext (44 ∷ text) (map (key_part fields) (place ∷ places) ++ syntax)) (sym (append_assoc (field_name fields place) (flat_map (named_after fields (codes ",")) places) (62 ∷ rest))) whole

key_reads : (fields : List Field) (key : List ℕ) (rest : List ℕ) (syntax : List Part) → 0 < length key → All (λ place. IsName (field_name fields place)) key → ReadsAs IndexName rest syntax
    → ReadsAs IndexOpen (60 ∷ (key_text fields key ++ 62 ∷ rest)) (map (key_part fields) key ++ syntax)
unfolding after_mark key_text
key_reads fields [] rest syntax some all more = absurd (omega arith)
key_reads fields (place ∷ places) rest syntax some all more =
    let others = more_keys_read fields places rest syntax (All-tail (λ (place : ℕ). IsName (field_name fields place)) place places all) more in
    let here = key_name_reads fields place places rest (map (key_part fields) places ++ syntax) (All-head (λ (place : ℕ). IsName (field_name fields place)) place places all) others in
    let whole = mark IndexOpen KeyName signs.Less (field_name fields place ++ (flat_map (named_after fields (codes ",")) places ++ 62 ∷ rest)) (map (key_part fields) (place ∷ places) ++ syntax) refl here in
    subst (λ (text : List ℕ). ReadsAs IndexOpen (60 ∷ text) (map (key_part fields) (place ∷ places) ++ syntax)) (sym (append_assoc (field_name fields place) (flat_map (named_after fields (codes ",")) places) (62 ∷ rest))) whole

index_line : (fields : List Field) (index : IndexDecl) (rest : List ℕ) → index_text fields index ++ rest ≡ 32 ∷ 32 ∷ (unique_text index.unique ++ (kind_text index.kind ++ 60 ∷ (key_text fields index.key ++ 62 ∷ 32 ∷ (index.name ++ (size_text index.estimate ++ 59 ∷ 10 ∷ rest)))))
unfolding index_text
index_line fields index rest = simp append_assoc

index_reads : (fields : List Field) (index : IndexDecl) (rest : List ℕ) (syntax : List Part) → IsIndexSpelled fields index → ReadsAs (ClassMember false) rest syntax → ReadsAs (ClassMember false) (index_text fields index ++ rest) (index_parts fields index ++ syntax)
unfolding after_name name_part
index_reads fields index rest syntax spelled more =
    let ending = parts.IndexName index.name index.estimate in
    let line = index.name ++ (size_text index.estimate ++ 59 ∷ 10 ∷ rest) in
    let named : ReadsAs IndexName (32 ∷ line) (ending ∷ syntax) = blank IndexName line (ending ∷ syntax) (before_size IndexName index.name index.estimate rest ending syntax
    (λ byte tail stop here further. name_of IndexName SizeOrEnd index.name byte tail ending syntax spelled.name stop refl (ap (λ (size : Option ℕ). Some (parts.IndexName index.name size)) here) further)
    spelled.size more) in
    let keyed = key_reads fields index.key (32 ∷ line) (ending ∷ syntax) spelled.some spelled.key named in
    let text = unique_text index.unique ++ (kind_text index.kind ++ 60 ∷ (key_text fields index.key ++ 62 ∷ 32 ∷ line)) in
    let syntax_now = parts.Index index.unique index.kind ∷ (map (key_part fields) index.key ++ ending ∷ syntax) in
    let opened : ReadsAs (ClassMember false) (32 ∷ 32 ∷ text) syntax_now = blank (ClassMember false) (32 ∷ text) syntax_now (blank (ClassMember false) text syntax_now (kind_reads index.unique index.kind (key_text fields index.key ++ 62 ∷ 32 ∷ line) (map (key_part fields) index.key ++ ending ∷ syntax) keyed)) in
    subst (λ (text : List ℕ). ReadsAs (ClassMember false) text (index_parts fields index ++ syntax)) (sym (index_line fields index rest))
    (subst (λ (rest_parts : List Part). ReadsAs (ClassMember false) (32 ∷ 32 ∷ text) (parts.Index index.unique index.kind ∷ rest_parts)) (sym (append_assoc (map (key_part fields) index.key) (ending ∷ []) syntax)) opened)

-- ---- events

event_kind_reads : (fields : List Field) (kind : EventKind) (rest : List ℕ) (syntax : List Part) → IsKindSpelled fields kind → ReadsAs EventName rest syntax → ReadsAs EventWord (event_kind_text fields kind ++ 62 ∷ rest) (kind_parts fields kind ++ syntax)
unfolding event_kind_text type_word member_word head_word event_word after_keyword keyword_part after_name name_part after_mark
event_kind_reads fields events.New rest syntax spelled more =
    telling EventWord EventClose (codes "new") words.New 62 rest (parts.Event events.New) syntax (spelled_by _ refl refl (omega arith)) refl refl refl refl (mark EventClose EventName signs.Greater rest syntax refl more)
event_kind_reads fields events.Delete rest syntax spelled more =
    telling EventWord EventClose (codes "delete") words.Delete 62 rest (parts.Event events.Delete) syntax (spelled_by _ refl refl (omega arith)) refl refl refl refl (mark EventClose EventName signs.Greater rest syntax refl more)
event_kind_reads fields events.Update rest syntax spelled more =
    telling EventWord UpdateEnd (codes "update") words.Update 62 rest (parts.Event events.Update) syntax (spelled_by _ refl refl (omega arith)) refl refl refl refl (mark UpdateEnd EventName signs.Greater rest syntax refl more)
event_kind_reads fields (events.UpdateField place) rest syntax spelled more =
    telling EventWord UpdateEnd (codes "update") words.Update 32 (field_name fields place ++ 62 ∷ rest) (parts.Event events.Update) (parts.Update (field_name fields place) ∷ syntax) (spelled_by _ refl refl (omega arith)) refl refl refl refl
    (blank UpdateEnd (field_name fields place ++ 62 ∷ rest) (parts.Update (field_name fields place) ∷ syntax)
    (name_of UpdateEnd EventClose (field_name fields place) 62 rest (parts.Update (field_name fields place)) syntax spelled refl refl refl
    (mark EventClose EventName signs.Greater rest syntax refl more)))

event_line : (fields : List Field) (event : Event) (rest : List ℕ) → event_text fields event ++ rest ≡ 32 ∷ 32 ∷ (codes "event" ++ 60 ∷ (event_kind_text fields event.kind ++ 62 ∷ 32 ∷ (event.name ++ 59 ∷ 10 ∷ rest)))
unfolding event_text
event_line fields event rest = simp append_assoc

event_reads : (fields : List Field) (event : Event) (rest : List ℕ) (syntax : List Part) → IsEventSpelled fields event → ReadsAs (ClassMember false) rest syntax → ReadsAs (ClassMember false) (event_text fields event ++ rest) (event_parts fields event ++ syntax)
unfolding type_word member_word head_word plain_word kind_word after_keyword keyword_part after_name name_part after_mark
event_reads fields event rest syntax spelled more =
    let line = event.name ++ 59 ∷ 10 ∷ rest in
    let ending = parts.EventName event.name in
    let named : ReadsAs EventName (32 ∷ line) (ending ∷ syntax) = blank EventName line (ending ∷ syntax)
    (name_of EventName (Semicolon owners.Class) event.name 59 (10 ∷ rest) ending syntax spelled.name refl refl refl
    (mark (Semicolon owners.Class) (ClassMember false) signs.Semicolon (10 ∷ rest) syntax refl (feed (ClassMember false) rest syntax more))) in
    let inside = event_kind_text fields event.kind ++ 62 ∷ 32 ∷ line in
    let syntax_now = kind_parts fields event.kind ++ ending ∷ syntax in
    let opened : ReadsAs (ClassMember false) (codes "event" ++ 60 ∷ inside) syntax_now = keyword (ClassMember false) EventOpen (codes "event") words.Event 60 inside syntax_now (spelled_by _ refl refl (omega arith)) refl refl refl (λ size. refl)
    (mark EventOpen EventWord signs.Less inside syntax_now refl (event_kind_reads fields event.kind (32 ∷ line) (ending ∷ syntax) spelled.kind named)) in
    let whole : ReadsAs (ClassMember false) (event_text fields event ++ rest) syntax_now = subst (λ (text : List ℕ). ReadsAs (ClassMember false) text syntax_now) (sym (event_line fields event rest))
    (blank (ClassMember false) (32 ∷ (codes "event" ++ 60 ∷ inside)) syntax_now (blank (ClassMember false) (codes "event" ++ 60 ∷ inside) syntax_now opened)) in
    subst (λ (syntax_now : List Part). ReadsAs (ClassMember false) (event_text fields event ++ rest) syntax_now) (sym (append_assoc (kind_parts fields event.kind) (ending ∷ []) syntax)) whole

-- ---- structs, classes and schemas

group_line : (group : Group) (rest : List ℕ) → group_text group ++ rest ≡ 10 ∷ (codes "struct" ++ 32 ∷ (group.name ++ 32 ∷ 123 ∷ 10 ∷ (flat_map (field_text []) group.fields ++ 125 ∷ 59 ∷ 10 ∷ rest)))
unfolding group_text
group_line group rest = simp append_assoc

group_reads : (group : Group) (rest : List ℕ) (syntax : List Part) → IsGroupSpelled group → ReadsAs Declaration rest syntax → ReadsAs Declaration (group_text group ++ rest) (group_parts group ++ syntax)
unfolding type_word member_word head_word after_keyword keyword_part after_name name_part after_mark
group_reads group rest syntax spelled more =
    let inside = flat_map (field_text []) group.fields ++ 125 ∷ 59 ∷ 10 ∷ rest in
    let fields = flat_map (field_parts []) group.fields ++ syntax in
    let body : ReadsAs (StructMember true) inside fields = members_read group.fields (125 ∷ 59 ∷ 10 ∷ rest) syntax spelled.some spelled.fields
    (mark (StructMember false) DeclarationEnd signs.CloseBrace (59 ∷ 10 ∷ rest) syntax refl (mark DeclarationEnd Declaration signs.Semicolon (10 ∷ rest) syntax refl (feed Declaration rest syntax more))) in
    let named : ReadsAs StructName (group.name ++ 32 ∷ 123 ∷ 10 ∷ inside) (parts.Struct group.name ∷ fields) = name_of StructName (Open owners.Struct) group.name 32 (123 ∷ 10 ∷ inside) (parts.Struct group.name) fields spelled.name refl refl refl
    (blank (Open owners.Struct) (123 ∷ 10 ∷ inside) fields (mark (Open owners.Struct) (StructMember true) signs.OpenBrace (10 ∷ inside) fields refl (feed (StructMember true) inside fields body))) in
    subst (λ (text : List ℕ). ReadsAs Declaration text (group_parts group ++ syntax)) (sym (group_line group rest))
    (feed Declaration (codes "struct" ++ 32 ∷ (group.name ++ 32 ∷ 123 ∷ 10 ∷ inside)) (parts.Struct group.name ∷ fields)
    (keyword Declaration StructName (codes "struct") words.Struct 32 (group.name ++ 32 ∷ 123 ∷ 10 ∷ inside) (parts.Struct group.name ∷ fields) (spelled_by _ refl refl (omega arith)) refl refl refl (λ size. refl)
    (blank StructName (group.name ++ 32 ∷ 123 ∷ 10 ∷ inside) (parts.Struct group.name ∷ fields) named)))

class_line : (groups : List Group) (class : Class) (rest : List ℕ) → class_text groups class ++ rest
    ≡ 10 ∷ (codes "class" ++ 32 ∷ (class.name ++ 32 ∷ 123 ∷ 10 ∷ (flat_map (field_text groups) class.fields ++ (autoid_text class.autoid class.estimate ++ (flat_map (index_text class.fields) class.indexes ++ (flat_map (event_text class.fields) class.events ++ 125 ∷ 59 ∷ 10 ∷ rest))))))
unfolding class_text
class_line groups class rest = simp append_assoc

body_line : (groups : List Group) (class : Class) (syntax : List Part) → body_parts groups class ++ syntax ≡ flat_map (field_parts groups) class.fields ++ (autoid_parts class.autoid class.estimate ++ (flat_map (index_parts class.fields) class.indexes ++ (flat_map (event_parts class.fields) class.events ++ syntax)))
body_line groups class syntax = simp append_assoc

class_reads : (groups : List Group) (class : Class) (rest : List ℕ) (syntax : List Part) → IsClassSpelled groups class → ReadsAs Declaration rest syntax → ReadsAs Declaration (class_text groups class ++ rest) (class_parts groups class ++ syntax)
unfolding type_word member_word head_word after_keyword keyword_part after_name name_part after_mark
class_reads groups class rest syntax spelled more =
    let close : ReadsAs (ClassMember false) (125 ∷ 59 ∷ 10 ∷ rest) syntax = mark (ClassMember false) DeclarationEnd signs.CloseBrace (59 ∷ 10 ∷ rest) syntax refl (mark DeclarationEnd Declaration signs.Semicolon (10 ∷ rest) syntax refl (feed Declaration rest syntax more)) in
    let with_events = flat_reads (ClassMember false) (event_text class.fields) (event_parts class.fields) (IsEventSpelled class.fields) (event_reads class.fields) class.events (125 ∷ 59 ∷ 10 ∷ rest) syntax spelled.events close in
    let with_indexes = flat_reads (ClassMember false) (index_text class.fields) (index_parts class.fields) (IsIndexSpelled class.fields) (index_reads class.fields) class.indexes _ _ spelled.indexes with_events in
    let with_autoid = autoid_reads class.autoid class.estimate _ _ spelled.size with_indexes in
    let with_fields = fields_read groups class.fields _ _ spelled.some spelled.fields with_autoid in
    let inside = flat_map (field_text groups) class.fields ++ (autoid_text class.autoid class.estimate ++ (flat_map (index_text class.fields) class.indexes ++ (flat_map (event_text class.fields) class.events ++ 125 ∷ 59 ∷ 10 ∷ rest))) in
    let body_now = body_parts groups class ++ syntax in
    let body : ReadsAs (ClassMember true) inside body_now = subst (λ (syntax : List Part). ReadsAs (ClassMember true) inside syntax) (sym (body_line groups class syntax)) with_fields in
    let named : ReadsAs ClassName (class.name ++ 32 ∷ 123 ∷ 10 ∷ inside) (parts.Class class.name ∷ body_now) = name_of ClassName (Open owners.Class) class.name 32 (123 ∷ 10 ∷ inside) (parts.Class class.name) body_now spelled.name refl refl refl
    (blank (Open owners.Class) (123 ∷ 10 ∷ inside) body_now (mark (Open owners.Class) (ClassMember true) signs.OpenBrace (10 ∷ inside) body_now refl (feed (ClassMember true) inside body_now body))) in
    subst (λ (text : List ℕ). ReadsAs Declaration text (class_parts groups class ++ syntax)) (sym (class_line groups class rest))
    (feed Declaration (codes "class" ++ 32 ∷ (class.name ++ 32 ∷ 123 ∷ 10 ∷ inside)) (parts.Class class.name ∷ body_now)
    (keyword Declaration ClassName (codes "class") words.Class 32 (class.name ++ 32 ∷ 123 ∷ 10 ∷ inside) (parts.Class class.name ∷ body_now) (spelled_by _ refl refl (omega arith)) refl refl refl (λ size. refl)
    (blank ClassName (class.name ++ 32 ∷ 123 ∷ 10 ∷ inside) (parts.Class class.name ∷ body_now) named)))

ends : ReadsAs Declaration [] []
unfolding reads after_passing token_at may_end
ends = record { whole = whole } where
  whole : (tokens : ℕ) → 0 < tokens → ReadsWith tokens Declaration [] []
  whole zero enough = absurd (omega arith)
  whole (suc tokens) enough = record { parsed = record { syntax = []; lefts = [] }; parts = refl; same = refl }

schema_line : (schema : Schema) → canonical schema ≡ codes "declare" ++ 32 ∷ (codes "database" ++ 32 ∷ (schema.name ++ 59 ∷ 10 ∷ (flat_map group_text schema.groups ++ (flat_map (class_text schema.groups) schema.classes ++ []))))
unfolding canonical
schema_line schema = simp (append_assoc, append-nil)

schema_reads : (schema : Schema) → IsSpelled schema → ReadsAs Declare (canonical schema) (parts_of schema)
unfolding type_word member_word head_word after_keyword keyword_part after_name name_part after_mark
schema_reads schema spelled =
    let with_classes = flat_reads Declaration (class_text schema.groups) (class_parts schema.groups) (IsClassSpelled schema.groups) (class_reads schema.groups) schema.classes [] [] spelled.classes ends in
    let inside = flat_map group_text schema.groups ++ (flat_map (class_text schema.groups) schema.classes ++ []) in
    let syntax = flat_map group_parts schema.groups ++ (flat_map (class_parts schema.groups) schema.classes ++ []) in
    let body : ReadsAs Declaration inside syntax = flat_reads Declaration group_text group_parts IsGroupSpelled group_reads schema.groups _ _ spelled.groups with_classes in
    let after_database : ReadsAs DatabaseName (32 ∷ (schema.name ++ 59 ∷ 10 ∷ inside)) (parts.Database schema.name ∷ syntax) = blank DatabaseName (schema.name ++ 59 ∷ 10 ∷ inside) (parts.Database schema.name ∷ syntax)
    (name_of DatabaseName DatabaseEnd schema.name 59 (10 ∷ inside) (parts.Database schema.name) syntax spelled.name refl refl refl
    (mark DatabaseEnd Declaration signs.Semicolon (10 ∷ inside) syntax refl (feed Declaration inside syntax body))) in
    let named = codes "database" ++ 32 ∷ (schema.name ++ 59 ∷ 10 ∷ inside) in
    let whole : ReadsAs Declare (codes "declare" ++ 32 ∷ named) (parts.Database schema.name ∷ syntax) = keyword Declare Database (codes "declare") words.Declare 32 named (parts.Database schema.name ∷ syntax) (spelled_by _ refl refl (omega arith)) refl refl refl (λ size. refl)
    (blank Database named (parts.Database schema.name ∷ syntax)
    (keyword Database DatabaseName (codes "database") words.Database 32 (schema.name ++ 59 ∷ 10 ∷ inside) (parts.Database schema.name ∷ syntax) (spelled_by _ refl refl (omega arith)) refl refl refl (λ size. refl) after_database)) in
    let same : parts.Database schema.name ∷ syntax ≡ parts_of schema = ap (λ (classes : List Part). parts.Database schema.name ∷ (flat_map group_parts schema.groups ++ classes)) (append-nil (flat_map (class_parts schema.groups) schema.classes)) in
    subst (λ (text : List ℕ). ReadsAs Declare text (parts_of schema)) (sym (schema_line schema)) (subst (λ (syntax : List Part). ReadsAs Declare (codes "declare" ++ 32 ∷ named) syntax) same whole)

pub has_the_parts : (schema : Schema) → IsSpelled schema → HasParts (canonical schema) (parts_of schema)
has_the_parts schema spelled =
    let whole = (schema_reads schema spelled).whole (suc (length (canonical schema))) (omega arith) in
    record { parsed = whole.parsed; parts = whole.parts; same = whole.same }
