-- In which order the parts of a text of the grammar stand.
use Rattle.std.proofs.Common.{◌≡◌, ℕ, zero, suc, ◌≤◌, Bool, true, false, cond, ltb, List, [], ◌∷◌, ◌++◌, length, take, Option, Some, None, Result, Ok, Err, refl, sym, ap, ◌∙◌, arith, subst, inl, inr}
use Rattle.std.specs.Prelude.{slice_index}
use Rattle.std.specs.Char.{is_ascii_digit}
use Rattle.std.specs.Option.{option_to_list}
use Rattle.std.specs.List.{AllPass, take_while, prefix_len}
use Rattle.std.proofs.lemmas.Bool.{ltb-false}
use Rattle.std.proofs.lemmas.List.Elements.{All-cons, All-nil}
use Rattle.std.proofs.lemmas.List.Sums.{take_while-cons, prefix_len-le-length}
use Rattle.rdb_schema.specs.declared.syntax.Part.{Part}
use Rattle.rdb_schema.specs.declared.syntax.Part.TheVariants as parts
use Rattle.rdb_schema.specs.declared.keyword.Keyword.{Keyword}
use Rattle.rdb_schema.specs.declared.keyword.Keyword.TheVariants as words
use Rattle.rdb_ddl.specs.declared.token.Fault.{Fault}
use Rattle.rdb_ddl.specs.declared.token.Sign.{Sign}
use Rattle.rdb_ddl.specs.declared.token.Sign.TheVariants as signs
use Rattle.rdb_ddl.specs.declared.expect.Owner.{Owner}
use Rattle.rdb_ddl.specs.declared.expect.Owner.TheVariants as owners
use Rattle.rdb_ddl.specs.declared.expect.Holder.{Holder}
use Rattle.rdb_ddl.specs.declared.expect.Holder.TheVariants as holders
use Rattle.rdb_ddl.specs.declared.expect.Expect.{Expect}
use Rattle.rdb_ddl.specs.declared.expect.Expect.TheVariants.{Declare, Database, DatabaseName, DatabaseEnd, Declaration, DeclarationEnd, StructName, ClassName, Open, StructMember, ClassMember, FieldName, Semicolon, RectOpen, RectType, RectClose, VectorOpen, VectorType, VectorClose, SizeOrEnd, SizeNumber, SizeClose, IndexKindWord, IndexOpen, KeyName, KeyNext, IndexName, EventOpen, EventWord, UpdateEnd, EventClose, EventName}
use Rattle.rdb_schema.specs.Keyword.{keyword_of}
use Rattle.rdb_ddl.specs.Token.{Word, Name, Number, Mark, End, Unknown, decimal, number_of, after_trivia, unknown_at, token_of, name_at, number_at, mark_at, sign_of, token_at, lexeme_at, lexeme_after}
use Rattle.rdb_schema.specs.Names.{begins_name, is_name_byte, IsWord, IsName}
use Rattle.rdb_schema.specs.PartOrder.{State, Start, Top, GroupMembers, GroupField, ClassMembers, ClassField, KeyFirst, Keys, Updating, Ending, Fits, ends}
use Rattle.rdb_schema.specs.SpelledSchemas.{IsSizeSpelled}
use Rattle.rdb_ddl.specs.Grammar.{Parsed, plain_word, kind_word, event_word, after, after_word, after_keyword, after_name, after_mark, after_number, part_of, word_part, keyword_part, name_part, size_at, size_in, with_part, parsed_with, ends_at, may_end, reads_on, reads, grammar}

-- ---- what tokens are spelled like

abbrev pub IsSpelledWord : Word → Type 0
IsSpelledWord (Name bytes) = IsWord bytes
IsSpelledWord (Number value) = value ≤ 4294967295
IsSpelledWord (Mark sign) = Unit {0}
IsSpelledWord End = Unit {0}
IsSpelledWord Unknown = Unit {0}

all_while : (p : ℕ → Bool) (xs : List ℕ) → AllPass p (take_while p xs)
all_while p [] = All-nil (λ (x : ℕ). p x ≡ true)
all_while p (x ∷ xs) = by_test (p x) refl (all_while p xs) where
  by_test : (b : Bool) → p x ≡ b → AllPass p (take_while p xs) → AllPass p (take_while p (x ∷ xs))
  by_test true t rest =
      let here : take_while p (x ∷ xs) ≡ x ∷ take_while p xs = take_while-cons p x xs ∙ ap (λ (b : Bool). cond b (x ∷ take_while p xs) []) t in
      subst (AllPass p) (sym here) (All-cons (λ (x : ℕ). p x ≡ true) x (take_while p xs) t rest)
  by_test false t rest =
      let here : take_while p (x ∷ xs) ≡ [] = take_while-cons p x xs ∙ ap (λ (b : Bool). cond b (x ∷ take_while p xs) []) t in
      subst (AllPass p) (sym here) (All-nil (λ (x : ℕ). p x ≡ true))

length_front : (xs : List ℕ) (n : ℕ) → n ≤ length xs → length (take n xs) ≡ n
length_front [] zero le = refl
length_front [] (suc n) le = absurd (omega arith)
length_front (x ∷ xs) zero le = refl
length_front (x ∷ xs) (suc n) le = let rest = length_front xs n (omega arith) in omega arith

-- the bytes that are cut off are those that go on
cut_is : (p : ℕ → Bool) (xs : List ℕ) → take (length (take_while p xs)) xs ≡ take_while p xs
cut_is p xs = ap (λ (n : ℕ). take n xs) (length_front xs (prefix_len p xs) (prefix_len-le-length p xs))

first_kept : (byte : ℕ) (rest : List ℕ) → begins_name byte ≡ true → take_while is_name_byte (byte ∷ rest) ≡ byte ∷ take_while is_name_byte rest
first_kept byte rest begins =
    let goes : is_name_byte byte ≡ true = rw begins refl in
    take_while-cons is_name_byte byte rest ∙ ap (λ (b : Bool). cond b (byte ∷ take_while is_name_byte rest) []) goes

name_word : (byte : ℕ) (rest : List ℕ) → begins_name byte ≡ true → IsSpelledWord (name_at (byte ∷ rest)).word
name_word byte rest begins = by_test (ltb 32 len) refl where
  len : ℕ
  len = length (take_while is_name_byte (byte ∷ rest))

  name : List ℕ
  name = take len (byte ∷ rest)

  is_name : name ≡ byte ∷ take_while is_name_byte rest
  is_name = cut_is is_name_byte (byte ∷ rest) ∙ first_kept byte rest begins

  by_test : (past : Bool) → ltb 32 len ≡ past → IsSpelledWord (cond past (unknown_at (byte ∷ rest)) (token_of (Name name) len (byte ∷ rest))).word
  by_test true t = tt
  by_test false t = record {
    begins = ap (λ (name : List ℕ). begins_name (slice_index name 0)) is_name ∙ begins;
    goes_on = subst (AllPass is_name_byte) (sym (cut_is is_name_byte (byte ∷ rest))) (all_while is_name_byte (byte ∷ rest));
    short = let small = ltb-false 32 len t in let same : length name ≡ len = ap length (cut_is is_name_byte (byte ∷ rest)) in omega arith;
  }

number_word : (digits : List ℕ) (len : ℕ) (text : List ℕ) → IsSpelledWord (number_at (number_of digits) len text).word
number_word digits len text = by_test (ltb 4294967295 (decimal digits)) refl where
  by_test : (past : Bool) → ltb 4294967295 (decimal digits) ≡ past → IsSpelledWord (number_at (cond past None (Some (decimal digits))) len text).word
  by_test true t = tt
  by_test false t = ltb-false 4294967295 (decimal digits) t

mark_word : (sign : Option Sign) (text : List ℕ) → IsSpelledWord (mark_at sign text).word
mark_word None text = tt
mark_word (Some sign) text = tt

token_word : (text : List ℕ) → IsSpelledWord (token_at text).word
unfolding token_at
token_word [] = tt
token_word (byte ∷ rest) = by_test (begins_name byte) refl (is_ascii_digit byte) where
  len : ℕ
  len = length (take_while is_ascii_digit (byte ∷ rest))

  by_test : (letter : Bool) → begins_name byte ≡ letter → (digit : Bool) → IsSpelledWord (cond letter (name_at (byte ∷ rest)) (cond digit (number_at (number_of (take len (byte ∷ rest))) len (byte ∷ rest)) (mark_at (sign_of byte) (byte ∷ rest)))).word
  by_test true begins digit = name_word byte rest begins
  by_test false begins true = number_word (take len (byte ∷ rest)) len (byte ∷ rest)
  by_test false begins false = mark_word (sign_of byte) (byte ∷ rest)

lexeme_word : (text : List ℕ) → IsSpelledWord (lexeme_at text).word
lexeme_word text = by_result (after_trivia text) where
  by_result : (found : Result (List ℕ) Fault) → IsSpelledWord (lexeme_after found).word
  by_result (Ok rest) = token_word rest
  by_result (Err fault) = tt

size_spelled : (text : List ℕ) → IsSizeSpelled (size_at text)
unfolding size_at
size_spelled text = by_words (lexeme_at text).word (lexeme_at (lexeme_at text).rest).word (lexeme_word (lexeme_at text).rest) where
  by_words : (first second : Word) → IsSpelledWord second → IsSizeSpelled (size_in first second)
  by_words (Mark signs.OpenBracket) (Number value) small = small
  by_words first second small = tt

-- ---- parts that are read

abbrev of_owner : Owner → Bool → State
of_owner owners.Struct first = GroupMembers first
of_owner owners.Class first = ClassMembers

abbrev field_of : Owner → State
field_of owners.Struct = GroupField
field_of owners.Class = ClassField

abbrev of_holder : Holder → State
of_holder holders.StructField = GroupField
of_holder holders.ClassField = ClassField
of_holder holders.Element = ClassField

-- which part may come next
abbrev state_of : Expect → State
state_of Declare = Start
state_of Database = Start
state_of DatabaseName = Start
state_of DatabaseEnd = Top
state_of Declaration = Top
state_of DeclarationEnd = Top
state_of StructName = Top
state_of ClassName = Top
state_of (Open owner) = of_owner owner true
state_of (StructMember first) = GroupMembers first
state_of (ClassMember first) = ClassMembers
state_of (FieldName owner) = field_of owner
state_of (Semicolon owner) = of_owner owner false
state_of (RectOpen holder) = of_holder holder
state_of (RectType holder) = of_holder holder
state_of (RectClose holder) = of_holder holder
state_of VectorOpen = ClassMembers
state_of VectorType = ClassMembers
state_of VectorClose = ClassField
state_of SizeOrEnd = ClassMembers
state_of SizeNumber = ClassMembers
state_of SizeClose = ClassMembers
state_of IndexKindWord = ClassMembers
state_of IndexOpen = KeyFirst
state_of KeyName = KeyFirst
state_of KeyNext = Keys
state_of IndexName = Keys
state_of EventOpen = ClassMembers
state_of EventWord = ClassMembers
state_of UpdateEnd = Updating
state_of EventClose = Ending
state_of EventName = Ending

abbrev FitsAfter : Option Expect → List Part → Type 0
FitsAfter None xs = ⊥
FitsAfter (Some next) xs = Fits (state_of next) xs

-- a struct's or a class's body may end
closes_group : (xs : List Part) → Fits Top xs → Fits (GroupMembers false) xs
closes_group [] h = refl
closes_group (parts.Struct name ∷ xs) h = h
closes_group (parts.Class name ∷ xs) h = h
closes_group (part ∷ xs) h = absurd h.1

closes_class : (xs : List Part) → Fits Top xs → Fits ClassMembers xs
closes_class [] h = refl
closes_class (parts.Struct name ∷ xs) h = h
closes_class (parts.Class name ∷ xs) h = h
closes_class (part ∷ xs) h = absurd h.1

-- one more field of a key
one_more_key : (xs : List Part) → Fits KeyFirst xs → Fits Keys xs
one_more_key [] h = absurd cc
one_more_key (parts.Key name ∷ xs) h = h
one_more_key (part ∷ xs) h = absurd h.1

-- an update of any field
of_any : (xs : List Part) → Fits Ending xs → Fits Updating xs
of_any [] h = absurd cc
of_any (parts.EventName name ∷ xs) h = h
of_any (part ∷ xs) h = absurd h.1

mark_fits : (expect : Expect) (sign : Sign) (xs : List Part) → FitsAfter (after_mark expect sign) xs → Fits (state_of expect) xs
unfolding after_mark
mark_fits DatabaseEnd signs.Semicolon xs h = h
mark_fits DeclarationEnd signs.Semicolon xs h = h
mark_fits (Open owners.Struct) signs.OpenBrace xs h = h
mark_fits (Open owners.Class) signs.OpenBrace xs h = h
mark_fits (StructMember false) signs.CloseBrace xs h = closes_group xs h
mark_fits (ClassMember false) signs.CloseBrace xs h = closes_class xs h
mark_fits (Semicolon owners.Struct) signs.Semicolon xs h = h
mark_fits (Semicolon owners.Class) signs.Semicolon xs h = h
mark_fits (RectOpen holder) signs.Less xs h = h
mark_fits (RectClose holders.StructField) signs.Greater xs h = h
mark_fits (RectClose holders.ClassField) signs.Greater xs h = h
mark_fits (RectClose holders.Element) signs.Greater xs h = h
mark_fits VectorOpen signs.Less xs h = h
mark_fits VectorClose signs.Greater xs h = h
mark_fits SizeOrEnd signs.Semicolon xs h = h
mark_fits SizeOrEnd signs.OpenBracket xs h = h
mark_fits SizeClose signs.CloseBracket xs h = h
mark_fits IndexOpen signs.Less xs h = h
mark_fits KeyNext signs.Comma xs h = one_more_key xs h
mark_fits KeyNext signs.Greater xs h = h
mark_fits EventOpen signs.Less xs h = h
mark_fits UpdateEnd signs.Greater xs h = of_any xs h
mark_fits EventClose signs.Greater xs h = h
mark_fits expect sign xs h = absurd h

number_fits : (expect : Expect) (xs : List Part) → FitsAfter (after_number expect) xs → Fits (state_of expect) xs
unfolding after_number
number_fits SizeNumber xs h = h
number_fits expect xs h = absurd h

name_fits : (expect : Expect) (name : List ℕ) (size : Option ℕ) (xs : List Part) → IsName name → IsSizeSpelled size → FitsAfter (after_name expect) xs → Fits (state_of expect) (option_to_list (name_part expect name size) ++ xs)
unfolding after_name name_part
name_fits DatabaseName name size xs is spelled h = (is, h)
name_fits StructName name size xs is spelled h = (is, h)
name_fits ClassName name size xs is spelled h = (is, h)
name_fits (ClassMember first) name size xs is spelled h = (is, h)
name_fits VectorType name size xs is spelled h = (is, h)
name_fits (FieldName owners.Struct) name size xs is spelled h = (is, h)
name_fits (FieldName owners.Class) name size xs is spelled h = (is, h)
name_fits KeyName name size xs is spelled h = (is, h)
name_fits IndexName name size xs is spelled h = ((is, spelled), h)
name_fits UpdateEnd name size xs is spelled h = (is, h)
name_fits EventName name size xs is spelled h = (is, h)
name_fits expect name size xs is spelled h = absurd h

head_fits : (word : Keyword) (xs : List Part) → FitsAfter (after_keyword Declaration word) xs → Fits Top xs
unfolding after_keyword
head_fits words.Struct xs h = h
head_fits words.Class xs h = h
head_fits word xs h = absurd h

head_fits_after : (word : Keyword) (xs : List Part) → FitsAfter (after_keyword DeclarationEnd word) xs → Fits Top xs
unfolding after_keyword
head_fits_after words.Struct xs h = h
head_fits_after words.Class xs h = h
head_fits_after word xs h = absurd h

member_fits : (first : Bool) (word : Keyword) (size : Option ℕ) (xs : List Part) → FitsAfter (after_keyword (StructMember first) word) xs → Fits (GroupMembers first) (option_to_list (keyword_part (StructMember first) word size) ++ xs)
unfolding after_keyword keyword_part plain_word
member_fits first words.Uint1 size xs h = (inl refl, h)
member_fits first words.Uint2 size xs h = (inr (inl refl), h)
member_fits first words.Uint4 size xs h = (inr (inr (inl refl)), h)
member_fits first words.Uint8 size xs h = (inr (inr (inr refl)), h)
member_fits first words.Int1 size xs h = (inl refl, h)
member_fits first words.Int2 size xs h = (inr (inl refl), h)
member_fits first words.Int4 size xs h = (inr (inr (inl refl)), h)
member_fits first words.Int8 size xs h = (inr (inr (inr refl)), h)
member_fits first words.String_ size xs h = (tt, h)
member_fits first words.Rect size xs h = (tt, h)
member_fits first word size xs h = absurd h

element_fits : (word : Keyword) (size : Option ℕ) (xs : List Part) → FitsAfter (after_keyword VectorType word) xs → Fits ClassMembers (option_to_list (keyword_part VectorType word size) ++ xs)
unfolding after_keyword keyword_part plain_word
element_fits words.Uint1 size xs h = (inl refl, h)
element_fits words.Uint2 size xs h = (inr (inl refl), h)
element_fits words.Uint4 size xs h = (inr (inr (inl refl)), h)
element_fits words.Uint8 size xs h = (inr (inr (inr refl)), h)
element_fits words.Int1 size xs h = (inl refl, h)
element_fits words.Int2 size xs h = (inr (inl refl), h)
element_fits words.Int4 size xs h = (inr (inr (inl refl)), h)
element_fits words.Int8 size xs h = (inr (inr (inr refl)), h)
element_fits words.String_ size xs h = (tt, h)
element_fits words.Rect size xs h = (tt, h)
element_fits word size xs h = absurd h

class_member_fits : (first : Bool) (word : Keyword) (size : Option ℕ) (xs : List Part) → IsSizeSpelled size → FitsAfter (after_keyword (ClassMember first) word) xs → Fits ClassMembers (option_to_list (keyword_part (ClassMember first) word size) ++ xs)
unfolding after_keyword keyword_part plain_word kind_word
class_member_fits first words.Uint1 size xs spelled h = (inl refl, h)
class_member_fits first words.Uint2 size xs spelled h = (inr (inl refl), h)
class_member_fits first words.Uint4 size xs spelled h = (inr (inr (inl refl)), h)
class_member_fits first words.Uint8 size xs spelled h = (inr (inr (inr refl)), h)
class_member_fits first words.Int1 size xs spelled h = (inl refl, h)
class_member_fits first words.Int2 size xs spelled h = (inr (inl refl), h)
class_member_fits first words.Int4 size xs spelled h = (inr (inr (inl refl)), h)
class_member_fits first words.Int8 size xs spelled h = (inr (inr (inr refl)), h)
class_member_fits first words.String_ size xs spelled h = (tt, h)
class_member_fits first words.Rect size xs spelled h = (tt, h)
class_member_fits first words.Autoid size xs spelled h = (spelled, h)
class_member_fits first words.Unique size xs spelled h = h
class_member_fits first words.Event size xs spelled h = h
class_member_fits first words.Vector size xs spelled h = h
class_member_fits first words.Hash size xs spelled h = (tt, h)
class_member_fits first words.Tree size xs spelled h = (tt, h)
class_member_fits first words.Rtree size xs spelled h = (tt, h)
class_member_fits first words.Patricia size xs spelled h = (tt, h)
class_member_fits first word size xs spelled h = absurd h

kind_fits : (word : Keyword) (size : Option ℕ) (xs : List Part) → FitsAfter (after_keyword IndexKindWord word) xs → Fits ClassMembers (option_to_list (keyword_part IndexKindWord word size) ++ xs)
unfolding after_keyword keyword_part kind_word
kind_fits words.Hash size xs h = (tt, h)
kind_fits words.Tree size xs h = (tt, h)
kind_fits words.Rtree size xs h = (tt, h)
kind_fits words.Patricia size xs h = (tt, h)
kind_fits word size xs h = absurd h

event_fits : (word : Keyword) (size : Option ℕ) (xs : List Part) → FitsAfter (after_keyword EventWord word) xs → Fits ClassMembers (option_to_list (keyword_part EventWord word size) ++ xs)
unfolding after_keyword keyword_part event_word
event_fits words.New size xs h = (tt, h)
event_fits words.Delete size xs h = (tt, h)
event_fits words.Update size xs h = (tt, h)
event_fits word size xs h = absurd h

declare_fits : (word : Keyword) (xs : List Part) → FitsAfter (after_keyword Declare word) xs → Fits Start xs
unfolding after_keyword
declare_fits words.Declare xs h = h
declare_fits word xs h = absurd h

database_fits : (word : Keyword) (xs : List Part) → FitsAfter (after_keyword Database word) xs → Fits Start xs
unfolding after_keyword
database_fits words.Database xs h = h
database_fits word xs h = absurd h

rect_fits : (holder : Holder) (word : Keyword) (xs : List Part) → FitsAfter (after_keyword (RectType holder) word) xs → Fits (of_holder holder) xs
unfolding after_keyword
rect_fits holder words.Int4 xs h = h
rect_fits holder word xs h = absurd h

keyword_fits : (expect : Expect) (word : Keyword) (size : Option ℕ) (xs : List Part) → IsSizeSpelled size → FitsAfter (after_keyword expect word) xs → Fits (state_of expect) (option_to_list (keyword_part expect word size) ++ xs)
unfolding after_keyword keyword_part
keyword_fits Declare word size xs spelled h = declare_fits word xs h
keyword_fits Database word size xs spelled h = database_fits word xs h
keyword_fits Declaration word size xs spelled h = head_fits word xs h
keyword_fits DeclarationEnd word size xs spelled h = head_fits_after word xs h
keyword_fits (StructMember first) word size xs spelled h = member_fits first word size xs h
keyword_fits (ClassMember first) word size xs spelled h = class_member_fits first word size xs spelled h
keyword_fits VectorType word size xs spelled h = element_fits word size xs h
keyword_fits (RectType holder) word size xs spelled h = rect_fits holder word xs h
keyword_fits IndexKindWord word size xs spelled h = kind_fits word size xs h
keyword_fits EventWord word size xs spelled h = event_fits word size xs h
keyword_fits expect word size xs spelled h = absurd h

word_fits : (expect : Expect) (name : List ℕ) (word : Option Keyword) (size : Option ℕ) (xs : List Part) → IsWord name → keyword_of name ≡ word → IsSizeSpelled size → FitsAfter (after_word expect word) xs → Fits (state_of expect) (option_to_list (word_part expect name word size) ++ xs)
word_fits expect name None size xs spelled free sized h = name_fits expect name size xs (record { word = spelled; free = free }) sized h
word_fits expect name (Some word) size xs spelled free sized h = keyword_fits expect word size xs sized h

token_fits : (expect : Expect) (word : Word) (rest : List ℕ) (xs : List Part) → IsSpelledWord word → FitsAfter (after expect word) xs → Fits (state_of expect) (option_to_list (part_of expect word rest) ++ xs)
token_fits expect (Name bytes) rest xs spelled h = word_fits expect bytes (keyword_of bytes) (size_at rest) xs spelled refl (size_spelled rest) h
token_fits expect (Number value) rest xs spelled h = number_fits expect xs h
token_fits expect (Mark sign) rest xs spelled h = mark_fits expect sign xs h
token_fits expect End rest xs spelled h = absurd h
token_fits expect Unknown rest xs spelled h = absurd h

may_end_fits : (expect : Expect) → may_end expect ≡ true → ends (state_of expect) ≡ true
unfolding may_end
may_end_fits Declaration e = refl
may_end_fits DeclarationEnd e = refl
may_end_fits expect e = absurd cc

end_fits : (expect : Expect) (word : Word) → ends_at expect word ≡ true → ends (state_of expect) ≡ true
end_fits expect End e = may_end_fits expect e
end_fits expect (Name bytes) e = absurd cc
end_fits expect (Number value) e = absurd cc
end_fits expect (Mark sign) e = absurd cc
end_fits expect Unknown e = absurd cc

syntax_with : (part : Option Part) (left : ℕ) (parsed : Parsed) → (with_part part left parsed).syntax ≡ option_to_list part ++ parsed.syntax
syntax_with None left parsed = refl
syntax_with (Some part) left parsed = refl

pub reads_fit : (tokens : ℕ) (expect : Expect) (text : List ℕ) (parsed : Parsed) → reads tokens expect text ≡ Ok parsed → Fits (state_of expect) parsed.syntax
unfolding reads
reads_fit zero expect text parsed e = absurd cc
reads_fit (suc tokens) expect text parsed e = by_next (after expect (lexeme_at text).word) refl e (λ next rest further read. reads_fit tokens next rest further read) where
  by_rest : (next : Expect) → after expect (lexeme_at text).word ≡ Some next → (read : Result Parsed ℕ) → reads tokens next (lexeme_at text).rest ≡ read → parsed_with (part_of expect (lexeme_at text).word (lexeme_at text).rest) (lexeme_at text).left read ≡ Ok parsed → ((next : Expect) (rest : List ℕ) (further : Parsed) → reads tokens next rest ≡ Ok further → Fits (state_of next) further.syntax) → Fits (state_of expect) parsed.syntax
  by_rest next allowed (Err left) read e others = absurd cc
  by_rest next allowed (Ok further) read e others =
      let part = part_of expect (lexeme_at text).word (lexeme_at text).rest in
      let same : with_part part (lexeme_at text).left further ≡ parsed = cc in
      let rest : Fits (state_of next) further.syntax = others next (lexeme_at text).rest further read in
      let whole : Fits (state_of expect) (option_to_list part ++ further.syntax) = token_fits expect (lexeme_at text).word (lexeme_at text).rest further.syntax (lexeme_word text) (subst (λ (next : Option Expect). FitsAfter next further.syntax) (sym allowed) rest) in
      subst (Fits (state_of expect)) (sym (syntax_with part (lexeme_at text).left further) ∙ ap (λ (parsed : Parsed). parsed.syntax) same) whole

  by_end : (b : Bool) → ends_at expect (lexeme_at text).word ≡ b → cond b (Ok (record { syntax = []; lefts = [] })) (Err (lexeme_at text).left) ≡ Ok parsed → Fits (state_of expect) parsed.syntax
  by_end true t e =
      let same : (record { syntax = []; lefts = [] }) ≡ parsed = cc in
      subst (λ (parsed : Parsed). Fits (state_of expect) parsed.syntax) same (end_fits expect (lexeme_at text).word t)
  by_end false t e = absurd cc

  by_next : (next : Option Expect) → after expect (lexeme_at text).word ≡ next → reads_on expect (lexeme_at text) next (λ next rest. reads tokens next rest) ≡ Ok parsed → ((next : Expect) (rest : List ℕ) (further : Parsed) → reads tokens next rest ≡ Ok further → Fits (state_of next) further.syntax) → Fits (state_of expect) parsed.syntax
  by_next (Some next) allowed e others = by_rest next allowed (reads tokens next (lexeme_at text).rest) refl e others
  by_next None allowed e others = by_end (ends_at expect (lexeme_at text).word) refl e

pub grammar_fits : (text : List ℕ) (parsed : Parsed) → grammar text ≡ Ok parsed → Fits Start parsed.syntax
grammar_fits text parsed e = reads_fit (suc (length text)) Declare text parsed e
