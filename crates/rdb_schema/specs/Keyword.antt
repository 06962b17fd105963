-- The reserved words.
use Rattle.std.specs.Prelude.{ℕ, List, codes, Option, Some, None, if◌then◌else◌}
use Rattle.std.specs.Str.{bytes_eq}
use Rattle.rdb_schema.specs.declared.keyword.Keyword.{Keyword}
use Rattle.rdb_schema.specs.declared.keyword.Keyword.TheVariants as words

-- the words for types
unfoldable pub type_word : List ℕ → Option Keyword
type_word name =
    if bytes_eq name (codes "uint1") then Some words.Uint1
    else (if bytes_eq name (codes "uint2") then Some words.Uint2
    else (if bytes_eq name (codes "uint4") then Some words.Uint4
    else (if bytes_eq name (codes "uint8") then Some words.Uint8
    else (if bytes_eq name (codes "int1") then Some words.Int1
    else (if bytes_eq name (codes "int2") then Some words.Int2
    else (if bytes_eq name (codes "int4") then Some words.Int4
    else (if bytes_eq name (codes "int8") then Some words.Int8
    else (if bytes_eq name (codes "string") then Some words.String_
    else (if bytes_eq name (codes "rect") then Some words.Rect
    else None)))))))))

-- the words that begin an index or stand in an event
unfoldable pub member_word : List ℕ → Option Keyword
member_word name =
    if bytes_eq name (codes "unique") then Some words.Unique
    else (if bytes_eq name (codes "hash") then Some words.Hash
    else (if bytes_eq name (codes "tree") then Some words.Tree
    else (if bytes_eq name (codes "rtree") then Some words.Rtree
    else (if bytes_eq name (codes "patricia") then Some words.Patricia
    else (if bytes_eq name (codes "new") then Some words.New
    else (if bytes_eq name (codes "delete") then Some words.Delete
    else (if bytes_eq name (codes "update") then Some words.Update
    else None)))))))

-- the other words
unfoldable pub head_word : List ℕ → Option Keyword
head_word name =
    if bytes_eq name (codes "declare") then Some words.Declare
    else (if bytes_eq name (codes "database") then Some words.Database
    else (if bytes_eq name (codes "struct") then Some words.Struct
    else (if bytes_eq name (codes "class") then Some words.Class
    else (if bytes_eq name (codes "autoid") then Some words.Autoid
    else (if bytes_eq name (codes "event") then Some words.Event
    else (if bytes_eq name (codes "vector") then Some words.Vector
    else None))))))

abbrev pub first_word : Option Keyword → Option Keyword → Option Keyword
first_word (Some word) other = Some word
first_word None other = other

-- the reserved word that the bytes are, if they are one
abbrev pub keyword_of : List ℕ → Option Keyword
keyword_of name = first_word (type_word name) (first_word (member_word name) (head_word name))
