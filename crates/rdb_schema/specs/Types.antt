-- The types of a class's fields, with the types of a struct's fields in place of its number, and which values they have.
use Rattle.std.specs.Prelude.{ℕ, ℤ, Option, Some, Bool, true, false, ◌&&◌, nat_le, List, [], ◌∷◌, length, map, slice_get}
use Rattle.std.specs.List.{list_all}
use Rattle.std.specs.Option.{option_map_or}
use Rattle.rdb_base.specs.declared.limits.TheConstants.{MAX_ELEMENTS}
use Rattle.rdb_base.specs.declared.value.Leaf.TheVariants as leaf
use Rattle.rdb_base.specs.declared.value.Element.{Element}
use Rattle.rdb_base.specs.declared.value.Element.TheVariants as element
use Rattle.rdb_base.specs.declared.value.Value.{Value}
use Rattle.rdb_base.specs.declared.value.Value.TheVariants as value
use Rattle.rdb_schema.specs.declared.schema.Plain.{Plain}
use Rattle.rdb_schema.specs.declared.schema.Plain.TheVariants as plain
use Rattle.rdb_schema.specs.declared.schema.FieldType.{FieldType}
use Rattle.rdb_schema.specs.declared.schema.FieldType.TheVariants as ty
use Rattle.rdb_schema.specs.declared.schema.Group.{Group}
use Rattle.rdb_schema.specs.declared.schema.Schema.{Schema}
use Rattle.rdb_schema.specs.Values.{leaf_holds}
use Rattle.rdb_schema.specs.declared.types.ElementType.{ElementType}
use Rattle.rdb_schema.specs.declared.types.ElementType.TheVariants as elements
use Rattle.rdb_schema.specs.declared.types.ValueType.{ValueType}
use Rattle.rdb_schema.specs.declared.types.ValueType.TheVariants as values

-- the types of a struct's fields
abbrev pub leaf_types : Group → List FieldType
leaf_types group = map (λ f. f.ty) group.fields

-- the type of a vector's elements; a struct that isn't declared stays as it is
abbrev pub element_type : Schema → Plain → ElementType
element_type schema (plain.Num bytes signed) = elements.Leaf (ty.Num bytes signed)
element_type schema plain.Str = elements.Leaf ty.Str
element_type schema plain.Box4 = elements.Leaf ty.Box4
element_type schema (plain.Struct group) =
    option_map_or (λ g. elements.Group (leaf_types g)) (slice_get schema.groups group) (elements.Leaf (ty.Struct group))

-- the type of a field; a struct that isn't declared stays as it is
abbrev pub value_type : Schema → FieldType → ValueType
value_type schema (ty.Num bytes signed) = values.Leaf (ty.Num bytes signed)
value_type schema ty.Str = values.Leaf ty.Str
value_type schema ty.Box4 = values.Leaf ty.Box4
value_type schema (ty.Vector of) = values.Vector (element_type schema of)
value_type schema (ty.Struct group) =
    option_map_or (λ g. values.Group (leaf_types g)) (slice_get schema.groups group) (values.Leaf (ty.Struct group))

-- the types of a class's fields; none where there is no such class
abbrev pub types_of : Schema → ℕ → List ValueType
types_of schema class = option_map_or (λ c. map (λ f. value_type schema f.ty) c.fields) (slice_get schema.classes class) []

-- whether two lists are equally long and each pair of them passes a test
abbrev pub all_pairs : {A B : Type 0} → (A → B → Bool) → List A → List B → Bool
all_pairs test [] [] = true
all_pairs test (x ∷ xs) (y ∷ ys) = test x y && all_pairs test xs ys
all_pairs test _ _ = false

-- whether an element is one of a type
abbrev pub element_fits : ElementType → Element → Bool
element_fits (elements.Leaf t) (element.Leaf l) = leaf_holds t l
element_fits (elements.Group ts) (element.Group ls) = all_pairs leaf_holds ts ls
element_fits _ _ = false

-- whether a value is one of a type
abbrev pub value_fits : ValueType → Value → Bool
value_fits (values.Leaf t) (value.Leaf l) = leaf_holds t l
value_fits (values.Vector of) (value.List es) = nat_le (length es) MAX_ELEMENTS && list_all (element_fits of) es
value_fits (values.Group ts) (value.Group ls) = all_pairs leaf_holds ts ls
value_fits _ _ = false

-- whether a row has a value of each type
abbrev pub row_fits : List ValueType → List Value → Bool
row_fits types row = all_pairs value_fits types row

-- whether a number is one of a field's type
abbrev pub number_fits : Option ValueType → ℤ → Bool
number_fits (Some (values.Leaf t)) n = leaf_holds t (leaf.Num n)
number_fits _ n = false
