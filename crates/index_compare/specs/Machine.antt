-- The walk through a body: the segments that are still to come at a place of it. It is total: where bytes are missing the segments end.
-- Assumes nothing.
use Rattle.std.specs.Prelude.{ℕ, zero, suc, ◌+◌, ◌*◌, Bool, true, false, List, [], ◌∷◌, Option, Some, None, eqb, leb, length, take, drop, get_or}
use Rattle.script_spec.specs.Base.{Bytes}
use Rattle.script_spec.specs.Fields.{low}
use Rattle.read_operator.specs.Codes.{ext_code, record_get_code, string_like_code, uuf_code, zero_extend_code}
use Rattle.index_compare.specs.Segment.{Segment, plain, type_ref, fun_ref, term_ref}
use Rattle.index_compare.specs.declared.segments.Operand.{Operand}
use Rattle.index_compare.specs.declared.segments.Operand.TheVariants as operand
use Rattle.index_compare.specs.declared.segments.Field.{Field}
use Rattle.index_compare.specs.declared.segments.Field.TheVariants as field
use Rattle.index_compare.specs.declared.segments.Item.{Item}
use Rattle.index_compare.specs.declared.segments.Item.TheVariants as item
use Rattle.index_compare.specs.declared.segments.Walk.{Walk}
use Rattle.index_compare.specs.declared.segments.Segments.{Segments}

-- what comes of the bytes that are left
abbrev pub Then : Type 0
Then = Bytes → List Segment

-- the first n bytes as a segment, and what follows them; nothing where there are fewer
unfoldable pub cut : ℕ → (Bytes → Segment) → Then → Then
cut n wrap next s = elim (leb n (length s)) [ true ↦ wrap (take n s) ∷ next (drop n s) | false ↦ [] ]

-- four bytes that are a reference
unfoldable pub reference : (ℕ → Segment) → Then → Then
reference wrap next s = cut 4 (λ p. wrap (low p)) next s

-- how many bytes a text has with its count
unfoldable pub counted_size : Bytes → ℕ
counted_size s = 4 + low (take 4 s)

-- a text with its count
unfoldable pub text_then : Then → Then
text_then next s = cut (counted_size s) plain next s

-- an operand; that of `Uuf` is a reference
unfoldable pub operand_then : Operand → Then → Then
operand_then operand.Byte next s = cut 1 plain next s
operand_then operand.Word next s = cut 4 plain next s
operand_then operand.Text next s = text_then next s
operand_then operand.Elements next s = cut (4 + 4 * low (take 4 s)) plain next s
operand_then operand.Function next s = reference fun_ref next s

-- what the operator with code b has after its code: `Ext`, `RecordGet`, `StringLike`, `Uuf` and `ZeroExtend` have an operand
unfoldable pub operand_of : ℕ → Option Operand
operand_of b =
    elim (eqb b ext_code) [
      | true ↦ Some operand.Byte
      | false ↦ elim (eqb b record_get_code) [
        | true ↦ Some operand.Text
        | false ↦ elim (eqb b string_like_code) [
          | true ↦ Some operand.Elements
          | false ↦ elim (eqb b uuf_code) [ true ↦ Some operand.Function | false ↦ elim (eqb b zero_extend_code) [ true ↦ Some operand.Word | false ↦ None ] ]
        ]
      ]
    ]

unfoldable pub coded_then : Option Operand → Then → Then
coded_then (Some o) next = operand_then o next
coded_then None next = next

-- what comes after the code b
unfoldable pub code_then : ℕ → Then → Then
code_then b next = coded_then (operand_of b) next

-- an operator's code and its operand
unfoldable pub operator_then : Then → Then
operator_then next s = cut 1 plain (code_then (get_or s 0 0) next) s

-- a field, what follows it, and what comes where there are no fields
unfoldable pub field_then : Field → Then → Then → Then
field_then field.Nothing next end s = end s
field_then field.Rest next end s = plain s ∷ next []
field_then field.TypeRef next end s = reference type_ref next s
field_then field.TermRef next end s = reference term_ref next s
field_then field.NamedType next end s = text_then (reference type_ref next) s
field_then field.Operator next end s = operator_then next s
field_then (field.Operand o) next end s = operand_then o next s

unfoldable pub item_then : Item → Then → Then
item_then item.Term next s = reference term_ref next s
item_then item.NamedType next s = text_then (reference type_ref next) s
item_then item.NamedTerm next s = text_then (reference term_ref next) s

-- n items
unfoldable pub items : Item → ℕ → Then
items i zero s = []
items i (suc n) s = item_then i (items i n) s

-- a count and its items
unfoldable pub count_then : Item → Then
count_then i s = cut 4 plain (items i (low (take 4 s))) s

-- what comes after the fields: a count and items, or the items that are left
unfoldable pub last : Bool → Item → ℕ → Then
last true i n s = count_then i s
last false i n s = items i n s

-- the segments still to come, from the bytes that are left
unfoldable pub remaining : Walk → Then
remaining w s =
    let end = last w.counts w.item w.left in
    field_then w.first (field_then w.second end end) end s

-- the segments still to come
unfoldable pub ahead : Segments → List Segment
ahead s = remaining s.walk s.rest.now

-- ---- the start

-- a walk from the start of a body with these fields, and no list after them
abbrev pub fields : Field → Field → Walk
fields f g = record { first = f; second = g; counts = false; item = item.Term; left = 0 }

-- with a list after them
abbrev pub listing : Field → Field → Item → Walk
listing f g i = record { first = f; second = g; counts = true; item = i; left = 0 }

-- the start in the body of a type, by the second byte of its mark: O, C, R
unfoldable pub start_type : ℕ → Walk
start_type b =
    elim (eqb b 79) [
      | true ↦ fields field.TypeRef field.Nothing
      | false ↦ elim (eqb b 67) [
        | true ↦ fields field.TypeRef field.Nothing
        | false ↦ elim (eqb b 82) [
          | true ↦ listing field.Nothing field.Nothing item.NamedType
          | false ↦ fields field.Rest field.Nothing
        ]
      ]
    ]

-- in the body of a term with a list: C, R, A
unfoldable pub start_list : ℕ → Walk
start_list b =
    elim (eqb b 67) [
      | true ↦ listing field.TypeRef field.Nothing item.Term
      | false ↦ elim (eqb b 82) [
        | true ↦ listing field.Nothing field.Nothing item.NamedTerm
        | false ↦ elim (eqb b 65) [ true ↦ listing field.TypeRef field.Operator item.Term | false ↦ fields field.Rest field.Nothing ]
      ]
    ]

-- in the body of a term: V, E, 0, 1, or a list
unfoldable pub start_term : ℕ → Walk
start_term b =
    elim (eqb b 86) [
      | true ↦ fields field.NamedType field.Nothing
      | false ↦ elim (eqb b 69) [
        | true ↦ fields field.TypeRef field.Rest
        | false ↦ elim (eqb b 48) [
          | true ↦ fields field.TypeRef field.Nothing
          | false ↦ elim (eqb b 49) [ true ↦ fields field.TermRef field.Nothing | false ↦ start_list b ]
        ]
      ]
    ]

-- in the body of a record, by the two bytes of its mark; where no field is a reference the body is plain
unfoldable pub walk_start : ℕ → ℕ → Walk
walk_start a b =
    elim (eqb a 84) [
      | true ↦ start_type b
      | false ↦ elim (eqb a 88) [
        | true ↦ start_term b
        | false ↦ elim (eqb a 85) [
          | true ↦ fields field.NamedType field.TypeRef
          | false ↦ elim (eqb a 73) [ true ↦ fields field.TermRef field.Nothing | false ↦ fields field.Rest field.Nothing ]
        ]
      ]
    ]

-- the segments of a body under a mark
unfoldable pub segments : Bytes → Bytes → List Segment
segments mark body = remaining (walk_start (get_or mark 0 0) (get_or mark 1 0)) body
