-- The fields that each mark's body has, and what each field reads.
-- Assumes nothing.
use Rattle.std.specs.Prelude.{ℕ, ◌^◌, Bool, true, false, List, [], ◌∷◌, ltb, Option, None, Some}
use Rattle.script_spec.specs.Tree.{Value, V4, V6, DecimalV, DatetimeV, DurationV}
use Rattle.script_spec.specs.Fields.{Reader, ◌>>=◌, pure, ensure, ref, text, width, number, address, prefix, value, operator}
use Rattle.read_field.specs.Reads.{skim, code}
use Rattle.read_field.specs.Items.{list_reader}
use Rattle.read_field.specs.declared.list.Item.TheVariants as item
use Rattle.read_record.specs.declared.mark.Kind.{Kind}
use Rattle.read_record.specs.declared.mark.Kind.TheVariants as kind
use Rattle.read_record.specs.declared.fields.Field.{Field}
use Rattle.read_record.specs.declared.fields.Field.TheVariants as field
use Rattle.read_record.specs.declared.fields.Fields.{Fields}

-- the fields of a body in their order
abbrev row : Field → Field → Field → Fields
row a b c = record { 0 = a; 1 = b; 2 = c }

-- the fields of each mark's body, after so many types, functions and terms
abbrev pub fields_of : ℕ → ℕ → ℕ → Kind → Fields
fields_of types funs terms kind.TB = row field.Nothing field.Nothing field.Nothing
fields_of types funs terms kind.TS = row field.Nothing field.Nothing field.Nothing
fields_of types funs terms kind.TV = row field.Width field.Nothing field.Nothing
fields_of types funs terms kind.TO = row (field.Reference types) field.Nothing field.Nothing
fields_of types funs terms kind.TC = row (field.Reference types) field.Nothing field.Nothing
fields_of types funs terms kind.TE = row field.Text field.Nothing field.Nothing
fields_of types funs terms kind.TX = row (field.Code 4) field.Nothing field.Nothing
fields_of types funs terms kind.TR = row (field.List (item.Named types)) field.Nothing field.Nothing
fields_of types funs terms kind.EN = row field.Text (field.List item.Text) field.Nothing
fields_of types funs terms kind.UF = row field.Text (field.Reference types) (field.Reference types)
fields_of types funs terms kind.XV = row field.Text (field.Reference types) field.Nothing
fields_of types funs terms kind.XB = row (field.Code 2) field.Nothing field.Nothing
fields_of types funs terms kind.XN = row field.Number field.Nothing field.Nothing
fields_of types funs terms kind.XS = row field.Text field.Nothing field.Nothing
fields_of types funs terms kind.XE = row (field.Entity types) field.Text field.Nothing
fields_of types funs terms kind.XX = row field.Value field.Nothing field.Nothing
fields_of types funs terms kind.X0 = row (field.Reference types) field.Nothing field.Nothing
fields_of types funs terms kind.X1 = row (field.Reference terms) field.Nothing field.Nothing
fields_of types funs terms kind.XC = row (field.Reference types) (field.List (item.Reference terms)) field.Nothing
fields_of types funs terms kind.XR = row (field.List (item.Named terms)) field.Nothing field.Nothing
fields_of types funs terms kind.XA = row (field.Reference types) (field.Operator funs) (field.List (item.Reference terms))
fields_of types funs terms kind.IN = row (field.Reference terms) field.Nothing field.Nothing

-- the same by the kind of a mark, and no fields where there is no kind
unfoldable pub fields_if : ℕ → ℕ → ℕ → Option Kind → Option Fields
fields_if types funs terms None = None
fields_if types funs terms (Some k) = Some (fields_of types funs terms k)

-- the field of the type that is written behind them, after so many types
unfoldable pub final_field : ℕ → Bool → Field
final_field types true = field.Reference types
final_field types false = field.Nothing

-- a reference to one of `count` types, which has to be an entity type
unfoldable pub entity : (ℕ → Bool) → ℕ → Reader (Unit {0})
entity is_entity count = do
  n ← ref count
  skim (ensure 8 (is_entity n) n)

-- a value below 2 ^ width
unfoldable pub value_below : ℕ → Reader (Unit {0})
value_below n = do
  v ← number 16
  skim (ensure 7 (ltb v (2 ^ n)) v)

-- a width and a value
unfoldable pub bit_vec_field : Reader (Unit {0})
bit_vec_field = do
  n ← width
  value_below n

-- the readers of extension values by their codes
unfoldable pub values : List (Reader Value)
values =
    (do a ← address 4; p ← prefix 32; pure (V4 a p))
    ∷ (do a ← address 16; p ← prefix 128; pure (V6 a p))
    ∷ (do n ← number 8; pure (DecimalV n))
    ∷ (do n ← number 8; pure (DatetimeV n))
    ∷ (do n ← number 8; pure (DurationV n))
    ∷ []

-- an address of so many bytes and its prefix
unfoldable pub addressed : ℕ → ℕ → Reader (Unit {0})
addressed size bound = do
  a ← address size
  skim (prefix bound)

-- what a field reads
unfoldable pub field_reader : (ℕ → Bool) → Field → Reader (Unit {0})
field_reader is_entity field.Nothing = pure tt
field_reader is_entity field.Text = skim text
field_reader is_entity field.Width = skim width
field_reader is_entity (field.Code n) = skim (code n)
field_reader is_entity (field.Reference n) = skim (ref n)
field_reader is_entity (field.Entity n) = entity is_entity n
field_reader is_entity field.Number = bit_vec_field
field_reader is_entity field.Value = skim value
field_reader is_entity (field.Operator n) = skim (operator n)
field_reader is_entity (field.List k) = list_reader k

-- three fields in their order
unfoldable pub three : Reader (Unit {0}) → Reader (Unit {0}) → Reader (Unit {0}) → Reader (Unit {0})
three a b c = ◌>>=◌ a (λ u. ◌>>=◌ b (λ v. c))

-- the fields of a body
unfoldable pub body_reader : (ℕ → Bool) → Fields → Reader (Unit {0})
body_reader is_entity fs = three (field_reader is_entity fs.0) (field_reader is_entity fs.1) (field_reader is_entity fs.2)

-- and the field that is written behind them
unfoldable pub typed_reader : (ℕ → Bool) → Fields → Field → Reader (Unit {0})
typed_reader is_entity fs last = ◌>>=◌ (body_reader is_entity fs) (λ u. field_reader is_entity last)
