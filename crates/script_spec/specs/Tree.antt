-- Types, functions and terms as trees: what the records of a term file name. Equality is document 01's, the same mark and equal fields,
-- lists compared item by item, references by what they name; but sets are equal that have the same element type and equal elements,
-- whatever their listing, and so are terms built over them.
-- Assumes nothing.
use Rattle.std.specs.Prelude.{ℕ, zero, suc, max, Bool, true, false, ◌&&◌, List, [], ◌∷◌}
use Rattle.std.proofs.Math.Decide.{ℕ_discrete}
use Rattle.std.proofs.Math.Bool.{Bool-discrete}
use Rattle.std.proofs.Math.Option.{Option, none, some}
use Rattle.script_spec.specs.Base.{Bytes, is_yes, list_dec, and_then, place, same, any, all}

-- ---- trees

-- a mark with its plain fields, and the children in order (a type of their own, since antt has no nested recursion)
mutual
  pub data Tree (A : Type 0) : Type 0 where
    node : A → Forest A → Tree A
    deriving Discrete as Tree-discrete

  pub data Forest (A : Type 0) : Type 0 where
    nil : Forest A
    cons : Tree A → Forest A → Forest A

module _ {A : Type 0} where
  -- children as a list
  unfoldable pub trees : Forest A → List (Tree A)
  trees nil = []
  trees (cons t ts) = t ∷ trees ts

  -- a list as children
  unfoldable pub forest : List (Tree A) → Forest A
  forest [] = nil
  forest (t ∷ ts) = cons t (forest ts)

  -- a type's or a term's mark
  unfoldable pub mark : Tree A → A
  mark (node a ts) = a

  -- a type's parts or a term's children, in order
  unfoldable pub children : Tree A → List (Tree A)
  children (node a ts) = trees ts

  -- the depth of a type over its parts or of a term over its children; a leaf has 1
  unfoldable mutual
    pub depth : Tree A → ℕ
    depth (node a ts) = suc (depths ts)

    pub depths : Forest A → ℕ
    depths nil = zero
    depths (cons t ts) = max (depth t) (depths ts)

-- ---- types

-- the extension types, in the order of their codes in `TX`
pub data ExtType : Type 0 where
  IPAddr Decimal Datetime Duration : ExtType
  deriving Discrete as ExtType-discrete

-- the types that a script declares: an entity type by its name, an extension type, a record type by its attributes
pub data Datatype : Type 0 where
  entity : Bytes → Datatype
  extension : ExtType → Datatype
  record_of : List Bytes → Datatype
  deriving Discrete as Datatype-discrete

-- a type's mark (TB, TS, TO, TC, TV; TE, TX and TR) and plain fields; the parts of an option, a set or a record are its children
pub data TypeMark : Type 0 where
  Bool· String· Option· Set· : TypeMark
  BitVec· : ℕ → TypeMark
  Declared : Datatype → TypeMark
  deriving Discrete as TypeMark-discrete

-- a type
abbrev pub Ty : Type 0
Ty = Tree TypeMark

-- the entity, extension or record type that a mark stands for
unfoldable pub datatype_mark : TypeMark → Option Datatype
datatype_mark Bool· = none
datatype_mark String· = none
datatype_mark Option· = none
datatype_mark Set· = none
datatype_mark (BitVec· n) = none
datatype_mark (Declared d) = some d

-- the entity, extension or record type that a type is
unfoldable pub datatype : Ty → Option Datatype
datatype (node m ts) = datatype_mark m

-- the name of an entity type
unfoldable pub name_of_entity : Datatype → Option Bytes
name_of_entity (entity name) = some name
name_of_entity (extension x) = none
name_of_entity (record_of names) = none

-- the name of a type that is an entity type
unfoldable pub entity_name : Ty → Option Bytes
entity_name ty = and_then (datatype ty) name_of_entity

-- the attributes of a record type
unfoldable pub attributes_of : Datatype → Option (List Bytes)
attributes_of (entity name) = none
attributes_of (extension x) = none
attributes_of (record_of names) = some names

-- the attributes of a type that is a record type
unfoldable pub attributes : Ty → Option (List Bytes)
attributes ty = and_then (datatype ty) attributes_of

-- the place of an attribute in a record type
unfoldable pub attribute : Bytes → Ty → Option ℕ
attribute a ty = and_then (attributes ty) (place (same a))

-- the enums of a file: the members of each name that has an `EN`
abbrev pub Enums : Type 0
Enums = Bytes → Option (List Bytes)

-- the members of an entity type that is an enum
unfoldable pub enum_of : Enums → Ty → Option (List Bytes)
enum_of e ty = and_then (entity_name ty) e

-- ---- functions and operators

-- an uninterpreted function: id, argument type, result type
pub data Fun : Type 0 where
  uuf : Bytes → Ty → Ty → Fun
  deriving Discrete as Fun-discrete

-- the extension operators, in the order of `ExtOp`
pub data ExtOp : Type 0 where
  DatetimeOfBitVec DatetimeVal DecimalVal DurationOfBitVec DurationVal : ExtOp
  IpaddrAddrV4 IpaddrAddrV6 IpaddrIsV4 IpaddrPrefixV4 IpaddrPrefixV6 : ExtOp
  deriving Discrete as ExtOp-discrete

-- the operators that have no operand, in the order of `Op`
pub data PlainOp : Type 0 where
  And Bvadd Bvlshr Bvmul Bvneg Bvnego Bvsaddo Bvsdiv Bvshl Bvsle Bvslt : PlainOp
  Bvsmod Bvsmulo Bvsrem Bvssubo Bvsub Bvudiv Bvule Bvult Bvurem Eq : PlainOp
  Ite Not OptionGet Or SetInter SetMember SetSubset : PlainOp
  deriving Discrete as PlainOp-discrete

-- an operator with its operand; F is what names a function
pub data Op (F : Type 0) : Type 0 where
  Plain : PlainOp → Op F
  Ext : ExtOp → Op F
  RecordGet : Bytes → Op F
  StringLike : List ℕ → Op F
  Uuf : F → Op F
  ZeroExtend : ℕ → Op F
  deriving Discrete as Op-discrete

-- the element of a pattern that stands for any text
unfoldable pub wildcard : ℕ
wildcard = 4294967295

-- ---- terms

-- an extension value: an address with its prefix (255 for an absent one), or 64 bits in two's complement
pub data Value : Type 0 where
  V4 V6 : ℕ → ℕ → Value
  DecimalV DatetimeV DurationV : ℕ → Value
  deriving Discrete as Value-discrete

-- A term's mark (XV, XB, XN, XS, XE, XX, X0, X1, XC, XR, XA) and plain fields. The terms that it refers to are its children. R is
-- what names a type and F what names a function: numbers in a record as it is read, trees in a term.
pub data TermMark (R F : Type 0) : Type 0 where
  Var : Bytes → R → TermMark R F
  BoolLit : Bool → TermMark R F
  BitVecLit : ℕ → ℕ → TermMark R F
  StringLit : Bytes → TermMark R F
  Entity : R → Bytes → TermMark R F
  ExtLit : Value → TermMark R F
  None : R → TermMark R F
  Some : TermMark R F
  Set : R → TermMark R F
  Record : List Bytes → TermMark R F
  App : R → Op F → TermMark R F
  deriving Discrete as TermMark-discrete

-- a term's mark over trees
abbrev pub Mark : Type 0
Mark = TermMark Ty Fun

-- a term
abbrev pub Tm : Type 0
Tm = Tree Mark

-- an extension value's type
unfoldable pub ext_type_of : Value → ExtType
ext_type_of (V4 a p) = IPAddr
ext_type_of (V6 a p) = IPAddr
ext_type_of (DecimalV n) = Decimal
ext_type_of (DatetimeV n) = Datetime
ext_type_of (DurationV n) = Duration

-- the type of a term with this mark, whose children have the types `parts`
unfoldable pub type_from : Mark → Forest TypeMark → Ty
type_from (Var id ty) parts = ty
type_from (BoolLit b) parts = node Bool· nil
type_from (BitVecLit n v) parts = node (BitVec· n) nil
type_from (StringLit s) parts = node String· nil
type_from (Entity ty id) parts = ty
type_from (ExtLit v) parts = node (Declared (extension (ext_type_of v))) nil
type_from (None ty) parts = node Option· (cons ty nil)
type_from Some parts = node Option· parts
type_from (Set ty) parts = node Set· (cons ty nil)
type_from (Record names) parts = node (Declared (record_of names)) parts
type_from (App ty op) parts = ty

-- a term's type
unfoldable mutual
  pub type_of : Tm → Ty
  type_of (node m ts) = type_from m (types_of ts)

  pub types_of : Forest Mark → Forest TypeMark
  types_of nil = nil
  types_of (cons t ts) = cons (type_of t) (types_of ts)

-- ---- equality

-- whether two texts are equal
unfoldable pub bytes_dec : Discrete Bytes
bytes_dec = list_dec ℕ_discrete

-- whether two types are equal: the same mark and fields, equal parts
unfoldable pub ty_dec : Discrete Ty
ty_dec = Tree-discrete (TypeMark-discrete ℕ_discrete (Datatype-discrete bytes_dec ExtType-discrete (list_dec bytes_dec)))

-- whether two functions are equal
unfoldable pub fun_dec : Discrete Fun
fun_dec = Fun-discrete bytes_dec ty_dec

-- whether two terms' marks and plain fields are equal
unfoldable pub mark_dec : Discrete Mark
mark_dec =
    TermMark-discrete bytes_dec ty_dec Bool-discrete ℕ_discrete (Value-discrete ℕ_discrete) (list_dec bytes_dec)
    (Op-discrete PlainOp-discrete ExtOp-discrete bytes_dec fun_dec ℕ_discrete)

-- equal types
unfoldable pub eq_ty : Ty → Ty → Bool
eq_ty a b = is_yes (ty_dec a b)

-- equal functions
unfoldable pub eq_fun : Fun → Fun → Bool
eq_fun a b = is_yes (fun_dec a b)

-- an `XC`
unfoldable pub is_set : {R F : Type 0} → TermMark R F → Bool
is_set (Var id ty) = false
is_set (BoolLit b) = false
is_set (BitVecLit n v) = false
is_set (StringLit s) = false
is_set (Entity ty id) = false
is_set (ExtLit v) = false
is_set (None ty) = false
is_set Some = false
is_set (Set ty) = true
is_set (Record names) = false
is_set (App ty op) = false

-- a list item by item: each passes its test, and there are as many items as tests
unfoldable pub itemwise : {A : Type 0} → List (A → Bool) → List A → Bool
itemwise [] [] = true
itemwise [] (x ∷ xs) = false
itemwise (p ∷ ps) [] = false
itemwise (p ∷ ps) (x ∷ xs) = p x && itemwise ps xs

-- a list in any order: each test is passed by an item, and each item passes a test
unfoldable pub any_order : {A : Type 0} → List (A → Bool) → List A → Bool
any_order ps xs = all (λ p. any p xs) ps && all (λ x. any (λ p. p x) ps) xs

-- equal terms: the same mark and fields, and equal children, one by one; those of a set in any order
unfoldable mutual
  pub eq_tm : Tm → Tm → Bool
  eq_tm (node m ts) u =
      is_yes (mark_dec m (mark u)) && elim (is_set m) [ true ↦ any_order (equals ts) (children u) | false ↦ itemwise (equals ts) (children u) ]

  -- for each term, whether another is equal to it
  pub equals : Forest Mark → List (Tm → Bool)
  equals nil = []
  equals (cons t ts) = (λ u. eq_tm t u) ∷ equals ts

-- ---- kinds of terms

-- A `Bvnego` with one argument and result Bool is written as a comparison over an argument of n bits and as `false` over any
-- other. Every other term is ordinary.
pub data Negation : Type 0 where
  ordinary falsehood : Negation
  comparison : ℕ → Negation

-- by the type of the one argument
unfoldable pub negation_over : TypeMark → Negation
negation_over Bool· = falsehood
negation_over String· = falsehood
negation_over Option· = falsehood
negation_over Set· = falsehood
negation_over (BitVec· n) = comparison n
negation_over (Declared d) = falsehood

-- by the types of the arguments
unfoldable pub negation_with : Forest TypeMark → Negation
negation_with nil = ordinary
negation_with (cons (node m ps) nil) = negation_over m
negation_with (cons ty (cons ty' tys)) = ordinary

-- what a term is as a `Bvnego`
unfoldable pub negation : Tm → Negation
negation (node m ts) = elim (is_yes (mark_dec m (App (node Bool· nil) (Plain Bvnego)))) [ true ↦ negation_with (types_of ts) | false ↦ ordinary ]

-- the `false` of a `Bvnego`
unfoldable pub is_falsehood : Tm → Bool
is_falsehood t = elim (negation t) [ ordinary ↦ false | falsehood ↦ true | comparison n ↦ false ]

-- an `XV`
unfoldable pub is_variable : Tm → Bool
is_variable (node (Var id ty) ts) = true
is_variable (node (BoolLit b) ts) = false
is_variable (node (BitVecLit n v) ts) = false
is_variable (node (StringLit s) ts) = false
is_variable (node (Entity ty id) ts) = false
is_variable (node (ExtLit v) ts) = false
is_variable (node (None ty) ts) = false
is_variable (node Some ts) = false
is_variable (node (Set ty) ts) = false
is_variable (node (Record names) ts) = false
is_variable (node (App ty op) ts) = false
