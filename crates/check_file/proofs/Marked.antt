-- A record that has the mark of a kind is of that kind: by the first byte of its mark, T for a type, E an enum, U a function, X a term, I an input.
-- Assumes nothing.
use mathlib.Core.Path.{◌≡◌, refl, sym, ap, ◌∙◌}
use Prim.Native.Nat.{ℕ}
use native.Mathlib.Omega.{arith}
use mathlib.Core.List.{List, [], ◌∷◌}
use types.Run.{OneOf, miss}
use denote.Enum.Declared.{tag_of}
use lib.ListN.{get_or}
use Rattle.script_spec.specs.Base.{Bytes}
use Rattle.script_spec.specs.Tree.{TypeMark, Bool·, String·, Option·, Set·, BitVec·, Declared, entity, extension, record_of}
use Rattle.script_spec.specs.Tree.{TermMark, Var, BoolLit, BitVecLit, StringLit, Entity, ExtLit, None, Some, Set, Record, App}
use Rattle.script_spec.specs.Fields.{Entry, type, enum, func, term, input}
use Rattle.script_spec.proofs.Computes
use Rattle.read_record.specs.Marks.{mark}
use Rattle.read_record.specs.declared.mark.Kind.{Kind}
use Rattle.read_record.specs.declared.mark.Kind.TheVariants as kind
use Rattle.read_record.specs.contracts.mark.Kind.{the_type}
use Rattle.check_file.specs.Stepping.{TypeRecord, EnumRecord, FunRecord, TermRecord, InputRecord, HasMark}
use Rattle.check_rules.specs.Marks.{datatype_bytes, type_bytes, term_bytes, mark_of}

type_byte : (m : TypeMark) → get_or (type_bytes m) 0 0 ≡ 84
unfolding type_bytes datatype_bytes Computes.base
type_byte Bool· = refl
type_byte String· = refl
type_byte Option· = refl
type_byte Set· = refl
type_byte (BitVec· n) = refl
type_byte (Declared (entity n)) = refl
type_byte (Declared (extension x)) = refl
type_byte (Declared (record_of names)) = refl

term_byte : (m : TermMark ℕ ℕ) → get_or (term_bytes m) 0 0 ≡ 88
unfolding term_bytes Computes.base
term_byte (Var id n) = refl
term_byte (BoolLit b) = refl
term_byte (BitVecLit n v) = refl
term_byte (StringLit s) = refl
term_byte (Entity n id) = refl
term_byte (ExtLit v) = refl
term_byte (None n) = refl
term_byte Some = refl
term_byte (Set n) = refl
term_byte (Record names) = refl
term_byte (App n op) = refl

-- what the first byte of an entry's mark says of the entry
record OfByte (x : Entry) (byte : ℕ) : Type 0 where
  a_type : byte ≡ 84 → TypeRecord x
  an_enum : byte ≡ 69 → EnumRecord x
  a_func : byte ≡ 85 → FunRecord x
  a_term : byte ≡ 88 → TermRecord x
  an_input : byte ≡ 73 → InputRecord x

kind_of_entry : (x : Entry) → OfByte x (get_or (mark_of x) 0 0)
unfolding mark_of Computes.base
kind_of_entry (type m rs) =
    let b = type_byte m in
    record {
      a_type = λ e. (m, rs, refl);
      an_enum = λ e. absurd (omega arith);
      a_func = λ e. absurd (omega arith);
      a_term = λ e. absurd (omega arith);
      an_input = λ e. absurd (omega arith);
    }
kind_of_entry (enum name members) =
    record {
      a_type = λ e. absurd (omega arith);
      an_enum = λ e. (name, members, refl);
      a_func = λ e. absurd (omega arith);
      a_term = λ e. absurd (omega arith);
      an_input = λ e. absurd (omega arith);
    }
kind_of_entry (func id a r) =
    record {
      a_type = λ e. absurd (omega arith);
      an_enum = λ e. absurd (omega arith);
      a_func = λ e. (id, a, r, refl);
      a_term = λ e. absurd (omega arith);
      an_input = λ e. absurd (omega arith);
    }
kind_of_entry (term m rs) =
    let b = term_byte m in
    record {
      a_type = λ e. absurd (omega arith);
      an_enum = λ e. absurd (omega arith);
      a_func = λ e. absurd (omega arith);
      a_term = λ e. (m, rs, refl);
      an_input = λ e. absurd (omega arith);
    }
kind_of_entry (input n) =
    record {
      a_type = λ e. absurd (omega arith);
      an_enum = λ e. absurd (omega arith);
      a_func = λ e. absurd (omega arith);
      a_term = λ e. absurd (omega arith);
      an_input = λ e. (n, refl);
    }

-- ---- a record that has the mark of a kind

-- the places of the kinds of types, and of terms
abbrev type_tags : List ℕ
type_tags = 0 ∷ 1 ∷ 2 ∷ 3 ∷ 4 ∷ 5 ∷ 6 ∷ 7 ∷ []

abbrev term_tags : List ℕ
term_tags = 10 ∷ 11 ∷ 12 ∷ 13 ∷ 14 ∷ 15 ∷ 16 ∷ 17 ∷ 18 ∷ 19 ∷ 20 ∷ []

module _ (x : Entry) where
  -- the first byte of the mark
  byte_is : {s : Bytes} → s ≡ mark_of x → get_or (mark_of x) 0 0 ≡ get_or s 0 0
  byte_is e = ap (λ (m : Bytes). get_or m 0 0) (sym e)

  pub marked_type : (k : Kind) → OneOf type_tags (tag_of the_type k) → HasMark k x → TypeRecord x
  unfolding mark Computes.base
  marked_type kind.TB h e = (kind_of_entry x).a_type (byte_is e)
  marked_type kind.TS h e = (kind_of_entry x).a_type (byte_is e)
  marked_type kind.TV h e = (kind_of_entry x).a_type (byte_is e)
  marked_type kind.TO h e = (kind_of_entry x).a_type (byte_is e)
  marked_type kind.TC h e = (kind_of_entry x).a_type (byte_is e)
  marked_type kind.TE h e = (kind_of_entry x).a_type (byte_is e)
  marked_type kind.TX h e = (kind_of_entry x).a_type (byte_is e)
  marked_type kind.TR h e = (kind_of_entry x).a_type (byte_is e)
  marked_type kind.EN h e = absurd (miss type_tags 8 tt h)
  marked_type kind.UF h e = absurd (miss type_tags 9 tt h)
  marked_type kind.XV h e = absurd (miss type_tags 10 tt h)
  marked_type kind.XB h e = absurd (miss type_tags 11 tt h)
  marked_type kind.XN h e = absurd (miss type_tags 12 tt h)
  marked_type kind.XS h e = absurd (miss type_tags 13 tt h)
  marked_type kind.XE h e = absurd (miss type_tags 14 tt h)
  marked_type kind.XX h e = absurd (miss type_tags 15 tt h)
  marked_type kind.X0 h e = absurd (miss type_tags 16 tt h)
  marked_type kind.X1 h e = absurd (miss type_tags 17 tt h)
  marked_type kind.XC h e = absurd (miss type_tags 18 tt h)
  marked_type kind.XR h e = absurd (miss type_tags 19 tt h)
  marked_type kind.XA h e = absurd (miss type_tags 20 tt h)
  marked_type kind.IN h e = absurd (miss type_tags 21 tt h)

  pub marked_term : (k : Kind) → OneOf term_tags (tag_of the_type k) → HasMark k x → TermRecord x
  unfolding mark Computes.base
  marked_term kind.TB h e = absurd (miss term_tags 0 tt h)
  marked_term kind.TS h e = absurd (miss term_tags 1 tt h)
  marked_term kind.TV h e = absurd (miss term_tags 2 tt h)
  marked_term kind.TO h e = absurd (miss term_tags 3 tt h)
  marked_term kind.TC h e = absurd (miss term_tags 4 tt h)
  marked_term kind.TE h e = absurd (miss term_tags 5 tt h)
  marked_term kind.TX h e = absurd (miss term_tags 6 tt h)
  marked_term kind.TR h e = absurd (miss term_tags 7 tt h)
  marked_term kind.EN h e = absurd (miss term_tags 8 tt h)
  marked_term kind.UF h e = absurd (miss term_tags 9 tt h)
  marked_term kind.XV h e = (kind_of_entry x).a_term (byte_is e)
  marked_term kind.XB h e = (kind_of_entry x).a_term (byte_is e)
  marked_term kind.XN h e = (kind_of_entry x).a_term (byte_is e)
  marked_term kind.XS h e = (kind_of_entry x).a_term (byte_is e)
  marked_term kind.XE h e = (kind_of_entry x).a_term (byte_is e)
  marked_term kind.XX h e = (kind_of_entry x).a_term (byte_is e)
  marked_term kind.X0 h e = (kind_of_entry x).a_term (byte_is e)
  marked_term kind.X1 h e = (kind_of_entry x).a_term (byte_is e)
  marked_term kind.XC h e = (kind_of_entry x).a_term (byte_is e)
  marked_term kind.XR h e = (kind_of_entry x).a_term (byte_is e)
  marked_term kind.XA h e = (kind_of_entry x).a_term (byte_is e)
  marked_term kind.IN h e = absurd (miss term_tags 21 tt h)

  module _ {k : Kind} (e : HasMark k x) where
    pub marked_enum : k ≡ kind.EN → EnumRecord x
    unfolding mark Computes.base
    marked_enum q = (kind_of_entry x).an_enum (byte_is (ap mark (sym q) ∙ e))

    pub marked_fun : k ≡ kind.UF → FunRecord x
    unfolding mark Computes.base
    marked_fun q = (kind_of_entry x).a_func (byte_is (ap mark (sym q) ∙ e))

    pub marked_input : k ≡ kind.IN → InputRecord x
    unfolding mark Computes.base
    marked_input q = (kind_of_entry x).an_input (byte_is (ap mark (sym q) ∙ e))
