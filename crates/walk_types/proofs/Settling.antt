-- Types that have nothing left to declare: by their marks, by the part of an option or a set, and by a name. The walk over such a type
-- changes nothing.
-- Assumes nothing.
use Prim.Native.Nat.{ℕ}
use mathlib.Core.Path.{◌≡◌, refl, sym, ap, ◌∙◌, subst}
use mathlib.Core.Logic.{◌⊎◌, inl, inr}
use mathlib.Core.Bool.{Bool, true, false}
use mathlib.Core.List.{List, [], ◌∷◌, map}
use mathlib.Core.Option.{none, some}
use lib.ListN.{get_or}
use Rattle.std.specs.Prelude as std
use Rattle.script_spec.specs.Base.{Bytes, bytes, any}
use Rattle.script_spec.specs.Tree.{Ty, TypeMark, Forest, Enums, node, nil, cons, forest, eq_ty, datatype, datatype_mark, Bool·, String·, BitVec·}
use Rattle.script_spec.specs.Fields.{type}
use Rattle.script_spec.specs.File.{members, type_at}
use Rattle.script_spec.specs.Walk.{State, went, declare_type, encode_type, encode_types}
use Rattle.script_spec.proofs.Laws.{never}
use Rattle.refusal.specs.Numbers.{option_of}
use Rattle.index.specs.Cells.{cell, type_offset, type_first, type_list}
use Rattle.index.specs.Meaning.{Under, itself, deeper}
use Rattle.index.specs.Standing.{mark_at, body_at, entry_at}
use Rattle.index.specs.declared.Records.{Records}
use Rattle.walk_names.specs.Naming.{type_names, name_at, place_of}
use Rattle.walk_names.proofs.Names.{known_type}
use Rattle.walk_names.proofs.Steps.{then_went}
use Rattle.index_entry.specs.Types.{type_said, IsType}
use Rattle.index_entry.proofs.Letters.{type_marked}
use Rattle.index_entry.proofs.Rows.{type_stands}
use Rattle.index_entry.proofs.TypeEntries.{under, type_bool, type_string, type_bitvec, type_option, type_set, type_at_lem}
use Rattle.index_entry.specs.declared.types.TypeEntry.{TypeEntry}
use Rattle.index_entry.specs.declared.types.TypeEntry.TheVariants as entry
use Rattle.walk_types.specs.declared.settled.SettledBy.{SettledBy}
use Rattle.walk_types.specs.declared.settled.SettledBy.TheVariants as by
use Rattle.walk_types.specs.Types.{type_walk, settled_said, SettlesBy, Settled}
use Rattle.walk_types.proofs.Declaring.{declares_none, type_left, type_new}

-- ---- what tells it

module _ (file : Bytes) (o : ℕ) {l : ℕ} (i : l ≡ get_or (mark_at file o) 1 0) where
  -- the mark of a type that is what the mark has for every body
  mark_is : (ty : TypeEntry) {m n : TypeMark} {rs ps : List ℕ} → type_said ty ≡ some (type n ps) → IsType (some (type_marked l)) (body_at file o) ty
      → entry_at file o ≡ some (type m rs) → (m ≡ n) × (rs ≡ ps)
  mark_is ty {m} {n} {rs} {ps} said T g = let x = (type_at_lem i refl T).go m rs g in (cc, cc)

  by_mark : (ty : TypeEntry) (n : TypeMark) → type_said ty ≡ some (type n []) → datatype_mark n ≡ none → IsType (some (type_marked l)) (body_at file o) ty → SettlesBy file o by.Mark
  unfolding settled_said
  by_mark ty n said plain T = record { go = λ m rs g. let e = mark_is ty said T g in (e.1, ap datatype_mark e.0 ∙ plain) }

  pub settles_mark : (l ≡ 66) ⊎ ((l ≡ 83) ⊎ (l ≡ 86)) → SettlesBy file o by.Mark
  unfolding type_said datatype_mark bytes
  settles_mark (inl h) = by_mark entry.Bool Bool· refl refl (under h type_bool)
  settles_mark (inr (inl h)) = by_mark entry.String String· refl refl (under h type_string)
  settles_mark (inr (inr h)) = by_mark (entry.BitVec _) (BitVec· _) refl refl (under h (type_bitvec refl))

  pub settles_part : (l ≡ 67) ⊎ (l ≡ 79) → SettlesBy file o by.Part
  unfolding type_said datatype_mark settled_said bytes
  settles_part (inl h) = record { go = λ m rs g. let e = mark_is (entry.Set _) refl (under h (type_set refl)) g in (_, e.1, ap datatype_mark e.0) }
  settles_part (inr h) = record { go = λ m rs g. let e = mark_is (entry.Option _) refl (under h (type_option refl)) g in (_, e.1, ap datatype_mark e.0) }

pub settles_name : {file : Bytes} {o : ℕ} → SettlesBy file o by.Name
unfolding settled_said
settles_name = record { go = λ m rs g. tt }

-- ---- the walk

-- a type that is no datatype and whose parts change nothing
parts_settled : (e : Enums) (m : TypeMark) (ts : Forest TypeMark) (t : Ty) (S : State) → node m ts ≡ t → datatype_mark m ≡ none → encode_types e ts S ≡ went S → encode_type e t S ≡ went S
unfolding datatype
parts_settled e m ts t S tree plain parts = go (any (eq_ty t) S.types) refl
  where
    go : (b : Bool) → any (eq_ty t) S.types ≡ b → encode_type e t S ≡ went S
    go true known = type_left e t S known
    go false new = sym (type_new e m ts t S tree new) ∙ then_went (encode_types e ts) (declare_type e t) S S parts ∙ declares_none e t S (sym (ap datatype tree) ∙ plain)

-- a part alone
part_settled : (e : Enums) (t : Ty) (S : State) → encode_type e t S ≡ went S → encode_types e (forest (t ∷ [])) S ≡ went S
unfolding encode_types forest
part_settled e t S h = then_went (encode_type e t) went S S h

-- a type that another is under
under_settled : (e : Enums) (S : State) {x y : Ty} → Under x y → encode_type e y S ≡ went S → encode_type e x S ≡ went S
unfolding forest
under_settled e S itself h = h
under_settled e S (deeper {m} {part} plain U) h =
    parts_settled e m (cons part nil) (node m (cons part nil)) S refl plain (part_settled e part S (under_settled e S U h))

module _ {records : Records} {t : ℕ} where
  pub settled_mark : {o : ℕ} {x : SettledBy} → o ≡ cell records.work.now records.sizes.rows type_offset t → x ≡ by.Mark → SettlesBy records.file.now o x → Settled records t true
  unfolding settled_said type_walk encode_types forest
  settled_mark {o} place told B = record {
    go = λ h f S I N l.
        type_stands (I.rows.type_row t l).stands (λ m rs reads below tree.
        let b = (subst (SettlesBy records.file.now o) told B).go m rs (rw place reads) in
        parts_settled (members f) m (forest (map (type_at f) rs)) (type_at f t) S tree b.1 (rw b.0));
  }

  -- an option or a set, where the type is settled that is noted as under all of them
  pub settled_part : {o n : ℕ} {x : SettledBy} {r : Bool} → o ≡ cell records.work.now records.sizes.rows type_offset t → x ≡ by.Part → SettlesBy records.file.now o x
      → n ≡ cell records.work.now records.sizes.rows type_list t → Settled records n r → Settled records t r
  unfolding settled_said type_walk forest
  settled_part {o} {n} place told B noted P = record {
    go = λ h f S I N l.
        type_stands (I.rows.type_row t l).stands (λ m rs reads below tree.
        let b = (subst (SettlesBy records.file.now o) told B).go m rs (rw place reads) in
        let is : node m (cons (type_at f b.0) nil) ≡ type_at f t = rw b.1 at tree in
        let under = rw (← noted) at ((I.noted t l).under_is m (type_at f b.0) (sym is) b.2) in
        parts_settled (members f) m (forest (type_at f b.0 ∷ [])) (type_at f t) S is b.2
        (part_settled (members f) (type_at f b.0) S (under_settled (members f) S under.1 (P.go h f S I N under.0))));
  }

  pub settled_name : (name : std.Option ℕ) {r : Bool} → option_of name ≡ place_of (name_at records.work.now records.sizes.rows type_first type_names t) → r ≡ std.is_some name → Settled records t r
  unfolding type_walk
  settled_name name e q = record { go = λ h f S I N l. type_left (members f) (type_at f t) S (known_type I.rows N t name l e ∙ sym q ∙ h) }

  pub unsettled : Settled records t false
  unsettled = record { go = λ h f S I N l. never cc }
