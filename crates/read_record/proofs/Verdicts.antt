-- What a body's fields make of it is what the reader of its mark makes of it, with a written type or without: by the table of marks, line by line.
-- Assumes nothing.
use mathlib.Core.Path.{◌≡◌, refl, sym, ap, ◌∙◌}
use Prim.Native.Nat.{ℕ, ◌-◌, ◌^◌}
use native.Mathlib.Omega.{arith}
use mathlib.Core.Bool.{Bool, true, false}
use mathlib.Core.List.{[], ◌∷◌, map}
use mathlib.Core.Option.{Option, none, some}
use denote.Ref.{Bor}
use lib.Dec.{ltb}
use lib.ListN.{length, drop, length-drop}
use Rattle.script_spec.specs.Base.{Bytes, bytes, same, lookup}
use Rattle.script_spec.specs.Tree.{IPAddr, Decimal, Datetime, Duration}
use Rattle.script_spec.specs.Fields.{Read, got, bad, Reader, ◌>>=◌, pure, ensure, Entry, Typed, Earlier, marks, final_type, with_type, whole, text, ref, width, number, list, pair, value, operator, ext_type, entity_ref, coded}
use Rattle.std.specs.Prelude.{Ok, Err}
use Rattle.refusal.specs.declared.Refusal.{Refusal}
use Rattle.refusal.specs.declared.Refusal.TheVariants.{Misfit}
use Rattle.refusal.specs.Numbers.{number as number_of}
use Rattle.read_field.specs.Reads.{as_read, skim}
use Rattle.read_field.specs.declared.Cursor.{Cursor}
use Rattle.read_field.specs.Takes.{TakesTo, RefusesAt}
use Rattle.read_field.specs.Items.{list_reader}
use Rattle.read_field.proofs.Skims.{skim_bind, skim_map, skim_pure}
use Rattle.read_record.specs.Marks.{mark, reader_of}
use Rattle.read_record.specs.Fields.{fields_of, final_field, entity, value_below, bit_vec_field, field_reader, three, body_reader, typed_reader}
use Rattle.read_record.specs.Bodies.{verdict_as, valueless, read_by, body_read, all_read}
use Rattle.read_record.specs.declared.fields.Field.{Field}
use Rattle.read_record.specs.declared.fields.Fields.{Fields}
use Rattle.read_record.specs.declared.mark.Kind.{Kind}
use Rattle.read_record.specs.declared.mark.Kind.TheVariants as kind
use Rattle.read_record.proofs.Bodies.{three_one, before, one_field, two_fields, three_fields, skim_coded}

-- a whole body, by a reader whose value is not kept
ended_skim : (x : Read Typed) (s : Bytes) → valueless (whole x) ≡ all_read (skim (λ _. x) s)
unfolding valueless whole all_read skim ◌>>=◌ pure
ended_skim (got a []) s = refl
ended_skim (got a (b ∷ rest)) s = refl
ended_skim (bad n) s = refl

module _ (e : Earlier) where
  -- the final field
  final_skim : {A : Type 0} (b : Bool) (f : Option ℕ → A) (s : Bytes)
      → skim (◌>>=◌ (final_type e b) (λ t. pure (f t))) s ≡ field_reader e.is_entity (final_field e.types b) s
  unfolding final_type final_field field_reader
  final_skim true f s = skim_map (final_type e true) f s ∙ skim_map (ref e.types) some s
  final_skim false f s = skim_map (final_type e false) f s ∙ skim_pure none s

  -- a whole body, by what its fields are and its final field
  ended_reader : (b : Bool) (r : Reader Entry) (q : Reader (Unit {0})) → ((s : Bytes) → skim r s ≡ q s)
      → (s : Bytes) → valueless (whole (with_type e b r s)) ≡ all_read (◌>>=◌ q (λ u. field_reader e.is_entity (final_field e.types b)) s)
  unfolding with_type skim ◌>>=◌
  ended_reader b r q h s = ended_skim (with_type e b r s) s ∙ ap all_read (before r q h _ _ (λ x t. final_skim b (λ ty. (x, ty)) t) s)

no_field : (a : Entry) (s : Bytes) → skim (pure a) s ≡ three (pure tt) (pure tt) (pure tt) s
unfolding skim three ◌>>=◌ pure
no_field a s = refl

-- the fields that are more than one field of the definitions
entity_skim : (e : Earlier) (s : Bytes) → skim (entity_ref e) s ≡ entity e.is_entity e.types s
unfolding entity_ref entity
entity_skim e s = skim_bind (ref e.types) _ (λ n. skim (ensure 8 (e.is_entity n) n)) (λ n t. refl) s

bit_vec_skim : {A : Type 0} (f : ℕ → ℕ → A) (s : Bytes)
    → skim (◌>>=◌ width (λ n. ◌>>=◌ (number 16) (λ v. ◌>>=◌ (ensure 7 (ltb v (2 ^ n)) v) (λ w. pure (f n w))))) s ≡ bit_vec_field s
unfolding bit_vec_field value_below
bit_vec_skim f s = skim_bind width _ value_below (λ n t. skim_bind (number 16) _ (λ v. skim (ensure 7 (ltb v (2 ^ n)) v)) (λ v u. skim_map (ensure 7 (ltb v (2 ^ n)) v) (f n) u) t) s

-- the fields of a mark read what the definitions read
pub verdict_fields : (e : Earlier) (b : Bool) (k : Kind) (s : Bytes)
    → body_read e b k s ≡ all_read (typed_reader e.is_entity (fields_of e.types e.funs e.terms k) (final_field e.types b) s)
unfolding body_read read_by reader_of mark marks lookup same bytes typed_reader body_reader field_reader list_reader ext_type
verdict_fields e b kind.TB s = ended_reader e b _ _ (no_field _) s
verdict_fields e b kind.TS s = ended_reader e b _ _ (no_field _) s
verdict_fields e b kind.TV s = ended_reader e b _ _ (one_field width _ (λ t. refl) _) s
verdict_fields e b kind.TO s = ended_reader e b _ _ (one_field (ref e.types) _ (λ t. refl) _) s
verdict_fields e b kind.TC s = ended_reader e b _ _ (one_field (ref e.types) _ (λ t. refl) _) s
verdict_fields e b kind.TE s = ended_reader e b _ _ (one_field text _ (λ t. refl) _) s
verdict_fields e b kind.TX s = ended_reader e b _ _ (one_field (coded (map pure (IPAddr ∷ Decimal ∷ Datetime ∷ Duration ∷ []))) _ (skim_coded (IPAddr ∷ Decimal ∷ Datetime ∷ Duration ∷ [])) _) s
verdict_fields e b kind.TR s = ended_reader e b _ _ (one_field (list (pair text (ref e.types))) _ (λ t. refl) _) s
verdict_fields e b kind.EN s = ended_reader e b _ _ (two_fields text _ (λ t. refl) (list (text)) _ (λ t. refl) _) s
verdict_fields e b kind.UF s = ended_reader e b _ _ (three_fields text _ (λ t. refl) (ref e.types) _ (λ t. refl) (ref e.types) _ (λ t. refl) _) s
verdict_fields e b kind.XV s = ended_reader e b _ _ (two_fields text _ (λ t. refl) (ref e.types) _ (λ t. refl) _) s
verdict_fields e b kind.XB s = ended_reader e b _ _ (one_field (coded (map pure (false ∷ true ∷ []))) _ (skim_coded (false ∷ true ∷ [])) _) s
verdict_fields e b kind.XN s = ended_reader e b _ _ (λ t. bit_vec_skim _ t ∙ sym (three_one bit_vec_field t)) s
verdict_fields e b kind.XS s = ended_reader e b _ _ (one_field text _ (λ t. refl) _) s
verdict_fields e b kind.XE s = ended_reader e b _ _ (two_fields (entity_ref e) _ (entity_skim e) text _ (λ t. refl) _) s
verdict_fields e b kind.XX s = ended_reader e b _ _ (one_field value _ (λ t. refl) _) s
verdict_fields e b kind.X0 s = ended_reader e b _ _ (one_field (ref e.types) _ (λ t. refl) _) s
verdict_fields e b kind.X1 s = ended_reader e b _ _ (one_field (ref e.terms) _ (λ t. refl) _) s
verdict_fields e b kind.XC s = ended_reader e b _ _ (two_fields (ref e.types) _ (λ t. refl) (list (ref e.terms)) _ (λ t. refl) _) s
verdict_fields e b kind.XR s = ended_reader e b _ _ (one_field (list (pair text (ref e.terms))) _ (λ t. refl) _) s
verdict_fields e b kind.XA s = ended_reader e b _ _ (three_fields (ref e.types) _ (λ t. refl) (operator e.funs) _ (λ t. refl) (list (ref e.terms)) _ (λ t. refl) _) s
verdict_fields e b kind.IN s = ended_reader e b _ _ (one_field (ref e.terms) _ (λ t. refl) _) s

-- what a cursor at the start of a body takes decides
module _ (e : Earlier) (b : Bool) (k : Kind) {body : Bor Bytes} {c : Cursor} (starts : (c.body ≡ body) × (c.at ≡ 0))
    {fs : Fields} (f : fs ≡ fields_of e.types e.funs e.terms k) {last : Field} (l : last ≡ final_field e.types b) where
  decided : {x y : Read (Unit {0})} → typed_reader e.is_entity fs last (drop c.at c.body.now) ≡ x → y ≡ all_read x → y ≡ body_read e b k body.now
  decided h g =
      let here : drop c.at c.body.now ≡ body.now = ap (λ (n : ℕ). drop n c.body.now) starts.1 ∙ ap (λ (w : Bor Bytes). w.now) starts.0 in
      g ∙ ap all_read (sym h ∙ ap (typed_reader e.is_entity fs last) here) ∙ rw (f, l) (sym (verdict_fields e b k body.now))

  pub decided_err : {r : Refusal} → RefusesAt (typed_reader e.is_entity fs last) c r → verdict_as (Err r) ≡ body_read e b k body.now
  unfolding verdict_as all_read as_read
  decided_err h = decided h.reads.is refl

  pub decided_ok : {d : Cursor} {y : Read (Unit {0})} → TakesTo (typed_reader e.is_entity fs last) c d tt → y ≡ all_read (got tt (drop d.at d.body.now)) → y ≡ body_read e b k body.now
  unfolding as_read
  decided_ok {d} h g = decided h.reads.is (g ∙ ap (λ (w : Bor Bytes). all_read (got tt (drop d.at w.now))) h.body)

-- ---- the end of a body

ended_none : (s : Bytes) → length s ≡ 0 → verdict_as (Ok tt) ≡ all_read (got tt s)
unfolding all_read verdict_as
ended_none [] h = refl
ended_none (b ∷ s) h = absurd (omega arith)

ended_some : (s : Bytes) → (length s ≡ 0 → ⊥) → verdict_as (Err Misfit) ≡ all_read (got tt s)
unfolding all_read verdict_as number_of
ended_some [] h = absurd (h refl)
ended_some (b ∷ s) h = refl

module _ (c : Cursor) {n : ℕ} (left : n ≡ length c.body.now - c.at) where
  pub ended_at : n ≡ 0 → verdict_as (Ok tt) ≡ all_read (got tt (drop c.at c.body.now))
  ended_at h = ended_none (drop c.at c.body.now) (length-drop c.at c.body.now ∙ sym left ∙ h)

  pub ended_before : (n ≡ 0 → ⊥) → verdict_as (Err Misfit) ≡ all_read (got tt (drop c.at c.body.now))
  ended_before h = ended_some (drop c.at c.body.now) (λ e. h (left ∙ sym (length-drop c.at c.body.now) ∙ e))
