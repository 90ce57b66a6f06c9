-- Each type is what its record has under its mark; no other mark has types.
-- Assumes nothing.
use mathlib.Core.Path.{◌≡◌, refl, sym, ap, ◌∙◌, subst}
use mathlib.Core.List.{List, [], ◌∷◌, map}
use mathlib.Core.Bool.{true}
use mathlib.Core.Option.{some}
use denote.Ref.{Bor}
use Prim.Native.Nat.{ℕ, ◌≤◌}
use lib.ListN.{drop, get_or}
use Rattle.script_spec.specs.Base.{Bytes, bytes, at, same, lookup, and_then, firsts, seconds}
use Rattle.script_spec.specs.Tree as tree
use Rattle.script_spec.specs.Tree.{TypeMark, Bool·, String·, Option·, Set·, BitVec·, Declared, entity, extension, record_of}
use Rattle.script_spec.specs.Fields.{Entry, type, got, Reader, ◌>>=◌, pure, u32, text, list, times, ref, pair, width, ext_type, marks}
use Rattle.script_spec.proofs.Readers.{got_value}
use Rattle.index_compare.proofs.Standing.{entry_whole}
use Rattle.index.specs.Standing.{mark_at, body_at, entry_of, entry_at, loose}
use Rattle.read_field.proofs.Coded.{at_past}
use Rattle.check_rules.specs.Marks.{datatype_bytes, type_bytes}
use Rattle.index.specs.Lists.{number_at, first_text}
use Rattle.index_entry.specs.Places.{named_items}
use Rattle.index_entry.specs.Terms.{names_in}
use Rattle.index_entry.specs.Children.{ListedAt}
use Rattle.index_entry.specs.declared.terms.Children.{Children}
use Rattle.index_entry.proofs.ChildLaws.{named}
use Rattle.index_entry.specs.Types.{ext_type_said, type_said, stands_in, IsType, TypeAt}
use Rattle.index_entry.specs.declared.types.ExtType.{ExtType}
use Rattle.index_entry.specs.declared.types.TypeEntry.{TypeEntry}
use Rattle.index_entry.specs.declared.types.TypeEntry.TheVariants as entry
use Rattle.index_entry.proofs.Letters.{type_marked, type_marked_lem, type_letter_lem}
use Rattle.index_entry.proofs.Inverse.{bind_inverse, tested_inverse, text_inverse, u32_inverse, named_inverse, coded_at, coded_none}

-- the extension types by their codes
unfoldable pub ext_types : List (Reader tree.ExtType)
ext_types = map pure (tree.IPAddr ∷ tree.Decimal ∷ tree.Datetime ∷ tree.Duration ∷ [])

abbrev tx : Reader Entry
tx = ◌>>=◌ ext_type (λ x. pure (type (Declared (extension x)) []))

module _ {body : Bytes} where
  -- the type that the reader of a mark makes of the body
  is_type : (m : Bytes) (reader : Reader Entry) (r : TypeEntry) → stands_in body r → lookup m (marks loose) ≡ some reader
      → ((e : Entry) → reader body ≡ got e [] → type_said r ≡ some e) → IsType (some m) body r
  unfolding entry_of and_then
  is_type m reader r inside found h = record {
    go = λ m' t rs e g.
        let same : m ≡ m' = cc in
        h (type t rs) (entry_whole (reader body) (type t rs) (rw (← same, found) at g));
    within = inside;
  }

  -- the same mark
  pub under : {l l' : ℕ} {r : TypeEntry} → l ≡ l' → IsType (some (type_marked l')) body r → IsType (some (type_marked l)) body r
  under {r = r} e x = subst (λ (n : ℕ). IsType (some (type_marked n)) body r) (sym e) x

  -- a field and the entry of its value
  field_then_is : {A : Type 0} (reader : Reader A) (k : A → Entry) (a : A) {e : Entry}
      → ((b : A) (rest : Bytes) → reader body ≡ got b rest → a ≡ b) → ◌>>=◌ reader (λ x. pure (k x)) body ≡ got e [] → k a ≡ e
  unfolding pure
  field_then_is reader k a {e} is h = bind_inverse reader (λ x. pure (k x)) body h (λ b mid g q. ap k (is b mid g) ∙ got_value (k b) e mid [] q)

  pub type_bool : IsType (some (bytes "TB")) body entry.Bool
  unfolding marks lookup same bytes pure type_said stands_in
  type_bool = is_type (bytes "TB") (pure (type Bool· [])) entry.Bool tt refl (λ e h. ap some (got_value (type Bool· []) e body [] h))

  pub type_string : IsType (some (bytes "TS")) body entry.String
  unfolding marks lookup same bytes pure type_said stands_in
  type_string = is_type (bytes "TS") (pure (type String· [])) entry.String tt refl (λ e h. ap some (got_value (type String· []) e body [] h))

  pub type_bitvec : {n : ℕ} → n ≡ number_at body 0 → IsType (some (bytes "TV")) body (entry.BitVec n)
  unfolding marks lookup same bytes type_said width stands_in
  type_bitvec {n} i =
      is_type (bytes "TV") (◌>>=◌ width (λ n. pure (type (BitVec· n) []))) (entry.BitVec n) tt refl
      (λ e h. ap some (field_then_is width (λ n. type (BitVec· n) []) n (λ b rest g. tested_inverse 7 _ body g (λ v d. i ∙ v)) h))

  pub type_option : {n : ℕ} → n ≡ number_at body 0 → IsType (some (bytes "TO")) body (entry.Option n)
  unfolding marks lookup same bytes type_said ref stands_in
  type_option {n} i =
      is_type (bytes "TO") (◌>>=◌ (ref loose.types) (λ t. pure (type Option· (t ∷ [])))) (entry.Option n) tt refl
      (λ e h. ap some (field_then_is (ref loose.types) (λ t. type Option· (t ∷ [])) n (λ b rest g. tested_inverse 8 _ body g (λ v d. i ∙ v)) h))

  pub type_set : {n : ℕ} → n ≡ number_at body 0 → IsType (some (bytes "TC")) body (entry.Set n)
  unfolding marks lookup same bytes type_said ref stands_in
  type_set {n} i =
      is_type (bytes "TC") (◌>>=◌ (ref loose.types) (λ t. pure (type Set· (t ∷ [])))) (entry.Set n) tt refl
      (λ e h. ap some (field_then_is (ref loose.types) (λ t. type Set· (t ∷ [])) n (λ b rest g. tested_inverse 8 _ body g (λ v d. i ∙ v)) h))

  pub type_entity : {name : Bor Bytes} → name.now ≡ first_text body → IsType (some (bytes "TE")) body (entry.Entity name)
  unfolding marks lookup same bytes type_said stands_in
  type_entity {name} i =
      is_type (bytes "TE") (◌>>=◌ text (λ t. pure (type (Declared (entity t)) []))) (entry.Entity name) tt refl
      (λ e h. ap some (field_then_is text (λ t. type (Declared (entity t)) []) name.now (λ b rest g. text_inverse body g (λ v d. i ∙ v)) h))

  pub type_record : {c : Children} → ListedAt body 0 true c → IsType (some (bytes "TR")) body (entry.Record c)
  unfolding marks lookup same bytes type_said stands_in list names_in
  type_record {c} L =
      is_type (bytes "TR") (◌>>=◌ (list (pair text (ref loose.types))) (λ ps. pure (type (Declared (record_of (firsts ps))) (seconds ps)))) (entry.Record c) L.within refl
      (λ e h. (λ i. some (type (Declared (record_of (names_in c))) (named c L.bare i)))
      ∙ ap some (field_then_is (list (pair text (ref loose.types))) (λ ps. type (Declared (record_of (firsts ps))) (seconds ps)) (named_items c.left (drop c.from c.body.now))
      (λ ps rest g. bind_inverse u32 (λ m. times m (pair text (ref loose.types))) body g (λ m mid a b. u32_inverse body a (λ v d.
      (rw (L.within, L.count ∙ v, L.place, d)) ∙ named_inverse loose.types m mid b))) h))

  -- ---- extension types

  pub ext_known : {code : ℕ} (i : ℕ) (x : ExtType) → code ≡ get_or body 0 0 → code ≡ i → at i ext_types ≡ some (pure (ext_type_said x))
      → IsType (some (bytes "TX")) body (entry.Ext x)
  unfolding marks lookup same bytes type_said stands_in pure ext_type ext_types
  ext_known i x b e h =
      is_type (bytes "TX") tx (entry.Ext x) tt refl
      (λ y g. ap some (field_then_is ext_type (λ x. type (Declared (extension x)) []) (ext_type_said x)
      (λ z rest q. got_value (ext_type_said x) z (drop 1 body) rest (coded_at ext_types body q (sym e ∙ b) (pure (ext_type_said x)) h)) g))

  pub ext_unknown : {code : ℕ} → code ≡ get_or body 0 0 → 4 ≤ code → IsType (some (bytes "TX")) body entry.Unreadable
  unfolding marks lookup same bytes ext_type ext_types stands_in
  ext_unknown {code} b h =
      is_type (bytes "TX") tx entry.Unreadable tt refl
      (λ y g. bind_inverse ext_type _ body g (λ z rest q k. absurd (coded_none ext_types body q b (at_past ext_types code h))))

-- ---- marks that have no types

module _ {l : ℕ} (b : l ≡ 66 → ⊥) (s : l ≡ 83 → ⊥) (v : l ≡ 86 → ⊥) (o : l ≡ 79 → ⊥) (c : l ≡ 67 → ⊥) (e : l ≡ 69 → ⊥) (x : l ≡ 88 → ⊥) (r : l ≡ 82 → ⊥) where
  other_letter : (t : TypeMark) → l ≡ get_or (type_bytes t) 1 0 → ⊥
  unfolding type_bytes datatype_bytes bytes
  other_letter Bool· = b
  other_letter String· = s
  other_letter (BitVec· n) = v
  other_letter Option· = o
  other_letter Set· = c
  other_letter (Declared (entity n)) = e
  other_letter (Declared (extension y)) = x
  other_letter (Declared (record_of ns)) = r

  pub no_types : {body : Bytes} → IsType (some (type_marked l)) body entry.Unreadable
  unfolding stands_in
  no_types {body} = record {
    go = λ m t rs h g.
        let same : m ≡ type_marked l = cc in
        absurd (other_letter t (type_letter_lem body (rw same at g)));
    within = tt;
  }

-- ---- the record at an offset

pub type_at_lem : {file body : Bytes} {o l : ℕ} {r : TypeEntry} → l ≡ get_or (mark_at file o) 1 0 → body ≡ body_at file o → IsType (some (type_marked l)) body r → TypeAt file o r
unfolding entry_at
type_at_lem {file} {body} {o} {l} {r} i e T =
    let here : IsType (some (type_marked l)) (body_at file o) r = subst (λ (b : Bytes). IsType (some (type_marked l)) b r) e T in
    record { go = λ t rs g. here.go (mark_at file o) t rs (ap (λ (n : ℕ). some (type_marked n)) i ∙ ap some (type_marked_lem (mark_at file o) (body_at file o) g)) g; within = here.within }
