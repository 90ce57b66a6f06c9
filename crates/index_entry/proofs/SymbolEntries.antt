-- Each enum and each function is what its record has.
-- Assumes nothing.
use mathlib.Core.Path.{◌≡◌, refl, ap, ◌∙◌}
use mathlib.Core.List.{List, [], ◌∷◌}
use mathlib.Core.Option.{some}
use Prim.Native.Nat.{ℕ, zero, suc}
use denote.Ref.{Bor}
use lib.ListN.{drop}
use Rattle.script_spec.specs.Base.{Bytes, bytes, same, lookup, and_then}
use Rattle.script_spec.specs.Fields as fields
use Rattle.script_spec.specs.Fields.{Entry, got, Reader, pure, u32, text, list, times, ref, marks}
use Rattle.script_spec.proofs.Readers.{got_value}
use Rattle.index_compare.proofs.Standing.{entry_whole}
use Rattle.index.specs.Standing.{mark_at, body_at, entry_of, entry_at, loose}
use Rattle.index.specs.Lists.{number_at, first_text, texts}
use Rattle.check_rules.specs.Marks.{mark_of}
use Rattle.check_rules.proofs.Marks.{entry_mark}
use Rattle.index_entry.specs.Places.{texts_in, PastText}
use Rattle.index_entry.specs.Symbols.{EnumAt, FunAt}
use Rattle.index_entry.proofs.Inverse.{bind_inverse, tested_inverse, text_inverse, u32_inverse}

-- n texts
texts_inverse : (n : ℕ) (s : Bytes) {ms : List Bytes} {rest : Bytes} → times n text s ≡ got ms rest → texts 0 n s ≡ ms
unfolding times pure texts
texts_inverse zero s {ms} {rest} h = got_value [] ms s rest h
texts_inverse (suc n) s {ms} {rest} h =
    bind_inverse text _ s h (λ a mid e g. text_inverse s e (λ v d.
    bind_inverse (times n text) _ mid g (λ qs end i j.
    let more : texts 0 n mid ≡ qs = texts_inverse n mid i in
    (rw (v, d, more)) ∙ got_value (a ∷ qs) ms end rest j)))

-- the entry that a mark's reader has made of the record at an offset
read_as : (file : Bytes) (o : ℕ) (m : Bytes) (reader : Reader Entry) {e : Entry} → lookup m (marks loose) ≡ some reader → mark_of e ≡ m → entry_at file o ≡ some e → reader (body_at file o) ≡ got e []
unfolding entry_at entry_of and_then
read_as file o m reader {e} found is g =
    let mark : mark_at file o ≡ m = entry_mark (mark_at file o) (body_at file o) g ∙ is in
    entry_whole (reader (body_at file o)) e (rw (mark, found) at g)

pub enum_is : {file : Bytes} {o : ℕ} {body : Bor Bytes} → body.now ≡ body_at file o → {end : ℕ} (left from : ℕ) → PastText body.now 0 end → left ≡ number_at body.now end → drop from body.now ≡ drop 4 (drop end body.now)
    → EnumAt file o (record { body = body; from = from; left = left; skip = 0 })
unfolding mark_of marks lookup same bytes pure list number_at texts_in
enum_is {file} {o} {body} b {end} left from name members place = record {
  go = λ n ms g.
      bind_inverse text _ body.now (rw (← b) at (read_as file o (bytes "EN") _ refl refl g)) (λ a mid i j. text_inverse body.now i (λ v d.
      bind_inverse (list text) _ mid j (λ qs left' x y. bind_inverse u32 _ mid x (λ c after p q. u32_inverse mid p (λ count rest.
      let whole : fields.enum a qs ≡ fields.enum n ms = got_value (fields.enum a qs) (fields.enum n ms) left' [] y in
      let here : drop end body.now ≡ mid = name.rest ∙ d in
      let size : left ≡ c = members ∙ ap (λ (s : Bytes). number_at s 0) here ∙ count in
      let start : drop from body.now ≡ after = place ∙ ap (λ (s : Bytes). drop 4 s) here ∙ rest in
      let listed : qs ≡ ms = cc in
      record { members_are = rw (size, start) (texts_inverse c after q ∙ listed); within = b; dense = refl })))));
}

pub fun_is : {file : Bytes} {o : ℕ} (body : Bor Bytes) → body.now ≡ body_at file o → (next : ℕ) {end argument result : ℕ} → PastText body.now 0 end → argument ≡ number_at body.now end
    → drop next body.now ≡ drop 4 (drop end body.now) → result ≡ number_at body.now next → FunAt file o (record { argument = argument; result = result })
unfolding mark_of marks lookup same bytes pure ref number_at
fun_is {file} {o} body b next {end} {argument} {result} id first place second = record {
  go = λ n x' y' g.
      bind_inverse text _ body.now (rw (← b) at (read_as file o (bytes "UF") _ refl refl g)) (λ t mid i j. text_inverse body.now i (λ v d.
      bind_inverse (ref loose.types) _ mid j (λ x left p q. tested_inverse 8 _ mid p (λ one rest.
      bind_inverse (ref loose.types) _ left q (λ y last z w. tested_inverse 8 _ left z (λ two rest'.
      let whole : fields.func t x y ≡ fields.func n x' y' = got_value (fields.func t x y) (fields.func n x' y') last [] w in
      let here : drop end body.now ≡ mid = id.rest ∙ d in
      let there : drop next body.now ≡ left = place ∙ ap (λ (s : Bytes). drop 4 s) here ∙ rest in
      let argument-is : x ≡ x' = cc in
      let result-is : y ≡ y' = cc in
      record {
        argument_is = first ∙ ap (λ (s : Bytes). number_at s 0) here ∙ one ∙ argument-is;
        result_is = second ∙ ap (λ (s : Bytes). number_at s 0) there ∙ two ∙ result-is;
      }))))));
}

-- the id of a function is the text that its body begins with
pub fun_id : (file : Bytes) (o : ℕ) {id : Bytes} {a b : ℕ} → entry_at file o ≡ some (fields.func id a b) → first_text (body_at file o) ≡ id
unfolding mark_of marks lookup same bytes pure
fun_id file o {id} {a} {b} g =
    bind_inverse text _ (body_at file o) (read_as file o (bytes "UF") _ refl refl g) (λ t mid i j. text_inverse (body_at file o) i (λ v d.
    bind_inverse (ref loose.types) _ mid j (λ x left p q. bind_inverse (ref loose.types) _ left q (λ y end z w.
    let whole : fields.func t x y ≡ fields.func id a b = got_value (fields.func t x y) (fields.func id a b) end [] w in
    let named : t ≡ id = cc in
    v ∙ named))))
