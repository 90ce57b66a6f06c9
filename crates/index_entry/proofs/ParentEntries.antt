-- Each term that refers to terms is what its record has under its mark.
-- Assumes nothing.
use mathlib.Core.Path.{◌≡◌, refl, ap, ◌∙◌}
use mathlib.Core.Bool.{true, false}
use mathlib.Core.List.{List, [], ◌∷◌}
use mathlib.Core.Option.{some}
use Prim.Native.Nat.{ℕ, zero, suc, ◌^◌}
use lib.ListN.{drop}
use Rattle.script_spec.specs.Base.{Bytes, bytes, same, lookup, firsts, seconds}
use Rattle.script_spec.specs.Tree as tree
use Rattle.script_spec.specs.Fields.{Entry, term, got, Reader, ◌>>=◌, pure, u32, text, list, times, ref, pair, operator, marks}
use Rattle.script_spec.proofs.Readers.{got_value, got_rest}
use Rattle.index.specs.Standing.{loose}
use denote.Ref.{Bor}
use Rattle.std.specs.Prelude.{Result, Ok, Err}
use Rattle.refusal.specs.declared.Refusal.{Refusal}
use Rattle.read_field.specs.declared.Cursor.{Cursor}
use Rattle.read_field.specs.Reads.{as_read}
use Rattle.read_operator.specs.Operators.{op_of, op_read}
use Rattle.read_operator.specs.declared.Op.{Op}
use Rattle.index.specs.Lists.{number_at}
use Rattle.index_entry.specs.Places.{named_items}
use Rattle.index_entry.proofs.Inverse.{bind_inverse, tested_inverse, u32_inverse, named_inverse}
use Rattle.read_operator.specs.Again.{Gives, TakesAgain}
use Rattle.index_entry.specs.Terms.{references, children_in, names_in, term_said, IsTerm}
use Rattle.index_entry.specs.Children.{ListedAt}
use Rattle.index_entry.specs.declared.terms.Children.{Children}
use Rattle.index_entry.specs.declared.terms.TermEntry.TheVariants as entry
use Rattle.index_entry.proofs.ChildLaws.{unnamed, named}
use Rattle.index_entry.proofs.LeafEntries.{is_term_lem}

-- ---- lists

references_inverse : (count n : ℕ) (s : Bytes) {rs : List ℕ} {rest : Bytes} → times n (ref count) s ≡ got rs rest → references n s ≡ rs
unfolding times ref pure references
references_inverse count zero s {rs} {rest} h = got_value [] rs s rest h
references_inverse count (suc n) s {rs} {rest} h =
    bind_inverse (ref count) _ s h (λ a mid e g. tested_inverse 8 _ s e (λ v d.
    bind_inverse (times n (ref count)) _ mid g (λ qs end i j.
    let more : references n mid ≡ qs = references_inverse count n mid i in
    (rw (v, d, more)) ∙ got_value (a ∷ qs) rs end rest j)))

-- a count and its references
listed_inverse : {P : Type 0} (count : ℕ) (s : Bytes) {rs : List ℕ} {rest : Bytes} → list (ref count) s ≡ got rs rest → (references (number_at s 0) (drop 4 s) ≡ rs → P) → P
unfolding list
listed_inverse count s h next =
    bind_inverse u32 _ s h (λ n mid e g. u32_inverse s e (λ v d.
    next ((rw (v, d)) ∙ references_inverse count n mid g)))

-- the reader of an application, whatever it refers to
abbrev pub app_reader : Reader Entry
app_reader = do t ← ref (2 ^ 32); o ← operator (2 ^ 32); ts ← list (ref (2 ^ 32)); pure (term (tree.App t o) ts)

-- what the reader of an application has read: its type, its operator and its arguments
pub app_parts : (body : Bytes) {P : Type 0} {e : Entry} → app_reader body ≡ got e []
    → ((x : ℕ) (y : tree.Op ℕ) (end : Bytes) (rs : List ℕ) → number_at body 0 ≡ x → operator (2 ^ 32) (drop 4 body) ≡ got y end → references (number_at end 0) (drop 4 end) ≡ rs → term (tree.App x y) rs ≡ e → P) → P
unfolding ref pure
app_parts body {e = e} h next =
    bind_inverse (ref (2 ^ 32)) _ body h (λ x mid p q. tested_inverse 8 _ body p (λ v d.
    bind_inverse (operator (2 ^ 32)) _ mid q (λ y end i j.
    bind_inverse (list (ref (2 ^ 32))) _ end j (λ rs last k l. listed_inverse (2 ^ 32) end k (λ f.
    next x y end rs v (ap (operator (2 ^ 32)) d ∙ i) f (got_value (term (tree.App x y) rs) e last [] l))))))

module _ {body : Bytes} where
  pub term_some : {n : ℕ} → n ≡ number_at body 0 → IsTerm (some (bytes "X1")) body (entry.Some n)
  unfolding marks lookup same bytes term_said ref pure
  term_some {n} number-is =
      is_term_lem (bytes "X1") _ _ refl (λ e h.
      bind_inverse (ref loose.terms) _ body h (λ x mid p q. tested_inverse 8 _ body p (λ v d.
      ap (λ (t : ℕ). some (term tree.Some (t ∷ []))) (number-is ∙ v) ∙ ap some (got_value (term tree.Some (x ∷ [])) e mid [] q))))

  pub term_set : {n : ℕ} {c : Children} → n ≡ number_at body 0 → ListedAt body 4 false c → IsTerm (some (bytes "XC")) body (entry.Set n c)
  unfolding marks lookup same bytes term_said ref pure number_at
  term_set {n} {c} number-is L =
      is_term_lem (bytes "XC") _ _ refl (λ e h.
      bind_inverse (ref loose.types) _ body h (λ x mid p q. tested_inverse 8 _ body p (λ v d.
      bind_inverse (list (ref loose.terms)) _ mid q (λ rs end i j. listed_inverse loose.terms mid i (λ r.
      let typed : n ≡ x = number-is ∙ v in
      let size : c.left ≡ number_at mid 0 = L.count ∙ ap (λ (s : Bytes). number_at s 0) d in
      let start : drop c.from c.body.now ≡ drop 4 mid = (rw L.within) ∙ L.place ∙ ap (λ (s : Bytes). drop 4 s) d in
      let all : children_in c ≡ rs = unnamed c L.bare ∙ (λ i. references (size i) (start i)) ∙ r in
      (λ i. some (term (tree.Set (typed i)) (all i))) ∙ ap some (got_value (term (tree.Set x) rs) e end [] j))))))

  pub term_record : {c : Children} → ListedAt body 0 true c → IsTerm (some (bytes "XR")) body (entry.Record c)
  unfolding marks lookup same bytes term_said names_in ref pure list
  term_record {c} L =
      is_term_lem (bytes "XR") _ _ refl (λ e h.
      bind_inverse (list (pair text (ref loose.terms))) _ body h (λ ps end i j.
      bind_inverse u32 _ body i (λ m mid a b. u32_inverse body a (λ v d.
      let size : c.left ≡ m = L.count ∙ v in
      let start : drop c.from c.body.now ≡ mid = (rw L.within) ∙ L.place ∙ d in
      let all : named_items c.left (drop c.from c.body.now) ≡ ps = (λ i. named_items (size i) (start i)) ∙ named_inverse loose.terms m mid b in
      let values : children_in c ≡ seconds ps = named c L.bare ∙ ap seconds all in
      (λ i. some (term (tree.Record (firsts (all i))) (values i))) ∙ ap some (got_value (term (tree.Record (firsts ps)) (seconds ps)) e end [] j)))))

  -- ---- applications

  -- children in a list, by what is left where it begins
  pub listed_children : {to : ℕ} {c : Children} {end : Bytes} {rs : List ℕ} → ListedAt body to false c → drop to body ≡ end → references (number_at end 0) (drop 4 end) ≡ rs → children_in c ≡ rs
  unfolding number_at
  listed_children {c = c} {end} L here listed =
      let size : c.left ≡ number_at end 0 = L.count ∙ ap (λ (s : Bytes). number_at s 0) here in
      let start : drop c.from c.body.now ≡ drop 4 end = (rw L.within) ∙ L.place ∙ ap (λ (s : Bytes). drop 4 s) here in
      unnamed c L.bare ∙ (λ i. references (size i) (start i)) ∙ listed

  -- the operator as it is read again
  module _ {b : Bor Bytes} (r : Result (Op × Cursor) Refusal) (inside : b.now ≡ body) (T : TakesAgain (operator (2 ^ 32)) (record { body = b; at = 4 }) (op_read r)) where
    again : {x : Result (Op × Cursor) Refusal} → r ≡ x → (y : tree.Op ℕ) (end : Bytes) → operator (2 ^ 32) (drop 4 body) ≡ got y end → Gives (record { body = b; at = 4 }) y end (op_read x)
    again e y end g = rw e at (T.go y end (rw inside g))

    pub term_app : {n : ℕ} {o : Op} {d : Cursor} {c : Children} → r ≡ Ok (o, d) → n ≡ number_at body 0 → ListedAt body d.at false c → IsTerm (some (bytes "XA")) body (entry.App n o c)
    unfolding marks lookup same bytes term_said as_read loose
    term_app {n} {o} {d} {c} e number-is L =
        is_term_lem (bytes "XA") _ _ refl (λ e' h. app_parts body h (λ x y end rs v op listed whole.
        let read : got (op_of o) (drop d.at body) ≡ got y end = rw inside at (again e y end op) in
        let op-is : op_of o ≡ y = got_value (op_of o) y (drop d.at body) end read in
        let typed : n ≡ x = number-is ∙ v in
        let all : children_in c ≡ rs = listed_children L (got_rest (op_of o) y (drop d.at body) end read) listed in
        (λ i. some (term (tree.App (typed i) (op-is i)) (all i))) ∙ ap some whole))

    pub no_app : {f : Refusal} → r ≡ Err f → IsTerm (some (bytes "XA")) body entry.Unreadable
    unfolding marks lookup same bytes as_read loose
    no_app {f} e = is_term_lem (bytes "XA") _ _ refl (λ e' h. app_parts body h (λ x y end rs v op listed whole. absurd (again e y end op)))
