-- The children of each term are what its record has under its mark; most marks have none.
-- Assumes nothing.
use mathlib.Core.Path.{◌≡◌, refl, sym, ap, ◌∙◌, subst}
use mathlib.Core.Bool.{true, false}
use mathlib.Core.List.{List, [], ◌∷◌}
use denote.Ref.{Bor}
use mathlib.Core.Option.{Option, some, none-ne-some}
use Prim.Native.Nat.{ℕ, ◌^◌}
use lib.Dec.{ltb}
use lib.ListN.{get_or, drop}
use lib.Seq.{get_or-drop, drop-drop}
use Rattle.script_spec.specs.Base.{Bytes, bytes, same, lookup, and_then}
use Rattle.script_spec.specs.Tree as tree
use Rattle.script_spec.specs.Fields as fields
use Rattle.script_spec.specs.Fields.{Entry, term, Reader, ◌>>=◌, pure, ensure, text, ref, width, number, entity_ref, marks, leaf, operator}
use Rattle.index_compare.specs.Machine.{operand_of}
use Rattle.std.specs.Option.{is_some}
use Rattle.index_compare.proofs.Standing.{entry_whole}
use Rattle.index.specs.Standing.{mark_at, body_at, entry_of, entry_at, loose}
use Rattle.index.proofs.Readers.{Gives, gives_after, gives_pure}
use Rattle.std.specs.Prelude.{Result, Ok, Err}
use Rattle.refusal.specs.declared.Refusal.{Refusal}
use Rattle.read_field.specs.declared.Cursor.{Cursor}
use Rattle.read_operator.specs.Operators.{op_read}
use Rattle.read_operator.specs.declared.Op.{Op}
use Rattle.check_rules.specs.Marks.{term_bytes}
use Rattle.index.specs.Lists.{number_at}
use Rattle.index_entry.proofs.Letters.{term_marked, term_marked_lem, term_letter}
use Rattle.read_operator.specs.Again.{TakesAgain}
use Rattle.index_entry.specs.Terms.{children_in, term_said, IsTerm}
use Rattle.index_entry.specs.Children.{ListedAt, IsChildren, ChildrenAt}
use Rattle.index_entry.specs.declared.terms.Children.{Children}
use Rattle.index_entry.specs.declared.terms.TermEntry.{TermEntry}
use Rattle.index_entry.specs.declared.terms.TermEntry.TheVariants as entry
use Rattle.index_entry.proofs.ChildLaws.{no_children}
use Rattle.index_entry.proofs.ParentEntries.{app_reader, app_parts, listed_children, term_some, term_set, term_record, term_app, no_app}
use Rattle.index_entry.proofs.BareOperators.{bare_rest}

-- ---- marks that have no children

-- the children of an entry that is a term
unfoldable refs : Entry → List ℕ
refs (fields.type m rs) = []
refs (fields.enum n ms) = []
refs (fields.func id a r) = []
refs (fields.term m rs) = rs
refs (fields.input n) = []

-- a reader that makes entries without children
abbrev Bare : Reader Entry → Type 0
Bare r = Gives (λ e. refs e ≡ []) r r

after : {A : Type 0} (r : Reader A) {k : A → Reader Entry} → ((a : A) → Bare (k a)) → Bare (◌>>=◌ r k)
after r H = gives_after {P = λ e. refs e ≡ []} r H

last : (e : Entry) → refs e ≡ [] → Bare (pure e)
last e h = gives_pure {P = λ e. refs e ≡ []} e h

module _ (body : Bytes) where
  marked : (m : Bytes) (reader : Reader Entry) → lookup m (marks loose) ≡ some reader → Bare reader → {m' : Bytes} {e : Entry} → m' ≡ m → entry_of m' body ≡ some e → refs e ≡ []
  unfolding entry_of and_then
  marked m reader found G {m'} {e} same g = (G.go body [] e (entry_whole (reader body) e (rw (same, found) at g))).0

  module _ {l : ℕ} (s : l ≡ 49 → ⊥) (c : l ≡ 67 → ⊥) (r : l ≡ 82 → ⊥) (a : l ≡ 65 → ⊥) where
    -- a mark with another second byte
    bare : (t : tree.TermMark ℕ ℕ) (rs : List ℕ) → entry_of (term_marked l) body ≡ some (term t rs) → l ≡ get_or (term_bytes t) 1 0 → refs (term t rs) ≡ []
    unfolding marks lookup same bytes refs leaf term_bytes
    bare (tree.Var id t) rs g h = marked (bytes "XV") _ refl (after text (λ n. after (ref loose.types) (λ t. last _ refl))) (ap term_marked h) g
    bare (tree.BoolLit b) rs g h = marked (bytes "XB") _ refl (after _ (λ b. last _ refl)) (ap term_marked h) g
    bare (tree.BitVecLit n v) rs g h = marked (bytes "XN") _ refl (after width (λ n. after (number 16) (λ v. after (ensure 7 (ltb v (2 ^ n)) v) (λ w. last _ refl)))) (ap term_marked h) g
    bare (tree.StringLit t) rs g h = marked (bytes "XS") _ refl (after text (λ s. last _ refl)) (ap term_marked h) g
    bare (tree.Entity t id) rs g h = marked (bytes "XE") _ refl (after (entity_ref loose) (λ t. after text (λ i. last _ refl))) (ap term_marked h) g
    bare (tree.ExtLit v) rs g h = marked (bytes "XX") _ refl (after fields.value (λ v. last _ refl)) (ap term_marked h) g
    bare (tree.None t) rs g h = marked (bytes "X0") _ refl (after (ref loose.types) (λ t. last _ refl)) (ap term_marked h) g
    bare tree.Some rs g h = absurd (s h)
    bare (tree.Set t) rs g h = absurd (c h)
    bare (tree.Record ns) rs g h = absurd (r h)
    bare (tree.App t o) rs g h = absurd (a h)

    pub bare_children : (b : Bor Bytes) → IsChildren (some (term_marked l)) body (record { body = b; from = 0; left = 0; named = false })
    unfolding refs
    bare_children b = record {
      go = λ m t rs e g.
          let same : m ≡ term_marked l = cc in
          let here = rw same at g in
          no_children (record { body = b; from = 0; left = 0; named = false }) refl ∙ sym (bare t rs here (term_letter body here));
    }

-- ---- marks that have children

-- the children of the term that a body is
children_said : {m : Option Bytes} {body : Bytes} {r : TermEntry} (c : Children) → ((t : tree.TermMark ℕ ℕ) (rs : List ℕ) → term_said r ≡ some (term t rs) → children_in c ≡ rs)
    → IsTerm m body r → IsChildren m body c
children_said c h i = record { go = λ m t rs e g. h t rs (i.go m t rs e g) }

module _ {body : Bytes} where
  pub children_some : {c : Children} → children_in c ≡ number_at body 0 ∷ [] → IsChildren (some (bytes "X1")) body c
  unfolding term_said
  children_some {c} e = children_said c (λ t rs h. cc) (term_some {n = number_at body 0} refl)

  pub children_set : {c : Children} → ListedAt body 4 false c → IsChildren (some (bytes "XC")) body c
  unfolding term_said
  children_set L = children_said _ (λ t rs h. cc) (term_set refl L)

  pub children_record : {c : Children} → ListedAt body 0 true c → IsChildren (some (bytes "XR")) body c
  unfolding term_said
  children_record L = children_said _ (λ t rs h. cc) (term_record L)

  -- the operator as it is read again
  module _ {b : Bor Bytes} (r : Result (Op × Cursor) Refusal) (inside : b.now ≡ body) (T : TakesAgain (operator (2 ^ 32)) (record { body = b; at = 4 }) (op_read r)) where
    pub children_app : {o : Op} {d : Cursor} {c : Children} → r ≡ Ok (o, d) → ListedAt body d.at false c → IsChildren (some (bytes "XA")) body c
    unfolding term_said
    children_app {o} {c = c} e L = children_said {r = entry.App (number_at body 0) o c} c (λ t rs h. cc) (term_app r inside T e refl L)

    pub no_arguments : {f : Refusal} {c : Children} → r ≡ Err f → IsChildren (some (bytes "XA")) body c
    unfolding term_said
    no_arguments e = children_said _ (λ t rs h. absurd (none-ne-some (term t rs) h)) (no_app r inside T e)

  -- an operator without an operand ends after its code
  pub children_bare : {code : ℕ} {c : Children} → code ≡ get_or body 4 0 → is_some (operand_of code) ≡ false → ListedAt body 5 false c → IsChildren (some (bytes "XA")) body c
  unfolding marks lookup same bytes entry_of and_then loose
  children_bare {c = c} is bare L = record {
    go = λ m t rs e g.
        let mark_is : m ≡ bytes "XA" = cc in
        app_parts body (entry_whole (app_reader body) (term t rs) (rw mark_is at g)) (λ x y end qs v op listed whole.
        let first : is_some (operand_of (get_or (drop 4 body) 0 0)) ≡ false = ap (λ (n : ℕ). is_some (operand_of n)) (get_or-drop 4 body 0 0 ∙ sym is) ∙ bare in
        let here : drop 5 body ≡ end = sym (drop-drop 1 4 body) ∙ bare_rest (2 ^ 32) (drop 4 body) first op in
        let all : qs ≡ rs = cc in
        listed_children L here listed ∙ all);
  }

-- the same mark
pub under : {body : Bytes} {l l' : ℕ} {r : Children} → l ≡ l' → IsChildren (some (term_marked l')) body r → IsChildren (some (term_marked l)) body r
under {body} {r = r} e x = subst (λ (n : ℕ). IsChildren (some (term_marked n)) body r) (sym e) x

-- the record at an offset
pub children_at : {file body : Bytes} {o l : ℕ} {r : Children} → l ≡ get_or (mark_at file o) 1 0 → body ≡ body_at file o → IsChildren (some (term_marked l)) body r → ChildrenAt file o r
unfolding entry_at
children_at {file} {body} {o} {l} {r} i e c =
    let here : IsChildren (some (term_marked l)) (body_at file o) r = subst (λ (b : Bytes). IsChildren (some (term_marked l)) b r) e c in
    record { go = λ t rs g. here.go (mark_at file o) t rs (ap (λ (n : ℕ). some (term_marked n)) i ∙ ap some (term_marked_lem (mark_at file o) (body_at file o) g)) g }
