-- In a file that check accepts the type that is written in a term's record is the type of the term: by recursion over the records.
-- Assumes nothing.
use Prim.Native.Nat.{ℕ, zero, suc, ◌+◌, ◌<◌}
use native.Mathlib.Nat.{zero-add}
use native.Mathlib.Omega.{arith}
use mathlib.Core.Path.{◌≡◌, refl, sym, ap, ◌∙◌, subst}
use mathlib.Core.Bool.{true}
use mathlib.Core.List.{List, [], ◌∷◌, ◌++◌, append_assoc, append-nil}
use mathlib.Core.Option.{some}
use lib.ListN.{length, drop, get_or, length-append, get_or-append}
use Rattle.script_spec.specs.Base.{Bytes, accepted, at}
use Rattle.script_spec.specs.Tree.{Ty, Tm, type_of, node, nil, Bool·}
use Rattle.script_spec.specs.Fields.{got, is_typed}
use Rattle.script_spec.specs.File.{Named, TermFile, types, type_at, earlier, next_record, records, checked}
use Rattle.script_spec.specs.File as files
use Rattle.script_spec.proofs.Laws.{collect_append}
use Rattle.script_spec.proofs.OwnType.{own_term, own_below, own_type_is}
use Rattle.script_spec.proofs.Taken.{stated, last_number, next_inverse, next_left}
use Rattle.script_spec.proofs.Accepted.{AllTaken, all_taken, one_taken, checked_inverse}

-- ---- records by their bytes

-- the bytes of a file from its record n on: a record is as long as it says
unfoldable pub from_record : ℕ → Bytes → Bytes
from_record zero s = s
from_record (suc n) s = from_record n (drop (6 + stated s) s)

-- ---- records after records

-- the record n of a file is a term's, and the number in its last four bytes, those that s begins with, is that of the term's type
pub record WrittenIs (f : TermFile) (n : ℕ) (s : Bytes) : Type 0 where
  pub term : Tm
  pub is : at n f ≡ some (files.term term)
  pub below : last_number s < length (types f)
  pub type_is : type_at f (last_number s) ≡ type_of term

at_end : {A : Type 0} (xs : List A) (x : A) (ys : List A) → at (length xs) (xs ++ (x ∷ ys)) ≡ some x
unfolding at
at_end [] x ys = refl
at_end (y ∷ xs) x ys = at_end xs x ys

-- the record after the records g, in a file that begins with them
written_next : (g : TermFile) (s : Bytes) (r : Named) (rest : Bytes) (more : TermFile) → next_record g s ≡ got r rest → is_typed (get_or s 0 0) ≡ true → WrittenIs (g ++ (r ∷ more)) (length g) s
unfolding types type_at earlier
written_next g s r rest more h typed =
    let t = next_inverse g s h in
    let tm = own_term g s t typed in
    let l : last_number s < length (types g) = own_below (earlier g) s t.fields typed in
    let grown : types (g ++ (r ∷ more)) ≡ types g ++ types (r ∷ more) = collect_append _ g (r ∷ more) in
    record {
      term = tm.0;
      is = at_end g r more ∙ ap some tm.1;
      below = subst (λ (ts : List Ty). last_number s < length ts) (sym grown) (omega (arith, l, length-append (types g) (types (r ∷ more))));
      type_is = ap (λ (ts : List Ty). get_or ts (last_number s) (node Bool· nil)) grown ∙ get_or-append (types g) (types (r ∷ more)) (node Bool· nil) (last_number s) l ∙ own_type_is g s t typed;
    }

-- the file f is made of the records g and those that stand in s
record Follows (g : TermFile) (s : Bytes) (f : TermFile) : Type 0 where
  more : TermFile
  is : f ≡ g ++ more
  each : (n : ℕ) → n < length more → is_typed (get_or (from_record n s) 0 0) ≡ true → WrittenIs f (length g + n) (from_record n s)

module _ (g : TermFile) (s : Bytes) (r : Named) (rest : Bytes) {f : TermFile} (next : next_record g s ≡ got r rest) (F : Follows (g ++ (r ∷ [])) rest f) where
  after_next : f ≡ g ++ (r ∷ F.more)
  after_next = F.is ∙ append_assoc g (r ∷ []) F.more

  each_next : (n : ℕ) → n < suc (length F.more) → is_typed (get_or (from_record n s) 0 0) ≡ true → WrittenIs f (length g + n) (from_record n s)
  unfolding from_record
  each_next zero l typed =
      let own : WrittenIs f (length g) s = subst (λ (x : TermFile). WrittenIs x (length g) s) (sym after_next) (written_next g s r rest F.more next typed) in
      subst (λ (k : ℕ). WrittenIs f k s) (omega arith) own
  each_next (suc n) l typed =
      let place : length (g ++ (r ∷ [])) + n ≡ length g + suc n = omega (arith, length-append g (r ∷ [])) in
      let later : is_typed (get_or (from_record n rest) 0 0) ≡ true → WrittenIs f (length g + suc n) (from_record n rest) = λ h. subst (λ (k : ℕ). WrittenIs f k (from_record n rest)) place (F.each n (omega (arith, l)) h) in
      (rw (sym (next_left g s next)) at later) typed

  follows_next : Follows g s f
  follows_next = record { more = r ∷ F.more; is = after_next; each = each_next }

follows : {f g : TermFile} {s : Bytes} → AllTaken f g s → Follows g s f
follows {f = f} all_taken = record { more = []; is = sym (append-nil f); each = λ n h. absurd (omega (arith, h)) }
follows (one_taken {g = g} {s = s} {r = r} {rest = rest} h t) = follows_next g s r rest h (follows t)

-- ---- files

-- in a file that check accepts the type that is written in a term's record is the term's type
pub written_is : (file : Bytes) (work : ℕ) (f : TermFile) → checked file work ≡ accepted f → (n : ℕ) → n < length f → is_typed (get_or (from_record n file) 0 0) ≡ true → WrittenIs f n (from_record n file)
written_is file work f e n l typed =
    let F = follows (checked_inverse file work f e).all in
    subst (λ (k : ℕ). WrittenIs f k (from_record n file)) (zero-add n) (F.each n (subst (λ (g : TermFile). n < length g) F.is l) typed)
