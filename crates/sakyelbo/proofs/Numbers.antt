-- A refusal's number is from 1 to 21, 24 or 25, check's from 1 to 13, or 21, and a command's 6 or 20: `checked_numbered`, `encoded_numbered`,
-- `command_numbered`, `command_among`. By the numbers of the readers and of the rules, and recursion over the records.
-- Assumes nothing.
use Prim.Native.Nat.{ℕ, zero, suc, ◌*◌, ◌≤◌}
use native.Mathlib.Omega.{arith}
use mathlib.Core.Path.{◌≡◌, refl, sym}
use mathlib.Core.Bool.{Bool, true, false, ◌||◌}
use mathlib.Core.List.{List, [], ◌∷◌, ◌++◌}
use mathlib.Core.Option.{Option, none, some, none-ne-some}
use lib.Dec.{T, eqb, leb, leb→le, eqb→eq}
use mathlib.Core.Logic.{⊎_elim}
use borrow.Author.Tests.{le-leb}
use lib.ListN.{length, take, drop, get_or}
use Rattle.script_spec.specs.Base.{Bytes, Answer, accepted, refused, between, lookup, all}
use Rattle.script_spec.specs.Utf8.{is_utf8}
use Rattle.script_spec.specs.Tree.{Ty, Tm, node}
use Rattle.script_spec.specs.Tree.{Var, BoolLit, BitVecLit, StringLit, Entity, ExtLit, None, Some, Set, Record, App}
use Rattle.script_spec.specs.Fields.{Entry, Typed, Read, got, bad, Reader, low, marks, is_typed, untyped_mark, with_type, whole}
use Rattle.script_spec.specs.File.{TermFile, Named, type, enum, func, term, input, named, written, earlier, Rule, list_rules, rules, broken, kept, judged, next_record, records, checked}
use Rattle.script_spec.specs.Command.{Command, script, fitting, command_written, given, line}
use Rattle.script_spec.specs.Walk.{encoding, encoded}
use Rattle.script_spec.specs.Faithful.{Every, every, also}
use Rattle.script_spec.proofs.Lists.{every_append}
use Rattle.script_spec.proofs.Demand.{encoding_refusal}
use Rattle.script_spec.proofs.Laws.{and_parts, or_cases, either_way, never}
use Rattle.script_spec.proofs.NewLog.{Told, high_id, high_text, high_pattern, no_position}
use Rattle.sakyelbo.proofs.Readers.{OfField, five, six, seven, eight, Reading, read, refusal, Reads, mark_reads, typed_reads, reading_whole}

-- the numbers of check's refusals
unfoldable pub check_number : ℕ → Bool
check_number n = between 1 13 n || eqb n 21

-- and of encode's
unfoldable pub encode_number : ℕ → Bool
encode_number n = between 1 21 n || between 24 25 n

-- and of a command's: a text that is not UTF-8, or too little room
unfoldable pub command_number : ℕ → Bool
command_number n = eqb n 6 || eqb n 20

in_encode : {n : ℕ} → 1 ≤ n → n ≤ 21 → T (encode_number n)
unfolding encode_number between
in_encode {n} h k = rw (le-leb 1 n h, le-leb n 21 k) tt

-- check's are among encode's
check_encode : (n : ℕ) → T (check_number n) → T (encode_number n)
unfolding check_number encode_number between
check_encode n h =
    ⊎_elim (λ w. let p = and_parts (leb 1 n) (leb n 13) w in in_encode (leb→le 1 n p.0) (omega (arith, leb→le n 13 p.1))) (λ e. rw (eqb→eq n 21 e) tt) (or_cases (between 1 13 n) (eqb n 21) h)

-- so are a command's
command_encode : (n : ℕ) → T (command_number n) → T (encode_number n)
unfolding command_number encode_number between
command_encode n h = ⊎_elim (λ e. rw (eqb→eq n 6 e) tt) (λ e. rw (eqb→eq n 20 e) tt) (or_cases (eqb n 6) (eqb n 20) h)

-- and those of the walk
walk_encode : {n q : ℕ} {t : Tm} → Told n t q → T (encode_number n)
unfolding encode_number between
walk_encode (high_id h) = tt
walk_encode (high_text h) = tt
walk_encode (high_pattern h) = tt
walk_encode {n} (no_position h) =
    ⊎_elim (λ e. rw (eqb→eq n 14 e) tt) (λ w. let p = and_parts (leb 16 n) (leb n 19) w in in_encode {n = n} (omega (arith, leb→le 16 n p.0)) (omega (arith, leb→le n 19 p.1)))
    (or_cases (eqb n 14) (between 16 19 n) h)

-- the refusal of an answer, if it is one, has such a number
pub record Numbered {A : Type 0} (test : ℕ → Bool) (a : Answer A) : Type 0 where
  pub number : (n p q : ℕ) → a ≡ refused n p q → T (test n)

module _ {A : Type 0} (test : ℕ → Bool) where
  numbered_result : (a : A) → Numbered test (accepted a)
  numbered_result a = record { number = λ n p q e. never cc }

  numbered_refusal : (n p q : ℕ) → T (test n) → Numbered {A = A} test (refused n p q)
  numbered_refusal n p q w = record { number = λ m i j e. let h : n ≡ m = cc in rw (sym h) w }

-- ---- rules

-- rules with numbers of check's refusals
abbrev Ruled : List Rule → Type 0
Ruled = Every (λ (r : Rule). T (check_number r.0))

-- the number of the first rule that is broken is that of a rule
broken_numbered : (rs : List Rule) → Ruled rs → (n : ℕ) → broken rs ≡ some n → T (check_number n)
unfolding broken
broken_numbered [] every n e = absurd (none-ne-some n e)
broken_numbered (r ∷ rs) (also w ws) n e = from r.1 e (λ k. broken_numbered rs ws n k)
  where
    from : (b : Bool) → elim b as (λ y. Option ℕ) [ true ↦ broken rs | false ↦ some r.0 ] ≡ some n → (broken rs ≡ some n → T (check_number n)) → T (check_number n)
    from true h later = later h
    from false h later = let k : r.0 ≡ n = cc in rw (sym k) w

list_rules_lem : (t : Tm) → Ruled (list_rules t)
unfolding list_rules check_number between
list_rules_lem (node (Var id ty) ts) = every
list_rules_lem (node (BoolLit b) ts) = every
list_rules_lem (node (BitVecLit n v) ts) = every
list_rules_lem (node (StringLit s) ts) = every
list_rules_lem (node (Entity ty id) ts) = every
list_rules_lem (node (ExtLit v) ts) = every
list_rules_lem (node (None ty) ts) = every
list_rules_lem (node Some ts) = every
list_rules_lem (node (Set ty) ts) = also tt every
list_rules_lem (node (Record names) ts) = also tt every
list_rules_lem (node (App ty op) ts) = also tt every

rules_numbered : (f : TermFile) (ty : Option Ty) (r : Named) → Ruled (rules f ty r)
unfolding rules check_number between
rules_numbered f ty (type t) = also tt (also tt every)
rules_numbered f ty (enum n ms) = also tt (also tt (also tt every))
rules_numbered f ty (func g) = every
rules_numbered f ty (term t) = every_append (list_rules_lem t) (also tt (also tt (also tt every)))
rules_numbered f ty (input t) = every

-- ---- records

-- a record, or one of check's refusals
abbrev Next : Read Named → Type 0
Next = Reading (λ n. T (check_number n))

kept_numbered : (f : TermFile) (ty : Option Ty) (r : Named) (rest : Bytes) → Next (kept f ty r rest)
unfolding kept
kept_numbered f ty r rest = from (broken (rules f ty r)) (broken_numbered (rules f ty r) (rules_numbered f ty r))
  where
    from : (o : Option ℕ) → ((n : ℕ) → o ≡ some n → T (check_number n)) → Next (elim o as (λ y. Read Named) [ none ↦ got r rest | some n ↦ bad n ])
    from none h = read
    from (some n) h = refusal (h n refl)

field_number : {n : ℕ} → OfField n → T (check_number n)
unfolding check_number between
field_number five = tt
field_number six = tt
field_number seven = tt
field_number eight = tt

judged_numbered : (f : TermFile) (rest : Bytes) (x : Read Typed) → Reading OfField x → Next (judged f rest x)
unfolding judged
judged_numbered f rest (got x left) read = kept_numbered f (written f x.1) (named f x.0) rest
judged_numbered f rest (bad n) (refusal h) = refusal (field_number h)

next_record_numbered : (f : TermFile) (s : Bytes) → Next (next_record f s)
unfolding next_record check_number between
next_record_numbered f s = either_way Next _ _ (leb 6 (length s)) (refusal tt) (from (lookup (untyped_mark (take 2 s)) (marks (earlier f))) (mark_reads (earlier f) (untyped_mark (take 2 s))))
  where
    size : ℕ
    size = low (take 4 (drop 2 s))

    body : Bytes
    body = take size (drop 6 s)

    typed : Bool
    typed = is_typed (get_or s 0 0)

    from : (o : Option (Reader Entry)) → ((r : Reader Entry) → o ≡ some r → Reads r)
        → Next (elim o [
          | none ↦ bad 4
          | some reader ↦ elim (leb size (length (drop 6 s))) [ false ↦ bad 3 | true ↦ judged f (drop size (drop 6 s)) (whole (with_type (earlier f) typed reader body)) ]
        ])
    from none h = refusal tt
    from (some reader) h = either_way Next _ _ (leb size (length (drop 6 s))) (refusal tt)
        (judged_numbered f (drop size (drop 6 s)) (whole (with_type (earlier f) typed reader body)) (reading_whole (with_type (earlier f) typed reader body) ((typed_reads (earlier f) typed (h reader refl)).go body)))

-- ---- answers

records_numbered : (fuel : ℕ) (f : TermFile) (s : Bytes) → Numbered check_number (records fuel f s)
unfolding records
records_numbered zero f s = numbered_result check_number f
records_numbered (suc fuel) f [] = numbered_result check_number f
records_numbered (suc fuel) f (b ∷ s) = from (next_record f (b ∷ s)) (next_record_numbered f (b ∷ s)) (λ r rest. records_numbered fuel (f ++ (r ∷ [])) rest)
  where
    from : (x : Read Named) → Next x → ((r : Named) (rest : Bytes) → Numbered check_number (records fuel (f ++ (r ∷ [])) rest))
        → Numbered {A = TermFile} check_number (elim x as (λ y. Answer TermFile) [ bad n ↦ refused n (length f) 0 | got r rest ↦ records fuel (f ++ (r ∷ [])) rest ])
    from (got r rest) read later = later r rest
    from (bad n) (refusal w) later = numbered_refusal check_number n (length f) 0 w

-- check's refusals are 1 to 13, and 21
pub checked_numbered : (file : Bytes) (work : ℕ) → Numbered check_number (checked file work)
unfolding checked check_number between
checked_numbered file work =
    either_way (Numbered check_number) _ _ (leb (length file) 1048576) (numbered_refusal check_number 1 0 0 tt)
    (either_way (Numbered check_number) _ _ (leb (2 * length file) work) (numbered_refusal check_number 2 0 0 tt) (records_numbered (length file) [] file))

fitting_numbered : (test : ℕ → Bool) → T (test 20) → (s : Bytes) (room : ℕ) → Numbered test (fitting s room)
unfolding fitting
fitting_numbered test h s room = either_way (Numbered test) _ _ (leb (length s) room) (numbered_refusal test 20 0 0 h) (numbered_result test s)

-- encode's refusals are 1 to 21, 24 and 25
pub encoded_numbered : (file : Bytes) (work room : ℕ) → Numbered encode_number (encoded file work room)
unfolding encoded
encoded_numbered file work room = from (checked file work) (checked_numbered file work)
  where
    walked : (f : TermFile) (x : Answer (List Command)) → encoding f ≡ x → Numbered {A = Bytes} encode_number (elim x as (λ y. Answer Bytes) [ refused n p q ↦ refused n p q | accepted cs ↦ fitting (script cs) room ])
    walked f (refused n p q) e = numbered_refusal encode_number n p q (walk_encode (encoding_refusal f n p q e).1.told)
    walked f (accepted cs) e = fitting_numbered encode_number (in_encode {n = 20} (omega arith) (omega arith)) (script cs) room

    from : (x : Answer TermFile) → Numbered check_number x
        → Numbered {A = Bytes} encode_number (elim x as (λ y. Answer Bytes) [ refused n p q ↦ refused n p q | accepted f ↦ elim (encoding f) as (λ y. Answer Bytes) [ refused n p q ↦ refused n p q | accepted cs ↦ fitting (script cs) room ] ])
    from (refused n p q) h = numbered_refusal encode_number n p q (check_encode n (h.number n p q refl))
    from (accepted f) h = walked f (encoding f) refl

-- those of writing a command are 6 and 20
pub command_numbered : (c : Command) (room : ℕ) → Numbered command_number (command_written c room)
unfolding command_written command_number
command_numbered c room = either_way (Numbered command_number) _ _ (all is_utf8 (given c)) (numbered_refusal command_number 6 0 0 tt) (fitting_numbered command_number tt (line c) room)

-- and so among encode's
pub command_among : (c : Command) (room : ℕ) → Numbered encode_number (command_written c room)
command_among c room = record { number = λ n p q e. command_encode n ((command_numbered c room).number n p q e) }
