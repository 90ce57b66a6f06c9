-- The rules of an enum, by its name and the list after it.
-- Assumes nothing.
use mathlib.Core.Path.{◌≡◌, ap, ◌∙◌, subst}
use Prim.Native.Nat.{ℕ, zero, suc}
use native.Mathlib.Omega.{arith}
use mathlib.Core.Bool.{Bool, false}
use mathlib.Core.List.{List, [], ◌∷◌}
use mathlib.Core.Option.{some}
use lib.Dec.{ltb}
use borrow.Author.Tests.{lt-ltb}
use lib.ListN.{drop}
use Rattle.script_spec.specs.Base.{Bytes, ascending, empty}
use Rattle.script_spec.specs.Fields.{got, ◌>>=◌, part, text, u32, times, list, enum}
use Rattle.script_spec.proofs.Laws.{never}
use Rattle.script_spec.proofs.Readers.{bind_inverse, pure_inverse, tested_inverse}
use denote.Ref.{Bor}
use Rattle.std.specs.Prelude.{Result, Ok, Err}
use Rattle.script_spec.specs.Utf8.{is_utf8}
use Rattle.std.specs.Result.{result_unwrap_or}
use Rattle.refusal.specs.declared.Refusal.{Refusal}
use Rattle.read_field.specs.Reads.{as_read}
use Rattle.read_field.specs.declared.Cursor.{Cursor}
use Rattle.read_field.specs.Takes.{TakesTo, RefusesAt, Takes, bytes_of}
use Rattle.index.specs.Standing.{entry_at, mark_at, body_at}
use Rattle.check_rules.specs.Decided.{DecidesList}
use Rattle.check_rules.specs.Tests.{counted, item_text, any_given}
use Rattle.check_rules.specs.Enums.{NameRead, MembersFrom, EnumAscends, EnumGiven, NameAt}
use Rattle.check_rules.proofs.Decided.{decides_list}
use Rattle.check_rules.proofs.Shapes.{enum_read}

-- ---- the parts of the body

-- a text that is read is read without the test too
text_counted : (s : Bytes) {t left : Bytes} → text s ≡ got t left → counted s ≡ got t left
unfolding text counted ◌>>=◌
text_counted s e =
    let b = bind_inverse u32 _ s e in
    rw (◌>>=◌, b.first) (tested_inverse (part b.value) 6 is_utf8 b.mid b.after)

-- the text that a cursor at the start of a body takes, or not
here : {body : Bor Bytes} {c : Cursor} → (c.body ≡ body) × (c.at ≡ 0) → drop c.at c.body.now ≡ body.now
here {c = c} starts = ap (λ (n : ℕ). drop n c.body.now) starts.1 ∙ ap (λ (b : Bor Bytes). b.now) starts.0

module _ {body : Bor Bytes} {c : Cursor} (starts : (c.body ≡ body) × (c.at ≡ 0)) where
  name_is_read : {d : Cursor} {t : Bytes} → TakesTo counted c d t → NameRead body.now t
  unfolding as_read
  name_is_read h = let r = rw (here starts) at h.reads.is in record { go = λ u left e. cc (r, text_counted body.now e) }

  name_bad : {x : Refusal} (name : Bytes) → RefusesAt counted c x → NameRead body.now name
  unfolding as_read
  name_bad name h = let r = rw (here starts) at h.reads.is in record { go = λ u left e. never (cc (r, text_counted body.now e)) }

  -- the members stand after the name, if it can be read
  members_after : {d : Cursor} {t : Bytes} → TakesTo counted c d t → (d.body ≡ body) × MembersFrom body.now d.at
  unfolding as_read
  members_after h = let r = rw (here starts) at h.reads.is in let b = ap (λ (b : Bor Bytes). b.now) starts.0 in (h.body ∙ starts.0, record { go = λ u left e. rw (← b) (cc (r, text_counted body.now e)) })

  members_bad : {x : Refusal} (at : ℕ) → RefusesAt counted c x → MembersFrom body.now at
  unfolding as_read
  members_bad at h = let r = rw (here starts) at h.reads.is in record { go = λ u left e. never (cc (r, text_counted body.now e)) }

  pub parts_read : (x : Result (Bor Bytes × Cursor) Refusal) → Takes counted c (bytes_of x)
      → NameRead body.now (result_unwrap_or x (body, c)).0.now × ((result_unwrap_or x (body, c)).1.body ≡ body) × MembersFrom body.now (result_unwrap_or x (body, c)).1.at
  parts_read (Ok v) h = let m = members_after h in (name_is_read h, m.0, m.1)
  parts_read (Err e) h = (name_bad _ h, starts.0, members_bad _ h)

-- a list has items where its count is not 0
times_given : (n : ℕ) (s rest : Bytes) (ts : List Bytes) → times n text s ≡ got ts rest → ltb 0 n ≡ any_given ts
unfolding times any_given empty
times_given zero s rest ts e = let h = pure_inverse [] s e in rw (← h.0)
times_given (suc n) s rest ts e =
    let b = bind_inverse text _ s e in
    let c = bind_inverse (times n text) _ b.mid b.after in
    let h = pure_inverse (b.value ∷ c.value) c.mid c.after in
    rw (← h.0) (lt-ltb 0 (suc n) (omega arith))

pub list_given : {c d : Cursor} {n : ℕ} → TakesTo u32 c d n → DecidesList text any_given c.body.now c.at (ltb 0 n)
list_given {d = d} {n} h = decides_list h (record { go = λ ts rest e. times_given n (drop d.at d.body.now) rest ts e })

-- ---- the enum at an offset

module _ (file : Bytes) (o : ℕ) (body : Bor Bytes) (is : body.now ≡ body_at file o) where
  -- the test of the list after the name is the test of the members
  members_test : (test : List Bytes → Bool) {at : ℕ} {b : Bool} → MembersFrom body.now at → DecidesList text test body.now at b → (name : Bytes) (members : List Bytes) → entry_at file o ≡ some (enum name members) → b ≡ test members
  unfolding entry_at
  members_test test {at} M D name members e =
      let x = enum_read (mark_at file o) (body_at file o) e in
      D.go members [] (subst (λ (s : Bytes). list text s ≡ got members []) (M.go name x.left (ap text is ∙ x.name_is_read)) x.members_read)

  pub enum_ascends : {c : Cursor} {b : Bool} → c.body ≡ body → MembersFrom body.now c.at → DecidesList (item_text false) ascending c.body.now c.at b → EnumAscends file o b
  unfolding item_text
  enum_ascends e M D = record { go = members_test ascending M (rw e at D) }

  pub enum_given : {c : Cursor} {b : Bool} → c.body ≡ body → MembersFrom body.now c.at → DecidesList text any_given c.body.now c.at b → EnumGiven file o b
  unfolding any_given
  enum_given e M D = record { go = members_test any_given M (rw e at D) }

  name_is : {t : Bytes} → NameRead body.now t → (name : Bytes) (members : List Bytes) → entry_at file o ≡ some (enum name members) → t ≡ name
  unfolding entry_at
  name_is N name members e = let x = enum_read (mark_at file o) (body_at file o) e in N.go name x.left (ap text is ∙ x.name_is_read)

  pub name_at_lem : {t : Bytes} → NameRead body.now t → NameAt file o t
  name_at_lem N = record { go = name_is N }
