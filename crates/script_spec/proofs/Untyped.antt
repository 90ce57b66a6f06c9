-- Written types left out: a file in which `Y` records are replaced by the `X` records that they repeat is accepted as the same records,
-- and encode answers the same. By what each record was read as, record after record.
-- Assumes nothing.
use Prim.Native.Nat.{ℕ, ◌+◌, ◌-◌, ◌≤◌}
use native.Mathlib.Omega.{arith}
use mathlib.Core.Path.{◌≡◌, refl, sym, ap, ◌∙◌, subst}
use mathlib.Core.Bool.{true, false, true≢false}
use mathlib.Core.List.{[], ◌∷◌, ◌++◌}
use mathlib.Core.Option.{Option, none}
use lib.ListN.{length, take, drop, get_or, length-append, length-take, length-drop}
use Rattle.script_spec.specs.Base.{Bytes, accepted, if_some}
use Rattle.script_spec.specs.Tree.{Ty}
use Rattle.script_spec.specs.Fields.{pure, Entry, Earlier, got, Reader, low, is_typed, untyped, final_type, with_type}
use Rattle.script_spec.specs.File.{Named, TermFile, written, earlier, rules, broken, next_record, checked}
use Rattle.script_spec.specs.File as files
use Rattle.script_spec.specs.Walk.{encoded}
use Rattle.script_spec.proofs.Readers.{bind_got}
use Rattle.script_spec.proofs.Taken.{stated, next_inverse, next_left, next_size, fronted, next_fronted, next_alone}
use Rattle.script_spec.proofs.Accepted.{AllTaken, all_taken, one_taken, checked_inverse, checked_again}
use Rattle.script_spec.proofs.OwnType.{untyped_is, written_kept, own_fields, four_fit}

-- ---- types left out

-- a `Y` record, the one that s begins with, as its `X` record: the second byte of its mark, z for its size, and its fields without the
-- four bytes of the type
unfoldable pub untyped_record : Bytes → Bytes → Bytes
untyped_record z s = fronted 88 z s

-- s' is s with written types left out: each record as it stands, or a `Y` record as its `X` record, whose size is less by four
pub data Stripped : Bytes → Bytes → Type 0 where
  ended : Stripped [] []
  as_it_stands : {s s' : Bytes} → Stripped (drop (6 + stated s) s) s' → Stripped s (take (6 + stated s) s ++ s')
  without_type : {s s' : Bytes} (z : Bytes) → is_typed (get_or s 0 0) ≡ true → length z ≡ 4 → low z + 4 ≡ stated s → Stripped (drop (6 + stated s) s) s' → Stripped s (untyped_record z s ++ s')

-- ---- a record without its type

-- fields without a type behind them
fields_alone : (e : Earlier) (r : Reader Entry) (p : Bytes) {x : Entry} → r p ≡ got x [] → with_type e false r p ≡ got (x, none) []
unfolding with_type final_type pure
fields_alone e r p {x} h = bind_got r _ h ∙ bind_got (pure none) _ refl

-- the rules where no type is written
rules_untyped : (f : TermFile) (ty : Option Ty) (r : Named) → broken (rules f ty r) ≡ none → broken (rules f none r) ≡ none
unfolding rules if_some
rules_untyped f ty (files.type t) h = h
rules_untyped f ty (files.enum n ms) h = h
rules_untyped f ty (files.func g) h = h
rules_untyped f ty (files.term t) h = rw (written_kept f ty t h) at h
rules_untyped f ty (files.input t) h = h

-- where a `Y` record is taken its `X` record is taken for the same, whatever follows
pub untyped_same : (f : TermFile) (s : Bytes) {r : Named} {rest : Bytes} → next_record f s ≡ got r rest → is_typed (get_or s 0 0) ≡ true
    → (z : Bytes) → length z ≡ 4 → low z + 4 ≡ stated s → (q : Bytes) → next_record f (untyped_record z s ++ q) ≡ got r q
unfolding untyped_record fronted is_typed untyped written
untyped_same f s {r} h typed z four is =
    let t = next_inverse f s h in
    let x = t.fields in
    let e = earlier f in
    let short : low z ≡ length (take (stated s) (drop 6 s)) - 4 = omega (arith, four_fit e s x typed, is) in
    let reads : x.reader (take (low z) (drop 6 s)) ≡ got t.entry [] = ap (λ (n : ℕ). x.reader (take n (drop 6 s))) short ∙ own_fields e s x typed in
    next_fronted f s t 88 z none (sym (untyped_is (get_or s 0 0) typed)) four (omega (arith, is)) (fields_alone e x.reader _ reads) (rules_untyped f (written f t.type) r t.keeps)

-- ---- files

module _ (f : TermFile) where
  -- what is left is taken as the same records, and is no longer than before
  stripped_taken : {s s' : Bytes} → Stripped s s' → {g : TermFile} → AllTaken f g s → AllTaken f g s' × (length s' ≤ length s)
  unfolding is_typed untyped_record fronted stated low
  stripped_taken ended t = (t, omega arith)
  stripped_taken (as_it_stands w) all_taken = stripped_taken w all_taken
  stripped_taken (as_it_stands {s} {s'} w) (one_taken {g} {r = r} {rest} h t) =
      let k = stripped_taken w (subst (AllTaken f (g ++ (r ∷ []))) (sym (next_left g s h)) t) in (
        one_taken (next_alone g s (next_inverse g s h) s') k.0,
        omega (arith, k.1, next_size g s h, length-append (take (6 + stated s) s) s', length-take (6 + stated s) s, length-drop (6 + stated s) s),
      )
  stripped_taken (without_type z typed four is w) all_taken = absurd (true≢false (sym typed))
  stripped_taken (without_type {s} {s'} z typed four is w) (one_taken {g} {r = r} {rest} h t) =
      let k = stripped_taken w (subst (AllTaken f (g ++ (r ∷ []))) (sym (next_left g s h)) t) in (
        one_taken (untyped_same g s h typed z four is s') k.0,
        omega (arith, k.1, is, four, next_size g s h, length-append z (take (low z) (drop 6 s)), length-append (z ++ take (low z) (drop 6 s)) s', length-take (low z) (drop 6 s), length-drop (6 + stated s) s),
      )

-- the two files are accepted as the same records
pub untyped_accepted : (file file' : Bytes) (work : ℕ) (f : TermFile) → checked file work ≡ accepted f → Stripped file file' → checked file' work ≡ accepted f
untyped_accepted file file' work f e w =
    let a = checked_inverse file work f e in
    let s = stripped_taken f w a.all in
    checked_again file' work f
    record { short = omega (arith, s.1, a.short); room = omega (arith, s.1, a.room); all = s.0 }

-- and so encode's answer is the same
pub untyped_encoded : (file file' : Bytes) (work room : ℕ) (f : TermFile) → checked file work ≡ accepted f → Stripped file file' → encoded file' work room ≡ encoded file work room
unfolding encoded
untyped_encoded file file' work room f e w = let same : checked file' work ≡ checked file work = untyped_accepted file file' work f e w ∙ sym e in rw (encoded, same)
