-- What the search answers is the number of the first equal type, function or term, or the count where there is none.
-- Assumes nothing.
use mathlib.Core.Path.{◌≡◌, refl, sym, ap, ◌∙◌}
use mathlib.Core.Logic.{◌⊎◌, ⊎_elim}
use Prim.Native.Nat.{ℕ, ◌<◌}
use native.Mathlib.Nat.{le_refl}
use native.Mathlib.Omega.{arith}
use mathlib.Core.Bool.{true}
use mathlib.Core.List.{List}
use mathlib.Core.Option.{Option, some}
use lib.ListN.{length}
use Rattle.script_spec.specs.Base.{Bytes, place}
use Rattle.script_spec.specs.Tree.{Ty, Fun, Tm, eq_ty, eq_fun, eq_tm}
use Rattle.script_spec.specs.Fields.{Entry, Earlier}
use Rattle.script_spec.specs.File.{TermFile, Named, type, func, term, types, funs, terms, named, earlier}
use Rattle.index.specs.Cells.{cell, note, type_offset, type_first, fun_offset, fun_first, term_offset, term_first}
use Rattle.index.specs.First.{InRange, or_else, first_type, first_fun, first_term}
use Rattle.index.specs.Rules.{differs, elements_differ}
use Rattle.index.specs.Standing.{entry_at}
use Rattle.index.specs.Meaning.{Stands, counted, Rows}
use Rattle.index.proofs.Rules.{OnlyTypes, types_differ, differs_named}
use Rattle.index.proofs.Later.{More, in_range_more}
use Rattle.index.proofs.Search.{Searched, types_searched, funs_searched, terms_searched}
use Rattle.index_search.specs.Slots.{entry_or, entries, AllReached}
use Rattle.index_search.specs.Found.{At, LooksFor, Hit, Miss}

module _ (file : Bytes) (work : List ℕ) (k : ℕ) where
  pub entries_read : (offsets n : ℕ) {x : Entry} → entry_at file (cell work k offsets n) ≡ some x → entries file work k offsets n ≡ x
  unfolding entries entry_or
  entries_read offsets n e = ap entry_or e

-- a record stands as an entry in range
module _ {file : Bytes} {f : TermFile} {e : Earlier} {o : ℕ} {r : Named} (s : Stands file f e o r) where
  stands_at : {x : Entry} → More e (earlier f) → differs f s.entry ≡ true → x ≡ s.entry → At file f o x
  stands_at more d q = record { reads = s.reads ∙ ap some (sym q); in_range = rw q (in_range_more more s.entry s.in_range); differ = rw q d }

  -- one that refers to types only
  types_only : OnlyTypes r → differs f s.entry ≡ true
  types_only o = types_differ f s.entry (rw s.names o)

  -- a term whose elements differ, if it is a set
  term_differs : {t : Tm} → InRange (earlier f) s.entry → r ≡ term t → elements_differ t ≡ true → differs f s.entry ≡ true
  term_differs {t} h q d = differs_named f s.entry t h (s.names ∙ q) ∙ d

-- no term has a note
abbrev pub NoNotes : TermFile → List ℕ → ℕ → Type 0
NoNotes f work k = (n : ℕ) → n < length (terms f) → cell work k note n ≡ 0

-- what the search found among the entries at the offsets of a column
abbrev Found : Bytes → List ℕ → ℕ → TermFile → ℕ → ℕ → ℕ → Entry → ℕ → Type 0
Found file work k f offsets firsts count x r = Hit f x (entries file work k offsets) count (cell work k firsts) r ⊎ Miss f x (entries file work k offsets) count r

module _ {file : Bytes} {f : TermFile} {work : List ℕ} {k : ℕ} (I : Rows file f work k) where
  module _ {A : Type 0} (wrap : A → Named) (offsets firsts count : ℕ) (first : ℕ → ℕ) (place : A → Option ℕ)
      (numbers : (n : ℕ) → n < count → cell work k firsts n ≡ first n)
      (S : Searched f wrap count first place (entries file work k offsets)) where
    -- the number that was found, once for the three kinds
    found_number : {o r : ℕ} {a : A} (s : Stands file f (earlier f) o (wrap a))
        → Found file work k f offsets firsts count s.entry r → r ≡ or_else count (place a)
    unfolding or_else
    found_number {a} s F =
        ⊎_elim
        (λ h. h.is ∙ numbers h.number h.below ∙ sym (ap (or_else count) (S.found s.entry a s.in_range s.names h.number h.below h.equal)))
        (λ m. m.is ∙ sym (ap (or_else count) (S.absent s.entry a s.names m.none)))
        F

  -- what each row's entry is
  type_entry : (n : ℕ) (h : n < length (types f)) → entries file work k type_offset n ≡ (I.type_row n h).stands.entry
  type_entry n h = entries_read file work k type_offset n (I.type_row n h).stands.reads

  type_more : (n : ℕ) → n < length (types f) → More (counted n 0 0) (earlier f)
  unfolding counted earlier
  type_more n h = record { types_more = omega arith; funs_more = omega arith; terms_more = omega arith }

  pub type_at_lem : (n : ℕ) → n < length (types f) → At file f (cell work k type_offset n) (entries file work k type_offset n)
  unfolding OnlyTypes
  type_at_lem n h = stands_at (I.type_row n h).stands (type_more n h) (types_only (I.type_row n h).stands tt) (type_entry n h)

  pub type_found : {o r : ℕ} {t : Ty} (s : Stands file f (earlier f) o (type t)) → Found file work k f type_offset type_first (length (types f)) s.entry r → r ≡ or_else (length (types f)) (place (eq_ty t) (types f))
  type_found s F =
      found_number type type_offset type_first (length (types f)) (first_type f) (λ t. place (eq_ty t) (types f)) (λ n h. (I.type_row n h).first)
      (types_searched f (entries file work k type_offset) (record { in_range = λ n h. (type_at_lem n h).in_range; names = λ n h. ap (named f) (type_entry n h) ∙ (I.type_row n h).stands.names })) s F

  pub type_looks : {o : ℕ} {t : Ty} → NoNotes f work k → AllReached file f work k type_offset 0 (length (types f)) → (s : Stands file f (earlier f) o (type t)) → LooksFor file work k type_offset 0 (length (types f)) o f s.entry (entries file work k type_offset)
  unfolding OnlyTypes
  type_looks free R s = record { index = I; sought = record { reads = s.reads; in_range = s.in_range; differ = types_only s tt }; stand = type_at_lem; kind_is = omega arith; unnoted = free; reached = R }

  fun_entry : (n : ℕ) (h : n < length (funs f)) → entries file work k fun_offset n ≡ (I.fun_row n h).stands.entry
  fun_entry n h = entries_read file work k fun_offset n (I.fun_row n h).stands.reads

  fun_more : More (counted (length (types f)) 0 0) (earlier f)
  unfolding counted earlier
  fun_more = record { types_more = le_refl _; funs_more = omega arith; terms_more = omega arith }

  pub fun_is_at : (n : ℕ) → n < length (funs f) → At file f (cell work k fun_offset n) (entries file work k fun_offset n)
  unfolding OnlyTypes
  fun_is_at n h = stands_at (I.fun_row n h).stands fun_more (types_only (I.fun_row n h).stands tt) (fun_entry n h)

  pub fun_found : {o r : ℕ} {g : Fun} (s : Stands file f (earlier f) o (func g)) → Found file work k f fun_offset fun_first (length (funs f)) s.entry r → r ≡ or_else (length (funs f)) (place (eq_fun g) (funs f))
  fun_found s F =
      found_number func fun_offset fun_first (length (funs f)) (first_fun f) (λ g. place (eq_fun g) (funs f)) (λ n h. (I.fun_row n h).first)
      (funs_searched f (entries file work k fun_offset) (record { in_range = λ n h. (fun_is_at n h).in_range; names = λ n h. ap (named f) (fun_entry n h) ∙ (I.fun_row n h).stands.names })) s F

  pub fun_looks : {o : ℕ} {g : Fun} → NoNotes f work k → AllReached file f work k fun_offset 1 (length (funs f)) → (s : Stands file f (earlier f) o (func g)) → LooksFor file work k fun_offset 1 (length (funs f)) o f s.entry (entries file work k fun_offset)
  unfolding OnlyTypes
  fun_looks free R s = record { index = I; sought = record { reads = s.reads; in_range = s.in_range; differ = types_only s tt }; stand = fun_is_at; kind_is = omega arith; unnoted = free; reached = R }

  term_entry : (n : ℕ) (h : n < length (terms f)) → entries file work k term_offset n ≡ (I.term_row n h).stands.entry
  term_entry n h = entries_read file work k term_offset n (I.term_row n h).stands.reads

  term_more : (n : ℕ) → n < length (terms f) → More (counted (length (types f)) (length (funs f)) n) (earlier f)
  unfolding counted earlier
  term_more n h = record { types_more = le_refl _; funs_more = le_refl _; terms_more = omega arith }

  pub term_at_lem : (n : ℕ) → n < length (terms f) → At file f (cell work k term_offset n) (entries file work k term_offset n)
  term_at_lem n h =
      let R = I.term_row n h in
      stands_at R.stands (term_more n h) (term_differs R.stands (in_range_more (term_more n h) R.stands.entry R.stands.in_range) refl R.differ) (term_entry n h)

  pub term_found : {o r : ℕ} {t : Tm} (s : Stands file f (earlier f) o (term t)) → Found file work k f term_offset term_first (length (terms f)) s.entry r → r ≡ or_else (length (terms f)) (place (eq_tm t) (terms f))
  term_found s F =
      found_number term term_offset term_first (length (terms f)) (first_term f) (λ t. place (eq_tm t) (terms f)) (λ n h. (I.term_row n h).first)
      (terms_searched f (entries file work k term_offset) (record { in_range = λ n h. (term_at_lem n h).in_range; names = λ n h. ap (named f) (term_entry n h) ∙ (I.term_row n h).stands.names })) s F

  pub term_looks : {o : ℕ} {t : Tm} → elements_differ t ≡ true → NoNotes f work k → AllReached file f work k term_offset 2 (length (terms f)) → (s : Stands file f (earlier f) o (term t)) → LooksFor file work k term_offset 2 (length (terms f)) o f s.entry (entries file work k term_offset)
  term_looks d free R s = record { index = I; sought = record { reads = s.reads; in_range = s.in_range; differ = term_differs s s.in_range refl d }; stand = term_at_lem; kind_is = omega arith; unnoted = free; reached = R }
