-- The tables of a state in memory: at the start, after a record is named or noted, and a name from its entry. A store of a name keeps the
-- other tables, the notes and the index.
-- Assumes nothing.
use mathlib.Core.Path.{◌≡◌, refl, sym, ap, ◌∙◌, subst}
use mathlib.Core.Bool.{Bool, true, true≢false}
use mathlib.Core.List.{List, [], ◌∷◌, ◌++◌}
use Prim.Native.Nat.{ℕ, suc, ◌^◌, ◌+◌, ◌-◌, ◌*◌, ◌≤◌, ◌<◌}
use native.Mathlib.Numerals.{add-one}
use native.Mathlib.Decide.{ℕ_discrete}
use native.Mathlib.Omega.{arith}
use borrow.Author.Tests.{ne_eqb, lt-ltb, le-ltb}
use lib.ListN.{length}
use mathlib.Core.Option.{Option}
use Rattle.std.specs.Prelude as std
use Rattle.std.specs.Prelude.{None, Some, SomeIff, unwrap_or}
use Rattle.script_spec.specs.Base.{Bytes, bytes, place, any, is_some}
use Rattle.script_spec.specs.Tree.{eq_ty, eq_fun}
use Rattle.script_spec.specs.File.{TermFile, types, funs, terms, members, type_at, fun_at, term_at}
use Rattle.script_spec.specs.Text.{decimal}
use Rattle.script_spec.specs.Command.{Command}
use Rattle.script_spec.specs.Walk.{State, start, enter_type, enter_fun, enter_term, write, numbered, names}
use Rattle.refusal.specs.Numbers.{option_of}
use Rattle.index.specs.Cells.{placed, cell, store, type_offset, type_first, fun_offset, fun_first, key, term_offset, term_first, term_type, enum_offset, hash}
use Rattle.index.specs.Cells.{note, term_place, enum_list, type_list, list_row, input_term}
use Rattle.index.specs.First.{first_type, first_fun, first_term}
use Rattle.index.specs.Standing.{body_at}
use Rattle.index.specs.Meaning.{Rows, Index, Unnamed}
use Rattle.index.specs.declared.Sizes.{Sizes}
use Rattle.index.proofs.Names.{key_same, names_same}
use Rattle.index.proofs.Cells.{shared, Apart, length_store, cell_store_same, cell_store_apart}
use Rattle.index.proofs.Growth.{counts_together}
use Rattle.index.proofs.Rows.{listed_same, types_fit, funs_fit, terms_fit}
use Rattle.index.proofs.Firsts.{FirstEqual, Equality, any_place, first_below, first_types, first_funs, first_terms, equal_types, equal_funs, equal_terms}
use Rattle.walk_names.specs.Naming.{type_names, fun_names, term_names, is_name, has_names, name_in, raised, name_stored, name_at, place_of, Table, NoteSays, NotesHold, Numbers, Kept}
use Rattle.walk_names.proofs.Tables.{table_start, table_same, table_place, table_enter}

-- ---- memories that differ in names and notes alone

pub kept_refl : (work : List ℕ) (k : ℕ) → Kept work work k
kept_refl work k = record { size = refl; others = λ column i h. refl }

pub kept_trans : {work work' work'' : List ℕ} {k : ℕ} → Kept work work' k → Kept work' work'' k → Kept work work'' k
kept_trans p q = record { size = q.size ∙ p.size; others = λ column i h. q.others column i h ∙ p.others column i h }

-- a column of names has names, and so has the one that it shares with
names_both : (column : ℕ) → is_name column ≡ true → (has_names column ≡ true) × (has_names (shared column) ≡ true)
unfolding is_name has_names shared placed
names_both column h = go (ℕ_discrete column type_names) (ℕ_discrete column fun_names) (ℕ_discrete column term_names)
  where
    go : Dec (column ≡ type_names) → Dec (column ≡ fun_names) → Dec (column ≡ term_names) → (has_names column ≡ true) × (has_names (shared column) ≡ true)
    go (yes e) b c = rw e (refl, refl)
    go (no a) (yes e) c = rw e (refl, refl)
    go (no a) (no b) (yes e) = rw e (refl, refl)
    go (no a) (no b) (no c) = absurd (true≢false (sym h ∙ rw (ne_eqb column type_names a, ne_eqb column fun_names b, ne_eqb column term_names c)))

kept_cell : (work : List ℕ) (k column i v : ℕ) → (has_names column ≡ true) × (has_names (shared column) ≡ true) → Kept work (store work k column i v) k
kept_cell work k column i v both =
    record {
      size = length_store work k column i v;
      others = λ column' i' n.
          cell_store_apart work k column i v column' i'
          (record { other = λ e _. true≢false (sym (ap has_names (sym e) ∙ both.0) ∙ n); facing = λ e _. true≢false (sym (ap has_names (sym e) ∙ both.1) ∙ n) });
    }

pub kept_store : (work : List ℕ) (k column i v : ℕ) → is_name column ≡ true → Kept work (name_stored work k column i v) k
unfolding name_stored
kept_store work k column i v h = kept_cell work k column i (raised v) (names_both column h)

pub kept_note : (work : List ℕ) (k i v : ℕ) → Kept work (store work k note i v) k
unfolding is_name has_names shared placed
kept_note work k i v = kept_cell work k note i v (refl, refl)

module _ {file : Bytes} {f : TermFile} {work work' : List ℕ} {k : ℕ} (K : Kept work work' k) where
  -- the rows speak of no name
  pub rows_kept : Rows file f work k → Rows file f work' k
  unfolding is_name has_names
  rows_kept I =
      record {
        fits = rw K.size I.fits;
        type_row = λ n l. let r = I.type_row n l in record { stands = rw (K.others type_offset n refl) r.stands; first = K.others type_first n refl ∙ r.first };
        fun_row = λ n l. let r = I.fun_row n l in record { stands = rw (K.others fun_offset n refl) r.stands; first = K.others fun_first n refl ∙ r.first };
        term_row = λ n l. let r = I.term_row n l in
            record {
              stands = rw (K.others term_offset n refl) r.stands;
              first = K.others term_first n refl ∙ r.first;
              type_below = rw (K.others term_type n refl) r.type_below;
              type_is = rw (K.others term_type n refl) r.type_is;
              type_first_is = rw (K.others term_type n refl) r.type_first_is;
              place_is = K.others term_place n refl ∙ r.place_is;
              differ = r.differ;
            };
        enum_row = λ n l. let r = I.enum_row n l in record { stands = rw (K.others enum_offset n refl) r.stands };
        input_row = λ n l. let r = I.input_row n l in record { below = rw (K.others input_term n refl) r.below; is = rw (K.others input_term n refl) r.is };
        fit = I.fit;
        names = names_same (record { same = λ i h. K.others hash i refl }) (key_same _ _ _ (K.others key 0 refl) (K.others key 1 refl)) I.names refl;
        listed =
            record {
              of_types = record {
                list = λ t base l e names a. listed_same (ap (body_at file) (K.others type_offset t refl)) (λ j l. K.others list_row (base + j) refl) (I.listed.of_types.list t base l (sym (K.others type_list t refl) ∙ e) names a);
              };
              of_enums = record {
                list = λ t base l e names a. listed_same (ap (body_at file) (K.others enum_offset t refl)) (λ j l. K.others list_row (base + j) refl) (I.listed.of_enums.list t base l (sym (K.others enum_list t refl) ∙ e) names a);
              };
            };
      }

-- so does the index
pub index_kept : {file : Bytes} {f : TermFile} {work work' : List ℕ} {sizes : Sizes} → Kept work work' sizes.rows → Index file f work sizes → Index file f work' sizes
unfolding is_name has_names
index_kept K I = record {
  rows = rows_kept K I.rows;
  sizes_are = I.sizes_are;
  small = I.small;
  noted = λ t l. rw (K.others type_list t refl) (I.noted t l);
}

-- ---- a store

-- a name is read back as it was stored
raised_name : (v : ℕ) → v < 4294967040 → raised v - 256 ≡ v
unfolding raised placed
raised_name v h = rw (lt-ltb v 4294967040 h) (omega arith)

name_same : (work : List ℕ) (k column i v : ℕ) → 12 * k ≤ length work → column < 24 → i < k → v < 4294967040 → name_in (name_stored work k column i v) k column i ≡ v
unfolding name_in name_stored
name_same work k column i v fits c l small = ap (λ (m : ℕ). m - 256) (cell_store_same work k column i (raised v) (record { fits = fits; column_is = c; index_is = l })) ∙ raised_name v small

name_apart : (work : List ℕ) (k column i v column' j : ℕ) → Apart k column i column' j → name_in (name_stored work k column i v) k column' j ≡ name_in work k column' j
unfolding name_in name_stored
name_apart work k column i v column' j A = ap (λ (m : ℕ). m - 256) (cell_store_apart work k column i (raised v) column' j A)

module _ {A : Type 0} {eq : A → A → Bool} {count : ℕ} {name : ℕ → A} {first : ℕ → ℕ} (F : FirstEqual eq count name first) where
  -- the record n is entered, and one more than the table's length is stored at the number of its first equal record
  table_stored : (E : Equality eq) (work : List ℕ) (k column : ℕ) {table : List A} → 12 * k ≤ length work → column < 24 → (shared column ≡ column → ⊥) → count ≤ k → (n v : ℕ) → n < count
      → Table eq count name first (name_in work k column) table → name_in work k column (first n) ≡ 0 → v ≡ length table + 1 → v < 4294967040
      → Table eq count name first (name_in (name_stored work k column (first n) v) k column) (table ++ (name n ∷ []))
  table_stored E work k column {table} fits c own le n v l t z e small =
      table_enter E F (name_in (name_stored work k column (first n) v) k column) n l t z
      (name_same work k column (first n) v fits c (omega (arith, first_below F n l)) small ∙ e ∙ add-one (length table))
      (λ j h. name_apart work k column (first n) v column j (record { other = λ _ q. h (sym q); facing = λ q _. own q }))

  -- a store of what is no entry of the table
  table_beside : (work : List ℕ) (k column column' i v : ℕ) {table : List A} → ((j : ℕ) → j < count → Apart k column' i column j)
      → Table eq count name first (name_in work k column) table → Table eq count name first (name_in (name_stored work k column' i v) k column) table
  table_beside work k column column' i v apart t = table_same F (name_in (name_stored work k column' i v) k column) (λ j l. name_apart work k column' i v column j (apart j l)) t

-- a store of what is no note
notes_beside : {f : TermFile} (work : List ℕ) (k column i v : ℕ) → ((n : ℕ) → n < length (terms f) → Apart k column i note n) → NotesHold f work k → NotesHold f (name_stored work k column i v) k
unfolding name_stored
notes_beside work k column i v apart P = record { says = λ n l. rw (cell_store_apart work k column i (raised v) note n (apart n l)) (P.says n l) }

-- ---- the tables of a state

-- the start of the walk, where no record has a name
pub numbers_start : {file : Bytes} (f : TermFile) (work : List ℕ) (k : ℕ) → Unnamed file f work k → Numbers f work k start
unfolding start name_in
numbers_start f work k N =
    record {
      type_table = table_start (first_types f) _ (λ i l. omega (arith, N.types_free i l));
      fun_table = table_start (first_funs f) _ (λ i l. omega (arith, N.funs_free i l));
      term_table = table_start (first_terms f) _ (λ i l. omega (arith, N.terms_free i l));
      notes = record { says = λ n l h. absurd (h (N.no_note n l)) };
    }

-- commands are in no table
pub numbers_write : {f : TermFile} {work : List ℕ} {k : ℕ} {S : State} (cs : List Command) → Numbers f work k S → Numbers f work k (write cs S)
unfolding write
numbers_write cs N = record { type_table = N.type_table; fun_table = N.fun_table; term_table = N.term_table; notes = N.notes }

module _ {file : Bytes} {f : TermFile} {work : List ℕ} {k : ℕ} {S : State} (I : Rows file f work k) (N : Numbers f work k S) (n v : ℕ) where
  pub numbers_type : n < length (types f) → name_in work k type_names (first_type f n) ≡ 0 → v ≡ length S.types + 1 → v < 4294967040
      → Numbers f (name_stored work k type_names (first_type f n) v) k (enter_type (type_at f n) S)
  unfolding enter_type shared placed
  numbers_type l z e small =
      let few = counts_together f in
      let fit = I.fit in
      let below = first_below (first_types f) n l in
      record {
        type_table = table_stored (first_types f) equal_types work k type_names I.fits (omega arith) (λ q. omega arith) (types_fit I) n v l N.type_table z e small;
        fun_table = table_beside (first_funs f) work k fun_names type_names (first_type f n) v (λ j h. record { other = λ e q. omega arith; facing = λ e q. omega arith }) N.fun_table;
        term_table = table_beside (first_terms f) work k term_names type_names (first_type f n) v (λ j h. record { other = λ e q. omega arith; facing = λ e q. omega arith }) N.term_table;
        notes = notes_beside work k type_names (first_type f n) v (λ j h. record { other = λ e q. omega arith; facing = λ e q. omega arith }) N.notes;
      }

  pub numbers_fun : n < length (funs f) → name_in work k fun_names (first_fun f n) ≡ 0 → v ≡ length S.funs + 1 → v < 4294967040
      → Numbers f (name_stored work k fun_names (first_fun f n) v) k (enter_fun (fun_at f n) S)
  unfolding enter_fun shared placed
  numbers_fun l z e small =
      let few = counts_together f in
      let fit = I.fit in
      let below = first_below (first_funs f) n l in
      record {
        type_table = table_beside (first_types f) work k type_names fun_names (first_fun f n) v (λ j h. record { other = λ e q. omega arith; facing = λ e q. omega arith }) N.type_table;
        fun_table = table_stored (first_funs f) equal_funs work k fun_names I.fits (omega arith) (λ q. omega arith) (funs_fit I) n v l N.fun_table z e small;
        term_table = table_beside (first_terms f) work k term_names fun_names (first_fun f n) v (λ j h. record { other = λ e q. omega arith; facing = λ e q. omega arith }) N.term_table;
        notes = notes_beside work k fun_names (first_fun f n) v (λ j h. record { other = λ e q. omega arith; facing = λ e q. omega arith }) N.notes;
      }

  pub numbers_term : n < length (terms f) → name_in work k term_names (first_term f n) ≡ 0 → v ≡ length S.terms + 1 → v < 4294967040
      → Numbers f (name_stored work k term_names (first_term f n) v) k (enter_term (term_at f n) S)
  unfolding enter_term shared placed
  numbers_term l z e small =
      let few = counts_together f in
      let fit = I.fit in
      let below = first_below (first_terms f) n l in
      record {
        type_table = table_beside (first_types f) work k type_names term_names (first_term f n) v (λ j h. record { other = λ e q. omega arith; facing = λ e q. omega arith }) N.type_table;
        fun_table = table_beside (first_funs f) work k fun_names term_names (first_term f n) v (λ j h. record { other = λ e q. omega arith; facing = λ e q. omega arith }) N.fun_table;
        term_table = table_stored (first_terms f) equal_terms work k term_names I.fits (omega arith) (λ q. omega arith) (terms_fit I) n v l N.term_table z e small;
        notes = notes_beside work k term_names (first_term f n) v (λ j h. record { other = λ e q. omega arith; facing = λ e q. omega arith }) N.notes;
      }

  -- a note that holds
  pub numbers_note : n < length (terms f) → ((v ≡ 0 → ⊥) → NoteSays (members f) (term_at f n) v) → Numbers f (store work k note n v) k S
  unfolding name_in shared placed
  numbers_note l holds =
      let few = counts_together f in
      let fit = I.fit in
      let beside : (column j : ℕ) → Apart k note n column j → name_in (store work k note n v) k column j ≡ name_in work k column j = λ column j A. ap (λ (m : ℕ). m - 256) (cell_store_apart work k note n v column j A) in
      record {
        type_table = table_same (first_types f) _ (λ j h. beside type_names j (record { other = λ e q. omega arith; facing = λ e q. omega arith })) N.type_table;
        fun_table = table_same (first_funs f) _ (λ j h. beside fun_names j (record { other = λ e q. omega arith; facing = λ e q. omega arith })) N.fun_table;
        term_table = table_same (first_terms f) _ (λ j h. beside term_names j (record { other = λ e q. omega arith; facing = λ e q. omega arith })) N.term_table;
        notes = record { says = λ m h. said m h (ℕ_discrete n m) };
      }
    where
      Said : ℕ → ℕ → Type 0
      Said m c = (c ≡ 0 → ⊥) → NoteSays (members f) (term_at f m) c

      said : (m : ℕ) → m < length (terms f) → Dec (n ≡ m) → Said m (cell (store work k note n v) k note m)
      said m h (yes e) = subst (λ (i : ℕ). Said i (cell (store work k note n v) k note i)) e (rw (cell_store_same work k note n v (record { fits = I.fits; column_is = omega arith; index_is = omega (arith, l, terms_fit I) })) holds)
      said m h (no q) = rw (cell_store_apart work k note n v note m (record { other = λ a b. q b; facing = λ a b. omega arith })) (N.notes.says m h)

-- ---- names by numbers of records

module _ {file : Bytes} {f : TermFile} {work : List ℕ} {k : ℕ} (I : Rows file f work k) (n : ℕ) where
  pub name_at_type : n < length (types f) → name_at work k type_first type_names n ≡ name_in work k type_names (first_type f n)
  unfolding name_at
  name_at_type l = ap (name_in work k type_names) (I.type_row n l).first

  pub name_at_fun : n < length (funs f) → name_at work k fun_first fun_names n ≡ name_in work k fun_names (first_fun f n)
  unfolding name_at
  name_at_fun l = ap (name_in work k fun_names) (I.fun_row n l).first

  pub name_at_term : n < length (terms f) → name_at work k term_first term_names n ≡ name_in work k term_names (first_term f n)
  unfolding name_at
  name_at_term l = ap (name_in work k term_names) (I.term_row n l).first

  module _ {S : State} (N : Numbers f work k S) where
    pub place_type : n < length (types f) → place (eq_ty (type_at f n)) S.types ≡ place_of (name_at work k type_first type_names n)
    place_type l = table_place N.type_table n l ∙ ap place_of (sym (name_at_type l))

    pub name_fun : n < length (funs f) → (names S).func (fun_at f n) ≡ numbered (bytes "f") (place_of (name_at work k fun_first fun_names n))
    unfolding names
    name_fun l = ap (numbered (bytes "f")) (table_place N.fun_table n l ∙ ap place_of (sym (name_at_fun l)))

    pub name_term : n < length (terms f) → (names S).term (term_at f n) ≡ numbered (bytes "t") (place_of (name_at work k term_first term_names n))
    unfolding names
    name_term l = ap (numbered (bytes "t")) (table_place N.term_table n l ∙ ap place_of (sym (name_at_term l)))

-- ---- what is known by a name

-- there is a place where an answer gives one
known_said : (r : std.Option ℕ) {o : Option ℕ} → option_of r ≡ o → is_some o ≡ std.is_some r
unfolding is_some
known_said None e = rw (← e)
known_said (Some n) e = rw (← e)

module _ {file : Bytes} {f : TermFile} {work : List ℕ} {k : ℕ} {S : State} (I : Rows file f work k) (N : Numbers f work k S) (n : ℕ) (r : std.Option ℕ) where
  -- a type or a function is in its table where it has a name
  pub known_type : n < length (types f) → option_of r ≡ place_of (name_at work k type_first type_names n) → any (eq_ty (type_at f n)) S.types ≡ std.is_some r
  known_type l e = any_place (eq_ty (type_at f n)) S.types ∙ ap is_some (place_type I n N l) ∙ known_said r e

  pub known_fun : n < length (funs f) → option_of r ≡ place_of (name_at work k fun_first fun_names n) → any (eq_fun (fun_at f n)) S.funs ≡ std.is_some r
  known_fun l e = any_place (eq_fun (fun_at f n)) S.funs ∙ ap is_some (table_place N.fun_table n l ∙ ap place_of (sym (name_at_fun I n l))) ∙ known_said r e

-- ---- what the functions return

-- a name from its entry
name_there : (v : ℕ) (r : std.Option ℕ) → SomeIff r (257 ≤ v) (v - 257) → option_of r ≡ place_of (v - 256)
unfolding place_of
name_there v None h = let e : v - 256 ≡ 0 = omega (arith, h) in rw e
name_there v (Some n) h = let e : v - 256 ≡ suc n = omega (arith, h.0, h.1) in rw e

pub name_got : (work : List ℕ) (k first column n : ℕ) (r : std.Option ℕ) {at v : ℕ} → at ≡ cell work k first n → v ≡ cell work k column at → SomeIff r (257 ≤ v) (v - 257)
    → option_of r ≡ place_of (name_at work k first column n)
unfolding name_at name_in
name_got work k first column n r {v = v} a e h = name_there v r h ∙ ap (λ (m : ℕ). place_of (m - 256)) (e ∙ ap (cell work k column) a)

-- what is stored for a name
pub raised_said : (v : ℕ) (r : std.Option ℕ) → SomeIff r (v + 256 < 2 ^ 32) (v + 256) → unwrap_or r 0 ≡ raised v
unfolding raised placed
raised_said v None h = rw (le-ltb v 4294967040 (omega (arith, h)))
raised_said v (Some n) h = rw (lt-ltb v 4294967040 (omega (arith, h.0))) h.1

-- ---- writing a name

pub numbered_none : (letter : Bytes) {name : std.Option ℕ} → name ≡ None → [] ≡ numbered letter (option_of name)
unfolding numbered
numbered_none letter e = rw e

pub numbered_some : (letter : Bytes) (n : ℕ) {name : std.Option ℕ} → name ≡ Some n → letter ++ decimal n ≡ numbered letter (option_of name)
unfolding numbered
numbered_some letter n e = rw e
