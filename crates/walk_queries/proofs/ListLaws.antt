-- The lists of types and enums, made one after the other: rows of a list are before those of the next, and share with no record.
-- Assumes nothing.
use Prim.Native.Nat.{ℕ, suc, ◌+◌, ◌*◌, ◌<◌, ◌≤◌}
use native.Mathlib.Omega.{arith}
use native.Mathlib.Decide.{dec_lt}
use mathlib.Core.Path.{◌≡◌, sym, ap, ◌∙◌, subst}
use mathlib.Core.Bool.{true}
use mathlib.Core.List.{List, []}
use mathlib.Core.Option.{none-ne-some}
use lib.ListN.{length, drop, get_or}
use Rattle.script_spec.specs.Base.{Bytes, ascending}
use Rattle.script_spec.specs.File.{TermFile, types, enums}
use Rattle.index.specs.Cells.{placed, cell, store, shared, Apart, type_offset, enum_offset, hash, enum_list, type_list, list_row}
use Rattle.index.specs.Standing.{body_at}
use Rattle.index.specs.Lists.{texts, Listed}
use Rattle.index.specs.Meaning.{used_entries, HasAttributes, HasMembers, CheckedIndex, TypeNoted}
use Rattle.index.specs.declared.Sizes.{Sizes}
use Rattle.index.proofs.Cells.{length_store, cell_store_same, cell_store_apart}
use Rattle.index.proofs.Growth.{counts_together}
use Rattle.index.proofs.Rows.{listed_same, rows_same, unnamed_same}
use Rattle.index_entry.proofs.Places.{length_texts}
use Rattle.walk_queries.specs.Made.{RowsOf, RowsStored, RowsFilled, ListAt, left_out, made, Side, Listing, KnownRecords, IndexWithLists, Sole}
use Rattle.walk_queries.proofs.FillLaws.{rows_list}
use Rattle.walk_queries.proofs.Attributes.{attributes_here, attributes_inside, members_here}
use Rattle.walk_queries.proofs.TypeNotes.{record_noted, sole_unattributed}
use Rattle.index_entry.specs.Types.{TypeAt}
use Rattle.index_entry.specs.Places.{texts_in}
use Rattle.index_entry.specs.Terms.{names_of}
use Rattle.index_entry.specs.Symbols.{EnumSaid, EnumAt}
use Rattle.index_entry.specs.declared.lists.Texts.{Texts}
use Rattle.index_entry.specs.declared.terms.Children.{Children}
use Rattle.index_entry.specs.declared.types.TypeEntry.{TypeEntry}
use Rattle.index_entry.specs.declared.types.TypeEntry.TheVariants as entry

-- ---- the lists of a column

module _ {file : Bytes} {k column offsets skip : ℕ} {has : ℕ → List Bytes → Type 0} {count next next' : ℕ} {work work' : List ℕ} where
  side_kept : Side file k column offsets skip has count next work → ((n : ℕ) → n < count → cell work' k column n ≡ cell work k column n) → ((n : ℕ) → n < count → cell work' k offsets n ≡ cell work k offsets n)
      → ((i : ℕ) → i < next → cell work' k list_row i ≡ cell work k list_row i) → next ≤ next' → Side file k column offsets skip has count next' work'
  side_kept S cells places rows more =
      record {
        lists = record {
          list = λ n base l e names h. listed_same (ap (body_at file) (places n l)) (λ j g. rows (base + j) (S.before n base l (sym (cells n l) ∙ e) names h j g)) (S.lists.list n base l (sym (cells n l) ∙ e) names h);
        };
        before = λ n base l e names h j g. omega (arith, S.before n base l (sym (cells n l) ∙ e) names h j g);
      }

module _ {file : Bytes} {k column offsets skip : ℕ} {has : ℕ → List Bytes → Type 0} {count next : ℕ} {work : List ℕ} where
  -- the list of the next record, or none
  side_added : Side file k column offsets skip has count next work
      → ((base : ℕ) → cell work k column count ≡ suc base → (names : List Bytes) → has count names
      → Listed (body_at file (cell work k offsets count)) skip names work k base × ((j : ℕ) → 2 * j < length names → base + j < next))
      → Side file k column offsets skip has (count + 1) next work
  side_added S new =
      record {
        lists = record { list = λ n base l e names h. old n base l e names h (dec_lt n count) };
        before = λ n base l e names h. rows n base l e names h (dec_lt n count);
      }
    where
      old : (n base : ℕ) → n < count + 1 → cell work k column n ≡ suc base → (names : List Bytes) → has n names → Dec (n < count) → Listed (body_at file (cell work k offsets n)) skip names work k base
      old n base l e names h (yes g) = S.lists.list n base g e names h
      old n base l e names h (no g) =
          let last : n ≡ count = omega arith in
          subst (λ (m : ℕ). Listed (body_at file (cell work k offsets m)) skip names work k base) (sym last)
          (new base (ap (cell work k column) (sym last) ∙ e) names (subst (λ (m : ℕ). has m names) last h)).0

      rows : (n base : ℕ) → n < count + 1 → cell work k column n ≡ suc base → (names : List Bytes) → has n names → Dec (n < count) → (j : ℕ) → 2 * j < length names → base + j < next
      rows n base l e names h (yes g) = S.before n base g e names h
      rows n base l e names h (no g) =
          let last : n ≡ count = omega arith in
          (new base (ap (cell work k column) (sym last) ∙ e) names (subst (λ (m : ℕ). has m names) last h)).1

-- ---- a note

module _ (k column n : ℕ) (c : column < 24) (inside : n < k) (filled : List ℕ) {work : List ℕ} (fits : 12 * k ≤ length filled) where
  noted : (v : ℕ) → work ≡ store filled k column n v → cell work k column n ≡ v
  noted v e = rw e (cell_store_same filled k column n v (record { fits = fits; column_is = c; index_is = inside }))

  -- there is no list
  noted_none : {A : Type 0} (base : ℕ) → work ≡ store filled k column n 0 → cell work k column n ≡ suc base → A
  noted_none base e h = let z : 0 ≡ suc base = sym (noted 0 e) ∙ h in absurd (omega arith)

  -- the list is in the rows that were filled
  noted_list : {body body' : Bytes} {names : List Bytes} {next next' rows from count skip : ℕ} (base : ℕ) → work ≡ store filled k column n (suc next) → ((i : ℕ) → Apart k column n list_row i) → RowsOf count rows → RowsFilled body k next rows from skip filled
      → body' ≡ body → names ≡ texts skip count (drop from body) → ascending names ≡ true → next' ≡ next + rows → cell work k column n ≡ suc base
      → Listed body' skip names work k base × ((j : ℕ) → 2 * j < length names → base + j < next')
  noted_list {body} {body'} {names} {next} {next'} {rows} {from} {count} {skip} base e apart R P b q up more h =
      let first : next ≡ base = omega (arith, noted (suc next) e) in
      let size : length names ≡ count = ap length q ∙ length_texts skip count (drop from body) in
      let list : Listed body skip names work k next = rows_list R P q up (λ j l. rw e (cell_store_apart filled k column n (suc next) list_row (next + j) (apart (next + j)))) in
      (rw (b, ← first) list, λ j l. omega (arith, R.enough))

-- ---- rows

module _ {file : Bytes} {f : TermFile} {k terms : ℕ} {work₀ : List ℕ} (K : KnownRecords file f k terms work₀) where
  -- the rows of a list that is not noted yet
  rows_kept : {ty en next rows : ℕ} {work filled : List ℕ} → ty ≤ length (types f) → en ≤ length (enums f) → (0 < rows → next + rows + terms ≤ k) → RowsStored k next rows work filled → Listing file f k work₀ ty en next work
      → Listing file f k work₀ ty en next filled
  unfolding used_entries shared placed
  rows_kept {next = next} {rows} {work} {filled} ty en room S L =
      record {
        same_size = S.same_size ∙ L.same_size;
        same = λ column i l. S.same column i (λ j g. record {
          other = λ e q. let z : i < used_entries f list_row = rw (← e) at l in omega arith;
          facing = λ e q. let z : i < used_entries f 7 = rw (← e) at l in omega (arith, K.terms_are, room (omega arith));
        }) ∙ L.same column i l;
        slots = λ i. S.same hash i (λ j g. record { other = λ e q. omega arith; facing = λ e q. omega arith }) ∙ L.slots i;
        of_types =
            side_kept L.of_types (λ n l. S.same type_list n (λ j g. record { other = λ e q. omega arith; facing = λ e q. omega arith }))
            (λ n l. S.same type_offset n (λ j g. record { other = λ e q. omega arith; facing = λ e q. omega arith }))
            (λ i l. S.same list_row i (λ j g. record { other = λ e q. omega arith; facing = λ e q. omega arith })) (omega arith);
        of_enums =
            side_kept L.of_enums (λ n l. S.same enum_list n (λ j g. record { other = λ e q. omega arith; facing = λ e q. omega arith }))
            (λ n l. S.same enum_offset n (λ j g. record { other = λ e q. omega arith; facing = λ e q. omega arith }))
            (λ i l. S.same list_row i (λ j g. record { other = λ e q. omega arith; facing = λ e q. omega arith })) (omega arith);
        noted = λ t l. rw (S.same type_list t (λ j g. record { other = λ e q. omega arith; facing = λ e q. omega arith })) (L.noted t l);
      }

  -- what is noted of the next type
  noted_added : {t : ℕ} (work : List ℕ) → ((u : ℕ) → u < t → TypeNoted f u (cell work k type_list u)) → TypeNoted f t (cell work k type_list t) → (u : ℕ) → u < t + 1 → TypeNoted f u (cell work k type_list u)
  noted_added {t} work old new u l = by (dec_lt u t)
    where
      by : Dec (u < t) → TypeNoted f u (cell work k type_list u)
      by (yes g) = old u g
      by (no g) = let last : t ≡ u = omega arith in subst (λ (m : ℕ). TypeNoted f m (cell work k type_list m)) last new

  -- the entry of a type in the column of lists
  pub type_noted : (v : ℕ) {t next next' : ℕ} {work work' : List ℕ} → t < length (types f) → next ≤ next' → work' ≡ store work k type_list t v → Listing file f k work₀ t 0 next work
      → ((base : ℕ) → cell work' k type_list t ≡ suc base → (names : List Bytes) → HasAttributes f t names
      → Listed (body_at file (cell work' k type_offset t)) 4 names work' k base × ((j : ℕ) → 2 * j < length names → base + j < next'))
      → TypeNoted f t v → Listing file f k work₀ (t + 1) 0 next' work'
  unfolding used_entries shared placed
  type_noted v {t} {next} {next'} {work} {work'} l more e L new is =
      let few = counts_together f in
      let fit = K.index.fit in
      let kept : (column i : ℕ) → Apart k type_list t column i → cell work' k column i ≡ cell work k column i = λ column i apart. rw e (cell_store_apart work k type_list t v column i apart) in
      record {
        same_size = rw e (length_store work k type_list t v ∙ L.same_size);
        same = λ column i g. kept column i (record {
          other = λ h q. let z : i < used_entries f type_list = rw (← h) at g in omega arith;
          facing = λ h q. let z : i < used_entries f 4 = rw (← h) at g in omega arith;
        }) ∙ L.same column i g;
        slots = λ i. kept hash i (record { other = λ h q. omega arith; facing = λ h q. omega arith }) ∙ L.slots i;
        of_types =
            side_added
            (side_kept L.of_types (λ n g. kept type_list n (record { other = λ h q. omega arith; facing = λ h q. omega arith }))
            (λ n g. kept type_offset n (record { other = λ h q. omega arith; facing = λ h q. omega arith }))
            (λ i g. kept list_row i (record { other = λ h q. omega arith; facing = λ h q. omega arith })) more)
            new;
        of_enums =
            side_kept L.of_enums (λ n g. kept enum_list n (record { other = λ h q. omega arith; facing = λ h q. omega arith }))
            (λ n g. kept enum_offset n (record { other = λ h q. omega arith; facing = λ h q. omega arith }))
            (λ i g. kept list_row i (record { other = λ h q. omega arith; facing = λ h q. omega arith })) more;
        noted =
            noted_added work' (λ u g. rw (kept type_list u (record { other = λ h z. omega (arith, g, z); facing = λ h q. omega arith })) (L.noted u g))
            (rw (noted k type_list t (omega arith) (omega arith) work (omega (arith, L.same_size, K.index.fits)) v e) is);
      }

  -- the entry of an enum
  enum_noted : (v : ℕ) {ty en next next' : ℕ} {work work' : List ℕ} → en < length (enums f) → next ≤ next' → work' ≡ store work k enum_list en v → Listing file f k work₀ ty en next work
      → ((base : ℕ) → cell work' k enum_list en ≡ suc base → (names : List Bytes) → HasMembers f en names
      → Listed (body_at file (cell work' k enum_offset en)) 0 names work' k base × ((j : ℕ) → 2 * j < length names → base + j < next'))
      → Listing file f k work₀ ty (en + 1) next' work'
  unfolding used_entries shared placed
  enum_noted v {ty} {en} {next} {next'} {work} {work'} l more e L new =
      let few = counts_together f in
      let fit = K.index.fit in
      let kept : (column i : ℕ) → Apart k enum_list en column i → cell work' k column i ≡ cell work k column i = λ column i apart. rw e (cell_store_apart work k enum_list en v column i apart) in
      record {
        same_size = rw e (length_store work k enum_list en v ∙ L.same_size);
        same = λ column i g. kept column i (record {
          other = λ h q. let z : i < used_entries f enum_list = rw (← h) at g in omega arith;
          facing = λ h q. let z : i < used_entries f 1 = rw (← h) at g in omega arith;
        }) ∙ L.same column i g;
        slots = λ i. kept hash i (record { other = λ h q. omega arith; facing = λ h q. omega arith }) ∙ L.slots i;
        of_types =
            side_kept L.of_types (λ n g. kept type_list n (record { other = λ h q. omega arith; facing = λ h q. omega arith }))
            (λ n g. kept type_offset n (record { other = λ h q. omega arith; facing = λ h q. omega arith }))
            (λ i g. kept list_row i (record { other = λ h q. omega arith; facing = λ h q. omega arith })) more;
        of_enums =
            side_added
            (side_kept L.of_enums (λ n g. kept enum_list n (record { other = λ h q. omega arith; facing = λ h q. omega arith }))
            (λ n g. kept enum_offset n (record { other = λ h q. omega arith; facing = λ h q. omega arith }))
            (λ i g. kept list_row i (record { other = λ h q. omega arith; facing = λ h q. omega arith })) more)
            new;
        noted = λ u g. rw (kept type_list u (record { other = λ h q. omega arith; facing = λ h q. omega arith })) (L.noted u g);
      }

  -- the list of a type's attributes
  pub type_listed : {t : ℕ} {r : TypeEntry} {c : Children} {among : Texts} {next next' : ℕ} {work work' : List ℕ} → t < length (types f) → Listing file f k work₀ t 0 next work → TypeAt file (cell work k type_offset t) r
      → r ≡ entry.Record c → among ≡ names_of c → ListAt among.body.now k terms type_list t among.from among.left among.skip next work next' work' → Listing file f k work₀ (t + 1) 0 next' work'
  unfolding used_entries shared placed names_of texts_in
  type_listed {t} {r} {c} {among} {next} {next'} {work} {work'} l L T is named A =
      go (subst (λ (x : Texts). ListAt x.body.now k terms type_list t x.from x.left x.skip next work next' work') named A)
    where
      few : t < k
      few = omega (arith, K.index.fit, counts_together f)

      here : cell work k type_offset t ≡ cell work₀ k type_offset t
      here = L.same type_offset t l

      noted_here : (v : ℕ) → TypeNoted f t v
      noted_here v = record_noted v (attributes_here (subst (λ (o : ℕ). TypeAt file o r) here T) is f K.index l)

      go : ListAt c.body.now k terms type_list t c.from c.left 4 next work next' work' → Listing file f k work₀ (t + 1) 0 next' work'
      go (left_out rows filled room S e q) =
          let M = rows_kept (omega arith) (omega arith) room S L in
          type_noted 0 l (omega arith) e M (λ base d names h. noted_none k type_list t (omega arith) few filled (omega (arith, M.same_size, K.index.fits)) base e d) (noted_here 0)
      go (made rows filled room S e q R P) =
          let M = rows_kept (omega arith) (omega arith) room S L in
          let fits : 12 * k ≤ length filled = omega (arith, M.same_size, K.index.fits) in
          let place : cell work' k type_offset t ≡ cell work k type_offset t =
          (rw e (cell_store_apart filled k type_list t (suc next) type_offset t (record { other = λ h q. omega arith; facing = λ h q. omega arith })))
          ∙ S.same type_offset t (λ j g. record { other = λ h q. omega arith; facing = λ h q. omega arith }) in
          type_noted (suc next) l (omega arith) e M
          (λ base d names h. noted_list k type_list t (omega arith) few filled fits base e (λ i. record { other = λ h q. omega arith; facing = λ h q. omega arith }) R (P (omega (arith, L.same_size, K.index.fits)))
          (ap (body_at file) place ∙ sym (attributes_inside T is)) (names_listed names h) (K.ascends.attributes_ascend t names l h) q d)
          (noted_here (suc next))
        where
          names_listed : (names : List Bytes) → HasAttributes f t names → names ≡ texts 4 c.left (drop c.from c.body.now)
          names_listed names h = let at = attributes_here (subst (λ (o : ℕ). TypeAt file o r) here T) is f K.index l in cc

  -- a type that has none, and is no entity type
  pub type_unlisted : {t next v : ℕ} {r : TypeEntry} {work work' : List ℕ} → t < length (types f) → Listing file f k work₀ t 0 next work → TypeAt file (cell work k type_offset t) r → Sole r → TypeNoted f t v
      → work' ≡ store work k type_list t v → Listing file f k work₀ (t + 1) 0 next work'
  unfolding used_entries
  type_unlisted {t} {next} {v} {r} {work} {work'} l L T sole note e =
      type_noted v l (omega arith) e L
      (λ base c names q. absurd (none-ne-some names (sym (sole_unattributed (subst (λ (o : ℕ). TypeAt file o r) (L.same type_offset t l) T) sole f K.index l) ∙ q))) note

  -- the list of an enum's members
  pub enum_listed : {n o : ℕ} {x : Texts} {next next' : ℕ} {work work' : List ℕ} → n < length (enums f) → Listing file f k work₀ (length (types f)) n next work → o ≡ cell work k enum_offset n → EnumAt file o x
      → ListAt x.body.now k terms enum_list n x.from x.left x.skip next work next' work' → Listing file f k work₀ (length (types f)) (n + 1) next' work'
  unfolding used_entries shared placed texts_in
  enum_listed {n} {o} {x} {next} {next'} {work} {work'} l L at E A = go (subst (λ (y : ℕ). ListAt x.body.now k terms enum_list n x.from x.left y next work next' work') said.dense A)
    where
      few : n < k
      few = omega (arith, K.index.fit, counts_together f)

      said : EnumSaid (body_at file o) x (get_or (enums f) n ([], [])).1
      said = members_here (at ∙ L.same enum_offset n l) E f K.index l

      go : ListAt x.body.now k terms enum_list n x.from x.left 0 next work next' work' → Listing file f k work₀ (length (types f)) (n + 1) next' work'
      go (left_out rows filled room S e q) =
          let M = rows_kept (omega arith) (omega arith) room S L in
          enum_noted 0 l (omega arith) e M (λ base c names h. noted_none k enum_list n (omega arith) few filled (omega (arith, M.same_size, K.index.fits)) base e c)
      go (made rows filled room S e q R P) =
          let M = rows_kept (omega arith) (omega arith) room S L in
          let fits : 12 * k ≤ length filled = omega (arith, M.same_size, K.index.fits) in
          let place : cell work' k enum_offset n ≡ o =
          (rw e (cell_store_apart filled k enum_list n (suc next) enum_offset n (record { other = λ h q. omega arith; facing = λ h q. omega arith })))
          ∙ S.same enum_offset n (λ j g. record { other = λ h q. omega arith; facing = λ h q. omega arith }) ∙ sym at in
          enum_noted (suc next) l (omega arith) e M
          (λ base c names h. noted_list k enum_list n (omega arith) few filled fits base e (λ i. record { other = λ h q. omega arith; facing = λ h q. omega arith }) R (P (omega (arith, L.same_size, K.index.fits)))
          (ap (body_at file) place ∙ sym said.within) (names_listed names h) (K.ascends.members_ascend n names l h) q c)
        where
          names_listed : (names : List Bytes) → HasMembers f n names → names ≡ texts 0 x.left (drop x.from x.body.now)
          names_listed names h = sym h ∙ sym said.members_are ∙ ap (λ (y : ℕ). texts y x.left (drop x.from x.body.now)) said.dense

-- ---- all lists

pub listing_end : {file : Bytes} {f : TermFile} {sizes : Sizes} {next : ℕ} {work₀ work : List ℕ} → CheckedIndex file f work₀ sizes → Listing file f sizes.rows work₀ (length (types f)) (length (enums f)) next work → IndexWithLists file f sizes work₀ work
listing_end I L =
    record {
      index = record {
        rows = rows_same L.same_size L.same L.slots (record { of_types = L.of_types.lists; of_enums = L.of_enums.lists }) I.rows;
        sizes_are = I.sizes_are;
        small = I.small;
        noted = L.noted;
      };
      unnamed = unnamed_same L.same_size L.same;
    }
