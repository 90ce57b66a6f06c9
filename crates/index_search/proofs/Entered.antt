-- The memory that is indexed and can be searched: for no records, and after a record of each kind is entered.
-- Assumes nothing.
use mathlib.Core.Path.{◌≡◌, refl, sym, ap, ◌∙◌, subst}
use Prim.Native.Nat.{ℕ, suc, ◌*◌, ◌≤◌, ◌<◌}
use native.Mathlib.Nat.{not-suc-le-zero}
use native.Mathlib.Omega.{arith}
use mathlib.Core.Bool.{true≢false, true, false}
use mathlib.Core.List.{List, [], ◌∷◌, ◌++◌}
use lib.Dec.{eqb}
use lib.ListN.{length, length-append}
use borrow.Author.Tests.{eq-eqb}
use Rattle.script_spec.specs.Base.{Bytes, collect}
use Rattle.script_spec.specs.Tree.{Ty, Fun, Tm, type_of, depth}
use Rattle.script_spec.specs.File.{TermFile, Named, type, enum, func, term, input, types, funs, terms, inputs, enums, type_at, term_at, earlier}
use Rattle.index.specs.Cells.{placed, cell, store, type_offset, type_first, type_depth, fun_offset, fun_first, term_offset, term_first, term_type, term_depth, enum_offset, hash, term_place, input_term, enum_list, type_list, note, fun_name}
use Rattle.index.specs.First.{canonical, first_type}
use Rattle.index.specs.Rules.{elements_differ}
use Rattle.index.specs.Standing.{entry_at}
use Rattle.index.specs.Meaning.{Stands, IndexedWithDepths}
use Rattle.index.proofs.Cells.{shared, cell_store_apart}
use Rattle.index.proofs.Growth.{counts_fewer, lists_type, lists_func, lists_term, lists_enum, lists_input}
use Rattle.index.proofs.Later.{canonical_kept}
use Rattle.index.proofs.Stores.{key_kept, untouched_then, type_stored, fun_stored, term_stored, enum_stored, input_stored}
use Rattle.index.proofs.Entered as rows
use Rattle.index.proofs.Names.{Stays, reached_kept, name_last, names_added}
use Rattle.index.specs.Names.{key_of, name_home, Reached, enum_name}
use Rattle.index.specs.Empties.{empties}
use Rattle.index.proofs.Empties.{empties_all, empties_same}
use Rattle.index_search.specs.Slots.{home_of, entries}
use Rattle.index_search.proofs.Reach.{stored_stays, stored_fewer, reached_new}
use Rattle.index_search.specs.Searchable.{Indexed}
use Rattle.index_search.specs.Found.{Enrols}
use Rattle.index_search.specs.Named.{NewName}
use Rattle.index_search.proofs.Numbers.{entries_read, type_looks, fun_looks, term_looks, type_found, fun_found, term_found}
use Rattle.index_search.proofs.Growth.{enrolled_found, stored_untouched, stored_unlisted, enrolled_untouched, enrolled_unlisted, enrolled_stays, enrolled_fewer, enrolled_reached, types_kept, funs_kept, terms_kept, slots_grown}

-- a memory with empty slots is the index of no records
pub indexed_none : (file : Bytes) (work : List ℕ) (k : ℕ) → 12 * k ≤ length work → k ≤ 1048576 → ((i : ℕ) → cell work k hash i ≡ 0) → Indexed file [] work k
unfolding types funs terms collect
indexed_none file work k fits small empty =
    let I = rows.indexed_none file work k fits in
    record {
      index = I.index;
      depths = I.depths;
      searchable =
          record {
            small = small;
            type_slots = λ n l. absurd (not-suc-le-zero l);
            fun_slots = λ n l. absurd (not-suc-le-zero l);
            term_slots = λ n l. absurd (not-suc-le-zero l);
            taken = omega (arith, empties_all (cell work k hash) k (λ i l. empty i));
          };
    }

-- numbers that a test tells apart
differ : (m n : ℕ) → eqb m n ≡ false → m ≡ n → ⊥
differ m n h e = true≢false (sym (eq-eqb m n e) ∙ h)

-- a store beside the slots
slots_beside : (work : List ℕ) (k column n v : ℕ) → eqb column hash ≡ false → eqb (shared column) hash ≡ false → (i : ℕ) → cell (store work k column n v) k hash i ≡ cell work k hash i
slots_beside work k column n v other facing i = cell_store_apart work k column n v hash i (record { other = λ e q. differ column hash other e; facing = λ e q. differ (shared column) hash facing e })

-- the new record's entry in the longer file
entry_added : (file : Bytes) (f : TermFile) (r : Named) (k : ℕ) (work' : List ℕ) (offsets n : ℕ) {o : ℕ} → cell work' k offsets n ≡ o → (s : Stands file f (earlier f) o r)
    → canonical (f ++ (r ∷ [])) (entries file work' k offsets n) ≡ canonical f s.entry
entry_added file f r k work' offsets n e s =
    ap (canonical (f ++ (r ∷ []))) (entries_read file work' k offsets n (ap (entry_at file) e ∙ s.reads)) ∙ canonical_kept f r s.entry s.in_range

-- one number more
one_more : {A : Type 0} (xs : List A) (x : A) {zs : List A} → zs ≡ xs ++ (x ∷ []) → suc (length xs) ≡ length zs
one_more xs x e = rw (e, length-append) (omega arith)

module _ {file : Bytes} {f : TermFile} {work : List ℕ} {k : ℕ} (I : Indexed file f work k) (room : suc (length f) ≤ k) where
  empty_left : 0 < empties (cell work k hash) k
  empty_left = omega (arith, I.searchable.taken)

  few : length f < 1048576
  few = omega (arith, I.searchable.small)

  without : IndexedWithDepths file f work k
  without = record { index = I.index; depths = I.depths }

  pub indexed_type : {work₀ : List ℕ} {o m d : ℕ} {t : Ty} → Enrols file work work₀ k type_offset type_first 0 (length (types f)) o m → Stands file f (earlier f) o (type t) → d ≡ depth t → d ≤ 256
      → Indexed file (f ++ (type t ∷ []))
      (store (store (store (store work₀ k type_offset (length (types f)) o) k type_first (length (types f)) m) k type_depth (length (types f)) d) k type_list (length (types f)) 0) k
  unfolding shared placed
  indexed_type {work₀} {o} {m} {d} {t} E s deep shallow =
      let n = length (types f) in
      let work' = store (store (store (store work₀ k type_offset n o) k type_first n m) k type_depth n d) k type_list n 0 in
      let A = E.go f s.entry (entries file work k type_offset) (type_looks I.index I.depths.unnamed.no_note I.searchable.type_slots s) (omega (arith, few, (counts_fewer f).types_fewer)) empty_left in
      let C = enrolled_untouched A f in
      let fits = I.index.fits in
      let S = type_stored f k work₀ (rw C.same_size fits) room o m d in
      let U = untouched_then C S.untouched in
      let same : (i : ℕ) → cell work' k hash i ≡ cell work₀ k hash i
      = λ i. slots_beside _ k type_list n 0 refl refl i ∙ slots_beside _ k type_depth n d refl refl i ∙ slots_beside _ k type_first n m refl refl i
      ∙ slots_beside _ k type_offset n o refl refl i in
      let J = rows.indexed_type without room (record { untouched = U; unlisted = λ B. S.unlisted (enrolled_unlisted A B); offset_is = S.offset_is; first_is = S.first_is; depth_is = S.depth_is }) (enrolled_stays A fits work' same) s (type_found I.index s (enrolled_found A)) deep shallow in
      let L = lists_type f t in
      record {
        index = J.index;
        depths = J.depths;
        searchable =
            slots_grown file f (type t) k work work' I.index U I.searchable (enrolled_stays A fits work' same) (enrolled_fewer A fits work' same)
            (λ l. subst (λ (count : ℕ). Reached (home_of (key_of work' k) k) k (cell work' k hash) 0 count (λ m. canonical (f ++ (type t ∷ [])) (entries file work' k type_offset m)) n) (one_more (types f) t L.types_are)
            (enrolled_reached A fits work' same (key_kept U) _ (types_kept file f (type t) k work work' I.index U) (entry_added file f (type t) k work' type_offset n S.offset_is s) I.searchable.type_slots))
            (λ l. absurd (omega (arith, ap length L.funs_are)))
            (λ l. absurd (omega (arith, ap length L.terms_are)));
      }

  pub indexed_func : {work₀ : List ℕ} {o m : ℕ} {g : Fun} → Enrols file work work₀ k fun_offset fun_first 1 (length (funs f)) o m → Stands file f (earlier f) o (func g)
      → Indexed file (f ++ (func g ∷ []))
      (store (store (store work₀ k fun_offset (length (funs f)) o) k fun_first (length (funs f)) m) k fun_name (length (funs f)) 0) k
  unfolding shared placed
  indexed_func {work₀} {o} {m} {g} E s =
      let n = length (funs f) in
      let work' = store (store (store work₀ k fun_offset n o) k fun_first n m) k fun_name n 0 in
      let A = E.go f s.entry (entries file work k fun_offset) (fun_looks I.index I.depths.unnamed.no_note I.searchable.fun_slots s) (omega (arith, few, (counts_fewer f).funs_fewer)) empty_left in
      let C = enrolled_untouched A f in
      let fits = I.index.fits in
      let S = fun_stored f k work₀ (rw C.same_size fits) room o m in
      let U = untouched_then C S.untouched in
      let same : (i : ℕ) → cell work' k hash i ≡ cell work₀ k hash i
      = λ i. slots_beside _ k fun_name n 0 refl refl i ∙ slots_beside _ k fun_first n m refl refl i ∙ slots_beside _ k fun_offset n o refl refl i in
      let J = rows.indexed_func without room (record { untouched = U; unlisted = λ B. S.unlisted (enrolled_unlisted A B); offset_is = S.offset_is; first_is = S.first_is; name_is = S.name_is }) (enrolled_stays A fits work' same) s (fun_found I.index s (enrolled_found A)) in
      let L = lists_func f g in
      record {
        index = J.index;
        depths = J.depths;
        searchable =
            slots_grown file f (func g) k work work' I.index U I.searchable (enrolled_stays A fits work' same) (enrolled_fewer A fits work' same)
            (λ l. absurd (omega (arith, ap length L.types_are)))
            (λ l. subst (λ (count : ℕ). Reached (home_of (key_of work' k) k) k (cell work' k hash) 1 count (λ m. canonical (f ++ (func g ∷ [])) (entries file work' k fun_offset m)) n) (one_more (funs f) g L.funs_are)
            (enrolled_reached A fits work' same (key_kept U) _ (funs_kept file f (func g) k work work' I.index U) (entry_added file f (func g) k work' fun_offset n S.offset_is s) I.searchable.fun_slots))
            (λ l. absurd (omega (arith, ap length L.terms_are)));
      }

  pub indexed_term : {work₀ : List ℕ} {o m τ d : ℕ} {t : Tm} → Enrols file work work₀ k term_offset term_first 2 (length (terms f)) o m → Stands file f (earlier f) o (term t)
      → elements_differ t ≡ true → τ < length (types f) → type_at f τ ≡ type_of t → first_type f τ ≡ τ → d ≡ depth t → d ≤ 256
      → Indexed file (f ++ (term t ∷ []))
      (store (store (store (store (store (store work₀ k term_offset (length (terms f)) o) k term_first (length (terms f)) m) k term_type (length (terms f)) τ) k term_depth (length (terms f)) d) k term_place (length (terms f)) (length f)) k note (length (terms f)) 0) k
  unfolding shared placed
  indexed_term {work₀} {o} {m} {τ} {d} {t} E s apart below type_is type_first_is deep shallow =
      let n = length (terms f) in
      let work' = store (store (store (store (store (store work₀ k term_offset n o) k term_first n m) k term_type n τ) k term_depth n d) k term_place n (length f)) k note n 0 in
      let A = E.go f s.entry (entries file work k term_offset) (term_looks I.index apart I.depths.unnamed.no_note I.searchable.term_slots s) (omega (arith, few, (counts_fewer f).terms_fewer)) empty_left in
      let C = enrolled_untouched A f in
      let fits = I.index.fits in
      let S = term_stored f k work₀ (rw C.same_size fits) room o m τ d (length f) in
      let U = untouched_then C S.untouched in
      let same : (i : ℕ) → cell work' k hash i ≡ cell work₀ k hash i
      = λ i. slots_beside _ k note n 0 refl refl i ∙ slots_beside _ k term_place n (length f) refl refl i ∙ slots_beside _ k term_depth n d refl refl i ∙ slots_beside _ k term_type n τ refl refl i ∙ slots_beside _ k term_first n m refl refl i
      ∙ slots_beside _ k term_offset n o refl refl i in
      let J = rows.indexed_term without room (record { untouched = U; unlisted = λ B. S.unlisted (enrolled_unlisted A B); offset_is = S.offset_is; first_is = S.first_is; type_is = S.type_is; depth_is = S.depth_is; place_is = S.place_is; note_is = S.note_is }) (enrolled_stays A fits work' same) s (term_found I.index s (enrolled_found A)) apart below type_is type_first_is deep shallow in
      let L = lists_term f t in
      record {
        index = J.index;
        depths = J.depths;
        searchable =
            slots_grown file f (term t) k work work' I.index U I.searchable (enrolled_stays A fits work' same) (enrolled_fewer A fits work' same)
            (λ l. absurd (omega (arith, ap length L.types_are)))
            (λ l. absurd (omega (arith, ap length L.funs_are)))
            (λ l. subst (λ (count : ℕ). Reached (home_of (key_of work' k) k) k (cell work' k hash) 2 count (λ m. canonical (f ++ (term t ∷ [])) (entries file work' k term_offset m)) n) (one_more (terms f) t L.terms_are)
            (enrolled_reached A fits work' same (key_kept U) _ (terms_kept file f (term t) k work work' I.index U) (entry_added file f (term t) k work' term_offset n S.offset_is s) I.searchable.term_slots));
      }

  pub indexed_enum : {work₀ : List ℕ} {o : ℕ} {name : Bytes} {members : List Bytes} → NewName work work₀ k f (length (enums f)) name → Stands file f (earlier f) o (enum name members)
      → Indexed file (f ++ (enum name members ∷ [])) (store (store work₀ k enum_offset (length (enums f)) o) k enum_list (length (enums f)) 0) k
  unfolding shared placed
  indexed_enum {work₀} {o} {name} {members} N s =
      let n = length (enums f) in
      let T = N.stored in
      let work' = store (store work₀ k enum_offset n o) k enum_list n 0 in
      let C = stored_untouched T f in
      let fits = I.index.fits in
      let S = enum_stored f k work₀ (rw C.same_size fits) room o in
      let U = untouched_then C S.untouched in
      let same : (i : ℕ) → cell work' k hash i ≡ cell work₀ k hash i
      = λ i. slots_beside _ k enum_list n 0 refl refl i ∙ slots_beside work₀ k enum_offset n o refl refl i in
      let stays : Stays (cell work k hash) (cell work' k hash) = record { same = λ i g. same i ∙ (stored_stays fits T).same i g } in
      let L = lists_enum f name members in
      let new : Reached (name_home (key_of work' k) k) k (cell work' k hash) 3 (suc n) (enum_name (f ++ (enum name members ∷ []))) n
      = rw (key_kept U) (reached_kept (record { same = λ i g. same i }) (λ m l. refl) (omega arith) n (omega arith) (reached_new fits T refl (ap (name_home (key_of work k) k) (sym (name_last f (f ++ (enum name members ∷ [])) name members L.enums_are))))) in
      let M =
      names_added f (f ++ (enum name members ∷ [])) name members L.enums_are stays (key_kept U) I.index.names
      (subst (λ (count : ℕ). Reached (name_home (key_of work' k) k) k (cell work' k hash) 3 count (enum_name (f ++ (enum name members ∷ []))) n) (one_more (enums f) (name, members) L.enums_are) new) N.miss.none in
      let J = rows.indexed_enum without room (record { untouched = U; unlisted = λ B. S.unlisted (stored_unlisted T B); offset_is = S.offset_is }) M s in
      record {
        index = J.index;
        depths = J.depths;
        searchable =
            slots_grown file f (enum name members) k work work' I.index U I.searchable stays
            (omega (arith, stored_fewer fits T, empties_same (cell work₀ k hash) (cell work' k hash) k (λ i l. same i)))
            (λ l. absurd (omega (arith, ap length L.types_are)))
            (λ l. absurd (omega (arith, ap length L.funs_are)))
            (λ l. absurd (omega (arith, ap length L.terms_are)));
      }

  pub indexed_input : {n : ℕ} → n < length (terms f) → Indexed file (f ++ (input (term_at f n) ∷ [])) (store work k input_term (length (inputs f)) n) k
  unfolding shared placed
  indexed_input {n} below =
      let t = term_at f n in
      let i = length (inputs f) in
      let work' = store work k input_term i n in
      let S = input_stored f k work I.index.fits room n in
      let same : (i : ℕ) → cell work' k hash i ≡ cell work k hash i
      = λ j. slots_beside work k input_term i n refl refl j in
      let stays : Stays (cell work k hash) (cell work' k hash) = record { same = λ i g. same i } in
      let J = rows.indexed_input without room S stays below in
      let L = lists_input f t in
      record {
        index = J.index;
        depths = J.depths;
        searchable =
            slots_grown file f (input t) k work work' I.index S.untouched I.searchable stays (omega (arith, empties_same (cell work k hash) (cell work' k hash) k (λ i l. same i)))
            (λ l. absurd (omega (arith, ap length L.types_are)))
            (λ l. absurd (omega (arith, ap length L.funs_are)))
            (λ l. absurd (omega (arith, ap length L.terms_are)));
      }
