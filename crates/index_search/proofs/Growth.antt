-- The slots for a file with one record more: old records stay reached, and the new one is reached by its slot or by that of an equal one.
-- Assumes nothing.
use mathlib.Core.Path.{◌≡◌, refl, sym, ap, ◌∙◌}
use mathlib.Core.Logic.{◌⊎◌, inl, inr, ⊎_elim}
use Prim.Native.Nat.{ℕ, suc, ◌*◌, ◌≤◌, ◌<◌}
use native.Mathlib.Omega.{arith}
use mathlib.Core.List.{List, [], ◌∷◌, ◌++◌}
use lib.ListN.{length, length-append}
use Rattle.script_spec.specs.Base.{Bytes}
use Rattle.script_spec.specs.Fields.{Entry}
use Rattle.script_spec.specs.File.{TermFile, Named, types, funs, terms, earlier}
use Rattle.index.specs.Cells.{cell, type_offset, fun_offset, term_offset, hash}
use Rattle.index.specs.First.{canonical}
use Rattle.index.specs.Standing.{entry_at}
use Rattle.index.specs.Lists.{Blank}
use Rattle.index.specs.Meaning.{Rows}
use Rattle.index.proofs.Rows.{all_rows}
use Rattle.index.proofs.Growth.{types_grown, funs_grown, terms_grown}
use Rattle.index.proofs.Later.{more_append, canonical_kept}
use Rattle.index.proofs.Stores.{used_entries, key_kept, Untouched, untouched_refl, untouched_slot, blank_slot}
use Rattle.index.specs.Names.{slot, key_of, Reached}
use Rattle.index.proofs.Names.{Stays, reached_kept}
use Rattle.index.specs.Empties.{empties}
use Rattle.index.proofs.Empties.{empties_same}
use Rattle.index_search.specs.Slots.{home_of, entry_or, entries, Slots}
use Rattle.index_search.proofs.Ring.{slot_inside}
use Rattle.index_search.proofs.Reach.{reached_equal, stored_stays, stored_fewer, reached_new}
use Rattle.index_search.specs.Storing.{Stored}
use Rattle.index_search.specs.Found.{At, Hit, Miss, Enrolled}
use Rattle.index_search.proofs.Numbers.{type_at_lem, fun_is_at, term_at_lem}

-- ---- a slot that was taken

-- no row has changed
pub stored_untouched : {work work₀ : List ℕ} {k b v : ℕ} → Stored work work₀ k b v → (f : TermFile) → Untouched f k work work₀
stored_untouched {work} {k = k} {b} {v} S f = rw S.is (untouched_slot f k work (slot k b S.distance) v (slot_inside k b S.distance S.inside S.near))

pub stored_unlisted : {work work₀ : List ℕ} {k b v ty en : ℕ} → Stored work work₀ k b v → Blank ty en work k → Blank ty en work₀ k
stored_unlisted {k = k} {b} {v} S B = rw S.is (blank_slot B (slot k b S.distance) v)

module _ {work work₀ : List ℕ} {k firsts kind count r : ℕ} {f : TermFile} {x : Entry} {ε : ℕ → Entry} (E : Enrolled work work₀ k firsts kind count r f x ε) where
  pub enrolled_found : Hit f x ε count (cell work k firsts) r ⊎ Miss f x ε count r
  enrolled_found = ⊎_elim (λ K. inl K.hit) (λ N. inr N.miss) E.told

  pub enrolled_untouched : (g : TermFile) → Untouched g k work work₀
  enrolled_untouched g = ⊎_elim (λ K. rw K.unchanged (untouched_refl g k work)) (λ N. stored_untouched N.stored g) E.told

  pub enrolled_unlisted : {ty en : ℕ} → Blank ty en work k → Blank ty en work₀ k
  enrolled_unlisted B = ⊎_elim (λ K. rw K.unchanged B) (λ N. stored_unlisted N.stored B) E.told

  module _ (fits : 12 * k ≤ length work) where
    slots_stay : Stays (cell work k hash) (cell work₀ k hash)
    slots_stay = ⊎_elim (λ K. record { same = λ i g. rw K.unchanged }) (λ N. stored_stays fits N.stored) E.told

    slots_fewer : empties (cell work k hash) k ≤ suc (empties (cell work₀ k hash) k)
    slots_fewer = ⊎_elim (λ K. rw K.unchanged (omega arith)) (λ N. stored_fewer fits N.stored) E.told

    module _ (work' : List ℕ) (same : (i : ℕ) → cell work' k hash i ≡ cell work₀ k hash i) where
      pub enrolled_stays : Stays (cell work k hash) (cell work' k hash)
      enrolled_stays = record { same = λ i g. same i ∙ slots_stay.same i g }

      pub enrolled_fewer : empties (cell work k hash) k ≤ suc (empties (cell work' k hash) k)
      enrolled_fewer = omega (arith, slots_fewer, empties_same (cell work₀ k hash) (cell work' k hash) k (λ i l. same i))

      -- the new record
      pub enrolled_reached : key_of work' k ≡ key_of work k → (ε' : ℕ → Entry) → ((n : ℕ) → n < count → ε' n ≡ canonical f (ε n)) → ε' count ≡ canonical f x
          → ((n : ℕ) → n < count → Reached (home_of (key_of work k) k) k (cell work k hash) kind count (λ m. canonical f (ε m)) n) → Reached (home_of (key_of work' k) k) k (cell work' k hash) kind (suc count) ε' count
      enrolled_reached keyed ε' agree last all =
          rw keyed
          (⊎_elim
          (λ K. let h = K.hit in
          reached_equal (agree h.number h.below ∙ h.equal ∙ sym last)
          (reached_kept enrolled_stays agree (omega arith) h.number h.below (all h.number h.below)))
          (λ N. reached_kept (record { same = λ i g. same i }) (λ n l. refl) (omega arith) count (omega arith) (reached_new fits N.stored refl (ap (home_of (key_of work k) k) (sym last))))
          E.told)

-- ---- all slots

module _ (file : Bytes) (f : TermFile) (r : Named) (k : ℕ) (work work' : List ℕ) where
  -- an old record's entry is as it was
  pub canonicals_kept : (offsets count : ℕ) → ((n : ℕ) → n < count → At file f (cell work k offsets n) (entries file work k offsets n)) → ((n : ℕ) → n < count → cell work' k offsets n ≡ cell work k offsets n)
      → (n : ℕ) → n < count → canonical (f ++ (r ∷ [])) (entries file work' k offsets n) ≡ canonical f (entries file work k offsets n)
  unfolding entries
  canonicals_kept offsets count at same n l =
      ap (λ (o : ℕ). canonical (f ++ (r ∷ [])) (entry_or (entry_at file o))) (same n l) ∙ canonical_kept f r (entries file work k offsets n) (at n l).in_range

  module _ (I : Rows file f work k) (U : Untouched f k work work') where
    pub types_kept : (n : ℕ) → n < length (types f) → canonical (f ++ (r ∷ [])) (entries file work' k type_offset n) ≡ canonical f (entries file work k type_offset n)
    unfolding used_entries
    types_kept = canonicals_kept type_offset (length (types f)) (type_at_lem I) (λ n l. U.same type_offset n l)

    pub funs_kept : (n : ℕ) → n < length (funs f) → canonical (f ++ (r ∷ [])) (entries file work' k fun_offset n) ≡ canonical f (entries file work k fun_offset n)
    unfolding used_entries
    funs_kept = canonicals_kept fun_offset (length (funs f)) (fun_is_at I) (λ n l. U.same fun_offset n l)

    pub terms_kept : (n : ℕ) → n < length (terms f) → canonical (f ++ (r ∷ [])) (entries file work' k term_offset n) ≡ canonical f (entries file work k term_offset n)
    unfolding used_entries
    terms_kept = canonicals_kept term_offset (length (terms f)) (term_at_lem I) (λ n l. U.same term_offset n l)

    -- a number of the longer file is reached
    abbrev ReachedIn : ℕ → ℕ → ℕ → ℕ → Type 0
    ReachedIn offsets kind count n = Reached (home_of (key_of work' k) k) k (cell work' k hash) kind count (λ m. canonical (f ++ (r ∷ [])) (entries file work' k offsets m)) n

    pub slots_grown : Slots file f work k → Stays (cell work k hash) (cell work' k hash) → empties (cell work k hash) k ≤ suc (empties (cell work' k hash) k)
        → (length (types f) < length (types (f ++ (r ∷ []))) → ReachedIn type_offset 0 (length (types (f ++ (r ∷ [])))) (length (types f)))
        → (length (funs f) < length (funs (f ++ (r ∷ []))) → ReachedIn fun_offset 1 (length (funs (f ++ (r ∷ [])))) (length (funs f)))
        → (length (terms f) < length (terms (f ++ (r ∷ []))) → ReachedIn term_offset 2 (length (terms (f ++ (r ∷ [])))) (length (terms f)))
        → Slots file (f ++ (r ∷ [])) work' k
    unfolding earlier
    slots_grown S stays fewer new-type new-fun new_term =
        let more = more_append f r in
        record {
          small = S.small;
          type_slots =
              all_rows (types f) (types (f ++ (r ∷ []))) (ReachedIn type_offset 0 (length (types (f ++ (r ∷ []))))) (types_grown f r)
              (λ n l. rw (key_kept U) (reached_kept stays types_kept more.types_more n l (S.type_slots n l))) new-type;
          fun_slots =
              all_rows (funs f) (funs (f ++ (r ∷ []))) (ReachedIn fun_offset 1 (length (funs (f ++ (r ∷ []))))) (funs_grown f r)
              (λ n l. rw (key_kept U) (reached_kept stays funs_kept more.funs_more n l (S.fun_slots n l))) new-fun;
          term_slots =
              all_rows (terms f) (terms (f ++ (r ∷ []))) (ReachedIn term_offset 2 (length (terms (f ++ (r ∷ []))))) (terms_grown f r)
              (λ n l. rw (key_kept U) (reached_kept stays terms_kept more.terms_more n l (S.term_slots n l))) new_term;
          taken = rw length-append (omega (arith, S.taken, fewer));
        }
