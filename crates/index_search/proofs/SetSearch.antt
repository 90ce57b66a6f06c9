-- The search for an equal set, from its home, while its elements are noted: the memory is as it was when the notes are cleared.
-- Assumes nothing.
use Prim.Native.Nat.{ℕ, ◌<◌}
use native.Mathlib.Omega.{arith}
use mathlib.Core.Path.{◌≡◌, refl, sym, ap, ◌∙◌, subst}
use mathlib.Core.Logic.{inl, inr}
use mathlib.Core.Bool.{Bool, true}
use mathlib.Core.List.{List, map}
use lib.ListN.{length, get_or}
use Rattle.std.specs.Prelude.{Result, Ok, Err, Some as Just}
use Rattle.script_spec.specs.Base.{Bytes}
use Rattle.script_spec.specs.Tree.{Set}
use Rattle.script_spec.specs.Fields.{Entry, term}
use Rattle.script_spec.specs.File.{TermFile, earlier}
use Rattle.index.specs.Cells.{cell, type_first, type_depth, note, hash}
use Rattle.index.specs.First.{first_type, first_term, InRange, canonical}
use Rattle.index.specs.Rules.{different, differs}
use Rattle.index.specs.Names.{key_of, slot}
use Rattle.index.specs.Held.{Becomes}
use Rattle.index.specs.declared.Records.{Records}
use Rattle.index.specs.declared.RecordsMut.{RecordsMut}
use Rattle.index.proofs.Growth.{counts_fewer}
use Rattle.index.proofs.Held.{stays_becomes, stays_then}
use Rattle.index_compare.specs.View.{Decides}
use Rattle.check_rules.specs.Repeats.{first_at, Noted, Notes, Clears}
use Rattle.check_rules.specs.Tests.{different_terms}
use Rattle.check_rules.proofs.Noting.{all_noted, memory_back}
use Rattle.check_rules.proofs.Noted.{differ_references}
use Rattle.index_search.specs.Hash.{set_hash}
use Rattle.index_search.specs.Slots.{term_hash, entry_hash, home_of}
use Rattle.index_search.specs.Sets.{SetAt, SetHash, NotedSet, SameSet}
use Rattle.index_search.specs.Storing.{Scales}
use Rattle.index_search.specs.Probed.{Viewed, Unmet, Probes, SlotTaken}
use Rattle.index_search.specs.Found.{LooksFor, EnrolsIn}
use Rattle.index_search.specs.Tables.{offsets_of}
use Rattle.index_search.specs.declared.search.Compared.{Compared}
use Rattle.index_search.specs.declared.search.Compared.TheVariants.{Types, Funs, Terms}
use Rattle.index_search.specs.declared.sets.Listed.{Listed}
use Rattle.index_search.proofs.Gathered.{set_hash_ascended}
use Rattle.index_search.proofs.Probing.{met_equal, unmet_none, taken_stored}
use Rattle.index_search.proofs.SetLaws.{first_is}
use Rattle.index_search.proofs.SetEqual.{canonical_is, set_differs, members_below, numbers_below, set_firsts, column_kept, noted_equal, equal_noted}

-- ---- columns

-- the columns of offsets are not touched by notes
not_noted : (table : Compared) → (note ≡ offsets_of table → ⊥) × (type_depth ≡ offsets_of table → ⊥)
not_noted Types = (λ e. omega arith, λ e. omega arith)
not_noted Funs = (λ e. omega arith, λ e. omega arith)
not_noted Terms = (λ e. omega arith, λ e. omega arith)

module _ {k : ℕ} {column column' : ℕ → ℕ} {kind count : ℕ} {test : ℕ → Bool → Type 0} {b : ℕ} (same : (i : ℕ) → column' i ≡ column i) where
  unmet_same : {d : ℕ} → Unmet k column' kind count test b d → Unmet k column kind count test b d
  unmet_same {d} U =
      record {
        empty = record { most = U.empty.most; taken = λ j l e. U.empty.taken j l (same (slot k b j) ∙ e); empty = λ l. sym (same (slot k b d)) ∙ U.empty.empty l };
        passed = record { other = λ j n l m e. U.passed.other j n l m (same (slot k b j) ∙ e) };
      }

-- ---- the set that is looked for

-- the test of a set by its number, while those of another are noted
abbrev EqualSet : Bytes → List ℕ → ℕ → ℕ → ℕ → ℕ → ℕ → Bool → Type 0
EqualSet file work k offsets ty count n r = SameSet file work k (cell work k offsets n) ty count r

module _ (v : RecordsMut) {l : Listed} {o : ℕ} (S : SetAt v.file.now o (Just l)) where
  abbrev work : List ℕ
  work = v.work.now

  abbrev k : ℕ
  k = v.sizes.rows

  abbrev φ : ℕ → ℕ
  φ = first_at l.elements.body.now work k l.elements.at

  module _ {offsets kind count : ℕ} {f : TermFile} {x : Entry} {ε : ℕ → Entry} (L : LooksFor v.file.now work k offsets kind count o f x ε) where
    abbrev rs : List ℕ
    rs = (S.go x L.sought.reads).members

    x_is : x ≡ term (Set l.ty) rs
    x_is = (S.go x L.sought.reads).is

    size : length rs ≡ l.count
    size = (S.go x L.sought.reads).references.size

    in_range : InRange (earlier f) (term (Set l.ty) rs)
    in_range = subst (InRange (earlier f)) x_is L.sought.in_range

    differ : different (map (first_term f) rs) ≡ true
    differ = set_differs f l.ty rs (ap (differs f) (sym x_is) ∙ L.sought.differ)

    number_is : (i : ℕ) → i < length rs → φ i ≡ first_term f (get_or rs i 0)
    number_is i h =
        sym (first_is work k (S.go x L.sought.reads).references i (omega (arith, size))) ∙ (L.index.term_row (get_or rs i 0) (members_below f l.ty rs in_range i h)).first

    -- the home slot by the hash of the set
    home_is : {b h : ℕ} → SetHash work k l h → Scales k h b → b ≡ home_of (key_of work k) k (canonical f x)
    unfolding home_of entry_hash term_hash
    home_is {b} {h} H Z =
        let hashed : h ≡ set_hash (key_of work k) (first_type f l.ty) (map (first_term f) rs)
        = H.go rs (S.go x L.sought.reads).references ∙ (λ i. set_hash (key_of work k) ((set_firsts L.index l.ty rs in_range).0 i) ((set_firsts L.index l.ty rs in_range).1 i)) in
        rw (x_is, canonical_is f l.ty rs, set_hash_ascended (key_of work k) (first_type f l.ty) (map (first_term f) rs) differ, ← hashed) Z.is

    module _ {w : RecordsMut} {n : ℕ} (N : Notes l.elements.body.now v w l.elements.at l.count n) where
      -- every element is noted
      count_is : n ≡ length rs
      unfolding different_terms
      count_is =
          all_noted N L.index.fits
          (λ i h. let b = numbers_below f l.ty rs in_range i (omega (arith, size)) in omega (arith, b, number_is i (omega (arith, size)), (counts_fewer f).terms_fewer, L.index.fit))
          (differ_references l.elements.body.now work k l.elements.at (S.go x L.sought.reads).references (ap different (set_firsts L.index l.ty rs in_range).1 ∙ differ))
          (λ i h. let at = number_is i (omega (arith, size)) in ap (cell work k note) at ∙ L.unnoted (first_term f (get_or rs i 0)) (numbers_below f l.ty rs in_range i (omega (arith, size))))
          ∙ sym size

      notes : Noted work w.work.now k φ (length rs)
      notes = rw (← count_is) N.notes

      kept : (column j : ℕ) → (note ≡ column → ⊥) → (type_depth ≡ column → ⊥) → cell w.work.now k column j ≡ cell work k column j
      kept = column_kept L.index L.unnoted l.ty rs in_range differ notes number_is

      module _ (table : Compared) (is : offsets ≡ offsets_of table) where
        decides : (m : ℕ) (r : Bool) → m < count → EqualSet v.file.now w.work.now k offsets (cell work k type_first l.ty) l.count m r → Decides r (canonical f (ε m) ≡ canonical f x)
        decides m r h t =
            let Y = L.stand m h in
            let place : cell w.work.now k offsets m ≡ cell work k offsets m = kept offsets m (λ e. (not_noted table).0 (e ∙ is)) (λ e. (not_noted table).1 (e ∙ is)) in
            let D : Decides r (NotedSet w.work.now k (cell work k type_first l.ty) (length rs) (ε m)) = rw size (t.go (ε m) (rw place Y.reads)) in
            record {
              true_of = λ e. D.true_of (equal_noted L.index L.unnoted l.ty rs in_range differ notes number_is Y (e ∙ ap (canonical f) x_is));
              of_true = λ q. noted_equal L.index L.unnoted l.ty rs in_range differ notes number_is Y (D.of_true q) ∙ ap (canonical f) (sym x_is);
            }

-- ---- the search

module _ (v : RecordsMut) (table : Compared) {l : Listed} {o : ℕ} (S : SetAt v.file.now o (Just l)) {b h : ℕ} (H : SetHash v.work.now v.sizes.rows l h) (Z : Scales v.sizes.rows h b)
    {w : RecordsMut} {n : ℕ} (N : Notes l.elements.body.now v w l.elements.at l.count n) {u : RecordsMut} (C : Clears l.elements.body.now w u l.elements.at n) where
  abbrev test : ℕ → Bool → Type 0
  test = EqualSet v.file.now w.work.now v.sizes.rows (offsets_of table) (cell v.work.now v.sizes.rows type_first l.ty) l.count

  back : Becomes v u v.work.now
  back = memory_back N C

  module _ {kind count : ℕ} where
    -- what the search told, by the records as they were before the notes
    pub probed : (view : Records) {t offsets : ℕ} {r : Result ℕ ℕ} → Viewed w view → t ≡ cell v.work.now v.sizes.rows type_first l.ty → offsets ≡ offsets_of table
        → Probes view.work.now view.sizes.rows kind count (EqualSet view.file.now view.work.now view.sizes.rows offsets t l.count) b r → Probes w.work.now v.sizes.rows kind count test b r
    probed view V e q P = rw (V.file_is, V.work_is, V.sizes_are, N.becomes.file_is, N.becomes.sizes_are, e, q) at P

    -- an equal set was met
    pub set_old : {m r firsts : ℕ} → Probes w.work.now v.sizes.rows kind count test b (Ok m) → r ≡ cell u.work.now u.sizes.rows firsts m → EnrolsIn v u (offsets_of table) firsts kind count o r
    set_old {m} {firsts = firsts} P e =
        record {
          stays = stays_becomes back refl;
          enrols = record {
            go = λ f x ε L few room.
                record {
                  told = inl
                      (record {
                        hit = record { number = m; below = P.told.below; equal = met_equal (λ i. canonical f (ε i)) (canonical f x) (decides v S L N table refl) P.told; is = e ∙ rw (back.sizes_are, back.memory) };
                        unchanged = back.memory;
                      });
                };
          };
        }

    -- none was met
    pub set_new : {z : RecordsMut} {d firsts : ℕ} → Probes w.work.now v.sizes.rows kind count test b (Err d) → SlotTaken u z kind count b d → EnrolsIn v z (offsets_of table) firsts kind count o count
    set_new P K =
        record {
          stays = stays_then (stays_becomes back refl) K.stays;
          enrols = record {
            go = λ f x ε L few room.
                let U = unmet_same (λ i. kept v S L N hash i (λ e. omega arith) (λ e. omega arith)) P.told in
                record {
                  told = inr
                      (record {
                        miss = record { none = λ m g q. unmet_none (λ i. canonical f (ε i)) (canonical f x) (decides v S L N table refl) U (λ p. home_is v S L H Z) m q (L.reached m g); is = refl };
                        stored = rw (home_is v S L H Z) at (taken_stored U.empty Z.inside room (rw (back.memory, back.sizes_are) at (K.is few)));
                      });
                };
          };
        }
