-- A set that stands in the file: told by its mark, hashed by a sum over its elements, and compared by notes.
-- Assumes nothing.
use Prim.Native.Nat.{ℕ, ◌+◌, ◌%◌, ◌≤◌, ◌<◌}
use native.Mathlib.Omega.{arith}
use mathlib.Core.Path.{◌≡◌, refl, sym, ap, ◌∙◌}
use mathlib.Core.Bool.{Bool, false}
use mathlib.Core.List.{List, [], ◌∷◌, map}
use mathlib.Core.Option.{some}
use lib.ListN.{length, length-map, drop, get_or, drop_of_length-le}
use lib.Seq.{drop-cons}
use native.Mathlib.Numerals.{add-one}
use denote.Ref.{Bor}
use Rattle.std.specs.Prelude.{None as Nothing, Some as Just}
use Rattle.script_spec.specs.Base.{Bytes, bytes}
use Rattle.script_spec.specs.Tree.{Set}
use Rattle.script_spec.specs.Fields.{Entry, term, u32, untyped}
use Rattle.script_spec.proofs.Computes
use Rattle.refusal.specs.declared.Refusal.{Refusal}
use Rattle.read_field.specs.declared.Cursor.{Cursor}
use Rattle.read_field.specs.Takes.{TakesTo, RefusesAt}
use Rattle.index.specs.First.{NoSet}
use Rattle.index.specs.Cells.{cell, type_first, term_first, note}
use Rattle.index.specs.Names.{key_of}
use Rattle.index.specs.Standing.{mark_at, body_at, entry_at}
use Rattle.index_compare.specs.View.{Decides}
use Rattle.index_compare.proofs.Compared.{decides_not}
use Rattle.check_rules.specs.Repeats.{first_at, References, AllNoted}
use Rattle.check_rules.proofs.Noted.{numbers_are}
use Rattle.check_rules.proofs.Sets.{set_shown, set_mark, set_type_there, set_count_there, set_taken}
use Rattle.index_search.specs.Hash.{element, gathered, set_start, set_hash}
use Rattle.index_search.specs.Sets.{SetAt, SetHash, NotedSet, SameSet}
use Rattle.index_search.specs.declared.sets.Listed.{Listed}

-- ---- the mark

module _ (file : Bytes) (o : ℕ) where
  marked : untyped (get_or file o 0) ≡ 88 → get_or file (o + 1) 0 ≡ 67 → mark_at file o ≡ bytes "XC"
  unfolding mark_at Computes.base
  marked e q = λ i. e i ∷ q i ∷ []

  mark_bytes : mark_at file o ≡ bytes "XC" → (untyped (get_or file o 0) ≡ 88) × (get_or file (o + 1) 0 ≡ 67)
  unfolding mark_at Computes.base
  mark_bytes e = (ap (λ (l : Bytes). get_or l 0 0) e, ap (λ (l : Bytes). get_or l 1 0) e)

-- an entry under the mark of one that is no set is no set
pub same_mark : (file : Bytes) (o p : ℕ) {x y : Entry} → mark_at file o ≡ mark_at file p → entry_at file o ≡ some x → entry_at file p ≡ some y → NoSet y → NoSet x
same_mark file o p {x} {y} marks e q N =
    record {
      no = λ t rs is.
          let S = set_shown file p (sym marks ∙ set_mark file o (e ∙ ap some is)) q in
          N.no S.type S.elements S.is;
    }

-- ---- the set at an offset

module _ {file : Bytes} {o : ℕ} where
  -- no set is read
  none_read : ((t : ℕ) (rs : List ℕ) → entry_at file o ≡ some (term (Set t) rs) → ⊥) → SetAt file o Nothing
  none_read h = record { go = λ y e. record { no = λ t rs q. h t rs (e ∙ ap some q) } }

  pub other_first : {b : ℕ} → b ≡ untyped (get_or file o 0) → (b ≡ 88 → ⊥) → SetAt file o Nothing
  other_first e h = none_read (λ t rs q. h (e ∙ (mark_bytes file o (set_mark file o q)).0))

  pub other_second : {b : ℕ} → b ≡ get_or file (o + 1) 0 → (b ≡ 67 → ⊥) → SetAt file o Nothing
  other_second e h = none_read (λ t rs q. h (e ∙ (mark_bytes file o (set_mark file o q)).1))

  module _ {body : Bor Bytes} {c : Cursor} (is : body.now ≡ body_at file o) (starts : (c.body ≡ body) × (c.at ≡ 0)) where
    pub no_type : {x : Refusal} → RefusesAt u32 c x → SetAt file o Nothing
    no_type r = none_read (λ t rs q. set_type_there file o q is starts r)

    module _ {d : Cursor} {n : ℕ} (first : TakesTo u32 c d n) where
      pub no_count : {x : Refusal} → RefusesAt u32 d x → SetAt file o Nothing
      no_count r = none_read (λ t rs q. set_count_there file o q is starts first r)

      pub set_read_at : {l : Cursor} {k : ℕ} → untyped (get_or file o 0) ≡ 88 → get_or file (o + 1) 0 ≡ 67 → TakesTo u32 d l k → SetAt file o (Just (record { ty = n; count = k; elements = l }))
      set_read_at {l} {k} e q second =
          record {
            go = λ y r.
                let S = set_shown file o (marked file o e q) r in
                let T = set_taken file o {t = S.type} {rs = S.elements} (r ∙ ap some S.is) is starts first second in
                record { members = S.elements; is = S.is ∙ ap (λ (t : ℕ). term (Set t) S.elements) (sym T.type_is); references = T.references };
          }

-- ---- its hash

-- the first equal numbers of some terms
abbrev pub numbers : List ℕ → ℕ → List ℕ → List ℕ
numbers work k rs = map (cell work k term_first) rs

-- the sum with the elements from the place i on comes to the sum of all
pub record Summing (l : Listed) (work : List ℕ) (k key start sum i : ℕ) : Type 0 where
  pub most : i ≤ l.count
  pub go : (rs : List ℕ) → References l.elements.body.now l.elements.at rs l.count → gathered key start sum (drop i (numbers work k rs)) ≡ gathered key start start (numbers work k rs)

module _ {l : Listed} {work : List ℕ} {k key start : ℕ} where
  pub summing_start : Summing l work k key start start 0
  summing_start = record { most = omega arith; go = λ rs R. refl }

  module _ {sum i : ℕ} (S : Summing l work k key start sum i) where
    pub summing_more : {n more next : ℕ} → i < l.count → n ≡ first_at l.elements.body.now work k l.elements.at i → more ≡ element key start n → next ≡ (sum + more) % 18446744073709551616 → Summing l work k key start next (i + 1)
    unfolding gathered
    summing_more {n} {more} {next} h e q z =
        record {
          most = omega arith;
          go = λ rs R.
              let size : length (numbers work k rs) ≡ l.count = length-map rs (cell work k term_first) ∙ R.size in
              let here : get_or (numbers work k rs) i (cell work k term_first 0) ≡ n = numbers_are l.elements.body.now work k l.elements.at l.count rs R i h ∙ sym e in
              let split = drop-cons (numbers work k rs) i (cell work k term_first 0) (omega arith) in
              rw (add-one i, z, q, ← here) (ap (gathered key start sum) (sym split) ∙ S.go rs R);
        }

    pub summing_end : {t : ℕ} → key ≡ key_of work k → t ≡ cell work k type_first l.ty → start ≡ set_start key t l.count → l.count ≤ i → SetHash work k l sum
    unfolding gathered set_hash
    summing_end {t} is e q h =
        record {
          go = λ rs R.
              let size : length (numbers work k rs) ≡ l.count = length-map rs (cell work k term_first) ∙ R.size in
              let none : drop i (numbers work k rs) ≡ [] = drop_of_length-le (numbers work k rs) (omega arith) in
              let over : sum ≡ gathered key start start (numbers work k rs) = rw none at (S.go rs R) in
              over ∙ rw (q, e, is, size);
        }

-- ---- the test by notes

-- the parts of a set
pub set_parts : {a b : ℕ} {xs ys : List ℕ} → term (Set a) xs ≡ term (Set b) ys → (a ≡ b) × (xs ≡ ys)
set_parts e = (cc, cc)

-- the first equal number of a reference
pub first_is : (work : List ℕ) (k : ℕ) {body : Bytes} {from count : ℕ} {rs : List ℕ} → References body from rs count → (i : ℕ) → i < count → cell work k term_first (get_or rs i 0) ≡ first_at body work k from i
unfolding first_at
first_is work k R i h = ap (cell work k term_first) (R.are i h)

module _ {file : Bytes} {work : List ℕ} {k o ty count : ℕ} where
  pub same_none : SetAt file o Nothing → SameSet file work k o ty count false
  same_none S = record { go = λ y e. decides_not (λ N. (S.go y e).no N.of N.members N.is) }

  module _ {l : Listed} (S : SetAt file o (Just l)) where
    -- a set with notes is the one that was read
    parts_are : (y : Entry) (e : entry_at file o ≡ some y) (N : NotedSet work k ty count y) → (l.ty ≡ N.of) × ((S.go y e).members ≡ N.members)
    parts_are y e N = set_parts (sym (S.go y e).is ∙ N.is)

    pub other_count : (l.count ≡ count → ⊥) → SameSet file work k o ty count false
    other_count h = record { go = λ y e. decides_not (λ N. h (sym (S.go y e).references.size ∙ ap length (parts_are y e N).1 ∙ N.size)) }

    module _ {t : ℕ} (type_first_is : t ≡ cell work k type_first l.ty) where
      pub other_type : (t ≡ ty → ⊥) → SameSet file work k o ty count false
      other_type h = record { go = λ y e. decides_not (λ N. h (type_first_is ∙ ap (cell work k type_first) (parts_are y e N).0 ∙ N.type_is)) }

      pub by_notes : {r : Bool} → t ≡ ty → l.count ≡ count → Decides r (AllNoted l.elements.body.now work k l.elements.at count) → SameSet file work k o ty count r
      by_notes {r} q size D =
          record {
            go = λ y e.
                let L = S.go y e in
                record {
                  true_of = λ N.
                      let same : N.members ≡ L.members = sym (parts_are y e N).1 in
                      let noted : (i : ℕ) → i < count → cell work k note (cell work k term_first (get_or L.members i 0)) ≡ 0 → ⊥ = rw same at N.noted in
                      D.true_of (record { go = λ i h z. noted i h (ap (cell work k note) (first_is work k L.references i (omega arith)) ∙ z) });
                  of_true = λ t.
                      let A = D.of_true t in
                      record {
                        of = l.ty;
                        members = L.members;
                        is = L.is;
                        type_is = sym type_first_is ∙ q;
                        size = L.references.size ∙ size;
                        noted = λ i h z. A.go i h (ap (cell work k note) (sym (first_is work k L.references i (omega arith))) ∙ z);
                      };
                };
          }
