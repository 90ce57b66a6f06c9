-- A term is entered: the rules by its numbers, its type among those that are listed, the type that is written in it, and its row.
-- Assumes nothing.
use mathlib.Core.Path.{◌≡◌, refl, sym, ap, ◌∙◌}
use Prim.Native.Nat.{ℕ, suc, ◌+◌, ◌≤◌, ◌<◌, min}
use Rattle.std.specs.Prelude as rust
use Rattle.std.specs.Prelude.{Result, Ok, Err}
use native.Mathlib.Omega.{arith}
use native.Mathlib.Numerals.{add-one}
use borrow.Author.Tests.{lt-ltb, le-ltb, le-leb, lt-leb}
use mathlib.Core.Bool.{Bool, true, false, not, ◌&&◌}
use mathlib.Core.List.{List, [], ◌∷◌, ◌++◌, map}
use mathlib.Core.Option.{Option, none, some, none-ne-some}
use lib.Dec.{T, leb, ltb}
use lib.ListN.{length, get_or}
use Rattle.script_spec.specs.Base.{Bytes, is_some, if_some, place, place_from}
use Rattle.script_spec.specs.Tree.{Ty, Tm, eq_ty, type_of, depth, node, forest, Bool·, nil}
use Rattle.script_spec.specs.File.{TermFile, term, types, terms, type_at, term_at, named, named_mark, written, earlier, Rule, rules, broken}
use Rattle.script_spec.proofs.Laws.{eq_ty_eq}
use Rattle.index.specs.Cells.{cell, with_term_row, term_offset, term_first, term_type, term_depth}
use Rattle.index.specs.First.{or_else, first, first_type, InRange}
use Rattle.index.specs.Meaning.{SizesOf, together}
use Rattle.index.specs.declared.Sizes.{Sizes}
use Rattle.index.specs.declared.RecordsMut.{RecordsMut}
use Rattle.index.specs.Held.{Becomes}
use Rattle.index.proofs.Growth.{counts_fewer, together_are}
use Rattle.refusal.specs.Numbers.{number, option_of}
use Rattle.refusal.specs.declared.Refusal.{Refusal}
use Rattle.refusal.specs.declared.Refusal.TheVariants.{TypeNotListed, WrongType, TooMany}
use Rattle.index.specs.Rules.{greatest, limits, list_rules_by, rules_by, type_by, type_named}
use Rattle.index.proofs.Renamed.{map_agree}
use Rattle.index.proofs.Rules.{type_numbers, kept_differ}
use Rattle.index_compare.proofs.Prints.{Octets}
use Rattle.index_compare.specs.View.{viewed, reference_numbers, segments_at}
use Rattle.index_compare.specs.declared.compare.View.TheVariants.{Depth}
use Rattle.index_compare.proofs.Listed.{greatest_term}
use Rattle.index_search.specs.Searchable.{Indexed}
use Rattle.index_search.specs.Found.{EnrolsIn}
use Rattle.index_search.proofs.Entered.{indexed_term}
use Rattle.check_rules.specs.Terms.{broken_rule, TermRule}
use Rattle.check_types.specs.Sought.{TypeSought}
use Rattle.check_enter.specs.Entering.{Counted, Enters, written_at, WrittenBelow}
use Rattle.check_enter.specs.Terms.{StoresTerm, WritesOther}
use Rattle.check_enter.proofs.Parts.{TermParts, term_parts, deepest, term_value, rules_by_lem, term_depth_is}
use Rattle.check_enter.proofs.FirstBroken.{broken_here, broken_later, none_broken}
use Rattle.check_enter.proofs.Rewritten.{Rewritten, keeps_counted, keeps_left, keeps_then, unchanged_left, counted_left, indexed_as, sizes_as, one_more}
use Rattle.check_enter.proofs.Sizes.{sizes_term}
use Rattle.check_enter.proofs.WrittenTypes.{rule_written}

pub term_row_stored : (v : RecordsMut) (o ty deep : ℕ) {place first m : ℕ} {w₀ w : RecordsMut} → EnrolsIn v w₀ term_offset term_first 2 v.sizes.terms o first
    → (together v.sizes < 4294967296 → place ≡ together v.sizes) → Rewritten v w (with_term_row w₀.work.now v.sizes.rows v.sizes.terms o first ty deep place)
    → m ≡ min (v.sizes.terms + 1) 4294967295
    → StoresTerm v (record { file = w.file; work = w.work; sizes = record { rows = w.sizes.rows; types = w.sizes.types; funs = w.sizes.funs; terms = m; enums = w.sizes.enums; inputs = w.sizes.inputs } }) o ty deep
term_row_stored v o ty deep E placed R more =
    record {
      kept = keeps_counted R _ refl;
      go = λ f C room t s differ below type_is type_first_is d few.
          let c = C.sizes_are in
          let all = together_are c in
          record {
            indexed = indexed_as R (rw (c.terms_are, placed (omega (arith, all, room, C.indexed.searchable.small)) ∙ all) (indexed_term C.indexed room (rw c.terms_are at E.enrols) s differ below type_is type_first_is d few));
            sizes_are = sizes_term (sizes_as R c) t (one_more more (ap (λ (s : Sizes). s.terms) R.becomes.sizes_are) (omega (arith, c.terms_are, (counts_fewer f).terms_fewer, room, C.indexed.searchable.small)));
          };
    }

-- ---- the rules

-- the first broken rule of two lists
module _ (qs : List Rule) where
  broken_first : (rs : List Rule) {n : ℕ} → broken rs ≡ some n → broken (rs ++ qs) ≡ some n
  unfolding broken
  broken_first [] {n} e = absurd (none-ne-some n e)
  broken_first (r ∷ rs) {n} e = from r.1 e (λ k. broken_first rs k)
    where
      from : (b : Bool) → elim b as (λ x. Option ℕ) [ true ↦ broken rs | false ↦ some r.0 ] ≡ some n → (broken rs ≡ some n → broken (rs ++ qs) ≡ some n)
          → elim b as (λ x. Option ℕ) [ true ↦ broken (rs ++ qs) | false ↦ some r.0 ] ≡ some n
      from true k rest = rest k
      from false k rest = k

  broken_second : (rs : List Rule) → broken rs ≡ none → broken (rs ++ qs) ≡ broken qs
  unfolding broken
  broken_second [] e = refl
  broken_second (r ∷ rs) e = from r.1 e (λ k. broken_second rs k)
    where
      from : (b : Bool) → ◌≡◌ {A = Option ℕ} (elim b as (λ x. Option ℕ) [ true ↦ broken rs | false ↦ some r.0 ]) none → (broken rs ≡ none → broken (rs ++ qs) ≡ broken qs)
          → elim b as (λ x. Option ℕ) [ true ↦ broken (rs ++ qs) | false ↦ some r.0 ] ≡ broken qs
      from true k rest = rest k
      from false k rest = absurd (none-ne-some r.0 (sym k))

module _ {file : Bytes} {f : TermFile} {work : List ℕ} {k o : ℕ} {t : Tm} (I : Indexed file f work k) (P : TermParts file f o t) where
  -- the type by the numbers of its parts
  by_numbers : Ty
  by_numbers = type_named f (type_by (cell work k term_type) P.m P.rs)

  -- it is the term's
  by_numbers_is : by_numbers ≡ type_of t
  unfolding by_numbers named InRange earlier
  by_numbers_is =
      let same : node (named_mark f P.m) (forest (map (term_at f) P.rs)) ≡ t = term_value P.names in
      sym (type_numbers f (cell work k term_type) (λ m l. (I.index.term_row m l).type_is) P.m P.rs P.in_range.1) ∙ ap type_of same

  -- its place among those that are listed
  sought : Option ℕ
  sought = place (eq_ty by_numbers) (types f)

  -- rule 13
  abbrev limit : Rule
  limit = (13, ltb (length (terms f)) 60000 && leb (suc (deepest work k term_depth P)) 256)

  term_rules : (ty : Option Ty) → rules f ty (term t) ≡ list_rules_by f (cell work k term_first) P.m P.rs ++ ((12, is_some sought) ∷ (21, if_some (eq_ty by_numbers) ty) ∷ limit ∷ [])
  unfolding rules_by limits deepest by_numbers sought
  term_rules ty = rules_by_lem I P ty

  -- the greatest depth by the terms themselves, each of which has one
  deepest_terms : deepest work k term_depth P ≡ greatest (map (λ n. depth (term_at f n)) P.rs)
  unfolding deepest InRange earlier
  deepest_terms = ap greatest (map_agree I.depths.term_depth_is P.rs P.in_range.1)

  -- the depth that the walk over the body gives
  deepest_is : Octets file → greatest (reference_numbers 4 (map (viewed work k Depth) (segments_at file o))) ≡ deepest work k term_depth P
  unfolding deepest
  deepest_is octets = greatest_term file work k o octets P.reads

-- ---- the type

-- a place is one of the list, and passes
record PlaceFound {A : Type 0} (p : A → Bool) (d : A) (xs : List A) (n : ℕ) : Type 0 where
  below : n < length xs
  passes : T (p (get_or xs n d))

place_found : {A : Type 0} (p : A → Bool) (d : A) (xs : List A) (n : ℕ) → place p xs ≡ some n → PlaceFound p d xs n
unfolding place place_from
place_found p d [] n e = absurd (none-ne-some n e)
place_found p d (x ∷ xs) n e = from (p x) refl (place p xs) (λ m k. place_found p d xs m k) e
  where
    from : (b : Bool) → p x ≡ b → (o : Option ℕ) → ((m : ℕ) → o ≡ some m → PlaceFound p d xs m) → place_from b o ≡ some n → PlaceFound p d (x ∷ xs) n
    from true q o later k = let z : n ≡ 0 = cc in rw z record { below = omega arith; passes = rw q tt }
    from false q none later k = absurd (none-ne-some n k)
    from false q (some m) later k = let z : n ≡ suc m = cc in let h = later m refl in rw z record { below = omega (arith, h.below); passes = h.passes }

-- the type of a term that has a place
record TypeFound (f : TermFile) (t : Tm) (n : ℕ) : Type 0 where
  below : n < length (types f)
  type_is : type_at f n ≡ type_of t
  type_first_is : first_type f n ≡ n

module _ {file : Bytes} {f : TermFile} {work : List ℕ} {k o : ℕ} {t : Tm} (I : Indexed file f work k) (P : TermParts file f o t) where
  type_found : (n : ℕ) → sought I P ≡ some n → TypeFound f t n
  unfolding sought type_at first_type first or_else
  type_found n e =
      let h = place_found _ (node Bool· nil) (types f) n e in
      let X = by_numbers I P in
      let q : X ≡ type_at f n = eq_ty_eq X (type_at f n) h.passes in
      record {
        below = h.below;
        type_is = sym q ∙ by_numbers_is I P;
        type_first_is = rw (← q, e);
      }

-- ---- the answers

depth_positive : (t : Tm) → 0 < depth t
unfolding depth
depth_positive (node a ts) = omega arith

module _ (v : RecordsMut) {o n : ℕ} {r : Result (Unit {0}) Refusal} (octets : Octets v.file.now) (is : n ≡ greatest (reference_numbers 4 (map (viewed v.work.now v.sizes.rows Depth) (segments_at v.file.now o)))) (R : TermRule v o n r) where
  -- rules 9 and 10
  told : {f : TermFile} {t : Tm} (I : Indexed v.file.now f v.work.now v.sizes.rows) (P : TermParts v.file.now f o t) → broken_rule r ≡ broken (list_rules_by f (cell v.work.now v.sizes.rows term_first) P.m P.rs)
  told {f} I P = R.go f P.m P.rs (λ i. depth (term_at f i)) (λ i. depth_positive (term_at f i)) (is ∙ deepest_is I P octets ∙ deepest_terms I P) P.reads

  module _ {w : RecordsMut} (U : Becomes v w v.work.now) where
    pub term_broken : {e : Refusal} → r ≡ Err e → Enters term v w o (Err e)
    term_broken h =
        record {
          kept = keeps_left U;
          go = λ f C room t s below.
              let P = term_parts s in
              let I = C.indexed in
              record {
                rule = ap broken (term_rules I P _) ∙ broken_first _ (list_rules_by f (cell v.work.now v.sizes.rows term_first) P.m P.rs) (sym (told I P) ∙ ap broken_rule h);
                memory = unchanged_left U;
              };
        }

    module _ {found : rust.Option ℕ} (T : TypeSought v.file.now v.work.now v.sizes o found) (h : r ≡ Ok tt) where
      -- what is sought is the place of the type
      sought_is : (f : TermFile) (I : Indexed v.file.now f v.work.now v.sizes.rows) → SizesOf f v.sizes → {t : Tm} (P : TermParts v.file.now f o t) → option_of found ≡ sought I P
      unfolding by_numbers sought
      sought_is f I c P = T.go f I c P.m P.rs P.reads P.in_range

      -- rules 12, 21 and 13 are left
      rules_left : {f : TermFile} {t : Tm} (I : Indexed v.file.now f v.work.now v.sizes.rows) (P : TermParts v.file.now f o t) (ty : Option Ty)
          → broken (rules f ty (term t)) ≡ broken ((12, is_some (sought I P)) ∷ (21, if_some (eq_ty (by_numbers I P)) ty) ∷ limit I P ∷ [])
      rules_left {f} I P ty = ap broken (term_rules I P ty) ∙ broken_second _ (list_rules_by f (cell v.work.now v.sizes.rows term_first) P.m P.rs) (sym (told I P) ∙ ap broken_rule h)

      pub term_unlisted : found ≡ rust.None → Enters term v w o (Err TypeNotListed)
      unfolding is_some number
      term_unlisted g =
          record {
            kept = keeps_left U;
            go = λ f C room t s below.
                let P = term_parts s in
                let q : sought C.indexed P ≡ none = sym (sought_is f C.indexed C.sizes_are P) ∙ ap option_of g in
                record { rule = rules_left C.indexed P _ ∙ broken_here 12 _ (ap is_some q); memory = unchanged_left U };
          }

      module _ {ty : ℕ} (g : found ≡ rust.Some ty) {other : Bool} (W : WritesOther w.file.now w.work.now w.sizes.rows o ty other) where
        -- the place of the type
        found_is : {f : TermFile} (C : Counted f v) {t : Tm} (P : TermParts v.file.now f o t) → sought C.indexed P ≡ some ty
        found_is {f} C P = sym (sought_is f C.indexed C.sizes_are P) ∙ ap option_of g

        -- rule 12 is kept, and rule 21 is as the test says
        listed : {f : TermFile} (C : Counted f v) {t : Tm} (P : TermParts v.file.now f o t) → WrittenBelow v.file.now f o
            → broken (rules f (written f (written_at v.file.now o)) (term t)) ≡ broken ((21, not other) ∷ limit C.indexed P ∷ [])
        unfolding is_some
        listed {f} C P below =
            let I = C.indexed in
            let F = type_found I P ty (found_is C P) in
            let same : by_numbers I P ≡ type_at f ty = by_numbers_is I P ∙ sym F.type_is in
            rules_left I P _ ∙ broken_later 12 _ (ap is_some (found_is C P))
            ∙ ap (λ (b : Bool). broken ((21, b) ∷ limit I P ∷ [])) (rw same (rule_written I.index below F.below F.type_first_is (rw (U.file_is, U.memory, U.sizes_are) at W)))

        pub term_wrong : other ≡ true → Enters term v w o (Err WrongType)
        unfolding number
        term_wrong h = record { kept = keeps_left U; go = λ f C room t s below. record { rule = listed C (term_parts s) below ∙ broken_here 21 _ (ap not h); memory = unchanged_left U } }

        module _ (right : other ≡ false) where
          -- rule 13 is left
          limit_left : {f : TermFile} (C : Counted f v) {t : Tm} (P : TermParts v.file.now f o t) → WrittenBelow v.file.now f o
              → broken (rules f (written f (written_at v.file.now o)) (term t)) ≡ broken (limit C.indexed P ∷ [])
          limit_left C P below = listed C P below ∙ broken_later 21 _ (ap not right)

          pub term_many : 60000 ≤ v.sizes.terms → Enters term v w o (Err TooMany)
          unfolding number
          term_many d =
              record {
                kept = keeps_left U;
                go = λ f C room t s below. record { rule = limit_left C (term_parts s) below ∙ broken_here 13 _ (rw (← C.sizes_are.terms_are, le-ltb v.sizes.terms 60000 d)); memory = unchanged_left U };
              }

          pub term_deep : v.sizes.terms < 60000 → 255 < n → Enters term v w o (Err TooMany)
          unfolding number
          term_deep d e =
              record {
                kept = keeps_left U;
                go = λ f C room t s below.
                    let P = term_parts s in
                    let q : n ≡ deepest v.work.now v.sizes.rows term_depth P = is ∙ deepest_is C.indexed P octets in
                    record { rule = limit_left C P below ∙ broken_here 13 _ (rw (← C.sizes_are.terms_are, lt-ltb v.sizes.terms 60000 d, ← q, lt-leb (suc n) 256 (omega arith))); memory = unchanged_left U };
              }

          pub term_entered : {x : RecordsMut} → v.sizes.terms < 60000 → n ≤ 255 → StoresTerm w x o ty (n + 1) → Enters term v x o (Ok tt)
          term_entered d e S =
              record {
                kept = keeps_then (keeps_left U) S.kept;
                go = λ f C room t s below.
                    let P = term_parts s in
                    let q : n ≡ deepest v.work.now v.sizes.rows term_depth P = is ∙ deepest_is C.indexed P octets in
                    let F = type_found C.indexed P ty (found_is C P) in
                    let kept : broken (rules f (written f (written_at v.file.now o)) (term t)) ≡ none = limit_left C P below ∙ broken_later 13 _ (rw (← C.sizes_are.terms_are, lt-ltb v.sizes.terms 60000 d, ← q, le-leb (suc n) 256 (omega arith))) ∙ none_broken in
                    record {
                      rule = kept;
                      memory = S.go f (counted_left U C) (rw U.sizes_are room) t (rw U.file_is s) (kept_differ f _ t kept) F.below F.type_is F.type_first_is (add-one n ∙ ap suc q ∙ term_depth_is C.indexed P) (omega arith);
                    };
              }

-- a type that is given, and one that is not
pub given : {found : rust.Option ℕ} {ty : ℕ} → rust.ok_or found TypeNotListed ≡ Ok ty → found ≡ rust.Some ty
given {found = rust.None} e = let z : ⊥ = cc in absurd z
given {found = rust.Some n} e = cc

pub not_given : {found : rust.Option ℕ} {x : Refusal} → rust.ok_or found TypeNotListed ≡ Err x → (found ≡ rust.None) × (x ≡ TypeNotListed)
not_given {found = rust.None} e = (refl, cc)
not_given {found = rust.Some n} e = let z : ⊥ = cc in absurd z
