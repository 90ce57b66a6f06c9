-- The children that are encoded before a term: none under the `false` of a `Bvnego`, else those of its record, which the second byte of
-- its mark tells.
-- Assumes nothing.
use Prim.Native.Nat.{ℕ}
use mathlib.Core.Path.{◌≡◌, refl, sym, ap, ◌∙◌, subst}
use mathlib.Core.Bool.{true, false}
use mathlib.Core.List.{[], ◌∷◌, map}
use mathlib.Core.Option.{some}
use lib.ListN.{get_or}
use Rattle.script_spec.specs.Base.{Bytes, bytes}
use Rattle.script_spec.specs.Tree.{Tm, Mark, Forest, forest, is_falsehood, negation}
use Rattle.script_spec.specs.File.{members, term_at}
use Rattle.script_spec.specs.Walk.{encode_terms}
use Rattle.index.specs.Cells.{cell, term_offset}
use Rattle.index.specs.First.{All, Below}
use Rattle.index.specs.Standing.{mark_at, body_at, entry_at}
use Rattle.index.specs.Meaning.{counted}
use Rattle.index.specs.Lists.{number_at}
use Rattle.walk_names.specs.Progress.{memory, rows}
use Rattle.walk_names.specs.declared.walk.Walk.{Walk}
use Rattle.walk_names.proofs.Steps.{unless_known, unless_new}
use Rattle.index_entry.proofs.TermRows.{term_stands}
use Rattle.index_entry.specs.Terms.{children_in}
use Rattle.index_entry.specs.Children.{ListedAt, IsChildren, ChildrenAt}
use Rattle.index_entry.specs.declared.terms.Children.{Children}
use Rattle.index_entry.proofs.ChildLaws.{no_children}
use Rattle.index_entry.proofs.ChildEntries.{bare_children, children_some, children_set, children_record, under, children_at}
use Rattle.walk_queries.specs.Negations.{negation_said, NegationOf}
use Rattle.walk_queries.specs.declared.queries.Negated.{Negated}
use Rattle.walk_queries.specs.declared.queries.Negated.TheVariants as negated
use Rattle.walk_queries.proofs.NegationLaws.{falsehood_is}
use Rattle.walk_terms.specs.Terms.{terms_walk, below, children_walk, ChildrenAre, ToEncode}

-- ---- what a term is as a `Bvnego`

-- an answer that is no `false`
not_false : (u : Tm) (r : Negated) → (r ≡ negated.Falsehood → ⊥) → negation_said r ≡ negation u → is_falsehood u ≡ false
unfolding negation_said is_falsehood
not_false u negated.Ordinary h e = rw (is_falsehood, ← e)
not_false u negated.Falsehood h e = absurd (h refl)
not_false u (negated.Comparison n) h e = rw (is_falsehood, ← e)

module _ {v : Walk} {n : ℕ} {r : Negated} (N : NegationOf v.records.now.file.now (memory v) v.records.now.sizes n r) where
  -- the `false` of a `Bvnego`
  pub encode_none : {c : Children} → r ≡ negated.Falsehood → children_in c ≡ [] → ToEncode v n c
  unfolding children_walk terms_walk encode_terms forest Below All negation_said
  encode_none e h =
      record {
        go = λ f I l.
            subst (ChildrenAre f n) (sym h)
            (record { lower = tt; walks = λ S. unless_known (λ s. is_falsehood (term_at f n)) _ S (falsehood_is (term_at f n) (sym (N.go f I l) ∙ ap negation_said e)) });
      }

  -- any other term
  pub encode_all : {c : Children} {o : ℕ} → (r ≡ negated.Falsehood → ⊥) → o ≡ cell (memory v) (rows v) term_offset n → ChildrenAt v.records.now.file.now o c → ToEncode v n c
  unfolding children_walk terms_walk below counted
  encode_all {c} {o} h here C =
      record {
        go = λ f I l.
            term_stands (I.rows.term_row n l).stands (λ m rs reads marks lower tree.
            let children : children_in c ≡ rs = C.go m rs (ap (entry_at v.records.now.file.now) here ∙ reads) in
            let forest_is : below (term_at f n) ≡ forest (map (term_at f) rs) = ap below (sym tree) in
            subst (ChildrenAre f n) (sym children)
            (record {
              lower = lower;
              walks = λ S. unless_new (λ s. is_falsehood (term_at f n)) _ S (not_false (term_at f n) r h (N.go f I l)) ∙ ap (λ (ts : Forest Mark). encode_terms (members f) ts S) forest_is;
            }));
      }

-- ---- the children of a record, by the second byte of its mark

module _ {file body : Bytes} {o l : ℕ} {c : Children} (i : l ≡ get_or (mark_at file o) 1 0) where
  pub some_at : l ≡ 49 → body ≡ body_at file o → children_in c ≡ number_at body 0 ∷ [] → ChildrenAt file o c
  unfolding bytes
  some_at e here h = children_at i here (under e (children_some h))

  pub app_at : l ≡ 65 → body ≡ body_at file o → IsChildren (some (bytes "XA")) body c → ChildrenAt file o c
  unfolding bytes
  app_at e here A = children_at (sym (sym i ∙ e)) here A

  pub set_at : l ≡ 67 → body ≡ body_at file o → ListedAt body 4 false c → ChildrenAt file o c
  unfolding bytes
  set_at e here L = children_at i here (under e (children_set L))

  pub record_at : l ≡ 82 → body ≡ body_at file o → ListedAt body 0 true c → ChildrenAt file o c
  unfolding bytes
  record_at e here L = children_at i here (under e (children_record L))

  pub leaf_at : (l ≡ 49 → ⊥) → (l ≡ 65 → ⊥) → (l ≡ 67 → ⊥) → (l ≡ 82 → ⊥) → body ≡ body_at file o → children_in c ≡ [] → ChildrenAt file o c
  leaf_at s a k r here h =
      let bare : Children = record { body = c.body; from = 0; left = 0; named = false } in
      children_at i here (record { go = λ m t rs e g. h ∙ sym (no_children bare refl) ∙ (bare_children body s k r a c.body).go m t rs e g })
