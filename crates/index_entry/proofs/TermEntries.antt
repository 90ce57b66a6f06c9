-- Each term is what its record has under its mark; no other mark has terms.
-- Assumes nothing.
use mathlib.Core.Path.{◌≡◌, sym, ap, ◌∙◌, subst}
use mathlib.Core.Option.{some}
use Prim.Native.Nat.{ℕ}
use lib.ListN.{get_or}
use Rattle.script_spec.specs.Base.{Bytes, bytes}
use Rattle.script_spec.specs.Tree.{TermMark, Var, BoolLit, BitVecLit, StringLit, Entity, ExtLit, None, Some, Set, Record, App}
use Rattle.index.specs.Standing.{mark_at, body_at, entry_at}
use Rattle.check_rules.specs.Marks.{term_bytes}
use Rattle.index_entry.proofs.Letters.{term_marked, term_marked_lem, term_letter}
use Rattle.index_entry.specs.Terms.{IsTerm, TermAt}
use Rattle.index_entry.specs.declared.terms.TermEntry.{TermEntry}
use Rattle.index_entry.specs.declared.terms.TermEntry.TheVariants as entry

-- the same mark
pub under : {body : Bytes} {l l' : ℕ} {r : TermEntry} → l ≡ l' → IsTerm (some (term_marked l')) body r → IsTerm (some (term_marked l)) body r
under {body} {r = r} e x = subst (λ (n : ℕ). IsTerm (some (term_marked n)) body r) (sym e) x

module _ {l : ℕ} (v : l ≡ 86 → ⊥) (b : l ≡ 66 → ⊥) (n : l ≡ 78 → ⊥) (s : l ≡ 83 → ⊥) (e : l ≡ 69 → ⊥) (x : l ≡ 88 → ⊥) (n₀ : l ≡ 48 → ⊥) (n₁ : l ≡ 49 → ⊥)
    (c : l ≡ 67 → ⊥) (r : l ≡ 82 → ⊥) (a : l ≡ 65 → ⊥) where
  other_letter : (t : TermMark ℕ ℕ) → l ≡ get_or (term_bytes t) 1 0 → ⊥
  unfolding term_bytes bytes
  other_letter (Var id t) = v
  other_letter (BoolLit y) = b
  other_letter (BitVecLit w y) = n
  other_letter (StringLit t) = s
  other_letter (Entity t id) = e
  other_letter (ExtLit y) = x
  other_letter (None t) = n₀
  other_letter Some = n₁
  other_letter (Set t) = c
  other_letter (Record ns) = r
  other_letter (App t o) = a

  pub no_terms : {body : Bytes} → IsTerm (some (term_marked l)) body entry.Unreadable
  no_terms {body} = record {
    go = λ m t rs h g.
        let same : m ≡ term_marked l = cc in
        absurd (other_letter t (term_letter body (rw same at g)));
  }

-- the record at an offset
pub term_at_lem : {file body : Bytes} {o l : ℕ} {r : TermEntry} → l ≡ get_or (mark_at file o) 1 0 → body ≡ body_at file o → IsTerm (some (term_marked l)) body r → TermAt file o r
unfolding entry_at
term_at_lem {file} {body} {o} {l} {r} i e T =
    let here : IsTerm (some (term_marked l)) (body_at file o) r = subst (λ (b : Bytes). IsTerm (some (term_marked l)) b r) e T in
    record { go = λ t rs g. here.go (mark_at file o) t rs (ap (λ (n : ℕ). some (term_marked n)) i ∙ ap some (term_marked_lem (mark_at file o) (body_at file o) g)) g }
