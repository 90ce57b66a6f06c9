-- Laws of the terms that a record refers to: the first and the others, and that there are none.
-- Assumes nothing.
use Prim.Native.Nat.{ℕ, zero, suc, ◌+◌}
use native.Mathlib.Omega.{arith}
use mathlib.Core.Path.{◌≡◌, refl, sym, ap, ◌∙◌}
use mathlib.Core.Bool.{Bool, true, false}
use mathlib.Core.List.{List, [], ◌∷◌}
use lib.ListN.{length, drop}
use denote.Ref.{Bor}
use Rattle.script_spec.specs.Base.{Bytes, seconds}
use Rattle.index.specs.Lists.{number_at}
use Rattle.index_entry.specs.Places.{named_items, PastText}
use Rattle.index_entry.specs.Terms.{references, children_in}
use Rattle.index_entry.specs.Children.{past_name}
use Rattle.index_entry.specs.declared.terms.Children.{Children}

-- so many children from a place on, each after a text where `named`
abbrev listed : Bool → ℕ → Bytes → List ℕ
listed b n s = elim b [ true ↦ seconds (named_items n s) | false ↦ references n s ]

listed_none : (b : Bool) (s : Bytes) → listed b 0 s ≡ []
unfolding references named_items seconds
listed_none true s = refl
listed_none false s = refl

pub no_children : (c : Children) → c.left ≡ 0 → children_in c ≡ []
unfolding children_in
no_children c h = rw h (listed_none c.named (drop c.from c.body.now))

listed_first : (b : Bool) (n : ℕ) (s : Bytes) → listed b (suc n) s ≡ number_at (past_name b s) 0 ∷ listed b n (drop 4 (past_name b s))
unfolding references named_items seconds past_name
listed_first true n s = refl
listed_first false n s = refl

listed_length : (b : Bool) (n : ℕ) (s : Bytes) → length (listed b n s) ≡ n
unfolding references named_items seconds
listed_length true zero s = refl
listed_length true (suc n) s = ap suc (listed_length true n _)
listed_length false zero s = refl
listed_length false (suc n) s = ap suc (listed_length false n _)

pub length_children : (c : Children) → length (children_in c) ≡ c.left
unfolding children_in
length_children c = listed_length c.named c.left (drop c.from c.body.now)

-- children that stand alone
pub one_child : (body : Bor Bytes) → children_in (record { body = body; from = 0; left = 1; named = false }) ≡ number_at body.now 0 ∷ []
unfolding children_in references
one_child body = refl

-- children by their list
pub unnamed : (c : Children) → c.named ≡ false → children_in c ≡ references c.left (drop c.from c.body.now)
unfolding children_in
unnamed c e = rw e

pub named : (c : Children) → c.named ≡ true → children_in c ≡ seconds (named_items c.left (drop c.from c.body.now))
unfolding children_in
named c e = rw e

-- ---- the first child

pub ahead_named : {named : Bool} {body : Bytes} {from end : ℕ} → named ≡ true → PastText body from end → drop end body ≡ past_name named (drop from body)
unfolding past_name
ahead_named e i = rw e i.rest

pub ahead_bare : {named : Bool} {s : Bytes} → named ≡ false → s ≡ past_name named s
unfolding past_name
ahead_bare e = rw e

module _ (c : Children) (at next left : ℕ) {number : ℕ} where
  pub first_child : drop at c.body.now ≡ past_name c.named (drop c.from c.body.now) → number ≡ number_at c.body.now at → drop next c.body.now ≡ drop 4 (drop at c.body.now)
      → left + 1 ≡ c.left → children_in c ≡ number ∷ children_in (record { body = c.body; from = next; left = left; named = c.named })
  unfolding children_in number_at
  first_child place is on fewer =
      let s : Bytes = drop c.from c.body.now in
      let more : c.left ≡ suc left = omega arith in
      let head : number_at (past_name c.named s) 0 ≡ number = ap (λ (s : Bytes). number_at s 0) (sym place) ∙ sym is in
      let tail : drop 4 (past_name c.named s) ≡ drop next c.body.now = ap (λ (s : Bytes). drop 4 s) (sym place) ∙ sym on in
      ap (λ (n : ℕ). listed c.named n s) more ∙ listed_first c.named left s
      ∙ (λ i. head i ∷ listed c.named left (tail i))
