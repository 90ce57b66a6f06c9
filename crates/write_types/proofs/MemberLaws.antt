-- The declarations of entity types and enums, piece by piece; members by recursion on their number.
-- Assumes nothing.
use mathlib.Core.Path.{◌≡◌, refl, sym, ◌∙◌}
use mathlib.Core.List.{List, [], ◌∷◌, ◌++◌, append_assoc, append-nil}
use mathlib.Core.Option.{Option, none, some}
use Prim.Native.Nat.{ℕ, suc, ◌+◌, ◌-◌, ◌<◌, ◌≤◌}
use native.Mathlib.Numerals.{add-one}
use native.Mathlib.Omega.{arith}
use lib.ListN.{length}
use Rattle.script_spec.specs.Base.{Bytes, bytes, joined}
use Rattle.script_spec.specs.Text.{decimal}
use Rattle.script_spec.specs.Command.{line, spelled, headed, listed, spaced, constructor_list, datatype_body, declare_datatype}
use Rattle.script_spec.specs.Spelling.{member_name, numbered_from, entity_constructors}
use Rattle.write_bytes.specs.Writers.{Writes, Lends}
use Rattle.write_bytes.specs.declared.writer.Writer.{Writer}
use Rattle.write_bytes.proofs.Laws.{◌then◌, says}
use Rattle.write_bytes.proofs.Rest.{lent}
use Rattle.walk_names.proofs.Advancing.{◌further◌, continues, continues_lent}
use Rattle.write_types.specs.Members.{entity_symbol, member_text, members_text, SpellsMembers, SpellsEnum}

pub entity_pieces : (n : Bytes) → bytes "(declare-datatype " ++ (n ++ (bytes " (\n  (" ++ (n ++ (bytes " (" ++ (n ++ bytes "_eid String))))\n"))))) ≡ line (declare_datatype n [] (entity_constructors n none))
unfolding line spelled headed spaced joined datatype_body constructor_list entity_constructors bytes
entity_pieces n = simp append_assoc

pub member_pieces : (n : Bytes) (i : ℕ) → bytes "\n  (" ++ (n ++ (bytes "_m" ++ (decimal i ++ bytes ")"))) ≡ member_text n i
unfolding member_text listed spaced joined member_name bytes
member_pieces n i = simp append_assoc

-- the member that comes next, and those after it
pub members_next : (name : Bytes) (i n : ℕ) → i < n → members_text name i (n - i) ≡ member_text name i ++ members_text name (i + 1) (n - (i + 1))
unfolding members_text
members_next name i n h = let m : n - i ≡ suc (n - (i + 1)) = omega arith in rw (m, add-one i)

pub members_none : (name : Bytes) (i n : ℕ) → n ≤ i → members_text name i (n - i) ≡ []
unfolding members_text
members_none name i n h = let z : n - i ≡ 0 = omega arith in rw z

-- members as the definitions list them
members_joined : (name m : Bytes) (i : ℕ) (ms : List Bytes)
    → members_text name i (suc (length ms)) ≡ bytes "\n  " ++ joined (bytes "\n  ") (numbered_from i (λ i m. listed (member_name name i ∷ [])) (m ∷ ms))
unfolding members_text member_text numbered_from joined bytes
members_joined name m i [] = simp append-nil
members_joined name m i (k ∷ ms) = rw (members_joined name k (suc i) ms)

module _ {name : Option ℕ} {n : ℕ} {v w : Writer} where
  pub lines_none : n ≡ 0 → Writes v w (bytes "\n  ") → SpellsMembers name n v w
  unfolding entity_constructors numbered_from joined bytes
  lines_none e A = record { same = continues A; go = λ ms h. says (none_of ms (h ∙ e)) A }
    where
      none_of : (ms : List Bytes) → length ms ≡ 0 → bytes "\n  " ≡ bytes "\n  " ++ joined (bytes "\n  ") (entity_constructors (entity_symbol name) (some ms))
      none_of [] h = refl
      none_of (m ∷ ms) h = absurd (omega arith)

  pub lines_some : (n ≡ 0 → ⊥) → Writes v w (members_text (entity_symbol name) 0 n) → SpellsMembers name n v w
  unfolding entity_constructors
  lines_some h A = record { same = continues A; go = λ ms e. says (some_of ms e) A }
    where
      some_of : (ms : List Bytes) → length ms ≡ n → members_text (entity_symbol name) 0 n ≡ bytes "\n  " ++ joined (bytes "\n  ") (entity_constructors (entity_symbol name) (some ms))
      some_of [] e = absurd (h (sym e))
      some_of (m ∷ ms) e = rw (← e) (members_joined (entity_symbol name) m 0 ms)

enum_pieces : (n : Bytes) (cs : List Bytes) → bytes "(declare-datatype " ++ (n ++ (bytes " (" ++ ((bytes "\n  " ++ joined (bytes "\n  ") cs) ++ bytes "))\n"))) ≡ line (declare_datatype n [] cs)
unfolding line spelled headed spaced joined datatype_body constructor_list bytes
enum_pieces n cs = simp append_assoc

pub spells_enum : {name : Option ℕ} {n : ℕ} {v v₁ v₂ v₃ v₄ w : Writer} → Writes v v₁ (bytes "(declare-datatype ") → Writes v₁ v₂ (entity_symbol name) → Writes v₂ v₃ (bytes " (")
    → SpellsMembers name n v₃ v₄ → Writes v₄ w (bytes "))\n") → SpellsEnum name n v w
spells_enum A N B M C = record {
  same = continues (A then N then B) further M.same further continues C;
  go = λ ms e. says (enum_pieces _ _) (A then N then B then M.go ms e then C);
}

-- the declaration of an enum in the rest of the script
pub enum_lent : {name : Option ℕ} {n : ℕ} {v w : Writer} → Lends (SpellsEnum name n) v w → SpellsEnum name n v w
enum_lent L = record { same = continues_lent L; go = λ ms e. lent (λ x y p. p.go ms e) L }

-- a declaration by its name and its constructors
pub datatype_pieces : (n : Bytes) (cs : List Bytes) → bytes "(declare-datatype " ++ (spaced (n ∷ constructor_list cs ∷ []) ++ bytes ")\n") ≡ line (declare_datatype n [] cs)
unfolding line spelled headed spaced joined datatype_body bytes
datatype_pieces n cs = simp append_assoc
