-- What writing the body of a term, its declaration, the head of its definition and its assertion promises.
-- Assumes nothing.
use Rattle.std.specs.Prelude.{ℕ, ◌<◌, ◌≡◌, Bool, true, false, List, [], ◌∷◌, ◌++◌, map, length, take}
use Rattle.script_spec.specs.Base.{Bytes, bytes, collect}
use Rattle.script_spec.specs.Utf8.{is_utf8}
use Rattle.script_spec.specs.Tree.{Tm, Ty, Forest, Mark, node, children, type_of}
use Rattle.script_spec.specs.Tree.{Var, BoolLit, BitVecLit, StringLit, Entity, ExtLit, None, Some, Set, Record, App}
use Rattle.script_spec.specs.File.{TermFile, terms, type_at, term_at, members}
use Rattle.script_spec.specs.Text.{literal, debug_char, debug}
use Rattle.script_spec.specs.Command.{headed, line, script, comment, declare_const, assert_that}
use Rattle.script_spec.specs.Spelling.{sort, atom, body}
use Rattle.script_spec.specs.Walk.{State, names}
use Rattle.write_bytes.specs.declared.writer.Writer.{Writer}
use Rattle.read_utf8.specs.Decoding.{points}
use Rattle.index.specs.declared.Records.{Records}
use Rattle.walk_names.specs.Spells.{Spells, HasType, HasTerm}
use Rattle.write_atoms.specs.Atoms.{EntityIs}

-- ---- bodies

-- a compound term: an option of a term, a set, a record or an application
unfoldable pub is_compound : Tm → Bool
is_compound (node (Var id ty) ts) = false
is_compound (node (BoolLit b) ts) = false
is_compound (node (BitVecLit n v) ts) = false
is_compound (node (StringLit s) ts) = false
is_compound (node (Entity ty id) ts) = false
is_compound (node (ExtLit v) ts) = false
is_compound (node (None ty) ts) = false
is_compound (node Some ts) = true
is_compound (node (Set ty) ts) = true
is_compound (node (Record ns) ts) = true
is_compound (node (App ty op) ts) = true

-- the body of the term with number n, over its children as they are spelled where they are used
abbrev pub own_body : TermFile → State → ℕ → Bytes
own_body f S n = body (members f) (names S) (term_at f n) (map (atom (members f) (names S)) (children (term_at f n)))

-- the definition of a term as far as its body
unfoldable pub definition_head : Bytes → Bytes → Bytes
definition_head name sort = bytes "(define-fun " ++ (name ++ (bytes " () " ++ (sort ++ bytes " ")))

-- an entity of the type with number t, which is no enum, is written by its id
abbrev pub SpellsConstructed : Records → ℕ → Bytes → Writer → Writer → Type 0
SpellsConstructed records t id = Spells records (HasType t) (λ f S. headed (sort (names S) (type_at f t)) (literal (points id) ∷ []))

-- the term with number n is an entity of the type with number t with this id, which is UTF-8
pub record TextIs (n t : ℕ) (id : Bytes) (f : TermFile) : Type 0 where
  pub is : EntityIs n t id f
  pub sound : is_utf8 id ≡ true

-- it is written in full
abbrev pub SpellsEntityBody : Records → ℕ → ℕ → Bytes → Writer → Writer → Type 0
SpellsEntityBody records n t id v w = (args : List Bytes) → Spells records (TextIs n t id) (λ f S. body (members f) (names S) (term_at f n) args) v w

-- the file has the term with number n, of which something is known
pub record Known (n : ℕ) (is : TermFile → Type 0) (f : TermFile) : Type 0 where
  pub inside : n < length (terms f)
  pub known : is f

-- the term with number n, which is not compound, is written in full
abbrev pub SpellsBody : Records → ℕ → Writer → Writer → Type 0
SpellsBody records n = Spells records (Known n (λ f. is_compound (term_at f n) ≡ false)) (λ f S. own_body f S n)

-- the definition of the term with number n is written as far as its body
abbrev pub SpellsHead : Records → ℕ → Writer → Writer → Type 0
SpellsHead records n = Spells records (HasTerm n) (λ f S. definition_head ((names S).term (term_at f n)) (sort (names S) (type_of (term_at f n))))

-- ---- lines

-- an id as `{:?}` prints it, whatever its bytes are
unfoldable pub printed : Bytes → Bytes
printed id = 34 ∷ (collect debug_char (points id) ++ (34 ∷ []))

-- the id of a variable in its comment
unfoldable pub id_line : Bytes → Bytes
id_line id = bytes "; " ++ (take 200 (printed id) ++ bytes "\n")

-- the assertion of the term with number n is written
abbrev pub SpellsAssertion : Records → ℕ → Writer → Writer → Type 0
SpellsAssertion records n = Spells records (HasTerm n) (λ f S. line (assert_that (atom (members f) (names S) (term_at f n))))

-- its declaration by its name and its sort is written
abbrev pub SpellsConst : Records → ℕ → Writer → Writer → Type 0
SpellsConst records n = Spells records (HasTerm n) (λ f S. line (declare_const ((names S).term (term_at f n)) (sort (names S) (type_of (term_at f n)))))

-- the term with number n is a variable with this id
pub record VariableIs (n : ℕ) (id : Bytes) (f : TermFile) : Type 0 where
  pub inside : n < length (terms f)
  pub type : Ty
  pub children : Forest Mark
  pub tree : term_at f n ≡ node (Var id type) children

-- its declaration is written after its id in a comment
abbrev pub SpellsVariable : Records → ℕ → Writer → Writer → Type 0
SpellsVariable records n v w =
    (id : Bytes) → Spells records (VariableIs n id) (λ f S. script (comment (debug id) ∷ declare_const ((names S).term (term_at f n)) (sort (names S) (type_of (term_at f n))) ∷ [])) v w
