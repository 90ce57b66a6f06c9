-- Demand 3: what a script says of its term file. The script is read by its bytes alone (`Smtlib`); the file is its records'
-- trees, the inputs taken as their script lists them (`Listing`), so that equal terms are one tree. Nothing here knows of the
-- encoder's tables or of its order.
-- Assumes nothing.
use Rattle.std.specs.Prelude.{ℕ, ◌≡◌, ◌↔◌, Bool, true, false, not, ◌&&◌, T, eqb}
use mathlib.Core.List.{List, [], ◌∷◌, ◌++◌, map, Memᴰ}
use Rattle.std.proofs.Math.Option.{Option, none, some}
use Rattle.script_spec.specs.Base.{Bytes, bytes, same, between, any, all, collect, is_some}
use Rattle.script_spec.specs.Tree.{Ty, Fun, Tm, Mark, Forest, node, nil, cons, children, type_of, is_falsehood, is_variable, Enums, Datatype, entity, extension, record_of, datatype, uuf, App, Uuf}
use Rattle.script_spec.specs.File.{TermFile, members, inputs}
use Rattle.script_spec.specs.Command.{spelled, declare_const, ◌⊹◌}
use Rattle.script_spec.specs.Spelling.{Names, sort, body, type_declaration, fun_declaration, option_declaration, ext_name, inlined}
use Rattle.script_spec.specs.Listing.{as_listed}
use Rattle.script_spec.specs.Smtlib.{Token, word, string, mark, tokens, flat, commands_of}

-- ---- what inputs need

-- document 01's needed terms: each input, and each child of a needed term, except under the `false` of `Bvnego`
pub data NeededTerm (ins : List Tm) : Tm → Type 0 where
  is_input : {t : Tm} → Memᴰ t ins → NeededTerm ins t
  is_child : {t u : Tm} → NeededTerm ins u → T (not (is_falsehood u)) → Memᴰ t (children u) → NeededTerm ins t

-- the functions of needed applications
pub data NeededFun (ins : List Tm) : Fun → Type 0 where
  is_applied : {f : Fun} {ty : Ty} {ts : Forest Mark} → NeededTerm ins (node (App ty (Uuf f)) ts) → NeededFun ins f

-- the types of all these, with their parts
pub data NeededType (ins : List Tm) : Ty → Type 0 where
  of_term : {ty : Ty} {t : Tm} → NeededTerm ins t → ty ≡ type_of t → NeededType ins ty
  of_argument : {id : Bytes} {arg out : Ty} → NeededFun ins (uuf id arg out) → NeededType ins arg
  of_result : {id : Bytes} {arg out : Ty} → NeededFun ins (uuf id arg out) → NeededType ins out
  is_part : {ty u : Ty} → NeededType ins u → Memᴰ ty (children u) → NeededType ins ty

-- a thing that has a name
pub data Thing : Type 0 where
  term : Tm → Thing
  func : Fun → Thing
  type : Ty → Thing

-- document 01's things: needed variables and defined terms, needed functions, needed entity, extension and record types
unfoldable pub Needed : Enums → List Tm → Thing → Type 0
Needed e ins (term t) = NeededTerm ins t × T (not (inlined e t))
Needed e ins (func f) = NeededFun ins f
Needed e ins (type ty) = NeededType ins ty × T (is_some (datatype ty))

-- ---- names and full spellings

-- the name of a thing; a type's is its sort
unfoldable pub name_of : Names → Thing → Bytes
name_of ν (term t) = ν.term t
name_of ν (func f) = ν.func f
name_of ν (type ty) = sort ν ty

-- decimal digits, and at least one
unfoldable pub digits_only : Bytes → Bool
digits_only [] = false
digits_only (b ∷ []) = between 48 57 b
digits_only (b ∷ c ∷ s) = between 48 57 b && digits_only (c ∷ s)

-- a letter and a number
unfoldable pub lettered : ℕ → Bytes → Bool
lettered l [] = false
lettered l (b ∷ s) = eqb b l && digits_only s

-- the name of an entity, extension or record type; no other type has one
unfoldable pub datatype_named : Bytes → Option Datatype → Bool
datatype_named n none = false
datatype_named n (some (entity name)) = lettered 69 n
datatype_named n (some (extension x)) = same n (ext_name x)
datatype_named n (some (record_of names)) = lettered 82 n

-- a term's name is t and a number, a function's f, an entity type's E, a record type's R; an extension type has its own name
unfoldable pub well_named : Names → Thing → Bool
well_named ν (term t) = lettered 116 (ν.term t)
well_named ν (func f) = lettered 102 (ν.func f)
well_named ν (type ty) = datatype_named (sort ν ty) (datatype ty)

-- no two are the same
unfoldable pub unique : List Bytes → Bool
unique [] = true
unique (n ∷ ns) = not (any (same n) ns) && unique ns

-- document 01's full spelling of a term, made from the file and the names
unfoldable mutual
  pub full : Enums → Names → Tm → Bytes
  full e ν (node m ts) = body e ν (node m ts) (fulls e ν ts)

  pub fulls : Enums → Names → Forest Mark → List Bytes
  fulls e ν nil = []
  fulls e ν (cons t ts) = full e ν t ∷ fulls e ν ts

-- ---- what a command does

-- a command declares a variable, a function or a type, defines a term by a body, or asserts an input by a body
pub data Role : Type 0 where
  declares : Thing → Role
  defines : Tm → List Token → Role
  asserts : Tm → List Token → Role

-- the command that declares a thing
unfoldable pub declaration : Enums → Names → Thing → Bytes
declaration e ν (term t) = spelled (declare_const (ν.term t) (sort ν (type_of t)))
declaration e ν (func f) = spelled (fun_declaration ν f)
declaration e ν (type ty) = elim (datatype ty) [ none ↦ [] | some d ↦ spelled (type_declaration e ν d ty) ]

-- the tokens of the command with this role
unfoldable pub command : Enums → Names → Role → List Token
command e ν (declares th) = tokens (declaration e ν th)
command e ν (defines t b) =
    tokens (bytes "(define-fun " ⊹ ν.term t ⊹ bytes " () " ⊹ sort ν (type_of t) ⊹ bytes " ") ++ (b ++ tokens (bytes ")"))
command e ν (asserts t b) = tokens (bytes "(assert ") ++ (b ++ tokens (bytes ")"))

-- the thing that a command declares or defines
unfoldable pub introduced : Role → List Thing
introduced (declares th) = th ∷ []
introduced (defines t b) = term t ∷ []
introduced (asserts t b) = []

-- the input that a command asserts
unfoldable pub asserted : Role → List Tm
asserted (declares th) = []
asserted (defines t b) = []
asserted (asserts t b) = t ∷ []

-- ---- unfolding

-- a defined name with its body
abbrev pub Definition : Type 0
Definition = Bytes × List Token

-- the definitions of commands, the last one first
unfoldable pub definitions : Names → List Role → List Definition
definitions ν [] = []
definitions ν (declares th ∷ rs) = definitions ν rs
definitions ν (defines t b ∷ rs) = definitions ν rs ++ ((ν.term t, b) ∷ [])
definitions ν (asserts t b ∷ rs) = definitions ν rs

-- a word before tokens: its body where it is the name that is replaced
unfoldable pub replaced_word : Bool → Bytes → List Token → List Token → List Token
replaced_word true w b ts = b ++ ts
replaced_word false w b ts = word w ∷ ts

-- tokens with a name replaced by its body; a string literal is a token of its own and stays
unfoldable pub replaced : Bytes → List Token → List Token → List Token
replaced n b [] = []
replaced n b (word w ∷ ts) = replaced_word (same w n) w b (replaced n b ts)
replaced n b (string l ∷ ts) = string l ∷ replaced n b ts
replaced n b (mark c ∷ ts) = mark c ∷ replaced n b ts

-- tokens with every defined name replaced, that of the last definition first
unfoldable pub unfolded : List Definition → List Token → List Token
unfolded [] ts = ts
unfolded (d ∷ ds) ts = unfolded ds (replaced d.0 d.1 ts)

-- variables are declared and other terms defined, and each body and assertion unfolds to the full spelling of its term
unfoldable pub Right : Enums → Names → List Definition → Role → Type 0
Right e ν ds (declares (term t)) = T (is_variable t)
Right e ν ds (declares (func f)) = Unit {0}
Right e ν ds (declares (type ty)) = Unit {0}
Right e ν ds (defines t b) = T (not (is_variable t)) × (flat (unfolded ds b) ≡ full e ν t)
Right e ν ds (asserts t b) = flat (unfolded ds b) ≡ full e ν t

-- ---- uses

-- what stands before the first `_`
unfoldable pub stem : Bytes → Bytes
stem [] = []
stem (b ∷ s) = elim (eqb b 95) [ true ↦ [] | false ↦ b ∷ stem s ]

-- a name of an extension type
unfoldable pub is_ext_name : Bytes → Bool
is_ext_name w = any (same w) (bytes "IPAddr" ∷ bytes "Decimal" ∷ bytes "Datetime" ∷ bytes "Duration" ∷ [])

-- the name that a symbol uses: a t, f, E or R name, also before a `_`, as in a member or an attribute, or an extension name
unfoldable pub used : Bytes → List Bytes
used w =
    elim (any (λ l. lettered l (stem w)) (116 ∷ 102 ∷ 69 ∷ 82 ∷ [])) [
      | true ↦ stem w ∷ []
      | false ↦ elim (is_ext_name w) [ true ↦ w ∷ [] | false ↦ [] ]
    ]

-- the names that tokens use, word by word
unfoldable pub names_in : List Token → List Bytes
names_in [] = []
names_in (word w ∷ ts) = used w ++ names_in ts
names_in (string l ∷ ts) = names_in ts
names_in (mark b ∷ ts) = names_in ts

-- what stands after an extension name at the start
unfoldable pub after_ext_name : List Token → List Token
after_ext_name [] = []
after_ext_name (word w ∷ ts) = elim (is_ext_name w) [ true ↦ ts | false ↦ word w ∷ ts ]
after_ext_name (string l ∷ ts) = string l ∷ ts
after_ext_name (mark c ∷ ts) = mark c ∷ ts

-- a body without its first parenthesis and the extension name behind it, which is its operator or constructor: that one counts as used only if it is the definition's
-- sort, where it is counted
unfoldable pub operands : List Token → List Token
operands [] = []
operands (word w ∷ ts) = word w ∷ ts
operands (string l ∷ ts) = string l ∷ ts
operands (mark c ∷ ts) = elim (eqb c 40) [ true ↦ after_ext_name ts | false ↦ ts ]

-- the names that a command uses
unfoldable pub uses : Enums → Names → Role → List Bytes
uses e ν (declares th) = names_in (command e ν (declares th))
uses e ν (defines t b) = names_in (tokens (sort ν (type_of t))) ++ names_in (operands b)
uses e ν (asserts t b) = names_in b

-- the thing whose own name a command may use: the one that it declares, since a datatype's constructors have its name
unfoldable pub own : Role → List Thing
own (declares th) = th ∷ []
own (defines t b) = []
own (asserts t b) = []

-- each command uses only names that commands before it declare or define; a declaration may also use its own
unfoldable pub in_order : Enums → Names → List Bytes → List Role → Bool
in_order e ν seen [] = true
in_order e ν seen (r ∷ rs) =
    all (λ n. any (same n) (map (name_of ν) (own r) ++ seen)) (uses e ν r) && in_order e ν (map (name_of ν) (introduced r) ++ seen) rs

-- ---- demand 3

-- P holds of each
pub data Every {A : Type 0} (P : A → Type 0) : List A → Type 0 where
  every : Every P []
  also : {x : A} {xs : List A} → P x → Every P xs → Every P (x ∷ xs)

-- the things that commands declare or define
unfoldable pub things : List Role → List Thing
things rs = collect introduced rs

-- these commands declare, define and assert what these inputs need, and nothing else
pub record Says (e : Enums) (ins : List Tm) (cs : List (List Token)) : Type 0 where
  pub names : Names  -- one naming for all commands
  pub roles : List Role  -- what each command after the Option type does
  pub commands : cs ≡ tokens (spelled option_declaration) ∷ map (command e names) roles
  pub right : Every (Right e names (definitions names roles)) roles
  pub needed : (th : Thing) → Needed e ins th ↔ Memᴰ th (things roles)
  pub unlike : T (unique (map (name_of names) (things roles)))  -- no two things share a name, no thing has two commands
  pub lettering : T (all (well_named names) (things roles))
  pub order : T (in_order e names [] roles)
  pub assertions : collect asserted roles ≡ ins  -- as many as inputs, in their order

-- demand 3 of a script: it says what the inputs need, each set in them listed as the equal one that the encoder meets first
unfoldable pub Faithful : TermFile → Bytes → Type 0
Faithful f script = Says (members f) (as_listed (inputs f)) (commands_of script)
