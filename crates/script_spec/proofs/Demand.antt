-- Demand 3: the script of a term file is faithful to it (`faithful`, `encoded_faithful`). By the log of the walk (`Logs`), since a
-- script of the commands of such a log is faithful (`Says`); the walk is that over the inputs as listed (`Relisted`). And a refusal of the
-- walk is at a needed term.
-- Assumes nothing.
use Prim.Native.Nat.{ℕ}
use mathlib.Core.Path.{◌≡◌, ◌∙◌, subst}
use mathlib.Core.List.{List}
use Rattle.script_spec.specs.Base.{Bytes, accepted, refused}
use Rattle.script_spec.specs.Tree.{Tm}
use Rattle.script_spec.specs.File.{TermFile, members, inputs, checked}
use Rattle.script_spec.specs.Command.{Command, script}
use Rattle.script_spec.specs.Smtlib.{commands_of}
use Rattle.script_spec.specs.Walk.{first_equal, encoding, encoded}
use Rattle.script_spec.specs.Listing.{sets_of, listed, as_listed}
use Rattle.script_spec.specs.Faithful.{Says, Faithful, Every}
use Rattle.script_spec.proofs.Classes.{eq_tm_first_equal}
use Rattle.script_spec.proofs.Listings.{listed_same}
use Rattle.script_spec.proofs.Says.{logged_says}
use Rattle.script_spec.proofs.NewLog.{Refusal}
use Rattle.script_spec.proofs.Logs.{walk_logged, walk_refusal}
use Rattle.script_spec.proofs.Bare.{BareTerm, bare_types}
use Rattle.script_spec.proofs.BareFile.{checked_bare}
use Rattle.script_spec.proofs.Tracks.{relisted}
use Rattle.script_spec.proofs.Relisted.{one_listing, as_listed_bare, walk_listed, walk_listed_stopped, assertions_listed}
use Rattle.script_spec.proofs.Encoding.{encoding_went, encoding_stopped, encoded_commands}

-- the script of records whose extension types have no parts
pub encoding_faithful : (f : TermFile) (cs : List Command) → Every BareTerm (inputs f) → encoding f ≡ accepted cs → Faithful f (script cs)
unfolding Faithful
encoding_faithful f cs bare p =
    let e = members f in
    let ins = inputs f in
    let w = encoding_went f cs p in
    let s = relisted (sets_of ins) w.0 in
    let l = (walk_logged e (as_listed ins) s (one_listing ins) (bare_types (as_listed_bare ins bare)) (walk_listed ins e w.0 w.1)).1 in
    subst (λ (x : List Command). Says e (as_listed ins) (commands_of (script x))) (assertions_listed ins e w.0 ∙ w.2) (logged_says l)

-- For every term file that check accepts and whose encoding is not refused, the script is faithful to it: demand 3. f is the file as
-- check reads it, and cs the commands that encode it.
pub faithful : (file : Bytes) (work : ℕ) (f : TermFile) (cs : List Command) → checked file work ≡ accepted f → encoding f ≡ accepted cs → Faithful f (script cs)
faithful file work f cs p q = encoding_faithful f cs (checked_bare file work f p) q

-- The same of encode's answer: for every term file that check accepts, the bytes that encode answers with, if it does not refuse, are
-- faithful to the file.
pub encoded_faithful : (file : Bytes) (work room : ℕ) (f : TermFile) (s : Bytes) → checked file work ≡ accepted f → encoded file work room ≡ accepted s → Faithful f s
encoded_faithful file work room f s p q = let w = encoded_commands file work room f s p q in subst (Faithful f) w.2 (faithful file work f w.0 p w.1)

-- a refusal of the walk has a number from 14 to 19, 24 or 25 and the place of a term that is needed, as listed; 15, 24 and 25 have the
-- position of the first high code point of its id, text or pattern, and the others 0
pub encoding_refusal : (f : TermFile) (n k q : ℕ) → encoding f ≡ refused n k q → (t : Tm) × Refusal (as_listed (inputs f)) n t q × (k ≡ first_equal f t)
encoding_refusal f n k q p =
    let w = encoding_stopped f n k q p in
    let t = listed (sets_of (inputs f)) w.0 in (
      t,
      walk_refusal (members f) (as_listed (inputs f)) n t q (one_listing (inputs f)) (walk_listed_stopped (inputs f) (members f) n w.0 q w.1),
      w.2 ∙ eq_tm_first_equal f w.0 t (listed_same (sets_of (inputs f)) w.0),
    )
