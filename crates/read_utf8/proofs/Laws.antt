-- Laws of code points one by one: what a cursor finds moves it on, and `points` of UTF-8 are its code points.
-- Assumes nothing.
use mathlib.Core.Path.{◌≡◌, refl, sym, ap, subst, ◌∙◌}
use mathlib.Core.Bool.{Bool, true, false}
use mathlib.Core.List.{List, [], ◌∷◌}
use mathlib.Core.Option.{Option, none, some, map, none-ne-some, some_inj, get_or}
use Prim.Native.Nat.{ℕ, zero, suc, ◌+◌, ◌-◌, ◌*◌, ◌≤◌, ◌<◌}
use native.Mathlib.Nat.{not-suc-le-zero}
use native.Mathlib.Omega.{arith}
use borrow.Author.Tests.{lt-ltb}
use denote.Ref.{Bor}
use denote.Param.Members.{Mut}
use lib.Dec.{ltb}
use lib.ListN.{length, drop, length-drop}
use lib.Seq.{drop-drop}
use Rattle.script_spec.specs.Base.{Bytes, between, is_some, place}
use Rattle.script_spec.specs.Utf8.{decode, code_points?, code_points, is_utf8}
use Rattle.script_spec.specs.Walk.{is_low, first_high}
use Rattle.script_spec.proofs.Laws.{never}
use Rattle.refusal.proofs.Options.{after as behind, after_zero, after_one, after_here}
use Rattle.std.specs.Prelude.{Option as Optional, None, Some, Result, Ok, Err}
use Rattle.std.specs.Result.{is_ok}
use Rattle.std.specs.Option.{MatchOption}
use Rattle.std.specs.List.{FoldsTo}
use Rattle.std.specs.Fn.{Called}
use Rattle.std.specs.Iterator.{Yields, ChecksAll}
use Rattle.read_utf8.specs.declared.CodePoints.{CodePoints}
use Rattle.read_utf8.specs.declared.Malformed.{Malformed}
use Rattle.read_utf8.specs.Decoding.{First, nothing, malformed, point, longer, follow, led, first_point, points, points_by, next_said, Decodes}
use Rattle.read_utf8.proofs.Decode.{after, decode_first}

-- ---- how far a code point reaches

-- a code point of at least `least` and at most n bytes
abbrev Within : ℕ → ℕ → First → Type 0
Within least n nothing = Unit
Within least n malformed = Unit
Within least n (point v k) = (least ≤ k) × (k ≤ n)

within_longer : (n : ℕ) (f : First) → Within 0 n f → Within 1 (suc n) (longer f)
unfolding longer
within_longer n nothing h = tt
within_longer n malformed h = tt
within_longer n (point v k) h = (omega arith, omega arith)

within_less : (n : ℕ) (f : First) → Within 1 n f → Within 0 n f
within_less n nothing h = tt
within_less n malformed h = tt
within_less n (point v k) h = (omega arith, h.1)

within_byte : (m low high v b : ℕ) (s : Bytes) → ((w : ℕ) → Within 0 (length s) (follow m 128 191 w s))
    → (t : Bool) → between low high b ≡ t → Within 0 (suc (length s)) (follow (suc m) low high v (b ∷ s))
unfolding follow
within_byte m low high v b s ih true e =
    let f = follow m 128 191 (v * 64 + (b - 128)) s in
    rw (e, follow) (within_less (suc (length s)) (longer f) (within_longer (length s) f (ih (v * 64 + (b - 128)))))
within_byte m low high v b s ih false e = rw (e, follow) tt

within_follow : (m low high v : ℕ) (s : Bytes) → Within 0 (length s) (follow m low high v s)
unfolding follow
within_follow zero low high v s = (omega arith, omega arith)
within_follow (suc m) low high v [] = tt
within_follow (suc m) low high v (b ∷ s) = within_byte m low high v b s (λ w. within_follow m 128 191 w s) (between low high b) refl

module _ (a : ℕ) (s : Bytes) where
  within_led : (t u v w : Bool) → ltb a 194 ≡ t → ltb a 224 ≡ u → ltb a 240 ≡ v → ltb a 245 ≡ w → Within 0 (length s) (led a s)
  unfolding led
  within_led true u v w e f g k = rw (e, led) tt
  within_led false true v w e f g k = rw (e, f, led) (within_follow 1 _ _ _ s)
  within_led false false true w e f g k = rw (e, f, g, led) (within_follow 2 _ _ _ s)
  within_led false false false true e f g k = rw (e, f, g, k, led) (within_follow 3 _ _ _ s)
  within_led false false false false e f g k = rw (e, f, g, k, led) tt

  within_start : (t : Bool) → ltb a 128 ≡ t → Within 1 (suc (length s)) (first_point (a ∷ s))
  unfolding first_point
  within_start true e = rw (e, first_point) (omega arith, omega arith)
  within_start false e = rw (e, first_point) (within_longer (length s) (led a s) (within_led (ltb a 194) (ltb a 224) (ltb a 240) (ltb a 245) refl refl refl refl))

within_first : (s : Bytes) → Within 1 (length s) (first_point s)
unfolding first_point
within_first [] = tt
within_first (a ∷ s) = within_start a s (ltb a 128) refl

-- ---- the code points of any bytes

-- more fuel than bytes changes nothing
points_by_step : (n m : ℕ) (s : Bytes) → length s ≤ suc n → length s ≤ suc m → ((r : Bytes) → length r ≤ n → length r ≤ m → points_by n r ≡ points_by m r)
    → (f : First) → first_point s ≡ f → Within 1 (length s) f → points_by (suc n) s ≡ points_by (suc m) s
unfolding points_by
points_by_step n m s h k ih nothing e w = rw (e, points_by)
points_by_step n m s h k ih malformed e w = rw (e, points_by)
points_by_step n m s h k ih (point v j) e w =
    let l : length (drop j s) ≡ length s - j = length-drop j s in
    rw (e, points_by) (ap (λ (cs : List ℕ). v ∷ cs) (ih (drop j s) (omega (arith, w.0)) (omega (arith, w.0))))

points_by_enough : (n m : ℕ) (s : Bytes) → length s ≤ n → length s ≤ m → points_by n s ≡ points_by m s
unfolding points_by first_point
points_by_enough zero zero s h k = refl
points_by_enough zero (suc m) [] h k = refl
points_by_enough zero (suc m) (a ∷ s) h k = absurd (not-suc-le-zero h)
points_by_enough (suc n) zero [] h k = refl
points_by_enough (suc n) zero (a ∷ s) h k = absurd (not-suc-le-zero k)
points_by_enough (suc n) (suc m) s h k = points_by_step n m s h k (λ r i j. points_by_enough n m r i j) (first_point s) refl (within_first s)

-- the code points by what a text starts with
unfoldable pub pointed : First → Bytes → List ℕ
pointed nothing s = []
pointed malformed s = []
pointed (point v k) s = v ∷ points (drop k s)

points_by_lem : (n : ℕ) (s : Bytes) → length s ≡ n → (f : First) → first_point s ≡ f → Within 1 (length s) f → points_by n s ≡ pointed f s
unfolding points_by pointed points
points_by_lem zero s h nothing e w = refl
points_by_lem zero s h malformed e w = refl
points_by_lem zero s h (point v k) e w = absurd (omega (arith, w.0, w.1))
points_by_lem (suc n) s h nothing e w = rw (e, points_by)
points_by_lem (suc n) s h malformed e w = rw (e, points_by)
points_by_lem (suc n) s h (point v k) e w =
    let l : length (drop k s) ≡ length s - k = length-drop k s in
    rw (e, points_by) (ap (λ (cs : List ℕ). v ∷ cs) (points_by_enough n (length (drop k s)) (drop k s) (omega (arith, w.0)) (omega arith)))

pub points_first : (s : Bytes) → points s ≡ pointed (first_point s) s
unfolding points
points_first s = points_by_lem (length s) s refl (first_point s) refl (within_first s)

-- a byte below 128 is its own code point
pub points_ascii : (a : ℕ) (s : Bytes) → a < 128 → points (a ∷ s) ≡ a ∷ points s
unfolding first_point pointed
points_ascii a s h = points_first (a ∷ s) ∙ (rw (lt-ltb a 128 h, first_point))

-- ---- the code points of UTF-8

-- a code point before those of the rest
map_some : (v : ℕ) (o : Option (List ℕ)) (cs ps : List ℕ) → ((r : List ℕ) → o ≡ some r → ps ≡ r) → map (λ (r : List ℕ). v ∷ r) o ≡ some cs → ◌≡◌ {A = List ℕ} (v ∷ ps) cs
map_some v none cs ps ih h = absurd (none-ne-some cs h)
map_some v (some r) cs ps ih h = ap (λ (l : List ℕ). v ∷ l) (ih r refl) ∙ some_inj.0 h

utf8_step : (s : Bytes) (cs : List ℕ) (f : First) → ((v k : ℕ) → f ≡ point v k → (r : List ℕ) → decode zero 0 0 0 (drop k s) ≡ some r → points (drop k s) ≡ r)
    → after f s ≡ some cs → pointed f s ≡ cs
unfolding after pointed
utf8_step s cs nothing ih h = some_inj.0 h
utf8_step s cs malformed ih h = absurd (none-ne-some cs h)
utf8_step s cs (point v k) ih h = map_some v (decode zero 0 0 0 (drop k s)) cs (points (drop k s)) (ih v k refl) h

points_decoded : (n : ℕ) (s : Bytes) (cs : List ℕ) → length s ≤ n → decode zero 0 0 0 s ≡ some cs → points s ≡ cs
points_decoded zero s cs h e = points_first s ∙ utf8_step s cs (first_point s) (λ v k q r d. absurd (shorter v k q)) (sym (decode_first s) ∙ e)
  where
    shorter : (v k : ℕ) → first_point s ≡ point v k → ⊥
    shorter v k q = let w = subst (λ (f : First). Within 1 (length s) f) q (within_first s) in omega (arith, w.0, w.1)
points_decoded (suc n) s cs h e = points_first s ∙ utf8_step s cs (first_point s) (λ v k q r d. points_decoded n (drop k s) r (shorter v k q) d) (sym (decode_first s) ∙ e)
  where
    shorter : (v k : ℕ) → first_point s ≡ point v k → length (drop k s) ≤ n
    shorter v k q = let w = subst (λ (f : First). Within 1 (length s) f) q (within_first s) in rw length-drop (omega (arith, w.0))

utf8_cases : (s : Bytes) (o : Option (List ℕ)) → decode zero 0 0 0 s ≡ o → is_some o ≡ true → points s ≡ get_or o []
unfolding is_some
utf8_cases s none e h = never cc
utf8_cases s (some cs) e h = points_decoded (length s) s cs (omega arith) e

-- the code points of UTF-8
pub utf8_points : (s : Bytes) → is_utf8 s ≡ true → points s ≡ code_points s
unfolding is_utf8 code_points code_points?
utf8_points s h = utf8_cases s (decode zero 0 0 0 s) refl h

-- ---- what a cursor finds

-- what is left of a text
abbrev left : CodePoints → Bytes
left c = drop c.at c.text.now

-- a code point v stands first of what c leaves of a text, and d is after it
pub record PointAt (c d : CodePoints) (v : ℕ) : Type 0 where
  pub value : points (left c) ≡ v ∷ points (left d)
  pub utf8 : is_utf8 (left c) ≡ is_utf8 (left d)
  pub moves : c.at < d.at
  pub inside : d.at ≤ length c.text.now
  pub smaller : length d.text.now - d.at < length c.text.now - c.at

some_map : (v : ℕ) (o : Option (List ℕ)) → is_some (map (λ (r : List ℕ). v ∷ r) o) ≡ is_some o
unfolding is_some
some_map v none = refl
some_map v (some r) = refl

-- the text from a place on, by what it starts with
unfoldable utf8_then : First → Bytes → Bool
utf8_then nothing s = true
utf8_then malformed s = false
utf8_then (point v k) s = is_utf8 (drop k s)

utf8_after : (f : First) (s : Bytes) → is_some (after f s) ≡ utf8_then f s
unfolding after utf8_then is_some is_utf8 code_points?
utf8_after nothing s = refl
utf8_after malformed s = refl
utf8_after (point v k) s = some_map v (decode zero 0 0 0 (drop k s))

utf8_first : (s : Bytes) → is_utf8 s ≡ utf8_then (first_point s) s
unfolding is_utf8 code_points?
utf8_first s = ap is_some (decode_first s) ∙ utf8_after (first_point s) s

pub next_point : {c d : CodePoints} {v : ℕ} {r : Optional (Result ℕ Malformed)} → Decodes (first_point (left c)) c d r → r ≡ Some (Ok v) → PointAt c d v
unfolding next_said pointed utf8_then
next_point {c} {d} {v} F h =
    let s = c.text.now in
    let G : Decodes (first_point (left c)) c d (Some (Ok v)) = subst (λ (r : Optional (Result ℕ Malformed)). Decodes (first_point (left c)) c d r) h F in
    let e : first_point (left c) ≡ point v (d.at - c.at) = sym G.is in
    let w : Within 1 (length (left c)) (point v (d.at - c.at)) = subst (λ (f : First). Within 1 (length (left c)) f) e (within_first (left c)) in
    let on : c.at ≤ d.at = G.onward in
    let p : c.at + (d.at - c.at) ≡ d.at = omega arith in
    let x : drop (d.at - c.at) (left c) ≡ left d = drop-drop (d.at - c.at) c.at s ∙ ap (λ (n : ℕ). drop n s) p ∙ sym (ap (λ (t : Bor Bytes). drop d.at t.now) G.text) in
    let l : length (left c) ≡ length s - c.at = length-drop c.at s in
    let same : length d.text.now ≡ length s = ap (λ (t : Bor Bytes). length t.now) G.text in
    record {
      value = points_first (left c) ∙ ap (λ (f : First). pointed f (left c)) e ∙ (rw x);
      utf8 = utf8_first (left c) ∙ ap (λ (f : First). utf8_then f (left c)) e ∙ ap is_utf8 x;
      moves = omega (arith, w.0);
      inside = omega (arith, w.0, w.1);
      smaller = omega (arith, w.0, w.1, same);
    }

-- bytes that are not UTF-8, and the end
pub next_malformed : {c d : CodePoints} {m : Malformed} {r : Optional (Result ℕ Malformed)} → Decodes (first_point (left c)) c d r → r ≡ Some (Err m) → (is_utf8 (left c) ≡ false) × (points (left c) ≡ [])
unfolding next_said pointed utf8_then
next_malformed {c} {d} F h =
    let e : first_point (left c) ≡ malformed = sym F.is ∙ ap (next_said (d.at - c.at)) h in
    (utf8_first (left c) ∙ ap (λ (f : First). utf8_then f (left c)) e, points_first (left c) ∙ ap (λ (f : First). pointed f (left c)) e)

pub next_end : {c d : CodePoints} {r : Optional (Result ℕ Malformed)} → Decodes (first_point (left c)) c d r → r ≡ None → (is_utf8 (left c) ≡ true) × (points (left c) ≡ [])
unfolding next_said pointed utf8_then
next_end {c} {d} F h =
    let e : first_point (left c) ≡ nothing = sym F.is ∙ ap (next_said (d.at - c.at)) h in
    (utf8_first (left c) ∙ ap (λ (f : First). utf8_then f (left c)) e, points_first (left c) ∙ ap (λ (f : First). pointed f (left c)) e)

-- bytes that are not UTF-8 or a code point, by whether they are one
utf8_stop : {c d : CodePoints} (r : Result ℕ Malformed) → Decodes (first_point (left c)) c d (Some r) → is_ok r ≡ false → is_utf8 (left c) ≡ false
utf8_stop (Ok v) F h = never cc
utf8_stop (Err m) F h = (next_malformed F refl).0

utf8_more : {c d : CodePoints} (r : Result ℕ Malformed) → Decodes (first_point (left c)) c d (Some r) → is_ok r ≡ true → is_utf8 (left c) ≡ is_utf8 (left d)
utf8_more (Ok v) F h = (next_point F refl).utf8
utf8_more (Err m) F h = never cc

-- what is answered where a test asks of each whether it is a code point
module _ {F : Type 0} {test : Mut F (Result ℕ Malformed × Unit {0}) Bool} (asks : (x : Result ℕ Malformed) (b : Bool) (p q : F) → Called test p (x, tt) b q → b ≡ is_ok x) where
  utf8_along : (xs : List (Result ℕ Malformed)) (c d : CodePoints) (p q : F) → Yields (λ c r d. Decodes (first_point (left c)) c d r) c xs d → FoldsTo (λ p x q. Called test p (x, tt) true q) p xs q
      → is_utf8 (left c) ≡ is_utf8 (left d)
  utf8_along [] c d p q y h = ap (λ (c : CodePoints). is_utf8 (left c)) y
  utf8_along (x ∷ xs) c d p q y h = utf8_more x y.1 (sym (asks x true _ _ h.1)) ∙ utf8_along xs _ _ _ _ y.2 h.2

  utf8_ends : (o : Optional (Result ℕ Malformed)) {c d : CodePoints} (q : F) {r : Bool} → Decodes (first_point (left c)) c d o
      → MatchOption o (r ≡ true) (λ x. (r ≡ false) × ((h : F) × Called test q (x, tt) false h)) → r ≡ is_utf8 (left c)
  utf8_ends None q e m = m ∙ sym (next_end e refl).0
  utf8_ends (Some x) q e m = m.0 ∙ sym (utf8_stop x e (sym (asks x false _ _ m.1.1)))

  pub utf8_all : {c d : CodePoints} {p : F} {r : Bool} → ChecksAll (λ c r d. Decodes (first_point (left c)) c d r) test c p r d → r ≡ is_utf8 (left c)
  utf8_all a = utf8_ends a.1 a.2 a.3.2 a.5 ∙ sym (utf8_along a.0 _ _ _ _ a.3.1 a.4)

-- ---- code points that SMT-LIB's strings have

-- the first high code point of a text s is the first of what c leaves of it, behind n code points
pub record HighLeft (s : Bytes) (n : ℕ) (c : CodePoints) : Type 0 where
  pub first : first_high (points s) ≡ behind n (first_high (points (left c)))

pub high_start : {c : CodePoints} (s : Bytes) → c.text.now ≡ s → c.at ≡ 0 → HighLeft s 0 c
high_start s h e = record { first = rw (h, e) (sym (after_zero (first_high (points s)))) }

module _ {s : Bytes} {n : ℕ} {c : CodePoints} (h : HighLeft s n c) where
  pub high_more : {d : CodePoints} {v : ℕ} → PointAt c d v → is_low v ≡ true → HighLeft s (n + 1) d
  unfolding first_high place
  high_more {d} p e = record { first = h.first ∙ rw (p.value, e) (after_one n (first_high (points (left d)))) }

  pub high_stop : {d : CodePoints} {v : ℕ} → PointAt c d v → is_low v ≡ false → first_high (points s) ≡ some n
  unfolding first_high place
  high_stop p e = h.first ∙ rw (p.value, e) (after_here n _ refl)

  pub high_none : points (left c) ≡ [] → first_high (points s) ≡ none
  unfolding first_high place behind
  high_none e = h.first ∙ rw e refl
