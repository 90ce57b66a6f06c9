-- The search of a text by halves of the rows of its list: the texts before the lower row and from the higher row on are other ones,
-- since they ascend.
-- Assumes nothing.
use Prim.Native.Nat.{ℕ, zero, suc, ◌+◌, ◌*◌, ◌-◌, ◌<◌, ◌≤◌, min}
use native.Mathlib.Omega.{arith}
use native.Mathlib.Decide.{ℕ_discrete}
use mathlib.Core.Path.{◌≡◌, refl, sym, ap, ◌∙◌, subst}
use mathlib.Core.Bool.{Bool, true, false}
use mathlib.Core.Logic.{inl, inr, ⊎_elim}
use mathlib.Core.List.{List, [], ◌∷◌}
use lib.ListN.{length, take, drop, get_or}
use lib.Seq.{drop-cons}
use Rattle.script_spec.specs.Base.{Bytes, same, before, ascending, place}
use Rattle.script_spec.proofs.Laws.{same_eq}
use Rattle.refusal.specs.Numbers.{option_of}
use Rattle.index.specs.Cells.{cell, list_row}
use Rattle.index.specs.Lists.{first_text, text_size, texts, Listed}
use Rattle.index_entry.proofs.Places.{length_texts, length_texts_in}
use Rattle.std.specs.Prelude as std
use Rattle.std.specs.Prelude.{Some, None}
use Rattle.index_entry.specs.Places.{texts_in}
use Rattle.index_entry.specs.declared.lists.Texts.{Texts}
use Rattle.walk_queries.specs.Found.{FindsText, HaveList, FindsListed, row_text, Halves}
use Rattle.walk_queries.specs.Made.{RowsOf}
use Rattle.walk_queries.proofs.Order.{untrue, before_irreflexive, before_trans, ascending_before}
use Rattle.refusal.proofs.Options.{after}
use Rattle.walk_queries.proofs.Window.{place_window, place_below}

-- ---- other texts

module _ (name : Bytes) (names : List Bytes) (up : ascending names ≡ true) where
  unlike : (x : Bytes) → (name ≡ x → ⊥) → same name x ≡ false
  unlike x h = go (same name x) refl
    where
      go : (b : Bool) → same name x ≡ b → same name x ≡ false
      go true e = absurd (h (same_eq name x (rw e tt)))
      go false e = e

  -- a text before one that the name does not stand before
  earlier_unlike : (i j : ℕ) → i < j → j < length names → before name (get_or names j []) ≡ false → same name (get_or names i []) ≡ false
  earlier_unlike i j g l h = unlike (get_or names i []) (λ e. untrue (sym h ∙ ap (λ (x : Bytes). before x (get_or names j [])) e ∙ ascending_before names up i j g l))

  -- a text from one on that the name stands before
  later_unlike : (i j : ℕ) → j ≤ i → i < length names → before name (get_or names j []) ≡ true → same name (get_or names i []) ≡ false
  later_unlike i j g l h = go (ℕ_discrete j i)
    where
      go : Dec (j ≡ i) → same name (get_or names i []) ≡ false
      go (yes e) = unlike (get_or names i []) (λ q. before_irreflexive name (ap (before name) (q ∙ ap (λ (n : ℕ). get_or names n []) (sym e)) ∙ h))
      go (no e) =
          unlike (get_or names i [])
          (λ q. before_irreflexive name (ap (before name) q ∙ before_trans name (get_or names j []) (get_or names i []) h (ascending_before names up j i (omega arith) l)))

-- ---- halves

module _ {body : Bytes} {work : List ℕ} {k base rows : ℕ} {name : Bytes} where
  pub halves_start : 0 < rows → Halves body work k base rows name 0 rows
  halves_start h = record { apart = h; within = omega arith; not_below = inl refl; below = inl refl }

  pub halves_end : {low high : ℕ} → Halves body work k base rows name low high → high - low ≤ 1 → Halves body work k base rows name low (low + 1)
  halves_end {low} {high} H h = let one : high ≡ low + 1 = omega (arith, H.apart) in subst (λ (n : ℕ). Halves body work k base rows name low n) one H

  module _ {low high middle at : ℕ} {t : Bool} (H : Halves body work k base rows name low high) (inside : (low < middle) × (middle < high)) (e : at ≡ cell work k list_row (base + middle))
      (d : t ≡ before name (first_text (drop at body))) where
    row_before : t ≡ before name (row_text body work k base middle)
    unfolding row_text
    row_before = cc

    pub halves_lower : t ≡ true → Halves body work k base rows name low middle
    halves_lower h = record { apart = inside.0; within = omega (arith, inside.1, H.within); not_below = H.not_below; below = inr (sym row_before ∙ h) }

    pub halves_upper : t ≡ false → Halves body work k base rows name middle high
    halves_upper h = record { apart = inside.1; within = H.within; not_below = inr (sym row_before ∙ h); below = H.below }

-- ---- texts and rows

texts_take : (skip m n : ℕ) (s : Bytes) → m ≤ n → take m (texts skip n s) ≡ texts skip m s
unfolding texts
texts_take skip zero n s l = refl
texts_take skip (suc m) zero s l = absurd (omega arith)
texts_take skip (suc m) (suc n) s l = ap (λ (r : List Bytes). first_text s ∷ r) (texts_take skip m n (drop skip (drop (text_size s) s)) (omega arith))

head_text : (skip n : ℕ) (s : Bytes) (names : List Bytes) (i : ℕ) → i < length names → 0 < n → texts skip n s ≡ drop i names → first_text s ≡ get_or names i []
unfolding texts
head_text skip zero s names i l g e = absurd (omega arith)
head_text skip (suc n) s names i l g e = let d = drop-cons names i [] l in cc

module _ {body : Bytes} {work : List ℕ} {k base count skip : ℕ} {names : List Bytes} (L : Listed body skip names work k base) (size : length names ≡ count) where
  row_text_lem : (j : ℕ) → 2 * j < count → row_text body work k base j ≡ get_or names (2 * j) []
  unfolding row_text
  row_text_lem j l = head_text skip _ _ names (2 * j) (omega arith) (omega arith) (L.held j (omega arith))

  row_few : (j m : ℕ) → 2 * j < count → m ≤ count - 2 * j → texts skip m (drop (cell work k list_row (base + j)) body) ≡ take m (drop (2 * j) names)
  row_few j m l g = sym (ap (take m) (sym (L.held j (omega arith))) ∙ texts_take skip m _ _ (omega arith))

  module _ {name : Bytes} {rows low m : ℕ} (R : RowsOf count rows) (H : Halves body work k base rows name low (low + 1)) (F : m ≡ min (count - low * 2) 2) where
    low_inside : 2 * low < count
    low_inside = omega (arith, R.few, H.within)

    found_in : place (same name) names ≡ after (2 * low) (place (same name) (texts skip m (drop (cell work k list_row (base + low)) body)))
    found_in =
        place_window (same name) [] names (2 * low) m earlier later
        ∙ ap (λ (xs : List Bytes). after (2 * low) (place (same name) xs)) (sym (row_few low m low_inside (omega (arith, F))))
      where
        earlier : (i : ℕ) → i < 2 * low → i < length names → same name (get_or names i []) ≡ false
        earlier i g l =
            ⊎_elim (λ e. absurd (omega arith))
            (λ h. earlier_unlike name names L.ordered i (2 * low) g (omega (arith, low_inside)) (ap (before name) (sym (row_text_lem low low_inside)) ∙ h))
            H.not_below

        later : (i : ℕ) → 2 * low + m ≤ i → i < length names → same name (get_or names i []) ≡ false
        later i g l =
            ⊎_elim
            (λ e. absurd (omega (arith, R.enough, low_inside, F)))
            (λ h.
            let next : 2 * (low + 1) < count = omega (arith, low_inside, F) in
            later_unlike name names L.ordered i (2 * (low + 1)) (omega (arith, F)) l (ap (before name) (sym (row_text_lem (low + 1) next)) ∙ h))
            H.below

-- ---- the answer

-- the place of a text is below the number of texts
pub place_few : (among : Texts) {name : Bytes} {q : std.Option ℕ} {i : ℕ} → FindsText among name q → q ≡ Some i → i < among.left
place_few among {name} {i = i} T h = subst (λ (x : ℕ). i < x) (length_texts_in among) (place_below (same name) [] (texts_in among) i (T.is ∙ ap option_of h))

module _ (among : Texts) {work : List ℕ} {k base rows low at first m : ℕ} {name : Bytes} {q : std.Option ℕ} (R : RowsOf among.left rows) (H : Halves among.body.now work k base rows name low (low + 1))
    (e : at ≡ cell work k list_row (base + low)) (d : first ≡ low * 2) (F : m ≡ min (among.left - first) 2) (T : FindsText (record { body = among.body; from = at; left = m; skip = among.skip }) name q) where
  from_row : HaveList work k base among → place (same name) (texts_in among) ≡ after first (option_of q)
  unfolding texts_in
  from_row L =
      let few : m ≡ min (among.left - low * 2) 2 = F ∙ ap (λ (x : ℕ). min (among.left - x) 2) d in
      let first_is : 2 * low ≡ first = omega arith in
      found_in L (length_texts among.skip among.left (drop among.from among.body.now)) R H few
      ∙ (λ j. after (first_is j) (place (same name) (texts among.skip m (drop (sym e j) among.body.now))))
      ∙ ap (after first) T.is

  pub listed_at : {i : ℕ} → q ≡ Some i → FindsListed work k base among name (Some (first + i))
  unfolding after
  listed_at h = record { go = λ L. record { is = from_row L ∙ ap (λ (x : std.Option ℕ). after first (option_of x)) h } }

  pub listed_nowhere : q ≡ None → FindsListed work k base among name None
  unfolding after
  listed_nowhere h = record { go = λ L. record { is = from_row L ∙ ap (λ (x : std.Option ℕ). after first (option_of x)) h } }
