-- The walk over terms and inputs logs them, or stops at a needed term: by recursion on the term.
-- Assumes nothing.
use Prim.Native.Nat.{ℕ, suc, ◌<◌}
use mathlib.Core.Path.{◌≡◌, refl, subst}
use mathlib.Core.Logic.{◌⊎◌, inl, inr}
use mathlib.Core.Bool.{not}
use mathlib.Core.List.{List, [], ◌∷◌, Memᴰ}
use native.Mathlib.Omega.{arith}
use lib.Dec.{T, T_not}
use Rattle.script_spec.specs.Base.{any}
use Rattle.script_spec.specs.Tree.{Tm, Mark, Forest, node, nil, cons, trees, children, depth, depths, type_of, is_falsehood, eq_tm, Enums}
use Rattle.script_spec.specs.Walk.{State, ◌>>◌, unless, start, encode_type, encode_new, encode_term, encode_terms, encode_inputs}
use Rattle.script_spec.specs.Faithful.{Thing, term, NeededTerm, is_input, is_child, of_term, Every, every, also}
use Rattle.script_spec.proofs.Log.{HasType}
use Rattle.script_spec.proofs.Steps.{Ends, goes, ends_then, ends_unless, ends_map, goes_map}
use Rattle.script_spec.proofs.Grow.{Done, Dones, type_grows, done_grows}
use Rattle.script_spec.proofs.Invariant.{OneListing, Tabled, Covered, Asked, Inv, inv_start}
use Rattle.script_spec.proofs.Equal.{eq_tm_depth}
use Rattle.script_spec.proofs.TypeLog.{Logs, logs_same, logs_then, encode_type_step}
use Rattle.script_spec.proofs.NewLog.{Refusal, encode_new_logs}

-- the terms that are entered between two states have at most the depth d
abbrev Shallow : ℕ → State → State → Type 0
Shallow d s s' = (u : Tm) → d < depth u → T (any (eq_tm u) s'.terms) → T (any (eq_tm u) s.terms)

module _ (e : Enums) (ins : List Tm) (one : OneListing ins) where
  -- what is shown of the state after the children of a term
  abbrev Below : Mark → Forest Mark → State → List Thing → State → Type 0
  Below m ts s log s' = Logs e ins (λ l. T (not (is_falsehood (node m ts))) → Dones e l ts) log s' × Shallow (depths ts) s s'

  -- a new term after its type and its children
  new_after : (m : Mark) (ts : Forest Mark) (s s₁ s₂ : State) (log : List Thing) → NeededTerm ins (node m ts) → T (not (any (eq_tm (node m ts)) s.terms))
      → (a : Logs e ins (λ l. HasType l (type_of (node m ts))) log s₁) → s₁.terms ≡ s.terms → Below m ts s₁ a.later s₂
      → Ends (λ s'. Logs e ins (λ l. Done e l (node m ts)) log s' × Shallow (suc (depths ts)) s s') (Refusal ins) (encode_new e (node m ts) s₂)
  unfolding Tabled depth
  new_after m ts s s₁ s₂ log need k a p b =
      ends_map (λ s₃ f. (logs_then e ins (λ th x. b.0.grown th (a.grown th x)) f.0 (λ h. h), λ u d h. from u d (f.1 u h)))
      (encode_new_logs e ins m ts s₂ b.0.later (record {
        listing = one;
        needed = need;
        inv = b.0.inv;
        typed = type_grows b.0.grown (type_of (node m ts)) a.has;
        below = b.0.has;
        fresh = λ h. T_not (any (eq_tm (node m ts)) s.terms) k (back (node m ts) (omega arith) h);
      }))
    where
      back : (u : Tm) → depths ts < depth u → T (any (eq_tm u) s₂.terms) → T (any (eq_tm u) s.terms)
      back u d h = subst (λ (us : List Tm). T (any (eq_tm u) us)) p (b.1 u d h)

      from : (u : Tm) → suc (depths ts) < depth u → T (any (eq_tm u) s₂.terms) ⊎ T (eq_tm u (node m ts)) → T (any (eq_tm u) s.terms)
      from u d (inl h) = back u (omega arith) h
      from u d (inr q) = absurd (let z : depth u ≡ suc (depths ts) = eq_tm_depth u (node m ts) q in omega arith)

  mutual
    unfolding encode_term Tabled Covered Asked Done trees children depth

    encode_term_logs : (t : Tm) (s : State) (log : List Thing) → NeededTerm ins t → Inv e ins s log
        → Ends (λ s'. Logs e ins (λ l. Done e l t) log s' × Shallow (depth t) s s') (Refusal ins) (encode_term e t s)
    encode_term_logs (node m ts) s log need inv =
        ends_unless (λ s'. any (eq_tm (node m ts)) s'.terms) (◌>>◌ (encode_type e (type_of (node m ts))) (◌>>◌ (unless (λ s'. is_falsehood (node m ts)) (encode_terms e ts)) (encode_new e (node m ts)))) s
        (λ k. (logs_same e ins inv (inv.covered (term (node m ts)) need k), λ u d h. h))
        (λ k. ends_then (encode_type e (type_of (node m ts))) (◌>>◌ (unless (λ s'. is_falsehood (node m ts)) (encode_terms e ts)) (encode_new e (node m ts))) s
        (goes_map (λ s₁ a. ends_then (unless (λ s'. is_falsehood (node m ts)) (encode_terms e ts)) (encode_new e (node m ts)) s₁
        (ends_map (λ s₂ b. new_after m ts s s₁ s₂ log need k a.0 a.1.terms b)
        (ends_unless (λ s'. is_falsehood (node m ts)) (encode_terms e ts) s₁
        (λ f. (logs_same e ins a.0.inv (λ n. absurd (T_not (is_falsehood (node m ts)) n f)), λ u d h. h))
        (λ n. ends_map (λ s₂ b. (logs_then e ins (λ th x. x) b.0 (λ d _. d), b.1)) (encode_terms_logs ts s₁ a.0.later (λ u x. is_child need n x) a.0.inv)))))
        (encode_type_step e ins (type_of (node m ts)) s log (of_term need refl) inv)))

    encode_terms_logs : (ts : Forest Mark) (s : State) (log : List Thing) → ((u : Tm) → Memᴰ u (trees ts) → NeededTerm ins u) → Inv e ins s log
        → Ends (λ s'. Logs e ins (λ l. Dones e l ts) log s' × Shallow (depths ts) s s') (Refusal ins) (encode_terms e ts s)
    encode_terms_logs nil s log need inv = goes (logs_same e ins inv tt, λ u d h. h)
    encode_terms_logs (cons t ts) s log need inv =
        ends_then (encode_term e t) (encode_terms e ts) s
        (ends_map (λ s₁ a. ends_map (λ s₂ b. (logs_then e ins a.0.grown b.0 (λ d. (done_grows b.0.grown e t a.0.has, d)), λ u d h. a.1 u (omega arith) (b.1 u (omega arith) h)))
        (encode_terms_logs ts s₁ a.0.later (λ u x. need u (Memᴰ.tail x)) a.0.inv))
        (encode_term_logs t s log (need t (Memᴰ.head refl)) inv))

  encode_inputs_logs : (ts : List Tm) (s : State) (log : List Thing) → ((u : Tm) → Memᴰ u ts → NeededTerm ins u) → Inv e ins s log
      → Ends (Logs e ins (λ l. Every (Done e l) ts) log) (Refusal ins) (encode_inputs e ts s)
  unfolding encode_inputs
  encode_inputs_logs [] s log need inv = goes (logs_same e ins inv every)
  encode_inputs_logs (t ∷ ts) s log need inv =
      ends_then (encode_term e t) (encode_inputs e ts) s
      (ends_map (λ s₁ a. ends_map (λ s₂ b. logs_then e ins a.0.grown b (λ ds. also (done_grows b.grown e t a.0.has) ds))
      (encode_inputs_logs ts s₁ a.0.later (λ u x. need u (Memᴰ.tail x)) a.0.inv))
      (encode_term_logs t s log (need t (Memᴰ.head refl)) inv))

  -- the walk over the inputs keeps the invariant with each input done, or stops at a needed term
  pub walk_logs : Ends (Logs e ins (λ l. Every (Done e l) ins) []) (Refusal ins) (encode_inputs e ins start)
  walk_logs = encode_inputs_logs ins start [] (λ u x. is_input x) (inv_start e ins)
