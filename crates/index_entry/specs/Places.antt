-- Texts at places of a body that was accepted, with no test.
-- Assumes nothing.
use Rattle.std.specs.Prelude.{◌≡◌, ℕ, zero, suc, List, [], ◌∷◌, drop}
use Rattle.script_spec.specs.Base.{Bytes}
use Rattle.index.specs.Lists.{number_at, first_text, text_size, texts}
use Rattle.index_entry.specs.declared.lists.Texts.{Texts}

-- n texts, each with a reference
unfoldable pub named_items : ℕ → Bytes → List (Bytes × ℕ)
named_items zero s = []
named_items (suc n) s = (first_text s, number_at (drop (text_size s) s) 0) ∷ named_items n (drop 4 (drop (text_size s) s))

-- the texts that are left
unfoldable pub texts_in : Texts → List Bytes
texts_in t = texts t.skip t.left (drop t.from t.body.now)

-- what is left after a text and so many bytes
unfoldable pub rest_after_text : ℕ → Bytes → Bytes
rest_after_text skip s = drop skip (drop (text_size s) s)

-- the place after the text at a place of a body
pub record PastText (body : Bytes) (at r : ℕ) : Type 0 where
  pub rest : drop r body ≡ drop (text_size (drop at body)) (drop at body)
